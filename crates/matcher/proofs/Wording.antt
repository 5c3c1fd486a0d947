-- Parameter texts, word by word.
use Rattle.std.proofs.Common.{◌≡◌, ℕ, zero, suc, ◌+◌, ◌-◌, ◌<◌, ◌≤◌, Bool, true, false, cond, ◌||◌, count_by, List, [], ◌∷◌, length, get_or, take, drop, sym, refl, ap, ◌∙◌, arith}
use Rattle.std.specs.List.{prefix_len, list_any}
use Rattle.std.proofs.lemmas.List.{length-take-le, length-drop, take_rest}
use Rattle.std.proofs.lemmas.List.Sums.{prefix_len-le-length}
use Rattle.tokens.specs.declared.token.Token.{Token}
use Rattle.tokens.specs.declared.stored.ParameterWord.{ParameterWord}
use Rattle.tokens.specs.declared.stored.ParameterWord.TheVariants as word
use Rattle.std.proofs.lemmas.List.Recursion.{is_count_by}
use Rattle.matching.specs.Braces.{is_close}
use Rattle.matching.specs.Dividing.{parameters_of}
use Rattle.matching.specs.Matching.{fewest}
use Rattle.matching.specs.Laws.{has_closing, parameters_in}
use Rattle.matcher.specs.Marks.{delimiter_in}
use Rattle.matcher.specs.Words.{is_token, is_parameter, is_closing, is_none}

pub fewest_cons : (d : List Token) (ds : List (List Token)) → fewest (d ∷ ds) ≡ cond (is_none d) 1 0 + fewest ds
fewest_cons [] ds = refl
fewest_cons (x ∷ d) ds = omega arith

pub fewest_short : (ws : List ParameterWord) → fewest (parameters_of ws).delimiters ≤ length ws
fewest_short [] = omega arith
fewest_short (word.Token t ∷ ws) = omega (arith, fewest_short ws)
fewest_short (word.Parameter ∷ ws) = omega (arith, fewest_cons (parameters_of ws).before (parameters_of ws).delimiters, fewest_short ws, one (is_none (parameters_of ws).before))
  where
    one : (b : Bool) → cond b 1 0 ≤ 1
    one true = omega arith
    one false = omega arith

pub parameters_drop : (k : ℕ) (ws : List ParameterWord) → parameters_in (drop k ws) ≤ parameters_in ws
parameters_drop zero ws = omega arith
parameters_drop (suc k) [] = omega arith
parameters_drop (suc k) (word.Token t ∷ ws) = parameters_drop k ws
parameters_drop (suc k) (word.Parameter ∷ ws) = omega (arith, parameters_drop k ws)

-- texts in the library's words
pub closing_any : (ws : List ParameterWord) → has_closing ws ≡ list_any is_closing ws
closing_any [] = refl
closing_any (word.Token t ∷ ws) = ap (λ (b : Bool). is_close t || b) (closing_any ws)
closing_any (word.Parameter ∷ ws) = closing_any ws

pub parameters_count : (ws : List ParameterWord) → parameters_in ws ≡ count_by is_parameter ws
parameters_count ws = is_count_by parameters_in is_parameter refl one ws
  where
    one : (w : ParameterWord) (us : List ParameterWord) → parameters_in (w ∷ us) ≡ cond (is_parameter w) (1 + parameters_in us) (parameters_in us)
    one (word.Token t) us = refl
    one word.Parameter us = refl

-- the tokens at the front of words, and the words behind them
pub run_long : (ws : List ParameterWord) → prefix_len is_token ws ≡ length (delimiter_in ws)
run_long [] = refl
run_long (word.Token t ∷ ws) = omega (arith, run_long ws)
run_long (word.Parameter ∷ ws) = refl

pub front_within : (ws : List ParameterWord) → length (delimiter_in ws) ≤ length ws
front_within ws = omega (arith, run_long ws, prefix_len-le-length is_token ws)

front_same : (ws : List ParameterWord) → delimiter_in (take (length (delimiter_in ws)) ws) ≡ delimiter_in ws
front_same [] = refl
front_same (word.Token t ∷ ws) = ap (λ ts. t ∷ ts) (front_same ws)
front_same (word.Parameter ∷ ws) = refl

pub front_whole : (ws : List ParameterWord) → length (delimiter_in (take (length (delimiter_in ws)) ws)) ≡ length (take (length (delimiter_in ws)) ws)
front_whole ws = omega (arith, ap length (front_same ws), length-take-le (length (delimiter_in ws)) ws (front_within ws))

suc_more : (i : ℕ) → suc (i + 1) ≡ suc i + 1
suc_more i = omega arith

-- tokens alone: each word is one
pub tokens_at : (ws : List ParameterWord) (i : ℕ) (d : ParameterWord) → length (delimiter_in ws) ≡ length ws → i < length ws → (x : Token) × (get_or ws i d ≡ word.Token x) × (delimiter_in (drop i ws) ≡ x ∷ delimiter_in (drop (i + 1) ws))
tokens_at [] i d h l = absurd (omega arith)
tokens_at (word.Token x ∷ ws) zero d h l = (x, refl, refl)
tokens_at (word.Token x ∷ ws) (suc i) d h l =
    let k = tokens_at ws i d (omega (arith, h)) (omega arith) in
    (k.0, k.1, k.2 ∙ ap (λ (n : ℕ). k.0 ∷ delimiter_in (drop n (word.Token x ∷ ws))) (suc_more i))
tokens_at (word.Parameter ∷ ws) i d h l = absurd (omega (arith, h))

behind_bare : (ws : List ParameterWord) → delimiter_in (drop (length (delimiter_in ws)) ws) ≡ []
behind_bare [] = refl
behind_bare (word.Token t ∷ ws) = behind_bare ws
behind_bare (word.Parameter ∷ ws) = refl

behind_delimiters : (ws : List ParameterWord) → (parameters_of (drop (length (delimiter_in ws)) ws)).delimiters ≡ (parameters_of ws).delimiters
behind_delimiters [] = refl
behind_delimiters (word.Token t ∷ ws) = behind_delimiters ws
behind_delimiters (word.Parameter ∷ ws) = refl

behind_parameters : (ws : List ParameterWord) → parameters_in (drop (length (delimiter_in ws)) ws) ≡ parameters_in ws
behind_parameters [] = refl
behind_parameters (word.Token t ∷ ws) = behind_parameters ws
behind_parameters (word.Parameter ∷ ws) = refl

-- words are divided into the tokens at their front and the words from the next parameter on
pub record Parted (ws front rest : List ParameterWord) : Type 0 where
  pub same : delimiter_in front ≡ delimiter_in ws
  pub bare : delimiter_in rest ≡ []
  pub later : (parameters_of rest).delimiters ≡ (parameters_of ws).delimiters
  pub parameters : parameters_in rest ≡ parameters_in ws
  pub short : length rest ≤ length ws

pub parted : (ws front : List ParameterWord) → front ≡ take (length (delimiter_in ws)) ws → Parted ws front (take (length ws - length front) (drop (length front) ws))
parted ws front e =
    let n : length front ≡ length (delimiter_in ws) = ap length e ∙ length-take-le (length (delimiter_in ws)) ws (front_within ws) in
    let r : take (length ws - length front) (drop (length front) ws) ≡ drop (length (delimiter_in ws)) ws = take_rest ws (length front) ∙ ap (λ (k : ℕ). drop k ws) n in
    record {
      same = ap delimiter_in e ∙ front_same ws;
      bare = ap delimiter_in r ∙ behind_bare ws;
      later = ap (λ (us : List ParameterWord). (parameters_of us).delimiters) r ∙ behind_delimiters ws;
      parameters = ap parameters_in r ∙ behind_parameters ws;
      short = omega (arith, ap length r, length-drop (length (delimiter_in ws)) ws);
    }

-- a word before which no token stands is a parameter
pub parameter_next : (ws rest : List ParameterWord) (w : ParameterWord) → ws ≡ w ∷ rest → delimiter_in ws ≡ [] → ws ≡ word.Parameter ∷ rest
parameter_next ws rest (word.Token t) e h = let z : t ∷ delimiter_in rest ≡ [] = sym (ap delimiter_in e) ∙ h in let y : ◌≡◌ {A = ℕ} 0 1 = cc in absurd (omega arith)
parameter_next ws rest word.Parameter e h = e

-- from one parameter to the next
module _ (ws behind front rest : List ParameterWord) (w : ParameterWord) (e : ws ≡ w ∷ behind) (bare : delimiter_in ws ≡ []) (p : Parted behind front rest) where
  pub next_delimiters : (parameters_of ws).delimiters ≡ delimiter_in front ∷ (parameters_of rest).delimiters
  next_delimiters =
      ap (λ (us : List ParameterWord). (parameters_of us).delimiters) (parameter_next ws behind w e bare)
      ∙ ap (λ (ds : List (List Token)). delimiter_in behind ∷ ds) (sym p.later)
      ∙ ap (λ (d : List Token). d ∷ (parameters_of rest).delimiters) (sym p.same)

  pub next_parameters : parameters_in ws ≡ 1 + parameters_in rest
  next_parameters = ap parameters_in (parameter_next ws behind w e bare) ∙ ap (λ (n : ℕ). 1 + n) (sym p.parameters)

pub fewest_tail : (d : List Token) (ds : List (List Token)) → fewest ds ≤ fewest (d ∷ ds)
fewest_tail d ds = omega (arith, fewest_cons d ds)

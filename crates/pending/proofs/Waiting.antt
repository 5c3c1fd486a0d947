-- The tokens that wait at the newest end are the end of the list that holds the tasks.
use Rattle.std.proofs.Common.{◌≡◌, ℕ, Bool, true, false, ◌+◌, ◌-◌, ◌<◌, ◌≤◌, List, [], ◌∷◌, ◌++◌, map, reverse, length, get_or, take, drop, sym, refl, ap, ◌∙◌, arith, length-append, length-drop, take_all}
use Rattle.std.proofs.lemmas.List.{append-nil, append_assoc, length-map, map-append, reverse-reverse, length_push, at_drop_more, at_drop_all}
use Rattle.std.specs.List.{prefix_len}
use Rattle.std.proofs.Math.Seq.{take-append_seam, drop-append_seam}
use Rattle.tokens.specs.declared.token.Token.{Token}
use Rattle.pending.specs.declared.task.Prefix.{Prefix}
use Rattle.pending.specs.declared.task.Task.{Task}
use Rattle.pending.specs.declared.task.Task.TheVariants as task
use Rattle.pending.specs.declared.task.Task.TheVariants.{After}
use Rattle.pending.specs.Underway.{waiting_of, beyond_waiting}
use Rattle.pending.proofs.Ends.{pushed, fronted}

-- the oldest of the waiting tokens comes first
pub waiting_order : (v w : Token) (p : Prefix) (ts : List Task) → waiting_of (After v ∷ After w ∷ task.Prefix p ∷ ts) ≡ w ∷ v ∷ []
waiting_order v w p ts = refl

pub waiting_count : (ts : List Task) → length (waiting_of ts) + length (beyond_waiting ts) ≡ length ts
waiting_count [] = refl
waiting_count (After t ∷ ts) = omega (arith, waiting_count ts, length_push (waiting_of ts) t)
waiting_count (task.Prefix p ∷ ts) = omega arith

split : (ts : List Task) → reverse ts ≡ reverse (beyond_waiting ts) ++ map After (waiting_of ts)
split [] = refl
split (After t ∷ ts) =
    fronted (After t) ts
    ∙ ap (λ l. l ++ (After t ∷ [])) (split ts)
    ∙ append_assoc (reverse (beyond_waiting ts)) (map After (waiting_of ts)) (After t ∷ [])
    ∙ ap (λ l. reverse (beyond_waiting ts) ++ l) (sym (map-append After (waiting_of ts) (t ∷ [])))
split (task.Prefix p ∷ ts) = sym (append-nil (reverse (task.Prefix p ∷ ts)))

-- the tokens of tasks, in their order
abbrev pub tokens_in : List Task → List Token
tokens_in [] = []
tokens_in (After t ∷ ts) = t ∷ tokens_in ts
tokens_in (task.Prefix p ∷ ts) = tokens_in ts

tokens_after : (ws : List Token) → tokens_in (map After ws) ≡ ws
tokens_after [] = refl
tokens_after (w ∷ ws) = ap (λ l. w ∷ l) (tokens_after ws)

-- of a list that holds the tasks, the newest last
module _ (xs : List Task) where
  old : List Task
  old = reverse (beyond_waiting (reverse xs))

  parted : xs ≡ old ++ map After (waiting_of (reverse xs))
  unfolding old
  parted = sym (reverse-reverse xs) ∙ split (reverse xs)

  parted_count : length old + length (waiting_of (reverse xs)) ≡ length xs
  parted_count = sym (ap length parted ∙ length-append old (map After (waiting_of (reverse xs))) ∙ ap (λ n. length old + n) (length-map (waiting_of (reverse xs)) After))

  pub waiting_within : length (waiting_of (reverse xs)) ≤ length xs
  waiting_within = omega (arith, parted_count)

  old_count : length xs - length (waiting_of (reverse xs)) ≡ length old
  old_count = omega (arith, parted_count)

  pub kept_tasks : reverse (take (length xs - length (waiting_of (reverse xs))) xs) ≡ beyond_waiting (reverse xs)
  unfolding old
  kept_tasks =
      ap (λ n. reverse (take n xs)) old_count
      ∙ ap (λ l. reverse (take (length old) l)) parted
      ∙ ap reverse (take-append_seam old (map After (waiting_of (reverse xs))))
      ∙ reverse-reverse (beyond_waiting (reverse xs))

  pub waiting_tokens : tokens_in (drop (length xs - length (waiting_of (reverse xs))) xs) ≡ waiting_of (reverse xs)
  waiting_tokens =
      ap (λ n. tokens_in (drop n xs)) old_count
      ∙ ap (λ l. tokens_in (drop (length old) l)) parted
      ∙ ap tokens_in (drop-append_seam old (map After (waiting_of (reverse xs))))
      ∙ tokens_after (waiting_of (reverse xs))

  -- the same part, as a slice from a place on
  pub waiting_part : (n : ℕ) → n ≡ length xs - length (waiting_of (reverse xs)) → tokens_in (take (length xs - n) (drop n xs)) ≡ waiting_of (reverse xs)
  waiting_part n e = ap tokens_in (take_all (length xs - n) (drop n xs) (omega (arith, length-drop n xs))) ∙ ap (λ k. tokens_in (drop k xs)) e ∙ waiting_tokens

-- the tokens that wait, counted from the newest on
abbrev pub waits : Task → Bool
waits (After t) = true
waits (task.Prefix p) = false

pub waiting_length : (ts : List Task) → prefix_len waits ts ≡ length (waiting_of ts)
waiting_length [] = refl
waiting_length (After t ∷ ts) = omega (arith, waiting_length ts, length_push (waiting_of ts) t)
waiting_length (task.Prefix p ∷ ts) = refl

-- a list gone through from its end
module _ (rest less : List Task) where
  pub after_counts : (t : Token) → rest ≡ less ++ (After t ∷ []) → length (waiting_of (reverse rest)) ≡ length (waiting_of (reverse less)) + 1
  after_counts t e = ap (λ l. length (waiting_of (reverse l))) e ∙ ap (λ l. length (waiting_of l)) (pushed less (After t)) ∙ length_push (waiting_of (reverse less)) t

  pub prefix_counts : (p : Prefix) → rest ≡ less ++ (task.Prefix p ∷ []) → length (waiting_of (reverse rest)) ≡ 0
  prefix_counts p e = ap (λ l. length (waiting_of (reverse l))) e ∙ ap (λ l. length (waiting_of l)) (pushed less (task.Prefix p))

pub none_counts : (rest : List Task) → length rest ≡ 0 → length (waiting_of (reverse rest)) ≡ 0
none_counts [] h = refl
none_counts (t ∷ ts) h = absurd (omega arith)

-- a copy of the tokens, from a place on: what is copied, then what is left
module _ (xs : List Task) (i : ℕ) (copied all : List Token) where
  pub copy_token : (d : Task) (t : Token) (after : List Token) → i < length xs → get_or xs i d ≡ After t → after ≡ copied ++ (t ∷ []) → copied ++ tokens_in (drop i xs) ≡ all → after ++ tokens_in (drop (i + 1) xs) ≡ all
  copy_token d t after h e f k =
      let rest = tokens_in (drop (i + 1) xs) in
      let next : tokens_in (drop i xs) ≡ t ∷ rest = at_drop_more tokens_in xs i d h ∙ ap (λ x. tokens_in (x ∷ drop (i + 1) xs)) e in
      ap (λ l. l ++ rest) f ∙ append_assoc copied (t ∷ []) rest ∙ ap (λ l. copied ++ l) (sym next) ∙ k

  pub copy_none : (d : Task) (p : Prefix) (after : List Token) → i < length xs → get_or xs i d ≡ task.Prefix p → after ≡ copied → copied ++ tokens_in (drop i xs) ≡ all → after ++ tokens_in (drop (i + 1) xs) ≡ all
  copy_none d p after h e f k =
      let next : tokens_in (drop i xs) ≡ tokens_in (drop (i + 1) xs) = at_drop_more tokens_in xs i d h ∙ ap (λ x. tokens_in (x ∷ drop (i + 1) xs)) e in
      ap (λ l. l ++ tokens_in (drop (i + 1) xs)) f ∙ ap (λ l. copied ++ l) (sym next) ∙ k

  pub copy_done : length xs ≤ i → copied ++ tokens_in (drop i xs) ≡ all → copied ≡ all
  copy_done h k = sym (append-nil copied) ∙ ap (λ l. copied ++ l) (sym (at_drop_all tokens_in xs i h)) ∙ k

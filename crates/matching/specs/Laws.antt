-- The laws of dividing a call's tokens into arguments.
--   NoneCloses   no delimiter holds a closing brace
--   Lawful       what the laws ask of parameters: that, and not too many of them
--   has_closing, parameters_in  whether a parameter text holds a closing brace; how many parameters it has
--   Begun        tokens that begin with the text before
--   Shaped       tokens that have the shape of a call, whatever its arguments hold and however long they are
--   Permitting   the same, where the arguments are permitted, however long they are
--   Divisible    tokens that divide
--   Possible     some tokens may follow so that all of them are such
--   Impossible   whatever follows, they are not
--   Reason       why a refusal comes behind some tokens: the first of the four, in this order, that is impossible
--   Laws         the laws of a macro with some parameters, long or not
--   TextLaws     the laws of a parameter text and its parameters
use Rattle.std.specs.Prelude.{◌≡◌, ℕ, ◌+◌, ◌≤◌, Bool, false, ◌||◌, List, [], ◌∷◌, ◌++◌, length}
use Rattle.tokens.specs.declared.token.Token.{Token}
use Rattle.tokens.specs.declared.stored.ParameterWord.{ParameterWord}
use Rattle.tokens.specs.declared.stored.ParameterWord.TheVariants as word
use Rattle.matching.specs.declared.refusal.MatcherRefusal.{MatcherRefusal}
use Rattle.matching.specs.declared.refusal.MatcherRefusal.TheVariants.{Differs, Unmatched, Par, TooLong}
use Rattle.matching.specs.Braces.{is_close, has_close}
use Rattle.matching.specs.Dividing.{Parameters, parameters_of, text_of, Shape, AllPermitted, Division, most}
use Rattle.matching.specs.Matching.{Phase, matched, refused, still, over, begin, matching}

abbrev pub NoneCloses : List (List Token) → Type 0
NoneCloses [] = Unit {0}
NoneCloses (d ∷ ds) = (has_close d ≡ false) × NoneCloses ds

abbrev pub Lawful : Parameters → Type 0
Lawful p = NoneCloses p.delimiters × (length p.delimiters ≤ most)

abbrev pub has_closing : List ParameterWord → Bool
has_closing [] = false
has_closing (word.Token t ∷ ws) = is_close t || has_closing ws
has_closing (word.Parameter ∷ ws) = has_closing ws

abbrev pub parameters_in : List ParameterWord → ℕ
parameters_in [] = 0
parameters_in (word.Token t ∷ ws) = parameters_in ws
parameters_in (word.Parameter ∷ ws) = 1 + parameters_in ws

abbrev pub Begun : Parameters → List Token → Type 0
Begun p ts = (rest : List Token) × (ts ≡ p.before ++ rest)

abbrev pub Shaped : Parameters → List Token → Type 0
Shaped p ts = (args : List (List Token)) × (n : ℕ) × Shape p ts args n

abbrev pub Permitting : Parameters → Bool → List Token → Type 0
Permitting p long ts = (args : List (List Token)) × (n : ℕ) × Shape p ts args n × AllPermitted long args

abbrev pub Divisible : Parameters → Bool → List Token → Type 0
Divisible p long ts = (args : List (List Token)) × Division p long ts args

abbrev pub Possible : (List Token → Type 0) → List Token → Type 0
Possible C ts = (more : List Token) × C (ts ++ more)

abbrev pub Impossible : (List Token → Type 0) → List Token → Type 0
Impossible C ts = (more : List Token) → C (ts ++ more) → ⊥

abbrev pub Reason : Parameters → Bool → List Token → MatcherRefusal → Type 0
Reason p long ts Differs = Impossible (Begun p) ts
Reason p long ts Unmatched = Possible (Begun p) ts × Impossible (Shaped p) ts
Reason p long ts Par = Possible (Shaped p) ts × Impossible (Permitting p long) ts
Reason p long ts TooLong = Possible (Permitting p long) ts × Impossible (Divisible p long) ts

pub record Laws (p : Parameters) (long : Bool) : Type 0 where
  -- of one stream of tokens at most one front divides, and in one way
  pub unique : (ts us more rest : List Token) (args others : List (List Token)) → Division p long ts args → Division p long us others → ts ++ more ≡ us ++ rest → (ts ≡ us) × (args ≡ others)
  -- what is matched is that division
  pub answer : (ts : List Token) (args : List (List Token)) → matching long (begin p) ts ≡ over (matched args) [] → Division p long ts args
  -- and a division is matched, at its last token
  pub found : (ts : List Token) (args : List (List Token)) → Division p long ts args → matching long (begin p) ts ≡ over (matched args) []
  -- while it is on a division is possible
  pub live : (ts : List Token) (h : Phase) → matching long (begin p) ts ≡ still h → Possible (Divisible p long) ts
  -- before the token of a refusal a division was possible, and with it none is
  pub possible_before : (ts : List Token) (t : Token) (r : MatcherRefusal) → matching long (begin p) (ts ++ t ∷ []) ≡ over (refused r) [] → Possible (Divisible p long) ts
  pub impossible_at : (ts : List Token) (t : Token) (r : MatcherRefusal) → matching long (begin p) (ts ++ t ∷ []) ≡ over (refused r) [] → Impossible (Divisible p long) (ts ++ t ∷ [])
  -- which refusal it is
  pub reason : (ts : List Token) (t : Token) (r : MatcherRefusal) → matching long (begin p) (ts ++ t ∷ []) ≡ over (refused r) [] → Reason p long (ts ++ t ∷ []) r

pub record TextLaws (text : List ParameterWord) : Type 0 where
  -- the parameters say all of the text
  pub whole : text_of (parameters_of text) ≡ text
  -- a text of at most nine parameters and no closing brace is one that the laws speak of
  pub lawful : has_closing text ≡ false → parameters_in text ≤ 9 → Lawful (parameters_of text)

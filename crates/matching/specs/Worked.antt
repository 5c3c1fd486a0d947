-- Worked cases: what comes of some tokens, for a macro with some parameter text.
--   called        the steps at the tokens of a call
--   counting      the progress of a call whose finished arguments count for some tokens, with no argument kept
--   WorkedCases   the cases
use Rattle.std.specs.Prelude.{◌≡◌, ℕ, Bool, true, false, List, [], ◌∷◌}
use Rattle.tokens.specs.declared.token_category.TokenCategory.TheVariants.{Open, Close, Space, Letter}
use Rattle.tokens.specs.declared.token.Token.{Token}
use Rattle.tokens.specs.declared.token.Token.TheVariants.{Name, Character}
use Rattle.tokens.specs.declared.stored.ParameterWord.{ParameterWord}
use Rattle.tokens.specs.declared.stored.ParameterWord.TheVariants as word
use Rattle.matching.specs.declared.refusal.MatcherRefusal.TheVariants.{Differs, Unmatched, Par, TooLong}
use Rattle.matching.specs.Dividing.{parameters_of}
use Rattle.matching.specs.Matching.{on, skipping, in_run, Progress, Run, over, matched, refused, begin, matching}

abbrev pub called : Bool → List ParameterWord → List Token → Run
called long text ts = matching long (begin (parameters_of text)) ts

abbrev a : Token
a = Character Letter 97

abbrev b : Token
b = Character Letter 98

abbrev x : Token
x = Character Letter 120

abbrev o : Token
o = Character Open 123

abbrev c : Token
c = Character Close 125

abbrev blank : Token
blank = Character Space 32

abbrev par : Token
par = Name 257

abbrev one : ParameterWord
one = word.Parameter

abbrev w : Token → ParameterWord
w t = word.Token t

abbrev takes : List (List Token) → List Token → Run
takes args left = over (matched args) left

abbrev pub counting : ℕ → List (List Token) → Progress
counting n ds = record { finished = []; counted = n; later = ds }

-- one parameter delimited by a a b, by x, by \par x
abbrev aab : List ParameterWord
aab = one ∷ w a ∷ w a ∷ w b ∷ []

abbrev upto_x : List ParameterWord
upto_x = one ∷ w x ∷ []

abbrev upto_par_x : List ParameterWord
upto_par_x = one ∷ w par ∷ w x ∷ []

pub record WorkedCases : Type 0 where
  -- nothing to match: matched before a token is read
  pub nothing : called false [] (a ∷ []) ≡ takes [] (a ∷ [])
  pub shifted : called false aab (x ∷ a ∷ a ∷ a ∷ b ∷ x ∷ []) ≡ takes ((x ∷ a ∷ []) ∷ []) (x ∷ [])
  -- a delimiter inside braces is none
  pub nested : called false upto_x (a ∷ o ∷ o ∷ x ∷ c ∷ x ∷ c ∷ b ∷ x ∷ []) ≡ takes ((a ∷ o ∷ o ∷ x ∷ c ∷ x ∷ c ∷ b ∷ []) ∷ []) []
  pub empty : called false upto_x (x ∷ x ∷ []) ≡ takes ([] ∷ []) (x ∷ [])
  pub empty_group : called false (one ∷ []) (o ∷ c ∷ []) ≡ takes ([] ∷ []) []
  pub two_groups : called false upto_x (o ∷ a ∷ c ∷ o ∷ b ∷ c ∷ x ∷ []) ≡ takes ((o ∷ a ∷ c ∷ o ∷ b ∷ c ∷ []) ∷ []) []
  pub one_group : called false upto_x (o ∷ a ∷ c ∷ x ∷ []) ≡ takes ((a ∷ []) ∷ []) []
  -- blanks before an undelimited argument are skipped, before a delimited one not
  pub blanks : called false (one ∷ one ∷ w x ∷ []) (blank ∷ blank ∷ a ∷ blank ∷ x ∷ []) ≡ takes ((a ∷ []) ∷ (blank ∷ []) ∷ []) []
  pub before : called false (w a ∷ w b ∷ one ∷ []) (a ∷ b ∷ o ∷ a ∷ o ∷ c ∷ c ∷ []) ≡ takes ((a ∷ o ∷ c ∷ []) ∷ []) []
  pub differs : called false (w a ∷ w b ∷ one ∷ []) (a ∷ x ∷ b ∷ []) ≡ over (refused Differs) (b ∷ [])
  pub unmatched : called false upto_x (a ∷ c ∷ x ∷ []) ≡ over (refused Unmatched) (x ∷ [])
  pub unmatched_single : called true (one ∷ []) (blank ∷ c ∷ []) ≡ over (refused Unmatched) []
  pub par_single : called false (one ∷ []) (par ∷ []) ≡ over (refused Par) []
  pub par_long : called true upto_x (par ∷ x ∷ []) ≡ takes ((par ∷ []) ∷ []) []
  -- \par in a delimiter: it completes, or it is refused at the token by which it cannot
  pub par_completes : called false upto_par_x (a ∷ par ∷ x ∷ []) ≡ takes ((a ∷ []) ∷ []) []
  pub par_fails : called false upto_par_x (a ∷ par ∷ a ∷ x ∷ []) ≡ over (refused Par) (x ∷ [])
  -- an unmatched brace is told before \par, where one token makes both certain
  pub unmatched_first : called false upto_par_x (par ∷ c ∷ x ∷ []) ≡ over (refused Unmatched) (x ∷ [])
  -- 4,096 tokens: a group counts with its braces, and is refused when it cannot close in time
  pub last_token : matching false (on (skipping (counting 4095 []))) (a ∷ []) ≡ takes ((a ∷ []) ∷ []) []
  pub group_too_long : matching false (on (skipping (counting 4094 []))) (o ∷ a ∷ c ∷ []) ≡ over (refused TooLong) (c ∷ [])
  -- each undelimited parameter behind takes one at least
  pub none_left_behind : matching false (on (in_run (counting 4095 ([] ∷ [])) (x ∷ []) [])) (a ∷ x ∷ []) ≡ over (refused TooLong) (x ∷ [])
  -- a delimiter does not count
  pub delimiter_free : matching false (on (in_run (counting 4096 []) (a ∷ b ∷ []) [])) (a ∷ b ∷ []) ≡ takes ([] ∷ []) []
  -- nothing here hinders a delimiter whose last token is an opening brace
  pub brace_last : called false (one ∷ w a ∷ w o ∷ []) (x ∷ a ∷ a ∷ o ∷ b ∷ []) ≡ takes ((x ∷ a ∷ []) ∷ []) (b ∷ [])

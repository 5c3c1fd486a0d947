-- Places in the tokens of a delimited argument.
--   delimiter_in   the delimiter at the front of some words: the tokens up to the next parameter
--   begins         whether a token is the first of some tokens
--   Marked         a mark is in some tokens, with its depth, and tells of the name 257 what stands behind another place
--   moved          a mark behind the next token; none where that closes a brace that was not opened
use Rattle.std.specs.Prelude.{◌≡◌, ℕ, ◌+◌, ◌≤◌, Bool, false, ◌||◌, List, [], ◌∷◌, length, take, Some, Option}
use Rattle.std.specs.Option.{option_map}
use Rattle.tokens.specs.declared.token.Token.{Token}
use Rattle.tokens.specs.declared.stored.ParameterWord.{ParameterWord}
use Rattle.matching.specs.Braces.{is_par, has_par, same_token, passed, deeper}
use Rattle.matching.specs.Dividing.{parameters_of}
use Rattle.matcher.specs.declared.mark.Mark.{Mark}

abbrev pub delimiter_in : List ParameterWord → List Token
delimiter_in ws = (parameters_of ws).before

abbrev pub begins : Token → List Token → Bool
begins t [] = false
begins t (d ∷ ds) = same_token t d

pub record Marked (run : List Token) (from : ℕ) (m : Mark) : Type 0 where
  pub within : m.at ≤ length run
  pub behind : from ≤ m.at
  pub small : m.depth ≤ m.at
  pub deep : deeper 0 (take m.at run) ≡ Some m.depth
  pub told : has_par (take m.at run) ≡ (has_par (take from run) || m.par)

abbrev pub moved : Mark → Token → Option Mark
moved m t = option_map (λ (n : ℕ). record { at = m.at + 1; depth = n; par = m.par || is_par t }) (passed (Some m.depth) t)

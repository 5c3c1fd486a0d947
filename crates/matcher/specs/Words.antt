-- Parameter texts by their words.
--   may_be     whether words are a parameter text that a macro may have: at most 2,048 words and nine parameters, and no closing brace
--   is_token, is_parameter, is_closing  whether a word is a token, a parameter, a closing brace
--   is_none    whether there are no tokens
use Rattle.std.specs.Prelude.{Bool, true, false, not, ◌&&◌, List, [], ◌∷◌, length, nat_le}
use Rattle.tokens.specs.declared.token.Token.{Token}
use Rattle.tokens.specs.declared.stored.ParameterWord.{ParameterWord}
use Rattle.tokens.specs.declared.stored.ParameterWord.TheVariants as word
use Rattle.matching.specs.Braces.{is_close}
use Rattle.matching.specs.Laws.{has_closing, parameters_in}

abbrev pub may_be : List ParameterWord → Bool
may_be ws = nat_le (length ws) 2048 && (nat_le (parameters_in ws) 9 && not (has_closing ws))

abbrev pub is_token : ParameterWord → Bool
is_token (word.Token t) = true
is_token word.Parameter = false

abbrev pub is_parameter : ParameterWord → Bool
is_parameter (word.Token t) = false
is_parameter word.Parameter = true

abbrev pub is_closing : ParameterWord → Bool
is_closing (word.Token t) = is_close t
is_closing word.Parameter = false

abbrev pub is_none : List Token → Bool
is_none [] = true
is_none (t ∷ ts) = false

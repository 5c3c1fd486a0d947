-- What tokens mean and are.
--   Meanings            what each name means
--   meaning             what a token means: a name by these, a character itself
--   is_hash, is_space   whether it means a character of category 6, of category 10
--   is_equals, is_quote the explicit characters = and ` of category 12
--   digit_of            the digit of an explicit character of category 12
--   is_digit            whether it is the explicit digit of a number
--   same_meaning        whether two meanings agree: macros do if long, parameter text and body do
use Rattle.std.specs.Prelude.{ℕ, ◌+◌, ◌-◌, Bool, true, false, cond, not, ◌&&◌, List, [], ◌∷◌, Some, None, Option, ◌==◌, nat_le}
use Rattle.tokens.specs.declared.token.Token.{Token}
use Rattle.tokens.specs.declared.token.Token.TheVariants.{Name, Character}
use Rattle.tokens.specs.declared.stored.ParameterWord.{ParameterWord}
use Rattle.tokens.specs.declared.stored.ParameterWord.TheVariants as parameter
use Rattle.tokens.specs.declared.stored.BodyWord.{BodyWord}
use Rattle.tokens.specs.declared.stored.BodyWord.TheVariants as body
use Rattle.tokens.specs.Categories.{token_number_of}
use Rattle.book.specs.Meanings.{Means, undefined, primitive, character, macro}
use Rattle.book.specs.Primitives.{primitive_number}
use Rattle.matching.specs.Braces.{same_token}

abbrev pub Meanings : Type 0
Meanings = ℕ → Means

abbrev pub meaning : Meanings → Token → Means
meaning f (Name n) = f n
meaning f (Character c x) = character c x

-- whether it is a character of a category
abbrev pub is_character : ℕ → Means → Bool
is_character k undefined = false
is_character k (primitive p) = false
is_character k (character c x) = token_number_of c == k
is_character k (macro l ps bs) = false

abbrev pub is_hash : Meanings → Token → Bool
is_hash f t = is_character 6 (meaning f t)

abbrev pub is_space : Meanings → Token → Bool
is_space f t = is_character 10 (meaning f t)

-- explicit characters

abbrev pub is_explicit : ℕ → ℕ → Token → Bool
is_explicit k x (Name n) = false
is_explicit k x (Character c y) = token_number_of c == k && y == x

abbrev pub is_explicit_space : Token → Bool
is_explicit_space (Name n) = false
is_explicit_space (Character c x) = token_number_of c == 10

abbrev pub is_equals : Token → Bool
is_equals t = is_explicit 12 61 t

abbrev pub is_quote : Token → Bool
is_quote t = is_explicit 12 96 t

abbrev pub digit_of : Token → Option ℕ
digit_of (Name n) = None
digit_of (Character c x) = cond (token_number_of c == 12 && (nat_le 48 x && nat_le x 57)) (Some (x - 48)) None

abbrev pub is_digit : ℕ → Token → Bool
is_digit d t = is_explicit 12 (48 + d) t

-- meanings

abbrev pub same_bool : Bool → Bool → Bool
same_bool true b = b
same_bool false b = not b

abbrev pub same_parameter_word : ParameterWord → ParameterWord → Bool
same_parameter_word (parameter.Token t) (parameter.Token u) = same_token t u
same_parameter_word (parameter.Token t) parameter.Parameter = false
same_parameter_word parameter.Parameter (parameter.Token u) = false
same_parameter_word parameter.Parameter parameter.Parameter = true

abbrev pub same_body_word : BodyWord → BodyWord → Bool
same_body_word (body.Token t) (body.Token u) = same_token t u
same_body_word (body.Token t) (body.Reference n) = false
same_body_word (body.Reference n) (body.Token u) = false
same_body_word (body.Reference n) (body.Reference m) = n == m

abbrev pub same_list : {X : Type 0} → (X → X → Bool) → List X → List X → Bool
same_list same [] [] = true
same_list same [] (y ∷ ys) = false
same_list same (x ∷ xs) [] = false
same_list same (x ∷ xs) (y ∷ ys) = same x y && same_list same xs ys

abbrev pub same_meaning : Means → Means → Bool
same_meaning undefined undefined = true
same_meaning undefined (primitive q) = false
same_meaning undefined (character d y) = false
same_meaning undefined (macro m ps bs) = false
same_meaning (primitive p) undefined = false
same_meaning (primitive p) (primitive q) = primitive_number p == primitive_number q
same_meaning (primitive p) (character d y) = false
same_meaning (primitive p) (macro m ps bs) = false
same_meaning (character c x) undefined = false
same_meaning (character c x) (primitive q) = false
same_meaning (character c x) (character d y) = token_number_of c == token_number_of d && x == y
same_meaning (character c x) (macro m ps bs) = false
same_meaning (macro l os cs) undefined = false
same_meaning (macro l os cs) (primitive q) = false
same_meaning (macro l os cs) (character d y) = false
same_meaning (macro l os cs) (macro m ps bs) = same_bool l m && (same_list same_parameter_word os ps && same_list same_body_word cs bs)

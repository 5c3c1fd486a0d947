-- A macro's body with arguments in the place of its references.
--   or_none        the tokens that there are, or none
--   argument_at    the argument of a reference, from 1; none beyond
--   word_tokens    the tokens that a word of a body gives
--   substituted    the tokens that a body gives
--   expansion_of   the tokens that an expansion holds
use Rattle.std.specs.Prelude.{ℕ, zero, suc, List, [], ◌∷◌, ◌++◌, Some, None, vec_items, Option}
use Rattle.std.specs.List.{slice_get}
use Rattle.tokens.specs.declared.token.Token.{Token}
use Rattle.tokens.specs.declared.stored.BodyWord.{BodyWord}
use Rattle.tokens.specs.declared.stored.BodyWord.TheVariants as word
use Rattle.expanding.specs.declared.expansion.Expansion.{Expansion}

abbrev pub or_none : Option (List Token) → List Token
or_none None = []
or_none (Some a) = a

abbrev pub argument_at : List (List Token) → ℕ → List Token
argument_at args zero = []
argument_at args (suc n) = or_none (slice_get args n)

abbrev pub word_tokens : List (List Token) → BodyWord → List Token
word_tokens args (word.Token t) = t ∷ []
word_tokens args (word.Reference n) = argument_at args n

abbrev pub substituted : List (List Token) → List BodyWord → List Token
substituted args [] = []
substituted args (w ∷ ws) = word_tokens args w ++ substituted args ws

abbrev pub expansion_of : Expansion → List Token
expansion_of e = vec_items e.tokens.held

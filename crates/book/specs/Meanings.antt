-- What a meaning says, wherever its words lie.
--   Means      undefined, a primitive, a character, or a macro: long or not, its parameter text and its body
--   plain      what a meaning without words says
--   part       the words of a span
--   means_of   what a held meaning says, by the words of parameter texts and of bodies
--   shown      what an answer says
--   within     the spans of a held meaning lie in so many words of parameter texts and of bodies
use Rattle.std.specs.Prelude.{ℕ, ◌+◌, Bool, true, ◌&&◌, List, take, drop, nat_le}
use Rattle.tokens.specs.declared.token_category.TokenCategory.{TokenCategory}
use Rattle.book.specs.declared.meaning.Primitive.{Primitive}
use Rattle.tokens.specs.declared.stored.ParameterWord.{ParameterWord}
use Rattle.tokens.specs.declared.stored.BodyWord.{BodyWord}
use Rattle.book.specs.declared.meaning.Span.{Span}
use Rattle.book.specs.declared.meaning.Plain.{Plain}
use Rattle.book.specs.declared.meaning.Plain.TheVariants as of_plain
use Rattle.book.specs.declared.meaning.Held.{Held}
use Rattle.book.specs.declared.meaning.Held.TheVariants as of_held
use Rattle.book.specs.declared.meaning.Meaning.{Meaning}
use Rattle.book.specs.declared.meaning.Meaning.TheVariants as of_meaning

pub data Means : Type 0 where
  undefined : Means
  primitive : Primitive → Means
  character : TokenCategory → ℕ → Means
  macro : Bool → List ParameterWord → List BodyWord → Means

abbrev pub plain : Plain → Means
plain of_plain.Undefined = undefined
plain (of_plain.Primitive p) = primitive p
plain (of_plain.Character c b) = character c b

abbrev pub part : {X : Type 0} → Span → List X → List X
part s xs = take s.count (drop s.start xs)

abbrev pub means_of : List ParameterWord → List BodyWord → Held → Means
means_of ps bs (of_held.Plain x) = plain x
means_of ps bs (of_held.Macro m) = macro m.long (part m.parameters ps) (part m.body bs)

abbrev pub shown : Meaning → Means
shown of_meaning.Undefined = undefined
shown (of_meaning.Primitive p) = primitive p
shown (of_meaning.Character c b) = character c b
shown (of_meaning.Macro m) = macro m.long m.parameters.now m.body.now

abbrev pub within : ℕ → ℕ → Held → Bool
within p b (of_held.Plain x) = true
within p b (of_held.Macro m) = nat_le (m.parameters.start + m.parameters.count) p && nat_le (m.body.start + m.body.count) b

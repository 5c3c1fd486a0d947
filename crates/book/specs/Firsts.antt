-- What names mean at first.
--   plain_first      a primitive's meaning, or undefined
--   first_means      names 256 to 271 their primitives, all others nothing
use Rattle.std.specs.Prelude.{ℕ, Some, None, Option}
use Rattle.book.specs.declared.meaning.Primitive.{Primitive}
use Rattle.book.specs.declared.meaning.Plain.{Plain}
use Rattle.book.specs.declared.meaning.Plain.TheVariants as of_plain
use Rattle.book.specs.Primitives.{primitive_of}
use Rattle.book.specs.Meanings.{Means, plain}

abbrev pub plain_first : Option Primitive → Plain
plain_first None = of_plain.Undefined
plain_first (Some p) = of_plain.Primitive p

abbrev pub first_means : ℕ → Means
first_means n = plain (plain_first (primitive_of n))

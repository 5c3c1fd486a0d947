-- Skipping: tokens are read without expansion, and nested conditionals are counted by meaning.
--   Mark        what a token is to a skip: it begins a conditional, is an \else, ends one, or none of these
--   mark_of     the mark of a meaning
--   skip_feed   one token skipped, some conditionals having begun inside
use Rattle.std.specs.Prelude.{ℕ, zero, suc}
use Rattle.tokens.specs.declared.token.Token.{Token}
use Rattle.matching.specs.Matching.{Move, on, out}
use Rattle.book.specs.declared.meaning.Primitive.{Primitive}
use Rattle.book.specs.declared.meaning.Primitive.TheVariants.{Relax, Par, Def, Gdef, Let, Global, Long, Catcode, BeginGroup, EndGroup, ExpandAfter, Ifx, IfTrue, IfFalse, Else, Fi}
use Rattle.book.specs.Meanings.{Means, undefined, primitive, character, macro}
use Rattle.rules.specs.declared.phases.Until.{Until}
use Rattle.rules.specs.declared.phases.Until.TheVariants.{ElseOrFi, OnlyFi}
use Rattle.rules.specs.declared.phases.Found.{Found}
use Rattle.rules.specs.declared.phases.Found.TheVariants as found
use Rattle.rules.specs.Tokens.{Meanings, meaning}

pub data Mark : Type 0 where
  begins turns closes plain : Mark

abbrev pub primitive_mark : Primitive → Mark
primitive_mark Relax = plain
primitive_mark Par = plain
primitive_mark Def = plain
primitive_mark Gdef = plain
primitive_mark Let = plain
primitive_mark Global = plain
primitive_mark Long = plain
primitive_mark Catcode = plain
primitive_mark BeginGroup = plain
primitive_mark EndGroup = plain
primitive_mark ExpandAfter = plain
primitive_mark Ifx = begins
primitive_mark IfTrue = begins
primitive_mark IfFalse = begins
primitive_mark Else = turns
primitive_mark Fi = closes

abbrev pub mark_of : Means → Mark
mark_of undefined = plain
mark_of (primitive p) = primitive_mark p
mark_of (character c x) = plain
mark_of (macro l ps bs) = plain

abbrev pub skip_by : Until → ℕ → Mark → Move ℕ Found
skip_by u d plain = on d
skip_by u d begins = on (suc d)
skip_by u (suc d) closes = on d
skip_by u zero closes = out found.Fi
skip_by u (suc d) turns = on (suc d)
skip_by ElseOrFi zero turns = out found.Else
skip_by OnlyFi zero turns = on zero

abbrev pub skip_feed : Meanings → Until → ℕ → Token → Move ℕ Found
skip_feed f u d t = skip_by u d (mark_of (meaning f t))

-- The primitives and their numbers.
--   primitive_number   the number of the name that means a primitive at first
--   primitive_of       the same back
use Rattle.std.specs.Prelude.{ℕ, cond, Some, None, Option, ◌==◌}
use Rattle.book.specs.declared.meaning.Primitive.{Primitive}
use Rattle.book.specs.declared.meaning.Primitive.TheVariants.{Relax, Par, Def, Gdef, Let, Global, Long, Catcode, BeginGroup, EndGroup, ExpandAfter, Ifx, IfTrue, IfFalse, Else, Fi}

abbrev pub primitive_number : Primitive → ℕ
primitive_number Relax = 256
primitive_number Par = 257
primitive_number Def = 258
primitive_number Gdef = 259
primitive_number Let = 260
primitive_number Global = 261
primitive_number Long = 262
primitive_number Catcode = 263
primitive_number BeginGroup = 264
primitive_number EndGroup = 265
primitive_number ExpandAfter = 266
primitive_number Ifx = 267
primitive_number IfTrue = 268
primitive_number IfFalse = 269
primitive_number Else = 270
primitive_number Fi = 271

abbrev pub primitive_of : ℕ → Option Primitive
primitive_of n =
    cond (n == 256) (Some Relax) (cond (n == 257) (Some Par) (cond (n == 258) (Some Def) (cond (n == 259) (Some Gdef)
    (cond (n == 260) (Some Let) (cond (n == 261) (Some Global) (cond (n == 262) (Some Long) (cond (n == 263) (Some Catcode)
    (cond (n == 264) (Some BeginGroup) (cond (n == 265) (Some EndGroup) (cond (n == 266) (Some ExpandAfter) (cond (n == 267) (Some Ifx)
    (cond (n == 268) (Some IfTrue) (cond (n == 269) (Some IfFalse) (cond (n == 270) (Some Else) (cond (n == 271) (Some Fi) None)))))))))))))))

-- The categories that codes have at first.
--   is_letter_code     A to Z and a to z
--   first_category     the category of a code
--   first_categories   those of the codes 0 to 255
use Rattle.std.specs.Prelude.{ℕ, Bool, cond, ◌&&◌, ◌||◌, List, map, ◌==◌, nat_le}
use Rattle.std.specs.List.{range_with_len}
use Rattle.tokens.specs.declared.category.Category.{Category}
use Rattle.tokens.specs.declared.category.Category.TheVariants.{Escape, Open, Close, Math, Align, EndLine, Parameter, Superscript, Subscript, Ignored, Space, Letter, Other, Active, Comment, Invalid}

abbrev pub is_letter_code : ℕ → Bool
is_letter_code n = (nat_le 65 n && nat_le n 90) || (nat_le 97 n && nat_le n 122)

abbrev pub first_category : ℕ → Category
first_category n =
    cond (n == 92) Escape (cond (n == 123) Open (cond (n == 125) Close (cond (n == 36) Math (cond (n == 38) Align
    (cond (n == 13) EndLine (cond (n == 35) Parameter (cond (n == 94) Superscript (cond (n == 95) Subscript (cond (n == 0) Ignored
    (cond (n == 9 || n == 32) Space (cond (is_letter_code n) Letter (cond (n == 126) Active (cond (n == 37) Comment (cond (n == 127) Invalid Other))))))))))))))

abbrev pub first_categories : List Category
first_categories = map first_category (range_with_len 0 256)

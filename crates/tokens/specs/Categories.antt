-- The numbers of categories.
--   number_of         the number of a category, 0 to 15
--   category_of       the category with a number
--   token_number_of   the number of a character token's category
--   token_category_of the same back
use Rattle.std.specs.Prelude.{ℕ, cond, Some, None, Option, ◌==◌}
use Rattle.tokens.specs.declared.category.Category.{Category}
use Rattle.tokens.specs.declared.category.Category.TheVariants.{Escape, Open, Close, Math, Align, EndLine, Parameter, Superscript, Subscript, Ignored, Space, Letter, Other, Active, Comment, Invalid}
use Rattle.tokens.specs.declared.token_category.TokenCategory.{TokenCategory}
use Rattle.tokens.specs.declared.token_category.TokenCategory.TheVariants as of_token

abbrev pub number_of : Category → ℕ
number_of Escape = 0
number_of Open = 1
number_of Close = 2
number_of Math = 3
number_of Align = 4
number_of EndLine = 5
number_of Parameter = 6
number_of Superscript = 7
number_of Subscript = 8
number_of Ignored = 9
number_of Space = 10
number_of Letter = 11
number_of Other = 12
number_of Active = 13
number_of Comment = 14
number_of Invalid = 15

abbrev pub token_number_of : TokenCategory → ℕ
token_number_of of_token.Open = 1
token_number_of of_token.Close = 2
token_number_of of_token.Math = 3
token_number_of of_token.Align = 4
token_number_of of_token.Parameter = 6
token_number_of of_token.Superscript = 7
token_number_of of_token.Subscript = 8
token_number_of of_token.Space = 10
token_number_of of_token.Letter = 11
token_number_of of_token.Other = 12

abbrev pub category_of : ℕ → Option Category
category_of n =
    cond (n == 0) (Some Escape) (cond (n == 1) (Some Open) (cond (n == 2) (Some Close) (cond (n == 3) (Some Math)
    (cond (n == 4) (Some Align) (cond (n == 5) (Some EndLine) (cond (n == 6) (Some Parameter) (cond (n == 7) (Some Superscript)
    (cond (n == 8) (Some Subscript) (cond (n == 9) (Some Ignored) (cond (n == 10) (Some Space) (cond (n == 11) (Some Letter)
    (cond (n == 12) (Some Other) (cond (n == 13) (Some Active) (cond (n == 14) (Some Comment) (cond (n == 15) (Some Invalid) None)))))))))))))))

abbrev pub token_category_of : ℕ → Option TokenCategory
token_category_of n =
    cond (n == 1) (Some of_token.Open) (cond (n == 2) (Some of_token.Close) (cond (n == 3) (Some of_token.Math) (cond (n == 4) (Some of_token.Align)
    (cond (n == 6) (Some of_token.Parameter) (cond (n == 7) (Some of_token.Superscript) (cond (n == 8) (Some of_token.Subscript)
    (cond (n == 10) (Some of_token.Space) (cond (n == 11) (Some of_token.Letter) (cond (n == 12) (Some of_token.Other) None)))))))))

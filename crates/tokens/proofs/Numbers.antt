-- A number gives back the category that has it.
use Rattle.std.proofs.Common.{◌≡◌, ℕ, ◌<◌, cond, eqb, IfSome, Some, Option, refl, arith}
use Rattle.std.proofs.lemmas.Bool.{cond_both, eqb-true}
use Rattle.tokens.specs.declared.category.Category.{Category}
use Rattle.tokens.specs.declared.category.Category.TheVariants.{Escape, Open, Close, Math, Align, EndLine, Parameter, Superscript, Subscript, Ignored, Space, Letter, Other, Active, Comment, Invalid}
use Rattle.tokens.specs.declared.token_category.TokenCategory.{TokenCategory}
use Rattle.tokens.specs.declared.token_category.TokenCategory.TheVariants as of_token
use Rattle.tokens.specs.Categories.{number_of, category_of, token_number_of, token_category_of}

pub category_back : (c : Category) → category_of (number_of c) ≡ Some c
category_back Escape = refl
category_back Open = refl
category_back Close = refl
category_back Math = refl
category_back Align = refl
category_back EndLine = refl
category_back Parameter = refl
category_back Superscript = refl
category_back Subscript = refl
category_back Ignored = refl
category_back Space = refl
category_back Letter = refl
category_back Other = refl
category_back Active = refl
category_back Comment = refl
category_back Invalid = refl

-- one line of a table from numbers: where its test holds, the number is the one tested
module _ {C : Type 0} (number : C → ℕ) (n : ℕ) where
  abbrev pub Numbered : Option C → Type 0
  Numbered o = IfSome o (λ c. number c ≡ n)

  pub row : (k : ℕ) (c : C) (more : Option C) → number c ≡ k → Numbered more → Numbered (cond (eqb n k) (Some c) more)
  row k c more e h = cond_both (eqb n k) (Some c) more Numbered (λ t. omega (arith, eqb-true n k t)) (λ _. h)

pub category_number : (n : ℕ) → Numbered number_of n (category_of n)
category_number n =
    let r = row number_of n in
    r 0 Escape _ refl (r 1 Open _ refl (r 2 Close _ refl (r 3 Math _ refl (r 4 Align _ refl (r 5 EndLine _ refl (r 6 Parameter _ refl
    (r 7 Superscript _ refl (r 8 Subscript _ refl (r 9 Ignored _ refl (r 10 Space _ refl (r 11 Letter _ refl (r 12 Other _ refl
    (r 13 Active _ refl (r 14 Comment _ refl (r 15 Invalid _ refl tt)))))))))))))))

pub token_category_number : (n : ℕ) → Numbered token_number_of n (token_category_of n)
token_category_number n =
    let r = row token_number_of n in
    r 1 of_token.Open _ refl (r 2 of_token.Close _ refl (r 3 of_token.Math _ refl (r 4 of_token.Align _ refl (r 6 of_token.Parameter _ refl
    (r 7 of_token.Superscript _ refl (r 8 of_token.Subscript _ refl (r 10 of_token.Space _ refl (r 11 of_token.Letter _ refl
    (r 12 of_token.Other _ refl tt)))))))))

pub category_below : (c : Category) → number_of c < 16
category_below Escape = omega arith
category_below Open = omega arith
category_below Close = omega arith
category_below Math = omega arith
category_below Align = omega arith
category_below EndLine = omega arith
category_below Parameter = omega arith
category_below Superscript = omega arith
category_below Subscript = omega arith
category_below Ignored = omega arith
category_below Space = omega arith
category_below Letter = omega arith
category_below Other = omega arith
category_below Active = omega arith
category_below Comment = omega arith
category_below Invalid = omega arith

pub token_category_below : (c : TokenCategory) → token_number_of c < 13
token_category_below of_token.Open = omega arith
token_category_below of_token.Close = omega arith
token_category_below of_token.Math = omega arith
token_category_below of_token.Align = omega arith
token_category_below of_token.Parameter = omega arith
token_category_below of_token.Superscript = omega arith
token_category_below of_token.Subscript = omega arith
token_category_below of_token.Space = omega arith
token_category_below of_token.Letter = omega arith
token_category_below of_token.Other = omega arith

-- Beyond their last number, names mean nothing at first and codes have category 12.
use Rattle.std.proofs.Common.{◌≡◌, ℕ, ◌<◌, ◌≤◌, false, ◌&&◌, ◌||◌, eqb, leb, None, ◌∙◌, arith, lit≤}
use Rattle.std.proofs.lemmas.Bool.{ne_eqb, cond-false, or_from, and_right, lt-leb}
use Rattle.tokens.specs.declared.category.Category.TheVariants.{Other}
use Rattle.book.specs.Primitives.{primitive_of}
use Rattle.tokens.specs.Firsts.{first_category, is_letter_code}

module _ (k least : ℕ) (beyond : least ≤ k) where
  -- a test for a number below
  not_it : (n : ℕ) → n < least → eqb k n ≡ false
  not_it n h = ne_eqb k n (λ e. omega arith)

pub no_primitive : (k : ℕ) → 65536 ≤ k → primitive_of k ≡ None
no_primitive k h =
    cond-false (eqb k 256) _ _ (not_it k 65536 h 256 (lit≤ tt))
    ∙ cond-false (eqb k 257) _ _ (not_it k 65536 h 257 (lit≤ tt))
    ∙ cond-false (eqb k 258) _ _ (not_it k 65536 h 258 (lit≤ tt))
    ∙ cond-false (eqb k 259) _ _ (not_it k 65536 h 259 (lit≤ tt))
    ∙ cond-false (eqb k 260) _ _ (not_it k 65536 h 260 (lit≤ tt))
    ∙ cond-false (eqb k 261) _ _ (not_it k 65536 h 261 (lit≤ tt))
    ∙ cond-false (eqb k 262) _ _ (not_it k 65536 h 262 (lit≤ tt))
    ∙ cond-false (eqb k 263) _ _ (not_it k 65536 h 263 (lit≤ tt))
    ∙ cond-false (eqb k 264) _ _ (not_it k 65536 h 264 (lit≤ tt))
    ∙ cond-false (eqb k 265) _ _ (not_it k 65536 h 265 (lit≤ tt))
    ∙ cond-false (eqb k 266) _ _ (not_it k 65536 h 266 (lit≤ tt))
    ∙ cond-false (eqb k 267) _ _ (not_it k 65536 h 267 (lit≤ tt))
    ∙ cond-false (eqb k 268) _ _ (not_it k 65536 h 268 (lit≤ tt))
    ∙ cond-false (eqb k 269) _ _ (not_it k 65536 h 269 (lit≤ tt))
    ∙ cond-false (eqb k 270) _ _ (not_it k 65536 h 270 (lit≤ tt))
    ∙ cond-false (eqb k 271) _ _ (not_it k 65536 h 271 (lit≤ tt))

pub no_letter : (k : ℕ) → 256 ≤ k → is_letter_code k ≡ false
no_letter k h =
    or_from (leb 65 k && leb k 90) (leb 97 k && leb k 122)
    (and_right (leb 65 k) (leb k 90) (lt-leb k 90 (omega arith)))
    (and_right (leb 97 k) (leb k 122) (lt-leb k 122 (omega arith)))

pub no_category_lem : (k : ℕ) → 256 ≤ k → first_category k ≡ Other
no_category_lem k h =
    cond-false (eqb k 92) _ _ (not_it k 256 h 92 (lit≤ tt))
    ∙ cond-false (eqb k 123) _ _ (not_it k 256 h 123 (lit≤ tt))
    ∙ cond-false (eqb k 125) _ _ (not_it k 256 h 125 (lit≤ tt))
    ∙ cond-false (eqb k 36) _ _ (not_it k 256 h 36 (lit≤ tt))
    ∙ cond-false (eqb k 38) _ _ (not_it k 256 h 38 (lit≤ tt))
    ∙ cond-false (eqb k 13) _ _ (not_it k 256 h 13 (lit≤ tt))
    ∙ cond-false (eqb k 35) _ _ (not_it k 256 h 35 (lit≤ tt))
    ∙ cond-false (eqb k 94) _ _ (not_it k 256 h 94 (lit≤ tt))
    ∙ cond-false (eqb k 95) _ _ (not_it k 256 h 95 (lit≤ tt))
    ∙ cond-false (eqb k 0) _ _ (not_it k 256 h 0 (lit≤ tt))
    ∙ cond-false (eqb k 9 || eqb k 32) _ _ (or_from (eqb k 9) (eqb k 32) (not_it k 256 h 9 (lit≤ tt)) (not_it k 256 h 32 (lit≤ tt)))
    ∙ cond-false (is_letter_code k) _ _ (no_letter k h)
    ∙ cond-false (eqb k 126) _ _ (not_it k 256 h 126 (lit≤ tt))
    ∙ cond-false (eqb k 37) _ _ (not_it k 256 h 37 (lit≤ tt))
    ∙ cond-false (eqb k 127) _ _ (not_it k 256 h 127 (lit≤ tt))

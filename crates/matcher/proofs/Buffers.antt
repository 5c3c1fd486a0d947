-- Tokens at the end of a buffer, from a place on.
use Rattle.std.proofs.Common.{◌≡◌, ℕ, ◌-◌, ◌≤◌, [], ◌∷◌, ◌++◌, length, take, drop, vec_items, vec_len, Vec, sym, ap, ◌∙◌, arith}
use Rattle.std.proofs.lemmas.List.{drop-append-le, take-append-le, take_all, drop_all, length-drop, length-take}
use Rattle.tokens.specs.declared.token.Token.{Token}
use Rattle.matcher.specs.Held.{Kept}

module _ {Z : Type 0} (v : Vec Token Z) where
  pub long_from : (n : ℕ) → length (drop n (vec_items v)) ≡ vec_len v - n
  long_from n = length-drop n (vec_items v) ∙ ap (λ (k : ℕ). k - n) (sym v.ok.0)

  pub rest_from : (n to : ℕ) → to ≡ vec_len v → take (to - n) (drop n (vec_items v)) ≡ drop n (vec_items v)
  rest_from n to e = take_all (to - n) (drop n (vec_items v)) (omega (arith, e, long_from n))

  pub none_from : (n : ℕ) → n ≡ vec_len v → drop n (vec_items v) ≡ []
  none_from n e = drop_all n (vec_items v) (omega (arith, v.ok.0))

  pub all_before : (n : ℕ) → n ≡ vec_len v → take n (vec_items v) ≡ vec_items v
  all_before n e = take_all n (vec_items v) (omega (arith, v.ok.0))

  pub kept_longer : (w : Vec Token Z) → Kept v w → vec_len v ≤ vec_len w
  kept_longer w k = omega (arith, v.ok.0, w.ok.0, ap length k, length-take (vec_len v) (vec_items w))

  module _ (w : Vec Token Z) (t : Token) (n : ℕ) (h : n ≤ vec_len v) (e : vec_items w ≡ vec_items v ++ t ∷ []) where
    pub pushed_from : drop n (vec_items w) ≡ drop n (vec_items v) ++ t ∷ []
    pushed_from = ap (drop n) e ∙ drop-append-le n (vec_items v) (t ∷ []) (omega (arith, v.ok.0))

    pub pushed_before : take n (vec_items w) ≡ take n (vec_items v)
    pushed_before = ap (take n) e ∙ take-append-le n (vec_items v) (t ∷ []) (omega (arith, v.ok.0))

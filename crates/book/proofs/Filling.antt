-- A list that holds at each place below a number what a function tells.
use Rattle.std.proofs.Common.{◌≡◌, ℕ, ◌+◌, ◌≤◌, List, map, length, get_or, sym, ap, ◌∙◌, inl, inr, arith}
use Rattle.std.specs.List.{range_with_len}
use Rattle.std.proofs.lemmas.List.{get_or_past}
use Rattle.std.proofs.lemmas.List.FromFn.{length-map-range_with_len, get_or-map-range_with_len}
use Rattle.std.proofs.lemmas.Bool.{cases_lt}

module _ {X : Type 0} (f : ℕ → X) (n : ℕ) (xs : List X) (e : xs ≡ map f (range_with_len 0 n)) where
  pub filled_length : length xs ≡ n
  filled_length = ap length e ∙ length-map-range_with_len f 0 n

  -- past its end it tells the default
  pub filled_all : (d : X) → ((k : ℕ) → n ≤ k → f k ≡ d) → (k : ℕ) → get_or xs k d ≡ f k
  filled_all d past k = elim (cases_lt k n) [
    | inl s ↦ let p : 0 + k ≡ k = omega arith in ap (λ (ys : List X). get_or ys k d) e ∙ get_or-map-range_with_len f 0 n k k d s p
    | inr s ↦ let l = filled_length in let t : length xs ≤ k = omega arith in get_or_past xs k d t ∙ sym (past k s)
  ]

-- Two ways to cut one list in two, and a list's last element.
use Rattle.std.proofs.Common.{◌≡◌, ℕ, ◌≤◌, ◌⊎◌, List, [], ◌∷◌, ◌++◌, length, sym, refl, ap, ◌∙◌, inl, inr, arith}
use Rattle.std.proofs.lemmas.List.{append_assoc, same_from_push}

module _ {A : Type 0} where
  -- the longer front is the shorter one and something
  pub overlap : (a b c d : List A) → a ++ b ≡ c ++ d → length a ≤ length c → (w : List A) × (c ≡ a ++ w) × (b ≡ w ++ d)
  overlap [] b c d e h = (c, refl, e)
  overlap (x ∷ a) b [] d e h = absurd (omega arith)
  overlap (x ∷ a) b (y ∷ c) d e h =
      let same : x ≡ y = cc in
      let i : (w : List A) × (c ≡ a ++ w) × (b ≡ w ++ d) = overlap a b c d (cc) (omega arith) in
      let j : c ≡ a ++ i.0 = i.1 in
      (i.0, cc, i.2)

  pub nil_front : (a b : List A) → a ++ b ≡ [] → a ≡ []
  nil_front [] b e = refl
  nil_front (x ∷ a) b e = let z : ◌≡◌ {A = ℕ} 0 1 = cc in absurd (omega arith)

  pub last_of : (l : List A) → (l ≡ []) ⊎ ((front : List A) × (x : A) × (l ≡ front ++ x ∷ []))
  last_of [] = inl refl
  last_of (x ∷ l) = go (last_of l)
    where
      go : (l ≡ []) ⊎ ((front : List A) × (y : A) × (l ≡ front ++ y ∷ [])) → (x ∷ l ≡ []) ⊎ ((front : List A) × (y : A) × (x ∷ l ≡ front ++ y ∷ []))
      go (inl e) = inr ([], x, ap (λ (r : List A). x ∷ r) e)
      go (inr i) = inr (x ∷ i.0, i.1, ap (λ (r : List A). x ∷ r) i.2)

  -- what stands in a list with one more at its end, and not at the end, stands in the list
  pub inside : (u : List A) (t : A) (r d rest : List A) → u ++ t ∷ [] ≡ r ++ (d ++ rest) → ((rest' : List A) → u ≡ r ++ (d ++ rest') → ⊥) → rest ≡ []
  inside u t r d rest e none = go (last_of rest)
    where
      go : (rest ≡ []) ⊎ ((front : List A) × (x : A) × (rest ≡ front ++ x ∷ [])) → rest ≡ []
      go (inl z) = z
      go (inr i) =
          let f : List A = i.0 in
          let g : u ++ t ∷ [] ≡ (r ++ (d ++ f)) ++ i.1 ∷ [] =
          e ∙ ap (λ (k : List A). r ++ (d ++ k)) i.2 ∙ ap (λ (k : List A). r ++ k) (sym (append_assoc d f (i.1 ∷ []))) ∙ sym (append_assoc r (d ++ f) (i.1 ∷ [])) in
          absurd (none f (same_from_push u (r ++ (d ++ f)) t i.1 g).0)

  pub one_more_lem : (r : List A) (t : A) (e : List A) → (r ++ t ∷ []) ++ e ≡ r ++ t ∷ e
  one_more_lem r t e = append_assoc r (t ∷ []) e

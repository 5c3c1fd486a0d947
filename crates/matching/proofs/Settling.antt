-- What the settled part of a delimited argument's tokens is.
use Rattle.std.proofs.Common.{◌≡◌, ◌<◌, ◌≤◌, false, ◌&&◌, ◌⊎◌, List, [], ◌∷◌, ◌++◌, length, sym, refl, ap, ◌∙◌, subst, inl, inr, arith}
use Rattle.std.proofs.lemmas.List.{append_assoc, append-nil, length-append, length_push, nil_from_length}
use Rattle.std.proofs.lemmas.Bool.{both_ways, and_parts, and_from, cond_both, cases_lt}
use Rattle.tokens.specs.declared.token.Token.{Token}
use Rattle.matching.specs.Braces.{is_front, Balanced, is_balanced}
use Rattle.matching.specs.Matching.{settled_from, settled}
use Rattle.matching.proofs.Splits.{overlap}
use Rattle.matching.proofs.Depths.{Front, front_true, front_is, balanced_true, is_balanced_lem}

-- the settled part s of r and e: what is behind it is nothing, or begins the delimiter outside braces
abbrev pub Parted : List Token → List Token → List Token → Type 0
Parted d u s = (q : List Token) × (s ++ q ≡ u) × ((q ≡ []) ⊎ (Balanced s × Front q d))

parted_from : (d r e : List Token) → Parted d (r ++ e) (settled_from d r e)
parted_from d r [] = ([], refl, inl refl)
parted_from d r (t ∷ e) =
    cond_both (is_balanced r && is_front (t ∷ e) d) _ _ (Parted d (r ++ t ∷ e))
    (λ h. let parts = and_parts (is_balanced r) (is_front (t ∷ e) d) h in (t ∷ e, refl, inr (balanced_true r parts.0, front_true (t ∷ e) d parts.1)))
    (λ _. let i : Parted d ((r ++ t ∷ []) ++ e) (settled_from d (r ++ t ∷ []) e) = parted_from d (r ++ t ∷ []) e in (i.0, i.1 ∙ append_assoc r (t ∷ []) e, i.2))

pub parted : (d u : List Token) → Parted d u (settled d u)
parted d u = parted_from d [] u

least_from : (d r e s q : List Token) → s ++ q ≡ r ++ e → length r ≤ length s → Balanced s → Front q d → length (settled_from d r e) ≤ length s
least_from d r [] s q eq h b f = h
least_from d r (t ∷ e) s q eq h b f =
    cond_both (is_balanced r && is_front (t ∷ e) d) _ _ (λ (k : List Token). length k ≤ length s) (λ _. h)
    (λ un. least_from d (r ++ t ∷ []) e s q (eq ∙ sym (append_assoc r (t ∷ []) e)) (further un) b f)
  where
    further : (is_balanced r && is_front (t ∷ e) d) ≡ false → length (r ++ t ∷ []) ≤ length s
    further un = go (cases_lt (length r) (length s))
      where
        go : (length r < length s) ⊎ (length s ≤ length r) → length (r ++ t ∷ []) ≤ length s
        go (inl l) = omega (arith, length_push r t)
        go (inr l) =
            let o = overlap s q r (t ∷ e) eq l in
            let short : length o.0 ≡ 0 = omega (arith, length-append s o.0, ap length o.1) in
            let nil : o.0 ≡ [] = nil_from_length o.0 short in
            let same : r ≡ s = o.1 ∙ ap (λ (k : List Token). s ++ k) nil ∙ append-nil s in
            let rest : q ≡ t ∷ e = o.2 ∙ ap (λ (k : List Token). k ++ t ∷ e) nil in
            absurd (both_ways _ un (and_from (is_balanced r) (is_front (t ∷ e) d) (is_balanced_lem r (subst Balanced (sym same) b)) (front_is (t ∷ e) d (subst (λ (k : List Token). Front k d) rest f))))

-- no shorter part is followed by what begins the delimiter outside braces
pub least : (d u s q : List Token) → s ++ q ≡ u → Balanced s → Front q d → length (settled d u) ≤ length s
least d u s q e b f = least_from d [] u s q e (omega arith) b f

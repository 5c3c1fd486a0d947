-- In every valid phase a division is possible.
use Rattle.std.proofs.Common.{◌≡◌, ℕ, zero, suc, ◌+◌, ◌<◌, ◌≤◌, Bool, true, false, ◌⊎◌, List, [], ◌∷◌, ◌++◌, length, Some, Option, sym, refl, ap, ◌∙◌, subst, inl, inr, arith}
use Rattle.std.proofs.lemmas.List.{append_assoc, append-nil, length-append, length_push, nil_from_length, same_from_push}
use Rattle.std.proofs.lemmas.Bool.{cases_lt, or_parts, both_ways}
use Rattle.tokens.specs.declared.token_category.TokenCategory.TheVariants as of_token
use Rattle.tokens.specs.declared.token.Token.{Token}
use Rattle.tokens.specs.declared.token.Token.TheVariants.{Character}
use Rattle.matching.specs.Braces.{is_close, has_close, deeper, passed, Balanced}
use Rattle.matching.specs.Dividing.{stripped, First, single, delimited, done, Permitted}
use Rattle.matching.specs.Matching.{Progress, Phase, text_before, skipping, in_group, in_run, fewest, settled}
use Rattle.matching.proofs.Splits.{overlap, inside, last_of}
use Rattle.matching.proofs.Depths.{Front, close_append, permitted_front, permitted_close, deeper_push}
use Rattle.matching.proofs.Settling.{Parted, parted, least}
use Rattle.matching.proofs.Resting.{Rest, Grouping, Running, Completes, taking_back}
use Rattle.matching.proofs.Valid.{Unfinished, ValidRun, Valid, permitted_none}
use Rattle.matching.proofs.Groups.{grouping, grown as group_grown}
use Rattle.matching.proofs.Runs.{permitted_stripped, grown as run_grown}

-- the argument 0, and a closing brace
abbrev digit : Token
digit = Character of_token.Other 48

abbrev closing : Token
closing = Character of_token.Close 125

digit_permitted : (long : Bool) → Permitted long (digit ∷ [])
digit_permitted true = refl
digit_permitted false = refl

first_nil : (d : List Token) → First d []
first_nil d r rest e b = nil_from_length rest (omega (arith, ap length e, length-append r (d ++ rest), length-append d rest))

module _ (limit : ℕ) (long : Bool) where
  pub rest_lives : (ds f : List (List Token)) (k : ℕ) → k + fewest ds ≤ limit → (us : List Token) × (args : List (List Token)) × Rest limit long f k ds us args
  rest_lives [] f k h = ([], f, record { arguments = []; count = 0; all = sym (append-nil f); divided = done; fits = omega arith; permitted = tt })
  rest_lives ([] ∷ ds) f k h =
      let i = rest_lives ds (f ++ (digit ∷ []) ∷ []) (k + 1) (omega arith) in (
        digit ∷ i.0,
        i.1,
        taking_back limit long f k [] ds (digit ∷ i.0) i.1 (record {
          front = digit ∷ [];
          rest = i.0;
          argument = digit ∷ [];
          count = 1;
          tokens = refl;
          taken = single [] digit refl refl refl refl;
          permitted = digit_permitted long;
          rests = i.2;
        }),
      )
  rest_lives ((x ∷ d) ∷ ds) f k h =
      let i = rest_lives ds (f ++ [] ∷ []) (k + 0) (omega arith) in (
        (x ∷ d) ++ i.0,
        i.1,
        taking_back limit long f k (x ∷ d) ds ((x ∷ d) ++ i.0) i.1 (record {
          front = x ∷ d;
          rest = i.0;
          argument = [];
          count = 0;
          tokens = refl;
          taken = delimited x d [] refl (first_nil (x ∷ d));
          permitted = permitted_none long;
          rests = i.2;
        }),
      )

  module _ (p : Progress) where
    -- ---- a group: its braces close

    group_lives : (n : ℕ) (u : List Token) → deeper 0 u ≡ Some n → Permitted long u → p.counted + (length u + 2 + n) + fewest p.later ≤ limit → (us : List Token) × (args : List (List Token)) × Grouping limit long p u us args
    group_lives zero u deep ok fits =
        let i = rest_lives p.later (p.finished ++ u ∷ []) (p.counted + (length u + 2)) (omega arith) in
        (closing ∷ i.0, i.1, grouping limit long p u (closing ∷ i.0) i.1 [] closing i.0 u refl (sym (append-nil u)) refl deep ok i.2)
    group_lives (suc n) u deep ok fits =
        let shut : deeper 0 (u ++ closing ∷ []) ≡ Some n = deeper_push u closing ∙ ap (λ (o : Option ℕ). passed o closing) deep in
        let i = group_lives n (u ++ closing ∷ []) shut (permitted_close long u closing refl ok) (omega (arith, length_push u closing)) in
        (closing ∷ i.0, i.1, group_grown limit long p u closing i.0 i.1 i.2)

    -- ---- a delimited argument outside braces: its delimiter is completed

    module _ (d u : List Token) where
      pending : (v : ValidRun limit long p d u) → (q : List Token) × (settled d u ++ q ≡ u) × Front q d
      pending v = go (parted d u)
        where
          go : Parted d u (settled d u) → (q : List Token) × (settled d u ++ q ≡ u) × Front q d
          go (q, e, inl n) = (q, e, (d, ap (λ (k : List Token). k ++ d) (sym n)))
          go (q, e, inr i) = (q, e, i.1)

      -- no occurrence of the delimiter comes before the pending one
      module _ (v : ValidRun limit long p d u) (q d' : List Token) (e : settled d u ++ q ≡ u) (f : d ≡ q ++ d') where
        whole : settled d u ++ d ≡ u ++ d'
        whole = ap (λ (k : List Token). settled d u ++ k) f ∙ sym (append_assoc (settled d u) q d') ∙ ap (λ (k : List Token). k ++ d') e

        not_before : (r rest : List Token) → u ++ d' ≡ r ++ (d ++ rest) → Balanced r → length (settled d u) ≤ length r
        not_before r rest j b = go (cases_lt (length r) (length u)) (cases_lt (length u) (length (r ++ d)))
          where
            go : (length r < length u) ⊎ (length u ≤ length r) → (length u < length (r ++ d)) ⊎ (length (r ++ d) ≤ length u) → length (settled d u) ≤ length r
            go (inr l) m = omega (arith, ap length e, length-append (settled d u) q)
            go (inl l) (inr m) =
                let o = overlap (r ++ d) rest u d' (append_assoc r d rest ∙ sym j) m in
                absurd (v.unfinished r o.0 (o.1 ∙ append_assoc r d o.0) b)
            go (inl l) (inl m) =
                let o = overlap r (d ++ rest) u d' (sym j) (omega arith) in
                let short : length o.0 ≤ length d = omega (arith, length-append r d, ap length o.1, length-append r o.0) in
                let i = overlap o.0 d' d rest (sym o.2) short in
                least d u r o.0 (sym o.1) b (i.0, i.1)

        first_here : First d (settled d u)
        first_here r rest j b =
            let low : length (settled d u) ≤ length r = not_before r rest (sym whole ∙ j) b in
            nil_from_length rest (omega (arith, ap length j, length-append (settled d u) d, length-append r (d ++ rest), length-append d rest))

        level_lives : v.depth ≡ 0 → (us : List Token) × (args : List (List Token)) × Running limit long p d u us args
        level_lives z =
            let s : List Token = settled d u in
            let i = rest_lives p.later (p.finished ++ stripped s ∷ []) (p.counted + length s) (omega (arith, v.fits)) in (
              d' ++ i.0,
              i.1,
              record {
                run = s;
                more = d';
                rest = i.0;
                tokens = refl;
                joined = sym whole;
                balanced = v.deep ∙ ap Some z;
                first = first_here;
                permitted = permitted_stripped long s v.permitted;
                rests = i.2;
              },
            )

      -- ---- inside braces: one closes

      module _ (v : ValidRun limit long p d u) (m : ℕ) (z : v.depth ≡ suc m) where
        all_settled : settled d u ≡ u
        all_settled = go (parted d u)
          where
            go : Parted d u (settled d u) → settled d u ≡ u
            go (q, e, inl n) = sym (append-nil (settled d u)) ∙ ap (λ (k : List Token). settled d u ++ k) (sym n) ∙ e
            go (q, e, inr i) = let deep = v.deep in let level = i.0 in let bad : ◌≡◌ {A = ℕ} 0 (suc m) = cc in absurd (omega arith)

        close_unfinished : Unfinished d (u ++ closing ∷ [])
        close_unfinished r rest e b = go (last_of d)
          where
            none : rest ≡ []
            none = inside u closing r d rest e (λ rest' e'. v.unfinished r rest' e' b)

            go : (d ≡ []) ⊎ ((front : List Token) × (x : Token) × (d ≡ front ++ x ∷ [])) → ⊥
            go (inl n) = omega (arith, v.some, ap length n)
            go (inr i) =
                let j : u ++ closing ∷ [] ≡ (r ++ i.0) ++ i.1 ∷ [] =
                e ∙ ap (λ (k : List Token). r ++ (d ++ k)) none ∙ ap (λ (k : List Token). r ++ k) (append-nil d ∙ i.2) ∙ sym (append_assoc r i.0 (i.1 ∷ [])) in
                let same : closing ≡ i.1 = (same_from_push u (r ++ i.0) closing i.1 j).1 in
                let parts = or_parts (has_close i.0) (has_close (i.1 ∷ [])) (sym (close_append i.0 (i.1 ∷ [])) ∙ ap has_close (sym i.2) ∙ v.opens) in
                let apart = or_parts (is_close i.1) false parts.1 in
                both_ways (is_close i.1) apart.0 (ap is_close (sym same))

        close_deep : (n : ℕ) × (deeper 0 (settled d (u ++ closing ∷ [])) ≡ Some n) × (n ≤ m)
        close_deep = go (parted d (u ++ closing ∷ []))
          where
            shut : deeper 0 (u ++ closing ∷ []) ≡ Some m
            shut =
                deeper_push u closing ∙ ap (λ (k : List Token). passed (deeper 0 k) closing) (sym all_settled) ∙ ap (λ (o : Option ℕ). passed o closing) (v.deep ∙ ap Some z)

            go : Parted d (u ++ closing ∷ []) (settled d (u ++ closing ∷ [])) → (n : ℕ) × (deeper 0 (settled d (u ++ closing ∷ [])) ≡ Some n) × (n ≤ m)
            go (q, e, inl n) =
                let same : settled d (u ++ closing ∷ []) ≡ u ++ closing ∷ [] = sym (append-nil (settled d (u ++ closing ∷ []))) ∙ ap (λ (k : List Token). settled d (u ++ closing ∷ []) ++ k) (sym n) ∙ e in
                (m, ap (deeper 0) same ∙ shut, omega arith)
            go (q, e, inr i) = (0, i.0, omega arith)

        closed : ValidRun limit long p d (u ++ closing ∷ [])
        closed =
            let part = parted d (u ++ closing ∷ []) in
            let may : Permitted long (u ++ closing ∷ []) = permitted_close long u closing refl (subst (Permitted long) all_settled v.permitted) in
            let fewer = close_deep in
            record {
              plain = v.plain;
              opens = v.opens;
              some = v.some;
              unfinished = close_unfinished;
              depth = fewer.0;
              deep = fewer.1;
              permitted = permitted_front long (settled d (u ++ closing ∷ [])) part.0 (subst (Permitted long) (sym part.1) may);
              fits = omega (arith, v.fits, fewer.2, z, ap length all_settled, ap length part.1, length-append (settled d (u ++ closing ∷ [])) part.0, length_push u closing);
            }

        closed_less : closed.depth ≤ m
        unfolding closed
        closed_less = close_deep.2

    run_lives : (n : ℕ) (d u : List Token) (v : ValidRun limit long p d u) → v.depth ≤ n → (us : List Token) × (args : List (List Token)) × Running limit long p d u us args
    run_lives zero d u v h =
        let q = pending d u v in
        level_lives d u v q.0 q.2.0 q.1 q.2.1 (omega arith)
    run_lives (suc n) d u v h = go v.depth refl (λ v' h'. run_lives n d (u ++ closing ∷ []) v' h')
      where
        go : (k : ℕ) → v.depth ≡ k → ((v' : ValidRun limit long p d (u ++ closing ∷ [])) → v'.depth ≤ n → (us : List Token) × (args : List (List Token)) × Running limit long p d (u ++ closing ∷ []) us args) → (us : List Token) × (args : List (List Token)) × Running limit long p d u us args
        go zero z rec =
            let q = pending d u v in
            level_lives d u v q.0 q.2.0 q.1 q.2.1 z
        go (suc m) z rec =
            let i = rec (closed d u v m z) (omega (arith, closed_less d u v m z)) in
            (closing ∷ i.0, i.1, run_grown limit long p d u closing i.0 i.1 i.2)

  pub lives : (h : Phase) → Valid limit long h → (us : List Token) × (args : List (List Token)) × Completes limit long h us args
  lives (text_before x xs ds) v =
      let i = rest_lives ds [] 0 (omega arith) in
      (x ∷ (xs ++ i.0), i.1, (i.0, refl, i.2))
  lives (skipping p) v = rest_lives ([] ∷ p.later) p.finished p.counted (omega arith)
  lives (in_group p u) v = group_lives p v.depth u v.deep v.permitted v.fits
  lives (in_run p d u) v = run_lives p v.depth d u v (omega arith)

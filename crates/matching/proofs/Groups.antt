-- A token read in an undelimited argument's group.
use Rattle.std.proofs.Common.{◌≡◌, ℕ, ◌+◌, ◌≤◌, Bool, true, List, [], ◌∷◌, ◌++◌, length, Some, None, Option, sym, refl, ap, ◌∙◌, subst, arith}
use Rattle.std.proofs.lemmas.List.{append-nil, length-append}
use Rattle.tokens.specs.declared.token.Token.{Token}
use Rattle.matching.specs.Braces.{is_close, deeper, passed, Balanced}
use Rattle.matching.specs.Dividing.{Permitted}
use Rattle.matching.specs.Matching.{on, Progress, in_group, Step, fewest, grouped, feed_within}
use Rattle.matching.proofs.Splits.{one_more_lem}
use Rattle.matching.proofs.Depths.{permitted_front, deeper_push, balanced_room, front_depth, passed_close, closes_last}
use Rattle.matching.proofs.Resting.{Rest, Grouping, Completes, Comes, rest_fits, comes_next, next_comes}
use Rattle.matching.proofs.Valid.{ValidGroup, Valid, ValidStep, following_valid, allowed_on, allowed_both}

module _ (limit : ℕ) (long : Bool) (p : Progress) where
  Whole : List Token → List (List Token) → List Token → Type 0
  Whole rest args w = Balanced w × Permitted long w × Rest limit long (p.finished ++ w ∷ []) (p.counted + (length w + 2)) p.later rest args

  -- from the group's inside as a whole
  pub grouping : (u us : List Token) (args : List (List Token)) (inner : List Token) (right : Token) (rest w : List Token) → us ≡ inner ++ right ∷ rest → w ≡ u ++ inner → is_close right ≡ true → Balanced w → Permitted long w → Rest limit long (p.finished ++ w ∷ []) (p.counted + (length w + 2)) p.later rest args → Grouping limit long p u us args
  unfolding Whole
  grouping u us args inner right rest w e same cl b ok r =
      let all : Whole rest args (u ++ inner) = subst (Whole rest args) same (b, ok, r) in
      record { inner = inner; right = right; rest = rest; tokens = e; balanced = all.0; closes = cl; permitted = all.1; rests = all.2 }

  module _ (u : List Token) (t : Token) (us : List Token) (args : List (List Token)) where
    pub grown : Grouping limit long p (u ++ t ∷ []) us args → Grouping limit long p u (t ∷ us) args
    grown g =
        grouping u (t ∷ us) args (t ∷ g.inner) g.right g.rest ((u ++ t ∷ []) ++ g.inner) (ap (λ (ws : List Token). t ∷ ws) g.tokens) (one_more_lem u t g.inner) g.closes g.balanced g.permitted g.rests

    fed_last : (right : Token) (rest : List Token) → t ∷ us ≡ right ∷ rest → Balanced (u ++ []) → is_close right ≡ true → Whole rest args (u ++ []) → Comes limit long (feed_within limit long (in_group p u) t) us args
    unfolding Whole
    fed_last right rest e b cl all =
        let et : right ≡ t = cc in
        let eu : rest ≡ us = cc in
        let w : Whole rest args u = subst (Whole rest args) (append-nil u) all in
        let shut : deeper 0 (u ++ t ∷ []) ≡ None =
        deeper_push u t ∙ ap (λ (o : Option ℕ). passed o t) w.0 ∙ passed_close t 0 (subst (λ (x : Token). is_close x ≡ true) et cl) in
        subst (λ (o : Option ℕ). Comes limit long (grouped limit long p u (u ++ t ∷ []) o) us args) (sym shut)
        (comes_next limit long (p.finished ++ u ∷ []) (p.counted + (length u + 2)) p.later us args (subst (λ (ws : List Token). Rest limit long (p.finished ++ u ∷ []) (p.counted + (length u + 2)) p.later ws args) eu w.2))

    fed_more : (i : List Token) (right : Token) (rest : List Token) → us ≡ i ++ right ∷ rest → is_close right ≡ true → Whole rest args ((u ++ t ∷ []) ++ i) → (o : Option ℕ) → deeper 0 (u ++ t ∷ []) ≡ o → Comes limit long (grouped limit long p u (u ++ t ∷ []) o) us args
    unfolding Whole
    fed_more i right rest e cl w None shut = absurd (front_depth (u ++ t ∷ []) i 0 w.0 shut)
    fed_more i right rest e cl w (Some n) deep =
        let ok : Permitted long (u ++ t ∷ []) = permitted_front long (u ++ t ∷ []) i w.1 in
        let room : n ≤ length i = balanced_room (u ++ t ∷ []) i n deep w.0 in
        let all : p.counted + (length ((u ++ t ∷ []) ++ i) + 2) + fewest p.later ≤ limit = rest_fits limit long _ _ _ rest args w.2 in
        let fits : p.counted + (length (u ++ t ∷ []) + 2 + n) + fewest p.later ≤ limit = omega (arith, length-append (u ++ t ∷ []) i) in
        subst (λ (s : Step). Comes limit long s us args) (sym (allowed_on limit long p (u ++ t ∷ []) (length (u ++ t ∷ []) + 2 + n) (on (in_group p (u ++ t ∷ []))) ok fits))
        (grouping (u ++ t ∷ []) us args i right rest ((u ++ t ∷ []) ++ i) e refl cl w.0 w.1 w.2)

    fed_by : (inner : List Token) (right : Token) (rest : List Token) → t ∷ us ≡ inner ++ right ∷ rest → is_close right ≡ true → Whole rest args (u ++ inner) → Comes limit long (feed_within limit long (in_group p u) t) us args
    unfolding Whole
    fed_by [] right rest e cl w = fed_last right rest e w.0 cl w
    fed_by (x ∷ i) right rest e cl w =
        let et : x ≡ t = cc in
        let eu : us ≡ i ++ right ∷ rest = cc in
        let w' : Whole rest args ((u ++ t ∷ []) ++ i) = subst (Whole rest args) (ap (λ (y : Token). u ++ y ∷ i) et ∙ sym (one_more_lem u t i)) w in
        fed_more i right rest eu cl w' (deeper 0 (u ++ t ∷ [])) refl

    pub group_fed : Completes limit long (in_group p u) (t ∷ us) args → Comes limit long (feed_within limit long (in_group p u) t) us args
    unfolding Whole
    group_fed g = fed_by g.inner g.right g.rest g.tokens g.closes (g.balanced, g.permitted, g.rests)

    unfed_by : ValidGroup limit long p u → (o : Option ℕ) → deeper 0 (u ++ t ∷ []) ≡ o → Comes limit long (grouped limit long p u (u ++ t ∷ []) o) us args → Grouping limit long p u (t ∷ us) args
    unfed_by v None shut = λ c.
        let last : passed (Some v.depth) t ≡ None = ap (λ (o : Option ℕ). passed o t) (sym v.deep) ∙ sym (deeper_push u t) ∙ shut in
        let k = closes_last t v.depth last in
        let b : Balanced u = v.deep ∙ ap Some k.1 in
        grouping u (t ∷ us) args [] t us u refl (sym (append-nil u)) k.0 b v.permitted (next_comes limit long (p.finished ++ u ∷ []) (p.counted + (length u + 2)) p.later us args (omega (arith, v.fits)) c)
    unfed_by v (Some n) deep =
        allowed_both limit long p (u ++ t ∷ []) (length (u ++ t ∷ []) + 2 + n) (on (in_group p (u ++ t ∷ []))) To (λ c. absurd c) (λ c. absurd c)
        (λ _ _ g. grown g)
      where
        To : Step → Type 0
        To s = Comes limit long s us args → Grouping limit long p u (t ∷ us) args

    pub group_unfed : Valid limit long (in_group p u) → Comes limit long (feed_within limit long (in_group p u) t) us args → Completes limit long (in_group p u) (t ∷ us) args
    group_unfed v c = unfed_by v (deeper 0 (u ++ t ∷ [])) refl c

    kept_by : ValidGroup limit long p u → (o : Option ℕ) → deeper 0 (u ++ t ∷ []) ≡ o → ValidStep limit long (grouped limit long p u (u ++ t ∷ []) o)
    kept_by v None shut = following_valid limit long (p.finished ++ u ∷ []) (p.counted + (length u + 2)) p.later v.plain (omega (arith, v.fits))
    kept_by v (Some n) deep =
        allowed_both limit long p (u ++ t ∷ []) (length (u ++ t ∷ []) + 2 + n) (on (in_group p (u ++ t ∷ []))) (ValidStep limit long) tt tt
        (λ ok f. record { plain = v.plain; depth = n; deep = deep; permitted = ok; fits = f })

    pub group_kept : Valid limit long (in_group p u) → ValidStep limit long (feed_within limit long (in_group p u) t)
    group_kept v = kept_by v (deeper 0 (u ++ t ∷ [])) refl

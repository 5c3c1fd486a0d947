-- The settled part of tokens, place by place.
use Rattle.std.proofs.Common.{◌≡◌, ℕ, zero, suc, ◌+◌, ◌<◌, ◌≤◌, Bool, true, false, ◌&&◌, ◌||◌, eqb, ◌⊎◌, List, [], ◌∷◌, ◌++◌, length, get_or, take, drop, Some, None, Option, sym, refl, ap, ◌∙◌, subst, inl, inr, arith}
use Rattle.std.proofs.lemmas.List.{take_more, drop_all, drop_more}
use Rattle.std.proofs.lemmas.Bool.{cond-true, cond-false, cond_both, and_from, and_left, ne_eqb, cases_lt}
use Rattle.std.proofs.Math.Bool.{or-false, or_assoc}
use Rattle.tokens.specs.declared.token.Token.{Token}
use Rattle.matcher.specs.declared.mark.Mark.{Mark}
use Rattle.std.specs.Option.{option_map}
use Rattle.matching.specs.Braces.{is_open, is_close, lowered, is_par, has_par, same_token, is_front, passed, deeper, is_zero, is_balanced}
use Rattle.matching.specs.Matching.{settled_from}
use Rattle.matching.proofs.Depths.{deeper_push, par_append}
use Rattle.matcher.specs.Marks.{begins, Marked, moved}

-- a token that is not the first of the delimiter begins it not
pub not_front : (t : Token) (ts d : List Token) → begins t d ≡ false → is_front (t ∷ ts) d ≡ false
not_front t ts [] h = refl
not_front t ts (x ∷ d) h = and_left (same_token t x) (is_front ts d) h

-- one that is goes on with the next
pub front_on : (t : Token) (ts : List Token) (x : Token) (d : List Token) → same_token t x ≡ true → is_front (t ∷ ts) (x ∷ d) ≡ is_front ts d
front_on t ts x d h = ap (λ (b : Bool). b && is_front ts d) h

-- once there is no depth there is none any more
none_stays : (d r e : List Token) → deeper 0 r ≡ None → deeper 0 (settled_from d r e) ≡ None
none_stays d r [] h = h
none_stays d r (t ∷ e) h =
    cond_both (is_balanced r && is_front (t ∷ e) d) _ _ (λ (s : List Token). deeper 0 s ≡ None) (λ _. h)
    (λ _. none_stays d (r ++ t ∷ []) e (deeper_push r t ∙ ap (λ (o : Option ℕ). passed o t) h))

module _ (d u : List Token) (at : ℕ) where
  pub settle_end : drop at u ≡ [] → settled_from d (take at u) (drop at u) ≡ take at u
  settle_end e = ap (settled_from d (take at u)) e

  deep_balanced : (n : ℕ) → deeper 0 (take at u) ≡ Some n → is_balanced (take at u) ≡ eqb n 0
  deep_balanced n h = ap is_zero h

  pub deep_unbalanced : (n : ℕ) → deeper 0 (take at u) ≡ Some n → 0 < n → is_balanced (take at u) ≡ false
  deep_unbalanced n h l = deep_balanced n h ∙ ne_eqb n 0 (λ e. omega arith)

  module _ (k : Token) (x : Token) (h : at < length u) (e : get_or u at k ≡ x) where
    next : drop at u ≡ x ∷ drop (at + 1) u
    next = drop_more u at k h ∙ ap (λ (y : Token). y ∷ drop (at + 1) u) e

    pub take_next : take (at + 1) u ≡ take at u ++ x ∷ []
    take_next = take_more u at k h ∙ ap (λ (y : Token). take at u ++ y ∷ []) e

    pub settle_found : deeper 0 (take at u) ≡ Some 0 → is_front (drop at u) d ≡ true → settled_from d (take at u) (drop at u) ≡ take at u
    settle_found b f =
        ap (settled_from d (take at u)) next
        ∙ cond-true (is_balanced (take at u) && is_front (x ∷ drop (at + 1) u) d) _ _ (and_from (is_balanced (take at u)) (is_front (x ∷ drop (at + 1) u) d) (ap is_zero b) (ap (λ (ts : List Token). is_front ts d) (sym next) ∙ f))

    pub settle_next : (is_balanced (take at u) && is_front (drop at u) d) ≡ false → settled_from d (take at u) (drop at u) ≡ settled_from d (take (at + 1) u) (drop (at + 1) u)
    settle_next f =
        ap (settled_from d (take at u)) next
        ∙ cond-false (is_balanced (take at u) && is_front (x ∷ drop (at + 1) u) d) _ _ (ap (λ (ts : List Token). is_balanced (take at u) && is_front ts d) (sym next) ∙ f)
        ∙ ap (λ (r : List Token). settled_from d r (drop (at + 1) u)) (sym take_next)

    pub next_deep : (n : ℕ) → deeper 0 (take at u) ≡ Some n → deeper 0 (take (at + 1) u) ≡ passed (Some n) x
    next_deep n q = ap (deeper 0) take_next ∙ deeper_push (take at u) x ∙ ap (λ (o : Option ℕ). passed o x) q

    pub next_none : (n : ℕ) → deeper 0 (take at u) ≡ Some n → passed (Some n) x ≡ None → deeper 0 (settled_from d (take (at + 1) u) (drop (at + 1) u)) ≡ None
    next_none n q p = none_stays d (take (at + 1) u) (drop (at + 1) u) (next_deep n q ∙ p)

    pub next_par : (a b : Bool) → has_par (take at u) ≡ (a || b) → has_par (take (at + 1) u) ≡ (a || (b || is_par x))
    next_par a b q =
        ap has_par take_next ∙ par_append (take at u) (x ∷ []) ∙ ap (λ (z : Bool). has_par (take at u) || z) (or-false (is_par x)) ∙ ap (λ (z : Bool). z || is_par x) q ∙ or_assoc a b (is_par x)

-- ---- marks

low_most : (n q : ℕ) → lowered n ≡ Some q → q ≤ n + 1
low_most zero q e = let z : ◌≡◌ {A = ℕ} 0 1 = cc in absurd (omega arith)
low_most (suc n) q e = let k : n ≡ q = cc in omega arith

pub passed_most : (t : Token) (n q : ℕ) → passed (Some n) t ≡ Some q → q ≤ n + 1
passed_most t n q =
    cond_both (is_open t) _ _ (λ (o : Option ℕ). o ≡ Some q → q ≤ n + 1) (λ _ e. (let k : suc n ≡ q = cc in omega arith))
    (λ _. cond_both (is_close t) _ _ (λ (o : Option ℕ). o ≡ Some q → q ≤ n + 1) (λ _ e. low_most n q e) (λ _ e. (let k : n ≡ q = cc in omega arith)))

mapped_some : {A B : Type 0} (f : A → B) (o : Option A) (b : B) → option_map f o ≡ Some b → (a : A) × (o ≡ Some a) × (f a ≡ b)
mapped_some f None b e = let z : ◌≡◌ {A = ℕ} 0 1 = cc in absurd (omega arith)
mapped_some f (Some a) b e = (a, refl, cc)

mapped_none : {A B : Type 0} (f : A → B) (o : Option A) → option_map f o ≡ None → o ≡ None
mapped_none f None e = refl
mapped_none f (Some a) e = let z : ◌≡◌ {A = ℕ} 0 1 = cc in absurd (omega arith)

module _ (d u : List Token) (from : ℕ) (m : Mark) (k : Token) (whole : List Token) (v : Marked u from m) (h : m.at < length u) (e : whole ≡ settled_from d (take m.at u) (drop m.at u)) (un : (is_balanced (take m.at u) && is_front (drop m.at u) d) ≡ false) where
  x : Token
  x = get_or u m.at k

  step : whole ≡ settled_from d (take (m.at + 1) u) (drop (m.at + 1) u)
  step = e ∙ settle_next d u m.at k (get_or u m.at k) h refl un

  pub turn : (n : Mark) → moved m (get_or u m.at k) ≡ Some n → Marked u from n × (whole ≡ settled_from d (take n.at u) (drop n.at u))
  turn n q =
      let t : Token = get_or u m.at k in
      let s = mapped_some _ (passed (Some m.depth) t) n q in
      let n' : Mark = record { at = m.at + 1; depth = s.0; par = m.par || is_par t } in
      let w : Marked u from n' = record {
        within = omega arith;
        behind = omega (arith, v.behind);
        small = omega (arith, v.small, passed_most t m.depth s.0 s.1);
        deep = next_deep d u m.at k t h refl m.depth v.deep ∙ s.1;
        told = next_par d u m.at k t h refl (has_par (take from u)) m.par v.told;
      } in
      (subst (Marked u from) s.2 w, step ∙ ap (λ (z : Mark). settled_from d (take z.at u) (drop z.at u)) s.2)

  pub turn_none : moved m (get_or u m.at k) ≡ None → deeper 0 whole ≡ None
  turn_none q = ap (deeper 0) step ∙ next_none d u m.at k (get_or u m.at k) h refl m.depth v.deep (mapped_none _ (passed (Some m.depth) (get_or u m.at k)) q)

-- the place is found
pub place_found : (d u : List Token) (n : ℕ) (at : ℕ) (k : Token) → at ≤ length u → deeper 0 (take at u) ≡ Some n → is_front (drop at u) d ≡ true → (at < length u → n ≡ 0) → settled_from d (take at u) (drop at u) ≡ take at u
place_found d u n at k h deep f z = go (cases_lt at (length u))
  where
    go : (at < length u) ⊎ (length u ≤ at) → settled_from d (take at u) (drop at u) ≡ take at u
    go (inl l) = settle_found d u at k (get_or u at k) l refl (deep ∙ ap Some (z l)) f
    go (inr l) = settle_end d u at (drop_all at u l)

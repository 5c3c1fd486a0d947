-- A token read in a delimited argument, where its settled part is a front of it.
use Rattle.std.proofs.Common.{◌≡◌, ℕ, ◌+◌, ◌≤◌, Bool, true, false, cond, not, ◌&&◌, ◌||◌, eqb, List, [], ◌∷◌, ◌++◌, length, take, drop, Some, None, sym, refl, ap, ◌∙◌, subst, inl, inr, arith}
use Rattle.std.proofs.lemmas.List.{append_assoc, append_cancel_left, take-append-drop, take-append-le, drop-append-le, length-append, length-take-le}
use Rattle.std.proofs.lemmas.Bool.{cond-false, cond_both, and_from, and_parts, false≢true}
use Rattle.std.proofs.Math.Bool.{or-false}
use Rattle.tokens.specs.declared.token.Token.{Token}
use Rattle.matching.specs.declared.refusal.MatcherRefusal.TheVariants.{Unmatched}
use Rattle.matching.specs.Braces.{has_par, same_token, is_front, deeper, is_balanced}
use Rattle.matching.specs.Dividing.{stripped, Permitted, most}
use Rattle.matching.specs.Matching.{on, Progress, Step, refuse, fewest, in_run, ended, settled_from, settled, is_complete, ran, feed}
use Rattle.matching.proofs.Settling.{Parted, parted}
use Rattle.matcher.specs.Hindering.{hindrance}
use Rattle.matcher.specs.Marks.{Marked}
use Rattle.matcher.specs.declared.mark.Mark.{Mark}
use Rattle.matcher.proofs.Hindering.{by, allowed_is}

front_shorter : (e w d : List Token) → is_front (e ++ w) d ≡ true → is_front e d ≡ true
front_shorter [] w d h = refl
front_shorter (t ∷ e) w [] h = h
front_shorter (t ∷ e) w (x ∷ d) h =
    let p = and_parts (same_token t x) (is_front (e ++ w) d) h in
    and_from (same_token t x) (is_front e d) p.0 (front_shorter e w d p.1)

test_shorter : (a b c : Bool) → (c ≡ true → b ≡ true) → (a && b) ≡ false → (a && c) ≡ false
test_shorter true b true f h = absurd (false≢true (sym h ∙ f refl))
test_shorter true b false f h = refl
test_shorter false b c f h = refl

-- what is settled stays, and the rest goes on from there
Onward : List Token → List Token → List Token → Token → List Token → Type 0
Onward d r e t s = (q : List Token) × (s ++ q ≡ r ++ e) × (settled_from d r (e ++ t ∷ []) ≡ settled_from d s (q ++ t ∷ []))

onward : (d r e : List Token) (t : Token) → Onward d r e t (settled_from d r e)
unfolding Onward
onward d r [] t = ([], refl, refl)
onward d r (x ∷ e) t =
    cond_both (is_balanced r && is_front (x ∷ e) d) _ _ (Onward d r (x ∷ e) t) (λ _. (x ∷ e, refl, refl))
    (λ un.
    let i : Onward d (r ++ x ∷ []) e t (settled_from d (r ++ x ∷ []) e) = onward d (r ++ x ∷ []) e t in
    (i.0, i.1 ∙ append_assoc r (x ∷ []) e, cond-false (is_balanced r && is_front (x ∷ (e ++ t ∷ [])) d) _ _ (test_shorter (is_balanced r) (is_front (x ∷ e) d) (is_front (x ∷ (e ++ t ∷ [])) d) (front_shorter (x ∷ e) (t ∷ []) d) un) ∙ i.2))

pub settled_push : (d u : List Token) (t : Token) (at : ℕ) → at ≤ length u → settled d u ≡ take at u → settled d (u ++ t ∷ []) ≡ settled_from d (take at (u ++ t ∷ [])) (drop at (u ++ t ∷ []))
unfolding Onward
settled_push d u t at h e =
    let i : Onward d [] u t (settled_from d [] u) = onward d [] u t in
    let q : i.0 ≡ drop at u = append_cancel_left (take at u) i.0 (drop at u) (ap (λ (s : List Token). s ++ i.0) (sym e) ∙ i.1 ∙ sym (take-append-drop at u)) in
    i.2
    ∙ ap (λ (s : List Token). settled_from d s (i.0 ++ t ∷ [])) (e ∙ sym (take-append-le at u (t ∷ []) h))
    ∙ ap (settled_from d (take at (u ++ t ∷ []))) (ap (λ (s : List Token). s ++ t ∷ []) q ∙ sym (drop-append-le at u (t ∷ []) h))

-- what is behind the settled part is no longer than the delimiter
pub pending : (d u : List Token) (at : ℕ) → at ≤ length u → settled d u ≡ take at u → length u ≤ at + length d
pending d u at h e = go (parted d u)
  where
    go : Parted d u (settled d u) → length u ≤ at + length d
    go (q, j, inl n) = omega (arith, ap length j, length-append (settled d u) q, ap length e, length-take-le at u h, ap length n)
    go (q, j, inr f) = omega (arith, ap length j, length-append (settled d u) q, ap length e, length-take-le at u h, ap length f.1.1, length-append q f.1.0)

module _ (long : Bool) (p : Progress) (d u : List Token) (t : Token) where
  pub run_unmatched : deeper 0 (settled d (u ++ t ∷ [])) ≡ None → feed long (in_run p d u) t ≡ refuse Unmatched
  run_unmatched e = ap (ran most long p d (u ++ t ∷ [])) e

  module _ (s : List Token) (k a width n : ℕ) (par : Bool) (e : settled d (u ++ t ∷ []) ≡ s) (deep : deeper 0 s ≡ Some k) (told : (not long && has_par s) ≡ (not long && par)) (sl : length s ≡ a) (dl : width ≡ length d) (count : p.counted + (a + k) + fewest p.later ≡ n) where
    pub run_on : feed long (in_run p d u) t ≡ by (cond (eqb (length (u ++ t ∷ [])) (a + width)) (ended p (stripped s) a) (on (in_run p d (u ++ t ∷ [])))) (hindrance long par n)
    run_on =
        ap (ran most long p d (u ++ t ∷ [])) (ap (deeper 0) e ∙ deep)
        ∙ allowed_is long p (settled d (u ++ t ∷ [])) (length (settled d (u ++ t ∷ [])) + k) _ par n (ap (λ (z : List Token). not long && has_par z) e ∙ told) (omega (arith, count, sl, ap length e))
        ∙ ap (λ (st : Step). by st (hindrance long par n)) last
      where
        w : List Token
        w = u ++ t ∷ []

        last : cond (is_complete d (u ++ t ∷ [])) (ended p (stripped (settled d (u ++ t ∷ []))) (length (settled d (u ++ t ∷ [])))) (on (in_run p d (u ++ t ∷ []))) ≡ cond (eqb (length (u ++ t ∷ [])) (a + width)) (ended p (stripped s) a) (on (in_run p d (u ++ t ∷ [])))
        last =
            ap (λ (z : List Token). cond (eqb (length (u ++ t ∷ [])) (length z + length d)) (ended p (stripped z) (length z)) (on (in_run p d (u ++ t ∷ [])))) e
            ∙ ap (λ (z : ℕ). cond (eqb (length (u ++ t ∷ [])) (z + length d)) (ended p (stripped s) z) (on (in_run p d (u ++ t ∷ [])))) sl
            ∙ ap (λ (z : ℕ). cond (eqb (length (u ++ t ∷ [])) (a + z)) (ended p (stripped s) a) (on (in_run p d (u ++ t ∷ [])))) (sym dl)

-- a mark in tokens is one in more tokens
pub mark_push : (u : List Token) (t : Token) (at depth : ℕ) → at ≤ length u → depth ≤ at → deeper 0 (take at u) ≡ Some depth → Marked (u ++ t ∷ []) at (record { at = at; depth = depth; par = false })
mark_push u t at depth h s e =
    record {
      within = omega (arith, length-append u (t ∷ []));
      behind = omega arith;
      small = s;
      deep = ap (deeper 0) (take-append-le at u (t ∷ []) h) ∙ e;
      told = sym (or-false (has_par (take at (u ++ t ∷ []))));
    }

-- what a mark tells of the name 257, where what stands before is permitted
pub told_par : (long : Bool) (a b x : Bool) → (not long && a) ≡ false → x ≡ (a || b) → (not long && x) ≡ (not long && b)
told_par true a b x h e = refl
told_par false true b x h e = absurd (false≢true (sym h))
told_par false false b x h e = e

-- ---- the same of all tokens then, x

module _ (long : Bool) (d u : List Token) (t : Token) (x : List Token) (e : x ≡ u ++ t ∷ []) (at depth : ℕ) (h : at ≤ length u) (small : depth ≤ at) (set : settled d u ≡ take at u) (deep : deeper 0 (take at u) ≡ Some depth) (ok : Permitted long (take at u)) where
  pub fresh : Marked x at (record { at = at; depth = depth; par = false })
  fresh = subst (λ (z : List Token). Marked z at (record { at = at; depth = depth; par = false })) (sym e) (mark_push u t at depth h small deep)

  pub settled_x : settled d x ≡ settled_from d (take at x) (drop at x)
  settled_x = subst (λ (z : List Token). settled d z ≡ settled_from d (take at z) (drop at z)) (sym e) (settled_push d u t at h set)

  before_x : take at x ≡ take at u
  before_x = ap (take at) e ∙ take-append-le at u (t ∷ []) h

  pub unmatched_x : (p : Progress) → deeper 0 (settled_from d (take at x) (drop at x)) ≡ None → feed long (in_run p d u) t ≡ refuse Unmatched
  unmatched_x p q = run_unmatched long p d u t (ap (λ (z : List Token). deeper 0 (settled d z)) (sym e) ∙ ap (deeper 0) settled_x ∙ q)

  module _ (m : Mark) (v : Marked x at m) (q : settled_from d (take at x) (drop at x) ≡ take m.at x) where
    pub settled_then : settled d x ≡ take m.at x
    settled_then = settled_x ∙ q

    pub told_then : (not long && has_par (take m.at x)) ≡ (not long && m.par)
    told_then = told_par long (has_par (take at x)) m.par (has_par (take m.at x)) (ap (λ (z : List Token). not long && has_par z) before_x ∙ ok) v.told

    pub pending_then : length x ≤ m.at + length d
    pending_then = pending d x m.at v.within settled_then

    pub fed_then : (p : Progress) (width n : ℕ) → width ≡ length d → p.counted + (m.at + m.depth) + fewest p.later ≡ n → feed long (in_run p d u) t ≡ by (cond (eqb (length x) (m.at + width)) (ended p (stripped (take m.at x)) m.at) (on (in_run p d x))) (hindrance long m.par n)
    fed_then p width n dl count =
        run_on long p d u t (take m.at x) m.depth m.at width n m.par (ap (settled d) (sym e) ∙ settled_then) v.deep told_then (length-take-le m.at x v.within) dl count
        ∙ ap (λ (z : List Token). by (cond (eqb (length z) (m.at + width)) (ended p (stripped (take m.at x)) m.at) (on (in_run p d z))) (hindrance long m.par n)) (sym e)

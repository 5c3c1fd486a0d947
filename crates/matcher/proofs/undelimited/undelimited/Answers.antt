use Rattle.std.proofs.Common.{rules, ◌≡◌, ℕ, ◌+◌, ◌-◌, Bool, true, false, cond, List, [], ◌∷◌, ◌++◌, drop, Some, None, vec_items, vec_len, sym, refl, ap, ◌∙◌, arith}
use Rattle.std.proofs.lemmas.Result.{err_from_is_err_and}
use Rattle.tokens.specs.declared.token.Token.{Token}
use Rattle.matching.specs.declared.refusal.MatcherRefusal.{MatcherRefusal}
use Rattle.matching.specs.declared.refusal.MatcherRefusal.TheVariants.{Unmatched}
use Rattle.matching.specs.Braces.{is_open, is_par}
use Rattle.matching.specs.Matching.{ended, fewest}
use Rattle.calls.specs.declared.fault.MatcherCause.TheVariants.{Matcher}
use Rattle.matcher.specs.Hindering.{hindrance}
use Rattle.matcher.proofs.Buffers.{none_from, pushed_from}
use Rattle.matcher.proofs.Going.{onward, turned, refuses, hinders}
use Rattle.matcher.proofs.Hindering.{by, unhindered}
use Rattle.matcher.proofs.Skipping.{skip_closes, skip_next}
use Rattle.matcher.proofs.undelimited.undelimited.Goals as goal

counts : (a f : ℕ) (b : Bool) (k x y : ℕ) → x ≡ a → y ≡ f → k ≡ cond b 2 1 → x + cond b 2 1 + y ≡ a + k + f
counts a f b k x y e g h = rw (e, g, h)

pub returns-then-is_close-clause-goes : goal.returns-then-is_close-clause-goes
returns-then-is_close-clause-goes g c =
    let k = c.in_ok-token.ensures in
    let long = c.args.terms.long in
    λ p u. rw c.place.ensures (refuses _ _ _ _ long Unmatched (k.goes long p) (skip_closes long p c.in_ok-token.token k.plain (sym c.if-is_close.ensures)))

pub returns-in_err-map_err-clause-goes : goal.returns-in_err-map_err-clause-goes
returns-in_err-map_err-clause-goes g c =
    let k = c.in_ok-token.ensures in
    let long = c.args.terms.long in
    let t = c.in_ok-token.token in
    let n : ℕ = c.args.terms.counted + c.least.result + c.args.terms.few in
    let bad : (r : MatcherRefusal) × (hindrance long (is_par t) n ≡ Some r) × (c.in_err-map_err.field-0.0 ≡ Matcher r (g.S.Source.place c.unblanked.new.source)) = search rules in
    let e = err_from_is_err_and c.from_residual-in_err-map_err.result c.from_residual-in_err-map_err.ensures.1 in
    λ p u. rw (e.1, e.2) (hinders _ _ _ _ long _ bad (k.goes long p) (skip_next long p t k.plain (sym c.if-is_close.ensures) (is_open t) refl n (counts _ _ (is_open t) c.least.result p.counted (fewest p.later) u.0 u.1 c.least.ensures.value)))

pub returns-clause-goes : goal.returns-clause-goes
returns-clause-goes g c =
    let k = c.in_ok-token.ensures in
    let v = c.args.gathered.now.held in
    let w = c.push_reserved.new.self in
    let long = c.args.terms.long in
    let t = c.in_ok-token.token in
    let n : ℕ = c.args.terms.counted + c.least.result + c.args.terms.few in
    let free : hindrance long (is_par t) n ≡ None = search rules in
    let shut : is_open t ≡ false = sym c.if-is_open.ensures in
    let one : c.least.result ≡ 1 = c.least.ensures.value ∙ ap (λ (b : Bool). cond b 2 1) shut in
    let ok = unhindered long (is_par t) n free in
    let e : drop (vec_len v) (vec_items w) ≡ t ∷ [] = pushed_from v w t (vec_len v) (omega arith) c.push_reserved.ensures.items ∙ ap (λ (xs : List Token). xs ++ t ∷ []) (none_from v (vec_len v) refl) in
    λ p u. turned _ _ _ _ long (k.goes long p) (skip_next long p t k.plain (sym c.if-is_close.ensures) false shut n (omega (arith, u.0, u.1, one)) ∙ ap (by _) free ∙ ap (λ (xs : List Token). ended p xs 1) (sym e))

pub returns-then-is_open-clause-goes : goal.returns-then-is_open-clause-goes
returns-then-is_open-clause-goes g c =
    let k = c.in_ok-token.ensures in
    let m = c.in_ok-group.ensures in
    let v = c.args.gathered.now.held in
    let w = c.group.new.gathered.held in
    let long = c.args.terms.long in
    let t = c.in_ok-token.token in
    let n : ℕ = c.args.terms.counted + c.least.result + c.args.terms.few in
    let free : hindrance long (is_par t) n ≡ None = search rules in
    let shut : is_open t ≡ true = sym c.if-is_open.ensures in
    let two : c.least.result ≡ 2 = c.least.ensures.value ∙ ap (λ (b : Bool). cond b 2 1) shut in
    let e : vec_len w - vec_len v + 2 ≡ c.len.result - c.len-start.result + 2 = omega (arith, c.len.ensures, c.len-start.ensures) in
    λ p u.
    onward _ _ _ _ long (turned _ _ _ _ long (k.goes long p) (skip_next long p t k.plain (sym c.if-is_close.ensures) true shut n (omega (arith, u.0, u.1, two)) ∙ ap (by _) free))
    (turned _ _ _ _ long (m.goes p u) (ap (ended p (drop (vec_len v) (vec_items w))) e))

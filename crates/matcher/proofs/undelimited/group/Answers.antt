use Rattle.std.proofs.Common.{rules, ◌≡◌, ℕ, ◌+◌, ◌-◌, [], ◌∷◌, ◌++◌, drop, Some, None, vec_items, vec_len, sym, refl, ap, ◌∙◌, subst, arith}
use Rattle.std.proofs.lemmas.List.{length_push, take_all, drop_all}
use Rattle.std.proofs.lemmas.Result.{err_from_is_err_and}
use Rattle.names.specs.Spelled.{listed}
use Rattle.matching.specs.Braces.{deeper, is_par}
use Rattle.matching.specs.Dividing.{Permitted}
use Rattle.matching.specs.Matching.{on, in_group, ended, feed}
use Rattle.matching.proofs.Valid.{permitted_none}
use Rattle.matching.specs.declared.refusal.MatcherRefusal.{MatcherRefusal}
use Rattle.calls.specs.declared.fault.MatcherCause.TheVariants.{Matcher}
use Rattle.matcher.specs.Hindering.{hindrance}
use Rattle.matcher.proofs.Buffers.{long_from, pushed_from, pushed_before}
use Rattle.matcher.proofs.Going.{stay, onward, turned, fails, hinders, read, unread}
use Rattle.matcher.proofs.Hindering.{by, unhindered, group_closes, group_deeper, group_on, group_permitted}
use Rattle.matcher.proofs.undelimited.group.Goals as goal

-- The buffer is not named: what is said holds too of one that took memory before the loop, so that the clause of capacity
-- alone refuses that.
pub group-init : goal.group-init
group-init g c =
    let start = c.len-start.result in
    let long = c.args.terms.long in (
      (λ p u. turned _ _ _ _ long (stay _ _ _ _ long (on (in_group p [])) _ _) (ap (λ xs. on (in_group p xs)) (sym (drop_all start _ (search rules))))),
      ap (deeper 0) (drop_all start _ (search rules)),
      subst (Permitted long) (sym (drop_all start _ (search rules))) (permitted_none long),
      search rules,
      search rules,
      take_all start _ (search rules),
      refl,
    )

pub group-preserved : goal.group-preserved
group-preserved g c =
    let v = c.group.gathered.held in
    let w = c.push_reserved.new.self in
    let start = c.len-start.result in
    let inner = drop start (vec_items v) in
    let t = c.in_ok-token.token in
    let m = c.in-Some.deeper in
    let long = c.args.terms.long in
    let n : ℕ = c.args.terms.counted + (c.len.result - start + 3 + m) + c.args.terms.few in
    let i = c.group.invariant in
    let deep = i.1 in
    let to = sym c.in-Some.ensures in
    let free : hindrance long (is_par t) n ≡ None = search rules in
    let ok = unhindered long (is_par t) n free in
    let e = pushed_from v w t start i.4 c.push_reserved.ensures.items in
    let k = c.in_ok-token.ensures in (
      (λ p u.
          let f : feed long (in_group p inner) t ≡ on (in_group p (drop start (vec_items w))) = group_on long p inner c.group.depth t deep m n to i.2 (omega (arith, u.0, u.1, long_from v start, length_push inner t, c.len.ensures)) ∙ ap (by (on (in_group p (inner ++ t ∷ [])))) free ∙ ap (λ xs. on (in_group p xs)) (sym e) in
          onward _ _ _ _ long (i.0 p u) (turned _ _ _ _ long (read _ _ _ _ long (in_group p inner) _ _ (listed c.needed.new.names) c.needed.new.source t k.takes k.reads) f)),
      ap (deeper 0) e ∙ group_deeper long (record { finished = []; counted = 0; later = [] }) inner c.group.depth t deep m to,
      subst (Permitted long) (sym e) (group_permitted long (record { finished = []; counted = 0; later = [] }) inner c.group.depth t deep i.2 ok.0),
      omega (arith, ok.1, c.push_reserved.ensures.len, c.len.ensures, i.4),
      omega (arith, c.push_reserved.ensures.len, i.4),
      pushed_before v w t start i.4 c.push_reserved.ensures.items ∙ i.5,
      c.push_reserved.ensures.capacity ∙ i.6,
    )

pub returns-in_err-token-clause-goes : goal.returns-in_err-token-clause-goes
returns-in_err-token-clause-goes g c =
    let t = c.in_err-token.ensures in
    let i = c.group.invariant in
    let p = err_from_is_err_and c.from_residual.result c.from_residual.ensures.1 in
    λ q u. rw (p.1, p.2) (fails _ _ _ _ _ (i.0 q u) (unread _ _ _ _ _ (in_group q _) _ _ (listed c.needed.new.names) c.needed.new.source c.in_err-token.field-0.0 t.takes t.reads))

pub returns-in_default-clause-goes : goal.returns-in_default-clause-goes
returns-in_default-clause-goes g c =
    let v = c.group.gathered.held in
    let start = c.len-start.result in
    let inner = drop start (vec_items v) in
    let t = c.in_ok-token.token in
    let long = c.args.terms.long in
    let i = c.group.invariant in
    let k = c.in_ok-token.ensures in
    λ p u.
    let f : feed long (in_group p inner) t ≡ ended p (drop (vec_len c.args.gathered.now.held) (vec_items v)) (vec_len v - vec_len c.args.gathered.now.held + 2) =
    group_closes long p inner c.group.depth t i.1 (sym c.in_default.ensures)
    ∙ ap (λ (n : ℕ). ended p inner (n + 2)) (long_from v start)
    ∙ ap (λ (n : ℕ). ended p (drop n (vec_items v)) (vec_len v - n + 2)) c.len-start.ensures in
    onward _ _ _ _ long (i.0 p u) (turned _ _ _ _ long (read _ _ _ _ long (in_group p inner) _ _ (listed c.needed.new.names) c.needed.new.source t k.takes k.reads) f)

pub returns-in_err-map_err-clause-goes : goal.returns-in_err-map_err-clause-goes
returns-in_err-map_err-clause-goes g c =
    let v = c.group.gathered.held in
    let start = c.len-start.result in
    let inner = drop start (vec_items v) in
    let t = c.in_ok-token.token in
    let m = c.in-Some.deeper in
    let long = c.args.terms.long in
    let n : ℕ = c.args.terms.counted + (c.len.result - start + 3 + m) + c.args.terms.few in
    let i = c.group.invariant in
    let to = sym c.in-Some.ensures in
    let bad : (r : MatcherRefusal) × (hindrance long (is_par t) n ≡ Some r) × (c.in_err-map_err.field-0.0 ≡ Matcher r (g.S.Source.place c.needed.new.source)) = search rules in
    let k = c.in_ok-token.ensures in
    let q = err_from_is_err_and c.from_residual-in_err-map_err.result c.from_residual-in_err-map_err.ensures.1 in
    λ p u.
    let f = group_on long p inner c.group.depth t i.1 m n to i.2 (omega (arith, u.0, u.1, long_from v start, length_push inner t, c.len.ensures)) in
    rw (q.1, q.2) (hinders _ _ _ _ long _ bad (onward _ _ _ _ long (i.0 p u) (read _ _ _ _ long (in_group p inner) _ _ (listed c.needed.new.names) c.needed.new.source t k.takes k.reads)) f)

use Rattle.std.proofs.Common.{◌≡◌, ℕ, ◌+◌, ◌-◌, ◌≤◌, true, false, eqb, List, [], ◌∷◌, ◌++◌, length, take, drop, Some, None, vec_items, vec_len, sym, refl, ap, ◌∙◌, subst, arith, rules}
use Rattle.std.proofs.lemmas.List.{length_push, drop-take, take_rest, take_all, drop_all}
use Rattle.std.proofs.lemmas.Result.{err_from_is_err_and}
use Rattle.std.proofs.lemmas.Bool.{cond-true, cond-false, eq-eqb, ne_eqb}
use Rattle.tokens.specs.declared.token.Token.{Token}
use Rattle.names.specs.Spelled.{listed}
use Rattle.matching.specs.declared.refusal.MatcherRefusal.{MatcherRefusal}
use Rattle.matching.specs.declared.refusal.MatcherRefusal.TheVariants.{Unmatched}
use Rattle.matching.specs.Braces.{deeper}
use Rattle.matching.specs.Dividing.{stripped}
use Rattle.matching.specs.Matching.{on, in_run, ended, settled, settled_from}
use Rattle.matching.proofs.Valid.{permitted_none}
use Rattle.matcher.specs.declared.mark.Mark.{Mark}
use Rattle.calls.specs.declared.fault.MatcherCause.TheVariants.{Matcher}
use Rattle.matcher.specs.Hindering.{hindrance}
use Rattle.matcher.specs.Marks.{delimiter_in, Marked}
use Rattle.matcher.proofs.Buffers.{long_from, pushed_from, pushed_before}
use Rattle.matcher.proofs.Going.{stay, onward, turned, fails, refuses, hinders, read, unread}
use Rattle.matcher.proofs.Hindering.{by, unhindered}
use Rattle.matcher.proofs.Running.{fresh, unmatched_x, settled_then, told_then, pending_then, fed_then}
use Rattle.matcher.proofs.delimited.delimited.Goals as goal

-- what the search of a place gives, of tokens that are the same
Found : List Token → ℕ → Mark → List Token → Type 0
Found d at m x = Marked x at m × (settled_from d (take at x) (drop at x) ≡ take m.at x)

-- The buffer is not named: what is said holds too of one that took memory before the loop, so that the clause of capacity
-- alone refuses that.
pub run-init : goal.run-init
run-init g c =
    let start = c.len-start.result in
    let long = c.args.terms.long in
    let d = delimiter_in c.args.delimiter.words.now in (
      (λ p u. turned _ _ _ _ long (stay _ _ _ _ long (on (in_run p d [])) _ _) (ap (λ xs. on (in_run p d xs)) (sym (drop_all start _ (search rules))))),
      ap (settled d) (drop_all start _ (search rules)),
      refl,
      permitted_none long,
      search rules,
      search rules,
      search rules,
      search rules,
      take_all start _ (search rules),
      refl,
    )

pub settle-requires : goal.settle-requires
settle-requires g c =
    let v = c.run.gathered.held in
    let w = c.push_reserved.new.self in
    let start = c.len-start.result in
    let u = drop start (vec_items v) in
    let t = c.in_ok-token.token in
    let i = c.run.invariant in
    let e : take (length c.as_slice.result.now - start) (drop start c.as_slice.result.now) ≡ u ++ t ∷ [] = take_rest c.as_slice.result.now start ∙ ap (drop start) c.as_slice.ensures.value ∙ pushed_from v w t start (omega (arith, i.6)) c.push_reserved.ensures.items in
    let d = delimiter_in c.args.delimiter.words.now in
    record {
      marked = fresh c.args.terms.long d u t (take (length c.as_slice.result.now - start) (drop start c.as_slice.result.now)) e c.run.at c.run.depth (omega (arith, long_from v start, i.6)) i.5 i.1 i.2 i.3;
      short = omega (arith, ap length e, length_push u t, long_from v start, i.7, i.4, i.6, c.args.delimiter.short);
    }

pub returns-in_err-token-clause-goes : goal.returns-in_err-token-clause-goes
returns-in_err-token-clause-goes g c =
    let t = c.in_err-token.ensures in
    let i = c.run.invariant in
    let p = err_from_is_err_and c.from_residual.result c.from_residual.ensures.1 in
    λ q u. rw (p.1, p.2) (fails _ _ _ _ _ (i.0 q u) (unread _ _ _ _ _ (in_run q _ _) _ _ (listed c.needed.new.names) c.needed.new.source c.in_err-token.field-0.0 t.takes t.reads))

pub returns-in_default-clause-goes : goal.returns-in_default-clause-goes
returns-in_default-clause-goes g c =
    let v = c.run.gathered.held in
    let w = c.push_reserved.new.self in
    let start = c.len-start.result in
    let u = drop start (vec_items v) in
    let x = drop start (vec_items w) in
    let t = c.in_ok-token.token in
    let i = c.run.invariant in
    let long = c.args.terms.long in
    let d = delimiter_in c.args.delimiter.words.now in
    let k = c.in_ok-token.ensures in
    let b : take (length c.as_slice.result.now - start) (drop start c.as_slice.result.now) ≡ x = take_rest c.as_slice.result.now start ∙ ap (drop start) c.as_slice.ensures.value in
    let e : x ≡ u ++ t ∷ [] = pushed_from v w t start (omega (arith, i.6)) c.push_reserved.ensures.items in
    let h : c.run.at ≤ length u = omega (arith, long_from v start, i.6) in
    let none : deeper 0 (settled_from d (take c.run.at x) (drop c.run.at x)) ≡ None = subst (λ (z : List Token). deeper 0 (settled_from d (take c.run.at z) (drop c.run.at z)) ≡ None) b c.in_default.ensures in
    λ p o. rw c.place.ensures (refuses _ _ _ _ long Unmatched (onward _ _ _ _ long (i.0 p o) (read _ _ _ _ long (in_run p d u) _ _ (listed c.needed.new.names) c.needed.new.source t k.takes k.reads)) (unmatched_x long d u t x e c.run.at c.run.depth h i.5 i.1 i.2 i.3 p none))

pub returns-in_err-map_err-clause-goes : goal.returns-in_err-map_err-clause-goes
unfolding Found
returns-in_err-map_err-clause-goes g c =
    let v = c.run.gathered.held in
    let w = c.push_reserved.new.self in
    let start = c.len-start.result in
    let u = drop start (vec_items v) in
    let x = drop start (vec_items w) in
    let t = c.in_ok-token.token in
    let i = c.run.invariant in
    let long = c.args.terms.long in
    let d = delimiter_in c.args.delimiter.words.now in
    let k = c.in_ok-token.ensures in
    let b : take (length c.as_slice.result.now - start) (drop start c.as_slice.result.now) ≡ x = take_rest c.as_slice.result.now start ∙ ap (drop start) c.as_slice.ensures.value in
    let e : x ≡ u ++ t ∷ [] = pushed_from v w t start (omega (arith, i.6)) c.push_reserved.ensures.items in
    let h : c.run.at ≤ length u = omega (arith, long_from v start, i.6) in
    let m = c.in-Some.next in
    let f : Found d c.run.at m x = subst (Found d c.run.at m) b c.in-Some.ensures in
    let n : ℕ = c.args.terms.counted + (m.at + m.depth) + c.args.terms.few in
    let bad : (r : MatcherRefusal) × (hindrance long m.par n ≡ Some r) × (c.in_err-map_err.field-0.0 ≡ Matcher r (g.S.Source.place c.needed.new.source)) = search rules in
    let q = err_from_is_err_and c.from_residual-in_err-map_err.result c.from_residual-in_err-map_err.ensures.1 in
    λ p o. rw (q.1, q.2) (hinders _ _ _ _ long _ bad (onward _ _ _ _ long (i.0 p o) (read _ _ _ _ long (in_run p d u) _ _ (listed c.needed.new.names) c.needed.new.source t k.takes k.reads)) (fed_then long d u t x e c.run.at c.run.depth h i.5 i.1 i.2 i.3 m f.0 f.1 p (length c.args.delimiter.words.now) n (sym c.args.delimiter.tokens) (omega (arith, o.0, o.1))))

pub run-preserved : goal.run-preserved
unfolding Found
run-preserved g c =
    let v = c.run.gathered.held in
    let w = c.push_reserved.new.self in
    let start = c.len-start.result in
    let u = drop start (vec_items v) in
    let x = drop start (vec_items w) in
    let t = c.in_ok-token.token in
    let i = c.run.invariant in
    let long = c.args.terms.long in
    let d = delimiter_in c.args.delimiter.words.now in
    let k = c.in_ok-token.ensures in
    let b : take (length c.as_slice.result.now - start) (drop start c.as_slice.result.now) ≡ x = take_rest c.as_slice.result.now start ∙ ap (drop start) c.as_slice.ensures.value in
    let e : x ≡ u ++ t ∷ [] = pushed_from v w t start (omega (arith, i.6)) c.push_reserved.ensures.items in
    let h : c.run.at ≤ length u = omega (arith, long_from v start, i.6) in
    let m = c.in-Some.next in
    let f : Found d c.run.at m x = subst (Found d c.run.at m) b c.in-Some.ensures in
    let n : ℕ = c.args.terms.counted + (m.at + m.depth) + c.args.terms.few in
    let free : hindrance long m.par n ≡ None = search rules in
    let ok = unhindered long m.par n free in
    let len : length x ≡ vec_len w - start = long_from w start in
    let other : eqb (length x) (m.at + length c.args.delimiter.words.now) ≡ false = ne_eqb (length x) (m.at + length c.args.delimiter.words.now) (λ q. c.if-len-start.false (omega (arith, q, len, c.len.ensures))) in
    let most = pending_then long d u t x e c.run.at c.run.depth h i.5 i.1 i.2 i.3 m f.0 f.1 in (
      (λ p o. onward _ _ _ _ long (i.0 p o) (turned _ _ _ _ long (read _ _ _ _ long (in_run p d u) _ _ (listed c.needed.new.names) c.needed.new.source t k.takes k.reads) (fed_then long d u t x e c.run.at c.run.depth h i.5 i.1 i.2 i.3 m f.0 f.1 p (length c.args.delimiter.words.now) n (sym c.args.delimiter.tokens) (omega (arith, o.0, o.1)) ∙ ap (by _) free ∙ cond-false (eqb (length x) (m.at + length c.args.delimiter.words.now)) _ _ other))),
      settled_then long d u t x e c.run.at c.run.depth h i.5 i.1 i.2 i.3 m f.0 f.1,
      f.0.deep,
      told_then long d u t x e c.run.at c.run.depth h i.5 i.1 i.2 i.3 m f.0 f.1 ∙ ok.0,
      ok.1,
      f.0.small,
      omega (arith, f.0.within, len, i.6, c.push_reserved.ensures.len),
      omega (arith, most, len, (sym c.args.delimiter.tokens), i.6, c.push_reserved.ensures.len, (λ (q : ◌≡◌ (c.len.result - start) (m.at + length c.args.delimiter.words.now)). c.if-len-start.false q), c.len.ensures),
      pushed_before v w t start (omega (arith, i.6)) c.push_reserved.ensures.items ∙ i.8,
      c.push_reserved.ensures.capacity ∙ i.9,
    )

pub returns-then-len-start-clause-goes : goal.returns-then-len-start-clause-goes
unfolding Found
returns-then-len-start-clause-goes g c =
    let v = c.run.gathered.held in
    let w = c.push_reserved.new.self in
    let start = c.len-start.result in
    let u = drop start (vec_items v) in
    let x = drop start (vec_items w) in
    let t = c.in_ok-token.token in
    let i = c.run.invariant in
    let long = c.args.terms.long in
    let d = delimiter_in c.args.delimiter.words.now in
    let k = c.in_ok-token.ensures in
    let b : take (length c.as_slice.result.now - start) (drop start c.as_slice.result.now) ≡ x = take_rest c.as_slice.result.now start ∙ ap (drop start) c.as_slice.ensures.value in
    let e : x ≡ u ++ t ∷ [] = pushed_from v w t start (omega (arith, i.6)) c.push_reserved.ensures.items in
    let h : c.run.at ≤ length u = omega (arith, long_from v start, i.6) in
    let m = c.in-Some.next in
    let f : Found d c.run.at m x = subst (Found d c.run.at m) b c.in-Some.ensures in
    let n : ℕ = c.args.terms.counted + (m.at + m.depth) + c.args.terms.few in
    let z = c.truncate.new.self in
    let free : hindrance long m.par n ≡ None = search rules in
    let ok = unhindered long m.par n free in
    let len : length x ≡ vec_len w - start = long_from w start in
    let all : eqb (length x) (m.at + length c.args.delimiter.words.now) ≡ true = eq-eqb (length x) (m.at + length c.args.delimiter.words.now) (omega (arith, len, c.if-len-start.true, c.len.ensures)) in
    let cut : take m.at x ≡ drop (vec_len c.args.gathered.now.held) (vec_items z) = sym (drop-take start m.at (vec_items w)) ∙ ap (drop start) (sym c.truncate.ensures.items) ∙ ap (λ (q : ℕ). drop q (vec_items z)) c.len-start.ensures in
    let short : start + m.at ≤ vec_len w = omega (arith, f.0.within, len, i.6, c.push_reserved.ensures.len) in
    λ p o. onward _ _ _ _ long (i.0 p o) (turned _ _ _ _ long (read _ _ _ _ long (in_run p d u) _ _ (listed c.needed.new.names) c.needed.new.source t k.takes k.reads) (fed_then long d u t x e c.run.at c.run.depth h i.5 i.1 i.2 i.3 m f.0 f.1 p (length c.args.delimiter.words.now) n (sym c.args.delimiter.tokens) (omega (arith, o.0, o.1)) ∙ ap (by _) free ∙ cond-true (eqb (length x) (m.at + length c.args.delimiter.words.now)) _ _ all ∙ ap (λ (q : List Token). ended p (stripped q) m.at) cut))

use Rattle.std.proofs.Common.{◌≡◌, ◌+◌, ◌≤◌, ◌++◌, length, vec_items, vec_len, refl, ap, ◌∙◌, arith}
use Rattle.std.specs.Slice.Iter.{iter_rest}
use Rattle.std.specs.Iterator.Adapters.{rev_source}
use Rattle.std.proofs.lemmas.List.{length-reverse}
use Rattle.piles.specs.Helds.{held_tokens}
use Rattle.piles.proofs.Reversed.{nothing_over, length_over, put_over}
use Rattle.piles.proofs.held.Held.put.Goals as goal

pub loop-token-init : goal.loop-token-init
loop-token-init c =
    let v = c.args.self.now.tokens.held in
    let e : iter_rest (rev_source c.into_iter-token-iterator.result) ≡ c.args.tokens.now = ap (λ r. iter_rest (rev_source r)) c.into_iter-token-iterator.ensures.into_iter_gives ∙ ap iter_rest c.rev-token-items.ensures.source ∙ c.iter.ensures.rest in
    (tt, tt, ap (λ l. l ++ held_tokens c.args.self.now) e, omega (arith, c.requires, v.ok.0, length-reverse (vec_items v), ap length e))

pub loop-token-preserved : goal.loop-token-preserved
loop-token-preserved c =
    let v = c.loop-token.self.tokens.held in
    let w = c.push_reserved.new.self in
    let rest = iter_rest (rev_source c.loop-token.token-iterator) in
    let less = iter_rest (rev_source c.next.new.self) in
    let e = c.in-Some.ensures.steps in
    let m : vec_len w ≤ vec_len v + 1 = omega (arith, c.push_reserved.ensures.len) in (
      tt,
      tt,
      put_over rest less (vec_items v) (vec_items w) (c.args.tokens.now ++ held_tokens c.args.self.now) c.in-Some.token.now e c.push_reserved.ensures.items c.loop-token.invariant.2,
      length_over rest less c.in-Some.token.now (vec_len v) (vec_len w) e m c.loop-token.invariant.3,
    )

pub returns : goal.returns
returns c =
    nothing_over (iter_rest (rev_source c.loop-token.token-iterator)) (held_tokens c.loop-token.self) (c.args.tokens.now ++ held_tokens c.args.self.now) (λ ts. ts) c.in-None.ensures.steps.0 refl c.loop-token.invariant.2

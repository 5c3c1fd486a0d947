use Rattle.std.proofs.Common.{◌≡◌, ◌+◌, ◌≤◌, ◌++◌, length, vec_items, vec_len, refl, ap, ◌∙◌, arith}
use Rattle.std.specs.Slice.Iter.{iter_rest}
use Rattle.std.specs.Iterator.Adapters.{rev_source}
use Rattle.std.proofs.lemmas.List.{length-reverse}
use Rattle.piles.specs.Inserting.{tokens_in}
use Rattle.piles.specs.Helds.{held_tokens}
use Rattle.piles.proofs.Reversed.{nothing_over, length_over, word_over, word_skipped}
use Rattle.piles.proofs.held.Held.put_words.Goals as goal

pub loop-word-init : goal.loop-word-init
loop-word-init c =
    let v = c.args.self.now.tokens.held in
    let e : iter_rest (rev_source c.into_iter-word-iterator.result) ≡ c.args.words.now = ap (λ r. iter_rest (rev_source r)) c.into_iter-word-iterator.ensures.into_iter_gives ∙ ap iter_rest c.rev-word-items.ensures.source ∙ c.iter.ensures.rest in
    (tt, tt, ap (λ l. tokens_in l ++ held_tokens c.args.self.now) e, omega (arith, c.requires, v.ok.0, length-reverse (vec_items v), ap length e))

pub loop-word-preserved-in-Ok : goal.loop-word-preserved-in-Ok
loop-word-preserved-in-Ok c =
    let v = c.loop-word.self.tokens.held in
    let w = c.push_reserved.new.self in
    let rest = iter_rest (rev_source c.loop-word.word-iterator) in
    let less = iter_rest (rev_source c.next.new.self) in
    let e = c.in-Some.ensures.steps in
    let m : vec_len w ≤ vec_len v + 1 = omega (arith, c.push_reserved.ensures.len) in (
      tt,
      tt,
      word_over rest less c.in-Some.word.now (vec_items v) (vec_items w) (tokens_in c.args.words.now ++ held_tokens c.args.self.now) c.in-Ok.token e (let k = c.in-Ok.ensures.0 in grind arith) c.push_reserved.ensures.items c.loop-word.invariant.2,
      length_over rest less c.in-Some.word.now (vec_len v) (vec_len w) e m c.loop-word.invariant.3,
    )

pub loop-word-preserved : goal.loop-word-preserved
loop-word-preserved c =
    let v = c.loop-word.self.tokens.held in
    let rest = iter_rest (rev_source c.loop-word.word-iterator) in
    let less = iter_rest (rev_source c.next.new.self) in
    let e = c.in-Some.ensures.steps in
    let m : vec_len v ≤ vec_len v + 1 = omega arith in (
      tt,
      tt,
      word_skipped rest less c.in-Some.word.now (held_tokens c.loop-word.self) (tokens_in c.args.words.now ++ held_tokens c.args.self.now) e (let k = c.in_default.ensures.0 in grind arith) c.loop-word.invariant.2,
      length_over rest less c.in-Some.word.now (vec_len v) (vec_len v) e m c.loop-word.invariant.3,
    )

pub returns : goal.returns
returns c =
    nothing_over (iter_rest (rev_source c.loop-word.word-iterator)) (held_tokens c.loop-word.self) (tokens_in c.args.words.now ++ held_tokens c.args.self.now) tokens_in c.in-None.ensures.steps.0 refl c.loop-word.invariant.2

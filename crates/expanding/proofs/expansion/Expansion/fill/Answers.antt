use Rattle.std.proofs.Common.{◌+◌, List, ◌++◌, length, drop, vec_items, vec_capacity, ap, ◌∙◌, arith}
use Rattle.std.proofs.lemmas.List.{length-append}
use Rattle.tokens.specs.declared.token.Token.{Token}
use Rattle.matcher.specs.Held.{arguments_of}
use Rattle.expanding.specs.Substituting.{substituted}
use Rattle.expanding.proofs.Bodies.{long_word, written}
use Rattle.expanding.proofs.expansion.Expansion.fill.Goals as goal
use Rattle.expanding.proofs.expansion.Expansion.fill.Goals.{in-Token, in-Reference}

pub append-requires : goal.append-requires
append-requires c =
    let args = arguments_of c.args.arguments.now in
    let ws = c.args.body.now in
    let v = c.body.self.tokens.held in
    let e = long_word args ws c.body.word-index _ _ c.body-test.true c.in-Reference.is in
    omega (arith, e, v.ok.0, length-append (vec_items v) (substituted args (drop c.body.word-index ws)), ap length c.body.invariant.0, c.body.self.tokens.room, c.requires.fits, ap length c.referred.ensures)

pub body-preserved : goal.body-preserved
body-preserved c =
    let args = arguments_of c.args.arguments.now in
    let ws = c.args.body.now in
    let v = c.body.self.tokens.held in
    elim c.match-word.branch [
      | in-Token w ↦ (
        ap (λ (z : _). vec_items z.tokens.held ++ substituted args (drop (c.body.word-index + 1) ws)) w.self-is
            ∙ written args ws c.body.word-index _ _ c.body-test.true w.in-Token.is (vec_items v) (vec_items w.push_reserved.new.self) w.push_reserved.ensures.items ∙ c.body.invariant.0,
        ap (λ (z : _). vec_capacity z.tokens.held) w.self-is ∙ w.push_reserved.ensures.capacity ∙ c.body.invariant.1,
      )
      | in-Reference w ↦ (
        ap (λ (z : _). vec_items z.tokens.held ++ substituted args (drop (c.body.word-index + 1) ws)) w.self-is
            ∙ written args ws c.body.word-index _ _ c.body-test.true w.in-Reference.is (vec_items v) (vec_items w.append.new.tokens) (w.append.ensures.items ∙ ap (λ (z : List Token). vec_items v ++ z) w.referred.ensures) ∙ c.body.invariant.0,
        ap (λ (z : _). vec_capacity z.tokens.held) w.self-is ∙ w.append.ensures.capacity ∙ c.body.invariant.1,
      )
    ]

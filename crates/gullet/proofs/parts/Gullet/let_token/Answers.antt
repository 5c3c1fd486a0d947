use Rattle.std.proofs.Common.{refl}
use Rattle.rules.specs.Assigning.{let_as}
use Rattle.gullet.specs.Targets.{let_ahead}
use Rattle.gullet.proofs.Doing.{fed_then, fed_short}
use Rattle.gullet.proofs.Finished.{let_same}
use Rattle.gullet.proofs.parts.Gullet.let_token.Goals as goal

pub returns-in_err-token-clause-does : goal.returns-in_err-token-clause-does
returns-in_err-token-clause-does g c =
    let e = c.in_err-token.ensures in
    fed_short let_ahead (λ z t r. let_as z c.args.name c.args.scope t r) c.args.self.now c.from_residual.result c.in_err-token.field-0.0 c.from_residual.ensures.1 e.answer e.stands refl

pub returns-clause-does : goal.returns-clause-does
returns-clause-does g c =
    let e = c.in_ok-token.ensures in
    let t = c.in_ok-token.token in
    fed_then let_ahead (λ z t r. let_as z c.args.name c.args.scope t r) c.args.self.now t e.answer e.stands refl (λ z q. let_same c.args.name c.args.scope t z q q) c.give_alike.ensures.does

pub returns-clause-onward : goal.returns-clause-onward
returns-clause-onward g c = rw c.give_alike.ensures.below c.in_ok-token.ensures.onward

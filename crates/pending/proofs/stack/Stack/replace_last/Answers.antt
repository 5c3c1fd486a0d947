use Rattle.std.proofs.Common.{ap, ◌∙◌}
use Rattle.pending.specs.Stacked.{items_of, with_newest}
use Rattle.pending.proofs.Ends.{set_last}
use Rattle.pending.proofs.stack.Stack.replace_last.Goals as goal

pub returns-clause-items : goal.returns-clause-items
returns-clause-items g c =
    let s = c.args.self.now in
    ap (λ x. items_of (with_newest s x)) c.replace.ensures.after ∙ set_last s.held.items c.args.item

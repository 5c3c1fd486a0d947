use Rattle.std.proofs.Common.{rules, tests, ◌∙◌}
use Rattle.std.proofs.lemmas.Iterator.Adapters.{YieldsList-from_rev_slice}
use Rattle.std.proofs.lemmas.Iterator.Consumers.{count_from_yields_List}
use Rattle.std.proofs.lemmas.Iterator.Search.{YieldsList-from_take_while}
use Rattle.std.proofs.lemmas.List.Folds.{length-prefix_len}
use Rattle.pending.specs.Underway.{tasks_of}
use Rattle.pending.proofs.Waiting.{waits, waiting_length}
use Rattle.pending.proofs.waits.Tasks.waiting.Goals as goal

pub returns : goal.returns
returns c =
    let me = c.args.self.now in
    count_from_yields_List c.take_while.result _ c.count.ensures.ran (YieldsList-from_take_while _ waits (YieldsList-from_rev_slice me.held.items (cc)) c.take_while.ensures.closure c.take_while.ensures.done (λ x b q k. search (rules, tests)))
    ∙ length-prefix_len waits (tasks_of me)
    ∙ waiting_length (tasks_of me)

use Rattle.std.proofs.Common.{◌≡◌, ◌-◌, reverse, length, take, ap, ◌∙◌, arith}
use Rattle.pending.specs.Underway.{tasks_of, waiting_of}
use Rattle.pending.proofs.Waiting.{waiting_within, kept_tasks}
use Rattle.pending.proofs.waits.Tasks.end_waiting.Goals as goal

pub overflow_sub-kept : goal.overflow_sub-kept
overflow_sub-kept c =
    let xs = c.args.self.now.held.items in
    omega (arith, c.waiting.ensures, c.len.ensures.value, waiting_within xs)

pub returns : goal.returns
returns c =
    let xs = c.args.self.now.held.items in
    let n : c.len.result - c.waiting.result ≡ length xs - length (waiting_of (tasks_of c.args.self.now)) = omega (arith, c.waiting.ensures, c.len.ensures.value) in
    ap reverse c.truncate.ensures.items ∙ ap (λ k. reverse (take k xs)) n ∙ kept_tasks xs

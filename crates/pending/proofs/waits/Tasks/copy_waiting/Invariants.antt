use Rattle.std.proofs.Common.{◌≡◌, ◌+◌, ◌-◌, ◌≤◌, ◌++◌, length, drop, vec_items, vec_len, vec_capacity}
use Rattle.pending.specs.Underway.{tasks_of, waiting_of}
use Rattle.pending.proofs.Waiting.{tokens_in}
use Rattle.pending.proofs.waits.Tasks.copy_waiting.Given as goal

-- what is copied, with what is left, is all; there is room for what is left
abbrev pub invariant-loop-task : goal.invariant-loop-task
invariant-loop-task l =
    (vec_items l.tokens ++ tokens_in (drop l.task-index l.task-items) ≡ vec_items l.initial.tokens ++ waiting_of (tasks_of l.self))
    × (vec_len l.tokens + (length l.task-items - l.task-index) ≤ vec_capacity l.tokens)
    × (vec_capacity l.tokens ≡ vec_capacity l.initial.tokens)

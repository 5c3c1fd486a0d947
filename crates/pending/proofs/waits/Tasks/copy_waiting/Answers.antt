use Rattle.std.proofs.Common.{◌≡◌, ◌-◌, ◌++◌, length, take, drop, vec_items, vec_len, vec_capacity, length-take-le, refl, ap, ◌∙◌, arith}
use Rattle.pending.specs.Underway.{tasks_of, waiting_of}
use Rattle.pending.proofs.Waiting.{tokens_in, waiting_within, waiting_part, copy_token, copy_none, copy_done}
use Rattle.pending.proofs.waits.Tasks.copy_waiting.Goals as goal
use Rattle.pending.proofs.waits.Tasks.copy_waiting.Goals.{in-After, in_default}

pub overflow_sub-task-items : goal.overflow_sub-task-items
overflow_sub-task-items c = omega (arith, c.waiting-count.ensures, c.len-2.ensures.value, waiting_within c.args.self.now.held.items)

pub loop-task-init : goal.loop-task-init
loop-task-init c =
    let xs = c.args.self.now.held.items in
    let now = c.args.tokens.now in
    let n = c.len-2.result - c.waiting-count.result in
    let e : n ≡ length xs - length (waiting_of (tasks_of c.args.self.now)) = omega (arith, c.waiting-count.ensures, c.len-2.ensures.value) in (
      ap (λ l. vec_items now ++ tokens_in (take (length l - n) (drop n l))) c.deref.ensures.0 ∙ ap (λ l. vec_items now ++ l) (waiting_part xs n e),
      omega (arith, c.if-capacity-len.false, c.capacity.ensures, c.len.ensures, c.len-2.ensures.value, c.waiting-count.ensures, waiting_within xs, ap length c.deref.ensures.0, length-take-le (length c.deref.result.now - n) (drop n c.deref.result.now), now.ok.1),
      refl,
    )

pub push_reserved-requires : goal.push_reserved-requires
push_reserved-requires c = omega (arith, c.loop-task.invariant.1, c.loop-task-test.true)

pub loop-task-preserved : goal.loop-task-preserved
loop-task-preserved c =
    let i = c.loop-task.task-index in
    let copied = vec_items c.loop-task.tokens in
    let all = vec_items c.args.tokens.now ++ waiting_of (tasks_of c.args.self.now) in
    let h = c.loop-task-test.true in
    let inv = c.loop-task.invariant in
    elim c.match-task.branch [
      | in-After w ↦ (
        copy_token _ i copied all _ w.in-After.token (vec_items c.match-task.tokens) h w.in-After.is (ap vec_items w.tokens-is ∙ w.push_reserved.ensures.items) inv.0,
        omega (arith, inv.1, h, ap vec_len w.tokens-is, w.push_reserved.ensures.len, ap vec_capacity w.tokens-is, w.push_reserved.ensures.capacity),
        ap vec_capacity w.tokens-is ∙ w.push_reserved.ensures.capacity ∙ inv.2,
      )
      | in_default w ↦ (
        copy_none _ i copied all _ w.in_default.field-0 (vec_items c.match-task.tokens) h w.in_default.is (ap vec_items w.tokens-is) inv.0,
        omega (arith, inv.1, h, ap vec_len w.tokens-is, ap vec_capacity w.tokens-is),
        ap vec_capacity w.tokens-is ∙ inv.2,
      )
    ]

pub returns-clause-tokens : goal.returns-clause-tokens
returns-clause-tokens c =
    let now = c.args.tokens.now in
    copy_done _ c.loop-task.task-index (vec_items c.loop-task.tokens) (vec_items now ++ waiting_of (tasks_of c.args.self.now)) (omega (arith, c.loop-task-test.false)) c.loop-task.invariant.0

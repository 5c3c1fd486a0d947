use Rattle.std.proofs.Common.{List, [], ◌++◌, ap, ◌∙◌}
use Rattle.std.proofs.lemmas.Result.{err_from_is_err_and}
use Rattle.pending.specs.declared.conditional.Part.{Part}
use Rattle.pending.specs.Underway.{tasks_of, waiting_of}
use Rattle.piles.specs.Helds.{held_tokens}
use Rattle.piles.specs.Inserting.{put_back}
use Rattle.rules.specs.Readers.{reader}
use Rattle.rules.specs.States.{state}
use Rattle.gullet.specs.Faults.{placed}
use Rattle.gullet.specs.States.{state_of}
use Rattle.gullet.specs.Turns.{turned}
use Rattle.gullet.proofs.Completed.{turned_answer, turned_state, kept_state}
use Rattle.gullet.proofs.parts.Gullet.conclude.Goals as goal

pub returns-in_err-answer-clause-does : goal.returns-in_err-answer-clause-does
returns-in_err-answer-clause-does g c =
    let me = c.args.self.now in
    let s = state_of me in
    let x = put_back (waiting_of (tasks_of me.tasks) ++ []) (held_tokens me.source.held) in
    let p = g.S.Source.place c.complete.new.self.source.below in
    let turn = turned c.args.turn in
    let e = c.in_err-answer.ensures.does in
    let b = c.in_err-answer.field-0.0 in
    let q = err_from_is_err_and c.from_residual.result c.from_residual.ensures.1 in
    record {
      answer = λ read. rw (q.1, q.2) (e.answer read ∙ ap (placed p) (turned_answer s (reader s.stands read) s.conditionals turn p x));
      state = λ read. rw q.1 (kept_state s (reader s.stands read) s.conditionals turn p x b _ (e.answer read) (e.state read));
    }

pub returns-clause-does : goal.returns-clause-does
returns-clause-does g c =
    let me = c.args.self.now in
    let s = state_of me in
    let x = put_back (waiting_of (tasks_of me.tasks) ++ []) (held_tokens me.source.held) in
    let after = state_of c.complete.new.self in
    let p = g.S.Source.place c.complete.new.self.source.below in
    let turn = turned c.args.turn in
    let e = c.in_ok-answer.ensures.does in
    record {
      answer = λ read. e.answer read ∙ ap (placed p) (turned_answer s (reader s.stands read) s.conditionals turn p x);
      state = λ read. ap (λ (cs : List Part). state after.stands after.book cs after.tasks) c.turn_to.ensures
          ∙ turned_state s (reader s.stands read) s.conditionals turn p x c.in_ok-answer.answer after (e.answer read) (e.state read);
    }

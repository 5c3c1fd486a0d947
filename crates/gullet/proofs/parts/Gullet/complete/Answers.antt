use Rattle.std.proofs.Common.{◌≡◌, ◌≤◌, ◌++◌, Ok, is_ok, vec_items, vec_len, vec_capacity, arith}
use Rattle.piles.specs.Helds.{held_tokens}
use Rattle.piles.specs.Inserting.{put_back, put_answer}
use Rattle.pending.specs.Underway.{tasks_of, waiting_of}
use Rattle.rules.specs.Readers.{reader}
use Rattle.gullet.specs.States.{state_of}
use Rattle.gullet.proofs.Completed.{put_answer_lem, put_state, in_front}
use Rattle.gullet.proofs.parts.Gullet.complete.Goals as goal

pub returns-clause-does : goal.returns-clause-does
returns-clause-does g c =
    let me = c.args.self.now in
    let s = state_of me in
    let cap = c.clear.ensures.capacity in
    let room = me.waiting.room in
    let enough : 64 ≤ vec_capacity c.clear.new.self = omega arith in
    let w = in_front me.tasks (vec_len c.clear.new.self) (vec_capacity c.clear.new.self) (is_ok c.copy_waiting.result) (vec_items c.clear.new.self) (vec_items c.copy_waiting.new.tokens) c.deref.result.now enough c.clear.ensures.len c.clear.ensures.items c.copy_waiting.ensures.answer c.copy_waiting.ensures.tokens c.deref.ensures.value in
    let e = c.in_ok-put_behind.ensures in
    let x = put_back (waiting_of (tasks_of me.tasks) ++ c.args.res.now) (held_tokens me.source.held) in
    let a : Ok tt ≡ put_answer (g.S.Source.place me.source.below) x = rw w at e.answer in
    record {
      answer = λ read. rw e.below (put_answer_lem s (reader s.stands read) s.conditionals (g.S.Source.place me.source.below) x a);
      state = λ read. rw (c.end_waiting.ensures, e.held, e.below, w) (put_state s (reader s.stands read) s.conditionals (g.S.Source.place me.source.below) x a);
    }

use Rattle.std.proofs.Common.{◌<◌, List, [], length, sym, ap, ◌∙◌, subst}
use Rattle.driving.specs.declared.status.Status.TheVariants.{Skipping}
use Rattle.pending.specs.declared.conditional.Part.{Part}
use Rattle.rules.specs.declared.phases.Until.TheVariants.{ElseOrFi}
use Rattle.rules.specs.Expanding.{decided, skipped_to}
use Rattle.rules.specs.Readers.{reader}
use Rattle.rules.specs.States.{State, completed}
use Rattle.gullet.specs.declared.turn.Turn.{Turn}
use Rattle.gullet.specs.declared.turn.Turn.TheVariants.{Begin}
use Rattle.gullet.specs.Fed.{stays}
use Rattle.gullet.specs.Passing.{skipping}
use Rattle.gullet.specs.States.{state_of}
use Rattle.gullet.specs.Turns.{turned}
use Rattle.gullet.proofs.Doing.{err_is, does_as, does_then, does_short}
use Rattle.gullet.proofs.Holding.{onward_both}
use Rattle.gullet.proofs.Passed.{skipped_to_lem, skipped_elsewhere, decided_true, decided_false}
use Rattle.gullet.proofs.parts.Gullet.decide.Goals as goal

pub returns-then-truth-clause-does : goal.returns-then-truth-clause-does
returns-then-truth-clause-does g c =
    let s = state_of c.args.self.now in
    does_as (λ z r. completed z r (turned Begin z.conditionals) []) (λ z r. decided z r c.args.truth)
    (λ read. sym (decided_true s c.requires.few c.args.truth (reader s.stands read) c.if-truth.true)) c.conclude.ensures.does

pub returns-then-truth-clause-onward : goal.returns-then-truth-clause-onward
returns-then-truth-clause-onward g c = stays c.conclude.ensures.below

pub returns-in_err-found-clause-does : goal.returns-in_err-found-clause-does
returns-in_err-found-clause-does g c =
    let s = state_of c.args.self.now in
    let e = c.in_err-found.ensures.finds in
    does_as _ (λ z r. decided z r c.args.truth) (λ read. sym (decided_false s c.args.truth (reader s.stands read) c.if-truth.false))
    (does_short Skipping (λ z r. skipping z r ElseOrFi) skipped_to c.from_residual.result c.in_err-found.field-0.0 (err_is _ _ c.from_residual.ensures.1) e.answer e.state)

pub returns-clause-does : goal.returns-clause-does
returns-clause-does g c =
    let s = state_of c.args.self.now in
    let mid = state_of c.skip.new.self in
    let e = c.in_ok-found.ensures.finds in
    let o = c.in_ok-found.found in
    let few : length mid.conditionals < 100 = subst (λ (cs : List Part). length cs < 100) (sym (ap (λ (z : State). z.conditionals) (e.state []))) c.requires.few in
    does_as _ (λ z r. decided z r c.args.truth) (λ read. sym (decided_false s c.args.truth (reader s.stands read) c.if-truth.false))
    (does_then Skipping (λ z r. skipping z r ElseOrFi) skipped_to o e.answer e.state (λ z q. skipped_elsewhere z q q o)
    (does_as (λ z r. completed z r (turned c.from.result z.conditionals) []) (λ z r. skipped_to z o r)
    (λ read. ap (λ (t : Turn). completed mid (reader mid.stands read) (turned t mid.conditionals) []) c.from.ensures ∙ sym (skipped_to_lem mid few o (reader mid.stands read))) c.conclude-2.ensures.does))

pub returns-clause-onward : goal.returns-clause-onward
returns-clause-onward g c = onward_both g.S.Source.reads _ c.in_ok-found.ensures.onward (stays c.conclude-2.ensures.below)

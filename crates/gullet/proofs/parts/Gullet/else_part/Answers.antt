use Rattle.std.proofs.Common.{rules, ◌≡◌, true, [], sym, refl, ◌∙◌}
use Rattle.driving.specs.declared.status.Status.TheVariants.{Skipping}
use Rattle.pending.specs.Fronts.{front, behind}
use Rattle.rules.specs.declared.phases.Until.TheVariants.{OnlyFi}
use Rattle.rules.specs.Expanding.{at_else_of}
use Rattle.rules.specs.Readers.{reader}
use Rattle.rules.specs.States.{completed}
use Rattle.gullet.specs.Fed.{stays}
use Rattle.gullet.specs.Passing.{skipping}
use Rattle.gullet.specs.States.{state_of}
use Rattle.gullet.proofs.Doing.{err_is, does_as, does_then, does_short}
use Rattle.gullet.proofs.Holding.{onward_both}
use Rattle.gullet.proofs.Passed.{is_first, else_skips, elsewhere}
use Rattle.gullet.proofs.parts.Gullet.else_part.Goals as goal

pub returns-then-ne-clause-onward : goal.returns-then-ne-clause-onward
returns-then-ne-clause-onward g c = stays refl

pub returns-in_err-skip-clause-does : goal.returns-in_err-skip-clause-does
returns-in_err-skip-clause-does g c =
    let s = state_of c.args.self.now in
    let n : is_first (front s.conditionals) ≡ true = search rules in
    let e = c.skip.ensures.finds in
    does_as _ (λ z r. at_else_of z r z.conditionals) (λ read. sym (else_skips s (reader s.stands read) s.conditionals n))
    (does_short Skipping (λ z r. skipping z r OnlyFi) (λ z o r. completed z r (behind z.conditionals) []) c.from_residual.result c.in_err-skip.field-0.0 (err_is _ _ c.from_residual.ensures.1) (λ read. sym c.in_err-skip.was ∙ e.answer read) e.state)

pub returns-clause-does : goal.returns-clause-does
returns-clause-does g c =
    let s = state_of c.args.self.now in
    let n : is_first (front s.conditionals) ≡ true = search rules in
    let e = c.skip.ensures.finds in
    does_as _ (λ z r. at_else_of z r z.conditionals) (λ read. sym (else_skips s (reader s.stands read) s.conditionals n))
    (does_then Skipping (λ z r. skipping z r OnlyFi) (λ z o r. completed z r (behind z.conditionals) []) c.in_ok-skip.field-0 (λ read. sym c.in_ok-skip.was ∙ e.answer read) e.state (λ z q. elsewhere z q q (behind z.conditionals) []) c.conclude.ensures.does)

pub returns-clause-onward : goal.returns-clause-onward
returns-clause-onward g c = onward_both g.S.Source.reads _ c.skip.ensures.onward (stays c.conclude.ensures.below)

use Rattle.std.proofs.Common.{◌≡◌, ◌<◌, [], length, sym, refl, ◌∙◌, arith}
use Rattle.std.proofs.lemmas.Bool.{eqb-true, eqb-false}
use Rattle.pending.specs.Fronts.{behind}
use Rattle.pending.specs.Stacked.{items_of}
use Rattle.pending.proofs.Parts.{parts_count}
use Rattle.rules.specs.declared.refusal.GulletRefusal.TheVariants.{Misplaced}
use Rattle.rules.specs.Expanding.{at_fi_of}
use Rattle.rules.specs.Readers.{reader}
use Rattle.rules.specs.States.{completed}
use Rattle.gullet.specs.Fed.{stays}
use Rattle.gullet.specs.States.{state_of}
use Rattle.gullet.proofs.Doing.{does_as, does_refuse}
use Rattle.gullet.proofs.Passed.{fi_refused, fi_closes}
use Rattle.gullet.proofs.parts.Gullet.end_conditional.Goals as goal

pub returns-then-is_empty-clause-does : goal.returns-then-is_empty-clause-does
returns-then-is_empty-clause-does g c =
    let s = state_of c.args.self.now in
    let n : length s.conditionals ≡ 0 = parts_count c.args.self.now.conditionals ∙ eqb-true (length (items_of c.args.self.now.conditionals)) 0 (sym c.is_empty.ensures ∙ c.if-is_empty.true) in
    does_refuse _ Misplaced (λ z r. at_fi_of z r z.conditionals) c.refusal.ensures (λ read. sym (fi_refused s (reader s.stands read) s.conditionals n))

pub returns-then-is_empty-clause-onward : goal.returns-then-is_empty-clause-onward
returns-then-is_empty-clause-onward g c = stays refl

pub returns-clause-does : goal.returns-clause-does
returns-clause-does g c =
    let s = state_of c.args.self.now in
    let n : 0 < length s.conditionals = omega (arith, parts_count c.args.self.now.conditionals, eqb-false (length (items_of c.args.self.now.conditionals)) 0 (sym c.is_empty.ensures ∙ c.if-is_empty.false)) in
    does_as (λ z r. completed z r (behind z.conditionals) []) (λ z r. at_fi_of z r z.conditionals) (λ read. sym (fi_closes s (reader s.stands read) s.conditionals n)) c.conclude.ensures.does

pub returns-clause-onward : goal.returns-clause-onward
returns-clause-onward g c = stays c.conclude.ensures.below

use Rattle.std.proofs.Common.{◌≡◌, true, false, leb, length, sym, refl, ap, ◌∙◌}
use Rattle.std.proofs.lemmas.Bool.{leb-false}
use Rattle.pending.specs.Opened.{parts_of}
use Rattle.pending.proofs.Parts.{parts_count}
use Rattle.rules.specs.declared.refusal.GulletRefusal.TheVariants.{ConditionalsFull}
use Rattle.rules.specs.Expanding.{compared, unless_open}
use Rattle.rules.specs.Readers.{reader}
use Rattle.gullet.specs.Fed.{stays}
use Rattle.gullet.specs.States.{state_of}
use Rattle.gullet.proofs.Doing.{does_as, does_refuse}
use Rattle.gullet.proofs.Passed.{unless_full, unless_few}
use Rattle.gullet.proofs.parts.Gullet.begin_compared.Goals as goal

pub compare-requires : goal.compare-requires
compare-requires g c =
    record { few = leb-false 100 (length (parts_of c.args.self.now.conditionals)) (ap (leb 100) (parts_count c.args.self.now.conditionals) ∙ sym c.is_full.ensures ∙ c.if-is_full.false) }

pub returns-then-is_full-clause-does : goal.returns-then-is_full-clause-does
returns-then-is_full-clause-does g c =
    let s = state_of c.args.self.now in
    let full : leb 100 (length s.conditionals) ≡ true = ap (leb 100) (parts_count c.args.self.now.conditionals) ∙ sym c.is_full.ensures ∙ c.if-is_full.true in
    does_refuse _ ConditionalsFull (λ z r. unless_open z r (compared z r)) c.refusal.ensures (λ read. sym (unless_full s (reader s.stands read) (compared s (reader s.stands read)) full))

pub returns-then-is_full-clause-onward : goal.returns-then-is_full-clause-onward
returns-then-is_full-clause-onward g c = stays refl

pub returns-clause-does : goal.returns-clause-does
returns-clause-does g c =
    let s = state_of c.args.self.now in
    let few : leb 100 (length s.conditionals) ≡ false = ap (leb 100) (parts_count c.args.self.now.conditionals) ∙ sym c.is_full.ensures ∙ c.if-is_full.false in
    does_as compared (λ z r. unless_open z r (compared z r)) (λ read. sym (unless_few s (reader s.stands read) (compared s (reader s.stands read)) few)) c.compare.ensures.does

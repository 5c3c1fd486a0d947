use Rattle.std.proofs.Common.{◌≡◌, ℕ, Some, None, Option, refl, rules}
use Rattle.tokens.specs.declared.token.Token.{Token}
use Rattle.matching.specs.Matching.{on}
use Rattle.driving.specs.Drives.{Driven, drive}
use Rattle.rules.specs.declared.phases.Number.TheVariants.{BeforeNumber}
use Rattle.rules.specs.declared.refusal.GulletRefusal.TheVariants.{BadCatcode}
use Rattle.rules.specs.Assigning.{number_feed, recoded_by}
use Rattle.rules.specs.Readers.{Reader}
use Rattle.rules.specs.States.{State, ahead}
use Rattle.gullet.proofs.Doing.{missing, present, does_refuse, fed_then, fed_short}
use Rattle.gullet.proofs.Recoded.{recoded_same}
use Rattle.gullet.proofs.parts.Gullet.recode_byte.Goals as goal

abbrev number_from : State → Reader → Driven (Option (ℕ × Token)) Reader
number_from s r = drive number_feed (on BeforeNumber) r (ahead s r)

pub returns-in_err-found-clause-does : goal.returns-in_err-found-clause-does
returns-in_err-found-clause-does g c =
    let e = c.in_err-found.ensures in
    fed_short number_from (λ z o r. recoded_by z c.args.code c.args.scope o r) c.args.self.now c.from_residual.result c.in_err-found.field-0.0 c.from_residual.ensures.1 e.answer e.stands refl

pub returns-in_err-number-clause-does : goal.returns-in_err-number-clause-does
returns-in_err-number-clause-does g c =
    let e = c.in_ok-found.ensures in
    let none : c.in_ok-found.found ≡ None = missing _ _ _ c.ok_or_else.ensures.variant c.in_err-number.was in
    fed_then number_from (λ z o r. recoded_by z c.args.code c.args.scope o r) c.args.self.now None (rw none at e.answer) e.stands refl (λ z q. refl)
    (does_refuse c.from_residual-in_err-number.result BadCatcode (λ z r. recoded_by z c.args.code c.args.scope None r) (search rules) (λ read. refl))

pub returns-clause-does : goal.returns-clause-does
returns-clause-does g c =
    let e = c.in_ok-found.ensures in
    let v = c.in_ok-number.number in
    let t = c.in_ok-number.token in
    let some : c.in_ok-found.found ≡ Some (v, t) = present _ _ _ _ c.ok_or_else.ensures.cases c.in_ok-number.was in
    fed_then number_from (λ z o r. recoded_by z c.args.code c.args.scope o r) c.args.self.now (Some (v, t)) (rw some at e.answer) e.stands refl
    (λ z q. recoded_same z q q c.args.scope c.args.code v t) c.give_category_before.ensures.does

pub returns-clause-onward : goal.returns-clause-onward
returns-clause-onward g c = rw c.give_category_before.ensures.below c.in_ok-found.ensures.onward

use Rattle.std.proofs.Common.{rules, ◌≡◌, Some, None, Option, refl}
use Rattle.tokens.specs.declared.token.Token.{Token}
use Rattle.matching.specs.Matching.{on}
use Rattle.driving.specs.Drives.{Driven, drive}
use Rattle.rules.specs.declared.phases.Subject.TheVariants.{BeforeQuote}
use Rattle.rules.specs.declared.refusal.GulletRefusal.TheVariants.{BadCatcode}
use Rattle.rules.specs.Assigning.{subject_feed, byte_of, recoding_by}
use Rattle.rules.specs.Readers.{Reader}
use Rattle.rules.specs.States.{State, ahead}
use Rattle.gullet.proofs.Doing.{missing, present, does_refuse, fed_then, fed_short}
use Rattle.gullet.proofs.Holding.{onward_both}
use Rattle.gullet.proofs.Recoded.{recoding_same}
use Rattle.gullet.proofs.parts.Gullet.recode.Goals as goal

abbrev subject_from : State → Reader → Driven (Option Token) Reader
subject_from s r = drive subject_feed (on BeforeQuote) r (ahead s r)

pub returns-in_err-found-clause-does : goal.returns-in_err-found-clause-does
returns-in_err-found-clause-does g c =
    let e = c.in_err-found.ensures in
    fed_short subject_from (λ z o r. recoding_by z c.args.scope o r) c.args.self.now c.from_residual.result c.in_err-found.field-0.0 c.from_residual.ensures.1 e.answer e.stands refl

pub returns-in_err-token-clause-does : goal.returns-in_err-token-clause-does
returns-in_err-token-clause-does g c =
    let e = c.in_ok-found.ensures in
    let none : c.in_ok-found.found ≡ None = missing _ _ _ c.ok_or_else.ensures.variant c.in_err-token.was in
    fed_then subject_from (λ z o r. recoding_by z c.args.scope o r) c.args.self.now None (rw none at e.answer) e.stands refl (λ z q. refl)
    (does_refuse c.from_residual-in_err-token.result BadCatcode (λ z r. recoding_by z c.args.scope None r) (search rules) (λ read. refl))

pub returns-clause-does : goal.returns-clause-does
returns-clause-does g c =
    let e = c.in_ok-found.ensures in
    let t = c.in_ok-token.token in
    let some : c.in_ok-found.found ≡ Some t = present _ _ _ _ c.ok_or_else.ensures.cases c.in_ok-token.was in
    fed_then subject_from (λ z o r. recoding_by z c.args.scope o r) c.args.self.now (Some t) (rw some at e.answer) e.stands refl
    (λ z q. recoding_same z q q c.args.scope (byte_of q.stands.names t)) c.recode_token.ensures.does

pub returns-clause-onward : goal.returns-clause-onward
returns-clause-onward g c = onward_both g.S.Source.reads _ c.in_ok-found.ensures.onward c.recode_token.ensures.onward

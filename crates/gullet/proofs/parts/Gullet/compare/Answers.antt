use Rattle.std.proofs.Common.{◌≡◌, Bool, None, ap, ◌∙◌, refl}
use Rattle.tokens.specs.declared.token.Token.{Token}
use Rattle.matching.specs.Matching.{on}
use Rattle.book.specs.Meanings.{Means, shown}
use Rattle.driving.specs.Drives.{Driven, drive}
use Rattle.rules.specs.Expanding.{two_feed, decided}
use Rattle.rules.specs.Readers.{Reader, reader}
use Rattle.rules.specs.States.{State, state, Stepped, ahead, meanings_of}
use Rattle.rules.specs.Tokens.{meaning, same_meaning}
use Rattle.gullet.specs.Fed.{position_of}
use Rattle.gullet.specs.States.{state_of}
use Rattle.gullet.proofs.Agreeing.{agree}
use Rattle.gullet.proofs.Doing.{fed_then, fed_short, does_as}
use Rattle.gullet.proofs.Holding.{onward_both}
use Rattle.gullet.proofs.Passed.{decided_elsewhere}
use Rattle.gullet.proofs.parts.Gullet.compare.Goals as goal

abbrev two_from : State → Reader → Driven (Token × Token) Reader
two_from s r = drive two_feed (on None) r (ahead s r)

abbrev agreeing : State → Token × Token → Bool
agreeing s two = same_meaning (meaning (meanings_of s.book) two.0) (meaning (meanings_of s.book) two.1)

abbrev decides : State → Token × Token → Reader → Stepped
decides s two q = decided s q (agreeing s two)

pub returns-in_err-one-clause-does : goal.returns-in_err-one-clause-does
returns-in_err-one-clause-does g c =
    let e = c.in_err-one.ensures in
    fed_short two_from decides c.args.self.now c.from_residual.result c.in_err-one.field-0.0 c.from_residual.ensures.1 e.answer e.stands refl

pub returns-clause-does : goal.returns-clause-does
returns-clause-does g c =
    let s = state_of c.args.self.now in
    let e = c.in_ok-one.ensures in
    let two : Token × Token = (c.in_ok-one.one, c.in_ok-one.other) in
    let mid = state (position_of g.S.Source.ahead c.fed.new.names c.fed.new.source) s.book s.conditionals s.tasks in
    let truth = c.eq-truth.result in
    let told : truth ≡ agreeing s two = c.eq-truth.ensures
    ∙ agree c.meaning_of.result c.meaning_of-2.result
    ∙ ap (λ (m : Means). same_meaning m (shown c.meaning_of-2.result)) c.meaning_of.ensures
    ∙ ap (λ (m : Means). same_meaning (meaning (meanings_of s.book) two.0) m) c.meaning_of-2.ensures in
    fed_then two_from decides c.args.self.now two e.answer e.stands refl (λ z q. decided_elsewhere z q (agreeing z two))
    (does_as (λ z r. decided z r truth) (λ z r. decides z two r) (λ read. ap (λ (b : Bool). decided mid (reader mid.stands read) b) told) c.decide.ensures.does)

pub returns-clause-onward : goal.returns-clause-onward
returns-clause-onward g c = onward_both g.S.Source.reads _ c.in_ok-one.ensures.onward c.decide.ensures.onward

use Rattle.std.proofs.Common.{◌≡◌, ◌<◌, false, leb, List, length, sym, refl, ap, ◌∙◌}
use Rattle.std.proofs.lemmas.Bool.{leb-false}
use Rattle.tokens.specs.declared.token.Token.{Token}
use Rattle.matching.specs.Matching.{on}
use Rattle.driving.specs.Drives.{Driven, drive}
use Rattle.pending.specs.declared.task.Task.{Task}
use Rattle.pending.specs.declared.task.Task.TheVariants.{After}
use Rattle.rules.specs.Expanding.{one_feed, expand_after}
use Rattle.rules.specs.Readers.{Reader, reader}
use Rattle.rules.specs.States.{State, Stepped, state, ahead}
use Rattle.gullet.specs.Fed.{stays, position_of}
use Rattle.gullet.specs.States.{state_of}
use Rattle.gullet.proofs.Doing.{does_as, fed_then, fed_short}
use Rattle.gullet.proofs.Passed.{after_reads, after_one, joins}
use Rattle.gullet.proofs.parts.Gullet.expand_after.Goals as goal

abbrev one_from : State → Reader → Driven Token Reader
one_from s r = drive one_feed (on tt) r (ahead s r)

abbrev waits : State → Token → Reader → Stepped
waits s t r = after_one s r t r

pub returns-then-is_full-clause-onward : goal.returns-then-is_full-clause-onward
returns-then-is_full-clause-onward g c = stays refl

pub returns-in_err-token-clause-does : goal.returns-in_err-token-clause-does
returns-in_err-token-clause-does g c =
    let s = state_of c.args.self.now in
    let few : leb 64 (length s.tasks) ≡ false = sym c.is_full.ensures ∙ c.if-is_full.false in
    let e = c.in_err-token.ensures in
    does_as _ expand_after (λ read. sym (after_reads s (reader s.stands read) few))
    (fed_short one_from waits c.args.self.now c.from_residual.result c.in_err-token.field-0.0 c.from_residual.ensures.1 e.answer e.stands refl)

pub returns-clause-does : goal.returns-clause-does
returns-clause-does g c =
    let s = state_of c.args.self.now in
    let few : leb 64 (length s.tasks) ≡ false = sym c.is_full.ensures ∙ c.if-is_full.false in
    let less : length s.tasks < 64 = leb-false 64 (length s.tasks) few in
    let e = c.in_ok-token.ensures in
    let t = c.in_ok-token.token in
    let here = position_of g.S.Source.ahead c.fed.new.names c.fed.new.source in
    does_as _ expand_after (λ read. sym (after_reads s (reader s.stands read) few))
    (fed_then one_from waits c.args.self.now {mid = record c.args.self.now { source = c.fed.new.source; names = c.fed.new.names }} t e.answer e.stands refl (λ z q. refl)
    (record { answer = λ read. refl; state = λ read. ap (λ (ts : List Task). state here s.book s.conditionals ts) (c.start.ensures.tasks ∙ joins 64 (After t) s.tasks less) }))

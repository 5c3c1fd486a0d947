-- The name that an assignment is for, and what is behind it.
--   named_ahead   what comes of looking for it in the tokens ahead
--   name_from     the name, or 31 where another token stands there
--   target_of     what is answered of it
--   let_ahead     what comes of looking for the token of \let behind its name
--   let_named     \let behind its name
use Rattle.std.specs.Prelude.{ℕ, Some, None, Ok, Err, Option, Result}
use Rattle.tokens.specs.declared.token.Token.{Token}
use Rattle.matching.specs.Matching.{on}
use Rattle.sources.specs.declared.fault.PileRefusal.TheVariants.{Ended}
use Rattle.driving.specs.declared.status.Status.TheVariants.{Normal}
use Rattle.driving.specs.Drives.{Driven, came, ended, failed, drive}
use Rattle.rules.specs.declared.refusal.GulletRefusal.TheVariants.{BadDefinition}
use Rattle.tokens.specs.declared.answer.Scope.{Scope}
use Rattle.rules.specs.declared.phases.Letting.TheVariants.{BeforeEquals}
use Rattle.rules.specs.Assigning.{name_feed, let_feed, let_as}
use Rattle.rules.specs.Readers.{Reader}
use Rattle.rules.specs.Refusals.{Fault, read, pile, gullet}
use Rattle.rules.specs.States.{State, Stepped, ahead, finished, meanings_of}

abbrev pub named_ahead : State → Reader → Driven (Option ℕ) Reader
named_ahead s r = drive name_feed (on tt) r (ahead s r)

abbrev pub name_from : Option ℕ → Result ℕ Fault
name_from None = Err (record { cause = gullet BadDefinition; status = Normal })
name_from (Some n) = Ok n

abbrev pub target_of : Driven (Option ℕ) Reader → Result ℕ Fault
target_of (came o r) = name_from o
target_of (ended r) = Err (record { cause = pile Ended; status = Normal })
target_of (failed e r) = Err (record { cause = read e; status = Normal })

abbrev pub let_ahead : State → Reader → Driven Token Reader
let_ahead s r = drive (let_feed (meanings_of s.book)) (on BeforeEquals) r (ahead s r)

abbrev pub let_named : State → Reader → ℕ → Scope → Stepped
let_named s r n sc = finished s Normal (let_ahead s r) (let_as s n sc)

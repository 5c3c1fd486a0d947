-- Rules fed by a gullet under a scanning status.
--   under      what is answered of a rule fed under a status, where the place is then p
--   skipping   a skip
--   turn_at    what becomes of the open conditionals where a skip ends
use Rattle.std.specs.Prelude.{Ok, Err, Result}
use Rattle.matching.specs.Matching.{on}
use Rattle.sources.specs.declared.fault.Place.{Place}
use Rattle.sources.specs.declared.fault.PileRefusal.TheVariants.{Ended}
use Rattle.sources.specs.declared.fault.PileFault.TheVariants as piles
use Rattle.driving.specs.declared.status.Status.{Status}
use Rattle.driving.specs.Drives.{Driven, came, ended, failed, drive}
use Rattle.rules.specs.declared.phases.Until.{Until}
use Rattle.rules.specs.declared.phases.Found.{Found}
use Rattle.rules.specs.declared.phases.Found.TheVariants as found
use Rattle.rules.specs.Readers.{Reader}
use Rattle.rules.specs.Skipping.{skip_feed}
use Rattle.rules.specs.States.{State, ahead, meanings_of}
use Rattle.gullet.specs.declared.fault.Cause.TheVariants.{Pile}
use Rattle.gullet.specs.declared.fault.GulletFault.{GulletFault}
use Rattle.gullet.specs.declared.turn.Turn.{Turn}
use Rattle.gullet.specs.declared.turn.Turn.TheVariants.{Keep, BeginSecond}

abbrev pub under : {O B : Type 0} → Status → Place → Driven O B → Result O GulletFault
under st p (came o b) = Ok o
under st p (ended b) = Err (record { cause = Pile (piles.Pile Ended p); status = st })
under st p (failed e b) = Err (record { cause = Pile (piles.Line (record { refusal = e; place = p })); status = st })

abbrev pub skipping : State → Reader → Until → Driven Found Reader
skipping s r u = drive (skip_feed (meanings_of s.book) u) (on 0) r (ahead s r)

abbrev pub turn_at : Found → Turn
turn_at found.Else = BeginSecond
turn_at found.Fi = Keep

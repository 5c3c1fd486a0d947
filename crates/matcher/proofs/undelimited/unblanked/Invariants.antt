use Rattle.std.proofs.Common.{Bool}
use Rattle.names.specs.Spelled.{listed}
use Rattle.matching.specs.Matching.{on, Progress, skipping}
use Rattle.driving.specs.Streams.{stream}
use Rattle.driving.specs.Drives.{size}
use Rattle.matcher.specs.Going.{Leads}
use Rattle.matcher.proofs.undelimited.unblanked.Given as goal

abbrev pub invariant-blanks : goal.invariant-blanks
invariant-blanks g l = (long : Bool) (p : Progress) → Leads g.S.Source.reads g.S.Source.ahead g.S.Source.place l.categories long (on (skipping p)) (listed l.initial.names) l.initial.source (on (skipping p)) (listed l.names) l.source

abbrev pub decreases-blanks : goal.decreases-blanks
decreases-blanks g l = size (stream l.categories (listed l.names) (g.S.Source.ahead l.source))

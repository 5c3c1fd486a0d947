use Rattle.std.proofs.Common.{◌≡◌, ◌+◌, ◌-◌, ◌≤◌, [], take, drop, Some, vec_items, vec_len, vec_capacity}
use Rattle.names.specs.Spelled.{listed}
use Rattle.matching.specs.Braces.{deeper}
use Rattle.matching.specs.Dividing.{Permitted}
use Rattle.matching.specs.Matching.{on, Progress, in_group}
use Rattle.driving.specs.Streams.{stream}
use Rattle.driving.specs.Drives.{size}
use Rattle.matcher.specs.Going.{Leads}
use Rattle.matcher.specs.Hindering.{Under}
use Rattle.matcher.proofs.undelimited.group.Given as goal

abbrev pub invariant-group : goal.invariant-group
invariant-group g l =
    ((p : Progress) → Under l.terms p → Leads g.S.Source.reads g.S.Source.ahead g.S.Source.place l.categories l.terms.long (on (in_group p [])) (listed l.initial.names) l.initial.source (on (in_group p (drop l.start (vec_items l.gathered.held)))) (listed l.names) l.source)
    × (deeper 0 (drop l.start (vec_items l.gathered.held)) ≡ Some l.depth)
    × Permitted l.terms.long (drop l.start (vec_items l.gathered.held))
    × (l.terms.counted + (vec_len l.gathered.held - l.start + 2 + l.depth) + l.terms.few ≤ 4096)
    × (l.start ≤ vec_len l.gathered.held)
    × (take l.start (vec_items l.gathered.held) ≡ vec_items l.initial.gathered.held)
    × (vec_capacity l.gathered.held ≡ vec_capacity l.initial.gathered.held)

abbrev pub decreases-group : goal.decreases-group
decreases-group g l = size (stream l.categories (listed l.names) (g.S.Source.ahead l.source))

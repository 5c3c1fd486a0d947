use Rattle.std.proofs.Common.{◌≡◌, ◌+◌, ◌<◌, ◌≤◌, [], take, drop, Some, vec_items, vec_len, vec_capacity}
use Rattle.names.specs.Spelled.{listed}
use Rattle.matching.specs.Braces.{deeper}
use Rattle.matching.specs.Dividing.{Permitted}
use Rattle.matching.specs.Matching.{on, Progress, in_run, settled}
use Rattle.driving.specs.Streams.{stream}
use Rattle.driving.specs.Drives.{size}
use Rattle.matcher.specs.Going.{Leads}
use Rattle.matcher.specs.Hindering.{Under}
use Rattle.matcher.specs.Marks.{delimiter_in}
use Rattle.matcher.proofs.delimited.delimited.Given as goal

abbrev pub invariant-run : goal.invariant-run
invariant-run g l =
    ((p : Progress) → Under l.terms p → Leads g.S.Source.reads g.S.Source.ahead g.S.Source.place l.categories l.terms.long (on (in_run p (delimiter_in l.delimiter.words.now) [])) (listed l.initial.names) l.initial.source (on (in_run p (delimiter_in l.delimiter.words.now) (drop l.start (vec_items l.gathered.held)))) (listed l.names) l.source)
    × (settled (delimiter_in l.delimiter.words.now) (drop l.start (vec_items l.gathered.held)) ≡ take l.at (drop l.start (vec_items l.gathered.held)))
    × (deeper 0 (take l.at (drop l.start (vec_items l.gathered.held))) ≡ Some l.depth)
    × Permitted l.terms.long (take l.at (drop l.start (vec_items l.gathered.held)))
    × (l.terms.counted + (l.at + l.depth) + l.terms.few ≤ 4096)
    × (l.depth ≤ l.at)
    × (l.start + l.at ≤ vec_len l.gathered.held)
    × (vec_len l.gathered.held < l.start + l.at + l.width)
    × (take l.start (vec_items l.gathered.held) ≡ vec_items l.initial.gathered.held)
    × (vec_capacity l.gathered.held ≡ vec_capacity l.initial.gathered.held)

abbrev pub decreases-run : goal.decreases-run
decreases-run g l = size (stream l.categories (listed l.names) (g.S.Source.ahead l.source))

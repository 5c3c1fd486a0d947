use Rattle.std.proofs.Common.{◌≡◌, ◌-◌, ◌≤◌, List, length, drop}
use Rattle.lines.specs.Line.{Item, left}
use Rattle.names.specs.Spelled.{listed}
use Rattle.sources.specs.Ahead.{ahead_of}
use Rattle.sources.proofs.reading.token_in.Given as goal

-- nothing was given yet: what is left of the line gives what it gave at first
abbrev pub invariant-pieces : goal.invariant-pieces
invariant-pieces l =
    (l.cursor.taken ≤ length l.line)
    × (l.initial.cursor.taken ≤ l.cursor.taken)
    × (listed l.names ≡ listed l.initial.names)
    × ((is : List Item) → ahead_of l.categories (listed l.names) (left l.cursor.state (drop l.cursor.taken l.line) is)
    ≡ ahead_of l.categories (listed l.initial.names) (left l.initial.cursor.state (drop l.initial.cursor.taken l.line) is))

abbrev pub decreases-pieces : goal.decreases-pieces
decreases-pieces l = length l.line - l.cursor.taken

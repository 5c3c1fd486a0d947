use Rattle.std.proofs.Common.{◌≡◌, drop}
use Rattle.names.specs.Spelled.{listed}
use Rattle.piles.specs.Inserting.{first_bad}
use Rattle.piles.proofs.words.first_bad.Given as goal

abbrev pub invariant-loop-i : goal.invariant-loop-i
invariant-loop-i l = first_bad l.i (listed l.names) (drop l.i l.words) ≡ first_bad 0 (listed l.names) l.words

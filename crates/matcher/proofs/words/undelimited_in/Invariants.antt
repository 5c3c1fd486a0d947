use Rattle.std.proofs.Common.{◌≡◌, ◌+◌, ◌≤◌, length}
use Rattle.matching.specs.Dividing.{parameters_of}
use Rattle.matching.specs.Matching.{fewest}
use Rattle.matcher.proofs.words.undelimited_in.Given as goal

abbrev pub invariant-words : goal.invariant-words
invariant-words l =
    (l.count + fewest (parameters_of l.rest).delimiters ≡ fewest (parameters_of l.words).delimiters)
    × (l.count + length l.rest ≤ length l.words)

abbrev pub decreases-words : goal.decreases-words
decreases-words l = length l.rest

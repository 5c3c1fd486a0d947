use Rattle.std.proofs.Common.{◌≡◌, ◌+◌, ◌-◌, ◌<◌, length, take, drop}
use Rattle.matching.specs.Braces.{is_front}
use Rattle.matching.specs.Matching.{settled_from}
use Rattle.matcher.specs.Marks.{delimiter_in, Marked}
use Rattle.matcher.proofs.settling.settle.Given as goal

abbrev pub invariant-place : goal.invariant-place
invariant-place l =
    Marked l.run l.initial.mark.at l.mark
    × (settled_from (delimiter_in l.delimiter.words.now) (take l.initial.mark.at l.run) (drop l.initial.mark.at l.run) ≡ settled_from (delimiter_in l.delimiter.words.now) (take l.mark.at l.run) (drop l.mark.at l.run))

abbrev pub decreases-place : goal.decreases-place
decreases-place l = length l.run - l.mark.at

abbrev pub invariant-delimiter : goal.invariant-delimiter
invariant-delimiter l =
    (l.mark ≡ l.initial.mark)
    × (is_front (drop l.mark.at l.run) (delimiter_in l.delimiter.words.now) ≡ is_front (drop (l.mark.at + l.place) l.run) (delimiter_in (drop l.place l.delimiter.words.now)))
    × (0 < l.place → l.mark.depth ≡ 0)

use Rattle.std.proofs.Common.{◌≡◌, ◌+◌, ◌-◌, vec_len}
use Rattle.names.specs.Spelled.{listed}
use Rattle.sources.specs.Ahead.{ahead_of}
use Rattle.sources.specs.Texted.{text_ahead}
use Rattle.sources.proofs.text_source.TextSource.read.Given as goal

-- nothing was given yet: what is ahead now is what was ahead at first
abbrev pub invariant-lines : goal.invariant-lines
invariant-lines l =
    (ahead_of l.categories (listed l.names) (text_ahead l.self) ≡ ahead_of l.categories (listed l.initial.names) (text_ahead l.initial.self))
    × (listed l.names ≡ listed l.initial.names)
    × (l.self.bytes ≡ l.initial.self.bytes)

abbrev pub decreases-lines : goal.decreases-lines
decreases-lines l = vec_len l.self.bytes + 1 - l.self.next

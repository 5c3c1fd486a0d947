use Rattle.std.proofs.Common.{◌≡◌, ◌+◌, ◌≤◌}
use Rattle.matching.specs.Matching.{on}
use Rattle.names.specs.Spelled.{listed}
use Rattle.driving.specs.Streams.{stream, standing}
use Rattle.driving.specs.Drives.{drive, Reached, size}
use Rattle.gullet.proofs.driver.driven.Given as goal

-- driving from here on comes to what driving from the start comes to; the count with what is ahead stays within what was ahead
abbrev pub invariant-tokens : goal.invariant-tokens
invariant-tokens g l =
    (drive (g.A.Automaton.feeds l.automaton) (on l.phase) (standing (listed l.names) (g.S.Source.ahead l.source)) (stream l.categories (listed l.names) (g.S.Source.ahead l.source))
    ≡ drive (g.A.Automaton.feeds l.automaton) (on l.initial.phase) (standing (listed l.initial.names) (g.S.Source.ahead l.initial.source)) (stream l.categories (listed l.initial.names) (g.S.Source.ahead l.initial.source)))
    × ((y : g.row.S.Denot) → Reached (g.S.Source.reads l.categories) (g.A.Automaton.feeds l.automaton) (on l.phase) (listed l.names) (stream l.categories (listed l.names) (g.S.Source.ahead l.source)) l.source y
    → Reached (g.S.Source.reads l.categories) (g.A.Automaton.feeds l.automaton) (on l.initial.phase) (listed l.initial.names) (stream l.categories (listed l.initial.names) (g.S.Source.ahead l.initial.source)) l.initial.source y)
    × (g.A.Automaton.held l.automaton l.phase + size (stream l.categories (listed l.names) (g.S.Source.ahead l.source)) ≤ g.A.Automaton.held l.automaton l.initial.phase + size (stream l.categories (listed l.initial.names) (g.S.Source.ahead l.initial.source)))

abbrev pub decreases-tokens : goal.decreases-tokens
decreases-tokens g l = size (stream l.categories (listed l.names) (g.S.Source.ahead l.source))

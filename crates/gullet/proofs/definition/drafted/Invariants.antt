use Rattle.std.proofs.Common.{◌≡◌, []}
use Rattle.matching.specs.Matching.{on}
use Rattle.names.specs.Spelled.{listed}
use Rattle.book.specs.Said.{book_of}
use Rattle.driving.specs.Streams.{stream, standing}
use Rattle.driving.specs.Drives.{drive, Reached, size}
use Rattle.rules.specs.Defining.{in_text, definition_feed}
use Rattle.rules.specs.States.{meanings_of}
use Rattle.gullet.specs.Drafts.{view}
use Rattle.gullet.proofs.definition.drafted.Given as goal

-- reading on from here comes to what reading from the start comes to
abbrev pub invariant-tokens : goal.invariant-tokens
invariant-tokens g l =
    (drive (definition_feed (meanings_of (book_of l.book))) (on (view l.draft)) (standing (listed l.names) (g.S.Source.ahead l.source)) (stream l.categories (listed l.names) (g.S.Source.ahead l.source))
    ≡ drive (definition_feed (meanings_of (book_of l.book))) (on (in_text [] 0)) (standing (listed l.initial.names) (g.S.Source.ahead l.initial.source)) (stream l.categories (listed l.initial.names) (g.S.Source.ahead l.initial.source)))
    × ((y : g.row.S.Denot) → Reached (g.S.Source.reads l.categories) (definition_feed (meanings_of (book_of l.book))) (on (view l.draft)) (listed l.names) (stream l.categories (listed l.names) (g.S.Source.ahead l.source)) l.source y
    → Reached (g.S.Source.reads l.categories) (definition_feed (meanings_of (book_of l.book))) (on (in_text [] 0)) (listed l.initial.names) (stream l.categories (listed l.initial.names) (g.S.Source.ahead l.initial.source)) l.initial.source y)

abbrev pub decreases-tokens : goal.decreases-tokens
decreases-tokens g l = size (stream l.categories (listed l.names) (g.S.Source.ahead l.source))

-- The state of a gullet, and how a call under way is told.
--   state_of   the state
--   place_of   the place, which is that of the source below
--   cleared    the state once a refused step's tasks are gone
use Rattle.std.specs.Prelude.{[], Ok, Err, Result}
use Rattle.sources.specs.declared.fault.Place.{Place}
use Rattle.sources.specs.declared.source.Source.{Ghosts}
use Rattle.book.specs.Said.{book_of}
use Rattle.pending.specs.Opened.{parts_of}
use Rattle.pending.specs.Underway.{tasks_of}
use Rattle.rules.specs.States.{State, state}
use Rattle.gullet.specs.declared.parts.Gullet.{Gullet}
use Rattle.gullet.specs.Fed.{position_of}

abbrev pub state_of : {S : Type 0} {source : Ghosts S} → Gullet S source → State
state_of {S} {source} g = state (position_of source.ahead g.names g.source) (book_of g.book) (parts_of g.conditionals) (tasks_of g.tasks)

abbrev pub place_of : {S : Type 0} {source : Ghosts S} → Gullet S source → Place
place_of {S} {source} g = source.place g.source.below

abbrev pub cleared : {A F : Type 0} → Result A F → State → State
cleared (Ok a) s = s
cleared (Err f) s = state s.stands s.book s.conditionals []

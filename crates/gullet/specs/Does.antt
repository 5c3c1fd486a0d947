-- What a function of a gullet does, as the rules say it. A rule is told where reading stands, with the tokens read so far, whatever they are.
--   at_start   a rule where a gullet stands
--   Does       it is answered what a rule of a step or a call answers, and leaves its state
--   Finds      a rule was fed, and what came of it is told
--   ReadsOn    what the reads in between make of the source below, by the relation of one read
--   Unread     nothing is read of the source below
use Rattle.std.specs.Prelude.{◌≡◌, List, Result}
use Rattle.tokens.specs.declared.answer.Answer.{Answer}
use Rattle.tokens.specs.declared.token.Token.{Token}
use Rattle.sources.specs.declared.fault.Place.{Place}
use Rattle.sources.specs.declared.source.Source.{Ghosts}
use Rattle.book.specs.Said.{book_of}
use Rattle.driving.specs.Drives.{Driven, stands_at}
use Rattle.rules.specs.Readers.{Reader, reader}
use Rattle.rules.specs.States.{State, Stepped, at, categories_of}
use Rattle.gullet.specs.declared.fault.GulletFault.{GulletFault}
use Rattle.gullet.specs.declared.parts.Gullet.{Gullet}
use Rattle.gullet.specs.Faults.{placed}
use Rattle.gullet.specs.Fed.{Onward}
use Rattle.gullet.specs.States.{state_of, place_of, cleared}

abbrev pub at_start : {S X : Type 0} {source : Ghosts S} → Gullet S source → (State → Reader → X) → List Token → X
at_start g rule read = rule (state_of g) (reader (state_of g).stands read)

pub record Does {S : Type 0} {source : Ghosts S} (old new : Gullet S source) (result : Result Answer GulletFault) (rule : State → Reader → Stepped) : Type 0 where
  pub answer : (read : List Token) → result ≡ placed (place_of new) (at_start old rule read).answer
  pub state : (read : List Token) → cleared result (state_of new) ≡ (at_start old rule read).state

pub record Finds {S O A : Type 0} {source : Ghosts S} (old new : Gullet S source) (result : Result A GulletFault) (told : Place → Driven O Reader → Result A GulletFault) (rule : State → Reader → Driven O Reader) : Type 0 where
  pub answer : (read : List Token) → result ≡ told (place_of new) (at_start old rule read)
  pub state : (read : List Token) → state_of new ≡ at (state_of old) (stands_at (at_start old rule read))

abbrev pub ReadsOn : {S : Type 0} {source : Ghosts S} → Gullet S source → Gullet S source → Type 0
ReadsOn {S} {source} old new = Onward (source.reads (categories_of (book_of old.book))) old.source.below new.source.below

abbrev pub Unread : {S : Type 0} {source : Ghosts S} → Gullet S source → Gullet S source → Type 0
Unread old new = new.source.below ≡ old.source.below

-- Rules that are fed the tokens ahead one by one.
--   Driven      what comes of it: an outcome, nothing ahead while more is needed, or a refused read; and where the reader then stands
--   drive       a rule fed from a move on, until it is out
--   stands_at   where the reader then stands
--   answer_of   what is answered of it, where the source's place is then p
--   Reached     what the reads that a rule makes, in their order, make of a source, by the relation of one read
--   size        how many tokens are ahead
use Rattle.std.specs.Prelude.{◌≡◌, ℕ, suc, Ok, Err, Result}
use Rattle.tokens.specs.declared.token.Token.{Token}
use Rattle.matching.specs.Matching.{Move, on, out}
use Rattle.names.specs.Naming.{Spellings}
use Rattle.sources.specs.declared.fault.Place.{Place}
use Rattle.sources.specs.declared.fault.ReadRefusal.{ReadRefusal}
use Rattle.sources.specs.declared.fault.PileRefusal.TheVariants.{Ended}
use Rattle.sources.specs.declared.fault.PileFault.{PileFault}
use Rattle.sources.specs.declared.fault.PileFault.TheVariants.{Line, Pile}
use Rattle.driving.specs.Streams.{Stream, nothing, broken, token, Standing}

pub data Driven (O B : Type 0) : Type 0 where
  came : O → B → Driven O B
  ended : B → Driven O B
  failed : ReadRefusal → B → Driven O B

abbrev pub drive : {P O B : Type 0} → (P → Token → Move P O) → Move P O → B → Stream B → Driven O B
drive feed (out o) here s = came o here
drive feed (on p) here (nothing b) = ended b
drive feed (on p) here (broken e b) = failed e b
drive feed (on p) here (token t b s) = drive feed (feed p t) b s

abbrev pub stands_at : {O B : Type 0} → Driven O B → B
stands_at (came o b) = b
stands_at (ended b) = b
stands_at (failed e b) = b

abbrev pub answer_of : {O B : Type 0} → Place → Driven O B → Result O PileFault
answer_of p (came o b) = Ok o
answer_of p (ended b) = Err (Pile Ended p)
answer_of p (failed e b) = Err (Line (record { refusal = e; place = p }))

-- `reads` under the names before a read; the names behind a token are those of the stream
abbrev pub Reached : {P O S : Type 0} → (Spellings → S → S → Type 0) → (P → Token → Move P O) → Move P O → Spellings → Stream Standing → S → S → Type 0
Reached reads feed (out o) ns s x y = y ≡ x
Reached reads feed (on p) ns (nothing b) x y = reads ns x y
Reached reads feed (on p) ns (broken e b) x y = reads ns x y
Reached {P} {O} {S} reads feed (on p) ns (token t b s) x y = (m : S) × reads ns x m × Reached reads feed (feed p t) b.names s m y

abbrev pub size : {B : Type 0} → Stream B → ℕ
size (nothing b) = 0
size (broken e b) = 0
size (token t b s) = suc (size s)

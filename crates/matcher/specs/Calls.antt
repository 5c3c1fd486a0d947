-- A macro's call.
--   called        what comes of the tokens ahead, for a macro that is long or not, with a parameter text
--   call_answer   what is answered of it, where the source's place is then p and the scanning status was st
--   Called        what the reads of a call make of a source, by the relation of one read
use Rattle.std.specs.Prelude.{Bool, List, Ok, Err, Result}
use Rattle.tokens.specs.declared.stored.ParameterWord.{ParameterWord}
use Rattle.lines.specs.Line.{Categories, Item}
use Rattle.names.specs.Naming.{Spellings}
use Rattle.sources.specs.declared.fault.Place.{Place}
use Rattle.sources.specs.declared.fault.PileRefusal.TheVariants.{Ended}
use Rattle.sources.specs.declared.fault.PileFault.TheVariants as pile
use Rattle.matching.specs.Dividing.{parameters_of}
use Rattle.matching.specs.Matching.{Outcome, matched, refused, begin, feed}
use Rattle.driving.specs.declared.status.Status.{Status}
use Rattle.driving.specs.Streams.{Standing, standing, stream}
use Rattle.driving.specs.Drives.{Driven, came, ended, failed, drive, Reached}
use Rattle.calls.specs.declared.fault.MatcherCause.TheVariants.{Pile, Matcher}
use Rattle.calls.specs.declared.fault.MatcherFault.{MatcherFault}

abbrev pub called : Categories → Bool → List ParameterWord → Spellings → List Item → Driven Outcome Standing
called cs long text ns is = drive (feed long) (begin (parameters_of text)) (standing ns is) (stream cs ns is)

abbrev pub call_answer : Status → Place → Driven Outcome Standing → Result (Unit {0}) MatcherFault
call_answer st p (came (matched args) b) = Ok tt
call_answer st p (came (refused r) b) = Err (record { cause = Matcher r p; status = st })
call_answer st p (ended b) = Err (record { cause = Pile (pile.Pile Ended p); status = st })
call_answer st p (failed e b) = Err (record { cause = Pile (pile.Line (record { refusal = e; place = p })); status = st })

abbrev pub Called : {S : Type 0} → (Categories → Spellings → S → S → Type 0) → Categories → Bool → List ParameterWord → Spellings → List Item → S → S → Type 0
Called reads cs long text ns is x y = Reached (reads cs) (feed long) (begin (parameters_of text)) ns (stream cs ns is) x y

-- A call's arguments while they are read from a source.
--   driven        what comes of a step of the call, with some names, over some items ahead
--   answered      what is answered of it, where the source's place is then p: the arguments, or why there are none
--   given         the arguments that came, none where none did
--   ReachedFrom   what the reads from a step on make of a source
--   Leads         reading on from one step with these names and this source is reading on from another with those
--   Fails         reading on from a step comes to a fault, with these names and this source then
--   Goes          what reading on from a step has come to: the step behind it, by what it answered, or a fault
use Rattle.std.specs.Prelude.{◌≡◌, Bool, List, [], Ok, Err, Result, MatchResult}
use Rattle.tokens.specs.declared.token.Token.{Token}
use Rattle.lines.specs.Line.{Categories, Item}
use Rattle.names.specs.Naming.{Spellings}
use Rattle.sources.specs.declared.fault.Place.{Place}
use Rattle.sources.specs.declared.fault.PileRefusal.TheVariants.{Ended}
use Rattle.sources.specs.declared.fault.PileFault.TheVariants as pile
use Rattle.matching.specs.Matching.{Step, Outcome, matched, refused, feed}
use Rattle.driving.specs.Streams.{Standing, standing, stream}
use Rattle.driving.specs.Drives.{Driven, came, ended, failed, drive, stands_at, Reached}
use Rattle.calls.specs.declared.fault.MatcherCause.{MatcherCause}
use Rattle.calls.specs.declared.fault.MatcherCause.TheVariants.{Pile, Matcher}

unfoldable pub driven : Categories → Bool → Step → Spellings → List Item → Driven Outcome Standing
driven cs long s ns is = drive (feed long) s (standing ns is) (stream cs ns is)

abbrev pub answered : Place → Driven Outcome Standing → Result (List (List Token)) MatcherCause
answered p (came (matched args) b) = Ok args
answered p (came (refused r) b) = Err (Matcher r p)
answered p (ended b) = Err (Pile (pile.Pile Ended p))
answered p (failed e b) = Err (Pile (pile.Line (record { refusal = e; place = p })))

abbrev pub given : Driven Outcome Standing → List (List Token)
given (came (matched args) b) = args
given (came (refused r) b) = []
given (ended b) = []
given (failed e b) = []

module _ {S : Type 0} (reads : Categories → Spellings → S → S → Type 0) (ahead : S → List Item) (place : S → Place) (cs : Categories) (long : Bool) where
  unfoldable pub ReachedFrom : Step → Spellings → S → S → Type 0
  ReachedFrom s ns x z = Reached (reads cs) (feed long) s ns (stream cs ns (ahead x)) x z

  pub record Leads (s : Step) (ns : Spellings) (x : S) (s' : Step) (ns' : Spellings) (x' : S) : Type 0 where
    pub drives : driven cs long s ns (ahead x) ≡ driven cs long s' ns' (ahead x')
    pub reaches : (z : S) → ReachedFrom s' ns' x' z → ReachedFrom s ns x z

  pub record Fails (s : Step) (ns : Spellings) (x : S) (f : MatcherCause) (ns' : Spellings) (x' : S) : Type 0 where
    pub answer : answered (place x') (driven cs long s ns (ahead x)) ≡ Err f
    pub stands : stands_at (driven cs long s ns (ahead x)) ≡ standing ns' (ahead x')
    pub reached : ReachedFrom s ns x x'

  abbrev pub Goes : {T : Type 0} → Step → Spellings → S → Result T MatcherCause → (T → Step) → Spellings → S → Type 0
  Goes s ns x r behind ns' x' = MatchResult r (λ t. Leads s ns x (behind t) ns' x') (λ f. Fails s ns x f ns' x')

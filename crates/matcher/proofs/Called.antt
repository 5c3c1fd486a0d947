-- What a division of a call's tokens says of the call.
use Rattle.std.proofs.Common.{◌≡◌, ℕ, Bool, List, [], Ok, Err, sym, refl, ap, arith}
use Rattle.tokens.specs.declared.token.Token.{Token}
use Rattle.tokens.specs.declared.stored.ParameterWord.{ParameterWord}
use Rattle.lines.specs.Line.{Categories, Item}
use Rattle.names.specs.Naming.{Spellings}
use Rattle.sources.specs.declared.fault.Place.{Place}
use Rattle.matching.specs.Dividing.{parameters_of}
use Rattle.matching.specs.Matching.{out, Outcome, matched, refused, begin}
use Rattle.driving.specs.declared.status.Status.{Status}
use Rattle.driving.specs.Streams.{Standing, standing}
use Rattle.driving.specs.Drives.{Driven, came, ended, failed, stands_at}
use Rattle.calls.specs.declared.fault.MatcherCause.{MatcherCause}
use Rattle.matcher.specs.Calls.{called, call_answer, Called}
use Rattle.matcher.specs.Going.{driven, answered, given, ReachedFrom, Leads, Fails}

fault_as : (st : Status) (p : Place) (f : MatcherCause) (d : Driven Outcome Standing) → answered p d ≡ Err f → Err (record { cause = f; status = st }) ≡ call_answer st p d
fault_as st p f (came (matched args) b) e = let z : ◌≡◌ {A = ℕ} 0 1 = cc in absurd (omega arith)
fault_as st p f (came (refused r) b) e = cc
fault_as st p f (ended b) e = cc
fault_as st p f (failed x b) e = cc

none_as : (p : Place) (f : MatcherCause) (d : Driven Outcome Standing) → answered p d ≡ Err f → [] ≡ given d
none_as p f (came (matched args) b) e = let z : ◌≡◌ {A = ℕ} 0 1 = cc in absurd (omega arith)
none_as p f (came (refused r) b) e = refl
none_as p f (ended b) e = refl
none_as p f (failed x b) e = refl

module _ {S : Type 0} (reads : Categories → Spellings → S → S → Type 0) (ahead : S → List Item) (place : S → Place) (cs : Categories) (long : Bool) (text : List ParameterWord) (ns : Spellings) (x : S) (ns' : Spellings) (x' : S) (st : Status) where
  module _ (args : List (List Token)) (h : Leads reads ahead place cs long (begin (parameters_of text)) ns x (out (matched args)) ns' x') where
    came_is : called cs long text ns (ahead x) ≡ came (matched args) (standing ns' (ahead x'))
    unfolding driven
    came_is = h.drives

    pub came_answer : Ok tt ≡ call_answer st (place x') (called cs long text ns (ahead x))
    came_answer = sym (ap (call_answer st (place x')) came_is)

    pub came_given : args ≡ given (called cs long text ns (ahead x))
    came_given = sym (ap given came_is)

    pub came_names : ns' ≡ (stands_at (called cs long text ns (ahead x))).names
    came_names = sym (ap (λ (d : Driven Outcome Standing). (stands_at d).names) came_is)

    pub came_items : ahead x' ≡ (stands_at (called cs long text ns (ahead x))).items
    came_items = sym (ap (λ (d : Driven Outcome Standing). (stands_at d).items) came_is)

    pub came_reached : Called reads cs long text ns (ahead x) x x'
    unfolding ReachedFrom
    came_reached = h.reaches x' refl

  module _ (f : MatcherCause) (h : Fails reads ahead place cs long (begin (parameters_of text)) ns x f ns' x') where
    pub fails_answer : Err (record { cause = f; status = st }) ≡ call_answer st (place x') (called cs long text ns (ahead x))
    unfolding driven
    fails_answer = fault_as st (place x') f (called cs long text ns (ahead x)) h.answer

    pub fails_given : [] ≡ given (called cs long text ns (ahead x))
    unfolding driven
    fails_given = none_as (place x') f (called cs long text ns (ahead x)) h.answer

    pub fails_names : ns' ≡ (stands_at (called cs long text ns (ahead x))).names
    unfolding driven
    fails_names = sym (ap (λ (b : Standing). b.names) h.stands)

    pub fails_items : ahead x' ≡ (stands_at (called cs long text ns (ahead x))).items
    unfolding driven
    fails_items = sym (ap (λ (b : Standing). b.items) h.stands)

    pub fails_reached : Called reads cs long text ns (ahead x) x x'
    unfolding ReachedFrom
    fails_reached = h.reached

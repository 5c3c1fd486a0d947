-- How readings of a call join.
use Rattle.std.proofs.Common.{◌≡◌, Bool, List, Some, Option, Err, refl, ap, ◌∙◌}
use Rattle.tokens.specs.declared.token.Token.{Token}
use Rattle.lines.specs.Line.{Categories, Item}
use Rattle.names.specs.Naming.{Spellings}
use Rattle.sources.specs.declared.fault.Place.{Place}
use Rattle.sources.specs.declared.fault.PileFault.{PileFault}
use Rattle.sources.specs.declared.fault.PileFault.TheVariants as pile
use Rattle.matching.specs.declared.refusal.MatcherRefusal.{MatcherRefusal}
use Rattle.matching.specs.Matching.{on, Step, Phase, refuse, feed}
use Rattle.driving.specs.Streams.{Stream, token, Standing, standing, stream, Takes}
use Rattle.driving.specs.Drives.{drive, stands_at}
use Rattle.calls.specs.declared.fault.MatcherCause.{MatcherCause}
use Rattle.calls.specs.declared.fault.MatcherCause.TheVariants.{Pile, Matcher}
use Rattle.matcher.specs.Going.{driven, answered, ReachedFrom, Leads, Fails}
use Rattle.matcher.proofs.Hindering.{by}

module _ {S : Type 0} (reads : Categories → Spellings → S → S → Type 0) (ahead : S → List Item) (place : S → Place) (cs : Categories) (long : Bool) where
  pub stay : (s : Step) (ns : Spellings) (x : S) → Leads reads ahead place cs long s ns x s ns x
  stay s ns x = record { drives = refl; reaches = λ z h. h }

  -- at a step that is the same
  pub stay_at : (s t : Step) (ns : Spellings) (x : S) → s ≡ t → Leads reads ahead place cs long s ns x t ns x
  stay_at s t ns x e = rw e (stay t ns x)

  module _ {s : Step} {ns : Spellings} {x : S} {s' : Step} {ns' : Spellings} {x' : S} where
    pub onward : {s'' : Step} {ns'' : Spellings} {x'' : S} → Leads reads ahead place cs long s ns x s' ns' x' → Leads reads ahead place cs long s' ns' x' s'' ns'' x'' → Leads reads ahead place cs long s ns x s'' ns'' x''
    onward a b = record { drives = a.drives ∙ b.drives; reaches = λ z h. a.reaches z (b.reaches z h) }

    pub turned : {s'' : Step} → Leads reads ahead place cs long s ns x s' ns' x' → s' ≡ s'' → Leads reads ahead place cs long s ns x s'' ns' x'
    turned a e = onward a (stay_at s' _ ns' x' e)

    pub fails : {f : MatcherCause} {ns'' : Spellings} {x'' : S} → Leads reads ahead place cs long s ns x s' ns' x' → Fails reads ahead place cs long s' ns' x' f ns'' x'' → Fails reads ahead place cs long s ns x f ns'' x''
    fails {f} {ns''} {x''} a b = record {
      answer = ap (answered (place x'')) a.drives ∙ b.answer;
      stands = ap stands_at a.drives ∙ b.stands;
      reached = a.reaches x'' b.reached;
    }

    -- the matcher refuses
    pub refuses : (r : MatcherRefusal) → Leads reads ahead place cs long s ns x s' ns' x' → s' ≡ refuse r → Fails reads ahead place cs long s ns x (Matcher r (place x')) ns' x'
    unfolding driven ReachedFrom
    refuses r a e =
        let b : Leads reads ahead place cs long s ns x (refuse r) ns' x' = turned a e in
        record {
          answer = ap (answered (place x')) b.drives;
          stands = ap stands_at b.drives;
          reached = b.reaches x' refl;
        }

    -- something hinders
    pub hinders : (s'' : Step) {h : Option MatcherRefusal} {f : MatcherCause} → (r : MatcherRefusal) × (h ≡ Some r) × (f ≡ Matcher r (place x')) → Leads reads ahead place cs long s ns x s' ns' x' → s' ≡ by s'' h → Fails reads ahead place cs long s ns x f ns' x'
    hinders s'' (r, e, q) a k = rw q (refuses r a (k ∙ ap (by s'') e))

  -- a token is read
  module _ (h : Phase) (ns : Spellings) (x : S) (ns' : Spellings) (x' : S) where
    pub read : (t : Token) → stream cs ns (ahead x) ≡ token t (standing ns' (ahead x')) (stream cs ns' (ahead x')) → reads cs ns x x' → Leads reads ahead place cs long (on h) ns x (feed long h t) ns' x'
    unfolding driven ReachedFrom
    read t e r = record {
      drives = ap (drive (feed long) (on h) (standing ns (ahead x))) e;
      reaches = λ z k. rw e (x', r, k);
    }

    pub unread : (f : PileFault) → Takes cs (stream cs ns (ahead x)) (place x') (Err f) ns' (ahead x') → reads cs ns x x' → Fails reads ahead place cs long (on h) ns x (Pile f) ns' x'
    unfolding driven ReachedFrom
    unread (pile.Line f) e r = record {
      answer = ap (λ (s : Stream Standing). answered (place x') (drive (feed long) (on h) (standing ns (ahead x)) s)) e.0 ∙ rw (← e.1);
      stands = ap (λ (s : Stream Standing). stands_at (drive (feed long) (on h) (standing ns (ahead x)) s)) e.0;
      reached = rw e.0 r;
    }
    unread (pile.Pile f q) e r = record {
      answer = ap (λ (s : Stream Standing). answered (place x') (drive (feed long) (on h) (standing ns (ahead x)) s)) e.0 ∙ rw (e.1, e.2);
      stands = ap (λ (s : Stream Standing). stands_at (drive (feed long) (on h) (standing ns (ahead x)) s)) e.0;
      reached = rw e.0 r;
    }

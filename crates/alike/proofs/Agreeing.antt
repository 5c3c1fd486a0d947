-- Runs from states that are the same as spelled agree.
use Rattle.std.proofs.Common.{◌≡◌, Bool, true, false, ◌||◌, [], ◌∷◌, sym, subst}
use Rattle.rules.specs.States.{Stepped}
use Rattle.rules.specs.Calling.{perform}
use Rattle.alike.specs.Same.{SameResult}
use Rattle.alike.specs.Runs.{ends_comparison, Unless}
use Rattle.alike.specs.Laws.{SameState, AnswerAlike}
use Rattle.alike.proofs.Ruling.{SameStep, halt_left, halt_right, both}
use Rattle.alike.proofs.Calling.{same_perform}

unless_left : (X : Type 0) (b c : Bool) → b ≡ true → Unless (b || c) X
unless_left X b c e = subst (λ (a : Bool). Unless (a || c) X) (sym e) tt

unless_right : (X : Type 0) (b c : Bool) → c ≡ true → Unless (b || c) X
unless_right X true c e = tt
unless_right X false c e = subst (λ (a : Bool). Unless a X) (sym e) tt

unless_any : {X : Type 0} (b : Bool) → X → Unless b X
unless_any true x = tt
unless_any false x = x

abbrev Answered : Stepped → Stepped → Type 0 → Type 0
Answered x y X = SameResult x.state.stands.names y.state.stands.names x.answer y.answer × X

agreed : {X : Type 0} (x y : Stepped) → SameStep x y → (SameState x.state y.state → X) → Unless (ends_comparison x.answer || ends_comparison y.answer) (Answered x y X)
agreed {X} x y (halt_left e) more = unless_left (Answered x y X) (ends_comparison x.answer) (ends_comparison y.answer) e
agreed {X} x y (halt_right e) more = unless_right (Answered x y X) (ends_comparison x.answer) (ends_comparison y.answer) e
agreed x y (both a s) more = unless_any (ends_comparison x.answer || ends_comparison y.answer) (a, more s)

pub answers_alike : AnswerAlike
answers_alike a b s [] ds = tt
answers_alike a b s (c ∷ cs) [] = tt
answers_alike a b s (c ∷ cs) (d ∷ ds) = λ k. agreed (perform a c) (perform b d) (same_perform s k) (λ z. answers_alike (perform a c).state (perform b d).state z cs ds)

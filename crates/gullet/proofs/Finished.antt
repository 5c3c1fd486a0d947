-- What comes of reading by a rule, by what was answered of it.
use Rattle.std.proofs.Common.{◌≡◌, ℕ, [], Some, None, Ok, Err, Option, Result, MatchOption, refl, ap}
use Rattle.tokens.specs.declared.token.Token.{Token}
use Rattle.tokens.specs.declared.answer.Scope.{Scope}
use Rattle.tokens.specs.declared.answer.Entry.TheVariants.{Name}
use Rattle.sources.specs.declared.fault.Place.{Place}
use Rattle.sources.specs.declared.fault.PileFault.{PileFault}
use Rattle.sources.specs.declared.fault.PileFault.TheVariants as piles
use Rattle.sources.specs.declared.fault.PileRefusal.TheVariants.{Ended}
use Rattle.book.specs.Books.{name_answer, after_name}
use Rattle.driving.specs.declared.status.Status.TheVariants.{Normal}
use Rattle.driving.specs.Drives.{Driven, came, ended, failed, stands_at, answer_of}
use Rattle.rules.specs.Assigning.{named_by, let_as}
use Rattle.rules.specs.declared.refusal.GulletRefusal.TheVariants.{BadDefinition}
use Rattle.rules.specs.Readers.{Reader}
use Rattle.rules.specs.Refusals.{read, pile, gullet}
use Rattle.rules.specs.States.{State, state, at, Stepped, finished, meanings_of}
use Rattle.rules.specs.Tokens.{meaning}
use Rattle.gullet.specs.declared.fault.Cause.TheVariants.{Pile}
use Rattle.gullet.specs.declared.fault.GulletFault.{GulletFault}
use Rattle.gullet.specs.Faults.{fault_at, placed}
use Rattle.gullet.specs.Passing.{under}
use Rattle.gullet.specs.Targets.{name_from, target_of, let_ahead, let_named}
use Rattle.gullet.proofs.Booked.{recorded_same}

abbrev pub at_pile : {A : Type 0} → PileFault → Result A GulletFault
at_pile f = Err (record { cause = Pile f; status = Normal })

module _ (p : Place) where
  pub target_came : (d : Driven (Option ℕ) Reader) (o : Option ℕ) → Ok o ≡ answer_of p d → name_from o ≡ target_of d
  target_came (came x r) o e = let k : o ≡ x = cc in ap name_from k
  target_came (ended r) o e = cc
  target_came (failed x r) o e = cc

  pub target_short : (d : Driven (Option ℕ) Reader) (f : PileFault) → Err f ≡ answer_of p d → at_pile f ≡ placed p (target_of d)
  target_short (came x r) f e = cc
  target_short (ended r) f e = let k : f ≡ piles.Pile Ended p = cc in ap at_pile k
  target_short (failed x r) f e = let k : f ≡ piles.Line (record { refusal = x; place = p }) = cc in ap at_pile k

-- the name, or the refusal where it is missing
pub name_found : (p : Place) (o : Option ℕ) (x : Result ℕ GulletFault) → MatchOption o (x ≡ Err (fault_at p (record { cause = gullet BadDefinition; status = Normal }))) (λ n. x ≡ Ok n) → x ≡ placed p (name_from o)
name_found p None x h = h
name_found p (Some n) x h = h

module _ (s : State) (p : Place) (more : ℕ → Reader → Stepped) where
  pub named_under : (d : Driven (Option ℕ) Reader) (n : ℕ) → Ok n ≡ placed p (target_of d) → Ok (Some n) ≡ under Normal p d
  named_under (came (Some m) r) n e = let k : n ≡ m = cc in ap (λ (y : ℕ). Ok (Some y)) k
  named_under (came None r) n e = cc
  named_under (ended r) n e = cc
  named_under (failed x r) n e = cc

  pub named_refused : (d : Driven (Option ℕ) Reader) (f : GulletFault) → Err f ≡ placed p (target_of d)
      → (Err f ≡ placed p (finished s Normal d (named_by s more)).answer) × (state (stands_at d).stands s.book s.conditionals [] ≡ (finished s Normal d (named_by s more)).state)
  named_refused (came (Some m) r) f e = cc
  named_refused (came None r) f e = let k : f ≡ fault_at p (record { cause = gullet BadDefinition; status = Normal }) = cc in (ap (λ (y : GulletFault). Err y) k, refl)
  named_refused (ended r) f e = let k : f ≡ fault_at p (record { cause = pile Ended; status = Normal }) = cc in (ap (λ (y : GulletFault). Err y) k, refl)
  named_refused (failed x r) f e = let k : f ≡ fault_at p (record { cause = read x; status = Normal }) = cc in (ap (λ (y : GulletFault). Err y) k, refl)

-- where reading stood before does not matter
pub let_same : (n : ℕ) (sc : Scope) (t : Token) (s : State) (q r : Reader) → let_as (at s q) n sc t r ≡ let_as s n sc t r
let_same n sc t s q r =
    let m = meaning (meanings_of s.book) t in
    recorded_same s q r r.stands sc (Name n) (after_name sc n m s.book) (name_answer sc n m s.book)

pub named_same : (n : ℕ) (sc : Scope) (s : State) (q r : Reader) → let_named (at s q) r n sc ≡ let_named s r n sc
named_same n sc s q r = go (let_ahead s r)
  where
    go : (d : Driven Token Reader) → finished (at s q) Normal d (let_as (at s q) n sc) ≡ finished s Normal d (let_as s n sc)
    go (came t x) = let_same n sc t s q x
    go (ended x) = refl
    go (failed f x) = refl

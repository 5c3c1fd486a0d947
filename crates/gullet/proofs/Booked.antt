-- A group or an assignment, by what the book answers.
use Rattle.std.proofs.Common.{◌≡◌, false, [], Ok, Err, Result, IsErr, is_ok, refl, ap}
use Rattle.tokens.specs.declared.answer.Answer.{Answer}
use Rattle.tokens.specs.declared.answer.Answer.TheVariants.{Assigned}
use Rattle.tokens.specs.declared.answer.Entry.{Entry}
use Rattle.tokens.specs.declared.answer.Scope.{Scope}
use Rattle.sources.specs.declared.fault.Place.{Place}
use Rattle.driving.specs.declared.status.Status.TheVariants.{Normal}
use Rattle.book.specs.declared.fault.BookFault.{BookFault}
use Rattle.book.specs.Books.{BookState, after}
use Rattle.rules.specs.Assigning.{recorded_as}
use Rattle.rules.specs.Readers.{Position, Reader}
use Rattle.rules.specs.Refusals.{book}
use Rattle.rules.specs.States.{State, state, at}
use Rattle.rules.specs.Stepping.{grouped}
use Rattle.gullet.specs.declared.fault.GulletFault.{GulletFault}
use Rattle.gullet.specs.Faults.{fault_at, placed}
use Rattle.gullet.specs.States.{cleared}

module _ (s : State) (r : Reader) (a : Answer) where
  -- the state that a refusal leaves
  pub grouped_left : (does b : BookState) (x : Result (Unit {0}) BookFault) (res : Result Answer GulletFault) → false ≡ is_ok x → IsErr res → b ≡ after x s.book does
      → cleared res (state r.stands b s.conditionals s.tasks) ≡ (grouped s r a (after x s.book does) x).state
  grouped_left does b (Ok _) res h e k = cc
  grouped_left does b (Err f) (Ok y) h e k = cc
  grouped_left does b (Err f) (Err g) h e k = ap (λ (y : BookState). state r.stands y s.conditionals []) k

module _ (s : State) (r : Reader) (back : Position) (sc : Scope) (n : Entry) where
  -- the state that a refusal leaves
  pub recorded_left : (does b : BookState) (x : Result (Unit {0}) BookFault) (res : Result Answer GulletFault) → false ≡ is_ok x → IsErr res → b ≡ after x s.book does
      → cleared res (state r.stands b s.conditionals s.tasks) ≡ (recorded_as s r back sc n (after x s.book does) x).state
  recorded_left does b (Ok _) res h e k = cc
  recorded_left does b (Err f) (Ok y) h e k = cc
  recorded_left does b (Err f) (Err g) h e k = ap (λ (y : BookState). state r.stands y s.conditionals []) k

module _ (s : State) (r : Reader) (a : Answer) (p : Place) where
  pub grouped_done : (b : BookState) (x : Result (Unit {0}) BookFault) → Ok tt ≡ x
      → (Ok a ≡ placed p (grouped s r a b x).answer) × (state r.stands b s.conditionals s.tasks ≡ (grouped s r a b x).state)
  grouped_done b (Ok _) e = (refl, refl)
  grouped_done b (Err f) e = cc

  pub grouped_refused : (does : BookState) (x : Result (Unit {0}) BookFault) (f : BookFault) → Err f ≡ x
      → (Err (fault_at p (record { cause = book f; status = Normal })) ≡ placed p (grouped s r a (after x s.book does) x).answer)
      × (state r.stands (after x s.book does) s.conditionals [] ≡ (grouped s r a (after x s.book does) x).state)
  grouped_refused does (Ok _) f e = cc
  grouped_refused does (Err g) f e = let k : f ≡ g = cc in (ap (λ (y : BookFault). Err (fault_at p (record { cause = book y; status = Normal }))) k, refl)

module _ (s : State) (r : Reader) (back : Position) (sc : Scope) (n : Entry) (p : Place) where
  pub recorded_done : (b : BookState) (x : Result (Unit {0}) BookFault) → Ok tt ≡ x
      → (Ok (Assigned sc n) ≡ placed p (recorded_as s r back sc n b x).answer) × (state back b s.conditionals [] ≡ (recorded_as s r back sc n b x).state)
  recorded_done b (Ok _) e = (refl, refl)
  recorded_done b (Err f) e = cc

  pub recorded_refused : (does : BookState) (x : Result (Unit {0}) BookFault) (f : BookFault) → Err f ≡ x
      → (Err (fault_at p (record { cause = book f; status = Normal })) ≡ placed p (recorded_as s r back sc n (after x s.book does) x).answer)
      × (state r.stands (after x s.book does) s.conditionals [] ≡ (recorded_as s r back sc n (after x s.book does) x).state)
  recorded_refused does (Ok _) f e = cc
  recorded_refused does (Err g) f e = let k : f ≡ g = cc in (ap (λ (y : BookFault). Err (fault_at p (record { cause = book y; status = Normal }))) k, refl)

-- where reading stood before does not matter
pub recorded_same : (s : State) (q r : Reader) (back : Position) (sc : Scope) (n : Entry) (b : BookState) (x : Result (Unit {0}) BookFault)
    → recorded_as (at s q) r back sc n b x ≡ recorded_as s r back sc n b x
recorded_same s q r back sc n b (Ok _) = refl
recorded_same s q r back sc n b (Err f) = refl

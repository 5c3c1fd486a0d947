-- A code's new category, with the token behind the digits put back or not.
use Rattle.std.proofs.Common.{◌≡◌, ℕ, Bool, true, false, cond, List, [], ◌∷◌, Some, None, Ok, Err, Option, Result, refl, ap}
use Rattle.std.specs.Option.{ok_or}
use Rattle.tokens.specs.declared.token.Token.{Token}
use Rattle.tokens.specs.declared.category.Category.{Category}
use Rattle.tokens.specs.declared.unknown.Unknown.{Unknown}
use Rattle.tokens.specs.declared.answer.Answer.{Answer}
use Rattle.tokens.specs.declared.answer.Entry.{Entry}
use Rattle.tokens.specs.declared.answer.Entry.TheVariants.{Code}
use Rattle.tokens.specs.declared.answer.Scope.{Scope}
use Rattle.tokens.specs.Categories.{category_of}
use Rattle.sources.specs.declared.fault.Place.{Place}
use Rattle.piles.specs.Inserting as piles
use Rattle.piles.specs.Inserting.{Put, put_back}
use Rattle.book.specs.declared.fault.BookFault.{BookFault}
use Rattle.book.specs.Books.{BookState, code_answer, after_code}
use Rattle.driving.specs.declared.status.Status.TheVariants.{Normal}
use Rattle.driving.specs.Drives.{Driven, came, ended, failed, drive}
use Rattle.matching.specs.Matching.{on}
use Rattle.rules.specs.declared.phases.Number.TheVariants.{BeforeNumber}
use Rattle.rules.specs.Assigning.{recorded_as, recoded_as, recoded_over, recoded_by, recoding_of, number_feed}
use Rattle.rules.specs.Readers.{Position, Reader, put}
use Rattle.rules.specs.States.{State, state, at, ahead, finished, meanings_of}
use Rattle.rules.specs.Tokens.{is_space}
use Rattle.gullet.specs.declared.fault.GulletFault.{GulletFault}
use Rattle.gullet.specs.Faults.{placed}
use Rattle.gullet.proofs.Booked.{recorded_same}

-- the category that was read from a number
pub category_read : (n : ℕ) (c : Category) (u : Unknown) → Ok c ≡ ok_or (category_of n) u → category_of n ≡ Some c
category_read n c u e = go (category_of n) e
  where
    go : (o : Option Category) → Ok c ≡ ok_or o u → o ≡ Some c
    go None e = cc
    go (Some d) e = let k : d ≡ c = cc in ap Some k

module _ (s : State) (r : Reader) (sc : Scope) (p : Place) (f : List Token → List Token) where
  abbrev over : State → State
  over z = state (put z.stands (f z.stands.held)) z.book z.conditionals z.tasks

  abbrev back : Position
  back = put r.stands (f r.stands.held)

  recorded_over : (n : Entry) (b : BookState) (x : Result (Unit {0}) BookFault) (a : Answer) (z : State) → Ok a ≡ placed p (recorded_as s r r.stands sc n b x).answer
      → z ≡ (recorded_as s r r.stands sc n b x).state
      → (Ok a ≡ placed p (recorded_as s r back sc n b x).answer) × (over z ≡ (recorded_as s r back sc n b x).state)
  recorded_over n b (Ok _) a z e h = (e, ap over h)
  recorded_over n b (Err g) a z e h = cc

  recorded_not : (n : Entry) (b : BookState) (x : Result (Unit {0}) BookFault) (g : GulletFault) → Err g ≡ placed p (recorded_as s r r.stands sc n b x).answer
      → recorded_as s r r.stands sc n b x ≡ recorded_as s r back sc n b x
  recorded_not n b (Ok _) g e = cc
  recorded_not n b (Err h) g e = refl

  pub recoded_over_lem : (x : ℕ) (o : Option Category) (a : Answer) (z : State) → Ok a ≡ placed p (recoded_as s x sc r r.stands o).answer → z ≡ (recoded_as s x sc r r.stands o).state
      → (Ok a ≡ placed p (recoded_as s x sc r back o).answer) × (over z ≡ (recoded_as s x sc r back o).state)
  recoded_over_lem x None a z e h = cc
  recoded_over_lem x (Some c) a z e h = recorded_over (Code x c) (after_code sc x c s.book) (code_answer sc x c s.book) a z e h

  pub recoded_not : (x : ℕ) (o : Option Category) (g : GulletFault) → Err g ≡ placed p (recoded_as s x sc r r.stands o).answer
      → recoded_as s x sc r r.stands o ≡ recoded_as s x sc r back o
  recoded_not x None g e = refl
  recoded_not x (Some c) g e = recorded_not (Code x c) (after_code sc x c s.book) (code_answer sc x c s.book) g e

-- where reading stood before does not matter
module _ (s : State) (q r : Reader) (sc : Scope) (x : ℕ) where
  as_same : (to : Position) (o : Option Category) → recoded_as (at s q) x sc r to o ≡ recoded_as s x sc r to o
  as_same to None = refl
  as_same to (Some c) = recorded_same s q r to sc (Code x c) (after_code sc x c s.book) (code_answer sc x c s.book)

  by_same : (v : ℕ) (b : Bool) (h : Put) → cond b (recoded_as (at s q) x sc r r.stands (category_of v)) (recoded_over (at s q) x sc v r h)
      ≡ cond b (recoded_as s x sc r r.stands (category_of v)) (recoded_over s x sc v r h)
  by_same v true h = as_same r.stands (category_of v)
  by_same v false (piles.put ts) = as_same (put r.stands ts) (category_of v)
  by_same v false (piles.refused e) = refl

  pub recoded_same : (v : ℕ) (t : Token) → recoded_by (at s q) x sc (Some (v, t)) r ≡ recoded_by s x sc (Some (v, t)) r
  recoded_same v t = by_same v (is_space (meanings_of s.book) t) (put_back (t ∷ []) r.stands.held)

module _ (s : State) (q r : Reader) (sc : Scope) where
  number_same : (x : ℕ) (d : Driven (Option (ℕ × Token)) Reader) → finished (at s q) Normal d (recoded_by (at s q) x sc) ≡ finished s Normal d (recoded_by s x sc)
  number_same x (came None y) = refl
  number_same x (came (Some n) y) = recoded_same s q y sc x n.0 n.1
  number_same x (ended y) = refl
  number_same x (failed f y) = refl

  pub recoding_same : (o : Option ℕ) → recoding_of (at s q) sc r o ≡ recoding_of s sc r o
  recoding_same None = refl
  recoding_same (Some x) = number_same x (drive number_feed (on BeforeNumber) r (ahead s r))

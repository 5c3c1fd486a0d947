-- What a function of a gullet does, by what the functions that it calls do.
use Rattle.std.proofs.Common.{◌≡◌, true, false, is_ok, is_some, List, [], Some, None, Ok, Err, Option, Result, MatchOption, sym, refl, ap, ◌∙◌, subst}
use Rattle.std.specs.Result.{IsErrAnd}
use Rattle.std.proofs.lemmas.Result.{err_from_is_err_and}
use Rattle.tokens.specs.declared.token.Token.{Token}
use Rattle.tokens.specs.declared.answer.Answer.{Answer}
use Rattle.sources.specs.declared.fault.PileFault.{PileFault}
use Rattle.sources.specs.declared.source.Source.{Ghosts}
use Rattle.driving.specs.declared.status.Status.{Status}
use Rattle.driving.specs.declared.status.Status.TheVariants.{Normal}
use Rattle.driving.specs.Drives.{Driven, stands_at, answer_of}
use Rattle.rules.specs.declared.refusal.GulletRefusal.{GulletRefusal}
use Rattle.rules.specs.Readers.{Position, Reader, reader}
use Rattle.rules.specs.Refusals.{gullet}
use Rattle.rules.specs.States.{State, state, Stepped, at, refuse, finished}
use Rattle.gullet.specs.declared.fault.Cause.TheVariants.{Pile}
use Rattle.gullet.specs.declared.fault.GulletFault.{GulletFault}
use Rattle.gullet.specs.declared.parts.Gullet.{Gullet}
use Rattle.gullet.specs.Does.{at_start, Does}
use Rattle.gullet.specs.Faults.{fault_at, placed}
use Rattle.gullet.specs.Fed.{position_of}
use Rattle.gullet.specs.Passing.{under}
use Rattle.gullet.specs.States.{state_of, place_of}
use Rattle.gullet.proofs.Passed.{went_on, broke_answer, broke_state, ok_under, err_under}

-- a rule that is fed tokens, and what becomes of its outcome
abbrev pub fed_rule : {O : Type 0} → Status → (State → Reader → Driven O Reader) → (State → O → Reader → Stepped) → State → Reader → Stepped
fed_rule status feed end s r = finished s status (feed s r) (end s)

-- the state once reading has moved on
pub moves : (s : State) {p : Position} (r : Reader) → p ≡ r.stands → state p s.book s.conditionals s.tasks ≡ at s r
moves s r e = ap (λ (z : Position). state z s.book s.conditionals s.tasks) e

-- all but names and source is as it was
abbrev pub Stays : {S : Type 0} {source : Ghosts S} → Gullet S source → Gullet S source → Type 0
Stays {S} {source} old new = state_of new ≡ state (position_of source.ahead new.names new.source) (state_of old).book (state_of old).conditionals (state_of old).tasks

-- an error passed on as it is
pub err_is : {T E : Type 0} (x : Result T E) (f : E) → IsErrAnd x (λ e. e ≡ f) → x ≡ Err f
err_is x f h = let q = err_from_is_err_and x h in q.1 ∙ ap Err q.2

-- what an `ok_or_else` says of its option
pub missing : {T E : Type 0} (o : Option T) (x : Result T E) (e : E) → is_ok x ≡ is_some o → x ≡ Err e → o ≡ None
missing None x e h k = refl
missing (Some y) x e h k = let z : true ≡ false = sym h ∙ ap is_ok k in cc

pub present : {T E : Type 0} (P : E → Type 0) (o : Option T) (x : Result T E) (y : T) → MatchOption o (IsErrAnd x P) (λ z. x ≡ Ok z) → x ≡ Ok y → o ≡ Some y
present P None x y h k = absurd (subst (λ r. IsErrAnd r P) k h)
present P (Some z) x y h k = let w : z ≡ y = cc in ap Some w

module _ {S : Type 0} {source : Ghosts S} where
  -- another rule that says the same here
  pub does_as : {old new : Gullet S source} {x : Result Answer GulletFault} (rule other : State → Reader → Stepped)
      → ((read : List Token) → at_start old rule read ≡ at_start old other read) → Does old new x rule → Does old new x other
  does_as {old} {new} {x} rule other e d = record {
    answer = λ read. d.answer read ∙ ap (λ (y : Stepped). placed (place_of new) y.answer) (e read);
    state = λ read. d.state read ∙ ap (λ (y : Stepped). y.state) (e read);
  }

  -- a refusal of the gullet's own
  pub does_refuse : {g : Gullet S source} (x : Result Answer GulletFault) (refusal : GulletRefusal) (rule : State → Reader → Stepped)
      → IsErrAnd x (λ f. f ≡ fault_at (place_of g) (record { cause = gullet refusal; status = Normal }))
      → ((read : List Token) → refuse (state_of g) (reader (state_of g).stands read) Normal (gullet refusal) ≡ at_start g rule read)
      → Does g g x rule
  does_refuse {g} x refusal rule h e =
      let q = err_from_is_err_and x h in
      record {
        answer = λ read. rw (q.1, q.2) (ap (λ (y : Stepped). placed (place_of g) y.answer) (e read));
        state = λ read. rw q.1 (ap (λ (y : Stepped). y.state) (e read));
      }

  module _ {O : Type 0} (status : Status) (feed : State → Reader → Driven O Reader) (end : State → O → Reader → Stepped) where
    pub does_then : {old mid new : Gullet S source} {x : Result Answer GulletFault} (o : O)
        → ((read : List Token) → Ok o ≡ under status (place_of mid) (at_start old feed read))
        → ((read : List Token) → state_of mid ≡ at (state_of old) (stands_at (at_start old feed read)))
        → ((s : State) (q : Reader) → end (at s q) o q ≡ end s o q)
        → Does mid new x (λ s r. end s o r) → Does old new x (fed_rule status feed end)
    does_then {old} {mid} {new} {x} o a k same d =
        let s = state_of old in
        let q : List Token → Reader = λ read. stands_at (at_start old feed read) in
        let e : (read : List Token) → at_start mid (λ z r. end z o r) (q read).read ≡ at_start old (fed_rule status feed end) read =
        λ read. ap (λ (z : State). end z o (reader z.stands (q read).read)) (k read) ∙ same s (q read)
        ∙ sym (went_on s status (place_of mid) (end s) (at_start old feed read) o (a read)) in
        record {
          answer = λ read. d.answer (q read).read ∙ ap (λ (y : Stepped). placed (place_of new) y.answer) (e read);
          state = λ read. d.state (q read).read ∙ ap (λ (y : Stepped). y.state) (e read);
        }

    pub does_short : {old mid : Gullet S source} (x : Result Answer GulletFault) (f : GulletFault) → x ≡ Err f
        → ((read : List Token) → Err f ≡ under status (place_of mid) (at_start old feed read))
        → ((read : List Token) → state_of mid ≡ at (state_of old) (stands_at (at_start old feed read)))
        → Does old mid x (fed_rule status feed end)
    does_short {old} {mid} x f h a k =
        let s = state_of old in
        record {
          answer = λ read. h ∙ broke_answer s status (place_of mid) (end s) (at_start old feed read) f (a read);
          state = λ read. rw h (ap (λ (z : State). state z.stands z.book z.conditionals []) (k read)
              ∙ broke_state s status (place_of mid) (end s) (at_start old feed read) f (a read));
        }

  -- the same, by what the feeding of a rule outside of matching, defining and skipping answers
  module _ {O : Type 0} (feed : State → Reader → Driven O Reader) (end : State → O → Reader → Stepped) (old : Gullet S source) {mid : Gullet S source} where
    pub fed_then : {new : Gullet S source} {x : Result Answer GulletFault} (o : O)
        → ((read : List Token) → Ok o ≡ answer_of (place_of mid) (at_start old feed read))
        → ((read : List Token) → position_of source.ahead mid.names mid.source ≡ (stands_at (at_start old feed read)).stands) → Stays old mid
        → ((s : State) (q : Reader) → end (at s q) o q ≡ end s o q)
        → Does mid new x (λ s r. end s o r) → Does old new x (fed_rule Normal feed end)
    fed_then o a k m same d =
        does_then Normal feed end o (λ read. ok_under Normal (place_of mid) (at_start old feed read) o (a read)) (λ read. m ∙ moves (state_of old) (stands_at (at_start old feed read)) (k read)) same d

    pub fed_short : (x : Result Answer GulletFault) (f : PileFault) → IsErrAnd x (λ g. g ≡ record { cause = Pile f; status = Normal })
        → ((read : List Token) → Err f ≡ answer_of (place_of mid) (at_start old feed read))
        → ((read : List Token) → position_of source.ahead mid.names mid.source ≡ (stands_at (at_start old feed read)).stands) → Stays old mid
        → Does old mid x (fed_rule Normal feed end)
    fed_short x f h a k m =
        let q = err_from_is_err_and x h in
        does_short Normal feed end x (record { cause = Pile f; status = Normal }) (q.1 ∙ ap Err q.2)
        (λ read. err_under Normal (place_of mid) (at_start old feed read) f (a read)) (λ read. m ∙ moves (state_of old) (stands_at (at_start old feed read)) (k read))

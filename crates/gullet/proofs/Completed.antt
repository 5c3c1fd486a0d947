-- An expansion completed, by what came of putting back.
use Rattle.std.proofs.Common.{◌≡◌, ℕ, ◌+◌, ◌≤◌, Bool, true, cond, leb, List, [], ◌++◌, length, Ok, Err, refl, ap, ◌∙◌, arith}
use Rattle.std.proofs.lemmas.Bool.{le-leb}
use Rattle.tokens.specs.declared.token.Token.{Token}
use Rattle.tokens.specs.declared.answer.Answer.{Answer}
use Rattle.tokens.specs.declared.answer.Answer.TheVariants.{Working}
use Rattle.sources.specs.declared.fault.Place.{Place}
use Rattle.sources.specs.declared.fault.PileFault.{PileFault}
use Rattle.sources.specs.declared.fault.PileFault.TheVariants as piles
use Rattle.driving.specs.declared.status.Status.TheVariants.{Normal}
use Rattle.pending.specs.declared.conditional.Part.{Part}
use Rattle.pending.specs.declared.stack.Stack.{Stack}
use Rattle.pending.specs.declared.task.Task.{Task}
use Rattle.pending.specs.Underway.{tasks_of, waiting_of, beyond_waiting}
use Rattle.pending.proofs.Waiting.{waiting_within}
use Rattle.piles.specs.Inserting as put
use Rattle.piles.specs.Inserting.{Put, put_answer, held_after}
use Rattle.rules.specs.Readers as readers
use Rattle.rules.specs.Readers.{Reader}
use Rattle.rules.specs.States.{State, state, completed_by}
use Rattle.gullet.specs.declared.fault.GulletFault.{GulletFault}
use Rattle.gullet.specs.declared.fault.Cause.TheVariants.{Pile}
use Rattle.gullet.specs.Faults.{placed}

module _ (s : State) (r : Reader) (cs : List Part) (p : Place) where
  pub put_answer_lem : (x : Put) → Ok tt ≡ put_answer p x → Ok Working ≡ placed p (completed_by s r cs x).answer
  put_answer_lem (put.put h) e = refl
  put_answer_lem (put.refused f) e = cc

  pub put_state : (x : Put) → Ok tt ≡ put_answer p x → state (readers.put r.stands (held_after r.stands.held x)) s.book cs (beyond_waiting s.tasks) ≡ (completed_by s r cs x).state
  put_state (put.put h) e = refl
  put_state (put.refused f) e = cc

  pub refused_answer : (x : Put) (f : PileFault) → Err f ≡ put_answer p x → Err (record { cause = Pile f; status = Normal }) ≡ placed p (completed_by s r cs x).answer
  refused_answer (put.put h) f e = cc
  refused_answer (put.refused g) f e = let k : f ≡ piles.Pile g p = cc in ap (λ (x : PileFault). Err (record { cause = Pile x; status = Normal })) k

  pub refused_state : (x : Put) (f : PileFault) → Err f ≡ put_answer p x → state (readers.put r.stands (held_after r.stands.held x)) s.book s.conditionals [] ≡ (completed_by s r cs x).state
  refused_state (put.put h) f e = cc
  refused_state (put.refused g) f e = refl

-- with other conditionals open from then on
module _ (s : State) (r : Reader) (ds : List Part) (f : List Part → List Part) (p : Place) where
  pub turned_answer : (x : Put) → (completed_by s r ds x).answer ≡ (completed_by s r (f ds) x).answer
  turned_answer (put.put h) = refl
  turned_answer (put.refused e) = refl

  pub turned_state : (x : Put) (a : Answer) (q : State) → Ok a ≡ placed p (completed_by s r ds x).answer → q ≡ (completed_by s r ds x).state
      → state q.stands q.book (f q.conditionals) q.tasks ≡ (completed_by s r (f ds) x).state
  turned_state (put.put h) a q e k = ap (λ (z : State). state z.stands z.book (f z.conditionals) z.tasks) k
  turned_state (put.refused b) a q e k = cc

  pub kept_state : (x : Put) (b : GulletFault) (q : State) → Err b ≡ placed p (completed_by s r ds x).answer → q ≡ (completed_by s r ds x).state → q ≡ (completed_by s r (f ds) x).state
  kept_state (put.put h) b q e k = cc
  kept_state (put.refused g) b q e k = k

-- all the waiting tokens find room
pub all_waiting : (t : Stack Task 64) (cap : ℕ) → 64 ≤ cap → leb (0 + length (waiting_of (tasks_of t))) cap ≡ true
all_waiting t cap h =
    let f = t.few in
    le-leb (0 + length (waiting_of (tasks_of t))) cap (omega (arith, waiting_within t.held.items))

-- what is copied into an empty list is what waits
pub in_front : (t : Stack Task 64) (len cap : ℕ) (b : Bool) (bs xs ds : List Token) → 64 ≤ cap → len ≡ 0 → bs ≡ [] → b ≡ leb (len + length (waiting_of (tasks_of t))) cap
    → xs ≡ bs ++ cond b (waiting_of (tasks_of t)) [] → ds ≡ xs → ds ≡ waiting_of (tasks_of t)
in_front t len cap b bs xs ds h e f g k d =
    let yes : b ≡ true = g ∙ rw e (all_waiting t cap h) in
    d ∙ k ∙ rw (f, yes)

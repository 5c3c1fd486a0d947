-- Rules fed by a gullet, and what comes of conditionals.
use Rattle.std.proofs.Common.{◌≡◌, ℕ, ◌<◌, Bool, true, false, leb, List, [], ◌∷◌, length, Some, None, Ok, Err, Option, Result, MatchResult, refl, ap, ◌∙◌, arith}
use Rattle.std.proofs.lemmas.Bool.{lt-ltb}
use Rattle.tokens.specs.declared.token.Token.{Token}
use Rattle.tokens.specs.declared.answer.Answer.TheVariants.{Working}
use Rattle.matching.specs.Matching.{on}
use Rattle.sources.specs.declared.fault.Place.{Place}
use Rattle.sources.specs.declared.fault.PileRefusal.TheVariants.{Ended}
use Rattle.sources.specs.declared.fault.PileFault.{PileFault}
use Rattle.sources.specs.declared.fault.PileFault.TheVariants as piles
use Rattle.driving.specs.declared.status.Status.{Status}
use Rattle.driving.specs.declared.status.Status.TheVariants.{Normal, Skipping}
use Rattle.driving.specs.Drives.{Driven, came, ended, failed, drive, stands_at, answer_of}
use Rattle.pending.specs.declared.conditional.Part.{Part}
use Rattle.pending.specs.declared.conditional.Part.TheVariants.{First, Second}
use Rattle.pending.specs.declared.task.Task.TheVariants.{After}
use Rattle.pending.specs.Fronts.{front, behind, joining}
use Rattle.piles.specs.Inserting as put
use Rattle.piles.specs.Inserting.{Put, put_back}
use Rattle.rules.specs.declared.refusal.GulletRefusal.TheVariants.{Misplaced, ConditionalsFull, TasksFull}
use Rattle.rules.specs.declared.phases.Until.TheVariants.{ElseOrFi, OnlyFi}
use Rattle.rules.specs.declared.phases.Found.{Found}
use Rattle.rules.specs.declared.phases.Found.TheVariants as found
use Rattle.rules.specs.Expanding.{one_feed, expand_after, skipped_to, decided, unless_open, at_else_of, at_fi_of}
use Rattle.rules.specs.Readers.{Reader}
use Rattle.rules.specs.Refusals.{gullet}
use Rattle.rules.specs.States.{State, state, Stepped, ends, refuse, at, completed, completed_by, finished, ahead}
use Rattle.gullet.specs.declared.fault.Cause.TheVariants.{Pile}
use Rattle.gullet.specs.declared.fault.GulletFault.{GulletFault}
use Rattle.gullet.specs.declared.turn.Turn.TheVariants.{Begin}
use Rattle.gullet.specs.Faults.{placed}
use Rattle.gullet.specs.Passing.{under, skipping, turn_at}
use Rattle.gullet.specs.Turns.{turned}

-- what is answered of a rule, by the pile's answer
module _ {O B : Type 0} (st : Status) (p : Place) where
  pub ok_under : (d : Driven O B) (o : O) → Ok o ≡ answer_of p d → Ok o ≡ under st p d
  ok_under (came k b) o e = let h : o ≡ k = cc in ap Ok h
  ok_under (ended b) o e = cc
  ok_under (failed k b) o e = cc

  pub err_under : (d : Driven O B) (f : PileFault) → Err f ≡ answer_of p d → Err (record { cause = Pile f; status = st }) ≡ under st p d
  err_under (came k b) f e = cc
  err_under (ended b) f e = let h : f ≡ piles.Pile Ended p = cc in ap (λ (x : PileFault). Err (record { cause = Pile x; status = st })) h
  err_under (failed k b) f e = let h : f ≡ piles.Line (record { refusal = k; place = p }) = cc in ap (λ (x : PileFault). Err (record { cause = Pile x; status = st })) h

  pub under_from : (d : Driven O B) (x : Result O PileFault) (y : Result O GulletFault) → MatchResult x (λ o. y ≡ Ok o) (λ f. y ≡ Err (record { cause = Pile f; status = st })) → x ≡ answer_of p d → y ≡ under st p d
  under_from d (Ok o) y h e = h ∙ ok_under d o e
  under_from d (Err f) y h e = h ∙ err_under d f e

-- what the rules make of it
module _ {O : Type 0} (s : State) (st : Status) (p : Place) (end : O → Reader → Stepped) where
  pub went_on : (d : Driven O Reader) (o : O) → Ok o ≡ under st p d → finished s st d end ≡ end o (stands_at d)
  went_on (came k b) o e = let h : k ≡ o = cc in ap (λ (x : O). end x b) h
  went_on (ended b) o e = cc
  went_on (failed k b) o e = cc

  pub broke_answer : (d : Driven O Reader) (f : GulletFault) → Err f ≡ under st p d → Err f ≡ placed p (finished s st d end).answer
  broke_answer (came k b) f e = cc
  broke_answer (ended b) f e = let h : f ≡ record { cause = Pile (piles.Pile Ended p); status = st } = cc in ap Err h
  broke_answer (failed k b) f e = let h : f ≡ record { cause = Pile (piles.Line (record { refusal = k; place = p })); status = st } = cc in ap Err h

  pub broke_state : (d : Driven O Reader) (f : GulletFault) → Err f ≡ under st p d → state (stands_at d).stands s.book s.conditionals [] ≡ (finished s st d end).state
  broke_state (came k b) f e = cc
  broke_state (ended b) f e = refl
  broke_state (failed k b) f e = refl

-- a rule that goes on elsewhere, of a state that differs in where reading stands
elsewhere_by : (s : State) (q r : Reader) (cs : List Part) (x : Put) → completed_by (at s q) r cs x ≡ completed_by s r cs x
elsewhere_by s q r cs (put.put h) = refl
elsewhere_by s q r cs (put.refused e) = refl

pub elsewhere : (s : State) (q r : Reader) (cs : List Part) (ts : List Token) → completed (at s q) r cs ts ≡ completed s r cs ts
elsewhere s q r cs ts = elsewhere_by s q r cs (put_back _ r.stands.held)

-- whether a conditional is open in its first part
abbrev pub is_first : Option Part → Bool
is_first None = false
is_first (Some First) = true
is_first (Some Second) = false

-- a \fi
module _ (s : State) (r : Reader) where
  pub fi_refused : (cs : List Part) → length cs ≡ 0 → at_fi_of s r cs ≡ refuse s r Normal (gullet Misplaced)
  fi_refused [] e = refl
  fi_refused (c ∷ cs) e = absurd (omega arith)

  pub fi_closes : (cs : List Part) → 0 < length cs → at_fi_of s r cs ≡ completed s r (behind cs) []
  fi_closes [] h = absurd (omega arith)
  fi_closes (c ∷ cs) h = refl

  -- an \else
  pub else_refused : (cs : List Part) → is_first (front cs) ≡ false → at_else_of s r cs ≡ refuse s r Normal (gullet Misplaced)
  else_refused [] e = refl
  else_refused (First ∷ cs) e = cc
  else_refused (Second ∷ cs) e = refl

  pub else_skips : (cs : List Part) → is_first (front cs) ≡ true → at_else_of s r cs ≡ finished s Skipping (skipping s r OnlyFi) (λ o q. completed s q (behind cs) [])
  else_skips [] e = cc
  else_skips (First ∷ cs) e = refl
  else_skips (Second ∷ cs) e = cc

-- one more conditional finds room
pub joins : {X : Type 0} (n : ℕ) (x : X) (xs : List X) → length xs < n → joining n x xs ≡ x ∷ xs
joins n x xs h = rw (lt-ltb (length xs) n h)

-- a token that waits
module _ (s : State) (r : Reader) where
  abbrev pub after_one : Token → Reader → Stepped
  after_one t q = ends q Working (state q.stands s.book s.conditionals (After t ∷ s.tasks))

  pub after_reads : leb 64 (length s.tasks) ≡ false → expand_after s r ≡ finished s Normal (drive one_feed (on tt) r (ahead s r)) after_one
  after_reads e = rw e

  pub after_refused : leb 64 (length s.tasks) ≡ true → expand_after s r ≡ refuse s r Normal (gullet TasksFull)
  after_refused e = rw e

-- a conditional is decided
module _ (s : State) (few : length s.conditionals < 100) where
  pub skipped_to_lem : (o : Found) (q : Reader) → skipped_to s o q ≡ completed s q (turned (turn_at o) s.conditionals) []
  skipped_to_lem found.Else q = rw (lt-ltb (length s.conditionals) 100 few)
  skipped_to_lem found.Fi q = refl

  pub decided_true : (b : Bool) (r : Reader) → b ≡ true → decided s r b ≡ completed s r (turned Begin s.conditionals) []
  decided_true b r e = rw (e, lt-ltb (length s.conditionals) 100 few)

pub decided_false : (s : State) (b : Bool) (r : Reader) → b ≡ false → decided s r b ≡ finished s Skipping (skipping s r ElseOrFi) (skipped_to s)
decided_false s b r e = rw e

-- and elsewhere, in the same way
pub skipped_elsewhere : (s : State) (q r : Reader) (o : Found) → skipped_to (at s q) o r ≡ skipped_to s o r
skipped_elsewhere s q r found.Else = elsewhere s q r (Second ∷ s.conditionals) []
skipped_elsewhere s q r found.Fi = elsewhere s q r s.conditionals []

finished_elsewhere : (s : State) (q : Reader) (d : Driven Found Reader) → finished (at s q) Skipping d (skipped_to (at s q)) ≡ finished s Skipping d (skipped_to s)
finished_elsewhere s q (came o r) = skipped_elsewhere s q r o
finished_elsewhere s q (ended r) = refl
finished_elsewhere s q (failed e r) = refl

pub decided_elsewhere : (s : State) (q : Reader) (b : Bool) → decided (at s q) q b ≡ decided s q b
decided_elsewhere s q true = elsewhere s q q (First ∷ s.conditionals) []
decided_elsewhere s q false = finished_elsewhere s q (skipping s q ElseOrFi)

-- with 100 conditionals open, and with fewer
module _ (s : State) (r : Reader) (more : Stepped) where
  pub unless_full : leb 100 (length s.conditionals) ≡ true → unless_open s r more ≡ refuse s r Normal (gullet ConditionalsFull)
  unless_full e = rw e

  pub unless_few : leb 100 (length s.conditionals) ≡ false → unless_open s r more ≡ more
  unless_few e = rw e

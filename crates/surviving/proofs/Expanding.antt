-- What expandable tokens do: their result is put back, and the tasks that waited for it are done.
--   Beyond            behind a meaning and any tokens, the tasks left are those beyond the waiting ones
--   completes         an expansion is complete
--   unless_open_lem   refused with 100 conditionals open, else so
--   waits, calls, decides, compares, turns, closes  \expandafter, macros, \iftrue and \iffalse, \ifx, \else, \fi
use Rattle.std.proofs.Common.{◌≡◌, ℕ, Bool, true, false, cond, leb, List, [], ◌∷◌, ◌++◌, length, None, sym, refl, ap, ◌∙◌, arith}
use Rattle.tokens.specs.declared.token.Token.{Token}
use Rattle.tokens.specs.declared.stored.ParameterWord.{ParameterWord}
use Rattle.tokens.specs.declared.stored.BodyWord.{BodyWord}
use Rattle.tokens.specs.declared.answer.Answer.TheVariants.{Working}
use Rattle.piles.specs.Inserting as piles
use Rattle.piles.specs.Inserting.{Put, put_back}
use Rattle.matching.specs.Dividing.{parameters_of}
use Rattle.matching.specs.Matching as call
use Rattle.matching.specs.Matching.{on, Outcome, begin, feed}
use Rattle.book.specs.declared.meaning.Primitive.TheVariants.{ExpandAfter}
use Rattle.book.specs.Meanings.{Means, primitive}
use Rattle.driving.specs.declared.status.Status.TheVariants.{Normal, Matching, Skipping}
use Rattle.driving.specs.Drives.{drive}
use Rattle.pending.specs.declared.conditional.Part.{Part}
use Rattle.pending.specs.declared.conditional.Part.TheVariants.{First, Second}
use Rattle.pending.specs.declared.task.Task.{Task}
use Rattle.pending.specs.declared.task.Task.TheVariants.{After}
use Rattle.pending.specs.Underway.{beyond_waiting}
use Rattle.rules.specs.declared.refusal.GulletRefusal.TheVariants.{ConditionalsFull, TasksFull}
use Rattle.rules.specs.declared.phases.Until.TheVariants.{ElseOrFi, OnlyFi}
use Rattle.rules.specs.declared.phases.Found.{Found}
use Rattle.rules.specs.declared.phases.Found.TheVariants as found
use Rattle.rules.specs.Refusals.{gullet}
use Rattle.rules.specs.Readers.{Reader}
use Rattle.rules.specs.States.{State, state, Stepped, ends, refuse, waiting, completed_by, completed, finished, ahead, meanings_of}
use Rattle.rules.specs.Tokens.{meaning, same_meaning}
use Rattle.rules.specs.Skipping.{skip_feed}
use Rattle.rules.specs.Expanding.{substituted, called_by, called, one_feed, two_feed, expand_after, unless_open, skipped_to, decided, compared, at_else_of, at_fi_of}
use Rattle.surviving.specs.Diaries.{tasks_by}
use Rattle.surviving.proofs.Reading.{Again, reading}
use Rattle.surviving.proofs.Leaving.{Steps, Behind, onward, working_is}

abbrev pub Beyond : List Task → Means → Type 0
Beyond ts m = (more : List Token) → tasks_by more ts m ≡ beyond_waiting ts

module _ (s : State) where
  pub completes : {m : Means} {more : List Token} {r : Reader} → Behind s m more r → tasks_by more s.tasks m ≡ beyond_waiting s.tasks
      → (cs : List Part) (result : List Token) → Steps s (completed s r cs result)
  completes {r = r} h e cs result = go (put_back (waiting s.tasks result) r.stands.held)
    where
      go : (p : Put) → Steps s (completed_by s r cs p)
      go (piles.put held) = (refl, sym (working_is h ∙ e))
      go (piles.refused f) = (refl, refl)

  pub unless_open_lem : (r : Reader) (more : Stepped) → Steps s more → Steps s (unless_open s r more)
  unless_open_lem r more h = go (leb 100 (length s.conditionals))
    where
      go : (b : Bool) → Steps s (cond b (refuse s r Normal (gullet ConditionalsFull)) more)
      go true = (refl, refl)
      go false = h

  pub waits : (r : Reader) → Behind s (primitive ExpandAfter) [] r → Steps s (expand_after s r)
  waits r h = go (leb 64 (length s.tasks))
    where
      after : Token → Reader → Stepped
      after t q = ends q Working (state q.stands s.book s.conditionals (After t ∷ s.tasks))

      one : (t : Token) (q : Reader) (ts : List Token) → q.read ≡ r.read ++ ts → Again one_feed (on tt) t ts → Steps s (after t q)
      one t q [] e a = absurd (let z : ◌≡◌ {A = ℕ} 0 1 = cc (a []) in omega arith)
      one t q (u ∷ us) e a =
          let same : u ≡ t = cc (a []) in
          (refl, sym (working_is (onward h q (u ∷ us) e) ∙ ap (λ (v : Token). After v ∷ s.tasks) same))

      go : (b : Bool) → Steps s (cond b (refuse s r Normal (gullet TasksFull)) (finished s Normal (drive one_feed (on tt) r (ahead s r)) after))
      go true = (refl, refl)
      go false = reading s Normal one_feed after (Steps s) (λ q c. (refl, refl)) (on tt) r one

  module _ {m : Means} (beyond : Beyond s.tasks m) where
    pub calls : (r : Reader) → Behind s m [] r → (long : Bool) (ps : List ParameterWord) (bs : List BodyWord) → Steps s (called s r long ps bs)
    calls r h long ps bs =
        reading s Matching (feed long) (called_by s bs) (Steps s) (λ q c. (refl, refl)) (begin (parameters_of ps)) r (λ o q ts e a. go o q ts e)
      where
        go : (o : Outcome) (q : Reader) (ts : List Token) → q.read ≡ r.read ++ ts → Steps s (called_by s bs o q)
        go (call.matched args) q ts e = completes (onward h q ts e) (beyond ts) s.conditionals (substituted args bs)
        go (call.refused f) q ts e = (refl, refl)

    pub decides : {more : List Token} (r : Reader) → Behind s m more r → (b : Bool) → Steps s (decided s r b)
    decides {more} r h true = completes h (beyond more) (First ∷ s.conditionals) []
    decides {more} r h false =
        reading s Skipping (skip_feed (meanings_of s.book) ElseOrFi) (skipped_to s) (Steps s) (λ q c. (refl, refl)) (on 0) r (λ o q ts e a. go o q ts e)
      where
        go : (o : Found) (q : Reader) (ts : List Token) → q.read ≡ r.read ++ ts → Steps s (skipped_to s o q)
        go found.Else q ts e = completes (onward h q ts e) (beyond (more ++ ts)) (Second ∷ s.conditionals) []
        go found.Fi q ts e = completes (onward h q ts e) (beyond (more ++ ts)) s.conditionals []

    pub compares : (r : Reader) → Behind s m [] r → Steps s (compared s r)
    compares r h =
        reading s Normal two_feed
        (λ two q. decided s q (same_meaning (meaning (meanings_of s.book) two.0) (meaning (meanings_of s.book) two.1)))
        (Steps s) (λ q c. (refl, refl)) (on None) r
        (λ two q ts e a. decides q (onward h q ts e) (same_meaning (meaning (meanings_of s.book) two.0) (meaning (meanings_of s.book) two.1)))

    pub turns : (r : Reader) → Behind s m [] r → (cs : List Part) → Steps s (at_else_of s r cs)
    turns r h [] = (refl, refl)
    turns r h (First ∷ cs) =
        reading s Skipping (skip_feed (meanings_of s.book) OnlyFi) (λ o q. completed s q cs []) (Steps s) (λ q c. (refl, refl)) (on 0) r
        (λ o q ts e a. completes (onward h q ts e) (beyond ts) cs [])
    turns r h (Second ∷ cs) = (refl, refl)

    pub closes : (r : Reader) → Behind s m [] r → (cs : List Part) → Steps s (at_fi_of s r cs)
    closes r h [] = (refl, refl)
    closes r h (c ∷ cs) = completes h (beyond []) cs []

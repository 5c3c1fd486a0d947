-- Expandable tokens.
--   argument_at            the argument of a reference, from 1; none beyond
--   substituted            a body with its references replaced by arguments
--   called                 a macro's call: its arguments are matched, and the body with them is put back
--   one_feed, two_feed     a token is read; two are
--   expand_after           a token is read, and waits for the expansion of what follows
--   unless_open            refused with 100 conditionals open, before anything is read
--   decided                a conditional is decided: it is open in its first part, or, if it is false, skipped to its \else or \fi
--   compared               two tokens are read, and their meanings decide
--   at_else_of, at_fi_of   an \else, a \fi, by the open conditionals
use Rattle.std.specs.Prelude.{ℕ, zero, suc, Bool, true, false, cond, List, [], ◌∷◌, ◌++◌, length, Some, None, Option, nat_le, slice_index_or}
use Rattle.tokens.specs.declared.token.Token.{Token}
use Rattle.tokens.specs.declared.stored.ParameterWord.{ParameterWord}
use Rattle.tokens.specs.declared.stored.BodyWord.{BodyWord}
use Rattle.tokens.specs.declared.stored.BodyWord.TheVariants as body
use Rattle.tokens.specs.declared.answer.Answer.TheVariants.{Working}
use Rattle.matching.specs.Dividing.{parameters_of}
use Rattle.matching.specs.Matching as call
use Rattle.matching.specs.Matching.{Move, on, out, Outcome, begin, feed}
use Rattle.driving.specs.Drives.{drive}
use Rattle.rules.specs.declared.refusal.GulletRefusal.TheVariants.{Misplaced, ConditionalsFull, TasksFull}
use Rattle.driving.specs.declared.status.Status.TheVariants.{Normal, Matching, Skipping}
use Rattle.pending.specs.declared.conditional.Part.{Part}
use Rattle.pending.specs.declared.conditional.Part.TheVariants.{First, Second}
use Rattle.pending.specs.declared.task.Task.TheVariants.{After}
use Rattle.rules.specs.declared.phases.Until.TheVariants.{ElseOrFi, OnlyFi}
use Rattle.rules.specs.declared.phases.Found.{Found}
use Rattle.rules.specs.declared.phases.Found.TheVariants as found
use Rattle.rules.specs.Refusals.{matcher, gullet}
use Rattle.rules.specs.Readers.{Reader}
use Rattle.rules.specs.States.{State, state, Stepped, ends, refuse, completed, finished, ahead, meanings_of}
use Rattle.rules.specs.Tokens.{meaning, same_meaning}
use Rattle.rules.specs.Skipping.{skip_feed}

abbrev pub argument_at : List (List Token) → ℕ → List Token
argument_at args zero = []
argument_at args (suc n) = slice_index_or args n []

abbrev pub word_tokens : List (List Token) → BodyWord → List Token
word_tokens args (body.Token t) = t ∷ []
word_tokens args (body.Reference n) = argument_at args n

abbrev pub substituted : List (List Token) → List BodyWord → List Token
substituted args [] = []
substituted args (w ∷ ws) = word_tokens args w ++ substituted args ws

abbrev pub called_by : State → List BodyWord → Outcome → Reader → Stepped
called_by s bs (call.matched args) r = completed s r s.conditionals (substituted args bs)
called_by s bs (call.refused e) r = refuse s r Matching (matcher e)

abbrev pub called : State → Reader → Bool → List ParameterWord → List BodyWord → Stepped
called s r long ps bs = finished s Matching (drive (feed long) (begin (parameters_of ps)) r (ahead s r)) (called_by s bs)

abbrev pub one_feed : Unit {0} → Token → Move (Unit {0}) Token
one_feed u t = out t

abbrev pub two_feed : Option Token → Token → Move (Option Token) (Token × Token)
two_feed None t = on (Some t)
two_feed (Some u) t = out (u, t)

abbrev pub expand_after : State → Reader → Stepped
expand_after s r =
    cond (nat_le 64 (length s.tasks)) (refuse s r Normal (gullet TasksFull))
    (finished s Normal (drive one_feed (on tt) r (ahead s r)) (λ t q. ends q Working (state q.stands s.book s.conditionals (After t ∷ s.tasks))))

abbrev pub unless_open : State → Reader → Stepped → Stepped
unless_open s r more = cond (nat_le 100 (length s.conditionals)) (refuse s r Normal (gullet ConditionalsFull)) more

abbrev pub skipped_to : State → Found → Reader → Stepped
skipped_to s found.Else r = completed s r (Second ∷ s.conditionals) []
skipped_to s found.Fi r = completed s r s.conditionals []

abbrev pub decided : State → Reader → Bool → Stepped
decided s r true = completed s r (First ∷ s.conditionals) []
decided s r false = finished s Skipping (drive (skip_feed (meanings_of s.book) ElseOrFi) (on 0) r (ahead s r)) (skipped_to s)

abbrev pub compared : State → Reader → Stepped
compared s r =
    finished s Normal (drive two_feed (on None) r (ahead s r))
    (λ two q. decided s q (same_meaning (meaning (meanings_of s.book) two.0) (meaning (meanings_of s.book) two.1)))

abbrev pub at_else_of : State → Reader → List Part → Stepped
at_else_of s r [] = refuse s r Normal (gullet Misplaced)
at_else_of s r (First ∷ cs) = finished s Skipping (drive (skip_feed (meanings_of s.book) OnlyFi) (on 0) r (ahead s r)) (λ o q. completed s q cs [])
at_else_of s r (Second ∷ cs) = refuse s r Normal (gullet Misplaced)

abbrev pub at_fi_of : State → Reader → List Part → Stepped
at_fi_of s r [] = refuse s r Normal (gullet Misplaced)
at_fi_of s r (c ∷ cs) = completed s r cs []

-- Expandable tokens do the same on both sides.
--   Equal        equal, as a type to match on
--   SameOption   two options
use Rattle.std.proofs.Common.{ℕ, Bool, true, false, leb, List, [], ◌∷◌, length, Some, None, Option, refl, ap, subst}
use Rattle.tokens.specs.declared.token.Token.{Token}
use Rattle.tokens.specs.declared.stored.ParameterWord.{ParameterWord}
use Rattle.tokens.specs.declared.stored.BodyWord.{BodyWord}
use Rattle.names.specs.Naming.{Spellings}
use Rattle.matching.specs.Matching.{Move, on, out, Outcome, feed}
use Rattle.driving.specs.declared.status.Status.TheVariants.{Normal, Matching, Skipping}
use Rattle.pending.specs.declared.conditional.Part.{Part}
use Rattle.pending.specs.declared.conditional.Part.TheVariants.{First, Second}
use Rattle.rules.specs.declared.refusal.GulletRefusal.TheVariants.{Misplaced, ConditionalsFull, TasksFull}
use Rattle.rules.specs.declared.phases.Until.{Until}
use Rattle.rules.specs.declared.phases.Until.TheVariants.{ElseOrFi, OnlyFi}
use Rattle.rules.specs.declared.phases.Found.{Found}
use Rattle.rules.specs.declared.phases.Found.TheVariants as found
use Rattle.rules.specs.Refusals.{matcher, gullet}
use Rattle.rules.specs.Readers.{Reader}
use Rattle.rules.specs.States.{State, Stepped, completed, meanings_of}
use Rattle.rules.specs.Tokens.{meaning, same_meaning}
use Rattle.rules.specs.Skipping.{skip_by, skip_feed, Mark}
use Rattle.rules.specs.Expanding.{called_by, called, one_feed, two_feed, expand_after, unless_open, skipped_to, decided, compared, at_else_of, at_fi_of}
use Rattle.alike.specs.Same.{SameToken, Each, no_more, and, same_working, both_answer}
use Rattle.alike.specs.Laws.{SameParameterWord, SameBodyWord, SameTables, same_after}
use Rattle.alike.proofs.CallsEach.{each_on, each_length, cond_alike}
use Rattle.alike.proofs.CallsSame.{SameMove, same_on, same_out, SamePhase, SameOutcome, same_matched, same_refused, phase_on}
use Rattle.alike.proofs.CallsSteps.{fed}
use Rattle.alike.proofs.CallsWords.{spelled_parameters, spelled_body, begins_same, substituted_same}
use Rattle.alike.proofs.Fellows.{same_tests}
use Rattle.alike.proofs.Growing.{Both, Onward, token_on, body_word_on, tables_on}
use Rattle.alike.proofs.Streams.{SameReader}
use Rattle.alike.proofs.Driving.{Respects}
use Rattle.alike.proofs.Tokens.{meaning_of, same_mark, same_means}
use Rattle.alike.proofs.Ruling.{SameRest, SameStep, both, read_state, same_refuse, same_completed, same_ruled}

pub data Equal {A : Type 0} : A → A → Type 0 where
  equal : {a : A} → Equal a a

pub data SameOption {A : Type 0} (R : A → A → Type 0) : Option A → Option A → Type 0 where
  same_none : SameOption R None None
  same_some : {x y : A} → R x y → SameOption R (Some x) (Some y)

pub move_refl : {P O : Type 0} (m : Move P O) → SameMove (λ (x y : P). Equal x y) (λ (x y : O). Equal x y) m m
move_refl (on p) = same_on equal
move_refl (out x) = same_out equal

-- a phase of numbers and marks, and an outcome likewise, on both sides the same
abbrev pub Alike : {A : Type 0} → Spellings → Spellings → A → A → Type 0
Alike {A} ms ns x y = Equal x y

skip_fed : {ms ns : Spellings} (s z : State) (u : Until) {d e : ℕ} {x y : Token} → Both ms ns → SameTables ms ns s.book.names z.book.names → Equal d e → SameToken ms ns x y
    → SameMove (Alike {A = ℕ} ms ns) (Alike {A = Found} ms ns) (skip_feed (meanings_of s.book) u d x) (skip_feed (meanings_of z.book) u e y)
skip_fed {ms} {ns} s z u {d} {x = x} {y = y} w r equal c =
    subst (λ (m : Mark). SameMove (Alike {A = ℕ} ms ns) (Alike {A = Found} ms ns) (skip_feed (meanings_of s.book) u d x) (skip_by u d m))
    (same_mark (meaning_of w s.book.names z.book.names r c)) (move_refl (skip_feed (meanings_of s.book) u d x))

module _ {r q : Reader} (g : SameReader r q) {s z : State} (h : SameRest r.stands.names q.stands.names s z) where
  skip_respects : (u : Until) → Respects (Alike {A = ℕ}) (Alike {A = Found}) r.stands.names q.stands.names (skip_feed (meanings_of s.book) u) (skip_feed (meanings_of z.book) u)
  skip_respects u = record {
    phase_on = λ os ps qs rs p v o e. e;
    fed = λ os ps p v t x o w e c. skip_fed s z u w (tables_on o h.book.names) e c;
  }

  pub same_decided : (b : Bool) → SameStep (decided s r b) (decided z q b)
  same_decided true = same_completed g h (ap (λ (cs : List Part). First ∷ cs) h.conditionals) no_more
  same_decided false =
      same_ruled Alike Alike g h Skipping (skip_feed (meanings_of s.book) ElseOrFi) (skip_feed (meanings_of z.book) ElseOrFi) (skipped_to s) (skipped_to z) (skip_respects ElseOrFi) (same_on equal)
      (λ x y l m o k j e. skipped_to_lem x y k j e)
    where
      skipped_to_lem : (x y : Found) {l m : Reader} → SameReader l m → SameRest l.stands.names m.stands.names s z → Equal x y → SameStep (skipped_to s x l) (skipped_to z y m)
      skipped_to_lem found.Else y k j equal = same_completed k j (ap (λ (cs : List Part). Second ∷ cs) j.conditionals) no_more
      skipped_to_lem found.Fi y k j equal = same_completed k j j.conditionals no_more

  pub same_at_else : (cs : List Part) → SameStep (at_else_of s r cs) (at_else_of z q cs)
  same_at_else [] = same_refuse g h Normal (gullet Misplaced)
  same_at_else (First ∷ cs) =
      same_ruled Alike Alike g h Skipping (skip_feed (meanings_of s.book) OnlyFi) (skip_feed (meanings_of z.book) OnlyFi) (λ o l. completed s l cs []) (λ o l. completed z l cs []) (skip_respects OnlyFi) (same_on equal)
      (λ x y l m o k j e. same_completed k j refl no_more)
  same_at_else (Second ∷ cs) = same_refuse g h Normal (gullet Misplaced)

  pub same_at_fi : (cs : List Part) → SameStep (at_fi_of s r cs) (at_fi_of z q cs)
  same_at_fi [] = same_refuse g h Normal (gullet Misplaced)
  same_at_fi (c ∷ cs) = same_completed g h refl no_more

  pub same_unless_open : {x y : Stepped} → SameStep x y → SameStep (unless_open s r x) (unless_open z q y)
  same_unless_open k =
      cond_alike SameStep (ap (λ (cs : List Part). leb 100 (length cs)) h.conditionals)
      (same_refuse g h Normal (gullet ConditionalsFull)) k

-- one token, and two

one_respects : {ms ns : Spellings} → Respects (Alike {A = Unit {0}}) SameToken ms ns one_feed one_feed
one_respects = record { phase_on = λ os ps qs rs p v o e. e; fed = λ os ps p v t x o w e c. same_out c }

abbrev SameTwo : Spellings → Spellings → Token × Token → Token × Token → Type 0
SameTwo ms ns x y = SameToken ms ns x.0 y.0 × SameToken ms ns x.1 y.1

two_on : {ms ns os ps : Spellings} {p q : Option Token} → Onward ms ns os ps → SameOption (SameToken ms ns) p q → SameOption (SameToken os ps) p q
two_on o same_none = same_none
two_on o (same_some c) = same_some (token_on o _ _ c)

two_fed : {ms ns : Spellings} {p q : Option Token} {t u : Token} → SameOption (SameToken ms ns) p q → SameToken ms ns t u → SameMove (SameOption (SameToken ms ns)) (SameTwo ms ns) (two_feed p t) (two_feed q u)
two_fed same_none c = same_on (same_some c)
two_fed (same_some d) c = same_out (d, c)

two_respects : {ms ns : Spellings} → Respects (λ ms ns. SameOption (SameToken ms ns)) SameTwo ms ns two_feed two_feed
two_respects = record { phase_on = λ os ps qs rs p v o e. two_on o e; fed = λ os ps p v t x o w e c. two_fed e c }

module _ {r q : Reader} (g : SameReader r q) {s z : State} (h : SameRest r.stands.names q.stands.names s z) where
  pub same_expand_after : SameStep (expand_after s r) (expand_after z q)
  same_expand_after =
      cond_alike SameStep (ap (λ (n : ℕ). leb 64 n) (each_length h.tasks))
      (same_refuse g h Normal (gullet TasksFull))
      (same_ruled Alike SameToken g h Normal one_feed one_feed _ _ one_respects (same_on equal)
      (λ x y l m o k j c. both (both_answer same_working) (read_state k j.book j.conditionals (and (same_after c) j.tasks))))

  pub same_compared : SameStep (compared s r) (compared z q)
  same_compared =
      same_ruled (λ ms ns. SameOption (SameToken ms ns)) SameTwo g h Normal two_feed two_feed _ _ two_respects (same_on same_none)
      (λ x y l m o k j c. over x y k j c)
    where
      over : (x y : Token × Token) {l m : Reader} → SameReader l m → SameRest l.stands.names m.stands.names s z → SameTwo l.stands.names m.stands.names x y
          → SameStep (decided s l (same_meaning (meaning (meanings_of s.book) x.0) (meaning (meanings_of s.book) x.1))) (decided z m (same_meaning (meaning (meanings_of z.book) y.0) (meaning (meanings_of z.book) y.1)))
      over x y {l} {m} k j c =
          let a = meaning_of k.sound s.book.names z.book.names j.book.names c.0 in
          let b = meaning_of k.sound s.book.names z.book.names j.book.names c.1 in
          subst (λ (v : Bool). SameStep (decided s l (same_meaning (meaning (meanings_of s.book) x.0) (meaning (meanings_of s.book) x.1))) (decided z m v)) (same_means k.sound a b)
          (same_decided k j (same_meaning (meaning (meanings_of s.book) x.0) (meaning (meanings_of s.book) x.1)))

  -- a macro's call
  pub same_called : (long : Bool) {ps qs : List ParameterWord} {bs cs : List BodyWord} → Each (SameParameterWord r.stands.names q.stands.names) ps qs → Each (SameBodyWord r.stands.names q.stands.names) bs cs
      → SameStep (called s r long ps bs) (called z q long qs cs)
  same_called long {ps} {qs} {bs} {cs} p b =
      same_ruled (λ ms ns. SamePhase (SameToken ms ns)) (λ ms ns. SameOutcome (SameToken ms ns)) g h Matching (feed long) (feed long) (called_by s bs) (called_by z cs)
      (record { phase_on = λ os ps qs rs x y o e. phase_on (token_on o) e; fed = λ os ps x y t u o w e c. fed (same_tests w) long e c })
      (begins_same (spelled_parameters p)) (λ x y l m o k j e. over k j (each_on (body_word_on o) b) e)
    where
      over : {x y : Outcome} {l m : Reader} → SameReader l m → SameRest l.stands.names m.stands.names s z → Each (SameBodyWord l.stands.names m.stands.names) bs cs
          → SameOutcome (SameToken l.stands.names m.stands.names) x y → SameStep (called_by s bs x l) (called_by z cs y m)
      over k j d (same_matched a) = same_completed k j j.conditionals (substituted_same a (spelled_body d))
      over k j d (same_refused {e = e}) = same_refuse k j Matching (matcher e)

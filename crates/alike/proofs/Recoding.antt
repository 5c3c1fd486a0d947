-- \catcode does the same on both sides, and so do all assignments.
use Rattle.std.proofs.Common.{◌≡◌, ℕ, ◌+◌, ◌*◌, ◌≤◌, Bool, ◌||◌, leb, List, [], ◌∷◌, length, Some, None, Option, subst, arith}
use Rattle.std.proofs.lemmas.Bool.{le-leb, cond-true}
use Rattle.tokens.specs.declared.category.Category.{Category}
use Rattle.tokens.specs.Categories.{category_of}
use Rattle.tokens.specs.declared.token.Token.{Token}
use Rattle.matching.specs.Matching.{Move}
use Rattle.tokens.specs.declared.answer.Scope.{Scope}
use Rattle.names.specs.Naming.{Spellings}
use Rattle.sources.specs.declared.fault.PileRefusal.TheVariants.{PutBackFull}
use Rattle.piles.specs.Inserting as piles
use Rattle.piles.specs.Inserting.{Put, put_back}
use Rattle.driving.specs.declared.status.Status.TheVariants as status
use Rattle.rules.specs.declared.refusal.GulletRefusal.TheVariants.{BadCatcode}
use Rattle.rules.specs.declared.phases.Subject.{Subject}
use Rattle.rules.specs.declared.phases.Subject.TheVariants.{BeforeQuote, BehindQuote}
use Rattle.rules.specs.declared.phases.Number.{Number}
use Rattle.rules.specs.declared.phases.Number.TheVariants.{BeforeNumber, BeforeDigit, InDigits}
use Rattle.rules.specs.declared.phases.Assignment.{Assignment}
use Rattle.rules.specs.declared.phases.Assignment.TheVariants as assignment
use Rattle.rules.specs.Refusals.{gullet}
use Rattle.rules.specs.Readers.{Reader, put}
use Rattle.rules.specs.States.{State}
use Rattle.rules.specs.Tokens.{digit_of}
use Rattle.rules.specs.Assigning.{scope_of, subject_feed, byte_of, one_digit, first_digit, next_digit, number_feed, recoded_as, recoded_over, recoded_by, recoding_of, recoding_by, recoding, assign}
use Rattle.alike.specs.Same as same
use Rattle.alike.specs.Same.{SameToken, SameItem, Each, no_more, and}
use Rattle.alike.specs.Laws.{items_of}
use Rattle.alike.proofs.CallsEach.{cond_same, cond_alike}
use Rattle.alike.proofs.CallsSame.{SameMove, same_on, same_out}
use Rattle.alike.proofs.Fellows.{same_byte}
use Rattle.alike.proofs.Streams.{SameReader}
use Rattle.alike.proofs.Driving.{Respects}
use Rattle.alike.proofs.Tokens.{meaning_of, same_character_lem, same_explicit, same_digit}
use Rattle.alike.proofs.Books.{as_given, same_code_answer, same_coding}
use Rattle.alike.proofs.Ruling.{SameRest, SameStep, stood, same_refuse, same_front, same_ruled}
use Rattle.alike.proofs.Expanding.{Equal, equal, SameOption, same_none, same_some, Alike}
use Rattle.alike.proofs.Assigning.{same_recorded_as, same_letting, same_define}

-- the quote, and the token behind it

subject_fed : {ms ns : Spellings} {p q : Subject} {t u : Token} → Equal p q → SameToken ms ns t u → SameMove (Alike {A = Subject} ms ns) (SameOption (SameToken ms ns)) (subject_feed p t) (subject_feed q u)
subject_fed {ms} {ns} {t = t} {u = u} (equal {a = BeforeQuote}) c =
    cond_alike (SameMove (Alike {A = Subject} ms ns) (SameOption (SameToken ms ns))) (same_explicit 12 96 c) (same_on equal) (same_out same_none)
subject_fed (equal {a = BehindQuote}) c = same_out (same_some c)

subject_respects : {ms ns : Spellings} → Respects (Alike {A = Subject}) (λ ms ns. SameOption (SameToken ms ns)) ms ns subject_feed subject_feed
subject_respects = record { phase_on = λ os ps qs rs p v o e. e; fed = λ os ps p v t x o w e c. subject_fed e c }

-- the number, and the token behind it

pub data SameNumber (ms ns : Spellings) : ℕ × Token → ℕ × Token → Type 0 where
  same_number : {v : ℕ} {t u : Token} → SameToken ms ns t u → SameNumber ms ns (v, t) (v, u)

abbrev NumberMove : Spellings → Spellings → Move Number (Option (ℕ × Token)) → Move Number (Option (ℕ × Token)) → Type 0
NumberMove ms ns = SameMove (Alike {A = Number} ms ns) (SameOption (SameNumber ms ns))

module _ {ms ns : Spellings} where
  one_digit_lem : (v d : ℕ) → NumberMove ms ns (one_digit v d) (one_digit v d)
  one_digit_lem v d = cond_same (NumberMove ms ns) (leb (v * 10 + d) 15) (same_on equal) (same_out same_none)

  first_digit_lem : (o : Option ℕ) → NumberMove ms ns (first_digit o) (first_digit o)
  first_digit_lem None = same_out same_none
  first_digit_lem (Some d) = one_digit_lem 0 d

  next_digit_lem : (v : ℕ) {t u : Token} (o : Option ℕ) → SameToken ms ns t u → NumberMove ms ns (next_digit v t o) (next_digit v u o)
  next_digit_lem v None c = same_out (same_some (same_number c))
  next_digit_lem v (Some d) c = one_digit_lem v d

  first_of : {t u : Token} → SameToken ms ns t u → NumberMove ms ns (first_digit (digit_of t)) (first_digit (digit_of u))
  first_of {t} c = subst (λ (o : Option ℕ). NumberMove ms ns (first_digit (digit_of t)) (first_digit o)) (same_digit c) (first_digit_lem (digit_of t))

  number_fed : {p q : Number} {t u : Token} → Equal p q → SameToken ms ns t u → NumberMove ms ns (number_feed p t) (number_feed q u)
  number_fed {t = t} {u = u} (equal {a = BeforeNumber}) c = cond_alike (NumberMove ms ns) (same_explicit 12 61 c) (same_on equal) (first_of c)
  number_fed (equal {a = BeforeDigit}) c = first_of c
  number_fed {t = t} {u = u} (equal {a = InDigits v}) c = subst (λ (o : Option ℕ). NumberMove ms ns (next_digit v t (digit_of t)) (next_digit v u o)) (same_digit c) (next_digit_lem v (digit_of t) c)

number_respects : {ms ns : Spellings} → Respects (Alike {A = Number}) (λ ms ns. SameOption (SameNumber ms ns)) ms ns number_feed number_feed
number_respects = record { phase_on = λ os ps qs rs p v o e. e; fed = λ os ps p v t x o w e c. number_fed e c }

-- one token goes back behind those read: there is room

put_one : (t : Token) (held : List Token) → length held ≤ 4095 → put_back (t ∷ []) held ≡ piles.put (t ∷ held)
put_one t held l = cond-true (leb (1 + length held) 4096) (piles.put (t ∷ held)) (piles.refused PutBackFull) (le-leb (1 + length held) 4096 (omega arith))

module _ {r q : Reader} (g : SameReader r q) {s z : State} (h : SameRest r.stands.names q.stands.names s z) (x : ℕ) (sc : Scope) where
  recoded_at : (ts us : List Token) → (length ts ≤ 4096) × (length us ≤ 4096) → Each (SameItem r.stands.names q.stands.names) (items_of (put r.stands ts)) (items_of (put q.stands us)) → (o : Option Category)
      → SameStep (recoded_as s x sc r (put r.stands ts) o) (recoded_as z x sc q (put q.stands us) o)
  recoded_at ts us f k None = same_refuse g h status.Normal (gullet BadCatcode)
  recoded_at ts us f k (Some c) =
      same_recorded_as g h (put r.stands ts) (put q.stands us) sc same.codes
      (stood (put r.stands ts) (put q.stands us) g.sound f k (same_coding g.sound h.book sc x c) h.conditionals no_more)
      (as_given (same_code_answer g.sound h.book sc x c))

  recoded_over_lem : (v : ℕ) {t u : Token} → SameToken r.stands.names q.stands.names t u
      → SameStep (recoded_over s x sc v r (put_back (t ∷ []) r.stands.held)) (recoded_over z x sc v q (put_back (u ∷ []) q.stands.held))
  recoded_over_lem v {t} {u} c =
      subst (λ (p : Put). SameStep (recoded_over s x sc v r p) (recoded_over z x sc v q (put_back (u ∷ []) q.stands.held))) (put_one' t r.stands.held g.few.0)
      (subst (λ (p : Put). SameStep (recoded_over s x sc v r (piles.put (t ∷ r.stands.held))) (recoded_over z x sc v q p)) (put_one' u q.stands.held g.few.1)
      (recoded_at (t ∷ r.stands.held) (u ∷ q.stands.held) (omega (arith, g.few.0), omega (arith, g.few.1)) (same_front r.stands q.stands g.items (and c no_more)) (category_of v)))
    where
      put_one' : (t : Token) (held : List Token) → length held ≤ 4095 → piles.put (t ∷ held) ≡ put_back (t ∷ []) held
      put_one' t held l = rw (put_one t held l)

  recoded_by_lem : {m n : Option (ℕ × Token)} → SameOption (SameNumber r.stands.names q.stands.names) m n → SameStep (recoded_by s x sc m r) (recoded_by z x sc n q)
  recoded_by_lem same_none = same_refuse g h status.Normal (gullet BadCatcode)
  recoded_by_lem (same_some (same_number {v = v} {t = t} {u = u} c)) =
      cond_alike SameStep (same_character_lem 10 (meaning_of g.sound s.book.names z.book.names h.book.names c))
      (recoded_at r.stands.held q.stands.held (omega (arith, g.few.0), omega (arith, g.few.1)) g.items (category_of v)) (recoded_over_lem v c)

module _ {r q : Reader} (g : SameReader r q) {s z : State} (h : SameRest r.stands.names q.stands.names s z) (sc : Scope) where
  recoding_of_lem : (o : Option ℕ) → SameStep (recoding_of s sc r o) (recoding_of z sc q o)
  recoding_of_lem None = same_refuse g h status.Normal (gullet BadCatcode)
  recoding_of_lem (Some x) =
      same_ruled Alike (λ ms ns. SameOption (SameNumber ms ns)) g h status.Normal number_feed number_feed (recoded_by s x sc) (recoded_by z x sc) number_respects (same_on equal)
      (λ m n l k o j i c. recoded_by_lem j i x sc c)

recoding_by_lem : {r q : Reader} (s z : State) (sc : Scope) {t u : Option Token} → SameReader r q → SameRest r.stands.names q.stands.names s z → SameOption (SameToken r.stands.names q.stands.names) t u
    → SameStep (recoding_by s sc t r) (recoding_by z sc u q)
recoding_by_lem s z sc g h same_none = same_refuse g h status.Normal (gullet BadCatcode)
recoding_by_lem {r} {q} s z sc g h (same_some {x = t} {y = u} c) =
    subst (λ (o : Option ℕ). SameStep (recoding_of s sc r (byte_of r.stands.names t)) (recoding_of z sc q o)) (same_byte g.sound c) (recoding_of_lem g h sc (byte_of r.stands.names t))

module _ {r q : Reader} (g : SameReader r q) {s z : State} (h : SameRest r.stands.names q.stands.names s z) where
  same_recoding : (sc : Scope) → SameStep (recoding s r sc) (recoding z q sc)
  same_recoding sc =
      same_ruled Alike (λ ms ns. SameOption (SameToken ms ns)) g h status.Normal subject_feed subject_feed (recoding_by s sc) (recoding_by z sc) subject_respects (same_on equal)
      (λ m n l k o j i c. recoding_by_lem s z sc j i c)

  pub same_assign : (global long : Bool) (a : Assignment) → SameStep (assign s r global long a) (assign z q global long a)
  same_assign global long (assignment.Define b) = same_define g h (scope_of (global || b)) long
  same_assign global long assignment.Let = same_letting g h (scope_of global)
  same_assign global long assignment.Catcode = same_recoding (scope_of global)

-- Assignments do the same on both sides.
use Rattle.std.proofs.Common.{ℕ, Bool, [], Ok, Err, Option, Result, refl}
use Rattle.tokens.specs.declared.token.Token.{Token}
use Rattle.tokens.specs.declared.token.Token.TheVariants.{Character}
use Rattle.tokens.specs.declared.answer.Scope.{Scope}
use Rattle.tokens.specs.declared.answer.Entry.{Entry}
use Rattle.names.specs.Naming.{Spellings}
use Rattle.tables.specs.Table as table
use Rattle.matching.specs.Braces.{is_blank}
use Rattle.book.specs.declared.fault.BookFault.{BookFault}
use Rattle.book.specs.declared.fault.BookFault.TheVariants.{DefinitionTooLong}
use Rattle.book.specs.Meanings.{Means}
use Rattle.book.specs.Books.{BookState, after}
use Rattle.driving.specs.declared.status.Status.TheVariants as status
use Rattle.rules.specs.declared.refusal.GulletRefusal.TheVariants.{BadDefinition}
use Rattle.rules.specs.declared.phases.Letting.{Letting}
use Rattle.rules.specs.declared.phases.Letting.TheVariants.{BeforeEquals, BehindEquals, BehindSpace}
use Rattle.rules.specs.Refusals.{book, gullet}
use Rattle.rules.specs.Readers.{Position, Reader}
use Rattle.rules.specs.States.{State, state, Stepped, meanings_of}
use Rattle.rules.specs.Tokens.{meaning}
use Rattle.rules.specs.Defining.{Defined, definition_feed}
use Rattle.rules.specs.Assigning.{recorded_as, name_feed, named_by, named, defined_as, defining, let_feed, let_as, letting}
use Rattle.alike.specs.Same as same
use Rattle.alike.specs.Same.{SameName, SameToken, same_name, same_character, no_more, same_assigned, both_answer}
use Rattle.alike.specs.Laws.{SameTables, SameState}
use Rattle.alike.proofs.CallsEach.{cond_same, cond_alike}
use Rattle.alike.proofs.CallsSame.{SameMove, same_on, same_out}
use Rattle.alike.proofs.Growing.{Both, name_on, tables_on}
use Rattle.alike.proofs.Streams.{SameReader}
use Rattle.alike.proofs.Driving.{Respects}
use Rattle.alike.proofs.Tokens.{meanings, meaning_of, same_character_lem, same_explicit}
use Rattle.alike.proofs.Books.{SameGiven, same_given, words_left, words_right, same_name_answer, same_naming, same_define_answer, same_defining}
use Rattle.alike.proofs.Ruling.{SameRest, SameStep, halt_left, halt_right, both, read_state, same_refuse, same_ruled}
use Rattle.alike.proofs.Expanding.{Equal, equal, SameOption, same_none, same_some, Alike}
use Rattle.alike.proofs.Defining.{SameDefinition, same_text, SameDefined, same_defines, same_broken, same_long, definition_respects}

-- what the book answers
module _ {r q : Reader} (g : SameReader r q) {s z : State} (h : SameRest r.stands.names q.stands.names s z) where
  pub same_recorded_as : (p o : Position) (sc : Scope) {d e : Entry} {b c : BookState} {x y : Result (Unit {0}) BookFault} → same.SameEntry p.names o.names d e
      → SameState (state p b s.conditionals []) (state o c z.conditionals []) → SameGiven x y
      → SameStep (recorded_as s r p sc d (after x s.book b) x) (recorded_as z q o sc e (after y z.book c) y)
  same_recorded_as p o sc n k (same_given {x = Ok u}) = both (both_answer (same_assigned n)) k
  same_recorded_as p o sc n k (same_given {x = Err f}) = same_refuse g h status.Normal (book f)
  same_recorded_as p o sc n k words_left = halt_left refl
  same_recorded_as p o sc n k words_right = halt_right refl

-- the name

name_fed : {ms ns : Spellings} {u v : Unit {0}} {x y : Token} → SameToken ms ns x y → SameMove (Alike {A = Unit {0}} ms ns) (SameOption (SameName ms ns)) (name_feed u x) (name_feed v y)
name_fed (same_name r) = same_out (same_some r)
name_fed {ms} {ns} (same_character {c = c} {x = x}) = cond_same (SameMove (Alike {A = Unit {0}} ms ns) (SameOption (SameName ms ns))) (is_blank (Character c x)) (same_on equal) (same_out same_none)

name_respects : {ms ns : Spellings} → Respects (Alike {A = Unit {0}}) (λ ms ns. SameOption (SameName ms ns)) ms ns name_feed name_feed
name_respects = record { phase_on = λ os ps qs rs p v o e. e; fed = λ os ps p v t x o w e c. name_fed c }

module _ {r q : Reader} (g : SameReader r q) {s z : State} (h : SameRest r.stands.names q.stands.names s z) where
  same_named : (more then : ℕ → Reader → Stepped)
      → ((m n : ℕ) (l k : Reader) → SameReader l k → SameRest l.stands.names k.stands.names s z → SameName l.stands.names k.stands.names m n → SameStep (more m l) (then n k))
      → SameStep (named s r more) (named z q then)
  same_named more then f =
      same_ruled Alike (λ ms ns. SameOption (SameName ms ns)) g h status.Normal name_feed name_feed (named_by s more) (named_by z then) name_respects (same_on equal)
      (λ x y l m o k j e. over k j e)
    where
      over : {x y : Option ℕ} {l m : Reader} → SameReader l m → SameRest l.stands.names m.stands.names s z → SameOption (SameName l.stands.names m.stands.names) x y
          → SameStep (named_by s more x l) (named_by z then y m)
      over k j same_none = same_refuse k j status.Normal (gullet BadDefinition)
      over {l = l} {m = m} k j (same_some {x = x} {y = y} c) = f x y l m k j c

-- \def

defined_as_lem : {r q : Reader} (s z : State) {m n : ℕ} (sc : Scope) (long : Bool) {x y : Defined} → SameReader r q → SameRest r.stands.names q.stands.names s z → SameName r.stands.names q.stands.names m n
    → SameDefined r.stands.names q.stands.names x y → SameStep (defined_as s m sc long x r) (defined_as z n sc long y q)
defined_as_lem {r} {q} s z sc long g h k (same_defines p b) =
    same_recorded_as g h r.stands q.stands sc (same.names k) (read_state g (same_defining g.sound h.book sc k long p b) h.conditionals no_more)
    (same_define_answer g.sound h.book sc k long p b)
defined_as_lem s z sc long g h k same_broken = same_refuse g h status.Defining (gullet BadDefinition)
defined_as_lem s z sc long g h k same_long = same_refuse g h status.Defining (book DefinitionTooLong)

-- \let

let_fed : {ms ns : Spellings} (s z : table.State Means) {p q : Letting} {t u : Token} → Both ms ns → SameTables ms ns s z → Equal p q → SameToken ms ns t u
    → SameMove (Alike {A = Letting} ms ns) (SameToken ms ns) (let_feed (meanings s) p t) (let_feed (meanings z) q u)
let_fed {ms} {ns} s z {t = t} {u = u} w r (equal {a = BeforeEquals}) c =
    cond_alike (SameMove (Alike {A = Letting} ms ns) (SameToken ms ns)) (same_character_lem 10 (meaning_of w s z r c)) (same_on equal)
    (cond_alike (SameMove (Alike {A = Letting} ms ns) (SameToken ms ns)) (same_explicit 12 61 c) (same_on equal) (same_out c))
let_fed {ms} {ns} s z {t = t} {u = u} w r (equal {a = BehindEquals}) c =
    cond_alike (SameMove (Alike {A = Letting} ms ns) (SameToken ms ns)) (same_character_lem 10 (meaning_of w s z r c)) (same_on equal) (same_out c)
let_fed s z w r (equal {a = BehindSpace}) c = same_out c

let_respects : {ms ns : Spellings} (s z : table.State Means) → SameTables ms ns s z → Respects (Alike {A = Letting}) SameToken ms ns (let_feed (meanings s)) (let_feed (meanings z))
let_respects s z r = record { phase_on = λ os ps qs rs p v o e. e; fed = λ os ps p v t x o w e c. let_fed s z w (tables_on o r) e c }

let_as_lem : {r q : Reader} (s z : State) {m n : ℕ} (sc : Scope) {x y : Token} → SameReader r q → SameRest r.stands.names q.stands.names s z → SameName r.stands.names q.stands.names m n
    → SameToken r.stands.names q.stands.names x y → SameStep (let_as s m sc x r) (let_as z n sc y q)
let_as_lem {r} {q} s z sc {x} {y} g h k c =
    same_recorded_as g h r.stands q.stands sc (same.names k)
    (read_state g (same_naming g.sound h.book sc k (meaning_of g.sound s.book.names z.book.names h.book.names c)) h.conditionals no_more)
    (same_name_answer g.sound h.book sc k (meaning (meanings_of s.book) x) (meaning (meanings_of z.book) y))

module _ {r q : Reader} (g : SameReader r q) {s z : State} (h : SameRest r.stands.names q.stands.names s z) (sc : Scope) where
  pub same_letting : SameStep (letting s r sc) (letting z q sc)
  same_letting =
      same_named g h _ _
      (λ m n l k j i c. same_ruled Alike SameToken j i status.Normal (let_feed (meanings_of s.book)) (let_feed (meanings_of z.book)) (let_as s m sc) (let_as z n sc)
      (let_respects s.book.names z.book.names i.book.names) (same_on equal) (λ x y v w o e d f. let_as_lem s z sc e d (name_on o c) f))

  pub same_define : (long : Bool) → SameStep (defining s r sc long) (defining z q sc long)
  same_define long =
      same_named g h _ _
      (λ m n l k j i c. same_ruled SameDefinition SameDefined j i status.Defining (definition_feed (meanings_of s.book)) (definition_feed (meanings_of z.book)) (defined_as s m sc long) (defined_as z n sc long)
      (definition_respects s.book.names z.book.names i.book.names) (same_on (same_text no_more)) (λ x y v w o e d f. defined_as_lem s z sc long e d (name_on o c) f))

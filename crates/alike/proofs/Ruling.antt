-- Steps that are the same on both sides: what a refusal, an answer, a completed expansion and the outcome of an automaton make of states.
--   SameRest   two states but for where reading stands
--   SameStep   two steps, unless one ends the comparison
use Rattle.std.proofs.Common.{◌≡◌, ℕ, ◌+◌, ◌≤◌, Bool, true, false, cond, leb, List, [], ◌∷◌, ◌++◌, map, length, refl, ap, ◌∙◌, subst, arith}
use Rattle.std.specs.List.{range_with_len}
use Rattle.std.proofs.lemmas.List.{length-map, length-append}
use Rattle.std.proofs.lemmas.List.FromFn.{length-range_with_len}
use Rattle.std.proofs.lemmas.Bool.{leb-true}
use Rattle.tokens.specs.declared.token.Token.{Token}
use Rattle.matching.specs.Matching.{Move}
use Rattle.tokens.specs.declared.answer.Answer.{Answer}
use Rattle.lines.specs.Line.{Categories, Item, ready}
use Rattle.names.specs.Naming.{Spellings}
use Rattle.sources.specs.declared.fault.PileRefusal.TheVariants.{Ended, PutBackFull}
use Rattle.piles.specs.Inserting as piles
use Rattle.book.specs.Books.{BookState}
use Rattle.driving.specs.declared.status.Status.{Status}
use Rattle.driving.specs.Drives.{Driven, drive}
use Rattle.pending.specs.declared.conditional.Part.{Part}
use Rattle.pending.specs.declared.task.Task.{Task}
use Rattle.pending.specs.Underway.{waiting_of, beyond_waiting}
use Rattle.rules.specs.Refusals.{Cause, pile}
use Rattle.rules.specs.Readers.{Position, Reader, put, tokens_from}
use Rattle.rules.specs.States.{State, state, Stepped, ends, refuse, at, waiting, completed_by, completed, finished, categories_of, ahead}
use Rattle.alike.specs.Same.{SameToken, SameItem, same_ready, Each, no_more, and, SameAnswer, same_working, SameResult, both_answer, both_refused}
use Rattle.alike.specs.Laws.{SameTask, same_after, same_prefix, SameState, items_of}
use Rattle.alike.specs.Runs.{ends_comparison}
use Rattle.alike.proofs.CallsEach.{each_on, each_++, each_end}
use Rattle.alike.proofs.CallsSame.{SameMove}
use Rattle.alike.proofs.Growing.{Both, Onward, stay, task_on}
use Rattle.alike.proofs.Streams.{SameReader, SameStream, same_stream}
use Rattle.alike.proofs.Driving.{SameDriven, same_came, same_ended, same_failed, failed_left, failed_right, Respects, same_drive}
use Rattle.alike.proofs.Books.{SameBook, book_on}

pub record SameRest (ms ns : Spellings) (s z : State) : Type 0 where
  pub book : SameBook ms ns s.book z.book
  pub conditionals : s.conditionals ≡ z.conditionals
  pub tasks : Each (SameTask ms ns) s.tasks z.tasks

pub rest_on : {ms ns os ps : Spellings} {s z : State} → Onward ms ns os ps → SameRest ms ns s z → SameRest os ps s z
rest_on o r = record { book = book_on o r.book; conditionals = r.conditionals; tasks = each_on (task_on o) r.tasks }

pub data SameStep (x y : Stepped) : Type 0 where
  halt_left : ends_comparison x.answer ≡ true → SameStep x y
  halt_right : ends_comparison y.answer ≡ true → SameStep x y
  both : SameResult x.state.stands.names y.state.stands.names x.answer y.answer → SameState x.state y.state → SameStep x y

-- states of their parts
pub stood : (p q : Position) {b c : BookState} {cs ds : List Part} {ts us : List Task} → Both p.names q.names → (length p.held ≤ 4096) × (length q.held ≤ 4096)
    → Each (SameItem p.names q.names) (items_of p) (items_of q) → SameBook p.names q.names b c → cs ≡ ds → Each (SameTask p.names q.names) ts us
    → SameState (state p b cs ts) (state q c ds us)
stood p q w f r b c t = record {
  left = w.left;
  right = w.right;
  few = f;
  ahead = r;
  names = b.names;
  codes = b.codes;
  groups = b.groups;
  conditionals = c;
  tasks = t;
}

module _ {r q : Reader} (g : SameReader r q) where
  pub read_state : {b c : BookState} {cs ds : List Part} {ts us : List Task} → SameBook r.stands.names q.stands.names b c → cs ≡ ds → Each (SameTask r.stands.names q.stands.names) ts us
      → SameState (state r.stands b cs ts) (state q.stands c ds us)
  read_state b c t = stood r.stands q.stands g.sound (omega (arith, g.few.0), omega (arith, g.few.1)) g.items b c t

  module _ {s z : State} (h : SameRest r.stands.names q.stands.names s z) where
    pub same_refuse : (st : Status) (c : Cause) → SameStep (refuse s r st c) (refuse z q st c)
    same_refuse st c = both both_refused (read_state h.book h.conditionals no_more)

    pub same_at : {a b : Answer} → SameAnswer r.stands.names q.stands.names a b → SameStep (ends r a (at s r)) (ends q b (at z q))
    same_at a = both (both_answer a) (read_state h.book h.conditionals h.tasks)

-- what waits

pub same_waiting : {ms ns : Spellings} {ts us : List Task} → Each (SameTask ms ns) ts us → Each (SameToken ms ns) (waiting_of ts) (waiting_of us)
same_waiting no_more = no_more
same_waiting (and (same_after c) r) = each_end (same_waiting r) c
same_waiting (and same_prefix r) = no_more

pub same_beyond : {ms ns : Spellings} {ts us : List Task} → Each (SameTask ms ns) ts us → Each (SameTask ms ns) (beyond_waiting ts) (beyond_waiting us)
same_beyond no_more = no_more
same_beyond (and (same_after c) r) = same_beyond r
same_beyond (and same_prefix r) = and same_prefix r

-- tokens put in front of the items ahead

pub items_front : (ts held : List Token) (below : List Item) → map ready (ts ++ held) ++ below ≡ map ready ts ++ (map ready held ++ below)
items_front [] held below = refl
items_front (t ∷ ts) held below = ap (λ (is : List Item). ready t ∷ is) (items_front ts held below)

pub each_ready : {ms ns : Spellings} {ts us : List Token} → Each (SameToken ms ns) ts us → Each (SameItem ms ns) (map ready ts) (map ready us)
each_ready no_more = no_more
each_ready (and c r) = and (same_ready c) (each_ready r)

pub same_front : (p q : Position) {ts us : List Token} → Each (SameItem p.names q.names) (items_of p) (items_of q) → Each (SameToken p.names q.names) ts us
    → Each (SameItem p.names q.names) (items_of (put p (ts ++ p.held))) (items_of (put q (us ++ q.held)))
same_front p q {ts} {us} r c = rw (items_front ts p.held p.below, items_front us q.held q.below) (each_++ (each_ready c) r)

pub put_few : (ts held : List Token) → leb (length ts + length held) 4096 ≡ true → length (ts ++ held) ≤ 4096
put_few ts held e = simp length-append (leb-true (length ts + length held) 4096 e)

module _ {r q : Reader} (g : SameReader r q) {s z : State} (h : SameRest r.stands.names q.stands.names s z) {cs ds : List Part} (k : cs ≡ ds) where
  completed_by_lem : {ts us : List Token} → Each (SameToken r.stands.names q.stands.names) ts us → (b c : Bool) → leb (length ts + length r.stands.held) 4096 ≡ b → leb (length us + length q.stands.held) 4096 ≡ c
      → SameStep (completed_by s r cs (cond b (piles.put (ts ++ r.stands.held)) (piles.refused PutBackFull))) (completed_by z q ds (cond c (piles.put (us ++ q.stands.held)) (piles.refused PutBackFull)))
  completed_by_lem l false c e f = halt_left refl
  completed_by_lem l true false e f = halt_right refl
  completed_by_lem {ts} {us} l true true e f =
      both (both_answer same_working)
      (stood (put r.stands (ts ++ r.stands.held)) (put q.stands (us ++ q.stands.held)) g.sound (put_few ts r.stands.held e, put_few us q.stands.held f)
      (same_front r.stands q.stands g.items l) h.book k (same_beyond h.tasks))

  pub same_completed : {ts us : List Token} → Each (SameToken r.stands.names q.stands.names) ts us → SameStep (completed s r cs ts) (completed z q ds us)
  same_completed {ts} {us} l =
      completed_by_lem (each_++ (same_waiting h.tasks) l)
      (leb (length (waiting s.tasks ts) + length r.stands.held) 4096) (leb (length (waiting z.tasks us) + length q.stands.held) 4096) refl refl

-- automata

pub categories_few : (b : BookState) → length (categories_of b) ≤ 256
categories_few b = let e = length-map (range_with_len 0 256) (λ (k : ℕ). (b.codes.table k).value) ∙ length-range_with_len 0 256 in rw e (omega arith)

pub same_categories : {ms ns : Spellings} {a b : BookState} → SameBook ms ns a b → categories_of a ≡ categories_of b
same_categories r = rw r.codes

pub same_ahead : {s z : State} {r q : Reader} → SameReader r q → SameRest r.stands.names q.stands.names s z → SameStream r.stands.names q.stands.names (ahead s r) (ahead z q)
same_ahead {s} {z} {r} {q} g h =
    subst (λ (cs : Categories). SameStream r.stands.names q.stands.names (ahead s r) (tokens_from cs q)) (same_categories h.book)
    (same_stream (categories_of s.book) (categories_few s.book) r.stands q.stands r.read q.read g.sound (omega (arith, g.few.0)) (omega (arith, g.few.1)) g.items)

module _ {O : Type 0} (Outcome : Spellings → Spellings → O → O → Type 0) {ms ns : Spellings} {s z : State} (h : SameRest ms ns s z) (st : Status) (end fin : O → Reader → Stepped)
    (over : (x y : O) (r q : Reader) → Onward ms ns r.stands.names q.stands.names → SameReader r q → SameRest r.stands.names q.stands.names s z → Outcome r.stands.names q.stands.names x y → SameStep (end x r) (fin y q)) where
  pub same_finished : {d e : Driven O Reader} → SameDriven Outcome ms ns d e → SameStep (finished s st d end) (finished z st e fin)
  same_finished (same_came {x = x} {y = y} {r = r} {q = q} o g v) = over x y r q o g (rest_on o h) v
  same_finished (same_ended o g) = same_refuse g (rest_on o h) st (pile Ended)
  same_finished (same_failed {e = e} o g) = same_refuse g (rest_on o h) st _
  same_finished failed_left = halt_left refl
  same_finished failed_right = halt_right refl

-- a rule: automata that respect what is the same, and what their outcome does
module _ {P O : Type 0} (Phase : Spellings → Spellings → P → P → Type 0) (Outcome : Spellings → Spellings → O → O → Type 0) {r q : Reader} (g : SameReader r q) {s z : State}
    (h : SameRest r.stands.names q.stands.names s z) (st : Status) (feed food : P → Token → Move P O) (end fin : O → Reader → Stepped) where
  pub same_ruled : {d e : Move P O} → Respects Phase Outcome r.stands.names q.stands.names feed food
      → SameMove (Phase r.stands.names q.stands.names) (Outcome r.stands.names q.stands.names) d e
      → ((x y : O) (l m : Reader) → Onward r.stands.names q.stands.names l.stands.names m.stands.names → SameReader l m → SameRest l.stands.names m.stands.names s z → Outcome l.stands.names m.stands.names x y → SameStep (end x l) (fin y m))
      → SameStep (finished s st (drive feed d r (ahead s r)) end) (finished z st (drive food e q (ahead z q)) fin)
  same_ruled k v over =
      same_finished Outcome h st end fin over
      (same_drive Phase Outcome r.stands.names q.stands.names feed food k r q stay g (same_ahead g h) v)

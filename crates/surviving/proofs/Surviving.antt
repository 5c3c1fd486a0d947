-- What survives is what is found.
--   Holds          a state and a diary: the book and its lines, and the same tasks
--   left, keeps    what a call does keeps them together
--   performs       what every call does, as the diary has it
--   survives       so they are together after every list of calls on a new gullet
use Rattle.std.proofs.Common.{◌≡◌, List, [], ◌∷◌, Ok, Err, Result, refl, ◌∙◌, subst, subst₂}
use mathlib.Core.Path.{fun_ext}
use Rattle.tokens.specs.declared.token.Token.{Token}
use Rattle.tokens.specs.declared.answer.Entry.TheVariants as entry
use Rattle.tokens.specs.declared.answer.Answer.{Answer}
use Rattle.tokens.specs.declared.answer.Answer.TheVariants.{Delivered, Opened, Closed, Assigned, End, Working}
use Rattle.tokens.specs.Firsts.{first_category}
use Rattle.book.specs.Firsts.{first_means}
use Rattle.book.specs.Meanings.{Means}
use Rattle.pending.specs.declared.task.Task.{Task}
use Rattle.rules.specs.Refusals.{Fault}
use Rattle.rules.specs.States.{State, Stepped, new, meanings_of}
use Rattle.rules.specs.Calling.{Call, stepping, inserting, binding, opening, closing, perform, state_after}
use Rattle.surviving.specs.Diaries.{Diary, empty, found_name, step_given, given, tasks_working, working, refused, written, wrote, kept}
use Rattle.surviving.specs.Laws.{Tells, Survives}
use Rattle.surviving.proofs.Leaving.{Leaves, Does, given_in, working_in}
use Rattle.surviving.proofs.Booked.{Booked, booked_same, booked_new, booked_opened, booked_closed, booked_named, booked_coded, found}
use Rattle.surviving.proofs.Stepping.{steps}
use Rattle.surviving.proofs.Calling.{Outside, inserts, binds, opens_host, closes_host}

pub record Holds (s : State) (d : Diary) : Type 0 where
  pub books : Booked s.book d.names d.codes
  pub tasks : s.tasks ≡ d.tasks

module _ {s : State} {d : Diary} (h : Holds s d) (c : Call) where
  left : (a : Result Answer Fault) (q : State) (ts : List Token) → Leaves s (given d c ts) (working d c ts) (refused d c) a q → Holds q (written d c ts a)
  left (Ok (Delivered t)) q ts l = record { books = booked_same l.0 h.books; tasks = l.1 ∙ h.tasks }
  left (Ok (Opened k)) q ts l = record { books = booked_same l.0 (booked_opened h.books k); tasks = l.1 ∙ h.tasks }
  left (Ok (Closed k)) q ts l = record { books = booked_same l.0 (booked_closed h.books k l.2); tasks = l.1 ∙ h.tasks }
  left (Ok (Assigned sc (entry.Name n))) q ts l = record { books = booked_named h.books q.book sc n (given d c ts) l.0; tasks = l.1 }
  left (Ok (Assigned sc (entry.Code x k))) q ts l = record { books = booked_coded h.books q.book sc x k l.0; tasks = l.1 }
  left (Ok End) q ts l = record { books = booked_same l.0 h.books; tasks = l.1 ∙ h.tasks }
  left (Ok Working) q ts l = record { books = booked_same l.0 h.books; tasks = l.1 }
  left (Err f) q ts l = record { books = booked_same l.0 h.books; tasks = l.1 }

  keeps : (r : Stepped) → Does s (given d c) (working d c) (refused d c) r → Holds r.state (wrote d c r)
  keeps r l = left r.answer r.state r.read l

-- the tokens of a step say the same by a diary
given_by_lem : (d : Diary) (ts : List Token) → given_in (found_name d) d.tasks ts ≡ step_given d ts
given_by_lem d [] = refl
given_by_lem d (t ∷ ts) = refl

working_by : (d : Diary) (ts : List Token) → working_in (found_name d) d.tasks ts ≡ tasks_working d ts
working_by d [] = refl
working_by d (t ∷ ts) = refl

module _ {s : State} {d : Diary} (h : Holds s d) where
  same_meanings : meanings_of s.book ≡ found_name d
  same_meanings = fun_ext λ n. found first_means s.book.names d.names h.books.names n

  same_given : (ts : List Token) → given_in (meanings_of s.book) s.tasks ts ≡ step_given d ts
  same_given ts = (λ i. given_in (same_meanings i) (h.tasks i) ts) ∙ given_by_lem d ts

  same_working_lem : (ts : List Token) → working_in (meanings_of s.book) s.tasks ts ≡ tasks_working d ts
  same_working_lem ts = (λ i. working_in (same_meanings i) (h.tasks i) ts) ∙ working_by d ts

  from_outside : (m : Means) (r : Stepped) → Outside s m r → Does s (λ ts. m) (λ ts. d.tasks) d.tasks r
  from_outside m r l = subst (λ (us : List Task). Does s (λ ts. m) (λ ts. us) us r) h.tasks l

  performs : (c : Call) → Does s (given d c) (working d c) (refused d c) (perform s c)
  performs stepping =
      subst₂ (λ (g : List Token → Means) (w : List Token → List Task). Does s g w [] (perform s stepping)) (fun_ext same_given) (fun_ext same_working_lem) (steps s)
  performs (inserting ws) = from_outside _ (perform s (inserting ws)) (inserts s ws)
  performs (binding sc name xs) = from_outside _ (perform s (binding sc name xs)) (binds s sc name xs)
  performs opening = from_outside _ (perform s opening) (opens_host s)
  performs closing = from_outside _ (perform s closing) (closes_host s)

holds_after : (s : State) (d : Diary) (cs : List Call) → Holds s d → Holds (state_after s cs) (kept s d cs)
holds_after s d [] h = h
holds_after s d (c ∷ cs) h = holds_after (perform s c).state (wrote d c (perform s c)) cs (keeps h c (perform s c) (performs h c))

tells : (s : State) (d : Diary) → Holds s d → Tells s d
tells s d h = record {
  names = found first_means s.book.names d.names h.books.names;
  codes = found first_category s.book.codes d.codes h.books.codes;
  tasks = h.tasks;
}

pub survives : Survives
survives is cs = tells (state_after (new is) cs) (kept (new is) empty cs) (holds_after (new is) empty cs (record { books = booked_new; tasks = refl }))

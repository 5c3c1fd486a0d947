-- What a call leaves, by its answer.
--   Named, Coded           a book after an operation on names, on codes, that its table does not refuse
--   Leaves                 the state that a call leaves, where g is the meaning that its tokens give a name, w the tasks behind Working and e
--                          those behind a refusal
--   Does                   the same of a call, by the tokens that it read
--   given_in, working_in   the meaning that the tokens of a step give, and the tasks behind Working, by meanings and tasks
--   Steps                  what a step does
--   Behind                 a reader has read a token of this meaning, and these tokens behind it
use Rattle.std.proofs.Common.{◌≡◌, true, false, List, [], ◌∷◌, ◌++◌, Ok, Err, Result, ap, ◌∙◌}
use Rattle.tokens.specs.declared.category.Category.{Category}
use Rattle.tokens.specs.declared.token.Token.{Token}
use Rattle.tokens.specs.declared.answer.Entry.TheVariants as entry
use Rattle.tokens.specs.declared.answer.Answer.{Answer}
use Rattle.tokens.specs.declared.answer.Answer.TheVariants.{Delivered, Opened, Closed, Assigned, End, Working}
use Rattle.tables.specs.Table.{Op, refused, step}
use Rattle.book.specs.Meanings.{Means, undefined}
use Rattle.book.specs.Scopes.{operation}
use Rattle.book.specs.Books.{BookState, opening, closing, is_innermost}
use Rattle.pending.specs.declared.task.Task.{Task}
use Rattle.rules.specs.Refusals.{Fault}
use Rattle.rules.specs.Readers.{Reader}
use Rattle.rules.specs.States.{State, Stepped, meanings_of}
use Rattle.rules.specs.Tokens.{Meanings, meaning}
use Rattle.surviving.specs.Diaries.{given_by, is_long, tasks_by}

pub record Named (b c : BookState) (o : Op Means) : Type 0 where
  pub allowed : refused 2048 b.names o ≡ false
  pub names : c.names ≡ step b.names o
  pub codes : c.codes ≡ b.codes
  pub groups : c.groups ≡ b.groups

pub record Coded (b c : BookState) (o : Op Category) : Type 0 where
  pub allowed : refused 2048 b.codes o ≡ false
  pub names : c.names ≡ b.names
  pub codes : c.codes ≡ step b.codes o
  pub groups : c.groups ≡ b.groups

abbrev pub Leaves : State → Means → List Task → List Task → Result Answer Fault → State → Type 0
Leaves s g w e (Ok (Delivered t)) q = (q.book ≡ s.book) × (q.tasks ≡ s.tasks)
Leaves s g w e (Ok (Opened k)) q = (q.book ≡ opening k s.book) × (q.tasks ≡ s.tasks)
Leaves s g w e (Ok (Closed k)) q = (q.book ≡ closing s.book) × (q.tasks ≡ s.tasks) × (is_innermost k s.book.groups ≡ true)
Leaves s g w e (Ok (Assigned sc (entry.Name n))) q = Named s.book q.book (operation sc n g) × (q.tasks ≡ [])
Leaves s g w e (Ok (Assigned sc (entry.Code x c))) q = Coded s.book q.book (operation sc x c) × (q.tasks ≡ [])
Leaves s g w e (Ok End) q = (q.book ≡ s.book) × (q.tasks ≡ s.tasks)
Leaves s g w e (Ok Working) q = (q.book ≡ s.book) × (q.tasks ≡ w)
Leaves s g w e (Err f) q = (q.book ≡ s.book) × (q.tasks ≡ e)

abbrev pub Does : State → (List Token → Means) → (List Token → List Task) → List Task → Stepped → Type 0
Does s g w e r = Leaves s (g r.read) (w r.read) e r.answer r.state

-- steps

abbrev pub given_in : Meanings → List Task → List Token → Means
given_in f ts [] = undefined
given_in f ts (t ∷ more) = given_by f (is_long ts) more (meaning f t)

abbrev pub working_in : Meanings → List Task → List Token → List Task
working_in f ts [] = ts
working_in f ts (t ∷ more) = tasks_by more ts (meaning f t)

abbrev pub Steps : State → Stepped → Type 0
Steps s r = Does s (given_in (meanings_of s.book) s.tasks) (working_in (meanings_of s.book) s.tasks) [] r

pub record Behind (s : State) (m : Means) (more : List Token) (r : Reader) : Type 0 where
  pub first : Token
  pub read : r.read ≡ first ∷ more
  pub means : meaning (meanings_of s.book) first ≡ m

module _ {s : State} {m : Means} {more : List Token} {r : Reader} where
  pub onward : Behind s m more r → (q : Reader) (ts : List Token) → q.read ≡ r.read ++ ts → Behind s m (more ++ ts) q
  onward h q ts e = record { first = h.first; read = e ∙ ap (λ (us : List Token). us ++ ts) h.read; means = h.means }

  pub given_is : Behind s m more r → given_in (meanings_of s.book) s.tasks r.read ≡ given_by (meanings_of s.book) (is_long s.tasks) more m
  given_is h =
      ap (given_in (meanings_of s.book) s.tasks) h.read
      ∙ ap (given_by (meanings_of s.book) (is_long s.tasks) more) h.means

  pub working_is : Behind s m more r → working_in (meanings_of s.book) s.tasks r.read ≡ tasks_by more s.tasks m
  working_is h = ap (working_in (meanings_of s.book) s.tasks) h.read ∙ ap (tasks_by more s.tasks) h.means

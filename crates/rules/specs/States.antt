-- The state of a gullet between calls, and how calls end.
--   State           where reading stands, the book, the open conditionals (innermost first), the pending tasks (newest first)
--   new             the state of a new gullet over some items
--   Stepped         an answer or a fault, the state after, and the tokens that the call read
--   ends            an answer of a step, where reading stands then, with the state after
--   refuse          a step refused where reading stands now: the tokens read are lost and so are the tasks, the names entered stay, and nothing else changes
--   answers         an answer of an outside call, with the state after
--   turned_away     an outside call refused: nothing changes
--   at              a state with reading elsewhere
--   waiting         a result behind the tokens that wait for it
--   completed       an expansion is complete: its result and what waits for it are put back, all or nothing
--   finished        what comes of tokens read under a status, where the outcome of reading goes on
--   categories_of   the categories of all codes
--   meanings_of     the meanings of all names
--   ahead           the tokens ahead of a reader
use Rattle.std.specs.Prelude.{ℕ, List, [], ◌++◌, map, Ok, Err, Result}
use Rattle.std.specs.List.{range_with_len}
use Rattle.tokens.specs.declared.token.Token.{Token}
use Rattle.tokens.specs.declared.answer.Answer.{Answer}
use Rattle.tokens.specs.declared.answer.Answer.TheVariants.{Working}
use Rattle.lines.specs.Line.{Categories, Item}
use Rattle.names.specs.Naming.{first_names}
use Rattle.sources.specs.declared.fault.PileRefusal.TheVariants.{Ended}
use Rattle.piles.specs.Inserting as piles
use Rattle.piles.specs.Inserting.{Put, put_back}
use Rattle.book.specs.Books.{BookState, new_book}
use Rattle.book.specs.Meanings.{Means}
use Rattle.driving.specs.declared.status.Status.{Status}
use Rattle.driving.specs.declared.status.Status.TheVariants.{Normal}
use Rattle.driving.specs.Streams.{Stream}
use Rattle.driving.specs.Drives.{Driven, came, ended, failed}
use Rattle.pending.specs.declared.conditional.Part.{Part}
use Rattle.pending.specs.declared.task.Task.{Task}
use Rattle.pending.specs.Underway.{waiting_of, beyond_waiting}
use Rattle.rules.specs.Refusals.{Cause, read, pile, Fault}
use Rattle.rules.specs.Readers.{Position, position, Reader, tokens_from, put}

pub record State : Type 0 where
  pub stands : Position
  pub book : BookState
  pub conditionals : List Part
  pub tasks : List Task

abbrev pub state : Position → BookState → List Part → List Task → State
state p b cs ts = record { stands = p; book = b; conditionals = cs; tasks = ts }

abbrev pub new : List Item → State
new is = state (position first_names [] is) new_book [] []

pub record Stepped : Type 0 where
  pub answer : Result Answer Fault
  pub state : State
  pub read : List Token

abbrev pub ends : Reader → Answer → State → Stepped
ends r a s = record { answer = Ok a; state = s; read = r.read }

abbrev pub refuse : State → Reader → Status → Cause → Stepped
refuse s r st c = record { answer = Err (record { cause = c; status = st }); state = state r.stands s.book s.conditionals []; read = r.read }

abbrev pub answers : Answer → State → Stepped
answers a s = record { answer = Ok a; state = s; read = [] }

abbrev pub turned_away : State → Cause → Stepped
turned_away s c = record { answer = Err (record { cause = c; status = Normal }); state = s; read = [] }

abbrev pub at : State → Reader → State
at s r = state r.stands s.book s.conditionals s.tasks

abbrev pub waiting : List Task → List Token → List Token
waiting ts result = waiting_of ts ++ result

-- with these conditionals open from then on
abbrev pub completed_by : State → Reader → List Part → Put → Stepped
completed_by s r cs (piles.put held) = ends r Working (state (put r.stands held) s.book cs (beyond_waiting s.tasks))
completed_by s r cs (piles.refused e) = refuse s r Normal (pile e)

abbrev pub completed : State → Reader → List Part → List Token → Stepped
completed s r cs result = completed_by s r cs (put_back (waiting s.tasks result) r.stands.held)

abbrev pub finished : {O : Type 0} → State → Status → Driven O Reader → (O → Reader → Stepped) → Stepped
finished s st (came o r) end = end o r
finished s st (ended r) end = refuse s r st (pile Ended)
finished s st (failed e r) end = refuse s r st (read e)

abbrev pub categories_of : BookState → Categories
categories_of b = map (λ (k : ℕ). (b.codes.table k).value) (range_with_len 0 256)

abbrev pub meanings_of : BookState → ℕ → Means
meanings_of b n = (b.names.table n).value

abbrev pub ahead : State → Reader → Stream Reader
ahead s r = tokens_from (categories_of s.book) r

-- Calls from outside, and lists of calls.
--   idle                      an outside call is refused 37 while a task is pending
--   insert                    a list of words in front of what is ahead
--   bytes_body                the body of a bound macro: byte 32 as a character of category 10, all others of category 12
--   bind                      a spelling is assigned the macro of some bytes
--   open_host, close_host     a host group
--   Call, perform             a call, and what it answers and leaves
--   answers_of, state_after   the answers of a list of calls, and the state that it leaves
use Rattle.std.specs.Prelude.{ℕ, false, cond, List, [], ◌∷◌, map, length, Ok, Err, Result, ◌==◌, nat_lt}
use Rattle.tokens.specs.declared.token_category.TokenCategory.TheVariants.{Space, Other}
use Rattle.tokens.specs.declared.token.Token.TheVariants.{Character}
use Rattle.tokens.specs.declared.stored.BodyWord.{BodyWord}
use Rattle.tokens.specs.declared.stored.BodyWord.TheVariants as body
use Rattle.tokens.specs.declared.answer.GroupKind.TheVariants.{Host}
use Rattle.tokens.specs.declared.answer.Scope.{Scope}
use Rattle.tokens.specs.declared.answer.Entry.TheVariants as entry
use Rattle.tokens.specs.declared.answer.Answer.{Answer}
use Rattle.tokens.specs.declared.answer.Answer.TheVariants.{Opened, Closed, Assigned, Working}
use Rattle.names.specs.declared.fault.NamesFault.TheVariants.{TooLong}
use Rattle.names.specs.Naming.{Spellings, Entered, known, refused, enter}
use Rattle.sources.specs.declared.fault.ReadRefusal.TheVariants.{Names}
use Rattle.piles.specs.Inserting as piles
use Rattle.piles.specs.Inserting.{Put}
use Rattle.book.specs.declared.fault.BookFault.{BookFault}
use Rattle.book.specs.declared.fault.BookFault.TheVariants.{DefinitionTooLong}
use Rattle.book.specs.Books.{BookState, open_answer, after_open, close_answer, after_close, define_answer, after_define}
use Rattle.rules.specs.declared.refusal.GulletRefusal.TheVariants.{Pending}
use Rattle.rules.specs.Refusals.{Fault, read, pile, book, gullet}
use Rattle.pending.specs.declared.task.Task.{Task}
use Rattle.rules.specs.Readers.{position, put}
use Rattle.rules.specs.States.{State, state, Stepped, answers, turned_away}
use Rattle.rules.specs.Stepping.{step}

abbrev pub idle_by : State → Stepped → List Task → Stepped
idle_by s does [] = does
idle_by s does (t ∷ ts) = turned_away s (gullet Pending)

abbrev pub idle : State → Stepped → Stepped
idle s does = idle_by s does s.tasks

abbrev pub insert_by : State → Put → Stepped
insert_by s (piles.put held) = answers Working (state (put s.stands held) s.book s.conditionals s.tasks)
insert_by s (piles.refused e) = turned_away s (pile e)

abbrev pub insert : State → List ℕ → Stepped
insert s ws = idle s (insert_by s (piles.insert s.stands.names ws s.stands.held))

abbrev pub byte_word : ℕ → BodyWord
byte_word x = body.Token (Character (cond (x == 32) Space Other) x)

abbrev pub bytes_body : List ℕ → List BodyWord
bytes_body xs = map byte_word xs

abbrev pub bind_as : State → Scope → ℕ → Spellings → BookState → Result (Unit {0}) BookFault → Stepped
bind_as s sc n ns b (Ok _) = answers (Assigned sc (entry.Name n)) (state (position ns s.stands.held s.stands.below) b s.conditionals s.tasks)
bind_as s sc n ns b (Err f) = turned_away s (book f)

abbrev pub bind_by : State → Scope → List ℕ → Entered → Stepped
bind_by s sc xs (known n ns) = bind_as s sc n ns (after_define sc n false [] (bytes_body xs) s.book) (define_answer sc n false [] (bytes_body xs) s.book)
bind_by s sc xs (refused f) = turned_away s (read (Names f))

abbrev pub bind : State → Scope → List ℕ → List ℕ → Stepped
bind s sc name xs =
    idle s
    (cond (nat_lt 32 (length name)) (turned_away s (read (Names TooLong)))
    (cond (nat_lt 2048 (length xs)) (turned_away s (book DefinitionTooLong))
    (bind_by s sc xs (enter s.stands.names name))))

abbrev pub group_by : State → Answer → BookState → Result (Unit {0}) BookFault → Stepped
group_by s a b (Ok _) = answers a (state s.stands b s.conditionals s.tasks)
group_by s a b (Err f) = turned_away s (book f)

abbrev pub open_host : State → Stepped
open_host s = idle s (group_by s (Opened Host) (after_open Host s.book) (open_answer s.book))

abbrev pub close_host : State → Stepped
close_host s = idle s (group_by s (Closed Host) (after_close Host s.book) (close_answer Host s.book))

pub data Call : Type 0 where
  stepping : Call
  inserting : List ℕ → Call
  binding : Scope → List ℕ → List ℕ → Call
  opening closing : Call

abbrev pub perform : State → Call → Stepped
perform s stepping = step s
perform s (inserting ws) = insert s ws
perform s (binding sc name xs) = bind s sc name xs
perform s opening = open_host s
perform s closing = close_host s

abbrev pub state_after : State → List Call → State
state_after s [] = s
state_after s (c ∷ cs) = state_after (perform s c).state cs

abbrev pub answers_of : State → List Call → List (Result Answer Fault)
answers_of s [] = []
answers_of s (c ∷ cs) = (perform s c).answer ∷ answers_of (perform s c).state cs

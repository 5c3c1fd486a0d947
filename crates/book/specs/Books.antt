-- The state of a book, and for each call the answer to it and the state after it. A refused call changes nothing.
--   BookState        what names mean, the categories of codes, the kinds of the open groups (innermost first), the words used
--   new_book         the state of a new book
--   after            what a call leaves: what was, if its answer is a fault, else what the call does
--   innermost        the kind of the innermost group
--   is_innermost     whether the innermost group is of a kind
--   without          the groups but the innermost
--   open_answer      46 with 250 groups open
--   opening          a group of a kind opened, in both tables
--   close_answer     36 unless the innermost group is of the kind
--   closing          the innermost group closed, in both tables
--   naming, coding   an operation on what names mean, or on categories
--   name_answer, code_answer  the answer to an assignment: 45 if it needs a record and 2,048 are taken
--   if_room          43 over 2,048 words, 44 if the used and the new words pass 16,384, else an answer
--   define_answer    the answer to the definition of a macro
--   defining         a macro assigned, its words used from then on
--   after_open, after_close, after_name, after_code, after_define  the state after each call
use Rattle.std.specs.Prelude.{ℕ, ◌+◌, Bool, false, cond, not, List, [], ◌∷◌, length, Some, None, Ok, Err, Option, Result, ◌==◌, nat_le, nat_lt}
use Rattle.tokens.specs.declared.answer.GroupKind.{GroupKind}
use Rattle.tokens.specs.declared.answer.Scope.{Scope}
use Rattle.tokens.specs.declared.category.Category.{Category}
use Rattle.tables.specs.Table.{State, Op, new, opened, closed, step}
use Rattle.book.specs.declared.fault.BookFault.{BookFault}
use Rattle.book.specs.declared.fault.BookFault.TheVariants.{WrongGroup, DefinitionTooLong, WordsFull, GroupsFull}
use Rattle.tokens.specs.declared.stored.ParameterWord.{ParameterWord}
use Rattle.tokens.specs.declared.stored.BodyWord.{BodyWord}
use Rattle.book.specs.Faults.{answered}
use Rattle.tokens.specs.Firsts.{first_category}
use Rattle.tokens.specs.Words.{group_number}
use Rattle.book.specs.Firsts.{first_means}
use Rattle.book.specs.Meanings.{Means, macro}
use Rattle.book.specs.Scopes.{operation, record_answer}

pub record BookState : Type 0 where
  pub names : State Means
  pub codes : State Category
  pub groups : List GroupKind
  pub words : ℕ

abbrev pub new_book : BookState
new_book = record { names = new first_means; codes = new first_category; groups = []; words = 0 }

abbrev pub after : Result (Unit {0}) BookFault → BookState → BookState → BookState
after (Ok _) was does = does
after (Err _) was does = was

-- groups
abbrev pub innermost : List GroupKind → Option GroupKind
innermost [] = None
innermost (k ∷ ks) = Some k

abbrev pub is_innermost : GroupKind → List GroupKind → Bool
is_innermost kind [] = false
is_innermost kind (k ∷ ks) = group_number k == group_number kind

abbrev pub without : List GroupKind → List GroupKind
without [] = []
without (k ∷ ks) = ks

abbrev pub open_answer : BookState → Result (Unit {0}) BookFault
open_answer b = answered (nat_le 250 (length b.groups)) GroupsFull

abbrev pub opening : GroupKind → BookState → BookState
opening kind b = record { names = opened b.names; codes = opened b.codes; groups = kind ∷ b.groups; words = b.words }

abbrev pub after_open : GroupKind → BookState → BookState
after_open kind b = after (open_answer b) b (opening kind b)

abbrev pub close_answer : GroupKind → BookState → Result (Unit {0}) BookFault
close_answer kind b = answered (not (is_innermost kind b.groups)) WrongGroup

abbrev pub closing : BookState → BookState
closing b = record { names = closed b.names; codes = closed b.codes; groups = without b.groups; words = b.words }

abbrev pub after_close : GroupKind → BookState → BookState
after_close kind b = after (close_answer kind b) b (closing b)

-- assignments
abbrev pub naming : Op Means → BookState → BookState
naming o b = record { names = step b.names o; codes = b.codes; groups = b.groups; words = b.words }

abbrev pub name_answer : Scope → ℕ → Means → BookState → Result (Unit {0}) BookFault
name_answer scope name means b = record_answer b.names (operation scope name means)

abbrev pub after_name : Scope → ℕ → Means → BookState → BookState
after_name scope name means b = after (name_answer scope name means b) b (naming (operation scope name means) b)

abbrev pub coding : Op Category → BookState → BookState
coding o b = record { names = b.names; codes = step b.codes o; groups = b.groups; words = b.words }

abbrev pub code_answer : Scope → ℕ → Category → BookState → Result (Unit {0}) BookFault
code_answer scope code category b = record_answer b.codes (operation scope code category)

abbrev pub after_code : Scope → ℕ → Category → BookState → BookState
after_code scope code category b = after (code_answer scope code category b) b (coding (operation scope code category) b)

-- definitions
abbrev pub if_room : ℕ → BookState → Result (Unit {0}) BookFault → Result (Unit {0}) BookFault
if_room count b rest = cond (nat_lt 2048 count) (Err DefinitionTooLong) (cond (nat_lt 16384 (b.words + count)) (Err WordsFull) rest)

abbrev pub define_answer : Scope → ℕ → Bool → List ParameterWord → List BodyWord → BookState → Result (Unit {0}) BookFault
define_answer scope name long ps bs b = if_room (length ps + length bs) b (name_answer scope name (macro long ps bs) b)

abbrev pub defining : ℕ → Op Means → BookState → BookState
defining count o b = record { names = step b.names o; codes = b.codes; groups = b.groups; words = b.words + count }

abbrev pub after_define : Scope → ℕ → Bool → List ParameterWord → List BodyWord → BookState → BookState
after_define scope name long ps bs b =
    after (define_answer scope name long ps bs b) b (defining (length ps + length bs) (operation scope name (macro long ps bs)) b)

-- A diary of what calls did, from which a closing strikes lines. It is fed each call with its arguments, the tokens that it read and its answer.
--   Diary                    the lines on names, those on codes, and beside them the tasks pending
--   empty                    of a new gullet
--   found_name, found_code   what a name means, the category of a code: by its last assignment left, or as at first
--   list_stream              a list of tokens as what is ahead
--   macro_given, let_given   the meaning that the tokens behind \def or \gdef give a name; those behind \let
--   step_given               the meaning that the tokens of a step give a name, by the diary so far
--   given                    the same of a call
--   tasks_working            the tasks pending behind a step that answers Working, by the tokens that it read
--   written                  the diary with a call's lines: Opened writes an opening, Closed strikes the newest opening left and all local assignments
--                            after it, Assigned writes the name or the code; all else writes nothing
--   kept                     the diary of a list of calls, from a state and a diary on
use Rattle.std.specs.Prelude.{ℕ, Bool, true, false, List, [], ◌∷◌, Ok, Err, Option, Result}
use Rattle.tokens.specs.declared.category.Category.{Category}
use Rattle.tokens.specs.declared.token.Token.{Token}
use Rattle.matching.specs.Matching.{on}
use Rattle.tokens.specs.declared.answer.Scope.{Scope}
use Rattle.tokens.specs.declared.answer.Entry.{Entry}
use Rattle.tokens.specs.declared.answer.Entry.TheVariants as entry
use Rattle.tokens.specs.declared.answer.Answer.{Answer}
use Rattle.tokens.specs.declared.answer.Answer.TheVariants.{Delivered, Opened, Closed, Assigned, End, Working}
use Rattle.tokens.specs.Firsts.{first_category}
use Rattle.tables.specs.Table.{open_group, close_group}
use Rattle.tables.specs.Diary as lines
use Rattle.tables.specs.Diary.{survivor}
use Rattle.book.specs.declared.meaning.Primitive.{Primitive}
use Rattle.book.specs.declared.meaning.Primitive.TheVariants.{Relax, Par, Def, Gdef, Let, Global, Long, Catcode, BeginGroup, EndGroup, ExpandAfter, Ifx, IfTrue, IfFalse, Else, Fi}
use Rattle.book.specs.Firsts.{first_means}
use Rattle.book.specs.Meanings.{Means, undefined, primitive, character, macro}
use Rattle.book.specs.Scopes.{operation}
use Rattle.driving.specs.Streams.{Stream, nothing, token}
use Rattle.driving.specs.Drives.{Driven, came, ended, failed, drive}
use Rattle.pending.specs.declared.task.Prefix.{Prefix}
use Rattle.pending.specs.declared.task.Task.{Task}
use Rattle.pending.specs.declared.task.Task.TheVariants as task
use Rattle.pending.specs.Underway.{joint, beyond_waiting}
use Rattle.rules.specs.declared.phases.Letting.TheVariants.{BeforeEquals}
use Rattle.rules.specs.Refusals.{Fault}
use Rattle.rules.specs.Tokens.{Meanings, meaning}
use Rattle.rules.specs.Defining.{Defined, defines, broken, too_long, in_text, definition_feed}
use Rattle.rules.specs.Assigning.{name_feed, let_feed}
use Rattle.rules.specs.States.{State, Stepped}
use Rattle.rules.specs.Calling.{Call, stepping, inserting, binding, opening, closing, bytes_body, perform}

pub record Diary : Type 0 where
  pub names : lines.Diary Means
  pub codes : lines.Diary Category
  pub tasks : List Task

abbrev pub empty : Diary
empty = record { names = []; codes = []; tasks = [] }

abbrev pub found_name : Diary → Meanings
found_name d n = survivor first_means d.names n

abbrev pub found_code : Diary → ℕ → Category
found_code d x = survivor first_category d.codes x

-- what tokens give a name

abbrev pub list_stream : List Token → Stream (List Token)
list_stream [] = nothing []
list_stream (t ∷ ts) = token t ts (list_stream ts)

-- the tokens behind the name, if there is one
abbrev pub behind_name : Driven (Option ℕ) (List Token) → List Token
behind_name (came o ts) = ts
behind_name (ended ts) = ts
behind_name (failed e ts) = ts

abbrev pub macro_of : {B : Type 0} → Bool → Driven Defined B → Means
macro_of long (came (defines ps bs) b) = macro long ps bs
macro_of long (came broken b) = undefined
macro_of long (came too_long b) = undefined
macro_of long (ended b) = undefined
macro_of long (failed e b) = undefined

abbrev pub macro_given : Meanings → Bool → List Token → Means
macro_given f long ts =
    let more : List Token = behind_name (drive name_feed (on tt) ts (list_stream ts)) in
    macro_of long (drive (definition_feed f) (on (in_text [] 0)) more (list_stream more))

abbrev pub token_meaning : {B : Type 0} → Meanings → Driven Token B → Means
token_meaning f (came t b) = meaning f t
token_meaning f (ended b) = undefined
token_meaning f (failed e b) = undefined

abbrev pub let_given : Meanings → List Token → Means
let_given f ts =
    let more : List Token = behind_name (drive name_feed (on tt) ts (list_stream ts)) in
    token_meaning f (drive (let_feed f) (on BeforeEquals) more (list_stream more))

abbrev pub is_long : List Task → Bool
is_long [] = false
is_long (task.After t ∷ ts) = false
is_long (task.Prefix p ∷ ts) = p.long

abbrev pub primitive_given : Meanings → Bool → List Token → Primitive → Means
primitive_given f long ts Relax = undefined
primitive_given f long ts Par = undefined
primitive_given f long ts Def = macro_given f long ts
primitive_given f long ts Gdef = macro_given f long ts
primitive_given f long ts Let = let_given f ts
primitive_given f long ts Global = undefined
primitive_given f long ts Long = undefined
primitive_given f long ts Catcode = undefined
primitive_given f long ts BeginGroup = undefined
primitive_given f long ts EndGroup = undefined
primitive_given f long ts ExpandAfter = undefined
primitive_given f long ts Ifx = undefined
primitive_given f long ts IfTrue = undefined
primitive_given f long ts IfFalse = undefined
primitive_given f long ts Else = undefined
primitive_given f long ts Fi = undefined

-- by what the first token means
abbrev pub given_by : Meanings → Bool → List Token → Means → Means
given_by f long ts undefined = undefined
given_by f long ts (primitive p) = primitive_given f long ts p
given_by f long ts (character c x) = undefined
given_by f long ts (macro l ps bs) = undefined

abbrev pub step_given : Diary → List Token → Means
step_given d [] = undefined
step_given d (t ∷ ts) = given_by (found_name d) (is_long d.tasks) ts (meaning (found_name d) t)

abbrev pub given : Diary → Call → List Token → Means
given d stepping ts = step_given d ts
given d (inserting ws) ts = undefined
given d (binding sc name xs) ts = macro false [] (bytes_body xs)
given d opening ts = undefined
given d closing ts = undefined

-- what tokens make of the tasks

abbrev pub with_prefix : Prefix → List Task → List Task
with_prefix p [] = task.Prefix p ∷ []
with_prefix p (task.After t ∷ ts) = beyond_waiting ts
with_prefix p (task.Prefix q ∷ ts) = task.Prefix (joint q p) ∷ ts

abbrev pub with_waiting : List Token → List Task → List Task
with_waiting [] ts = ts
with_waiting (t ∷ more) ts = task.After t ∷ ts

abbrev pub primitive_tasks : List Token → List Task → Primitive → List Task
primitive_tasks more ts Relax = beyond_waiting ts
primitive_tasks more ts Par = beyond_waiting ts
primitive_tasks more ts Def = beyond_waiting ts
primitive_tasks more ts Gdef = beyond_waiting ts
primitive_tasks more ts Let = beyond_waiting ts
primitive_tasks more ts Global = with_prefix (record { global = true; long = false }) ts
primitive_tasks more ts Long = with_prefix (record { global = false; long = true }) ts
primitive_tasks more ts Catcode = beyond_waiting ts
primitive_tasks more ts BeginGroup = beyond_waiting ts
primitive_tasks more ts EndGroup = beyond_waiting ts
primitive_tasks more ts ExpandAfter = with_waiting more ts
primitive_tasks more ts Ifx = beyond_waiting ts
primitive_tasks more ts IfTrue = beyond_waiting ts
primitive_tasks more ts IfFalse = beyond_waiting ts
primitive_tasks more ts Else = beyond_waiting ts
primitive_tasks more ts Fi = beyond_waiting ts

abbrev pub tasks_by : List Token → List Task → Means → List Task
tasks_by more ts undefined = beyond_waiting ts
tasks_by more ts (primitive p) = primitive_tasks more ts p
tasks_by more ts (character c x) = beyond_waiting ts
tasks_by more ts (macro l ps bs) = beyond_waiting ts

abbrev pub tasks_working : Diary → List Token → List Task
tasks_working d [] = d.tasks
tasks_working d (t ∷ more) = tasks_by more d.tasks (meaning (found_name d) t)

-- the tasks behind a call that answers Working, and behind a refused one
abbrev pub working : Diary → Call → List Token → List Task
working d stepping ts = tasks_working d ts
working d (inserting ws) ts = d.tasks
working d (binding sc name xs) ts = d.tasks
working d opening ts = d.tasks
working d closing ts = d.tasks

abbrev pub refused : Diary → Call → List Task
refused d stepping = []
refused d (inserting ws) = d.tasks
refused d (binding sc name xs) = d.tasks
refused d opening = d.tasks
refused d closing = d.tasks

-- lines

abbrev pub with_tasks : Diary → List Task → Diary
with_tasks d ts = record { names = d.names; codes = d.codes; tasks = ts }

-- no task is pending behind an assignment
abbrev pub entered : Diary → Scope → Entry → Means → Diary
entered d sc (entry.Name n) m = record { names = lines.written d.names (operation sc n m); codes = d.codes; tasks = [] }
entered d sc (entry.Code x c) m = record { names = d.names; codes = lines.written d.codes (operation sc x c); tasks = [] }

abbrev pub written : Diary → Call → List Token → Result Answer Fault → Diary
written d c ts (Ok (Delivered t)) = d
written d c ts (Ok (Opened k)) = record { names = lines.written d.names open_group; codes = lines.written d.codes open_group; tasks = d.tasks }
written d c ts (Ok (Closed k)) = record { names = lines.written d.names close_group; codes = lines.written d.codes close_group; tasks = d.tasks }
written d c ts (Ok (Assigned sc e)) = entered d sc e (given d c ts)
written d c ts (Ok End) = d
written d c ts (Ok Working) = with_tasks d (working d c ts)
written d c ts (Err f) = with_tasks d (refused d c)

abbrev pub wrote : Diary → Call → Stepped → Diary
wrote d c r = written d c r.read r.answer

abbrev pub kept : State → Diary → List Call → Diary
kept s d [] = d
kept s d (c ∷ cs) = kept (perform s c).state (wrote d c (perform s c)) cs

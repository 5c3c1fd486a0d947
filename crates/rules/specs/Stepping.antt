-- A step: one token is read, and does what it means.
--   character_act   what a character does
--   grouped         a group opened or closed, or refused by the book
--   free            with no task pending
--   prefixed        behind prefixes: explicit spaces and \relax pass, prefixes add up, an assignment runs
--   unexpandable    by the newest task; where a token waits, this one is put back
--   obeyed, ruled   what a primitive does, what a meaning does
--   step            the step
use Rattle.std.specs.Prelude.{ℕ, true, false, cond, List, [], ◌∷◌, Ok, Err, Result}
use Rattle.tokens.specs.declared.token_category.TokenCategory.{TokenCategory}
use Rattle.tokens.specs.declared.token_category.TokenCategory.TheVariants as category
use Rattle.tokens.specs.declared.token.Token.{Token}
use Rattle.tokens.specs.declared.token.Token.TheVariants.{Character}
use Rattle.tokens.specs.declared.answer.GroupKind.TheVariants as group
use Rattle.tokens.specs.declared.answer.Answer.{Answer}
use Rattle.tokens.specs.declared.answer.Answer.TheVariants.{Delivered, Opened, Closed, End, Working}
use Rattle.sources.specs.declared.fault.PileRefusal.TheVariants.{Ended}
use Rattle.book.specs.declared.fault.BookFault.{BookFault}
use Rattle.book.specs.declared.meaning.Primitive.{Primitive}
use Rattle.book.specs.declared.meaning.Primitive.TheVariants.{Relax, Par, Def, Gdef, Let, Global, Long, Catcode, BeginGroup, EndGroup, ExpandAfter, Ifx, IfTrue, IfFalse, Else, Fi}
use Rattle.book.specs.Books.{BookState, open_answer, after_open, close_answer, after_close}
use Rattle.book.specs.Meanings.{Means, undefined, primitive, character, macro}
use Rattle.driving.specs.Streams.{Stream, nothing, broken, token}
use Rattle.rules.specs.declared.refusal.GulletRefusal.TheVariants.{Undefined, BadPrefix}
use Rattle.driving.specs.declared.status.Status.TheVariants.{Normal}
use Rattle.pending.specs.declared.task.Prefix.{Prefix}
use Rattle.pending.specs.declared.task.Task.{Task}
use Rattle.pending.specs.declared.task.Task.TheVariants as task
use Rattle.pending.specs.Underway.{joint}
use Rattle.rules.specs.declared.phases.Assignment.{Assignment}
use Rattle.rules.specs.declared.phases.Assignment.TheVariants as assignment
use Rattle.rules.specs.declared.phases.Act.{Act}
use Rattle.rules.specs.declared.phases.Act.TheVariants as act
use Rattle.rules.specs.Refusals.{read, pile, book, gullet}
use Rattle.rules.specs.Readers.{Reader, reader}
use Rattle.rules.specs.States.{State, state, at, Stepped, ends, refuse, completed, ahead, meanings_of}
use Rattle.rules.specs.Tokens.{meaning, is_explicit_space}
use Rattle.rules.specs.Expanding.{called, expand_after, unless_open, decided, compared, at_else_of, at_fi_of}
use Rattle.rules.specs.Assigning.{assign}

abbrev pub character_act : TokenCategory → ℕ → Act
character_act category.Open x = act.Open group.Brace
character_act category.Close x = act.Close group.Brace
character_act category.Math x = act.Deliver (Character category.Math x)
character_act category.Align x = act.Deliver (Character category.Align x)
character_act category.Parameter x = act.Deliver (Character category.Parameter x)
character_act category.Superscript x = act.Deliver (Character category.Superscript x)
character_act category.Subscript x = act.Deliver (Character category.Subscript x)
character_act category.Space x = act.Deliver (Character category.Space x)
character_act category.Letter x = act.Deliver (Character category.Letter x)
character_act category.Other x = act.Deliver (Character category.Other x)

abbrev pub grouped : State → Reader → Answer → BookState → Result (Unit {0}) BookFault → Stepped
grouped s r a b (Ok _) = ends r a (state r.stands b s.conditionals s.tasks)
grouped s r a b (Err f) = refuse s r Normal (book f)

abbrev pub free : State → Reader → Token → Act → Stepped
free s r t (act.Open k) = grouped s r (Opened k) (after_open k s.book) (open_answer s.book)
free s r t (act.Close k) = grouped s r (Closed k) (after_close k s.book) (close_answer k s.book)
free s r t (act.Prefix p) = ends r Working (state r.stands s.book s.conditionals (task.Prefix p ∷ []))
free s r t (act.Assign a) = assign s r false false a
free s r t act.Pass = ends r (Delivered t) (at s r)
free s r t (act.Deliver u) = ends r (Delivered u) (at s r)

abbrev pub bad_prefix : State → Reader → Stepped
bad_prefix s r = refuse s r Normal (gullet BadPrefix)

-- \long is for definitions only
abbrev pub prefixed_assign : State → Reader → Prefix → Assignment → Stepped
prefixed_assign s r p (assignment.Define g) = assign s r p.global p.long (assignment.Define g)
prefixed_assign s r p assignment.Let = cond p.long (bad_prefix s r) (assign s r p.global p.long assignment.Let)
prefixed_assign s r p assignment.Catcode = cond p.long (bad_prefix s r) (assign s r p.global p.long assignment.Catcode)

abbrev pub prefixed : State → Reader → Token → List Task → Prefix → Act → Stepped
prefixed s r t ts p (act.Open k) = bad_prefix s r
prefixed s r t ts p (act.Close k) = bad_prefix s r
prefixed s r t ts p (act.Prefix q) = ends r Working (state r.stands s.book s.conditionals (task.Prefix (joint p q) ∷ ts))
prefixed s r t ts p (act.Assign a) = prefixed_assign s r p a
prefixed s r t ts p act.Pass = ends r Working (at s r)
prefixed s r t ts p (act.Deliver u) = cond (is_explicit_space t) (ends r Working (at s r)) (bad_prefix s r)

abbrev pub by_task : State → Reader → Token → Act → List Task → Stepped
by_task s r t a [] = free s r t a
by_task s r t a (task.After u ∷ ts) = completed s r s.conditionals (t ∷ [])
by_task s r t a (task.Prefix p ∷ ts) = prefixed s r t ts p a

abbrev pub unexpandable : State → Reader → Token → Act → Stepped
unexpandable s r t a = by_task s r t a s.tasks

abbrev pub obeyed : State → Reader → Token → Primitive → Stepped
obeyed s r t Relax = unexpandable s r t act.Pass
obeyed s r t Par = unexpandable s r t (act.Deliver t)
obeyed s r t Def = unexpandable s r t (act.Assign (assignment.Define false))
obeyed s r t Gdef = unexpandable s r t (act.Assign (assignment.Define true))
obeyed s r t Let = unexpandable s r t (act.Assign assignment.Let)
obeyed s r t Global = unexpandable s r t (act.Prefix (record { global = true; long = false }))
obeyed s r t Long = unexpandable s r t (act.Prefix (record { global = false; long = true }))
obeyed s r t Catcode = unexpandable s r t (act.Assign assignment.Catcode)
obeyed s r t BeginGroup = unexpandable s r t (act.Open group.BeginGroup)
obeyed s r t EndGroup = unexpandable s r t (act.Close group.BeginGroup)
obeyed s r t ExpandAfter = expand_after s r
obeyed s r t Ifx = unless_open s r (compared s r)
obeyed s r t IfTrue = unless_open s r (decided s r true)
obeyed s r t IfFalse = unless_open s r (decided s r false)
obeyed s r t Else = at_else_of s r s.conditionals
obeyed s r t Fi = at_fi_of s r s.conditionals

abbrev pub ruled : State → Reader → Token → Means → Stepped
ruled s r t undefined = refuse s r Normal (gullet Undefined)
ruled s r t (primitive p) = obeyed s r t p
ruled s r t (character c x) = unexpandable s r t (character_act c x)
ruled s r t (macro l ps bs) = called s r l ps bs

abbrev pub at_end : State → Reader → List Task → Stepped
at_end s r [] = ends r End (at s r)
at_end s r (t ∷ ts) = refuse s r Normal (pile Ended)

abbrev pub step_on : State → Stream Reader → Stepped
step_on s (nothing r) = at_end s r s.tasks
step_on s (broken e r) = refuse s r Normal (read e)
step_on s (token t r more) = ruled s r t (meaning (meanings_of s.book) t)

abbrev pub step : State → Stepped
step s = step_on s (ahead s (reader s.stands []))

-- A step from states that are the same as spelled.
--   SameAct   two acts of a token that is not expanded
use Rattle.std.proofs.Common.{◌≡◌, ℕ, true, false, List, [], Ok, Err, Result, refl, subst}
use Rattle.tokens.specs.declared.token_category.TokenCategory.{TokenCategory}
use Rattle.tokens.specs.declared.token_category.TokenCategory.TheVariants as category
use Rattle.tokens.specs.declared.token.Token.{Token}
use Rattle.tokens.specs.declared.answer.GroupKind.{GroupKind}
use Rattle.tokens.specs.declared.answer.GroupKind.TheVariants as group
use Rattle.tokens.specs.declared.answer.Answer.{Answer}
use Rattle.lines.specs.Line.{Categories}
use Rattle.names.specs.Naming.{Spellings}
use Rattle.sources.specs.declared.fault.PileRefusal.TheVariants.{Ended}
use Rattle.book.specs.declared.fault.BookFault.{BookFault}
use Rattle.book.specs.declared.meaning.Primitive.{Primitive}
use Rattle.book.specs.declared.meaning.Primitive.TheVariants.{Relax, Par, Def, Gdef, Let, Global, Long, Catcode, BeginGroup, EndGroup, ExpandAfter, Ifx, IfTrue, IfFalse, Else, Fi}
use Rattle.book.specs.Books.{BookState, after, open_answer, close_answer}
use Rattle.book.specs.Meanings.{Means}
use Rattle.driving.specs.declared.status.Status.TheVariants.{Normal}
use Rattle.driving.specs.Streams.{Stream}
use Rattle.pending.specs.declared.conditional.Part.{Part}
use Rattle.pending.specs.declared.task.Prefix.{Prefix}
use Rattle.pending.specs.declared.task.Task.{Task}
use Rattle.rules.specs.declared.refusal.GulletRefusal.TheVariants.{Undefined, BadPrefix}
use Rattle.rules.specs.declared.phases.Assignment.{Assignment}
use Rattle.rules.specs.declared.phases.Assignment.TheVariants as assignment
use Rattle.rules.specs.declared.phases.Act.{Act}
use Rattle.rules.specs.declared.phases.Act.TheVariants as act
use Rattle.rules.specs.Refusals.{read, pile, book, gullet}
use Rattle.rules.specs.Readers.{Reader, reader, tokens_from}
use Rattle.rules.specs.States.{State, Stepped, categories_of, ahead}
use Rattle.rules.specs.Expanding.{at_else_of, at_fi_of}
use Rattle.rules.specs.Stepping.{character_act, grouped, free, bad_prefix, prefixed_assign, prefixed, by_task, unexpandable, obeyed, ruled, at_end, step_on, step}
use Rattle.alike.specs.Same.{SameToken, same_character, Each, no_more, and, SameAnswer, same_delivered, same_opened, same_closed, same_end, same_working, both_answer}
use Rattle.alike.specs.Laws as law
use Rattle.alike.specs.Laws.{SameMeaning, same_undefined, same_primitive, same_macro, SameTask, same_after, same_prefix, SameState}
use Rattle.alike.proofs.CallsEach.{cond_same, cond_alike}
use Rattle.alike.proofs.Growing.{Both}
use Rattle.alike.proofs.Streams.{SameReader, SameStream, same_nothing, same_broken, fault_left, fault_right, same_token_lem, same_stream}
use Rattle.alike.proofs.Tokens.{meaning_of, same_explicit_space}
use Rattle.alike.proofs.Books.{SameBook, same_open_answer, same_opening, same_close_answer, same_closing}
use Rattle.alike.proofs.Ruling.{SameRest, rest_on, SameStep, halt_left, halt_right, both, read_state, same_refuse, same_at, same_completed, categories_few, same_categories}
use Rattle.alike.proofs.Expanding.{same_decided, same_at_else, same_at_fi, same_unless_open, same_expand_after, same_compared, same_called}
use Rattle.alike.proofs.Recoding.{same_assign}

data SameAct (ms ns : Spellings) : Act → Act → Type 0 where
  same_open_lem : {k : GroupKind} → SameAct ms ns (act.Open k) (act.Open k)
  same_close_lem : {k : GroupKind} → SameAct ms ns (act.Close k) (act.Close k)
  same_prefix_lem : {p : Prefix} → SameAct ms ns (act.Prefix p) (act.Prefix p)
  same_assigned_lem : {a : Assignment} → SameAct ms ns (act.Assign a) (act.Assign a)
  same_pass : SameAct ms ns act.Pass act.Pass
  same_deliver : {t u : Token} → SameToken ms ns t u → SameAct ms ns (act.Deliver t) (act.Deliver u)

character_act_lem : {ms ns : Spellings} (c : TokenCategory) (x : ℕ) → SameAct ms ns (character_act c x) (character_act c x)
character_act_lem category.Open x = same_open_lem
character_act_lem category.Close x = same_close_lem
character_act_lem category.Math x = same_deliver same_character
character_act_lem category.Align x = same_deliver same_character
character_act_lem category.Parameter x = same_deliver same_character
character_act_lem category.Superscript x = same_deliver same_character
character_act_lem category.Subscript x = same_deliver same_character
character_act_lem category.Space x = same_deliver same_character
character_act_lem category.Letter x = same_deliver same_character
character_act_lem category.Other x = same_deliver same_character

module _ {r q : Reader} (g : SameReader r q) {s z : State} (h : SameRest r.stands.names q.stands.names s z) where
  abbrev SameTokens : Token → Token → Type 0
  SameTokens = SameToken r.stands.names q.stands.names

  same_grouped : {a d : Answer} {b c : BookState} (x y : Result (Unit {0}) BookFault) → x ≡ y → SameAnswer r.stands.names q.stands.names a d → SameBook r.stands.names q.stands.names b c
      → SameStep (grouped s r a (after x s.book b) x) (grouped z q d (after y z.book c) y)
  same_grouped {a} {d} {b} {c} x y e n k = subst (λ (v : Result (Unit {0}) BookFault). SameStep (grouped s r a (after x s.book b) x) (grouped z q d (after v z.book c) v)) e (go x)
    where
      go : (x : Result (Unit {0}) BookFault) → SameStep (grouped s r a (after x s.book b) x) (grouped z q d (after x z.book c) x)
      go (Ok u) = both (both_answer n) (read_state g k h.conditionals h.tasks)
      go (Err f) = same_refuse g h Normal (book f)

  same_free : {t u : Token} {a b : Act} → SameTokens t u → SameAct r.stands.names q.stands.names a b → SameStep (free s r t a) (free z q u b)
  same_free c (same_open_lem {k = k}) = same_grouped (open_answer s.book) (open_answer z.book) (same_open_answer g.sound h.book) same_opened (same_opening g.sound h.book k)
  same_free c (same_close_lem {k = k}) = same_grouped (close_answer k s.book) (close_answer k z.book) (same_close_answer g.sound h.book k) same_closed (same_closing g.sound h.book)
  same_free c same_prefix_lem = both (both_answer same_working) (read_state g h.book h.conditionals (and same_prefix no_more))
  same_free c (same_assigned_lem {a = a}) = same_assign g h false false a
  same_free c same_pass = same_at g h (same_delivered c)
  same_free c (same_deliver d) = same_at g h (same_delivered d)

  bad_prefix_lem : SameStep (bad_prefix s r) (bad_prefix z q)
  bad_prefix_lem = same_refuse g h Normal (gullet BadPrefix)

  prefixed_assign_lem : (p : Prefix) (a : Assignment) → SameStep (prefixed_assign s r p a) (prefixed_assign z q p a)
  prefixed_assign_lem p (assignment.Define b) = same_assign g h p.global p.long (assignment.Define b)
  prefixed_assign_lem p assignment.Let = cond_same SameStep p.long bad_prefix_lem (same_assign g h p.global p.long assignment.Let)
  prefixed_assign_lem p assignment.Catcode = cond_same SameStep p.long bad_prefix_lem (same_assign g h p.global p.long assignment.Catcode)

  same_prefixed : {t u : Token} {ts us : List Task} (p : Prefix) {a b : Act} → SameTokens t u → Each (SameTask r.stands.names q.stands.names) ts us → SameAct r.stands.names q.stands.names a b
      → SameStep (prefixed s r t ts p a) (prefixed z q u us p b)
  same_prefixed p c k same_open_lem = bad_prefix_lem
  same_prefixed p c k same_close_lem = bad_prefix_lem
  same_prefixed p c k same_prefix_lem = both (both_answer same_working) (read_state g h.book h.conditionals (and same_prefix k))
  same_prefixed p c k (same_assigned_lem {a = a}) = prefixed_assign_lem p a
  same_prefixed p c k same_pass = same_at g h same_working
  same_prefixed {t} {u} p c k (same_deliver d) = cond_alike SameStep (same_explicit_space c) (same_at g h same_working) bad_prefix_lem

  by_task_lem : {t u : Token} {a b : Act} {ts us : List Task} → SameTokens t u → SameAct r.stands.names q.stands.names a b → Each (SameTask r.stands.names q.stands.names) ts us
      → SameStep (by_task s r t a ts) (by_task z q u b us)
  by_task_lem c d no_more = same_free c d
  by_task_lem c d (and (same_after v) k) = same_completed g h h.conditionals (and c no_more)
  by_task_lem c d (and (same_prefix {p = p}) k) = same_prefixed p c k d

  same_unexpandable : {t u : Token} {a b : Act} → SameTokens t u → SameAct r.stands.names q.stands.names a b → SameStep (unexpandable s r t a) (unexpandable z q u b)
  same_unexpandable c d = by_task_lem c d h.tasks

  at_conditionals : (f j : List Part → Stepped) → ((cs : List Part) → SameStep (f cs) (j cs)) → SameStep (f s.conditionals) (j z.conditionals)
  at_conditionals f j k = subst (λ (cs : List Part). SameStep (f s.conditionals) (j cs)) h.conditionals (k s.conditionals)

  same_obeyed : {t u : Token} (p : Primitive) → SameTokens t u → SameStep (obeyed s r t p) (obeyed z q u p)
  same_obeyed Relax c = same_unexpandable c same_pass
  same_obeyed Par c = same_unexpandable c (same_deliver c)
  same_obeyed Def c = same_unexpandable c (same_assigned_lem {a = assignment.Define false})
  same_obeyed Gdef c = same_unexpandable c (same_assigned_lem {a = assignment.Define true})
  same_obeyed Let c = same_unexpandable c (same_assigned_lem {a = assignment.Let})
  same_obeyed Global c = same_unexpandable c (same_prefix_lem {p = record { global = true; long = false }})
  same_obeyed Long c = same_unexpandable c (same_prefix_lem {p = record { global = false; long = true }})
  same_obeyed Catcode c = same_unexpandable c (same_assigned_lem {a = assignment.Catcode})
  same_obeyed BeginGroup c = same_unexpandable c (same_open_lem {k = group.BeginGroup})
  same_obeyed EndGroup c = same_unexpandable c (same_close_lem {k = group.BeginGroup})
  same_obeyed ExpandAfter c = same_expand_after g h
  same_obeyed Ifx c = same_unless_open g h (same_compared g h)
  same_obeyed IfTrue c = same_unless_open g h (same_decided g h true)
  same_obeyed IfFalse c = same_unless_open g h (same_decided g h false)
  same_obeyed Else c = at_conditionals (at_else_of s r) (at_else_of z q) (same_at_else g h)
  same_obeyed Fi c = at_conditionals (at_fi_of s r) (at_fi_of z q) (same_at_fi g h)

  same_at_end : {ts us : List Task} → Each (SameTask r.stands.names q.stands.names) ts us → SameStep (at_end s r ts) (at_end z q us)
  same_at_end no_more = same_at g h same_end
  same_at_end (and t k) = same_refuse g h Normal (pile Ended)

  same_meant : {t u : Token} {x y : Means} → SameTokens t u → SameMeaning r.stands.names q.stands.names x y → SameStep (ruled s r t x) (ruled z q u y)
  same_meant c same_undefined = same_refuse g h Normal (gullet Undefined)
  same_meant c (same_primitive {p = p}) = same_obeyed p c
  same_meant c (law.same_character {c = d} {x = x}) = same_unexpandable c (character_act_lem d x)
  same_meant c (same_macro {long = long} p b) = same_called g h long p b

step_on_lem : {ms ns : Spellings} {a b : Stream Reader} (s z : State) → SameRest ms ns s z → SameStream ms ns a b → SameStep (step_on s a) (step_on z b)
step_on_lem s z h (same_nothing o g) = same_at_end g (rest_on o h) (rest_on o h).tasks
step_on_lem s z h (same_broken {e = e} o g) = same_refuse g (rest_on o h) Normal (read e)
step_on_lem s z h fault_left = halt_left refl
step_on_lem s z h fault_right = halt_right refl
step_on_lem s z h (same_token_lem o g c k) = let j = rest_on o h in same_meant g j c (meaning_of g.sound s.book.names z.book.names j.book.names c)

pub same_step_lem : (a b : State) → SameState a b → SameStep (step a) (step b)
same_step_lem a b s =
    let w : Both a.stands.names b.stands.names = record { left = s.left; right = s.right } in
    let h : SameRest a.stands.names b.stands.names a b = record { book = record { names = s.names; codes = s.codes; groups = s.groups }; conditionals = s.conditionals; tasks = s.tasks } in
    step_on_lem a b h
    (subst (λ (cs : Categories). SameStream a.stands.names b.stands.names (ahead a (reader a.stands [])) (tokens_from cs (reader b.stands []))) (same_categories h.book)
    (same_stream (categories_of a.book) (categories_few a.book) a.stands b.stands [] [] w s.few.0 s.few.1 s.ahead))

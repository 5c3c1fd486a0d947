-- What a step does.
--   Fits                    what an unexpandable act asks of the meaning that acts so
--   opens, shuts            a group opened or closed, or refused by the book
--   freely, behind_prefix   with no task pending; behind prefixes
--   acts                    what an unexpandable token does, by the newest task
--   obeys, rules            what a primitive does, what a meaning does
--   steps                   the step
use Rattle.std.proofs.Common.{◌≡◌, ℕ, Bool, true, false, cond, not, leb, List, [], ◌∷◌, length, sym, refl, ap, ◌∙◌}
use Rattle.tokens.specs.declared.token_category.TokenCategory.{TokenCategory}
use Rattle.tokens.specs.declared.token_category.TokenCategory.TheVariants as category
use Rattle.tokens.specs.declared.token.Token.{Token}
use Rattle.tokens.specs.declared.answer.GroupKind.{GroupKind}
use Rattle.tokens.specs.declared.answer.GroupKind.TheVariants as group
use Rattle.tokens.specs.declared.answer.Answer.TheVariants.{Opened, Closed, Working}
use Rattle.book.specs.declared.fault.BookFault.TheVariants.{WrongGroup, GroupsFull}
use Rattle.book.specs.declared.meaning.Primitive.{Primitive}
use Rattle.book.specs.declared.meaning.Primitive.TheVariants.{Relax, Par, Def, Gdef, Let, Global, Long, Catcode, BeginGroup, EndGroup, ExpandAfter, Ifx, IfTrue, IfFalse, Else, Fi}
use Rattle.book.specs.Faults.{answered}
use Rattle.book.specs.Meanings.{Means, undefined, primitive, character, macro}
use Rattle.book.specs.Books.{after, opening, closing, is_innermost}
use Rattle.driving.specs.Streams.{Stream, nothing, broken, token}
use Rattle.pending.specs.declared.task.Prefix.{Prefix}
use Rattle.pending.specs.declared.task.Task.{Task}
use Rattle.pending.specs.declared.task.Task.TheVariants as task
use Rattle.pending.specs.Underway.{beyond_waiting}
use Rattle.rules.specs.declared.phases.Assignment.{Assignment}
use Rattle.rules.specs.declared.phases.Assignment.TheVariants as assignment
use Rattle.rules.specs.declared.phases.Act.{Act}
use Rattle.rules.specs.declared.phases.Act.TheVariants as act
use Rattle.rules.specs.Readers.{Reader, reader}
use Rattle.rules.specs.States.{State, Stepped, at, ends, ahead, categories_of, meanings_of}
use Rattle.rules.specs.Tokens.{Meanings, meaning, is_explicit_space}
use Rattle.rules.specs.Assigning.{assign}
use Rattle.rules.specs.Expanding.{decided, compared}
use Rattle.rules.specs.Stepping.{character_act, grouped, free, bad_prefix, prefixed_assign, prefixed, by_task, unexpandable, obeyed, ruled, at_end, step_on, step}
use Rattle.surviving.specs.Diaries.{is_long, tasks_by, with_prefix}
use Rattle.surviving.proofs.Reading.{Accumulates, ahead_accumulates}
use Rattle.surviving.proofs.Leaving.{Steps, Behind, working_is}
use Rattle.surviving.proofs.Assigning.{Gives, assigns}
use Rattle.surviving.proofs.Expanding.{completes, unless_open_lem, waits, calls, decides, compares, turns, closes}

abbrev pub Fits : Meanings → Means → Act → Type 0
Fits f m (act.Open k) = (ts : List Task) → tasks_by [] ts m ≡ beyond_waiting ts
Fits f m (act.Close k) = (ts : List Task) → tasks_by [] ts m ≡ beyond_waiting ts
Fits f m (act.Prefix p) = (ts : List Task) → tasks_by [] ts m ≡ with_prefix p ts
Fits f m (act.Assign a) = ((ts : List Task) → tasks_by [] ts m ≡ beyond_waiting ts) × Gives f m a
Fits f m act.Pass = (ts : List Task) → tasks_by [] ts m ≡ beyond_waiting ts
Fits f m (act.Deliver t) = (ts : List Task) → tasks_by [] ts m ≡ beyond_waiting ts

-- where a token waits, the tasks left are those beyond the waiting ones
waited : (f : Meanings) (m : Means) (a : Act) → Fits f m a → (u : Token) (ts : List Task) → tasks_by [] (task.After u ∷ ts) m ≡ beyond_waiting ts
waited f m (act.Open k) h u ts = h (task.After u ∷ ts)
waited f m (act.Close k) h u ts = h (task.After u ∷ ts)
waited f m (act.Prefix p) h u ts = h (task.After u ∷ ts)
waited f m (act.Assign a) h u ts = h.0 (task.After u ∷ ts)
waited f m act.Pass h u ts = h (task.After u ∷ ts)
waited f m (act.Deliver t) h u ts = h (task.After u ∷ ts)

module _ (s : State) (r : Reader) where
  opens : (k : GroupKind) (z : Bool)
      → Steps s (grouped s r (Opened k) (after (answered z GroupsFull) s.book (opening k s.book)) (answered z GroupsFull))
  opens k true = (refl, refl)
  opens k false = (refl, refl)

  shuts : (k : GroupKind) (z : Bool) → is_innermost k s.book.groups ≡ z
      → Steps s (grouped s r (Closed k) (after (answered (not z) WrongGroup) s.book (closing s.book)) (answered (not z) WrongGroup))
  shuts k true h = (refl, refl, h)
  shuts k false h = (refl, refl)

  module _ {m : Means} (h : Behind s m [] r) (t : Token) where
    -- with no task pending
    freely : (a : Act) → Fits (meanings_of s.book) m a → s.tasks ≡ [] → Steps s (free s r t a)
    freely (act.Open k) f e = opens k (leb 250 (length s.book.groups))
    freely (act.Close k) f e = shuts k (is_innermost k s.book.groups) refl
    freely (act.Prefix p) f e = (refl, sym (working_is h ∙ f s.tasks ∙ ap (with_prefix p) e))
    freely (act.Assign a) f e = assigns s h false false (ap is_long e) a f.1
    freely act.Pass f e = (refl, refl)
    freely (act.Deliver u) f e = (refl, refl)

    -- behind a prefix
    unless_long : (p : Prefix) (does : Stepped) → Steps s does → Steps s (cond p.long (bad_prefix s r) does)
    unless_long p does k = go p.long
      where
        go : (b : Bool) → Steps s (cond b (bad_prefix s r) does)
        go true = (refl, refl)
        go false = k

    assigns_prefixed : (p : Prefix) → is_long s.tasks ≡ p.long → (a : Assignment) → Gives (meanings_of s.book) m a
        → Steps s (prefixed_assign s r p a)
    assigns_prefixed p l (assignment.Define g) gives = assigns s h p.global p.long l (assignment.Define g) gives
    assigns_prefixed p l assignment.Let gives =
        unless_long p (assign s r p.global p.long assignment.Let) (assigns s h p.global p.long l assignment.Let gives)
    assigns_prefixed p l assignment.Catcode gives =
        unless_long p (assign s r p.global p.long assignment.Catcode) (assigns s h p.global p.long l assignment.Catcode gives)

    -- the tasks stay behind what passes
    stays : (p : Prefix) (ts : List Task) → s.tasks ≡ task.Prefix p ∷ ts → ((us : List Task) → tasks_by [] us m ≡ beyond_waiting us)
        → Steps s (ends r Working (at s r))
    stays p ts e f = (refl, sym (working_is h ∙ f s.tasks ∙ ap beyond_waiting e ∙ sym e))

    behind_prefix : (p : Prefix) (ts : List Task) (a : Act) → Fits (meanings_of s.book) m a → s.tasks ≡ task.Prefix p ∷ ts
        → Steps s (prefixed s r t ts p a)
    behind_prefix p ts (act.Open k) f e = (refl, refl)
    behind_prefix p ts (act.Close k) f e = (refl, refl)
    behind_prefix p ts (act.Prefix q) f e = (refl, sym (working_is h ∙ f s.tasks ∙ ap (with_prefix q) e))
    behind_prefix p ts (act.Assign a) f e = assigns_prefixed p (ap is_long e) a f.1
    behind_prefix p ts act.Pass f e = stays p ts e f
    behind_prefix p ts (act.Deliver u) f e = go (is_explicit_space t)
      where
        go : (b : Bool) → Steps s (cond b (ends r Working (at s r)) (bad_prefix s r))
        go true = stays p ts e f
        go false = (refl, refl)

    acts : (a : Act) → Fits (meanings_of s.book) m a → Steps s (unexpandable s r t a)
    acts a f = go s.tasks refl
      where
        go : (ts : List Task) → s.tasks ≡ ts → Steps s (by_task s r t a ts)
        go [] e = freely a f e
        go (task.After u ∷ ts) e =
            completes s h (ap (λ (us : List Task). tasks_by [] us m) e ∙ waited (meanings_of s.book) m a f u ts ∙ ap beyond_waiting (sym e))
            s.conditionals (t ∷ [])
        go (task.Prefix p ∷ ts) e = behind_prefix p ts a f e

  obeys : (t : Token) (p : Primitive) → Behind s (primitive p) [] r → Steps s (obeyed s r t p)
  obeys t Relax h = acts h t act.Pass (λ ts. refl)
  obeys t Par h = acts h t (act.Deliver t) (λ ts. refl)
  obeys t Def h = acts h t (act.Assign (assignment.Define false)) ((λ ts. refl), (λ l more. refl))
  obeys t Gdef h = acts h t (act.Assign (assignment.Define true)) ((λ ts. refl), (λ l more. refl))
  obeys t Let h = acts h t (act.Assign assignment.Let) ((λ ts. refl), (λ l more. refl))
  obeys t Global h = acts h t (act.Prefix (record { global = true; long = false })) (λ ts. refl)
  obeys t Long h = acts h t (act.Prefix (record { global = false; long = true })) (λ ts. refl)
  obeys t Catcode h = acts h t (act.Assign assignment.Catcode) ((λ ts. refl), tt)
  obeys t BeginGroup h = acts h t (act.Open group.BeginGroup) (λ ts. refl)
  obeys t EndGroup h = acts h t (act.Close group.BeginGroup) (λ ts. refl)
  obeys t ExpandAfter h = waits s r h
  obeys t Ifx h = unless_open_lem s r (compared s r) (compares s (λ more. refl) r h)
  obeys t IfTrue h = unless_open_lem s r (decided s r true) (decides s (λ more. refl) r h true)
  obeys t IfFalse h = unless_open_lem s r (decided s r false) (decides s (λ more. refl) r h false)
  obeys t Else h = turns s (λ more. refl) r h s.conditionals
  obeys t Fi h = closes s (λ more. refl) r h s.conditionals

  character_acts : (c : TokenCategory) (x : ℕ) → Fits (meanings_of s.book) (character c x) (character_act c x)
  character_acts category.Open x = λ ts. refl
  character_acts category.Close x = λ ts. refl
  character_acts category.Math x = λ ts. refl
  character_acts category.Align x = λ ts. refl
  character_acts category.Parameter x = λ ts. refl
  character_acts category.Superscript x = λ ts. refl
  character_acts category.Subscript x = λ ts. refl
  character_acts category.Space x = λ ts. refl
  character_acts category.Letter x = λ ts. refl
  character_acts category.Other x = λ ts. refl

  rules : (t : Token) (m : Means) → Behind s m [] r → Steps s (ruled s r t m)
  rules t undefined h = (refl, refl)
  rules t (primitive p) h = obeys t p h
  rules t (character c x) h = acts h t (character_act c x) (character_acts c x)
  rules t (macro l ps bs) h = calls s (λ more. refl) r h l ps bs

  at_end_lem : (ts : List Task) → Steps s (at_end s r ts)
  at_end_lem [] = (refl, refl)
  at_end_lem (t ∷ ts) = (refl, refl)

pub steps : (s : State) → Steps s (step s)
steps s = go (ahead s (reader s.stands [])) (ahead_accumulates (categories_of s.book) (reader s.stands []))
  where
    go : (a : Stream Reader) → Accumulates [] a → Steps s (step_on s a)
    go (nothing r) h = at_end_lem s r s.tasks
    go (broken e r) h = (refl, refl)
    go (token t r a) h = rules s r t (meaning (meanings_of s.book) t) (record { first = t; read = h.0; means = refl })

-- Calls from outside do the same on both sides.
use Rattle.std.proofs.Common.{◌≡◌, ℕ, zero, suc, ◌+◌, ◌-◌, ◌<◌, Bool, true, false, cond, ltb, leb, List, [], ◌∷◌, ◌++◌, length, Some, Ok, Err, Option, Result, sym, refl, subst, arith}
use Rattle.std.specs.List.{slice_get}
use Rattle.std.proofs.lemmas.Bool.{lt-ltb, le-ltb}
use Rattle.tokens.specs.declared.token.Token.{Token}
use Rattle.tokens.specs.declared.token.Token.TheVariants.{Name}
use Rattle.tokens.specs.declared.answer.GroupKind.TheVariants.{Host}
use Rattle.tokens.specs.declared.answer.Scope.{Scope}
use Rattle.tokens.specs.declared.answer.Answer.{Answer}
use Rattle.names.specs.declared.fault.NamesFault.TheVariants.{TooLong}
use Rattle.names.specs.Naming.{Spellings, taken_in, Entered}
use Rattle.sources.specs.declared.fault.ReadRefusal.TheVariants.{Names}
use Rattle.sources.specs.declared.fault.PileRefusal.TheVariants.{NoToken, PutBackFull}
use Rattle.piles.specs.Inserting as piles
use Rattle.piles.specs.Inserting.{known, known_if, known_token, both_of, tokens_of}
use Rattle.book.specs.declared.fault.BookFault.{BookFault}
use Rattle.book.specs.declared.fault.BookFault.TheVariants.{DefinitionTooLong}
use Rattle.book.specs.Books.{BookState, after, open_answer, close_answer}
use Rattle.pending.specs.declared.task.Task.{Task}
use Rattle.rules.specs.declared.refusal.GulletRefusal.TheVariants.{Pending}
use Rattle.rules.specs.Refusals.{Cause, read, pile, book, gullet}
use Rattle.rules.specs.Readers.{position, put}
use Rattle.rules.specs.States.{State, state, Stepped, turned_away}
use Rattle.rules.specs.Calling.{idle_by, insert_by, bytes_body, bind_as, bind_by, bind, group_by, Call, perform}
use Rattle.alike.specs.Same as same
use Rattle.alike.specs.Same.{Spells, SameName, active, alike, SameToken, same_name, same_character, SameWord, Each, no_more, and, SameCall, same_step, same_insert, same_bind, same_open, same_close, SameAnswer, same_opened, same_closed, same_assigned, same_working, both_answer, both_refused}
use Rattle.alike.specs.Laws as law
use Rattle.alike.specs.Laws.{SameBodyWord, SameTask, SameState}
use Rattle.alike.proofs.CallsEach.{each_on, cond_same}
use Rattle.alike.proofs.Names.{spells_place, EnteringBoth, both_known, both_long, full_left, full_right, entering_both}
use Rattle.alike.proofs.Growing.{Both, Onward, items_on, task_on}
use Rattle.alike.proofs.Books.{SameBook, book_on, SameGiven, same_given, words_left, words_right, same_open_answer, same_opening, same_close_answer, same_closing, same_define_answer, same_defining}
use Rattle.alike.proofs.Ruling.{SameStep, halt_left, halt_right, both, stood, same_front, put_few}
use Rattle.alike.proofs.Expanding.{SameOption, same_none, same_some}
use Rattle.alike.proofs.Stepping.{same_step_lem}

-- words

nth_within : (ns : Spellings) (i : ℕ) (s : List ℕ) → slice_get ns i ≡ Some s → i < length ns
nth_within [] i s h = let z : ◌≡◌ {A = ℕ} 0 1 = cc in absurd (omega arith)
nth_within (x ∷ ns) zero s h = omega arith
nth_within (x ∷ ns) (suc i) s h = omega (arith, nth_within ns i s h)

spells_taken : (ns : Spellings) (n : ℕ) (s : List ℕ) → Spells ns n s → n < taken_in ns
spells_taken ns n s h = omega (arith, (spells_place ns n s h).0, nth_within ns (n - 256) s (spells_place ns n s h).1)

module _ {ms ns : Spellings} where
  known_name : {m n : ℕ} → SameName ms ns m n → SameOption (SameToken ms ns) (known ms (Name m)) (known ns (Name n))
  known_name (active {n = n} l) = rw (lt-ltb n (taken_in ms) (omega arith), lt-ltb n (taken_in ns) (omega arith)) (same_some (same_name (active l)))
  known_name {m} {n} (alike s x y) = rw (lt-ltb m (taken_in ms) (spells_taken ms m s x), lt-ltb n (taken_in ns) (spells_taken ns n s y)) (same_some (same_name (alike s x y)))

  known_token_lem : {t u : Token} → SameToken ms ns t u → SameOption (SameToken ms ns) (known ms t) (known ns u)
  known_token_lem (same_name r) = known_name r
  known_token_lem same_character = same_some same_character

  known_word : {v w : ℕ} → SameWord ms ns v w → SameOption (SameToken ms ns) (known_token ms v) (known_token ns w)
  known_word {v} {w} (same.tokens t u e f c) =
      subst (λ (o : Option Token). SameOption (SameToken ms ns) (known_if ms o) (known_token ns w)) (sym e)
      (subst (λ (o : Option Token). SameOption (SameToken ms ns) (known ms t) (known_if ns o)) (sym f) (known_token_lem c))
  known_word {v} (same.no_token e) = subst (λ (o : Option Token). SameOption (SameToken ms ns) (known_if ms o) (known_if ns o)) (sym e) same_none
  known_word {v} (same.unspelled n e l k) =
      subst (λ (o : Option Token). SameOption (SameToken ms ns) (known_if ms o) (known_if ns o)) (sym e)
      (rw (le-ltb n (taken_in ms) l, le-ltb n (taken_in ns) k) same_none)

  both_of_lem : {o p : Option Token} {os ps : Option (List Token)} → SameOption (SameToken ms ns) o p → SameOption (Each (SameToken ms ns)) os ps → SameOption (Each (SameToken ms ns)) (both_of o os) (both_of p ps)
  both_of_lem same_none k = same_none
  both_of_lem (same_some c) same_none = same_none
  both_of_lem (same_some c) (same_some k) = same_some (and c k)

  known_words : {vs ws : List ℕ} → Each (SameWord ms ns) vs ws → SameOption (Each (SameToken ms ns)) (tokens_of ms vs) (tokens_of ns ws)
  known_words no_more = same_some no_more
  known_words (and c k) = both_of_lem (known_word c) (known_words k)

  byte_words : (xs : List ℕ) → Each (SameBodyWord ms ns) (bytes_body xs) (bytes_body xs)
  byte_words [] = no_more
  byte_words (x ∷ xs) = and (law.same_token same_character) (byte_words xs)

module _ {s z : State} (h : SameState s z) where
  abbrev Tokens : List Token → List Token → Type 0
  Tokens = Each (SameToken s.stands.names z.stands.names)

  sound : Both s.stands.names z.stands.names
  sound = record { left = h.left; right = h.right }

  books : SameBook s.stands.names z.stands.names s.book z.book
  books = record { names = h.names; codes = h.codes; groups = h.groups }

  turned_away_lem : (c : Cause) → SameStep (turned_away s c) (turned_away z c)
  turned_away_lem c = both both_refused h

  same_idle : {x y : Stepped} {ts us : List Task} → Each (SameTask s.stands.names z.stands.names) ts us → SameStep x y → SameStep (idle_by s x ts) (idle_by z y us)
  same_idle no_more k = k
  same_idle (and t r) k = turned_away_lem (gullet Pending)

  -- insert

  inserted : {ts us : List Token} → Tokens ts us → (b c : Bool) → leb (length ts + length s.stands.held) 4096 ≡ b → leb (length us + length z.stands.held) 4096 ≡ c
      → SameStep (insert_by s (cond b (piles.put (ts ++ s.stands.held)) (piles.refused PutBackFull))) (insert_by z (cond c (piles.put (us ++ z.stands.held)) (piles.refused PutBackFull)))
  inserted l false c e f = halt_left refl
  inserted l true false e f = halt_right refl
  inserted {ts} {us} l true true e f =
      both (both_answer same_working)
      (stood (put s.stands (ts ++ s.stands.held)) (put z.stands (us ++ z.stands.held)) sound (put_few ts s.stands.held e, put_few us z.stands.held f)
      (same_front s.stands z.stands h.ahead l) books h.conditionals h.tasks)

  insert_by_lem : {o p : Option (List Token)} → SameOption Tokens o p → SameStep (insert_by s (piles.insert_by o s.stands.held)) (insert_by z (piles.insert_by p z.stands.held))
  insert_by_lem same_none = turned_away_lem (pile NoToken)
  insert_by_lem (same_some {x = ts} {y = us} l) = inserted l (leb (length ts + length s.stands.held) 4096) (leb (length us + length z.stands.held) 4096) refl refl

  -- bind

  module _ (sc : Scope) where
    bind_as_lem : {m n : ℕ} {ms ns : Spellings} {b c : BookState} {x y : Result (Unit {0}) BookFault} → SameName ms ns m n
        → SameState (state (position ms s.stands.held s.stands.below) b s.conditionals s.tasks) (state (position ns z.stands.held z.stands.below) c z.conditionals z.tasks)
        → SameGiven x y → SameStep (bind_as s sc m ms (after x s.book b) x) (bind_as z sc n ns (after y z.book c) y)
    bind_as_lem k j (same_given {x = Ok u}) = both (both_answer (same_assigned (same.names k))) j
    bind_as_lem k j (same_given {x = Err f}) = turned_away_lem (book f)
    bind_as_lem k j words_left = halt_left refl
    bind_as_lem k j words_right = halt_right refl

    bind_by_lem : {name : List ℕ} (xs : List ℕ) {d e : Entered} → EnteringBoth s.stands.names z.stands.names name d e → SameStep (bind_by s sc xs d) (bind_by z sc xs e)
    bind_by_lem {name} xs (both_known {os = os} {ps = ps} g j a b x y) =
        let o : Onward s.stands.names z.stands.names os ps = record { first = g; second = j } in
        let w : Both os ps = record { left = a; right = b } in
        bind_as_lem (alike name x y)
        (stood (position os s.stands.held s.stands.below) (position ps z.stands.held z.stands.below) w h.few (items_on o h.ahead)
        (same_defining w (book_on o books) sc (alike name x y) false no_more (byte_words xs)) h.conditionals (each_on (task_on o) h.tasks))
        (same_define_answer w (book_on o books) sc (alike name x y) false no_more (byte_words xs))
    bind_by_lem xs both_long = turned_away_lem (read (Names TooLong))
    bind_by_lem xs full_left = halt_left refl
    bind_by_lem xs full_right = halt_right refl

    same_bind_lem : (name xs : List ℕ) → SameStep (bind s sc name xs) (bind z sc name xs)
    same_bind_lem name xs =
        same_idle h.tasks
        (cond_same SameStep (ltb 32 (length name)) (turned_away_lem (read (Names TooLong)))
        (cond_same SameStep (ltb 2048 (length xs)) (turned_away_lem (book DefinitionTooLong))
        (bind_by_lem xs (entering_both s.stands.names z.stands.names h.left h.right name))))

  -- host groups

  group_by_lem : {a d : Answer} {b c : BookState} (x y : Result (Unit {0}) BookFault) → x ≡ y → SameAnswer s.stands.names z.stands.names a d → SameBook s.stands.names z.stands.names b c
      → SameStep (group_by s a (after x s.book b) x) (group_by z d (after y z.book c) y)
  group_by_lem {a} {d} {b} {c} x y e n k = subst (λ (v : Result (Unit {0}) BookFault). SameStep (group_by s a (after x s.book b) x) (group_by z d (after v z.book c) v)) e (go x)
    where
      go : (x : Result (Unit {0}) BookFault) → SameStep (group_by s a (after x s.book b) x) (group_by z d (after x z.book c) x)
      go (Ok u) = both (both_answer n) (stood s.stands z.stands sound h.few h.ahead k h.conditionals h.tasks)
      go (Err f) = turned_away_lem (book f)

  pub same_perform : {c d : Call} → SameCall s.stands.names z.stands.names c d → SameStep (perform s c) (perform z d)
  same_perform same_step = same_step_lem s z h
  same_perform (same_insert k) = same_idle h.tasks (insert_by_lem (known_words k))
  same_perform (same_bind {sc = sc} {name = name} {xs = xs}) = same_bind_lem sc name xs
  same_perform same_open = same_idle h.tasks (group_by_lem (open_answer s.book) (open_answer z.book) (same_open_answer sound books) same_opened (same_opening sound books Host))
  same_perform same_close = same_idle h.tasks (group_by_lem (close_answer Host s.book) (close_answer Host z.book) (same_close_answer sound books Host) same_closed (same_closing sound books))

-- What calls from outside do.
--   Outside     a call that gives a name this meaning, if any; the tasks behind Working and behind a refusal are those before
--   when_idle   where a task is pending it is refused
--   inserts, binds, opens_host, closes_host  each call
use Rattle.std.proofs.Common.{◌≡◌, ℕ, ◌+◌, Bool, true, false, cond, not, ltb, leb, List, [], ◌∷◌, length, Err, Result, refl}
use Rattle.tokens.specs.declared.stored.BodyWord.{BodyWord}
use Rattle.tokens.specs.declared.answer.GroupKind.TheVariants.{Host}
use Rattle.tokens.specs.declared.answer.Scope.{Scope}
use Rattle.tokens.specs.declared.answer.Answer.TheVariants.{Opened, Closed}
use Rattle.names.specs.declared.fault.NamesFault.TheVariants.{TooLong}
use Rattle.names.specs.Naming.{Spellings, Entered, known, refused, enter}
use Rattle.sources.specs.declared.fault.ReadRefusal.TheVariants.{Names}
use Rattle.piles.specs.Inserting as piles
use Rattle.piles.specs.Inserting.{Put}
use Rattle.tables.specs.Table as table
use Rattle.book.specs.declared.fault.BookFault.{BookFault}
use Rattle.book.specs.declared.fault.BookFault.TheVariants.{WrongGroup, DefinitionTooLong, WordsFull, RecordsFull, GroupsFull}
use Rattle.book.specs.Faults.{answered}
use Rattle.book.specs.Meanings.{Means, undefined, macro}
use Rattle.book.specs.Scopes.{operation}
use Rattle.book.specs.Books as book
use Rattle.book.specs.Books.{after, is_innermost, defining}
use Rattle.pending.specs.declared.task.Task.{Task}
use Rattle.rules.specs.Refusals as refusal
use Rattle.rules.specs.States.{State, Stepped, turned_away}
use Rattle.rules.specs.Calling.{idle_by, idle, insert_by, insert, bytes_body, bind_as, bind_by, bind, group_by, open_host, close_host}
use Rattle.surviving.proofs.Leaving.{Does}

module _ (s : State) where
  abbrev pub Outside : Means → Stepped → Type 0
  Outside m r = Does s (λ ts. m) (λ ts. s.tasks) s.tasks r

  when_idle : (m : Means) (does : Stepped) → (s.tasks ≡ [] → Outside m does) → Outside m (idle s does)
  when_idle m does h = go s.tasks refl
    where
      go : (ts : List Task) → s.tasks ≡ ts → Outside m (idle_by s does ts)
      go [] e = h e
      go (t ∷ ts) e = (refl, refl)

  pub inserts : (ws : List ℕ) → Outside undefined (insert s ws)
  inserts ws = when_idle undefined (insert_by s p) (λ e. go p)
    where
      p : Put
      p = piles.insert s.stands.names ws s.stands.held

      go : (p : Put) → Outside undefined (insert_by s p)
      go (piles.put held) = (refl, refl)
      go (piles.refused e) = (refl, refl)

  pub binds : (sc : Scope) (name xs : List ℕ) → Outside (macro false [] (bytes_body xs)) (bind s sc name xs)
  binds sc name xs = when_idle m _ (λ e. tested e (ltb 32 (length name)) (ltb 2048 (length xs)))
    where
      bs : List BodyWord
      bs = bytes_body xs

      m : Means
      m = macro false [] bs

      answer : Bool → Bool → Bool → Result (Unit {0}) BookFault
      answer x y z = cond x (Err DefinitionTooLong) (cond y (Err WordsFull) (answered z RecordsFull))

      bound : s.tasks ≡ [] → (n : ℕ) (ns : Spellings) (x y z : Bool) → table.refused 2048 s.book.names (operation sc n m) ≡ z
          → Outside m (bind_as s sc n ns (after (answer x y z) s.book (defining (length {A = ℕ} [] + length bs) (operation sc n m) s.book)) (answer x y z))
      bound e n ns true y z h = (refl, refl)
      bound e n ns false true z h = (refl, refl)
      bound e n ns false false true h = (refl, refl)
      bound e n ns false false false h = (record { allowed = h; names = refl; codes = refl; groups = refl }, e)

      entered : s.tasks ≡ [] → (n : Entered) → Outside m (bind_by s sc xs n)
      entered e (known n ns) =
          bound e n ns (ltb 2048 (length {A = ℕ} [] + length bs)) (ltb 16384 (s.book.words + (length {A = ℕ} [] + length bs)))
          (table.refused 2048 s.book.names (operation sc n m)) refl
      entered e (refused f) = (refl, refl)

      tested : s.tasks ≡ [] → (x y : Bool)
          → Outside m
          (cond x (turned_away s (refusal.read (Names TooLong)))
          (cond y (turned_away s (refusal.book DefinitionTooLong)) (bind_by s sc xs (enter s.stands.names name))))
      tested e true y = (refl, refl)
      tested e false true = (refl, refl)
      tested e false false = entered e (enter s.stands.names name)

  pub opens_host : Outside undefined (open_host s)
  opens_host = when_idle undefined _ (λ e. go (leb 250 (length s.book.groups)))
    where
      go : (z : Bool) → Outside undefined (group_by s (Opened Host) (after (answered z GroupsFull) s.book (book.opening Host s.book)) (answered z GroupsFull))
      go true = (refl, refl)
      go false = (refl, refl)

  pub closes_host : Outside undefined (close_host s)
  closes_host = when_idle undefined _ (λ e. go (is_innermost Host s.book.groups) refl)
    where
      go : (z : Bool) → is_innermost Host s.book.groups ≡ z
          → Outside undefined (group_by s (Closed Host) (after (answered (not z) WrongGroup) s.book (book.closing s.book)) (answered (not z) WrongGroup))
      go true h = (refl, refl, h)
      go false h = (refl, refl)

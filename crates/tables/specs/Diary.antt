-- What a table of groups is to tell, said without save records: by a diary from which a closing strikes lines.
--   Line       an opening, a local or a global assignment
--   Diary      its lines, the newest first
--   struck     the newest opening left struck, and with it every local assignment after it
--   written    the diary after one operation
--   diary_of   the diary of operations, in the order of time (diary_from: going on from a diary)
--   survivor   the last assignment to a key that is left, or its first value
use Rattle.std.specs.Prelude.{ℕ, cond, List, [], ◌∷◌, ◌==◌}
use Rattle.tables.specs.Table.{Op, open_group, close_group, assign_locally, assign_globally}

pub data Line (V : Type 0) : Type 0 where
  opening : Line V
  local global : ℕ → V → Line V

abbrev pub Diary : Type 0 → Type 0
Diary V = List (Line V)

module _ {V : Type 0} where
  abbrev pub struck : Diary V → Diary V
  struck [] = []
  struck (opening ∷ d) = d
  struck (local k v ∷ d) = struck d
  struck (global k v ∷ d) = global k v ∷ struck d

  abbrev pub written : Diary V → Op V → Diary V
  written d open_group = opening ∷ d
  written d close_group = struck d
  written d (assign_locally k v) = local k v ∷ d
  written d (assign_globally k v) = global k v ∷ d

  abbrev pub diary_from : Diary V → List (Op V) → Diary V
  diary_from d [] = d
  diary_from d (o ∷ os) = diary_from (written d o) os

  abbrev pub diary_of : List (Op V) → Diary V
  diary_of os = diary_from [] os

  abbrev pub survivor : (ℕ → V) → Diary V → ℕ → V
  survivor first [] k = first k
  survivor first (opening ∷ d) k = survivor first d k
  survivor first (local j v ∷ d) k = cond (k == j) v (survivor first d k)
  survivor first (global j v ∷ d) k = cond (k == j) v (survivor first d k)

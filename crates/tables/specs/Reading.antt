-- A table whose values are read through a function, and what holds of every value in it.
--   read_by   the same table with each value read through f; how each was assigned stays
--   op_by     the same operation with its value read through f
--   Holds     a test holds of every value in a state, present or saved
--   entry_by, saved_by, all_saved, all_in  the same of an entry, a record, the records of a group, all groups
use Rattle.std.specs.Prelude.{◌≡◌, ℕ, Bool, true, ◌&&◌, List, [], ◌∷◌, map}
use Rattle.tables.specs.declared.Entry.{Entry}
use Rattle.tables.specs.declared.Saved.{Saved}
use Rattle.tables.specs.Table.{Groups, State, Op, open_group, close_group, assign_locally, assign_globally}

module _ {V W : Type 0} (f : V → W) where
  abbrev pub entry_by : Entry V → Entry W
  entry_by e = record { value = f e.value; level = e.level }

  abbrev pub saved_by : Saved V → Saved W
  saved_by r = record { key = r.key; entry = entry_by r.entry }

  abbrev pub read_by : State V → State W
  read_by s = record { table = λ k. entry_by (s.table k); groups = map (map saved_by) s.groups }

  abbrev pub op_by : Op V → Op W
  op_by open_group = open_group
  op_by close_group = close_group
  op_by (assign_locally k v) = assign_locally k (f v)
  op_by (assign_globally k v) = assign_globally k (f v)

module _ {V : Type 0} (p : V → Bool) where
  abbrev pub all_saved : List (Saved V) → Bool
  all_saved [] = true
  all_saved (r ∷ rs) = p r.entry.value && all_saved rs

  abbrev pub all_in : Groups V → Bool
  all_in [] = true
  all_in (g ∷ gs) = all_saved g && all_in gs

  abbrev pub Holds : State V → Type 0
  Holds s = ((k : ℕ) → p (s.table k).value ≡ true) × (all_in s.groups ≡ true)

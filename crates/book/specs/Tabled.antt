-- What a grouped table in memory says.
--   state_of   the state of a grouped table
--   size       how many keys it has
--   depth      how many groups are open
--   Becomes    what a change makes of the state, whatever d is
--   IsAsWide   it has as many keys as before, and as many groups are open
use Rattle.std.specs.Prelude.{◌≡◌, ℕ, reverse, vec_items, vec_len}
use Rattle.tables.specs.declared.Entry.{Entry}
use Rattle.tables.specs.Table.{State}
use Rattle.book.specs.declared.grouped.Grouped.{Grouped}
use Rattle.book.specs.Bases.{groups_of}
use Rattle.book.specs.Entried.{table_of, count}

module _ {V : Type 0} where
  abbrev pub state_of : Entry V → Grouped V → State V
  state_of d g = record { table = table_of d g.entries; groups = groups_of (reverse (vec_items g.bases.held)) (vec_items g.saved.held) }

  abbrev pub size : Grouped V → ℕ
  size g = count g.entries

  abbrev pub depth : Grouped V → ℕ
  depth g = vec_len g.bases.held

  abbrev pub Becomes : Grouped V → Grouped V → (State V → State V) → Type 0
  Becomes g h f = (d : Entry V) → state_of d h ≡ f (state_of d g)

  abbrev pub IsAsWide : Grouped V → Grouped V → Type 0
  IsAsWide g h = (size h ≡ size g) × (depth h ≡ depth g)

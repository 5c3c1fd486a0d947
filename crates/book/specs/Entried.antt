-- What the entries of a table's keys say.
--   table_of   what each key holds; beyond the last key an entry d
--   count      how many keys have entries
use Rattle.std.specs.Prelude.{ℕ, vec_items, vec_len, slice_index_or}
use Rattle.tables.specs.declared.Entry.{Entry}
use Rattle.tables.specs.Table.{Table}
use Rattle.book.specs.declared.entries.Entries.{Entries}

module _ {V : Type 0} where
  abbrev pub table_of : Entry V → Entries V → Table V
  table_of d e k = record { value = slice_index_or (vec_items e.values) k d.value; level = slice_index_or (vec_items e.levels) k d.level }

  abbrev pub count : Entries V → ℕ
  count e = vec_len e.values

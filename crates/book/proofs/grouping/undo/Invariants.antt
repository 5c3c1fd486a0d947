use Rattle.std.proofs.Common.{◌≡◌, true, reverse, drop, vec_items}
use Rattle.tables.specs.declared.Entry.{Entry}
use Rattle.tables.specs.Table.{undone}
use Rattle.book.specs.Bases.{keys_below}
use Rattle.book.specs.Entried.{table_of, count}
use Rattle.book.proofs.grouping.undo.Given as goal

-- what is left to undo, undone, is all undone
abbrev pub invariant-loop-old : goal.invariant-loop-old
invariant-loop-old g l =
    let left = l.old-iterator.iter.rest.now in
    (keys_below (count l.fn.entries) left ≡ true)
    × ((d : Entry _) → undone (reverse left) (table_of d l.entries) ≡ undone (reverse (drop l.base (vec_items l.fn.saved))) (table_of d l.fn.entries))
    × (count l.entries ≡ count l.fn.entries)

-- The open conditionals.
--   part_in    the part in which one is
--   parts_of   the parts in which they are, the innermost first
use Rattle.std.specs.Prelude.{ℕ, List, map}
use Rattle.pending.specs.declared.conditional.Part.{Part}
use Rattle.pending.specs.declared.conditional.Conditional.{Conditional}
use Rattle.pending.specs.declared.stack.Stack.{Stack}
use Rattle.pending.specs.Stacked.{items_of}

abbrev pub part_in : Conditional → Part
part_in c = c.part

abbrev pub parts_of : {n : ℕ} → Stack Conditional n → List Part
parts_of s = map part_in (items_of s)

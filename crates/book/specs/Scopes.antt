-- Assignments to a grouped table of 2,048 save records.
--   operation       the operation of an assignment, by its scope
--   record_answer   the answer to an operation: 45 if it needs a record and 2,048 are taken
use Rattle.std.specs.Prelude.{ℕ, Result}
use Rattle.tokens.specs.declared.answer.Scope.{Scope}
use Rattle.tokens.specs.declared.answer.Scope.TheVariants.{Local, Global}
use Rattle.tables.specs.Table.{State, Op, assign_locally, assign_globally, refused}
use Rattle.book.specs.declared.fault.BookFault.{BookFault}
use Rattle.book.specs.declared.fault.BookFault.TheVariants.{RecordsFull}
use Rattle.book.specs.Faults.{answered}

module _ {V : Type 0} where
  abbrev pub operation : Scope → ℕ → V → Op V
  operation Local k v = assign_locally k v
  operation Global k v = assign_globally k v

  abbrev pub record_answer : State V → Op V → Result (Unit {0}) BookFault
  record_answer s o = answered (refused 2048 s o) RecordsFull

use Rattle.std.proofs.Common.{ap, ◌∙◌}
use Rattle.tables.specs.declared.Entry.{Entry}
use Rattle.book.specs.Entried.{table_of}
use Rattle.book.proofs.Stacked.{restored_over}
use Rattle.book.proofs.entries.Entries.restore.Goals as goal

pub returns-then-get-ne0-clause-table : goal.returns-then-get-ne0-clause-table
returns-then-get-ne0-clause-table g c d =
    let level = ap (λ (e : Entry _). e.level) (c.get.ensures d) in
    c.put.ensures.table d ∙ restored_over c.args.old (table_of d c.args.self.now) _ level c.if-get-ne0.true

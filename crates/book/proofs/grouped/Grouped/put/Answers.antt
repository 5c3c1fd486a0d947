use Rattle.book.specs.Tabled.{state_of}
use Rattle.book.proofs.grouped.Grouped.put.Goals as goal

pub returns-clause-state : goal.returns-clause-state
returns-clause-state g c d i = record { table = c.put.ensures.table d i; groups = (state_of d c.args.self.now).groups }

use Rattle.std.proofs.Common.{◌∙◌}
use Rattle.book.proofs.Stacked.{records_of}
use Rattle.book.proofs.grouped.Grouped.records.Goals as goal

pub returns : goal.returns
returns g c d = c.len.ensures ∙ records_of d c.args.self.now

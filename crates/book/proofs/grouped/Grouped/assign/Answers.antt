use Rattle.std.proofs.Common.{sym, ap, ◌∙◌}
use Rattle.tokens.specs.declared.answer.Scope.{Scope}
use Rattle.tables.specs.Table.{tried, refused}
use Rattle.book.specs.declared.fault.BookFault.TheVariants.{RecordsFull}
use Rattle.book.specs.Faults.{answered}
use Rattle.book.specs.Scopes.{operation}
use Rattle.book.specs.Tabled.{state_of}
use Rattle.book.proofs.grouped.Grouped.assign.Goals as goal

pub returns-in-Global : goal.returns-in-Global
returns-in-Global g c = record {
  answer = λ d. ap (λ (s : Scope). answered (refused 2048 (state_of d c.args.self.now) (operation s c.args.key c.args.value)) RecordsFull) (sym c.in-Global.is);
  state = λ d. c.put.ensures.state d ∙ ap (λ (s : Scope). tried 2048 (state_of d c.args.self.now) (operation s c.args.key c.args.value)) (sym c.in-Global.is);
  sizes = c.put.ensures.sizes;
}

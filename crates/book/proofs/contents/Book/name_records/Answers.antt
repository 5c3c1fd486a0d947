use Rattle.std.proofs.Common.{sym, ◌∙◌}
use Rattle.tables.proofs.Reading.{read_records}
use Rattle.book.specs.Beyond.{no_meaning}
use Rattle.book.specs.Said.{read}
use Rattle.book.specs.Tabled.{state_of}
use Rattle.book.proofs.contents.Book.name_records.Goals as goal

pub returns : goal.returns
returns c =
    let b = c.args.self.now in
    c.records.ensures no_meaning ∙ sym (read_records (read b.words) (state_of no_meaning b.names))

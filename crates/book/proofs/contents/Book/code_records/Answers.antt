use Rattle.book.specs.Beyond.{no_category}
use Rattle.book.proofs.contents.Book.code_records.Goals as goal

pub returns : goal.returns
returns c = c.records.ensures no_category

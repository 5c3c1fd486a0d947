use Rattle.book.specs.Beyond.{no_category}
use Rattle.book.proofs.contents.Book.category.Goals as goal

pub returns : goal.returns
returns c = c.value.ensures no_category

use Rattle.book.proofs.contents.Book.words.Goals as goal

pub returns : goal.returns
returns c = c.used.ensures

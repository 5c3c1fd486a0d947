use Rattle.book.specs.Said.{book_of}
use Rattle.rules.specs.States.{meanings_of}
use Rattle.gullet.proofs.draft.Draft.feed.Goals as goal

pub returns-in-HashInText : goal.returns-in-HashInText
returns-in-HashInText c = rw c.in-HashInText.is (c.hash_in_text.ensures (meanings_of (book_of c.args.book.now)))

-- What a book says.
--   read      what its held meanings say, by its words
--   book_of   its state
use Rattle.std.specs.Prelude.{◌+◌, reverse, vec_items, vec_len}
use Rattle.tables.specs.Reading.{read_by}
use Rattle.book.specs.declared.contents.Book.{Book}
use Rattle.book.specs.declared.meaning.Held.{Held}
use Rattle.book.specs.declared.words.Words.{Words}
use Rattle.book.specs.Beyond.{no_meaning, no_category}
use Rattle.book.specs.Books.{BookState}
use Rattle.book.specs.Meanings.{Means, means_of}
use Rattle.book.specs.Tabled.{state_of}

abbrev pub read : Words → Held → Means
read w = means_of (vec_items w.parameters.held) (vec_items w.bodies.held)

abbrev pub book_of : Book → BookState
book_of b = record {
  names = read_by (read b.words) (state_of no_meaning b.names);
  codes = state_of no_category b.codes;
  groups = reverse (vec_items b.kinds.held);
  words = vec_len b.words.parameters.held + vec_len b.words.bodies.held;
}

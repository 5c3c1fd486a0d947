-- What is told of keys beyond a table's end, which no call reaches.
--   no_meaning    undefined, as at first
--   no_category   category 12, as at first
use Rattle.tokens.specs.declared.category.Category.{Category}
use Rattle.tokens.specs.declared.category.Category.TheVariants.{Other}
use Rattle.tables.specs.declared.Entry.{Entry}
use Rattle.book.specs.declared.meaning.Held.{Held}
use Rattle.book.specs.declared.meaning.Held.TheVariants.{Plain}
use Rattle.book.specs.declared.meaning.Plain.TheVariants.{Undefined}

abbrev pub no_meaning : Entry Held
no_meaning = record { value = Plain Undefined; level = 0 }

abbrev pub no_category : Entry Category
no_category = record { value = Other; level = 0 }

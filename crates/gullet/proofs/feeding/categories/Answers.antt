use Rattle.std.proofs.lemmas.List.FromFn.{fill_by_all}
use Rattle.tokens.specs.declared.category.Category.TheVariants.{Other}
use Rattle.book.specs.Said.{book_of}
use Rattle.gullet.proofs.feeding.categories.Goals as goal

pub returns : goal.returns
returns c = fill_by_all (λ k. ((book_of c.args.book.now).codes.table k).value) c.categories.result.now 256 Other c.categories.ensures.count (λ k b. c.categories.ensures.each k Other b)

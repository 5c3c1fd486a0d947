use Rattle.std.proofs.Common.{rules}
use Rattle.std.proofs.lemmas.List.FromFn.{fill_by_all}
use Rattle.tokens.specs.declared.category.Category.TheVariants.{Escape}
use Rattle.tokens.specs.Firsts.{first_category}
use Rattle.tokens.proofs.category.Category.first_table.Goals as goal

pub returns : goal.returns
returns c =
    let items = c.from_fn.ensures.items in
    fill_by_all first_category c.from_fn.result 256 Escape items.long (λ k h. let called = items.at k Escape h in search rules)

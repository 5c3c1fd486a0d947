use Rattle.std.proofs.Common.{vec_items, sym, ◌∙◌}
use Rattle.std.proofs.lemmas.List.{length-reverse}
use Rattle.book.proofs.contents.Book.depth.Goals as goal

pub returns : goal.returns
returns c = c.len.ensures ∙ c.args.self.now.kinds.held.ok.0 ∙ sym (length-reverse (vec_items c.args.self.now.kinds.held))

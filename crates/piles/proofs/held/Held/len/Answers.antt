use Rattle.std.proofs.Common.{vec_items, sym, ◌∙◌}
use Rattle.std.proofs.lemmas.List.{length-reverse}
use Rattle.piles.proofs.held.Held.len.Goals as goal

pub returns : goal.returns
returns c =
    let v = c.args.self.now.tokens.held in
    c.len.ensures ∙ v.ok.0 ∙ sym (length-reverse (vec_items v))

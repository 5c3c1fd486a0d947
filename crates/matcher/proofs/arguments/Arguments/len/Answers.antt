use Rattle.std.proofs.Common.{vec_items, sym, ◌∙◌}
use Rattle.matcher.proofs.Parts.{parts_length}
use Rattle.matcher.proofs.arguments.Arguments.len.Goals as goal

pub returns : goal.returns
returns c =
    let a = c.args.self.now in
    c.len.ensures ∙ a.spans.held.ok.0 ∙ sym (parts_length (vec_items a.gathered.held) (vec_items a.spans.held))

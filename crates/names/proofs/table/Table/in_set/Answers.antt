use Rattle.std.proofs.Common.{◌+◌, sym, ap, ◌∙◌}
use Rattle.std.specs.Option.{option_map}
use Rattle.names.proofs.Entering.{find_place}
use Rattle.names.proofs.table.Table.in_set.Goals as goal

pub returns-in_err-place : goal.returns-in_err-place
returns-in_err-place c =
    c.from_residual.ensures
    ∙ sym (find_place c.args.spelling.now c.args.self.now.entries.keys ∙ ap (option_map (λ i. 256 + i)) (sym c.in_err-place.ensures.index))

pub returns : goal.returns
returns c = sym (find_place c.args.spelling.now c.args.self.now.entries.keys ∙ ap (option_map (λ i. 256 + i)) (sym c.in_ok-place.ensures.index))

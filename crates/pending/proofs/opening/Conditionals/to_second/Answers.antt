use Rattle.std.proofs.Common.{map, reverse, ap, ◌∙◌}
use Rattle.pending.specs.declared.conditional.Conditional.{Conditional}
use Rattle.pending.specs.declared.conditional.Part.TheVariants.{Second}
use Rattle.pending.specs.Opened.{part_in, parts_of}
use Rattle.pending.specs.Stacked.{with_newest}
use Rattle.pending.proofs.Ends.{set_last, refronted_map}
use Rattle.pending.proofs.opening.Conditionals.to_second.Goals as goal

pub returns-clause-parts : goal.returns-clause-parts
returns-clause-parts c =
    let s = c.args.self.now in
    let second : Conditional = record { part = Second } in
    ap (λ p. parts_of (with_newest s (record { part = p }))) c.replace.ensures.after
    ∙ ap (map part_in) (set_last s.held.items second)
    ∙ refronted_map part_in second (reverse s.held.items)

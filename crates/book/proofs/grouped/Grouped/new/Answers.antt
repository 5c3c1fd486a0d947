use Rattle.std.proofs.Common.{reverse, length, vec_items, ap, ◌∙◌}
use Rattle.book.specs.Bases.{groups_of}
use Rattle.book.proofs.grouped.Grouped.new.Goals as goal

pub returns : goal.returns
returns g c =
    let e = c.in_ok-new.ensures in
    let b = c.in_ok-new-3.ensures in (
      λ d l i. record { table = e.0 d l i; groups = groups_of (reverse (b i)) (vec_items c.in_ok-new-2.field-0.held) },
      e.1,
      c.in_ok-new-3.field-0.held.ok.0 ∙ ap length b,
    )

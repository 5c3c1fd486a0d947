use Rattle.std.proofs.Common.{reverse, vec_items, ap, ◌∙◌, arith}
use Rattle.piles.proofs.Reversed.{take_end, nothing_left}
use Rattle.piles.proofs.held.Held.take.Goals as goal

pub returns : goal.returns
returns c =
    let v = c.pop.new.self in
    record {
      items = ap reverse c.pop.ensures.items ∙ take_end (vec_items v) c.pop.result;
      nothing = nothing_left (vec_items v) c.pop.result (λ e. let k = rw e at c.pop.ensures.cases in omega (arith, v.ok.0, k.1));
    }

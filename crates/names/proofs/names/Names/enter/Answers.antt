use Rattle.std.proofs.Common.{length, take, ap, ◌∙◌, arith}
use Rattle.names.specs.Spelled.{held}
use Rattle.names.proofs.Finding.{names_grow, front_kept}
use Rattle.names.proofs.Entering.{held_long}
use Rattle.names.proofs.names.Names.enter.Goals as goal

pub invariant_of-self : goal.invariant_of-self
invariant_of-self c =
    let n = c.args.self.now in
    let s = c.args.spelling.now in
    let t = c.enter.new.self in
    let after = c.enter.ensures.names in record {
      enough = omega (arith, n.enough, held_long n.table, held_long t, ap length after, names_grow (held n.table) s);
      first = ap (take 16) after ∙ front_kept (held n.table) s 16 (omega (arith, n.enough, held_long n.table)) ∙ n.first;
    }

use Rattle.std.proofs.Common.{◌≡◌, ℕ, List, [], map, length, take, ap, ◌∙◌, arith, Bor}
use Rattle.names.specs.declared.table.Table.{Table}
use Rattle.names.specs.Naming.{first_names, enter_all}
use Rattle.names.specs.Spelled.{held}
use Rattle.names.proofs.Entering.{held_long}
use Rattle.names.proofs.names.Names.new.Goals as goal

-- the sixteen are all entered
all_entered : (t u : Table) (rs : List (Bor (List ℕ))) → held t ≡ [] → map (λ x. x.now) rs ≡ first_names → held u ≡ enter_all (held t) (map (λ x. x.now) rs) → held u ≡ first_names
all_entered t u rs none its all = all ∙ ap (λ ns. enter_all ns (map (λ x. x.now) rs)) none ∙ ap (enter_all []) its

pub invariant_of-result : goal.invariant_of-result
invariant_of-result c =
    let t = c.enter_all.new.self in
    let e = all_entered c.in_ok-table.table t _ c.in_ok-table.ensures.made c.primitives.ensures c.enter_all.ensures in
    record { enough = omega (arith, ap length e, held_long t); first = ap (take 16) e }

pub returns : goal.returns
returns c = record { made = all_entered c.in_ok-table.table c.enter_all.new.self _ c.in_ok-table.ensures.made c.primitives.ensures c.enter_all.ensures }

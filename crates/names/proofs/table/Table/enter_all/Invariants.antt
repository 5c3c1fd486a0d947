use Rattle.std.proofs.Common.{◌≡◌, map, drop}
use Rattle.names.specs.Naming.{enter_all}
use Rattle.names.specs.Spelled.{held}
use Rattle.names.proofs.table.Table.enter_all.Given as goal

abbrev pub invariant-loop-spelling : goal.invariant-loop-spelling
invariant-loop-spelling l = enter_all (held l.self) (map (λ x. x.now) (drop l.spelling-index l.spellings)) ≡ enter_all (held l.initial.self) (map (λ x. x.now) l.spellings)

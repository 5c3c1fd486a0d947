-- What is known of all names, over the spellings that they list.
use Rattle.std.proofs.Common.{◌≡◌, ◌≤◌, length, take, arith}
use Rattle.names.specs.declared.names.Names.{Names}
use Rattle.names.specs.Naming.{Distinct, first_names}
use Rattle.names.specs.Spelled.{listed}
use Rattle.names.proofs.Entering.{held_long}

pub listed_few : (n : Names) → length (listed n) ≤ 768
listed_few n = omega (arith, n.table.few, held_long n.table)

pub listed_enough : (n : Names) → 16 ≤ length (listed n)
listed_enough n = omega (arith, n.enough, held_long n.table)

pub listed_first : (n : Names) → take 16 (listed n) ≡ first_names
listed_first n = n.first

pub listed_distinct : (n : Names) → Distinct (listed n)
listed_distinct n = n.table.distinct

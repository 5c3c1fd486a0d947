use Rattle.std.proofs.Common.{arith}
use Rattle.std.proofs.lemmas.Grind.{common_steps}
use Rattle.matching.proofs.Depths.{deeper_none}
use Rattle.matcher.proofs.groups.deeper.Goals as goal

pub returns-in_err-depth : goal.returns-in_err-depth
returns-in_err-depth c = grind (arith, common_steps, deeper_none)

use Rattle.surviving.proofs.laws.survival_stands.Goals as goal
use Rattle.surviving.proofs.Surviving.{survives}

pub returns-clause-law : goal.returns-clause-law
returns-clause-law c = survives

use Rattle.alike.proofs.laws.likeness_stands.Goals as goal
use Rattle.alike.proofs.Agreeing.{answers_alike}

pub returns-clause-law : goal.returns-clause-law
returns-clause-law c = answers_alike

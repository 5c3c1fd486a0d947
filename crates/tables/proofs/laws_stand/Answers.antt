use Rattle.tables.proofs.laws_stand.Goals as goal
use Rattle.tables.proofs.Laws.{survives, leaves_no_trace}

pub returns-clause-laws : goal.returns-clause-laws
returns-clause-laws g c = (survives _, leaves_no_trace _)

use Rattle.knowledge.proofs.Verdicts.{verdict}
use Rattle.knowledge.proofs.goals_are_settled.Goals as goal

pub returns : goal.returns
returns c = verdict

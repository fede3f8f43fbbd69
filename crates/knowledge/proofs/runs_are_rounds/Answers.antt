use Rattle.knowledge.proofs.RunsAndRounds.{runs_are_rounds}
use Rattle.knowledge.proofs.runs_are_rounds.Goals as goal

pub returns : goal.returns
returns c = runs_are_rounds

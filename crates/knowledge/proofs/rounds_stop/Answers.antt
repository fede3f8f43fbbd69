use Rattle.knowledge.proofs.Stops.{rounds_stop}
use Rattle.knowledge.proofs.rounds_stop.Goals as goal

pub returns : goal.returns
returns c = rounds_stop

use Rattle.knowledge.proofs.Counts.{different_counts}
use Rattle.knowledge.proofs.Few.{rounds_are_few}
use Rattle.knowledge.proofs.rounds_are_few.Goals as goal

pub returns : goal.returns
returns c = record { few = rounds_are_few; counted = different_counts }

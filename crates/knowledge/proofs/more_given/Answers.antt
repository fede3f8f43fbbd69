use Rattle.knowledge.proofs.Steps.{more_given}
use Rattle.knowledge.proofs.more_given.Goals as goal

pub returns : goal.returns
returns c = more_given

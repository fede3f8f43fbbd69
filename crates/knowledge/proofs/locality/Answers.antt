use Rattle.knowledge.proofs.Local.{locality}
use Rattle.knowledge.proofs.locality.Goals as goal

pub returns : goal.returns
returns c = locality

use Rattle.knowledge.proofs.Laws.{piled}
use Rattle.knowledge.proofs.piles_hold.Goals as goal

pub returns : goal.returns
returns c = piled

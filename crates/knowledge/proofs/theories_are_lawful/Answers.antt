use Rattle.knowledge.proofs.Laws.{lawful_theories}
use Rattle.knowledge.proofs.theories_are_lawful.Goals as goal

pub returns : goal.returns
returns c = lawful_theories

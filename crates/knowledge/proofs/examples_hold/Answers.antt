use Rattle.knowledge.proofs.Examples.{examples}
use Rattle.knowledge.proofs.examples_hold.Goals as goal

pub returns : goal.returns
returns c = examples

use Rattle.cases.proofs.Holds.{terms_proper}
use Rattle.cases.proofs.theorems.terms_proper.Goals as goal

pub returns : goal.returns
returns c = terms_proper

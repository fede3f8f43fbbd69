use Rattle.cases.proofs.Holds.{terms_differ}
use Rattle.cases.proofs.theorems.terms_differ.Goals as goal

pub returns : goal.returns
returns c = terms_differ

use Rattle.cases.proofs.Holds.{cases_keep}
use Rattle.cases.proofs.theorems.cases_keep.Goals as goal

pub returns : goal.returns
returns c = cases_keep

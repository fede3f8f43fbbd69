use Rattle.cases.proofs.Holds.{cases_cover}
use Rattle.cases.proofs.theorems.cases_cover.Goals as goal

pub returns : goal.returns
returns c = cases_cover

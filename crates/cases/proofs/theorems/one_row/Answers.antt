use Rattle.cases.proofs.Holds.{one_row}
use Rattle.cases.proofs.theorems.one_row.Goals as goal

pub returns : goal.returns
returns c = one_row

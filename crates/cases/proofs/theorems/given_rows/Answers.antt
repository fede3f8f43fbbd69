use Rattle.cases.proofs.Holds.{given_rows}
use Rattle.cases.proofs.theorems.given_rows.Goals as goal

pub returns : goal.returns
returns c = given_rows

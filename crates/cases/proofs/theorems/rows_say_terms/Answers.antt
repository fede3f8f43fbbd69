use Rattle.cases.proofs.Holds.{rows_say_terms}
use Rattle.cases.proofs.theorems.rows_say_terms.Goals as goal

pub returns : goal.returns
returns c = rows_say_terms

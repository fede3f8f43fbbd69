use Rattle.theories.proofs.InRows.{takings_in_rows}
use Rattle.theories.proofs.theorems.takings_in_rows.Goals as goal

pub returns : goal.returns
returns c = takings_in_rows

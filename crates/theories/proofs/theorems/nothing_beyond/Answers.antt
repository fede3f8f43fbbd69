use Rattle.theories.proofs.InRows.{nothing_beyond}
use Rattle.theories.proofs.theorems.nothing_beyond.Goals as goal

pub returns : goal.returns
returns c = nothing_beyond

use Rattle.cases.proofs.Sound.{sound_rows}
use Rattle.cases.proofs.theorems.sound_rows.Goals as goal

pub returns : goal.returns
returns c = sound_rows

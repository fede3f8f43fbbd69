use Rattle.std.proofs.Common.{length}
use Rattle.casefile.proofs.Texts.{ReadTo}
use Rattle.casefile.proofs.text.check_lines.Given as goal

abbrev pub invariant-loop-rest : goal.invariant-loop-rest
invariant-loop-rest l = ReadTo l.text l.rest l.held

abbrev pub decreases-loop-rest : goal.decreases-loop-rest
decreases-loop-rest l = length l.rest

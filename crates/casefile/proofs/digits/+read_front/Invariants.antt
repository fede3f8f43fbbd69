use Rattle.std.proofs.Common.{length}
use Rattle.casefile.proofs.digits.+read_front.Given as goal

abbrev pub decreases-read-front : goal.decreases-read-front
decreases-read-front l = length l.text.now

use Rattle.std.proofs.Common.{length}
use Rattle.casefile.proofs.digits.+put_front.Given as goal

abbrev pub decreases-put_front : goal.decreases-put_front
decreases-put_front l = length l.out.now

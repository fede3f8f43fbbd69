use Rattle.std.proofs.Common.{refl, arith}
use Rattle.casefile.specs.Fields.{digit}
use Rattle.casefile.proofs.Columns.{one_more}
use Rattle.casefile.proofs.digits.read_columns.Goals as goal

pub returns : goal.returns
returns c = one_more digit _ _ _ _ (λ n. refl) (omega arith) c.in_ok-above.ensures _ c.last.ensures

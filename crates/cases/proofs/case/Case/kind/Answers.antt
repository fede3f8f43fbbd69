use Rattle.std.proofs.Common.{rules}
use Rattle.cases.proofs.Holds.{kind_said}
use Rattle.cases.proofs.case.Case.kind.Goals as goal

pub returns : goal.returns
returns c = let said = kind_said c.args.self.now c.args.number in search rules

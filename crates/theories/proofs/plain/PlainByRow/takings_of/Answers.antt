use Rattle.std.proofs.Common.{arith}
use Rattle.std.proofs.lemmas.Bool.Decides.{nat_tests}
use Rattle.theories.proofs.Steps.{plain_read}
use Rattle.theories.proofs.plain.PlainByRow.takings_of.Goals as goal

pub returns-in-Pair : goal.returns-in-Pair
returns-in-Pair c = λ n e. let read = plain_read c.args._case.now n _ e in grind (arith, nat_tests)

pub returns-in-Cipher : goal.returns-in-Cipher
returns-in-Cipher c = λ n e. let read = plain_read c.args._case.now n _ e in grind (arith, nat_tests)

pub returns-in_default : goal.returns-in_default
returns-in_default c = λ n e. let read = plain_read c.args._case.now n _ e in grind (arith, nat_tests)

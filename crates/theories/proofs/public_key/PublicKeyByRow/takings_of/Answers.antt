use Rattle.std.proofs.Common.{arith}
use Rattle.std.proofs.lemmas.Bool.Decides.{nat_tests}
use Rattle.theories.proofs.Steps.{public_key_read}
use Rattle.theories.proofs.public_key.PublicKeyByRow.takings_of.Goals as goal

pub returns-in_default : goal.returns-in_default
returns-in_default c = λ n e. let read = public_key_read c.args.case.now n _ e in grind (arith, nat_tests)

pub returns-in_default-2 : goal.returns-in_default-2
returns-in_default-2 c = λ n e. let read = public_key_read c.args.case.now n _ e in grind (arith, nat_tests)

pub returns-in-PublicKey : goal.returns-in-PublicKey
returns-in-PublicKey c = λ n e. let read = public_key_read c.args.case.now n _ e in grind (arith, nat_tests)

pub returns-in_default-from : goal.returns-in_default-from
returns-in_default-from c = λ n e. let read = public_key_read c.args.case.now n _ e in grind (arith, nat_tests)

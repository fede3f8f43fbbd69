use Rattle.std.proofs.Common.{arith}
use Rattle.std.proofs.lemmas.Bool.Decides.{nat_tests}
use Rattle.theories.proofs.Steps.{reply_read}
use Rattle.theories.proofs.reply.ReplyByRow.takings_of.Goals as goal

pub returns-in-Reply : goal.returns-in-Reply
returns-in-Reply c = λ n e. let read = reply_read c.args._case.now n _ e in grind (arith, nat_tests)

pub returns-in_default : goal.returns-in_default
returns-in_default c = λ n e. let read = reply_read c.args._case.now n _ e in grind (arith, nat_tests)

use Rattle.std.proofs.Common.{rules}
use Rattle.casefile.proofs.Readings.{is_line, field_fails, reads_only}
use Rattle.casefile.proofs.line.read_line.Goals as goal

pub returns-in_err-line-clause-only : goal.returns-in_err-line-clause-only
returns-in_err-line-clause-only c = reads_only c.args.text.now _ (search rules)

pub returns-in_err-record-clause-answer : goal.returns-in_err-record-clause-answer
returns-in_err-record-clause-answer c = search (rules, field_fails)

pub returns-in_err-record-clause-only : goal.returns-in_err-record-clause-only
returns-in_err-record-clause-only c = reads_only c.args.text.now _ (search (rules, field_fails))

pub returns-clause-answer : goal.returns-clause-answer
returns-clause-answer c = search (rules, is_line)

pub returns-clause-only : goal.returns-clause-only
returns-clause-only c = reads_only c.args.text.now _ (search (rules, is_line))

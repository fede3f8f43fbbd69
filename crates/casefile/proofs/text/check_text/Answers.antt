use Rattle.std.proofs.Common.{rules}
use Rattle.casefile.proofs.Exact.{checked_only}
use Rattle.casefile.proofs.text.check_text.Goals as goal

pub returns-then-text-gt-LIMIT-clause-only : goal.returns-then-text-gt-LIMIT-clause-only
returns-then-text-gt-LIMIT-clause-only c = checked_only c.args.text.now _ (search rules)

pub returns-clause-only : goal.returns-clause-only
returns-clause-only c = checked_only c.args.text.now _ c.check_lines.ensures

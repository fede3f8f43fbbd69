use Rattle.knowledge.proofs.TableOfKinds.{table}
use Rattle.knowledge.proofs.table_of_kinds.Goals as goal

pub returns : goal.returns
returns c = table

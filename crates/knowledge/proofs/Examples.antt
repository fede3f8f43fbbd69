-- The examples, each by working out the verdict.
use Rattle.std.proofs.Common.{ℕ, List, refl}
use Rattle.std.proofs.Math.Decide.{ℕ_discrete}
use Rattle.knowledge.specs.Terms.{Term}
use Rattle.knowledge.specs.Kinds.{standard}
use Rattle.knowledge.specs.Examples.{Denied, Granted, Examples}
use Rattle.knowledge.proofs.Laws.{standard_lawful}
use Rattle.knowledge.proofs.Verdicts.{verdict, Grants, Denies, granted, denied}

grants : (given : List Term) (goal : Term) (n : ℕ) → Grants (verdict standard standard_lawful given goal) n → Granted given goal n
grants given goal n = granted (verdict standard standard_lawful given goal) n

denies : (given : List Term) (goal : Term) → Denies (verdict standard standard_lawful given goal) → Denied given goal
denies given goal = denied (verdict standard standard_lawful given goal)

pub examples : Examples
unfolding ℕ_discrete
examples = record {
  cipher_alone = denies _ _ tt;
  cipher_and_key = grants _ _ 1 refl;
  cipher_and_hashed = grants _ _ 2 refl;
  sealed_and_public_key = denies _ _ tt;
  sealed_under_atom = denies _ _ tt;
  signature_alone = denies _ _ tt;
  reply_alone = denies _ _ tt;
  sealed_alone = denies _ _ tt;
  sealed_and_reply = grants _ _ 2 refl;
}

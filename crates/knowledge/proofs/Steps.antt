-- Steps and rounds keep what was known, and more known terms lead no less far.
use Rattle.std.proofs.Common.{◌≡◌, ℕ, zero, suc, ◌≤◌, List, Some, inl, inr}
use Rattle.std.proofs.Math.Decide.{le_ind}
use Rattle.knowledge.specs.Terms.{Term, parts, ◌∈◌}
use Rattle.knowledge.specs.Meanings.{Meaning}
use Rattle.knowledge.specs.Rounds.{Built, Taken, Leads, Scope, Allowed, Round}
use Rattle.knowledge.specs.Theorems.{MoreGiven}

-- a step's premises may be known in another way
module _ (m : Meaning) (Known More : Term → Type 0) (t : Term) where
  pub built_again : (b : Built m Known t) → ((p : Term) → p ∈ parts t → More p) → Built m More t
  built_again b known = record { can = b.can; known = known }

  pub taken_again : (k : Taken m Known t) → More k.main → ((s : Term) → k.taking.side ≡ Some s → More s) → Taken m More t
  taken_again k known beside = record {
    main = k.main;
    taking = k.taking;
    of_main = k.of_main;
    gives = k.gives;
    known = known;
    beside = beside;
  }

  pub leads_more : ((u : Term) → Known u → More u) → Leads m Known t → Leads m More t
  leads_more more (inl b) = inl (built_again b (λ p i. more p (b.known p i)))
  leads_more more (inr k) = inr (taken_again k (more k.main k.known) (λ s e. more s (k.beside s e)))

-- a round holds no less if no fewer terms count and no fewer are given
module _ (m : Meaning) (s r : Scope) (given more : List Term) where
  pub rounds_more : ((t : Term) → Allowed s t → Allowed r t) → ((t : Term) → t ∈ given → t ∈ more)
      → (n : ℕ) (t : Term) → Round m s given n t → Round m r more n t
  rounds_more lets adds zero t i = adds t i
  rounds_more lets adds (suc n) t (inl h) = inl (rounds_more lets adds n t h)
  rounds_more lets adds (suc n) t (inr (a, l)) = inr (lets t a, leads_more m (Round m s given n) (Round m r more n) t (rounds_more lets adds n) l)

pub more_given : MoreGiven
more_given m s given more adds = rounds_more m s s given more (λ t a. a) adds

pub given_stays : (m : Meaning) (s : Scope) (given : List Term) (n : ℕ) (t : Term) → t ∈ given → Round m s given n t
given_stays m s given zero t i = i
given_stays m s given (suc n) t i = inl (given_stays m s given n t i)

-- what a round holds, later ones hold
pub round_on : (m : Meaning) (s : Scope) (given : List Term) (n k : ℕ) → n ≤ k → (t : Term) → Round m s given n t → Round m s given k t
round_on m s given n k le t h = le_ind (λ j. Round m s given j t) h (λ j l below. inl below) k le

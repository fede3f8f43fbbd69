-- What one step leads to, and what n rounds of steps hold.
use Rattle.std.specs.Prelude.{◌≡◌, ℕ, zero, suc, ◌<◌, Bool, true, ◌⊎◌, List, Some}
use Rattle.knowledge.specs.Terms.{Term, parts, ◌∈◌}
use Rattle.knowledge.specs.Meanings.{Taking, Meaning}

-- a term is built: it can be, and all its parts are known
pub record Built (m : Meaning) (Known : Term → Type 0) (t : Term) : Type 0 where
  pub can : m.builds t ≡ true
  pub known : (p : Term) → p ∈ parts t → Known p

-- a term is taken: it is the result of a taking whose main term is known, and its side if it has one
pub record Taken (m : Meaning) (Known : Term → Type 0) (t : Term) : Type 0 where
  pub main : Term
  pub taking : Taking
  pub of_main : taking ∈ m.takings main
  pub gives : taking.result ≡ t
  pub known : Known main
  pub beside : (s : Term) → taking.side ≡ Some s → Known s

-- one step leads from known terms to a term
abbrev pub Leads : Meaning → (Term → Type 0) → Term → Type 0
Leads m Known t = Built m Known t ⊎ Taken m Known t

-- which terms count: all there are, those that pass a test, or those of a list
pub data Scope : Type 0 where
  everywhere : Scope
  passing : (Term → Bool) → Scope
  within : List Term → Scope

-- a term counts
abbrev pub Allowed : Scope → Term → Type 0
Allowed everywhere t = Unit {0}
Allowed (passing test) t = test t ≡ true
Allowed (within terms) t = t ∈ terms

-- g of what is known: that, together with every term that counts and that one step leads to from it
abbrev pub g : Meaning → Scope → (Term → Type 0) → Term → Type 0
g m s Known t = Known t ⊎ (Allowed s t × Leads m Known t)

-- round n holds what g, applied n times, makes of the given terms
abbrev pub Round : Meaning → Scope → List Term → ℕ → Term → Type 0
Round m s given zero t = t ∈ given
Round m s given (suc n) t = g m s (Round m s given n) t

-- the smallest number of which P holds
pub record Least (P : ℕ → Type 0) (n : ℕ) : Type 0 where
  pub holds : P n
  pub none : (k : ℕ) → k < n → ¬ (P k)

-- the smallest round that holds a term
abbrev pub SmallestRound : Meaning → Scope → List Term → Term → ℕ → Type 0
SmallestRound m s given t n = Least (λ k. Round m s given k t) n

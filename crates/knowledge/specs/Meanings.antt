-- What a theory means: which terms it takes apart and puts together.
use Rattle.std.specs.Prelude.{◌≡◌, ℕ, ◌≤◌, Bool, false, cond, ◌||◌, List, [], length, Some, Option}
use Rattle.knowledge.specs.Terms.{Term, atom, kind, parts, ◌∈◌, Inside}

-- a taking of a main term: what has to be known beside it, if anything, and what it gives
pub record Taking : Type 0 where
  pub side : Option Term
  pub result : Term

-- the kinds a theory owns, whether a term can be built, and a term's takings in their order
pub record Meaning : Type 0 where
  pub owns : ℕ → Bool
  pub builds : Term → Bool
  pub takings : Term → List Taking

-- a term has no step: it cannot be built and nothing is taken from it
pub record NoStep (m : Meaning) (t : Term) : Type 0 where
  pub unbuilt : m.builds t ≡ false
  pub untaken : m.takings t ≡ []

-- what every theory keeps
pub record Lawful (m : Meaning) : Type 0 where
  -- a term has at most two takings
  pub few : (t : Term) → length (m.takings t) ≤ 2
  -- an atom has no step
  pub atoms : (label : ℕ) → NoStep m (atom label)
  -- a result is a part of the main term
  pub results : (t : Term) (k : Taking) → k ∈ m.takings t → k.result ∈ parts t
  -- a side is inside the main term
  pub sides : (t : Term) (k : Taking) (s : Term) → k ∈ m.takings t → k.side ≡ Some s → Inside s t
  -- a term of a kind that is not owned has no step
  pub foreign : (t : Term) → m.owns (kind t) ≡ false → NoStep m t

-- an upper theory over a lower one: kinds that the upper owns get its steps, all others the lower's
abbrev pub pile : Meaning → Meaning → Meaning
pile upper lower = record {
  owns = λ k. upper.owns k || lower.owns k;
  builds = λ t. cond (upper.owns (kind t)) (upper.builds t) (lower.builds t);
  takings = λ t. cond (upper.owns (kind t)) (upper.takings t) (lower.takings t);
}

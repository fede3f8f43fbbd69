-- What holds of every theory that keeps the laws.
use Rattle.std.specs.Prelude.{◌≡◌, ℕ, suc, ◌<◌, ◌≤◌, true, false, ◌⊎◌, ◌↔◌, List, [], ◌∷◌, length}
use Rattle.knowledge.specs.Terms.{Term, kind, parts, ◌∈◌}
use Rattle.knowledge.specs.Meanings.{Meaning, Lawful, pile}
use Rattle.knowledge.specs.Rounds.{Scope, everywhere, within, Allowed, Round, SmallestRound}
use Rattle.knowledge.specs.Runs.{Reachable}
use Rattle.knowledge.specs.Kinds.{plain, public_keys, replies}

-- some run reaches a term exactly when some round holds it
abbrev pub RunsAreRounds : Type 0
RunsAreRounds = (m : Meaning) (given : List Term) (t : Term) → Reachable m given t ↔ ((n : ℕ) × Round m everywhere given n t)

-- the list is closed under parts, and the given terms are in it
pub record Covers (terms given : List Term) : Type 0 where
  pub parts_too : (t p : Term) → t ∈ terms → p ∈ parts t → p ∈ terms
  pub given_too : (t : Term) → t ∈ given → t ∈ terms

-- all terms of the list count
abbrev pub Includes : Scope → List Term → Type 0
Includes s terms = (t : Term) → t ∈ terms → Allowed s t

-- whatever else counts, be it all terms there are, each round holds the same terms of such a list as if only the list counted
abbrev pub Locality : Type 0
Locality = (m : Meaning) → Lawful m → (given terms : List Term) → Covers terms given → (s : Scope) → Includes s terms
    → (n : ℕ) (t : Term) → t ∈ terms → Round m s given n t ↔ Round m (within terms) given n t

-- the round after n adds no term of the list
abbrev pub AddsNone : Meaning → Scope → List Term → List Term → ℕ → Type 0
AddsNone m s given terms n = (t : Term) → t ∈ terms → Round m s given (suc n) t → Round m s given n t

-- where one round adds no term of such a list, no later one does
abbrev pub RoundsStop : Type 0
RoundsStop = (m : Meaning) → Lawful m → (given terms : List Term) → Covers terms given → (s : Scope) → Includes s terms
    → (n k : ℕ) → AddsNone m s given terms n → n ≤ k → AddsNone m s given terms k

-- no entry stands twice
abbrev pub Once : List Term → Type 0
Once [] = Unit {0}
Once (t ∷ ts) = (¬ (t ∈ ts)) × Once ts

-- how many different terms a list has: as many as there are in a list of the same terms, each once
pub record Different (terms : List Term) (count : ℕ) : Type 0 where
  pub each : List Term
  pub once : Once each
  pub same : (t : Term) → t ∈ each ↔ t ∈ terms
  pub counted : length each ≡ count

-- a term of such a list has its smallest round below the number of its different terms
abbrev pub RoundsAreFew : Type 0
RoundsAreFew = (m : Meaning) → Lawful m → (given terms : List Term) → Covers terms given → (s : Scope) → Includes s terms
    → (t : Term) (n count : ℕ) → t ∈ terms → SmallestRound m s given t n → Different terms count → n < count

-- every list has such a number, and only one
abbrev pub DifferentCounts : Type 0
DifferentCounts = (terms : List Term) → (count : ℕ) × Different terms count × ((other : ℕ) → Different terms other → other ≡ count)

-- more given terms keep every round
abbrev pub MoreGiven : Type 0
MoreGiven = (m : Meaning) (s : Scope) (given more : List Term) → ((t : Term) → t ∈ given → t ∈ more)
    → (n : ℕ) (t : Term) → Round m s given n t → Round m s more n t

-- the three theories keep the laws, and so does a pile of two that do
pub record LawfulTheories : Type 0 where
  pub plain_keeps : Lawful plain
  pub public_key_keeps : Lawful public_keys
  pub reply_keeps : Lawful replies
  pub pile_keeps : (upper lower : Meaning) → Lawful upper → Lawful lower → Lawful (pile upper lower)

-- two theories have the same steps for a term
pub record SameSteps (m l : Meaning) (t : Term) : Type 0 where
  pub same_builds : m.builds t ≡ l.builds t
  pub same_takings : m.takings t ≡ l.takings t

-- what a pile is: it has the upper's steps on kinds that the upper owns and the lower's on all others, and owns what either owns
pub record Piled (upper lower : Meaning) : Type 0 where
  pub on_owned : (t : Term) → upper.owns (kind t) ≡ true → SameSteps (pile upper lower) upper t
  pub on_others : (t : Term) → upper.owns (kind t) ≡ false → SameSteps (pile upper lower) lower t
  pub owns_both : (k : ℕ) → (pile upper lower).owns k ≡ true ↔ ((upper.owns k ≡ true) ⊎ (lower.owns k ≡ true))

-- this holds of every pile
abbrev pub PilesHold : Type 0
PilesHold = (upper lower : Meaning) → Piled upper lower

-- each goal has a smallest round, or no run reaches it
abbrev pub GoalsAreSettled : Type 0
GoalsAreSettled = (m : Meaning) → Lawful m → (given : List Term) (goal : Term)
    → ((n : ℕ) × SmallestRound m everywhere given goal n) ⊎ (¬ (Reachable m given goal))

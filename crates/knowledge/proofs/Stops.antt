-- Where a round adds no term of the list, no later round does.
use Rattle.std.proofs.Common.{ℕ, suc, ◌≤◌, List, inl, inr, arith}
use Rattle.std.proofs.Math.Decide.{le_ind}
use Rattle.knowledge.specs.Terms.{Term}
use Rattle.knowledge.specs.Meanings.{Meaning}
use Rattle.knowledge.specs.Rounds.{within, Round}
use Rattle.knowledge.specs.Theorems.{AddsNone, RoundsStop}
use Rattle.knowledge.proofs.Steps.{leads_more, round_on}
use Rattle.knowledge.proofs.Local.{locality}

module _ (m : Meaning) (terms given : List Term) where
  abbrev Holds : ℕ → Term → Type 0
  Holds n t = Round m (within terms) given n t

  -- what any later round within the list holds, a round after which none was added holds
  pub settled : (n k : ℕ) → AddsNone m (within terms) given terms n → n ≤ k → (t : Term) → Holds k t → Holds n t
  settled n k none = le_ind (λ j. (t : Term) → Holds j t → Holds n t) (λ t h. h) (λ j le below t h. onward j below t h) k
    where
      onward : (j : ℕ) → ((u : Term) → Holds j u → Holds n u) → (t : Term) → Holds (suc j) t → Holds n t
      onward j below t (inl h) = below t h
      onward j below t (inr (a, l)) = none t a (inr (a, leads_more m (Holds j) (Holds n) t below l))

  stops_within : (n k : ℕ) → AddsNone m (within terms) given terms n → n ≤ k → AddsNone m (within terms) given terms k
  stops_within n k none le t i h = round_on m (within terms) given n k le t (settled n (suc k) none (omega arith) t h)

pub rounds_stop : RoundsStop
rounds_stop m lawful given terms covers s includes n k none le t i h =
    let same = locality m lawful given terms covers s includes in
    let none_within : AddsNone m (within terms) given terms n = λ u j l. (same n u j).0 (none u j ((same (suc n) u j).1 l)) in
    (same k t i).1 (stops_within m terms given n k none_within le t i ((same (suc k) t i).0 h))

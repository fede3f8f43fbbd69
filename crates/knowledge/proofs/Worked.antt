-- The rounds within a list of terms, worked out as lists.
use Rattle.std.proofs.Common.{ℕ, zero, suc, ◌⊎◌, ◌↔◌, List, ◌++◌, inl, inr}
use Rattle.knowledge.specs.Terms.{Term, ◌∈◌}
use Rattle.knowledge.specs.Meanings.{Meaning}
use Rattle.knowledge.specs.Rounds.{Leads, within, Round}
use Rattle.knowledge.proofs.Lists.{in_left, in_right, in_either}
use Rattle.knowledge.proofs.Steps.{leads_more}
use Rattle.knowledge.proofs.Decided.{leads?, kept, kept_from, kept_into}

module _ (m : Meaning) (terms : List Term) where
  -- the terms of the list that one step leads to from known ones
  abbrev Led : List Term → Term → Type 0
  Led known t = Leads m (λ u. u ∈ known) t

  abbrev led : List Term → List Term
  led known = kept (Led known) (leads? m known) terms

  abbrev pub held : List Term → ℕ → List Term
  held given zero = given
  held given (suc n) = held given n ++ led (held given n)

  -- they are the rounds
  pub held_is : (given : List Term) (n : ℕ) (t : Term) → t ∈ held given n ↔ Round m (within terms) given n t
  held_is given zero t = (λ i. i, λ i. i)
  held_is given (suc n) t = (λ i. onto (λ u. (held_is given n u).0) (in_either before (led before) i), back (λ u. (held_is given n u).1))
    where
      before : List Term
      before = held given n

      Before : Term → Type 0
      Before u = u ∈ before

      Holds : Term → Type 0
      Holds u = Round m (within terms) given n u

      onto : ((u : Term) → Before u → Holds u) → Before t ⊎ (t ∈ led before) → Round m (within terms) given (suc n) t
      onto below (inl i) = inl (below t i)
      onto below (inr i) = let (a, l) = kept_from (Led before) (leads? m before) terms t i in inr (a, leads_more m Before Holds t below l)

      back : ((u : Term) → Holds u → Before u) → Round m (within terms) given (suc n) t → t ∈ (before ++ led before)
      back above (inl h) = in_left before (led before) (above t h)
      back above (inr (a, l)) =
          in_right before (led before) (kept_into (Led before) (leads? m before) terms t a (leads_more m Holds Before t above l))

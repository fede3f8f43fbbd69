-- For a theory that keeps the laws it can be worked out what is reachable, and in which round.
use Rattle.std.proofs.Common.{◌≡◌, ℕ, zero, suc, ◌<◌, ◌⊎◌, ◌↔◌, List, [], ◌∷◌, ◌++◌, length, refl, subst, inl, inr, arith}
use Rattle.std.proofs.Math.Decide.{dec_lt}
use Rattle.knowledge.specs.Terms.{Term, atom, one, two, parts, ◌∈◌, here, there}
use Rattle.knowledge.specs.Meanings.{Meaning, Lawful}
use Rattle.knowledge.specs.Rounds.{everywhere, within, Round, Least, SmallestRound}
use Rattle.knowledge.specs.Runs.{Reachable}
use Rattle.knowledge.specs.Theorems.{Covers}
use Rattle.knowledge.proofs.Lists.{in_left, in_right, in_both, only_one}
use Rattle.knowledge.proofs.RunsAndRounds.{runs_are_rounds}
use Rattle.knowledge.proofs.Decided.{in?}
use Rattle.knowledge.proofs.Worked.{held, held_is}
use Rattle.knowledge.proofs.Local.{locality}
use Rattle.knowledge.proofs.Few.{few_within, least_too}

-- a term and all that is inside it
abbrev pub whole : Term → List Term
whole (atom label) = atom label ∷ []
whole (one k left) = one k left ∷ whole left
whole (two k left right) = two k left right ∷ whole left ++ whole right

whole_self : (t u : Term) → u ≡ t → u ∈ whole t
whole_self (atom label) u e = here e
whole_self (one k left) u e = here e
whole_self (two k left right) u e = here e

whole_part : (u p : Term) → p ∈ parts u → p ∈ whole u
whole_part (atom label) p i = elim i [ ]
whole_part (one k left) p i = there (whole_self left p (only_one i))
whole_part (two k left right) p (here e) = there (in_left (whole left) (whole right) (whole_self left p e))
whole_part (two k left right) p (there i) = there (in_right (whole left) (whole right) (whole_self right p (only_one i)))

whole_parts : (u t p : Term) → t ∈ whole u → p ∈ parts t → p ∈ whole u
whole_parts (atom label) t p (here e) i = whole_part (atom label) p (subst (λ x. p ∈ parts x) e i)
whole_parts (atom label) t p (there h) i = elim h [ ]
whole_parts (one k left) t p (here e) i = whole_part (one k left) p (subst (λ x. p ∈ parts x) e i)
whole_parts (one k left) t p (there h) i = there (whole_parts left t p h i)
whole_parts (two k left right) t p (here e) i = whole_part (two k left right) p (subst (λ x. p ∈ parts x) e i)
whole_parts (two k left right) t p (there h) i =
    there (in_both (whole left) (whole right) (λ j. whole_parts left t p j i) (λ j. whole_parts right t p j i) h)

-- some terms and all that is inside them
abbrev pub wholes : List Term → List Term
wholes [] = []
wholes (t ∷ ts) = whole t ++ wholes ts

wholes_self : (ts : List Term) (t : Term) → t ∈ ts → t ∈ wholes ts
wholes_self [] t i = elim i [ ]
wholes_self (u ∷ us) t (here e) = in_left (whole u) (wholes us) (whole_self u t e)
wholes_self (u ∷ us) t (there i) = in_right (whole u) (wholes us) (wholes_self us t i)

wholes_parts : (ts : List Term) (t p : Term) → t ∈ wholes ts → p ∈ parts t → p ∈ wholes ts
wholes_parts [] t p h i = elim h [ ]
wholes_parts (u ∷ us) t p h i = in_both (whole u) (wholes us) (λ j. whole_parts u t p j i) (λ j. wholes_parts us t p j i) h

-- the smallest number below a bound that has a property, or none has
module _ (P : ℕ → Type 0) (decide : (n : ℕ) → Dec (P n)) where
  abbrev pub First : ℕ → Type 0
  First bound = ((n : ℕ) × Least P n) ⊎ ((n : ℕ) → n < bound → ¬ (P n))

  pub none_below : (bound : ℕ) → ((n : ℕ) → n < bound → ¬ (P n)) → ¬ (P bound) → (n : ℕ) → n < suc bound → ¬ (P n)
  none_below bound none k n l = last (dec_lt n bound)
    where
      last : Dec (n < bound) → ¬ (P n)
      last (yes below) p = none n below p
      last (no above) p = k (subst P (omega arith) p)

  abbrev pub next : (bound : ℕ) → First bound → Dec (P bound) → First (suc bound)
  next bound (inl found) d = inl found
  next bound (inr none) (yes p) = inl (bound, record { holds = p; none = none })
  next bound (inr none) (no k) = inr (none_below bound none k)

  pub none_yet : (n : ℕ) → n < 0 → ¬ (P n)
  none_yet n l p = omega arith

  abbrev pub first : (bound : ℕ) → First bound
  first zero = inr none_yet
  first (suc bound) = next bound (first bound) (decide bound)

module _ (m : Meaning) (lawful : Lawful m) (given : List Term) (goal : Term) where
  abbrev terms : List Term
  terms = wholes (goal ∷ given)

  covers : Covers terms given
  covers = record { parts_too = wholes_parts (goal ∷ given); given_too = λ t i. wholes_self (goal ∷ given) t (there i) }

  abbrev Holds : ℕ → Type 0
  Holds n = goal ∈ held m terms given n

  abbrev holds? : (n : ℕ) → Dec (Holds n)
  holds? n = in? goal (held m terms given n)

  pub same_rounds : (n : ℕ) → Holds n ↔ Round m everywhere given n goal
  same_rounds n =
      let counts : goal ∈ terms = wholes_self (goal ∷ given) goal (here refl) in
      let (inward, outward) = locality m lawful given terms covers everywhere (λ t i. tt) n goal counts in
      let (off, on) = held_is m terms given n goal in
      (λ i. outward (off i), λ h. on (inward h))

  -- rounds beyond the number of terms need not be looked at
  small : (n : ℕ) → Least Holds n → n < length terms
  small n least =
      let within_terms = least_too Holds (λ j. Round m (within terms) given j goal) (λ j. held_is m terms given j goal) n least in
      few_within m lawful terms given terms covers (λ t i. i) goal n within_terms

  pub never : ((n : ℕ) → n < length terms → ¬ (Holds n)) → ¬ (Reachable m given goal)
  never none reach = let (k, h) = (runs_are_rounds m given goal).0 reach in at k ((same_rounds k).1 h) (first Holds holds? (suc k))
    where
      at : (k : ℕ) → Holds k → First Holds holds? (suc k) → ⊥
      at k h (inr out) = out k (omega arith) h
      at k h (inl (n, least)) = none n (small n least) least.holds

  -- the goal's smallest round, or that no run reaches it
  abbrev pub Verdict : Type 0
  Verdict = ((n : ℕ) × SmallestRound m everywhere given goal n) ⊎ (¬ (Reachable m given goal))

  abbrev pub tell : First Holds holds? (length terms) → Verdict
  tell (inl (n, least)) = inl (n, least_too Holds (λ j. Round m everywhere given j goal) same_rounds n least)
  tell (inr none) = inr (never none)

  abbrev pub verdict : Verdict
  verdict = tell (first Holds holds? (length terms))

-- what a verdict says
abbrev pub Grants : {P : ℕ → Type 0} {Q : Type 0} → ((n : ℕ) × P n) ⊎ Q → ℕ → Type 0
Grants (inl (k, p)) n = k ≡ n
Grants (inr q) n = ⊥

abbrev pub Denies : {P Q : Type 0} → P ⊎ Q → Type 0
Denies (inl p) = ⊥
Denies (inr q) = Unit {0}

pub granted : {P : ℕ → Type 0} {Q : Type 0} (v : ((n : ℕ) × P n) ⊎ Q) (n : ℕ) → Grants v n → P n
granted {P} (inl (k, p)) n e = subst P e p
granted (inr q) n e = absurd e

pub denied : {P Q : Type 0} (v : P ⊎ Q) → Denies v → Q
denied (inl p) e = absurd e
denied (inr q) e = q

-- A smallest round is below the number of different terms: up to it, each round adds one.
use Rattle.std.proofs.Common.{ℕ, zero, suc, ◌<◌, ◌≤◌, ◌⊎◌, ◌↔◌, List, [], ◌∷◌, length, sym, refl, ◌∙◌, subst, inl, inr, true≢false, le_trans, arith}
use Rattle.knowledge.specs.Terms.{Term, atom, one, two, ◌∈◌, here, there}
use Rattle.knowledge.specs.Meanings.{Meaning, Lawful}
use Rattle.knowledge.specs.Rounds.{Scope, within, Round, Least, SmallestRound}
use Rattle.knowledge.specs.Theorems.{Covers, AddsNone, RoundsAreFew}
use Rattle.knowledge.proofs.Lists.{in_left}
use Rattle.knowledge.proofs.Decided.{in?, kept, keep, kept_into}
use Rattle.knowledge.proofs.Worked.{held, held_is}
use Rattle.knowledge.proofs.Local.{locality}
use Rattle.knowledge.proofs.Stops.{settled}

-- nothing comes from nothing: if a round holds any term, some term was given
module _ (m : Meaning) (lawful : Lawful m) (s : Scope) (given : List Term) where
  some_given : (n : ℕ) (t : Term) → Round m s given n t → (u : Term) × (u ∈ given)
  some_given zero t i = (t, i)
  some_given (suc n) t (inl h) = some_given n t h
  some_given (suc n) t (inr (a, inr k)) = some_given n k.main k.known
  some_given (suc n) (atom label) (inr (a, inl b)) = absurd (true≢false (sym b.can ∙ (lawful.atoms label).unbuilt))
  some_given (suc n) (one k left) (inr (a, inl b)) = some_given n left (b.known left (here refl))
  some_given (suc n) (two k left right) (inr (a, inl b)) = some_given n left (b.known left (here refl))

-- how many entries of a list have a property
abbrev count : (P : Term → Type 0) → ((t : Term) → Dec (P t)) → List Term → ℕ
count P decide ts = length (kept P decide ts)

count_few : (P : Term → Type 0) (decide : (t : Term) → Dec (P t)) (ts : List Term) → count P decide ts ≤ length ts
count_few P decide [] = omega arith
count_few P decide (t ∷ ts) = pick (decide t) (count_few P decide ts)
  where
    pick : (d : Dec (P t)) → count P decide ts ≤ length ts → length (keep d t (kept P decide ts)) ≤ suc (length ts)
    pick (yes p) le = omega arith
    pick (no k) le = omega arith

count_some : (P : Term → Type 0) (decide : (t : Term) → Dec (P t)) (ts : List Term) (t : Term) → t ∈ ts → P t → 0 < count P decide ts
count_some P decide ts t i p = filled (kept P decide ts) (kept_into P decide ts t i p)
  where
    filled : (us : List Term) → t ∈ us → 0 < length us
    filled [] j = elim j [ ]
    filled (u ∷ us) j = omega arith

-- if Q holds wherever P does, more entries have Q, or P holds wherever Q does
module _ (P Q : Term → Type 0) (p? : (t : Term) → Dec (P t)) (q? : (t : Term) → Dec (Q t)) (sub : (t : Term) → P t → Q t) where
  abbrev Back : List Term → Type 0
  Back ts = (t : Term) → t ∈ ts → Q t → P t

  abbrev Grows : List Term → List Term → List Term → Type 0
  Grows ts ps qs = ((length ps ≤ length qs) × Back ts) ⊎ (length ps < length qs)

  grows : (ts : List Term) → Grows ts (kept P p? ts) (kept Q q? ts)
  grows [] = inl (omega arith, λ t i. elim i [ ])
  grows (t ∷ ts) = pick (p? t) (q? t) (grows ts)
    where
      pick : (p : Dec (P t)) (q : Dec (Q t)) → Grows ts (kept P p? ts) (kept Q q? ts) → Grows (t ∷ ts) (keep p t (kept P p? ts)) (keep q t (kept Q q? ts))
      pick (yes p) (no k) rest = absurd (k (sub t p))
      pick (yes p) (yes q) (inl (le, back)) = inl (omega arith, λ u. elim [ here e ↦ λ h. subst P (sym e) p | there i ↦ back u i ])
      pick (yes p) (yes q) (inr lt) = inr (omega arith)
      pick (no l) (yes q) (inl (le, back)) = inr (omega arith)
      pick (no l) (yes q) (inr lt) = inr (omega arith)
      pick (no l) (no k) (inl (le, back)) = inl (le, λ u. elim [ here e ↦ λ h. absurd (k (subst Q e h)) | there i ↦ back u i ])
      pick (no l) (no k) (inr lt) = inr lt

-- up to a term's smallest round within the list, each round adds a term of any list that has them all
module _ (m : Meaning) (lawful : Lawful m) (terms given each : List Term) (covers : Covers terms given) (has : (t : Term) → t ∈ terms → t ∈ each) where
  abbrev In : ℕ → Term → Type 0
  In k t = t ∈ held m terms given k

  abbrev in_held? : (k : ℕ) (t : Term) → Dec (In k t)
  in_held? k t = in? t (held m terms given k)

  kept_on : (k : ℕ) (t : Term) → In k t → In (suc k) t
  kept_on k t i = in_left _ _ i

  adds_none : (k : ℕ) → Back (In k) (In (suc k)) (in_held? k) (in_held? (suc k)) (kept_on k) each → AddsNone m (within terms) given terms k
  adds_none k back u i h = (held_is m terms given k u).0 (back u (has u i) ((held_is m terms given (suc k) u).1 h))

  climb : (t : Term) (n : ℕ) → SmallestRound m (within terms) given t n → (k : ℕ) → k ≤ n → k < count (In k) (in_held? k) each
  climb t n least zero le =
      let (u, i) = some_given m lawful (within terms) given n t least.holds in
      count_some (In 0) (in_held? 0) each u (has u (covers.given_too u i)) i
  climb t n least (suc k) lt = pick (climb t n least k (omega arith)) (grows (In k) (In (suc k)) (in_held? k) (in_held? (suc k)) (kept_on k) each)
    where
      pick : k < count (In k) (in_held? k) each
          → Grows (In k) (In (suc k)) (in_held? k) (in_held? (suc k)) (kept_on k) each (kept (In k) (in_held? k) each) (kept (In (suc k)) (in_held? (suc k)) each)
          → suc k < count (In (suc k)) (in_held? (suc k)) each
      pick l (inr more) = omega arith
      pick l (inl (le, back)) = absurd (least.none k (omega arith) (settled m terms given k n (adds_none k back) (omega arith) t least.holds))

  pub few_within : (t : Term) (n : ℕ) → SmallestRound m (within terms) given t n → n < length each
  few_within t n least = le_trans (climb t n least n (omega arith)) (count_few (In n) (in_held? n) each)

pub least_too : (P Q : ℕ → Type 0) → ((k : ℕ) → P k ↔ Q k) → (n : ℕ) → Least P n → Least Q n
least_too P Q iff n least = record { holds = (iff n).0 least.holds; none = λ k l h. least.none k l ((iff k).1 h) }

pub rounds_are_few : RoundsAreFew
rounds_are_few m lawful given terms covers s includes t n count i least different =
    let same = λ (k : ℕ). locality m lawful given terms covers s includes k t i in
    let least_within = least_too (λ k. Round m s given k t) (λ k. Round m (within terms) given k t) same n least in
    subst (λ c. n < c) different.counted (few_within m lawful terms given different.each covers (λ u j. (different.same u).1 j) t n least_within)

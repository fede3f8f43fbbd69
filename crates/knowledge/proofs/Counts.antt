-- How many different terms a list has: such a number is there, and only one.
use Rattle.std.proofs.Common.{◌≡◌, ℕ, suc, ◌≤◌, ◌⊎◌, List, [], ◌∷◌, length, sym, refl, ap, ◌∙◌, subst, inl, inr, ⊎_elim, le_antisymm, arith}
use Rattle.knowledge.specs.Terms.{Term, ◌∈◌, here, there}
use Rattle.knowledge.specs.Theorems.{Once, Different, DifferentCounts}
use Rattle.knowledge.proofs.Decided.{in?}

-- a list of the same terms, each once, is made from the back
module _ (t : Term) (ts : List Term) (count : ℕ) (rest : Different ts count) where
  old : t ∈ rest.each → Different (t ∷ ts) count
  old i = record { each = rest.each; once = rest.once; same = λ u. (λ j. there ((rest.same u).0 j), back u); counted = rest.counted }
    where
      back : (u : Term) → u ∈ (t ∷ ts) → u ∈ rest.each
      back u (here e) = subst (λ x. x ∈ rest.each) (sym e) i
      back u (there j) = (rest.same u).1 j

  new : ¬ (t ∈ rest.each) → Different (t ∷ ts) (suc count)
  new k = record { each = t ∷ rest.each; once = (k, rest.once); same = λ u. (on u, back u); counted = ap suc rest.counted }
    where
      on : (u : Term) → u ∈ (t ∷ rest.each) → u ∈ (t ∷ ts)
      on u (here e) = here e
      on u (there j) = there ((rest.same u).0 j)

      back : (u : Term) → u ∈ (t ∷ ts) → u ∈ (t ∷ rest.each)
      back u (here e) = here e
      back u (there j) = there ((rest.same u).1 j)

some_count : (terms : List Term) → (count : ℕ) × Different terms count
some_count [] = (0, record { each = []; once = tt; same = λ t. (λ i. i, λ i. i); counted = refl })
some_count (t ∷ ts) = let (count, rest) = some_count ts in pick count rest (in? t rest.each)
  where
    pick : (count : ℕ) (rest : Different ts count) → Dec (t ∈ rest.each) → (n : ℕ) × Different (t ∷ ts) n
    pick count rest (yes i) = (count, old t ts count rest i)
    pick count rest (no k) = (suc count, new t ts count rest k)

-- a list without one of its entries
abbrev Without : Term → List Term → List Term → Type 0
Without t ts rest = (length ts ≡ suc (length rest)) × ((u : Term) → u ∈ ts → (u ≡ t) ⊎ (u ∈ rest))

without : (t : Term) (ts : List Term) → t ∈ ts → (rest : List Term) × Without t ts rest
without t [] i = elim i [ ]
without t (v ∷ vs) (here e) = (vs, (refl, λ u. elim [ here f ↦ inl (f ∙ sym e) | there j ↦ inr j ]))
without t (v ∷ vs) (there i) =
    let (rest, (counts, has)) = without t vs i in
    (v ∷ rest, (ap suc counts, λ u. elim [ here f ↦ inr (here f) | there j ↦ ⊎_elim inl (λ l. inr (there l)) (has u j) ]))

once_few : (xs ys : List Term) → Once xs → ((u : Term) → u ∈ xs → u ∈ ys) → length xs ≤ length ys
once_few [] ys once sub = omega arith
once_few (x ∷ xs) ys (new, once) sub =
    let (rest, (counts, has)) = without x ys (sub x (here refl)) in
    let below : length xs ≤ length rest = once_few xs rest once (λ u i. other u i rest (has u (sub u (there i)))) in
    omega arith
  where
    other : (u : Term) → u ∈ xs → (rest : List Term) → (u ≡ x) ⊎ (u ∈ rest) → u ∈ rest
    other u i rest (inl e) = absurd (new (subst (λ v. v ∈ xs) e i))
    other u i rest (inr j) = j

fewer : (terms : List Term) (a b : ℕ) → Different terms a → Different terms b → a ≤ b
fewer terms a b da db =
    let le : length da.each ≤ length db.each = once_few da.each db.each da.once (λ u i. (db.same u).1 ((da.same u).0 i)) in
    let ea : length da.each ≡ a = da.counted in
    let eb : length db.each ≡ b = db.counted in
    omega arith

pub different_counts : DifferentCounts
different_counts terms =
    let (count, d) = some_count terms in
    (count, d, λ other o. le_antisymm (fewer terms other count o d) (fewer terms count other d o))

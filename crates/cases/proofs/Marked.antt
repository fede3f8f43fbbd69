-- The terms of the rows that are marked.
use Rattle.std.proofs.Common.{◌≡◌, ℕ, zero, suc, Bool, true, false, cond, List, [], ◌∷◌, Some, sym, refl, ap, ◌∙◌}
use Rattle.std.specs.List.{slice_get}
use Rattle.std.proofs.lemmas.Option.{none-some, same_Some}
use Rattle.knowledge.specs.Terms.{Term, ◌∈◌, here, there}
use Rattle.cases.specs.declared.row.Row.{Row}
use Rattle.cases.specs.Said.{marked}

-- a term is marked if a marked row holds it
module _ (t : Term) where
  abbrev Marked : List Row → List Term → Type 0
  Marked rows ts = (i : ℕ) × (r : Row) × (slice_get rows i ≡ Some r) × (r.given ≡ true) × (slice_get ts i ≡ Some t)

  pub marked_from : (rows : List Row) (ts : List Term) → t ∈ marked rows ts → Marked rows ts
  marked_from [] ts i = elim i [ ]
  marked_from (r ∷ rows) [] i = elim i [ ]
  marked_from (r ∷ rows) (u ∷ us) i = by r.given refl (marked_from rows us) i
    where
      rest : Marked rows us → Marked (r ∷ rows) (u ∷ us)
      rest (k, s, at, given, is) = (suc k, s, at, given, is)

      by : (b : Bool) → r.given ≡ b → (t ∈ marked rows us → Marked rows us) → t ∈ cond b (u ∷ marked rows us) (marked rows us) → Marked (r ∷ rows) (u ∷ us)
      by true e later (here f) = (0, r, refl, e, ap Some (sym f))
      by true e later (there j) = rest (later j)
      by false e later j = rest (later j)

  pub marked_into : (rows : List Row) (ts : List Term) (i : ℕ) (r : Row) → slice_get rows i ≡ Some r → r.given ≡ true → slice_get ts i ≡ Some t → t ∈ marked rows ts
  marked_into [] ts i r at given is = absurd (none-some _ at)
  marked_into (s ∷ rows) [] i r at given is = absurd (none-some _ is)
  marked_into (s ∷ rows) (u ∷ us) zero r at given is =
      let on : s.given ≡ true = ap (λ x. x.given) (same_Some _ _ at) ∙ given in
      rw on (here (sym (same_Some _ _ is)))
  marked_into (s ∷ rows) (u ∷ us) (suc i) r at given is = by s.given (marked_into rows us i r at given is)
    where
      by : (b : Bool) → t ∈ marked rows us → t ∈ cond b (u ∷ marked rows us) (marked rows us)
      by true j = there j
      by false j = j

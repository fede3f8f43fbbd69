-- What lies outside a list closed under parts is of no use to what lies in it.
use Rattle.std.proofs.Common.{◌≡◌, ℕ, zero, suc, ◌⊎◌, List, Some, subst, inl, inr, ⊎_elim}
use Rattle.knowledge.specs.Terms.{Term, parts, ◌∈◌, Inside, part, deeper}
use Rattle.knowledge.specs.Meanings.{Meaning, Lawful}
use Rattle.knowledge.specs.Rounds.{Built, Taken, everywhere, within, Round}
use Rattle.knowledge.specs.Theorems.{Covers, Locality}
use Rattle.knowledge.proofs.Steps.{built_again, taken_again, leads_more, rounds_more}
use Rattle.knowledge.proofs.Decided.{in?}

-- what is inside a term of the list is in it too
pub inside_too : (terms given : List Term) → Covers terms given → (s t : Term) → Inside s t → t ∈ terms → s ∈ terms
inside_too terms given covers s t (part i) h = covers.parts_too t s h i
inside_too terms given covers s t (deeper {p = p} i j) h = inside_too terms given covers s p j (covers.parts_too t p h i)

module _ (m : Meaning) (lawful : Lawful m) (terms given : List Term) (covers : Covers terms given) where
  -- a term that adds nothing: it is in the list and its round within the list holds it; or it is not, and no part of it adds anything
  Idle : ℕ → Term → Type 0
  Idle zero t = (t ∈ terms) × (t ∈ given)
  Idle (suc n) t = ((t ∈ terms) × Round m (within terms) given (suc n) t) ⊎ ((¬ (t ∈ terms)) × ((p : Term) → p ∈ parts t → Idle n p))

  idle_on : (n : ℕ) (t : Term) → Idle n t → Idle (suc n) t
  unfolding Idle
  idle_on zero t (i, h) = inl (i, inl h)
  idle_on (suc n) t (inl (i, h)) = inl (i, inl h)
  idle_on (suc n) t (inr (out, below)) = inr (out, λ p i. idle_on n p (below p i))

  idle_in : (n : ℕ) (t : Term) → t ∈ terms → Idle n t → Round m (within terms) given n t
  unfolding Idle
  idle_in zero t j (i, h) = h
  idle_in (suc n) t j (inl (i, h)) = h
  idle_in (suc n) t j (inr (out, below)) = absurd (out j)

  -- the two ways to a term, by where the term they start from lies
  idle_built : (n : ℕ) (t : Term) → Built m (Idle n) t → Dec (t ∈ terms) → Idle (suc n) t
  unfolding Idle
  idle_built n t b (yes i) = inl (i, inr (i, inl (built_again m (Idle n) (Round m (within terms) given n) t b known)))
    where
      known : (p : Term) → p ∈ parts t → Round m (within terms) given n p
      known p j = idle_in n p (covers.parts_too t p i j) (b.known p j)
  idle_built n t b (no out) = inr (out, b.known)

  idle_taken : (n : ℕ) (t : Term) (k : Taken m (Idle n) t) → Idle (suc n) t
  unfolding Idle
  idle_taken n t k = by_main (in? k.main terms)
    where
      result : t ∈ parts k.main
      result = subst (λ r. r ∈ parts k.main) k.gives (lawful.results k.main k.taking k.of_main)

      inside : (s : Term) → k.taking.side ≡ Some s → Inside s k.main
      inside s e = lawful.sides k.main k.taking s k.of_main e

      outside : (n : ℕ) → ¬ (k.main ∈ terms) → Idle n k.main → Idle n t
      outside zero out (i, h) = absurd (out i)
      outside (suc n) out (inl (i, h)) = absurd (out i)
      outside (suc n) out (inr (o, below)) = idle_on n t (below t result)

      by_main : Dec (k.main ∈ terms) → Idle (suc n) t
      by_main (no out) = idle_on n t (outside n out k.known)
      by_main (yes i) =
          let counts : t ∈ terms = covers.parts_too k.main t i result in
          inl (
            counts,
            inr (
              counts,
              inr (taken_again m (Idle n) (Round m (within terms) given n) t k (idle_in n k.main i k.known)
                  (λ s e. idle_in n s (inside_too terms given covers s k.main (inside s e) i) (k.beside s e))),
            ),
          )

  all_idle : (n : ℕ) (t : Term) → Round m everywhere given n t → Idle n t
  unfolding Idle
  all_idle zero t i = (covers.given_too t i, i)
  all_idle (suc n) t (inl h) = idle_on n t (all_idle n t h)
  all_idle (suc n) t (inr (a, l)) =
      ⊎_elim (λ b. idle_built n t b (in? t terms)) (idle_taken n t) (leads_more m (Round m everywhere given n) (Idle n) t (all_idle n) l)

pub locality : Locality
locality m lawful given terms covers s includes n t i = (inward, rounds_more m (within terms) s given given includes (λ u j. j) n t)
  where
    inward : Round m s given n t → Round m (within terms) given n t
    inward h =
        let anywhere : Round m everywhere given n t = rounds_more m s everywhere given given (λ u a. tt) (λ u j. j) n t h in
        idle_in m lawful terms given covers n t i (all_idle m lawful terms given covers n t anywhere)

-- Terms of a list and their numbers.
use Rattle.std.proofs.Common.{◌≡◌, ℕ, zero, suc, ◌<◌, List, [], ◌∷◌, Some, sym, refl, ap, subst, arith}
use Rattle.std.proofs.lemmas.Option.{none-some}
use Rattle.std.proofs.Math.Decide.{ℕ_discrete}
use Rattle.knowledge.specs.Terms.{Term, term_discrete, ◌∈◌, here, there}
use Rattle.knowledge.specs.Theorems.{Once}
use Rattle.cases.specs.Said.{numbered, onward, placed, place_of}
use Rattle.cases.proofs.Numbered.{numbered_in, in_slice_get}

-- each entry has one number
abbrev pub OneNumber : List Term → Type 0
OneNumber ts = (n m : ℕ) (t : Term) → numbered ts n ≡ Some t → numbered ts m ≡ Some t → n ≡ m

pub once : (ts : List Term) → OneNumber ts → Once ts
once [] one_number = tt
once (t ∷ ts) one_number =
    ((λ i. let (k, e) = in_slice_get ts t i in let z = one_number 1 (suc (suc k)) t refl e in omega arith), once ts rest)
  where
    rest : OneNumber ts
    rest zero m u e f = absurd (none-some _ e)
    rest (suc n) zero u e f = absurd (none-some _ f)
    rest (suc n) (suc m) u e f = let s = one_number (suc (suc n)) (suc (suc m)) u e f in omega arith

-- the place of a term has that term, and every term of the list has a place
pub place_has : (ts : List Term) (t : Term) (n : ℕ) → 0 < n → place_of ts t ≡ n → numbered ts n ≡ Some t
place_has [] t n p e = absurd (omega arith)
place_has (u ∷ us) t n p e = by (term_discrete ℕ_discrete t u) (place_of us t) (place_has us t) e
  where
    by : (d : Dec (t ≡ u)) (k : ℕ) → ((m : ℕ) → 0 < m → k ≡ m → numbered us m ≡ Some t) → placed d k ≡ n → numbered (u ∷ us) n ≡ Some t
    by (yes same) k rest e = subst (λ m. numbered (u ∷ us) m ≡ Some t) e (ap Some (sym same))
    by (no other) zero rest e = absurd (omega arith)
    by (no other) (suc k) rest e = subst (λ m. numbered (u ∷ us) m ≡ Some t) e (rest (suc k) (omega arith) refl)

pub place_there : (ts : List Term) (t : Term) → t ∈ ts → 0 < place_of ts t
place_there [] t i = elim i [ ]
place_there (u ∷ us) t i = by (term_discrete ℕ_discrete t u) i (place_there us t)
  where
    later : (k : ℕ) → 0 < k → 0 < onward k
    later zero l = l
    later (suc k) l = omega arith

    by : (d : Dec (t ≡ u)) → t ∈ (u ∷ us) → (t ∈ us → 0 < place_of us t) → 0 < placed d (place_of us t)
    by (yes same) j rest = omega arith
    by (no other) (here same) rest = absurd (other same)
    by (no other) (there j) rest = later (place_of us t) (rest j)

pub place_is : (ts : List Term) → OneNumber ts → (t : Term) (n : ℕ) → numbered ts n ≡ Some t → place_of ts t ≡ n
place_is ts one_number t n e =
    let there = place_there ts t (numbered_in ts n t e) in
    one_number (place_of ts t) n t (place_has ts t (place_of ts t) there refl) e

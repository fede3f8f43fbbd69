-- The rows of a small exchange: a body sealed under a public key, and a unit that replies to it with the secret.
use Rattle.std.specs.Prelude.{◌≡◌, ℕ, Bool, true, false, List, [], ◌∷◌, ◌++◌, replicate, refl}
use Rattle.std.proofs.Common.{lit≤}
use Rattle.knowledge.specs.Terms.{Term, atom}
use Rattle.knowledge.specs.Kinds.{public_key, sealed, reply, term₁, term₂}
use Rattle.cases.specs.declared.row.Row.{Row}
use Rattle.cases.specs.declared.case.Case.{Case}
use Rattle.cases.specs.Rows.{blank, standing}
use Rattle.cases.specs.Case.{rows_of, terms_of, given_of}

-- a row by its kind, left, right and given mark
abbrev pub row : ℕ → ℕ → ℕ → Bool → Row
row kind left right given = record { kind = kind; left = left; right = right; given = given }

-- two atoms, the public key of the second, the first sealed under it, and the reply; the last two are given
abbrev pub rows : List Row
rows = row 0 7 0 false ∷ row 0 8 0 false ∷ row 4 2 0 false ∷ row 5 1 3 true ∷ row 8 4 2 true ∷ []

-- the body under the public key of the secret
abbrev pub sealed_body : Term
sealed_body = term₂ sealed (atom 7) (term₁ public_key (atom 8))

-- the unit that answers it with the secret
abbrev pub answer : Term
answer = term₂ reply sealed_body (atom 8)

-- the exchange as a case
abbrev pub exchange : Case
exchange = record { table = record { rows = rows ++ replicate 1019 blank }; used = 5; full = refl; few = lit≤ tt; stands = refl; rest = refl }

-- it has these rows, and they hold and give these terms
pub record Example : Type 0 where
  pub has : rows_of exchange ≡ rows
  pub holds : terms_of exchange ≡ atom 7 ∷ atom 8 ∷ term₁ public_key (atom 8) ∷ sealed_body ∷ answer ∷ []
  pub gives : given_of exchange ≡ sealed_body ∷ answer ∷ []
  -- the same term once more, a row that names itself and a label of 10,000 can stand in no case
  pub no_repeat : standing (row 0 7 0 false ∷ row 0 7 0 true ∷ []) ≡ false
  pub no_loop : standing (row 2 1 0 false ∷ []) ≡ false
  pub no_label : standing (row 0 10000 0 false ∷ []) ≡ false

-- What replies over public keys over plain answer about a small exchange.
use Rattle.std.specs.Prelude.{◌≡◌, ℕ, true, false, List, [], ◌∷◌, map}
use Rattle.knowledge.specs.Kinds.{standard}
use Rattle.cases.specs.Example.{exchange}
use Rattle.theories.specs.Answers.{builds_at, taking_rows}

-- the rows of the exchange, and one that it does not have
abbrev pub asked : List ℕ
asked = 1 ∷ 2 ∷ 3 ∷ 4 ∷ 5 ∷ 6 ∷ []

-- rows 1 and 2 are atoms, row 3 the public key of row 2, row 4 row 1 sealed under row 3, row 5 the reply that answers row 4 with row 2
pub record Example : Type 0 where
  pub built : map (builds_at standard exchange) asked ≡ false ∷ false ∷ true ∷ true ∷ false ∷ false ∷ []
  pub taken : map (taking_rows standard exchange) asked ≡ [] ∷ [] ∷ [] ∷ ((2, 1) ∷ []) ∷ ((4, 2) ∷ []) ∷ [] ∷ []

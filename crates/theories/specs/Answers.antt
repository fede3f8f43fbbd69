-- What is answered about a case, by the meaning of a theory.
use Rattle.std.specs.Prelude.{ℕ, Bool, false, List, [], map, Some, None, Option}
use Rattle.knowledge.specs.Terms.{Term}
use Rattle.knowledge.specs.Meanings.{Taking, Meaning}
use Rattle.cases.specs.declared.case.Case.{Case}
use Rattle.cases.specs.Case.{term_at, kind_at, row_of}

-- whether a theory owns a kind, where there is one
abbrev pub owns_in : Meaning → Option ℕ → Bool
owns_in m None = false
owns_in m (Some k) = m.owns k

-- whether a term can be built, where there is one
abbrev pub builds_in : Meaning → Option Term → Bool
builds_in m None = false
builds_in m (Some t) = m.builds t

-- the takings of a term, where there is one
abbrev pub takings_in : Meaning → Option Term → List Taking
takings_in m None = []
takings_in m (Some t) = m.takings t

-- whether a theory owns the kind of the term in a row
abbrev pub owns_at : Meaning → Case → ℕ → Bool
owns_at m c row = owns_in m (kind_at c row)

-- whether the term in a row can be built
abbrev pub builds_at : Meaning → Case → ℕ → Bool
builds_at m c row = builds_in m (term_at c row)

-- the takings of the term in a row
abbrev pub takings_at : Meaning → Case → ℕ → List Taking
takings_at m c row = takings_in m (term_at c row)

-- the row of a side; 0 where there is none
abbrev pub side_row : Case → Option Term → ℕ
side_row c None = 0
side_row c (Some side) = row_of c side

-- a taking by the rows of its side and its result
abbrev pub by_rows : Case → Taking → ℕ × ℕ
by_rows c k = (side_row c k.side, row_of c k.result)

-- the takings of the term in a row, by rows
abbrev pub taking_rows : Meaning → Case → ℕ → List (ℕ × ℕ)
taking_rows m c row = map (by_rows c) (takings_at m c row)

-- What a case holds: its rows in use, their terms, and which are given.
use Rattle.std.specs.Prelude.{◌≡◌, ℕ, List, take, Some, Option}
use Rattle.std.specs.Option.{option_map}
use Rattle.knowledge.specs.Terms.{Term, kind}
use Rattle.cases.specs.declared.row.Row.{Row}
use Rattle.cases.specs.declared.case.Case.{Case}
use Rattle.cases.specs.Said.{numbered, terms, marked, place_of}

-- the rows in use
abbrev pub rows_of : Case → List Row
rows_of c = take c.used c.table.rows

-- the row with a number, if it is in use
abbrev pub row_at : Case → ℕ → Option Row
row_at c n = numbered (rows_of c) n

-- the terms of a case, row by row
abbrev pub terms_of : Case → List Term
terms_of c = terms (rows_of c)

-- the term in a row
abbrev pub term_at : Case → ℕ → Option Term
term_at c n = numbered (terms_of c) n

-- the kind of the term in a row
abbrev pub kind_at : Case → ℕ → Option ℕ
kind_at c n = option_map kind (term_at c n)

-- a row holds a term
abbrev pub Holds : Case → ℕ → Term → Type 0
Holds c n t = term_at c n ≡ Some t

-- the given terms of a case
abbrev pub given_of : Case → List Term
given_of c = marked (rows_of c) (terms_of c)

-- the row that holds a term; 0 where none does
abbrev pub row_of : Case → Term → ℕ
row_of c t = place_of (terms_of c) t

-- What holds of every case.
use Rattle.std.specs.Prelude.{◌≡◌, ℕ, ◌<◌, ◌≤◌, true, ◌↔◌, List, map, length, Some}
use Rattle.knowledge.specs.Terms.{Term, atom, kind, parts, ◌∈◌}
use Rattle.knowledge.specs.Theorems.{Covers, Once}
use Rattle.cases.specs.declared.row.Row.{Row}
use Rattle.cases.specs.declared.case.Case.{Case}
use Rattle.cases.specs.Parts.{part_count}
use Rattle.cases.specs.Rows.{standing, blank}
use Rattle.cases.specs.Said.{numbered, said, terms}
use Rattle.cases.specs.Case.{rows_of, row_at, terms_of, given_of, row_of, Holds}

-- a row comes before the row with number n
abbrev pub Before : ℕ → ℕ → Type 0
Before n row = (0 < row) × (row < n)

-- what the row with number n keeps
pub record Kept (n : ℕ) (r : Row) : Type 0 where
  pub kind_known : r.kind ≤ 15
  pub label_small : part_count r.kind ≡ 0 → r.left ≤ 9999
  pub left_before : 0 < part_count r.kind → Before n r.left
  pub right_before : 1 < part_count r.kind → Before n r.right
  pub right_absent : part_count r.kind ≤ 1 → r.right ≡ 0

-- rows that say terms: each keeps what it should, and no two say one term
pub record Sound (rows : List Row) : Type 0 where
  pub each : (n : ℕ) (r : Row) → numbered rows n ≡ Some r → Kept n r
  pub differ : (n m : ℕ) (t : Term) → numbered (terms rows) n ≡ Some t → numbered (terms rows) m ≡ Some t → n ≡ m

-- the test that cases keep is passed by such rows, and by no others
abbrev pub SoundRows : Type 0
SoundRows = (rows : List Row) → standing rows ≡ true ↔ Sound rows

-- what every case keeps
pub record Keeps (c : Case) : Type 0 where
  -- there is room for 1,024 rows
  pub room : length (rows_of c) ≤ 1024
  -- the rows in use say terms, no two of them the same
  pub sound : Sound (rows_of c)
  -- the others are blank
  pub beyond : (n : ℕ) → length (rows_of c) < n → n ≤ 1024 → numbered c.table.rows n ≡ Some blank
  -- only rows in use are given
  pub given_in_use : (n : ℕ) (r : Row) → numbered c.table.rows n ≡ Some r → r.given ≡ true → row_at c n ≡ Some r

-- this holds of every case
abbrev pub CasesKeep : Type 0
CasesKeep = (c : Case) → Keeps c

-- each row holds the term that it says by the terms of the rows that it names
abbrev pub RowsSayTerms : Type 0
RowsSayTerms = (c : Case) → terms_of c ≡ map (said (terms_of c)) (rows_of c)

-- a term as the table of kinds has it: kind and label in range, and as many parts as its kind has
pub record Proper (t : Term) : Type 0 where
  pub kind_known : kind t ≤ 15
  pub label_small : (label : ℕ) → t ≡ atom label → label ≤ 9999
  pub parts_fit : length (parts t) ≡ part_count (kind t)

-- the terms of a case are such terms
abbrev pub TermsProper : Type 0
TermsProper = (c : Case) (t : Term) → t ∈ terms_of c → Proper t

-- a term is given if some row that holds it is marked
abbrev pub GivenRows : Type 0
GivenRows = (c : Case) (t : Term) → t ∈ given_of c ↔ ((n : ℕ) × (r : Row) × (row_at c n ≡ Some r) × (r.given ≡ true) × Holds c n t)

-- the terms of a case are closed under parts, and the given ones are among them
abbrev pub CasesCover : Type 0
CasesCover = (c : Case) → Covers (terms_of c) (given_of c)

-- they differ from one another
abbrev pub TermsDiffer : Type 0
TermsDiffer = (c : Case) → Once (terms_of c)

-- a term has one row at most: that row holds it, and no other does
abbrev pub OneRow : Type 0
OneRow = (c : Case) (n : ℕ) (t : Term) → Holds c n t ↔ ((0 < n) × (row_of c t ≡ n))

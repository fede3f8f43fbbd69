-- What the rows answered by every theory that keeps the laws are.
use Rattle.std.specs.Prelude.{◌≡◌, ℕ, ◌≤◌, false, ◌↔◌, [], length, Some, None, Option}
use Rattle.knowledge.specs.Terms.{Term}
use Rattle.knowledge.specs.Meanings.{Taking, Meaning, Lawful}
use Rattle.cases.specs.declared.case.Case.{Case}
use Rattle.cases.specs.Said.{numbered}
use Rattle.cases.specs.Case.{row_at, Holds}
use Rattle.theories.specs.Answers.{builds_at, takings_at, taking_rows}

-- a row stands for a side: it is 0 where there is none, and else holds it
abbrev pub SideIn : Case → Option Term → ℕ → Type 0
SideIn c None row = row ≡ 0
SideIn c (Some side) row = Holds c row side

-- two rows stand for a taking: for its side, and for its result
pub record InRows (c : Case) (k : Taking) (side result : ℕ) : Type 0 where
  pub side_in : SideIn c k.side side
  pub result_in : Holds c result k.result

-- what is answered of the takings of the term in a row
pub record Answered (m : Meaning) (c : Case) (row : ℕ) : Type 0 where
  -- as many as the term has, and two at most
  pub counted : length (taking_rows m c row) ≡ length (takings_at m c row)
  pub few : length (taking_rows m c row) ≤ 2
  -- for the taking with a number, the two rows that stand for it; every taking has them
  pub in_rows : (number : ℕ) (k : Taking) → numbered (takings_at m c row) number ≡ Some k
      → (side result : ℕ) → numbered (taking_rows m c row) number ≡ Some (side, result) ↔ InRows c k side result
  pub some_rows : (number : ℕ) (k : Taking) → numbered (takings_at m c row) number ≡ Some k
      → (side : ℕ) × (result : ℕ) × (numbered (taking_rows m c row) number ≡ Some (side, result))
  -- nothing where no taking has the number
  pub nothing : (number : ℕ) → numbered (takings_at m c row) number ≡ None → numbered (taking_rows m c row) number ≡ None

-- this holds of every theory that keeps the laws, and of every row
abbrev pub TakingsInRows : Type 0
TakingsInRows = (m : Meaning) → Lawful m → (c : Case) (row : ℕ) → Answered m c row

-- of a row that the case does not have, nothing can be built and nothing is taken
abbrev pub NothingBeyond : Type 0
NothingBeyond = (m : Meaning) (c : Case) (row : ℕ) → row_at c row ≡ None → (builds_at m c row ≡ false) × (taking_rows m c row ≡ [])

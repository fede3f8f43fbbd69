-- What the rows of a case tell of the terms in them.
use Rattle.std.proofs.Common.{◌≡◌, ℕ, false, [], map, Some, None, ap, ◌∙◌, arith}
use Rattle.std.specs.Option.{option_map}
use Rattle.knowledge.specs.Terms.{Term, atom, one, two}
use Rattle.knowledge.specs.Meanings.{Meaning}
use Rattle.cases.specs.declared.row.Row.{Row}
use Rattle.cases.specs.declared.case.Case.{Case}
use Rattle.cases.specs.Parts.{part_count}
use Rattle.cases.specs.Said.{term_among, said}
use Rattle.cases.specs.Case.{rows_of, row_at, terms_of, term_at, row_of, Holds}
use Rattle.cases.specs.Theorems.{Before}
use Rattle.cases.proofs.Said.{by_parts, said_at, row_says, said_by_row}
use Rattle.cases.proofs.Sound.{part_held}
use Rattle.cases.proofs.Holds.{case_sound, one_row}
use Rattle.theories.specs.Answers.{builds_in, takings_in, builds_at, takings_at, by_rows, taking_rows}

-- a row that the case does not have holds no term
module _ (c : Case) (n : ℕ) (e : row_at c n ≡ None) (m : Meaning) where
  pub no_term : term_at c n ≡ None
  no_term = said_at (rows_of c) (case_sound c).each n ∙ ap (option_map (said (terms_of c))) e

  pub no_builds : builds_at m c n ≡ false
  no_builds = ap (builds_in m) no_term

  pub no_takings : takings_at m c n ≡ []
  no_takings = ap (takings_in m) no_term

  pub no_rows : taking_rows m c n ≡ []
  no_rows = ap (map (by_rows c)) no_takings

-- a term's row, and the row that a term is in
pub row_is : (c : Case) (n : ℕ) (t : Term) → Holds c n t → row_of c t ≡ n
row_is c n t h = ((one_row c n t).0 h).1

pub row_held : (c : Case) (n : ℕ) (t : Term) → Holds c n t → (r : Row) × (row_at c n ≡ Some r) × (said (terms_of c) r ≡ t)
row_held c n t h = said_by_row (rows_of c) (case_sound c).each n t h

-- the term in a row, and those of the rows that it names
abbrev pub held : Case → Row → Term
held c r = said (terms_of c) r

abbrev pub left : Case → Row → Term
left c r = term_among (terms_of c) r.left

abbrev pub right : Case → Row → Term
right c r = term_among (terms_of c) r.right

-- a row in use holds what it says, and its parts stand in the rows that it names
module _ (c : Case) (n : ℕ) (r : Row) (e : row_at c n ≡ Some r) where
  pub term_is : term_at c n ≡ Some (held c r)
  term_is = row_says (rows_of c) (case_sound c).each n r e

  part_at : (row : ℕ) → Before n row → Holds c row (term_among (terms_of c) row)
  part_at row before = part_held (rows_of c) (case_sound c).each n row r e before

  row_of_lem : (row : ℕ) → Before n row → row_of c (term_among (terms_of c) row) ≡ row
  row_of_lem row before = row_is c row _ (part_at row before)

  -- what holds of its term, by its number of parts, which stand in the rows that it names
  pub by_its_rows : (P : Term → Type 0) → (r.kind ≡ 0 → P (atom r.left))
      → (part_count r.kind ≡ 1 → row_of c (left c r) ≡ r.left → P (one r.kind (left c r)))
      → (part_count r.kind ≡ 2 → row_of c (left c r) ≡ r.left → Holds c r.right (right c r) → P (two r.kind (left c r) (right c r)))
      → P (held c r)
  by_its_rows P none lone both =
      let kept = (case_sound c).each n r e in
      by_parts (terms_of c) r P none (λ f. lone f (row_of_lem r.left (kept.left_before (omega arith))))
      (λ f. both f (row_of_lem r.left (kept.left_before (omega arith))) (part_at r.right (kept.right_before (omega arith))))

  pub rows_are : (m : Meaning) → taking_rows m c n ≡ map (by_rows c) (m.takings (held c r))
  rows_are m = ap (λ o. map (by_rows c) (takings_in m o)) term_is

-- The rows answered for a taking hold its side and its result, whatever the theory.
use Rattle.std.proofs.Common.{◌≡◌, ℕ, ◌≤◌, length, Some, None, Option, sym, refl, ap, ◌∙◌, subst, ap₂, arith}
use Rattle.std.specs.Option.{option_map}
use Rattle.std.proofs.lemmas.List.{length-map}
use Rattle.std.proofs.lemmas.Option.{same_Some}
use Rattle.knowledge.specs.Terms.{Term, ◌∈◌}
use Rattle.knowledge.specs.Meanings.{Taking, Meaning, Lawful}
use Rattle.knowledge.proofs.Local.{inside_too}
use Rattle.cases.specs.declared.case.Case.{Case}
use Rattle.cases.specs.Said.{numbered}
use Rattle.cases.specs.Case.{terms_of, term_at, given_of, row_of, Holds}
use Rattle.cases.proofs.Numbered.{numbered-map, numbered_in}
use Rattle.cases.proofs.Holds.{cases_cover, in_row}
use Rattle.theories.specs.Answers.{takings_in, takings_at, side_row, by_rows, taking_rows}
use Rattle.theories.specs.Theorems.{SideIn, InRows, Answered, TakingsInRows, NothingBeyond}
use Rattle.theories.proofs.AtRows.{no_builds, no_rows, row_is}

module _ (m : Meaning) (lawful : Lawful m) (c : Case) (row : ℕ) where
  -- a taking of the term in a row is a taking of a term of the case
  main_of : (k : Taking) → k ∈ takings_at m c row → (t : Term) × (t ∈ terms_of c) × (k ∈ m.takings t)
  main_of k = by (term_at c row) refl
    where
      by : (o : Option Term) → term_at c row ≡ o → k ∈ takings_in m o → (t : Term) × (t ∈ terms_of c) × (k ∈ m.takings t)
      by None e i = elim i [ ]
      by (Some t) e i = (t, numbered_in (terms_of c) row t e, i)

  -- so its side and its result have rows
  side_held : (k : Taking) → k ∈ takings_at m c row → (side : Option Term) → k.side ≡ side → SideIn c side (side_row c side)
  side_held k i None e = refl
  side_held k i (Some s) e =
      let (t, j, l) = main_of k i in
      in_row c s (inside_too (terms_of c) (given_of c) (cases_cover c) s t (lawful.sides t k s l e) j)

  result_held : (k : Taking) → k ∈ takings_at m c row → Holds c (row_of c k.result) k.result
  result_held k i =
      let (t, j, l) = main_of k i in
      in_row c k.result ((cases_cover c).parts_too t k.result j (lawful.results t k l))

  side_row_is : (side : Option Term) (n : ℕ) → SideIn c side n → side_row c side ≡ n
  side_row_is None n h = sym h
  side_row_is (Some s) n h = row_is c n s h

  rows_at : (number : ℕ) (k : Taking) → numbered (takings_at m c row) number ≡ Some k → numbered (taking_rows m c row) number ≡ Some (by_rows c k)
  rows_at number k e = numbered-map (by_rows c) (takings_at m c row) number ∙ ap (option_map (by_rows c)) e

  few : (o : Option Term) → length (takings_in m o) ≤ 2
  few None = omega arith
  few (Some t) = lawful.few t

  answered : Answered m c row
  answered = record {
    counted = length-map (takings_at m c row) (by_rows c);
    few = rw length-map (few (term_at c row));
    in_rows = λ number k e side result. (into number k e side result, from number k e side result);
    some_rows = λ number k e. (side_row c k.side, row_of c k.result, rows_at number k e);
    nothing = λ number e. numbered-map (by_rows c) (takings_at m c row) number ∙ ap (option_map (by_rows c)) e;
  }
    where
      into : (number : ℕ) (k : Taking) → numbered (takings_at m c row) number ≡ Some k
          → (side result : ℕ) → numbered (taking_rows m c row) number ≡ Some (side, result) → InRows c k side result
      into number k e side result f =
          let i = numbered_in (takings_at m c row) number k e in
          let same : by_rows c k ≡ (side, result) = same_Some _ _ (sym (rows_at number k e) ∙ f) in
          record {
            side_in = subst (SideIn c k.side) (ap (λ p. p.0) same) (side_held k i k.side refl);
            result_in = subst (λ n. Holds c n k.result) (ap (λ p. p.1) same) (result_held k i);
          }

      from : (number : ℕ) (k : Taking) → numbered (takings_at m c row) number ≡ Some k
          → (side result : ℕ) → InRows c k side result → numbered (taking_rows m c row) number ≡ Some (side, result)
      from number k e side result h =
          rows_at number k e ∙ ap Some (ap₂ (λ s r. (s, r)) (side_row_is k.side side h.side_in) (row_is c result k.result h.result_in))

pub takings_in_rows : TakingsInRows
takings_in_rows m lawful c row = answered m lawful c row

pub nothing_beyond : NothingBeyond
nothing_beyond m c row e = (no_builds c row e m, no_rows c row e m)

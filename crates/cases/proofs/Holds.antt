-- The terms of a case: closed under parts, different from one another, and each in one row.
use Rattle.std.proofs.Common.{◌≡◌, ℕ, zero, suc, ◌+◌, ◌-◌, ◌<◌, ◌≤◌, true, false, List, [], ◌∷◌, length, drop, Some, None, Option, sym, refl, ap, ◌∙◌, subst, inl, inr, true≢false, not-suc-le-zero, arith, length-drop}
use Rattle.std.specs.Option.{option_map}
use Rattle.std.specs.List.{slice_get}
use Rattle.std.proofs.lemmas.Bool.{and_parts, not-true, cases_lt}
use Rattle.std.proofs.lemmas.List.{length-take-le}
use Rattle.std.proofs.lemmas.Option.{none-some, same_Some}
use Rattle.knowledge.specs.Terms.{Term, atom, kind, parts, ◌∈◌, here, there}
use Rattle.cases.specs.declared.row.Row.{Row}
use Rattle.cases.specs.declared.case.Case.{Case}
use Rattle.cases.specs.Parts.{part_count}
use Rattle.cases.specs.Rows.{alike, blank, is_blank, unused}
use Rattle.cases.specs.Said.{numbered, term_among, said, terms}
use Rattle.cases.specs.Case.{rows_of, row_at, terms_of, term_at, kind_at, given_of, row_of, Holds}
use Rattle.cases.specs.Theorems.{Before, Kept, Sound, CasesKeep, RowsSayTerms, Proper, TermsProper, GivenRows, CasesCover, TermsDiffer, OneRow}
use Rattle.cases.proofs.Numbered.{numbered-take, slice_get-drop, slice_get_in, numbered_in, in_slice_get, numbered_within}
use Rattle.cases.proofs.Standing.{alike_is}
use Rattle.cases.proofs.Said.{by_parts, AllKept, terms_said, said_at, said_by_row}
use Rattle.cases.proofs.Sound.{part_held, sound}
use Rattle.cases.proofs.Placed.{once, place_has, place_there, place_is}
use Rattle.cases.proofs.Marked.{marked_from, marked_into}

-- the parts of what a row says stand in the rows that it names
module _ (rows : List Row) (kept : AllKept rows) where
  abbrev ts : List Term
  ts = terms rows

  among_in : (n row : ℕ) (r : Row) → numbered rows n ≡ Some r → Before n row → term_among ts row ∈ ts
  among_in n row r e before = numbered_in ts row _ (part_held rows kept n row r e before)

  parts_in : (n : ℕ) (r : Row) → numbered rows n ≡ Some r → (u : Term) → u ∈ parts (said ts r) → u ∈ ts
  parts_in n r e = by_parts ts r (λ t. (u : Term) → u ∈ parts t → u ∈ ts)
      (λ z u. elim [ ])
      (λ f u. elim [ here g ↦ left_in g (omega arith) | there i ↦ elim i [ ] ])
      (λ f u. elim [ here g ↦ left_in g (omega arith) | there (here g) ↦ right_in g (omega arith) | there (there i) ↦ elim i [ ] ])
    where
      left_in : {u : Term} → u ≡ term_among ts r.left → 0 < part_count r.kind → u ∈ ts
      left_in g l = subst (λ x. x ∈ ts) (sym g) (among_in n r.left r e ((kept n r e).left_before l))

      right_in : {u : Term} → u ≡ term_among ts r.right → 1 < part_count r.kind → u ∈ ts
      right_in g l = subst (λ x. x ∈ ts) (sym g) (among_in n r.right r e ((kept n r e).right_before l))

  closed : (t u : Term) → t ∈ ts → u ∈ parts t → u ∈ ts
  closed t u i j =
      let (k, e) = in_slice_get ts t i in
      let (r, at, says) = said_by_row rows kept (suc k) t e in
      parts_in (suc k) r at u (subst (λ x. u ∈ parts x) (sym says) j)

-- how many rows are in use
used_is : (c : Case) → length (rows_of c) ≡ c.used
used_is c = length-take-le c.used c.table.rows (omega (arith, c.full, c.few))

-- rows that are not in use
blank_is : (r : Row) → is_blank r ≡ true → r ≡ blank
blank_is r h =
    let (like, off) = and_parts (alike r blank) _ h in
    let same = alike_is r blank like in
    let unmarked = not-true r.given off in
    λ i. record { kind = same.kinds i; left = same.lefts i; right = same.rights i; given = unmarked i }

unused_at : (xs : List Row) → unused xs ≡ true → (i : ℕ) → i < length xs → slice_get xs i ≡ Some blank
unused_at [] h i l = absurd (not-suc-le-zero l)
unused_at (r ∷ xs) h zero l = ap Some (blank_is r (and_parts _ _ h).0)
unused_at (r ∷ xs) h (suc i) l = unused_at xs (and_parts (is_blank r) _ h).1 i (omega arith)

pub case_sound : (c : Case) → Sound (rows_of c)
case_sound c = sound (rows_of c) c.stands

-- the rows of a case that are not in use, and those that are given
module _ (c : Case) where
  abbrev all : List Row
  all = c.table.rows

  beyond : (n : ℕ) → length (rows_of c) < n → n ≤ 1024 → numbered all n ≡ Some blank
  beyond zero l few = absurd (not-suc-le-zero l)
  beyond (suc i) l few =
      let used : c.used ≤ i = omega (arith, used_is c) in
      let i_is : c.used + (i - c.used) ≡ i = omega arith in
      let short : i - c.used < length (drop c.used all) = rw length-drop (omega (arith, c.full)) in
      ap (slice_get all) (sym i_is) ∙ (sym (slice_get-drop all c.used (i - c.used)) ∙ unused_at (drop c.used all) c.rest (i - c.used) short)

  given_in_use : (n : ℕ) (r : Row) → numbered all n ≡ Some r → r.given ≡ true → row_at c n ≡ Some r
  given_in_use n r e given = elim (cases_lt c.used n) [ inl l ↦ absurd (true≢false (sym given ∙ unmarked l)) | inr l ↦ numbered-take all c.used n l ∙ e ]
    where
      unmarked : c.used < n → r.given ≡ false
      unmarked l =
          let (p, few) = numbered_within all n r e in
          ap (λ x. x.given) (same_Some _ _ (sym e ∙ beyond n (omega (arith, used_is c)) (omega (arith, c.full))))

pub cases_keep : CasesKeep
cases_keep c = record { room = omega (arith, used_is c, c.few); sound = case_sound c; beyond = beyond c; given_in_use = given_in_use c }

pub rows_say_terms : RowsSayTerms
rows_say_terms c = terms_said (rows_of c) (case_sound c).each

-- the kind of a row is that of its term
pub kind_said : (c : Case) (n : ℕ) → option_map (λ r. r.kind) (row_at c n) ≡ kind_at c n
kind_said c n = by (row_at c n) (said_at (rows_of c) (case_sound c).each n)
  where
    by : (o : Option Row) → term_at c n ≡ option_map (said (terms_of c)) o → option_map (λ r. r.kind) o ≡ kind_at c n
    by None e = sym (ap (option_map kind) e)
    by (Some r) e = ap Some (by_parts (terms_of c) r (λ t. r.kind ≡ kind t) (λ z. z) (λ f. refl) (λ f. refl)) ∙ sym (ap (option_map kind) e)

pub terms_proper : TermsProper
terms_proper c t i =
    let (k, e) = in_slice_get (terms_of c) t i in
    let (r, at, says) = said_by_row (rows_of c) (case_sound c).each (suc k) t e in
    subst Proper says (proper r ((case_sound c).each (suc k) r at))
  where
    same_label : {a b : ℕ} → atom a ≡ atom b → a ≡ b
    same_label f = cc

    proper : (r : Row) {n : ℕ} → Kept n r → Proper (said (terms_of c) r)
    proper r kept = by_parts (terms_of c) r Proper
        (λ z. record { kind_known = omega arith; label_small = λ label f. subst (λ l. l ≤ 9999) (same_label f) (kept.label_small (ap part_count z)); parts_fit = refl })
        (λ f. record { kind_known = kept.kind_known; label_small = λ label g. absurd (let z : ◌≡◌ {A = ℕ} 0 1 = cc in omega arith); parts_fit = sym f })
        (λ f. record { kind_known = kept.kind_known; label_small = λ label g. absurd (let z : ◌≡◌ {A = ℕ} 0 1 = cc in omega arith); parts_fit = sym f })

pub given_rows : GivenRows
given_rows c t = (into, from)
  where
    into : t ∈ given_of c → (n : ℕ) × (r : Row) × (row_at c n ≡ Some r) × (r.given ≡ true) × Holds c n t
    into i = let (k, r, at, given, is) = marked_from t (rows_of c) (terms_of c) i in (suc k, r, at, given, is)

    from : (n : ℕ) × (r : Row) × (row_at c n ≡ Some r) × (r.given ≡ true) × Holds c n t → t ∈ given_of c
    from (zero, r, at, given, is) = absurd (none-some _ at)
    from (suc k, r, at, given, is) = marked_into t (rows_of c) (terms_of c) k r at given is

pub cases_cover : CasesCover
cases_cover c = record {
  parts_too = closed (rows_of c) (case_sound c).each;
  given_too = λ t i. let (k, r, at, given, is) = marked_from t (rows_of c) (terms_of c) i in slice_get_in (terms_of c) k t is;
}

pub terms_differ : TermsDiffer
terms_differ c = once (terms_of c) (case_sound c).differ

pub one_row : OneRow
one_row c n t = (
  (λ e. ((numbered_within (terms_of c) n t e).0, place_is (terms_of c) (case_sound c).differ t n e)),
  λ (p, e). place_has (terms_of c) t n p e,
)

pub in_row : (c : Case) (t : Term) → t ∈ terms_of c → Holds c (row_of c t) t
in_row c t i = place_has (terms_of c) t (row_of c t) (place_there (terms_of c) t i) refl

-- The test that cases keep, row by row.
use Rattle.std.proofs.Common.{◌≡◌, ℕ, zero, suc, ◌≤◌, true, false, not, ◌&&◌, eqb, leb, List, [], ◌∷◌, ◌++◌, length, take, Some, sym, refl, subst, append_assoc, append-nil, arith}
use Rattle.std.specs.List.{slice_get}
use Rattle.std.proofs.lemmas.Bool.{and_parts, and_from, not-true, not_from_false, leb-true, eqb-true, le-leb, eq-eqb}
use Rattle.std.proofs.lemmas.Option.{none-some, same_Some}
use Rattle.cases.specs.declared.row.Row.{Row}
use Rattle.cases.specs.Parts.{part_count}
use Rattle.cases.specs.Rows.{names, parted, well_formed, alike, new, standing_after}
use Rattle.cases.specs.Theorems.{Before, Kept}

-- a row may stand behind others
abbrev pub Fits : List Row → Row → Type 0
Fits before r = (well_formed (length before) r ≡ true) × (new r before ≡ true)

pub fits_at : (before rest : List Row) → standing_after before rest ≡ true → (i : ℕ) (r : Row) → slice_get rest i ≡ Some r → Fits (before ++ take i rest) r
fits_at before [] s i r e = absurd (none-some _ e)
fits_at before (x ∷ rest) s zero r e =
    let first = and_parts _ _ (and_parts _ _ s).0 in
    subst (λ y. Fits (before ++ []) y) (same_Some _ _ e) (subst (λ l. Fits l x) (sym (append-nil before)) first)
fits_at before (x ∷ rest) s (suc i) r e =
    subst (λ l. Fits l r) (append_assoc before (x ∷ []) (take i rest)) (fits_at (before ++ (x ∷ [])) rest (and_parts _ _ s).1 i r e)

pub stands_from : (before rest : List Row) → ((i : ℕ) (r : Row) → slice_get rest i ≡ Some r → Fits (before ++ take i rest) r) → standing_after before rest ≡ true
stands_from before [] fits = refl
stands_from before (x ∷ rest) fits =
    let first = subst (λ l. Fits l x) (append-nil before) (fits 0 x refl) in
    let others = λ (i : ℕ) (r : Row) (e : slice_get rest i ≡ Some r). subst (λ l. Fits l r) (sym (append_assoc before (x ∷ []) (take i rest))) (fits (suc i) r e) in
    and_from _ _ (and_from _ _ first.0 first.1) (stands_from (before ++ (x ∷ [])) rest others)

-- a new row is like none of the others
pub new_apart : (r : Row) (xs : List Row) → new r xs ≡ true → (j : ℕ) (s : Row) → slice_get xs j ≡ Some s → alike r s ≡ false
new_apart r [] h j s e = absurd (none-some _ e)
new_apart r (x ∷ xs) h zero s e = subst (λ y. alike r y ≡ false) (same_Some _ _ e) (not-true (alike r x) (and_parts _ _ h).0)
new_apart r (x ∷ xs) h (suc j) s e = new_apart r xs (and_parts (not (alike r x)) _ h).1 j s e

pub new_from : (r : Row) (xs : List Row) → ((j : ℕ) (s : Row) → slice_get xs j ≡ Some s → alike r s ≡ false) → new r xs ≡ true
new_from r [] apart = refl
new_from r (x ∷ xs) apart = and_from _ _ (not_from_false _ (apart 0 x refl)) (new_from r xs (λ j s e. apart (suc j) s e))

-- two rows are alike if kind, left and right are the same
pub record Alike (r s : Row) : Type 0 where
  pub kinds : r.kind ≡ s.kind
  pub lefts : r.left ≡ s.left
  pub rights : r.right ≡ s.right

pub alike_is : (r s : Row) → alike r s ≡ true → Alike r s
alike_is r s h =
    let (front, last) = and_parts (eqb r.kind s.kind && eqb r.left s.left) _ h in
    let (first, second) = and_parts (eqb r.kind s.kind) _ front in
    record { kinds = eqb-true _ _ first; lefts = eqb-true _ _ second; rights = eqb-true _ _ last }

pub is_alike : (r s : Row) → Alike r s → alike r s ≡ true
is_alike r s h = and_from _ _ (and_from _ _ (eq-eqb _ _ h.kinds) (eq-eqb _ _ h.lefts)) (eq-eqb _ _ h.rights)

-- what a well-formed row keeps
names_is : (n row : ℕ) → names n row ≡ true → Before (suc n) row
names_is n row h = let (low, high) = and_parts (leb 1 row) _ h in (leb-true _ _ low, let l = leb-true row n high in omega arith)

is_names : (n row : ℕ) → Before (suc n) row → names n row ≡ true
is_names n row (low, high) = and_from _ _ (le-leb _ _ low) (le-leb _ _ (omega arith))

module _ (n : ℕ) (r : Row) where
  kept_by : (p : ℕ) → part_count r.kind ≡ p → r.kind ≤ 15 → parted p n r ≡ true → Kept (suc n) r
  kept_by zero e k h =
      let (small, none) = and_parts (leb r.left 9999) _ h in
      record { kind_known = k; label_small = λ z. leb-true _ _ small; left_before = λ l. absurd (omega arith); right_before = λ l. absurd (omega arith); right_absent = λ l. eqb-true _ _ none }
  kept_by (suc zero) e k h =
      let (left, none) = and_parts (names n r.left) _ h in
      record { kind_known = k; label_small = λ z. absurd (omega arith); left_before = λ l. names_is n _ left; right_before = λ l. absurd (omega arith); right_absent = λ l. eqb-true _ _ none }
  kept_by (suc (suc more)) e k h =
      let (left, right) = and_parts (names n r.left) _ h in
      record { kind_known = k; label_small = λ z. absurd (omega arith); left_before = λ l. names_is n _ left; right_before = λ l. names_is n _ right; right_absent = λ l. absurd (omega arith) }

  pub kept_is : well_formed n r ≡ true → Kept (suc n) r
  kept_is h = let (k, by_parts) = and_parts (leb r.kind 15) _ h in kept_by (part_count r.kind) refl (leb-true _ _ k) by_parts

  parted_from : (p : ℕ) → part_count r.kind ≡ p → Kept (suc n) r → parted p n r ≡ true
  parted_from zero e k = and_from _ _ (le-leb _ _ (k.label_small e)) (eq-eqb _ _ (k.right_absent (omega arith)))
  parted_from (suc zero) e k = and_from _ _ (is_names n _ (k.left_before (omega arith))) (eq-eqb _ _ (k.right_absent (omega arith)))
  parted_from (suc (suc more)) e k = and_from _ _ (is_names n _ (k.left_before (omega arith))) (is_names n _ (k.right_before (omega arith)))

  pub is_kept : Kept (suc n) r → well_formed n r ≡ true
  is_kept k = and_from _ _ (le-leb _ _ k.kind_known) (parted_from (part_count r.kind) refl k)

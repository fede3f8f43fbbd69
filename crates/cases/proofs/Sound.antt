-- Rows pass the test that cases keep exactly if each keeps what it should and no two say one term.
use Rattle.std.proofs.Common.{◌≡◌, ℕ, zero, suc, ◌<◌, ◌≤◌, true, false, List, [], length, take, Some, sym, refl, ap, ◌∙◌, subst, inl, inr, true≢false, arith}
use Rattle.std.specs.List.{slice_get}
use Rattle.std.proofs.lemmas.List.{length-take-le}
use Rattle.std.proofs.lemmas.Bool.{cases_order, cases_Bool}
use Rattle.knowledge.specs.Terms.{Term, atom, one, two}
use Rattle.cases.specs.declared.row.Row.{Row}
use Rattle.cases.specs.Parts.{part_count}
use Rattle.cases.specs.Rows.{well_formed, alike, standing}
use Rattle.cases.specs.Said.{numbered, term_among, said_by, said, terms}
use Rattle.cases.specs.Theorems.{Before, Kept, Sound, SoundRows}
use Rattle.cases.proofs.Numbered.{slice_get-take, numbered_within}
use Rattle.std.proofs.lemmas.Option.{none-some, slice_get_within}
use Rattle.cases.proofs.Standing.{Fits, fits_at, stands_from, new_apart, new_from, Alike, alike_is, is_alike, kept_is, is_kept}
use Rattle.cases.proofs.Said.{by_parts, AllKept, length-terms, numbered_among, row_says, said_by_row}

-- what a row says tells its kind, and its label or its parts
module _ (ts : List Term) (r : Row) where
  abbrev Tells : Term → Type 0
  Tells (atom label) = (r.kind ≡ 0) × (r.left ≡ label)
  Tells (one k a) = (part_count r.kind ≡ 1) × (r.kind ≡ k) × (term_among ts r.left ≡ a)
  Tells (two k a b) = (part_count r.kind ≡ 2) × (r.kind ≡ k) × (term_among ts r.left ≡ a) × (term_among ts r.right ≡ b)

  pub told : (t : Term) → said ts r ≡ t → Tells t
  told t e = subst Tells e (by_parts ts r Tells (λ z. (z, refl)) (λ f. (f, refl, refl)) (λ f. (f, refl, refl, refl)))

-- rows that are alike say the same
alike_said : (ts : List Term) (r s : Row) → Alike r s → said ts r ≡ said ts s
alike_said ts r s h =
    (λ i. said ts (record { kind = h.kinds i; left = h.lefts i; right = h.rights i; given = r.given })) ∙ by (part_count s.kind)
  where
    by : (p : ℕ) → said_by p ts (record { kind = s.kind; left = s.left; right = s.right; given = r.given }) ≡ said_by p ts s
    by zero = refl
    by (suc zero) = refl
    by (suc (suc more)) = refl

module _ (rows : List Row) where
  -- no two rows are alike
  abbrev pub Apart : Type 0
  Apart = (n m : ℕ) (r s : Row) → numbered rows n ≡ Some r → numbered rows m ≡ Some s → Alike r s → n ≡ m

  module _ (kept : AllKept rows) where
    -- the row that a part names holds that part
    pub part_held : (n row : ℕ) (r : Row) → numbered rows n ≡ Some r → Before n row → numbered (terms rows) row ≡ Some (term_among (terms rows) row)
    part_held n row r e (low, high) =
        let (p, l) = numbered_within rows n r e in
        let few : row ≤ length (terms rows) = rw length-terms (omega arith) in
        numbered_among (terms rows) row low few

    -- a term stands in one row
    abbrev Differs : Term → Type 0
    Differs t = (n m : ℕ) → numbered (terms rows) n ≡ Some t → numbered (terms rows) m ≡ Some t → n ≡ m

    -- a part that two rows have, if it stands in one row
    same_part : (a : Term) → Differs a → (n row : ℕ) (r : Row) → numbered rows n ≡ Some r → Before n row → term_among (terms rows) row ≡ a
        → (m low : ℕ) (s : Row) → numbered rows m ≡ Some s → Before m low → term_among (terms rows) low ≡ a → row ≡ low
    same_part a once n row r e before f m low s e' before' f' = once row low (part_held n row r e before ∙ ap Some f) (part_held m low s e' before' ∙ ap Some f')

    module _ (apart : Apart) where
      -- a term stands in one row if rows that say it are alike
      one_row : (t : Term) → ((n m : ℕ) (r s : Row) → numbered rows n ≡ Some r → numbered rows m ≡ Some s → Tells (terms rows) r t → Tells (terms rows) s t → Alike r s) → Differs t
      one_row t same n m e f =
          let (r, at_n, says_r) = said_by_row rows kept n t e in
          let (s, at_m, says_s) = said_by_row rows kept m t f in
          apart n m r s at_n at_m (same n m r s at_n at_m (told (terms rows) r t says_r) (told (terms rows) s t says_s))

      pub differs : (t : Term) → Differs t
      differs (atom label) = one_row (atom label) (λ n m r s at_n at_m (kind_r, left_r) (kind_s, left_s). record {
        kinds = kind_r ∙ sym kind_s;
        lefts = left_r ∙ sym left_s;
        rights = (kept n r at_n).right_absent (rw kind_r (omega arith)) ∙ sym ((kept m s at_m).right_absent (rw kind_s (omega arith)));
      })
      differs (one k a) = one_row (one k a) (λ n m r s at_n at_m (parts_r, kind_r, left_r) (parts_s, kind_s, left_s). record {
        kinds = kind_r ∙ sym kind_s;
        lefts = same_part a (differs a) n r.left r at_n ((kept n r at_n).left_before (omega arith)) left_r m s.left s at_m ((kept m s at_m).left_before (omega arith)) left_s;
        rights = (kept n r at_n).right_absent (omega arith) ∙ sym ((kept m s at_m).right_absent (omega arith));
      })
      differs (two k a b) = one_row (two k a b) (λ n m r s at_n at_m (parts_r, kind_r, left_r, right_r) (parts_s, kind_s, left_s, right_s). record {
        kinds = kind_r ∙ sym kind_s;
        lefts = same_part a (differs a) n r.left r at_n ((kept n r at_n).left_before (omega arith)) left_r m s.left s at_m ((kept m s at_m).left_before (omega arith)) left_s;
        rights = same_part b (differs b) n r.right r at_n ((kept n r at_n).right_before (omega arith)) right_r m s.right s at_m ((kept m s at_m).right_before (omega arith)) right_s;
      })

  -- from the test
  module _ (stands : standing rows ≡ true) where
    fits : (i : ℕ) (r : Row) → slice_get rows i ≡ Some r → Fits (take i rows) r
    fits i r e = fits_at [] rows stands i r e

    pub all_kept : AllKept rows
    all_kept zero r e = absurd (none-some _ e)
    all_kept (suc i) r e =
        let l = slice_get_within rows i r e in
        let front : length (take i rows) ≡ i = length-take-le i rows (omega arith) in
        subst (λ n. Kept (suc n) r) front (kept_is (length (take i rows)) r (fits i r e).0)

    earlier : (i j : ℕ) (r s : Row) → slice_get rows i ≡ Some r → slice_get rows j ≡ Some s → j < i → Alike r s → ⊥
    earlier i j r s e f l h = true≢false (sym (is_alike r s h) ∙ new_apart r (take i rows) (fits i r e).1 j s (slice_get-take rows i j l ∙ f))

    all_apart : Apart
    all_apart zero m r s e f h = absurd (none-some _ e)
    all_apart (suc i) zero r s e f h = absurd (none-some _ f)
    all_apart (suc i) (suc j) r s e f h =
        elim (cases_order i j) [
          | inl same ↦ ap suc same
          | inr (inl l) ↦ absurd (earlier j i s r f e l (record { kinds = sym h.kinds; lefts = sym h.lefts; rights = sym h.rights }))
          | inr (inr l) ↦ absurd (earlier i j r s e f l h)
        ]

    pub sound : Sound rows
    sound = record { each = all_kept; differ = λ n m t. differs all_kept all_apart t n m }

  -- to the test
  module _ (sound : Sound rows) where
    unlike : (i j : ℕ) (r s : Row) → slice_get rows i ≡ Some r → slice_get rows j ≡ Some s → j < i → alike r s ≡ false
    unlike i j r s e f l =
        elim (cases_Bool (alike r s)) [
          | inr no_alike ↦ no_alike
          | inl same ↦
              let at_i = row_says rows sound.each (suc i) r e in
              let at_j = row_says rows sound.each (suc j) s f in
              let one_row = sound.differ (suc i) (suc j) _ at_i (at_j ∙ ap Some (sym (alike_said (terms rows) r s (alike_is r s same)))) in
              absurd (omega arith)
        ]

    fits_in : (i : ℕ) (r : Row) → slice_get rows i ≡ Some r → Fits (take i rows) r
    fits_in i r e =
        let l = slice_get_within rows i r e in
        let front : length (take i rows) ≡ i = length-take-le i rows (omega arith) in (
          subst (λ n. well_formed n r ≡ true) (sym front) (is_kept i r (sound.each (suc i) r e)),
          new_from r (take i rows) (λ j s f.
              let before = slice_get_within (take i rows) j s f in
              unlike i j r s e (sym (slice_get-take rows i j (omega arith)) ∙ f) (omega arith)),
        )

    stands_too : standing rows ≡ true
    stands_too = stands_from [] rows fits_in

pub sound_rows : SoundRows
sound_rows rows = (sound rows, stands_too rows)

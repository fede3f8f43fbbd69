-- The terms that rows say, where parts come before the whole.
use Rattle.std.proofs.Common.{◌≡◌, ℕ, zero, suc, ◌+◌, ◌<◌, ◌≤◌, List, [], ◌∷◌, ◌++◌, map, length, Some, None, Option, unwrap_or, sym, refl, ap, ◌∙◌, subst, ap₂, append_assoc, zero-add, arith, length-append}
use Rattle.std.specs.List.{slice_get}
use Rattle.std.specs.Option.{option_map}
use Rattle.std.proofs.lemmas.Bool.Decides.{nat_tests}
use Rattle.std.proofs.lemmas.Option.{none-some, same_Some}
use Rattle.knowledge.specs.Terms.{Term, atom, one, two}
use Rattle.cases.specs.declared.row.Row.{Row}
use Rattle.cases.specs.Parts.{part_count}
use Rattle.cases.specs.Said.{numbered, term_among, said_by, said, terms_after, terms}
use Rattle.cases.specs.Theorems.{Kept}
use Rattle.cases.proofs.Numbered.{numbered_left, numbered-map, numbered_there}

-- no kind has more than two parts, and only an atom's has none
two_at_most : (k : ℕ) → part_count k ≤ 2
two_at_most k = grind (arith, nat_tests)

atom_kind : (k : ℕ) → part_count k ≡ 0 → k ≡ 0
atom_kind k e = grind (arith, nat_tests)

-- what holds of a row's term, by its number of parts
pub by_parts : (ts : List Term) (r : Row) (P : Term → Type 0) → (r.kind ≡ 0 → P (atom r.left))
    → (part_count r.kind ≡ 1 → P (one r.kind (term_among ts r.left)))
    → (part_count r.kind ≡ 2 → P (two r.kind (term_among ts r.left) (term_among ts r.right))) → P (said ts r)
by_parts ts r P none lone both = by (part_count r.kind) refl
  where
    by : (p : ℕ) → part_count r.kind ≡ p → P (said_by p ts r)
    by zero e = none (atom_kind r.kind e)
    by (suc zero) e = lone e
    by (suc (suc more)) e = both (let few = two_at_most r.kind in omega arith)

-- a row says the same whatever terms stand behind those that it names
module _ (ts us : List Term) (r : Row) (k : Kept (suc (length ts)) r) where
  among_more : (n : ℕ) → n ≤ length ts → term_among ts n ≡ term_among (ts ++ us) n
  among_more n l = ap (λ o. unwrap_or o (atom 0)) (sym (numbered_left ts us n l))

  by_count : (p : ℕ) → part_count r.kind ≡ p → said_by p ts r ≡ said_by p (ts ++ us) r
  by_count zero e = refl
  by_count (suc zero) e = let (low, high) = k.left_before (omega arith) in ap (one r.kind) (among_more r.left (omega arith))
  by_count (suc (suc more)) e =
      let (low, high) = k.left_before (omega arith) in
      let (low', high') = k.right_before (omega arith) in
      ap₂ (two r.kind) (among_more r.left (omega arith)) (among_more r.right (omega arith))

  said_more : said ts r ≡ said (ts ++ us) r
  said_more = by_count (part_count r.kind) refl

said_after : (before : List Term) (rest : List Row) → ((i : ℕ) (r : Row) → slice_get rest i ≡ Some r → Kept (suc (length before + i)) r)
    → terms_after before rest ≡ map (said (before ++ terms_after before rest)) rest
said_after before [] kept = refl
said_after before (r ∷ rest) kept =
    ap₂ (λ x xs. x ∷ xs) (said_more before _ r (subst (λ n. Kept (suc n) r) (omega arith) (kept 0 r refl)))
    (subst (λ l. terms_after (before ++ (said before r ∷ [])) rest ≡ map (said l) rest) (append_assoc before (said before r ∷ []) _)
    (said_after (before ++ (said before r ∷ [])) rest (λ i s e. subst (λ n. Kept (suc n) s) (simp length-append (omega arith)) (kept (suc i) s e))))

pub length-terms : (before : List Term) (rest : List Row) → length (terms_after before rest) ≡ length rest
length-terms before [] = refl
length-terms before (r ∷ rest) = ap suc (length-terms (before ++ (said before r ∷ [])) rest)

-- a term with a number that the list has
pub numbered_among : (ts : List Term) (n : ℕ) → 0 < n → n ≤ length ts → numbered ts n ≡ Some (term_among ts n)
numbered_among ts n p l = let (t, e) = numbered_there ts n p l in e ∙ ap (λ o. Some (unwrap_or o (atom 0))) (sym e)

-- the value behind a function of an option
pub mapped_back : {A B : Type 0} (f : A → B) (o : Option A) (y : B) → option_map f o ≡ Some y → (x : A) × (o ≡ Some x) × (f x ≡ y)
mapped_back f None y e = absurd (none-some _ e)
mapped_back f (Some x) y e = (x, refl, same_Some _ _ e)

-- every row keeps what it should
abbrev pub AllKept : List Row → Type 0
AllKept rows = (n : ℕ) (r : Row) → numbered rows n ≡ Some r → Kept n r

module _ (rows : List Row) (kept : AllKept rows) where
  pub terms_said : terms rows ≡ map (said (terms rows)) rows
  terms_said = said_after [] rows (λ i r e. subst (λ n. Kept (suc n) r) (sym (zero-add i)) (kept (suc i) r e))

  pub said_at : (n : ℕ) → numbered (terms rows) n ≡ option_map (said (terms rows)) (numbered rows n)
  said_at n = ap (λ l. numbered l n) terms_said ∙ numbered-map (said (terms rows)) rows n

  pub row_says : (n : ℕ) (r : Row) → numbered rows n ≡ Some r → numbered (terms rows) n ≡ Some (said (terms rows) r)
  row_says n r e = said_at n ∙ ap (option_map (said (terms rows))) e

  pub said_by_row : (n : ℕ) (t : Term) → numbered (terms rows) n ≡ Some t → (r : Row) × (numbered rows n ≡ Some r) × (said (terms rows) r ≡ t)
  said_by_row n t e = mapped_back (said (terms rows)) (numbered rows n) t (sym (said_at n) ∙ e)

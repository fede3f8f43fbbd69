-- The steps of the three theories, read off the rows of a case.
use Rattle.std.proofs.Common.{◌≡◌, ℕ, cond, List, [], ◌∷◌, map, length, Some, None, Option, refl, ◌∙◌, subst, arith}
use Rattle.std.specs.Option.{option_map}
use Rattle.std.proofs.lemmas.Bool.Decides.{nat_tests}
use Rattle.knowledge.specs.Terms.{Term, atom, one, two, kind, parts}
use Rattle.knowledge.specs.Meanings.{Meaning}
use Rattle.knowledge.specs.Kinds.{pair, cipher, public_key, sealed, reply, is, opened, plain, public_keys, replies}
use Rattle.cases.specs.declared.row.Row.{Row}
use Rattle.cases.specs.declared.case.Case.{Case}
use Rattle.cases.specs.Parts.{part_count}
use Rattle.cases.specs.Case.{row_at, terms_of, term_at, row_of}
use Rattle.cases.proofs.Numbered.{numbered_in}
use Rattle.cases.proofs.Holds.{terms_proper}
use Rattle.theories.specs.Answers.{owns_in, builds_in, owns_at, builds_at, by_rows, taking_rows}
use Rattle.theories.proofs.AtRows.{row_is, row_held, left, right, held, by_its_rows, rows_are}

-- a body beside the secret of its key, if the key's row is a public key
abbrev opened_by : Option Row → ℕ → List (ℕ × ℕ)
opened_by None body = []
opened_by (Some key) body = cond (is public_key key.kind) ((key.left, body) ∷ []) []

-- the takings of the three theories as a row says them: a pair's parts, and a cipher's body beside its key
abbrev pub plain_rows : Row → List (ℕ × ℕ)
plain_rows r = cond (is pair r.kind) ((0, r.left) ∷ (0, r.right) ∷ []) (cond (is cipher r.kind) ((r.right, r.left) ∷ []) [])

-- a sealed body, as the row of its key says
abbrev pub public_key_rows : Case → Row → List (ℕ × ℕ)
public_key_rows c r = cond (is sealed r.kind) (opened_by (row_at c r.right) r.left) []

-- the answered term beside the asked one
abbrev pub reply_rows : Row → List (ℕ × ℕ)
reply_rows r = cond (is reply r.kind) ((r.left, r.right) ∷ []) []

-- what a row in use says is what is taken from its term
module _ (c : Case) (n : ℕ) (r : Row) (e : row_at c n ≡ Some r) where
  pub plain_read : taking_rows plain c n ≡ plain_rows r
  plain_read = rows_are c n r e plain ∙ by_its_rows c n r e (λ t. map (by_rows c) (plain.takings t) ≡ plain_rows r)
      (λ z. grind (arith, nat_tests)) (λ f l. grind (arith, nat_tests)) (λ f l h. let right_is = row_is c _ _ h in grind (arith, nat_tests))

  pub reply_read : taking_rows replies c n ≡ reply_rows r
  reply_read = rows_are c n r e replies ∙ by_its_rows c n r e (λ t. map (by_rows c) (replies.takings t) ≡ reply_rows r)
      (λ z. grind (arith, nat_tests)) (λ f l. grind (arith, nat_tests)) (λ f l h. let right_is = row_is c _ _ h in grind (arith, nat_tests))

  -- the row of a key says whether it is a public key, and of what secret
  key_says : row_of c (left c r) ≡ r.left → (key : Row) → row_at c r.right ≡ Some key
      → map (by_rows c) (opened (left c r) (held c key)) ≡ opened_by (Some key) r.left
  key_says is key at = by_its_rows c r.right key at (λ t. map (by_rows c) (opened (left c r) t) ≡ opened_by (Some key) r.left)
      (λ z. grind (arith, nat_tests)) (λ f l. grind (arith, nat_tests)) (λ f l h. grind (arith, nat_tests))

  pub public_key_read : taking_rows public_keys c n ≡ public_key_rows c r
  public_key_read = rows_are c n r e public_keys ∙ by_its_rows c n r e (λ t. map (by_rows c) (public_keys.takings t) ≡ public_key_rows c r)
      (λ z. grind (arith, nat_tests)) (λ f l. grind (arith, nat_tests))
      (λ f l h. let (key, at, says) = row_held c r.right (right c r) h in
      let opens = key_says l key at in
      subst (λ t. map (by_rows c) (public_keys.takings (two r.kind (left c r) t)) ≡ public_key_rows c r) says (grind (arith, nat_tests)))

-- a theory that can build, among terms with the parts of their kind, just what it owns
module _ (m : Meaning) (none : (label : ℕ) → m.builds (atom label) ≡ m.owns 0)
    (lone : (k : ℕ) (t : Term) → 1 ≡ part_count k → m.builds (one k t) ≡ m.owns k)
    (both : (k : ℕ) (t u : Term) → 2 ≡ part_count k → m.builds (two k t u) ≡ m.owns k) (c : Case) (n : ℕ) where
  builds_owned : builds_at m c n ≡ owns_at m c n
  builds_owned = by (term_at c n) refl
    where
      each : (t : Term) → length (parts t) ≡ part_count (kind t) → m.builds t ≡ m.owns (kind t)
      each (atom label) e = none label
      each (one k t) e = lone k t e
      each (two k t u) e = both k t u e

      by : (o : Option Term) → term_at c n ≡ o → builds_in m o ≡ owns_in m (option_map kind o)
      by None e = refl
      by (Some t) e = each t (terms_proper c t (numbered_in (terms_of c) n t e)).parts_fit

pub plain_builds : (c : Case) (n : ℕ) → builds_at plain c n ≡ owns_at plain c n
plain_builds = builds_owned plain (λ label. refl) (λ k t e. grind (arith, nat_tests)) (λ k t u e. grind (arith, nat_tests))

pub public_key_builds : (c : Case) (n : ℕ) → builds_at public_keys c n ≡ owns_at public_keys c n
public_key_builds = builds_owned public_keys (λ label. refl) (λ k t e. grind (arith, nat_tests)) (λ k t u e. grind (arith, nat_tests))

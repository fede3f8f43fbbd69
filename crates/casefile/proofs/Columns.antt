-- A text and its last column, and that a number is told from its columns. Assumes nothing.
use Rattle.std.proofs.Common.{◌≡◌, ℕ, zero, suc, ◌+◌, ◌-◌, ◌/◌, ◌^◌, ◌<◌, ◌≢◌, List, [], ◌∷◌, ◌++◌, length, get_or, take, Some, None, Option, sym, refl, ◌∙◌, pow-suc, add-one, arith, MatchOption}
use Rattle.std.proofs.lemmas.List.{take_all, take_more, same_from_push, length_push, length-take-le}
use Rattle.std.proofs.lemmas.Bool.{cases_eq}
use Rattle.std.proofs.lemmas.Bool.Decides.{nat_tests}
use Rattle.casefile.specs.Fields.{mark, front, field_of}

length-front : (w n : ℕ) → length (front w n) ≡ w
length-front zero n = refl
length-front (suc w) n = rw (length_push, length-front w, add-one)

-- marks tell numbers of equal tens apart
mark_same : (m n : ℕ) → m / 10 ≡ n / 10 → mark m ≡ mark n → m ≡ n
mark_same m n e h = grind (arith, nat_tests, cases_eq m 0, cases_eq n 0)

front_same : (w m n : ℕ) → m < 10 ^ w → n < 10 ^ w → front w m ≡ front w n → m ≡ n
front_same zero m n p q e = omega arith
front_same (suc w) m n p q e =
    let parts = same_from_push (front w (m / 10)) (front w (n / 10)) (mark m) (mark n) e in
    mark_same m n (front_same w (m / 10) (n / 10) (omega (arith, pow-suc 10 w)) (omega (arith, pow-suc 10 w)) parts.0) parts.1

-- one column more than the w that are read: g writes a number's columns, and f the last
module _ (f : ℕ → ℕ) (g : ℕ → List ℕ) (t : List ℕ) (w above : ℕ) (writes : (n : ℕ) → g n ≡ front w (n / 10) ++ (f n ∷ [])) (long : length t ≡ suc w) (is : (above < 10 ^ length (take w t)) × (take w t ≡ front (length (take w t)) above)) where
  columns : t ≡ take w t ++ (get_or t w 0 ∷ [])
  columns = sym (take_all (w + 1) t (omega arith)) ∙ take_more t w 0 (omega arith)

  up : (above < 10 ^ w) × (take w t ≡ front w above)
  up = rw (length-take-le w t (omega arith)) at is

  pub one_more : (r : Option ℕ) → MatchOption r ((n : ℕ) → n / 10 ≡ above → f n ≢ get_or t w 0) (λ n. (n / 10 ≡ above) × (f n ≡ get_or t w 0)) → MatchOption r ((n : ℕ) → n < 10 ^ length t → t ≢ g n) (λ n. (n < 10 ^ length t) × (t ≡ g n))
  one_more None none =
      λ n lt h.
      let small = rw long at lt in
      let parts = same_from_push _ _ _ _ (sym columns ∙ h ∙ writes n) in
      none n (front_same w (n / 10) above (omega (arith, pow-suc 10 w)) up.0 (sym parts.0 ∙ up.1)) (sym parts.1)
  one_more (Some n) told = (rw long (omega (arith, pow-suc 10 w, up.0)), columns ∙ cc (writes n, up.1))

pub length-field_of : (w n : ℕ) → 0 < w → length (field_of w n) ≡ w
length-field_of w n some = rw (length_push, length-front) (omega arith)

-- numbers that fit are told from their fields
pub field_of_same : (w m n : ℕ) → 0 < w → m < 10 ^ w → n < 10 ^ w → field_of w m ≡ field_of w n → m ≡ n
field_of_same zero m n some p q e = omega arith
field_of_same (suc w) m n some p q e =
    let before : suc w - 1 ≡ w = omega arith in
    let parts = same_from_push _ _ _ _ (rw before at e) in
    let tens = front_same w (m / 10) (n / 10) (omega (arith, pow-suc 10 w)) (omega (arith, pow-suc 10 w)) parts.0 in
    omega (arith, parts.1)

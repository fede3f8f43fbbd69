-- A field's text is spaces, then the number's decimal digits. Assumes nothing.
use Rattle.std.proofs.Common.{◌≡◌, ℕ, zero, suc, ◌+◌, ◌-◌, ◌/◌, ◌%◌, ◌^◌, ◌<◌, ◌≤◌, List, [], ◌∷◌, ◌++◌, length, replicate, decimal, refl, append_assoc, pow-suc, add-one, arith}
use Rattle.std.proofs.Math.Nat.{pow-le-pow_right}
use Rattle.std.proofs.lemmas.Fmt.{decimal_digit, decimal_by_steps}
use Rattle.std.proofs.lemmas.List.{replicate_more, length_push}
use Rattle.std.proofs.lemmas.Bool.{cases_eq}
use Rattle.std.proofs.lemmas.Bool.Decides.{nat_tests}
use Rattle.casefile.proofs.Columns.{length-field_of}
use Rattle.casefile.specs.Fields.{digit, mark, front, field_of, justified}

blank_front : (w : ℕ) → front w 0 ≡ replicate w 32
blank_front zero = refl
blank_front (suc w) = rw (blank_front w, replicate_more, add-one)

digit-mark : (n : ℕ) → 0 < n → mark n ≡ digit n
digit-mark n some = grind (arith, nat_tests, cases_eq n 0)

-- what n's text is in every field that it fits, where ds is its decimal text
abbrev Fills : ℕ → List ℕ → Type 0
Fills n ds = (w : ℕ) → n < 10 ^ suc w → front w (n / 10) ++ (digit n ∷ []) ≡ replicate (suc w - length ds) 32 ++ ds

one_digit : (n : ℕ) → n < 10 → Fills n ((48 + n) ∷ [])
one_digit n low w small =
    let none : n / 10 ≡ 0 = omega arith in
    let same : digit n ≡ 48 + n = omega arith in
    let blanks : suc w - 1 ≡ w = omega arith in
    rw (none, blank_front, same, blanks)

more_digits : (n : ℕ) (ds : List ℕ) → 10 ≤ n → Fills (n / 10) ds → Fills n (ds ++ ((48 + n % 10) ∷ []))
more_digits n ds high rest zero small = absurd (omega arith)
more_digits n ds high rest (suc w) small =
    let blanks : suc w - length ds ≡ suc (suc w) - length (ds ++ (digit n ∷ [])) = omega (arith, length_push ds (digit n)) in
    rw (digit-mark (n / 10) (omega arith), rest w (omega (arith, pow-suc 10 (suc w))), append_assoc, blanks)

fills : (n : ℕ) → n < 2 ^ 64 → Fills n (decimal n)
fills = decimal_by_steps Fills one_digit more_digits

pub field_justified : (w n : ℕ) → w ≤ 9 → n < 10 ^ w → field_of w n ≡ justified w n
field_justified zero n few small = let none : n ≡ 0 = omega arith in rw (none, decimal_digit 0 (omega arith))
field_justified (suc w) n few small =
    let before : suc w - 1 ≡ w = omega arith in
    rw before (fills n (omega (arith, pow-le-pow_right {n = 10} (omega arith) {i = suc w} {j = 9} few)) w small)

-- for reading a number of some width
pub ruleset of_width = (field_justified, length-field_of)

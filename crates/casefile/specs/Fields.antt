-- How a number stands in a field: right-justified, spaces before it, no leading zero, and zero as one 0.
use Rattle.std.specs.Prelude.{ℕ, zero, suc, ◌+◌, ◌-◌, ◌/◌, ◌%◌, cond, List, [], ◌∷◌, ◌++◌, length, replicate, decimal, ◌==◌}

-- the byte of a number's last digit
abbrev pub digit : ℕ → ℕ
digit n = 48 + n % 10

-- the byte of a number's last digit, or a space where nothing of the number is left
abbrev pub mark : ℕ → ℕ
mark n = cond (n == 0) 32 (digit n)

-- w columns before the last one of a field: the digits that are left of the number, and spaces before them
abbrev pub front : ℕ → ℕ → List ℕ
front zero n = []
front (suc w) n = front w (n / 10) ++ (mark n ∷ [])

-- the text of the number n in a field of w columns: its last column is a digit, also for zero
abbrev pub field_of : ℕ → ℕ → List ℕ
field_of w n = front (w - 1) (n / 10) ++ (digit n ∷ [])

-- the same text in plain words, for a number that fits: spaces, then its decimal digits
abbrev pub justified : ℕ → ℕ → List ℕ
justified w n = replicate (w - length (decimal n)) 32 ++ decimal n

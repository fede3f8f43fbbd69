-- How many parts a term of each kind has.
use Rattle.std.specs.Prelude.{ℕ, cond, ◌&&◌, ◌||◌, Some, None, Option, ◌==◌, nat_le}

-- an atom has none; kinds 2, 4 and 9 to 11 have one part, and the others two
abbrev pub part_count : ℕ → ℕ
part_count k = cond (k == 0) 0 (cond (k == 2 || k == 4 || (nat_le 9 k && nat_le k 11)) 1 2)

-- kinds are the numbers up to 15
abbrev pub parts_of : ℕ → Option ℕ
parts_of k = cond (nat_le k 15) (Some (part_count k)) None

-- Rows of a case, and what they keep.
use Rattle.std.specs.Prelude.{ℕ, zero, suc, Bool, true, false, not, ◌&&◌, List, [], ◌∷◌, ◌++◌, length, ◌==◌, nat_le}
use Rattle.cases.specs.declared.row.Row.{Row}
use Rattle.cases.specs.Parts.{part_count}

-- a number names one of the first n rows; rows are counted from 1
abbrev pub names : ℕ → ℕ → Bool
names n row = nat_le 1 row && nat_le row n

-- left and right are what a row of so many parts has after n others
abbrev pub parted : ℕ → ℕ → Row → Bool
parted zero n r = nat_le r.left 9999 && r.right == 0
parted (suc zero) n r = names n r.left && r.right == 0
parted (suc (suc more)) n r = names n r.left && names n r.right

-- a row that can stand after n others: an atom with its label, or a kind with parts among these
abbrev pub well_formed : ℕ → Row → Bool
well_formed n r = nat_le r.kind 15 && parted (part_count r.kind) n r

-- two rows say the same term
abbrev pub alike : Row → Row → Bool
alike r s = r.kind == s.kind && r.left == s.left && r.right == s.right

-- a row says another term than each of these
abbrev pub new : Row → List Row → Bool
new r [] = true
new r (s ∷ rest) = not (alike r s) && new r rest

-- rows that can stand one after the other, behind others
abbrev pub standing_after : List Row → List Row → Bool
standing_after before [] = true
standing_after before (r ∷ rest) = (well_formed (length before) r && new r before) && standing_after (before ++ (r ∷ [])) rest

-- rows that can stand one after the other
abbrev pub standing : List Row → Bool
standing rows = standing_after [] rows

-- a row that is not in use
abbrev pub blank : Row
blank = record { kind = 0; left = 0; right = 0; given = false }

-- a row is blank
abbrev pub is_blank : Row → Bool
is_blank r = alike r blank && not r.given

-- rows that are not in use
abbrev pub unused : List Row → Bool
unused [] = true
unused (r ∷ rest) = is_blank r && unused rest

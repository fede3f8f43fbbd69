-- Where things stand on a line: the letter in column 1, then each field behind one space.
use Rattle.std.specs.Prelude.{◌≡◌, ℕ, ◌+◌, ◌-◌, List, [], ◌∷◌, length, take, drop, slice_index}
use Rattle.casefile.specs.declared.layout.Letter.{Letter}
use Rattle.casefile.specs.declared.layout.Letter.TheVariants.{Term, Given, Ask, Show}

-- the letters T, G, A and S
abbrev pub byte_of : Letter → ℕ
byte_of Term = 84
byte_of Given = 71
byte_of Ask = 65
byte_of Show = 83

-- the widths of the fields behind a letter: row, kind, left and right, or a row alone
abbrev pub widths : Letter → List ℕ
widths Term = 4 ∷ 2 ∷ 4 ∷ 4 ∷ []
widths Given = 4 ∷ []
widths Ask = 4 ∷ []
widths Show = 4 ∷ []

-- how long a line with such fields is
abbrev pub long : List ℕ → ℕ
long [] = 1
long (w ∷ ws) = 1 + w + long ws

-- the columns of the spaces, the first in column c
abbrev pub spaces_from : ℕ → List ℕ → List ℕ
spaces_from c [] = []
spaces_from c (w ∷ ws) = c ∷ spaces_from (c + 1 + w) ws

-- the columns of the fields with their widths, where the first space stands in column c
abbrev pub fields_from : ℕ → List ℕ → List (ℕ × ℕ)
fields_from c [] = []
fields_from c (w ∷ ws) = (c + 1, w) ∷ fields_from (c + 1 + w) ws

-- the columns that hold a space on a line with this letter
abbrev pub spaces : Letter → List ℕ
spaces l = spaces_from 2 (widths l)

-- the columns and widths of the fields of a line with this letter
abbrev pub fields : Letter → List (ℕ × ℕ)
fields l = fields_from 2 (widths l)

-- the text begins with the letter
abbrev pub Begins : List ℕ → Letter → Type 0
Begins t l = slice_index t 0 ≡ byte_of l

-- the text is as long as a line with that letter
abbrev pub RightLength : List ℕ → Letter → Type 0
RightLength t l = length t ≡ long (widths l)

-- a space stands in column c
abbrev pub SpaceAt : List ℕ → ℕ → Type 0
SpaceAt t c = slice_index t (c - 1) ≡ 32

-- the bytes of a field, by its column and width
abbrev pub part_at : List ℕ → ℕ × ℕ → List ℕ
part_at t p = take p.1 (drop (p.0 - 1) t)

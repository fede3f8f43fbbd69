-- A record's one line.
use Rattle.std.specs.Prelude.{ℕ, List, [], ◌∷◌, ◌++◌}
use Rattle.casefile.specs.declared.layout.Letter.{Letter}
use Rattle.casefile.specs.declared.layout.Letter.TheVariants as letters
use Rattle.casefile.specs.declared.line.Record.{Record}
use Rattle.casefile.specs.declared.line.Record.TheVariants.{Term, Given, Ask, Show}
use Rattle.casefile.specs.Fields.{field_of}
use Rattle.casefile.specs.Layout.{byte_of}

-- the letter that a record's line begins with
abbrev pub letter_of : Record → Letter
letter_of (Term row kind left right) = letters.Term
letter_of (Given row) = letters.Given
letter_of (Ask row) = letters.Ask
letter_of (Show row) = letters.Show

-- the texts of a record's fields
abbrev pub texts : Record → List (List ℕ)
texts (Term row kind left right) = field_of 4 row.value ∷ field_of 2 kind.value ∷ field_of 4 left.value ∷ field_of 4 right.value ∷ []
texts (Given row) = field_of 4 row.value ∷ []
texts (Ask row) = field_of 4 row.value ∷ []
texts (Show row) = field_of 4 row.value ∷ []

-- each text behind one space
abbrev pub spaced : List (List ℕ) → List ℕ
spaced [] = []
spaced (t ∷ ts) = 32 ∷ (t ++ spaced ts)

-- the line that says a record: its letter, and its numbers in their fields
abbrev pub line_of : Record → List ℕ
line_of r = byte_of (letter_of r) ∷ spaced (texts r)

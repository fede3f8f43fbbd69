-- A line taken apart into its fields.
use Rattle.std.specs.Prelude.{◌≡◌, ℕ, List, [], ◌∷◌, map, Result, MatchResult}
use Rattle.std.specs.List.{AllByRecursion}
use Rattle.casefile.specs.declared.fault.LineFault.{LineFault}
use Rattle.casefile.specs.declared.layout.Letter.{Letter}
use Rattle.casefile.specs.declared.layout.Letter.TheVariants as letters
use Rattle.casefile.specs.declared.line.Field.{Field}
use Rattle.casefile.specs.declared.line.Line.{Line}
use Rattle.casefile.specs.declared.line.Line.TheVariants.{Term, Given, Ask, Show}
use Rattle.casefile.specs.declared.line.Record.{Record}
use Rattle.casefile.specs.Layout.{spaces, fields, Begins, RightLength, SpaceAt, part_at}
use Rattle.casefile.specs.Records.{letter_of, texts}
use Rattle.casefile.specs.Questions.{FirstBad, WellFormed, Fails, BeforeFields}

-- the letter of a line that is taken apart
abbrev pub letter_in : Line → Letter
letter_in (Term row kind left right) = letters.Term
letter_in (Given row) = letters.Given
letter_in (Ask row) = letters.Ask
letter_in (Show row) = letters.Show

-- a field of a line: the width that its letter sets, its column and its bytes
abbrev pub Placed : Type 0
Placed = ℕ × ℕ × List ℕ

-- a field in a width of w columns
abbrev pub placed : ℕ → Field → Placed
placed w f = (w, f.column, f.text.now)

-- the fields of a line that is taken apart, in their order
abbrev pub fields_in : Line → List Placed
fields_in (Term row kind left right) = placed 4 row ∷ placed 2 kind ∷ placed 4 left ∷ placed 4 right ∷ []
fields_in (Given row) = placed 4 row ∷ []
fields_in (Ask row) = placed 4 row ∷ []
fields_in (Show row) = placed 4 row ∷ []

-- the field of a text at a column and of a width
abbrev pub placed_at : List ℕ → ℕ × ℕ → Placed
placed_at t p = (p.1, p.0, part_at t p)

-- the text is taken apart: letter, length and spaces are right, and the fields are its parts at their columns
pub record Apart (t : List ℕ) (line : Line) : Type 0 where
  pub begins : Begins t (letter_in line)
  pub right : RightLength t (letter_in line)
  pub spaced : AllByRecursion (SpaceAt t) (spaces (letter_in line))
  pub parts : fields_in line ≡ map (placed_at t) (fields (letter_in line))

-- what taking a line apart answers: its fields, or the fault of the first question before those on fields that it fails
abbrev pub Cuts : List ℕ → Result Line LineFault → Type 0
Cuts t r = MatchResult r (Apart t) (λ e. Fails t e × BeforeFields e)

-- the line has the record's letter, and its fields hold the record's numbers
pub record Says (line : Line) (r : Record) : Type 0 where
  pub letter : letter_in line ≡ letter_of r
  pub numbers : map (λ (p : Placed). p.2) (fields_in line) ≡ texts r

-- the first field that is not well formed begins in column c
pub record FirstUnread (line : Line) (c : ℕ) : Type 0 where
  pub field : Placed
  pub first : FirstBad (λ p. WellFormed p.0 p.2) (fields_in line) field
  pub column : c ≡ field.1

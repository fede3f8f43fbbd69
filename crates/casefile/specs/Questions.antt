-- The questions asked of a line, in their order: letter, length, spaces, fields. A fault names the first no.
use Rattle.std.specs.Prelude.{◌≡◌, ℕ, ◌+◌, min, ◌⊎◌, List, [], ◌∷◌, length, Result, MatchResult}
use Rattle.std.specs.List.{AllByRecursion}
use Rattle.casefile.specs.declared.fault.FieldFault.{FieldFault}
use Rattle.casefile.specs.declared.fault.LineFault.{LineFault}
use Rattle.casefile.specs.declared.fault.LineFault.TheVariants.{NoLetter, WrongLength, NoSpace, BadField}
use Rattle.casefile.specs.declared.layout.Letter.{Letter}
use Rattle.casefile.specs.declared.line.Record.{Record}
use Rattle.casefile.specs.declared.number.Number.{Number}
use Rattle.casefile.specs.Fields.{field_of}
use Rattle.casefile.specs.Layout.{widths, long, spaces, fields, Begins, RightLength, SpaceAt, part_at}
use Rattle.casefile.specs.Records.{line_of}

-- bad is the first of xs that is not good
abbrev pub FirstBad : {X : Type 0} → (X → Type 0) → List X → X → Type 0
FirstBad G [] bad = ⊥
FirstBad G (x ∷ xs) bad = ((G x → ⊥) × (bad ≡ x)) ⊎ (G x × FirstBad G xs bad)

-- a field of w columns is well formed: it is the text of a number that fits it
pub record WellFormed (w : ℕ) (t : List ℕ) : Type 0 where
  pub number : Number w
  pub text : t ≡ field_of w number.value

-- what reading a field in column c answers: the number whose text it is, or that it is the text of none
abbrev pub ReadsField : (w : ℕ) → ℕ → List ℕ → Result (Number w) FieldFault → Type 0
ReadsField w c t r = MatchResult r
    (λ n. t ≡ field_of w n.value)
    (λ e. (e.column ≡ c) × (WellFormed w t → ⊥))

-- what each fault says of a line's bytes: every question before its own has a yes, and its own a no in that column
abbrev pub Fails : List ℕ → LineFault → Type 0
Fails t NoLetter = (l : Letter) → Begins t l → ⊥
Fails t (WrongLength c) = (l : Letter) × Begins t l × (RightLength t l → ⊥) × (c ≡ min (length t) (long (widths l)) + 1)
Fails t (NoSpace c) = (l : Letter) × Begins t l × RightLength t l × FirstBad (SpaceAt t) (spaces l) c
Fails t (BadField f) = (l : Letter) × Begins t l × RightLength t l × AllByRecursion (SpaceAt t) (spaces l) × ((w : ℕ) × FirstBad (λ p. WellFormed p.1 (part_at t p)) (fields l) (f.column, w))

-- a fault that shows before any field is read
abbrev pub BeforeFields : LineFault → Type 0
BeforeFields NoLetter = Unit {0}
BeforeFields (WrongLength c) = Unit {0}
BeforeFields (NoSpace c) = Unit {0}
BeforeFields (BadField f) = ⊥

-- what reading a line answers: the record whose line it is, or the fault of the first question that it fails
abbrev pub Reads : List ℕ → Result Record LineFault → Type 0
Reads t r = MatchResult r (λ said. t ≡ line_of said) (Fails t)

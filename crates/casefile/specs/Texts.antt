-- A text as lines, and what checking it answers.
use Rattle.std.specs.Prelude.{◌≡◌, ℕ, ◌+◌, ◌<◌, ◌≤◌, count_by, List, [], ◌∷◌, ◌++◌, length, Result, MatchResult, ◌⊎◌, ◌==◌, ◌≢◌, slice_index}
use Rattle.casefile.specs.declared.fault.TextFault.{TextFault}
use Rattle.casefile.specs.declared.fault.TextFault.TheVariants.{TooLong, NoNewline, Line}
use Rattle.casefile.specs.declared.layout.Letter.{Letter}
use Rattle.casefile.specs.declared.layout.Letter.TheVariants.{Term, Given, Ask, Show}
use Rattle.casefile.specs.declared.line.Record.{Record}
use Rattle.casefile.specs.declared.refusal.Refusal.{Refusal}
use Rattle.casefile.specs.declared.summary.Summary.{Summary}
use Rattle.casefile.specs.Layout.{byte_of}
use Rattle.casefile.specs.Questions.{Fails}
use Rattle.casefile.specs.Records.{letter_of, line_of}

-- the most bytes that a text may have
abbrev pub limit : ℕ
limit = 65536

-- no byte of t is a newline
abbrev pub OneLine : List ℕ → Type 0
OneLine t = (k : ℕ) → k < length t → slice_index t k ≢ 10

-- a text's first line, and what follows the newline that ends it
pub record FirstLine (t line after : List ℕ) : Type 0 where
  pub whole : t ≡ line ++ 10 ∷ after
  pub first : OneLine line

-- the text that says some records: the line of each, ended by a newline
abbrev pub text_of : List Record → List ℕ
text_of [] = []
text_of (r ∷ rs) = line_of r ++ 10 ∷ text_of rs

-- how many of the records have the letter
abbrev pub count_of : Letter → List Record → ℕ
count_of l rs = count_by (λ r. byte_of (letter_of r) == byte_of l) rs

-- the summary counts the records by their letters
pub record Holds (rs : List Record) (s : Summary) : Type 0 where
  pub terms : s.terms ≡ count_of Term rs
  pub given : s.given ≡ count_of Given rs
  pub asks : s.asks ≡ count_of Ask rs
  pub shows : s.shows ≡ count_of Show rs

-- the summary s' counts one record more than s
pub record Adds (s : Summary) (r : Record) (s' : Summary) : Type 0 where
  pub terms : s'.terms ≡ s.terms + count_of Term (r ∷ [])
  pub given : s'.given ≡ s.given + count_of Given (r ∷ [])
  pub asks : s'.asks ≡ s.asks + count_of Ask (r ∷ [])
  pub shows : s'.shows ≡ s.shows + count_of Show (r ∷ [])

-- the fault of a text's first line: no newline ends it, or its bytes fail a question
abbrev pub FirstFault : List ℕ → TextFault → Type 0
FirstFault t TooLong = ⊥
FirstFault t NoNewline = OneLine t
FirstFault t (Line f) = (line : List ℕ) × (after : List ℕ) × FirstLine t line after × Fails line f

-- the first fault is in line n: the lines before it say records, and the rest begins with the line at fault
abbrev pub InLine : List ℕ → ℕ → TextFault → Type 0
InLine t n f = (length t ≤ limit) × ((rs : List Record) × (rest : List ℕ) × (t ≡ text_of rs ++ rest) × (n ≡ length rs + 1) × (0 < length rest) × FirstFault rest f)

-- a text is refused for a fault in line n, or in line 0 as too long
abbrev pub Refused : List ℕ → ℕ → TextFault → Type 0
Refused t n f = ((limit < length t) × (n ≡ 0) × (f ≡ TooLong)) ⊎ InLine t n f

-- what checking a text answers: the records that its lines say, all of them, are counted, or the first fault is named
abbrev pub Checked : List ℕ → Result Summary Refusal → Type 0
Checked t r = MatchResult r
    (λ s. (length t ≤ limit) × ((rs : List Record) × (t ≡ text_of rs) × Holds rs s))
    (λ e. Refused t e.line e.fault)

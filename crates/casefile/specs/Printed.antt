-- The lines that the program prints, laid out as case file lines are: a letter, then numbers in their columns.
use Rattle.std.specs.Prelude.{ℕ, List, [], ◌∷◌}
use Rattle.casefile.specs.declared.refusal.Refusal.{Refusal}
use Rattle.casefile.specs.declared.summary.Summary.{Summary}
use Rattle.casefile.specs.Faults.{report_of}
use Rattle.casefile.specs.Fields.{field_of}
use Rattle.casefile.specs.Records.{spaced}

-- the letter F, the line, the column, the layer and the number of a fault
abbrev pub refusal_line : Refusal → List ℕ
refusal_line e = 70 ∷ spaced (field_of 5 e.line ∷ field_of 2 (report_of e.fault).column ∷ field_of 1 (report_of e.fault).layer ∷ field_of 2 (report_of e.fault).number ∷ [])

-- the letter C and four counts of lines
abbrev pub line_of_counts : ℕ → ℕ → ℕ → ℕ → List ℕ
line_of_counts a b c d = 67 ∷ spaced (field_of 5 a ∷ field_of 5 b ∷ field_of 5 c ∷ field_of 5 d ∷ [])

-- how many terms, given marks, asks and shows a text holds
abbrev pub summary_line : Summary → List ℕ
summary_line s = line_of_counts s.terms s.given s.asks s.shows

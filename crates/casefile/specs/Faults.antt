-- What is reported of each fault: its column, its layer and the number of its question.
use Rattle.std.specs.Prelude.{ℕ}
use Rattle.casefile.specs.declared.fault.LineFault.TheVariants.{NoLetter, WrongLength, NoSpace, BadField}
use Rattle.casefile.specs.declared.fault.Report.{Report}
use Rattle.casefile.specs.declared.fault.TextFault.{TextFault}
use Rattle.casefile.specs.declared.fault.TextFault.TheVariants.{TooLong, NoNewline, Line}

-- a fault of the text, which is layer 1
abbrev pub in_text : ℕ → ℕ → Report
in_text c n = record { column = c; layer = 1; number = n }

-- each fault with its column and number; 0 where no column is at fault
abbrev pub report_of : TextFault → Report
report_of TooLong = in_text 0 16
report_of NoNewline = in_text 0 15
report_of (Line NoLetter) = in_text 1 10
report_of (Line (WrongLength c)) = in_text c 11
report_of (Line (NoSpace c)) = in_text c 12
report_of (Line (BadField f)) = in_text f.column 13

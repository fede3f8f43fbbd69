-- Lines written into lent bytes.
use Rattle.std.specs.Prelude.{◌≡◌, ℕ, ◌+◌, ◌<◌, List, [], ◌∷◌, ◌++◌, map, length, drop, Ok, Err, Result}
use Rattle.casefile.specs.declared.slot.Slot.{Slot}
use Rattle.casefile.specs.declared.put.TooShort.{TooShort}
use Rattle.casefile.specs.Fields.{field_of}
use Rattle.casefile.specs.Records.{spaced}

-- what a writer leaves: the bytes at the front and all others as they were, or, where too few are lent, the count needed and no change
abbrev pub Wrote : List ℕ → List ℕ → List ℕ → Result ℕ TooShort → Type 0
Wrote bytes before after (Ok n) = (n ≡ length bytes) × (after ≡ bytes ++ drop n before)
Wrote bytes before after (Err e) = (length before < e.needed) × (e.needed ≡ length bytes) × (after ≡ before)

-- numbers in their columns, each behind one space
abbrev pub slotted : List Slot → List ℕ
slotted ss = spaced (map (λ s. field_of s.width s.number) ss)

-- how many bytes such columns take
abbrev pub span_of : List Slot → ℕ
span_of [] = 0
span_of (s ∷ ss) = 1 + s.width + span_of ss

use Rattle.std.proofs.Common.{◌≡◌, List, [], ◌∷◌, length, refl, arith, length-append, rules}
use Rattle.casefile.specs.declared.slot.Slot.{Slot}
use Rattle.casefile.specs.Fields.{field_of}
use Rattle.casefile.specs.Put.{slotted, span_of}
use Rattle.casefile.proofs.Columns.{length-field_of}
use Rattle.casefile.proofs.put.Written.put.Goals as goal

length-slotted : (ss : List Slot) → length (slotted ss) ≡ span_of ss
length-slotted [] = refl
length-slotted (s ∷ ss) = omega (arith, length-append (field_of s.width s.number) (slotted ss), length-field_of s.width s.number s.some, length-slotted ss)

pub returns-then-out-needed : goal.returns-then-out-needed
returns-then-out-needed c = let span = length-slotted c.args.self.now.slots.now in search rules

-- What reading a line answers, from how it is taken apart. Assumes nothing.
use Rattle.std.proofs.Common.{◌≡◌, ℕ, ◌+◌, ◌-◌, ◌^◌, ◌<◌, ◌⊎◌, min, cond, eqb, List, [], ◌∷◌, map, length, get_or, take, drop, Ok, Err, Result, sym, refl, ap, ◌∙◌, subst, inl, inr, arith, length-drop, take-append-drop}
use Rattle.std.proofs.Math.Path.{to_path_p}
use Rattle.std.proofs.Math.Bridge.{le_prop}
use Rattle.std.specs.List.{AllByRecursion}
use Rattle.std.proofs.lemmas.List.{nil_from_length, drop_more, drop-drop}
use Rattle.casefile.specs.declared.fault.FieldFault.{FieldFault}
use Rattle.casefile.specs.declared.fault.LineFault.{LineFault}
use Rattle.casefile.specs.declared.fault.LineFault.TheVariants.{NoLetter, WrongLength, NoSpace, BadField}
use Rattle.casefile.specs.declared.layout.Letter.{Letter}
use Rattle.casefile.specs.declared.layout.Letter.TheVariants as letters
use Rattle.casefile.specs.declared.line.Line.{Line}
use Rattle.casefile.specs.declared.line.Record.{Record}
use Rattle.casefile.specs.declared.line.Record.TheVariants.{Term, Given, Ask, Show}
use Rattle.casefile.specs.declared.number.Number.{Number}
use Rattle.casefile.specs.Fields.{field_of}
use Rattle.casefile.specs.Layout.{byte_of, widths, long, spaces_from, fields_from, spaces, fields, Begins, RightLength, SpaceAt, part_at}
use Rattle.casefile.specs.Lines.{letter_in, Placed, placed_at, fields_in, Apart, Says, FirstUnread}
use Rattle.casefile.specs.Questions.{FirstBad, WellFormed, Fails, Reads}
use Rattle.casefile.specs.Records.{letter_of, spaced, line_of}
use Rattle.casefile.proofs.Columns.{field_of_same}

-- a letter is told from its byte
letter_by : ℕ → Letter
letter_by b = cond (eqb b 84) letters.Term (cond (eqb b 71) letters.Given (cond (eqb b 65) letters.Ask letters.Show))

letter_by_lem : (l : Letter) → letter_by (byte_of l) ≡ l
unfolding letter_by
letter_by_lem letters.Term = refl
letter_by_lem letters.Given = refl
letter_by_lem letters.Ask = refl
letter_by_lem letters.Show = refl

letter_same : (l m : Letter) → byte_of l ≡ byte_of m → l ≡ m
letter_same l m e = sym (letter_by_lem l) ∙ ap letter_by e ∙ letter_by_lem m

-- where all are good, none is the first that is not
none_bad : {X : Type 0} (G : X → Type 0) (xs : List X) (bad : X) → AllByRecursion G xs → FirstBad G xs bad → ⊥
none_bad G [] bad all first = first
none_bad G (x ∷ xs) bad all (inl here) = here.0 all.0
none_bad G (x ∷ xs) bad all (inr later) = none_bad G xs bad all.1 later.1

-- a record's line has a yes to every question
right_line : (r : Record) → RightLength (line_of r) (letter_of r)
right_line (Term row kind left right) = refl
right_line (Given row) = refl
right_line (Ask row) = refl
right_line (Show row) = refl

spaced_line : (r : Record) → AllByRecursion (SpaceAt (line_of r)) (spaces (letter_of r))
spaced_line (Term row kind left right) = (refl, (refl, (refl, (refl, tt))))
spaced_line (Given row) = (refl, tt)
spaced_line (Ask row) = (refl, tt)
spaced_line (Show row) = (refl, tt)

formed : {w : ℕ} (n : Number w) → WellFormed w (field_of w n.value)
formed n = record { number = n; text = refl }

formed_line : (r : Record) → AllByRecursion (λ p. WellFormed p.1 (part_at (line_of r) p)) (fields (letter_of r))
formed_line (Term row kind left right) = (formed row, (formed kind, (formed left, (formed right, tt))))
formed_line (Given row) = (formed row, tt)
formed_line (Ask row) = (formed row, tt)
formed_line (Show row) = (formed row, tt)

pub never_fails : (r : Record) (e : LineFault) → Fails (line_of r) e → ⊥
never_fails r NoLetter h = h (letter_of r) refl
never_fails r (WrongLength c) h = h.2 (subst (RightLength (line_of r)) (letter_same _ _ h.1) (right_line r))
never_fails r (NoSpace c) h = none_bad _ _ c (subst (λ l. AllByRecursion (SpaceAt (line_of r)) (spaces l)) (letter_same _ _ h.1) (spaced_line r)) h.3
never_fails r (BadField f) h = none_bad _ _ _ (subst (λ l. AllByRecursion (λ p. WellFormed p.1 (part_at (line_of r) p)) (fields l)) (letter_same _ _ h.1) (formed_line r)) h.4.1

-- numbers of one width are told from their values
number_same : (w : ℕ) (m n : Number w) → m.value ≡ n.value → m ≡ n
number_same w m n e =
    λ i. record {
      value = e i;
      some = le_prop m.some n.some i;
      few = le_prop m.few n.few i;
      fits = to_path_p (λ k. e k < 10 ^ w) {a = m.fits} (le_prop _ n.fits) i;
    }

field_same : (w : ℕ) (m n : Number w) → field_of w m.value ≡ field_of w n.value → m ≡ n
field_same w m n e = number_same w m n (field_of_same w m.value n.value m.some m.fits n.fits e)

-- the field of a line in the columns after the first i
part : ℕ → ℕ → List ℕ → List ℕ
part i w t = take w (drop i t)

-- lines of different letters are not the same
clash : (r s : Record) → line_of r ≡ line_of s → (byte_of (letter_of r) ≡ byte_of (letter_of s) → ⊥) → r ≡ s
clash r s e other = absurd (other (ap (λ t. get_or t 0 0) e))

-- a record is told from its line
pub line_same : (r s : Record) → line_of r ≡ line_of s → r ≡ s
unfolding part
line_same (Term a b c d) (Term a' b' c' d') e =
    λ i. Term (field_same 4 a a' (ap (part 2 4) e) i) (field_same 2 b b' (ap (part 7 2) e) i) (field_same 4 c c' (ap (part 10 4) e) i) (field_same 4 d d' (ap (part 15 4) e) i)
line_same (Given a) (Given a') e = ap Given (field_same 4 a a' (ap (part 2 4) e))
line_same (Ask a) (Ask a') e = ap Ask (field_same 4 a a' (ap (part 2 4) e))
line_same (Show a) (Show a') e = ap Show (field_same 4 a a' (ap (part 2 4) e))
line_same (Term a b c d) (Given a') e = clash _ _ e (λ h. omega arith)
line_same (Term a b c d) (Ask a') e = clash _ _ e (λ h. omega arith)
line_same (Term a b c d) (Show a') e = clash _ _ e (λ h. omega arith)
line_same (Given a) (Term a' b' c' d') e = clash _ _ e (λ h. omega arith)
line_same (Given a) (Ask a') e = clash _ _ e (λ h. omega arith)
line_same (Given a) (Show a') e = clash _ _ e (λ h. omega arith)
line_same (Ask a) (Term a' b' c' d') e = clash _ _ e (λ h. omega arith)
line_same (Ask a) (Given a') e = clash _ _ e (λ h. omega arith)
line_same (Ask a) (Show a') e = clash _ _ e (λ h. omega arith)
line_same (Show a) (Term a' b' c' d') e = clash _ _ e (λ h. omega arith)
line_same (Show a) (Given a') e = clash _ _ e (λ h. omega arith)
line_same (Show a) (Ask a') e = clash _ _ e (λ h. omega arith)

some_long : (ws : List ℕ) → 0 < long ws
some_long [] = omega arith
some_long (w ∷ ws) = omega (arith, some_long ws)

-- a text with right spaces is its fields behind spaces, from place i, which is column c, on
from_spaces : (t ws : List ℕ) (i c : ℕ) → c ≡ i + 1 → length (drop i t) + 1 ≡ long ws → AllByRecursion (SpaceAt t) (spaces_from c ws) → drop i t ≡ spaced (map (part_at t) (fields_from c ws))
from_spaces t [] i c at fits all = nil_from_length (drop i t) (omega arith)
from_spaces t (w ∷ ws) i c at fits all =
    let within : i < length t = omega (arith, length-drop i t, some_long ws) in
    let here : c - 1 ≡ i = omega arith in
    let next : c + 1 - 1 ≡ i + 1 = omega arith in
    let gap : get_or t i 0 ≡ 32 = rw here at all.0 in
    let rest = from_spaces t ws (i + 1 + w) (c + 1 + w) (omega arith) (simp length-drop (omega (arith, length-drop i t, some_long ws))) all.1 in
    rw (next, drop_more t i 0 within, gap, ← rest, ← drop-drop w (i + 1) t, take-append-drop w (drop (i + 1) t)) refl

bytes_at : (t : List ℕ) (ps : List (ℕ × ℕ)) → map (λ (p : Placed). p.2) (map (placed_at t) ps) ≡ map (part_at t) ps
bytes_at t [] = refl
bytes_at t (p ∷ ps) = simp (bytes_at t ps)

-- a line taken apart whose fields say a record is that record's line
pub is_line : (t : List ℕ) (line : Line) (r : Record) → Apart t line → Says line r → t ≡ line_of r
is_line t line r h said =
    let some : 0 < length t = omega (arith, h.right, some_long (widths (letter_in line))) in
    let tail = from_spaces t (widths (letter_in line)) 1 2 refl (simp length-drop (omega (arith, h.right))) h.spaced in
    let bytes = sym (bytes_at t (fields (letter_in line))) ∙ sym (ap (map (λ (p : Placed). p.2)) h.parts) ∙ said.numbers in
    drop_more t 0 0 some
    ∙ ap (λ (b : ℕ). b ∷ drop 1 t) (h.begins ∙ ap byte_of said.letter)
    ∙ ap (λ l. byte_of (letter_of r) ∷ l) (tail ∙ ap spaced bytes)

-- the first of these fields that is not well formed begins in column c
abbrev pub UnreadIn : List Placed → ℕ → Type 0
UnreadIn [] c = ⊥
UnreadIn (p ∷ ps) c = ((WellFormed p.0 p.2 → ⊥) × (c ≡ p.1)) ⊎ (WellFormed p.0 p.2 × UnreadIn ps c)

unread_in : (ps : List Placed) (c : ℕ) → UnreadIn ps c → (p : Placed) × FirstBad (λ q. WellFormed q.0 q.2) ps p × (c ≡ p.1)
unread_in [] c h = absurd h
unread_in (p ∷ ps) c (inl here) = (p, inl (here.0, refl), here.1)
unread_in (p ∷ ps) c (inr later) = let (q, first, is) = unread_in ps c later.1 in (q, inr (later.0, first), is)

pub first_unread : (line : Line) (c : ℕ) → UnreadIn (fields_in line) c → FirstUnread line c
first_unread line c h = let (p, first, is) = unread_in (fields_in line) c h in record { field = p; first = first; column = is }

-- that field, by its place in the text
placed_bad : (t : List ℕ) (ps : List (ℕ × ℕ)) (p : Placed) → FirstBad (λ q. WellFormed q.0 q.2) (map (placed_at t) ps) p → (w : ℕ) × FirstBad (λ q. WellFormed q.1 (part_at t q)) ps (p.1, w)
placed_bad t [] p h = absurd h
placed_bad t (q ∷ ps) p (inl here) = (q.1, inl (here.0, λ i. ((here.1 i).1, q.1)))
placed_bad t (q ∷ ps) p (inr later) = let (w, first) = placed_bad t ps p later.1 in (w, inr (later.0, first))

pub field_fails : (t : List ℕ) (line : Line) (e : FieldFault) → Apart t line → FirstUnread line e.column → Fails t (BadField e)
field_fails t line e h bad =
    let (w, first) = placed_bad t (fields (letter_in line)) bad.field (subst (λ fs. FirstBad (λ q. WellFormed q.0 q.2) fs bad.field) h.parts bad.first) in
    (letter_in line, h.begins, h.right, h.spaced, (w, subst (λ (c : ℕ). FirstBad (λ q. WellFormed q.1 (part_at t q)) (fields (letter_in line)) (c, w)) (sym bad.column) first))

-- one line has one answer

first_same : {X : Type 0} (G : X → Type 0) (xs : List X) (a b : X) → FirstBad G xs a → FirstBad G xs b → a ≡ b
first_same G [] a b h k = absurd h
first_same G (x ∷ xs) a b (inl h) (inl k) = h.1 ∙ sym k.1
first_same G (x ∷ xs) a b (inl h) (inr k) = absurd (h.0 k.0)
first_same G (x ∷ xs) a b (inr h) (inl k) = absurd (k.0 h.0)
first_same G (x ∷ xs) a b (inr h) (inr k) = first_same G xs a b h.1 k.1

module _ (t : List ℕ) where
  -- what holds by one letter holds by the other
  by_letter : (P : Letter → Type 0) (l m : Letter) → Begins t l → Begins t m → P l → P m
  by_letter P l m h k = subst P (letter_same l m (sym h ∙ k))

  pub fails_same : (e f : LineFault) → Fails t e → Fails t f → e ≡ f
  fails_same NoLetter NoLetter h k = refl
  fails_same NoLetter (WrongLength d) h k = absurd (h k.0 k.1)
  fails_same NoLetter (NoSpace d) h k = absurd (h k.0 k.1)
  fails_same NoLetter (BadField g) h k = absurd (h k.0 k.1)
  fails_same (WrongLength c) NoLetter h k = absurd (k h.0 h.1)
  fails_same (WrongLength c) (WrongLength d) h k = ap WrongLength (by_letter (λ l. c ≡ min (length t) (long (widths l)) + 1) h.0 k.0 h.1 k.1 h.3 ∙ sym k.3)
  fails_same (WrongLength c) (NoSpace d) h k = absurd (h.2 (by_letter (RightLength t) k.0 h.0 k.1 h.1 k.2))
  fails_same (WrongLength c) (BadField g) h k = absurd (h.2 (by_letter (RightLength t) k.0 h.0 k.1 h.1 k.2))
  fails_same (NoSpace c) NoLetter h k = absurd (k h.0 h.1)
  fails_same (NoSpace c) (WrongLength d) h k = absurd (k.2 (by_letter (RightLength t) h.0 k.0 h.1 k.1 h.2))
  fails_same (NoSpace c) (NoSpace d) h k = ap NoSpace (first_same (SpaceAt t) (spaces k.0) c d (by_letter (λ l. FirstBad (SpaceAt t) (spaces l) c) h.0 k.0 h.1 k.1 h.3) k.3)
  fails_same (NoSpace c) (BadField g) h k = absurd (none_bad (SpaceAt t) (spaces k.0) c k.3 (by_letter (λ l. FirstBad (SpaceAt t) (spaces l) c) h.0 k.0 h.1 k.1 h.3))
  fails_same (BadField f) NoLetter h k = absurd (k h.0 h.1)
  fails_same (BadField f) (WrongLength d) h k = absurd (k.2 (by_letter (RightLength t) h.0 k.0 h.1 k.1 h.2))
  fails_same (BadField f) (NoSpace d) h k = absurd (none_bad (SpaceAt t) (spaces h.0) d h.3 (by_letter (λ l. FirstBad (SpaceAt t) (spaces l) d) k.0 h.0 k.1 h.1 k.3))
  fails_same (BadField f) (BadField g) h k =
      let good : ℕ × ℕ → Type 0 = λ p. WellFormed p.1 (part_at t p) in
      let same = first_same good (fields k.0) _ _ (by_letter (λ l. FirstBad good (fields l) (f.column, h.4.0)) h.0 k.0 h.1 k.1 h.4.1) k.4.1 in
      λ i. BadField (record { column = (same i).0 })

  pub reads_only : (r : Result Record LineFault) → Reads t r → (q : Result Record LineFault) → Reads t q → r ≡ q
  reads_only (Ok r) h (Ok q) k = ap Ok (line_same r q (sym h ∙ k))
  reads_only (Ok r) h (Err f) k = absurd (never_fails r f (subst (λ l. Fails l f) h k))
  reads_only (Err e) h (Ok q) k = absurd (never_fails q e (subst (λ l. Fails l e) k h))
  reads_only (Err e) h (Err f) k = ap Err (fails_same e f h k)

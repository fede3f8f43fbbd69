-- Texts as lines: cutting, counting, and the bounds of what is reported. Assumes nothing.
use Rattle.std.proofs.Common.{rules, ◌≡◌, ℕ, ◌+◌, ◌<◌, ◌≤◌, List, [], ◌∷◌, ◌++◌, length, sym, refl, ap, ◌∙◌, subst, inl, inr, append_assoc, arith, length-append}
use Rattle.std.specs.List.{AllByRecursion}
use Rattle.std.proofs.lemmas.List.Sums.{sum_by-append}
use Rattle.casefile.specs.declared.fault.LineFault.{LineFault}
use Rattle.casefile.specs.declared.fault.LineFault.TheVariants.{NoLetter, WrongLength, NoSpace, BadField}
use Rattle.casefile.specs.declared.fault.TextFault.{TextFault}
use Rattle.casefile.specs.declared.fault.TextFault.TheVariants.{TooLong, NoNewline, Line}
use Rattle.casefile.specs.declared.layout.Letter.{Letter}
use Rattle.casefile.specs.declared.layout.Letter.TheVariants as letters
use Rattle.casefile.specs.declared.line.Record.{Record}
use Rattle.casefile.specs.declared.line.Record.TheVariants.{Term, Given, Ask, Show}
use Rattle.casefile.specs.declared.summary.Summary.{Summary}
use Rattle.casefile.specs.Faults.{report_of}
use Rattle.casefile.specs.Layout.{widths, long, spaces, fields}
use Rattle.casefile.specs.Questions.{FirstBad, Fails}
use Rattle.casefile.specs.Records.{line_of}
use Rattle.casefile.specs.Texts.{limit, text_of, count_of, Holds, Adds, FirstFault, Refused}

-- one more record at the end

count_append : (l : Letter) (qs rs : List Record) → count_of l (qs ++ rs) ≡ count_of l qs + count_of l rs
count_append l qs rs = sum_by-append _ qs rs

text_push : (rs : List Record) (r : Record) (after : List ℕ) → text_of (rs ++ r ∷ []) ++ after ≡ text_of rs ++ (line_of r ++ 10 ∷ after)
text_push [] r after = simp append_assoc
text_push (x ∷ rs) r after = simp (append_assoc, text_push rs r after)

holds_push : (rs : List Record) (r : Record) (s s' : Summary) → Holds rs s → Adds s r s' → Holds (rs ++ r ∷ []) s'
holds_push rs r s s' h a = record {
  terms = omega (arith, count_append letters.Term rs (r ∷ []));
  given = omega (arith, count_append letters.Given rs (r ∷ []));
  asks = omega (arith, count_append letters.Ask rs (r ∷ []));
  shows = omega (arith, count_append letters.Show rs (r ∷ []));
}

-- each record has one letter, so the counts add up to the records

all_counts : List Record → ℕ
all_counts rs = count_of letters.Term rs + count_of letters.Given rs + count_of letters.Ask rs + count_of letters.Show rs

one_letter : (r : Record) → all_counts (r ∷ []) ≡ 1
unfolding all_counts
one_letter (Term row kind left right) = refl
one_letter (Given row) = refl
one_letter (Ask row) = refl
one_letter (Show row) = refl

counted : (rs : List Record) → all_counts rs ≡ length rs
unfolding all_counts
counted [] = refl
counted (r ∷ rs) =
    let more : (l : Letter) → count_of l (r ∷ rs) ≡ count_of l (r ∷ []) + count_of l rs = λ l. count_append l (r ∷ []) rs in
    omega (arith, one_letter r, counted rs, more letters.Term, more letters.Given, more letters.Ask, more letters.Show)

-- a line takes a byte at least
lines_fit : (rs : List Record) → length rs ≤ length (text_of rs)
lines_fit [] = omega arith
lines_fit (r ∷ rs) = omega (arith, length-append (line_of r) (10 ∷ text_of rs), lines_fit rs)

-- the columns of faults

first_in : {X : Type 0} (G P : X → Type 0) (xs : List X) (bad : X) → AllByRecursion P xs → FirstBad G xs bad → P bad
first_in G P [] bad all h = absurd h
first_in G P (x ∷ xs) bad all (inl here) = subst P (sym here.1) all.0
first_in G P (x ∷ xs) bad all (inr later) = first_in G P xs bad all.1 later.1

narrow : (l : Letter) → (long (widths l) ≤ 19) × AllByRecursion (λ c. c < 100) (spaces l) × AllByRecursion (λ (p : ℕ × ℕ). p.0 < 100) (fields l)
narrow letters.Term = search rules
narrow letters.Given = search rules
narrow letters.Ask = search rules
narrow letters.Show = search rules

line_column : (t : List ℕ) (f : LineFault) → Fails t f → (report_of (Line f)).column < 100
line_column t NoLetter h = omega arith
line_column t (WrongLength c) h = omega (arith, h.3, (narrow h.0).0)
line_column t (NoSpace c) h = first_in _ _ (spaces h.0) c (narrow h.0).1 h.3
line_column t (BadField f) h = first_in _ (λ (p : ℕ × ℕ). p.0 < 100) (fields h.0) (f.column, h.4.0) (narrow h.0).2 h.4.1

pub first_column : (t : List ℕ) (f : TextFault) → FirstFault t f → (report_of f).column < 100
first_column t TooLong h = omega arith
first_column t NoNewline h = omega arith
first_column t (Line f) h = line_column h.0 f h.3

-- the lines of t before the rest say records, which s counts
pub record ReadTo (t rest : List ℕ) (s : Summary) : Type 0 where
  pub said : List Record
  pub split : t ≡ text_of said ++ rest
  pub counts : Holds said s

-- each record is one line
counts_lines : {t rest : List ℕ} {s : Summary} (h : ReadTo t rest s) → s.terms + s.given + s.asks + s.shows ≡ length h.said
unfolding all_counts
counts_lines h = omega (arith, h.counts.terms, h.counts.given, h.counts.asks, h.counts.shows, counted h.said)

-- not too many lines are counted
pub few_lines : {t rest : List ℕ} {s : Summary} → length t ≤ limit → ReadTo t rest s → s.terms + s.given + s.asks + s.shows ≤ limit
few_lines {t} {rest} {s} short h = omega (arith, counts_lines h, ap length h.split, length-append (text_of h.said) rest, lines_fit h.said)

pub one_more : {t rest after : List ℕ} {s s' : Summary} {r : Record} → ReadTo t rest s → rest ≡ line_of r ++ 10 ∷ after → Adds s r s' → ReadTo t after s'
one_more {t} {rest} {after} {s} {s'} {r} h is a = record {
  said = h.said ++ r ∷ [];
  split = h.split ∙ ap (λ l. text_of h.said ++ l) is ∙ sym (text_push h.said r after);
  counts = holds_push h.said r s s' h.counts a;
}

-- the next line has a fault
pub refused_next : {t rest : List ℕ} {s : Summary} (n : ℕ) (f : TextFault) → length t ≤ limit → ReadTo t rest s → n ≡ s.terms + s.given + s.asks + s.shows + 1 → 0 < length rest → FirstFault rest f → Refused t n f
refused_next n f short h at some bad = inr (short, (h.said, _, h.split, omega (arith, counts_lines h, at), some, bad))

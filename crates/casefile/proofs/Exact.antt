-- One text has one answer: lines have no newline inside, so a text is told apart into lines in one way. Assumes nothing.
use Rattle.std.proofs.Common.{◌≡◌, ℕ, zero, suc, ◌+◌, ◌-◌, ◌/◌, ◌<◌, ◌≤◌, List, [], ◌∷◌, ◌++◌, length, get_or, drop, Ok, Err, Result, sym, refl, ap, ◌∙◌, subst, inl, inr, append_assoc, append-nil, arith, length-append}
use Rattle.std.proofs.Math.Path.{to_path_p}
use Rattle.std.proofs.Math.Bridge.{le_prop}
use Rattle.std.specs.List.{AllByRecursion}
use Rattle.std.proofs.ByRecursion.{All-from_get_or, All-append, All-push}
use Rattle.std.proofs.lemmas.List.{get_or_at}
use Rattle.std.proofs.lemmas.Bool.{cases_eq}
use Rattle.std.proofs.lemmas.Bool.Decides.{nat_tests}
use Rattle.casefile.specs.declared.fault.TextFault.{TextFault}
use Rattle.casefile.specs.declared.fault.TextFault.TheVariants.{TooLong, NoNewline, Line}
use Rattle.casefile.specs.declared.line.Record.{Record}
use Rattle.casefile.specs.declared.line.Record.TheVariants.{Term, Given, Ask, Show}
use Rattle.casefile.specs.declared.refusal.Refusal.{Refusal}
use Rattle.casefile.specs.declared.summary.Summary.{Summary}
use Rattle.casefile.specs.Faults.{report_of}
use Rattle.casefile.specs.Fields.{digit, mark, front, field_of}
use Rattle.casefile.specs.Questions.{Fails}
use Rattle.casefile.specs.Records.{texts, spaced, line_of}
use Rattle.casefile.specs.Texts.{limit, OneLine, text_of, Holds, FirstFault, InLine, Refused, Checked}
use Rattle.casefile.proofs.Readings.{never_fails, line_same, fails_same}

-- a byte that ends no line
abbrev Inner : ℕ → Type 0
Inner b = b ≡ 10 → ⊥

inner_mark : (n : ℕ) → Inner (mark n)
inner_mark n e = grind (arith, nat_tests, cases_eq n 0)

inner_front : (w n : ℕ) → AllByRecursion Inner (front w n)
inner_front zero n = tt
inner_front (suc w) n = All-push Inner (front w (n / 10)) (mark n) (inner_front w (n / 10)) (inner_mark n)

inner_field : (w n : ℕ) → AllByRecursion Inner (field_of w n)
inner_field w n = All-push Inner (front (w - 1) (n / 10)) (digit n) (inner_front (w - 1) (n / 10)) (λ e. omega arith)

inner_spaced : (ts : List (List ℕ)) → AllByRecursion (AllByRecursion Inner) ts → AllByRecursion Inner (spaced ts)
inner_spaced [] all = tt
inner_spaced (t ∷ ts) all = ((λ e. omega arith), All-append Inner t (spaced ts) all.0 (inner_spaced ts all.1))

inner_line : (r : Record) → AllByRecursion Inner (line_of r)
inner_line (Term row kind left right) = ((λ e. omega arith), inner_spaced (texts (Term row kind left right)) (inner_field 4 row.value, (inner_field 2 kind.value, (inner_field 4 left.value, (inner_field 4 right.value, tt)))))
inner_line (Given row) = ((λ e. omega arith), inner_spaced (texts (Given row)) (inner_field 4 row.value, tt))
inner_line (Ask row) = ((λ e. omega arith), inner_spaced (texts (Ask row)) (inner_field 4 row.value, tt))
inner_line (Show row) = ((λ e. omega arith), inner_spaced (texts (Show row)) (inner_field 4 row.value, tt))

-- the first newline is in one place
cut_same : (a b x y : List ℕ) → AllByRecursion Inner a → AllByRecursion Inner b → a ++ 10 ∷ x ≡ b ++ 10 ∷ y → (a ≡ b) × (x ≡ y)
cut_same [] [] x y p q e = (refl, ap (drop 1) e)
cut_same [] (b ∷ bs) x y p q e = absurd (q.0 (sym (ap (λ l. get_or l 0 0) e)))
cut_same (a ∷ l) [] x y p q e = absurd (p.0 (ap (λ l. get_or l 0 0) e))
cut_same (a ∷ l) (b ∷ bs) x y p q e =
    let rest = cut_same l bs x y p.1 q.1 (ap (drop 1) e) in
    ((λ i. get_or (e i) 0 0 ∷ rest.0 i), rest.1)

inner_one : (t : List ℕ) → OneLine t → AllByRecursion Inner t
inner_one t h = All-from_get_or Inner t 0 h

-- records whose text begins a text of records are the first of those, and the rest says the others
rest_says : (qs rs : List Record) (rest : List ℕ) → text_of qs ++ rest ≡ text_of rs → (ps : List Record) × (rs ≡ qs ++ ps) × (rest ≡ text_of ps)
rest_says [] rs rest e = (rs, refl, e)
rest_says (q ∷ qs) [] rest e = absurd cc
rest_says (q ∷ qs) (r ∷ rs) rest e =
    let parts = cut_same (line_of q) (line_of r) (text_of qs ++ rest) (text_of rs) (inner_line q) (inner_line r) (simp append_assoc at e) in
    let more = rest_says qs rs rest parts.1 in
    (more.0, (λ i. sym (line_same q r parts.0) i ∷ more.1 i), more.2)

-- a newline stands where a line ends
ended_line : (t line after : List ℕ) → OneLine t → t ≡ line ++ 10 ∷ after → ⊥
ended_line t line after h e = subst OneLine e h (length line) (omega (arith, length-append line (10 ∷ after))) (get_or_at line 10 after 0 (length line) refl)

-- a text whose first line says a record has no fault there
good_first : (r : Record) (after rest : List ℕ) (f : TextFault) → rest ≡ line_of r ++ 10 ∷ after → FirstFault rest f → ⊥
good_first r after rest TooLong e h = h
good_first r after rest NoNewline e h = ended_line rest (line_of r) after h e
good_first r after rest (Line f) e h =
    let parts = cut_same (line_of r) h.0 after h.1 (inner_line r) (inner_one h.0 h.2.first) (sym e ∙ h.2.whole) in
    never_fails r f (subst (λ l. Fails l f) (sym parts.0) h.3)

good_rest : (ps : List Record) (rest : List ℕ) (f : TextFault) → rest ≡ text_of ps → 0 < length rest → FirstFault rest f → ⊥
good_rest [] rest f e some h = omega (arith, ap length e)
good_rest (p ∷ ps) rest f e some h = good_first p (text_of ps) rest f e h

good_text : (rs : List Record) (t : List ℕ) (n : ℕ) (f : TextFault) → t ≡ text_of rs → InLine t n f → ⊥
good_text rs t n f is h =
    let says = rest_says h.1.0 rs h.1.1 (sym h.1.2 ∙ is) in
    good_rest says.0 h.1.1 f says.2 h.1.4 h.1.5

never_refused : (rs : List Record) (t : List ℕ) (n : ℕ) (f : TextFault) → length t ≤ limit → t ≡ text_of rs → Refused t n f → ⊥
never_refused rs t n f short is (inl long) = omega (arith, long.0)
never_refused rs t n f short is (inr h) = good_text rs t n f is h

no_records : (ps : List Record) → [] ≡ text_of ps → ps ≡ []
no_records [] e = refl
no_records (p ∷ ps) e = absurd cc

-- records are told from their text
text_same : (qs rs : List Record) → text_of qs ≡ text_of rs → qs ≡ rs
text_same qs rs e =
    let says = rest_says qs rs [] (append-nil (text_of qs) ∙ e) in
    sym (append-nil qs) ∙ ap (λ ps. qs ++ ps) (sym (no_records says.0 says.2)) ∙ sym says.1

-- one fault, in one line

fault_same : (t : List ℕ) (f g : TextFault) → FirstFault t f → FirstFault t g → f ≡ g
fault_same t TooLong g h k = absurd h
fault_same t NoNewline TooLong h k = absurd k
fault_same t NoNewline NoNewline h k = refl
fault_same t NoNewline (Line g) h k = absurd (ended_line t k.0 k.1 h k.2.whole)
fault_same t (Line f) TooLong h k = absurd k
fault_same t (Line f) NoNewline h k = absurd (ended_line t h.0 h.1 k h.2.whole)
fault_same t (Line f) (Line g) h k =
    let parts = cut_same h.0 k.0 h.1 k.1 (inner_one h.0 h.2.first) (inner_one k.0 k.2.first) (sym h.2.whole ∙ k.2.whole) in
    ap Line (fails_same k.0 f g (subst (λ l. Fails l f) parts.0 h.3) k.3)

same_line : (rs qs : List Record) (x y : List ℕ) (f g : TextFault) → text_of rs ++ x ≡ text_of qs ++ y → FirstFault x f → FirstFault y g → (length rs ≡ length qs) × (f ≡ g)
same_line [] [] x y f g e h k = (refl, fault_same y f g (subst (λ l. FirstFault l f) e h) k)
same_line [] (q ∷ qs) x y f g e h k = absurd (good_first q (text_of qs ++ y) x f (simp append_assoc at e) h)
same_line (r ∷ rs) [] x y f g e h k = absurd (good_first r (text_of rs ++ x) y g (sym (simp append_assoc at e)) k)
same_line (r ∷ rs) (q ∷ qs) x y f g e h k =
    let tails = cut_same (line_of r) (line_of q) (text_of rs ++ x) (text_of qs ++ y) (inner_line r) (inner_line q) (simp append_assoc at e) in
    let rest = same_line rs qs x y f g tails.1 h k in
    (ap suc rest.0, rest.1)

in_line_same : (t : List ℕ) (n m : ℕ) (f g : TextFault) → InLine t n f → InLine t m g → (n ≡ m) × (f ≡ g)
in_line_same t n m f g h k =
    let same = same_line h.1.0 k.1.0 h.1.1 k.1.1 f g (sym h.1.2 ∙ k.1.2) h.1.5 k.1.5 in
    (h.1.3 ∙ ap (λ (j : ℕ). j + 1) same.0 ∙ sym k.1.3, same.1)

refused_same : (t : List ℕ) (n m : ℕ) (f g : TextFault) → Refused t n f → Refused t m g → (n ≡ m) × (f ≡ g)
refused_same t n m f g (inl h) (inl k) = (h.1 ∙ sym k.1, h.2 ∙ sym k.2)
refused_same t n m f g (inl h) (inr k) = absurd (omega (arith, h.0, k.0))
refused_same t n m f g (inr h) (inl k) = absurd (omega (arith, h.0, k.0))
refused_same t n m f g (inr h) (inr k) = in_line_same t n m f g h k

refusal_same : (d e : Refusal) → d.line ≡ e.line → d.fault ≡ e.fault → d ≡ e
refusal_same d e p q =
    λ i. record {
      line = p i;
      fault = q i;
      low = to_path_p (λ k. p k < 100000) {a = d.low} (le_prop _ e.low) i;
      narrow = to_path_p (λ k. (report_of (q k)).column < 100) {a = d.narrow} (le_prop _ e.narrow) i;
    }

summary_same : (rs : List Record) (r s : Summary) → Holds rs r → Holds rs s → r ≡ s
summary_same rs r s h k =
    let a = h.terms ∙ sym k.terms in
    let b = h.given ∙ sym k.given in
    let c = h.asks ∙ sym k.asks in
    let d = h.shows ∙ sym k.shows in
    λ i. record {
      terms = a i;
      given = b i;
      asks = c i;
      shows = d i;
      few = to_path_p (λ j. a j + b j + c j + d j < 100000) {a = r.few} (le_prop _ s.few) i;
    }

pub checked_only : (t : List ℕ) (r : Result Summary Refusal) → Checked t r → (q : Result Summary Refusal) → Checked t q → r ≡ q
checked_only t (Ok r) h (Ok q) k =
    let same = text_same h.1.0 k.1.0 (sym h.1.1 ∙ k.1.1) in
    ap Ok (summary_same k.1.0 r q (subst (λ rs. Holds rs r) same h.1.2) k.1.2)
checked_only t (Ok r) h (Err f) k = absurd (never_refused h.1.0 t f.line f.fault h.0 h.1.1 k)
checked_only t (Err e) h (Ok q) k = absurd (never_refused k.1.0 t e.line e.fault k.0 k.1.1 h)
checked_only t (Err e) h (Err f) k =
    let same = refused_same t e.line f.line e.fault f.fault h k in
    ap Err (refusal_same e f same.0 same.1)

-- The terms that rows say, and the rows of terms.
use Rattle.std.specs.Prelude.{ℕ, zero, suc, cond, List, [], ◌∷◌, ◌++◌, None, Option}
use Rattle.std.proofs.Math.Decide.{ℕ_discrete}
use Rattle.std.specs.List.{slice_get}
use Rattle.std.specs.Option.{unwrap_or}
use Rattle.knowledge.specs.Terms.{Term, term_discrete, atom, one, two}
use Rattle.cases.specs.declared.row.Row.{Row}
use Rattle.cases.specs.Parts.{part_count}

-- the entry with a number, counted from 1
abbrev pub numbered : {A : Type 0} → List A → ℕ → Option A
numbered xs zero = None
numbered xs (suc n) = slice_get xs n

-- the term with a number; for a number that has none, which no part of a case has, the atom 0
abbrev pub term_among : List Term → ℕ → Term
term_among ts n = unwrap_or (numbered ts n) (atom 0)

-- the term of so many parts that a row says, where the rows it may name hold these terms
abbrev pub said_by : ℕ → List Term → Row → Term
said_by zero ts r = atom r.left
said_by (suc zero) ts r = one r.kind (term_among ts r.left)
said_by (suc (suc more)) ts r = two r.kind (term_among ts r.left) (term_among ts r.right)

-- the term that a row says: its label, or its kind with the terms of the rows that it names
abbrev pub said : List Term → Row → Term
said ts r = said_by (part_count r.kind) ts r

-- the terms that rows say, each by the terms before it
abbrev pub terms_after : List Term → List Row → List Term
terms_after before [] = []
terms_after before (r ∷ rest) = said before r ∷ terms_after (before ++ (said before r ∷ [])) rest

-- the terms that rows say, from the first on
abbrev pub terms : List Row → List Term
terms rows = terms_after [] rows

-- the terms of given rows
abbrev pub marked : List Row → List Term → List Term
marked [] ts = []
marked (r ∷ rest) [] = []
marked (r ∷ rest) (t ∷ ts) = cond r.given (t ∷ marked rest ts) (marked rest ts)

-- a place counted from 1, with one more entry before it; 0 is no place
abbrev pub onward : ℕ → ℕ
onward zero = 0
onward (suc n) = suc (suc n)

-- the place of a term, by whether the first entry is that term, and its place among the others
abbrev pub placed : {A : Type 0} → Dec A → ℕ → ℕ
placed (yes same) n = 1
placed (no other) n = onward n

-- the number of the first entry that is this term; 0 where none is
abbrev pub place_of : List Term → Term → ℕ
place_of [] t = 0
place_of (u ∷ us) t = placed (term_discrete ℕ_discrete t u) (place_of us t)

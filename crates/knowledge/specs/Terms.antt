-- Terms: messages and keys, made from atoms.
use Rattle.std.specs.Prelude.{◌≡◌, ℕ, List, [], ◌∷◌}

-- an atom with its label, or a kind with one or two parts
pub data Term : Type 0 where
  atom : ℕ → Term
  one : ℕ → Term → Term
  two : ℕ → Term → Term → Term
  deriving Discrete as term_discrete

-- a term's kind; an atom's is 0
abbrev pub kind : Term → ℕ
kind (atom label) = 0
kind (one k left) = k
kind (two k left right) = k

-- a term's parts, left before right
abbrev pub parts : Term → List Term
parts (atom label) = []
parts (one k left) = left ∷ []
parts (two k left right) = left ∷ right ∷ []

infix 40 ◌∈◌
-- an entry stands in a list
pub data ◌∈◌ {A : Type 0} (x : A) : List A → Type 0 where
  here : {y : A} {ys : List A} → x ≡ y → x ∈ (y ∷ ys)
  there : {y : A} {ys : List A} → x ∈ ys → x ∈ (y ∷ ys)

-- inside a term are its parts and the terms inside those
pub data Inside (s : Term) : Term → Type 0 where
  part : {t : Term} → s ∈ parts t → Inside s t
  deeper : {t p : Term} → p ∈ parts t → Inside s p → Inside s t

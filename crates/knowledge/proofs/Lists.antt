-- Lists: what stands where in lists put together.
use Rattle.std.proofs.Common.{◌≡◌, ◌⊎◌, List, [], ◌∷◌, ◌++◌, get_or, drop, refl, ap, inl, inr, ⊎_elim}
use Rattle.knowledge.specs.Terms.{◌∈◌, here, there}

pub in_left : {A : Type 0} {x : A} (xs ys : List A) → x ∈ xs → x ∈ (xs ++ ys)
in_left [] ys i = elim i [ ]
in_left (z ∷ xs) ys (here e) = here e
in_left (z ∷ xs) ys (there i) = there (in_left xs ys i)

pub in_right : {A : Type 0} {x : A} (xs ys : List A) → x ∈ ys → x ∈ (xs ++ ys)
in_right [] ys i = i
in_right (z ∷ xs) ys i = there (in_right xs ys i)

pub in_either : {A : Type 0} {x : A} (xs ys : List A) → x ∈ (xs ++ ys) → (x ∈ xs) ⊎ (x ∈ ys)
in_either [] ys i = inr i
in_either (z ∷ xs) ys (here e) = inl (here e)
in_either (z ∷ xs) ys (there i) = ⊎_elim (λ j. inl (there j)) inr (in_either xs ys i)

-- what leads from one entry to another in each of two lists does so in the two put together
pub in_both : {A : Type 0} {x y : A} (xs ys : List A) → (x ∈ xs → y ∈ xs) → (x ∈ ys → y ∈ ys) → x ∈ (xs ++ ys) → y ∈ (xs ++ ys)
in_both xs ys f h i = ⊎_elim (λ j. in_left xs ys (f j)) (λ j. in_right xs ys (h j)) (in_either xs ys i)

pub only_one : {A : Type 0} {x y : A} → x ∈ (y ∷ []) → x ≡ y
only_one (here e) = e
only_one (there i) = elim i [ ]

-- two lists with a first entry are told from it and from the rest
head_same : {A : Type 0} {x y : A} {xs ys : List A} → x ∷ xs ≡ y ∷ ys → x ≡ y
head_same {x = x} e = ap (λ l. get_or l 0 x) e

tail_same : {A : Type 0} {x y : A} {xs ys : List A} → x ∷ xs ≡ y ∷ ys → xs ≡ ys
tail_same e = ap (drop 1) e

-- a cut of two lists put together lies in the first, or in the second
abbrev pub Cut : {A : Type 0} → List A → List A → List A → A → List A → Type 0
Cut {A} xs ys earlier t later = ((rest : List A) × (xs ≡ earlier ++ (t ∷ rest)))
    ⊎ ((front : List A) × (earlier ≡ xs ++ front) × (ys ≡ front ++ (t ∷ later)))

pub cut : {A : Type 0} (xs ys earlier : List A) (t : A) (later : List A) → xs ++ ys ≡ earlier ++ (t ∷ later) → Cut xs ys earlier t later
cut [] ys earlier t later e = inr (earlier, refl, e)
cut (x ∷ xs) ys [] t later e = inl (xs, ap (λ h. h ∷ xs) (head_same e))
cut (x ∷ xs) ys (y ∷ earlier) t later e = onward (cut xs ys earlier t later (tail_same e))
  where
    onward : Cut xs ys earlier t later → Cut (x ∷ xs) ys (y ∷ earlier) t later
    onward (inl (rest, f)) = inl (rest, let h = head_same e in cc)
    onward (inr (front, f, f')) = inr (front, let h = head_same e in cc, f')

pub cut_none : {A : Type 0} (earlier : List A) (t : A) (later : List A) → [] ≡ earlier ++ (t ∷ later) → ⊥
cut_none [] t later e = absurd cc
cut_none (x ∷ earlier) t later e = absurd cc

-- a list of one entry is cut at that entry
pub cut_one : {A : Type 0} (x : A) (earlier : List A) (t : A) (later : List A) → x ∷ [] ≡ earlier ++ (t ∷ later) → x ≡ t
cut_one x [] t later e = head_same e
cut_one x (y ∷ earlier) t later e = absurd (cut_none earlier t later (tail_same e))

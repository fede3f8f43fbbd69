-- Entries of lists by their number.
use Rattle.std.proofs.Common.{◌≡◌, ℕ, zero, suc, ◌+◌, ◌<◌, ◌≤◌, List, [], ◌∷◌, ◌++◌, map, length, take, drop, Some, sym, refl, ap, le_of_suc-le-suc, not-suc-le-zero, suc-add, zero-add, arith}
use Rattle.std.specs.List.{slice_get}
use Rattle.std.specs.Option.{option_map}
use Rattle.std.proofs.lemmas.Option.{none-some, same_Some, slice_get-map, slice_get_within}
use Rattle.knowledge.specs.Terms.{◌∈◌, here, there}
use Rattle.cases.specs.Said.{numbered}

-- the front of a list keeps its entries, whatever stands behind it
pub slice_get_left : {A : Type 0} (xs ys : List A) (i : ℕ) → i < length xs → slice_get (xs ++ ys) i ≡ slice_get xs i
slice_get_left [] ys i l = absurd (not-suc-le-zero l)
slice_get_left (x ∷ xs) ys zero l = refl
slice_get_left (x ∷ xs) ys (suc i) l = slice_get_left xs ys i (le_of_suc-le-suc l)

pub numbered_left : {A : Type 0} (xs ys : List A) (n : ℕ) → n ≤ length xs → numbered (xs ++ ys) n ≡ numbered xs n
numbered_left xs ys zero l = refl
numbered_left xs ys (suc n) l = slice_get_left xs ys n l

pub slice_get-take : {A : Type 0} (xs : List A) (k i : ℕ) → i < k → slice_get (take k xs) i ≡ slice_get xs i
slice_get-take [] zero i l = refl
slice_get-take [] (suc k) i l = refl
slice_get-take (x ∷ xs) zero i l = absurd (not-suc-le-zero l)
slice_get-take (x ∷ xs) (suc k) zero l = refl
slice_get-take (x ∷ xs) (suc k) (suc i) l = slice_get-take xs k i (le_of_suc-le-suc l)

pub numbered-take : {A : Type 0} (xs : List A) (k n : ℕ) → n ≤ k → numbered (take k xs) n ≡ numbered xs n
numbered-take xs k zero l = refl
numbered-take xs k (suc n) l = slice_get-take xs k n l

pub slice_get-drop : {A : Type 0} (xs : List A) (k i : ℕ) → slice_get (drop k xs) i ≡ slice_get xs (k + i)
slice_get-drop xs zero i = rw zero-add
slice_get-drop [] (suc k) i = refl
slice_get-drop (x ∷ xs) (suc k) i = rw suc-add (slice_get-drop xs k i)

pub numbered-map : {A B : Type 0} (f : A → B) (xs : List A) (n : ℕ) → numbered (map f xs) n ≡ option_map f (numbered xs n)
numbered-map f xs zero = refl
numbered-map f xs (suc n) = slice_get-map f xs n

-- an entry has a number within the list, and such a number has an entry
pub numbered_within : {A : Type 0} (xs : List A) (n : ℕ) (x : A) → numbered xs n ≡ Some x → (0 < n) × (n ≤ length xs)
numbered_within xs zero x e = absurd (none-some _ e)
numbered_within xs (suc n) x e = (omega arith, slice_get_within xs n x e)

pub slice_get_there : {A : Type 0} (xs : List A) (i : ℕ) → i < length xs → (x : A) × (slice_get xs i ≡ Some x)
slice_get_there [] i l = absurd (not-suc-le-zero l)
slice_get_there (x ∷ xs) zero l = (x, refl)
slice_get_there (x ∷ xs) (suc i) l = slice_get_there xs i (le_of_suc-le-suc l)

pub numbered_there : {A : Type 0} (xs : List A) (n : ℕ) → 0 < n → n ≤ length xs → (x : A) × (numbered xs n ≡ Some x)
numbered_there xs zero p l = absurd (not-suc-le-zero p)
numbered_there xs (suc n) p l = slice_get_there xs n l

-- what has a number stands in the list, and what stands in it has a number
pub slice_get_in : {A : Type 0} (xs : List A) (i : ℕ) (x : A) → slice_get xs i ≡ Some x → x ∈ xs
slice_get_in [] i x e = absurd (none-some _ e)
slice_get_in (y ∷ ys) zero x e = here (sym (same_Some _ _ e))
slice_get_in (y ∷ ys) (suc i) x e = there (slice_get_in ys i x e)

pub numbered_in : {A : Type 0} (xs : List A) (n : ℕ) (x : A) → numbered xs n ≡ Some x → x ∈ xs
numbered_in xs zero x e = absurd (none-some _ e)
numbered_in xs (suc n) x e = slice_get_in xs n x e

pub in_slice_get : {A : Type 0} (xs : List A) (x : A) → x ∈ xs → (i : ℕ) × (slice_get xs i ≡ Some x)
in_slice_get [] x i = elim i [ ]
in_slice_get (y ∷ ys) x (here e) = (0, ap Some (sym e))
in_slice_get (y ∷ ys) x (there i) = let (k, e) = in_slice_get ys x i in (suc k, e)

-- The three theories keep the laws, and so does a pile of two that do.
use Rattle.std.proofs.Common.{◌≡◌, ℕ, ◌≤◌, Bool, true, false, cond, ◌||◌, ◌⊎◌, ◌↔◌, List, [], ◌∷◌, length, Some, None, Option, sym, refl, ◌∙◌, subst, inl, inr, true≢false, arith}
use Rattle.std.proofs.lemmas.Option.{none-some, same_Some}
use Rattle.knowledge.specs.Terms.{Term, atom, one, two, kind, parts, ◌∈◌, here, there, Inside, part, deeper}
use Rattle.knowledge.specs.Meanings.{Taking, Meaning, NoStep, Lawful, pile}
use Rattle.knowledge.specs.Kinds.{Kind, pair, hash, cipher, public_key, sealed, signature, check_value, reply, is, one_of, buildable, takes, plain, opened, public_keys, replies, standard}
use Rattle.knowledge.specs.Theorems.{LawfulTheories, Piled}

-- a test picks what it says
on : {A : Type 0} (b : Bool) (x y : A) → b ≡ true → cond b x y ≡ x
on true x y e = refl
on false x y e = absurd (true≢false (sym e))

pub off : {A : Type 0} (b : Bool) (x y : A) → b ≡ false → cond b x y ≡ y
off true x y e = absurd (true≢false e)
off false x y e = refl

one_on : (a b : Bool) → (a || b) ≡ true ↔ ((a ≡ true) ⊎ (b ≡ true))
one_on true b = (λ e. inl refl, λ e. refl)
one_on false b = (inr, elim [ inl e ↦ absurd (true≢false (sym e)) | inr e ↦ e ])

pub piled : (upper lower : Meaning) → Piled upper lower
piled upper lower = record {
  on_owned = λ t e. record { same_builds = on (upper.owns (kind t)) _ _ e; same_takings = on (upper.owns (kind t)) _ _ e };
  on_others = λ t e. record { same_builds = off (upper.owns (kind t)) _ _ e; same_takings = off (upper.owns (kind t)) _ _ e };
  owns_both = λ k. one_on (upper.owns k) (lower.owns k);
}

-- what the laws ask of a term's takings: at most two, each with a part for its result and a side from inside
abbrev SideInside : Option Term → Term → Type 0
SideInside None t = Unit {0}
SideInside (Some s) t = Inside s t

abbrev Each : Term → List Taking → Type 0
Each t [] = Unit {0}
Each t (k ∷ ks) = ((k.result ∈ parts t) × SideInside k.side t) × Each t ks

abbrev Kept : Term → List Taking → Type 0
Kept t ks = (length ks ≤ 2) × Each t ks

in_the_left : (s left right : Term) (n : ℕ) → Inside s left → Inside s (two n left right)
in_the_left s left right n h = deeper (here refl) h

in_the_right : (s left right : Term) (n : ℕ) → Inside s right → Inside s (two n left right)
in_the_right s left right n h = deeper (there (here refl)) h

ruleset inside = (here, there, part, in_the_left, in_the_right, refl)

each_result : (t : Term) (ks : List Taking) (k : Taking) → Each t ks → k ∈ ks → k.result ∈ parts t
each_result t [] k each i = elim i [ ]
each_result t (x ∷ xs) k (first, rest) (here e) = subst (λ y. y.result ∈ parts t) (sym e) first.0
each_result t (x ∷ xs) k (first, rest) (there i) = each_result t xs k rest i

side_inside : (side : Option Term) (t s : Term) → SideInside side t → side ≡ Some s → Inside s t
side_inside None t s h e = absurd (none-some _ e)
side_inside (Some u) t s h e = subst (λ x. Inside x t) (same_Some _ _ e) h

each_side : (t : Term) (ks : List Taking) (k : Taking) (s : Term) → Each t ks → k ∈ ks → k.side ≡ Some s → Inside s t
each_side t [] k s each i e = elim i [ ]
each_side t (x ∷ xs) k s (first, rest) (here f) e = side_inside x.side t s first.1 (subst (λ y. y.side ≡ Some s) f e)
each_side t (x ∷ xs) k s (first, rest) (there i) e = each_side t xs k s rest i e

-- what holds of either of two holds of the one that a test picks
either : {A : Type 0} (P : A → Type 0) (b : Bool) (x y : A) → P x → P y → P (cond b x y)
either P true x y h l = h
either P false x y h l = l

both_off : (a b : Bool) → (a || b) ≡ false → (a ≡ false) × (b ≡ false)
both_off true b e = absurd (true≢false e)
both_off false b e = (refl, e)

-- a kind that is not listed is none of those listed
not_listed : (ks : List Kind) (n : ℕ) (k : Kind) → one_of ks n ≡ false → k ∈ ks → is k n ≡ false
not_listed [] n k e i = elim i [ ]
not_listed (x ∷ xs) n k e (here f) = subst (λ y. is y n ≡ false) (sym f) (both_off (is x n) (one_of xs n) e).0
not_listed (x ∷ xs) n k e (there i) = not_listed xs n k (both_off (is x n) (one_of xs n) e).1 i

none_listed : (ks : List Kind) (n : ℕ) → ((k : Kind) → k ∈ ks → is k n ≡ false) → one_of ks n ≡ false
none_listed [] n none = refl
none_listed (x ∷ xs) n none = let e = none x (here refl) in let f = none_listed xs n (λ k i. none k (there i)) in rw (e, f)

-- a theory by kinds keeps the laws if it owns what it builds, and its takings keep them
module _ (owned ones twos : List Kind) (from : ℕ → Term → Term → List Taking) where
  abbrev theory : Meaning
  theory = record { owns = one_of owned; builds = buildable ones twos; takings = takes from }

  by_kinds : ((k : Kind) → k ∈ ones → k ∈ owned) → ((k : Kind) → k ∈ twos → k ∈ owned)
      → ((n : ℕ) (left right : Term) → Kept (two n left right) (from n left right))
      → ((n : ℕ) (left right : Term) → ((k : Kind) → k ∈ owned → is k n ≡ false) → from n left right ≡ []) → Lawful theory
  by_kinds ones_owned twos_owned keeps none = record {
    few = λ t. (kept t).0;
    atoms = λ label. record { unbuilt = refl; untaken = refl };
    results = λ t k i. each_result t (takes from t) k (kept t).1 i;
    sides = λ t k s i. each_side t (takes from t) k s (kept t).1 i;
    foreign = λ t e. record { unbuilt = unbuilt t e; untaken = untaken t e };
  }
    where
      kept : (t : Term) → Kept t (takes from t)
      kept (atom label) = (omega arith, tt)
      kept (one n left) = (omega arith, tt)
      kept (two n left right) = keeps n left right

      unbuilt : (t : Term) → one_of owned (kind t) ≡ false → buildable ones twos t ≡ false
      unbuilt (atom label) e = refl
      unbuilt (one n left) e = none_listed ones n (λ k i. not_listed owned n k e (ones_owned k i))
      unbuilt (two n left right) e = none_listed twos n (λ k i. not_listed owned n k e (twos_owned k i))

      untaken : (t : Term) → one_of owned (kind t) ≡ false → takes from t ≡ []
      untaken (atom label) e = refl
      untaken (one n left) e = refl
      untaken (two n left right) e = none n left right (λ k i. not_listed owned n k e i)

-- on a term, a pile has the steps of one of its two theories
module _ (upper lower : Meaning) (t : Term) where
  pick : {A : Type 0} (P : A → Type 0) (x y : A) → P x → P y → P (cond (upper.owns (kind t)) x y)
  pick P x y = either P (upper.owns (kind t)) x y

  pile_no_step : NoStep upper t → NoStep lower t → NoStep (pile upper lower) t
  pile_no_step u l = record {
    unbuilt = pick (λ b. b ≡ false) _ _ u.unbuilt l.unbuilt;
    untaken = pick (λ ks. ks ≡ []) _ _ u.untaken l.untaken;
  }

  abbrev Results : List Taking → Type 0
  Results ks = (k : Taking) → k ∈ ks → k.result ∈ parts t

  abbrev Sides : List Taking → Type 0
  Sides ks = (k : Taking) (s : Term) → k ∈ ks → k.side ≡ Some s → Inside s t

pub pile_lawful : (upper lower : Meaning) → Lawful upper → Lawful lower → Lawful (pile upper lower)
pile_lawful upper lower u l = record {
  few = λ t. pick upper lower t (λ ks. length ks ≤ 2) _ _ (u.few t) (l.few t);
  atoms = λ label. pile_no_step upper lower (atom label) (u.atoms label) (l.atoms label);
  results = λ t. pick upper lower t (Results upper lower t) _ _ (u.results t) (l.results t);
  sides = λ t. pick upper lower t (Sides upper lower t) _ _ (u.sides t) (l.sides t);
  foreign = λ t e.
      let (f, h) = both_off (upper.owns (kind t)) (lower.owns (kind t)) e in
      pile_no_step upper lower t (u.foreign t f) (l.foreign t h);
}

pub plain_lawful : Lawful plain
plain_lawful = by_kinds (pair ∷ hash ∷ cipher ∷ check_value ∷ []) (hash ∷ []) (pair ∷ cipher ∷ check_value ∷ []) _
    (λ k. elim [ here e ↦ there (here e) | there i ↦ elim i [ ] ]) (λ k. elim [ here e ↦ here e | there i ↦ there (there i) ])
    (λ n left right. either (Kept (two n left right)) (is pair n) _ _ (omega arith, search inside)
    (either (Kept (two n left right)) (is cipher n) _ _ (omega arith, search inside) (omega arith, tt)))
    (λ n left right free. off (is pair n) _ _ (free pair (here refl)) ∙ off (is cipher n) _ _ (free cipher (there (there (here refl)))))

-- a sealed term's taking, whatever its key
opened_kept : (n : ℕ) (body key : Term) → Kept (two n body key) (opened body key)
opened_kept n body (atom label) = (omega arith, tt)
opened_kept n body (one l secret) = either (Kept (two n body (one l secret))) (is public_key l) _ _ (omega arith, search inside) (omega arith, tt)
opened_kept n body (two l left right) = (omega arith, tt)

pub public_key_lawful : Lawful public_keys
public_key_lawful = by_kinds (public_key ∷ sealed ∷ signature ∷ []) (public_key ∷ []) (sealed ∷ signature ∷ []) _
    (λ k. elim [ here e ↦ here e | there i ↦ elim i [ ] ]) (λ k i. there i)
    (λ n body key. either (Kept (two n body key)) (is sealed n) _ _ (opened_kept n body key) (omega arith, tt))
    (λ n body key free. off (is sealed n) _ _ (free sealed (there (here refl))))

pub reply_lawful : Lawful replies
reply_lawful = by_kinds (reply ∷ []) [] [] _ (λ k i. elim i [ ]) (λ k i. elim i [ ])
    (λ n asked answered. either (Kept (two n asked answered)) (is reply n) _ _ (omega arith, search inside) (omega arith, tt))
    (λ n asked answered free. off (is reply n) _ _ (free reply (here refl)))

pub lawful_theories : LawfulTheories
lawful_theories = record {
  plain_keeps = plain_lawful;
  public_key_keeps = public_key_lawful;
  reply_keeps = reply_lawful;
  pile_keeps = pile_lawful;
}

pub standard_lawful : Lawful standard
standard_lawful = pile_lawful replies (pile public_keys plain) reply_lawful (pile_lawful public_keys plain public_key_lawful plain_lawful)

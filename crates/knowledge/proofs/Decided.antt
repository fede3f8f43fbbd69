-- What can be decided of lists of terms, and the rounds within a list worked out as lists.
use Rattle.std.proofs.Math.Decide.{ℕ_discrete}
use Rattle.std.proofs.Common.{◌≡◌, true, ◌⊎◌, List, [], ◌∷◌, Some, None, Option, sym, refl, subst, inl, inr}
use Rattle.std.proofs.Math.Bool.{Bool-discrete}
use Rattle.std.proofs.lemmas.Option.{none-some, same_Some}
use Rattle.knowledge.specs.Terms.{Term, term_discrete, parts, ◌∈◌, here, there}
use Rattle.knowledge.specs.Meanings.{Taking, Meaning}
use Rattle.knowledge.specs.Rounds.{Built, Taken, Leads}

abbrev pub same? : (t u : Term) → Dec (t ≡ u)
same? = term_discrete ℕ_discrete

abbrev pub by_iff : {A B : Type 0} → (A → B) → (B → A) → Dec A → Dec B
by_iff f h (yes a) = yes (f a)
by_iff f h (no k) = no (λ b. k (h b))

abbrev pub both? : {A B : Type 0} → Dec A → Dec B → Dec (A × B)
both? (yes a) (yes b) = yes (a, b)
both? (yes a) (no k) = no (λ ab. k ab.1)
both? (no k) b = no (λ ab. k ab.0)

abbrev pub either? : {A B : Type 0} → Dec A → Dec B → Dec (A ⊎ B)
either? (yes a) b = yes (inl a)
either? (no k) (yes b) = yes (inr b)
either? (no k) (no l) = no (elim [ inl a ↦ k a | inr b ↦ l b ])

-- whether some entry of a list has a property, and whether all have
module _ {A : Type 0} (P : A → Type 0) (decide : (x : A) → Dec (P x)) where
  abbrev SomeIn : List A → Type 0
  SomeIn xs = (x : A) × (x ∈ xs) × P x

  abbrev AllIn : List A → Type 0
  AllIn xs = (x : A) → x ∈ xs → P x

  pub some_there : (y : A) (ys : List A) (x : A) → x ∈ (y ∷ ys) → P x → P y ⊎ SomeIn ys
  some_there y ys x (here e) p = inl (subst P e p)
  some_there y ys x (there i) p = inr (x, i, p)

  pub all_there : (y : A) (ys : List A) → P y × AllIn ys → AllIn (y ∷ ys)
  all_there y ys (p, rest) x (here e) = subst P (sym e) p
  all_there y ys (p, rest) x (there i) = rest x i

  abbrev pub any? : (xs : List A) → Dec (SomeIn xs)
  any? [] = no (λ (x, i, p). elim i [ ])
  any? (y ∷ ys) = by_iff (elim [ inl p ↦ (y, here refl, p) | inr s ↦ (s.0, there s.1, s.2) ]) (λ (x, i, p). some_there y ys x i p) (either? (decide y) (any? ys))

  abbrev pub all? : (xs : List A) → Dec (AllIn xs)
  all? [] = yes (λ x i. elim i [ ])
  all? (y ∷ ys) = by_iff (all_there y ys) (λ all. (all y (here refl), λ x i. all x (there i))) (both? (decide y) (all? ys))

-- whether a term stands in a list
abbrev pub in? : (t : Term) (ts : List Term) → Dec (t ∈ ts)
in? t [] = no (λ i. elim i [ ])
in? t (u ∷ us) = by_iff (elim [ inl e ↦ here e | inr i ↦ there i ]) (elim [ here e ↦ inl e | there i ↦ inr i ]) (either? (same? t u) (in? t us))

-- whether a side, if there is one, is known
abbrev pub side? : (side : Option Term) (known : List Term) → Dec ((s : Term) → side ≡ Some s → s ∈ known)
side? None known = yes (λ s e. absurd (none-some _ e))
side? (Some u) known = by_iff (λ i s e. subst (λ x. x ∈ known) (same_Some _ _ e) i) (λ all. all u refl) (in? u known)

-- whether one step leads from the terms of a list to a term
module _ (m : Meaning) (known : List Term) (t : Term) where
  abbrev In : Term → Type 0
  In u = u ∈ known

  abbrev Gives : Taking → Type 0
  Gives k = (k.result ≡ t) × ((s : Term) → k.side ≡ Some s → In s)

  abbrev GivenBy : Term → Type 0
  GivenBy main = (k : Taking) × (k ∈ m.takings main) × Gives k

  abbrev gives? : (main : Term) → Dec (GivenBy main)
  gives? main = any? Gives (λ k. both? (same? k.result t) (side? k.side known)) (m.takings main)

  abbrev pub built? : Dec (Built m In t)
  built? = by_iff (λ b. record { can = b.0; known = b.1 }) (λ b. (b.can, b.known))
      (both? (Bool-discrete (m.builds t) true) (all? In (λ p. in? p known) (parts t)))

  abbrev pub taken? : Dec (Taken m In t)
  taken? = by_iff (λ (main, i, (k, j, (e, s))). record { main = main; taking = k; of_main = j; gives = e; known = i; beside = s })
      (λ k. (k.main, k.known, (k.taking, k.of_main, (k.gives, k.beside)))) (any? GivenBy gives? known)

  abbrev pub leads? : Dec (Leads m In t)
  leads? = either? built? taken?

-- the entries of a list that have a property
abbrev pub keep : {A : Type 0} → Dec A → Term → List Term → List Term
keep (yes a) t ts = t ∷ ts
keep (no k) t ts = ts

module _ (P : Term → Type 0) (decide : (t : Term) → Dec (P t)) where
  abbrev pub kept : List Term → List Term
  kept [] = []
  kept (t ∷ ts) = keep (decide t) t (kept ts)

  pub kept_from : (ts : List Term) (t : Term) → t ∈ kept ts → (t ∈ ts) × P t
  kept_from [] t i = elim i [ ]
  kept_from (u ∷ us) t i = pick (decide u) i (kept_from us t)
    where
      pick : (d : Dec (P u)) → t ∈ keep d u (kept us) → (t ∈ kept us → (t ∈ us) × P t) → (t ∈ (u ∷ us)) × P t
      pick (yes p) (here e) below = (here e, subst P (sym e) p)
      pick (yes p) (there i) below = (there (below i).0, (below i).1)
      pick (no k) i below = (there (below i).0, (below i).1)

  keep_first : (t u : Term) (us : List Term) (d : Dec (P u)) → t ≡ u → P t → t ∈ keep d u us
  keep_first t u us (yes q) e p = here e
  keep_first t u us (no k) e p = absurd (k (subst P e p))

  keep_rest : (t u : Term) (us : List Term) (d : Dec (P u)) → t ∈ us → t ∈ keep d u us
  keep_rest t u us (yes q) i = there i
  keep_rest t u us (no k) i = i

  pub kept_into : (ts : List Term) (t : Term) → t ∈ ts → P t → t ∈ kept ts
  kept_into [] t i p = elim i [ ]
  kept_into (u ∷ us) t (here e) p = keep_first t u (kept us) (decide u) e p
  kept_into (u ∷ us) t (there i) p = keep_rest t u (kept us) (decide u) (kept_into us t i p)

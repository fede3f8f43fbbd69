-- What a run reaches, a round holds, and the other way round.
use Rattle.std.proofs.Common.{◌≡◌, ℕ, zero, suc, ◌⊎◌, List, [], ◌∷◌, ◌++◌, Some, None, Option, sym, refl, ap, ◌∙◌, subst, inl, inr, append_assoc, append-nil}
use Rattle.std.proofs.lemmas.Option.{none-some, same_Some}
use Rattle.knowledge.specs.Terms.{Term, parts, ◌∈◌, here, there}
use Rattle.knowledge.specs.Meanings.{Meaning}
use Rattle.knowledge.specs.Rounds.{Leads, everywhere, Round}
use Rattle.knowledge.specs.Runs.{Run, Reachable}
use Rattle.knowledge.specs.Theorems.{RunsAreRounds}
use Rattle.knowledge.proofs.Lists.{in_left, in_right, in_either, only_one, Cut, cut, cut_one, cut_none}
use Rattle.knowledge.proofs.Steps.{built_again, taken_again, leads_more, given_stays}

-- what a taking starts from
abbrev premises : Term → Option Term → List Term
premises main None = main ∷ []
premises main (Some s) = main ∷ s ∷ []

main_too : (main : Term) (side : Option Term) → main ∈ premises main side
main_too main None = here refl
main_too main (Some u) = here refl

side_too : (main : Term) (side : Option Term) (s : Term) → side ≡ Some s → s ∈ premises main side
side_too main None s e = absurd (none-some _ e)
side_too main (Some u) s e = there (here (sym (same_Some _ _ e)))

all_premises : (P : Term → Type 0) (main : Term) (side : Option Term) → P main → ((s : Term) → side ≡ Some s → P s)
    → (p : Term) → p ∈ premises main side → P p
all_premises P main None h rest p (here e) = subst P (sym e) h
all_premises P main None h rest p (there i) = elim i [ ]
all_premises P main (Some s) h rest p (here e) = subst P (sym e) h
all_premises P main (Some s) h rest p (there i) = rest p (ap Some (sym (only_one i)))

module _ (m : Meaning) (given : List Term) where
  abbrev Holds : ℕ → Term → Type 0
  Holds n t = Round m everywhere given n t

  -- why a term may stand in a run
  abbrev Justified : List Term → Term → Type 0
  Justified earlier t = (t ∈ given) ⊎ Leads m (λ u. u ∈ earlier) t

  later_too : (xs ys : List Term) → ((u : Term) → u ∈ xs → u ∈ ys) → (t : Term) → Justified xs t → Justified ys t
  later_too xs ys more t (inl i) = inl i
  later_too xs ys more t (inr l) = inr (leads_more m (λ u. u ∈ xs) (λ u. u ∈ ys) t more l)

  -- a run may go on with terms that are justified by what stands before them
  run_on : (xs ys : List Term) → Run m given xs
      → ((front : List Term) (t : Term) (later : List Term) → ys ≡ front ++ (t ∷ later) → Justified (xs ++ front) t)
      → Run m given (xs ++ ys)
  run_on xs ys run next earlier t later e = pick (cut xs ys earlier t later e)
    where
      pick : Cut xs ys earlier t later → Justified earlier t
      pick (inl (rest, f)) = run earlier t rest f
      pick (inr (front, f, f')) = subst (λ x. Justified x t) (sym f) (next front t later f')

  run_append : (xs ys : List Term) → Run m given xs → Run m given ys → Run m given (xs ++ ys)
  run_append xs ys before after =
      run_on xs ys before (λ front t later e. later_too front (xs ++ front) (λ u i. in_right xs front i) t (after front t later e))

  run_last : (xs : List Term) (t : Term) → Run m given xs → Justified xs t → Run m given (xs ++ (t ∷ []))
  run_last xs t run j = run_on xs (t ∷ []) run next
    where
      next : (front : List Term) (u : Term) (later : List Term) → t ∷ [] ≡ front ++ (u ∷ later) → Justified (xs ++ front) u
      next front u later e = subst (Justified (xs ++ front)) (cut_one t front u later e) (later_too xs (xs ++ front) (λ v i. in_left xs front i) t j)

  -- every term of a run is in one round
  held_all : (run : List Term) → Run m given run → (earlier later : List Term) → run ≡ earlier ++ later
      → (n : ℕ) → ((u : Term) → u ∈ earlier → Holds n u) → (k : ℕ) × ((u : Term) → u ∈ run → Holds k u)
  held_all run steps earlier [] e n held = (n, λ u i. held u (subst (λ x. u ∈ x) (e ∙ append-nil earlier) i))
  held_all run steps earlier (t ∷ later) e n held =
      held_all run steps (earlier ++ (t ∷ [])) later (e ∙ sym (append_assoc earlier (t ∷ []) later)) (suc n) (λ u i. step u (in_either earlier (t ∷ []) i))
    where
      next : Justified earlier t → Holds (suc n) t
      next (inl i) = given_stays m everywhere given (suc n) t i
      next (inr l) = inr (tt, leads_more m (λ u. u ∈ earlier) (Holds n) t held l)

      step : (u : Term) → (u ∈ earlier) ⊎ (u ∈ (t ∷ [])) → Holds (suc n) u
      step u (inl i) = inl (held u i)
      step u (inr i) = subst (Holds (suc n)) (sym (only_one i)) (next (steps earlier t later e))

  -- one run for all the terms of a list that runs reach
  run_for_all : (ps : List Term) → ((p : Term) → p ∈ ps → Reachable m given p)
      → (run : List Term) × Run m given run × ((p : Term) → p ∈ ps → p ∈ run)
  run_for_all [] reach = ([], λ earlier t later e. absurd (cut_none earlier t later e), λ p i. elim i [ ])
  run_for_all (q ∷ ps) reach =
      let first = reach q (here refl) in
      let run : List Term = first.earlier ++ (q ∷ []) in
      let (rest, steps, has) = run_for_all ps (λ p i. reach p (there i)) in
      (run ++ rest, run_append run rest first.run steps, λ p i. has_all run rest p (in_right first.earlier (q ∷ []) (here refl)) has i)
    where
      has_all : (run rest : List Term) (p : Term) → q ∈ run → ((u : Term) → u ∈ ps → u ∈ rest) → p ∈ (q ∷ ps) → p ∈ (run ++ rest)
      has_all run rest p j has (here e) = subst (λ x. x ∈ (run ++ rest)) (sym e) (in_left run rest j)
      has_all run rest p j has (there i) = in_right run rest (has p i)

  -- a step from terms that runs reach
  reach_next : (ps : List Term) (t : Term) → ((p : Term) → p ∈ ps → Reachable m given p)
      → ((run : List Term) → ((p : Term) → p ∈ ps → p ∈ run) → Leads m (λ u. u ∈ run) t) → Reachable m given t
  reach_next ps t reach leads =
      let (run, steps, has) = run_for_all ps reach in
      record { earlier = run; run = run_last run t steps (inr (leads run has)) }

  round_reached : (n : ℕ) (t : Term) → Holds n t → Reachable m given t
  round_reached zero t i = record { earlier = []; run = run_last [] t (λ earlier u later e. absurd (cut_none earlier u later e)) (inl i) }
  round_reached (suc n) t (inl h) = round_reached n t h
  round_reached (suc n) t (inr (a, inl b)) =
      reach_next (parts t) t (λ p i. round_reached n p (b.known p i)) (λ run has. inl (built_again m (Holds n) (λ u. u ∈ run) t b has))
  round_reached (suc n) t (inr (a, inr k)) =
      let side : Option Term = k.taking.side in
      reach_next (premises k.main side) t
      (all_premises (Reachable m given) k.main side (round_reached n k.main k.known) (λ s e. round_reached n s (k.beside s e)))
      (λ run has. inr (taken_again m (Holds n) (λ u. u ∈ run) t k (has k.main (main_too k.main side)) (λ s e. has s (side_too k.main side s e))))

pub runs_are_rounds : RunsAreRounds
runs_are_rounds m given t = (to_round, λ (n, h). round_reached m given n t h)
  where
    to_round : Reachable m given t → (n : ℕ) × Round m everywhere given n t
    to_round r =
        let run : List Term = r.earlier ++ (t ∷ []) in
        let (n, held) = held_all m given run r.run [] run refl 0 (λ u i. elim i [ ]) in
        (n, held t (in_right r.earlier (t ∷ []) (here refl)))

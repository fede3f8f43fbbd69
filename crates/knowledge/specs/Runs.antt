-- What an intruder does, and what can be reached that way.
use Rattle.std.specs.Prelude.{◌≡◌, ◌⊎◌, List, [], ◌∷◌, ◌++◌}
use Rattle.knowledge.specs.Terms.{Term, ◌∈◌}
use Rattle.knowledge.specs.Meanings.{Meaning}
use Rattle.knowledge.specs.Rounds.{Leads}

-- an intruder run: each of its terms is given, or one step leads to it from terms earlier in the list
abbrev pub Run : Meaning → List Term → List Term → Type 0
Run m given run = (earlier : List Term) (t : Term) (later : List Term) → run ≡ earlier ++ (t ∷ later)
    → (t ∈ given) ⊎ Leads m (λ u. u ∈ earlier) t

-- some run reaches the term, which is its last
pub record Reachable (m : Meaning) (given : List Term) (t : Term) : Type 0 where
  pub earlier : List Term
  pub run : Run m given (earlier ++ (t ∷ []))

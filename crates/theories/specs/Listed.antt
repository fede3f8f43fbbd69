-- Takings by rows, as code holds them.
use Rattle.std.specs.Prelude.{ℕ, List, [], ◌∷◌}
use Rattle.theories.specs.declared.takings.Takings.{Takings}
use Rattle.theories.specs.declared.takings.Takings.TheVariants.{Zero, One, Two}

-- the list of them
abbrev pub listed : Takings → List (ℕ × ℕ)
listed Zero = []
listed (One first) = first ∷ []
listed (Two first second) = first ∷ second ∷ []

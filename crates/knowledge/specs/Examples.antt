-- Small cases and what is to be said of them, under replies over public keys over plain.
use Rattle.std.specs.Prelude.{ℕ, List, [], ◌∷◌}
use Rattle.knowledge.specs.Terms.{Term, atom}
use Rattle.knowledge.specs.Rounds.{everywhere, SmallestRound}
use Rattle.knowledge.specs.Runs.{Reachable}
use Rattle.knowledge.specs.Kinds.{hash, cipher, public_key, sealed, signature, reply, term₁, term₂, standard}

-- no run from the given terms reaches the goal
abbrev pub Denied : List Term → Term → Type 0
Denied given goal = ¬ (Reachable standard given goal)

-- a run reaches the goal, and this is its smallest round
abbrev pub Granted : List Term → Term → ℕ → Type 0
Granted given goal n = SmallestRound standard everywhere given goal n

-- a body, which stands nowhere else in its case
abbrev pub body : Term
body = atom 7

-- another atom, for a key, a secret or what is asked
abbrev pub secret : Term
secret = atom 8

-- what is denied, and what is granted in which round
pub record Examples : Type 0 where
  -- a cipher alone keeps its body; with its key it gives it, and the key may be built
  pub cipher_alone : Denied (term₂ cipher body secret ∷ []) body
  pub cipher_and_key : Granted (term₂ cipher body secret ∷ secret ∷ []) body 1
  pub cipher_and_hashed : Granted (term₂ cipher body (term₁ hash secret) ∷ secret ∷ []) body 2
  -- a public key does not open what is sealed under it, nor does an atom
  pub sealed_and_public_key : Denied (term₂ sealed body (term₁ public_key secret) ∷ term₁ public_key secret ∷ []) body
  pub sealed_under_atom : Denied (term₂ sealed body secret ∷ secret ∷ []) body
  -- a signature hides its body
  pub signature_alone : Denied (term₂ signature body secret ∷ []) body
  -- a reply answers only whoever can ask
  pub reply_alone : Denied (term₂ reply secret body ∷ []) body
  -- a sealed term, sent to a unit that answers it with the secret, opens in the second round
  pub sealed_alone : Denied (term₂ sealed body (term₁ public_key secret) ∷ []) body
  pub sealed_and_reply : Granted (term₂ sealed body (term₁ public_key secret) ∷ term₂ reply (term₂ sealed body (term₁ public_key secret)) secret ∷ []) body 2

-- The table of kinds, line by line, as replies over public keys over plain have it.
use Rattle.std.specs.Prelude.{◌≡◌, ℕ, Bool, true, false, ◌↔◌, List, [], ◌∷◌}
use Rattle.knowledge.specs.Terms.{Term, atom, one, two, ◌∈◌}
use Rattle.knowledge.specs.Meanings.{Taking}
use Rattle.knowledge.specs.Kinds.{freely, knowing, plain, public_keys, replies, standard}

-- a line: whether such a term can be built, and its takings
pub record Line (t : Term) (built : Bool) (taken : List Taking) : Type 0 where
  pub can : standard.builds t ≡ built
  pub takings_are : standard.takings t ≡ taken

-- the lines of the table by the number of the kind, and the owners of kinds
pub record Table : Type 0 where
  pub atom_line : (label : ℕ) → Line (atom label) false []
  pub pair_line : (left right : Term) → Line (two 1 left right) true (freely left ∷ freely right ∷ [])
  pub hash_line : (body : Term) → Line (one 2 body) true []
  pub cipher_line : (body key : Term) → Line (two 3 body key) true (knowing key body ∷ [])
  pub public_key_line : (secret : Term) → Line (one 4 secret) true []
  pub sealed_line : (body secret : Term) → Line (two 5 body (one 4 secret)) true (knowing secret body ∷ [])
  pub sealed_shut_line : (body key : Term) → ((secret : Term) → ¬ (key ≡ one 4 secret)) → Line (two 5 body key) true []
  pub signature_line : (body secret : Term) → Line (two 6 body secret) true []
  pub check_value_line : (body key : Term) → Line (two 7 body key) true []
  pub reply_line : (asked answered : Term) → Line (two 8 asked answered) false (knowing asked answered ∷ [])
  -- free kinds, and terms that have not the parts of their kind
  pub other_line₁ : (n : ℕ) (left : Term) → ¬ (n ∈ (2 ∷ 4 ∷ [])) → Line (one n left) false []
  pub other_line₂ : (n : ℕ) (left right : Term) → ¬ (n ∈ (1 ∷ 3 ∷ 5 ∷ 6 ∷ 7 ∷ 8 ∷ [])) → Line (two n left right) false []
  -- who owns which kinds
  pub plain_owns : (n : ℕ) → plain.owns n ≡ true ↔ n ∈ (1 ∷ 2 ∷ 3 ∷ 7 ∷ [])
  pub public_keys_own : (n : ℕ) → public_keys.owns n ≡ true ↔ n ∈ (4 ∷ 5 ∷ 6 ∷ [])
  pub replies_own : (n : ℕ) → replies.owns n ≡ true ↔ n ∈ (8 ∷ [])

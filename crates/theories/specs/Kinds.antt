-- The kinds that the three theories own, as code names them.
use Rattle.std.specs.Prelude.{◌≡◌, ℕ, ◌<◌, ◌⊎◌}
use Rattle.knowledge.specs.Kinds.{number, pair, hash, cipher, public_key, sealed, signature, check_value, reply}
use Rattle.theories.specs.declared.kind.Kind.{Kind}
use Rattle.theories.specs.declared.kind.Kind.TheVariants.{Pair, Hash, Cipher, PublicKey, Sealed, Signature, CheckValue, Reply, Other}

-- what a number is read as: the kind that has it, or another for 0 and beyond 8, which are no such kind's
abbrev pub Reads : ℕ → Kind → Type 0
Reads n Pair = n ≡ number pair
Reads n Hash = n ≡ number hash
Reads n Cipher = n ≡ number cipher
Reads n PublicKey = n ≡ number public_key
Reads n Sealed = n ≡ number sealed
Reads n Signature = n ≡ number signature
Reads n CheckValue = n ≡ number check_value
Reads n Reply = n ≡ number reply
Reads n Other = (n ≡ 0) ⊎ (8 < n)

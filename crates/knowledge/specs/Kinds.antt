-- The kinds of terms, and what the three theories mean by them.
use Rattle.std.specs.Prelude.{ℕ, Bool, false, cond, ◌||◌, List, [], ◌∷◌, Some, None, ◌==◌}
use Rattle.knowledge.specs.Terms.{Term, atom, one, two}
use Rattle.knowledge.specs.Meanings.{Taking, Meaning, pile}

-- the kinds that the three theories own; 0 is an atom's, and 9 to 15 are free
pub data Kind : Type 0 where
  pair hash cipher public_key sealed signature check_value reply : Kind

-- the number of each kind
abbrev pub number : Kind → ℕ
number pair = 1
number hash = 2
number cipher = 3
number public_key = 4
number sealed = 5
number signature = 6
number check_value = 7
number reply = 8

-- a term of a kind with one part
abbrev pub term₁ : Kind → Term → Term
term₁ k left = one (number k) left

-- a term of a kind with two parts
abbrev pub term₂ : Kind → Term → Term → Term
term₂ k left right = two (number k) left right

-- a number is the kind's
abbrev pub is : Kind → ℕ → Bool
is k n = n == number k

-- a number is the number of a listed kind
abbrev pub one_of : List Kind → ℕ → Bool
one_of [] n = false
one_of (k ∷ ks) n = is k n || one_of ks n

-- a term can be built if its kind is listed, among those with as many parts
abbrev pub buildable : List Kind → List Kind → Term → Bool
buildable ones twos (atom label) = false
buildable ones twos (one n left) = one_of ones n
buildable ones twos (two n left right) = one_of twos n

-- only terms with two parts have takings, by their kind's number, left and right
abbrev pub takes : (ℕ → Term → Term → List Taking) → Term → List Taking
takes from (atom label) = []
takes from (one n left) = []
takes from (two n left right) = from n left right

-- a taking without a side
abbrev pub freely : Term → Taking
freely result = record { side = None; result = result }

-- a taking for whoever knows the side
abbrev pub knowing : Term → Term → Taking
knowing side result = record { side = Some side; result = result }

-- the plain theory: a pair gives its parts, and a cipher its body to whoever knows the key
abbrev pub plain : Meaning
plain = record {
  owns = one_of (pair ∷ hash ∷ cipher ∷ check_value ∷ []);
  builds = buildable (hash ∷ []) (pair ∷ cipher ∷ check_value ∷ []);
  takings = takes (λ n left right. cond (is pair n) (freely left ∷ freely right ∷ []) (cond (is cipher n) (knowing right left ∷ []) []));
}

-- a body sealed under a public key goes to whoever knows that key's secret; under any other key, to nobody
abbrev pub opened : Term → Term → List Taking
opened body (atom label) = []
opened body (one n secret) = cond (is public_key n) (knowing secret body ∷ []) []
opened body (two n left right) = []

-- the public-key theory: a sealed body is given out as its key says
abbrev pub public_keys : Meaning
public_keys = record {
  owns = one_of (public_key ∷ sealed ∷ signature ∷ []);
  builds = buildable (public_key ∷ []) (sealed ∷ signature ∷ []);
  takings = takes (λ n body key. cond (is sealed n) (opened body key) []);
}

-- the reply theory: a reply is a unit that sends the answered term to whoever sends it the asked one; it cannot be built
abbrev pub replies : Meaning
replies = record {
  owns = one_of (reply ∷ []);
  builds = buildable [] [];
  takings = takes (λ n asked answered. cond (is reply n) (knowing asked answered ∷ []) []);
}

-- the three piled up: replies over public keys over plain
abbrev pub standard : Meaning
standard = pile replies (pile public_keys plain)

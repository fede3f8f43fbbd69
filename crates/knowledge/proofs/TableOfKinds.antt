-- The table of kinds, read off the definitions.
use Rattle.std.proofs.Common.{◌≡◌, ℕ, Bool, true, false, cond, ◌||◌, ◌↔◌, List, [], ◌∷◌, map, sym, refl, ap, subst, eq-eqb, ne_eqb, eqb-true}
use Rattle.std.proofs.lemmas.Bool.{false≢true}
use Rattle.knowledge.specs.Terms.{Term, atom, one, two, ◌∈◌, here, there}
use Rattle.knowledge.specs.Kinds.{Kind, pair, hash, cipher, public_key, sealed, signature, check_value, reply, number, term₁, is, one_of, opened, public_keys, replies}
use Rattle.knowledge.specs.Table.{Line, Table}
use Rattle.knowledge.proofs.Lists.{in_left}
use Rattle.knowledge.proofs.Laws.{off}

-- a number is a listed kind's exactly if it stands among the kinds' numbers
listed : (ks : List Kind) (n : ℕ) → one_of ks n ≡ true → n ∈ map number ks
listed [] n e = absurd (false≢true e)
listed (k ∷ ks) n e = pick (is k n) refl (listed ks n)
  where
    pick : (b : Bool) → is k n ≡ b → (one_of ks n ≡ true → n ∈ map number ks) → n ∈ (number k ∷ map number ks)
    pick true f rest = here (eqb-true n (number k) f)
    pick false f rest = there (rest (subst (λ b. (b || one_of ks n) ≡ true) f e))

listed_back : (ks : List Kind) (n : ℕ) → n ∈ map number ks → one_of ks n ≡ true
listed_back [] n i = elim i [ ]
listed_back (k ∷ ks) n (here e) = rw (eq-eqb n (number k) e)
listed_back (k ∷ ks) n (there i) = pick (is k n) (listed_back ks n i)
  where
    pick : (b : Bool) → one_of ks n ≡ true → (b || one_of ks n) ≡ true
    pick true e = refl
    pick false e = e

listed_iff : (ks : List Kind) (n : ℕ) → one_of ks n ≡ true ↔ n ∈ map number ks
listed_iff ks n = (listed ks n, listed_back ks n)

unlisted : (ks : List Kind) (n : ℕ) → ¬ (n ∈ map number ks) → one_of ks n ≡ false
unlisted [] n out = refl
unlisted (k ∷ ks) n out = rw (ne_eqb n (number k) (λ e. out (here e)), unlisted ks n (λ i. out (there i)))

-- under a key that is no public key nothing is given out
unopened : (body key : Term) → ((secret : Term) → ¬ (key ≡ term₁ public_key secret)) → opened body key ≡ []
unopened body (atom label) other = refl
unopened body (one n secret) other = off (is public_key n) _ [] (ne_eqb n 4 (λ e. other secret (ap (λ k. one k secret) e)))
unopened body (two n left right) other = refl

-- the pile takes one of three answers; where all are no, so is it
three_off : {A : Type 0} (a b : Bool) (x y z o : A) → x ≡ o → y ≡ o → z ≡ o → cond a x (cond b y z) ≡ o
three_off true b x y z o ex ey ez = ex
three_off false true x y z o ex ey ez = ey
three_off false false x y z o ex ey ez = ez

other₁ : (n : ℕ) (left : Term) → ¬ (n ∈ (2 ∷ 4 ∷ [])) → Line (one n left) false []
other₁ n left out = record {
  can = three_off (replies.owns n) (public_keys.owns n) _ _ _ false refl (unlisted (public_key ∷ []) n (λ i. out (there i)))
      (unlisted (hash ∷ []) n (λ i. out (in_left (2 ∷ []) (4 ∷ []) i)));
  takings_are = three_off (replies.owns n) (public_keys.owns n) _ _ _ [] refl refl refl;
}

module _ (n : ℕ) (left right : Term) (out : ¬ (n ∈ (1 ∷ 3 ∷ 5 ∷ 6 ∷ 7 ∷ 8 ∷ []))) where
  apart : (k : Kind) → number k ∈ (1 ∷ 3 ∷ 5 ∷ 6 ∷ 7 ∷ 8 ∷ []) → is k n ≡ false
  apart k i = ne_eqb n (number k) (λ e. out (subst (λ x. x ∈ (1 ∷ 3 ∷ 5 ∷ 6 ∷ 7 ∷ 8 ∷ [])) (sym e) i))

  other₂ : Line (two n left right) false []
  other₂ =
      let no_pair : is pair n ≡ false = apart pair (here refl) in
      let no_cipher : is cipher n ≡ false = apart cipher (there (here refl)) in
      let no_sealed : is sealed n ≡ false = apart sealed (there (there (here refl))) in
      let no_signature : is signature n ≡ false = apart signature (there (there (there (here refl)))) in
      let no_check : is check_value n ≡ false = apart check_value (there (there (there (there (here refl))))) in
      let no_reply : is reply n ≡ false = apart reply (there (there (there (there (there (here refl)))))) in
      record {
        can = three_off (replies.owns n) (public_keys.owns n) _ _ _ false refl (simp (no_sealed, no_signature)) (simp (no_pair, no_cipher, no_check));
        takings_are = three_off (replies.owns n) (public_keys.owns n) _ _ _ [] (simp no_reply) (simp no_sealed) (simp (no_pair, no_cipher));
      }

pub table : Table
table = record {
  atom_line = λ label. record { can = refl; takings_are = refl };
  pair_line = λ left right. record { can = refl; takings_are = refl };
  hash_line = λ body. record { can = refl; takings_are = refl };
  cipher_line = λ body key. record { can = refl; takings_are = refl };
  public_key_line = λ secret. record { can = refl; takings_are = refl };
  sealed_line = λ body secret. record { can = refl; takings_are = refl };
  sealed_shut_line = λ body key other. record { can = refl; takings_are = unopened body key other };
  signature_line = λ body secret. record { can = refl; takings_are = refl };
  check_value_line = λ body key. record { can = refl; takings_are = refl };
  reply_line = λ asked answered. record { can = refl; takings_are = refl };
  other_line₁ = other₁;
  other_line₂ = other₂;
  plain_owns = listed_iff (pair ∷ hash ∷ cipher ∷ check_value ∷ []);
  public_keys_own = listed_iff (public_key ∷ sealed ∷ signature ∷ []);
  replies_own = listed_iff (reply ∷ []);
}

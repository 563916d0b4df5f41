-- The search for an HCI_Reset, octet by octet.
use Rattle.std.proofs.Common.{◌≡◌, ℕ, suc, ◌+◌, Bool, true, false, cond, eqb, List, [], ◌∷◌, ◌++◌, length, Option, Some, None, refl, ap, arith}
use Rattle.std.proofs.lemmas.Bool.{eqb-true}
use Rattle.std.proofs.lemmas.Bool.Decides.{nat_tests}
use Rattle.h4_frames.specs.Packets.{SizedPacket}
use Rattle.h4_frames.specs.Frames.{reset, one_later, first_reset}
use Rattle.h4_frames.specs.Machine.{seen_with, seen_from}

-- the first HCI_Reset in these octets, if `seen` of its octets came just before them
abbrev pub reset_after : ℕ → List ℕ → Option SizedPacket
reset_after seen [] = None
reset_after seen (x ∷ xs) = cond (eqb (seen_with seen x) 4) (Some (record { size = 1; packet = reset })) (one_later (reset_after (seen_with seen x) xs))

-- going on with the octet that is wanted, or with 01, or with another
data Octet : ℕ → ℕ → Type 0 where
  wanted : {w x : ℕ} → x ≡ w → Octet w x
  opens : {w x : ℕ} → x ≡ 1 → Octet w x
  other : {w x : ℕ} → eqb x w ≡ false → eqb w x ≡ false → eqb x 1 ≡ false → eqb 1 x ≡ false → Octet w x

octet_by : (w x : ℕ) (a b : Bool) → eqb x w ≡ a → eqb x 1 ≡ b → Octet w x
octet_by w x true b p q = wanted (eqb-true x w p)
octet_by w x false true p q = opens (eqb-true x 1 q)
octet_by w x false false p q = other p (flipped x w p) q (flipped x 1 q)
  where
    flipped : (m n : ℕ) → eqb m n ≡ false → eqb n m ≡ false
    flipped m n e = grind (arith, nat_tests)

octet_is : (w x : ℕ) → Octet w x
octet_is w x = octet_by w x (eqb x w) (eqb x 1) refl refl

-- the first HCI_Reset after none to three of its octets
record IsSearched (xs : List ℕ) : Type 0 where
  none : first_reset xs ≡ reset_after 0 xs
  one : first_reset (1 ∷ xs) ≡ one_later (reset_after 1 xs)
  two : first_reset (1 ∷ 3 ∷ xs) ≡ one_later (one_later (reset_after 2 xs))
  three : first_reset (1 ∷ 3 ∷ 12 ∷ xs) ≡ one_later (one_later (one_later (reset_after 3 xs)))

module _ (x : ℕ) (xs : List ℕ) (rest : IsSearched xs) where
  none_more : Octet 1 x → first_reset (x ∷ xs) ≡ reset_after 0 (x ∷ xs)
  none_more (wanted e) = rw e rest.one
  none_more (opens e) = rw e rest.one
  none_more (other a b c d) = rw (c, d) (ap one_later rest.none)

  one_more : Octet 3 x → first_reset (1 ∷ x ∷ xs) ≡ one_later (reset_after 1 (x ∷ xs))
  one_more (wanted e) = rw e rest.two
  one_more (opens e) = rw e (ap one_later rest.one)
  one_more (other a b c d) = rw (a, b, c, d) (ap (λ o. one_later (one_later o)) rest.none)

  two_more : Octet 12 x → first_reset (1 ∷ 3 ∷ x ∷ xs) ≡ one_later (one_later (reset_after 2 (x ∷ xs)))
  two_more (wanted e) = rw e rest.three
  two_more (opens e) = rw e (ap (λ o. one_later (one_later o)) rest.one)
  two_more (other a b c d) = rw (a, b, c, d) (ap (λ o. one_later (one_later (one_later o))) rest.none)

  three_more : Octet 0 x → first_reset (1 ∷ 3 ∷ 12 ∷ x ∷ xs) ≡ one_later (one_later (one_later (reset_after 3 (x ∷ xs))))
  three_more (wanted e) = rw e refl
  three_more (opens e) = rw e (ap (λ o. one_later (one_later (one_later o))) rest.one)
  three_more (other a b c d) = rw (a, b, c, d) (ap (λ o. one_later (one_later (one_later (one_later o)))) rest.none)

searched : (xs : List ℕ) → IsSearched xs
searched [] = record { none = refl; one = refl; two = refl; three = refl }
searched (x ∷ xs) =
    record {
      none = none_more x xs (searched xs) (octet_is 1 x);
      one = one_more x xs (searched xs) (octet_is 3 x);
      two = two_more x xs (searched xs) (octet_is 12 x);
      three = three_more x xs (searched xs) (octet_is 0 x);
    }

pub first_reset-after : (xs : List ℕ) → first_reset xs ≡ reset_after 0 xs
first_reset-after xs = (searched xs).none

pub seen_from-push : (seen : ℕ) (xs : List ℕ) (x : ℕ) → seen_from seen (xs ++ x ∷ []) ≡ seen_with (seen_from seen xs) x
seen_from-push seen [] x = refl
seen_from-push seen (y ∷ ys) x = seen_from-push (seen_with seen y) ys x

later_either : (b : Bool) (n m : ℕ) → m ≡ n + 1
    → one_later (cond b (Some (record { size = n; packet = reset })) None) ≡ cond b (Some (record { size = m; packet = reset })) None
later_either true n m e = rw e refl
later_either false n m e = refl

pub not_found : (b : Bool) (found : SizedPacket) (o : Option SizedPacket) → cond b (Some found) (one_later o) ≡ None → (b ≡ false) × (o ≡ None)
not_found true found o e = absurd (cc)
not_found false found (Some later) e = absurd (cc)
not_found false found None e = (refl, refl)

pub reset_after-push : (seen : ℕ) (xs : List ℕ) (x : ℕ) → reset_after seen xs ≡ None
    → reset_after seen (xs ++ x ∷ []) ≡ cond (eqb (seen_with (seen_from seen xs) x) 4) (Some (record { size = length xs + 1; packet = reset })) None
reset_after-push seen [] x e = refl
reset_after-push seen (y ∷ ys) x e =
    let none = not_found (eqb (seen_with seen y) 4) _ (reset_after (seen_with seen y) ys) e in
    rw (none.0, reset_after-push (seen_with seen y) ys x none.1)
    (later_either (eqb (seen_with (seen_from (seen_with seen y) ys) x) 4) (length ys + 1) (suc (length ys) + 1) (omega arith))

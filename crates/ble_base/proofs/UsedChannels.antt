-- The ascending list of the channels that a map uses: its length, its members, and the walk along it.
use Rattle.std.proofs.Common.{◌≡◌, ◌≢◌, ℕ, zero, suc, ◌+◌, ◌-◌, ◌/◌, ◌^◌, ◌<◌, ◌≤◌, Bool, true, false, cond, eqb, List, [], ◌∷◌, length, get_or, refl, sym, ap, ◌∙◌, subst, arith, add-one, ◌⊎◌, inl, inr}
use Rattle.std.proofs.Math.Nat.{div-div-eq-div-mul, pow-suc}
use Rattle.std.proofs.lemmas.Nat.{ones_le_self}
use Rattle.std.proofs.lemmas.Nat.Bits.{bit_at-lt, bit_at_above}
use Rattle.std.proofs.lemmas.Bool.{cases_lt, eqb-true, eq-eqb, ne_eqb}
use Rattle.std.proofs.lemmas.Bool.Decides.{eqb_tells}
use Rattle.std.specs.Int.{bit_at}
use Rattle.std.specs.Int.Count.{ones as count_ones, ones_step, ones-le, ones-ones}
use Rattle.std.specs.List.{filter, range_with_len, Contains}
use Rattle.ble_base.specs.ChannelMap.{is_used, data_channels, used_channels, IsMap}

-- the used ones of k channels from a up
unfoldable pub used_from : ℕ → ℕ → ℕ → List ℕ
used_from n a k = filter (is_used n) (range_with_len a k)

pub used_from-all : (n : ℕ) → used_channels n ≡ used_from n 0 37
unfolding used_channels data_channels used_from
used_from-all n = refl

-- ---- one channel more

used_from-zero : (n a : ℕ) → used_from n a zero ≡ []
unfolding used_from
used_from-zero n a = refl

used_from-suc : (n a k : ℕ) → used_from n a (suc k) ≡ cond (is_used n a) (a ∷ used_from n (a + 1) k) (used_from n (a + 1) k)
unfolding used_from
used_from-suc n a k = refl

-- the walk over a channel that is used
used_from-used : (n a k : ℕ) → bit_at n a ≡ 1 → used_from n a (suc k) ≡ a ∷ used_from n (a + 1) k
used_from-used n a k h = let e : is_used n a ≡ true = eq-eqb _ _ h in used_from-suc n a k ∙ rw e refl

-- the walk over a channel that is not
used_from-unused : (n a k : ℕ) → bit_at n a ≢ 1 → used_from n a (suc k) ≡ used_from n (a + 1) k
used_from-unused n a k h = let e : is_used n a ≡ false = ne_eqb _ _ h in used_from-suc n a k ∙ rw e refl

-- ---- the length

-- one digit more, which is 0 or 1
digit_counted : (b c : ℕ) (xs : List ℕ) → b < 2 → b + length xs ≡ length (cond (eqb b 1) (c ∷ xs) xs)
digit_counted zero c xs h = omega arith
digit_counted (suc zero) c xs h = omega arith
digit_counted (suc (suc b)) c xs h = absurd (omega arith)

-- the bits of a number from a up, counted
ones_from : (k a n : ℕ) → n / 2 ^ a < 2 ^ k → count_ones (n / 2 ^ a) ≡ length (used_from n a k)
ones_from zero a n h = rw (used_from-zero n a) (omega (arith, ones_le_self (n / 2 ^ a)))
ones_from (suc k) a n h =
    let next : n / 2 ^ a / 2 ≡ n / 2 ^ (a + 1) = div-div-eq-div-mul n (2 ^ a) 2 ∙ ap (λ m. n / m) (sym (rw add-one (pow-suc 2 a))) in
    let fewer : n / 2 ^ (a + 1) < 2 ^ k = rw (← next) (omega (arith, pow-suc 2 k)) in
    let rest = ones_from k (a + 1) n fewer in
    rw (used_from-suc n a k)
    (ones_step (n / 2 ^ a) ∙ ap (λ m. bit_at n a + count_ones m) next ∙ ap (λ m. bit_at n a + m) rest
    ∙ digit_counted (bit_at n a) a (used_from n (a + 1) k) (bit_at-lt n a))

-- a number of 37 bits has one used channel for each bit that is 1
pub length-used_channels : (n : ℕ) → n < 2 ^ 37 → length (used_channels n) ≡ count_ones n
length-used_channels n h =
    let all : n / 2 ^ 0 ≡ n = omega arith in
    rw (used_from-all n) (sym (ones_from 37 0 n (omega arith)) ∙ ap count_ones all)

-- it has at most 37
pub length-used_channels_le : (n : ℕ) → n < 2 ^ 37 → length (used_channels n) ≤ 37
length-used_channels_le n h = rw (length-used_channels n h) (ones-le 37 n h)

-- a number of 37 bits with two bits that are 1 is a map
pub IsMap-from_ones : (n : ℕ) → n < 2 ^ 37 → 2 ≤ count_ones n → IsMap n
IsMap-from_ones n h two = record { data_channels_only = h; two_or_more = rw (length-used_channels n h) two }

-- the number with all 37 bits is a map
pub IsMap-all : IsMap (2 ^ 37 - 1)
IsMap-all = IsMap-from_ones (2 ^ 37 - 1) (omega arith) (omega (arith, ones-ones 37))

-- ---- the members

contains_here : (x : ℕ) (xs : List ℕ) → Contains (x ∷ xs) x
contains_here x xs = (0, omega arith, refl)

contains_there : (y x : ℕ) (xs : List ℕ) → Contains xs x → Contains (y ∷ xs) x
contains_there y x xs (k, inside, same) = (suc k, omega arith, same)

contains_cases : (y x : ℕ) (xs : List ℕ) → Contains (y ∷ xs) x → (y ≡ x) ⊎ Contains xs x
contains_cases y x xs (zero, inside, same) = inl same
contains_cases y x xs (suc k, inside, same) = inr (k, omega arith, same)

added : (b : Bool) (y x : ℕ) (xs : List ℕ) → Contains xs x → Contains (cond b (y ∷ xs) xs) x
added true y x xs h = contains_there y x xs h
added false y x xs h = h

added_cases : (b : Bool) (y x : ℕ) (xs : List ℕ) → Contains (cond b (y ∷ xs) xs) x → ((b ≡ true) × (y ≡ x)) ⊎ Contains xs x
added_cases true y x xs h = elim (contains_cases y x xs h) [ inl same ↦ inl (refl, same) | inr in_rest ↦ inr in_rest ]
added_cases false y x xs h = inr h

listed_from : (k n a c : ℕ) → bit_at n c ≡ 1 → a ≤ c → c < a + k → Contains (used_from n a k) c
listed_from zero n a c h low high = absurd (omega arith)
listed_from (suc k) n a c h low high =
    rw (used_from-suc n a k)
    (elim (eqb_tells a c) [
      | inl same ↦
          let e : is_used n a ≡ true = eq-eqb _ _ (subst (λ m. bit_at n m ≡ 1) (sym same.1) h) in
          rw e (subst (λ m. Contains (a ∷ used_from n (a + 1) k) m) same.1 (contains_here a (used_from n (a + 1) k)))
      | inr other ↦
          let ne : a ≢ c = other.1 in
          added (is_used n a) a c (used_from n (a + 1) k) (listed_from k n (a + 1) c h (omega arith) (omega arith))
    ])

used_from-listed : (k n a c : ℕ) → Contains (used_from n a k) c → (c < a + k) × (bit_at n c ≡ 1)
used_from-listed zero n a c h =
    let inside = (rw (used_from-zero n a) at h).1 in absurd (omega arith)
used_from-listed (suc k) n a c h =
    elim (added_cases (is_used n a) a c (used_from n (a + 1) k) (rw (used_from-suc n a k) at h)) [
      | inl here ↦ (omega arith, subst (λ m. bit_at n m ≡ 1) here.1 (eqb-true _ _ here.0))
      | inr in_rest ↦ let rest = used_from-listed k n (a + 1) c in_rest in (omega arith, rest.1)
    ]

-- a data channel that is used is in the list
pub listed_if_used : (n c : ℕ) → c < 37 → bit_at n c ≡ 1 → Contains (used_channels n) c
listed_if_used n c h used = rw (used_from-all n) (listed_from 37 n 0 c used (omega arith) (omega arith))

-- each channel in the list is a data channel that is used
pub used_if_listed : (n c : ℕ) → Contains (used_channels n) c → (c < 37) × (bit_at n c ≡ 1)
used_if_listed n c h = used_from-listed 37 n 0 c (rw (used_from-all n) at h)

-- a used channel is a data channel
pub used-lt : (n c : ℕ) → n < 2 ^ 37 → bit_at n c ≡ 1 → c < 37
used-lt n c h used = elim (cases_lt c 37) [ inl below ↦ below | inr above ↦ absurd (omega (arith, bit_at_above n 37 c h above, used)) ]

-- ---- the walk from channel a on, in search of the used channel i

walk_used : (n a : ℕ) → a < 37 → bit_at n a ≡ 1 → used_from n a (37 - a) ≡ a ∷ used_from n (a + 1) (37 - (a + 1))
walk_used n a h used = let e : 37 - a ≡ suc (37 - (a + 1)) = omega arith in rw e (used_from-used n a (37 - (a + 1)) used)

walk_unused : (n a : ℕ) → a < 37 → bit_at n a ≢ 1 → used_from n a (37 - a) ≡ used_from n (a + 1) (37 - (a + 1))
walk_unused n a h unused = let e : 37 - a ≡ suc (37 - (a + 1)) = omega arith in rw e (used_from-unused n a (37 - (a + 1)) unused)

-- it is the one with index j among those from a up
pub record IsAhead (n i a j : ℕ) : Type 0 where
  pub channel : get_or (used_channels n) i 0 ≡ get_or (used_from n a (37 - a)) j 0
  pub inside : j < length (used_from n a (37 - a))

pub ahead_at_first : (n i : ℕ) → i < length (used_channels n) → IsAhead n i 0 i
ahead_at_first n i h = record { channel = rw (used_from-all n) refl; inside = rw (← used_from-all n) h }

pub ahead_found : (n i a j : ℕ) → IsAhead n i a j → a < 37 → bit_at n a ≡ 1 → j ≡ 0 → a ≡ get_or (used_channels n) i 0
ahead_found n i a j h low used first = sym (h.channel ∙ rw (first, walk_used n a low used) refl)

pub ahead_past_used : (n i a j : ℕ) → IsAhead n i a j → a < 37 → bit_at n a ≡ 1 → j ≢ 0 → IsAhead n i (a + 1) (j - 1)
ahead_past_used n i a zero h low used later = absurd (later refl)
ahead_past_used n i a (suc j) h low used later =
    let e = walk_used n a low used in
    let less : suc j - 1 ≡ j = omega arith in
    rw less
    (record {
      channel = h.channel ∙ rw e refl;
      inside = let within : suc j < length (a ∷ used_from n (a + 1) (37 - (a + 1))) = subst (λ xs. suc j < length xs) e h.inside in omega arith;
    })

pub ahead_past_unused : (n i a j : ℕ) → IsAhead n i a j → a < 37 → bit_at n a ≢ 1 → IsAhead n i (a + 1) j
ahead_past_unused n i a j h low unused =
    let e = walk_unused n a low unused in
    record { channel = rw (← e) h.channel; inside = rw (← e) h.inside }

pub ahead_nowhere : (n i a j : ℕ) → IsAhead n i a j → 37 ≤ a → ⊥
ahead_nowhere n i a j h high =
    let e : 37 - a ≡ 0 = omega arith in
    let none : j < length (used_from n a 0) = rw (← e) h.inside in
    let no_more : j < 0 = subst (λ xs. j < length xs) (used_from-zero n a) none in
    absurd (omega arith)

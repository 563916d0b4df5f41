-- A pattern after the access address that has its ones within 24 bits is a short damage, whatever the packet.
use Rattle.std.proofs.Common.{◌≡◌, ℕ, zero, suc, ◌+◌, ◌-◌, List, [], ◌∷◌, ◌++◌, length, take, drop, bit_xor, refl, ap, sym, subst, ◌∙◌, arith}
use Rattle.std.specs.Prelude.{replicate}
use lib.Bits.{xor_zero_r}
use Rattle.frame_bits.specs.AirBits.{air_bits, DiffersWithin}
use Rattle.frame_bits.proofs.BitSums.{octet_bits-xor}
use Rattle.radio_replay.specs.Damage.{damaged_packet, xor_of}
use Rattle.radio_replay.specs.declared.fates.Fate.{Fate}
use Rattle.radio_replay.specs.declared.fates.Fate.TheVariants.{Pass, Lost, Damage}
use Rattle.short_damage.specs.Short.{ChangesWithin, HasOnesWithin, IsShort, IsShortPattern}

-- ---- a pattern on lists

xor_nothing : (pattern : List ℕ) → xor_of pattern [] ≡ []
xor_nothing [] = refl
xor_nothing (change ∷ pattern) = refl

take-xor_of : (n : ℕ) (pattern octets : List ℕ)
    → take n (xor_of pattern octets) ≡ xor_of (take n pattern) (take n octets)
take-xor_of zero pattern octets = refl
take-xor_of (suc n) [] octets = refl
take-xor_of (suc n) (change ∷ pattern) [] = refl
take-xor_of (suc n) (change ∷ pattern) (octet ∷ octets) = ap (λ (rest : List ℕ). bit_xor octet change ∷ rest)
    (take-xor_of n pattern octets)

drop-xor_of : (n : ℕ) (pattern octets : List ℕ)
    → drop n (xor_of pattern octets) ≡ xor_of (drop n pattern) (drop n octets)
drop-xor_of zero pattern octets = refl
drop-xor_of (suc n) [] octets = refl
drop-xor_of (suc n) (change ∷ pattern) [] = sym (xor_nothing (drop n pattern))
drop-xor_of (suc n) (change ∷ pattern) (octet ∷ octets) = drop-xor_of n pattern octets

-- the bits of a change are the change of the bits
air_bits-xor_of : (pattern octets : List ℕ)
    → air_bits (xor_of pattern octets) ≡ xor_of (air_bits pattern) (air_bits octets)
air_bits-xor_of [] octets = refl
air_bits-xor_of (change ∷ pattern) [] = refl
air_bits-xor_of (change ∷ pattern) (octet ∷ octets) =
    λ i. octet_bits-xor octet change i ++ air_bits-xor_of pattern octets i

xor_zeros : (count : ℕ) (octets : List ℕ) → xor_of (replicate count 0) octets ≡ octets
xor_zeros zero octets = refl
xor_zeros (suc count) [] = refl
xor_zeros (suc count) (octet ∷ octets) = λ i. xor_zero_r octet i ∷ xor_zeros count octets i

-- ---- it changes bits only where it has ones

module _ (pattern : List ℕ) (ones : HasOnesWithin 24 pattern) where
  abbrev zeros : List ℕ
  zeros = replicate (length pattern) 0

  without : (octets : List ℕ) → xor_of (air_bits zeros) (air_bits octets) ≡ air_bits octets
  without octets = sym (air_bits-xor_of zeros octets) ∙ ap air_bits (xor_zeros (length pattern) octets)

  changed_first : (octets : List ℕ) → DiffersWithin 24 ones.start (air_bits octets) (air_bits (xor_of pattern octets))
  changed_first octets = record {
    front = ap (take ones.start) (air_bits-xor_of pattern octets)
        ∙ take-xor_of ones.start (air_bits pattern) (air_bits octets)
        ∙ ap (λ (bits : List ℕ). xor_of bits (take ones.start (air_bits octets))) ones.bits.front
        ∙ sym (take-xor_of ones.start (air_bits zeros) (air_bits octets)) ∙ ap (take ones.start) (without octets);
    back = ap (drop (ones.start + 24)) (air_bits-xor_of pattern octets)
        ∙ drop-xor_of (ones.start + 24) (air_bits pattern) (air_bits octets)
        ∙ ap (λ (bits : List ℕ). xor_of bits (drop (ones.start + 24) (air_bits octets))) ones.bits.back
        ∙ sym (drop-xor_of (ones.start + 24) (air_bits zeros) (air_bits octets))
        ∙ ap (drop (ones.start + 24)) (without octets);
  }

  -- behind an octet more
  abbrev eight_more : ℕ → ℕ
  eight_more n = suc (suc (suc (suc (suc (suc (suc (suc n)))))))

  behind : (start octet : ℕ) (octets changed : List ℕ) → DiffersWithin 24 start (air_bits octets) (air_bits changed)
      → DiffersWithin 24 (eight_more start) (air_bits (octet ∷ octets)) (air_bits (octet ∷ changed))
  behind start octet octets changed differs =
      let more : eight_more start + 24 ≡ eight_more (start + 24) = omega arith in record {
        front = ap (λ (rest : List ℕ). air_bits (octet ∷ []) ++ rest) differs.front;
        back = ap (λ (n : ℕ). drop n (air_bits (octet ∷ changed))) more ∙ differs.back
            ∙ sym (ap (λ (n : ℕ). drop n (air_bits (octet ∷ octets))) more);
      }

  abbrev changed_from : ℕ → List ℕ → List ℕ
  changed_from place octets = take place octets ++ xor_of pattern (drop place octets)

  -- where the first of the 24 bits is, with these octets before the pattern
  abbrev start_behind : ℕ → ℕ
  start_behind zero = ones.start
  start_behind (suc place) = eight_more (start_behind place)

  nothing_changed : (place : ℕ) → changed_from place [] ≡ []
  nothing_changed zero = xor_nothing pattern
  nothing_changed (suc place) = xor_nothing pattern

  differs_from : (place : ℕ) (octets : List ℕ)
      → DiffersWithin 24 (start_behind place) (air_bits octets) (air_bits (changed_from place octets))
  differs_from zero octets = changed_first octets
  differs_from (suc place) [] = record {
    front = ap (λ (changed : List ℕ). take (start_behind (suc place)) (air_bits changed)) (xor_nothing pattern);
    back = ap (λ (changed : List ℕ). drop (start_behind (suc place) + 24) (air_bits changed)) (xor_nothing pattern);
  }
  differs_from (suc place) (octet ∷ octets) =
      behind (start_behind place) octet octets (changed_from place octets) (differs_from place octets)

  -- ---- in a packet

  abbrev further : ℕ → ℕ → ℕ
  further zero more = more
  further (suc n) more = suc (further n more)

  same_before : (n more : ℕ) (octets : List ℕ) → take n (changed_from (further n more) octets) ≡ take n octets
  same_before zero more octets = refl
  same_before (suc n) more [] = ap (take (suc n)) (xor_nothing pattern)
  same_before (suc n) more (octet ∷ octets) = ap (λ (rest : List ℕ). octet ∷ rest) (same_before n more octets)

  drop_before : (n more : ℕ) (octets : List ℕ)
      → drop n (changed_from (further n more) octets) ≡ changed_from more (drop n octets)
  drop_before zero more octets = refl
  drop_before (suc n) more [] = ap (drop (suc n)) (xor_nothing pattern) ∙ sym (nothing_changed more)
  drop_before (suc n) more (octet ∷ octets) = drop_before n more octets

  changes_after : (fate : Fate) (more : ℕ) (packet : List ℕ)
      → damaged_packet fate packet ≡ changed_from (further 4 more) packet → ChangesWithin 24 fate packet
  changes_after fate more packet is = record {
    access = ap (take 4) is ∙ same_before 4 more packet;
    start = start_behind more;
    bits = subst (λ (changed : List ℕ). DiffersWithin 24 (start_behind more) (air_bits (drop 4 packet))
        (air_bits changed))
        (sym (ap (drop 4) is ∙ drop_before 4 more packet)) (differs_from more (drop 4 packet));
  }

pub unchanged_short : (fate : Fate) → ((packet : List ℕ) → damaged_packet fate packet ≡ packet) → (packet : List ℕ)
    → ChangesWithin 24 fate packet
unchanged_short fate same packet = record {
  access = ap (take 4) (same packet);
  start = 0;
  bits = record {
    front = refl;
    back = ap (λ (octets : List ℕ). drop 24 (air_bits (drop 4 octets))) (same packet);
  };
}

pub short_pattern : (fate : Fate) → IsShortPattern fate → IsShort fate
short_pattern Pass is = record { octets = tt; changes = unchanged_short Pass (λ packet. refl) }
short_pattern Lost is = record { octets = tt; changes = unchanged_short Lost (λ packet. refl) }
short_pattern (Damage at pattern) is = record {
  octets = is.1;
  changes = λ packet.
      let from = is.0 in
      let place : at ≡ suc (suc (suc (suc (at - 4)))) = omega (arith, from) in
      changes_after pattern.items is.2 (Damage at pattern) (at - 4) packet
      (ap (λ (n : ℕ). take n packet ++ xor_of pattern.items (drop n packet)) place);
}

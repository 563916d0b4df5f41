-- A damage that leaves the bits of a packet leaves the packet.
use Rattle.std.proofs.Common.{◌≡◌, ℕ, zero, suc, ◌^◌, ◌<◌, List, [], ◌∷◌, ◌++◌, length, take, drop, bit_xor, refl, ap, sym, ◌∙◌}
use Rattle.std.specs.List.{All}
use lib.Bits.{xor_assoc, xor_self, xor_zero_l, xor_zero_r}
use Rattle.std.proofs.lemmas.List.{take-append-drop}
use Rattle.std.proofs.lemmas.List.Concat.{flat_map-append}
use Rattle.std.proofs.lemmas.List.Elements.{All-head, All-tail}
use Rattle.frame_bits.specs.AirBits.{air_bits, lowest_first, octet_bits, sums}
use Rattle.frame_bits.proofs.BitSums.{octet_bits-xor}
use Rattle.frame_bits.proofs.OctetValues.{lowest_first-octet_bits}
use Rattle.radio_replay.specs.Damage.{damaged_packet, xor_of}
use Rattle.radio_replay.specs.declared.fates.Fate.{Fate}
use Rattle.radio_replay.specs.declared.fates.Fate.TheVariants.{Pass, Lost, Damage}
use Rattle.short_damage.specs.Short.{HasOctets}

same_octet : (octet change : ℕ) → change < 2 ^ 8 → octet_bits (bit_xor octet change) ≡ octet_bits octet
    → bit_xor octet change ≡ octet
same_octet octet change small same =
    let twice : bit_xor octet (bit_xor octet change) ≡ change =
    sym (xor_assoc octet octet change) ∙ ap (λ n. bit_xor n change) (xor_self octet) ∙ xor_zero_l change in
    let bits : octet_bits change ≡ octet_bits 0 =
    ap octet_bits (sym twice) ∙ octet_bits-xor octet (bit_xor octet change) ∙ ap (sums (octet_bits octet)) same
    ∙ sym (octet_bits-xor octet octet) ∙ ap octet_bits (xor_self octet) in
    let none : change ≡ 0 = sym (lowest_first-octet_bits change small) ∙ ap lowest_first bits in
    ap (bit_xor octet) none ∙ xor_zero_r octet

same_pattern : (pattern octets : List ℕ) → All (λ octet. octet < 2 ^ 8) pattern
    → air_bits (xor_of pattern octets) ≡ air_bits octets
    → xor_of pattern octets ≡ octets
same_pattern [] octets all same = refl
same_pattern (change ∷ pattern) [] all same = refl
same_pattern (change ∷ pattern) (octet ∷ octets) all same =
    let first = same_octet octet change (All-head (λ (k : ℕ). k < 2 ^ 8) change pattern all) (ap (take 8) same) in
    let rest = same_pattern pattern octets (All-tail (λ (k : ℕ). k < 2 ^ 8) change pattern all) (ap (drop 8) same) in
    λ i. first i ∷ rest i

same_from : (at : ℕ) (pattern octets : List ℕ) → All (λ octet. octet < 2 ^ 8) pattern
    → air_bits (take at octets ++ xor_of pattern (drop at octets)) ≡ air_bits octets
    → take at octets ++ xor_of pattern (drop at octets) ≡ octets
same_from zero pattern octets all same = same_pattern pattern octets all same
same_from (suc at) pattern [] all same = same_pattern pattern [] all same
same_from (suc at) pattern (octet ∷ octets) all same =
    ap (λ (rest : List ℕ). octet ∷ rest) (same_from at pattern octets all (ap (drop 8) same))

pub same_packet : (fate : Fate) (packet : List ℕ) → HasOctets fate
    → air_bits (damaged_packet fate packet) ≡ air_bits packet
    → damaged_packet fate packet ≡ packet
same_packet Pass packet all same = refl
same_packet Lost packet all same = refl
same_packet (Damage at pattern) packet all same = same_from at pattern.items packet all same

-- the bits are those of the access address and of what comes after it
pub same_bits : (packet other : List ℕ) → take 4 packet ≡ take 4 other
    → air_bits (drop 4 packet) ≡ air_bits (drop 4 other)
    → air_bits packet ≡ air_bits other
same_bits packet other front back =
    ap air_bits (sym (take-append-drop 4 packet)) ∙ flat_map-append octet_bits (take 4 packet) (drop 4 packet)
    ∙ (λ i. air_bits (front i) ++ back i)
    ∙ sym (flat_map-append octet_bits (take 4 other) (drop 4 other)) ∙ ap air_bits (take-append-drop 4 other)

-- ---- its length

length-xor_of : (pattern octets : List ℕ) → length (xor_of pattern octets) ≡ length octets
length-xor_of [] octets = refl
length-xor_of (change ∷ pattern) [] = refl
length-xor_of (change ∷ pattern) (octet ∷ octets) = ap suc (length-xor_of pattern octets)

length_from : (at : ℕ) (pattern octets : List ℕ)
    → length (take at octets ++ xor_of pattern (drop at octets)) ≡ length octets
length_from zero pattern octets = length-xor_of pattern octets
length_from (suc at) pattern [] = length-xor_of pattern []
length_from (suc at) pattern (octet ∷ octets) = ap suc (length_from at pattern octets)

pub length-damaged : (fate : Fate) (packet : List ℕ) → length (damaged_packet fate packet) ≡ length packet
length-damaged Pass packet = refl
length-damaged Lost packet = refl
length-damaged (Damage at pattern) packet = length_from at pattern.items packet

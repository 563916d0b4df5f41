-- A packet that a short damage changed is not heard whole.
use Rattle.std.proofs.Common.{◌≡◌, ℕ, ◌+◌, ◌^◌, ◌<◌, Bool, true, false, List, length, take, drop, refl, ap, sym, subst, ◌∙◌, arith}
use Rattle.std.specs.List.{All}
use Rattle.std.specs.Prelude.{if◌then◌else◌}
use Rattle.std.specs.Str.{bytes_eq}
use Rattle.std.proofs.lemmas.Bool.{and_parts}
use Rattle.std.proofs.lemmas.Slice.Eq.{bytes_eq-Decides}
use Rattle.air_frame.specs.declared.Heard.{Heard}
use Rattle.air_frame.specs.declared.Heard.TheVariants.{NotOurs, Broken, Whole}
use Rattle.air_frame.specs.Hearing.{heard_in}
use Rattle.air_frame.specs.Packet.{access_octets, is_packet, is_pdu, on_air, pdu_in}
use Rattle.air_frame.proofs.Damage.{GoesBitByBit}
use Rattle.frame_bits.specs.AirBits.{air_bits, DiffersWithin}
use Rattle.radio_replay.specs.Damage.{damaged_packet}
use Rattle.radio_replay.specs.declared.fates.Fate.{Fate}
use Rattle.short_damage.specs.Short.{ChangesWithin, HasOctets}
use Rattle.short_damage.proofs.Damages.{length-damaged, same_bits, same_packet}
use Rattle.short_damage.proofs.LowBits.{all_low, length_low, lows, on_air_low}

-- ---- octets that are heard whole

pub record IsHeardWhole (channel access init : ℕ) (octets : List ℕ) : Type 0 where
  pub begins : take 4 octets ≡ access_octets access
  pub pdu : List ℕ
  pub is : octets ≡ on_air channel access init pdu

-- where a judge takes neither what is not ours nor what is broken
pub heard_whole : {V : Type 0} → (judge : Heard → V) (good : V) → (judge NotOurs ≡ good → ⊥) → (judge Broken ≡ good → ⊥)
    → (channel access init : ℕ) (octets : List ℕ) → judge (heard_in channel access init octets) ≡ good
    → IsHeardWhole channel access init octets
unfolding heard_in
heard_whole judge good not_ours broken channel access init octets judged =
    by (bytes_eq (take 4 octets) (access_octets access)) (is_packet channel access init octets) refl refl judged
  where
    pdu : List ℕ
    pdu = pdu_in channel octets

    by : (ours packet : Bool) → bytes_eq (take 4 octets) (access_octets access) ≡ ours
        → is_packet channel access init octets ≡ packet
        → judge (if ours then
        (if packet then Whole (record { items = pdu_in channel octets }) else Broken) else NotOurs) ≡ good
        → IsHeardWhole channel access init octets
    by true true is_ours is judged = record {
      begins = (bytes_eq-Decides (take 4 octets) (access_octets access)).0 is_ours;
      pdu = pdu;
      is = (bytes_eq-Decides octets (on_air channel access init pdu)).0
          (and_parts (is_pdu pdu) (bytes_eq octets (on_air channel access init pdu)) is).1;
    }
    by true false is_ours is judged = absurd (broken judged)
    by false packet is_ours is judged = absurd (not_ours judged)

pub not_ours : (channel access init : ℕ) (octets : List ℕ) → (take 4 octets ≡ access_octets access → ⊥)
    → heard_in channel access init octets ≡ NotOurs
unfolding heard_in
not_ours channel access init octets differs = by (bytes_eq (take 4 octets) (access_octets access)) refl
  where
    by : (ours : Bool) → bytes_eq (take 4 octets) (access_octets access) ≡ ours
        → (if ours then (if is_packet channel access init octets then Whole
        (record { items = pdu_in channel octets }) else Broken) else NotOurs) ≡ NotOurs
    by true is = absurd (differs ((bytes_eq-Decides (take 4 octets) (access_octets access)).0 is))
    by false is = refl

-- ---- the laws of packets that are needed here

abbrev pub IsNeverWhole : Type 0
IsNeverWhole = (channel access init start : ℕ) (sent octets heard : List ℕ) → init < 2 ^ 24
    → All (λ octet. octet < 2 ^ 8) sent → All (λ octet. octet < 2 ^ 8) heard
    → length octets ≡ length (on_air channel access init sent)
    → DiffersWithin 24 start (air_bits (drop 4 (on_air channel access init sent))) (air_bits (drop 4 octets))
    → octets ≡ on_air channel access init heard → octets ≡ on_air channel access init sent

abbrev pub HasLength : Type 0
HasLength = (channel access init : ℕ) (pdu : List ℕ) → length (on_air channel access init pdu) ≡ length pdu + 7

pub record AreLaws : Type 0 where
  pub never : IsNeverWhole
  pub bitwise : GoesBitByBit
  pub long : HasLength

-- ---- a short damage

module _ (laws : AreLaws) (channel access init : ℕ) (sent heard packet : List ℕ) (fate : Fate) (small : init < 2 ^ 24)
    (all : HasOctets fate)
    (sent_is : packet ≡ on_air channel access init sent) (changes : ChangesWithin 24 fate packet)
    (heard_is : damaged_packet fate packet ≡ on_air channel access init heard) where
  -- both PDUs with the bits of their octets alone
  abbrev sent_low : List ℕ
  sent_low = on_air channel access init (lows sent)

  abbrev heard_low : List ℕ
  heard_low = on_air channel access init (lows heard)

  sent_bits : air_bits (drop 4 packet) ≡ air_bits (drop 4 sent_low)
  sent_bits = ap (λ xs. air_bits (drop 4 xs)) sent_is ∙ sym (on_air_low laws.bitwise channel access init sent)

  heard_bits : air_bits (drop 4 (damaged_packet fate packet)) ≡ air_bits (drop 4 heard_low)
  heard_bits = ap (λ xs. air_bits (drop 4 xs)) heard_is ∙ sym (on_air_low laws.bitwise channel access init heard)

  as_long : length heard_low ≡ length sent_low
  as_long =
      let whole : length heard + 7 ≡ length sent + 7 =
      sym (laws.long channel access init heard) ∙ ap length (sym heard_is) ∙ length-damaged fate packet
      ∙ ap length sent_is ∙ laws.long channel access init sent in
      omega (
        arith,
        whole,
        length_low heard,
        length_low sent,
        laws.long channel access init
            (lows heard),
        laws.long channel access init (lows sent),
      )

  differs : DiffersWithin 24 changes.start (air_bits (drop 4 sent_low)) (air_bits (drop 4 heard_low))
  differs =
      subst (λ bits. DiffersWithin 24 changes.start bits (air_bits (drop 4 heard_low))) sent_bits
      (subst (λ bits. DiffersWithin 24 changes.start (air_bits (drop 4 packet)) bits) heard_bits changes.bits)

  one_packet : heard_low ≡ sent_low
  one_packet = laws.never channel access init changes.start (lows sent) heard_low (lows heard) small (all_low sent)
      (all_low heard) as_long differs refl

  pub never_whole : damaged_packet fate packet ≡ packet
  never_whole =
      same_packet fate packet all
      (same_bits (damaged_packet fate packet) packet changes.access
      (heard_bits ∙ ap (λ xs. air_bits (drop 4 xs)) one_packet ∙ sym sent_bits))

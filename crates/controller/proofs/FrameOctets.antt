-- A packet of data has its octets, in whatever octets of a host it is found.
use Rattle.std.proofs.Common.{◌≡◌, ℕ, zero, suc, ◌+◌, ◌≤◌, ◌==◌, Bool, true, false, cond, leb, List, [], ◌∷◌, ◌++◌, length, take, drop, Option, Some, None, refl, ap, ◌∙◌, arith}
use Rattle.std.specs.List.{AllByRecursion, starts_with}
use Rattle.std.specs.Prelude.{nat_eq}
use Rattle.std.proofs.lemmas.Bool.{leb-true}
use Rattle.std.proofs.lemmas.List.{length-take-le, take_all}
use Rattle.ble_base.specs.declared.limits.TheConstants.{PAYLOAD_OCTETS}
use Rattle.h4_frames.specs.declared.packet.Fed.{Fed}
use Rattle.h4_frames.specs.declared.packet.Fed.TheVariants.{Packet}
use Rattle.h4_frames.specs.Frames.{first_reset, frames, frames_from, one_later, packet_entries, reset_octets}
use Rattle.h4_frames.specs.Packets.{SizedPacket, first_acl, first_command, first_packet, is_indicator, word_of}
use Rattle.controller_model.specs.Side.{first_result, result_of}
use Rattle.controller.specs.Framed.{HasOctets, IsFramed}

abbrev IsFound : Option SizedPacket → Type 0
IsFound None = Unit {0}
IsFound (Some found) = IsFramed (Packet found.packet)

abbrev AreFramed : List (ℕ × Fed) → Type 0
AreFramed entries = AllByRecursion (λ entry. IsFramed entry.1) entries

-- ---- one packet

all_there : (count : ℕ) (octets : List ℕ) → count ≤ length octets → HasOctets count (take PAYLOAD_OCTETS (take count octets))
all_there count octets fits few =
    let whole : length (take count octets) ≡ count = length-take-le count octets fits in
    ap length (take_all PAYLOAD_OCTETS (take count octets) (omega (arith, whole, few))) ∙ whole

found_cond : (test : Bool) (one other : Option SizedPacket) → (test ≡ true → IsFound one) → IsFound other → IsFound (cond test one other)
found_cond true one other is is_other = is refl
found_cond false one other is is_other = is_other

found_command : (octets : List ℕ) → IsFound (first_command octets)
found_command [] = tt
found_command (a ∷ []) = tt
found_command (a ∷ b ∷ []) = tt
found_command (a ∷ b ∷ c ∷ octets) = found_cond (leb c (length octets)) _ None (λ fits. tt) tt

found_acl : (octets : List ℕ) → IsFound (first_acl octets)
found_acl [] = tt
found_acl (a ∷ []) = tt
found_acl (a ∷ b ∷ []) = tt
found_acl (a ∷ b ∷ c ∷ []) = tt
found_acl (a ∷ b ∷ c ∷ d ∷ octets) =
    let count = word_of c d in
    found_cond (leb count (length octets)) _ None
    (λ fits. all_there count octets (leb-true count (length octets) fits)) tt

found_packet : (octets : List ℕ) → IsFound (first_packet octets)
found_packet [] = tt
found_packet (indicator ∷ octets) =
    found_cond (indicator == 1) (first_command octets) (first_acl octets) (λ is. found_command octets) (found_acl octets)

found_later : (found : Option SizedPacket) → IsFound found → IsFound (one_later found)
found_later None is = tt
found_later (Some found) is = is

found_reset : (octets : List ℕ) → IsFound (first_reset octets)
found_reset [] = tt
found_reset (octet ∷ octets) =
    found_cond (starts_with nat_eq (octet ∷ octets) reset_octets) _ (one_later (first_reset octets)) (λ is. tt)
    (found_later (first_reset octets) (found_reset octets))

-- ---- all of them

framed_cond : (test : Bool) (one other : List (ℕ × Fed)) → AreFramed one → AreFramed other → AreFramed (cond test one other)
framed_cond true one other are are_other = are
framed_cond false one other are are_other = are_other

framed_entries : (tail : ℕ → List ℕ → List (ℕ × Fed)) → ((place : ℕ) (octets : List ℕ) → AreFramed (tail place octets))
    → (place : ℕ) (octets : List ℕ) (found : Option SizedPacket) → IsFound found → AreFramed (packet_entries tail place octets found)
framed_entries tail rest place octets None is = tt
framed_entries tail rest place octets (Some found) is = (is, rest (place + found.size) (drop found.size octets))

framed_from : (fuel place : ℕ) (octets : List ℕ) → AreFramed (frames_from fuel place octets)
framed_from zero place octets = tt
framed_from (suc fuel) place [] = tt
framed_from (suc fuel) place (octet ∷ octets) =
    framed_cond (is_indicator octet) _ _
    (framed_entries (frames_from fuel) (framed_from fuel) place (octet ∷ octets) (first_packet (octet ∷ octets)) (found_packet (octet ∷ octets)))
    (tt, framed_entries (frames_from fuel) (framed_from fuel) (place + 1) octets (first_reset octets) (found_reset octets))

first_framed : (count : ℕ) (entries : List (ℕ × Fed)) → AreFramed entries → IsFramed (first_result (drop count entries))
first_framed zero [] are = tt
first_framed zero (entry ∷ entries) are = are.0
first_framed (suc count) [] are = tt
first_framed (suc count) (entry ∷ entries) are = first_framed count entries are.1

pub is_framed : (octets : List ℕ) (octet : ℕ) → IsFramed (result_of octets octet)
unfolding result_of frames
is_framed octets octet =
    first_framed (length (frames octets)) (frames (octets ++ octet ∷ [])) (framed_from (length (octets ++ octet ∷ [])) 0 (octets ++ octet ∷ []))

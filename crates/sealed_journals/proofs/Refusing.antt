-- What is to be refused in a packet of a link that is known, by its payload.
use Rattle.std.proofs.Common.{◌≡◌, ℕ, Bool, true, false, List, Some, nat_eq, sym, ap, ◌∙◌, arith, if◌then◌else◌}
use Rattle.ble_base.specs.Side.{other_side}
use Rattle.ble_base.specs.declared.roles.Side.{Side}
use Rattle.ble_base.specs.declared.verdicts.Verdict.{Verdict}
use Rattle.ble_base.specs.declared.verdicts.Verdict.TheVariants.{Forged, Good}
use Rattle.air_frame.specs.Packet.{on_air}
use Rattle.journal.specs.declared.entries.Entry.{Entry}
use Rattle.journal.specs.declared.entries.Mark.{Mark}
use Rattle.journal_sealing.specs.Forged.{is_forged_for}
use Rattle.journal_sealing.specs.Judged.{IsJudgedByLines}
use Rattle.journal_sealing.specs.SealedLines.{HasPayload, payload_carried}
use Rattle.journal_sealing.specs.journal_controls.journal_ends.Asked.{Words}
use Rattle.journal_sealing.specs.journal_controls.journal_ends.Left.{is_unchanged, left_of}
use Rattle.journal_sealing.specs.journal_controls.journal_links.Begun.{LinkBegun, link_numbered}
use Rattle.journal_sealing.specs.journal_controls.journal_packets.Belonging.{link_of_packet}
use Rattle.journal_sealing.specs.journal_acks.Carried.{air_pdu, bits_of, carried_of}
use Rattle.journal_sealing.specs.journal_acks.Exchange.{exchange_of}

pub differ : (one other : ℕ) → nat_eq one other ≡ false → one ≡ other → ⊥
differ one other differs same = grind arith

pub some_is : {X : Type 0} (one other : X) → Some one ≡ Some other → one ≡ other
some_is one other same = cc

-- the octets of a packet of this link with this MD and this payload
abbrev pub octets_with : ℕ → LinkBegun → List Entry → Side → ℕ → Bool → List ℕ → List ℕ
octets_with number link front side channel md payload =
    on_air channel link.fields.access link.fields.crc_init
    (air_pdu (bits_of (exchange_of number front side)) (carried_of number front side).llid md payload)

-- a packet of this link has the payload that the lines give
pub octets_are : (words : Words) (front : List Entry) (side : Side) (channel : ℕ) (octets : List ℕ) (number : ℕ)
    (link : LinkBegun) (payload : List ℕ)
    → link_of_packet front side octets ≡ Some number → link_numbered number front ≡ Some link
    → payload_carried words number front side ≡ payload
    → (has : HasPayload words front side channel octets)
    → octets ≡ octets_with number link front side channel has.packet.md payload
octets_are words front side channel octets number link payload belongs numbered due has =
    let packet = has.packet in
    let same : packet.number ≡ number = some_is packet.number number (sym packet.belongs ∙ belongs) in
    let one : packet.link ≡ link =
    some_is packet.link link (sym packet.is_link ∙ ap (λ (n : ℕ). link_numbered n front) same ∙ numbered) in
    packet.carries
    ∙ ap (octets_with packet.number packet.link front side channel packet.md) has.payload_is
    ∙ ap (λ (n : ℕ). octets_with n packet.link front side channel packet.md (payload_carried words n front side)) same
    ∙ ap (octets_with number packet.link front side channel packet.md) due
    ∙ ap (λ (l : LinkBegun). octets_with number l front side channel packet.md payload) one

abbrev verdict_if : Bool → Verdict
verdict_if forged = if forged then Forged else Good

-- and the verdict
pub judged_as : (words : Words) (front : List Entry) (side : Side) (channel : ℕ) (octets : List ℕ) (fate : Mark)
    (verdict : Verdict) (number : ℕ) (forged : Bool)
    → is_unchanged fate octets ≡ true → link_of_packet front side octets ≡ Some number
    → is_forged_for words number front (other_side side) channel (left_of fate octets) ≡ forged
    → IsJudgedByLines words front side channel octets fate verdict → verdict ≡ (if forged then Forged else Good)
judged_as words front side channel octets fate verdict number forged unchanged belongs is judged =
    let same : judged.number ≡ number = some_is judged.number number (sym (judged.belongs unchanged) ∙ belongs) in
    judged.judged
    ∙ ap (λ (n : ℕ). verdict_if (is_forged_for words n front (other_side side) channel (left_of fate octets))) same
    ∙ ap verdict_if is

pub good_is_not_forged : Good ≡ Forged → ⊥
good_is_not_forged same = absurd cc

-- What is to be refused in a packet whose link is known.
use Rattle.std.proofs.Common.{◌≡◌, ℕ, Bool, true, false, List, Some, sym, ap, subst, ◌∙◌}
use Rattle.ble_base.specs.declared.roles.Side.{Side}
use Rattle.journal.specs.declared.entries.Entry.{Entry}
use Rattle.air_frame.specs.Packet.{on_air}
use Rattle.journal_pdus.specs.journal_controls.journal_ends.Asked.{Words}
use Rattle.journal_pdus.specs.link_model.Acknowledgement.{Pdu}
use Rattle.journal_pdus.specs.link_model.Data.{is_empty}
use Rattle.journal_pdus.specs.link_model.keyed_control.Keyed.{Keyed}
use Rattle.journal_pdus.specs.journal_links.Begun.{LinkBegun, link_numbered}
use Rattle.journal_pdus.specs.journal_packets.Belonging.{link_of_packet}
use Rattle.journal_pdus.specs.journal_acks.Carried.{IsLinkPacket, air_pdu, bits_of, carried_of, channel_entered}
use Rattle.journal_pdus.specs.journal_acks.Exchange.{exchange_of}
use Rattle.journal_pdus.specs.journal_data.Delivered.{host_buffers}
use Rattle.journal_pdus.specs.journal_data.Lines.{lines_of}
use Rattle.journal_pdus.specs.journal_rules.Waiting.{TellsInWords, md_due}
use Rattle.journal_pdus.specs.journal_sealing.SealedLines.{HasPayload, payload_carried}
use Rattle.journal_pdus.specs.journal_sending.NextPdus.{IsNextPdu}
use Rattle.journal_pdus.specs.journal_sending.Outgoing.{octets_wait, piece_by_lines}
use Rattle.journal_pdus.specs.journal_sending.WhatWaits.{TellsWhatWaits, has_payload_next, is_next_new, tells_more}
use Rattle.journal_pdus.specs.journal_sending.journal_fixing.NextPdu.{pdu_next, piece_limit}
use Rattle.journal_pdus.specs.journal_sending.journal_fixing.OnLines.{control_fixing, control_going}

-- the octets of a packet of this link with this MD, whatever its payload is
abbrev pub octets_with : ℕ → LinkBegun → List Entry → Side → ℕ → Bool → List ℕ → List ℕ
octets_with number link front side channel md payload =
    on_air channel link.fields.access link.fields.crc_init
    (air_pdu (bits_of (exchange_of number front side)) (carried_of number front side).llid md payload)

pub some_is : {X : Type 0} (one other : X) → Some one ≡ Some other → one ≡ other
some_is one other same = cc

-- a packet of this link has these octets, where MD is due by its end as the turn began
octets_by : (words : Words) (front : List Entry) (side : Side) (channel : ℕ) (octets : List ℕ) (number : ℕ) (link : LinkBegun)
    (fixing : Keyed) (md : Bool) (due : ℕ → Keyed → Bool)
    → link_of_packet front side octets ≡ Some number → link_numbered number front ≡ Some link
    → control_fixing words side number front ≡ Some fixing → due number fixing ≡ md
    → (packet : IsLinkPacket front side channel octets) (found : Keyed) → control_fixing words side packet.number front ≡ Some found
    → packet.md ≡ due packet.number found
    → octets ≡ octets_with number link front side channel md packet.payload
octets_by words front side channel octets number link fixing md due belongs numbered is_fixing is_md packet found is_found told =
    let same = some_is packet.number number (sym packet.belongs ∙ belongs) in
    let one = some_is packet.link link (sym packet.is_link ∙ ap (λ (n : ℕ). link_numbered n front) same ∙ numbered) in
    let fixed = some_is found fixing (sym is_found ∙ ap (λ (n : ℕ). control_fixing words side n front) same ∙ is_fixing) in
    let more = told ∙ ap (λ (n : ℕ). due n found) same ∙ ap (due number) fixed ∙ is_md in
    packet.carries
    ∙ ap (λ (n : ℕ). octets_with n packet.link front side channel packet.md packet.payload) same
    ∙ ap (λ (l : LinkBegun). octets_with number l front side channel packet.md packet.payload) one
    ∙ ap (λ (b : Bool). octets_with number link front side channel b packet.payload) more

pub octets_are : (words : Words) (front : List Entry) (side : Side) (channel : ℕ) (octets : List ℕ) (number : ℕ) (link : LinkBegun)
    (fixing : Keyed) (md : Bool)
    → link_of_packet front side octets ≡ Some number → link_numbered number front ≡ Some link
    → control_fixing words side number front ≡ Some fixing
    → tells_more (is_next_new number front side) fixing (carried_of number front side) (octets_wait number (lines_of host_buffers side front)) ≡ md
    → (tells : TellsWhatWaits words front side channel octets)
    → octets ≡ octets_with number link front side channel md tells.packet.payload
octets_are words front side channel octets number link fixing md belongs numbered is_fixing is_md tells =
    octets_by words front side channel octets number link fixing md
    (λ n k. tells_more (is_next_new n front side) k (carried_of n front side) (octets_wait n (lines_of host_buffers side front)))
    belongs numbered is_fixing is_md tells.packet tells.fixing tells.fixing_is tells.more

-- and so it has in the words of the standard
pub octets_in_words : (words : Words) (front : List Entry) (side : Side) (channel : ℕ) (octets : List ℕ) (number : ℕ) (link : LinkBegun)
    (fixing : Keyed) (md : Bool)
    → link_of_packet front side octets ≡ Some number → link_numbered number front ≡ Some link
    → control_fixing words side number front ≡ Some fixing → md_due number front side fixing ≡ md
    → (tells : TellsInWords words front side channel octets)
    → octets ≡ octets_with number link front side channel md tells.packet.payload
octets_in_words words front side channel octets number link fixing md belongs numbered is_fixing is_md tells =
    octets_by words front side channel octets number link fixing md (λ n k. md_due n front side k)
    belongs numbered is_fixing is_md tells.packet tells.fixing tells.fixing_is tells.more

-- and the payload that the lines give
pub payload_is : (words : Words) (front : List Entry) (side : Side) (channel : ℕ) (octets : List ℕ) (number : ℕ) (link : LinkBegun)
    → link_of_packet front side octets ≡ Some number → link_numbered number front ≡ Some link
    → (has : HasPayload words front side channel octets)
    → octets ≡ octets_with number link front side channel has.packet.md (payload_carried words number front side)
payload_is words front side channel octets number link belongs numbered has =
    let packet = has.packet in
    let same = some_is packet.number number (sym packet.belongs ∙ belongs) in
    let one = some_is packet.link link (sym packet.is_link ∙ ap (λ (n : ℕ). link_numbered n front) same ∙ numbered) in
    packet.carries
    ∙ ap (octets_with packet.number packet.link front side channel packet.md) has.payload_is
    ∙ ap (λ (n : ℕ). octets_with n packet.link front side channel packet.md (payload_carried words n front side)) same
    ∙ ap (λ (l : LinkBegun). octets_with number l front side channel packet.md (payload_carried words number front side)) one

-- and the channel of its event
pub channel_is : (words : Words) (front : List Entry) (side : Side) (channel : ℕ) (octets : List ℕ) (number : ℕ)
    → link_of_packet front side octets ≡ Some number
    → TellsWhatWaits words front side channel octets
    → channel_entered number side front ≡ Some channel
channel_is words front side channel octets number belongs tells =
    let packet = tells.packet in
    let same = some_is packet.number number (sym packet.belongs ∙ belongs) in
    ap (λ (n : ℕ). channel_entered n side front) (sym same) ∙ packet.in_event

-- where a packet of this link has an empty PDU as a new one, nothing is to go
pub none_waits : (words : Words) (front : List Entry) (side : Side) (channel : ℕ) (octets : List ℕ) (number : ℕ) (fixing : Keyed)
    → link_of_packet front side octets ≡ Some number → control_fixing words side number front ≡ Some fixing
    → is_next_new number front side ≡ true → is_empty (carried_of number front side) ≡ true
    → TellsWhatWaits words front side channel octets
    → has_payload_next fixing (octets_wait number (lines_of host_buffers side front)) ≡ false
none_waits words front side channel octets number fixing belongs is_fixing new empty tells =
    let packet = tells.packet in
    let same : number ≡ packet.number = some_is number packet.number (sym belongs ∙ packet.belongs) in
    let fixed : fixing ≡ tells.fixing =
    some_is fixing tells.fixing (sym is_fixing ∙ ap (λ (n : ℕ). control_fixing words side n front) same ∙ tells.fixing_is) in
    ap (λ (k : Keyed). has_payload_next k (octets_wait number (lines_of host_buffers side front))) fixed
    ∙ ap (λ (n : ℕ). has_payload_next tells.fixing (octets_wait n (lines_of host_buffers side front))) same
    ∙ tells.empty_last
    (subst (λ (n : ℕ). is_next_new n front side ≡ true) same new)
    (subst (λ (n : ℕ). is_empty (carried_of n front side) ≡ true) same empty)

-- a new PDU is the next one by its end as the PDU was fixed and as it went
pub next_is : (words : Words) (link : ℕ) (front : List Entry) (side : Side) (count : ℕ) (pdu : Pdu) (fixing going : Keyed)
    → control_fixing words side link front ≡ Some fixing → control_going words side link front ≡ Some going
    → IsNextPdu words link front side count pdu
    → pdu ≡ pdu_next fixing going (piece_by_lines side link front (piece_limit fixing))
next_is words link front side count pdu fixing going is_fixing is_going next =
    let fixed = some_is next.fixing fixing (sym next.fixing_is ∙ is_fixing) in
    let gone = some_is next.going going (sym next.going_is ∙ is_going) in
    next.next
    ∙ ap (λ (k : Keyed). pdu_next k next.going (piece_by_lines side link front (piece_limit k))) fixed
    ∙ ap (λ (k : Keyed). pdu_next fixing k (piece_by_lines side link front (piece_limit fixing))) gone

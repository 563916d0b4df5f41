-- A piece of data is next exactly where octets are left that were not sent.
use Rattle.std.proofs.Common.{◌≡◌, ℕ, ◌<◌, ◌≤◌, ◌==◌, nat_lt, not, Bool, true, false, cond, List, [], ◌∷◌, ◌++◌, length, Option, Some, None, is_some, refl, sym, ap, subst, ◌∙◌, arith, length-append}
use Rattle.std.specs.List.{find, flat_map}
use Rattle.std.specs.Option.{option_map}
use Rattle.std.proofs.lemmas.Bool.Decides.{nat_tests}
use Rattle.std.proofs.lemmas.List.{drop_all}
use Rattle.std.proofs.lemmas.Option.{none-some, same_Some}
use Rattle.acl_banks.specs.declared.pieces.Piece.{Piece}
use Rattle.acl_banks.specs.Packets.{DataPacket, Marked, marked_octets, piece_of, sent_length, unsent_octets}
use Rattle.acl_banks.proofs.Octets.{length-marked_octets, length-piece_of, length-unsent_octets}
use Rattle.journal_controls.specs.link_model.Data.{Data, data_in, is_empty, is_unsent, llid_of, next_piece, pdu_with}
use Rattle.journal_fixing.specs.NextPdu.{data_waits}

none_left : (packets : List DataPacket) → find is_unsent packets ≡ None → flat_map unsent_octets packets ≡ []
none_left [] none = refl
none_left (packet ∷ packets) none = by (is_unsent packet) refl none (none_left packets)
  where
    by : (left : Bool) → is_unsent packet ≡ left → cond left (Some packet) (find is_unsent packets) ≡ None
        → (find is_unsent packets ≡ None → flat_map unsent_octets packets ≡ []) → flat_map unsent_octets (packet ∷ packets) ≡ []
    by true is none later = absurd (none-some packet (sym none))
    by false is none later =
        let past : length packet.body ≤ sent_length packet = grind (arith, nat_tests) in
        let nothing = drop_all (sent_length packet) (marked_octets packet.start packet.body) (omega (arith, past, length-marked_octets packet.start packet.body)) in
        ap (λ octets. octets ++ flat_map unsent_octets packets) nothing ∙ later none

-- the first packet with octets left
record IsLeft (packets : List DataPacket) (packet : DataPacket) : Type 0 where
  some : 0 < length (unsent_octets packet)
  all : length (unsent_octets packet) ≤ length (flat_map unsent_octets packets)

some_left : (packets : List DataPacket) (packet : DataPacket) → find is_unsent packets ≡ Some packet → IsLeft packets packet
some_left [] packet found = absurd (none-some packet found)
some_left (one ∷ packets) packet found = by (is_unsent one) refl found (some_left packets packet)
  where
    by : (left : Bool) → is_unsent one ≡ left → cond left (Some one) (find is_unsent packets) ≡ Some packet
        → (find is_unsent packets ≡ Some packet → IsLeft packets packet) → IsLeft (one ∷ packets) packet
    by true is found later =
        let same : one ≡ packet = same_Some one packet found in
        let less : sent_length one < length one.body = grind (arith, nat_tests) in
        subst (IsLeft (one ∷ packets)) same (record {
          some = omega (arith, less, length-unsent_octets one);
          all = omega (arith, length-append (unsent_octets one) (flat_map unsent_octets packets));
        })
    by false is found later =
        let left = later found in
        let some = left.some in
        let all = left.all in
        record { some = some; all = omega (arith, all, length-append (unsent_octets one) (flat_map unsent_octets packets)) }

some_waits : (packets : List DataPacket) (packet : DataPacket) → find is_unsent packets ≡ Some packet → nat_lt 0 (length (flat_map unsent_octets packets)) ≡ true
some_waits packets packet found =
    let left = some_left packets packet found in
    let some = left.some in
    let all = left.all in
    grind (arith, nat_tests)

none_waits : (packets : List DataPacket) → find is_unsent packets ≡ None → nat_lt 0 (length (flat_map unsent_octets packets)) ≡ false
none_waits packets none = ap (λ (octets : List Marked). nat_lt 0 (length octets)) (none_left packets none)

-- ---- a piece is next

piece_by : (limit : ℕ) (packets : List DataPacket) (found : Option DataPacket) → find is_unsent packets ≡ found
    → is_some (option_map (piece_of limit) found) ≡ nat_lt 0 (length (flat_map unsent_octets packets))
piece_by limit packets None found = sym (none_waits packets found)
piece_by limit packets (Some packet) found = sym (some_waits packets packet found)

pub piece_waits : (outgoing : Data) → is_some (next_piece outgoing) ≡ data_waits outgoing
piece_waits outgoing = piece_by outgoing.limit outgoing.packets (find is_unsent outgoing.packets) refl

-- ---- it has an octet at least

empty_at : (start : Bool) (octets : List ℕ) → is_empty (record { llid = llid_of start; body = octets }) ≡ (length octets == 0)
empty_at true octets = refl
empty_at false octets = refl

full_by : (limit : ℕ) (packets : List DataPacket) (found : Option DataPacket) → 1 ≤ limit → find is_unsent packets ≡ found
    → not (is_empty (pdu_with (option_map (piece_of limit) found))) ≡ nat_lt 0 (length (flat_map unsent_octets packets))
full_by limit packets None some found = sym (none_waits packets found)
full_by limit packets (Some packet) some found =
    let left = some_left packets packet found in
    let octets = left.some in
    let piece = piece_of limit packet in
    let size = length-piece_of limit packet in
    let full : 0 < length piece.body.items = omega (arith, size, octets, some) in
    let has : not (length piece.body.items == 0) ≡ true = grind (arith, nat_tests) in
    ap not (empty_at piece.start piece.body.items) ∙ has ∙ sym (some_waits packets packet found)

pub piece_full : (outgoing : Data) → 1 ≤ outgoing.limit → not (is_empty (pdu_with (next_piece outgoing))) ≡ data_waits outgoing
piece_full outgoing some = full_by outgoing.limit outgoing.packets (find is_unsent outgoing.packets) some refl

-- ---- its PDU has as many octets of data as it is long

data_at : (start : Bool) (octets : List ℕ) (none : Bool) → (length octets == 0) ≡ none
    → length (data_in (record { llid = llid_of start; body = octets })) ≡ length octets
data_at true octets none is = ap (λ b. length (cond (not b) (marked_octets true octets) [])) is ∙ by none is
  where
    by : (none : Bool) → (length octets == 0) ≡ none → length (cond (not none) (marked_octets true octets) []) ≡ length octets
    by true is = grind (arith, nat_tests)
    by false is = length-marked_octets true octets
data_at false octets none is = ap (λ b. length (cond (not b) (marked_octets false octets) [])) is ∙ by none is
  where
    by : (none : Bool) → (length octets == 0) ≡ none → length (cond (not none) (marked_octets false octets) []) ≡ length octets
    by true is = grind (arith, nat_tests)
    by false is = length-marked_octets false octets

pub data_length : (piece : Option Piece) → length (data_in (pdu_with piece)) ≡ length (pdu_with piece).body
data_length None = refl
data_length (Some piece) = data_at piece.start piece.body.items (length piece.body.items == 0) refl

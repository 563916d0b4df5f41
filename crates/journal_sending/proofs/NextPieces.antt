-- The next piece of the data of an end, by the packets that it was given_data and by how many octets of them it sent.
use Rattle.std.proofs.Common.{◌≡◌, ℕ, ◌+◌, ◌-◌, ◌==◌, ◌&&◌, nat_lt, Bool, true, false, cond, List, [], ◌∷◌, ◌++◌, length, map, take, drop, Option, Some, refl, sym, ap, ◌∙◌, arith, length-append, if◌then◌else◌}
use Rattle.std.specs.List.{find}
use Rattle.std.specs.Option.{option_map}
use Rattle.std.proofs.lemmas.Bool.Decides.{nat_tests}
use Rattle.std.proofs.lemmas.List.{length-drop, length-take-le}
use Rattle.acl_banks.specs.declared.pieces.Piece.{Piece}
use Rattle.acl_banks.specs.History.{HostData, Past, octets_of}
use Rattle.acl_banks.specs.Packets.{AreFresh, AreInOrder, DataPacket, marked_octets, octets_out, piece_of, sent_length}
use Rattle.acl_banks.proofs.Octets.{length-marked_octets}
use Rattle.acl_banks.proofs.OneLink.{IsKept, outs}
use Rattle.journal_leaving.specs.link_model.Data.{is_unsent, next_piece, sent_data}
use Rattle.journal_leaving.specs.link_model.End.{facts_of}
use Rattle.journal_leaving.specs.link_model.Setup.{Setup}
use Rattle.journal_leaving.specs.link_model.Step.{Step}
use Rattle.journal_leaving.proofs.link_model.Sending.{past_of, past_together}
use Rattle.journal_leaving.proofs.journal_data.Submitting.{given_data}
use Rattle.journal_sending.specs.Outgoing.{piece_after}

-- the next piece of these packets
abbrev piece_in : ℕ → List DataPacket → Option Piece
piece_in limit packets = option_map (piece_of limit) (find is_unsent packets)

-- ---- the next piece of the packets that are not complete

abbrev cut_at : ℕ → HostData → ℕ → Option Piece
cut_at limit packet sent = Some (record { start = packet.start && (sent == 0); body = record { items = take limit (drop sent packet.body) } })

first_left : (limit : ℕ) (packet : DataPacket) (packets : List DataPacket) (count : ℕ) → sent_length packet ≡ count → nat_lt count (length packet.body) ≡ true
    → piece_after limit (map given_data (packet ∷ packets)) count ≡ piece_in limit (packet ∷ packets)
first_left limit packet packets count is left =
    ap (λ b. if b then cut_at limit (given_data packet) count else piece_after limit (map given_data packets) (count - length packet.body)) left
    ∙ ap (cut_at limit (given_data packet)) (sym is)
    ∙ sym (ap (λ b. option_map (piece_of limit) (cond b (Some packet) (find is_unsent packets))) (ap (λ n. nat_lt n (length packet.body)) is ∙ left))

next_fresh : (limit : ℕ) (packets : List DataPacket) → AreFresh packets → piece_after limit (map given_data packets) 0 ≡ piece_in limit packets
next_fresh limit [] are = refl
next_fresh limit (packet ∷ packets) are =
    let some = are.0.some in
    let left : nat_lt 0 (length packet.body) ≡ true = grind (arith, nat_tests) in
    first_left limit packet packets 0 (omega (arith, are.0.none_out, are.0.none_acknowledged)) left

abbrev sent_first : List DataPacket → ℕ
sent_first [] = 0
sent_first (packet ∷ packets) = sent_length packet

next_in_order : (limit : ℕ) (packets : List DataPacket) → AreInOrder packets → piece_after limit (map given_data packets) (sent_first packets) ≡ piece_in limit packets
next_in_order limit [] order = refl
next_in_order limit (packet ∷ packets) order = by (is_unsent packet) refl
  where
    by : (left : Bool) → is_unsent packet ≡ left → piece_after limit (map given_data (packet ∷ packets)) (sent_length packet) ≡ piece_in limit (packet ∷ packets)
    by true left = first_left limit packet packets (sent_length packet) refl left
    by false all =
        let within = order.0.within in
        let none : sent_length packet - length packet.body ≡ 0 = omega (arith, within) in
        ap (λ b. if b then cut_at limit (given_data packet) (sent_length packet) else piece_after limit (map given_data packets) (sent_length packet - length packet.body)) all
        ∙ ap (piece_after limit (map given_data packets)) none ∙ next_fresh limit packets order.1
        ∙ sym (ap (λ b. option_map (piece_of limit) (cond b (Some packet) (find is_unsent packets))) all)

-- packets that were sent whole
next_past : (limit : ℕ) (complete more : List HostData) (count : ℕ) → piece_after limit (complete ++ more) (length (octets_of complete) + count) ≡ piece_after limit more count
next_past limit [] more count =
    let none : 0 + count ≡ count = omega arith in
    ap (piece_after limit more) none
next_past limit (packet ∷ packets) more count =
    let size = length packet.body in
    let sent = length (octets_of (packet ∷ packets)) + count in
    let long : length (octets_of (packet ∷ packets)) ≡ size + length (octets_of packets) =
    length-append (marked_octets packet.start packet.body) (octets_of packets) ∙ ap (λ n. n + length (octets_of packets)) (length-marked_octets packet.start packet.body) in
    let all : nat_lt sent size ≡ false = grind (arith, nat_tests) in
    let later : sent - size ≡ length (octets_of packets) + count = omega (arith, long) in
    ap (λ b. if b then cut_at limit packet sent else piece_after limit (packets ++ more) (sent - size)) all
    ∙ ap (piece_after limit (packets ++ more)) later ∙ next_past limit packets more count

-- ---- how many octets were sent

fresh_outs : (packets : List DataPacket) → AreFresh packets → length (outs packets) ≡ 0
fresh_outs [] are = refl
fresh_outs (packet ∷ packets) are = rw are.0.none_out (fresh_outs packets are.1)

sent_count : (packets : List DataPacket) (count : ℕ) (past : Past) (kept : IsKept packets count past)
    → length past.sent ≡ length (octets_of kept.complete) + sent_first packets
sent_count [] count past kept =
    let sent = ap length kept.sent ∙ length-append past.acknowledged [] in
    let acked = ap length kept.acknowledged ∙ length-append (octets_of kept.complete) [] in
    omega (arith, sent, acked)
sent_count (packet ∷ packets) count past kept =
    let whole = marked_octets packet.start packet.body in
    let size = length-marked_octets packet.start packet.body in
    let within = kept.in_order.0.within in
    let none = fresh_outs packets kept.in_order.1 in
    let out : length (octets_out packet) ≡ packet.out =
    length-take-le packet.out (drop packet.acknowledged whole) (omega (arith, length-drop packet.acknowledged whole, size, within)) in
    let begun : length (take packet.acknowledged whole) ≡ packet.acknowledged = length-take-le packet.acknowledged whole (omega (arith, size, within)) in
    let sent = ap length kept.sent ∙ length-append past.acknowledged (outs (packet ∷ packets)) in
    let outs_are = length-append (octets_out packet) (outs packets) in
    let acked = ap length kept.acknowledged ∙ length-append (octets_of kept.complete) (take packet.acknowledged whole) in
    omega (arith, sent, acked, outs_are, none, out, begun)

-- cut at any length
pub piece_cut : (setup : Setup) (past : List Step) (limit : ℕ) → let facts = facts_of setup past in
    next_piece (record facts.outgoing { limit = limit }) ≡ piece_after limit facts.outgoing.given (length (sent_data facts.acknowledgement))
piece_cut setup past limit =
    let facts = facts_of setup past in
    let outgoing = facts.outgoing in
    let kept = (past_together setup past).kept in
    let count = sent_count outgoing.packets outgoing.complete (past_of facts.acknowledgement outgoing) kept in
    sym (next_in_order limit outgoing.packets kept.in_order)
    ∙ sym (next_past limit kept.complete (map given_data outgoing.packets) (sent_first outgoing.packets))
    ∙ (λ i. piece_after limit (sym kept.taken i) (sym count i))

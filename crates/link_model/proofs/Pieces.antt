-- A piece of the host is out where the PDU that was sent last is data that is not acknowledged, and a fixed PDU of data
-- carries the next piece.
use Rattle.std.proofs.Common.{◌≡◌, ◌+◌, ◌<◌, ◌≤◌, ◌==◌, Bool, true, false, not, ◌&&◌, ◌||◌, is_some, List, [], ◌∷◌, ◌++◌, length, take, Option, Some, None, refl, ap, sym, ◌∙◌, arith, if◌then◌else◌}
use Rattle.std.specs.List.{find}
use Rattle.std.specs.Option.{option_map}
use Rattle.std.proofs.lemmas.Bool.{eqb-true, eqb-false}
use Rattle.std.proofs.lemmas.Bool.Decides.{nat_tests}
use Rattle.std.proofs.lemmas.List.{append-nil, length-append, take-append-le, take_all}
use Rattle.acl_banks.specs.Packets.{DataPacket, marked_octets, piece_of}
use Rattle.acl_banks.proofs.Octets.{length-marked_octets}
use Rattle.link_model.specs.Setup.{Setup}
use Rattle.link_model.specs.Acknowledgement.{Acknowledgement, Pdu, is_acked}
use Rattle.link_model.specs.Data.{Data, acked_data, data_in, data_of, is_data, is_out, is_unsent, pdu_with, sent_data}
use Rattle.link_model.proofs.Outgoing.{all_acked, data-push, none_out, not_out}
use Rattle.link_model.specs.Step.{Step}
use Rattle.link_model.specs.End.{facts_of}
use Rattle.link_model.proofs.Sending.{IsTogether, nothing_acked, nothing_out, past_together}

-- no piece is out where all that was sent is acknowledged
none_where_acked : (ack : Acknowledgement) (outgoing : Data) → IsTogether ack outgoing → acked_data ack ≡ sent_data ack
    → is_some (find is_out outgoing.packets) ≡ false
none_where_acked ack outgoing are same =
    ap is_some (none_out outgoing.packets are.kept.in_order (nothing_out ack outgoing are same))

-- a PDU of data has data in it
data_some : (pdu : Pdu) → is_data pdu ≡ true → 0 < length (data_in pdu)
data_some pdu is = by_tests (pdu.llid == 1 || pdu.llid == 2) (not (length pdu.body == 0)) refl is
  where
    by_tests : (kind some : Bool) → not (length pdu.body == 0) ≡ some → (kind && some) ≡ true → 0 < length (data_in pdu)
    by_tests true true e t =
        let full : length (data_in pdu) ≡ length pdu.body =
        ap (λ b. length (if b then marked_octets (pdu.llid == 2) pdu.body else [])) is ∙ length-marked_octets (pdu.llid == 2) pdu.body in
        let some : 0 < length pdu.body = grind (arith, nat_tests) in
        omega (arith, full, some)
    by_tests true false e t = absurd cc
    by_tests false some e t = absurd cc

-- the data that is not acknowledged is what is out
out_where_sent : (ack : Acknowledgement) (outgoing : Data) → IsTogether ack outgoing → ack.acked + 1 ≤ length ack.sent
    → is_data ack.last ≡ true → (out : Option DataPacket) → find is_out outgoing.packets ≡ out → is_some out ≡ true
out_where_sent ack outgoing are waits holds (Some packet) found = refl
out_where_sent ack outgoing are waits holds None found =
    let front = are.counts.last_sent.front in
    let count : ack.acked ≡ length front =
    omega (arith, waits, are.counts.one_at_a_time, ap length are.counts.last_sent.sent_are, length-append front (ack.last ∷ [])) in
    let acked_are : acked_data ack ≡ data_of front =
    ap (λ n. data_of (take n ack.sent)) count ∙ ap (λ pdus. data_of (take (length front) pdus)) are.counts.last_sent.sent_are
    ∙ ap data_of (take-append-le (length front) front (ack.last ∷ []) (omega arith) ∙ take_all (length front) front (omega arith)) in
    let sent_are : sent_data ack ≡ data_of front ++ data_in ack.last = ap data_of are.counts.last_sent.sent_are ∙ data-push front ack.last in
    let nothing = not_out outgoing.packets found in
    let all : sent_data ack ≡ acked_data ack = are.kept.sent ∙ ap (λ o. acked_data ack ++ o) nothing ∙ append-nil (acked_data ack) in
    absurd (omega (arith, data_some ack.last holds, ap length (sym sent_are ∙ all ∙ acked_are), length-append (data_of front) (data_in ack.last)))

piece_out_by : (acked carried : Bool) (ack : Acknowledgement) (outgoing : Data) → is_acked ack ≡ acked → is_data ack.last ≡ carried
    → IsTogether ack outgoing → is_some (find is_out outgoing.packets) ≡ (not acked && carried)
piece_out_by true carried ack outgoing is carries are =
    none_where_acked ack outgoing are (all_acked ack (omega (arith, eqb-true ack.acked (length ack.sent) is)))
piece_out_by false true ack outgoing is carries are =
    out_where_sent ack outgoing are (omega (arith, are.counts.sent_only, eqb-false ack.acked (length ack.sent) is)) carries
    (find is_out outgoing.packets) refl
piece_out_by false false ack outgoing is carries are =
    none_where_acked ack outgoing are
    (nothing_acked ack are.counts (omega (arith, are.counts.sent_only, eqb-false ack.acked (length ack.sent) is))
    (ap (λ b. if b then marked_octets (ack.last.llid == 2) ack.last.body else []) carries))

pub piece_out_where_waits : (setup : Setup) (past : List Step) → let facts = facts_of setup past in
    is_some (find is_out facts.outgoing.packets) ≡ (not (is_acked facts.acknowledgement) && is_data facts.acknowledgement.last)
piece_out_where_waits setup past =
    let facts = facts_of setup past in
    piece_out_by (is_acked facts.acknowledgement) (is_data facts.acknowledgement.last) facts.acknowledgement facts.outgoing refl refl
    (past_together setup past)

pub fixed_is_next : (setup : Setup) (past : List Step) → let outgoing = (facts_of setup past).outgoing in
    is_data outgoing.fixed ≡ true
    → pdu_with (option_map (piece_of (length outgoing.fixed.body)) (find is_unsent outgoing.packets)) ≡ outgoing.fixed
fixed_is_next setup past = (past_together setup past).next

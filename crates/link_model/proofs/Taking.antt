-- What one end took of data was given to the other.
use Rattle.std.proofs.Common.{◌≡◌, ℕ, zero, suc, ◌+◌, ◌-◌, ◌≤◌, nat_lt, Bool, true, false, List, [], ◌∷◌, ◌++◌, length, take, drop, refl, ap, sym, ◌∙◌, arith, if◌then◌else◌}
use Rattle.std.proofs.lemmas.Bool.Decides.{nat_tests}
use Rattle.std.proofs.lemmas.Grind.{flat_map-append}
use Rattle.std.proofs.lemmas.List.{append_assoc, length-append, take-append-drop}
use Rattle.std.proofs.Math.Seq.{take-append_seam}
use Rattle.acl_banks.specs.Packets.{Marked}
use Rattle.acl_banks.specs.History.{HostData, octets_of, whole_packets}
use Rattle.link_model.specs.Setup.{Setup}
use Rattle.link_model.specs.Acknowledgement.{Pdu}
use Rattle.link_model.specs.Data.{acked_data, data_in, data_of, unsent_of}
use Rattle.link_model.specs.OneLink.{AreInAgreement}
use Rattle.link_model.specs.Facts.{Facts}
use Rattle.link_model.specs.Step.{Step}
use Rattle.link_model.specs.End.{facts_of}
use Rattle.link_model.specs.Delivery.{IsDelivered, IsInOrder}
use Rattle.link_model.proofs.Sending.{past_in_order}

-- the first PDUs have the first data
data_parts : (count : ℕ) (pdus : List Pdu) → data_of pdus ≡ data_of (take count pdus) ++ data_of (drop count pdus)
data_parts count pdus =
    ap data_of (sym (take-append-drop count pdus)) ∙ flat_map-append data_in (take count pdus) (drop count pdus)

-- what is taken, before what is left of what was sent, and what waits
taken_first : (taken left waits given : List Marked) → (taken ++ left) ++ waits ≡ given → taken ≡ take (length taken) given
taken_first taken left waits given is =
    sym (take-append_seam taken (left ++ waits)) ∙ ap (take (length taken)) (sym (append_assoc taken left waits) ∙ is)

-- more octets have no fewer whole packets in them
pub more_whole : (packets : List HostData) (few many : ℕ) → few ≤ many → whole_packets packets few ≤ whole_packets packets many
more_whole [] few many less = omega arith
more_whole (packet ∷ packets) few many less =
    by_tests (nat_lt few (length packet.body)) (nat_lt many (length packet.body)) refl refl
    (more_whole packets (few - length packet.body) (many - length packet.body) (omega arith))
  where
    by_tests : (short none : Bool) → nat_lt few (length packet.body) ≡ short → nat_lt many (length packet.body) ≡ none
        → whole_packets packets (few - length packet.body) ≤ whole_packets packets (many - length packet.body)
        → (if short then 0 else 1 + whole_packets packets (few - length packet.body))
        ≤ (if none then 0 else 1 + whole_packets packets (many - length packet.body))
    by_tests true none e f later = omega arith
    by_tests false true e f later = absurd (grind (arith, nat_tests))
    by_tests false false e f later = omega arith

pub take_less : {A : Type 0} (few many : ℕ) (xs : List A) → few ≤ many → take few (take many xs) ≡ take few xs
take_less zero many xs less = refl
take_less (suc few) zero xs less = absurd (omega arith)
take_less (suc few) (suc many) [] less = refl
take_less (suc few) (suc many) (x ∷ xs) less = ap (λ rest. x ∷ rest) (take_less few many xs (omega arith))

pub delivered : (from to : Facts) → IsInOrder from → AreInAgreement from.acknowledgement to.acknowledgement → IsDelivered from to
delivered from to order agreed =
    let sent = from.acknowledgement.sent in
    let accepted = to.acknowledgement.accepted in
    let acked = from.acknowledgement.acked in
    let waits = unsent_of from.outgoing in
    let left = data_of (drop (length accepted) sent) in
    let reliable = agreed.from_a.reliable in
    let given : (data_of accepted ++ left) ++ waits ≡ octets_of from.outgoing.given =
    ap (λ pdus. (data_of pdus ++ left) ++ waits) reliable.in_order ∙ ap (λ octets. octets ++ waits) (sym (data_parts (length accepted) sent))
    ∙ order.sent in
    let known : take acked accepted ≡ take acked sent =
    ap (take acked) reliable.in_order ∙ take_less acked (length accepted) sent reliable.acked_is_accepted in
    let count = ap length (data_parts acked accepted) ∙ length-append (data_of (take acked accepted)) (data_of (drop acked accepted)) in
    let same : length (data_of (take acked accepted)) ≡ length (acked_data from.acknowledgement) = ap (λ pdus. length (data_of pdus)) known in
    let fewer : length (acked_data from.acknowledgement) ≤ length (data_of accepted) = omega (arith, count, same) in
    let whole = more_whole from.outgoing.given (length (acked_data from.acknowledgement)) (length (data_of accepted)) fewer in
    record {
      taken = taken_first (data_of accepted) left waits (octets_of from.outgoing.given) given;
      reported = omega (arith, order.counted, whole);
    }

pub past_delivered : (setup : Setup) (past : List Step) (other : Facts)
    → AreInAgreement (facts_of setup past).acknowledgement other.acknowledgement → IsDelivered (facts_of setup past) other
past_delivered setup past other agreed = delivered (facts_of setup past) other (past_in_order setup past) agreed

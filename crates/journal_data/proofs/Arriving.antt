-- What the lines of both sides say of one link, from what its ends hold.
use Rattle.std.proofs.Common.{◌≡◌, ℕ, zero, suc, ◌+◌, ◌≤◌, ◌==◌, ◌&&◌, ◌||◌, not, Bool, true, false, List, [], ◌∷◌, ◌++◌, cond, length, take, drop, refl, sym, ap, subst, ◌∙◌, arith}
use Rattle.std.specs.List.{flat_map}
use Rattle.std.proofs.Math.Seq.{take-append_seam}
use Rattle.std.proofs.Math.Bool.{and-false}
use Rattle.std.proofs.lemmas.Bool.{eqb-true}
use Rattle.std.proofs.lemmas.List.Concat.{flat_map-append}
use Rattle.std.proofs.lemmas.List.{length-append, length-drop, length-take, take-append-drop, take-append-le}
use Rattle.std.proofs.lemmas.List.Elements.{filter-append}
use Rattle.ack_bit.specs.Nonempty.{nonempty}
use Rattle.ack_bit.proofs.Nonempties.{reliable_nonempty}
use Rattle.acl_banks.specs.History.{HostData, octets_of, whole_packets}
use Rattle.acl_banks.specs.Packets.{Marked, marked_octets}
use Rattle.journal_acks.specs.link_model.Acknowledgement.{Acknowledgement, Pdu, end_of}
use Rattle.journal_acks.specs.link_model.Data.{data_in, data_of, is_empty}
use Rattle.journal_acks.specs.link_model.Delivery.{IsInOrder}
use Rattle.journal_acks.specs.link_model.Data.{acked_data}
use Rattle.journal_acks.specs.link_model.Facts.{Facts as EndFacts}
use Rattle.journal_acks.specs.link_model.OneLink.{AreInAgreement}
use Rattle.journal_acks.proofs.link_model.Taking.{delivered, more_whole, take_less}
use Rattle.journal_data.specs.Lines.{Lines, PduLine, accepted_on, credited_on, data_on, empties_on, pdus_on, received_on}
use Rattle.journal_data.specs.Delivered.{ArrivesInOrder}

-- ---- lines of PDUs

-- these PDUs as lines, with numbers from this one on
abbrev pub pdu_lines : ℕ → ℕ → List Pdu → List PduLine
pdu_lines link number [] = []
pdu_lines link number (pdu ∷ pdus) = record { link = link; number = number; pdu = pdu } ∷ pdu_lines link (number + 1) pdus

pub lines_length : (link number : ℕ) (pdus : List Pdu) → length (pdu_lines link number pdus) ≡ length pdus
lines_length link number [] = refl
lines_length link number (pdu ∷ pdus) = ap (λ n. suc n) (lines_length link (number + 1) pdus)

lines_take : (link number count : ℕ) (pdus : List Pdu) → pdu_lines link number (take count pdus) ≡ take count (pdu_lines link number pdus)
lines_take link number zero pdus = refl
lines_take link number (suc count) [] = refl
lines_take link number (suc count) (pdu ∷ pdus) =
    ap (λ rest. record { link = link; number = number; pdu = pdu } ∷ rest) (lines_take link (number + 1) count pdus)

pub lines_data : (link number : ℕ) (pdus : List Pdu) → flat_map (λ (one : PduLine). data_in one.pdu) (pdu_lines link number pdus) ≡ data_of pdus
lines_data link number [] = refl
lines_data link number (pdu ∷ pdus) = ap (λ rest. data_in pdu ++ rest) (lines_data link (number + 1) pdus)

-- an empty PDU has no data
pub no_data : (llid : ℕ) (reserved none : Bool) → (llid == 0) ≡ reserved → (reserved || none) ≡ true
    → (((llid == 1) || (llid == 2)) && not none) ≡ false
no_data llid true none reserved is = ap (λ n. ((n == 1) || (n == 2)) && not none) (eqb-true llid 0 reserved)
no_data llid false true free is = and-false ((llid == 1) || (llid == 2))
no_data llid false false free is = absurd (let h : false ≡ true = is in absurd cc)

kept_data : (empty : Bool) (pdu : Pdu) (rest more : List Pdu) → is_empty pdu ≡ empty → data_of rest ≡ data_of more
    → data_of (cond (not empty) (pdu ∷ rest) rest) ≡ data_in pdu ++ data_of more
kept_data true pdu rest more is same =
    same ∙ sym (ap (λ (b : Bool). cond b (marked_octets (pdu.llid == 2) pdu.body) [] ++ data_of more) (no_data pdu.llid (pdu.llid == 0) (length pdu.body == 0) refl is))
kept_data false pdu rest more is same = ap (λ octets. data_in pdu ++ octets) same

pub data_nonempty : (pdus : List Pdu) → data_of (nonempty is_empty pdus) ≡ data_of pdus
data_nonempty [] = refl
data_nonempty (pdu ∷ pdus) = kept_data (is_empty pdu) pdu (nonempty is_empty pdus) pdus refl (data_nonempty pdus)

-- ---- one end

-- the lines of its side say of its link what an end holds, with this data that it took and its host has not received
pub record IsEndBooked (link : ℕ) (lines : Lines) (facts : EndFacts) (waiting : List Marked) : Type 0 where
  pub sent : pdus_on link lines.sent ≡ pdu_lines link 1 (nonempty is_empty facts.acknowledgement.sent)
  pub taken : pdus_on link lines.taken ≡ pdu_lines link 1 (nonempty is_empty facts.acknowledgement.accepted)
  pub received : received_on link lines ++ waiting ≡ data_of facts.acknowledgement.accepted
  pub credited : credited_on link lines ≡ facts.outgoing.reported + empties_on link lines
  pub submitted : data_on link lines ≡ facts.outgoing.given

accepted_is : (link : ℕ) (lines : Lines) (facts : EndFacts) (waiting : List Marked) → IsEndBooked link lines facts waiting
    → accepted_on link lines ≡ data_of facts.acknowledgement.accepted
accepted_is link lines facts waiting booked =
    ap (flat_map (λ (one : PduLine). data_in one.pdu)) booked.taken
    ∙ lines_data link 1 (nonempty is_empty facts.acknowledgement.accepted) ∙ data_nonempty facts.acknowledgement.accepted

-- what was received is the first of what was accepted
first_received : (link : ℕ) (lines : Lines) (facts : EndFacts) (waiting : List Marked) → IsEndBooked link lines facts waiting
    → received_on link lines ≡ take (length (received_on link lines)) (accepted_on link lines)
first_received link lines facts waiting booked =
    sym (take-append_seam (received_on link lines) waiting)
    ∙ ap (take (length (received_on link lines))) (booked.received ∙ sym (accepted_is link lines facts waiting booked))

-- what is acknowledged to an end, the other one took
pub record IsAhead (link : ℕ) (ack : Acknowledgement) (to : Lines) : Type 0 where
  pub pdus : length (nonempty is_empty (take ack.acked ack.sent)) ≤ length (pdus_on link to.taken)
  pub octets : length (data_of (take ack.acked ack.sent)) ≤ length (accepted_on link to)

pub first_ahead : (link : ℕ) (ack : Acknowledgement) (to : Lines) → ack.acked ≡ 0 → IsAhead link ack to
first_ahead link ack to none =
    let nothing : take ack.acked ack.sent ≡ [] = ap (λ n. take n ack.sent) none in
    let no_pdus : length (nonempty is_empty (take ack.acked ack.sent)) ≡ 0 = ap (λ pdus. length (nonempty is_empty pdus)) nothing in
    let no_octets : length (data_of (take ack.acked ack.sent)) ≡ 0 = ap (λ pdus. length (data_of pdus)) nothing in
    record { pdus = omega (arith, no_pdus); octets = omega (arith, no_octets) }

-- ---- both ends are open

first_data : (count : ℕ) (pdus : List Pdu) → length (data_of (take count pdus)) ≤ length (data_of pdus)
first_data count pdus =
    let parts = ap (λ all. length (data_of all)) (sym (take-append-drop count pdus))
    ∙ ap length (flat_map-append data_in (take count pdus) (drop count pdus))
    ∙ length-append (data_of (take count pdus)) (data_of (drop count pdus)) in
    omega (arith, parts)

pub record Arrives (link : ℕ) (from to : Lines) (ack : Acknowledgement) : Type 0 where
  pub arrives : ArrivesInOrder link from to
  pub ahead : IsAhead link ack to

pub both_open : (link : ℕ) (from to : Lines) (one other : EndFacts) (waits wait : List Marked) → IsEndBooked link from one waits
    → IsEndBooked link to other wait → IsInOrder one → AreInAgreement one.acknowledgement other.acknowledgement
    → Arrives link from to one.acknowledgement
both_open link from to one other waits wait of_one of_other order agreed =
    let ack = one.acknowledgement in
    let accepted = other.acknowledgement.accepted in
    let reliable = reliable_nonempty is_empty (end_of ack) (end_of other.acknowledgement) agreed.from_a in
    let arrived = delivered one other order agreed in
    let took = accepted_is link to other wait of_other in
    let many : length (pdus_on link to.taken) ≡ length (nonempty is_empty accepted) = ap length of_other.taken ∙ lines_length link 1 (nonempty is_empty accepted) in
    let all : length (pdus_on link from.sent) ≡ length (nonempty is_empty ack.sent) = ap length of_one.sent ∙ lines_length link 1 (nonempty is_empty ack.sent) in
    let known : take ack.acked accepted ≡ take ack.acked ack.sent =
    ap (take ack.acked) agreed.from_a.reliable.in_order ∙ take_less ack.acked (length accepted) ack.sent agreed.from_a.reliable.acked_is_accepted in
    let fewer = first_data ack.acked accepted in
    let same : length (data_of (take ack.acked accepted)) ≡ length (data_of (take ack.acked ack.sent)) = ap (λ pdus. length (data_of pdus)) known in
    let octets : length (accepted_on link to) ≡ length (data_of accepted) = ap length took in
    let ahead = reliable.at_most_one_ahead in
    let behind = reliable.acked_is_accepted in
    let reported = arrived.reported in
    let credits = of_one.credited in
    let whole : whole_packets (data_on link from) (length (accepted_on link to)) ≡ whole_packets one.outgoing.given (length (data_of accepted)) =
    (λ i. whole_packets (of_one.submitted i) (octets i)) in
    record {
      arrives = record {
        reliable = record {
          in_order =
              of_other.taken ∙ ap (pdu_lines link 1) reliable.in_order ∙ lines_take link 1 (length (nonempty is_empty accepted)) (nonempty is_empty ack.sent)
              ∙ (λ i. take (sym many i) (sym of_one.sent i));
          at_most_one_ahead = omega (arith, many, all, ahead);
        };
        delivered = record {
          received = first_received link to other wait of_other;
          accepted = took ∙ arrived.taken ∙ (λ i. take (sym octets i) (octets_of (sym of_one.submitted i)));
          credited = omega (arith, credits, reported, whole);
        };
      };
      ahead = record {
        pdus = omega (arith, many, behind);
        octets = omega (arith, octets, fewer, same);
      };
    }

-- ---- one end alone

pub grown_take : {A : Type 0} (taken sent more : List A) → taken ≡ take (length taken) sent → taken ≡ take (length taken) (sent ++ more)
grown_take taken sent more is =
    let fits : length taken ≤ length sent = take_fits taken sent is in
    is ∙ sym (take-append-le (length taken) sent more fits)
  where
    take_fits : {A : Type 0} (taken sent : List A) → taken ≡ take (length taken) sent → length taken ≤ length sent
    take_fits taken sent is = let short = length-take (length taken) sent in let same = ap length is in omega (arith, short, same)

-- it sends, and its host submits and is credited; the other side adds nothing
pub record Grows {A : Type 0} (before after : List A) : Type 0 where
  pub more : List A
  pub is : after ≡ before ++ more

one_more_out : (ack : Acknowledgement) → length ack.sent ≤ ack.acked + 1
    → length (nonempty is_empty ack.sent) ≤ length (nonempty is_empty (take ack.acked ack.sent)) + 1
one_more_out ack out =
    let parts = ap (λ all. length (nonempty is_empty all)) (sym (take-append-drop ack.acked ack.sent))
    ∙ ap length (filter-append (λ (pdu : Pdu). not (is_empty pdu)) (take ack.acked ack.sent) (drop ack.acked ack.sent))
    ∙ length-append (nonempty is_empty (take ack.acked ack.sent)) (nonempty is_empty (drop ack.acked ack.sent)) in
    let few = filter-length-le (drop ack.acked ack.sent) in
    let left = length-drop ack.acked ack.sent in
    omega (arith, parts, few, left, out)
  where
    filter-length-le : (pdus : List Pdu) → length (nonempty is_empty pdus) ≤ length pdus
    filter-length-le [] = omega arith
    filter-length-le (pdu ∷ pdus) = by (not (is_empty pdu)) (filter-length-le pdus)
      where
        by : (kept : Bool) → length (nonempty is_empty pdus) ≤ length pdus → length (cond kept (pdu ∷ nonempty is_empty pdus) (nonempty is_empty pdus)) ≤ length (pdu ∷ pdus)
        by true less = omega (arith, less)
        by false less = omega (arith, less)

pub octets_grow : (before more : List HostData) → octets_of (before ++ more) ≡ octets_of before ++ octets_of more
octets_grow before more = flat_map-append (λ (packet : HostData). marked_octets packet.start packet.body) before more

pub from_alone : (link : ℕ) (from after to : Lines) (one : EndFacts) (waits : List Marked) → ArrivesInOrder link from to → IsEndBooked link after one waits
    → IsInOrder one → length one.acknowledgement.sent ≤ one.acknowledgement.acked + 1 → IsAhead link one.acknowledgement to
    → Grows (pdus_on link from.sent) (pdus_on link after.sent) → Grows (data_on link from) (data_on link after) → ArrivesInOrder link after to
from_alone link from after to one waits arrives booked order out ahead sends submits =
    let ack = one.acknowledgement in
    let accepted = length (accepted_on link to) in
    let all : length (pdus_on link after.sent) ≡ length (nonempty is_empty ack.sent) = ap length booked.sent ∙ lines_length link 1 (nonempty is_empty ack.sent) in
    let few = one_more_out ack out in
    let taken = ahead.pdus in
    let octets = ahead.octets in
    let credits = booked.credited in
    let counted = order.counted in
    let whole = more_whole one.outgoing.given (length (acked_data ack)) accepted octets in
    let same : whole_packets (data_on link after) accepted ≡ whole_packets one.outgoing.given accepted = ap (λ packets. whole_packets packets accepted) booked.submitted in
    record {
      reliable = record {
        in_order = grown_take (pdus_on link to.taken) (pdus_on link from.sent) sends.more arrives.reliable.in_order
            ∙ ap (take (length (pdus_on link to.taken))) (sym sends.is);
        at_most_one_ahead = omega (arith, all, few, taken);
      };
      delivered = record {
        received = arrives.delivered.received;
        accepted = grown_take (accepted_on link to) (octets_of (data_on link from)) (octets_of submits.more) arrives.delivered.accepted
            ∙ ap (take accepted) (sym (octets_grow (data_on link from) submits.more) ∙ ap octets_of (sym submits.is));
        credited = omega (arith, credits, counted, whole, same);
      };
    }

-- its host receives what it took before
pub to_alone : (link : ℕ) (from to after : Lines) (other : EndFacts) (wait : List Marked) → ArrivesInOrder link from to → IsEndBooked link after other wait
    → pdus_on link after.taken ≡ pdus_on link to.taken → ArrivesInOrder link from after
to_alone link from to after other wait arrives booked same =
    let took : accepted_on link after ≡ accepted_on link to = ap (flat_map (λ (one : PduLine). data_in one.pdu)) same in
    record {
      reliable = record {
        in_order = same ∙ arrives.reliable.in_order ∙ ap (λ n. take n (pdus_on link from.sent)) (sym (ap length same));
        at_most_one_ahead = subst (λ pdus. length (pdus_on link from.sent) ≤ length pdus + 1) (sym same) arrives.reliable.at_most_one_ahead;
      };
      delivered = record {
        received = first_received link after other wait booked;
        accepted = took ∙ arrives.delivered.accepted ∙ ap (λ n. take n (octets_of (data_on link from))) (sym (ap length took));
        credited = subst (λ octets. credited_on link from ≤ empties_on link from + whole_packets (data_on link from) (length octets)) (sym took) arrives.delivered.credited;
      };
    }

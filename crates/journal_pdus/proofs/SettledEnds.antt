-- What the host of a side received of a link, and what is credited to it, where nothing waits in the end that the side has.
use Rattle.std.proofs.Common.{◌≡◌, ℕ, ◌+◌, ◌-◌, ◌≤◌, ◌==◌, ◌&&◌, Bool, true, false, Option, Some, None, List, [], ◌∷◌, ◌++◌, cond, length, take, refl, sym, ap, subst, ◌∙◌, append-nil, arith}
use Rattle.std.specs.Prelude.{fold, if◌then◌else◌}
use Rattle.std.specs.List.{flat_map}
use Rattle.std.proofs.Math.Seq.{take-append_seam}
use Rattle.std.proofs.lemmas.Bool.{eqb-true, eqb-false}
use Rattle.std.proofs.lemmas.List.{length-append, length_push, take_all}
use Rattle.std.proofs.lemmas.List.Concat.{flat_map-append}
use Rattle.std.proofs.lemmas.List.Elements.{filter-append}
use Rattle.ble_base.specs.declared.roles.Side.{Side}
use Rattle.ack_bit.specs.Nonempty.{nonempty}
use Rattle.acl_banks.specs.History.{whole_packets}
use Rattle.acl_banks.specs.Packets.{Marked}
use Rattle.journal.specs.declared.entries.Entry.{Entry}
use Rattle.journal.specs.declared.entries.Entry.TheVariants.{Fed, Up, Opened, Shut, Sent, Took}
use Rattle.journal_moves.specs.journal_wants.journal_sending.journal_data.link_model.Acknowledgement.{Acknowledgement, Pdu, empty_pdu}
use Rattle.journal_moves.specs.journal_wants.journal_sending.journal_data.link_model.Data.{data_in, data_of, is_empty}
use Rattle.journal_moves.specs.journal_wants.journal_sending.journal_data.link_model.Data.{acked_data}
use Rattle.journal_moves.specs.journal_wants.journal_sending.journal_data.link_model.Facts.{Facts as EndFacts}
use Rattle.journal_moves.proofs.journal_wants.journal_sending.journal_data.link_model.Outgoing.{EndsIn}
use Rattle.journal_moves.proofs.journal_wants.journal_sending.journal_data.link_model.Sending.{IsTogether, in_order}
use Rattle.journal_moves.specs.journal_wants.journal_sending.journal_packets.Belonging.{is_side}
use Rattle.journal_moves.specs.journal_wants.journal_sending.journal_acks.Carried.{SentLine, sent_line_after, sent_line_from, sent_line_of}
use Rattle.journal_moves.specs.journal_wants.journal_sending.journal_acks.Exchange.{exchange_of}
use Rattle.journal_moves.proofs.journal_wants.journal_sending.journal_acks.KeptLines.{IsLined}
use Rattle.journal_moves.specs.journal_wants.journal_sending.journal_data.Lines.{Lines, PduLine, accepted_on, data_on, line_after, lines_after, lines_of, no_lines, pdus_on, received_on}
use Rattle.journal_moves.proofs.journal_wants.journal_sending.journal_data.Arriving.{IsEndBooked, data_nonempty, lines_data, pdu_lines}
use Rattle.journal_pdus.specs.Settled.{IsCredited, acked_on, count_out}
use Rattle.journal_moves.specs.journal_wants.journal_sending.Outgoing.{data_of_lines}

-- ---- the last line of a new PDU

-- the last of these lines is of this PDU
record IsLastLine (lines : List PduLine) (pdu : Pdu) : Type 0 where
  front : List PduLine
  last : PduLine
  lines_are : lines ≡ front ++ last ∷ []
  pdu_is : last.pdu ≡ pdu

abbrev EndsInLine : List PduLine → Option SentLine → Type 0
EndsInLine lines None = Unit {0}
EndsInLine lines (Some line) = IsLastLine lines line.pdu

-- an entry that is of no new PDU
same_end : (number : ℕ) (lines after : Lines) (line : Option SentLine) (own : Bool) → after.sent ≡ lines.sent → EndsInLine (pdus_on number lines.sent) line
    → EndsInLine (pdus_on number (if own then after else lines).sent) line
same_end number lines after line true same ends = subst (λ sent. EndsInLine (pdus_on number sent) line) (sym same) ends
same_end number lines after line false same ends = ends

line_more : (number : ℕ) (lines : List PduLine) (one : PduLine) (kept : Bool) → (one.link == number) ≡ kept
    → pdus_on number (lines ++ one ∷ []) ≡ pdus_on number lines ++ cond kept (one ∷ []) []
line_more number lines one kept is =
    filter-append (λ (line : PduLine). line.link == number) lines (one ∷ [])
    ∙ ap (λ (b : Bool). pdus_on number lines ++ cond b (one ∷ []) []) is

-- one of a new PDU
sent_end : (number link count acked : ℕ) (pdu : Pdu) (lines : Lines) (line : Option SentLine) (own kept : Bool) → (link == number) ≡ kept
    → EndsInLine (pdus_on number lines.sent) line
    → EndsInLine
    (pdus_on number (if own then record lines { sent = lines.sent ++ record { link = link; number = count; pdu = pdu } ∷ [] } else lines).sent)
    (if own && kept then Some (record { pdu = pdu; acked = acked }) else line)
sent_end number link count acked pdu lines line true true is ends =
    let one : PduLine = record { link = link; number = count; pdu = pdu } in record {
      front = pdus_on number lines.sent;
      last = one;
      lines_are = line_more number lines.sent one true is;
      pdu_is = refl;
    }
sent_end number link count acked pdu lines line true false is ends =
    let one : PduLine = record { link = link; number = count; pdu = pdu } in
    subst (λ some. EndsInLine some line) (sym (line_more number lines.sent one false is ∙ append-nil (pdus_on number lines.sent))) ends
sent_end number link count acked pdu lines line false kept is ends = ends

entry_ends : (number : ℕ) (front : List Entry) (side : Side) (lines : Lines) (line : Option SentLine) (entry : Entry)
    → EndsInLine (pdus_on number lines.sent) line
    → EndsInLine (pdus_on number (lines_after 8 side lines entry).sent) (sent_line_after number front side line entry)
entry_ends number front side lines line (Fed other octets) ends = same_end number lines (line_after 8 lines (Fed other octets)) line (is_side other side) refl ends
entry_ends number front side lines line (Up other octets) ends = same_end number lines (line_after 8 lines (Up other octets)) line (is_side other side) refl ends
entry_ends number front side lines line (Opened other link handle role) ends =
    same_end number lines (line_after 8 lines (Opened other link handle role)) line (is_side other side) refl ends
entry_ends number front side lines line (Shut other link reason) ends =
    same_end number lines (line_after 8 lines (Shut other link reason)) line (is_side other side) refl ends
entry_ends number front side lines line (Took other link count llid body) ends =
    same_end number lines (line_after 8 lines (Took other link count llid body)) line (is_side other side) refl ends
entry_ends number front side lines line (Sent other link count llid body) ends =
    sent_end number link count (exchange_of number front side).acked (record { llid = llid; body = body }) lines line (is_side other side) (link == number) refl ends
entry_ends number front side lines line entry ends = ends

ends_from : (number : ℕ) (front : List Entry) (side : Side) (lines : Lines) (line : Option SentLine) (entries : List Entry)
    → EndsInLine (pdus_on number lines.sent) line
    → EndsInLine (pdus_on number (fold (lines_after 8 side) lines entries).sent) (sent_line_from number front side line entries)
ends_from number front side lines line [] ends = ends
ends_from number front side lines line (entry ∷ entries) ends =
    ends_from number (front ++ entry ∷ []) side (lines_after 8 side lines entry) (sent_line_after number front side line entry) entries
    (entry_ends number front side lines line entry ends)

-- the last line of a new PDU on a link is the last of the lines of its PDUs
ends_in_line : (number : ℕ) (journal : List Entry) (side : Side)
    → EndsInLine (pdus_on number (lines_of 8 side journal).sent) (sent_line_of number journal side)
unfolding lines_of sent_line_of
ends_in_line number journal side = ends_from number [] side no_lines None journal tt

-- ---- the data that is acknowledged

-- all but the last have all octets but its
cut_last : {A : Type 0} (of : A → List Marked) (all front : List A) (last : A) (count : ℕ) → all ≡ front ++ last ∷ [] → count + 1 ≡ length all
    → length (flat_map of all) ≡ length (flat_map of (take count all)) + length (of last)
cut_last of all front last count are less =
    let many = ap length are in
    let more = length_push front last in
    let few : count ≡ length front = omega (arith, less, many, more) in
    let first : take count all ≡ front = (λ i. take (few i) (are i)) ∙ take-append_seam front (last ∷ []) in
    let parts = ap length (ap (flat_map of) are ∙ flat_map-append of front (last ∷ []) ∙ ap (λ octets. flat_map of front ++ octets) (append-nil (of last)))
    ∙ length-append (flat_map of front) (of last) in
    parts ∙ ap (λ some. length (flat_map of some) + length (of last)) (sym first)

module _ (ack : Acknowledgement) (last_sent : EndsIn ack.sent ack.last) (sent_only : ack.acked ≤ length ack.sent) (one_at_a_time : length ack.sent ≤ ack.acked + 1) where
  cut_out : ack.acked + 1 ≡ length ack.sent → length (data_of ack.sent) ≡ length (acked_data ack) + length (data_in ack.last)
  cut_out out = cut_last data_in ack.sent last_sent.front ack.last ack.acked last_sent.sent_are out

  -- where a PDU that is not acknowledged is empty
  none_out : (ack.acked + 1 ≡ length ack.sent → ack.last ≡ empty_pdu) → length (data_of ack.sent) ≡ length (acked_data ack)
  none_out empty = by (ack.acked == length ack.sent) refl
    where
      by : (all : Bool) → (ack.acked == length ack.sent) ≡ all → length (data_of ack.sent) ≡ length (acked_data ack)
      by true all =
          let same = eqb-true ack.acked (length ack.sent) all in
          ap (λ pdus. length (data_of pdus)) (sym (take_all ack.acked ack.sent (omega (arith, same))))
      by false part =
          let differs = eqb-false ack.acked (length ack.sent) part in
          let out : ack.acked + 1 ≡ length ack.sent = omega (arith, sent_only, one_at_a_time, differs) in
          let cut = cut_out out in
          let none : length (data_in ack.last) ≡ 0 = ap (λ pdu. length (data_in pdu)) (empty out) in
          omega (arith, cut, none)

  module _ (lines : List PduLine) (same : length (data_of_lines lines) ≡ length (data_of ack.sent)) where
    whole_lines : (ack.acked + 1 ≡ length ack.sent → ack.last ≡ empty_pdu) → length (data_of_lines (take (length lines - 0) lines)) ≡ length (acked_data ack)
    whole_lines empty = ap (λ some. length (data_of_lines some)) (take_all (length lines - 0) lines (omega arith)) ∙ same ∙ none_out empty

    acked_lines : (line : Option SentLine) → EndsInLine lines line → IsLined line ack
        → length (data_of_lines (take (length lines - count_out line ack.acked) lines)) ≡ length (acked_data ack)
    acked_lines None ends lined = whole_lines (λ out. lined.last ack.acked out)
    acked_lines (Some line) ends lined = by (line.acked == ack.acked) refl
      where
        by : (out : Bool) → (line.acked == ack.acked) ≡ out → length (data_of_lines (take (length lines - (if out then 1 else 0)) lines)) ≡ length (acked_data ack)
        by false is = whole_lines (λ out. lined.last ack.acked out ∙ ap (λ b. if b then line.pdu else empty_pdu) is)
        by true is =
            let low = lined.earlier line refl in
            let equal = eqb-true line.acked ack.acked is in
            let out : ack.acked + 1 ≡ length ack.sent = omega (arith, low, equal, one_at_a_time) in
            let carried : ack.last ≡ line.pdu = lined.last ack.acked out ∙ ap (λ b. if b then line.pdu else empty_pdu) is in
            let many = ap length ends.lines_are in
            let more = length_push ends.front ends.last in
            let cut = cut_out out in
            let cut_too = cut_last (λ (one : PduLine). data_in one.pdu) lines ends.front ends.last (length lines - 1) ends.lines_are (omega (arith, many, more)) in
            let of_last : length (data_in ends.last.pdu) ≡ length (data_in ack.last) = ap (λ pdu. length (data_in pdu)) (ends.pdu_is ∙ sym carried) in
            omega (arith, same, cut, cut_too, of_last)

-- ---- one end

data_booked : (link : ℕ) (pdus : List Pdu) → data_of_lines (pdu_lines link 1 (nonempty is_empty pdus)) ≡ data_of pdus
data_booked link pdus = lines_data link 1 (nonempty is_empty pdus) ∙ data_nonempty pdus

-- nothing waits for its host
pub received_end : (link : ℕ) (side : Side) (front : List Entry) (facts : EndFacts) (waiting : List Marked) → IsEndBooked link (lines_of 8 side front) facts waiting
    → waiting ≡ [] → received_on link (lines_of 8 side front) ≡ accepted_on link (lines_of 8 side front)
received_end link side front facts waiting booked nothing =
    let lines = lines_of 8 side front in
    sym (append-nil (received_on link lines)) ∙ ap (λ octets. received_on link lines ++ octets) (sym nothing) ∙ booked.received
    ∙ sym (ap data_of_lines booked.taken ∙ data_booked link facts.acknowledgement.accepted)

-- all its complete packets are reported
pub credited_end : (link : ℕ) (side : Side) (front : List Entry) (facts : EndFacts) (waiting : List Marked) → IsEndBooked link (lines_of 8 side front) facts waiting
    → IsTogether facts.acknowledgement facts.outgoing → facts.outgoing.complete ≡ 0 → IsLined (sent_line_of link front side) facts.acknowledgement
    → (exchange_of link front side).acked ≡ facts.acknowledgement.acked → IsCredited link side front
credited_end link side front facts waiting booked holds none lined count =
    let lines = lines_of 8 side front in
    let ack = facts.acknowledgement in
    let pdus = pdus_on link lines.sent in
    let line = sent_line_of link front side in
    let same : length (data_of_lines pdus) ≡ length (data_of ack.sent) = ap length (ap data_of_lines booked.sent ∙ data_booked link ack.sent) in
    let acked : length (acked_on link side front) ≡ length (acked_data ack) =
    ap (λ n. length (data_of_lines (take (length pdus - count_out line n) pdus))) count
    ∙ acked_lines ack holds.counts.last_sent holds.counts.sent_only holds.counts.one_at_a_time pdus same line (ends_in_line link front side) lined in
    let credits = booked.credited in
    let counted = (in_order facts holds).counted in
    let whole : whole_packets (data_on link lines) (length (acked_on link side front)) ≡ whole_packets facts.outgoing.given (length (acked_data ack)) =
    (λ i. whole_packets (booked.submitted i) (acked i)) in
    omega (arith, credits, counted, none, whole)

-- MD of each packet says what waits after the PDU that the packet carries.
use Rattle.std.proofs.Common.{◌≡◌, ℕ, ◌+◌, ◌-◌, ◌==◌, ◌&&◌, ◌||◌, nat_lt, not, Bool, true, false, Option, Some, None, List, [], ◌∷◌, ◌++◌, fold, length, take, refl, sym, ap, ◌∙◌, append-nil, append_assoc, arith, length-append}
use Rattle.std.specs.Prelude.{if◌then◌else◌}
use Rattle.std.proofs.lemmas.Bool.{eq-eqb, or_parts}
use Rattle.std.proofs.lemmas.Bool.Decides.{nat_tests}
use Rattle.std.proofs.lemmas.Grind.{flat_map-append}
use Rattle.std.proofs.lemmas.List.Elements.{filter-append}
use Rattle.std.proofs.lemmas.List.Sums.{fold-append}
use Rattle.acl_banks.specs.History.{octets_of}
use Rattle.acl_banks.specs.Packets.{marked_octets}
use Rattle.acl_banks.specs.declared.pieces.Piece.{Piece}
use Rattle.acl_banks.proofs.Octets.{length-marked_octets}
use Rattle.ble_base.specs.declared.roles.Side.{Side}
use Rattle.ble_base.specs.declared.roles.Side.TheVariants.{A, B}
use Rattle.ble_base.specs.declared.verdicts.Verdict.{Verdict}
use Rattle.data_pdu.specs.declared.ctrl.Ctrl.{Ctrl}
use Rattle.journal.specs.declared.entries.Entry.{Entry}
use Rattle.journal.specs.declared.entries.Entry.TheVariants.{Air, Fed, Opened, Sent, Shut, Took, Up}
use Rattle.journal.specs.declared.entries.Mark.{Mark}
use Rattle.journal_events.specs.journal_sending.Announced.{AllGoOutAtOnce, announced_pdu, is_line_of, last_number_sent, new_pdu_of, pdu_line_if}
use Rattle.journal_events.specs.journal_sending.NextPdus.{AllNewPdusAreNext}
use Rattle.journal_events.specs.journal_sending.Outgoing.{data_of_lines, octets_wait, piece_by_lines}
use Rattle.journal_events.specs.journal_sending.Resting.{AllAreAtRest}
use Rattle.journal_events.specs.journal_sending.WhatWaits.{AllTellWhatWaits, has_payload_next, is_next_new, tells_more}
use Rattle.journal_events.specs.journal_sending.journal_acks.Carried.{carried_of}
use Rattle.journal_events.specs.journal_sending.journal_packets.Belonging.{is_side, link_of_packet}
use Rattle.journal_events.specs.journal_sending.journal_data.Delivered.{host_buffers}
use Rattle.journal_events.specs.journal_sending.journal_data.Lines.{Lines, PduLine, data_on, is_of_side, line_after, lines_after, lines_of, no_lines, pdus_on}
use Rattle.journal_events.specs.journal_sending.journal_fixing.NextPdu.{is_last_of_all, lets_data_go, more_with_new, more_with_old, pdu_next, piece_limit}
use Rattle.journal_events.specs.journal_sending.journal_fixing.OnLines.{control_fixing, is_fixed}
use Rattle.journal_events.specs.journal_sending.journal_fixing.journal_controls.KeyedLines.{has_next}
use Rattle.journal_events.specs.journal_sending.journal_fixing.journal_controls.journal_ends.Asked.{Words}
use Rattle.journal_events.specs.journal_sending.journal_fixing.link_model.Acknowledgement.{Pdu, empty_pdu}
use Rattle.journal_events.specs.journal_sending.journal_fixing.link_model.Controls.{pdu_of_control}
use Rattle.journal_events.specs.journal_sending.journal_fixing.link_model.Data.{data_in, is_control, is_data, is_empty, pdu_with}
use Rattle.journal_events.specs.journal_sending.journal_fixing.link_model.control_end.Answers.{next_ctrl}
use Rattle.journal_events.specs.journal_sending.journal_fixing.link_model.control_end.Held.{held_of}
use Rattle.journal_events.specs.journal_sending.journal_fixing.link_model.keyed_control.Keyed.{Keyed}
use Rattle.journal_events.specs.journal_sending.journal_fixing.link_model.phased_control.Phased.{is_quiet_now}
use Rattle.journal_events.specs.journal_sending.journal_fixing.link_model.procedure_stages.Queue.{waiting_in}
use Rattle.journal_events.specs.journal_sending.run_model.Links.{is_advertising}
use Rattle.journal_rules.specs.Waiting.{AllTellInWords, NewControl, NewData, NewEmpty, Waited, carries, md_due, md_with, octets_left, pdus_before, waited_by, waits_after}
use Rattle.journal_rules.proofs.LastSaid.{IsSaidLast, NoneOfSide, fixed_stays, fixing_since, line_of_pdu, none_begins, said_last, told_then}

-- ---- counts

some_left : (sent given : ℕ) → nat_lt sent given ≡ nat_lt 0 (given - sent)
some_left sent given = by (nat_lt sent given) refl
  where
    by : (less : Bool) → nat_lt sent given ≡ less → less ≡ nat_lt 0 (given - sent)
    by true is = sym (let h : nat_lt 0 (given - sent) ≡ true = grind (arith, nat_tests) in h)
    by false is = sym (let h : nat_lt 0 (given - sent) ≡ false = grind (arith, nat_tests) in h)

more_left : (sent size given : ℕ) → nat_lt (sent + size) given ≡ nat_lt size (given - sent)
more_left sent size given = by (nat_lt (sent + size) given) refl
  where
    by : (less : Bool) → nat_lt (sent + size) given ≡ less → less ≡ nat_lt size (given - sent)
    by true is = sym (let h : nat_lt size (given - sent) ≡ true = grind (arith, nat_tests) in h)
    by false is = sym (let h : nat_lt size (given - sent) ≡ false = grind (arith, nat_tests) in h)

-- ---- what a new PDU is, by what is next

-- one that is not empty is a control PDU where one waited, and else data that may go
pub record IsNewOf (fixing : Keyed) (pdu : Pdu) : Type 0 where
  pub control : is_control pdu ≡ has_next fixing
  pub data_is : is_data pdu ≡ not (has_next fixing)
  pub goes : has_next fixing ≡ false → lets_data_go fixing ≡ true

full_data : (piece : Option Piece) → is_empty (pdu_with piece) ≡ false → (is_control (pdu_with piece) ≡ false) × (is_data (pdu_with piece) ≡ true)
full_data None full = absurd cc
full_data (Some piece) full = by piece.start full
  where
    by : (start : Bool) → is_empty (pdu_with (Some (record piece { start = start }))) ≡ false
        → (is_control (pdu_with (Some (record piece { start = start }))) ≡ false) × (is_data (pdu_with (Some (record piece { start = start }))) ≡ true)
    by true full = (refl, ap not full)
    by false full = (refl, ap not full)

full_control : (ctrl : Option Ctrl) → is_empty (pdu_of_control ctrl) ≡ false → (is_control (pdu_of_control ctrl) ≡ true) × (is_data (pdu_of_control ctrl) ≡ false)
full_control None full = absurd cc
full_control (Some ctrl) full = (refl, refl)

new_of : (fixing : Keyed) (has lets : Bool) (ctrl : Option Ctrl) (piece : Option Piece) (pdu : Pdu) → has_next fixing ≡ has → lets_data_go fixing ≡ lets
    → pdu ≡ (if has then pdu_of_control ctrl else if lets then pdu_with piece else empty_pdu) → is_empty pdu ≡ false → IsNewOf fixing pdu
new_of fixing true lets ctrl piece pdu has_is lets_is is full =
    let parts = full_control ctrl (ap is_empty (sym is) ∙ full) in record {
      control = ap is_control is ∙ parts.0 ∙ sym has_is;
      data_is = ap is_data is ∙ parts.1 ∙ sym (ap not has_is);
      goes = λ none. absurd (let h : true ≡ false = sym has_is ∙ none in cc);
    }
new_of fixing false true ctrl piece pdu has_is lets_is is full =
    let parts = full_data piece (ap is_empty (sym is) ∙ full) in record {
      control = ap is_control is ∙ parts.0 ∙ sym has_is;
      data_is = ap is_data is ∙ parts.1 ∙ sym (ap not has_is);
      goes = λ none. lets_is;
    }
new_of fixing false false ctrl piece pdu has_is lets_is is full = absurd (let h : true ≡ false = ap is_empty (sym is) ∙ full in cc)

-- ---- MD, over plain variables

-- a PDU that is sent again
old_md : (fixing : Keyed) (pdu : Pdu) (number : ℕ) (lines : Lines) → more_with_old fixing pdu (octets_wait number lines) ≡ md_with false pdu fixing lines number
old_md fixing pdu number lines =
    ap (more_with_old fixing pdu) (some_left (length (data_of_lines (pdus_on number lines.sent))) (length (octets_of (data_on number lines))))
    ∙ by (is_last_of_all fixing pdu)
  where
    by : (last : Bool)
        → (if last
        then nat_lt 0 (waiting_in fixing.phased.control.table.queue) || (is_quiet_now fixing.phased && nat_lt 0 (octets_left number false lines))
        else has_next fixing || (lets_data_go fixing && nat_lt 0 (octets_left number false lines)))
        ≡ waits_after (carries false last pdu) (length pdu.body) (waited_by fixing (octets_left number false lines))
    by true = refl
    by false = refl

new_empty : (empty control : Bool) (size : ℕ) (waited : Waited) → empty ≡ true
    → waits_after (if empty then NewEmpty else if control then NewControl else NewData) size waited ≡ false
new_empty true control size waited is = refl
new_empty false control size waited is = absurd cc

new_full : (empty control : Bool) (size : ℕ) (waited : Waited) → empty ≡ false
    → waits_after (if empty then NewEmpty else if control then NewControl else NewData) size waited
    ≡ waits_after (if control then NewControl else NewData) size waited
new_full false control size waited is = refl
new_full true control size waited is = absurd cc

-- a new empty PDU
empty_md : (fixing : Keyed) (pdu : Pdu) (number : ℕ) (lines : Lines) (waits : Bool) → is_empty pdu ≡ true → has_payload_next fixing waits ≡ false
    → more_with_new fixing waits ≡ md_with true pdu fixing lines number
empty_md fixing pdu number lines waits empty none =
    let parts = or_parts (has_next fixing) (lets_data_go fixing && waits) none in
    ap (λ has. if has then nat_lt 1 (waiting_in fixing.phased.control.table.queue) || (is_quiet_now fixing.phased && waits) else lets_data_go fixing && waits) parts.0
    ∙ parts.1
    ∙ sym (new_empty (is_empty pdu) (is_control pdu) (length pdu.body) (waited_by fixing (octets_left number (not (is_empty pdu)) lines)) empty)

-- the lines of the PDUs that a side sent end with that of this one
pub record EndsWith (number : ℕ) (lines : Lines) (pdu : Pdu) : Type 0 where
  pub earlier : List PduLine
  pub own : PduLine
  pub own_is : own.pdu ≡ pdu
  pub is : pdus_on number lines.sent ≡ earlier ++ own ∷ []

take_front : (xs ys : List PduLine) → take (length xs) (xs ++ ys) ≡ xs
take_front [] ys = refl
take_front (x ∷ xs) ys = ap (λ more. x ∷ more) (take_front xs ys)

one_less : (n : ℕ) → n + 1 - 1 ≡ n
one_less n = omega arith

but_last : (xs : List PduLine) (x : PduLine) → pdus_before true (xs ++ x ∷ []) ≡ xs
but_last xs x =
    ap (λ n. take n (xs ++ x ∷ [])) (ap (λ n. n - 1) (length-append xs (x ∷ [])) ∙ one_less (length xs)) ∙ take_front xs (x ∷ [])

octets_more : (xs : List PduLine) (x : PduLine) → length (data_of_lines (xs ++ x ∷ [])) ≡ length (data_of_lines xs) + length (data_in x.pdu)
octets_more xs x =
    ap length (flat_map-append (λ (one : PduLine). data_in one.pdu) xs (x ∷ []) ∙ ap (λ ys. data_of_lines xs ++ ys) (append-nil (data_in x.pdu)))
    ∙ length-append (data_of_lines xs) (data_in x.pdu)

-- octets wait where there were more before than this PDU has
waits_beyond : (number : ℕ) (lines : Lines) (pdu : Pdu) → EndsWith number lines pdu
    → octets_wait number lines ≡ nat_lt (length (data_in pdu)) (octets_left number true lines)
waits_beyond number lines pdu ends =
    let given = length (octets_of (data_on number lines)) in
    ap (λ all. nat_lt (length (data_of_lines all)) given) ends.is
    ∙ ap (λ n. nat_lt n given) (octets_more ends.earlier ends.own ∙ ap (λ (p : Pdu). length (data_of_lines ends.earlier) + length (data_in p)) ends.own_is)
    ∙ more_left (length (data_of_lines ends.earlier)) (length (data_in pdu)) given
    ∙ ap (λ all. nat_lt (length (data_in pdu)) (given - length (data_of_lines all))) (sym (ap (pdus_before true) ends.is ∙ but_last ends.earlier ends.own))

-- a new PDU that is not empty
full_md : (fixing : Keyed) (pdu : Pdu) (number : ℕ) (lines : Lines) → is_empty pdu ≡ false → IsNewOf fixing pdu → EndsWith number lines pdu
    → more_with_new fixing (octets_wait number lines) ≡ md_with true pdu fixing lines number
full_md fixing pdu number lines full new ends =
    by (has_next fixing) refl
    ∙ ap (λ (is_first : Bool). waits_after (if is_control pdu then NewControl else NewData) (length pdu.body) (waited_by fixing (octets_left number is_first lines))) (sym (ap not full))
    ∙ sym (new_full (is_empty pdu) (is_control pdu) (length pdu.body) (waited_by fixing (octets_left number (not (is_empty pdu)) lines)) full)
  where
    size_is : (data_pdu : Bool) → is_data pdu ≡ data_pdu → length (data_in pdu) ≡ (if data_pdu then length pdu.body else 0)
    size_is true is = ap (λ (b : Bool). length (if b then marked_octets (pdu.llid == 2) pdu.body else [])) is ∙ length-marked_octets (pdu.llid == 2) pdu.body
    size_is false is = ap (λ (b : Bool). length (if b then marked_octets (pdu.llid == 2) pdu.body else [])) is

    by : (has : Bool) → has_next fixing ≡ has → more_with_new fixing (octets_wait number lines)
        ≡ waits_after (if is_control pdu then NewControl else NewData) (length pdu.body) (waited_by fixing (octets_left number true lines))
    by true has =
        ap (λ (b : Bool). if b then nat_lt 1 (waiting_in fixing.phased.control.table.queue) || (is_quiet_now fixing.phased && octets_wait number lines) else lets_data_go fixing && octets_wait number lines) has
        ∙ ap (λ w. nat_lt 1 (waiting_in fixing.phased.control.table.queue) || (is_quiet_now fixing.phased && w))
        (waits_beyond number lines pdu ends ∙ ap (λ n. nat_lt n (octets_left number true lines)) (size_is false (new.data_is ∙ ap not has)))
        ∙ ap (λ (c : Bool). waits_after (if c then NewControl else NewData) (length pdu.body) (waited_by fixing (octets_left number true lines))) (sym (new.control ∙ has))
    by false has =
        ap (λ (b : Bool). if b then nat_lt 1 (waiting_in fixing.phased.control.table.queue) || (is_quiet_now fixing.phased && octets_wait number lines) else lets_data_go fixing && octets_wait number lines) has
        ∙ ap (λ (b : Bool). b && octets_wait number lines) (new.goes has)
        ∙ waits_beyond number lines pdu ends ∙ ap (λ n. nat_lt n (octets_left number true lines)) (size_is true (new.data_is ∙ ap not has))
        ∙ ap (λ (c : Bool). waits_after (if c then NewControl else NewData) (length pdu.body) (waited_by fixing (octets_left number true lines))) (sym (new.control ∙ has))

-- ---- the lines of a side end with the PDU of its last line

same_lines : (side : Side) (before : Lines) (lines : List Entry) → NoneOfSide side lines → fold (lines_after host_buffers side) before lines ≡ before
same_lines side before [] none = refl
same_lines side before (line ∷ lines) none =
    ap (λ (told : Lines). fold (lines_after host_buffers side) told lines)
    (ap (λ own. if own then line_after host_buffers before line else before) (not_of line none.0)) ∙ same_lines side before lines none.1
  where
    not_of : (line : Entry) → is_line_of side line ≡ false → is_of_side side line ≡ false
    not_of (Fed other octets) is = is
    not_of (Up other octets) is = is
    not_of (Opened other link handle role) is = is
    not_of (Shut other link reason) is = is
    not_of (Sent other link number llid body) is = is
    not_of (Took other link number llid body) is = is
    not_of line is = refl

sent_then : (side : Side) (told : Lines) (one : PduLine) → (lines_after host_buffers side told (line_of_pdu side one)).sent ≡ told.sent ++ one ∷ []
sent_then A told one = refl
sent_then B told one = refl

ends_with : (side : Side) (number : ℕ) (front : List Entry) (one : PduLine) → one.link ≡ number → IsSaidLast side front one
    → EndsWith number (lines_of host_buffers side front) one.pdu
unfolding lines_of
ends_with side number front one link_is said = record {
  earlier = pdus_on number told.sent;
  own = one;
  own_is = refl;
  is = ap (λ (lines : Lines). pdus_on number lines.sent)
      (ap (fold (lines_after host_buffers side) no_lines) said.is
      ∙ fold-append (lines_after host_buffers side) no_lines said.before (line_of_pdu side one ∷ said.after)
      ∙ same_lines side (lines_after host_buffers side told (line_of_pdu side one)) said.after said.none)
      ∙ ap (pdus_on number) (sent_then side told one)
      ∙ filter-append (λ (pdu : PduLine). pdu.link == number) told.sent (one ∷ [])
      ∙ ap (λ (own : Bool). pdus_on number told.sent ++ (if own then one ∷ [] else [])) (eq-eqb one.link number link_is);
}
  where
    told : Lines
    told = fold (lines_after host_buffers side) no_lines said.before

-- ---- in a journal

module _ (words : Words) (journal : List Entry) (next : AllNewPdusAreNext words journal) (goes : AllGoOutAtOnce journal) (rests : AllAreAtRest words journal)
    (front rest : List Entry) (side : Side) (channel : ℕ) (octets : List ℕ) (fate : Mark) (verdict : Verdict)
    (at : journal ≡ front ++ Air side channel octets fate verdict ∷ rest) (on_data : is_advertising channel ≡ false)
    (number : ℕ) (belongs : link_of_packet front side octets ≡ Some number) (fixing : Keyed) (fixing_is : control_fixing words side number front ≡ Some fixing) where
  abbrev pdu : Pdu
  pdu = carried_of number front side

  abbrev own : PduLine
  own = record { link = number; number = last_number_sent number front side; pdu = pdu }

  told : is_next_new number front side ≡ true → is_empty pdu ≡ false → announced_pdu side front ≡ Some own
  told new full =
      goes front rest (Air side channel octets fate verdict) side at refl
      ∙ ap (λ (b : Bool). if b then None else new_pdu_of (link_of_packet front side octets) front side) on_data
      ∙ ap (λ (found : Option ℕ). new_pdu_of found front side) belongs
      ∙ ap (λ (first : Bool). pdu_line_if first number (last_number_sent number front side) pdu) (ap (λ (b : Bool). b && not (is_empty pdu)) new ∙ ap not full)

  new_is : IsSaidLast side front own → is_empty pdu ≡ false → IsNewOf fixing pdu
  new_is said full =
      let line = line_of_pdu side own in
      let whole : journal ≡ said.before ++ line ∷ (said.after ++ Air side channel octets fate verdict ∷ rest) =
      at ∙ ap (λ xs. xs ++ Air side channel octets fate verdict ∷ rest) said.is ∙ append_assoc said.before (line ∷ said.after) (Air side channel octets fate verdict ∷ rest) in
      let is = next said.before (said.after ++ Air side channel octets fate verdict ∷ rest) side number own.number pdu.llid pdu.body whole in
      let none = none_begins words journal rests side own (said.before ++ line ∷ []) said.after (Air side channel octets fate verdict ∷ rest)
      (whole ∙ sym (append_assoc said.before (line ∷ []) (said.after ++ Air side channel octets fate verdict ∷ rest))) (told_then words journal rests side own said.before) said.none in
      let same : Some fixing ≡ Some is.fixing =
      sym fixing_is ∙ ap (control_fixing words side number) said.is ∙ fixing_since words side number said.before said.after own.number pdu.llid pdu.body none ∙ is.fixing_is in
      let fixing_same : is.fixing ≡ fixing = cc in
      let piece = piece_by_lines side number said.before (piece_limit is.fixing) in
      new_of fixing (has_next fixing) (lets_data_go fixing) (next_ctrl (is_quiet_now is.going.phased) (held_of is.going.phased.control)) piece pdu refl refl
      (is.next ∙ ap (λ (k : Keyed). pdu_next k is.going piece) fixing_same) full

  by_full : (empty : Bool) → is_empty pdu ≡ empty → is_next_new number front side ≡ true
      → (is_empty pdu ≡ true → has_payload_next fixing (octets_wait number (lines_of host_buffers side front)) ≡ false)
      → more_with_new fixing (octets_wait number (lines_of host_buffers side front)) ≡ md_with true pdu fixing (lines_of host_buffers side front) number
  by_full true empty new last = empty_md fixing pdu number (lines_of host_buffers side front) (octets_wait number (lines_of host_buffers side front)) empty (last empty)
  by_full false full new last =
      let said = said_last side own front (told new full) in
      full_md fixing pdu number (lines_of host_buffers side front) full (new_is said full) (ends_with side number front own refl said)

  pub md_is : (new : Bool) → is_next_new number front side ≡ new
      → (is_next_new number front side ≡ true → is_empty pdu ≡ true → has_payload_next fixing (octets_wait number (lines_of host_buffers side front)) ≡ false)
      → tells_more (is_next_new number front side) fixing pdu (octets_wait number (lines_of host_buffers side front)) ≡ md_due number front side fixing
  md_is true new last =
      ap (λ (b : Bool). tells_more b fixing pdu (octets_wait number (lines_of host_buffers side front))) new
      ∙ by_full (is_empty pdu) refl new (last new)
      ∙ ap (λ (b : Bool). md_with b pdu fixing (lines_of host_buffers side front) number) (sym new)
  md_is false old last =
      ap (λ (b : Bool). tells_more b fixing pdu (octets_wait number (lines_of host_buffers side front))) old
      ∙ old_md fixing pdu number (lines_of host_buffers side front)
      ∙ ap (λ (b : Bool). md_with b pdu fixing (lines_of host_buffers side front) number) (sym old)

pub all_tell : (words : Words) (journal : List Entry) → AllTellWhatWaits words journal → AllNewPdusAreNext words journal → AllGoOutAtOnce journal
    → AllAreAtRest words journal → AllTellInWords words journal
all_tell words journal tells next goes rests front rest side channel octets fate verdict at on_data =
    let told = tells front rest side channel octets fate verdict at on_data in record {
      packet = told.packet;
      fixing = told.fixing;
      fixing_is = told.fixing_is;
      more = told.more
          ∙ md_is words journal next goes rests front rest side channel octets fate verdict at on_data told.packet.number told.packet.belongs told.fixing told.fixing_is
          (is_next_new told.packet.number front side) refl told.empty_last;
    }

-- ---- a PDU that is sent again

taken_leaves : (side taker : Side) (number link count llid : ℕ) (body : List ℕ) (told : Lines)
    → octets_left number false (lines_after host_buffers side told (Took taker link count llid body)) ≡ octets_left number false told
taken_leaves side taker number link count llid body told = by (is_side taker side)
  where
    by : (own : Bool)
        → octets_left number false (if own then line_after host_buffers told (Took taker link count llid body) else told) ≡ octets_left number false told
    by true = refl
    by false = refl

octets_stay : (side taker : Side) (number link count llid : ℕ) (body : List ℕ) (front : List Entry)
    → octets_left number false (lines_of host_buffers side (front ++ Took taker link count llid body ∷ [])) ≡ octets_left number false (lines_of host_buffers side front)
unfolding lines_of
octets_stay side taker number link count llid body front =
    ap (octets_left number false) (fold-append (lines_after host_buffers side) no_lines front (Took taker link count llid body ∷ []))
    ∙ taken_leaves side taker number link count llid body (fold (lines_after host_buffers side) no_lines front)

pub again_same : (words : Words) (front : List Entry) (side taker : Side) (number link count llid : ℕ) (body : List ℕ) (pdu : Pdu) (fixing then_fixing : Keyed)
    → is_fixed words side number front ≡ true → control_fixing words side number front ≡ Some fixing
    → control_fixing words side number (front ++ Took taker link count llid body ∷ []) ≡ Some then_fixing
    → md_with false pdu then_fixing (lines_of host_buffers side (front ++ Took taker link count llid body ∷ [])) number
    ≡ md_with false pdu fixing (lines_of host_buffers side front) number
again_same words front side taker number link count llid body pdu fixing then_fixing fixed is then_is =
    let same : Some then_fixing ≡ Some fixing =
    sym then_is ∙ fixed_stays words side number front (Took taker link count llid body) refl fixed ∙ is in
    let one : then_fixing ≡ fixing = cc in
    λ i. waits_after (carries false (is_last_of_all (one i) pdu) pdu) (length pdu.body)
    (waited_by (one i) (octets_stay side taker number link count llid body front i))

-- What a phase notes of PDUs: nothing, or those of the link on which a packet is received.
use Rattle.std.proofs.Common.{◌≡◌, ℕ, ◌+◌, ◌==◌, ◌&&◌, ◌||◌, not, Bool, true, false, Option, Some, None, List, [], ◌∷◌, ◌++◌, length, refl, sym, ap, subst, ◌∙◌}
use Rattle.std.specs.Prelude.{All}
use Rattle.std.proofs.lemmas.Bool.{eqb-true, eqb-false}
use Rattle.std.proofs.lemmas.List.{length_push}
use Rattle.std.proofs.lemmas.List.Elements.{All-append, All-cons, All-nil}
use Rattle.ble_base.specs.declared.addresses.Address.{Address}
use Rattle.ble_base.specs.declared.error_codes.ErrCode.{ErrCode}
use Rattle.ble_base.specs.declared.procedure_kinds.Kind.{Kind}
use Rattle.ble_base.specs.declared.notes.Note.{Note}
use Rattle.ble_base.specs.declared.notes.Note.TheVariants.{Took}
use Rattle.ble_base.specs.declared.roles.Role.{Role}
use Rattle.adv_pdu.specs.declared.pdu.AdvPdu.{AdvPdu}
use Rattle.adv_pdu.specs.declared.pdu.ConnectFields.{ConnectFields}
use Rattle.advertise.specs.declared.answers.AdvAnswer.{AdvAnswer}
use Rattle.advertise.specs.declared.answers.AdvAnswer.TheVariants.{Ignore, Respond, Connect as TakesIt}
use Rattle.advertise.specs.Advertising.{AdvertiserFacts}
use Rattle.advertise.specs.Answers.{advertiser_answer}
use Rattle.data_pdu.specs.Header.{header_in}
use Rattle.journal_packets.specs.link_model.Acknowledgement.{Acknowledgement, received_by}
use Rattle.journal_packets.specs.link_model.Data.{is_data, is_empty, numbered}
use Rattle.journal_packets.specs.link_model.Controls.{is_procedure_pdu}
use Rattle.journal_packets.specs.link_model.Entering.{done_notes}
use Rattle.journal_packets.specs.link_model.Receiving.{accepts, acked_kind, acks_control, facts_before_taking, facts_received, given_if, given_notes, has_acknowledged, kept_given_if, received_notes, refused_notes, took_notes_if}
use Rattle.journal_packets.specs.control_end.declared.answers.Taken.{Taken}
use Rattle.journal_packets.proofs.link_model.Acknowledging.{ack_heard}
use Rattle.journal_packets.specs.link_model.End.{notes_after as end_notes}
use Rattle.journal_packets.specs.link_model.Sending.{sent_notes}
use Rattle.journal_packets.specs.link_model.Facts.{Facts as EndFacts}
use Rattle.journal_packets.specs.link_model.Packets.{good_pdu, has_new_pdu}
use Rattle.journal_packets.specs.link_model.Verdicts.{pdu_of}
use Rattle.journal_packets.specs.link_model.Step.{PacketReceived, PacketSent}
use Rattle.journal_packets.specs.link_model.declared.setup.LinkSetup.{LinkSetup}
use Rattle.scan_init.specs.Initiating.{InitiatorFacts}
use Rattle.scan_init.specs.Reports.{ScannerFacts, does_ask, scan_answer}
use Rattle.journal_packets.specs.open_links.OpenLinks.{OpenLink, facts_in, free_from, link_after, link_at}
use Rattle.journal_packets.specs.controller_model.declared.doing.Doing.{Doing}
use Rattle.journal_packets.specs.controller_model.declared.doing.Doing.TheVariants.{Advertises, AwaitsRequest, Scans, Requests, AwaitsResponse, Initiates}
use Rattle.journal_packets.specs.controller_model.declared.doing.Doing.TheVariants.{Connects, CentralSends, CentralListens, PeripheralListens, PeripheralSends}
use Rattle.journal_packets.specs.controller_model.Facts.{Setup, Facts}
use Rattle.journal_packets.specs.controller_model.Heard.{advertiser_answers, advertiser_heard, asks_if, connects, events_reported, heard, if_pdu}
use Rattle.journal_packets.specs.controller_model.Heard.{initiator_heard, link_heard, link_taken, link_to, notes_taken, opens, scanner_after, scanner_heard}
use Rattle.journal_packets.specs.controller_model.Heard.{taken_if, taken_under, unheard, with_scanner}
use Rattle.journal_packets.specs.controller_model.Events.{notes_of_events}
use Rattle.journal_packets.specs.controller_model.Links.{events_opened, note_opened}
use Rattle.journal_packets.specs.controller_model.Outcome.{Outcome, notes_passed}
use Rattle.journal_packets.specs.controller_model.Packets.{notes_doing, notes_sent, pdu_heard}
use Rattle.journal_packets.specs.controller_model.Side.{notes_after}
use Rattle.link_calls.specs.run_model.Run.{step_of}
use Rattle.journal_packets.proofs.run_laws.Agreed.{ack_of}
use Rattle.journal_acks.proofs.Acks.{empty_is_no_data}
use Rattle.journal_acks.proofs.Counting.{accepted_before, ack_taking, has_own_line}
use Rattle.link_calls.proofs.CallNotes.{HasNoData, OpensNone, TakesNone, events_noted, no_data}
use Rattle.link_calls.proofs.RadioUses.{first_of_both}
use Rattle.link_calls.proofs.Worded.{received_ack}
use Rattle.link_calls.specs.Uses.{listens_under, sends_under}
use Rattle.journal_acks.proofs.TwoStations.{same_number}
use Rattle.journal_acks.proofs.Worded.{worded}

-- ---- what is noted of a PDU that a link receives

-- a note of it says that one PDU more is accepted; without such a note none is that has a line of its own. Besides,
-- procedures that are done or refused may be noted
pub data IsTakenSo (slot : ℕ) (octets : List ℕ) (room : Bool) (link : OpenLink) : Type 0 where
  Unnoted : All TakesNone (notes_taken slot room (Some link) octets)
      → ack_of (link_after (PacketReceived slot octets room) link) ≡ ack_taking true (Some octets) slot link
      → IsTakenSo slot octets room link
  Noted : (earlier later : List Note) (count llid : ℕ) (body : List ℕ)
      → notes_taken slot room (Some link) octets ≡ earlier ++ Took link.setup.link.handle count llid (record { items = body }) ∷ later
      → All TakesNone earlier → ((handle : ℕ) → All (OpensNone handle) earlier) → All TakesNone later
      → length (ack_of (link_after (PacketReceived slot octets room) link)).accepted ≡ length (ack_of link).accepted + 1
      → IsTakenSo slot octets room link

-- all but what is accepted is the same with room and without
pub record IsSameBut (one other : Acknowledgement) : Type 0 where
  pub sent : one.sent ≡ other.sent
  pub acked : one.acked ≡ other.acked

received_same : (role : Role) (slot : ℕ) (room other : Bool) (found : Option (List ℕ)) (facts : EndFacts)
    → IsSameBut (facts_received role slot room found facts).acknowledgement (facts_received role slot other found facts).acknowledgement
received_same role slot room other None facts = record { sent = refl; acked = refl }
received_same role slot room other (Some octets) facts =
    let one = ack_heard role slot room (header_in octets) (pdu_of octets) facts in
    let two = ack_heard role slot other (header_in octets) (pdu_of octets) facts in record {
      sent = ap (λ (a : Acknowledgement). a.sent) one ∙ ap (λ (a : Acknowledgement). a.sent) (sym two);
      acked = ap (λ (a : Acknowledgement). a.acked) one ∙ ap (λ (a : Acknowledgement). a.acked) (sym two);
    }

pub same_but : (slot : ℕ) (octets : List ℕ) (room other : Bool) (link : OpenLink)
    → IsSameBut (ack_of (link_after (PacketReceived slot octets room) link)) (ack_of (link_after (PacketReceived slot octets other) link))
same_but slot octets room other link =
    let role = link.setup.link.role in
    let found = good_pdu link.setup (facts_in link) octets in
    subst (λ a. IsSameBut a (ack_of (link_after (PacketReceived slot octets other) link))) (sym (received_ack slot octets room link found refl))
    (subst (λ a. IsSameBut (facts_received role slot room found (facts_in link)).acknowledgement a) (sym (received_ack slot octets other link found refl))
    (received_same role slot room other found (facts_in link)))

-- what it sent is the same as before
pub record HasSentSame (one other : Acknowledgement) : Type 0 where
  pub sent : one.sent ≡ other.sent
  pub last : one.last ≡ other.last

received_sent : (role : Role) (slot : ℕ) (room : Bool) (found : Option (List ℕ)) (facts : EndFacts)
    → HasSentSame (facts_received role slot room found facts).acknowledgement facts.acknowledgement
received_sent role slot room None facts = record { sent = refl; last = refl }
received_sent role slot room (Some octets) facts =
    let heard = ack_heard role slot room (header_in octets) (pdu_of octets) facts in
    record { sent = ap (λ (a : Acknowledgement). a.sent) heard; last = ap (λ (a : Acknowledgement). a.last) heard }

pub sent_same : (slot : ℕ) (octets : List ℕ) (room : Bool) (link : OpenLink) → HasSentSame (ack_of (link_after (PacketReceived slot octets room) link)) (ack_of link)
sent_same slot octets room link =
    let found = good_pdu link.setup (facts_in link) octets in
    subst (λ a. HasSentSame a (ack_of link)) (sym (received_ack slot octets room link found refl))
    (received_sent link.setup.link.role slot room found (facts_in link))

-- an empty PDU is accepted also where there is no room
empty_room : (room fresh full may : Bool) → full ≡ false → (fresh && (room || not full) && may) ≡ (fresh && (false || not full) && may)
empty_room room fresh true may none = absurd cc
empty_room true fresh false may none = refl
empty_room false fresh false may none = refl

second_true : (one other : Bool) → other ≡ true → (one && other) ≡ false → one ≡ false
second_true true other is none = absurd (let h : true ≡ false = sym is ∙ none in absurd cc)
second_true false other is none = refl

-- what is noted of procedures
pub done_takes : (handle : ℕ) (kind : Option Kind) → All TakesNone (done_notes handle kind)
done_takes handle None = All-nil TakesNone
done_takes handle (Some kind) = All-cons TakesNone _ [] refl (All-nil TakesNone)

done_opens : (handle : ℕ) (kind : Option Kind) (other : ℕ) → All (OpensNone other) (done_notes handle kind)
done_opens handle None other = All-nil (OpensNone other)
done_opens handle (Some kind) other = All-cons (OpensNone other) _ [] refl (All-nil (OpensNone other))

pub refused_takes : (handle : ℕ) (refused : Option (Kind × ErrCode)) → All TakesNone (refused_notes handle refused)
refused_takes handle None = All-nil TakesNone
refused_takes handle (Some (kind, code)) = All-cons TakesNone _ [] refl (All-nil TakesNone)

pub given_takes : (handle : ℕ) (given : Taken) → All TakesNone (given_notes handle given)
given_takes handle given =
    All-append TakesNone (refused_notes handle given.refused) (done_notes handle given.done) (refused_takes handle given.refused) (done_takes handle given.done)

-- a link that receives a packet
module _ (slot : ℕ) (octets : List ℕ) (room : Bool) (link : OpenLink) where
  abbrev role : Role
  role = link.setup.link.role

  abbrev own_handle : ℕ
  own_handle = link.setup.link.handle

  abbrev before : List ℕ → EndFacts
  before pdu = facts_before_taking role slot (header_in pdu) (facts_in link)

  -- all that is noted but the PDU
  abbrev kind_by : List ℕ → Option Kind
  kind_by pdu = acked_kind (acks_control (has_acknowledged (facts_in link) (header_in pdu)) (facts_in link)) (facts_in link)

  abbrev earlier_of : List ℕ → List Note
  earlier_of pdu = done_notes own_handle (kind_by pdu)

  abbrev given_by : List ℕ → Taken
  given_by pdu = given_if (accepts room (header_in pdu) (pdu_of pdu) (before pdu) && is_procedure_pdu (pdu_of pdu)) (pdu_of pdu) slot (before pdu)

  abbrev kept_by : List ℕ → Taken
  kept_by pdu = kept_given_if (accepts room (header_in pdu) (pdu_of pdu) (before pdu) && is_procedure_pdu (pdu_of pdu)) (pdu_of pdu) slot (before pdu)

  abbrev later_of : List ℕ → List Note
  later_of pdu = given_notes own_handle (given_by pdu) ++ given_notes own_handle (kept_by pdu)

  later_takes : (pdu : List ℕ) → All TakesNone (later_of pdu)
  later_takes pdu =
      All-append TakesNone (given_notes own_handle (given_by pdu)) (given_notes own_handle (kept_by pdu))
      (given_takes own_handle (given_by pdu)) (given_takes own_handle (kept_by pdu))

  notes_are : (found : Option (List ℕ)) → good_pdu link.setup (facts_in link) octets ≡ found
      → notes_taken slot room (Some link) octets ≡ received_notes link.setup slot room found (facts_in link)
  notes_are found is = ap (λ may. received_notes link.setup slot room may (facts_in link)) is

  ack_is : (other : Bool) (pdu : List ℕ) → good_pdu link.setup (facts_in link) octets ≡ Some pdu
      → ack_of (link_after (PacketReceived slot octets other) link)
      ≡ received_by (has_acknowledged (facts_in link) (header_in pdu)) (accepts other (header_in pdu) (pdu_of pdu) (before pdu)) (pdu_of pdu) (facts_in link).acknowledgement
  ack_is other pdu is = received_ack slot octets other link (Some pdu) is ∙ ack_heard role slot other (header_in pdu) (pdu_of pdu) (facts_in link)

  pub taken_so : IsTakenSo slot octets room link
  taken_so = by (good_pdu link.setup (facts_in link) octets) refl
    where
      -- what it holds with a line to come, or with none
      waiting_is : (found : Option (List ℕ)) (own : Bool) → good_pdu link.setup (facts_in link) octets ≡ found → has_own_line found ≡ own
          → ack_taking true (Some octets) slot link ≡ record (ack_of (link_after (PacketReceived slot octets false) link)) { accepted = accepted_before own slot octets link }
      waiting_is found own is own_is =
          ap (λ b. record (ack_of (link_after (PacketReceived slot octets false) link)) { accepted = accepted_before b slot octets link }) (ap has_own_line is ∙ own_is)

      unnoted : (pdu : List ℕ) → good_pdu link.setup (facts_in link) octets ≡ Some pdu → (empty : Bool) → is_empty (pdu_of pdu) ≡ empty
          → (accepts room (header_in pdu) (pdu_of pdu) (before pdu) && not (is_empty (pdu_of pdu))) ≡ false
          → ack_of (link_after (PacketReceived slot octets room) link) ≡ ack_taking true (Some octets) slot link
      unnoted pdu is true empty none =
          let acked = has_acknowledged (facts_in link) (header_in pdu) in
          let may = is_empty (pdu_of pdu) || not (before pdu).leaving.acknowledged in
          ack_is room pdu is
          ∙ ap (λ b. received_by acked b (pdu_of pdu) (facts_in link).acknowledgement)
          (empty_room room (has_new_pdu (before pdu) (header_in pdu)) (is_data (pdu_of pdu)) may (empty_is_no_data (pdu_of pdu) empty))
          ∙ sym (ack_is false pdu is) ∙ sym (waiting_is (Some pdu) false is (ap not empty))
      unnoted pdu is false full none =
          let acked = has_acknowledged (facts_in link) (header_in pdu) in
          let own = (facts_in link).acknowledgement in
          ack_is room pdu is
          ∙ ap (λ b. received_by acked b (pdu_of pdu) own) (second_true (accepts room (header_in pdu) (pdu_of pdu) (before pdu)) (not (is_empty (pdu_of pdu))) (ap not full) none)
          ∙ ap (λ (a : Acknowledgement). record a { accepted = own.accepted }) (sym (ack_is false pdu is))
          ∙ sym (waiting_is (Some pdu) true is (ap not full))

      noted_by : (pdu : List ℕ) → good_pdu link.setup (facts_in link) octets ≡ Some pdu → (noted : Bool)
          → (accepts room (header_in pdu) (pdu_of pdu) (before pdu) && not (is_empty (pdu_of pdu))) ≡ noted → IsTakenSo slot octets room link
      noted_by pdu is true noted =
          let acked = has_acknowledged (facts_in link) (header_in pdu) in
          let own = (facts_in link).acknowledgement in
          Noted (earlier_of pdu) (later_of pdu) (numbered (before pdu).acknowledgement.accepted + 1) (pdu_of pdu).llid (pdu_of pdu).body
          (notes_are (Some pdu) is ∙ ap (λ b. earlier_of pdu ++ (took_notes_if b own_handle (pdu_of pdu) (before pdu) ++ later_of pdu)) noted)
          (done_takes own_handle (kind_by pdu)) (done_opens own_handle (kind_by pdu)) (later_takes pdu)
          (ap (λ (a : Acknowledgement). length a.accepted) (ack_is room pdu is)
          ∙ ap (λ b. length (received_by acked b (pdu_of pdu) own).accepted)
          (first_of_both (accepts room (header_in pdu) (pdu_of pdu) (before pdu)) (not (is_empty (pdu_of pdu))) noted)
          ∙ length_push own.accepted (pdu_of pdu))
      noted_by pdu is false noted =
          Unnoted
          (subst (All TakesNone) (sym (notes_are (Some pdu) is ∙ ap (λ b. earlier_of pdu ++ (took_notes_if b own_handle (pdu_of pdu) (before pdu) ++ later_of pdu)) noted))
          (All-append TakesNone (earlier_of pdu) (later_of pdu) (done_takes own_handle (kind_by pdu)) (later_takes pdu)))
          (unnoted pdu is (is_empty (pdu_of pdu)) refl noted)

      by : (found : Option (List ℕ)) → good_pdu link.setup (facts_in link) octets ≡ found → IsTakenSo slot octets room link
      by None is =
          Unnoted (subst (All TakesNone) (sym (notes_are None is)) (All-nil TakesNone))
          (received_ack slot octets room link None is ∙ sym (received_ack slot octets false link None is) ∙ sym (waiting_is None false is refl))
      by (Some pdu) is = noted_by pdu is _ refl

-- ---- what is noted as a link is to send

abbrev pub notes_when : Bool → OpenLink → List Note
notes_when true link = sent_notes link.setup (facts_in link)
notes_when false link = []

sent_when : (same : Bool) (facts : Facts) (handle other : ℕ) (link : OpenLink) → ((two : OpenLink) → link_at other facts.links ≡ Some two → other ≡ handle)
    → link_at handle facts.links ≡ Some link → (other == handle) ≡ same → notes_sent facts.turn.slot (link_at other facts.links) ≡ notes_when same link
sent_when true facts handle other link only is same =
    ap (notes_sent facts.turn.slot) (ap (λ n. link_at n facts.links) (eqb-true other handle same) ∙ is)
sent_when false facts handle other link only is differs = by (link_at other facts.links) refl
  where
    by : (found : Option OpenLink) → link_at other facts.links ≡ found → notes_sent facts.turn.slot found ≡ []
    by None none = refl
    by (Some two) some = absurd (eqb-false other handle differs (only two some))

-- where no other open link is to send
pub doing_notes : (doing : Doing) (facts : Facts) (handle : ℕ) (link : OpenLink)
    → ((other : ℕ) (two : OpenLink) → sends_under other doing ≡ true → link_at other facts.links ≡ Some two → other ≡ handle) → link_at handle facts.links ≡ Some link
    → notes_doing doing facts ≡ notes_when (sends_under handle doing) link
doing_notes (CentralSends other) facts handle link only is = sent_when (other == handle) facts handle other link (λ two at. only other two (same_number other) at) is refl
doing_notes (PeripheralSends other) facts handle link only is = sent_when (other == handle) facts handle other link (λ two at. only other two (same_number other) at) is refl
doing_notes (Advertises channel) facts handle link only is = refl
doing_notes other facts handle link only is = refl

-- a new PDU is noted on one link, or on none
pub data SendsFrom (doing : Doing) (facts : Facts) : Type 0 where
  SendsNothing : notes_doing doing facts ≡ [] → SendsFrom doing facts
  SendsOne : (other : ℕ) (link : OpenLink) → link_at other facts.links ≡ Some link → sends_under other doing ≡ true
      → notes_doing doing facts ≡ end_notes link.setup (facts_in link) (PacketSent facts.turn.slot) → SendsFrom doing facts

pub sends_from : (doing : Doing) (facts : Facts) → SendsFrom doing facts
sends_from (CentralSends other) facts = by (link_at other facts.links) refl
  where
    by : (found : Option OpenLink) → link_at other facts.links ≡ found → SendsFrom (CentralSends other) facts
    by None is = SendsNothing (ap (notes_sent facts.turn.slot) is)
    by (Some link) is = SendsOne other link is (same_number other) (ap (notes_sent facts.turn.slot) is)
sends_from (PeripheralSends other) facts = by (link_at other facts.links) refl
  where
    by : (found : Option OpenLink) → link_at other facts.links ≡ found → SendsFrom (PeripheralSends other) facts
    by None is = SendsNothing (ap (notes_sent facts.turn.slot) is)
    by (Some link) is = SendsOne other link is (same_number other) (ap (notes_sent facts.turn.slot) is)
sends_from (Advertises channel) facts = SendsNothing refl
sends_from other facts = SendsNothing refl

-- ---- a phase in which no link receives a packet

abbrev IsPlain : Outcome → Type 0
IsPlain outcome = All HasNoData (notes_passed outcome)

nothing : All HasNoData []
nothing = All-nil HasNoData

opens_plain : (link : LinkSetup) (facts : Facts) → IsPlain (opens link facts)
opens_plain link facts =
    let events = notes_of_events facts.view (events_opened facts.view link) in
    All-append HasNoData (note_opened link ∷ events) []
    (All-cons HasNoData (note_opened link) events (record { takes = refl; sends = refl }) (events_noted HasNoData no_data.feeds facts.view (events_opened facts.view link))) nothing

pub unheard_plain : (doing : Doing) (facts : Facts) → IsPlain (unheard doing facts)
unheard_plain (Advertises channel) facts = nothing
unheard_plain (Requests channel advertiser) facts = nothing
unheard_plain (Connects channel link) facts = opens_plain link facts
unheard_plain (CentralSends handle) facts = nothing
unheard_plain other facts = nothing

under_plain : (free : Option ℕ) (own : Address) (pdu : AdvPdu) (fields : ConnectFields) (facts : Facts) → IsPlain (taken_under free own pdu fields facts)
under_plain None own pdu fields facts = nothing
under_plain (Some handle) own pdu fields facts = opens_plain (link_taken facts.view own pdu fields handle) facts

if_plain : (new : Bool) (own : Address) (pdu : AdvPdu) (fields : ConnectFields) (facts : Facts) → IsPlain (taken_if new own pdu fields facts)
if_plain false own pdu fields facts = nothing
if_plain true own pdu fields facts = under_plain (free_from 0 facts.links) own pdu fields facts

answers_plain : (answer : AdvAnswer) (channel : ℕ) (own : Address) (pdu : AdvPdu) (facts : Facts) → IsPlain (advertiser_answers answer channel own pdu facts)
answers_plain Ignore channel own pdu facts = nothing
answers_plain Respond channel own pdu facts = nothing
answers_plain (TakesIt fields) channel own pdu facts = if_plain _ own pdu fields facts

advertiser_plain : (on : Option AdvertiserFacts) (channel : ℕ) (pdu : AdvPdu) (facts : Facts) → IsPlain (advertiser_heard on channel pdu facts)
advertiser_plain None channel pdu facts = nothing
advertiser_plain (Some on) channel pdu facts = answers_plain (advertiser_answer on.params facts.view.accepted pdu) channel on.params.own pdu facts

asks_plain : (asks : Bool) (channel : ℕ) (pdu : AdvPdu) (facts : Facts) → All HasNoData (notes_doing (asks_if asks channel pdu) facts)
asks_plain true channel pdu facts = nothing
asks_plain false channel pdu facts = nothing

scanner_plain : (on : Option ScannerFacts) (may_ask : Bool) (channel : ℕ) (pdu : AdvPdu) (facts : Facts) → IsPlain (scanner_heard on may_ask channel pdu facts)
scanner_plain None may_ask channel pdu facts = nothing
scanner_plain (Some on) may_ask channel pdu facts =
    let answer = scan_answer on.params facts.view.accepted on.recent pdu in
    All-append HasNoData _ _ (events_noted HasNoData no_data.feeds facts.view (events_reported answer pdu))
    (asks_plain (may_ask && does_ask answer) channel pdu (with_scanner (scanner_after on facts.view.accepted pdu) facts))

connects_plain : (link : Option LinkSetup) (setup : Setup) (channel : ℕ) (facts : Facts) → IsPlain (connects link setup channel facts)
connects_plain None setup channel facts = nothing
connects_plain (Some link) setup channel facts = nothing

initiator_plain : (on : Option InitiatorFacts) (setup : Setup) (channel : ℕ) (pdu : AdvPdu) (facts : Facts) → IsPlain (initiator_heard on setup channel pdu facts)
initiator_plain None setup channel pdu facts = nothing
initiator_plain (Some on) setup channel pdu facts = connects_plain (link_to setup on pdu facts) setup channel facts

pdu_plain : (found : Option AdvPdu) (facts : Facts) (outcome : AdvPdu → Outcome) → ((pdu : AdvPdu) → IsPlain (outcome pdu)) → IsPlain (if_pdu found facts outcome)
pdu_plain None facts outcome some = nothing
pdu_plain (Some pdu) facts outcome some = some pdu

-- ---- a phase

pub data IsPhaseOf (setup : Setup) (facts : Facts) (received : Option (List ℕ)) : Type 0 where
  -- nothing is received on a link
  IsPlainPhase : ((handle : ℕ) → listens_under handle facts.turn.doing ≡ true → received ≡ None) → All HasNoData (notes_after setup facts (step_of received))
      → IsPhaseOf setup facts received
  -- octets are received on the link under this handle, which was given words before, or was not
  IsOnLink : (other : ℕ) (words : Bool) (octets : List ℕ) → received ≡ Some octets → ((handle : ℕ) → listens_under handle facts.turn.doing ≡ (other == handle))
      → heard setup facts.turn.doing octets facts ≡ link_heard setup other octets (worded words setup other facts) → IsPhaseOf setup facts received

plain_by : (setup : Setup) (facts : Facts) (octets : List ℕ) (doing : Doing) → facts.turn.doing ≡ doing → ((handle : ℕ) → listens_under handle doing ≡ false)
    → IsPlain (heard setup doing octets facts) → IsPhaseOf setup facts (Some octets)
plain_by setup facts octets doing is none plain =
    IsPlainPhase (λ handle listens. absurd (let h : true ≡ false = sym listens ∙ ap (listens_under handle) is ∙ none handle in absurd cc))
    (subst (λ (d : Doing). IsPlain (heard setup d octets facts)) (sym is) plain)

phase_by : (setup : Setup) (facts : Facts) (octets : List ℕ) (doing : Doing) → facts.turn.doing ≡ doing → IsPhaseOf setup facts (Some octets)
phase_by setup facts octets (CentralListens other) is =
    IsOnLink other false octets refl (λ handle. ap (listens_under handle) is) (ap (λ (d : Doing). heard setup d octets facts) is)
phase_by setup facts octets (PeripheralListens other) is =
    IsOnLink other true octets refl (λ handle. ap (listens_under handle) is) (ap (λ (d : Doing). heard setup d octets facts) is)
phase_by setup facts octets (AwaitsRequest channel) is =
    plain_by setup facts octets (AwaitsRequest channel) is (λ handle. refl)
    (pdu_plain (pdu_heard channel octets) facts _ (λ pdu. advertiser_plain facts.advertising.on channel pdu facts))
phase_by setup facts octets (Scans channel) is =
    plain_by setup facts octets (Scans channel) is (λ handle. refl)
    (pdu_plain (pdu_heard channel octets) facts _ (λ pdu. scanner_plain facts.scanning.on true channel pdu facts))
phase_by setup facts octets (AwaitsResponse channel) is =
    plain_by setup facts octets (AwaitsResponse channel) is (λ handle. refl)
    (pdu_plain (pdu_heard channel octets) facts _ (λ pdu. scanner_plain facts.scanning.on false channel pdu facts))
phase_by setup facts octets (Initiates channel) is =
    plain_by setup facts octets (Initiates channel) is (λ handle. refl)
    (pdu_plain (pdu_heard channel octets) facts _ (λ pdu. initiator_plain facts.initiator setup channel pdu facts))
phase_by setup facts octets (Advertises channel) is = plain_by setup facts octets (Advertises channel) is (λ handle. refl) (unheard_plain (Advertises channel) facts)
phase_by setup facts octets doing is = plain_by setup facts octets doing is (λ handle. refl) (unheard_plain doing facts)

pub phase_of : (setup : Setup) (facts : Facts) (received : Option (List ℕ)) → IsPhaseOf setup facts received
phase_of setup facts None = IsPlainPhase (λ handle listens. refl) (unheard_plain facts.turn.doing facts)
phase_of setup facts (Some octets) = phase_by setup facts octets facts.turn.doing refl

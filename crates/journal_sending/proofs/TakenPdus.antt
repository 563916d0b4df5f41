-- A link that receives a packet notes that it takes the PDU in it where that is new and not empty, there is room for it, and
-- the end has not left the link.
use Rattle.std.proofs.Common.{◌≡◌, ℕ, suc, ◌+◌, ◌-◌, ◌≤◌, ◌==◌, ◌&&◌, ◌||◌, not, Bool, true, false, cond, Option, Some, None, List, [], ◌∷◌, ◌++◌, drop, take, length, refl, sym, ap, subst, ◌∙◌, nat_lt, append_assoc, length-append, arith}
use Rattle.std.specs.Prelude.{All, map}
use Rattle.std.specs.List.{filter}
use Rattle.std.proofs.Math.Bool.{and-false}
use Rattle.std.proofs.lemmas.Bool.{eqb-false, eqb-true}
use Rattle.std.proofs.lemmas.Bool.Decides.{nat_tests}
use Rattle.std.proofs.lemmas.List.{length-map, take_all}
use Rattle.std.proofs.lemmas.List.Elements.{All-append, filter-append}
use Rattle.ack_bit.specs.AckBits.{is_new}
use Rattle.ack_bit.specs.Nonempty.{nonempty}
use Rattle.ack_bit.proofs.Directions.{last_again}
use Rattle.air_frame.specs.Hearing.{heard_in}
use Rattle.air_frame.specs.declared.Heard.TheVariants.{Whole}
use Rattle.ble_base.specs.declared.notes.Note.{Note}
use Rattle.ble_base.specs.declared.verdicts.Verdict.TheVariants.{Forged, Good}
use Rattle.journal_leaving.specs.controller_model.Events.{notes_of_events}
use Rattle.journal_leaving.specs.controller_model.Facts.{Facts, Setup}
use Rattle.journal_leaving.specs.controller_model.Heard.{events_received, has_room, link_heard, link_received, notes_taken, replies_in, reply_if}
use Rattle.journal_leaving.specs.controller_model.Outcome.{notes_passed}
use Rattle.journal_leaving.specs.controller_model.Packets.{notes_doing, verdict_of as verdict_at}
use Rattle.journal_leaving.specs.controller_model.Side.{notes_after}
use Rattle.data_pdu.specs.Header.{header_in, octets_of}
use Rattle.journal_leaving.specs.journal_acks.link_calls.Uses.{listens_under}
use Rattle.journal_leaving.specs.link_model.Acknowledgement.{Acknowledgement, Pdu, bits_of}
use Rattle.journal_leaving.specs.link_model.Data.{is_accepted, is_data, is_empty, numbered}
use Rattle.journal_leaving.specs.link_model.Facts.{Facts as EndFacts}
use Rattle.journal_leaving.specs.link_model.Hearing.{air_octets}
use Rattle.journal_leaving.specs.link_model.Packets.{counts_here, good_pdu, has_new_pdu, header_sent, heard_of, packet_sent, payload_sent, pdu_sent, verdict_of}
use Rattle.journal_leaving.specs.link_model.Payload.{first_octet, opened_if, opened_pdu, read_pdu}
use Rattle.journal_leaving.specs.link_model.Receiving.{received_notes}
use Rattle.journal_leaving.specs.link_model.Setup.{Setup as EndSetup}
use Rattle.journal_leaving.specs.link_model.Verdicts.{pdu_of}
use Rattle.journal_leaving.specs.link_model.enc_phase.Sealing.{is_right, opened_body}
use Rattle.journal_leaving.specs.journal_data.open_links.OpenLinks.{OpenLink, facts_in, link_at}
use Rattle.journal_leaving.specs.journal_data.Lines.{PduLine}
use Rattle.journal_leaving.specs.run_model.Run.{step_of}
use Rattle.journal_leaving.proofs.journal_acks.DataCalls.{on_link_notes, unfound}
use Rattle.journal_leaving.proofs.journal_acks.HandedOn.{forged_unread, judged_link}
use Rattle.journal_leaving.proofs.journal_acks.PhaseNotes.{IsOnLink, IsPhaseOf, IsPlainPhase, phase_of}
use Rattle.journal_leaving.proofs.journal_acks.TwoStations.{same_number}
use Rattle.journal_leaving.proofs.journal_acks.link_calls.CallNotes.{HasNoData, TakesNone, all_more, doing_noted, events_noted, no_data}
use Rattle.journal_leaving.proofs.link_model.Agreeing.{ack_ahead as sent_ack}
use Rattle.journal_leaving.proofs.link_model.Hearing.{IsHeardWhole}
use Rattle.journal_leaving.proofs.link_model.Received.{air_read, has_header, in_form}
use Rattle.journal_leaving.specs.journal_data.run_laws.Ranges.{IsReadable}
use Rattle.journal_leaving.specs.journal_data.run_laws.Shapes.{AgreeInShape, Shape, shape_of}
use Rattle.journal_leaving.proofs.journal_data.run_laws.Agreed.{ack_of}
use Rattle.journal_leaving.proofs.journal_data.run_laws.AgreeingShapes.{shapes_fresh, shapes_high}
use Rattle.journal_leaving.proofs.journal_data.run_laws.Payloads.{payload_short}
use Rattle.journal_leaving.proofs.journal_data.run_laws.ReadPackets.{IsGood, pdu_with_header, read_good}
use Rattle.journal_fixing.specs.link_model.declared.state.Leaving.{Leaving}
use Rattle.host_view.specs.Links.{was_encrypted}
use Rattle.journal_leaving.proofs.journal_acks.Worded.{link_worded, worded, worded_here}
use Rattle.journal_fixing.proofs.journal_controls.Replies.{words_are}
use Rattle.journal_fixing.proofs.journal_controls.journal_ends.WordedLinks.{IsWordedAs, with_response, worded_good}
use Rattle.journal_leaving.proofs.LinkLeaves.{leaving_still}
use Rattle.journal_leaving.specs.Hearing.{leaving_hearing}
use Rattle.journal_sending.specs.Announced.{pdu_line_if}
use Rattle.journal_sending.proofs.PendingLines.{TakesFirst, first_fits, first_none, first_taken}
use Rattle.journal_sending.proofs.TakenNotes.{hearing_first, link_fits}

-- ---- the notes of a phase

module _ (setup : Setup) (facts : Facts) where
  -- after what a link notes of a packet come the events for its host, and what it notes as it replies
  abbrev events_then : ℕ → List ℕ → List Note
  events_then other octets =
      notes_of_events facts.view (events_received (was_encrypted other facts.view.links) other facts.turn.slot (has_room setup facts) (link_at other facts.links) octets)
      ++ notes_doing (reply_if (replies_in facts.turn.slot (has_room setup facts) (link_at other facts.links) octets) other)
      (link_received other (has_room setup facts) octets facts)

  on_link_parts : (other : ℕ) (octets : List ℕ) → notes_passed (link_heard setup other octets facts)
      ≡ notes_taken facts.turn.slot (has_room setup facts) (link_at other facts.links) octets ++ events_then other octets
  on_link_parts other octets = append_assoc (notes_taken facts.turn.slot (has_room setup facts) (link_at other facts.links) octets) _ _

  events_none : (other : ℕ) (octets : List ℕ) → All TakesNone (events_then other octets)
  events_none other octets =
      let slot = facts.turn.slot in
      let room = has_room setup facts in
      let events = notes_of_events facts.view (events_received (was_encrypted other facts.view.links) other slot room (link_at other facts.links) octets) in
      All-append TakesNone events _
      (all_more HasNoData TakesNone (λ note has. has.takes) events
      (events_noted HasNoData no_data.feeds facts.view (events_received (was_encrypted other facts.view.links) other slot room (link_at other facts.links) octets)))
      (doing_noted TakesNone (λ one number llid body. refl) (reply_if (replies_in slot room (link_at other facts.links) octets) other)
      (link_received other room octets facts))

-- a link may be given words before it hears the packet
module _ (setup : Setup) (facts : Facts) where
  abbrev notes_of : Option (List ℕ) → List Note
  notes_of received = notes_after setup facts (step_of received)

  -- only the first note of a phase takes a PDU, after the one that a procedure is done
  pub phase_fits : (link_of : ℕ → ℕ) (received : Option (List ℕ)) → TakesFirst link_of (notes_after setup facts (step_of received))
  phase_fits link_of received = by (phase_of setup facts received)
    where
      on_link : (now : Facts) (other : ℕ) (octets : List ℕ) → notes_of received ≡ notes_passed (link_heard setup other octets now)
          → (found : Option OpenLink) → link_at other now.links ≡ found → TakesFirst link_of (notes_of received)
      on_link now other octets are None absent = subst (TakesFirst link_of) (sym (are ∙ unfound setup now other octets absent)) tt
      on_link now other octets are (Some link) is =
          let slot = now.turn.slot in
          let room = has_room setup now in
          subst (TakesFirst link_of) (sym (are ∙ on_link_parts setup now other octets))
          (subst (λ found. TakesFirst link_of (notes_taken slot room found octets ++ events_then setup now other octets)) (sym is)
          (link_fits slot room octets link (events_then setup now other octets) link_of (events_none setup now other octets)))

      by : IsPhaseOf setup facts received → TakesFirst link_of (notes_of received)
      by (IsPlainPhase none plain) =
          first_fits link_of (notes_of received) (all_more HasNoData TakesNone (λ note has. has.takes) (notes_of received) plain)
      by (IsOnLink other words octets some listens heard_is) =
          let now = worded words setup other facts in
          on_link now other octets (on_link_notes setup facts received octets (link_heard setup other octets now) some (ap notes_passed heard_is)) (link_at other now.links) refl

  -- where nothing is received on an open link, none takes one
  pub unheard_none : (link_of : ℕ → ℕ) (received : Option (List ℕ))
      → ((handle : ℕ) (link : OpenLink) → link_at handle facts.links ≡ Some link → listens_under handle facts.turn.doing ≡ true → received ≡ None)
      → first_taken link_of (notes_after setup facts (step_of received)) ≡ None
  unheard_none link_of received nothing = by (phase_of setup facts received)
    where
      on_link : (words : Bool) (other : ℕ) (octets : List ℕ) → received ≡ Some octets → listens_under other facts.turn.doing ≡ true
          → notes_of received ≡ notes_passed (link_heard setup other octets (worded words setup other facts))
          → (found : Option OpenLink) → link_at other facts.links ≡ found → first_taken link_of (notes_of received) ≡ None
      on_link words other octets some on are None absent =
          ap (first_taken link_of) (are ∙ unfound setup (worded words setup other facts) other octets (worded_here words setup other facts None absent))
      on_link words other octets some on are (Some link) is = absurd (let h : None ≡ Some octets = sym (nothing other link is on) ∙ some in absurd cc)

      by : IsPhaseOf setup facts received → first_taken link_of (notes_of received) ≡ None
      by (IsPlainPhase none plain) =
          first_none link_of (notes_of received) (all_more HasNoData TakesNone (λ note has. has.takes) (notes_of received) plain)
      by (IsOnLink other words octets some listens heard_is) =
          on_link words other octets some (listens other ∙ same_number other)
          (on_link_notes setup facts received octets (link_heard setup other octets (worded words setup other facts)) some (ap notes_passed heard_is)) (link_at other facts.links) refl

  -- where what is received is forged, none takes one
  pub forged_none : (link_of : ℕ → ℕ) (octets : List ℕ) → verdict_at facts octets ≡ Forged → first_taken link_of (notes_of (Some octets)) ≡ None
  forged_none link_of octets forged = by (phase_of setup facts (Some octets))
    where
      on_link : (words : Bool) (other : ℕ) (heard : List ℕ) → heard ≡ octets → listens_under other facts.turn.doing ≡ true
          → notes_of (Some octets) ≡ notes_passed (link_heard setup other heard (worded words setup other facts))
          → (found : Option OpenLink) → link_at other facts.links ≡ found → first_taken link_of (notes_of (Some octets)) ≡ None
      on_link words other heard same on are None absent =
          ap (first_taken link_of) (are ∙ unfound setup (worded words setup other facts) other heard (worded_here words setup other facts None absent))
      on_link words other heard same on are (Some link) is =
          let now = worded words setup other facts in
          let there = link_worded words setup facts link in
          let there_at : link_at other now.links ≡ Some there = worded_here words setup other facts (Some link) is in
          let more = events_then setup now other heard in
          let unread : good_pdu there.setup (facts_in there) heard ≡ None =
          worded_good link there (words_are words setup facts link) heard ∙ ap (good_pdu link.setup (facts_in link)) same
          ∙ forged_unread link.setup (facts_in link) octets (sym (judged_link facts other link octets on is) ∙ forged) in
          ap (first_taken link_of)
          (are ∙ on_link_parts setup now other heard ∙ (λ i. notes_taken facts.turn.slot (has_room setup now) (there_at i) heard ++ more)
          ∙ (λ i. received_notes there.setup facts.turn.slot (has_room setup now) (unread i) (facts_in there) ++ more))
          ∙ first_none link_of more (events_none setup now other heard)

      by : IsPhaseOf setup facts (Some octets) → first_taken link_of (notes_of (Some octets)) ≡ None
      by (IsPlainPhase none plain) =
          first_none link_of (notes_of (Some octets)) (all_more HasNoData TakesNone (λ note has. has.takes) (notes_of (Some octets)) plain)
      by (IsOnLink other words heard some listens heard_is) =
          on_link words other heard (let told : Some heard ≡ Some octets = sym some in cc) (listens other ∙ same_number other)
          (on_link_notes setup facts (Some octets) heard (link_heard setup other heard (worded words setup other facts)) some (ap notes_passed heard_is))
          (link_at other facts.links) refl

  -- what is received on a link: the notes are those of the link with words
  module _ (octets : List ℕ) (handle : ℕ) (link : OpenLink) (is_open : link_at handle facts.links ≡ Some link)
      (on : listens_under handle facts.turn.doing ≡ true) (link_of : ℕ → ℕ) where
    heard_first : (first : Option PduLine)
        → ((there : OpenLink) → IsWordedAs link there → (later : List Note) → All TakesNone later
        → first_taken link_of (notes_taken facts.turn.slot (has_room setup facts) (Some there) octets ++ later) ≡ first)
        → first_taken link_of (notes_of (Some octets)) ≡ first
    heard_first first is = by (phase_of setup facts (Some octets))
      where
        by : IsPhaseOf setup facts (Some octets) → first_taken link_of (notes_of (Some octets)) ≡ first
        by (IsPlainPhase none plain) = absurd (let h : Some octets ≡ None = none handle on in absurd cc)
        by (IsOnLink other words heard some listens heard_is) =
            let same = eqb-true other handle (sym (listens handle) ∙ on) in
            let equal : heard ≡ octets = let told : Some heard ≡ Some octets = sym some in cc in
            let now = worded words setup other facts in
            let there = link_worded words setup facts link in
            let there_at : link_at other now.links ≡ Some there = worded_here words setup other facts (Some link) (ap (λ n. link_at n facts.links) same ∙ is_open) in
            let more = events_then setup now other heard in
            ap (first_taken link_of)
            (on_link_notes setup facts (Some octets) heard (link_heard setup other heard now) some (ap notes_passed heard_is) ∙ on_link_parts setup now other heard
            ∙ (λ i. notes_taken facts.turn.slot (has_room setup facts) (there_at i) (equal i) ++ more))
            ∙ is there (words_are words setup facts link) more (events_none setup now other heard)

-- ---- the PDU that the other end sent

-- the link takes this PDU, as it reads that of this end, if there is room and it has not left by then
abbrev takes_of : OpenLink → OpenLink → Pdu → (room left : Bool) → Bool
takes_of link from pdu room left =
    (is_accepted room (has_new_pdu (facts_in link) (header_sent (facts_in from))) pdu && (is_empty pdu || not left)) && not (is_empty pdu)

-- the LL_TERMINATE_IND of the link is acknowledged as it looks at the PDU of this packet
abbrev pub left_hearing : ℕ → OpenLink → List ℕ → Leaving
left_hearing slot link octets = leaving_hearing link.setup.link.role slot (good_pdu link.setup (facts_in link) octets) (facts_in link)

-- where one of two PDUs with the same LLID is empty, so is the other one, and where one is data
data_by : (llid : ℕ) (one other : Bool) → (llid == 0 || one) ≡ (llid == 0 || other)
    → ((llid == 1 || llid == 2) && not one) ≡ ((llid == 1 || llid == 2) && not other)
data_by llid one other same = by (llid == 0) refl same
  where
    by : (reserved : Bool) → (llid == 0) ≡ reserved → (reserved || one) ≡ (reserved || other)
        → ((llid == 1 || llid == 2) && not one) ≡ ((llid == 1 || llid == 2) && not other)
    by true is same =
        let equal = eqb-true llid 0 is in
        ap (λ n. (n == 1 || n == 2) && not one) equal ∙ sym (ap (λ n. (n == 1 || n == 2) && not other) equal)
    by false is same = ap (λ b. (llid == 1 || llid == 2) && not b) same

-- the body of a PDU in these octets
abbrev body_of : Option (List ℕ) → List ℕ
body_of None = []
body_of (Some octets) = drop 2 octets

-- an end on the channel of the other one hears its packet whole
module _ (whole : IsHeardWhole) (from to : EndSetup) (sender listener : EndFacts) (readable : IsReadable sender) (fields : from.link.fields ≡ to.link.fields)
    (channel : sender.event.channel ≡ listener.event.channel) where
  pub heard_there : heard_of to listener (packet_sent from sender) ≡ Whole (record { items = air_octets sender })
  unfolding packet_sent
  heard_there =
      (λ i. heard_in (sym channel i) ((sym fields i).access) ((sym fields i).crc_init) (packet_sent from sender))
      ∙ whole sender.event.channel from.link.fields.access from.link.fields.crc_init (air_octets sender)
      (in_form (length (payload_sent sender)) (payload_short sender readable))

module _ (whole : IsHeardWhole) (slot : ℕ) (link from : OpenLink) (octets : List ℕ) (readable : IsReadable (facts_in from))
    (fields : from.setup.link.fields ≡ link.setup.link.fields) (packet : octets ≡ packet_sent from.setup (facts_in from))
    (channel : (facts_in from).event.channel ≡ (facts_in link).event.channel) (judged : verdict_of link.setup (facts_in link) octets ≡ Good) where
  abbrev sender : EndFacts
  sender = facts_in from

  abbrev listener : EndFacts
  listener = facts_in link

  pub read : IsGood whole from.setup link.setup sender listener readable fields channel
  read = read_good whole from.setup link.setup sender listener readable fields channel (ap (verdict_of link.setup listener) (sym packet) ∙ judged)

  -- the PDU that the link reads, with the body that it opens
  abbrev pub pdu_read : Pdu
  pdu_read = record { llid = (pdu_sent sender).llid; body = read.body }

  abbrev read_octets : List ℕ
  read_octets = octets_of (header_sent sender) ++ read.body

  good : good_pdu link.setup listener octets ≡ Some read_octets
  good = ap (good_pdu link.setup listener) packet ∙ read.is.good

  header : header_in read_octets ≡ header_sent sender
  header = (has_header sender listener readable.llid read.body).read

  pdu_is : pdu_of read_octets ≡ pdu_read
  pdu_is = pdu_with_header sender listener readable read.body

  pub empty_is : is_empty pdu_read ≡ is_empty (pdu_sent sender)
  empty_is = read.is.is_body.empty

  data_is : is_data pdu_read ≡ is_data (pdu_sent sender)
  data_is = data_by (pdu_sent sender).llid (length read.body == 0) (length (pdu_sent sender).body == 0) empty_is

  -- it opens the payload of a PDU that is new and not empty
  opens_counting : has_new_pdu listener (header_sent sender) ≡ true → is_empty (pdu_sent sender) ≡ false
      → Some read_octets ≡ opened_pdu listener.encryption.end (air_octets sender)
  opens_counting new some =
      let counts : counts_here listener (air_octets sender) ≡ true =
      (λ i. has_new_pdu listener ((has_header sender listener readable.llid (payload_sent sender)).read i) && not (is_empty (air_read sender listener readable.llid i)))
      ∙ (λ i. new i && not ((readable.payload.empty ∙ some) i)) in
      sym read.is.read ∙ ap (λ b. read_pdu b listener.encryption.end (air_octets sender)) counts

  pub body_is : has_new_pdu listener (header_sent sender) ≡ true → is_empty (pdu_sent sender) ≡ false
      → pdu_read.body ≡ opened_body listener.encryption.end (payload_sent sender)
  body_is new some = by (is_right listener.encryption.end (first_octet (air_octets sender)) (payload_sent sender)) (opens_counting new some)
    where
      by : (right : Bool) → Some read_octets ≡ opened_if right listener.encryption.end (air_octets sender)
          → pdu_read.body ≡ opened_body listener.encryption.end (payload_sent sender)
      by true is = ap body_of is
      by false is = absurd (let h : Some read_octets ≡ None = is in absurd cc)

  -- what it hears on its channel
  pub hears_whole : heard_of link.setup listener octets ≡ Whole (record { items = air_octets sender })
  hears_whole = ap (heard_of link.setup listener) packet ∙ heard_there whole from.setup link.setup sender listener readable fields channel

  -- that it takes the PDU is the first of its notes that takes one, also where it was given words before
  took_as : (room : Bool) (there : OpenLink) → IsWordedAs link there → (link_of : ℕ → ℕ) (later : List Note) → All TakesNone later
      → first_taken link_of (notes_taken slot room (Some there) octets ++ later)
      ≡ pdu_line_if (takes_of link from pdu_read room (left_hearing slot link octets).acknowledged) (link_of link.setup.link.handle) (numbered (ack_of link).accepted + 1) pdu_read
  took_as room there words link_of later none =
      let setup = link.setup in
      let role = setup.link.role in
      let count = numbered listener.acknowledgement.accepted + 1 in
      let is = worded_good link there words octets ∙ good in
      let left : leaving_hearing role slot (Some read_octets) (with_response words.response listener) ≡ left_hearing slot link octets =
      leaving_still role slot (Some read_octets) words.response listener ∙ ap (λ found. leaving_hearing role slot found listener) (sym good) in
      (λ i. first_taken link_of (received_notes (words.setup_is i) slot room (is i) (words.facts_is i) ++ later))
      ∙ hearing_first setup (with_response words.response listener) slot room (header_in read_octets) (pdu_of read_octets) later none link_of
      ∙ (λ i. pdu_line_if
      ((is_accepted room (has_new_pdu listener (header i)) (pdu_is i) && (is_empty (pdu_is i) || not (left i).acknowledged)) && not (is_empty (pdu_is i)))
      (link_of setup.link.handle) count (pdu_is i))

-- ---- how many PDUs were sent and accepted

-- how many PDUs of these shapes are not empty
abbrev shapes_numbered : List Shape → ℕ
shapes_numbered shapes = length (nonempty (λ (s : Shape). s.empty) shapes)

numbered_by : (empty : Bool) (shape : Shape) (pdu : Pdu) (shapes : List Shape) (pdus : List Pdu) → length shapes ≡ length pdus
    → length (cond (not empty) (shape ∷ shapes) shapes) ≡ length (cond (not empty) (pdu ∷ pdus) pdus)
numbered_by true shape pdu shapes pdus same = same
numbered_by false shape pdu shapes pdus same = ap suc same

numbered_as : (pdus : List Pdu) → shapes_numbered (map shape_of pdus) ≡ numbered pdus
numbered_as [] = refl
numbered_as (pdu ∷ pdus) =
    numbered_by (is_empty pdu) (shape_of pdu) pdu (nonempty (λ (s : Shape). s.empty) (map shape_of pdus))
    (filter (λ (one : Pdu). not (is_empty one)) pdus) (numbered_as pdus)

one_numbered : (shapes : List Shape) (shape : Shape) → shape.empty ≡ false → shapes_numbered (shapes ++ shape ∷ []) ≡ shapes_numbered shapes + 1
one_numbered shapes shape some =
    ap length (filter-append (λ (s : Shape). not s.empty) shapes (shape ∷ [])
    ∙ ap (λ b. nonempty (λ (s : Shape). s.empty) shapes ++ cond (not b) (shape ∷ []) []) some)
    ∙ length-append (nonempty (λ (s : Shape). s.empty) shapes) (shape ∷ [])

module _ (sender : EndFacts) (one : Acknowledgement) (agreed : AgreeInShape (sent_ack sender) one) where
  abbrev pub fresh : Bool
  fresh = is_new (bits_of one) (header_sent sender)

  abbrev all_sent : List Shape
  all_sent = map shape_of (sent_ack sender).sent

  abbrev all_accepted : List Shape
  all_accepted = map shape_of one.accepted

  -- a new PDU is one more than were accepted
  fresh_more : fresh ≡ true → is_empty (pdu_sent sender) ≡ false → numbered (sent_ack sender).sent ≡ numbered one.accepted + 1
  fresh_more is some =
      let sent = (sent_ack sender).sent in
      let more : length sent ≡ length one.accepted + 1 = eqb-true (length sent) (length one.accepted + 1) (sym (shapes_fresh sender one agreed) ∙ is) in
      let place : length all_accepted ≡ length all_sent - 1 = omega (arith, more, length-map one.accepted shape_of, length-map sent shape_of) in
      let front : all_accepted ≡ take (length all_sent - 1) all_sent = agreed.from_a.reliable.in_order ∙ ap (λ n. take n all_sent) place in
      let last = shape_of (sent_ack sender).last in
      sym (numbered_as sent) ∙ ap shapes_numbered (last_again all_sent last agreed.from_a.last ∙ ap (λ xs. xs ++ last ∷ []) (sym front))
      ∙ one_numbered all_accepted last some ∙ ap (λ n. n + 1) (numbered_as one.accepted)

  -- of one that is not new, all that were sent were accepted
  pub old_same : fresh ≡ false → numbered (sent_ack sender).sent ≡ numbered one.accepted
  old_same is =
      let sent = (sent_ack sender).sent in
      let differs = eqb-false (length sent) (length one.accepted + 1) (sym (shapes_fresh sender one agreed) ∙ is) in
      let high = shapes_high sender one agreed in
      let all : length all_sent ≤ length all_accepted = omega (arith, differs, high, length-map one.accepted shape_of, length-map sent shape_of) in
      sym (numbered_as sent) ∙ ap shapes_numbered (sym (agreed.from_a.reliable.in_order ∙ take_all (length all_accepted) all_sent all)) ∙ numbered_as one.accepted

one_less : (n : ℕ) → nat_lt n (n + 1) ≡ true
one_less n = grind (arith, nat_tests)

none_less : (n : ℕ) → nat_lt n n ≡ false
none_less n = grind (arith, nat_tests)

same_line : (new empty fits left : Bool) (sent accepted number : ℕ) (pdu : Pdu) → (new ≡ true → empty ≡ false → sent ≡ accepted + 1) → (new ≡ false → sent ≡ accepted)
    → pdu_line_if (nat_lt accepted sent && not empty && fits && not left) number sent pdu
    ≡ pdu_line_if (((new && fits) && (empty || not left)) && not empty) number (accepted + 1) pdu
same_line new true fits left sent accepted number pdu more same =
    ap (λ b. pdu_line_if (b && fits && not left) number sent pdu) (and-false (nat_lt accepted sent))
    ∙ sym (ap (λ b. pdu_line_if b number (accepted + 1) pdu) (and-false ((new && fits) && (true || not left))))
same_line true false fits left sent accepted number pdu more same =
    let is = more refl refl in
    (λ i. pdu_line_if (nat_lt accepted (is i) && true && fits && not left) number (is i) pdu)
    ∙ ap (λ b. pdu_line_if (b && true && fits && not left) number (accepted + 1) pdu) (one_less accepted) ∙ all_by (fits && not left)
  where
    all_by : (takes : Bool) → pdu_line_if takes number (accepted + 1) pdu ≡ pdu_line_if (takes && true) number (accepted + 1) pdu
    all_by true = refl
    all_by false = refl
same_line false false fits left sent accepted number pdu more same =
    let is = same refl in
    (λ i. pdu_line_if (nat_lt accepted (is i) && true && fits && not left) number (is i) pdu)
    ∙ ap (λ b. pdu_line_if (b && true && fits && not left) number accepted pdu) (none_less accepted)

either_way : (carries room : Bool) → (not carries || room) ≡ (room || not carries)
either_way true true = refl
either_way true false = refl
either_way false true = refl
either_way false false = refl

-- a station that receives the packet of the other end of its link takes the last PDU that was sent, as it reads that, where
-- it has not yet, has room for it, and has not left the link
pub taken_as : (whole : IsHeardWhole) (link_of : ℕ → ℕ) (setup : Setup) (facts : Facts) (octets : List ℕ) (handle number : ℕ) (link from : OpenLink)
    → link_at handle facts.links ≡ Some link → listens_under handle facts.turn.doing ≡ true
    → link_of link.setup.link.handle ≡ number → (readable : IsReadable (facts_in from)) (fields : from.setup.link.fields ≡ link.setup.link.fields)
    (packet : octets ≡ packet_sent from.setup (facts_in from)) (channel : (facts_in from).event.channel ≡ (facts_in link).event.channel)
    (judged : verdict_of link.setup (facts_in link) octets ≡ Good) → AgreeInShape (sent_ack (facts_in from)) (ack_of link)
    → pdu_line_if
    (nat_lt (numbered (ack_of link).accepted) (numbered (sent_ack (facts_in from)).sent) && not (is_empty (pdu_sent (facts_in from)))
    && (not (is_data (pdu_sent (facts_in from))) || has_room setup facts) && not (left_hearing facts.turn.slot link octets).acknowledged)
    number (numbered (sent_ack (facts_in from)).sent) (pdu_read whole facts.turn.slot link from octets readable fields packet channel judged)
    ≡ first_taken link_of (notes_after setup facts (step_of (Some octets)))
taken_as whole link_of setup facts octets handle number link from is_open on number_is readable fields packet channel judged agreed =
    let sender = facts_in from in
    let slot = facts.turn.slot in
    let taken = pdu_read whole slot link from octets readable fields packet channel judged in
    let accepted = numbered (ack_of link).accepted in
    let left = (left_hearing slot link octets).acknowledged in
    let sent = numbered (sent_ack sender).sent in
    let empty = empty_is whole slot link from octets readable fields packet channel judged in
    let carries = data_is whole slot link from octets readable fields packet channel judged in
    let room = has_room setup facts in
    (λ i. pdu_line_if (nat_lt accepted sent && not (sym empty i) && (not (sym carries i) || room) && not left) number sent taken)
    ∙ same_line (fresh sender (ack_of link) agreed) (is_empty taken) (not (is_data taken) || room) left sent accepted number taken
    (λ new some. fresh_more sender (ack_of link) agreed new (sym empty ∙ some)) (old_same sender (ack_of link) agreed)
    ∙ ap (λ b. pdu_line_if (((fresh sender (ack_of link) agreed && b) && (is_empty taken || not left)) && not (is_empty taken)) number (accepted + 1) taken)
    (either_way (is_data taken) room)
    ∙ ap (λ n. pdu_line_if (takes_of link from taken room left) n (accepted + 1) taken) (sym number_is)
    ∙ sym (heard_first setup facts octets handle link is_open on link_of _
    (λ there words later none. took_as whole slot link from octets readable fields packet channel judged room there words link_of later none))

-- where it takes one, the PDU is new
pub taken_is_new : (sender : EndFacts) (one : Acknowledgement) (agreed : AgreeInShape (sent_ack sender) one)
    → nat_lt (numbered one.accepted) (numbered (sent_ack sender).sent) ≡ true → fresh sender one agreed ≡ true
taken_is_new sender one agreed more = by (fresh sender one agreed) refl
  where
    by : (new : Bool) → fresh sender one agreed ≡ new → new ≡ true
    by true is = refl
    by false is =
        absurd (let h : true ≡ false = sym more ∙ ap (nat_lt (numbered one.accepted)) (old_same sender one agreed is) ∙ none_less (numbered one.accepted) in absurd cc)

-- The note of a new PDU in a call: it is the last one of its call, and is of an end that was open before.
use Rattle.std.proofs.Common.{◌≡◌, ℕ, ◌+◌, ◌&&◌, not, Bool, true, false, Option, Some, None, List, [], ◌∷◌, ◌++◌, refl, sym, ap, subst, ◌∙◌, append-nil}
use Rattle.std.specs.Prelude.{All}
use Rattle.std.proofs.lemmas.List.Elements.{All-head, All-tail}
use Rattle.ble_base.specs.declared.notes.Note.{Note}
use Rattle.journal_leaving.specs.controller_model.Facts.{Facts, Setup}
use Rattle.journal_leaving.specs.controller_model.Heard.{has_room, link_heard, link_received, replies_in, reply_if}
use Rattle.journal_leaving.specs.controller_model.Outcome.{notes_passed}
use Rattle.journal_leaving.specs.controller_model.Packets.{notes_doing, notes_sent}
use Rattle.journal_leaving.specs.controller_model.Radio.{outcome_begun}
use Rattle.journal_leaving.specs.controller_model.Side.{facts_after, notes_after}
use Rattle.journal_leaving.specs.controller_model.Step.{Step, HostOctet, PacketHeard, TurnBegins, TurnEnds}
use Rattle.journal_leaving.proofs.controller_model.Handles.{HaveOwnHandles}
use Rattle.journal_leaving.proofs.controller_model.Places.{link_receiving}
use Rattle.journal_leaving.specs.journal_acks.link_calls.Uses.{listens_under, sends_under}
use Rattle.journal_leaving.specs.link_model.Acknowledgement.{Acknowledgement, Pdu, is_acked}
use Rattle.journal_leaving.specs.link_model.Controls.{pdu_fixed}
use Rattle.journal_leaving.specs.link_model.Data.{is_empty, numbered}
use Rattle.journal_leaving.specs.link_model.Numbers.{sent_note}
use Rattle.journal_leaving.specs.link_model.Sending.{sent_notes, sent_notes_if}
use Rattle.journal_leaving.specs.link_model.Setup.{Setup as EndSetup}
use Rattle.journal_leaving.specs.link_model.Step.{PacketSent}
use Rattle.journal_leaving.specs.journal_data.open_links.OpenLinks.{OpenLink, facts_in, link_after, link_at}
use Rattle.journal_leaving.specs.run_model.Run.{step_of}
use Rattle.journal_leaving.proofs.journal_data.Openness.{AreNot}
use Rattle.journal_leaving.proofs.journal_acks.Worded.{link_worded, received_ack_is, worded, worded_heard, worded_here, worded_setup}
use Rattle.journal_fixing.proofs.journal_controls.Replies.{IsReply, replies_as, worded_reply, words_are}
use Rattle.journal_leaving.proofs.journal_acks.DataCalls.{own_begun, received_at, sent_at, unfound}
use Rattle.journal_leaving.proofs.journal_acks.PhaseNotes.{IsOnLink, IsPhaseOf, IsPlainPhase, SendsFrom, SendsNothing, SendsOne, phase_of, sends_from}
use Rattle.journal_leaving.proofs.journal_acks.PhaseNotes.{sent_same}
use Rattle.journal_leaving.proofs.journal_acks.TwoStations.{same_number}
use Rattle.journal_leaving.proofs.journal_acks.link_calls.CallNotes.{HasNoData, SendsNone, all_more, end_noted, is_sending, no_data, notes_starting}
use Rattle.journal_leaving.proofs.journal_acks.link_calls.CallNotes.{octet_noted, start_noted}
use Rattle.journal_leaving.proofs.journal_acks.link_calls.LinkCalls.{base_ack, begins_under, received_noted, taking_sends}
use Rattle.journal_leaving.proofs.journal_data.open_links.Handles.{handle_is}
use Rattle.journal_leaving.proofs.journal_data.run_laws.Agreed.{ack_of}
use Rattle.journal_leaving.proofs.journal_packets.Replies.{receiving_setup as received_setup_is}

-- ---- a new PDU is noted last in its call

pub data IsSentLast (P : ℕ → ℕ → Type 0) (notes : List Note) : Type 0 where
  SendsNoNew : AreNot is_sending notes → IsSentLast P notes
  SendsNewLast : (starts : List Note) (handle count : ℕ) (pdu : Pdu) → notes ≡ starts ++ sent_note handle count pdu ∷ [] → AreNot is_sending starts
      → P handle count → IsSentLast P notes

pub more_last : (P Q : ℕ → ℕ → Type 0) (notes : List Note) → ((handle count : ℕ) → P handle count → Q handle count) → IsSentLast P notes → IsSentLast Q notes
more_last P Q notes more (SendsNoNew none) = SendsNoNew none
more_last P Q notes more (SendsNewLast starts handle count pdu are none is) = SendsNewLast starts handle count pdu are none (more handle count is)

-- the notes before one of a new PDU send none
pub record IsAfterNone (P : ℕ → ℕ → Type 0) (earlier : List Note) (handle count : ℕ) : Type 0 where
  pub none : AreNot is_sending earlier
  pub is : P handle count

no_later : {X : Type 0} (earlier later : List Note) (note : Note) → [] ≡ earlier ++ note ∷ later → X
no_later [] later note is = absurd cc
no_later (first ∷ earlier) later note is = absurd cc

sends_one : {X : Type 0} (earlier later : List Note) (handle count : ℕ) (pdu : Pdu) → AreNot is_sending (earlier ++ sent_note handle count pdu ∷ later) → X
sends_one [] later handle count pdu none = absurd (let h : true ≡ false = none.0 in absurd cc)
sends_one (first ∷ earlier) later handle count pdu none = sends_one earlier later handle count pdu none.1

record AreSame (handle handle_too count count_too : ℕ) : Type 0 where
  handles : handle ≡ handle_too
  counts : count ≡ count_too

same_notes : (handle count handle_too count_too : ℕ) (pdu other : Pdu) → sent_note handle count pdu ≡ sent_note handle_too count_too other
    → AreSame handle handle_too count count_too
same_notes handle count handle_too count_too pdu other is = record { handles = cc; counts = cc }

found_last : (P : ℕ → ℕ → Type 0) (starts earlier later : List Note) (handle count handle_too count_too : ℕ) (pdu other : Pdu)
    → starts ++ sent_note handle count pdu ∷ [] ≡ earlier ++ sent_note handle_too count_too other ∷ later → AreNot is_sending starts → P handle count
    → IsAfterNone P earlier handle_too count_too
found_last P [] [] later handle count handle_too count_too pdu other are none is =
    let first : sent_note handle count pdu ≡ sent_note handle_too count_too other = cc in
    let same = same_notes handle count handle_too count_too pdu other first in
    record { none = tt; is = subst (λ n. P n count_too) same.handles (subst (P handle) same.counts is) }
found_last P [] (one ∷ earlier) later handle count handle_too count_too pdu other are none is =
    let rest : [] ≡ earlier ++ sent_note handle_too count_too other ∷ later = cc in
    no_later earlier later (sent_note handle_too count_too other) rest
found_last P (first ∷ starts) [] later handle count handle_too count_too pdu other are none is =
    let same : first ≡ sent_note handle_too count_too other = cc in
    absurd (let h : true ≡ false = sym (ap is_sending same) ∙ none.0 in absurd cc)
found_last P (first ∷ starts) (one ∷ earlier) later handle count handle_too count_too pdu other are none is =
    let heads : first ≡ one = cc in
    let tails : starts ++ sent_note handle count pdu ∷ [] ≡ earlier ++ sent_note handle_too count_too other ∷ later = cc in
    let rest = found_last P starts earlier later handle count handle_too count_too pdu other tails none.1 is in
    record { none = (ap is_sending (sym heads) ∙ none.0, rest.none); is = rest.is }

pub found_in : (P : ℕ → ℕ → Type 0) (notes earlier later : List Note) (handle count : ℕ) (pdu : Pdu) → notes ≡ earlier ++ sent_note handle count pdu ∷ later
    → IsSentLast P notes → IsAfterNone P earlier handle count
found_in P notes earlier later handle count pdu are (SendsNoNew none) = sends_one earlier later handle count pdu (subst (AreNot is_sending) are none)
found_in P notes earlier later handle count pdu are (SendsNewLast starts own number sent notes_are none is) =
    found_last P starts earlier later own number handle count sent pdu (sym notes_are ∙ are) none is

-- ---- the notes that send none

none_sent : (notes : List Note) → All SendsNone notes → AreNot is_sending notes
none_sent [] all = tt
none_sent (note ∷ notes) all = (All-head SendsNone note notes all, none_sent notes (All-tail SendsNone note notes all))

plain_sent : (notes : List Note) → All HasNoData notes → AreNot is_sending notes
plain_sent notes all = none_sent notes (all_more HasNoData SendsNone (λ note has. has.sends) notes all)

sent_if : (P : ℕ → ℕ → Type 0) (starts : List Note) (base : OpenLink) (noted : Bool) → AreNot is_sending starts
    → P base.setup.link.handle (numbered (ack_of base).sent + 1)
    → IsSentLast P (starts ++ sent_notes_if noted base.setup.link.handle (numbered (ack_of base).sent) (pdu_fixed (facts_in base)))
sent_if P starts base true none is =
    SendsNewLast starts base.setup.link.handle (numbered (ack_of base).sent + 1) (pdu_fixed (facts_in base)) refl none is
sent_if P starts base false none is = SendsNoNew (subst (AreNot is_sending) (sym (append-nil starts)) none)

sent_by : (P : ℕ → ℕ → Type 0) (starts : List Note) (base : OpenLink) → AreNot is_sending starts
    → P base.setup.link.handle (numbered (ack_of base).sent + 1) → IsSentLast P (starts ++ sent_notes base.setup (facts_in base))
sent_by P starts base none is = sent_if P starts base (is_acked (ack_of base) && not (is_empty (pdu_fixed (facts_in base)))) none is

-- ---- the end that sends it

-- in this call the end under a handle, open before it, sends the new PDU with this number: a central as its turn begins,
-- or a peripheral that answers a packet
pub data IsSentIn (setup : Setup) (facts : Facts) (step : Step) (handle count : ℕ) : Type 0 where
  SendsFirst : (slot : ℕ) (on : Bool) (old link : OpenLink) → step ≡ TurnBegins slot on → link_at handle facts.links ≡ Some old
      → link_at handle (facts_after setup facts (TurnBegins slot on)).links ≡ Some link → sends_under handle (facts_after setup facts (TurnBegins slot on)).turn.doing ≡ true
      → count ≡ numbered (ack_of old).sent + 1 → IsSentIn setup facts step handle count
  Answers : (octets : List ℕ) (link : OpenLink) → step ≡ PacketHeard octets → link_at handle facts.links ≡ Some link → listens_under handle facts.turn.doing ≡ true
      → IsReply link.setup (facts_in link) octets → count ≡ numbered (ack_of link).sent + 1 → IsSentIn setup facts step handle count

module _ (setup : Setup) (facts : Facts) (own : HaveOwnHandles setup facts) where
  pub begin_last : (slot : ℕ) (on : Bool) → IsSentLast (IsSentIn setup facts (TurnBegins slot on)) (notes_after setup facts (TurnBegins slot on))
  begin_last slot on = by (sends_from (outcome_begun slot on facts).next (outcome_begun slot on facts).facts)
    where
      none : AreNot is_sending (notes_starting slot facts)
      none = plain_sent (notes_starting slot facts) (start_noted HasNoData no_data slot facts)

      by : SendsFrom (outcome_begun slot on facts).next (outcome_begun slot on facts).facts
          → IsSentLast (IsSentIn setup facts (TurnBegins slot on)) (notes_after setup facts (TurnBegins slot on))
      by (SendsNothing nothing) =
          let start = notes_starting slot facts in
          SendsNoNew (subst (λ (more : List Note). AreNot is_sending (start ++ more)) (sym nothing) (subst (AreNot is_sending) (sym (append-nil start)) none))
      by (SendsOne other base found sends noted) =
          let P = IsSentIn setup facts (TurnBegins slot on) in
          let start = notes_starting slot facts in
          let outcome = outcome_begun slot on facts in
          let after = link_after (PacketSent outcome.facts.turn.slot) base in
          let sent = sent_at outcome.facts.turn.slot other outcome.next outcome.facts.links base sends found in
          let begun = begins_under setup facts slot on other after sent in
          let same_handle = handle_is 0 other outcome.facts.links base (own_begun setup slot on facts own).handles found in
          let base_is : begun.base ≡ base = let some : Some begun.base ≡ Some base = sym begun.found ∙ found in cc in
          let sent_is : (ack_of base).sent ≡ (ack_of begun.link).sent =
          ap (λ (l : OpenLink). (ack_of l).sent) (sym base_is) ∙ ap (λ (a : Acknowledgement). a.sent) (base_ack facts slot on other _ after begun) in
          subst (λ (more : List Note). IsSentLast P (start ++ more)) (sym noted)
          (sent_by P start base none
          (subst (λ n. P n (numbered (ack_of base).sent + 1)) (sym same_handle)
          (SendsFirst slot on begun.link after refl begun.was sent sends (ap (λ (pdus : List Pdu). numbered pdus + 1) sent_is))))

  -- a link that may be given words before it hears the packet
  reply_last : (words : Bool) (other : ℕ) (octets : List ℕ) (base : OpenLink) (starts : List Note) (replies : Bool) → link_at other facts.links ≡ Some base → AreNot is_sending starts
      → listens_under other facts.turn.doing ≡ true
      → let now = worded words setup other facts in replies_in facts.turn.slot (has_room setup facts) (link_at other now.links) octets ≡ replies
      → IsSentLast (IsSentIn setup facts (PacketHeard octets)) (starts ++ notes_doing (reply_if replies other) (link_received other (has_room setup facts) octets now))
  reply_last words other octets base starts false was none listens answers = SendsNoNew (subst (AreNot is_sending) (sym (append-nil starts)) none)
  reply_last words other octets base starts true was none listens answers =
      let P = IsSentIn setup facts (PacketHeard octets) in
      let room = has_room setup facts in
      let slot = facts.turn.slot in
      let now = worded words setup other facts in
      let there = link_worded words setup facts base in
      let there_at = worded_here words setup other facts (Some base) was in
      let taken = link_receiving other room octets now there in
      let reply = worded_reply base there (words_are words setup facts base) octets
      (replies_as there.setup (facts_in there) slot octets room (ap (λ found. replies_in slot room found octets) (sym there_at) ∙ answers)) in
      let same_handle = ap (λ (s : EndSetup). s.link.handle) (received_setup_is other room octets now there ∙ worded_setup setup facts base words) ∙ handle_is 0 other facts.links base own.handles was in
      let sent_is : (ack_of taken).sent ≡ (ack_of base).sent =
      ap (λ (a : Acknowledgement). a.sent) (received_ack_is other room octets now there ∙ worded_heard setup facts base words slot octets room) ∙ (sent_same slot octets room base).sent in
      subst (λ (more : List Note). IsSentLast P (starts ++ more)) (sym (ap (notes_sent slot) (received_at other octets room now there there_at)))
      (sent_by P starts taken none
      (subst (λ n. P n (numbered (ack_of taken).sent + 1)) (sym same_handle)
      (Answers octets base refl was listens reply (ap (λ (pdus : List Pdu). numbered pdus + 1) sent_is))))

  heard_last : (words : Bool) (octets : List ℕ) (other : ℕ) (found : Option OpenLink) → link_at other facts.links ≡ found → listens_under other facts.turn.doing ≡ true
      → IsSentLast (IsSentIn setup facts (PacketHeard octets)) (notes_passed (link_heard setup other octets (worded words setup other facts)))
  heard_last words octets other None absent listens =
      subst (IsSentLast (IsSentIn setup facts (PacketHeard octets)))
      (sym (unfound setup (worded words setup other facts) other octets (worded_here words setup other facts None absent))) (SendsNoNew tt)
  heard_last words octets other (Some base) was listens =
      let now = worded words setup other facts in
      let taken = (link_heard setup other octets now).notes in
      reply_last words other octets base taken (replies_in facts.turn.slot (has_room setup facts) (link_at other now.links) octets) was
      (none_sent taken (received_noted SendsNone taking_sends setup other octets now)) listens refl

  pub phase_last : (received : Option (List ℕ)) → IsSentLast (IsSentIn setup facts (step_of received)) (notes_after setup facts (step_of received))
  phase_last received = by (phase_of setup facts received)
    where
      by : IsPhaseOf setup facts received → IsSentLast (IsSentIn setup facts (step_of received)) (notes_after setup facts (step_of received))
      by (IsPlainPhase nothing none) = SendsNoNew (plain_sent (notes_after setup facts (step_of received)) none)
      by (IsOnLink other words octets some listens heard_is) =
          subst (λ may. IsSentLast (IsSentIn setup facts (step_of may)) (notes_after setup facts (step_of may))) (sym some)
          (subst (IsSentLast (IsSentIn setup facts (PacketHeard octets))) (sym (ap notes_passed heard_is))
          (heard_last words octets other (link_at other facts.links) refl (listens other ∙ same_number other)))

pub octet_last : (P : ℕ → ℕ → Type 0) (setup : Setup) (facts : Facts) (octet : ℕ) → IsSentLast P (notes_after setup facts (HostOctet octet))
octet_last P setup facts octet = SendsNoNew (plain_sent (notes_after setup facts (HostOctet octet)) (octet_noted HasNoData no_data.feeds setup facts octet))

pub end_last : (P : ℕ → ℕ → Type 0) (setup : Setup) (facts : Facts) → IsSentLast P (notes_after setup facts TurnEnds)
end_last P setup facts = SendsNoNew (plain_sent (notes_after setup facts TurnEnds) (end_noted HasNoData no_data.feeds setup facts))

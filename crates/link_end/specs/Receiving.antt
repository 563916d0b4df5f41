-- What an end holds, notes and gives as it receives a packet (Core 5.2, volume 6 part B, sections 4.5.6, 4.5.9, 5.1).
use Rattle.std.specs.Prelude.{◌≡◌, ℕ, ◌+◌, ◌==◌, ◌&&◌, ◌||◌, not, Bool, true, false, List, [], ◌∷◌, ◌++◌, length, drop, Option, Some, None, is_some, if◌then◌else◌}
use Rattle.ble_base.specs.declared.notes.Note.{Note}
use Rattle.ble_base.specs.declared.notes.Note.TheVariants.{Took}
use Rattle.ble_base.specs.declared.procedure_kinds.Kind.{Kind}
use Rattle.ble_base.specs.declared.roles.Role.{Role}
use Rattle.ble_base.specs.declared.roles.Role.TheVariants.{Central, Peripheral}
use Rattle.arrayvec.specs.ArrayVec.{ArrayVec}
use Rattle.ack_bit.specs.AckBits.{AckBits, acknowledges, is_new}
use Rattle.acl_banks.specs.declared.pieces.Piece.{Piece}
use Rattle.air_frame.specs.Hearing.{heard_in}
use Rattle.data_pdu.specs.declared.header.DataHeader.{DataHeader}
use Rattle.data_pdu.specs.Header.{header_in}
use Rattle.control_end.specs.declared.answers.Taken.{Taken}
use Rattle.control_end.specs.Answers.{done_by_acknowledgement}
use Rattle.control_end.specs.procedure_stages.Closing.{is_open}
use Rattle.link_model.specs.phased_end.declared.taking.TakenKeyed.{TakenKeyed}
use Rattle.link_model.specs.phased_end.Held.{HeldKeyed, held_after}
use Rattle.link_model.specs.phased_end.Moves.{lasts}
use Rattle.link_model.specs.phased_end.Taking.{drawn, hearing_forged, is_handed, nothing_keyed, taken_keyed}
use Rattle.link_model.specs.phased_end.enc_phase.declared.facts.Transition.TheVariants.{Ask}
use Rattle.link_model.specs.phased_end.enc_phase.Phases.{may_follow}
use Rattle.link_model.specs.phased_end.enc_phase.Sealing.{EncEnd, is_right, opened_body}
use Rattle.link_model.specs.phased_end.keyed_control.KeyedSteps.{SeesAcknowledged, Takes, TakesData}
use Rattle.link_model.specs.unencrypted_ends.Unencrypted.{is_enc_req}
use Rattle.link_model.specs.Acknowledgement.{Pdu}
use Rattle.link_model.specs.Data.{is_control, is_data, is_empty}
use Rattle.link_model.specs.Events.{event_heard}
use Rattle.link_model.specs.Pieces.{kept_if}
use Rattle.link_model.specs.declared.state.KnownLengths.{KnownLengths}
use Rattle.link_model.specs.phased_end.control_end.procedure_values.declared.lengths.Lengths.{Lengths}
use Rattle.link_model.specs.phased_end.control_end.procedure_values.Limits.{rx_of, tx_of}
use Rattle.link_model.specs.Verdicts.{whole_in}
use Rattle.link_model.specs.Controls.{is_procedure_pdu, is_terminate, read_of}
use Rattle.link_model.specs.Entering.{done_notes}
use Rattle.link_model.specs.Payload.{end_accepting, first_octet, opens_now}
use Rattle.link_model.specs.Receiving.{kept_answered, code_of, given_notes, leaving_acked_if, leaving_by, lengths_reported, lengths_seen, peer_answered}
use Rattle.link_end.specs.declared.pdus.Got.{Got}
use Rattle.link_end.specs.Held.{Held, count_if}
use Rattle.link_end.specs.Pdus.{got_with, pdu_in}
use Rattle.link_end.specs.Sending.{held_gone_if, takes_leave}

-- ---- octets on its channel are a whole packet

-- the octets of its PDU, with its payload as it is on the air
abbrev pub whole_by : List ℕ → Held → Option (List ℕ)
whole_by octets held =
    whole_in held.setup.link.max_rx (opens_now held.control.end)
    (heard_in held.event.channel held.setup.link.fields.access held.setup.link.fields.crc_init octets)

-- a packet acknowledges the PDU that was sent last, if that is not acknowledged yet (section 4.5.9)
abbrev pub acks : Held → DataHeader → Bool
acks held header = not held.is_acked && acknowledges held.bits header

-- it is acknowledged by this packet, or was before, that this end ends the link (section 5.1.6)
abbrev pub ends_by : DataHeader → Held → Bool
ends_by header held = held.leaving.acknowledged || (acks held header && is_terminate held.last)

-- its PDU is accepted: data where there is room, and nothing after the own LL_TERMINATE_IND is acknowledged. The header
-- says so, and whether there are octets
abbrev pub accepts_by : Bool → DataHeader → ℕ → Held → Bool
accepts_by room header octets held =
    (is_new held.bits header && (room || not ((header.llid == 1 || header.llid == 2) && not (octets == 0))))
    && ((header.llid == 0 || octets == 0) || not (ends_by header held))

abbrev pub accepts : Bool → List ℕ → Held → Bool
accepts room pdu held = accepts_by room (header_in pdu) (length (drop 2 pdu)) held

-- a new PDU that is not empty is opened; where it is accepted its body is taken, and with it the counter
abbrev pub counts_by : DataHeader → ℕ → Held → Bool
counts_by header octets held = is_new held.bits header && not (header.llid == 0 || octets == 0)

abbrev pub counts : List ℕ → Held → Bool
counts pdu held = counts_by (header_in pdu) (length (drop 2 pdu)) held

abbrev pub takes_body : Bool → List ℕ → Held → Bool
takes_body room pdu held = accepts room pdu held && counts pdu held

-- the integrity code of what counts is right
abbrev pub right_if : Bool → EncEnd → List ℕ → Bool
right_if counts end pdu = if counts then is_right end (first_octet pdu) (drop 2 pdu) else true

abbrev pub body_if : Bool → EncEnd → List ℕ → List ℕ
body_if takes end pdu = if takes then opened_body end (drop 2 pdu) else []

-- the payload of a PDU with this first header octet, opened
abbrev pub opened_by : Bool → Bool → EncEnd → ℕ → List ℕ → Option (ArrayVec ℕ)
opened_by counts takes end header payload =
    if (if counts then is_right end header payload else true)
    then Some (record { items = (if takes then opened_body end payload else []) })
    else None

-- what an end takes of a whole packet, if that is not forged
abbrev pub got_if : Bool → Got → Option Got
got_if right got = if right then Some got else None

abbrev pub got_of : Bool → List ℕ → Held → Option Got
got_of room pdu held =
    got_if (right_if (counts pdu held) held.control.end pdu)
    (got_with pdu (accepts room pdu held) (body_if (takes_body room pdu held) held.control.end pdu))

-- what it takes of octets on its channel
abbrev pub got_in : Bool → Option (List ℕ) → Held → Option Got
got_in room None held = None
got_in room (Some pdu) held = got_of room pdu held

-- ---- it is a good packet, which reached it in this slot

-- the event and the last good packet (section 4.5.6)
abbrev pub held_heard : ℕ → Bool → Held → Held
held_heard slot more held =
    record held {
      event = event_heard slot more held.event;
      last_good = Some (record { slot = slot; event = held.event.number });
    }

-- the counter of a PDU that is taken
abbrev pub held_opened : Bool → Held → Held
held_opened takes held =
    record held { control = record held.control { end = end_accepting takes held.control.end } }

-- a forged packet ends the link, and does nothing else (section 5.1.3.1)
abbrev pub held_forged : Held → Held
held_forged held = record held { control = hearing_forged held.control }

abbrev pub held_read_if : Bool → ℕ → Bool → List ℕ → Held → Held
held_read_if right slot takes pdu held =
    if right then held_heard slot (header_in pdu).md (held_opened takes held) else held_forged held

-- what is held as octets are read
abbrev pub held_read : ℕ → Bool → Option (List ℕ) → Held → Held
held_read slot room None held = held
held_read slot room (Some pdu) held =
    held_read_if (right_if (counts pdu held) held.control.end pdu) slot (takes_body room pdu held) pdu held

-- ---- its own last PDU is acknowledged, or is not

-- the two bits: an acknowledgement advances SN, and an accepted PDU advances NESN (section 4.5.9)
abbrev pub bits_received : Bool → Bool → AckBits → AckBits
bits_received acked accepted bits =
    record {
      sn = (if acked then not bits.sn else bits.sn);
      nesn = (if accepted then not bits.nesn else bits.nesn);
    }

-- the procedures see it where the PDU is a control PDU; after its LL_PAUSE_ENC_RSP a central asks for encryption again
-- (section 5.1.3.2)
abbrev pub control_acked_if : Bool → HeldKeyed → HeldKeyed
control_acked_if acked control = if acked then held_after SeesAcknowledged control else control

-- the end does not take anything more where the PDU is LL_TERMINATE_IND (section 5.1.6)
abbrev pub held_acked_if : Bool → Held → Held
held_acked_if acked held =
    record held {
      bits = bits_received acked false held.bits;
      is_acked = acked || held.is_acked;
      control = control_acked_if (acked && is_control held.last) held.control;
      leaving = leaving_acked_if (acked && is_terminate held.last) held.leaving;
    }

-- a procedure that the acknowledgement completes
abbrev pub acked_kind : Bool → Held → Option Kind
acked_kind acked held = if acked && is_control held.last then done_by_acknowledgement held.control.control else None

-- ---- a control PDU with which a peripheral answers counts as first sent (our choice)

-- a peripheral answers with its fixed PDU
abbrev pub answers_with_control : Role → Held → Bool
answers_with_control Central held = false
answers_with_control Peripheral held = takes_leave held

-- what is held as the new PDU is looked at
abbrev pub held_before_taking : ℕ → DataHeader → Held → Held
held_before_taking slot header held =
    let now = held_acked_if (acks held header) held in
    held_gone_if (answers_with_control held.setup.link.role now) slot now

-- ---- the new PDU is taken, or is not

-- an accepted PDU that is not empty is counted
abbrev pub held_accepted_if : Bool → Pdu → Held → Held
held_accepted_if accepted pdu held =
    record held {
      bits = bits_received false accepted held.bits;
      taken = count_if (accepted && not (is_empty pdu)) held.taken;
    }

-- what the procedures give for a control PDU that they take, and for one that was kept until then
abbrev pub given_if : Bool → Pdu → ℕ → Held → TakenKeyed
given_if takes pdu slot held =
    if takes then taken_keyed slot held.response (read_of pdu) held.control else nothing_keyed

-- a PDU refuses a procedure of this end or completes one, and never both
abbrev pub IsSingle : Taken → Type 0
IsSingle taken = is_some taken.refused ≡ true → taken.done ≡ None

-- the control part then
abbrev pub control_taken_if : Bool → Pdu → ℕ → Held → HeldKeyed
control_taken_if takes pdu slot held =
    if takes then held_after (Takes (read_of pdu) slot (drawn held.response)) held.control else held.control

-- the lengths: whether one was changed, and those that the host knows
abbrev pub known_lengths : HeldKeyed → HeldKeyed → TakenKeyed → KnownLengths → KnownLengths
known_lengths before after given lengths =
    lengths_reported given.kept.effect
    (lengths_reported given.taken.effect
    (lengths_seen before.control.table.lengths after.control.table.lengths lengths))

-- the lengths, which were these, received and transmitted, and are those now
abbrev pub lengths_seen_from : (ℕ × ℕ) → Lengths → KnownLengths → KnownLengths
lengths_seen_from before after lengths =
    record lengths {
      changed = lengths.changed || not ((before.0 == rx_of after) && (before.1 == tx_of after));
    }

-- the procedures take it, or do not
abbrev pub held_given_if : Bool → Pdu → ℕ → Held → Held
held_given_if takes pdu slot held =
    let control = control_taken_if takes pdu slot held in
    let given = given_if takes pdu slot held in
    record held {
      control = control;
      peer =
          (if takes
          then peer_answered (lasts control) (is_handed (read_of pdu) held.control) (read_of pdu)
          (kept_answered held.control.kept control.kept) held.peer
          else held.peer);
      lengths = (if takes then known_lengths held.control control given held.lengths else held.lengths);
      leaving = (if takes then leaving_by (code_of given.taken.effect) held.leaving else held.leaving);
    }

-- data that the phase forbids ends the link
abbrev pub held_data_if : Bool → Held → Held
held_data_if takes held =
    record held { control = (if takes then held_after TakesData held.control else held.control) }

-- only a control PDU goes to the procedures
abbrev pub held_taken_if : Bool → Pdu → ℕ → Held → Held
held_taken_if accepted pdu slot held =
    held_data_if (accepted && is_data pdu)
    (held_given_if (accepted && is_procedure_pdu pdu) pdu slot (held_accepted_if accepted pdu held))

-- ---- what a peripheral draws

-- only a peripheral that asks its host for a key answers LL_ENC_REQ
abbrev pub may_answer : Role → HeldKeyed → Bool
may_answer Central h = false
may_answer Peripheral h = may_follow Ask h.end.phase && is_open h.control.table.closing

-- it takes LL_ENC_REQ and answers it
abbrev pub draws_if : Bool → Pdu → ℕ → Held → Bool
draws_if takes pdu slot held =
    takes
    && (is_enc_req (read_of pdu)
    && (may_answer held.setup.link.role held.control
    && (is_handed (read_of pdu) held.control && lasts (control_taken_if true pdu slot held))))

-- ---- all of a reception, in this order

-- a good packet, after it was read
abbrev pub held_hearing : ℕ → Got → Held → Held
held_hearing slot got held = held_taken_if got.accepted (pdu_in got) slot (held_before_taking slot got.header held)

-- octets that are a good packet, or none
abbrev pub held_received : ℕ → Option Got → Held → Held
held_received slot None held = held
held_received slot (Some got) held = held_hearing slot got held

-- a piece of its host is acknowledged
abbrev pub acks_piece : Option Got → Held → Bool
acks_piece None held = false
acks_piece (Some got) held = acks held got.header && is_data held.last

-- ---- what it notes, keeps and gives

-- a new PDU that is not empty is noted as it is accepted, with its number
abbrev pub took_note_if : Bool → ℕ → ℕ → Pdu → List Note
took_note_if is_noted handle number pdu =
    if is_noted then Took handle (number + 1) pdu.llid (record { items = pdu.body }) ∷ [] else []

-- and then what it did to a procedure of this end, and what one did that was kept until then
abbrev pub given_notes_of : ℕ → TakenKeyed → List Note
given_notes_of handle given = given_notes handle given.taken ++ given_notes handle given.kept

abbrev pub taken_notes : Bool → Pdu → ℕ → Held → List Note
taken_notes accepted pdu slot held =
    took_note_if (accepted && not (is_empty pdu)) held.setup.link.handle held.taken pdu
    ++ given_notes_of held.setup.link.handle (given_if (accepted && is_procedure_pdu pdu) pdu slot held)

-- first the procedure that the acknowledgement completes
abbrev pub notes_hearing : ℕ → Got → Held → List Note
notes_hearing slot got held =
    done_notes held.setup.link.handle (acked_kind (acks held got.header) held)
    ++ taken_notes got.accepted (pdu_in got) slot (held_before_taking slot got.header held)

-- nothing is noted of octets that are no good packet
abbrev pub received_notes : ℕ → Option Got → Held → List Note
received_notes slot None held = []
received_notes slot (Some got) held = notes_hearing slot got held

-- new data that is accepted is kept for the host, under the handle
abbrev pub kept_hearing : Got → Held → List (ℕ × Piece)
kept_hearing got held = kept_if (got.accepted && is_data (pdu_in got)) held.setup.link.handle (pdu_in got)

-- nothing is kept of other octets
abbrev pub kept_in : Option Got → Held → List (ℕ × Piece)
kept_in None held = []
kept_in (Some got) held = kept_hearing got held

-- the procedure that the acknowledgement completes
abbrev pub acked_in : Option Got → Held → Option Kind
acked_in None held = None
acked_in (Some got) held = acked_kind (acks held got.header) held

-- what the procedures give for the PDU of a good packet
abbrev pub given_hearing : ℕ → Got → Held → TakenKeyed
given_hearing slot got held =
    given_if (got.accepted && is_procedure_pdu (pdu_in got)) (pdu_in got) slot
    (held_before_taking slot got.header held)

-- and nothing for other octets
abbrev pub given_in : ℕ → Option Got → Held → TakenKeyed
given_in slot None held = nothing_keyed
given_in slot (Some got) held = given_hearing slot got held

-- whether it draws what it answers the PDU with
abbrev pub draws_in : ℕ → Option Got → Held → Bool
draws_in slot None held = false
draws_in slot (Some got) held =
    draws_if (got.accepted && is_procedure_pdu (pdu_in got)) (pdu_in got) slot
    (held_before_taking slot got.header held)

-- it ended the link by what it received
abbrev pub has_ended : Held → Bool
has_ended held = not (lasts held.control) || held.leaving.acknowledged

-- a peripheral answers a good packet by which it did not end the link
abbrev pub replies_to : Role → Bool → Bool → Bool
replies_to Central ended good = false
replies_to Peripheral ended good = good && not ended

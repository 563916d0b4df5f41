-- An end receives a packet (Core 5.2, volume 6 part B, sections 4.5.6, 4.5.9 and 5.1).
use Rattle.std.specs.Prelude.{ℕ, ◌+◌, ◌==◌, ◌&&◌, ◌||◌, not, Bool, false, List, [], ◌∷◌, ◌++◌, Option, Some, None, is_none, is_some, if◌then◌else◌}
use Rattle.ble_base.specs.ErrorCodes.{mic_failure}
use Rattle.ble_base.specs.declared.error_codes.ErrCode.{ErrCode}
use Rattle.ble_base.specs.declared.notes.Note.{Note}
use Rattle.ble_base.specs.declared.notes.Note.TheVariants.{Refused, Took}
use Rattle.ble_base.specs.declared.procedure_kinds.Kind.{Kind}
use Rattle.ble_base.specs.declared.roles.Role.{Role}
use Rattle.ble_base.specs.declared.roles.Role.TheVariants.{Central, Peripheral}
use Rattle.ack_bit.specs.AckBits.{acknowledges}
use Rattle.data_pdu.specs.declared.ctrl.Ctrl.TheVariants.{FeatureReq, FeatureRsp, PeripheralFeatureReq, VersionInd}
use Rattle.data_pdu.specs.declared.ctrl.CtrlRead.{CtrlRead}
use Rattle.data_pdu.specs.declared.ctrl.Ctrl.{Ctrl}
use Rattle.data_pdu.specs.declared.ctrl.CtrlRead.TheVariants.{Bare, Known}
use Rattle.data_pdu.specs.declared.header.DataHeader.{DataHeader}
use Rattle.data_pdu.specs.Header.{header_in}
use Rattle.phased_end.specs.control_end.procedure_stages.declared.steps.Effect.{Effect}
use Rattle.phased_end.specs.control_end.procedure_stages.declared.steps.Effect.TheVariants.{Lengths as new_lengths, Nothing, PeerEnds}
use Rattle.phased_end.specs.control_end.procedure_values.declared.lengths.Lengths.{Lengths}
use Rattle.phased_end.specs.control_end.control_model.Control.{Control, ended}
use Rattle.phased_end.specs.declared.taking.TakenKeyed.{TakenKeyed}
use Rattle.phased_end.specs.Held.{held_of as keyed_held}
-- the lengths that it gives are at most that of a payload
pub use Rattle.phased_end.specs.Lengths.{HasPayloadLengths}
use Rattle.phased_end.specs.Taking.{drawn, is_handed, taken_keyed}
use Rattle.phased_end.specs.keyed_control.Keyed.{Keyed}
use Rattle.phased_end.specs.keyed_control.KeyedSteps.{SeesAcknowledged, Takes, TakesData, keyed_after}
use Rattle.phased_end.specs.control_end.declared.answers.Taken.{Taken}
use Rattle.phased_end.specs.control_end.Answers.{done_by_acknowledgement, nothing_taken}
use Rattle.phased_end.specs.control_end.Held.{held_of}
use Rattle.link_model.specs.Setup.{Setup}
use Rattle.link_model.specs.Acknowledgement.{Pdu, bits_of, is_acked, with_accepted, with_acked}
use Rattle.link_model.specs.Data.{data_acked_if, is_accepted, is_control, is_data, is_empty, numbered}
use Rattle.link_model.specs.Events.{event_heard}
use Rattle.link_model.specs.Verdicts.{pdu_of}
use Rattle.link_model.specs.declared.state.KnownLengths.{KnownLengths}
use Rattle.link_model.specs.declared.state.Leaving.{Leaving}
use Rattle.link_model.specs.declared.state.PeerFacts.{PeerFacts}
use Rattle.link_model.specs.Facts.{Facts, keyed_of, with_keyed}
use Rattle.link_model.specs.Controls.{are_equal, goes_on, is_procedure_pdu, is_terminate, read_of}
use Rattle.link_model.specs.Entering.{done_notes}
use Rattle.link_model.specs.Packets.{good_pdu, has_new_pdu}
use Rattle.link_model.specs.Payload.{end_accepting}
use Rattle.link_model.specs.Sending.{control_gone_if, takes_leave}

-- ---- a good packet reached it in this slot

abbrev pub heard_in_slot : ℕ → Bool → Facts → Facts
heard_in_slot slot more facts =
    record facts {
      event = event_heard slot more facts.event;
      last_good = Some (record { slot = slot; event = facts.event.number });
    }

-- ---- its own last PDU is acknowledged, or is not

-- a packet acknowledges the PDU that was sent last, if that is not acknowledged yet (section 4.5.9; that a second time
-- is ignored is our choice)
abbrev pub has_acknowledged : Facts → DataHeader → Bool
has_acknowledged facts header = not (is_acked facts.acknowledgement) && acknowledges (bits_of facts.acknowledgement) header

abbrev pub acks_control : Bool → Facts → Bool
acks_control acked facts = acked && is_control facts.acknowledgement.last

abbrev pub leaving_acked_if : Bool → Leaving → Leaving
leaving_acked_if acked leaving = record leaving { acknowledged = leaving.acknowledged || acked }

-- after its LL_PAUSE_ENC_RSP a central asks for encryption again (section 5.1.3.2)
abbrev pub keyed_acked_if : Bool → Keyed → Keyed
keyed_acked_if acked k = if acked then keyed_after SeesAcknowledged k else k

abbrev pub acknowledged_if : Bool → Facts → Facts
acknowledged_if acked facts =
    record (with_keyed (keyed_acked_if (acks_control acked facts) (keyed_of facts)) facts) {
      acknowledgement = with_acked acked facts.acknowledgement;
      outgoing = data_acked_if (acked && is_data facts.acknowledgement.last) facts.outgoing;
      leaving = leaving_acked_if (acked && is_terminate facts.acknowledgement.last) facts.leaving;
    }

-- ---- a peripheral answers with its fixed PDU: a control PDU counts as first sent from here on, before the new PDU is
-- taken (our choice)

abbrev pub answers_with_control : Role → Facts → Bool
answers_with_control Central facts = false
answers_with_control Peripheral facts = takes_leave facts

abbrev pub fixed_goes : Role → ℕ → Facts → Facts
fixed_goes role slot facts = control_gone_if (answers_with_control role facts) slot facts

-- the facts as the new PDU is looked at
abbrev pub facts_before_taking : Role → ℕ → DataHeader → Facts → Facts
facts_before_taking role slot header facts =
    fixed_goes role slot (acknowledged_if (has_acknowledged facts header) (heard_in_slot slot header.md facts))

-- ---- the new PDU is taken, or is not

-- an end whose LL_TERMINATE_IND is acknowledged takes nothing more (section 5.1.6)
abbrev pub accepts : Bool → DataHeader → Pdu → Facts → Bool
accepts room header pdu facts =
    is_accepted room (has_new_pdu facts header) pdu && (is_empty pdu || not facts.leaving.acknowledged)

-- what its procedures give for a control PDU, and for one that was kept until now; nothing where they do not see it
abbrev pub procedures_answer : Pdu → ℕ → Facts → TakenKeyed
procedures_answer pdu slot facts =
    taken_keyed slot facts.encryption.response (read_of pdu) (keyed_held (keyed_of facts))

abbrev pub procedures_give : Pdu → ℕ → Facts → Taken
procedures_give pdu slot facts = (procedures_answer pdu slot facts).taken

abbrev pub kept_give : Pdu → ℕ → Facts → Taken
kept_give pdu slot facts = (procedures_answer pdu slot facts).kept

abbrev pub keyed_taken : Pdu → ℕ → Facts → Keyed
keyed_taken pdu slot facts = keyed_after (Takes (read_of pdu) slot (drawn facts.encryption.response)) (keyed_of facts)

abbrev pub control_taken : Pdu → ℕ → Facts → Control
control_taken pdu slot facts = (keyed_taken pdu slot facts).phased.control

-- the features and the version of the peer are known from the PDUs that have them (sections 2.4.2.9 to 2.4.2.15)
abbrev pub peer_from : CtrlRead → PeerFacts → PeerFacts
peer_from (Known (FeatureReq features)) peer = record peer { features = Some features }
peer_from (Known (FeatureRsp features)) peer = record peer { features = Some features }
peer_from (Known (PeripheralFeatureReq features)) peer = record peer { features = Some features }
peer_from (Known (VersionInd version company sub)) peer =
    record peer { version = Some (record { version = version; company = company; sub = sub }) }
peer_from other peer = peer

abbrev pub peer_from_if : Bool → CtrlRead → PeerFacts → PeerFacts
peer_from_if goes_on read peer = if goes_on then peer_from read peer else peer

-- the procedures see a PDU as it is taken, if it is not kept and does not end the link
abbrev pub is_seen : Pdu → Facts → Bool
is_seen pdu facts = is_handed (read_of pdu) (keyed_held (keyed_of facts))

-- what was kept before, and is not any more, was answered
abbrev pub kept_answered : Option Ctrl → Option Ctrl → CtrlRead
kept_answered (Some ctrl) None = Known ctrl
kept_answered before after = Bare

-- a PDU is known as it is answered: as it is taken, and one that is kept later. An end that ended the link by it knows
-- nothing of it (our choice)
abbrev pub peer_answered : (goes_on seen : Bool) → (read kept : CtrlRead) → PeerFacts → PeerFacts
peer_answered goes_on seen read kept peer = peer_from_if goes_on kept (peer_from_if (goes_on && seen) read peer)

abbrev pub peer_taken : Pdu → ℕ → Facts → PeerFacts
peer_taken pdu slot facts =
    let after = keyed_taken pdu slot facts in
    peer_answered (is_none after.phased.control.ends) (is_seen pdu facts) (read_of pdu)
    (kept_answered facts.encryption.kept after.phased.kept) facts.peer

abbrev pub lengths_seen : Lengths → Lengths → KnownLengths → KnownLengths
lengths_seen before after lengths = record lengths { changed = lengths.changed || not (are_equal before after) }

-- the host knows the effective lengths after each PDU that has lengths
abbrev pub lengths_reported : Effect → KnownLengths → KnownLengths
lengths_reported (new_lengths rx tx) lengths = record lengths { reported_rx = rx; reported_tx = tx }
lengths_reported other lengths = lengths

-- the peer ends the link
abbrev pub code_of : Effect → Option ErrCode
code_of (PeerEnds code) = Some code
code_of other = None

abbrev pub leaving_by : Option ErrCode → Leaving → Leaving
leaving_by None leaving = leaving
leaving_by (Some code) leaving = record leaving { ended_by_peer = Some code }

abbrev pub procedures_take : Pdu → ℕ → Facts → Facts
procedures_take pdu slot facts =
    record (with_keyed (keyed_taken pdu slot facts) facts) {
      peer = peer_taken pdu slot facts;
      lengths =
          lengths_reported (kept_give pdu slot facts).effect
          (lengths_reported (procedures_give pdu slot facts).effect
          (lengths_seen facts.control.table.lengths (control_taken pdu slot facts).table.lengths facts.lengths));
      leaving = leaving_by (code_of (procedures_give pdu slot facts).effect) facts.leaving;
    }

abbrev pub procedures_take_if : Bool → Pdu → ℕ → Facts → Facts
procedures_take_if takes pdu slot facts = if takes then procedures_take pdu slot facts else facts

-- data that the phase forbids ends the link
abbrev pub data_taken : Facts → Facts
data_taken facts = with_keyed (keyed_after TakesData (keyed_of facts)) facts

abbrev pub data_taken_if : Bool → Facts → Facts
data_taken_if takes facts = if takes then data_taken facts else facts

-- a PDU that is not empty takes its counter where it is accepted
abbrev pub counts_accepted : Bool → Pdu → Bool
counts_accepted accepted pdu = accepted && not (is_empty pdu)

abbrev pub accepted_if : Bool → Pdu → Facts → Facts
accepted_if accepted pdu facts =
    record facts {
      acknowledgement = with_accepted accepted pdu facts.acknowledgement;
      encryption =
          record facts.encryption { end = end_accepting (counts_accepted accepted pdu) facts.encryption.end };
    }

abbrev pub taken_if : Bool → Pdu → ℕ → Facts → Facts
taken_if accepted pdu slot facts =
    data_taken_if (accepted && is_data pdu)
    (procedures_take_if (accepted && is_procedure_pdu pdu) pdu slot (accepted_if accepted pdu facts))

-- ---- all of a reception, in this order

abbrev pub facts_hearing : Role → ℕ → Bool → DataHeader → Pdu → Facts → Facts
facts_hearing role slot room header pdu facts =
    let now = facts_before_taking role slot header facts in
    taken_if (accepts room header pdu now) pdu slot now

abbrev pub facts_received : Role → ℕ → Bool → Option (List ℕ) → Facts → Facts
facts_received role slot room None facts = facts
facts_received role slot room (Some pdu) facts = facts_hearing role slot room (header_in pdu) (pdu_of pdu) facts

-- a forged packet does nothing but end the link (section 5.1.3.1)
abbrev pub ended_by_forgery : Control → Control
ended_by_forgery c = if is_none c.ends then ended (record { 0 = mic_failure }) c else c

abbrev pub facts_forged_if : Bool → Facts → Facts
facts_forged_if forged facts = if forged then record facts { control = ended_by_forgery facts.control } else facts

-- ---- what it notes, in this order

-- a procedure that the acknowledgement completes
abbrev pub acked_kind : Bool → Facts → Option Kind
acked_kind acked facts = if acked then done_by_acknowledgement (held_of facts.control) else None

-- a new PDU that is not empty is noted as it is accepted, with its number
abbrev pub took_notes_if : Bool → ℕ → Pdu → Facts → List Note
took_notes_if is_noted handle pdu facts =
    if is_noted
    then Took handle (numbered facts.acknowledgement.accepted + 1) pdu.llid (record { items = pdu.body }) ∷ []
    else []

abbrev pub refused_notes : ℕ → Option (Kind × ErrCode) → List Note
refused_notes handle None = []
refused_notes handle (Some (kind, code)) = Refused handle kind code ∷ []

abbrev pub given_if : Bool → Pdu → ℕ → Facts → Taken
given_if takes pdu slot facts = if takes then procedures_give pdu slot facts else nothing_taken

abbrev pub kept_given_if : Bool → Pdu → ℕ → Facts → Taken
kept_given_if takes pdu slot facts = if takes then kept_give pdu slot facts else nothing_taken

abbrev pub given_notes : ℕ → Taken → List Note
given_notes handle given = refused_notes handle given.refused ++ done_notes handle given.done

abbrev pub taken_notes : ℕ → Bool → Pdu → ℕ → Facts → List Note
taken_notes handle accepted pdu slot facts =
    took_notes_if (accepted && not (is_empty pdu)) handle pdu facts
    ++ (given_notes handle (given_if (accepted && is_procedure_pdu pdu) pdu slot facts)
    ++ given_notes handle (kept_given_if (accepted && is_procedure_pdu pdu) pdu slot facts))

abbrev pub notes_hearing : Setup → ℕ → Bool → DataHeader → Pdu → Facts → List Note
notes_hearing setup slot room header pdu facts =
    let now = facts_before_taking setup.link.role slot header facts in
    done_notes setup.link.handle (acked_kind (acks_control (has_acknowledged facts header) facts) facts)
    ++ taken_notes setup.link.handle (accepts room header pdu now) pdu slot now

abbrev pub received_notes : Setup → ℕ → Bool → Option (List ℕ) → Facts → List Note
received_notes setup slot room None facts = []
received_notes setup slot room (Some pdu) facts =
    notes_hearing setup slot room (header_in pdu) (pdu_of pdu) facts

-- ---- what it gives

-- lengths that the host knows already are nothing new
abbrev pub effect_unless_known : KnownLengths → Effect → Effect
effect_unless_known lengths (new_lengths rx tx) =
    if (rx == lengths.reported_rx) && (tx == lengths.reported_tx) then Nothing else new_lengths rx tx
effect_unless_known lengths other = other

-- what the layer above does with a control PDU that was taken
abbrev pub effect_hearing : Role → ℕ → Bool → DataHeader → Pdu → Facts → Effect
effect_hearing role slot room header pdu facts =
    let now = facts_before_taking role slot header facts in
    effect_unless_known facts.lengths (given_if (accepts room header pdu now && is_procedure_pdu pdu) pdu slot now).effect

abbrev pub effect_received : Role → ℕ → Bool → Option (List ℕ) → Facts → Effect
effect_received role slot room None facts = Nothing
effect_received role slot room (Some pdu) facts = effect_hearing role slot room (header_in pdu) (pdu_of pdu) facts

unfoldable pub effect_of : Setup → Facts → ℕ → List ℕ → Bool → Effect
effect_of setup facts slot octets room =
    effect_received setup.link.role slot room (good_pdu setup facts octets) facts

-- and with one that was kept until then
abbrev pub kept_effect_hearing : Role → ℕ → Bool → DataHeader → Pdu → Facts → Effect
kept_effect_hearing role slot room header pdu facts =
    let now = facts_before_taking role slot header facts in
    effect_unless_known facts.lengths
    (kept_given_if (accepts room header pdu now && is_procedure_pdu pdu) pdu slot now).effect

abbrev pub kept_effect_received : Role → ℕ → Bool → Option (List ℕ) → Facts → Effect
kept_effect_received role slot room None facts = Nothing
kept_effect_received role slot room (Some pdu) facts =
    kept_effect_hearing role slot room (header_in pdu) (pdu_of pdu) facts

unfoldable pub kept_effect_of : Setup → Facts → ℕ → List ℕ → Bool → Effect
kept_effect_of setup facts slot octets room =
    kept_effect_received setup.link.role slot room (good_pdu setup facts octets) facts

-- it ended the link by what it received: by its procedures, or as its own LL_TERMINATE_IND was acknowledged
abbrev pub has_ended : Facts → Bool
has_ended facts = not (goes_on facts) || facts.leaving.acknowledged

-- a peripheral answers exactly a good packet by which it did not end the link (that it does not answer a broken one is
-- our choice)
abbrev pub replies_by : Role → Bool → Option (List ℕ) → Bool
replies_by Central ended pdu = false
replies_by Peripheral ended pdu = is_some pdu && not ended

unfoldable pub replies_of : Setup → Facts → ℕ → List ℕ → Bool → Bool
replies_of setup facts slot octets room =
    replies_by setup.link.role
    (has_ended (facts_received setup.link.role slot room (good_pdu setup facts octets) facts))
    (good_pdu setup facts octets)

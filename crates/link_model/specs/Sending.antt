-- An end sends its packet (Core 5.2, volume 6 part B, section 4.5.9).
use Rattle.std.specs.Prelude.{ℕ, ◌+◌, ◌&&◌, ◌||◌, not, Bool, false, List, [], ◌∷◌, is_some, if◌then◌else◌}
use Rattle.ble_base.specs.declared.notes.Note.{Note}
use Rattle.ble_base.specs.declared.notes.Note.TheVariants.{Sent}
use Rattle.phased_end.specs.control_end.control_model.Control.{Sends, after}
use Rattle.link_model.specs.Setup.{Setup}
use Rattle.link_model.specs.Acknowledgement.{Pdu, after_sending, is_acked}
use Rattle.link_model.specs.Data.{Data, data_sent, is_empty, numbered}
use Rattle.link_model.specs.Events.{event_sent}
use Rattle.link_model.specs.declared.state.Leaving.{Leaving}
use Rattle.link_model.specs.Facts.{Facts}
use Rattle.link_model.specs.Controls.{is_quiet_now, pdu_fixed}
use Rattle.link_model.specs.Packets.{more_sent}
use Rattle.link_model.specs.Payload.{end_sending, payload_made}

-- the control PDU that is fixed leaves the queue: it counts as first sent from here on
abbrev pub control_gone : ℕ → Facts → Facts
control_gone slot facts =
    record facts {
      control = after (Sends slot (is_quiet_now facts)) facts.control;
      fixes_control = false;
      outgoing = record facts.outgoing { fixed = pdu_fixed facts };
    }

abbrev pub control_gone_if : Bool → ℕ → Facts → Facts
control_gone_if goes slot facts = if goes then control_gone slot facts else facts

-- it goes where the last PDU is acknowledged
abbrev pub takes_leave : Facts → Bool
takes_leave facts = is_acked facts.acknowledgement && facts.fixes_control

-- after LL_TERMINATE_IND of the peer was taken, its packet is the last one
abbrev pub leaving_sent : Leaving → Leaving
leaving_sent leaving = record leaving { answered = leaving.answered || is_some leaving.ended_by_peer }

-- the fixed PDU is sent, where it is new, with this payload, which is kept for sending it again
abbrev pub data_sent_as : List ℕ → Bool → Data → Data
data_sent_as payload is_new outgoing =
    if is_new then record (data_sent outgoing) { payload = payload } else outgoing

-- a new PDU that is not empty may be sealed
abbrev pub seals_new : Bool → Pdu → Bool
seals_new is_new pdu = is_new && not (is_empty pdu)

abbrev pub fixed_sent : ℕ → Facts → Facts
fixed_sent slot facts =
    record facts {
      event = event_sent slot (more_sent facts) facts.event;
      acknowledgement = after_sending facts.outgoing.fixed facts.acknowledgement;
      outgoing =
          data_sent_as (payload_made facts.encryption.end facts.outgoing.fixed) (is_acked facts.acknowledgement)
          facts.outgoing;
      encryption =
          record facts.encryption {
            end = end_sending (seals_new (is_acked facts.acknowledgement) facts.outgoing.fixed) facts.encryption.end;
          };
      leaving = leaving_sent facts.leaving;
    }

abbrev pub facts_sent : ℕ → Facts → Facts
facts_sent slot facts = fixed_sent slot (control_gone_if (takes_leave facts) slot facts)

-- ---- what it notes

-- a new PDU that is not empty is noted as it is sent first, with its number
abbrev pub sent_notes_if : Bool → ℕ → ℕ → Pdu → List Note
sent_notes_if is_noted handle number pdu =
    if is_noted then Sent handle (number + 1) pdu.llid (record { items = pdu.body }) ∷ [] else []

abbrev pub sent_notes : Setup → Facts → List Note
sent_notes setup facts =
    sent_notes_if (is_acked facts.acknowledgement && not (is_empty (pdu_fixed facts))) setup.link.handle
    (numbered facts.acknowledgement.sent) (pdu_fixed facts)

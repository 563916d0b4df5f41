-- The phases of the two ends of a joint run, with the PDUs of the encryption that are still to come (Core 5.2, volume 6
-- part B, section 5.1.3).
use Rattle.std.specs.Prelude.{Bool, false, not, ◌||◌, List, [], ◌∷◌, ◌++◌, Option, Some, None}
use Rattle.phase_pairs.specs.enc_phase.declared.classes.PduClass.{PduClass}
use Rattle.joint_controls.specs.procedure_values.declared.drafts.Draft.{Draft}
use Rattle.joint_controls.specs.procedure_stages.declared.closing.Closing.{Closing}
use Rattle.joint_controls.specs.procedure_stages.declared.closing.Closing.TheVariants.{Closed, Disconnecting, Open as open_link}
use Rattle.phase_pairs.specs.declared.joint.PhaseLink.{PhaseLink}
use Rattle.phase_pairs.specs.declared.peripheral.PhaseClosing.{PhaseClosing}
use Rattle.phase_pairs.specs.declared.peripheral.PhaseClosing.TheVariants.{Disconnects, HasNoKey, Open}
use Rattle.phase_pairs.specs.Agreement.{encryption_pdu, is_other, is_paired}
use Rattle.phase_pairs.specs.Central.{first_central}
use Rattle.phase_pairs.specs.Peripheral.{first_peripheral}
use Rattle.phase_pairs.specs.JointRun.{keeps_request}
use Rattle.joint_controls.specs.phased_control.Phased.{is_open_now, is_quiet_now}
use Rattle.joint_controls.specs.Joint.{Item, Joint, is_item}
use Rattle.joint_phases.specs.Classes.{class_up, draft_down, draft_up, has_request, item_class}
use Rattle.joint_phases.specs.Facts.{drafts_of, is_first_up, item_untaken}
use Rattle.joint_phases.specs.Parts.{way_down, way_up}

-- the PDUs of the encryption among those that wait, in order
abbrev pub encryption_waiting : (Draft → PduClass) → List Draft → List PduClass
encryption_waiting class_of [] = []
encryption_waiting class_of (draft ∷ drafts) = encryption_pdu (class_of draft) ++ encryption_waiting class_of drafts

abbrev pub first_of : List PduClass → Option PduClass
first_of [] = None
first_of (pdu ∷ pdus) = Some pdu

abbrev pub second_of : List PduClass → Option PduClass
second_of [] = None
second_of (pdu ∷ pdus) = first_of pdus

abbrev pub closing_of : Closing → PhaseClosing
closing_of open_link = Open
closing_of Disconnecting = Disconnects
closing_of Closed = HasNoKey

-- the phases of both ends, what is untaken and waits of the encryption, and which ends end the link, as the table of
-- pairs reads them
abbrev pub pair_of : Joint → PhaseLink
pair_of s =
    let from_central = encryption_waiting (draft_down s.central.knows_version) (drafts_of s.central) in
    let from_peripheral = encryption_waiting (draft_up s.peripheral.knows_version) (drafts_of s.peripheral) in
    record {
      central =
          record first_central {
            phase = s.central.phase;
            queued = first_of from_central;
            closed = not (is_open_now s.central);
          };
      peripheral =
          record first_peripheral {
            phase = s.peripheral.phase;
            first = first_of from_peripheral;
            second = second_of from_peripheral;
            closing = closing_of s.peripheral.control.table.closing;
          };
      down = way_down s.central.knows_version s.down;
      up = way_up s.peripheral.knows_version s.up;
    }

-- they are one of the pairs of the table
abbrev pub are_phases_paired : Joint → Bool
are_phases_paired s = is_paired (pair_of s)

-- ---- other procedures

-- an answer of the peripheral to a PDU of the central waits
abbrev pub has_answer : (Draft → PduClass) → List Draft → Bool
has_answer class_of [] = false
has_answer class_of (draft ∷ drafts) = is_other (class_of draft) || has_answer class_of drafts

-- or is untaken
abbrev pub is_answer_up : Bool → Item → Bool
is_answer_up knows item = is_other (item_class (class_up knows) item)

-- while the central is in another phase than Clear and Secure the peripheral owes it no answer
abbrev pub is_answered_in_quiet : Joint → Bool
is_answered_in_quiet s =
    is_quiet_now s.central
    || not (has_answer (draft_up s.peripheral.knows_version) (drafts_of s.peripheral)
    || is_item (is_answer_up s.peripheral.knows_version) (item_untaken s.up))

-- while it keeps a first PDU of the peripheral, no other waits or is untaken
abbrev pub keeps_one : Joint → Bool
keeps_one s =
    not (keeps_request s.central.phase)
    || not (has_request (draft_up s.peripheral.knows_version) (drafts_of s.peripheral)
    || is_item (is_first_up s.peripheral.knows_version) (item_untaken s.up))

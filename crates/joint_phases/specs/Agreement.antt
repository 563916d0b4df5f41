-- What holds of the phases of the two ends of a joint run, in each state and at each PDU that is taken (Core 5.2,
-- volume 6 part B, section 5.1.3).
use Rattle.std.specs.Prelude.{◌==◌, Bool, true, false, ◌&&◌, ◌||◌, Option, Some, None}
use Rattle.ble_base.specs.ErrorCodes.{mic_failure}
use Rattle.ble_base.specs.declared.error_codes.ErrCode.{ErrCode}
use Rattle.ble_base.specs.declared.roles.Role.{Role}
use Rattle.ble_base.specs.declared.roles.Role.TheVariants.{Central as central_role, Peripheral as peripheral_role}
use Rattle.data_pdu.specs.declared.ctrl.Ctrl.{Ctrl}
use Rattle.phase_pairs.specs.enc_phase.declared.classes.PduClass.{PduClass}
use Rattle.phase_pairs.specs.enc_phase.declared.facts.PhaseFacts.{PhaseFacts}
use Rattle.phase_pairs.specs.enc_phase.Phases.{opens}
use Rattle.phase_pairs.specs.enc_phase.Taking.{allows, ctrl_class}
use Rattle.phase_pairs.specs.Agreement.{has_meaning, is_equal}
use Rattle.joint_controls.specs.Joint.{Item, Joint, JointStep, Way, CentralTakes, OnAir, PeripheralTakes, item_on_air}
use Rattle.joint_phases.specs.Classes.{class_down, class_up, item_class}

-- ---- sealing

-- a PDU on the air is sealed exactly where the end that it comes to opens sealed now
abbrev pub is_opened_right : Role → PhaseFacts → Way → Bool
is_opened_right role phase (OnAir item sealed) = is_equal sealed (opens role phase)
is_opened_right role phase way = true

abbrev pub is_sealing_agreed : Joint → Bool
is_sealing_agreed s =
    is_opened_right peripheral_role s.peripheral.phase s.down && is_opened_right central_role s.central.phase s.up

-- ---- what is taken

-- the phase of the taker allows it, and in Clear and Secure it is no PDU of the encryption that is ignored or unknown
abbrev pub is_allowed_right : Role → PhaseFacts → (Ctrl → PduClass) → Option Item → Bool
is_allowed_right role phase class_of None = true
is_allowed_right role phase class_of (Some item) =
    allows phase role (item_class ctrl_class item) && has_meaning role phase (item_class class_of item)

abbrev pub is_taken_right : JointStep → Joint → Bool
is_taken_right (CentralTakes slot) s =
    is_allowed_right central_role s.central.phase (class_up s.peripheral.knows_version) (item_on_air s.up)
is_taken_right (PeripheralTakes slot response) s =
    is_allowed_right peripheral_role s.peripheral.phase (class_down s.central.knows_version) (item_on_air s.down)
is_taken_right step s = true

-- ---- how the link does not end

-- by a message integrity failure
abbrev pub is_integrity_failure : Option ErrCode → Bool
is_integrity_failure None = false
is_integrity_failure (Some code) = code.0 == mic_failure

abbrev pub ends_by_integrity_failure : Joint → Bool
ends_by_integrity_failure s =
    is_integrity_failure s.central.control.ends || is_integrity_failure s.peripheral.control.ends

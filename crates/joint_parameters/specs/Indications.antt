-- The indications of a central as the peripheral of a joint run reads and takes them (Core 5.2, volume 6 part B,
-- sections 2.4.2, 5.1.1, 5.1.2 and 5.5).
use Rattle.std.specs.Prelude.{◌≡◌, ◌⊎◌, Bool, false, List, [], ◌∷◌, ◌++◌, Option, Some, None, option_to_list}
use Rattle.ble_base.specs.ErrorCodes.{instant_passed, mic_failure}
use Rattle.ble_base.specs.declared.error_codes.ErrCode.{ErrCode}
use Rattle.data_pdu.specs.declared.ctrl.Ctrl.{Ctrl}
use Rattle.data_pdu.specs.declared.ctrl.Ctrl.TheVariants.{ConnectionUpdateInd, ChannelMapInd}
use Rattle.instants.specs.declared.indications.Indication.{Indication}
use Rattle.instants.specs.declared.indications.Indication.TheVariants.{Update, Map}
use Rattle.instants.specs.declared.track.Change.{Change}
use Rattle.joint_controls.specs.control_model.Waits.{EndsByCollision}
use Rattle.joint_controls.specs.Joint.{Control, Data, Item, Joint, JointStep, PeripheralTakes, after, is_late}

-- ---- what is read of a PDU

abbrev pub indication_in : Ctrl → Option Indication
indication_in (ConnectionUpdateInd win_size win_offset interval latency timeout instant) =
    Some (Update win_offset interval latency timeout instant)
indication_in (ChannelMapInd map instant) = Some (Map map instant)
indication_in ctrl = None

abbrev pub indication_of_item : Item → Option Indication
indication_of_item Data = None
indication_of_item (Control outgoing ctrl) = indication_in ctrl

abbrev pub indication_read : Option Item → Option Indication
indication_read None = None
indication_read (Some item) = indication_of_item item

-- ---- the changes that a peripheral takes: those that come to wait at its track

-- of a step before which and after which this waits
abbrev pub new_change : Option Change → Option Change → List Change
new_change None now = option_to_list now
new_change (Some change) now = []

-- in these steps, oldest first
abbrev pub changes_taken : List JointStep → Joint → List Change
changes_taken [] s = []
changes_taken (step ∷ steps) s =
    new_change s.peripheral.control.track.waits (after step s).peripheral.control.track.waits
    ++ changes_taken steps (after step s)

-- all that were sent, but at most the last
pub record AreAllButLast (taken sent : List Change) : Type 0 where
  pub last : Option Change
  pub all : sent ≡ taken ++ option_to_list last

-- ---- an indication that comes too late

-- in this step the peripheral takes an indication whose instant it has passed
abbrev pub takes_late : JointStep → Joint → Bool
takes_late (PeripheralTakes slot response) s = is_late s
takes_late step s = false

-- the link ended, for an instant that has passed, for a PDU that the phase forbids or for procedures that collide
abbrev pub EndsLate : Option ErrCode → Type 0
EndsLate None = ⊥
EndsLate (Some code) = (code.0 ≡ instant_passed) ⊎ ((code.0 ≡ mic_failure) ⊎ EndsByCollision (Some code))

-- Which event of the machine of phases each step of a joint run is (Core 5.2, volume 6 part B, section 5.1.3).
use Rattle.std.specs.Prelude.{Bool, true, false, not, ◌&&◌, List, [], ◌∷◌, Option, Some, None, is_some, if◌then◌else◌}
use Rattle.data_pdu.specs.declared.ctrl.Ctrl.{Ctrl}
use Rattle.phase_pairs.specs.enc_phase.declared.classes.PduClass.{PduClass}
use Rattle.phase_pairs.specs.enc_phase.declared.classes.PduClass.TheVariants.{Data as data_class, Empty}
use Rattle.joint_controls.specs.procedures.Beginning.{begin_step, first_draft}
use Rattle.joint_controls.specs.procedures.Table.{TableFacts}
use Rattle.joint_controls.specs.procedure_values.declared.asks.Ask.{Ask}
use Rattle.joint_controls.specs.phased_control.Phased.{Phased, ask_begun, is_encrypt, is_open_now, is_quiet_now, table_entered}
use Rattle.phase_pairs.specs.declared.joint.PhaseEvent.{PhaseEvent}
use Rattle.phase_pairs.specs.declared.joint.PhaseEvent.TheVariants.{CentralAcked as central_acked, CentralCloses, CentralEncrypts, CentralSends as central_sends, CentralTakes as central_takes, KeyGiven, KeyRefused, PeripheralAcked as peripheral_acked, PeripheralBegins, PeripheralCloses, PeripheralFixes as peripheral_fixes, PeripheralSends as peripheral_sends, PeripheralTakes as peripheral_takes}
use Rattle.joint_controls.specs.Joint.{HostStep, Item, Joint, JointStep, CentralAcked, CentralEnters, CentralHost, CentralSends, CentralSendsData, CentralTakes, Ends, HasKey, HasNoKey, PeripheralAcked, PeripheralEnters, PeripheralFixes, PeripheralFixesData, PeripheralHost, PeripheralSends, PeripheralTakes, Shuts, after, is_item, is_last, item_on_air, may, next_item}
use Rattle.joint_phases.specs.Classes.{class_down, class_up, is_version, item_class}

abbrev pub event_if : Bool → PhaseEvent → Option PhaseEvent
event_if true event = Some event
event_if false event = None

-- ---- an event is entered

-- an encryption of the central begins
abbrev pub does_encrypt : Phased → Bool
does_encrypt s = is_encrypt (begin_step (table_entered s) 0 (is_quiet_now s)).1

-- a procedure begins with a PDU of its own
abbrev pub has_first_draft : TableFacts → Option Ask → Bool
has_first_draft f None = false
has_first_draft f (Some ask) = is_some (first_draft f ask)

abbrev pub does_begin : Phased → Bool
does_begin s = has_first_draft (table_entered s) (ask_begun (table_entered s) (is_quiet_now s))

-- ---- a host

abbrev pub host_event_at_central : HostStep → Phased → Option PhaseEvent
host_event_at_central (Ends reason) s = event_if (is_open_now s) CentralCloses
host_event_at_central step s = None

abbrev pub host_event_at_peripheral : HostStep → Phased → Option PhaseEvent
host_event_at_peripheral (Ends reason) s = event_if (is_open_now s) PeripheralCloses
host_event_at_peripheral HasKey s = event_if (s.asks_key && is_open_now s) KeyGiven
host_event_at_peripheral HasNoKey s = event_if (s.asks_key && is_open_now s) KeyRefused
host_event_at_peripheral step s = None

-- ---- a PDU is taken

-- two LL_VERSION_IND that are the first PDUs of procedures of both ends cross: both are on the air as the central takes
-- one, and the peripheral's own is queued already as it takes one
abbrev pub are_unknown : Joint → Bool
are_unknown s = not s.central.knows_version && not s.peripheral.knows_version

abbrev pub does_cross_up : Item → Joint → Bool
does_cross_up item s = is_version item && (are_unknown s && is_item is_version (item_on_air s.down))

abbrev pub does_cross_down : Item → Joint → Bool
does_cross_down item s = is_version item && (are_unknown s && s.peripheral.control.table.version_used)

-- an LL_TERMINATE_IND is not taken in the machine: it ends the run
abbrev pub taken_up : Option Item → Joint → Option PhaseEvent
taken_up None s = None
taken_up (Some item) s = event_if (not (is_last item)) (central_takes (does_cross_up item s))

abbrev pub taken_down : Option Item → Joint → Option PhaseEvent
taken_down None s = None
taken_down (Some item) s = event_if (not (is_last item)) (peripheral_takes (does_cross_down item s))

-- ---- each step

abbrev pub item_or_none : (Ctrl → PduClass) → Option Item → PduClass
item_or_none class_of None = Empty
item_or_none class_of (Some item) = item_class class_of item

abbrev pub event_of_step : JointStep → Joint → Option PhaseEvent
event_of_step (CentralEnters slot) s = event_if (does_encrypt s.central) CentralEncrypts
event_of_step (CentralHost step) s = host_event_at_central step s.central
event_of_step (CentralSends slot) s =
    Some (central_sends (item_or_none (class_down s.central.knows_version) (next_item s.central)))
event_of_step CentralSendsData s = Some (central_sends data_class)
event_of_step CentralAcked s = Some central_acked
event_of_step (CentralTakes slot) s = taken_up (item_on_air s.up) s
event_of_step (PeripheralEnters slot) s = event_if (does_begin s.peripheral) PeripheralBegins
event_of_step (PeripheralHost step) s = host_event_at_peripheral step s.peripheral
event_of_step (PeripheralFixes slot) s =
    Some (peripheral_fixes (item_or_none (class_up s.peripheral.knows_version) (next_item s.peripheral)))
event_of_step PeripheralFixesData s = Some (peripheral_fixes data_class)
event_of_step PeripheralSends s = Some peripheral_sends
event_of_step PeripheralAcked s = Some peripheral_acked
event_of_step (PeripheralTakes slot response) s = taken_down (item_on_air s.down) s
event_of_step Shuts s = None

-- ---- the events of a run: a step that may not come is none

abbrev pub with_event : Option PhaseEvent → List PhaseEvent → List PhaseEvent
with_event None events = events
with_event (Some event) events = event ∷ events

abbrev pub events_of : List JointStep → Joint → List PhaseEvent
events_of [] s = []
events_of (step ∷ steps) s =
    with_event (if may step s then event_of_step step s else None) (events_of steps (after step s))

-- Joint runs of the control parts of both ends of a link: its state, the steps that may come, and what each does. The PDUs
-- are those that the ends send, with their values; data is data alone.
--
-- A step is what one end does. The steps keep these rules, which the links of two controllers keep (our choice of words;
-- Core 5.2, volume 6 part B, sections 4.5.9 and 5.3):
-- * An end sends a further PDU only after it saw the one before acknowledged, and only where the last PDU of the other end
--   was taken, or is data.
-- * A central fixes and sends a PDU in one step. A peripheral may take a PDU between the two.
-- * An end takes nothing while its own last PDU was taken and it has not seen that acknowledged. For a packet
--   acknowledges all that its sender took before.
-- * An end takes a PDU, or sees its own acknowledged, only where the events that the two ends entered last have one
--   number; but a peripheral that has passed the instant of an indication on its way may do both.
-- * A peripheral takes an indication less than 32,769 events after its instant: the supervision timeout is shorter.
--
-- A run stops as soon as the link ends at an end, or an end is shut or has taken LL_TERMINATE_IND: of what comes after
-- that nothing is said.
use Rattle.std.specs.Prelude.{ℕ, ◌+◌, ◌==◌, nat_lt, Bool, true, false, not, ◌&&◌, ◌||◌, List, [], ◌∷◌, Option, Some, None, Result, is_none, is_some, if◌then◌else◌}
use Rattle.ble_base.specs.declared.error_codes.ErrCode.{ErrCode}
use Rattle.ble_base.specs.declared.procedure_kinds.Kind.TheVariants.{Version}
use Rattle.ble_base.specs.declared.roles.Role.TheVariants.{Central, Peripheral}
use Rattle.data_pdu.specs.declared.ctrl.Ctrl.{Ctrl}
use Rattle.data_pdu.specs.declared.ctrl.Ctrl.TheVariants.{TerminateInd}
use Rattle.data_pdu.specs.declared.ctrl.CtrlRead.TheVariants.{Known}
use Rattle.phased_control.specs.enc_phase.Phases.{seals}
use Rattle.instants.specs.declared.indications.Params.{Params}
use Rattle.instants.specs.declared.track.Change.{Change}
use Rattle.instants.specs.Track.{event_of}
use Rattle.phased_control.specs.procedure_values.declared.asks.Ask.{Ask}
use Rattle.phased_control.specs.procedure_values.declared.asks.Ask.TheVariants.{Map}
use Rattle.phased_control.specs.procedure_values.Asks.{kind_of_ask, is_same_kind}
use Rattle.phased_control.specs.procedure_values.declared.drafts.Outgoing.{Outgoing}
use Rattle.phased_control.specs.procedure_values.Drafts.{ctrl_of_outgoing, indication_of}
use Rattle.phased_control.specs.procedures.Beginning.{may_ask_of}
use Rattle.phased_control.specs.procedures.Queue.{next_of}
use Rattle.phased_control.specs.Phased.{Phased, first_phased, is_open_now, is_quiet_now}
use Rattle.phased_control.specs.Taken.{PhasedStep, Response, Answers, Asks, Disconnects, Enters, GivesKey, LacksKey, SeesAcknowledged, Sends, Takes, TakesData, phased_after}

-- ---- what is on its way

pub data Item : Type 0 where
  -- a control PDU: as it waited, and as it is read
  Control : Outgoing → Ctrl → Item
  Data : Item

-- a direction of the link, by its last PDU that is not empty
pub data Way : Type 0 where
  -- there is none, or its sender has seen it acknowledged
  Clear : Way
  -- it is fixed for sending; data is sealed then, or not
  Fixed : Item → (sealed : Bool) → Way
  -- it was sent, sealed or not, and the other end has not taken it
  OnAir : Item → (sealed : Bool) → Way
  -- the other end has taken it
  Taken : Item → Way

abbrev pub is_clear : Way → Bool
is_clear Clear = true
is_clear way = false

abbrev pub is_fixed : Way → Bool
is_fixed (Fixed item sealed) = true
is_fixed way = false

abbrev pub is_taken : Way → Bool
is_taken (Taken item) = true
is_taken way = false

abbrev pub is_data : Item → Bool
is_data Data = true
is_data (Control outgoing ctrl) = false

-- the PDU that was sent and not taken
abbrev pub item_on_air : Way → Option Item
item_on_air (OnAir item sealed) = Some item
item_on_air way = None

abbrev pub is_item : (Item → Bool) → Option Item → Bool
is_item test None = false
is_item test (Some item) = test item

-- ---- the state of a link

pub record Joint : Type 0 where
  pub central : Phased
  pub peripheral : Phased
  -- the PDU of the central, and that of the peripheral
  pub down : Way
  pub up : Way
  -- an end is shut, or has taken LL_TERMINATE_IND
  pub stopped : Bool

-- a link that begins: the most octets that each end receives, the first parameters and the first anchor
abbrev pub beginning : ℕ → ℕ → Params → ℕ → Joint
beginning central_rx peripheral_rx first slot =
    record {
      central = first_phased Central central_rx first slot;
      peripheral = first_phased Peripheral peripheral_rx first slot;
      down = Clear;
      up = Clear;
      stopped = false;
    }

-- what the host of an end does
pub data HostStep : Type 0 where
  AsksFor : Ask → HostStep
  AnswersRequest : Result Ask ErrCode → HostStep
  Ends : ErrCode → HostStep
  HasKey : HostStep
  HasNoKey : HostStep

pub data JointStep : Type 0 where
  CentralEnters : (slot : ℕ) → JointStep
  CentralHost : HostStep → JointStep
  CentralSends : (slot : ℕ) → JointStep
  CentralSendsData : JointStep
  CentralAcked : JointStep
  CentralTakes : (slot : ℕ) → JointStep
  PeripheralEnters : (slot : ℕ) → JointStep
  PeripheralHost : HostStep → JointStep
  PeripheralFixes : (slot : ℕ) → JointStep
  PeripheralFixesData : JointStep
  PeripheralSends : JointStep
  PeripheralAcked : JointStep
  -- with what it would draw to answer LL_ENC_REQ
  PeripheralTakes : (slot : ℕ) → (response : Response) → JointStep
  -- an end is shut, for whatever reason
  Shuts : JointStep

-- ---- what an end sends next

abbrev pub event_now : Phased → ℕ
event_now s = event_of s.control.track

abbrev pub latency_now : Phased → ℕ
latency_now s = s.control.track.params.latency

abbrev pub next_out : Phased → Outgoing
next_out s = next_of s.control.table (event_now s) (is_quiet_now s)

abbrev pub item_by : Outgoing → Option Ctrl → Option Item
item_by outgoing None = None
item_by outgoing (Some ctrl) = Some (Control outgoing ctrl)

abbrev pub next_item : Phased → Option Item
next_item s = item_by (next_out s) (ctrl_of_outgoing (next_out s) (event_now s) (latency_now s))

-- data goes where no control PDU goes, in phase Clear or Secure, and not once the link is to end
abbrev pub sends_data : Phased → Bool
sends_data s = is_none (next_item s) && (is_quiet_now s && is_open_now s)

-- ---- the rules

-- the last PDU of the other end was taken, or is data
abbrev pub is_free : Way → Bool
is_free way = not (is_item (λ item. not (is_data item)) (item_on_air way))

abbrev pub may_transmit : Way → Way → Bool
may_transmit own other = is_clear own && is_free other

-- the two ends are in the event of one number
abbrev pub is_same_event : Joint → Bool
is_same_event s = event_now s.central == event_now s.peripheral

abbrev pub last_change : List Change → Option Change
last_change [] = None
last_change (change ∷ []) = Some change
last_change (change ∷ more) = last_change more

-- what is on its way to the peripheral is an indication with an instant
abbrev pub is_indication : Item → Bool
is_indication Data = false
is_indication (Control outgoing ctrl) = is_some (indication_of outgoing 0 0)

abbrev pub instant_now : Joint → Option Change
instant_now s = (if is_item is_indication (item_on_air s.down) then last_change s.central.control.sent else None)

-- the peripheral has passed the instant of that indication
abbrev pub has_passed : Option Change → ℕ → Bool
has_passed None event = false
has_passed (Some change) event = nat_lt change.at.0 event

abbrev pub is_late : Joint → Bool
is_late s = has_passed (instant_now s) (event_now s.peripheral)

-- not by so much that its sixteen bits would name another event
abbrev pub is_near : Option Change → ℕ → Bool
is_near None event = true
is_near (Some change) event = nat_lt event (change.at.0 + 32769)

abbrev pub is_supervised : Joint → Bool
is_supervised s = is_near (instant_now s) (event_now s.peripheral)

-- a map replaces one that is wanted, and is wanted while one runs
abbrev pub is_map : Ask → Bool
is_map (Map map) = true
is_map ask = false

-- a host asks for a map at any time, for another kind while that neither runs nor is wanted, and for a version only until
-- that of the peer is known; else it is answered at once
abbrev pub may_ask : Ask → Phased → Bool
may_ask ask s =
    is_map ask
    || (may_ask_of s.control.table (kind_of_ask ask) && not (is_same_kind (kind_of_ask ask) Version && s.knows_version))

abbrev pub may_host : HostStep → Phased → Bool
may_host (AsksFor ask) s = may_ask ask s
may_host step s = true

abbrev pub may_act : JointStep → Joint → Bool
may_act (CentralEnters slot) s = true
may_act (CentralHost step) s = may_host step s.central
may_act (CentralSends slot) s = may_transmit s.down s.up && is_some (next_item s.central)
may_act CentralSendsData s = may_transmit s.down s.up && sends_data s.central
may_act CentralAcked s = is_taken s.down && is_same_event s
may_act (CentralTakes slot) s = is_some (item_on_air s.up) && (not (is_taken s.down) && is_same_event s)
may_act (PeripheralEnters slot) s = true
may_act (PeripheralHost step) s = may_host step s.peripheral
may_act (PeripheralFixes slot) s = is_clear s.up && is_some (next_item s.peripheral)
may_act PeripheralFixesData s = is_clear s.up && sends_data s.peripheral
may_act PeripheralSends s = is_fixed s.up && is_free s.down
may_act PeripheralAcked s = is_taken s.up && (is_same_event s || is_late s)
may_act (PeripheralTakes slot response) s =
    is_some (item_on_air s.down) && (not (is_taken s.up) && ((is_same_event s || is_late s) && is_supervised s))
may_act Shuts s = true

-- the run goes on: neither end has ended the link
abbrev pub is_running : Joint → Bool
is_running s = not s.stopped && (is_none s.central.control.ends && is_none s.peripheral.control.ends)

abbrev pub may : JointStep → Joint → Bool
may step s = is_running s && may_act step s

-- ---- what the steps do

abbrev pub host_step : HostStep → PhasedStep
host_step (AsksFor ask) = Asks ask
host_step (AnswersRequest answer) = Answers answer
host_step (Ends reason) = Disconnects reason
host_step HasKey = GivesKey
host_step HasNoKey = LacksKey

abbrev pub with_central : PhasedStep → Joint → Joint
with_central step s = record s { central = phased_after step s.central }

abbrev pub with_peripheral : PhasedStep → Joint → Joint
with_peripheral step s = record s { peripheral = phased_after step s.peripheral }

abbrev pub on_air : Option Item → Bool → Way
on_air None sealed = Clear
on_air (Some item) sealed = OnAir item sealed

abbrev pub fixed : Option Item → Way
fixed None = Clear
fixed (Some item) = Fixed item false

-- a control PDU is sealed by the phase in which it is sent, data by that in which it is fixed
abbrev pub sent_up : Way → Bool → Way
sent_up (Fixed Data sealed) seals = OnAir Data sealed
sent_up (Fixed item sealed) seals = OnAir item seals
sent_up way seals = way

abbrev pub is_terminate : Ctrl → Bool
is_terminate (TerminateInd code) = true
is_terminate ctrl = false

abbrev pub is_last : Item → Bool
is_last Data = false
is_last (Control outgoing ctrl) = is_terminate ctrl

abbrev pub taking : Item → ℕ → Response → PhasedStep
taking Data slot response = TakesData
taking (Control outgoing ctrl) slot response = Takes (Known ctrl) slot response

-- a central answers no LL_ENC_REQ
abbrev pub no_response : Response
no_response = record { skd_s = 0; iv_s = 0 }

abbrev pub central_takes : Way → ℕ → Joint → Joint
central_takes (OnAir item sealed) slot s =
    record (with_central (taking item slot no_response) s) { up = Taken item; stopped = is_last item }
central_takes way slot s = s

abbrev pub peripheral_takes : Way → ℕ → Response → Joint → Joint
peripheral_takes (OnAir item sealed) slot response s =
    record (with_peripheral (taking item slot response) s) { down = Taken item; stopped = is_last item }
peripheral_takes way slot response s = s

abbrev pub act : JointStep → Joint → Joint
act (CentralEnters slot) s = with_central (Enters slot) s
act (CentralHost step) s = with_central (host_step step) s
act (CentralSends slot) s =
    record (with_central (Sends slot) s) { down = on_air (next_item s.central) (seals Central s.central.phase) }
act CentralSendsData s = record s { down = OnAir Data (seals Central s.central.phase) }
act CentralAcked s = record (with_central SeesAcknowledged s) { down = Clear }
act (CentralTakes slot) s = central_takes s.up slot s
act (PeripheralEnters slot) s = with_peripheral (Enters slot) s
act (PeripheralHost step) s = with_peripheral (host_step step) s
act (PeripheralFixes slot) s = record (with_peripheral (Sends slot) s) { up = fixed (next_item s.peripheral) }
act PeripheralFixesData s = record s { up = Fixed Data (seals Peripheral s.peripheral.phase) }
act PeripheralSends s = record s { up = sent_up s.up (seals Peripheral s.peripheral.phase) }
act PeripheralAcked s = record (with_peripheral SeesAcknowledged s) { up = Clear }
act (PeripheralTakes slot response) s = peripheral_takes s.down slot response s
act Shuts s = record s { stopped = true }

-- ---- the runs: a step that may not come is none

abbrev pub after : JointStep → Joint → Joint
after step s = (if may step s then act step s else s)

abbrev pub after_all : List JointStep → Joint → Joint
after_all [] s = s
after_all (step ∷ steps) s = after_all steps (after step s)

-- each of the steps may come where those before it lead
abbrev pub may_all : List JointStep → Joint → Bool
may_all [] s = true
may_all (step ∷ steps) s = may step s && may_all steps (after step s)

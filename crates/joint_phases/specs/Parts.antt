-- What the machine of phases sees of the two ends of a joint run and of what is on its way (Core 5.2, volume 6 part B,
-- section 5.1.3).
use Rattle.std.specs.Prelude.{◌≡◌, ⊤, Bool, true, false, not, ◌&&◌, ◌||◌, List, [], ◌∷◌, Option, Some, None, is_none, is_some}
use Rattle.ble_base.specs.declared.roles.Role.TheVariants.{Central, Peripheral}
use Rattle.data_pdu.specs.declared.ctrl.Ctrl.{Ctrl}
use Rattle.data_pdu.specs.declared.ctrl.Ctrl.TheVariants.{EncReq as enc_req}
use Rattle.phase_pairs.specs.enc_phase.declared.classes.PduClass.{PduClass}
use Rattle.phase_pairs.specs.enc_phase.declared.classes.PduClass.TheVariants.{Data as data_class, Other, Request}
use Rattle.phase_pairs.specs.enc_phase.declared.facts.PhaseFacts.{PhaseFacts}
use Rattle.phase_pairs.specs.enc_phase.Phases.{is_quiet}
use Rattle.phase_pairs.specs.enc_phase.Taking.{ctrl_class}
use Rattle.joint_controls.specs.procedure_values.declared.drafts.Draft.{Draft}
use Rattle.joint_controls.specs.procedure_values.declared.drafts.Rejection.{Rejection}
use Rattle.exclusive_stages.specs.declared.stages.CentralStage.TheVariants.{PhySent}
use Rattle.joint_controls.specs.procedure_stages.declared.closing.Closing.{Closing}
use Rattle.joint_controls.specs.procedure_stages.declared.closing.Closing.TheVariants.{Closed, Disconnecting, Open as open_link}
use Rattle.joint_controls.specs.procedure_stages.declared.stages.Exchange.TheVariants.{FeaturesSent, LengthSent, VersionSent}
use Rattle.joint_controls.specs.procedure_stages.declared.stages.OwnCentral.{OwnCentral}
use Rattle.joint_controls.specs.procedure_stages.declared.stages.OwnCentral.TheVariants.{EncryptUnsent, Exchange as exchange, Exclusive as exclusive}
use Rattle.joint_controls.specs.procedure_stages.declared.stages.Progress.{Progress}
use Rattle.joint_controls.specs.procedure_stages.declared.stages.Progress.TheVariants.{Central as central, Peripheral as peripheral}
use Rattle.joint_controls.specs.table_laws.Encrypting.{has_encryption}
use Rattle.joint_controls.specs.phased_control.Phased.{Phased}
use Rattle.joint_controls.specs.phased_control.Taken.{role_now}
use Rattle.joint_controls.specs.Joint.{Joint, Way, Clear, Fixed, OnAir, Taken}
use Rattle.phase_pairs.specs.declared.central.PhaseCentral.{PhaseCentral}
use Rattle.phase_pairs.specs.declared.joint.PhaseLink.{PhaseLink}
use Rattle.phase_pairs.specs.declared.joint.PhaseWay.{PhaseWay}
use Rattle.phase_pairs.specs.declared.joint.PhaseWay.TheVariants.{Clear as way_clear, Fixed as way_fixed, OnAir as way_on_air, Taken as way_taken}
use Rattle.phase_pairs.specs.declared.peripheral.PhaseClosing.{PhaseClosing}
use Rattle.phase_pairs.specs.declared.peripheral.PhaseClosing.TheVariants.{Disconnects, HasNoKey, Open}
use Rattle.phase_pairs.specs.declared.peripheral.PhasePeripheral.{PhasePeripheral}
use Rattle.phase_pairs.specs.declared.peripheral.UnsentRequest.{UnsentRequest}
use Rattle.phase_pairs.specs.Agreement.{is_encryption}
use Rattle.phase_pairs.specs.Central.{is_ahead, is_queued}
use Rattle.phase_pairs.specs.JointRun.{is_pause_rsp}
use Rattle.phase_pairs.specs.Peripheral.{is_unsent, is_waiting, may_fix_pdu, peripheral_popping}
use Rattle.joint_phases.specs.Classes.{class_down, class_up, draft_down, draft_up, item_class}

-- ---- what is on its way

abbrev pub way_down : Bool → Way → PhaseWay
way_down knows Clear = way_clear
way_down knows (Fixed item sealed) = way_fixed (item_class (class_down knows) item) sealed
way_down knows (OnAir item sealed) = way_on_air (item_class (class_down knows) item) sealed
way_down knows (Taken item) = way_taken (is_pause_rsp (item_class (class_down knows) item))

abbrev pub way_up : Bool → Way → PhaseWay
way_up knows Clear = way_clear
way_up knows (Fixed item sealed) = way_fixed (item_class (class_up knows) item) sealed
way_up knows (OnAir item sealed) = way_on_air (item_class (class_up knows) item) sealed
way_up knows (Taken item) = way_taken false

-- ---- what waits at a central, where one PDU of the encryption may be queued

-- rejections and answers go in Clear and Secure, or ahead of the first PDU of an encryption; the first PDU of a
-- procedure goes in Clear and Secure alone
abbrev pub goes_down : PduClass → PhaseFacts → Option PduClass → Bool
goes_down Other phase queued = is_quiet phase || is_ahead phase queued
goes_down Request phase queued = is_quiet phase
goes_down pdu phase queued = is_encryption pdu && is_queued pdu queued

abbrev pub queued_then : PduClass → Option PduClass → Option PduClass
queued_then Other queued = queued
queued_then Request queued = queued
queued_then pdu queued = None

-- these may go in this order, and no other PDU of the encryption is queued
abbrev pub wait_down : (Draft → PduClass) → PhaseFacts → List Draft → Option PduClass → Bool
wait_down class_of phase [] queued = is_none queued
wait_down class_of phase (draft ∷ drafts) queued =
    goes_down (class_of draft) phase queued
    && wait_down class_of phase drafts (queued_then (class_of draft) queued)

abbrev pub may_reject : List Rejection → PhaseFacts → Option PduClass → Bool
may_reject [] phase queued = true
may_reject (rejection ∷ rejections) phase queued = goes_down Other phase queued

-- ---- what waits at a peripheral

abbrev pub goes_up : PduClass → PhasePeripheral → Bool
goes_up data_class p = false
goes_up pdu p = may_fix_pdu pdu p

abbrev pub without_up : PduClass → PhasePeripheral → PhasePeripheral
without_up Request p = record p { request = UnsentRequest.Absent }
without_up Other p = record p { owes = false }
without_up pdu p = peripheral_popping p

-- nothing waits
abbrev pub is_emptied : PhasePeripheral → Bool
is_emptied p = not (is_waiting p) && (is_none p.second && (not (is_unsent p.request) && not p.owes))

-- these may be fixed in this order, and nothing else waits
abbrev pub wait_up : (Draft → PduClass) → List Draft → PhasePeripheral → Bool
wait_up class_of [] p = is_emptied p
wait_up class_of (draft ∷ drafts) p =
    goes_up (class_of draft) p && wait_up class_of drafts (without_up (class_of draft) p)

-- ---- the end of the link

abbrev pub closing_down : Bool → Closing
closing_down true = Disconnecting
closing_down false = open_link

abbrev pub closing_up : PhaseClosing → Closing
closing_up Open = open_link
closing_up Disconnects = Disconnecting
closing_up HasNoKey = Closed

-- ---- the own procedure of a central

-- its first PDU was sent and is not answered
abbrev pub is_awaiting_at : OwnCentral → Bool
is_awaiting_at (exclusive PhySent) = true
is_awaiting_at (exchange FeaturesSent) = true
is_awaiting_at (exchange VersionSent) = true
is_awaiting_at (exchange LengthSent) = true
is_awaiting_at own = false

abbrev pub is_awaiting : Progress → Bool
is_awaiting (central c) = is_awaiting_at c.own
is_awaiting (peripheral p) = false

-- an encryption none of whose PDUs was sent
abbrev pub is_encryption_unsent_at : OwnCentral → Bool
is_encryption_unsent_at EncryptUnsent = true
is_encryption_unsent_at own = false

abbrev pub is_encryption_unsent : Progress → Bool
is_encryption_unsent (central c) = is_encryption_unsent_at c.own
is_encryption_unsent (peripheral p) = false

-- ---- the two ends

-- a PDU that is kept is the first of a procedure
abbrev pub IsRequest : Option Ctrl → Type 0
IsRequest None = ⊤
IsRequest (Some ctrl) = ctrl_class ctrl ≡ Request

abbrev pub is_enc_req : Option Ctrl → Bool
is_enc_req (Some (enc_req rand ediv skd_m iv_m)) = true
is_enc_req other = false

pub record IsCentral (s : Phased) (c : PhaseCentral) : Type 0 where
  pub role : role_now s ≡ Central
  pub phase : s.phase ≡ c.phase
  pub closing : s.control.table.closing ≡ closing_down c.closed
  -- an answer is awaited only by a procedure that runs
  pub awaits : c.awaits ≡ true → is_awaiting s.control.table.progress ≡ true
  pub rejects : may_reject s.control.table.queue.rejections c.phase c.queued ≡ true
  pub waits : wait_down (draft_down s.knows_version) c.phase s.control.table.queue.drafts c.queued ≡ true
  pub asks_key : s.asks_key ≡ false
  -- a PDU is kept only outside Clear and Secure
  pub kept : is_quiet c.phase ≡ true → s.kept ≡ None
  pub keeps_first : IsRequest s.kept
  -- there an encryption runs, and its LL_ENC_REQ is remembered
  pub encrypts : has_encryption s.control.table.progress ≡ not (is_quiet c.phase)
  pub request : is_quiet c.phase || is_enc_req s.request ≡ true
  pub begins : is_encryption_unsent s.control.table.progress ≡ true → is_some c.queued ≡ true

pub record IsPeripheral (s : Phased) (p : PhasePeripheral) : Type 0 where
  pub role : role_now s ≡ Peripheral
  pub phase : s.phase ≡ p.phase
  pub asks_key : s.asks_key ≡ p.asks_key
  pub closing : s.control.table.closing ≡ closing_up p.closing
  pub rejects : s.control.table.queue.rejections ≡ []
  pub waits : wait_up (draft_up s.knows_version) s.control.table.queue.drafts p ≡ true
  pub kept : s.kept ≡ None
  pub request : s.request ≡ None

-- ---- the link

pub record IsShown (s : Joint) (m : PhaseLink) : Type 0 where
  pub central : IsCentral s.central m.central
  pub peripheral : IsPeripheral s.peripheral m.peripheral
  pub down : m.down ≡ way_down s.central.knows_version s.down
  pub up : m.up ≡ way_up s.peripheral.knows_version s.up

-- Which control PDUs an end of a joint run queues and sends, by its role (Core 5.2, volume 6 part B, section 2.4.2;
-- what this product never sends is our choice). The other end knows each of them, but for PDUs of the encryption in a
-- phase in which they have no meaning. Those it answers with LL_UNKNOWN_RSP; `unknowns` is whether such an answer may
-- be among what waits.
use Rattle.std.specs.Prelude.{◌≡◌, ⊤, ℕ, ◌==◌, Bool, true, false, ◌&&◌, ◌||◌, Option, Some, None}
use Rattle.std.specs.List.{AllByRecursion}
use Rattle.ble_base.specs.declared.roles.Role.{Role}
use Rattle.ble_base.specs.declared.roles.Role.TheVariants.{Central, Peripheral}
use Rattle.data_pdu.specs.declared.ctrl.Ctrl.{Ctrl}
use Rattle.data_pdu.specs.declared.ctrl.Ctrl.TheVariants.{EncReq, EncRsp, PauseEncReq, PauseEncRsp, RejectExtInd, StartEncReq, StartEncRsp, TerminateInd}
use Rattle.joint_controls.specs.enc_phase.declared.classes.PduClass.TheVariants.{Request as request_class}
use Rattle.joint_controls.specs.enc_phase.Taking.{ctrl_class, is_unknown}
use Rattle.exchange_steps.specs.procedure_values.declared.drafts.Draft.{Draft}
use Rattle.exchange_steps.specs.procedure_values.declared.drafts.Draft.TheVariants.{Cipher, FeatureReq, FeatureRsp, Grant, LengthReq, LengthRsp, Map, PeripheralFeatureReq, PhyInd, PhyReq, PhyRsp, Request, UnknownRsp, Update, VersionInd}
use Rattle.exchange_steps.specs.procedure_values.declared.drafts.Outgoing.{Outgoing}
use Rattle.exchange_steps.specs.procedure_values.declared.drafts.Outgoing.TheVariants.{Disconnect, Nothing, Other, Rejection}
use Rattle.exchange_steps.specs.procedure_values.declared.drafts.Rejection.{Rejection as TheRejection}
use Rattle.exchange_steps.specs.procedure_values.Drafts.{ctrl_of_outgoing}
use Rattle.exchange_steps.specs.procedure_stages.Kinds.{role_of}
use Rattle.exchange_steps.specs.procedure_stages.Opcodes.{connection_param_req_opcode, enc_req_opcode, enc_rsp_opcode, pause_enc_req_opcode, phy_req_opcode, start_enc_req_opcode}
use Rattle.exchange_steps.specs.procedures.Table.{TableFacts}
use Rattle.joint_controls.specs.phased_control.Phased.{Phased}
use Rattle.joint_controls.specs.Joint.{Clear, Control, Data, Fixed, Item, Joint, OnAir, Taken, Way}

-- ---- what waits

-- the layer above queues the PDUs of the encryption, and at a peripheral the refusal of a start or LL_TERMINATE_IND
abbrev pub is_cipher_of : Role → Ctrl → Bool
is_cipher_of Central (EncReq rand ediv skd_m iv_m) = true
is_cipher_of Peripheral (EncRsp skd_s iv_s) = true
is_cipher_of Peripheral StartEncReq = true
is_cipher_of Central PauseEncReq = true
is_cipher_of role StartEncRsp = true
is_cipher_of role PauseEncRsp = true
is_cipher_of Peripheral (RejectExtInd opcode code) = opcode == enc_req_opcode
is_cipher_of Peripheral (TerminateInd code) = true
is_cipher_of role ctrl = false

-- the PDUs of the encryption that may have no meaning at an end
abbrev pub is_cipher_opcode : ℕ → Bool
is_cipher_opcode opcode =
    (opcode == enc_req_opcode) || (opcode == enc_rsp_opcode) || (opcode == start_enc_req_opcode)
    || (opcode == pause_enc_req_opcode)

abbrev pub is_draft_of : Bool → Role → Draft → Bool
is_draft_of unknowns Central (Update params) = true
is_draft_of unknowns Central (Grant params) = true
is_draft_of unknowns Central (Map map) = true
is_draft_of unknowns Peripheral (Request min max latency timeout) = true
is_draft_of unknowns role PhyReq = true
is_draft_of unknowns Peripheral PhyRsp = true
is_draft_of unknowns Central PhyInd = true
is_draft_of unknowns Central FeatureReq = true
is_draft_of unknowns Peripheral PeripheralFeatureReq = true
is_draft_of unknowns role FeatureRsp = true
is_draft_of unknowns role VersionInd = true
is_draft_of unknowns role (LengthReq rx tx) = true
is_draft_of unknowns role (LengthRsp rx tx) = true
is_draft_of unknowns role (UnknownRsp opcode) = unknowns && is_cipher_opcode opcode
is_draft_of unknowns role (Cipher ctrl) = is_cipher_of role ctrl
is_draft_of unknowns role draft = false

-- a central rejects the two procedures of a peripheral that exclude others
abbrev pub is_rejection_of : Role → TheRejection → Bool
is_rejection_of Central rejection =
    (rejection.opcode == connection_param_req_opcode) || (rejection.opcode == phy_req_opcode)
is_rejection_of Peripheral rejection = false

abbrev pub is_outgoing_of : Bool → Role → Outgoing → Bool
is_outgoing_of unknowns role Nothing = true
is_outgoing_of unknowns role (Rejection rejection) = is_rejection_of role rejection
is_outgoing_of unknowns role (Disconnect code) = true
is_outgoing_of unknowns role (Other draft) = is_draft_of unknowns role draft

-- ---- an end

-- LL_ENC_REQ of the encryption that a central runs
abbrev pub IsRequestBy : Role → Option Ctrl → Type 0
IsRequestBy role None = ⊤
IsRequestBy Central (Some (EncReq rand ediv skd_m iv_m)) = ⊤
IsRequestBy role (Some ctrl) = ⊥

-- a central alone keeps a PDU, the first of a procedure
abbrev pub IsKeptBy : Role → Option Ctrl → Type 0
IsKeptBy role None = ⊤
IsKeptBy Central (Some ctrl) = ctrl_class ctrl ≡ request_class
IsKeptBy Peripheral (Some ctrl) = ⊥

-- a host is asked for a key at a peripheral alone
abbrev pub AsksAt : Role → Bool → Type 0
AsksAt Central true = ⊥
AsksAt role asks = ⊤

pub record IsTableOf (unknowns : Bool) (role : Role) (f : TableFacts) : Type 0 where
  pub same_role : role_of f.progress ≡ role
  pub rejections : AllByRecursion (λ rejection. is_rejection_of role rejection ≡ true) f.queue.rejections
  pub drafts : AllByRecursion (λ draft. is_draft_of unknowns role draft ≡ true) f.queue.drafts

pub record IsEndOf (unknowns : Bool) (role : Role) (s : Phased) : Type 0 where
  pub table : IsTableOf unknowns role s.control.table
  pub request : IsRequestBy role s.request
  pub kept : IsKeptBy role s.kept
  pub asks : AsksAt role s.asks_key

-- ---- what is on its way

pub record IsSentBy (unknowns : Bool) (role : Role) (outgoing : Outgoing) (ctrl : Ctrl) : Type 0 where
  pub right : is_outgoing_of unknowns role outgoing ≡ true
  -- what is read is what waited, with the numbers of the event in which it was sent
  pub event : ℕ
  pub latency : ℕ
  pub is : ctrl_of_outgoing outgoing event latency ≡ Some ctrl

abbrev pub IsItemOf : Bool → Role → Item → Type 0
IsItemOf unknowns role Data = ⊤
IsItemOf unknowns role (Control outgoing ctrl) = IsSentBy unknowns role outgoing ctrl

abbrev pub IsWayOf : Bool → Role → Way → Type 0
IsWayOf unknowns role Clear = ⊤
IsWayOf unknowns role (Fixed item sealed) = IsItemOf unknowns role item
IsWayOf unknowns role (OnAir item sealed) = IsItemOf unknowns role item
IsWayOf unknowns role (Taken item) = IsItemOf unknowns role item

pub record AreOfRoles (unknowns : Bool) (s : Joint) : Type 0 where
  pub central : IsEndOf unknowns Central s.central
  pub peripheral : IsEndOf unknowns Peripheral s.peripheral
  pub down : IsWayOf unknowns Central s.down
  pub up : IsWayOf unknowns Peripheral s.up

-- ---- what comes to an end has a meaning in its phase

abbrev pub HasMeaning : Role → Phased → Way → Type 0
HasMeaning role s (OnAir (Control outgoing ctrl) sealed) = is_unknown s.phase role (ctrl_class ctrl) ≡ false
HasMeaning role s way = ⊤

pub record HaveMeaning (s : Joint) : Type 0 where
  pub central : HasMeaning Central s.central s.up
  pub peripheral : HasMeaning Peripheral s.peripheral s.down

-- The indications that a central has queued, by the procedures that owe them (Core 5.2, volume 6 part B, sections 5.1.1,
-- 5.1.2, 5.1.7 and 5.1.10).
use Rattle.std.specs.Prelude.{◌≡◌, ◌≤◌, ℕ, ◌+◌, ◌==◌, ◌&&◌, Bool, true, false, List, [], ◌∷◌, Option, Some, None}
use Rattle.ble_base.specs.declared.notes.Note.{Note}
use Rattle.ble_base.specs.declared.notes.Note.TheVariants.{Took}
use Rattle.collisions.specs.declared.central.Central.{Central}
use Rattle.data_pdu.specs.Reading.{ctrl_of}
use Rattle.data_pdu.specs.declared.ctrl.Ctrl.{Ctrl}
use Rattle.data_pdu.specs.declared.ctrl.Ctrl.TheVariants.{ChannelMapInd, ConnectionParamReq, ConnectionUpdateInd, PhyReq as phy_req, PhyUpdateInd, RejectExtInd, RejectInd, UnknownRsp}
use Rattle.data_pdu.specs.declared.ctrl.CtrlRead.{CtrlRead}
use Rattle.data_pdu.specs.declared.ctrl.CtrlRead.TheVariants.{Known}
use Rattle.exclusive_stages.specs.declared.pdus.Exclusive.{Exclusive}
use Rattle.exclusive_stages.specs.declared.pdus.Exclusive.TheVariants.{Map, Phy, Update}
use Rattle.exclusive_stages.specs.declared.pdus.Pdu.{Pdu}
use Rattle.exclusive_stages.specs.declared.pdus.Pdu.TheVariants.{GrantInd, MapInd, PhyInd, UpdateInd}
use Rattle.exclusive_stages.specs.declared.stages.CentralStage.{CentralStage}
use Rattle.exclusive_stages.specs.declared.stages.CentralStage.TheVariants.{MapUnsent, PhyAnswered, UpdateUnsent}
use Rattle.exclusive_stages.specs.declared.stages.PeerAtCentral.{PeerAtCentral}
use Rattle.exclusive_stages.specs.declared.stages.PeerAtCentral.TheVariants.{GrantSent, GrantUnsent, HostAsked, PhyIndSent, PhyIndUnsent}
use Rattle.link_model.specs.procedure_stages.Opcodes.{phy_req_opcode}

-- ---- the indications of a kind: of an update, or granting a request; of a map; of a PHY update of either end

abbrev pub is_indication_of : Exclusive → Pdu → Bool
is_indication_of Update UpdateInd = true
is_indication_of Update GrantInd = true
is_indication_of Map MapInd = true
is_indication_of Phy PhyInd = true
is_indication_of kind pdu = false

-- how many the own procedure owes
abbrev pub owing : Exclusive → CentralStage → ℕ
owing Update UpdateUnsent = 1
owing Map MapUnsent = 1
owing Phy PhyAnswered = 1
owing kind own = 0

-- a procedure of the peripheral is in progress that such an indication answers
abbrev pub is_answering : Exclusive → PeerAtCentral → Bool
is_answering Update HostAsked = true
is_answering Update GrantUnsent = true
is_answering Update GrantSent = true
is_answering Phy PhyIndUnsent = true
is_answering Phy PhyIndSent = true
is_answering kind peer = false

abbrev pub one_if : Bool → ℕ
one_if true = 1
one_if false = 0

-- how many of these PDUs pass a test
abbrev pub number : (Pdu → Bool) → List Pdu → ℕ
number test [] = 0
number test (pdu ∷ pdus) = one_if (test pdu) + number test pdus

-- no more of a kind are queued than the own procedure owes, and the peripheral is owed none
pub record Owes (kind : Exclusive) (t : Central) : Type 0 where
  pub few : number (is_indication_of kind) t.queue.items ≤ owing kind t.own
  pub none : is_answering kind t.peer ≡ false

-- ---- what ends that: the first PDU of a procedure of the peripheral that such an indication answers; or, of a PHY
-- update, a refusal of the own one

abbrev pub is_opening_read : Exclusive → CtrlRead → Bool
is_opening_read Update (Known (ConnectionParamReq min max latency timeout periodicity reference offsets)) = true
is_opening_read Phy (Known (phy_req tx rx)) = true
is_opening_read Phy (Known (UnknownRsp opcode)) = phy_req_opcode == opcode
is_opening_read Phy (Known (RejectInd code)) = true
is_opening_read Phy (Known (RejectExtInd opcode code)) = phy_req_opcode == opcode
is_opening_read kind read = false

-- a PDU that is kept, if there is one, passes such a test
abbrev pub opens_by : (CtrlRead → Bool) → Option Ctrl → Bool
opens_by opens None = false
opens_by opens (Some ctrl) = opens (Known ctrl)

-- a central keeps such a PDU outside Clear and Secure, and its procedures see it later (section 5.1.3; our choice)
abbrev pub is_opening_kept : Exclusive → Option Ctrl → Bool
is_opening_kept kind kept = opens_by (is_opening_read kind) kept

-- the end takes such a control PDU (section 2.4.1)
abbrev pub is_opening : Exclusive → Note → Bool
is_opening kind (Took handle number llid body) = (llid == 3) && is_opening_read kind (ctrl_of body.items)
is_opening kind note = false

-- the own procedure that an indication is of, if a central has it in progress (sections 2.4.2.1, 2.4.2.2 and 2.4.2.23)
abbrev pub indicates : CtrlRead → Option Exclusive
indicates (Known (ConnectionUpdateInd win_size win_offset interval latency timeout instant)) = Some Update
indicates (Known (ChannelMapInd map instant)) = Some Map
indicates (Known (PhyUpdateInd to_peripheral to_central instant)) = Some Phy
indicates read = None

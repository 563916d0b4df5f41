-- From which call on an encryption is in progress at one end, and until which (Core 5.2, volume 6 part B, section
-- 5.1.3).
use Rattle.std.specs.Prelude.{◌≡◌, Bool, true, false, ⊤}
use Rattle.data_pdu.specs.declared.ctrl.Ctrl.{Ctrl}
use Rattle.data_pdu.specs.declared.ctrl.Ctrl.TheVariants.{EncReq, StartEncRsp, PauseEncReq, UnknownRsp, RejectInd, RejectExtInd}
use Rattle.data_pdu.specs.declared.ctrl.CtrlRead.TheVariants.{Known}
use Rattle.procedures.specs.procedure_stages.declared.stages.Progress.{Progress}
use Rattle.procedures.specs.procedure_stages.declared.stages.Progress.TheVariants.{Central, Peripheral}
use Rattle.procedures.specs.procedure_stages.Awaited.{is_own_encryption}
use Rattle.procedures.specs.Calls.{Call, begins_one, takes, is_given}
use Rattle.procedures.specs.procedure_stages.Opcodes.{enc_req_opcode}

-- the central's own at the central, and the same at the peripheral
abbrev pub has_encryption : Progress → Bool
has_encryption (Central c) = is_own_encryption c.own
has_encryption (Peripheral p) = p.encrypting

-- the central takes LL_START_ENC_RSP outside Clear and Secure, or a refusal of LL_ENC_REQ
abbrev pub EndsAtCentral : Ctrl → Bool → Type 0
EndsAtCentral StartEncRsp quiet = quiet ≡ false
EndsAtCentral (UnknownRsp opcode) quiet = opcode ≡ enc_req_opcode
EndsAtCentral (RejectInd code) quiet = ⊤
EndsAtCentral (RejectExtInd opcode code) quiet = opcode ≡ enc_req_opcode
EndsAtCentral other quiet = ⊥

-- the peripheral takes LL_ENC_REQ or LL_PAUSE_ENC_REQ
abbrev pub BeginsAtPeripheral : Ctrl → Type 0
BeginsAtPeripheral (EncReq rand ediv skd_m iv_m) = ⊤
BeginsAtPeripheral PauseEncReq = ⊤
BeginsAtPeripheral other = ⊥

-- it takes LL_START_ENC_RSP outside Clear and Secure
abbrev pub EndsAtPeripheral : Ctrl → Bool → Type 0
EndsAtPeripheral StartEncRsp quiet = quiet ≡ false
EndsAtPeripheral other quiet = ⊥

-- or refuses the start
abbrev pub IsRefusal : Ctrl → Type 0
IsRefusal (RejectExtInd opcode code) = ⊤
IsRefusal other = ⊥

-- the calls by which it may begin: at a central as a procedure begins in phase Clear or Secure
abbrev pub MayBeginBy : Progress → Call → Type 0
MayBeginBy (Central c) (begins_one slot quiet) = quiet ≡ true
MayBeginBy (Peripheral p) (takes (Known ctrl) slot quiet) = BeginsAtPeripheral ctrl
MayBeginBy progress other = ⊥

-- and those by which it may end
abbrev pub MayEndBy : Progress → Call → Type 0
MayEndBy (Central c) (takes (Known ctrl) slot quiet) = EndsAtCentral ctrl quiet
MayEndBy (Peripheral p) (takes (Known ctrl) slot quiet) = EndsAtPeripheral ctrl quiet
MayEndBy (Peripheral p) (is_given ctrl) = IsRefusal ctrl
MayEndBy progress other = ⊥

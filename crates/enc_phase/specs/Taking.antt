-- Which PDUs an end may take in each phase (Core 5.2, volume 6 part B, sections 5.1.3.1 and 5.1.3.2, and our choice).
use Rattle.std.specs.Prelude.{ℕ, ◌==◌, Bool, true, false, not, Option, Some, None, if◌then◌else◌}
use Rattle.ble_base.specs.declared.roles.Role.{Role}
use Rattle.ble_base.specs.declared.roles.Role.TheVariants.{Central, Peripheral}
use Rattle.data_pdu.specs.declared.ctrl.Ctrl.{Ctrl}
use Rattle.data_pdu.specs.declared.ctrl.Ctrl.TheVariants.{TerminateInd, EncReq as PduEncReq, EncRsp as PduEncRsp, StartEncReq as PduStartEncReq, StartEncRsp as PduStartEncRsp, PauseEncReq as PduPauseEncReq, PauseEncRsp as PduPauseEncRsp, VersionInd, RejectInd, PeripheralFeatureReq, ConnectionParamReq, RejectExtInd, LengthReq, PhyReq}
use Rattle.enc_phase.specs.declared.classes.PduClass.{PduClass}
use Rattle.enc_phase.specs.declared.classes.PduClass.TheVariants.{Empty, Data, Terminate, EncReq, EncRsp, StartEncReq, StartEncRsp, PauseEncReq, PauseEncRsp, Refusal, Request, Other}
use Rattle.enc_phase.specs.declared.facts.PhaseFacts.{PhaseFacts}
use Rattle.enc_phase.specs.declared.facts.PhaseFacts.TheVariants.{Clear, Asked, HalfKeyed, Secure, Pausing, HalfClear}

-- the class of a control PDU; an LL_REJECT_EXT_IND refuses encryption where it names the opcode of LL_ENC_REQ
abbrev pub ctrl_class : Ctrl → PduClass
ctrl_class (TerminateInd code) = Terminate
ctrl_class (PduEncReq rand ediv skd_m iv_m) = EncReq
ctrl_class (PduEncRsp skd_s iv_s) = EncRsp
ctrl_class PduStartEncReq = StartEncReq
ctrl_class PduStartEncRsp = StartEncRsp
ctrl_class PduPauseEncReq = PauseEncReq
ctrl_class PduPauseEncRsp = PauseEncRsp
ctrl_class (RejectInd code) = Refusal
ctrl_class (RejectExtInd opcode code) = (if opcode == 3 then Refusal else Other)
ctrl_class (VersionInd version company sub) = Request
ctrl_class (PeripheralFeatureReq features) = Request
ctrl_class (ConnectionParamReq interval_min interval_max latency timeout periodicity reference offsets) = Request
ctrl_class (LengthReq max_rx_octets max_rx_time max_tx_octets max_tx_time) = Request
ctrl_class (PhyReq tx rx) = Request
ctrl_class ctrl = Other

-- the class of a PDU with this LLID, of which a control PDU is read as this one, if as any
abbrev pub class_of : ℕ → Option Ctrl → PduClass
class_of llid None = (if llid == 0 then Empty else (if llid == 3 then Other else Data))
class_of llid (Some ctrl) = (if llid == 0 then Empty else (if llid == 3 then ctrl_class ctrl else Data))

-- the table of what a phase lets an end take; any other PDU ends the link (our choice)
abbrev pub allows : PhaseFacts → Role → PduClass → Bool
allows Clear role pdu = true
allows Secure role pdu = true
allows phase role Empty = true
allows phase role Terminate = true
allows (Asked after_pause enc_rsp kept) Central Data = not enc_rsp
allows (Asked after_pause enc_rsp kept) Central EncRsp = not enc_rsp
allows (Asked after_pause enc_rsp kept) Central StartEncReq = enc_rsp
allows (Asked after_pause enc_rsp kept) Central Refusal = not after_pause
allows (Asked after_pause enc_rsp kept) Central Request = not kept
allows HalfKeyed role StartEncRsp = true
allows (Pausing kept) role PauseEncRsp = true
allows (Pausing kept) Central Data = true
allows (Pausing kept) Central Request = not kept
allows (HalfClear kept) Peripheral EncReq = true
allows phase role pdu = false

-- what a phase keeps of a PDU that is taken
abbrev pub phase_taking : PduClass → PhaseFacts → PhaseFacts
phase_taking EncRsp (Asked after_pause enc_rsp kept) = Asked after_pause true kept
phase_taking Request (Asked after_pause enc_rsp kept) = Asked after_pause enc_rsp true
phase_taking Request (Pausing kept) = Pausing true
phase_taking pdu phase = phase

-- the encryption PDUs that are answered with LL_UNKNOWN_RSP, since they have no meaning at this end in this phase
abbrev pub is_unknown : PhaseFacts → Role → PduClass → Bool
is_unknown Clear Central EncReq = true
is_unknown Secure Central EncReq = true
is_unknown Clear Central PauseEncReq = true
is_unknown Secure Central PauseEncReq = true
is_unknown Secure Peripheral EncReq = true
is_unknown Clear Peripheral PauseEncReq = true
is_unknown Clear Peripheral EncRsp = true
is_unknown Secure Peripheral EncRsp = true
is_unknown Clear Peripheral StartEncReq = true
is_unknown Secure Peripheral StartEncReq = true
is_unknown phase role pdu = false

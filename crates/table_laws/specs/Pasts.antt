-- Which calls may come on the table of one end, one after another (Core 5.2, volume 6 part B, section 5; what the layer
-- above queues is in section 5.1.3). Any call may come at any time, but for these.
use Rattle.std.specs.Prelude.{◌≡◌, ℕ, ◌<◌, ◌≤◌, Bool, true, false, List, [], ◌∷◌, Some, ⊤}
use Rattle.ble_base.specs.ErrorCodes.{pin_or_key_missing}
use Rattle.ble_base.specs.declared.procedure_kinds.Kind.TheVariants.{Encrypt}
use Rattle.data_pdu.specs.declared.ctrl.Ctrl.{Ctrl}
use Rattle.data_pdu.specs.declared.ctrl.Ctrl.TheVariants.{TerminateInd, EncReq, EncRsp, StartEncReq, StartEncRsp, PauseEncReq, PauseEncRsp, RejectExtInd}
use Rattle.procedures.specs.procedure_stages.declared.stages.Progress.{Progress}
use Rattle.procedures.specs.procedure_stages.declared.stages.Progress.TheVariants.{Central, Peripheral}
use Rattle.procedures.specs.procedure_stages.Kinds.{own_kind}
use Rattle.procedures.specs.Table.{TableFacts}
use Rattle.procedures.specs.procedure_stages.Closing.{is_open}
use Rattle.procedures.specs.procedure_stages.InProgress.{is_host_asked}
use Rattle.procedures.specs.procedure_stages.Queue.{waiting_in}
use Rattle.procedures.specs.Taking.{took_step}
use Rattle.procedures.specs.Calls.{Call, takes, host_answers, is_given, after_call}
use Rattle.procedures.specs.procedure_stages.Opcodes.{enc_req_opcode}
use Rattle.table_laws.specs.Waiting.{own_waiting}

-- ---- whether the host of a peripheral is asked for a key: from LL_ENC_RSP on until it answers

abbrev pub key_after_given : Bool → Ctrl → Bool
key_after_given key (EncRsp skd_s iv_s) = true
key_after_given key StartEncReq = false
key_after_given key (RejectExtInd opcode code) = false
key_after_given key (TerminateInd code) = false
key_after_given key other = key

abbrev pub key_after_call : Bool → Call → Bool
key_after_call key (is_given ctrl) = key_after_given key ctrl
key_after_call key other = key

abbrev pub key_after_calls : Bool → List Call → Bool
key_after_calls key [] = key
key_after_calls key (call ∷ calls) = key_after_calls (key_after_call key call) calls

abbrev pub is_key_asked : List Call → Bool
is_key_asked calls = key_after_calls false calls

-- ---- which PDUs of the encryption the layer above queues

-- an answer to the peer, while fewer than sixteen control PDUs wait (our choice)
abbrev pub HasRoomToAnswer : TableFacts → Type 0
HasRoomToAnswer f = waiting_in f.queue < 16

-- LL_ENC_REQ or LL_PAUSE_ENC_REQ of the own encryption, while none waits
pub record MayRequest (f : TableFacts) : Type 0 where
  pub encrypts : own_kind f.progress ≡ Some Encrypt
  pub none_waits : own_waiting f ≡ 0

abbrev pub MayGiveAtCentral : TableFacts → Ctrl → Type 0
MayGiveAtCentral f (EncReq rand ediv skd_m iv_m) = MayRequest f
MayGiveAtCentral f PauseEncReq = MayRequest f
MayGiveAtCentral f PauseEncRsp = HasRoomToAnswer f
MayGiveAtCentral f StartEncRsp = HasRoomToAnswer f
MayGiveAtCentral f other = ⊥

-- the host has no key: a start is refused, and after a pause the link ends
pub record LacksKey (key : Bool) (code : ℕ) : Type 0 where
  pub asked : key ≡ true
  pub reason : code ≡ pin_or_key_missing

abbrev pub MayGiveAtPeripheral : TableFacts → Bool → Ctrl → Type 0
MayGiveAtPeripheral f key (EncRsp skd_s iv_s) = HasRoomToAnswer f
MayGiveAtPeripheral f key PauseEncRsp = HasRoomToAnswer f
MayGiveAtPeripheral f key StartEncRsp = HasRoomToAnswer f
MayGiveAtPeripheral f key StartEncReq = key ≡ true
MayGiveAtPeripheral f key (RejectExtInd opcode code) = (opcode ≡ enc_req_opcode) × LacksKey key code
MayGiveAtPeripheral f key (TerminateInd code) = LacksKey key code
MayGiveAtPeripheral f key other = ⊥

abbrev pub MayGive : Progress → TableFacts → Bool → Ctrl → Type 0
MayGive (Central c) f key ctrl = MayGiveAtCentral f ctrl
MayGive (Peripheral p) f key ctrl = MayGiveAtPeripheral f key ctrl

-- ---- which calls may come

-- while LL_ENC_REQ or LL_PAUSE_ENC_REQ of the own encryption waits, the phase lets no PDU in that ends this encryption;
-- the host answers a request about which it is asked; once the link is to end it does not matter what the layer above
-- gives, since nothing is queued
abbrev pub May : TableFacts → Bool → Call → Type 0
May f key (takes read slot quiet) =
    own_kind f.progress ≡ Some Encrypt → 1 ≤ own_waiting f
    → own_kind (took_step f read slot quiet).0.progress ≡ Some Encrypt
May f key (host_answers answer) = is_host_asked f.progress ≡ true
May f key (is_given ctrl) = is_open f.closing ≡ true → MayGive f.progress f key ctrl
May f key other = ⊤

abbrev pub MayAll : TableFacts → Bool → List Call → Type 0
MayAll f key [] = ⊤
MayAll f key (call ∷ calls) = May f key call × MayAll (after_call f call) (key_after_call key call) calls

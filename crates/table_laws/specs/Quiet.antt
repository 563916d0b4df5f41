-- A central outside phases Clear and Secure: what runs there, and what waits, also while it keeps a PDU of the
-- peripheral (Core 5.2, volume 6 part B, section 5.1.3; that it keeps one is our choice).
use Rattle.std.specs.Prelude.{◌≡◌, ⊤, ℕ, ◌+◌, Bool, true, false, not, List, [], ◌∷◌, length}
use Rattle.data_pdu.specs.declared.ctrl.Ctrl.{Ctrl}
use Rattle.data_pdu.specs.declared.ctrl.Ctrl.TheVariants.{EncReq, EncRsp, PauseEncReq, PauseEncRsp, RejectExtInd, RejectInd, StartEncReq, StartEncRsp, TerminateInd, UnknownRsp}
use Rattle.data_pdu.specs.declared.ctrl.CtrlRead.{CtrlRead}
use Rattle.data_pdu.specs.declared.ctrl.CtrlRead.TheVariants.{Known}
use Rattle.procedures.specs.procedure_values.declared.drafts.Draft.{Draft}
use Rattle.procedures.specs.procedure_values.declared.drafts.Draft.TheVariants.{Cipher, FeatureReq, FeatureRsp, Grant, LengthReq, LengthRsp, Map, PeripheralFeatureReq, PhyInd, PhyReq, PhyRsp, Request, UnknownRsp as unknown_rsp, Update, VersionInd}
use Rattle.procedures.specs.Calls.{Call, after_call, begins_one, sends, takes}
use Rattle.procedures.specs.Table.{TableFacts}
use Rattle.table_laws.specs.Encrypting.{has_encryption}
use Rattle.table_laws.specs.Waiting.{number_of}

-- ---- the phase

-- the layer above passes whether the phase is Clear or Secure: it is exactly while the central runs no encryption
abbrev pub PassesPhase : TableFacts → Call → Type 0
PassesPhase f (begins_one slot quiet) = quiet ≡ not (has_encryption f.progress)
PassesPhase f (takes read slot quiet) = quiet ≡ not (has_encryption f.progress)
PassesPhase f (sends event skips quiet slot) = quiet ≡ not (has_encryption f.progress)
PassesPhase f other = ⊤

-- a call in another phase
abbrev pub is_unquiet : Call → Bool
is_unquiet (begins_one slot quiet) = not quiet
is_unquiet (takes read slot quiet) = not quiet
is_unquiet (sends event skips quiet slot) = not quiet
is_unquiet other = false

-- ---- what waits

-- the first PDU of an own procedure, but for an exchange of versions
abbrev pub is_first_pdu : Draft → Bool
is_first_pdu (Update params) = true
is_first_pdu (Map map) = true
is_first_pdu (Request min max latency timeout) = true
is_first_pdu PhyReq = true
is_first_pdu FeatureReq = true
is_first_pdu PeripheralFeatureReq = true
is_first_pdu (LengthReq rx tx) = true
is_first_pdu other = false

abbrev pub first_pdus_waiting : TableFacts → ℕ
first_pdus_waiting f = number_of is_first_pdu f.queue.drafts

-- what answers the peripheral; its LL_VERSION_IND may do so
abbrev pub is_answer_pdu : Draft → Bool
is_answer_pdu FeatureRsp = true
is_answer_pdu VersionInd = true
is_answer_pdu (LengthRsp rx tx) = true
is_answer_pdu (unknown_rsp opcode) = true
is_answer_pdu (Grant params) = true
is_answer_pdu PhyInd = true
is_answer_pdu PhyRsp = true
is_answer_pdu other = false

-- with the rejections of its procedures
abbrev pub answers_waiting : TableFacts → ℕ
answers_waiting f = length f.queue.rejections + number_of is_answer_pdu f.queue.drafts

-- a PDU of a central's encryption
abbrev pub is_encryption_pdu : Ctrl → Bool
is_encryption_pdu (EncReq rand ediv skd_m iv_m) = true
is_encryption_pdu PauseEncReq = true
is_encryption_pdu PauseEncRsp = true
is_encryption_pdu StartEncRsp = true
is_encryption_pdu other = false

abbrev pub is_other_pdu : Draft → Bool
is_other_pdu (Cipher ctrl) = not (is_encryption_pdu ctrl)
is_other_pdu other = true

-- all that waits but those, and but LL_TERMINATE_IND of a Disconnect
abbrev pub others_waiting : TableFacts → ℕ
others_waiting f = length f.queue.rejections + number_of is_other_pdu f.queue.drafts

-- ---- a PDU of the peripheral is kept

-- a central that runs an encryption keeps the first PDU of a procedure; the peripheral begins one only where it awaits
-- no answer to what it began before
pub record MayKeep (f : TableFacts) : Type 0 where
  pub encrypts : has_encryption f.progress ≡ true
  pub owes_nothing : answers_waiting f ≡ 0

-- what is taken while it is kept: PDUs of the encryption, refusals, and LL_TERMINATE_IND
abbrev pub IsTakenMeanwhile : CtrlRead → Type 0
IsTakenMeanwhile (Known (EncRsp skd_s iv_s)) = ⊤
IsTakenMeanwhile (Known StartEncReq) = ⊤
IsTakenMeanwhile (Known StartEncRsp) = ⊤
IsTakenMeanwhile (Known PauseEncRsp) = ⊤
IsTakenMeanwhile (Known (UnknownRsp opcode)) = ⊤
IsTakenMeanwhile (Known (RejectInd code)) = ⊤
IsTakenMeanwhile (Known (RejectExtInd opcode code)) = ⊤
IsTakenMeanwhile (Known (TerminateInd code)) = ⊤
IsTakenMeanwhile other = ⊥

abbrev pub TakesMeanwhile : Call → Type 0
TakesMeanwhile (takes read slot quiet) = IsTakenMeanwhile read
TakesMeanwhile other = ⊤

-- the calls until the phase is Clear or Secure again
pub record IsMeanwhile (f : TableFacts) (call : Call) : Type 0 where
  pub encrypts : has_encryption f.progress ≡ true
  pub takes_it : TakesMeanwhile call

abbrev pub AllMeanwhile : TableFacts → List Call → Type 0
AllMeanwhile f [] = ⊤
AllMeanwhile f (call ∷ calls) = IsMeanwhile f call × AllMeanwhile (after_call f call) calls

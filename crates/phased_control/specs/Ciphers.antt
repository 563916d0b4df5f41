-- The PDUs of the encryption that wait at an end, and those of the peer that come in turn (Core 5.2, volume 6 part B,
-- section 5.1.3).
use Rattle.std.specs.Prelude.{◌≡◌, ◌⊎◌, Bool, true, false, List, [], ◌∷◌, ◌++◌, ⊤}
use Rattle.ble_base.specs.declared.roles.Role.{Role}
use Rattle.ble_base.specs.declared.roles.Role.TheVariants.{Central, Peripheral}
use Rattle.data_pdu.specs.declared.ctrl.Ctrl.{Ctrl}
use Rattle.data_pdu.specs.declared.ctrl.Ctrl.TheVariants.{EncReq, EncRsp, PauseEncReq, PauseEncRsp, StartEncReq, StartEncRsp}
use Rattle.enc_phase.specs.declared.classes.PduClass.{PduClass}
use Rattle.enc_phase.specs.declared.classes.PduClass.TheVariants.{EncReq as enc_req, EncRsp as enc_rsp, PauseEncReq as pause_enc_req, PauseEncRsp as pause_enc_rsp, Refusal, StartEncReq as start_enc_req, StartEncRsp as start_enc_rsp}
use Rattle.enc_phase.specs.declared.facts.PhaseFacts.{PhaseFacts}
use Rattle.enc_phase.specs.declared.facts.PhaseFacts.TheVariants.{Asked, Clear, HalfClear, HalfKeyed, Pausing, Secure}
use Rattle.table_laws.specs.procedure_values.declared.drafts.Draft.{Draft}
use Rattle.table_laws.specs.procedure_values.declared.drafts.Draft.TheVariants.{Cipher}
use Rattle.table_laws.specs.procedures.Table.{TableFacts}
use Rattle.phased_control.specs.Phased.{Phased}
use Rattle.phased_control.specs.Taken.{PhasedStep, Takes, class_of_read, phased_after}

-- ---- those that wait

abbrev pub cipher_in : Ctrl → List Ctrl
cipher_in (EncReq rand ediv skd_m iv_m) = EncReq rand ediv skd_m iv_m ∷ []
cipher_in (EncRsp skd_s iv_s) = EncRsp skd_s iv_s ∷ []
cipher_in StartEncReq = StartEncReq ∷ []
cipher_in StartEncRsp = StartEncRsp ∷ []
cipher_in PauseEncReq = PauseEncReq ∷ []
cipher_in PauseEncRsp = PauseEncRsp ∷ []
cipher_in ctrl = []

abbrev pub cipher_of : Draft → List Ctrl
cipher_of (Cipher ctrl) = cipher_in ctrl
cipher_of draft = []

abbrev pub ciphers_in : List Draft → List Ctrl
ciphers_in [] = []
ciphers_in (draft ∷ drafts) = cipher_of draft ++ ciphers_in drafts

-- in the order of sending
abbrev pub ciphers_waiting : TableFacts → List Ctrl
ciphers_waiting f = ciphers_in f.queue.drafts

-- ---- those that may wait in a phase, in this order

abbrev pub asked_ciphers : Bool → List PduClass
asked_ciphers false = enc_req ∷ []
asked_ciphers true = pause_enc_rsp ∷ enc_req ∷ []

abbrev pub central_ciphers : PhaseFacts → List PduClass
central_ciphers (Asked after_pause enc_rsp_taken kept) = asked_ciphers after_pause
central_ciphers HalfKeyed = start_enc_rsp ∷ []
central_ciphers (Pausing kept) = pause_enc_req ∷ []
central_ciphers (HalfClear kept) = pause_enc_rsp ∷ []
central_ciphers phase = []

-- LL_ENC_RSP may wait in Clear too: as a start is refused
abbrev pub peripheral_ciphers : PhaseFacts → List PduClass
peripheral_ciphers Clear = enc_rsp ∷ []
peripheral_ciphers (Asked after_pause enc_rsp_taken kept) = enc_rsp ∷ []
peripheral_ciphers HalfKeyed = enc_rsp ∷ start_enc_req ∷ []
peripheral_ciphers Secure = start_enc_rsp ∷ []
peripheral_ciphers (Pausing kept) = pause_enc_rsp ∷ []
peripheral_ciphers (HalfClear kept) = []

abbrev pub phase_ciphers : Role → PhaseFacts → List PduClass
phase_ciphers Central phase = central_ciphers phase
phase_ciphers Peripheral phase = peripheral_ciphers phase

-- the last of these, or all, or none
abbrev pub AreLastOf : List PduClass → List PduClass → Type 0
AreLastOf [] pdus = pdus ≡ []
AreLastOf (pdu ∷ more) pdus = (pdus ≡ pdu ∷ more) ⊎ AreLastOf more pdus

-- ---- a peer that sends in turn

abbrev pub is_of_encryption : PduClass → Bool
is_of_encryption enc_req = true
is_of_encryption enc_rsp = true
is_of_encryption start_enc_req = true
is_of_encryption start_enc_rsp = true
is_of_encryption pause_enc_req = true
is_of_encryption pause_enc_rsp = true
is_of_encryption Refusal = true
is_of_encryption pdu = false

-- it sends a PDU of the encryption once it has all that this end had to send
abbrev pub IsInTurn : PhasedStep → Phased → Type 0
IsInTurn (Takes read slot response) s =
    is_of_encryption (class_of_read read) ≡ true → ciphers_waiting s.control.table ≡ []
IsInTurn step s = ⊤

abbrev pub AreInTurn : List PhasedStep → Phased → Type 0
AreInTurn [] s = ⊤
AreInTurn (step ∷ steps) s = IsInTurn step s × AreInTurn steps (phased_after step s)

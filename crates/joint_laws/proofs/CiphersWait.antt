-- How many PDUs of the encryption wait at each end, with LL_TERMINATE_IND for lack of a key.
use Rattle.std.proofs.Common.{◌≡◌, ◌≤◌, ℕ, ◌+◌, ◌==◌, if◌then◌else◌, Bool, true, false, ◌&&◌, List, [], ◌∷◌, ◌++◌, length, Option, Some, None, is_some, refl, sym, subst, arith}
use Rattle.std.specs.List.{AllByRecursion}
use Rattle.std.proofs.lemmas.Bool.{and_parts}
use Rattle.ble_base.specs.declared.roles.Role.TheVariants.{Central, Peripheral}
use Rattle.data_pdu.specs.declared.ctrl.Ctrl.{Ctrl}
use Rattle.data_pdu.specs.declared.ctrl.Ctrl.TheVariants.{EncReq as enc_req, EncRsp as enc_rsp, PauseEncReq as pause_enc_req, PauseEncRsp as pause_enc_rsp, RejectExtInd, StartEncReq as start_enc_req, StartEncRsp as start_enc_rsp, TerminateInd}
use Rattle.joint_parameters.specs.enc_phase.declared.classes.PduClass.{PduClass}
use Rattle.joint_parameters.specs.enc_phase.declared.classes.PduClass.TheVariants.{Data, Empty, EncReq, EncRsp, Other, PauseEncReq, PauseEncRsp, Refusal, Request, StartEncReq, StartEncRsp, Terminate}
use Rattle.joint_parameters.specs.procedure_values.declared.drafts.Draft.{Draft}
use Rattle.joint_parameters.specs.procedure_values.declared.drafts.Draft.TheVariants.{Cipher}
use Rattle.joint_parameters.specs.table_laws.Waiting.{count_if, number_of}
use Rattle.joint_phases.specs.phase_pairs.declared.peripheral.PhasePeripheral.{PhasePeripheral}
use Rattle.joint_phases.specs.phase_pairs.Agreement.{encryption_pdu, is_encryption}
use Rattle.joint_phases.specs.phase_pairs.Central.{is_queued}
use Rattle.joint_exchanges.specs.SentByRole.{is_cipher_of, is_draft_of}
use Rattle.joint_exchanges.specs.Waiting.{is_cipher}
use Rattle.joint_phases.specs.Classes.{class_down, class_up, draft_down, draft_up}
use Rattle.joint_phases.specs.Parts.{goes_up, wait_up, without_up}
use Rattle.joint_phases.specs.Pairs.{encryption_waiting}

-- ---- at a central each is one of the encryption

cipher_class : (knows : Bool) (ctrl : Ctrl) → is_cipher_of Central ctrl ≡ true → is_encryption (class_down knows ctrl) ≡ true
cipher_class knows (enc_req rand ediv skd_m iv_m) is = refl
cipher_class knows start_enc_rsp is = refl
cipher_class knows pause_enc_req is = refl
cipher_class knows pause_enc_rsp is = refl
cipher_class knows ctrl is = absurd (cc)

more_pdus : (pdu : PduClass) (pdus : List PduClass) (n : ℕ) → n ≤ length pdus → n ≤ length (encryption_pdu pdu ++ pdus)
more_pdus pdu pdus n less = by (is_encryption pdu)
  where
    by : (b : Bool) → n ≤ length ((if b then pdu ∷ [] else []) ++ pdus)
    by true = omega (arith, less)
    by false = less

one_pdu : (pdu : PduClass) (pdus : List PduClass) (n : ℕ) → is_encryption pdu ≡ true → n ≤ length pdus → 1 + n ≤ length (encryption_pdu pdu ++ pdus)
one_pdu pdu pdus n is less = subst (λ (b : Bool). 1 + n ≤ length ((if b then pdu ∷ [] else []) ++ pdus)) (sym is) (omega (arith, less))

pub ciphers_down : (knows : Bool) (drafts : List Draft) → AllByRecursion (λ draft. is_draft_of false Central draft ≡ true) drafts
    → number_of is_cipher drafts ≤ length (encryption_waiting (draft_down knows) drafts)
ciphers_down knows [] all = omega arith
ciphers_down knows (draft ∷ drafts) all = by draft all.0 (ciphers_down knows drafts all.1)
  where
    by : (draft : Draft) → is_draft_of false Central draft ≡ true → number_of is_cipher drafts ≤ length (encryption_waiting (draft_down knows) drafts)
        → number_of is_cipher (draft ∷ drafts) ≤ length (encryption_waiting (draft_down knows) (draft ∷ drafts))
    by (Cipher ctrl) is less = one_pdu (class_down knows ctrl) (encryption_waiting (draft_down knows) drafts) (number_of is_cipher drafts) (cipher_class knows ctrl is) less
    by draft is less = more_pdus (draft_down knows draft) (encryption_waiting (draft_down knows) drafts) (0 + number_of is_cipher drafts) (omega (arith, less))

-- ---- at a peripheral each is the first that waits in its turn

abbrev pub count_some : Option PduClass → ℕ
count_some pdu = count_if (is_some pdu)

abbrev pub count_waiting : PhasePeripheral → ℕ
count_waiting p = count_some p.first + count_some p.second

abbrev is_waiting_class : PduClass → Bool
is_waiting_class Request = false
is_waiting_class Other = false
is_waiting_class Data = false
is_waiting_class pdu = true

reject_class : (b : Bool) → b ≡ true → is_waiting_class (if b then Refusal else Other) ≡ true
reject_class true is = refl
reject_class false is = absurd (cc)

cipher_waits : (knows : Bool) (ctrl : Ctrl) → is_cipher_of Peripheral ctrl ≡ true → is_waiting_class (class_up knows ctrl) ≡ true
cipher_waits knows (enc_rsp skd_s iv_s) is = refl
cipher_waits knows start_enc_req is = refl
cipher_waits knows start_enc_rsp is = refl
cipher_waits knows pause_enc_rsp is = refl
cipher_waits knows (RejectExtInd opcode code) is = reject_class (opcode == 3) is
cipher_waits knows (TerminateInd code) is = refl
cipher_waits knows ctrl is = absurd (cc)

queued_some : (pdu : PduClass) (queued : Option PduClass) (more : Bool) → (is_queued pdu queued && more) ≡ true → count_some queued ≡ 1
queued_some pdu None more is = absurd (cc)
queued_some pdu (Some first) more is = refl

pub some_least : (queued : Option PduClass) → count_some queued ≤ 1
some_least None = omega arith
some_least (Some pdu) = omega arith

popped_less : (pdu : PduClass) (p : PhasePeripheral) (more : Bool) → (is_queued pdu p.first && more) ≡ true → 1 + (count_some p.second + 0) ≤ count_waiting p
popped_less pdu p more is = let one = queued_some pdu p.first more is in omega (arith, one)

-- one less waits after it
one_less : (pdu : PduClass) (p : PhasePeripheral) → is_waiting_class pdu ≡ true → goes_up pdu p ≡ true → 1 + count_waiting (without_up pdu p) ≤ count_waiting p
one_less Request p is goes = absurd (cc)
one_less Other p is goes = absurd (cc)
one_less Data p is goes = absurd (cc)
one_less Empty p is goes = popped_less Empty p _ goes
one_less Terminate p is goes = popped_less Terminate p _ goes
one_less EncReq p is goes = popped_less EncReq p _ goes
one_less EncRsp p is goes = popped_less EncRsp p _ goes
one_less StartEncReq p is goes = popped_less StartEncReq p _ goes
one_less StartEncRsp p is goes = popped_less StartEncRsp p _ goes
one_less PauseEncReq p is goes = popped_less PauseEncReq p _ goes
one_less PauseEncRsp p is goes = popped_less PauseEncRsp p _ goes
one_less Refusal p is goes = popped_less Refusal p _ goes

no_more : (pdu : PduClass) (p : PhasePeripheral) → goes_up pdu p ≡ true → count_waiting (without_up pdu p) ≤ count_waiting p
no_more pdu p goes = by pdu goes
  where
    less : (pdu : PduClass) → is_waiting_class pdu ≡ true → goes_up pdu p ≡ true → count_waiting (without_up pdu p) ≤ count_waiting p
    less pdu is goes = let one = one_less pdu p is goes in omega (arith, one)

    by : (pdu : PduClass) → goes_up pdu p ≡ true → count_waiting (without_up pdu p) ≤ count_waiting p
    by Request goes = omega arith
    by Other goes = omega arith
    by Data goes = absurd (cc)
    by Empty goes = less Empty refl goes
    by Terminate goes = less Terminate refl goes
    by EncReq goes = less EncReq refl goes
    by EncRsp goes = less EncRsp refl goes
    by StartEncReq goes = less StartEncReq refl goes
    by StartEncRsp goes = less StartEncRsp refl goes
    by PauseEncReq goes = less PauseEncReq refl goes
    by PauseEncRsp goes = less PauseEncRsp refl goes
    by Refusal goes = less Refusal refl goes

pub ciphers_up : (knows : Bool) (drafts : List Draft) (p : PhasePeripheral) → AllByRecursion (λ draft. is_draft_of false Peripheral draft ≡ true) drafts
    → wait_up (draft_up knows) drafts p ≡ true → number_of is_cipher drafts ≤ count_waiting p
ciphers_up knows [] p all waits = omega arith
ciphers_up knows (draft ∷ drafts) p all waits =
    let both = and_parts (goes_up (draft_up knows draft) p) (wait_up (draft_up knows) drafts (without_up (draft_up knows draft) p)) waits in
    by draft all.0 both.0 (ciphers_up knows drafts (without_up (draft_up knows draft) p) all.1 both.1)
  where
    by : (draft : Draft) → is_draft_of false Peripheral draft ≡ true → goes_up (draft_up knows draft) p ≡ true → number_of is_cipher drafts ≤ count_waiting (without_up (draft_up knows draft) p)
        → number_of is_cipher (draft ∷ drafts) ≤ count_waiting p
    by (Cipher ctrl) is goes less = let one = one_less (class_up knows ctrl) p (cipher_waits knows ctrl is) goes in omega (arith, less, one)
    by draft is goes less = let one = no_more (draft_up knows draft) p goes in omega (arith, less, one)

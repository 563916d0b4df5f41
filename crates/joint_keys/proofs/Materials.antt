-- What a step of an end does to the material of its keys: which change a PDU of the other end is, and the halves that it
-- brings.
use Rattle.std.specs.Prelude.{⊤}
use Rattle.std.proofs.Common.{◌≡◌, ◌⊎◌, inl, inr, ℕ, Bool, true, false, if◌then◌else◌, is_none, refl, sym, ◌∙◌}
use Rattle.ble_base.specs.declared.roles.Role.{Role}
use Rattle.ble_base.specs.declared.roles.Role.TheVariants.{Central, Peripheral}
use Rattle.data_pdu.specs.declared.ctrl.Ctrl.{Ctrl}
use Rattle.data_pdu.specs.declared.ctrl.Ctrl.TheVariants.{EncReq, EncRsp}
use Rattle.data_pdu.specs.declared.ctrl.CtrlRead.{CtrlRead}
use Rattle.data_pdu.specs.declared.ctrl.CtrlRead.TheVariants.{Known}
use Rattle.enc_phase.specs.declared.classes.PduClass.{PduClass}
use Rattle.enc_phase.specs.declared.classes.PduClass.TheVariants.{EncReq as enc_req, EncRsp as enc_rsp, PauseEncReq as pause_enc_req, PauseEncRsp as pause_enc_rsp, Refusal, Request, StartEncReq as start_enc_req, StartEncRsp as start_enc_rsp}
use Rattle.enc_phase.specs.declared.facts.PhaseFacts.{PhaseFacts}
use Rattle.enc_phase.specs.declared.facts.PhaseFacts.TheVariants.{Asked, Clear, HalfClear, HalfKeyed, Pausing, Secure}
use Rattle.enc_phase.specs.declared.facts.Transition.{Transition}
use Rattle.enc_phase.specs.declared.facts.Transition.TheVariants.{Ask, Confirm, Pause, Refuse, Unlock}
use Rattle.enc_phase.specs.Phases.{is_asked, may_follow}
use Rattle.enc_phase.proofs.Steps.{apart, has_session, session_next, session_taking}
use Rattle.phased_control.specs.PhaseChanges.{Change, Moves, Starts, Stays, Took, answer_change, changed, may_change, moves_if, taken_change}
use Rattle.phased_control.specs.Phased.{Phased}
use Rattle.phased_control.specs.Steps.{seen_by_procedures}
use Rattle.phased_control.specs.Taken.{Response, class_of_read, does_keep, is_allowed, lacks_room_now, role_now}
use Rattle.phased_control.specs.table_laws.Encrypting.{has_encryption}
use Rattle.keyed_control.specs.declared.material.KeyMaterial.{KeyMaterial}
use Rattle.keyed_control.specs.KeyedSteps.{with_read}
use Rattle.joint_keys.proofs.PairFacts.{has_rsp, may_ask, took_req}

-- ---- halves

-- the halves of the central, and those of the peripheral
pub record HaveFirst (m n : KeyMaterial) : Type 0 where
  pub skd : m.skd_m ≡ n.skd_m
  pub iv_too : m.iv_m ≡ n.iv_m

pub record HaveSecond (m n : KeyMaterial) : Type 0 where
  pub skd : m.skd_s ≡ n.skd_s
  pub iv_too : m.iv_s ≡ n.iv_s

pub same_first : (m : KeyMaterial) → HaveFirst m m
same_first m = record { skd = refl; iv_too = refl }

pub same_second : (m : KeyMaterial) → HaveSecond m m
same_second m = record { skd = refl; iv_too = refl }

-- an LL_ENC_REQ has the central's halves of this material, and an LL_ENC_RSP the peripheral's
abbrev pub IsReqOf : KeyMaterial → Ctrl → Type 0
IsReqOf m (EncReq rand ediv skd_m iv_m) = (skd_m ≡ m.skd_m) × (iv_m ≡ m.iv_m)
IsReqOf m ctrl = ⊤

abbrev pub IsRspOf : KeyMaterial → Ctrl → Type 0
IsRspOf n (EncRsp skd_s iv_s) = (skd_s ≡ n.skd_s) × (iv_s ≡ n.iv_s)
IsRspOf n ctrl = ⊤

pub req_first : (m n : KeyMaterial) → HaveFirst m n → (ctrl : Ctrl) → IsReqOf m ctrl → IsReqOf n ctrl
req_first m n same (EncReq rand ediv skd_m iv_m) fine = (fine.0 ∙ same.skd, fine.1 ∙ same.iv_too)
req_first m n same ctrl fine = tt

pub rsp_second : (m n : KeyMaterial) → HaveSecond m n → (ctrl : Ctrl) → IsRspOf m ctrl → IsRspOf n ctrl
rsp_second m n same (EncRsp skd_s iv_s) fine = (fine.0 ∙ same.skd, fine.1 ∙ same.iv_too)
rsp_second m n same ctrl fine = tt

-- ---- which change a PDU of the other end is

abbrev pub is_start : PduClass → Bool
is_start start_enc_req = true
is_start pdu = false

abbrev pub is_req : PduClass → Bool
is_req enc_req = true
is_req pdu = false

abbrev pub is_rsp : PduClass → Bool
is_rsp enc_rsp = true
is_rsp pdu = false

abbrev pub is_ask : Transition → Bool
is_ask Ask = true
is_ask transition = false

pub data ByPeer (pdu : PduClass) : Change → Type 0 where
  stays : ByPeer pdu Stays
  took : ByPeer pdu (Took pdu)
  starts : is_start pdu ≡ true → ByPeer pdu Starts
  asks : is_req pdu ≡ true → ByPeer pdu (Moves Ask)
  moves : (transition : Transition) → is_ask transition ≡ false → ByPeer pdu (Moves transition)

started_by : (b : Bool) (pdu : PduClass) → is_start pdu ≡ true → ByPeer pdu (if b then Starts else Stays)
started_by true pdu is = starts is
started_by false pdu is = stays

moved_by : (b : Bool) (pdu : PduClass) (t : Transition) → is_ask t ≡ false → ByPeer pdu (if b then Moves t else Stays)
moved_by true pdu t is = moves t is
moved_by false pdu t is = stays

asked_by : (b : Bool) (pdu : PduClass) → is_req pdu ≡ true → ByPeer pdu (if b then Moves Ask else Stays)
asked_by true pdu is = asks is
asked_by false pdu is = stays

refused_by : (b : Bool) (p : PhaseFacts) → ByPeer Refusal (if b then Stays else moves_if Refuse p)
refused_by true p = stays
refused_by false p = moved_by (may_follow Refuse p) Refusal Refuse refl

by_answer : (role : Role) (pdu : PduClass) (encrypts : Bool) (p : PhaseFacts) → ByPeer pdu (answer_change role pdu encrypts p)
by_answer Central start_enc_req encrypts p = started_by (is_asked p) start_enc_req refl
by_answer Central start_enc_rsp encrypts p = moved_by (may_follow Confirm p) start_enc_rsp Confirm refl
by_answer Central pause_enc_rsp encrypts p = moved_by (may_follow Unlock p) pause_enc_rsp Unlock refl
by_answer Central Refusal encrypts p = refused_by encrypts p
by_answer Central pdu encrypts p = took
by_answer Peripheral enc_req encrypts p = asked_by (may_follow Ask p) enc_req refl
by_answer Peripheral pause_enc_req encrypts p = moved_by (may_follow Pause p) pause_enc_req Pause refl
by_answer Peripheral start_enc_rsp encrypts p = moved_by (may_follow Confirm p) start_enc_rsp Confirm refl
by_answer Peripheral pause_enc_rsp encrypts p = moved_by (may_follow Unlock p) pause_enc_rsp Unlock refl
by_answer Peripheral pdu encrypts p = took

module _ (read : CtrlRead) (slot : ℕ) (s : Phased) where
  abbrev answer : Change
  answer = answer_change (role_now s) (class_of_read read) (has_encryption (seen_by_procedures read slot s).control.table.progress) s.phase

  by_ifs : (a k l e : Bool)
      → ByPeer (class_of_read read)
      (if a then (if k then Took (class_of_read read) else (if l then Stays else (if e then answer else Took (class_of_read read)))) else Stays)
  by_ifs false k l e = stays
  by_ifs true true l e = took
  by_ifs true false true e = stays
  by_ifs true false false false = took
  by_ifs true false false true = by_answer (role_now s) (class_of_read read) (has_encryption (seen_by_procedures read slot s).control.table.progress) s.phase

  pub by_peer : ByPeer (class_of_read read) (taken_change read slot s)
  by_peer = by_ifs (is_allowed read s) (does_keep read s) (lacks_room_now read s) (is_none (seen_by_procedures read slot s).control.ends)

-- ---- what a change says of the phase before

pub asked_before : (c : Change) (p : PhaseFacts) → may_change c p ≡ true → is_asked (changed c p) ≡ true → (is_asked p ≡ true) ⊎ (may_ask p ≡ true)
asked_before Stays p may is = inl is
asked_before (Took enc_rsp) (Asked a b c) may is = inl refl
asked_before (Took Request) (Asked a b c) may is = inl refl
asked_before (Took Request) (Pausing a) may is = absurd (cc)
asked_before (Took pdu) p may is = inl is
asked_before Starts (Asked a b c) may is = absurd (cc)
asked_before Starts p may is = absurd (cc)
asked_before (Moves Ask) Clear may is = inr refl
asked_before (Moves Ask) (HalfClear a) may is = inr refl
asked_before (Moves Refuse) (Asked a b c) may is = absurd (cc)
asked_before (Moves Confirm) HalfKeyed may is = absurd (cc)
asked_before (Moves Pause) Secure may is = absurd (cc)
asked_before (Moves Unlock) (Pausing a) may is = absurd (cc)
asked_before (Moves t) p may is = absurd (cc)

-- LL_ENC_RSP is taken
abbrev pub takes_rsp : Change → Bool
takes_rsp (Took pdu) = is_rsp pdu
takes_rsp change = false

pub rsp_before : (c : Change) (p : PhaseFacts) → may_change c p ≡ true → takes_rsp c ≡ false → has_rsp (changed c p) ≡ true → has_rsp p ≡ true
rsp_before Stays p may none is = is
rsp_before (Took enc_rsp) p may none is = absurd (cc)
rsp_before (Took Request) (Asked a b c) may none is = is
rsp_before (Took Request) (Pausing a) may none is = absurd (cc)
rsp_before (Took pdu) p may none is = is
rsp_before Starts (Asked a b c) may none is = absurd (cc)
rsp_before Starts p may none is = absurd (cc)
rsp_before (Moves Ask) Clear may none is = absurd (cc)
rsp_before (Moves Ask) (HalfClear a) may none is = absurd (cc)
rsp_before (Moves Refuse) (Asked a b c) may none is = absurd (cc)
rsp_before (Moves Confirm) HalfKeyed may none is = absurd (cc)
rsp_before (Moves Pause) Secure may none is = absurd (cc)
rsp_before (Moves Unlock) (Pausing a) may none is = absurd (cc)
rsp_before (Moves t) p may none is = absurd (cc)

-- a session begins
abbrev pub is_starting : Change → Bool
is_starting Starts = true
is_starting change = false

pub starts_from : (c : Change) (p : PhaseFacts) → may_change c p ≡ true → has_session p ≡ false → has_session (changed c p) ≡ true
    → (is_starting c ≡ true) × (is_asked p ≡ true)
starts_from Stays p may none is = absurd (apart is none)
starts_from (Took pdu) p may none is = absurd (apart (sym (session_taking pdu p) ∙ is) none)
starts_from Starts p may none is = (refl, may)
starts_from (Moves Ask) p may none is = absurd (apart (sym (session_next Ask p may) ∙ is) refl)
starts_from (Moves Refuse) p may none is = absurd (apart (sym (session_next Refuse p may) ∙ is) refl)
starts_from (Moves Unlock) p may none is = absurd (apart (sym (session_next Unlock p may) ∙ is) refl)
starts_from (Moves Confirm) HalfKeyed may none is = absurd (cc)
starts_from (Moves Confirm) p may none is = absurd (cc)
starts_from (Moves Pause) Secure may none is = absurd (cc)
starts_from (Moves Pause) p may none is = absurd (cc)

-- LL_ENC_REQ is taken
abbrev pub is_asking : Change → Bool
is_asking (Moves Ask) = true
is_asking change = false

pub took_before : (c : Change) (q : PhaseFacts) → may_change c q ≡ true → is_asking c ≡ false → took_req (changed c q) ≡ true → took_req q ≡ true
took_before Stays q may none is = is
took_before (Took enc_rsp) (Asked a b c) may none is = refl
took_before (Took Request) (Asked a b c) may none is = refl
took_before (Took Request) (Pausing a) may none is = absurd (cc)
took_before (Took pdu) q may none is = is
took_before Starts (Asked a b c) may none is = refl
took_before Starts q may none is = absurd (cc)
took_before (Moves Ask) q may none is = absurd (cc)
took_before (Moves Refuse) (Asked a b c) may none is = absurd (cc)
took_before (Moves Confirm) HalfKeyed may none is = absurd (cc)
took_before (Moves Pause) Secure may none is = absurd (cc)
took_before (Moves Unlock) (Pausing a) may none is = absurd (cc)
took_before (Moves t) q may none is = absurd (cc)

-- ---- what is read

module _ (response : Response) (m : KeyMaterial) where
  pub central_reads_same : (ctrl : Ctrl) (c : Change) (p : PhaseFacts) → takes_rsp c ≡ false → with_read Central (Known ctrl) response c p m ≡ m
  central_reads_same (EncRsp skd_s iv_s) (Took enc_rsp) p none = absurd (cc)
  central_reads_same (EncRsp skd_s iv_s) (Took pdu) p none = refl
  central_reads_same (EncRsp skd_s iv_s) Stays p none = refl
  central_reads_same (EncRsp skd_s iv_s) Starts p none = refl
  central_reads_same (EncRsp skd_s iv_s) (Moves t) p none = refl
  central_reads_same ctrl c p none = refl

  pub peripheral_reads_same : (ctrl : Ctrl) (c : Change) (p : PhaseFacts) → is_asking c ≡ false → with_read Peripheral (Known ctrl) response c p m ≡ m
  peripheral_reads_same (EncReq rand ediv skd_m iv_m) (Moves Ask) p none = absurd (cc)
  peripheral_reads_same (EncReq rand ediv skd_m iv_m) (Moves t) p none = refl
  peripheral_reads_same (EncReq rand ediv skd_m iv_m) (Took pdu) p none = refl
  peripheral_reads_same (EncReq rand ediv skd_m iv_m) Stays p none = refl
  peripheral_reads_same (EncReq rand ediv skd_m iv_m) Starts p none = refl
  peripheral_reads_same ctrl c p none = refl

  -- the halves of a central stay
  pub central_reads_first : (ctrl : Ctrl) (c : Change) (p : PhaseFacts) → HaveFirst m (with_read Central (Known ctrl) response c p m)
  central_reads_first (EncRsp skd_s iv_s) (Took enc_rsp) (Asked a false b) = record { skd = refl; iv_too = refl }
  central_reads_first (EncRsp skd_s iv_s) (Took enc_rsp) (Asked a true b) = same_first m
  central_reads_first (EncRsp skd_s iv_s) (Took enc_rsp) p = same_first m
  central_reads_first (EncRsp skd_s iv_s) (Took pdu) p = same_first m
  central_reads_first (EncRsp skd_s iv_s) Stays p = same_first m
  central_reads_first (EncRsp skd_s iv_s) Starts p = same_first m
  central_reads_first (EncRsp skd_s iv_s) (Moves t) p = same_first m
  central_reads_first ctrl c p = same_first m

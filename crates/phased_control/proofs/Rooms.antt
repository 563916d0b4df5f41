-- The PDU with which a PDU of the peer is answered has room, and which it may be.
use Rattle.std.proofs.Common.{◌≡◌, ℕ, ◌<◌, nat_le, Bool, true, false, ◌&&◌, if◌then◌else◌, Option, Some, None, is_some, refl, sym, ap, subst, arith}
use Rattle.ble_base.specs.declared.roles.Role.{Role}
use Rattle.ble_base.specs.declared.roles.Role.TheVariants.{Central, Peripheral}
use Rattle.data_pdu.specs.declared.ctrl.Ctrl.{Ctrl}
use Rattle.data_pdu.specs.declared.ctrl.Ctrl.TheVariants.{EncReq, PauseEncReq, PauseEncRsp, StartEncReq, StartEncRsp}
use Rattle.data_pdu.specs.declared.ctrl.CtrlRead.{CtrlRead}
use Rattle.data_pdu.specs.declared.ctrl.CtrlRead.TheVariants.{Known, Unknown, Bare}
use Rattle.enc_phase.specs.declared.facts.PhaseFacts.{PhaseFacts}
use Rattle.enc_phase.specs.declared.facts.PhaseFacts.TheVariants.{Clear, Asked, HalfKeyed, Secure, Pausing, HalfClear}
use Rattle.enc_phase.specs.Phases.{is_quiet}
use Rattle.enc_phase.specs.Taking.{is_unknown, phase_taking}
use Rattle.table_laws.specs.procedure_stages.declared.reply.Reply.{Reply}
use Rattle.table_laws.specs.procedure_stages.declared.reply.Reply.TheVariants.{Nothing as no_reply}
use Rattle.table_laws.specs.procedure_stages.declared.stages.Central.{Central as TheCentral}
use Rattle.table_laws.specs.procedure_stages.declared.stages.Peripheral.{Peripheral as ThePeripheral}
use Rattle.table_laws.specs.procedure_stages.declared.stages.Progress.{Progress}
use Rattle.table_laws.specs.procedure_stages.declared.stages.Progress.TheVariants.{Central as central, Peripheral as peripheral}
use Rattle.table_laws.specs.procedure_stages.declared.steps.Step.{Step}
use Rattle.table_laws.specs.procedure_stages.Kinds.{role_of}
use Rattle.table_laws.specs.procedure_stages.Queue.{with_reply}
use Rattle.table_laws.specs.procedures.declared.outcome.Outcome.{Outcome}
use Rattle.table_laws.specs.procedures.Table.{TableFacts}
use Rattle.table_laws.specs.procedures.Taking.{facts_with, lacks_room, no_room, outcome_of, settled, taken_by, took_step}
use Rattle.table_laws.specs.Pasts.{HasRoomToAnswer, MayGive, MayGiveAtCentral, MayGiveAtPeripheral}
use Rattle.table_laws.proofs.Taken.{few}
use Rattle.phased_control.specs.Steps.{ctrl_if, read_answer}
use Rattle.phased_control.specs.Taken.{Response, class_of_read, is_answered_at, response_ctrl, seen_if}

-- ---- what is answered so has no other answer

settled_queue : (f : TableFacts) (slot : ℕ) (o : Outcome) → o.reply ≡ no_reply → (settled f slot o).0.queue ≡ f.queue
settled_queue f slot o is = by (lacks_room f o) (is_some o.step.ends)
  where
    of : Bool → Bool → TableFacts × Step
    of a b = (if a then (f, no_room) else (if b then (f, o.step) else (facts_with f slot o, o.step)))

    by : (a b : Bool) → (of a b).0.queue ≡ f.queue
    by true b = refl
    by false true = refl
    by false false = ap (λ (reply : Reply). with_reply f.closing reply f.queue) is

abbrev pub is_answered_in : Role → CtrlRead → PhaseFacts → Bool
is_answered_in role (Known ctrl) p = is_answered_at role ctrl p
is_answered_in role read p = false

none_at_central : (f : TableFacts) (c : TheCentral) (quiet : Bool) (ctrl : Ctrl) (p : PhaseFacts) → is_answered_at Central ctrl p ≡ true
    → (taken_by (central c) f quiet ctrl).reply ≡ no_reply
none_at_central f c true StartEncReq p is = refl
none_at_central f c false StartEncReq p is = refl
none_at_central f c true PauseEncRsp p is = refl
none_at_central f c false PauseEncRsp p is = refl
none_at_central f c quiet ctrl p is = absurd (cc)

none_at_peripheral : (f : TableFacts) (q : ThePeripheral) (quiet : Bool) (ctrl : Ctrl) (p : PhaseFacts) → is_answered_at Peripheral ctrl p ≡ true
    → (taken_by (peripheral q) f quiet ctrl).reply ≡ no_reply
none_at_peripheral f q quiet (EncReq rand ediv skd_m iv_m) p is = refl
none_at_peripheral f q quiet PauseEncReq p is = refl
none_at_peripheral f q true StartEncRsp p is = refl
none_at_peripheral f q false StartEncRsp p is = refl
none_at_peripheral f q quiet ctrl p is = absurd (cc)

none_in : (f : TableFacts) (quiet : Bool) (role : Role) (ctrl : Ctrl) (p : PhaseFacts) → role_of f.progress ≡ role → is_answered_at role ctrl p ≡ true
    → (outcome_of f quiet (Known ctrl)).reply ≡ no_reply
none_in f quiet role ctrl p at is = by f.progress at
  where
    by : (q : Progress) → role_of q ≡ role → (taken_by q f quiet ctrl).reply ≡ no_reply
    by (central c) h = none_at_central f c quiet ctrl p (subst (λ (r : Role). is_answered_at r ctrl p ≡ true) (sym h) is)
    by (peripheral q) h = none_at_peripheral f q quiet ctrl p (subst (λ (r : Role). is_answered_at r ctrl p ≡ true) (sym h) is)

-- it has a meaning
known_then : (role : Role) (ctrl : Ctrl) (p : PhaseFacts) → is_answered_at role ctrl p ≡ true → is_unknown p role (class_of_read (Known ctrl)) ≡ false
known_then Central StartEncReq (Asked after_pause enc_rsp kept) is = refl
known_then Central StartEncReq p is = absurd (cc)
known_then Central PauseEncRsp (Pausing kept) is = refl
known_then Central PauseEncRsp p is = absurd (cc)
known_then Peripheral (EncReq rand ediv skd_m iv_m) Clear is = refl
known_then Peripheral (EncReq rand ediv skd_m iv_m) (HalfClear kept) is = refl
known_then Peripheral (EncReq rand ediv skd_m iv_m) p is = absurd (cc)
known_then Peripheral PauseEncReq Secure is = refl
known_then Peripheral PauseEncReq p is = absurd (cc)
known_then Peripheral StartEncRsp HalfKeyed is = refl
known_then Peripheral StartEncRsp p is = absurd (cc)
known_then Central ctrl p is = absurd (cc)
known_then Peripheral ctrl p is = absurd (cc)

pub same_queue : (f : TableFacts) (slot : ℕ) (role : Role) (read : CtrlRead) (p : PhaseFacts) → role_of f.progress ≡ role → is_answered_in role read p ≡ true
    → (took_step f (seen_if (is_unknown p role (class_of_read read)) read) slot (is_quiet p)).0.queue ≡ f.queue
same_queue f slot role (Known ctrl) p at is =
    subst (λ (u : Bool). (took_step f (seen_if u (Known ctrl)) slot (is_quiet p)).0.queue ≡ f.queue) (sym (known_then role ctrl p is))
    (settled_queue f slot (outcome_of f (is_quiet p) (Known ctrl)) (none_in f (is_quiet p) role ctrl p at is))
same_queue f slot role (Unknown opcode) p at is = absurd (cc)
same_queue f slot role Bare p at is = absurd (cc)

pub room_left : (waits : ℕ) (opens answered : Bool) → (opens && (nat_le 16 waits && answered)) ≡ false → opens ≡ true → answered ≡ true → waits < 16
room_left waits true true full lasts is = let h = few waits true (by (nat_le 16 waits) full) refl in omega (arith, h)
  where
    by : (b : Bool) → (true && (b && true)) ≡ false → (true && b && true) ≡ false
    by true h = h
    by false h = refl
room_left waits false answered full lasts is = absurd (cc)
room_left waits opens false full lasts is = absurd (cc)

-- ---- which PDU it is

-- it is owed, and may be given where there is room
pub record Answer (role : Role) (read : CtrlRead) (p : PhaseFacts) (ctrl : Ctrl) : Type 0 where
  pub answered : is_answered_in role read p ≡ true
  pub gives : (q : Progress) (f : TableFacts) (key : Bool) → role_of q ≡ role → HasRoomToAnswer f → MayGive q f key ctrl

at_central : (ctrl : Ctrl) → ((f : TableFacts) → HasRoomToAnswer f → MayGiveAtCentral f ctrl)
    → (q : Progress) (f : TableFacts) (key : Bool) → role_of q ≡ Central → HasRoomToAnswer f → MayGive q f key ctrl
at_central ctrl may (central c) f key is room = may f room
at_central ctrl may (peripheral p) f key is room = absurd (cc)

at_peripheral : (ctrl : Ctrl) → ((f : TableFacts) (key : Bool) → HasRoomToAnswer f → MayGiveAtPeripheral f key ctrl)
    → (q : Progress) (f : TableFacts) (key : Bool) → role_of q ≡ Peripheral → HasRoomToAnswer f → MayGive q f key ctrl
at_peripheral ctrl may (central c) f key is room = absurd (cc)
at_peripheral ctrl may (peripheral p) f key is room = may f key room

abbrev pub AreAnswers : Role → CtrlRead → PhaseFacts → Option Ctrl → Type 0
AreAnswers role read p None = Unit {0}
AreAnswers role read p (Some ctrl) = Answer role read p ctrl

answer_if : (role : Role) (read : CtrlRead) (p : PhaseFacts) (b : Bool) (ctrl : Ctrl) → is_answered_in role read p ≡ b
    → ((q : Progress) (f : TableFacts) (key : Bool) → role_of q ≡ role → HasRoomToAnswer f → MayGive q f key ctrl) → AreAnswers role read p (ctrl_if b ctrl)
answer_if role read p true ctrl is gives = record { answered = is; gives = gives }
answer_if role read p false ctrl is gives = tt

pub answers_of : (role : Role) (response : Response) (read : CtrlRead) (p : PhaseFacts)
    → AreAnswers role read p (read_answer role response read (phase_taking (class_of_read read) p))
answers_of Central response (Known StartEncReq) p = answer_if Central (Known StartEncReq) p _ StartEncRsp refl (at_central StartEncRsp (λ f. λ room. room))
answers_of Central response (Known PauseEncRsp) p = answer_if Central (Known PauseEncRsp) p _ PauseEncRsp refl (at_central PauseEncRsp (λ f. λ room. room))
answers_of Central response (Known ctrl) p = tt
answers_of Peripheral response (Known (EncReq rand ediv skd_m iv_m)) p =
    answer_if Peripheral (Known (EncReq rand ediv skd_m iv_m)) p _ (response_ctrl response) refl (at_peripheral (response_ctrl response) (λ f. λ key. λ room. room))
answers_of Peripheral response (Known PauseEncReq) p =
    answer_if Peripheral (Known PauseEncReq) p _ PauseEncRsp refl (at_peripheral PauseEncRsp (λ f. λ key. λ room. room))
answers_of Peripheral response (Known StartEncRsp) p =
    answer_if Peripheral (Known StartEncRsp) p _ StartEncRsp refl (at_peripheral StartEncRsp (λ f. λ key. λ room. room))
answers_of Peripheral response (Known ctrl) p = tt
answers_of role response (Unknown opcode) p = tt
answers_of role response Bare p = tt

-- Which PDUs of the encryption wait at an end, by its phase, where the peer sends in turn.
use Rattle.std.proofs.Common.{◌≡◌, ◌≢◌, inl, inr, ℕ, Bool, true, false, ◌&&◌, if◌then◌else◌, List, [], ◌∷◌, ◌++◌, map, length, ◌≤◌, arith, Option, Some, None, refl, sym, ap, subst, ◌∙◌, append-nil}
use Rattle.std.specs.List.{AllByRecursion}
use Rattle.std.proofs.lemmas.Bool.{and_parts}
use Rattle.std.proofs.lemmas.List.{length-map}
use Rattle.ble_base.specs.ErrorCodes.{mic_failure, pin_or_key_missing}
use Rattle.ble_base.specs.declared.error_codes.ErrCode.{ErrCode}
use Rattle.ble_base.specs.declared.roles.Role.{Role}
use Rattle.ble_base.specs.declared.roles.Role.TheVariants.{Central, Peripheral}
use Rattle.data_pdu.specs.declared.ctrl.Ctrl.{Ctrl}
use Rattle.data_pdu.specs.declared.ctrl.Ctrl.TheVariants.{EncReq, PauseEncReq, PauseEncRsp, RejectExtInd, StartEncReq, StartEncRsp, TerminateInd}
use Rattle.data_pdu.specs.declared.ctrl.CtrlRead.{CtrlRead}
use Rattle.data_pdu.specs.declared.ctrl.CtrlRead.TheVariants.{Known, Unknown, Bare}
use Rattle.enc_phase.specs.declared.classes.PduClass.{PduClass}
use Rattle.enc_phase.specs.declared.classes.PduClass.TheVariants.{Data, EncReq as enc_req, EncRsp as enc_rsp, PauseEncReq as pause_enc_req, PauseEncRsp as pause_enc_rsp, Refusal, Request, StartEncReq as start_enc_req}
use Rattle.enc_phase.specs.declared.facts.PhaseFacts.{PhaseFacts}
use Rattle.enc_phase.specs.declared.facts.PhaseFacts.TheVariants.{Clear, Asked, HalfKeyed, Secure, Pausing, HalfClear}
use Rattle.enc_phase.specs.declared.facts.Transition.TheVariants.{Ask as AskTransition, Pause, Refuse}
use Rattle.enc_phase.specs.Phases.{is_asked, is_quiet, may_follow, phase_after, phase_starting}
use Rattle.enc_phase.specs.Taking.{allows, ctrl_class, phase_taking}
use Rattle.instants.specs.declared.indications.Params.{Params}
use Rattle.table_laws.specs.procedure_values.declared.drafts.Draft.TheVariants.{Cipher}
use Rattle.table_laws.specs.procedure_values.declared.drafts.Outgoing.{Outgoing}
use Rattle.table_laws.specs.procedure_values.declared.drafts.Outgoing.TheVariants.{Disconnect, Nothing, Other, Rejection}
use Rattle.table_laws.specs.procedure_values.Drafts.{is_out}
use Rattle.table_laws.specs.procedure_stages.Closing.{is_open}
use Rattle.table_laws.specs.procedure_stages.Opcodes.{enc_req_opcode}
use Rattle.table_laws.specs.procedures.Beginning.{begin_step}
use Rattle.table_laws.specs.procedures.Sending.{acked_step}
use Rattle.control_model.specs.Control.{Control, Step, after, after_all, table_if}
use Rattle.control_model.specs.Control.{Enters as control_enters, Owes, SeesAcknowledged as control_sees_acknowledged, Sends as control_sends, Takes as control_takes, Asks as control_asks, Answers as control_answers, Disconnects as control_disconnects}
use Rattle.control_model.proofs.Calls.{any_step, open_step}
use Rattle.phased_control.specs.Ciphers.{AreInTurn, AreLastOf, IsInTurn, cipher_in, cipher_of, ciphers_in, ciphers_waiting, is_of_encryption, phase_ciphers}
use Rattle.phased_control.specs.Phased.{Phased, acknowledged, ask_begun, asking_if, asks_again, encrypting, encrypting_if, entered, first_phased, is_encrypt, is_open_now, is_pause_rsp, is_quiet_now, key_given, key_lacking, refused_if, request_of, table_entered, with_owed_if, with_step}
use Rattle.phased_control.specs.Taken.{PhasedStep, Response, Answers, Asks, Disconnects, Enters, GivesKey, LacksKey, SeesAcknowledged, Sends, Takes, TakesData, answered_kept, ciphered, class_of_read, ended_with, phased_after, phased_after_all, phased_moved, role_now, seen_as, took}
use Rattle.phased_control.specs.Steps.{read_answer, owed_steps, seen_by_procedures}
use Rattle.phased_control.proofs.AnswerParts.{phase_answering, refused_phase}
use Rattle.phased_control.specs.Ends.{IsRequest}
use Rattle.phased_control.proofs.Agreeing.{Agrees, Sound, agrees_after, agrees_first, asks_at_central, sound_after, sound_first}
use Rattle.phased_control.proofs.Answering.{answers}
use Rattle.phased_control.proofs.Ciphers.{Holds, IsOut, Sort, ciphers_joined, held_after, held_owing, is_owing}
use Rattle.phased_control.proofs.Kept.{Tied}
use Rattle.phased_control.proofs.Moving.{open_phased, same_after}
use Rattle.phased_control.proofs.Requests.{encrypts, role_entered}
use Rattle.control_model.proofs.Moving.{same_role}
use Rattle.phased_control.proofs.Tables.{begins_encryption}
use Rattle.phased_control.proofs.Taking.{handed_ways, took_ways}
use Rattle.phased_control.proofs.Unpaused.{asks_in_half_clear}
use Rattle.phased_control.proofs.PhaseFacts.{follows_no_pause}
use Rattle.phased_control.proofs.PhaseFacts.{phase_owed, loud_in_half_clear, runs}

-- ---- the last of some PDUs

abbrev tail_of : List PduClass → List PduClass
tail_of [] = []
tail_of (x ∷ xs) = xs

all_last : (ys xs : List PduClass) → xs ≡ ys → AreLastOf ys xs
all_last [] xs is = is
all_last (y ∷ ys) xs is = inl is

pub none_last : (ys : List PduClass) → AreLastOf ys []
none_last [] = refl
none_last (y ∷ ys) = inr (none_last ys)

rest_last : (ys : List PduClass) (x : PduClass) (xs : List PduClass) → AreLastOf ys (x ∷ xs) → AreLastOf ys xs
rest_last [] x xs h = absurd (cc)
rest_last (y ∷ ys) x xs (inl h) = inr (all_last ys xs (tails h))
  where
    tails : ◌≡◌ {A = List PduClass} (x ∷ xs) (y ∷ ys) → xs ≡ ys
    tails e = ap tail_of e
rest_last (y ∷ ys) x xs (inr h) = inr (rest_last ys x xs h)

more_last : (ys xs : List PduClass) (z : PduClass) → AreLastOf ys xs → AreLastOf (ys ++ z ∷ []) (xs ++ z ∷ [])
more_last [] xs z h = inl (ap (λ (zs : List PduClass). zs ++ z ∷ []) h)
more_last (y ∷ ys) xs z (inl h) = inl (ap (λ (zs : List PduClass). zs ++ z ∷ []) h)
more_last (y ∷ ys) xs z (inr h) = inr (more_last ys xs z h)

-- ---- what waits

abbrev Any : Ctrl → Type 0
Any ctrl = Unit {0}

abbrev pub Last : List PduClass → List Ctrl → Type 0
Last pdus ctrls = AreLastOf pdus (map ctrl_class ctrls)

abbrev pub Ordered : List PduClass → Control → Type 0
Ordered pdus c = Holds (Last pdus) Any c.table

abbrev IsNone : List Ctrl → Type 0
IsNone ctrls = ctrls ≡ []

abbrev Empty : Control → Type 0
Empty c = Holds IsNone Any c.table

sort : (pdus : List PduClass) → Sort (Last pdus) Any
sort pdus = record { rest = λ x. λ xs. λ last. rest_last pdus (ctrl_class x) (map ctrl_class xs) last; head = λ x. λ xs. λ last. tt }

none_sort : Sort IsNone Any
none_sort = record { rest = λ x. λ xs. λ none. absurd (cc); head = λ x. λ xs. λ none. tt }

last_if_none : (pdus : List PduClass) (ctrls : List Ctrl) → ctrls ≡ [] → Last pdus ctrls
last_if_none pdus ctrls is = rw is (none_last pdus)

any_is_out : (out : Outgoing) → IsOut Any out
any_is_out (Other draft) = by (cipher_of draft)
  where
    by : (ctrls : List Ctrl) → AllByRecursion Any ctrls
    by [] = tt
    by (x ∷ xs) = (tt, by xs)
any_is_out Nothing = tt
any_is_out (Rejection rejection) = tt
any_is_out (Disconnect code) = tt

ordered : (pdus : List PduClass) (c : Control) → Last pdus (ciphers_waiting c.table) → Ordered pdus c
ordered pdus c last = record { waits = last; out = any_is_out c.table.out }

empty : (c : Control) → ciphers_waiting c.table ≡ [] → Empty c
empty c none = record { waits = none; out = any_is_out c.table.out }

ordered_step : (step : Step) (pdus : List PduClass) (c : Control) → is_owing (Last pdus) Any (sort pdus) step ≡ false → Ordered pdus c → Ordered pdus (after step c)
ordered_step step pdus c is order = held_after (Last pdus) Any (sort pdus) step c is order

empty_step : (step : Step) (c : Control) → is_owing IsNone Any none_sort step ≡ false → Empty c → Empty (after step c)
empty_step step c is none = held_after IsNone Any none_sort step c is none

ordered_if_empty : (pdus : List PduClass) (c : Control) → Empty c → Ordered pdus c
ordered_if_empty pdus c none = ordered pdus c (last_if_none pdus (ciphers_waiting c.table) none.waits)

-- a PDU is queued where none waits
first_owed_there : (ctrl : Ctrl) (pdus : List PduClass) (c : Control) → Last pdus (cipher_in ctrl) → Empty c → Ordered pdus (after (Owes ctrl) c)
first_owed_there ctrl pdus c last none =
    held_owing (Last pdus) Any (sort pdus) ctrl c (ordered_if_empty pdus c none)
    (λ lasts. subst (λ (ctrls : List Ctrl). Last pdus (ctrls ++ cipher_in ctrl)) (sym none.waits) last)

-- and where some may
queued : (ctrl : Ctrl) (c : Control) → c.ends ≡ None → is_open c.table.closing ≡ true → ciphers_waiting (after (Owes ctrl) c).table ≡ ciphers_waiting c.table ++ cipher_in ctrl
queued ctrl c lasts opens =
    open_step (λ (d : Control). ciphers_waiting d.table ≡ ciphers_waiting c.table ++ cipher_in ctrl) (Owes ctrl) c lasts
    (subst (λ (b : Bool). ciphers_in (if b then record c.table.queue { drafts = c.table.queue.drafts ++ Cipher ctrl ∷ [] } else c.table.queue).drafts ≡ ciphers_waiting c.table ++ cipher_in ctrl) (sym opens)
    (ciphers_joined c.table.queue.drafts (Cipher ctrl ∷ []) ∙ ap (λ (ctrls : List Ctrl). ciphers_waiting c.table ++ ctrls) (append-nil (cipher_in ctrl))))

next_owed : (ctrl : Ctrl) (pdus : List PduClass) (c : Control) → c.ends ≡ None → is_open c.table.closing ≡ true → cipher_in ctrl ≡ ctrl ∷ [] → Ordered pdus c
    → Ordered (pdus ++ ctrl_class ctrl ∷ []) (after (Owes ctrl) c)
next_owed ctrl pdus c lasts opens is order =
    ordered (pdus ++ ctrl_class ctrl ∷ []) (after (Owes ctrl) c)
    (subst (λ (ctrls : List Ctrl). Last (pdus ++ ctrl_class ctrl ∷ []) ctrls) (sym (queued ctrl c lasts opens ∙ ap (λ (ctrls : List Ctrl). ciphers_waiting c.table ++ ctrls) is))
    (subst (λ (classes : List PduClass). AreLastOf (pdus ++ ctrl_class ctrl ∷ []) classes) (sym (maps (ciphers_waiting c.table)))
    (more_last pdus (map ctrl_class (ciphers_waiting c.table)) (ctrl_class ctrl) order.waits)))
  where
    maps : (ctrls : List Ctrl) → map ctrl_class (ctrls ++ ctrl ∷ []) ≡ map ctrl_class ctrls ++ ctrl_class ctrl ∷ []
    maps [] = refl
    maps (x ∷ xs) = ap (λ (zs : List PduClass). ctrl_class x ∷ zs) (maps xs)

-- what is queued is none of these PDUs
other_owed : (ctrl : Ctrl) (pdus : List PduClass) (c : Control) → cipher_in ctrl ≡ [] → Ordered pdus c → Ordered pdus (after (Owes ctrl) c)
other_owed ctrl pdus c is order =
    held_owing (Last pdus) Any (sort pdus) ctrl c order
    (λ lasts. subst (Last pdus) (sym (ap (λ (ctrls : List Ctrl). ciphers_waiting c.table ++ ctrls) is ∙ append-nil (ciphers_waiting c.table))) order.waits)

abbrev pub InOrder : Role → Phased → Type 0
InOrder role s = Ordered (phase_ciphers role s.phase) s.control

-- ---- a PDU that is none of the encryption changes nothing of it

owed_taking : (role : Role) (pdu : PduClass) (p : PhaseFacts) → phase_ciphers role (phase_taking pdu p) ≡ phase_ciphers role p
owed_taking Central enc_rsp (Asked after_pause enc_rsp_taken kept) = refl
owed_taking Peripheral enc_rsp (Asked after_pause enc_rsp_taken kept) = refl
owed_taking role enc_rsp p = refl
owed_taking Central Request (Asked after_pause enc_rsp_taken kept) = refl
owed_taking Peripheral Request (Asked after_pause enc_rsp_taken kept) = refl
owed_taking Central Request (Pausing kept) = refl
owed_taking Peripheral Request (Pausing kept) = refl
owed_taking role Request p = refl
owed_taking role pdu p = refl

refused_none : (pdu : PduClass) (b : Bool) (p : PhaseFacts) → is_of_encryption pdu ≡ false → refused_phase pdu b p ≡ p
refused_none Refusal b p is = absurd (cc)
refused_none pdu b p is = refl

record Apart (p q : PhaseFacts) (owed : Option Ctrl) : Type 0 where
  phase : q ≡ p
  none : owed ≡ None

apart_from : (role : Role) (response : Response) (read : CtrlRead) (b : Bool) (p : PhaseFacts) → is_of_encryption (class_of_read read) ≡ false
    → Apart p (phase_answering role read b p) (read_answer role response read p)
apart_from Central response (Known StartEncReq) b p is = absurd (cc)
apart_from Central response (Known StartEncRsp) b p is = absurd (cc)
apart_from Central response (Known PauseEncRsp) b p is = absurd (cc)
apart_from Central response (Known ctrl) b p is = record { phase = refused_none (ctrl_class ctrl) b p is; none = refl }
apart_from Peripheral response (Known (EncReq rand ediv skd_m iv_m)) b p is = absurd (cc)
apart_from Peripheral response (Known PauseEncReq) b p is = absurd (cc)
apart_from Peripheral response (Known StartEncRsp) b p is = absurd (cc)
apart_from Peripheral response (Known PauseEncRsp) b p is = absurd (cc)
apart_from Peripheral response (Known ctrl) b p is = record { phase = refl; none = refl }
apart_from role response (Unknown opcode) b p is = record { phase = refl; none = refl }
apart_from role response Bare b p is = record { phase = refl; none = refl }

-- ---- what is owed then is owed in the phase after it

abbrev OwedFits : List PduClass → Option Ctrl → Type 0
OwedFits pdus None = Unit {0}
OwedFits pdus (Some ctrl) = Last pdus (cipher_in ctrl)

owed_fits : (role : Role) (response : Response) (read : CtrlRead) (b : Bool) (p : PhaseFacts)
    → OwedFits (phase_ciphers role (phase_answering role read b p)) (read_answer role response read p)
owed_fits Central response (Known StartEncReq) b (Asked after_pause enc_rsp_taken kept) = inl refl
owed_fits Central response (Known StartEncReq) b p = tt
owed_fits Central response (Known PauseEncRsp) b (Pausing kept) = inl refl
owed_fits Central response (Known PauseEncRsp) b p = tt
owed_fits Central response (Known StartEncRsp) b p = tt
owed_fits Central response (Known ctrl) b p = tt
owed_fits Peripheral response (Known (EncReq rand ediv skd_m iv_m)) b Clear = inl refl
owed_fits Peripheral response (Known (EncReq rand ediv skd_m iv_m)) b (HalfClear kept) = inl refl
owed_fits Peripheral response (Known (EncReq rand ediv skd_m iv_m)) b p = tt
owed_fits Peripheral response (Known PauseEncReq) b Secure = inl refl
owed_fits Peripheral response (Known PauseEncReq) b p = tt
owed_fits Peripheral response (Known StartEncRsp) b HalfKeyed = inl refl
owed_fits Peripheral response (Known StartEncRsp) b p = tt
owed_fits Peripheral response (Known PauseEncRsp) b p = tt
owed_fits Peripheral response (Known ctrl) b p = tt
owed_fits role response (Unknown opcode) b p = tt
owed_fits role response Bare b p = tt

-- ---- an encryption begins

request_in : (request : Option Ctrl) (pdus : List PduClass) (s : Phased) → IsRequest request → Last pdus [] → Empty s.control → AreLastOf pdus (enc_req ∷ [])
    → Ordered pdus (with_owed_if request s).control
request_in (Some (EncReq rand ediv skd_m iv_m)) pdus s is none holds last = first_owed_there (EncReq rand ediv skd_m iv_m) pdus s.control last holds
request_in (Some other) pdus s is none holds last = absurd is
request_in None pdus s is none holds last = absurd is

none_in : (p : PhaseFacts) (c : Control) → is_quiet p ≡ true → Ordered (phase_ciphers Central p) c → Empty c
none_in Clear c quiet order = empty c (no_map (ciphers_waiting c.table) order.waits)
  where
    no_map : (ctrls : List Ctrl) → map ctrl_class ctrls ≡ [] → ctrls ≡ []
    no_map [] h = refl
    no_map (x ∷ xs) h = absurd (cc)
none_in Secure c quiet order = empty c (no_map (ciphers_waiting c.table) order.waits)
  where
    no_map : (ctrls : List Ctrl) → map ctrl_class ctrls ≡ [] → ctrls ≡ []
    no_map [] h = refl
    no_map (x ∷ xs) h = absurd (cc)
none_in p c quiet order = absurd (cc)

order_encrypting : (p : PhaseFacts) (s : Phased) → s.phase ≡ p → is_quiet p ≡ true → IsRequest s.request → Ordered (phase_ciphers Central p) s.control → InOrder Central (encrypting p s)
order_encrypting Clear s is quiet request order =
    let t : Phased = record s { phase = phase_after AskTransition s.phase } in
    subst (λ (p : PhaseFacts). Ordered (phase_ciphers Central p) (with_owed_if s.request t).control) (sym (phase_owed s.request t ∙ ap (phase_after AskTransition) is))
    (request_in s.request (enc_req ∷ []) t request (none_last (enc_req ∷ [])) (none_in Clear s.control refl order) (inl refl))
order_encrypting Secure s is quiet request order =
    subst (λ (p : PhaseFacts). Ordered (phase_ciphers Central p) (after (Owes PauseEncReq) s.control)) (sym (ap (phase_after Pause) is))
    (first_owed_there PauseEncReq (pause_enc_req ∷ []) s.control (inl refl) (none_in Secure s.control refl order))
order_encrypting p s is quiet request order = absurd (cc)

order_entered : (role : Role) (slot : ℕ) (s : Phased) → role_now s ≡ role → InOrder role s → InOrder role (entered slot s)
order_entered role slot s is order = by (is_encrypt (begin_step (table_entered s) slot (is_quiet_now s)).1) refl
  where
    request : Option Ctrl
    request = request_of (ask_begun (table_entered s) (is_quiet_now s))

    t : Phased
    t = with_step (control_enters slot (is_quiet_now s)) s

    now : InOrder role t
    now = ordered_step (control_enters slot (is_quiet_now s)) (phase_ciphers role s.phase) s.control refl order

    by : (b : Bool) → is_encrypt (begin_step (table_entered s) slot (is_quiet_now s)).1 ≡ b → InOrder role (encrypting_if b request t)
    by false h = now
    by true h =
        let begins = begins_encryption (table_entered s) slot (is_quiet_now s) h in
        let at : Central ≡ role = sym begins.role ∙ role_entered s ∙ is in
        subst (λ (r : Role). InOrder r (encrypting_if true request t)) at
        (order_encrypting t.phase (record t { request = request }) refl begins.is_quiet begins.request (subst (λ (r : Role). InOrder r t) (sym at) now))

-- ---- LL_ENC_REQ follows a pause

pub lasts_acked : (c : Control) → c.ends ≡ None → (after control_sees_acknowledged c).ends ≡ None
lasts_acked c lasts = any_step (λ (d : Control). d.ends ≡ None) control_sees_acknowledged c (by (is_out c.table.out)) lasts
  where
    by : (b : Bool) → (table_if b (acked_step c.table).0 c).ends ≡ None
    by true = lasts
    by false = lasts

opens_acked : (c : Control) → is_open c.table.closing ≡ true → is_open (after control_sees_acknowledged c).table.closing ≡ true
opens_acked c opens = any_step (λ (d : Control). is_open d.table.closing ≡ true) control_sees_acknowledged c (by (is_out c.table.out)) opens
  where
    by : (b : Bool) → is_open (table_if b (acked_step c.table).0 c).table.closing ≡ true
    by true = opens
    by false = opens

request_after_pause : (request : Option Ctrl) (s : Phased) → IsRequest request → s.control.ends ≡ None → is_open s.control.table.closing ≡ true
    → Ordered (pause_enc_rsp ∷ []) s.control → Ordered (pause_enc_rsp ∷ enc_req ∷ []) (with_owed_if request s).control
request_after_pause (Some (EncReq rand ediv skd_m iv_m)) s is lasts opens order = next_owed (EncReq rand ediv skd_m iv_m) (pause_enc_rsp ∷ []) s.control lasts opens refl order
request_after_pause (Some other) s is lasts opens order = absurd is
request_after_pause None s is lasts opens order = absurd is

order_asking : (p : PhaseFacts) (s : Phased) → s.phase ≡ p → may_follow AskTransition p ≡ true → follows_no_pause p ≡ false → IsRequest s.request → s.control.ends ≡ None
    → is_open s.control.table.closing ≡ true → Ordered (phase_ciphers Central p) s.control → InOrder Central (asking_if true s)
order_asking (HalfClear kept) s is may paused request lasts opens order =
    let t : Phased = record s { phase = phase_after AskTransition s.phase } in
    subst (λ (p : PhaseFacts). Ordered (phase_ciphers Central p) (with_owed_if s.request t).control) (sym (phase_owed s.request t ∙ ap (phase_after AskTransition) is))
    (request_after_pause s.request t request lasts opens order)
order_asking Clear s is may paused request lasts opens order = absurd (cc)
order_asking p s is may paused request lasts opens order = absurd (cc)

order_acknowledged : (role : Role) (s : Phased) → Sound role s → Agrees s → s.control.ends ≡ None → InOrder role s → InOrder role (acknowledged s)
order_acknowledged role s sound agrees lasts order = by (asks_again s) refl
  where
    t : Phased
    t = with_step control_sees_acknowledged s

    now : InOrder role t
    now = ordered_step control_sees_acknowledged (phase_ciphers role s.phase) s.control refl order

    by : (b : Bool) → asks_again s ≡ b → InOrder role (asking_if b t)
    by false is = now
    by true is =
        let at = asks_at_central role s is sound.requests in
        let parts = and_parts (may_follow AskTransition s.phase) _ (and_parts (is_pause_rsp s.control.table.out) _ is).1 in
        let paused = asks_in_half_clear s is (sound.unpaused at) in
        let has = runs (encrypts s) (sym (loud_in_half_clear s.phase parts.0 paused) ∙ agrees) in
        subst (λ (r : Role). InOrder r (asking_if true t)) (sym at)
        (order_asking s.phase t refl parts.0 paused (sound.requests.central at has) (lasts_acked s.control lasts)
        (opens_acked s.control (and_parts (is_open_now s) _ parts.1).0) (subst (λ (r : Role). InOrder r t) at now))

-- ---- the host of a peripheral has a key, or none

order_given : (p : PhaseFacts) (s : Phased) → s.phase ≡ p → is_asked p ≡ true → s.control.ends ≡ None → is_open_now s ≡ true → Ordered (phase_ciphers Peripheral p) s.control
    → InOrder Peripheral (key_given s)
order_given (Asked after_pause enc_rsp_taken kept) s is asked lasts opens order =
    subst (λ (p : PhaseFacts). Ordered (phase_ciphers Peripheral (phase_starting p)) (key_given s).control) (sym is)
    (next_owed StartEncReq (enc_rsp ∷ []) s.control lasts opens refl order)
order_given p s is asked lasts opens order = absurd (cc)

order_refused : (b : Bool) (p : PhaseFacts) (s : Phased) → s.phase ≡ p → may_follow Refuse p ≡ b → Ordered (phase_ciphers Peripheral p) s.control → InOrder Peripheral (refused_if b s)
order_refused false p s is may order =
    other_owed (TerminateInd pin_or_key_missing) (phase_ciphers Peripheral s.phase) s.control refl (subst (λ (q : PhaseFacts). Ordered (phase_ciphers Peripheral q) s.control) (sym is) order)
order_refused true (Asked after_pause enc_rsp_taken kept) s is may order =
    subst (λ (p : PhaseFacts). Ordered (phase_ciphers Peripheral (phase_after Refuse p)) (refused_if true s).control) (sym is)
    (other_owed (RejectExtInd enc_req_opcode pin_or_key_missing) (enc_rsp ∷ []) s.control refl order)
order_refused true p s is may order = absurd (cc)

-- ---- a PDU is taken

order_owed : (owed : Option Ctrl) (pdus : List PduClass) (c : Control) → OwedFits pdus owed → Empty c → Ordered pdus (after_all (owed_steps owed) c)
order_owed None pdus c fits none = ordered_if_empty pdus c none
order_owed (Some ctrl) pdus c fits none = first_owed_there ctrl pdus c fits none

order_none : (owed : Option Ctrl) (pdus : List PduClass) (c : Control) → owed ≡ None → Ordered pdus c → Ordered pdus (after_all (owed_steps owed) c)
order_none None pdus c is order = order
order_none (Some ctrl) pdus c is order = absurd (cc)

order_kept : (role : Role) (slot : ℕ) (kept : Option Ctrl) (s : Phased) → InOrder role s → InOrder role (answered_kept slot kept s)
order_kept role slot None s order = order
order_kept role slot (Some ctrl) s order = ordered_step (control_takes (Known ctrl) slot true) (phase_ciphers role s.phase) s.control refl order

module _ (role : Role) (slot : ℕ) (response : Response) (read : CtrlRead) (s : Phased) (tied : Tied role s) where
  abbrev t : Phased
  t = seen_by_procedures read slot s

  role_t : role_now t ≡ role
  role_t = same_role role (control_takes (seen_as read s) slot (is_quiet_now s)) s.control tied.is_role

  order_seen : InOrder role s → InOrder role t
  order_seen order =
      subst (λ (pdus : List PduClass). Ordered pdus t.control) (sym (owed_taking role (class_of_read read) s.phase))
      (ordered_step (control_takes (seen_as read s) slot (is_quiet_now s)) (phase_ciphers role s.phase) s.control refl order)

  order_apart : is_of_encryption (class_of_read read) ≡ false → InOrder role s → InOrder role (ciphered response read t)
  order_apart is order =
      let b = encrypts t in
      let from = apart_from (role_now t) response read b t.phase is in
      subst (InOrder role) (sym (answers t response read))
      (order_none (read_answer (role_now t) response read t.phase) (phase_ciphers role (phase_answering (role_now t) read b t.phase)) t.control from.none
      (subst (λ (p : PhaseFacts). Ordered (phase_ciphers role p) t.control) (sym from.phase) (order_seen order)))

  empty_seen : ciphers_waiting s.control.table ≡ [] → Empty t.control
  empty_seen none = empty_step (control_takes (seen_as read s) slot (is_quiet_now s)) s.control refl (empty s.control none)

  order_turned : ciphers_waiting s.control.table ≡ [] → InOrder role (ciphered response read t)
  order_turned none =
      let b = encrypts t in
      let fits : OwedFits (phase_ciphers role (phase_answering (role_now t) read b t.phase)) (read_answer (role_now t) response read t.phase) =
      subst (λ (r : Role). OwedFits (phase_ciphers r (phase_answering (role_now t) read b t.phase)) (read_answer (role_now t) response read t.phase)) role_t
      (owed_fits (role_now t) response read b t.phase) in
      subst (InOrder role) (sym (answers t response read))
      (order_owed (read_answer (role_now t) response read t.phase) (phase_ciphers role (phase_answering (role_now t) read b t.phase)) t.control fits (empty_seen none))

  order_answered : IsInTurn (Takes read slot response) s → InOrder role s → InOrder role (ciphered response read t)
  order_answered turn order = by (is_of_encryption (class_of_read read)) refl
    where
      by : (b : Bool) → is_of_encryption (class_of_read read) ≡ b → InOrder role (ciphered response read t)
      by true is = order_turned (turn is)
      by false is = order_apart is order

  order_took : IsInTurn (Takes read slot response) s → InOrder role s → InOrder role (took slot response read s)
  order_took turn order =
      took_ways (InOrder role) slot response read s (λ no_way. order)
      (λ allowed. λ keeps. subst (λ (pdus : List PduClass). Ordered pdus s.control) (sym (owed_taking role (class_of_read read) s.phase)) order)
      (λ allowed. λ keeps. λ full. order)
      (λ allowed. λ keeps. λ full. handed_ways (InOrder role) slot response read s (λ code. λ over. order_seen order)
      (λ goes. λ loud. order_answered turn order)
      (λ goes. λ quiet. order_kept role slot (ciphered response read t).kept (ciphered response read t) (order_answered turn order)))

-- ---- every step

order_if : (role : Role) (b : Bool) (s t : Phased) → (b ≡ true → InOrder role t) → InOrder role s → InOrder role (if b then t else s)
order_if role true s t next order = next refl
order_if role false s t next order = order

order_moved : (role : Role) (step : PhasedStep) (s : Phased) → Sound role s → Agrees s → IsInTurn step s → s.control.ends ≡ None → InOrder role s
    → InOrder role (phased_moved step s)
order_moved role (Enters slot) s sound agrees turn lasts order = order_entered role slot s sound.tied.is_role order
order_moved role (Asks ask) s sound agrees turn lasts order = ordered_step (control_asks ask) (phase_ciphers role s.phase) s.control refl order
order_moved role (Answers answer) s sound agrees turn lasts order = ordered_step (control_answers answer) (phase_ciphers role s.phase) s.control refl order
order_moved role GivesKey s sound agrees turn lasts order =
    order_if role (s.asks_key && is_open_now s) s (key_given s)
    (λ is. let parts = and_parts s.asks_key (is_open_now s) is in
    let at = sound.tied.asked_at parts.0 in
    subst (λ (r : Role). InOrder r (key_given s)) (sym at)
    (order_given s.phase s refl (sound.tied.asked parts.0) lasts parts.1 (subst (λ (r : Role). InOrder r s) at order))) order
order_moved role LacksKey s sound agrees turn lasts order =
    order_if role (s.asks_key && is_open_now s) s (key_lacking s)
    (λ is. let at = sound.tied.asked_at (and_parts s.asks_key (is_open_now s) is).0 in
    subst (λ (r : Role). InOrder r (key_lacking s)) (sym at)
    (order_refused (may_follow Refuse s.phase) s.phase s refl refl (subst (λ (r : Role). InOrder r s) at order))) order
order_moved role (Disconnects reason) s sound agrees turn lasts order = ordered_step (control_disconnects reason) (phase_ciphers role s.phase) s.control refl order
order_moved role (Sends slot) s sound agrees turn lasts order = ordered_step (control_sends slot (is_quiet_now s)) (phase_ciphers role s.phase) s.control refl order
order_moved role SeesAcknowledged s sound agrees turn lasts order = order_acknowledged role s sound agrees lasts order
order_moved role (Takes read slot response) s sound agrees turn lasts order =
    order_took role slot response read s sound.tied turn order
order_moved role TakesData s sound agrees turn lasts order = by (allows s.phase (role_now s) Data)
  where
    by : (b : Bool) → InOrder role (if b then s else ended_with mic_failure s)
    by true = order
    by false = order

pub order_after : (role : Role) (step : PhasedStep) (s : Phased) → Sound role s → Agrees s → IsInTurn step s → InOrder role s → InOrder role (phased_after step s)
order_after role step s sound agrees turn order = by s.control.ends refl
  where
    by : (ends : Option ErrCode) → s.control.ends ≡ ends → InOrder role (phased_after step s)
    by None is = open_phased (InOrder role) step s is (order_moved role step s sound agrees turn is order)
    by (Some code) is = subst (InOrder role) (sym (same_after step s code is)) order

order_all : (role : Role) (steps : List PhasedStep) (s : Phased) → Sound role s → Agrees s → AreInTurn steps s → InOrder role s → InOrder role (phased_after_all steps s)
order_all role [] s sound agrees turns order = order
order_all role (step ∷ steps) s sound agrees turns order =
    order_all role steps (phased_after step s) (sound_after role step s sound) (agrees_after role step s sound agrees) turns.1
    (order_after role step s sound agrees turns.0 order)

pub order_first : (role : Role) (max_rx : ℕ) (first : Params) (slot : ℕ) → InOrder role (first_phased role max_rx first slot)
order_first Central max_rx first slot = record { waits = refl; out = tt }
order_first Peripheral max_rx first slot = record { waits = inr refl; out = tt }

-- ---- the laws

pub order_now : (role : Role) (max_rx : ℕ) (first : Params) (slot : ℕ) (steps : List PhasedStep) → AreInTurn steps (first_phased role max_rx first slot)
    → let s = phased_after_all steps (first_phased role max_rx first slot) in
    AreLastOf (phase_ciphers role s.phase) (map (λ ctrl. ctrl_class ctrl) (ciphers_waiting s.control.table))
order_now role max_rx first slot steps turns =
    (order_all role steps (first_phased role max_rx first slot) (sound_first role max_rx first slot) (agrees_first role max_rx first slot) turns (order_first role max_rx first slot)).waits

few_last : (ys xs : List PduClass) → AreLastOf ys xs → length xs ≤ length ys
few_last [] xs h = rw h (omega arith)
few_last (y ∷ ys) xs (inl h) = rw h (omega arith)
few_last (y ∷ ys) xs (inr h) = let k = few_last ys xs h in omega (arith, k)

two_at_most : (role : Role) (p : PhaseFacts) → length (phase_ciphers role p) ≤ 2
two_at_most Central (Asked true enc_rsp_taken kept) = omega arith
two_at_most Central (Asked false enc_rsp_taken kept) = omega arith
two_at_most Central Clear = omega arith
two_at_most Central p = omega arith
two_at_most Peripheral Clear = omega arith
two_at_most Peripheral p = omega arith

pub few_now : (role : Role) (max_rx : ℕ) (first : Params) (slot : ℕ) (steps : List PhasedStep) → AreInTurn steps (first_phased role max_rx first slot)
    → length (ciphers_waiting (phased_after_all steps (first_phased role max_rx first slot)).control.table) ≤ 2
few_now role max_rx first slot steps turns =
    let s = phased_after_all steps (first_phased role max_rx first slot) in
    let few = few_last (phase_ciphers role s.phase) (map ctrl_class (ciphers_waiting s.control.table)) (order_now role max_rx first slot steps turns) in
    let two = two_at_most role s.phase in
    let same = length-map (ciphers_waiting s.control.table) ctrl_class in
    omega (arith, few, two, same)

-- the two that may wait are of two kinds
head_of_two : PduClass → List PduClass → PduClass
head_of_two none [] = none
head_of_two none (x ∷ xs) = x

no_pair : (a c d : PduClass) → AreLastOf (a ∷ []) (c ∷ d ∷ []) → ⊥
no_pair a c d (inl h) = absurd (cc)
no_pair a c d (inr h) = absurd (cc)

pair_apart : (a b c d : PduClass) → (a ≡ b → ⊥) → AreLastOf (a ∷ b ∷ []) (c ∷ d ∷ []) → c ≡ d → ⊥
unfolding head_of_two
pair_apart a b c d two (inl h) same = two (sym (ap (head_of_two c) h) ∙ same ∙ ap (head_of_two d) (ap tail_of h))
pair_apart a b c d two (inr (inl h)) same = absurd (cc)
pair_apart a b c d two (inr (inr h)) same = absurd (cc)

apart_in : (role : Role) (p : PhaseFacts) (c d : PduClass) → AreLastOf (phase_ciphers role p) (c ∷ d ∷ []) → c ≡ d → ⊥
apart_in Central (Asked true enc_rsp_taken kept) c d last same = pair_apart pause_enc_rsp enc_req c d (λ h. absurd (cc)) last same
apart_in Central (Asked false enc_rsp_taken kept) c d last same = no_pair enc_req c d last
apart_in Central Clear c d last same = absurd (cc)
apart_in Central Secure c d last same = absurd (cc)
apart_in Central HalfKeyed c d last same = no_pair _ c d last
apart_in Central (Pausing kept) c d last same = no_pair _ c d last
apart_in Central (HalfClear kept) c d last same = no_pair _ c d last
apart_in Peripheral HalfKeyed c d last same = pair_apart enc_rsp start_enc_req c d (λ h. absurd (cc)) last same
apart_in Peripheral (HalfClear kept) c d last same = absurd (cc)
apart_in Peripheral Clear c d last same = no_pair _ c d last
apart_in Peripheral (Asked after_pause enc_rsp_taken kept) c d last same = no_pair _ c d last
apart_in Peripheral Secure c d last same = no_pair _ c d last
apart_in Peripheral (Pausing kept) c d last same = no_pair _ c d last

pub apart_now : (role : Role) (max_rx : ℕ) (first : Params) (slot : ℕ) (steps : List PhasedStep) (one other : Ctrl)
    → AreInTurn steps (first_phased role max_rx first slot)
    → ciphers_waiting (phased_after_all steps (first_phased role max_rx first slot)).control.table ≡ one ∷ other ∷ [] → ctrl_class one ≢ ctrl_class other
apart_now role max_rx first slot steps one other turns is =
    let s = phased_after_all steps (first_phased role max_rx first slot) in
    apart_in role s.phase (ctrl_class one) (ctrl_class other)
    (subst (λ (ctrls : List Ctrl). Last (phase_ciphers role s.phase) ctrls) is (order_now role max_rx first slot steps turns))

-- While a central runs an encryption it has its request; a peripheral has none. A central that has not paused an encryption
-- has no LL_PAUSE_ENC_RSP.
use Rattle.std.proofs.Common.{◌≡◌, ℕ, Bool, true, false, ◌&&◌, if◌then◌else◌, List, [], ◌∷◌, Option, Some, None, is_none, is_some, refl, sym, ap, subst, ◌∙◌}
use Rattle.ble_base.specs.ErrorCodes.{mic_failure, pin_or_key_missing}
use Rattle.ble_base.specs.declared.error_codes.ErrCode.{ErrCode}
use Rattle.ble_base.specs.declared.roles.Role.{Role}
use Rattle.ble_base.specs.declared.roles.Role.TheVariants.{Central, Peripheral}
use Rattle.data_pdu.specs.declared.ctrl.Ctrl.{Ctrl}
use Rattle.data_pdu.specs.declared.ctrl.Ctrl.TheVariants.{RejectExtInd, StartEncReq, TerminateInd}
use Rattle.data_pdu.specs.declared.ctrl.CtrlRead.{CtrlRead}
use Rattle.data_pdu.specs.declared.ctrl.CtrlRead.TheVariants.{Known}
use Rattle.enc_phase.specs.declared.classes.PduClass.TheVariants.{Data}
use Rattle.enc_phase.specs.declared.facts.Transition.TheVariants.{Ask as AskTransition, Refuse}
use Rattle.enc_phase.specs.Phases.{may_follow, phase_after}
use Rattle.enc_phase.specs.Taking.{allows}
use Rattle.instants.specs.declared.indications.Params.{Params}
use Rattle.instants.specs.Track.{next_number}
use Rattle.table_laws.specs.procedure_stages.declared.stages.Progress.{Progress}
use Rattle.table_laws.specs.procedure_stages.declared.stages.Progress.TheVariants.{Central as central, Peripheral as peripheral}
use Rattle.table_laws.specs.procedure_stages.Kinds.{role_of}
use Rattle.table_laws.specs.procedure_stages.Opcodes.{enc_req_opcode}
use Rattle.table_laws.specs.procedures.Beginning.{begin_step}
use Rattle.table_laws.specs.procedures.Calls.{takes}
use Rattle.table_laws.specs.procedures.Going.{entered_step}
use Rattle.table_laws.specs.procedures.Table.{TableFacts}
use Rattle.table_laws.specs.procedures.Taking.{took_step}
use Rattle.table_laws.specs.Encrypting.{MayBeginBy, has_encryption}
use Rattle.table_laws.proofs.Encrypting.{begins_by}
use Rattle.control_model.specs.Control.{Control, Step, after, after_all, moved}
use Rattle.control_model.specs.Control.{Enters as control_enters, Owes, SeesAcknowledged as control_sees_acknowledged, Sends as control_sends, Takes as control_takes, Asks as control_asks, Answers as control_answers, Disconnects as control_disconnects}
use Rattle.control_model.proofs.Calls.{held_over}
use Rattle.phased_control.specs.Phased.{Phased, ask_begun, asking_if, asks_again, encrypting_if, entered, first_phased, is_encrypt, is_open_now, is_quiet_now, key_given, key_lacking, refused_if, request_of, table_entered, with_owed_if, with_step}
use Rattle.phased_control.specs.Taken.{PhasedStep, Response, Answers, Asks, Disconnects, Enters, GivesKey, LacksKey, SeesAcknowledged, Sends, Takes, TakesData, answered_kept, ciphered, ended_with, phased_after, phased_after_all, phased_moved, role_now, seen_as, took}
use Rattle.phased_control.specs.Steps.{read_answer, owed_steps, seen_by_procedures}
use Rattle.phased_control.specs.Ends.{IsRequest}
use Rattle.phased_control.proofs.Answering.{answers}
use Rattle.phased_control.proofs.Kept.{Tied, tied_after, tied_first}
use Rattle.control_model.proofs.Moving.{same_role}
use Rattle.phased_control.proofs.Requesting.{request_encrypting}
use Rattle.phased_control.proofs.Tables.{begins_encryption, leaves_at_central, leaves_encryption, leaves_entering, takes_as}
use Rattle.phased_control.proofs.Taking.{handed_ways, took_ways}

abbrev pub encrypts : Phased → Bool
encrypts s = has_encryption s.control.table.progress

-- ---- at a central an encryption begins as an event is entered alone

abbrev pub is_entering : Step → Bool
is_entering (control_enters slot quiet) = true
is_entering step = false

fewer_by : (f g : TableFacts) (read : CtrlRead) (slot : ℕ) (quiet : Bool) → role_of f.progress ≡ Central → g ≡ (took_step f read slot quiet).0
    → has_encryption g.progress ≡ true → has_encryption f.progress ≡ true
fewer_by f g read slot quiet role is has = by (has_encryption f.progress) refl
  where
    none : (p : Progress) → role_of p ≡ Central → MayBeginBy p (takes read slot quiet) → ⊥
    none (central c) r h = h
    none (peripheral p) r h = absurd (cc)

    by : (b : Bool) → has_encryption f.progress ≡ b → b ≡ true
    by true h = refl
    by false h =
        absurd (none f.progress role (begins_by f (takes read slot quiet) h (subst (λ (t : TableFacts). has_encryption t.progress ≡ true) is has)))

fewer_taking : (read : CtrlRead) (slot : ℕ) (quiet : Bool) (c : Control) → role_of c.table.progress ≡ Central
    → has_encryption (after (control_takes read slot quiet) c).table.progress ≡ true → has_encryption c.table.progress ≡ true
fewer_taking read slot quiet c role has = by c.ends refl has
  where
    d : Control
    d = after (control_takes read slot quiet) c

    goes : (ends : Option ErrCode) → d.ends ≡ ends → c.ends ≡ None → has_encryption d.table.progress ≡ true → has_encryption c.table.progress ≡ true
    goes (Some code) is lasts h = subst (λ (f : TableFacts). has_encryption f.progress ≡ true) ((takes_as read slot quiet c lasts).ends code is) h
    goes None is lasts h = fewer_by c.table d.table read slot quiet role ((takes_as read slot quiet c lasts).goes is) h

    by : (ends : Option ErrCode) → c.ends ≡ ends → has_encryption d.table.progress ≡ true → has_encryption c.table.progress ≡ true
    by None is h = goes d.ends refl is h
    by (Some code) is h =
        subst (λ (b : Bool). has_encryption (if b then moved (control_takes read slot quiet) c else c).table.progress ≡ true → has_encryption c.table.progress ≡ true)
        (sym (ap (λ (ends : Option ErrCode). is_none ends) is)) (λ k. k) h

pub fewer : (step : Step) (c : Control) → is_entering step ≡ false → role_of c.table.progress ≡ Central
    → has_encryption (after step c).table.progress ≡ true → has_encryption c.table.progress ≡ true
fewer (control_enters slot quiet) c is role has = absurd (cc)
fewer (control_takes read slot quiet) c is role has = fewer_taking read slot quiet c role has
fewer (Owes ctrl) c is role has = sym (leaves_at_central ctrl c role) ∙ has
fewer (control_asks ask) c is role has = sym (leaves_encryption (control_asks ask) c refl) ∙ has
fewer (control_answers answer) c is role has = sym (leaves_encryption (control_answers answer) c refl) ∙ has
fewer (control_disconnects reason) c is role has = sym (leaves_encryption (control_disconnects reason) c refl) ∙ has
fewer (control_sends slot quiet) c is role has = sym (leaves_encryption (control_sends slot quiet) c refl) ∙ has
fewer control_sees_acknowledged c is role has = sym (leaves_encryption control_sees_acknowledged c refl) ∙ has

-- ---- the request

pub record Requests (role : Role) (s : Phased) : Type 0 where
  pub central : role ≡ Central → encrypts s ≡ true → IsRequest s.request
  pub peripheral : role ≡ Peripheral → s.request ≡ None

-- an end goes on with its request
record GoesOn (role : Role) (s t : Phased) : Type 0 where
  is_role : role_now t ≡ role
  request : t.request ≡ s.request
  fewer_than : role ≡ Central → encrypts t ≡ true → encrypts s ≡ true

requests_on : (role : Role) (s t : Phased) → GoesOn role s t → Requests role s → Requests role t
requests_on role s t on requests =
    record {
      central = λ is. λ has. subst IsRequest (sym on.request) (requests.central is (on.fewer_than is has));
      peripheral = λ is. on.request ∙ requests.peripheral is;
    }

module _ (role : Role) (s : Phased) where
  on_same : (t : Phased) → t.control ≡ s.control → t.request ≡ s.request → role_now s ≡ role → GoesOn role s t
  on_same t control request is =
      record {
        is_role = ap (λ (c : Control). role_of c.table.progress) control ∙ is;
        request = request;
        fewer_than = λ at. λ has. sym (ap (λ (c : Control). has_encryption c.table.progress) control) ∙ has;
      }

  on_step : (step : Step) (t : Phased) → is_entering step ≡ false → GoesOn role s t → GoesOn role s (with_step step t)
  on_step step t is on =
      record {
        is_role = same_role role step t.control on.is_role;
        request = on.request;
        fewer_than = λ at. λ has. on.fewer_than at (fewer step t.control is (on.is_role ∙ at) has);
      }

  -- the control part goes on by a step
  on_control : (step : Step) (t u : Phased) → is_entering step ≡ false → u.control ≡ after step t.control → u.request ≡ t.request → GoesOn role s t → GoesOn role s u
  on_control step t u is control request on =
      let v = on_step step t is on in
      record {
        is_role = ap (λ (c : Control). role_of c.table.progress) control ∙ v.is_role;
        request = request ∙ v.request;
        fewer_than = λ at. λ has. v.fewer_than at (sym (ap (λ (c : Control). has_encryption c.table.progress) control) ∙ has);
      }

  on_owed : (owed : Option Ctrl) (t u : Phased) → u.control ≡ after_all (owed_steps owed) t.control → u.request ≡ t.request → GoesOn role s t → GoesOn role s u
  on_owed None t u control request on =
      record {
        is_role = ap (λ (c : Control). role_of c.table.progress) control ∙ on.is_role;
        request = request ∙ on.request;
        fewer_than = λ at. λ has. on.fewer_than at (sym (ap (λ (c : Control). has_encryption c.table.progress) control) ∙ has);
      }
  on_owed (Some ctrl) t u control request on = on_control (Owes ctrl) t u refl control request on

  on_answers : (response : Response) (read : CtrlRead) (t : Phased) → GoesOn role s t → GoesOn role s (ciphered response read t)
  on_answers response read t on =
      on_owed (read_answer (role_now t) response read t.phase) t (ciphered response read t)
      (ap (λ (u : Phased). u.control) (answers t response read)) (ap (λ (u : Phased). u.request) (answers t response read)) on

  on_kept : (slot : ℕ) (kept : Option Ctrl) (t : Phased) → GoesOn role s t → GoesOn role s (answered_kept slot kept t)
  on_kept slot None t on = on
  on_kept slot (Some ctrl) t on = on_control (control_takes (Known ctrl) slot true) t (answered_kept slot (Some ctrl) t) refl refl refl on

  on_took : (slot : ℕ) (response : Response) (read : CtrlRead) → role_now s ≡ role → GoesOn role s (took slot response read s)
  on_took slot response read is =
      let here = on_same s refl refl is in
      let now = on_control (control_takes (seen_as read s) slot (is_quiet_now s)) s (seen_by_procedures read slot s) refl refl refl here in
      let answer = on_answers response read (seen_by_procedures read slot s) now in
      took_ways (GoesOn role s) slot response read s (λ may. record { is_role = is; request = refl; fewer_than = λ at. λ has. has })
      (λ may. λ keeps. record { is_role = is; request = refl; fewer_than = λ at. λ has. has })
      (λ may. λ keeps. λ full. record { is_role = is; request = refl; fewer_than = λ at. λ has. has })
      (λ may. λ keeps. λ full. handed_ways (GoesOn role s) slot response read s (λ code. λ over. now) (λ lasts. λ loud. answer)
      (λ lasts. λ quiet. on_kept slot (ciphered response read (seen_by_procedures read slot s)).kept (ciphered response read (seen_by_procedures read slot s)) answer))

  on_asking : (b : Bool) (t : Phased) → GoesOn role s t → GoesOn role s (asking_if b t)
  on_asking false t on = on
  on_asking true t on = by t.request
    where
      by : (request : Option Ctrl) → GoesOn role s (with_owed_if request (record t { phase = phase_after AskTransition t.phase }))
      by None = record { is_role = on.is_role; request = on.request; fewer_than = on.fewer_than }
      by (Some ctrl) = on_control (Owes ctrl) t _ refl refl refl on

  on_if : (b : Bool) (t : Phased) → GoesOn role s t → role_now s ≡ role → GoesOn role s (if b then t else s)
  on_if true t on is = on
  on_if false t on is = on_same s refl refl is

  on_refused : (b : Bool) → role_now s ≡ role → GoesOn role s (refused_if b s)
  on_refused true is = on_control (Owes (RejectExtInd enc_req_opcode pin_or_key_missing)) s (refused_if true s) refl refl refl (on_same s refl refl is)
  on_refused false is = on_control (Owes (TerminateInd pin_or_key_missing)) s (refused_if false s) refl refl refl (on_same s refl refl is)

  -- every step but the entry of an event
  abbrev enters_now : PhasedStep → Bool
  enters_now (Enters slot) = true
  enters_now step = false

  on_moved : (step : PhasedStep) → enters_now step ≡ false → role_now s ≡ role → GoesOn role s (phased_moved step s)
  on_moved (Enters slot) other is = absurd (cc)
  on_moved (Asks ask) other is = on_step (control_asks ask) s refl (on_same s refl refl is)
  on_moved (Answers answer) other is = on_step (control_answers answer) s refl (on_same s refl refl is)
  on_moved GivesKey other is =
      on_if (s.asks_key && is_open_now s) (key_given s) (on_control (Owes StartEncReq) s (key_given s) refl refl refl (on_same s refl refl is)) is
  on_moved LacksKey other is = on_if (s.asks_key && is_open_now s) (key_lacking s) (on_refused (may_follow Refuse s.phase) is) is
  on_moved (Disconnects reason) other is = on_step (control_disconnects reason) s refl (on_same s refl refl is)
  on_moved (Sends slot) other is = on_step (control_sends slot (is_quiet_now s)) s refl (on_same s refl refl is)
  on_moved SeesAcknowledged other is =
      on_asking (asks_again s) (with_step control_sees_acknowledged s) (on_step control_sees_acknowledged s refl (on_same s refl refl is))
  on_moved (Takes read slot response) other is = on_took slot response read is
  on_moved TakesData other is = by (allows s.phase (role_now s) Data)
    where
      by : (b : Bool) → GoesOn role s (if b then s else ended_with mic_failure s)
      by true = on_same s refl refl is
      by false = record { is_role = is; request = refl; fewer_than = λ at. λ has. has }

-- ---- every step

pub role_entered : (s : Phased) → role_of (table_entered s).progress ≡ role_now s
role_entered s = by (is_some (next_number s.control.track))
  where
    by : (b : Bool) → role_of (entered_step s.control.table b).0.progress ≡ role_now s
    by true = (held_over s.control.table.progress).role
    by false = refl

requests_entered : (role : Role) (slot : ℕ) (s : Phased) → role_now s ≡ role → Requests role s → Requests role (entered slot s)
requests_entered role slot s is requests = by (is_encrypt (begin_step (table_entered s) slot (is_quiet_now s)).1) refl
  where
    request : Option Ctrl
    request = request_of (ask_begun (table_entered s) (is_quiet_now s))

    t : Phased
    t = with_step (control_enters slot (is_quiet_now s)) s

    by : (b : Bool) → is_encrypt (begin_step (table_entered s) slot (is_quiet_now s)).1 ≡ b → Requests role (encrypting_if b request t)
    by false h =
        record {
          central = λ at. λ has. requests.central at (sym (leaves_entering slot (is_quiet_now s) s.control h) ∙ has);
          peripheral = requests.peripheral;
        }
    by true h =
        let begins = begins_encryption (table_entered s) slot (is_quiet_now s) h in
        let u : Phased = record t { request = request } in
        record {
          central = λ at. λ has. subst IsRequest (sym (request_encrypting t.phase u)) begins.request;
          peripheral = λ at. absurd (two_roles (sym begins.role ∙ role_entered s ∙ is ∙ at));
        }
      where
        two_roles : ◌≡◌ {A = Role} Central Peripheral → ⊥
        two_roles e = absurd (cc)

requests_moved : (role : Role) (step : PhasedStep) (s : Phased) → role_now s ≡ role → Requests role s → Requests role (phased_moved step s)
requests_moved role (Enters slot) s is requests = requests_entered role slot s is requests
requests_moved role step s is requests = requests_on role s (phased_moved step s) (on_moved role s step refl is) requests

pub requests_after : (role : Role) (step : PhasedStep) (s : Phased) → role_now s ≡ role → Requests role s → Requests role (phased_after step s)
requests_after role step s is requests = by (is_none s.control.ends)
  where
    by : (b : Bool) → Requests role (if b then phased_moved step s else s)
    by true = requests_moved role step s is requests
    by false = requests

requests_all : (role : Role) (steps : List PhasedStep) (s : Phased) → Tied role s → Requests role s → Requests role (phased_after_all steps s)
requests_all role [] s tied requests = requests
requests_all role (step ∷ steps) s tied requests =
    requests_all role steps (phased_after step s) (tied_after role step s tied) (requests_after role step s tied.is_role requests)

pub requests_first : (role : Role) (max_rx : ℕ) (first : Params) (slot : ℕ) → Requests role (first_phased role max_rx first slot)
requests_first Central max_rx first slot = record { central = λ at. λ has. absurd (cc); peripheral = λ at. refl }
requests_first Peripheral max_rx first slot = record { central = λ at. absurd (cc); peripheral = λ at. refl }

pub requests_now : (role : Role) (max_rx : ℕ) (first : Params) (slot : ℕ) (steps : List PhasedStep)
    → Requests role (phased_after_all steps (first_phased role max_rx first slot))
requests_now role max_rx first slot steps =
    requests_all role steps (first_phased role max_rx first slot) (tied_first role max_rx first slot) (requests_first role max_rx first slot)

-- ---- the laws

pub request_now : (max_rx : ℕ) (first : Params) (slot : ℕ) (steps : List PhasedStep)
    → let s = phased_after_all steps (first_phased Central max_rx first slot) in
    has_encryption s.control.table.progress ≡ true → IsRequest s.request
request_now max_rx first slot steps has = (requests_now Central max_rx first slot steps).central refl has

pub none_at_peripheral : (max_rx : ℕ) (first : Params) (slot : ℕ) (steps : List PhasedStep)
    → (phased_after_all steps (first_phased Peripheral max_rx first slot)).request ≡ None
none_at_peripheral max_rx first slot steps = (requests_now Peripheral max_rx first slot steps).peripheral refl

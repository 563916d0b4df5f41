-- Each step of an end queues only PDUs of its role.
use Rattle.std.proofs.Common.{◌≡◌, ℕ, Bool, true, false, ◌&&◌, if◌then◌else◌, Option, Some, None, is_none, is_some, refl, ap, sym, ◌∙◌, subst}
use Rattle.std.specs.Bool.{⊤}
use Rattle.std.proofs.lemmas.Bool.{and_parts}
use Rattle.ble_base.specs.ErrorCodes.{mic_failure, pin_or_key_missing}
use Rattle.ble_base.specs.declared.error_codes.ErrCode.{ErrCode}
use Rattle.ble_base.specs.declared.procedure_kinds.Kind.{Kind}
use Rattle.ble_base.specs.declared.procedure_kinds.Kind.TheVariants.{Encrypt}
use Rattle.ble_base.specs.declared.roles.Role.{Role}
use Rattle.ble_base.specs.declared.roles.Role.TheVariants.{Central, Peripheral}
use Rattle.data_pdu.specs.declared.ctrl.Ctrl.{Ctrl}
use Rattle.data_pdu.specs.declared.ctrl.Ctrl.TheVariants.{ConnectionParamReq, EncReq, EncRsp, LengthReq, PauseEncReq, PeripheralFeatureReq, PhyReq, RejectExtInd, StartEncReq, TerminateInd, VersionInd}
use Rattle.data_pdu.specs.declared.ctrl.CtrlRead.{CtrlRead}
use Rattle.data_pdu.specs.declared.ctrl.CtrlRead.TheVariants.{Bare, Known, Unknown}
use Rattle.data_pdu.specs.Reading.{IfKnown, opcode_of}
use Rattle.joint_controls.specs.enc_phase.declared.classes.PduClass.{PduClass}
use Rattle.joint_controls.specs.enc_phase.declared.classes.PduClass.TheVariants.{Data, Request}
use Rattle.joint_controls.specs.enc_phase.declared.facts.PhaseFacts.{PhaseFacts}
use Rattle.joint_controls.specs.enc_phase.declared.facts.PhaseFacts.TheVariants.{Clear}
use Rattle.joint_controls.specs.enc_phase.declared.facts.Transition.TheVariants.{Ask as AskTransition, Pause, Refuse}
use Rattle.joint_controls.specs.enc_phase.Phases.{may_follow, phase_after, phase_starting}
use Rattle.joint_controls.specs.enc_phase.Taking.{allows, ctrl_class, is_unknown, phase_taking}
use Rattle.instants.specs.declared.indications.Indication.{Indication}
use Rattle.instants.specs.Track.{event_of, next_number}
use Rattle.exchange_steps.specs.procedure_values.declared.asks.Ask.{Ask}
use Rattle.exchange_steps.specs.procedure_values.Asks.{kind_of_ask}
use Rattle.exchange_steps.specs.procedure_values.Drafts.{is_out}
use Rattle.exchange_steps.specs.procedure_stages.InProgress.{is_host_asked}
use Rattle.exchange_steps.specs.procedure_stages.Kinds.{begins, role_of}
use Rattle.exchange_steps.specs.procedure_stages.Opcodes.{enc_req_opcode}
use Rattle.exchange_steps.specs.procedures.Beginning.{ask_at, begin_at, begin_step, place_to_begin}
use Rattle.exchange_steps.specs.procedures.Going.{is_answer}
use Rattle.exchange_steps.specs.procedures.Table.{TableFacts}
use Rattle.exchange_steps.specs.procedures.Taking.{took_step}
use Rattle.joint_controls.proofs.table_laws.Begun.{begins_of}
use Rattle.joint_controls.specs.control_model.Control.{Control, Step, Answers as control_answers, Asks as control_asks, Disconnects as control_disconnects, Enters as control_enters, Owes, SeesAcknowledged as control_acked, Sends as control_sends, Takes as control_takes, after, following, goes_out, indicated_by, is_to_come, moved, taken, went}
use Rattle.joint_controls.proofs.control_model.Calls.{any_step, either_way}
use Rattle.joint_controls.specs.phased_control.Phased.{Phased, acknowledged, ask_begun, asking_if, asks_again, encrypting, encrypting_if, entered, if_key_asked, is_encrypt, is_open_now, is_quiet_now, key_given, key_lacking, refused_if, request_of, table_entered, with_owed_if, with_step}
use Rattle.joint_controls.specs.phased_control.Taken.{PhasedStep, Response, Answers, Asks, Disconnects, Enters, GivesKey, LacksKey, SeesAcknowledged, Sends, Takes, TakesData, answered_kept, ciphered, class_of_read, ctrl_in, ended_with, keeps_class, knowing, phased_after, phased_moved, role_now, seen_as, seen_if, took, took_data}
use Rattle.joint_controls.proofs.phased_control.Unknown.{MayBeUnknown, unknown_is}
use Rattle.joint_exchanges.specs.SentByRole.{AsksAt, IsEndOf, IsKeptBy, IsRequestBy, IsTableOf, is_cipher_of, is_cipher_opcode}
use Rattle.joint_exchanges.proofs.Ciphered.{Steady, choice, ciphered_keeps}
use Rattle.joint_exchanges.proofs.EndSteps.{IsRequest, is_request_of}
use Rattle.joint_exchanges.proofs.Took.{TookAs, handed, hands, keeps, took_as}
use Rattle.joint_exchanges.proofs.TableRoles.{IsKnownAt, IsKnownRead, acked_keeps, answers_keeps, asks_keeps, begins_keeps, entered_keeps, owes_keeps, sends_keeps, takes_keeps, terminates_keeps}

module _ (unknowns : Bool) (role : Role) where
  abbrev T : Control → Type 0
  T c = IsTableOf unknowns role c.table

  -- ---- steps of procedures and parameters

  following_keeps : (r : Role) (indication : Option Indication) (c : Control) → T c → T (following r indication c)
  following_keeps Central (Some indication) c h = h
  following_keeps Central None c h = h
  following_keeps Peripheral indication c h = h

  taken_keeps : (table : TableFacts) (ends : Option ErrCode) (indication : Option Indication) (c : Control) → T c → IsTableOf unknowns role table
      → T (taken table ends indication c)
  taken_keeps table (Some code) indication c h next = h
  taken_keeps table None None c h next = next
  taken_keeps table None (Some indication) c h next = either_way T (is_to_come c.track indication) _ _ next h

  abbrev MayStep : Step → Type 0
  MayStep (control_takes read slot quiet) = IsKnownRead unknowns role read
  MayStep (Owes ctrl) = is_cipher_of role ctrl ≡ true
  MayStep step = ⊤

  table_if_keeps : (b : Bool) (g : TableFacts) (c : Control) → T c → (b ≡ true → IsTableOf unknowns role g) → T (if b then record c { table = g } else c)
  table_if_keeps true g c h next = next refl
  table_if_keeps false g c h next = h

  moved_keeps : (step : Step) (c : Control) → MayStep step → T c → T (moved step c)
  moved_keeps (control_enters slot quiet) c may h = begins_keeps unknowns role _ slot quiet (entered_keeps unknowns role c.table (is_some (next_number c.track)) h)
  moved_keeps (control_asks ask) c may h = asks_keeps unknowns role c.table ask h
  moved_keeps (control_answers answer) c may h =
      table_if_keeps (is_host_asked c.table.progress && is_answer answer) _ c h
      (λ both. answers_keeps unknowns role c.table answer h (and_parts (is_host_asked c.table.progress) (is_answer answer) both).0)
  moved_keeps (control_disconnects reason) c may h = table_if_keeps _ _ c h (λ opens. terminates_keeps unknowns role c.table reason h)
  moved_keeps (control_sends slot quiet) c may h =
      either_way T (goes_out quiet c) _ c
      (following_keeps (role_of c.table.progress) (went slot quiet c).1 (record c { table = (went slot quiet c).0 })
      (sends_keeps unknowns role c.table (event_of c.track) c.track.params.latency slot quiet h)) h
  moved_keeps control_acked c may h = table_if_keeps (is_out c.table.out) _ c h (λ out. acked_keeps unknowns role c.table h)
  moved_keeps (control_takes read slot quiet) c may h =
      taken_keeps (took_step c.table read slot quiet).0 (took_step c.table read slot quiet).1.ends (indicated_by (took_step c.table read slot quiet).1.effect) c h
      (takes_keeps unknowns role c.table read slot quiet h may)
  moved_keeps (Owes ctrl) c may h = owes_keeps unknowns role c.table ctrl h may

  control_keeps : (step : Step) (c : Control) → MayStep step → T c → T (after step c)
  control_keeps step c may h = any_step T step c (moved_keeps step c may h) h

  abbrev E : Phased → Type 0
  E s = IsEndOf unknowns role s

  step_keeps : (step : Step) (s : Phased) → MayStep step → E s → E (with_step step s)
  step_keeps step s may e = record { table = control_keeps step s.control may e.table; request = e.request; kept = e.kept; asks = e.asks }

  pub steady : Steady role E
  steady =
      record {
        owes = λ ctrl s is none e. step_keeps (Owes ctrl) s is e;
        phases = λ phase s e. record { table = e.table; request = e.request; kept = e.kept; asks = e.asks };
        keys = λ r asks s e. record { table = e.table; request = e.request; kept = e.kept; asks = subst (λ (x : Role). AsksAt x asks) (sym r) tt };
      }

-- ---- the steps that take no PDU

requested_keeps : (unknowns : Bool) (role : Role) (request : Option Ctrl) (s : Phased) → IsRequestBy role request → IsEndOf unknowns role s → IsEndOf unknowns role (with_owed_if request s)
requested_keeps unknowns role None s is e = e
requested_keeps unknowns Central (Some (EncReq rand ediv skd_m iv_m)) s is e = step_keeps unknowns Central (Owes (EncReq rand ediv skd_m iv_m)) s refl e
requested_keeps unknowns Central (Some ctrl) s is e = absurd is
requested_keeps unknowns Peripheral (Some ctrl) s is e = absurd is

with_phase : (unknowns : Bool) (role : Role) (phase : PhaseFacts) (s : Phased) → IsEndOf unknowns role s → IsEndOf unknowns role (record s { phase = phase })
with_phase unknowns role phase s e = record { table = e.table; request = e.request; kept = e.kept; asks = e.asks }

encrypting_keeps : (unknowns : Bool) (phase : PhaseFacts) (s : Phased) → IsEndOf unknowns Central s → IsEndOf unknowns Central (encrypting phase s)
encrypting_keeps unknowns Clear s e =
    requested_keeps unknowns Central s.request (record s { phase = phase_after AskTransition s.phase }) e.request (with_phase unknowns Central (phase_after AskTransition s.phase) s e)
encrypting_keeps unknowns phase s e =
    step_keeps unknowns Central (Owes PauseEncReq) (record s { phase = phase_after Pause s.phase }) refl (with_phase unknowns Central (phase_after Pause s.phase) s e)

-- a central alone begins an encryption
encrypting_if_keeps : (unknowns : Bool) (role : Role) (b : Bool) (request : Option Ctrl) (s : Phased) → (b ≡ true → role ≡ Central) → IsRequest request
    → IsEndOf unknowns role s → IsEndOf unknowns role (encrypting_if b request s)
encrypting_if_keeps unknowns role false request s of is e = e
encrypting_if_keeps unknowns Central true request s of is e =
    encrypting_keeps unknowns s.phase (record s { request = request }) (record { table = e.table; request = by request is; kept = e.kept; asks = e.asks })
  where
    by : (request : Option Ctrl) → IsRequest request → IsRequestBy Central request
    by None is = tt
    by (Some (EncReq rand ediv skd_m iv_m)) is = tt
    by (Some ctrl) is = absurd is
encrypting_if_keeps unknowns Peripheral true request s of is e = absurd (let h = of refl in cc)

begun_role : (role : Role) (f : TableFacts) (slot : ℕ) (quiet : Bool) → role_of f.progress ≡ role → is_encrypt (begin_step f slot quiet).1 ≡ true → role ≡ Central
begun_role role f slot quiet r is = by (place_to_begin f quiet) (ask_at (place_to_begin f quiet) f.wanted) refl refl is
  where
    encrypts : (kind : Kind) → is_encrypt (Some kind) ≡ true → kind ≡ Encrypt
    encrypts Encrypt is = refl
    encrypts kind is = absurd (cc)

    central_by : (x : Role) → begins x Encrypt ≡ true → x ≡ Central
    central_by Central is = refl
    central_by Peripheral is = absurd (cc)

    by : (place : Option ℕ) (ask : Option Ask) → place_to_begin f quiet ≡ place → ask_at place f.wanted ≡ ask → is_encrypt (begin_at f slot place ask).1 ≡ true → role ≡ Central
    by None ask p a is = absurd (cc)
    by (Some place) None p a is = absurd (cc)
    by (Some place) (Some ask) p a is =
        let may = begins_of f quiet place ask p a in
        sym r ∙ central_by (role_of f.progress) (subst (λ (kind : Kind). begins (role_of f.progress) kind ≡ true) (encrypts (kind_of_ask ask) is) may.role)

entered_keeps_role : (unknowns : Bool) (role : Role) (slot : ℕ) (s : Phased) → IsEndOf unknowns role s → IsEndOf unknowns role (entered slot s)
entered_keeps_role unknowns role slot s e =
    encrypting_if_keeps unknowns role (is_encrypt (begin_step (table_entered s) slot (is_quiet_now s)).1) (request_of (ask_begun (table_entered s) (is_quiet_now s)))
    (with_step (control_enters slot (is_quiet_now s)) s)
    (begun_role role (table_entered s) slot (is_quiet_now s) (entered_keeps unknowns role s.control.table (is_some (next_number s.control.track)) e.table).same_role)
    (is_request_of (ask_begun (table_entered s) (is_quiet_now s))) (step_keeps unknowns role (control_enters slot (is_quiet_now s)) s tt e)

asking_keeps : (unknowns : Bool) (role : Role) (b : Bool) (s : Phased) → IsEndOf unknowns role s → IsEndOf unknowns role (asking_if b s)
asking_keeps unknowns role true s e =
    requested_keeps unknowns role s.request (record s { phase = phase_after AskTransition s.phase }) e.request (with_phase unknowns role (phase_after AskTransition s.phase) s e)
asking_keeps unknowns role false s e = e

acked_end : (unknowns : Bool) (role : Role) (s : Phased) → IsEndOf unknowns role s → IsEndOf unknowns role (acknowledged s)
acked_end unknowns role s e = asking_keeps unknowns role (asks_again s) (with_step control_acked s) (step_keeps unknowns role control_acked s tt e)

key_end : (unknowns : Bool) (role : Role) (s : Phased) → role ≡ Peripheral → IsEndOf unknowns role s → IsEndOf unknowns role (key_given s)
key_end unknowns Central s r e = absurd (cc)
key_end unknowns Peripheral s r e =
    step_keeps unknowns Peripheral (Owes StartEncReq) (record s { asks_key = false; phase = phase_starting s.phase }) refl
    (record { table = e.table; request = e.request; kept = e.kept; asks = tt })

no_key_end : (unknowns : Bool) (role : Role) (refuses : Bool) (s : Phased) → role ≡ Peripheral → IsEndOf unknowns role s → IsEndOf unknowns role (refused_if refuses s)
no_key_end unknowns Central refuses s r e = absurd (cc)
no_key_end unknowns Peripheral true s r e =
    step_keeps unknowns Peripheral (Owes (RejectExtInd enc_req_opcode pin_or_key_missing)) (record s { asks_key = false; phase = phase_after Refuse s.phase }) refl
    (record { table = e.table; request = e.request; kept = e.kept; asks = tt })
no_key_end unknowns Peripheral false s r e =
    step_keeps unknowns Peripheral (Owes (TerminateInd pin_or_key_missing)) (record s { asks_key = false }) refl
    (record { table = e.table; request = e.request; kept = e.kept; asks = tt })

asked_at : (role : Role) (asks : Bool) → AsksAt role asks → asks ≡ true → role ≡ Peripheral
asked_at Central true at is = absurd at
asked_at Central false at is = absurd (cc)
asked_at Peripheral asks at is = refl

if_asked_keeps : (unknowns : Bool) (role : Role) (s t : Phased) → IsEndOf unknowns role s → (role ≡ Peripheral → IsEndOf unknowns role t) → IsEndOf unknowns role (if_key_asked t s)
if_asked_keeps unknowns role s t e next = by (s.asks_key && is_open_now s) refl
  where
    by : (b : Bool) → (s.asks_key && is_open_now s) ≡ b → IsEndOf unknowns role (if b then t else s)
    by true is = next (asked_at role s.asks_key e.asks (and_parts s.asks_key (is_open_now s) is).0)
    by false is = e

-- ---- a PDU is taken

-- a PDU that has no meaning is one of the encryption
unknown_cipher : (ctrl : Ctrl) → MayBeUnknown ctrl → is_cipher_opcode (opcode_of ctrl) ≡ true
unknown_cipher (EncReq rand ediv skd_m iv_m) is = refl
unknown_cipher (EncRsp skd_s iv_s) is = refl
unknown_cipher StartEncReq is = refl
unknown_cipher PauseEncReq is = refl
unknown_cipher ctrl is = absurd is

seen_known : (unknowns : Bool) (role : Role) (b : Bool) (read : CtrlRead) → (b ≡ true → unknowns ≡ true) → (b ≡ true → IfKnown read MayBeUnknown) → IsKnownRead unknowns role read
    → IsKnownRead unknowns role (seen_if b read)
seen_known unknowns role true (Known ctrl) lets of is = ap (λ x. x && is_cipher_opcode (opcode_of ctrl)) (lets refl) ∙ unknown_cipher ctrl (of refl)
seen_known unknowns role true (Unknown opcode) lets of is = is
seen_known unknowns role true Bare lets of is = is
seen_known unknowns role false (Known ctrl) lets of is = is
seen_known unknowns role false (Unknown opcode) lets of is = is
seen_known unknowns role false Bare lets of is = is

first_known : (ctrl : Ctrl) → ctrl_class ctrl ≡ Request → IsKnownAt Central ctrl
first_known (VersionInd version company sub) is = refl
first_known (PeripheralFeatureReq features) is = refl
first_known (ConnectionParamReq min max latency timeout periodicity reference offsets) is = refl
first_known (LengthReq rx rx_time tx tx_time) is = refl
first_known (PhyReq tx rx) is = refl
first_known (RejectExtInd opcode code) is = refl
first_known ctrl is = absurd (cc)

answered_keeps : (unknowns : Bool) (role : Role) (slot : ℕ) (kept : Option Ctrl) (s : Phased) → IsKeptBy role kept → IsEndOf unknowns role s → IsEndOf unknowns role (answered_kept slot kept s)
answered_keeps unknowns role slot None s is e = e
answered_keeps unknowns Central slot (Some ctrl) s is e =
    step_keeps unknowns Central (control_takes (Known ctrl) slot true) (knowing (Known ctrl) (record s { kept = None })) (first_known ctrl is)
    (record { table = e.table; request = e.request; kept = tt; asks = e.asks })
answered_keeps unknowns Peripheral slot (Some ctrl) s is e = absurd is

keeps_first : (class : PduClass) (role : Role) (quiet : Bool) → keeps_class class role quiet ≡ true → (class ≡ Request) × (role ≡ Central)
keeps_first Request Central quiet is = (refl, refl)
keeps_first Request Peripheral quiet is = absurd (cc)
keeps_first class role quiet is = absurd (cc)

kept_first : (role : Role) (quiet : Bool) (read : CtrlRead) → keeps_class (class_of_read read) role quiet ≡ true → IsKeptBy role (ctrl_in read)
kept_first Central quiet (Known ctrl) is = (keeps_first (ctrl_class ctrl) Central quiet is).0
kept_first Peripheral quiet (Known ctrl) is = absurd (let h = (keeps_first (ctrl_class ctrl) Peripheral quiet is).1 in cc)
kept_first role quiet (Unknown opcode) is = tt
kept_first role quiet Bare is = tt

-- a PDU without a meaning in its phase comes only where LL_UNKNOWN_RSP may wait
abbrev pub Means : Bool → CtrlRead → Phased → Type 0
Means unknowns read s = is_unknown s.phase (role_now s) (class_of_read read) ≡ true → unknowns ≡ true

module _ (unknowns : Bool) (role : Role) (slot : ℕ) (response : Response) (read : CtrlRead) (s : Phased) (e : IsEndOf unknowns role s)
    (is : IsKnownRead unknowns role read) (means : Means unknowns read s) where
  pub handed_end : IsEndOf unknowns role (handed slot read s)
  handed_end =
      with_phase unknowns role (phase_taking (class_of_read read) s.phase) (with_step (control_takes (seen_as read s) slot (is_quiet_now s)) (knowing read s))
      (step_keeps unknowns role (control_takes (seen_as read s) slot (is_quiet_now s)) (knowing read s) (seen_known unknowns role _ read means (unknown_is s.phase (role_now s) read) is)
      (record { table = e.table; request = e.request; kept = e.kept; asks = e.asks }))

  pub ciphered_end : IsEndOf unknowns role (ciphered response read (handed slot read s))
  ciphered_end =
      ciphered_keeps role (λ x. IsEndOf unknowns role x) (steady unknowns role) response read (handed slot read s) handed_end.table.same_role handed_end

  took_by : (t : Phased) → TookAs slot response read s t → IsEndOf unknowns role t
  took_by t (keeps kept allowed same) =
      subst (λ (x : Phased). IsEndOf unknowns role x) (sym same)
      (record {
        table = e.table;
        request = e.request;
        kept = kept_first role (is_quiet_now s) read (subst (λ (r : Role). keeps_class (class_of_read read) r (is_quiet_now s) ≡ true) e.table.same_role kept);
        asks = e.asks;
      })
  took_by t (hands kept lasts same) =
      let v = ciphered response read (handed slot read s) in
      let h = ciphered_end in
      subst (λ (x : Phased). IsEndOf unknowns role x) (sym same)
      (choice (λ x. IsEndOf unknowns role x) (is_quiet_now v) (answered_kept slot v.kept v) v (answered_keeps unknowns role slot v.kept v h.kept h) h)

  took_end : (took slot response read s).control.ends ≡ None → IsEndOf unknowns role (took slot response read s)
  took_end lasts = took_by (took slot response read s) (took_as slot response read s lasts)

data_end : (unknowns : Bool) (role : Role) (s : Phased) → IsEndOf unknowns role s → (took_data s).control.ends ≡ None → IsEndOf unknowns role (took_data s)
data_end unknowns role s e lasts = by (allows s.phase (role_now s) Data) lasts
  where
    by : (b : Bool) → (if b then s else ended_with mic_failure s).control.ends ≡ None → IsEndOf unknowns role (if b then s else ended_with mic_failure s)
    by true lasts = e
    by false lasts = absurd (cc)

-- ---- each step of an end after which the link has not ended

abbrev pub Comes : Bool → Role → PhasedStep → Phased → Type 0
Comes unknowns role (Takes read slot response) s = IsKnownRead unknowns role read × Means unknowns read s
Comes unknowns role step s = ⊤

moved_end : (unknowns : Bool) (role : Role) (step : PhasedStep) (s : Phased) → Comes unknowns role step s → IsEndOf unknowns role s → (phased_moved step s).control.ends ≡ None
    → IsEndOf unknowns role (phased_moved step s)
moved_end unknowns role (Enters slot) s comes e lasts = entered_keeps_role unknowns role slot s e
moved_end unknowns role (Asks ask) s comes e lasts = step_keeps unknowns role (control_asks ask) s tt e
moved_end unknowns role (Answers answer) s comes e lasts = step_keeps unknowns role (control_answers answer) s tt e
moved_end unknowns role GivesKey s comes e lasts = if_asked_keeps unknowns role s (key_given s) e (λ r. key_end unknowns role s r e)
moved_end unknowns role LacksKey s comes e lasts = if_asked_keeps unknowns role s (key_lacking s) e (λ r. no_key_end unknowns role (may_follow Refuse s.phase) s r e)
moved_end unknowns role (Disconnects reason) s comes e lasts = step_keeps unknowns role (control_disconnects reason) s tt e
moved_end unknowns role (Sends slot) s comes e lasts = step_keeps unknowns role (control_sends slot (is_quiet_now s)) s tt e
moved_end unknowns role SeesAcknowledged s comes e lasts = acked_end unknowns role s e
moved_end unknowns role (Takes read slot response) s comes e lasts = took_end unknowns role slot response read s e comes.0 comes.1 lasts
moved_end unknowns role TakesData s comes e lasts = data_end unknowns role s e lasts

pub step_end : (unknowns : Bool) (role : Role) (step : PhasedStep) (s : Phased) → Comes unknowns role step s → IsEndOf unknowns role s → (phased_after step s).control.ends ≡ None
    → IsEndOf unknowns role (phased_after step s)
step_end unknowns role step s comes e lasts = by (is_none s.control.ends) lasts
  where
    by : (b : Bool) → (if b then phased_moved step s else s).control.ends ≡ None → IsEndOf unknowns role (if b then phased_moved step s else s)
    by true lasts = moved_end unknowns role step s comes e lasts
    by false lasts = e

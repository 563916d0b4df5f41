-- What a step of an end with its phase leaves as it is while the link goes on: its event, its values and its role.
use Rattle.std.specs.Prelude.{IfSome, ⊤}
use Rattle.std.proofs.Common.{◌≡◌, ℕ, ◌<◌, Bool, true, false, List, [], ◌∷◌, ◌++◌, Option, Some, None, is_none, refl, ap, sym, subst, ◌∙◌, arith, if◌then◌else◌}
use Rattle.ble_base.specs.declared.error_codes.ErrCode.{ErrCode}
use Rattle.ble_base.specs.declared.roles.Role.{Role}
use Rattle.ble_base.specs.declared.roles.Role.TheVariants.{Central, Peripheral}
use Rattle.data_pdu.specs.declared.ctrl.Ctrl.{Ctrl}
use Rattle.data_pdu.specs.declared.ctrl.Ctrl.TheVariants.{EncReq, PauseEncReq, PauseEncRsp, StartEncReq, StartEncRsp}
use Rattle.data_pdu.specs.declared.ctrl.CtrlRead.{CtrlRead}
use Rattle.data_pdu.specs.declared.ctrl.CtrlRead.TheVariants.{Known, Unknown}
use Rattle.data_pdu.specs.Layouts.{IsCtrl}
use Rattle.control_octets.specs.Fitting.{FitsOctets}
use Rattle.control_octets.proofs.Outcomes.{opcode_small}
use Rattle.control_octets.proofs.Steps.{stays_fitting}
use Rattle.control_octets.specs.procedures.Beginning.{begin_step}
use Rattle.control_octets.specs.control_model.Control.{Control, Enters as enters, Owes, SeesAcknowledged as sees_acknowledged, Sends as sends, Step, Takes as takes, after, after_all, ended}
use Rattle.control_octets.proofs.control_model.Calls.{open_step}
use Rattle.joint_laws.specs.joint_controls.phased_control.enc_phase.declared.facts.PhaseFacts.{PhaseFacts}
use Rattle.joint_laws.specs.joint_controls.phased_control.enc_phase.declared.facts.PhaseFacts.TheVariants.{Clear}
use Rattle.joint_laws.specs.joint_controls.phased_control.enc_phase.declared.facts.Transition.TheVariants.{Ask as AskTransition, Confirm, Pause, Unlock}
use Rattle.joint_laws.specs.joint_controls.phased_control.enc_phase.Phases.{is_asked, may_follow, phase_after}
use Rattle.joint_laws.specs.joint_controls.phased_control.Phased.{Phased, ask_begun, asking_if, asks_again, encrypting, encrypting_if, is_encrypt, is_quiet_now, request_of, table_entered, with_owed_if, with_step}
use Rattle.joint_laws.specs.joint_controls.phased_control.Steps.{central_answer, control_steps, ctrl_answer, ctrl_if, end_by_phase, ended_if, first_owed, first_owed_if, handed_steps, kept_steps, later_steps, owed_entering, owed_steps, peripheral_answer, read_answer, seen_by_procedures}
use Rattle.joint_laws.specs.joint_controls.phased_control.Taken.{Enters, PhasedStep, Response, SeesAcknowledged, Sends, Takes, TakesData, answered_if_quiet, answered_kept, ciphered, does_keep, ended_with, handed_on, is_allowed, keeping, lacks_room_now, phased_after, response_ctrl, role_now, seen_if}
use Rattle.joint_laws.proofs.joint_controls.phased_control.Agreeing.{lasts_owed}
use Rattle.joint_laws.proofs.joint_controls.phased_control.Answering.{answers}
use Rattle.joint_laws.proofs.joint_controls.phased_control.Moving.{moves_by_steps, open_phased, same_kept}
use Rattle.link_model.specs.Facts.{Facts}
use Rattle.link_model.specs.Setup.{Setup}
use Rattle.link_pairs.specs.Ends.{IsAtRest, IsLaterPdu, phased_of}
use Rattle.link_pairs.proofs.ControlKept.{IsKept, Keeps, keeps_acked, keeps_none, keeps_over, keeps_owed, keeps_sent, keeps_taken, keeps_then, keeps_unknown}
use Rattle.link_pairs.proofs.PhasedEnds.{acked_if, gone_if}

-- ---- the control part

-- the steps that leave the event of an end and whether the link is to end, and whose values fit
abbrev IsSteady : Step → Type 0
IsSteady (takes (Known ctrl) slot quiet) = IsLaterPdu ctrl
IsSteady (takes (Unknown opcode) slot quiet) = opcode < 256
IsSteady (Owes ctrl) = IsLaterPdu ctrl
IsSteady (sends slot quiet) = ⊤
IsSteady sees_acknowledged = ⊤
IsSteady step = ⊥

steady : (step : Step) (c : Control) → IsSteady step → Keeps c (after step c)
steady (takes (Known ctrl) slot quiet) c is = keeps_taken c ctrl slot quiet is.0 is.1
steady (takes (Unknown opcode) slot quiet) c is = keeps_unknown c opcode slot quiet is
steady (Owes ctrl) c is = keeps_owed c ctrl is.0 is.1
steady (sends slot quiet) c is = keeps_sent c slot quiet
steady sees_acknowledged c is = keeps_acked c
steady step c is = absurd is

abbrev AreSteady : List Step → Type 0
AreSteady [] = ⊤
AreSteady (step ∷ steps) = IsSteady step × AreSteady steps

all_steady : (steps : List Step) (c : Control) → AreSteady steps → Keeps c (after_all steps c)
all_steady [] c are = keeps_none c
all_steady (step ∷ steps) c are =
    keeps_then c (after step c) (after_all steps (after step c)) (steady step c are.0) (all_steady steps (after step c) are.1)

steady_joined : (xs ys : List Step) → AreSteady xs → AreSteady ys → AreSteady (xs ++ ys)
steady_joined [] ys first later = later
steady_joined (x ∷ xs) ys first later = (first.0, steady_joined xs ys first.1 later)

or_none : (b : Bool) (xs : List Step) → AreSteady xs → AreSteady (if b then xs else [])
or_none true xs are = are
or_none false xs are = tt

over_if : (code : Option ErrCode) (c d : Control) → Keeps c d → Keeps c (ended_if code d)
over_if None c d keeps = keeps
over_if (Some code) c d keeps = keeps_then c d (ended code d) keeps (keeps_over d code)

control_keeps : (step : PhasedStep) (s : Phased) → s.control.ends ≡ None → AreSteady (control_steps step s) → Keeps s.control (phased_after step s).control
control_keeps step s lasts are =
    subst (Keeps s.control) (sym (moves_by_steps step s lasts))
    (over_if (end_by_phase step s) s.control (after_all (control_steps step s) s.control) (all_steady (control_steps step s) s.control are))

-- ---- what is owed

owed_steady : (owed : Option Ctrl) → IfSome owed IsLaterPdu → AreSteady (owed_steps owed)
owed_steady None is = tt
owed_steady (Some ctrl) is = (is, tt)

some_if : (b : Bool) (owed : Option Ctrl) → IfSome owed IsLaterPdu → IfSome (if b then owed else None) IsLaterPdu
some_if true owed is = is
some_if false owed is = tt

ctrl_if_later : (b : Bool) (ctrl : Ctrl) → IsLaterPdu ctrl → IfSome (ctrl_if b ctrl) IsLaterPdu
ctrl_if_later true ctrl is = is
ctrl_if_later false ctrl is = tt

central_later : (ctrl : Ctrl) (phase : PhaseFacts) → IfSome (central_answer ctrl phase) IsLaterPdu
central_later StartEncReq phase = ctrl_if_later (is_asked phase) StartEncRsp (record { fits = grind arith; six_offsets = tt; range = tt }, refl)
central_later PauseEncRsp phase = ctrl_if_later (may_follow Unlock phase) PauseEncRsp (record { fits = grind arith; six_offsets = tt; range = tt }, refl)
central_later ctrl phase = tt

peripheral_later : (response : Response) → IsCtrl (response_ctrl response) → (ctrl : Ctrl) (phase : PhaseFacts)
    → IfSome (peripheral_answer response ctrl phase) IsLaterPdu
peripheral_later response fits (EncReq rand ediv skd_m iv_m) phase = ctrl_if_later (may_follow AskTransition phase) (response_ctrl response) (fits, refl)
peripheral_later response fits PauseEncReq phase = ctrl_if_later (may_follow Pause phase) PauseEncRsp (record { fits = grind arith; six_offsets = tt; range = tt }, refl)
peripheral_later response fits StartEncRsp phase = ctrl_if_later (may_follow Confirm phase) StartEncRsp (record { fits = grind arith; six_offsets = tt; range = tt }, refl)
peripheral_later response fits ctrl phase = tt

answer_later : (role : Role) (response : Response) → IsCtrl (response_ctrl response) → (ctrl : Ctrl) (phase : PhaseFacts)
    → IfSome (ctrl_answer role response ctrl phase) IsLaterPdu
answer_later Central response fits ctrl phase = central_later ctrl phase
answer_later Peripheral response fits ctrl phase = peripheral_later response fits ctrl phase

-- ---- an end with its phase

-- all that it holds for its control PDUs fits their octets
pub record PhasedFits (s : Phased) : Type 0 where
  pub control : FitsOctets s.control
  pub request : IfSome s.request IsLaterPdu
  pub kept : IfSome s.kept IsLaterPdu

-- an end at rest
pub fits_of : (setup : Setup) (turns : ℕ) (facts : Facts) → IsAtRest setup turns facts → PhasedFits (phased_of facts)
fits_of setup turns facts rests = record { control = rests.fits; request = rests.holds.request; kept = rests.holds.kept }

pub record PhasedKeeps (s t : Phased) : Type 0 where
  pub kept : IsKept s.control t.control
  pub fits : PhasedFits t
  pub role : (role : Role) → role_now s ≡ role → role_now t ≡ role

pub stays_kept : (s : Phased) → PhasedFits s → PhasedKeeps s s
stays_kept s fits = record { kept = (keeps_none s.control).kept; fits = fits; role = λ role is. is }

pub kept_then : (s t u : Phased) → PhasedKeeps s t → PhasedKeeps t u → PhasedKeeps s u
kept_then s t u one two =
    let both : IsKept s.control u.control = record {
      entered = two.kept.entered ∙ one.kept.entered;
      anchor = two.kept.anchor ∙ one.kept.anchor;
      closing = two.kept.closing ∙ one.kept.closing;
    } in
    record { kept = both; fits = two.fits; role = λ role is. two.role role (one.role role is) }

kept_by : (s t : Phased) → PhasedFits s → Keeps s.control t.control → IfSome t.request IsLaterPdu → IfSome t.kept IsLaterPdu → PhasedKeeps s t
kept_by s t fits keeps request kept =
    record {
      kept = keeps.kept;
      fits = record { control = keeps.fits fits.control; request = request; kept = kept };
      role = keeps.role;
    }

-- ---- its last PDU is acknowledged

owed_held : (owed : Option Ctrl) (s : Phased) → ((with_owed_if owed s).request ≡ s.request) × ((with_owed_if owed s).kept ≡ s.kept)
owed_held None s = (refl, refl)
owed_held (Some ctrl) s = (refl, refl)

asking_held : (b : Bool) (s : Phased) → ((asking_if b s).request ≡ s.request) × ((asking_if b s).kept ≡ s.kept)
asking_held true s = owed_held s.request _
asking_held false s = (refl, refl)

pub acked_keeps : (s : Phased) → s.control.ends ≡ None → PhasedFits s → PhasedKeeps s (phased_after SeesAcknowledged s)
acked_keeps s lasts fits =
    let held = asking_held (asks_again s) (with_step sees_acknowledged s) in
    let next = phased_after SeesAcknowledged s in
    kept_by s next fits
    (control_keeps SeesAcknowledged s lasts (tt, owed_steady _ (some_if (asks_again s) s.request fits.request)))
    (open_phased (λ (t : Phased). IfSome t.request IsLaterPdu) SeesAcknowledged s lasts
    (subst (λ (o : Option Ctrl). IfSome o IsLaterPdu) (sym held.0) fits.request))
    (open_phased (λ (t : Phased). IfSome t.kept IsLaterPdu) SeesAcknowledged s lasts
    (subst (λ (o : Option Ctrl). IfSome o IsLaterPdu) (sym held.1) fits.kept))

pub acked_keeps_if : (acks : Bool) (s : Phased) → s.control.ends ≡ None → PhasedFits s → PhasedKeeps s (acked_if acks s)
acked_keeps_if true s lasts fits = acked_keeps s lasts fits
acked_keeps_if false s lasts fits = stays_kept s fits

-- ---- it sends a control PDU

pub sent_keeps : (s : Phased) (slot : ℕ) → s.control.ends ≡ None → PhasedFits s → PhasedKeeps s (phased_after (Sends slot) s)
sent_keeps s slot lasts fits =
    kept_by s (phased_after (Sends slot) s) fits (control_keeps (Sends slot) s lasts (tt, tt))
    (open_phased (λ (t : Phased). IfSome t.request IsLaterPdu) (Sends slot) s lasts fits.request)
    (open_phased (λ (t : Phased). IfSome t.kept IsLaterPdu) (Sends slot) s lasts fits.kept)

pub gone_keeps : (goes : Bool) (s : Phased) (slot : ℕ) → s.control.ends ≡ None → PhasedFits s → PhasedKeeps s (gone_if goes slot s)
gone_keeps true s slot lasts fits = sent_keeps s slot lasts fits
gone_keeps false s slot lasts fits = stays_kept s fits

-- ---- it takes data

data_held : (b : Bool) (code : ℕ) (s : Phased)
    → ((if b then s else ended_with code s).request ≡ s.request) × ((if b then s else ended_with code s).kept ≡ s.kept)
data_held true code s = (refl, refl)
data_held false code s = (refl, refl)

pub data_keeps : (s : Phased) → s.control.ends ≡ None → PhasedFits s → PhasedKeeps s (phased_after TakesData s)
data_keeps s lasts fits =
    kept_by s (phased_after TakesData s) fits (control_keeps TakesData s lasts tt)
    (open_phased (λ (t : Phased). IfSome t.request IsLaterPdu) TakesData s lasts
    (subst (λ (o : Option Ctrl). IfSome o IsLaterPdu) (sym (data_held _ _ s).0) fits.request))
    (open_phased (λ (t : Phased). IfSome t.kept IsLaterPdu) TakesData s lasts
    (subst (λ (o : Option Ctrl). IfSome o IsLaterPdu) (sym (data_held _ _ s).1) fits.kept))

-- ---- it takes a control PDU that does not end the link

module _ (slot : ℕ) (response : Response) (ctrl : Ctrl) (later : IsLaterPdu ctrl) (words : IsCtrl (response_ctrl response)) (s : Phased) (fits : PhasedFits s) where
  abbrev read : CtrlRead
  read = Known ctrl

  seen_steady : (unknown quiet : Bool) → IsSteady (takes (seen_if unknown (Known ctrl)) slot quiet)
  seen_steady true quiet = opcode_small ctrl
  seen_steady false quiet = later

  kept_steady : (kept : Option Ctrl) → IfSome kept IsLaterPdu → AreSteady (kept_steps slot kept)
  kept_steady None is = tt
  kept_steady (Some other) is = (is, tt)

  later_steady : (t : Phased) → t.kept ≡ s.kept → AreSteady (later_steps slot response read t)
  later_steady t same =
      steady_joined (owed_steps (read_answer (role_now t) response read t.phase)) _
      (owed_steady _ (answer_later (role_now t) response words ctrl t.phase))
      (or_none (is_quiet_now (ciphered response read t)) (kept_steps slot t.kept)
      (kept_steady t.kept (subst (λ (o : Option Ctrl). IfSome o IsLaterPdu) (sym same) fits.kept)))

  handed_steady : AreSteady (handed_steps slot response read s)
  handed_steady = (
    seen_steady _ (is_quiet_now s),
    or_none (is_none (seen_by_procedures read slot s).control.ends) (later_steps slot response read (seen_by_procedures read slot s))
        (later_steady (seen_by_procedures read slot s) refl),
  )

  taken_steady : (allowed keeps full : Bool)
      → AreSteady (if allowed then (if keeps then [] else (if full then [] else handed_steps slot response read s)) else [])
  taken_steady true true full = tt
  taken_steady true false true = tt
  taken_steady true false false = handed_steady
  taken_steady false keeps full = tt

  -- the request stays; the PDU that was kept stays or goes, or this one is kept
  abbrev Holds : Phased → Type 0
  Holds t = IfSome t.request IsLaterPdu × IfSome t.kept IsLaterPdu

  holds_kept : (kept : Option Ctrl) (t : Phased) → Holds t → Holds (answered_kept slot kept t)
  holds_kept None t is = is
  holds_kept (Some other) t is = (is.0, tt)

  holds_quiet : (b : Bool) (t : Phased) → Holds t → Holds (if b then answered_kept slot t.kept t else t)
  holds_quiet true t is = holds_kept t.kept t is
  holds_quiet false t is = is

  same_request : (t : Phased) → (ciphered response read t).request ≡ t.request
  same_request t = ap (λ (u : Phased). u.request) (answers t response read)

  holds_ciphered : (t : Phased) → Holds t → Holds (ciphered response read t)
  holds_ciphered t is = (
    subst (λ (o : Option Ctrl). IfSome o IsLaterPdu) (sym (same_request t)) is.0,
    subst (λ (o : Option Ctrl). IfSome o IsLaterPdu) (sym (same_kept response read t)) is.1,
  )

  holds_on : (b : Bool) (t : Phased) → Holds t → Holds (if b then answered_if_quiet slot (ciphered response read t) else t)
  holds_on true t is = holds_quiet (is_quiet_now (ciphered response read t)) (ciphered response read t) (holds_ciphered t is)
  holds_on false t is = is

  holds_taken : (allowed keeps full : Bool) (code other : ℕ)
      → Holds (if allowed then (if keeps then keeping read s else (if full then ended_with code s else handed_on slot response read s)) else ended_with other s)
  holds_taken true true full code other = (fits.request, later)
  holds_taken true false true code other = (fits.request, fits.kept)
  holds_taken true false false code other =
      holds_on (is_none (seen_by_procedures read slot s).control.ends) (seen_by_procedures read slot s) (fits.request, fits.kept)
  holds_taken false keeps full code other = (fits.request, fits.kept)

  pub taken_keeps : s.control.ends ≡ None → PhasedKeeps s (phased_after (Takes (Known ctrl) slot response) s)
  taken_keeps lasts =
      let holds = holds_taken (is_allowed read s) (does_keep read s) (lacks_room_now read s) _ _ in
      kept_by s (phased_after (Takes (Known ctrl) slot response) s) fits
      (control_keeps (Takes (Known ctrl) slot response) s lasts (taken_steady (is_allowed read s) (does_keep read s) (lacks_room_now read s)))
      (open_phased (λ (t : Phased). IfSome t.request IsLaterPdu) (Takes (Known ctrl) slot response) s lasts holds.0)
      (open_phased (λ (t : Phased). IfSome t.kept IsLaterPdu) (Takes (Known ctrl) slot response) s lasts holds.1)

-- ---- it enters an event, and an encryption may begin

module _ (s : Phased) (slot : ℕ) (lasts : s.control.ends ≡ None) (begun : IfSome (request_of (ask_begun (table_entered s) (is_quiet_now s))) IsLaterPdu) where
  abbrev request : Option Ctrl
  request = request_of (ask_begun (table_entered s) (is_quiet_now s))

  abbrev in_event : Control
  in_event = after (enters slot (is_quiet_now s)) s.control

  abbrev owed : List Step
  owed = owed_steps (owed_entering slot s)

  first_later : (phase : PhaseFacts) → IfSome (first_owed phase request) IsLaterPdu
  first_later Clear = begun
  first_later other = (record { fits = grind arith; six_offsets = tt; range = tt }, refl)

  owed_later : (b : Bool) (phase : PhaseFacts) → IfSome (first_owed_if b phase request) IsLaterPdu
  owed_later true phase = first_later phase
  owed_later false phase = tt

  entered_steps : (phased_after (Enters slot) s).control ≡ after_all owed in_event
  entered_steps = moves_by_steps (Enters slot) s lasts

  -- what is queued then leaves the event and its parameters
  pub entered_keeps : Keeps in_event (phased_after (Enters slot) s).control
  entered_keeps =
      subst (Keeps in_event) (sym entered_steps)
      (all_steady owed in_event (owed_steady (owed_entering slot s) (owed_later _ s.phase)))

  pub entered_lasts : (phased_after (Enters slot) s).control.ends ≡ None
  entered_lasts =
      ap (λ (c : Control). c.ends) entered_steps
      ∙ lasts_owed (owed_entering slot s) in_event (open_step (λ (d : Control). d.ends ≡ None) (enters slot (is_quiet_now s)) s.control lasts lasts)

  begun_held : (phase : PhaseFacts) (t : Phased) → IfSome t.request IsLaterPdu → IfSome t.kept IsLaterPdu
      → IfSome (encrypting phase t).request IsLaterPdu × IfSome (encrypting phase t).kept IsLaterPdu
  begun_held Clear t later kept =
      let held = owed_held t.request (record t { phase = phase_after AskTransition t.phase }) in (
        subst (λ (o : Option Ctrl). IfSome o IsLaterPdu) (sym held.0) later,
        subst (λ (o : Option Ctrl). IfSome o IsLaterPdu) (sym held.1) kept,
      )
  begun_held other t later kept = (later, kept)

  begun_if : (b : Bool) (t : Phased) → IfSome t.request IsLaterPdu → IfSome t.kept IsLaterPdu
      → IfSome (encrypting_if b request t).request IsLaterPdu × IfSome (encrypting_if b request t).kept IsLaterPdu
  begun_if true t later kept = begun_held t.phase (record t { request = request }) begun kept
  begun_if false t later kept = (later, kept)

  pub entered_fits : PhasedFits s → PhasedFits (phased_after (Enters slot) s)
  entered_fits fits =
      let held = begun_if (is_encrypt (begin_step (table_entered s) slot (is_quiet_now s)).1) (with_step (enters slot (is_quiet_now s)) s) fits.request fits.kept in
      record {
        control = entered_keeps.fits (stays_fitting s.control (enters slot (is_quiet_now s)) fits.control tt);
        request = open_phased (λ (t : Phased). IfSome t.request IsLaterPdu) (Enters slot) s lasts held.0;
        kept = open_phased (λ (t : Phased). IfSome t.kept IsLaterPdu) (Enters slot) s lasts held.1;
      }

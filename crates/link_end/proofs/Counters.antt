-- What a control PDU of the peer does to the procedures does not depend on the counter of what is opened.
use Rattle.std.proofs.Common.{◌≡◌, ℕ, Bool, true, false, if◌then◌else◌, Option, Some, None, refl, sym, ap, ◌∙◌}
use Rattle.ble_base.specs.declared.roles.Role.{Role}
use Rattle.ble_base.specs.declared.roles.Role.TheVariants.{Central, Peripheral}
use Rattle.data_pdu.specs.declared.ctrl.Ctrl.{Ctrl}
use Rattle.data_pdu.specs.declared.ctrl.Ctrl.TheVariants.{EncReq, EncRsp, PauseEncReq, PauseEncRsp, StartEncReq, StartEncRsp}
use Rattle.data_pdu.specs.declared.ctrl.CtrlRead.{CtrlRead}
use Rattle.data_pdu.specs.declared.ctrl.CtrlRead.TheVariants.{Bare, Known, Unknown}
use Rattle.control_end.specs.declared.answers.Taken.{Taken}
use Rattle.control_end.specs.Answers.{nothing_taken}
use Rattle.link_model.specs.phased_end.enc_phase.declared.classes.PduClass.{PduClass}
use Rattle.link_model.specs.phased_end.enc_phase.declared.classes.PduClass.TheVariants.{Refusal}
use Rattle.link_model.specs.phased_end.enc_phase.declared.facts.Transition.{Transition}
use Rattle.link_model.specs.phased_end.enc_phase.declared.facts.Transition.TheVariants.{Ask, Confirm, Pause, Refuse, Unlock}
use Rattle.link_model.specs.phased_end.enc_phase.Phases.{is_asked, may_follow}
use Rattle.link_model.specs.phased_end.enc_phase.Sealing.{EncEnd, after_start, after_transition}
use Rattle.link_model.specs.phased_end.enc_phase.Taking.{ctrl_class}
use Rattle.procedures.specs.procedure_stages.Closing.{is_open}
use Rattle.link_model.specs.phased_end.keyed_control.declared.material.Response.{Response}
use Rattle.link_model.specs.phased_end.keyed_control.Keyed.{session_of}
use Rattle.link_model.specs.phased_end.Answers.{quiet_now}
use Rattle.link_model.specs.phased_end.Held.{HeldKeyed}
use Rattle.link_model.specs.phased_end.Moves.{lasts, moving, owing}
use Rattle.link_model.specs.phased_end.Taking.{answered, answering, answering_at, answering_at_central, answering_at_peripheral, asking, handed_keyed, handed_taken, handing, is_handed, is_refused, kept_taken, kept_taken_if_quiet, nothing_keyed, refusing, starting, taken_keyed}
use Rattle.link_model.specs.phased_end.declared.taking.TakenKeyed.{TakenKeyed}
use Rattle.link_model.specs.Payload.{end_accepting}

-- an end but for that counter
abbrev uncounted : EncEnd → EncEnd
uncounted e = record e { opened = 0 }

abbrev pub blind : HeldKeyed → HeldKeyed
blind h = record h { end = uncounted h.end }

abbrev IsBlind : (HeldKeyed → HeldKeyed) → Type 0
IsBlind f = (h : HeldKeyed) → blind (f h) ≡ blind (f (blind h))

transition_blind : (transition : Transition) (e : EncEnd) → uncounted (after_transition transition e) ≡ uncounted (after_transition transition (uncounted e))
transition_blind Ask e = refl
transition_blind Refuse e = refl
transition_blind Confirm e = refl
transition_blind Pause e = refl
transition_blind Unlock e = refl

moving_blind : (transition : Transition) → IsBlind (moving transition)
moving_blind transition h = by (may_follow transition h.end.phase)
  where
    by : (b : Bool) → blind (record h { end = (if b then after_transition transition h.end else h.end) })
        ≡ blind (record h { end = (if b then after_transition transition (uncounted h.end) else uncounted h.end) })
    by true = ap (λ (e : EncEnd). record h { end = e }) (transition_blind transition h.end)
    by false = refl

owing_blind : (ctrl : Ctrl) (one other : HeldKeyed) → blind one ≡ blind other → blind (owing ctrl one) ≡ blind (owing ctrl other)
owing_blind ctrl one other same = ap (λ (h : HeldKeyed). owing ctrl h) same

if_blind : (b : Bool) (one other h : HeldKeyed) → blind one ≡ blind other → blind (if b then one else h) ≡ blind (if b then other else blind h)
if_blind true one other h same = same
if_blind false one other h same = refl

answering_blind : (transition : Transition) (ctrl : Ctrl) → IsBlind (answering transition ctrl)
answering_blind transition ctrl h =
    if_blind (may_follow transition h.end.phase) (owing ctrl (moving transition h)) (owing ctrl (moving transition (blind h))) h
    (owing_blind ctrl (moving transition h) (moving transition (blind h)) (moving_blind transition h))

starting_blind : IsBlind starting
starting_blind h = by (is_asked h.end.phase)
  where
    by : (b : Bool)
        → blind (if b then owing StartEncRsp (record h { end = (if b then after_start (session_of h.material) h.end else h.end) }) else h)
        ≡ blind (if b then owing StartEncRsp (record h { end = (if b then after_start (session_of h.material) (uncounted h.end) else uncounted h.end) }) else blind h)
    by true = refl
    by false = refl

refusing_blind : (pdu : PduClass) (refused : Bool) → IsBlind (refusing pdu refused)
refusing_blind Refusal true h = moving_blind Refuse h
refusing_blind Refusal false h = refl
refusing_blind pdu true h = refl
refusing_blind pdu false h = refl

central_blind : (refused : Bool) (ctrl : Ctrl) → IsBlind (answering_at_central refused ctrl)
central_blind refused StartEncReq h = starting_blind h
central_blind refused StartEncRsp h = moving_blind Confirm h
central_blind refused PauseEncRsp h = answering_blind Unlock PauseEncRsp h
central_blind refused ctrl h = refusing_blind (ctrl_class ctrl) refused h

asking_blind : (skd_m iv_m : ℕ) (response : Response) → IsBlind (asking skd_m iv_m response)
asking_blind skd_m iv_m response h = by (may_follow Ask h.end.phase)
  where
    asked : EncEnd → HeldKeyed
    asked e =
        record h {
          end = e;
          asks_key = is_open h.control.table.closing;
          material =
              record h.material { skd_m = skd_m; iv_m = iv_m; skd_s = response.skd_s; iv_s = response.iv_s };
        }

    by : (b : Bool)
        → blind (if b then owing (EncRsp response.skd_s response.iv_s) (asked (if b then after_transition Ask h.end else h.end)) else h)
        ≡ blind (if b then owing (EncRsp response.skd_s response.iv_s) (asked (if b then after_transition Ask (uncounted h.end) else uncounted h.end)) else blind h)
    by true = refl
    by false = refl

peripheral_blind : (response : Response) (ctrl : Ctrl) → IsBlind (answering_at_peripheral response ctrl)
peripheral_blind response (EncReq rand ediv skd_m iv_m) h = asking_blind skd_m iv_m response h
peripheral_blind response PauseEncReq h = answering_blind Pause PauseEncRsp h
peripheral_blind response StartEncRsp h = answering_blind Confirm StartEncRsp h
peripheral_blind response PauseEncRsp h = moving_blind Unlock h
peripheral_blind response ctrl h = refl

at_blind : (role : Role) (refused : Bool) (response : Response) (ctrl : Ctrl) → IsBlind (answering_at role refused response ctrl)
at_blind Central refused response ctrl h = central_blind refused ctrl h
at_blind Peripheral refused response ctrl h = peripheral_blind response ctrl h

answered_blind : (refused : Bool) (response : Response) (read : CtrlRead) → IsBlind (answered refused response read)
answered_blind refused response (Known ctrl) h = at_blind h.end.role refused response ctrl h
answered_blind refused response (Unknown opcode) h = refl
answered_blind refused response Bare h = refl

-- ---- what the procedures give

-- what was kept is answered by the phase and the control part
kept_blind : (slot : ℕ) (one other : HeldKeyed) → blind one ≡ blind other → kept_taken_if_quiet slot one ≡ kept_taken_if_quiet slot other
kept_blind slot one other same = alone one ∙ ap (λ (h : HeldKeyed). kept_taken_if_quiet slot h) same ∙ sym (alone other)
  where
    of : (kept : Option Ctrl) (h : HeldKeyed) → kept_taken slot kept h ≡ kept_taken slot kept (blind h)
    of None h = refl
    of (Some ctrl) h = refl

    alone : (h : HeldKeyed) → kept_taken_if_quiet slot h ≡ kept_taken_if_quiet slot (blind h)
    alone h = ap (λ (t : Taken). if quiet_now h then t else nothing_taken) (of h.kept h)

handed_blind : (slot : ℕ) (response : Response) (read : CtrlRead) (h : HeldKeyed)
    → handed_keyed slot response read h ≡ handed_keyed slot response read (blind h)
handed_blind slot response read h =
    let refused = is_refused (handed_taken slot read h).refused in
    ap (λ (kept : Taken). record { taken = handed_taken slot read h; kept = (if lasts (handing slot read h) then kept else nothing_taken) })
    (kept_blind slot (answered refused response read (handing slot read h)) (answered refused response read (handing slot read (blind h)))
    (answered_blind refused response read (handing slot read h)))

taken_blind : (slot : ℕ) (response : Response) (read : CtrlRead) (h : HeldKeyed)
    → taken_keyed slot response read h ≡ taken_keyed slot response read (blind h)
taken_blind slot response read h =
    ap (λ (t : TakenKeyed). if is_handed read h then t else nothing_keyed) (handed_blind slot response read h)

-- a counter that is taken changes neither that nor whether the procedures see the PDU
abbrev pub counting : Bool → HeldKeyed → HeldKeyed
counting counts h = record h { end = end_accepting counts h.end }

pub taken_counted : (counts : Bool) (slot : ℕ) (response : Response) (read : CtrlRead) (h : HeldKeyed)
    → taken_keyed slot response read (counting counts h) ≡ taken_keyed slot response read h
taken_counted true slot response read h =
    taken_blind slot response read (counting true h) ∙ sym (taken_blind slot response read h)
taken_counted false slot response read h = refl

pub handed_counted : (counts : Bool) (read : CtrlRead) (h : HeldKeyed) → is_handed read (counting counts h) ≡ is_handed read h
handed_counted true read h = refl
handed_counted false read h = refl

pub phase_counted : (counts : Bool) (h : HeldKeyed) → (counting counts h).end.phase ≡ h.end.phase
phase_counted true h = refl
phase_counted false h = refl

-- A control PDU of the peer is taken: what becomes of the track, and with which code the link ends.
use Rattle.std.proofs.Common.{◌&&◌, nat_le, is_some, ◌≡◌, ◌⊎◌, inl, inr, ℕ, ◌==◌, Bool, true, false, not, if◌then◌else◌, Option, Some, None, refl, ap, ◌∙◌}
use Rattle.ble_base.specs.ErrorCodes.{instant_passed}
use Rattle.ble_base.specs.declared.error_codes.ErrCode.{ErrCode}
use Rattle.ble_base.specs.declared.roles.Role.{Role}
use Rattle.ble_base.specs.declared.roles.Role.TheVariants.{Peripheral}
use Rattle.data_pdu.specs.declared.ctrl.Ctrl.{Ctrl}
use Rattle.data_pdu.specs.declared.ctrl.CtrlRead.{CtrlRead}
use Rattle.data_pdu.specs.declared.ctrl.CtrlRead.TheVariants.{Known}
use Rattle.joint_controls.specs.procedure_stages.Closing.{is_open}
use Rattle.joint_controls.specs.procedure_stages.Queue.{waiting_in}
use Rattle.instants.specs.declared.indications.Indication.{Indication}
use Rattle.instants.specs.Track.{TrackFacts, track_after_take}
use Rattle.joint_controls.specs.procedure_stages.declared.steps.Step.{Step as TableStep}
use Rattle.joint_controls.specs.procedure_stages.Kinds.{role_of}
use Rattle.joint_controls.specs.procedures.Table.{TableFacts}
use Rattle.joint_controls.specs.procedures.Taking.{facts_with, lacks_room, outcome_of}
use Rattle.joint_controls.specs.control_model.Control.{Control, Takes, after, ended, indicated_by, is_to_come, taken, took}
use Rattle.joint_controls.proofs.control_model.Calls.{open_step, settled_as, taken_by_step}
use Rattle.joint_parameters.specs.Indications.{EndsLate, indication_in}
use Rattle.joint_parameters.proofs.Outcomes.{IsCollision, IsOther, direct, indication_by, reads}

-- an indication is read as one whose instant has passed
abbrev pub is_over : TrackFacts → Option Indication → Bool
is_over t None = false
is_over t (Some indication) = not (is_to_come t indication)

abbrev pub track_with : Option Indication → TrackFacts → TrackFacts
track_with None t = t
track_with (Some indication) t = track_after_take t indication

-- the link ends with a code, and the track stays
pub record EndsAs (i : Option Indication) (c d : Control) : Type 0 where
  pub code : ErrCode
  pub is : d.ends ≡ Some code
  pub track : d.track ≡ c.track
  pub over : (code.0 == instant_passed) ≡ true → is_over c.track i ≡ true

-- it goes on, and the indication is followed
pub record GoesWith (i : Option Indication) (c d : Control) : Type 0 where
  pub lasts : d.ends ≡ None
  pub track : d.track ≡ track_with i c.track
  pub in_time : is_over c.track i ≡ false

abbrev pub TakenAs : Option Indication → Control → Control → Type 0
TakenAs i c d = EndsAs i c d ⊎ GoesWith i c d

pub not_both : {X : Type 0} (b : Bool) → b ≡ false → b ≡ true → X
not_both true is1 is2 = absurd (cc)
not_both false is1 is2 = absurd (cc)

module _ (i : Option Indication) (c : Control) (lasts : c.ends ≡ None) where
  pub ends_other : (code : ErrCode) → IsOther (Some code) → TakenAs i c (ended code c)
  ends_other code other = inl (record { code = code; is = refl; track = refl; over = λ h. not_both (code.0 == instant_passed) other h })

by_indication : (i : Option Indication) (c : Control) (g : TableFacts) → c.ends ≡ None → TakenAs i c (taken g None i c)
by_indication None c g lasts = inr (record { lasts = lasts; track = refl; in_time = refl })
by_indication (Some indication) c g lasts = by (is_to_come c.track indication) refl
  where
    by : (b : Bool) → is_to_come c.track indication ≡ b
        → TakenAs (Some indication) c (if b then record c { table = g; track = track_after_take c.track indication } else ended (record { 0 = instant_passed }) c)
    by true is = inr (record { lasts = lasts; track = refl; in_time = ap (λ (b : Bool). not b) is })
    by false is = inl (record { code = record { 0 = instant_passed }; is = refl; track = refl; over = λ h. ap (λ (b : Bool). not b) is })

by_ends : (i : Option Indication) (c : Control) (full : Bool) (ends : Option ErrCode) (g : TableFacts) (step : TableStep) → c.ends ≡ None → step.ends ≡ ends
    → IsOther ends → (ends ≡ None → indicated_by step.effect ≡ i) → TakenAs i c (taken_by_step (settled_as full ends c.table g step) c)
by_ends i c true ends g step lasts is other hands = ends_other i c lasts _ refl
by_ends i c false (Some code) g step lasts is other hands = rw is (ends_other i c lasts code other)
by_ends i c false None g step lasts is other hands = rw (is, hands refl) (by_indication i c g lasts)

took_as : (c : Control) (read : CtrlRead) (slot : ℕ) (quiet : Bool) → c.ends ≡ None
    → TakenAs (indication_by (role_of c.table.progress) read) c (took read slot quiet c)
took_as c read slot quiet lasts =
    let o = outcome_of c.table quiet read in
    let r = reads c.table quiet read in
    by_ends (indication_by (role_of c.table.progress) read) c (lacks_room c.table o) o.step.ends (facts_with c.table slot o) o.step lasts refl r.code r.hands

pub takes_as : (c : Control) (read : CtrlRead) (slot : ℕ) (quiet : Bool) → c.ends ≡ None
    → TakenAs (indication_by (role_of c.table.progress) read) c (after (Takes read slot quiet) c)
takes_as c read slot quiet lasts =
    open_step (TakenAs (indication_by (role_of c.table.progress) read) c) (Takes read slot quiet) c lasts (took_as c read slot quiet lasts)

-- ---- an instant that has passed ends the link, unless a collision does

late_by : (i : Option Indication) (c : Control) (full : Bool) (ends : Option ErrCode) (g : TableFacts) (step : TableStep) → c.ends ≡ None → step.ends ≡ ends
    → full ≡ false → IsCollision ends → (ends ≡ None → indicated_by step.effect ≡ i) → is_over c.track i ≡ true
    → EndsLate (taken_by_step (settled_as full ends c.table g step) c).ends
late_by i c true ends g step lasts is room collides hands over = absurd (cc)
late_by i c false (Some code) g step lasts is room collides hands over = rw is (inr (inr collides))
late_by i c false None g step lasts is room collides hands over = rw (is, hands refl) (by i over)
  where
    by : (i : Option Indication) → is_over c.track i ≡ true → EndsLate (taken g None i c).ends
    by None h = absurd (cc)
    by (Some indication) h = by_test (is_to_come c.track indication) h
      where
        by_test : (b : Bool) → not b ≡ true
            → EndsLate (if b then record c { table = g; track = track_after_take c.track indication } else ended (record { 0 = instant_passed }) c).ends
        by_test true k = absurd (cc)
        by_test false k = inl refl

and_false : (a : Bool) → (a && false) ≡ false
and_false true = refl
and_false false = refl

pub late_end : (c : Control) (ctrl : Ctrl) (slot : ℕ) (quiet : Bool) → c.ends ≡ None → role_of c.table.progress ≡ Peripheral
    → is_over c.track (indication_in ctrl) ≡ true → EndsLate (after (Takes (Known ctrl) slot quiet) c).ends
late_end c ctrl slot quiet lasts role over =
    let o = outcome_of c.table quiet (Known ctrl) in
    let r = reads c.table quiet (Known ctrl) in
    let d = direct c.table quiet ctrl role (over_some c.track (indication_in ctrl) over) in
    let room : lacks_room c.table o ≡ false =
    ap (λ (b : Bool). (is_open c.table.closing && nat_le 16 (waiting_in c.table.queue)) && b) d.room
    ∙ and_false (is_open c.table.closing && nat_le 16 (waiting_in c.table.queue)) in
    open_step (λ (e : Control). EndsLate e.ends) (Takes (Known ctrl) slot quiet) c lasts
    (late_by (indication_in ctrl) c (lacks_room c.table o) o.step.ends (facts_with c.table slot o) o.step lasts refl room d.ends
    (λ goes. r.hands goes ∙ ap (λ (x : Role). indication_by x (Known ctrl)) role) over)
  where
    over_some : (t : TrackFacts) (i : Option Indication) → is_over t i ≡ true → is_some i ≡ true
    over_some t None is = absurd (cc)
    over_some t (Some indication) is = refl

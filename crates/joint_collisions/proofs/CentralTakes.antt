-- A central takes a PDU, and what it kept, as joint runs of the procedures that exclude each other see it.
use Rattle.std.proofs.Common.{◌≡◌, inl, inr, ℕ, Bool, true, false, if◌then◌else◌, Option, Some, None, is_none, refl, sym, ap, subst, ◌∙◌, arith}
use Rattle.ble_base.specs.ErrorCodes.{memory_capacity_exceeded, mic_failure}
use Rattle.ble_base.specs.declared.error_codes.ErrCode.{ErrCode}
use Rattle.ble_base.specs.declared.roles.Role.{Role}
use Rattle.ble_base.specs.declared.roles.Role.TheVariants.{Central as central_role, Peripheral as peripheral_role}
use Rattle.data_pdu.specs.declared.ctrl.Ctrl.{Ctrl}
use Rattle.data_pdu.specs.declared.ctrl.Ctrl.TheVariants.{TerminateInd}
use Rattle.data_pdu.specs.declared.ctrl.CtrlRead.{CtrlRead}
use Rattle.data_pdu.specs.declared.ctrl.CtrlRead.TheVariants.{Known}
use Rattle.joint_controls.specs.enc_phase.declared.classes.PduClass.{PduClass}
use Rattle.joint_controls.specs.enc_phase.declared.classes.PduClass.TheVariants.{Request}
use Rattle.joint_controls.specs.enc_phase.Taking.{allows, ctrl_class, is_unknown}
use Rattle.exclusive_stages.specs.declared.pdus.Pdu.{Pdu}
use Rattle.exclusive_stages.specs.declared.stages.CentralStage.TheVariants.{Idle}
use Rattle.exclusive_stages.specs.Kinds.{central_kind}
use Rattle.instants.specs.Track.{TrackFacts, event_of}
use Rattle.collision_steps.specs.procedure_values.declared.drafts.Outgoing.{Outgoing}
use Rattle.collision_steps.specs.procedure_stages.Exclusive.{pdu_of_outgoing}
use Rattle.collision_steps.specs.procedure_stages.declared.stages.Central.{Central}
use Rattle.collision_steps.specs.procedure_stages.declared.stages.Progress.TheVariants.{Central as central}
use Rattle.collision_steps.specs.procedure_stages.Kinds.{role_of}
use Rattle.collisions.specs.declared.central.Central.{Central as CentralPdus}
use Rattle.collisions.specs.declared.joint.End.{End}
use Rattle.collisions.specs.declared.joint.End.TheVariants.{Collided, Open}
use Rattle.collisions.specs.declared.joint.Way.{Way}
use Rattle.collisions.specs.declared.joint.Way.TheVariants.{Clear, OnAir, Taken}
use Rattle.collisions.specs.JointRun.{is_first, is_taken}
use Rattle.collision_steps.specs.Answers.{stops_run}
use Rattle.collision_steps.specs.CentralPart.{answer_to, central_of, step_of_read}
use Rattle.joint_controls.specs.control_model.Control.{Control, Owes, Takes, after}
use Rattle.joint_controls.specs.control_model.Waits.{EndsByCollision}
use Rattle.joint_controls.proofs.control_model.Calls.{open_step}
use Rattle.joint_controls.specs.phased_control.Phased.{Phased, is_quiet_now, with_owed}
use Rattle.joint_controls.specs.phased_control.Taken.{Response, answered_if_quiet, answered_kept, ciphered, does_keep, ended_with, handed_on, is_allowed, keeping, keeps_class, knowing, lacks_room_now, seen_if, took, took_allowed, with_phase_taking}
use Rattle.joint_controls.specs.Ends.{IsSentAs}
use Rattle.joint_controls.specs.Joint.{is_terminate}
use Rattle.joint_controls.proofs.Keeping.{choice, ciphered_keeps_end}
use Rattle.joint_collisions.specs.Facts.{fits_up}
use Rattle.joint_collisions.proofs.Alone.{CentralKnown}
use Rattle.joint_collisions.specs.Views.{first_part, kept_part, waits_part, way_if}
use Rattle.joint_collisions.proofs.Answers.{IsCollided, Means, ReadAs, means_none, means_one, read_as}
use Rattle.joint_collisions.proofs.CentralSteps.{SeenAt, is_central, owes, passed_kept, view_at}
use Rattle.joint_collisions.proofs.Meanings.{first_means, up_kept, up_means}
use Rattle.joint_collisions.proofs.Reaching.{Seen, central_takes, keeps, takes_kept}

-- ---- a PDU is read

-- what a PDU that is read leaves of the view
view_read : (p : Control) (down up : Way) (kept : Option Pdu) (c d : Control) (answer : CentralPdus × End) → ReadAs c d answer → d.ends ≡ None
    → Seen (record (view_at p down up kept c) { central = answer.0 }) → SeenAt p down up kept d
view_read p down up kept c d answer r goes seen =
    let part = (r.goes goes).1 in
    let passed = passed_kept c.table.progress d.table.progress r.same.last in
    let event : event_of d.track ≡ event_of c.track = ap event_of r.same.track in
    let waits : waits_part d.track.waits ≡ waits_part c.track.waits = ap (λ (t : TrackFacts). waits_part t.waits) r.same.track in
    record { role = r.same.role; seen = rw (part, passed, event, waits) seen }

not_open : (end : End) → end ≡ Open → IsCollided end → ⊥
not_open end is met = absurd (let both : Open ≡ Collided met.reason = sym is ∙ met.is in cc)

module _ (p : Control) (down : Way) (c d : Control) (answer : CentralPdus × End) (r : ReadAs c d answer) where
  -- from the way
  pub up_goes : (part : Option Pdu) (kept : Option Pdu) → Means answer (central_of c.table) part → is_taken down ≡ false → event_of c.track ≡ event_of p.track
      → SeenAt p down (way_if (λ q. OnAir q) part) kept c → d.ends ≡ None → SeenAt p down (way_if (λ q. Taken q) part) kept d
  up_goes None kept (means_none is) free same s goes =
      view_read p down Clear kept c d answer r goes (subst (λ (t : CentralPdus). Seen (record (view_at p down Clear kept c) { central = t })) (sym (ap (λ (a : CentralPdus × End). a.0) is)) s.seen)
  up_goes (Some pdu) kept (means_one judged _ fits is) free same s goes =
      let t = central_takes (view_at p down (OnAir pdu) kept c) s.seen judged pdu refl fits free same in
      let seen = t.goes (sym (ap (λ (a : CentralPdus × End). a.1) is) ∙ (r.goes goes).0) in
      view_read p down (Taken pdu) kept c d answer r goes
      (subst (λ (t : CentralPdus). Seen (record (view_at p down (Taken pdu) kept c) { central = t })) (sym (ap (λ (a : CentralPdus × End). a.0) is)) seen)

  pub up_never : (part : Option Pdu) (kept : Option Pdu) → Means answer (central_of c.table) part → is_taken down ≡ false → event_of c.track ≡ event_of p.track
      → SeenAt p down (way_if (λ q. OnAir q) part) kept c → EndsByCollision d.ends → ⊥
  up_never None kept (means_none is) free same s met = not_open answer.1 (ap (λ (a : CentralPdus × End). a.1) is) (r.collides met)
  up_never (Some pdu) kept (means_one judged _ fits is) free same s met =
      let t = central_takes (view_at p down (OnAir pdu) kept c) s.seen judged pdu refl fits free same in
      let by = r.collides met in
      t.never by.reason (sym (ap (λ (a : CentralPdus × End). a.1) is) ∙ by.is)

  -- from what was kept
  pub kept_goes : (part : Option Pdu) (up : Way) → Means answer (central_of c.table) part → SeenAt p down up part c → d.ends ≡ None → SeenAt p down up None d
  kept_goes None up (means_none is) s goes =
      view_read p down up None c d answer r goes (subst (λ (t : CentralPdus). Seen (record (view_at p down up None c) { central = t })) (sym (ap (λ (a : CentralPdus × End). a.0) is)) s.seen)
  kept_goes (Some pdu) up (means_one judged _ fits is) s goes =
      let t = takes_kept (view_at p down up (Some pdu) c) s.seen judged pdu refl fits in
      let seen = t.goes (sym (ap (λ (a : CentralPdus × End). a.1) is) ∙ (r.goes goes).0) in
      view_read p down up None c d answer r goes
      (subst (λ (t : CentralPdus). Seen (record (view_at p down up None c) { central = t })) (sym (ap (λ (a : CentralPdus × End). a.0) is)) seen)

  pub kept_never : (part : Option Pdu) (up : Way) → Means answer (central_of c.table) part → SeenAt p down up part c → EndsByCollision d.ends → ⊥
  kept_never None up (means_none is) s met = not_open answer.1 (ap (λ (a : CentralPdus × End). a.1) is) (r.collides met)
  kept_never (Some pdu) up (means_one judged _ fits is) s met =
      let t = takes_kept (view_at p down up (Some pdu) c) s.seen judged pdu refl fits in
      let by = r.collides met in
      t.never by.reason (sym (ap (λ (a : CentralPdus × End). a.1) is) ∙ by.is)

-- ---- with the phase

-- the central goes on as one of a joint run, and its link ends by no collision
pub record GoesAs (p : Control) (down up : Way) (s : Phased) : Type 0 where
  pub goes : s.control.ends ≡ None → SeenAt p down up (kept_part s.kept) s.control
  pub never : EndsByCollision s.control.ends → ⊥

pub not_room : EndsByCollision (Some (record { 0 = memory_capacity_exceeded })) → ⊥
not_room (inl h) = omega (arith, h)
not_room (inr h) = omega (arith, h)

pub not_forged : EndsByCollision (Some (record { 0 = mic_failure })) → ⊥
not_forged (inl h) = omega (arith, h)
not_forged (inr h) = omega (arith, h)

module _ (p : Control) (down up : Way) where
  ended_room : (s : Phased) → GoesAs p down up (ended_with memory_capacity_exceeded s)
  ended_room s = record { goes = λ h. absurd (cc); never = not_room }

  pub ended_forged : (s : Phased) → GoesAs p down up (ended_with mic_failure s)
  ended_forged s = record { goes = λ h. absurd (cc); never = not_forged }

  -- what the central knows, and keeps, while PDUs of the encryption are queued
  pub record Stays (kept : Option Ctrl) (s : Phased) : Type 0 where
    pub lasts : s.control.ends ≡ None
    pub same : s.kept ≡ kept
    pub seen : SeenAt p down up (kept_part kept) s.control

  pub owes_stays : (kept : Option Ctrl) (ctrl : Ctrl) (s : Phased) → Stays kept s → Stays kept (with_owed ctrl s)
  owes_stays kept ctrl s h =
      record {
        lasts = open_step (λ (c : Control). c.ends ≡ None) (Owes ctrl) s.control h.lasts h.lasts;
        same = h.same;
        seen = owes p down up (kept_part kept) ctrl s.control h.seen;
      }

  ciphered_stays : (kept : Option Ctrl) (response : Response) (read : CtrlRead) (s : Phased) → Stays kept s → Stays kept (ciphered response read s)
  ciphered_stays kept response read s h =
      ciphered_keeps_end (Stays kept) (owes_stays kept) (λ phase t k. record { lasts = k.lasts; same = k.same; seen = k.seen })
      (λ asks t k. record { lasts = k.lasts; same = k.same; seen = k.seen }) (λ request t k. record { lasts = k.lasts; same = k.same; seen = k.seen })
      response read s h

  -- what was kept is taken
  kept_goes_as : (kept : Option Ctrl) (slot : ℕ) (s : Phased) → ((ctrl : Ctrl) → kept ≡ Some ctrl → ctrl_class ctrl ≡ Request) → Stays kept s
      → GoesAs p down up (answered_kept slot kept s)
  kept_goes_as None slot s first h =
      record {
        goes = λ lasts. subst (λ (k : Option Ctrl). SeenAt p down up (kept_part k) s.control) (sym h.same) h.seen;
        never = λ met. subst EndsByCollision h.lasts met;
      }
  kept_goes_as (Some ctrl) slot s first h =
      let x = is_central s.control.table.progress h.seen.role in
      let class_is = first ctrl refl in
      let r = read_as s.control x.0 x.1 h.lasts (Known ctrl) slot true (no_stop ctrl class_is) in
      let means = first_means s.control.table x.0 x.1 s.phase ctrl class_is in
      record {
        goes = kept_goes p down s.control (after (Takes (Known ctrl) slot true) s.control) _ r (first_part ctrl) up means h.seen;
        never = kept_never p down s.control (after (Takes (Known ctrl) slot true) s.control) _ r (first_part ctrl) up means h.seen;
      }
    where
      no_stop : (ctrl : Ctrl) → ctrl_class ctrl ≡ Request → stops_run (Known ctrl) ≡ false
      no_stop (TerminateInd code) is = absurd (cc)
      no_stop other is = refl

-- ---- the whole of a PDU

pub not_stopping : (b : Bool) (ctrl : Ctrl) → is_terminate ctrl ≡ false → stops_run (seen_if b (Known ctrl)) ≡ false
not_stopping true ctrl live = refl
not_stopping false (TerminateInd code) live = absurd (cc)
not_stopping false ctrl live = refl

pub record Keeping (pdu : PduClass) (role : Role) (quiet : Bool) : Type 0 where
  pub request : pdu ≡ Request
  pub central : role ≡ central_role
  pub loud : quiet ≡ false

pub keeping_of : (pdu : PduClass) (role : Role) (quiet : Bool) → keeps_class pdu role quiet ≡ true → Keeping pdu role quiet
keeping_of Request central_role true is = absurd (cc)
keeping_of Request central_role false is = record { request = refl; central = refl; loud = refl }
keeping_of Request peripheral_role quiet is = absurd (cc)
keeping_of pdu role quiet is = absurd (cc)

module _ (p : Control) (down : Way) (s : Phased) (outgoing : Outgoing) (ctrl : Ctrl) (slot : ℕ) (response : Response) (x : Central) (is : s.control.table.progress ≡ central x)
    (lasts : s.control.ends ≡ None) (facts : CentralKnown s) (sent : IsSentAs outgoing ctrl) (fits : fits_up outgoing ≡ true) (live : is_terminate ctrl ≡ false)
    (free : is_taken down ≡ false) (same : event_of s.control.track ≡ event_of p.track)
    (seen : SeenAt p down (way_if (λ q. OnAir q) (pdu_of_outgoing outgoing)) (kept_part s.kept) s.control) where
  abbrev up : Way
  up = way_if (λ q. Taken q) (pdu_of_outgoing outgoing)

  abbrev read : CtrlRead
  read = Known ctrl

  own_role : role_of s.control.table.progress ≡ central_role
  own_role = rw is refl

  -- it is kept
  none_kept : (kept : Option Ctrl) → s.kept ≡ kept → allows s.phase central_role Request ≡ true → s.kept ≡ None
  none_kept None was allowed = was
  none_kept (Some one) was allowed = absurd (let no : allows s.phase central_role Request ≡ false = facts.kept one was in cc)

  keeps_it : (first : Option Pdu) → first_part ctrl ≡ first → pdu_of_outgoing outgoing ≡ first → ((pdu : Pdu) → first ≡ Some pdu → is_first pdu ≡ true)
      → s.kept ≡ None → (central_of s.control.table).own ≡ Idle → SeenAt p down up (first_part ctrl) s.control
  keeps_it None is_first_part part firsts none idle =
      let at : SeenAt p down Clear None s.control = subst (λ (k : Option Ctrl). SeenAt p down Clear (kept_part k) s.control) none
      (subst (λ (o : Option Pdu). SeenAt p down (way_if (λ q. OnAir q) o) (kept_part s.kept) s.control) part seen) in
      rw (part, is_first_part) at
  keeps_it (Some pdu) is_first_part part firsts none idle =
      let at : SeenAt p down (OnAir pdu) None s.control = subst (λ (k : Option Ctrl). SeenAt p down (OnAir pdu) (kept_part k) s.control) none
      (subst (λ (o : Option Pdu). SeenAt p down (way_if (λ q. OnAir q) o) (kept_part s.kept) s.control) part seen) in
      let kept : SeenAt p down (Taken pdu) (Some pdu) s.control =
      record {
        role = seen.role;
        seen = keeps (view_at p down (OnAir pdu) None s.control) at.seen pdu refl (firsts pdu refl) free same (ap central_kind idle);
      } in
      rw (part, is_first_part) kept

  kept_as : does_keep read s ≡ true → is_allowed read s ≡ true → GoesAs p down up (keeping read s)
  kept_as does allowed =
      let k = keeping_of (ctrl_class ctrl) (role_of s.control.table.progress) (is_quiet_now s) does in
      let may : allows s.phase central_role Request ≡ true =
      subst (λ (role : Role). allows s.phase role Request ≡ true) k.central
      (subst (λ (pdu : PduClass). allows s.phase (role_of s.control.table.progress) pdu ≡ true) k.request allowed) in
      let kept = up_kept outgoing ctrl sent fits k.request in
      record {
        goes = λ h. keeps_it (first_part ctrl) refl kept.part kept.first (none_kept s.kept refl may) (facts.own k.loud);
        never = λ met. subst EndsByCollision lasts met;
      }

  -- it is handed to the procedures
  abbrev unknown : Bool
  unknown = is_unknown s.phase (role_of s.control.table.progress) (ctrl_class ctrl)

  abbrev next : Control
  next = after (Takes (seen_if unknown read) slot (is_quiet_now s)) s.control

  abbrev answer : CentralPdus × End
  answer = answer_to (step_of_read s.control.table.progress (seen_if unknown read)) (central_of s.control.table)

  read_next : ReadAs s.control next answer
  read_next = read_as s.control x is lasts (seen_if unknown read) slot (is_quiet_now s) (not_stopping unknown ctrl live)

  means : Means answer (central_of s.control.table) (pdu_of_outgoing outgoing)
  means =
      subst (λ (role : Role). Means (answer_to (step_of_read s.control.table.progress (seen_if (is_unknown s.phase role (ctrl_class ctrl)) read)) (central_of s.control.table)) (central_of s.control.table) (pdu_of_outgoing outgoing))
      (sym own_role) (up_means s.control.table x is s.phase outgoing ctrl sent fits live)

  abbrev handed : Phased
  handed = with_phase_taking read (record (knowing read s) { control = next })

  abbrev ciphered_next : Phased
  ciphered_next = ciphered response read handed

  stays_next : next.ends ≡ None → Stays p down up s.kept ciphered_next
  stays_next goes =
      ciphered_stays p down up s.kept response read handed
      (record {
        lasts = goes;
        same = refl;
        seen = up_goes p down s.control next answer read_next (pdu_of_outgoing outgoing) (kept_part s.kept) means free same seen goes;
      })

  firsts_of : (kept : Option Ctrl) → s.kept ≡ kept → (ctrl : Ctrl) → kept ≡ Some ctrl → ctrl_class ctrl ≡ Request
  firsts_of kept was one some = facts.first one (was ∙ some)

  settled_as : Stays p down up s.kept ciphered_next → GoesAs p down up (answered_if_quiet slot ciphered_next)
  settled_as h =
      choice (GoesAs p down up) (is_quiet_now ciphered_next) (answered_kept slot ciphered_next.kept ciphered_next) ciphered_next
      (kept_goes_as p down up ciphered_next.kept slot ciphered_next (firsts_of ciphered_next.kept (sym h.same))
      (record {
        lasts = h.lasts;
        same = refl;
        seen = subst (λ (k : Option Ctrl). SeenAt p down up (kept_part k) ciphered_next.control) (sym h.same) h.seen;
      }))
      (record {
        goes = λ goes. subst (λ (k : Option Ctrl). SeenAt p down up (kept_part k) ciphered_next.control) (sym h.same) h.seen;
        never = λ met. subst EndsByCollision h.lasts met;
      })

  goes_by : (ends : Option ErrCode) → next.ends ≡ ends → GoesAs p down up (if is_none ends then answered_if_quiet slot ciphered_next else handed)
  goes_by None was = settled_as (stays_next was)
  goes_by (Some code) was =
      record {
        goes = λ goes. absurd (let both : ◌≡◌ {A = Option ErrCode} (Some code) None = sym was ∙ goes in cc);
        never = up_never p down s.control next answer read_next (pdu_of_outgoing outgoing) (kept_part s.kept) means free same seen;
      }

  handed_as : GoesAs p down up (handed_on slot response read s)
  handed_as = goes_by next.ends refl

  allowed_as : is_allowed read s ≡ true → GoesAs p down up (took_allowed slot response read s)
  allowed_as allowed = by (does_keep read s) refl
    where
      by : (does : Bool) → does_keep read s ≡ does
          → GoesAs p down up (if does then keeping read s else (if lacks_room_now read s then ended_with memory_capacity_exceeded s else handed_on slot response read s))
      by true does = kept_as does allowed
      by false does = choice (GoesAs p down up) (lacks_room_now read s) (ended_with memory_capacity_exceeded s) (handed_on slot response read s) (ended_room p down up s) handed_as

  pub central_took : GoesAs p down up (took slot response read s)
  central_took = by (is_allowed read s) refl
    where
      by : (allowed : Bool) → is_allowed read s ≡ allowed → GoesAs p down up (if allowed then took_allowed slot response read s else ended_with mic_failure s)
      by true allowed = allowed_as allowed
      by false allowed = ended_forged p down up s

-- The joint steps of a peripheral, as steps of that end with its phase.
use Rattle.std.proofs.Common.{◌≡◌, ℕ, Bool, true, false, ◌&&◌, List, [], ◌∷◌, ◌++◌, Option, None, is_none, refl, sym, ap, ◌∙◌, if◌then◌else◌}
use Rattle.std.proofs.lemmas.Bool.{and_from, and_parts}
use Rattle.ble_base.specs.declared.error_codes.ErrCode.{ErrCode}
use Rattle.ble_base.specs.declared.roles.Role.TheVariants.{Peripheral}
use Rattle.control_octets.specs.procedure_values.Drafts.{ctrl_of_outgoing}
use Rattle.link_model.specs.control_end.Answers.{next_ctrl}
use Rattle.link_model.specs.control_end.Held.{held_of}
use Rattle.joint_laws.specs.joint_controls.phased_control.enc_phase.Phases.{seals}
use Rattle.joint_laws.specs.joint_controls.phased_control.Phased.{Phased, is_open_now, is_quiet_now}
use Rattle.joint_laws.specs.joint_controls.phased_control.Taken.{Response, SeesAcknowledged, Sends, phased_after}
use Rattle.joint_laws.specs.joint_controls.Joint.{Clear, Data, Fixed, Item, Joint, JointStep, OnAir, PeripheralAcked, PeripheralFixes, PeripheralFixesData, PeripheralSends, PeripheralTakes, Taken, Way, after_all, event_now, fixed, is_last, is_taken, item_by, latency_now, next_item, next_out, sends_data, sent_up, taking}
use Rattle.joint_laws.specs.joint_controls.Joint.{after as joint_after, may, may_all}
use Rattle.joint_laws.specs.joint_parameters.Turns.{step_if}
use Rattle.joint_laws.proofs.joint_parameters.Pairing.{after_may}
use Rattle.link_pairs.proofs.PhasedEnds.{acked_if}

-- a link with a peripheral in this state
abbrev pub with_end : Phased → Way → Way → Bool → Phased → Joint
with_end central down up stopped x = record { central = central; peripheral = x; down = down; up = up; stopped = stopped }

-- ---- what goes next

-- while the link goes on, the next item is the next control PDU
pub next_item_is : (x : Phased) → x.control.ends ≡ None → next_item x ≡ item_by (next_out x) (next_ctrl (is_quiet_now x) (held_of x.control))
next_item_is x lasts =
    ap (λ (b : Bool). item_by (next_out x) (if b then ctrl_of_outgoing (next_out x) (event_now x) (latency_now x) else None))
    (sym (ap (λ (ends : Option ErrCode). is_none ends) lasts))

pub sends_data_is : (x : Phased) → x.control.ends ≡ None → next_ctrl (is_quiet_now x) (held_of x.control) ≡ None
    → (is_quiet_now x && is_open_now x) ≡ true → sends_data x ≡ true
sends_data_is x lasts none goes =
    ap (λ (item : Option Item). is_none item && (is_quiet_now x && is_open_now x)) (next_item_is x lasts ∙ ap (item_by (next_out x)) none) ∙ goes

module _ (central : Phased) (down : Way) (x : Phased) where
  -- ---- its last PDU is acknowledged

  pub acked_after : (item : Item) → may PeripheralAcked (with_end central down (Taken item) false x) ≡ true
      → joint_after PeripheralAcked (with_end central down (Taken item) false x) ≡ with_end central down Clear false (phased_after SeesAcknowledged x)
  acked_after item comes = after_may PeripheralAcked (with_end central down (Taken item) false x) comes

  -- ---- it fixes its next one

  pub fixes_after : (slot : ℕ) (way : Way) → may (PeripheralFixes slot) (with_end central down way false x) ≡ true
      → joint_after (PeripheralFixes slot) (with_end central down way false x)
      ≡ with_end central down (fixed (next_item x)) false (phased_after (Sends slot) x)
  fixes_after slot way comes = after_may (PeripheralFixes slot) (with_end central down way false x) comes

  pub fixes_data_after : (way : Way) → may PeripheralFixesData (with_end central down way false x) ≡ true
      → joint_after PeripheralFixesData (with_end central down way false x)
      ≡ with_end central down (Fixed Data (seals Peripheral x.phase)) false x
  fixes_data_after way comes = after_may PeripheralFixesData (with_end central down way false x) comes

  -- ---- it sends that

  pub sends_after : (way : Way) → may PeripheralSends (with_end central down way false x) ≡ true
      → joint_after PeripheralSends (with_end central down way false x)
      ≡ with_end central down (sent_up way (seals Peripheral x.phase)) false x
  sends_after way comes = after_may PeripheralSends (with_end central down way false x) comes

-- ---- it takes a PDU

pub takes_after : (central : Phased) (up : Way) (x : Phased) (slot : ℕ) (response : Response) (item : Item) (sealed : Bool)
    → may (PeripheralTakes slot response) (with_end central (OnAir item sealed) up false x) ≡ true
    → joint_after (PeripheralTakes slot response) (with_end central (OnAir item sealed) up false x)
    ≡ with_end central (Taken item) up (is_last item) (phased_after (taking item slot response) x)
takes_after central up x slot response item sealed comes =
    after_may (PeripheralTakes slot response) (with_end central (OnAir item sealed) up false x) comes

-- ---- several steps

pub may_parts : (xs ys : List JointStep) (s : Joint) → may_all (xs ++ ys) s ≡ true → (may_all xs s ≡ true) × (may_all ys (after_all xs s) ≡ true)
may_parts [] ys s comes = (refl, comes)
may_parts (step ∷ xs) ys s comes =
    let first = and_parts (may step s) (may_all (xs ++ ys) (joint_after step s)) comes in
    let rest = may_parts xs ys (joint_after step s) first.1 in
    (and_from (may step s) (may_all xs (joint_after step s)) first.0 rest.0, rest.1)

pub one_step : (step : JointStep) (s : Joint) → may_all (step ∷ []) s ≡ true → may step s ≡ true
one_step step s comes = (and_parts (may step s) true comes).0

-- its last PDU is acknowledged where it was taken
pub seen_after : (central : Phased) (down way : Way) (x : Phased)
    → may_all (step_if (is_taken way) PeripheralAcked) (with_end central down way false x) ≡ true
    → after_all (step_if (is_taken way) PeripheralAcked) (with_end central down way false x)
    ≡ with_end central down (if is_taken way then Clear else way) false (acked_if (is_taken way) x)
seen_after central down Clear x comes = refl
seen_after central down (Fixed item sealed) x comes = refl
seen_after central down (OnAir item sealed) x comes = refl
seen_after central down (Taken item) x comes =
    acked_after central down x item (one_step PeripheralAcked (with_end central down (Taken item) false x) comes)

-- What a peripheral fixes, sends and sees acknowledged, as joint runs of the procedures that exclude each other see it.
use Rattle.std.proofs.Common.{◌≡◌, ℕ, ◌==◌, nat_le, Bool, true, not, ◌&&◌, ◌||◌, Option, Some, None, is_none, refl, sym, subst, ◌∙◌}
use Rattle.ble_base.specs.declared.roles.Role.{Role}
use Rattle.ble_base.specs.declared.roles.Role.TheVariants.{Central as central_role, Peripheral as peripheral_role}
use Rattle.exclusive_stages.specs.declared.pdus.Pdu.{Pdu}
use Rattle.exclusive_stages.specs.Pdus.{is_timed}
use Rattle.instants.specs.declared.indications.Indication.{Indication}
use Rattle.instants.specs.Track.{event_of}
use Rattle.collision_steps.specs.procedure_values.declared.drafts.Outgoing.{Outgoing}
use Rattle.collision_steps.specs.procedure_values.declared.drafts.Outgoing.TheVariants.{Nothing}
use Rattle.collision_steps.specs.procedure_values.Drafts.{is_out}
use Rattle.collision_steps.specs.procedure_stages.Closing.{is_disconnecting}
use Rattle.collision_steps.specs.procedure_stages.Exclusive.{pdu_of_outgoing}
use Rattle.collision_steps.specs.procedure_stages.Kinds.{role_of}
use Rattle.collision_steps.specs.procedure_stages.declared.stages.Peripheral.{Peripheral}
use Rattle.collision_steps.specs.procedure_stages.declared.stages.Progress.TheVariants.{Peripheral as peripheral}
use Rattle.collision_steps.specs.procedures.Queue.{next_of}
use Rattle.collision_steps.specs.procedures.Sending.{acked_step}
use Rattle.collisions.specs.declared.joint.Way.{Way}
use Rattle.collisions.specs.declared.joint.Way.TheVariants.{Clear, Fixed, OnAir, Taken}
use Rattle.collisions.specs.JointRun.{is_pdu, pdu_on_air}
use Rattle.collision_steps.specs.Answers.{first_waiting}
use Rattle.collision_steps.specs.CentralPart.{passed_from}
use Rattle.collision_steps.specs.PeripheralPart.{ack_of, after_steps, peripheral_of, sending_of}
use Rattle.collision_steps.proofs.PeripheralGoing.{acked_one, first_one, goes_one, sends_one}
use Rattle.joint_controls.specs.control_model.Control.{Control, following, table_if, went}
use Rattle.joint_controls.proofs.control_model.Calls.{acked_same, sent_from}
use Rattle.joint_collisions.specs.Views.{way_if}
use Rattle.joint_collisions.proofs.Reaching.{Seen, fixes, peripheral_acks, sends_fixed}
use Rattle.joint_collisions.proofs.PeripheralSteps.{SeenAt, view_at}
use Rattle.joint_collisions.proofs.Sending.{goes_if}

-- the events have one number, or the peripheral has passed the Instant of an indication that comes
abbrev pub IsInTime : Control → Way → Control → Type 0
IsInTime c down p =
    ((event_of c.track == event_of p.track) || (nat_le (passed_from c.table.progress) (event_of p.track) && is_pdu is_timed (pdu_on_air down))) ≡ true

module _ (c : Control) (down : Way) (kept : Option Pdu) (p : Control) (x : Peripheral) (is : p.table.progress ≡ peripheral x) where
  -- ---- a PDU is fixed

  abbrev next : Bool → Outgoing
  next quiet = next_of p.table (event_of p.track) quiet

  fixed_view : (quiet : Bool) (pdu : Option Pdu) → pdu_of_outgoing (next quiet) ≡ pdu → Seen (view_at c down Clear kept p)
      → Seen (record (view_at c down Clear kept p) { peripheral = after_steps (sending_of pdu) (peripheral_of p.table); up = way_if (λ q. Fixed q) pdu })
  fixed_view quiet None goes s = s
  fixed_view quiet (Some pdu) goes s =
      let rule = goes_one p.table x (event_of p.track) quiet is in
      let both = goes_if (λ q. not (is_disconnecting p.table.closing && quiet)) (pdu_of_outgoing (first_waiting p.table.queue)) pdu (sym rule ∙ goes) in
      fixes (view_at c down Clear kept p) s pdu refl (first_one p.table x pdu is both.0)

  -- a peripheral follows no indication of its own
  follows_none : (role : Role) (indication : Option Indication) (d : Control) → role ≡ peripheral_role → following role indication d ≡ d
  follows_none central_role indication d own = absurd (cc)
  follows_none peripheral_role indication d own = refl

  pub fixed_seen : (slot : ℕ) (quiet : Bool) → SeenAt c down Clear kept p
      → SeenAt c down (way_if (λ q. Fixed q) (pdu_of_outgoing (next quiet))) kept
      (following (role_of p.table.progress) (went slot quiet p).1 (record p { table = (went slot quiet p).0 }))
  fixed_seen slot quiet s =
      let same = follows_none (role_of p.table.progress) (went slot quiet p).1 (record p { table = (went slot quiet p).0 }) s.role in
      let part = sends_one p.table x (event_of p.track) p.track.params.latency slot quiet is in
      subst (λ (d : Control). SeenAt c down (way_if (λ q. Fixed q) (pdu_of_outgoing (next quiet))) kept d) (sym same)
      (record {
        role = (sent_from (next quiet) (event_of p.track) p.track.params.latency p.table.progress).role ∙ s.role;
        seen = rw part (fixed_view quiet (pdu_of_outgoing (next quiet)) refl s.seen);
      })

  -- ---- it is sent

  pub sends_seen : (pdu : Option Pdu) → is_none (pdu_on_air down) ≡ true → SeenAt c down (way_if (λ q. Fixed q) pdu) kept p
      → SeenAt c down (way_if (λ q. OnAir q) pdu) kept p
  sends_seen None free s = s
  sends_seen (Some pdu) free s = record { role = s.role; seen = sends_fixed (view_at c down (Fixed pdu) kept p) s.seen pdu refl free }

  -- ---- it is acknowledged

  acked_view : (pdu : Option Pdu) → IsInTime c down p → Seen (view_at c down (way_if (λ q. Taken q) pdu) kept p)
      → Seen (record (view_at c down Clear kept p) { peripheral = after_steps (ack_of pdu) (peripheral_of p.table) })
  acked_view None time s = s
  acked_view (Some pdu) time s = peripheral_acks (view_at c down (Taken pdu) kept p) s pdu refl time

  acked_now : IsInTime c down p → SeenAt c down (way_if (λ q. Taken q) (pdu_of_outgoing p.table.out)) kept p → SeenAt c down Clear kept (record p { table = (acked_step p.table).0 })
  acked_now time s =
      record {
        role = (acked_same p.table.out p.table.progress).role ∙ s.role;
        seen = rw (acked_one p.table x is) (acked_view (pdu_of_outgoing p.table.out) time s.seen);
      }

  pub acked_seen : IsInTime c down p → SeenAt c down (way_if (λ q. Taken q) (pdu_of_outgoing p.table.out)) kept p
      → SeenAt c down Clear kept (table_if (is_out p.table.out) (acked_step p.table).0 p)
  acked_seen time s = by p.table.out refl
    where
      by : (out : Outgoing) → p.table.out ≡ out → SeenAt c down Clear kept (table_if (is_out out) (acked_step p.table).0 p)
      by Nothing is_out_none =
          subst (λ (out : Outgoing). SeenAt c down (way_if (λ q. Taken q) (pdu_of_outgoing out)) kept p) is_out_none s
      by out is_out_some = acked_now time s

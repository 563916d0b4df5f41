-- A peripheral takes a PDU, as joint runs of the procedures that exclude each other see it.
use Rattle.std.proofs.Common.{◌≡◌, ℕ, ◌+◌, ◌-◌, ◌%◌, ◌^◌, ◌<◌, nat_le, nat_lt, Bool, true, false, Option, Some, None, is_some, refl, sym, ap, subst, ◌∙◌, arith, leb-false, ltb-true}
use Rattle.ble_base.specs.Instant.{gap_of}
use Rattle.ble_base.specs.declared.procedure_kinds.Kind.{Kind}
use Rattle.ble_base.specs.declared.roles.Role.TheVariants.{Peripheral as peripheral_role}
use Rattle.data_pdu.specs.declared.ctrl.CtrlRead.{CtrlRead}
use Rattle.exclusive_stages.specs.declared.pdus.Exclusive.{Exclusive}
use Rattle.exclusive_stages.specs.declared.pdus.Pdu.{Pdu}
use Rattle.exclusive_stages.specs.Pdus.{is_timed}
use Rattle.instants.specs.declared.indications.Indication.{Indication}
use Rattle.instants.specs.Parameters.{instant_of}
use Rattle.instants.specs.Track.{TrackFacts, event_of, gap_ahead, track_after_take}
use Rattle.collision_steps.specs.procedure_stages.declared.stages.Ahead.{Ahead}
use Rattle.collision_steps.specs.procedure_stages.declared.stages.Ahead.TheVariants.{Map as map_ahead, Nothing as nothing_ahead, Update as update_ahead}
use Rattle.collision_steps.specs.procedure_stages.Kinds.{role_of}
use Rattle.collision_steps.specs.procedures.Table.{TableFacts}
use Rattle.collision_steps.specs.procedures.Taking.{outcome_of}
use Rattle.collisions.specs.declared.peripheral.Peripheral.{Peripheral as PeripheralPdus}
use Rattle.collisions.specs.declared.joint.End.{End}
use Rattle.collisions.specs.declared.joint.End.TheVariants.{Collided, Open}
use Rattle.collisions.specs.declared.joint.Way.{Way}
use Rattle.collisions.specs.declared.joint.Way.TheVariants.{Clear, OnAir, Taken}
use Rattle.collisions.specs.PeripheralTable
use Rattle.collisions.specs.JointRun.{is_pdu, is_taken}
use Rattle.collision_steps.specs.CentralPart.{passed_from}
use Rattle.collision_steps.specs.PeripheralPart.{ahead_part, peripheral_of}
use Rattle.collision_steps.proofs.PeripheralTaking.{over}
use Rattle.joint_controls.specs.control_model.Control.{Control, indicated_by}
use Rattle.joint_controls.specs.control_model.Waits.{EndsByCollision, kind_ahead, kind_awaited}
use Rattle.joint_collisions.specs.Views.{View, waits_part, way_if}
use Rattle.joint_collisions.proofs.Answers.{IsCollided}
use Rattle.joint_collisions.proofs.DownMeanings.{Means, Untimed, collided_either, means_none, means_one, timed_opens, untimed}
use Rattle.joint_collisions.proofs.Fixing.{IsInTime}
use Rattle.joint_collisions.proofs.Instants.{PeripheralTook, peripheral_takes}
use Rattle.joint_collisions.proofs.PeripheralSteps.{SeenAt, is_peripheral, view_at}
use Rattle.joint_collisions.proofs.Reaching.{Seen}
use Rattle.joint_collisions.proofs.Readings.{ReadAs, Took, nothing_waits, one_waits}

-- ---- the kind that a table awaits, in both words

ahead_some : (ahead : Ahead) → is_some (ahead_part ahead) ≡ is_some (kind_ahead ahead)
ahead_some nothing_ahead = refl
ahead_some update_ahead = refl
ahead_some map_ahead = refl

pub ahead_is : (f : TableFacts) → role_of f.progress ≡ peripheral_role → is_some (peripheral_of f).ahead ≡ is_some (kind_awaited f.progress)
ahead_is f role =
    let x = is_peripheral f.progress role in
    over (λ (g : TableFacts). is_some (peripheral_of g).ahead ≡ is_some (kind_awaited g.progress)) f x.0 x.1 (ahead_some x.0.ahead)

differ : true ≡ false → ⊥
differ is = absurd (cc)

not_open : (end : End) → end ≡ Open → IsCollided end → ⊥
not_open end is met = absurd (let both : Open ≡ Collided met.reason = sym is ∙ met.is in cc)

module _ (c : Control) (up : Way) (kept : Option Pdu) (p d : Control) (read : CtrlRead) (slot : ℕ) (quiet : Bool) (answer : PeripheralPdus × End)
    (r : ReadAs p d read slot quiet answer) (role : role_of p.table.progress ≡ peripheral_role) where
  abbrev t : PeripheralPdus
  t = peripheral_of p.table

  abbrev over_event : ℕ
  over_event = passed_from c.table.progress

  -- what is known of an indication that comes: its Instant, and that it is not too late
  pub record Timely (part : Option Pdu) : Type 0 where
    pub instant :
        is_pdu is_timed part ≡ true → (indication : Indication) → (outcome_of p.table quiet read).step.ends ≡ None
        → indicated_by (outcome_of p.table quiet read).step.effect ≡ Some indication → instant_of indication ≡ (over_event - 1) % 2 ^ 16
    pub near : is_pdu is_timed part ≡ true → event_of p.track < (over_event - 1) + 32769

  -- nothing new waits
  view_plain : (down : Way) → d.track ≡ p.track → d.ends ≡ None → Seen (record (view_at c down up kept p) { peripheral = answer.0 }) → SeenAt c down up kept d
  view_plain down track goes seen =
      let part = r.part goes in
      let event : event_of d.track ≡ event_of p.track = ap event_of track in
      let waits : waits_part d.track.waits ≡ waits_part p.track.waits = ap (λ (t : TrackFacts). waits_part t.waits) track in
      record { role = r.role; seen = rw (part, event, waits) seen }

  -- or the indication does
  view_waiting : (down : Way) (indication : Indication) → d.track ≡ track_after_take p.track indication → d.ends ≡ None
      → Seen (record (view_at c down up kept p) { peripheral = answer.0; peripheral_waits = Some (event_of p.track + gap_ahead (event_of p.track) indication) })
      → SeenAt c down up kept d
  view_waiting down indication track goes seen =
      let part = r.part goes in
      let event : event_of d.track ≡ event_of p.track = ap event_of track in
      let waits : waits_part d.track.waits ≡ Some (event_of p.track + gap_ahead (event_of p.track) indication) = ap (λ (t : TrackFacts). waits_part t.waits) track in
      record { role = r.role; seen = rw (part, event, waits) seen }

  -- a table that awaits nothing new took no indication
  unawaited : d.ends ≡ None → answer.0.ahead ≡ t.ahead → (indication : Kind) → kind_awaited p.table.progress ≡ None → kind_awaited d.table.progress ≡ Some indication → ⊥
  unawaited goes same kind free awaited =
      let some : is_some (peripheral_of d.table).ahead ≡ true = ahead_is d.table r.role ∙ ap (λ (o : Option Kind). is_some o) awaited in
      let none : is_some t.ahead ≡ false = ahead_is p.table role ∙ ap (λ (o : Option Kind). is_some o) free in
      differ (sym some ∙ ap (λ (x : PeripheralPdus). is_some x.ahead) (r.part goes) ∙ ap (λ (o : Option Exclusive). is_some o) same ∙ none)

  abbrev down_at : Option Pdu → Way
  down_at part = way_if (λ q. OnAir q) part

  -- a PDU that is of no concern
  none_goes : answer ≡ (t, Open) → SeenAt c Clear up kept p → d.ends ≡ None → SeenAt c Clear up kept d
  none_goes is s goes = by (r.took goes)
    where
      by : Took p d read slot quiet → SeenAt c Clear up kept d
      by (nothing_waits track awaited) =
          view_plain Clear track goes
          (subst (λ (x : PeripheralPdus). Seen (record (view_at c Clear up kept p) { peripheral = x })) (sym (ap (λ (a : PeripheralPdus × End). a.0) is)) s.seen)
      by (one_waits indication ends effect to_come track free awaited) =
          absurd (unawaited goes (ap (λ (a : PeripheralPdus × End). a.0.ahead) is) _ free awaited)

  module _ (pdu : Pdu) (is : answer ≡ PeripheralTable.taken false pdu t) (free : is_taken up ≡ false) (time : IsInTime c (OnAir pdu) p)
      (s : SeenAt c (OnAir pdu) up kept p) (timely : Timely (Some pdu)) where
    abbrev took_pdu : PeripheralTook (view_at c (OnAir pdu) up kept p) s.seen pdu
    took_pdu = peripheral_takes (view_at c (OnAir pdu) up kept p) s.seen pdu refl free time

    abbrev passed_now : Bool
    passed_now = nat_le over_event (event_of p.track)

    abbrev view_taken : PeripheralPdus → View
    view_taken x = record (view_at c (Taken pdu) up kept p) { peripheral = x }

    -- it has no Instant
    untimed_goes : is_timed pdu ≡ false → d.ends ≡ None → SeenAt c (Taken pdu) up kept d
    untimed_goes plain goes = by (r.took goes)
      where
        u : Untimed passed_now pdu t
        u = untimed passed_now pdu t plain

        same : PeripheralTable.taken passed_now pdu t ≡ answer
        same = u.same ∙ sym is

        by : Took p d read slot quiet → SeenAt c (Taken pdu) up kept d
        by (nothing_waits track awaited) =
            view_plain (Taken pdu) track goes
            (subst (λ (x : PeripheralPdus). Seen (view_taken x)) (ap (λ (a : PeripheralPdus × End). a.0) same)
            (took_pdu.goes (ap (λ (a : PeripheralPdus × End). a.1) same ∙ r.open_end goes)))
        by (one_waits indication ends effect to_come track free_before awaited) =
            absurd (unawaited goes (ap (λ (a : PeripheralPdus × End). a.0.ahead) is ∙ u.ahead) _ free_before awaited)

    -- it is an indication
    timed_goes : is_timed pdu ≡ true → d.ends ≡ None → SeenAt c (Taken pdu) up kept d
    timed_goes timed goes = by (r.took goes)
      where
        opens : (t.ahead ≡ None) × (is_some (PeripheralTable.taken false pdu t).0.ahead ≡ true)
        opens = timed_opens pdu t timed (sym (ap (λ (a : PeripheralPdus × End). a.1) is) ∙ r.open_end goes)

        waits_by : (indication : Indication) (gap : ℕ) → gap_ahead (event_of p.track) indication ≡ gap → gap_of ((over_event - 1) % 2 ^ 16) (event_of p.track % 2 ^ 16) ≡ gap
            → nat_lt gap 32767 ≡ true → d.track ≡ track_after_take p.track indication → (passed : Bool) → passed_now ≡ passed → SeenAt c (Taken pdu) up kept d
        waits_by indication gap own read_gap to_come track true passed =
            let far = took_pdu.passed timed passed (timely.near timed) in
            let less = ltb-true gap 32767 to_come in absurd (omega (arith, far, less, read_gap))
        waits_by indication gap own read_gap to_come track false passed =
            let before : event_of p.track < over_event = leb-false over_event (event_of p.track) passed in
            let ahead = (took_pdu.ahead passed).0 in
            let at : event_of p.track + gap_ahead (event_of p.track) indication + 1 ≡ over_event = omega (arith, before, ahead, own, read_gap) in
            let same : PeripheralTable.taken passed_now pdu t ≡ answer = ap (λ (b : Bool). PeripheralTable.taken b pdu t) passed ∙ sym is in
            view_waiting (Taken pdu) indication track goes
            (subst (λ (x : PeripheralPdus). Seen (record (view_taken x) { peripheral_waits = Some (event_of p.track + gap_ahead (event_of p.track) indication) })) (ap (λ (a : PeripheralPdus × End). a.0) same)
            (took_pdu.follows (event_of p.track + gap_ahead (event_of p.track) indication) at passed (ap (λ (a : PeripheralPdus × End). a.1) same ∙ r.open_end goes)))

        by : Took p d read slot quiet → SeenAt c (Taken pdu) up kept d
        by (nothing_waits track awaited) =
            let some : is_some (peripheral_of d.table).ahead ≡ true =
            ap (λ (x : PeripheralPdus). is_some x.ahead) (r.part goes ∙ ap (λ (a : PeripheralPdus × End). a.0) is) ∙ opens.1 in
            let none : is_some (peripheral_of d.table).ahead ≡ false =
            ahead_is d.table r.role ∙ ap (λ (o : Option Kind). is_some o) awaited ∙ sym (ahead_is p.table role) ∙ ap (λ (o : Option Exclusive). is_some o) opens.0 in
            absurd (differ (sym some ∙ none))
        by (one_waits indication ends effect to_come track free_before awaited) =
            let instant = timely.instant timed indication ends effect in
            waits_by indication (gap_ahead (event_of p.track) indication) refl
            (ap (λ (n : ℕ). gap_of n (event_of p.track % 2 ^ 16)) (sym instant)) to_come track passed_now refl

    one_goes : (timed : Bool) → is_timed pdu ≡ timed → d.ends ≡ None → SeenAt c (Taken pdu) up kept d
    one_goes true timed goes = timed_goes timed goes
    one_goes false timed goes = untimed_goes timed goes

    one_never : EndsByCollision d.ends → ⊥
    one_never met =
        let by = r.collides met in
        took_pdu.never by.reason
        (collided_either passed_now pdu t by.reason (sym (ap (λ (a : PeripheralPdus × End). a.1) is) ∙ by.is))

  pub down_goes : (part : Option Pdu) → Means answer t part → is_taken up ≡ false → IsInTime c (down_at part) p → Timely part
      → SeenAt c (down_at part) up kept p → d.ends ≡ None → SeenAt c (way_if (λ q. Taken q) part) up kept d
  down_goes None (means_none is) free time timely s goes = none_goes is s goes
  down_goes (Some pdu) (means_one _ is) free time timely s goes = one_goes pdu is free time s timely (is_timed pdu) refl goes

  pub down_never : (part : Option Pdu) → Means answer t part → is_taken up ≡ false → IsInTime c (down_at part) p → Timely part
      → SeenAt c (down_at part) up kept p → EndsByCollision d.ends → ⊥
  down_never None (means_none is) free time timely s met = not_open answer.1 (ap (λ (a : PeripheralPdus × End). a.1) is) (r.collides met)
  down_never (Some pdu) (means_one _ is) free time timely s met = one_never pdu is free time s timely met

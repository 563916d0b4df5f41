-- Each step of a peripheral but that it takes a PDU, with its phase of encryption, as joint runs of the procedures that exclude
-- each other see it.
use Rattle.std.proofs.Common.{◌≡◌, ℕ, Bool, true, ◌&&◌, if◌then◌else◌, Option, Some, None, is_some}
use Rattle.ble_base.specs.declared.roles.Role.{Role}
use Rattle.ble_base.specs.declared.roles.Role.TheVariants.{Central as central_role}
use Rattle.data_pdu.specs.declared.ctrl.Ctrl.{Ctrl}
use Rattle.joint_controls.specs.enc_phase.declared.facts.PhaseFacts.{PhaseFacts}
use Rattle.exclusive_stages.specs.declared.pdus.Pdu.{Pdu}
use Rattle.instants.specs.declared.indications.Indication.{Indication}
use Rattle.instants.specs.Track.{event_of}
use Rattle.collision_steps.specs.procedure_values.Drafts.{ctrl_of_outgoing, is_out}
use Rattle.collision_steps.specs.procedure_stages.declared.stages.Peripheral.{Peripheral}
use Rattle.collision_steps.specs.procedure_stages.declared.stages.Progress.TheVariants.{Peripheral as peripheral}
use Rattle.collision_steps.specs.procedure_stages.Closing.{is_open}
use Rattle.collision_steps.specs.procedure_stages.Exclusive.{pdu_of_outgoing}
use Rattle.collision_steps.specs.procedure_stages.InProgress.{is_host_asked}
use Rattle.collision_steps.specs.procedure_stages.Kinds.{role_of}
use Rattle.collision_steps.specs.procedures.Going.{host_answer_step, is_answer, terminate_step}
use Rattle.collision_steps.specs.procedures.Sending.{acked_step}
use Rattle.collisions.specs.declared.joint.Way.{Way}
use Rattle.collisions.specs.declared.joint.Way.TheVariants.{Clear, Fixed, Taken}
use Rattle.joint_controls.specs.control_model.Control.{Answers, Asks, Control, Disconnects, Enters, SeesAcknowledged, Sends, Step, after, following, went}
use Rattle.joint_controls.proofs.control_model.Calls.{open_step}
use Rattle.joint_controls.proofs.control_model.Waiting.{Awaits}
use Rattle.joint_controls.specs.phased_control.Phased.{Phased, is_quiet_now, with_step}
use Rattle.joint_controls.specs.phased_control.Taken.{Enters as enters_end, SeesAcknowledged as acked_end, Sends as sends_end, phased_after, phased_moved}
use Rattle.joint_controls.specs.Joint.{AnswersRequest, AsksFor, Ends, HasKey, HasNoKey, HostStep, host_step, item_by, next_item, next_out}
use Rattle.joint_controls.proofs.Keeping.{asking_keeps_end, encrypting_if_keeps_end, given_keeps_end, lacking_keeps_end}
use Rattle.joint_collisions.specs.Views.{way_if}
use Rattle.joint_collisions.proofs.CentralEnd.{going, table_lasts}
use Rattle.joint_collisions.proofs.Fixing.{IsInTime, acked_seen, fixed_seen}
use Rattle.joint_collisions.proofs.PeripheralPhase.{GoesAs, Stays, goes_as, owes_stays}
use Rattle.joint_collisions.proofs.PeripheralSteps.{SeenAt, answers, asks, disconnects, enters}

module _ (c : Control) (down up : Way) (kept : Option Pdu) where
  abbrev phase_stays : (phase : PhaseFacts) (t : Phased) → Stays c down up kept t → Stays c down up kept (record t { phase = phase })
  phase_stays phase t k = record { lasts = k.lasts; none = k.none; seen = k.seen }

  abbrev key_stays : (asks : Bool) (t : Phased) → Stays c down up kept t → Stays c down up kept (record t { asks_key = asks })
  key_stays asks t k = record { lasts = k.lasts; none = k.none; seen = k.seen }

  abbrev request_stays : (request : Option Ctrl) (t : Phased) → Stays c down up kept t → Stays c down up kept (record t { request = request })
  request_stays request t k = record { lasts = k.lasts; none = k.none; seen = k.seen }

  module _ (s : Phased) (lasts : s.control.ends ≡ None) (none : s.kept ≡ None) (seen : SeenAt c down up kept s.control) where
    now : Stays c down up kept s
    now = record { lasts = lasts; none = none; seen = seen }

    stepped : (step : Step) → (after step s.control).ends ≡ None → SeenAt c down up kept (after step s.control) → Stays c down up kept (with_step step s)
    stepped step goes h = record { lasts = goes; none = none; seen = h }

    pub enters_goes : (slot : ℕ) → Awaits s.control → GoesAs c down up kept (phased_after (enters_end slot) s)
    enters_goes slot awaits =
        going (GoesAs c down up kept) (enters_end slot) s lasts
        (goes_as c down up kept (phased_moved (enters_end slot) s)
        (encrypting_if_keeps_end (Stays c down up kept) (owes_stays c down up kept) phase_stays key_stays request_stays _ _ _
        (stepped (Enters slot (is_quiet_now s)) (open_step (λ (d : Control). d.ends ≡ None) (Enters slot (is_quiet_now s)) s.control lasts lasts)
        (enters c down up kept slot (is_quiet_now s) s.control awaits seen))))

    hosted : (step : HostStep) → Stays c down up kept (phased_moved (host_step step) s)
    hosted (AsksFor ask) =
        stepped (Asks ask) (open_step (λ (d : Control). d.ends ≡ None) (Asks ask) s.control lasts lasts) (asks c down up kept ask s.control seen)
    hosted (AnswersRequest answer) =
        stepped (Answers answer)
        (open_step (λ (d : Control). d.ends ≡ None) (Answers answer) s.control lasts
        (table_lasts (is_host_asked s.control.table.progress && is_answer answer) (host_answer_step s.control.table answer) s.control lasts))
        (answers c down up kept answer s.control seen)
    hosted (Ends reason) =
        stepped (Disconnects reason)
        (open_step (λ (d : Control). d.ends ≡ None) (Disconnects reason) s.control lasts
        (table_lasts (is_open s.control.table.closing) (terminate_step s.control.table reason) s.control lasts))
        (disconnects c down up kept reason s.control seen)
    hosted HasKey = given_keeps_end (Stays c down up kept) (owes_stays c down up kept) phase_stays key_stays request_stays s now
    hosted HasNoKey = lacking_keeps_end (Stays c down up kept) (owes_stays c down up kept) phase_stays key_stays request_stays s now

    pub hosts_goes : (step : HostStep) → GoesAs c down up kept (phased_after (host_step step) s)
    hosts_goes step =
        going (GoesAs c down up kept) (host_step step) s lasts (goes_as c down up kept (phased_moved (host_step step) s) (hosted step))

-- ---- it fixes a PDU

module _ (c : Control) (down : Way) (kept : Option Pdu) (s : Phased) (x : Peripheral) (is : s.control.table.progress ≡ peripheral x) (lasts : s.control.ends ≡ None)
    (none : s.kept ≡ None) where
  abbrev fixed : Way
  fixed = way_if (λ q. Fixed q) (pdu_of_outgoing (next_out s))

  following_lasts : (role : Role) (some : Option Indication) (d : Control) → d.ends ≡ None → (following role some d).ends ≡ None
  following_lasts central_role (Some indication) d goes = goes
  following_lasts role some d goes = goes

  goes_by : (o : Option Ctrl) → is_some (item_by (next_out s) o) ≡ true → (d : Control) → d.ends ≡ None → SeenAt c down fixed kept d
      → ((if is_some o then d else s.control).ends ≡ None) × SeenAt c down fixed kept (if is_some o then d else s.control)
  goes_by None empty d goes h = absurd (cc)
  goes_by (Some ctrl) one d goes h = (goes, h)

  pub fixes_goes : (slot : ℕ) → is_some (next_item s) ≡ true → SeenAt c down Clear kept s.control → GoesAs c down fixed kept (phased_after (sends_end slot) s)
  fixes_goes slot some seen =
      let d = following (role_of s.control.table.progress) (went slot (is_quiet_now s) s.control).1 (record s.control { table = (went slot (is_quiet_now s) s.control).0 }) in
      let both =
      goes_by (ctrl_of_outgoing (next_out s) (event_of s.control.track) s.control.track.params.latency) some d
      (following_lasts (role_of s.control.table.progress) (went slot (is_quiet_now s) s.control).1 _ lasts)
      (fixed_seen c down kept s.control x is slot (is_quiet_now s) seen) in
      going (GoesAs c down fixed kept) (sends_end slot) s lasts
      (goes_as c down fixed kept (phased_moved (sends_end slot) s)
      (record {
        lasts = open_step (λ (d : Control). d.ends ≡ None) (Sends slot (is_quiet_now s)) s.control lasts both.0;
        none = none;
        seen = open_step (λ (d : Control). SeenAt c down fixed kept d) (Sends slot (is_quiet_now s)) s.control lasts both.1;
      }))

  -- ---- it sees its PDU acknowledged

  pub acks_goes : IsInTime c down s.control → SeenAt c down (way_if (λ q. Taken q) (pdu_of_outgoing s.control.table.out)) kept s.control
      → GoesAs c down Clear kept (phased_after acked_end s)
  acks_goes time seen =
      going (GoesAs c down Clear kept) acked_end s lasts
      (goes_as c down Clear kept (phased_moved acked_end s)
      (asking_keeps_end (Stays c down Clear kept) (owes_stays c down Clear kept) (phase_stays c down Clear kept) (key_stays c down Clear kept) (request_stays c down Clear kept) _ _
      (record {
        lasts =
            open_step (λ (d : Control). d.ends ≡ None) SeesAcknowledged s.control lasts
            (table_lasts (is_out s.control.table.out) (acked_step s.control.table).0 s.control lasts);
        none = none;
        seen =
            open_step (λ (d : Control). SeenAt c down Clear kept d) SeesAcknowledged s.control lasts
            (acked_seen c down kept s.control x is time seen);
      })))

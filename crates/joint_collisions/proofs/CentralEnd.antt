-- Each step of a central but that it takes a PDU, with its phase of encryption, as joint runs of the procedures that exclude each
-- other see it.
use Rattle.std.proofs.Common.{◌≡◌, ℕ, ◌≤◌, Bool, true, false, ◌&&◌, if◌then◌else◌, Option, Some, None, is_none, is_some, refl, sym, ap, subst}
use Rattle.ble_base.specs.declared.error_codes.ErrCode.{ErrCode}
use Rattle.ble_base.specs.declared.roles.Role.{Role}
use Rattle.ble_base.specs.declared.roles.Role.TheVariants.{Central as central_role}
use Rattle.data_pdu.specs.declared.ctrl.Ctrl.{Ctrl}
use Rattle.joint_controls.specs.enc_phase.declared.classes.PduClass.TheVariants.{Request}
use Rattle.joint_controls.specs.enc_phase.declared.facts.PhaseFacts.{PhaseFacts}
use Rattle.joint_controls.specs.enc_phase.declared.facts.PhaseFacts.TheVariants.{Asked, Clear as ClearPhase, HalfClear, HalfKeyed, Pausing, Secure}
use Rattle.joint_controls.specs.enc_phase.Phases.{is_quiet}
use Rattle.joint_controls.specs.enc_phase.Taking.{allows}
use Rattle.instants.specs.Track.{event_of}
use Rattle.collision_steps.specs.procedure_values.Drafts.{ctrl_of_outgoing, is_out}
use Rattle.collision_steps.specs.procedure_stages.declared.stages.Central.{Central}
use Rattle.collision_steps.specs.procedure_stages.declared.stages.Progress.TheVariants.{Central as central}
use Rattle.collision_steps.specs.procedure_stages.InProgress.{is_host_asked}
use Rattle.collision_steps.specs.procedure_stages.Closing.{is_open}
use Rattle.collision_steps.specs.procedure_stages.Kinds.{role_of}
use Rattle.collision_steps.specs.procedures.Going.{host_answer_step, is_answer, terminate_step}
use Rattle.collision_steps.specs.procedures.Sending.{acked_step}
use Rattle.collision_steps.specs.procedures.Table.{TableFacts}
use Rattle.collisions.specs.declared.joint.Way.{Way}
use Rattle.collisions.specs.declared.joint.Way.TheVariants.{Clear, OnAir, Taken}
use Rattle.collisions.specs.JointRun.{pdu_on_air}
use Rattle.collision_steps.specs.Parts.{outgoing_part}
use Rattle.joint_controls.specs.control_model.Control.{Answers, Asks, Control, Disconnects, Enters, SeesAcknowledged, Sends, Step, after, following, table_if, went}
use Rattle.joint_controls.specs.control_model.Waits.{EndsByCollision}
use Rattle.joint_controls.proofs.control_model.Calls.{open_step}
use Rattle.joint_controls.specs.phased_control.Phased.{Phased, is_quiet_now, with_step}
use Rattle.joint_controls.specs.phased_control.Taken.{Enters as enters_end, PhasedStep, SeesAcknowledged as acked_end, Sends as sends_end, phased_after, phased_moved}
use Rattle.joint_controls.specs.Joint.{AnswersRequest, AsksFor, Ends, HasKey, HasNoKey, HostStep, host_step, item_by, next_item, next_out}
use Rattle.joint_controls.proofs.Keeping.{asking_keeps_end, encrypting_if_keeps_end, given_keeps_end, lacking_keeps_end}
use Rattle.joint_collisions.proofs.Alone.{CentralKnown}
use Rattle.joint_collisions.specs.Views.{kept_part, way_if}
use Rattle.joint_collisions.proofs.CentralTakes.{GoesAs, Stays, owes_stays}
use Rattle.joint_collisions.proofs.CentralSteps.{SeenAt, answers, asks, disconnects, enters}
use Rattle.joint_collisions.proofs.Sending.{MaySend, acked_seen, sent_seen}

-- ---- an end goes on

pub going : (P : Phased → Type 0) (step : PhasedStep) (s : Phased) → s.control.ends ≡ None → P (phased_moved step s) → P (phased_after step s)
going P step s lasts h =
    subst (λ (b : Bool). P (if b then phased_moved step s else s)) (sym (ap (λ (ends : Option ErrCode). is_none ends) lasts)) h

-- what changes the table alone ends no link
pub table_lasts : (b : Bool) (g : TableFacts) (c : Control) → c.ends ≡ None → (table_if b g c).ends ≡ None
table_lasts true g c lasts = lasts
table_lasts false g c lasts = lasts

-- in phase Clear or Secure each PDU is allowed
quiet_allows : (phase : PhaseFacts) → is_quiet phase ≡ true → allows phase central_role Request ≡ true
quiet_allows ClearPhase quiet = refl
quiet_allows Secure quiet = refl
quiet_allows (Asked after_pause enc_rsp kept) quiet = absurd (cc)
quiet_allows HalfKeyed quiet = absurd (cc)
quiet_allows (Pausing kept) quiet = absurd (cc)
quiet_allows (HalfClear kept) quiet = absurd (cc)

pub quiet_keeps_none : (s : Phased) → CentralKnown s → is_quiet_now s ≡ true → s.kept ≡ None
quiet_keeps_none s facts quiet = by s.kept refl
  where
    by : (kept : Option Ctrl) → s.kept ≡ kept → s.kept ≡ None
    by None was = was
    by (Some ctrl) was = absurd (let no = facts.kept ctrl was in let yes = quiet_allows s.phase quiet in cc)

quiet_free : (s : Phased) → CentralKnown s → is_quiet_now s ≡ true → kept_part s.kept ≡ None
quiet_free s facts quiet = ap kept_part (quiet_keeps_none s facts quiet)

module _ (p : Control) (down up : Way) where
  pub stays_goes : (kept : Option Ctrl) (s : Phased) → Stays p down up kept s → GoesAs p down up s
  stays_goes kept s h =
      record {
        goes = λ lasts. subst (λ (k : Option Ctrl). SeenAt p down up (kept_part k) s.control) (sym h.same) h.seen;
        never = λ met. subst EndsByCollision h.lasts met;
      }

  abbrev phase_stays : (kept : Option Ctrl) (phase : PhaseFacts) (t : Phased) → Stays p down up kept t → Stays p down up kept (record t { phase = phase })
  phase_stays kept phase t k = record { lasts = k.lasts; same = k.same; seen = k.seen }

  abbrev key_stays : (kept : Option Ctrl) (asks : Bool) (t : Phased) → Stays p down up kept t → Stays p down up kept (record t { asks_key = asks })
  key_stays kept asks t k = record { lasts = k.lasts; same = k.same; seen = k.seen }

  abbrev request_stays : (kept request : Option Ctrl) (t : Phased) → Stays p down up kept t → Stays p down up kept (record t { request = request })
  request_stays kept request t k = record { lasts = k.lasts; same = k.same; seen = k.seen }

  module _ (s : Phased) (lasts : s.control.ends ≡ None) (seen : SeenAt p down up (kept_part s.kept) s.control) where
    now : Stays p down up s.kept s
    now = record { lasts = lasts; same = refl; seen = seen }

    stepped : (step : Step) → (after step s.control).ends ≡ None → SeenAt p down up (kept_part s.kept) (after step s.control) → Stays p down up s.kept (with_step step s)
    stepped step goes h = record { lasts = goes; same = refl; seen = h }

    pub enters_goes : (slot : ℕ) → CentralKnown s → GoesAs p down up (phased_after (enters_end slot) s)
    enters_goes slot facts =
        going (GoesAs p down up) (enters_end slot) s lasts
        (stays_goes s.kept (phased_moved (enters_end slot) s)
        (encrypting_if_keeps_end (Stays p down up s.kept) (owes_stays p down up s.kept) (phase_stays s.kept) (key_stays s.kept) (request_stays s.kept) _ _ _
        (stepped (Enters slot (is_quiet_now s)) (open_step (λ (c : Control). c.ends ≡ None) (Enters slot (is_quiet_now s)) s.control lasts lasts)
        (enters p down up (kept_part s.kept) slot (is_quiet_now s) s.control (quiet_free s facts) seen))))

    hosted : (step : HostStep) → Stays p down up s.kept (phased_moved (host_step step) s)
    hosted (AsksFor ask) =
        stepped (Asks ask) (open_step (λ (c : Control). c.ends ≡ None) (Asks ask) s.control lasts lasts) (asks p down up (kept_part s.kept) ask s.control seen)
    hosted (AnswersRequest answer) =
        stepped (Answers answer)
        (open_step (λ (c : Control). c.ends ≡ None) (Answers answer) s.control lasts
        (table_lasts (is_host_asked s.control.table.progress && is_answer answer) (host_answer_step s.control.table answer) s.control lasts))
        (answers p down up (kept_part s.kept) answer s.control seen)
    hosted (Ends reason) =
        stepped (Disconnects reason)
        (open_step (λ (c : Control). c.ends ≡ None) (Disconnects reason) s.control lasts
        (table_lasts (is_open s.control.table.closing) (terminate_step s.control.table reason) s.control lasts))
        (disconnects p down up (kept_part s.kept) reason s.control seen)
    hosted HasKey = given_keeps_end (Stays p down up s.kept) (owes_stays p down up s.kept) (phase_stays s.kept) (key_stays s.kept) (request_stays s.kept) s now
    hosted HasNoKey = lacking_keeps_end (Stays p down up s.kept) (owes_stays p down up s.kept) (phase_stays s.kept) (key_stays s.kept) (request_stays s.kept) s now

    pub hosts_goes : (step : HostStep) → GoesAs p down up (phased_after (host_step step) s)
    hosts_goes step =
        going (GoesAs p down up) (host_step step) s lasts (stays_goes s.kept (phased_moved (host_step step) s) (hosted step))

-- ---- it sends

pub may_send_of : (s : Phased) → CentralKnown s → MaySend s.control (is_quiet_now s)
may_send_of s facts = record { drafts = facts.drafts; closing = facts.closing }

module _ (p : Control) (up : Way) (s : Phased) (x : Central) (is : s.control.table.progress ≡ central x) (lasts : s.control.ends ≡ None) (slot : ℕ)
    (few : s.control.track.params.latency ≤ 499) (facts : CentralKnown s) (free : is_none (pdu_on_air up) ≡ true) (some : is_some (next_item s) ≡ true) where
  abbrev on_air : Way
  on_air = way_if (λ q. OnAir q) (outgoing_part (next_out s))

  follows_as : (role : Role) → role ≡ central_role → SeenAt p on_air up (kept_part s.kept) (following central_role (went slot (is_quiet_now s) s.control).1 (record s.control { table = (went slot (is_quiet_now s) s.control).0 }))
      → SeenAt p on_air up (kept_part s.kept) (following role (went slot (is_quiet_now s) s.control).1 (record s.control { table = (went slot (is_quiet_now s) s.control).0 }))
  follows_as role own h = rw own h

  following_lasts : (role : Role) (some : Option _) (c : Control) → c.ends ≡ None → (following role some c).ends ≡ None
  following_lasts central_role (Some indication) c goes = goes
  following_lasts role some c goes = goes

  goes_by : (o : Option Ctrl) → is_some (item_by (next_out s) o) ≡ true → (d : Control) → d.ends ≡ None → SeenAt p on_air up (kept_part s.kept) d
      → ((if is_some o then d else s.control).ends ≡ None) × SeenAt p on_air up (kept_part s.kept) (if is_some o then d else s.control)
  goes_by None none d goes h = absurd (cc)
  goes_by (Some ctrl) one d goes h = (goes, h)

  pub sends_goes : SeenAt p Clear up (kept_part s.kept) s.control → GoesAs p on_air up (phased_after (sends_end slot) s)
  sends_goes seen =
      let own = seen.role in
      let d = following (role_of s.control.table.progress) (went slot (is_quiet_now s) s.control).1 (record s.control { table = (went slot (is_quiet_now s) s.control).0 }) in
      let both =
      goes_by (ctrl_of_outgoing (next_out s) (event_of s.control.track) s.control.track.params.latency) some d
      (following_lasts (role_of s.control.table.progress) (went slot (is_quiet_now s) s.control).1 _ lasts)
      (follows_as (role_of s.control.table.progress) own (sent_seen p up (kept_part s.kept) s.control x is slot (is_quiet_now s) few (may_send_of s facts) free seen)) in
      going (GoesAs p on_air up) (sends_end slot) s lasts
      (stays_goes p on_air up s.kept (phased_moved (sends_end slot) s)
      (record {
        lasts = open_step (λ (c : Control). c.ends ≡ None) (Sends slot (is_quiet_now s)) s.control lasts both.0;
        same = refl;
        seen = open_step (λ (c : Control). SeenAt p on_air up (kept_part s.kept) c) (Sends slot (is_quiet_now s)) s.control lasts both.1;
      }))

-- ---- it sees its PDU acknowledged

module _ (p : Control) (up : Way) (s : Phased) (x : Central) (is : s.control.table.progress ≡ central x) (lasts : s.control.ends ≡ None)
    (same : event_of s.control.track ≡ event_of p.track) where
  pub acks_goes : SeenAt p (way_if (λ q. Taken q) (outgoing_part s.control.table.out)) up (kept_part s.kept) s.control → GoesAs p Clear up (phased_after acked_end s)
  acks_goes seen =
      going (GoesAs p Clear up) acked_end s lasts
      (stays_goes p Clear up s.kept (phased_moved acked_end s)
      (asking_keeps_end (Stays p Clear up s.kept) (owes_stays p Clear up s.kept) (phase_stays p Clear up s.kept) (key_stays p Clear up s.kept) (request_stays p Clear up s.kept) _ _
      (record {
        lasts =
            open_step (λ (c : Control). c.ends ≡ None) SeesAcknowledged s.control lasts
            (table_lasts (is_out s.control.table.out) (acked_step s.control.table).0 s.control lasts);
        same = refl;
        seen =
            open_step (λ (c : Control). SeenAt p Clear up (kept_part s.kept) c) SeesAcknowledged s.control lasts
            (acked_seen p up (kept_part s.kept) s.control x is same seen);
      })))

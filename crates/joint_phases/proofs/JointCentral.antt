-- A step of the central of a joint run, but for a control PDU that it takes: the machine's event.
use Rattle.std.proofs.Common.{◌≡◌, ℕ, Bool, true, false, not, Option, Some, None, is_none, is_some, refl, ap, sym, ◌∙◌, if◌then◌else◌}
use Rattle.std.proofs.lemmas.Bool.{and_from, and_parts, or_left}
use Rattle.ble_base.specs.declared.roles.Role.TheVariants.{Central as central_role}
use Rattle.phase_pairs.specs.enc_phase.declared.classes.PduClass.{PduClass}
use Rattle.phase_pairs.specs.enc_phase.declared.classes.PduClass.TheVariants.{Data as data_class}
use Rattle.phase_pairs.specs.enc_phase.declared.facts.PhaseFacts.{PhaseFacts}
use Rattle.phase_pairs.specs.enc_phase.Phases.{is_quiet, seals}
use Rattle.joint_controls.specs.procedure_stages.Closing.{is_open}
use Rattle.joint_controls.specs.procedure_stages.InProgress.{is_host_asked}
use Rattle.phase_pairs.specs.declared.central.PhaseCentral.{PhaseCentral}
use Rattle.phase_pairs.specs.declared.joint.PhaseEvent.{PhaseEvent}
use Rattle.phase_pairs.specs.declared.joint.PhaseEvent.TheVariants.{CentralCloses, CentralEncrypts}
use Rattle.phase_pairs.specs.declared.joint.PhaseLink.{PhaseLink}
use Rattle.phase_pairs.specs.declared.joint.PhaseWay.TheVariants.{OnAir as way_on_air}
use Rattle.phase_pairs.specs.Central.{central_asking, central_encrypts, central_sent, may_send_pdu}
use Rattle.phase_pairs.specs.JointRun.{is_control_coming, is_pause_rsp_taken, is_way_clear, is_way_taken, phases_act, phases_may}
use Rattle.joint_controls.specs.phased_control.Phased.{Phased, is_pause_rsp, is_quiet_now}
use Rattle.joint_controls.specs.phased_control.Taken.{PhasedStep, Answers, Asks, Disconnects, Enters, GivesKey, LacksKey, SeesAcknowledged, Sends, phased_after}
use Rattle.joint_controls.specs.Joint.{HostStep, Item, Joint, Way, AnswersRequest, AsksFor, CentralAcked, CentralEnters, CentralHost, CentralSends, CentralSendsData, Clear, Control, Data, Ends, Fixed, HasKey, HasNoKey, OnAir, Taken, act, is_clear, is_free, is_running, is_taken, may_act, may_transmit, next_item, on_air, sends_data}
use Rattle.joint_phases.specs.Classes.{class_down, draft_down, item_class}
use Rattle.joint_phases.specs.Events.{does_encrypt, event_if, event_of_step, item_or_none}
use Rattle.joint_phases.specs.Facts.{are_of_own}
use Rattle.joint_phases.specs.Parts.{IsCentral, IsShown, closing_down, way_down, way_up}
use Rattle.joint_phases.proofs.CentralEnters.{EntersAs, at_open, central_enters}
use Rattle.joint_phases.proofs.CentralGoes.{ClosesAs, central_acked, central_answers, central_asks, central_disconnects, central_key, central_lacks}
use Rattle.joint_phases.proofs.CentralSends.{central_sends}
use Rattle.joint_phases.proofs.Knowing.{knows_stays, takes_none}
use Rattle.joint_phases.proofs.MachineFacts.{Settled}

-- what a step does in the machine
abbrev pub Goes : Option PhaseEvent → Joint → PhaseLink → Type 0
Goes None s m = IsShown s m
Goes (Some event) s m = (phases_may event m ≡ true) × IsShown s (phases_act event m)

pub none_of : {A : Type 0} (o : Option A) → is_none o ≡ true → o ≡ None
none_of None h = refl
none_of (Some x) h = absurd (cc)

-- what a run that goes on says
pub record Runs (s : Joint) : Type 0 where
  pub goes : s.stopped ≡ false
  pub central : s.central.control.ends ≡ None
  pub peripheral : s.peripheral.control.ends ≡ None

not_true : (b : Bool) → not b ≡ true → b ≡ false
not_true true h = absurd (cc)
not_true false h = refl

pub runs : (s : Joint) → is_running s ≡ true → Runs s
runs s running =
    let one = and_parts (not s.stopped) _ running in
    let two = and_parts (is_none s.central.control.ends) (is_none s.peripheral.control.ends) one.1 in
    record { goes = not_true s.stopped one.0; central = none_of _ two.0; peripheral = none_of _ two.1 }

-- ---- one end changes

pub shown_central : (s : Joint) (m : PhaseLink) (t : Phased) (c : PhaseCentral) → IsShown s m → IsCentral t c → t.knows_version ≡ s.central.knows_version
    → IsShown (record s { central = t }) (record m { central = c })
shown_central s m t c is part knows =
    record { central = part; peripheral = is.peripheral; down = is.down ∙ ap (λ b. way_down b s.down) (sym knows); up = is.up }

module _ (s : Joint) (m : PhaseLink) (is : IsShown s m) (runs_on : Runs s) where
  -- ---- an event is entered

  entered_if : (b : Bool) (t : Phased) → EntersAs b t m.central → t.knows_version ≡ s.central.knows_version → Goes (event_if b CentralEncrypts) (record s { central = t }) m
  entered_if true t h knows = (h.0, shown_central s m t (central_encrypts m.central) is h.1 knows)
  entered_if false t h knows = shown_central s m t m.central is h knows

  pub goes_enters : (slot : ℕ) → Settled m → are_of_own (draft_down s.central.knows_version) s.central.control.table.queue.drafts s.central.control.table.progress ≡ true
      → Goes (event_of_step (CentralEnters slot) s) (act (CentralEnters slot) s) m
  goes_enters slot settled own =
      let alone : is_quiet m.central.phase ≡ true → m.central.queued ≡ None = λ quiet. none_of _ (settled.quiet_queued quiet) in
      let P : Phased → Type 0 =
      λ c. IsCentral c m.central → are_of_own (draft_down c.knows_version) c.control.table.queue.drafts c.control.table.progress ≡ true
      → EntersAs (does_encrypt c) (phased_after (Enters slot) c) m.central in
      let h = at_open P s.central runs_on.central (λ part. λ o. central_enters s.central m.central slot part o alone) is.central own in
      entered_if (does_encrypt s.central) (phased_after (Enters slot) s.central) h (knows_stays (Enters slot) s.central refl)

  -- ---- the host

  closes_if : (b : Bool) (t : Phased) → ClosesAs m.central b t → t.knows_version ≡ s.central.knows_version
      → Goes (event_if b CentralCloses) (record s { central = t }) m
  closes_if true t h knows = (h.0, shown_central s m t (record m.central { closed = true }) is h.1 knows)
  closes_if false t h knows = shown_central s m t m.central is h knows

  same_part : (step : PhasedStep) → takes_none step ≡ true → IsCentral (phased_after step s.central) m.central
      → IsShown (record s { central = phased_after step s.central }) m
  same_part step none part = shown_central s m (phased_after step s.central) m.central is part (knows_stays step s.central none)

  pub goes_host : (step : HostStep) → (is_host_asked s.central.control.table.progress ≡ true → is_quiet_now s.central ≡ true)
      → Goes (event_of_step (CentralHost step) s) (act (CentralHost step) s) m
  goes_host (AsksFor ask) quiet =
      same_part (Asks ask) refl (at_open (λ c. IsCentral c m.central → IsCentral (phased_after (Asks ask) c) m.central) s.central runs_on.central (central_asks s.central m.central ask) is.central)
  goes_host (AnswersRequest answer) quiet =
      let P : Phased → Type 0 =
      λ c. IsCentral c m.central → (is_host_asked c.control.table.progress ≡ true → is_quiet c.phase ≡ true) → IsCentral (phased_after (Answers answer) c) m.central in
      same_part (Answers answer) refl (at_open P s.central runs_on.central (λ part. λ q. central_answers s.central m.central part answer q) is.central quiet)
  goes_host (Ends reason) quiet =
      let P : Phased → Type 0 = λ c. IsCentral c m.central → ClosesAs m.central (is_open c.control.table.closing) (phased_after (Disconnects reason) c) in
      let h = at_open P s.central runs_on.central (λ part. central_disconnects s.central m.central part reason) is.central in
      closes_if (is_open s.central.control.table.closing) (phased_after (Disconnects reason) s.central) h (knows_stays (Disconnects reason) s.central refl)
  goes_host HasKey quiet =
      same_part GivesKey refl (at_open (λ c. IsCentral c m.central → IsCentral (phased_after GivesKey c) m.central) s.central runs_on.central (λ part. central_key s.central m.central part) is.central)
  goes_host HasNoKey quiet =
      same_part LacksKey refl (at_open (λ c. IsCentral c m.central → IsCentral (phased_after LacksKey c) m.central) s.central runs_on.central (λ part. central_lacks s.central m.central part) is.central)

  -- ---- a PDU is sent

  clear_down : (knows : Bool) (w : Way) → is_clear w ≡ true → is_way_clear (way_down knows w) ≡ true
  clear_down knows Clear h = refl
  clear_down knows w h = absurd (cc)

  free_up : (knows : Bool) (w : Way) → is_free w ≡ true → not (is_control_coming (way_up knows w)) ≡ true
  free_up knows Clear h = refl
  free_up knows (Fixed item sealed) h = refl
  free_up knows (OnAir Data sealed) h = refl
  free_up knows (OnAir (Control outgoing ctrl) sealed) h = absurd (cc)
  free_up knows (Taken item) h = refl

  may_go : may_transmit s.down s.up ≡ true → (is_way_clear m.down ≡ true) × (not (is_control_coming m.up) ≡ true)
  may_go may =
      let h = and_parts (is_clear s.down) (is_free s.up) may in (
        ap is_way_clear is.down ∙ clear_down s.central.knows_version s.down h.0,
        ap (λ w. not (is_control_coming w)) is.up ∙ free_up s.peripheral.knows_version s.up h.1,
      )

  way_sent : (knows now sealed : Bool) (item : Option Item) → is_some item ≡ true → now ≡ knows
      → way_on_air (item_or_none (class_down knows) item) sealed ≡ way_down now (on_air item sealed)
  way_sent knows now sealed None some same = absurd (cc)
  way_sent knows now sealed (Some item) some same = ap (λ b. way_on_air (item_class (class_down b) item) sealed) (sym same)

  pub goes_sends : (slot : ℕ) → are_of_own (draft_down s.central.knows_version) s.central.control.table.queue.drafts s.central.control.table.progress ≡ true
      → may_act (CentralSends slot) s ≡ true → Goes (event_of_step (CentralSends slot) s) (act (CentralSends slot) s) m
  goes_sends slot own may =
      let two = and_parts (may_transmit s.down s.up) (is_some (next_item s.central)) may in
      let go = may_go two.0 in
      let pdu : PduClass = item_or_none (class_down s.central.knows_version) (next_item s.central) in
      let P : Phased → Type 0 =
      λ c. IsCentral c m.central → are_of_own (draft_down c.knows_version) c.control.table.queue.drafts c.control.table.progress ≡ true → is_some (next_item c) ≡ true
      → (may_send_pdu (item_or_none (class_down c.knows_version) (next_item c)) m.central ≡ true)
      × IsCentral (phased_after (Sends slot) c) (central_sent (item_or_none (class_down c.knows_version) (next_item c)) m.central) in
      let h = at_open P s.central runs_on.central (λ part. λ o. λ some. central_sends s.central m.central slot part o some) is.central own two.1 in (
        and_from _ _ go.0 (and_from _ _ go.1 h.0),
        record {
          central = h.1;
          peripheral = is.peripheral;
          down =
              ap (λ (p : PhaseFacts). way_on_air pdu (seals central_role p)) (sym is.central.phase)
              ∙ way_sent s.central.knows_version (phased_after (Sends slot) s.central).knows_version (seals central_role s.central.phase) (next_item s.central) two.1
              (knows_stays (Sends slot) s.central refl);
          up = is.up;
        },
      )

  data_may : (closed : Bool) → is_open (closing_down closed) ≡ true → not closed ≡ true
  data_may true h = absurd (cc)
  data_may false h = refl

  pub goes_sends_data : may_act CentralSendsData s ≡ true → Goes (event_of_step CentralSendsData s) (act CentralSendsData s) m
  goes_sends_data may =
      let two = and_parts (may_transmit s.down s.up) (sends_data s.central) may in
      let go = may_go two.0 in
      let sends = (and_parts (is_none (next_item s.central)) _ two.1).1 in
      let parts = and_parts (is_quiet_now s.central) (is_open s.central.control.table.closing) sends in (
        and_from _ _ go.0
            (and_from _ _ go.1
            (and_from _ _ (ap is_quiet (sym is.central.phase) ∙ parts.0) (data_may m.central.closed (ap is_open (sym is.central.closing) ∙ parts.1)))),
        record {
          central = is.central;
          peripheral = is.peripheral;
          down = ap (λ (p : PhaseFacts). way_on_air data_class (seals central_role p)) (sym is.central.phase);
          up = is.up;
        },
      )

  -- ---- it is acknowledged

  taken_down : (knows : Bool) (w : Way) → is_taken w ≡ true → is_way_taken (way_down knows w) ≡ true
  taken_down knows (Taken item) h = refl
  taken_down knows w h = absurd (cc)

  pub goes_acked : Settled m → (is_taken s.down ≡ true → is_pause_rsp s.central.control.table.out ≡ is_pause_rsp_taken (way_down s.central.knows_version s.down))
      → may_act CentralAcked s ≡ true → Goes (event_of_step CentralAcked s) (act CentralAcked s) m
  goes_acked settled is_out may =
      let taken = (and_parts (is_taken s.down) _ may).0 in
      let out : is_pause_rsp s.central.control.table.out ≡ is_pause_rsp_taken m.down = is_out taken ∙ ap is_pause_rsp_taken (sym is.down) in
      let P : Phased → Type 0 =
      λ c. IsCentral c m.central → is_pause_rsp c.control.table.out ≡ is_pause_rsp_taken m.down
      → IsCentral (phased_after SeesAcknowledged c) (if is_pause_rsp_taken m.down then central_asking m.central else m.central) in
      let h =
      at_open P s.central runs_on.central
      (λ part. λ o. central_acked s.central m.central (is_pause_rsp_taken m.down) o (λ b. settled.pause_phase (or_left _ _ b)) (λ b. none_of _ (settled.pause_queued (or_left _ _ b))) part)
      is.central out in (
        ap is_way_taken is.down ∙ taken_down s.central.knows_version s.down taken,
        record { central = h; peripheral = is.peripheral; down = refl; up = is.up },
      )

-- A step of the peripheral of a joint run, but for a control PDU that it takes: the machine's event.
use Rattle.std.proofs.Common.{◌≡◌, ℕ, Bool, true, false, not, ◌&&◌, Option, Some, None, is_some, refl, ap, sym, subst, ◌∙◌, if◌then◌else◌}
use Rattle.std.proofs.lemmas.Bool.{and_from, and_parts, or_from}
use Rattle.ble_base.specs.declared.roles.Role.TheVariants.{Peripheral as peripheral_role}
use Rattle.data_pdu.specs.declared.ctrl.Ctrl.{Ctrl}
use Rattle.data_pdu.specs.declared.ctrl.Ctrl.TheVariants.{RejectExtInd, VersionInd}
use Rattle.phase_pairs.specs.enc_phase.declared.classes.PduClass.{PduClass}
use Rattle.phase_pairs.specs.enc_phase.declared.classes.PduClass.TheVariants.{Data as data_class, Other, Refusal}
use Rattle.phase_pairs.specs.enc_phase.declared.facts.PhaseFacts.{PhaseFacts}
use Rattle.phase_pairs.specs.enc_phase.Phases.{is_quiet, seals}
use Rattle.joint_controls.specs.procedure_stages.Closing.{is_open}
use Rattle.phase_pairs.specs.declared.joint.PhaseEvent.TheVariants.{KeyGiven, KeyRefused, PeripheralBegins, PeripheralCloses}
use Rattle.phase_pairs.specs.declared.joint.PhaseLink.{PhaseLink}
use Rattle.phase_pairs.specs.declared.joint.PhaseWay.{PhaseWay}
use Rattle.phase_pairs.specs.declared.joint.PhaseWay.TheVariants.{Fixed as way_fixed, OnAir as way_on_air}
use Rattle.phase_pairs.specs.declared.peripheral.PhasePeripheral.{PhasePeripheral}
use Rattle.phase_pairs.specs.JointRun.{is_coming, is_control_coming, is_data, is_request, is_way_clear, is_way_fixed, is_way_taken, keeps_request, peripheral_sends}
use Rattle.phase_pairs.specs.Peripheral.{has_unsent, is_unsent, may_fix, peripheral_begins, peripheral_closes, peripheral_fixed, peripheral_with_key, peripheral_without_key}
use Rattle.joint_controls.specs.phased_control.Phased.{Phased}
use Rattle.joint_controls.specs.phased_control.Taken.{PhasedStep, Answers, Asks, Disconnects, Enters, GivesKey, LacksKey, SeesAcknowledged, Sends, phased_after}
use Rattle.joint_controls.specs.Joint.{HostStep, Item, Joint, Way, AnswersRequest, AsksFor, Clear, Control, Data, Ends, Fixed, HasKey, HasNoKey, OnAir, PeripheralAcked, PeripheralEnters, PeripheralFixes, PeripheralFixesData, PeripheralHost, PeripheralSends, Taken, act, fixed, is_clear, is_fixed, is_free, is_item, is_taken, may_act, next_item, sends_data, sent_up}
use Rattle.joint_phases.specs.Classes.{class_up, draft_up, has_request, item_class, version_class}
use Rattle.joint_phases.specs.Events.{does_begin, event_if, event_of_step, item_or_none}
use Rattle.joint_phases.specs.Facts.{drafts_of, has_no_first, is_first_up, item_untaken}
use Rattle.joint_phases.specs.Parts.{IsPeripheral, IsShown, way_down, way_up}
use Rattle.joint_phases.proofs.CentralEnters.{at_open}
use Rattle.joint_phases.proofs.JointCentral.{Goes, Runs}
use Rattle.joint_phases.proofs.Knowing.{knows_stays, takes_none}
use Rattle.joint_phases.proofs.MachineFacts.{Settled}
use Rattle.joint_phases.proofs.PeripheralEnters.{BeginsAs, ClosesAs, begins_quiet, open_up, peripheral_answers, peripheral_asks, peripheral_disconnects, peripheral_enters}
use Rattle.joint_phases.proofs.PeripheralGoes.{HasRoom, KeyAs, NoKeyAs, peripheral_key, peripheral_lacks}
use Rattle.joint_phases.proofs.PeripheralQueue.{no_first_waits}
use Rattle.joint_phases.proofs.PeripheralSends.{peripheral_acked, peripheral_fixes, peripheral_fixes_data}

pub shown_peripheral : (s : Joint) (m : PhaseLink) (t : Phased) (p : PhasePeripheral) → IsShown s m → IsPeripheral t p → t.knows_version ≡ s.peripheral.knows_version
    → IsShown (record s { peripheral = t }) (record m { peripheral = p })
shown_peripheral s m t p is part knows =
    record { central = is.central; peripheral = part; down = is.down; up = is.up ∙ ap (λ b. way_up b s.up) (sym knows) }

not_is : (b : Bool) → not b ≡ true → b ≡ false
not_is true h = absurd (cc)
not_is false h = refl

-- data is no control PDU
class_not_data : (b : Bool) → is_data (if b then Refusal else Other) ≡ false
class_not_data true = refl
class_not_data false = refl

version_not_data : (knows : Bool) → is_data (version_class knows) ≡ false
version_not_data true = refl
version_not_data false = refl

pub control_up : (knows : Bool) (ctrl : Ctrl) → is_data (class_up knows ctrl) ≡ false
control_up knows (VersionInd version company sub) = version_not_data knows
control_up knows (RejectExtInd opcode code) = class_not_data _
control_up knows ctrl = refl

module _ (s : Joint) (m : PhaseLink) (is : IsShown s m) (runs_on : Runs s) where
  same_part : (step : PhasedStep) → takes_none step ≡ true → IsPeripheral (phased_after step s.peripheral) m.peripheral
      → IsShown (record s { peripheral = phased_after step s.peripheral }) m
  same_part step none part = shown_peripheral s m (phased_after step s.peripheral) m.peripheral is part (knows_stays step s.peripheral none)

  -- ---- an event is entered

  no_first_up : (knows : Bool) (w : Way) → is_item (is_first_up knows) (item_untaken w) ≡ false → is_coming is_request (way_up knows w) ≡ false
  no_first_up knows Clear h = refl
  no_first_up knows (Fixed item sealed) h = h
  no_first_up knows (OnAir item sealed) h = h
  no_first_up knows (Taken item) h = refl

  begins_if : (b : Bool) (t : Phased) → does_begin s.peripheral ≡ b → BeginsAs b t m.peripheral → t.knows_version ≡ s.peripheral.knows_version
      → (b ≡ true → has_no_first s ≡ true) → (b ≡ true → (is_quiet s.peripheral.phase ≡ true) × (is_open s.peripheral.control.table.closing ≡ true))
      → Goes (event_if b PeripheralBegins) (record s { peripheral = t }) m
  begins_if false t at h knows alone opens = shown_peripheral s m t m.peripheral is h knows
  begins_if true t at h knows alone opens =
      let none = and_parts (not (has_request (draft_up s.peripheral.knows_version) (drafts_of s.peripheral))) _ (alone refl) in
      let rest = and_parts (not (is_item (is_first_up s.peripheral.knows_version) (item_untaken s.up))) (not (keeps_request s.central.phase)) none.1 in
      let absent = no_first_waits (draft_up s.peripheral.knows_version) (drafts_of s.peripheral) m.peripheral (not_is _ none.0) is.peripheral.waits in
      let unsent : has_unsent m.peripheral ≡ false = ap is_unsent absent in
      let coming : is_coming is_request m.up ≡ false = ap (is_coming is_request) is.up ∙ no_first_up s.peripheral.knows_version s.up (not_is _ rest.0) in (
        and_from _ _ (ap is_quiet (sym is.peripheral.phase) ∙ (opens refl).0)
            (and_from _ _ (sym (open_up m.peripheral.closing) ∙ ap is_open (sym is.peripheral.closing) ∙ (opens refl).1)
            (and_from _ _ (ap not (or_from (has_unsent m.peripheral) (is_coming is_request m.up) unsent coming)) (ap (λ q. not (keeps_request q)) (sym is.central.phase) ∙ rest.1))),
        shown_peripheral s m t (peripheral_begins m.peripheral) is h knows,
      )

  pub goes_enters : (slot : ℕ) → (does_begin s.peripheral ≡ true → has_no_first s ≡ true)
      → (s.peripheral.knows_version ≡ true → is_open s.peripheral.control.table.closing ≡ true → s.peripheral.control.table.version_used ≡ true)
      → Goes (event_of_step (PeripheralEnters slot) s) (act (PeripheralEnters slot) s) m
  goes_enters slot alone known =
      let P : Phased → Type 0 =
      λ c. IsPeripheral c m.peripheral → (does_begin c ≡ true → has_request (draft_up c.knows_version) c.control.table.queue.drafts ≡ false)
      → (c.knows_version ≡ true → is_open c.control.table.closing ≡ true → c.control.table.version_used ≡ true)
      → BeginsAs (does_begin c) (phased_after (Enters slot) c) m.peripheral in
      let first : does_begin s.peripheral ≡ true → has_request (draft_up s.peripheral.knows_version) (drafts_of s.peripheral) ≡ false =
      λ b. not_is _ (and_parts (not (has_request (draft_up s.peripheral.knows_version) (drafts_of s.peripheral))) _ (alone b)).0 in
      let h = at_open P s.peripheral runs_on.peripheral (λ part. λ a. λ k. peripheral_enters s.peripheral m.peripheral slot part a k) is.peripheral first known in
      begins_if (does_begin s.peripheral) (phased_after (Enters slot) s.peripheral) refl h (knows_stays (Enters slot) s.peripheral refl) alone (begins_quiet s.peripheral)

  -- ---- the host

  closes_if : (b : Bool) (t : Phased) → ClosesAs m.peripheral b t → t.knows_version ≡ s.peripheral.knows_version
      → Goes (event_if b PeripheralCloses) (record s { peripheral = t }) m
  closes_if true t h knows = (h.0, shown_peripheral s m t (peripheral_closes m.peripheral) is h.1 knows)
  closes_if false t h knows = shown_peripheral s m t m.peripheral is h knows

  key_if : (b : Bool) (t : Phased) → KeyAs m.peripheral b t → t.knows_version ≡ s.peripheral.knows_version
      → Goes (event_if b KeyGiven) (record s { peripheral = t }) m
  key_if true t h knows = (h.0, shown_peripheral s m t (peripheral_with_key m.peripheral) is h.1 knows)
  key_if false t h knows = shown_peripheral s m t m.peripheral is h knows

  lacks_if : (b : Bool) (t : Phased) → NoKeyAs m.peripheral b t → t.knows_version ≡ s.peripheral.knows_version
      → Goes (event_if b KeyRefused) (record s { peripheral = t }) m
  lacks_if true t h knows = (h.0, shown_peripheral s m t (peripheral_without_key m.peripheral) is h.1 knows)
  lacks_if false t h knows = shown_peripheral s m t m.peripheral is h knows

  key_room : Settled m → m.peripheral.asks_key ≡ true → HasRoom m.peripheral
  key_room settled asks =
      record { after = settled.second_after; room = λ h. settled.key_second asks; request = λ h. settled.key_request asks }

  pub goes_host : (step : HostStep) → Settled m → Goes (event_of_step (PeripheralHost step) s) (act (PeripheralHost step) s) m
  goes_host (AsksFor ask) settled =
      same_part (Asks ask) refl (at_open (λ c. IsPeripheral c m.peripheral → IsPeripheral (phased_after (Asks ask) c) m.peripheral) s.peripheral runs_on.peripheral
      (λ part. peripheral_asks s.peripheral m.peripheral part ask) is.peripheral)
  goes_host (AnswersRequest answer) settled =
      same_part (Answers answer) refl (at_open (λ c. IsPeripheral c m.peripheral → IsPeripheral (phased_after (Answers answer) c) m.peripheral) s.peripheral runs_on.peripheral
      (λ part. peripheral_answers s.peripheral m.peripheral part answer) is.peripheral)
  goes_host (Ends reason) settled =
      let P : Phased → Type 0 = λ c. IsPeripheral c m.peripheral → ClosesAs m.peripheral (is_open c.control.table.closing) (phased_after (Disconnects reason) c) in
      let h = at_open P s.peripheral runs_on.peripheral (λ part. peripheral_disconnects s.peripheral m.peripheral part reason) is.peripheral in
      closes_if (is_open s.peripheral.control.table.closing) (phased_after (Disconnects reason) s.peripheral) h (knows_stays (Disconnects reason) s.peripheral refl)
  goes_host HasKey settled =
      let P : Phased → Type 0 = λ c. IsPeripheral c m.peripheral → KeyAs m.peripheral (c.asks_key && is_open c.control.table.closing) (phased_after GivesKey c) in
      let h = at_open P s.peripheral runs_on.peripheral (λ part. peripheral_key s.peripheral m.peripheral part (key_room settled)) is.peripheral in
      key_if (s.peripheral.asks_key && is_open s.peripheral.control.table.closing) (phased_after GivesKey s.peripheral) h (knows_stays GivesKey s.peripheral refl)
  goes_host HasNoKey settled =
      let P : Phased → Type 0 = λ c. IsPeripheral c m.peripheral → NoKeyAs m.peripheral (c.asks_key && is_open c.control.table.closing) (phased_after LacksKey c) in
      let h = at_open P s.peripheral runs_on.peripheral (λ part. peripheral_lacks s.peripheral m.peripheral part (key_room settled)) is.peripheral in
      lacks_if (s.peripheral.asks_key && is_open s.peripheral.control.table.closing) (phased_after LacksKey s.peripheral) h (knows_stays LacksKey s.peripheral refl)

  -- ---- a PDU is fixed

  clear_up : (knows : Bool) (w : Way) → is_clear w ≡ true → is_way_clear (way_up knows w) ≡ true
  clear_up knows Clear h = refl
  clear_up knows w h = absurd (cc)

  way_now_fixed : (knows now : Bool) (item : Option Item) (b : Bool) → is_some item ≡ true → now ≡ knows → is_data (item_or_none (class_up knows) item) ≡ false
      → way_fixed (item_or_none (class_up knows) item) (is_data (item_or_none (class_up knows) item) && b) ≡ way_up now (fixed item)
  way_now_fixed knows now None b some same control = absurd (cc)
  way_now_fixed knows now (Some item) b some same control =
      (λ i. way_fixed (item_class (class_up knows) item) (control i && b)) ∙ ap (λ k. way_fixed (item_class (class_up k) item) false) (sym same)

  pub goes_fixes : (slot : ℕ) → Settled m → may_act (PeripheralFixes slot) s ≡ true → Goes (event_of_step (PeripheralFixes slot) s) (act (PeripheralFixes slot) s) m
  goes_fixes slot settled may =
      let two = and_parts (is_clear s.up) (is_some (next_item s.peripheral)) may in
      let P : Phased → Type 0 =
      λ c. IsPeripheral c m.peripheral → is_some (next_item c) ≡ true
      → (may_fix (item_or_none (class_up c.knows_version) (next_item c)) m.peripheral ≡ true)
      × (is_data (item_or_none (class_up c.knows_version) (next_item c)) ≡ false)
      × IsPeripheral (phased_after (Sends slot) c) (peripheral_fixed (item_or_none (class_up c.knows_version) (next_item c)) m.peripheral) in
      let h = at_open P s.peripheral runs_on.peripheral (λ part. λ some. peripheral_fixes s.peripheral m.peripheral slot settled.first_keyless part some) is.peripheral two.1 in (
        and_from _ _ (ap is_way_clear is.up ∙ clear_up s.peripheral.knows_version s.up two.0) h.0,
        record {
          central = is.central;
          peripheral = h.2;
          down = is.down;
          up =
              way_now_fixed s.peripheral.knows_version (phased_after (Sends slot) s.peripheral).knows_version (next_item s.peripheral) (seals peripheral_role m.peripheral.phase) two.1
              (knows_stays (Sends slot) s.peripheral refl) h.1;
        },
      )

  pub goes_fixes_data : may_act PeripheralFixesData s ≡ true → Goes (event_of_step PeripheralFixesData s) (act PeripheralFixesData s) m
  goes_fixes_data may =
      let two = and_parts (is_clear s.up) (sends_data s.peripheral) may in
      let P : Phased → Type 0 = λ c. IsPeripheral c m.peripheral → sends_data c ≡ true → may_fix data_class m.peripheral ≡ true in
      let h = at_open P s.peripheral runs_on.peripheral (λ part. λ sends. peripheral_fixes_data s.peripheral m.peripheral part sends) is.peripheral two.1 in (
        and_from _ _ (ap is_way_clear is.up ∙ clear_up s.peripheral.knows_version s.up two.0) h,
        record {
          central = is.central;
          peripheral = is.peripheral;
          down = is.down;
          up = ap (λ (p : PhaseFacts). way_fixed data_class (seals peripheral_role p)) (sym is.peripheral.phase);
        },
      )

  -- ---- it is sent

  free_down : (knows : Bool) (w : Way) → is_free w ≡ true → not (is_control_coming (way_down knows w)) ≡ true
  free_down knows Clear h = refl
  free_down knows (Fixed item sealed) h = refl
  free_down knows (OnAir Data sealed) h = refl
  free_down knows (OnAir (Control outgoing ctrl) sealed) h = absurd (cc)
  free_down knows (Taken item) h = refl

  fixed_up : (knows : Bool) (w : Way) → is_fixed w ≡ true → is_way_fixed (way_up knows w) ≡ true
  fixed_up knows (Fixed item sealed) h = refl
  fixed_up knows w h = absurd (cc)

  abbrev sends_to : Way → PhaseWay → Type 0
  sends_to w u = IsShown (record s { up = sent_up w (seals peripheral_role s.peripheral.phase) }) (peripheral_sends u m)

  sent_control : (k : PduClass) (sealed : Bool) (w : Way) → is_data k ≡ false
      → way_on_air k (seals peripheral_role s.peripheral.phase) ≡ way_up s.peripheral.knows_version w
      → IsShown (record s { up = w }) (record m { up = way_on_air k (if is_data k then sealed else seals peripheral_role m.peripheral.phase) })
  sent_control k sealed w control at =
      record {
        central = is.central;
        peripheral = is.peripheral;
        down = is.down;
        up = (λ i. way_on_air k (if control i then sealed else seals peripheral_role (sym is.peripheral.phase i))) ∙ at;
      }

  sends_by : (w : Way) → is_fixed w ≡ true → sends_to w (way_up s.peripheral.knows_version w)
  sends_by (Fixed Data sealed) h = record { central = is.central; peripheral = is.peripheral; down = is.down; up = refl }
  sends_by (Fixed (Control outgoing ctrl) sealed) h =
      sent_control (class_up s.peripheral.knows_version ctrl) sealed (OnAir (Control outgoing ctrl) (seals peripheral_role s.peripheral.phase))
      (control_up s.peripheral.knows_version ctrl) refl
  sends_by w h = absurd (cc)

  pub goes_sends : may_act PeripheralSends s ≡ true → Goes (event_of_step PeripheralSends s) (act PeripheralSends s) m
  goes_sends may =
      let two = and_parts (is_fixed s.up) (is_free s.down) may in (
        and_from _ _ (ap is_way_fixed is.up ∙ fixed_up s.peripheral.knows_version s.up two.0)
            (ap (λ w. not (is_control_coming w)) is.down ∙ free_down s.central.knows_version s.down two.1),
        subst (λ (u : PhaseWay). sends_to s.up u) (sym is.up) (sends_by s.up two.0),
      )

  -- ---- it is acknowledged

  taken_up : (knows : Bool) (w : Way) → is_taken w ≡ true → is_way_taken (way_up knows w) ≡ true
  taken_up knows (Taken item) h = refl
  taken_up knows w h = absurd (cc)

  pub goes_acked : may_act PeripheralAcked s ≡ true → Goes (event_of_step PeripheralAcked s) (act PeripheralAcked s) m
  goes_acked may =
      let taken = (and_parts (is_taken s.up) _ may).0 in
      let P : Phased → Type 0 = λ c. IsPeripheral c m.peripheral → IsPeripheral (phased_after SeesAcknowledged c) m.peripheral in
      let h = at_open P s.peripheral runs_on.peripheral (peripheral_acked s.peripheral m.peripheral) is.peripheral in (
        ap is_way_taken is.up ∙ taken_up s.peripheral.knows_version s.up taken,
        record { central = is.central; peripheral = h; down = is.down; up = refl },
      )

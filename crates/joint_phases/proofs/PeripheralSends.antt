-- A peripheral fixes a PDU, and sees it acknowledged: what the machine of phases sees of it.
use Rattle.std.proofs.Common.{◌≡◌, ℕ, Bool, true, false, not, ◌&&◌, List, [], ◌∷◌, Option, Some, None, is_none, is_some, refl, ap, sym, subst, ◌∙◌, if◌then◌else◌}
use Rattle.std.proofs.lemmas.Bool.{and_parts, and_right}
use Rattle.ble_base.specs.declared.error_codes.ErrCode.{ErrCode}
use Rattle.ble_base.specs.declared.roles.Role.{Role}
use Rattle.ble_base.specs.declared.roles.Role.TheVariants.{Central as central_role, Peripheral as peripheral_role}
use Rattle.data_pdu.specs.declared.ctrl.Ctrl.{Ctrl}
use Rattle.phase_pairs.specs.enc_phase.declared.classes.PduClass.{PduClass}
use Rattle.phase_pairs.specs.enc_phase.declared.classes.PduClass.TheVariants.{Data, Other, Request, Terminate}
use Rattle.phase_pairs.specs.enc_phase.Phases.{is_quiet, may_follow}
use Rattle.phase_pairs.specs.enc_phase.declared.facts.Transition.TheVariants.{Ask as AskTransition}
use Rattle.instants.specs.declared.indications.Indication.{Indication}
use Rattle.instants.specs.Track.{event_of}
use Rattle.joint_controls.specs.procedure_values.declared.drafts.Draft.{Draft}
use Rattle.joint_controls.specs.procedure_values.declared.drafts.Draft.TheVariants.{Cipher}
use Rattle.joint_controls.specs.procedure_values.declared.drafts.Outgoing.{Outgoing}
use Rattle.joint_controls.specs.procedure_values.declared.drafts.Outgoing.TheVariants.{Disconnect, Nothing, Other as other_out}
use Rattle.joint_controls.specs.procedure_values.declared.drafts.Rejection.{Rejection as TheRejection}
use Rattle.joint_controls.specs.procedure_values.Drafts.{ctrl_of_draft, ctrl_of_outgoing, indication_of, is_out, waits_for_instant}
use Rattle.joint_controls.specs.procedure_stages.declared.stages.Progress.{Progress}
use Rattle.joint_controls.specs.procedure_stages.declared.stages.Progress.TheVariants.{Central as central, Peripheral as peripheral}
use Rattle.joint_controls.specs.procedure_stages.declared.closing.Closing.{Closing}
use Rattle.joint_controls.specs.procedure_stages.declared.closing.Closing.TheVariants.{Closed, Disconnecting, Open}
use Rattle.joint_controls.specs.procedure_stages.Acked.{progress_acked}
use Rattle.joint_controls.specs.procedure_stages.Closing.{is_disconnecting, is_open}
use Rattle.joint_controls.specs.procedure_stages.Kinds.{role_of}
use Rattle.joint_controls.specs.procedure_stages.Queue.{is_past_instant, next_by, next_disconnect, next_draft}
use Rattle.joint_controls.specs.procedure_stages.Sent.{progress_after_sending}
use Rattle.joint_controls.specs.procedures.Queue.{next_of}
use Rattle.joint_controls.specs.procedures.Sending.{acked_step, facts_sent}
use Rattle.joint_controls.specs.procedures.Table.{TableFacts}
use Rattle.joint_controls.specs.control_model.Control.{Control, following, table_if}
use Rattle.phase_pairs.specs.declared.peripheral.PhaseClosing.{PhaseClosing}
use Rattle.phase_pairs.specs.declared.peripheral.PhaseClosing.TheVariants.{Disconnects, HasNoKey, Open as open_closing}
use Rattle.phase_pairs.specs.declared.peripheral.PhasePeripheral.{PhasePeripheral}
use Rattle.phase_pairs.specs.Central.{is_queued}
use Rattle.phase_pairs.specs.JointRun.{is_data}
use Rattle.phase_pairs.specs.Peripheral.{is_disconnecting as is_disconnecting_up, is_terminate, is_waiting, may_fix, may_fix_pdu, peripheral_fixed}
use Rattle.joint_controls.specs.phased_control.Phased.{Phased, asking_if, is_pause_rsp}
use Rattle.joint_controls.specs.phased_control.Taken.{SeesAcknowledged, Sends, phased_after}
use Rattle.joint_controls.specs.Joint.{item_by, next_item, sends_data}
use Rattle.joint_phases.specs.Classes.{class_up, draft_up}
use Rattle.joint_phases.specs.Events.{item_or_none}
use Rattle.joint_phases.specs.Parts.{IsPeripheral, closing_up, goes_up, wait_up, without_up}
use Rattle.joint_phases.proofs.CentralEnters.{opened}
use Rattle.joint_phases.proofs.MachineFacts.{is_keyless}
use Rattle.joint_phases.proofs.PeripheralEnters.{SameAtPeripheral, same_peripheral}

pub same_class_up : (knows : Bool) (draft : Draft) (event skips : ℕ) → class_up knows (ctrl_of_draft draft event skips) ≡ draft_up knows draft
same_class_up knows (Cipher ctrl) event skips = refl
same_class_up knows draft event skips = refl

disconnecting_up : (closing : PhaseClosing) → is_disconnecting (closing_up closing) ≡ is_disconnecting_up closing
disconnecting_up open_closing = refl
disconnecting_up Disconnects = refl
disconnecting_up HasNoKey = refl

keyless_stays : (closing : PhaseClosing) → is_keyless closing ≡ true → is_disconnecting_up closing ≡ false
keyless_stays HasNoKey h = refl
keyless_stays closing h = absurd (cc)

-- ---- what is fixed of the drafts

record FixesAs (k : PduClass) (p : PhasePeripheral) : Type 0 where
  may : may_fix_pdu k p ≡ true
  control : is_data k ≡ false
  fixed : peripheral_fixed k p ≡ without_up k p

fixes_by : (b : Bool) (x y : PhasePeripheral) → b ≡ false → (if b then x else y) ≡ y
fixes_by true x y h = absurd (cc)
fixes_by false x y h = refl

fixes_as : (k : PduClass) (p : PhasePeripheral) → goes_up k p ≡ true → (is_queued Terminate p.first ≡ true → is_keyless p.closing ≡ true) → FixesAs k p
fixes_as Request p goes keyless = record { may = goes; control = refl; fixed = refl }
fixes_as Other p goes keyless = record { may = goes; control = refl; fixed = refl }
fixes_as Data p goes keyless = absurd (cc)
fixes_as Terminate p goes keyless =
    let queued = (and_parts (is_queued Terminate p.first) _ goes).0 in
    record {
      may = goes;
      control = refl;
      fixed = fixes_by (is_disconnecting_up p.closing && true) _ _ (ap (λ b. b && true) (keyless_stays p.closing (keyless queued)));
    }
fixes_as k p goes keyless = record { may = goes; control = refl; fixed = fixes_by (is_disconnecting_up p.closing && is_terminate k) _ _ (and_right (is_disconnecting_up p.closing) (is_terminate k) refl) }

sent_role : (outgoing : Outgoing) (event skips : ℕ) (q : Progress) → role_of (progress_after_sending outgoing event skips q) ≡ role_of q
sent_role (other_out draft) event skips (central x) = refl
sent_role (other_out draft) event skips (peripheral x) = refl
sent_role outgoing event skips q = refl

module _ (s : Phased) (p : PhasePeripheral) (slot : ℕ) (keyless : is_queued Terminate p.first ≡ true → is_keyless p.closing ≡ true) where
  abbrev event : ℕ
  event = event_of s.control.track

  abbrev skips : ℕ
  skips = s.control.track.params.latency

  abbrev class_of_out : Outgoing → PduClass
  class_of_out out = item_or_none (class_up s.knows_version) (item_by out (ctrl_of_outgoing out event skips))

  abbrev queue_at : List TheRejection → Option ErrCode → List Draft → TableFacts
  queue_at rejections disconnect drafts =
      record s.control.table { queue = record { rejections = rejections; disconnect = disconnect; drafts = drafts } }

  abbrev phased_at : TableFacts → Phased
  phased_at table = record s { control = record s.control { table = table; ends = None } }

  record SendsAs (f : TableFacts) (out : Outgoing) : Type 0 where
    may : may_fix (class_of_out out) p ≡ true
    control : is_data (class_of_out out) ≡ false
    is : IsPeripheral (phased_at (facts_sent f out event skips slot)) (peripheral_fixed (class_of_out out) p)

  abbrev quiet : Bool
  quiet = is_quiet s.phase

  no_pdu : (E : Type 0) → is_some (ctrl_of_outgoing Nothing event skips) ≡ true → E
  no_pdu E h = absurd (cc)

  ends_with : (b : Bool) (q : PhasePeripheral) (x : Bool) → b ≡ true → (if b then is_terminate Terminate else x) ≡ true
  ends_with true q x h = refl
  ends_with false q x h = absurd (cc)

  other_with : (b : Bool) (x y : Bool) → b ≡ false → y ≡ true → (if b then x else y) ≡ true
  other_with true x y h done = absurd (cc)
  other_with false x y h done = done

  stays_with : (b : Bool) (x y : PhasePeripheral) → b ≡ true → (if b && true then x else y) ≡ x
  stays_with true x y h = refl
  stays_with false x y h = absurd (cc)

  closing_here : {f : TableFacts} → IsPeripheral (phased_at f) p → is_disconnecting f.closing ≡ is_disconnecting_up p.closing
  closing_here is = ap is_disconnecting is.closing ∙ disconnecting_up p.closing

  sends_end : (code : ErrCode) (drafts : List Draft) → IsPeripheral (phased_at (queue_at [] (Some code) drafts)) p
      → (is_disconnecting s.control.table.closing && quiet) ≡ true
      → SendsAs (queue_at [] (Some code) drafts) (Disconnect code)
  sends_end code drafts is ends =
      let both : (is_disconnecting_up p.closing && is_quiet p.phase) ≡ true =
      (λ i. sym (closing_here {f = queue_at [] (Some code) drafts} is) i && is_quiet (sym is.phase i)) ∙ ends in
      let first = (and_parts (is_disconnecting_up p.closing) (is_quiet p.phase) both).0 in
      record {
        may = ends_with _ p _ both;
        control = refl;
        is =
            subst (λ (q : PhasePeripheral). IsPeripheral (phased_at (facts_sent (queue_at [] (Some code) drafts) (Disconnect code) event skips slot)) q)
            (sym (stays_with (is_disconnecting_up p.closing) p _ first))
            (same_peripheral (phased_at (queue_at [] (Some code) drafts)) p _ is (record { role = refl; closing = refl; rejections = refl; drafts = refl }));
      }

  sends_draft : (draft : Draft) (drafts : List Draft) (disconnect : Option ErrCode) → IsPeripheral (phased_at (queue_at [] disconnect (draft ∷ drafts))) p
      → (is_disconnecting s.control.table.closing && quiet) ≡ false
      → SendsAs (queue_at [] disconnect (draft ∷ drafts)) (other_out draft)
  sends_draft draft drafts disconnect is ends =
      let k : PduClass = draft_up s.knows_version draft in
      let waits = and_parts (goes_up k p) (wait_up (draft_up s.knows_version) drafts (without_up k p)) is.waits in
      let goes = fixes_as k p waits.0 keyless in
      let same : class_of_out (other_out draft) ≡ k = same_class_up s.knows_version draft event skips in
      let none : (is_disconnecting_up p.closing && is_quiet p.phase) ≡ false =
      (λ i. sym (closing_here {f = queue_at [] disconnect (draft ∷ drafts)} is) i && is_quiet (sym is.phase i)) ∙ ends in
      record {
        may = rw same (other_with _ _ _ none goes.may);
        control = rw same goes.control;
        is = rw (same, goes.fixed) (sent k is waits.1);
      }
    where
      kept_by : (k : PduClass) → ((without_up k p).phase ≡ p.phase) × ((without_up k p).asks_key ≡ p.asks_key) × ((without_up k p).closing ≡ p.closing)
      kept_by Request = (refl, refl, refl)
      kept_by Other = (refl, refl, refl)
      kept_by k = (refl, refl, refl)

      sent : (k : PduClass) → IsPeripheral (phased_at (queue_at [] disconnect (draft ∷ drafts))) p → wait_up (draft_up s.knows_version) drafts (without_up k p) ≡ true
          → IsPeripheral (phased_at (facts_sent (queue_at [] disconnect (draft ∷ drafts)) (other_out draft) event skips slot)) (without_up k p)
      sent k is waits =
          let h = kept_by k in
          record {
            role = sent_role (other_out draft) event skips s.control.table.progress ∙ is.role;
            phase = is.phase ∙ sym h.0;
            asks_key = is.asks_key ∙ sym h.1;
            closing = is.closing ∙ sym (ap closing_up h.2);
            rejects = refl;
            waits = waits;
            kept = is.kept;
            request = is.request;
          }

  -- ---- by what is next

  by_end : (disconnect : Option ErrCode) (drafts : List Draft) → IsPeripheral (phased_at (queue_at [] disconnect drafts)) p
      → (is_disconnecting s.control.table.closing && quiet) ≡ true → is_some (ctrl_of_outgoing (next_disconnect disconnect) event skips) ≡ true
      → SendsAs (queue_at [] disconnect drafts) (next_disconnect disconnect)
  by_end None drafts is ends some = no_pdu _ some
  by_end (Some code) drafts is ends some = sends_end code drafts is ends

  by_wait : (waits : Bool) (draft : Draft) (drafts : List Draft) (disconnect : Option ErrCode) → IsPeripheral (phased_at (queue_at [] disconnect (draft ∷ drafts))) p
      → (is_disconnecting s.control.table.closing && quiet) ≡ false
      → is_some (ctrl_of_outgoing (if waits then Nothing else other_out draft) event skips) ≡ true
      → SendsAs (queue_at [] disconnect (draft ∷ drafts)) (if waits then Nothing else other_out draft)
  by_wait true draft drafts disconnect is ends some = no_pdu _ some
  by_wait false draft drafts disconnect is ends some = sends_draft draft drafts disconnect is ends

  by_drafts : (drafts : List Draft) (disconnect : Option ErrCode) → IsPeripheral (phased_at (queue_at [] disconnect drafts)) p
      → (is_disconnecting s.control.table.closing && quiet) ≡ false
      → is_some (ctrl_of_outgoing (next_draft s.control.table.progress event drafts) event skips) ≡ true
      → SendsAs (queue_at [] disconnect drafts) (next_draft s.control.table.progress event drafts)
  by_drafts [] disconnect is ends some = no_pdu _ some
  by_drafts (draft ∷ drafts) disconnect is ends some =
      by_wait (waits_for_instant draft && not (is_past_instant s.control.table.progress event)) draft drafts disconnect is ends some

  by_closing : (b : Bool) (disconnect : Option ErrCode) (drafts : List Draft) → (is_disconnecting s.control.table.closing && quiet) ≡ b
      → IsPeripheral (phased_at (queue_at [] disconnect drafts)) p
      → is_some (ctrl_of_outgoing (if b then next_disconnect disconnect else next_draft s.control.table.progress event drafts) event skips) ≡ true
      → SendsAs (queue_at [] disconnect drafts) (if b then next_disconnect disconnect else next_draft s.control.table.progress event drafts)
  by_closing true disconnect drafts ends is some = by_end disconnect drafts is ends some
  by_closing false disconnect drafts ends is some = by_drafts drafts disconnect is ends some

  by_rejections : (rejections : List TheRejection) (disconnect : Option ErrCode) (drafts : List Draft)
      → IsPeripheral (phased_at (queue_at rejections disconnect drafts)) p
      → is_some (ctrl_of_outgoing (next_of (queue_at rejections disconnect drafts) event quiet) event skips) ≡ true
      → SendsAs (queue_at rejections disconnect drafts) (next_of (queue_at rejections disconnect drafts) event quiet)
  by_rejections [] disconnect drafts is some = by_closing (is_disconnecting s.control.table.closing && quiet) disconnect drafts refl is some
  by_rejections (rejection ∷ rejections) disconnect drafts is some = absurd (no_cons rejection rejections is.rejects)
    where
      no_cons : (r : TheRejection) (rs : List TheRejection) → ◌≡◌ {A = List TheRejection} (r ∷ rs) [] → ⊥
      no_cons r rs h = absurd (cc)

  -- ---- the step

  followed : (role : Role) (indication : Option Indication) (k : Control) (q : PhasePeripheral) → IsPeripheral (record s { control = k }) q
      → IsPeripheral (record s { control = following role indication k }) q
  followed central_role (Some indication) k q is =
      same_peripheral (record s { control = k }) q _ is (record { role = refl; closing = refl; rejections = refl; drafts = refl })
  followed central_role None k q is = is
  followed peripheral_role indication k q is = is

  abbrev out : Outgoing
  out = next_of s.control.table event quiet

  goes_if : (b : Bool) (k l : Control) (q : PhasePeripheral) → b ≡ true → IsPeripheral (record s { control = k }) q → IsPeripheral (record s { control = if b then k else l }) q
  goes_if true k l q is h = h
  goes_if false k l q is h = absurd (cc)

  some_item : (o : Outgoing) (ctrl : Option Ctrl) → is_some (item_by o ctrl) ≡ true → is_some ctrl ≡ true
  some_item o None is = is
  some_item o (Some ctrl) is = refl

  pub peripheral_fixes : IsPeripheral (opened s) p → is_some (next_item s) ≡ true
      → (may_fix (item_or_none (class_up s.knows_version) (next_item s)) p ≡ true)
      × (is_data (item_or_none (class_up s.knows_version) (next_item s)) ≡ false)
      × IsPeripheral (phased_after (Sends slot) (opened s)) (peripheral_fixed (item_or_none (class_up s.knows_version) (next_item s)) p)
  peripheral_fixes is some =
      let goes = some_item out (ctrl_of_outgoing out event skips) some in
      let h = by_rejections s.control.table.queue.rejections s.control.table.queue.disconnect s.control.table.queue.drafts is goes in (
        h.may,
        h.control,
        goes_if (is_some (ctrl_of_outgoing out event skips)) _ _ _ goes (followed (role_of s.control.table.progress) (indication_of out event skips) _ _ h.is),
      )

-- ---- data is fixed where nothing waits

module _ (s : Phased) (p : PhasePeripheral) where
  abbrev event_here : ℕ
  event_here = event_of s.control.track

  abbrev skips_here : ℕ
  skips_here = s.control.track.params.latency

  past : (q : Progress) → role_of q ≡ peripheral_role → is_past_instant q event_here ≡ true
  past (peripheral x) role = refl
  past (central x) role = absurd (cc)

  abbrev none_next : Outgoing → Bool
  none_next out = is_none (item_by out (ctrl_of_outgoing out event_here skips_here))

  waits_not : (waits passed : Bool) (draft : Draft) → passed ≡ true → none_next (if waits && not passed then Nothing else other_out draft) ≡ true → ⊥
  waits_not true true draft at h = absurd (cc)
  waits_not false true draft at h = absurd (cc)
  waits_not waits false draft at h = absurd (cc)

  nothing_by : (drafts : List Draft) → role_of s.control.table.progress ≡ peripheral_role → none_next (next_draft s.control.table.progress event_here drafts) ≡ true
      → drafts ≡ []
  nothing_by [] role h = refl
  nothing_by (draft ∷ drafts) role h =
      absurd (waits_not (waits_for_instant draft) (is_past_instant s.control.table.progress event_here) draft (past s.control.table.progress role) h)

  by_ends : (b : Bool) (drafts : List Draft) (disconnect : Option ErrCode) → b ≡ false → role_of s.control.table.progress ≡ peripheral_role
      → none_next (if b then next_disconnect disconnect else next_draft s.control.table.progress event_here drafts) ≡ true → drafts ≡ []
  by_ends true drafts disconnect at role h = absurd (cc)
  by_ends false drafts disconnect at role h = nothing_by drafts role h

  by_none : (rejections : List TheRejection) (drafts : List Draft) (disconnect : Option ErrCode) → rejections ≡ []
      → (is_disconnecting s.control.table.closing && is_quiet s.phase) ≡ false → role_of s.control.table.progress ≡ peripheral_role
      → none_next (next_by rejections (if is_disconnecting s.control.table.closing && is_quiet s.phase then next_disconnect disconnect else next_draft s.control.table.progress event_here drafts)) ≡ true
      → drafts ≡ []
  by_none [] drafts disconnect none ends role h = by_ends (is_disconnecting s.control.table.closing && is_quiet s.phase) drafts disconnect ends role h
  by_none (rejection ∷ rejections) drafts disconnect none ends role h = absurd (cc)

  open_goes_on : (closing : Closing) (quiet : Bool) → is_open closing ≡ true → (is_disconnecting closing && quiet) ≡ false
  open_goes_on Open quiet opens = refl
  open_goes_on Closed quiet opens = refl
  open_goes_on Disconnecting quiet opens = absurd (cc)

  fixes_data : (quiet waiting ends : Bool) → quiet ≡ true → waiting ≡ false → ends ≡ false
      → (if ends && quiet then is_terminate Data else (quiet && not waiting)) ≡ true
  fixes_data true false false q w e = refl
  fixes_data true false true q w e = absurd (cc)
  fixes_data true true ends q w e = absurd (cc)
  fixes_data false waiting ends q w e = absurd (cc)

  none_waits : (drafts : List Draft) → drafts ≡ [] → wait_up (draft_up s.knows_version) drafts p ≡ true → is_waiting p ≡ false
  none_waits [] at waits = not_then (is_waiting p) (and_parts (not (is_waiting p)) _ waits).0
    where
      not_then : (b : Bool) → not b ≡ true → b ≡ false
      not_then true h = absurd (cc)
      not_then false h = refl
  none_waits (draft ∷ drafts) at waits = absurd (cc)

  open_ends : (closing : PhaseClosing) → is_open (closing_up closing) ≡ true → is_disconnecting_up closing ≡ false
  open_ends open_closing h = refl
  open_ends HasNoKey h = refl
  open_ends Disconnects h = absurd (cc)

  pub peripheral_fixes_data : IsPeripheral (opened s) p → sends_data s ≡ true → may_fix Data p ≡ true
  peripheral_fixes_data is sends =
      let one = and_parts (is_none (next_item s)) _ sends in
      let two = and_parts (is_quiet s.phase) (is_open s.control.table.closing) one.1 in
      let empty = by_none s.control.table.queue.rejections s.control.table.queue.drafts s.control.table.queue.disconnect is.rejects
      (open_goes_on s.control.table.closing (is_quiet s.phase) two.1) is.role one.0 in
      fixes_data (is_quiet p.phase) (is_waiting p) (is_disconnecting_up p.closing) (ap is_quiet (sym is.phase) ∙ two.0)
      (none_waits s.control.table.queue.drafts empty is.waits) (open_ends p.closing (ap is_open (sym is.closing) ∙ two.1))

  -- ---- its PDU is acknowledged

  acked_role : (outgoing : Outgoing) (q : Progress) → role_of (progress_acked outgoing q) ≡ role_of q
  acked_role outgoing (central x) = refl
  acked_role outgoing (peripheral x) = refl

  acked_same : (b : Bool) → SameAtPeripheral s.control.table (table_if b (acked_step s.control.table).0 (record s.control { ends = None })).table
  acked_same true = record { role = acked_role s.control.table.out s.control.table.progress; closing = refl; rejections = refl; drafts = refl }
  acked_same false = record { role = refl; closing = refl; rejections = refl; drafts = refl }

  never_again : (a b d : Bool) (request : Option Ctrl) (t : Phased) → request ≡ None → asking_if (a && (b && (d && is_some request))) t ≡ t
  never_again true true true (Some ctrl) t none = absurd (cc)
  never_again true true true None t none = refl
  never_again true true false request t none = refl
  never_again true false d request t none = refl
  never_again false b d request t none = refl

  pub peripheral_acked : IsPeripheral (opened s) p → IsPeripheral (phased_after SeesAcknowledged (opened s)) p
  peripheral_acked is =
      subst (λ (t : Phased). IsPeripheral t p)
      (sym (never_again (is_pause_rsp s.control.table.out) (may_follow AskTransition s.phase) (is_open s.control.table.closing) s.request _ is.request))
      (same_peripheral (opened s) p _ is (acked_same (is_out s.control.table.out)))

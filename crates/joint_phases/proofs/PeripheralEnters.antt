-- A peripheral enters an event, and hears its host: what the machine of phases sees of it.
use Rattle.std.proofs.Common.{◌≡◌, ℕ, Bool, true, false, ◌&&◌, List, [], ◌∷◌, ◌++◌, Option, Some, None, Result, remove, is_some, refl, ap, sym, subst, ◌∙◌, if◌then◌else◌}
use Rattle.ble_base.specs.declared.error_codes.ErrCode.{ErrCode}
use Rattle.ble_base.specs.declared.roles.Role.TheVariants.{Peripheral as peripheral_role}
use Rattle.phase_pairs.specs.enc_phase.declared.classes.PduClass.TheVariants.{Request}
use Rattle.phase_pairs.specs.enc_phase.Phases.{is_quiet}
use Rattle.instants.specs.Track.{TrackFacts, next_number, track_after_enter}
use Rattle.joint_controls.specs.procedure_values.declared.asks.Ask.{Ask}
use Rattle.joint_controls.specs.procedure_values.declared.asks.Ask.TheVariants.{Encrypt, Features, Length, Map, Phy, Request as ask_request, Update, Version}
use Rattle.joint_controls.specs.procedure_values.declared.drafts.Draft.{Draft}
use Rattle.joint_controls.specs.procedure_values.declared.drafts.Draft.TheVariants.{VersionInd}
use Rattle.joint_controls.specs.procedure_values.Asks.{kind_of_ask}
use Rattle.joint_controls.specs.procedure_stages.declared.closing.Closing.{Closing}
use Rattle.joint_controls.specs.procedure_stages.declared.closing.Closing.TheVariants.{Open}
use Rattle.joint_controls.specs.procedure_stages.declared.stages.OwnPeripheral.{OwnPeripheral}
use Rattle.joint_controls.specs.procedure_stages.declared.stages.Peripheral.{Peripheral}
use Rattle.joint_controls.specs.procedure_stages.declared.stages.Progress.{Progress}
use Rattle.joint_controls.specs.procedure_stages.declared.stages.Progress.TheVariants.{Central as central, Peripheral as peripheral}
use Rattle.joint_controls.specs.procedure_stages.Closing.{is_open}
use Rattle.joint_controls.specs.procedure_stages.Held.{progress_held}
use Rattle.joint_controls.specs.procedure_stages.Kinds.{begins, role_of}
use Rattle.joint_controls.specs.procedures.Beginning.{ask_at, begin_at, facts_begun, first_draft, place_to_begin}
use Rattle.joint_controls.specs.procedure_stages.InProgress.{is_host_asked}
use Rattle.joint_controls.specs.procedures.Going.{entered_step, host_answer_step, is_answer, terminate_step}
use Rattle.joint_controls.specs.procedures.Table.{TableFacts}
use Rattle.joint_controls.proofs.table_laws.Begun.{Begins, begins_of}
use Rattle.joint_controls.specs.control_model.Control.{Control, table_if}
use Rattle.phase_pairs.specs.declared.peripheral.PhaseClosing.{PhaseClosing}
use Rattle.phase_pairs.specs.declared.peripheral.PhaseClosing.TheVariants.{Disconnects, HasNoKey, Open as open_closing}
use Rattle.phase_pairs.specs.declared.peripheral.PhasePeripheral.{PhasePeripheral}
use Rattle.phase_pairs.specs.declared.peripheral.UnsentRequest.{UnsentRequest}
use Rattle.phase_pairs.specs.declared.peripheral.UnsentRequest.TheVariants.{Absent}
use Rattle.phase_pairs.specs.Peripheral.{is_closing_open, is_open as is_peripheral_open, peripheral_begins, peripheral_closes}
use Rattle.joint_controls.specs.phased_control.Phased.{Phased, encrypting_if, is_encrypt, request_of}
use Rattle.joint_controls.specs.phased_control.Taken.{Answers, Asks, Disconnects as disconnects_step, Enters, phased_after}
use Rattle.joint_phases.specs.Classes.{draft_up, has_request}
use Rattle.joint_phases.specs.Events.{does_begin, has_first_draft}
use Rattle.joint_phases.specs.Parts.{IsPeripheral, closing_up, wait_up}
use Rattle.joint_phases.proofs.CentralEnters.{none_of_two, open_is, opened}
use Rattle.joint_phases.proofs.PeripheralQueue.{begins_more, no_first_waits, state_waits}

-- ---- a table that differs in nothing that matters

pub record SameAtPeripheral (f g : TableFacts) : Type 0 where
  pub role : role_of g.progress ≡ role_of f.progress
  pub closing : g.closing ≡ f.closing
  pub rejections : g.queue.rejections ≡ f.queue.rejections
  pub drafts : g.queue.drafts ≡ f.queue.drafts

pub same_peripheral : (s : Phased) (p : PhasePeripheral) (k : Control) → IsPeripheral s p → SameAtPeripheral s.control.table k.table
    → IsPeripheral (record s { control = k }) p
same_peripheral s p k is same =
    record {
      role = same.role ∙ is.role;
      phase = is.phase;
      asks_key = is.asks_key;
      closing = same.closing ∙ is.closing;
      rejects = same.rejections ∙ is.rejects;
      waits = ap (λ drafts. wait_up (draft_up s.knows_version) drafts p) same.drafts ∙ is.waits;
      kept = is.kept;
      request = is.request;
    }

held_role : (q : Progress) → role_of (progress_held q) ≡ role_of q
held_role (central x) = refl
held_role (peripheral x) = refl

entered_same : (f : TableFacts) (applied : Bool) → SameAtPeripheral f (entered_step f applied).0
entered_same f true = record { role = held_role f.progress; closing = refl; rejections = refl; drafts = refl }
entered_same f false = record { role = refl; closing = refl; rejections = refl; drafts = refl }

pub open_up : (closing : PhaseClosing) → is_open (closing_up closing) ≡ is_closing_open closing
open_up open_closing = refl
open_up Disconnects = refl
open_up HasNoKey = refl

-- ---- a procedure begins

-- the part after it
abbrev pub BeginsAs : Bool → Phased → PhasePeripheral → Type 0
BeginsAs true s p = IsPeripheral s (peripheral_begins p)
BeginsAs false s p = IsPeripheral s p

module _ (s : Phased) (p : PhasePeripheral) (track : TrackFacts) (g : TableFacts) (x : Peripheral) where
  abbrev table_at : Bool → TableFacts
  table_at used = record g { progress = peripheral x; closing = Open; version_used = used }

  abbrev phased_at : TableFacts → Phased
  phased_at table = record s { control = record s.control { table = table; track = track; ends = None } }

  with_first : (used : Bool) (own : OwnPeripheral) (draft : Draft) (table : TableFacts) → IsPeripheral (phased_at (table_at used)) p → p.request ≡ Absent
      → table.progress ≡ peripheral (record x { own = own }) → table.closing ≡ Open → table.queue ≡ record g.queue { drafts = g.queue.drafts ++ draft ∷ [] }
      → draft_up s.knows_version draft ≡ Request
      → IsPeripheral (phased_at table) (peripheral_begins p)
  with_first used own draft table is absent progress closing queue class =
      let h : wait_up (draft_up s.knows_version) g.queue.drafts (record p { request = Absent }) ≡ true =
      subst (λ (r : UnsentRequest). wait_up (draft_up s.knows_version) g.queue.drafts (record p { request = r }) ≡ true) absent is.waits in
      record {
        role = ap role_of progress;
        phase = is.phase;
        asks_key = is.asks_key;
        closing = closing ∙ is.closing;
        rejects = ap (λ (q : _). q.rejections) queue ∙ is.rejects;
        waits = rw queue (begins_more (draft_up s.knows_version) p g.queue.drafts p.first p.second p.owes draft class h);
        kept = is.kept;
        request = is.request;
      }

  with_none : (used : Bool) (own : OwnPeripheral) (table : TableFacts) → IsPeripheral (phased_at (table_at used)) p
      → table.progress ≡ peripheral (record x { own = own }) → table.closing ≡ Open → table.queue ≡ g.queue
      → IsPeripheral (phased_at table) p
  with_none used own table is progress closing queue =
      same_peripheral (phased_at (table_at used)) p _ is
      (record { role = ap role_of progress; closing = closing; rejections = ap (λ (q : _). q.rejections) queue; drafts = ap (λ (q : _). q.drafts) queue })

  first_version : (knows : Bool) → (knows ≡ true → ⊥) → draft_up knows VersionInd ≡ Request
  first_version true not_known = absurd (not_known refl)
  first_version false not_known = refl

  begun : (used : Bool) (slot : ℕ) (ask : Ask) (wanted : List Ask) → begins peripheral_role (kind_of_ask ask) ≡ true
      → IsPeripheral (phased_at (table_at used)) p → (is_some (first_draft (table_at used) ask) ≡ true → p.request ≡ Absent)
      → (used ≡ false → s.knows_version ≡ true → ⊥)
      → BeginsAs (is_some (first_draft (table_at used) ask))
      (encrypting_if (is_encrypt (Some (kind_of_ask ask))) (request_of (Some ask)) (phased_at (facts_begun (table_at used) slot ask wanted))) p
  begun used slot (Encrypt rand ediv ltk skd_m iv_m) wanted role is absent unknown = absurd (cc)
  begun used slot (Update interval latency timeout) wanted role is absent unknown = absurd (cc)
  begun used slot (Map map) wanted role is absent unknown = absurd (cc)
  begun used slot (ask_request min max latency timeout) wanted role is absent unknown = with_first used _ _ _ is (absent refl) refl refl refl refl
  begun used slot Phy wanted role is absent unknown = with_first used _ _ _ is (absent refl) refl refl refl refl
  begun used slot Features wanted role is absent unknown = with_first used _ _ _ is (absent refl) refl refl refl refl
  begun used slot (Length tx) wanted role is absent unknown = with_first used _ _ _ is (absent refl) refl refl refl refl
  begun true slot Version wanted role is absent unknown = with_none true _ _ is refl refl refl
  begun false slot Version wanted role is absent unknown = with_first false _ _ _ is (absent refl) refl refl refl (first_version s.knows_version (unknown refl))

pub peripheral_of : (q : Progress) → role_of q ≡ peripheral_role → (x : Peripheral) × (q ≡ peripheral x)
peripheral_of (peripheral x) role = (x, refl)
peripheral_of (central x) role = absurd (cc)

-- ---- the event is entered

module _ (s : Phased) (p : PhasePeripheral) (slot : ℕ) (is : IsPeripheral (opened s) p)
    (alone : does_begin (opened s) ≡ true → has_request (draft_up s.knows_version) s.control.table.queue.drafts ≡ false)
    (known : s.knows_version ≡ true → is_open s.control.table.closing ≡ true → s.control.table.version_used ≡ true) where
  abbrev table : TableFacts
  table = (entered_step s.control.table (is_some (next_number s.control.track))).0

  abbrev track : TrackFacts
  track = track_after_enter s.control.track

  abbrev with_table : TableFacts → Phased
  with_table f = record s { control = record s.control { table = f; track = track; ends = None } }

  used_same : (f : TableFacts) (applied : Bool) → (entered_step f applied).0.version_used ≡ f.version_used
  used_same f true = refl
  used_same f false = refl

  is_entered : IsPeripheral (with_table table) p
  is_entered = same_peripheral (opened s) p _ is (entered_same s.control.table (is_some (next_number s.control.track)))

  abbrev result : TableFacts → Option ℕ → Option Ask → Type 0
  result f place ask =
      BeginsAs (has_first_draft f ask)
      (encrypting_if (is_encrypt (begin_at f slot place ask).1) (request_of ask) (with_table (begin_at f slot place ask).0)) p

  abbrev goes : Progress → Closing → ℕ → Ask → Type 0
  goes progress closing place ask =
      IsPeripheral (with_table (record table { progress = progress; closing = closing })) p
      → (has_first_draft (record table { progress = progress; closing = closing }) (Some ask) ≡ true → p.request ≡ Absent)
      → result (record table { progress = progress; closing = closing }) (Some place) (Some ask)

  absent_where : (ask : Option Ask) → ask_at (place_to_begin table (is_quiet s.phase)) table.wanted ≡ ask → has_first_draft table ask ≡ true → p.request ≡ Absent
  absent_where ask a begins_it =
      let one : does_begin (opened s) ≡ true = ap (λ (x : Option Ask). has_first_draft table x) a ∙ begins_it in
      no_first_waits (draft_up s.knows_version) s.control.table.queue.drafts p (alone one) is.waits

  begins_by : (place : ℕ) (ask : Ask) → Begins table (is_quiet s.phase) ask → (has_first_draft table (Some ask) ≡ true → p.request ≡ Absent)
      → result table (Some place) (Some ask)
  begins_by place ask may absent =
      let x = peripheral_of table.progress is_entered.role in
      let opens : table.closing ≡ Open = open_is table.closing may.lasts in
      let role : begins peripheral_role (kind_of_ask ask) ≡ true = ap (λ r. begins r (kind_of_ask ask)) (sym is_entered.role) ∙ may.role in
      let same = entered_same s.control.table (is_some (next_number s.control.track)) in
      let unknown : table.version_used ≡ false → s.knows_version ≡ true → ⊥ =
      λ unused. λ knows. none_of_two _ _ (sym (used_same s.control.table (is_some (next_number s.control.track))) ∙ unused)
      (known knows (ap is_open (sym same.closing) ∙ may.lasts)) in
      let at_end : goes (peripheral x.0) Open place ask =
      λ here. λ none. begun s p track table x.0 table.version_used slot ask (remove table.wanted place) role here none unknown in
      let with_closing : goes (peripheral x.0) table.closing place ask = subst (λ (cl : Closing). goes (peripheral x.0) cl place ask) (sym opens) at_end in
      subst (λ (q : Progress). goes q table.closing place ask) (sym x.1) with_closing is_entered absent

  enters_by : (place : Option ℕ) (ask : Option Ask) → place_to_begin table (is_quiet s.phase) ≡ place → ask_at place table.wanted ≡ ask
      → (has_first_draft table ask ≡ true → p.request ≡ Absent) → result table place ask
  enters_by None None at a absent = is_entered
  enters_by None (Some ask) at a absent = absurd (cc)
  enters_by (Some place) None at a absent = is_entered
  enters_by (Some place) (Some ask) at a absent = begins_by place ask (begins_of table (is_quiet s.phase) place ask at a) absent

  pub peripheral_enters : BeginsAs (does_begin (opened s)) (phased_after (Enters slot) (opened s)) p
  peripheral_enters =
      enters_by (place_to_begin table (is_quiet s.phase)) (ask_at (place_to_begin table (is_quiet s.phase)) table.wanted) refl refl
      (absent_where (ask_at (place_to_begin table (is_quiet s.phase)) table.wanted) refl)

-- what begins does so in Clear or Secure, while the link is not to end
pub begins_quiet : (s : Phased) → does_begin (opened s) ≡ true → (is_quiet s.phase ≡ true) × (is_open s.control.table.closing ≡ true)
begins_quiet s begins_it =
    by (place_to_begin f (is_quiet s.phase)) (ask_at (place_to_begin f (is_quiet s.phase)) f.wanted) refl refl begins_it
  where
    f : TableFacts
    f = (entered_step s.control.table (is_some (next_number s.control.track))).0

    by : (place : Option ℕ) (ask : Option Ask) → place_to_begin (entered_step s.control.table (is_some (next_number s.control.track))).0 (is_quiet s.phase) ≡ place
        → ask_at place (entered_step s.control.table (is_some (next_number s.control.track))).0.wanted ≡ ask
        → has_first_draft (entered_step s.control.table (is_some (next_number s.control.track))).0 ask ≡ true
        → (is_quiet s.phase ≡ true) × (is_open s.control.table.closing ≡ true)
    by None None at a h = absurd (cc)
    by None (Some ask) at a h = absurd (cc)
    by (Some place) None at a h = absurd (cc)
    by (Some place) (Some ask) at a h =
        let may = begins_of (entered_step s.control.table (is_some (next_number s.control.track))).0 (is_quiet s.phase) place ask at a in
        (may.is_quiet, ap is_open (sym (entered_same s.control.table (is_some (next_number s.control.track))).closing) ∙ may.lasts)

-- ---- its host

-- it ends the link, or did before
abbrev pub ClosesAs : PhasePeripheral → Bool → Phased → Type 0
ClosesAs p true t = (is_peripheral_open p ≡ true) × IsPeripheral t (peripheral_closes p)
ClosesAs p false t = IsPeripheral t p

module _ (s : Phased) (p : PhasePeripheral) (is : IsPeripheral (opened s) p) where
  pub peripheral_asks : (ask : Ask) → IsPeripheral (phased_after (Asks ask) (opened s)) p
  peripheral_asks ask = same_peripheral (opened s) p _ is (record { role = refl; closing = refl; rejections = refl; drafts = refl })

  unasked : (q : Progress) → role_of q ≡ peripheral_role → is_host_asked q ≡ false
  unasked (peripheral x) role = refl
  unasked (central x) role = absurd (cc)

  answers_if : (b is_one : Bool) (answer : Result Ask ErrCode) → b ≡ false
      → IsPeripheral (record s { control = table_if (b && is_one) (host_answer_step s.control.table answer) (record s.control { ends = None }) }) p
  answers_if true is_one answer none = absurd (cc)
  answers_if false is_one answer none = is

  pub peripheral_answers : (answer : Result Ask ErrCode) → IsPeripheral (phased_after (Answers answer) (opened s)) p
  peripheral_answers answer = answers_if (is_host_asked s.control.table.progress) (is_answer answer) answer (unasked s.control.table.progress is.role)

  -- it ends the link
  same_queue : (b : Bool) (reason : ErrCode)
      → ((if b then record s.control.table.queue { disconnect = Some reason } else s.control.table.queue).rejections ≡ s.control.table.queue.rejections)
      × ((if b then record s.control.table.queue { disconnect = Some reason } else s.control.table.queue).drafts ≡ s.control.table.queue.drafts)
  same_queue true reason = (refl, refl)
  same_queue false reason = (refl, refl)

  closes_if : (b : Bool) (reason : ErrCode) → is_open s.control.table.closing ≡ b
      → ClosesAs p b (record s { control = table_if b (terminate_step s.control.table reason) (record s.control { ends = None }) })
  closes_if false reason opens = is
  closes_if true reason opens =
      let same = same_queue (is_open s.control.table.closing) reason in (
        sym (open_up p.closing) ∙ ap is_open (sym is.closing) ∙ opens,
        record {
          role = is.role;
          phase = is.phase;
          asks_key = is.asks_key;
          closing = refl;
          rejects = same.0 ∙ is.rejects;
          waits =
              ap (λ drafts. wait_up (draft_up s.knows_version) drafts (peripheral_closes p)) same.1
              ∙ state_waits (draft_up s.knows_version) s.control.table.queue.drafts p p.phase p.asks_key Disconnects is.waits;
          kept = is.kept;
          request = is.request;
        },
      )

  pub peripheral_disconnects : (reason : ErrCode) → ClosesAs p (is_open s.control.table.closing) (phased_after (disconnects_step reason) (opened s))
  peripheral_disconnects reason = closes_if (is_open s.control.table.closing) reason refl

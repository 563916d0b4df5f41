-- A central sends a control PDU: what the machine of phases sees of it.
use Rattle.std.proofs.Common.{◌≡◌, ◌⊎◌, inl, inr, ℕ, Bool, true, false, not, ◌&&◌, ◌||◌, List, [], ◌∷◌, Option, Some, None, is_some, refl, ap, sym, ◌∙◌, if◌then◌else◌, unwrap_or}
use Rattle.std.proofs.lemmas.Bool.{and_parts, false_from_ne_true}
use Rattle.ble_base.specs.declared.error_codes.ErrCode.{ErrCode}
use Rattle.ble_base.specs.declared.roles.Role.{Role}
use Rattle.ble_base.specs.declared.roles.Role.TheVariants.{Central as central_role, Peripheral as peripheral_role}
use Rattle.data_pdu.specs.declared.ctrl.Ctrl.{Ctrl}
use Rattle.phase_pairs.specs.enc_phase.declared.classes.PduClass.{PduClass}
use Rattle.phase_pairs.specs.enc_phase.declared.classes.PduClass.TheVariants.{Data, Empty, Other, Request, Terminate}
use Rattle.phase_pairs.specs.enc_phase.Phases.{is_quiet}
use Rattle.instants.specs.declared.indications.Indication.{Indication}
use Rattle.instants.specs.Track.{event_of}
use Rattle.joint_controls.specs.procedure_values.declared.drafts.Draft.{Draft}
use Rattle.joint_controls.specs.procedure_values.declared.drafts.Draft.TheVariants.{Cipher, FeatureReq, LengthReq, PhyReq, VersionInd}
use Rattle.joint_controls.specs.procedure_values.declared.drafts.Outgoing.{Outgoing}
use Rattle.joint_controls.specs.procedure_values.declared.drafts.Outgoing.TheVariants.{Disconnect, Nothing, Other as other_out, Rejection}
use Rattle.joint_controls.specs.procedure_values.declared.drafts.Rejection.{Rejection as TheRejection}
use Rattle.joint_controls.specs.procedure_values.Drafts.{ctrl_of_draft, ctrl_of_outgoing, indication_of, waits_for_instant}
use Rattle.exclusive_stages.specs.declared.stages.CentralStage.TheVariants.{PhyUnsent}
use Rattle.joint_controls.specs.procedure_stages.declared.closing.Closing.{Closing}
use Rattle.joint_controls.specs.procedure_stages.declared.stages.Exchange.TheVariants.{FeaturesUnsent, LengthUnsent, VersionUnsent}
use Rattle.joint_controls.specs.procedure_stages.declared.stages.OwnCentral.{OwnCentral}
use Rattle.joint_controls.specs.procedure_stages.declared.stages.OwnCentral.TheVariants.{Exchange as exchange, Exclusive as exclusive}
use Rattle.joint_controls.specs.procedure_stages.declared.stages.Progress.{Progress}
use Rattle.joint_controls.specs.procedure_stages.declared.stages.Progress.TheVariants.{Central as central, Peripheral as peripheral}
use Rattle.joint_controls.specs.procedure_stages.Closing.{is_disconnecting}
use Rattle.joint_controls.specs.procedure_stages.Kinds.{role_of}
use Rattle.joint_controls.specs.procedure_stages.Queue.{is_past_instant, next_disconnect, next_draft}
use Rattle.joint_controls.specs.procedure_stages.Sent.{own_draft_sent_by_central, progress_after_sending}
use Rattle.joint_controls.specs.procedures.Queue.{next_of}
use Rattle.joint_controls.specs.procedures.Sending.{facts_sent}
use Rattle.joint_controls.specs.procedures.Table.{TableFacts}
use Rattle.joint_controls.specs.control_model.Control.{Control, following}
use Rattle.phase_pairs.specs.declared.central.PhaseCentral.{PhaseCentral}
use Rattle.phase_pairs.specs.Central.{central_sent, may_send_pdu}
use Rattle.phase_pairs.specs.JointRun.{is_request}
use Rattle.joint_controls.specs.phased_control.Phased.{Phased}
use Rattle.joint_controls.specs.phased_control.Taken.{Sends, phased_after}
use Rattle.joint_controls.specs.Joint.{item_by, next_item}
use Rattle.joint_phases.specs.Classes.{class_down, draft_down}
use Rattle.joint_phases.specs.Events.{item_or_none}
use Rattle.joint_phases.specs.Facts.{are_of_own, is_first_of, is_unsent_first}
use Rattle.joint_phases.specs.Parts.{IsCentral, closing_down, goes_down, is_awaiting, is_awaiting_at, is_encryption_unsent, queued_then, wait_down}
use Rattle.joint_phases.proofs.CentralEnters.{none_of_two, opened}
use Rattle.joint_phases.proofs.CentralQueue.{is_of_others, rejects_fewer}
use Rattle.joint_phases.proofs.Stages.{SentStage, cipher_sent, sent_stage}

-- ---- the class of a PDU is that of its draft

pub same_class : (knows : Bool) (draft : Draft) (event skips : ℕ) → class_down knows (ctrl_of_draft draft event skips) ≡ draft_down knows draft
same_class knows (Cipher ctrl) event skips = refl
same_class knows draft event skips = refl

-- ---- the stage

sent_stage_of : (outgoing : Outgoing) (event skips : ℕ) (p : Progress) → role_of p ≡ central_role → SentStage p (progress_after_sending outgoing event skips p)
sent_stage_of outgoing event skips (central x) role = sent_stage outgoing event skips x
sent_stage_of outgoing event skips (peripheral x) role = absurd (cc)

-- the first PDU of a procedure: its answer is awaited from then on, and none was before
first_sent : (draft : Draft) (own : OwnCentral) → is_unsent_first draft own ≡ true
    → (is_awaiting_at own ≡ false) × (is_awaiting_at (unwrap_or (own_draft_sent_by_central draft own) own) ≡ true)
first_sent PhyReq (exclusive PhyUnsent) is = (refl, refl)
first_sent PhyReq (exclusive stage) is = absurd (cc)
first_sent PhyReq own is = absurd (cc)
first_sent FeatureReq (exchange FeaturesUnsent) is = (refl, refl)
first_sent FeatureReq (exchange stage) is = absurd (cc)
first_sent FeatureReq own is = absurd (cc)
first_sent VersionInd (exchange VersionUnsent) is = (refl, refl)
first_sent VersionInd (exchange stage) is = absurd (cc)
first_sent VersionInd own is = absurd (cc)
first_sent (LengthReq rx tx) (exchange LengthUnsent) is = (refl, refl)
first_sent (LengthReq rx tx) (exchange stage) is = absurd (cc)
first_sent (LengthReq rx tx) own is = absurd (cc)
first_sent draft own is = absurd (cc)

first_of_sent : (draft : Draft) (event skips : ℕ) (p : Progress) → is_first_of draft p ≡ true
    → (is_awaiting p ≡ false) × (is_awaiting (progress_after_sending (other_out draft) event skips p) ≡ true)
first_of_sent draft event skips (central x) is = first_sent draft x.own is
first_of_sent draft event skips (peripheral x) is = absurd (cc)

-- a PDU of the encryption is one that the layer above gave
of_encryption : (knows : Bool) (draft : Draft) (event skips : ℕ) (p : Progress) → is_of_others (draft_down knows draft) ≡ false
    → is_encryption_unsent (progress_after_sending (other_out draft) event skips p) ≡ false
of_encryption knows (Cipher ctrl) event skips p is = cipher_sent ctrl event skips p
of_encryption true VersionInd event skips p is = absurd (cc)
of_encryption false VersionInd event skips p is = absurd (cc)
of_encryption knows draft event skips p is = absurd (cc)

-- ---- the machine's step, by class

own_request : (a b : Bool) → a ≡ true → (not a || b) ≡ true → b ≡ true
own_request true b is h = h
own_request false b is h = absurd (cc)

may_request : (quiet closed awaits : Bool) → quiet ≡ true → closed ≡ false → awaits ≡ false → (quiet && (not closed && not awaits)) ≡ true
may_request true false false q c a = refl
may_request true false true q c a = absurd (cc)
may_request true true awaits q c a = absurd (cc)
may_request false closed awaits q c a = absurd (cc)

-- what a PDU of the drafts leaves of the machine's central
record GoesAs (k : PduClass) (c : PhaseCentral) : Type 0 where
  may : may_send_pdu k c ≡ true
  phase : (central_sent k c).phase ≡ c.phase
  closed : (central_sent k c).closed ≡ c.closed
  queued : (central_sent k c).queued ≡ queued_then k c.queued
  awaits : (central_sent k c).awaits ≡ true → (is_request k ≡ true) ⊎ (c.awaits ≡ true)

goes_as : (k : PduClass) (c : PhaseCentral) → goes_down k c.phase c.queued ≡ true → (is_request k ≡ true → c.closed ≡ false) → (is_request k ≡ true → c.awaits ≡ false)
    → GoesAs k c
goes_as Other c goes lasts none = record { may = goes; phase = refl; closed = refl; queued = refl; awaits = λ a. inr a }
goes_as Request c goes lasts none =
    record { may = may_request (is_quiet c.phase) c.closed c.awaits goes (lasts refl) (none refl); phase = refl; closed = refl; queued = refl; awaits = λ a. inl refl }
goes_as Data c goes lasts none = absurd (cc)
goes_as Empty c goes lasts none = absurd (cc)
goes_as Terminate c goes lasts none = absurd (cc)
goes_as k c goes lasts none = record { may = goes; phase = refl; closed = refl; queued = refl; awaits = λ a. inr a }

module _ (s : Phased) (c : PhaseCentral) (slot : ℕ) where
  abbrev event : ℕ
  event = event_of s.control.track

  abbrev skips : ℕ
  skips = s.control.track.params.latency

  abbrev class_of_out : Outgoing → PduClass
  class_of_out out = item_or_none (class_down s.knows_version) (item_by out (ctrl_of_outgoing out event skips))

  -- an end with this queue
  abbrev queue_at : List TheRejection → Option ErrCode → List Draft → TableFacts
  queue_at rejections disconnect drafts =
      record s.control.table { queue = record { rejections = rejections; disconnect = disconnect; drafts = drafts } }

  abbrev phased_at : TableFacts → Phased
  phased_at table = record s { control = record s.control { table = table; ends = None } }

  -- what the sending of this does
  record SendsAs (f : TableFacts) (out : Outgoing) : Type 0 where
    may : may_send_pdu (class_of_out out) c ≡ true
    is : IsCentral (phased_at (facts_sent f out event skips slot)) (central_sent (class_of_out out) c)

  sends_rejection : (rejection : TheRejection) (rejections : List TheRejection) (disconnect : Option ErrCode) (drafts : List Draft)
      → IsCentral (phased_at (queue_at (rejection ∷ rejections) disconnect drafts)) c
      → SendsAs (queue_at (rejection ∷ rejections) disconnect drafts) (Rejection rejection)
  sends_rejection rejection rejections disconnect drafts is =
      record {
        may = is.rejects;
        is =
            record {
              role = is.role;
              phase = is.phase;
              closing = is.closing;
              awaits = is.awaits;
              rejects = rejects_fewer (rejection ∷ rejections) c.phase c.queued is.rejects;
              waits = is.waits;
              asks_key = is.asks_key;
              kept = is.kept;
              keeps_first = is.keeps_first;
              encrypts = is.encrypts;
              request = is.request;
              begins = is.begins;
            };
      }

  is_closed : (closing : Closing) (closed quiet : Bool) → closing ≡ closing_down closed → (is_disconnecting closing && quiet) ≡ true
      → (quiet && closed) ≡ true
  is_closed closing true true is h = refl
  is_closed closing true false is h = absurd (let one = (and_parts (is_disconnecting closing) false h).1 in cc)
  is_closed closing false quiet is h = absurd (let one = ap is_disconnecting (sym is) ∙ (and_parts (is_disconnecting closing) quiet h).0 in cc)

  sends_end : (code : ErrCode) (drafts : List Draft) → IsCentral (phased_at (queue_at [] (Some code) drafts)) c
      → (is_disconnecting s.control.table.closing && is_quiet s.phase) ≡ true
      → SendsAs (queue_at [] (Some code) drafts) (Disconnect code)
  sends_end code drafts is ends =
      record {
        may = is_closed s.control.table.closing c.closed (is_quiet c.phase) is.closing (rw is.phase at ends);
        is =
            record {
              role = is.role;
              phase = is.phase;
              closing = is.closing;
              awaits = is.awaits;
              rejects = refl;
              waits = is.waits;
              asks_key = is.asks_key;
              kept = is.kept;
              keeps_first = is.keeps_first;
              encrypts = is.encrypts;
              request = is.request;
              begins = is.begins;
            };
      }

  may_not : (disconnecting quiet closed : Bool) → (disconnecting && quiet) ≡ false → quiet ≡ true → disconnecting ≡ closed → closed ≡ false
  may_not true quiet closed h q same = absurd (none_of_two quiet _ h q)
  may_not false quiet closed h q same = sym same

  disconnects : (closed : Bool) → is_disconnecting (closing_down closed) ≡ closed
  disconnects true = refl
  disconnects false = refl

  -- a Request is not sent once the link is to end, nor while an answer is awaited
  quiet_request : (k : PduClass) → is_request k ≡ true → goes_down k c.phase c.queued ≡ true → is_quiet c.phase ≡ true
  quiet_request Request is goes = goes
  quiet_request k is goes = absurd (cc)

  others_or_not : (k : PduClass) (queued : Option PduClass) → (is_of_others k ≡ false → ⊥) → is_some queued ≡ true → is_some (queued_then k queued) ≡ true
  others_or_not Other queued not_one is = is
  others_or_not Request queued not_one is = is
  others_or_not k queued not_one is = absurd (not_one refl)

  sends_draft : (draft : Draft) (drafts : List Draft) (disconnect : Option ErrCode) → IsCentral (phased_at (queue_at [] disconnect (draft ∷ drafts))) c
      → (is_disconnecting s.control.table.closing && is_quiet s.phase) ≡ false
      → are_of_own (draft_down s.knows_version) (draft ∷ drafts) s.control.table.progress ≡ true
      → SendsAs (queue_at [] disconnect (draft ∷ drafts)) (other_out draft)
  sends_draft draft drafts disconnect is ends own =
      let k : PduClass = draft_down s.knows_version draft in
      let waits = and_parts (goes_down k c.phase c.queued) (wait_down (draft_down s.knows_version) c.phase drafts (queued_then k c.queued)) is.waits in
      let first = and_parts (not (is_request k) || is_first_of draft s.control.table.progress) (are_of_own (draft_down s.knows_version) drafts s.control.table.progress) own in
      let stage = sent_stage_of (other_out draft) event skips s.control.table.progress is.role in
      let is_one : is_request k ≡ true → (is_awaiting s.control.table.progress ≡ false) × (is_awaiting (progress_after_sending (other_out draft) event skips s.control.table.progress) ≡ true) =
      λ one. first_of_sent draft event skips s.control.table.progress (own_request _ _ one first.0) in
      let lasts : is_request k ≡ true → c.closed ≡ false =
      λ one. may_not (is_disconnecting s.control.table.closing) (is_quiet c.phase) c.closed (rw is.phase at ends) (quiet_request k one waits.0)
      (ap is_disconnecting is.closing ∙ disconnects c.closed) in
      let none : is_request k ≡ true → c.awaits ≡ false = λ one. false_from_ne_true c.awaits (λ a. none_of_two _ _ (is_one one).0 (is.awaits a)) in
      let goes = goes_as k c waits.0 lasts none in
      let same : class_of_out (other_out draft) ≡ k = same_class s.knows_version draft event skips in
      record {
        may = rw same goes.may;
        is = rw same (sent draft drafts disconnect k is goes stage is_one waits.1 (of_encryption s.knows_version draft event skips s.control.table.progress));
      }
    where
      sent : (draft : Draft) (drafts : List Draft) (disconnect : Option ErrCode) (k : PduClass)
          → IsCentral (phased_at (queue_at [] disconnect (draft ∷ drafts))) c → GoesAs k c
          → SentStage s.control.table.progress (progress_after_sending (other_out draft) event skips s.control.table.progress)
          → (is_request k ≡ true → (is_awaiting s.control.table.progress ≡ false) × (is_awaiting (progress_after_sending (other_out draft) event skips s.control.table.progress) ≡ true))
          → wait_down (draft_down s.knows_version) c.phase drafts (queued_then k c.queued) ≡ true
          → (is_of_others k ≡ false → is_encryption_unsent (progress_after_sending (other_out draft) event skips s.control.table.progress) ≡ false)
          → IsCentral (phased_at (facts_sent (queue_at [] disconnect (draft ∷ drafts)) (other_out draft) event skips slot)) (central_sent k c)
      sent draft drafts disconnect k is goes stage is_one waits unsent =
          record {
            role = stage.role ∙ is.role;
            phase = is.phase ∙ sym goes.phase;
            closing = is.closing ∙ sym (ap closing_down goes.closed);
            awaits = λ a. elim (goes.awaits a) [ inl one ↦ (is_one one).1 | inr before ↦ stage.awaits (is.awaits before) ];
            rejects = refl;
            waits = rw (goes.phase, goes.queued) waits;
            asks_key = is.asks_key;
            kept = rw goes.phase is.kept;
            keeps_first = is.keeps_first;
            encrypts = stage.encrypts ∙ rw goes.phase is.encrypts;
            request = rw goes.phase is.request;
            begins = λ h. rw goes.queued (others_or_not k c.queued (λ not_one. none_of_two _ _ (unsent not_one) h) (is.begins (stage.unsent h)));
          }

  -- ---- by what is next

  abbrev quiet : Bool
  quiet = is_quiet s.phase

  no_pdu : (E : Type 0) → is_some (ctrl_of_outgoing Nothing event skips) ≡ true → E
  no_pdu E h = absurd (cc)

  by_end : (disconnect : Option ErrCode) (drafts : List Draft) → IsCentral (phased_at (queue_at [] disconnect drafts)) c
      → (is_disconnecting s.control.table.closing && quiet) ≡ true → is_some (ctrl_of_outgoing (next_disconnect disconnect) event skips) ≡ true
      → SendsAs (queue_at [] disconnect drafts) (next_disconnect disconnect)
  by_end None drafts is ends some = no_pdu _ some
  by_end (Some code) drafts is ends some = sends_end code drafts is ends

  by_wait : (waits : Bool) (draft : Draft) (drafts : List Draft) (disconnect : Option ErrCode) → IsCentral (phased_at (queue_at [] disconnect (draft ∷ drafts))) c
      → (is_disconnecting s.control.table.closing && quiet) ≡ false → are_of_own (draft_down s.knows_version) (draft ∷ drafts) s.control.table.progress ≡ true
      → is_some (ctrl_of_outgoing (if waits then Nothing else other_out draft) event skips) ≡ true
      → SendsAs (queue_at [] disconnect (draft ∷ drafts)) (if waits then Nothing else other_out draft)
  by_wait true draft drafts disconnect is ends own some = no_pdu _ some
  by_wait false draft drafts disconnect is ends own some = sends_draft draft drafts disconnect is ends own

  by_drafts : (drafts : List Draft) (disconnect : Option ErrCode) → IsCentral (phased_at (queue_at [] disconnect drafts)) c
      → (is_disconnecting s.control.table.closing && quiet) ≡ false → are_of_own (draft_down s.knows_version) drafts s.control.table.progress ≡ true
      → is_some (ctrl_of_outgoing (next_draft s.control.table.progress event drafts) event skips) ≡ true
      → SendsAs (queue_at [] disconnect drafts) (next_draft s.control.table.progress event drafts)
  by_drafts [] disconnect is ends own some = no_pdu _ some
  by_drafts (draft ∷ drafts) disconnect is ends own some =
      by_wait (waits_for_instant draft && not (is_past_instant s.control.table.progress event)) draft drafts disconnect is ends own some

  by_closing : (b : Bool) (disconnect : Option ErrCode) (drafts : List Draft) → (is_disconnecting s.control.table.closing && quiet) ≡ b
      → IsCentral (phased_at (queue_at [] disconnect drafts)) c → are_of_own (draft_down s.knows_version) drafts s.control.table.progress ≡ true
      → is_some (ctrl_of_outgoing (if b then next_disconnect disconnect else next_draft s.control.table.progress event drafts) event skips) ≡ true
      → SendsAs (queue_at [] disconnect drafts) (if b then next_disconnect disconnect else next_draft s.control.table.progress event drafts)
  by_closing true disconnect drafts ends is own some = by_end disconnect drafts is ends some
  by_closing false disconnect drafts ends is own some = by_drafts drafts disconnect is ends own some

  by_rejections : (rejections : List TheRejection) (disconnect : Option ErrCode) (drafts : List Draft)
      → IsCentral (phased_at (queue_at rejections disconnect drafts)) c → are_of_own (draft_down s.knows_version) drafts s.control.table.progress ≡ true
      → is_some (ctrl_of_outgoing (next_of (queue_at rejections disconnect drafts) event quiet) event skips) ≡ true
      → SendsAs (queue_at rejections disconnect drafts) (next_of (queue_at rejections disconnect drafts) event quiet)
  by_rejections [] disconnect drafts is own some = by_closing (is_disconnecting s.control.table.closing && quiet) disconnect drafts refl is own some
  by_rejections (rejection ∷ rejections) disconnect drafts is own some = sends_rejection rejection rejections disconnect drafts is

  -- ---- the step

  followed : (role : Role) (indication : Option Indication) (k : Control) (d : PhaseCentral) → IsCentral (record s { control = k }) d
      → IsCentral (record s { control = following role indication k }) d
  followed central_role (Some indication) k d is =
      record {
        role = is.role;
        phase = is.phase;
        closing = is.closing;
        awaits = is.awaits;
        rejects = is.rejects;
        waits = is.waits;
        asks_key = is.asks_key;
        kept = is.kept;
        keeps_first = is.keeps_first;
        encrypts = is.encrypts;
        request = is.request;
        begins = is.begins;
      }
  followed central_role None k d is = is
  followed peripheral_role indication k d is = is

  abbrev out : Outgoing
  out = next_of s.control.table event quiet

  goes_if : (b : Bool) (k l : Control) (d : PhaseCentral) → b ≡ true → IsCentral (record s { control = k }) d → IsCentral (record s { control = if b then k else l }) d
  goes_if true k l d is h = h
  goes_if false k l d is h = absurd (cc)

  some_item : (o : Outgoing) (ctrl : Option Ctrl) → is_some (item_by o ctrl) ≡ true → is_some ctrl ≡ true
  some_item o None is = is
  some_item o (Some ctrl) is = refl

  pub central_sends : IsCentral (opened s) c → are_of_own (draft_down s.knows_version) s.control.table.queue.drafts s.control.table.progress ≡ true
      → is_some (next_item s) ≡ true
      → (may_send_pdu (item_or_none (class_down s.knows_version) (next_item s)) c ≡ true)
      × IsCentral (phased_after (Sends slot) (opened s)) (central_sent (item_or_none (class_down s.knows_version) (next_item s)) c)
  central_sends is own some =
      let goes = some_item out (ctrl_of_outgoing out event skips) some in
      let h = by_rejections s.control.table.queue.rejections s.control.table.queue.disconnect s.control.table.queue.drafts is own goes in
      (h.may, goes_if (is_some (ctrl_of_outgoing out event skips)) _ _ _ goes (followed (role_of s.control.table.progress) (indication_of out event skips) _ _ h.is))

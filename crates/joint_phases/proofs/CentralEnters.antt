-- A central enters an event: what the machine of phases sees of it.
use Rattle.std.proofs.Common.{◌≡◌, ℕ, Bool, true, false, not, ◌&&◌, ◌||◌, List, [], ◌∷◌, ◌++◌, Option, Some, None, remove, is_some, refl, ap, sym, subst, ◌∙◌}
use Rattle.std.proofs.lemmas.Bool.{and_parts, false_from_ne_true}
use Rattle.ble_base.specs.declared.roles.Role.TheVariants.{Central as central_role}
use Rattle.data_pdu.specs.declared.ctrl.Ctrl.TheVariants.{EncReq as enc_req, PauseEncReq as pause_enc_req}
use Rattle.phase_pairs.specs.enc_phase.declared.classes.PduClass.{PduClass}
use Rattle.phase_pairs.specs.enc_phase.declared.classes.PduClass.TheVariants.{EncReq, PauseEncReq}
use Rattle.phase_pairs.specs.enc_phase.declared.facts.PhaseFacts.{PhaseFacts}
use Rattle.phase_pairs.specs.enc_phase.declared.facts.PhaseFacts.TheVariants.{Asked, Clear, Pausing, Secure}
use Rattle.phase_pairs.specs.enc_phase.Phases.{is_quiet}
use Rattle.instants.specs.Track.{TrackFacts, next_number, track_after_enter}
use Rattle.joint_controls.specs.procedure_values.declared.asks.Ask.{Ask}
use Rattle.joint_controls.specs.procedure_values.declared.asks.Ask.TheVariants.{Encrypt, Features, Length, Map, Phy, Request as ask_request, Update, Version}
use Rattle.joint_controls.specs.procedure_values.declared.drafts.Draft.{Draft}
use Rattle.joint_controls.specs.procedure_values.declared.drafts.Draft.TheVariants.{Cipher, FeatureReq, LengthReq, PhyReq, VersionInd}
use Rattle.joint_controls.specs.procedure_values.Asks.{kind_of_ask}
use Rattle.exclusive_stages.specs.declared.stages.CentralStage.TheVariants.{MapSent, MapUnsent, PhyUnsent, UpdateSent, UpdateUnsent}
use Rattle.exclusive_stages.specs.Held.{own_held_at_central}
use Rattle.joint_controls.specs.procedure_stages.declared.closing.Closing.{Closing}
use Rattle.joint_controls.specs.procedure_stages.declared.closing.Closing.TheVariants.{Closed, Disconnecting, Open}
use Rattle.joint_controls.specs.procedure_stages.declared.stages.Central.{Central}
use Rattle.joint_controls.specs.procedure_stages.declared.stages.Exchange.TheVariants.{FeaturesUnsent, LengthUnsent, VersionSent, VersionUnsent}
use Rattle.joint_controls.specs.procedure_stages.declared.stages.OwnCentral.{OwnCentral}
use Rattle.joint_controls.specs.procedure_stages.declared.stages.OwnCentral.TheVariants.{Exchange as exchange, Exclusive as exclusive}
use Rattle.joint_controls.specs.procedure_stages.declared.stages.Progress.{Progress}
use Rattle.joint_controls.specs.procedure_stages.declared.stages.Progress.TheVariants.{Central as central, Peripheral as peripheral}
use Rattle.joint_controls.specs.procedure_stages.Closing.{is_open}
use Rattle.joint_controls.specs.procedure_stages.Exclusive.{on_central_stage}
use Rattle.joint_controls.specs.procedure_stages.Held.{progress_held}
use Rattle.joint_controls.specs.procedure_stages.Kinds.{begins, kind_at_central, own_kind, role_of}
use Rattle.joint_controls.specs.procedures.Beginning.{ask_at, begin_at, facts_begun, place_to_begin}
use Rattle.joint_controls.specs.procedures.Going.{entered_step}
use Rattle.joint_controls.specs.procedures.Table.{TableFacts}
use Rattle.joint_controls.specs.table_laws.Encrypting.{has_encryption}
use Rattle.joint_controls.proofs.table_laws.Begun.{Begins, begins_of}
use Rattle.joint_controls.specs.control_model.Control.{Control}
use Rattle.phase_pairs.specs.declared.central.PhaseCentral.{PhaseCentral}
use Rattle.phase_pairs.specs.Central.{central_encrypts, may_encrypt}
use Rattle.phase_pairs.specs.JointRun.{is_request}
use Rattle.joint_controls.specs.phased_control.Phased.{Phased, encrypting_if, is_encrypt, request_of}
use Rattle.joint_controls.specs.phased_control.Taken.{Enters, phased_after}
use Rattle.joint_phases.specs.Classes.{draft_down, has_request}
use Rattle.joint_phases.specs.Events.{does_encrypt}
use Rattle.joint_phases.specs.Facts.{are_of_own, is_first_of, is_unsent_first}
use Rattle.joint_phases.specs.Parts.{IsCentral, closing_down, is_awaiting, wait_down}
use Rattle.joint_phases.proofs.CentralQueue.{begins_after, is_of_others, others_more, rejects_if, rejects_quiet}
use Rattle.joint_phases.proofs.Stages.{held_same, none_awaits, unsent_is_one}

-- an end that has not ended its link
abbrev pub opened : Phased → Phased
opened s = record s { control = record s.control { ends = None } }

pub at_open : (P : Phased → Type 0) (s : Phased) → s.control.ends ≡ None → P (opened s) → P s
at_open P s lasts h = subst P (λ i. record s { control = record s.control { ends = sym lasts i } }) h

pub none_of_two : (q : Bool) (E : Type 0) → q ≡ false → q ≡ true → E
none_of_two true E a b = absurd (cc)
none_of_two false E a b = absurd (cc)

-- ---- in Clear and Secure, with the phase as it was

pub quiet_step : (s : Phased) (c : PhaseCentral) (k : Control) (knows awaited : Bool) → IsCentral s c → is_quiet c.phase ≡ true
    → role_of k.table.progress ≡ central_role → k.table.closing ≡ closing_down c.closed
    → (awaited ≡ true → is_awaiting k.table.progress ≡ true) → has_encryption k.table.progress ≡ false
    → wait_down (draft_down knows) c.phase k.table.queue.drafts c.queued ≡ true
    → IsCentral (record s { control = k; knows_version = knows }) (record c { awaits = awaited })
quiet_step s c k knows awaited is quiet role closing awaits none waits =
    record {
      role = role;
      phase = is.phase;
      closing = closing;
      awaits = awaits;
      rejects = rejects_quiet k.table.queue.rejections c.phase c.queued quiet;
      waits = waits;
      asks_key = is.asks_key;
      kept = is.kept;
      keeps_first = is.keeps_first;
      encrypts = none ∙ sym (ap not quiet);
      request = is.request;
      begins = λ unsent. none_of_two _ _ none (unsent_is_one k.table.progress unsent);
    }

-- ---- an indication holds

first_held : (draft : Draft) (own : OwnCentral) → is_unsent_first draft (on_central_stage own_held_at_central own) ≡ is_unsent_first draft own
first_held PhyReq (exclusive UpdateSent) = refl
first_held PhyReq (exclusive MapSent) = refl
first_held PhyReq (exclusive stage) = refl
first_held PhyReq own = refl
first_held FeatureReq (exclusive stage) = refl
first_held FeatureReq own = refl
first_held VersionInd (exclusive stage) = refl
first_held VersionInd own = refl
first_held (LengthReq rx tx) (exclusive stage) = refl
first_held (LengthReq rx tx) own = refl
first_held draft own = refl

first_of_held : (draft : Draft) (p : Progress) → is_first_of draft (progress_held p) ≡ is_first_of draft p
first_of_held draft (central c) = first_held draft c.own
first_of_held draft (peripheral p) = refl

own_held : (class_of : Draft → PduClass) (drafts : List Draft) (p : Progress) → are_of_own class_of drafts (progress_held p) ≡ are_of_own class_of drafts p
own_held class_of [] p = refl
own_held class_of (draft ∷ drafts) p =
    λ i. (not (is_request (class_of draft)) || first_of_held draft p i) && own_held class_of drafts p i

-- where no procedure runs no first PDU waits
none_unsent : (draft : Draft) (own : OwnCentral) → kind_at_central own ≡ None → is_unsent_first draft own ≡ false
none_unsent PhyReq (exclusive PhyUnsent) none = absurd (cc)
none_unsent PhyReq (exclusive stage) none = refl
none_unsent PhyReq own none = refl
none_unsent FeatureReq (exchange stage) none = absurd (cc)
none_unsent FeatureReq own none = refl
none_unsent VersionInd (exchange stage) none = absurd (cc)
none_unsent VersionInd own none = refl
none_unsent (LengthReq rx tx) (exchange stage) none = absurd (cc)
none_unsent (LengthReq rx tx) own none = refl
none_unsent draft own none = refl

pub none_first : (draft : Draft) (p : Progress) → own_kind p ≡ None → is_first_of draft p ≡ false
none_first draft (central c) none = none_unsent draft c.own none
none_first draft (peripheral p) none = refl

no_request : (a b : Bool) → (not a || b) ≡ true → b ≡ false → a ≡ false
no_request true b h is = absurd (cc)
no_request false b h is = refl

pub no_requests : (class_of : Draft → PduClass) (drafts : List Draft) (p : Progress) → own_kind p ≡ None → are_of_own class_of drafts p ≡ true
    → has_request class_of drafts ≡ false
no_requests class_of [] p none own = refl
no_requests class_of (draft ∷ drafts) p none own =
    let h = and_parts (not (is_request (class_of draft)) || is_first_of draft p) _ own in
    let one : is_request (class_of draft) ≡ false = no_request _ _ h.0 (none_first draft p none) in
    rw one (no_requests class_of drafts p none h.1)

module _ (s : Phased) (c : PhaseCentral) (track : TrackFacts) where
  abbrev with_table : TableFacts → Phased
  with_table table = record s { control = record s.control { table = table; track = track; ends = None } }

  entered_by : (applied : Bool) → IsCentral (opened s) c → IsCentral (with_table (entered_step s.control.table applied).0) c
  entered_by true is =
      let held = held_same s.control.table.progress in
      record {
        role = held.role ∙ is.role;
        phase = is.phase;
        closing = is.closing;
        awaits = λ a. held.awaits ∙ is.awaits a;
        rejects = is.rejects;
        waits = is.waits;
        asks_key = is.asks_key;
        kept = is.kept;
        keeps_first = is.keeps_first;
        encrypts = held.encrypts ∙ is.encrypts;
        request = is.request;
        begins = λ unsent. is.begins (sym held.unsent ∙ unsent);
      }
  entered_by false is =
      record {
        role = is.role;
        phase = is.phase;
        closing = is.closing;
        awaits = is.awaits;
        rejects = is.rejects;
        waits = is.waits;
        asks_key = is.asks_key;
        kept = is.kept;
        keeps_first = is.keeps_first;
        encrypts = is.encrypts;
        request = is.request;
        begins = is.begins;
      }

  entered_own : (applied : Bool) → are_of_own (draft_down s.knows_version) s.control.table.queue.drafts s.control.table.progress ≡ true
      → are_of_own (draft_down s.knows_version) (entered_step s.control.table applied).0.queue.drafts (entered_step s.control.table applied).0.progress ≡ true
  entered_own true own = own_held (draft_down s.knows_version) s.control.table.queue.drafts s.control.table.progress ∙ own
  entered_own false own = own

-- ---- a procedure begins

-- the part after it, where an encryption begins or none does
abbrev pub EntersAs : Bool → Phased → PhaseCentral → Type 0
EntersAs true s c = (may_encrypt c ≡ true) × IsCentral s (central_encrypts c)
EntersAs false s c = IsCentral s c

pub open_down : (closed : Bool) → is_open (closing_down closed) ≡ true → closed ≡ false
open_down true h = absurd (cc)
open_down false h = refl

may_all : (quiet awaits closed : Bool) → quiet ≡ true → awaits ≡ false → closed ≡ false → (quiet && (not awaits && not closed)) ≡ true
may_all true false false q a l = refl
may_all true false true q a l = absurd (cc)
may_all true true closed q a l = absurd (cc)
may_all false awaits closed q a l = absurd (cc)

module _ (s : Phased) (c : PhaseCentral) (track : TrackFacts) (g : TableFacts) (x : Central) where
  abbrev table_at : Bool → TableFacts
  table_at used = record g { progress = central x; closing = Open; version_used = used }

  abbrev phased_at : PhaseFacts → TableFacts → Phased
  phased_at phase table = record s { phase = phase; control = record s.control { table = table; track = track; ends = None } }

  abbrev central_at : PhaseFacts → PhaseCentral
  central_at phase = record c { phase = phase }

  record May (phase : PhaseFacts) : Type 0 where
    quiet : is_quiet phase ≡ true
    none : is_awaiting (central x) ≡ false
    queued : c.queued ≡ None
    lasts : c.closed ≡ false
    first : has_request (draft_down s.knows_version) g.queue.drafts ≡ false

  -- with a PDU that waits at the end of the queue, or without one
  other_begun : (phase : PhaseFacts) (used : Bool) (own : OwnCentral) (drafts : List Draft) (table : TableFacts) → IsCentral (phased_at phase (table_at used)) (central_at phase) → May phase
      → table.progress ≡ central (record x { own = own }) → table.closing ≡ Open → table.queue.drafts ≡ drafts
      → has_encryption (central (record x { own = own })) ≡ false
      → wait_down (draft_down s.knows_version) phase drafts c.queued ≡ true
      → IsCentral (phased_at phase table) (central_at phase)
  other_begun phase used own drafts table is may progress closing queue none waits =
      quiet_step (phased_at phase (table_at used)) (central_at phase) _ s.knows_version c.awaits is may.quiet (ap role_of progress)
      (closing ∙ sym (ap closing_down may.lasts))
      (λ a. none_of_two _ _ may.none (is.awaits a))
      (ap has_encryption progress ∙ none) (rw queue waits)

  with_draft : (phase : PhaseFacts) (used : Bool) (own : OwnCentral) (draft : Draft) (table : TableFacts) → IsCentral (phased_at phase (table_at used)) (central_at phase) → May phase
      → table.progress ≡ central (record x { own = own }) → table.closing ≡ Open → table.queue.drafts ≡ g.queue.drafts ++ draft ∷ []
      → has_encryption (central (record x { own = own })) ≡ false → is_of_others (draft_down s.knows_version draft) ≡ true
      → IsCentral (phased_at phase table) (central_at phase)
  with_draft phase used own draft table is may progress closing queue none one =
      other_begun phase used own (g.queue.drafts ++ draft ∷ []) table is may progress closing queue none
      (others_more (draft_down s.knows_version) phase g.queue.drafts c.queued draft may.quiet one is.waits)

  version_others : (knows : Bool) → is_of_others (draft_down knows VersionInd) ≡ true
  version_others true = refl
  version_others false = refl

  no_awaits : (phase : PhaseFacts) (used : Bool) → IsCentral (phased_at phase (table_at used)) (central_at phase) → May phase → c.awaits ≡ false
  no_awaits phase used is may = false_from_ne_true c.awaits (λ a. none_of_two _ _ may.none (is.awaits a))

  encrypts_by : (phase : PhaseFacts) (rand ediv skd_m iv_m : ℕ) (ltk : List ℕ) (used : Bool) (wanted : List Ask) (slot : ℕ)
      → IsCentral (phased_at phase (table_at used)) (central_at phase) → May phase
      → EntersAs true (encrypting_if true (request_of (Some (Encrypt rand ediv ltk skd_m iv_m))) (phased_at phase (facts_begun (table_at used) slot (Encrypt rand ediv ltk skd_m iv_m) wanted))) (central_at phase)
  encrypts_by Clear rand ediv skd_m iv_m ltk used wanted slot is may = (
    may_all true c.awaits c.closed refl (no_awaits Clear used is may) may.lasts,
    record {
      role = refl;
      phase = refl;
      closing = sym (ap closing_down may.lasts);
      awaits = λ a. none_of_two _ _ may.none (is.awaits a);
      rejects = rejects_if g.queue.rejections (Asked false false false) (Some EncReq) refl;
      waits =
          begins_after (draft_down s.knows_version) Clear (Asked false false false) g.queue.drafts (Cipher (enc_req rand ediv skd_m iv_m)) EncReq may.first
          (rw may.queued at is.waits) refl refl refl;
      asks_key = is.asks_key;
      kept = λ h. absurd (cc);
      keeps_first = is.keeps_first;
      encrypts = refl;
      request = refl;
      begins = λ h. refl;
    },
  )
  encrypts_by Secure rand ediv skd_m iv_m ltk used wanted slot is may = (
    may_all true c.awaits c.closed refl (no_awaits Secure used is may) may.lasts,
    record {
      role = refl;
      phase = refl;
      closing = sym (ap closing_down may.lasts);
      awaits = λ a. none_of_two _ _ may.none (is.awaits a);
      rejects = rejects_if g.queue.rejections (Pausing false) (Some PauseEncReq) refl;
      waits =
          begins_after (draft_down s.knows_version) Secure (Pausing false) g.queue.drafts (Cipher pause_enc_req) PauseEncReq may.first
          (rw may.queued at is.waits) refl refl refl;
      asks_key = is.asks_key;
      kept = λ h. absurd (cc);
      keeps_first = is.keeps_first;
      encrypts = refl;
      request = refl;
      begins = λ h. refl;
    },
  )
  encrypts_by phase rand ediv skd_m iv_m ltk used wanted slot is may = absurd (none_of_two _ _ refl may.quiet)

  abbrev begun_to : PhaseFacts → Bool → ℕ → Ask → List Ask → Type 0
  begun_to phase used slot ask wanted =
      EntersAs (is_encrypt (Some (kind_of_ask ask)))
      (encrypting_if (is_encrypt (Some (kind_of_ask ask))) (request_of (Some ask)) (phased_at phase (facts_begun (table_at used) slot ask wanted))) (central_at phase)

  begun : (phase : PhaseFacts) (used : Bool) (slot : ℕ) (ask : Ask) (wanted : List Ask) → begins central_role (kind_of_ask ask) ≡ true
      → IsCentral (phased_at phase (table_at used)) (central_at phase) → May phase → begun_to phase used slot ask wanted
  begun phase used slot (Encrypt rand ediv ltk skd_m iv_m) wanted role is may = encrypts_by phase rand ediv skd_m iv_m ltk used wanted slot is may
  begun phase used slot (Update interval latency timeout) wanted role is may = with_draft phase used (exclusive UpdateUnsent) _ _ is may refl refl refl refl refl
  begun phase used slot (ask_request min max latency timeout) wanted role is may = absurd (cc)
  begun phase used slot (Map map) wanted role is may = with_draft phase used (exclusive MapUnsent) _ _ is may refl refl refl refl refl
  begun phase used slot Phy wanted role is may = with_draft phase used (exclusive PhyUnsent) _ _ is may refl refl refl refl refl
  begun phase used slot Features wanted role is may = with_draft phase used (exchange FeaturesUnsent) _ _ is may refl refl refl refl refl
  begun phase used slot (Length tx) wanted role is may = with_draft phase used (exchange LengthUnsent) _ _ is may refl refl refl refl refl
  begun phase true slot Version wanted role is may = other_begun phase true (exchange VersionSent) g.queue.drafts _ is may refl refl refl refl is.waits
  begun phase false slot Version wanted role is may = with_draft phase false (exchange VersionUnsent) VersionInd _ is may refl refl refl refl (version_others s.knows_version)

-- ---- the place of what begins

pub begun_two : (g : TableFacts) (slot other : ℕ) (place : Option ℕ) (ask : Option Ask) → (begin_at g slot place ask).1 ≡ (begin_at g other place ask).1
begun_two g slot other None ask = refl
begun_two g slot other (Some place) None = refl
begun_two g slot other (Some place) (Some ask) = refl

pub central_of : (p : Progress) → role_of p ≡ central_role → (x : Central) × (p ≡ central x)
central_of (central x) role = (x, refl)
central_of (peripheral x) role = absurd (cc)

pub open_is : (closing : Closing) → is_open closing ≡ true → closing ≡ Open
open_is Open h = refl
open_is Closed h = absurd (cc)
open_is Disconnecting h = absurd (cc)

-- ---- the event is entered

module _ (s : Phased) (c : PhaseCentral) (slot : ℕ) (is : IsCentral (opened s) c)
    (own : are_of_own (draft_down s.knows_version) s.control.table.queue.drafts s.control.table.progress ≡ true)
    (alone : is_quiet c.phase ≡ true → c.queued ≡ None) where
  abbrev table : TableFacts
  table = (entered_step s.control.table (is_some (next_number s.control.track))).0

  abbrev track : TrackFacts
  track = track_after_enter s.control.track

  is_entered : IsCentral (with_table s c track table) c
  is_entered = entered_by s c track (is_some (next_number s.control.track)) is

  abbrev result : TableFacts → PhaseFacts → Option ℕ → Option Ask → Type 0
  result f phase place ask =
      EntersAs (is_encrypt (begin_at f slot place ask).1)
      (encrypting_if (is_encrypt (begin_at f slot place ask).1) (request_of ask)
      (with_table (record s { phase = phase }) c track (begin_at f slot place ask).0)) c

  abbrev goes : Progress → Closing → PhaseFacts → ℕ → Ask → Type 0
  goes progress closing phase place ask =
      IsCentral (with_table (record s { phase = phase }) c track (record table { progress = progress; closing = closing })) c
      → result (record table { progress = progress; closing = closing }) phase (Some place) (Some ask)

  begins_by : (place : ℕ) (ask : Ask) → Begins table (is_quiet s.phase) ask → result table s.phase (Some place) (Some ask)
  begins_by place ask may =
      let x = central_of table.progress is_entered.role in
      let none : is_awaiting table.progress ≡ false = none_awaits table.progress may.none in
      let quiet : is_quiet c.phase ≡ true = ap is_quiet (sym is.phase) ∙ may.is_quiet in
      let opens : table.closing ≡ Open = open_is table.closing may.lasts in
      let lasts : is_open (closing_down c.closed) ≡ true = ap is_open (sym is_entered.closing) ∙ may.lasts in
      let role : begins central_role (kind_of_ask ask) ≡ true = ap (λ r. begins r (kind_of_ask ask)) (sym is_entered.role) ∙ may.role in
      let first = no_requests (draft_down s.knows_version) table.queue.drafts table.progress may.none (entered_own s c track (is_some (next_number s.control.track)) own) in
      let at_end : goes (central x.0) Open c.phase place ask =
      λ here. begun s c track table x.0 c.phase table.version_used slot ask (remove table.wanted place) role here
      (record { quiet = quiet; none = ap is_awaiting (sym x.1) ∙ none; queued = alone quiet; lasts = open_down c.closed lasts; first = first }) in
      let with_phase : goes (central x.0) Open s.phase place ask = subst (λ (p : PhaseFacts). goes (central x.0) Open p place ask) (sym is.phase) at_end in
      let with_closing : goes (central x.0) table.closing s.phase place ask = subst (λ (cl : Closing). goes (central x.0) cl s.phase place ask) (sym opens) with_phase in
      subst (λ (p : Progress). goes p table.closing s.phase place ask) (sym x.1) with_closing is_entered

  enters_by : (place : Option ℕ) (ask : Option Ask) → place_to_begin table (is_quiet s.phase) ≡ place → ask_at place table.wanted ≡ ask
      → result table s.phase place ask
  enters_by None ask p a = is_entered
  enters_by (Some place) None p a = is_entered
  enters_by (Some place) (Some ask) p a = begins_by place ask (begins_of table (is_quiet s.phase) place ask p a)

  pub central_enters : EntersAs (does_encrypt (opened s)) (phased_after (Enters slot) (opened s)) c
  central_enters =
      let h = enters_by (place_to_begin table (is_quiet s.phase)) (ask_at (place_to_begin table (is_quiet s.phase)) table.wanted) refl refl in
      subst (λ (b : Bool). EntersAs b (phased_after (Enters slot) (opened s)) c)
      (ap is_encrypt (begun_two table slot 0 (place_to_begin table (is_quiet s.phase)) (ask_at (place_to_begin table (is_quiet s.phase)) table.wanted))) h

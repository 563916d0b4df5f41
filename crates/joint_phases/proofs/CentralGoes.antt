-- A central hears its host, and sees its PDU acknowledged: what the machine of phases sees of it.
use Rattle.std.proofs.Common.{◌≡◌, ℕ, Bool, true, false, not, ◌&&◌, [], ◌∷◌, ◌++◌, Option, Some, None, Result, Ok, Err, is_some, refl, ap, sym, subst, ◌∙◌, if◌then◌else◌}
use Rattle.ble_base.specs.declared.error_codes.ErrCode.{ErrCode}
use Rattle.ble_base.specs.declared.roles.Role.TheVariants.{Central as central_role}
use Rattle.data_pdu.specs.declared.ctrl.Ctrl.{Ctrl}
use Rattle.data_pdu.specs.declared.ctrl.Ctrl.TheVariants.{EncReq as enc_req}
use Rattle.phase_pairs.specs.enc_phase.declared.classes.PduClass.{PduClass}
use Rattle.phase_pairs.specs.enc_phase.declared.classes.PduClass.TheVariants.{EncReq}
use Rattle.phase_pairs.specs.enc_phase.declared.facts.PhaseFacts.{PhaseFacts}
use Rattle.phase_pairs.specs.enc_phase.declared.facts.PhaseFacts.TheVariants.{Asked, HalfClear}
use Rattle.phase_pairs.specs.enc_phase.declared.facts.Transition.TheVariants.{Ask as AskTransition}
use Rattle.phase_pairs.specs.enc_phase.Phases.{is_quiet, may_follow}
use Rattle.joint_controls.specs.procedure_values.declared.asks.Ask.{Ask}
use Rattle.joint_controls.specs.procedure_values.declared.asks.Ask.TheVariants.{Update as ask_update}
use Rattle.joint_controls.specs.procedure_values.declared.drafts.Draft.TheVariants.{Grant}
use Rattle.joint_controls.specs.procedure_values.declared.drafts.Outgoing.{Outgoing}
use Rattle.joint_controls.specs.procedure_values.declared.drafts.Outgoing.TheVariants.{Other}
use Rattle.joint_controls.specs.procedure_values.declared.drafts.Rejection.{Rejection}
use Rattle.joint_controls.specs.procedure_values.Drafts.{is_out}
use Rattle.exclusive_stages.specs.declared.stages.PeerAtCentral.{PeerAtCentral}
use Rattle.joint_controls.specs.procedure_stages.declared.closing.Closing.{Closing}
use Rattle.joint_controls.specs.procedure_stages.declared.closing.Closing.TheVariants.{Open}
use Rattle.joint_controls.specs.procedure_stages.declared.stages.Progress.{Progress}
use Rattle.joint_controls.specs.procedure_stages.declared.stages.Progress.TheVariants.{Central as central, Peripheral as peripheral}
use Rattle.joint_controls.specs.procedure_stages.Acked.{progress_acked}
use Rattle.joint_controls.specs.procedure_stages.Closing.{is_open}
use Rattle.joint_controls.specs.procedure_stages.InProgress.{is_host_asked, peer_becomes}
use Rattle.joint_controls.specs.procedure_stages.Kinds.{role_of}
use Rattle.joint_controls.specs.procedure_stages.Queue.{QueueFacts}
use Rattle.joint_controls.specs.procedures.Encryption.{progress_given}
use Rattle.joint_controls.specs.procedures.Going.{host_answer_step, is_answer, owe_step, terminate_step}
use Rattle.joint_controls.specs.procedures.Sending.{acked_step}
use Rattle.joint_controls.specs.procedures.Table.{TableFacts}
use Rattle.joint_controls.specs.table_laws.Encrypting.{has_encryption}
use Rattle.joint_controls.specs.control_model.Control.{Control, table_if}
use Rattle.phase_pairs.specs.declared.central.PhaseCentral.{PhaseCentral}
use Rattle.phase_pairs.specs.Central.{central_asking}
use Rattle.joint_controls.specs.phased_control.Phased.{Phased, asking_if, is_pause_rsp}
use Rattle.joint_controls.specs.phased_control.Taken.{Answers, Asks, Disconnects, GivesKey, LacksKey, SeesAcknowledged, phased_after}
use Rattle.joint_phases.specs.Classes.{draft_down}
use Rattle.joint_phases.specs.Parts.{IsCentral, closing_down, is_awaiting, is_enc_req, wait_down}
use Rattle.joint_phases.proofs.CentralEnters.{open_down, opened, quiet_step}
use Rattle.joint_phases.proofs.CentralQueue.{no_rejections, nothing_waits, others_more}
use Rattle.joint_phases.proofs.MachineFacts.{is_half_clear}
use Rattle.joint_phases.proofs.Stages.{SameStage, acked_same}

-- ---- the host asks for a procedure

pub central_asks : (s : Phased) (c : PhaseCentral) (ask : Ask) → IsCentral (opened s) c → IsCentral (phased_after (Asks ask) (opened s)) c
central_asks s c ask is =
    record {
      role = is.role;
      phase = is.phase;
      closing = is.closing;
      awaits = is.awaits;
      rejects = is.rejects;
      waits = is.waits;
      asks_key = is.asks_key;
      kept = is.kept;
      keeps_first = is.keeps_first;
      encrypts = is.encrypts;
      request = is.request;
      begins = is.begins;
    }

-- ---- it ends the link, or did before

abbrev pub ClosesAs : PhaseCentral → Bool → Phased → Type 0
ClosesAs c true t = (not c.closed ≡ true) × IsCentral t (record c { closed = true })
ClosesAs c false t = IsCentral t c

-- ---- it answers a request of the peripheral

peer_same : (peer : PeerAtCentral) (p : Progress) → SameStage p (peer_becomes peer p)
peer_same peer (central c) = record { role = refl; awaits = refl; encrypts = refl; unsent = refl }
peer_same peer (peripheral p) = record { role = refl; awaits = refl; encrypts = refl; unsent = refl }

draft_more : (knows b : Bool) (phase : PhaseFacts) (queue : QueueFacts) (queued : Option PduClass) (params : _) → is_quiet phase ≡ true
    → wait_down (draft_down knows) phase queue.drafts queued ≡ true
    → wait_down (draft_down knows) phase (if b then record queue { drafts = queue.drafts ++ Grant params ∷ [] } else queue).drafts queued ≡ true
draft_more knows true phase queue queued params quiet waits = others_more (draft_down knows) phase queue.drafts queued (Grant params) quiet refl waits
draft_more knows false phase queue queued params quiet waits = waits

rejection_more : (knows b : Bool) (phase : PhaseFacts) (queue : QueueFacts) (queued : Option PduClass) (rejection : Rejection)
    → wait_down (draft_down knows) phase queue.drafts queued ≡ true
    → wait_down (draft_down knows) phase (if b then record queue { rejections = queue.rejections ++ rejection ∷ [] } else queue).drafts queued ≡ true
rejection_more knows true phase queue queued rejection waits = waits
rejection_more knows false phase queue queued rejection waits = waits

module _ (s : Phased) (c : PhaseCentral) (is : IsCentral (opened s) c) where
  abbrev control_at : TableFacts → Control
  control_at table = record s.control { table = table; ends = None }

  answers_quiet : (answer : Result Ask ErrCode) → is_quiet c.phase ≡ true
      → IsCentral (record s { control = control_at (host_answer_step s.control.table answer) }) c
  answers_quiet (Ok (ask_update interval latency timeout)) quiet =
      let same = peer_same _ s.control.table.progress in
      quiet_step (opened s) c _ s.knows_version c.awaits is quiet (same.role ∙ is.role) is.closing (λ a. same.awaits ∙ is.awaits a)
      (same.encrypts ∙ is.encrypts ∙ ap not quiet)
      (draft_more s.knows_version (is_open s.control.table.closing) c.phase s.control.table.queue c.queued _ quiet is.waits)
  answers_quiet (Ok ask) quiet = is
  answers_quiet (Err code) quiet =
      let same = peer_same _ s.control.table.progress in
      quiet_step (opened s) c _ s.knows_version c.awaits is quiet (same.role ∙ is.role) is.closing (λ a. same.awaits ∙ is.awaits a)
      (same.encrypts ∙ is.encrypts ∙ ap not quiet)
      (rejection_more s.knows_version (is_open s.control.table.closing) c.phase s.control.table.queue c.queued _ is.waits)

  answers_if : (asked is_one : Bool) (answer : Result Ask ErrCode) → (asked ≡ true → is_quiet c.phase ≡ true)
      → IsCentral (record s { control = table_if (asked && is_one) (host_answer_step s.control.table answer) (record s.control { ends = None }) }) c
  answers_if true true answer quiet = answers_quiet answer (quiet refl)
  answers_if true false answer quiet = is
  answers_if false is_one answer quiet = is

  pub central_answers : (answer : Result Ask ErrCode) → (is_host_asked s.control.table.progress ≡ true → is_quiet s.phase ≡ true)
      → IsCentral (phased_after (Answers answer) (opened s)) c
  central_answers answer quiet =
      answers_if (is_host_asked s.control.table.progress) (is_answer answer) answer (λ asked. ap is_quiet (sym is.phase) ∙ quiet asked)

  -- ---- it ends the link

  closes_if : (b : Bool) (reason : ErrCode) → is_open s.control.table.closing ≡ b
      → ClosesAs c b (record s { control = table_if b (terminate_step s.control.table reason) (record s.control { ends = None }) })
  closes_if false reason opens = is
  closes_if true reason opens =
      let lasts : c.closed ≡ false = open_down c.closed (ap is_open (sym is.closing) ∙ opens) in
      let drafts_same : (b : Bool) → (if b then record s.control.table.queue { disconnect = Some reason } else s.control.table.queue).drafts ≡ s.control.table.queue.drafts =
      λ b. elim b as (λ x. (if x then record s.control.table.queue { disconnect = Some reason } else s.control.table.queue).drafts ≡ s.control.table.queue.drafts) [ true ↦ refl | false ↦ refl ] in
      let rejections_same : (b : Bool) → (if b then record s.control.table.queue { disconnect = Some reason } else s.control.table.queue).rejections ≡ s.control.table.queue.rejections =
      λ b. elim b as (λ x. (if x then record s.control.table.queue { disconnect = Some reason } else s.control.table.queue).rejections ≡ s.control.table.queue.rejections) [ true ↦ refl | false ↦ refl ] in (
        ap not lasts,
        record {
          role = is.role;
          phase = is.phase;
          closing = refl;
          awaits = is.awaits;
          rejects = rw (rejections_same (is_open s.control.table.closing)) is.rejects;
          waits = rw (drafts_same (is_open s.control.table.closing)) is.waits;
          asks_key = is.asks_key;
          kept = is.kept;
          keeps_first = is.keeps_first;
          encrypts = is.encrypts;
          request = is.request;
          begins = is.begins;
        },
      )

  pub central_disconnects : (reason : ErrCode) → ClosesAs c (is_open s.control.table.closing) (phased_after (Disconnects reason) (opened s))
  central_disconnects reason = closes_if (is_open s.control.table.closing) reason refl

  -- ---- it is asked for no key

  no_key : (b open_now : Bool) (t : Phased) → b ≡ false → IsCentral (if b && open_now then t else opened s) c
  no_key true open_now t none = absurd (cc)
  no_key false open_now t none = is

  pub central_key : IsCentral (phased_after GivesKey (opened s)) c
  central_key = no_key s.asks_key (is_open s.control.table.closing) _ is.asks_key

  pub central_lacks : IsCentral (phased_after LacksKey (opened s)) c
  central_lacks = no_key s.asks_key (is_open s.control.table.closing) _ is.asks_key

-- ---- its PDU is acknowledged

acked_same_of : (out : _) (p : Progress) → role_of p ≡ central_role → SameStage p (progress_acked out p)
acked_same_of out (central x) role = acked_same out x
acked_same_of out (peripheral x) role = absurd (cc)

given_same : (p : Progress) (rand ediv skd_m iv_m : ℕ) → progress_given p (enc_req rand ediv skd_m iv_m) ≡ p
given_same (central x) rand ediv skd_m iv_m = refl
given_same (peripheral x) rand ediv skd_m iv_m = refl

module _ (s : Phased) (c : PhaseCentral) where
  abbrev with_table : TableFacts → Phased
  with_table table = record s { control = record s.control { table = table; ends = None } }

  acked_if : (b : Bool) → IsCentral (opened s) c
      → IsCentral (record s { control = table_if b (acked_step s.control.table).0 (record s.control { ends = None }) }) c
  acked_if false is = is
  acked_if true is =
      let same = acked_same_of s.control.table.out s.control.table.progress is.role in
      record {
        role = same.role ∙ is.role;
        phase = is.phase;
        closing = is.closing;
        awaits = λ a. same.awaits ∙ is.awaits a;
        rejects = is.rejects;
        waits = is.waits;
        asks_key = is.asks_key;
        kept = is.kept;
        keeps_first = is.keeps_first;
        encrypts = same.encrypts ∙ is.encrypts;
        request = is.request;
        begins = λ h. is.begins (sym same.unsent ∙ h);
      }

-- the first LL_ENC_REQ after a pause
module _ (s : Phased) (c : PhaseCentral) (kept : Bool) (table : TableFacts) where
  abbrev here : Phased
  here = record s { phase = HalfClear kept; control = record s.control { table = table; ends = None } }

  abbrev half_clear : PhaseCentral
  half_clear = record c { phase = HalfClear kept }

  asks_with : (rand ediv skd_m iv_m : ℕ) (closing : Closing) → closing ≡ Open → table.closing ≡ closing → IsCentral here half_clear → c.queued ≡ None → c.closed ≡ false
      → IsCentral (record here {
        phase = Asked true false kept;
        request = Some (enc_req rand ediv skd_m iv_m);
        control = record s.control { table = owe_step table (enc_req rand ediv skd_m iv_m); ends = None };
      })
      (record c { phase = Asked true false kept; queued = Some EncReq })
  asks_with rand ediv skd_m iv_m closing opens at_closing is none lasts =
      let given = given_same table.progress rand ediv skd_m iv_m in
      let no_drafts : table.queue.drafts ≡ [] = nothing_waits (draft_down s.knows_version) (HalfClear kept) table.queue.drafts c.queued refl none is.waits in
      let no_rejects : table.queue.rejections ≡ [] = no_rejections table.queue.rejections (HalfClear kept) c.queued refl none is.rejects in
      record {
        role = ap role_of given ∙ is.role;
        phase = refl;
        closing = is.closing;
        awaits = λ a. ap is_awaiting given ∙ is.awaits a;
        rejects = rw (at_closing, opens, no_rejects) refl;
        waits = rw (at_closing, opens, no_drafts) refl;
        asks_key = is.asks_key;
        kept = λ h. absurd (cc);
        keeps_first = is.keeps_first;
        encrypts = ap has_encryption given ∙ is.encrypts;
        request = refl;
        begins = λ h. refl;
      }

  asks_by : (request : Option Ctrl) → is_enc_req request ≡ true → IsCentral here half_clear → c.queued ≡ None → c.closed ≡ false
      → IsCentral (asking_if true (record here { request = request })) (record c { phase = Asked true false kept; queued = Some EncReq })
  asks_by (Some (enc_req rand ediv skd_m iv_m)) asked is none lasts =
      asks_with rand ediv skd_m iv_m Open refl (is.closing ∙ ap closing_down lasts) is none lasts
  asks_by (Some other) asked is none lasts = absurd (cc)
  asks_by None asked is none lasts = absurd (cc)

  request_some : (request : Option Ctrl) → is_enc_req request ≡ true → is_some request ≡ true
  request_some None h = absurd (cc)
  request_some (Some ctrl) h = refl

  abbrev asking_to : (open_now closed : Bool) → Type 0
  asking_to open_now closed =
      IsCentral (asking_if (open_now && is_some s.request) here) (if closed then half_clear else record c { phase = Asked true false kept; queued = Some EncReq })

  asks_again_by : (open_now closed : Bool) → open_now ≡ not closed → c.closed ≡ closed → IsCentral here half_clear → c.queued ≡ None
      → asking_to open_now closed
  asks_again_by true false opens closed is none =
      rw (request_some s.request is.request) (asks_by s.request is.request is none closed)
  asks_again_by false true opens closed is none = is
  asks_again_by true true opens closed is none = absurd (cc)
  asks_again_by false false opens closed is none = absurd (cc)

  pub asks_again_then : (open_now : Bool) → open_now ≡ not c.closed → IsCentral here half_clear → c.queued ≡ None
      → IsCentral (asking_if (open_now && is_some s.request) here) (central_asking half_clear)
  asks_again_then open_now opens is none = asks_again_by open_now c.closed opens refl is none

module _ (s : Phased) (c : PhaseCentral) where
  open_now : (closed : Bool) → is_open (closing_down closed) ≡ not closed
  open_now true = refl
  open_now false = refl

  pause_is_out : (out : Outgoing) → is_pause_rsp out ≡ true → is_out out ≡ true
  pause_is_out (Other draft) h = refl
  pause_is_out out h = absurd (cc)

  abbrev acked_table : TableFacts
  acked_table = (acked_step s.control.table).0

  abbrev with_table_if : Bool → Phased
  with_table_if b = record s { control = table_if b acked_table (record s.control { ends = None }) }

  -- where an LL_PAUSE_ENC_RSP was acknowledged
  paused : (phase : PhaseFacts) → s.phase ≡ phase → is_half_clear phase ≡ true → IsCentral (record s { phase = phase; control = record s.control { table = acked_table; ends = None } }) (record c { phase = phase })
      → c.queued ≡ None
      → IsCentral (asking_if (may_follow AskTransition phase && (is_open s.control.table.closing && is_some s.request))
      (record s { phase = phase; control = record s.control { table = acked_table; ends = None } })) (central_asking (record c { phase = phase }))
  paused (HalfClear kept) at_phase half is none = asks_again_then s c kept acked_table (is_open s.control.table.closing) (ap is_open is.closing ∙ open_now c.closed) is none
  paused phase at_phase half is none = absurd (cc)

  pub central_acked : (b : Bool) → is_pause_rsp s.control.table.out ≡ b → (b ≡ true → is_half_clear c.phase ≡ true) → (b ≡ true → c.queued ≡ None)
      → IsCentral (opened s) c → IsCentral (phased_after SeesAcknowledged (opened s)) (if b then central_asking c else c)
  central_acked false out half none is =
      let h : IsCentral (asking_if false (with_table_if (is_out s.control.table.out))) c = acked_if s c (is_out s.control.table.out) is in
      subst (λ (x : Bool). IsCentral (asking_if (x && (may_follow AskTransition s.phase && (is_open s.control.table.closing && is_some s.request))) (with_table_if (is_out s.control.table.out))) c) (sym out) h
  central_acked true out half none is =
      let here = acked_if s c true is in
      let phase : s.phase ≡ c.phase = is.phase in
      let h : IsCentral (asking_if (may_follow AskTransition s.phase && (is_open s.control.table.closing && is_some s.request)) (with_table_if true)) (central_asking (record c { phase = s.phase })) =
      paused s.phase refl (ap is_half_clear phase ∙ half refl) (subst (λ (p : PhaseFacts). IsCentral (with_table_if true) (record c { phase = p })) (sym phase) here) (none refl) in
      let one = subst (λ (p : PhaseFacts). IsCentral (asking_if (may_follow AskTransition s.phase && (is_open s.control.table.closing && is_some s.request)) (with_table_if true)) (central_asking (record c { phase = p }))) phase h in
      let two = subst (λ (x : Bool). IsCentral (asking_if (x && (may_follow AskTransition s.phase && (is_open s.control.table.closing && is_some s.request))) (with_table_if true)) (central_asking c)) (sym out) one in
      subst (λ (x : Bool). IsCentral (asking_if (is_pause_rsp s.control.table.out && (may_follow AskTransition s.phase && (is_open s.control.table.closing && is_some s.request))) (with_table_if x)) (central_asking c))
      (sym (pause_is_out s.control.table.out out)) two

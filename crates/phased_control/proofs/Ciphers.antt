-- The PDUs of the encryption that wait at an end change as the layer above queues one and as one is sent, and by nothing else.
use Rattle.std.proofs.Common.{◌≡◌, ℕ, Bool, true, false, not, ◌&&◌, if◌then◌else◌, List, [], ◌∷◌, ◌++◌, Option, Some, None, is_some, Result, Ok, Err, refl, sym, ap, subst, ◌∙◌, append-nil}
use Rattle.std.specs.List.{AllByRecursion}
use Rattle.ble_base.specs.ErrorCodes.{instant_passed}
use Rattle.ble_base.specs.declared.error_codes.ErrCode.{ErrCode}
use Rattle.ble_base.specs.declared.roles.Role.{Role}
use Rattle.ble_base.specs.declared.roles.Role.TheVariants.{Central as central_role, Peripheral as peripheral_role}
use Rattle.data_pdu.specs.declared.ctrl.Ctrl.{Ctrl}
use Rattle.data_pdu.specs.declared.ctrl.CtrlRead.{CtrlRead}
use Rattle.instants.specs.declared.indications.Indication.{Indication}
use Rattle.instants.specs.Track.{event_of, next_number, track_after_take}
use Rattle.table_laws.specs.procedure_values.declared.asks.Ask.{Ask}
use Rattle.table_laws.specs.procedure_values.declared.asks.Ask.TheVariants.{Update as ask_update, Request as ask_request, Map as ask_map, Phy as ask_phy, Features as ask_features, Version as ask_version, Length as ask_length, Encrypt as ask_encrypt}
use Rattle.table_laws.specs.procedure_values.declared.drafts.Draft.{Draft}
use Rattle.table_laws.specs.procedure_values.declared.drafts.Draft.TheVariants.{Cipher, Grant}
use Rattle.table_laws.specs.procedure_values.declared.drafts.Outgoing.{Outgoing}
use Rattle.table_laws.specs.procedure_values.declared.drafts.Outgoing.TheVariants.{Nothing, Other}
use Rattle.table_laws.specs.procedure_values.Drafts.{is_out, waits_for_instant}
use Rattle.table_laws.specs.procedure_values.declared.lengths.Lengths.{Lengths}
use Rattle.table_laws.specs.procedure_stages.declared.closing.Closing.{Closing}
use Rattle.table_laws.specs.procedure_values.declared.drafts.Rejection.{Rejection as TheRejection}
use Rattle.table_laws.specs.procedure_stages.declared.reply.Reply.{Reply}
use Rattle.table_laws.specs.procedure_stages.declared.reply.Reply.TheVariants.{Answer, Nothing as no_reply, Reject}
use Rattle.table_laws.specs.procedure_stages.declared.stages.Progress.{Progress}
use Rattle.table_laws.specs.procedure_stages.Begun.{draft_begun}
use Rattle.table_laws.specs.procedure_stages.Closing.{is_disconnecting, is_open}
use Rattle.table_laws.specs.procedure_stages.InProgress.{is_host_asked}
use Rattle.table_laws.specs.procedure_stages.Kinds.{role_of}
use Rattle.table_laws.specs.procedure_stages.Queue.{QueueFacts, is_past_instant, next_draft, next_in, with_reply, without_next}
use Rattle.table_laws.specs.procedures.Beginning.{ask_at, begin_at, place_to_begin, with_first_draft}
use Rattle.table_laws.specs.procedures.Going.{entered_step, host_answer_step, is_answer, terminate_step}
use Rattle.table_laws.specs.procedures.Table.{TableFacts}
use Rattle.table_laws.specs.procedures.Taking.{facts_with, outcome_of}
use Rattle.table_laws.proofs.Outcomes.{is_reply, took}
use Rattle.control_model.specs.Control.{Control, Step, Enters, Asks, Answers, Disconnects, Sends, SeesAcknowledged, Takes, Owes, after, ended, following, goes_out, indicated_by, is_to_come, moved, table_if, taken, went}
use Rattle.control_model.proofs.Calls.{any_step, either_way, took_by}
use Rattle.phased_control.specs.Ciphers.{cipher_in, cipher_of, ciphers_in, ciphers_waiting}

pub ciphers_joined : (xs ys : List Draft) → ciphers_in (xs ++ ys) ≡ ciphers_in xs ++ ciphers_in ys
ciphers_joined [] ys = refl
ciphers_joined (x ∷ xs) ys = ap (λ (zs : List Ctrl). cipher_of x ++ zs) (ciphers_joined xs ys) ∙ by (cipher_of x)
  where
    by : (c : List Ctrl) → c ++ (ciphers_in xs ++ ciphers_in ys) ≡ (c ++ ciphers_in xs) ++ ciphers_in ys
    by [] = refl
    by (y ∷ c) = ap (λ (zs : List Ctrl). y ∷ zs) (by c)

-- what is out is such a PDU, and fits
abbrev pub IsOut : (Ctrl → Type 0) → Outgoing → Type 0
IsOut P (Other draft) = AllByRecursion P (cipher_of draft)
IsOut P outgoing = Unit {0}

-- what waits is of a sort that each rest of it is of too, and so is what is out
pub record Sort (S : List Ctrl → Type 0) (P : Ctrl → Type 0) : Type 0 where
  pub rest : (x : Ctrl) (xs : List Ctrl) → S (x ∷ xs) → S xs
  pub head : (x : Ctrl) (xs : List Ctrl) → S (x ∷ xs) → P x

pub record Holds (S : List Ctrl → Type 0) (P : Ctrl → Type 0) (f : TableFacts) : Type 0 where
  pub waits : S (ciphers_waiting f)
  pub out : IsOut P f.out

module _ (S : List Ctrl → Type 0) (P : Ctrl → Type 0) where
  -- ---- what is queued is no such PDU

  none_queued : (b : Bool) (draft : Draft) (queue : QueueFacts) → cipher_of draft ≡ [] → S (ciphers_in queue.drafts)
      → S (ciphers_in (if b then record queue { drafts = queue.drafts ++ draft ∷ [] } else queue).drafts)
  none_queued false draft queue none holds = holds
  none_queued true draft queue none holds =
      subst S (sym (ciphers_joined queue.drafts (draft ∷ []) ∙ ap (λ (c : List Ctrl). ciphers_in queue.drafts ++ (c ++ [])) none ∙ append-nil (ciphers_in queue.drafts))) holds

  none_rejected : (b : Bool) (rejection : TheRejection) (queue : QueueFacts) → S (ciphers_in queue.drafts)
      → S (ciphers_in (if b then record queue { rejections = queue.rejections ++ rejection ∷ [] } else queue).drafts)
  none_rejected false rejection queue holds = holds
  none_rejected true rejection queue holds = holds

  none_disconnecting : (b : Bool) (code : ErrCode) (queue : QueueFacts) → S (ciphers_in queue.drafts)
      → S (ciphers_in (if b then record queue { disconnect = Some code } else queue).drafts)
  none_disconnecting false code queue holds = holds
  none_disconnecting true code queue holds = holds

  -- ---- a procedure begins

  begun_draft : (closing : Closing) (role : Role) (used : Bool) (lengths : Lengths) (ask : Ask) (queue : QueueFacts) → S (ciphers_in queue.drafts)
      → S (ciphers_in (with_first_draft closing (draft_begun role used lengths ask) queue).drafts)
  begun_draft closing role used lengths (ask_update interval latency timeout) queue holds = none_queued (is_open closing) _ queue refl holds
  begun_draft closing role used lengths (ask_request min max latency timeout) queue holds = none_queued (is_open closing) _ queue refl holds
  begun_draft closing role used lengths (ask_map map) queue holds = none_queued (is_open closing) _ queue refl holds
  begun_draft closing role used lengths ask_phy queue holds = none_queued (is_open closing) _ queue refl holds
  begun_draft closing central_role used lengths ask_features queue holds = none_queued (is_open closing) _ queue refl holds
  begun_draft closing peripheral_role used lengths ask_features queue holds = none_queued (is_open closing) _ queue refl holds
  begun_draft closing role true lengths ask_version queue holds = holds
  begun_draft closing role false lengths ask_version queue holds = none_queued (is_open closing) _ queue refl holds
  begun_draft closing role used lengths (ask_length tx) queue holds = none_queued (is_open closing) _ queue refl holds
  begun_draft closing role used lengths (ask_encrypt rand ediv ltk skd_m iv_m) queue holds = holds

  begun_at : (f : TableFacts) (slot : ℕ) (place : Option ℕ) (ask : Option Ask) → Holds S P f → Holds S P (begin_at f slot place ask).0
  begun_at f slot None ask holds = holds
  begun_at f slot (Some place) None holds = holds
  begun_at f slot (Some place) (Some ask) holds =
      record { waits = begun_draft f.closing (role_of f.progress) f.version_used f.lengths ask f.queue holds.waits; out = holds.out }

  -- ---- the host answers

  answered : (f : TableFacts) (answer : Result Ask ErrCode) → Holds S P f → Holds S P (host_answer_step f answer)
  answered f (Ok (ask_update interval latency timeout)) holds =
      record { waits = none_queued (is_open f.closing) (Grant (record { interval = interval; latency = latency; timeout = timeout })) f.queue refl holds.waits; out = holds.out }
  answered f (Ok other) holds = holds
  answered f (Err code) holds = record { waits = none_rejected (is_open f.closing) _ f.queue holds.waits; out = holds.out }

  -- ---- a PDU is taken

  reply_is_none : (role : Role) (used : Bool) (draft : Draft) → is_reply role used (Answer draft) ≡ true → cipher_of draft ≡ []
  reply_is_none role used (Cipher ctrl) is = absurd (cc)
  reply_is_none role used draft is = refl

  replied : (closing : Closing) (role : Role) (used : Bool) (reply : Reply) (queue : QueueFacts) → is_reply role used reply ≡ true → S (ciphers_in queue.drafts)
      → S (ciphers_in (with_reply closing reply queue).drafts)
  replied closing role used no_reply queue is holds = holds
  replied closing role used (Reject rejection) queue is holds = none_rejected (is_open closing) rejection queue holds
  replied closing role used (Answer draft) queue is holds = none_queued (is_open closing) draft queue (reply_is_none role used draft is) holds

  facts_held : (f : TableFacts) (read : CtrlRead) (slot : ℕ) (quiet : Bool) → Holds S P f → Holds S P (facts_with f slot (outcome_of f quiet read))
  facts_held f read slot quiet holds =
      record {
        waits = replied f.closing (role_of f.progress) f.version_used (outcome_of f quiet read).reply f.queue (took f quiet read).reply holds.waits;
        out = holds.out;
      }

  taken_held : (c : Control) (g : TableFacts) (indication : Option Indication) → Holds S P c.table → Holds S P g → Holds S P (taken g None indication c).table
  taken_held c g None holds next = next
  taken_held c g (Some indication) holds next = by (is_to_come c.track indication)
    where
      by : (b : Bool) → Holds S P (if b then record c { table = g; track = track_after_take c.track indication } else ended (record { 0 = instant_passed }) c).table
      by true = next
      by false = holds

  -- ---- a PDU is sent

  module _ (sort : Sort S P) where
    draft_sent : (progress : Progress) (event : ℕ) (drafts : List Draft) (rejections : List TheRejection) (disconnect : Option ErrCode) → S (ciphers_in drafts)
        → let out = next_draft progress event drafts in
        S (ciphers_in (without_next out (record { rejections = rejections; disconnect = disconnect; drafts = drafts })).drafts) × IsOut P out
    draft_sent progress event [] rejections disconnect holds = (holds, tt)
    draft_sent progress event (draft ∷ drafts) rejections disconnect holds = by (waits_for_instant draft && not (is_past_instant progress event))
      where
        of : (ctrls : List Ctrl) → S (ctrls ++ ciphers_in drafts) → S (ciphers_in drafts) × AllByRecursion P ctrls
        of [] h = (h, tt)
        of (ctrl ∷ ctrls) h =
            let more = of ctrls (sort.rest ctrl (ctrls ++ ciphers_in drafts) h) in
            (more.0, (sort.head ctrl (ctrls ++ ciphers_in drafts) h, more.1))

        by : (b : Bool) → let out = (if b then Nothing else Other draft) in
            S (ciphers_in (without_next out (record { rejections = rejections; disconnect = disconnect; drafts = draft ∷ drafts })).drafts) × IsOut P out
        by true = (holds, tt)
        by false = of (cipher_of draft) holds

    queue_sent : (rejections : List TheRejection) (ends : Bool) (disconnect : Option ErrCode) (drafts : List Draft) (progress : Progress) (event : ℕ) → S (ciphers_in drafts)
        → let queue : QueueFacts = record { rejections = rejections; disconnect = disconnect; drafts = drafts } in
        let out = next_in ends progress event queue in
        S (ciphers_in (without_next out queue).drafts) × IsOut P out
    queue_sent (rejection ∷ rejections) ends disconnect drafts progress event holds = (holds, tt)
    queue_sent [] true None drafts progress event holds = (holds, tt)
    queue_sent [] true (Some code) drafts progress event holds = (holds, tt)
    queue_sent [] false disconnect drafts progress event holds = draft_sent progress event drafts [] disconnect holds

    following_held : (role : Role) (indication : Option Indication) (c : Control) → Holds S P c.table → Holds S P (following role indication c).table
    following_held central_role None c holds = holds
    following_held central_role (Some indication) c holds = holds
    following_held peripheral_role indication c holds = holds

    went_held : (slot : ℕ) (quiet : Bool) (c : Control) → Holds S P c.table → Holds S P (went slot quiet c).0
    went_held slot quiet c holds =
        let f = c.table in
        let h = queue_sent f.queue.rejections (is_disconnecting f.closing && quiet) f.queue.disconnect f.queue.drafts f.progress (event_of c.track) holds.waits in
        record { waits = h.0; out = h.1 }

    -- ---- every step but one

    abbrev pub is_owing : Step → Bool
    is_owing (Owes ctrl) = true
    is_owing step = false

    held_if : (b : Bool) (g : TableFacts) (c : Control) → Holds S P c.table → Holds S P g → Holds S P (table_if b g c).table
    held_if true g c holds next = next
    held_if false g c holds next = holds

    entered_held : (b : Bool) (f : TableFacts) → Holds S P f → Holds S P (entered_step f b).0
    entered_held true f holds = record { waits = holds.waits; out = holds.out }
    entered_held false f holds = holds

    held_moved : (step : Step) (c : Control) → is_owing step ≡ false → Holds S P c.table → Holds S P (moved step c).table
    held_moved (Owes ctrl) c is holds = absurd (cc)
    held_moved (Enters slot quiet) c is holds =
        let f = (entered_step c.table (is_some (next_number c.track))).0 in
        begun_at f slot (place_to_begin f quiet) (ask_at (place_to_begin f quiet) f.wanted) (entered_held (is_some (next_number c.track)) c.table holds)
    held_moved (Asks ask) c is holds = record { waits = holds.waits; out = holds.out }
    held_moved (Answers answer) c is holds =
        held_if (is_host_asked c.table.progress && is_answer answer) _ c holds (answered c.table answer holds)
    held_moved (Disconnects reason) c is holds =
        held_if (is_open c.table.closing) (terminate_step c.table reason) c holds
        (record { waits = none_disconnecting (is_open c.table.closing) reason c.table.queue holds.waits; out = holds.out })
    held_moved (Sends slot quiet) c is holds =
        either_way (λ (d : Control). Holds S P d.table) (goes_out quiet c) _ c
        (following_held (role_of c.table.progress) (went slot quiet c).1 (record c { table = (went slot quiet c).0 }) (went_held slot quiet c holds)) holds
    held_moved SeesAcknowledged c is holds = held_if (is_out c.table.out) _ c holds (record { waits = holds.waits; out = tt })
    held_moved (Takes read slot quiet) c is holds =
        took_by (λ (d : Control). Holds S P d.table) c (λ code. holds) read slot quiet
        (taken_held c (facts_with c.table slot (outcome_of c.table quiet read)) (indicated_by (outcome_of c.table quiet read).step.effect) holds (facts_held c.table read slot quiet holds))

    pub held_after : (step : Step) (c : Control) → is_owing step ≡ false → Holds S P c.table → Holds S P (after step c).table
    held_after step c is holds = any_step (λ (d : Control). Holds S P d.table) step c (held_moved step c is holds) holds

    -- a PDU is queued, unless the link is to end
    owed_draft : (b : Bool) (ctrl : Ctrl) (queue : QueueFacts) → S (ciphers_in queue.drafts) → (b ≡ true → S (ciphers_in queue.drafts ++ cipher_in ctrl))
        → S (ciphers_in (if b then record queue { drafts = queue.drafts ++ Cipher ctrl ∷ [] } else queue).drafts)
    owed_draft false ctrl queue holds next = holds
    owed_draft true ctrl queue holds next = subst S (sym (ciphers_joined queue.drafts (Cipher ctrl ∷ []) ∙ ap (λ (c : List Ctrl). ciphers_in queue.drafts ++ c) (append-nil (cipher_in ctrl)))) (next refl)

    pub held_owing : (ctrl : Ctrl) (c : Control) → Holds S P c.table → (is_open c.table.closing ≡ true → S (ciphers_waiting c.table ++ cipher_in ctrl)) → Holds S P (after (Owes ctrl) c).table
    held_owing ctrl c holds next =
        any_step (λ (d : Control). Holds S P d.table) (Owes ctrl) c
        (record { waits = owed_draft (is_open c.table.closing) ctrl c.table.queue holds.waits next; out = holds.out }) holds

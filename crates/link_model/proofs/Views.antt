-- What a step of an end makes of its control part, in all phases of encryption (Core 5.2, volume 6 part B, section 5.1.3).
use Rattle.std.proofs.Common.{◌≡◌, ℕ, ◌==◌, ◌&&◌, not, Bool, true, false, List, [], ◌∷◌, ◌++◌, Option, Some, None, is_none, refl, ap, sym, subst, ◌∙◌, if◌then◌else◌}
use Rattle.std.specs.Prelude.{⊤}
use Rattle.ble_base.specs.ErrorCodes.{memory_capacity_exceeded, mic_failure, pin_or_key_missing}
use Rattle.ble_base.specs.declared.error_codes.ErrCode.{ErrCode}
use Rattle.ble_base.specs.declared.roles.Role.{Role}
use Rattle.ble_base.specs.declared.roles.Role.TheVariants.{Central, Peripheral}
use Rattle.data_pdu.specs.declared.ctrl.Ctrl.{Ctrl}
use Rattle.data_pdu.specs.declared.ctrl.Ctrl.TheVariants.{EncReq, EncRsp, PauseEncReq, PauseEncRsp, RejectExtInd, StartEncReq, StartEncRsp, TerminateInd}
use Rattle.data_pdu.specs.declared.ctrl.CtrlRead.{CtrlRead}
use Rattle.data_pdu.specs.declared.ctrl.CtrlRead.TheVariants.{Bare, Known, Unknown}
use Rattle.data_pdu.specs.Reading.{ctrl_of, opcode_of}
use Rattle.instants.specs.declared.track.Change.{Change}
use Rattle.instants.specs.declared.indications.Indication.{Indication}
use Rattle.phased_end.specs.control_end.Answers.{nothing_taken, taken_of}
use Rattle.phased_end.specs.control_end.Held.{Held, held_after as control_after, held_after_all, held_of}
use Rattle.phased_end.specs.control_end.declared.answers.Taken.{Taken}
use Rattle.phased_end.specs.control_end.control_model.Control.{Control, Step, Enters, Owes, SeesAcknowledged, Takes, after, after_all, ended, indicated_by, is_to_come, moved, taken}
use Rattle.phased_end.specs.control_end.procedures.Table.{TableFacts}
use Rattle.phased_end.specs.control_end.procedures.Taking.{took_step}
use Rattle.phased_end.proofs.control_end.Depending.{step_held, steps_held}
use Rattle.phased_end.specs.Answers.{quiet_now}
use Rattle.phased_end.specs.Held.{HeldKeyed, held_of as keyed_held}
use Rattle.phased_end.specs.Moves.{lasts}
use Rattle.phased_end.specs.Taking.{Fits, IsNamed, answered, answering_at, does_keep, drawn, ending, handed, handed_answered, handed_keyed, handed_taken, handing, is_allowed, is_answered_in, is_refused, keeping, kept_if_quiet, kept_taken, kept_taken_if_quiet, lacks_room, nothing_keyed, refusing, seen_as, taken_keyed, taking_kept}
use Rattle.phased_end.specs.declared.taking.TakenKeyed.{TakenKeyed}
use Rattle.phased_end.proofs.Depending.{step_depends}
use Rattle.phased_end.proofs.Taken.{takes_so}
use Rattle.phased_end.proofs.Unknown.{named}
use Rattle.phased_end.specs.enc_phase.declared.classes.PduClass.{PduClass}
use Rattle.phased_end.specs.enc_phase.declared.classes.PduClass.TheVariants.{Data, Other, Refusal, Request, Terminate}
use Rattle.phased_end.specs.enc_phase.declared.facts.PhaseFacts.{PhaseFacts}
use Rattle.phased_end.specs.enc_phase.declared.facts.PhaseFacts.TheVariants.{Asked, Clear, HalfClear, HalfKeyed, Pausing, Secure}
use Rattle.phased_end.specs.enc_phase.declared.facts.Transition.TheVariants.{Ask as AskTransition, Confirm, Pause, Refuse, Unlock}
use Rattle.phased_end.specs.enc_phase.Phases.{is_asked, is_quiet, may_follow}
use Rattle.phased_end.specs.enc_phase.Taking.{allows, ctrl_class, is_unknown}
use Rattle.phased_end.specs.phased_control.Ends.{IsFirst, IsRequest}
use Rattle.phased_end.specs.phased_control.Phased.{Phased, ask_begun, asks_again, is_encrypt, is_open_now, is_quiet_now as phased_quiet, request_of, table_entered}
use Rattle.phased_end.specs.phased_control.Steps.{ctrl_if, end_by_phase, ended_if, first_owed_if, kept_steps, later_steps, owed_acknowledged, owed_entering, owed_steps, owed_without_key, read_answer, seen_by_procedures, taken_steps}
use Rattle.phased_end.specs.phased_control.Taken.{Response as Drawn, ciphered, class_of_read, does_keep as phased_keeps, is_allowed as phased_allows, keeps_class, lacks_room_now, role_now, seen_if}
use Rattle.phased_end.specs.phased_control.Taken.{Enters as phased_enters, GivesKey as phased_gives_key, LacksKey as phased_lacks_key, SeesAcknowledged as phased_sees_acknowledged, Takes as phased_takes, TakesData as phased_takes_data}
use Rattle.phased_end.specs.phased_control.procedure_values.declared.asks.Ask.{Ask}
use Rattle.phased_end.specs.phased_control.procedure_values.declared.asks.Ask.TheVariants.{Encrypt}
use Rattle.phased_end.specs.phased_control.procedures.Beginning.{begin_step}
use Rattle.phased_end.proofs.keyed_control.phased_control.Moving.{open_moves}
use Rattle.phased_end.specs.keyed_control.declared.material.Response.{Response}
use Rattle.phased_end.specs.keyed_control.Keyed.{Keyed}
use Rattle.phased_end.specs.keyed_control.KeyedSteps.{KeyedStep, Enters as keyed_enters, SeesAcknowledged as keyed_sees_acknowledged, Takes as keyed_takes, TakesData as keyed_takes_data, keyed_after, keyed_moved}
use Rattle.link_model.specs.Acknowledgement.{Pdu}
use Rattle.link_model.specs.Controls.{is_quiet_now, read_of}
use Rattle.link_model.specs.Entering.{control_entered}
use Rattle.link_model.specs.Facts.{Facts, keyed_of}
use Rattle.link_model.specs.Hosts.{key_step}
use Rattle.link_model.specs.Receiving.{accepted_if, control_taken, data_taken, keyed_acked_if, kept_give, procedures_give}

-- ---- what the layer above may queue

-- a PDU of the encryption, the refusal of its start, or LL_TERMINATE_IND for want of a key
abbrev pub is_ciphering : Ctrl → Bool
is_ciphering (EncReq rand ediv skd_m iv_m) = true
is_ciphering (EncRsp skd_s iv_s) = true
is_ciphering StartEncReq = true
is_ciphering StartEncRsp = true
is_ciphering PauseEncReq = true
is_ciphering PauseEncRsp = true
is_ciphering (RejectExtInd opcode code) = opcode == 3
is_ciphering (TerminateInd code) = true
is_ciphering ctrl = false

abbrev pub MayOwe : Option Ctrl → Type 0
MayOwe None = ⊤
MayOwe (Some ctrl) = is_ciphering ctrl ≡ true

-- nothing is queued, or one PDU
pub data Owing (c d : Control) : Type 0 where
  Same : d ≡ c → Owing c d
  Owed : (ctrl : Ctrl) → is_ciphering ctrl ≡ true → d ≡ after (Owes ctrl) c → Owing c d

owing_of : (owed : Option Ctrl) → MayOwe owed → (c d : Control) → d ≡ after_all (owed_steps owed) c → Owing c d
owing_of None may c d is = Same is
owing_of (Some ctrl) may c d is = Owed ctrl may is

-- nothing happens once the link ended
pub stays_ended : (step : Step) (c : Control) → is_none c.ends ≡ false → after step c ≡ c
stays_ended step c over = ap (λ (b : Bool). if b then moved step c else c) over

may_owe_if : (b : Bool) (ctrl : Ctrl) → is_ciphering ctrl ≡ true → MayOwe (ctrl_if b ctrl)
may_owe_if true ctrl is = is
may_owe_if false ctrl is = tt

-- ---- what is known of an end: its parts fit together while it goes on

pub record Knows (k : Keyed) : Type 0 where
  pub phase : k.end.phase ≡ k.phased.phase
  pub fits : is_none k.phased.control.ends ≡ true → Fits (keyed_held k)
  -- what a central keeps is the first PDU of a procedure of the peripheral
  pub first : is_none k.phased.control.ends ≡ true → IsFirst k.phased.kept
  -- what it asks again for is encryption
  pub request : is_none k.phased.control.ends ≡ true → asks_again k.phased ≡ true → IsRequest k.phased.request

-- ---- an event is entered

may_request : (asked : Option Ask) → MayOwe (request_of asked)
may_request None = tt
may_request (Some (Encrypt rand ediv ltk skd_m iv_m)) = refl
may_request (Some other) = tt

may_enter : (begins : Bool) (phase : PhaseFacts) (asked : Option Ask) → MayOwe (first_owed_if begins phase (request_of asked))
may_enter false phase asked = tt
may_enter true Clear asked = may_request asked
may_enter true phase asked = refl

pub entered_view : (slot : ℕ) (facts : Facts)
    → Owing (after (Enters slot (is_quiet_now facts)) facts.control) (control_entered slot facts)
entered_view slot facts = by (is_none facts.control.ends) refl
  where
    k : Keyed
    k = keyed_of facts

    s : Phased
    s = k.phased

    by : (goes : Bool) → is_none facts.control.ends ≡ goes
        → Owing (after (Enters slot (is_quiet_now facts)) facts.control)
        (if goes then keyed_moved (keyed_enters slot) k else k).phased.control
    by true is =
        owing_of (owed_entering slot s)
        (may_enter (is_encrypt (begin_step (table_entered s) slot (phased_quiet s)).1) s.phase (ask_begun (table_entered s) (phased_quiet s)))
        _ _ (open_moves (phased_enters slot) s ∙ ap (λ (b : Bool). after_all (owed_steps (owed_entering slot s)) (if b then moved (Enters slot (is_quiet_now facts)) facts.control else facts.control)) refl)
    by false is = Same (sym (stays_ended (Enters slot (is_quiet_now facts)) facts.control is))

-- ---- the last control PDU is acknowledged

abbrev pub acked_control : Bool → Control → Control
acked_control acked c = if acked then after SeesAcknowledged c else c

may_again : (asks : Bool) (request : Option Ctrl) → (asks ≡ true → IsRequest request) → MayOwe (if asks then request else None)
may_again true (Some (EncReq rand ediv skd_m iv_m)) is = refl
may_again true (Some other) is = absurd (is refl)
may_again true None is = tt
may_again false request is = tt

pub acked_view : (acked : Bool) (facts : Facts) → Knows (keyed_of facts)
    → Owing (acked_control acked facts.control) (keyed_acked_if acked (keyed_of facts)).phased.control
acked_view false facts knows = Same refl
acked_view true facts knows = by (is_none facts.control.ends) refl
  where
    k : Keyed
    k = keyed_of facts

    by : (goes : Bool) → is_none facts.control.ends ≡ goes
        → Owing (after SeesAcknowledged facts.control)
        (if goes then keyed_moved keyed_sees_acknowledged k else k).phased.control
    by true is =
        owing_of (owed_acknowledged k.phased) (may_again (asks_again k.phased) k.phased.request (knows.request is)) _ _
        (open_moves phased_sees_acknowledged k.phased)
    by false is = Same (sym (stays_ended SeesAcknowledged facts.control is))

-- ---- the host has a key or none

may_lack : (refuses : Bool) → MayOwe (Some (if refuses then RejectExtInd 3 pin_or_key_missing else TerminateInd pin_or_key_missing))
may_lack true = refl
may_lack false = refl

may_lack_if : (b : Bool) (phase : PhaseFacts) → MayOwe (ctrl_if b (owed_without_key phase))
may_lack_if true phase = may_lack (may_follow Refuse phase)
may_lack_if false phase = tt

pub key_view : (key : Option (List ℕ)) (facts : Facts)
    → Owing facts.control (keyed_after (key_step key) (keyed_of facts)).phased.control
key_view None facts = by (is_none facts.control.ends)
  where
    k : Keyed
    k = keyed_of facts

    by : (goes : Bool) → Owing facts.control (if goes then keyed_moved (key_step None) k else k).phased.control
    by true =
        let asks = k.phased.asks_key && is_open_now k.phased in
        owing_of (ctrl_if asks (owed_without_key k.phased.phase)) (may_lack_if asks k.phased.phase) _ _
        (open_moves phased_lacks_key k.phased)
    by false = Same refl
key_view (Some ltk) facts = by (is_none facts.control.ends)
  where
    k : Keyed
    k = keyed_of facts

    by : (goes : Bool) → Owing facts.control (if goes then keyed_moved (key_step (Some ltk)) k else k).phased.control
    by true =
        let asks = k.phased.asks_key && is_open_now k.phased in
        owing_of (ctrl_if asks StartEncReq) (may_owe_if asks StartEncReq refl) _ _ (open_moves phased_gives_key k.phased)
    by false = Same refl

-- ---- data is taken: nothing, or it ends the link

pub data DataTaking (c d : Control) : Type 0 where
  Same : d ≡ c → DataTaking c d
  Ended : (code : ErrCode) → is_none c.ends ≡ true → d ≡ ended code c → DataTaking c d

pub data_view : (facts : Facts) → DataTaking facts.control (data_taken facts).control
data_view facts = by (is_none facts.control.ends) refl
  where
    k : Keyed
    k = keyed_of facts

    ends_by : (b : Bool) (d : Control) → is_none facts.control.ends ≡ true
        → d ≡ ended_if (if b then None else Some (record { 0 = mic_failure })) facts.control
        → DataTaking facts.control d
    ends_by true d goes is = Same is
    ends_by false d goes is = Ended (record { 0 = mic_failure }) goes is

    by : (goes : Bool) → is_none facts.control.ends ≡ goes
        → DataTaking facts.control (if goes then keyed_moved keyed_takes_data k else k).phased.control
    by true is = ends_by (allows k.phased.phase (role_now k.phased) Data) _ is (open_moves phased_takes_data k.phased)
    by false is = Same refl

-- ---- a control PDU of the peer is taken

-- the procedures see a PDU of the encryption without meaning at this end as one that is not supported
pub data SeenAs (read seen : CtrlRead) : Type 0 where
  AsRead : seen ≡ read → SeenAs read seen
  AsUnknown : (ctrl : Ctrl) → IsNamed ctrl → read ≡ Known ctrl → seen ≡ Unknown (opcode_of ctrl) → SeenAs read seen

-- what a phase that is not Clear or Secure lets the procedures see
abbrev pub is_seen_loud : PduClass → Bool
is_seen_loud Other = false
is_seen_loud Request = false
is_seen_loud pdu = true

-- and then perhaps the PDU that was kept
pub data TakingKept (slot : ℕ) (kept : Taken) (middle d : Control) : Type 0 where
  NoneKept : kept ≡ nothing_taken → d ≡ middle → TakingKept slot kept middle d
  TakesKept : (ctrl : Ctrl) → ctrl_class ctrl ≡ Request → kept ≡ taken_of (Known ctrl) slot true (held_of middle)
      → d ≡ after (Takes (Known ctrl) slot true) middle
      → TakingKept slot kept middle d

pub data Taking (quiet : Bool) (c : Control) (read : CtrlRead) (slot : ℕ) (taken kept : Taken) (d : Control) : Type 0 where
  -- the end ended the link before
  Over : is_none c.ends ≡ false → taken ≡ nothing_taken → kept ≡ nothing_taken → d ≡ c → Taking quiet c read slot taken kept d
  -- a central keeps it
  Withheld : is_none c.ends ≡ true → quiet ≡ false → class_of_read read ≡ Request → taken ≡ nothing_taken
      → kept ≡ nothing_taken → d ≡ c
      → Taking quiet c read slot taken kept d
  -- the phase ends the link by it
  Ended : (code : ErrCode) → is_none c.ends ≡ true → (class_of_read read ≡ Terminate → ⊥) → taken ≡ nothing_taken
      → kept ≡ nothing_taken → d ≡ ended code c
      → Taking quiet c read slot taken kept d
  -- the procedures see it, and then one PDU may be owed
  Handed : (seen : CtrlRead) (middle : Control) → is_none c.ends ≡ true → SeenAs read seen
      → (quiet ≡ false → is_seen_loud (class_of_read read) ≡ true)
      → Owing (after (Takes seen slot quiet) c) middle
      → taken ≡ taken_of seen slot quiet (held_of c) → TakingKept slot kept middle d
      → Taking quiet c read slot taken kept d

-- ---- what an end sent stays

by_held : (c d : Control) → held_of d ≡ held_of c → d.sent ≡ c.sent → d ≡ c
by_held c d held sent =
    λ i. record { table = (held i).table; track = (held i).track; sent = sent i; ends = (held i).ends }

sent_either : (b : Bool) (c d : Control) (sent : List Change) → c.sent ≡ sent → d.sent ≡ sent → (if b then c else d).sent ≡ sent
sent_either true c d sent one other = one
sent_either false c d sent one other = other

taken_sent : (table : TableFacts) (ends : Option ErrCode) (indication : Option Indication) (c : Control)
    → (taken table ends indication c).sent ≡ c.sent
taken_sent table (Some code) indication c = refl
taken_sent table None None c = refl
taken_sent table None (Some indication) c = sent_either (is_to_come c.track indication) _ _ c.sent refl refl

pub takes_sent : (read : CtrlRead) (slot : ℕ) (quiet : Bool) (c : Control) → (after (Takes read slot quiet) c).sent ≡ c.sent
takes_sent read slot quiet c =
    let step = took_step c.table read slot quiet in
    sent_either (is_none c.ends) _ c c.sent (taken_sent step.0 step.1.ends (indicated_by step.1.effect) c) refl

pub owes_sent : (ctrl : Ctrl) (c : Control) → (after (Owes ctrl) c).sent ≡ c.sent
owes_sent ctrl c = sent_either (is_none c.ends) _ c c.sent refl refl

owed_sent : (owed : Option Ctrl) (c : Control) → (after_all (owed_steps owed) c).sent ≡ c.sent
owed_sent None c = refl
owed_sent (Some ctrl) c = owes_sent ctrl c

kept_sent : (b : Bool) (slot : ℕ) (kept : Option Ctrl) (c : Control)
    → (after_all (if b then kept_steps slot kept else []) c).sent ≡ c.sent
kept_sent false slot kept c = refl
kept_sent true slot None c = refl
kept_sent true slot (Some ctrl) c = takes_sent (Known ctrl) slot true c

ended_sent : (ends : Option ErrCode) (c : Control) → (ended_if ends c).sent ≡ c.sent
ended_sent None c = refl
ended_sent (Some code) c = refl

joined_sent : (steps more : List Step) (c : Control) → (after_all (steps ++ more) c).sent ≡ (after_all more (after_all steps c)).sent
joined_sent [] more c = refl
joined_sent (step ∷ steps) more c = joined_sent steps more (after step c)

module _ (slot : ℕ) (response : Drawn) (read : CtrlRead) (s : Phased) where
  later_sent : (b : Bool) (t : Phased) (c : Control)
      → (after_all (if b then later_steps slot response read t else []) c).sent ≡ c.sent
  later_sent false t c = refl
  later_sent true t c =
      let owed = owed_steps (read_answer (role_now t) response read t.phase) in
      let quiet = phased_quiet (ciphered response read t) in
      joined_sent owed (if quiet then kept_steps slot t.kept else []) c
      ∙ kept_sent quiet slot t.kept (after_all owed c)
      ∙ owed_sent (read_answer (role_now t) response read t.phase) c

  abbrev seen : CtrlRead
  seen = seen_if (is_unknown s.phase (role_now s) (class_of_read read)) read

  took_sent : (allowed keeps full : Bool)
      → (after_all (if allowed then (if keeps then [] else (if full then []
      else Takes seen slot (phased_quiet s)
      ∷ (if is_none (seen_by_procedures read slot s).control.ends then later_steps slot response read (seen_by_procedures read slot s) else []))) else []) s.control).sent
      ≡ s.control.sent
  took_sent false keeps full = refl
  took_sent true true full = refl
  took_sent true false true = refl
  took_sent true false false =
      let t = seen_by_procedures read slot s in
      later_sent (is_none t.control.ends) t (after (Takes seen slot (phased_quiet s)) s.control)
      ∙ takes_sent seen slot (phased_quiet s) s.control

keyed_sent : (slot : ℕ) (response : Drawn) (read : CtrlRead) (k : Keyed)
    → (keyed_after (keyed_takes read slot response) k).phased.control.sent ≡ k.phased.control.sent
keyed_sent slot response read k = sent_keyed (is_none k.phased.control.ends)
  where
    s : Phased
    s = k.phased

    sent_keyed : (goes : Bool) → (if goes then keyed_moved (keyed_takes read slot response) k else k).phased.control.sent ≡ s.control.sent
    sent_keyed true =
        ap (λ (c : Control). c.sent) (open_moves (phased_takes read slot response) s)
        ∙ ended_sent (end_by_phase (phased_takes read slot response) s) (after_all (taken_steps slot response read s) s.control)
        ∙ took_sent slot response read s (phased_allows read s) (phased_keeps read s) (lacks_room_now read s)
    sent_keyed false = refl

-- ---- the answer of the layer above to a PDU

record Answer (h g : HeldKeyed) : Type 0 where
  owed : Option Ctrl
  may : MayOwe owed
  control : g.control ≡ held_after_all (owed_steps owed) h.control
  kept : g.kept ≡ h.kept

none_answered : (h : HeldKeyed) → Answer h h
none_answered h = record { owed = None; may = tt; control = refl; kept = refl }

answer_if : (b : Bool) (h g : HeldKeyed) → Answer h g → Answer h (if b then g else h)
answer_if true h g is = is
answer_if false h g is = none_answered h

refusing_answers : (pdu : PduClass) (refused : Bool) (h : HeldKeyed) → Answer h (refusing pdu refused h)
refusing_answers Refusal true h = record { owed = None; may = tt; control = refl; kept = refl }
refusing_answers Refusal false h = none_answered h
refusing_answers pdu refused h = none_answered h

answers_at : (role : Role) (refused : Bool) (response : Response) (ctrl : Ctrl) (h : HeldKeyed)
    → Answer h (answering_at role refused response ctrl h)
answers_at Central refused response StartEncReq h =
    answer_if (is_asked h.end.phase) h _ (record { owed = Some StartEncRsp; may = refl; control = refl; kept = refl })
answers_at Central refused response StartEncRsp h = record { owed = None; may = tt; control = refl; kept = refl }
answers_at Central refused response PauseEncRsp h =
    answer_if (may_follow Unlock h.end.phase) h _ (record { owed = Some PauseEncRsp; may = refl; control = refl; kept = refl })
answers_at Central refused response ctrl h = refusing_answers (ctrl_class ctrl) refused h
answers_at Peripheral refused response (EncReq rand ediv skd_m iv_m) h =
    answer_if (may_follow AskTransition h.end.phase) h _
    (record { owed = Some (EncRsp response.skd_s response.iv_s); may = refl; control = refl; kept = refl })
answers_at Peripheral refused response PauseEncReq h =
    answer_if (may_follow Pause h.end.phase) h _ (record { owed = Some PauseEncRsp; may = refl; control = refl; kept = refl })
answers_at Peripheral refused response StartEncRsp h =
    answer_if (may_follow Confirm h.end.phase) h _ (record { owed = Some StartEncRsp; may = refl; control = refl; kept = refl })
answers_at Peripheral refused response PauseEncRsp h = record { owed = None; may = tt; control = refl; kept = refl }
answers_at Peripheral refused response ctrl h = none_answered h

answers_read : (refused : Bool) (response : Response) (read : CtrlRead) (h : HeldKeyed) → Answer h (answered refused response read h)
answers_read refused response (Known ctrl) h = answers_at h.end.role refused response ctrl h
answers_read refused response (Unknown opcode) h = none_answered h
answers_read refused response Bare h = none_answered h

-- ---- what is forbidden, kept and seen

pub allows_end : (phase : PhaseFacts) (role : Role) → allows phase role Terminate ≡ true
allows_end Clear role = refl
allows_end Secure role = refl
allows_end (Asked after_pause enc_rsp kept) role = refl
allows_end HalfKeyed role = refl
allows_end (Pausing kept) role = refl
allows_end (HalfClear kept) role = refl

no_end : (phase : PhaseFacts) (role : Role) (pdu : PduClass) → allows phase role pdu ≡ false → pdu ≡ Terminate → ⊥
no_end phase role pdu none is = absurd_by (sym none ∙ ap (allows phase role) is ∙ allows_end phase role)
  where
    absurd_by : ◌≡◌ {A = Bool} false true → ⊥
    absurd_by h = absurd cc

keeps_first : (pdu : PduClass) (role : Role) (quiet : Bool) → keeps_class pdu role quiet ≡ true → (quiet ≡ false) × (pdu ≡ Request)
keeps_first Request Central false is = (refl, refl)
keeps_first Request Central true is = absurd cc
keeps_first Request Peripheral quiet is = absurd cc
keeps_first pdu role quiet is = absurd cc

seen_loud : (phase : PhaseFacts) (role : Role) (pdu : PduClass) → allows phase role pdu ≡ true
    → keeps_class pdu role (is_quiet phase) ≡ false → is_quiet phase ≡ false
    → is_seen_loud pdu ≡ true
seen_loud Clear role pdu allowed keeps loud = absurd cc
seen_loud Secure role pdu allowed keeps loud = absurd cc
seen_loud (Asked after_pause enc_rsp kept) Central Other allowed keeps loud = absurd cc
seen_loud (Asked after_pause enc_rsp kept) Peripheral Other allowed keeps loud = absurd cc
seen_loud HalfKeyed role Other allowed keeps loud = absurd cc
seen_loud (Pausing kept) Central Other allowed keeps loud = absurd cc
seen_loud (Pausing kept) Peripheral Other allowed keeps loud = absurd cc
seen_loud (HalfClear kept) Central Other allowed keeps loud = absurd cc
seen_loud (HalfClear kept) Peripheral Other allowed keeps loud = absurd cc
seen_loud (Asked after_pause enc_rsp kept) Central Request allowed keeps loud = absurd cc
seen_loud (Asked after_pause enc_rsp kept) Peripheral Request allowed keeps loud = absurd cc
seen_loud HalfKeyed role Request allowed keeps loud = absurd cc
seen_loud (Pausing kept) Central Request allowed keeps loud = absurd cc
seen_loud (Pausing kept) Peripheral Request allowed keeps loud = absurd cc
seen_loud (HalfClear kept) Central Request allowed keeps loud = absurd cc
seen_loud (HalfClear kept) Peripheral Request allowed keeps loud = absurd cc
seen_loud phase role pdu allowed keeps loud = refl

-- a PDU whose answer has no room is no LL_TERMINATE_IND
answered_no_end : (role : Role) (read : CtrlRead) (phase : PhaseFacts) → is_answered_in role read phase ≡ true
    → class_of_read read ≡ Terminate → ⊥
answered_no_end role (Known (TerminateInd code)) phase is class = not_answered role is
  where
    not_answered : (role : Role) → is_answered_in role (Known (TerminateInd code)) phase ≡ true → ⊥
    not_answered Central h = absurd cc
    not_answered Peripheral h = absurd cc
answered_no_end role (Known (RejectExtInd opcode code)) phase is class = rejecting (opcode == 3) class
  where
    rejecting : (b : Bool) → (if b then Refusal else Other) ≡ Terminate → ⊥
    rejecting true h = absurd cc
    rejecting false h = absurd cc
answered_no_end role (Known ctrl) phase is class = absurd cc
answered_no_end role (Unknown opcode) phase is class = absurd cc
answered_no_end role Bare phase is class = absurd cc

seen_is : (unknown : Bool) (read : CtrlRead) → ((ctrl : Ctrl) → read ≡ Known ctrl → unknown ≡ true → IsNamed ctrl)
    → SeenAs read (seen_if unknown read)
seen_is true (Known ctrl) is = AsUnknown ctrl (is ctrl refl refl) refl refl
seen_is false (Known ctrl) is = AsRead refl
seen_is unknown (Unknown opcode) is = AsRead (unknown_stays unknown opcode)
  where
    unknown_stays : (b : Bool) (opcode : ℕ) → seen_if b (Unknown opcode) ≡ Unknown opcode
    unknown_stays true opcode = refl
    unknown_stays false opcode = refl
seen_is unknown Bare is = AsRead (bare_stays unknown)
  where
    bare_stays : (b : Bool) → seen_if b Bare ≡ Bare
    bare_stays true = refl
    bare_stays false = refl

seen_in : (h : HeldKeyed) (read : CtrlRead) → SeenAs read (seen_as read h)
seen_in h read =
    seen_is (is_unknown h.end.phase h.end.role (class_of_read read)) read
    (λ ctrl. λ is. λ unknown. named h.end.phase h.end.role ctrl (ap (λ (r : CtrlRead). is_unknown h.end.phase h.end.role (class_of_read r)) (sym is) ∙ unknown))

-- ---- all ways in which a PDU is taken

lacks_answered : (unclosed full answers : Bool) → (unclosed && (full && answers)) ≡ true → answers ≡ true
lacks_answered true true answers is = is
lacks_answered true false answers is = absurd cc
lacks_answered false full answers is = absurd cc

module _ (slot : ℕ) (response : Response) (read : CtrlRead) (k : Keyed) (lasting : is_none k.phased.control.ends ≡ true) (first : IsFirst k.phased.kept)
    (d : Control) (sent : d.sent ≡ k.phased.control.sent) where
  abbrev c : Control
  c = k.phased.control

  abbrev h : HeldKeyed
  h = keyed_held k

  abbrev quiet : Bool
  quiet = is_quiet k.end.phase

  abbrev TakingAs : TakenKeyed → Type 0
  TakingAs given = Taking quiet c read slot given.taken given.kept d

  ends_by_phase : (code : ℕ) → (class_of_read read ≡ Terminate → ⊥) → held_of d ≡ (ending code h).control → TakingAs nothing_keyed
  ends_by_phase code none is =
      Ended (record { 0 = code }) lasting none refl refl
      (by_held (ended (record { 0 = code }) c) d
      (is ∙ ap (λ (b : Bool). if b then record (held_of c) { ends = Some (record { 0 = code }) } else held_of c) lasting) sent)

  abbrev asked_of : Control
  asked_of = after (Takes (seen_as read h) slot quiet) c

  sent_asked : asked_of.sent ≡ c.sent
  sent_asked = takes_sent (seen_as read h) slot quiet c

  held_asked : held_of asked_of ≡ (handing slot read h).control
  held_asked = step_held (Takes (seen_as read h) slot quiet) c

  -- what was kept is taken after it
  module _ (g : HeldKeyed) (middle : Control) (held : held_of middle ≡ g.control) (stays : middle.sent ≡ c.sent) where
    kept_ways : (b : Bool) (kept : Option Ctrl) → IsFirst kept
        → held_of d ≡ (if b then taking_kept slot kept g else g).control
        → TakingKept slot (if b then kept_taken slot kept g else nothing_taken) middle d
    kept_ways false kept class is = NoneKept refl (by_held middle d (is ∙ sym held) (sent ∙ sym stays))
    kept_ways true None class is = NoneKept refl (by_held middle d (is ∙ sym held) (sent ∙ sym stays))
    kept_ways true (Some ctrl) class is =
        TakesKept ctrl class (ap (λ (x : Held). taken_of (Known ctrl) slot true x) (sym held))
        (by_held (after (Takes (Known ctrl) slot true) middle) d
        (is ∙ ap (λ (x : Held). control_after (Takes (Known ctrl) slot true) x) (sym held)
        ∙ sym (step_held (Takes (Known ctrl) slot true) middle))
        (sent ∙ sym (takes_sent (Known ctrl) slot true middle ∙ stays)))

  handed_ways : (allowed : allows h.end.phase h.end.role (class_of_read read) ≡ true) → does_keep read h ≡ false
      → (goes : Bool)
      → held_of d ≡ (if goes then kept_if_quiet slot (handed_answered slot response read h) else handing slot read h).control
      → TakingAs (record { taken = handed_taken slot read h; kept = (if goes then kept_taken_if_quiet slot (handed_answered slot response read h) else nothing_taken) })
  handed_ways allowed keeps false is =
      Handed (seen_as read h) asked_of lasting (seen_in h read) (seen_loud h.end.phase h.end.role (class_of_read read) allowed keeps) (Same refl) refl
      (NoneKept refl (by_held asked_of d (is ∙ sym held_asked) (sent ∙ sym sent_asked)))
  handed_ways allowed keeps true is =
      let g = handed_answered slot response read h in
      let answer = answers_read (is_refused (handed_taken slot read h).refused) response read (handing slot read h) in
      let middle = after_all (owed_steps answer.owed) asked_of in
      let held : held_of middle ≡ g.control =
      steps_held (owed_steps answer.owed) asked_of ∙ ap (held_after_all (owed_steps answer.owed)) held_asked ∙ sym answer.control in
      Handed (seen_as read h) middle lasting (seen_in h read) (seen_loud h.end.phase h.end.role (class_of_read read) allowed keeps)
      (owing_of answer.owed answer.may asked_of middle refl) refl
      (kept_ways g middle held (owed_sent answer.owed asked_of ∙ sent_asked) (quiet_now g) g.kept (subst IsFirst (sym answer.kept) first) is)

  ways : (a keeps full : Bool) → is_allowed read h ≡ a → does_keep read h ≡ keeps → lacks_room read h ≡ full
      → held_of d
      ≡ (if a then (if keeps then keeping read h else (if full then ending memory_capacity_exceeded h else handed slot response read h)) else ending mic_failure h).control
      → TakingAs (if a && (not keeps && not full) then handed_keyed slot response read h else nothing_keyed)
  ways false keeps full a_is k_is f_is is = ends_by_phase mic_failure (no_end h.end.phase h.end.role (class_of_read read) a_is) is
  ways true true full a_is k_is f_is is =
      let kept = keeps_first (class_of_read read) h.end.role quiet k_is in
      Withheld lasting kept.0 kept.1 refl refl (by_held c d is sent)
  ways true false true a_is k_is f_is is =
      ends_by_phase memory_capacity_exceeded (answered_no_end h.end.role read h.end.phase (lacks_answered _ _ _ f_is)) is
  ways true false false a_is k_is f_is is = handed_ways a_is k_is (lasts (handing slot read h)) is

keyed_view : (slot : ℕ) (response : Response) (read : CtrlRead) (k : Keyed) → Knows k
    → let given = taken_keyed slot response read (keyed_held k) in
    Taking (is_quiet k.end.phase) k.phased.control read slot given.taken given.kept
    (keyed_after (keyed_takes read slot (drawn response)) k).phased.control
keyed_view slot response read k knows = by (is_none k.phased.control.ends) refl
  where
    h : HeldKeyed
    h = keyed_held k

    d : Control
    d = (keyed_after (keyed_takes read slot (drawn response)) k).phased.control

    rest : Bool
    rest = is_allowed read h && (not (does_keep read h) && not (lacks_room read h))

    over : (goes : Bool) → is_none k.phased.control.ends ≡ goes → goes ≡ false
        → let given = (if goes && rest then handed_keyed slot response read h else nothing_keyed) in
        Taking (is_quiet k.end.phase) k.phased.control read slot given.taken given.kept d
    over true is ends = absurd cc
    over false is ends =
        Over is refl refl (ap (λ (b : Bool). (if b then keyed_moved (keyed_takes read slot (drawn response)) k else k).phased.control) is)

    goes_on : (goes : Bool) → is_none k.phased.control.ends ≡ goes → goes ≡ true
        → let given = (if goes && rest then handed_keyed slot response read h else nothing_keyed) in
        Taking (is_quiet k.end.phase) k.phased.control read slot given.taken given.kept d
    goes_on false is ends = absurd cc
    goes_on true is ends =
        ways slot response read k is (knows.first is) d (keyed_sent slot (drawn response) read k)
        (is_allowed read h) (does_keep read h) (lacks_room read h) refl refl refl
        (ap (λ (x : HeldKeyed). x.control)
        (step_depends (keyed_takes read slot (drawn response)) k knows.phase ∙ sym (takes_so read slot response h (knows.fits is)))
        ∙ ap (λ (b : Bool). (if b then (if is_allowed read h then (if does_keep read h then keeping read h
        else (if lacks_room read h then ending memory_capacity_exceeded h else handed slot response read h)) else ending mic_failure h) else h).control) is)

    by : (goes : Bool) → is_none k.phased.control.ends ≡ goes
        → let given = (if goes && rest then handed_keyed slot response read h else nothing_keyed) in
        Taking (is_quiet k.end.phase) k.phased.control read slot given.taken given.kept d
    by true is = goes_on true is refl
    by false is = over false is refl

pub taken_view : (pdu : Pdu) (slot : ℕ) (facts : Facts) → Knows (keyed_of facts)
    → Taking (is_quiet_now facts) facts.control (read_of pdu) slot (procedures_give pdu slot facts) (kept_give pdu slot facts)
    (control_taken pdu slot facts)
taken_view pdu slot facts knows =
    let given = taken_keyed slot facts.encryption.response (read_of pdu) (keyed_held (keyed_of facts)) in
    subst
    (λ (phase : PhaseFacts). Taking (is_quiet phase) facts.control (read_of pdu) slot given.taken given.kept (control_taken pdu slot facts))
    knows.phase (keyed_view slot facts.encryption.response (read_of pdu) (keyed_of facts) knows)

-- a counter that a new PDU takes changes nothing of that
pub taken_accepted : (accepted : Bool) (pdu : Pdu) (slot : ℕ) (facts : Facts)
    → control_taken pdu slot (accepted_if accepted pdu facts) ≡ control_taken pdu slot facts
taken_accepted accepted pdu slot facts = by (is_none facts.control.ends)
  where
    step : KeyedStep
    step = keyed_takes (read_of pdu) slot (drawn facts.encryption.response)

    by : (goes : Bool)
        → (if goes then keyed_moved step (keyed_of (accepted_if accepted pdu facts)) else keyed_of (accepted_if accepted pdu facts)).phased.control
        ≡ (if goes then keyed_moved step (keyed_of facts) else keyed_of facts).phased.control
    by true = refl
    by false = refl

-- ---- which PDU a body is read as

pub reading_view : (pdu : Pdu) → SeenAs (ctrl_of pdu.body) (read_of pdu)
reading_view pdu = AsRead refl

-- what is no PDU of the encryption is read, and seen, as it is
pub same_seen : (X : CtrlRead → Type 0) (read seen : CtrlRead) → SeenAs read seen → ((ctrl : Ctrl) → read ≡ Known ctrl → IsNamed ctrl → ⊥)
    → X read → X seen
same_seen X read seen (AsRead is) none x = subst X (sym is) x
same_seen X read seen (AsUnknown ctrl is read_is seen_is) none x = absurd (none ctrl read_is is)

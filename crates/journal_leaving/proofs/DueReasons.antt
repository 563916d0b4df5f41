-- The reason for which an end is to end as a turn begins: by its parts, and by its cause; and that hosts leave it.
use Rattle.std.proofs.Common.{◌≡◌, ℕ, ◌+◌, ◌*◌, ◌≤◌, nat_le, ◌&&◌, Bool, true, false, Option, Some, None, Result, Ok, Err, is_none, List, refl, sym, ap, ◌∙◌, arith, if◌then◌else◌}
use Rattle.std.specs.Option.{option_map}
use Rattle.std.proofs.lemmas.Bool.{le-leb}
use Rattle.ble_base.specs.ErrorCodes.{connection_not_established, connection_timeout, ll_response_timeout, terminated_by_local_host}
use Rattle.ble_base.specs.declared.error_codes.ErrCode.{ErrCode}
use Rattle.data_pdu.specs.declared.ctrl.Ctrl.{Ctrl}
use Rattle.exclusive_stages.specs.declared.stages.PeerAtCentral.{PeerAtCentral}
use Rattle.exclusive_stages.specs.declared.stages.PeerAtCentral.TheVariants.{Absent, GrantUnsent}
use Rattle.instants.specs.declared.indications.Params.{Params}
use Rattle.journal_controls.specs.controller_model.Shutting.{IsLeaving, IsOverdue, acknowledged, ended_by_peer, failed, not_acknowledged, not_established}
use Rattle.journal_controls.specs.controller_model.Shutting.{timed_out, unanswered}
use Rattle.journal_controls.specs.journal_ends.open_links.OpenLinks.{OpenLink, facts_in}
use Rattle.journal_controls.specs.journal_links.Begun.{LinkBegun}
use Rattle.journal_controls.specs.link_model.Facts.{Facts, params_of}
use Rattle.journal_controls.specs.link_model.Hosts.{asked_unless, ends_without_key, facts_answered, facts_disconnected, facts_key_answered, first_slot, leaving_from_if}
use Rattle.journal_controls.specs.link_model.Lost.{has_failed, has_timed_out, reason_due}
use Rattle.journal_controls.specs.link_model.Setup.{Setup}
use Rattle.journal_controls.specs.link_model.Times.{due_of, ended_by_procedures, ending_of, first_of, termination_due}
use Rattle.journal_controls.specs.link_model.control_end.Answers.{timeout_of}
use Rattle.journal_controls.specs.link_model.control_end.Held.{held_of}
use Rattle.journal_controls.specs.link_model.control_model.Control.{Control, table_if}
use Rattle.journal_controls.specs.link_model.declared.events.Reception.{Reception}
use Rattle.journal_controls.specs.link_model.declared.state.Leaving.{Leaving}
use Rattle.journal_controls.specs.link_model.procedure_stages.Closing.{is_open}
use Rattle.journal_controls.specs.link_model.procedure_stages.InProgress.{is_host_asked, peer_becomes}
use Rattle.journal_controls.specs.link_model.procedure_stages.Kinds.{is_timed, own_kind}
use Rattle.journal_controls.specs.link_model.procedure_stages.declared.stages.Progress.{Progress}
use Rattle.journal_controls.specs.link_model.procedure_stages.declared.stages.Progress.TheVariants.{Central as central, Peripheral as peripheral}
use Rattle.journal_controls.specs.link_model.procedure_values.declared.asks.Ask.{Ask}
use Rattle.journal_controls.specs.link_model.procedure_values.declared.asks.Ask.TheVariants.{Update}
use Rattle.journal_controls.specs.link_model.procedures.Beginning.{ask_step}
use Rattle.journal_controls.specs.link_model.procedures.Encryption.{is_rejection, progress_given}
use Rattle.journal_controls.specs.link_model.procedures.Going.{granted_by, host_answer_step, is_answer, is_over, owe_step, terminate_step}
use Rattle.journal_controls.specs.link_model.procedures.Table.{TableFacts}
use Rattle.journal_controls.proofs.link_model.Views.{Owed, Owing, Same, key_view}
use Rattle.journal_leaving.specs.Reasons.{due_by, lost_by}

-- ---- by its parts

lost_is : (link : LinkBegun) (setup : Setup) (params : Params) (good : Option Reception) (slot : ℕ) → link.slot ≡ setup.opened
    → lost_by link params (option_map (λ (one : Reception). one.slot) good) slot ≡ reason_due setup.opened params good slot
lost_is link setup params None slot opened = ap (λ n. if has_failed n params.interval slot then Some connection_not_established else None) opened
lost_is link setup params (Some good) slot opened = refl

pub due_is : (link : LinkBegun) (setup : Setup) (facts : Facts) (slot : ℕ) → link.slot ≡ setup.opened
    → due_by link facts.control facts.leaving (option_map (λ (one : Reception). one.slot) facts.last_good) slot ≡ due_of setup facts slot
due_is link setup facts slot opened =
    ap (λ lost. first_of lost
    (first_of (option_map (λ (code : ErrCode). code.0) (timeout_of slot (held_of facts.control))) (termination_due facts.leaving.disconnected (params_of facts) slot)))
    (lost_is link setup (params_of facts) facts.last_good slot opened)

-- ---- by its cause

passed_due : (n slot reason : ℕ) → n ≤ slot → (if nat_le n slot then Some reason else None) ≡ Some reason
passed_due n slot reason passed = ap (λ b. if b then Some reason else None) (le-leb n slot passed)

module _ (slot reason : ℕ) (link : OpenLink) where
  abbrev held : Facts
  held = facts_in link

  abbrev in_force : Params
  in_force = params_of held

  abbrev later : Option ℕ
  later = first_of (option_map (λ (code : ErrCode). code.0) (timeout_of slot (held_of held.control))) (termination_due held.leaving.disconnected in_force slot)

  pub overdue_due : IsOverdue slot link reason → due_of link.setup (facts_in link) slot ≡ Some reason
  overdue_due (not_established none passed code) =
      ap (λ good. first_of (reason_due link.setup.opened in_force good slot) later) none
      ∙ ap (λ lost. first_of lost later) (passed_due (link.setup.opened + 6 * in_force.interval) slot connection_not_established passed) ∙ ap Some (sym code)
  overdue_due (timed_out good some passed code) =
      ap (λ one. first_of (reason_due link.setup.opened in_force one slot) later) some
      ∙ ap (λ lost. first_of lost later) (passed_due (good.slot + 8 * in_force.timeout) slot connection_timeout passed) ∙ ap Some (sym code)
  overdue_due (unanswered code heard late same) =
      (λ i. first_of (heard i) (first_of (option_map (λ (one : ErrCode). one.0) (late i)) (termination_due held.leaving.disconnected in_force slot))) ∙ ap Some (sym same)
  overdue_due (not_acknowledged since heard answered ended passed code) =
      (λ i. first_of (heard i) (first_of (option_map (λ (one : ErrCode). one.0) (answered i)) (termination_due (ended i) in_force slot)))
      ∙ passed_due (since + 8 * in_force.timeout) slot terminated_by_local_host passed ∙ ap Some (sym code)

module _ (reason : ℕ) (link : OpenLink) where
  abbrev left : Leaving
  left = (facts_in link).leaving

  abbrev code_by : Bool → Option ErrCode → Option ℕ
  code_by acked ends =
      option_map (λ (code : ErrCode). code.0) (if acked then Some (record { 0 = terminated_by_local_host }) else ended_by_procedures ends left)

  pub leaving_ends : IsLeaving link reason → option_map (λ (code : ErrCode). code.0) (ending_of (facts_in link)) ≡ Some reason
  leaving_ends (acknowledged is code) = ap (λ b. code_by b (facts_in link).control.ends) is ∙ ap Some (sym code)
  leaving_ends (failed code none ends same) = (λ i. code_by (none i) (ends i)) ∙ ap Some (sym same)
  leaving_ends (ended_by_peer code none ends answered peer same) =
      (λ i. code_by (none i) (ends i)) ∙ (λ i. option_map (λ (one : ErrCode). one.0) (if answered i then peer i else None)) ∙ ap Some (sym same)

-- ---- what a host does

-- the parts by which an end is due: the reason of the link, of its procedures and of its host
abbrev due_parts : Setup → Option Reception → Control → Option ℕ → ℕ → Option ℕ
due_parts setup good c since slot =
    first_of (reason_due setup.opened c.track.params good slot)
    (first_of (option_map (λ (code : ErrCode). code.0) (timeout_of slot (held_of c))) (termination_due since c.track.params slot))

-- the tables differ in nothing by which an end is due
abbrev IsAsDue : TableFacts → TableFacts → Type 0
IsAsDue table more = (own_kind more.progress ≡ own_kind table.progress) × (more.since ≡ table.since)

as_due : (setup : Setup) (good : Option Reception) (c : Control) (more : TableFacts) (since : Option ℕ) (slot : ℕ) → IsAsDue c.table more
    → due_parts setup good (record c { table = more }) since slot ≡ due_parts setup good c since slot
as_due setup good c more since slot is = λ i.
    first_of (reason_due setup.opened c.track.params good slot)
    (first_of (option_map (λ (code : ErrCode). code.0)
    (if is_none c.ends then (if is_timed (is.0 i) && is_over (is.1 i) slot then Some (record { 0 = ll_response_timeout }) else None) else None))
    (termination_due since c.track.params slot))

-- a step that is taken, or is not
either_due : (setup : Setup) (good : Option Reception) (c moved : Control) (since : Option ℕ) (slot : ℕ) (goes : Bool)
    → due_parts setup good moved since slot ≡ due_parts setup good c since slot → due_parts setup good (if goes then moved else c) since slot ≡ due_parts setup good c since slot
either_due setup good c moved since slot true is = is
either_due setup good c moved since slot false is = refl

becomes_own : (peer : PeerAtCentral) (progress : Progress) → own_kind (peer_becomes peer progress) ≡ own_kind progress
becomes_own peer (central c) = refl
becomes_own peer (peripheral p) = refl

granted_own : (table : TableFacts) (ask : Ask) → IsAsDue table (granted_by table ask)
granted_own table (Update interval latency timeout) = (becomes_own GrantUnsent table.progress, refl)
granted_own table ask = (refl, refl)

answered_own : (table : TableFacts) (answer : Result Ask ErrCode) → IsAsDue table (host_answer_step table answer)
answered_own table (Ok ask) = granted_own table ask
answered_own table (Err code) = (becomes_own Absent table.progress, refl)

pub asked_due : (comes : Bool) (setup : Setup) (facts : Facts) (ask : Ask) (slot : ℕ) → due_of setup (asked_unless comes ask facts) slot ≡ due_of setup facts slot
asked_due true setup facts ask slot = refl
asked_due false setup facts ask slot =
    let c = facts.control in
    either_due setup facts.last_good c (record c { table = ask_step c.table ask }) facts.leaving.disconnected slot (is_none c.ends)
    (as_due setup facts.last_good c (ask_step c.table ask) facts.leaving.disconnected slot (refl, refl))

pub answer_due : (setup : Setup) (facts : Facts) (answer : Result Ask ErrCode) (slot : ℕ) → due_of setup (facts_answered answer facts) slot ≡ due_of setup facts slot
answer_due setup facts answer slot =
    let c = facts.control in
    let since = facts.leaving.disconnected in
    let table = host_answer_step c.table answer in
    let may = is_host_asked c.table.progress && is_answer answer in
    either_due setup facts.last_good c (table_if may table c) since slot (is_none c.ends)
    (either_due setup facts.last_good c (record c { table = table }) since slot may (as_due setup facts.last_good c table since slot (answered_own c.table answer)))

-- the time of a Disconnect has not passed in its own slot
none_passed : (timeout slot : ℕ) → 1 ≤ timeout → has_timed_out slot timeout slot ≡ false
none_passed timeout slot some = grind (arith, some)

first_due : (since : Option ℕ) (params : Params) (slot : ℕ) → 1 ≤ params.timeout → termination_due (Some (first_slot since slot)) params slot ≡ termination_due since params slot
first_due None params slot some = ap (λ b. if b then Some terminated_by_local_host else None) (none_passed params.timeout slot some)
first_due (Some first) params slot some = refl

-- the host of a peripheral has a key or none: one that lacks after a pause ends the link in its own slot
given_own : (progress : Progress) (ctrl : Ctrl) → own_kind (progress_given progress ctrl) ≡ own_kind progress
given_own (central c) ctrl = refl
given_own (peripheral p) ctrl = by (is_rejection ctrl)
  where
    by : (rejects : Bool) → own_kind (if rejects then peripheral (record p { encrypting = false }) else peripheral p) ≡ own_kind (peripheral p)
    by true = refl
    by false = refl

owed_due : (setup : Setup) (good : Option Reception) (c d : Control) (since : Option ℕ) (slot : ℕ) → Owing c d
    → due_parts setup good d since slot ≡ due_parts setup good c since slot
owed_due setup good c d since slot (Same is) = ap (λ (one : Control). due_parts setup good one since slot) is
owed_due setup good c d since slot (Owed ctrl may is) =
    let table = owe_step c.table ctrl in
    ap (λ (one : Control). due_parts setup good one since slot) is
    ∙ either_due setup good c (record c { table = table }) since slot (is_none c.ends)
    (as_due setup good c table since slot (given_own c.table.progress ctrl, refl))

lacking_due : (leaves : Bool) (leaving : Leaving) (params : Params) (slot : ℕ) → (leaves ≡ true → leaving.disconnected ≡ None) → 1 ≤ params.timeout
    → termination_due (leaving_from_if leaves slot leaving).disconnected params slot ≡ termination_due leaving.disconnected params slot
lacking_due true leaving params slot none some =
    ap (λ b. if b then Some terminated_by_local_host else None) (none_passed params.timeout slot some)
    ∙ sym (ap (λ since. termination_due since params slot) (none refl))
lacking_due false leaving params slot none some = refl

pub key_due : (setup : Setup) (facts : Facts) (key : Option (List ℕ)) (slot : ℕ) → (ends_without_key key facts ≡ true → facts.leaving.disconnected ≡ None)
    → 1 ≤ (params_of facts).timeout → due_of setup (facts_key_answered key slot facts) slot ≡ due_of setup facts slot
key_due setup facts key slot none some =
    let c = facts.control in
    let answered = facts_key_answered key slot facts in
    owed_due setup facts.last_good c answered.control answered.leaving.disconnected slot (key_view key facts)
    ∙ ap (λ ended. first_of (reason_due setup.opened c.track.params facts.last_good slot)
    (first_of (option_map (λ (code : ErrCode). code.0) (timeout_of slot (held_of c))) ended))
    (lacking_due (ends_without_key key facts) facts.leaving (params_of facts) slot none some)

pub disconnect_due : (setup : Setup) (facts : Facts) (reason : ErrCode) (slot : ℕ) → 1 ≤ (params_of facts).timeout
    → due_of setup (facts_disconnected reason slot facts) slot ≡ due_of setup facts slot
disconnect_due setup facts reason slot some =
    let c = facts.control in
    let since = Some (first_slot facts.leaving.disconnected slot) in
    let table = terminate_step c.table reason in
    either_due setup facts.last_good c (table_if (is_open c.table.closing) table c) since slot (is_none c.ends)
    (either_due setup facts.last_good c (record c { table = table }) since slot (is_open c.table.closing) (as_due setup facts.last_good c table since slot (refl, refl)))
    ∙ ap (λ ended. first_of (reason_due setup.opened c.track.params facts.last_good slot)
    (first_of (option_map (λ (code : ErrCode). code.0) (timeout_of slot (held_of c))) ended)) (first_due facts.leaving.disconnected (params_of facts) slot some)

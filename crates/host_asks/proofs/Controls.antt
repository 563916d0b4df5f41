-- What the view knows of the control part of an end, step by step.
use Rattle.std.proofs.Common.{◌≡◌, ℕ, Bool, true, false, ◌&&◌, if◌then◌else◌, Option, Some, None, is_some, is_none, refl, ap, sym, ◌∙◌, subst}
use Rattle.ble_base.specs.ErrorCodes.{instant_passed}
use Rattle.ble_base.specs.declared.error_codes.ErrCode.{ErrCode}
use Rattle.data_pdu.specs.declared.ctrl.Ctrl.{Ctrl}
use Rattle.data_pdu.specs.declared.ctrl.CtrlRead.{CtrlRead}
use Rattle.data_pdu.specs.declared.ctrl.CtrlRead.TheVariants.{Known}
use Rattle.instants.specs.declared.indications.Indication.{Indication}
use Rattle.instants.specs.Track.{event_of, next_number, track_after_take}
use Rattle.link_commands.specs.open_links.procedure_values.Drafts.{is_out}
use Rattle.procedure_events.specs.procedure_stages.declared.steps.Effect.{Effect}
use Rattle.procedure_events.specs.procedure_stages.declared.steps.Effect.TheVariants.{Indicated}
use Rattle.procedure_events.specs.procedure_stages.declared.steps.Step.{Step as TableStep}
use Rattle.procedure_events.specs.procedure_stages.Kinds.{role_of}
use Rattle.procedure_events.specs.procedures.Going.{entered_step}
use Rattle.procedure_events.specs.procedures.Queue.{next_of}
use Rattle.procedure_events.specs.procedures.Sending.{acked_step}
use Rattle.procedure_events.specs.procedures.Table.{TableFacts}
use Rattle.procedure_events.specs.procedures.Taking.{facts_with, lacks_room, outcome_of, took_step}
use Rattle.link_commands.specs.open_links.control_model.Control.{Control, Step, Enters, Owes, SeesAcknowledged, Sends, Takes, after, ended, following, goes_out, is_to_come, indicated_by, moved, table_if, taken, went}
use Rattle.link_commands.proofs.open_links.control_model.Calls.{open_step, settled_as}
use Rattle.link_commands.specs.open_links.control_end.declared.answers.Taken.{Taken}
use Rattle.link_commands.specs.open_links.control_end.Answers.{done_by_acknowledgement, effect_shown, nothing_taken, step_shown, taken_of}
use Rattle.link_commands.specs.open_links.control_end.Held.{Held, held_after, held_of}
use Rattle.link_commands.proofs.open_links.control_end.Depending.{step_held}
use Rattle.link_commands.proofs.open_links.link_model.Views.{Owing, Taking, TakingKept}
use Rattle.link_commands.proofs.open_links.link_model.Views.{Ended, Handed, NoneKept, Over, Owed, Same, TakesKept, Withheld}
use Rattle.host_view.specs.declared.links.Link.{Link}
use Rattle.link_pairs.proofs.LastControl.{following_table}
use Rattle.host_asks.specs.Knowing.{KnowsTable}
use Rattle.host_asks.specs.Noting.{link_with_request}
use Rattle.host_asks.proofs.Tables.{link_done, link_refused, table_acked, table_begun, table_entered, table_owes, table_sent, table_takes}

-- an end that did not end the link did not before
pub ends_before : (step : Step) (c : Control) → (after step c).ends ≡ None → c.ends ≡ None
ends_before step c lasts = by c.ends refl lasts
  where
    by : (ends : Option ErrCode) → c.ends ≡ ends → (if is_none ends then moved step c else c).ends ≡ None → c.ends ≡ None
    by None is h = is
    by (Some code) is h = h

-- ---- a PDU of the encryption may be queued

control_owes_knows : (link : Link) (ctrl : Ctrl) (c : Control) → KnowsTable link c.table → KnowsTable link (after (Owes ctrl) c).table
control_owes_knows link ctrl c knows = by (is_none c.ends)
  where
    by : (lasts : Bool) → KnowsTable link (if lasts then moved (Owes ctrl) c else c).table
    by true = table_owes link c.table ctrl knows
    by false = knows

pub owing_knows : (link : Link) (c d : Control) → Owing c d → KnowsTable link c.table → KnowsTable link d.table
owing_knows link c d (Same is) knows = subst (λ (e : Control). KnowsTable link e.table) (sym is) knows
owing_knows link c d (Owed ctrl may is) knows =
    subst (λ (e : Control). KnowsTable link e.table) (sym is) (control_owes_knows link ctrl c knows)

owing_before : (c d : Control) → Owing c d → d.ends ≡ None → c.ends ≡ None
owing_before c d (Same is) lasts = ap (λ (e : Control). e.ends) (sym is) ∙ lasts
owing_before c d (Owed ctrl may is) lasts = ends_before (Owes ctrl) c (ap (λ (e : Control). e.ends) (sym is) ∙ lasts)

-- ---- an event is entered

pub control_entered_knows : (link : Link) (c : Control) (slot : ℕ) (quiet : Bool) → c.ends ≡ None → KnowsTable link c.table
    → KnowsTable (link_done (entered_step c.table (is_some (next_number c.track))).1 link) (after (Enters slot quiet) c).table
control_entered_knows link c slot quiet lasts knows =
    open_step (λ (d : Control). KnowsTable (link_done (entered_step c.table (is_some (next_number c.track))).1 link) d.table) (Enters slot quiet) c lasts
    (table_begun _ (entered_step c.table (is_some (next_number c.track))).0 slot quiet (table_entered link c.table (is_some (next_number c.track)) knows))

-- ---- a control PDU is sent

pub control_sent_knows : (link : Link) (c : Control) (slot : ℕ) (quiet : Bool) → KnowsTable link c.table → KnowsTable link (after (Sends slot quiet) c).table
control_sent_knows link c slot quiet knows = lasting (is_none c.ends)
  where
    by : (goes : Bool)
        → KnowsTable link (if goes then following (role_of c.table.progress) (went slot quiet c).1 (record c { table = (went slot quiet c).0 }) else c).table
    by true =
        subst (λ (f : TableFacts). KnowsTable link f) (sym (following_table (role_of c.table.progress) (went slot quiet c).1 (record c { table = (went slot quiet c).0 })))
        (table_sent link c.table (next_of c.table (event_of c.track) quiet) (event_of c.track) c.track.params.latency slot knows)
    by false = knows

    lasting : (lasts : Bool) → KnowsTable link (if lasts then moved (Sends slot quiet) c else c).table
    lasting true = by (goes_out quiet c)
    lasting false = knows

-- ---- one is acknowledged

pub control_acked_knows : (link : Link) (c : Control) → KnowsTable link c.table
    → KnowsTable (link_done (done_by_acknowledgement (held_of c)) link) (after SeesAcknowledged c).table
control_acked_knows link c knows = lasting (is_none c.ends) (is_out c.table.out)
  where
    lasting : (lasts out : Bool)
        → KnowsTable (link_done (if lasts && out then (acked_step c.table).1 else None) link)
        (if lasts then table_if out (acked_step c.table).0 c else c).table
    lasting true true = table_acked link c.table knows
    lasting true false = knows
    lasting false out = knows

-- ---- one is taken

abbrev pub link_by : TableStep → Link → Link
link_by step link = link_with_request step.effect (link_done step.done (link_refused step.refused link))

knows_by : (link : Link) (f g : TableFacts) (full : Bool) (code : Option ErrCode) (step : TableStep) → step.ends ≡ code → KnowsTable (link_by step link) g
    → (settled_as full code f g step).1.ends ≡ None → KnowsTable (link_by (settled_as full code f g step).1 link) (settled_as full code f g step).0
knows_by link f g true code step is knows lasts = absurd (cc)
knows_by link f g false (Some code) step is knows lasts = absurd (some_none (sym is ∙ lasts))
  where
    some_none : Some code ≡ None → ⊥
    some_none h = cc
knows_by link f g false None step is knows lasts = knows

table_took : (link : Link) (f : TableFacts) (read : CtrlRead) (slot : ℕ) (quiet : Bool) → KnowsTable link f → (took_step f read slot quiet).1.ends ≡ None
    → KnowsTable (link_by (took_step f read slot quiet).1 link) (took_step f read slot quiet).0
table_took link f read slot quiet knows =
    knows_by link f (facts_with f slot (outcome_of f quiet read)) (lacks_room f (outcome_of f quiet read)) (outcome_of f quiet read).step.ends
    (outcome_of f quiet read).step refl (table_takes link f read slot quiet knows)

taken_knows : (K : TableFacts → Type 0) (table : TableFacts) (code : Option ErrCode) (indication : Option Indication) (c : Control) → (code ≡ None → K table)
    → (taken table code indication c).ends ≡ None → K (taken table code indication c).table
taken_knows K table (Some code) indication c knows lasts = absurd (cc)
taken_knows K table None None c knows lasts = knows refl
taken_knows K table None (Some indication) c knows lasts = by (is_to_come c.track indication) lasts
  where
    by : (comes : Bool)
        → (if comes then record c { table = table; track = track_after_take c.track indication } else ended (record { 0 = instant_passed }) c).ends ≡ None
        → K (if comes then record c { table = table; track = track_after_take c.track indication } else ended (record { 0 = instant_passed }) c).table
    by true lasts = knows refl
    by false lasts = absurd (cc)

-- what is given of it changes the link as the step of the table does
shown_same : (effect : Effect) (link : Link) → link_with_request (effect_shown effect) link ≡ link_with_request effect link
shown_same (Indicated indication) link = refl
shown_same effect link = refl

abbrev pub link_given : Taken → Link → Link
link_given given link = link_with_request given.effect (link_done given.done (link_refused given.refused link))

given_by : (link : Link) (goes : Bool) (step : TableStep) → goes ≡ true → link_given (if goes then step_shown step else nothing_taken) link ≡ link_by step link
given_by link true step is = shown_same step.effect (link_done step.done (link_refused step.refused link))
given_by link false step is = absurd (cc)

pub control_taken_knows : (link : Link) (c : Control) (read : CtrlRead) (slot : ℕ) (quiet : Bool) → KnowsTable link c.table
    → (after (Takes read slot quiet) c).ends ≡ None
    → KnowsTable (link_given (taken_of read slot quiet (held_of c)) link) (after (Takes read slot quiet) c).table
control_taken_knows link c read slot quiet knows lasts =
    subst (λ (l : Link). KnowsTable l (after (Takes read slot quiet) c).table)
    (sym (given_by link (is_none (held_after (Takes read slot quiet) (held_of c)).ends) (took_step c.table read slot quiet).1 goes))
    (open_step (λ (d : Control). d.ends ≡ None → KnowsTable (link_by (took_step c.table read slot quiet).1 link) d.table) (Takes read slot quiet) c
    (ends_before (Takes read slot quiet) c lasts)
    (taken_knows (λ (f : TableFacts). KnowsTable (link_by (took_step c.table read slot quiet).1 link) f) (took_step c.table read slot quiet).0
    (took_step c.table read slot quiet).1.ends (indicated_by (took_step c.table read slot quiet).1.effect) c (table_took link c.table read slot quiet knows))
    lasts)
  where
    goes : is_none (held_after (Takes read slot quiet) (held_of c)).ends ≡ true
    goes = ap (λ (h : Held). is_none h.ends) (sym (step_held (Takes read slot quiet) c)) ∙ ap (λ (ends : Option ErrCode). is_none ends) lasts

-- ---- in any phase of encryption: the procedures see it or not, and then the one that was kept

kept_knows : (link : Link) (slot : ℕ) (kept : Taken) (middle d : Control) → TakingKept slot kept middle d → KnowsTable link middle.table → d.ends ≡ None
    → KnowsTable (link_given kept link) d.table
kept_knows link slot kept middle d (NoneKept none is) knows lasts =
    subst (λ (given : Taken). KnowsTable (link_given given link) d.table) (sym none) (subst (λ (e : Control). KnowsTable link e.table) (sym is) knows)
kept_knows link slot kept middle d (TakesKept ctrl class given is) knows lasts =
    subst (λ (shown : Taken). KnowsTable (link_given shown link) d.table) (sym given)
    (subst (λ (e : Control). KnowsTable (link_given (taken_of (Known ctrl) slot true (held_of middle)) link) e.table) (sym is)
    (control_taken_knows link middle (Known ctrl) slot true knows (ap (λ (e : Control). e.ends) (sym is) ∙ lasts)))

-- what goes on after it went on before it
kept_before : (slot : ℕ) (kept : Taken) (middle d : Control) → TakingKept slot kept middle d → d.ends ≡ None → middle.ends ≡ None
kept_before slot kept middle d (NoneKept none is) lasts = ap (λ (e : Control). e.ends) (sym is) ∙ lasts
kept_before slot kept middle d (TakesKept ctrl class given is) lasts =
    ends_before (Takes (Known ctrl) slot true) middle (ap (λ (e : Control). e.ends) (sym is) ∙ lasts)

none_knows : (link : Link) (taken kept : Taken) (c d : Control) → taken ≡ nothing_taken → kept ≡ nothing_taken → d ≡ c → KnowsTable link c.table
    → KnowsTable (link_given kept (link_given taken link)) d.table
none_knows link taken kept c d none none_kept same knows =
    subst (λ (given : Taken). KnowsTable (link_given kept (link_given given link)) d.table) (sym none)
    (subst (λ (given : Taken). KnowsTable (link_given given link) d.table) (sym none_kept)
    (subst (λ (e : Control). KnowsTable link e.table) (sym same) knows))

pub taking_knows : (link : Link) (quiet : Bool) (c : Control) (read : CtrlRead) (slot : ℕ) (taken kept : Taken) (d : Control)
    → Taking quiet c read slot taken kept d → KnowsTable link c.table → d.ends ≡ None
    → KnowsTable (link_given kept (link_given taken link)) d.table
taking_knows link quiet c read slot taken kept d (Over over none none_kept is) knows lasts = none_knows link taken kept c d none none_kept is knows
taking_knows link quiet c read slot taken kept d (Withheld goes loud class none none_kept is) knows lasts =
    none_knows link taken kept c d none none_kept is knows
taking_knows link quiet c read slot taken kept d (Ended code goes class none none_kept is) knows lasts =
    absurd (let h : Some code ≡ None = ap (λ (e : Control). e.ends) (sym is) ∙ lasts in cc)
taking_knows link quiet c read slot taken kept d (Handed seen middle goes is_seen class owing given later) knows lasts =
    let first = after (Takes seen slot quiet) c in
    let lasting : middle.ends ≡ None = kept_before slot kept middle d later lasts in
    kept_knows (link_given taken link) slot kept middle d later
    (owing_knows (link_given taken link) first middle owing
    (subst (λ (shown : Taken). KnowsTable (link_given shown link) first.table) (sym given)
    (control_taken_knows link c seen slot quiet knows (owing_before first middle owing lasting))))
    lasts

-- One end after several steps, by the lines of its notes.
use Rattle.std.proofs.Common.{◌≡◌, ℕ, ◌&&◌, not, Bool, true, false, Option, Some, None, List, [], ◌∷◌, ◌++◌, fold, map, is_none, refl, sym, ap, subst, ◌∙◌, append-nil, if◌then◌else◌}
use Rattle.ble_base.specs.declared.error_codes.ErrCode.{ErrCode}
use Rattle.ble_base.specs.declared.notes.Note.{Note}
use Rattle.ble_base.specs.declared.notes.Note.TheVariants.{Enter}
use Rattle.ble_base.specs.declared.procedure_kinds.Kind.{Kind}
use Rattle.ble_base.specs.declared.roles.Role.{Role}
use Rattle.ble_base.specs.declared.roles.Side.{Side}
use Rattle.data_pdu.specs.Header.{header_in}
use Rattle.data_pdu.specs.declared.ctrl.Ctrl.{Ctrl}
use Rattle.data_pdu.specs.declared.ctrl.Ctrl.TheVariants.{EncReq}
use Rattle.journal.specs.declared.entries.Entry.{Entry as Line}
use Rattle.journal.specs.declared.entries.Entry.TheVariants.{Took}
use Rattle.journal_ends.specs.journal_links.LinkLines.{line_of}
use Rattle.journal_ends.specs.link_model.Acknowledgement.{Pdu, is_acked}
use Rattle.journal_ends.specs.link_model.Controls.{goes_on, is_procedure_pdu, is_quiet_now, pdu_fixed}
use Rattle.journal_ends.specs.link_model.Data.{is_empty, numbered}
use Rattle.journal_ends.specs.link_model.End.{facts_after, facts_of, notes_after, notes_from}
use Rattle.journal_ends.specs.link_model.Entering.{began_notes, done_notes, event_notes, facts_entered}
use Rattle.journal_ends.specs.link_model.Events.{applied_notes}
use Rattle.journal_ends.specs.link_model.Facts.{Facts, keyed_of}
use Rattle.journal_ends.specs.link_model.KeyedSteps.{keyed_steps_of}
use Rattle.journal_ends.specs.link_model.Packets.{good_pdu}
use Rattle.journal_ends.specs.link_model.Receiving.{accepts, acked_kind, acknowledged_if, acks_control, answers_with_control, facts_before_taking, given_if, given_notes, has_acknowledged, heard_in_slot, kept_given_if, keyed_acked_if, received_notes, refused_notes, taken_notes, took_notes_if}
use Rattle.journal_ends.specs.link_model.Sending.{control_gone_if, sent_notes_if}
use Rattle.journal_ends.specs.link_model.Setup.{Setup, first_anchor, first_params}
use Rattle.journal_ends.specs.link_model.Step.{Step, EventEntered, PacketReceived, PacketSent}
use Rattle.journal_ends.specs.link_model.Verdicts.{pdu_of}
use Rattle.journal_ends.specs.link_model.control_end.Answers.{entry_of}
use Rattle.journal_ends.specs.link_model.control_end.Held.{held_of}
use Rattle.journal_ends.specs.link_model.control_end.declared.answers.Entry.{Entry}
use Rattle.journal_ends.specs.link_model.control_end.declared.answers.Taken.{Taken}
use Rattle.journal_ends.specs.link_model.declared.events.ConnectionEvent.{ConnectionEvent}
use Rattle.journal_ends.specs.link_model.keyed_control.Keyed.{Keyed}
use Rattle.journal_ends.specs.link_model.keyed_control.KeyedSteps.{KeyedStep, SeesAcknowledged, Sends, keyed_after, phased_step, phased_steps, step_before}
use Rattle.journal_ends.specs.link_model.keyed_control.declared.material.Response.{Response}
use Rattle.journal_ends.specs.link_model.phased_control.Phased.{Phased, first_phased}
use Rattle.journal_ends.specs.link_model.phased_control.Taken.{PhasedStep, phased_after, phased_after_all, phased_moved, role_now}
use Rattle.journal_ends.specs.link_model.procedure_stages.declared.steps.Effect.{Effect}
use Rattle.journal_ends.specs.link_model.procedure_stages.declared.steps.Effect.TheVariants.{AskHost, Cipher}
use Rattle.journal_ends.proofs.link_model.KeyedPasts.{forged_over, forged_role, keeps_role, past_goes}
use Rattle.journal_ends.proofs.link_model.KeyedSteps.{gone}
use Rattle.journal_ends.proofs.link_model.phased_end.keyed_control.Phases.{after_one, moves, phased_once}
use Rattle.journal_ends.proofs.link_model.phased_end.keyed_control.phased_control.Kept.{tied_now}
use Rattle.journal_controls.specs.Hearing.{keyed_hearing}
use Rattle.journal_controls.specs.KeyedLines.{Accepts, Does, Forges, LineStep, does_if, does_some, given_by, keyed_by, keyed_by_all, keyed_forged, steps_refusing, steps_taking}
use Rattle.journal_controls.specs.LineSteps.{steps_said, steps_saying}
use Rattle.journal_controls.specs.OneEnd.{steps_noted}
use Rattle.journal_controls.specs.SaidLines.{NoneOpens, moved_by}
use Rattle.journal_controls.specs.Withheld.{Withheld, answer_to, first_answer, key_answer, nothing_withheld, withheld_answer}
use Rattle.journal_controls.proofs.EndSteps.{does_as}
use Rattle.journal_controls.proofs.NotedSteps.{joined, noted_both}

-- ---- no step changes the role

first_of : (first : Option PhasedStep) (steps : List PhasedStep) (s : Phased) → phased_after_all steps (after_one first s) ≡ phased_after_all (step_before first steps) s
first_of None steps s = refl
first_of (Some step) steps s = refl

phased_joined : (steps more : List PhasedStep) (s : Phased) → phased_after_all (steps ++ more) s ≡ phased_after_all more (phased_after_all steps s)
phased_joined [] more s = refl
phased_joined (step ∷ steps) more s = phased_joined steps more (phased_after step s)

-- an end that ended the link makes none
phased_over : (steps : List PhasedStep) (s : Phased) → is_none s.control.ends ≡ false → phased_after_all steps s ≡ s
phased_over [] s is = refl
phased_over (step ∷ steps) s is =
    let stays : phased_after step s ≡ s = ap (λ b. if b then phased_moved step s else s) is in
    phased_over steps (phased_after step s) (ap (λ (t : Phased). is_none t.control.ends) stays ∙ is) ∙ stays

abbrev pub KeepsRole : Role → Keyed → Type 0
KeepsRole role k = (steps : List PhasedStep) → role_now (phased_after_all steps k.phased) ≡ role

step_keeps : (role : Role) (k : Keyed) (step : KeyedStep) → KeepsRole role k → KeepsRole role (keyed_after step k)
step_keeps role k step keeps = λ more.
    ap (λ s. role_now (phased_after_all more s)) (phased_once step k) ∙ ap role_now (first_of (phased_step step) more k.phased)
    ∙ keeps (step_before (phased_step step) more)

pub forged_keeps : (role : Role) (k : Keyed) → KeepsRole role k → KeepsRole role (keyed_forged k)
forged_keeps role k keeps = λ more.
    ap role_now (phased_over more (keyed_forged k).phased (forged_over k.phased.control)) ∙ forged_role k.phased.control ∙ keeps []

pub role_stays : (role : Role) (k : Keyed) (steps : List LineStep) → KeepsRole role k → KeepsRole role (keyed_by_all steps k)
role_stays role k [] keeps = keeps
role_stays role k (Does step ∷ steps) keeps = role_stays role (keyed_after step k) steps (step_keeps role k step keeps)
role_stays role k (Accepts ∷ steps) keeps = role_stays role (keyed_by Accepts k) steps keeps
role_stays role k (Forges ∷ steps) keeps = role_stays role (keyed_forged k) steps (forged_keeps role k keeps)

pub past_keeps : (setup : Setup) (past : List Step) → KeepsRole setup.link.role (keyed_of (facts_of setup past))
past_keeps setup past = by (goes_on (facts_of setup past)) refl
  where
    role : Role
    role = setup.link.role

    k : Keyed
    k = keyed_of (facts_of setup past)

    first : Phased
    first = first_phased role setup.link.max_rx (first_params setup.link.fields) (first_anchor setup)

    made : List PhasedStep
    made = phased_steps (keyed_steps_of setup past)

    by : (goes : Bool) → goes_on (facts_of setup past) ≡ goes → KeepsRole role k
    by false is = λ steps. ap role_now (phased_over steps k.phased is) ∙ keeps_role setup past
    by true is = λ steps.
        let phased : k.phased ≡ phased_after_all made first =
        ap (λ (x : Keyed). x.phased) (past_goes setup past is) ∙ moves role setup.link.max_rx (first_params setup.link.fields) (first_anchor setup) (keyed_steps_of setup past) in
        ap (λ s. role_now (phased_after_all steps s)) phased ∙ ap role_now (sym (phased_joined made steps first))
        ∙ (tied_now role setup.link.max_rx (first_params setup.link.fields) (first_anchor setup) (made ++ steps)).is_role

-- as a packet reaches it
gone_keeps : (role : Role) (goes : Bool) (slot : ℕ) (facts : Facts) → KeepsRole role (keyed_of facts) → KeepsRole role (keyed_of (control_gone_if goes slot facts))
gone_keeps role goes slot facts keeps =
    subst (KeepsRole role) (sym (gone goes slot facts ∙ does_as goes (Sends slot) (keyed_of facts))) (role_stays role (keyed_of facts) (does_if goes (Sends slot)) keeps)

acked_keeps : (role : Role) (acks : Bool) (k : Keyed) → KeepsRole role k → KeepsRole role (keyed_acked_if acks k)
acked_keeps role true k keeps = step_keeps role k SeesAcknowledged keeps
acked_keeps role false k keeps = keeps

pub hearing_keeps : (role own : Role) (slot : ℕ) (pdu : Option (List ℕ)) (facts : Facts) → KeepsRole role (keyed_of facts) → KeepsRole role (keyed_hearing own slot pdu facts)
hearing_keeps role own slot None facts keeps = keeps
hearing_keeps role own slot (Some pdu) facts keeps =
    let header = header_in pdu in
    let heard = heard_in_slot slot header.md facts in
    let acked = has_acknowledged facts header in
    let next = acknowledged_if acked heard in
    gone_keeps role (answers_with_control own next) slot next (acked_keeps role (acks_control acked heard) (keyed_of facts) keeps)

-- so the lines of notes move it by the steps of these notes, where none of them refuses a request
abbrev pub NoneRefuses : Side → ℕ → Withheld → Response → ℕ → List Note → Type 0
NoneRefuses side number withheld response slot [] = Unit {0}
NoneRefuses side number withheld response slot (note ∷ notes) =
    ((k : Keyed) → let line = line_of side number note in steps_said withheld response slot k line ≡ steps_saying (role_now k.phased) response slot line)
    × NoneRefuses side number withheld response slot notes

pub moved_noted : (side : Side) (number : ℕ) (withheld : Withheld) (response : Response) (slot : ℕ) (role : Role) (notes : List Note) (k : Keyed) → KeepsRole role k
    → NoneRefuses side number withheld response slot notes
    → moved_by withheld response slot (map (line_of side number) notes) k ≡ keyed_by_all (steps_noted side number role response slot notes) k
moved_noted side number withheld response slot role [] k keeps none = refl
moved_noted side number withheld response slot role (note ∷ notes) k keeps none =
    let line = line_of side number note in
    let steps = steps_saying role response slot line in
    ap (λ all. moved_by withheld response slot (map (line_of side number) notes) (keyed_by_all all k)) (none.0 k ∙ ap (λ r. steps_saying r response slot line) (keeps []))
    ∙ moved_noted side number withheld response slot role notes (keyed_by_all steps k) (role_stays role k steps keeps) none.1
    ∙ sym (joined steps (steps_noted side number role response slot notes) k)

-- where nothing is withheld, none does
no_key : (ctrl : Ctrl) → key_answer nothing_withheld ctrl ≡ None
no_key (EncReq rand ediv skd_m iv_m) = refl
no_key other = refl

pub no_answer : (effect : Effect) → answer_to nothing_withheld effect ≡ None
no_answer (AskHost min max latency timeout) = refl
no_answer (Cipher ctrl) = no_key ctrl
no_answer other = refl

nothing_refused : (response : Response) (slot : ℕ) (k : Keyed) (pdu : Pdu) → steps_refusing nothing_withheld response slot k pdu ≡ []
nothing_refused response slot k pdu = by (is_procedure_pdu pdu)
  where
    by : (procedure : Bool) → does_some (if procedure then withheld_answer nothing_withheld (given_by response slot k pdu) else None) ≡ []
    by true = let given = given_by response slot k pdu in λ i. does_some (first_answer (no_answer given.taken.effect i) (no_answer given.kept.effect i))
    by false = refl

pub unwithheld : (side : Side) (number : ℕ) (response : Response) (slot : ℕ) (notes : List Note) → NoneRefuses side number nothing_withheld response slot notes
unwithheld side number response slot [] = tt
unwithheld side number response slot (note ∷ notes) = ((λ k. by k (line_of side number note)), unwithheld side number response slot notes)
  where
    by : (k : Keyed) (line : Line) → steps_said nothing_withheld response slot k line ≡ steps_saying (role_now k.phased) response slot line
    by k (Took other link count llid body) =
        let pdu : Pdu = record { llid = llid; body = body } in
        ap (λ xs. steps_taking response slot pdu ++ xs) (nothing_refused response slot k pdu) ∙ append-nil (steps_taking response slot pdu)
    by k line = refl

pub refuse_both : (side : Side) (number : ℕ) (withheld : Withheld) (response : Response) (slot : ℕ) (notes more : List Note) → NoneRefuses side number withheld response slot notes
    → NoneRefuses side number withheld response slot more → NoneRefuses side number withheld response slot (notes ++ more)
refuse_both side number withheld response slot [] more here there = there
refuse_both side number withheld response slot (note ∷ notes) more here there = (here.0, refuse_both side number withheld response slot notes more here.1 there)

-- ---- no note of an end opens a link or shuts it

abbrev AreLater : Side → ℕ → List Note → Type 0
AreLater side number notes = NoneOpens (map (line_of side number) notes)

module _ (side : Side) (number : ℕ) where
  later_both : (notes more : List Note) → AreLater side number notes → AreLater side number more → AreLater side number (notes ++ more)
  later_both [] more here there = there
  later_both (note ∷ notes) more here there = (here.0, later_both notes more here.1 there)

  done_later : (handle : ℕ) (kind : Option Kind) → AreLater side number (done_notes handle kind)
  done_later handle None = tt
  done_later handle (Some kind) = (refl, tt)

  began_later : (handle : ℕ) (kind : Option Kind) → AreLater side number (began_notes handle kind)
  began_later handle None = tt
  began_later handle (Some kind) = (refl, tt)

  applied_later : (handle event : ℕ) (applied : Option ℕ) → AreLater side number (applied_notes handle event applied)
  applied_later handle event None = tt
  applied_later handle event (Some change) = (refl, tt)

  refused_later : (handle : ℕ) (refused : Option (Kind × ErrCode)) → AreLater side number (refused_notes handle refused)
  refused_later handle None = tt
  refused_later handle (Some (kind, code)) = (refl, tt)

  event_later : (goes : Bool) (handle : ℕ) (event : ConnectionEvent) (entry : Entry) → AreLater side number (if goes then event_notes handle event entry else [])
  event_later false handle event entry = tt
  event_later true handle event entry =
      let applied = applied_notes handle event.number entry.applied in
      let enter = Enter handle (record { 0 = event.number }) event.channel ∷ [] in
      let done = done_notes handle entry.done in
      later_both ((applied ++ enter) ++ done) (began_notes handle entry.began)
      (later_both (applied ++ enter) done (later_both applied enter (applied_later handle event.number entry.applied) (refl, tt)) (done_later handle entry.done))
      (began_later handle entry.began)

  took_later : (noted : Bool) (handle : ℕ) (pdu : Pdu) (facts : Facts) → AreLater side number (took_notes_if noted handle pdu facts)
  took_later true handle pdu facts = (refl, tt)
  took_later false handle pdu facts = tt

  sent_later : (noted : Bool) (handle count : ℕ) (pdu : Pdu) → AreLater side number (sent_notes_if noted handle count pdu)
  sent_later true handle count pdu = (refl, tt)
  sent_later false handle count pdu = tt

  given_later : (handle : ℕ) (given : Taken) → AreLater side number (given_notes handle given)
  given_later handle given =
      later_both (refused_notes handle given.refused) (done_notes handle given.done) (refused_later handle given.refused) (done_later handle given.done)

  taken_later : (handle : ℕ) (accepted : Bool) (pdu : Pdu) (slot : ℕ) (facts : Facts) → AreLater side number (taken_notes handle accepted pdu slot facts)
  taken_later handle accepted pdu slot facts =
      let given = given_if (accepted && is_procedure_pdu pdu) pdu slot facts in
      let kept = kept_given_if (accepted && is_procedure_pdu pdu) pdu slot facts in
      later_both (took_notes_if (accepted && not (is_empty pdu)) handle pdu facts) (given_notes handle given ++ given_notes handle kept)
      (took_later (accepted && not (is_empty pdu)) handle pdu facts)
      (later_both (given_notes handle given) (given_notes handle kept) (given_later handle given) (given_later handle kept))

  received_later : (setup : Setup) (slot : ℕ) (room : Bool) (pdu : Option (List ℕ)) (facts : Facts) → AreLater side number (received_notes setup slot room pdu facts)
  received_later setup slot room None facts = tt
  received_later setup slot room (Some octets) facts =
      let header = header_in octets in
      let pdu = pdu_of octets in
      let now = facts_before_taking setup.link.role slot header facts in
      let done = acked_kind (acks_control (has_acknowledged facts header) facts) facts in
      later_both (done_notes setup.link.handle done) (taken_notes setup.link.handle (accepts room header pdu now) pdu slot now)
      (done_later setup.link.handle done) (taken_later setup.link.handle (accepts room header pdu now) pdu slot now)

  step_later : (setup : Setup) (facts : Facts) (step : Step) → AreLater side number (notes_after setup facts step)
  step_later setup facts (EventEntered slot) =
      event_later (goes_on facts) setup.link.handle (facts_entered setup slot facts).event (entry_of slot (is_quiet_now facts) (held_of facts.control))
  step_later setup facts (PacketSent slot) =
      sent_later (is_acked facts.acknowledgement && not (is_empty (pdu_fixed facts))) setup.link.handle (numbered facts.acknowledgement.sent) (pdu_fixed facts)
  step_later setup facts (PacketReceived slot octets room) = received_later setup slot room (good_pdu setup facts octets) facts
  step_later setup facts other = tt

  pub steps_later : (setup : Setup) (facts : Facts) (steps : List Step) → AreLater side number (notes_from setup facts steps)
  steps_later setup facts [] = tt
  steps_later setup facts (step ∷ steps) = later_both (notes_after setup facts step) _ (step_later setup facts step) (steps_later setup (facts_after setup facts step) steps)

-- ---- several steps

-- the end goes by the lines that it says in these steps
abbrev pub AreByLines : Side → ℕ → Response → ℕ → Setup → Facts → List Step → Type 0
AreByLines side number response slot setup facts steps =
    keyed_of (fold (facts_after setup) facts steps) ≡ keyed_by_all (steps_noted side number setup.link.role response slot (notes_from setup facts steps)) (keyed_of facts)

module _ (side : Side) (number : ℕ) (response : Response) (slot : ℕ) (setup : Setup) where
  pub by_none : (facts : Facts) → AreByLines side number response slot setup facts []
  by_none facts = refl

  -- one step, and then others
  pub by_then : (facts : Facts) (step : Step) (steps : List Step)
      → keyed_of (facts_after setup facts step) ≡ keyed_by_all (steps_noted side number setup.link.role response slot (notes_after setup facts step)) (keyed_of facts)
      → AreByLines side number response slot setup (facts_after setup facts step) steps → AreByLines side number response slot setup facts (step ∷ steps)
  by_then facts step steps one others =
      let next = facts_after setup facts step in
      let here = notes_after setup facts step in
      let later = notes_from setup next steps in
      others ∙ ap (keyed_by_all (steps_noted side number setup.link.role response slot later)) one
      ∙ sym (joined (steps_noted side number setup.link.role response slot here) (steps_noted side number setup.link.role response slot later) (keyed_of facts))
      ∙ sym (ap (λ all. keyed_by_all all (keyed_of facts)) (noted_both side number setup.link.role response slot here later))

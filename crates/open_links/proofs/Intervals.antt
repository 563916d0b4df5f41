-- The anchors of an end are at least 6 slots apart (Core 5.2, volume 6 part B, section 4.5.1).
use Rattle.std.proofs.Common.{◌≡◌, ℕ, ◌≤◌, ◌&&◌, Bool, true, false, List, [], ◌∷◌, ◌++◌, Option, Some, None, IfSome, is_none, refl, ap, sym, ◌∙◌, subst, if◌then◌else◌}
use Rattle.std.specs.Bool.{⊤}
use Rattle.std.specs.List.{AllByRecursion}
use Rattle.std.proofs.lemmas.List.{append-nil, append_assoc}
use Rattle.ble_base.specs.ErrorCodes.{mic_failure}
use Rattle.ble_base.specs.declared.error_codes.ErrCode.{ErrCode}
use Rattle.ble_base.specs.declared.roles.Role.{Role}
use Rattle.ble_base.specs.declared.roles.Role.TheVariants.{Central, Peripheral}
use Rattle.adv_pdu.specs.Ranges.{IsInRange as AreFieldsInRange}
use Rattle.data_pdu.specs.Reading.{IfKnown}
use Rattle.data_pdu.specs.declared.ctrl.Ctrl.{Ctrl}
use Rattle.data_pdu.specs.declared.ctrl.Ctrl.TheVariants.{ConnectionUpdateInd}
use Rattle.data_pdu.specs.declared.ctrl.CtrlRead.{CtrlRead}
use Rattle.data_pdu.specs.declared.ctrl.CtrlRead.TheVariants.{Bare, Known, Unknown}
use Rattle.instants.specs.Parameters.{params_after}
use Rattle.instants.specs.Track.{TrackFacts, is_due, track_after_enter, track_after_take, track_changed, track_in_next, track_unchanged}
use Rattle.instants.specs.declared.indications.Indication.{Indication}
use Rattle.instants.specs.declared.indications.Indication.TheVariants.{Update, Map}
use Rattle.instants.specs.declared.indications.Params.{Params}
use Rattle.instants.specs.declared.track.Change.{Change}
use Rattle.procedures.specs.procedure_values.Drafts.{is_out}
use Rattle.procedures.specs.procedure_stages.Closing.{is_open}
use Rattle.procedures.specs.procedure_stages.InProgress.{is_host_asked}
use Rattle.procedures.specs.procedure_stages.Kinds.{role_of}
use Rattle.procedures.specs.Going.{is_answer}
use Rattle.procedures.specs.Table.{TableFacts}
use Rattle.procedures.specs.Taking.{took_step}
use Rattle.two_tracks.specs.TwoEnds.{HasSlots}
use Rattle.link_end.specs.control_model.Control.{Control, Step as ControlStep, Answers, Asks, Disconnects, Enters, Owes, SeesAcknowledged, Sends, Takes, after, after_all, ended, first_control, following, goes_out, indicated_by, is_to_come, moved, table_if, taken, went}
use Rattle.link_end.specs.control_model.Waits.{AreInRange, IsInRange as IsStepInRange}
use Rattle.link_end.proofs.control_model.Calls.{any_step, either_way}
use Rattle.link_end.proofs.control_model.Central.{indicates}
use Rattle.link_end.proofs.control_model.Indicating.{Indicates}
use Rattle.link_end.proofs.control_model.Moving.{role_after}
use Rattle.link_end.proofs.control_model.Sending.{OwnsIf, owned}
use Rattle.link_end.specs.link_model.Acknowledgement.{Pdu}
use Rattle.link_end.specs.link_model.Setup.{Setup, first_anchor, first_params}
use Rattle.link_end.specs.link_model.Facts.{Facts, first_facts, keyed_of}
use Rattle.link_end.specs.link_model.Controls.{goes_on, read_of}
use Rattle.link_end.specs.link_model.AskRanges.{AreAsksInRange, IsAskInRange}
use Rattle.link_end.specs.link_model.End.{facts_after, facts_of}
use Rattle.link_end.specs.link_model.KeyedSteps.{is_forged_in_step, keyed_steps_from, keyed_steps_in, keyed_steps_of}
use Rattle.link_end.specs.link_model.Step.{Step}
use Rattle.link_end.specs.link_model.enc_phase.declared.classes.PduClass.TheVariants.{Request}
use Rattle.link_end.specs.link_model.enc_phase.Taking.{ctrl_class, is_unknown}
use Rattle.link_end.specs.link_model.keyed_control.Keyed.{Keyed, first_keyed}
use Rattle.link_end.specs.link_model.keyed_control.KeyedSteps.{KeyedStep, Enters as keyed_enters, Takes as keyed_takes, keyed_after_all, phased_step, phased_steps, step_before}
use Rattle.link_end.specs.link_model.phased_control.Ends.{IsFirst}
use Rattle.link_end.specs.link_model.phased_control.Phased.{Phased, first_phased}
use Rattle.link_end.specs.link_model.phased_control.Steps.{all_control_steps, control_steps, steps_now}
use Rattle.link_end.specs.link_model.phased_control.Taken.{PhasedStep, Response, Takes as phased_takes, class_of_read, phased_after, phased_after_all, role_now, seen_if}
use Rattle.link_end.proofs.link_model.KeyedPasts.{over, past_goes, past_in_phase, past_in_range, steps_grow}
use Rattle.link_end.proofs.link_model.KeyedSteps.{forged_ends, joined, one_step}
use Rattle.link_end.proofs.link_model.Pasts.{grows}
use Rattle.link_end.proofs.link_model.phased_end.keyed_control.Phases.{moves as phased_goes}
use Rattle.link_end.proofs.link_model.phased_end.keyed_control.phased_control.Indicating.{in_range}
use Rattle.link_end.proofs.link_model.phased_end.keyed_control.phased_control.Kept.{first_now}
use Rattle.link_end.proofs.link_model.phased_end.keyed_control.phased_control.Moving.{but_end, with_end}
use Rattle.open_links.proofs.Handed.{HasInterval, pdu_interval, took_slots}
use Rattle.open_links.proofs.PhasedSteps.{Own, both_controls, both_steps, controls_all, is_other, steps_all}

-- ---- a track

pub record HasIntervals (t : TrackFacts) : Type 0 where
  pub now : 6 ≤ t.params.interval
  pub waits : IfSome t.waits (λ change. HasSlots change.indication)

pub changed_interval : (params : Params) (indication : Indication) → 6 ≤ params.interval → HasSlots indication
    → 6 ≤ (params_after params indication).interval
changed_interval params (Update win_offset interval latency timeout instant) now slots = slots
changed_interval params (Map map instant) now slots = now

pub enters_track : (t : TrackFacts) → HasIntervals t → HasIntervals (track_after_enter t)
enters_track t has = by t.waits has.waits
  where
    in_next : (change : Change) → HasSlots change.indication → (due : Bool)
        → HasIntervals (if due then track_changed change t else track_unchanged t)
    in_next change slots true = record { now = changed_interval t.params change.indication has.now slots; waits = tt }
    in_next change slots false = record { now = has.now; waits = has.waits }

    by : (waits : Option Change) → IfSome waits (λ change. HasSlots change.indication) → HasIntervals (track_in_next waits t)
    by None slots = record { now = has.now; waits = has.waits }
    by (Some change) slots = in_next change slots (is_due change t.entered)

takes_track : (t : TrackFacts) (indication : Indication) → HasIntervals t → HasSlots indication → HasIntervals (track_after_take t indication)
takes_track t indication has slots = record { now = has.now; waits = slots }

-- ---- the control part of an end, step by step

abbrev Spaced : Control → Type 0
Spaced c = HasIntervals c.track

by_table : (b : Bool) (g : TableFacts) (c : Control) → Spaced c → Spaced (table_if b g c)
by_table true g c has = has
by_table false g c has = has

by_following : (role : Role) (indication : Option Indication) (c : Control) → Spaced c → (role ≡ Central → IfSome indication HasSlots)
    → Spaced (following role indication c)
by_following Central None c has slots = has
by_following Central (Some indication) c has slots = takes_track c.track indication has (slots refl)
by_following Peripheral indication c has slots = has

by_taken : (g : TableFacts) (code : Option ErrCode) (indication : Option Indication) (c : Control) → Spaced c → IfSome indication HasSlots
    → Spaced (taken g code indication c)
by_taken g (Some code) indication c has slots = has
by_taken g None None c has slots = has
by_taken g None (Some indication) c has slots =
    either_way Spaced (is_to_come c.track indication) _ _ (takes_track c.track indication has slots) has

own_slots : (c : Control) (indication : Option Indication) → OwnsIf c indication → IfSome indication HasSlots
own_slots c None owns = tt
own_slots c (Some indication) owns = owns.own.slots

-- an interval that was read is at least 6 slots
abbrev IsReadInRange : ControlStep → Type 0
IsReadInRange (Takes read slot quiet) = IfKnown read HasInterval
IsReadInRange other = ⊤

moves : (step : ControlStep) (c : Control) → IsReadInRange step → (role_of c.table.progress ≡ Central → Indicates c) → Spaced c
    → Spaced (moved step c)
moves (Enters slot quiet) c is central has = enters_track c.track has
moves (Asks ask) c is central has = has
moves (Answers answer) c is central has = by_table (is_host_asked c.table.progress && is_answer answer) _ c has
moves (Disconnects reason) c is central has = by_table (is_open c.table.closing) _ c has
moves (Sends slot quiet) c is central has =
    either_way Spaced (goes_out quiet c) _ _
    (by_following (role_of c.table.progress) (went slot quiet c).1 (record c { table = (went slot quiet c).0 }) has
    (λ role. own_slots c (went slot quiet c).1 (owned c slot quiet (central role)))) has
moves SeesAcknowledged c is central has = by_table (is_out c.table.out) _ c has
moves (Takes read slot quiet) c is central has =
    let step = took_step c.table read slot quiet in
    by_taken step.0 step.1.ends (indicated_by step.1.effect) c has (took_slots c.table read slot quiet is)
moves (Owes ctrl) c is central has = has

-- ---- all steps of a link

all_joined : (steps : List ControlStep) (step : ControlStep) (c : Control) → after_all (steps ++ step ∷ []) c ≡ after step (after_all steps c)
all_joined [] step c = refl
all_joined (first ∷ steps) step c = all_joined steps step (after first c)

in_range_joined : (steps : List ControlStep) (step : ControlStep) → AreInRange steps → IsStepInRange step → AreInRange (steps ++ step ∷ [])
in_range_joined [] step are is = (is, tt)
in_range_joined (first ∷ steps) step are is = (are.0, in_range_joined steps step are.1 is)

module _ (role : Role) (max_rx : ℕ) (first : Params) (slot : ℕ) (latency : first.latency ≤ 499) where
  abbrev start : Control
  start = first_control role max_rx first slot

  indicating : (front : List ControlStep) → AreInRange front → role_of (after_all front start).table.progress ≡ Central
      → Indicates (after_all front start)
  indicating front are is =
      let same : role ≡ Central = sym (role_after role max_rx first slot front) ∙ is in
      subst (λ r. Indicates (after_all front (first_control r max_rx first slot))) (sym same) (indicates max_rx first slot front latency are)

  all_spaced : (front steps : List ControlStep) → AreInRange front → AreInRange steps → AllByRecursion IsReadInRange steps
      → Spaced (after_all front start) → Spaced (after_all steps (after_all front start))
  all_spaced front [] front_are are reads has = has
  all_spaced front (step ∷ steps) front_are are reads has =
      let c = after_all front start in
      let next = any_step Spaced step c (moves step c reads.0 (indicating front front_are) has) has in
      subst (λ c. Spaced (after_all steps c)) (all_joined front step start)
      (all_spaced (front ++ step ∷ []) steps (in_range_joined front step front_are are.0) are.1 reads.1
      (subst Spaced (sym (all_joined front step start)) next))

-- ---- what is read in the steps of a past is so

owes_well : (ctrl : Ctrl) → IsReadInRange (Owes ctrl)
owes_well ctrl = tt

seen_well : (unknown : Bool) (read : CtrlRead) → IfKnown read HasInterval → IfKnown (seen_if unknown read) HasInterval
seen_well true (Known ctrl) is = tt
seen_well false (Known ctrl) is = is
seen_well true (Unknown opcode) is = tt
seen_well false (Unknown opcode) is = tt
seen_well true Bare is = tt
seen_well false Bare is = tt

-- the first PDU of a procedure of the peripheral has no interval
first_well : (ctrl : Ctrl) → ctrl_class ctrl ≡ Request → HasInterval ctrl
first_well (ConnectionUpdateInd win_size win_offset interval latency timeout instant) is = absurd cc
first_well ctrl is = tt

abbrev ReadsWell : Option PhasedStep → Type 0
ReadsWell (Some (phased_takes read slot response)) = IfKnown read HasInterval
ReadsWell other = ⊤

abbrev IsReadWell : KeyedStep → Type 0
IsReadWell step = ReadsWell (phased_step step)

abbrev AreReadWell : List PhasedStep → Type 0
AreReadWell steps = AllByRecursion (λ step. ReadsWell (Some step)) steps

own_well : (step : PhasedStep) (s : Phased) → ReadsWell (Some step) → IsFirst s.kept → Own IsReadInRange owes_well step s
own_well (phased_takes read slot response) s is first =
    (seen_well (is_unknown s.phase (role_now s) (class_of_read read)) read is, λ ctrl. λ kept. first_well ctrl (subst IsFirst kept first))
own_well other s is first = tt

module _ (role : Role) (max_rx : ℕ) (params : Params) (slot : ℕ) where
  abbrev first_end : Phased
  first_end = first_phased role max_rx params slot

  phased_joined : (front : List PhasedStep) (step : PhasedStep) (s : Phased) → phased_after_all (front ++ step ∷ []) s ≡ phased_after step (phased_after_all front s)
  phased_joined [] step s = refl
  phased_joined (first ∷ front) step s = phased_joined front step (phased_after first s)

  now_well : (goes : Bool) (step : PhasedStep) (s : Phased) → ReadsWell (Some step) → IsFirst s.kept
      → AllByRecursion IsReadInRange (if goes then control_steps step s else [])
  now_well true step s is first = controls_all IsReadInRange owes_well step s (own_well step s is first)
  now_well false step s is first = tt

  all_well : (front steps : List PhasedStep) → AreReadWell steps
      → AllByRecursion IsReadInRange (all_control_steps steps (phased_after_all front first_end))
  all_well front [] are = tt
  all_well front (step ∷ steps) are =
      let s = phased_after_all front first_end in
      both_controls IsReadInRange owes_well (steps_now step s) _
      (now_well (is_none s.control.ends) step s are.0 (first_now role max_rx params slot front))
      (subst (λ (t : Phased). AllByRecursion IsReadInRange (all_control_steps steps t)) (phased_joined front step first_end)
      (all_well (front ++ step ∷ []) steps are.1))

before_well : (step : Option PhasedStep) (steps : List PhasedStep) → ReadsWell step → AreReadWell steps → AreReadWell (step_before step steps)
before_well None steps here later = later
before_well (Some step) steps here later = (here, later)

phased_well : (steps : List KeyedStep) → AllByRecursion IsReadWell steps → AreReadWell (phased_steps steps)
phased_well [] are = tt
phased_well (step ∷ steps) are = before_well (phased_step step) (phased_steps steps) are.0 (phased_well steps are.1)

other_well : (step : KeyedStep) → is_other step ≡ true → IsReadWell step
other_well (keyed_enters slot) is = absurd cc
other_well (keyed_takes read slot response) is = absurd cc
other_well step is = tt

reads_from : (setup : Setup) (facts : Facts) (steps : List Step) → AllByRecursion IsReadWell (keyed_steps_from setup facts steps)
reads_from setup facts [] = tt
reads_from setup facts (step ∷ steps) =
    let takes : (pdu : Pdu) (slot : ℕ) (response : Response) → IsReadWell (keyed_takes (read_of pdu) slot response) =
    λ pdu. λ slot. λ response. pdu_interval pdu in
    both_steps IsReadWell other_well takes (keyed_steps_in setup facts step) _
    (steps_all IsReadWell other_well takes setup facts step (λ slot. λ is. tt)) (reads_from setup (facts_after setup facts step) steps)

reads_of : (setup : Setup) (past : List Step) → AllByRecursion IsReadWell (keyed_steps_of setup past)
unfolding keyed_steps_of
reads_of setup past = reads_from setup (first_facts setup) past

-- ---- the control part of an end after a past

pub asks_more : (past : List Step) (step : Step) → AreAsksInRange past → IsAskInRange step → AreAsksInRange (past ++ step ∷ [])
asks_more [] step are is = (is, tt)
asks_more (first ∷ past) step are is = (are.0, asks_more past step are.1 is)

module _ (setup : Setup) where
  abbrev first_control_part : Control
  first_control_part = first_control setup.link.role setup.link.max_rx (first_params setup.link.fields) (first_anchor setup)

  abbrev steps_of : List Step → List PhasedStep
  steps_of past = phased_steps (keyed_steps_of setup past)

  abbrev first_part : Phased
  first_part = first_phased setup.link.role setup.link.max_rx (first_params setup.link.fields) (first_anchor setup)

  abbrev controls_of : List Step → List ControlStep
  controls_of past = all_control_steps (steps_of past) first_part

  -- it went by the steps of this past, but for its end: once the end ended the link nothing happens
  record IsMade (c : Control) : Type 0 where
    past : List Step
    asks : AreAsksInRange past
    is : c ≡ with_end c.ends (after_all (controls_of past) first_control_part)

  forged_made : (goes : Bool) (c : Control) → IsMade c → IsMade (if goes then ended (record { 0 = mic_failure }) c else c)
  forged_made true c m = record { past = m.past; asks = m.asks; is = ap (ended (record { 0 = mic_failure })) m.is }
  forged_made false c m = m

  step_made : (front : List Step) (step : Step) → AreAsksInRange (front ++ step ∷ []) → IsMade (facts_of setup front).control
      → IsMade (facts_after setup (facts_of setup front) step).control
  step_made front step asks m = by (is_forged_in_step setup facts step) refl
    where
      facts : Facts
      facts = facts_of setup front

      later : Facts
      later = facts_after setup facts step

      now : List KeyedStep
      now = keyed_steps_in setup facts step

      goes_further : keyed_of later ≡ keyed_after_all now (keyed_of facts) → goes_on facts ≡ true → IsMade later.control
      goes_further by_steps goes =
          let first = first_keyed setup.link.role setup.link.max_rx (first_params setup.link.fields) (first_anchor setup) in
          let all : keyed_of later ≡ keyed_after_all (keyed_steps_of setup (front ++ step ∷ [])) first =
          by_steps ∙ ap (keyed_after_all now) (past_goes setup front goes) ∙ sym (joined (keyed_steps_of setup front) now first)
          ∙ ap (λ (steps : List KeyedStep). keyed_after_all steps first) (sym (steps_grow setup front step)) in
          let phased = ap (λ (k : Keyed). k.phased) all
          ∙ phased_goes setup.link.role setup.link.max_rx (first_params setup.link.fields) (first_anchor setup) (keyed_steps_of setup (front ++ step ∷ [])) in
          let made = after_all (controls_of (front ++ step ∷ [])) first_control_part in
          record {
            past = front ++ step ∷ [];
            asks = asks;
            is =
                ap (λ (s : Phased). s.control) phased
                ∙ but_end setup.link.role setup.link.max_rx (first_params setup.link.fields) (first_anchor setup) (steps_of (front ++ step ∷ []))
                ∙ ap (λ (ends : Option ErrCode). with_end ends made) (sym (ap (λ (s : Phased). s.control.ends) phased));
          }

      by_end : (ends : Option ErrCode) → facts.control.ends ≡ ends → keyed_of later ≡ keyed_after_all now (keyed_of facts) → IsMade later.control
      by_end None at by_steps = goes_further by_steps (ap (λ (e : Option ErrCode). is_none e) at)
      by_end (Some code) at by_steps =
          subst IsMade
          (sym (ap (λ (k : Keyed). k.phased.control) by_steps ∙ ap (λ (s : Phased). s.control) (over now (keyed_of facts) code at).phased)) m

      by : (forged : Bool) → is_forged_in_step setup facts step ≡ forged → IsMade later.control
      by true is =
          subst (λ (f : Facts). IsMade f.control) (sym (forged_ends setup facts step is)) (forged_made (is_none facts.control.ends) facts.control m)
      by false is = by_end facts.control.ends refl (one_step setup facts step (past_in_phase setup front) is)

  more_made : (front more : List Step) → AreAsksInRange front → AreAsksInRange more → IsMade (facts_of setup front).control
      → IsMade (facts_of setup (front ++ more)).control
  more_made front [] asks more_asks m = subst (λ (past : List Step). IsMade (facts_of setup past).control) (sym (append-nil front)) m
  more_made front (step ∷ more) asks more_asks m =
      let next = asks_more front step asks more_asks.0 in
      subst (λ (past : List Step). IsMade (facts_of setup past).control) (append_assoc front (step ∷ []) more)
      (more_made (front ++ step ∷ []) more next more_asks.1
      (subst (λ (f : Facts). IsMade f.control) (sym (grows setup front step)) (step_made front step next m)))

  first_made : IsMade (facts_of setup []).control
  unfolding facts_of keyed_steps_of
  first_made = record { past = []; asks = tt; is = refl }

pub has_intervals : (setup : Setup) (past : List Step) → AreFieldsInRange setup.link.fields → AreAsksInRange past
    → HasIntervals (facts_of setup past).control.track
has_intervals setup past fields asks =
    let m = more_made setup [] past tt asks (first_made setup) in
    let role = setup.link.role in
    let most = setup.link.max_rx in
    let params = first_params setup.link.fields in
    let anchor = first_anchor setup in
    subst Spaced (sym m.is)
    (all_spaced role most params anchor fields.parameters.latency_to [] (controls_of setup m.past) tt
    (in_range (steps_of setup m.past) (first_part setup) (past_in_range setup m.past m.asks))
    (all_well role most params anchor [] (steps_of setup m.past) (phased_well (keyed_steps_of setup m.past) (reads_of setup m.past)))
    (record { now = fields.parameters.interval_from; waits = tt }))

indicates_with : (ends : Option ErrCode) (c : Control) → Indicates c → Indicates (with_end ends c)
indicates_with ends c i = record { role = i.role; wanted = i.wanted; drafts = i.drafts; so_far = i.so_far }

pub past_indicates : (setup : Setup) (past : List Step) → AreFieldsInRange setup.link.fields → AreAsksInRange past
    → role_of (facts_of setup past).control.table.progress ≡ Central → Indicates (facts_of setup past).control
past_indicates setup past fields asks =
    let m = more_made setup [] past tt asks (first_made setup) in
    let c = (facts_of setup past).control in
    let made = after_all (controls_of setup m.past) (first_control_part setup) in
    subst (λ (d : Control). role_of d.table.progress ≡ Central → Indicates d) (sym m.is)
    (λ central.
    indicates_with c.ends made
    (indicating setup.link.role setup.link.max_rx (first_params setup.link.fields) (first_anchor setup) fields.parameters.latency_to (controls_of setup m.past)
    (in_range (steps_of setup m.past) (first_part setup) (past_in_range setup m.past m.asks)) central))

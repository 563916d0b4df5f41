-- The steps of the notes of an end.
use Rattle.std.proofs.Common.{◌≡◌, ℕ, ◌&&◌, not, Bool, true, false, Option, Some, None, List, [], ◌∷◌, ◌++◌, map, refl, ap, sym, ◌∙◌, append-nil, if◌then◌else◌}
use Rattle.std.specs.List.{flat_map}
use Rattle.std.proofs.lemmas.Grind.{flat_map-append}
use Rattle.std.proofs.lemmas.List.{map-append}
use Rattle.ble_base.specs.declared.error_codes.ErrCode.{ErrCode}
use Rattle.ble_base.specs.declared.notes.Note.{Note}
use Rattle.ble_base.specs.declared.notes.Note.TheVariants.{Enter}
use Rattle.ble_base.specs.declared.procedure_kinds.Kind.{Kind}
use Rattle.ble_base.specs.declared.roles.Role.{Role}
use Rattle.ble_base.specs.declared.roles.Side.{Side}
use Rattle.journal_ends.specs.journal_links.LinkLines.{line_of}
use Rattle.journal_ends.specs.link_model.Acknowledgement.{Pdu}
use Rattle.journal_ends.specs.link_model.Controls.{is_procedure_pdu, read_of}
use Rattle.journal_ends.specs.link_model.Data.{is_control, is_data, is_empty}
use Rattle.journal_ends.specs.link_model.Entering.{began_notes, done_notes, event_notes}
use Rattle.journal_ends.specs.link_model.Events.{applied_notes}
use Rattle.journal_ends.specs.link_model.Facts.{Facts}
use Rattle.journal_ends.specs.link_model.Receiving.{counts_accepted, given_if, given_notes, kept_given_if, refused_notes, taken_notes, took_notes_if}
use Rattle.journal_ends.specs.link_model.Sending.{sent_notes_if}
use Rattle.journal_ends.specs.link_model.control_end.declared.answers.Entry.{Entry}
use Rattle.journal_ends.specs.link_model.control_end.declared.answers.Taken.{Taken}
use Rattle.journal_ends.specs.link_model.declared.events.ConnectionEvent.{ConnectionEvent}
use Rattle.journal_ends.specs.link_model.keyed_control.Keyed.{Keyed}
use Rattle.journal_ends.specs.link_model.keyed_control.KeyedSteps.{KeyedStep, Enters, Takes, TakesData}
use Rattle.journal_ends.specs.link_model.keyed_control.declared.material.Response.{Response}
use Rattle.journal_ends.specs.link_model.phased_end.Taking.{drawn}
use Rattle.journal_ends.proofs.journal_acks.Acks.{empty_is_no_data}
use Rattle.journal_controls.specs.KeyedLines.{Accepts, Does, LineStep, does_if, keyed_by, keyed_by_all, steps_sending, steps_taking}
use Rattle.journal_controls.specs.LineSteps.{steps_saying}
use Rattle.journal_controls.specs.OneEnd.{steps_noted}

pub joined : (steps more : List LineStep) (k : Keyed) → keyed_by_all (steps ++ more) k ≡ keyed_by_all more (keyed_by_all steps k)
joined [] more k = refl
joined (step ∷ steps) more k = joined steps more (keyed_by step k)

-- two lists of steps, one after the other
pub two : (first second : List LineStep) (k now later : Keyed) → now ≡ keyed_by_all first k → later ≡ keyed_by_all second now → later ≡ keyed_by_all (first ++ second) k
two first second k now later now_is later_is = later_is ∙ ap (keyed_by_all second) now_is ∙ sym (joined first second k)

-- a PDU that is not empty is accepted, or is not
abbrev pub accepts_if : Bool → List LineStep
accepts_if counts = if counts then Accepts ∷ [] else []

abbrev takes : Response → ℕ → Pdu → KeyedStep
takes response slot pdu = Takes (read_of pdu) slot (drawn response)

-- the steps of a PDU that is accepted, or is not
abbrev pub steps_accepted : Bool → Response → ℕ → Pdu → List LineStep
steps_accepted accepted response slot pdu =
    accepts_if (counts_accepted accepted pdu)
    ++ (does_if (accepted && is_procedure_pdu pdu) (takes response slot pdu) ++ does_if (accepted && is_data pdu) TakesData)

-- an empty PDU is none of procedures
pub empty_none : (control empty : Bool) → empty ≡ true → (control && not empty) ≡ false
empty_none true empty is = ap not is
empty_none false empty is = refl

module _ (side : Side) (number : ℕ) (role : Role) (response : Response) (slot : ℕ) where
  abbrev noted : List Note → List LineStep
  noted notes = steps_noted side number role response slot notes

  pub noted_both : (notes more : List Note) → noted (notes ++ more) ≡ noted notes ++ noted more
  noted_both notes more =
      let line = line_of side number in
      ap (flat_map (steps_saying role response slot)) (map-append line notes more) ∙ flat_map-append (steps_saying role response slot) (map line notes) (map line more)

  -- ---- notes of procedures have no step

  done_none : (handle : ℕ) (kind : Option Kind) → noted (done_notes handle kind) ≡ []
  done_none handle None = refl
  done_none handle (Some kind) = refl

  began_none : (handle : ℕ) (kind : Option Kind) → noted (began_notes handle kind) ≡ []
  began_none handle None = refl
  began_none handle (Some kind) = refl

  applied_none : (handle event : ℕ) (applied : Option ℕ) → noted (applied_notes handle event applied) ≡ []
  applied_none handle event None = refl
  applied_none handle event (Some change) = refl

  refused_none : (handle : ℕ) (refused : Option (Kind × ErrCode)) → noted (refused_notes handle refused) ≡ []
  refused_none handle None = refl
  refused_none handle (Some (kind, code)) = refl

  given_none : (handle : ℕ) (given : Taken) → noted (given_notes handle given) ≡ []
  given_none handle given =
      noted_both (refused_notes handle given.refused) (done_notes handle given.done)
      ∙ (λ i. refused_none handle given.refused i ++ done_none handle given.done i)

  -- ---- an event is entered

  event_steps : (handle : ℕ) (event : ConnectionEvent) (entry : Entry) → noted (event_notes handle event entry) ≡ Does (Enters slot) ∷ []
  event_steps handle event entry =
      let applied = applied_notes handle event.number entry.applied in
      let enter = Enter handle (record { 0 = event.number }) event.channel ∷ [] in
      let done = done_notes handle entry.done in
      let began = began_notes handle entry.began in
      noted_both ((applied ++ enter) ++ done) began
      ∙ (λ i. noted_both (applied ++ enter) done i ++ began_none handle entry.began i)
      ∙ (λ i. (noted_both applied enter i ++ done_none handle entry.done i) ++ [])
      ∙ (λ i. ((applied_none handle event.number entry.applied i ++ noted enter) ++ []) ++ [])

  pub entry_steps : (goes : Bool) (handle : ℕ) (event : ConnectionEvent) (entry : Entry)
      → does_if goes (Enters slot) ≡ noted (if goes then event_notes handle event entry else [])
  entry_steps true handle event entry = sym (event_steps handle event entry)
  entry_steps false handle event entry = refl

  -- ---- a PDU is taken

  took_by : (empty : Bool) (handle : ℕ) (pdu : Pdu) (facts : Facts) → is_empty pdu ≡ empty
      → noted (took_notes_if (true && not (is_empty pdu)) handle pdu facts) ≡ steps_accepted true response slot pdu
  took_by true handle pdu facts is =
      (λ i. noted (took_notes_if (true && not (is i)) handle pdu facts))
      ∙ sym (λ i. accepts_if (true && not (is i)) ++ (does_if (empty_none (is_control pdu) (is_empty pdu) is i) (takes response slot pdu) ++ does_if (empty_is_no_data pdu is i) TakesData))
  took_by false handle pdu facts is =
      (λ i. noted (took_notes_if (true && not (is i)) handle pdu facts)) ∙ append-nil (steps_taking response slot pdu)
      ∙ sym (λ i. accepts_if (true && not (is i)) ++ (does_if (is_procedure_pdu pdu) (takes response slot pdu) ++ does_if (is_data pdu) TakesData))

  took_steps : (accepted : Bool) (handle : ℕ) (pdu : Pdu) (facts : Facts)
      → noted (took_notes_if (accepted && not (is_empty pdu)) handle pdu facts) ≡ steps_accepted accepted response slot pdu
  took_steps false handle pdu facts = refl
  took_steps true handle pdu facts = took_by (is_empty pdu) handle pdu facts refl

  pub taken_steps : (accepted : Bool) (handle : ℕ) (pdu : Pdu) (now : Facts)
      → noted (taken_notes handle accepted pdu slot now) ≡ steps_accepted accepted response slot pdu
  taken_steps accepted handle pdu now =
      let given = given_if (accepted && is_procedure_pdu pdu) pdu slot now in
      let kept = kept_given_if (accepted && is_procedure_pdu pdu) pdu slot now in
      let none = noted_both (given_notes handle given) (given_notes handle kept) ∙ (λ i. given_none handle given i ++ given_none handle kept i) in
      noted_both (took_notes_if (accepted && not (is_empty pdu)) handle pdu now) (given_notes handle given ++ given_notes handle kept)
      ∙ (λ i. took_steps accepted handle pdu now i ++ none i)
      ∙ append-nil (steps_accepted accepted response slot pdu)

  -- a procedure that is done, and a PDU that is taken
  pub heard_steps : (accepted : Bool) (handle : ℕ) (done : Option Kind) (pdu : Pdu) (now : Facts)
      → noted (done_notes handle done ++ taken_notes handle accepted pdu slot now) ≡ steps_accepted accepted response slot pdu
  heard_steps accepted handle done pdu now =
      noted_both (done_notes handle done) (taken_notes handle accepted pdu slot now)
      ∙ (λ i. done_none handle done i ++ taken_steps accepted handle pdu now i)

  -- ---- a PDU is sent

  pub sent_steps : (is_noted : Bool) (handle count : ℕ) (pdu : Pdu)
      → noted (sent_notes_if is_noted handle count pdu) ≡ (if is_noted then steps_sending role slot pdu else [])
  sent_steps true handle count pdu = append-nil (steps_sending role slot pdu)
  sent_steps false handle count pdu = refl

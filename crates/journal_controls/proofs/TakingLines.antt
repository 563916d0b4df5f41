-- The lines of an end that takes a packet move it from what it was as the packet reached it.
use Rattle.std.proofs.Common.{◌≡◌, ℕ, ◌&&◌, not, Bool, true, false, Option, Some, None, List, ◌++◌, map, refl, sym, ap, ◌∙◌, if◌then◌else◌}
use Rattle.std.specs.Prelude.{◌==◌}
use Rattle.std.proofs.lemmas.List.{map-append}
use Rattle.ble_base.specs.declared.error_codes.ErrCode.{ErrCode}
use Rattle.ble_base.specs.declared.notes.Note.{Note}
use Rattle.ble_base.specs.declared.procedure_kinds.Kind.{Kind}
use Rattle.ble_base.specs.declared.roles.Side.{Side}
use Rattle.journal_ends.specs.controller_model.Events.{passes}
use Rattle.journal_ends.specs.controller_model.Heard.{answer_unless, key_refusal, or_refusal, refusal_of}
use Rattle.journal_ends.specs.controller_model.host_view.View.{View}
use Rattle.data_pdu.specs.Header.{header_in}
use Rattle.data_pdu.specs.declared.ctrl.Ctrl.{Ctrl}
use Rattle.data_pdu.specs.declared.ctrl.Ctrl.TheVariants.{EncReq}
use Rattle.hci_evt.specs.declared.event.Event.TheVariants.{KeyRequest, ParamRequest}
use Rattle.hci_evt.specs.Event.{mask_bit_of}
use Rattle.host_masks.specs.Masks.{view_masks}
use Rattle.journal_ends.specs.journal_acks.link_calls.Phases.{refusal}
use Rattle.journal_ends.specs.journal_links.LinkLines.{line_of}
use Rattle.journal_ends.specs.link_model.Acknowledgement.{Pdu}
use Rattle.journal_ends.specs.link_model.Controls.{is_procedure_pdu, read_of}
use Rattle.journal_ends.specs.link_model.Data.{is_control, is_data, is_empty}
use Rattle.journal_ends.specs.link_model.Entering.{done_notes}
use Rattle.journal_ends.specs.link_model.Facts.{Facts, keyed_of}
use Rattle.journal_ends.specs.link_model.Hosts.{key_step}
use Rattle.journal_ends.specs.link_model.Packets.{good_pdu}
use Rattle.journal_ends.specs.link_model.Receiving.{accepts, acked_kind, acks_control, effect_of, effect_received, effect_unless_known, facts_before_taking, facts_hearing, given_if, given_notes, has_acknowledged, kept_effect_of, kept_effect_received, kept_given_if, procedures_answer, received_notes, refused_notes, taken_notes, took_notes_if}
use Rattle.journal_ends.specs.link_model.Setup.{Setup}
use Rattle.journal_ends.specs.link_model.Step.{Step as EndStep, KeyAnswered, RequestAnswered}
use Rattle.journal_ends.specs.link_model.Verdicts.{pdu_of}
use Rattle.journal_ends.specs.link_model.control_end.declared.answers.Taken.{Taken}
use Rattle.journal_ends.specs.link_model.declared.state.KnownLengths.{KnownLengths}
use Rattle.journal_ends.specs.link_model.keyed_control.Keyed.{Keyed}
use Rattle.journal_ends.specs.link_model.keyed_control.KeyedSteps.{KeyedStep, Answers, LacksKey, Takes, TakesData}
use Rattle.journal_ends.specs.link_model.keyed_control.declared.material.Response.{Response}
use Rattle.journal_ends.specs.link_model.phased_end.Taking.{drawn}
use Rattle.journal_ends.specs.link_model.procedure_stages.declared.steps.Effect.{Effect}
use Rattle.journal_ends.specs.link_model.procedure_stages.declared.steps.Effect.TheVariants.{AskHost, Cipher, Lengths as new_lengths, Nothing}
use Rattle.journal_ends.proofs.journal_acks.Acks.{empty_is_no_data}
use Rattle.journal_controls.specs.KeyedLines.{LineStep, answer_by, does_if, does_some, given_by, keyed_by_all}
use Rattle.journal_controls.specs.SaidLines.{moved_by}
use Rattle.journal_controls.specs.Withheld.{Withheld, answer_to, first_answer, key_answer, step_if, withheld_answer, withheld_by}
use Rattle.journal_controls.proofs.EndSteps.{accepted_moves, before_response}
use Rattle.journal_controls.proofs.LineFolds.{moved_both}
use Rattle.journal_controls.proofs.NotedSteps.{accepts_if, empty_none, joined, steps_accepted}

-- ---- the lines of its notes

-- an answer at once, where the PDU is accepted
abbrev pub answer_where : Bool → Option KeyedStep → Option KeyedStep
answer_where accepted answer = if accepted then answer else None

module _ (side : Side) (number : ℕ) (withheld : Withheld) (response : Response) (slot : ℕ) where
  abbrev moved : List Note → Keyed → Keyed
  moved notes k = moved_by withheld response slot (map (line_of side number) notes) k

  pub moved_more : (notes more : List Note) (k : Keyed) → moved (notes ++ more) k ≡ moved more (moved notes k)
  moved_more notes more k =
      ap (λ lines. moved_by withheld response slot lines k) (map-append (line_of side number) notes more)
      ∙ moved_both withheld response slot (map (line_of side number) notes) (map (line_of side number) more) k

  done_still : (handle : ℕ) (kind : Option Kind) (k : Keyed) → moved (done_notes handle kind) k ≡ k
  done_still handle None k = refl
  done_still handle (Some kind) k = refl

  refused_still : (handle : ℕ) (refused : Option (Kind × ErrCode)) (k : Keyed) → moved (refused_notes handle refused) k ≡ k
  refused_still handle None k = refl
  refused_still handle (Some (kind, code)) k = refl

  given_still : (handle : ℕ) (given : Taken) (k : Keyed) → moved (given_notes handle given) k ≡ k
  given_still handle given k =
      moved_more (refused_notes handle given.refused) (done_notes handle given.done) k
      ∙ done_still handle given.done (moved (refused_notes handle given.refused) k) ∙ refused_still handle given.refused k

  -- the PDU is taken, and may be answered at once
  abbrev steps_took : Bool → Pdu → Keyed → List LineStep
  steps_took accepted pdu k = steps_accepted accepted response slot pdu ++ does_some (answer_where accepted (answer_by withheld response slot k pdu))

  -- by what is known of an empty PDU, and of one that is not
  abbrev steps_by : Bool → Bool → Bool → Pdu → Keyed → List LineStep
  steps_by empty procedure carries pdu k =
      (accepts_if (not empty) ++ (does_if procedure (Takes (read_of pdu) slot (drawn response)) ++ does_if carries TakesData))
      ++ does_some (if procedure then withheld_answer withheld (given_by response slot k pdu) else None)

  took_by : (empty : Bool) (handle : ℕ) (pdu : Pdu) (now : Facts) (k : Keyed) → is_empty pdu ≡ empty
      → moved (took_notes_if (not (is_empty pdu)) handle pdu now) k ≡ keyed_by_all (steps_by (is_empty pdu) (is_procedure_pdu pdu) (is_data pdu) pdu k) k
  took_by true handle pdu now k is =
      (λ i. moved (took_notes_if (not (is i)) handle pdu now) k)
      ∙ sym (λ i. keyed_by_all (steps_by (is i) (empty_none (is_control pdu) (is_empty pdu) is i) (empty_is_no_data pdu is i) pdu k) k)
  took_by false handle pdu now k is =
      (λ i. moved (took_notes_if (not (is i)) handle pdu now) k)
      ∙ sym (λ i. keyed_by_all (steps_by (is i) (is_procedure_pdu pdu) (is_data pdu) pdu k) k)

  took_moved : (accepted : Bool) (handle : ℕ) (pdu : Pdu) (now : Facts) (k : Keyed)
      → moved (took_notes_if (accepted && not (is_empty pdu)) handle pdu now) k ≡ keyed_by_all (steps_took accepted pdu k) k
  took_moved false handle pdu now k = refl
  took_moved true handle pdu now k = took_by (is_empty pdu) handle pdu now k refl

  pub received_moved : (setup : Setup) (room : Bool) (pdu : List ℕ) (facts : Facts) → let now = facts_before_taking setup.link.role slot (header_in pdu) facts in
      moved (received_notes setup slot room (Some pdu) facts) (keyed_of now)
      ≡ keyed_by_all (steps_took (accepts room (header_in pdu) (pdu_of pdu) now) (pdu_of pdu) (keyed_of now)) (keyed_of now)
  received_moved setup room octets facts =
      let header = header_in octets in
      let pdu = pdu_of octets in
      let handle = setup.link.handle in
      let now = facts_before_taking setup.link.role slot header facts in
      let accepted = accepts room header pdu now in
      let kind = acked_kind (acks_control (has_acknowledged facts header) facts) facts in
      let took = took_notes_if (accepted && not (is_empty pdu)) handle pdu now in
      let given = given_if (accepted && is_procedure_pdu pdu) pdu slot now in
      let kept = kept_given_if (accepted && is_procedure_pdu pdu) pdu slot now in
      let k = keyed_of now in
      moved_more (done_notes handle kind) (taken_notes handle accepted pdu slot now) k
      ∙ ap (moved (taken_notes handle accepted pdu slot now)) (done_still handle kind k)
      ∙ moved_more took (given_notes handle given ++ given_notes handle kept) k
      ∙ moved_more (given_notes handle given) (given_notes handle kept) (moved took k)
      ∙ given_still handle kept (moved (given_notes handle given) (moved took k))
      ∙ given_still handle given (moved took k)
      ∙ took_moved accepted handle pdu now k

-- ---- a request that is withheld

-- the step that is made of an answer
abbrev pub keyed_answer : Option EndStep → Option KeyedStep
keyed_answer None = None
keyed_answer (Some (RequestAnswered answer)) = Some (Answers answer)
keyed_answer (Some (KeyAnswered key slot)) = Some (key_step key)
keyed_answer (Some step) = None

-- an answer, or else another one
unless_answers : (passes : Bool) (step : EndStep) (other : Option EndStep) (now : KeyedStep) → keyed_answer (Some step) ≡ Some now
    → keyed_answer (or_refusal (answer_unless passes step) other) ≡ first_answer (step_if (not passes) now) (keyed_answer other)
unless_answers true step other now is = refl
unless_answers false step other now is = is

or_none : (one : Option EndStep) → or_refusal one None ≡ one
or_none None = refl
or_none (Some step) = refl

first_none : (one : Option KeyedStep) → first_answer one None ≡ one
first_none None = refl
first_none (Some step) = refl

module _ (view : View) (handle slot : ℕ) where
  abbrev withheld_now : Withheld
  withheld_now = withheld_by (view_masks view)

  key_answers : (ctrl : Ctrl) (other : Option EndStep)
      → keyed_answer (or_refusal (key_refusal view handle slot ctrl) other) ≡ first_answer (key_answer withheld_now ctrl) (keyed_answer other)
  key_answers (EncReq rand ediv skd_m iv_m) other =
      unless_answers (passes view (mask_bit_of (KeyRequest handle rand ediv))) (KeyAnswered None slot) other LacksKey refl
  key_answers ctrl other = refl

  effect_answers : (effect : Effect) (other : Option EndStep)
      → keyed_answer (or_refusal (refusal_of view handle slot effect) other) ≡ first_answer (answer_to withheld_now effect) (keyed_answer other)
  effect_answers (AskHost min max latency timeout) other =
      unless_answers (passes view (mask_bit_of (ParamRequest handle min max latency timeout))) (RequestAnswered refusal) other (Answers refusal) refl
  effect_answers (Cipher ctrl) other = key_answers ctrl other
  effect_answers effect other = refl

  one_answers : (effect : Effect) → keyed_answer (refusal_of view handle slot effect) ≡ answer_to withheld_now effect
  one_answers effect =
      ap keyed_answer (sym (or_none (refusal_of view handle slot effect))) ∙ effect_answers effect None ∙ first_none (answer_to withheld_now effect)

  both_answer : (effect kept : Effect) → keyed_answer (or_refusal (refusal_of view handle slot effect) (refusal_of view handle slot kept))
      ≡ first_answer (answer_to withheld_now effect) (answer_to withheld_now kept)
  both_answer effect kept =
      effect_answers effect (refusal_of view handle slot kept) ∙ ap (first_answer (answer_to withheld_now effect)) (one_answers kept)

known_answers : (withheld : Withheld) (lengths : KnownLengths) (effect : Effect) → answer_to withheld (effect_unless_known lengths effect) ≡ answer_to withheld effect
known_answers withheld lengths (new_lengths rx tx) = by ((rx == lengths.reported_rx) && (tx == lengths.reported_tx))
  where
    by : (known : Bool) → answer_to withheld (if known then Nothing else new_lengths rx tx) ≡ None
    by true = refl
    by false = refl
known_answers withheld lengths other = refl

given_answers : (withheld : Withheld) (accepted procedure : Bool) (pdu : Pdu) (slot : ℕ) (facts : Facts)
    → first_answer (answer_to withheld (given_if (accepted && procedure) pdu slot facts).effect) (answer_to withheld (kept_given_if (accepted && procedure) pdu slot facts).effect)
    ≡ answer_where accepted (if procedure then withheld_answer withheld (procedures_answer pdu slot facts) else None)
given_answers withheld true true pdu slot facts = refl
given_answers withheld true false pdu slot facts = refl
given_answers withheld false procedure pdu slot facts = refl

module _ (view : View) (handle slot : ℕ) (room : Bool) (setup : Setup) (facts : Facts) (octets : List ℕ) where
  pub asked : (pdu : List ℕ) → good_pdu setup facts octets ≡ Some pdu → let now = facts_before_taking setup.link.role slot (header_in pdu) facts in
      keyed_answer (or_refusal (refusal_of view handle slot (effect_of setup facts slot octets room)) (refusal_of view handle slot (kept_effect_of setup facts slot octets room)))
      ≡ answer_where (accepts room (header_in pdu) (pdu_of pdu) now) (answer_by (withheld_by (view_masks view)) facts.encryption.response slot (keyed_of now) (pdu_of pdu))
  unfolding effect_of kept_effect_of
  asked heard good =
      let header = header_in heard in
      let pdu = pdu_of heard in
      let role = setup.link.role in
      let now = facts_before_taking role slot header facts in
      let accepted = accepts room header pdu now in
      let takes = accepted && is_procedure_pdu pdu in
      let withheld = withheld_by (view_masks view) in
      both_answer view handle slot (effect_of setup facts slot octets room) (kept_effect_of setup facts slot octets room)
      ∙ ap (λ (one : Option (List ℕ)). first_answer (answer_to withheld (effect_received role slot room one facts)) (answer_to withheld (kept_effect_received role slot room one facts))) good
      ∙ (λ i. first_answer (known_answers withheld facts.lengths (given_if takes pdu slot now).effect i) (known_answers withheld facts.lengths (kept_given_if takes pdu slot now).effect i))
      ∙ given_answers withheld accepted (is_procedure_pdu pdu) pdu slot now
      ∙ ap (λ (response : Response). answer_where accepted (answer_by withheld response slot (keyed_of now) pdu)) (before_response role slot header facts)

-- ---- all of it

module _ (side : Side) (number : ℕ) (withheld : Withheld) (slot : ℕ) (room : Bool) (setup : Setup) (facts : Facts) where
  -- what its lines say, with the answer that they do not say
  pub received_by_lines : (pdu : List ℕ) → let now = facts_before_taking setup.link.role slot (header_in pdu) facts in
      let response = facts.encryption.response in
      let answer = answer_where (accepts room (header_in pdu) (pdu_of pdu) now) (answer_by withheld response slot (keyed_of now) (pdu_of pdu)) in
      moved_by withheld response slot (map (line_of side number) (received_notes setup slot room (Some pdu) facts)) (keyed_of now)
      ≡ keyed_by_all (does_some answer) (keyed_of (facts_hearing setup.link.role slot room (header_in pdu) (pdu_of pdu) facts))
  received_by_lines octets =
      let role = setup.link.role in
      let response = facts.encryption.response in
      let header = header_in octets in
      let pdu = pdu_of octets in
      let now = facts_before_taking role slot header facts in
      let accepted = accepts room header pdu now in
      let refuses = does_some (answer_where accepted (answer_by withheld response slot (keyed_of now) pdu)) in
      received_moved side number withheld response slot setup room octets facts
      ∙ joined (steps_accepted accepted response slot pdu) refuses (keyed_of now)
      ∙ ap (λ r. keyed_by_all refuses (keyed_by_all (steps_accepted accepted r slot pdu) (keyed_of now))) (sym (before_response role slot header facts))
      ∙ ap (keyed_by_all refuses) (sym (accepted_moves accepted pdu slot now))

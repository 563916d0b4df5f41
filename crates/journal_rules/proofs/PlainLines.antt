-- The steps of a line in which an end neither sends a PDU nor takes one with which it begins or ends to seal.
use Rattle.std.proofs.Common.{◌≡◌, ℕ, ◌+◌, ◌==◌, ◌&&◌, ◌||◌, not, Bool, true, false, Option, Some, None, List, [], ◌∷◌, ◌++◌, map, refl, ◌∙◌, if◌then◌else◌}
use Rattle.std.specs.List.{AllByRecursion, flat_map}
use Rattle.ble_base.specs.declared.roles.Role.{Role}
use Rattle.ble_base.specs.declared.roles.Side.{Side}
use Rattle.ble_base.specs.declared.roles.Side.TheVariants.{A, B}
use Rattle.ble_base.specs.declared.verdicts.Verdict.{Verdict}
use Rattle.ble_base.specs.declared.verdicts.Verdict.TheVariants.{Broken, Forged, Good, Missed}
use Rattle.data_pdu.specs.declared.ctrl.Ctrl.{Ctrl}
use Rattle.data_pdu.specs.declared.ctrl.Ctrl.TheVariants.{EncReq}
use Rattle.ble_base.specs.Side.{other_side}
use Rattle.hci_cmd.specs.declared.command.Command.{Command}
use Rattle.journal.specs.declared.entries.Entry.{Entry}
use Rattle.journal.specs.declared.entries.Entry.TheVariants.{Air, Enter, Sent, Took}
use Rattle.journal_events.specs.journal_leaving.journal_controls.KeyedLines.{Accepts, LineStep, answer_by, answering, does_if, does_some, given_by, has_next}
use Rattle.journal_events.specs.journal_leaving.journal_controls.LineSteps.{answers_with, is_coming, is_more_acked, steps_asking, steps_in_line, steps_said, steps_seen, turn_now, withholds}
use Rattle.journal_events.specs.journal_leaving.journal_controls.Withheld.{Withheld, answer_to, first_answer, key_answer, step_if, withheld_answer}
use Rattle.journal_events.specs.journal_leaving.journal_controls.host_answers.Answered.{accepted_in}
use Rattle.journal_events.specs.journal_leaving.journal_controls.journal_acks.Carried.{carried_of}
use Rattle.journal_events.specs.journal_leaving.journal_controls.journal_acks.Exchange.{exchange_of}
use Rattle.journal_events.specs.journal_leaving.journal_controls.journal_acks.link_calls.Phases.{refusal}
use Rattle.journal_events.specs.journal_leaving.journal_controls.journal_ends.Answering.{answers_in_line}
use Rattle.journal_events.specs.journal_leaving.journal_controls.journal_ends.Asked.{Words, step_asked}
use Rattle.journal_events.specs.journal_leaving.journal_controls.journal_ends.Seen.{Asks as IsAsked, Hears, HearsForged, Says, Seen, asked_if, asked_in_line, heard_in_line, heard_where, is_heard_on, seen_in_line}
use Rattle.journal_events.specs.journal_leaving.journal_controls.journal_links.LinkLines.{link_named, where_named}
use Rattle.journal_events.specs.journal_leaving.journal_controls.journal_packets.Belonging.{is_side}
use Rattle.journal_events.specs.journal_leaving.journal_controls.link_model.Acknowledgement.{Pdu}
use Rattle.journal_events.specs.journal_leaving.journal_controls.link_model.Controls.{is_procedure_pdu, read_of}
use Rattle.journal_events.specs.journal_leaving.journal_controls.link_model.Data.{is_control, is_data}
use Rattle.journal_events.specs.journal_leaving.journal_controls.link_model.Hosts.{key_step}
use Rattle.journal_events.specs.journal_leaving.journal_controls.link_model.Step.{Step, Disconnected, KeyAnswered, ProcedureAsked, RequestAnswered}
use Rattle.journal_events.specs.journal_leaving.journal_controls.link_model.keyed_control.Keyed.{Keyed}
use Rattle.journal_events.specs.journal_leaving.journal_controls.link_model.keyed_control.KeyedSteps.{KeyedStep, Answers, Asks, LacksKey, SeesAcknowledged, Sends, Takes, TakesData}
use Rattle.journal_events.specs.journal_leaving.journal_controls.link_model.keyed_control.declared.material.Response.{Response}
use Rattle.journal_events.specs.journal_leaving.journal_controls.link_model.phased_control.Taken.{role_now}
use Rattle.journal_events.specs.journal_leaving.journal_controls.link_model.phased_end.Taking.{drawn}
use Rattle.journal_events.specs.journal_leaving.journal_controls.link_model.procedure_stages.declared.steps.Effect.{Effect}
use Rattle.journal_events.specs.journal_leaving.journal_controls.link_model.procedure_stages.declared.steps.Effect.TheVariants.{AskHost, Cipher}
use Rattle.journal_events.specs.journal_leaving.journal_controls.run_model.Readers.{of_side}
use Rattle.journal_rules.specs.Sealing.{class_of_pdu, marks_with}
use Rattle.journal_rules.proofs.EndSeals.{ArePlain, is_plain}

-- ---- the steps of a line

module _ (role : Role) where
  pub plain_both : (steps more : List LineStep) → ArePlain role steps → ArePlain role more → ArePlain role (steps ++ more)
  plain_both [] more plain plain_too = plain_too
  plain_both (step ∷ steps) more plain plain_too = (plain.0, plain_both steps more plain.1 plain_too)

  plain_flat : {X : Type 0} (f : X → List LineStep) (xs : List X) → AllByRecursion (λ x. ArePlain role (f x)) xs → ArePlain role (flat_map f xs)
  plain_flat f [] plain = tt
  plain_flat f (x ∷ xs) plain = plain_both (f x) (flat_map f xs) plain.0 (plain_flat f xs plain.1)

  pub plain_if : (is_made : Bool) (step : KeyedStep) → is_plain step role ≡ true → ArePlain role (does_if is_made step)
  plain_if true step plain = (plain, tt)
  plain_if false step plain = tt

  key_plain : (key : Option (List ℕ)) → is_plain (key_step key) role ≡ true
  key_plain None = refl
  key_plain (Some ltk) = refl

  answering_plain : (step : Step) → ArePlain role (answering step)
  answering_plain (RequestAnswered answer) = (refl, tt)
  answering_plain (KeyAnswered key slot) = (key_plain key, tt)
  answering_plain step = tt

  abbrev IfSomePlain : Option KeyedStep → Type 0
  IfSomePlain None = Unit {0}
  IfSomePlain (Some step) = is_plain step role ≡ true

  some_plain : (may : Option KeyedStep) → IfSomePlain may → ArePlain role (does_some may)
  some_plain None plain = tt
  some_plain (Some step) plain = (plain, tt)

  step_if_plain : (withheld : Bool) (step : KeyedStep) → is_plain step role ≡ true → IfSomePlain (step_if withheld step)
  step_if_plain true step plain = plain
  step_if_plain false step plain = tt

  key_answer_plain : (withheld : Withheld) (ctrl : Ctrl) → IfSomePlain (key_answer withheld ctrl)
  key_answer_plain withheld (EncReq rand ediv skd_m iv_m) = step_if_plain withheld.key LacksKey refl
  key_answer_plain withheld ctrl = tt

  answer_plain : (withheld : Withheld) (effect : Effect) → IfSomePlain (answer_to withheld effect)
  answer_plain withheld (AskHost min max latency timeout) = step_if_plain withheld.parameters (Answers refusal) refl
  answer_plain withheld (Cipher ctrl) = key_answer_plain withheld ctrl
  answer_plain withheld other = tt

  first_plain : (one other : Option KeyedStep) → IfSomePlain one → IfSomePlain other → IfSomePlain (first_answer one other)
  first_plain None other plain plain_too = plain_too
  first_plain (Some step) other plain plain_too = plain

  pub refusing_plain : (withheld : Withheld) (response : Response) (slot : ℕ) (k : Keyed) (pdu : Pdu) → ArePlain role (does_some (answer_by withheld response slot k pdu))
  refusing_plain withheld response slot k pdu = some_plain (answer_by withheld response slot k pdu) (by (is_procedure_pdu pdu))
    where
      by : (is : Bool) → IfSomePlain (if is then withheld_answer withheld (given_by response slot k pdu) else None)
      by true =
          let given = given_by response slot k pdu in
          first_plain (answer_to withheld given.taken.effect) (answer_to withheld given.kept.effect) (answer_plain withheld given.taken.effect) (answer_plain withheld given.kept.effect)
      by false = tt

  -- a line that says no new PDU, and that no PDU is taken that starts or stops
  abbrev pub says_plain : Entry → Bool
  says_plain (Sent side link count llid body) = false
  says_plain (Took side link count llid body) = not (is_procedure_pdu (record { llid = llid; body = body }) && marks_with (class_of_pdu llid body) role)
  says_plain line = true

  takes_if : (is : Bool) (read_marks : Bool) (step : KeyedStep) → is_plain step role ≡ not read_marks → not (is && read_marks) ≡ true → ArePlain role (does_if is step)
  takes_if false read_marks step same plain = tt
  takes_if true read_marks step same plain = (same ∙ plain, tt)

  said_plain : (withheld : Withheld) (response : Response) (slot : ℕ) (k : Keyed) (line : Entry) → says_plain line ≡ true → ArePlain role (steps_said withheld response slot k line)
  said_plain withheld response slot k (Sent side link count llid body) plain = absurd cc
  said_plain withheld response slot k (Took side link count llid body) plain =
      let pdu : Pdu = record { llid = llid; body = body } in
      let takes = Takes (read_of pdu) slot (drawn response) in
      plain_both (Accepts ∷ does_if (is_procedure_pdu pdu) takes ++ does_if (is_data pdu) TakesData) (does_some (answer_by withheld response slot k pdu)) (
        refl,
        plain_both (does_if (is_procedure_pdu pdu) takes) (does_if (is_data pdu) TakesData)
            (takes_if (is_procedure_pdu pdu) (marks_with (class_of_pdu llid body) role) takes refl plain) (plain_if (is_data pdu) TakesData refl),
      )
      (refusing_plain withheld response slot k pdu)
  said_plain withheld response slot k (Enter side link event channel) plain = (refl, tt)
  said_plain withheld response slot k line plain = tt

  asking_plain : (k : Keyed) (step : Step) → ArePlain role (steps_asking k step)
  asking_plain k (ProcedureAsked ask) = plain_if (not (is_coming ask k.phased.control)) (Asks ask) refl
  asking_plain k (Disconnected reason slot) = (refl, tt)
  asking_plain k (RequestAnswered answer) = (refl, tt)
  asking_plain k (KeyAnswered key slot) = (key_plain key, tt)
  asking_plain k step = tt

  abbrev pub seen_plain : Seen → Bool
  seen_plain (Says line) = says_plain line
  seen_plain (Hears slot octets) = true
  seen_plain HearsForged = true
  seen_plain (IsAsked step) = true

  abbrev pub AreSeenPlain : List Seen → Type 0
  AreSeenPlain seen = AllByRecursion (λ one. seen_plain one ≡ true) seen

  both_seen : (some more : List Seen) → AreSeenPlain some → AreSeenPlain more → AreSeenPlain (some ++ more)
  both_seen [] more plain plain_too = plain_too
  both_seen (one ∷ some) more plain plain_too = (plain.0, both_seen some more plain.1 plain_too)

  module _ (words : Words) (side : Side) (number : ℕ) (front : List Entry) (line : Entry) where
    steps_plain : (k : Keyed) (seen : Seen) → seen_plain seen ≡ true → ArePlain role (steps_seen words side number front line k seen)
    steps_plain k (Says own) plain = said_plain (withholds side front) (words side front) (turn_now front) k own plain
    steps_plain k (Hears slot octets) plain =
        let before = exchange_of number front side in
        let after = exchange_of number (front ++ line ∷ []) side in
        let last = carried_of number front side in
        plain_both (does_if (is_more_acked before after && is_control last) SeesAcknowledged) (does_if (answers_with (role_now k.phased) (has_next k) after) (Sends slot))
        (plain_if (is_more_acked before after && is_control last) SeesAcknowledged refl) (plain_if (answers_with (role_now k.phased) (has_next k) after) (Sends slot) refl)
    steps_plain k HearsForged plain = (refl, tt)
    steps_plain k (IsAsked step) plain = asking_plain k step

    all_steps_plain : (k : Keyed) (seen : List Seen) → AreSeenPlain seen → AllByRecursion (λ one. ArePlain role (steps_seen words side number front line k one)) seen
    all_steps_plain k [] plain = tt
    all_steps_plain k (one ∷ seen) plain = (steps_plain k one plain.0, all_steps_plain k seen plain.1)

    all_answers_plain : (answers : List Step) → AllByRecursion (λ one. ArePlain role (answering one)) answers
    all_answers_plain [] = tt
    all_answers_plain (one ∷ answers) = (answering_plain one, all_answers_plain answers)

    pub line_plain : (k : Keyed) → AreSeenPlain (seen_in_line words side number front line) → ArePlain role (steps_in_line words side number front line k)
    line_plain k plain =
        let answers = answers_in_line words side number front line in
        let seen = seen_in_line words side number front line in
        plain_both (flat_map answering answers) (flat_map (steps_seen words side number front line k) seen) (plain_flat answering answers (all_answers_plain answers))
        (plain_flat (steps_seen words side number front line k) seen (all_steps_plain k seen plain))

    -- ---- what is seen of the end in a line

    asked_step : (step : Step) → AreSeenPlain (asked_if (Some step))
    asked_step (ProcedureAsked ask) = (refl, tt)
    asked_step (Disconnected reason slot) = (refl, tt)
    asked_step step = tt

    asked_plain : (commands : List Command) → AreSeenPlain (flat_map (λ command. asked_if (step_asked words side number front command)) commands)
    asked_plain [] = tt
    asked_plain (command ∷ commands) = both_seen (asked_if (step_asked words side number front command)) _ (by (step_asked words side number front command)) (asked_plain commands)
      where
        by : (may : Option Step) → AreSeenPlain (asked_if may)
        by None = tt
        by (Some step) = asked_step step

    heard_plain : (line : Entry) → AreSeenPlain (heard_in_line side number front line)
    heard_plain (Air sender channel octets fate verdict) = by (is_heard_on number front sender channel octets fate verdict && is_side sender (other_side side)) verdict
      where
        by : (heard : Bool) (verdict : Verdict) → AreSeenPlain (heard_where heard verdict (turn_now front) octets)
        by false verdict = tt
        by true Good = (refl, tt)
        by true Forged = (refl, tt)
        by true Missed = tt
        by true Broken = tt
    heard_plain line = tt

    pub all_plain : AreSeenPlain (map Says (where_named side number (link_named line) line)) → AreSeenPlain (seen_in_line words side number front line)
    all_plain said =
        both_seen (asked_in_line words side number front line) (heard_in_line side number front line ++ map Says (where_named side number (link_named line) line))
        (asked_plain (accepted_in side front line))
        (both_seen (heard_in_line side number front line) (map Says (where_named side number (link_named line) line)) (heard_plain line) said)

  pub own_plain : (side other : Side) (same : Bool) (line : Entry) → ((is_side other side && same) ≡ true → says_plain line ≡ true)
      → AreSeenPlain (map Says (of_side side other (if same then line ∷ [] else [])))
  own_plain A A true line plain = (plain refl, tt)
  own_plain A A false line plain = tt
  own_plain A B same line plain = tt
  own_plain B A same line plain = tt
  own_plain B B true line plain = (plain refl, tt)
  own_plain B B false line plain = tt

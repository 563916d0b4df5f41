-- What is seen of an end, by its past: as the past grows, and in steps in which it hears nothing and is asked nothing.
use Rattle.std.proofs.Common.{◌≡◌, ℕ, Bool, true, false, Option, Some, None, List, [], ◌∷◌, ◌++◌, map, refl, sym, ap, ◌∙◌, append_assoc}
use Rattle.std.specs.Prelude.{fold, is_none, if◌then◌else◌}
use Rattle.std.proofs.lemmas.Grind.{flat_map-append}
use Rattle.std.proofs.lemmas.List.{map-append}
use Rattle.std.proofs.lemmas.List.Sums.{fold-append}
use Rattle.air_frame.specs.declared.Heard.{Heard}
use Rattle.air_frame.specs.declared.Heard.TheVariants.{NotOurs, Broken as Faulty, Whole}
use Rattle.ble_base.specs.declared.notes.Note.{Note}
use Rattle.ble_base.specs.declared.roles.Role.{Role}
use Rattle.ble_base.specs.declared.roles.Side.{Side}
use Rattle.ble_base.specs.declared.verdicts.Verdict.TheVariants.{Broken, Forged, Good}
use Rattle.journal_acks.specs.controller_model.Links.{note_opened}
use Rattle.journal_acks.specs.controller_model.Since.{notes_opened_on}
use Rattle.journal_acks.specs.journal_links.LinkLines.{line_of}
use Rattle.journal_acks.specs.link_model.End.{facts_after, facts_of, notes_after, notes_from, notes_of}
use Rattle.journal_acks.specs.link_model.Facts.{Facts, first_facts}
use Rattle.journal_acks.specs.link_model.Hosts.{asked_unless, is_to_come}
use Rattle.journal_acks.specs.link_model.Packets.{good_pdu, heard_of, is_forged, is_forged_in, is_forged_pdu, pdu_read, pdu_read_in, verdict_of, whole_pdu}
use Rattle.journal_acks.specs.link_model.Payload.{opens_now}
use Rattle.journal_acks.specs.link_model.Receiving.{facts_forged_if, facts_received}
use Rattle.journal_acks.specs.link_model.Setup.{Setup}
use Rattle.journal_acks.specs.link_model.Step.{Step, DataGiven, ProcedureAsked, RequestAnswered, KeyAnswered, Disconnected, EventEntered, PduFixed, PacketSent, WordsGiven, PacketReceived, DataReported}
use Rattle.journal_acks.specs.link_model.Verdicts.{has_room_for, pdu_by, verdict_by, whole_in}
use Rattle.journal_acks.proofs.GoodLinks.{slot_of}
use Rattle.journal_acks.proofs.link_calls.HeardSteps.{entered_good, fixed_same, received_same, sent_in}
use Rattle.journal_ends.specs.Seen.{Says, asked_in_step, heard_as, heard_in_step, line_said, lines_said, notes_said, seen_in, seen_in_steps, seen_of, slot_after}
use Rattle.journal_ends.proofs.SeenLists.{heard_says, said_again, said_slot, step_unsaid}

module _ (side : Side) (number : ℕ) (setup : Setup) where
  -- ---- more steps

  steps_append : (facts : Facts) (steps more : List Step) → seen_in_steps side number setup facts (steps ++ more)
      ≡ seen_in_steps side number setup facts steps ++ seen_in_steps side number setup (fold (facts_after setup) facts steps) more
  steps_append facts [] more = refl
  steps_append facts (step ∷ steps) more =
      let next = facts_after setup facts step in
      let seen = seen_in side number setup facts step in
      ap (λ xs. seen ++ xs) (steps_append next steps more)
      ∙ sym (append_assoc seen (seen_in_steps side number setup next steps) (seen_in_steps side number setup (fold (facts_after setup) next steps) more))

  pub seen_grows : (past steps : List Step) → seen_of side number setup (past ++ steps)
      ≡ seen_of side number setup past ++ seen_in_steps side number setup (facts_of setup past) steps
  unfolding seen_of facts_of
  seen_grows past steps = ap (λ xs. Says (line_of side number (note_opened setup.link)) ∷ xs) (steps_append (first_facts setup) past steps)

  -- ---- the lines that it says

  notes_lines : (notes : List Note) → lines_said (notes_said side number notes) ≡ map (line_of side number) notes
  notes_lines notes = said_again (map (line_of side number) notes)

  heard_lines : (facts : Facts) (step : Step) → lines_said (heard_in_step setup facts step) ≡ []
  heard_lines facts (PacketReceived slot octets room) = heard_says (verdict_of setup facts octets) slot octets
  heard_lines facts step = refl

  step_lines : (facts : Facts) (step : Step) → lines_said (seen_in side number setup facts step) ≡ map (line_of side number) (notes_after setup facts step)
  step_lines facts step =
      let heard = heard_in_step setup facts step ++ notes_said side number (notes_after setup facts step) in
      flat_map-append line_said (asked_in_step step) heard
      ∙ ap (λ xs. xs ++ lines_said heard) (step_unsaid step).lines
      ∙ flat_map-append line_said (heard_in_step setup facts step) (notes_said side number (notes_after setup facts step))
      ∙ ap (λ xs. xs ++ lines_said (notes_said side number (notes_after setup facts step))) (heard_lines facts step)
      ∙ notes_lines (notes_after setup facts step)

  steps_lines : (facts : Facts) (steps : List Step) → lines_said (seen_in_steps side number setup facts steps) ≡ map (line_of side number) (notes_from setup facts steps)
  steps_lines facts [] = refl
  steps_lines facts (step ∷ steps) =
      let next = facts_after setup facts step in
      flat_map-append line_said (seen_in side number setup facts step) (seen_in_steps side number setup next steps)
      ∙ (λ i. step_lines facts step i ++ steps_lines next steps i)
      ∙ sym (map-append (line_of side number) (notes_after setup facts step) (notes_from setup next steps))

  pub past_lines : (past : List Step) → lines_said (seen_of side number setup past) ≡ map (line_of side number) (notes_opened_on setup past)
  unfolding seen_of notes_of
  past_lines past = ap (λ xs. line_of side number (note_opened setup.link) ∷ xs) (steps_lines (first_facts setup) past)

  -- ---- the slot of what it heard last

  -- a packet that is forged is heard of in no slot
  read_slot : (role : Role) (slot : ℕ) (octets : List ℕ) (room : Bool) (facts : Facts) (read : Option (List ℕ))
      → slot_of (facts_forged_if (is_none read) (facts_received role slot room read facts)).last_good
      ≡ fold slot_after (slot_of facts.last_good) (heard_as (if is_none read then Forged else Good) slot octets)
  read_slot role slot octets room facts (Some pdu) = ap slot_of (received_same role slot room pdu facts).good
  read_slot role slot octets room facts None = refl

  heard_slot : (role : Role) (slot : ℕ) (octets : List ℕ) (room : Bool) (max_rx : ℕ) (opens : Bool) (heard : Heard) (facts : Facts)
      → slot_of (facts_forged_if (is_forged_in facts (whole_in max_rx opens heard))
      (facts_received role slot room (pdu_read_in facts (whole_in max_rx opens heard)) facts)).last_good
      ≡ fold slot_after (slot_of facts.last_good) (heard_as (verdict_by max_rx opens (is_forged_pdu facts) heard) slot octets)
  heard_slot role slot octets room max_rx opens NotOurs facts = refl
  heard_slot role slot octets room max_rx opens Faulty facts = refl
  heard_slot role slot octets room max_rx opens (Whole pdu) facts = by (has_room_for max_rx opens pdu.items)
    where
      by : (fits : Bool) → slot_of (facts_forged_if (is_forged_in facts (pdu_by fits pdu.items))
          (facts_received role slot room (pdu_read_in facts (pdu_by fits pdu.items)) facts)).last_good
          ≡ fold slot_after (slot_of facts.last_good)
          (heard_as (if fits then (if is_forged_pdu facts pdu.items then Forged else Good) else Broken) slot octets)
      by true = read_slot role slot octets room facts (pdu_read facts pdu.items)
      by false = refl

  received_slot : (slot : ℕ) (octets : List ℕ) (room : Bool) (facts : Facts)
      → slot_of (facts_after setup facts (PacketReceived slot octets room)).last_good
      ≡ fold slot_after (slot_of facts.last_good) (heard_as (verdict_of setup facts octets) slot octets)
  unfolding good_pdu is_forged verdict_of whole_pdu
  received_slot slot octets room facts =
      heard_slot setup.link.role slot octets room setup.link.max_rx (opens_now facts.encryption.end) (heard_of setup facts octets) facts

  step_heard : (facts : Facts) (step : Step) → slot_of (facts_after setup facts step).last_good ≡ fold slot_after (slot_of facts.last_good) (heard_in_step setup facts step)
  step_heard facts (DataGiven start body) = refl
  step_heard facts (ProcedureAsked ask) = by (is_to_come ask facts)
    where
      by : (known : Bool) → slot_of (asked_unless known ask facts).last_good ≡ slot_of facts.last_good
      by true = refl
      by false = refl
  step_heard facts (RequestAnswered answer) = refl
  step_heard facts (KeyAnswered key slot) = refl
  step_heard facts (Disconnected reason slot) = refl
  step_heard facts (EventEntered slot) = ap slot_of (entered_good setup slot facts)
  step_heard facts PduFixed = ap slot_of (fixed_same facts).good
  step_heard facts (PacketSent slot) = ap slot_of (sent_in slot facts).good
  step_heard facts (WordsGiven skd_s iv_s) = refl
  step_heard facts (PacketReceived slot octets room) = received_slot slot octets room facts
  step_heard facts DataReported = refl

  step_slot : (facts : Facts) (step : Step) → slot_of (facts_after setup facts step).last_good ≡ fold slot_after (slot_of facts.last_good) (seen_in side number setup facts step)
  step_slot facts step =
      let heard = heard_in_step setup facts step in
      let lines = map (line_of side number) (notes_after setup facts step) in
      step_heard facts step ∙ sym (said_slot (fold slot_after (slot_of facts.last_good) heard) lines)
      ∙ sym (fold-append slot_after (slot_of facts.last_good) heard (map Says lines))
      ∙ ap (λ slot. fold slot_after slot (heard ++ map Says lines)) (sym ((step_unsaid step).slot (slot_of facts.last_good)))
      ∙ sym (fold-append slot_after (slot_of facts.last_good) (asked_in_step step) (heard ++ map Says lines))

  steps_slot : (facts : Facts) (steps : List Step)
      → slot_of (fold (facts_after setup) facts steps).last_good ≡ fold slot_after (slot_of facts.last_good) (seen_in_steps side number setup facts steps)
  steps_slot facts [] = refl
  steps_slot facts (step ∷ steps) =
      let next = facts_after setup facts step in
      steps_slot next steps
      ∙ ap (λ one. fold slot_after one (seen_in_steps side number setup next steps)) (step_slot facts step)
      ∙ sym (fold-append slot_after (slot_of facts.last_good) (seen_in side number setup facts step) (seen_in_steps side number setup next steps))

  pub past_slot : (past : List Step) → slot_of (facts_of setup past).last_good ≡ fold slot_after None (seen_of side number setup past)
  unfolding seen_of facts_of
  past_slot past = steps_slot (first_facts setup) past

  -- an end to which nothing happened only says that its link was opened
  pub past_new : seen_of side number setup [] ≡ map Says (map (line_of side number) (notes_opened_on setup []))
  unfolding seen_of notes_of
  past_new = refl

  -- ---- steps in which it hears nothing and is asked nothing

  notes_apart : (notes more : List Note) → notes_said side number (notes ++ more) ≡ notes_said side number notes ++ notes_said side number more
  notes_apart notes more =
      ap (map Says) (map-append (line_of side number) notes more) ∙ map-append Says (map (line_of side number) notes) (map (line_of side number) more)

abbrev pub IsDeaf : Step → Type 0
IsDeaf step = (asked_in_step step ≡ []) × ((setup : Setup) (facts : Facts) → heard_in_step setup facts step ≡ [])

abbrev pub AreDeaf : List Step → Type 0
AreDeaf [] = Unit {0}
AreDeaf (step ∷ steps) = IsDeaf step × AreDeaf steps

pub deaf_both : (steps more : List Step) → AreDeaf steps → AreDeaf more → AreDeaf (steps ++ more)
deaf_both [] more are are_too = are_too
deaf_both (step ∷ steps) more are are_too = (are.0, deaf_both steps more are.1 are_too)

pub deaf_say : (side : Side) (number : ℕ) (setup : Setup) (facts : Facts) (steps : List Step) → AreDeaf steps
    → seen_in_steps side number setup facts steps ≡ notes_said side number (notes_from setup facts steps)
deaf_say side number setup facts [] are = refl
deaf_say side number setup facts (step ∷ steps) are =
    let next = facts_after setup facts step in
    let notes = notes_after setup facts step in
    (λ i. (are.0.0 i ++ (are.0.1 setup facts i ++ notes_said side number notes)) ++ deaf_say side number setup next steps are.1 i)
    ∙ sym (notes_apart side number setup notes (notes_from setup next steps))

-- a packet that may be good, and after that steps in which it hears nothing
pub first_heard : (side : Side) (number : ℕ) (setup : Setup) (facts : Facts) (step : Step) (steps : List Step) → asked_in_step step ≡ [] → AreDeaf steps
    → seen_in_steps side number setup facts (step ∷ steps) ≡ heard_in_step setup facts step ++ notes_said side number (notes_from setup facts (step ∷ steps))
first_heard side number setup facts step steps none are =
    let next = facts_after setup facts step in
    let notes = notes_after setup facts step in
    let heard = heard_in_step setup facts step in
    (λ i. (none i ++ (heard ++ notes_said side number notes)) ++ deaf_say side number setup next steps are i)
    ∙ append_assoc heard (notes_said side number notes) (notes_said side number (notes_from setup next steps))
    ∙ ap (λ xs. heard ++ xs) (sym (notes_apart side number setup notes (notes_from setup next steps)))

-- ---- the notes of a past that grows

notes_append : (setup : Setup) (facts : Facts) (steps more : List Step)
    → notes_from setup facts (steps ++ more) ≡ notes_from setup facts steps ++ notes_from setup (fold (facts_after setup) facts steps) more
notes_append setup facts [] more = refl
notes_append setup facts (step ∷ steps) more =
    let next = facts_after setup facts step in
    let notes = notes_after setup facts step in
    ap (λ xs. notes ++ xs) (notes_append setup next steps more)
    ∙ sym (append_assoc notes (notes_from setup next steps) (notes_from setup (fold (facts_after setup) next steps) more))

pub notes_more : (setup : Setup) (past steps : List Step) → notes_opened_on setup (past ++ steps) ≡ notes_opened_on setup past ++ notes_from setup (facts_of setup past) steps
unfolding facts_of notes_of
notes_more setup past steps = ap (λ xs. note_opened setup.link ∷ xs) (notes_append setup (first_facts setup) past steps)

-- What happened to a link in an octet of its host changes its event as what the host asks does.
use Rattle.std.proofs.Common.{◌≡◌, ℕ, ◌||◌, ◌⊎◌, inl, inr, Bool, true, false, not, Option, Some, None, List, [], ◌∷◌, ◌++◌, fold, refl, sym, ap, subst, ◌∙◌, if◌then◌else◌}
use Rattle.ble_base.specs.declared.notes.Note.{Note}
use Rattle.ble_base.specs.declared.roles.Side.{Side}
use Rattle.ble_base.specs.declared.verdicts.Verdict.{Verdict}
use Rattle.ble_base.specs.declared.verdicts.Verdict.TheVariants.{Broken, Forged, Good, Missed}
use Rattle.air_frame.specs.declared.Heard.{Heard}
use Rattle.air_frame.specs.declared.Heard.TheVariants.{Broken as Faulty, NotOurs, Whole}
use Rattle.journal_sending.specs.journal_leaving.journal_data.open_links.OpenLinks.{OpenLink, facts_in}
use Rattle.journal_sending.specs.journal_leaving.journal_ends.Seen.{Asks, Seen, asked_if, heard_as, notes_said, seen_in, seen_in_steps}
use Rattle.journal_sending.specs.journal_leaving.link_model.Controls.{are_equal, goes_on, is_quiet_now}
use Rattle.journal_sending.specs.journal_leaving.link_model.Data.{is_control}
use Rattle.journal_sending.specs.journal_leaving.link_model.End.{facts_after, notes_after, notes_from}
use Rattle.journal_sending.specs.journal_leaving.link_model.Entering.{event_notes, facts_entered, facts_entered_if}
use Rattle.journal_sending.specs.journal_leaving.link_model.Events.{applied_notes}
use Rattle.journal_sending.specs.journal_leaving.link_model.Facts.{Facts, keyed_of}
use Rattle.journal_sending.specs.journal_leaving.link_model.Fixing.{fixed_anew}
use Rattle.journal_sending.specs.journal_leaving.link_model.Hosts.{asked_unless, is_to_come}
use Rattle.journal_sending.specs.journal_leaving.link_model.Packets.{good_pdu, heard_of, is_forged, is_forged_in, is_forged_pdu, pdu_read_in, verdict_of, whole_pdu}
use Rattle.journal_sending.specs.journal_leaving.link_model.Payload.{opens_now}
use Rattle.journal_sending.specs.journal_leaving.link_model.Receiving.{facts_forged_if, facts_received}
use Rattle.journal_sending.specs.journal_leaving.link_model.Sending.{control_gone_if, fixed_sent, takes_leave}
use Rattle.journal_sending.specs.journal_leaving.link_model.Setup.{Setup}
use Rattle.journal_sending.specs.journal_leaving.link_model.Step.{Step, DataGiven, DataReported, Disconnected, EventEntered, KeyAnswered, PacketReceived, PacketSent, PduFixed, ProcedureAsked, RequestAnswered, WordsGiven}
use Rattle.journal_sending.specs.journal_leaving.link_model.Verdicts.{has_room_for, pdu_by, verdict_by, whole_in}
use Rattle.journal_sending.specs.journal_leaving.link_model.control_end.Answers.{entry_of}
use Rattle.journal_sending.specs.journal_leaving.link_model.control_end.Held.{held_of}
use Rattle.journal_sending.specs.journal_leaving.link_model.procedure_values.declared.asks.Ask.{Ask}
use Rattle.journal_sending.proofs.journal_leaving.journal_acks.link_calls.Lengths.{fixed_lengths, sent_lengths}
use Rattle.journal_sending.proofs.journal_leaving.journal_controls.OpenedControls.{AreNone, none_of}
use Rattle.journal_sending.specs.journal_leaving.link_model.declared.state.KnownLengths.{KnownLengths}
use Rattle.hci_cmd.specs.declared.command.Command.{Command}
use Rattle.journal_sending.specs.journal_leaving.controller_model.link_commands.declared.moments.Moment.{Moment}
use Rattle.journal_sending.proofs.journal_leaving.journal_controls.FixedEnds.{grown_facts}
use Rattle.journal_sending.proofs.journal_leaving.journal_ends.HostedLinks.{IsAsked}
use Rattle.journal_events.specs.EventLines.{changed_if, lengths_differ}
use Rattle.journal_events.specs.Told.{event_lines}
use Rattle.journal_events.proofs.EndEvents.{equal_self, lines_by, or_none}
use Rattle.journal_events.proofs.KeptLengths.{answering, disconnecting, keyed_answering, lengths_in, sending}

-- ---- a packet that is missed or broken does nothing

bad_whole : (max_rx : ℕ) (opens : Bool) (facts : Facts) (heard : Heard)
    → (verdict_by max_rx opens (is_forged_pdu facts) heard ≡ Missed) ⊎ (verdict_by max_rx opens (is_forged_pdu facts) heard ≡ Broken) → whole_in max_rx opens heard ≡ None
bad_whole max_rx opens facts NotOurs bad = refl
bad_whole max_rx opens facts Faulty bad = refl
bad_whole max_rx opens facts (Whole pdu) bad = by (has_room_for max_rx opens pdu.items) (is_forged_pdu facts pdu.items) bad
  where
    by : (fits forged : Bool) → ((if fits then (if forged then Forged else Good) else Broken) ≡ Missed) ⊎ ((if fits then (if forged then Forged else Good) else Broken) ≡ Broken)
        → pdu_by fits pdu.items ≡ None
    by false forged is = refl
    by true true (inl is) = absurd cc
    by true true (inr is) = absurd cc
    by true false (inl is) = absurd cc
    by true false (inr is) = absurd cc

bad_facts : (setup : Setup) (facts : Facts) (slot : ℕ) (octets : List ℕ) (room : Bool) → (verdict_of setup facts octets ≡ Missed) ⊎ (verdict_of setup facts octets ≡ Broken)
    → facts_after setup facts (PacketReceived slot octets room) ≡ facts
unfolding verdict_of good_pdu is_forged whole_pdu
bad_facts setup facts slot octets room bad =
    ap (λ whole. facts_forged_if (is_forged_in facts whole) (facts_received setup.link.role slot room (pdu_read_in facts whole) facts))
    (bad_whole setup.link.max_rx (opens_now facts.encryption.end) facts (heard_of setup facts octets) bad)

-- ---- an end whose lengths are the same

record AreSame (one other : Facts) : Type 0 where
  long : other.lengths.long ≡ one.lengths.long
  changed : other.lengths.changed ≡ one.lengths.changed
  table : lengths_in (keyed_of other) ≡ lengths_in (keyed_of one)

same_then : (one two three : Facts) → AreSame one two → AreSame two three → AreSame one three
same_then one two three first next = record { long = next.long ∙ first.long; changed = next.changed ∙ first.changed; table = next.table ∙ first.table }

-- ---- or changed once

pub record AreMoved (one other : Facts) : Type 0 where
  pub long : other.lengths.long ≡ one.lengths.long
  pub changed : other.lengths.changed ≡ (one.lengths.changed || not (are_equal (lengths_in (keyed_of one)) (lengths_in (keyed_of other))))

moved_same : (one other : Facts) → AreSame one other → AreMoved one other
moved_same one other same = record {
  long = same.long;
  changed = same.changed ∙ sym (or_none one.lengths.changed)
      ∙ ap (λ equal. one.lengths.changed || not equal) (sym (equal_self (lengths_in (keyed_of one))) ∙ ap (are_equal (lengths_in (keyed_of one))) (sym same.table));
}

moved_first : (one two three : Facts) → AreMoved one two → AreSame two three → AreMoved one three
moved_first one two three moved same = record {
  long = same.long ∙ moved.long;
  changed = same.changed ∙ moved.changed ∙ ap (λ lengths. one.lengths.changed || not (are_equal (lengths_in (keyed_of one)) lengths)) (sym same.table);
}

moved_later : (one two three : Facts) → AreSame one two → AreMoved two three → AreMoved one three
moved_later one two three same moved = record {
  long = moved.long ∙ same.long;
  changed = moved.changed ∙ (λ i. same.changed i || not (are_equal (same.table i) (lengths_in (keyed_of three))));
}

asks_moves : (comes : Bool) (ask : Ask) (facts : Facts) → AreMoved facts (asked_unless comes ask facts)
asks_moves true ask facts = moved_same facts facts (record { long = refl; changed = refl; table = refl })
asks_moves false ask facts = record { long = refl; changed = refl }

no_entry : (handle event : ℕ) (applied : Option ℕ) (note : Note) (done began : List Note) → applied_notes handle event applied ++ note ∷ [] ++ done ++ began ≡ [] → ⊥
no_entry handle event None note done began none = absurd cc
no_entry handle event (Some number) note done began none = absurd cc

module _ (side : Side) (number : ℕ) (setup : Setup) where
  abbrev said : Facts → Step → List Seen
  said facts step = notes_said side number (notes_after setup facts step)

  step_same : (step : Step) (facts : Facts) → notes_after setup facts step ≡ [] → seen_in side number setup facts step ≡ [] → AreSame facts (facts_after setup facts step)
  step_same (DataGiven start body) facts none seen = record { long = refl; changed = refl; table = refl }
  step_same (ProcedureAsked ask) facts none seen = absurd cc
  step_same (RequestAnswered answer) facts none seen = record { long = refl; changed = refl; table = answering answer facts.control }
  step_same (KeyAnswered key slot) facts none seen = record { long = refl; changed = refl; table = keyed_answering key (keyed_of facts) }
  step_same (Disconnected reason slot) facts none seen = absurd cc
  step_same (EventEntered slot) facts none seen = by (goes_on facts) none
    where
      by : (goes : Bool)
          → (if goes then event_notes setup.link.handle (facts_entered setup slot facts).event (entry_of slot (is_quiet_now facts) (held_of facts.control)) else []) ≡ []
          → AreSame facts (facts_entered_if goes setup slot facts)
      by true noted =
          absurd (no_entry setup.link.handle (facts_entered setup slot facts).event.number (entry_of slot (is_quiet_now facts) (held_of facts.control)).applied _ _ _ noted)
      by false noted = record { long = refl; changed = refl; table = refl }
  step_same PduFixed facts none seen =
      record { long = ap (λ (l : KnownLengths). l.long) (fixed_lengths facts); changed = ap (λ (l : KnownLengths). l.changed) (fixed_lengths facts); table = by (is_control facts.outgoing.fixed) }
    where
      by : (stays : Bool) → lengths_in (keyed_of (if stays then facts else fixed_anew facts)) ≡ lengths_in (keyed_of facts)
      by true = refl
      by false = refl
  step_same (PacketSent slot) facts none seen =
      record { long = ap (λ (l : KnownLengths). l.long) (sent_lengths slot facts); changed = ap (λ (l : KnownLengths). l.changed) (sent_lengths slot facts); table = by (takes_leave facts) }
    where
      by : (goes : Bool) → lengths_in (keyed_of (fixed_sent slot (control_gone_if goes slot facts))) ≡ lengths_in (keyed_of facts)
      by true = sending slot (is_quiet_now facts) facts.control
      by false = refl
  step_same (WordsGiven skd_s iv_s) facts none seen = record { long = refl; changed = refl; table = refl }
  step_same (PacketReceived slot octets room) facts none seen = by (verdict_of setup facts octets) refl seen
    where
      bad : (verdict_of setup facts octets ≡ Missed) ⊎ (verdict_of setup facts octets ≡ Broken) → AreSame facts (facts_after setup facts (PacketReceived slot octets room))
      bad is = subst (AreSame facts) (sym (bad_facts setup facts slot octets room is)) (record { long = refl; changed = refl; table = refl })

      by : (verdict : Verdict) → verdict_of setup facts octets ≡ verdict → heard_as verdict slot octets ++ said facts (PacketReceived slot octets room) ≡ []
          → AreSame facts (facts_after setup facts (PacketReceived slot octets room))
      by Good is heard = absurd cc
      by Forged is heard = absurd cc
      by Missed is heard = bad (inl is)
      by Broken is heard = bad (inr is)
  step_same DataReported facts none seen = record { long = refl; changed = refl; table = refl }

  steps_same : (steps : List Step) (facts : Facts) → notes_from setup facts steps ≡ [] → seen_in_steps side number setup facts steps ≡ [] → AreSame facts (fold (facts_after setup) facts steps)
  steps_same [] facts none seen = record { long = refl; changed = refl; table = refl }
  steps_same (step ∷ steps) facts none seen =
      let next = facts_after setup facts step in
      let notes = none_of (notes_after setup facts step) (notes_from setup next steps) none in
      let both = none_of (seen_in side number setup facts step) (seen_in_steps side number setup next steps) seen in
      same_then facts next (fold (facts_after setup) next steps) (step_same step facts notes.first both.first) (steps_same steps next notes.second both.second)

  -- a step that asks nothing is not seen, where it has no notes
  unseen : (step : Step) (facts : Facts) (asked : Step) (later : List Seen) → notes_after setup facts step ≡ [] → seen_in side number setup facts step ++ later ≡ Asks asked ∷ []
      → (seen_in side number setup facts step ≡ []) ⊎ (AreMoved facts (facts_after setup facts step) × (later ≡ []))
  unseen (ProcedureAsked ask) facts asked later none is =
      let whole : Asks (ProcedureAsked ask) ∷ later ≡ Asks asked ∷ [] = is in
      let rest : later ≡ [] = cc in
      inr (asks_moves (is_to_come ask facts) ask facts, rest)
  unseen (Disconnected reason slot) facts asked later none is =
      let whole : Asks (Disconnected reason slot) ∷ later ≡ Asks asked ∷ [] = is in
      let rest : later ≡ [] = cc in
      inr (moved_same facts (facts_after setup facts (Disconnected reason slot)) (record { long = refl; changed = refl; table = disconnecting reason facts.control }), rest)
  unseen (EventEntered slot) facts asked later none is = inl (ap (notes_said side number) none)
  unseen (PacketSent slot) facts asked later none is = inl (ap (notes_said side number) none)
  unseen (PacketReceived slot octets room) facts asked later none is = by (verdict_of setup facts octets) refl is
    where
      by : (verdict : Verdict) → verdict_of setup facts octets ≡ verdict
          → (heard_as verdict slot octets ++ said facts (PacketReceived slot octets room)) ++ later ≡ Asks asked ∷ []
          → (heard_as (verdict_of setup facts octets) slot octets ++ said facts (PacketReceived slot octets room) ≡ [])
          ⊎ (AreMoved facts (facts_after setup facts (PacketReceived slot octets room)) × (later ≡ []))
      by Good judged heard = absurd cc
      by Forged judged heard = absurd cc
      by Missed judged heard = inl (ap (λ verdict. heard_as verdict slot octets ++ said facts (PacketReceived slot octets room)) judged ∙ ap (notes_said side number) none)
      by Broken judged heard = inl (ap (λ verdict. heard_as verdict slot octets ++ said facts (PacketReceived slot octets room)) judged ∙ ap (notes_said side number) none)
  unseen step facts asked later none is = inl refl

  steps_moved : (steps : List Step) (facts : Facts) (asked : Step) → notes_from setup facts steps ≡ [] → seen_in_steps side number setup facts steps ≡ Asks asked ∷ []
      → AreMoved facts (fold (facts_after setup) facts steps)
  steps_moved [] facts asked none is = absurd cc
  steps_moved (step ∷ steps) facts asked none is =
      by (unseen step facts asked (seen_in_steps side number setup (facts_after setup facts step) steps) notes.first is) (λ later. steps_moved steps (facts_after setup facts step) asked notes.second later)
    where
      notes : AreNone (notes_after setup facts step) (notes_from setup (facts_after setup facts step) steps)
      notes = none_of (notes_after setup facts step) (notes_from setup (facts_after setup facts step) steps) none

      by : (seen_in side number setup facts step ≡ []) ⊎ (AreMoved facts (facts_after setup facts step) × (seen_in_steps side number setup (facts_after setup facts step) steps ≡ []))
          → (seen_in_steps side number setup (facts_after setup facts step) steps ≡ Asks asked ∷ [] → AreMoved (facts_after setup facts step) (fold (facts_after setup) (facts_after setup facts step) steps)) → AreMoved facts (fold (facts_after setup) facts (step ∷ steps))
      by (inl quiet) later =
          moved_later facts (facts_after setup facts step) (fold (facts_after setup) (facts_after setup facts step) steps) (step_same step facts notes.first quiet)
          (later (ap (λ seen. seen ++ seen_in_steps side number setup (facts_after setup facts step) steps) (sym quiet) ∙ is))
      by (inr (moved, rest)) later = moved_first facts (facts_after setup facts step) (fold (facts_after setup) (facts_after setup facts step) steps) moved (steps_same steps (facts_after setup facts step) notes.second rest)

  pub asked_moved : (steps : List Step) (facts : Facts) (asked : Option Step) → notes_from setup facts steps ≡ [] → seen_in_steps side number setup facts steps ≡ asked_if asked
      → AreMoved facts (fold (facts_after setup) facts steps)
  asked_moved steps facts None none is = moved_same facts (fold (facts_after setup) facts steps) (steps_same steps facts none is)
  asked_moved steps facts (Some (ProcedureAsked ask)) none is = steps_moved steps facts (ProcedureAsked ask) none is
  asked_moved steps facts (Some (Disconnected reason slot)) none is = steps_moved steps facts (Disconnected reason slot) none is
  asked_moved steps facts (Some step) none is = moved_same facts (fold (facts_after setup) facts steps) (steps_same steps facts none is)

-- ---- the end holds that event

pub asked_holds : (side : Side) (number handle : ℕ) (moment : Moment) (commands : List Command) (base after : OpenLink) (is : IsAsked handle moment commands base after)
    → (facts_in after).event ≡ (facts_in base).event → (facts_in after).last_good ≡ (facts_in base).last_good
    → event_lines (facts_in after) ≡ changed_if (lengths_differ (Some (keyed_of (facts_in base))) (Some (keyed_of (facts_in after)))) (event_lines (facts_in base))
asked_holds side number handle moment commands base after is event good =
    let facts = grown_facts base after is.steps is.setup_is is.past_is in
    let moved = subst (AreMoved (facts_in base)) (sym facts) (asked_moved side number base.setup is.steps (facts_in base) is.asked is.notes (is.asks side number)) in
    λ i. lines_by (event i) (moved.long i) (moved.changed i) (good i)

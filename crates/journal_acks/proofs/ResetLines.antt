-- A line of a link that is shut as a step completes a Reset has the octets of the Reset before it.
use Rattle.std.proofs.Common.{◌≡◌, ℕ, ◌⊎◌, inl, inr, List, [], ◌∷◌, ◌++◌, refl, sym, ap, subst, ◌∙◌, append_assoc, ◌==◌, true, append-nil}
use Rattle.std.specs.Prelude.{flat_map, map, if◌then◌else◌}
use Rattle.std.proofs.lemmas.Grind.{flat_map-append}
use Rattle.ble_base.specs.declared.error_codes.ErrCode.{ErrCode}
use Rattle.ble_base.specs.declared.notes.Note.{Note}
use Rattle.ble_base.specs.declared.roles.Side.{Side}
use Rattle.hci_cmd.specs.declared.command.Command.TheVariants.{Reset}
use Rattle.journal.specs.declared.entries.Entry.{Entry}
use Rattle.journal.specs.declared.entries.Entry.TheVariants.{Fed}
use Rattle.journal_packets.specs.controller_model.Host.{commands_accepted_after}
use Rattle.journal_packets.specs.controller_model.Side.{result_of}
use Rattle.journal_packets.specs.controller_model.Step.{Step, HostOctet, TurnBegins, PacketHeard, NothingHeard, TurnEnds}
use Rattle.journal_packets.proofs.controller_model.Resets.{resets}
use Rattle.link_calls.specs.run_model.Due.{Each}
use Rattle.link_calls.specs.run_model.History.{Event, TurnBegan, HostFed, Called, Noted, Transmitted, fed_to, octets_in, past_of}
use Rattle.link_calls.specs.run_model.Journal.{entries_of, journal_from, journal_of, side_of}
use Rattle.link_calls.specs.run_model.Links.{Links, first_links, links_after, links_of}
use Rattle.link_calls.specs.run_model.NoteLines.{IsLineInCall, shut_line}
use Rattle.link_calls.specs.run_model.Readers.{IsOfStations, fed_in, fed_to_side, of_side}
use Rattle.link_calls.specs.run_model.Run.{Given, facts_at, history_of, run_of, setup_at}
use Rattle.link_calls.proofs.run_model.Journals.{each_front, two, note_fed}
use Rattle.link_calls.proofs.run_model.OfStations.{OfStations, run_of_stations}
use Rattle.link_calls.proofs.run_model.Parts.{journal_more, notes_noted, notes_more}
use Rattle.link_calls.proofs.run_model.Places.{each_at}
use Rattle.link_calls.proofs.run_model.Stations.{is_in}
use Rattle.journal_acks.specs.Shut.{CompletesReset}
use Rattle.journal_acks.proofs.FeedCalls.{IsFedNow, OfFeed, run_feeds}
use Rattle.journal_acks.proofs.TwoStations.{IsOfTwo}

-- ---- what a side was fed, of two

abbrev IsOne : ℕ → Type 0
IsOne station = (station ≡ 0) ⊎ (station ≡ 1)

own_octets : (station other : ℕ) (octets : List ℕ) → IsOne station → IsOne other → of_side (side_of station) (side_of other) octets ≡ (if station == other then octets else [])
own_octets station other octets (inl a) (inl b) = (λ i. of_side (side_of (a i)) (side_of (b i)) octets) ∙ sym (λ i. if a i == b i then octets else [])
own_octets station other octets (inl a) (inr b) = (λ i. of_side (side_of (a i)) (side_of (b i)) octets) ∙ sym (λ i. if a i == b i then octets else [])
own_octets station other octets (inr a) (inl b) = (λ i. of_side (side_of (a i)) (side_of (b i)) octets) ∙ sym (λ i. if a i == b i then octets else [])
own_octets station other octets (inr a) (inr b) = (λ i. of_side (side_of (a i)) (side_of (b i)) octets) ∙ sym (λ i. if a i == b i then octets else [])

event_fed : (station : ℕ) → IsOne station → (links : Links) (event : Event) → IsOfStations (0 ∷ 1 ∷ []) event → flat_map (fed_in (side_of station)) (entries_of links event) ≡ octets_in station event
event_fed station one links (TurnBegan slot radios) is = refl
event_fed station one links (HostFed other octets) is = append-nil (of_side (side_of station) (side_of other) octets) ∙ own_octets station other octets one (two other is)
event_fed station one links (Called other step) is = refl
event_fed station one links (Noted other note) is = ap (λ xs. xs ++ []) (note_fed (side_of station) (side_of other) (links.link_of other) (links.last_of other) note)
event_fed station one links (Transmitted other channel octets []) is = refl
event_fed station one links (Transmitted other channel octets (hearing ∷ hearings)) is = refl

fed_from : (station : ℕ) → IsOne station → (links : Links) (before history : List Event) → Each (λ early event. IsOfStations (0 ∷ 1 ∷ []) event) before history
    → flat_map (fed_in (side_of station)) (journal_from links history) ≡ flat_map (octets_in station) history
fed_from station one links before [] each = refl
fed_from station one links before (event ∷ history) each =
    flat_map-append (fed_in (side_of station)) (entries_of links event) (journal_from (links_after links event) history)
    ∙ ap (λ xs. xs ++ flat_map (fed_in (side_of station)) (journal_from (links_after links event) history)) (event_fed station one links event each.0)
    ∙ ap (λ xs. octets_in station event ++ xs) (fed_from station one (links_after links event) (before ++ event ∷ []) history each.1)

side_fed : (station : ℕ) → IsOne station → (history : List Event) → Each (λ early event. IsOfStations (0 ∷ 1 ∷ []) event) [] history
    → fed_to_side (side_of station) (journal_of history) ≡ fed_to station history
unfolding journal_of
side_fed station one history each = fed_from station one first_links [] history each

-- ---- a line

module _ (given : Given) (are_two : IsOfTwo given) where
  fed_before : (station : ℕ) (before rest : List Event) → is_in station given.stations ≡ true → history_of (run_of given) ≡ before ++ rest
      → fed_to_side (side_of station) (journal_of before) ≡ fed_to station before
  fed_before station before rest in_it at =
      side_fed station (two station (ap (is_in station) (sym are_two) ∙ in_it)) before
      (each_front (λ early event. IsOfStations (0 ∷ 1 ∷ []) event) [] before rest
      (subst (Each (λ early event. IsOfStations (0 ∷ 1 ∷ []) event) []) at
      (subst (λ xs. Each (λ early event. IsOfStations xs event) [] (history_of (run_of given))) are_two (run_of_stations given))))

  completed : (base after : List Event) (station octet : ℕ) (earlier : List Note) → history_of (run_of given) ≡ base ++ Called station (HostOctet octet) ∷ after
      → commands_accepted_after (facts_at given station base) (HostOctet octet) ≡ Reset ∷ []
      → CompletesReset (journal_of (base ++ Called station (HostOctet octet) ∷ map (Noted station) earlier)) (side_of station)
  completed base after station octet earlier at accepted =
      let history = history_of (run_of given) in
      let called = Called station (HostOctet octet) in
      let fed : IsFedNow given base station octet = each_at (OfFeed given) history base after called (run_feeds given) at in
      let in_it = each_at (OfStations given) history base after called (run_of_stations given) at in
      let added = journal_from (links_of base) (called ∷ map (Noted station) earlier) in
      let from_start : history ≡ fed.start ++ (fed.later ++ called ∷ after) = at ∙ ap (λ xs. xs ++ called ∷ after) fed.is_front ∙ append_assoc fed.start fed.later (called ∷ after) in
      let same : fed_to_side (side_of station) (journal_of fed.start) ≡ fed_to station fed.start =
      fed_before station fed.start (fed.later ++ called ∷ after) in_it from_start in record {
        before = journal_of fed.start;
        octets = fed.octets;
        notes = fed.entries ++ added;
        front_is = journal_more base (called ∷ map (Noted station) earlier) ∙ ap (λ xs. xs ++ added) fed.journal_is
            ∙ append_assoc (journal_of fed.start) (Fed (side_of station) fed.octets ∷ fed.entries) added;
        are_notes = notes_more (side_of station) fed.entries added fed.are_notes (notes_noted (links_of base) station earlier);
        first = fed.first;
        last = octet;
        more = fed.more;
        octets_are = fed.octets_are;
        completes = ap (λ xs. result_of xs octet) (ap (λ xs. xs ++ fed.first) same ∙ sym fed.held)
            ∙ (resets (setup_at given station) (past_of station base) octet).0 accepted;
      }

  by_step : (base after : List Event) (station : ℕ) (step : Step) (earlier : List Note) → history_of (run_of given) ≡ base ++ Called station step ∷ after
      → commands_accepted_after (facts_at given station base) step ≡ Reset ∷ []
      → CompletesReset (journal_of (base ++ Called station step ∷ map (Noted station) earlier)) (side_of station)
  by_step base after station (HostOctet octet) earlier at accepted = completed base after station octet earlier at accepted
  by_step base after station (TurnBegins slot on) earlier at accepted = absurd cc
  by_step base after station (PacketHeard octets) earlier at accepted = absurd cc
  by_step base after station NothingHeard earlier at accepted = absurd cc
  by_step base after station TurnEnds earlier at accepted = absurd cc

  -- a line in the call that completes it
  pub reset_completed : (front : List Entry) (side : Side) (number : ℕ) (reason : ErrCode) (call : IsLineInCall given front (shut_line side number reason))
      → commands_accepted_after (facts_at given call.station call.base) call.step ≡ Reset ∷ [] → CompletesReset front side
  reset_completed front side number reason call accepted =
      subst (λ xs. CompletesReset xs side) (sym (call.front_is ∙ ap journal_of call.before_is))
      (subst (CompletesReset (journal_of (call.base ++ Called call.station call.step ∷ map (Noted call.station) call.earlier))) call.side_is
      (by_step call.base call.after call.station call.step call.earlier call.called accepted))

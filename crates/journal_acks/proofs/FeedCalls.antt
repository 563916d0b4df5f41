-- Each octet that a controller takes is one of the octets that its host sent last.
use Rattle.std.proofs.Common.{◌≡◌, ℕ, ◌==◌, Bool, true, false, Option, Some, None, List, [], ◌∷◌, ◌++◌, refl, sym, ap, subst, ◌∙◌, append-nil, append_assoc}
use Rattle.std.specs.Prelude.{⊤, map, take}
use Rattle.std.proofs.lemmas.Bool.{eqb-true}
use Rattle.journal.specs.declared.entries.Entry.{Entry}
use Rattle.journal.specs.declared.entries.Entry.TheVariants.{Fed}
use Rattle.journal_packets.specs.controller_model.Facts.{Facts}
use Rattle.journal_packets.specs.controller_model.Step.{Step, HostOctet, TurnBegins, PacketHeard, NothingHeard, TurnEnds}
use Rattle.journal_packets.specs.controller_model.Side.{facts_of, notes_after}
use Rattle.journal_packets.proofs.controller_model.Always.{IsInTurn}
use Rattle.journal_packets.proofs.controller_model.Feds.{more_octets, turn_octets}
use Rattle.link_calls.specs.run_model.Due.{Each}
use Rattle.link_calls.specs.run_model.History.{Event, TurnBegan, HostFed, Called, Noted, Transmitted, fed_to, octets_in, packet_received, steps_in}
use Rattle.link_calls.specs.run_model.Journal.{journal_of, side_of}
use Rattle.link_calls.specs.run_model.Order.{AreNotes}
use Rattle.link_calls.specs.run_model.Run.{Given, after_call, after_feed, after_octets, facts_at, hearings_of, history_of, octets_left, run_of, setup_at, step_of}
use Rattle.link_calls.proofs.run_model.Calls.{flat_nothing, same_station}
use Rattle.link_calls.proofs.run_model.Dues.{fed_called, fed_own}
use Rattle.link_calls.proofs.run_model.Parts.{call_adds, journal_event, notes_more}
use Rattle.link_calls.proofs.run_model.Places.{each_called, each_event}
use Rattle.link_calls.proofs.run_model.Walk.{Place, IsKept, IsStopped, IsWhole, ends_with, run_kept}
use Rattle.journal_packets.proofs.run_laws.Hearings.{other_facts, own_facts}
use Rattle.journal_acks.proofs.Counting.{facts_event}

-- the host of the station sent these octets, and since then its controller took the first ones and noted; this one is
-- the next
pub record IsFedNow (given : Given) (history : List Event) (station octet : ℕ) : Type 0 where
  pub start : List Event
  pub later : List Event
  pub is_front : history ≡ start ++ later
  pub octets : List ℕ
  pub first : List ℕ
  pub more : List ℕ
  pub octets_are : octets ≡ first ++ octet ∷ more
  pub entries : List Entry
  pub journal_is : journal_of history ≡ journal_of start ++ Fed (side_of station) octets ∷ entries
  pub are_notes : AreNotes (side_of station) entries
  pub held : (facts_at given station history).octets ≡ fed_to station start ++ first

module _ (given : Given) where
  abbrev OfStep : List Event → ℕ → Step → Type 0
  OfStep history station (HostOctet octet) = IsFedNow given history station octet
  OfStep history station (TurnBegins slot on) = ⊤
  OfStep history station (PacketHeard octets) = ⊤
  OfStep history station NothingHeard = ⊤
  OfStep history station TurnEnds = ⊤

  abbrev pub OfFeed : List Event → Event → Type 0
  OfFeed history (Called station step) = OfStep history station step
  OfFeed history (TurnBegan slot radios) = ⊤
  OfFeed history (HostFed station octets) = ⊤
  OfFeed history (Noted station note) = ⊤
  OfFeed history (Transmitted station channel octets hearings) = ⊤

  -- all octets that were sent are taken
  record AreTaken (history : List Event) : Type 0 where
    each : Each OfFeed [] history
    held : (station : ℕ) → (facts_at given station history).octets ≡ fed_to station history

  -- ---- a host sends

  module _ (start : List Event) (station : ℕ) (octets : List ℕ) where
    record IsFeeding (first more : List ℕ) (history : List Event) : Type 0 where
      each : Each OfFeed [] history
      later : List Event
      is_front : history ≡ start ++ later
      octets_are : octets ≡ first ++ more
      entries : List Entry
      journal_is : journal_of history ≡ journal_of start ++ Fed (side_of station) octets ∷ entries
      are_notes : AreNotes (side_of station) entries
      held : (facts_at given station history).octets ≡ fed_to station start ++ first
      own : fed_to station history ≡ fed_to station start ++ octets
      others : (other : ℕ) → (other == station) ≡ false → (facts_at given other history).octets ≡ fed_to other history

    octet_feeding : (first more : List ℕ) (octet : ℕ) (history : List Event) → IsFeeding first (octet ∷ more) history
        → IsFeeding (first ++ octet ∷ []) more (after_call given station (HostOctet octet) history)
    octet_feeding first more octet history is =
        let step = HostOctet octet in
        let facts = facts_at given station history in
        let notes = notes_after (setup_at given station) facts step in
        let added = call_adds given station step history in record {
          each = each_called OfFeed station step notes history is.each
              (record {
                start = start;
                later = is.later;
                is_front = is.is_front;
                octets = octets;
                first = first;
                more = more;
                octets_are = is.octets_are;
                entries = is.entries;
                journal_is = is.journal_is;
                are_notes = is.are_notes;
                held = is.held;
              }) (λ before note. tt);
          later = is.later ++ Called station step ∷ map (Noted station) notes;
          is_front = ap (λ xs. xs ++ Called station step ∷ map (Noted station) notes) is.is_front
              ∙ append_assoc start is.later (Called station step ∷ map (Noted station) notes);
          octets_are = is.octets_are ∙ sym (append_assoc first (octet ∷ []) more);
          entries = is.entries ++ added.entries;
          journal_is = added.journal_is ∙ ap (λ xs. xs ++ added.entries) is.journal_is
              ∙ append_assoc (journal_of start) (Fed (side_of station) octets ∷ is.entries) added.entries;
          are_notes = notes_more (side_of station) is.entries added.entries is.are_notes added.are_notes;
          held = ap (λ (f : Facts). f.octets) (own_facts given station step history) ∙ more_octets (setup_at given station) facts octet
              ∙ ap (λ xs. xs ++ octet ∷ []) is.held ∙ append_assoc (fed_to station start) first (octet ∷ []);
          own = fed_called station station step notes history ∙ is.own;
          others = λ other differs. ap (λ (f : Facts). f.octets) (other_facts given station step history other differs) ∙ is.others other differs
              ∙ sym (fed_called other station step notes history);
        }

    all_taken : (first : List ℕ) (history : List Event) → IsFeeding first [] history → AreTaken history
    all_taken first history is = record { each = is.each; held = λ other. by other (other == station) refl }
      where
        by : (other : ℕ) (same : Bool) → (other == station) ≡ same → (facts_at given other history).octets ≡ fed_to other history
        by other true one =
            let equal = eqb-true other station one in
            subst (λ n. (facts_at given n history).octets ≡ fed_to n history) (sym equal)
            (is.held ∙ ap (λ xs. fed_to station start ++ xs) (sym (append-nil first) ∙ sym is.octets_are) ∙ sym is.own)
        by other false differs = is.others other differs

    octets_taken : (first more : List ℕ) (history : List Event) → IsFeeding first more history → AreTaken (after_octets given station more history)
    octets_taken first [] history is = all_taken first history is
    octets_taken first (octet ∷ more) history is =
        octets_taken (first ++ octet ∷ []) more (after_call given station (HostOctet octet) history) (octet_feeding first more octet history is)

  feed_taken : (station : ℕ) (octets : List ℕ) (history : List Event) → AreTaken history → AreTaken (after_feed given station octets history)
  feed_taken station [] history are = are
  feed_taken station (octet ∷ octets) history are =
      let fed = HostFed station (octet ∷ octets) in
      octets_taken history station (octet ∷ octets) [] (octet ∷ octets) (history ++ fed ∷ []) (record {
        each = each_event OfFeed history fed are.each tt;
        later = fed ∷ [];
        is_front = refl;
        octets_are = refl;
        entries = [];
        journal_is = journal_event history fed;
        are_notes = tt;
        held = ap (λ (f : Facts). f.octets) (facts_event given station history fed refl) ∙ are.held station ∙ sym (append-nil (fed_to station history));
        own = fed_own station station (octet ∷ octets) history true (same_station station);
        others = λ other differs. ap (λ (f : Facts). f.octets) (facts_event given other history fed refl) ∙ are.held other
            ∙ sym (fed_own other station (octet ∷ octets) history false differs ∙ append-nil (fed_to other history));
      })

  -- ---- other events and calls

  event_taken : (history : List Event) (event : Event) → OfFeed history event → ((station : ℕ) → steps_in station event ≡ []) → ((station : ℕ) → octets_in station event ≡ [])
      → AreTaken history → AreTaken (history ++ event ∷ [])
  event_taken history event fact no_step no_octet are = record {
    each = each_event OfFeed history event are.each fact;
    held = λ station. ap (λ (f : Facts). f.octets) (facts_event given station history event (no_step station)) ∙ are.held station
        ∙ sym (flat_nothing (octets_in station) history event (no_octet station));
  }

  call_taken : (station : ℕ) (step : Step) (history : List Event) → IsInTurn step → OfStep history station step → AreTaken history → AreTaken (after_call given station step history)
  call_taken station step history in_turn fact are =
      let notes = notes_after (setup_at given station) (facts_at given station history) step in record {
        each = each_called OfFeed station step notes history are.each fact (λ before note. tt);
        held = λ other. by other (other == station) refl;
      }
    where
      by : (other : ℕ) (same : Bool) → (other == station) ≡ same → (facts_at given other (after_call given station step history)).octets ≡ fed_to other (after_call given station step history)
      by other true one =
          let equal = eqb-true other station one in
          let next = after_call given station step history in
          subst (λ n. (facts_at given n next).octets ≡ fed_to n next) (sym equal)
          (ap (λ (f : Facts). f.octets) (own_facts given station step history) ∙ turn_octets (setup_at given station) (facts_at given station history) step in_turn ∙ are.held station
          ∙ sym (fed_called station station step (notes_after (setup_at given station) (facts_at given station history) step) history))
      by other false differs =
          ap (λ (f : Facts). f.octets) (other_facts given station step history other differs) ∙ are.held other
          ∙ sym (fed_called other station step (notes_after (setup_at given station) (facts_at given station history) step) history)

  pass_taken : (station : ℕ) (history : List Event) (received : Option (List ℕ)) → AreTaken history → AreTaken (after_call given station (step_of received) history)
  pass_taken station history None are = call_taken station NothingHeard history tt tt are
  pass_taken station history (Some octets) are = call_taken station (PacketHeard octets) history tt tt are

  taken_kept : IsKept given (λ place history. AreTaken history)
  taken_kept = record {
    on_turn = λ slot plan history begun at are. event_taken history (TurnBegan slot (map plan.radio_of given.stations)) tt (λ station. refl) (λ station. refl) are;
    on_feed = λ plan done left station history split some now are. feed_taken station (take (plan.feed_of station) (octets_left given station history)) history are;
    on_fed = λ history are. are;
    on_begin = λ slot plan done left station history split due are. call_taken station (TurnBegins slot (plan.radio_of station)) history tt tt are;
    on_begun = λ history are. are;
    on_phase = λ phases history few are. are;
    on_silence = λ phases done left station history split none are. are;
    on_packet = λ phases plan done left station channel octets history split some due are.
        event_taken history (Transmitted station channel octets (hearings_of given plan.fates station channel octets history)) tt (λ one. refl) (λ one. refl) are;
    on_air = λ phases history are. are;
    on_hearing = λ phases done left station history split some are. pass_taken station history (packet_received station history) are;
    on_heard = λ phases history are. are;
    on_phases = λ history are. are;
    on_end = λ done left station history split some are. call_taken station TurnEnds history tt tt are;
    on_ended = λ history are. are;
  }

  first_taken : AreTaken []
  unfolding facts_of
  first_taken = record { each = tt; held = λ station. refl }

  pub run_feeds : Each OfFeed [] (history_of (run_of given))
  run_feeds =
      let P : Place → List Event → Type 0 = λ place history. AreTaken history in
      ends_with (run_of given) (IsWhole given P) (IsStopped given P) (Each OfFeed []) (run_kept given P taken_kept first_taken)
      (λ history whole. whole.is.each) (λ history stop stopped. stopped.kept.each)

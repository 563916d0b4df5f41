-- In a turn in which no packet was on the air no link of a run of two stations ends as the turn does.
use Rattle.std.proofs.Common.{◌≡◌, ℕ, ◌-◌, ◌==◌, Bool, true, false, Option, Some, None, List, [], ◌∷◌, ◌++◌, map, refl, sym, ap, subst, ◌∙◌}
use Rattle.std.specs.Prelude.{⊤, take, if◌then◌else◌}
use Rattle.std.proofs.lemmas.Bool.{eqb-true}
use Rattle.journal_events.specs.journal_sending.controller_model.Data.{facts_handed}
use Rattle.journal_events.specs.journal_sending.controller_model.Facts.{Facts}
use Rattle.journal_events.specs.journal_sending.controller_model.Links.{ends_for}
use Rattle.journal_events.specs.journal_sending.controller_model.Packets.{use_of}
use Rattle.journal_events.specs.journal_sending.controller_model.Side.{facts_after}
use Rattle.journal_events.specs.journal_sending.controller_model.Step.{Step, HostOctet, NothingHeard, PacketHeard, TurnBegins, TurnEnds}
use Rattle.journal_events.specs.journal_sending.journal_controls.journal_ends.Asked.{Words}
use Rattle.journal_events.specs.journal_sending.journal_data.open_links.Turns.{ending_in}
use Rattle.journal_events.specs.journal_sending.run_model.Due.{packet_in}
use Rattle.journal_events.specs.journal_sending.run_model.History.{Event, TurnBegan, Called, packet_received, past_of, turns_begun}
use Rattle.journal_events.specs.journal_sending.run_model.Journal.{journal_of, side_of}
use Rattle.journal_events.specs.journal_sending.run_model.Run.{Given, after_call, after_feed, facts_at, history_of, octets_left, run_of, setup_at, step_of, use_at}
use Rattle.journal_events.proofs.journal_sending.journal_acks.EachCall.{HaveCalls, OfCall, run_calls}
use Rattle.journal_events.proofs.journal_sending.journal_acks.Standing.{PhasedBy, last_phase, phased_at, silent_sends}
use Rattle.journal_events.proofs.journal_sending.journal_acks.TwoStations.{IsOfTwo}
use Rattle.journal_events.proofs.journal_sending.journal_hosts.QuietTurns.{AreQuiet, IsSilent, no_silence, packets_called, quiet_first, quiet_kept}
use Rattle.journal_events.proofs.journal_sending.journal_leaving.StayingLinks.{AreStaying, staying_first, staying_kept}
use Rattle.journal_events.proofs.journal_sending.journal_leaving.journal_ends.run_laws.Hearings.{other_facts, own_facts}
use Rattle.journal_events.proofs.journal_sending.journal_leaving.journal_ends.run_laws.TurnPlaces.{Between, Within, at_stage, standing, turned}
use Rattle.journal_events.proofs.journal_sending.journal_links.OfTwo.{are_distinct}
use Rattle.journal_events.proofs.journal_sending.run_model.Calls.{same_station}
use Rattle.journal_events.proofs.journal_sending.run_model.LinkEnds.{wanted_is}
use Rattle.journal_events.proofs.journal_sending.run_model.Places.{each_at}
use Rattle.journal_events.proofs.journal_sending.run_model.Stations.{among, in_more_other, in_more_same, is_in, not_before}
use Rattle.journal_events.proofs.journal_sending.run_model.Walk.{Place, NoTurn, AtPackets, AtListening, AtEnds, IsKept}
use Rattle.journal_wants.specs.Setups.{setups_of}
use Rattle.journal_wants.proofs.RunStations.{on_lines}
use Rattle.journal_wants.proofs.SilentLines.{silent_lines}
use Rattle.journal_wants.proofs.StillLinks.{LinksStay, OthersStay, begin_stays, none_ends, silence_stays}

-- between two turns no link is to end
between_stays : (given : Given) (station begun : ℕ) (history : List Event)
    → standing (past_of station history) ≡ Some (at_stage Between begun)
    → LinksStay (facts_at given station history)
between_stays given station begun history stands =
    let setup = setup_at given station in
    turned setup AreStaying (staying_kept setup) (past_of station history) (at_stage Between begun)
    (staying_first setup) stands

all_others : (facts : Facts) → LinksStay facts → OthersStay facts
all_others facts stay = λ handle link at silent. stay handle link at

-- ---- what holds at each place, while no packet was on the air in the turn

-- a station whose packet would be on the air by now wants to transmit none
abbrev IsHushed : Given → List Event → ℕ → Type 0
IsHushed given history station = IsSilent history → packet_in (use_at given station history) ≡ []

abbrev AreHushed : Given → Place → List Event → Type 0
AreHushed given (AtPackets phases done left) history =
    (station : ℕ) → is_in station done ≡ true → IsHushed given history station
AreHushed given (AtListening phases done left) history =
    (station : ℕ) → is_in station given.stations ≡ true → is_in station done ≡ false → IsHushed given history station
AreHushed given place history = ⊤

record AreStill (given : Given) (place : Place) (history : List Event) : Type 0 where
  quiet : AreQuiet given place history
  hushed : AreHushed given place history
  stay : (station : ℕ) → is_in station given.stations ≡ true → IsSilent history
      → OthersStay (facts_at given station history)

module _ (given : Given) (are_two : IsOfTwo given) where
  -- ---- one call of a round

  -- a call on one station, by what it makes of this one
  called_stay : (station : ℕ) (step : Step) (history : List Event)
      → (IsSilent history → OthersStay (facts_after (setup_at given station) (facts_at given station history) step))
      → (other : ℕ) (same : Bool) → (other == station) ≡ same
      → (IsSilent history → OthersStay (facts_at given other history))
      → IsSilent (after_call given station step history)
      → OthersStay (facts_at given other (after_call given station step history))
  called_stay station step history own other true is stay = λ silent.
      subst (λ n. OthersStay (facts_at given n (after_call given station step history)))
      (sym (eqb-true other station is))
      (subst OthersStay (sym (own_facts given station step history))
      (own (sym (packets_called given station step history) ∙ silent)))
  called_stay station step history own other false differs stay = λ silent.
      subst OthersStay (sym (other_facts given station step history other differs))
      (stay (sym (packets_called given station step history) ∙ silent))

  called_hushed : (station : ℕ) (step : Step) (history : List Event) (other : ℕ) → (other == station) ≡ false
      → IsHushed given history other → IsHushed given (after_call given station step history) other
  called_hushed station step history other differs hushed = λ silent.
      ap (λ (facts : Facts). packet_in (use_of facts)) (other_facts given station step history other differs)
      ∙ hushed (sym (packets_called given station step history) ∙ silent)

  silent_on : (done : List ℕ) (station : ℕ) (history : List Event) → packet_in (use_at given station history) ≡ []
      → ((one : ℕ) → is_in one done ≡ true → IsHushed given history one)
      → (other : ℕ) (same : Bool) → (other == station) ≡ same → is_in other (done ++ station ∷ []) ≡ true
      → IsHushed given history other
  silent_on done station history none hushed other true is within = λ silent.
      ap (λ n. packet_in (use_at given n history)) (eqb-true other station is) ∙ none
  silent_on done station history none hushed other false differs within =
      hushed other (sym (in_more_other other station done differs) ∙ within)

  -- of those that are left, none is the one that was called
  left_differs : (done : List ℕ) (station other : ℕ) (same : Bool) → (other == station) ≡ same
      → is_in other (done ++ station ∷ []) ≡ false
      → ((other == station) ≡ false) × (is_in other done ≡ false)
  left_differs done station other true is out =
      absurd (let h : true ≡ false = sym (in_more_same other station done is) ∙ out in absurd cc)
  left_differs done station other false is out = (is, sym (in_more_other other station done is) ∙ out)

  still_kept : IsKept given (AreStill given)
  still_kept =
      let distinct = are_distinct given are_two in
      let quiets = quiet_kept given are_two distinct in record {
        on_turn = λ slot plan history begun at has.
            let after = history ++ TurnBegan slot (map plan.radio_of given.stations) ∷ [] in
            let quiet = quiets.on_turn slot plan history begun at has.quiet in record {
              quiet = quiet;
              hushed = tt;
              stay = λ station in_it silent.
                  all_others (facts_at given station after)
                  (between_stays given station (turns_begun after - 1) after (quiet.stand station in_it));
            };
        on_feed = λ plan done left station history are some now has.
            let after =
            after_feed given station (take (plan.feed_of station) (octets_left given station history)) history in
            let quiet = quiets.on_feed plan done left station history are some now has.quiet in record {
              quiet = quiet;
              hushed = tt;
              stay = λ other in_it silent.
                  all_others (facts_at given other after)
                  (between_stays given other (turns_begun after - 1) after (quiet.stand other in_it));
            };
        on_fed = λ history has. record { quiet = quiets.on_fed history has.quiet; hushed = tt; stay = has.stay };
        on_begin = λ slot plan done left station history are due has.
            let on = plan.radio_of station in
            let turns = turns_begun history in
            let before = between_stays given station (turns - 1) history
            (has.quiet.stand station (among given.stations done left station are)
            ∙ ap (λ b. Some (if b then at_stage (Within 0) turns else at_stage Between (turns - 1)))
            (not_before given.stations done left station distinct are)) in record {
              quiet = quiets.on_begin slot plan done left station history are due has.quiet;
              hushed = tt;
              stay = λ other in_it.
                  called_stay station (TurnBegins slot on) history
                  (λ silent. begin_stays (setup_at given station) (facts_at given station history) slot on before)
                  other (other == station) refl (has.stay other in_it);
            };
        on_begun = λ history has. record { quiet = quiets.on_begun history has.quiet; hushed = tt; stay = has.stay };
        on_phase = λ phases history few has. record {
          quiet = quiets.on_phase phases history few has.quiet;
          hushed = λ station within. absurd cc;
          stay = has.stay;
        };
        on_silence = λ phases done left station history are none has. record {
          quiet = quiets.on_silence phases done left station history are none has.quiet;
          hushed = λ other within. silent_on done station history none has.hushed other (other == station) refl within;
          stay = has.stay;
        };
        on_packet = λ phases plan done left station channel octets history are some due has.
            let in_it = among given.stations done left station are in record {
              quiet = quiets.on_packet phases plan done left station channel octets history are some due has.quiet;
              hushed = λ other within silent.
                  no_silence given are_two plan.fates station channel octets history in_it _ silent;
              stay = λ other in_too silent.
                  no_silence given are_two plan.fates station channel octets history in_it _ silent;
            };
        on_air = λ phases history has. record {
          quiet = quiets.on_air phases history has.quiet;
          hushed = λ station in_it out. has.hushed station in_it;
          stay = has.stay;
        };
        on_hearing = λ phases done left station history are some has.
            let received = packet_received station history in
            let step = step_of received in
            let in_it = among given.stations done left station are in
            let facts = facts_at given station history in
            let setup = setup_at given station in
            let phased =
            phased_at given (AtListening phases done (station ∷ left)) history has.quiet.stand station in_it in
            let wanted = ap packet_in (wanted_is given station history) in
            let out = not_before given.stations done left station distinct are in record {
              quiet = quiets.on_hearing phases done left station history are some has.quiet;
              hushed = λ other in_too within.
                  let both = left_differs done station other (other == station) refl within in
                  called_hushed station step history other both.0 (has.hushed other in_too both.1);
              stay = λ other in_too.
                  called_stay station step history
                  (λ silent. subst (λ may. OthersStay (facts_after setup facts (step_of may)))
                  (sym ((has.quiet.each station in_it).unheard silent))
                  (silence_stays setup facts
                  (λ handle link at. silent_sends facts handle link phased.uses.sends at
                  (wanted ∙ has.hushed station in_it out silent))
                  (has.stay station in_it silent)))
                  other (other == station) refl (has.stay other in_too);
            };
        on_heard = λ phases history has. record {
          quiet = quiets.on_heard phases history has.quiet;
          hushed = tt;
          stay = has.stay;
        };
        on_phases = λ history has. record { quiet = quiets.on_phases history has.quiet; hushed = tt; stay = has.stay };
        on_end = λ done left station history are some has.
            let quiet = quiets.on_end done left station history are some has.quiet in
            let in_it = among given.stations done left station are in
            let after = after_call given station TurnEnds history in
            let turns = turns_begun after in
            let stands = quiet.stand station in_it
            ∙ ap (λ b. Some (if b then at_stage Between turns else at_stage (Within 3) turns))
            (in_more_same station station done (same_station station)) in
            let ended = facts_after (setup_at given station) (facts_at given station history) TurnEnds in
            let own : LinksStay ended = subst LinksStay (own_facts given station TurnEnds history)
            (between_stays given station turns after stands) in record {
              quiet = quiet;
              hushed = tt;
              stay = λ other in_too.
                  called_stay station TurnEnds history (λ silent. all_others ended own)
                  other (other == station) refl (has.stay other in_too);
            };
        on_ended = λ history has. record { quiet = quiets.on_ended history has.quiet; hushed = tt; stay = has.stay };
      }

  -- ---- as a turn ends

  abbrev StayAtEnd : List Event → ℕ → Step → Type 0
  StayAtEnd history station TurnEnds = IsSilent history → LinksStay (facts_at given station history)
  StayAtEnd history station (HostOctet octet) = ⊤
  StayAtEnd history station (TurnBegins slot on) = ⊤
  StayAtEnd history station (PacketHeard octets) = ⊤
  StayAtEnd history station NothingHeard = ⊤

  any_hearing : (history : List Event) (station : ℕ) (received : Option (List ℕ))
      → StayAtEnd history station (step_of received)
  any_hearing history station None = tt
  any_hearing history station (Some octets) = tt

  calls_stay : HaveCalls given StayAtEnd (AreStill given)
  calls_stay = record {
    feeds = λ station octet history. tt;
    begins = λ plan slot done left station history are before after. tt;
    passes = λ phases done left station history are before after.
        any_hearing history station (packet_received station history);
    ends = λ done left station history are has.
        let in_it = among given.stations done left station are in
        let out = not_before given.stations done left station (are_distinct given are_two) are in
        let facts = facts_at given station history in
        let turns = turns_begun history in
        let phased =
        subst (λ b. PhasedBy given history station (if b then at_stage Between turns else at_stage (Within 3) turns))
        out
        (phased_at given (AtEnds done (station ∷ left)) history has.quiet.stand station in_it) in
        λ silent handle link at.
        has.stay station in_it silent handle link at (last_phase facts.links facts.turn.doing handle phased.phase);
  }

  still_first : AreStill given NoTurn []
  still_first = record {
    quiet = quiet_first given;
    hushed = tt;
    stay = λ station in_it silent.
        all_others (facts_at given station [])
        (between_stays given station (turns_begun []) [] ((quiet_first given).stand station in_it));
  }

  pub none_ends_silent : (station : ℕ) (history rest : List Event)
      → history_of (run_of given) ≡ history ++ Called station TurnEnds ∷ rest
      → IsSilent history → ends_for ending_in (facts_handed (facts_at given station history)) ≡ []
  none_ends_silent station history rest at silent =
      none_ends (facts_at given station history)
      (each_at (OfCall given StayAtEnd) (history_of (run_of given)) history rest (Called station TurnEnds)
      (run_calls given StayAtEnd (AreStill given) still_kept calls_stay still_first) at silent)

-- so it is where nothing is decided by the lines as the turn ends
pub ends_told : (words : Words) (given : Given) → IsOfTwo given → (station : ℕ) (history rest : List Event)
    → history_of (run_of given) ≡ history ++ Called station TurnEnds ∷ rest
    → (on_lines words given station history).doing ≡ None
    → ends_for ending_in (facts_handed (facts_at given station history)) ≡ []
ends_told words given are_two station history rest at none =
    none_ends_silent given are_two station history rest at
    (silent_lines words (setups_of given) (side_of station) (journal_of history) none)

-- What is known of the lines before each event of a run of two stations, from what the lines of each side say of its
-- radio.
use Rattle.std.proofs.Common.{◌≡◌, ℕ, ◌==◌, true, false, None, List, [], ◌∷◌, ◌++◌, refl, sym, ap, subst, ◌∙◌}
use Rattle.ble_base.specs.declared.verdicts.Verdict.TheVariants.{Forged}
use Rattle.adv_pdu.specs.declared.pdu.AdvPdu.{AdvPdu}
use Rattle.journal.specs.declared.entries.Entry.TheVariants.{Air}
use Rattle.radio_replay.specs.Damage.{damaged_packet}
use Rattle.radio_replay.specs.declared.fates.Fate.{Fate}
use Rattle.journal_wants.specs.controller_model.declared.doing.Doing.TheVariants.{Initiates, Rests}
use Rattle.journal_wants.specs.controller_model.Facts.{Facts}
use Rattle.journal_wants.specs.controller_model.Heard.{heard, initiator_heard}
use Rattle.journal_wants.specs.controller_model.Packets.{verdict_doing, verdict_of}
use Rattle.journal_wants.specs.controller_model.Step.{Step}
use Rattle.journal_wants.specs.journal_controls.journal_ends.Asked.{Words}
use Rattle.journal_wants.specs.run_model.Due.{IsDue, IsPacketDue}
use Rattle.journal_wants.specs.run_model.History.{Called, Event, Hearing, HostFed, Noted, Transmitted, TurnBegan, fates_used, is_good, is_handed}
use Rattle.journal_wants.specs.run_model.Journal.{journal_of, mark_of, side_of}
use Rattle.journal_wants.specs.run_model.LinkEnds.{HaveAddresses}
use Rattle.journal_wants.specs.run_model.Run.{Given, Stop, Stops, facts_at, fate_at, history_of, run_of, setup_at, use_at}
use Rattle.journal_wants.specs.Setups.{setups_of}
use Rattle.journal_wants.specs.Station.{doing_or, station_deciding}
use Rattle.journal_anchors.proofs.RunPlaces.{IsToSend, place_of_packet, place_of_stop}
use Rattle.journal_wants.proofs.KeptStations.{AllDecided}
use Rattle.journal_wants.proofs.RunDecided.{decided_at_end, decided_at_stop, decided_before_packet, decided_before_turn}
use Rattle.journal_wants.proofs.RunStations.{AreTold}
use Rattle.journal_wants.proofs.journal_acks.TwoStations.{IsOfTwo, good_handed, hearing_of, one_hearing, other_is, other_of, reached}
use Rattle.journal_wants.proofs.journal_acks.run_laws.DistinctAccess.{AreApart}
use Rattle.journal_wants.proofs.journal_data.FewLinks.{HaveFewLinks}
use Rattle.journal_wants.proofs.journal_leaving.link_model.Hearing.{IsHeardWhole}
use Rattle.journal_wants.proofs.journal_packets.AccessOrder.{AreNth}
use Rattle.journal_wants.proofs.run_model.Dues.{run_due}
use Rattle.journal_wants.proofs.run_model.LinkEnds.{AreTaken, IsUnderstood}
use Rattle.journal_wants.proofs.run_model.Places.{each_at}
use Rattle.journal_wants.proofs.run_model.Stations.{among, is_in}
use Rattle.journal_wants.proofs.run_model.Walk.{AtPackets}
use Rattle.journal_moves.specs.Doing.{initiator_hears}
use Rattle.journal_moves.specs.Moves.{phase_sending}
use Rattle.journal_moves.proofs.DoingPhases.{doing_at, is_silent}
use Rattle.journal_moves.proofs.ForgedRests.{forged_is, forged_rests}
use Rattle.journal_moves.proofs.HearsAs.{hears_as}
use Rattle.journal_moves.proofs.NextPhases.{handed_silent}
use Rattle.journal_moves.proofs.RunMoves.{AreSaid}
use Rattle.journal_moves.proofs.SaidDoings.{IsFirstKnown, IsKnown, IsKnownAir, IsKnownCall}

pub first_of : (words : Words) (given : Given) (history : List Event) → AllDecided words given history
    → IsFirstKnown words (setups_of given) given history
first_of words given history are = λ station in_it. ap doing_or (are station in_it).doing

-- ---- a packet that reaches the other station

module _ (given : Given) (are_two : IsOfTwo given) (fates : List Fate) (sender channel : ℕ) (octets : List ℕ)
    (history : List Event) (in_it : is_in sender given.stations ≡ true)
    (station : ℕ) (in_station : is_in station given.stations ≡ true) (differs : (station == sender) ≡ false) where
  abbrev hearing : Hearing
  hearing = hearing_of given fates sender channel octets history

  abbrev facts : Facts
  facts = facts_at given station history

  abbrev heard_octets : List ℕ
  heard_octets = damaged_packet hearing.fate octets

  judged_as : is_handed hearing.verdict ≡ true → hearing.verdict ≡ verdict_of facts heard_octets
  judged_as handed =
      let is = reached (use_at given (other_of sender) history) (fate_at fates (fates_used history)) channel
      (facts_at given (other_of sender) history) heard_octets handed in
      is.verdict_is ∙ ap (λ n. verdict_of (facts_at given n history) heard_octets)
      (sym (other_is given are_two sender station in_it in_station differs))

  pub quiet : is_handed hearing.verdict ≡ true → phase_sending facts.turn.doing ≡ None
  unfolding verdict_of
  quiet handed = handed_silent facts.links facts.turn.doing heard_octets
      (ap is_handed (sym (judged_as handed)) ∙ handed)

  pub forged_as : is_good hearing.verdict ≡ false → is_handed hearing.verdict ≡ true
      → verdict_doing facts.links facts.turn.doing heard_octets ≡ Forged
  unfolding verdict_of
  forged_as bad handed = sym (judged_as handed) ∙ forged_is hearing.verdict bad handed

-- ---- in a run

module _ (words : Words) (given : Given) (are_two : IsOfTwo given) where
  -- an initiator that judges a packet good connects by the lines where its controller does
  abbrev pub AreConnecting : Type 0
  AreConnecting = (before rest : List Event) (sender channel : ℕ) (octets : List ℕ) (hearing : Hearing)
      (others : List Hearing)
      → history_of (run_of given) ≡ before ++ Transmitted sender channel octets (hearing ∷ others) ∷ rest
      → (station : ℕ) → is_in station given.stations ≡ true → (station == sender) ≡ false
      → is_good hearing.verdict ≡ true
      → (own : ℕ) → (facts_at given station before).turn.doing ≡ Initiates own → (pdu : AdvPdu)
      → let side = side_of station in let said = station_deciding words (setups_of given) side (journal_of before) in
      let facts = facts_at given station before in
      initiator_hears words (setups_of given) side
      (journal_of before ++ Air (side_of sender) channel octets
      (mark_of hearing.fate) hearing.verdict ∷ []) said said.initiator own pdu
      ≡ (initiator_heard facts.initiator (setup_at given station) own pdu facts).next

  known_air : (before rest : List Event) (sender channel : ℕ) (octets : List ℕ) (hearing : Hearing)
      (others : List Hearing)
      → history_of (run_of given) ≡ before ++ Transmitted sender channel octets (hearing ∷ others) ∷ rest
      → AllDecided words given before → AreConnecting → IsToSend given before sender channel octets
      → IsKnownAir words (setups_of given) given before sender channel octets hearing
  known_air before rest sender channel octets hearing others at are connecting place =
      let event = Transmitted sender channel octets (hearing ∷ others) in
      let due : IsPacketDue given before sender channel octets (hearing ∷ others) =
      each_at (IsDue given) (history_of (run_of given)) before rest event (run_due given).each at in
      let in_it = among given.stations place.done place.left sender place.stations_are in
      let hearings : hearing ∷ others ≡ hearing_of given due.plan.fates sender channel octets before ∷ [] =
      due.hearings_are ∙ one_hearing given are_two due.plan.fates sender channel octets before in_it in
      let is : hearing ≡ hearing_of given due.plan.fates sender channel octets before = cc in
      let verdict = ap (λ (one : Hearing). one.verdict) is in record {
        first = first_of words given before are;
        hears = λ station in_station differs good.
            let facts = facts_at given station before in
            let does = doing_at given
            (AtPackets place.phases place.done
            (sender ∷ place.left)) before station place.lines.counted.holds.hearing.stand in_station in
            hears_as words (setups_of given) (side_of station) (journal_of before)
            (Air (side_of sender) channel octets (mark_of hearing.fate) hearing.verdict)
            (station_deciding words (setups_of given) (side_of station) (journal_of before))
            (setup_at given station) facts octets (are station in_station).set
            (connecting before rest sender channel octets hearing others at station in_station differs good)
            facts.turn.doing refl
            (quiet given are_two due.plan.fates sender channel octets before in_it station in_station differs
            (ap is_handed (sym verdict) ∙ good_handed hearing.verdict good))
            (is_silent place.phases (setup_at given station) octets facts facts.turn.doing does.phased.phase);
        forged = λ station in_station differs bad handed.
            let facts = facts_at given station before in
            subst (λ (one : Hearing).
            (heard (setup_at given station) facts.turn.doing (damaged_packet one.fate octets) facts).next ≡ Rests)
            (sym is)
            (forged_rests (setup_at given station) facts
            (damaged_packet (hearing_of given due.plan.fates sender channel octets before).fate octets)
            facts.turn.doing
            (forged_as given are_two due.plan.fates sender channel octets before in_it station in_station differs
            (ap is_good (sym verdict) ∙ bad) (ap is_handed (sym verdict) ∙ handed)));
      }

-- ---- so it is before each event, where the lines of each side tell its links, and the calls do as their lines say

module _ (words : Words) (whole : IsHeardWhole) (understood : IsUnderstood) (taken : AreTaken) (nth : AreNth)
    (apart : AreApart) (given : Given) (are_two : IsOfTwo given)
    (few_links : HaveFewLinks given) (six : HaveAddresses given)
    (eight : (station : ℕ) → (setup_at given station).host_buffers ≡ 8)
    (told : AreTold words given) (connecting : AreConnecting words given are_two)
    (calls : (before rest : List Event) (station : ℕ) (step : Step)
    → history_of (run_of given) ≡ before ++ Called station step ∷ rest
    → IsKnownCall words (setups_of given) given before station step) where
  decided_at_packet : (before rest : List Event) (sender channel : ℕ) (octets : List ℕ) (hearings : List Hearing)
      → history_of (run_of given) ≡ before ++ Transmitted sender channel octets hearings ∷ rest
      → AllDecided words given before
  decided_at_packet = decided_before_packet words whole understood taken nth apart given are_two few_links six eight
      told

  stop_decided : (history : List Event) (stop : Stop) → run_of given ≡ Stops history stop
      → AllDecided words given history
  stop_decided = decided_at_stop words whole understood taken nth apart given are_two few_links six eight told

  known_before : (before rest : List Event) (event : Event) → history_of (run_of given) ≡ before ++ event ∷ rest
      → IsKnown words (setups_of given) given before event
  known_before before rest (Transmitted sender channel octets []) at = tt
  known_before before rest (Transmitted sender channel octets (hearing ∷ others)) at =
      known_air words given are_two before rest sender channel octets hearing others at
      (decided_at_packet before rest sender channel octets (hearing ∷ others) at) connecting
      (place_of_packet whole understood taken nth apart given are_two few_links six eight before rest sender channel
      octets (hearing ∷ others) at)
  known_before before rest (Called station step) at = calls before rest station step at
  known_before before rest (TurnBegan slot radios) at =
      first_of words given before
      (decided_before_turn words whole understood taken nth apart given are_two few_links six eight told before rest
      slot radios at)
  known_before before rest (HostFed station octets) at = tt
  known_before before rest (Noted station note) at = tt

  pub are_said : AreSaid words (setups_of given) given
  are_said = record {
    known = known_before;
    set = λ before rest station channel octets hearings at.
        let place = place_of_packet whole understood taken nth apart given are_two few_links six eight before rest
        station channel octets hearings at in
        (decided_at_packet before rest station channel octets hearings at station
        (among given.stations place.done place.left station place.stations_are)).set;
    first_at_stop = λ history stop stops. first_of words given history (stop_decided history stop stops);
    set_at_stop = λ history stop stops.
        let place = place_of_stop whole understood taken nth apart given are_two few_links six eight history stop
        stops in
        (stop_decided history stop stops stop.sender
        (among given.stations place.done place.left stop.sender place.stations_are)).set;
    first_at_end = λ history goes.
        first_of words given history
        (decided_at_end words whole understood taken nth apart given are_two few_links six eight told history goes);
  }

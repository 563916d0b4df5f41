-- Each step of a run of two stations keeps that the lines of each side say what its controller does next.
use Rattle.std.proofs.Common.{◌≡◌, inl, inr, ℕ, suc, ◌==◌, ◌&&◌, Bool, true, false, Option, Some, None, List, [], ◌∷◌, ◌++◌, refl, sym, ap, subst, ◌∙◌, if◌then◌else◌}
use Rattle.std.specs.Prelude.{is_some}
use Rattle.std.proofs.lemmas.Bool.{eqb-true}
use Rattle.ble_base.specs.declared.notes.Note.{Note}
use Rattle.journal.specs.declared.entries.Entry.{Entry}
use Rattle.journal.specs.declared.entries.Entry.TheVariants.{Air}
use Rattle.radio_replay.specs.Damage.{damaged_packet}
use Rattle.radio_replay.specs.declared.fates.Fate.{Fate}
use Rattle.journal_wants.specs.controller_model.declared.doing.Doing.{Doing}
use Rattle.journal_wants.specs.controller_model.declared.doing.Doing.TheVariants.{PeripheralListens, Rests}
use Rattle.journal_wants.specs.controller_model.Facts.{Facts, Sends, Setup}
use Rattle.journal_wants.specs.controller_model.Heard.{heard, unheard}
use Rattle.journal_wants.specs.controller_model.Packets.{use_for, use_of, verdict_doing, verdict_of}
use Rattle.journal_wants.specs.controller_model.Side.{facts_after, notes_after}
use Rattle.journal_wants.specs.controller_model.Step.{Step}
use Rattle.journal_wants.specs.journal_controls.journal_ends.Asked.{Words}
use Rattle.journal_wants.specs.journal_packets.Belonging.{is_side}
use Rattle.journal_wants.specs.journal_sending.journal_fixing.OnLines.{kept_or}
use Rattle.journal_wants.specs.run_model.Due.{packet_in}
use Rattle.journal_wants.specs.run_model.Feeding.{AreDistinct}
use Rattle.journal_wants.specs.run_model.History.{Event, Hearing, Transmitted, handed_or, is_good, is_handed, packet_received, turns_begun}
use Rattle.journal_wants.specs.run_model.Journal.{air_entries, journal_of, mark_of, side_of}
use Rattle.journal_wants.specs.run_model.Run.{Given, after_call, facts_at, fate_at, hearings_of, setup_at, step_of, unseen_in, use_at}
use Rattle.journal_wants.specs.run_model.History.{fates_used}
use Rattle.journal_wants.specs.Station.{Setups, station_deciding}
use Rattle.journal_wants.proofs.RunStations.{doing_begun}
use Rattle.journal_wants.proofs.journal_acks.Counting.{facts_event}
use Rattle.journal_wants.proofs.journal_acks.TwoStations.{IsOfTwo, good_handed, hearing_of, judged, one_hearing, other_apart, other_is, other_of, reached, same_number, side_same, unchanged}
use Rattle.journal_wants.proofs.journal_acks.run_laws.Hearings.{AreHearing, own_facts, sends_deaf}
use Rattle.journal_wants.proofs.journal_acks.run_laws.InAgreement.{differs_back}
use Rattle.journal_wants.proofs.journal_acks.run_laws.TurnPlaces.{Within, at_stage, event_past}
use Rattle.journal_wants.proofs.run_model.Calls.{same_station}
use Rattle.journal_wants.proofs.run_model.LinkEnds.{received_event, received_own}
use Rattle.journal_wants.proofs.run_model.Parts.{journal_event}
use Rattle.journal_wants.proofs.run_model.Stations.{among, in_more_other, in_more_same, is_in, not_before}
use Rattle.journal_wants.proofs.run_model.Walk.{AtListening, AtPackets}
use Rattle.journal_moves.specs.Doing.{after_hearing, after_packet, after_sending}
use Rattle.journal_moves.specs.Moves.{phase_sending}
use Rattle.journal_moves.proofs.DoingPhases.{IsDoing, doing_at, is_silent}
use Rattle.journal_moves.proofs.NextDoing.{sent_next}
use Rattle.journal_moves.proofs.NextPhases.{Matches, awaits_central, handed_silent, heard_quiet, rests_next, said_silent, sent_still, silent_still, unheard_next_rests}
use Rattle.journal_moves.proofs.Ready.{sends_some, silent_rests}
use Rattle.journal_moves.proofs.SaidDoings.{AllSay, HasForged, HasHeard, HasPassedIf, HasSent, InPhase, IsInPhase, IsKnownAir, IsKnownCall, IsMatching, SaysAt, Waits, awaiting, far_matches, far_phase, leads, leads_heard, passes_begin, said_or, sender_said}
use Rattle.journal_moves.proofs.SaidLines.{begun_at, begun_called, call_said, is_answering, line_said, said_at}

-- ---- a packet

module _ (words : Words) (setups : Setups) (given : Given) (are_two : IsOfTwo given)
    (distinct : AreDistinct given.stations) (phases : ℕ) (fates : List Fate) (done left : List ℕ)
    (station channel : ℕ) (octets : List ℕ) (history : List Event) (are : given.stations ≡ done ++ station ∷ left)
    (wanted : use_at given station history ≡ Sends channel octets)
    (unseen : unseen_in octets (hearings_of given fates station channel octets history) ≡ None)
    (hearing_too : AreHearing given (AtPackets phases done (station ∷ left)) history)
    (known : IsKnownAir words setups given history station channel octets
    (hearing_of given fates station channel octets history))
    (says : AllSay words setups given (AtPackets phases done (station ∷ left)) history) where
  abbrev hearing : Hearing
  hearing = hearing_of given fates station channel octets history

  abbrev event : Event
  event = Transmitted station channel octets (hearings_of given fates station channel octets history)

  abbrev aired : List Event
  aired = history ++ event ∷ []

  abbrev line : Entry
  line = Air (side_of station) channel octets (mark_of hearing.fate) hearing.verdict

  in_it : is_in station given.stations ≡ true
  in_it = among given.stations done left station are

  not_yet : is_in station done ≡ false
  not_yet = not_before given.stations done left station distinct are

  one : hearings_of given fates station channel octets history ≡ hearing ∷ []
  one = one_hearing given are_two fates station channel octets history in_it

  lines_are : air_entries (side_of station) channel octets (hearings_of given fates station channel octets history)
      ≡ line ∷ []
  lines_are = ap (air_entries (side_of station) channel octets) one

  journal_is : journal_of aired ≡ journal_of history ++ line ∷ []
  journal_is = journal_event history event ∙ ap (λ xs. journal_of history ++ xs) lines_are

  abbrev held : ℕ → Facts
  held other = facts_at given other history

  abbrev said_now : ℕ → Option Doing
  said_now other = said_at words setups other history

  -- what the line says of a side, as its own packet is on the air or not, and is good or not
  abbrev said_by : ℕ → Bool → Bool → Doing → Doing
  said_by other own good first =
      after_packet own good
      (after_hearing words setups (side_of other) (journal_of history) line
      (station_deciding words setups (side_of other) (journal_of history)) octets)
      (kept_or (said_now other) first)

  said_then : (other : ℕ) (own good : Bool) → is_in other given.stations ≡ true
      → is_side (side_of station) (side_of other) ≡ own → is_good hearing.verdict ≡ good
      → said_at words setups other aired ≡ Some (said_by other own good (begun_at given other history))
  said_then other own good in_other own_is good_is =
      line_said words setups other history event line lines_are
      ∙ (λ i. Some (said_by other (own_is i) (good_is i) (known.first other in_other i)))

  pack : (other : ℕ) (own far : Bool) (received : Option (List ℕ)) (said_next : Option Doing)
      → packet_received other aired ≡ received
      → said_at words setups other aired ≡ said_next
      → InPhase words (side_of other) (journal_of history ++ line ∷ []) phases own far (setup_at given other)
      (held other) received said_next (begun_at given other history)
      → IsInPhase words setups given phases own far other aired
  pack other own far received said_next got said_is is =
      let side = side_of other in
      let setup = setup_at given other in
      subst (λ front. InPhase words side front phases own far setup (facts_at given other aired)
      (packet_received other aired) (said_at words setups other aired) (begun_at given other aired))
      (sym journal_is)
      (subst (λ facts. InPhase words side (journal_of history ++ line ∷ []) phases own far setup facts
      (packet_received other aired) (said_at words setups other aired) (begun_at given other aired))
      (sym (facts_event given other history event refl))
      (subst (λ r. InPhase words side (journal_of history ++ line ∷ []) phases own far setup (held other) r
      (said_at words setups other aired) (begun_at given other aired)) (sym got)
      (subst (λ s. InPhase words side (journal_of history ++ line ∷ []) phases own far setup (held other) received s
      (begun_at given other aired)) (sym said_is)
      (subst (λ b. InPhase words side (journal_of history ++ line ∷ []) phases own far setup
      (held other) received said_next b)
      (sym (ap (doing_begun (setup_at given other)) (event_past other history event refl))) is))))

  -- ---- its sender

  abbrev own_doing : Doing
  own_doing = (held station).turn.doing

  own_here : IsDoing (setup_at given station) (Within phases) (turns_begun history) (held station)
  own_here = doing_at given (AtPackets phases done (station ∷ left)) history station hearing_too.stand in_it

  used : use_for own_here.wants.base own_doing ≡ Sends channel octets
  unfolding use_of
  used = sym own_here.wants.wanted ∙ wanted

  sends : is_some (phase_sending own_doing) ≡ true
  sends = sends_some own_doing own_here.wants.base channel octets used

  deaf : packet_received station history ≡ None
  deaf = sends_deaf given [] history station channel octets (hearing_too.hears station in_it) wanted
      (packet_received station history) refl

  sender_then : IsInPhase words setups given phases (is_in station (done ++ station ∷ []))
      (is_in (other_of station) (done ++ station ∷ [])) station aired
  sender_then =
      pack station (is_in station (done ++ station ∷ [])) (is_in (other_of station) (done ++ station ∷ [])) None
      (Some (after_sending own_doing))
      (received_own given fates station channel octets history ∙ deaf)
      (said_then station true (is_good hearing.verdict) in_it (side_same station) refl
      ∙ ap (λ doing. Some (after_sending doing))
      (sender_said (is_in station done) (is_in (other_of station) done) not_yet deaf sends (says station in_it)))
      (HasSent refl (in_more_same station station done (same_station station)) sends refl)

  -- ---- the other station

  module _ (other : ℕ) (in_other : is_in other given.stations ≡ true) (differs : (other == station) ≡ false) where
    abbrev doing : Doing
    doing = (held other).turn.doing

    abbrev heard_octets : List ℕ
    heard_octets = damaged_packet hearing.fate octets

    other_here : other ≡ other_of station
    other_here = other_is given are_two station other in_it in_other differs

    station_here : station ≡ other_of other
    station_here = other_is given are_two other station in_other in_it (differs_back other station differs)

    own_same : is_in other (done ++ station ∷ []) ≡ is_in other done
    own_same = in_more_other other station done differs

    far_then : is_in (other_of other) (done ++ station ∷ []) ≡ true
    far_then = subst (λ n. is_in n (done ++ station ∷ []) ≡ true) station_here
        (in_more_same station station done (same_station station))

    far_before : is_in (other_of other) done ≡ false
    far_before = subst (λ n. is_in n done ≡ false) station_here not_yet

    apart : is_side (side_of station) (side_of other) ≡ false
    apart = other_apart given are_two other station in_other in_it (differs_back other station differs)

    listens : (other == other_of station) ≡ true
    listens = ap (λ n. n == other_of station) other_here ∙ same_number (other_of station)

    received_then : (handed : Bool) → is_handed hearing.verdict ≡ handed
        → packet_received other aired ≡ (if handed then Some heard_octets else packet_received other history)
    received_then handed is =
        received_event other history event ∙ ap (handed_or (packet_received other history) other octets) one
        ∙ (λ i. if listens i && is i then Some heard_octets else packet_received other history)

    judged_by : is_handed hearing.verdict ≡ true → is_handed (verdict_of (held other) heard_octets) ≡ true
    judged_by handed =
        let is = reached (use_at given (other_of station) history) (fate_at fates (fates_used history)) channel
        (held (other_of station)) heard_octets handed in
        subst (λ n. is_handed (verdict_of (held n) heard_octets) ≡ true) (sym other_here)
        (ap is_handed (sym is.verdict_is) ∙ handed)

    good_by : is_good hearing.verdict ≡ true → is_good (verdict_of (held other) octets) ≡ true
    good_by good =
        let is = judged (use_at given (other_of station) history) (fate_at fates (fates_used history)) channel
        (held (other_of station)) heard_octets good in
        let same = unchanged octets hearing (ap (unseen_in octets) (sym one) ∙ unseen) good in
        subst (λ n. is_good (verdict_of (held n) octets) ≡ true) (sym other_here)
        (ap (λ xs. is_good (verdict_of (held (other_of station)) xs)) (sym same) ∙ is.good)

    silent : is_handed hearing.verdict ≡ true → phase_sending doing ≡ None
    unfolding verdict_of
    silent handed = handed_silent (held other).links doing heard_octets (judged_by handed)

    good_rests : (X : Type 0) → is_good hearing.verdict ≡ true → doing ≡ Rests → X
    unfolding verdict_of
    good_rests X good rests = absurd (
        let h : true ≡ false =
        sym (good_by good) ∙ ap (λ one. is_good (verdict_doing (held other).links one octets)) rests in
        absurd cc
        )

    sends_silent : (X : Type 0) → is_handed hearing.verdict ≡ true → is_some (phase_sending doing) ≡ true → X
    sends_silent X handed does =
        absurd (let h : true ≡ false = sym does ∙ ap (λ (p : Option ℕ). is_some p) (silent handed) in absurd cc)

    not_far : (X : Type 0) → is_in (other_of other) done ≡ true → X
    not_far X far = absurd (let h : true ≡ false = sym far ∙ far_before in absurd cc)

    abbrev Then : Type 0
    Then = IsInPhase words setups given phases (is_in other (done ++ station ∷ []))
        (is_in (other_of other) (done ++ station ∷ [])) other aired

    abbrev Before : Type 0
    Before = IsInPhase words setups given phases (is_in other done) (is_in (other_of other) done) other history

    good_then : is_good hearing.verdict ≡ true → Before → Then
    good_then good (Waits none quiet (inl same)) =
        pack other (is_in other (done ++ station ∷ [])) (is_in (other_of other) (done ++ station ∷ [])) (Some octets)
        (Some (leads words (side_of other) (journal_of history ++ line ∷ []) (setup_at given other)
        (held other) octets doing))
        (received_then true (good_handed hearing.verdict good)
        ∙ ap Some (unchanged octets hearing (ap (unseen_in octets) (sym one) ∙ unseen) good))
        (said_then other false true in_other apart good
        ∙ ap (λ now. Some (after_hearing words setups (side_of other) (journal_of history) line
        (station_deciding words setups (side_of other) (journal_of history)) octets now)) same
        ∙ ap Some (known.hears other in_other differs good))
        (HasHeard octets refl far_then (good_by good) refl)
    good_then good (Waits none quiet (inr stale)) = good_rests _ good stale.rests
    good_then good (HasSent none sent does said) = sends_silent _ (good_handed hearing.verdict good) does
    good_then good (HasHeard got_octets got far is_good_too said) = not_far _ far
    good_then good (HasForged got_octets got far is_silent_too rests matches) = not_far _ far

    forged_then : is_good hearing.verdict ≡ false → is_handed hearing.verdict ≡ true → Before → Then
    forged_then bad handed (Waits none quiet matches) =
        pack other (is_in other (done ++ station ∷ [])) (is_in (other_of other) (done ++ station ∷ []))
        (Some heard_octets) (Some (said_or words setups given other history))
        (received_then true handed) (said_then other false false in_other apart bad)
        (HasForged heard_octets refl far_then (silent handed)
        (known.forged other in_other differs bad handed) matches)
    forged_then bad handed (HasSent none sent does said) = sends_silent _ handed does
    forged_then bad handed (HasHeard got_octets got far is_good_too said) = not_far _ far
    forged_then bad handed (HasForged got_octets got far is_silent_too rests matches) = not_far _ far

    missed_then : is_good hearing.verdict ≡ false → is_handed hearing.verdict ≡ false → Before → Then
    missed_then bad missed (Waits none quiet matches) =
        pack other (is_in other (done ++ station ∷ [])) (is_in (other_of other) (done ++ station ∷ [])) None
        (Some (said_or words setups given other history))
        (received_then false missed ∙ none) (said_then other false false in_other apart bad)
        (Waits refl (λ now. quiet (sym own_same ∙ now)) matches)
    missed_then bad missed (HasSent none sent does said) =
        pack other (is_in other (done ++ station ∷ [])) (is_in (other_of other) (done ++ station ∷ [])) None
        (Some (said_or words setups given other history))
        (received_then false missed ∙ none) (said_then other false false in_other apart bad)
        (HasSent refl (own_same ∙ sent) does (ap (λ kept. Some (kept_or kept (begun_at given other history))) said))
    missed_then bad missed (HasHeard got_octets got far is_good_too said) = not_far _ far
    missed_then bad missed (HasForged got_octets got far is_silent_too rests matches) = not_far _ far

    other_then : Then
    other_then = by (is_good hearing.verdict) (is_handed hearing.verdict) refl refl
      where
        by : (good handed : Bool) → is_good hearing.verdict ≡ good → is_handed hearing.verdict ≡ handed → Then
        by true handed good is = good_then good (says other in_other)
        by false true bad is = forged_then bad is (says other in_other)
        by false false bad is = missed_then bad is (says other in_other)

  pub packet_says : AllSay words setups given (AtPackets phases (done ++ station ∷ []) left) aired
  packet_says other in_other = by (other == station) refl
    where
      by : (same : Bool) → (other == station) ≡ same
          → SaysAt words setups given (AtPackets phases (done ++ station ∷ []) left) other aired
      by true same = subst (λ n. SaysAt words setups given (AtPackets phases (done ++ station ∷ []) left) n aired)
          (sym (eqb-true other station same)) sender_then
      by false differs = other_then other in_other differs

-- ---- a station takes what it heard

module _ (words : Words) (setups : Setups) (given : Given) (are_two : IsOfTwo given)
    (distinct : AreDistinct given.stations) (phases : ℕ) (done left : List ℕ) (station : ℕ)
    (history : List Event) (are : given.stations ≡ done ++ station ∷ left)
    (hearing_too : AreHearing given (AtListening phases done (station ∷ left)) history)
    (known : IsKnownCall words setups given history station (step_of (packet_received station history)))
    (says : AllSay words setups given (AtListening phases done (station ∷ left)) history) where
  abbrev setup : Setup
  setup = setup_at given station

  abbrev facts : Facts
  facts = facts_at given station history

  abbrev doing_now : Doing
  doing_now = facts.turn.doing

  abbrev step : Step
  step = step_of (packet_received station history)

  abbrev called : List Event
  called = after_call given station step history

  abbrev notes : List Note
  notes = notes_after setup facts step

  abbrev spoken : Doing
  spoken = said_or words setups given station history

  in_round : is_in station given.stations ≡ true
  in_round = among given.stations done left station are

  still_left : is_in station done ≡ false
  still_left = not_before given.stations done left station distinct are

  here : IsDoing setup (Within phases) (turns_begun history) facts
  here =
      subst (λ b. let at =
      (if b then at_stage (Within (suc phases)) (turns_begun history) else at_stage (Within phases)
      (turns_begun history)) in IsDoing setup at.stage at.begun facts)
      still_left (doing_at given
      (AtListening phases done (station ∷ left)) history station hearing_too.stand in_round)

  matching : (next : Doing) (said_next : Option Doing) → (facts_after setup facts step).turn.doing ≡ next
      → said_at words setups station called ≡ said_next
      → Matches (suc phases) (kept_or said_next (begun_at given station history)) next
      → IsMatching words setups given (suc phases) station called
  matching next said_next next_is said_is is =
      let begun = begun_called given station step history station true (same_station station)
      (λ same. passes_begin (packet_received station history)) in
      subst (λ (after : Facts). Matches (suc phases) (said_or words setups given station called) after.turn.doing)
      (sym (own_facts given station step history))
      (subst (λ one. Matches (suc phases) (said_or words setups given station called) one) (sym next_is)
      (subst (λ one. Matches (suc phases) one next) (λ i. kept_or (sym said_is i) (sym begun i)) is))

  stays : is_answering (said_at words setups station history) ≡ false
      → said_at words setups station called ≡ said_at words setups station history
  stays quiet = call_said words setups station station step notes history (λ own. quiet)

  unheard_is : packet_received station history ≡ None
      → (facts_after setup facts step).turn.doing ≡ (unheard doing_now facts).next
  unheard_is none = ap (λ received. (facts_after setup facts (step_of received)).turn.doing) none

  heard_is : (octets : List ℕ) → packet_received station history ≡ Some octets
      → (facts_after setup facts step).turn.doing ≡ (heard setup doing_now octets facts).next
  heard_is octets got = ap (λ received. (facts_after setup facts (step_of received)).turn.doing) got

  use_is : use_of facts ≡ use_for here.wants.base doing_now
  unfolding use_of
  use_is = here.wants.wanted

  own_takes : IsInPhase words setups given phases true true station history
      → IsMatching words setups given (suc phases) station called
  own_takes (Waits none quiet matches) =
      let silent = silent_rests doing_now here.wants.base here.wants.ready (ap packet_in (sym use_is) ∙ quiet refl) in
      matching (unheard doing_now facts).next (said_at words setups station history) (unheard_is none)
      (stays (silent_still (said_at words setups station history) (begun_at given station history)
      (said_silent phases spoken doing_now silent matches)))
      (unheard_next_rests phases spoken doing_now facts here.in_phase silent matches)
  own_takes (HasSent none sent does said) =
      matching (unheard doing_now facts).next (Some (after_sending doing_now)) (unheard_is none)
      (stays (ap is_answering said ∙ sent_still doing_now) ∙ said) (inl (sym (sent_next doing_now facts does)))
  own_takes (HasHeard octets got far good said) = by (awaits_central doing_now) refl
    where
      by : (awaits : Bool) → awaits_central doing_now ≡ awaits
          → IsMatching words setups given (suc phases) station called
      by true awaits =
          let of = awaiting doing_now awaits in
          let next = (heard setup (PeripheralListens of.handle) octets facts).next in
          let answers = known.answers octets of.handle (ap step_of got) of.is good
          (said ∙ ap (λ one. Some
          (leads words (side_of station) (journal_of history) setup facts octets one)) of.is) in
          matching next (Some next)
          (heard_is octets got ∙ ap (λ one. (heard setup one octets facts).next) of.is) answers (inl refl)
      by false other =
          let next = (heard setup doing_now octets facts).next in
          let is = said ∙ ap Some
          (leads_heard words (side_of station) setup facts octets (journal_of history) doing_now other) in
          matching next (Some next) (heard_is octets got)
          (stays (ap is_answering is
          ∙ heard_quiet setup doing_now octets facts other
          (is_silent phases setup octets facts doing_now here.phased.phase)) ∙ is) (inl refl)
  own_takes (HasForged octets got far silent rests matches) =
      matching (heard setup doing_now octets facts).next (said_at words setups station history) (heard_is octets got)
      (stays (silent_still (said_at words setups station history) (begun_at given station history)
      (said_silent phases spoken doing_now silent matches)))
      (rests_next phases spoken doing_now
      (heard setup doing_now octets facts).next here.in_phase silent rests matches)

  own_taken : HasPassedIf words setups given (is_in station (done ++ station ∷ [])) phases station called
  own_taken =
      subst (λ b. HasPassedIf words setups given b phases station called)
      (sym (in_more_same station station done (same_station station)))
      (own_takes (subst (λ b. HasPassedIf words setups given b phases station history) still_left
      (says station in_round)))

  far_taken : (other : ℕ) → is_in other given.stations ≡ true → (other == station) ≡ false → (taken : Bool)
      → HasPassedIf words setups given taken phases other history
      → HasPassedIf words setups given taken phases other called
  far_taken other in_other differs true is =
      far_matches words setups given are_two distinct station step history in_round other in_other differs
      (suc phases) is
  far_taken other in_other differs false is =
      far_phase words setups given are_two distinct station step history in_round other in_other differs phases true
      true known is

  pub listening_says : AllSay words setups given (AtListening phases (done ++ station ∷ []) left) called
  listening_says other in_other = by (other == station) refl
    where
      by : (same : Bool) → (other == station) ≡ same
          → HasPassedIf words setups given (is_in other (done ++ station ∷ [])) phases other called
      by true same = subst (λ n. HasPassedIf words setups given (is_in n (done ++ station ∷ [])) phases n called)
          (sym (eqb-true other station same)) own_taken
      by false differs =
          subst (λ b. HasPassedIf words setups given b phases other called)
          (sym (in_more_other other station done differs))
          (far_taken other in_other differs (is_in other done) (says other in_other))

-- Before the first packet of a turn no controller has heard one in it, so each complete packet is reported to its host.
use Rattle.std.proofs.Common.{◌≡◌, ℕ, ◌-◌, ◌==◌, Bool, true, false, Some, None, List, [], ◌∷◌, ◌++◌, map, refl, sym, ap, subst, ◌∙◌, arith}
use Rattle.std.specs.Prelude.{⊤, fold, take, if◌then◌else◌}
use Rattle.std.proofs.lemmas.Bool.{eqb-true}
use Rattle.std.proofs.lemmas.List.Sums.{fold-append}
use Rattle.ble_base.specs.declared.notes.Note.{Note}
use Rattle.ble_base.specs.declared.notes.Note.TheVariants.{Up as UpNote}
use Rattle.ble_base.specs.declared.roles.Side.{Side}
use Rattle.radio_replay.specs.declared.fates.Fate.{Fate}
use Rattle.journal_data.specs.controller_model.Between.{is_between_turns}
use Rattle.journal_data.specs.controller_model.Side.{facts_after, notes_after}
use Rattle.journal_data.specs.controller_model.Step.{Step, TurnBegins, TurnEnds}
use Rattle.run_model.specs.Feeding.{AreDistinct}
use Rattle.run_model.specs.History.{Event, TurnBegan, Called, Noted, Transmitted, packet_received, past_of, turns_begun}
use Rattle.run_model.specs.Journal.{air_entries, entries_of, entry_of, journal_from, journal_of, side_of}
use Rattle.run_model.specs.Links.{Links, links_after, links_of}
use Rattle.run_model.specs.Readers.{turn_packets, turn_packets_after}
use Rattle.run_model.specs.Run.{Given, after_call, facts_at, hearings_of, octets_left, setup_at, step_of}
use Rattle.run_model.proofs.LinkEnds.{received_by, received_event}
use Rattle.run_model.proofs.Parts.{journal_event, journal_more}
use Rattle.run_model.proofs.Stations.{among, in_more_other, in_more_same, is_in, not_before}
use Rattle.run_model.proofs.Walk.{Place, NoTurn, AtFeeds, AtBegins, AfterPhases, AtPackets, AtListening, AtEnds, IsKept}
use Rattle.journal_data.proofs.run_laws.Hearings.{feed_none, none_called, other_facts, own_facts}
use Rattle.journal_data.proofs.run_laws.TurnPlaces.{AllStand, Between, Within, at_stage, stands_first, stands_kept}
use Rattle.journal_data.proofs.journal_acks.TwoStations.{IsOfTwo, one_hearing}
use Rattle.journal_data.proofs.FedInRuns.{between_standing}
use Rattle.journal_hosts.proofs.Calm.{IsCalm, begin_calm, calm_between, pass_calm}

-- ---- packets of a turn, by the lines

-- no packet was on the air in the turn that is under way
abbrev pub IsSilent : List Event → Type 0
IsSilent history = turn_packets (journal_of history) ≡ 0

pub packets_event : (history : List Event) (event : Event)
    → turn_packets (journal_of (history ++ event ∷ [])) ≡ fold turn_packets_after (turn_packets (journal_of history)) (entries_of (links_of history) event)
packets_event history event =
    ap turn_packets (journal_event history event) ∙ fold-append turn_packets_after 0 (journal_of history) (entries_of (links_of history) event)

note_packets : (side : Side) (link_of : ℕ → ℕ) (last : ℕ) (note : Note) (count : ℕ) → turn_packets_after count (entry_of side link_of last note) ≡ count
note_packets side link_of last (UpNote packet) count = refl
note_packets side link_of last note count = refl

notes_packets : (links : Links) (station : ℕ) (notes : List Note) (count : ℕ) → fold turn_packets_after count (journal_from links (map (Noted station) notes)) ≡ count
notes_packets links station [] count = refl
notes_packets links station (note ∷ notes) count =
    ap (λ n. fold turn_packets_after n (journal_from (links_after links (Noted station note)) (map (Noted station) notes)))
    (note_packets (side_of station) (links.link_of station) (links.last_of station) note count)
    ∙ notes_packets (links_after links (Noted station note)) station notes count

pub packets_called : (given : Given) (station : ℕ) (step : Step) (history : List Event)
    → turn_packets (journal_of (after_call given station step history)) ≡ turn_packets (journal_of history)
packets_called given station step history =
    let notes = notes_after (setup_at given station) (facts_at given station history) step in
    ap turn_packets (journal_more history (Called station step ∷ map (Noted station) notes))
    ∙ fold-append turn_packets_after 0 (journal_of history) (journal_from (links_of history) (map (Noted station) notes))
    ∙ notes_packets (links_of history) station notes (turn_packets (journal_of history))

-- ---- what holds at each place

abbrev UnheardIf : Bool → ℕ → List Event → Type 0
UnheardIf true station history = packet_received station history ≡ None
UnheardIf false station history = ⊤

abbrev UnheardAt : ℕ → Place → List Event → Type 0
UnheardAt station (AfterPhases phases) history = IsSilent history → packet_received station history ≡ None
UnheardAt station (AtPackets phases done left) history = IsSilent history → packet_received station history ≡ None
UnheardAt station (AtListening phases done left) history = IsSilent history → packet_received station history ≡ None
UnheardAt station (AtEnds done left) history = UnheardIf (is_in station done) station history
UnheardAt station place history = packet_received station history ≡ None

abbrev CalmIf : Bool → Given → ℕ → List Event → Type 0
CalmIf true given station history = IsCalm (facts_at given station history)
CalmIf false given station history = ⊤

abbrev EndingIf : Bool → Given → ℕ → List Event → Type 0
EndingIf true given station history = ⊤
EndingIf false given station history = IsSilent history → IsCalm (facts_at given station history)

abbrev CalmAt : Given → ℕ → Place → List Event → Type 0
CalmAt given station NoTurn history = ⊤
CalmAt given station (AtFeeds done left) history = ⊤
CalmAt given station (AtBegins done left) history = CalmIf (is_in station done) given station history
CalmAt given station (AtEnds done left) history = EndingIf (is_in station done) given station history
CalmAt given station (AfterPhases phases) history = IsSilent history → IsCalm (facts_at given station history)
CalmAt given station (AtPackets phases done left) history = IsSilent history → IsCalm (facts_at given station history)
CalmAt given station (AtListening phases done left) history = IsSilent history → IsCalm (facts_at given station history)

pub record IsQuietAt (given : Given) (station : ℕ) (place : Place) (history : List Event) : Type 0 where
  pub unheard : UnheardAt station place history
  pub calm : CalmAt given station place history

pub record AreQuiet (given : Given) (place : Place) (history : List Event) : Type 0 where
  pub stand : AllStand given place history
  pub each : (station : ℕ) → is_in station given.stations ≡ true → IsQuietAt given station place history

pub quiet_first : (given : Given) → AreQuiet given NoTurn []
unfolding packet_received
quiet_first given = record { stand = stands_first given; each = λ station is. record { unheard = refl; calm = tt } }

-- ---- one call of a round

-- the facts of the station itself, and of another one
own_calm : (given : Given) (station : ℕ) (step : Step) (history : List Event) → IsCalm (facts_after (setup_at given station) (facts_at given station history) step)
    → (other : ℕ) → (other == station) ≡ true → IsCalm (facts_at given other (after_call given station step history))
own_calm given station step history calm other is =
    subst (λ n. IsCalm (facts_at given n (after_call given station step history))) (sym (eqb-true other station is))
    (subst IsCalm (sym (own_facts given station step history)) calm)

other_calm : (given : Given) (station : ℕ) (step : Step) (history : List Event) (other : ℕ) → (other == station) ≡ false → IsCalm (facts_at given other history)
    → IsCalm (facts_at given other (after_call given station step history))
other_calm given station step history other differs calm = subst IsCalm (sym (other_facts given station step history other differs)) calm

-- the controllers begin the turn
begin_by : (given : Given) (done : List ℕ) (station : ℕ) (step : Step) (history : List Event) → IsCalm (facts_after (setup_at given station) (facts_at given station history) step)
    → (other : ℕ) (same : Bool) → (other == station) ≡ same → CalmIf (is_in other done) given other history
    → CalmIf (is_in other (done ++ station ∷ [])) given other (after_call given station step history)
begin_by given done station step history own other true is calm =
    subst (λ b. CalmIf b given other (after_call given station step history)) (sym (in_more_same other station done is)) (own_calm given station step history own other is)
begin_by given done station step history own other false is calm =
    subst (λ b. CalmIf b given other (after_call given station step history)) (sym (in_more_other other station done is)) (by (is_in other done) calm)
  where
    by : (begun : Bool) → CalmIf begun given other history → CalmIf begun given other (after_call given station step history)
    by true one = other_calm given station step history other is one
    by false one = tt

-- they take what they heard in a phase
hear_by : (given : Given) (station : ℕ) (history : List Event) → (IsSilent history → packet_received station history ≡ None) → (IsSilent history → IsCalm (facts_at given station history))
    → (other : ℕ) (same : Bool) → (other == station) ≡ same → (IsSilent history → IsCalm (facts_at given other history))
    → IsSilent (after_call given station (step_of (packet_received station history)) history)
    → IsCalm (facts_at given other (after_call given station (step_of (packet_received station history)) history))
hear_by given station history unheard own other true is calm silent =
    let step = step_of (packet_received station history) in
    let before : IsSilent history = sym (packets_called given station step history) ∙ silent in
    own_calm given station step history
    (subst (λ received. IsCalm (facts_after (setup_at given station) (facts_at given station history) (step_of received))) (sym (unheard before))
    (pass_calm (setup_at given station) (facts_at given station history) (own before))) other is
hear_by given station history unheard own other false is calm silent =
    let step = step_of (packet_received station history) in
    other_calm given station step history other is (calm (sym (packets_called given station step history) ∙ silent))

-- they end the turn
end_by : (given : Given) (done : List ℕ) (station : ℕ) (history : List Event) (other : ℕ) (same : Bool) → (other == station) ≡ same → EndingIf (is_in other done) given other history
    → EndingIf (is_in other (done ++ station ∷ [])) given other (after_call given station TurnEnds history)
end_by given done station history other true is calm =
    subst (λ b. EndingIf b given other (after_call given station TurnEnds history)) (sym (in_more_same other station done is)) tt
end_by given done station history other false is calm =
    subst (λ b. EndingIf b given other (after_call given station TurnEnds history)) (sym (in_more_other other station done is)) (by (is_in other done) calm)
  where
    by : (ended : Bool) → EndingIf ended given other history → EndingIf ended given other (after_call given station TurnEnds history)
    by true one = tt
    by false one = λ silent. other_calm given station TurnEnds history other is (one (sym (packets_called given station TurnEnds history) ∙ silent))

unheard_by : (given : Given) (done : List ℕ) (station : ℕ) (history : List Event) (other : ℕ) (same : Bool) → (other == station) ≡ same → UnheardIf (is_in other done) other history
    → UnheardIf (is_in other (done ++ station ∷ [])) other (after_call given station TurnEnds history)
unheard_by given done station history other true is unheard =
    subst (λ b. UnheardIf b other (after_call given station TurnEnds history)) (sym (in_more_same other station done is))
    (received_by given other station TurnEnds history true is)
unheard_by given done station history other false is unheard =
    subst (λ b. UnheardIf b other (after_call given station TurnEnds history)) (sym (in_more_other other station done is)) (by (is_in other done) unheard)
  where
    by : (ended : Bool) → UnheardIf ended other history → UnheardIf ended other (after_call given station TurnEnds history)
    by true one = none_called given station TurnEnds history other one
    by false one = tt

-- it did not begin its turn yet
rests : (given : Given) → AreDistinct given.stations → (done left : List ℕ) (station : ℕ) (history : List Event) → given.stations ≡ done ++ station ∷ left
    → AllStand given (AtBegins done (station ∷ left)) history → is_between_turns (past_of station history) ≡ true
rests given distinct done left station history are stand =
    let turns = turns_begun history in
    between_standing (past_of station history) (at_stage Between (turns - 1))
    (stand station (among given.stations done left station are)
    ∙ ap (λ b. Some (if b then at_stage (Within 0) turns else at_stage Between (turns - 1))) (not_before given.stations done left station distinct are))

-- ---- each step

-- a packet of one of two stations has a line
pub no_silence : (given : Given) → IsOfTwo given → (fates : List Fate) (station channel : ℕ) (octets : List ℕ) (history : List Event) → is_in station given.stations ≡ true → (X : Type 0)
    → IsSilent (history ++ Transmitted station channel octets (hearings_of given fates station channel octets history) ∷ []) → X
no_silence given are_two fates station channel octets history is X silent =
    let event = Transmitted station channel octets (hearings_of given fates station channel octets history) in
    absurd (
    let one = sym (packets_event history event ∙ ap (λ hearings. fold turn_packets_after (turn_packets (journal_of history)) (air_entries (side_of station) channel octets hearings))
    (one_hearing given are_two fates station channel octets history is)) ∙ silent in
    omega (arith, one)
    )

pub quiet_kept : (given : Given) → IsOfTwo given → AreDistinct given.stations → IsKept given (AreQuiet given)
quiet_kept given are_two distinct = let kept = stands_kept given distinct in record {
  on_turn = λ slot plan history begun at is. record {
    stand = kept.on_turn slot plan history begun at is.stand;
    each = λ station in_it. record {
      unheard = received_event station history (TurnBegan slot (map plan.radio_of given.stations)) ∙ (is.each station in_it).unheard;
      calm = tt;
    };
  };
  on_feed = λ plan done left station history are some now is. record {
    stand = kept.on_feed plan done left station history are some now is.stand;
    each = λ other in_it. record {
      unheard = feed_none given station (take (plan.feed_of station) (octets_left given station history)) history other (is.each other in_it).unheard;
      calm = tt;
    };
  };
  on_fed = λ history is. record {
    stand = kept.on_fed history is.stand;
    each = λ station in_it. record { unheard = (is.each station in_it).unheard; calm = tt };
  };
  on_begin = λ slot plan done left station history are due is.
      let setup = setup_at given station in
      let step = TurnBegins slot (plan.radio_of station) in
      let calm = begin_calm setup slot (plan.radio_of station) (facts_at given station history)
      (calm_between setup (past_of station history) (rests given distinct done left station history are is.stand)) in record {
        stand = kept.on_begin slot plan done left station history are due is.stand;
        each = λ other in_it. record {
          unheard = none_called given station step history other (is.each other in_it).unheard;
          calm = begin_by given done station step history calm other (other == station) refl (is.each other in_it).calm;
        };
      };
  on_begun = λ history is. record {
    stand = kept.on_begun history is.stand;
    each = λ station in_it. record {
      unheard = λ silent. (is.each station in_it).unheard;
      calm = λ silent. subst (λ b. CalmIf b given station history) in_it (is.each station in_it).calm;
    };
  };
  on_phase = λ phases history few is. record {
    stand = kept.on_phase phases history few is.stand;
    each = λ station in_it. record { unheard = (is.each station in_it).unheard; calm = (is.each station in_it).calm };
  };
  on_silence = λ phases done left station history are none is. record {
    stand = kept.on_silence phases done left station history are none is.stand;
    each = λ other in_it. record { unheard = (is.each other in_it).unheard; calm = (is.each other in_it).calm };
  };
  on_packet = λ phases plan done left station channel octets history are some due is. record {
    stand = kept.on_packet phases plan done left station channel octets history are some due is.stand;
    each = λ other in_it. record {
      unheard = λ silent. no_silence given are_two plan.fates station channel octets history (among given.stations done left station are) _ silent;
      calm = λ silent. no_silence given are_two plan.fates station channel octets history (among given.stations done left station are) _ silent;
    };
  };
  on_air = λ phases history is. record {
    stand = kept.on_air phases history is.stand;
    each = λ station in_it. record { unheard = (is.each station in_it).unheard; calm = (is.each station in_it).calm };
  };
  on_hearing = λ phases done left station history are some is.
      let step = step_of (packet_received station history) in
      let own = is.each station (among given.stations done left station are) in record {
        stand = kept.on_hearing phases done left station history are some is.stand;
        each = λ other in_it. record {
          unheard = λ silent. none_called given station step history other
              ((is.each other in_it).unheard (sym (packets_called given station step history) ∙ silent));
          calm = hear_by given station history own.unheard own.calm other (other == station) refl (is.each other in_it).calm;
        };
      };
  on_heard = λ phases history is. record {
    stand = kept.on_heard phases history is.stand;
    each = λ station in_it. record { unheard = (is.each station in_it).unheard; calm = (is.each station in_it).calm };
  };
  on_phases = λ history is. record {
    stand = kept.on_phases history is.stand;
    each = λ station in_it. record { unheard = tt; calm = (is.each station in_it).calm };
  };
  on_end = λ done left station history are some is. record {
    stand = kept.on_end done left station history are some is.stand;
    each = λ other in_it. record {
      unheard = unheard_by given done station history other (other == station) refl (is.each other in_it).unheard;
      calm = end_by given done station history other (other == station) refl (is.each other in_it).calm;
    };
  };
  on_ended = λ history is. record {
    stand = kept.on_ended history is.stand;
    each = λ station in_it. record {
      unheard = subst (λ b. UnheardIf b station history) in_it (is.each station in_it).unheard;
      calm = tt;
    };
  };
}

-- so it is as a controller ends a turn in which no packet was on the air
pub ends_calm : (given : Given) → AreDistinct given.stations → (done left : List ℕ) (station : ℕ) (history : List Event) → given.stations ≡ done ++ station ∷ left
    → AreQuiet given (AtEnds done (station ∷ left)) history → IsSilent history → IsCalm (facts_at given station history)
ends_calm given distinct done left station history are is =
    subst (λ b. EndingIf b given station history) (not_before given.stations done left station distinct are) (is.each station (among given.stations done left station are)).calm

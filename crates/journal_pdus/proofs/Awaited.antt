-- In every run of two stations, a central whose packet was heard listens in the next phase, on the channel on which the
-- answer is sent.
use Rattle.std.proofs.Common.{◌≡◌, ℕ, zero, suc, ◌==◌, inl, inr, ◌&&◌, ◌||◌, not, Bool, true, false, Option, Some, None, List, [], ◌∷◌, ◌++◌, take, refl, sym, ap, subst, ◌∙◌, arith}
use Rattle.std.specs.Prelude.{⊤, if◌then◌else◌}
use Rattle.std.proofs.lemmas.Bool.{eqb-true}
use Rattle.std.proofs.lemmas.Slice.Eq.{bytes_eq-Decides}
use Rattle.air_frame.specs.Packet.{access_octets}
use Rattle.journal_moves.specs.journal_wants.journal_sending.journal_data.link_model.declared.events.ConnectionEvent.{ConnectionEvent}
use Rattle.journal_moves.specs.journal_wants.journal_sending.journal_data.link_model.Packets.{good_pdu}
use Rattle.journal_moves.specs.journal_wants.journal_sending.journal_data.link_model.Step.{PacketSent}
use Rattle.journal_moves.specs.journal_wants.journal_sending.journal_data.open_links.OpenLinks.{Links, OpenLink, facts_in, link_after, link_at}
use Rattle.radio_replay.specs.declared.fates.Fate.{Fate}
use Rattle.journal_moves.specs.journal_wants.journal_sending.controller_model.declared.doing.Doing.{Doing}
use Rattle.journal_moves.specs.journal_wants.journal_sending.controller_model.declared.doing.Doing.TheVariants.{Advertises, CentralSends, CentralListens, PeripheralSends}
use Rattle.journal_moves.specs.journal_wants.journal_sending.controller_model.Facts.{Setup, Facts, Use, Sends, Listens}
use Rattle.journal_moves.specs.journal_wants.journal_sending.controller_model.Heard.{has_room, heard, unheard}
use Rattle.journal_moves.specs.journal_wants.journal_sending.controller_model.Outcome.{facts_passed}
use Rattle.journal_moves.specs.journal_wants.journal_sending.controller_model.Sent.{SendsOn}
use Rattle.journal_moves.specs.journal_wants.journal_sending.controller_model.Side.{facts_after, facts_of}
use Rattle.journal_moves.specs.journal_wants.journal_sending.controller_model.Step.{Step}
use Rattle.journal_moves.specs.journal_wants.journal_sending.run_model.Feeding.{AreDistinct}
use Rattle.journal_moves.specs.journal_wants.journal_sending.run_model.History.{Event, Hearing, Transmitted, has_received, packet_received, turns_begun}
use Rattle.journal_moves.specs.journal_wants.journal_sending.run_model.LinkEnds.{HaveAddresses}
use Rattle.journal_moves.specs.journal_wants.journal_sending.run_model.Links.{is_advertising}
use Rattle.journal_moves.specs.journal_wants.journal_sending.run_model.Run.{Given, after_call, facts_at, hearings_of, setup_at, step_of, use_at}
use Rattle.journal_moves.proofs.journal_wants.journal_sending.run_model.LinkEnds.{AreTaken, IsUnderstood, is_listener, wanted_is}
use Rattle.journal_moves.proofs.journal_wants.journal_sending.run_model.Stations.{is_in, among, in_more_other, in_more_same, not_before}
use Rattle.journal_moves.proofs.journal_wants.journal_sending.run_model.Walk.{Place, NoTurn, AtFeeds, AtBegins, AfterPhases, AtPackets, AtListening, AtEnds, IsKept}
use Rattle.journal_moves.proofs.journal_wants.journal_sending.journal_data.run_laws.ConnectInds.{on_channel}
use Rattle.journal_moves.proofs.journal_wants.journal_sending.journal_data.run_laws.Hearings.{other_facts, own_facts, use_same, use_sent_at}
use Rattle.journal_moves.proofs.journal_wants.journal_sending.journal_data.run_laws.InAgreement.{differs_back}
use Rattle.journal_moves.proofs.journal_wants.journal_sending.journal_data.run_laws.LinkPhases.{IsInPhase}
use Rattle.journal_moves.proofs.journal_wants.journal_sending.journal_data.run_laws.OwnLinks.{sent_begins}
use Rattle.journal_moves.proofs.journal_wants.journal_sending.journal_data.run_laws.SentPackets.{IsUseSent}
use Rattle.journal_moves.proofs.journal_wants.journal_sending.journal_data.run_laws.TurnPlaces.{Within, at_stage, event_past}
use Rattle.journal_moves.proofs.journal_wants.journal_sending.journal_data.run_laws.TurnSteps.{IsListening}
use Rattle.journal_moves.proofs.journal_wants.journal_sending.journal_links.OfTwo.{of_two_stations}
use Rattle.journal_moves.specs.journal_wants.journal_sending.journal_packets.Belonging.{have_one_access}
use Rattle.journal_moves.proofs.journal_wants.journal_sending.journal_packets.Asked.{asked_called, asked_packet, asks_in, is_asked}
use Rattle.journal_moves.proofs.journal_wants.journal_sending.journal_packets.SoFar.{IsBelongingSoFar, belonging_first, belonging_kept}
use Rattle.journal_moves.proofs.journal_wants.journal_sending.journal_acks.Standing.{PhasedBy, listens_wanted, phased_at, sends_on}
use Rattle.journal_moves.proofs.journal_wants.journal_sending.journal_acks.TwoStations.{IsOfTwo, other_is, other_of}
use Rattle.journal_moves.specs.journal_wants.journal_sending.journal_acks.link_calls.Phases.{HasPassed, IsNew, Stays, Takes, link_receiving}
use Rattle.journal_moves.specs.journal_wants.journal_sending.journal_acks.link_calls.Turns.{sent_if}
use Rattle.journal_moves.specs.journal_wants.journal_sending.journal_acks.link_calls.Uses.{sends_under}
use Rattle.journal_moves.proofs.journal_wants.journal_sending.journal_acks.link_calls.Exchanging.{uses_either as either}
use Rattle.journal_moves.proofs.journal_wants.journal_sending.journal_acks.link_calls.LinkCalls.{off_sends, phase_under, receiving_event}
use Rattle.journal_moves.proofs.journal_wants.journal_sending.journal_acks.link_calls.UnderHandles.{same_base}
use Rattle.journal_slots.proofs.ExchangeSlots.{event_after_receiving, event_after_sending, event_received}

-- ---- a central that asked

-- a central sends or listens on this link
abbrev pub IsAsking : ℕ → Doing → Type 0
IsAsking handle (CentralSends other) = other ≡ handle
IsAsking handle (CentralListens other) = other ≡ handle
IsAsking handle other = ⊥

-- a station hears on this channel: it wants to listen on it, and once it was called, to send on no other data channel
abbrev pub Answers : Bool → ℕ → Use → Type 0
Answers false channel want = want ≡ Listens channel
Answers true channel want = (other : ℕ) (octets : List ℕ) → want ≡ Sends other octets → is_advertising other ≡ false → other ≡ channel

-- it does so on a link with the access address of these octets, on the channel on which the other station, which wants
-- this, hears it
pub record IsAsker (facts : Facts) (called : Bool) (want : Use) (octets : List ℕ) : Type 0 where
  pub handle : ℕ
  pub far : OpenLink
  pub is_open : link_at handle facts.links ≡ Some far
  pub asks : IsAsking handle facts.turn.doing
  pub begins : take 4 octets ≡ access_octets far.setup.link.fields.access
  pub answers : Answers called (facts_in far).event.channel want

-- a packet of it was heard
abbrev pub HasAsker : Given → Bool → List Event → ℕ → Type 0
HasAsker given called history station =
    (octets : List ℕ) → is_asked history station octets ≡ true
    → IsAsker (facts_at given (other_of station) history) called (use_at given station history) octets

-- it is so from the first packet on, and up to the answer
abbrev pub AskedWell : Given → Place → List Event → ℕ → Type 0
AskedWell given NoTurn history station = ⊤
AskedWell given (AtFeeds done left) history station = ⊤
AskedWell given (AtBegins done left) history station = ⊤
AskedWell given (AfterPhases zero) history station = ⊤
AskedWell given (AfterPhases (suc zero)) history station = HasAsker given true history station
AskedWell given (AfterPhases (suc (suc phases))) history station = ⊤
AskedWell given (AtPackets zero done left) history station = HasAsker given false history station
AskedWell given (AtPackets (suc zero) done left) history station =
    (channel : ℕ) (octets : List ℕ) → use_at given station history ≡ Sends channel octets → HasAsker given true history station
AskedWell given (AtPackets (suc (suc phases)) done left) history station = ⊤
AskedWell given (AtListening zero done left) history station = HasAsker given (is_in station done) history station
AskedWell given (AtListening (suc phases) done left) history station = ⊤
AskedWell given (AtEnds done left) history station = ⊤

pub record AreAskedWell (given : Given) (place : Place) (history : List Event) : Type 0 where
  pub so_far : IsBelongingSoFar given place history
  pub asked : (station : ℕ) → is_in station given.stations ≡ true → AskedWell given place history station

asker_same : (one after : Facts) (called called_too : Bool) (want want_too : Use) (octets : List ℕ) → after ≡ one → called_too ≡ called → want_too ≡ want
    → IsAsker one called want octets → IsAsker after called_too want_too octets
asker_same one after called called_too want want_too octets same calls uses is =
    subst (λ f. IsAsker f called_too want_too octets) (sym same)
    (subst (λ b. IsAsker one b want_too octets) (sym calls) (subst (λ u. IsAsker one called u octets) (sym uses) is))

-- ---- the central takes that it heard nothing

record ListensNext (handle : ℕ) (before after : Facts) : Type 0 where
  links : after.links ≡ before.links
  asks : IsAsking handle after.turn.doing

first_none : (other : ℕ) (links : Links) (X : Type 0) → IsInPhase 0 links (CentralListens other) → X
first_none other links X phase = absurd (let one = phase.0 in omega (arith, one))

goes_on : (handle : ℕ) (facts : Facts) (doing : Doing) → IsInPhase 0 facts.links doing → IsAsking handle doing → ListensNext handle facts (facts_passed (unheard doing facts))
goes_on handle facts (CentralSends other) phase asks = record { links = refl; asks = asks }
goes_on handle facts (CentralListens other) phase asks = first_none other facts.links _ phase
goes_on handle facts (Advertises channel) phase asks = absurd asks
goes_on handle facts doing phase asks = absurd asks

deaf_goes_on : (setup : Setup) (octets : List ℕ) (handle : ℕ) (facts : Facts) (doing : Doing) → IsInPhase 0 facts.links doing → IsAsking handle doing
    → ListensNext handle facts (facts_passed (heard setup doing octets facts))
deaf_goes_on setup octets handle facts (CentralSends other) phase asks = record { links = refl; asks = asks }
deaf_goes_on setup octets handle facts (CentralListens other) phase asks = first_none other facts.links _ phase
deaf_goes_on setup octets handle facts (Advertises channel) phase asks = absurd asks
deaf_goes_on setup octets handle facts doing phase asks = absurd asks

listens_next : (setup : Setup) (received : Option (List ℕ)) (handle : ℕ) (facts : Facts) → IsInPhase 0 facts.links facts.turn.doing → IsAsking handle facts.turn.doing
    → ListensNext handle facts (facts_after setup facts (step_of received))
listens_next setup None handle facts phase asks = goes_on handle facts facts.turn.doing phase asks
listens_next setup (Some octets) handle facts phase asks = deaf_goes_on setup octets handle facts facts.turn.doing phase asks

asker_next : (setup : Setup) (received : Option (List ℕ)) (facts : Facts) (called : Bool) (want : Use) (octets : List ℕ) → IsInPhase 0 facts.links facts.turn.doing
    → IsAsker facts called want octets → IsAsker (facts_after setup facts (step_of received)) called want octets
asker_next setup received facts called want octets phase asker =
    let next = listens_next setup received asker.handle facts phase asker.asks in record {
      handle = asker.handle;
      far = asker.far;
      is_open = ap (link_at asker.handle) next.links ∙ asker.is_open;
      asks = next.asks;
      begins = asker.begins;
      answers = asker.answers;
    }

-- ---- an answer goes out on the channel on which its packet was heard

received_channel : (slot : ℕ) (found : Option (List ℕ)) (event : ConnectionEvent) → (event_received slot found event).channel ≡ event.channel
received_channel slot None event = refl
received_channel slot (Some pdu) event = refl

taken_channel : (setup : Setup) (handle : ℕ) (room : Bool) (octets : List ℕ) (facts : Facts) (link : OpenLink)
    → (facts_in (link_receiving setup handle room octets facts link)).event.channel ≡ (facts_in link).event.channel
taken_channel setup handle room octets facts link =
    let slot = facts.turn.slot in
    ap (λ (e : ConnectionEvent). e.channel) (receiving_event setup handle room octets facts link ∙ event_after_receiving slot octets room link)
    ∙ received_channel slot (good_pdu link.setup (facts_in link) octets) (facts_in link).event

module _ (setup : Setup) (received : Option (List ℕ)) (facts : Facts) (listens : IsListening facts facts.turn.doing) (channel : ℕ) (wants : facts.wanted ≡ Listens channel) where
  abbrev passed : Facts
  passed = facts_after setup facts (step_of received)

  passed_on : (handle slot : ℕ) (link : OpenLink) → sends_under handle passed.turn.doing ≡ true
      → HasPassed setup facts (has_room setup facts) received handle passed.turn.doing (link_after (PacketSent slot) link) → (facts_in link).event.channel ≡ channel
  passed_on handle slot link sends (IsNew end made opened off) = absurd (let h : true ≡ false = sym sends ∙ off_sends handle passed.turn.doing off in absurd cc)
  passed_on handle slot link sends (Stays was none nothing listened) = absurd (let h : true ≡ false = sym sends ∙ none in absurd cc)
  passed_on handle slot link sends (Takes base octets was some on same) =
      let taken = link_receiving setup handle (has_room setup facts) octets facts base in
      let sent : link_after (PacketSent slot) link ≡ link_after (PacketSent facts.turn.slot) taken =
      same ∙ ap (λ b. sent_if b facts.turn.slot taken) sends in
      let one : Listens (facts_in base).event.channel ≡ Listens channel = sym (listens_wanted facts handle base facts.turn.doing on listens was) ∙ wants in
      let heard_on : (facts_in base).event.channel ≡ channel = cc in
      ap (λ (l : OpenLink). (facts_in l).event.channel) (same_base slot facts.turn.slot link taken sent)
      ∙ taken_channel setup handle (has_room setup facts) octets facts base ∙ heard_on

  answers_there : (other : ℕ) (octets : List ℕ) → IsUseSent passed (Sends other octets) → is_advertising other ≡ false → other ≡ channel
  answers_there other octets (inl advertises) off = absurd (let h : true ≡ false = sym (on_channel other advertises.on_channel) ∙ off in absurd cc)
  answers_there other octets (inr link) off =
      link.channel_is
      ∙ passed_on link.handle passed.turn.slot link.link (sends_on link.handle passed.turn.doing link.sends)
      (phase_under setup facts received link.handle (link_after (PacketSent passed.turn.slot) link.link) link.is_open)

-- ---- a packet

asks_first : (handle : ℕ) (links : Links) (doing : Doing) → IsInPhase 0 links doing → SendsOn handle doing → IsAsking handle doing
asks_first handle links (CentralSends other) phase sends = sends
asks_first handle links (PeripheralSends other) phase sends = absurd (let one = phase.0 in omega (arith, one))
asks_first handle links (Advertises channel) phase sends = absurd sends
asks_first handle links doing phase sends = absurd sends

-- what is sent on a data channel in the first phase is sent by a central
asker_sends : (facts : Facts) (channel : ℕ) (sent octets : List ℕ) (want : Use) → IsUseSent facts (Sends channel sent) → IsInPhase 0 facts.links facts.turn.doing
    → is_advertising channel ≡ false → have_one_access sent octets ≡ true → want ≡ Listens channel → IsAsker facts false want octets
asker_sends facts channel sent octets want (inl advertises) phase off same listens =
    absurd (let h : true ≡ false = sym (on_channel channel advertises.on_channel) ∙ off in absurd cc)
asker_sends facts channel sent octets want (inr link) phase off same listens = record {
  handle = link.handle;
  far = link_after (PacketSent facts.turn.slot) link.link;
  is_open = link.is_open;
  asks = asks_first link.handle facts.links facts.turn.doing phase link.sends;
  begins = sym ((bytes_eq-Decides (take 4 sent) (take 4 octets)).0 same) ∙ ap (take 4) link.packet ∙ sent_begins link.link.setup (facts_in link.link);
  answers = listens
      ∙ ap Listens (link.channel_is ∙ sym (ap (λ (e : ConnectionEvent). e.channel) (event_after_sending facts.turn.slot link.link)));
}

-- it was received, on a data channel, with the same access address
record IsAskedNow (received off same : Bool) : Type 0 where
  received_is : received ≡ true
  off_is : off ≡ false
  same_is : same ≡ true

not_advertising : (received off same : Bool) → (received && (not off && same)) ≡ true → IsAskedNow received off same
not_advertising true false true is = record { received_is = refl; off_is = refl; same_is = refl }
not_advertising true false false is = absurd cc
not_advertising true true same is = absurd cc
not_advertising false off same is = absurd cc

module _ (given : Given) (pair : IsOfTwo given) (six : HaveAddresses given) where
  stands : (phases : ℕ) (done left : List ℕ) (history : List Event) → IsBelongingSoFar given (AtPackets phases done left) history
      → (station : ℕ) → is_in station given.stations ≡ true → PhasedBy given history station (at_stage (Within phases) (turns_begun history))
  stands phases done left history so_far station in_it = phased_at given (AtPackets phases done left) history so_far.asked.hearing.stand station in_it

  module _ (fates : List Fate) (done left : List ℕ) (sender channel : ℕ) (sent : List ℕ) (history : List Event) (phases : ℕ) (are : given.stations ≡ done ++ sender ∷ left)
      (wanted : use_at given sender history ≡ Sends channel sent) (so_far : IsBelongingSoFar given (AtPackets phases done (sender ∷ left)) history)
      (station : ℕ) (in_it : is_in station given.stations ≡ true) where
    abbrev hearings : List Hearing
    hearings = hearings_of given fates sender channel sent history

    abbrev after : List Event
    after = history ++ Transmitted sender channel sent hearings ∷ []

    sender_in : is_in sender given.stations ≡ true
    sender_in = among given.stations done left sender are

    same_facts : (other : ℕ) → facts_at given other after ≡ facts_at given other history
    same_facts other = ap (facts_of (setup_at given other)) (event_past other history (Transmitted sender channel sent hearings) refl)

    asked_is : (octets : List ℕ) → is_asked after station octets ≡ (is_asked history station octets || asks_in station channel sent hearings octets)
    asked_is octets =
        asked_packet given pair fates sender channel sent history station octets (of_two_stations given pair sender sender_in) (of_two_stations given pair station in_it)

    same_use : use_at given station after ≡ use_at given station history
    same_use = use_same given station history after (event_past station history (Transmitted sender channel sent hearings) refl)

    old_asker : (called : Bool) (octets : List ℕ) → IsAsker (facts_at given (other_of station) history) called (use_at given station history) octets
        → IsAsker (facts_at given (other_of station) after) called (use_at given station after) octets
    old_asker called octets is = asker_same _ _ called called _ _ octets (same_facts (other_of station)) refl same_use is

    -- in the first phase
    new_asker : phases ≡ 0 → (octets : List ℕ) → asks_in station channel sent hearings octets ≡ true
        → IsAsker (facts_at given (other_of station) history) false (use_at given station history) octets
    new_asker first octets asks =
        let parts = not_advertising (has_received station hearings) (is_advertising channel) (have_one_access sent octets) asks in
        let listener = is_listener given fates channel sent history sender station parts.received_is in
        let one = other_is given pair station sender in_it sender_in (differs_back station sender listener.differs) in
        let uses = use_sent_at given six (AtPackets phases done (sender ∷ left)) history so_far.asked.hearing.stand sender sender_in channel sent wanted in
        let phase = (stands phases done (sender ∷ left) history so_far sender sender_in).phase in
        subst (λ n. IsAsker (facts_at given n history) false (use_at given station history) octets) one
        (asker_sends (facts_at given sender history) channel sent octets (use_at given station history) uses
        (subst (λ n. IsInPhase n (facts_at given sender history).links (facts_at given sender history).turn.doing) first phase) parts.off_is parts.same_is listener.listens)

    first_packet : phases ≡ 0 → HasAsker given false history station → HasAsker given false after station
    first_packet first has = λ octets asked. elim (either _ _ (sym (asked_is octets) ∙ asked)) [
      | inl before ↦ old_asker false octets (has octets before)
      | inr now ↦ old_asker false octets (new_asker first octets now)
    ]

    -- who sends an answer hears nothing meanwhile
    second_packet : (on : ℕ) (own : List ℕ) → use_at given station after ≡ Sends on own → HasAsker given true history station → HasAsker given true after station
    second_packet on own wants has = λ octets asked. elim (either _ _ (sym (asked_is octets) ∙ asked)) [
      | inl before ↦ old_asker true octets (has octets before)
      | inr now ↦
          let parts = not_advertising (has_received station hearings) (is_advertising channel) (have_one_access sent octets) now in
          let listener = is_listener given fates channel sent history sender station parts.received_is in
          let h : Sends on own ≡ Listens channel = sym wants ∙ same_use ∙ listener.listens in absurd cc
    ]

  packet_asked : (phases : ℕ) (fates : List Fate) (done left : List ℕ) (sender channel : ℕ) (sent : List ℕ) (history : List Event) → given.stations ≡ done ++ sender ∷ left
      → use_at given sender history ≡ Sends channel sent → IsBelongingSoFar given (AtPackets phases done (sender ∷ left)) history
      → (station : ℕ) → is_in station given.stations ≡ true → AskedWell given (AtPackets phases done (sender ∷ left)) history station
      → AskedWell given (AtPackets phases (done ++ sender ∷ []) left) (history ++ Transmitted sender channel sent (hearings_of given fates sender channel sent history) ∷ []) station
  packet_asked zero fates done left sender channel sent history are wanted so_far station in_it has =
      first_packet fates done left sender channel sent history 0 are wanted so_far station in_it refl has
  packet_asked (suc zero) fates done left sender channel sent history are wanted so_far station in_it has = λ on own wants.
      let event = Transmitted sender channel sent (hearings_of given fates sender channel sent history) in
      let own_use = use_same given station history (history ++ event ∷ []) (event_past station history event refl) in
      second_packet fates done left sender channel sent history 1 are wanted so_far station in_it on own wants (has on own (sym own_use ∙ wants))
  packet_asked (suc (suc phases)) fates done left sender channel sent history are wanted so_far station in_it has = tt

  silent_asked : (phases : ℕ) (done later left rest : List ℕ) (history : List Event) (station : ℕ) → AskedWell given (AtPackets phases done left) history station
      → AskedWell given (AtPackets phases later rest) history station
  silent_asked zero done later left rest history station has = has
  silent_asked (suc zero) done later left rest history station has = has
  silent_asked (suc (suc phases)) done later left rest history station has = tt

  air_asked : (phases : ℕ) (history : List Event) (station : ℕ) → AskedWell given (AtPackets phases given.stations []) history station
      → AskedWell given (AtListening phases [] given.stations) history station
  air_asked zero history station has = has
  air_asked (suc phases) history station has = tt

  phase_asked : (phases : ℕ) (history : List Event) → IsBelongingSoFar given (AfterPhases phases) history → (station : ℕ) → is_in station given.stations ≡ true
      → AskedWell given (AfterPhases phases) history station → AskedWell given (AtPackets phases [] given.stations) history station
  phase_asked zero history so_far station in_it has = λ octets asked.
      let none = so_far.asked.asked station in_it octets in absurd (let h : false ≡ true = sym none ∙ asked in absurd cc)
  phase_asked (suc zero) history so_far station in_it has = λ channel octets wanted. has
  phase_asked (suc (suc phases)) history so_far station in_it has = tt

  heard_asked : (phases : ℕ) (history : List Event) (station : ℕ) → is_in station given.stations ≡ true
      → AskedWell given (AtListening phases given.stations []) history station → AskedWell given (AfterPhases (suc phases)) history station
  heard_asked zero history station in_it has = subst (λ b. HasAsker given b history station) in_it has
  heard_asked (suc phases) history station in_it has = tt

  -- ---- a call

  module _ (distinct : AreDistinct given.stations) (done left : List ℕ) (caller : ℕ) (history : List Event) (are : given.stations ≡ done ++ caller ∷ left)
      (so_far : IsBelongingSoFar given (AtListening 0 done (caller ∷ left)) history)
      (so_far_called : IsBelongingSoFar given (AtListening 0 (done ++ caller ∷ []) left) (after_call given caller (step_of (packet_received caller history)) history)) where
    abbrev step : Step
    step = step_of (packet_received caller history)

    abbrev history_called : List Event
    history_called = after_call given caller step history

    out : is_in caller done ≡ false
    out = not_before given.stations done left caller distinct are

    phased : PhasedBy given history caller (at_stage (Within 0) (turns_begun history))
    phased =
        subst (λ b. PhasedBy given history caller (if b then at_stage (Within 1) (turns_begun history) else at_stage (Within 0) (turns_begun history))) out
        (phased_at given (AtListening 0 done (caller ∷ left)) history so_far.asked.hearing.stand caller (among given.stations done left caller are))

    -- the central may be called
    far_called : (far : ℕ) (called : Bool) (want : Use) (octets : List ℕ) → IsAsker (facts_at given far history) called want octets → (same : Bool) → (far == caller) ≡ same
        → IsAsker (facts_at given far history_called) called want octets
    far_called far called want octets asker false differs =
        asker_same _ _ called called want want octets (other_facts given caller step history far differs) refl refl asker
    far_called far called want octets asker true is =
        let equal = eqb-true far caller is in
        let now = subst (λ n. IsAsker (facts_at given n history) called want octets) equal asker in
        subst (λ n. IsAsker (facts_at given n history_called) called want octets) (sym equal)
        (asker_same _ _ called called want want octets (own_facts given caller step history) refl refl
        (asker_next (setup_at given caller) (packet_received caller history) (facts_at given caller history) called want octets phased.phase now))

    -- or the station that heard it, which may answer
    caller_answers : (channel : ℕ) → use_at given caller history ≡ Listens channel → Answers true channel (use_at given caller history_called)
    caller_answers channel listens = λ other octets wanted off.
        let own = own_facts given caller step history in
        let uses = use_sent_at given six (AtListening 0 (done ++ caller ∷ []) left) history_called so_far_called.asked.hearing.stand caller (among given.stations done left caller are) other octets wanted in
        answers_there (setup_at given caller) (packet_received caller history) (facts_at given caller history) phased.uses.in_turn.listens channel
        (wanted_is given caller history ∙ listens) other octets (subst (λ (f : Facts). IsUseSent f (Sends other octets)) own uses) off

    own_called : (station : ℕ) (far : Facts) (octets : List ℕ) → IsAsker far (is_in station done) (use_at given station history) octets → (same : Bool) → (station == caller) ≡ same
        → IsAsker far (is_in station (done ++ caller ∷ [])) (use_at given station history_called) octets
    own_called station far octets asker false differs =
        let facts_same = other_facts given caller step history station differs in
        asker_same far far (is_in station done) (is_in station (done ++ caller ∷ [])) (use_at given station history) (use_at given station history_called) octets refl
        (in_more_other station caller done differs)
        (sym (wanted_is given station history_called) ∙ ap (λ (f : Facts). f.wanted) facts_same ∙ wanted_is given station history) asker
    own_called station far octets asker true is =
        let equal = eqb-true station caller is in
        let channel = (facts_in asker.far).event.channel in
        let was = subst (λ b. Answers b channel (use_at given station history)) (ap (λ n. is_in n done) equal ∙ out) asker.answers in
        let now = caller_answers channel (ap (λ n. use_at given n history) (sym equal) ∙ was) in record {
          handle = asker.handle;
          far = asker.far;
          is_open = asker.is_open;
          asks = asker.asks;
          begins = asker.begins;
          answers = subst (λ b. Answers b channel (use_at given station history_called)) (sym (in_more_same station caller done is))
              (subst (λ n. Answers true channel (use_at given n history_called)) (sym equal) now);
        }

    first_called : (station : ℕ) → HasAsker given (is_in station done) history station → HasAsker given (is_in station (done ++ caller ∷ [])) history_called station
    first_called station has = λ octets asked.
        own_called station (facts_at given (other_of station) history_called) octets
        (far_called (other_of station) (is_in station done) (use_at given station history) octets
        (has octets (sym (asked_called given caller step history station octets) ∙ asked)) (other_of station == caller) refl)
        (station == caller) refl

  call_asked : AreDistinct given.stations → (phases : ℕ) (done left : List ℕ) (caller : ℕ) (history : List Event) → given.stations ≡ done ++ caller ∷ left
      → IsBelongingSoFar given (AtListening phases done (caller ∷ left)) history
      → IsBelongingSoFar given (AtListening phases (done ++ caller ∷ []) left) (after_call given caller (step_of (packet_received caller history)) history)
      → (station : ℕ) → AskedWell given (AtListening phases done (caller ∷ left)) history station
      → AskedWell given (AtListening phases (done ++ caller ∷ []) left) (after_call given caller (step_of (packet_received caller history)) history) station
  call_asked distinct (suc phases) done left caller history are so_far next station has = tt
  call_asked distinct zero done left caller history are so_far next station has = first_called distinct done left caller history are so_far next station has

  -- ---- along a run

  pub asked_well_kept : IsUnderstood → AreTaken → AreDistinct given.stations → IsKept given (AreAskedWell given)
  asked_well_kept understood taken distinct = let kept = belonging_kept understood taken given pair six in record {
    on_turn = λ slot plan history begun at is. record { so_far = kept.on_turn slot plan history begun at is.so_far; asked = λ station in_it. tt };
    on_feed = λ plan done left station history are some now is. record { so_far = kept.on_feed plan done left station history are some now is.so_far; asked = λ one in_it. tt };
    on_fed = λ history is. record { so_far = kept.on_fed history is.so_far; asked = λ station in_it. tt };
    on_begin = λ slot plan done left station history are due is. record { so_far = kept.on_begin slot plan done left station history are due is.so_far; asked = λ one in_it. tt };
    on_begun = λ history is. record { so_far = kept.on_begun history is.so_far; asked = λ station in_it. tt };
    on_phase = λ phases history few is. record {
      so_far = kept.on_phase phases history few is.so_far;
      asked = λ station in_it. phase_asked phases history is.so_far station in_it (is.asked station in_it);
    };
    on_silence = λ phases done left station history are none is. record {
      so_far = kept.on_silence phases done left station history are none is.so_far;
      asked = λ one in_it. silent_asked phases done (done ++ station ∷ []) (station ∷ left) left history one (is.asked one in_it);
    };
    on_packet = λ phases plan done left station channel octets history are some due is. record {
      so_far = kept.on_packet phases plan done left station channel octets history are some due is.so_far;
      asked = λ one in_it. packet_asked phases plan.fates done left station channel octets history are due.is_wanted is.so_far one in_it (is.asked one in_it);
    };
    on_air = λ phases history is. record {
      so_far = kept.on_air phases history is.so_far;
      asked = λ station in_it. air_asked phases history station (is.asked station in_it);
    };
    on_hearing = λ phases done left station history are some is.
        let next = kept.on_hearing phases done left station history are some is.so_far in record {
          so_far = next;
          asked = λ one in_it. call_asked distinct phases done left station history are is.so_far next one (is.asked one in_it);
        };
    on_heard = λ phases history is. record {
      so_far = kept.on_heard phases history is.so_far;
      asked = λ station in_it. heard_asked phases history station in_it (is.asked station in_it);
    };
    on_phases = λ history is. record { so_far = kept.on_phases history is.so_far; asked = λ station in_it. tt };
    on_end = λ done left station history are some is. record { so_far = kept.on_end done left station history are some is.so_far; asked = λ one in_it. tt };
    on_ended = λ history is. record { so_far = kept.on_ended history is.so_far; asked = λ station in_it. tt };
  }

  pub asked_well_first : AreAskedWell given NoTurn []
  asked_well_first = record { so_far = belonging_first given; asked = λ station in_it. tt }

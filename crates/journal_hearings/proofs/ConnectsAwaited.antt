-- In every run of two stations, the other station awaits each CONNECT_IND after its advertisement, and takes it where its side
-- is to open the link by the lines.
use Rattle.std.proofs.Common.{◌≡◌, ℕ, ◌<◌, ◌≤◌, inl, inr, Bool, true, false, Some, List, ◌∷◌, ◌++◌, refl, sym, ap, subst, ◌∙◌, arith}
use Rattle.std.specs.Prelude.{⊤}
use Rattle.ble_base.specs.declared.addresses.Address.{Address}
use Rattle.adv_pdu.specs.declared.pdu.AdvPdu.{AdvPdu}
use Rattle.adv_pdu.specs.declared.pdu.AdvPdu.TheVariants.{Connect}
use Rattle.adv_pdu.specs.declared.pdu.ConnectFields.{ConnectFields}
use Rattle.journal_data.proofs.link_model.Hearing.{IsHeardWhole}
use Rattle.journal_data.specs.open_links.OpenLinks.{has_link_between}
use Rattle.journal_data.specs.controller_model.declared.doing.Doing.{Doing}
use Rattle.journal_data.specs.controller_model.declared.doing.Doing.TheVariants.{Advertises, AwaitsRequest, AwaitsResponse, Connects}
use Rattle.journal_data.specs.controller_model.Facts.{Facts, Sends}
use Rattle.journal_data.specs.controller_model.Packets.{pdu_heard}
use Rattle.journal_data.proofs.controller_model.DataChannels.{link_channel}
use Rattle.journal_data.specs.run_model.Feeding.{AreDistinct}
use Rattle.journal_data.specs.run_model.History.{Event, Hearing, Transmitted, past_of, turns_begun}
use Rattle.journal_data.specs.run_model.Journal.{journal_of, side_of}
use Rattle.journal_data.specs.run_model.LinkEnds.{HaveAddresses}
use Rattle.journal_data.specs.run_model.Links.{is_advertising, is_connect_ind}
use Rattle.journal_data.specs.run_model.Run.{Given, facts_at, history_of, run_of, setup_at, use_at}
use Rattle.journal_data.proofs.run_model.Fronts.{front_at}
use Rattle.journal_data.proofs.run_model.LinkEnds.{AreTaken, IsUnderstood}
use Rattle.journal_data.proofs.run_model.Stations.{among}
use Rattle.journal_data.proofs.run_model.Walk.{AtPackets, Place}
use Rattle.journal_data.proofs.run_laws.ConnectInds.{no_advertising}
use Rattle.journal_data.proofs.run_laws.DistinctAccess.{AreApart}
use Rattle.journal_data.proofs.run_laws.Hearings.{use_sent_at}
use Rattle.journal_data.proofs.run_laws.SentPackets.{IsUseSent, Says}
use Rattle.journal_data.proofs.run_laws.TurnPlaces.{Standing, standing, stands_at}
use Rattle.journal_data.proofs.journal_links.OfTwo.{are_distinct}
use Rattle.journal_data.proofs.journal_packets.AccessOrder.{AreNth}
use Rattle.journal_data.proofs.journal_packets.SoFar.{IsBelongingSoFar}
use Rattle.journal_data.proofs.journal_acks.Counting.{AreKnown}
use Rattle.journal_data.proofs.journal_acks.Known.{known_of}
use Rattle.journal_data.proofs.journal_acks.Seen.{IsSeen, seen_packet}
use Rattle.journal_data.proofs.journal_acks.TwoStations.{IsOfTwo, other_of}
use Rattle.journal_data.proofs.FewLinks.{HaveFewLinks}
use Rattle.journal_data.proofs.KeptData.{IsDataAt, data_kept, other_in}
use Rattle.journal_data.proofs.Law.{first_data}
use Rattle.journal_hearings.specs.Openings.{IsToOpen, is_linked, offer_in}
use Rattle.journal_hearings.specs.Settings.{accept_list, filter_policy}
use Rattle.journal_hearings.proofs.AdvertiserHandles.{advertisers_have_handles}
use Rattle.journal_data.proofs.controller_model.AdvertisersKnown.{advertisers_known}
use Rattle.journal_hearings.proofs.AirDoings.{AwaitsNow, FitsPhase, at_phase}
use Rattle.journal_hearings.proofs.BothKept.{both_kept}
use Rattle.journal_hearings.proofs.ConnectsTaken.{TakesLink, offered_taken, taken_offered}
use Rattle.journal_hearings.proofs.LinkedAddresses.{unlinked, unlinked_lines}
use Rattle.journal_hearings.proofs.OffersMade.{AreOffering, FitsOffer, OffersAt, OffersIt, is_offering, offer_is, offering_first, offering_kept}
use Rattle.journal_hearings.proofs.OnePhase.{ArePassing, passing_first, passing_kept}
use Rattle.journal_hearings.proofs.PeripheralNotes.{IsTaking}
use Rattle.journal_hearings.proofs.RequestsHeard.{waits}
use Rattle.journal_hearings.proofs.SettingsHeld.{Holds}
use Rattle.journal_hearings.proofs.SettingsRead.{settings_read}

-- ---- who sends it, and who awaits it

connecting_phase : (phases : ℕ) (doing : Doing) (pdu : AdvPdu) → Says doing pdu → is_connect_ind (Some pdu) ≡ true → FitsPhase phases doing → phases ≡ 1
connecting_phase phases (Connects channel link) pdu says is fits = fits
connecting_phase phases (Advertises channel) pdu says is fits = absurd (let h : true ≡ false = sym is ∙ says in absurd cc)
connecting_phase phases other pdu says is fits = absurd (let h : true ≡ false = sym is ∙ says in absurd cc)

sent_second : IsUnderstood → (phases : ℕ) (facts : Facts) (channel : ℕ) (octets : List ℕ) (from to : Address) (ch_sel : Bool) (fields : ConnectFields)
    → IsUseSent facts (Sends channel octets) → is_advertising channel ≡ true → pdu_heard channel octets ≡ Some (Connect from to ch_sel fields)
    → FitsPhase phases facts.turn.doing → phases ≡ 1
sent_second understood phases facts channel octets from to ch_sel fields (inl sent) on found fits =
    let told : Some sent.pdu ≡ Some (Connect from to ch_sel fields) = sym (ap (pdu_heard channel) sent.packet ∙ understood channel sent.pdu sent.is_pdu) ∙ found in
    connecting_phase phases facts.turn.doing sent.pdu sent.says (ap is_connect_ind told) fits
sent_second understood phases facts channel octets from to ch_sel fields (inr sent) on found fits =
    let below : channel < 37 = subst (λ (n : ℕ). n < 37) (sym sent.channel_is) (link_channel sent.link) in
    absurd (let h : true ≡ false = sym on ∙ no_advertising channel (is_advertising channel) refl below in absurd cc)

awaits_second : (phases channel : ℕ) (doing : Doing) → AwaitsNow channel doing → FitsPhase phases doing → phases ≡ 1 → doing ≡ AwaitsRequest channel
awaits_second phases channel (AwaitsRequest on) awaits fits second = ap AwaitsRequest awaits
awaits_second phases channel (AwaitsResponse on) awaits fits second = absurd (omega (arith, fits, second))
awaits_second phases channel (Advertises on) awaits fits second = absurd awaits
awaits_second phases channel other awaits fits second = absurd awaits

-- the station that is to take it
record IsReady (given : Given) (history : List Event) (station channel : ℕ) : Type 0 where
  at : Standing
  stands : standing (past_of station history) ≡ Some at
  awaits : (facts_at given station history).turn.doing ≡ AwaitsRequest channel
  offers : FitsOffer (facts_at given station history) (offer_in (side_of station) (journal_of history))

abbrev IsReadyFor : Given → List Event → ℕ → ℕ → List ℕ → Type 0
IsReadyFor given history sender channel octets =
    (from to : Address) (ch_sel : Bool) (fields : ConnectFields) → is_advertising channel ≡ true → pdu_heard channel octets ≡ Some (Connect from to ch_sel fields)
    → IsReady given history (other_of sender) channel

-- what its lines say of its links and its host
record IsWellKnown (given : Given) (history : List Event) (station : ℕ) : Type 0 where
  unlinked_is : (own peer : Address) → is_linked (side_of station) own peer (journal_of history) ≡ false → has_link_between own peer (facts_at given station history).links ≡ false
  unlinked_lines_are : (own peer : Address) → has_link_between own peer (facts_at given station history).links ≡ false → is_linked (side_of station) own peer (journal_of history) ≡ false
  holds : Holds (filter_policy (side_of station) (journal_of history)) (accept_list (side_of station) (journal_of history)) (facts_at given station history)

module _ (understood : IsUnderstood) (given : Given) (pair : IsOfTwo given) (six : HaveAddresses given) where
  distinct : AreDistinct given.stations
  distinct = are_distinct given pair

  abbrev Both : Place → List Event → Type 0
  Both place history = ArePassing given place history × AreOffering given place history

  ready : (phases : ℕ) (done left : List ℕ) (sender channel : ℕ) (octets : List ℕ) (history : List Event) → given.stations ≡ done ++ sender ∷ left
      → use_at given sender history ≡ Sends channel octets → Both (AtPackets phases done (sender ∷ left)) history → IsReadyFor given history sender channel octets
  ready phases done left sender channel octets history are wanted is = λ from to ch_sel fields on found.
      let place = AtPackets phases done (sender ∷ left) in
      let in_it = among given.stations done left sender are in
      let station = other_of sender in
      let too = other_in given pair sender in_it in
      let stand = is.0.hearing.stand in
      let awaiting = waits understood given pair six phases done left sender channel octets history are wanted is.0 (Connect from to ch_sel fields) on found refl in
      let own = at_phase (setup_at given sender) (past_of sender history) phases (turns_begun history) (stand sender in_it) in
      let far = at_phase (setup_at given station) (past_of station history) phases (turns_begun history) (stand station too) in
      let second = sent_second understood phases (facts_at given sender history) channel octets from to ch_sel fields
      (use_sent_at given six place history stand sender in_it channel octets wanted) on found own.fits in
      let doing = awaits_second phases channel (facts_at given station history).turn.doing awaiting.awaits far.fits second in
      let offered : OffersIt given history station = subst (λ n. OffersAt given (AtPackets n done (sender ∷ left)) history station) second (is.1.offers station too) in record {
        at = stands_at place station (turns_begun history);
        stands = stand station too;
        awaits = doing;
        offers = subst (FitsOffer (facts_at given station history)) (sym (offer_is (side_of station) history)) (offered (ap is_offering doing));
      }

  sees : IsSeen given Both (λ history. ⊤) (IsReadyFor given)
  sees = record { turn = λ history is. tt; packet = ready }

  ready_at : (before rest : List Event) (sender channel : ℕ) (octets : List ℕ) (hearings : List Hearing) → history_of (run_of given) ≡ before ++ Transmitted sender channel octets hearings ∷ rest
      → IsReadyFor given before sender channel octets
  ready_at before rest sender channel octets hearings at =
      seen_packet given Both (both_kept given (ArePassing given) (AreOffering given) (passing_kept given six distinct) (offering_kept understood given pair six distinct))
      (λ history. ⊤) (IsReadyFor given) sees (passing_first given, offering_first understood given pair six distinct) before rest sender channel octets hearings at

  module _ (whole : IsHeardWhole) (taken : AreTaken) (nth : AreNth) (apart : AreApart) (few_links : HaveFewLinks given)
      (eight : (station : ℕ) → (setup_at given station).host_buffers ≡ 8) where
    abbrev Q : Place → List Event → Type 0
    Q place history = IsBelongingSoFar given place history

    known : AreKnown given Q
    known = known_of understood taken nth apart given pair six

    abbrev AreWellKnown : List Event → ℕ → ℕ → List ℕ → Type 0
    AreWellKnown history sender channel octets = IsWellKnown given history (other_of sender)

    well_known : (phases : ℕ) (done left : List ℕ) (sender channel : ℕ) (octets : List ℕ) (history : List Event) → given.stations ≡ done ++ sender ∷ left
        → use_at given sender history ≡ Sends channel octets → IsDataAt given Q (AtPackets phases done (sender ∷ left)) history → AreWellKnown history sender channel octets
    well_known phases done left sender channel octets history are wanted is =
        let station = other_of sender in
        let too = other_in given pair sender (among given.stations done left sender are) in
        let well = is.are.well station too in
        let so_far = is.counted.known in
        let front = front_at given (AtPackets phases done (sender ∷ left)) history so_far.front in record {
          unlinked_is = unlinked given pair station too history front.rest front.at well.booked so_far.numbered.numbered;
          unlinked_lines_are = unlinked_lines given pair station too history front.rest front.at well.booked so_far.numbered.numbered;
          holds = settings_read given pair station too history front.rest front.at well.noted well.fed;
        }

    well_known_at : (before rest : List Event) (sender channel : ℕ) (octets : List ℕ) (hearings : List Hearing)
        → history_of (run_of given) ≡ before ++ Transmitted sender channel octets hearings ∷ rest → IsWellKnown given before (other_of sender)
    well_known_at before rest sender channel octets hearings at =
        seen_packet given (IsDataAt given Q) (data_kept whole given Q known pair few_links six distinct eight) (λ history. ⊤) AreWellKnown
        (record { turn = λ history is. tt; packet = well_known }) (first_data given) before rest sender channel octets hearings at

    -- ---- a CONNECT_IND

    pub takes_at : ((station : ℕ) → (setup_at given station).links ≤ 6) → (before rest : List Event) (sender channel : ℕ) (octets : List ℕ) (hearings : List Hearing) (from to : Address) (ch_sel : Bool) (fields : ConnectFields)
        → history_of (run_of given) ≡ before ++ Transmitted sender channel octets hearings ∷ rest → is_advertising channel ≡ true
        → pdu_heard channel octets ≡ Some (Connect from to ch_sel fields) → IsToOpen (side_of (other_of sender)) (journal_of before) from to fields
        → TakesLink (setup_at given (other_of sender)) (facts_at given (other_of sender) before) octets
    takes_at few before rest sender channel octets hearings from to ch_sel fields at on found to_open =
        let station = other_of sender in
        let setup = setup_at given station in
        let facts = facts_at given station before in
        let side = side_of station in
        let journal = journal_of before in
        let is = ready_at before rest sender channel octets hearings at from to ch_sel fields on found in
        let well = well_known_at before rest sender channel octets hearings at in
        offered_taken facts (filter_policy side journal) (accept_list side journal) (offer_in side journal) is.offers well.holds
        (advertisers_known setup (past_of station before)) from to setup octets channel ch_sel fields is.awaits
        found to_open.lets to_open.in_range (well.unlinked_is to from to_open.new)
        (λ one is_on connectable. advertisers_have_handles setup (past_of station before) is.at one (few station) is.stands is_on connectable)

    pub to_open_at : (before rest : List Event) (sender channel : ℕ) (octets : List ℕ) (hearings : List Hearing)
        → history_of (run_of given) ≡ before ++ Transmitted sender channel octets hearings ∷ rest → is_advertising channel ≡ true
        → (taking : IsTaking (facts_at given (other_of sender) before) octets) → pdu_heard channel octets ≡ Some (Connect taking.from taking.to taking.ch_sel taking.fields)
        → IsToOpen (side_of (other_of sender)) (journal_of before) taking.from taking.to taking.fields
    to_open_at before rest sender channel octets hearings at on taking found =
        let station = other_of sender in
        let side = side_of station in
        let journal = journal_of before in
        let is = ready_at before rest sender channel octets hearings at taking.from taking.to taking.ch_sel taking.fields on found in
        let well = well_known_at before rest sender channel octets hearings at in
        let offered = taken_offered (facts_at given station before) octets (filter_policy side journal) (accept_list side journal) (offer_in side journal) taking is.offers well.holds
        (advertisers_known (setup_at given station) (past_of station before)) in
        record { lets = offered.lets; in_range = offered.in_range; new = well.unlinked_lines_are taking.to taking.from offered.new }

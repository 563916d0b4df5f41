-- While a controller awaits a request, the last connectable advertisement of its side in the turn is the one that it sent, and
-- there is none where that is not connectable.
use Rattle.std.proofs.Common.{◌≡◌, ℕ, zero, suc, ◌==◌, Bool, true, false, Option, Some, None, List, [], ◌∷◌, ◌++◌, refl, sym, ap, subst, ◌∙◌, arith}
use Rattle.std.specs.Prelude.{⊤, ◌&&◌, fold, map, take, if◌then◌else◌}
use Rattle.std.specs.Option.{option_map}
use Rattle.std.proofs.lemmas.Bool.{eqb-true}
use Rattle.std.proofs.lemmas.List.Sums.{fold-append}
use Rattle.ble_base.specs.declared.notes.Note.{Note}
use Rattle.ble_base.specs.declared.notes.Note.TheVariants.{Up as UpNote}
use Rattle.ble_base.specs.declared.roles.Side.{Side}
use Rattle.adv_pdu.specs.declared.pdu.AdvPdu.{AdvPdu}
use Rattle.advertise.specs.Advertising.{advertisement}
use Rattle.journal_data.specs.link_model.declared.setup.LinkSetup.{LinkSetup}
use Rattle.scan_init.specs.Initiating.{InitiatorFacts}
use Rattle.scan_init.specs.Reports.{ScannerFacts, does_ask, scan_answer}
use Rattle.journal_data.specs.open_links.OpenLinks.{link_at}
use Rattle.radio_replay.specs.declared.fates.Fate.{Fate}
use Rattle.journal_data.specs.controller_model.declared.doing.Doing.{Doing}
use Rattle.journal_data.specs.controller_model.declared.doing.Doing.TheVariants.{Advertises, AwaitsRequest, Responds, Scans, Requests, AwaitsResponse}
use Rattle.journal_data.specs.controller_model.declared.doing.Doing.TheVariants.{Initiates, Connects, CentralSends, CentralListens, PeripheralListens, Rests}
use Rattle.journal_data.specs.controller_model.Step.{Step, HostOctet, TurnBegins}
use Rattle.journal_data.specs.controller_model.Facts.{Setup, Facts, Advertising, Sends, Listens}
use Rattle.journal_data.specs.controller_model.Heard.{asks_if, connects, facts_with_words, fields_sent, has_room, heard, if_pdu, initiator_heard, link_made, link_to, replies_in}
use Rattle.journal_data.specs.controller_model.Heard.{reply_if, scanner_heard, unheard}
use Rattle.journal_data.specs.controller_model.Packets.{advertisement_sent, advertising_packet, pdu_heard, sends_pdu}
use Rattle.journal_data.specs.controller_model.Side.{facts_after, facts_of, notes_after}
use Rattle.journal_data.proofs.controller_model.Phases.{EachOutcome, heard_is, unheard_is}
use Rattle.journal_data.proofs.controller_model.Sent.{AdvertisingFits, DoingFits, SomePdu, advertisement_is, sends_well}
use Rattle.journal_data.specs.run_model.Due.{packet_in}
use Rattle.journal_data.specs.run_model.Feeding.{AreDistinct}
use Rattle.journal_data.specs.run_model.History.{Event, TurnBegan, HostFed, Called, Noted, Transmitted, Hearing, packet_received, past_of, turns_begun}
use Rattle.journal_data.specs.run_model.Journal.{air_entries, entries_of, entry_of, journal_from, journal_of, side_of}
use Rattle.journal_data.specs.run_model.LinkEnds.{HaveAddresses}
use Rattle.journal_data.specs.run_model.Links.{Links, first_links, is_advertising, links_after}
use Rattle.journal_data.specs.run_model.Run.{Given, after_call, after_feed, after_octets, facts_at, hearings_of, octets_left, setup_at, step_of, use_at}
use Rattle.journal_data.proofs.run_model.Calls.{fold_called, fold_event}
use Rattle.journal_data.proofs.run_model.LinkEnds.{IsUnderstood, of_advertising, wanted_is}
use Rattle.journal_data.proofs.run_model.Stations.{is_in, among, in_more_other, in_more_same, not_before}
use Rattle.journal_data.proofs.run_model.Walk.{Place, NoTurn, AtFeeds, AtBegins, AfterPhases, AtPackets, AtListening, AtEnds, IsKept}
use Rattle.journal_data.proofs.run_laws.ByCalls.{first_hears}
use Rattle.journal_data.proofs.run_laws.Hearings.{AreHearing, hearing_kept, other_facts, own_facts}
use Rattle.journal_data.proofs.run_laws.InAgreement.{differs_back}
use Rattle.journal_data.proofs.run_laws.TurnPlaces.{Within, at_stage, event_past, stands_first}
use Rattle.journal_data.specs.journal_packets.Belonging.{is_side}
use Rattle.journal_data.proofs.journal_acks.TwoStations.{IsOfTwo, hearing_of, one_hearing, other_apart, side_same}
use Rattle.journal_hearings.specs.Openings.{offer_after, offer_in, newer_offer}
use Rattle.journal_hearings.proofs.AirDoings.{FitsPhase, UsesIt, at_phase, pdu_on}

-- ---- the offer of a side in a history

abbrev pub offer_event : Side → Option AdvPdu → Event → Option AdvPdu
offer_event side last (TurnBegan slot radios) = None
offer_event side last (Transmitted station channel octets hearings) = fold (offer_after side) last (air_entries (side_of station) channel octets hearings)
offer_event side last (HostFed station octets) = last
offer_event side last (Called station step) = last
offer_event side last (Noted station note) = last

abbrev pub offer_at : Side → List Event → Option AdvPdu
offer_at side history = fold (offer_event side) None history

note_offer : (side own : Side) (link_of : ℕ → ℕ) (last : ℕ) (note : Note) (offer : Option AdvPdu) → offer_after side offer (entry_of own link_of last note) ≡ offer
note_offer side own link_of last (UpNote packet) offer = refl
note_offer side own link_of last note offer = refl

event_offer : (side : Side) (links : Links) (event : Event) (offer : Option AdvPdu) → fold (offer_after side) offer (entries_of links event) ≡ offer_event side offer event
event_offer side links (TurnBegan slot radios) offer = refl
event_offer side links (HostFed station octets) offer = refl
event_offer side links (Called station step) offer = refl
event_offer side links (Noted station note) offer = note_offer side (side_of station) (links.link_of station) (links.last_of station) note offer
event_offer side links (Transmitted station channel octets hearings) offer = refl

journal_offer : (side : Side) (links : Links) (history : List Event) (offer : Option AdvPdu)
    → fold (offer_after side) offer (journal_from links history) ≡ fold (offer_event side) offer history
journal_offer side links [] offer = refl
journal_offer side links (event ∷ history) offer =
    fold-append (offer_after side) offer (entries_of links event) (journal_from (links_after links event) history)
    ∙ ap (λ last. fold (offer_after side) last (journal_from (links_after links event) history)) (event_offer side links event offer)
    ∙ journal_offer side (links_after links event) history (offer_event side offer event)

pub offer_is : (side : Side) (history : List Event) → offer_in side (journal_of history) ≡ offer_at side history
unfolding journal_of
offer_is side history = journal_offer side first_links history None

-- ---- calls and octets

offer_called : (side : Side) (given : Given) (station : ℕ) (step : Step) (history : List Event) → offer_at side (after_call given station step history) ≡ offer_at side history
offer_called side given station step history =
    fold_called (offer_event side) None station step (notes_after (setup_at given station) (facts_at given station history) step) history (λ offer note. refl)

offer_octets : (side : Side) (given : Given) (station : ℕ) (octets : List ℕ) (history : List Event) → offer_at side (after_octets given station octets history) ≡ offer_at side history
offer_octets side given station [] history = refl
offer_octets side given station (octet ∷ octets) history =
    offer_octets side given station octets (after_call given station (HostOctet octet) history) ∙ offer_called side given station (HostOctet octet) history

offer_fed : (side : Side) (given : Given) (station : ℕ) (octets : List ℕ) (history : List Event) → offer_at side (after_feed given station octets history) ≡ offer_at side history
offer_fed side given station [] history = refl
offer_fed side given station (octet ∷ octets) history =
    offer_octets side given station (octet ∷ octets) (history ++ HostFed station (octet ∷ octets) ∷ [])
    ∙ fold_event (offer_event side) None history (HostFed station (octet ∷ octets))

-- ---- a packet

air_same : (side sender : Side) (channel : ℕ) (octets : List ℕ) (hearings : List Hearing) (offer : Option AdvPdu) → is_side sender side ≡ false
    → fold (offer_after side) offer (air_entries sender channel octets hearings) ≡ offer
air_same side sender channel octets [] offer differs = refl
air_same side sender channel octets (hearing ∷ hearings) offer differs =
    ap (λ b. if b && is_advertising channel then newer_offer offer (pdu_heard channel octets) else offer) differs

-- what a side offers with its packet
air_new : (side : Side) (channel : ℕ) (octets : List ℕ) (hearing : Hearing) (offer : Option AdvPdu) → is_side side side ≡ true → is_advertising channel ≡ true
    → fold (offer_after side) offer (air_entries side channel octets (hearing ∷ [])) ≡ newer_offer offer (pdu_heard channel octets)
air_new side channel octets hearing offer same on =
    (λ i. if same i && on i then newer_offer offer (pdu_heard channel octets) else offer)

-- ---- the advertisement of a controller

-- a CONNECT_IND answers this one
abbrev pub FitsOffer : Facts → Option AdvPdu → Type 0
FitsOffer facts offer = offer ≡ newer_offer None (advertisement_sent facts)

-- a controller that sends its advertisement, and then awaits a request, offers that
abbrev pub is_offering : Doing → Bool
is_offering (Advertises channel) = true
is_offering (AwaitsRequest channel) = true
is_offering other = false

abbrev pub Offers : Facts → Option AdvPdu → Type 0
Offers facts offer = is_offering facts.turn.doing ≡ true → FitsOffer facts offer

same_fits : (before after : Facts) (offer later : Option AdvPdu) → after.advertising ≡ before.advertising → later ≡ offer → FitsOffer before offer → FitsOffer after later
same_fits before after offer later same is fits =
    is ∙ fits ∙ ap (λ (a : Advertising). newer_offer None (option_map (λ on. advertisement on.params a.data_octets) a.on)) (sym same)

same_offers : (before after : Facts) (offer later : Option AdvPdu) → after ≡ before → later ≡ offer → Offers before offer → Offers after later
same_offers before after offer later same is offers = λ doing.
    same_fits before after offer later (ap (λ (f : Facts). f.advertising) same) is (offers (ap (λ (f : Facts). is_offering f.turn.doing) (sym same) ∙ doing))

no_phase : (phases : ℕ) (X : Type 0) → 0 ≡ suc phases → X
no_phase phases X is = absurd (omega (arith, is))

-- what is sent in the first phase is the advertisement
record IsOffered (facts : Facts) (channel : ℕ) (octets : List ℕ) : Type 0 where
  on_channel : is_advertising channel ≡ true
  found : pdu_heard channel octets ≡ advertisement_sent facts

first_offered : IsUnderstood → (facts : Facts) (doing : Doing) (channel : ℕ) (octets : List ℕ) → AdvertisingFits facts.advertising → FitsPhase 0 doing
    → DoingFits doing → UsesIt facts doing → facts.wanted ≡ Sends channel octets → is_offering doing ≡ true → IsOffered facts channel octets
first_offered understood facts (Advertises on) channel octets can fits does uses wants offering =
    let made = pdu_on on channel (advertisement_sent facts) octets (sym uses ∙ wants) in
    let packet : Sends channel (advertising_packet channel made.pdu) ≡ Sends channel octets = made.sent in
    let same : advertising_packet channel made.pdu ≡ octets = cc in
    let is_pdu = subst SomePdu made.is (advertisement_is facts.advertising facts.advertising.on can can.on_fits) in record {
      on_channel = subst (λ n. is_advertising n ≡ true) made.same (of_advertising on does);
      found = ap (pdu_heard channel) (sym same) ∙ understood channel made.pdu is_pdu ∙ sym made.is;
    }
first_offered understood facts (AwaitsRequest on) channel octets can fits does uses wants offering = no_phase 0 _ fits
first_offered understood facts other channel octets can fits does uses wants offering = absurd cc

-- where nothing is sent there is none
none_by : (on : ℕ) (advertisement : Option AdvPdu) → packet_in (sends_pdu on advertisement) ≡ [] → newer_offer None advertisement ≡ None
none_by on None none = refl
none_by on (Some pdu) none = absurd cc

none_offered : (facts : Facts) (doing : Doing) → FitsPhase 0 doing → UsesIt facts doing → packet_in facts.wanted ≡ [] → is_offering doing ≡ true → FitsOffer facts None
none_offered facts (Advertises on) fits uses none offering = sym (none_by on (advertisement_sent facts) (ap packet_in (sym uses) ∙ none))
none_offered facts (AwaitsRequest on) fits uses none offering = no_phase 0 _ fits
none_offered facts other fits uses none offering = absurd cc

-- ---- the first phase changes nothing of it

scanned_same : (scanner : Option ScannerFacts) (may_ask : Bool) (channel : ℕ) (pdu : AdvPdu) (facts : Facts)
    → (scanner_heard scanner may_ask channel pdu facts).facts.advertising ≡ facts.advertising
scanned_same None may_ask channel pdu facts = refl
scanned_same (Some on) may_ask channel pdu facts = refl

scans_same : (found : Option AdvPdu) (channel : ℕ) (facts : Facts)
    → (if_pdu found facts (λ pdu. scanner_heard facts.scanning.on true channel pdu facts)).facts.advertising ≡ facts.advertising
scans_same None channel facts = refl
scans_same (Some pdu) channel facts = scanned_same facts.scanning.on true channel pdu facts

connects_same : (link : Option LinkSetup) (setup : Setup) (channel : ℕ) (facts : Facts) → (connects link setup channel facts).facts.advertising ≡ facts.advertising
connects_same None setup channel facts = refl
connects_same (Some link) setup channel facts = refl

initiated_same : (initiator : Option InitiatorFacts) (setup : Setup) (channel : ℕ) (pdu : AdvPdu) (facts : Facts)
    → (initiator_heard initiator setup channel pdu facts).facts.advertising ≡ facts.advertising
initiated_same None setup channel pdu facts = refl
initiated_same (Some on) setup channel pdu facts = connects_same (link_to setup on pdu facts) setup channel facts

initiates_same : (found : Option AdvPdu) (setup : Setup) (channel : ℕ) (facts : Facts)
    → (if_pdu found facts (λ pdu. initiator_heard facts.initiator setup channel pdu facts)).facts.advertising ≡ facts.advertising
initiates_same None setup channel facts = refl
initiates_same (Some pdu) setup channel facts = initiated_same facts.initiator setup channel pdu facts

unheard_same : (doing : Doing) (facts : Facts) → FitsPhase 0 doing → (unheard doing facts).facts.advertising ≡ facts.advertising
unheard_same (Advertises channel) facts fits = refl
unheard_same (Requests channel advertiser) facts fits = no_phase 0 _ fits
unheard_same (Connects channel link) facts fits = no_phase 0 _ fits
unheard_same (CentralSends handle) facts fits = refl
unheard_same other facts fits = refl

heard_same : (setup : Setup) (doing : Doing) (octets : List ℕ) (facts : Facts) → FitsPhase 0 doing → (heard setup doing octets facts).facts.advertising ≡ facts.advertising
heard_same setup (AwaitsRequest channel) octets facts fits = no_phase 0 _ fits
heard_same setup (Scans channel) octets facts fits = scans_same (pdu_heard channel octets) channel facts
heard_same setup (AwaitsResponse channel) octets facts fits = no_phase 1 _ fits
heard_same setup (Initiates channel) octets facts fits = initiates_same (pdu_heard channel octets) setup channel facts
heard_same setup (CentralListens handle) octets facts fits = refl
heard_same setup (PeripheralListens handle) octets facts fits = refl
heard_same setup (Advertises channel) octets facts fits = refl
heard_same setup (Requests channel advertiser) octets facts fits = no_phase 0 _ fits
heard_same setup (Connects channel link) octets facts fits = no_phase 0 _ fits
heard_same setup (CentralSends handle) octets facts fits = refl
heard_same setup other octets facts fits = refl

phase_same : (setup : Setup) (received : Option (List ℕ)) (facts : Facts) → FitsPhase 0 facts.turn.doing → (facts_after setup facts (step_of received)).advertising ≡ facts.advertising
phase_same setup None facts fits = unheard_same facts.turn.doing facts fits
phase_same setup (Some octets) facts fits = heard_same setup facts.turn.doing octets facts fits

-- who offers after it did before it
asks_none : (asks : Bool) (channel : ℕ) (pdu : AdvPdu) → is_offering (asks_if asks channel pdu) ≡ false
asks_none true channel pdu = refl
asks_none false channel pdu = refl

replies_none : (replies : Bool) (handle : ℕ) → is_offering (reply_if replies handle) ≡ false
replies_none true handle = refl
replies_none false handle = refl

none_next : (next : Doing) (X : Type 0) → is_offering next ≡ false → is_offering next ≡ true → X
none_next next X none is = absurd (let h : true ≡ false = sym is ∙ none in cc)

offers_before : (setup : Setup) (facts : Facts) → EachOutcome setup facts (λ outcome. is_offering outcome.next ≡ true → is_offering facts.turn.doing ≡ true)
offers_before setup facts = record {
  rests = λ is. none_next Rests _ refl is;
  awaits_request = λ channel doing is. ap is_offering doing;
  awaits_response = λ channel advertiser doing is. none_next (AwaitsResponse channel) _ refl is;
  central_listens = λ handle doing is. none_next (CentralListens handle) _ refl is;
  sent = λ channel link doing is. none_next Rests _ refl is;
  responds = λ channel on doing is_on is. none_next (Responds channel) _ refl is;
  taken = λ channel octets pdu on fields handle is_on hears takes free is. none_next Rests _ refl is;
  scanned = λ channel octets pdu on doing is_on hears is.
      let asks = true && does_ask (scan_answer on.params facts.view.accepted on.recent pdu) in none_next (asks_if asks channel pdu) _ (asks_none asks channel pdu) is;
  answered = λ channel octets pdu on doing is_on hears is. none_next Rests _ refl is;
  connects = λ channel octets pdu on access handle doing is_on hears answers next free in_range is.
      none_next (Connects channel (link_made facts.view on.params.own pdu (fields_sent setup on access facts) handle)) _ refl is;
  received = λ handle octets is.
      let replies = replies_in facts.turn.slot (has_room setup facts) (link_at handle facts.links) octets in none_next (reply_if replies handle) _ (replies_none replies handle) is;
}

offering_before : (setup : Setup) (received : Option (List ℕ)) (facts : Facts) → is_offering (facts_after setup facts (step_of received)).turn.doing ≡ true
    → is_offering facts.turn.doing ≡ true
offering_before setup None facts is = unheard_is setup facts _ (offers_before setup facts) facts.turn.doing refl is
offering_before setup (Some octets) facts is =
    heard_is setup facts (λ outcome. is_offering outcome.next ≡ true → is_offering facts.turn.doing ≡ true) (offers_before setup facts)
    facts.turn.doing octets refl (λ handle. (offers_before setup (facts_with_words setup handle facts)).received handle octets) is

-- ---- at each place of a run

listens_for : (facts : Facts) (doing : Doing) (channel : ℕ) (octets : List ℕ) (X : Type 0) → FitsPhase 1 doing → UsesIt facts doing → facts.wanted ≡ Sends channel octets
    → is_offering doing ≡ true → X
listens_for facts (AwaitsRequest on) channel octets X fits uses wants offering = absurd (let h : Listens on ≡ Sends channel octets = sym uses ∙ wants in cc)
listens_for facts (Advertises on) channel octets X fits uses wants offering = no_phase 0 X (sym fits)
listens_for facts other channel octets X fits uses wants offering = absurd cc

-- what a station offers is what its side offered last
abbrev pub OffersIt : Given → List Event → ℕ → Type 0
OffersIt given history station = Offers (facts_at given station history) (offer_at (side_of station) history)

abbrev pub SentOffer : Bool → Given → List Event → ℕ → Type 0
SentOffer true given history station = OffersIt given history station
SentOffer false given history station = offer_at (side_of station) history ≡ None

abbrev pub OffersAt : Given → Place → List Event → ℕ → Type 0
OffersAt given NoTurn history station = ⊤
OffersAt given (AtFeeds done left) history station = SentOffer false given history station
OffersAt given (AtBegins done left) history station = SentOffer false given history station
OffersAt given (AfterPhases zero) history station = SentOffer false given history station
OffersAt given (AfterPhases (suc zero)) history station = SentOffer true given history station
OffersAt given (AfterPhases (suc (suc phases))) history station = ⊤
OffersAt given (AtPackets zero done left) history station = SentOffer (is_in station done) given history station
OffersAt given (AtPackets (suc zero) done left) history station = OffersIt given history station
OffersAt given (AtPackets (suc (suc phases)) done left) history station = ⊤
OffersAt given (AtListening zero done left) history station = SentOffer true given history station
OffersAt given (AtListening (suc phases) done left) history station = ⊤
OffersAt given (AtEnds done left) history station = ⊤

pub record AreOffering (given : Given) (place : Place) (history : List Event) : Type 0 where
  pub hearing : AreHearing given place history
  pub offers : (station : ℕ) → is_in station given.stations ≡ true → OffersAt given place history station

module _ (understood : IsUnderstood) (given : Given) (pair : IsOfTwo given) (six : HaveAddresses given) (distinct : AreDistinct given.stations) where
  -- ---- a packet

  module _ (fates : List Fate) (done left : List ℕ) (sender channel : ℕ) (octets : List ℕ) (history : List Event) (are : given.stations ≡ done ++ sender ∷ left)
      (wanted : use_at given sender history ≡ Sends channel octets) where
    abbrev event : Event
    event = Transmitted sender channel octets (hearings_of given fates sender channel octets history)

    abbrev after : List Event
    after = history ++ event ∷ []

    sender_in : is_in sender given.stations ≡ true
    sender_in = among given.stations done left sender are

    same : (station : ℕ) → facts_at given station after ≡ facts_at given station history
    same station = ap (facts_of (setup_at given station)) (event_past station history event refl)

    other_offer : (station : ℕ) → is_in station given.stations ≡ true → (station == sender) ≡ false → offer_at (side_of station) after ≡ offer_at (side_of station) history
    other_offer station in_it differs =
        fold_event (offer_event (side_of station)) None history event
        ∙ air_same (side_of station) (side_of sender) channel octets (hearings_of given fates sender channel octets history) (offer_at (side_of station) history)
        (other_apart given pair station sender in_it sender_in (differs_back station sender differs))

    wants : (facts_at given sender history).wanted ≡ Sends channel octets
    wants = wanted_is given sender history ∙ wanted

    -- in the first phase
    own_offer : AreHearing given (AtPackets 0 done (sender ∷ left)) history → offer_at (side_of sender) history ≡ None → OffersIt given after sender
    own_offer hearing none = λ offering.
        let facts = facts_at given sender history in
        let setup = setup_at given sender in
        let past = past_of sender history in
        let now = at_phase setup past 0 (turns_begun history) (hearing.stand sender sender_in) in
        let well = sends_well setup (six sender) past in
        let sent = first_offered understood facts facts.turn.doing channel octets well.can.advertising now.fits well.does now.uses wants
        (ap (λ (f : Facts). is_offering f.turn.doing) (sym (same sender)) ∙ offering) in
        fold_event (offer_event (side_of sender)) None history event
        ∙ ap (λ hearings. fold (offer_after (side_of sender)) (offer_at (side_of sender) history) (air_entries (side_of sender) channel octets hearings))
        (one_hearing given pair fates sender channel octets history sender_in)
        ∙ air_new (side_of sender) channel octets (hearing_of given fates sender channel octets history) (offer_at (side_of sender) history) (side_same sender) sent.on_channel
        ∙ (λ i. newer_offer (none i) (sent.found i))
        ∙ ap (λ (f : Facts). newer_offer None (advertisement_sent f)) (sym (same sender))

    kept_offer : (took : Bool) (station : ℕ) → is_in station given.stations ≡ true → (station == sender) ≡ false → SentOffer took given history station → SentOffer took given after station
    kept_offer true station in_it differs offers =
        same_offers (facts_at given station history) (facts_at given station after) (offer_at (side_of station) history) (offer_at (side_of station) after)
        (same station) (other_offer station in_it differs) offers
    kept_offer false station in_it differs none = other_offer station in_it differs ∙ none

    first_packet : AreHearing given (AtPackets 0 done (sender ∷ left)) history → is_in sender done ≡ false → (station : ℕ) → is_in station given.stations ≡ true
        → SentOffer (is_in sender done) given history sender → SentOffer (is_in station done) given history station → (one : Bool) → (station == sender) ≡ one
        → SentOffer (is_in station (done ++ sender ∷ [])) given after station
    first_packet hearing out station in_it own has true is =
        subst (λ b. SentOffer b given after station) (sym (in_more_same station sender done is))
        (subst (OffersIt given after) (sym (eqb-true station sender is)) (own_offer hearing (subst (λ b. SentOffer b given history sender) out own)))
    first_packet hearing out station in_it own has false is =
        subst (λ b. SentOffer b given after station) (sym (in_more_other station sender done is)) (kept_offer (is_in station done) station in_it is has)

    -- who awaits a request sends nothing
    second_packet : AreHearing given (AtPackets 1 done (sender ∷ left)) history → (station : ℕ) → is_in station given.stations ≡ true → OffersIt given history station
        → (one : Bool) → (station == sender) ≡ one → OffersIt given after station
    second_packet hearing station in_it has true is = λ offering.
        let facts = facts_at given sender history in
        let now = at_phase (setup_at given sender) (past_of sender history) 1 (turns_begun history) (hearing.stand sender sender_in) in
        listens_for facts facts.turn.doing channel octets _ now.fits now.uses wants
        (ap (λ (f : Facts). is_offering f.turn.doing) (sym (ap (λ n. facts_at given n after) (eqb-true station sender is) ∙ same sender)) ∙ offering)
    second_packet hearing station in_it has false is = kept_offer true station in_it is has

  packet_offers : (phases : ℕ) (fates : List Fate) (done left : List ℕ) (sender channel : ℕ) (octets : List ℕ) (history : List Event) → given.stations ≡ done ++ sender ∷ left
      → use_at given sender history ≡ Sends channel octets → AreOffering given (AtPackets phases done (sender ∷ left)) history → (station : ℕ) → is_in station given.stations ≡ true
      → OffersAt given (AtPackets phases (done ++ sender ∷ []) left) (history ++ Transmitted sender channel octets (hearings_of given fates sender channel octets history) ∷ []) station
  packet_offers zero fates done left sender channel octets history are wanted is station in_it =
      first_packet fates done left sender channel octets history are wanted is.hearing (not_before given.stations done left sender distinct are) station in_it
      (is.offers sender (among given.stations done left sender are)) (is.offers station in_it) (station == sender) refl
  packet_offers (suc zero) fates done left sender channel octets history are wanted is station in_it =
      second_packet fates done left sender channel octets history are wanted is.hearing station in_it (is.offers station in_it) (station == sender) refl
  packet_offers (suc (suc phases)) fates done left sender channel octets history are wanted is station in_it = tt

  -- who sends nothing offers nothing
  silent_own : (done left : List ℕ) (silent : ℕ) (history : List Event) → given.stations ≡ done ++ silent ∷ left → packet_in (use_at given silent history) ≡ []
      → AreHearing given (AtPackets 0 done (silent ∷ left)) history → offer_at (side_of silent) history ≡ None → OffersIt given history silent
  silent_own done left silent history are quiet hearing none = λ offering.
      let facts = facts_at given silent history in
      let now = at_phase (setup_at given silent) (past_of silent history) 0 (turns_begun history) (hearing.stand silent (among given.stations done left silent are)) in
      none ∙ none_offered facts facts.turn.doing now.fits now.uses (ap packet_in (wanted_is given silent history) ∙ quiet) offering

  silent_by : (done left : List ℕ) (silent : ℕ) (history : List Event) → given.stations ≡ done ++ silent ∷ left → packet_in (use_at given silent history) ≡ []
      → AreHearing given (AtPackets 0 done (silent ∷ left)) history → (station : ℕ) → is_in silent done ≡ false → SentOffer (is_in silent done) given history silent
      → SentOffer (is_in station done) given history station → (one : Bool) → (station == silent) ≡ one → SentOffer (is_in station (done ++ silent ∷ [])) given history station
  silent_by done left silent history are quiet hearing station out own has true is =
      subst (λ b. SentOffer b given history station) (sym (in_more_same station silent done is))
      (subst (OffersIt given history) (sym (eqb-true station silent is))
      (silent_own done left silent history are quiet hearing (subst (λ b. SentOffer b given history silent) out own)))
  silent_by done left silent history are quiet hearing station out own has false is =
      subst (λ b. SentOffer b given history station) (sym (in_more_other station silent done is)) has

  silence_offers : (phases : ℕ) (done left : List ℕ) (silent : ℕ) (history : List Event) → given.stations ≡ done ++ silent ∷ left → packet_in (use_at given silent history) ≡ []
      → AreOffering given (AtPackets phases done (silent ∷ left)) history → (station : ℕ) → is_in station given.stations ≡ true
      → OffersAt given (AtPackets phases (done ++ silent ∷ []) left) history station
  silence_offers zero done left silent history are quiet is station in_it =
      silent_by done left silent history are quiet is.hearing station (not_before given.stations done left silent distinct are)
      (is.offers silent (among given.stations done left silent are)) (is.offers station in_it) (station == silent) refl
  silence_offers (suc zero) done left silent history are quiet is station in_it = is.offers station in_it
  silence_offers (suc (suc phases)) done left silent history are quiet is station in_it = tt

  -- ---- the other steps

  phase_offers : (phases : ℕ) (history : List Event) (station : ℕ) → OffersAt given (AfterPhases phases) history station → OffersAt given (AtPackets phases [] given.stations) history station
  phase_offers zero history station has = has
  phase_offers (suc zero) history station has = has
  phase_offers (suc (suc phases)) history station has = tt

  air_offers : (phases : ℕ) (history : List Event) (station : ℕ) → is_in station given.stations ≡ true → OffersAt given (AtPackets phases given.stations []) history station
      → OffersAt given (AtListening phases [] given.stations) history station
  air_offers zero history station in_it has = subst (λ b. SentOffer b given history station) in_it has
  air_offers (suc phases) history station in_it has = tt

  call_by : (caller : ℕ) (history : List Event) (station : ℕ) → FitsPhase 0 (facts_at given caller history).turn.doing → OffersIt given history station
      → (one : Bool) → (station == caller) ≡ one → OffersIt given (after_call given caller (step_of (packet_received caller history)) history) station
  call_by caller history station fits has true is =
      let step = step_of (packet_received caller history) in
      let after = after_call given caller step history in
      let facts = facts_at given caller history in
      let setup = setup_at given caller in
      let own = own_facts given caller step history in
      let equal = eqb-true station caller is in
      subst (OffersIt given after) (sym equal) (λ offering.
      same_fits facts (facts_at given caller after) (offer_at (side_of caller) history) (offer_at (side_of caller) after)
      (ap (λ (f : Facts). f.advertising) own ∙ phase_same setup (packet_received caller history) facts fits) (offer_called (side_of caller) given caller step history)
      (subst (OffersIt given history) equal has
      (offering_before setup (packet_received caller history) facts (ap (λ (f : Facts). is_offering f.turn.doing) (sym own) ∙ offering))))
  call_by caller history station fits has false is =
      let step = step_of (packet_received caller history) in
      let after = after_call given caller step history in
      same_offers (facts_at given station history) (facts_at given station after) (offer_at (side_of station) history) (offer_at (side_of station) after)
      (other_facts given caller step history station is) (offer_called (side_of station) given caller step history) has

  call_offers : (phases : ℕ) (done left : List ℕ) (caller : ℕ) (history : List Event) → given.stations ≡ done ++ caller ∷ left
      → AreOffering given (AtListening phases done (caller ∷ left)) history → (station : ℕ) → is_in station given.stations ≡ true
      → OffersAt given (AtListening phases (done ++ caller ∷ []) left) (after_call given caller (step_of (packet_received caller history)) history) station
  call_offers zero done left caller history are is station in_it =
      let turns = turns_begun history in
      let stands = is.hearing.stand caller (among given.stations done left caller are)
      ∙ ap (λ b. Some (if b then at_stage (Within 1) turns else at_stage (Within 0) turns)) (not_before given.stations done left caller distinct are) in
      let now = at_phase (setup_at given caller) (past_of caller history) 0 turns stands in
      call_by caller history station now.fits (is.offers station in_it) (station == caller) refl
  call_offers (suc phases) done left caller history are is station in_it = tt

  heard_offers : (phases : ℕ) (history : List Event) (station : ℕ) → OffersAt given (AtListening phases given.stations []) history station
      → OffersAt given (AfterPhases (suc phases)) history station
  heard_offers zero history station has = has
  heard_offers (suc phases) history station has = tt

  -- ---- along a run

  pub offering_kept : IsKept given (AreOffering given)
  offering_kept = let kept = hearing_kept given six distinct in record {
    on_turn = λ slot plan history begun at is. record {
      hearing = kept.on_turn slot plan history begun at is.hearing;
      offers = λ station in_it. fold_event (offer_event (side_of station)) None history (TurnBegan slot (map plan.radio_of given.stations));
    };
    on_feed = λ plan done left station history are some now is. record {
      hearing = kept.on_feed plan done left station history are some now is.hearing;
      offers = λ one in_it. offer_fed (side_of one) given station (take (plan.feed_of station) (octets_left given station history)) history ∙ is.offers one in_it;
    };
    on_fed = λ history is. record { hearing = kept.on_fed history is.hearing; offers = is.offers };
    on_begin = λ slot plan done left station history are due is. record {
      hearing = kept.on_begin slot plan done left station history are due is.hearing;
      offers = λ one in_it. offer_called (side_of one) given station (TurnBegins slot (plan.radio_of station)) history ∙ is.offers one in_it;
    };
    on_begun = λ history is. record { hearing = kept.on_begun history is.hearing; offers = is.offers };
    on_phase = λ phases history few is. record {
      hearing = kept.on_phase phases history few is.hearing;
      offers = λ station in_it. phase_offers phases history station (is.offers station in_it);
    };
    on_silence = λ phases done left station history are none is. record {
      hearing = kept.on_silence phases done left station history are none is.hearing;
      offers = silence_offers phases done left station history are none is;
    };
    on_packet = λ phases plan done left station channel octets history are some due is. record {
      hearing = kept.on_packet phases plan done left station channel octets history are some due is.hearing;
      offers = packet_offers phases plan.fates done left station channel octets history are due.is_wanted is;
    };
    on_air = λ phases history is. record {
      hearing = kept.on_air phases history is.hearing;
      offers = λ station in_it. air_offers phases history station in_it (is.offers station in_it);
    };
    on_hearing = λ phases done left station history are some is. record {
      hearing = kept.on_hearing phases done left station history are some is.hearing;
      offers = call_offers phases done left station history are is;
    };
    on_heard = λ phases history is. record {
      hearing = kept.on_heard phases history is.hearing;
      offers = λ station in_it. heard_offers phases history station (is.offers station in_it);
    };
    on_phases = λ history is. record { hearing = kept.on_phases history is.hearing; offers = λ station in_it. tt };
    on_end = λ done left station history are some is. record { hearing = kept.on_end done left station history are some is.hearing; offers = λ one in_it. tt };
    on_ended = λ history is. record { hearing = kept.on_ended history is.hearing; offers = λ station in_it. tt };
  }

  pub offering_first : AreOffering given NoTurn []
  offering_first = record { hearing = record { stand = stands_first given; hears = λ station is. first_hears given station }; offers = λ station in_it. tt }

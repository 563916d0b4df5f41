-- In a run of two stations each CONNECT_IND answers an advertisement of the other side in the same turn, and both offer
-- channel selection algorithm #2.
use Rattle.std.proofs.Common.{◌≡◌, ℕ, suc, ◌<◌, ◌==◌, ◌-◌, inl, inr, Bool, true, false, Option, Some, None, List, [], ◌∷◌, ◌++◌, refl, sym, ap, subst, ◌∙◌, arith}
use Rattle.std.specs.Prelude.{fold, map, take, if◌then◌else◌}
use Rattle.std.proofs.lemmas.Bool.{and_parts, eqb-true, eqb-false}
use Rattle.std.proofs.lemmas.List.Sums.{fold-append}
use Rattle.ble_base.specs.Side.{other_side}
use Rattle.ble_base.specs.declared.addresses.Address.{Address}
use Rattle.ble_base.specs.declared.notes.Note.{Note}
use Rattle.ble_base.specs.declared.notes.Note.TheVariants.{Up}
use Rattle.ble_base.specs.declared.roles.Side.{Side}
use Rattle.ble_base.specs.declared.roles.Side.TheVariants.{A, B}
use Rattle.adv_pdu.specs.declared.pdu.AdvPdu.{AdvPdu}
use Rattle.adv_pdu.specs.declared.pdu.AdvPdu.TheVariants.{Ind, Direct, Connect}
use Rattle.adv_pdu.specs.declared.pdu.ConnectFields.{ConnectFields}
use Rattle.adv_pdu.specs.Pdu.{sender_of}
use Rattle.scan_init.specs.Initiating.{InitiatorFacts, is_accepted, is_connectable_to, is_sought}
use Rattle.run_laws.specs.controller_model.declared.doing.Doing.{Doing}
use Rattle.run_laws.specs.controller_model.declared.doing.Doing.TheVariants.{Advertises, Requests, Initiates, Connects, CentralSends, Rests}
use Rattle.run_laws.specs.controller_model.declared.doing.Turn.{Turn}
use Rattle.run_laws.specs.controller_model.Step.{Step, HostOctet, TurnBegins, PacketHeard, TurnEnds}
use Rattle.run_laws.specs.controller_model.Facts.{Setup, Facts, Sends, Listens}
use Rattle.run_laws.specs.controller_model.Heard.{answers_by_connecting, connects, heard, if_pdu, initiator_heard, is_new_between, link_wanted, unheard}
use Rattle.run_laws.specs.controller_model.Packets.{pdu_heard, verdict_of}
use Rattle.run_laws.specs.controller_model.Side.{facts_after, facts_of, notes_after}
use Rattle.run_laws.proofs.controller_model.DataChannels.{link_channel}
use Rattle.run_laws.specs.run_model.Due.{Each}
use Rattle.run_laws.specs.run_model.Feeding.{AreDistinct}
use Rattle.run_laws.specs.run_model.History.{Event, TurnBegan, HostFed, Called, Noted, Transmitted, Hearing, has_received, packet_received, past_of, turns_begun}
use Rattle.run_laws.specs.run_model.Journal.{air_entries, entries_of, entry_of, journal_from, journal_of, side_of}
use Rattle.run_laws.specs.run_model.LinkEnds.{HaveAddresses}
use Rattle.run_laws.specs.run_model.Links.{Links, first_links, is_advertising, is_connect_ind, links_after}
use Rattle.run_laws.specs.run_model.Readers.{of_side}
use Rattle.run_laws.specs.run_model.Run.{Given, after_call, after_feed, after_octets, facts_at, hearings_of, history_of, octets_left, run_of, setup_at, step_of, use_at}
use Rattle.run_laws.proofs.run_model.Calls.{fold_called, fold_event, past_other}
use Rattle.run_laws.proofs.run_model.Handing.{IsHanded, IsUnforged, WasForged, WasNot, WasReceived, initiator_unforged}
use Rattle.run_laws.proofs.run_model.LinkEnds.{IsUnderstood, is_listener, packet_handed, received_by, wanted_is}
use Rattle.run_laws.proofs.run_model.Places.{each_at, each_called, each_event}
use Rattle.run_laws.proofs.run_model.Stations.{is_in, among, not_before}
use Rattle.run_laws.proofs.run_model.Walk.{Place, NoTurn, AtBegins, AtPackets, AtListening, IsKept, IsWhole, IsStopped, ends_with, run_kept}
use Rattle.run_laws.proofs.ByCalls.{StandsBy, at_turn, first_hears, last_turn}
use Rattle.run_laws.proofs.ChSel.{one_channel}
use Rattle.run_laws.proofs.ConnectInds.{no_advertising, on_channel}
use Rattle.run_laws.proofs.Entering.{IsInTurn}
use Rattle.run_laws.proofs.Hearings.{AreHearing, hearing_kept, other_facts, own_facts, unforged_same, use_same, use_sent_at}
use Rattle.run_laws.proofs.SentPackets.{HasChSel, IsUseSent, Says}
use Rattle.run_laws.proofs.TurnPlaces.{Between, Within, at_stage, event_past, stands_first}
use Rattle.run_laws.proofs.TurnSteps.{FitsChannel, IsListening, begins_may, initiates, may_pending, octet_turn, pending, phase_turn}
use Rattle.journal_links.specs.Begun.{is_offered, offers_after, offers_in, offers_of}
use Rattle.journal_links.proofs.OfTwo.{of_two_stations, other_of}

-- ---- the offers of a side in a history

abbrev offers_event : Side → List Bool → Event → List Bool
offers_event side offers (TurnBegan slot radios) = []
offers_event side offers (Transmitted station channel octets hearings) = fold (offers_after side) offers (air_entries (side_of station) channel octets hearings)
offers_event side offers (HostFed station octets) = offers
offers_event side offers (Called station step) = offers
offers_event side offers (Noted station note) = offers

abbrev offers_at : Side → List Event → List Bool
offers_at side history = fold (offers_event side) [] history

note_offers : (side own : Side) (link_of : ℕ → ℕ) (last : ℕ) (note : Note) (offers : List Bool) → offers_after side offers (entry_of own link_of last note) ≡ offers
note_offers side own link_of last (Up packet) offers = refl
note_offers side own link_of last note offers = refl

event_offers : (side : Side) (links : Links) (event : Event) (offers : List Bool) → fold (offers_after side) offers (entries_of links event) ≡ offers_event side offers event
event_offers side links (TurnBegan slot radios) offers = refl
event_offers side links (HostFed station octets) offers = refl
event_offers side links (Called station step) offers = refl
event_offers side links (Noted station note) offers = note_offers side (side_of station) (links.link_of station) (links.last_of station) note offers
event_offers side links (Transmitted station channel octets hearings) offers = refl

journal_offers : (side : Side) (links : Links) (history : List Event) (offers : List Bool)
    → fold (offers_after side) offers (journal_from links history) ≡ fold (offers_event side) offers history
journal_offers side links [] offers = refl
journal_offers side links (event ∷ history) offers =
    fold-append (offers_after side) offers (entries_of links event) (journal_from (links_after links event) history)
    ∙ ap (λ xs. fold (offers_after side) xs (journal_from (links_after links event) history)) (event_offers side links event offers)
    ∙ journal_offers side (links_after links event) history (offers_event side offers event)

offers_are : (side : Side) (history : List Event) → offers_in side (journal_of history) ≡ offers_at side history
unfolding journal_of
offers_are side history = journal_offers side first_links history []

-- ---- a packet

abbrev IsWell : ℕ → List ℕ → Type 0
IsWell channel octets = is_advertising channel ≡ true → (pdu : AdvPdu) → pdu_heard channel octets ≡ Some pdu → HasChSel pdu

sent_well : IsUnderstood → (facts : Facts) (channel : ℕ) (octets : List ℕ) → IsUseSent facts (Sends channel octets) → IsWell channel octets
sent_well understood facts channel octets (inl sent) = λ on pdu is.
    let found : Some sent.pdu ≡ Some pdu = sym (ap (pdu_heard channel) sent.packet ∙ understood channel sent.pdu sent.is_pdu) ∙ is in
    let same : sent.pdu ≡ pdu = cc in
    subst HasChSel same sent.ch_sel
sent_well understood facts channel octets (inr sent) = λ on pdu is.
    let below : channel < 37 = subst (λ (n : ℕ). n < 37) (sym sent.channel_is) (link_channel sent.link) in
    absurd (let h : true ≡ false = no_advertising channel true on below in absurd cc)

-- an advertisement that a CONNECT_IND can answer
abbrev is_offer : AdvPdu → Bool
is_offer (Ind from ch_sel body) = true
is_offer (Direct from to ch_sel) = true
is_offer other = false

said_keeps : (found : Option AdvPdu) → ((pdu : AdvPdu) → found ≡ Some pdu → HasChSel pdu) → (before : List Bool) → is_offered before ≡ true
    → is_offered (offers_of found ++ before) ≡ true
said_keeps None well before is = is
said_keeps (Some (Ind from ch_sel body)) well before is = well (Ind from ch_sel body) refl
said_keeps (Some (Direct from to ch_sel)) well before is = well (Direct from to ch_sel) refl
said_keeps (Some other) well before is = is

side_keeps : (side sender : Side) (new before : List Bool) → is_offered (new ++ before) ≡ true → is_offered before ≡ true → is_offered (of_side side sender new ++ before) ≡ true
side_keeps A A new before is old = is
side_keeps A B new before is old = old
side_keeps B A new before is old = old
side_keeps B B new before is old = is

air_keeps : (side sender : Side) (channel : ℕ) (octets : List ℕ) (hearings : List Hearing) (before : List Bool) → IsWell channel octets → is_offered before ≡ true
    → is_offered (fold (offers_after side) before (air_entries sender channel octets hearings)) ≡ true
air_keeps side sender channel octets [] before well is = is
air_keeps side sender channel octets (hearing ∷ hearings) before well is =
    side_keeps side sender (if is_advertising channel then offers_of (pdu_heard channel octets) else []) before (by (is_advertising channel) refl) is
  where
    by : (on : Bool) → is_advertising channel ≡ on → is_offered ((if on then offers_of (pdu_heard channel octets) else []) ++ before) ≡ true
    by true on = said_keeps (pdu_heard channel octets) (well on) before is
    by false on = is

said_offers : (found : Option AdvPdu) (pdu : AdvPdu) (before : List Bool) → found ≡ Some pdu → HasChSel pdu → is_offer pdu ≡ true → is_offered (offers_of found ++ before) ≡ true
said_offers found (Ind from ch_sel body) before is well offer = ap (λ f. is_offered (offers_of f ++ before)) is ∙ well
said_offers found (Direct from to ch_sel) before is well offer = ap (λ f. is_offered (offers_of f ++ before)) is ∙ well
said_offers found other before is well offer = absurd cc

own_side : (side : Side) (new before : List Bool) → is_offered (new ++ before) ≡ true → is_offered (of_side side side new ++ before) ≡ true
own_side A new before is = is
own_side B new before is = is

air_offers : (side : Side) (channel other : ℕ) (octets : List ℕ) (hearings : List Hearing) (pdu : AdvPdu) (before : List Bool) → has_received other hearings ≡ true
    → is_advertising channel ≡ true → pdu_heard channel octets ≡ Some pdu → HasChSel pdu → is_offer pdu ≡ true
    → is_offered (fold (offers_after side) before (air_entries side channel octets hearings)) ≡ true
air_offers side channel other octets [] pdu before received on says well offer = absurd cc
air_offers side channel other octets (hearing ∷ hearings) pdu before received on says well offer =
    own_side side (if is_advertising channel then offers_of (pdu_heard channel octets) else []) before
    (ap (λ b. is_offered ((if b then offers_of (pdu_heard channel octets) else []) ++ before)) on ∙ said_offers (pdu_heard channel octets) pdu before says well offer)

-- ---- a controller that sets out to send a CONNECT_IND has heard an advertisement

connectable : (own : Address) (pdu : AdvPdu) → is_connectable_to own pdu ≡ true → is_offer pdu ≡ true
connectable own (Ind from ch_sel body) is = refl
connectable own (Direct from to ch_sel) is = refl
connectable own (Connect from to ch_sel fields) is = absurd cc
connectable own other is = absurd cc

answers_offer : (on : InitiatorFacts) (pdu : AdvPdu) (facts : Facts) → answers_by_connecting on pdu facts ≡ true → is_offer pdu ≡ true
answers_offer on pdu facts is =
    let accepted = (and_parts (is_accepted on.params facts.view.accepted pdu) (is_new_between on.params.own (sender_of pdu) facts.links) is).0 in
    connectable on.params.own pdu (and_parts (is_connectable_to on.params.own pdu) (is_sought on.params.peer facts.view.accepted (sender_of pdu)) accepted).0

none_is : (X : Type 0) (n : ℕ) → n ≡ 0 → n ≡ 1 → X
none_is X n none one = absurd (omega (arith, none, one))

wanted_asks : (answers : Bool) (setup : Setup) (on : InitiatorFacts) (channel : ℕ) (pdu : AdvPdu) (facts : Facts) (X : Type 0) → (answers ≡ true → X)
    → pending (connects (link_wanted answers setup on pdu facts) setup channel facts).next ≡ 1 → X
wanted_asks true setup on channel pdu facts X leads one = leads refl
wanted_asks false setup on channel pdu facts X leads one = none_is X 0 refl one

initiator_asks : (may : Option InitiatorFacts) (setup : Setup) (channel : ℕ) (pdu : AdvPdu) (facts : Facts) (X : Type 0) → (is_offer pdu ≡ true → X)
    → pending (initiator_heard may setup channel pdu facts).next ≡ 1 → X
initiator_asks None setup channel pdu facts X leads one = none_is X 0 refl one
initiator_asks (Some on) setup channel pdu facts X leads one =
    wanted_asks (answers_by_connecting on pdu facts) setup on channel pdu facts X (λ answers. leads (answers_offer on pdu facts answers)) one

found_asks : (found : Option AdvPdu) (setup : Setup) (channel : ℕ) (facts : Facts) (X : Type 0) → ((pdu : AdvPdu) → found ≡ Some pdu → is_offer pdu ≡ true → X)
    → pending (if_pdu found facts (λ pdu. initiator_heard facts.initiator setup channel pdu facts)).next ≡ 1 → X
found_asks None setup channel facts X leads one = none_is X 0 refl one
found_asks (Some pdu) setup channel facts X leads one = initiator_asks facts.initiator setup channel pdu facts X (leads pdu refl) one

heard_asks : (setup : Setup) (facts : Facts) (octets : List ℕ) (X : Type 0) (doing : Doing) → facts.turn.doing ≡ doing
    → ((channel : ℕ) (pdu : AdvPdu) → doing ≡ Initiates channel → pdu_heard channel octets ≡ Some pdu → is_offer pdu ≡ true → X)
    → pending (facts_after setup facts (PacketHeard octets)).turn.doing ≡ 1 → X
heard_asks setup facts octets X (Initiates channel) is leads =
    subst (λ (d : Doing). pending (heard setup d octets facts).next ≡ 1 → X) (sym is)
    (found_asks (pdu_heard channel octets) setup channel facts X (λ pdu found offer. leads channel pdu refl found offer))
heard_asks setup facts octets X (Advertises channel) is leads = none_is X _ ((phase_turn setup facts (Some octets)).last (ap initiates is))
heard_asks setup facts octets X doing is leads = none_is X _ ((phase_turn setup facts (Some octets)).last (ap initiates is))

unheard_none : (doing : Doing) (facts : Facts) → pending (unheard doing facts).next ≡ 0
unheard_none (Advertises channel) facts = refl
unheard_none (Requests channel advertiser) facts = refl
unheard_none (Connects channel link) facts = refl
unheard_none (CentralSends handle) facts = refl
unheard_none other facts = refl

connect_pending : (doing : Doing) (pdu : AdvPdu) → Says doing pdu → is_connect_ind (Some pdu) ≡ true → pending doing ≡ 1
connect_pending (Connects channel link) pdu says is = refl
connect_pending (Advertises channel) pdu says is = absurd (let h : true ≡ false = sym is ∙ says in absurd cc)
connect_pending other pdu says is = absurd (let h : true ≡ false = sym is ∙ says in absurd cc)

-- ---- at each place of a run

-- the other side offers it in its last advertisement
abbrev IsOffered : ℕ → List Event → Type 0
IsOffered station history = is_offered (offers_at (other_side (side_of station)) history) ≡ true

-- so it is where a station heard an advertisement
abbrev HearsOffer : Given → List Event → ℕ → Type 0
HearsOffer given history station =
    (octets : List ℕ) (channel : ℕ) (pdu : AdvPdu) → packet_received station history ≡ Some octets → IsUnforged (facts_at given station history) octets
    → use_at given station history ≡ Listens channel → is_advertising channel ≡ true → pdu_heard channel octets ≡ Some pdu → is_offer pdu ≡ true → IsOffered station history

-- and where it is to send a CONNECT_IND
abbrev MakesOffer : Given → List Event → ℕ → Type 0
MakesOffer given history station = pending (facts_at given station history).turn.doing ≡ 1 → IsOffered station history

abbrev pub OfferedBefore : List Event → Event → Type 0
OfferedBefore before (Transmitted station channel octets hearings) =
    (from to : Address) (ch_sel : Bool) (fields : ConnectFields) → is_advertising channel ≡ true → pdu_heard channel octets ≡ Some (Connect from to ch_sel fields)
    → (ch_sel ≡ true) × IsOffered station before
OfferedBefore before (TurnBegan slot radios) = Unit {0}
OfferedBefore before (HostFed station octets) = Unit {0}
OfferedBefore before (Called station step) = Unit {0}
OfferedBefore before (Noted station note) = Unit {0}

record AreOffered (given : Given) (place : Place) (history : List Event) : Type 0 where
  hearing : AreHearing given place history
  each : Each OfferedBefore [] history
  hears : (station : ℕ) → is_in station given.stations ≡ true → HearsOffer given history station
  makes : (station : ℕ) → is_in station given.stations ≡ true → MakesOffer given history station

hears_none : (given : Given) (history : List Event) (station : ℕ) → packet_received station history ≡ None → HearsOffer given history station
hears_none given history station none = λ octets channel pdu is unforged listens on says offer. absurd (let h : None ≡ Some octets = sym none ∙ is in absurd cc)

-- ---- a call

offers_called : (given : Given) (side : Side) (station : ℕ) (step : Step) (history : List Event)
    → offers_at side (after_call given station step history) ≡ offers_at side history
offers_called given side station step history =
    fold_called (offers_event side) [] station step (notes_after (setup_at given station) (facts_at given station history) step) history (λ offers note. refl)

offered_called : (given : Given) (other station : ℕ) (step : Step) (history : List Event) → IsOffered other history → IsOffered other (after_call given station step history)
offered_called given other station step history is =
    ap is_offered (offers_called given (other_side (side_of other)) station step history) ∙ is

call_makes : (given : Given) (station : ℕ) (step : Step) (history : List Event)
    → (pending (facts_after (setup_at given station) (facts_at given station history) step).turn.doing ≡ 1 → IsOffered station history)
    → (other : ℕ) (same : Bool) → (other == station) ≡ same → MakesOffer given history other → MakesOffer given (after_call given station step history) other
call_makes given station step history own other true is makes =
    let one = eqb-true other station is in
    subst (MakesOffer given (after_call given station step history)) (sym one)
    (λ p. offered_called given station station step history
    (own (ap (λ (facts : Facts). pending facts.turn.doing) (sym (own_facts given station step history)) ∙ p)))
call_makes given station step history own other false is makes = λ p.
    offered_called given other station step history
    (makes (ap (λ (facts : Facts). pending facts.turn.doing) (sym (other_facts given station step history other is)) ∙ p))

call_each : (given : Given) (station : ℕ) (step : Step) (history : List Event) → Each OfferedBefore [] history → Each OfferedBefore [] (after_call given station step history)
call_each given station step history each =
    each_called OfferedBefore station step (notes_after (setup_at given station) (facts_at given station history) step) history each tt (λ before note. tt)

abbrev AllMake : Given → List Event → Type 0
AllMake given history = (station : ℕ) → is_in station given.stations ≡ true → MakesOffer given history station

octet_makes : (given : Given) (station octet : ℕ) (history : List Event) → is_in station given.stations ≡ true → AllMake given history
    → AllMake given (after_call given station (HostOctet octet) history)
octet_makes given station octet history is_one makes = λ other is.
    let facts = facts_at given station history in
    call_makes given station (HostOctet octet) history
    (λ p. makes station is_one (ap (λ (turn : Turn). pending turn.doing) (sym (octet_turn (setup_at given station) facts octet).turn) ∙ p))
    other (other == station) refl (makes other is)

record SoFar (given : Given) (history : List Event) : Type 0 where
  each : Each OfferedBefore [] history
  makes : AllMake given history

octets_so_far : (given : Given) (station : ℕ) (octets : List ℕ) (history : List Event) → is_in station given.stations ≡ true → SoFar given history
    → SoFar given (after_octets given station octets history)
octets_so_far given station [] history is so_far = so_far
octets_so_far given station (octet ∷ octets) history is so_far =
    octets_so_far given station octets (after_call given station (HostOctet octet) history) is (record {
      each = call_each given station (HostOctet octet) history so_far.each;
      makes = octet_makes given station octet history is so_far.makes;
    })

-- an event that is no call
event_makes : (given : Given) (history : List Event) (event : Event) (other : ℕ) → past_of other (history ++ event ∷ []) ≡ past_of other history
    → (IsOffered other history → IsOffered other (history ++ event ∷ [])) → MakesOffer given history other → MakesOffer given (history ++ event ∷ []) other
event_makes given history event other same leads makes = λ p.
    leads (makes (ap (λ past. pending (facts_of (setup_at given other) past).turn.doing) (sym same) ∙ p))

event_offered : (other : ℕ) (history : List Event) (event : Event)
    → (is_offered (offers_at (other_side (side_of other)) history) ≡ true
    → is_offered (offers_event (other_side (side_of other)) (offers_at (other_side (side_of other)) history) event) ≡ true)
    → IsOffered other history → IsOffered other (history ++ event ∷ [])
event_offered other history event leads is =
    let side = other_side (side_of other) in
    ap is_offered (fold_event (offers_event side) [] history event) ∙ leads is

feed_so_far : (given : Given) (station : ℕ) (octets : List ℕ) (history : List Event) → is_in station given.stations ≡ true → SoFar given history
    → SoFar given (after_feed given station octets history)
feed_so_far given station [] history is so_far = so_far
feed_so_far given station (octet ∷ octets) history is so_far =
    let event = HostFed station (octet ∷ octets) in
    octets_so_far given station (octet ∷ octets) (history ++ event ∷ []) is (record {
      each = each_event OfferedBefore history event so_far.each tt;
      makes = λ other is_too. event_makes given history event other (event_past other history event refl)
          (event_offered other history event (λ offered. offered)) (so_far.makes other is_too);
    })

-- ---- a packet on the air

module _ (understood : IsUnderstood) (given : Given) (are : given.stations ≡ 0 ∷ 1 ∷ []) (station channel : ℕ) (octets : List ℕ) (hearings : List Hearing) (history : List Event)
    (is_one : is_in station given.stations ≡ true) (sent : IsUseSent (facts_at given station history) (Sends channel octets))
    (received : (other : ℕ) → IsHanded (has_received other hearings) octets (packet_received other history)
    (packet_received other (history ++ Transmitted station channel octets hearings ∷ [])) (facts_at given other history) (use_at given other history) channel
    (other == station)) where
  abbrev event : Event
  event = Transmitted station channel octets hearings

  abbrev after : List Event
  after = history ++ event ∷ []

  still : (other : ℕ) → IsOffered other history → IsOffered other after
  still other is =
      event_offered other history event
      (air_keeps (other_side (side_of other)) (side_of station) channel octets hearings (offers_at (other_side (side_of other)) history)
      (sent_well understood (facts_at given station history) channel octets sent)) is

  -- it is heard
  offered_to : (other : ℕ) → is_in other given.stations ≡ true → (other == station) ≡ false → has_received other hearings ≡ true → (pdu : AdvPdu)
      → is_advertising channel ≡ true → pdu_heard channel octets ≡ Some pdu → is_offer pdu ≡ true → IsOffered other after
  offered_to other is_too differs received pdu on says offer =
      let side = side_of station in
      let well = sent_well understood (facts_at given station history) channel octets sent in
      let offers : is_offered (offers_at side after) ≡ true =
      ap is_offered (fold_event (offers_event side) [] history event)
      ∙ air_offers side channel other octets hearings pdu (offers_at side history) received on says (well on pdu says) offer in
      subst (λ s. is_offered (offers_at s after) ≡ true)
      (other_of station other (of_two_stations given are station is_one) (of_two_stations given are other is_too) (λ same. eqb-false other station differs (sym same))) offers

  -- a CONNECT_IND
  now_offered : (doing : pending (facts_at given station history).turn.doing ≡ 1 → IsOffered station history) → OfferedBefore history event
  now_offered makes = λ from to ch_sel fields on says.
      (sent_well understood (facts_at given station history) channel octets sent on (Connect from to ch_sel fields) says, by from to ch_sel fields on says sent)
    where
      by : (from to : Address) (ch_sel : Bool) (fields : ConnectFields) → is_advertising channel ≡ true → pdu_heard channel octets ≡ Some (Connect from to ch_sel fields)
          → IsUseSent (facts_at given station history) (Sends channel octets) → IsOffered station history
      by from to ch_sel fields on says (inl pdu_sent) =
          let found : Some pdu_sent.pdu ≡ Some (Connect from to ch_sel fields) =
          sym (ap (pdu_heard channel) pdu_sent.packet ∙ understood channel pdu_sent.pdu pdu_sent.is_pdu) ∙ says in
          makes (connect_pending (facts_at given station history).turn.doing pdu_sent.pdu pdu_sent.says (ap is_connect_ind found))
      by from to ch_sel fields on says (inr link_sent) =
          let below : channel < 37 = subst (λ (n : ℕ). n < 37) (sym link_sent.channel_is) (link_channel link_sent.link) in
          absurd (let h : true ≡ false = no_advertising channel true on below in absurd cc)

  past : (other : ℕ) → past_of other after ≡ past_of other history
  past other = event_past other history event refl

  hears_by : (other : ℕ) → is_in other given.stations ≡ true → HearsOffer given history other
      → (has_received other hearings ≡ true → ((other == station) ≡ false) × (use_at given other history ≡ Listens channel)) → HearsOffer given after other
  hears_by other is_too hears listener = by (received other)
    where
      by : IsHanded (has_received other hearings) octets (packet_received other history) (packet_received other after) (facts_at given other history) (use_at given other history)
          channel (other == station) → HearsOffer given after other
      by (WasReceived got as_sent) = λ heard on_it pdu is unforged listens on says offer.
          let told : Some octets ≡ Some heard = sym as_sent ∙ is in
          let equal : octets ≡ heard = cc in
          let uses : use_at given other after ≡ use_at given other history = use_same given other history after (past other) in
          let same : channel ≡ on_it = one_channel channel on_it (sym (listener got).1 ∙ sym uses ∙ listens) in
          offered_to other is_too (listener got).0 got pdu (ap is_advertising same ∙ on)
          (ap (λ n. pdu_heard n octets) same ∙ ap (pdu_heard on_it) equal ∙ says) offer
      by (WasForged left as_left forged listens_on differs) = λ heard on_it pdu is unforged listens on says offer.
          let told : Some left ≡ Some heard = sym as_left ∙ is in
          let equal : left ≡ heard = cc in
          absurd (unforged_same given other history after heard (past other) unforged (ap (verdict_of (facts_at given other history)) (sym equal) ∙ forged))
      by (WasNot got as_before) = λ heard on_it pdu is unforged listens on says offer.
          let uses : use_at given other after ≡ use_at given other history = use_same given other history after (past other) in
          still other (hears heard on_it pdu (sym as_before ∙ is) (unforged_same given other history after heard (past other) unforged) (sym uses ∙ listens) on says offer)

-- ---- what is heard

phase_asks : (given : Given) (station phases turns : ℕ) (history : List Event) → IsInTurn (setup_at given station) (Within phases) turns (facts_at given station history)
    → HearsOffer given history station → (received : Option (List ℕ)) → packet_received station history ≡ received
    → pending (facts_after (setup_at given station) (facts_at given station history) (step_of received)).turn.doing ≡ 1 → IsOffered station history
phase_asks given station phases turns history in_turn hears None is =
    none_is (IsOffered station history) _ (unheard_none (facts_at given station history).turn.doing (facts_at given station history))
phase_asks given station phases turns history in_turn hears (Some octets) is =
    let facts = facts_at given station history in
    heard_asks (setup_at given station) facts octets (IsOffered station history) facts.turn.doing refl
    (λ channel pdu doing found offer.
    let listens : facts.wanted ≡ Listens channel = subst (IsListening facts) doing in_turn.listens in
    hears octets channel pdu is (initiator_unforged facts channel octets doing) (sym (wanted_is given station history) ∙ listens) (on_channel channel (subst FitsChannel doing in_turn.fits)) found offer)

listener_hears : (given : Given) (station : ℕ) (step : Step) (history : List Event) (other : ℕ) (same : Bool) → (other == station) ≡ same → HearsOffer given history other
    → HearsOffer given (after_call given station step history) other
listener_hears given station step history other true is hears = hears_none given (after_call given station step history) other (received_by given other station step history true is)
listener_hears given station step history other false is hears = λ octets channel pdu heard unforged listens on says offer.
    let after = after_call given station step history in
    let past = past_other other station step (notes_after (setup_at given station) (facts_at given station history) step) history is in
    offered_called given other station step history
    (hears octets channel pdu (sym (received_by given other station step history false is) ∙ heard) (unforged_same given other history after octets past unforged)
    (sym (use_same given other history after past) ∙ listens) on says offer)

-- ---- the run

rests_makes : (given : Given) (history : List Event) (station : ℕ) (X : Type 0) → (facts_at given station history).turn.doing ≡ Rests
    → pending (facts_at given station history).turn.doing ≡ 1 → X
rests_makes given history station X rests one = none_is X _ (ap pending rests) one

offered_kept : IsUnderstood → (given : Given) → given.stations ≡ 0 ∷ 1 ∷ [] → HaveAddresses given → AreDistinct given.stations → IsKept given (AreOffered given)
offered_kept understood given are_two six distinct = let kept = hearing_kept given six distinct in record {
  on_turn = λ slot plan history begun at offered.
      let event = TurnBegan slot (map plan.radio_of given.stations) in
      let hearing = kept.on_turn slot plan history begun at offered.hearing in record {
        hearing = hearing;
        each = each_event OfferedBefore history event offered.each tt;
        hears = λ station is. hears_none given (history ++ event ∷ []) station (hearing.hears station is);
        makes = λ station is p. rests_makes given history station _ (at_turn given NoTurn history offered.hearing.stand station is).does
            (ap (λ past. pending (facts_of (setup_at given station) past).turn.doing) (sym (event_past station history event refl)) ∙ p);
      };
  on_feed = λ plan done left station history are some now offered.
      let octets = take (plan.feed_of station) (octets_left given station history) in
      let hearing = kept.on_feed plan done left station history are some now offered.hearing in
      let so_far = feed_so_far given station octets history (among given.stations done left station are) (record { each = offered.each; makes = offered.makes }) in record {
        hearing = hearing;
        each = so_far.each;
        hears = λ other is. hears_none given (after_feed given station octets history) other (hearing.hears other is);
        makes = so_far.makes;
      };
  on_fed = λ history offered. record { hearing = kept.on_fed history offered.hearing; each = offered.each; hears = offered.hears; makes = offered.makes };
  on_begin = λ slot plan done left station history are due offered.
      let step = TurnBegins slot (plan.radio_of station) in
      let in_turn = at_turn given (AtBegins done (station ∷ left)) history offered.hearing.stand station (among given.stations done left station are) in
      let out = not_before given.stations done left station distinct are in
      let waits = subst (λ b. StandsBy given history station (if b then at_stage (Within 0) (turns_begun history) else at_stage Between (turns_begun history - 1))) out in_turn in
      let hearing = kept.on_begin slot plan done left station history are due offered.hearing in record {
        hearing = hearing;
        each = call_each given station step history offered.each;
        hears = λ other is. hears_none given (after_call given station step history) other (hearing.hears other is);
        makes = λ other is. call_makes given station step history
            (none_is (IsOffered station history) _ (may_pending _ (begins_may (setup_at given station) slot (plan.radio_of station) (facts_at given station history)
            (waits.begun_is ∙ last_turn (turns_begun history) slot due.slot_is))))
            other (other == station) refl (offered.makes other is);
      };
  on_begun = λ history offered. record { hearing = kept.on_begun history offered.hearing; each = offered.each; hears = offered.hears; makes = offered.makes };
  on_phase = λ phases history few offered.
      record { hearing = kept.on_phase phases history few offered.hearing; each = offered.each; hears = offered.hears; makes = offered.makes };
  on_silence = λ phases done left station history are none offered.
      record { hearing = kept.on_silence phases done left station history are none offered.hearing; each = offered.each; hears = offered.hears; makes = offered.makes };
  on_packet = λ phases plan done left station channel octets history are some due offered.
      let hearings = hearings_of given plan.fates station channel octets history in
      let event = Transmitted station channel octets hearings in
      let is = among given.stations done left station are in
      let sent = use_sent_at given six (AtPackets phases done (station ∷ left)) history offered.hearing.stand station is channel octets due.is_wanted in
      let received : (other : ℕ) → IsHanded (has_received other hearings) octets (packet_received other history) (packet_received other (history ++ event ∷ []))
      (facts_at given other history) (use_at given other history) channel (other == station) =
      λ other. packet_handed given plan.fates station channel octets history other due.is_seen in record {
        hearing = kept.on_packet phases plan done left station channel octets history are some due offered.hearing;
        each = each_event OfferedBefore history event offered.each
            (now_offered understood given are_two station channel octets hearings history is sent received (offered.makes station is));
        hears = λ other is_too. hears_by understood given are_two station channel octets hearings history is sent received other is_too (offered.hears other is_too)
            (λ got. let listener = is_listener given plan.fates channel octets history station other got in (listener.differs, listener.listens));
        makes = λ other is_too. event_makes given history event other (event_past other history event refl)
            (still understood given are_two station channel octets hearings history is sent received other) (offered.makes other is_too);
      };
  on_air = λ phases history offered. record { hearing = kept.on_air phases history offered.hearing; each = offered.each; hears = offered.hears; makes = offered.makes };
  on_hearing = λ phases done left station history are some offered.
      let received = packet_received station history in
      let is = among given.stations done left station are in
      let turn = subst (λ b. StandsBy given history station (if b then at_stage (Within (suc phases)) (turns_begun history) else at_stage (Within phases) (turns_begun history)))
      (not_before given.stations done left station distinct are) (at_turn given (AtListening phases done (station ∷ left)) history offered.hearing.stand station is) in record {
        hearing = kept.on_hearing phases done left station history are some offered.hearing;
        each = call_each given station (step_of received) history offered.each;
        hears = λ other is_too. listener_hears given station (step_of received) history other (other == station) refl (offered.hears other is_too);
        makes = λ other is_too. call_makes given station (step_of received) history
            (phase_asks given station phases (turns_begun history) history turn (offered.hears station is) received refl)
            other (other == station) refl (offered.makes other is_too);
      };
  on_heard = λ phases history offered.
      record { hearing = kept.on_heard phases history offered.hearing; each = offered.each; hears = offered.hears; makes = offered.makes };
  on_phases = λ history offered. record { hearing = kept.on_phases history offered.hearing; each = offered.each; hears = offered.hears; makes = offered.makes };
  on_end = λ done left station history are some offered.
      let hearing = kept.on_end done left station history are some offered.hearing in record {
        hearing = hearing;
        each = call_each given station TurnEnds history offered.each;
        hears = λ other is. hears_none given (after_call given station TurnEnds history) other (hearing.hears other is);
        makes = λ other is. call_makes given station TurnEnds history (none_is (IsOffered station history) 0 refl) other (other == station) refl (offered.makes other is);
      };
  on_ended = λ history offered. record { hearing = kept.on_ended history offered.hearing; each = offered.each; hears = offered.hears; makes = offered.makes };
}

first_makes : (given : Given) (station : ℕ) → MakesOffer given [] station
unfolding facts_of
first_makes given station = none_is (IsOffered station []) 0 refl

run_offered : IsUnderstood → (given : Given) → given.stations ≡ 0 ∷ 1 ∷ [] → HaveAddresses given → AreDistinct given.stations
    → Each OfferedBefore [] (history_of (run_of given))
run_offered understood given are six distinct =
    ends_with (run_of given) (IsWhole given (AreOffered given)) (IsStopped given (AreOffered given)) (Each OfferedBefore [])
    (run_kept given (AreOffered given) (offered_kept understood given are six distinct) (record {
      hearing = record { stand = stands_first given; hears = λ station is. first_hears given station };
      each = tt;
      hears = λ station is. hears_none given [] station (first_hears given station);
      makes = λ station is. first_makes given station;
    }))
    (λ history whole. whole.is.each) (λ history stop stopped. stopped.kept.each)

-- a CONNECT_IND in a run
pub record OffersTwo (before : List Event) (station : ℕ) (ch_sel : Bool) : Type 0 where
  pub own : ch_sel ≡ true
  pub other : is_offered (offers_in (other_side (side_of station)) (journal_of before)) ≡ true

pub offers_both : IsUnderstood → (given : Given) → given.stations ≡ 0 ∷ 1 ∷ [] → HaveAddresses given → AreDistinct given.stations → (before rest : List Event) (station channel : ℕ)
    (octets : List ℕ) (hearings : List Hearing) (from to : Address) (ch_sel : Bool) (fields : ConnectFields)
    → history_of (run_of given) ≡ before ++ Transmitted station channel octets hearings ∷ rest → is_advertising channel ≡ true
    → pdu_heard channel octets ≡ Some (Connect from to ch_sel fields) → OffersTwo before station ch_sel
offers_both understood given are six distinct before rest station channel octets hearings from to ch_sel fields at on says =
    let both = each_at OfferedBefore (history_of (run_of given)) before rest (Transmitted station channel octets hearings)
    (run_offered understood given are six distinct) at from to ch_sel fields on says in record {
      own = both.0;
      other = ap is_offered (offers_are (other_side (side_of station)) before) ∙ both.1;
    }

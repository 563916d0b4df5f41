-- Each end of an open link comes from a CONNECT_IND on the air.
use Rattle.std.proofs.Common.{◌≡◌, ◌≢◌, ℕ, zero, suc, ◌+◌, ◌==◌, ◌&&◌, ◌||◌, Bool, true, false, List, [], ◌∷◌, ◌++◌, length, refl, sym, ap, subst, ◌∙◌, append-nil, append_assoc, arith}
use Rattle.std.specs.Prelude.{map, take, Option, Some, None, if◌then◌else◌}
use Rattle.std.specs.List.{AllByRecursion}
use Rattle.std.proofs.lemmas.Bool.{eqb-true, eqb-false, le-leb, lt-ltb}
use Rattle.ble_base.specs.declared.addresses.Address.{Address}
use Rattle.ble_base.specs.declared.notes.Note.{Note}
use Rattle.adv_pdu.specs.declared.pdu.AdvPdu.{AdvPdu}
use Rattle.adv_pdu.specs.declared.pdu.AdvPdu.TheVariants.{ScanReq, Connect}
use Rattle.adv_pdu.specs.declared.pdu.ConnectFields.{ConnectFields}
use Rattle.adv_pdu.specs.Pdu.{IsPdu}
use Rattle.advertise.specs.declared.answers.AdvAnswer.TheVariants.{Ignore, Respond, Connect as Takes}
use Rattle.advertise.specs.declared.params.AdvParams.{AdvParams}
use Rattle.advertise.specs.Advertising.{AdvertiserFacts}
use Rattle.advertise.specs.Answers.{IsTaken, advertiser_answer, is_scan_answered}
use Rattle.controller_model.specs.link_model.declared.setup.LinkSetup.{LinkSetup}
use Rattle.controller_model.specs.link_model.Setup.{Setup as EndSetup}
use Rattle.controller_model.specs.open_links.OpenLinks.{OpenLink, link_at}
use Rattle.radio_replay.specs.declared.fates.Fate.{Fate}
use Rattle.radio_replay.specs.Script.{Script}
use Rattle.controller_model.specs.declared.doing.Doing.{Doing}
use Rattle.controller_model.specs.declared.doing.Doing.TheVariants.{AwaitsRequest, Connects}
use Rattle.controller_model.specs.Step.{Step, TurnBegins, PacketHeard, TurnEnds}
use Rattle.controller_model.specs.Facts.{Facts, Use, Sends, Listens}
use Rattle.controller_model.specs.Heard.{link_taken}
use Rattle.controller_model.specs.Packets.{advertising_packet, channel_listened, pdu_heard, use_of, verdict_of}
use Rattle.controller_model.specs.Side.{facts_of, notes_after}
use Rattle.controller_model.proofs.Always.{IsAdvertisingChannel}
use Rattle.controller_model.proofs.Pasts.{facts_more}
use Rattle.controller_model.proofs.Sent.{DoingFits, can_be_done}
use Rattle.run_model.specs.History.{Event, TurnBegan, Called, Noted, Transmitted, Hearing as Heard, fates_used, handed_or, has_received, is_good, noted_by, notes_in, packet_received, past_of, received_after, steps_in, turns_begun}
use Rattle.run_model.specs.Links.{Links, begins_link, is_advertising, is_connect_ind, links_of, with_link}
use Rattle.run_model.specs.Run.{Given, setup_at, facts_at, use_at, octets_left, after_call, fate_at, hearing_at, hearings_from, hearings_of, others_than, reaches, step_of, unseen_in, verdict_where, run_of, history_of}
use Rattle.run_model.specs.Pair.{given_of}
use Rattle.run_model.specs.Due.{packet_in}
use Rattle.run_model.specs.Feeding.{AreDistinct}
use Rattle.run_model.specs.LinkEnds.{ConnectInd, HasConnectInd, HaveAddresses, IsAtEnd}
use Rattle.run_model.proofs.Calls.{with_notes, flat_nothing, fold_called, fold_event, noted_called, past_other, past_own, same_station, turns_called, turns_same}
use Rattle.run_model.proofs.Handing.{IsHanded, IsUnforged, WasForged, WasNot, WasReceived, handed_good, handed_sender, handing, listens_where, request_unforged}
use Rattle.run_model.proofs.Linked.{AreLinked, AreLinkedSoFar, LinkedBefore, call_linked, event_linked, feed_linked, opens_none}
use Rattle.run_model.proofs.LinksKnown.{last_by_call, links_event}
use Rattle.run_model.proofs.Places.{each_at}
use Rattle.run_model.proofs.Stations.{is_in, among, in_more_other, in_more_same, not_before, others_differ}
use Rattle.run_model.proofs.Walk.{Place, NoTurn, AtFeeds, AtBegins, AfterPhases, AtPackets, AtListening, AtEnds, IsKept, IsWhole, IsStopped, ends_with, run_kept}
use Rattle.run_model.proofs.Doings.{IsWanted, always_wanted}
use Rattle.run_model.proofs.LinkSteps.{EachLink, MayOpen, begun_slot, link_has, none_linked, phase_slot}
use Rattle.run_model.proofs.Sending.{use_same}

-- ---- what a station sent and heard

abbrev IsInSlot : Given → List Event → ℕ → Type 0
IsInSlot given history station = turns_begun history ≡ (facts_at given station history).turn.slot + 1

-- the number of the link that a station knows last
abbrev last_at : List Event → ℕ → ℕ
last_at history station = (links_of history).last_of station

-- it is that of the link that a packet begins, where it begins one: the packet comes after these events
abbrev IsLastLink : List Event → List Event → ℕ → ℕ → List ℕ → Type 0
IsLastLink history before station channel octets = begins_link channel octets ≡ true → last_at history station ≡ (links_of before).begun + 1

-- a packet was on the air in the turn that is under way
record WasAired (history : List Event) (station channel : ℕ) (octets : List ℕ) : Type 0 where
  before : List Event
  hearings : List Heard
  after : List Event
  is_at : history ≡ before ++ Transmitted station channel octets hearings ∷ after
  in_turn : turns_begun before ≡ turns_begun history
  number : IsLastLink history before station channel octets
  -- the station noted nothing since
  unnoted : noted_by station history ≡ noted_by station before

-- what a station wants to send was on the air
abbrev HasAired : Given → List Event → ℕ → Type 0
HasAired given history station = (channel : ℕ) (octets : List ℕ) → use_at given station history ≡ Sends channel octets → WasAired history station channel octets

-- a packet of another station was on the air in the turn that is under way, on the channel on which this one listens. One
-- that is forged to it may be damaged
record WasHeard (given : Given) (history : List Event) (station : ℕ) (octets : List ℕ) : Type 0 where
  sender : ℕ
  channel : ℕ
  before : List Event
  hearings : List Heard
  after : List Event
  is_at : history ≡ before ++ Transmitted sender channel octets hearings ∷ after
  in_turn : turns_begun before ≡ turns_begun history
  differs : sender ≢ station
  received : has_received station hearings ≡ true
  listens : use_at given station history ≡ Listens channel
  number : IsLastLink history before station channel octets
  unnoted : noted_by station history ≡ noted_by station before

abbrev HasHeard : Given → List Event → ℕ → Type 0
HasHeard given history station =
    (octets : List ℕ) → packet_received station history ≡ Some octets → IsUnforged (facts_at given station history) octets → WasHeard given history station octets

-- what is not forged to a station is not as long as it takes no step
unforged_same : (given : Given) (station : ℕ) (history after : List Event) (octets : List ℕ) → past_of station after ≡ past_of station history
    → IsUnforged (facts_at given station after) octets → IsUnforged (facts_at given station history) octets
unforged_same given station history after octets same unforged = λ forged.
    unforged (ap (λ past. verdict_of (facts_of (setup_at given station) past) octets) same ∙ forged)

-- an event, or a call on another controller, leaves that as it is
record IsSame (station : ℕ) (history more : List Event) : Type 0 where
  past : past_of station (history ++ more) ≡ past_of station history
  turns : turns_begun (history ++ more) ≡ turns_begun history
  noted : noted_by station (history ++ more) ≡ noted_by station history

slot_same : (given : Given) (station : ℕ) (history more : List Event) → IsSame station history more → IsInSlot given history station
    → IsInSlot given (history ++ more) station
slot_same given station history more same in_slot =
    same.turns ∙ in_slot ∙ ap (λ past. (facts_of (setup_at given station) past).turn.slot + 1) (sym same.past)

aired_same : (given : Given) (station : ℕ) (history more : List Event) → IsSame station history more → last_at (history ++ more) station ≡ last_at history station
    → HasAired given history station → HasAired given (history ++ more) station
aired_same given station history more same last has = λ channel octets wants.
    let aired = has channel octets (sym (use_same given station history (history ++ more) same.past) ∙ wants) in record {
      before = aired.before;
      hearings = aired.hearings;
      after = aired.after ++ more;
      is_at = ap (λ events. events ++ more) aired.is_at
          ∙ append_assoc aired.before (Transmitted station channel octets aired.hearings ∷ aired.after) more;
      in_turn = aired.in_turn ∙ sym same.turns;
      number = λ begins. last ∙ aired.number begins;
      unnoted = same.noted ∙ aired.unnoted;
    }

heard_same : (given : Given) (station : ℕ) (history more : List Event) → IsSame station history more
    → packet_received station (history ++ more) ≡ packet_received station history → last_at (history ++ more) station ≡ last_at history station
    → HasHeard given history station → HasHeard given (history ++ more) station
heard_same given station history more same received last has = λ octets is unforged.
    let heard = has octets (sym received ∙ is) (unforged_same given station history (history ++ more) octets same.past unforged) in record {
      sender = heard.sender;
      channel = heard.channel;
      before = heard.before;
      hearings = heard.hearings;
      after = heard.after ++ more;
      is_at = ap (λ events. events ++ more) heard.is_at
          ∙ append_assoc heard.before (Transmitted heard.sender heard.channel octets heard.hearings ∷ heard.after) more;
      in_turn = heard.in_turn ∙ sym same.turns;
      differs = heard.differs;
      received = heard.received;
      listens = use_same given station history (history ++ more) same.past ∙ heard.listens;
      number = λ begins. last ∙ heard.number begins;
      unnoted = same.noted ∙ heard.unnoted;
    }

heard_none : (given : Given) (station : ℕ) (history : List Event) → packet_received station history ≡ None → HasHeard given history station
heard_none given station history none = λ octets is unforged. absurd (let h : None ≡ Some octets = sym none ∙ is in absurd cc)

last_called : (given : Given) (station : ℕ) (step : Step) (history : List Event) (other : ℕ) → last_at (after_call given station step history) other ≡ last_at history other
last_called given station step history other = last_by_call station step (notes_after (setup_at given station) (facts_at given station history) step) history other

called_same : (given : Given) (other station : ℕ) (step : Step) (history : List Event) → (other == station) ≡ false
    → IsSame other history (Called station step ∷ map (Noted station) (notes_after (setup_at given station) (facts_at given station history) step))
called_same given other station step history differs =
    let notes = notes_after (setup_at given station) (facts_at given station history) step in record {
      past = past_other other station step notes history differs;
      turns = turns_called station step notes history;
      noted = noted_called other station step notes history false differs ∙ append-nil (noted_by other history);
    }

pub received_event : (other : ℕ) (history : List Event) (event : Event) → packet_received other (history ++ event ∷ []) ≡ received_after other (packet_received other history) event
unfolding packet_received
received_event other history event = fold_event (received_after other) None history event

-- what is handed on of a packet
pub packet_handed : (given : Given) (fates : List Fate) (station channel : ℕ) (octets : List ℕ) (history : List Event) (other : ℕ)
    → unseen_in octets (hearings_of given fates station channel octets history) ≡ None
    → IsHanded (has_received other (hearings_of given fates station channel octets history)) octets (packet_received other history)
    (packet_received other (history ++ Transmitted station channel octets (hearings_of given fates station channel octets history) ∷ []))
    (facts_at given other history) (use_at given other history) channel (other == station)
packet_handed given fates station channel octets history other seen =
    let hearings = hearings_of given fates station channel octets history in
    subst (λ handed. IsHanded (has_received other hearings) octets (packet_received other history) handed (facts_at given other history) (use_at given other history) channel
    (other == station))
    (sym (received_event other history (Transmitted station channel octets hearings)))
    (handing given fates station channel octets history other (packet_received other history) seen)

-- a station that receives it is handed what was sent, where no station has two places in the order
pub received_good : (given : Given) (fates : List Fate) (station channel : ℕ) (octets : List ℕ) (history : List Event) (other : ℕ) → AreDistinct given.stations
    → unseen_in octets (hearings_of given fates station channel octets history) ≡ None
    → has_received other (hearings_of given fates station channel octets history) ≡ true
    → packet_received other (history ++ Transmitted station channel octets (hearings_of given fates station channel octets history) ∷ []) ≡ Some octets
received_good given fates station channel octets history other distinct seen received =
    received_event other history (Transmitted station channel octets (hearings_of given fates station channel octets history))
    ∙ handed_good given fates station channel octets history (packet_received other history) other distinct seen received

-- its sender is handed nothing
pub received_own : (given : Given) (fates : List Fate) (station channel : ℕ) (octets : List ℕ) (history : List Event)
    → packet_received station (history ++ Transmitted station channel octets (hearings_of given fates station channel octets history) ∷ [])
    ≡ packet_received station history
received_own given fates station channel octets history =
    received_event station history (Transmitted station channel octets (hearings_of given fates station channel octets history))
    ∙ handed_sender given fates station channel octets history (packet_received station history)

received_called : (other station : ℕ) (step : Step) (notes : List Note) (history : List Event)
    → packet_received other (with_notes station step notes history) ≡ (if other == station then None else packet_received other history)
unfolding packet_received
received_called other station step notes history = fold_called (received_after other) None station step notes history (λ before note. refl)

pub received_by : (given : Given) (other station : ℕ) (step : Step) (history : List Event) (same : Bool) → (other == station) ≡ same
    → packet_received other (after_call given station step history) ≡ (if same then None else packet_received other history)
received_by given other station step history same is =
    received_called other station step (notes_after (setup_at given station) (facts_at given station history) step) history
    ∙ ap (λ b. if b then None else packet_received other history) is

-- ---- who hears a packet

reached_where : (reached : Bool) (facts : Facts) (octets : List ℕ) → is_good (verdict_where reached facts octets) ≡ true → reached ≡ true
reached_where true facts octets is = refl
reached_where false facts octets is = absurd cc

-- a station that received a packet is not its sender, and listened on its channel
pub record IsListener (given : Given) (history : List Event) (sender station channel : ℕ) : Type 0 where
  pub differs : (station == sender) ≡ false
  pub listens : use_at given station history ≡ Listens channel

heard_by : (given : Given) (fate : Fate) (channel : ℕ) (octets : List ℕ) (history : List Event) (sender listener station : ℕ) (same good : Bool) (rest : Bool)
    → (station == listener) ≡ same → is_good (hearing_at given fate channel octets history listener).verdict ≡ good → (listener == sender) ≡ false
    → (rest ≡ true → IsListener given history sender station channel) → ((same && good) || rest) ≡ true → IsListener given history sender station channel
heard_by given fate channel octets history sender listener station true true rest is good differs later holds =
    let same : listener ≡ station = sym (eqb-true station listener is) in
    subst (λ one. IsListener given history sender one channel) same (record {
      differs = differs;
      listens = listens_where fate channel (use_at given listener history)
          (reached_where (reaches fate channel (channel_listened (use_at given listener history))) (facts_at given listener history) _ good);
    })
heard_by given fate channel octets history sender listener station true false rest is good differs later holds = later holds
heard_by given fate channel octets history sender listener station false good rest is was differs later holds = later holds

listener_from : (given : Given) (fates : List Fate) (number channel : ℕ) (octets : List ℕ) (history : List Event) (sender station : ℕ) (listeners : List ℕ)
    → AllByRecursion (λ other. (other == sender) ≡ false) listeners → has_received station (hearings_from given fates number channel octets history listeners) ≡ true
    → IsListener given history sender station channel
listener_from given fates number channel octets history sender station [] all received = absurd cc
listener_from given fates number channel octets history sender station (listener ∷ listeners) all received =
    heard_by given (fate_at fates number) channel octets history sender listener station (station == listener)
    (is_good (hearing_at given (fate_at fates number) channel octets history listener).verdict)
    (has_received station (hearings_from given fates (number + 1) channel octets history listeners)) refl refl all.0
    (listener_from given fates (number + 1) channel octets history sender station listeners all.1) received

pub is_listener : (given : Given) (fates : List Fate) (channel : ℕ) (octets : List ℕ) (history : List Event) (sender station : ℕ)
    → has_received station (hearings_of given fates sender channel octets history) ≡ true → IsListener given history sender station channel
is_listener given fates channel octets history sender station received =
    listener_from given fates (fates_used history) channel octets history sender station (others_than sender given.stations)
    (others_differ sender given.stations) received

-- ---- what a link is opened by

-- a PDU is heard as it was sent
abbrev pub IsUnderstood : Type 0
IsUnderstood = (channel : ℕ) (pdu : AdvPdu) → IsPdu pdu → pdu_heard channel (advertising_packet channel pdu) ≡ Some pdu

-- what an advertiser takes is a CONNECT_IND to it
abbrev pub AreTaken : Type 0
AreTaken = (params : AdvParams) (list : List Address) (from to : Address) (ch_sel : Bool) (fields taken : ConnectFields)
    → advertiser_answer params list (Connect from to ch_sel fields) ≡ Takes taken → IsTaken params list from to fields × (taken ≡ fields)

record IsRequest (own : Address) (pdu : AdvPdu) (fields : ConnectFields) : Type 0 where
  from : Address
  to : Address
  ch_sel : Bool
  is : pdu ≡ Connect from to ch_sel fields
  to_own : to ≡ own

pub scan_takes_none : (answered : Bool) (fields : ConnectFields) (X : Type 0) → (if answered then Respond else Ignore) ≡ Takes fields → X
scan_takes_none true fields X is = absurd cc
scan_takes_none false fields X is = absurd cc

is_request : AreTaken → (params : AdvParams) (list : List Address) (pdu : AdvPdu) (fields : ConnectFields)
    → advertiser_answer params list pdu ≡ Takes fields → IsRequest params.own pdu fields
is_request taken params list (Connect from to ch_sel said) fields takes =
    let told = taken params list from to ch_sel said fields takes in
    record { from = from; to = to; ch_sel = ch_sel; is = ap (Connect from to ch_sel) (sym told.1); to_own = told.0.to_advertiser }
is_request taken params list (ScanReq from to) fields takes = scan_takes_none (is_scan_answered params list from to) fields _ takes
is_request taken params list other fields takes = absurd cc

pub of_advertising : (channel : ℕ) → IsAdvertisingChannel channel → is_advertising channel ≡ true
of_advertising channel is = rw (le-leb 37 channel is.0, lt-ltb channel 40 (omega (arith, is.1))) refl

heard_step : (received : Option (List ℕ)) (octets : List ℕ) → step_of received ≡ PacketHeard octets → received ≡ Some octets
heard_step None octets is = absurd cc
heard_step (Some heard) octets is = let same : heard ≡ octets = cc in ap Some same

same_channel : (one other : ℕ) → Listens one ≡ Listens other → one ≡ other
same_channel one other is = cc

pub wanted_is : (given : Given) (station : ℕ) (history : List Event) → (facts_at given station history).wanted ≡ use_at given station history
unfolding use_of
wanted_is given station history = refl

-- a packet with a CONNECT_IND begins a link
begins : (channel : ℕ) (octets : List ℕ) (from to : Address) (ch_sel : Bool) (fields : ConnectFields) → is_advertising channel ≡ true
    → pdu_heard channel octets ≡ Some (Connect from to ch_sel fields) → begins_link channel octets ≡ true
unfolding begins_link
begins channel octets from to ch_sel fields on says = ap (λ b. b && is_connect_ind (pdu_heard channel octets)) on ∙ ap is_connect_ind says

-- an end comes from a CONNECT_IND of the turn that is under way, and its link is the one that its station knows last
pub record IsLast (history : List Event) (station : ℕ) (end : EndSetup) : Type 0 where
  pub has : HasConnectInd history station end
  pub number : (links_of history).last_of station ≡ (links_of has.before).begun + 1
  pub now : turns_begun history ≡ end.opened + 1
  -- the station noted nothing since
  pub unnoted : noted_by station history ≡ noted_by station has.before

-- a central, whose CONNECT_IND was on the air
made_by : IsUnderstood → (given : Given) → HaveAddresses given → (station channel : ℕ) (link : LinkSetup) (history : List Event) → HasAired given history station
    → IsInSlot given history station → (facts_at given station history).turn.doing ≡ Connects channel link
    → IsLast history station (record { link = link; opened = (facts_at given station history).turn.slot })
made_by understood given six station channel link history aired in_slot doing =
    let setup = setup_at given station in
    let past = past_of station history in
    let fits = subst DoingFits doing (can_be_done setup past (six station)) in
    let wants = subst (λ (does : Doing). IsWanted does (facts_at given station history).wanted) doing (always_wanted setup past) in
    let pdu = Connect link.own link.peer true link.fields in
    let sent = aired channel (advertising_packet channel pdu) (sym (wanted_is given station history) ∙ wants.0) in
    let connect : ConnectInd = record {
      sender = station;
      channel = channel;
      octets = advertising_packet channel pdu;
      hearings = sent.hearings;
      from = link.own;
      to = link.peer;
      ch_sel = true;
      fields = link.fields;
    } in
    let end : EndSetup = record { link = link; opened = (facts_at given station history).turn.slot } in
    let on = of_advertising channel fits.0 in
    let says = understood channel pdu fits.1 in record {
      has = record {
        sent = connect;
        before = sent.before;
        after = sent.after;
        is_at = sent.is_at;
        in_turn = sent.in_turn ∙ in_slot;
        on_channel = on;
        says = says;
        fields_are = refl;
        is_at_end = subst (λ role. IsAtEnd role station end connect) (sym wants.1) (refl, refl, refl);
      };
      number = sent.number (begins channel (advertising_packet channel pdu) link.own link.peer true link.fields on says);
      now = in_slot;
      unnoted = sent.unnoted;
    }

-- a peripheral, which received a CONNECT_IND
taken_by : AreTaken → (given : Given) → HaveAddresses given → (station channel : ℕ) (octets : List ℕ) (on : AdvertiserFacts) (pdu : AdvPdu)
    (fields : ConnectFields) (handle : ℕ) (history : List Event) → HasHeard given history station → IsInSlot given history station
    → step_of (packet_received station history) ≡ PacketHeard octets
    → (facts_at given station history).turn.doing ≡ AwaitsRequest channel → pdu_heard channel octets ≡ Some pdu
    → advertiser_answer on.params (facts_at given station history).view.accepted pdu ≡ Takes fields
    → IsLast history station (record { link = link_taken (facts_at given station history).view on.params.own pdu fields handle; opened = (facts_at given station history).turn.slot })
taken_by taken given six station channel octets on pdu fields handle history heard in_slot is doing found takes =
    let setup = setup_at given station in
    let past = past_of station history in
    let fits = subst DoingFits doing (can_be_done setup past (six station)) in
    let wants = subst (λ (does : Doing). IsWanted does (facts_at given station history).wanted) doing (always_wanted setup past) in
    let sent = heard octets (heard_step (packet_received station history) octets is) (request_unforged (facts_at given station history) channel octets doing) in
    let on_it : channel ≡ sent.channel = same_channel channel sent.channel (sym wants ∙ wanted_is given station history ∙ sent.listens) in
    let request = is_request taken on.params (facts_at given station history).view.accepted pdu fields takes in
    let on_air = subst (λ one. is_advertising one ≡ true) on_it (of_advertising channel fits) in
    let says = subst (λ one. pdu_heard one octets ≡ Some (Connect request.from request.to request.ch_sel fields)) on_it (found ∙ ap Some request.is) in
    subst (λ one. IsLast history station (record { link = link_taken (facts_at given station history).view on.params.own one fields handle; opened = (facts_at given station history).turn.slot }))
    (sym request.is) (record {
      has = record {
        sent = record {
          sender = sent.sender;
          channel = sent.channel;
          octets = octets;
          hearings = sent.hearings;
          from = request.from;
          to = request.to;
          ch_sel = request.ch_sel;
          fields = fields;
        };
        before = sent.before;
        after = sent.after;
        is_at = sent.is_at;
        in_turn = sent.in_turn ∙ in_slot;
        on_channel = on_air;
        says = says;
        fields_are = refl;
        is_at_end = (sent.differs, sent.received, refl, request.to_own, refl);
      };
      number = sent.number (begins sent.channel octets request.from request.to request.ch_sel fields on_air says);
      now = in_slot;
      unnoted = sent.unnoted;
    })

-- ---- what each step keeps

abbrev IsReady : Given → List Event → ℕ → Type 0
IsReady given history station = (packet_received station history ≡ None) × IsInSlot given history station

-- whether a station has begun the turn, has sent what it wants to, and has taken what it heard
abbrev Begun : Bool → Given → List Event → ℕ → Type 0
Begun true given history station = IsReady given history station
Begun false given history station = Unit {0}

abbrev Sent : Bool → Given → List Event → ℕ → Type 0
Sent true given history station = HasAired given history station
Sent false given history station = Unit {0}

abbrev Listened : Bool → Given → List Event → ℕ → Type 0
Listened true given history station = packet_received station history ≡ None
Listened false given history station = HasHeard given history station × HasAired given history station

abbrev AtPlace : Given → Place → List Event → ℕ → Type 0
AtPlace given NoTurn history station = Unit {0}
AtPlace given (AtFeeds done left) history station = Unit {0}
AtPlace given (AtBegins done left) history station = Begun (is_in station done) given history station
AtPlace given (AfterPhases phases) history station = IsReady given history station
AtPlace given (AtPackets phases done left) history station =
    IsInSlot given history station × HasHeard given history station × Sent (is_in station done) given history station
AtPlace given (AtListening phases done left) history station = IsInSlot given history station × Listened (is_in station done) given history station
AtPlace given (AtEnds done left) history station = Unit {0}

pub record IsLinkedSoFar (given : Given) (place : Place) (history : List Event) : Type 0 where
  so_far : AreLinkedSoFar given history
  at : (station : ℕ) → is_in station given.stations ≡ true → AtPlace given place history station

-- ---- the controllers begin the turn

begun_own : (given : Given) (station slot : ℕ) (on : Bool) (history : List Event) → turns_begun history ≡ slot + 1
    → IsInSlot given (after_call given station (TurnBegins slot on) history) station
begun_own given station slot on history turns =
    let setup = setup_at given station in
    let step = TurnBegins slot on in
    let notes = notes_after setup (facts_at given station history) step in
    turns_called station step notes history ∙ turns
    ∙ ap (λ n. n + 1) (sym (ap (λ facts. facts.turn.slot) (ap (facts_of setup) (past_own station step notes history) ∙ facts_more setup (past_of station history) step)
    ∙ begun_slot setup slot on (facts_at given station history)))

begun_more : (given : Given) (station : ℕ) (step : Step) (history : List Event) (other : ℕ) → (other == station) ≡ false → (begun : Bool)
    → Begun begun given history other → Begun begun given (after_call given station step history) other
begun_more given station step history other differs true ready = (
  received_by given other station step history false differs ∙ ready.0,
  slot_same given other history _ (called_same given other station step history differs) ready.1,
)
begun_more given station step history other differs false ready = tt

begin_by : (given : Given) (done : List ℕ) (station slot : ℕ) (on : Bool) (history : List Event) → turns_begun history ≡ slot + 1
    → (other : ℕ) → Begun (is_in other done) given history other → (same : Bool) → (other == station) ≡ same
    → Begun (is_in other (done ++ station ∷ [])) given (after_call given station (TurnBegins slot on) history) other
begin_by given done station slot on history turns other ready true is =
    let after = after_call given station (TurnBegins slot on) history in
    subst (λ b. Begun b given after other) (sym (in_more_same other station done is)) (
      received_by given other station (TurnBegins slot on) history true is,
      subst (IsInSlot given after) (sym (eqb-true other station is)) (begun_own given station slot on history turns),
    )
begin_by given done station slot on history turns other ready false is =
    subst (λ b. Begun b given (after_call given station (TurnBegins slot on) history) other) (sym (in_more_other other station done is))
    (begun_more given station (TurnBegins slot on) history other is (is_in other done) ready)

-- ---- packets

packet_same : (other station channel : ℕ) (octets : List ℕ) (hearings : List Heard) (history : List Event)
    → IsSame other history (Transmitted station channel octets hearings ∷ [])
packet_same other station channel octets hearings history = record {
  past = flat_nothing (steps_in other) history (Transmitted station channel octets hearings) refl;
  turns = turns_same history (Transmitted station channel octets hearings) refl;
  noted = flat_nothing (notes_in other) history (Transmitted station channel octets hearings) refl;
}

-- the links that stations know after a packet
last_sent : (station channel : ℕ) (octets : List ℕ) (hearings : List Heard) (history : List Event) (other : ℕ) (begins sends receives : Bool)
    → begins_link channel octets ≡ begins → (other == station) ≡ sends → has_received other hearings ≡ receives
    → last_at (history ++ Transmitted station channel octets hearings ∷ []) other
    ≡ (if begins && (sends || receives) then (links_of history).begun + 1 else last_at history other)
last_sent station channel octets hearings history other begins sends receives is own heard =
    ap (λ (links : Links). links.last_of other) (links_event history (Transmitted station channel octets hearings))
    ∙ ap (λ b. (if b then with_link station hearings (links_of history) else links_of history).last_of other) is
    ∙ by begins
  where
    by : (test : Bool) → (if test then with_link station hearings (links_of history) else links_of history).last_of other
        ≡ (if test && (sends || receives) then (links_of history).begun + 1 else last_at history other)
    by true = rw (own, heard) refl
    by false = refl

-- it is the one that it sent or received
last_begun : (station channel : ℕ) (octets : List ℕ) (hearings : List Heard) (history : List Event) (other : ℕ) → begins_link channel octets ≡ true
    → (sends receives : Bool) → (other == station) ≡ sends → has_received other hearings ≡ receives → (sends || receives) ≡ true
    → last_at (history ++ Transmitted station channel octets hearings ∷ []) other ≡ (links_of history).begun + 1
last_begun station channel octets hearings history other begins sends receives own heard one =
    last_sent station channel octets hearings history other true sends receives begins own heard
    ∙ ap (λ b. if b then (links_of history).begun + 1 else last_at history other) one

-- whoever did neither knows none of it
last_other : (station channel : ℕ) (octets : List ℕ) (hearings : List Heard) (history : List Event) (other : ℕ) → (other == station) ≡ false
    → has_received other hearings ≡ false → last_at (history ++ Transmitted station channel octets hearings ∷ []) other ≡ last_at history other
last_other station channel octets hearings history other differs none =
    last_sent station channel octets hearings history other (begins_link channel octets) false false refl differs none ∙ by (begins_link channel octets)
  where
    by : (begins : Bool) → (if begins && (false || false) then (links_of history).begun + 1 else last_at history other) ≡ last_at history other
    by true = refl
    by false = refl

-- a station that sends receives nothing
sends_or_listens : (wanted : Use) (channel on : ℕ) (octets : List ℕ) (X : Type 0) → wanted ≡ Sends channel octets → wanted ≡ Listens on → X
sends_or_listens wanted channel on octets X sends listens = absurd (let h : Sends channel octets ≡ Listens on = sym sends ∙ listens in absurd cc)

pub deaf_by : (given : Given) (fates : List Fate) (station channel : ℕ) (octets : List ℕ) (history : List Event) (other on : ℕ) (own : List ℕ)
    → use_at given other history ≡ Sends on own → (received : Bool) → has_received other (hearings_of given fates station channel octets history) ≡ received → received ≡ false
deaf_by given fates station channel octets history other on own wants true is =
    let listener = is_listener given fates channel octets history station other is in
    sends_or_listens (use_at given other history) on channel own _ wants listener.listens
deaf_by given fates station channel octets history other on own wants false is = refl

deaf : (given : Given) (fates : List Fate) (station channel : ℕ) (octets : List ℕ) (history : List Event) (other on : ℕ) (own : List ℕ)
    → use_at given other history ≡ Sends on own → has_received other (hearings_of given fates station channel octets history) ≡ false
deaf given fates station channel octets history other on own wants =
    deaf_by given fates station channel octets history other on own wants (has_received other (hearings_of given fates station channel octets history)) refl

heard_more : (given : Given) (station channel : ℕ) (octets : List ℕ) (hearings : List Heard) (history : List Event) → use_at given station history ≡ Sends channel octets
    → (other : ℕ) → HasHeard given history other → has_received other hearings ≡ false
    → packet_received other (history ++ Transmitted station channel octets hearings ∷ []) ≡ packet_received other history → (same : Bool) → (other == station) ≡ same
    → HasHeard given (history ++ Transmitted station channel octets hearings ∷ []) other
heard_more given station channel octets hearings history wanted other heard none still true is = λ sent same unforged.
    let event = Transmitted station channel octets hearings in
    let told = heard sent (sym still ∙ same)
    (unforged_same given other history (history ++ event ∷ []) sent (packet_same other station channel octets hearings history).past unforged) in
    sends_or_listens (use_at given other history) channel told.channel octets _
    (ap (λ n. use_at given n history) (eqb-true other station is) ∙ wanted) told.listens
heard_more given station channel octets hearings history wanted other heard none still false is =
    heard_same given other history (Transmitted station channel octets hearings ∷ []) (packet_same other station channel octets hearings history) still
    (last_other station channel octets hearings history other is none) heard

hears_by : (given : Given) (fates : List Fate) (station channel : ℕ) (octets : List ℕ) (history : List Event) → use_at given station history ≡ Sends channel octets
    → unseen_in octets (hearings_of given fates station channel octets history) ≡ None → (other : ℕ) → HasHeard given history other
    → HasHeard given (history ++ Transmitted station channel octets (hearings_of given fates station channel octets history) ∷ []) other
hears_by given fates station channel octets history wanted seen other heard =
    by (handing given fates station channel octets history other (packet_received other history) seen)
  where
    hearings : List Heard
    hearings = hearings_of given fates station channel octets history

    event : Event
    event = Transmitted station channel octets hearings

    handed : Option (List ℕ)
    handed = handed_or (packet_received other history) other octets hearings

    past : past_of other (history ++ event ∷ []) ≡ past_of other history
    past = (packet_same other station channel octets hearings history).past

    by : IsHanded (has_received other hearings) octets (packet_received other history) handed (facts_at given other history) (use_at given other history) channel (other == station)
        → HasHeard given (history ++ event ∷ []) other
    by (WasReceived is as_sent) = λ sent same unforged.
        let listener = is_listener given fates channel octets history station other is in
        let told : Some octets ≡ Some sent = sym (received_event other history event ∙ as_sent) ∙ same in
        let equal : octets ≡ sent = cc in
        let unlike : (other ≡ station) → ⊥ = eqb-false other station listener.differs in record {
          sender = station;
          channel = channel;
          before = history;
          hearings = hearings;
          after = [];
          is_at = ap (λ xs. history ++ Transmitted station channel xs hearings ∷ []) equal;
          in_turn = sym (turns_same history event refl);
          differs = λ one. unlike (sym one);
          received = is;
          listens = use_same given other history (history ++ event ∷ []) past ∙ listener.listens;
          number = λ begins. last_begun station channel octets hearings history other (ap (begins_link channel) equal ∙ begins) false true listener.differs is refl;
          unnoted = (packet_same other station channel octets hearings history).noted;
        }
    by (WasForged left as_left forged listens differs) = λ sent same unforged.
        let told : Some left ≡ Some sent = sym (received_event other history event ∙ as_left) ∙ same in
        let equal : left ≡ sent = cc in
        absurd (unforged_same given other history (history ++ event ∷ []) sent past unforged
        (ap (verdict_of (facts_at given other history)) (sym equal) ∙ forged))
    by (WasNot is as_before) =
        heard_more given station channel octets hearings history wanted other heard is (received_event other history event ∙ as_before) (other == station) refl

-- the station that transmits
airs : (given : Given) (station channel : ℕ) (octets : List ℕ) (hearings : List Heard) (history : List Event) → use_at given station history ≡ Sends channel octets
    → HasAired given (history ++ Transmitted station channel octets hearings ∷ []) station
airs given station channel octets hearings history wanted = λ on sent wants.
    let event = Transmitted station channel octets hearings in
    let same_use : Sends channel octets ≡ Sends on sent =
    sym wanted ∙ sym (use_same given station history (history ++ event ∷ []) (packet_same station station channel octets hearings history).past) ∙ wants in
    let same_channel : channel ≡ on = cc in
    let same_octets : octets ≡ sent = cc in record {
      before = history;
      hearings = hearings;
      after = [];
      is_at = ap (λ n. history ++ Transmitted station n octets hearings ∷ []) same_channel
          ∙ ap (λ xs. history ++ Transmitted station on xs hearings ∷ []) same_octets;
      in_turn = sym (turns_same history event refl);
      number = λ begins. last_begun station channel octets hearings history station
          (ap (λ n. begins_link n octets) same_channel ∙ ap (begins_link on) same_octets ∙ begins)
          true (has_received station hearings) (same_station station) refl refl;
      unnoted = (packet_same station station channel octets hearings history).noted;
    }

sent_more : (given : Given) (fates : List Fate) (station channel : ℕ) (octets : List ℕ) (history : List Event) (other : ℕ) → (other == station) ≡ false → (sent : Bool)
    → Sent sent given history other → Sent sent given (history ++ Transmitted station channel octets (hearings_of given fates station channel octets history) ∷ []) other
sent_more given fates station channel octets history other differs true has = λ on own wants.
    let hearings = hearings_of given fates station channel octets history in
    let more = Transmitted station channel octets hearings ∷ [] in
    let same = packet_same other station channel octets hearings history in
    let wanted = sym (use_same given other history (history ++ more) same.past) ∙ wants in
    aired_same given other history more same
    (last_other station channel octets hearings history other differs (deaf given fates station channel octets history other on own wanted)) has on own wants
sent_more given fates station channel octets history other differs false has = tt

packet_by : (given : Given) (fates : List Fate) (done : List ℕ) (station channel : ℕ) (octets : List ℕ) (history : List Event)
    → use_at given station history ≡ Sends channel octets → (other : ℕ) → Sent (is_in other done) given history other → (same : Bool) → (other == station) ≡ same
    → Sent (is_in other (done ++ station ∷ [])) given (history ++ Transmitted station channel octets (hearings_of given fates station channel octets history) ∷ []) other
packet_by given fates done station channel octets history wanted other has true is =
    let hearings = hearings_of given fates station channel octets history in
    let after = history ++ Transmitted station channel octets hearings ∷ [] in
    subst (λ b. Sent b given after other) (sym (in_more_same other station done is))
    (subst (HasAired given after) (sym (eqb-true other station is)) (airs given station channel octets hearings history wanted))
packet_by given fates done station channel octets history wanted other has false is =
    let hearings = hearings_of given fates station channel octets history in
    subst (λ b. Sent b given (history ++ Transmitted station channel octets hearings ∷ []) other) (sym (in_more_other other station done is))
    (sent_more given fates station channel octets history other is (is_in other done) has)

wants_none : (wanted : Use) (channel : ℕ) (octets : List ℕ) (X : Type 0) → packet_in wanted ≡ [] → wanted ≡ Sends channel octets → X
wants_none wanted channel octets X none sends =
    absurd (let h : (channel, octets) ∷ [] ≡ [] = sym (ap packet_in sends) ∙ none in absurd cc)

silence_by : (given : Given) (done : List ℕ) (station : ℕ) (history : List Event) → packet_in (use_at given station history) ≡ []
    → (other : ℕ) → Sent (is_in other done) given history other → (same : Bool) → (other == station) ≡ same
    → Sent (is_in other (done ++ station ∷ [])) given history other
silence_by given done station history none other has true is =
    subst (λ b. Sent b given history other) (sym (in_more_same other station done is))
    (subst (HasAired given history) (sym (eqb-true other station is))
    (λ channel octets wants. wants_none (use_at given station history) channel octets _ none wants))
silence_by given done station history none other has false is =
    subst (λ b. Sent b given history other) (sym (in_more_other other station done is)) has

-- ---- what is heard

listened_more : (given : Given) (station : ℕ) (step : Step) (history : List Event) (other : ℕ) → (other == station) ≡ false → (listened : Bool)
    → Listened listened given history other → Listened listened given (after_call given station step history) other
listened_more given station step history other differs true none = received_by given other station step history false differs ∙ none
listened_more given station step history other differs false has =
    let same = called_same given other station step history differs in
    let last = last_called given station step history other in (
      heard_same given other history _ same (received_by given other station step history false differs) last has.0,
      aired_same given other history _ same last has.1,
    )

listen_by : (given : Given) (done : List ℕ) (station : ℕ) (step : Step) (history : List Event) → (other : ℕ) → Listened (is_in other done) given history other
    → (same : Bool) → (other == station) ≡ same
    → Listened (is_in other (done ++ station ∷ [])) given (after_call given station step history) other
listen_by given done station step history other has true is =
    subst (λ b. Listened b given (after_call given station step history) other) (sym (in_more_same other station done is))
    (received_by given other station step history true is)
listen_by given done station step history other has false is =
    subst (λ b. Listened b given (after_call given station step history) other) (sym (in_more_other other station done is))
    (listened_more given station step history other is (is_in other done) has)

phase_own : (given : Given) (station : ℕ) (received : Option (List ℕ)) (history : List Event) → IsInSlot given history station
    → IsInSlot given (after_call given station (step_of received) history) station
phase_own given station received history in_slot =
    let setup = setup_at given station in
    let step = step_of received in
    let notes = notes_after setup (facts_at given station history) step in
    turns_called station step notes history ∙ in_slot
    ∙ ap (λ n. n + 1) (sym (ap (λ facts. facts.turn.slot) (ap (facts_of setup) (past_own station step notes history) ∙ facts_more setup (past_of station history) step)
    ∙ phase_slot setup (facts_at given station history) received))

slot_by : (given : Given) (station : ℕ) (received : Option (List ℕ)) (history : List Event) (other : ℕ) → IsInSlot given history other
    → (same : Bool) → (other == station) ≡ same → IsInSlot given (after_call given station (step_of received) history) other
slot_by given station received history other in_slot true is =
    let one = eqb-true other station is in
    subst (IsInSlot given (after_call given station (step_of received) history)) (sym one)
    (phase_own given station received history (subst (IsInSlot given history) one in_slot))
slot_by given station received history other in_slot false is =
    slot_same given other history _ (called_same given other station (step_of received) history is) in_slot

may_open : IsUnderstood → AreTaken → (given : Given) → HaveAddresses given → (station : ℕ) (history : List Event) → HasHeard given history station
    → HasAired given history station → IsInSlot given history station
    → MayOpen (IsLast history station) (facts_at given station history) (step_of (packet_received station history))
may_open understood taken given six station history heard aired in_slot = record {
  made = λ channel link ends doing. made_by understood given six station channel link history aired in_slot doing;
  taken = λ channel octets on pdu fields handle is doing found takes.
      taken_by taken given six station channel octets on pdu fields handle history heard in_slot is doing found takes;
}

-- in the call that ends a phase, what a link is set up with comes from a CONNECT_IND, of which its station knows
pub may_open_at : IsUnderstood → AreTaken → (given : Given) → HaveAddresses given → AreDistinct given.stations → (phases : ℕ) (done left : List ℕ) (station : ℕ)
    (history : List Event) → given.stations ≡ done ++ station ∷ left → IsLinkedSoFar given (AtListening phases done (station ∷ left)) history
    → MayOpen (IsLast history station) (facts_at given station history) (step_of (packet_received station history))
may_open_at understood taken given six distinct phases done left station history are linked =
    let own = linked.at station (among given.stations done left station are) in
    let has = subst (λ b. Listened b given history station) (not_before given.stations done left station distinct are) own.1 in
    may_open understood taken given six station history has.0 has.1 own.0

has_one : (given : Given) (station : ℕ) (history : List Event) (step : Step) → MayOpen (IsLast history station) (facts_at given station history) step
    → MayOpen (HasConnectInd history station) (facts_at given station history) step
has_one given station history step may = record {
  made = λ channel link ends doing. (may.made channel link ends doing).has;
  taken = λ channel octets on pdu fields handle is doing found takes. (may.taken channel octets on pdu fields handle is doing found takes).has;
}

-- ---- the run

pub linked_kept : IsUnderstood → AreTaken → (given : Given) → HaveAddresses given → AreDistinct given.stations → IsKept given (IsLinkedSoFar given)
linked_kept understood taken given six distinct = record {
  on_turn = λ slot plan history begun at linked. record {
    so_far = event_linked given history (TurnBegan slot (map plan.radio_of given.stations)) (λ station. refl) linked.so_far;
    at = λ station is. tt;
  };
  on_feed = λ plan done left station history are some now linked. record {
    so_far = feed_linked given station (take (plan.feed_of station) (octets_left given station history)) history linked.so_far;
    at = λ other is. tt;
  };
  on_fed = λ history linked. record { so_far = linked.so_far; at = λ station is. tt };
  on_begin = λ slot plan done left station history are due linked.
      let step = TurnBegins slot (plan.radio_of station) in record {
        so_far = call_linked given station step history (opens_none _ _ step refl) linked.so_far;
        at = λ other is. begin_by given done station slot (plan.radio_of station) history due.slot_is other (linked.at other is) (other == station) refl;
      };
  on_begun = λ history linked. record {
    so_far = linked.so_far;
    at = λ station is. subst (λ b. Begun b given history station) is (linked.at station is);
  };
  on_phase = λ phases history few linked. record {
    so_far = linked.so_far;
    at = λ station is. let ready = linked.at station is in (ready.1, heard_none given station history ready.0, tt);
  };
  on_silence = λ phases done left station history are none linked. record {
    so_far = linked.so_far;
    at = λ other is. let has = linked.at other is in (has.0, has.1, silence_by given done station history none other has.2 (other == station) refl);
  };
  on_packet = λ phases plan done left station channel octets history are some due linked.
      let hearings = hearings_of given plan.fates station channel octets history in
      let event = Transmitted station channel octets hearings in record {
        so_far = event_linked given history event (λ other. refl) linked.so_far;
        at = λ other is. let has = linked.at other is in (
          slot_same given other history (event ∷ []) (packet_same other station channel octets hearings history) has.0,
          hears_by given plan.fates station channel octets history due.is_wanted due.is_seen other has.1,
          packet_by given plan.fates done station channel octets history due.is_wanted other has.2 (other == station) refl,
        );
      };
  on_air = λ phases history linked. record {
    so_far = linked.so_far;
    at = λ station is. let has = linked.at station is in (has.0, (has.1, subst (λ b. Sent b given history station) is has.2));
  };
  on_hearing = λ phases done left station history are some linked.
      let received = packet_received station history in record {
        so_far = call_linked given station (step_of received) history (has_one given station history (step_of received)
            (may_open_at understood taken given six distinct phases done left station history are linked)) linked.so_far;
        at = λ other is. let one = linked.at other is in (
          slot_by given station received history other one.0 (other == station) refl,
          listen_by given done station (step_of received) history other one.1 (other == station) refl,
        );
      };
  on_heard = λ phases history linked. record {
    so_far = linked.so_far;
    at = λ station is. let has = linked.at station is in (subst (λ b. Listened b given history station) is has.1, has.0);
  };
  on_phases = λ history linked. record { so_far = linked.so_far; at = λ station is. tt };
  on_end = λ done left station history are some linked. record {
    so_far = call_linked given station TurnEnds history (opens_none _ _ TurnEnds refl) linked.so_far;
    at = λ other is. tt;
  };
  on_ended = λ history linked. record { so_far = linked.so_far; at = λ station is. tt };
}

first_linked : (given : Given) (station : ℕ) → EachLink (HasConnectInd [] station) (facts_at given station []).links
unfolding facts_of
first_linked given station = none_linked (HasConnectInd [] station) (setup_at given station).links

pub no_turn_linked : (given : Given) → IsLinkedSoFar given NoTurn []
no_turn_linked given = record { so_far = record { each = tt; linked = first_linked given }; at = λ station is. tt }

run_linked : IsUnderstood → AreTaken → (given : Given) → HaveAddresses given → AreDistinct given.stations → AreLinkedSoFar given (history_of (run_of given))
run_linked understood taken given six distinct =
    ends_with (run_of given) (IsWhole given (IsLinkedSoFar given)) (IsStopped given (IsLinkedSoFar given)) (AreLinkedSoFar given)
    (run_kept given (IsLinkedSoFar given) (linked_kept understood taken given six distinct) (no_turn_linked given))
    (λ history whole. whole.is.so_far) (λ history stop stopped. stopped.kept.so_far)

linked_before : (given : Given) (history before rest : List Event) → history ≡ before ++ rest → AreLinkedSoFar given history → AreLinked given before
linked_before given history before [] is so_far = subst (AreLinked given) (is ∙ append-nil before) so_far.linked
linked_before given history before (event ∷ rest) is so_far = each_at (LinkedBefore given) history before rest event so_far.each is

pub has_connect_ind : IsUnderstood → AreTaken → (given : Given) (before rest : List Event) (station handle : ℕ) (link : OpenLink) → AreDistinct given.stations
    → HaveAddresses given → history_of (run_of given) ≡ before ++ rest → link_at handle (facts_at given station before).links ≡ Some link
    → HasConnectInd before station link.setup
has_connect_ind understood taken given before rest station handle link distinct six is at =
    link_has (HasConnectInd before station) 0 handle (facts_at given station before).links link
    (linked_before given (history_of (run_of given)) before rest is (run_linked understood taken given six distinct) station) at

pub pair_addresses : (a b : List ℕ) (script : Script) → length script.a.public ≡ 6 → length script.b.public ≡ 6 → HaveAddresses (given_of a b script)
pair_addresses a b script six six_too zero = six
pair_addresses a b script six six_too (suc station) = six_too

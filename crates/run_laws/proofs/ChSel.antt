-- In a run each link has channel selection algorithm #2: ChSel is 1 in what both ends heard of each other.
use Rattle.std.proofs.Common.{◌≡◌, ℕ, ◌<◌, ◌==◌, inl, inr, Bool, true, false, Option, Some, None, List, ◌++◌, refl, sym, ap, subst, ◌∙◌, arith}
use Rattle.std.specs.Prelude.{⊤}
use Rattle.std.proofs.lemmas.Bool.{and_parts, eqb-true}
use Rattle.ble_base.specs.declared.addresses.Address.{Address}
use Rattle.adv_pdu.specs.declared.pdu.AdvPdu.{AdvPdu}
use Rattle.adv_pdu.specs.declared.pdu.AdvPdu.TheVariants.{Ind, Direct, ScanReq, Connect}
use Rattle.adv_pdu.specs.declared.pdu.ConnectFields.{ConnectFields}
use Rattle.adv_pdu.specs.Pdu.{ch_sel_of, sender_of}
use Rattle.adv_pdu.specs.Ranges.{is_in_range}
use Rattle.advertise.specs.declared.answers.AdvAnswer.TheVariants.{Connect as Takes}
use Rattle.advertise.specs.declared.params.AdvParams.{AdvParams}
use Rattle.advertise.specs.Answers.{advertiser_answer, is_scan_answered}
use Rattle.run_model.specs.link_model.Setup.{Setup as EndSetup}
use Rattle.run_model.specs.link_model.declared.setup.LinkSetup.{LinkSetup}
use Rattle.scan_init.specs.Initiating.{InitiatorFacts, is_accepted, is_connectable_to, is_sought}
use Rattle.run_model.specs.open_links.OpenLinks.{OpenLink, free_from, link_at}
use Rattle.run_model.specs.controller_model.declared.doing.Doing.{Doing}
use Rattle.run_model.specs.controller_model.declared.doing.Doing.TheVariants.{Advertises, Requests, Initiates, Connects, CentralSends}
use Rattle.run_model.specs.controller_model.declared.doing.Turn.{Turn}
use Rattle.run_model.specs.controller_model.Step.{Step, HostOctet, TurnBegins, PacketHeard, TurnEnds}
use Rattle.run_model.specs.controller_model.Facts.{Setup, Facts, Listens}
use Rattle.run_model.specs.controller_model.Heard.{answers_by_connecting, connects, fields_sent, heard, if_pdu, initiator_heard, is_new_between, link_if, link_made, link_to, link_under, link_wanted, link_with, next_access_of, unheard}
use Rattle.run_model.specs.controller_model.Packets.{pdu_heard}
use Rattle.run_model.specs.controller_model.Side.{facts_after}
use Rattle.run_model.proofs.Handing.{IsUnforged, initiator_unforged, request_unforged}
use Rattle.run_model.proofs.Linked.{opens_none}
use Rattle.run_model.proofs.controller_model.Always.{IsAdvertisingChannel, MayBegin}
use Rattle.run_model.proofs.controller_model.DataChannels.{link_channel}
use Rattle.run_model.specs.Feeding.{AreDistinct}
use Rattle.run_model.specs.History.{Event}
use Rattle.run_model.specs.LinkEnds.{HaveAddresses}
use Rattle.run_model.specs.Run.{Given, setup_at, facts_at, step_of, run_of, history_of}
use Rattle.run_model.proofs.LinkEnds.{IsUnderstood, scan_takes_none}
use Rattle.run_model.proofs.LinkSteps.{EachLink, MayOpen, link_has, none_linked, step_linked}
use Rattle.run_model.proofs.Stations.{is_in}
use Rattle.run_laws.proofs.ByCalls.{IsCalled, IsKeptByCalls, WasSent, always_by_calls}
use Rattle.run_laws.proofs.Entering.{IsInTurn}
use Rattle.run_laws.proofs.Hearings.{IsOnAir}
use Rattle.run_laws.proofs.SentPackets.{HasChSel}
use Rattle.run_laws.proofs.TurnPlaces.{Within}
use Rattle.run_laws.proofs.TurnSteps.{FitsChannel, IsListening, begins_may, initiates, octet_turn, pending, phase_turn}
use Rattle.run_model.specs.link_model.OneLink.{AreOneLink}
use Rattle.run_laws.specs.Ends.{AreEnds, IsOpen, OpenEnd}
use Rattle.run_laws.proofs.SameEvent.{one_connect_ind}

abbrev HasTwo : EndSetup → Type 0
HasTwo end = end.link.two ≡ true

-- so has a link that is to be made
abbrev MakesTwo : Doing → Type 0
MakesTwo (Connects channel link) = link.two ≡ true
MakesTwo other = ⊤

record HaveTwo (facts : Facts) : Type 0 where
  links : EachLink HasTwo facts.links
  makes : MakesTwo facts.turn.doing

none_makes : (doing : Doing) → pending doing ≡ 0 → MakesTwo doing
none_makes (Connects channel link) none = absurd (omega (arith, none))
none_makes (Advertises channel) none = tt
none_makes other none = tt

may_make : (doing : Doing) → MayBegin doing → MakesTwo doing
may_make (Connects channel link) may = absurd may
may_make (Advertises channel) may = tt
may_make other may = tt

-- ---- what is heard has ChSel 1

-- a PDU that is heard on an advertising channel
abbrev IsWell : ℕ → List ℕ → Type 0
IsWell channel octets = (pdu : AdvPdu) → pdu_heard channel octets ≡ Some pdu → HasChSel pdu

pub one_channel : (one other : ℕ) → Listens one ≡ Listens other → one ≡ other
one_channel one other is = cc

sent_well : IsUnderstood → (phases : ℕ) (facts : Facts) (channel : ℕ) (octets : List ℕ) → IsAdvertisingChannel channel → IsOnAir phases facts channel octets
    → IsWell channel octets
sent_well understood phases facts channel octets on_channel (inl sent) = λ pdu is.
    let found : Some sent.pdu ≡ Some pdu = sym (ap (pdu_heard channel) sent.packet ∙ understood channel sent.pdu sent.is_pdu) ∙ is in
    let same : sent.pdu ≡ pdu = cc in
    subst HasChSel same sent.ch_sel
sent_well understood phases facts channel octets on_channel (inr sent) = λ pdu is.
    let below : channel < 37 = subst (λ (n : ℕ). n < 37) (sym sent.channel_is) (link_channel sent.link) in
    let from = on_channel.0 in absurd (omega (arith, below, from))

heard_well : IsUnderstood → (given : Given) (phases : ℕ) (before : ℕ → Facts) (station channel : ℕ) (octets : List ℕ) → WasSent given phases before station octets
    → IsUnforged (before station) octets → (before station).wanted ≡ Listens channel → IsAdvertisingChannel channel → IsWell channel octets
heard_well understood given phases before station channel octets sent unforged wanted on_channel =
    let same = one_channel sent.channel channel (sym sent.listens ∙ wanted) in
    sent_well understood phases (before sent.sender) channel octets on_channel (subst (λ n. IsOnAir phases (before sent.sender) n octets) same (sent.sent unforged))

-- ---- an initiator

connectable_two : (own : Address) (pdu : AdvPdu) → is_connectable_to own pdu ≡ true → HasChSel pdu → ch_sel_of pdu ≡ true
connectable_two own (Ind from ch_sel body) is well = well
connectable_two own (Direct from to ch_sel) is well = well
connectable_two own (Connect from to ch_sel fields) is well = absurd cc
connectable_two own other is well = absurd cc

abbrev LinkTwo : Option LinkSetup → Type 0
LinkTwo None = ⊤
LinkTwo (Some link) = link.two ≡ true

connects_two : (may : Option LinkSetup) (setup : Setup) (channel : ℕ) (facts : Facts) → LinkTwo may → MakesTwo (connects may setup channel facts).next
connects_two None setup channel facts two = tt
connects_two (Some link) setup channel facts two = two

if_two : (fits : Bool) (link : LinkSetup) → link.two ≡ true → LinkTwo (link_if fits link)
if_two false link two = tt
if_two true link two = two

under_two : (free : Option ℕ) (setup : Setup) (on : InitiatorFacts) (pdu : AdvPdu) (access : ℕ) (facts : Facts) → ch_sel_of pdu ≡ true
    → LinkTwo (link_under free setup on pdu access facts)
under_two None setup on pdu access facts two = tt
under_two (Some handle) setup on pdu access facts two =
    if_two (is_in_range (fields_sent setup on access facts)) (link_made facts.view on.params.own pdu (fields_sent setup on access facts) handle) two

with_two : (access : Option ℕ) (setup : Setup) (on : InitiatorFacts) (pdu : AdvPdu) (facts : Facts) → ch_sel_of pdu ≡ true → LinkTwo (link_with access setup on pdu facts)
with_two None setup on pdu facts two = tt
with_two (Some access) setup on pdu facts two = under_two (free_from 0 facts.links) setup on pdu access facts two

wanted_two : (answers : Bool) (setup : Setup) (on : InitiatorFacts) (pdu : AdvPdu) (facts : Facts) → (answers ≡ true → ch_sel_of pdu ≡ true)
    → LinkTwo (link_wanted answers setup on pdu facts)
wanted_two false setup on pdu facts two = tt
wanted_two true setup on pdu facts two = with_two (next_access_of setup facts) setup on pdu facts (two refl)

answers_two : (on : InitiatorFacts) (pdu : AdvPdu) (facts : Facts) → HasChSel pdu → answers_by_connecting on pdu facts ≡ true → ch_sel_of pdu ≡ true
answers_two on pdu facts well is =
    let accepted = (and_parts (is_accepted on.params facts.view.accepted pdu) (is_new_between on.params.own (sender_of pdu) facts.links) is).0 in
    connectable_two on.params.own pdu (and_parts (is_connectable_to on.params.own pdu) (is_sought on.params.peer facts.view.accepted (sender_of pdu)) accepted).0 well

initiator_two : (on : Option InitiatorFacts) (setup : Setup) (channel : ℕ) (pdu : AdvPdu) (facts : Facts) → HasChSel pdu
    → MakesTwo (initiator_heard on setup channel pdu facts).next
initiator_two None setup channel pdu facts well = tt
initiator_two (Some on) setup channel pdu facts well =
    connects_two (link_to setup on pdu facts) setup channel facts
    (wanted_two (answers_by_connecting on pdu facts) setup on pdu facts (answers_two on pdu facts well))

found_two : (found : Option AdvPdu) (setup : Setup) (channel : ℕ) (facts : Facts) → ((pdu : AdvPdu) → found ≡ Some pdu → HasChSel pdu)
    → MakesTwo (if_pdu found facts (λ pdu. initiator_heard facts.initiator setup channel pdu facts)).next
found_two None setup channel facts well = tt
found_two (Some pdu) setup channel facts well = initiator_two facts.initiator setup channel pdu facts (well pdu refl)

heard_two : (setup : Setup) (facts : Facts) (octets : List ℕ) (doing : Doing) → facts.turn.doing ≡ doing
    → ((channel : ℕ) → doing ≡ Initiates channel → IsWell channel octets) → MakesTwo (facts_after setup facts (PacketHeard octets)).turn.doing
heard_two setup facts octets (Initiates channel) is well =
    subst (λ (d : Doing). MakesTwo (heard setup d octets facts).next) (sym is) (found_two (pdu_heard channel octets) setup channel facts (well channel refl))
heard_two setup facts octets (Advertises channel) is well = none_makes _ ((phase_turn setup facts (Some octets)).last (ap initiates is))
heard_two setup facts octets doing is well = none_makes _ ((phase_turn setup facts (Some octets)).last (ap initiates is))

unheard_two : (doing : Doing) (facts : Facts) → MakesTwo (unheard doing facts).next
unheard_two (Advertises channel) facts = tt
unheard_two (Requests channel advertiser) facts = tt
unheard_two (Connects channel link) facts = tt
unheard_two (CentralSends handle) facts = tt
unheard_two other facts = tt

-- ---- an advertiser

takes_two : (params : AdvParams) (list : List Address) (pdu : AdvPdu) (fields : ConnectFields) → advertiser_answer params list pdu ≡ Takes fields → HasChSel pdu → ch_sel_of pdu ≡ true
takes_two params list (Connect from to ch_sel said) fields takes well = well
takes_two params list (ScanReq from to) fields takes well = scan_takes_none (is_scan_answered params list from to) fields _ takes
takes_two params list other fields takes well = absurd cc

-- ---- each call

heard_octets : (received : Option (List ℕ)) (octets : List ℕ) → step_of received ≡ PacketHeard octets → received ≡ Some octets
heard_octets None octets is = absurd cc
heard_octets (Some heard) octets is = let same : heard ≡ octets = cc in ap Some same

phase_makes_two : IsUnderstood → (given : Given) (station phases turns : ℕ) (received : Option (List ℕ)) (before : ℕ → Facts)
    → IsInTurn (setup_at given station) (Within phases) turns (before station) → ((octets : List ℕ) → received ≡ Some octets → WasSent given phases before station octets)
    → MakesTwo (facts_after (setup_at given station) (before station) (step_of received)).turn.doing
phase_makes_two understood given station phases turns None before in_turn sent = unheard_two (before station).turn.doing (before station)
phase_makes_two understood given station phases turns (Some octets) before in_turn sent =
    heard_two (setup_at given station) (before station) octets (before station).turn.doing refl
    (λ channel doing. heard_well understood given phases before station channel octets (sent octets refl) (initiator_unforged (before station) channel octets doing)
    (subst (IsListening (before station)) doing in_turn.listens) (subst FitsChannel doing in_turn.fits))

phase_opens_two : IsUnderstood → (given : Given) (station phases turns : ℕ) (received : Option (List ℕ)) (before : ℕ → Facts)
    → IsInTurn (setup_at given station) (Within phases) turns (before station) → ((octets : List ℕ) → received ≡ Some octets → WasSent given phases before station octets)
    → MakesTwo (before station).turn.doing → MayOpen HasTwo (before station) (step_of received)
phase_opens_two understood given station phases turns received before in_turn sent makes = record {
  made = λ channel link ends doing. subst MakesTwo doing makes;
  taken = λ channel octets on pdu fields handle is doing found takes.
      takes_two on.params (before station).view.accepted pdu fields takes
      (heard_well understood given phases before station channel octets (sent octets (heard_octets received octets is))
      (request_unforged (before station) channel octets doing)
      (subst (IsListening (before station)) doing in_turn.listens) (subst FitsChannel doing in_turn.fits) pdu found);
}

abbrev AllTwo : Given → (ℕ → Facts) → Type 0
AllTwo given facts = (station : ℕ) → is_in station given.stations ≡ true → HaveTwo (facts station)

one_called : (given : Given) (station : ℕ) (step : Step) (before after : ℕ → Facts) → IsCalled given station step before after
    → HaveTwo (facts_after (setup_at given station) (before station) step) → AllTwo given before → AllTwo given after
one_called given station step before after called next all = λ other is. by other is (other == station) refl
  where
    by : (other : ℕ) → is_in other given.stations ≡ true → (same : Bool) → (other == station) ≡ same → HaveTwo (after other)
    by other is true one = subst (λ n. HaveTwo (after n)) (sym (eqb-true other station one)) (subst HaveTwo (sym called.own) next)
    by other is false differs = subst HaveTwo (sym (called.others other differs)) (all other is)

two_kept : IsUnderstood → (given : Given) → IsKeptByCalls given (AllTwo given)
two_kept understood given = record {
  feeds = λ station octet before after called all.
      let setup = setup_at given station in
      let have = all station called.is_one in
      one_called given station (HostOctet octet) before after called (record {
        links = step_linked HasTwo setup (before station) (HostOctet octet) (opens_none HasTwo (before station) (HostOctet octet) refl) have.links;
        makes = subst (λ (turn : Turn). MakesTwo turn.doing) (sym (octet_turn setup (before station) octet).turn) have.makes;
      }) all;
  begins = λ station slot on before after called in_turn all.
      let setup = setup_at given station in
      let have = all station called.is_one in
      one_called given station (TurnBegins slot on) before after called (record {
        links = step_linked HasTwo setup (before station) (TurnBegins slot on) (opens_none HasTwo (before station) (TurnBegins slot on) refl) have.links;
        makes = may_make _ (begins_may setup slot on (before station) in_turn.begun_is);
      }) all;
  passes = λ station phases turns received before after called in_turn slots sent all.
      let setup = setup_at given station in
      let have = all station called.is_one in
      one_called given station (step_of received) before after called (record {
        links = step_linked HasTwo setup (before station) (step_of received)
            (phase_opens_two understood given station phases turns received before in_turn sent have.makes) have.links;
        makes = phase_makes_two understood given station phases turns received before in_turn sent;
      }) all;
  ends = λ station before after called all.
      let setup = setup_at given station in
      let have = all station called.is_one in
      one_called given station TurnEnds before after called (record {
        links = step_linked HasTwo setup (before station) TurnEnds (opens_none HasTwo (before station) TurnEnds refl) have.links;
        makes = tt;
      }) all;
}

-- at any time of a run
pub link_two : IsUnderstood → (given : Given) (before rest : List Event) (station handle : ℕ) (link : OpenLink) → AreDistinct given.stations → HaveAddresses given
    → is_in station given.stations ≡ true → history_of (run_of given) ≡ before ++ rest → link_at handle (facts_at given station before).links ≡ Some link
    → link.setup.link.two ≡ true
link_two understood given before rest station handle link distinct six is at is_open =
    let all = always_by_calls given (AllTwo given) (two_kept understood given) six distinct
    (λ one in_it. record { links = none_linked HasTwo (setup_at given one).links; makes = tt }) before rest at in
    link_has HasTwo 0 handle (facts_at given station before).links link (all station is).links is_open

pub one_link : IsUnderstood → (given : Given) (before rest : List Event) (central peripheral : OpenEnd) → AreDistinct given.stations → HaveAddresses given
    → is_in central.station given.stations ≡ true → is_in peripheral.station given.stations ≡ true → history_of (run_of given) ≡ before ++ rest
    → AreEnds before central peripheral → IsOpen given before central → IsOpen given before peripheral → AreOneLink central.link.setup peripheral.link.setup
one_link understood given before rest central peripheral distinct six is is_too at ends is_open is_open_too =
    let same = one_connect_ind before central peripheral ends in record {
      fields = same.fields;
      two = link_two understood given before rest central.station central.handle central.link distinct six is at is_open
          ∙ sym (link_two understood given before rest peripheral.station peripheral.handle peripheral.link distinct six is_too at is_open_too);
      opened = same.opened;
    }

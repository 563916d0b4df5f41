-- A link of this turn, after a phase: the phase left it, or opened it. Then it receives as many octets as its host takes,
-- and had no line before.
use Rattle.std.proofs.Common.{◌≡◌, ◌⊎◌, inl, inr, ℕ, ◌<◌, ◌==◌, Bool, true, false, Option, Some, None, List, [], ◌∷◌, ◌++◌, if◌then◌else◌, refl, sym, ap, subst, ◌∙◌, arith}
use Rattle.std.specs.Prelude.{◌&&◌, ◌||◌}
use Rattle.std.proofs.lemmas.Bool.{eqb-true}
use Rattle.ble_base.specs.declared.addresses.Address.{Address}
use Rattle.ble_base.specs.declared.notes.Note.{Note}
use Rattle.adv_pdu.specs.declared.pdu.AdvPdu.{AdvPdu}
use Rattle.adv_pdu.specs.declared.pdu.ConnectFields.{ConnectFields}
use Rattle.adv_pdu.specs.Pdu.{sender_of}
use Rattle.advertise.specs.declared.answers.AdvAnswer.{AdvAnswer}
use Rattle.advertise.specs.declared.answers.AdvAnswer.TheVariants.{Ignore, Respond, Connect as Takes}
use Rattle.advertise.specs.Advertising.{AdvertiserFacts}
use Rattle.advertise.specs.Answers.{advertiser_answer}
use Rattle.scan_init.specs.Initiating.{InitiatorFacts}
use Rattle.scan_init.specs.Reports.{ScannerFacts, does_ask, scan_answer}
use Rattle.journal_ends.specs.controller_model.declared.doing.Doing.{Doing}
use Rattle.journal_ends.specs.controller_model.declared.doing.Doing.TheVariants.{Advertises, AwaitsRequest, Scans, Requests, AwaitsResponse, Initiates, Connects, CentralSends, CentralListens, PeripheralListens}
use Rattle.journal_ends.specs.controller_model.Events.{notes_of_events}
use Rattle.journal_ends.specs.controller_model.Facts.{Facts, Setup}
use Rattle.journal_ends.specs.controller_model.Heard.{advertiser_answers, advertiser_heard, asks_if, connects, heard, if_pdu, initiator_heard, is_new_between, link_taken, link_to, opens, scanner_heard, taken_if, taken_under, unheard}
use Rattle.journal_ends.specs.controller_model.Links.{events_opened}
use Rattle.journal_ends.specs.controller_model.Outcome.{Outcome, facts_passed, notes_passed}
use Rattle.journal_ends.specs.controller_model.Packets.{links_sending, pdu_heard}
use Rattle.journal_ends.specs.controller_model.Side.{facts_after, notes_after}
use Rattle.journal_ends.specs.controller_model.host_view.Flow.{most_received}
use Rattle.journal_ends.specs.controller_model.link_model.declared.setup.LinkSetup.{LinkSetup}
use Rattle.journal_ends.specs.journal_links.LinkLines.{lines_of}
use Rattle.journal_ends.specs.link_model.Setup.{Setup as EndSetup}
use Rattle.journal_ends.specs.open_links.OpenLinks.{OpenLink, free_from, link_at}
use Rattle.journal_ends.specs.run_model.History.{Event, Transmitted, packet_received, past_of}
use Rattle.journal_ends.specs.run_model.Journal.{journal_of, side_of}
use Rattle.journal_ends.specs.run_model.LinkEnds.{HaveAddresses}
use Rattle.journal_ends.specs.run_model.Links.{links_of}
use Rattle.journal_ends.specs.run_model.Run.{Given, after_call, facts_at, history_of, run_of, setup_at, step_of}
use Rattle.journal_ends.proofs.controller_model.Always.{opening_is}
use Rattle.journal_ends.proofs.controller_model.Handles.{own_handles}
use Rattle.journal_ends.proofs.controller_model.LinkNotes.{all_in}
use Rattle.journal_ends.proofs.controller_model.open_links.Handles.{handle_is}
use Rattle.journal_ends.proofs.journal_acks.Exchanging.{number_at}
use Rattle.journal_ends.proofs.journal_acks.Standing.{PhasedBy}
use Rattle.journal_ends.proofs.journal_acks.TwoStations.{IsOfTwo}
use Rattle.journal_ends.proofs.journal_acks.link_calls.UnderHandles.{opened_under}
use Rattle.journal_ends.proofs.journal_links.LinkLines.{fresh}
use Rattle.journal_ends.proofs.journal_links.OfTwo.{are_distinct, two_apart}
use Rattle.journal_ends.proofs.run_laws.Hearings.{own_facts}
use Rattle.journal_ends.proofs.run_laws.InAgreement.{IsStation, OpenedBefore}
use Rattle.journal_ends.proofs.run_laws.LinkPasses.{is_on_link}
use Rattle.journal_ends.proofs.run_laws.OpenSteps.{open_has}
use Rattle.journal_ends.proofs.run_laws.TurnPlaces.{Within, at_stage}
use Rattle.journal_ends.proofs.run_laws.TurnSteps.{MakesWell}
use Rattle.journal_ends.proofs.run_model.Calls.{same_station}
use Rattle.journal_ends.proofs.run_model.LinkEnds.{AreTaken, IsLast, IsLinkedSoFar, IsUnderstood, may_open_at}
use Rattle.journal_ends.proofs.run_model.LinkSteps.{EachLink, each_in, link_has, step_linked}
use Rattle.journal_ends.proofs.run_model.LinksKnown.{link_by_own}
use Rattle.journal_ends.proofs.run_model.OpenedNotes.{is_opened, opened_was_free}
use Rattle.journal_ends.proofs.run_model.Stations.{among, is_in}
use Rattle.journal_ends.proofs.run_model.Walk.{AtListening}

-- ---- a phase that no link uses opens a link under a handle, or leaves what is open there

module _ (handle : ℕ) (facts : Facts) where
  abbrev IsLeft : Outcome → Type 0
  IsLeft outcome =
      (is_opened handle (notes_passed outcome) ≡ true)
      ⊎ ((link : OpenLink) → link_at handle (facts_passed outcome).links ≡ Some link → link_at handle facts.links ≡ Some link)

  opens_left : (link : LinkSetup) (same : Bool) → (link.handle == handle) ≡ same → IsLeft (opens link facts)
  opens_left link true one =
      let noted = ap (λ b. b || is_opened link.handle (notes_of_events facts.view (events_opened facts.view link) ++ [])) (same_station link.handle) in
      inl (subst (λ n. is_opened n (notes_passed (opens link facts)) ≡ true) (eqb-true link.handle handle one) noted)
  opens_left link false differs = inr (λ after is.
      opened_under (record { link = link; opened = facts.turn.slot }) handle facts.links after (ap (λ (f : Facts). link_at handle f.links) (sym (opening_is link facts)) ∙ is) false differs)

  unheard_left : (doing : Doing) → IsLeft (unheard doing facts)
  unheard_left (Advertises channel) = inr (λ link is. is)
  unheard_left (Requests channel advertiser) = inr (λ link is. is)
  unheard_left (Connects channel link) = opens_left link (link.handle == handle) refl
  unheard_left (CentralSends other) = inr (λ link is. is)
  unheard_left other = inr (λ link is. is)

  under_left : (free : Option ℕ) (own : Address) (pdu : AdvPdu) (fields : ConnectFields) → IsLeft (taken_under free own pdu fields facts)
  under_left None own pdu fields = inr (λ link is. is)
  under_left (Some free) own pdu fields = opens_left (link_taken facts.view own pdu fields free) (free == handle) refl

  if_left : (new : Bool) (own : Address) (pdu : AdvPdu) (fields : ConnectFields) → IsLeft (taken_if new own pdu fields facts)
  if_left false own pdu fields = inr (λ link is. is)
  if_left true own pdu fields = under_left (free_from 0 facts.links) own pdu fields

  answers_left : (answer : AdvAnswer) (channel : ℕ) (own : Address) (pdu : AdvPdu) → IsLeft (advertiser_answers answer channel own pdu facts)
  answers_left Ignore channel own pdu = inr (λ link is. is)
  answers_left Respond channel own pdu = inr (λ link is. is)
  answers_left (Takes fields) channel own pdu = if_left (is_new_between own (sender_of pdu) facts.links) own pdu fields

  advertiser_left : (on : Option AdvertiserFacts) (channel : ℕ) (pdu : AdvPdu) → IsLeft (advertiser_heard on channel pdu facts)
  advertiser_left None channel pdu = inr (λ link is. is)
  advertiser_left (Some on) channel pdu = answers_left (advertiser_answer on.params facts.view.accepted pdu) channel on.params.own pdu

  asks_left : (asks : Bool) (channel : ℕ) (pdu : AdvPdu) (link : OpenLink) → link_at handle (links_sending facts.turn.slot (asks_if asks channel pdu) facts.links) ≡ Some link
      → link_at handle facts.links ≡ Some link
  asks_left true channel pdu link is = is
  asks_left false channel pdu link is = is

  scanner_left : (on : Option ScannerFacts) (may_ask : Bool) (channel : ℕ) (pdu : AdvPdu) → IsLeft (scanner_heard on may_ask channel pdu facts)
  scanner_left None may_ask channel pdu = inr (λ link is. is)
  scanner_left (Some on) may_ask channel pdu = inr (asks_left (may_ask && does_ask (scan_answer on.params facts.view.accepted on.recent pdu)) channel pdu)

  connects_left : (link : Option LinkSetup) (setup : Setup) (channel : ℕ) → IsLeft (connects link setup channel facts)
  connects_left None setup channel = inr (λ link is. is)
  connects_left (Some link) setup channel = inr (λ one is. is)

  initiator_left : (on : Option InitiatorFacts) (setup : Setup) (channel : ℕ) (pdu : AdvPdu) → IsLeft (initiator_heard on setup channel pdu facts)
  initiator_left None setup channel pdu = inr (λ link is. is)
  initiator_left (Some on) setup channel pdu = connects_left (link_to setup on pdu facts) setup channel

  pdu_left : (found : Option AdvPdu) (outcome : AdvPdu → Outcome) → ((pdu : AdvPdu) → IsLeft (outcome pdu)) → IsLeft (if_pdu found facts outcome)
  pdu_left None outcome each = inr (λ link is. is)
  pdu_left (Some pdu) outcome each = each pdu

  heard_left : (setup : Setup) (octets : List ℕ) (doing : Doing) → is_on_link doing ≡ false → IsLeft (heard setup doing octets facts)
  heard_left setup octets (AwaitsRequest channel) off = pdu_left (pdu_heard channel octets) (λ pdu. advertiser_heard facts.advertising.on channel pdu facts) (λ pdu. advertiser_left facts.advertising.on channel pdu)
  heard_left setup octets (Scans channel) off = pdu_left (pdu_heard channel octets) (λ pdu. scanner_heard facts.scanning.on true channel pdu facts) (λ pdu. scanner_left facts.scanning.on true channel pdu)
  heard_left setup octets (AwaitsResponse channel) off = pdu_left (pdu_heard channel octets) (λ pdu. scanner_heard facts.scanning.on false channel pdu facts) (λ pdu. scanner_left facts.scanning.on false channel pdu)
  heard_left setup octets (Initiates channel) off = pdu_left (pdu_heard channel octets) (λ pdu. initiator_heard facts.initiator setup channel pdu facts) (λ pdu. initiator_left facts.initiator setup channel pdu)
  heard_left setup octets (CentralListens other) off = absurd cc
  heard_left setup octets (PeripheralListens other) off = absurd cc
  heard_left setup octets doing off = unheard_left doing

  phase_left : (setup : Setup) (received : Option (List ℕ)) → is_on_link facts.turn.doing ≡ false → (link : OpenLink)
      → link_at handle (facts_after setup facts (step_of received)).links ≡ Some link
      → (is_opened handle (notes_after setup facts (step_of received)) ≡ true) ⊎ (link_at handle facts.links ≡ Some link)
  phase_left setup None off link is = by (unheard_left facts.turn.doing)
    where
      by : IsLeft (unheard facts.turn.doing facts) → (is_opened handle (notes_passed (unheard facts.turn.doing facts)) ≡ true) ⊎ (link_at handle facts.links ≡ Some link)
      by (inl noted) = inl noted
      by (inr left) = inr (left link is)
  phase_left setup (Some octets) off link is = by (heard_left setup octets facts.turn.doing off)
    where
      by : IsLeft (heard setup facts.turn.doing octets facts) → (is_opened handle (notes_passed (heard setup facts.turn.doing octets facts)) ≡ true) ⊎ (link_at handle facts.links ≡ Some link)
      by (inl noted) = inl noted
      by (inr left) = inr (left link is)

-- ---- in a run

pub data IsOfTurn (given : Given) (station handle : ℕ) (history next : List Event) (link : OpenLink) : Type 0 where
  Left : link_at handle (facts_at given station history).links ≡ Some link → is_on_link (facts_at given station history).turn.doing ≡ false
      → number_at station handle next ≡ number_at station handle history → IsOfTurn given station handle history next link
  New : link.setup.link.max_rx ≡ most_received (facts_at given station history).view
      → lines_of (side_of station) (number_at station handle next) (journal_of history) ≡ [] → IsOfTurn given station handle history next link

module _ (understood : IsUnderstood) (taken : AreTaken) (given : Given) (are_two : IsOfTwo given) (six : HaveAddresses given) (phases begun : ℕ) (done left : List ℕ) (station : ℕ)
    (history rest : List Event) (are : given.stations ≡ done ++ station ∷ left) (at : history_of (run_of given) ≡ history ++ rest)
    (linked : IsLinkedSoFar given (AtListening phases done (station ∷ left)) history) (phased : PhasedBy given history station (at_stage (Within phases) begun))
    (station_is : IsStation (setup_at given station) (facts_at given station history)) where
  abbrev setup : Setup
  setup = setup_at given station

  abbrev facts : Facts
  facts = facts_at given station history

  abbrev received : Option (List ℕ)
  received = packet_received station history

  abbrev next : List Event
  next = after_call given station (step_of received) history

  abbrev notes : List Note
  notes = notes_after setup facts (step_of received)

  in_it : is_in station given.stations ≡ true
  in_it = among given.stations done left station are

  not_on : (doing : Doing) → facts.turn.doing ≡ doing → is_on_link doing ≡ false → is_on_link facts.turn.doing ≡ true → (X : Type 0) → X
  not_on doing is off on X = absurd (let h : true ≡ false = sym on ∙ ap is_on_link is ∙ off in absurd cc)

  -- while it uses a link it has none of this turn
  none_now : is_on_link facts.turn.doing ≡ true → (handle : ℕ) (link : OpenLink) → link_at handle (facts_after setup facts (step_of received)).links ≡ Some link
      → link.setup.opened < facts.turn.slot
  none_now on handle link is_open =
      let IsOld = λ (end : EndSetup). end.opened < facts.turn.slot in
      link_has IsOld 0 handle (facts_after setup facts (step_of received)).links link
      (step_linked IsOld setup facts (step_of received) (record {
        made = λ channel one ends doing. not_on (Connects channel one) doing refl on _;
        taken = λ channel octets advertiser pdu fields free is doing found takes. not_on (AwaitsRequest channel) doing refl on _;
      }) (each_in IsOld facts.links facts.links 0 (all_in facts.links) (λ other one held. open_has (OpenedBefore facts.turn.slot) 0 other facts.links one (station_is.old on) held)))
      is_open

  -- what a link that is opened was set up with
  abbrev IsOpened : EndSetup → Type 0
  IsOpened end = is_opened end.link.handle notes ≡ true → IsLast history station end × (end.link.max_rx ≡ most_received facts.view)

  opened_each : EachLink IsOpened (facts_after setup facts (step_of received)).links
  opened_each =
      let may = may_open_at understood taken given six (are_distinct given are_two) phases done left station history are linked in
      let own = own_handles setup (past_of station history) in
      step_linked IsOpened setup facts (step_of received) (record {
        made = λ channel one ends doing noted.
            let made = subst (MakesWell setup facts.view facts.connections) doing phased.uses.in_turn.makes in (may.made channel one ends doing, made.receives);
        taken = λ channel octets advertiser pdu fields free is doing found takes noted. (may.taken channel octets advertiser pdu fields free is doing found takes, refl);
      }) (each_in IsOpened facts.links facts.links 0 (all_in facts.links) (λ handle one held noted.
      let under = handle_is 0 handle facts.links one own.handles held in
      let free = opened_was_free handle setup facts (step_of received) own (subst (λ n. is_opened n notes ≡ true) under noted) in
      absurd (let h : None ≡ Some one = sym free ∙ held in absurd cc)))

  pub of_turn : (handle : ℕ) (link : OpenLink) → link_at handle (facts_at given station next).links ≡ Some link → link.setup.opened ≡ facts.turn.slot
      → IsOfTurn given station handle history next link
  of_turn handle link is_open now = by (is_opened handle notes) refl
    where
      held : link_at handle (facts_after setup facts (step_of received)).links ≡ Some link
      held = ap (λ (f : Facts). link_at handle f.links) (sym (own_facts given station (step_of received) history)) ∙ is_open

      number_is : (opened : Bool) → is_opened handle notes ≡ opened
          → number_at station handle next ≡ (if opened then (links_of history).last_of station else number_at station handle history)
      number_is opened is =
          link_by_own station (step_of received) notes history handle ∙ ap (λ b. if b then (links_of history).last_of station else number_at station handle history) is

      stays : is_opened handle notes ≡ false → (on : Bool) → is_on_link facts.turn.doing ≡ on → IsOfTurn given station handle history next link
      stays none true on = absurd (let before = none_now on handle link held in omega (arith, before, now))
      stays none false off = leaves (phase_left handle facts setup received off link held)
        where
          leaves : (is_opened handle notes ≡ true) ⊎ (link_at handle facts.links ≡ Some link) → IsOfTurn given station handle history next link
          leaves (inl noted) = absurd (let h : true ≡ false = sym noted ∙ none in absurd cc)
          leaves (inr was) = Left was off (number_is false none)

      by : (opened : Bool) → is_opened handle notes ≡ opened → IsOfTurn given station handle history next link
      by true noted =
          let under = handle_is 0 handle (facts_at given station next).links link (own_handles setup (past_of station next)).handles is_open in
          let new = link_has IsOpened 0 handle (facts_after setup facts (step_of received)).links link opened_each held (subst (λ n. is_opened n notes ≡ true) (sym under) noted) in
          let last = new.0 in
          let sent = last.has.sent in
          New new.1
          (fresh given station (two_apart given are_two station in_it) history last.has.before (Transmitted sent.sender sent.channel sent.octets sent.hearings ∷ last.has.after) rest
          (number_at station handle next) at last.has.is_at (number_is true noted ∙ last.number) last.unnoted)
      by false none = stays none (is_on_link facts.turn.doing) refl

-- What a phase does to the links of a controller: nothing; it opens one; or one receives, and may send after that.
use Rattle.std.proofs.Common.{◌≡◌, ℕ, Bool, true, false, Option, Some, None, List, refl, ap}
use Rattle.std.specs.Prelude.{IfSome, ◌&&◌}
use Rattle.ble_base.specs.declared.addresses.Address.{Address}
use Rattle.adv_pdu.specs.declared.pdu.AdvPdu.{AdvPdu}
use Rattle.adv_pdu.specs.declared.pdu.ConnectFields.{ConnectFields}
use Rattle.advertise.specs.declared.answers.AdvAnswer.{AdvAnswer}
use Rattle.advertise.specs.declared.answers.AdvAnswer.TheVariants.{Ignore, Respond, Connect as Takes}
use Rattle.advertise.specs.Advertising.{AdvertiserFacts}
use Rattle.advertise.specs.Answers.{advertiser_answer}
use Rattle.run_model.specs.link_model.Step.{Step as EndStep, PacketReceived}
use Rattle.run_model.specs.link_model.declared.setup.LinkSetup.{LinkSetup}
use Rattle.scan_init.specs.Initiating.{InitiatorFacts}
use Rattle.scan_init.specs.Reports.{ScannerFacts, does_ask, scan_answer}
use Rattle.run_model.specs.open_links.OpenLinks.{Links, free_from, link_after, link_at, with_change, with_link}
use Rattle.run_model.specs.open_links.Keys.{links_with_words}
use Rattle.run_model.specs.controller_model.declared.doing.Doing.{Doing}
use Rattle.run_model.specs.controller_model.declared.doing.Doing.TheVariants.{Advertises, AwaitsRequest, Scans, Requests, AwaitsResponse, Initiates, Connects, CentralSends, CentralListens, PeripheralListens, PeripheralSends}
use Rattle.run_model.specs.controller_model.Facts.{Setup, Facts}
use Rattle.run_model.specs.controller_model.Heard.{advertiser_answers, advertiser_heard, asks_if, connects, facts_with_words, has_room, heard, if_pdu, initiator_heard, link_taken, link_to, links_refusing, opens, reply_if, scanner_after, scanner_heard, taken_if, taken_under, unheard, with_scanner}
use Rattle.run_model.specs.controller_model.Outcome.{Outcome, facts_passed}
use Rattle.run_model.specs.controller_model.Packets.{facts_doing, links_sending, listens_on, pdu_heard}
use Rattle.run_model.specs.controller_model.Side.{facts_after}
use Rattle.run_model.proofs.controller_model.Always.{opening_is}
use Rattle.run_model.proofs.controller_model.Places.{refusal_at}
use Rattle.run_model.specs.Run.{step_of}
use Rattle.run_laws.specs.Ends.{link_listened}
use Rattle.run_laws.proofs.OpenSteps.{IsAskedWell, refusal_is_well}
use Rattle.run_laws.proofs.TurnSteps.{IsListening}

-- it sends or listens on a link
abbrev pub is_on_link : Doing → Bool
is_on_link (CentralSends handle) = true
is_on_link (CentralListens handle) = true
is_on_link (PeripheralListens handle) = true
is_on_link (PeripheralSends handle) = true
is_on_link other = false

-- a link may be given words before it receives
abbrev pub links_worded : Option (ℕ × ℕ) → ℕ → Links → Links
links_worded None handle links = links
links_worded (Some words) handle links = links_with_words handle words.0 words.1 links

-- a link receives: it may answer a request of the peer at once
abbrev pub links_receiving : ℕ → List ℕ → Bool → Option (ℕ × ℕ) → Option EndStep → Bool → Facts → Links
links_receiving handle octets room words refusal replies facts =
    links_sending facts.turn.slot (reply_if replies handle)
    (links_refusing refusal handle
    (with_change handle (link_after (PacketReceived facts.turn.slot octets room)) (links_worded words handle facts.links)))

pub data IsPassingOn (facts : Facts) (received : Option (List ℕ)) (after : Facts) : Type 0 where
  LeavesAll : after.links ≡ facts.links → (is_on_link after.turn.doing ≡ true → is_on_link facts.turn.doing ≡ true) → IsPassingOn facts received after
  OpensOne : (link : LinkSetup) → after.links ≡ with_link (record { link = link; opened = facts.turn.slot }) facts.links
      → is_on_link after.turn.doing ≡ false → IsPassingOn facts received after
  ReceivesOn : (handle : ℕ) (octets : List ℕ) → received ≡ Some octets → facts.wanted ≡ listens_on (link_at handle facts.links)
      → link_listened facts.turn.doing ≡ Some handle → is_on_link facts.turn.doing ≡ true → (room : Bool) (words : Option (ℕ × ℕ))
      (refusal : Option EndStep) (replies : Bool) → IfSome refusal IsAskedWell
      → after.links ≡ links_receiving handle octets room words refusal replies facts → IsPassingOn facts received after

module _ (facts : Facts) (received : Option (List ℕ)) where
  abbrev Passing : Outcome → Type 0
  Passing outcome = IsPassingOn facts received (facts_passed outcome)

  no_link : (X : Type 0) → false ≡ true → X
  no_link X is = absurd cc

  opens_passes : (link : LinkSetup) → Passing (opens link facts)
  opens_passes link = OpensOne link (ap (λ (f : Facts). f.links) (opening_is link facts)) refl

  unheard_passes : (doing : Doing) → facts.turn.doing ≡ doing → Passing (unheard doing facts)
  unheard_passes (Advertises channel) is = LeavesAll refl (no_link _)
  unheard_passes (Requests channel advertiser) is = LeavesAll refl (no_link _)
  unheard_passes (Connects channel link) is = opens_passes link
  unheard_passes (CentralSends handle) is = LeavesAll refl (λ on. ap is_on_link is)
  unheard_passes other is = LeavesAll refl (no_link _)

  under_passes : (free : Option ℕ) (own : Address) (pdu : AdvPdu) (fields : ConnectFields) → Passing (taken_under free own pdu fields facts)
  under_passes None own pdu fields = LeavesAll refl (no_link _)
  under_passes (Some handle) own pdu fields = opens_passes (link_taken facts.view own pdu fields handle)

  if_passes : (new : Bool) (own : Address) (pdu : AdvPdu) (fields : ConnectFields) → Passing (taken_if new own pdu fields facts)
  if_passes false own pdu fields = LeavesAll refl (no_link _)
  if_passes true own pdu fields = under_passes (free_from 0 facts.links) own pdu fields

  answers_pass : (answer : AdvAnswer) (channel : ℕ) (own : Address) (pdu : AdvPdu) → Passing (advertiser_answers answer channel own pdu facts)
  answers_pass Ignore channel own pdu = LeavesAll refl (no_link _)
  answers_pass Respond channel own pdu = LeavesAll refl (no_link _)
  answers_pass (Takes fields) channel own pdu = if_passes _ own pdu fields

  advertiser_passes : (on : Option AdvertiserFacts) (channel : ℕ) (pdu : AdvPdu) → Passing (advertiser_heard on channel pdu facts)
  advertiser_passes None channel pdu = LeavesAll refl (no_link _)
  advertiser_passes (Some on) channel pdu = answers_pass (advertiser_answer on.params facts.view.accepted pdu) channel on.params.own pdu

  asks_pass : (asks : Bool) (channel : ℕ) (pdu : AdvPdu) (now : Facts) → now.links ≡ facts.links → IsPassingOn facts received (facts_doing (asks_if asks channel pdu) now)
  asks_pass true channel pdu now same = LeavesAll same (no_link _)
  asks_pass false channel pdu now same = LeavesAll same (no_link _)

  scanner_passes : (on : Option ScannerFacts) (may_ask : Bool) (channel : ℕ) (pdu : AdvPdu) → Passing (scanner_heard on may_ask channel pdu facts)
  scanner_passes None may_ask channel pdu = LeavesAll refl (no_link _)
  scanner_passes (Some on) may_ask channel pdu =
      asks_pass (may_ask && does_ask (scan_answer on.params facts.view.accepted on.recent pdu)) channel pdu (with_scanner (scanner_after on facts.view.accepted pdu) facts) refl

  connects_pass : (link : Option LinkSetup) (setup : Setup) (channel : ℕ) → Passing (connects link setup channel facts)
  connects_pass None setup channel = LeavesAll refl (no_link _)
  connects_pass (Some link) setup channel = LeavesAll refl (no_link _)

  initiator_passes : (on : Option InitiatorFacts) (setup : Setup) (channel : ℕ) (pdu : AdvPdu) → Passing (initiator_heard on setup channel pdu facts)
  initiator_passes None setup channel pdu = LeavesAll refl (no_link _)
  initiator_passes (Some on) setup channel pdu = connects_pass (link_to setup on pdu facts) setup channel

  pdu_passes : (found : Option AdvPdu) (outcome : AdvPdu → Outcome) → ((pdu : AdvPdu) → Passing (outcome pdu)) → Passing (if_pdu found facts outcome)
  pdu_passes None outcome some = LeavesAll refl (no_link _)
  pdu_passes (Some pdu) outcome some = some pdu

heard_passes : (setup : Setup) (facts : Facts) (octets : List ℕ) (doing : Doing) → facts.turn.doing ≡ doing → IsListening facts doing
    → IsPassingOn facts (Some octets) (facts_passed (heard setup doing octets facts))
heard_passes setup facts octets (AwaitsRequest channel) is listens =
    pdu_passes facts (Some octets) (pdu_heard channel octets) _ (λ pdu. advertiser_passes facts (Some octets) facts.advertising.on channel pdu)
heard_passes setup facts octets (Scans channel) is listens =
    pdu_passes facts (Some octets) (pdu_heard channel octets) _ (λ pdu. scanner_passes facts (Some octets) facts.scanning.on true channel pdu)
heard_passes setup facts octets (AwaitsResponse channel) is listens =
    pdu_passes facts (Some octets) (pdu_heard channel octets) _ (λ pdu. scanner_passes facts (Some octets) facts.scanning.on false channel pdu)
heard_passes setup facts octets (Initiates channel) is listens =
    pdu_passes facts (Some octets) (pdu_heard channel octets) _ (λ pdu. initiator_passes facts (Some octets) facts.initiator setup channel pdu)
heard_passes setup facts octets (CentralListens handle) is listens =
    let room = has_room setup facts in
    ReceivesOn handle octets refl listens (ap link_listened is) (ap is_on_link is) room None (refusal_at handle room octets facts) _
    (refusal_is_well handle room octets facts) refl
heard_passes setup facts octets (PeripheralListens handle) is listens =
    let room = has_room setup facts in
    let worded = facts_with_words setup handle facts in
    ReceivesOn handle octets refl listens (ap link_listened is) (ap is_on_link is) room (Some (_, _)) (refusal_at handle room octets worded) _
    (refusal_is_well handle room octets worded) refl
heard_passes setup facts octets (Advertises channel) is listens = unheard_passes facts (Some octets) (Advertises channel) is
heard_passes setup facts octets doing is listens = unheard_passes facts (Some octets) doing is

pub phase_passes_on : (setup : Setup) (facts : Facts) (received : Option (List ℕ)) → IsListening facts facts.turn.doing
    → IsPassingOn facts received (facts_after setup facts (step_of received))
phase_passes_on setup facts None listens = unheard_passes facts None facts.turn.doing refl
phase_passes_on setup facts (Some octets) listens = heard_passes setup facts octets facts.turn.doing refl listens

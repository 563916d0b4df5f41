-- What comes of a phase, case by case.
use Rattle.std.proofs.Common.{◌≡◌, ℕ, Bool, true, false, List, Option, Some, None, refl}
use Rattle.ble_base.specs.declared.addresses.Address.{Address}
use Rattle.adv_pdu.specs.declared.pdu.AdvPdu.{AdvPdu}
use Rattle.adv_pdu.specs.declared.pdu.ConnectFields.{ConnectFields}
use Rattle.adv_pdu.specs.Ranges.{is_in_range}
use Rattle.advertise.specs.declared.answers.AdvAnswer.{AdvAnswer}
use Rattle.advertise.specs.declared.answers.AdvAnswer.TheVariants.{Ignore, Respond, Connect as Takes}
use Rattle.advertise.specs.Advertising.{AdvertiserFacts}
use Rattle.advertise.specs.Answers.{advertiser_answer}
use Rattle.link_commands.specs.open_links.link_model.declared.setup.LinkSetup.{LinkSetup}
use Rattle.host_view.specs.scan_init.Initiating.{InitiatorFacts}
use Rattle.host_view.specs.scan_init.Reports.{ScannerFacts}
use Rattle.link_commands.specs.open_links.OpenLinks.{free_from}
use Rattle.controller_model.specs.declared.doing.Doing.{Doing}
use Rattle.controller_model.specs.declared.doing.Doing.TheVariants.{Advertises, AwaitsRequest, Responds, Scans, Requests, AwaitsResponse, Initiates, Connects, CentralSends, CentralListens, PeripheralListens, Rests}
use Rattle.controller_model.specs.Facts.{Setup, Facts}
use Rattle.controller_model.specs.Heard.{advertiser_answers, advertiser_heard, answers_by_connecting, connects as makes, facts_connecting, fields_sent, heard, if_pdu, initiator_heard, link_heard, link_if, link_made, link_taken, link_under, link_wanted, link_with, next_access_of, opens, scanner_heard, taken_if, taken_under, unheard, facts_with_words}
use Rattle.controller_model.specs.Outcome.{Outcome, goes_on}
use Rattle.controller_model.specs.Packets.{pdu_heard}

-- a fact of each outcome that a phase can have
pub record EachOutcome (setup : Setup) (facts : Facts) (P : Outcome → Type 0) : Type 0 where
  pub rests : P (goes_on facts Rests)
  pub awaits_request : (channel : ℕ) → facts.turn.doing ≡ Advertises channel → P (goes_on facts (AwaitsRequest channel))
  pub awaits_response : (channel : ℕ) (advertiser : Address) → facts.turn.doing ≡ Requests channel advertiser
      → P (goes_on facts (AwaitsResponse channel))
  pub central_listens : (handle : ℕ) → facts.turn.doing ≡ CentralSends handle → P (goes_on facts (CentralListens handle))
  pub sent : (channel : ℕ) (link : LinkSetup) → facts.turn.doing ≡ Connects channel link → P (opens link facts)
  pub responds : (channel : ℕ) (on : AdvertiserFacts) → facts.turn.doing ≡ AwaitsRequest channel
      → facts.advertising.on ≡ Some on → P (goes_on facts (Responds channel))
  pub taken : (channel : ℕ) (octets : List ℕ) (pdu : AdvPdu) (on : AdvertiserFacts) (fields : ConnectFields) (handle : ℕ)
      → facts.advertising.on ≡ Some on → pdu_heard channel octets ≡ Some pdu
      → advertiser_answer on.params facts.view.accepted pdu ≡ Takes fields → free_from 0 facts.links ≡ Some handle
      → P (opens (link_taken facts.view on.params.own pdu fields handle) facts)
  pub scanned : (channel : ℕ) (octets : List ℕ) (pdu : AdvPdu) (on : ScannerFacts) → facts.turn.doing ≡ Scans channel
      → facts.scanning.on ≡ Some on → pdu_heard channel octets ≡ Some pdu → P (scanner_heard (Some on) true channel pdu facts)
  pub answered : (channel : ℕ) (octets : List ℕ) (pdu : AdvPdu) (on : ScannerFacts) → facts.turn.doing ≡ AwaitsResponse channel
      → facts.scanning.on ≡ Some on → pdu_heard channel octets ≡ Some pdu → P (scanner_heard (Some on) false channel pdu facts)
  pub connects : (channel : ℕ) (octets : List ℕ) (pdu : AdvPdu) (on : InitiatorFacts) (access handle : ℕ)
      → facts.turn.doing ≡ Initiates channel → facts.initiator ≡ Some on → pdu_heard channel octets ≡ Some pdu
      → answers_by_connecting on pdu facts ≡ true → next_access_of setup facts ≡ Some access
      → free_from 0 facts.links ≡ Some handle → is_in_range (fields_sent setup on access facts) ≡ true
      → P (goes_on (facts_connecting setup facts)
      (Connects channel (link_made facts.view on.params.own pdu (fields_sent setup on access facts) handle)))
  pub received : (handle : ℕ) (octets : List ℕ) → P (link_heard setup handle octets facts)

module _ (setup : Setup) (facts : Facts) (P : Outcome → Type 0) (each : EachOutcome setup facts P) where
  by_pdu : (found : Option AdvPdu) (outcome : AdvPdu → Outcome) → ((pdu : AdvPdu) → found ≡ Some pdu → P (outcome pdu))
      → P (if_pdu found facts outcome)
  by_pdu None outcome some = each.rests
  by_pdu (Some pdu) outcome some = some pdu refl

  -- ---- an advertiser

  taken_under_is : (free : Option ℕ) (channel : ℕ) (octets : List ℕ) (pdu : AdvPdu) (on : AdvertiserFacts) (fields : ConnectFields)
      → facts.advertising.on ≡ Some on → pdu_heard channel octets ≡ Some pdu
      → advertiser_answer on.params facts.view.accepted pdu ≡ Takes fields → free_from 0 facts.links ≡ free
      → P (taken_under free on.params.own pdu fields facts)
  taken_under_is None channel octets pdu on fields is_on hears takes free_is = each.rests
  taken_under_is (Some handle) channel octets pdu on fields is_on hears takes free_is =
      each.taken channel octets pdu on fields handle is_on hears takes free_is

  taken_if_is : (new : Bool) (channel : ℕ) (octets : List ℕ) (pdu : AdvPdu) (on : AdvertiserFacts) (fields : ConnectFields)
      → facts.advertising.on ≡ Some on → pdu_heard channel octets ≡ Some pdu
      → advertiser_answer on.params facts.view.accepted pdu ≡ Takes fields → P (taken_if new on.params.own pdu fields facts)
  taken_if_is false channel octets pdu on fields is_on hears takes = each.rests
  taken_if_is true channel octets pdu on fields is_on hears takes =
      taken_under_is (free_from 0 facts.links) channel octets pdu on fields is_on hears takes refl

  answers_is : (answer : AdvAnswer) (channel : ℕ) (octets : List ℕ) (pdu : AdvPdu) (on : AdvertiserFacts)
      → facts.turn.doing ≡ AwaitsRequest channel → facts.advertising.on ≡ Some on → pdu_heard channel octets ≡ Some pdu
      → advertiser_answer on.params facts.view.accepted pdu ≡ answer → P (advertiser_answers answer channel on.params.own pdu facts)
  answers_is Ignore channel octets pdu on doing is_on hears is = each.rests
  answers_is Respond channel octets pdu on doing is_on hears is = each.responds channel on doing is_on
  answers_is (Takes fields) channel octets pdu on doing is_on hears is =
      taken_if_is _ channel octets pdu on fields is_on hears is

  advertiser_is : (advertiser : Option AdvertiserFacts) (channel : ℕ) (octets : List ℕ) (pdu : AdvPdu)
      → facts.turn.doing ≡ AwaitsRequest channel → facts.advertising.on ≡ advertiser → pdu_heard channel octets ≡ Some pdu
      → P (advertiser_heard advertiser channel pdu facts)
  advertiser_is None channel octets pdu doing is_on hears = each.rests
  advertiser_is (Some on) channel octets pdu doing is_on hears =
      answers_is (advertiser_answer on.params facts.view.accepted pdu) channel octets pdu on doing is_on hears refl

  -- ---- a scanner

  scanner_is : (scanner : Option ScannerFacts) (channel : ℕ) (octets : List ℕ) (pdu : AdvPdu)
      → facts.turn.doing ≡ Scans channel → facts.scanning.on ≡ scanner → pdu_heard channel octets ≡ Some pdu
      → P (scanner_heard scanner true channel pdu facts)
  scanner_is None channel octets pdu doing is_on hears = each.rests
  scanner_is (Some on) channel octets pdu doing is_on hears = each.scanned channel octets pdu on doing is_on hears

  asker_is : (scanner : Option ScannerFacts) (channel : ℕ) (octets : List ℕ) (pdu : AdvPdu)
      → facts.turn.doing ≡ AwaitsResponse channel → facts.scanning.on ≡ scanner → pdu_heard channel octets ≡ Some pdu
      → P (scanner_heard scanner false channel pdu facts)
  asker_is None channel octets pdu doing is_on hears = each.rests
  asker_is (Some on) channel octets pdu doing is_on hears = each.answered channel octets pdu on doing is_on hears

  -- ---- an initiator

  range_is : (in_range : Bool) (channel : ℕ) (octets : List ℕ) (pdu : AdvPdu) (on : InitiatorFacts) (access handle : ℕ)
      → facts.turn.doing ≡ Initiates channel → facts.initiator ≡ Some on → pdu_heard channel octets ≡ Some pdu
      → answers_by_connecting on pdu facts ≡ true → next_access_of setup facts ≡ Some access
      → free_from 0 facts.links ≡ Some handle → is_in_range (fields_sent setup on access facts) ≡ in_range
      → P (makes (link_if in_range (link_made facts.view on.params.own pdu (fields_sent setup on access facts) handle)) setup channel facts)
  range_is false channel octets pdu on access handle doing is_on hears answers next free fits = each.rests
  range_is true channel octets pdu on access handle doing is_on hears answers next free fits =
      each.connects channel octets pdu on access handle doing is_on hears answers next free fits

  handle_is : (handle : Option ℕ) (channel : ℕ) (octets : List ℕ) (pdu : AdvPdu) (on : InitiatorFacts) (access : ℕ)
      → facts.turn.doing ≡ Initiates channel → facts.initiator ≡ Some on → pdu_heard channel octets ≡ Some pdu
      → answers_by_connecting on pdu facts ≡ true → next_access_of setup facts ≡ Some access → free_from 0 facts.links ≡ handle
      → P (makes (link_under handle setup on pdu access facts) setup channel facts)
  handle_is None channel octets pdu on access doing is_on hears answers next free = each.rests
  handle_is (Some handle) channel octets pdu on access doing is_on hears answers next free =
      range_is (is_in_range (fields_sent setup on access facts)) channel octets pdu on access handle doing is_on hears answers next free refl

  access_is : (access : Option ℕ) (channel : ℕ) (octets : List ℕ) (pdu : AdvPdu) (on : InitiatorFacts)
      → facts.turn.doing ≡ Initiates channel → facts.initiator ≡ Some on → pdu_heard channel octets ≡ Some pdu
      → answers_by_connecting on pdu facts ≡ true → next_access_of setup facts ≡ access
      → P (makes (link_with access setup on pdu facts) setup channel facts)
  access_is None channel octets pdu on doing is_on hears answers next = each.rests
  access_is (Some access) channel octets pdu on doing is_on hears answers next =
      handle_is (free_from 0 facts.links) channel octets pdu on access doing is_on hears answers next refl

  wanted_is : (answers : Bool) (channel : ℕ) (octets : List ℕ) (pdu : AdvPdu) (on : InitiatorFacts)
      → facts.turn.doing ≡ Initiates channel → facts.initiator ≡ Some on → pdu_heard channel octets ≡ Some pdu
      → answers_by_connecting on pdu facts ≡ answers → P (makes (link_wanted answers setup on pdu facts) setup channel facts)
  wanted_is false channel octets pdu on doing is_on hears answers = each.rests
  wanted_is true channel octets pdu on doing is_on hears answers =
      access_is (next_access_of setup facts) channel octets pdu on doing is_on hears answers refl

  initiator_is : (initiator : Option InitiatorFacts) (channel : ℕ) (octets : List ℕ) (pdu : AdvPdu)
      → facts.turn.doing ≡ Initiates channel → facts.initiator ≡ initiator → pdu_heard channel octets ≡ Some pdu
      → P (initiator_heard initiator setup channel pdu facts)
  initiator_is None channel octets pdu doing is_on hears = each.rests
  initiator_is (Some on) channel octets pdu doing is_on hears =
      wanted_is (answers_by_connecting on pdu facts) channel octets pdu on doing is_on hears refl

  -- ---- a phase

  pub unheard_is : (doing : Doing) → facts.turn.doing ≡ doing → P (unheard doing facts)
  unheard_is (Advertises channel) is = each.awaits_request channel is
  unheard_is (Requests channel advertiser) is = each.awaits_response channel advertiser is
  unheard_is (Connects channel link) is = each.sent channel link is
  unheard_is (CentralSends handle) is = each.central_listens handle is
  unheard_is other is = each.rests

  -- a peripheral hears with the words that it was given
  pub listening_is : (doing : Doing) (octets : List ℕ) → facts.turn.doing ≡ doing
      → ((handle : ℕ) → facts.turn.doing ≡ PeripheralListens handle → P (link_heard setup handle octets (facts_with_words setup handle facts)))
      → P (heard setup doing octets facts)
  listening_is (AwaitsRequest channel) octets is worded =
      by_pdu (pdu_heard channel octets) _ (λ pdu hears. advertiser_is facts.advertising.on channel octets pdu is refl hears)
  listening_is (Scans channel) octets is worded =
      by_pdu (pdu_heard channel octets) _ (λ pdu hears. scanner_is facts.scanning.on channel octets pdu is refl hears)
  listening_is (AwaitsResponse channel) octets is worded =
      by_pdu (pdu_heard channel octets) _ (λ pdu hears. asker_is facts.scanning.on channel octets pdu is refl hears)
  listening_is (Initiates channel) octets is worded =
      by_pdu (pdu_heard channel octets) _ (λ pdu hears. initiator_is facts.initiator channel octets pdu is refl hears)
  listening_is (CentralListens handle) octets is worded = each.received handle octets
  listening_is (PeripheralListens handle) octets is worded = worded handle is
  listening_is doing octets is worded = unheard_is doing is

  pub heard_is : (doing : Doing) (octets : List ℕ) → facts.turn.doing ≡ doing
      → ((handle : ℕ) → P (link_heard setup handle octets (facts_with_words setup handle facts))) → P (heard setup doing octets facts)
  heard_is doing octets is worded = listening_is doing octets is (λ handle listens. worded handle)

-- What a controller sends and listens for on the advertising channels, phase by phase of a turn.
use Rattle.std.proofs.Common.{◌≡◌, ℕ, suc, ◌<◌, ◌≤◌, Bool, true, false, Option, Some, None, List, refl, sym, ap, subst, ◌∙◌, arith}
use Rattle.std.specs.Prelude.{⊤, ◌&&◌, if◌then◌else◌}
use Rattle.adv_pdu.specs.declared.pdu.AdvPdu.{AdvPdu}
use Rattle.adv_pdu.specs.declared.pdu.AdvPdu.TheVariants.{ScanReq, Connect}
use Rattle.advertise.specs.declared.answers.AdvAnswer.TheVariants.{Ignore, Respond, Connect as Takes}
use Rattle.advertise.specs.Advertising.{AdvertiserFacts}
use Rattle.advertise.specs.Answers.{advertiser_answer, is_connect_taken, is_scan_answered}
use Rattle.adv_pdu.specs.Pdu.{sender_of}
use Rattle.adv_pdu.specs.declared.pdu.ConnectFields.{ConnectFields}
use Rattle.ble_base.specs.declared.addresses.Address.{Address}
use Rattle.journal_data.specs.link_model.declared.setup.LinkSetup.{LinkSetup}
use Rattle.journal_data.specs.open_links.OpenLinks.{OpenLink, free_from, link_at}
use Rattle.scan_init.specs.Initiating.{InitiatorFacts}
use Rattle.scan_init.specs.Reports.{ScannerFacts, does_ask, scan_answer}
use Rattle.journal_data.specs.controller_model.declared.doing.Doing.{Doing}
use Rattle.journal_data.specs.controller_model.declared.doing.Doing.TheVariants.{Advertises, AwaitsRequest, Responds, Scans, Requests, AwaitsResponse}
use Rattle.journal_data.specs.controller_model.declared.doing.Doing.TheVariants.{Initiates, Connects, CentralSends, CentralListens, PeripheralListens}
use Rattle.journal_data.specs.controller_model.declared.doing.Doing.TheVariants.{PeripheralSends, Rests}
use Rattle.journal_data.specs.controller_model.Step.{Step, NothingHeard, TurnBegins}
use Rattle.journal_data.specs.controller_model.Facts.{Setup, Facts, Use, Sends, Listens, Idle}
use Rattle.journal_data.specs.controller_model.Heard.{advertiser_answers, advertiser_heard, asks_if, connects, facts_with_words, has_room, heard, if_pdu, initiator_heard}
use Rattle.journal_data.specs.controller_model.Heard.{is_new_between, link_to, replies_in, reply_if, scanner_heard, taken_if, taken_under, unheard}
use Rattle.journal_data.specs.controller_model.Outcome.{facts_passed}
use Rattle.journal_data.specs.controller_model.Packets.{advertisement_sent, connect_sent, request_sent, response_sent, facts_doing, listens_on, pdu_heard}
use Rattle.journal_data.specs.controller_model.Packets.{sends_on, sends_pdu, use_for, verdict_advertising, verdict_of}
use Rattle.journal_data.specs.controller_model.Radio.{outcome_begun}
use Rattle.journal_data.specs.controller_model.Side.{facts_after, facts_of}
use Rattle.journal_data.proofs.controller_model.Always.{MayBegin, left_doing}
use Rattle.journal_data.proofs.controller_model.DataChannels.{link_channel}
use Rattle.journal_data.proofs.controller_model.Phases.{EachOutcome, heard_is, unheard_is}
use Rattle.journal_data.specs.run_model.Run.{step_of}
use Rattle.journal_data.proofs.run_model.Handing.{IsUnforged, initiator_unforged, request_unforged, scanner_unforged}
use Rattle.journal_data.proofs.run_laws.TurnPlaces.{Between, IsTurned, Stage, Within, at_stage, standing, turned}

-- ---- in which phase

-- an advertisement is sent and listened for in the first phase, a request in the second one, and a response in the third
abbrev pub FitsPhase : ℕ → Doing → Type 0
FitsPhase phases (Advertises channel) = phases ≡ 0
FitsPhase phases (Scans channel) = phases ≡ 0
FitsPhase phases (Initiates channel) = phases ≡ 0
FitsPhase phases (AwaitsRequest channel) = phases ≡ 1
FitsPhase phases (Requests channel advertiser) = phases ≡ 1
FitsPhase phases (Connects channel link) = phases ≡ 1
FitsPhase phases (Responds channel) = phases ≡ 2
FitsPhase phases (AwaitsResponse channel) = phases ≡ 2
FitsPhase phases other = ⊤

-- a link uses the data channels, and what is done without one what it needs
abbrev IsOnData : Use → Type 0
IsOnData (Sends channel octets) = channel < 37
IsOnData (Listens channel) = channel < 37
IsOnData Idle = ⊤

abbrev pub UsesIt : Facts → Doing → Type 0
UsesIt facts (CentralSends handle) = IsOnData facts.wanted
UsesIt facts (CentralListens handle) = IsOnData facts.wanted
UsesIt facts (PeripheralListens handle) = IsOnData facts.wanted
UsesIt facts (PeripheralSends handle) = IsOnData facts.wanted
UsesIt facts (Advertises channel) = facts.wanted ≡ use_for facts (Advertises channel)
UsesIt facts doing = facts.wanted ≡ use_for facts doing

pub record IsAtPhase (phases : ℕ) (facts : Facts) : Type 0 where
  pub fits : FitsPhase phases facts.turn.doing
  pub uses : UsesIt facts facts.turn.doing

abbrev AtStage : Stage → ℕ → Facts → Type 0
AtStage Between begun facts = ⊤
AtStage (Within phases) begun facts = IsAtPhase phases facts

-- ---- as it does it

sends_data : (found : Option OpenLink) → IsOnData (sends_on found)
sends_data None = tt
sends_data (Some link) = link_channel link

listens_data : (found : Option OpenLink) → IsOnData (listens_on found)
listens_data None = tt
listens_data (Some link) = link_channel link

doing_uses : (doing : Doing) (facts : Facts) → UsesIt (facts_doing doing facts) doing
doing_uses (CentralSends handle) facts = sends_data (link_at handle facts.links)
doing_uses (CentralListens handle) facts = listens_data (link_at handle facts.links)
doing_uses (PeripheralListens handle) facts = listens_data (link_at handle facts.links)
doing_uses (PeripheralSends handle) facts = sends_data (link_at handle facts.links)
doing_uses (Advertises channel) facts = refl
doing_uses other facts = refl

may_fit : (doing : Doing) → MayBegin doing → FitsPhase 0 doing
may_fit (Advertises channel) may = refl
may_fit (Scans channel) may = refl
may_fit (Initiates channel) may = refl
may_fit (CentralSends handle) may = tt
may_fit (PeripheralListens handle) may = tt
may_fit Rests may = tt
may_fit other may = absurd may

begins_at : (setup : Setup) (slot : ℕ) (on : Bool) (facts : Facts) → IsAtPhase 0 (facts_after setup facts (TurnBegins slot on))
begins_at setup slot on facts = record {
  fits = left_doing (λ facts. ⊤) (λ slot facts any. tt) (λ slot facts any. tt) (λ slot facts any. tt) (λ slot activity facts any. tt)
      (λ doing facts any. tt) (λ doing facts. FitsPhase 0 doing) (λ doing facts may any. may_fit doing may) slot on facts tt;
  uses = doing_uses (outcome_begun slot on facts).next (outcome_begun slot on facts).facts;
}

-- ---- from one phase to the next

asks_fit : (phases : ℕ) (asks : Bool) (channel : ℕ) (pdu : AdvPdu) → phases ≡ 0 → FitsPhase (suc phases) (asks_if asks channel pdu)
asks_fit phases true channel pdu first = ap suc first
asks_fit phases false channel pdu first = tt

reply_fits : (phases : ℕ) (replies : Bool) (handle : ℕ) → FitsPhase phases (reply_if replies handle)
reply_fits phases true handle = tt
reply_fits phases false handle = tt

passes_fit : (phases : ℕ) (setup : Setup) (facts : Facts) → FitsPhase phases facts.turn.doing → EachOutcome setup facts (λ outcome. FitsPhase (suc phases) outcome.next)
passes_fit phases setup facts fits = record {
  rests = tt;
  awaits_request = λ channel doing. ap suc (subst (FitsPhase phases) doing fits);
  awaits_response = λ channel advertiser doing. ap suc (subst (FitsPhase phases) doing fits);
  central_listens = λ handle doing. tt;
  sent = λ channel link doing. tt;
  responds = λ channel on doing is_on. ap suc (subst (FitsPhase phases) doing fits);
  taken = λ channel octets pdu on fields handle is_on hears takes free. tt;
  scanned = λ channel octets pdu on doing is_on hears.
      asks_fit phases (true && does_ask (scan_answer on.params facts.view.accepted on.recent pdu)) channel pdu (subst (FitsPhase phases) doing fits);
  answered = λ channel octets pdu on doing is_on hears. tt;
  connects = λ channel octets pdu on access handle doing is_on hears answers next free in_range. ap suc (subst (FitsPhase phases) doing fits);
  received = λ handle octets. reply_fits (suc phases) (replies_in facts.turn.slot (has_room setup facts) (link_at handle facts.links) octets) handle;
}

passes_at : (setup : Setup) (phases : ℕ) (received : Option (List ℕ)) (facts : Facts) → IsAtPhase phases facts
    → IsAtPhase (suc phases) (facts_after setup facts (step_of received))
passes_at setup phases None facts at = record {
  fits = unheard_is setup facts _ (passes_fit phases setup facts at.fits) facts.turn.doing refl;
  uses = doing_uses (unheard facts.turn.doing facts).next (unheard facts.turn.doing facts).facts;
}
passes_at setup phases (Some octets) facts at = record {
  fits = heard_is setup facts (λ outcome. FitsPhase (suc phases) outcome.next) (passes_fit phases setup facts at.fits) facts.turn.doing octets refl
      (λ handle. (passes_fit phases setup (facts_with_words setup handle facts) at.fits).received handle octets);
  uses = doing_uses (heard setup facts.turn.doing octets facts).next (heard setup facts.turn.doing octets facts).facts;
}

at_phase_kept : (setup : Setup) → IsTurned setup AtStage
at_phase_kept setup = record {
  feeds = λ begun octet facts any. tt;
  begins = λ begun on facts any. begins_at setup begun on facts;
  passes = λ phases begun received facts at. passes_at setup phases received facts at;
  ends = λ begun facts at. tt;
}

pub at_phase : (setup : Setup) (past : List Step) (phases turns : ℕ) → standing past ≡ Some (at_stage (Within phases) turns) → IsAtPhase phases (facts_of setup past)
at_phase setup past phases turns stands = turned setup AtStage (at_phase_kept setup) past (at_stage (Within phases) turns) tt stands

-- ---- what is sent on an advertising channel

abbrev pub IsSentOn : ℕ → Doing → Type 0
IsSentOn channel (Advertises on) = on ≡ channel
IsSentOn channel (Requests on advertiser) = on ≡ channel
IsSentOn channel (Connects on link) = on ≡ channel
IsSentOn channel (Responds on) = on ≡ channel
IsSentOn channel other = ⊥

-- what is sent is some PDU
pub record IsPduOn (on channel : ℕ) (may : Option AdvPdu) (octets : List ℕ) : Type 0 where
  pub same : on ≡ channel
  pub pdu : AdvPdu
  pub is : may ≡ Some pdu
  pub sent : sends_pdu channel (Some pdu) ≡ Sends channel octets

pub pdu_on : (on channel : ℕ) (may : Option AdvPdu) (octets : List ℕ) → sends_pdu on may ≡ Sends channel octets → IsPduOn on channel may octets
pdu_on on channel None octets is = absurd cc
pdu_on on channel (Some pdu) octets is =
    let same : on ≡ channel = cc in record {
      same = same;
      pdu = pdu;
      is = refl;
      sent = ap (λ n. sends_pdu n (Some pdu)) (sym same) ∙ is;
    }

no_data : (wanted : Use) (channel : ℕ) (octets : List ℕ) (X : Type 0) → IsOnData wanted → wanted ≡ Sends channel octets → 37 ≤ channel → X
no_data wanted channel octets X on_data is from = let below : channel < 37 = subst IsOnData is on_data in absurd (omega (arith, below, from))

pub sent_by : (facts : Facts) (doing : Doing) (channel : ℕ) (octets : List ℕ) → UsesIt facts doing → facts.wanted ≡ Sends channel octets → 37 ≤ channel
    → IsSentOn channel doing
sent_by facts (Advertises on) channel octets uses wants from = (pdu_on on channel (advertisement_sent facts) octets (sym uses ∙ wants)).same
sent_by facts (Requests on advertiser) channel octets uses wants from = (pdu_on on channel (request_sent advertiser facts) octets (sym uses ∙ wants)).same
sent_by facts (Connects on link) channel octets uses wants from = (pdu_on on channel (connect_sent link) octets (sym uses ∙ wants)).same
sent_by facts (Responds on) channel octets uses wants from = (pdu_on on channel (response_sent facts) octets (sym uses ∙ wants)).same
sent_by facts (CentralSends handle) channel octets uses wants from = no_data facts.wanted channel octets _ uses wants from
sent_by facts (CentralListens handle) channel octets uses wants from = no_data facts.wanted channel octets _ uses wants from
sent_by facts (PeripheralListens handle) channel octets uses wants from = no_data facts.wanted channel octets _ uses wants from
sent_by facts (PeripheralSends handle) channel octets uses wants from = no_data facts.wanted channel octets _ uses wants from
sent_by facts other channel octets uses wants from = absurd (let h = sym uses ∙ wants in cc)

-- ---- what another station awaits

-- the channel on which it sends a request or a response
abbrev pub asks_on : Doing → Option ℕ
asks_on (Requests channel advertiser) = Some channel
asks_on (Connects channel link) = Some channel
asks_on (Responds channel) = Some channel
asks_on other = None

-- in the first phase an advertisement is sent, and in the others what is awaited
pub asks_later : (phases channel : ℕ) (doing : Doing) → FitsPhase (suc phases) doing → IsSentOn channel doing → asks_on doing ≡ Some channel
asks_later phases channel (Advertises on) fits sent = absurd (omega (arith, fits))
asks_later phases channel (Requests on advertiser) fits sent = ap Some sent
asks_later phases channel (Connects on link) fits sent = ap Some sent
asks_later phases channel (Responds on) fits sent = ap Some sent
asks_later phases channel other fits sent = absurd sent

abbrev pub is_scan_request : Option AdvPdu → Bool
is_scan_request (Some (ScanReq from to)) = true
is_scan_request other = false

-- what a controller listened for that sends a request or a response next, on the channel of that
abbrev pub IsAnswered : Doing → ℕ → List ℕ → Type 0
IsAnswered (Scans on) channel octets = on ≡ channel
IsAnswered (Initiates on) channel octets = on ≡ channel
IsAnswered (AwaitsRequest on) channel octets = (on ≡ channel) × (is_scan_request (pdu_heard on octets) ≡ true)
IsAnswered other channel octets = ⊥

-- it listens on an advertising channel, where nothing is forged
pub answered_unforged : (facts : Facts) (doing : Doing) (channel : ℕ) (octets : List ℕ) → facts.turn.doing ≡ doing → IsAnswered doing channel octets → IsUnforged facts octets
answered_unforged facts (Scans on) channel octets does answers = scanner_unforged facts on octets does
answered_unforged facts (Initiates on) channel octets does answers = initiator_unforged facts on octets does
answered_unforged facts (AwaitsRequest on) channel octets does answers = request_unforged facts on octets does
answered_unforged facts other channel octets does answers = absurd answers

none_asks : (doing : Doing) (channel : ℕ) (X : Type 0) → asks_on doing ≡ None → asks_on doing ≡ Some channel → X
none_asks doing channel X none asks = absurd (let h : None ≡ Some channel = sym none ∙ asks in cc)

unheard_asks : (doing : Doing) (facts : Facts) → asks_on (unheard doing facts).next ≡ None
unheard_asks (Advertises channel) facts = refl
unheard_asks (Requests channel advertiser) facts = refl
unheard_asks (Connects channel link) facts = refl
unheard_asks (CentralSends handle) facts = refl
unheard_asks other facts = refl

asked_if : (asks : Bool) (on channel : ℕ) (pdu : AdvPdu) → asks_on (asks_if asks on pdu) ≡ Some channel → on ≡ channel
asked_if true on channel pdu is = cc
asked_if false on channel pdu is = absurd cc

reply_asks : (replies : Bool) (handle : ℕ) → asks_on (reply_if replies handle) ≡ None
reply_asks true handle = refl
reply_asks false handle = refl

scanner_asks : (scanner : Option ScannerFacts) (on channel : ℕ) (pdu : AdvPdu) (facts : Facts) → asks_on (scanner_heard scanner true on pdu facts).next ≡ Some channel → on ≡ channel
scanner_asks None on channel pdu facts is = absurd cc
scanner_asks (Some scanner) on channel pdu facts is =
    asked_if (true && does_ask (scan_answer scanner.params facts.view.accepted scanner.recent pdu)) on channel pdu is

scans_ask : (found : Option AdvPdu) (on channel : ℕ) (facts : Facts)
    → asks_on (if_pdu found facts (λ pdu. scanner_heard facts.scanning.on true on pdu facts)).next ≡ Some channel → on ≡ channel
scans_ask None on channel facts is = absurd cc
scans_ask (Some pdu) on channel facts is = scanner_asks facts.scanning.on on channel pdu facts is

response_asks : (scanner : Option ScannerFacts) (on : ℕ) (pdu : AdvPdu) (facts : Facts) → asks_on (scanner_heard scanner false on pdu facts).next ≡ None
response_asks None on pdu facts = refl
response_asks (Some scanner) on pdu facts = refl

responses_ask : (found : Option AdvPdu) (on : ℕ) (facts : Facts)
    → asks_on (if_pdu found facts (λ pdu. scanner_heard facts.scanning.on false on pdu facts)).next ≡ None
responses_ask None on facts = refl
responses_ask (Some pdu) on facts = response_asks facts.scanning.on on pdu facts

connects_ask : (link : Option LinkSetup) (setup : Setup) (on channel : ℕ) (facts : Facts) → asks_on (connects link setup on facts).next ≡ Some channel → on ≡ channel
connects_ask None setup on channel facts is = absurd cc
connects_ask (Some link) setup on channel facts is = cc

initiator_asks : (initiator : Option InitiatorFacts) (setup : Setup) (on channel : ℕ) (pdu : AdvPdu) (facts : Facts)
    → asks_on (initiator_heard initiator setup on pdu facts).next ≡ Some channel → on ≡ channel
initiator_asks None setup on channel pdu facts is = absurd cc
initiator_asks (Some initiator) setup on channel pdu facts is = connects_ask (link_to setup initiator pdu facts) setup on channel facts is

initiates_ask : (found : Option AdvPdu) (setup : Setup) (on channel : ℕ) (facts : Facts)
    → asks_on (if_pdu found facts (λ pdu. initiator_heard facts.initiator setup on pdu facts)).next ≡ Some channel → on ≡ channel
initiates_ask None setup on channel facts is = absurd cc
initiates_ask (Some pdu) setup on channel facts is = initiator_asks facts.initiator setup on channel pdu facts is

under_asks : (free : Option ℕ) (own : Address) (pdu : AdvPdu) (fields : ConnectFields) (facts : Facts) → asks_on (taken_under free own pdu fields facts).next ≡ None
under_asks None own pdu fields facts = refl
under_asks (Some handle) own pdu fields facts = refl

taken_asks : (new : Bool) (own : Address) (pdu : AdvPdu) (fields : ConnectFields) (facts : Facts) → asks_on (taken_if new own pdu fields facts).next ≡ None
taken_asks false own pdu fields facts = refl
taken_asks true own pdu fields facts = under_asks (free_from 0 facts.links) own pdu fields facts

scan_answered : (answered : Bool) (on channel : ℕ) (own : Address) (pdu : AdvPdu) (facts : Facts)
    → asks_on (advertiser_answers (if answered then Respond else Ignore) on own pdu facts).next ≡ Some channel → on ≡ channel
scan_answered true on channel own pdu facts is = cc
scan_answered false on channel own pdu facts is = absurd cc

connect_answered : (taken : Bool) (on : ℕ) (own : Address) (pdu : AdvPdu) (fields : ConnectFields) (facts : Facts)
    → asks_on (advertiser_answers (if taken then Takes fields else Ignore) on own pdu facts).next ≡ None
connect_answered true on own pdu fields facts = taken_asks (is_new_between own (sender_of pdu) facts.links) own pdu fields facts
connect_answered false on own pdu fields facts = refl

pdu_answered : (on : AdvertiserFacts) (listened channel : ℕ) (pdu : AdvPdu) (facts : Facts)
    → asks_on (advertiser_answers (advertiser_answer on.params facts.view.accepted pdu) listened on.params.own pdu facts).next ≡ Some channel
    → (listened ≡ channel) × (is_scan_request (Some pdu) ≡ true)
pdu_answered on listened channel (ScanReq from to) facts is =
    (scan_answered (is_scan_answered on.params facts.view.accepted from to) listened channel on.params.own (ScanReq from to) facts is, refl)
pdu_answered on listened channel (Connect from to ch_sel fields) facts is =
    let taken = is_connect_taken on.params facts.view.accepted from to fields in
    let pdu = Connect from to ch_sel fields in
    none_asks (advertiser_answers (if taken then Takes fields else Ignore) listened on.params.own pdu facts).next channel _
    (connect_answered taken listened on.params.own pdu fields facts) is
pdu_answered on listened channel other facts is = absurd cc

advertiser_asks : (advertiser : Option AdvertiserFacts) (on channel : ℕ) (pdu : AdvPdu) (facts : Facts)
    → asks_on (advertiser_heard advertiser on pdu facts).next ≡ Some channel → (on ≡ channel) × (is_scan_request (Some pdu) ≡ true)
advertiser_asks None on channel pdu facts is = absurd cc
advertiser_asks (Some advertiser) on channel pdu facts is = pdu_answered advertiser on channel pdu facts is

requests_ask : (found : Option AdvPdu) (on channel : ℕ) (facts : Facts)
    → asks_on (if_pdu found facts (λ pdu. advertiser_heard facts.advertising.on on pdu facts)).next ≡ Some channel
    → (on ≡ channel) × (is_scan_request found ≡ true)
requests_ask None on channel facts is = absurd cc
requests_ask (Some pdu) on channel facts is = advertiser_asks facts.advertising.on on channel pdu facts is

heard_asks : (setup : Setup) (facts : Facts) (octets : List ℕ) (channel : ℕ) (doing : Doing) → asks_on (heard setup doing octets facts).next ≡ Some channel
    → IsAnswered doing channel octets
heard_asks setup facts octets channel (Scans on) is = scans_ask (pdu_heard on octets) on channel facts is
heard_asks setup facts octets channel (Initiates on) is = initiates_ask (pdu_heard on octets) setup on channel facts is
heard_asks setup facts octets channel (AwaitsRequest on) is = requests_ask (pdu_heard on octets) on channel facts is
heard_asks setup facts octets channel (AwaitsResponse on) is = none_asks (heard setup (AwaitsResponse on) octets facts).next channel _ (responses_ask (pdu_heard on octets) on facts) is
heard_asks setup facts octets channel (CentralListens handle) is =
    none_asks (heard setup (CentralListens handle) octets facts).next channel _ (reply_asks (replies_in facts.turn.slot (has_room setup facts) (link_at handle facts.links) octets) handle) is
heard_asks setup facts octets channel (PeripheralListens handle) is =
    let worded = facts_with_words setup handle facts in
    none_asks (heard setup (PeripheralListens handle) octets facts).next channel _
    (reply_asks (replies_in facts.turn.slot (has_room setup facts) (link_at handle worded.links) octets) handle) is
heard_asks setup facts octets channel (Advertises on) is = absurd cc
heard_asks setup facts octets channel (Requests on advertiser) is = absurd cc
heard_asks setup facts octets channel (Connects on link) is = absurd cc
heard_asks setup facts octets channel (CentralSends handle) is = absurd cc
heard_asks setup facts octets channel other is = absurd cc

-- what it heard where it sends a request or a response next
pub record HasAnswered (facts : Facts) (received : Option (List ℕ)) (channel : ℕ) : Type 0 where
  pub octets : List ℕ
  pub is : received ≡ Some octets
  pub answers : IsAnswered facts.turn.doing channel octets

pub asks_after : (setup : Setup) (facts : Facts) (received : Option (List ℕ)) (channel : ℕ)
    → asks_on (facts_after setup facts (step_of received)).turn.doing ≡ Some channel → HasAnswered facts received channel
asks_after setup facts None channel is = none_asks (unheard facts.turn.doing facts).next channel _ (unheard_asks facts.turn.doing facts) is
asks_after setup facts (Some octets) channel is = record { octets = octets; is = refl; answers = heard_asks setup facts octets channel facts.turn.doing is }

-- ---- who listens next

-- who sends an advertisement or a SCAN_REQ listens after it
abbrev pub AwaitsNext : ℕ → Doing → Type 0
AwaitsNext channel (Advertises on) = on ≡ channel
AwaitsNext channel (Requests on advertiser) = on ≡ channel
AwaitsNext channel other = ⊥

abbrev pub AwaitsNow : ℕ → Doing → Type 0
AwaitsNow channel (AwaitsRequest on) = on ≡ channel
AwaitsNow channel (AwaitsResponse on) = on ≡ channel
AwaitsNow channel other = ⊥

pub record IsAwaiting (facts : Facts) (channel : ℕ) : Type 0 where
  pub awaits : AwaitsNow channel facts.turn.doing
  pub wants : facts.wanted ≡ Listens channel
  pub judges : (octets : List ℕ) → verdict_of facts octets ≡ verdict_advertising channel octets

awaits_by : (facts : Facts) (channel : ℕ) (doing : Doing) → AwaitsNext channel doing → IsAwaiting (facts_passed (unheard doing facts)) channel
unfolding verdict_of
awaits_by facts channel (Advertises on) is = record { awaits = is; wants = ap Listens is; judges = λ octets. ap (λ n. verdict_advertising n octets) is }
awaits_by facts channel (Requests on advertiser) is = record { awaits = is; wants = ap Listens is; judges = λ octets. ap (λ n. verdict_advertising n octets) is }
awaits_by facts channel other is = absurd is

pub awaits_next : (setup : Setup) (facts : Facts) (channel : ℕ) → AwaitsNext channel facts.turn.doing → IsAwaiting (facts_after setup facts NothingHeard) channel
awaits_next setup facts channel is = awaits_by facts channel facts.turn.doing is

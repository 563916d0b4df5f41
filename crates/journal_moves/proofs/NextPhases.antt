-- What a side that is to send or to listen by its lines does next, where its controller hears nothing, or a packet.
use Rattle.std.proofs.Common.{◌≡◌, ◌⊎◌, inl, inr, ℕ, suc, ◌<◌, Bool, true, false, Option, Some, None, List, refl, sym, ap, ◌∙◌, arith}
use Rattle.adv_pdu.specs.declared.pdu.AdvPdu.{AdvPdu}
use Rattle.ble_base.specs.declared.addresses.Address.{Address}
use Rattle.advertise.specs.declared.answers.AdvAnswer.{AdvAnswer}
use Rattle.advertise.specs.declared.answers.AdvAnswer.TheVariants.{Connect as Takes, Ignore, Respond}
use Rattle.advertise.specs.Advertising.{AdvertiserFacts}
use Rattle.advertise.specs.Answers.{advertiser_answer}
use Rattle.scan_init.specs.Initiating.{InitiatorFacts}
use Rattle.scan_init.specs.Reports.{ScannerFacts, does_ask, scan_answer}
use Rattle.journal_wants.specs.controller_model.declared.doing.Doing.{Doing}
use Rattle.journal_wants.specs.controller_model.declared.doing.Doing.TheVariants.{Advertises, AwaitsRequest, AwaitsResponse, CentralListens, CentralSends, Connects, Initiates, PeripheralListens, PeripheralSends, Requests, Responds, Rests, Scans}
use Rattle.journal_wants.specs.controller_model.Facts.{Facts, Setup}
use Rattle.journal_wants.specs.controller_model.Heard.{advertiser_answers, advertiser_heard, asks_if, connects, heard, if_pdu, initiator_heard, link_to, reply_if, scanner_heard, unheard}
use Rattle.journal_wants.specs.controller_model.Outcome.{Outcome}
use Rattle.journal_wants.specs.controller_model.Packets.{pdu_heard, verdict_doing}
use Rattle.journal_wants.specs.controller_model.link_model.declared.setup.LinkSetup.{LinkSetup}
use Rattle.journal_wants.specs.controller_model.open_links.OpenLinks.{Links}
use Rattle.journal_wants.specs.journal_sending.journal_fixing.OnLines.{kept_or}
use Rattle.journal_wants.specs.run_model.History.{is_handed}
use Rattle.journal_moves.specs.Doing.{after_sending}
use Rattle.journal_moves.specs.Moves.{phase_listening, phase_sending}
use Rattle.journal_moves.proofs.DoingPhases.{IsPhase}
use Rattle.journal_moves.proofs.NextDoing.{taken_next}
use Rattle.journal_moves.proofs.Phases.{IsSilent, phase_of}
use Rattle.journal_moves.proofs.SaidLines.{answers_link, is_answering}

-- ---- what the lines say, and what the controller does

-- a listener of an earlier phase, whose controller rests
pub record IsStale (phases : ℕ) (said doing : Doing) : Type 0 where
  pub rests : doing ≡ Rests
  pub silent : phase_sending said ≡ None
  pub earlier : (phase : ℕ) → phase_listening said ≡ Some phase → phase < phases

abbrev pub Matches : ℕ → Doing → Doing → Type 0
Matches phases said doing = (said ≡ doing) ⊎ IsStale phases said doing

-- ---- who listens

own_earlier : (phases own phase : ℕ) → own ≡ phases → Some own ≡ Some phase → phase < suc phases
own_earlier phases own phase is same = let one : own ≡ phase = cc in omega (arith, is, one)

listener_earlier : (phases : ℕ) (doing : Doing) → IsPhase phases (phase_of doing) → (phase : ℕ)
    → phase_listening doing ≡ Some phase → phase < suc phases
listener_earlier phases (Scans channel) is phase same = own_earlier phases 0 phase is same
listener_earlier phases (Initiates channel) is phase same = own_earlier phases 0 phase is same
listener_earlier phases (PeripheralListens handle) is phase same = own_earlier phases 0 phase is same
listener_earlier phases (AwaitsRequest channel) is phase same = own_earlier phases 1 phase is same
listener_earlier phases (CentralListens handle) is phase same = own_earlier phases 1 phase is same
listener_earlier phases (AwaitsResponse channel) is phase same = own_earlier phases 2 phase is same
listener_earlier phases (Advertises channel) is phase same = absurd (let h : None ≡ Some phase = same in absurd cc)
listener_earlier phases (CentralSends handle) is phase same = absurd (let h : None ≡ Some phase = same in absurd cc)
listener_earlier phases (Requests channel advertiser) is phase same =
    absurd (let h : None ≡ Some phase = same in absurd cc)
listener_earlier phases (Connects channel link) is phase same = absurd (let h : None ≡ Some phase = same in absurd cc)
listener_earlier phases (PeripheralSends handle) is phase same =
    absurd (let h : None ≡ Some phase = same in absurd cc)
listener_earlier phases (Responds channel) is phase same = absurd (let h : None ≡ Some phase = same in absurd cc)
listener_earlier phases Rests is phase same = absurd (let h : None ≡ Some phase = same in absurd cc)

unheard_rests : (doing : Doing) (facts : Facts) → phase_sending doing ≡ None → (unheard doing facts).next ≡ Rests
unheard_rests (Scans channel) facts silent = refl
unheard_rests (Initiates channel) facts silent = refl
unheard_rests (PeripheralListens handle) facts silent = refl
unheard_rests (AwaitsRequest channel) facts silent = refl
unheard_rests (CentralListens handle) facts silent = refl
unheard_rests (AwaitsResponse channel) facts silent = refl
unheard_rests Rests facts silent = refl
unheard_rests (Advertises channel) facts silent = absurd (let h : Some 0 ≡ None = silent in absurd cc)
unheard_rests (CentralSends handle) facts silent = absurd (let h : Some 0 ≡ None = silent in absurd cc)
unheard_rests (Requests channel advertiser) facts silent = absurd (let h : Some 1 ≡ None = silent in absurd cc)
unheard_rests (Connects channel link) facts silent = absurd (let h : Some 1 ≡ None = silent in absurd cc)
unheard_rests (PeripheralSends handle) facts silent = absurd (let h : Some 1 ≡ None = silent in absurd cc)
unheard_rests (Responds channel) facts silent = absurd (let h : Some 2 ≡ None = silent in absurd cc)

-- what does not send by the lines matches a controller that rests next
pub rests_next : (phases : ℕ) (said doing next : Doing) → IsPhase phases (phase_of doing) → phase_sending doing ≡ None
    → next ≡ Rests
    → Matches phases said doing → Matches (suc phases) said next
rests_next phases said doing next is silent rests (inl same) = inr (record {
  rests = rests;
  silent = ap phase_sending same ∙ silent;
  earlier = λ phase listens. listener_earlier phases doing is phase (ap phase_listening (sym same) ∙ listens);
})
rests_next phases said doing next is silent rests (inr stale) = inr (record {
  rests = rests;
  silent = stale.silent;
  earlier = λ phase listens. let before = stale.earlier phase listens in omega (arith, before);
})

pub unheard_next_rests : (phases : ℕ) (said doing : Doing) (facts : Facts) → IsPhase phases (phase_of doing)
    → phase_sending doing ≡ None
    → Matches phases said doing → Matches (suc phases) said (unheard doing facts).next
unheard_next_rests phases said doing facts is silent matches =
    rests_next phases said doing (unheard doing facts).next is silent (unheard_rests doing facts silent) matches

-- what it says sends only where the controller does
pub said_silent : (phases : ℕ) (said doing : Doing) → phase_sending doing ≡ None → Matches phases said doing
    → phase_sending said ≡ None
said_silent phases said doing silent (inl same) = ap phase_sending same ∙ silent
said_silent phases said doing silent (inr stale) = stale.silent

-- after three phases there is none that sends
pub over_silent : (doing : Doing) → IsPhase 3 (phase_of doing) → phase_sending doing ≡ None
over_silent (Scans channel) is = refl
over_silent (Initiates channel) is = refl
over_silent (PeripheralListens handle) is = refl
over_silent (AwaitsRequest channel) is = refl
over_silent (CentralListens handle) is = refl
over_silent (AwaitsResponse channel) is = refl
over_silent Rests is = refl
over_silent (Advertises channel) is = absurd (let h : 0 ≡ 3 = is in omega (arith, h))
over_silent (CentralSends handle) is = absurd (let h : 0 ≡ 3 = is in omega (arith, h))
over_silent (Requests channel advertiser) is = absurd (let h : 1 ≡ 3 = is in omega (arith, h))
over_silent (Connects channel link) is = absurd (let h : 1 ≡ 3 = is in omega (arith, h))
over_silent (PeripheralSends handle) is = absurd (let h : 1 ≡ 3 = is in omega (arith, h))
over_silent (Responds channel) is = absurd (let h : 2 ≡ 3 = is in omega (arith, h))

-- ---- a peripheral that is to answer sends

link_silent : (doing : Doing) → phase_sending doing ≡ None → answers_link doing ≡ false
link_silent (PeripheralSends handle) silent = absurd (let h : Some 1 ≡ None = silent in absurd cc)
link_silent (Advertises channel) silent = refl
link_silent other silent = refl

pub silent_still : (kept : Option Doing) (begun : Doing) → phase_sending (kept_or kept begun) ≡ None
    → is_answering kept ≡ false
silent_still None begun silent = refl
silent_still (Some doing) begun silent = link_silent doing silent

pub sent_still : (doing : Doing) → answers_link (after_sending doing) ≡ false
sent_still (Advertises channel) = refl
sent_still (Requests channel advertiser) = refl
sent_still (CentralSends handle) = refl
sent_still other = refl

-- ---- what is heard where it is no peripheral that is to answer

answered_quiet : (answer : AdvAnswer) (channel : ℕ) (own : Address) (pdu : AdvPdu) (facts : Facts)
    → answers_link (advertiser_answers answer channel own pdu facts).next ≡ false
answered_quiet Ignore channel own pdu facts = refl
answered_quiet Respond channel own pdu facts = refl
answered_quiet (Takes fields) channel own pdu facts = ap answers_link (taken_next _ own pdu fields facts)

request_quiet : (on : Option AdvertiserFacts) (channel : ℕ) (pdu : AdvPdu) (facts : Facts)
    → answers_link (advertiser_heard on channel pdu facts).next ≡ false
request_quiet None channel pdu facts = refl
request_quiet (Some on) channel pdu facts =
    answered_quiet (advertiser_answer on.params facts.view.accepted pdu) channel on.params.own pdu facts

asks_quiet : (asks : Bool) (channel : ℕ) (pdu : AdvPdu) → answers_link (asks_if asks channel pdu) ≡ false
asks_quiet true channel pdu = refl
asks_quiet false channel pdu = refl

scanned_quiet : (on : Option ScannerFacts) (channel : ℕ) (pdu : AdvPdu) (facts : Facts)
    → answers_link (scanner_heard on true channel pdu facts).next ≡ false
scanned_quiet None channel pdu facts = refl
scanned_quiet (Some on) channel pdu facts =
    asks_quiet (does_ask (scan_answer on.params facts.view.accepted on.recent pdu)) channel pdu

response_quiet : (on : Option ScannerFacts) (channel : ℕ) (pdu : AdvPdu) (facts : Facts)
    → answers_link (scanner_heard on false channel pdu facts).next ≡ false
response_quiet None channel pdu facts = refl
response_quiet (Some on) channel pdu facts = refl

connects_quiet : (link : Option LinkSetup) (setup : Setup) (channel : ℕ) (facts : Facts)
    → answers_link (connects link setup channel facts).next ≡ false
connects_quiet None setup channel facts = refl
connects_quiet (Some link) setup channel facts = refl

sought_quiet : (on : Option InitiatorFacts) (setup : Setup) (channel : ℕ) (pdu : AdvPdu) (facts : Facts)
    → answers_link (initiator_heard on setup channel pdu facts).next ≡ false
sought_quiet None setup channel pdu facts = refl
sought_quiet (Some on) setup channel pdu facts = connects_quiet (link_to setup on pdu facts) setup channel facts

pdu_quiet : (pdu : Option AdvPdu) (facts : Facts) (outcome : AdvPdu → Outcome)
    → ((one : AdvPdu) → answers_link (outcome one).next ≡ false)
    → answers_link (if_pdu pdu facts outcome).next ≡ false
pdu_quiet None facts outcome is = refl
pdu_quiet (Some pdu) facts outcome is = is pdu

abbrev pub awaits_central : Doing → Bool
awaits_central (PeripheralListens handle) = true
awaits_central other = false

pub heard_quiet : (setup : Setup) (doing : Doing) (octets : List ℕ) (facts : Facts) → awaits_central doing ≡ false
    → IsSilent setup octets facts doing
    → answers_link (heard setup doing octets facts).next ≡ false
heard_quiet setup (AwaitsRequest channel) octets facts none silent =
    pdu_quiet (pdu_heard channel octets) facts (λ pdu. advertiser_heard facts.advertising.on channel pdu facts)
    (λ pdu. request_quiet facts.advertising.on channel pdu facts)
heard_quiet setup (Scans channel) octets facts none silent =
    pdu_quiet (pdu_heard channel octets) facts (λ pdu. scanner_heard facts.scanning.on true channel pdu facts)
    (λ pdu. scanned_quiet facts.scanning.on channel pdu facts)
heard_quiet setup (AwaitsResponse channel) octets facts none silent =
    pdu_quiet (pdu_heard channel octets) facts (λ pdu. scanner_heard facts.scanning.on false channel pdu facts)
    (λ pdu. response_quiet facts.scanning.on channel pdu facts)
heard_quiet setup (Initiates channel) octets facts none silent =
    pdu_quiet (pdu_heard channel octets) facts (λ pdu. initiator_heard facts.initiator setup channel pdu facts)
    (λ pdu. sought_quiet facts.initiator setup channel pdu facts)
heard_quiet setup (CentralListens handle) octets facts none silent =
    ap (λ replies. answers_link (reply_if replies handle)) silent
heard_quiet setup (PeripheralListens handle) octets facts none silent =
    absurd (let h : true ≡ false = none in absurd cc)
heard_quiet setup (Advertises channel) octets facts none silent = refl
heard_quiet setup (Requests channel advertiser) octets facts none silent = refl
heard_quiet setup (CentralSends handle) octets facts none silent = refl
heard_quiet setup (Connects channel link) octets facts none silent = refl
heard_quiet setup (PeripheralSends handle) octets facts none silent = refl
heard_quiet setup (Responds channel) octets facts none silent = refl
heard_quiet setup Rests octets facts none silent = refl

-- ---- who is handed a packet listens

pub handed_silent : (links : Links) (doing : Doing) (octets : List ℕ)
    → is_handed (verdict_doing links doing octets) ≡ true → phase_sending doing ≡ None
handed_silent links (Scans channel) octets handed = refl
handed_silent links (Initiates channel) octets handed = refl
handed_silent links (PeripheralListens handle) octets handed = refl
handed_silent links (AwaitsRequest channel) octets handed = refl
handed_silent links (CentralListens handle) octets handed = refl
handed_silent links (AwaitsResponse channel) octets handed = refl
handed_silent links Rests octets handed = refl
handed_silent links (Advertises channel) octets handed = absurd (let h : false ≡ true = handed in absurd cc)
handed_silent links (CentralSends handle) octets handed = absurd (let h : false ≡ true = handed in absurd cc)
handed_silent links (Requests channel advertiser) octets handed = absurd (let h : false ≡ true = handed in absurd cc)
handed_silent links (Connects channel link) octets handed = absurd (let h : false ≡ true = handed in absurd cc)
handed_silent links (PeripheralSends handle) octets handed = absurd (let h : false ≡ true = handed in absurd cc)
handed_silent links (Responds channel) octets handed = absurd (let h : false ≡ true = handed in absurd cc)

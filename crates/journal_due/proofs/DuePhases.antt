-- What a controller notes in a phase: no note is of a procedure where no link receives a packet, and the lines of a link
-- that receives one come where they are due.
use Rattle.std.proofs.Common.{◌≡◌, ℕ, Bool, true, false, Option, Some, None, List, [], ◌∷◌, refl, sym, ◌∙◌}
use Rattle.std.specs.Prelude.{All, ◌&&◌}
use Rattle.std.proofs.lemmas.List.Elements.{All-append, All-cons, All-nil}
use Rattle.adv_pdu.specs.declared.pdu.AdvPdu.{AdvPdu}
use Rattle.adv_pdu.specs.declared.pdu.ConnectFields.{ConnectFields}
use Rattle.advertise.specs.declared.answers.AdvAnswer.{AdvAnswer}
use Rattle.advertise.specs.declared.answers.AdvAnswer.TheVariants.{Ignore, Respond, Connect as TakesIt}
use Rattle.advertise.specs.Advertising.{AdvertiserFacts}
use Rattle.advertise.specs.Answers.{advertiser_answer}
use Rattle.ble_base.specs.declared.addresses.Address.{Address}
use Rattle.journal_controls.specs.controller_model.declared.doing.Doing.{Doing}
use Rattle.journal_controls.specs.controller_model.declared.doing.Doing.TheVariants.{Advertises, AwaitsRequest, Scans, Requests, AwaitsResponse, Initiates}
use Rattle.journal_controls.specs.controller_model.declared.doing.Doing.TheVariants.{Connects, CentralSends, CentralListens, PeripheralListens}
use Rattle.journal_controls.specs.controller_model.Events.{notes_of_events}
use Rattle.journal_controls.specs.controller_model.Facts.{Setup, Facts}
use Rattle.journal_controls.specs.controller_model.Heard.{advertiser_answers, advertiser_heard, asks_if, connects, events_reported, heard, if_pdu}
use Rattle.journal_controls.specs.controller_model.Heard.{initiator_heard, link_taken, link_to, opens, scanner_after, scanner_heard, taken_if, taken_under}
use Rattle.journal_controls.specs.controller_model.Heard.{unheard, with_scanner}
use Rattle.journal_controls.specs.controller_model.Links.{events_opened, note_opened}
use Rattle.journal_controls.specs.controller_model.Outcome.{Outcome, notes_passed}
use Rattle.journal_controls.specs.controller_model.Packets.{notes_doing, pdu_heard}
use Rattle.journal_controls.specs.controller_model.host_view.scan_init.Initiating.{InitiatorFacts}
use Rattle.journal_controls.specs.controller_model.host_view.scan_init.Reports.{ScannerFacts, does_ask, scan_answer}
use Rattle.journal_controls.specs.open_links.OpenLinks.{free_from}
use Rattle.journal_controls.specs.link_model.declared.setup.LinkSetup.{LinkSetup}
use Rattle.journal_controls.proofs.journal_acks.link_calls.CallNotes.{IsOfFeeds, events_noted}
use Rattle.journal_controls.specs.journal_acks.link_calls.Uses.{listens_under}
use Rattle.journal_controls.proofs.journal_acks.TwoStations.{same_number}
use Rattle.journal_due.proofs.DuePlain.{IsPlain}

-- ---- notes of no procedure

pub plain_feeds : IsOfFeeds IsPlain
plain_feeds = record { up = λ octets. refl; shut = λ handle reason. refl }

abbrev IsPlainOutcome : Outcome → Type 0
IsPlainOutcome outcome = All IsPlain (notes_passed outcome)

nothing : All IsPlain []
nothing = All-nil IsPlain

opens_plain : (link : LinkSetup) (facts : Facts) → IsPlainOutcome (opens link facts)
opens_plain link facts =
    let events = notes_of_events facts.view (events_opened facts.view link) in
    All-append IsPlain (note_opened link ∷ events) []
    (All-cons IsPlain (note_opened link) events refl (events_noted IsPlain plain_feeds facts.view (events_opened facts.view link))) nothing

pub unheard_plain : (doing : Doing) (facts : Facts) → IsPlainOutcome (unheard doing facts)
unheard_plain (Advertises channel) facts = nothing
unheard_plain (Requests channel advertiser) facts = nothing
unheard_plain (Connects channel link) facts = opens_plain link facts
unheard_plain (CentralSends handle) facts = nothing
unheard_plain other facts = nothing

under_plain : (free : Option ℕ) (own : Address) (pdu : AdvPdu) (fields : ConnectFields) (facts : Facts) → IsPlainOutcome (taken_under free own pdu fields facts)
under_plain None own pdu fields facts = nothing
under_plain (Some handle) own pdu fields facts = opens_plain (link_taken facts.view own pdu fields handle) facts

if_plain : (new : Bool) (own : Address) (pdu : AdvPdu) (fields : ConnectFields) (facts : Facts) → IsPlainOutcome (taken_if new own pdu fields facts)
if_plain false own pdu fields facts = nothing
if_plain true own pdu fields facts = under_plain (free_from 0 facts.links) own pdu fields facts

answers_plain : (answer : AdvAnswer) (channel : ℕ) (own : Address) (pdu : AdvPdu) (facts : Facts) → IsPlainOutcome (advertiser_answers answer channel own pdu facts)
answers_plain Ignore channel own pdu facts = nothing
answers_plain Respond channel own pdu facts = nothing
answers_plain (TakesIt fields) channel own pdu facts = if_plain _ own pdu fields facts

advertiser_plain : (on : Option AdvertiserFacts) (channel : ℕ) (pdu : AdvPdu) (facts : Facts) → IsPlainOutcome (advertiser_heard on channel pdu facts)
advertiser_plain None channel pdu facts = nothing
advertiser_plain (Some on) channel pdu facts = answers_plain (advertiser_answer on.params facts.view.accepted pdu) channel on.params.own pdu facts

asks_plain : (asks : Bool) (channel : ℕ) (pdu : AdvPdu) (facts : Facts) → All IsPlain (notes_doing (asks_if asks channel pdu) facts)
asks_plain true channel pdu facts = nothing
asks_plain false channel pdu facts = nothing

scanner_plain : (on : Option ScannerFacts) (may_ask : Bool) (channel : ℕ) (pdu : AdvPdu) (facts : Facts) → IsPlainOutcome (scanner_heard on may_ask channel pdu facts)
scanner_plain None may_ask channel pdu facts = nothing
scanner_plain (Some on) may_ask channel pdu facts =
    let answer = scan_answer on.params facts.view.accepted on.recent pdu in
    All-append IsPlain _ _ (events_noted IsPlain plain_feeds facts.view (events_reported answer pdu))
    (asks_plain (may_ask && does_ask answer) channel pdu (with_scanner (scanner_after on facts.view.accepted pdu) facts))

connects_plain : (link : Option LinkSetup) (setup : Setup) (channel : ℕ) (facts : Facts) → IsPlainOutcome (connects link setup channel facts)
connects_plain None setup channel facts = nothing
connects_plain (Some link) setup channel facts = nothing

initiator_plain : (on : Option InitiatorFacts) (setup : Setup) (channel : ℕ) (pdu : AdvPdu) (facts : Facts) → IsPlainOutcome (initiator_heard on setup channel pdu facts)
initiator_plain None setup channel pdu facts = nothing
initiator_plain (Some on) setup channel pdu facts = connects_plain (link_to setup on pdu facts) setup channel facts

pdu_plain : (found : Option AdvPdu) (facts : Facts) (outcome : AdvPdu → Outcome) → ((pdu : AdvPdu) → IsPlainOutcome (outcome pdu)) → IsPlainOutcome (if_pdu found facts outcome)
pdu_plain None facts outcome some = nothing
pdu_plain (Some pdu) facts outcome some = some pdu

-- a phase in which no link listens
pub heard_plain : (setup : Setup) (facts : Facts) (octets : List ℕ) (doing : Doing) → ((handle : ℕ) → listens_under handle doing ≡ false) → IsPlainOutcome (heard setup doing octets facts)
heard_plain setup facts octets (CentralListens other) deaf = absurd (let h : true ≡ false = sym (same_number other) ∙ deaf other in absurd cc)
heard_plain setup facts octets (PeripheralListens other) deaf = absurd (let h : true ≡ false = sym (same_number other) ∙ deaf other in absurd cc)
heard_plain setup facts octets (AwaitsRequest channel) deaf =
    pdu_plain (pdu_heard channel octets) facts _ (λ pdu. advertiser_plain facts.advertising.on channel pdu facts)
heard_plain setup facts octets (Scans channel) deaf =
    pdu_plain (pdu_heard channel octets) facts _ (λ pdu. scanner_plain facts.scanning.on true channel pdu facts)
heard_plain setup facts octets (AwaitsResponse channel) deaf =
    pdu_plain (pdu_heard channel octets) facts _ (λ pdu. scanner_plain facts.scanning.on false channel pdu facts)
heard_plain setup facts octets (Initiates channel) deaf =
    pdu_plain (pdu_heard channel octets) facts _ (λ pdu. initiator_plain facts.initiator setup channel pdu facts)
heard_plain setup facts octets (Advertises channel) deaf = unheard_plain (Advertises channel) facts
heard_plain setup facts octets doing deaf = unheard_plain doing facts

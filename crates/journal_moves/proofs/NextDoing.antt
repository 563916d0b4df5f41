-- What a side does next by its lines, after a packet of its own and after one that it hears, is what its controller
-- does next.
use Rattle.std.proofs.Common.{◌≡◌, ℕ, ◌&&◌, Bool, true, false, List, [], Option, Some, None, refl, sym, ap, ◌∙◌}
use Rattle.std.specs.Prelude.{is_some}
use Rattle.std.specs.Option.{option_map}
use Rattle.ble_base.specs.declared.addresses.Address.{Address}
use Rattle.adv_pdu.specs.declared.pdu.AdvPdu.{AdvPdu}
use Rattle.adv_pdu.specs.declared.pdu.ConnectFields.{ConnectFields}
use Rattle.advertise.specs.declared.answers.AdvAnswer.{AdvAnswer}
use Rattle.advertise.specs.declared.answers.AdvAnswer.TheVariants.{Connect as Takes, Ignore, Respond}
use Rattle.advertise.specs.Advertising.{AdvertiserFacts}
use Rattle.advertise.specs.Answers.{advertiser_answer}
use Rattle.scan_init.specs.declared.reports.Report.{Report}
use Rattle.scan_init.specs.declared.scanner.ScanParams.{ScanParams}
use Rattle.scan_init.specs.Reports.{ScannerFacts, combined_answer, does_ask, is_scannable, is_withheld, pdu_report, report_answer}
use Rattle.journal_wants.specs.controller_model.declared.doing.Doing.{Doing}
use Rattle.journal_wants.specs.controller_model.declared.doing.Doing.TheVariants.{Advertises, AwaitsRequest, AwaitsResponse, CentralListens, CentralSends, Connects, Initiates, PeripheralListens, PeripheralSends, Requests, Responds, Rests, Scans}
use Rattle.journal_wants.specs.controller_model.Facts.{Facts}
use Rattle.journal_wants.specs.controller_model.Heard.{advertiser_answers, advertiser_heard, asks_if, scanner_heard, taken_if, taken_under, unheard}
use Rattle.journal_wants.specs.controller_model.open_links.OpenLinks.{free_from}
use Rattle.journal_wants.proofs.HostSet.{unreported}
use Rattle.journal_moves.specs.Doing.{advertiser_hears, after_sending, responds_by, scanner_hears}
use Rattle.journal_moves.specs.Moves.{phase_sending}

-- ---- after a packet of its own it hears nothing in that phase

pub sent_next : (doing : Doing) (facts : Facts) → is_some (phase_sending doing) ≡ true
    → (unheard doing facts).next ≡ after_sending doing
sent_next (Advertises channel) facts sends = refl
sent_next (Responds channel) facts sends = refl
sent_next (Requests channel advertiser) facts sends = refl
sent_next (Connects channel link) facts sends = refl
sent_next (CentralSends handle) facts sends = refl
sent_next (PeripheralSends handle) facts sends = refl
sent_next (AwaitsRequest channel) facts sends = absurd cc
sent_next (AwaitsResponse channel) facts sends = absurd cc
sent_next (Scans channel) facts sends = absurd cc
sent_next (Initiates channel) facts sends = absurd cc
sent_next (CentralListens handle) facts sends = absurd cc
sent_next (PeripheralListens handle) facts sends = absurd cc
sent_next Rests facts sends = absurd cc

-- ---- an advertiser that hears a request

pub taken_next : (is_new : Bool) (own : Address) (pdu : AdvPdu) (fields : ConnectFields) (facts : Facts)
    → (taken_if is_new own pdu fields facts).next ≡ Rests
taken_next false own pdu fields facts = refl
taken_next true own pdu fields facts = by (free_from 0 facts.links)
  where
    by : (handle : Option ℕ) → (taken_under handle own pdu fields facts).next ≡ Rests
    by None = refl
    by (Some handle) = refl

answered_next : (answer : AdvAnswer) (channel : ℕ) (own : Address) (pdu : AdvPdu) (facts : Facts)
    → (advertiser_answers answer channel own pdu facts).next ≡ responds_by answer channel
answered_next Ignore channel own pdu facts = refl
answered_next Respond channel own pdu facts = refl
answered_next (Takes fields) channel own pdu facts = taken_next _ own pdu fields facts

pub request_next : (on : Option AdvertiserFacts) (channel : ℕ) (pdu : AdvPdu) (facts : Facts)
    → (advertiser_heard on channel pdu facts).next ≡ advertiser_hears on facts.view.accepted channel pdu
request_next None channel pdu facts = refl
request_next (Some on) channel pdu facts =
    answered_next (advertiser_answer on.params facts.view.accepted pdu) channel on.params.own pdu facts

-- ---- a scanner that hears an advertisement asks, whatever it has reported

asks_is : (withheld asks : Bool) → does_ask (combined_answer withheld asks) ≡ asks
asks_is false false = refl
asks_is false true = refl
asks_is true false = refl
asks_is true true = refl

report_asks : (params : ScanParams) (recent : List Report) (pdu : AdvPdu) (report : Option Report)
    → does_ask (report_answer params recent pdu report) ≡ does_ask (report_answer params [] pdu report)
report_asks params recent pdu None = refl
report_asks params recent pdu (Some report) =
    let asks = params.active && is_scannable pdu in
    asks_is (is_withheld params.once recent report) asks ∙ sym (asks_is (is_withheld params.once [] report) asks)

pub advertisement_next : (on : Option ScannerFacts) (channel : ℕ) (pdu : AdvPdu) (facts : Facts)
    → (scanner_heard on true channel pdu facts).next
    ≡ scanner_hears (option_map unreported on) facts.view.accepted channel pdu
advertisement_next None channel pdu facts = refl
advertisement_next (Some on) channel pdu facts =
    ap (λ asks. asks_if asks channel pdu)
    (report_asks on.params on.recent pdu (pdu_report on.params facts.view.accepted pdu))

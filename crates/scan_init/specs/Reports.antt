-- What a scanner reports and what it asks for (Core 5.2, volume 6 part B, section 4.4.3, and volume 4 part E, sections
-- 7.7.65.2 and 7.8.10).
use Rattle.std.specs.Prelude.{ℕ, ◌-◌, ◌==◌, ◌&&◌, ◌||◌, not, Bool, true, false, List, [], ◌∷◌, ◌++◌, length, drop, Option, Some, None, if◌then◌else◌}
use Rattle.std.specs.List.{list_any}
use Rattle.ble_base.specs.declared.addresses.Address.{Address}
use Rattle.adv_pdu.specs.declared.pdu.AdvPdu.{AdvPdu}
use Rattle.adv_pdu.specs.declared.pdu.AdvPdu.TheVariants.{Ind, Direct, Nonconn, ScanInd, ScanRsp}
use Rattle.adv_pdu.specs.Pdu.{sender_of}
use Rattle.scan_init.specs.declared.reports.Report.{Report}
use Rattle.scan_init.specs.declared.reports.ReportKind.{ReportKind}
use Rattle.scan_init.specs.declared.reports.ReportKind.TheVariants.{Undirected, Directed, Scannable, Nonconnectable, Response}
use Rattle.scan_init.specs.declared.scanner.ScanAnswer.{ScanAnswer}
use Rattle.scan_init.specs.declared.scanner.ScanAnswer.TheVariants.{Ignore, Report as Reports, Ask, ReportAndAsk}
use Rattle.scan_init.specs.declared.scanner.ScanParams.{ScanParams}
use Rattle.scan_init.specs.Addresses.{is_same_address, is_listed}

-- ---- what makes a report

-- Event_Type of a report
abbrev pub event_type : ReportKind → ℕ
event_type Undirected = 0
event_type Directed = 1
event_type Scannable = 2
event_type Nonconnectable = 3
event_type Response = 4

-- the kind of report that a PDU makes; a request makes none
abbrev pub kind_of : AdvPdu → Option ReportKind
kind_of (Ind from ch_sel body) = Some Undirected
kind_of (Direct from to ch_sel) = Some Directed
kind_of (Nonconn from body) = Some Nonconnectable
kind_of (ScanInd from body) = Some Scannable
kind_of (ScanRsp from body) = Some Response
kind_of other = None

-- a passive scanner does not ask, and takes no response
abbrev pub is_taken : Bool → ReportKind → Bool
is_taken active Response = active
is_taken active other = true

-- a directed advertisement is for the device that it names alone
abbrev pub is_for : Address → AdvPdu → Bool
is_for own (Direct from to ch_sel) = is_same_address own to
is_for own other = true

-- the filter: with policy 1 a sender has to be in the accept list
abbrev pub is_passed : Bool → List Address → Address → Bool
is_passed listed list sender = not listed || is_listed list sender

abbrev pub passing_report : Bool → ReportKind → Address → Option Report
passing_report test kind from = if test then Some (record { kind = kind; from = from }) else None

-- the report of a PDU of this kind
abbrev pub report_of_kind : ScanParams → List Address → AdvPdu → Option ReportKind → Option Report
report_of_kind params list pdu None = None
report_of_kind params list pdu (Some kind) =
    passing_report
    (is_taken params.active kind && is_for params.own pdu && is_passed params.listed list (sender_of pdu))
    kind (sender_of pdu)

-- the report that a PDU makes, duplicates or not
abbrev pub pdu_report : ScanParams → List Address → AdvPdu → Option Report
pdu_report params list pdu = report_of_kind params list pdu (kind_of pdu)

-- ---- duplicates

-- they are of one type and one sender
abbrev pub is_alike : Report → Report → Bool
is_alike one other = (event_type one.kind == event_type other.kind) && is_same_address one.from other.from

-- the last 16 of these
abbrev pub last_16 : List Report → List Report
last_16 reports = drop (length reports - 16) reports

-- where duplicates are filtered, a report is withheld that is like one of the last 16 made since scanning began (our
-- choice of how many)
abbrev pub is_withheld : Bool → List Report → Report → Bool
is_withheld once reported report = once && list_any (is_alike report) (last_16 reported)

-- the reports made, with this one where it is not withheld
abbrev pub with_report : Bool → List Report → Option Report → List Report
with_report once reported None = reported
with_report once reported (Some report) =
    if is_withheld once reported report then reported else reported ++ report ∷ []

-- ---- the answer

-- the PDU may be followed by a SCAN_REQ
abbrev pub is_scannable : AdvPdu → Bool
is_scannable (Ind from ch_sel body) = true
is_scannable (ScanInd from body) = true
is_scannable other = false

abbrev pub combined_answer : (withheld asks : Bool) → ScanAnswer
combined_answer false false = Reports
combined_answer false true = ReportAndAsk
combined_answer true false = Ignore
combined_answer true true = Ask

abbrev pub report_answer : ScanParams → List Report → AdvPdu → Option Report → ScanAnswer
report_answer params reported pdu None = Ignore
report_answer params reported pdu (Some report) =
    combined_answer (is_withheld params.once reported report) (params.active && is_scannable pdu)

-- the answer has it send a SCAN_REQ
abbrev pub does_ask : ScanAnswer → Bool
does_ask Ignore = false
does_ask Reports = false
does_ask Ask = true
does_ask ReportAndAsk = true

-- what a scanner with these parameters does about a PDU, by the accept list and the reports that it has made
abbrev pub scan_answer : ScanParams → List Address → List Report → AdvPdu → ScanAnswer
scan_answer params list reported pdu = report_answer params reported pdu (pdu_report params list pdu)

-- the reports that it has made then
abbrev pub reports_after : ScanParams → List Address → List Report → AdvPdu → List Report
reports_after params list reported pdu = with_report params.once reported (pdu_report params list pdu)

-- ---- a scanner

-- what a scanner holds: its parameters, the slot in which it began, and its last 16 reports
pub record ScannerFacts : Type 0 where
  pub params : ScanParams
  pub since : ℕ
  pub recent : List Report

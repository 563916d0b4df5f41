-- The last 16 reports.
use Rattle.std.proofs.Common.{◌≡◌, ℕ, ◌+◌, ◌-◌, ◌≤◌, ◌&&◌, Bool, true, false, if◌then◌else◌, List, [], ◌∷◌, ◌++◌, length, drop, Option, Some, None, refl, sym, ap, ◌∙◌, arith}
use Rattle.std.specs.List.{list_any}
use Rattle.std.proofs.lemmas.List.{drop-drop, drop-append-le, length-drop, length-append}
use Rattle.scan_init.specs.declared.reports.Report.{Report}
use Rattle.scan_init.specs.declared.scanner.ScanParams.{ScanParams}
use Rattle.ble_base.specs.declared.addresses.Address.{Address}
use Rattle.adv_pdu.specs.declared.pdu.AdvPdu.{AdvPdu}
use Rattle.scan_init.specs.Reports.{is_alike, is_withheld, last_16, pdu_report, reports_after, with_report}

-- 16 reports or fewer are all among the last 16
pub last_16-short : (reports : List Report) → length reports ≤ 16 → last_16 reports ≡ reports
last_16-short reports h = let none : length reports - 16 ≡ 0 = omega arith in rw none refl

-- where a PDU makes no report, the last reports are those of before
pub recent_without : (params : ScanParams) (list : List Address) (recent : List Report) (pdu : AdvPdu) (found : Option Report)
    → found ≡ pdu_report params list pdu → found ≡ None → length recent ≤ 16
    → recent ≡ last_16 (reports_after params list recent pdu)
recent_without params list recent pdu found is none short =
    sym (last_16-short recent short) ∙ ap (λ report. last_16 (with_report params.once recent report)) (sym none ∙ is)

-- ---- the last 16 reports decide

last_16-length : (reports : List Report) → length (last_16 reports) ≤ 16
last_16-length reports = omega (arith, length-drop (length reports - 16) reports)

last_16-twice : (reports : List Report) → last_16 (last_16 reports) ≡ last_16 reports
last_16-twice reports = last_16-short (last_16 reports) (last_16-length reports)

-- one more report after the last 16 of some leaves the last 16 of all
last_16-push : (reports : List Report) (report : Report) → last_16 (last_16 reports ++ report ∷ []) ≡ last_16 (reports ++ report ∷ [])
last_16-push reports report =
    let n = length reports in
    let front : last_16 reports ++ report ∷ [] ≡ drop (n - 16) (reports ++ report ∷ []) =
    sym (drop-append-le (n - 16) reports (report ∷ []) (let e : n - 16 ≤ n = omega arith in e)) in
    let whole : length (reports ++ report ∷ []) ≡ n + 1 = length-append reports (report ∷ []) in
    let left : length (drop (n - 16) (reports ++ report ∷ [])) ≡ n + 1 - (n - 16) =
    length-drop (n - 16) (reports ++ report ∷ []) ∙ ap (λ (count : ℕ). count - (n - 16)) whole in
    ap last_16 front
    ∙ ap (λ (count : ℕ). drop (count - 16) (drop (n - 16) (reports ++ report ∷ []))) left
    ∙ drop-drop (n + 1 - (n - 16) - 16) (n - 16) (reports ++ report ∷ [])
    ∙ ap (λ (count : ℕ). drop count (reports ++ report ∷ [])) (let e : n - 16 + (n + 1 - (n - 16) - 16) ≡ n + 1 - 16 = omega arith in e)
    ∙ ap (λ (count : ℕ). drop (count - 16) (reports ++ report ∷ [])) (sym whole)

with_last_by : (withheld : Bool) (reported : List Report) (report : Report)
    → last_16 (if withheld then last_16 reported else last_16 reported ++ report ∷ [])
    ≡ last_16 (if withheld then reported else reported ++ report ∷ [])
with_last_by true reported report = last_16-twice reported
with_last_by false reported report = last_16-push reported report

with_last : (once : Bool) (reported : List Report) (found : Option Report)
    → last_16 (with_report once (last_16 reported) found) ≡ last_16 (with_report once reported found)
with_last once reported None = last_16-twice reported
with_last once reported (Some report) =
    ap (λ recent. last_16 (if once && list_any (is_alike report) recent then last_16 reported else last_16 reported ++ report ∷ []))
    (last_16-twice reported)
    ∙ with_last_by (is_withheld once reported report) reported report

pub last_reports_suffice : (params : ScanParams) (list : List Address) (reported : List Report) (pdu : AdvPdu)
    → last_16 (reports_after params list (last_16 reported) pdu) ≡ last_16 (reports_after params list reported pdu)
last_reports_suffice params list reported pdu = with_last params.once reported (pdu_report params list pdu)

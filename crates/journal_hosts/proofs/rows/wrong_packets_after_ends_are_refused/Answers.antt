-- Proof of `rows::wrong_packets_after_ends_are_refused`.
use Rattle.std.proofs.Common.{◌≡◌, ℕ, ◌%◌, true, false, List, [], ◌∷◌, ◌++◌, refl, ap, arith}
use Rattle.std.specs.Prelude.{drop, slice_index}
use Rattle.ble_base.specs.declared.ErrCode.{ErrCode}
use Rattle.ble_base.specs.declared.roles.Side.TheVariants.{B}
use Rattle.journal.specs.declared.entries.Entry.{Entry}
use Rattle.journal.specs.declared.entries.Entry.TheVariants.{Shut, Up}
use Rattle.h4_frames.specs.Frames.{frames}
use Rattle.hci_cmd.specs.Command.{command_of, layout_of, layouts}
use Rattle.run_model.specs.Rows.{turn_entry}
use Rattle.wire_fields.specs.Field.{little_endian}
use Rattle.journal_hosts.specs.CreditRows.{credit_of, data_arrived, data_up, end_report, other_report}
use Rattle.journal_hosts.specs.Credits.{IsCredit, IsLatePacket, ReportsEnd}
use Rattle.journal_hosts.specs.Ends.{BeginsWithReport, lets_ends_through}
use Rattle.journal_hosts.proofs.rows.wrong_packets_after_ends_are_refused.Goals as goal

-- the line of the link that is shut
abbrev shut_line : Entry
shut_line = Shut B 1 (record { 0 = 0x16 })

-- the lines so far, by those after the credit
abbrev so_far : List Entry → List Entry
so_far between = data_arrived ++ Up B (credit_of 0 1) ∷ between

no_last : (earlier : List Entry) (last : Entry) → [] ≡ earlier ++ last ∷ [] → ⊥
no_last [] last is = absurd cc
no_last (line ∷ earlier) last is = absurd cc

abbrev reason_in : Entry → ℕ
reason_in (Shut side link reason) = reason.0
reason_in other = 0

reason_is : (earlier : List Entry) (link : ℕ) (reason : ErrCode) → shut_line ∷ [] ≡ earlier ++ Shut B link reason ∷ [] → reason.0 ≡ 0x16
reason_is [] link reason is = let same : Shut B link reason ≡ shut_line = cc in ap reason_in same
reason_is (line ∷ earlier) link reason is = absurd (no_last earlier (Shut B link reason) (ap (drop 1) is))

not_after : (earlier : List Entry) (link : ℕ) (reason : ErrCode) → shut_line ∷ Up B end_report ∷ [] ≡ earlier ++ Shut B link reason ∷ [] → ⊥
not_after [] link reason is = absurd cc
not_after (line ∷ []) link reason is = absurd (let same : Up B end_report ≡ Shut B link reason = cc in cc)
not_after (line ∷ other ∷ earlier) link reason is = absurd (no_last earlier (Shut B link reason) (ap (drop 2) is))

no_data : IsLatePacket B (so_far (shut_line ∷ [])) (shut_line ∷ []) data_up → ⊥
unfolding little_endian
no_data (IsCredit none is) = absurd (let h : true ≡ false = none in absurd cc)
no_data (ReportsEnd link reason earlier is end) =
    let first : 2 ≡ 4 = ap (λ octets. slice_index octets 0) end.octets_are in omega (arith, first)

no_credit : IsLatePacket B (so_far (shut_line ∷ [])) (shut_line ∷ []) (credit_of 1 1) → ⊥
unfolding little_endian
no_credit (IsCredit none is) = absurd (let h : true ≡ false = none in absurd cc)
no_credit (ReportsEnd link reason earlier is end) =
    let code : 0x13 ≡ 0x05 = ap (λ octets. slice_index octets 1) end.octets_are in omega (arith, code)

no_reason : IsLatePacket B (so_far (shut_line ∷ [])) (shut_line ∷ []) other_report → ⊥
unfolding little_endian
no_reason (IsCredit none is) = absurd (let h : true ≡ false = none in absurd cc)
no_reason (ReportsEnd link reason earlier is end) =
    let said : 0x13 ≡ reason.0 % 256 = ap (λ octets. slice_index octets 6) end.octets_are in
    let was = reason_is earlier link reason is in omega (arith, said, was)

no_second : IsLatePacket B (so_far (shut_line ∷ Up B end_report ∷ [])) (shut_line ∷ Up B end_report ∷ []) end_report → ⊥
no_second (IsCredit none is) = absurd (let h : true ≡ false = none in absurd cc)
no_second (ReportsEnd link reason earlier is end) = not_after earlier link reason is

pub returns-clause-data : goal.returns-clause-data
returns-clause-data c lawful =
    no_data (lawful data_arrived (shut_line ∷ []) [] B (credit_of 0 1) (Up B data_up) refl refl (omega arith) refl refl)

pub returns-clause-credit : goal.returns-clause-credit
returns-clause-credit c lawful =
    no_credit (lawful data_arrived (shut_line ∷ []) [] B (credit_of 0 1) (Up B (credit_of 1 1)) refl refl (omega arith) refl refl)

pub returns-clause-reason : goal.returns-clause-reason
returns-clause-reason c lawful =
    no_reason (lawful data_arrived (shut_line ∷ []) [] B (credit_of 0 1) (Up B other_report) refl refl (omega arith) refl refl)

pub returns-clause-again : goal.returns-clause-again
returns-clause-again c lawful =
    no_second (lawful data_arrived (shut_line ∷ Up B end_report ∷ []) [] B (credit_of 0 1) (Up B end_report) refl refl (omega arith) refl refl)

no_report : BeginsWithReport B 1 (record { 0 = 0x16 }) data_arrived (turn_entry 4 ∷ []) → ⊥
no_report report = absurd (let none : turn_entry 4 ≡ Up B report.octets = cc in cc)

let_through : lets_ends_through B data_arrived ≡ true
unfolding frames command_of layout_of layouts
let_through = refl

pub returns-clause-unreported : goal.returns-clause-unreported
returns-clause-unreported c lawful =
    no_report (lawful data_arrived (turn_entry 4 ∷ []) B 1 (record { 0 = 0x16 }) refl (omega arith) let_through)

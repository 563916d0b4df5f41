-- Proof of `rows::wrong_credits_are_refused`.
use Rattle.std.proofs.Common.{◌≡◌, ◌<◌, true, false, [], ◌∷◌, ◌++◌, refl, arith}
use Rattle.ble_base.specs.declared.roles.Side.TheVariants.{A, B}
use Rattle.ble_base.specs.declared.verdicts.Verdict.TheVariants.{Missed}
use Rattle.journal.specs.declared.entries.Entry.TheVariants.{Air, Up}
use Rattle.journal.specs.declared.entries.Mark.TheVariants.{Pass}
use Rattle.run_model.specs.Rows.{one_event_journal}
use Rattle.journal_data.specs.journal_acks.Rows.{data_acknowledged}
use Rattle.journal_hosts.specs.CreditRows.{both_fed, both_taken, credit_of, data_arrived, data_up, other_fed}
use Rattle.journal_hosts.specs.Credits.{IsCredit, IsLatePacket, ReportsEnd, is_being_fed}
use Rattle.journal_hosts.proofs.rows.wrong_credits_are_refused.Goals as goal

pub returns-clause-descending : goal.returns-clause-descending
returns-clause-descending c lawful =
    let less : 1 < 0 = lawful data_acknowledged (Up A data_up ∷ []) [] B (credit_of 1 1) (credit_of 0 1) refl refl refl (omega arith) refl in omega (arith, less)

pub returns-clause-one_by_one : goal.returns-clause-one_by_one
returns-clause-one_by_one c lawful =
    let less : 0 < 0 = lawful data_arrived [] [] B (credit_of 0 1) (credit_of 0 1) refl refl refl (omega arith) refl in omega (arith, less)

pub returns-clause-packet : goal.returns-clause-packet
returns-clause-packet c lawful = lawful data_arrived [] [] B (credit_of 0 1) (Air B 37 (0xAA ∷ []) Pass Missed) refl refl (omega arith) refl

no_data : IsLatePacket B (both_taken ++ Up B (credit_of 0 1) ∷ []) [] data_up → ⊥
no_data (IsCredit none is) = absurd (let h : false ≡ true = is in absurd cc)
no_data (ReportsEnd link reason [] is end) = absurd cc
no_data (ReportsEnd link reason (line ∷ earlier) is end) = absurd cc

pub returns-clause-data : goal.returns-clause-data
returns-clause-data c lawful = no_data (lawful both_taken [] [] B (credit_of 0 1) (Up B data_up) refl refl (omega arith) refl refl)

pub returns-clause-together : goal.returns-clause-together
returns-clause-together c lawful =
    let one : 2 ≡ 1 = lawful both_fed [] B (credit_of 0 2) refl refl refl in omega (arith, one)

pub returns-clause-late : goal.returns-clause-late
unfolding is_being_fed
returns-clause-late c lawful =
    let fed : false ≡ true = lawful other_fed [] A (credit_of 0 1) refl refl refl in absurd cc

pub returns-clause-nothing : goal.returns-clause-nothing
returns-clause-nothing c lawful =
    let some : 0 < 0 = lawful one_event_journal [] B (credit_of 0 0) refl refl in omega (arith, some)

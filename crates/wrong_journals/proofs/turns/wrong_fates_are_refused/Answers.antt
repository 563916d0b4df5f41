-- A packet does not have the next fate of its turn.
use Rattle.std.proofs.Common.{[], ◌∷◌, refl, sym, ap}
use Rattle.ble_base.specs.declared.roles.Side.TheVariants.{A}
use Rattle.ble_base.specs.declared.verdicts.Verdict.TheVariants.{Good, Missed}
use Rattle.journal.specs.declared.entries.Entry.TheVariants.{Air}
use Rattle.journal.specs.declared.entries.Mark.TheVariants.{Lost as WasLost, Pass as Passed}
use Rattle.run_model.specs.Rows.{connectable_packet, turn_entry}
use Rattle.wrong_journals.specs.Turns.{one_turn, scripted_turn}
use Rattle.wrong_journals.proofs.Differing.{truths_differ}
use Rattle.wrong_journals.proofs.Turning.{fate_is, is_lost_mark}
use Rattle.wrong_journals.proofs.turns.wrong_fates_are_refused.Goals as goal

pub returns-clause-of_the_next : goal.returns-clause-of_the_next
returns-clause-of_the_next c a b all =
    let front = turn_entry 0 ∷ [] in
    truths_differ (ap is_lost_mark (fate_is (one_turn a b) front WasLost scripted_turn refl
    (all front [] A 37 connectable_packet WasLost Missed refl)))

pub returns-clause-of_the_last : goal.returns-clause-of_the_last
returns-clause-of_the_last c a b all =
    let front = turn_entry 0 ∷ Air A 37 connectable_packet Passed Good ∷ [] in
    truths_differ (sym (ap is_lost_mark (fate_is (one_turn a b) front Passed scripted_turn refl
    (all front [] A 37 connectable_packet Passed Good refl))))

pub returns-clause-of_its_own : goal.returns-clause-of_its_own
returns-clause-of_its_own c a b all =
    let front = turn_entry 0 ∷ Air A 37 connectable_packet Passed Good ∷ Air A 37 connectable_packet WasLost Missed ∷ [] in
    truths_differ (ap is_lost_mark (fate_is (one_turn a b) front WasLost scripted_turn refl
    (all front [] A 37 connectable_packet WasLost Missed refl)))

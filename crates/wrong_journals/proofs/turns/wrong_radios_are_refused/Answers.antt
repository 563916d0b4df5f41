-- A packet where a radio is off.
use Rattle.std.proofs.Common.{false, [], ◌∷◌, refl, sym, ap}
use Rattle.std.specs.Prelude.{Some, true}
use Rattle.ble_base.specs.declared.roles.Side.TheVariants.{A}
use Rattle.ble_base.specs.declared.verdicts.Verdict.TheVariants.{Good}
use Rattle.journal.specs.declared.entries.Entry.TheVariants.{Turn}
use Rattle.journal.specs.declared.entries.Mark.TheVariants.{Pass as Passed}
use Rattle.run_model.specs.Rows.{connectable_packet}
use Rattle.wrong_journals.specs.Turns.{scripted_turn, without_a, without_b}
use Rattle.wrong_journals.proofs.Differing.{truths_differ}
use Rattle.wrong_journals.proofs.Turning.{is_missed, on_as}
use Rattle.wrong_journals.proofs.turns.wrong_radios_are_refused.Goals as goal

pub returns-clause-sends : goal.returns-clause-sends
returns-clause-sends c a b all =
    let front = Turn 0 false (Some true) ∷ [] in
    truths_differ (sym (on_as (without_a a b) front A Good (record scripted_turn { a_on = false }) refl
    (all front [] A 37 connectable_packet Passed Good refl)).sends)

pub returns-clause-hears : goal.returns-clause-hears
returns-clause-hears c a b all =
    let front = Turn 0 true (Some false) ∷ [] in
    truths_differ (sym (ap is_missed ((on_as (without_b a b) front A Good (record scripted_turn { b_on = false }) refl
    (all front [] A 37 connectable_packet Passed Good refl)).misses refl)))

-- A side is not fed what the schedule feeds it.
use Rattle.std.proofs.Common.{[], ◌∷◌, length, refl, ap}
use Rattle.std.specs.Prelude.{true, Some}
use Rattle.ble_base.specs.declared.roles.Side.TheVariants.{A, B}
use Rattle.journal.specs.declared.entries.Entry.TheVariants.{Fed}
use Rattle.run_model.specs.Rows.{turn_entry}
use Rattle.wrong_journals.proofs.Differing.{numbers_differ}
use Rattle.wrong_journals.proofs.Turning.{first_octet}
use Rattle.wrong_journals.proofs.turns.wrong_feeds_are_refused.Goals as goal

pub returns-clause-another : goal.returns-clause-another
returns-clause-another c a b fed = numbers_differ 3 1 refl (ap first_octet (fed.at_end A))

pub returns-clause-too_much : goal.returns-clause-too_much
returns-clause-too_much c a b fed = numbers_differ 2 1 refl (ap (λ octets. length octets) (fed.at_end A))

pub returns-clause-other_side : goal.returns-clause-other_side
returns-clause-other_side c a b fed = numbers_differ 1 0 refl (ap (λ octets. length octets) (fed.at_end B))

pub returns-clause-late : goal.returns-clause-late
returns-clause-late c a b fed =
    numbers_differ 0 1 refl
    (ap (λ octets. length octets) (fed.each_turn (turn_entry 0 ∷ []) (Fed A (0x01 ∷ 0x03 ∷ []) ∷ []) 1 true (Some true) refl A))

-- Proof of `runs::a_packet_is_forged_only_between_two_keys`.
use Rattle.std.proofs.Common.{◌∷◌, ◌++◌, ap, ◌∙◌}
use Rattle.journal_sealing.specs.journal_controls.run_model.History.{Transmitted}
use Rattle.journal_sealing.proofs.journal_controls.journal_links.OfTwo.{are_distinct}
use Rattle.journal_forgeries.proofs.ForgedLines.{AllDown, AllHear, AllPure, AllUp, forged_line}
use Rattle.journal_forgeries.proofs.runs.a_packet_is_forged_only_between_two_keys.Goals as goal

pub returns : goal.returns
returns c = λ words given stations six gives.
    let distinct = are_distinct given stations in
    let hear : AllHear words given = λ before rest at central peripheral in_central in_peripheral ends.
    c.both_ends_hear_each_other_in_turns.ensures.hear given 0 1 before rest central peripheral stations distinct six in_central in_peripheral at ends in
    let pure : AllPure words given = λ before rest number at unmixed central peripheral ends in_central in_peripheral number_is.
    c.ends_hear_no_mixed_packet_while_their_journal_is_not_mixed.ensures words given before rest central peripheral ends number stations six gives at in_central in_peripheral
    number_is unmixed in
    let down : AllDown words given = λ before rest station channel octets hearings at central peripheral sender in_central in_peripheral ends hears none_mixed.
    λ open_end open_far.
    c.a_packet_is_forged_only_with_other_keys.ensures.peripheral given before rest channel octets hearings central peripheral distinct six in_central in_peripheral
    (at ∙ ap (λ n. before ++ Transmitted n channel octets hearings ∷ rest) sender) ends hears none_mixed open_far open_end in
    let up : AllUp words given = λ before rest station channel octets hearings at central peripheral sender in_central in_peripheral ends hears none_mixed.
    c.a_packet_is_forged_only_with_other_keys.ensures.central given before rest channel octets hearings central peripheral distinct six in_central in_peripheral
    (at ∙ ap (λ n. before ++ Transmitted n channel octets hearings ∷ rest) sender) ends hears none_mixed in
    forged_line words c.a_pdu_is_understood.ensures.says c.connections_are_taken.ensures.taken c.searches_give_each_valid_address.ensures.distinct given stations six
    (λ front rest side channel octets fate verdict. c.links_of_two_stations_keep_to_the_journal.ensures.hearings given front rest side channel octets fate verdict stations six)
    (λ before rest station channel octets hearings. c.links_of_two_stations_keep_to_the_journal.ensures.payloads given before rest station channel octets hearings stations six)
    (λ before rest sender channel octets hearings station handle link is_in at is_open.
    c.the_keys_by_lines_are_those_that_the_end_holds.ensures.before_a_packet words given before rest sender channel octets hearings station handle link stations six gives is_in at
    is_open)
    hear pure down up

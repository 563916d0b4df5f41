-- Proof of `runs::each_verdict_is_that_of_the_lines`.
use Rattle.std.proofs.Common.{◌∷◌, ap, ◌∙◌}
use Rattle.journal_controls.specs.LineSteps.{keyed_on}
use Rattle.journal_controls.specs.run_model.Journal.{journal_of, side_of}
use Rattle.journal_sealing.proofs.Judged.{judged_by_lines}
use Rattle.journal_sealing.proofs.runs.each_verdict_is_that_of_the_lines.Goals as goal

pub returns : goal.returns
returns c = λ words given stations six gives front rest side channel octets fate verdict at off handed.
    let line = c.links_of_two_stations_keep_to_the_journal.ensures.hearings given front rest side channel octets fate verdict stations six at off handed in
    let aired = line.aired in
    let by_end = line.by_end in
    let listener = aired.hearing.listener in
    judged_by_lines words given front side channel octets fate verdict line
    (ap (λ n. keyed_on words (side_of listener) n (journal_of aired.before)) by_end.number_is
    ∙ c.the_keys_by_lines_are_those_that_the_end_holds.ensures.before_a_packet words given aired.before aired.after aired.station channel octets (aired.hearing ∷ aired.others)
    listener by_end.handle by_end.link stations six gives by_end.listens aired.is_at by_end.is_open) handed

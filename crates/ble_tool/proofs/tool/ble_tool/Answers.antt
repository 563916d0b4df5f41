-- Proof of `tool::ble_tool`.
use Rattle.ble_tool.proofs.Lawful.{lawful_ending}
use Rattle.ble_tool.proofs.NoneUnseen.{never_six}
use Rattle.ble_tool.proofs.tool.ble_tool.Goals as goal

pub returns-clause-ending : goal.returns-clause-ending
returns-clause-ending g c =
    lawful_ending
    (record {
      each = c.each_journal_is_lawful.ensures.lawful;
      whole = c.each_journal_is_lawful.ensures.whole;
      stopped = c.each_journal_is_lawful.ensures.stopped;
    }) c.run_words.ensures.ending

pub returns-clause-short : goal.returns-clause-short
returns-clause-short g c = never_six c.short_damage_never_ends_a_run.ensures.pair c.run_words.ensures.ending

-- The rules in the words of the standard, as one record.
use Rattle.std.specs.Prelude.{List}
use Rattle.journal.specs.declared.entries.Entry.{Entry}
pub use Rattle.journal_rules.specs.Sealing.{AllAreSealedInWords}
pub use Rattle.journal_rules.specs.Skipping.{AllHaveLatency, AllSkipInWords, Words}
pub use Rattle.journal_rules.specs.Waiting.{AllAreAtRest, AllGoOutAtOnce, AllNewPdusAreNext, AllTellInWords, AllTellWhatWaits}
pub use Rattle.journal_events.specs.journal_leaving.journal_ends.GivenWords.{GivesWords}
pub use Rattle.journal_events.specs.journal_leaving.run_model.Journal.{journal_of}
pub use Rattle.journal_events.specs.journal_leaving.run_model.Pair.{given_of}
pub use Rattle.journal_events.specs.journal_leaving.run_model.Run.{history_of, run_of}

-- in a journal, by what its lines say was sent, taken, heard and entered
pub record KeepsRules (words : Words) (journal : List Entry) : Type 0 where
  -- MD of a packet is 1 exactly where something waited, as the turn began, after the PDU that the packet carries
  pub md : AllTellInWords words journal
  -- an idle peripheral skips the events after the one in which it heard a good packet last, up to the latency in force
  pub skips : AllSkipInWords words journal
  -- a PDU is sealed exactly where, of LL_START_ENC_REQ and LL_PAUSE_ENC_RSP that a central took and did not ignore, or of
  -- LL_START_ENC_RSP and LL_PAUSE_ENC_RSP of a peripheral, the last is the first of the two; with the number of PDUs since
  pub sealed : AllAreSealedInWords words journal

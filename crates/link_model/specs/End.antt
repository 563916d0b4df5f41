-- One end of a link by what happens to it: what it holds, and what it notes (Core 5.2, volume 6 part B, sections 4.5 and
-- 5).
use Rattle.std.specs.Prelude.{List, [], ◌∷◌, ◌++◌, fold}
use Rattle.ble_base.specs.declared.notes.Note.{Note}
use Rattle.link_model.specs.Setup.{Setup}
use Rattle.link_model.specs.Data.{data_given, data_reported}
use Rattle.link_model.specs.Facts.{Facts, first_facts}
use Rattle.link_model.specs.Controls.{goes_on}
use Rattle.link_model.specs.Step.{Step, DataGiven, ProcedureAsked, RequestAnswered, KeyAnswered, Disconnected, EventEntered, PduFixed, PacketSent, WordsGiven, PacketReceived, DataReported}
use Rattle.link_model.specs.Entering.{entry_notes, facts_entered_if}
use Rattle.link_model.specs.Fixing.{facts_fixed}
use Rattle.link_model.specs.Hosts.{facts_answered, facts_asked, facts_disconnected, facts_key_answered, facts_with_words}
use Rattle.link_model.specs.Packets.{good_pdu, is_forged}
use Rattle.link_model.specs.Receiving.{facts_forged_if, facts_received, received_notes}
use Rattle.link_model.specs.Sending.{facts_sent, sent_notes}

-- ---- step by step

-- what an end holds after a step
abbrev pub facts_after : Setup → Facts → Step → Facts
facts_after setup facts (DataGiven start body) =
    record facts { outgoing = data_given setup.link.handle start body facts.outgoing }
facts_after setup facts (ProcedureAsked ask) = facts_asked ask facts
facts_after setup facts (RequestAnswered answer) = facts_answered answer facts
facts_after setup facts (KeyAnswered key slot) = facts_key_answered key slot facts
facts_after setup facts (Disconnected reason slot) = facts_disconnected reason slot facts
facts_after setup facts (EventEntered slot) = facts_entered_if (goes_on facts) setup slot facts
facts_after setup facts PduFixed = facts_fixed facts
facts_after setup facts (PacketSent slot) = facts_sent slot facts
facts_after setup facts (WordsGiven skd_s iv_s) = facts_with_words skd_s iv_s facts
facts_after setup facts (PacketReceived slot octets room) =
    facts_forged_if (is_forged setup facts octets)
    (facts_received setup.link.role slot room (good_pdu setup facts octets) facts)
facts_after setup facts DataReported = record facts { outgoing = data_reported facts.outgoing }

-- what it notes in a step
abbrev pub notes_after : Setup → Facts → Step → List Note
notes_after setup facts (EventEntered slot) = entry_notes setup slot facts
notes_after setup facts (PacketSent slot) = sent_notes setup facts
notes_after setup facts (PacketReceived slot octets room) =
    received_notes setup slot room (good_pdu setup facts octets) facts
notes_after setup facts other = []

-- ---- all steps so far

unfoldable pub facts_of : Setup → List Step → Facts
facts_of setup past = fold (facts_after setup) (first_facts setup) past

-- all that an end notes in these steps, from these facts on
abbrev pub notes_from : Setup → Facts → List Step → List Note
notes_from setup facts [] = []
notes_from setup facts (step ∷ steps) =
    notes_after setup facts step ++ notes_from setup (facts_after setup facts step) steps

unfoldable pub notes_of : Setup → List Step → List Note
notes_of setup past = notes_from setup (first_facts setup) past

-- The packet at which a run stops by damage is one that is due, as each packet on the air is (Core 5.2, volume 6 part B,
-- section 4.5.9; that the run stops is our choice).
use Rattle.std.specs.Prelude.{◌≡◌, ℕ, false, List}
use Rattle.ble_base.specs.declared.roles.Side.{Side}
use Rattle.journal.specs.declared.entries.Entry.{Entry}
use Rattle.radio_replay.specs.Script.{Script}
use Rattle.journal_moves.specs.Moves.{IsOwed}
use Rattle.journal_moves.specs.journal_wants.Setups.{setups_by}
use Rattle.journal_moves.specs.journal_wants.journal_sending.run_model.Links.{is_advertising}
use Rattle.journal_seals.specs.journal_sealing.SealedLines.{HasPayload}
use Rattle.journal_turns.specs.Stopped.{IsStoppedAt}
use Rattle.journal_words.specs.Drawn.{words_by}
use Rattle.journal_moves.specs.journal_wants.journal_sending.Announced.{announced_pdu, new_pdu_on}
use Rattle.journal_moves.specs.journal_wants.journal_sending.WhatWaits.{TellsWhatWaits}

-- after this journal a side sends these octets as this packet of this turn, and others reach the other side
pub record IsUndelivered (script : Script) (turn packet : ℕ) (sent heard : List ℕ) (journal : List Entry) : Type 0 where
  pub side : Side
  pub channel : ℕ
  pub stopped : IsStoppedAt script side turn packet sent heard journal
  -- it is what its side is to send next, by what has the radio there
  pub owed : IsOwed (words_by script) (setups_by script) journal side channel sent
  -- on a data channel it is a packet of a link, with the PDU and the bits that the lines give, and with the payload
  pub tells : is_advertising channel ≡ false → TellsWhatWaits (words_by script) journal side channel sent
  pub payload : is_advertising channel ≡ false → HasPayload (words_by script) journal side channel sent
  -- and the line of a new PDU in it is the last line of its side
  pub announced : announced_pdu side journal ≡ new_pdu_on journal side channel sent

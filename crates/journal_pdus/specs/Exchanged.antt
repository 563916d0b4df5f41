-- What goes out on the links of a journal and what is taken, line by line (Core 5.2, volume 6 part B, sections 4.5.6
-- and 4.5.9, and volume 4 part E, section 7.7.19).
use Rattle.std.specs.Prelude.{◌≡◌, ℕ, Bool, true, List, ◌∷◌, ◌++◌, Option}
use Rattle.ble_base.specs.declared.ErrCode.{ErrCode}
use Rattle.ble_base.specs.declared.roles.Side.{Side}
use Rattle.journal.specs.declared.entries.Entry.{Entry}
use Rattle.journal.specs.declared.entries.Entry.TheVariants.{Turn, Sent, Shut}
use Rattle.journal_moves.specs.journal_wants.journal_sending.journal_acks.Carried.{IsNewPdu}
use Rattle.journal_moves.specs.journal_wants.journal_sending.journal_controls.journal_ends.Asked.{Words}
use Rattle.journal_moves.specs.journal_wants.journal_sending.journal_leaving.Reasons.{packets_passed}
use Rattle.journal_moves.specs.journal_wants.journal_sending.Announced.{AllGoOutAtOnce}
use Rattle.journal_moves.specs.journal_wants.journal_sending.NextPdus.{AllNewPdusAreNext}
use Rattle.journal_moves.specs.journal_wants.journal_sending.Pending.{AllAreTakenAtOnce}
use Rattle.journal_moves.specs.journal_wants.journal_sending.Resting.{AllAreAtRest}
use Rattle.journal_moves.specs.journal_wants.journal_sending.WhatWaits.{AllTellWhatWaits}
use Rattle.journal_pdus.specs.Settled.{AreSettled, IsSettled}

-- each new PDU that is not empty comes after all PDUs before it are acknowledged
abbrev pub AllAreNew : List Entry → Type 0
AllAreNew journal = (front rest : List Entry) (side : Side) (link count llid : ℕ) (body : List ℕ)
    → journal ≡ front ++ Sent side link count llid body ∷ rest
    → IsNewPdu link front side (record { llid = llid; body = body })

-- before each turn all that is taken is handed up, or as much of it as its host can take, and all that is complete is
-- reported
abbrev pub AllAreSettled : List Entry → Type 0
AllAreSettled journal = (front rest : List Entry) (slot : ℕ) (a_on : Bool) (b_on : Option Bool)
    → journal ≡ front ++ Turn slot a_on b_on ∷ rest → AreSettled front

-- where a link is shut after the packets of a turn, all that is taken is handed up before, or as much of it as its host can
-- take, and all that is complete is reported
abbrev pub AllAreSettledAsShut : List Entry → Type 0
AllAreSettledAsShut journal = (front rest : List Entry) (side : Side) (link : ℕ) (reason : ErrCode)
    → journal ≡ front ++ Shut side link reason ∷ rest → packets_passed front ≡ true → IsSettled link side front

pub record PdusAreDue (words : Words) (journal : List Entry) : Type 0 where
  pub new : AllAreNew journal
  pub next : AllNewPdusAreNext words journal
  pub tell_what_waits : AllTellWhatWaits words journal
  pub go_out_at_once : AllGoOutAtOnce journal
  pub taken_at_once : AllAreTakenAtOnce words journal
  pub at_rest : AllAreAtRest words journal
  pub settled : AllAreSettled journal
  pub settled_as_shut : AllAreSettledAsShut journal

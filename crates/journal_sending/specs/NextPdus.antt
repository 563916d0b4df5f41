-- Each line of a new PDU is of the PDU that is next by the lines before it (Core 5.2, volume 6 part B, sections 2.4,
-- 4.5.9 and 4.5.10; the order is our choice).
use Rattle.std.specs.Prelude.{◌≡◌, ℕ, ◌+◌, List, ◌∷◌, ◌++◌, length, Some}
use Rattle.ble_base.specs.declared.roles.Side.{Side}
use Rattle.journal.specs.declared.entries.Entry.{Entry}
use Rattle.journal.specs.declared.entries.Entry.TheVariants.{Sent}
use Rattle.journal_leaving.specs.journal_data.Delivered.{host_buffers}
use Rattle.journal_leaving.specs.journal_data.Lines.{lines_of, pdus_on}
use Rattle.journal_leaving.specs.link_model.Acknowledgement.{Pdu}
use Rattle.journal_fixing.specs.journal_controls.journal_ends.Asked.{Words}
use Rattle.journal_fixing.specs.NextPdu.{pdu_next, piece_limit}
use Rattle.journal_fixing.specs.OnLines.{control_fixing, control_going}
use Rattle.journal_fixing.specs.link_model.keyed_control.Keyed.{Keyed}
use Rattle.journal_sending.specs.Outgoing.{piece_by_lines}

-- a new PDU that a side sends after these entries is the one that is next, and has the next number: by its end as the
-- PDU was fixed, by its end as a control PDU leaves the queue, and by the next piece of data, cut at the effective length
-- with which the PDU was fixed. `words` are those that a side would draw after any lines
pub record IsNextPdu (words : Words) (link : ℕ) (front : List Entry) (side : Side) (count : ℕ) (pdu : Pdu) : Type 0 where
  pub fixing : Keyed
  pub fixing_is : control_fixing words side link front ≡ Some fixing
  pub going : Keyed
  pub going_is : control_going words side link front ≡ Some going
  pub next : pdu ≡ pdu_next fixing going (piece_by_lines side link front (piece_limit fixing))
  pub numbered : count ≡ length (pdus_on link (lines_of host_buffers side front).sent) + 1

-- so is each in a journal
abbrev pub AllNewPdusAreNext : Words → List Entry → Type 0
AllNewPdusAreNext words journal = (front rest : List Entry) (side : Side) (link count llid : ℕ) (body : List ℕ)
    → journal ≡ front ++ Sent side link count llid body ∷ rest
    → IsNextPdu words link front side count (record { llid = llid; body = body })

-- Which PDU an end sends next, and whether MD says that a further one waits, by its procedures and its phase as the turn
-- began in which it sends, and by its data (Core 5.2, volume 6 part B, sections 2.4, 4.5.6, 4.5.9, 4.5.10 and 5.1.3; the
-- order, and when each is looked at, are our choice).
use Rattle.std.specs.Prelude.{◌≡◌, ℕ, ◌||◌, ◌&&◌, nat_lt, Bool, false, not, length, Option, if◌then◌else◌}
use Rattle.acl_banks.specs.declared.pieces.Piece.{Piece}
use Rattle.journal_controls.specs.KeyedLines.{has_next}
use Rattle.journal_controls.specs.link_model.Acknowledgement.{Pdu, empty_pdu}
use Rattle.journal_controls.specs.link_model.Controls.{is_terminate, pdu_of_control}
use Rattle.journal_controls.specs.link_model.Data.{Data, data_in, next_piece, pdu_with, unsent_of}
use Rattle.journal_controls.specs.link_model.Facts.{Facts}
use Rattle.journal_controls.specs.link_model.control_end.Answers.{next_ctrl}
use Rattle.journal_controls.specs.link_model.control_end.Held.{held_of}
use Rattle.journal_controls.specs.link_model.keyed_control.Keyed.{Keyed}
use Rattle.journal_controls.specs.link_model.phased_control.Phased.{is_quiet_now}
use Rattle.journal_controls.specs.link_model.procedure_stages.Closing.{is_disconnecting}
use Rattle.journal_controls.specs.link_model.procedure_stages.Queue.{waiting_in}
use Rattle.journal_controls.specs.link_model.procedure_values.Limits.{tx_of}

-- ---- as the turn begins

-- the most octets of a piece of data: the effective length that is transmitted (section 4.5.10)
abbrev pub piece_limit : Keyed → ℕ
piece_limit k = tx_of k.phased.control.table.lengths

-- data goes in phase Clear or Secure alone (section 5.1.3), and none once the host has ended the link (our choice)
abbrev pub lets_data_go : Keyed → Bool
lets_data_go k = is_quiet_now k.phased && not (is_disconnecting k.phased.control.table.closing)

abbrev pub data_pdu_next : Keyed → Option Piece → Pdu
data_pdu_next k piece = if lets_data_go k then pdu_with piece else empty_pdu

-- ---- as the PDU leaves

-- the control PDU that goes next in this phase, made as it goes
abbrev pub control_pdu_next : Keyed → Pdu
control_pdu_next going = pdu_of_control (next_ctrl (is_quiet_now going.phased) (held_of going.phased.control))

-- a new PDU: where a control PDU waited as the turn began, the one that goes next now, else the piece of data that was
-- next then, else an empty PDU
abbrev pub pdu_next : Keyed → Keyed → Option Piece → Pdu
pdu_next fixing going piece =
    if has_next fixing then control_pdu_next going else data_pdu_next fixing piece

-- ---- MD (section 4.5.6)

-- octets of data wait that were not sent
abbrev pub data_waits : Data → Bool
data_waits outgoing = nat_lt 0 (length (unsent_of outgoing))

-- octets of data wait that were not sent before and are not in this PDU
abbrev pub data_waits_after : Pdu → Data → Bool
data_waits_after pdu outgoing = nat_lt (length (data_in pdu)) (length (unsent_of outgoing))

-- with a new PDU: with a control PDU, where another one waits, also one that may not go yet, or data that the phase lets
-- go; with data, where octets wait that this PDU does not have
abbrev pub more_with_new : Keyed → Bool → Bool
more_with_new fixing waits =
    if has_next fixing
    then nat_lt 1 (waiting_in fixing.phased.control.table.queue) || (is_quiet_now fixing.phased && waits)
    else lets_data_go fixing && waits

-- nothing is sent after this PDU: LL_TERMINATE_IND of a Disconnect
abbrev pub is_last_of_all : Keyed → Pdu → Bool
is_last_of_all k pdu = is_disconnecting k.phased.control.table.closing && is_terminate pdu

-- with a PDU that is sent again: where a control PDU waited that may go, or data; after LL_TERMINATE_IND also where a
-- control PDU waited that never goes, or data in phase Clear or Secure
abbrev pub more_with_old : Keyed → Pdu → Bool → Bool
more_with_old fixing last waits =
    if is_last_of_all fixing last
    then nat_lt 0 (waiting_in fixing.phased.control.table.queue) || (is_quiet_now fixing.phased && waits)
    else has_next fixing || (lets_data_go fixing && waits)

-- ---- what an end holds once it has fixed its next PDU, by what it was and by its data as it did so

pub record IsFixedBy (fixing : Keyed) (outgoing : Data) (facts : Facts) : Type 0 where
  -- the PDU that is fixed is the next control PDU where one waited, and is made as it goes
  pub control : facts.fixes_control ≡ has_next fixing
  -- else it is that of the next piece of data
  pub pdu : has_next fixing ≡ false → facts.outgoing.fixed ≡ data_pdu_next fixing (next_piece outgoing)
  pub more : facts.outgoing.more
      ≡ more_with_new fixing (data_waits_after (pdu_next fixing fixing (next_piece outgoing)) outgoing)
  -- MD with the last PDU, where that is sent again
  pub again : facts.outgoing.more_again ≡ more_with_old fixing facts.acknowledgement.last (data_waits outgoing)

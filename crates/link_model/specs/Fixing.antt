-- As a turn begins, an end fixes the PDU that it sends next (Core 5.2, volume 6 part B, sections 2.4 and 4.5.6; the order
-- is our choice).
use Rattle.std.specs.Prelude.{ℕ, nat_lt, ◌||◌, ◌&&◌, Bool, false, not, [], Option, is_some, if◌then◌else◌}
use Rattle.acl_banks.specs.declared.pieces.Piece.{Piece}
use Rattle.phased_end.specs.control_end.procedure_stages.Closing.{is_disconnecting}
use Rattle.phased_end.specs.control_end.procedure_stages.Queue.{waiting_in}
use Rattle.phased_end.specs.control_end.procedure_values.Limits.{tx_of}
use Rattle.link_model.specs.Acknowledgement.{empty_pdu}
use Rattle.link_model.specs.Data.{Data, data_fixed, is_control, next_piece}
use Rattle.link_model.specs.Facts.{Facts}
use Rattle.link_model.specs.Controls.{is_quiet_now, is_terminate, next_control}

-- its data, cut into pieces of at most the effective length (section 4.5.10)
abbrev pub data_cut : Facts → Data
data_cut facts = record facts.outgoing { limit = tx_of facts.control.table.lengths }

-- a control PDU goes before all data. MD is 1 where another control PDU waits, also one that may not be sent yet, or data
-- that the phase lets go
abbrev pub control_fixed : ℕ → Bool → Data → Data
control_fixed waiting quiet outgoing =
    record outgoing { fixed = empty_pdu; more = nat_lt 1 waiting || (quiet && is_some (next_piece outgoing)) }

abbrev pub nothing_fixed : Data → Data
nothing_fixed outgoing = record outgoing { fixed = empty_pdu; more = false }

-- data goes in phase Clear or Secure alone, and none once the host has ended the link (section 5.1.3, and our choice)
abbrev pub data_goes : Facts → Bool
data_goes facts = is_quiet_now facts && not (is_disconnecting facts.control.table.closing)

-- else the next piece of data goes, or an empty PDU. MD is 1 where octets of data wait after that piece
abbrev pub data_fixed_if : Bool → Data → Data
data_fixed_if goes outgoing = if goes then data_fixed [] [] outgoing else nothing_fixed outgoing

abbrev pub data_fixed_by : Bool → ℕ → Bool → Bool → Data → Data
data_fixed_by control waiting quiet goes outgoing =
    if control then control_fixed waiting quiet outgoing else data_fixed_if goes outgoing

-- ---- where the last PDU is sent again

-- the last PDU is LL_TERMINATE_IND of a Disconnect that was accepted: nothing is sent after it
abbrev pub is_last_of_all : Facts → Bool
is_last_of_all facts = is_disconnecting facts.control.table.closing && is_terminate facts.acknowledgement.last

-- MD is 1 where the PDU that is fixed is not empty. After LL_TERMINATE_IND it is 1 where a control PDU waits, or data in
-- phase Clear or Secure, although it never goes (section 4.5.6; that this counts is our choice)
abbrev pub waits_again : (ends control goes quiet : Bool) → ℕ → Option Piece → Bool
waits_again ends control goes quiet waiting piece =
    if ends then nat_lt 0 waiting || (quiet && is_some piece) else control || (goes && is_some piece)

abbrev pub is_more_again : Facts → Bool
is_more_again facts =
    waits_again (is_last_of_all facts) (is_some (next_control facts)) (data_goes facts) (is_quiet_now facts)
    (waiting_in facts.control.table.queue) (next_piece (data_cut facts))

-- ---- all of it

abbrev pub fixed_anew : Facts → Facts
fixed_anew facts =
    record facts {
      fixes_control = is_some (next_control facts);
      outgoing =
          record (data_fixed_by (is_some (next_control facts)) (waiting_in facts.control.table.queue)
          (is_quiet_now facts) (data_goes facts) (data_cut facts)) { more_again = is_more_again facts };
    }

-- a control PDU that has left the queue and is not sent stays the one that is fixed
abbrev pub facts_fixed : Facts → Facts
facts_fixed facts = if is_control facts.outgoing.fixed then facts else fixed_anew facts

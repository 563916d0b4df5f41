-- What an end holds as it fixes the PDU that it sends next (Core 5.2, volume 6 part B, sections 2.4 and 4.5.6).
use Rattle.std.specs.Prelude.{ℕ, nat_lt, ◌||◌, ◌&&◌, Bool, false, not, Option, is_some, if◌then◌else◌}
use Rattle.acl_banks.specs.declared.pieces.Piece.{Piece}
use Rattle.procedures.specs.procedure_stages.Closing.{is_disconnecting}
use Rattle.procedures.specs.procedure_stages.Queue.{waiting_in}
use Rattle.procedures.specs.procedure_values.Limits.{tx_of}
use Rattle.control_end.specs.Answers.{next_ctrl}
use Rattle.link_model.specs.phased_end.Answers.{quiet_now}
use Rattle.link_model.specs.Acknowledgement.{Pdu, empty_pdu}
use Rattle.link_model.specs.Controls.{is_terminate}
use Rattle.link_model.specs.Data.{is_control, pdu_with}
use Rattle.link_model.specs.Fixing.{waits_again}
use Rattle.link_end.specs.Held.{Held}

-- the most octets of a piece: the effective length that it transmits (section 4.5.10)
abbrev pub limit_of : Held → ℕ
limit_of held = tx_of held.control.control.table.lengths

-- a control PDU may be sent, which goes before data (our choice)
abbrev pub control_is_next : Held → Bool
control_is_next held = is_some (next_ctrl (quiet_now held.control) held.control.control)

-- data goes in phase Clear or Secure alone, and none once the host has ended the link (section 5.1.3, and our choice)
abbrev pub data_goes : Held → Bool
data_goes held = quiet_now held.control && not (is_disconnecting held.control.control.table.closing)

-- the PDU that is fixed, by the next piece of data; a control PDU is made only as it is sent (our choice)
abbrev pub pdu_fixed_by : Bool → Bool → Option Piece → Pdu
pdu_fixed_by control goes next = if control then empty_pdu else (if goes then pdu_with next else empty_pdu)

-- a further PDU waits: after a control PDU another one, or data that the phase lets go; after a piece octets that are
-- left (section 4.5.6)
abbrev pub more_fixed_by : Bool → ℕ → Bool → Bool → Option Piece → Bool → Bool
more_fixed_by control waiting quiet goes next left =
    if control then nat_lt 1 waiting || (quiet && is_some next) else (if goes then left else false)

-- nothing is sent after the last PDU: it is LL_TERMINATE_IND of a Disconnect
abbrev pub is_last_of_all : Held → Bool
is_last_of_all held = is_disconnecting held.control.control.table.closing && is_terminate held.last

abbrev pub held_fixed_anew : Option Piece → Bool → Held → Held
held_fixed_anew next left held =
    record held {
      fixed = pdu_fixed_by (control_is_next held) (data_goes held) next;
      fixes_control = control_is_next held;
      more =
          more_fixed_by (control_is_next held) (waiting_in held.control.control.table.queue) (quiet_now held.control)
          (data_goes held) next left;
      more_again =
          waits_again (is_last_of_all held) (control_is_next held) (data_goes held) (quiet_now held.control)
          (waiting_in held.control.control.table.queue) next;
    }

-- a control PDU that has left the queue and is not sent stays the one that is fixed (our choice)
abbrev pub held_fixed : Option Piece → Bool → Held → Held
held_fixed next left held = if is_control held.fixed then held else held_fixed_anew next left held

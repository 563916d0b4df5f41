-- A bank that has the data of an end of a link, and what the calls on an end need of a bank.
use Rattle.std.specs.Prelude.{◌≡◌, ◌≢◌, ℕ, ◌+◌, ◌<◌, ◌&&◌, not, Bool, true, None, IfSome, is_some, length, if◌then◌else◌}
use Rattle.std.specs.List.{filter}
use Rattle.acl_banks.specs.Packets.{is_of}
use Rattle.acl_banks.specs.Banks.{Bank, bank_after_acked, bank_after_went, credits_of, is_completed, next_piece, packet_out}
use Rattle.link_model.specs.Data.{Data, is_data, pdu_with}
use Rattle.link_end.specs.Held.{Held}

-- a bank has this data under a handle: the packets that are not complete, and how many are and were not reported
pub record HoldsData (handle : ℕ) (bank : Bank) (outgoing : Data) : Type 0 where
  pub packets : filter (is_of handle) bank.packets ≡ outgoing.packets
  pub complete : credits_of bank handle ≡ outgoing.complete

-- what the calls on an end need of a bank
pub record IsTied (held : Held) (bank : Bank) : Type 0 where
  -- a piece of the link is out exactly where the PDU that was sent last is data and is not acknowledged
  pub out : is_some (packet_out bank held.setup.link.handle) ≡ (not held.is_acked && is_data held.last)
  -- where the fixed PDU is data, it still is the next piece, cut at its own length
  pub next : is_data held.fixed ≡ true
      → pdu_with (next_piece bank held.setup.link.handle (length held.fixed.body)) ≡ held.fixed

-- the last good packet was received before this slot
abbrev pub IsBefore : Held → ℕ → Type 0
IsBefore held slot = IfSome held.last_good (λ good. good.slot < slot)

-- the links under other handles have what they had
abbrev pub LeavesOthers : ℕ → Bank → Bank → Type 0
LeavesOthers handle before after =
    (other : ℕ) → other ≢ handle → (filter (is_of other) after.packets ≡ filter (is_of other) before.packets)
    × (credits_of after other ≡ credits_of before other)

-- a bank after the next piece of a link went out, of this number of octets, or none did
abbrev pub bank_went_if : Bool → Bank → ℕ → ℕ → Bank
bank_went_if went bank handle count = if went then bank_after_went bank handle count else bank

-- a bank after the piece that was out was acknowledged, or was not
abbrev pub bank_acked_if : Bool → Bank → ℕ → Bank
bank_acked_if acked bank handle = if acked then bank_after_acked bank handle else bank

-- the same with what it leaves under the handle
pub record IsAfterAck (acked : Bool) (handle : ℕ) (before after : Bank) : Type 0 where
  pub bank : after ≡ bank_acked_if acked before handle
  pub none_out : acked ≡ true → packet_out after handle ≡ None
  pub counted : acked ≡ true → credits_of after handle
      ≡ (if is_completed (packet_out before handle) then credits_of before handle + 1 else credits_of before handle)

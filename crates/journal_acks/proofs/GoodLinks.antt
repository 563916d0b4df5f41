-- The slot of the last good packet that an end received.
use Rattle.std.proofs.Common.{ℕ, Option, Some, None}
use Rattle.journal_packets.specs.link_model.declared.events.Reception.{Reception}

abbrev pub slot_of : Option Reception → Option ℕ
slot_of None = None
slot_of (Some good) = Some good.slot

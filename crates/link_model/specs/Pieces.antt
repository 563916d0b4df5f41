-- The piece of data for the host in a PDU (Core 5.2, volume 6 part B, section 2.4.1).
use Rattle.std.specs.Prelude.{ℕ, ◌==◌, Bool, List, [], ◌∷◌, if◌then◌else◌}
use Rattle.acl_banks.specs.declared.pieces.Piece.{Piece}
use Rattle.link_model.specs.Acknowledgement.{Pdu}

-- a PDU with LLID 2 starts a message of the host
abbrev pub piece_in : Pdu → Piece
piece_in pdu = record { start = pdu.llid == 2; body = record { items = pdu.body } }

-- it is kept under its handle, or is not
abbrev pub kept_if : Bool → ℕ → Pdu → List (ℕ × Piece)
kept_if keeps handle pdu = if keeps then (handle, piece_in pdu) ∷ [] else []

-- What a packet says of the first piece that waits.
use Rattle.std.proofs.Common.{◌≡◌, ℕ, List, [], ◌∷◌, ap, sym, ◌∙◌}
use Rattle.std.specs.Prelude.{slice_index_or}
use Rattle.journal_data.specs.HostLines.{OpenUnder}
use Rattle.wire_fields.specs.Field.{little_endian}
use Rattle.journal_hosts.specs.HostOrder.{IsOfFirst, LinkPiece, piece_packet}

-- the octets are those of the first piece, under some handle
pub of_first : (piece : LinkPiece) (waiting : List LinkPiece) (links : List OpenUnder) (octets : List ℕ) (of : IsOfFirst (piece ∷ waiting) links octets)
    → octets ≡ piece_packet of.handle piece
of_first piece waiting links octets of =
    let same : piece ≡ of.piece = let all : piece ∷ [] ≡ of.piece ∷ [] = of.first in cc in
    of.octets_are ∙ ap (piece_packet of.handle) (sym same)

-- the octet of data of a packet of a piece with one octet
pub last_octet : (piece : LinkPiece) (waiting : List LinkPiece) (links : List OpenUnder) (octets : List ℕ) (one other : ℕ) → piece.body ≡ one ∷ []
    → slice_index_or octets 5 0 ≡ other → IsOfFirst (piece ∷ waiting) links octets → other ≡ one
unfolding little_endian
last_octet piece waiting links octets one other body at of =
    sym at ∙ ap (λ (all : List ℕ). slice_index_or all 5 0) (of_first piece waiting links octets of) ∙ ap (λ (all : List ℕ). slice_index_or all 0 0) body

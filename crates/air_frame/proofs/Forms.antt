-- Octets that have the form of a PDU.
use Rattle.std.proofs.Common.{◌≡◌, ◌↔◌, ℕ, ◌+◌, ◌≤◌, List, length, slice_index, arith}
use Rattle.std.proofs.lemmas.Bool.Decides.{nat_tests}
use Rattle.air_frame.specs.Packet.{IsPdu}

pub form_is_a_count : (pdu : List ℕ) → IsPdu pdu ↔ ((2 ≤ length pdu) × (length pdu ≤ 257) × (length pdu ≡ 2 + slice_index pdu 1))
form_is_a_count pdu = (
  λ form. (grind (arith, nat_tests), grind (arith, nat_tests), grind (arith, nat_tests)),
  λ counts. let header = counts.0 in let fits = counts.1 in let counted = counts.2 in grind (arith, nat_tests),
)

pub form-fits : (pdu : List ℕ) → IsPdu pdu → length pdu ≤ 257
form-fits pdu form = ((form_is_a_count pdu).0 form).1

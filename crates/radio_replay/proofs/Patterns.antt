-- Patterns in hexadecimal digits.
use Rattle.std.proofs.Common.{◌≡◌, ℕ, ◌/◌, ◌*◌, false, List, length, None, Ok, Err, refl, arith}
use Rattle.std.specs.Prelude.{Result, ◌&&◌, nat_le}
use Rattle.std.specs.Result.{result_ok}
use Rattle.hex.specs.declared.error.FromHexError.{FromHexError}
use Rattle.hex.specs.Hex.{decode_of}
use Rattle.hex.proofs.HexLemmas.{decode_of-ok}
use Rattle.ble_base.specs.declared.limits.TheConstants.{AIR_PACKET_OCTETS}
use Rattle.radio_replay.specs.FateWord.{pattern_in, pattern_octets}

no_pattern_in : (digits : List ℕ) (read : Result (List ℕ) FromHexError) → decode_of digits ≡ read
    → (nat_le 1 (length digits / 2) && nat_le (length digits / 2) AIR_PACKET_OCTETS) ≡ false → None ≡ pattern_octets (result_ok read)
no_pattern_in digits (Err fault) e wrong = refl
no_pattern_in digits (Ok octets) e wrong =
    let twice : length digits ≡ 2 * length octets = (decode_of-ok digits octets e).2 in
    let half : length octets ≡ length digits / 2 = omega arith in
    rw (half, wrong) refl

-- digits of no octet, or of more than a packet has, are no pattern
pub no_pattern : (digits : List ℕ) → (nat_le 1 (length digits / 2) && nat_le (length digits / 2) AIR_PACKET_OCTETS) ≡ false
    → None ≡ pattern_in digits
no_pattern digits wrong = no_pattern_in digits (decode_of digits) refl wrong

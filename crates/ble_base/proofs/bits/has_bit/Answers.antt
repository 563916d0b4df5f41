-- Proof of `bits::has_bit`.
use Rattle.std.proofs.Common.{arith}
use Rattle.std.proofs.lemmas.Bool.Decides.{nat_tests}
use Rattle.std.proofs.lemmas.Nat.Bits.{bit_at_above}
use Rattle.ble_base.proofs.bits.has_bit.Goals as goal

pub returns-else-place-lt64 : goal.returns-else-place-lt64
returns-else-place-lt64 c =
    let none = bit_at_above c.args.bits 64 c.args.place c.ranges.bits.fits c.if-place-lt64.false in rw none (grind (arith, nat_tests))

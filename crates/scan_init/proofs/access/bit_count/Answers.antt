-- Answers of `access::bit_count`.
use Rattle.std.proofs.Common.{arith}
use Rattle.scan_init.proofs.Bits.{bits_are_counted}
use Rattle.scan_init.proofs.access.bit_count.Goals as goal

pub returns : goal.returns
returns c = bits_are_counted c.args.bits (omega arith)

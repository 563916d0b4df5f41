-- The proof of `reversed_octet`.
use Rattle.std.proofs.Common.{◌∙◌}
use Rattle.chan_select.proofs.Octets.{reverse_bits-octet}
use Rattle.chan_select.proofs.pseudo_random.reversed_octet.Goals as goal

pub returns : goal.returns
returns c = c.reverse_bits.ensures ∙ reverse_bits-octet c.args.octet

-- Proof of `laws::numbers_of_the_sample_data`: the definitions compute.
use Rattle.std.proofs.Common.{refl}
use Rattle.chan_select.specs.PseudoRandom.{mam, perm, prn, reversed_octet, stage}
use Rattle.chan_select.proofs.laws.numbers_of_the_sample_data.Goals as goal

pub returns : goal.returns
unfolding mam perm prn reversed_octet stage
returns c = record { identifier = refl; numbers = (refl, refl, refl, refl) }

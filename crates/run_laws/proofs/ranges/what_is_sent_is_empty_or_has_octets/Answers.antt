-- Proof of `ranges::what_is_sent_is_empty_or_has_octets`.
use Rattle.run_laws.proofs.Pieces.{fixed_whole}
use Rattle.run_laws.proofs.ranges.what_is_sent_is_empty_or_has_octets.Goals as goal

pub returns : goal.returns
returns c = fixed_whole

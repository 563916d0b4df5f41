-- Proof of `ranges::packets_are_understood_on_their_channel`.
use Rattle.run_laws.proofs.Pieces.{ranged_understand, sent_readable}
use Rattle.run_laws.proofs.ranges.packets_are_understood_on_their_channel.Goals as goal

pub returns-clause-readable : goal.returns-clause-readable
returns-clause-readable c = sent_readable

pub returns-clause-understood : goal.returns-clause-understood
returns-clause-understood c = ranged_understand c.a_sealed_packet_is_opened.ensures.opened c.a_sealed_packet_is_opened.ensures.fits

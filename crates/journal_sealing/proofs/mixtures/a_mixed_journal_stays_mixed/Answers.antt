-- Proof of `mixtures::a_mixed_journal_stays_mixed`.
use Rattle.journal_sealing.proofs.Mixed.{front_unmixed, mixed_parts, unmixed_at}
use Rattle.journal_sealing.proofs.mixtures.a_mixed_journal_stays_mixed.Goals as goal

pub returns : goal.returns
returns c = record { more = mixed_parts; front = front_unmixed; each = unmixed_at }

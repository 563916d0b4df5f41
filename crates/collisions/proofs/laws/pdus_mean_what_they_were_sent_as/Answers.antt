-- The proof of the law `pdus_mean_what_they_were_sent_as`.
use Rattle.collisions.proofs.Collisions.{meant}
use Rattle.collisions.proofs.laws.pdus_mean_what_they_were_sent_as.Goals as goal

pub returns : goal.returns
returns c = meant

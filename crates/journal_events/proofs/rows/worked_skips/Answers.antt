-- Proof of `rows::worked_skips`: the definitions compute.
use Rattle.std.proofs.Common.{refl}
use Rattle.journal_events.proofs.rows.worked_skips.Goals as goal

pub returns : goal.returns
returns c = record {
  next = refl;
  later = refl;
  busy = refl;
  central = refl;
  never = refl;
  new_latency = refl;
  not_the_old = λ is. absurd cc;
  by_the_new = refl;
  continues = refl;
  long = refl;
  changed = refl;
  two = refl;
  four = refl;
}

-- Proof of `open_ends::all_links_stay_known`.
use Rattle.host_asks.proofs.OpenLinksKnown.{links_known, step_may}
use Rattle.host_asks.proofs.open_ends.all_links_stay_known.Goals as goal

pub returns-clause-may : goal.returns-clause-may
returns-clause-may c = step_may

pub returns-clause-keeps : goal.returns-clause-keeps
returns-clause-keeps c = links_known

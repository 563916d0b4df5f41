-- Proof of `lines::without_changes_events_follow_the_connect_ind`.
use Rattle.std.proofs.Common.{refl}
use Rattle.journal_links.proofs.EnterLines.{plain_anchors}
use Rattle.journal_links.proofs.lines.without_changes_events_follow_the_connect_ind.Goals as goal

pub returns : goal.returns
returns c = record { anchor = λ link event. plain_anchors link event; channel = λ link event. refl }

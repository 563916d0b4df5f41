-- Proof of `hearings::each_taken_link_is_heard`.
use Rattle.journal_hearings.proofs.OpenedHeard.{taken_links_heard}
use Rattle.journal_hearings.proofs.hearings.each_taken_link_is_heard.Goals as goal

pub returns : goal.returns
returns c = λ given stations six. taken_links_heard given stations six

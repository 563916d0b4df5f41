-- Proof of `messages::say`.
use Rattle.journal_tool.proofs.Growth.{is_said}
use Rattle.journal_tool.proofs.messages.say.Goals as goal

pub returns : goal.returns
returns g c = is_said c.put_parts.ensures

-- Proof of `tool::read_text`.
use Rattle.journal_tool.proofs.Counts.{few_lines}
use Rattle.journal_tool.proofs.tool.read_text.Goals as goal

pub returns-in-Ok-clause-few : goal.returns-in-Ok-clause-few
returns-in-Ok-clause-few c =
    few_lines c.in-Ok.journal c.args.octets.now (record { lines = c.in-Ok.ensures.ok; fits = c.requires })

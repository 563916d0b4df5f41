-- Proof of `ends::LinkEnd::judge`.
use Rattle.link_end.proofs.Heard.{judged}
use Rattle.link_end.proofs.ends.LinkEnd.judge.Goals as goal

pub returns : goal.returns
returns c = λ setup past knows. judged setup c.args.self.now past c.args.octets.now c.verdict.result c.verdict.ensures knows

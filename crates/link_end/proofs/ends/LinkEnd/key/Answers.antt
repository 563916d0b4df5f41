-- Proof of `ends::LinkEnd::key`.
use Rattle.link_end.proofs.Hosted.{key_holds, key_known, key_tied}
use Rattle.link_end.proofs.ends.LinkEnd.key.Goals as goal

pub returns-clause-knows : goal.returns-clause-knows
returns-clause-knows c = λ setup past knows. key_known setup c.args.self.now past knows c.args.ltk c.args.slot.0 _ c.answer_key.ensures.held

pub returns-clause-holds : goal.returns-clause-holds
returns-clause-holds c = λ setup past bank holds. key_holds setup past bank holds c.args.ltk c.args.slot.0

pub returns-clause-tied : goal.returns-clause-tied
returns-clause-tied c = key_tied c.args.ltk c.args.slot.0 c.args.self.now _ c.answer_key.ensures.held

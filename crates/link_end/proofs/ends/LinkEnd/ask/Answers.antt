-- Proof of `ends::LinkEnd::ask`.
use Rattle.link_end.proofs.Hosted.{asked_good, asked_holds, asked_known, asked_setup, asked_tied}
use Rattle.link_end.proofs.ends.LinkEnd.ask.Goals as goal

pub returns-clause-knows : goal.returns-clause-knows
returns-clause-knows c = λ setup past knows. asked_known setup c.args.self.now past knows c.args.ask _ c.ask_unless_to_come.ensures.held

pub returns-clause-holds : goal.returns-clause-holds
returns-clause-holds c = λ setup past bank holds. asked_holds setup past bank holds c.args.ask

pub returns-clause-tied : goal.returns-clause-tied
returns-clause-tied c = asked_tied c.args.ask c.args.self.now _ c.ask_unless_to_come.ensures.held

pub returns-clause-handle : goal.returns-clause-handle
returns-clause-handle c = asked_setup c.args.ask c.args.self.now _ c.ask_unless_to_come.ensures.held

pub returns-clause-last_good : goal.returns-clause-last_good
returns-clause-last_good c = asked_good c.args.ask c.args.self.now _ c.ask_unless_to_come.ensures.held

-- Proof of `ends::LinkEnd::ready`.
use Rattle.link_end.specs.Fixing.{limit_of}
use Rattle.link_end.proofs.Fixed.{fixed, fixed_holds}
use Rattle.link_end.proofs.Tying.{fixed_tied}
use Rattle.link_end.proofs.ends.LinkEnd.ready.Goals as goal

pub returns-clause-knows : goal.returns-clause-knows
returns-clause-knows g c = λ setup past knows holds. fixed setup _ _ past c.args.tx.now c.fix.ensures knows holds

pub returns-clause-holds : goal.returns-clause-holds
returns-clause-holds g c = λ setup past holds. fixed_holds setup past c.args.tx.now holds

pub returns-clause-tied : goal.returns-clause-tied
returns-clause-tied g c = fixed_tied (limit_of c.args.self.now) _ _ _ c.args.tx.now c.fix.ensures c.requires.tied

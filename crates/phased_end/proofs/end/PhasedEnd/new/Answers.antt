-- The proof of `PhasedEnd::new`: a new end is reached.
use Rattle.std.proofs.Common.{rules, sym, subst}
use Rattle.phased_end.specs.Reached.{IsReached}
use Rattle.phased_end.proofs.Reached.{begins_reached}
use Rattle.phased_end.proofs.end.PhasedEnd.new.Goals as goal

pub returns-clause-new : goal.returns-clause-new
returns-clause-new c = search (rules)

pub returns-clause-reached : goal.returns-clause-reached
returns-clause-reached c =
    subst IsReached (sym (returns-clause-new c))
    (begins_reached c.args.role c.args.max_rx c.args.first c.args.anchor.0 c.requires.octets c.requires.latency)

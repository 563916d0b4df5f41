-- The proof of `ControlEnd::owe`: the two parts fit together after it.
use Rattle.std.proofs.Common.{rules}
use Rattle.control_end.proofs.Kept.{owed_fits}
use Rattle.control_end.proofs.end.ControlEnd.owe.Goals as goal

pub invariant_of-self : goal.invariant_of-self
invariant_of-self c =
    let fits = owed_fits (record { table = c.self.inside.table; track = c.self.inside.track; ends = c.self.inside.ends })
    c.args.ctrl c.self.invariant in
    search (rules, fits)

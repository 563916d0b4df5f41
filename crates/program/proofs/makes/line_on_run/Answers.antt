-- Proof of `makes::line_on_run`.
use Rattle.program.proofs.makes.line_on_run.Goals as goal

pub returns : goal.returns
returns c =
    rw (c.turns.ensures.count, c.links_in.ensures, c.octets_received.ensures, c.octets_received-2.ensures) at c.counts_line.ensures

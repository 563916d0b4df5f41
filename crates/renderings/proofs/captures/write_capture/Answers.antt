-- Proof of `captures::write_capture`.
use Rattle.std.proofs.Common.{[]}
use Rattle.capture.specs.Capture.{blocks_after}
use Rattle.journal_tool.proofs.Growth.{written_handed_on, written_no_more, written_then}
use Rattle.renderings.proofs.captures.write_capture.Goals as goal

pub returns-in_err-write_start : goal.returns-in_err-write_start
returns-in_err-write_start g c =
    written_handed_on c.from_residual.ensures.1 (written_no_more (blocks_after [] c.args.entries.now) c.in_err-write_start.ensures)

pub returns : goal.returns
returns g c = written_then c.in_ok-write_start.ensures c.write_packets.ensures

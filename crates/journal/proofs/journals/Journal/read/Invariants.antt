-- Invariants of `journals::Journal::read`.
use Rattle.std.proofs.Common.{◌+◌, ◌≤◌, length}
use Rattle.journal.proofs.Divisions.{IsRead}
use Rattle.journal.proofs.journals.Journal.read.Given as goal

abbrev pub invariant-loop-rest : goal.invariant-loop-rest
invariant-loop-rest l = record {
  read : IsRead l.octets l.journal l.rest;
  size : length l.journal + length l.rest ≤ length l.octets;
}

abbrev pub decreases-loop-rest : goal.decreases-loop-rest
decreases-loop-rest l = length l.rest

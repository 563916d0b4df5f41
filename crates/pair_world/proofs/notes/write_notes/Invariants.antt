-- Invariants of `notes::write_notes`.
use Rattle.std.proofs.Common.{◌≡◌, take}
use Rattle.pair_world.specs.Logs.{entries_noted, known_after, with_entries}
use Rattle.pair_world.proofs.notes.write_notes.Given as goal

abbrev pub invariant-loop-note : goal.invariant-loop-note
invariant-loop-note l = record {
  log : l.log ≡ with_entries (entries_noted l.side l.fn.links (take l.note-index l.fn.out.items)) l.fn.log;
  links : l.links ≡ known_after l.fn.links (take l.note-index l.fn.out.items);
}

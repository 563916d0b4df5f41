-- Invariants of `reading::read_files`.
use Rattle.std.proofs.Common.{◌≡◌, ℕ, List, ◌≤◌, ◌-◌, length, map, take}
use Rattle.std.specs.Prelude.{vec_items, vec_len}
use Rattle.program.specs.Commands.{files_of}
use Rattle.program.specs.Reading.{AreRead}
use Rattle.program.specs.World.{reads_of}
use Rattle.program.proofs.reading.read_files.Given as goal

-- the files before the next one were read
abbrev pub invariant-loop-file : goal.invariant-loop-file
invariant-loop-file g l = record {
  read : AreRead (reads_of g.F.Files.content g.F.Files.is_reliable g.F.Files.faults l.fn.files l.files)
      (take (vec_len l.contents) (files_of l.command)) (map vec_items l.contents.items);
  contents : (name : List ℕ) → g.F.Files.content l.files name ≡ g.F.Files.content l.fn.files name;
  counts : (name : List ℕ) → g.F.Files.faults l.fn.files name ≤ g.F.Files.faults l.files name;
  stays_reliable : (name : List ℕ) → g.F.Files.is_reliable l.fn.files name → g.F.Files.is_reliable l.files name;
}

abbrev pub decreases-loop-file : goal.decreases-loop-file
decreases-loop-file g l = length (files_of l.command) - vec_len l.contents

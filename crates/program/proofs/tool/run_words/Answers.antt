-- Proof of `tool::run_words`.
use Rattle.std.proofs.Common.{rules, ◌≡◌, ℕ, List, Some, map, refl, inl}
use Rattle.std.specs.Prelude.{string_bytes}
use Rattle.program.specs.Claims.{of_runs}
use Rattle.program.specs.Commands.{command_of}
use Rattle.program.specs.Status.{Done, Failed}
use Rattle.program.specs.World.{world_of, reads_of, writes_of}
use Rattle.program.proofs.Completeness.{done_as_none_rose, done_as_reliable}
use Rattle.program.proofs.Growth.{grew_by_none}
use Rattle.program.proofs.Named.{ending_by_words}
use Rattle.program.proofs.tool.run_words.Goals as goal

pub returns-in-Ok-clause-ending : goal.returns-in-Ok-clause-ending
returns-in-Ok-clause-ending g c =
    let words : List (List ℕ) = map string_bytes c.args.words.now.items in
    let is : command_of words ≡ Some c.in-Some.command = search rules in
    ending_by_words of_runs words c.in-Some.command
    (world_of (reads_of g.F.Files.content g.F.Files.is_reliable g.F.Files.faults _ _)
    (writes_of g.O.Sink.written g.O.Sink.is_reliable g.O.Sink.faults _ _))
    _ Done 0 is refl c.in-Ok.ensures.ok (inl (grew_by_none _))

pub returns-in-Err-clause-ending : goal.returns-in-Err-clause-ending
returns-in-Err-clause-ending g c =
    let words : List (List ℕ) = map string_bytes c.args.words.now.items in
    let is : command_of words ≡ Some c.in-Some.command = search rules in
    ending_by_words of_runs words c.in-Some.command
    (world_of (reads_of g.F.Files.content g.F.Files.is_reliable g.F.Files.faults _ _)
    (writes_of g.O.Sink.written g.O.Sink.is_reliable g.O.Sink.faults _ _))
    _ (Failed c.in-Err.fault) _ is c.status.ensures c.in-Err.ensures.err c.report.ensures

pub returns-in-Err-clause-complete : goal.returns-in-Err-clause-complete
returns-in-Err-clause-complete g c =
    λ command is can none. done_as_none_rose (returns-in-Err-clause-ending g c) command is can none

pub returns-in-Err-clause-reliable : goal.returns-in-Err-clause-reliable
returns-in-Err-clause-reliable g c =
    λ command is can reliable. done_as_reliable (returns-in-Err-clause-ending g c) command is can reliable

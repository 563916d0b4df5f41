-- Proof of `tool::journal_tool`.
use Rattle.std.proofs.Common.{map}
use Rattle.std.specs.Prelude.{string_bytes}
use Rattle.journal_tool.specs.Causes.{seen_of}
use Rattle.journal_tool.specs.Endings.{only_word}
use Rattle.journal_tool.specs.Writing.{Says}
use Rattle.journal_tool.proofs.Named.{failed_by_words}
use Rattle.journal_tool.proofs.tool.journal_tool.Goals as goal

pub returns-in-Err-clause-ending : goal.returns-in-Err-clause-ending
returns-in-Err-clause-ending g c =
    failed_by_words (g.R.Rendering.octets c.args.rendering.now) c.args.program.now (only_word (map string_bytes c.args.words.now))
    c.in-Some.name.now
    (λ name. seen_of g.F.Files.content g.F.Files.faults g.F.Files.is_reliable c.args.files.now c.perform.new.files name
    g.O.Sink.written g.O.Sink.faults g.O.Sink.is_reliable c.args.out.now c.perform.new.out)
    (Says g.E.Sink.written g.E.Sink.faults g.E.Sink.wants_memory c.args.err.now c.say_fault.new.err)
    c.in-Err.fault c.status.result c.in-Some.ensures c.in-Err.ensures.err c.say_fault.ensures c.status.ensures

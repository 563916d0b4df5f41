-- Proof of `messages::say_fault`.
use Rattle.journal_tool.proofs.messages.say_fault.Goals as goal

pub returns-in-CannotRead : goal.returns-in-CannotRead
returns-in-CannotRead g c = rw (c.in-CannotRead.is, ← c.as_bytes.ensures.value) c.say.ensures

pub returns-in-BadLine : goal.returns-in-BadLine
returns-in-BadLine g c = rw c.in-BadLine.is c.say_line_number.ensures

pub returns-in-CannotWrite : goal.returns-in-CannotWrite
returns-in-CannotWrite g c = rw c.in-CannotWrite.is c.say-in-CannotWrite.ensures

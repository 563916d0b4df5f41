-- Proof of `messages::report`.
use Rattle.program.proofs.messages.report.Goals as goal

pub returns-in-CannotRead : goal.returns-in-CannotRead
returns-in-CannotRead g c = rw (c.in-CannotRead.is, ← c.name_at.ensures, ← c.as_bytes.ensures.value) c.say.ensures

pub returns-in-BadLine : goal.returns-in-BadLine
returns-in-BadLine g c = rw (c.in-BadLine.is, ← c.word_at.ensures) c.say_file_line.ensures

pub returns-in-CannotWrite : goal.returns-in-CannotWrite
returns-in-CannotWrite g c = rw c.in-CannotWrite.is c.say-in-CannotWrite.ensures

pub returns-in-Unseen : goal.returns-in-Unseen
returns-in-Unseen g c = rw (c.in-Unseen.is, ← c.as_slice.ensures, ← c.as_slice-in-Unseen.ensures) c.say_unseen.ensures

pub returns-in-TooLong : goal.returns-in-TooLong
returns-in-TooLong g c =
    rw (c.in-TooLong.is, ← c.name_at-in-TooLong.ensures, ← c.as_bytes-in-TooLong.ensures.value) c.say-in-TooLong.ensures

pub returns-in-TooManyTurns : goal.returns-in-TooManyTurns
returns-in-TooManyTurns g c = rw (c.in-TooManyTurns.is, ← c.word_at-in-TooManyTurns.ensures) c.say_file_line-in-TooManyTurns.ensures

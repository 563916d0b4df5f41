-- Proof of `fate_words::read_pattern`.
use Rattle.std.proofs.Common.{sym}
use Rattle.radio_replay.proofs.Patterns.{no_pattern}
use Rattle.radio_replay.proofs.fate_words.read_pattern.Goals as goal

pub returns-then-not-is_pattern_size : goal.returns-then-not-is_pattern_size
returns-then-not-is_pattern_size c = no_pattern c.args.digits.now (sym c.if-not-is_pattern_size.ensures)

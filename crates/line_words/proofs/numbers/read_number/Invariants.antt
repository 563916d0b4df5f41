-- Invariants of `numbers::read_number`.
use Rattle.std.proofs.Common.{◌≡◌, ◌≤◌, drop}
use Rattle.line_words.specs.Numbers.{number_from, number_in, in_range}
use Rattle.line_words.proofs.numbers.read_number.Given as goal

abbrev pub invariant-loop-digit : goal.invariant-loop-digit
invariant-loop-digit l = record {
  small : l.number ≤ l.most;
  rest : in_range l.least l.most (number_from l.number (drop l.digit-index l.word)) ≡ in_range l.least l.most (number_in l.word);
}

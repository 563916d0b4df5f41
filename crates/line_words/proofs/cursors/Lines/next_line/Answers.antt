-- Proof of `cursors::Lines::next_line`.
use Rattle.std.proofs.Common.{sym, refl}
use Rattle.std.specs.Option.{option_copied}
use Rattle.line_words.proofs.Separators.{first_line}
use Rattle.line_words.proofs.cursors.Lines.next_line.Goals as goal

pub returns-clause-first : goal.returns-clause-first
returns-clause-first c =
    let lines = first_line c.self.inside.text.now c.cut.result.0.now (option_copied c.cut.result.1) (sym c.if-is_empty.ensures) c.cut.ensures in
    rw (← c.self.view_is, lines) refl

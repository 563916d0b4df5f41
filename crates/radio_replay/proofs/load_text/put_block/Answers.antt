-- Proof of `load_text::put_block`.
use Rattle.std.proofs.Common.{ap, ◌∙◌, ◌++◌}
use Rattle.radio_replay.specs.LoadSchedule.{event_turn, feeding_turn, turn_line, turns_between}
use Rattle.radio_replay.specs.Spelling.{run_line}
use Rattle.radio_replay.proofs.LoadLines.{run_text, three_lines}
use Rattle.radio_replay.proofs.load_text.put_block.Goals as goal

pub returns : goal.returns
returns c =
    three_lines _ _ _ _ (turn_line (feeding_turn c.args.block)) (turn_line (event_turn c.args.number c.args.block)) (run_line turns_between)
    c.in_ok-put_feeding.ensures
    (c.in_ok-extend_from_slice.ensures.items ∙ ap (λ xs. c.put_feeding.new.text.items ++ xs) c.event_line.ensures)
    (c.in_ok-extend_from_slice-2.ensures.items ∙ ap (λ xs. c.extend_from_slice.new.self.items ++ xs) run_text)

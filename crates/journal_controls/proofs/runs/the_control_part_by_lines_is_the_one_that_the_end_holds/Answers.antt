-- Proof of `runs::the_control_part_by_lines_is_the_one_that_the_end_holds`.
use Rattle.std.proofs.Common.{ap}
use Rattle.std.specs.Option.{option_map}
use Rattle.journal_ends.specs.link_model.keyed_control.Keyed.{Keyed}
use Rattle.journal_controls.specs.LineSteps.{control_on}
use Rattle.journal_controls.proofs.runs.the_control_part_by_lines_is_the_one_that_the_end_holds.Goals as goal

-- it is that part of the keys
pub returns : goal.returns
unfolding control_on
returns c =
    let keys = c.the_keys_by_lines_are_those_that_the_end_holds.ensures in record {
      before_a_call = λ words given before rest step station handle link are six gives contains at is_open.
          ap (option_map (λ (k : Keyed). k.phased.control)) (keys.before_a_call words given before rest step station handle link are six gives contains at is_open);
      before_a_packet = λ words given before rest sender channel octets hearings station handle link are six gives contains at is_open.
          ap (option_map (λ (k : Keyed). k.phased.control))
          (keys.before_a_packet words given before rest sender channel octets hearings station handle link are six gives contains at is_open);
      before_a_turn = λ words given before rest slot radios station handle link are six gives contains at is_open.
          ap (option_map (λ (k : Keyed). k.phased.control)) (keys.before_a_turn words given before rest slot radios station handle link are six gives contains at is_open);
      at_the_end = λ words given station handle link are six gives contains is_open.
          ap (option_map (λ (k : Keyed). k.phased.control)) (keys.at_the_end words given station handle link are six gives contains is_open);
    }

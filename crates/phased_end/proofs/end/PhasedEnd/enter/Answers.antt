-- The proof of `PhasedEnd::enter`: the encryption that begins is the first that the host wants.
use Rattle.std.proofs.Common.{rules}
use Rattle.keyed_control.specs.KeyedSteps.{Enters}
use Rattle.phased_end.proofs.Entered.{entered_as, enters_as}
use Rattle.phased_end.proofs.Reached.{reached_as}
use Rattle.phased_end.proofs.Steps.{enters_encrypting}
use Rattle.phased_end.proofs.end.PhasedEnd.enter.Goals as goal

pub returns-then-is_encrypt-clause-step : goal.returns-then-is_encrypt-clause-step
returns-then-is_encrypt-clause-step c =
    let same = enters_encrypting c.args.slot.0 c.args.self.now in
    search (rules, same)

pub returns-then-is_encrypt-clause-reached : goal.returns-then-is_encrypt-clause-reached
returns-then-is_encrypt-clause-reached c =
    reached_as (Enters c.args.slot.0) c.args.self.now _ tt (returns-then-is_encrypt-clause-step c) c.requires.reached

pub returns-else-is_encrypt-clause-step : goal.returns-else-is_encrypt-clause-step
returns-else-is_encrypt-clause-step c = search (rules)

pub returns-else-is_encrypt-clause-reached : goal.returns-else-is_encrypt-clause-reached
returns-else-is_encrypt-clause-reached c =
    reached_as (Enters c.args.slot.0) c.args.self.now _ tt (returns-else-is_encrypt-clause-step c) c.requires.reached

pub returns-then-is_encrypt-clause-entered : goal.returns-then-is_encrypt-clause-entered
returns-then-is_encrypt-clause-entered c =
    entered_as (Enters c.args.slot.0) c.args.self.now _ tt c.requires.reached
    (returns-then-is_encrypt-clause-step c)

pub returns-then-is_encrypt-clause-enters : goal.returns-then-is_encrypt-clause-enters
returns-then-is_encrypt-clause-enters c = enters_as c.args.slot.0 c.args.self.now _ c.requires.reached (returns-then-is_encrypt-clause-step c)

pub returns-else-is_encrypt-clause-entered : goal.returns-else-is_encrypt-clause-entered
returns-else-is_encrypt-clause-entered c =
    entered_as (Enters c.args.slot.0) c.args.self.now _ tt c.requires.reached
    (returns-else-is_encrypt-clause-step c)

pub returns-else-is_encrypt-clause-enters : goal.returns-else-is_encrypt-clause-enters
returns-else-is_encrypt-clause-enters c = enters_as c.args.slot.0 c.args.self.now _ c.requires.reached (returns-else-is_encrypt-clause-step c)

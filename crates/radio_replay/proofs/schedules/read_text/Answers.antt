-- Proof of `schedules::read_text`.
use Rattle.std.proofs.Common.{[], sym, arith}
use Rattle.std.proofs.lemmas.List.Elements.{All-nil}
use Rattle.radio_replay.specs.Script.{CanBeFed}
use Rattle.radio_replay.proofs.Facts.{held}
use Rattle.radio_replay.proofs.Settings.{err_of, fault_of_settings, fault_of_turns, right_text}
use Rattle.radio_replay.proofs.schedules.read_text.Goals as goal

pub returns-in_err-a-clause-err : goal.returns-in_err-a-clause-err
returns-in_err-a-clause-err c =
    err_of _ c.in_err-a.field-0.0 _ c.from_residual.ensures.1
    (fault_of_settings c.args.octets.now c.in_err-a.field-0.0 (sym (rw c.of-lines.ensures at c.in_err-a.ensures.value)))

pub returns-in_err-turns-clause-err : goal.returns-in_err-turns-clause-err
returns-in_err-turns-clause-err c =
    err_of _ c.in_err-turns.field-0.0 _ c.from_residual-in_err-turns.ensures.1
    (fault_of_turns c.args.octets.now (c.in_ok-a.a, c.in_ok-a.b) c.read_settings.new.lines c.in_err-turns.field-0.0
    (sym (rw c.of-lines.ensures at c.in_ok-a.ensures.value)) (rw c.of-lines.ensures at c.in_ok-a.ensures.rest) c.in_err-turns.ensures.err)

pub returns-clause-ok : goal.returns-clause-ok
returns-clause-ok c =
    right_text c.args.octets.now (c.in_ok-a.a, c.in_ok-a.b) c.read_settings.new.lines c.in_ok-turns.turns.items
    (sym (rw c.of-lines.ensures at c.in_ok-a.ensures.value)) (rw c.of-lines.ensures at c.in_ok-a.ensures.rest) c.in_ok-turns.ensures.ok

pub invariant_of-result : goal.invariant_of-result
invariant_of-result c =
    let all = held 4 [] c.read_settings.new.lines c.in_ok-turns.turns.items (omega arith) (All-nil CanBeFed) c.in_ok-turns.ensures.ok in all.0

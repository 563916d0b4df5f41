-- The proof of `host_completed`.
use Rattle.std.proofs.Common.{◌≡◌, ◌*◌, length, arith, sym, ◌∙◌}
use Rattle.std.proofs.lemmas.Bool.{eqb-false, eqb-true}
use Rattle.hci_cmd.specs.declared.command.Command.TheVariants.{HostCompleted}
use Rattle.hci_cmd.proofs.Counts.{completed_bad, completed_known}
use Rattle.hci_cmd.proofs.rows.host_completed.Goals as goal

pub returns-then-is_empty : goal.returns-then-is_empty
returns-then-is_empty c =
    completed_bad c.args.fields (λ len short. let none = c.is_empty.ensures.0 c.if-is_empty.true in absurd (omega arith))

pub returns-then-handles-gt-MOST_HANDLES : goal.returns-then-handles-gt-MOST_HANDLES
returns-then-handles-gt-MOST_HANDLES c = completed_bad c.args.fields (λ len short. absurd (omega arith))

pub returns-then-not-has_exactly : goal.returns-then-not-has_exactly
returns-then-not-has_exactly c =
    completed_bad c.args.fields (λ len short.
    let same : length c.u8-handles.new.self ≡ 4 * c.u8-handles.result = omega arith in
    absurd (eqb-false _ _ (sym c.has_exactly.ensures.value ∙ c.if-not-has_exactly.true) same))

pub returns : goal.returns
returns c =
    completed_known c.args.fields c.u8-handles.new.self c.u8-handles.result (HostCompleted c.counts.result)
    c.u8-handles.ensures.value c.u8-handles.ensures.new c.u8-handles.ensures.rest (eqb-true _ _ (sym c.has_exactly.ensures.value ∙ c.if-not-has_exactly.false)) (omega arith) c.counts.ensures

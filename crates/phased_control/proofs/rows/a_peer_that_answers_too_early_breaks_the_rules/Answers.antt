-- The proof of `a_peer_that_answers_too_early_breaks_the_rules`.
use Rattle.std.proofs.Common.{◌≡◌, Option, Some, None, refl, arith}
use Rattle.ble_base.specs.declared.procedure_kinds.Kind.{Kind}
use Rattle.ble_base.specs.declared.procedure_kinds.Kind.TheVariants.{Encrypt}
use Rattle.phased_control.proofs.rows.a_peer_that_answers_too_early_breaks_the_rules.Goals as goal

none_runs : ◌≡◌ {A = Option Kind} None (Some Encrypt) → ⊥
none_runs h = absurd (cc)

pub returns : goal.returns
returns c map may = none_runs (may.1.1.1.1.1.1.1.0 refl (omega arith))

-- A PDU that is not foreign to an end is taken as one that has a meaning there.
use Rattle.std.proofs.Common.{◌≡◌, ℕ, Bool, true, false, if◌then◌else◌, Option, Some, None, refl}
use Rattle.data_pdu.specs.declared.ctrl.Ctrl.{Ctrl}
use Rattle.data_pdu.specs.Reading.{opcode_of}
use Rattle.procedure_stages.specs.Foreign.{foreign_opcode, is_foreign}
use Rattle.procedure_stages.specs.Kinds.{role_of}
use Rattle.procedures.specs.Outcomes.{unknown}
use Rattle.procedures.specs.Table.{TableFacts}
use Rattle.procedures.specs.Taking.{taken_by_role, taken_by}

pub known : (f : TableFacts) (quiet : Bool) (ctrl : Ctrl) → foreign_opcode (role_of f.progress) ctrl ≡ None
    → taken_by_role f.progress f quiet ctrl ≡ taken_by f.progress f quiet ctrl
known f quiet ctrl none = by (is_foreign (role_of f.progress) ctrl) none
  where
    by : (b : Bool) → ◌≡◌ {A = Option ℕ} (if b then Some (opcode_of ctrl) else None) None
        → taken_by_role f.progress f quiet ctrl ≡ (if b then unknown f (opcode_of ctrl) else taken_by_role f.progress f quiet ctrl)
    by true h = absurd (cc)
    by false h = refl

-- Lemmas on tests, control PDUs and outcomes that several files use.
use Rattle.std.proofs.Common.{◌≡◌, Bool, true, false, not, ◌||◌, Option, Some, None, if◌then◌else◌, refl, ap}
use Rattle.data_pdu.specs.declared.ctrl.Ctrl.{Ctrl}
use Rattle.joint_parameters.specs.procedure_stages.declared.steps.Step.{Step}
use Rattle.joint_parameters.specs.procedures.Table.{TableFacts}

pub not_true : (b : Bool) → not b ≡ true → b ≡ false
not_true true is = absurd (cc)
not_true false is = refl

-- a premise of a law that is a test
pub implied : (a b : Bool) → (not a || b) ≡ true → a ≡ true → b ≡ true
implied true b is given = is
implied false b is given = absurd (cc)

pub some_ctrl : {A B : Ctrl} → Some A ≡ Some B → A ≡ B
some_ctrl {A} {B} is = ap (λ (x : Option Ctrl). elim x as (λ y. Ctrl) [ Some c ↦ c | None ↦ A ]) is

-- what becomes of a table as a PDU is taken: it stays where there is no room or the link ends
abbrev pub settled_of : Bool → Bool → TableFacts → TableFacts → Step → Step → Step → TableFacts × Step
settled_of a b f k x y z = (if a then (f, x) else (if b then (f, y) else (k, z)))

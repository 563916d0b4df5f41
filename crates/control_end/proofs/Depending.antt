-- A step depends on what an end holds, and not on what it sent.
use Rattle.std.proofs.Common.{◌≡◌, Bool, true, false, ◌&&◌, if◌then◌else◌, List, [], ◌∷◌, Option, Some, None, is_none, refl, ap, ◌∙◌}
use Rattle.ble_base.specs.declared.error_codes.ErrCode.{ErrCode}
use Rattle.ble_base.specs.declared.roles.Role.{Role}
use Rattle.ble_base.specs.declared.roles.Role.TheVariants.{Central, Peripheral}
use Rattle.instants.specs.declared.indications.Indication.{Indication}
use Rattle.control_model.specs.procedures.procedure_values.Drafts.{is_out}
use Rattle.control_model.specs.procedures.procedure_stages.Closing.{is_open}
use Rattle.control_model.specs.procedures.procedure_stages.InProgress.{is_host_asked}
use Rattle.control_model.specs.procedures.procedure_stages.Kinds.{role_of}
use Rattle.control_model.specs.procedures.Going.{is_answer}
use Rattle.control_model.specs.procedures.Table.{TableFacts}
use Rattle.control_model.specs.procedures.Taking.{took_step}
use Rattle.control_model.specs.Control.{Control, Step, Enters, Asks, Answers, Disconnects, Sends, SeesAcknowledged, Takes, Owes, after, after_all, following, goes_out, indicated_by, is_to_come, moved, table_if, taken, went}
use Rattle.control_end.specs.Held.{control_of, held_after, held_after_all, held_of}

-- what it sent may be any list
abbrev apart : Control → Control
apart c = control_of (held_of c)

by_test : (b : Bool) (c d : Control) → held_of c ≡ held_of d → (e g : Control) → held_of e ≡ held_of g
    → held_of (if b then c else e) ≡ held_of (if b then d else g)
by_test true c d same e g other = same
by_test false c d same e g other = other

table_same : (b : Bool) (g : TableFacts) (c : Control) → held_of (table_if b g c) ≡ held_of (table_if b g (apart c))
table_same true g c = refl
table_same false g c = refl

follows_same : (role : Role) (indication : Option Indication) (c : Control)
    → held_of (following role indication c) ≡ held_of (following role indication (apart c))
follows_same Central None c = refl
follows_same Central (Some indication) c = refl
follows_same Peripheral indication c = refl

takes_same : (g : TableFacts) (ends : Option ErrCode) (indication : Option Indication) (c : Control)
    → held_of (taken g ends indication c) ≡ held_of (taken g ends indication (apart c))
takes_same g (Some code) indication c = refl
takes_same g None None c = refl
takes_same g None (Some indication) c = by_test (is_to_come c.track indication) _ _ refl _ _ refl

moves_same : (step : Step) (c : Control) → held_of (moved step c) ≡ held_of (moved step (apart c))
moves_same (Enters slot quiet) c = refl
moves_same (Asks ask) c = refl
moves_same (Answers answer) c = table_same (is_host_asked c.table.progress && is_answer answer) _ c
moves_same (Disconnects reason) c = table_same (is_open c.table.closing) _ c
moves_same (Sends slot quiet) c =
    by_test (goes_out quiet c) _ _
    (follows_same (role_of c.table.progress) (went slot quiet c).1 (record c { table = (went slot quiet c).0 })) _ _ refl
moves_same SeesAcknowledged c = table_same (is_out c.table.out) _ c
moves_same (Takes read slot quiet) c =
    let r = took_step c.table read slot quiet in takes_same r.0 r.1.ends (indicated_by r.1.effect) c
moves_same (Owes ctrl) c = refl

pub step_held : (step : Step) (c : Control) → held_of (after step c) ≡ held_after step (held_of c)
step_held step c = by_test (is_none c.ends) _ _ (moves_same step c) _ _ refl

pub steps_held : (steps : List Step) (c : Control) → held_of (after_all steps c) ≡ held_after_all steps (held_of c)
steps_held [] c = refl
steps_held (step ∷ steps) c =
    steps_held steps (after step c) ∙ ap (λ h. held_after_all steps h) (step_held step c)

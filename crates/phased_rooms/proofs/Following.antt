-- An indication that an end with its phase sends can be followed by it.
use Rattle.std.proofs.Common.{ℕ, ◌≤◌, Bool, List, sym, subst}
use Rattle.std.specs.Prelude.{IfSome}
use Rattle.ble_base.specs.declared.roles.Role.{Role}
use Rattle.instants.specs.declared.indications.Params.{Params}
use Rattle.phased_control.specs.control_model.Control.{Control}
use Rattle.phased_control.specs.Ends.{AllAskInRange}
use Rattle.phased_control.specs.Phased.{first_phased}
use Rattle.phased_control.specs.Steps.{all_control_steps}
use Rattle.phased_control.specs.Taken.{PhasedStep, phased_after_all}
use Rattle.phased_control.proofs.Indicating.{in_range}
use Rattle.phased_control.proofs.Moving.{but_end}
use Rattle.control_end.specs.Answers.{indication_next}
use Rattle.control_end.specs.Following.{CanFollow}
use Rattle.control_end.specs.Held.{held_of}
use Rattle.control_end.proofs.Sendable.{can_follow}

-- it moves by steps of procedures and parameters, but for the end of the link
pub follows_now : (role : Role) (max_rx : ℕ) (first : Params) (slot : ℕ) (steps : List PhasedStep) (now : ℕ)
    (quiet : Bool)
    → first.latency ≤ 499 → AllAskInRange steps
    → let s = phased_after_all steps (first_phased role max_rx first slot) in
    IfSome (indication_next now quiet (held_of s.control)) (CanFollow s.control.track)
follows_now role max_rx first slot steps now quiet latency are =
    subst (λ (c : Control). IfSome (indication_next now quiet (held_of c)) (CanFollow c.track))
    (sym (but_end role max_rx first slot steps))
    (can_follow role max_rx first slot (all_control_steps steps (first_phased role max_rx first slot)) now quiet latency
    (in_range steps (first_phased role max_rx first slot) are))

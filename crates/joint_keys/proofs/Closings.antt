-- In each state of a joint run an end in Clear or Secure that is to end the link does so as its host disconnects. So data
-- goes there while no LL_TERMINATE_IND is queued, which is while its host has not disconnected.
use Rattle.std.proofs.Common.{◌≡◌, ℕ, Bool, true, false, not, ◌&&◌, ◌||◌, List, refl, sym, ap, subst, ◌∙◌}
use Rattle.enc_phase.specs.Phases.{is_quiet}
use Rattle.instants.specs.declared.indications.Params.{Params}
use Rattle.machines.specs.Machine.{run}
use Rattle.phase_pairs.specs.declared.joint.PhaseEvent.{PhaseEvent}
use Rattle.phase_pairs.specs.declared.joint.PhaseLink.{PhaseLink}
use Rattle.phase_pairs.specs.declared.peripheral.PhaseClosing.{PhaseClosing}
use Rattle.phase_pairs.specs.declared.peripheral.PhaseClosing.TheVariants.{Disconnects, HasNoKey, Open}
use Rattle.phase_pairs.specs.JointRun.{encryption}
use Rattle.phase_pairs.specs.Peripheral.{is_closing_open, is_disconnecting as is_pair_disconnecting}
use Rattle.phased_control.specs.Phased.{Phased, is_open_now, is_quiet_now}
use Rattle.phased_control.specs.procedure_stages.declared.closing.Closing.{Closing}
use Rattle.phased_control.specs.procedure_stages.Closing.{is_disconnecting, is_open}
use Rattle.joint_controls.specs.Joint.{Joint, JointStep, after_all, beginning, is_running}
use Rattle.joint_phases.specs.Events.{events_of}
use Rattle.joint_phases.specs.Parts.{IsShown, closing_down, closing_up}
use Rattle.joint_laws.specs.Runs.{IsRun}
use Rattle.joint_laws.proofs.PhaseLaws.{now_of}
use Rattle.joint_keys.proofs.SealedWays.{closing_right, is_closing_right}

-- the two rules are one
abbrev pub GoesAlike : Phased → Type 0
GoesAlike s = (is_quiet_now s && not (is_disconnecting s.control.table.closing)) ≡ (is_quiet_now s && is_open_now s)

abbrev Alike : Bool → Closing → Type 0
Alike quiet closing = (quiet && not (is_disconnecting closing)) ≡ (quiet && is_open closing)

alike_down : (quiet closed : Bool) → Alike quiet (closing_down closed)
alike_down quiet true = refl
alike_down quiet false = refl

alike_up : (quiet : Bool) (closing : PhaseClosing) → (is_closing_open closing || (is_pair_disconnecting closing || not quiet)) ≡ true → Alike quiet (closing_up closing)
alike_up quiet Open right = refl
alike_up quiet Disconnects right = refl
alike_up true HasNoKey right = absurd (cc)
alike_up false HasNoKey right = refl

pub goes_alike : (s : Joint) (m : PhaseLink) (events : List PhaseEvent) → m ≡ run encryption events → IsShown s m → GoesAlike s.central × GoesAlike s.peripheral
goes_alike s m events reached is =
    let right : is_closing_right m ≡ true = ap is_closing_right reached ∙ closing_right events in (
      subst (Alike (is_quiet_now s.central)) (sym is.central.closing) (alike_down (is_quiet_now s.central) m.central.closed),
      subst (Alike (is_quiet_now s.peripheral)) (sym is.peripheral.closing)
          (alike_up (is_quiet_now s.peripheral) m.peripheral.closing
          ((λ i. is_closing_open m.peripheral.closing || (is_pair_disconnecting m.peripheral.closing || not (is_quiet (is.peripheral.phase i)))) ∙ right)),
    )

-- in each joint run
pub goes_alike_now : (central_rx peripheral_rx : ℕ) (first : Params) (slot : ℕ) (steps : List JointStep) → IsRun first steps
    → let s = after_all steps (beginning central_rx peripheral_rx first slot) in
    is_running s ≡ true → GoesAlike s.central × GoesAlike s.peripheral
goes_alike_now central_rx peripheral_rx first slot steps is running =
    let start = beginning central_rx peripheral_rx first slot in
    goes_alike (after_all steps start) (run encryption (events_of steps start)) (events_of steps start) refl
    (now_of central_rx peripheral_rx first slot steps is running).shown

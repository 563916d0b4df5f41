-- Joint runs up to a state in which they go on: each step is its moves, and each end sends PDUs of its role.
use Rattle.std.proofs.Common.{◌≡◌, ℕ, Bool, true, false, ◌&&◌, if◌then◌else◌, List, [], ◌∷◌, is_some, refl}
use Rattle.std.proofs.lemmas.Bool.{and_parts}
use Rattle.instants.specs.declared.indications.Params.{Params}
use Rattle.joint_controls.specs.Joint.{CentralAcked, CentralEnters, CentralHost, CentralSends, CentralSendsData, CentralTakes, Joint, JointStep, PeripheralAcked, PeripheralEnters, PeripheralFixes, PeripheralFixesData, PeripheralHost, PeripheralSends, PeripheralTakes, Shuts, act, after, after_all, beginning, is_clear, is_running, is_taken, item_on_air, may, may_act, may_transmit}
use Rattle.joint_exchanges.specs.JointMoves.{moves_of}
use Rattle.joint_exchanges.specs.Parts.{parts_of}
use Rattle.joint_exchanges.proofs.CentralKeeps.{KeepsForLater}
use Rattle.joint_exchanges.specs.Runs.{AllBefore, moves_in}
use Rattle.joint_exchanges.specs.SentByRole.{AreOfRoles, HaveMeaning}
use Rattle.joint_exchanges.proofs.JointRoles.{roles_after}
use Rattle.joint_exchanges.proofs.JointSteps.{Runs, central_acked, central_enters, central_hosts, central_sends_data, central_sends_one, peripheral_acked, peripheral_enters, peripheral_fixes_data, peripheral_fixes_one, peripheral_hosts, peripheral_sends_one, runs_of}
use Rattle.joint_exchanges.proofs.JointTakes.{central_takes_way, peripheral_takes_way}
use Rattle.joint_exchanges.proofs.PartMoves.{IsMoved, then_moved, unmoved}

-- ---- a step that may come, and after which the run goes on

pub step_moves : (step : JointStep) (s : Joint) → AreOfRoles true s → KeepsForLater s.central → Runs s → may_act step s ≡ true → Runs (act step s)
    → IsMoved (moves_of step s) (parts_of s) (parts_of (act step s))
step_moves (CentralEnters slot) s r k runs may goes = central_enters s slot runs.central k
step_moves (CentralHost step) s r k runs may goes = central_hosts s step runs.central may
step_moves (CentralSends slot) s r k runs may goes =
    let both = and_parts (may_transmit s.down s.up) _ may in
    central_sends_one s slot runs.central (and_parts (is_clear s.down) _ both.0).0 both.1
step_moves CentralSendsData s r k runs may goes =
    central_sends_data s (and_parts (is_clear s.down) _ (and_parts (may_transmit s.down s.up) _ may).0).0
step_moves CentralAcked s r k runs may goes = central_acked s runs.central (and_parts (is_taken s.down) _ may).0 r.central
step_moves (CentralTakes slot) s r k runs may goes =
    central_takes_way s slot s.up (and_parts (is_some (item_on_air s.up)) _ may).0 r.up k r.central runs.central goes
step_moves (PeripheralEnters slot) s r k runs may goes = peripheral_enters s slot runs.peripheral
step_moves (PeripheralHost step) s r k runs may goes = peripheral_hosts s step runs.peripheral may
step_moves (PeripheralFixes slot) s r k runs may goes =
    let both = and_parts (is_clear s.up) _ may in peripheral_fixes_one s slot runs.peripheral both.0 both.1
step_moves PeripheralFixesData s r k runs may goes = peripheral_fixes_data s (and_parts (is_clear s.up) _ may).0
step_moves PeripheralSends s r k runs may goes = peripheral_sends_one s
step_moves PeripheralAcked s r k runs may goes = peripheral_acked s runs.peripheral (and_parts (is_taken s.up) _ may).0 r.peripheral
step_moves (PeripheralTakes slot response) s r k runs may goes =
    peripheral_takes_way s slot response s.down (and_parts (is_some (item_on_air s.down)) _ may).0 r.down r.peripheral runs.peripheral goes
step_moves Shuts s r k runs may goes = unmoved (parts_of s) (parts_of s) refl

-- ---- any step

running_before : (step : JointStep) (s : Joint) → is_running (after step s) ≡ true → is_running s ≡ true
running_before step s goes = by (is_running s) refl goes
  where
    by : (b : Bool) → is_running s ≡ b → is_running (if b && may_act step s then act step s else s) ≡ true → is_running s ≡ true
    by true is goes = is
    by false is goes = goes

pub running_first : (steps : List JointStep) (s : Joint) → is_running (after_all steps s) ≡ true → is_running s ≡ true
running_first [] s goes = goes
running_first (step ∷ steps) s goes = running_before step s (running_first steps (after step s) goes)

pub roles_on : (unknowns : Bool) (step : JointStep) (s : Joint) → AreOfRoles unknowns s → (is_running s ≡ true → unknowns ≡ false → HaveMeaning s)
    → is_running (after step s) ≡ true → AreOfRoles unknowns (after step s)
roles_on unknowns step s r means goes = by (may step s) refl goes
  where
    by : (b : Bool) → may step s ≡ b → is_running (if b then act step s else s) ≡ true → AreOfRoles unknowns (if b then act step s else s)
    by true is goes = roles_after unknowns step s r (means (and_parts (is_running s) (may_act step s) is).0) (runs_of (act step s) goes)
    by false is goes = r

no_meaning : (s : Joint) → is_running s ≡ true → true ≡ false → HaveMeaning s
no_meaning s goes is = absurd (cc)

moves_on : (step : JointStep) (s : Joint) → AreOfRoles true s → KeepsForLater s.central → is_running (after step s) ≡ true
    → IsMoved (if may step s then moves_of step s else []) (parts_of s) (parts_of (after step s))
moves_on step s r k goes = by (may step s) refl goes
  where
    by : (b : Bool) → may step s ≡ b → is_running (if b then act step s else s) ≡ true
        → IsMoved (if b then moves_of step s else []) (parts_of s) (parts_of (if b then act step s else s))
    by true is goes =
        let both = and_parts (is_running s) (may_act step s) is in
        step_moves step s r k (runs_of s both.0) both.1 (runs_of (act step s) goes)
    by false is goes = unmoved (parts_of s) (parts_of s) refl

-- ---- a run

pub run_moves : (steps : List JointStep) (s : Joint) → AreOfRoles true s → ((done : List JointStep) → KeepsForLater (after_all done s).central) → is_running (after_all steps s) ≡ true
    → IsMoved (moves_in steps s) (parts_of s) (parts_of (after_all steps s))
run_moves [] s r k goes = unmoved (parts_of s) (parts_of s) refl
run_moves (step ∷ steps) s r k goes =
    let next = running_first steps (after step s) goes in
    then_moved _ _ (parts_of s) (parts_of (after step s)) (parts_of (after_all steps (after step s)))
    (moves_on step s r (k []) next)
    (run_moves steps (after step s) (roles_on true step s r (no_meaning s) next) (λ done. k (step ∷ done)) goes)

pub run_roles : (unknowns : Bool) (steps : List JointStep) (s : Joint) → AreOfRoles unknowns s → AllBefore (λ t. unknowns ≡ false → HaveMeaning t) steps s
    → is_running (after_all steps s) ≡ true → AreOfRoles unknowns (after_all steps s)
run_roles unknowns [] s r means goes = r
run_roles unknowns (step ∷ steps) s r means goes =
    run_roles unknowns steps (after step s) (roles_on unknowns step s r means.0 (running_first steps (after step s) goes)) means.1 goes

pub first_roles : (unknowns : Bool) (central_rx peripheral_rx : ℕ) (first : Params) (slot : ℕ) → AreOfRoles unknowns (beginning central_rx peripheral_rx first slot)
first_roles unknowns central_rx peripheral_rx first slot =
    record {
      central = record { table = record { same_role = refl; rejections = tt; drafts = tt }; request = tt; kept = tt; asks = tt };
      peripheral = record { table = record { same_role = refl; rejections = tt; drafts = tt }; request = tt; kept = tt; asks = tt };
      down = tt;
      up = tt;
    }

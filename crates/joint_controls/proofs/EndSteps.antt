-- Each end of a joint run takes steps of its own from the beginning of the link.
use Rattle.std.proofs.Common.{◌≡◌, ℕ, Bool, true, false, if◌then◌else◌, List, [], ◌∷◌, ◌++◌, refl, sym, ap, ◌∙◌}
use Rattle.phased_control.specs.Phased.{Phased}
use Rattle.phased_control.specs.Taken.{PhasedStep, Response, phased_after, phased_after_all}
use Rattle.joint_controls.specs.Joint.{CentralAcked, CentralEnters, CentralHost, CentralSends, CentralSendsData, CentralTakes, Clear, Fixed, Joint, JointStep, OnAir, PeripheralAcked, PeripheralEnters, PeripheralFixes, PeripheralFixesData, PeripheralHost, PeripheralSends, PeripheralTakes, Shuts, Taken, Way, act, after, after_all, central_takes, item_on_air, may, no_response, peripheral_takes}
use Rattle.joint_controls.specs.Ends.{central_does, peripheral_does, steps_of_central, steps_of_peripheral, takes_if}

pub phased-append : (steps more : List PhasedStep) (s : Phased)
    → phased_after_all (steps ++ more) s ≡ phased_after_all more (phased_after_all steps s)
phased-append [] more s = refl
phased-append (step ∷ steps) more s = phased-append steps more (phased_after step s)

-- ---- one step

up_central : (way : Way) (slot : ℕ) (s : Joint)
    → (central_takes way slot s).central ≡ phased_after_all (takes_if (item_on_air way) slot no_response) s.central
up_central Clear slot s = refl
up_central (Fixed item sealed) slot s = refl
up_central (OnAir item sealed) slot s = refl
up_central (Taken item) slot s = refl

up_peripheral : (way : Way) (slot : ℕ) (s : Joint) → (central_takes way slot s).peripheral ≡ s.peripheral
up_peripheral Clear slot s = refl
up_peripheral (Fixed item sealed) slot s = refl
up_peripheral (OnAir item sealed) slot s = refl
up_peripheral (Taken item) slot s = refl

down_peripheral : (way : Way) (slot : ℕ) (response : Response) (s : Joint)
    → (peripheral_takes way slot response s).peripheral ≡ phased_after_all (takes_if (item_on_air way) slot response) s.peripheral
down_peripheral Clear slot response s = refl
down_peripheral (Fixed item sealed) slot response s = refl
down_peripheral (OnAir item sealed) slot response s = refl
down_peripheral (Taken item) slot response s = refl

down_central : (way : Way) (slot : ℕ) (response : Response) (s : Joint) → (peripheral_takes way slot response s).central ≡ s.central
down_central Clear slot response s = refl
down_central (Fixed item sealed) slot response s = refl
down_central (OnAir item sealed) slot response s = refl
down_central (Taken item) slot response s = refl

pub central_acts : (step : JointStep) (s : Joint) → (act step s).central ≡ phased_after_all (central_does step s) s.central
central_acts (CentralEnters slot) s = refl
central_acts (CentralHost step) s = refl
central_acts (CentralSends slot) s = refl
central_acts CentralSendsData s = refl
central_acts CentralAcked s = refl
central_acts (CentralTakes slot) s = up_central s.up slot s
central_acts (PeripheralEnters slot) s = refl
central_acts (PeripheralHost step) s = refl
central_acts (PeripheralFixes slot) s = refl
central_acts PeripheralFixesData s = refl
central_acts PeripheralSends s = refl
central_acts PeripheralAcked s = refl
central_acts (PeripheralTakes slot response) s = down_central s.down slot response s
central_acts Shuts s = refl

pub peripheral_acts : (step : JointStep) (s : Joint) → (act step s).peripheral ≡ phased_after_all (peripheral_does step s) s.peripheral
peripheral_acts (CentralEnters slot) s = refl
peripheral_acts (CentralHost step) s = refl
peripheral_acts (CentralSends slot) s = refl
peripheral_acts CentralSendsData s = refl
peripheral_acts CentralAcked s = refl
peripheral_acts (CentralTakes slot) s = up_peripheral s.up slot s
peripheral_acts (PeripheralEnters slot) s = refl
peripheral_acts (PeripheralHost step) s = refl
peripheral_acts (PeripheralFixes slot) s = refl
peripheral_acts PeripheralFixesData s = refl
peripheral_acts PeripheralSends s = refl
peripheral_acts PeripheralAcked s = refl
peripheral_acts (PeripheralTakes slot response) s = down_peripheral s.down slot response s
peripheral_acts Shuts s = refl

-- ---- all steps of a run

central_if : (b : Bool) (step : JointStep) (s : Joint)
    → (if b then act step s else s).central ≡ phased_after_all (if b then central_does step s else []) s.central
central_if true step s = central_acts step s
central_if false step s = refl

peripheral_if : (b : Bool) (step : JointStep) (s : Joint)
    → (if b then act step s else s).peripheral ≡ phased_after_all (if b then peripheral_does step s else []) s.peripheral
peripheral_if true step s = peripheral_acts step s
peripheral_if false step s = refl

pub central_runs : (steps : List JointStep) (s : Joint) → (after_all steps s).central ≡ phased_after_all (steps_of_central steps s) s.central
central_runs [] s = refl
central_runs (step ∷ steps) s =
    central_runs steps (after step s) ∙ ap (λ (c : Phased). phased_after_all (steps_of_central steps (after step s)) c) (central_if (may step s) step s)
    ∙ sym (phased-append (if may step s then central_does step s else []) (steps_of_central steps (after step s)) s.central)

pub peripheral_runs : (steps : List JointStep) (s : Joint)
    → (after_all steps s).peripheral ≡ phased_after_all (steps_of_peripheral steps s) s.peripheral
peripheral_runs [] s = refl
peripheral_runs (step ∷ steps) s =
    peripheral_runs steps (after step s)
    ∙ ap (λ (p : Phased). phased_after_all (steps_of_peripheral steps (after step s)) p) (peripheral_if (may step s) step s)
    ∙ sym (phased-append (if may step s then peripheral_does step s else []) (steps_of_peripheral steps (after step s)) s.peripheral)

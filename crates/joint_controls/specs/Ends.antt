-- What each end does in a joint run, as steps of that end alone, and its last PDU as its table has it (our choice).
use Rattle.std.specs.Prelude.{◌≡◌, ℕ, List, [], ◌∷◌, ◌++◌, Option, Some, None, Ok, if◌then◌else◌, ⊤}
use Rattle.data_pdu.specs.declared.ctrl.Ctrl.{Ctrl}
use Rattle.phased_control.specs.procedure_values.declared.drafts.Outgoing.{Outgoing}
use Rattle.phased_control.specs.procedure_values.declared.drafts.Outgoing.TheVariants.{Nothing}
use Rattle.phased_control.specs.procedure_values.Drafts.{ctrl_of_outgoing}
use Rattle.phased_control.specs.procedure_values.Wants.{IsAsk}
use Rattle.phased_control.specs.Taken.{PhasedStep, Response, Enters, SeesAcknowledged, Sends}
use Rattle.joint_controls.specs.Joint.{AnswersRequest, AsksFor, CentralAcked, CentralEnters, CentralHost, CentralSends, CentralTakes, Clear, Control, Data, Fixed, HostStep, Item, Joint, JointStep, OnAir, PeripheralAcked, PeripheralEnters, PeripheralFixes, PeripheralHost, PeripheralTakes, Taken, Way, after, host_step, item_on_air, may, no_response, taking}

-- ---- the steps of each end alone

abbrev pub takes_if : Option Item → ℕ → Response → List PhasedStep
takes_if None slot response = []
takes_if (Some item) slot response = taking item slot response ∷ []

-- what the central does in a step that may come: one step, or none
abbrev pub central_does : JointStep → Joint → List PhasedStep
central_does (CentralEnters slot) s = Enters slot ∷ []
central_does (CentralHost step) s = host_step step ∷ []
central_does (CentralSends slot) s = Sends slot ∷ []
central_does CentralAcked s = SeesAcknowledged ∷ []
central_does (CentralTakes slot) s = takes_if (item_on_air s.up) slot no_response
central_does step s = []

abbrev pub peripheral_does : JointStep → Joint → List PhasedStep
peripheral_does (PeripheralEnters slot) s = Enters slot ∷ []
peripheral_does (PeripheralHost step) s = host_step step ∷ []
peripheral_does (PeripheralFixes slot) s = Sends slot ∷ []
peripheral_does PeripheralAcked s = SeesAcknowledged ∷ []
peripheral_does (PeripheralTakes slot response) s = takes_if (item_on_air s.down) slot response
peripheral_does step s = []

-- in a run: a step that may not come is none
abbrev pub steps_of_central : List JointStep → Joint → List PhasedStep
steps_of_central [] s = []
steps_of_central (step ∷ steps) s =
    (if may step s then central_does step s else []) ++ steps_of_central steps (after step s)

abbrev pub steps_of_peripheral : List JointStep → Joint → List PhasedStep
steps_of_peripheral [] s = []
steps_of_peripheral (step ∷ steps) s =
    (if may step s then peripheral_does step s else []) ++ steps_of_peripheral steps (after step s)

-- ---- what the hosts ask is in its range

abbrev pub IsHostInRange : HostStep → Type 0
IsHostInRange (AsksFor ask) = IsAsk ask
IsHostInRange (AnswersRequest (Ok ask)) = IsAsk ask
IsHostInRange step = ⊤

abbrev pub IsStepInRange : JointStep → Type 0
IsStepInRange (CentralHost step) = IsHostInRange step
IsStepInRange (PeripheralHost step) = IsHostInRange step
IsStepInRange step = ⊤

abbrev pub AreStepsInRange : List JointStep → Type 0
AreStepsInRange [] = ⊤
AreStepsInRange (step ∷ steps) = IsStepInRange step × AreStepsInRange steps

-- ---- the last PDU of an end

-- as its table has it: data is none of its PDUs
abbrev pub outgoing_in : Item → Outgoing
outgoing_in (Control outgoing ctrl) = outgoing
outgoing_in Data = Nothing

abbrev pub outgoing_on : Way → Outgoing
outgoing_on Clear = Nothing
outgoing_on (Fixed item sealed) = outgoing_in item
outgoing_on (OnAir item sealed) = outgoing_in item
outgoing_on (Taken item) = outgoing_in item

-- the PDU that was read is the one that was fixed, in some event and with some latency
pub record IsSentAs (outgoing : Outgoing) (ctrl : Ctrl) : Type 0 where
  pub event : ℕ
  pub latency : ℕ
  pub is : ctrl_of_outgoing outgoing event latency ≡ Some ctrl

abbrev pub IsItemSent : Item → Type 0
IsItemSent (Control outgoing ctrl) = IsSentAs outgoing ctrl
IsItemSent Data = ⊤

abbrev pub IsSentOn : Way → Type 0
IsSentOn Clear = ⊤
IsSentOn (Fixed item sealed) = IsItemSent item
IsSentOn (OnAir item sealed) = IsItemSent item
IsSentOn (Taken item) = IsItemSent item

-- What an end holds after steps from the beginning of its link (Core 5.2, volume 6 part B, sections 4.5.1 and 5.1.3).
use Rattle.std.specs.Prelude.{◌≡◌, ◌≤◌, ℕ, Bool, true, false, List, [], ◌∷◌, Ok, ⊤}
use Rattle.ble_base.specs.declared.roles.Role.{Role}
use Rattle.data_pdu.specs.Ranges.{IsInRange}
use Rattle.data_pdu.specs.Reading.{IfKnown}
use Rattle.instants.specs.declared.indications.Params.{Params}
use Rattle.procedures.specs.procedure_values.Values.{IsPayloadMax}
use Rattle.procedures.specs.procedure_values.Wants.{IsAsk}
use Rattle.keyed_control.specs.Keyed.{first_keyed}
use Rattle.keyed_control.specs.KeyedSteps.{KeyedStep, Answers, Asks, Takes, keyed_after_all}
use Rattle.phased_end.specs.Held.{HeldKeyed, held_of}
use Rattle.phased_end.specs.Taking.{hearing_forged}

-- ---- steps

-- a step that may come: what the host asks and what was read are in their ranges
abbrev pub MayCome : KeyedStep → Type 0
MayCome (Asks ask) = IsAsk ask
MayCome (Answers (Ok ask)) = IsAsk ask
MayCome (Takes read slot response) = IfKnown read IsInRange
MayCome step = ⊤

abbrev pub AllMayCome : List KeyedStep → Type 0
AllMayCome [] = ⊤
AllMayCome (step ∷ steps) = MayCome step × AllMayCome steps

-- ---- an end

-- a packet was heard whose integrity code is wrong
abbrev pub forged_if : Bool → HeldKeyed → HeldKeyed
forged_if true h = hearing_forged h
forged_if false h = h

-- an end holds this after some steps of its link that may come, and after a packet whose integrity code is wrong, if
-- one ended the link; the link begins with a latency of at most 499 events (section 4.5.1)
pub record IsReached (h : HeldKeyed) : Type 0 where
  pub role : Role
  pub max_rx : ℕ
  pub first : Params
  pub slot : ℕ
  pub steps : List KeyedStep
  pub forged : Bool
  pub octets : IsPayloadMax max_rx
  pub latency : first.latency ≤ 499
  pub may_come : AllMayCome steps
  pub is : h ≡ forged_if forged (held_of (keyed_after_all steps (first_keyed role max_rx first slot)))

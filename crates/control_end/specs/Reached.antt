-- What an end holds after steps from the beginning of its link, while no PDU of the encryption is queued (Core 5.2,
-- volume 6 part B, sections 4.5.1, 5.1 and 5.5).
use Rattle.std.specs.Prelude.{◌≡◌, ◌≤◌, ℕ, Bool, true, false, List, [], ◌∷◌, ⊤}
use Rattle.ble_base.specs.declared.roles.Role.{Role}
use Rattle.instants.specs.declared.indications.Params.{Params}
use Rattle.control_model.specs.Control.{Step, Owes, after_all, first_control}
use Rattle.control_model.specs.Waits.{AreInRange}
use Rattle.control_end.specs.Held.{Held, held_of}

-- the layer above queues a PDU of the encryption (section 5.1.3)
abbrev pub is_owes : Step → Bool
is_owes (Owes ctrl) = true
is_owes other = false

-- it queues none in these steps
abbrev pub OwesNothing : List Step → Type 0
OwesNothing [] = ⊤
OwesNothing (step ∷ steps) = (is_owes step ≡ false) × OwesNothing steps

-- an end holds this after some steps of its link, which begins with a latency of at most 499 events (section 4.5.1);
-- what its host asks is in its range
pub record IsReached (h : Held) : Type 0 where
  pub role : Role
  pub max_rx : ℕ
  pub first : Params
  pub slot : ℕ
  pub steps : List Step
  pub latency : first.latency ≤ 499
  pub in_range : AreInRange steps
  pub none_owed : OwesNothing steps
  pub is : h ≡ held_of (after_all steps (first_control role max_rx first slot))

-- The CONNECT_INDs that a station sent in a run (Core 5.2, volume 6 part B, section 2.3.3.1).
use Rattle.std.specs.Prelude.{◌≡◌, ℕ, ◌+◌, ◌==◌, ◌&&◌, Bool, true, List, ◌∷◌, ◌++◌, fold, Some, if◌then◌else◌}
use Rattle.ble_base.specs.declared.addresses.Address.{Address}
use Rattle.adv_pdu.specs.declared.pdu.AdvPdu.TheVariants.{Connect}
use Rattle.adv_pdu.specs.declared.pdu.ConnectFields.{ConnectFields}
use Rattle.run_model.specs.controller_model.Packets.{pdu_heard}
use Rattle.run_model.specs.History.{Event, TurnBegan, HostFed, Called, Noted, Transmitted, Hearing}
use Rattle.run_model.specs.Links.{begins_link, is_advertising}

abbrev pub connects_in : ℕ → Event → ℕ
connects_in station (Transmitted sender channel octets hearings) =
    if (station == sender) && begins_link channel octets then 1 else 0
connects_in station (TurnBegan slot radios) = 0
connects_in station (HostFed other octets) = 0
connects_in station (Called other step) = 0
connects_in station (Noted other note) = 0

-- how many it sent so far
unfoldable pub connects_sent : ℕ → List Event → ℕ
connects_sent station history = fold (λ count event. count + connects_in station event) 0 history

-- a station sent one with these fields, after the events before it
pub record IsConnectSent (history before : List Event) (station : ℕ) (fields : ConnectFields) : Type 0 where
  pub channel : ℕ
  pub octets : List ℕ
  pub hearings : List Hearing
  pub after : List Event
  pub is_at : history ≡ before ++ Transmitted station channel octets hearings ∷ after
  pub on_channel : is_advertising channel ≡ true
  pub from : Address
  pub to : Address
  pub ch_sel : Bool
  pub says : pdu_heard channel octets ≡ Some (Connect from to ch_sel fields)

-- What the ends of links come from: a CONNECT_IND that was on the air (Core 5.2, volume 6 part B, sections 2.3.3.1 and
-- 4.4.2.3 to 4.5).
use Rattle.std.specs.Prelude.{◌≡◌, ◌≢◌, ℕ, ◌+◌, Bool, true, List, ◌∷◌, ◌++◌, length, Some}
use Rattle.ble_base.specs.declared.addresses.Address.{Address}
use Rattle.ble_base.specs.declared.roles.Role.{Role}
use Rattle.ble_base.specs.declared.roles.Role.TheVariants.{Central, Peripheral}
use Rattle.adv_pdu.specs.declared.pdu.AdvPdu.TheVariants.{Connect}
use Rattle.adv_pdu.specs.declared.pdu.ConnectFields.{ConnectFields}
use Rattle.controller_model.specs.link_model.Setup.{Setup}
use Rattle.controller_model.specs.Packets.{pdu_heard}
use Rattle.run_model.specs.History.{Event, Transmitted, Hearing, has_received, turns_begun}
use Rattle.run_model.specs.Links.{is_advertising}
use Rattle.run_model.specs.Run.{Given, setup_at}

-- the public address of each station has six octets
abbrev pub HaveAddresses : Given → Type 0
HaveAddresses given = (station : ℕ) → length (setup_at given station).public ≡ 6

-- a CONNECT_IND on an advertising channel, with its hearings
pub record ConnectInd : Type 0 where
  pub sender : ℕ
  pub channel : ℕ
  pub octets : List ℕ
  pub hearings : List Hearing
  -- what its PDU says
  pub from : Address
  pub to : Address
  pub ch_sel : Bool
  pub fields : ConnectFields

-- the central sent it, and the peripheral, which is another station, received it
abbrev pub IsAtEnd : Role → ℕ → Setup → ConnectInd → Type 0
IsAtEnd Central station end sent =
    (sent.sender ≡ station) × (sent.from ≡ end.link.own) × (sent.to ≡ end.link.peer)
IsAtEnd Peripheral station end sent =
    (sent.sender ≢ station) × (has_received station sent.hearings ≡ true) × (sent.from ≡ end.link.peer)
    × (sent.to ≡ end.link.own) × (sent.ch_sel ≡ end.link.two)

-- what the end of a link at a station was set up with comes from a CONNECT_IND on the air, in the turn of its slot
pub record HasConnectInd (history : List Event) (station : ℕ) (end : Setup) : Type 0 where
  pub sent : ConnectInd
  pub before : List Event
  pub after : List Event
  pub is_at : history ≡ before ++ Transmitted sent.sender sent.channel sent.octets sent.hearings ∷ after
  pub in_turn : turns_begun before ≡ end.opened + 1
  pub on_channel : is_advertising sent.channel ≡ true
  pub says : pdu_heard sent.channel sent.octets ≡ Some (Connect sent.from sent.to sent.ch_sel sent.fields)
  pub fields_are : sent.fields ≡ end.link.fields
  pub is_at_end : IsAtEnd end.link.role station end sent

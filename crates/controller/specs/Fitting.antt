-- That what a controller does can be done: channels of the air, and a link that may be opened.
use Rattle.std.specs.Prelude.{◌≡◌, ◌<◌, ◌≤◌, ◌^◌, ℕ, false, ⊤}
use Rattle.adv_pdu.specs.Ranges.{IsInRange}
use Rattle.link_model.specs.declared.setup.LinkSetup.{LinkSetup}
use Rattle.controller_model.specs.declared.doing.Doing.{Doing}
use Rattle.controller_model.specs.declared.doing.Doing.TheVariants.{Advertises, AwaitsRequest, Responds, Scans, Requests, AwaitsResponse, Initiates, Connects, CentralSends, CentralListens, PeripheralListens, PeripheralSends, Rests}
use Rattle.controller.specs.Order.{may_receive}

-- a link may be opened by a controller that holds this number of links
pub record IsOpenable (links : ℕ) (link : LinkSetup) : Type 0 where
  pub handle : link.handle < links
  pub fields : IsInRange link.fields
  pub crc_init : link.fields.crc_init < 2 ^ 24
  pub sca : link.fields.sca < 8
  pub max_rx_from : 27 ≤ link.max_rx
  pub max_rx_to : link.max_rx ≤ 251

-- a CONNECT_IND that is sent, on a channel of the air, opens such a link
pub record IsConnecting (links channel : ℕ) (link : LinkSetup) : Type 0 where
  pub on_air : channel < 40
  pub opens : IsOpenable links link

abbrev pub CanDo : ℕ → Doing → Type 0
CanDo links (Advertises channel) = channel < 40
CanDo links (AwaitsRequest channel) = channel < 40
CanDo links (Responds channel) = channel < 40
CanDo links (Scans channel) = channel < 40
CanDo links (Requests channel advertiser) = channel < 40
CanDo links (AwaitsResponse channel) = channel < 40
CanDo links (Initiates channel) = channel < 40
CanDo links (Connects channel link) = IsConnecting links channel link
CanDo links (CentralSends handle) = ⊤
CanDo links (CentralListens handle) = ⊤
CanDo links (PeripheralListens handle) = ⊤
CanDo links (PeripheralSends handle) = ⊤
CanDo links Rests = ⊤

-- it can do this after something was heard: octets do not reach it on a link any more in this turn
abbrev pub CanFollow : ℕ → Doing → Type 0
CanFollow links doing = CanDo links doing × (may_receive doing ≡ false)

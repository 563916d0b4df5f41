-- Both ends of one link in a run (Core 5.2, volume 6 part B, sections 4.4.2.3 and 4.5).
use Rattle.std.specs.Prelude.{◌≡◌, ℕ, List, ◌∷◌, ◌++◌, Option, Some, None}
use Rattle.ble_base.specs.declared.roles.Role.TheVariants.{Central, Peripheral}
use Rattle.ble_base.specs.declared.verdicts.Verdict.TheVariants.{Good}
use Rattle.run_model.specs.link_model.Packets.{packet_sent, verdict_of}
use Rattle.run_model.specs.link_model.Setup.{Setup}
use Rattle.run_model.specs.link_model.Step.{PacketSent}
use Rattle.run_model.specs.open_links.OpenLinks.{OpenLink, facts_in, link_after, link_at}
use Rattle.run_model.specs.controller_model.declared.doing.Doing.{Doing}
use Rattle.run_model.specs.controller_model.declared.doing.Doing.TheVariants.{CentralListens, PeripheralListens}
use Rattle.run_model.specs.controller_model.Facts.{Facts}
use Rattle.run_model.specs.controller_model.Step.{PacketHeard}
use Rattle.run_model.specs.History.{Event, Called}
use Rattle.run_model.specs.LinkEnds.{HasConnectInd}
use Rattle.run_model.specs.Run.{Given, facts_at}

-- an open end of a link: its station, its handle there, and the link (volume 4 part E, section 5.3.1)
pub record OpenEnd : Type 0 where
  pub station : ℕ
  pub handle : ℕ
  pub link : OpenLink

-- it is open at its station after this history
abbrev pub IsOpen : Given → List Event → OpenEnd → Type 0
IsOpen given history end = link_at end.handle (facts_at given end.station history).links ≡ Some end.link

-- both ends of one link: one CONNECT_IND on the air, at one place of the history, opened one of them as the central
-- and the other as the peripheral (section 4.5)
pub record AreEnds (history : List Event) (central peripheral : OpenEnd) : Type 0 where
  pub of_central : HasConnectInd history central.station central.link.setup
  pub of_peripheral : HasConnectInd history peripheral.station peripheral.link.setup
  pub same : of_central.before ≡ of_peripheral.before
  pub is_central : central.link.setup.link.role ≡ Central
  pub is_peripheral : peripheral.link.setup.link.role ≡ Peripheral

-- what the two ends have of their CONNECT_IND: its fields, and its slot (section 2.3.3.1)
pub record HaveOneConnectInd (one other : Setup) : Type 0 where
  pub fields : one.link.fields ≡ other.link.fields
  pub opened : one.opened ≡ other.opened

-- ---- what an end hears

-- the handle of the link on which a controller listens (section 4.5.1)
abbrev pub link_listened : Doing → Option ℕ
link_listened (CentralListens handle) = Some handle
link_listened (PeripheralListens handle) = Some handle
link_listened other = None

-- a controller that receives this packet listens on this link, and judges it good (section 2.1.2; verdicts are our
-- choice)
pub record ReceivesGood (facts : Facts) (octets : List ℕ) (link : OpenLink) : Type 0 where
  pub handle : ℕ
  pub listens : link_listened facts.turn.doing ≡ Some handle
  pub is_open : link_at handle facts.links ≡ Some link
  pub is_good : verdict_of link.setup (facts_in link) octets ≡ Good

-- the end is open, and the last that happened to it is that it sent this packet on this channel (section 4.5.1)
pub record HasSent (given : Given) (before : List Event) (end : OpenEnd) (channel : ℕ) (octets : List ℕ) : Type 0 where
  pub handle : ℕ
  pub slot : ℕ
  pub link : OpenLink
  pub is_open : link_at handle (facts_at given end.station before).links ≡ Some (link_after (PacketSent slot) link)
  pub is_end : HaveOneConnectInd link.setup end.link.setup
  pub packet : octets ≡ packet_sent link.setup (facts_in link)
  pub channel_is : channel ≡ (facts_in link).event.channel

-- each good packet that an end receives is what the far end just sent: it takes none of another link or of a third
-- station for one of its own. That access addresses of several centrals differ is left to chance (section 2.1.2)
abbrev pub HearsItsLink : Given → List Event → OpenEnd → OpenEnd → Type 0
HearsItsLink given history end far =
    (before after : List Event) (octets : List ℕ) (link : OpenLink)
    → history ≡ before ++ Called end.station (PacketHeard octets) ∷ after
    → ReceivesGood (facts_at given end.station before) octets link → HaveOneConnectInd link.setup end.link.setup
    → HasSent given before far (facts_in link).event.channel octets

-- and so it is at both ends (our choice)
pub record HearEachOther (given : Given) (history : List Event) (one other : OpenEnd) : Type 0 where
  pub one_hears : HearsItsLink given history one other
  pub other_hears : HearsItsLink given history other one

-- The number of an open link at a station: that of its CONNECT_IND (our choice).
use Rattle.std.specs.Prelude.{◌≡◌, ℕ, ◌+◌, List, Some}
use Rattle.controller_model.specs.link_model.Setup.{Setup}
use Rattle.controller_model.specs.open_links.OpenLinks.{OpenLink, link_at}
use Rattle.run_model.specs.History.{Event}
use Rattle.run_model.specs.LinkEnds.{HasConnectInd}
use Rattle.run_model.specs.Links.{links_of}
use Rattle.run_model.specs.Run.{Given, facts_at}

-- an end that was set up like this at a station comes from the CONNECT_IND with this number
pub record HasNumber (history : List Event) (number station : ℕ) (end : Setup) : Type 0 where
  pub has : HasConnectInd history station end
  pub number_is : number ≡ (links_of has.before).begun + 1

-- each open link has, under its handle, the number of its CONNECT_IND
abbrev pub AreNumbered : Given → List Event → Type 0
AreNumbered given history =
    (station handle : ℕ) (link : OpenLink) → link_at handle (facts_at given station history).links ≡ Some link
    → HasNumber history ((links_of history).link_of station handle) station link.setup

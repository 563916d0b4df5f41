-- What the code of a station and of a log keep of a history (our choice).
use Rattle.std.specs.Prelude.{◌≡◌, ℕ, ◌<◌, List, [], length}
use Rattle.ble_base.specs.declared.roles.Side.{Side}
use Rattle.ble_base.specs.declared.roles.Side.TheVariants.{A, B}
use Rattle.ble_base.specs.declared.notes.Note.{Note}
use Rattle.controller_model.specs.Facts.{Setup}
use Rattle.controller_model.specs.Step.{Step}
use Rattle.controller.specs.Held.{Held}
use Rattle.controller.specs.Knowing.{Knows, Goes}
use Rattle.run_model.specs.History.{Event, past_of}
use Rattle.run_model.specs.Run.{Given, setup_at, octets_left}
use Rattle.run_model.specs.Links.{Links, links_of}
use Rattle.run_model.specs.Journal.{journal_of}
use Rattle.run_model.specs.Pair.{pair_links}
use Rattle.pair_world.specs.KnownLinks.{KnownLinks, first_known, number_in}
use Rattle.pair_world.specs.Logs.{LogState}

abbrev pub number_of : Side → ℕ
number_of A = 0
number_of B = 1

-- a station: what its controller holds, the links that it knows, and the octets of its host that are not fed yet
pub record StationState : Type 0 where
  pub held : Held
  pub links : KnownLinks
  pub unfed : List ℕ

-- a station knows the numbers of its links, by the handles that its controller has
pub record KnowsLinks (station : ℕ) (links : Links) (known : KnownLinks) : Type 0 where
  pub last_is : known.last ≡ links.last_of station
  pub size : length known.by_handle ≡ pair_links
  pub by_handle_are : (handle : ℕ) → handle < pair_links → number_in known handle ≡ links.link_of station handle

-- the code of a station is up to this history
pub record Keeps (given : Given) (station : ℕ) (history : List Event) (state : StationState) : Type 0 where
  pub handles : (setup_at given station).links ≡ pair_links
  pub knows : Knows (setup_at given station) state.held (past_of station history)
  pub unfed_are : state.unfed ≡ octets_left given station history
  pub links_are : KnowsLinks station (links_of history) state.links

-- and so is a log
pub record Writes (history : List Event) (log : LogState) : Type 0 where
  pub entries_are : log.entries ≡ journal_of history
  pub links_are : log.links ≡ (links_of history).begun

pub record StationIsUpTo (given : Given) (station : ℕ) (history : List Event) (state : StationState)
    (log : LogState) : Type 0 where
  pub keeps : Keeps given station history state
  pub writes : Writes history log

-- a station took a step; what it noted is not written yet
pub record HasStepped (setup : Setup) (past : List Step) (step : Step) (before after : StationState)
    (noted : List Note) : Type 0 where
  pub goes : Goes setup after.held past step noted
  pub same_links : after.links ≡ before.links
  pub same_unfed : after.unfed ≡ before.unfed

-- a station that was not called yet
pub record IsFirst (setup : Setup) (stream : List ℕ) (state : StationState) : Type 0 where
  pub knows : Knows setup state.held []
  pub links_are : state.links ≡ first_known
  pub unfed_are : state.unfed ≡ stream

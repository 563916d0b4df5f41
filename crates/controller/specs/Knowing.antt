-- A controller that knows its past.
use Rattle.std.specs.Prelude.{◌≡◌, ℕ, ◌%◌, List, [], ◌∷◌, ◌++◌, length, Option, Some, None}
use Rattle.ble_base.specs.declared.notes.Note.{Note}
use Rattle.h4_frames.specs.Machine.{framer_after}
use Rattle.scan_init.specs.Access.{nth_access}
use Rattle.open_links.specs.Knowing.{Knows as KnowsLinks}
use Rattle.controller_model.specs.declared.doing.Doing.{Doing}
use Rattle.controller_model.specs.declared.doing.Doing.TheVariants.{Rests}
use Rattle.controller_model.specs.Step.{Step}
use Rattle.controller_model.specs.Facts.{Setup, Facts, Use, Sends, Listens, Idle as Unused}
use Rattle.controller_model.specs.Outcome.{Outcome}
use Rattle.controller_model.specs.Packets.{facts_doing}
use Rattle.controller_model.specs.Side.{facts_of, notes_after}
use Rattle.activities.specs.Steps.{activities_of}
use Rattle.controller.specs.declared.intents.Intent.{Intent}
use Rattle.controller.specs.declared.intents.Intent.TheVariants.{Send, Listen, Idle}
use Rattle.controller.specs.Held.{Held}

-- a controller with this setup holds these facts, but for the octets of its host and what it wants of the radio
pub record IsAt (has : Setup) (held : Held) (facts : Facts) : Type 0 where
  pub setup : held.setup ≡ has
  pub view : held.view ≡ facts.view
  pub place : held.place ≡ facts.drawn % length has.words
  pub access : held.access ≡ nth_access has.cursor facts.connections
  pub turn : held.turn ≡ facts.turn
  pub activities : held.activities ≡ activities_of facts
  pub links : KnowsLinks held.links facts.links facts.received

-- and the packet of its host that has begun
pub record IsWholeAt (has : Setup) (held : Held) (facts : Facts) : Type 0 where
  pub at : IsAt has held facts
  pub framed : held.framer ≡ framer_after facts.octets

-- this is what a controller with this setup holds after this past
unfoldable pub Knows : Setup → Held → List Step → Type 0
Knows setup held past = IsWholeAt setup held (facts_of setup past)

-- a step: it knows the past with this step, and has noted exactly this
pub record Goes (setup : Setup) (held : Held) (past : List Step) (step : Step) (noted : List Note) : Type 0 where
  pub knows : Knows setup held (past ++ step ∷ [])
  pub notes : noted ≡ notes_after setup (facts_of setup past) step

-- what comes of a phase
pub record Passes (has : Setup) (held : Held) (before noted : List Note) (next : Doing) (outcome : Outcome) : Type 0 where
  pub at : IsAt has held outcome.facts
  pub notes : noted ≡ before ++ outcome.notes
  pub doing : next ≡ outcome.next

-- the same, where it does nothing until the next phase
pub record PassesOn (has : Setup) (held : Held) (before noted : List Note) (next : Doing) (outcome : Outcome) : Type 0 where
  pub at : IsAt has held (facts_doing Rests outcome.facts)
  pub notes : noted ≡ before ++ outcome.notes
  pub doing : next ≡ outcome.next

-- what an intent wants of the radio
abbrev pub use_wanted : Intent → Use
use_wanted (Send channel octets) = Sends channel octets.items
use_wanted (Listen channel) = Listens channel
use_wanted Idle = Unused

-- a packet that is sent on a channel, if there are both
abbrev pub sends_octets : Option ℕ → Option (List ℕ) → Use
sends_octets None packet = Unused
sends_octets (Some channel) None = Unused
sends_octets (Some channel) (Some octets) = Sends channel octets

-- A turn of both ends: each enters its event, if its anchor is in the turn, and fixes its PDU, if it has an exchange then;
-- the central sends (Core 5.2, volume 6 part B, sections 4.5.1 and 4.5.9).
use Rattle.std.specs.Prelude.{◌≡◌, ℕ, ◌+◌, ◌==◌, ◌≤◌, ◌<◌, Bool, true, false, None, is_some, length, if◌then◌else◌}
use Rattle.instants.specs.Track.{next_anchor_of}
use Rattle.joint_laws.specs.joint_controls.Joint.{is_running}
use Rattle.control_octets.specs.procedure_values.Limits.{tx_of}
use Rattle.link_model.specs.Data.{is_data}
use Rattle.link_model.specs.Setup.{Setup}
use Rattle.link_model.specs.Facts.{Facts}
use Rattle.link_model.specs.Controls.{next_control}
use Rattle.link_model.specs.End.{facts_after}
use Rattle.link_model.specs.Fixing.{data_goes}
use Rattle.link_model.specs.Step.{EventEntered, PacketSent, PduFixed}
use Rattle.link_pairs.specs.Ends.{HasExchange, heard_turns}
use Rattle.link_pairs.specs.Shown.{AreLinked, link_of}

-- ---- what each end does as the turn in this slot begins

abbrev pub entered_if : Bool → Setup → ℕ → Facts → Facts
entered_if enters setup slot facts = if enters then facts_after setup facts (EventEntered slot) else facts

abbrev pub entered_in : Setup → ℕ → Facts → Facts
entered_in setup slot facts = entered_if (next_anchor_of facts.control.track == slot) setup slot facts

abbrev pub fixed_if : Bool → Setup → Facts → Facts
fixed_if has_exchange setup facts = if has_exchange then facts_after setup facts PduFixed else facts

abbrev pub sent_if : Bool → Setup → ℕ → Facts → Facts
sent_if has_exchange setup slot facts = if has_exchange then facts_after setup facts (PacketSent slot) else facts

-- before its packet, if it sends one
abbrev pub prepared : Setup → ℕ → Bool → Facts → Facts
prepared setup slot has_exchange facts = fixed_if has_exchange setup (entered_in setup slot facts)

abbrev pub central_begun : Setup → ℕ → Bool → Facts → Facts
central_begun setup slot has_exchange facts =
    sent_if has_exchange setup slot (prepared setup slot has_exchange facts)

-- an end has an exchange in a turn only in the slots of its event
abbrev pub MayExchange : Setup → ℕ → Bool → Facts → Type 0
MayExchange setup slot has_exchange facts = has_exchange ≡ true → HasExchange slot (entered_in setup slot facts)

-- ---- what a peripheral has fixed: nothing has happened to its procedures since

pub record HasFixed (facts : Facts) : Type 0 where
  pub control : facts.fixes_control ≡ is_some (next_control facts)
  pub data_first : is_data facts.outgoing.fixed ≡ true → (next_control facts ≡ None) × (data_goes facts ≡ true)
  -- of data it is a piece of at most the effective length (section 4.5.10)
  pub short : length facts.outgoing.fixed.body ≤ tx_of facts.control.table.lengths
  pub two_bits : facts.outgoing.fixed.llid < 4

-- ---- both ends in a turn, after it began and before anything is received

-- what they have heard and fixed while the run goes on
pub record AreReady (central peripheral : Setup) (slot : ℕ) (listens : Bool) (c p : Facts) : Type 0 where
  -- nothing is received in this turn yet
  pub central_heard : heard_turns central c ≤ slot
  pub peripheral_heard : heard_turns peripheral p ≤ slot
  -- the peripheral has fixed its PDU
  pub fixed : listens ≡ true → HasFixed p

pub record HaveBegun (central peripheral : Setup) (slot : ℕ) (transmits listens : Bool) (c p : Facts) : Type 0 where
  pub linked : AreLinked central peripheral (slot + 1) false c p
  pub ready :
      is_running (link_of central peripheral linked.steps).joint ≡ true
      → AreReady central peripheral slot listens c p
  -- the central has sent, in a slot of its event
  pub transmits_in : transmits ≡ true → HasExchange slot c
  -- the peripheral listens in a slot of its event
  pub listens_in : listens ≡ true → HasExchange slot p

-- Each open end enters each event of its link, from the lines of a journal alone (Core 5.2, volume 6 part B, section
-- 4.5.1; that it does so also where it does not get the radio is our choice).
use Rattle.std.specs.Prelude.{◌≡◌, ℕ, ◌<◌, Bool, List, ◌∷◌, ◌++◌, Option, Some, None}
use Rattle.ble_base.specs.declared.roles.Side.{Side}
use Rattle.ble_base.specs.declared.verdicts.Verdict.{Verdict}
use Rattle.instants.specs.Track.{next_anchor_of}
use Rattle.journal.specs.declared.entries.Entry.{Entry}
use Rattle.journal.specs.declared.entries.Entry.TheVariants.{Air, Turn}
use Rattle.journal.specs.declared.entries.Mark.{Mark}
use Rattle.journal_sending.specs.controller_model.link_model.control_model.Control.{Control}
use Rattle.journal_sending.specs.journal_controls.LineSteps.{control_on, turn_now}
use Rattle.journal_sending.specs.journal_controls.journal_ends.Asked.{Words}
use Rattle.journal_sending.specs.journal_data.Held.{links_open}
use Rattle.journal_sending.specs.journal_data.HostLines.{link_under}

-- once both sides have begun the turn that is under way, the anchor of the next event of each open end that did not end
-- the link is in a later one: by the events that it entered, and by the indications that it sent or took, also the one
-- that is not in force yet
abbrev pub NoEventIsMissed : Words → List Entry → Type 0
NoEventIsMissed words front = (side : Side) (handle number : ℕ) (control : Control)
    → link_under handle (links_open side front) ≡ Some number → control_on words side number front ≡ Some control
    → control.ends ≡ None → turn_now front < next_anchor_of control.track

-- so it is before each packet, and before each turn
pub record NoEventsAreMissed (words : Words) (journal : List Entry) : Type 0 where
  pub in_turns : (front rest : List Entry) (side : Side) (channel : ℕ) (octets : List ℕ) (fate : Mark) (verdict : Verdict)
      → journal ≡ front ++ Air side channel octets fate verdict ∷ rest → NoEventIsMissed words front
  pub between : (front rest : List Entry) (slot : ℕ) (a_on : Bool) (b_on : Option Bool)
      → journal ≡ front ++ Turn slot a_on b_on ∷ rest → NoEventIsMissed words front

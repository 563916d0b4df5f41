-- When and on which channel a link has its connection events, from its CONNECT_IND, the advertisement that it answers
-- and the changes of its parameters (Core 5.2, volume 6 part B, sections 4.5.1, 4.5.3, 4.5.8 and 5.1).
use Rattle.std.specs.Prelude.{◌≡◌, ℕ, ◌+◌, List, ◌∷◌, ◌++◌, length, Some, if◌then◌else◌}
use Rattle.ble_base.specs.declared.roles.Side.{Side}
use Rattle.chan_select.specs.Channel.{channel_of}
use Rattle.chan_select.specs.declared.selection.Algorithm.TheVariants.{One, Two}
use Rattle.instants.specs.declared.track.Change.{Change}
use Rattle.instants.specs.Parameters.{anchor_in as anchor_after, params_in}
use Rattle.journal.specs.declared.entries.Entry.{Entry}
use Rattle.journal.specs.declared.entries.Entry.TheVariants.{Enter}
use Rattle.run_laws.specs.link_model.Setup.{first_params}
use Rattle.run_laws.specs.run_model.Readers.{turns_of}
use Rattle.journal_links.specs.Begun.{LinkBegun, link_numbered}
use Rattle.journal_links.specs.Changes.{changes_of}

-- the slot of the anchor of an event: event 0 comes two slots and WinOffset after the CONNECT_IND, and each next event
-- an interval later, by the parameters that hold then
abbrev pub anchor_in : LinkBegun → List Change → ℕ → ℕ
anchor_in link changes event =
    anchor_after (link.slot + 2 + link.fields.win_offset) (first_params link.fields) changes event

-- the channel of an event: by channel selection algorithm #2 where both sides offer it, else by #1, with the map that
-- holds then
abbrev pub channel_in : LinkBegun → List Change → ℕ → ℕ
channel_in link changes event =
    channel_of (if link.two then Two link.fields.access else One link.fields.hop) event
    (params_in (first_params link.fields) changes event).map

-- a line that comes after these entries says that the end of a side enters this event of this link, on this channel: it
-- is in the turn of the anchor of the event, and the channel is that of the event
pub record IsEnteredInTime (front : List Entry) (side : Side) (number event channel : ℕ) : Type 0 where
  pub link : LinkBegun
  pub is_link : link_numbered number front ≡ Some link
  pub in_turn : length (turns_of front) ≡ anchor_in link (changes_of number link side front) event + 1
  pub on_channel : channel ≡ channel_in link (changes_of number link side front) event

-- so it is with each event of a journal
abbrev pub AllAreEntered : List Entry → Type 0
AllAreEntered journal = (front rest : List Entry) (side : Side) (number event channel : ℕ)
    → journal ≡ front ++ Enter side number event channel ∷ rest → IsEnteredInTime front side number event channel

-- The journal of a run of two stations, A and B, which are the numbers 0 and 1 (our choice).
use Rattle.std.specs.Prelude.{ℕ, zero, suc, Bool, false, List, [], ◌∷◌, ◌++◌, Some, slice_index_or}
use Rattle.ble_base.specs.declared.roles.Side.{Side}
use Rattle.ble_base.specs.declared.roles.Side.TheVariants.{A, B}
use Rattle.ble_base.specs.declared.notes.Note.{Note}
use Rattle.ble_base.specs.declared.notes.Note.TheVariants.{Up, Opened, Shut, Sent, Took, Enter, Applied, Began, Refused, Done}
use Rattle.journal.specs.declared.entries.Entry.{Entry}
use Rattle.journal.specs.declared.entries.Entry.TheVariants.{Turn, Fed, Air, Up as UpEntry, Opened as OpenedEntry, Shut as ShutEntry, Sent as SentEntry, Took as TookEntry, Enter as EnterEntry, Applied as AppliedEntry, Began as BeganEntry, Refused as RefusedEntry, Done as DoneEntry}
use Rattle.journal.specs.declared.entries.Mark.{Mark}
use Rattle.journal.specs.declared.entries.Mark.TheVariants.{Pass as Passed, Lost as WasLost, Damage as Damaged}
use Rattle.radio_replay.specs.declared.fates.Fate.{Fate}
use Rattle.radio_replay.specs.declared.fates.Fate.TheVariants.{Pass, Lost, Damage}
use Rattle.run_model.specs.History.{Event, TurnBegan, HostFed, Called, Noted, Transmitted, Hearing}
use Rattle.run_model.specs.Links.{Links, first_links, links_after}

abbrev pub side_of : ℕ → Side
side_of zero = A
side_of (suc station) = B

-- a fate as the journal writes it
abbrev pub mark_of : Fate → Mark
mark_of Pass = Passed
mark_of Lost = WasLost
mark_of (Damage at pattern) = Damaged at pattern.items

-- the entry of a note, with the number of its link
abbrev pub entry_of : Side → (ℕ → ℕ) → ℕ → Note → Entry
entry_of side link_of last (Up packet) = UpEntry side packet.items
entry_of side link_of last (Opened handle role own peer) = OpenedEntry side last handle role
entry_of side link_of last (Shut handle reason) = ShutEntry side (link_of handle) reason
entry_of side link_of last (Sent handle number llid body) = SentEntry side (link_of handle) number llid body.items
entry_of side link_of last (Took handle number llid body) = TookEntry side (link_of handle) number llid body.items
entry_of side link_of last (Enter handle event channel) = EnterEntry side (link_of handle) event.0 channel
entry_of side link_of last (Applied handle number event) = AppliedEntry side (link_of handle) number event.0
entry_of side link_of last (Began handle kind) = BeganEntry side (link_of handle) kind
entry_of side link_of last (Refused handle kind code) = RefusedEntry side (link_of handle) kind code
entry_of side link_of last (Done handle kind) = DoneEntry side (link_of handle) kind

-- a packet has one hearing, that of the other side
abbrev pub air_entries : Side → ℕ → List ℕ → List Hearing → List Entry
air_entries side channel octets [] = []
air_entries side channel octets (hearing ∷ hearings) =
    Air side channel octets (mark_of hearing.fate) hearing.verdict ∷ []

abbrev pub radio_in : ℕ → List Bool → Bool
radio_in station radios = slice_index_or radios station false

abbrev pub entries_of : Links → Event → List Entry
entries_of links (TurnBegan slot radios) = Turn slot (radio_in 0 radios) (Some (radio_in 1 radios)) ∷ []
entries_of links (HostFed station octets) = Fed (side_of station) octets ∷ []
entries_of links (Called station step) = []
entries_of links (Noted station note) =
    entry_of (side_of station) (links.link_of station) (links.last_of station) note ∷ []
entries_of links (Transmitted station channel octets hearings) = air_entries (side_of station) channel octets hearings

abbrev pub journal_from : Links → List Event → List Entry
journal_from links [] = []
journal_from links (event ∷ events) = entries_of links event ++ journal_from (links_after links event) events

unfoldable pub journal_of : List Event → List Entry
journal_of history = journal_from first_links history

-- The events of the lines of a link: those that its end entered.
use Rattle.std.proofs.Common.{◌≡◌, ℕ, ◌+◌, false, Option, Some, None, List, [], ◌∷◌, refl, ◌∙◌}
use Rattle.std.specs.Prelude.{fold}
use Rattle.ble_base.specs.declared.notes.Note.{Note}
use Rattle.ble_base.specs.declared.notes.Note.TheVariants.{Up, Enter as EnterNote}
use Rattle.ble_base.specs.declared.roles.Side.{Side}
use Rattle.journal.specs.declared.entries.Entry.{Entry}
use Rattle.journal.specs.declared.entries.Entry.TheVariants.{Air, Enter}
use Rattle.journal_packets.specs.link_model.Setup.{Setup}
use Rattle.journal_packets.specs.link_model.Step.{Step}
use Rattle.journal_packets.specs.open_links.OpenLinks.{OpenLink, facts_in}
use Rattle.journal_packets.specs.controller_model.Since.{notes_opened_on}
use Rattle.link_calls.specs.run_model.History.{Event}
use Rattle.link_calls.specs.run_model.Journal.{journal_of, side_of}
use Rattle.journal_packets.specs.journal_links.LinkLines.{AreLinesOf}
use Rattle.journal_acks.specs.Carried.{channel_after, channel_entered}
use Rattle.journal_acks.specs.EventOrder.{entered_after, entered_on}
use Rattle.journal_acks.proofs.EntryNotes.{AreInOrder, Reading, channel_last, channel_noted, count_note, end_numbered, is_entry, past_channel, read_note, read_off}

-- ---- the channel of the last one

not_channelled : (number : ℕ) (side : Side) (before : Option ℕ) (entry : Entry) → is_entry entry ≡ false → channel_after number side before entry ≡ before
not_channelled number side before (Enter other link event channel) none = absurd cc
not_channelled number side before (Air other channel octets fate verdict) none = refl
not_channelled number side before entry none = refl

abbrev channels : Reading (Option ℕ)
channels = record {
  first = None;
  enters = λ channel before. Some channel;
  after = λ number side before entry. channel_after number side before entry;
  entered = λ number side other link event channel before. refl;
  others = not_channelled;
}

read_channel : (before : Option ℕ) (notes : List Note) → fold (read_note channels) before notes ≡ fold channel_noted before notes
read_channel before [] = refl
read_channel before (EnterNote handle event channel ∷ notes) = read_channel (Some channel) notes
read_channel before (Up packet ∷ notes) = read_channel before notes
read_channel before (note ∷ notes) = read_channel before notes

-- the channel of the event that an end entered last, as the journal of a history has it
abbrev pub channel_at : ℕ → ℕ → List Event → Option ℕ
channel_at number station history = channel_entered number (side_of station) (journal_of history)

pub channel_read : (journal : List Entry) (station number : ℕ) (link : OpenLink) → AreLinesOf journal station number (notes_opened_on link.setup link.past)
    → channel_entered number (side_of station) journal ≡ channel_last (facts_in link)
unfolding channel_entered
channel_read journal station number link are =
    read_off channels journal station number (notes_opened_on link.setup link.past) are
    ∙ read_channel None (notes_opened_on link.setup link.past)
    ∙ past_channel link.setup link.past

-- ---- how many there are

not_counted : (number : ℕ) (side : Side) (before : ℕ) (entry : Entry) → is_entry entry ≡ false → entered_after number side before entry ≡ before
not_counted number side before (Enter other link event channel) none = absurd cc
not_counted number side before (Air other channel octets fate verdict) none = refl
not_counted number side before entry none = refl

abbrev counts : Reading ℕ
counts = record {
  first = 0;
  enters = λ channel before. before + 1;
  after = λ number side before entry. entered_after number side before entry;
  entered = λ number side other link event channel before. refl;
  others = not_counted;
}

read_count : (before : ℕ) (notes : List Note) → fold (read_note counts) before notes ≡ fold count_note before notes
read_count before [] = refl
read_count before (EnterNote handle event channel ∷ notes) = read_count (before + 1) notes
read_count before (Up packet ∷ notes) = read_count before notes
read_count before (note ∷ notes) = read_count before notes

pub count_read : (journal : List Entry) (station number : ℕ) (notes : List Note) → AreLinesOf journal station number notes
    → entered_on (side_of station) number journal ≡ fold count_note 0 notes
unfolding entered_on
count_read journal station number notes are = read_off counts journal station number notes are ∙ read_count 0 notes

-- the events that an end noted are numbered from 0 on
pub end_in_order : (setup : Setup) (past : List Step) → AreInOrder 0 (notes_opened_on setup past)
end_in_order setup past = (tt, (end_numbered setup past).order)

-- The next PDU of an end is not fixed in a turn, by the journal, before its controller has begun the turn.
use Rattle.std.proofs.Common.{◌≡◌, ℕ, ◌==◌, ◌&&◌, ◌||◌, Bool, true, false, List, [], ◌∷◌, ◌++◌, refl, ap, ◌∙◌, append-nil}
use Rattle.std.specs.Prelude.{All}
use Rattle.ble_base.specs.declared.notes.Note.{Note}
use Rattle.ble_base.specs.declared.notes.Note.TheVariants.{Sent, Up}
use Rattle.ble_base.specs.declared.roles.Side.{Side}
use Rattle.journal_controls.specs.controller_model.Side.{notes_after}
use Rattle.journal_controls.specs.controller_model.Step.{Step as Call, HostOctet}
use Rattle.journal.specs.declared.entries.Entry.TheVariants.{Fed}
use Rattle.journal_controls.specs.journal_ends.Asked.{Words}
use Rattle.journal_controls.specs.journal_packets.Belonging.{is_side}
use Rattle.journal_controls.specs.run_model.History.{Event, Called, HostFed, Noted}
use Rattle.journal_controls.specs.run_model.Journal.{entry_of, journal_of, side_of}
use Rattle.journal_controls.specs.run_model.Links.{links_of}
use Rattle.journal_controls.specs.run_model.Run.{Given, after_call, after_feed, after_octets, facts_at, setup_at}
use Rattle.journal_controls.proofs.journal_acks.Exchanging.{any_note, call_keeps}
use Rattle.journal_controls.proofs.journal_acks.link_calls.CallNotes.{HasNoData, SendsNone, all_more, no_data, octet_noted}
use Rattle.journal_controls.proofs.run_model.Parts.{journal_event}
use Rattle.journal_fixing.specs.OnLines.{begins_turn, is_fixed, is_fixed_from}
use Rattle.journal_fixing.proofs.ControlKept.{fixed_is}

or_none : (one other : Bool) → other ≡ false → (one || other) ≡ one
or_none true other is = refl
or_none false other is = is

module _ (words : Words) (side : Side) (number : ℕ) where
  abbrev fixed_in : List Event → Bool
  fixed_in history = is_fixed words side number (journal_of history)

  note_goes : (own : Side) (link_of : ℕ → ℕ) (last : ℕ) (note : Note) → begins_turn (entry_of own link_of last note) ≡ false
  note_goes own link_of last (Up packet) = refl
  note_goes own link_of last note = refl

  -- a note of no new PDU
  note_unsent : (own : Side) (link_of : ℕ → ℕ) (last : ℕ) (note : Note) → SendsNone note → is_fixed_from side number (entry_of own link_of last note) ≡ false
  note_unsent own link_of last (Sent handle count llid body) none = absurd cc
  note_unsent own link_of last (Up packet) none = refl
  note_unsent own link_of last note none = refl

  -- or of another side
  note_apart : (own : Side) (link_of : ℕ → ℕ) (last : ℕ) (note : Note) → is_side own side ≡ false → is_fixed_from side number (entry_of own link_of last note) ≡ false
  note_apart own link_of last (Sent handle count llid body) differs = ap (λ b. b && (link_of handle == number)) differs
  note_apart own link_of last (Up packet) differs = refl
  note_apart own link_of last note differs = refl

  noted_same : (history : List Event) (station : ℕ) (note : Note)
      → is_fixed_from side number (entry_of (side_of station) ((links_of history).link_of station) ((links_of history).last_of station) note) ≡ false
      → fixed_in (history ++ Noted station note ∷ []) ≡ fixed_in history
  noted_same history station note none =
      let line = entry_of (side_of station) ((links_of history).link_of station) ((links_of history).last_of station) note in
      ap (is_fixed words side number) (journal_event history (Noted station note))
      ∙ fixed_is words side number (journal_of history) line (note_goes (side_of station) ((links_of history).link_of station) ((links_of history).last_of station) note)
      ∙ or_none (fixed_in history) (is_fixed_from side number line) none

  called_same : (history : List Event) (station : ℕ) (call : Call) → fixed_in (history ++ Called station call ∷ []) ≡ fixed_in history
  called_same history station call = ap (is_fixed words side number) (journal_event history (Called station call) ∙ append-nil (journal_of history))

  -- a call in which no new PDU is noted
  unsent_same : (given : Given) (station : ℕ) (call : Call) (history : List Event) → All SendsNone (notes_after (setup_at given station) (facts_at given station history) call)
      → fixed_in (after_call given station call history) ≡ fixed_in history
  unsent_same given station call history none =
      call_keeps Bool fixed_in SendsNone station
      (λ before note unsent. noted_same before station note
      (note_unsent (side_of station) ((links_of before).link_of station) ((links_of before).last_of station) note unsent))
      given call history (called_same history station call) none

  -- a call at another side
  pub apart_same : (given : Given) (station : ℕ) (call : Call) (history : List Event) → is_side (side_of station) side ≡ false
      → fixed_in (after_call given station call history) ≡ fixed_in history
  apart_same given station call history differs =
      call_keeps Bool fixed_in (λ note. true ≡ true) station
      (λ before note any. noted_same before station note
      (note_apart (side_of station) ((links_of before).link_of station) ((links_of before).last_of station) note differs))
      given call history (called_same history station call) (any_note _)

  -- what a host sends
  octets_same : (given : Given) (station : ℕ) (octets : List ℕ) (history : List Event) → fixed_in (after_octets given station octets history) ≡ fixed_in history
  octets_same given station [] history = refl
  octets_same given station (octet ∷ octets) history =
      let notes = notes_after (setup_at given station) (facts_at given station history) (HostOctet octet) in
      octets_same given station octets (after_call given station (HostOctet octet) history)
      ∙ unsent_same given station (HostOctet octet) history
      (all_more HasNoData SendsNone (λ note has. has.sends) notes (octet_noted HasNoData no_data.feeds (setup_at given station) (facts_at given station history) octet))

  pub feed_same : (given : Given) (station : ℕ) (octets : List ℕ) (history : List Event) → fixed_in (after_feed given station octets history) ≡ fixed_in history
  feed_same given station [] history = refl
  feed_same given station (octet ∷ octets) history =
      octets_same given station (octet ∷ octets) (history ++ HostFed station (octet ∷ octets) ∷ [])
      ∙ ap (is_fixed words side number) (journal_event history (HostFed station (octet ∷ octets)))
      ∙ fixed_is words side number (journal_of history) (Fed (side_of station) (octet ∷ octets)) refl ∙ or_none (fixed_in history) false refl

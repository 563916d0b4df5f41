-- What only turns and packets change is the same after a call, and after what a host sends.
use Rattle.std.proofs.Common.{◌≡◌, ℕ, Bool, true, false, List, [], ◌∷◌, ◌++◌, refl, ap, ◌∙◌, sym, append-nil, append_assoc}
use Rattle.std.specs.Prelude.{map}
use Rattle.ble_base.specs.declared.notes.Note.{Note}
use Rattle.ble_base.specs.declared.notes.Note.TheVariants.{Up as UpNote}
use Rattle.ble_base.specs.declared.roles.Side.{Side}
use Rattle.journal.specs.declared.entries.Entry.{Entry}
use Rattle.journal.specs.declared.entries.Entry.TheVariants.{Air, Turn}
use Rattle.journal_controls.specs.controller_model.Side.{notes_after}
use Rattle.journal_controls.specs.controller_model.Step.{Step, HostOctet}
use Rattle.journal_controls.specs.run_model.History.{Event, HostFed, Called, Noted}
use Rattle.journal_controls.specs.run_model.Journal.{entry_of, journal_of, side_of}
use Rattle.journal_controls.specs.run_model.Links.{links_of}
use Rattle.journal_controls.specs.run_model.Run.{Given, after_call, after_feed, after_octets, facts_at, setup_at}
use Rattle.journal_controls.proofs.journal_acks.Exchanging.{any_note, notes_keep}
use Rattle.journal_controls.proofs.run_model.Parts.{journal_event}

-- a line that begins no turn and is no packet
abbrev pub is_other : Entry → Bool
is_other (Turn slot a_on b_on) = false
is_other (Air sender channel octets fate verdict) = false
is_other line = true

pub note_other : (side : Side) (link_of : ℕ → ℕ) (last : ℕ) (note : Note) → is_other (entry_of side link_of last note) ≡ true
note_other side link_of last (UpNote packet) = refl
note_other side link_of last note = refl

-- what is read of the lines, which such a line leaves
module _ (X : Type 0) (read : List Entry → X) (still : (front : List Entry) (line : Entry) → is_other line ≡ true → read (front ++ line ∷ []) ≡ read front) where
  abbrev read_at : List Event → X
  read_at history = read (journal_of history)

  note_reads : (history : List Event) (station : ℕ) (note : Note) → read_at (history ++ Noted station note ∷ []) ≡ read_at history
  note_reads history station note =
      let links = links_of history in
      ap read (journal_event history (Noted station note)) ∙ still (journal_of history) _ (note_other (side_of station) (links.link_of station) (links.last_of station) note)

  pub in_call_reads : (station : ℕ) (step : Step) (history : List Event) (notes : List Note)
      → read_at (history ++ Called station step ∷ map (Noted station) notes) ≡ read_at history
  in_call_reads station step history notes =
      ap read_at (sym (append_assoc history (Called station step ∷ []) (map (Noted station) notes)))
      ∙ notes_keep X read_at (λ note. true ≡ true) station (λ before note any. note_reads before station note) notes
      (history ++ Called station step ∷ []) (any_note notes)
      ∙ ap read (journal_event history (Called station step) ∙ append-nil (journal_of history))

  pub call_reads : (given : Given) (station : ℕ) (step : Step) (history : List Event) → read_at (after_call given station step history) ≡ read_at history
  call_reads given station step history = in_call_reads station step history (notes_after (setup_at given station) (facts_at given station history) step)

  pub host_reads : (history : List Event) (station : ℕ) (octets : List ℕ) → read_at (history ++ HostFed station octets ∷ []) ≡ read_at history
  host_reads history station octets = ap read (journal_event history (HostFed station octets)) ∙ still (journal_of history) _ refl

  octets_read : (given : Given) (station : ℕ) (octets : List ℕ) (history : List Event) → read_at (after_octets given station octets history) ≡ read_at history
  octets_read given station [] history = refl
  octets_read given station (octet ∷ octets) history =
      octets_read given station octets (after_call given station (HostOctet octet) history) ∙ call_reads given station (HostOctet octet) history

  pub feed_reads : (given : Given) (station : ℕ) (octets : List ℕ) (history : List Event) → read_at (after_feed given station octets history) ≡ read_at history
  feed_reads given station [] history = refl
  feed_reads given station (octet ∷ octets) history =
      octets_read given station (octet ∷ octets) (history ++ HostFed station (octet ∷ octets) ∷ []) ∙ host_reads history station (octet ∷ octets)

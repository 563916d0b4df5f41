-- Once the host of a side was full as its turn ends, it counts as full up to the next turn, by the lines of a run.
use Rattle.std.proofs.Common.{◌≡◌, ℕ, ◌==◌, Bool, true, false, List, [], ◌∷◌, ◌++◌, refl, sym, ap, ◌∙◌, append-nil, append_assoc}
use Rattle.std.specs.Prelude.{◌&&◌, ◌||◌, map, not}
use Rattle.std.proofs.lemmas.Bool.{or_right}
use Rattle.std.proofs.lemmas.List.Sums.{fold-append}
use Rattle.ble_base.specs.declared.notes.Note.{Note}
use Rattle.ble_base.specs.declared.notes.Note.TheVariants.{Shut as ShutNote, Up as UpNote}
use Rattle.ble_base.specs.declared.roles.Side.{Side}
use Rattle.h4_frames.specs.Frames.{frames}
use Rattle.journal.specs.declared.entries.Entry.{Entry}
use Rattle.journal.specs.declared.entries.Entry.TheVariants.{Air, Turn}
use Rattle.journal_moves.specs.journal_wants.journal_sending.controller_model.Step.{Step}
use Rattle.journal_moves.specs.journal_wants.journal_sending.journal_hosts.HostFlow.{held_on, is_host_full}
use Rattle.journal_moves.specs.journal_wants.journal_sending.run_model.History.{Event, Called, Noted}
use Rattle.journal_moves.specs.journal_wants.journal_sending.journal_packets.Belonging.{is_side}
use Rattle.journal_moves.specs.journal_wants.journal_sending.run_model.Journal.{entry_of, journal_of, side_of}
use Rattle.journal_moves.specs.journal_wants.journal_sending.run_model.Links.{links_of}
use Rattle.journal_moves.specs.journal_wants.journal_sending.run_model.Readers.{turn_packets, turn_packets_after}
use Rattle.journal_moves.proofs.journal_wants.journal_sending.journal_acks.Exchanging.{map_both}
use Rattle.journal_moves.proofs.journal_wants.journal_sending.journal_data.Openness.{AreNot, is_shutting}
use Rattle.journal_moves.proofs.journal_wants.journal_sending.journal_leaving.OtherLines.{in_call_reads, is_other, note_other}
use Rattle.journal_moves.proofs.journal_wants.journal_sending.run_model.Parts.{journal_event}
use Rattle.journal_pdus.specs.Settled.{full_from, goes_on, was_full}

-- ---- line by line

full_parts : (side : Side) (front : List Entry) (full : Bool) (lines more : List Entry)
    → full_from side front full (lines ++ more) ≡ full_from side (front ++ lines) (full_from side front full lines) more
full_parts side front full [] more = ap (λ before. full_from side before full more) (sym (append-nil front))
full_parts side front full (line ∷ lines) more =
    let next = (full && not (goes_on side front line)) || is_host_full side (front ++ line ∷ []) in
    full_parts side (front ++ line ∷ []) next lines more
    ∙ ap (λ before. full_from side before (full_from side (front ++ line ∷ []) next lines) more) (append_assoc front (line ∷ []) lines)

full_more : (side : Side) (front : List Entry) (line : Entry)
    → was_full side (front ++ line ∷ []) ≡ ((was_full side front && not (goes_on side front line)) || is_host_full side (front ++ line ∷ []))
unfolding was_full
full_more side front line = full_parts side [] false front (line ∷ [])

-- it is full by all the lines
now_from : (side : Side) (front : List Entry) (full : Bool) (lines : List Entry) → (lines ≡ [] → full ≡ true)
    → is_host_full side (front ++ lines) ≡ true → full_from side front full lines ≡ true
now_from side front full [] now is = now refl
now_from side front full (line ∷ lines) now is =
    let before = full && not (goes_on side front line) in
    let here = is_host_full side (front ++ line ∷ []) in
    now_from side (front ++ line ∷ []) (before || here) lines
    (λ none. or_right before here (ap (λ more. is_host_full side (front ++ line ∷ more)) (sym none) ∙ is))
    (ap (is_host_full side) (append_assoc front (line ∷ []) lines) ∙ is)

none_full : (side : Side) → is_host_full side [] ≡ false
unfolding frames held_on
none_full side = refl

pub now_full : (side : Side) (front : List Entry) → is_host_full side front ≡ true → was_full side front ≡ true
unfolding was_full
now_full side front is = now_from side [] false front (λ none. sym (none_full side) ∙ ap (is_host_full side) (sym none) ∙ is) is

still_full : (side : Side) (front : List Entry) (line : Entry) → goes_on side front line ≡ false → was_full side front ≡ true → was_full side (front ++ line ∷ []) ≡ true
still_full side front line goes was =
    let here = is_host_full side (front ++ line ∷ []) in
    full_more side front line ∙ (λ i. (was i && not (goes i)) || here)

-- ---- a call with notes

still_packets : (front : List Entry) (line : Entry) → is_other line ≡ true → turn_packets (front ++ line ∷ []) ≡ turn_packets front
still_packets front line other = fold-append turn_packets_after 0 front (line ∷ []) ∙ by line other
  where
    by : (one : Entry) → is_other one ≡ true → turn_packets_after (turn_packets front) one ≡ turn_packets front
    by (Turn slot a_on b_on) is = absurd cc
    by (Air sender channel octets fate verdict) is = absurd cc
    by one is = refl

noted_packets : (station : ℕ) (history : List Event) (note : Note)
    → turn_packets (journal_of (history ++ Noted station note ∷ [])) ≡ turn_packets (journal_of history)
noted_packets station history note =
    let links = links_of history in
    ap turn_packets (journal_event history (Noted station note))
    ∙ still_packets (journal_of history) _ (note_other (side_of station) (links.link_of station) (links.last_of station) note)

-- a note goes on but where a link of the side is shut in a turn in which no packet was on the air
note_goes : (side own : Side) (front : List Entry) (link_of : ℕ → ℕ) (last : ℕ) (note : Note)
    → ((is_side own side && (turn_packets front == 0)) ≡ true → is_shutting note ≡ false)
    → goes_on side front (entry_of own link_of last note) ≡ false
note_goes side own front link_of last (UpNote packet) none = refl
note_goes side own front link_of last (ShutNote handle reason) none = by (is_side own side && (turn_packets front == 0)) none
  where
    by : (early : Bool) → (early ≡ true → true ≡ false) → early ≡ false
    by true never = never refl
    by false never = refl
note_goes side own front link_of last note none = refl

module _ (side : Side) where
  abbrev FullAt : List Event → Type 0
  FullAt history = was_full side (journal_of history) ≡ true

  -- none of these notes shuts a link of the side before the packets of the turn
  abbrev pub ShutNoneEarly : ℕ → List Event → List Note → Type 0
  ShutNoneEarly station history notes =
      (is_side (side_of station) side && (turn_packets (journal_of history) == 0)) ≡ true → AreNot is_shutting notes

  same_early : (station : ℕ) (history after : List Event) (notes : List Note)
      → turn_packets (journal_of after) ≡ turn_packets (journal_of history) → ShutNoneEarly station history notes → ShutNoneEarly station after notes
  same_early station history after notes same none = λ early.
      none (ap (λ count. is_side (side_of station) side && (count == 0)) (sym same) ∙ early)

  notes_full : (station : ℕ) (notes : List Note) (history : List Event) → ShutNoneEarly station history notes → FullAt history
      → FullAt (history ++ map (Noted station) notes)
  notes_full station [] history none was = ap (λ (h : List Event). was_full side (journal_of h)) (append-nil history) ∙ was
  notes_full station (note ∷ notes) history none was =
      let noted = history ++ Noted station note ∷ [] in
      let one : FullAt noted =
      ap (was_full side) (journal_event history (Noted station note))
      ∙ still_full side (journal_of history) _ (note_goes side (side_of station) (journal_of history) _ _ note (λ early. (none early).0)) was in
      ap (λ (h : List Event). was_full side (journal_of h)) (sym (append_assoc history (Noted station note ∷ []) (map (Noted station) notes)))
      ∙ notes_full station notes noted
      (same_early station history noted notes (noted_packets station history note) (λ early. (none early).1)) one

  called_packets : (station : ℕ) (step : Step) (history : List Event)
      → turn_packets (journal_of (history ++ Called station step ∷ [])) ≡ turn_packets (journal_of history)
  called_packets station step history = ap turn_packets (journal_event history (Called station step) ∙ append-nil (journal_of history))

  pub call_full : (station : ℕ) (step : Step) (notes : List Note) (history : List Event) → ShutNoneEarly station history notes → FullAt history
      → FullAt (history ++ Called station step ∷ map (Noted station) notes)
  call_full station step notes history none was =
      let before = history ++ Called station step ∷ [] in
      let called : FullAt before =
      ap (was_full side) (journal_event history (Called station step) ∙ append-nil (journal_of history)) ∙ was in
      ap (λ (h : List Event). was_full side (journal_of h)) (sym (append_assoc history (Called station step ∷ []) (map (Noted station) notes)))
      ∙ notes_full station notes before (same_early station history before notes (called_packets station step history) none) called

  -- and with more of them
  pub call_full_on : (station : ℕ) (step : Step) (notes more : List Note) (history : List Event) → ShutNoneEarly station history more
      → FullAt (history ++ Called station step ∷ map (Noted station) notes)
      → FullAt (history ++ Called station step ∷ map (Noted station) (notes ++ more))
  call_full_on station step notes more history none was =
      let before = history ++ Called station step ∷ map (Noted station) notes in
      ap (λ noted. was_full side (journal_of (history ++ Called station step ∷ noted))) (map_both station notes more)
      ∙ ap (λ (h : List Event). was_full side (journal_of h))
      (sym (append_assoc history (Called station step ∷ map (Noted station) notes) (map (Noted station) more)))
      ∙ notes_full station more before
      (same_early station history before more (in_call_reads ℕ turn_packets still_packets station step history notes) none) was

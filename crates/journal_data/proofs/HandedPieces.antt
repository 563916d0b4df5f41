-- The data of a link that its host receives as a turn ends, and then what is left of it, is all that waited.
use Rattle.std.proofs.Common.{◌≡◌, ℕ, ◌<◌, ◌≤◌, ◌==◌, Bool, true, false, List, [], ◌∷◌, ◌++◌, cond, map, refl, ap, sym, ◌∙◌, append-nil, arith}
use Rattle.std.specs.Prelude.{flat_map}
use Rattle.std.specs.List.{filter}
use Rattle.std.proofs.lemmas.Bool.{eqb-true, eqb-false}
use Rattle.std.proofs.lemmas.Grind.{flat_map-append}
use Rattle.std.proofs.lemmas.List.Elements.{filter-append}
use Rattle.acl_banks.specs.declared.pieces.Piece.{Piece}
use Rattle.ble_base.specs.declared.notes.Note.TheVariants.{Up}
use Rattle.hci_evt.specs.Event.{written}
use Rattle.hci_evt.specs.declared.event.Event.{Event}
use Rattle.hci_evt.specs.declared.event.Event.TheVariants.{CompletedPackets}
use Rattle.host_view.specs.Flow.{left_of}
use Rattle.wire_fields.specs.Field.{little_endian}
use Rattle.journal_acks.specs.open_links.Data.{completed_from}
use Rattle.journal_acks.specs.controller_model.Data.{event_completed, note_received, notes_handed, notes_pieces, pieces_handed}
use Rattle.journal_acks.specs.controller_model.Events.{notes_of_events}
use Rattle.journal_acks.specs.controller_model.Facts.{Facts}
use Rattle.journal_acks.specs.controller_model.Since.{data_of_piece, data_up, data_waiting, is_piece_on}
use Rattle.journal_acks.proofs.controller_model.DataBooks.{handed_data as own_data, none_up, not_handed}
use Rattle.journal_acks.proofs.controller_model.Handing.{handed_are, handed_first}
use Rattle.journal_acks.proofs.controller_model.OtherNotes.{data_other}
use Rattle.journal_acks.proofs.controller_model.PiecesBelow.{AreBelow}
use Rattle.journal_data.proofs.Reported.{of_events}

-- ---- all of them

pieces_data : (most handle : ℕ) → most ≤ 4096 → (pieces : List (ℕ × Piece)) → AreBelow most pieces
    → flat_map (data_up handle) (map note_received pieces) ≡ data_waiting handle pieces
pieces_data most handle few [] below = refl
pieces_data most handle few (piece ∷ pieces) below = by (piece.0 == handle) refl (pieces_data most handle few pieces below.1)
  where
    by : (own : Bool) → (piece.0 == handle) ≡ own → flat_map (data_up handle) (map note_received pieces) ≡ data_waiting handle pieces
        → data_up handle (note_received piece) ++ flat_map (data_up handle) (map note_received pieces)
        ≡ flat_map data_of_piece (cond (piece.0 == handle) (piece ∷ filter (is_piece_on handle) pieces) (filter (is_piece_on handle) pieces))
    by true is rest =
        let here = own_data handle piece (let first = below.0 in omega (arith, first, few)) (eqb-true piece.0 handle is) in
        (λ i. here i ++ rest i)
        ∙ ap (λ (own : Bool). flat_map data_of_piece (cond own (piece ∷ filter (is_piece_on handle) pieces) (filter (is_piece_on handle) pieces))) (sym is)
    by false is rest =
        let here = not_handed handle (note_received piece) ((data_other most handle piece below.0 (eqb-false piece.0 handle is)).handed_none few) in
        (λ i. here i ++ rest i)
        ∙ ap (λ (own : Bool). flat_map data_of_piece (cond own (piece ∷ filter (is_piece_on handle) pieces) (filter (is_piece_on handle) pieces))) (sym is)

-- an event is no data
event_data : (handle : ℕ) (event : Event) → data_up handle (Up (record { items = written event })) ≡ []
unfolding little_endian
event_data handle (CompletedPackets other count) = refl
event_data handle event = refl

waiting_parts : (handle : ℕ) (first rest : List (ℕ × Piece)) → data_waiting handle first ++ data_waiting handle rest ≡ data_waiting handle (first ++ rest)
waiting_parts handle first rest =
    sym (flat_map-append data_of_piece (filter (is_piece_on handle) first) (filter (is_piece_on handle) rest))
    ∙ ap (flat_map data_of_piece) (sym (filter-append (is_piece_on handle) first rest))

pub handed_data : (most handle : ℕ) → most ≤ 4096 → (facts : Facts) → AreBelow most facts.received
    → flat_map (data_up handle) (notes_handed facts) ++ data_waiting handle (left_of facts.view facts.received)
    ≡ data_waiting handle facts.received
handed_data most handle few facts below =
    let pieces = pieces_handed facts in
    let left = data_waiting handle (left_of facts.view facts.received) in
    let events = map event_completed (completed_from 0 facts.links) in
    let none = none_up handle (notes_of_events facts.view events)
    (of_events (λ note. data_up handle note ≡ []) (event_data handle) (λ shut. refl) facts.view events) in
    let own = pieces_data most handle few pieces (handed_are (λ (piece : ℕ × Piece). piece.0 < most) facts.view facts.received below) in
    ap (λ octets. octets ++ left) (flat_map-append (data_up handle) (notes_pieces facts) (notes_of_events facts.view events)
    ∙ (λ i. own i ++ none i) ∙ append-nil (data_waiting handle pieces))
    ∙ waiting_parts handle pieces (left_of facts.view facts.received) ∙ ap (data_waiting handle) (handed_first facts.view facts.received)

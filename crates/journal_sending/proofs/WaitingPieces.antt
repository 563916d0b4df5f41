-- What waits for a host by the lines of its side is what its controller holds for it.
use Rattle.std.proofs.Common.{◌≡◌, ℕ, zero, suc, ◌+◌, ◌≤◌, ◌<◌, ◌==◌, ◌&&◌, Bool, true, false, cond, Option, Some, None, List, [], ◌∷◌, length, nat_lt, refl, sym, ap, ◌∙◌, length-append, arith}
use Rattle.std.specs.Prelude.{filter, flat_map, is_some}
use Rattle.std.proofs.lemmas.Bool.{eqb-true}
use Rattle.std.proofs.lemmas.List.Elements.{filter-append}
use Rattle.acl_banks.specs.declared.pieces.Piece.{Piece}
use Rattle.ble_base.specs.declared.notes.Note.{Note}
use Rattle.ble_base.specs.declared.notes.Note.TheVariants.{Took, Up}
use Rattle.journal_hosts.specs.HostFlow.{has_room_on, waiting_of, waiting_on}
use Rattle.journal_leaving.specs.controller_model.Facts.{Facts}
use Rattle.journal_leaving.specs.controller_model.Heard.{has_room}
use Rattle.journal_leaving.specs.controller_model.Since.{is_data_on, is_handed_up_on, is_piece_on, since_opened}
use Rattle.journal_leaving.specs.link_model.Data.{is_data}
use Rattle.journal_leaving.specs.run_model.History.{Event, noted_by, past_of}
use Rattle.journal_leaving.specs.run_model.Journal.{journal_of, side_of}
use Rattle.journal_leaving.specs.run_model.Run.{Given, facts_at, setup_at}
use Rattle.journal_leaving.specs.journal_data.HostLines.{OpenUnder}
use Rattle.journal_leaving.specs.journal_data.Lines.{Lines, PduLine, pdus_on}
use Rattle.journal_leaving.specs.journal_data.open_links.OpenLinks.{OpenLink, link_at}
use Rattle.journal_leaving.proofs.controller_model.PiecesBelow.{AreBelow, all_pieces}
use Rattle.journal_leaving.proofs.journal_acks.Exchanging.{number_at}
use Rattle.journal_leaving.proofs.journal_data.Booked.{line_if, received_at, received_line, took_line, up_line}
use Rattle.journal_leaving.proofs.journal_data.EachLine.{lines_at, numbers_at}
use Rattle.journal_leaving.proofs.journal_data.Ends.{IsWell}
use Rattle.journal_leaving.proofs.journal_data.HeldLinks.{sum_open}
use Rattle.journal_leaving.proofs.journal_data.Openness.{is_open}
use Rattle.journal_sending.proofs.PieceBooks.{count_more, count_of, is_data_took, none_waiting, pieces_counted}

-- ---- the lines of a link

one_each : {X Y : Type 0} (is : Bool) (one : X) (other : Y) → length (cond is (one ∷ []) []) ≡ length (cond is (other ∷ []) [])
one_each true one other = refl
one_each false one other = refl

abbrev data_lines : List PduLine → List PduLine
data_lines lines = filter (λ (one : PduLine). is_data one.pdu) lines

took_lines : (handle link : ℕ) (since : List Note) → length (data_lines (flat_map (took_line handle link) since)) ≡ count_of (is_data_took handle) since
took_lines handle link [] = refl
took_lines handle link (note ∷ since) =
    let rest = flat_map (took_line handle link) since in
    let lines = ap length (filter-append (λ (one : PduLine). is_data one.pdu) (took_line handle link note) rest)
    ∙ length-append (data_lines (took_line handle link note)) (data_lines rest) in
    let notes = count_more (is_data_took handle) (note ∷ []) since in
    let first = by note in
    let later = took_lines handle link since in
    omega (arith, lines, notes, first, later)
  where
    one_took : (own : Bool) (number llid : ℕ) (octets : List ℕ) (note : Note)
        → length (data_lines (line_if own link number llid octets)) ≡ length (cond (own && is_data (record { llid = llid; body = octets })) (note ∷ []) [])
    one_took true number llid octets note = one_each (is_data (record { llid = llid; body = octets })) _ note
    one_took false number llid octets note = refl

    by : (note : Note) → length (data_lines (took_line handle link note)) ≡ count_of (is_data_took handle) (note ∷ [])
    by (Took other number llid body) = one_took (other == handle) number llid body.items (Took other number llid body)
    by (Up packet) = refl
    by note = refl

up_lines : (handle link : ℕ) (since : List Note) → length (flat_map (up_line handle link) since) ≡ count_of (is_handed_up_on handle) since
up_lines handle link [] = refl
up_lines handle link (note ∷ since) =
    let lines = length-append (up_line handle link note) (flat_map (up_line handle link) since) in
    let notes = count_more (is_handed_up_on handle) (note ∷ []) since in
    let first = by note in
    let later = up_lines handle link since in
    omega (arith, lines, notes, first, later)
  where
    by : (note : Note) → length (up_line handle link note) ≡ count_of (is_handed_up_on handle) (note ∷ [])
    by (Up packet) = one_each (is_data_on handle packet.items) (received_line link packet.items) (Up packet)
    by note = refl

-- ---- pieces by handle

-- how many of these pieces are under handles of a range
abbrev pieces_from : List (ℕ × Piece) → ℕ → ℕ → ℕ
pieces_from received first zero = 0
pieces_from received first (suc more) = length (filter (is_piece_on first) received) + pieces_from received (first + 1) more

no_pieces : (first more : ℕ) → pieces_from [] first more ≡ 0
no_pieces first zero = refl
no_pieces first (suc more) = let rest = no_pieces (first + 1) more in omega (arith, rest)

is_apart : (n first : ℕ) → n < first → (n == first) ≡ false
is_apart n first below = grind (arith, below)

later_than : (n first : ℕ) → first ≤ n → (n == first) ≡ false → first + 1 ≤ n
later_than n first from differs = grind (arith, from, differs)

module _ (piece : ℕ × Piece) (received : List (ℕ × Piece)) where
  -- what is under one handle
  one_under : (first : ℕ) (own : Bool) → (piece.0 == first) ≡ own
      → length (filter (is_piece_on first) (piece ∷ received)) ≡ cond own (suc (length (filter (is_piece_on first) received))) (length (filter (is_piece_on first) received))
  one_under first true is = ap (λ (own : Bool). length (cond own (piece ∷ filter (is_piece_on first) received) (filter (is_piece_on first) received))) is
  one_under first false is = ap (λ (own : Bool). length (cond own (piece ∷ filter (is_piece_on first) received) (filter (is_piece_on first) received))) is

  before_them : (first more : ℕ) → piece.0 < first → pieces_from (piece ∷ received) first more ≡ pieces_from received first more
  before_them first zero below = refl
  before_them first (suc more) below =
      let here = one_under first false (is_apart piece.0 first below) in
      let rest = before_them (first + 1) more (omega (arith, below)) in
      omega (arith, here, rest)

  among_them : (first more : ℕ) → first ≤ piece.0 → piece.0 < first + more → pieces_from (piece ∷ received) first more ≡ suc (pieces_from received first more)
  among_them first zero from within = absurd (omega (arith, from, within))
  among_them first (suc more) from within = by (piece.0 == first) refl (λ later. among_them (first + 1) more later (omega (arith, within)))
    where
      by : (own : Bool) → (piece.0 == first) ≡ own
          → (first + 1 ≤ piece.0 → pieces_from (piece ∷ received) (first + 1) more ≡ suc (pieces_from received (first + 1) more))
          → pieces_from (piece ∷ received) first (suc more) ≡ suc (pieces_from received first (suc more))
      by true is later =
          let here = one_under first true is in
          let same = eqb-true piece.0 first is in
          let rest = before_them (first + 1) more (omega (arith, same)) in
          omega (arith, here, rest)
      by false is later =
          let here = one_under first false is in
          let rest = later (later_than piece.0 first from is) in
          omega (arith, here, rest)

all_counted : (most : ℕ) (received : List (ℕ × Piece)) → AreBelow most received → pieces_from received 0 most ≡ length received
all_counted most [] below = no_pieces 0 most
all_counted most (piece ∷ received) below =
    among_them piece received 0 most (omega arith) (let few = below.0 in omega (arith, few)) ∙ ap (λ n. suc n) (all_counted most received below.1)

-- ---- a station

module _ (given : Given) (station : ℕ) (history : List Event) (few : (setup_at given station).links ≤ 4096) (well : IsWell given station history) where
  abbrev facts : Facts
  facts = facts_at given station history

  abbrev many : ℕ
  many = (setup_at given station).links

  abbrev lines : Lines
  lines = lines_at station history

  abbrev under : ℕ → ℕ
  under handle = length (filter (is_piece_on handle) facts.received)

  waits_under : (handle : ℕ) (link : OpenLink) → link_at handle facts.links ≡ Some link → waiting_of lines (number_at station handle history) ≡ under handle
  waits_under handle link at =
      let number = number_at station handle history in
      let since = since_opened handle (noted_by station history) in
      let book = well.booked.book handle link at in
      let taken : length (data_lines (pdus_on number lines.taken)) ≡ count_of (is_data_took handle) since =
      ap (λ all. length (data_lines all)) book.taken ∙ took_lines handle number since in
      let up : length (received_at number lines.received) ≡ count_of (is_handed_up_on handle) since = ap length book.received ∙ up_lines handle number since in
      let counted : count_of (is_handed_up_on handle) since + under handle ≡ count_of (is_data_took handle) since =
      ap (λ notes. count_of (is_handed_up_on handle) (since_opened handle notes) + under handle) well.noted
      ∙ pieces_counted (setup_at given station) (past_of station history) handle link few at
      ∙ ap (λ notes. count_of (is_data_took handle) (since_opened handle notes)) (sym well.noted) in
      omega (arith, taken, up, counted)

  abbrev waits : OpenUnder → ℕ
  waits one = waiting_of lines one.link

  here_waits : (handle : ℕ) → cond (is_open facts.links handle) (waits (record { link = numbers_at station history handle; handle = handle })) 0 ≡ under handle
  here_waits handle = by (link_at handle facts.links) refl
    where
      by : (place : Option OpenLink) → link_at handle (facts_at given station history).links ≡ place
          → ◌≡◌ {A = ℕ} (cond (is_some place) (waits (record { link = numbers_at station history handle; handle = handle })) 0) (under handle)
      by None at = ap length (sym (none_waiting (setup_at given station) (past_of station history) handle few at))
      by (Some link) at = waits_under handle link at

  sum_waits : (first more : ℕ) → sum_open waits (numbers_at station history) (is_open facts.links) first more ≡ pieces_from facts.received first more
  sum_waits first zero = refl
  sum_waits first (suc more) =
      let here = here_waits first in
      let rest = sum_waits (first + 1) more in
      omega (arith, here, rest)

  pub waiting_is : waiting_on (side_of station) (journal_of history) ≡ length facts.received
  waiting_is =
      well.booked.links.sums waits ∙ sum_waits 0 many
      ∙ all_counted many facts.received (all_pieces (setup_at given station) (past_of station history)).below

  -- so there is room by its lines where there is room
  pub room_is : (setup_at given station).air_buffers ≡ 8 → has_room_on (side_of station) (journal_of history) ≡ has_room (setup_at given station) facts
  room_is eight = λ i. nat_lt (waiting_is i) (sym eight i)

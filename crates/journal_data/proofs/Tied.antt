-- The lines of a side say of each open link what its end holds.
use Rattle.std.proofs.Common.{◌≡◌, ℕ, ◌+◌, ◌≤◌, List, Some, sym, ap, ◌∙◌, ◌++◌}
use Rattle.std.specs.List.{filter, flat_map, sum_by}
use Rattle.ble_base.specs.declared.notes.Note.{Note}
use Rattle.ack_bit.specs.Nonempty.{nonempty}
use Rattle.journal_acks.specs.link_model.Data.{is_empty}
use Rattle.journal_acks.specs.open_links.OpenLinks.{OpenLink, facts_in, link_at}
use Rattle.journal_acks.specs.controller_model.Since.{data_up, data_waiting, empties_of, is_sent_on, is_took_on, since_opened}
use Rattle.journal_acks.proofs.controller_model.DataBooks.{data_is_handed}
use Rattle.journal_acks.proofs.controller_model.NoteBooks.{sent_notes_are, took_notes_are}
use Rattle.journal_acks.specs.run_model.Feeding.{HasNoted}
use Rattle.journal_acks.specs.run_model.History.{Event, noted_by, past_of}
use Rattle.journal_acks.specs.run_model.Run.{Given, facts_at, setup_at}
use Rattle.journal_acks.proofs.Exchanging.{number_at}
use Rattle.journal_data.specs.Lines.{data_on, empties_on}
use Rattle.journal_data.proofs.Arriving.{IsEndBooked}
use Rattle.journal_data.proofs.Booked.{IsBook, count_up, data_booked}
use Rattle.journal_data.proofs.EachLine.{lines_at}
use Rattle.journal_data.proofs.NotedPdus.{noted_sent, noted_took}

-- what a station noted since the link under a handle was opened
abbrev pub since_at : ℕ → ℕ → List Event → List Note
since_at station handle history = since_opened handle (noted_by station history)

pub tied : (given : Given) (station handle : ℕ) (history : List Event) (link : OpenLink) → (setup_at given station).links ≤ 4096 → HasNoted given station history
    → link_at handle (facts_at given station history).links ≡ Some link
    → IsBook handle (number_at station handle history) (lines_at station history) (since_at station handle history)
    → sum_by (count_up handle) (since_at station handle history)
    ≡ (facts_in link).outgoing.reported + empties_of (setup_at given station) handle (past_of station history)
    → data_on (number_at station handle history) (lines_at station history) ≡ (facts_in link).outgoing.given
    → empties_on (number_at station handle history) (lines_at station history) ≡ empties_of (setup_at given station) handle (past_of station history)
    → IsEndBooked (number_at station handle history) (lines_at station history) (facts_in link) (data_waiting handle (facts_at given station history).received)
tied given station handle history link few noted at book credited submitted empties =
    let setup = setup_at given station in
    let past = past_of station history in
    let number = number_at station handle history in
    let ack = (facts_in link).acknowledgement in
    let same = ap (since_opened handle) noted in
    record {
      sent = book.sent ∙ noted_sent handle number (since_at station handle history) (nonempty is_empty ack.sent)
          (ap (filter (is_sent_on handle)) same ∙ sent_notes_are setup past handle link at);
      taken = book.taken ∙ noted_took handle number (since_at station handle history) (nonempty is_empty ack.accepted)
          (ap (filter (is_took_on handle)) same ∙ took_notes_are setup past handle link at);
      received = ap (λ octets. octets ++ data_waiting handle (facts_at given station history).received) (data_booked handle number (lines_at station history) (since_at station handle history) book ∙ ap (flat_map (data_up handle)) same)
          ∙ data_is_handed setup past handle link few at;
      credited = book.credited ∙ credited ∙ ap (λ n. (facts_in link).outgoing.reported + n) (sym empties);
      submitted = submitted;
    }

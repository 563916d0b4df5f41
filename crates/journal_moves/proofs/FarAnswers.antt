-- A call of the other station leaves whether a peripheral answers, by the lines of its side.
use Rattle.std.proofs.Common.{◌≡◌, ◌≢◌, ℕ, ◌==◌, true, false, Option, Some, None, List, [], ◌∷◌, ◌++◌, map, refl, sym, ap, ◌∙◌, append-nil}
use Rattle.std.specs.Option.{option_map}
use Rattle.ble_base.specs.declared.notes.Note.{Note}
use Rattle.ble_base.specs.declared.roles.Side.{Side}
use Rattle.journal.specs.declared.entries.Entry.{Entry}
use Rattle.journal_wants.specs.controller_model.Side.{notes_after}
use Rattle.journal_wants.specs.controller_model.Step.{Step}
use Rattle.journal_wants.specs.journal_controls.LineSteps.{control_on, keyed_on}
use Rattle.journal_wants.specs.journal_controls.journal_ends.Asked.{Words}
use Rattle.journal_wants.specs.journal_controls.journal_ends.GivenWords.{AreKept}
use Rattle.journal_wants.specs.journal_controls.journal_ends.Seen.{Says}
use Rattle.journal_wants.specs.journal_controls.link_model.keyed_control.Keyed.{Keyed}
use Rattle.journal_wants.specs.journal_data.Held.{links_open}
use Rattle.journal_wants.specs.journal_data.HostLines.{link_under}
use Rattle.journal_wants.specs.journal_links.LinkLines.{lines_of, link_named, where_named}
use Rattle.journal_wants.specs.run_model.History.{Called, Event, Noted}
use Rattle.journal_wants.specs.run_model.Journal.{entry_of, journal_of, side_of}
use Rattle.journal_wants.specs.run_model.Links.{links_of}
use Rattle.journal_wants.specs.run_model.Run.{Given, after_call, facts_at, setup_at}
use Rattle.journal_wants.proofs.FarLinks.{far_open}
use Rattle.journal_wants.proofs.journal_acks.Exchanging.{any_note, call_keeps}
use Rattle.journal_wants.proofs.journal_acks.TwoStations.{IsOfTwo, other_apart}
use Rattle.journal_wants.proofs.journal_acks.run_laws.InAgreement.{differs_back}
use Rattle.journal_wants.proofs.journal_leaving.EventMoves.{call_stays, leaving_at}
use Rattle.journal_wants.proofs.journal_leaving.journal_controls.EventMoves.{keyed_at}
use Rattle.journal_wants.proofs.journal_leaving.journal_controls.LineFolds.{keyed_more, quiet_line}
use Rattle.journal_wants.proofs.journal_leaving.journal_controls.host_answers.LineAnswers.{far_quiet}
use Rattle.journal_wants.proofs.journal_leaving.journal_ends.SeenEvents.{lines_at, note_hears, unaccepted_by, unanswered_in, unasked_in}
use Rattle.journal_wants.proofs.journal_links.LinkLines.{across, line_more}
use Rattle.journal_wants.proofs.journal_links.OfTwo.{two_apart}
use Rattle.journal_wants.proofs.run_model.Parts.{journal_event}
use Rattle.journal_wants.proofs.run_model.Stations.{is_in}
use Rattle.journal_moves.specs.Doing.{answer_unless, ended_under, has_ended, peripheral_answers}

-- ---- an end of another side

module _ (words : Words) (number : ℕ) (side : Side) (caller : ℕ) (apart : side ≢ side_of caller) where
  far_keyed : (before : List Event) (note : Note)
      → keyed_at words number side (before ++ Noted caller note ∷ []) ≡ keyed_at words number side before
  far_keyed before note =
      let front = journal_of before in
      let links = links_of before in
      let line = entry_of (side_of caller) (links.link_of caller) (links.last_of caller) note in
      let unaccepted =
      unaccepted_by side front line
      ((far_quiet side caller (note ∷ []) apart).0 (links.link_of caller) (links.last_of caller)) in
      let unasked = unasked_in words side number front line unaccepted in
      let deaf = note_hears number side (side_of caller) front (links.link_of caller) (links.last_of caller) note in
      let none : where_named side number (link_named line) line ≡ [] =
      sym (append-nil (where_named side number (link_named line) line))
      ∙ across side (side_of caller) number (links.link_of caller) (links.last_of caller) note apart in
      ap (keyed_on words side number) (journal_event before (Noted caller note))
      ∙ keyed_more words side number front line
      ∙ quiet_line words side number front (keyed_on words side number front) line
      (λ i. unasked i ++ (deaf i ++ map Says (none i)))
      (unanswered_in words side number front line unaccepted)

  far_lines : (before : List Event) (note : Note)
      → lines_at number side (before ++ Noted caller note ∷ []) ≡ lines_at number side before
  far_lines before note =
      let links = links_of before in
      ap (lines_of side number) (journal_event before (Noted caller note))
      ∙ line_more side number (journal_of before) _ []
      (across side (side_of caller) number (links.link_of caller) (links.last_of caller) note apart)
      ∙ append-nil (lines_at number side before)

  module _ (given : Given) (step : Step) (history : List Event) where
    abbrev after : List Event
    after = after_call given caller step history

    begun : journal_of (history ++ Called caller step ∷ []) ≡ journal_of history
    begun = journal_event history (Called caller step) ∙ append-nil (journal_of history)

    keyed_same : keyed_at words number side after ≡ keyed_at words number side history
    keyed_same =
        call_keeps (Option Keyed) (keyed_at words number side) (λ note. true ≡ true) caller
        (λ before note any. far_keyed before note) given step history
        (ap (keyed_on words side number) begun) (any_note _)

    control_same : control_on words side number (journal_of after) ≡ control_on words side number (journal_of history)
    unfolding control_on
    control_same = ap (option_map (λ (k : Keyed). k.phased.control)) keyed_same

    leaving_same : AreKept words → leaving_at words number side after ≡ leaving_at words number side history
    leaving_same kept =
        let lines : lines_at number side after ≡ lines_at number side history =
        call_keeps (List Entry) (lines_at number side) (λ note. true ≡ true) caller
        (λ before note any. far_lines before note) given step history
        (ap (lines_of side number) begun) (any_note _) in
        call_stays words given number side caller step history kept
        (far_quiet side caller (notes_after (setup_at given caller) (facts_at given caller history) step) apart)
        (lines ∙ sym (append-nil (lines_at number side history)))

-- ---- so it answers as before

pub still_answers : (words : Words) (given : Given) → IsOfTwo given → AreKept words
    → (station : ℕ) (step : Step) (history : List Event) → is_in station given.stations ≡ true
    → (other : ℕ) → is_in other given.stations ≡ true → (other == station) ≡ false → (handle : ℕ)
    → peripheral_answers words (side_of other) (journal_of (after_call given station step history)) handle
    ≡ peripheral_answers words (side_of other) (journal_of history) handle
still_answers words given are_two kept station step history in_it other in_other differs handle =
    let side = side_of other in
    let after = after_call given station step history in
    let open_now =
    far_open given side station step history
    (other_apart given are_two other station in_other in_it (differs_back other station differs)) in
    (λ i. answer_unless (ended_under words side (journal_of after) (link_under handle (open_now i))) handle)
    ∙ ap (λ ended. answer_unless ended handle) (by (link_under handle (links_open side (journal_of history))))
  where
    by : (found : Option ℕ)
        → ended_under words (side_of other) (journal_of (after_call given station step history)) found
        ≡ ended_under words (side_of other) (journal_of history) found
    by None = refl
    by (Some number) =
        let apart = two_apart given are_two other in_other station in_it differs in
        λ i. has_ended (control_same words number (side_of other) station apart given step history i)
        (leaving_same words number (side_of other) station apart given step history kept i)

-- A call that adds no line of an end leaves its event by the journal, and so does any call of the other station.
use Rattle.std.proofs.Common.{◌≡◌, ◌≢◌, ℕ, true, List, [], ◌∷◌, sym, ap, ◌∙◌, append-nil}
use Rattle.std.specs.Prelude.{All}
use Rattle.ble_base.specs.declared.notes.Note.{Note}
use Rattle.ble_base.specs.declared.roles.Side.{Side}
use Rattle.journal.specs.declared.entries.Entry.{Entry}
use Rattle.journal_sending.specs.journal_leaving.controller_model.Side.{notes_after}
use Rattle.journal_sending.specs.journal_leaving.controller_model.Step.{Step}
use Rattle.journal_sending.specs.journal_leaving.journal_ends.Asked.{Words}
use Rattle.journal_sending.specs.journal_leaving.journal_ends.GivenWords.{AreKept}
use Rattle.journal_sending.specs.journal_leaving.journal_links.LinkLines.{lines_of}
use Rattle.journal_sending.specs.journal_leaving.run_model.History.{Event, Called, Noted}
use Rattle.journal_sending.specs.journal_leaving.run_model.Journal.{entry_of, journal_of, side_of}
use Rattle.journal_sending.specs.journal_leaving.run_model.Links.{links_of}
use Rattle.journal_sending.specs.journal_leaving.run_model.Run.{Given, after_call, facts_at, setup_at}
use Rattle.journal_sending.proofs.journal_leaving.journal_acks.Exchanging.{any_note, call_keeps}
use Rattle.journal_sending.proofs.journal_leaving.journal_controls.EventMoves.{AnswersNone}
use Rattle.journal_sending.proofs.journal_leaving.journal_controls.host_answers.LineAnswers.{far_quiet}
use Rattle.journal_sending.proofs.journal_leaving.journal_ends.SeenEvents.{lines_at}
use Rattle.journal_sending.proofs.journal_leaving.journal_links.LinkLines.{across, line_more}
use Rattle.journal_sending.proofs.journal_leaving.run_model.Parts.{journal_event}
use Rattle.journal_events.proofs.EventMoves.{call_stays, event_at}

module _ (words : Words) (given : Given) (number : ℕ) (side : Side) (station : ℕ) (step : Step)
    (history : List Event) (kept : AreKept words) where
  -- a call whose notes have this fact, with which none says a line of the end
  pub unnamed_still : (P : Note → Type 0)
      → ((link_of : ℕ → ℕ) (last : ℕ) (note : Note) → P note
      → lines_of side number (entry_of (side_of station) link_of last note ∷ []) ≡ [])
      → All P (notes_after (setup_at given station) (facts_at given station history) step)
      → AnswersNone given side station step history
      → event_at words number side (after_call given station step history) ≡ event_at words number side history
  unnamed_still P none all quiet =
      call_stays words given number side station step history kept quiet
      (call_keeps (List Entry) (lines_at number side) P station
      (λ before note is. let links = links_of before in
      ap (lines_of side number) (journal_event before (Noted station note))
      ∙ line_more side number (journal_of before) _ [] (none (links.link_of station) (links.last_of station) note is)
      ∙ append-nil (lines_at number side before))
      given step history
      (ap (lines_of side number) (journal_event history (Called station step) ∙ append-nil (journal_of history))) all
      ∙ sym (append-nil (lines_at number side history)))

  pub far_still : side ≢ side_of station
      → event_at words number side (after_call given station step history) ≡ event_at words number side history
  far_still apart =
      unnamed_still (λ note. true ≡ true)
      (λ link_of last note any. across side (side_of station) number link_of last note apart) (any_note _)
      (far_quiet side station (notes_after (setup_at given station) (facts_at given station history) step) apart)

-- The event of an end after a call in which its host asks of it.
use Rattle.std.proofs.Common.{◌≡◌, ℕ, true, false, Option, Some, None, List, [], ◌∷◌, ◌++◌, map, refl, sym, ap, ◌∙◌, append-nil, append_assoc}
use Rattle.std.specs.List.{AllByRecursion}
use Rattle.ble_base.specs.declared.notes.Note.{Note}
use Rattle.ble_base.specs.declared.roles.Side.{Side}
use Rattle.journal.specs.declared.entries.Entry.{Entry}
use Rattle.journal.specs.declared.entries.Entry.TheVariants.{Air}
use Rattle.journal_sending.specs.journal_leaving.controller_model.Side.{notes_after}
use Rattle.journal_sending.specs.journal_leaving.controller_model.Step.{Step as Call}
use Rattle.journal_sending.specs.journal_leaving.Leaving.{is_own_packet}
use Rattle.journal_sending.specs.journal_leaving.journal_controls.LineSteps.{keyed_on}
use Rattle.journal_sending.specs.journal_leaving.journal_controls.host_answers.Calls.{call_lines}
use Rattle.journal_sending.specs.journal_leaving.journal_ends.Answering.{answers_from, answers_if, answers_in_line, answers_in_step}
use Rattle.journal_sending.specs.journal_leaving.journal_ends.Asked.{Words}
use Rattle.journal_sending.specs.journal_leaving.journal_ends.Seen.{Asks, Seen, asked_if, asked_in_step, heard_in_line, seen_from, seen_in_line}
use Rattle.journal_sending.specs.journal_leaving.link_model.Step.{Step, Disconnected, KeyAnswered, ProcedureAsked, RequestAnswered}
use Rattle.journal_sending.specs.journal_leaving.link_model.keyed_control.Keyed.{Keyed}
use Rattle.journal_sending.specs.journal_leaving.run_model.History.{Event, Noted}
use Rattle.journal_sending.specs.journal_leaving.run_model.Journal.{journal_from, journal_of, side_of}
use Rattle.journal_sending.specs.journal_leaving.run_model.Links.{Links, links_after, links_of}
use Rattle.journal_sending.specs.journal_leaving.run_model.Run.{Given, after_call, facts_at, setup_at}
use Rattle.journal_sending.proofs.journal_leaving.OtherLines.{is_other, note_other}
use Rattle.journal_sending.proofs.journal_leaving.journal_controls.LineFolds.{keyed_more, quiet_line as quiet_keyed}
use Rattle.journal_sending.proofs.journal_leaving.journal_controls.OpenedControls.{AreNone, none_of}
use Rattle.journal_sending.proofs.journal_leaving.journal_ends.AskedCalls.{call_journal}
use Rattle.journal_events.specs.EventLines.{EventLines, changed_if, event_after, event_from, event_on, lengths_differ}
use Rattle.journal_events.proofs.EndEvents.{any_still}
use Rattle.journal_events.proofs.EventMoves.{event_at}
use Rattle.journal_events.proofs.LineFolds.{answered_line, asked_line, on_both, quiet_line}

-- ---- lines that are no packets

abbrev pub AreOther : List Entry → Type 0
AreOther lines = AllByRecursion (λ line. is_other line ≡ true) lines

other_deaf : (side : Side) (number : ℕ) (front : List Entry) (line : Entry) → is_other line ≡ true → heard_in_line side number front line ≡ []
other_deaf side number front (Air sender channel octets fate verdict) other = absurd cc
other_deaf side number front line other = refl

other_own : (side : Side) (number : ℕ) (front : List Entry) (line : Entry) → is_other line ≡ true → is_own_packet side number front line ≡ false
other_own side number front (Air sender channel octets fate verdict) other = absurd cc
other_own side number front line other = refl

module _ (words : Words) (side : Side) (number : ℕ) where
  abbrev keyed : List Entry → Option Keyed
  keyed front = keyed_on words side number front

  quiet_other : (front : List Entry) (line : Entry) (e : EventLines) → is_other line ≡ true → seen_in_line words side number front line ≡ []
      → answers_in_line words side number front line ≡ [] → event_after words side number front e line ≡ e
  quiet_other front line e other none unanswered =
      quiet_line words side number front e line none unanswered (other_deaf side number front line other) (other_own side number front line other)

  still_other : (front : List Entry) (line : Entry) → seen_in_line words side number front line ≡ [] → answers_in_line words side number front line ≡ []
      → keyed (front ++ line ∷ []) ≡ keyed front
  still_other front line none unanswered = keyed_more words side number front line ∙ quiet_keyed words side number front (keyed front) line none unanswered

  pub none_seen : (front lines : List Entry) (e : EventLines) → AreOther lines → seen_from words side number front lines ≡ [] → answers_from words side number front lines ≡ []
      → event_from words side number front e lines ≡ e
  none_seen front [] e others none unanswered = refl
  none_seen front (line ∷ lines) e others none unanswered =
      let next = front ++ line ∷ [] in
      let both = none_of (seen_in_line words side number front line) (seen_from words side number next lines) none in
      let answers = none_of (answers_in_line words side number front line) (answers_from words side number next lines) unanswered in
      ap (λ before. event_from words side number next before lines) (quiet_other front line e others.0 both.first answers.first)
      ∙ none_seen next lines e others.1 both.second answers.second

  none_keyed : (front lines : List Entry) → seen_from words side number front lines ≡ [] → answers_from words side number front lines ≡ []
      → keyed (front ++ lines) ≡ keyed front
  none_keyed front [] none unanswered = ap keyed (append-nil front)
  none_keyed front (line ∷ lines) none unanswered =
      let next = front ++ line ∷ [] in
      let both = none_of (seen_in_line words side number front line) (seen_from words side number next lines) none in
      let answers = none_of (answers_in_line words side number front line) (answers_from words side number next lines) unanswered in
      ap keyed (sym (append_assoc front (line ∷ []) lines)) ∙ none_keyed next lines both.second answers.second
      ∙ still_other front line both.first answers.first

  -- ---- where one thing is asked or answered, the lengths before and after tell

  abbrev IsMoved : List Entry → List Entry → EventLines → Type 0
  IsMoved front lines e = event_from words side number front e lines ≡ changed_if (lengths_differ (keyed front) (keyed (front ++ lines))) e

  none_moved : (front lines : List Entry) (e : EventLines) → AreOther lines → seen_from words side number front lines ≡ [] → answers_from words side number front lines ≡ []
      → IsMoved front lines e
  none_moved front lines e others none unanswered =
      none_seen front lines e others none unanswered
      ∙ sym (ap (λ k. changed_if (lengths_differ (keyed front) k) e) (none_keyed front lines none unanswered) ∙ any_still (keyed front) e)

  -- by the first line alone
  first_moved : (front : List Entry) (line : Entry) (lines : List Entry) (e : EventLines) → AreOther lines
      → event_after words side number front e line ≡ changed_if (lengths_differ (keyed front) (keyed (front ++ line ∷ []))) e
      → seen_from words side number (front ++ line ∷ []) lines ≡ [] → answers_from words side number (front ++ line ∷ []) lines ≡ [] → IsMoved front (line ∷ lines) e
  first_moved front line lines e others is none unanswered =
      let next = front ++ line ∷ [] in
      none_seen next lines (event_after words side number front e line) others none unanswered ∙ is
      ∙ ap (λ k. changed_if (lengths_differ (keyed front) k) e)
      (sym (ap keyed (sym (append_assoc front (line ∷ []) lines)) ∙ none_keyed next lines none unanswered))

  -- or by a later one
  later_moved : (front : List Entry) (line : Entry) (lines : List Entry) (e : EventLines) → is_other line ≡ true → seen_in_line words side number front line ≡ []
      → answers_in_line words side number front line ≡ [] → IsMoved (front ++ line ∷ []) lines e → IsMoved front (line ∷ lines) e
  later_moved front line lines e other none unanswered later =
      ap (λ before. event_from words side number (front ++ line ∷ []) before lines) (quiet_other front line e other none unanswered)
      ∙ later
      ∙ (λ i. changed_if (lengths_differ (still_other front line none unanswered i) (keyed (append_assoc front (line ∷ []) lines i))) e)

  one_asked : (front lines : List Entry) (e : EventLines) (step : Step) → AreOther lines → seen_from words side number front lines ≡ Asks step ∷ []
      → answers_from words side number front lines ≡ [] → IsMoved front lines e
  one_asked front [] e step others is unanswered = absurd cc
  one_asked front (line ∷ lines) e step others is unanswered =
      by (seen_in_line words side number front line) refl (λ later. one_asked (front ++ line ∷ []) lines e step others.1 later answers.second)
    where
      answers : AreNone (answers_in_line words side number front line) (answers_from words side number (front ++ line ∷ []) lines)
      answers = none_of (answers_in_line words side number front line) (answers_from words side number (front ++ line ∷ []) lines) unanswered

      by : (seen : List Seen) → seen_in_line words side number front line ≡ seen
          → (seen_from words side number (front ++ line ∷ []) lines ≡ Asks step ∷ [] → IsMoved (front ++ line ∷ []) lines e) → IsMoved front (line ∷ lines) e
      by [] none then_on =
          later_moved front line lines e others.0 none answers.first (then_on (ap (λ xs. xs ++ seen_from words side number (front ++ line ∷ []) lines) (sym none) ∙ is))
      by (one ∷ more) seen then_on =
          let whole : one ∷ (more ++ seen_from words side number (front ++ line ∷ []) lines) ≡ Asks step ∷ [] =
          ap (λ xs. xs ++ seen_from words side number (front ++ line ∷ []) lines) (sym seen) ∙ is in
          let head : one ≡ Asks step = cc in
          let tail : more ++ seen_from words side number (front ++ line ∷ []) lines ≡ [] = cc in
          let both = none_of more (seen_from words side number (front ++ line ∷ []) lines) tail in
          first_moved front line lines e others.1
          (asked_line words side number front e line step others.0 (seen ∙ (λ i. head i ∷ both.first i))) both.second answers.second

  one_answered : (front lines : List Entry) (e : EventLines) (answer : Step) → AreOther lines → seen_from words side number front lines ≡ []
      → answers_from words side number front lines ≡ answer ∷ [] → IsMoved front lines e
  one_answered front [] e answer others none is = absurd cc
  one_answered front (line ∷ lines) e answer others none is =
      by (answers_in_line words side number front line) refl (λ later. one_answered (front ++ line ∷ []) lines e answer others.1 seen.second later)
    where
      seen : AreNone (seen_in_line words side number front line) (seen_from words side number (front ++ line ∷ []) lines)
      seen = none_of (seen_in_line words side number front line) (seen_from words side number (front ++ line ∷ []) lines) none

      by : (answers : List Step) → answers_in_line words side number front line ≡ answers
          → (answers_from words side number (front ++ line ∷ []) lines ≡ answer ∷ [] → IsMoved (front ++ line ∷ []) lines e) → IsMoved front (line ∷ lines) e
      by [] unanswered then_on =
          later_moved front line lines e others.0 seen.first unanswered
          (then_on (ap (λ xs. xs ++ answers_from words side number (front ++ line ∷ []) lines) (sym unanswered) ∙ is))
      by (one ∷ more) answers then_on =
          let whole : one ∷ (more ++ answers_from words side number (front ++ line ∷ []) lines) ≡ answer ∷ [] =
          ap (λ xs. xs ++ answers_from words side number (front ++ line ∷ []) lines) (sym answers) ∙ is in
          let head : one ≡ answer = cc in
          let tail : more ++ answers_from words side number (front ++ line ∷ []) lines ≡ [] = cc in
          let both = none_of more (answers_from words side number (front ++ line ∷ []) lines) tail in
          first_moved front line lines e others.1
          (answered_line words side number front e line answer others.0 (answers ∙ (λ i. head i ∷ both.first i))) seen.second both.second

  step_seen : (front lines : List Entry) (e : EventLines) (step : Step) → AreOther lines → seen_from words side number front lines ≡ asked_in_step step
      → answers_from words side number front lines ≡ answers_in_step step → IsMoved front lines e
  step_seen front lines e (ProcedureAsked ask) others is answers = one_asked front lines e (ProcedureAsked ask) others is answers
  step_seen front lines e (RequestAnswered answer) others is answers = one_answered front lines e (RequestAnswered answer) others is answers
  step_seen front lines e (KeyAnswered key slot) others is answers = one_answered front lines e (KeyAnswered key slot) others is answers
  step_seen front lines e (Disconnected reason slot) others is answers = one_asked front lines e (Disconnected reason slot) others is answers
  step_seen front lines e other others is answers = none_moved front lines e others is answers

  asked_seen : (front lines : List Entry) (e : EventLines) (asked : Option Step) → AreOther lines → seen_from words side number front lines ≡ asked_if asked
      → answers_from words side number front lines ≡ answers_if asked → IsMoved front lines e
  asked_seen front lines e None others is answers = none_moved front lines e others is answers
  asked_seen front lines e (Some step) others is answers = step_seen front lines e step others is answers

-- ---- a call

pub notes_other : (station : ℕ) (links : Links) (notes : List Note) → AreOther (journal_from links (map (Noted station) notes))
notes_other station links [] = tt
notes_other station links (note ∷ notes) = (
  note_other (side_of station) (links.link_of station) (links.last_of station) note,
  notes_other station (links_after links (Noted station note)) notes,
)

pub call_asks : (words : Words) (given : Given) (side : Side) (number station : ℕ) (step : Call) (history : List Event) (asked : Option Step)
    → seen_from words side number (journal_of history) (call_lines given station step history) ≡ asked_if asked
    → answers_from words side number (journal_of history) (call_lines given station step history) ≡ answers_if asked
    → event_at words number side (after_call given station step history)
    ≡ changed_if (lengths_differ (keyed_on words side number (journal_of history)) (keyed_on words side number (journal_of (after_call given station step history)))) (event_at words number side history)
call_asks words given side number station step history asked seen answers =
    let lines = call_lines given station step history in
    let journal = call_journal given station step history in
    ap (event_on words side number) journal ∙ on_both words side number (journal_of history) lines
    ∙ asked_seen words side number (journal_of history) lines (event_at words number side history) asked
    (notes_other station (links_of history) (notes_after (setup_at given station) (facts_at given station history) step)) seen answers
    ∙ ap (λ xs. changed_if (lengths_differ (keyed_on words side number (journal_of history)) (keyed_on words side number xs)) (event_at words number side history)) (sym journal)

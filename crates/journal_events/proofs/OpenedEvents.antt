-- An end that only said that its link is opened has entered no event.
use Rattle.std.proofs.Common.{◌≡◌, ℕ, List, [], ◌∷◌, ◌++◌, refl, sym, ap, ◌∙◌, append-nil, append_assoc}
use Rattle.ble_base.specs.declared.roles.Role.{Role}
use Rattle.ble_base.specs.declared.roles.Side.{Side}
use Rattle.journal.specs.declared.entries.Entry.{Entry}
use Rattle.journal.specs.declared.entries.Entry.TheVariants.{Opened}
use Rattle.journal_sending.specs.journal_leaving.controller_model.Step.{Step as Call}
use Rattle.journal_sending.specs.journal_leaving.run_model.History.{Event}
use Rattle.journal_sending.specs.journal_leaving.run_model.Journal.{journal_of, side_of}
use Rattle.journal_sending.specs.journal_leaving.run_model.Run.{Given, after_call, facts_at, setup_at}
use Rattle.journal_sending.specs.journal_leaving.journal_ends.Answering.{answers_from, answers_in_line}
use Rattle.journal_sending.specs.journal_leaving.journal_ends.Asked.{Words}
use Rattle.journal_sending.specs.journal_leaving.journal_ends.Seen.{Says, Seen, asked_in_line, heard_in_line, seen_from, seen_in_line, seen_on, line_said, lines_said}
use Rattle.journal_sending.specs.journal_leaving.journal_links.LinkLines.{link_named, where_named, lines_of}
use Rattle.journal_sending.proofs.journal_leaving.journal_controls.LineFolds.{named_by}
use Rattle.journal_sending.proofs.journal_leaving.journal_controls.OpenedControls.{AreNone, heard_so, none_of, same_line}
use Rattle.journal_sending.proofs.journal_leaving.journal_ends.SeenLists.{line_are_asks, says_its_lines}
use Rattle.journal_events.specs.EventLines.{EventLines, event_after, event_from, event_on, no_event_lines}
use Rattle.journal_sending.specs.journal_leaving.controller_model.Side.{notes_after}
use Rattle.journal_sending.specs.journal_leaving.journal_controls.host_answers.Calls.{call_lines}
use Rattle.journal_sending.specs.journal_leaving.run_model.Links.{links_of}
use Rattle.journal_sending.proofs.journal_leaving.journal_ends.AskedCalls.{call_journal}
use Rattle.journal_events.proofs.AskedEvents.{AreOther, none_seen, notes_other}
use Rattle.journal_events.proofs.LineFolds.{on_both, opened_line}

opened_in : (words : Words) (side : Side) (number handle : ℕ) (role : Role) (front : List Entry) (before : EventLines) (lines : List Entry) → AreOther lines
    → seen_from words side number front lines ≡ Says (Opened side number handle role) ∷ []
    → answers_from words side number front lines ≡ [] → event_from words side number front before lines ≡ no_event_lines
opened_in words side number handle role front before [] others said unanswered = absurd cc
opened_in words side number handle role front before (line ∷ lines) others said unanswered =
    by (seen_in_line words side number front line) refl
    (λ later. opened_in words side number handle role (front ++ line ∷ []) (event_after words side number front before line) lines others.1 later answers.second)
  where
    answers : AreNone (answers_in_line words side number front line) (answers_from words side number (front ++ line ∷ []) lines)
    answers = none_of (answers_in_line words side number front line) (answers_from words side number (front ++ line ∷ []) lines) unanswered

    by : (seen : List Seen) → seen_in_line words side number front line ≡ seen
        → (seen_from words side number (front ++ line ∷ []) lines ≡ Says (Opened side number handle role) ∷ []
        → event_from words side number (front ++ line ∷ []) (event_after words side number front before line) lines ≡ no_event_lines)
        → event_from words side number front before (line ∷ lines) ≡ no_event_lines
    by [] none later = later (ap (λ xs. xs ++ seen_from words side number (front ++ line ∷ []) lines) (sym none) ∙ said)
    by (one ∷ more) is later =
        let whole : one ∷ (more ++ seen_from words side number (front ++ line ∷ []) lines) ≡ Says (Opened side number handle role) ∷ [] =
        ap (λ xs. xs ++ seen_from words side number (front ++ line ∷ []) lines) (sym is) ∙ said in
        let head : one ≡ Says (Opened side number handle role) = cc in
        let tail : more ++ seen_from words side number (front ++ line ∷ []) lines ≡ [] = cc in
        let both = none_of more (seen_from words side number (front ++ line ∷ []) lines) tail in
        let alone : seen_in_line words side number front line ≡ Says (Opened side number handle role) ∷ [] = is ∙ (λ i. head i ∷ both.first i) in
        let same = same_line (asked_in_line words side number front line) (heard_in_line side number front line) (where_named side number (link_named line) line) line (Opened side number handle role)
        (line_are_asks words side number front line) (heard_so side number front line) (named_by side number (link_named line) line) alone in
        ap (λ now. event_from words side number (front ++ line ∷ []) now lines) (ap (event_after words side number front before) same ∙ opened_line words side number handle role front before)
        ∙ none_seen words side number (front ++ line ∷ []) lines no_event_lines others.1 both.second answers.second

-- ---- more lines

seen_both : (words : Words) (side : Side) (number : ℕ) (front xs ys : List Entry)
    → seen_from words side number front (xs ++ ys) ≡ seen_from words side number front xs ++ seen_from words side number (front ++ xs) ys
seen_both words side number front [] ys = ap (λ one. seen_from words side number one ys) (sym (append-nil front))
seen_both words side number front (line ∷ xs) ys =
    let next = front ++ line ∷ [] in
    ap (λ seen. seen_in_line words side number front line ++ seen) (seen_both words side number next xs ys)
    ∙ sym (append_assoc (seen_in_line words side number front line) (seen_from words side number next xs) (seen_from words side number (next ++ xs) ys))
    ∙ ap (λ one. (seen_in_line words side number front line ++ seen_from words side number next xs) ++ seen_from words side number one ys) (append_assoc front (line ∷ []) xs)

answers_both : (words : Words) (side : Side) (number : ℕ) (front xs ys : List Entry)
    → answers_from words side number front (xs ++ ys) ≡ answers_from words side number front xs ++ answers_from words side number (front ++ xs) ys
answers_both words side number front [] ys = ap (λ one. answers_from words side number one ys) (sym (append-nil front))
answers_both words side number front (line ∷ xs) ys =
    let next = front ++ line ∷ [] in
    ap (λ answers. answers_in_line words side number front line ++ answers) (answers_both words side number next xs ys)
    ∙ sym (append_assoc (answers_in_line words side number front line) (answers_from words side number next xs) (answers_from words side number (next ++ xs) ys))
    ∙ ap (λ one. (answers_in_line words side number front line ++ answers_from words side number next xs) ++ answers_from words side number one ys) (append_assoc front (line ∷ []) xs)

-- where nothing was said before, all that is said is said in the lines that follow
said_later : (before later : List Seen) (line : Entry) → lines_said before ≡ [] → before ++ later ≡ Says line ∷ [] → later ≡ Says line ∷ []
said_later [] later line none is = is
said_later (one ∷ before) later line none is =
    absurd (let whole : one ∷ (before ++ later) ≡ Says line ∷ [] = is in
    let head : one ≡ Says line = cc in
    let h : line ∷ lines_said before ≡ [] = ap (λ seen. line_said seen ++ lines_said before) (sym head) ∙ none in absurd cc)

-- ---- the call in which the line comes

module _ (words : Words) (given : Given) (station : ℕ) (step : Call) (history : List Event) (number handle : ℕ) (role : Role)
    (unsaid : lines_of (side_of station) number (journal_of history) ≡ []) where
  abbrev side : Side
  side = side_of station

  abbrev next : List Event
  next = after_call given station step history

  abbrev lines : List Entry
  lines = call_lines given station step history

  pub opens_event : seen_on words side number (journal_of next) ≡ Says (Opened side number handle role) ∷ [] → answers_from words side number [] (journal_of next) ≡ []
      → event_on words side number (journal_of next) ≡ no_event_lines
  unfolding seen_on
  opens_event said unanswered =
      let journal = call_journal given station step history in
      let seen = said_later (seen_from words side number [] (journal_of history)) (seen_from words side number (journal_of history) lines) (Opened side number handle role)
      (says_its_lines words side number (journal_of history) ∙ unsaid)
      (sym (seen_both words side number [] (journal_of history) lines) ∙ ap (seen_from words side number []) (sym journal) ∙ said) in
      let answers = none_of (answers_from words side number [] (journal_of history)) (answers_from words side number (journal_of history) lines)
      (sym (answers_both words side number [] (journal_of history) lines) ∙ ap (answers_from words side number []) (sym journal) ∙ unanswered) in
      ap (event_on words side number) journal ∙ on_both words side number (journal_of history) lines
      ∙ opened_in words side number handle role (journal_of history) (event_on words side number (journal_of history)) lines
      (notes_other station (links_of history) (notes_after (setup_at given station) (facts_at given station history) step)) seen answers.second

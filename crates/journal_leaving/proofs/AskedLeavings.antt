-- How an end is to leave its link after a call in which its host asks of it.
use Rattle.std.proofs.Common.{◌≡◌, ℕ, true, false, Option, Some, None, List, [], ◌∷◌, ◌++◌, map, refl, sym, ap, ◌∙◌, append-nil, append_assoc}
use Rattle.std.specs.List.{AllByRecursion}
use Rattle.ble_base.specs.declared.notes.Note.{Note}
use Rattle.ble_base.specs.declared.roles.Side.{Side}
use Rattle.journal_controls.specs.controller_model.Side.{notes_after}
use Rattle.journal_controls.specs.controller_model.Step.{Step as Call}
use Rattle.journal_controls.specs.host_answers.Calls.{call_lines}
use Rattle.journal.specs.declared.entries.Entry.{Entry}
use Rattle.journal.specs.declared.entries.Entry.TheVariants.{Air}
use Rattle.journal_controls.specs.LineSteps.{keyed_on}
use Rattle.journal_controls.specs.journal_ends.Answering.{answers_from, answers_if, answers_in_line, answers_in_step}
use Rattle.journal_controls.specs.journal_ends.Asked.{Words}
use Rattle.journal_controls.specs.journal_ends.Seen.{Asks, Seen, asked_if, asked_in_step, seen_from, seen_in_line}
use Rattle.journal_controls.specs.link_model.Step.{Step, Disconnected, KeyAnswered, ProcedureAsked, RequestAnswered}
use Rattle.journal_controls.specs.link_model.Facts.{keyed_of}
use Rattle.journal_controls.specs.link_model.declared.state.Leaving.{Leaving}
use Rattle.journal_controls.specs.link_model.keyed_control.Keyed.{Keyed}
use Rattle.journal_controls.specs.open_links.OpenLinks.{OpenLink, facts_in}
use Rattle.journal_controls.specs.run_model.History.{Event, Noted}
use Rattle.journal_controls.specs.run_model.Journal.{journal_from, journal_of, side_of}
use Rattle.journal_controls.specs.run_model.Links.{Links, links_after, links_of}
use Rattle.journal_controls.specs.run_model.Run.{Given, after_call, facts_at, setup_at}
use Rattle.journal_controls.proofs.LineFolds.{keyed_more, quiet_line as quiet_keyed}
use Rattle.journal_controls.proofs.OpenedControls.{AreNone, none_of}
use Rattle.journal_controls.proofs.journal_ends.AskedCalls.{call_journal}
use Rattle.journal_controls.proofs.journal_ends.HostedLinks.{IfHostStep, leaving_asked}
use Rattle.journal_leaving.specs.Lacking.{leaving_answering}
use Rattle.journal_leaving.specs.Leaving.{is_own_packet, leaving_after, leaving_asking, leaving_from, leaving_on}
use Rattle.journal_leaving.specs.Said.{leaving_if_asked}
use Rattle.journal_leaving.proofs.AskedSteps.{step_leaves}
use Rattle.journal_leaving.proofs.EventMoves.{leaving_at}
use Rattle.journal_leaving.proofs.LineFolds.{answered_line, asked_line, quiet_line}
use Rattle.journal_leaving.proofs.OtherLines.{is_other, note_other}

-- ---- lines that are no packets, in which one thing is asked, and nothing else is seen

abbrev AreOther : List Entry → Type 0
AreOther lines = AllByRecursion (λ line. is_other line ≡ true) lines

other_own : (side : Side) (number : ℕ) (front : List Entry) (line : Entry) → is_other line ≡ true → is_own_packet side number front line ≡ false
other_own side number front (Air sender channel octets fate verdict) other = absurd cc
other_own side number front line other = refl

module _ (words : Words) (side : Side) (number : ℕ) where
  none_seen : (front lines : List Entry) (l : Leaving) → AreOther lines → seen_from words side number front lines ≡ [] → answers_from words side number front lines ≡ []
      → leaving_from words side number front (Some l) lines ≡ Some l
  none_seen front [] l others none unanswered = refl
  none_seen front (line ∷ lines) l others none unanswered =
      let next = front ++ line ∷ [] in
      let both = none_of (seen_in_line words side number front line) (seen_from words side number next lines) none in
      let answers = none_of (answers_in_line words side number front line) (answers_from words side number next lines) unanswered in
      ap (λ before. leaving_from words side number next before lines)
      (quiet_line words side number front (Some l) line both.first answers.first (other_own side number front line others.0))
      ∙ none_seen next lines l others.1 both.second answers.second

  one_seen : (front lines : List Entry) (l : Leaving) (step : Step) → AreOther lines → seen_from words side number front lines ≡ Asks step ∷ []
      → answers_from words side number front lines ≡ [] → leaving_from words side number front (Some l) lines ≡ Some (leaving_asking step l)
  one_seen front [] l step others is unanswered = absurd cc
  one_seen front (line ∷ lines) l step others is unanswered =
      by (seen_in_line words side number front line) refl (λ later. one_seen (front ++ line ∷ []) lines l step others.1 later answers.second)
    where
      answers : AreNone (answers_in_line words side number front line) (answers_from words side number (front ++ line ∷ []) lines)
      answers = none_of (answers_in_line words side number front line) (answers_from words side number (front ++ line ∷ []) lines) unanswered

      by : (seen : List Seen) → seen_in_line words side number front line ≡ seen
          → (seen_from words side number (front ++ line ∷ []) lines ≡ Asks step ∷ []
          → leaving_from words side number (front ++ line ∷ []) (Some l) lines ≡ Some (leaving_asking step l))
          → leaving_from words side number front (Some l) (line ∷ lines) ≡ Some (leaving_asking step l)
      by [] none then_on =
          ap (λ before. leaving_from words side number (front ++ line ∷ []) before lines)
          (quiet_line words side number front (Some l) line none answers.first (other_own side number front line others.0))
          ∙ then_on (ap (λ xs. xs ++ seen_from words side number (front ++ line ∷ []) lines) (sym none) ∙ is)
      by (one ∷ more) seen then_on =
          let whole : one ∷ (more ++ seen_from words side number (front ++ line ∷ []) lines) ≡ Asks step ∷ [] =
          ap (λ xs. xs ++ seen_from words side number (front ++ line ∷ []) lines) (sym seen) ∙ is in
          let head : one ≡ Asks step = cc in
          let tail : more ++ seen_from words side number (front ++ line ∷ []) lines ≡ [] = cc in
          let both = none_of more (seen_from words side number (front ++ line ∷ []) lines) tail in
          ap (λ before. leaving_from words side number (front ++ line ∷ []) before lines)
          (asked_line words side number front line l step (other_own side number front line others.0) (seen ∙ (λ i. head i ∷ both.first i)) answers.first)
          ∙ none_seen (front ++ line ∷ []) lines (leaving_asking step l) others.1 both.second answers.second

  -- an answer counts for the end as it is in its line
  one_answered : (front lines : List Entry) (k : Keyed) (l : Leaving) (answer : Step) → AreOther lines → keyed_on words side number front ≡ Some k
      → seen_from words side number front lines ≡ [] → answers_from words side number front lines ≡ answer ∷ []
      → leaving_from words side number front (Some l) lines ≡ Some (leaving_answering k l answer)
  one_answered front [] k l answer others keyed none is = absurd cc
  one_answered front (line ∷ lines) k l answer others keyed none is =
      by (answers_in_line words side number front line) refl (λ still later. one_answered (front ++ line ∷ []) lines k l answer others.1 still seen.second later)
    where
      seen : AreNone (seen_in_line words side number front line) (seen_from words side number (front ++ line ∷ []) lines)
      seen = none_of (seen_in_line words side number front line) (seen_from words side number (front ++ line ∷ []) lines) none

      by : (answers : List Step) → answers_in_line words side number front line ≡ answers
          → (keyed_on words side number (front ++ line ∷ []) ≡ Some k → answers_from words side number (front ++ line ∷ []) lines ≡ answer ∷ []
          → leaving_from words side number (front ++ line ∷ []) (Some l) lines ≡ Some (leaving_answering k l answer))
          → leaving_from words side number front (Some l) (line ∷ lines) ≡ Some (leaving_answering k l answer)
      by [] unanswered then_on =
          let still = keyed_more words side number front line ∙ quiet_keyed words side number front (keyed_on words side number front) line seen.first unanswered ∙ keyed in
          ap (λ before. leaving_from words side number (front ++ line ∷ []) before lines)
          (quiet_line words side number front (Some l) line seen.first unanswered (other_own side number front line others.0))
          ∙ then_on still (ap (λ xs. xs ++ answers_from words side number (front ++ line ∷ []) lines) (sym unanswered) ∙ is)
      by (one ∷ more) answers then_on =
          let whole : one ∷ (more ++ answers_from words side number (front ++ line ∷ []) lines) ≡ answer ∷ [] =
          ap (λ xs. xs ++ answers_from words side number (front ++ line ∷ []) lines) (sym answers) ∙ is in
          let head : one ≡ answer = cc in
          let tail : more ++ answers_from words side number (front ++ line ∷ []) lines ≡ [] = cc in
          let both = none_of more (answers_from words side number (front ++ line ∷ []) lines) tail in
          ap (λ before. leaving_from words side number (front ++ line ∷ []) before lines)
          (answered_line words side number front line k l answer (other_own side number front line others.0) seen.first (answers ∙ (λ i. head i ∷ both.first i)) keyed)
          ∙ none_seen (front ++ line ∷ []) lines (leaving_answering k l answer) others.1 seen.second both.second

  step_seen : (front lines : List Entry) (k : Keyed) (l : Leaving) (step : Step) → AreOther lines → keyed_on words side number front ≡ Some k
      → seen_from words side number front lines ≡ asked_in_step step → answers_from words side number front lines ≡ answers_in_step step
      → leaving_from words side number front (Some l) lines ≡ Some (leaving_if_asked k (Some step) l)
  step_seen front lines k l (ProcedureAsked ask) others keyed is answers = one_seen front lines l (ProcedureAsked ask) others is answers
  step_seen front lines k l (RequestAnswered answer) others keyed is answers = one_answered front lines k l (RequestAnswered answer) others keyed is answers
  step_seen front lines k l (KeyAnswered key slot) others keyed is answers = one_answered front lines k l (KeyAnswered key slot) others keyed is answers
  step_seen front lines k l (Disconnected reason slot) others keyed is answers = one_seen front lines l (Disconnected reason slot) others is answers
  step_seen front lines k l other others keyed is answers = none_seen front lines l others is answers

  asked_seen : (front lines : List Entry) (k : Keyed) (l : Leaving) (asked : Option Step) → AreOther lines → keyed_on words side number front ≡ Some k
      → seen_from words side number front lines ≡ asked_if asked → answers_from words side number front lines ≡ answers_if asked
      → leaving_from words side number front (Some l) lines ≡ Some (leaving_if_asked k asked l)
  asked_seen front lines k l None others keyed is answers = none_seen front lines l others is answers
  asked_seen front lines k l (Some step) others keyed is answers = step_seen front lines k l step others keyed is answers

  from_both : (front first second : List Entry) (before : Option Leaving)
      → leaving_from words side number front before (first ++ second) ≡ leaving_from words side number (front ++ first) (leaving_from words side number front before first) second
  from_both front [] second before = ap (λ xs. leaving_from words side number xs before second) (sym (append-nil front))
  from_both front (line ∷ first) second before =
      let next = leaving_after words side number front before line in
      from_both (front ++ line ∷ []) first second next
      ∙ ap (λ xs. leaving_from words side number xs (leaving_from words side number (front ++ line ∷ []) next first) second) (append_assoc front (line ∷ []) first)

  on_both : (first second : List Entry) → leaving_on words side number (first ++ second) ≡ leaving_from words side number first (leaving_on words side number first) second
  unfolding leaving_on
  on_both first second = from_both [] first second None

-- ---- a call

notes_other : (station : ℕ) (links : Links) (notes : List Note) → AreOther (journal_from links (map (Noted station) notes))
notes_other station links [] = tt
notes_other station links (note ∷ notes) = (
  note_other (side_of station) (links.link_of station) (links.last_of station) note,
  notes_other station (links_after links (Noted station note)) notes,
)

pub call_asks : (words : Words) (given : Given) (side : Side) (number station : ℕ) (step : Call) (history : List Event) (asked : Option Step) (k : Keyed) (l : Leaving)
    → seen_from words side number (journal_of history) (call_lines given station step history) ≡ asked_if asked
    → answers_from words side number (journal_of history) (call_lines given station step history) ≡ answers_if asked
    → keyed_on words side number (journal_of history) ≡ Some k → leaving_at words number side history ≡ Some l
    → leaving_at words number side (after_call given station step history) ≡ Some (leaving_if_asked k asked l)
call_asks words given side number station step history asked k l seen answers keyed was =
    let lines = call_lines given station step history in
    ap (leaving_on words side number) (call_journal given station step history) ∙ on_both words side number (journal_of history) lines
    ∙ ap (λ before. leaving_from words side number (journal_of history) before lines) was
    ∙ asked_seen words side number (journal_of history) lines k l asked
    (notes_other station (links_of history) (notes_after (setup_at given station) (facts_at given station history) step)) keyed seen answers

-- ---- the end is to leave so

pub end_asked : (base after : OpenLink) (asked : Option Step) → IfHostStep asked → (facts_in after).leaving ≡ leaving_asked base asked
    → leaving_if_asked (keyed_of (facts_in base)) asked (facts_in base).leaving ≡ (facts_in after).leaving
end_asked base after None by_host is = sym is
end_asked base after (Some step) by_host is = sym (is ∙ step_leaves base.setup (facts_in base) step by_host)

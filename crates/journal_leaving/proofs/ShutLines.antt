-- Each line of a link that is shut has its reason by the lines before it.
use Rattle.std.proofs.Common.{◌≡◌, ℕ, true, false, Some, List, [], ◌∷◌, ◌++◌, map, refl, sym, ap, subst, ◌∙◌, append-nil}
use Rattle.std.specs.List.{AllByRecursion}
use Rattle.std.proofs.lemmas.Bool.{or_left}
use Rattle.std.proofs.lemmas.List.{append_cancel_left}
use Rattle.std.proofs.lemmas.List.Folds.{list_any-append}
use Rattle.std.proofs.lemmas.List.Sums.{fold-append}
use Rattle.ble_base.specs.declared.error_codes.ErrCode.{ErrCode}
use Rattle.ble_base.specs.declared.notes.Note.{Note}
use Rattle.ble_base.specs.declared.notes.Note.TheVariants.{Shut as ShutNote}
use Rattle.ble_base.specs.declared.roles.Side.{Side}
use Rattle.journal.specs.declared.entries.Entry.{Entry}
use Rattle.journal.specs.declared.entries.Entry.TheVariants.{Shut}
use Rattle.journal_controls.specs.controller_model.Facts.{Facts}
use Rattle.journal_controls.specs.controller_model.Shutting.{IsShut, leaving as shut_leaving, overdue as shut_overdue, reset as shut_reset}
use Rattle.journal_controls.specs.controller_model.Side.{notes_after}
use Rattle.journal_controls.specs.controller_model.Since.{note_under, notes_under, opens_under, was_opened}
use Rattle.journal_controls.specs.controller_model.Step.{Step as Call, TurnBegins, TurnEnds}
use Rattle.journal_controls.proofs.controller_model.Shuts.{shuts_with_reason}
use Rattle.journal_controls.proofs.host_answers.LineAnswers.{IsQuiet}
use Rattle.journal_controls.specs.SaidLines.{NoneOpens, moved_by}
use Rattle.journal_controls.specs.journal_ends.Asked.{Words}
use Rattle.journal_controls.specs.journal_ends.GivenWords.{GivesWords}
use Rattle.journal_controls.specs.journal_links.Begun.{link_numbered}
use Rattle.journal_controls.specs.journal_links.LinkLines.{line_of, lines_of}
use Rattle.journal_controls.specs.link_model.Facts.{keyed_of}
use Rattle.journal_controls.specs.link_model.Times.{ending_of}
use Rattle.journal_controls.specs.link_model.declared.state.Leaving.{Leaving}
use Rattle.journal_controls.specs.link_model.keyed_control.Keyed.{Keyed}
use Rattle.journal_controls.specs.open_links.OpenLinks.{OpenLink, facts_in, link_at}
use Rattle.journal_controls.specs.run_model.Feeding.{is_octet}
use Rattle.journal_controls.specs.run_model.History.{Event, Called, Noted, noted_by, past_of}
use Rattle.journal_controls.specs.run_model.Journal.{journal_of, side_of}
use Rattle.journal_controls.specs.run_model.LinkEnds.{HaveAddresses}
use Rattle.journal_controls.specs.run_model.NoteLines.{IsLineInCall, LinkLine, shut_line}
use Rattle.journal_controls.specs.run_model.OnAir.{ends_phase}
use Rattle.journal_controls.specs.run_model.Run.{Given, facts_at, history_of, run_of, setup_at}
use Rattle.journal_controls.proofs.EventMoves.{drawn_at, keyed_at, turn_answers, turn_at, withholds_at}
use Rattle.journal_controls.proofs.RunControls.{keyed_before_call}
use Rattle.journal_controls.proofs.journal_acks.Exchanging.{number_at}
use Rattle.journal_controls.proofs.journal_acks.HeardLines.{heard_in_call}
use Rattle.journal_controls.proofs.journal_acks.ResetLines.{reset_completed}
use Rattle.journal_controls.proofs.journal_acks.TwoStations.{IsOfTwo}
use Rattle.journal_controls.proofs.journal_ends.SeenEvents.{lines_at}
use Rattle.journal_controls.proofs.journal_ends.run_laws.DistinctAccess.{AreApart}
use Rattle.journal_controls.proofs.journal_links.LineNotes.{lines_are_notes, open_was_opened}
use Rattle.journal_controls.proofs.journal_links.LinksBegun.{number_stays}
use Rattle.journal_controls.proofs.journal_links.OfTwo.{are_distinct, two_apart}
use Rattle.journal_controls.proofs.journal_packets.AccessOrder.{AreNth}
use Rattle.journal_controls.proofs.link_model.Hearing.{IsHeardWhole}
use Rattle.journal_controls.proofs.run_model.Calls.{noted_called, same_station}
use Rattle.journal_controls.proofs.run_model.LinkEnds.{AreTaken, IsUnderstood}
use Rattle.journal_controls.proofs.run_model.NoteLines.{is_contained, line_in_call, number_then, to_line}
use Rattle.journal_controls.proofs.run_model.Numbers.{numbered_at}
use Rattle.journal_controls.proofs.run_model.OfStations.{OfStations, run_of_stations}
use Rattle.journal_controls.proofs.run_model.Parts.{journal_more}
use Rattle.journal_controls.proofs.run_model.Places.{each_at}
use Rattle.journal_controls.proofs.run_model.Stations.{is_in}
use Rattle.journal_leaving.specs.Reasons.{IsShutAs, leaving, overdue, reset}
use Rattle.journal_leaving.proofs.DueReasons.{leaving_ends, overdue_due}
use Rattle.journal_leaving.proofs.EventMoves.{IsMoving, leaving_at, part_moving}
use Rattle.journal_leaving.proofs.QuietTurns.{in_call_passed, none_passed}
use Rattle.journal_leaving.proofs.RunLeavings.{TellsDue, due_by_lines, due_told, ending_by_lines, left_before_call, turn_told}
use Rattle.journal_leaving.proofs.ShutCalls.{handed, reported_ends, some_code}
use Rattle.journal_leaving.proofs.ShutNotes.{Ascend, begins_ascend, else_same, ends_ascending, nothing_before}

-- ---- its call

-- why it is shut
pub shut_in : (given : Given) (front : List Entry) (side : Side) (number : ℕ) (reason : ErrCode) (call : IsLineInCall given front (shut_line side number reason))
    → IsShut (facts_at given call.station call.base) call.step call.handle reason.0
shut_in given front side number reason call =
    (shuts_with_reason (setup_at given call.station) (past_of call.station call.base) call.step call.handle reason.0).0
    (is_contained given front (shut_line side number reason) call)

-- ---- between the call and the line

front_quiet : (side : Side) (station : ℕ) (notes more : List Note) → AllByRecursion (IsQuiet side station) (notes ++ more) → AllByRecursion (IsQuiet side station) notes
front_quiet side station [] more quiet = tt
front_quiet side station (note ∷ notes) more quiet = (quiet.0, front_quiet side station notes more quiet.1)

-- nothing is said of the link
module _ (words : Words) (understood : IsUnderstood) (taken : AreTaken) (given : Given) (are_two : IsOfTwo given) (six : HaveAddresses given) (gives : GivesWords given words) (front : List Entry) (side : Side) (number : ℕ) (reason : ErrCode)
    (call : IsLineInCall given front (shut_line side number reason)) (in_it : is_in call.station given.stations ≡ true) (outside : ends_phase call.step ≡ false)
    (no_octet : is_octet call.step ≡ false)
    (ascend : Ascend 0 (notes_after (setup_at given call.station) (facts_at given call.station call.base) call.step)) (link : OpenLink)
    (is_open : link_at call.handle (facts_at given call.station call.base).links ≡ Some link) where
  abbrev own : ℕ
  own = number_at call.station call.handle call.base

  abbrev own_side : Side
  own_side = side_of call.station

  abbrev called : Event
  called = Called call.station call.step

  abbrev line_note : Event
  line_note = Noted call.station (ShutNote call.handle reason)

  abbrev then_on : List Event
  then_on = call.base ++ called ∷ map (Noted call.station) call.earlier

  noted_before : noted_by call.station call.before ≡ noted_by call.station call.base ++ call.earlier
  noted_before = ap (noted_by call.station) call.before_is ∙ noted_called call.station call.station call.step call.earlier call.base true (same_station call.station)

  under_same : notes_under call.handle (noted_by call.station call.before) ≡ notes_under call.handle (noted_by call.station call.base)
  under_same =
      ap (notes_under call.handle) noted_before ∙ fold-append (note_under call.handle) [] (noted_by call.station call.base) call.earlier
      ∙ else_same call.handle (notes_under call.handle (noted_by call.station call.base)) call.earlier
      (nothing_before call.handle reason (notes_after (setup_at given call.station) (facts_at given call.station call.base) call.step) call.earlier call.later call.notes_are ascend)

  was_open : was_opened call.handle (noted_by call.station call.base) ≡ true
  was_open =
      open_was_opened understood taken given (are_distinct given are_two) six call.station (two_apart given are_two call.station in_it) call.base (called ∷ call.after) call.handle link call.called
      (numbered_at understood taken given call.base call.after called (are_distinct given are_two) six call.called refl) is_open

  still_open : was_opened call.handle (noted_by call.station call.before) ≡ true
  still_open =
      ap (was_opened call.handle) noted_before ∙ list_any-append (opens_under call.handle) (noted_by call.station call.base) call.earlier
      ∙ or_left (was_opened call.handle (noted_by call.station call.base)) (was_opened call.handle call.earlier) was_open

  number_before : number_at call.station call.handle call.before ≡ own
  number_before = call.number_is ∙ sym (number_then given front (shut_line side number reason) call outside)

  lines_same : lines_at own own_side call.before ≡ lines_at own own_side call.base
  lines_same =
      let apart = two_apart given are_two call.station in_it in
      let distinct = are_distinct given are_two in
      ap (λ n. lines_of own_side n (journal_of call.before)) (sym number_before)
      ∙ lines_are_notes understood taken given distinct six call.station apart call.before (line_note ∷ call.rest) call.handle call.is_at still_open
      ∙ (λ i. map (line_of own_side (number_before i)) (under_same i))
      ∙ sym (lines_are_notes understood taken given distinct six call.station apart call.base (called ∷ call.after) call.handle call.called was_open)

  moving : IsMoving words (drawn_at words own_side call.base) own own_side call.base then_on
  moving =
      part_moving words given own own_side call.station call.step call.earlier (ShutNote call.handle reason ∷ call.later) call.base gives.kept call.notes_are
      (front_quiet own_side call.station call.earlier (ShutNote call.handle reason ∷ call.later)
      (subst (AllByRecursion (IsQuiet own_side call.station)) call.notes_are (turn_answers given own_side call.station call.step call.base no_octet)))

  none : moving.more ≡ []
  none =
      append_cancel_left (lines_at own own_side call.base) moving.more []
      (sym moving.lines ∙ ap (lines_at own own_side) (sym call.before_is) ∙ lines_same ∙ sym (append-nil (lines_at own own_side call.base)))

  turn_then : turn_at then_on ≡ turn_at call.base
  turn_then = moving.turns

  keyed_then : (k : Keyed) → keyed_at words own own_side call.base ≡ Some k → keyed_at words own own_side then_on ≡ Some k
  keyed_then k is =
      moving.keyed k (subst NoneOpens (sym none) tt) is ∙ ap (λ xs. Some (moved_by (withholds_at own_side call.base) (drawn_at words own_side call.base) (turn_at call.base) xs k)) none

  leaving_then : (l : Leaving) → leaving_at words own own_side call.base ≡ Some l → leaving_at words own own_side then_on ≡ Some l
  leaving_then l is = moving.still none ∙ is

  -- so what was due as the turn began is still due
  due_then : TellsDue words own own_side call.station call.base link → TellsDue words own own_side call.station then_on link
  due_then told = record {
    begun = record {
      link = told.begun.link;
      is_link = ap (link_numbered own) (journal_more call.base (called ∷ map (Noted call.station) call.earlier))
          ∙ number_stays own (journal_of call.base) _ told.begun.link told.begun.is_link;
      fields = told.begun.fields;
      slot = told.begun.slot;
    };
    keyed = keyed_then (keyed_of (facts_in link)) told.keyed;
    left = leaving_then (facts_in link).leaving told.left;
    heard = heard_in_call own own_side call.station call.step call.base call.earlier ∙ told.heard;
  }

-- ---- a line

module _ (words : Words) (heard_whole : IsHeardWhole) (understood : IsUnderstood) (taken : AreTaken) (nth : AreNth) (apart : AreApart) (given : Given) (are_two : IsOfTwo given)
    (six : HaveAddresses given) (gives : GivesWords given words) (front rest : List Entry) (side : Side) (number : ℕ) (reason : ErrCode)
    (is : journal_of (history_of (run_of given)) ≡ front ++ Shut side number reason ∷ rest) where
  abbrev line : LinkLine
  line = shut_line side number reason

  call : IsLineInCall given front line
  call = line_in_call given front rest (Shut side number reason) line refl is

  in_it : is_in call.station given.stations ≡ true
  in_it = each_at (OfStations given) (history_of (run_of given)) call.base call.after (Called call.station call.step) (run_of_stations given) call.called

  abbrev facts : Facts
  facts = facts_at given call.station call.base

  called_as : (step : Call) → call.step ≡ step → history_of (run_of given) ≡ call.base ++ Called call.station step ∷ call.after
  called_as step same = call.called ∙ ap (λ one. call.base ++ Called call.station one ∷ call.after) same

  -- what holds after the call holds before the line
  at_line : ends_phase call.step ≡ false
      → IsShutAs words (journal_of (call.base ++ Called call.station call.step ∷ map (Noted call.station) call.earlier)) (side_of call.station)
      (number_at call.station call.handle call.base) reason
      → IsShutAs words front side number reason
  at_line outside so =
      to_line given front line call (λ one entries of. IsShutAs words entries of one reason)
      (subst (λ n. IsShutAs words (journal_of call.before) (side_of call.station) n reason) (number_then given front line call outside ∙ sym call.number_is)
      (subst (λ xs. IsShutAs words (journal_of xs) (side_of call.station) (number_at call.station call.handle call.base) reason) (sym call.before_is) so))

  by_cause : IsShut facts call.step call.handle reason.0 → IsShutAs words front side number reason
  by_cause (shut_overdue slot on link begins is_open due) =
      let station = call.station in
      let outside = ap ends_phase begins in
      let at = called_as (TurnBegins slot on) begins in
      let ascend = subst (λ step. Ascend 0 (notes_after (setup_at given station) facts step)) (sym begins) (begins_ascend (setup_at given station) facts slot on) in
      let own = number_at station call.handle call.base in
      let then_on = call.base ++ Called station call.step ∷ map (Noted station) call.earlier in
      let told = due_told words heard_whole understood taken nth apart given are_two six gives call.base call.after station slot on at in_it call.handle link is_open in
      let turn = turn_then words understood taken given are_two six gives front side number reason call in_it outside (ap is_octet begins) ascend link is_open in
      at_line outside
      (overdue
      (in_call_passed station call.step call.base call.earlier ∙ none_passed given call.base call.after station (TurnBegins slot on) refl at)
      (due_by_lines words own (side_of station) station then_on link slot (due_then words understood taken given are_two six gives front side number reason call in_it outside (ap is_octet begins) ascend link is_open told)
      (turn ∙ turn_told words heard_whole understood taken nth apart given are_two six gives call.base call.after station slot on at)
      ∙ overdue_due slot reason.0 link due))
  by_cause (shut_leaving link ends is_open leaves) =
      let station = call.station in
      let outside = ap ends_phase ends in
      let at = called_as TurnEnds ends in
      let ascend = subst (λ step. Ascend 0 (notes_after (setup_at given station) facts step)) (sym ends) (ends_ascending (setup_at given station) facts) in
      let own = number_at station call.handle call.base in
      let then_on = call.base ++ Called station call.step ∷ map (Noted station) call.earlier in
      let was = handed facts call.handle link is_open in
      let same = ap (λ l. ending_of (facts_in l)) was.is ∙ reported_ends was.link in
      let keyed = keyed_before_call words heard_whole understood taken nth apart given are_two six gives call.base call.after station TurnEnds at in_it call.handle was.link was.was in
      let left = left_before_call words heard_whole understood taken nth apart given are_two six gives call.base call.after station TurnEnds at in_it call.handle was.link was.was in
      at_line outside
      (leaving
      (ending_by_lines words own (side_of station) then_on was.link
      (keyed_then words understood taken given are_two six gives front side number reason call in_it outside (ap is_octet ends) ascend was.link was.was (keyed_of (facts_in was.link)) keyed)
      (leaving_then words understood taken given are_two six gives front side number reason call in_it outside (ap is_octet ends) ascend was.link was.was (facts_in was.link).leaving left)
      ∙ sym same ∙ some_code (ending_of (facts_in link)) reason (leaving_ends reason.0 link leaves)))
  by_cause (shut_reset link completed is_open code) = reset code (reset_completed given are_two front side number reason call completed)

  pub line_shut_as : IsShutAs words front side number reason
  line_shut_as = by_cause (shut_in given front side number reason call)

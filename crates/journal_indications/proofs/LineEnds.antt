-- The end that is open under the handle of a line before its call: the notes that its lines say, and its link.
use Rattle.std.proofs.Common.{◌≡◌, ℕ, true, false, Some, List, [], ◌∷◌, ◌++◌, fold, map, refl, sym, ap, subst, ◌∙◌}
use Rattle.std.specs.Prelude.{if◌then◌else◌}
use Rattle.std.specs.List.{flat_map}
use Rattle.std.proofs.lemmas.Bool.{or_left, or_parts}
use Rattle.std.proofs.lemmas.List.Folds.{list_any-append}
use Rattle.std.proofs.lemmas.List.Sums.{fold-append}
use Rattle.ble_base.specs.declared.notes.Note.{Note}
use Rattle.ble_base.specs.declared.roles.Role.{Role}
use Rattle.ble_base.specs.declared.roles.Side.{Side}
use Rattle.journal.specs.declared.entries.Entry.{Entry}
use Rattle.controller_model.specs.Facts.{Setup}
use Rattle.controller_model.specs.Links.{note_opened}
use Rattle.controller_model.specs.Side.{notes_of}
use Rattle.controller_model.specs.Since.{note_under, notes_opened_on, notes_under, opens_under, was_opened}
use Rattle.controller_model.proofs.UnderNotes.{open_noted}
use Rattle.link_changes.proofs.Alike.{Alike, alike_more, alike_silent, alike_then}
use Rattle.journal_agreement.specs.journal_data.journal_links.Begun.{LinkBegun, link_numbered}
use Rattle.journal_agreement.specs.journal_data.journal_links.Changes.{note_said, notes_said}
use Rattle.journal_agreement.specs.journal_data.journal_links.LinkLines.{line_of, lines_of}
use Rattle.journal_agreement.specs.journal_data.journal_links.Opened.{central_side}
use Rattle.journal_agreement.specs.journal_data.link_model.End.{notes_of as end_notes_of}
use Rattle.journal_agreement.specs.journal_data.link_model.Setup.{Setup as EndSetup}
use Rattle.journal_agreement.specs.journal_data.link_model.Step.{Step as EndStep}
use Rattle.journal_agreement.specs.journal_data.open_links.OpenLinks.{OpenLink, link_at}
use Rattle.journal_agreement.specs.journal_data.run_model.Feeding.{AreDistinct}
use Rattle.journal_agreement.specs.journal_data.run_model.History.{Event, Called, Noted, noted_by, past_of}
use Rattle.journal_agreement.specs.journal_data.run_model.Journal.{journal_from, journal_of, side_of}
use Rattle.journal_agreement.specs.journal_data.run_model.LinkEnds.{HaveAddresses}
use Rattle.journal_agreement.specs.journal_data.run_model.Links.{Links, links_of}
use Rattle.journal_agreement.specs.journal_data.run_model.NoteLines.{IsLineInCall, LinkLine}
use Rattle.journal_agreement.specs.journal_data.run_model.Numbers.{AreNumbered}
use Rattle.journal_agreement.specs.journal_data.run_model.Run.{Given, facts_at, history_of, run_of, setup_at}
use Rattle.journal_agreement.proofs.journal_data.Openness.{opens_where_free}
use Rattle.journal_agreement.proofs.journal_data.journal_links.ChangesAt.{none_opened}
use Rattle.journal_agreement.proofs.journal_data.journal_links.LineNotes.{lines_are_notes, open_was_opened}
use Rattle.journal_agreement.proofs.journal_data.journal_links.LinkLines.{IsApart}
use Rattle.journal_agreement.proofs.journal_data.journal_links.LinksBegun.{number_stays}
use Rattle.journal_agreement.proofs.journal_data.journal_links.OfTwo.{are_distinct, of_two_stations, two_apart}
use Rattle.journal_agreement.proofs.journal_data.journal_links.SaidLines.{other_silent, said, said_alike, said_under, under_alike}
use Rattle.journal_agreement.proofs.journal_data.run_model.Calls.{noted_called, same_station}
use Rattle.journal_agreement.proofs.journal_data.run_model.LinkEnds.{AreTaken, IsUnderstood}
use Rattle.journal_agreement.proofs.journal_data.run_model.LinksKnown.{link_by_own}
use Rattle.journal_agreement.proofs.journal_data.run_model.NoteLines.{to_line}
use Rattle.journal_agreement.proofs.journal_data.run_model.Notes.{NotedBefore, run_noted}
use Rattle.journal_agreement.proofs.journal_data.run_model.Numbers.{numbered_at}
use Rattle.journal_agreement.proofs.journal_data.run_model.OfStations.{OfStations, run_of_stations}
use Rattle.journal_agreement.proofs.journal_data.run_model.OpenedNotes.{is_opened, opens_under as opens}
use Rattle.journal_agreement.proofs.journal_data.run_model.Parts.{journal_more}
use Rattle.journal_agreement.proofs.journal_data.run_model.Places.{each_at}
use Rattle.journal_agreement.proofs.journal_data.run_model.Stations.{is_in}
use Rattle.journal_agreement.proofs.journal_data.NumberedEnds.{IsNumberedEnd, front_of_two, numbered_end}

-- ---- the notes that lines say

-- the lines of a link say what its end noted before the call, and what the call noted of it since
pub notes_before : (role : Role) (side : Side) (number handle : ℕ) (setup : EndSetup) (past : List EndStep) (journal : List Entry) (before earlier : List Note)
    → lines_of side number journal ≡ map (line_of side number) (notes_under handle (before ++ earlier))
    → notes_under handle before ≡ notes_opened_on setup past → was_opened handle earlier ≡ false
    → Alike role (notes_said side number journal) (end_notes_of setup past ++ flat_map (said_under handle) earlier)
notes_before role side number handle setup past journal before earlier lines opened none =
    let known = notes_opened_on setup past in
    let more = flat_map (said_under handle) earlier in
    let after = fold (note_under handle) known earlier in
    let after_is : notes_under handle (before ++ earlier) ≡ after = fold-append (note_under handle) [] before earlier
    ∙ ap (λ xs. fold (note_under handle) xs earlier) opened in
    let own : Alike role (known ++ more) (end_notes_of setup past ++ more) =
    alike_more role known (end_notes_of setup past) more
    (alike_more role (note_opened setup.link ∷ []) [] (end_notes_of setup past)
    (alike_silent role [] (note_opened setup.link ∷ []) (other_silent role (note_opened setup.link) refl))) in
    let alike : Alike role (said side number after) (end_notes_of setup past ++ more) =
    alike_then role (said side number after) after (end_notes_of setup past ++ more) (said_alike side number role after)
    (alike_then role after (known ++ more) (end_notes_of setup past ++ more) (under_alike role handle known earlier none) own) in
    subst (λ xs. Alike role (flat_map note_said xs) (end_notes_of setup past ++ more)) (sym (lines ∙ ap (map (line_of side number)) after_is)) alike

-- ---- a line in its call

-- the end of a line: its number before the call, what the lines before say of it, and the side of its central
pub record IsEndOfLine (given : Given) (front : List Entry) (line : LinkLine) (call : IsLineInCall given front line) (link : OpenLink) : Type 0 where
  pub number_is : (links_of call.base).link_of call.station call.handle ≡ line.number
  pub alike : (role : Role)
      → Alike role (notes_said line.side line.number front) (end_notes_of link.setup link.past ++ flat_map (said_under call.handle) call.earlier)
  pub link_begun : LinkBegun
  pub is_link : link_numbered line.number front ≡ Some link_begun
  pub central_is : link_begun.central ≡ central_side link.setup.link.role line.side

module _ (understood : IsUnderstood) (taken : AreTaken) (given : Given) (are_two : given.stations ≡ 0 ∷ 1 ∷ []) (six : HaveAddresses given)
    (front : List Entry) (line : LinkLine) (call : IsLineInCall given front line) (link : OpenLink)
    (is_open : link_at call.handle (facts_at given call.station call.base).links ≡ Some link) where
  abbrev handle : ℕ
  handle = call.handle

  abbrev station : ℕ
  station = call.station

  abbrev base : List Event
  base = call.base

  abbrev called : Event
  called = Called station call.step

  abbrev setup : Setup
  setup = setup_at given station

  abbrev side : Side
  side = side_of station

  abbrev note : Note
  note = line.note handle

  abbrev numbers : Links
  numbers = links_of base

  distinct : AreDistinct given.stations
  distinct = are_distinct given are_two

  pub in_it : is_in station given.stations ≡ true
  in_it = each_at (OfStations given) (history_of (run_of given)) base call.after called (run_of_stations given) call.called

  apart : IsApart given station
  apart = two_apart given are_two station in_it

  numbered : AreNumbered given base
  numbered = numbered_at understood taken given base call.after called distinct six call.called refl

  -- the call opens no other link under the handle
  pub none : is_opened handle call.earlier ≡ false
  none =
      (or_parts (is_opened handle call.earlier) (is_opened handle (note ∷ call.later))
      (sym (list_any-append (opens handle) call.earlier (note ∷ call.later)) ∙ ap (is_opened handle) (sym call.notes_are)
      ∙ opens_where_free setup (past_of station base) call.step handle link is_open)).0

  number_then : (links_of call.before).link_of station handle ≡ numbers.link_of station handle
  number_then =
      ap (λ xs. (links_of xs).link_of station handle) call.before_is
      ∙ link_by_own station call.step call.earlier base handle
      ∙ ap (λ b. if b then numbers.last_of station else numbers.link_of station handle) none

  known_before : noted_by station call.before ≡ noted_by station base ++ call.earlier
  known_before = ap (noted_by station) call.before_is ∙ noted_called station station call.step call.earlier base true (same_station station)

  pub base_noted : noted_by station base ≡ notes_of setup (past_of station base)
  base_noted = each_at (NotedBefore given) (history_of (run_of given)) base call.after called (run_noted given).each call.called refl station

  was : was_opened handle (noted_by station call.before) ≡ true
  was =
      ap (was_opened handle) known_before ∙ list_any-append (opens_under handle) (noted_by station base) call.earlier
      ∙ or_left (was_opened handle (noted_by station base)) (was_opened handle call.earlier)
      (open_was_opened understood taken given distinct six station apart base (called ∷ call.after) handle link call.called numbered is_open)

  abbrev own_number : ℕ
  own_number = (links_of call.before).link_of station handle

  pub lines : lines_of side own_number (journal_of call.before) ≡ map (line_of side own_number) (notes_under handle (noted_by station base ++ call.earlier))
  lines =
      subst (λ xs. lines_of side own_number (journal_of call.before) ≡ map (line_of side own_number) (notes_under handle xs)) known_before
      (lines_are_notes understood taken given distinct six station apart call.before (Noted station note ∷ call.rest) handle call.is_at was)

  alike_then_on : (role : Role)
      → Alike role (notes_said side own_number (journal_of call.before)) (end_notes_of link.setup link.past ++ flat_map (said_under handle) call.earlier)
  alike_then_on role =
      notes_before role side own_number handle link.setup link.past (journal_of call.before) (noted_by station base) call.earlier lines
      (ap (notes_under handle) base_noted ∙ open_noted handle setup (past_of station base) link is_open) (none_opened handle call.earlier none)

  own : IsNumberedEnd base (numbers.link_of station handle) station link.setup
  own = numbered_end base (numbers.link_of station handle) station link.setup
      (front_of_two understood taken given are_two six base (called ∷ call.after) call.called)
      (of_two_stations given are_two station in_it) (numbered station handle link is_open)

  link_then : link_numbered own_number (journal_of call.before) ≡ Some own.link
  link_then =
      ap (λ n. link_numbered n (journal_of call.before)) number_then
      ∙ ap (link_numbered (numbers.link_of station handle)) (ap journal_of call.before_is ∙ journal_more base (called ∷ map (Noted station) call.earlier))
      ∙ number_stays (numbers.link_of station handle) (journal_of base) (journal_from numbers (called ∷ map (Noted station) call.earlier)) own.link own.is_link

  pub end_of_line : IsEndOfLine given front line call link
  end_of_line = record {
    number_is = sym number_then ∙ call.number_is;
    alike = λ role.
        to_line given front line call
        (λ n entries one. Alike role (notes_said one n entries) (end_notes_of link.setup link.past ++ flat_map (said_under handle) call.earlier))
        (alike_then_on role);
    link_begun = own.link;
    is_link = to_line given front line call (λ n entries one. link_numbered n entries ≡ Some own.link) link_then;
    central_is = own.central_is ∙ ap (central_side link.setup.link.role) call.side_is;
  }

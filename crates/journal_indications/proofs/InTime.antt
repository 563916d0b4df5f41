-- Where a peripheral enters an event, each indication that it took before came in time.
use Rattle.std.proofs.Common.{◌≡◌, ℕ, Bool, true, Option, Some, None, List, [], ◌∷◌, ◌++◌, refl, sym, ap, subst, ◌∙◌, append-nil, append_assoc}
use Rattle.std.specs.Prelude.{◌&&◌, All}
use Rattle.std.specs.List.{Contains, flat_map}
use Rattle.std.proofs.lemmas.Bool.{eq-eqb}
use Rattle.ble_base.specs.declared.counters.EventNo.{EventNo}
use Rattle.ble_base.specs.declared.notes.Note.{Note}
use Rattle.ble_base.specs.declared.notes.Note.TheVariants.{Enter as EnterNote}
use Rattle.ble_base.specs.declared.roles.Role.{Role}
use Rattle.ble_base.specs.declared.roles.Role.TheVariants.{Central, Peripheral}
use Rattle.ble_base.specs.declared.roles.Side.{Side}
use Rattle.instants.specs.Arrivals.{Taking}
use Rattle.instants.specs.Track.{TrackFacts, event_of, next_anchor_of, next_number, track_after_enter}
use Rattle.journal.specs.declared.entries.Entry.{Entry}
use Rattle.journal.specs.declared.entries.Entry.TheVariants.{Enter}
use Rattle.controller_model.specs.Entering.{IsEntered}
use Rattle.controller_model.specs.Facts.{Setup}
use Rattle.controller_model.specs.Side.{facts_of, notes_after}
use Rattle.controller_model.specs.Step.{Step, TurnBegins}
use Rattle.controller_model.proofs.Entries.{enters_as_turns_begin, enters_at_anchors, none_of}
use Rattle.controller_model.proofs.Handles.{own_handles}
use Rattle.link_changes.specs.InForce.{HasRanges}
use Rattle.link_changes.specs.Noted.{event_noted, takings_from, takings_noted}
use Rattle.link_changes.proofs.Entries.{entry_are, find_enter}
use Rattle.link_changes.proofs.Notes.{takings_more}
use Rattle.link_changes.proofs.Steps.{entry_when}
use Rattle.link_indications.specs.InTime.{IsTakenInTime}
use Rattle.chan_select.specs.Channel.{channel_of}
use Rattle.journal_agreement.specs.Taken.{AllCameInTime}
use Rattle.journal_agreement.specs.journal_data.journal_links.Begun.{LinkBegun, link_numbered}
use Rattle.journal_agreement.specs.journal_data.journal_links.Changes.{notes_said, role_by, role_on}
use Rattle.journal_agreement.specs.journal_data.journal_links.Opened.{central_side}
use Rattle.journal_agreement.specs.journal_data.link_model.Controls.{is_quiet_now}
use Rattle.journal_agreement.specs.journal_data.link_model.End.{facts_of as end_facts_of, notes_of as end_notes_of}
use Rattle.journal_agreement.specs.journal_data.link_model.Events.{applied_notes}
use Rattle.journal_agreement.specs.journal_data.link_model.Setup.{Setup as EndSetup, algorithm_of}
use Rattle.journal_agreement.specs.journal_data.link_model.Step.{Step as EndStep}
use Rattle.journal_agreement.specs.journal_data.open_links.OpenLinks.{HasHandle, OpenLink, facts_in}
use Rattle.journal_agreement.specs.journal_data.open_links.Turns.{enters_in, is_anchor}
use Rattle.journal_agreement.specs.journal_data.run_model.History.{Called, past_of}
use Rattle.journal_agreement.specs.journal_data.run_model.Journal.{journal_of}
use Rattle.journal_agreement.specs.journal_data.run_model.LinkEnds.{HaveAddresses}
use Rattle.journal_agreement.specs.journal_data.run_model.NoteLines.{IsLineInCall, LinkLine, enter_line}
use Rattle.journal_agreement.specs.journal_data.run_model.Run.{Given, facts_at, history_of, run_of, setup_at}
use Rattle.journal_agreement.proofs.journal_data.journal_links.CallNotes.{all_said, call_said, own_said}
use Rattle.journal_agreement.proofs.journal_data.journal_links.ChangesAt.{call_parts, role_is}
use Rattle.journal_agreement.proofs.journal_data.journal_links.EnterLines.{turn_of}
use Rattle.journal_agreement.proofs.journal_data.journal_links.OfTwo.{are_distinct}
use Rattle.journal_agreement.proofs.journal_data.journal_links.Ranges.{values_in_range}
use Rattle.journal_agreement.proofs.journal_data.journal_links.SaidLines.{said_under}
use Rattle.journal_agreement.proofs.journal_data.open_links.Handles.{has_its_handle}
use Rattle.journal_agreement.proofs.journal_data.run_model.LinkEnds.{AreTaken, IsUnderstood}
use Rattle.journal_agreement.proofs.journal_data.run_model.NoteLines.{is_contained, line_in_call}
use Rattle.journal_indications.proofs.LineEnds.{IsEndOfLine, end_of_line, in_it}
use Rattle.journal_agreement.proofs.journal_data.NumberedEnds.{same_link}

-- ---- what is known of one end

-- the indications that a peripheral took came in time, where no procedure of it ended the link
abbrev pub ComeInTime : Type 0
ComeInTime = (setup : EndSetup) (past : List EndStep) → setup.link.role ≡ Peripheral → (end_facts_of setup past).control.ends ≡ None
    → All IsTakenInTime (takings_noted Peripheral (end_notes_of setup past))

pub taken_in_time : ((setup : EndSetup) (past : List EndStep) → (setup.link.role ≡ Central → HasRanges setup past)
    → (end_facts_of setup past).control.ends ≡ None
    → All IsTakenInTime (takings_noted setup.link.role (end_notes_of setup past))) → ComeInTime
taken_in_time come setup past role ends =
    subst (λ r. All IsTakenInTime (takings_noted r (end_notes_of setup past))) role
    (come setup past (λ central. absurd (let h : Central ≡ Peripheral = sym central ∙ role in cc)) ends)

-- a note of an indication in force is of none that is taken
none_applied : (handle event number : ℕ) (applied : Option ℕ) → takings_from Peripheral number (applied_notes handle event applied) ≡ []
none_applied handle event number None = refl
none_applied handle event number (Some count) = refl

-- ---- an event is entered

module _ (setup : Setup) (past : List Step) (slot : ℕ) (on : Bool) (handle event channel : ℕ)
    (entered : IsEntered slot (facts_of setup past).links handle event channel)
    (ranges : HasRanges entered.link.setup entered.link.past) where
  abbrev link : OpenLink
  link = entered.link

  abbrev own : ℕ
  own = entered.link.setup.link.handle

  abbrev track : TrackFacts
  track = track_after_enter (facts_in entered.link).control.track

  abbrev own_channel : ℕ
  own_channel = channel_of (algorithm_of entered.link.setup.link) (event_of track) track.params.map

  abbrev own_event : EventNo
  own_event = record { 0 = event_of track }

  abbrev applied_then : List Note
  applied_then = applied_notes own (event_of track) (next_number (facts_in entered.link).control.track)

  own_is : own ≡ handle
  own_is = subst (HasHandle handle) entered.is_open (has_its_handle 0 handle (facts_of setup past).links (own_handles setup past).handles)

  enters_now : enters_in slot entered.link ≡ true
  enters_now = (λ i. entered.is_on i && is_anchor slot entered.link) ∙ eq-eqb (next_anchor_of (facts_in entered.link).control.track) slot entered.at_anchor

  -- before the note of the event the call notes of the link what comes into force, and no PDU
  said_before : (earlier later : List Note)
      → notes_after setup (facts_of setup past) (TurnBegins slot on) ≡ earlier ++ EnterNote handle (record { 0 = event }) channel ∷ later
      → flat_map (said_under handle) earlier ≡ applied_then
  said_before earlier later notes_are =
      let entry = entry_when slot (is_quiet_now (facts_in link)) (facts_in link).control true in
      let note = EnterNote own own_event own_channel in
      let entry_is = entry_are link.setup link.past slot (λ central. ranges) entered.is_on in
      let call = call_said handle setup past slot on link entered.is_open entered.stays enters_now in
      let whole : applied_then ++ note ∷ call.rest ≡ all_said handle earlier ++ EnterNote handle (record { 0 = event }) channel ∷ all_said handle later =
      sym (append_assoc applied_then (note ∷ []) call.rest)
      ∙ ap (λ xs. xs ++ call.rest) (sym (ap (all_said handle) entry_is
      ∙ own_said handle own own_channel own_event (next_number (facts_in link).control.track) entry.done entry.began (eq-eqb own handle own_is)))
      ∙ sym call.is ∙ ap (all_said handle) notes_are ∙ call_parts handle channel (record { 0 = event }) earlier later in
      (find_enter own own_event own_channel call.rest call.no_entry (next_number (facts_in link).control.track) (all_said handle earlier)
      (all_said handle later)
      handle channel (record { 0 = event }) whole).before_is

  pub none_taken : (notes earlier later : List Note)
      → notes_after setup (facts_of setup past) (TurnBegins slot on) ≡ earlier ++ EnterNote handle (record { 0 = event }) channel ∷ later
      → takings_noted Peripheral (notes ++ flat_map (said_under handle) earlier) ≡ takings_noted Peripheral notes
  none_taken notes earlier later is =
      takings_more Peripheral notes (flat_map (said_under handle) earlier)
      ∙ ap (λ xs. takings_noted Peripheral notes ++ takings_from Peripheral (event_noted notes) xs) (said_before earlier later is)
      ∙ ap (λ (xs : List Taking). takings_noted Peripheral notes ++ xs)
      (none_applied own (event_of track) (event_noted notes) (next_number (facts_in entered.link).control.track))
      ∙ append-nil (takings_noted Peripheral notes)

-- ---- a line of it

-- the role of a side on a link is that of its end
pub role_of_end : (link begun : LinkBegun) (role : Role) (side : Side) → Some begun ≡ Some link → begun.central ≡ central_side role side
    → role_on link side ≡ role
role_of_end link begun role side same central =
    ap (λ (l : LinkBegun). role_by l.central side) (sym (same_link begun link same)) ∙ ap (λ one. role_by one side) central ∙ role_is role side

module _ (understood : IsUnderstood) (taken : AreTaken) (given : Given) (are_two : given.stations ≡ 0 ∷ 1 ∷ []) (six : HaveAddresses given)
    (come : ComeInTime) where
  -- what the call enters
  module _ (front : List Entry) (side : Side) (number event channel : ℕ) (call : IsLineInCall given front (enter_line side number event channel))
      (slot : ℕ) (on : Bool) (begins : call.step ≡ TurnBegins slot on)
      (entered : IsEntered slot (facts_at given call.station call.base).links call.handle event channel) where
    abbrev line : LinkLine
    line = enter_line side number event channel

    abbrev end : OpenLink
    end = entered.link

    of : IsEndOfLine given front line call end
    of = end_of_line understood taken given are_two six front line call end entered.is_open

    ranges : HasRanges end.setup end.past
    ranges =
        values_in_range taken given call.base (Called call.station call.step ∷ call.after) call.station call.handle end (are_distinct given are_two)
        (in_it understood taken given are_two six front line call end entered.is_open) call.called entered.is_open

    same_taken : takings_noted Peripheral (notes_said side number front) ≡ takings_noted Peripheral (end_notes_of end.setup end.past)
    same_taken =
        (of.alike Peripheral).takings
        ∙ none_taken (setup_at given call.station) (past_of call.station call.base) slot on call.handle event channel entered ranges
        (end_notes_of end.setup end.past) call.earlier call.later
        (ap (λ s. notes_after (setup_at given call.station) (facts_at given call.station call.base) s) (sym begins) ∙ call.notes_are)

    line_in_time : (link : LinkBegun) → link_numbered number front ≡ Some link → role_on link side ≡ Peripheral
        → All IsTakenInTime (takings_noted Peripheral (notes_said side number front))
    line_in_time link is_link is_peripheral =
        subst (All IsTakenInTime) (sym same_taken)
        (come end.setup end.past (sym (role_of_end link of.link_begun end.setup.link.role side (sym of.is_link ∙ is_link) of.central_is) ∙ is_peripheral)
        (none_of (facts_in end).control.ends entered.is_on))

  pub came_in_time : AllCameInTime (journal_of (history_of (run_of given)))
  came_in_time front rest side number event channel link is is_link is_peripheral =
      let line = enter_line side number event channel in
      let call = line_in_call given front rest (Enter side number event channel) line refl is in
      let setup = setup_at given call.station in
      let past = past_of call.station call.base in
      let is_noted = is_contained given front line call in
      let turn = turn_of call.step (enters_as_turns_begin setup past call.step call.handle event channel is_noted) in
      line_in_time front side number event channel call turn.slot turn.on turn.is
      ((enters_at_anchors setup past turn.slot turn.on call.handle event channel).0
      (subst (λ s. Contains (notes_after setup (facts_at given call.station call.base) s) (line.note call.handle)) turn.is is_noted)) link is_link is_peripheral

-- The note of an event that a link enters as a turn begins, with what its end noted before it.
use Rattle.std.proofs.Common.{◌≡◌, ℕ, Bool, true, List, [], ◌∷◌, ◌++◌, sym, ap, subst, ◌∙◌, append_assoc}
use Rattle.std.specs.Prelude.{◌&&◌}
use Rattle.std.specs.List.{flat_map}
use Rattle.std.proofs.lemmas.Bool.{eq-eqb}
use Rattle.ble_base.specs.declared.counters.EventNo.{EventNo}
use Rattle.ble_base.specs.declared.notes.Note.{Note}
use Rattle.ble_base.specs.declared.notes.Note.TheVariants.{Enter}
use Rattle.chan_select.specs.Channel.{channel_of}
use Rattle.instants.specs.Track.{TrackFacts, event_of, next_anchor_of, next_number, track_after_enter}
use Rattle.run_laws.specs.link_model.Controls.{is_quiet_now}
use Rattle.run_laws.specs.link_model.End.{notes_of as end_notes_of}
use Rattle.run_laws.specs.link_model.Entering.{began_notes, done_notes}
use Rattle.run_laws.specs.link_model.Events.{applied_notes}
use Rattle.run_laws.specs.link_model.Setup.{algorithm_of}
use Rattle.run_laws.specs.open_links.OpenLinks.{HasHandle, OpenLink, facts_in}
use Rattle.run_laws.specs.open_links.Turns.{enters_in, is_anchor}
use Rattle.run_laws.proofs.open_links.Handles.{has_its_handle}
use Rattle.run_laws.specs.controller_model.Entering.{IsEntered}
use Rattle.run_laws.specs.controller_model.Facts.{Setup}
use Rattle.run_laws.specs.controller_model.Side.{facts_of, notes_after}
use Rattle.run_laws.specs.controller_model.Step.{Step, TurnBegins}
use Rattle.run_laws.proofs.controller_model.Handles.{own_handles}
use Rattle.link_changes.specs.InForce.{HasRanges, IsEnteredBy}
use Rattle.link_changes.proofs.Entries.{enters as enters_by_notes, entry_are, find_enter}
use Rattle.link_changes.proofs.Steps.{entry_when}
use Rattle.journal_links.proofs.CallNotes.{all_said, call_said, own_said}
use Rattle.journal_links.proofs.ChangesAt.{call_parts}
use Rattle.journal_links.proofs.SaidLines.{said_under}

-- what the call noted of the link before the note of the event, and what follows for the event
pub record IsNotedAfter (handle event channel : ℕ) (link : OpenLink) (earlier : List Note) : Type 0 where
  pub applied : List Note
  pub said_is : flat_map (said_under handle) earlier ≡ applied
  pub entered : IsEnteredBy link.setup link.past (end_notes_of link.setup link.past ++ applied) event channel

module _ (setup : Setup) (past : List Step) (slot : ℕ) (on : Bool) (handle event channel : ℕ) (entered : IsEntered slot (facts_of setup past).links handle event channel)
    (ranges : HasRanges entered.link.setup entered.link.past) where
  abbrev link : OpenLink
  link = entered.link

  abbrev own : ℕ
  own = entered.link.setup.link.handle

  abbrev track : TrackFacts
  track = track_after_enter (facts_in entered.link).control.track

  abbrev own_channel : ℕ
  own_channel = channel_of (algorithm_of entered.link.setup.link) (event_of track) track.params.map

  abbrev own_event : EventNo
  own_event = record { 0 = event_of track }

  abbrev applied_then : List Note
  applied_then = applied_notes own (event_of track) (next_number (facts_in entered.link).control.track)

  own_is : own ≡ handle
  own_is = subst (HasHandle handle) entered.is_open (has_its_handle 0 handle (facts_of setup past).links (own_handles setup past).handles)

  enters_now : enters_in slot entered.link ≡ true
  enters_now = (λ i. entered.is_on i && is_anchor slot entered.link) ∙ eq-eqb (next_anchor_of (facts_in entered.link).control.track) slot entered.at_anchor

  pub noted_after : (earlier later : List Note) → notes_after setup (facts_of setup past) (TurnBegins slot on) ≡ earlier ++ Enter handle (record { 0 = event }) channel ∷ later
      → IsNotedAfter handle event channel entered.link earlier
  noted_after earlier later notes_are =
      let entry = entry_when slot (is_quiet_now (facts_in link)) (facts_in link).control true in
      let after = done_notes own entry.done ++ began_notes own entry.began in
      let note = Enter own own_event own_channel in
      let entry_is = entry_are link.setup link.past slot (λ central. ranges) entered.is_on in
      let call = call_said handle setup past slot on link entered.is_open entered.stays enters_now in
      let whole : applied_then ++ note ∷ call.rest ≡ all_said handle earlier ++ Enter handle (record { 0 = event }) channel ∷ all_said handle later =
      sym (append_assoc applied_then (note ∷ []) call.rest)
      ∙ ap (λ xs. xs ++ call.rest) (sym (ap (all_said handle) entry_is
      ∙ own_said handle own own_channel own_event (next_number (facts_in link).control.track) entry.done entry.began (eq-eqb own handle own_is)))
      ∙ sym call.is ∙ ap (all_said handle) notes_are ∙ call_parts handle channel (record { 0 = event }) earlier later in
      let found = find_enter own own_event own_channel call.rest call.no_entry (next_number (facts_in link).control.track) (all_said handle earlier) (all_said handle later)
      handle channel (record { 0 = event }) whole in
      let by = enters_by_notes link.setup link.past slot (λ central. ranges) applied_then after own own_event own_channel entry_is in
      let same : event ≡ event_of track = ap (λ (e : EventNo). e.0) found.number_is in record {
        applied = applied_then;
        said_is = found.before_is;
        entered = subst (λ n. IsEnteredBy link.setup link.past (end_notes_of link.setup link.past ++ applied_then) n channel) (sym same)
            (subst (λ n. IsEnteredBy link.setup link.past (end_notes_of link.setup link.past ++ applied_then) (event_of track) n) (sym found.channel_is) by);
      }

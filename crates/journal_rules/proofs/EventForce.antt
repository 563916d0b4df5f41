-- The parameters of an end in the event that it enters, by the indications that it noted up to the note of that event.
use Rattle.std.proofs.Common.{◌≡◌, ℕ, ◌+◌, ◌≤◌, Bool, true, Option, Some, None, is_none, List, [], ◌∷◌, ◌++◌, take, ◌&&◌, refl, sym, ap, subst, ◌∙◌, append-nil, append_assoc, arith}
use Rattle.std.specs.List.{flat_map}
use Rattle.std.proofs.lemmas.Bool.{eq-eqb}
use Rattle.ble_base.specs.declared.counters.EventNo.{EventNo}
use Rattle.ble_base.specs.declared.error_codes.ErrCode.{ErrCode}
use Rattle.ble_base.specs.declared.notes.Note.{Note}
use Rattle.ble_base.specs.declared.notes.Note.TheVariants.{Enter}
use Rattle.ble_base.specs.declared.roles.Role.{Role}
use Rattle.chan_select.specs.Channel.{channel_of}
use Rattle.instants.specs.Parameters.{params_in}
use Rattle.instants.specs.Track.{TrackFacts, event_of, next_anchor_of, next_number, track_after_enter}
use Rattle.link_changes.specs.InForce.{HasRanges}
use Rattle.link_changes.specs.Noted.{applied_noted, changes_noted, event_noted, taking_if, takings_noted}
use Rattle.link_changes.proofs.Coming.{follows_now}
use Rattle.link_changes.proofs.Entries.{entry_are, find_enter}
use Rattle.link_changes.proofs.Knowing.{Knows, changes_in, enter_says_none, knows_entered}
use Rattle.link_changes.proofs.Notes.{applied_more, takings_more}
use Rattle.link_changes.proofs.Standing.{entered_more}
use Rattle.link_changes.proofs.Steps.{entry_when, past_known}
use Rattle.journal_events.specs.journal_leaving.controller_model.Entering.{IsEntered}
use Rattle.journal_events.specs.journal_leaving.controller_model.Facts.{Setup}
use Rattle.journal_events.specs.journal_leaving.controller_model.Links.{facts_ending}
use Rattle.journal_events.specs.journal_leaving.controller_model.Side.{facts_of, notes_after}
use Rattle.journal_events.specs.journal_leaving.controller_model.Step.{Step, TurnBegins}
use Rattle.journal_events.specs.journal_leaving.journal_data.open_links.OpenLinks.{HasHandle, OpenLink, facts_in, link_at}
use Rattle.journal_events.specs.journal_leaving.journal_data.open_links.Turns.{due_in, enters_in, is_anchor, place_without, staying_by}
use Rattle.journal_events.specs.journal_leaving.link_model.Controls.{is_quiet_now}
use Rattle.journal_events.specs.journal_leaving.link_model.End.{notes_of as end_notes_of}
use Rattle.journal_events.specs.journal_leaving.link_model.Entering.{control_entered}
use Rattle.journal_events.specs.journal_leaving.link_model.Events.{applied_notes}
use Rattle.journal_events.specs.journal_leaving.link_model.Facts.{Facts as EndFacts}
use Rattle.journal_events.specs.journal_leaving.link_model.Setup.{Setup as EndSetup, algorithm_of, first_anchor, first_params}
use Rattle.journal_events.specs.journal_leaving.link_model.Step.{Step as EndStep}
use Rattle.journal_events.specs.journal_leaving.link_model.control_model.Control.{Control, Owes}
use Rattle.journal_events.proofs.journal_leaving.controller_model.Always.{ending_is}
use Rattle.journal_events.proofs.journal_leaving.controller_model.Handles.{own_handles}
use Rattle.journal_events.proofs.journal_leaving.journal_links.CallNotes.{all_said, call_said, own_said}
use Rattle.journal_events.proofs.journal_leaving.journal_links.ChangesAt.{call_parts}
use Rattle.journal_events.proofs.journal_leaving.journal_links.SaidLines.{said_under}
use Rattle.journal_events.proofs.journal_leaving.journal_links.open_links.Ends.{stays_where_not_due}
use Rattle.journal_events.proofs.journal_leaving.journal_links.open_links.Handles.{has_its_handle}
use Rattle.journal_events.proofs.journal_leaving.link_model.Views.{Owed, Owing, Same, entered_view}
use Rattle.journal_events.proofs.journal_leaving.link_model.control_model.Moving.{enters_track, table_alone}

-- ---- one end

-- the track of an end that enters an event
pub entered_track : (slot : ℕ) (facts : EndFacts) → is_none facts.control.ends ≡ true → (control_entered slot facts).track ≡ track_after_enter facts.control.track
entered_track slot facts lasts =
    owing_track _ (control_entered slot facts) (entered_view slot facts) ∙ enters_track facts.control slot (is_quiet_now facts) (none_of facts.control.ends lasts)
  where
    none_of : (ends : Option ErrCode) → is_none ends ≡ true → ends ≡ None
    none_of None is = refl
    none_of (Some code) is = absurd cc

    -- a PDU of an encryption may be queued then
    owing_track : (c d : Control) → Owing c d → d.track ≡ c.track
    owing_track c d (Same is) = ap (λ (e : Control). e.track) is
    owing_track c d (Owed ctrl may is) = ap (λ (e : Control). e.track) is ∙ table_alone c (Owes ctrl) refl

-- its note of the event leaves what is in force
enter_leaves : (role : Role) (notes : List Note) (handle channel : ℕ) (event : EventNo) → changes_noted role (notes ++ Enter handle event channel ∷ []) ≡ changes_noted role notes
enter_leaves role notes handle channel event =
    let note = Enter handle event channel in
    let sum = applied_more notes (note ∷ []) in
    let number : applied_noted (notes ++ note ∷ []) ≡ applied_noted notes = omega (arith, sum) in
    let takings : takings_noted role (notes ++ note ∷ []) ≡ takings_noted role notes =
    takings_more role notes (note ∷ []) ∙ (λ i. takings_noted role notes ++ (taking_if (event_noted notes) (enter_says_none role handle channel event i) ++ []))
    ∙ append-nil (takings_noted role notes) in
    λ i. take (number i) (changes_in (takings i))

module _ (setup : EndSetup) (past : List EndStep) (facts : EndFacts) (notes : List Note) (knows : Knows setup.link.role (first_params setup.link.fields) (first_anchor setup) notes true facts.control.track) where
  abbrev u : TrackFacts
  u = track_after_enter facts.control.track

  abbrev applied_before : List Note
  applied_before = applied_notes setup.link.handle (event_of u) (next_number facts.control.track)

  params_then : (channel : ℕ)
      → u.params ≡ params_in (first_params setup.link.fields) (changes_noted setup.link.role (notes ++ applied_before)) (event_of u)
  params_then channel =
      let role = setup.link.role in
      let first = first_params setup.link.fields in
      let note = Enter setup.link.handle (record { 0 = event_of u }) channel in
      let more = entered_more facts.control.track.waits facts.control.track in
      let after = knows_entered role first (first_anchor setup) notes facts.control.track setup.link.handle channel knows in
      (follows_now role first (first_anchor setup) (notes ++ (applied_before ++ note ∷ [])) true u after (omega (arith, more))).params
      ∙ ap (λ changes. params_in first changes (event_of u))
      (ap (changes_noted role) (sym (append_assoc notes applied_before (note ∷ []))) ∙ enter_leaves role (notes ++ applied_before) setup.link.handle channel (record { 0 = event_of u }))

-- ---- as a turn begins

-- what the call noted of the link before the note of the event, and the parameters that follow for the event
pub record IsInForce (handle event : ℕ) (link : OpenLink) (earlier : List Note) : Type 0 where
  pub applied : List Note
  pub said_is : flat_map (said_under handle) earlier ≡ applied
  pub params : (track_after_enter (facts_in link).control.track).params
      ≡ params_in (first_params link.setup.link.fields) (changes_noted link.setup.link.role (end_notes_of link.setup link.past ++ applied)) event

module _ (setup : Setup) (past : List Step) (slot : ℕ) (on : Bool) (handle event channel : ℕ) (entered : IsEntered slot (facts_of setup past).links handle event channel)
    (ranges : HasRanges entered.link.setup entered.link.past) where
  abbrev link : OpenLink
  link = entered.link

  abbrev own : ℕ
  own = entered.link.setup.link.handle

  abbrev track : TrackFacts
  track = track_after_enter (facts_in entered.link).control.track

  abbrev own_channel : ℕ
  own_channel = channel_of (algorithm_of entered.link.setup.link) (event_of track) track.params.map

  abbrev own_event : EventNo
  own_event = record { 0 = event_of track }

  abbrev applied_then : List Note
  applied_then = applied_notes own (event_of track) (next_number (facts_in entered.link).control.track)

  own_is : own ≡ handle
  own_is = subst (HasHandle handle) entered.is_open (has_its_handle 0 handle (facts_of setup past).links (own_handles setup past).handles)

  enters_now : enters_in slot entered.link ≡ true
  enters_now = (λ i. entered.is_on i && is_anchor slot entered.link) ∙ eq-eqb (next_anchor_of (facts_in entered.link).control.track) slot entered.at_anchor

  -- it stays open
  pub link_stays : link_at handle (facts_ending slot (facts_of setup past)).links ≡ Some entered.link
  link_stays =
      ap (λ facts. link_at handle facts.links) (ending_is slot (facts_of setup past))
      ∙ stays_where_not_due (due_in slot) 0 handle (facts_of setup past).links ∙ ap (place_without (due_in slot)) entered.is_open
      ∙ ap (λ (reason : Option ℕ). staying_by reason entered.link) entered.stays

  knows_now : Knows link.setup.link.role (first_params link.setup.link.fields) (first_anchor link.setup) (end_notes_of link.setup link.past) true (facts_in link).control.track
  knows_now =
      subst (λ (b : Bool). Knows link.setup.link.role (first_params link.setup.link.fields) (first_anchor link.setup) (end_notes_of link.setup link.past) b (facts_in link).control.track)
      entered.is_on (past_known link.setup link.past (λ central. ranges)).part.knows

  pub in_force : (earlier later : List Note) → notes_after setup (facts_of setup past) (TurnBegins slot on) ≡ earlier ++ Enter handle (record { 0 = event }) channel ∷ later
      → IsInForce handle event entered.link earlier
  in_force earlier later notes_are =
      let entry = entry_when slot (is_quiet_now (facts_in link)) (facts_in link).control true in
      let note = Enter own own_event own_channel in
      let entry_is = entry_are link.setup link.past slot (λ central. ranges) entered.is_on in
      let call = call_said handle setup past slot on link entered.is_open entered.stays enters_now in
      let whole : applied_then ++ note ∷ call.rest ≡ all_said handle earlier ++ Enter handle (record { 0 = event }) channel ∷ all_said handle later =
      sym (append_assoc applied_then (note ∷ []) call.rest)
      ∙ ap (λ xs. xs ++ call.rest) (sym (ap (all_said handle) entry_is
      ∙ own_said handle own own_channel own_event (next_number (facts_in link).control.track) entry.done entry.began (eq-eqb own handle own_is)))
      ∙ sym call.is ∙ ap (all_said handle) notes_are ∙ call_parts handle channel (record { 0 = event }) earlier later in
      let found = find_enter own own_event own_channel call.rest call.no_entry (next_number (facts_in link).control.track) (all_said handle earlier) (all_said handle later)
      handle channel (record { 0 = event }) whole in
      let same : event ≡ event_of track = ap (λ (e : EventNo). e.0) found.number_is in record {
        applied = applied_then;
        said_is = found.before_is;
        params = params_then link.setup link.past (facts_in link) (end_notes_of link.setup link.past) knows_now own_channel
            ∙ ap (params_in (first_params link.setup.link.fields) (changes_noted link.setup.link.role (end_notes_of link.setup link.past ++ applied_then))) (sym same);
      }

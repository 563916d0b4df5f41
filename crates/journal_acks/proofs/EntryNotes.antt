-- The events among the notes of a link: they are numbered one after another, and what is read of their lines is read of
-- them.
use Rattle.std.proofs.Common.{◌≡◌, ℕ, zero, suc, ◌+◌, ◌==◌, ◌&&◌, Bool, true, false, Option, Some, None, List, [], ◌∷◌, ◌++◌, refl, sym, ap, subst, ◌∙◌, arith}
use Rattle.std.specs.Prelude.{fold, map, ⊤, if◌then◌else◌}
use Rattle.std.specs.List.{AllByRecursion}
use Rattle.std.proofs.lemmas.Bool.{eq-eqb}
use Rattle.std.proofs.lemmas.List.Sums.{fold-append}
use Rattle.ble_base.specs.declared.notes.Note.{Note}
use Rattle.ble_base.specs.declared.notes.Note.TheVariants.{Up, Enter}
use Rattle.ble_base.specs.declared.procedure_kinds.Kind.{Kind}
use Rattle.ble_base.specs.declared.roles.Role.{Role}
use Rattle.ble_base.specs.declared.roles.Side.{Side}
use Rattle.ble_base.specs.declared.roles.Side.TheVariants.{A, B}
use Rattle.journal_packets.specs.control_end.declared.answers.Entry.{Entry as EndEntry}
use Rattle.journal_packets.specs.control_end.Answers.{entry_of}
use Rattle.journal_packets.specs.control_end.Held.{held_of}
use Rattle.link_calls.specs.run_model.procedure_values.declared.asks.Ask.{Ask}
use Rattle.instants.specs.Track.{TrackFacts, event_of}
use Rattle.journal.specs.declared.entries.Entry.{Entry}
use Rattle.journal.specs.declared.entries.Entry.TheVariants.{Air, Enter as EnterLine}
use Rattle.journal_packets.specs.link_model.declared.events.ConnectionEvent.{ConnectionEvent}
use Rattle.journal_packets.specs.link_model.Events.{applied_notes}
use Rattle.journal_packets.specs.link_model.Setup.{Setup}
use Rattle.journal_packets.specs.link_model.Controls.{goes_on, is_quiet_now}
use Rattle.journal_packets.specs.link_model.End.{facts_after, facts_of, notes_after, notes_from, notes_of}
use Rattle.journal_packets.specs.link_model.Entering.{began_notes, done_notes, event_notes, facts_entered, facts_entered_if}
use Rattle.journal_packets.specs.link_model.Facts.{Facts, first_facts}
use Rattle.journal_packets.specs.link_model.Hosts.{asked_unless, is_to_come}
use Rattle.journal_packets.specs.link_model.Packets.{good_pdu, is_forged}
use Rattle.journal_packets.specs.link_model.Receiving.{facts_received}
use Rattle.journal_packets.specs.link_model.Step.{Step, EventEntered, PacketSent, PacketReceived, PduFixed, ProcedureAsked}
use Rattle.journal_packets.proofs.open_links.Anchors.{IsInPlace, enters, one_more_entered, stays_in_place}
use Rattle.journal_packets.proofs.controller_model.EndNotes.{received_each, sent_each}
use Rattle.journal_packets.proofs.controller_model.Entries.{entered_track}
use Rattle.link_calls.proofs.HeardSteps.{fixed_same, forged_event, received_same, sent_in}
use Rattle.link_calls.specs.run_model.Journal.{side_of}
use Rattle.link_calls.specs.run_model.Readers.{of_side}
use Rattle.journal_packets.specs.journal_links.LinkLines.{AreLinesOf, line_of, link_named, where_named}
use Rattle.journal_packets.proofs.journal_links.LinkLines.{fold_lines}
use Rattle.journal_packets.specs.Belonging.{is_side}

-- ---- what is read of each event

abbrev pub is_entry : Entry → Bool
is_entry (EnterLine side link event channel) = true
is_entry other = false

-- what is read of the lines of a journal on which a side enters an event of a link, and of no others
pub record Reading (X : Type 0) : Type 0 where
  pub first : X
  -- after a line of that side and that link, with this channel
  pub enters : ℕ → X → X
  pub after : ℕ → Side → X → Entry → X
  pub entered : (number : ℕ) (side other : Side) (link event channel : ℕ) (before : X)
      → after number side before (EnterLine other link event channel) ≡ (if is_side other side && link == number then enters channel before else before)
  pub others : (number : ℕ) (side : Side) (before : X) (entry : Entry) → is_entry entry ≡ false → after number side before entry ≡ before

-- the same of a note
abbrev pub read_note : {X : Type 0} → Reading X → X → Note → X
read_note reading before (Enter handle event channel) = reading.enters channel before
read_note reading before note = before

pub unnamed : (side other : Side) (same : Bool) (line : Entry) → of_side side other (if same then line ∷ [] else []) ≡ [] → (is_side other side && same) ≡ false
unnamed A A true line none = absurd cc
unnamed B B true line none = absurd cc
unnamed A B true line none = refl
unnamed B A true line none = refl
unnamed A A false line none = refl
unnamed A B false line none = refl
unnamed B A false line none = refl
unnamed B B false line none = refl

named : (side : Side) (same : Bool) → same ≡ true → (is_side side side && same) ≡ true
named A same is = is
named B same is = is

module _ {X : Type 0} (reading : Reading X) (side : Side) (number : ℕ) where
  passes_over : (before : X) (entry : Entry) → where_named side number (link_named entry) entry ≡ [] → reading.after number side before entry ≡ before
  passes_over before (EnterLine other link event channel) none =
      reading.entered number side other link event channel before
      ∙ ap (λ b. if b then reading.enters channel before else before) (unnamed side other (link == number) (EnterLine other link event channel) none)
  passes_over before (Air other channel octets fate verdict) none = reading.others number side before (Air other channel octets fate verdict) refl
  passes_over before entry none = reading.others number side before entry refl

  line_read : (before : X) (note : Note) → reading.after number side before (line_of side number note) ≡ read_note reading before note
  line_read before (Enter handle event channel) =
      reading.entered number side side number event.0 channel before
      ∙ ap (λ b. if b then reading.enters channel before else before) (named side (number == number) (eq-eqb number number refl))
  line_read before (Up packet) = reading.others number side before (line_of side number (Up packet)) refl
  line_read before note = reading.others number side before (line_of side number note) refl

  lines_read : (before : X) (notes : List Note) → fold (reading.after number side) before (map (line_of side number) notes) ≡ fold (read_note reading) before notes
  lines_read before [] = refl
  lines_read before (note ∷ notes) =
      ap (λ x. fold (reading.after number side) x (map (line_of side number) notes)) (line_read before note) ∙ lines_read (read_note reading before note) notes

-- what is read of the lines of a link is read of its notes
pub read_off : {X : Type 0} (reading : Reading X) (journal : List Entry) (station number : ℕ) (notes : List Note) → AreLinesOf journal station number notes
    → fold (reading.after number (side_of station)) reading.first journal ≡ fold (read_note reading) reading.first notes
read_off reading journal station number notes are =
    let side = side_of station in
    fold_lines side number (reading.after number side) (passes_over reading side number) reading.first journal
    ∙ ap (fold (reading.after number side) reading.first) are ∙ lines_read reading side number reading.first notes

-- ---- numbers

abbrev IsNext : ℕ → Note → Type 0
IsNext count (Enter handle event channel) = event.0 ≡ count
IsNext count note = ⊤

abbrev pub count_note : ℕ → Note → ℕ
count_note count (Enter handle event channel) = count + 1
count_note count note = count

abbrev pub channel_noted : Option ℕ → Note → Option ℕ
channel_noted before (Enter handle event channel) = Some channel
channel_noted before note = before

-- the events among these notes are numbered from this number on
abbrev pub AreInOrder : ℕ → List Note → Type 0
AreInOrder count [] = ⊤
AreInOrder count (note ∷ notes) = IsNext count note × AreInOrder (count_note count note) notes

pub order_append : (count : ℕ) (xs ys : List Note) → AreInOrder count xs → AreInOrder (fold count_note count xs) ys → AreInOrder count (xs ++ ys)
order_append count [] ys are also = also
order_append count (x ∷ xs) ys are also = (are.0, order_append (count_note count x) xs ys are.1 also)

pub order_at : (count : ℕ) (xs ys : List Note) (handle event channel : ℕ) → AreInOrder count (xs ++ Enter handle (record { 0 = event }) channel ∷ ys)
    → event ≡ fold count_note count xs
order_at count [] ys handle event channel are = are.0
order_at count (x ∷ xs) ys handle event channel are = order_at (count_note count x) xs ys handle event channel are.1

-- ---- what an end notes

-- a note of no event
abbrev IsNoEvent : Note → Type 0
IsNoEvent (Enter handle event channel) = ⊥
IsNoEvent note = ⊤

-- such notes change neither the numbers nor the channel
record EntersNone (notes : List Note) : Type 0 where
  order : (count : ℕ) → AreInOrder count notes
  count : (count : ℕ) → fold count_note count notes ≡ count
  channel : (before : Option ℕ) → fold channel_noted before notes ≡ before

enters_none : (notes : List Note) → AllByRecursion IsNoEvent notes → EntersNone notes
enters_none [] are = record { order = λ count. tt; count = λ count. refl; channel = λ before. refl }
enters_none (Enter handle event channel ∷ notes) are = absurd are.0
enters_none (Up packet ∷ notes) are =
    let rest = enters_none notes are.1 in record { order = λ count. (tt, rest.order count); count = rest.count; channel = rest.channel }
enters_none (note ∷ notes) are =
    let rest = enters_none notes are.1 in record { order = λ count. (tt, rest.order count); count = rest.count; channel = rest.channel }

-- only as it enters an event does an end note one
quiet_step : (setup : Setup) (facts : Facts) (step : Step) → enters step ≡ false → AllByRecursion IsNoEvent (notes_after setup facts step)
quiet_step setup facts (EventEntered slot) none = absurd cc
quiet_step setup facts (PacketSent slot) none = sent_each IsNoEvent setup facts (λ number llid octets. tt)
quiet_step setup facts (PacketReceived slot octets room) none =
    received_each IsNoEvent setup slot room (good_pdu setup facts octets) facts
    (record { took = λ number llid octets. tt; refused = λ kind code. tt; done = λ kind. tt })
quiet_step setup facts step none = tt

-- ---- the numbers of its events

-- the events among these notes are all that an end entered meanwhile, one after another
pub record IsNumbered (entered next : ℕ) (notes : List Note) : Type 0 where
  pub order : AreInOrder entered notes
  pub count : fold count_note entered notes ≡ next

silent : (entered next : ℕ) (notes : List Note) → next ≡ entered → AllByRecursion IsNoEvent notes → IsNumbered entered next notes
silent entered next notes same are = let none = enters_none notes are in record { order = none.order entered; count = none.count entered ∙ sym same }

both_numbered : (entered next last : ℕ) (notes more : List Note) → IsNumbered entered next notes → IsNumbered next last more → IsNumbered entered last (notes ++ more)
both_numbered entered next last notes more first rest = record {
  order = order_append entered notes more first.order (subst (λ n. AreInOrder n more) (sym first.count) rest.order);
  count = fold-append count_note entered notes more ∙ ap (λ n. fold count_note n more) first.count ∙ rest.count;
}

module _ (handle : ℕ) where
  quiet_applied : (event : ℕ) (number : Option ℕ) → AllByRecursion IsNoEvent (applied_notes handle event number)
  quiet_applied event None = tt
  quiet_applied event (Some number) = (tt, tt)

  quiet_done : (kind : Option Kind) → AllByRecursion IsNoEvent (done_notes handle kind)
  quiet_done None = tt
  quiet_done (Some kind) = (tt, tt)

  quiet_began : (kind : Option Kind) → AllByRecursion IsNoEvent (began_notes handle kind)
  quiet_began None = tt
  quiet_began (Some kind) = (tt, tt)

  event_numbered : (entered : ℕ) (event : ConnectionEvent) (entry : EndEntry) → event.number ≡ entered → IsNumbered entered (entered + 1) (event_notes handle event entry)
  event_numbered entered event entry is =
      both_numbered entered (entered + 1) (entered + 1) _ _
      (both_numbered entered (entered + 1) (entered + 1) _ _
      (both_numbered entered entered (entered + 1) _ _ (silent entered entered _ refl (quiet_applied event.number entry.applied))
      (record { order = (is, tt); count = refl }))
      (silent (entered + 1) (entered + 1) _ refl (quiet_done entry.done)))
      (silent (entered + 1) (entered + 1) _ refl (quiet_began entry.began))

-- a step that enters no event leaves the number of events and the last anchor
pub stays_put : (setup : Setup) (facts : Facts) (step : Step) → enters step ≡ false
    → IsInPlace facts.control.track (facts_after setup facts step).control.track
stays_put setup facts step none = stays_in_place setup facts step none

step_numbered : (setup : Setup) (facts : Facts) (step : Step)
    → IsNumbered facts.control.track.entered (facts_after setup facts step).control.track.entered (notes_after setup facts step)
step_numbered setup facts (EventEntered slot) = by (goes_on facts) refl
  where
    entry : EndEntry
    entry = entry_of slot (is_quiet_now facts) (held_of facts.control)

    by : (goes : Bool) → goes_on facts ≡ goes
        → IsNumbered facts.control.track.entered (facts_entered_if goes setup slot facts).control.track.entered
        (if goes then event_notes setup.link.handle (facts_entered setup slot facts).event entry else [])
    by true goes =
        let before = facts.control.track in
        let event = (facts_entered setup slot facts).event in
        let after = entered_track slot facts goes in
        let more = one_more_entered before in
        let number : event.number ≡ before.entered = ap (λ (t : TrackFacts). event_of t) after ∙ omega (arith, more) in
        subst (λ n. IsNumbered before.entered n (event_notes setup.link.handle event entry)) (sym (ap (λ (t : TrackFacts). t.entered) after ∙ more))
        (event_numbered setup.link.handle before.entered event entry number)
    by false goes = silent facts.control.track.entered facts.control.track.entered [] refl tt
step_numbered setup facts step =
    silent facts.control.track.entered (facts_after setup facts step).control.track.entered (notes_after setup facts step)
    (stays_put setup facts step refl).entered (quiet_step setup facts step refl)

steps_numbered : (setup : Setup) (facts : Facts) (steps : List Step)
    → IsNumbered facts.control.track.entered (fold (facts_after setup) facts steps).control.track.entered (notes_from setup facts steps)
steps_numbered setup facts [] = silent facts.control.track.entered facts.control.track.entered [] refl tt
steps_numbered setup facts (step ∷ steps) =
    let next = facts_after setup facts step in
    both_numbered facts.control.track.entered next.control.track.entered (fold (facts_after setup) next steps).control.track.entered
    (notes_after setup facts step) (notes_from setup next steps) (step_numbered setup facts step) (steps_numbered setup next steps)

pub end_numbered : (setup : Setup) (past : List Step) → IsNumbered 0 (facts_of setup past).control.track.entered (notes_of setup past)
unfolding facts_of notes_of
end_numbered setup past = steps_numbered setup (first_facts setup) past

-- ---- their channels

-- the channel of the last event that an end entered
abbrev pub channel_if : ℕ → ℕ → Option ℕ
channel_if zero channel = None
channel_if (suc count) channel = Some channel

abbrev pub channel_last : Facts → Option ℕ
channel_last facts = channel_if facts.control.track.entered facts.event.channel

one_more : (n : ℕ) → suc n ≡ n + 1
one_more n = omega arith

-- only as it enters an event does its channel change
asked_channel : (comes : Bool) (ask : Ask) (facts : Facts) → (asked_unless comes ask facts).event.channel ≡ facts.event.channel
asked_channel true ask facts = refl
asked_channel false ask facts = refl

received_channel : (role : Role) (slot : ℕ) (room : Bool) (found : Option (List ℕ)) (facts : Facts) → (facts_received role slot room found facts).event.channel ≡ facts.event.channel
received_channel role slot room None facts = refl
received_channel role slot room (Some pdu) facts = ap (λ (e : ConnectionEvent). e.channel) (received_same role slot room pdu facts).event

channel_stays : (setup : Setup) (facts : Facts) (step : Step) → enters step ≡ false → (facts_after setup facts step).event.channel ≡ facts.event.channel
channel_stays setup facts (EventEntered slot) none = absurd cc
channel_stays setup facts (PacketSent slot) none = ap (λ (e : ConnectionEvent). e.channel) (sent_in slot facts).event
channel_stays setup facts (PacketReceived slot octets room) none =
    ap (λ (e : ConnectionEvent). e.channel)
    (forged_event (is_forged setup facts octets) (facts_received setup.link.role slot room (good_pdu setup facts octets) facts))
    ∙ received_channel setup.link.role slot room (good_pdu setup facts octets) facts
channel_stays setup facts PduFixed none = ap (λ (e : ConnectionEvent). e.channel) (fixed_same facts).event
channel_stays setup facts (ProcedureAsked ask) none = asked_channel (is_to_come ask facts) ask facts
channel_stays setup facts step none = refl

-- what it notes as it enters an event
event_channel : (handle : ℕ) (before : Option ℕ) (event : ConnectionEvent) (entry : EndEntry) → fold channel_noted before (event_notes handle event entry) ≡ Some event.channel
event_channel handle before event entry =
    let applied = applied_notes handle event.number entry.applied in
    let enter = Enter handle (record { 0 = event.number }) event.channel ∷ [] in
    let done = done_notes handle entry.done in
    let began = began_notes handle entry.began in
    fold-append channel_noted before (applied ++ enter ++ done) began
    ∙ (enters_none began (quiet_began handle entry.began)).channel (fold channel_noted before (applied ++ enter ++ done))
    ∙ fold-append channel_noted before (applied ++ enter) done
    ∙ (enters_none done (quiet_done handle entry.done)).channel (fold channel_noted before (applied ++ enter))
    ∙ fold-append channel_noted before applied enter

step_channel : (setup : Setup) (facts : Facts) (step : Step)
    → fold channel_noted (channel_last facts) (notes_after setup facts step) ≡ channel_last (facts_after setup facts step)
step_channel setup facts (EventEntered slot) = by (goes_on facts) refl
  where
    entry : EndEntry
    entry = entry_of slot (is_quiet_now facts) (held_of facts.control)

    by : (goes : Bool) → goes_on facts ≡ goes
        → fold channel_noted (channel_last facts) (if goes then event_notes setup.link.handle (facts_entered setup slot facts).event entry else [])
        ≡ channel_last (facts_entered_if goes setup slot facts)
    by true goes =
        let before = facts.control.track in
        let event = (facts_entered setup slot facts).event in
        let more = ap (λ (t : TrackFacts). t.entered) (entered_track slot facts goes) ∙ one_more_entered before in
        event_channel setup.link.handle (channel_last facts) event entry ∙ ap (λ n. channel_if n event.channel) (one_more before.entered ∙ sym more)
    by false goes = refl
step_channel setup facts step =
    (enters_none (notes_after setup facts step) (quiet_step setup facts step refl)).channel (channel_last facts)
    ∙ (λ i. channel_if (sym (stays_put setup facts step refl).entered i) (sym (channel_stays setup facts step refl) i))

steps_channel : (setup : Setup) (facts : Facts) (steps : List Step)
    → fold channel_noted (channel_last facts) (notes_from setup facts steps) ≡ channel_last (fold (facts_after setup) facts steps)
steps_channel setup facts [] = refl
steps_channel setup facts (step ∷ steps) =
    let next = facts_after setup facts step in
    let more = notes_from setup next steps in
    fold-append channel_noted (channel_last facts) (notes_after setup facts step) more
    ∙ ap (λ may. fold channel_noted may more) (step_channel setup facts step) ∙ steps_channel setup next steps

-- what an end notes has the channel of the event that it entered last
pub past_channel : (setup : Setup) (past : List Step) → fold channel_noted None (notes_of setup past) ≡ channel_last (facts_of setup past)
unfolding facts_of notes_of
past_channel setup past = steps_channel setup (first_facts setup) past

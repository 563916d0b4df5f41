-- In every run of two stations data goes up to the hosts as a turn ends.
use Rattle.std.proofs.Common.{◌≡◌, ℕ, Bool, true, false, Option, Some, None, List, [], ◌∷◌, ◌++◌, map, refl, sym, ap, subst, ◌∙◌, append-nil, append_assoc}
use Rattle.std.specs.Prelude.{⊤, All, drop, fold, take, if◌then◌else◌}
use Rattle.std.specs.List.{AllByRecursion}
use Rattle.std.proofs.lemmas.List.Elements.{All-head, All-tail}
use Rattle.std.proofs.lemmas.List.Sums.{fold-append}
use Rattle.ble_base.specs.declared.notes.Note.{Note}
use Rattle.ble_base.specs.declared.notes.Note.TheVariants.{Shut as ShutNote, Up as UpNote}
use Rattle.ble_base.specs.declared.roles.Side.{Side}
use Rattle.ble_base.specs.declared.roles.Side.TheVariants.{A, B}
use Rattle.host_view.specs.Noted.{is_acl_data}
use Rattle.journal.specs.declared.entries.Entry.{Entry}
use Rattle.journal.specs.declared.entries.Entry.TheVariants.{Turn}
use Rattle.journal_data.specs.controller_model.Side.{notes_after}
use Rattle.journal_data.specs.controller_model.Step.{Step, HostOctet, TurnBegins, TurnEnds}
use Rattle.run_model.specs.Due.{Each}
use Rattle.run_model.specs.History.{Event, TurnBegan, HostFed, Called, Noted, Transmitted, Hearing, packet_received}
use Rattle.run_model.specs.Journal.{air_entries, entries_of, entry_of, journal_of, radio_in, side_of}
use Rattle.run_model.specs.Links.{Links as Numbers, links_of}
use Rattle.run_model.specs.Run.{Given, after_call, after_feed, after_octets, facts_at, hearings_of, history_of, octets_left, run_of, setup_at, step_of}
use Rattle.run_model.proofs.EntryEvents.{is_of_event}
use Rattle.run_model.proofs.Parts.{journal_event}
use Rattle.run_model.proofs.Places.{each_append, each_at, each_event}
use Rattle.run_model.proofs.Walk.{Place, NoTurn, AtEnds, IsKept, IsStopped, IsWhole, ends_with, run_kept}
use Rattle.journal_data.proofs.journal_acks.TwoStations.{IsOfTwo}
use Rattle.journal_data.proofs.journal_acks.link_calls.CallNotes.{end_noted}
use Rattle.journal_hosts.specs.HostOrder.{AllDataComesLast, EndsNoEarlier, MayFollowData, handed_after, last_handed}
use Rattle.journal_hosts.proofs.FlowInRuns.{GoesOn, IsNoData, goes_without}

abbrev handed_at : List Event → Option Side
handed_at history = last_handed (journal_of history)

-- each line of an event may follow the data of its turn
abbrev Fits : List Event → Event → Type 0
Fits before event = (last : Side) (links : Numbers) (line : Entry) → handed_at before ≡ Some last
    → entries_of links event ≡ line ∷ [] → MayFollowData last line

-- what an event adds
handed_event : (history : List Event) (event : Event)
    → handed_at (history ++ event ∷ []) ≡ fold handed_after (handed_at history) (entries_of (links_of history) event)
handed_event history event =
    ap last_handed (journal_event history event)
    ∙ fold-append handed_after None (journal_of history) (entries_of (links_of history) event)

-- ---- before a turn ends

none_before : (history : List Event) → handed_at history ≡ None → (event : Event) → Fits history event
none_before history none event = λ last links line is one. absurd (let h : None ≡ Some last = sym none ∙ is in cc)

-- no host received data in the turn that is under way
record IsStill (history : List Event) : Type 0 where
  each : Each Fits [] history
  none : handed_at history ≡ None

event_still : (history : List Event) (event : Event)
    → fold handed_after None (entries_of (links_of history) event) ≡ None → IsStill history
    → IsStill (history ++ event ∷ [])
event_still history event quiet still = record {
  each = each_event Fits history event still.each (none_before history still.none event);
  none = handed_event history event
      ∙ ap (λ (handed : Option Side). fold handed_after handed (entries_of (links_of history) event)) still.none
      ∙ quiet;
}

quiet_note : (side : Side) (link_of : ℕ → ℕ) (number : ℕ) (note : Note) → IsNoData note
    → handed_after None (entry_of side link_of number note) ≡ None
quiet_note side link_of number (UpNote packet) none = ap (λ (acl : Bool). if acl then Some side else None) none
quiet_note side link_of number note none = refl

notes_still : (station : ℕ) (notes : List Note) (history : List Event) → AllByRecursion IsNoData notes
    → IsStill history → IsStill (history ++ map (Noted station) notes)
notes_still station [] history none still = subst IsStill (sym (append-nil history)) still
notes_still station (note ∷ notes) history none still =
    let links = links_of history in
    subst IsStill (append_assoc history (Noted station note ∷ []) (map (Noted station) notes))
    (notes_still station notes (history ++ Noted station note ∷ []) none.1 (event_still history (Noted station note)
    (quiet_note (side_of station) (links.link_of station) (links.last_of station) note none.0) still))

call_still : (given : Given) (station : ℕ) (step : Step) (history : List Event) → GoesOn step → IsStill history
    → IsStill (after_call given station step history)
call_still given station step history goes still =
    let notes = notes_after (setup_at given station) (facts_at given station history) step in
    subst IsStill (append_assoc history (Called station step ∷ []) (map (Noted station) notes))
    (notes_still station notes (history ++ Called station step ∷ [])
    (goes_without (setup_at given station) (facts_at given station history) step goes)
    (event_still history (Called station step) refl still))

octets_still : (given : Given) (station : ℕ) (octets : List ℕ) (history : List Event) → IsStill history
    → IsStill (after_octets given station octets history)
octets_still given station [] history still = still
octets_still given station (octet ∷ octets) history still =
    octets_still given station octets (after_call given station (HostOctet octet) history)
    (call_still given station (HostOctet octet) history tt still)

feed_still : (given : Given) (station : ℕ) (octets : List ℕ) (history : List Event) → IsStill history
    → IsStill (after_feed given station octets history)
feed_still given station [] history still = still
feed_still given station (octet ∷ octets) history still =
    octets_still given station (octet ∷ octets) (history ++ HostFed station (octet ∷ octets) ∷ [])
    (event_still history (HostFed station (octet ∷ octets)) refl still)

heard_goes : (received : Option (List ℕ)) → GoesOn (step_of received)
heard_goes None = tt
heard_goes (Some octets) = tt

air_quiet : (side : Side) (channel : ℕ) (octets : List ℕ) (hearings : List Hearing)
    → fold handed_after None (air_entries side channel octets hearings) ≡ None
air_quiet side channel octets [] = refl
air_quiet side channel octets (hearing ∷ hearings) = refl

-- ---- a turn ends

-- the side may end its turn then
abbrev Allows : Side → Option Side → Type 0
Allows own None = ⊤
Allows own (Some last) = EndsNoEarlier last own

own_allows : (own : Side) → EndsNoEarlier own own
own_allows A = tt
own_allows B = tt

b_allows : (handed : Option Side) → Allows B handed
b_allows None = tt
b_allows (Some A) = tt
b_allows (Some B) = tt

abbrev IsOfEnd : Note → Type 0
IsOfEnd (UpNote packet) = ⊤
IsOfEnd (ShutNote handle reason) = ⊤
IsOfEnd note = ⊥

end_allows : (own : Side) (link_of : ℕ → ℕ) (number : ℕ) (note : Note) (handed : Option Side) → IsOfEnd note
    → Allows own handed → Allows own (handed_after handed (entry_of own link_of number note))
end_allows own link_of number (UpNote packet) handed of allows = by (is_acl_data packet.items)
  where
    by : (acl : Bool) → Allows own (if acl then Some own else handed)
    by true = own_allows own
    by false = allows
end_allows own link_of number (ShutNote handle reason) handed of allows = allows
end_allows own link_of number note handed of allows = absurd of

end_follows : (own last : Side) (link_of : ℕ → ℕ) (number : ℕ) (note : Note) → IsOfEnd note → EndsNoEarlier last own
    → MayFollowData last (entry_of own link_of number note)
end_follows own last link_of number (UpNote packet) of later = later
end_follows own last link_of number (ShutNote handle reason) of later = later
end_follows own last link_of number note of later = absurd of

end_fits : (station : ℕ) (history : List Event) (note : Note) → IsOfEnd note
    → Allows (side_of station) (handed_at history) → Fits history (Noted station note)
end_fits station history note of allows = λ last links line is one.
    let same : entry_of (side_of station) (links.link_of station) (links.last_of station) note ≡ line = cc in
    subst (MayFollowData last) same
    (end_follows (side_of station) last (links.link_of station) (links.last_of station) note of
    (subst (Allows (side_of station)) is allows))

ends_fit : (station : ℕ) (notes : List Note) (history : List Event) → All IsOfEnd notes
    → Allows (side_of station) (handed_at history) → Each Fits history (map (Noted station) notes)
ends_fit station [] history of allows = tt
ends_fit station (note ∷ notes) history of allows =
    let links = links_of history in
    let first = All-head IsOfEnd note notes of in (
      end_fits station history note first allows,
      ends_fit station notes (history ++ Noted station note ∷ []) (All-tail IsOfEnd note notes of)
          (subst (Allows (side_of station)) (sym (handed_event history (Noted station note)))
          (end_allows (side_of station) (links.link_of station) (links.last_of station) note (handed_at history) first
          allows)),
    )

called_fits : (station : ℕ) (step : Step) (history : List Event) → Fits history (Called station step)
called_fits station step history = λ last links line is one. absurd cc

end_each : (given : Given) (station : ℕ) (history : List Event) → Allows (side_of station) (handed_at history)
    → Each Fits [] history → Each Fits [] (after_call given station TurnEnds history)
end_each given station history allows each =
    let setup = setup_at given station in
    let facts = facts_at given station history in
    let notes = notes_after setup facts TurnEnds in
    each_append Fits [] history (Called station TurnEnds ∷ map (Noted station) notes) each (
      called_fits station TurnEnds history,
      ends_fit station notes (history ++ Called station TurnEnds ∷ [])
          (end_noted IsOfEnd (record { up = λ octets. tt; shut = λ handle reason. tt }) setup facts)
          (subst (Allows (side_of station)) (sym (handed_event history (Called station TurnEnds))) allows),
    )

-- ---- what holds at each place

-- none received data before the first station ends its turn
abbrev WhereDone : List ℕ → List Event → Type 0
WhereDone [] history = handed_at history ≡ None
WhereDone (first ∷ done) history = ⊤

abbrev HandedAt : Place → List Event → Type 0
HandedAt NoTurn history = ⊤
HandedAt (AtEnds done left) history = WhereDone done history
HandedAt place history = handed_at history ≡ None

record AreLast (place : Place) (history : List Event) : Type 0 where
  each : Each Fits [] history
  within : HandedAt place history

some_done : (done : List ℕ) (station : ℕ) (history : List Event) → WhereDone (done ++ station ∷ []) history
some_done [] station history = tt
some_done (first ∷ done) station history = tt

none_left : (done left : List ℕ) (station : ℕ) → [] ≡ done ++ station ∷ left → ⊥
none_left [] left station are = absurd cc
none_left (first ∷ done) left station are = absurd cc

allowed : (done left : List ℕ) (station : ℕ) (history : List Event) → 0 ∷ 1 ∷ [] ≡ done ++ station ∷ left
    → WhereDone done history → Allows (side_of station) (handed_at history)
allowed [] left station history are none = subst (Allows (side_of station)) (sym none) tt
allowed (first ∷ []) left station history are within =
    let same : 1 ≡ station = cc in
    subst (λ (n : ℕ). Allows (side_of n) (handed_at history)) same (b_allows (handed_at history))
allowed (first ∷ second ∷ done) left station history are within = absurd (none_left done left station (ap (drop 2) are))

data_kept : (given : Given) → IsOfTwo given → IsKept given AreLast
data_kept given are_two = record {
  on_turn = λ slot plan history begun at is.
      let event = TurnBegan slot (map plan.radio_of given.stations) in record {
        each = each_event Fits history event is.each (turn_fits slot (map plan.radio_of given.stations) history);
        within = handed_event history event;
      };
  on_feed = λ plan done left station history are some now is.
      let still = feed_still given station (take (plan.feed_of station) (octets_left given station history)) history
      (record { each = is.each; none = is.within }) in record { each = still.each; within = still.none };
  on_fed = λ history is. record { each = is.each; within = is.within };
  on_begin = λ slot plan done left station history are due is.
      let still = call_still given station (TurnBegins slot (plan.radio_of station)) history tt
      (record { each = is.each; none = is.within }) in record { each = still.each; within = still.none };
  on_begun = λ history is. record { each = is.each; within = is.within };
  on_phase = λ phases history many is. record { each = is.each; within = is.within };
  on_silence = λ phases done left station history are none is. record { each = is.each; within = is.within };
  on_packet = λ phases plan done left station channel octets history are some due is.
      let hearings = hearings_of given plan.fates station channel octets history in
      let still = event_still history (Transmitted station channel octets hearings)
      (air_quiet (side_of station) channel octets hearings) (record { each = is.each; none = is.within }) in
      record { each = still.each; within = still.none };
  on_air = λ phases history is. record { each = is.each; within = is.within };
  on_hearing = λ phases done left station history are some is.
      let received = packet_received station history in
      let still = call_still given station (step_of received) history (heard_goes received)
      (record { each = is.each; none = is.within }) in record { each = still.each; within = still.none };
  on_heard = λ phases history is. record { each = is.each; within = is.within };
  on_phases = λ history is. record { each = is.each; within = is.within };
  on_end = λ done left station history are some is. record {
    each = end_each given station history (allowed done left station history (sym are_two ∙ are) is.within) is.each;
    within = some_done done station (after_call given station TurnEnds history);
  };
  on_ended = λ history is. record { each = is.each; within = tt };
}
  where
    turn_fits : (slot : ℕ) (radios : List Bool) (history : List Event) → Fits history (TurnBegan slot radios)
    turn_fits slot radios history = λ last links line is one.
        let same : Turn slot (radio_in 0 radios) (Some (radio_in 1 radios)) ≡ line = cc in
        subst (MayFollowData last) same tt

pub data_comes_last : (given : Given) → IsOfTwo given → AllDataComesLast (journal_of (history_of (run_of given)))
data_comes_last given are_two = λ front rest line last is handed.
    let history = history_of (run_of given) in
    let all = ends_with (run_of given) (IsWhole given AreLast) (IsStopped given AreLast) (Each Fits [])
    (run_kept given AreLast (data_kept given are_two) (record { each = tt; within = tt }))
    (λ history whole. whole.is.each) (λ history stop stopped. stopped.kept.each) in
    let one = is_of_event history front rest line is in
    each_at Fits history one.before one.after one.event all one.is_at last (links_of one.before) line
    (ap last_handed (sym one.front_is) ∙ handed) one.entry_is

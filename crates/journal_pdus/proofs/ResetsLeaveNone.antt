-- In every run of a pair, no link is open at a side by the lines before the answer to a Reset that is done.
use Rattle.std.proofs.Common.{◌≡◌, ℕ, ◌≤◌, Bool, true, false, Option, List, [], ◌∷◌, ◌++◌, map, refl, sym, ap, subst, ◌∙◌, append-nil, append_assoc, arith}
use Rattle.std.specs.Prelude.{⊤, is_some, take}
use Rattle.std.specs.List.{AllByRecursion, sum_by}
use Rattle.std.proofs.lemmas.List.Sums.{sum_by-cons}
use Rattle.arrayvec.specs.ArrayVec.{ArrayVec}
use Rattle.ble_base.specs.declared.notes.Note.{Note}
use Rattle.ble_base.specs.declared.notes.Note.TheVariants.{Up as UpNote}
use Rattle.ble_base.specs.declared.roles.Side.{Side}
use Rattle.journal.specs.declared.entries.Entry.{Entry}
use Rattle.journal.specs.declared.entries.Entry.TheVariants.{Up}
use Rattle.journal_moves.proofs.journal_wants.journal_sending.journal_data.link_model.Hearing.{IsHeardWhole}
use Rattle.journal_moves.specs.journal_wants.journal_sending.journal_data.open_links.OpenLinks.{OpenLink, handles_from, link_at}
use Rattle.journal_moves.specs.journal_wants.journal_sending.controller_model.Facts.{Facts}
use Rattle.journal_moves.specs.journal_wants.journal_sending.controller_model.Links.{note_shut, notes_reset}
use Rattle.journal_moves.specs.journal_wants.journal_sending.controller_model.Side.{facts_after, notes_after}
use Rattle.journal_moves.specs.journal_wants.journal_sending.controller_model.Step.{Step, HostOctet, TurnBegins, TurnEnds}
use Rattle.journal_moves.proofs.journal_wants.journal_sending.controller_model.Always.{IsInTurn}
use Rattle.journal_moves.proofs.journal_wants.journal_sending.controller_model.Handles.{own_handles}
use Rattle.journal_moves.proofs.journal_wants.journal_sending.controller_model.Sent.{shut_from}
use Rattle.journal_moves.specs.journal_wants.journal_sending.run_model.Due.{Each}
use Rattle.journal_moves.specs.journal_wants.journal_sending.run_model.Feeding.{AreDistinct}
use Rattle.journal_moves.specs.journal_wants.journal_sending.run_model.History.{Event, TurnBegan, HostFed, Called, Noted, Transmitted, past_of, packet_received}
use Rattle.journal_moves.specs.journal_wants.journal_sending.run_model.Journal.{entries_of, entry_of, journal_of, side_of}
use Rattle.journal_moves.specs.journal_wants.journal_sending.run_model.LinkEnds.{HaveAddresses}
use Rattle.journal_moves.specs.journal_wants.journal_sending.run_model.Links.{links_of}
use Rattle.journal_moves.specs.journal_wants.journal_sending.run_model.Run.{Given, after_call, after_feed, after_octets, facts_at, hearings_of, history_of, octets_left, run_of, setup_at}
use Rattle.journal_moves.specs.journal_wants.journal_sending.run_model.Run.{step_of}
use Rattle.journal_moves.proofs.journal_wants.journal_sending.run_model.CallNotes.{map_push}
use Rattle.journal_moves.proofs.journal_wants.journal_sending.run_model.EntryEvents.{is_of_event}
use Rattle.journal_moves.proofs.journal_wants.journal_sending.run_model.LinkEnds.{AreTaken, IsUnderstood}
use Rattle.journal_moves.proofs.journal_wants.journal_sending.run_model.Places.{each_append, each_at, each_event}
use Rattle.journal_moves.proofs.journal_wants.journal_sending.run_model.Stations.{among}
use Rattle.journal_moves.proofs.journal_wants.journal_sending.run_model.Walk.{AtFeeds, Place, IsKept, IsStopped, IsWhole, ends_with, run_kept}
use Rattle.journal_moves.proofs.journal_wants.journal_sending.journal_data.run_laws.DistinctAccess.{AreApart}
use Rattle.journal_moves.proofs.journal_wants.journal_sending.journal_data.run_laws.Hearings.{own_facts}
use Rattle.journal_moves.proofs.journal_wants.journal_sending.journal_packets.AccessOrder.{AreNth}
use Rattle.journal_moves.proofs.journal_wants.journal_sending.journal_packets.SoFar.{IsBelongingSoFar}
use Rattle.journal_moves.proofs.journal_wants.journal_sending.journal_acks.Counting.{AreKnown, HaveOwnNumbers}
use Rattle.journal_moves.proofs.journal_wants.journal_sending.journal_acks.Known.{known_of}
use Rattle.journal_moves.proofs.journal_wants.journal_sending.journal_acks.TwoStations.{IsOfTwo}
use Rattle.journal_moves.specs.journal_wants.journal_sending.journal_data.HostLines.{OpenUnder}
use Rattle.journal_moves.specs.journal_wants.journal_sending.journal_data.Lines.{Lines, lines_of}
use Rattle.journal_moves.proofs.journal_wants.journal_sending.journal_data.EachLine.{lines_at, note_lines, numbers_at}
use Rattle.journal_moves.proofs.journal_wants.journal_sending.journal_data.FewLinks.{HaveFewLinks}
use Rattle.journal_moves.proofs.journal_wants.journal_sending.journal_data.HeldLinks.{HoldsLinks, nothing_in}
use Rattle.journal_moves.proofs.journal_wants.journal_sending.journal_data.KeptData.{IsDataAt, data_kept, own_numbers, pass_in_turn}
use Rattle.journal_moves.proofs.journal_wants.journal_sending.journal_data.Law.{first_data}
use Rattle.journal_moves.proofs.journal_wants.journal_sending.journal_data.Openness.{is_open}
use Rattle.journal_moves.proofs.journal_wants.journal_sending.journal_data.StationLines.{IsStationBooked, call_booked, event_booked, event_own, octet_own, octet_unused}
use Rattle.journal_pdus.specs.Resetting.{ResetsLeaveNoLink, answers_reset}
use Rattle.journal_pdus.proofs.ResetAnswers.{IsAnsweredSo, IsQuiet, Quiet, Resets, octet_so, turn_calls_quiet}

-- ---- no link is open

none_there : (links : List OpenUnder) → sum_by (λ (one : OpenUnder). 1) links ≡ 0 → links ≡ []
none_there [] none = refl
none_there (one ∷ links) none = absurd (let parts = sum_by-cons (λ (x : OpenUnder). 1) one links in omega (arith, parts, none))

no_links : (many : ℕ) (links : List OpenUnder) (number : ℕ → ℕ) (opened : ℕ → Bool) → HoldsLinks many links number opened → ((handle : ℕ) → opened handle ≡ false) → links ≡ []
no_links many links number opened holds none =
    none_there links (nothing_in many links number opened holds (λ (one : OpenUnder). 1)
    (λ handle on. absurd (let h : false ≡ true = sym (none handle) ∙ on in absurd cc)))

-- ---- a note

abbrev NoneIfReset : ℕ → List Event → Note → Type 0
NoneIfReset station history (UpNote packet) = answers_reset packet.items ≡ true → (lines_at station history).links ≡ []
NoneIfReset station history note = ⊤

abbrev pub LeavesNone : List Event → Event → Type 0
LeavesNone history (Noted station note) = NoneIfReset station history note
LeavesNone history (Called station step) = ⊤
LeavesNone history (TurnBegan slot radios) = ⊤
LeavesNone history (HostFed station octets) = ⊤
LeavesNone history (Transmitted station channel octets hearings) = ⊤

quiet_one : (station : ℕ) (history : List Event) (note : Note) → IsQuiet note → NoneIfReset station history note
quiet_one station history (UpNote packet) quiet = λ is. absurd (let h : false ≡ true = sym quiet ∙ is in absurd cc)
quiet_one station history note quiet = tt

quiet_notes : (station : ℕ) (notes : List Note) (history : List Event) → AllByRecursion IsQuiet notes → Each LeavesNone history (map (Noted station) notes)
quiet_notes station [] history quiet = tt
quiet_notes station (note ∷ notes) history quiet =
    (quiet_one station history note quiet.0, quiet_notes station notes (history ++ Noted station note ∷ []) quiet.1)

-- the answer comes after the lines of the links that are shut
reset_notes : (station : ℕ) (handles : List ℕ) (packet : ArrayVec ℕ) (history : List Event)
    → (lines_at station (history ++ map (Noted station) (map (λ handle. note_shut handle 0) handles))).links ≡ []
    → Each LeavesNone history (map (Noted station) (map (λ handle. note_shut handle 0) handles ++ UpNote packet ∷ []))
reset_notes station [] packet history none =
    ((λ is. ap (λ (all : List Event). (lines_at station all).links) (sym (append-nil history)) ∙ none), tt)
reset_notes station (handle ∷ handles) packet history none =
    let note = note_shut handle 0 in
    let shuts = map (λ handle. note_shut handle 0) handles in (
      tt,
      reset_notes station handles packet (history ++ Noted station note ∷ [])
          (ap (λ (all : List Event). (lines_at station all).links) (append_assoc history (Noted station note ∷ []) (map (Noted station) shuts)) ∙ none),
    )

-- a packet for the host opens and shuts no link
up_links : (station : ℕ) (history : List Event) (packet : ArrayVec ℕ)
    → (lines_at station (history ++ Noted station (UpNote packet) ∷ [])).links ≡ (lines_at station history).links
up_links station history packet = ap (λ (lines : Lines). lines.links) (note_lines station history (UpNote packet))

-- ---- a call

module _ (given : Given) (station : ℕ) where
  call_none : (step : Step) (history : List Event)
      → IsAnsweredSo (facts_at given station history) (notes_after (setup_at given station) (facts_at given station history) step)
      (facts_after (setup_at given station) (facts_at given station history) step).links
      → IsStationBooked given station (after_call given station step history)
      → Each LeavesNone history (Called station step ∷ map (Noted station) (notes_after (setup_at given station) (facts_at given station history) step))
  call_none step history (Quiet quiet) booked =
      (tt, quiet_notes station (notes_after (setup_at given station) (facts_at given station history) step) (history ++ Called station step ∷ []) quiet)
  call_none step history (Resets packet notes_are links_are) booked =
      let setup = setup_at given station in
      let facts = facts_at given station history in
      let called = history ++ Called station step ∷ [] in
      let shuts = notes_reset facts in
      let after = after_call given station step history in
      let is_after : after ≡ (called ++ map (Noted station) shuts) ++ Noted station (UpNote packet) ∷ [] =
      ap (λ (notes : List Note). history ++ Called station step ∷ map (Noted station) notes) notes_are
      ∙ ap (λ (all : List Event). history ++ Called station step ∷ all) (map_push station shuts (UpNote packet))
      ∙ sym (append_assoc history (Called station step ∷ []) (map (Noted station) shuts ++ Noted station (UpNote packet) ∷ []))
      ∙ sym (append_assoc called (map (Noted station) shuts) (Noted station (UpNote packet) ∷ [])) in
      let closed : (handle : ℕ) → is_open (facts_at given station after).links handle ≡ false =
      λ handle. ap (λ (held : Facts). is_open held.links handle) (own_facts given station step history)
      ∙ ap (λ links. is_some (link_at handle links)) links_are ∙ ap (λ (place : Option OpenLink). is_some place) (shut_from 0 handle facts.links) in
      let none = no_links setup.links (lines_at station after).links (numbers_at station after) (is_open (facts_at given station after).links) booked.links closed in
      let before = sym (up_links station (called ++ map (Noted station) shuts) packet) ∙ ap (λ (all : List Event). (lines_at station all).links) (sym is_after) ∙ none in (
        tt,
        subst (λ (notes : List Note). Each LeavesNone called (map (Noted station) notes)) (sym notes_are)
            (reset_notes station (handles_from 0 facts.links) packet called before),
      )

  turn_none : (step : Step) (history : List Event) → IsInTurn step → Each LeavesNone [] history → Each LeavesNone [] (after_call given station step history)
  turn_none step history turn each =
      let setup = setup_at given station in
      let notes = notes_after setup (facts_at given station history) step in
      each_append LeavesNone [] history (Called station step ∷ map (Noted station) notes) each (
        tt,
        quiet_notes station notes (history ++ Called station step ∷ [])
            (turn_calls_quiet setup (facts_at given station history) step (own_handles setup (past_of station history)) turn),
      )

  module _ (few : (setup_at given station).links ≤ 4096) where
    octets_none : (octets : List ℕ) (history : List Event) → HaveOwnNumbers given station history → IsStationBooked given station history
        → Each LeavesNone [] history → Each LeavesNone [] (after_octets given station octets history)
    octets_none [] history own booked each = each
    octets_none (octet ∷ octets) history own booked each =
        let own_next = octet_own given station octet history own in
        let booked_next = call_booked given station (HostOctet octet) history few own own_next (octet_unused given station octet history) booked in
        let notes = notes_after (setup_at given station) (facts_at given station history) (HostOctet octet) in
        octets_none octets (after_call given station (HostOctet octet) history) own_next booked_next
        (each_append LeavesNone [] history (Called station (HostOctet octet) ∷ map (Noted station) notes) each
        (call_none (HostOctet octet) history (octet_so (setup_at given station) (facts_at given station history) octet) booked_next))

    feed_none : (octets : List ℕ) (history : List Event) → HaveOwnNumbers given station history → IsStationBooked given station history
        → Each LeavesNone [] history → Each LeavesNone [] (after_feed given station octets history)
    feed_none [] history own booked each = each
    feed_none (octet ∷ octets) history own booked each =
        let event = HostFed station (octet ∷ octets) in
        octets_none (octet ∷ octets) (history ++ event ∷ []) (event_own given station history event refl own)
        (event_booked given station history event refl booked) (each_event LeavesNone history event each tt)

-- ---- each line

record IsNotedUp (event : Event) (side : Side) (octets : List ℕ) : Type 0 where
  station : ℕ
  packet : ArrayVec ℕ
  is : event ≡ Noted station (UpNote packet)
  side_is : side_of station ≡ side
  octets_are : packet.items ≡ octets

noted_up : (station : ℕ) (link_of : ℕ → ℕ) (last : ℕ) (note : Note) (side : Side) (octets : List ℕ) → entry_of (side_of station) link_of last note ∷ [] ≡ Up side octets ∷ []
    → IsNotedUp (Noted station note) side octets
noted_up station link_of last (UpNote packet) side octets is =
    let same : Up (side_of station) packet.items ≡ Up side octets = cc in
    record { station = station; packet = packet; is = refl; side_is = cc; octets_are = cc }
noted_up station link_of last note side octets is = absurd cc

up_event : (history : List Event) (event : Event) (side : Side) (octets : List ℕ) → entries_of (links_of history) event ≡ Up side octets ∷ [] → IsNotedUp event side octets
up_event history (TurnBegan slot radios) side octets is = absurd cc
up_event history (HostFed station fed) side octets is = absurd cc
up_event history (Called station step) side octets is = absurd cc
up_event history (Noted station note) side octets is = noted_up station ((links_of history).link_of station) ((links_of history).last_of station) note side octets is
up_event history (Transmitted station channel sent []) side octets is = absurd cc
up_event history (Transmitted station channel sent (hearing ∷ hearings)) side octets is = absurd cc

-- ---- in a run

module _ (whole : IsHeardWhole) (understood : IsUnderstood) (taken : AreTaken) (nth : AreNth) (apart : AreApart) (given : Given) (are_two : IsOfTwo given) (few_links : HaveFewLinks given)
    (six : HaveAddresses given) (distinct : AreDistinct given.stations) (eight : (station : ℕ) → (setup_at given station).host_buffers ≡ 8) where
  abbrev Q : Place → List Event → Type 0
  Q place history = IsBelongingSoFar given place history

  known : AreKnown given Q
  known = known_of understood taken nth apart given are_two six

  record AreClearSoFar (place : Place) (history : List Event) : Type 0 where
    is : IsDataAt given Q place history
    each : Each LeavesNone [] history

  clear_kept : IsKept given AreClearSoFar
  clear_kept = let kept = data_kept whole given Q known are_two few_links six distinct eight in record {
    on_turn = λ slot plan history begun at has. record {
      is = kept.on_turn slot plan history begun at has.is;
      each = each_event LeavesNone history (TurnBegan slot (map plan.radio_of given.stations)) has.each tt;
    };
    on_feed = λ plan done left station history are some now has.
        let in_it = among given.stations done left station are in record {
          is = kept.on_feed plan done left station history are some now has.is;
          each = feed_none given station (few_links.links station) (take (plan.feed_of station) (octets_left given station history)) history
              (own_numbers given Q known (AtFeeds done (station ∷ left)) history station in_it has.is.counted.known) (has.is.are.well station in_it).booked has.each;
        };
    on_fed = λ history has. record { is = kept.on_fed history has.is; each = has.each };
    on_begin = λ slot plan done left station history are due has. record {
      is = kept.on_begin slot plan done left station history are due has.is;
      each = turn_none given station (TurnBegins slot (plan.radio_of station)) history tt has.each;
    };
    on_begun = λ history has. record { is = kept.on_begun history has.is; each = has.each };
    on_phase = λ phases history few has. record { is = kept.on_phase phases history few has.is; each = has.each };
    on_silence = λ phases done left station history are none has. record { is = kept.on_silence phases done left station history are none has.is; each = has.each };
    on_packet = λ phases plan done left station channel octets history are some due has. record {
      is = kept.on_packet phases plan done left station channel octets history are some due has.is;
      each = each_event LeavesNone history (Transmitted station channel octets (hearings_of given plan.fates station channel octets history)) has.each tt;
    };
    on_air = λ phases history has. record { is = kept.on_air phases history has.is; each = has.each };
    on_hearing = λ phases done left station history are some has. record {
      is = kept.on_hearing phases done left station history are some has.is;
      each = turn_none given station (step_of (packet_received station history)) history (pass_in_turn (packet_received station history)) has.each;
    };
    on_heard = λ phases history has. record { is = kept.on_heard phases history has.is; each = has.each };
    on_phases = λ history has. record { is = kept.on_phases history has.is; each = has.each };
    on_end = λ done left station history are some has. record {
      is = kept.on_end done left station history are some has.is;
      each = turn_none given station TurnEnds history tt has.each;
    };
    on_ended = λ history has. record { is = kept.on_ended history has.is; each = has.each };
  }

  run_clear : Each LeavesNone [] (history_of (run_of given))
  run_clear =
      ends_with (run_of given) (IsWhole given AreClearSoFar) (IsStopped given AreClearSoFar) (Each LeavesNone [])
      (run_kept given AreClearSoFar clear_kept (record { is = first_data given; each = tt })) (λ history wholly. wholly.is.each) (λ history stop stopped. stopped.kept.each)

  pub resets_leave_none : ResetsLeaveNoLink (journal_of (history_of (run_of given)))
  resets_leave_none = λ front rest side octets is answers.
      let history = history_of (run_of given) in
      let one = is_of_event history front rest (Up side octets) is in
      let up = up_event one.before one.event side octets one.entry_is in
      let none = each_at LeavesNone history one.before one.after (Noted up.station (UpNote up.packet)) run_clear
      (one.is_at ∙ ap (λ event. one.before ++ event ∷ one.after) up.is) in
      ap (λ (xs : List Entry). (lines_of 8 side xs).links) one.front_is
      ∙ ap (λ s. (lines_of 8 s (journal_of one.before)).links) (sym up.side_is)
      ∙ none (ap answers_reset up.octets_are ∙ answers)

-- In each journal of a run of a pair, each line of a link is of one that is open at its side.
use Rattle.std.proofs.Common.{◌≡◌, ℕ, suc, if◌then◌else◌, ◌==◌, Bool, true, false, Option, Some, None, List, [], ◌∷◌, ◌++◌, length, map, cond, refl, sym, subst, ◌∙◌, ap}
use Rattle.std.specs.Prelude.{◌||◌, take, ⊤}
use Rattle.std.specs.List.{find, list_any}
use Rattle.std.specs.Option.{option_map}
use Rattle.std.proofs.lemmas.Bool.{eq-eqb}
use Rattle.ble_base.specs.declared.notes.Note.{Note}
use Rattle.ble_base.specs.declared.notes.Note.TheVariants.{Up as UpNote, Opened as OpenedNote, Shut as ShutNote, Sent as SentNote, Took as TookNote, Enter as EnterNote}
use Rattle.host_view.specs.Noted.{is_acl_data}
use Rattle.journal.specs.declared.entries.Entry.{Entry}
use Rattle.journal.specs.declared.entries.Entry.TheVariants.{Turn, Fed, Air, Up, Enter, Opened, Shut, Sent, Took}
use Rattle.journal_acks.proofs.link_model.Hearing.{IsHeardWhole}
use Rattle.journal_acks.specs.controller_model.Notes.{is_event}
use Rattle.journal_acks.specs.controller_model.Side.{notes_after}
use Rattle.journal_acks.specs.controller_model.Step.{Step, HostOctet, TurnBegins, TurnEnds}
use Rattle.radio_replay.specs.Script.{Script}
use Rattle.journal_acks.specs.run_model.Due.{Each}
use Rattle.journal_acks.specs.run_model.Feeding.{AreDistinct}
use Rattle.journal_acks.specs.run_model.History.{Event, TurnBegan, HostFed, Called, Noted, Transmitted, packet_received, past_of, turns_begun}
use Rattle.journal_acks.specs.run_model.Journal.{entries_of, entry_of, journal_of, mark_of, radio_in, side_of}
use Rattle.journal_acks.specs.run_model.LinkEnds.{HaveAddresses}
use Rattle.journal_acks.specs.run_model.Links.{links_of}
use Rattle.journal_acks.specs.run_model.Pair.{given_of}
use Rattle.journal_acks.specs.run_model.Run.{Given, after_call, after_feed, after_octets, facts_at, hearings_of, history_of, octets_left, run_of, setup_at, step_of}
use Rattle.journal_acks.specs.run_model.OnAir.{ends_phase}
use Rattle.journal_acks.proofs.run_model.EntryEvents.{is_of_event}
use Rattle.journal_acks.proofs.run_model.LinkEnds.{AreTaken, IsUnderstood, pair_addresses}
use Rattle.journal_acks.proofs.run_model.OpenedNotes.{is_opened, outside_open}
use Rattle.journal_acks.proofs.run_model.Ordered.{pair_distinct}
use Rattle.journal_acks.proofs.run_model.Places.{each_append, each_at, each_event}
use Rattle.journal_acks.proofs.run_model.Stations.{is_in, among, not_before}
use Rattle.journal_acks.proofs.run_model.Walk.{NoTurn, AtFeeds, AtBegins, AtListening, AtEnds, Place, IsKept, IsStopped, IsWhole, ends_with, run_kept}
use Rattle.journal_acks.proofs.run_laws.DistinctAccess.{AreApart}
use Rattle.journal_acks.proofs.run_laws.TurnPlaces.{Within, at_stage, standing}
use Rattle.journal_acks.proofs.journal_packets.AccessOrder.{AreNth}
use Rattle.journal_acks.proofs.journal_packets.SoFar.{IsBelongingSoFar}
use Rattle.journal_acks.proofs.Counting.{AreKnown, HaveOwnNumbers}
use Rattle.journal_acks.proofs.Exchanging.{number_at}
use Rattle.journal_acks.proofs.Known.{known_of}
use Rattle.journal_acks.proofs.TwoStations.{IsOfTwo}
use Rattle.journal_data.specs.Held.{IsNextOpened, IsOpenAt, LinesAreOfOpenLinks, links_open, IsOfOneLink, IsDataOfLink}
use Rattle.journal_data.specs.HostLines.{OpenUnder, link_under}
use Rattle.journal_data.proofs.EachLine.{lines_at}
use Rattle.journal_data.proofs.FewLinks.{HaveFewLinks, pair_links}
use Rattle.journal_data.proofs.HeldNotes.{IsHeld, IsHeldNote, call_held}
use Rattle.journal_data.proofs.KeptData.{IsDataAt, data_kept, own_numbers}
use Rattle.journal_data.proofs.LeastHandles.{OpenLeast, least_standing, pass_opens}
use Rattle.journal_data.proofs.Law.{eight_of, first_data}
use Rattle.journal_data.proofs.StationLines.{IsStationBooked, call_booked, event_booked, event_own, octet_own, octet_unused}

-- ---- each step

pub record AreHeldSoFar (given : Given) (Q : Place → List Event → Type 0) (place : Place) (history : List Event) : Type 0 where
  pub is : IsDataAt given Q place history
  pub each : Each IsHeld [] history

module _ (whole : IsHeardWhole) (given : Given) (Q : Place → List Event → Type 0) (known : AreKnown given Q) (are_two : IsOfTwo given) (few_links : HaveFewLinks given)
    (six : HaveAddresses given) (distinct : AreDistinct given.stations) (eight : (station : ℕ) → (setup_at given station).host_buffers ≡ 8) where
  abbrev P : Place → List Event → Type 0
  P place history = AreHeldSoFar given Q place history

  one_more : (station : ℕ) (step : Step) (history : List Event) → HaveOwnNumbers given station history → HaveOwnNumbers given station (after_call given station step history)
      → IsStationBooked given station history
      → OpenLeast (facts_at given station history).links (notes_after (setup_at given station) (facts_at given station history) step)
      → Each IsHeld [] history → Each IsHeld [] (after_call given station step history)
  one_more station step history own own_after booked least each =
      each_append IsHeld [] history (Called station step ∷ map (Noted station) (notes_after (setup_at given station) (facts_at given station history) step)) each
      (call_held given station step history (few_links.links station) own own_after booked.links least)

  -- a call that ends no phase opens none
  none_least : (station : ℕ) (step : Step) (history : List Event) → ends_phase step ≡ false
      → OpenLeast (facts_at given station history).links (notes_after (setup_at given station) (facts_at given station history) step)
  none_least station step history outside handle role own peer rest is =
      let none = outside_open handle (setup_at given station) (facts_at given station history) step outside in
      absurd (let h : true ≡ false =
      ap (λ (b : Bool). b || is_opened handle rest) (sym (eq-eqb handle handle refl)) ∙ ap (is_opened handle) (sym is) ∙ none in absurd cc)

  -- a station that is still to be called after a phase
  pass_least : (phases : ℕ) (done left : List ℕ) (station : ℕ) (history : List Event) (received : Option (List ℕ)) → given.stations ≡ done ++ station ∷ left
      → P (AtListening phases done (station ∷ left)) history
      → OpenLeast (facts_at given station history).links (notes_after (setup_at given station) (facts_at given station history) (step_of received))
  pass_least phases done left station history received are has =
      let in_it = among given.stations done left station are in
      pass_opens (setup_at given station) (facts_at given station history) received
      (least_standing (setup_at given station) (past_of station history) (at_stage (Within phases) (turns_begun history))
      (subst (λ (b : Bool). standing (past_of station history)
      ≡ Some (if b then at_stage (Within (suc phases)) (turns_begun history) else at_stage (Within phases) (turns_begun history)))
      (not_before given.stations done left station distinct are) (has.is.counted.holds.hearing.stand station in_it)))

  -- a call in a turn
  turn_more : (station : ℕ) (step : Step) (history : List Event) (before place : Place) → is_in station given.stations ≡ true → P before history
      → IsDataAt given Q place (after_call given station step history)
      → OpenLeast (facts_at given station history).links (notes_after (setup_at given station) (facts_at given station history) step)
      → Each IsHeld [] (after_call given station step history)
  turn_more station step history before place in_it has next least =
      one_more station step history (own_numbers given Q known before history station in_it has.is.counted.known)
      (own_numbers given Q known place (after_call given station step history) station in_it next.counted.known)
      (has.is.are.well station in_it).booked least has.each

  octets_more : (station : ℕ) (octets : List ℕ) (history : List Event) → HaveOwnNumbers given station history → IsStationBooked given station history
      → Each IsHeld [] history → Each IsHeld [] (after_octets given station octets history)
  octets_more station [] history own booked each = each
  octets_more station (octet ∷ octets) history own booked each =
      let own_next = octet_own given station octet history own in
      octets_more station octets (after_call given station (HostOctet octet) history) own_next
      (call_booked given station (HostOctet octet) history (few_links.links station) own own_next (octet_unused given station octet history)
      booked)
      (one_more station (HostOctet octet) history own own_next booked (none_least station (HostOctet octet) history refl) each)

  feed_more : (station : ℕ) (octets : List ℕ) (history : List Event) → HaveOwnNumbers given station history → IsStationBooked given station history
      → Each IsHeld [] history → Each IsHeld [] (after_feed given station octets history)
  feed_more station [] history own booked each = each
  feed_more station (octet ∷ octets) history own booked each =
      let event = HostFed station (octet ∷ octets) in
      octets_more station (octet ∷ octets) (history ++ event ∷ []) (event_own given station history event refl own)
      (event_booked given station history event refl booked) (each_event IsHeld history event each tt)

  held_kept : IsKept given P
  held_kept = let kept = data_kept whole given Q known are_two few_links six distinct eight in record {
    on_turn = λ slot plan history begun at has. record {
      is = kept.on_turn slot plan history begun at has.is;
      each = each_event IsHeld history (TurnBegan slot (map plan.radio_of given.stations)) has.each tt;
    };
    on_feed = λ plan done left station history are some now has.
        let in_it = among given.stations done left station are in record {
          is = kept.on_feed plan done left station history are some now has.is;
          each = feed_more station (take (plan.feed_of station) (octets_left given station history)) history
              (own_numbers given Q known (AtFeeds done (station ∷ left)) history station in_it has.is.counted.known) (has.is.are.well station in_it).booked has.each;
        };
    on_fed = λ history has. record { is = kept.on_fed history has.is; each = has.each };
    on_begin = λ slot plan done left station history are due has.
        let next = kept.on_begin slot plan done left station history are due has.is in record {
          is = next;
          each = turn_more station (TurnBegins slot (plan.radio_of station)) history (AtBegins done (station ∷ left)) (AtBegins (done ++ station ∷ []) left)
              (among given.stations done left station are) has next (none_least station (TurnBegins slot (plan.radio_of station)) history refl);
        };
    on_begun = λ history has. record { is = kept.on_begun history has.is; each = has.each };
    on_phase = λ phases history few has. record { is = kept.on_phase phases history few has.is; each = has.each };
    on_silence = λ phases done left station history are none has. record { is = kept.on_silence phases done left station history are none has.is; each = has.each };
    on_packet = λ phases plan done left station channel octets history are some due has. record {
      is = kept.on_packet phases plan done left station channel octets history are some due has.is;
      each = each_event IsHeld history (Transmitted station channel octets (hearings_of given plan.fates station channel octets history)) has.each tt;
    };
    on_air = λ phases history has. record { is = kept.on_air phases history has.is; each = has.each };
    on_hearing = λ phases done left station history are some has.
        let next = kept.on_hearing phases done left station history are some has.is in record {
          is = next;
          each = turn_more station (step_of (packet_received station history)) history (AtListening phases done (station ∷ left))
              (AtListening phases (done ++ station ∷ []) left) (among given.stations done left station are) has next
              (pass_least phases done left station history (packet_received station history) are has);
        };
    on_heard = λ phases history has. record { is = kept.on_heard phases history has.is; each = has.each };
    on_phases = λ history has. record { is = kept.on_phases history has.is; each = has.each };
    on_end = λ done left station history are some has.
        let next = kept.on_end done left station history are some has.is in record {
          is = next;
          each = turn_more station TurnEnds history (AtEnds done (station ∷ left)) (AtEnds (done ++ station ∷ []) left)
              (among given.stations done left station are) has next (none_least station TurnEnds history refl);
        };
    on_ended = λ history has. record { is = kept.on_ended history has.is; each = has.each };
  }

  pub run_held : IsDataAt given Q NoTurn [] → Each IsHeld [] (history_of (run_of given))
  run_held first =
      ends_with (run_of given) (IsWhole given P) (IsStopped given P) (Each IsHeld [])
      (run_kept given P held_kept (record { is = first; each = tt })) (λ history wholly. wholly.is.each) (λ history stop stopped. stopped.kept.each)

-- ---- each line

any_under : (handle link : ℕ) (links : List OpenUnder) → link_under handle links ≡ Some link → list_any (λ (one : OpenUnder). one.link == link) links ≡ true
any_under handle link [] is = absurd (let h : None ≡ Some link = is in absurd cc)
any_under handle link (one ∷ links) is = by (one.handle == handle) (one.link == link) refl is (any_under handle link links)
  where
    by : (own same : Bool) → (one.link == link) ≡ same
        → option_map (λ (x : OpenUnder). x.link) (cond own (Some one) (find (λ (x : OpenUnder). x.handle == handle) links)) ≡ Some link
        → (link_under handle links ≡ Some link → list_any (λ (x : OpenUnder). x.link == link) links ≡ true)
        → (same || list_any (λ (x : OpenUnder). x.link == link) links) ≡ true
    by own true same is rest = refl
    by true false same is rest =
        let equal : one.link ≡ link = cc in
        absurd (let h : true ≡ false = sym (eq-eqb one.link link equal) ∙ same in absurd cc)
    by false false same is rest = rest is

-- what is said of an entry, after these entries
abbrev IsHeldEntry : List Entry → Entry → Type 0
IsHeldEntry front (Sent side link number llid body) = IsOpenAt side link front
IsHeldEntry front (Took side link number llid body) = IsOpenAt side link front
IsHeldEntry front (Enter side link event channel) = IsOpenAt side link front
IsHeldEntry front (Shut side link reason) = IsOpenAt side link front
IsHeldEntry front (Opened side link handle role) = IsNextOpened link handle (links_open side front)
IsHeldEntry front (Up side octets) =
    (is_acl_data octets ≡ true → IsDataOfLink octets (links_open side front))
    × (is_event 0x13 octets ≡ true → IsOfOneLink octets (links_open side front))
IsHeldEntry front entry = ⊤

note_entry : (station : ℕ) (history : List Event) (note : Note) → IsHeldNote station history note
    → IsHeldEntry (journal_of history) (entry_of (side_of station) ((links_of history).link_of station) ((links_of history).last_of station) note)
note_entry station history (SentNote handle counted llid body) held = any_under handle (number_at station handle history) (lines_at station history).links held
note_entry station history (TookNote handle counted llid body) held = any_under handle (number_at station handle history) (lines_at station history).links held
note_entry station history (EnterNote handle event channel) held = any_under handle (number_at station handle history) (lines_at station history).links held
note_entry station history (ShutNote handle reason) held = any_under handle (number_at station handle history) (lines_at station history).links held
note_entry station history (OpenedNote handle role own peer) held = held
note_entry station history (UpNote packet) held = held
note_entry station history note held = tt

event_entry : (history : List Event) (event : Event) (entry : Entry) → IsHeld history event → entries_of (links_of history) event ≡ entry ∷ []
    → IsHeldEntry (journal_of history) entry
event_entry history (TurnBegan slot radios) entry held is =
    let same : Turn slot (radio_in 0 radios) (Some (radio_in 1 radios)) ≡ entry = cc in subst (IsHeldEntry (journal_of history)) same tt
event_entry history (HostFed station octets) entry held is =
    let same : Fed (side_of station) octets ≡ entry = cc in subst (IsHeldEntry (journal_of history)) same tt
event_entry history (Called station step) entry held is = absurd cc
event_entry history (Noted station note) entry held is =
    let same : entry_of (side_of station) ((links_of history).link_of station) ((links_of history).last_of station) note ≡ entry = cc in
    subst (IsHeldEntry (journal_of history)) same (note_entry station history note held)
event_entry history (Transmitted station channel octets []) entry held is = absurd cc
event_entry history (Transmitted station channel octets (hearing ∷ hearings)) entry held is =
    let same : Air (side_of station) channel octets (mark_of hearing.fate) hearing.verdict ≡ entry = cc in subst (IsHeldEntry (journal_of history)) same tt

pub held_entry : (history : List Event) → Each IsHeld [] history → (front rest : List Entry) (entry : Entry) → journal_of history ≡ front ++ entry ∷ rest
    → IsHeldEntry front entry
held_entry history each front rest entry is =
    let at = is_of_event history front rest entry is in
    subst (λ (xs : List Entry). IsHeldEntry xs entry) (sym at.front_is)
    (event_entry at.before at.event entry (each_at IsHeld history at.before at.after at.event each at.is_at) at.entry_is)

pub held_of_two : IsHeardWhole → IsUnderstood → AreTaken → AreNth → AreApart → (given : Given) → IsOfTwo given → HaveFewLinks given → HaveAddresses given
    → AreDistinct given.stations → ((station : ℕ) → (setup_at given station).host_buffers ≡ 8) → LinesAreOfOpenLinks (journal_of (history_of (run_of given)))
held_of_two whole understood taken nth apart given two few addresses distinct eight =
    let each = run_held whole given (IsBelongingSoFar given) (known_of understood taken nth apart given two addresses) two few addresses distinct
    eight (first_data given) in
    let entry = held_entry (history_of (run_of given)) each in record {
      sent = λ front rest side link number llid body is. entry front rest (Sent side link number llid body) is;
      took = λ front rest side link number llid body is. entry front rest (Took side link number llid body) is;
      entered = λ front rest side link event channel is. entry front rest (Enter side link event channel) is;
      shut = λ front rest side link reason is. entry front rest (Shut side link reason) is;
      opened = λ front rest side link handle role is. entry front rest (Opened side link handle role) is;
      received = λ front rest side octets is. (entry front rest (Up side octets) is).0;
      completed = λ front rest side octets is. (entry front rest (Up side octets) is).1;
    }

pub lines_held : IsHeardWhole → IsUnderstood → AreTaken → AreNth → AreApart → (a b : List ℕ) (script : Script) → length script.a.public ≡ 6 → length script.b.public ≡ 6
    → LinesAreOfOpenLinks (journal_of (history_of (run_of (given_of a b script))))
lines_held whole understood taken nth apart a b script six six_too =
    held_of_two whole understood taken nth apart (given_of a b script) refl (pair_links a b script) (pair_addresses a b script six six_too) (pair_distinct a b script)
    (eight_of a b script)

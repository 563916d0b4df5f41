-- In every run of two stations the credits of a host are in their order.
use Rattle.std.proofs.Common.{◌≡◌, ℕ, ◌<◌, ◌≤◌, ◌==◌, ◌&&◌, ◌||◌, ◌⊎◌, inl, inr, Bool, true, false, Option, Some, None, List, [], ◌∷◌, ◌++◌, map, refl, sym, ap, subst, ◌∙◌, append_assoc, arith}
use Rattle.std.specs.Prelude.{⊤, fold, take, if◌then◌else◌}
use Rattle.std.specs.List.{AllByRecursion}
use Rattle.std.specs.Option.{option_map}
use Rattle.std.proofs.lemmas.List.Sums.{fold-append}
use Rattle.arrayvec.specs.ArrayVec.{ArrayVec}
use Rattle.ble_base.specs.declared.error_codes.ErrCode.{ErrCode}
use Rattle.ble_base.specs.declared.notes.Note.{Note}
use Rattle.ble_base.specs.declared.notes.Note.TheVariants.{Shut as ShutNote, Up as UpNote}
use Rattle.ble_base.specs.declared.roles.Side.{Side}
use Rattle.ble_base.specs.declared.roles.Side.TheVariants.{A, B}
use Rattle.journal.specs.declared.entries.Entry.{Entry}
use Rattle.journal.specs.declared.entries.Entry.TheVariants.{Turn, Air, Shut, Up}
use Rattle.journal_data.specs.open_links.Data.{complete_in, completed_from}
use Rattle.journal_data.specs.open_links.OpenLinks.{Links}
use Rattle.journal_data.specs.controller_model.Data.{event_completed, notes_ended_turn, facts_handed, notes_handed, notes_pieces, pieces_handed}
use Rattle.journal_data.specs.controller_model.Events.{notes_of_events}
use Rattle.journal_data.specs.controller_model.Facts.{Facts}
use Rattle.journal_data.specs.controller_model.Side.{notes_after}
use Rattle.journal_data.specs.controller_model.Step.{Step, HostOctet, TurnBegins, TurnEnds}
use Rattle.journal_data.proofs.controller_model.Handles.{own_handles}
use Rattle.run_model.specs.Due.{Each}
use Rattle.run_model.specs.Feeding.{AreDistinct}
use Rattle.run_model.specs.History.{Event, TurnBegan, HostFed, Called, Noted, Transmitted, Hearing, packet_received, past_of, turns_begun}
use Rattle.run_model.specs.Journal.{air_entries, entries_of, entry_of, journal_of, radio_in, side_of}
use Rattle.run_model.specs.Links.{Links as Numbers, links_of}
use Rattle.run_model.specs.Readers.{turn_packets, turn_packets_after, turns_of}
use Rattle.run_model.specs.Run.{Given, after_call, after_feed, after_octets, facts_at, hearings_of, history_of, octets_left, run_of, setup_at, step_of}
use Rattle.run_model.proofs.EntryEvents.{is_of_event}
use Rattle.run_model.proofs.NoteLines.{note_line}
use Rattle.run_model.proofs.Parts.{journal_event}
use Rattle.run_model.proofs.Places.{each_append, each_at, each_event}
use Rattle.run_model.proofs.Stations.{among, in_more_other, in_more_same, is_in, not_before}
use Rattle.run_model.proofs.Walk.{Place, NoTurn, AtBegins, AtFeeds, AtEnds, IsKept, IsStopped, IsWhole, ends_with, run_kept}
use Rattle.journal_data.proofs.run_laws.OpenSteps.{EachOpen, open_more}
use Rattle.journal_data.proofs.run_laws.TurnPlaces.{Standing, standing, stands_at}
use Rattle.journal_data.specs.journal_packets.Belonging.{is_side}
use Rattle.journal_data.proofs.journal_packets.SendersLink.{same_side}
use Rattle.journal_data.proofs.journal_acks.Exchanging.{map_both}
use Rattle.journal_data.proofs.journal_acks.TwoStations.{IsOfTwo, other_apart}
use Rattle.journal_data.proofs.FedInRuns.{fed_standing}
use Rattle.journal_data.proofs.FewComplete.{IsFew, few_always}
use Rattle.journal_data.proofs.FewLinks.{HaveFewLinks}
use Rattle.journal_hosts.specs.Credits.{AllCreditsAreOfOne, AllCreditsAreOfSome, AllCreditsAscend, AllEarlyCreditsComeAtOnce, AllLateCreditsComeLast, IsLatePacket, IsOpenedUnder, IsCredit, MayFollowCredit, ReportsEnd, credit_handle, has_shut, is_being_fed, is_credit}
use Rattle.journal_hosts.proofs.CreditLines.{CreditsFit, Fits, FitsCall, FitsNote, IsBeforePackets, HasPlace, HaveNone, pieces_each, fed_by_host, fed_called, fed_notes, ascend, early_called, early_each, handles_after, handles_at, handles_event, handles_of, other_called, quiet_called, quiet_each, quiet_more, IsReported, ended_after, ended_of, is_past, some_handles, unended_first, with_credit, with_shut, leaving_each}
use Rattle.journal_hosts.proofs.CreditNotes.{IsBeforeEnd, octet_ones, pieces_none, turn_none, leaving_none}
use Rattle.journal_hosts.proofs.EndsReported.{lines_more, shut_was_opened}
use Rattle.journal_hosts.proofs.QuietTurns.{AreQuiet, IsSilent, ends_calm, quiet_first, quiet_kept}
use Rattle.journal_data.specs.controller_model.Links.{ends_for, notes_leaving}
use Rattle.journal_data.specs.open_links.Turns.{ending_in}
use Rattle.journal_hosts.proofs.Calm.{only_pieces}

-- ---- whether a packet was on the air in the turn

abbrev pub Counts : ℕ → Option (List ℕ) → Type 0
Counts count None = count ≡ 0
Counts count (Some handles) = 0 < count

counts_if : (test : Bool) (change : List ℕ → List ℕ) (count : ℕ) (handles : Option (List ℕ)) → Counts count handles
    → Counts count (if test then option_map change handles else handles)
counts_if true change count None counts = counts
counts_if true change count (Some handles) counts = counts
counts_if false change count handles counts = counts

counts_after : (side : Side) (entry : Entry) (count : ℕ) (handles : Option (List ℕ)) → Counts count handles
    → Counts (turn_packets_after count entry) (handles_after side handles entry)
counts_after side (Turn slot a_on b_on) count handles counts = refl
counts_after side (Air sender channel octets fate verdict) count None counts = omega arith
counts_after side (Air sender channel octets fate verdict) count (Some handles) counts = omega arith
counts_after side (Up other octets) count handles counts =
    counts_if (is_side other side && is_credit octets) (λ some. some ++ credit_handle octets ∷ []) count handles counts
counts_after side entry count handles counts = counts

counts_from : (side : Side) (entries : List Entry) (count : ℕ) (handles : Option (List ℕ)) → Counts count handles
    → Counts (fold turn_packets_after count entries) (fold (handles_after side) handles entries)
counts_from side [] count handles counts = counts
counts_from side (entry ∷ entries) count handles counts =
    counts_from side entries (turn_packets_after count entry) (handles_after side handles entry) (counts_after side entry count handles counts)

pub counts_of : (side : Side) (journal : List Entry) → Counts (turn_packets journal) (handles_of side journal)
counts_of side journal = counts_from side journal 0 None refl

none_yet : (count : ℕ) (handles : Option (List ℕ)) → Counts count handles → count ≡ 0 → handles ≡ None
none_yet count None counts none = refl
none_yet count (Some handles) counts none = absurd (omega (arith, counts, none))

record IsSome (handles : Option (List ℕ)) : Type 0 where
  some : List ℕ
  is : handles ≡ Some some

some_now : (count : ℕ) (handles : Option (List ℕ)) → Counts count handles → 0 < count → IsSome handles
some_now count None counts more = absurd (omega (arith, counts, more))
some_now count (Some handles) counts more = record { some = handles; is = refl }

-- ---- a turn ends

-- the counts of complete packets fit into two octets
pub record HaveFewBuffers (given : Given) : Type 0 where
  pub buffers : (station : ℕ) → (setup_at given station).host_buffers ≤ 65535

-- each credit of a run fits
abbrev pub AllFit : Given → List Event → Event → Type 0
AllFit given history event = CreditsFit (HaveFewLinks given) (HaveFewBuffers given) history event

load_few : (most : ℕ) (links : Links) → EachOpen (IsFew most) links → EachOpen (λ link. complete_in link ≤ most) links
load_few most links few = open_more (IsFew most) (λ link. complete_in link ≤ most) links (λ link one. let load = one.0 in omega (arith, load)) few

few_complete : (given : Given) (station : ℕ) (history : List Event) (at : Standing) → standing (past_of station history) ≡ Some at → HaveFewBuffers given
    → EachOpen (λ link. complete_in link ≤ 65535) (facts_at given station history).links
few_complete given station history at stands few =
    load_few 65535 (facts_at given station history).links
    (few_always (setup_at given station) 65535 (past_of station history) (few.buffers station) (fed_standing (past_of station history) at stands).fed)

module _ (given : Given) (station : ℕ) (history : List Event) where
  abbrev facts : Facts
  facts = facts_at given station history

  abbrev called_first : List Event
  called_first = history ++ Called station TurnEnds ∷ []

  same_called : handles_at (side_of station) called_first ≡ handles_at (side_of station) history
  same_called = handles_event (side_of station) history (Called station TurnEnds)

  handed_each : (HaveFewBuffers given → EachOpen (λ link. complete_in link ≤ 65535) facts.links) → handles_at (side_of station) history ≡ Some []
      → Each (AllFit given) called_first (map (Noted station) (notes_handed facts))
  handed_each fits none =
      let pieces = notes_pieces facts in
      let events = notes_of_events facts.view (map event_completed (completed_from 0 facts.links)) in
      let many = (own_handles (setup_at given station) (past_of station history)).many in
      subst (Each (AllFit given) called_first) (sym (map_both station pieces events))
      (each_append (AllFit given) called_first (map (Noted station) pieces) (map (Noted station) events)
      (pieces_each (HaveFewLinks given) (HaveFewBuffers given) station (pieces_handed facts) called_first (ap some_handles (same_called ∙ none)))
      (ascend (HaveFewLinks given) (HaveFewBuffers given) station facts.view 0 facts.links (called_first ++ map (Noted station) pieces) []
      (quiet_more (side_of station) station pieces called_first (pieces_none (pieces_handed facts)) ∙ same_called ∙ none)
      (unended_first (side_of station) (journal_of (called_first ++ map (Noted station) pieces))
      (ap some_handles (quiet_more (side_of station) station pieces called_first (pieces_none (pieces_handed facts)) ∙ same_called ∙ none))) (λ few. tt) (λ few. let most = few.links station in omega (arith, many, most)) fits))

  handed_by : (HaveFewBuffers given → EachOpen (λ link. complete_in link ≤ 65535) facts.links) → (IsSilent history → notes_handed facts ≡ notes_pieces facts) → (handles : Option (List ℕ)) → handles_at (side_of station) history ≡ handles → some_handles handles ≡ []
      → Each (AllFit given) called_first (map (Noted station) (notes_handed facts))
  handed_by fits only None is none =
      let silent : IsSilent history = subst (Counts (turn_packets (journal_of history))) is (counts_of (side_of station) (journal_of history)) in
      subst (λ notes. Each (AllFit given) called_first (map (Noted station) notes)) (sym (only silent))
      (pieces_each (HaveFewLinks given) (HaveFewBuffers given) station (pieces_handed facts) called_first (ap some_handles (same_called ∙ is)))
  handed_by fits only (Some handles) is none = handed_each fits (is ∙ ap Some none)

  end_each : (HaveFewBuffers given → EachOpen (λ link. complete_in link ≤ 65535) facts.links) → (IsSilent history → notes_handed facts ≡ notes_pieces facts)
      → some_handles (handles_at (side_of station) history) ≡ [] → Each (AllFit given) called_first (map (Noted station) (notes_ended_turn facts))
  end_each fits only none =
      let handed = notes_handed facts in
      let left = facts_handed facts in
      let leaving = notes_leaving left in
      subst (Each (AllFit given) called_first) (sym (map_both station handed leaving))
      (each_append (AllFit given) called_first (map (Noted station) handed) (map (Noted station) leaving)
      (handed_by fits only (handles_at (side_of station) history) refl none)
      (leaving_each (HaveFewLinks given) (HaveFewBuffers given) station left.view (ends_for ending_in left) (called_first ++ map (Noted station) handed)
      (leaving_none left)))

-- ---- what holds at each place

abbrev HandlesAt : Given → Place → List Event → Type 0
HandlesAt given NoTurn history = ⊤
HandlesAt given (AtFeeds done left) history = IsBeforePackets history
HandlesAt given (AtBegins done left) history = IsBeforePackets history
HandlesAt given (AtEnds done left) history =
    (station : ℕ) → is_in station given.stations ≡ true → is_in station done ≡ false → some_handles (handles_at (side_of station) history) ≡ []
HandlesAt given place history = (side : Side) → some_handles (handles_at side history) ≡ []

record AreInOrder (given : Given) (place : Place) (history : List Event) : Type 0 where
  quiet : AreQuiet given place history
  each : Each (AllFit given) [] history
  within : HandlesAt given place history

record AreEarly (given : Given) (history : List Event) : Type 0 where
  each : Each (AllFit given) [] history
  none : (side : Side) → handles_at side history ≡ None

-- and the station takes octets of its host
record AreFeeding (given : Given) (station : ℕ) (history : List Event) : Type 0 where
  early : AreEarly given history
  fed : is_being_fed (side_of station) (journal_of history) ≡ true

octet_early : (given : Given) (station octet : ℕ) (history : List Event) → AreFeeding given station history
    → AreFeeding given station (after_call given station (HostOctet octet) history)
octet_early given station octet history feeding =
    let setup = setup_at given station in
    let step = HostOctet octet in
    let notes = notes_after setup (facts_at given station history) step in
    let ones = octet_ones setup (facts_at given station history) octet in
    let called = history ++ Called station step ∷ [] in
    let fed = fed_called station history step feeding.fed in record {
      early = record {
        each = each_append (AllFit given) [] history (Called station step ∷ map (Noted station) notes) feeding.early.each (
          feeding.early.none,
          early_each (HaveFewLinks given) (HaveFewBuffers given) station notes called
              (λ side. handles_event side history (Called station step) ∙ feeding.early.none side) fed ones,
        );
        none = λ side. early_called side station step notes history (feeding.early.none side);
      };
      fed = ap (λ all. is_being_fed (side_of station) (journal_of all)) (sym (append_assoc history (Called station step ∷ []) (map (Noted station) notes)))
          ∙ fed_notes station notes called fed ones;
    }

octets_early : (given : Given) (station : ℕ) (octets : List ℕ) (history : List Event) → AreFeeding given station history
    → AreEarly given (after_octets given station octets history)
octets_early given station [] history feeding = feeding.early
octets_early given station (octet ∷ octets) history feeding =
    octets_early given station octets (after_call given station (HostOctet octet) history) (octet_early given station octet history feeding)

feed_early : (given : Given) (station : ℕ) (octets : List ℕ) (history : List Event) → AreEarly given history → AreEarly given (after_feed given station octets history)
feed_early given station [] history early = early
feed_early given station (octet ∷ octets) history early =
    let event = HostFed station (octet ∷ octets) in
    octets_early given station (octet ∷ octets) (history ++ event ∷ []) (record {
      early = record {
        each = each_event (AllFit given) history event early.each (λ side. ap some_handles (early.none side));
        none = λ side. handles_event side history event ∙ early.none side;
      };
      fed = fed_by_host station history (octet ∷ octets);
    })

-- a call before the end of the turn
turn_each : (given : Given) (station : ℕ) (step : Step) (history : List Event) → IsBeforeEnd step → FitsCall history step → HaveNone history
    → Each (AllFit given) [] history
    → Each (AllFit given) [] (after_call given station step history)
turn_each given station step history is fits none each =
    let notes = notes_after (setup_at given station) (facts_at given station history) step in
    each_append (AllFit given) [] history (Called station step ∷ map (Noted station) notes) each (
      fits,
      quiet_each (HaveFewLinks given) (HaveFewBuffers given) station notes (history ++ Called station step ∷ [])
          (turn_none (setup_at given station) (facts_at given station history) step is)
          (λ side. ap some_handles (handles_event side history (Called station step)) ∙ none side),
    )

turn_handles : (given : Given) (station : ℕ) (step : Step) (history : List Event) → IsBeforeEnd step → (side : Side)
    → handles_at side (after_call given station step history) ≡ handles_at side history
turn_handles given station step history is side =
    let notes = notes_after (setup_at given station) (facts_at given station history) step in
    quiet_called side station step notes history (turn_none (setup_at given station) (facts_at given station history) step is)

heard_before : (received : Option (List ℕ)) → IsBeforeEnd (step_of received)
heard_before None = tt
heard_before (Some octets) = tt

heard_fits : (history : List Event) (received : Option (List ℕ)) → FitsCall history (step_of received)
heard_fits history None = tt
heard_fits history (Some octets) = tt

-- a packet on the air
air_handles : (side sender : Side) (channel : ℕ) (octets : List ℕ) (hearings : List Hearing) (handles : Option (List ℕ))
    → some_handles (fold (handles_after side) handles (air_entries sender channel octets hearings)) ≡ some_handles handles
air_handles side sender channel octets [] handles = refl
air_handles side sender channel octets (hearing ∷ hearings) None = refl
air_handles side sender channel octets (hearing ∷ hearings) (Some handles) = refl

-- the handles of a station that is to end its turn stay as another ends its own
end_handles : (given : Given) → IsOfTwo given → (done : List ℕ) (station : ℕ) (history : List Event) → is_in station given.stations ≡ true
    → ((other : ℕ) → is_in other given.stations ≡ true → is_in other done ≡ false → some_handles (handles_at (side_of other) history) ≡ [])
    → (other : ℕ) → is_in other given.stations ≡ true → (same : Bool) → (other == station) ≡ same → is_in other (done ++ station ∷ []) ≡ false
    → some_handles (handles_at (side_of other) (after_call given station TurnEnds history)) ≡ []
end_handles given are_two done station history in_it within other in_too true is out =
    absurd (let h : true ≡ false = sym (in_more_same other station done is) ∙ out in absurd cc)
end_handles given are_two done station history in_it within other in_too false is out =
    let notes = notes_after (setup_at given station) (facts_at given station history) TurnEnds in
    ap some_handles (other_called (side_of other) station TurnEnds notes history
    (turned (side_of station) (side_of other) ∙ other_apart given are_two station other in_it in_too is))
    ∙ within other in_too (sym (in_more_other other station done is) ∙ out)
  where
    turned : (one two : Side) → is_side one two ≡ is_side two one
    turned A A = refl
    turned A B = refl
    turned B A = refl
    turned B B = refl

order_kept : (given : Given) → IsOfTwo given → AreDistinct given.stations → IsKept given (AreInOrder given)
order_kept given are_two distinct = let kept = quiet_kept given are_two distinct in record {
  on_turn = λ slot plan history begun at is.
      let event = TurnBegan slot (map plan.radio_of given.stations) in record {
        quiet = kept.on_turn slot plan history begun at is.quiet;
        each = each_event (AllFit given) history event is.each tt;
        within = λ side. handles_event side history event;
      };
  on_feed = λ plan done left station history are some now is.
      let early = feed_early given station (take (plan.feed_of station) (octets_left given station history)) history (record { each = is.each; none = is.within }) in record {
        quiet = kept.on_feed plan done left station history are some now is.quiet;
        each = early.each;
        within = early.none;
      };
  on_fed = λ history is. record {
    quiet = kept.on_fed history is.quiet;
    each = is.each;
    within = is.within;
  };
  on_begin = λ slot plan done left station history are due is.
      let step = TurnBegins slot (plan.radio_of station) in record {
        quiet = kept.on_begin slot plan done left station history are due is.quiet;
        each = turn_each given station step history tt is.within (λ side. ap some_handles (is.within side)) is.each;
        within = λ side. turn_handles given station step history tt side ∙ is.within side;
      };
  on_begun = λ history is. record {
    quiet = kept.on_begun history is.quiet;
    each = is.each;
    within = λ side. ap some_handles (is.within side);
  };
  on_phase = λ phases history many is. record {
    quiet = kept.on_phase phases history many is.quiet;
    each = is.each;
    within = is.within;
  };
  on_silence = λ phases done left station history are none is. record {
    quiet = kept.on_silence phases done left station history are none is.quiet;
    each = is.each;
    within = is.within;
  };
  on_packet = λ phases plan done left station channel octets history are some due is.
      let hearings = hearings_of given plan.fates station channel octets history in
      let event = Transmitted station channel octets hearings in record {
        quiet = kept.on_packet phases plan done left station channel octets history are some due is.quiet;
        each = each_event (AllFit given) history event is.each is.within;
        within = λ side. ap some_handles (handles_event side history event)
            ∙ air_handles side (side_of station) channel octets hearings (handles_at side history) ∙ is.within side;
      };
  on_air = λ phases history is. record {
    quiet = kept.on_air phases history is.quiet;
    each = is.each;
    within = is.within;
  };
  on_hearing = λ phases done left station history are some is.
      let received = packet_received station history in record {
        quiet = kept.on_hearing phases done left station history are some is.quiet;
        each = turn_each given station (step_of received) history (heard_before received) (heard_fits history received) is.within is.each;
        within = λ side. ap some_handles (turn_handles given station (step_of received) history (heard_before received) side) ∙ is.within side;
      };
  on_heard = λ phases history is. record {
    quiet = kept.on_heard phases history is.quiet;
    each = is.each;
    within = is.within;
  };
  on_phases = λ history is. record {
    quiet = kept.on_phases history is.quiet;
    each = is.each;
    within = λ station in_it out. is.within (side_of station);
  };
  on_end = λ done left station history are some is.
      let in_it = among given.stations done left station are in
      let facts = facts_at given station history in record {
        quiet = kept.on_end done left station history are some is.quiet;
        each = each_append (AllFit given) [] history (Called station TurnEnds ∷ map (Noted station) (notes_ended_turn facts)) is.each (
          tt,
          end_each given station history (few_complete given station history (stands_at (AtEnds done (station ∷ left)) station (turns_begun history)) (is.quiet.stand station in_it))
              (λ silent. only_pieces facts (ends_calm given distinct done left station history are is.quiet silent))
              (is.within station in_it (not_before given.stations done left station distinct are)),
        );
        within = λ other in_too out. end_handles given are_two done station history in_it is.within other in_too (other == station) refl out;
      };
  on_ended = λ history is. record {
    quiet = kept.on_ended history is.quiet;
    each = is.each;
    within = tt;
  };
}

pub run_in_order : (given : Given) → IsOfTwo given → AreDistinct given.stations → Each (AllFit given) [] (history_of (run_of given))
run_in_order given are_two distinct =
    ends_with (run_of given) (IsWhole given (AreInOrder given)) (IsStopped given (AreInOrder given)) (Each (AllFit given) [])
    (run_kept given (AreInOrder given) (order_kept given are_two distinct) (record { quiet = quiet_first given; each = tt; within = tt }))
    (λ history whole. whole.is.each) (λ history stop stopped. stopped.kept.each)

-- ---- each line

pub record IsNotedUp (side : Side) (octets : List ℕ) (station : ℕ) (note : Note) : Type 0 where
  pub packet : ArrayVec ℕ
  pub is : note ≡ UpNote packet
  pub side_is : side_of station ≡ side
  pub octets_are : packet.items ≡ octets

pub noted_up : (station : ℕ) (link_of : ℕ → ℕ) (last : ℕ) (note : Note) (side : Side) (octets : List ℕ) → entry_of (side_of station) link_of last note ≡ Up side octets
    → IsNotedUp side octets station note
noted_up station link_of last (UpNote packet) side octets is = record { packet = packet; is = refl; side_is = cc; octets_are = cc }
noted_up station link_of last note side octets is = absurd cc

module _ (given : Given) (are_two : IsOfTwo given) (distinct : AreDistinct given.stations) where
  abbrev journal : List Entry
  journal = journal_of (history_of (run_of given))

  abbrev HasOwnPlace : Side → List Entry → List ℕ → Type 0
  HasOwnPlace side front octets = HasPlace (HaveFewLinks given) (HaveFewBuffers given) side front octets

  each_placed : (front rest : List Entry) (side : Side) (octets : List ℕ) → journal ≡ front ++ Up side octets ∷ rest → is_credit octets ≡ true
      → HasOwnPlace side front octets
  each_placed front rest side octets is credit =
      let one = note_line given front rest (Up side octets) is refl in
      let up = noted_up one.station _ _ one.note side octets one.entry_is in
      let placed = each_at (AllFit given) (history_of (run_of given)) one.before one.after (Noted one.station (UpNote up.packet))
      (run_in_order given are_two distinct) (one.is_at ∙ ap (λ note. one.before ++ Noted one.station note ∷ one.after) up.is) in
      subst (λ entries. HasOwnPlace side entries octets) (sym one.front_is)
      (subst (λ s. HasOwnPlace s (journal_of one.before) octets) up.side_is
      (subst (HasOwnPlace (side_of one.station) (journal_of one.before)) up.octets_are (placed.credit (ap is_credit up.octets_are ∙ credit))))

  early_now : (front : List Entry) (side : Side) → turn_packets front ≡ 0 → handles_of side front ≡ None
  early_now front side none = none_yet (turn_packets front) (handles_of side front) (counts_of side front) none

  pub are_of_some : HaveFewBuffers given → AllCreditsAreOfSome journal
  are_of_some few = λ front rest side octets is credit. (each_placed front rest side octets is credit).some few

  pub are_of_one : AllCreditsAreOfOne journal
  are_of_one = λ front rest side octets is credit none.
      subst (λ handles. Fits (HaveFewLinks given) (HaveFewBuffers given) handles octets) (early_now front side none)
      (each_placed front rest side octets is credit).fits

  pub come_at_once : AllEarlyCreditsComeAtOnce journal
  come_at_once = λ front rest side octets is credit none. (each_placed front rest side octets is credit).fed (early_now front side none)

-- ---- two credits of a turn

all_first : (P : ℕ → Type 0) (xs : List ℕ) (last : ℕ) → AllByRecursion P (xs ++ last ∷ []) → AllByRecursion P xs
all_first P [] last all = tt
all_first P (x ∷ xs) last all = (all.0, all_first P xs last all.1)

all_last : (P : ℕ → Type 0) (xs : List ℕ) (last : ℕ) → AllByRecursion P (xs ++ last ∷ []) → P last
all_last P [] last all = all.0
all_last P (x ∷ xs) last all = all_last P xs last all.1

-- what holds of all handles after these lines of one turn holds of each before them
held_then : (side : Side) (P : ℕ → Type 0) (handle : ℕ) (between : List Entry) (handles : List ℕ) → turns_of between ≡ [] → (AllByRecursion P handles → P handle)
    → AllByRecursion P (some_handles (fold (handles_after side) (Some handles) between)) → P handle
held_then side P handle [] handles no_turn held all = held all
held_then side P handle (Turn slot a_on b_on ∷ between) handles no_turn held all = absurd cc
held_then side P handle (Air sender channel sent fate verdict ∷ between) handles no_turn held all = held_then side P handle between handles no_turn held all
held_then side P handle (Up other packet ∷ between) handles no_turn held all =
    by (is_side other side && is_credit packet) (held_then side P handle between handles no_turn held)
    (held_then side P handle between (handles ++ credit_handle packet ∷ []) no_turn (λ more. held (all_first P handles (credit_handle packet) more))) all
  where
    by : (test : Bool) → (AllByRecursion P (some_handles (fold (handles_after side) (Some handles) between)) → P handle)
        → (AllByRecursion P (some_handles (fold (handles_after side) (Some (handles ++ credit_handle packet ∷ [])) between)) → P handle)
        → AllByRecursion P (some_handles (fold (handles_after side)
        (if test then option_map (λ some. some ++ credit_handle packet ∷ []) (Some handles) else Some handles) between)) → P handle
    by true without with_it all = with_it all
    by false without with_it all = without all
held_then side P handle (entry ∷ between) handles no_turn held all = held_then side P handle between handles no_turn held all

-- the handles after a credit that comes after the first packet of a turn, and these lines
record HasHandle (side : Side) (front : List Entry) (octets : List ℕ) (between : List Entry) : Type 0 where
  some : List ℕ
  is : handles_of side (front ++ Up side octets ∷ between) ≡ fold (handles_after side) (Some (some ++ credit_handle octets ∷ [])) between

has_handle : (side : Side) (front : List Entry) (octets : List ℕ) (between : List Entry) → is_credit octets ≡ true → 0 < turn_packets front
    → HasHandle side front octets between
has_handle side front octets between credit packets =
    let handles = some_now (turn_packets front) (handles_of side front) (counts_of side front) packets in record {
      some = handles.some;
      is = fold-append (handles_after side) None front (Up side octets ∷ between)
          ∙ ap (λ some. fold (handles_after side) some (Up side octets ∷ between)) handles.is
          ∙ ap (λ b. fold (handles_after side)
          (if b && is_credit octets then Some (handles.some ++ credit_handle octets ∷ []) else Some handles.some) between) (same_side side)
          ∙ ap (λ b. fold (handles_after side)
          (if b then Some (handles.some ++ credit_handle octets ∷ []) else Some handles.some) between) credit;
    }

-- the handle of the credit is among them
held_by : (P : ℕ → Type 0) (side : Side) (front : List Entry) (octets : List ℕ) (between : List Entry) → is_credit octets ≡ true → 0 < turn_packets front → turns_of between ≡ []
    → AllByRecursion P (some_handles (handles_of side (front ++ Up side octets ∷ between))) → P (credit_handle octets)
held_by P side front octets between credit packets no_turn all =
    let has = has_handle side front octets between credit packets in
    held_then side P (credit_handle octets) between (has.some ++ credit_handle octets ∷ []) no_turn (all_last P has.some (credit_handle octets))
    (subst (λ handles. AllByRecursion P (some_handles handles)) has.is all)

fits_all : (Few Fit : Type 0) → Few → (handles : Option (List ℕ)) (octets : List ℕ) → Fits Few Fit handles octets
    → AllByRecursion (λ handle. handle < credit_handle octets) (some_handles handles)
fits_all Few Fit few None octets fits = tt
fits_all Few Fit few (Some handles) octets fits = fits few

-- ---- what comes after a credit in its turn

-- once a side has shut a link after a credit, it stays so in these lines of one turn
stays_ended : (side : Side) (between : List Entry) → turns_of between ≡ [] → fold (ended_after side) (Some (Some true)) between ≡ Some (Some true)
stays_ended side [] no_turn = refl
stays_ended side (Turn slot a_on b_on ∷ between) no_turn = absurd cc
stays_ended side (Air sender channel sent fate verdict ∷ between) no_turn = stays_ended side between no_turn
stays_ended side (Up other packet ∷ between) no_turn =
    by (is_side other side && is_credit packet) (stays_ended side between no_turn)
  where
    by : (test : Bool) → fold (ended_after side) (Some (Some true)) between ≡ Some (Some true)
        → fold (ended_after side) (if test then option_map with_credit (Some (Some true)) else Some (Some true)) between ≡ Some (Some true)
    by true rest = rest
    by false rest = rest
stays_ended side (Shut other link reason ∷ between) no_turn = by (is_side other side) (stays_ended side between no_turn)
  where
    by : (own : Bool) → fold (ended_after side) (Some (Some true)) between ≡ Some (Some true)
        → fold (ended_after side) (if own then option_map with_shut (Some (Some true)) else Some (Some true)) between ≡ Some (Some true)
    by true rest = rest
    by false rest = rest
stays_ended side (entry ∷ between) no_turn = stays_ended side between no_turn

ended_then : (side : Side) (between : List Entry) (shut : Bool) → turns_of between ≡ [] → has_shut side between ≡ true
    → fold (ended_after side) (Some (Some shut)) between ≡ Some (Some true)
ended_then side [] shut no_turn is = absurd (let h : false ≡ true = is in absurd cc)
ended_then side (Turn slot a_on b_on ∷ between) shut no_turn is = absurd cc
ended_then side (Air sender channel sent fate verdict ∷ between) shut no_turn is = ended_then side between shut no_turn is
ended_then side (Up other packet ∷ between) shut no_turn is =
    by (is_side other side && is_credit packet) (ended_then side between shut no_turn is)
  where
    by : (test : Bool) → fold (ended_after side) (Some (Some shut)) between ≡ Some (Some true)
        → fold (ended_after side) (if test then option_map with_credit (Some (Some shut)) else Some (Some shut)) between ≡ Some (Some true)
    by true rest = rest
    by false rest = rest
ended_then side (Shut other link reason ∷ between) shut no_turn is =
    by (is_side other side) is (stays_ended side between no_turn) (ended_then side between shut no_turn)
  where
    by : (own : Bool) → (own || has_shut side between) ≡ true → fold (ended_after side) (Some (Some true)) between ≡ Some (Some true)
        → (has_shut side between ≡ true → fold (ended_after side) (Some (Some shut)) between ≡ Some (Some true))
        → fold (ended_after side) (if own then option_map with_shut (Some (Some shut)) else Some (Some shut)) between ≡ Some (Some true)
    by true now ended rest = ended
    by false later ended rest = rest later
ended_then side (entry ∷ between) shut no_turn is = ended_then side between shut no_turn is

-- so it is after a credit that comes after the first packet of a turn
ended_since : (side : Side) (front : List Entry) (octets : List ℕ) (between : List Entry) → is_credit octets ≡ true → 0 < turn_packets front → turns_of between ≡ []
    → has_shut side between ≡ true → ended_of side (front ++ Up side octets ∷ between) ≡ Some (Some true)
ended_since side front octets between credit packets no_turn shut =
    let handles = some_now (turn_packets front) (handles_of side front) (counts_of side front) packets in
    let past = is_past side front handles.some handles.is in
    fold-append (ended_after side) None front (Up side octets ∷ between)
    ∙ ap (λ ended. fold (ended_after side) ended (Up side octets ∷ between)) past.is
    ∙ ap (λ b. fold (ended_after side) (if b && is_credit octets then Some (with_credit past.since) else Some past.since) between) (same_side side)
    ∙ ap (λ b. fold (ended_after side) (if b then Some (with_credit past.since) else Some past.since) between) credit
    ∙ by past.since
  where
    by : (since : Option Bool) → fold (ended_after side) (Some (with_credit since)) between ≡ Some (Some true)
    by None = ended_then side between false no_turn shut
    by (Some before) = ended_then side between before no_turn shut

-- the last of some lines
abbrev last_of : Entry → List Entry → Entry
last_of first lines = fold (λ before line. line) first lines

record EndsWith (lines : List Entry) (last : Entry) : Type 0 where
  earlier : List Entry
  is : lines ≡ earlier ++ last ∷ []

ends_so : (first : Entry) (lines : List Entry) → EndsWith (first ∷ lines) (last_of first lines)
ends_so first [] = record { earlier = []; is = refl }
ends_so first (line ∷ lines) =
    let later = ends_so line lines in
    record { earlier = first ∷ later.earlier; is = ap (λ xs. first ∷ xs) later.is }

-- what comes after a packet to a host ends with a line that is none
ends_after_up : (front between before : List Entry) (side own : Side) (octets : List ℕ) (link : ℕ) (reason : ErrCode)
    → front ++ Up side octets ∷ between ≡ before ++ Shut own link reason ∷ [] → EndsWith between (Shut own link reason)
ends_after_up front between before side own octets link reason is = by between
    (sym (fold-append (λ before line. line) (Up side octets) front (Up side octets ∷ between)) ∙ ap (last_of (Up side octets)) is
    ∙ fold-append (λ before line. line) (Up side octets) before (Shut own link reason ∷ []))
  where
    by : (lines : List Entry) → last_of (Up side octets) lines ≡ Shut own link reason → EndsWith lines (Shut own link reason)
    by [] same = absurd cc
    by (line ∷ lines) same = subst (EndsWith (line ∷ lines)) same (ends_so line lines)

module _ (given : Given) (side : Side) (front between : List Entry) (octets : List ℕ)
    (late : is_credit octets ≡ true) (packets : 0 < turn_packets front) (no_turn : turns_of between ≡ []) where
  abbrev lines : List Entry
  lines = front ++ Up side octets ∷ between

  abbrev fits : ℕ → List Event → Note → Type 0
  fits station before note = FitsNote (HaveFewLinks given) (HaveFewBuffers given) station before note

  some_before : (before : List Event) → lines ≡ journal_of before → some_handles (handles_at side before) ≡ [] → ⊥
  some_before before is none =
      held_by (λ handle. ⊥) side front octets between late packets no_turn
      (subst (λ handles. AllByRecursion (λ handle. ⊥) handles) (sym (ap (λ entries. some_handles (handles_of side entries)) is ∙ none)) tt)

  -- the event of a link that was shut
  reported : (before rest : List Event) (station : ℕ) (own : List ℕ) → lines ≡ journal_of before → side_of station ≡ side
      → history_of (run_of given) ≡ before ++ rest → IsReported station before own → IsLatePacket side lines between own
  reported before rest station own is same at end =
      let note = ShutNote end.handle end.reason in
      let number = (links_of end.before).link_of station end.handle in
      let shut = Shut (side_of station) number end.reason in
      let said = is ∙ ap journal_of end.is ∙ journal_event end.before (Noted station note) in
      let ends = ends_after_up front between (journal_of end.before) side (side_of station) octets number end.reason said in
      let opened = shut_was_opened given end.before rest station end.handle end.reason
      (at ∙ ap (λ (xs : List Event). xs ++ rest) end.is ∙ append_assoc end.before (Noted station note ∷ []) rest) in
      ReportsEnd number end.reason ends.earlier (ends.is ∙ ap (λ s. ends.earlier ++ Shut s number end.reason ∷ []) same) (record {
        handle = end.handle;
        opened = subst (λ s. IsOpenedUnder s number end.handle lines) same
            (subst (IsOpenedUnder (side_of station) number end.handle) (sym said)
            (lines_more (side_of station) number end.handle (journal_of end.before) (shut ∷ []) opened));
        octets_are = end.octets_are;
      })

  up_follows : (before rest : List Event) (station : ℕ) (packet : ArrayVec ℕ) → lines ≡ journal_of before → history_of (run_of given) ≡ before ++ rest
      → fits station before (UpNote packet) → MayFollowCredit side lines between (Up (side_of station) packet.items)
  up_follows before rest station packet is at fit = λ same. by same (is_credit packet.items) refl (has_shut side between) refl
    where
      by : side_of station ≡ side → (credits : Bool) → is_credit packet.items ≡ credits → (shut : Bool) → has_shut side between ≡ shut
          → IsLatePacket side lines between packet.items
      by same true is_one false none = IsCredit none is_one
      by same true is_one true ended =
          absurd ((fit.credit is_one).unended
          (subst (λ s. ended_of s (journal_of before) ≡ Some (Some true)) (sym same)
          (ap (ended_of side) (sym is) ∙ ended_since side front octets between late packets no_turn ended)))
      by same false is_none shut shuts = last same (fit.other is_none)
        where
          last : side_of station ≡ side → (some_handles (handles_at (side_of station) before) ≡ []) ⊎ IsReported station before packet.items
              → IsLatePacket side lines between packet.items
          last same (inl none) = absurd (some_before before is (ap (λ s. some_handles (handles_at s before)) (sym same) ∙ none))
          last same (inr end) = reported before rest station packet.items is same at end

  note_follows : (before rest : List Event) (station : ℕ) (link_of : ℕ → ℕ) (last : ℕ) (note : Note) → lines ≡ journal_of before
      → history_of (run_of given) ≡ before ++ rest → fits station before note → MayFollowCredit side lines between (entry_of (side_of station) link_of last note)
  note_follows before rest station link_of last (UpNote packet) is at fit = up_follows before rest station packet is at fit
  note_follows before rest station link_of last (ShutNote handle reason) is at fit = tt
  note_follows before rest station link_of last note is at fit = absurd (some_before before is (fit side))

  event_follows : (before rest : List Event) (links : Numbers) (event : Event) (entry : Entry) → lines ≡ journal_of before → history_of (run_of given) ≡ before ++ rest
      → AllFit given before event → entries_of links event ≡ entry ∷ [] → MayFollowCredit side lines between entry
  event_follows before rest links (TurnBegan slot radios) entry is at fit one =
      let same : Turn slot (radio_in 0 radios) (Some (radio_in 1 radios)) ≡ entry = cc in subst (MayFollowCredit side lines between) same tt
  event_follows before rest links (HostFed station octets) entry is at fit one = absurd (some_before before is (fit side))
  event_follows before rest links (Called station step) entry is at fit one = absurd cc
  event_follows before rest links (Noted station note) entry is at fit one =
      let same : entry_of (side_of station) (links.link_of station) (links.last_of station) note ≡ entry = cc in
      subst (MayFollowCredit side lines between) same (note_follows before rest station (links.link_of station) (links.last_of station) note is at fit)
  event_follows before rest links (Transmitted station channel octets hearings) entry is at fit one = absurd (some_before before is (fit side))

module _ (given : Given) (are_two : IsOfTwo given) (distinct : AreDistinct given.stations) where
  pub come_last : AllLateCreditsComeLast (journal_of (history_of (run_of given)))
  come_last = λ front between rest side octets entry is credit packets no_turn.
      let history = history_of (run_of given) in
      let one = is_of_event history (front ++ Up side octets ∷ between) rest entry (is ∙ sym (append_assoc front (Up side octets ∷ between) (entry ∷ rest))) in
      let fit = each_at (AllFit given) history one.before one.after one.event (run_in_order given are_two distinct) one.is_at in
      event_follows given side front between octets credit packets no_turn one.before (one.event ∷ one.after) (links_of one.before) one.event entry
      one.front_is one.is_at fit one.entry_is

  pub ascends : HaveFewLinks given → AllCreditsAscend (journal_of (history_of (run_of given)))
  ascends few = λ front between rest side one other is credit credit_too packets no_turn.
      let before = front ++ Up side one ∷ between in
      let fits = (each_placed given are_two distinct before rest side other (is ∙ sym (append_assoc front (Up side one ∷ between) (Up side other ∷ rest))) credit_too).fits in
      held_by (λ handle. handle < credit_handle other) side front one between credit packets no_turn
      (fits_all (HaveFewLinks given) (HaveFewBuffers given) few (handles_of side before) other fits)

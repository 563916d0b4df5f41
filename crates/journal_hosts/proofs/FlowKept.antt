-- At each call of a turn of a run, the view counts what the lines of its side count, and what waits for its host fits.
use Rattle.std.proofs.Common.{◌≡◌, ℕ, zero, suc, ◌+◌, ◌-◌, ◌≤◌, ◌==◌, Bool, true, false, Option, Some, None, List, [], ◌∷◌, ◌++◌, cond, map, replicate, refl, ap, sym, subst, ◌∙◌, append_assoc, append-nil, arith}
use Rattle.std.specs.Prelude.{fold, is_some, slice_index_or, take, ⊤}
use Rattle.std.proofs.lemmas.Bool.{eqb-true}
use Rattle.ble_base.specs.declared.notes.Note.{Note}
use Rattle.host_answers.specs.Flows.{flow_on}
use Rattle.host_answers.proofs.FlowHeld.{flow_at}
use Rattle.host_answers.proofs.LineAnswers.{turn_quiet}
use Rattle.host_view.specs.declared.links.Link.{Link as ViewLink}
use Rattle.host_view.specs.Flow.{most_received}
use Rattle.host_view.specs.View.{View}
use Rattle.journal_data.proofs.link_model.Hearing.{IsHeardWhole}
use Rattle.journal_data.specs.open_links.OpenLinks.{Links, OpenLink, link_from}
use Rattle.journal_data.proofs.open_links.Handles.{here, later}
use Rattle.journal_data.specs.controller_model.Facts.{Facts, Setup}
use Rattle.journal_data.specs.controller_model.Side.{facts_after, facts_of, notes_after}
use Rattle.journal_data.specs.controller_model.Step.{Step, HostOctet, TurnBegins, TurnEnds}
use Rattle.journal_data.proofs.controller_model.Always.{IsInTurn}
use Rattle.journal_data.proofs.controller_model.FlowOff.{closes_at}
use Rattle.journal_data.proofs.controller_model.FreeHandles.{places_agree}
use Rattle.journal_data.proofs.controller_model.OpenPlaces.{opens}
use Rattle.run_model.specs.Due.{Each}
use Rattle.run_model.specs.Feeding.{AreDistinct}
use Rattle.run_model.specs.History.{Event, TurnBegan, HostFed, Called, Noted, Transmitted, packet_received, past_of, steps_in}
use Rattle.run_model.specs.Journal.{journal_of, side_of}
use Rattle.run_model.specs.LinkEnds.{HaveAddresses}
use Rattle.run_model.specs.Run.{Given, after_call, after_feed, after_octets, facts_at, hearings_of, history_of, octets_left, run_of, setup_at, step_of}
use Rattle.run_model.proofs.Calls.{flat_nothing}
use Rattle.run_model.proofs.Places.{each_append, each_event}
use Rattle.run_model.proofs.Stations.{among, is_in}
use Rattle.run_model.proofs.Walk.{NoTurn, Place, IsKept, IsStopped, IsWhole, ends_with, run_kept}
use Rattle.journal_data.proofs.run_laws.Hearings.{other_facts, own_facts}
use Rattle.journal_data.proofs.run_laws.InAgreement.{differs_back}
use Rattle.journal_data.proofs.run_laws.MostReceived.{max_received}
use Rattle.journal_data.proofs.journal_acks.Counting.{AreKnown}
use Rattle.journal_data.proofs.journal_acks.TwoStations.{IsOfTwo, other_apart}
use Rattle.journal_data.specs.HostLines.{packets_framed}
use Rattle.journal_data.proofs.EachLine.{IsElsewhere, IsOutside, lines_at, numbers_at}
use Rattle.journal_data.proofs.Ends.{IsWell}
use Rattle.journal_data.proofs.FewLinks.{HaveFewLinks}
use Rattle.journal_data.proofs.HeldLinks.{under_is}
use Rattle.journal_data.proofs.KeptData.{AreWell, IsDataAt, data_kept, pass_in_turn}
use Rattle.journal_data.proofs.Openness.{is_open}
use Rattle.journal_data.proofs.SameView.{SeesSame, same_facts, sees_other_feed, sees_packet, sees_turn}
use Rattle.journal_hosts.specs.HostFlow.{counts_sent, held_on}
use Rattle.journal_hosts.proofs.FedCounts.{AreSame, bare_first, facts_sent, sent_counts}
use Rattle.journal_hosts.proofs.LineCounts.{call_counts, counts_at, feed_counts, other_call, other_feed, outside_counts}
use Rattle.journal_hosts.proofs.PieceRoom.{AreFitting, AreLess, call_fits, octet_fits}
use Rattle.journal_hosts.proofs.ViewCounts.{Counts, counts_noted, out_in, turn_counts}

-- ---- the links of the view are those of the controller

abbrev bool_at : List Bool → ℕ → Bool
bool_at places place = slice_index_or places place false

view_at : (links : List (Option ViewLink)) (place : ℕ) → is_some (out_in links place) ≡ bool_at (opens links) place
view_at [] place = refl
view_at (None ∷ links) zero = refl
view_at (Some link ∷ links) zero = refl
view_at (one ∷ links) (suc place) = view_at links place

links_at : (first place : ℕ) (links : Links) → is_some (link_from first (first + place) links) ≡ bool_at (opens links) place
links_at first place [] = refl
links_at first zero (one ∷ links) =
    ap (λ (h : ℕ). is_some (link_from first h (one ∷ links))) (let same : first + 0 ≡ first = omega arith in same) ∙ ap (λ (p : Option OpenLink). is_some p) (here first one links)
links_at first (suc place) (one ∷ links) =
    ap (λ (p : Option OpenLink). is_some p) (later first (first + suc place) one links (omega arith))
    ∙ ap (λ (h : ℕ). is_some (link_from (first + 1) h links)) (let same : first + suc place ≡ (first + 1) + place = omega arith in same)
    ∙ links_at (first + 1) place links

past_none : (spare place : ℕ) → bool_at (replicate spare false) place ≡ false
past_none zero place = refl
past_none (suc spare) zero = refl
past_none (suc spare) (suc place) = past_none spare place

spare_at : (places : List Bool) (spare place : ℕ) → bool_at (places ++ replicate spare false) place ≡ bool_at places place
spare_at [] spare place = past_none spare place
spare_at (one ∷ places) spare zero = refl
spare_at (one ∷ places) spare (suc place) = spare_at places spare place

-- lists that are as open
pub same_places : (after before : List (Option ViewLink)) → opens after ≡ opens before → (handle : ℕ) → is_some (out_in after handle) ≡ is_some (out_in before handle)
same_places after before same handle =
    view_at after handle ∙ ap (λ (places : List Bool). bool_at places handle) same ∙ sym (view_at before handle)

pub view_open : (setup : Setup) (past : List Step) → setup.links ≤ 6 → (handle : ℕ)
    → is_some (out_in (facts_of setup past).view.links handle) ≡ is_open (facts_of setup past).links handle
view_open setup past few handle =
    let facts = facts_of setup past in
    view_at facts.view.links handle ∙ ap (λ (places : List Bool). bool_at places handle) (places_agree setup past few)
    ∙ spare_at (opens facts.links) (6 - setup.links) handle ∙ sym (links_at 0 handle facts.links)
    ∙ ap (λ (h : ℕ). is_some (link_from 0 h facts.links)) (let same : 0 + handle ≡ handle = omega arith in same)

-- ---- what is known of a station

pub record IsReady (given : Given) (station : ℕ) (history : List Event) : Type 0 where
  pub counted : Counts (facts_at given station history).view.links (counts_at station history)
  pub fits : AreFitting (facts_at given station history)

pub record IsCallReady (given : Given) (station : ℕ) (history : List Event) : Type 0 where
  pub ready : IsReady given station history
  pub well : IsWell given station history
  pub flow : (facts_at given station history).view.flow ≡ flow_on (side_of station) (journal_of history)

-- at each call of a turn
abbrev pub IsSeenReady : Given → List Event → Event → Type 0
IsSeenReady given history (Called station step) = IsInTurn step → is_in station given.stations ≡ true → IsCallReady given station history
IsSeenReady given history (Noted station note) = ⊤
IsSeenReady given history (TurnBegan slot radios) = ⊤
IsSeenReady given history (HostFed station octets) = ⊤
IsSeenReady given history (Transmitted station channel octets hearings) = ⊤

record AreReady (given : Given) (history : List Event) : Type 0 where
  ready : (station : ℕ) → is_in station given.stations ≡ true → IsReady given station history
  each : Each (IsSeenReady given) [] history

notes_seen : (given : Given) (station : ℕ) (notes : List Note) (history : List Event) → Each (IsSeenReady given) history (map (Noted station) notes)
notes_seen given station [] history = tt
notes_seen given station (note ∷ notes) history = (tt, notes_seen given station notes (history ++ Noted station note ∷ []))

same_ready : (given : Given) (station : ℕ) (history after : List Event) → facts_at given station after ≡ facts_at given station history
    → counts_at station after ≡ counts_at station history → IsReady given station history → IsReady given station after
same_ready given station history after facts counts ready = record {
  counted = λ handle n. subst (λ (held : ℕ → ℕ). out_in (facts_at given station after).view.links handle ≡ Some n → n ≡ held handle) (sym counts)
      (subst (λ (of : Facts). out_in of.view.links handle ≡ Some n → n ≡ counts_at station history handle) (sym facts) (ready.counted handle n));
  fits = subst AreFitting (sym facts) ready.fits;
}

least_of : (view : View) (most : ℕ) → most ≡ most_received view → most ≤ view.flow.acl_length
least_of view most is = omega (arith, is)

module _ (given : Given) (are_two : IsOfTwo given) (distinct : AreDistinct given.stations) (few : (station : ℕ) → (setup_at given station).links ≤ 6) where
  -- a change of one station
  for_each : (P : ℕ → Type 0) (station : ℕ) → is_in station given.stations ≡ true → P station
      → ((one : ℕ) → (one == station) ≡ false → is_in one given.stations ≡ true → IsElsewhere one station → P one)
      → (one : ℕ) → is_in one given.stations ≡ true → P one
  for_each P station in_it own others one one_in = by (one == station) refl
    where
      by : (same : Bool) → (one == station) ≡ same → P one
      by true same = subst P (sym (eqb-true one station same)) own
      by false differs = others one differs one_in (other_apart given are_two one station one_in in_it (differs_back one station differs))

  -- ---- a call of a turn

  call_ready : (station : ℕ) (step : Step) (history rest : List Event) → is_in station given.stations ≡ true → IsInTurn step
      → history_of (run_of given) ≡ after_call given station step history ++ rest → AreWell given history → AreReady given history
      → AreReady given (after_call given station step history)
  call_ready station step history rest in_it turn at well all = record {
    ready = for_each (λ one. IsReady given one after) station in_it own
        (λ one differs one_in apart. same_ready given one history after (other_facts given station step history one differs)
        (other_call given one station step history apart) (all.ready one one_in));
    each = each_append (IsSeenReady given) [] history (Called station step ∷ map (Noted station) notes) all.each
        (seen, notes_seen given station notes (history ++ Called station step ∷ []));
  }
    where
      setup : Setup
      setup = setup_at given station

      facts : Facts
      facts = facts_at given station history

      notes : List Note
      notes = notes_after (setup_at given station) (facts_at given station history) step

      after : List Event
      after = after_call given station step history

      then_rest : List Event
      then_rest = (Called station step ∷ map (Noted station) (notes_after (setup_at given station) (facts_at given station history) step)) ++ rest

      so_far : history_of (run_of given) ≡ history ++ then_rest
      so_far = at ∙ append_assoc history (Called station step ∷ map (Noted station) (notes_after (setup_at given station) (facts_at given station history) step)) rest

      flow : (facts_at given station history).view.flow ≡ flow_on (side_of station) (journal_of history)
      flow = flow_at given are_two station in_it history then_rest so_far (well.well station in_it).noted

      seen : IsInTurn step → is_in station given.stations ≡ true → IsCallReady given station history
      seen in_turn in_too = record { ready = all.ready station in_it; well = well.well station in_it; flow = flow }

      less : AreLess (facts_at given station history).view.flow.acl_length (facts_at given station history)
      less handle link found =
          least_of (facts_at given station history).view link.setup.link.max_rx
          (max_received given history then_rest station handle link distinct in_it (few station) so_far found)

      counts_are : counts_at station (after_call given station step history)
          ≡ fold (counts_noted (facts_at given station history).view.flow.on) (counts_at station history)
          (notes_after (setup_at given station) (facts_at given station history) step)
      counts_are =
          call_counts station step (notes_after (setup_at given station) (facts_at given station history) step) history (turn_quiet given station step history turn)
          ∙ ap (λ (b : Bool). fold (counts_noted b) (counts_at station history) (notes_after (setup_at given station) (facts_at given station history) step))
          (sym (ap (λ held. held.on) flow))

      own : IsReady given station (after_call given station step history)
      own = record {
        counted = subst (λ (of : Facts). Counts of.view.links (counts_at station (after_call given station step history))) (sym (own_facts given station step history))
            (subst (Counts (facts_after (setup_at given station) (facts_at given station history) step).view.links) (sym counts_are)
            (turn_counts (setup_at given station) (facts_at given station history) step (counts_at station history) turn (all.ready station in_it).counted));
        fits = subst AreFitting (sym (own_facts given station step history))
            (call_fits (setup_at given station) (facts_at given station history) step turn less (all.ready station in_it).fits);
      }

  -- ---- a feed

  octets_sent : (station : ℕ) (octets : List ℕ) (history : List Event)
      → facts_at given station (after_octets given station octets history) ≡ facts_sent (setup_at given station) (facts_at given station history) octets
  octets_sent station [] history = refl
  octets_sent station (octet ∷ octets) history =
      octets_sent station octets (after_call given station (HostOctet octet) history)
      ∙ ap (λ (of : Facts). facts_sent (setup_at given station) of octets) (own_facts given station (HostOctet octet) history)

  octets_fit : (station : ℕ) (octets : List ℕ) (history : List Event) → AreFitting (facts_at given station history)
      → AreFitting (facts_at given station (after_octets given station octets history))
  octets_fit station [] history fits = fits
  octets_fit station (octet ∷ octets) history fits =
      let setup = setup_at given station in
      octets_fit station octets (after_call given station (HostOctet octet) history)
      (subst AreFitting (sym (own_facts given station (HostOctet octet) history))
      (octet_fits setup (facts_at given station history) (closes_at setup (past_of station history) (few station)) fits octet))

  octets_seen : (station : ℕ) (octets : List ℕ) (history : List Event) → Each (IsSeenReady given) [] history
      → Each (IsSeenReady given) [] (after_octets given station octets history)
  octets_seen station [] history each = each
  octets_seen station (octet ∷ octets) history each =
      let notes = notes_after (setup_at given station) (facts_at given station history) (HostOctet octet) in
      octets_seen station octets (after_call given station (HostOctet octet) history)
      (each_append (IsSeenReady given) [] history (Called station (HostOctet octet) ∷ map (Noted station) notes) each
      ((λ turn in_it. absurd turn), notes_seen given station notes (history ++ Called station (HostOctet octet) ∷ [])))

  -- the links of the lines are those of the view
  same_links : (station : ℕ) (history : List Event) → IsWell given station history
      → AreSame (lines_at station history).links (facts_at given station history).view.links
  same_links station history well handle =
      let facts = facts_at given station history in
      ap (λ (place : Option ℕ). is_some place)
      (under_is (setup_at given station).links (lines_at station history).links (numbers_at station history) (is_open facts.links) well.booked.links handle)
      ∙ by (is_open facts.links handle) ∙ sym (view_open (setup_at given station) (past_of station history) (few station) handle)
    where
      by : (opened : Bool) → is_some (cond opened (Some (numbers_at station history handle)) None) ≡ opened
      by true = refl
      by false = refl

  some_ready : (station octet : ℕ) (octets : List ℕ) (history : List Event) → (facts_at given station history).view.flow ≡ flow_on (side_of station) (journal_of history)
      → IsWell given station history → IsReady given station history → IsReady given station (after_feed given station (octet ∷ octets) history)
  some_ready station octet octets history flow well ready = record {
    counted = subst (λ (of : Facts). Counts of.view.links (counts_at station after)) (sym facts_are)
        (subst (Counts (facts_sent setup facts (octet ∷ octets)).view.links) (sym counts_are)
        (sent_counts setup (lines_at station history).links (octet ∷ octets) facts (counts_at station history) ready.counted (same_links station history well)));
    fits = octets_fit station (octet ∷ octets) fed (subst AreFitting (sym same) ready.fits);
  }
    where
      setup : Setup
      setup = setup_at given station

      facts : Facts
      facts = facts_at given station history

      fed : List Event
      fed = history ++ HostFed station (octet ∷ octets) ∷ []

      after : List Event
      after = after_feed given station (octet ∷ octets) history

      same : facts_at given station (history ++ HostFed station (octet ∷ octets) ∷ []) ≡ facts_at given station history
      same = ap (facts_of (setup_at given station)) (flat_nothing (steps_in station) history (HostFed station (octet ∷ octets)) refl)

      facts_are : facts_at given station (after_feed given station (octet ∷ octets) history)
          ≡ facts_sent (setup_at given station) (facts_at given station history) (octet ∷ octets)
      facts_are =
          octets_sent station (octet ∷ octets) (history ++ HostFed station (octet ∷ octets) ∷ [])
          ∙ ap (λ (of : Facts). facts_sent (setup_at given station) of (octet ∷ octets)) same

      counts_are : counts_at station (after_feed given station (octet ∷ octets) history)
          ≡ cond (facts_at given station history).view.flow.on
          (fold (counts_sent (lines_at station history).links) (counts_at station history)
          (packets_framed (facts_at given station history).octets (octet ∷ octets)))
          (counts_at station history)
      counts_are =
          feed_counts given station octet octets history
          ∙ (λ i. cond (sym flow i).on
          (fold (counts_sent (lines_at station history).links) (counts_at station history) (packets_framed (well.fed i) (octet ∷ octets)))
          (counts_at station history))

  feed_one : (station : ℕ) (octets : List ℕ) (history : List Event) → (facts_at given station history).view.flow ≡ flow_on (side_of station) (journal_of history)
      → IsWell given station history → IsReady given station history → IsReady given station (after_feed given station octets history)
  feed_one station [] history flow well ready = ready
  feed_one station (octet ∷ octets) history flow well ready = some_ready station octet octets history flow well ready

  feed_seen : (station : ℕ) (octets : List ℕ) (history : List Event) → Each (IsSeenReady given) [] history
      → Each (IsSeenReady given) [] (after_feed given station octets history)
  feed_seen station [] history each = each
  feed_seen station (octet ∷ octets) history each =
      octets_seen station (octet ∷ octets) (history ++ HostFed station (octet ∷ octets) ∷ [])
      (each_event (IsSeenReady given) history (HostFed station (octet ∷ octets)) each tt)

  record HasRest (history after : List Event) : Type 0 where
    more : List Event
    is : after ≡ history ++ more

  octets_more : (station : ℕ) (octets : List ℕ) (history : List Event) → HasRest history (after_octets given station octets history)
  octets_more station [] history = record { more = []; is = sym (append-nil history) }
  octets_more station (octet ∷ octets) history =
      let one = Called station (HostOctet octet) ∷ map (Noted station) (notes_after (setup_at given station) (facts_at given station history) (HostOctet octet)) in
      let later = octets_more station octets (history ++ one) in
      record { more = one ++ later.more; is = later.is ∙ append_assoc history one later.more }

  feed_more : (station : ℕ) (octets : List ℕ) (history : List Event) → HasRest history (after_feed given station octets history)
  feed_more station [] history = record { more = []; is = sym (append-nil history) }
  feed_more station (octet ∷ octets) history =
      let event = HostFed station (octet ∷ octets) in
      let later = octets_more station (octet ∷ octets) (history ++ event ∷ []) in
      record { more = event ∷ later.more; is = later.is ∙ append_assoc history (event ∷ []) later.more }

  feed_ready : (station : ℕ) (octets : List ℕ) (history rest : List Event) → is_in station given.stations ≡ true
      → history_of (run_of given) ≡ history ++ rest → AreWell given history → AreReady given history → AreReady given (after_feed given station octets history)
  feed_ready station octets history rest in_it at well all =
      let own = well.well station in_it in
      let after = after_feed given station octets history in record {
        ready = for_each (λ one. IsReady given one after) station in_it
            (feed_one station octets history (flow_at given are_two station in_it history rest at own.noted) own (all.ready station in_it))
            (λ one differs one_in apart. same_ready given one history after (same_facts given one history after (sees_other_feed given one station octets history apart))
            (other_feed given one station octets history apart) (all.ready one one_in));
        each = feed_seen station octets history all.each;
      }

  -- ---- an event that is of no call

  event_ready : (history : List Event) (event : Event) → ((station : ℕ) → SeesSame station history (history ++ event ∷ [])) → ((station : ℕ) → IsOutside station event)
      → IsSeenReady given history event → AreReady given history → AreReady given (history ++ event ∷ [])
  event_ready history event sees outside seen all = record {
    ready = λ station in_it. same_ready given station history (history ++ event ∷ []) (same_facts given station history (history ++ event ∷ []) (sees station))
        (outside_counts station (event ∷ []) history (outside station, tt)) (all.ready station in_it);
    each = each_event (IsSeenReady given) history event all.each seen;
  }

  -- ---- each step

  module _ (whole : IsHeardWhole) (Q : Place → List Event → Type 0) (known : AreKnown given Q) (few_links : HaveFewLinks given) (six : HaveAddresses given)
      (eight : (station : ℕ) → (setup_at given station).host_buffers ≡ 8) where
    record IsFlowAt (place : Place) (history : List Event) : Type 0 where
      is : IsDataAt given Q place history
      -- wherever the run begins with this history
      ready : (rest : List Event) → history_of (run_of given) ≡ history ++ rest → AreReady given history

    after_one : (history rest : List Event) (event : Event) → history_of (run_of given) ≡ (history ++ event ∷ []) ++ rest → history_of (run_of given) ≡ history ++ event ∷ rest
    after_one history rest event at = at ∙ append_assoc history (event ∷ []) rest

    called : (station : ℕ) (step : Step) (history rest : List Event) (place : Place) → is_in station given.stations ≡ true → IsInTurn step
        → history_of (run_of given) ≡ after_call given station step history ++ rest → IsFlowAt place history → AreReady given (after_call given station step history)
    called station step history rest place in_it turn at has =
        let events = Called station step ∷ map (Noted station) (notes_after (setup_at given station) (facts_at given station history) step) in
        call_ready station step history rest in_it turn at has.is.are (has.ready (events ++ rest) (at ∙ append_assoc history events rest))

    flow_kept : IsKept given IsFlowAt
    flow_kept = let kept = data_kept whole given Q known are_two few_links six distinct eight in record {
      on_turn = λ slot plan history begun at has.
          let event = TurnBegan slot (map plan.radio_of given.stations) in record {
            is = kept.on_turn slot plan history begun at has.is;
            ready = λ rest so_far. event_ready history event (λ station. sees_turn station history slot (map plan.radio_of given.stations)) (λ station. tt) tt
                (has.ready (event ∷ rest) (after_one history rest event so_far));
          };
      on_feed = λ plan done left station history are some now has.
          let octets = take (plan.feed_of station) (octets_left given station history) in
          let grown = feed_more station octets history in record {
            is = kept.on_feed plan done left station history are some now has.is;
            ready = λ rest so_far.
                let at : history_of (run_of given) ≡ history ++ (grown.more ++ rest) =
                so_far ∙ ap (λ (front : List Event). front ++ rest) grown.is ∙ append_assoc history grown.more rest in
                feed_ready station octets history (grown.more ++ rest) (among given.stations done left station are) at has.is.are (has.ready (grown.more ++ rest) at);
          };
      on_fed = λ history has. record { is = kept.on_fed history has.is; ready = has.ready };
      on_begin = λ slot plan done left station history are due has. record {
        is = kept.on_begin slot plan done left station history are due has.is;
        ready = λ rest so_far. called station (TurnBegins slot (plan.radio_of station)) history rest _ (among given.stations done left station are) tt so_far has;
      };
      on_begun = λ history has. record { is = kept.on_begun history has.is; ready = has.ready };
      on_phase = λ phases history many has. record { is = kept.on_phase phases history many has.is; ready = has.ready };
      on_silence = λ phases done left station history are none has. record { is = kept.on_silence phases done left station history are none has.is; ready = has.ready };
      on_packet = λ phases plan done left station channel octets history are some due has.
          let hearings = hearings_of given plan.fates station channel octets history in
          let event = Transmitted station channel octets hearings in record {
            is = kept.on_packet phases plan done left station channel octets history are some due has.is;
            ready = λ rest so_far. event_ready history event (λ one. sees_packet one history station channel octets hearings) (λ one. tt) tt
                (has.ready (event ∷ rest) (after_one history rest event so_far));
          };
      on_air = λ phases history has. record { is = kept.on_air phases history has.is; ready = has.ready };
      on_hearing = λ phases done left station history are some has. record {
        is = kept.on_hearing phases done left station history are some has.is;
        ready = λ rest so_far. called station (step_of (packet_received station history)) history rest _ (among given.stations done left station are)
            (pass_in_turn (packet_received station history)) so_far has;
      };
      on_heard = λ phases history has. record { is = kept.on_heard phases history has.is; ready = has.ready };
      on_phases = λ history has. record { is = kept.on_phases history has.is; ready = has.ready };
      on_end = λ done left station history are some has. record {
        is = kept.on_end done left station history are some has.is;
        ready = λ rest so_far. called station TurnEnds history rest _ (among given.stations done left station are) tt so_far has;
      };
      on_ended = λ history has. record { is = kept.on_ended history has.is; ready = has.ready };
    }

    first_ready : AreReady given []
    unfolding facts_of held_on journal_of
    first_ready = record {
      ready = λ station in_it. record {
        counted = λ handle n is. absurd (let h : None ≡ Some n = sym (bare_first handle) ∙ is in absurd cc);
        fits = tt;
      };
      each = tt;
    }

    -- at each call of a turn
    pub run_ready : IsDataAt given Q NoTurn [] → Each (IsSeenReady given) [] (history_of (run_of given))
    run_ready first =
        ends_with (run_of given) (IsWhole given IsFlowAt) (IsStopped given IsFlowAt)
        (λ history. history_of (run_of given) ≡ history ++ [] → Each (IsSeenReady given) [] history)
        (run_kept given IsFlowAt flow_kept (record { is = first; ready = λ rest at. first_ready }))
        (λ history wholly at. (wholly.is.ready [] at).each) (λ history stop stopped at. (stopped.kept.ready [] at).each)
        (sym (append-nil (history_of (run_of given))))

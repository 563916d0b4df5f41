-- Each step of a run of two stations keeps that each open end is, by the journal, as it is.
use Rattle.std.proofs.Common.{◌≡◌, ℕ, suc, ◌+◌, ◌-◌, ◌==◌, ◌&&◌, Bool, true, false, Option, Some, None, List, [], ◌∷◌, ◌++◌, inl, inr, length, replicate, refl, sym, ap, subst, ◌∙◌, append_assoc, arith}
use Rattle.std.specs.Prelude.{◌⊎◌, map, take, if◌then◌else◌}
use Rattle.std.proofs.lemmas.Bool.{eqb-true}
use Rattle.ble_base.specs.declared.roles.Role.{Role}
use Rattle.ble_base.specs.declared.roles.Role.TheVariants.{Central, Peripheral}
use Rattle.journal_ends.specs.Asked.{Words}
use Rattle.journal_ends.specs.GivenWords.{AreKept, GivesWords, GivesWordsIn, draws_in_call, words_next}
use Rattle.journal_ends.specs.controller_model.Facts.{Facts, Listens, Sends}
use Rattle.journal_ends.specs.controller_model.Packets.{verdict_of as verdict_at}
use Rattle.journal_ends.specs.controller_model.Side.{facts_after, facts_of, notes_after}
use Rattle.journal_ends.specs.controller_model.Step.{Step as Call, HostOctet, TurnBegins, TurnEnds}
use Rattle.host_masks.specs.Masks.{view_masks}
use Rattle.host_masks.proofs.LineMasks.{line_masks}
use Rattle.journal_ends.specs.journal_acks.link_calls.Uses.{listens_under}
use Rattle.journal_ends.specs.link_model.Facts.{keyed_of}
use Rattle.journal_ends.specs.link_model.Packets.{verdict_of}
use Rattle.journal_ends.specs.open_links.OpenLinks.{OpenLink, facts_in, link_at}
use Rattle.journal_ends.specs.run_model.Due.{Each}
use Rattle.journal_ends.specs.run_model.History.{Event, TurnBegan, HostFed, Called, Hearing, Noted, Transmitted, fates_used, handed_or, is_handed, packet_received, turns_begun}
use Rattle.journal_ends.specs.run_model.Journal.{journal_of, side_of}
use Rattle.journal_ends.specs.run_model.LinkEnds.{HaveAddresses}
use Rattle.journal_ends.specs.run_model.Readers.{station_of, turns_of}
use Rattle.journal_ends.specs.run_model.Run.{Given, after_call, after_feed, after_octets, facts_at, fate_at, hearings_of, history_of, octets_left, run_of, setup_at, step_of, unseen_in, use_at}
use Rattle.radio_replay.specs.Damage.{damaged_packet}
use Rattle.radio_replay.specs.declared.fates.Fate.{Fate}
use Rattle.journal_ends.proofs.EndsKnown.{AreLined, known_kept, lined_at}
use Rattle.journal_ends.proofs.GivenFronts.{feed_more, given_at, given_call, given_earlier, given_front, given_kept, given_octet}
use Rattle.journal_ends.proofs.KeptSeen.{AreFed as AreSeenFed, AreSeenAt, apart_from, begin_fed, first_fed, lined_next, lined_octet, octet_asks, octet_fed as seen_fed, octet_next, seen_first, seen_so_far}
use Rattle.journal_ends.proofs.SeenCalls.{IsSeenAt, held_at, moved as seen_moved, whole as seen_whole}
use Rattle.journal_ends.proofs.journal_acks.Counting.{facts_event, moved as count_moved}
use Rattle.journal_ends.proofs.journal_acks.Exchanging.{exchange_at, number_at, number_called, number_quiet, number_sent}
use Rattle.journal_ends.proofs.journal_acks.HandedOn.{judged_link}
use Rattle.journal_ends.proofs.journal_acks.KeptCounts.{unsent}
use Rattle.journal_ends.proofs.journal_acks.KeptLines.{AreLinedAt, lines_kept}
use Rattle.journal_ends.proofs.journal_acks.Known.{known_of}
use Rattle.journal_ends.proofs.journal_acks.LinkPackets.{lines_first}
use Rattle.journal_ends.proofs.journal_acks.Standing.{PhasedBy, listens_wanted, phased_at, sender_role}
use Rattle.journal_ends.proofs.journal_acks.TwoStations.{IsOfTwo, hearing_of, one_hearing, other_is, other_of, own_differs, reached}
use Rattle.journal_ends.proofs.journal_acks.link_calls.CallNotes.{OpensNone, begin_noted, end_noted, opening_none}
use Rattle.journal_ends.proofs.journal_links.OfTwo.{are_distinct, of_two_stations}
use Rattle.journal_ends.proofs.journal_packets.AccessOrder.{AreNth}
use Rattle.journal_ends.proofs.journal_packets.SoFar.{IsBelongingSoFar}
use Rattle.journal_ends.proofs.link_model.Hearing.{IsHeardWhole}
use Rattle.journal_ends.proofs.run_laws.ByCalls.{last_turn}
use Rattle.journal_ends.proofs.run_laws.DistinctAccess.{AreApart}
use Rattle.journal_ends.proofs.run_laws.LinkPhases.{begins_in}
use Rattle.journal_ends.proofs.run_laws.OpenSteps.{none_open, open_has}
use Rattle.journal_ends.proofs.run_laws.TurnPlaces.{Within, at_stage}
use Rattle.journal_ends.proofs.run_model.Fates.{turns_are}
use Rattle.journal_ends.proofs.run_model.Fronts.{front_at}
use Rattle.journal_ends.proofs.run_model.LinkEnds.{AreTaken, IsUnderstood, received_by, received_event, wanted_is}
use Rattle.journal_ends.proofs.run_model.Places.{each_called, each_event}
use Rattle.journal_ends.proofs.run_model.Stations.{among, is_in, not_before}
use Rattle.journal_ends.proofs.run_model.Walk.{AtBegins, AtEnds, AtFeeds, AtListening, AtPackets, IsKept, NoTurn, Place}
use Rattle.journal_controls.specs.Hearing.{keyed_next}
use Rattle.journal_controls.specs.Withheld.{withheld_by}
use Rattle.journal_controls.proofs.AskedControls.{call_asks, end_asked}
use Rattle.journal_controls.proofs.ControlPackets.{packet_moves}
use Rattle.journal_controls.proofs.ControlledEnds.{AreControlledSo, IsControlledAt, controlled_call, controlled_event, asked_own, controlled_same, moved, moved_own, taking_next, whole}
use Rattle.journal_controls.proofs.EventMoves.{drawn_at, feed_still, keyed_at, turn_at, turn_still, withholds_at}
use Rattle.journal_controls.proofs.FixedEnds.{fixed_in}
use Rattle.journal_controls.proofs.LinkMoves.{MovesTo, begin_moves, end_moves}
use Rattle.journal_controls.proofs.NewLinks.{of_turn}
use Rattle.journal_controls.proofs.PassedControls.{no_octet, passes_own}

-- ---- what is kept

-- each open end of a station is as it is
abbrev pub AreControlledOf : Words → Given → List Event → ℕ → Type 0
AreControlledOf words given history station =
    is_in station given.stations ≡ true → (handle : ℕ) (link : OpenLink) → link_at handle (facts_at given station history).links ≡ Some link
    → keyed_at words (number_at station handle history) (side_of station) history ≡ Some (keyed_of (facts_in link))

-- so are those of all stations
abbrev pub AreControlled : Words → Given → List Event → Type 0
AreControlled words given history = (station : ℕ) → AreControlledOf words given history station

-- before a call, it is that as the packet of the call has reached the end
abbrev pub IsControlledBefore : Words → Given → List Event → ℕ → Call → Type 0
IsControlledBefore words given before station step =
    is_in station given.stations ≡ true → (handle : ℕ) (link : OpenLink) → link_at handle (facts_at given station before).links ≡ Some link
    → keyed_at words (number_at station handle before) (side_of station) before ≡ Some (keyed_next handle (facts_at given station before) step link)

abbrev pub ControlBefore : Words → Given → List Event → Event → Type 0
ControlBefore words given before (TurnBegan slot radios) = AreControlled words given before
ControlBefore words given before (Called station step) = IsControlledBefore words given before station step
ControlBefore words given before (HostFed station octets) = Unit {0}
ControlBefore words given before (Noted station note) = Unit {0}
ControlBefore words given before (Transmitted station channel octets hearings) = AreControlled words given before

pub record AreControlledAt (words : Words) (given : Given) (place : Place) (history : List Event) : Type 0 where
  pub seen : AreSeenAt words given place history
  pub lined : AreLinedAt given (IsBelongingSoFar given) place history
  pub control : AreControlledSo words given history (λ station. packet_received station history)
  pub each : Each (ControlBefore words given) [] history

-- where a station received nothing, all its ends are as they were
whole_at : (words : Words) (given : Given) (history : List Event) (received : ℕ → Option (List ℕ)) (station handle : ℕ) (link : OpenLink) → is_in station given.stations ≡ true
    → link_at handle (facts_at given station history).links ≡ Some link → (listens_under handle (facts_at given station history).turn.doing ≡ true → received station ≡ None)
    → AreControlledSo words given history received → keyed_at words (number_at station handle history) (side_of station) history ≡ Some (keyed_of (facts_in link))
whole_at words given history received station handle link in_it at none are =
    whole words (received station) handle (facts_at given station history).turn link (number_at station handle history) (side_of station) history none (are station handle link in_it at)

pub all_whole : (words : Words) (given : Given) (history : List Event) → ((station : ℕ) → is_in station given.stations ≡ true → packet_received station history ≡ None)
    → AreControlledSo words given history (λ station. packet_received station history) → AreControlled words given history
all_whole words given history none are = λ station in_it handle link at.
    whole_at words given history (λ one. packet_received one history) station handle link in_it at (λ on. none station in_it) are

-- a call in which nothing is heard
whole_before : (words : Words) (given : Given) (history : List Event) (received : ℕ → Option (List ℕ)) (station : ℕ) (step : Call)
    → ((handle : ℕ) (facts : Facts) (link : OpenLink) → keyed_next handle facts step link ≡ keyed_of (facts_in link)) → received station ≡ None
    → AreControlledSo words given history received → IsControlledBefore words given history station step
whole_before words given history received station step deaf none are = λ in_it handle link at.
    whole_at words given history received station handle link in_it at (λ on. none) are ∙ ap Some (sym (deaf handle (facts_at given station history) link))

-- a call, and all that is noted in it
call_each : (words : Words) (given : Given) (station : ℕ) (step : Call) (history : List Event) → Each (ControlBefore words given) [] history → IsControlledBefore words given history station step
    → Each (ControlBefore words given) [] (after_call given station step history)
call_each words given station step history each is =
    each_called (ControlBefore words given) station step (notes_after (setup_at given station) (facts_at given station history) step) history each is (λ before note. tt)

-- ---- small steps

pub there_and_back : (station : ℕ) → (station ≡ 0) ⊎ (station ≡ 1) → station_of (side_of station) ≡ station
there_and_back station (inl is) = ap (λ n. station_of (side_of n)) is ∙ sym is
there_and_back station (inr is) = ap (λ n. station_of (side_of n)) is ∙ sym is

first_sender : (phases : ℕ) (role : Role) → phases ≡ 0 → ((phases ≡ 0) × (role ≡ Central)) ⊎ ((phases ≡ 1) × (role ≡ Peripheral)) → role ≡ Central
first_sender phases role first (inl central) = central.1
first_sender phases role first (inr later) = absurd (let same = later.0 in omega (arith, first, same))

pub turn_is : (history : List Event) (slot : ℕ) → turns_begun history ≡ slot + 1 → turn_at history ≡ slot
turn_is history slot is = last_turn (length (turns_of (journal_of history))) slot (turns_are history ∙ is)

abbrev NoneReceived : ℕ → Option (List ℕ)
NoneReceived station = None

-- before a packet, no end has one to take
pub none_before : (words : Words) (given : Given) → IsOfTwo given → (phases : ℕ) (done left : List ℕ) (station channel : ℕ) (octets : List ℕ) (history : List Event) → given.stations ≡ done ++ station ∷ left
    → use_at given station history ≡ Sends channel octets → AreSeenAt words given (AtPackets phases done (station ∷ left)) history
    → (one handle : ℕ) (link : OpenLink) → is_in one given.stations ≡ true → link_at handle (facts_at given one history).links ≡ Some link
    → listens_under handle (facts_at given one history).turn.doing ≡ true → packet_received one history ≡ None
none_before words given are_two phases done left station channel octets history are wanted has = λ one handle link in_one at on. by one handle link in_one at on (one == station) refl
  where
    by : (one handle : ℕ) (link : OpenLink) → is_in one given.stations ≡ true → link_at handle (facts_at given one history).links ≡ Some link
        → listens_under handle (facts_at given one history).turn.doing ≡ true → (same : Bool) → (one == station) ≡ same → packet_received one history ≡ None
    by one handle link in_one at on true same =
        let place = AtPackets phases done (station ∷ left) in
        let facts = facts_at given one history in
        let listens = (phased_at given place history has.holds.hearing.stand one in_one).uses.in_turn.listens in
        let sends = ap (λ n. use_at given n history) (eqb-true one station same) ∙ wanted in
        absurd (let h : Sends channel octets ≡ Listens (facts_in link).event.channel =
        sym sends ∙ sym (wanted_is given one history) ∙ listens_wanted facts handle link facts.turn.doing on listens at in absurd cc)
    by one handle link in_one at on false differs =
        has.silent one station in_one (among given.stations done left station are) differs (not_before given.stations done left station (are_distinct given are_two) are)

module _ (words : Words) (heard_whole : IsHeardWhole) (understood : IsUnderstood) (taken : AreTaken) (nth : AreNth) (apart : AreApart) (given : Given) (are_two : IsOfTwo given)
    (six : HaveAddresses given) where
  -- ---- what a host sends

  -- while a station is fed
  record AreFed (station begun : ℕ) (history : List Event) : Type 0 where
    control : AreControlledSo words given history NoneReceived
    each : Each (ControlBefore words given) [] history
    seen : AreSeenFed words understood taken nth apart given are_two six station begun history

  octet_fed : (station octet begun : ℕ) (history rest : List Event) → is_in station given.stations ≡ true
      → history_of (run_of given) ≡ history ++ Called station (HostOctet octet) ∷ rest
      → AreKept words → drawn_at words (side_of station) history ≡ words_next (setup_at given station) (facts_at given station history) → AreLined given history → AreLined given (after_call given station (HostOctet octet) history)
      → AreFed station begun history → AreFed station begun (after_call given station (HostOctet octet) history)
  octet_fed station octet begun history rest in_it at kept words_are lined lined_after fed =
      let step = HostOctet octet in record {
        control = controlled_call words given station step history NoneReceived NoneReceived kept (apart_from words understood taken nth apart given are_two six station in_it) lined lined_after (λ handle link held.
            let number = number_at station handle history in
            let asks = octet_asks words understood taken nth apart given are_two six station octet begun history rest in_it at words_are lined lined_after fed.seen handle link held in
            asked_own words given station step history in_it lined lined_after handle link held None refl asks.number asks.base asks.was
            (call_asks words given (side_of station) number station step history asks.is.asked (keyed_of (facts_in asks.base)) asks.lines asks.answers
            (whole_at words given history NoneReceived station handle asks.base in_it asks.was (λ on. refl) fed.control)
            ∙ ap Some (end_asked asks.base link asks.is.asked asks.is.by_host asks.is.keyed_is)))
            (λ other is_too differs. refl) fed.control;
        each = call_each words given station step history fed.each (whole_before words given history NoneReceived station step (λ handle held link. refl) refl fed.control);
        seen = seen_fed words understood taken nth apart given are_two six station octet begun history rest in_it at words_are lined lined_after fed.seen;
      }

  octets_fed : (station : ℕ) (octets : List ℕ) (begun : ℕ) (history rest : List Event) → is_in station given.stations ≡ true
      → history_of (run_of given) ≡ after_octets given station octets history ++ rest → GivesWordsIn given words (after_octets given station octets history)
      → AreLined given (after_octets given station octets history)
      → AreFed station begun history → AreFed station begun (after_octets given station octets history)
  octets_fed station [] begun history rest in_it is gives lined fed = fed
  octets_fed station (octet ∷ octets) begun history rest in_it is gives lined fed =
      let next = after_call given station (HostOctet octet) history in
      let now = octet_next given station octet octets history rest is in
      octets_fed station octets begun next rest in_it is gives lined
      (octet_fed station octet begun history now.rest in_it now.at gives.kept (given_octet words given station octet octets history gives)
      (lined_octet words understood taken nth apart given are_two six station octet octets history rest is)
      (lined_next words understood taken nth apart given are_two six station octets next rest is lined) fed)

  feed_fed : (station : ℕ) (octets : List ℕ) (begun : ℕ) (history rest : List Event) → is_in station given.stations ≡ true
      → history_of (run_of given) ≡ after_feed given station octets history ++ rest → GivesWordsIn given words (after_feed given station octets history)
      → AreLined given history → AreLined given (after_feed given station octets history)
      → AreFed station begun history → AreFed station begun (after_feed given station octets history)
  feed_fed station [] begun history rest in_it is gives lined lined_after fed = fed
  feed_fed station (octet ∷ octets) begun history rest in_it is gives lined lined_after fed =
      let event = HostFed station (octet ∷ octets) in
      octets_fed station (octet ∷ octets) begun (history ++ event ∷ []) rest in_it is gives lined_after (record {
        control = controlled_event words given history event NoneReceived (λ one. refl) (λ number side. feed_still words number side history station (octet ∷ octets))
            (λ one handle. number_quiet one handle history event (λ links. refl)) fed.control;
        each = each_event (ControlBefore words given) history event fed.each tt;
        seen = begin_fed words understood taken nth apart given are_two six station octet octets begun history rest is lined fed.seen;
      })

  -- ---- a packet

  pub packet_whole : (phases : ℕ) (done left : List ℕ) (station channel : ℕ) (octets : List ℕ) (history : List Event) → given.stations ≡ done ++ station ∷ left
      → use_at given station history ≡ Sends channel octets → AreControlledAt words given (AtPackets phases done (station ∷ left)) history → AreControlled words given history
  packet_whole phases done left station channel octets history are wanted has = λ one in_one handle link at.
      whole_at words given history (λ each. packet_received each history) one handle link in_one at
      (none_before words given are_two phases done left station channel octets history are wanted has.seen one handle link in_one at) has.control

  module _ (phases : ℕ) (done left : List ℕ) (station channel : ℕ) (octets : List ℕ) (fates : List Fate) (history : List Event) (stations_are : given.stations ≡ done ++ station ∷ left)
      (wanted : use_at given station history ≡ Sends channel octets)
      (unseen : unseen_in octets (hearings_of given fates station channel octets history) ≡ None) (has : AreControlledAt words given (AtPackets phases done (station ∷ left)) history) where
    abbrev place_after : Place
    place_after = AtPackets phases (done ++ station ∷ []) left

    abbrev hearing : Hearing
    hearing = hearing_of given fates station channel octets history

    abbrev hearings : List Hearing
    hearings = hearings_of given fates station channel octets history

    abbrev after : List Event
    after = history ++ Transmitted station channel octets hearings ∷ []

    aired_is : after ≡ history ++ Transmitted station channel octets (hearing ∷ []) ∷ []
    aired_is = ap (λ xs. history ++ Transmitted station channel octets xs ∷ []) (one_hearing given are_two fates station channel octets history (among given.stations done left station stations_are))

    -- a packet that an end is to take is good or forged
    heard_handed : (one handle : ℕ) (link : OpenLink) (got : List ℕ) → is_in one given.stations ≡ true → link_at handle (facts_at given one history).links ≡ Some link
        → listens_under handle (facts_at given one history).turn.doing ≡ true → packet_received one after ≡ Some got
        → is_handed (verdict_of link.setup (facts_in link) got) ≡ true
    heard_handed one handle link got in_one at on some = by (one == station) refl
      where
        in_it : is_in station given.stations ≡ true
        in_it = among given.stations done left station stations_are

        none : packet_received one history ≡ None
        none = none_before words given are_two phases done left station channel octets history stations_are wanted has.seen one handle link in_one at on

        left_of : List ℕ
        left_of = damaged_packet hearing.fate octets

        aired_so : packet_received one after ≡ handed_or None one octets (hearing ∷ [])
        aired_so =
            received_event one history (Transmitted station channel octets hearings)
            ∙ (λ i. handed_or (none i) one octets (one_hearing given are_two fates station channel octets history in_it i))

        -- it is handed what the radio left
        picked : (same handed : Bool) → (if same && handed then Some (damaged_packet hearing.fate octets) else None) ≡ Some got
            → (same ≡ true) × ((handed ≡ true) × (damaged_packet hearing.fate octets ≡ got))
        picked true true is = let same : damaged_packet hearing.fate octets ≡ got = cc in (refl, (refl, same))
        picked true false is = absurd cc
        picked false handed is = absurd cc

        by : (same : Bool) → (one == station) ≡ same → is_handed (verdict_of link.setup (facts_in link) got) ≡ true
        by true same =
            let off = ap (λ n. n == other_of station) (eqb-true one station same) ∙ own_differs station in
            let on_it = (picked (one == hearing.listener) (is_handed hearing.verdict) (sym aired_so ∙ some)).0 in
            absurd (let h : false ≡ true = sym off ∙ on_it in absurd cc)
        by false differs =
            let other = other_is given are_two station one in_it in_one differs in
            let is = (picked (one == hearing.listener) (is_handed hearing.verdict) (sym aired_so ∙ some)).1 in
            let fate = fate_at fates (fates_used history) in
            let judged = reached (use_at given (other_of station) history) fate channel (facts_at given (other_of station) history) left_of is.0 in
            ap (λ heard. is_handed (verdict_of link.setup (facts_in link) heard)) (sym is.1)
            ∙ ap is_handed (sym (judged_link (facts_at given one history) handle link left_of on at))
            ∙ ap (λ n. is_handed (verdict_at (facts_at given n history) left_of)) other
            ∙ ap is_handed (sym judged.verdict_is) ∙ is.0

    packet_controlled : AreSeenAt words given place_after after → AreLinedAt given (IsBelongingSoFar given) place_after after → AreControlledSo words given after (λ one. packet_received one after)
    packet_controlled seen lined = λ one handle link in_one at.
        let place = AtPackets phases done (station ∷ left) in
        let facts = facts_at given one history in
        let turn = facts.turn in
        let turn_after = (facts_at given one after).turn in
        let side = side_of one in
        let number = number_at one handle history in
        let numbers = number_sent one handle history station channel octets hearings in
        let same = facts_event given one history (Transmitted station channel octets hearings) refl in
        let turns = ap (λ (f : Facts). f.turn) same in
        let is_open = ap (λ (f : Facts). link_at handle f.links) (sym same) ∙ at in
        let none = none_before words given are_two phases done left station channel octets history stations_are wanted has.seen one handle link in_one is_open in
        let received = packet_received one history in
        let received_too = packet_received one after in
        let aired = history ++ Transmitted station channel octets (hearing ∷ []) ∷ [] in
        let front = front_at given place history has.seen.known.front in
        let moves = packet_moves words number side history station channel octets hearing received received_too handle turn link (unsent place one) (unsent place_after one) none
        (whole_at words given history (λ each. packet_received each history) one handle link in_one is_open none has.control)
        (λ got on some. heard_handed one handle link got in_one is_open on some)
        (seen_whole words received handle turn link number side history none (has.seen.seen one handle link in_one is_open))
        (subst (λ h. IsSeenAt words received_too handle turn link number side h) aired_is
        (seen_moved words handle link side after received_too received_too turn_after turn (number_at one handle after) number refl (sym turns) (sym numbers) (seen.seen one handle link in_one at)))
        (has.lined.counts.counted one handle link in_one is_open)
        (count_moved handle link (unsent place_after one) (unsent place_after one) received_too received_too turn_after turn
        (exchange_at (number_at one handle after) after side) (exchange_at number aired side) refl refl (sym turns) (sym (λ i. exchange_at (numbers i) (aired_is i) side))
        (lined.counts.counted one handle link in_one at))
        (has.lined.lines one handle link in_one is_open)
        (fixed_in given history front.rest one handle link (are_distinct given are_two) in_one front.at is_open).fixes in
        moved words handle link side after received_too received_too turn turn_after number (number_at one handle after) refl turns numbers
        (subst (λ h. IsControlledAt words received_too handle turn link number side h) (sym aired_is) moves)

  -- ---- each step

  -- where the words are given up to there
  pub controls_so_far : IsKept given (λ place history. GivesWordsIn given words history → AreControlledAt words given place history)
  controls_so_far =
      let distinct = are_distinct given are_two in
      let sees = seen_so_far words understood taken nth apart given are_two six in
      let lines = lines_kept heard_whole given (IsBelongingSoFar given) (known_of understood taken nth apart given are_two six) are_two six distinct in record {
        on_turn = λ slot plan history begun at had gives.
            let event = TurnBegan slot (map plan.radio_of given.stations) in
            let has = had (given_front words given history (event ∷ []) gives) in record {
              seen = sees.on_turn slot plan history begun at (λ so. has.seen) gives;
              lined = lines.on_turn slot plan history begun at has.lined;
              control = controlled_same words given (history ++ event ∷ []) (λ one. packet_received one history) (λ one. packet_received one (history ++ event ∷ []))
                  (λ one in_it. received_event one history event)
                  (controlled_event words given history event (λ one. packet_received one history) (λ one. refl)
                  (λ number side. turn_still words number side history slot (map plan.radio_of given.stations)) (λ one handle. number_quiet one handle history event (λ links. refl)) has.control);
              each = each_event (ControlBefore words given) history event has.each (all_whole words given history has.seen.holds.hearing.hears has.control);
            };
        on_feed = λ plan done left station history are some now had gives.
            let octets = take (plan.feed_of station) (octets_left given station history) in
            let after = after_feed given station octets history in
            let has = had (given_earlier words given history after (feed_more given station octets history) gives) in
            let place = AtFeeds (done ++ station ∷ []) left in
            let seen = sees.on_feed plan done left station history are some now (λ so. has.seen) gives in
            let front = front_at given place after seen.known.front in
            let in_it = among given.stations done left station are in
            let fed = feed_fed station octets (turns_begun history - 1) history front.rest in_it front.at gives
            (lined_at understood taken given are_two six (AtFeeds done (station ∷ left)) history has.seen.known)
            (lined_at understood taken given are_two six place after seen.known) (record {
              control = controlled_same words given history (λ one. packet_received one history) NoneReceived (λ one in_one. sym (has.seen.holds.hearing.hears one in_one)) has.control;
              each = has.each;
              seen = first_fed words understood taken nth apart given are_two six done left station history in_it has.seen;
            }) in record {
              seen = seen;
              lined = lines.on_feed plan done left station history are some now has.lined;
              control = controlled_same words given after NoneReceived (λ one. packet_received one after) (λ one in_one. seen.holds.hearing.hears one in_one) fed.control;
              each = fed.each;
            };
        on_fed = λ history had gives. let has = had gives in record { seen = sees.on_fed history (λ so. has.seen) gives; lined = lines.on_fed history has.lined; control = has.control; each = has.each };
        on_begin = λ slot plan done left station history are due had gives.
            let on = plan.radio_of station in
            let step = TurnBegins slot on in
            let has = had (given_call words given station step history gives) in
            let in_it = among given.stations done left station are in
            let setup = setup_at given station in
            let facts = facts_at given station history in
            let after = after_call given station step history in
            let seen = sees.on_begin slot plan done left station history are due (λ so. has.seen) gives in
            let lined = lined_at understood taken given are_two six (AtBegins done (station ∷ left)) history has.seen.known in
            let lined_after = lined_at understood taken given are_two six (AtBegins (done ++ station ∷ []) left) after seen.known in
            let none = has.seen.holds.hearing.hears station in_it in record {
              seen = seen;
              lined = lines.on_begin slot plan done left station history are due has.lined;
              control = controlled_call words given station step history (λ one. packet_received one history) (λ one. packet_received one after) gives.kept (apart_from words understood taken nth apart given are_two six station in_it) lined lined_after (λ handle link at.
                  let number = number_at station handle history in
                  let held = held_at words given station step history in_it lined lined_after handle link at in
                  let next = facts_after setup facts step in
                  let moves = begin_moves (side_of station) number (withholds_at (side_of station) history) (drawn_at words (side_of station) history) slot setup facts on handle link held
                  (λ sends. first_sender 0 link.setup.link.role refl (sender_role 0 next.links next.turn.doing handle link (begins_in setup slot on facts) sends held)) in
                  moved_own words given station step history in_it lined lined_after handle link at (packet_received station after) (seen.holds.hearing.hears station in_it)
                  (number_called given station step history handle (begin_noted (OpensNone handle) (opening_none handle) setup slot on facts)) moves.base moves.was gives.kept tt
                  (keyed_of (facts_in moves.base))
                  (subst (λ n. MovesTo (side_of station) number (withholds_at (side_of station) history) (drawn_at words (side_of station) history) n moves.base link (keyed_of (facts_in moves.base)))
                  (sym (turn_is history slot due.slot_is)) moves.is)
                  (whole_at words given history (λ one. packet_received one history) station handle moves.base in_it moves.was (λ listens. none) has.control))
                  (λ other is_too differs. received_by given other station step history false differs) has.control;
              each = call_each words given station step history has.each
                  (whole_before words given history (λ one. packet_received one history) station step (λ handle held link. refl) none has.control);
            };
        on_begun = λ history had gives. let has = had gives in record { seen = sees.on_begun history (λ so. has.seen) gives; lined = lines.on_begun history has.lined; control = has.control; each = has.each };
        on_phase = λ phases history few had gives. let has = had gives in record { seen = sees.on_phase phases history few (λ so. has.seen) gives; lined = lines.on_phase phases history few has.lined; control = has.control; each = has.each };
        on_silence = λ phases done left station history are none had gives. let has = had gives in record {
          seen = sees.on_silence phases done left station history are none (λ so. has.seen) gives;
          lined = lines.on_silence phases done left station history are none has.lined;
          control = has.control;
          each = has.each;
        };
        on_packet = λ phases plan done left station channel octets history are some due had gives.
            let has = had (given_front words given history (Transmitted station channel octets (hearings_of given plan.fates station channel octets history) ∷ []) gives) in
            let seen = sees.on_packet phases plan done left station channel octets history are some due (λ so. has.seen) gives in
            let lined = lines.on_packet phases plan done left station channel octets history are some due has.lined in record {
              seen = seen;
              lined = lined;
              control = packet_controlled phases done left station channel octets plan.fates history are due.is_wanted due.is_seen has seen lined;
              each = each_event (ControlBefore words given) history (Transmitted station channel octets (hearings_of given plan.fates station channel octets history)) has.each
                  (packet_whole phases done left station channel octets history are due.is_wanted has);
            };
        on_air = λ phases history had gives. let has = had gives in record { seen = sees.on_air phases history (λ so. has.seen) gives; lined = lines.on_air phases history has.lined; control = has.control; each = has.each };
        on_hearing = λ phases done left station history are some had gives.
            let received = packet_received station history in
            let step = step_of received in
            let has = had (given_call words given station step history gives) in
            let in_it = among given.stations done left station are in
            let after = after_call given station step history in
            let facts = facts_at given station history in
            let place = AtListening phases (done ++ station ∷ []) left in
            let seen = sees.on_hearing phases done left station history are some (λ so. has.seen) gives in
            let lined = lined_at understood taken given are_two six (AtListening phases done (station ∷ left)) history has.seen.known in
            let lined_after = lined_at understood taken given are_two six place after seen.known in
            let front = front_at given place after seen.known.front in
            let notes = map (Noted station) (notes_after (setup_at given station) facts step) in
            let phased =
            subst (λ b. PhasedBy given history station (if b then at_stage (Within (suc phases)) (turns_begun history) else at_stage (Within phases) (turns_begun history)))
            (not_before given.stations done left station distinct are)
            (phased_at given (AtListening phases done (station ∷ left)) history has.seen.holds.hearing.stand station in_it) in
            let called = front.at ∙ append_assoc history (Called station step ∷ notes) front.rest in
            let held = ap withheld_by (sym (ap (λ n. view_masks (facts_at given n history).view) (sym (there_and_back station (of_two_stations given are_two station in_it)))
            ∙ line_masks given are_two (side_of station) history (notes ++ front.rest) (Called station step) called (no_octet received))) in record {
              seen = seen;
              lined = lines.on_hearing phases done left station history are some has.lined;
              control = controlled_call words given station step history (λ one. packet_received one history) (λ one. packet_received one after) gives.kept (apart_from words understood taken nth apart given are_two six station in_it) lined lined_after
                  (passes_own words understood taken given are_two six station history phases place in_it phased lined lined_after seen.known seen.seen held
                  (turn_is history facts.turn.slot (sym phased.uses.in_turn.slot_is)) gives.kept
                  (λ octets some. given_at words given station step history (ap draws_in_call (ap step_of some)) gives)
                  (of_turn understood taken given are_two six phases (turns_begun history) done left station history (Called station step ∷ (notes ++ front.rest)) are called
                  has.seen.known.numbered.linked phased (has.seen.holds.so_far.last.each station in_it)) has.control)
                  (λ other is_too differs. received_by given other station step history false differs) has.control;
              each = call_each words given station step history has.each (λ in_one handle link at.
                  (has.control station handle link in_it at).keyed ∙ ap Some (taking_next handle facts received link));
            };
        on_heard = λ phases history had gives. let has = had gives in record { seen = sees.on_heard phases history (λ so. has.seen) gives; lined = lines.on_heard phases history has.lined; control = has.control; each = has.each };
        on_phases = λ history had gives. let has = had gives in record { seen = sees.on_phases history (λ so. has.seen) gives; lined = lines.on_phases history has.lined; control = has.control; each = has.each };
        on_end = λ done left station history are some had gives.
            let step = TurnEnds in
            let has = had (given_call words given station step history gives) in
            let in_it = among given.stations done left station are in
            let setup = setup_at given station in
            let facts = facts_at given station history in
            let after = after_call given station step history in
            let seen = sees.on_end done left station history are some (λ so. has.seen) gives in
            let lined = lined_at understood taken given are_two six (AtEnds done (station ∷ left)) history has.seen.known in
            let lined_after = lined_at understood taken given are_two six (AtEnds (done ++ station ∷ []) left) after seen.known in
            let none = has.seen.holds.hearing.hears station in_it in record {
              seen = seen;
              lined = lines.on_end done left station history are some has.lined;
              control = controlled_call words given station step history (λ one. packet_received one history) (λ one. packet_received one after) gives.kept (apart_from words understood taken nth apart given are_two six station in_it) lined lined_after (λ handle link at.
                  let moves = end_moves (side_of station) (number_at station handle history) (withholds_at (side_of station) history) (drawn_at words (side_of station) history) (turn_at history) setup facts handle link
                  (held_at words given station step history in_it lined lined_after handle link at) in
                  moved_own words given station step history in_it lined lined_after handle link at (packet_received station after) (seen.holds.hearing.hears station in_it)
                  (number_called given station step history handle (end_noted (OpensNone handle) (opening_none handle).starts.feeds setup facts)) moves.base moves.was gives.kept tt
                  (keyed_of (facts_in moves.base)) moves.is
                  (whole_at words given history (λ one. packet_received one history) station handle moves.base in_it moves.was (λ listens. none) has.control))
                  (λ other is_too differs. received_by given other station step history false differs) has.control;
              each = call_each words given station step history has.each
                  (whole_before words given history (λ one. packet_received one history) station step (λ handle held link. refl) none has.control);
            };
        on_ended = λ history had gives. let has = had gives in record { seen = sees.on_ended history (λ so. has.seen) gives; lined = lines.on_ended history has.lined; control = has.control; each = has.each };
      }

  -- where they are given in all of the run
  pub controls_kept : GivesWords given words → IsKept given (AreControlledAt words given)
  controls_kept gives =
      given_kept words given gives (AreControlledAt words given) (known_kept understood taken given are_two six) (λ place history has. has.seen.known) controls_so_far

-- as a run begins no link is open
none_controlled : (words : Words) (given : Given) → AreControlledSo words given [] (λ station. packet_received station [])
unfolding facts_of
none_controlled words given = λ station handle link in_it at.
    absurd (open_has (λ one. ⊥) 0 handle (replicate (setup_at given station).links None) link (none_open (λ one. ⊥) (setup_at given station).links) at)

pub controls_first : (words : Words) (given : Given) → AreControlledAt words given NoTurn []
controls_first words given = record { seen = seen_first words given; lined = lines_first given; control = none_controlled words given; each = tt }

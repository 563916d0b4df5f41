-- What a station of two is called with on a link, and what is forged to that link, has a line of a packet of the other side.
use Rattle.std.proofs.Common.{◌≡◌, ℕ, ◌==◌, ◌&&◌, Bool, true, false, Option, Some, None, List, [], ◌∷◌, ◌++◌, append_assoc, map, take, refl, sym, ap, subst, ◌∙◌, if◌then◌else◌}
use Rattle.std.specs.Prelude.{⊤}
use Rattle.std.proofs.lemmas.Bool.{eqb-true}
use Rattle.ble_base.specs.Side.{other_side}
use Rattle.ble_base.specs.declared.roles.Side.{Side}
use Rattle.ble_base.specs.declared.verdicts.Verdict.TheVariants.{Forged}
use Rattle.adv_pdu.specs.declared.pdu.ConnectFields.{ConnectFields}
use Rattle.air_frame.specs.Packet.{access_octets}
use Rattle.journal_outcomes.specs.controller_model.Facts.{Facts, Sends}
use Rattle.journal_outcomes.specs.controller_model.Side.{notes_after}
use Rattle.journal_outcomes.specs.controller_model.Step.{HostOctet, NothingHeard, PacketHeard, Step, TurnBegins, TurnEnds}
use Rattle.journal.specs.declared.entries.Entry.{Entry}
use Rattle.journal.specs.declared.entries.Entry.TheVariants.{Air}
use Rattle.journal_outcomes.specs.link_calls.Uses.{listens_under}
use Rattle.journal_outcomes.specs.link_calls.link_model.Packets.{verdict_of}
use Rattle.journal_outcomes.specs.link_calls.open_links.OpenLinks.{OpenLink, facts_in, link_at}
use Rattle.journal_outcomes.specs.link_calls.run_model.Feeding.{AreDistinct}
use Rattle.journal_outcomes.specs.link_calls.run_model.History.{Called, Event, Hearing, Noted, Transmitted, TurnBegan, handed_or, is_handed, packet_received}
use Rattle.journal_outcomes.specs.link_calls.run_model.Journal.{air_entries, journal_of, mark_of, side_of}
use Rattle.journal_outcomes.specs.link_calls.run_model.LinkEnds.{HaveAddresses}
use Rattle.journal_outcomes.specs.link_calls.run_model.Links.{is_advertising}
use Rattle.journal_outcomes.specs.link_calls.run_model.Run.{Given, after_call, after_feed, facts_at, hearings_of, history_of, octets_left, run_of, setup_at, step_of, use_at}
use Rattle.journal_outcomes.proofs.link_calls.link_model.Hearing.{IsHeardWhole}
use Rattle.journal_outcomes.proofs.link_calls.run_laws.DistinctAccess.{AreApart}
use Rattle.journal_outcomes.proofs.link_calls.run_laws.Hearings.{other_facts}
use Rattle.journal_outcomes.proofs.link_calls.run_model.LinkEnds.{AreTaken, IsUnderstood, received_by, received_event, received_own, wanted_is}
use Rattle.journal_outcomes.proofs.link_calls.run_model.Parts.{journal_event, journal_more}
use Rattle.journal_outcomes.proofs.link_calls.run_model.Places.{each_at}
use Rattle.journal_outcomes.proofs.link_calls.run_model.Stations.{among, is_in, not_before}
use Rattle.journal_outcomes.proofs.link_calls.run_model.Walk.{AtPackets, IsKept as IsKeptInRun, Place}
use Rattle.radio_replay.specs.Damage.{damaged_packet}
use Rattle.radio_replay.specs.declared.fates.Fate.{Fate}
use Rattle.journal_outcomes.specs.journal_collisions.journal_endings.journal_indications.journal_data.journal_links.Begun.{link_numbered}
use Rattle.journal_outcomes.proofs.journal_ends.ForgedLinks.{left_is}
use Rattle.journal_outcomes.proofs.journal_crossing.journal_collisions.journal_endings.journal_indications.journal_data.Mine.{other_back}
use Rattle.journal_outcomes.proofs.journal_crossing.journal_collisions.journal_endings.journal_indications.journal_data.journal_acks.AirCounts.{hears}
use Rattle.journal_outcomes.proofs.journal_crossing.journal_collisions.journal_endings.journal_indications.journal_data.journal_acks.Counting.{AreKnown, facts_event}
use Rattle.journal_outcomes.proofs.journal_crossing.journal_collisions.journal_endings.journal_indications.journal_data.journal_acks.EachCall.{HaveCalls, OfCall, run_calls}
use Rattle.journal_outcomes.proofs.journal_crossing.journal_collisions.journal_endings.journal_indications.journal_data.journal_acks.Exchanging.{number_at, number_other, number_sent}
use Rattle.journal_outcomes.proofs.journal_crossing.journal_collisions.journal_endings.journal_indications.journal_data.journal_acks.KeptCounts.{AreCountedAt, counts_kept}
use Rattle.journal_outcomes.proofs.journal_crossing.journal_collisions.journal_endings.journal_indications.journal_data.journal_acks.Known.{known_of}
use Rattle.journal_outcomes.proofs.journal_crossing.journal_collisions.journal_endings.journal_indications.journal_data.journal_acks.RunCounts.{counts_first}
use Rattle.journal_outcomes.proofs.journal_crossing.journal_collisions.journal_endings.journal_indications.journal_data.journal_acks.Standing.{one_listened, other_listens, phased_at}
use Rattle.journal_outcomes.proofs.journal_crossing.journal_collisions.journal_endings.journal_indications.journal_data.journal_acks.TwoStations.{IsOfTwo, handed_begins, hearing_of, one_hearing, other_is, other_of, reached, same_number, side_other}
use Rattle.journal_outcomes.proofs.journal_crossing.journal_collisions.journal_endings.journal_indications.journal_data.journal_links.OfTwo.{are_distinct}
use Rattle.journal_outcomes.proofs.journal_crossing.journal_collisions.journal_endings.journal_indications.journal_data.journal_packets.AccessOrder.{AreNth}
use Rattle.journal_outcomes.proofs.journal_crossing.journal_collisions.journal_endings.journal_indications.journal_data.journal_packets.SoFar.{IsBelongingSoFar}
use Rattle.journal_failures.specs.Failures.{IsForgedIn}

pub forged_more : (side : Side) (number : ℕ) (front more : List Entry) → IsForgedIn side number front → IsForgedIn side number (front ++ more)
forged_more side number front more is = record {
  before = is.before;
  channel = is.channel;
  octets = is.octets;
  fate = is.fate;
  after = is.after ++ more;
  is_at = ap (λ xs. xs ++ more) is.is_at ∙ append_assoc is.before (Air (other_side side) is.channel is.octets is.fate Forged ∷ is.after) more;
  link = is.link;
  is_link = is.is_link;
  of_link = is.of_link;
}

-- so it is among more events
pub forged_later : (side : Side) (number : ℕ) (history more : List Event) → IsForgedIn side number (journal_of history)
    → IsForgedIn side number (journal_of (history ++ more))
forged_later side number history more is =
    subst (IsForgedIn side number) (sym (journal_more history more)) (forged_more side number (journal_of history) _ is)

-- a station that is to take a packet on a link, which is forged to it
record IsTakingForged (given : Given) (station : ℕ) (history : List Event) (handle : ℕ) : Type 0 where
  octets : List ℕ
  received : packet_received station history ≡ Some octets
  link : OpenLink
  is_open : link_at handle (facts_at given station history).links ≡ Some link
  listens : listens_under handle (facts_at given station history).turn.doing ≡ true
  forged : verdict_of link.setup (facts_in link) octets ≡ Forged

abbrev AreForged : Given → List Event → Type 0
AreForged given history =
    (station : ℕ) → is_in station given.stations ≡ true → (handle : ℕ) → IsTakingForged given station history handle
    → IsForgedIn (side_of station) (number_at station handle history) (journal_of history)

none_forged : (given : Given) (history : List Event) → ((station : ℕ) → is_in station given.stations ≡ true → packet_received station history ≡ None)
    → AreForged given history
none_forged given history none = λ station is handle taking. absurd (let h : None ≡ Some taking.octets = sym (none station is) ∙ taking.received in absurd cc)

-- ---- a packet is on the air

module _ (whole : IsHeardWhole) (given : Given) (Q : Place → List Event → Type 0) (known : AreKnown given Q) (are_two : IsOfTwo given) (six : HaveAddresses given)
    (distinct : AreDistinct given.stations) (phases : ℕ) (done left : List ℕ) (station channel : ℕ) (octets : List ℕ) (fates : List Fate) (history : List Event)
    (are : given.stations ≡ done ++ station ∷ left) (wanted : use_at given station history ≡ Sends channel octets)
    (counts : AreCountedAt given Q (AtPackets phases done (station ∷ left)) history)
    (silent : (one : ℕ) → is_in one given.stations ≡ true → (one == station) ≡ false → packet_received one history ≡ None) where
  abbrev hearings : List Hearing
  hearings = hearings_of given fates station channel octets history

  abbrev hearing : Hearing
  hearing = hearing_of given fates station channel octets history

  abbrev event : Event
  event = Transmitted station channel octets hearings

  abbrev next : List Event
  next = history ++ event ∷ []

  abbrev other : ℕ
  other = other_of station

  abbrev facts : Facts
  facts = facts_at given other history

  abbrev left_of_it : List ℕ
  left_of_it = damaged_packet hearing.fate octets

  facts_same : (one : ℕ) → facts_at given one next ≡ facts_at given one history
  facts_same one = facts_event given one history event refl

  is : is_in station given.stations ≡ true
  is = among given.stations done left station are

  has_one : hearings ≡ hearing ∷ []
  has_one = one_hearing given are_two fates station channel octets history is

  given_it : packet_received other next ≡ (if is_handed hearing.verdict then Some left_of_it else packet_received other history)
  given_it =
      received_event other history event ∙ ap (handed_or (packet_received other history) other octets) has_one
      ∙ ap (λ b. if b && is_handed hearing.verdict then Some left_of_it else packet_received other history) (same_number other)

  module _ (is_too : is_in other given.stations ≡ true) (differs : (other == station) ≡ false) (handle : ℕ) (taking : IsTakingForged given other next handle) where
    open_is : link_at handle facts.links ≡ Some taking.link
    open_is = ap (λ (f : Facts). link_at handle f.links) (sym (facts_same other)) ∙ taking.is_open

    listens_is : listens_under handle facts.turn.doing ≡ true
    listens_is = ap (λ (f : Facts). listens_under handle f.turn.doing) (sym (facts_same other)) ∙ taking.listens

    module _ (handed : is_handed hearing.verdict ≡ true) where
      octets_are : left_of_it ≡ taking.octets
      octets_are =
          let same : Some left_of_it ≡ Some taking.octets =
          sym (given_it ∙ ap (λ b. if b then Some left_of_it else packet_received other history) handed) ∙ taking.received in cc

      advertised : is_advertising channel ≡ true → listens_under handle facts.turn.doing ≡ false
      advertised on =
          other_listens facts handle channel taking.link
          (phased_at given (AtPackets phases done (station ∷ left)) history counts.holds.hearing.stand other is_too).uses.in_turn.listens open_is
          (wanted_is given other history ∙ (reached (use_at given other history) hearing.fate channel facts left_of_it handed).listens) on

      forged_line : is_advertising channel ≡ false → IsForgedIn (side_of other) (number_at other handle next) (journal_of next)
      forged_line off =
          let on = hears whole given Q known are_two six distinct phases done left station channel octets fates history are wanted counts.known counts.holds
          counts.counted off is_too differs silent handed in
          let one = one_listened facts.links facts.turn.doing handle on.handle taking.link on.link listens_is on.on open_is on.is_open in
          let begun = known.begun (AtPackets phases done (station ∷ left)) history counts.known other handle taking.link is_too open_is in
          let judged : hearing.verdict ≡ verdict_of taking.link.setup (facts_in taking.link) left_of_it =
          on.verdict_is ∙ ap (λ (l : OpenLink). verdict_of l.setup (facts_in l) left_of_it) (sym one.links) in
          let forged : hearing.verdict ≡ Forged = judged ∙ ap (verdict_of taking.link.setup (facts_in taking.link)) octets_are ∙ taking.forged in
          let sides : side_of station ≡ other_side (side_of other) = ap side_of (sym (other_back given are_two station is)) ∙ side_other other in record {
            before = journal_of history;
            channel = channel;
            octets = octets;
            fate = mark_of hearing.fate;
            after = [];
            is_at = journal_event history event ∙ ap (λ hs. journal_of history ++ air_entries (side_of station) channel octets hs) has_one
                ∙ (λ i. journal_of history ++ Air (sides i) channel octets (mark_of hearing.fate) (forged i) ∷ []);
            link = begun.link;
            is_link = ap (λ n. link_numbered n (journal_of history)) (number_sent other handle history station channel octets hearings) ∙ begun.is_link;
            of_link = ap (take 4) (left_is hearing.fate octets)
                ∙ handed_begins taking.link.setup (facts_in taking.link) left_of_it (ap is_handed (sym judged) ∙ handed)
                ∙ ap (λ (f : ConnectFields). access_octets f.access) (sym begun.fields);
          }

    by_channel : is_handed hearing.verdict ≡ true → (on : Bool) → is_advertising channel ≡ on
        → IsForgedIn (side_of other) (number_at other handle next) (journal_of next)
    by_channel handed true on = absurd (let h : true ≡ false = sym listens_is ∙ advertised handed on in absurd cc)
    by_channel handed false off = forged_line handed off

    by_handed : (handed : Bool) → is_handed hearing.verdict ≡ handed → IsForgedIn (side_of other) (number_at other handle next) (journal_of next)
    by_handed true handed = by_channel handed (is_advertising channel) refl
    by_handed false none =
        absurd (let h : None ≡ Some taking.octets =
        sym (given_it ∙ ap (λ b. if b then Some left_of_it else packet_received other history) none ∙ silent other is_too differs) ∙ taking.received in absurd cc)

  own_before : (handle : ℕ) → IsTakingForged given station next handle → IsTakingForged given station history handle
  own_before handle taking = record {
    octets = taking.octets;
    received = sym (received_own given fates station channel octets history) ∙ taking.received;
    link = taking.link;
    is_open = ap (λ (f : Facts). link_at handle f.links) (sym (facts_same station)) ∙ taking.is_open;
    listens = ap (λ (f : Facts). listens_under handle f.turn.doing) (sym (facts_same station)) ∙ taking.listens;
    forged = taking.forged;
  }

  by_station : (one handle : ℕ) → is_in one given.stations ≡ true → (same : Bool) → (one == station) ≡ same → AreForged given history
      → IsTakingForged given one next handle → IsForgedIn (side_of one) (number_at one handle next) (journal_of next)
  by_station one handle in_it true same forged taking =
      let equal = eqb-true one station same in
      subst (λ n. IsForgedIn (side_of n) (number_at n handle next) (journal_of next)) (sym equal)
      (subst (λ n. IsForgedIn (side_of station) n (journal_of next)) (sym (number_sent station handle history station channel octets hearings))
      (forged_later (side_of station) (number_at station handle history) history (event ∷ [])
      (forged station is handle (own_before handle (subst (λ n. IsTakingForged given n next handle) equal taking)))))
  by_station one handle in_it false differs forged taking =
      let equal = other_is given are_two station one is in_it differs in
      subst (λ n. IsForgedIn (side_of n) (number_at n handle next) (journal_of next)) (sym equal)
      (by_handed (subst (λ n. is_in n given.stations ≡ true) equal in_it) (subst (λ n. (n == station) ≡ false) equal differs) handle
      (subst (λ n. IsTakingForged given n next handle) equal taking) (is_handed hearing.verdict) refl)

  packet_forged : AreForged given history → AreForged given next
  packet_forged forged = λ one in_it handle taking. by_station one handle in_it (one == station) refl forged taking

-- ---- a station hears

module _ (given : Given) (station : ℕ) (history : List Event) where
  abbrev after : List Event
  after = after_call given station (step_of (packet_received station history)) history

  hearing_by : (one handle : ℕ) → is_in one given.stations ≡ true → (same : Bool) → (one == station) ≡ same → AreForged given history
      → IsTakingForged given one after handle → IsForgedIn (side_of one) (number_at one handle after) (journal_of after)
  hearing_by one handle in_it true same forged taking =
      absurd (let h : None ≡ Some taking.octets =
      sym (received_by given one station (step_of (packet_received station history)) history true same) ∙ taking.received in absurd cc)
  hearing_by one handle in_it false differs forged taking =
      let step = step_of (packet_received station history) in
      let same : facts_at given one after ≡ facts_at given one history = other_facts given station step history one differs in
      subst (λ n. IsForgedIn (side_of one) n (journal_of after)) (sym (number_other given station step history one handle differs))
      (forged_later (side_of one) (number_at one handle history) history
      (Called station step ∷ map (Noted station) (notes_after (setup_at given station) (facts_at given station history) step))
      (forged one in_it handle (record {
        octets = taking.octets;
        received = sym (received_by given one station step history false differs) ∙ taking.received;
        link = taking.link;
        is_open = ap (λ (f : Facts). link_at handle f.links) (sym same) ∙ taking.is_open;
        listens = ap (λ (f : Facts). listens_under handle f.turn.doing) (sym same) ∙ taking.listens;
        forged = taking.forged;
      })))

  hearing_forged : AreForged given history → AreForged given after
  hearing_forged forged = λ one in_it handle taking. hearing_by one handle in_it (one == station) refl forged taking

-- ---- each step

record AreForgedAt (given : Given) (Q : Place → List Event → Type 0) (place : Place) (history : List Event) : Type 0 where
  counted : AreCountedAt given Q place history
  forged : AreForged given history

-- before a call with a packet
abbrev IsForgedBefore : Given → List Event → ℕ → Step → Type 0
IsForgedBefore given history station (PacketHeard octets) =
    (handle : ℕ) (link : OpenLink) → link_at handle (facts_at given station history).links ≡ Some link
    → listens_under handle (facts_at given station history).turn.doing ≡ true → verdict_of link.setup (facts_in link) octets ≡ Forged
    → IsForgedIn (side_of station) (number_at station handle history) (journal_of history)
IsForgedBefore given history station (HostOctet octet) = ⊤
IsForgedBefore given history station (TurnBegins slot on) = ⊤
IsForgedBefore given history station NothingHeard = ⊤
IsForgedBefore given history station TurnEnds = ⊤

module _ (whole : IsHeardWhole) (given : Given) (Q : Place → List Event → Type 0) (known : AreKnown given Q) (are_two : IsOfTwo given)
    (six : HaveAddresses given) (distinct : AreDistinct given.stations) where
  forged_kept : IsKeptInRun given (AreForgedAt given Q)
  forged_kept = let kept = counts_kept whole given Q known are_two six distinct in record {
    on_turn = λ slot plan history begun at has.
        let counted = kept.on_turn slot plan history begun at has.counted in record {
          counted = counted;
          forged = none_forged given (history ++ TurnBegan slot (map plan.radio_of given.stations) ∷ []) counted.holds.hearing.hears;
        };
    on_feed = λ plan done left station history are some now has.
        let counted = kept.on_feed plan done left station history are some now has.counted in record {
          counted = counted;
          forged = none_forged given (after_feed given station (take (plan.feed_of station) (octets_left given station history)) history) counted.holds.hearing.hears;
        };
    on_fed = λ history has. record { counted = kept.on_fed history has.counted; forged = has.forged };
    on_begin = λ slot plan done left station history are due has.
        let counted = kept.on_begin slot plan done left station history are due has.counted in record {
          counted = counted;
          forged = none_forged given (after_call given station (TurnBegins slot (plan.radio_of station)) history) counted.holds.hearing.hears;
        };
    on_begun = λ history has. record { counted = kept.on_begun history has.counted; forged = has.forged };
    on_phase = λ phases history few has. record { counted = kept.on_phase phases history few has.counted; forged = has.forged };
    on_silence = λ phases done left station history are none has.
        record { counted = kept.on_silence phases done left station history are none has.counted; forged = has.forged };
    on_packet = λ phases plan done left station channel octets history are some due has.
        let in_it = among given.stations done left station are in
        let out = not_before given.stations done left station distinct are in record {
          counted = kept.on_packet phases plan done left station channel octets history are some due has.counted;
          forged = packet_forged whole given Q known are_two six distinct phases done left station channel octets plan.fates history are due.is_wanted has.counted
              (λ other is_other differs. has.counted.silent other station is_other in_it differs out) has.forged;
        };
    on_air = λ phases history has. record { counted = kept.on_air phases history has.counted; forged = has.forged };
    on_hearing = λ phases done left station history are some has. record {
      counted = kept.on_hearing phases done left station history are some has.counted;
      forged = hearing_forged given station history has.forged;
    };
    on_heard = λ phases history has. record { counted = kept.on_heard phases history has.counted; forged = has.forged };
    on_phases = λ history has. record { counted = kept.on_phases history has.counted; forged = has.forged };
    on_end = λ done left station history are some has.
        let counted = kept.on_end done left station history are some has.counted in
        record { counted = counted; forged = none_forged given (after_call given station TurnEnds history) counted.holds.hearing.hears };
    on_ended = λ history has. record { counted = kept.on_ended history has.counted; forged = has.forged };
  }

  forged_passes : (station : ℕ) (history : List Event) → is_in station given.stations ≡ true → AreForged given history → (received : Option (List ℕ))
      → packet_received station history ≡ received → IsForgedBefore given history station (step_of received)
  forged_passes station history in_it forged None got = tt
  forged_passes station history in_it forged (Some octets) got = λ handle link is_open listens is.
      forged station in_it handle (record { octets = octets; received = got; link = link; is_open = is_open; listens = listens; forged = is })

  have_forged : HaveCalls given (IsForgedBefore given) (AreForgedAt given Q)
  have_forged = record {
    feeds = λ station octet history. tt;
    begins = λ plan slot done left station history are is next. tt;
    passes = λ phases done left station history are is next.
        forged_passes station history (among given.stations done left station are) is.forged (packet_received station history) refl;
    ends = λ done left station history are is. tt;
  }

pub forged_before : IsHeardWhole → IsUnderstood → AreTaken → AreNth → AreApart → (given : Given) → IsOfTwo given → HaveAddresses given
    → (before rest : List Event) (station : ℕ) (octets : List ℕ)
    → history_of (run_of given) ≡ before ++ Called station (PacketHeard octets) ∷ rest → (handle : ℕ) (link : OpenLink)
    → link_at handle (facts_at given station before).links ≡ Some link → listens_under handle (facts_at given station before).turn.doing ≡ true
    → verdict_of link.setup (facts_in link) octets ≡ Forged → IsForgedIn (side_of station) (number_at station handle before) (journal_of before)
forged_before whole understood taken nth apart given are_two six before rest station octets at =
    let Q = IsBelongingSoFar given in
    let distinct = are_distinct given are_two in
    let known = known_of understood taken nth apart given are_two six in
    each_at (OfCall given (IsForgedBefore given)) (history_of (run_of given)) before rest (Called station (PacketHeard octets))
    (run_calls given (IsForgedBefore given) (AreForgedAt given Q) (forged_kept whole given Q known are_two six distinct)
    (have_forged whole given Q known are_two six distinct)
    (record { counted = counts_first given; forged = none_forged given [] (counts_first given).holds.hearing.hears }))
    at

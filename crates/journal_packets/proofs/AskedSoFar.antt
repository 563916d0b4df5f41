-- In every run of two stations, a peripheral sends after a packet that asked it in the same turn, and a central sends
-- where none did.
use Rattle.std.proofs.Common.{◌≡◌, ℕ, zero, suc, ◌==◌, ◌⊎◌, ◌&&◌, ◌||◌, not, Bool, true, false, Some, None, List, [], ◌∷◌, ◌++◌, length, take, refl, sym, ap, subst, ◌∙◌}
use Rattle.std.specs.Prelude.{⊤, map}
use Rattle.std.proofs.lemmas.Bool.{eqb-true, or_left, or_right}
use Rattle.std.proofs.lemmas.Slice.Eq.{bytes_eq-Decides}
use Rattle.journal_links.specs.open_links.OpenLinks.{facts_in}
use Rattle.journal_links.specs.controller_model.declared.doing.Doing.{Doing}
use Rattle.journal_links.specs.controller_model.declared.doing.Doing.TheVariants.{PeripheralSends}
use Rattle.journal_links.specs.controller_model.Step.{Step, TurnBegins, TurnEnds}
use Rattle.journal_links.specs.controller_model.Facts.{Facts, Sends, Listens}
use Rattle.journal_links.specs.controller_model.Packets.{verdict_of}
use Rattle.journal_links.specs.controller_model.Side.{facts_after, facts_of, notes_after}
use Rattle.journal_links.proofs.controller_model.Always.{MayBegin}
use Rattle.journal_links.proofs.controller_model.DataChannels.{link_channel}
use Rattle.radio_replay.specs.declared.fates.Fate.{Fate}
use Rattle.journal_links.specs.run_model.Due.{Each}
use Rattle.journal_links.specs.run_model.History.{Event, TurnBegan, Transmitted, Hearing, has_received, past_of, packet_received}
use Rattle.journal_links.specs.run_model.LinkEnds.{HaveAddresses}
use Rattle.journal_links.specs.run_model.Links.{is_advertising}
use Rattle.journal_links.specs.run_model.Run.{Given, setup_at, facts_at, use_at, octets_left, after_call, after_feed, hearings_of, step_of, unseen_in}
use Rattle.journal_links.proofs.run_model.Calls.{past_other}
use Rattle.journal_links.proofs.run_model.Handing.{IsHanded, IsUnforged, WasForged, WasNot, WasReceived}
use Rattle.journal_links.proofs.run_model.LinkEnds.{IsUnderstood, is_listener, packet_handed, received_by, wanted_is}
use Rattle.journal_links.proofs.run_model.Places.{each_event}
use Rattle.journal_links.proofs.run_model.Stations.{is_in, among, in_more_other, in_more_same, not_before}
use Rattle.journal_links.proofs.run_model.Walk.{Place, NoTurn, AtFeeds, AtBegins, AfterPhases, AtPackets, AtListening, AtEnds, IsKept}
use Rattle.journal_links.proofs.run_laws.ByCalls.{at_turn, first_hears}
use Rattle.journal_links.proofs.run_laws.ChSel.{one_channel}
use Rattle.journal_links.proofs.run_laws.ConnectInds.{AreCounted, counted_kept, first_counts, no_advertising}
use Rattle.journal_links.proofs.run_laws.Hearings.{AreHearing, hearing_kept, own_facts, unforged_same, use_same}
use Rattle.journal_links.proofs.run_laws.TurnPlaces.{event_past, stands_first}
use Rattle.journal_links.proofs.run_laws.TurnSteps.{IsListening}
use Rattle.journal_links.proofs.OfTwo.{are_distinct, of_two_stations}
use Rattle.journal_packets.specs.Belonging.{have_one_access}
use Rattle.journal_packets.proofs.SentLinks.{IsOfTwo}
use Rattle.journal_packets.proofs.Asked.{asked_called, asked_feed, asked_packet, asked_turn, asks_in, is_asked, one_hearing}
use Rattle.journal_packets.proofs.EachEvent.{each_call, each_feed}
use Rattle.journal_packets.proofs.Replies.{IsLeft, Replies, Silent, is_to_send, phase_left, sending_at}

-- ---- at each place

abbrev pub IsUnasked : List Event → ℕ → Type 0
IsUnasked history station = (octets : List ℕ) → is_asked history station octets ≡ false

-- what a peripheral wants to send answers a packet
abbrev pub IsAnswering : Given → List Event → ℕ → Type 0
IsAnswering given history station =
    (handle channel : ℕ) (octets : List ℕ) → (facts_at given station history).turn.doing ≡ PeripheralSends handle → use_at given station history ≡ Sends channel octets
    → is_asked history station octets ≡ true

-- what it received on a data channel asks for what has the same access address
abbrev pub IsAskedBy : Given → List Event → ℕ → Type 0
IsAskedBy given history station =
    (heard : List ℕ) (channel : ℕ) → packet_received station history ≡ Some heard → IsUnforged (facts_at given station history) heard → use_at given station history ≡ Listens channel → is_advertising channel ≡ false
    → (octets : List ℕ) → have_one_access heard octets ≡ true → is_asked history station octets ≡ true

-- in the first phase nothing else does
abbrev pub OnlyAsked : ℕ → List Event → ℕ → Type 0
OnlyAsked zero history station = packet_received station history ≡ None → IsUnasked history station
OnlyAsked (suc phases) history station = ⊤

abbrev HeardIf : Bool → Given → List Event → ℕ → Type 0
HeardIf true given history station = IsAnswering given history station
HeardIf false given history station = IsAskedBy given history station

abbrev pub AskedAt : Given → Place → List Event → ℕ → Type 0
AskedAt given NoTurn history station = ⊤
AskedAt given (AtFeeds done left) history station = IsUnasked history station
AskedAt given (AtBegins done left) history station = IsUnasked history station
AskedAt given (AfterPhases zero) history station = IsUnasked history station
AskedAt given (AfterPhases (suc phases)) history station = IsAnswering given history station
AskedAt given (AtPackets phases done left) history station =
    IsAnswering given history station × IsAskedBy given history station × OnlyAsked phases history station
AskedAt given (AtListening phases done left) history station = HeardIf (is_in station done) given history station
AskedAt given (AtEnds done left) history station = ⊤

pub record AreAsked (given : Given) (place : Place) (history : List Event) : Type 0 where
  pub hearing : AreHearing given place history
  pub counted : AreCounted given place history
  pub sent : Each IsOfTwo [] history
  pub asked : (station : ℕ) → is_in station given.stations ≡ true → AskedAt given place history station

-- ---- two stations

-- ---- each packet is one of two stations, and is heard once

call_sent : (given : Given) (station : ℕ) (step : Step) (history : List Event) → Each IsOfTwo [] history → Each IsOfTwo [] (after_call given station step history)
call_sent given = each_call given IsOfTwo (λ before station step. tt) (λ station before note. tt) (λ before station octets. tt)

feed_sent : (given : Given) (station : ℕ) (octets : List ℕ) (history : List Event) → Each IsOfTwo [] history → Each IsOfTwo [] (after_feed given station octets history)
feed_sent given = each_feed given IsOfTwo (λ before station step. tt) (λ station before note. tt) (λ before station octets. tt)

-- ---- a packet

doing_same : (given : Given) (station : ℕ) (history after : List Event) → past_of station after ≡ past_of station history
    → (facts_at given station after).turn.doing ≡ (facts_at given station history).turn.doing
doing_same given station history after same = ap (λ past. (facts_of (setup_at given station) past).turn.doing) same

-- more is asked, and what a station wants stays
more_answering : (given : Given) (history after : List Event) (station : ℕ) → past_of station after ≡ past_of station history
    → ((octets : List ℕ) → is_asked history station octets ≡ true → is_asked after station octets ≡ true)
    → IsAnswering given history station → IsAnswering given after station
more_answering given history after station same more answering = λ handle channel octets doing wanted.
    more octets (answering handle channel octets (sym (doing_same given station history after same) ∙ doing) (sym (use_same given station history after same) ∙ wanted))

more_asked_by : (given : Given) (history after : List Event) (station : ℕ) → past_of station after ≡ past_of station history
    → packet_received station after ≡ packet_received station history
    → ((octets : List ℕ) → is_asked history station octets ≡ true → is_asked after station octets ≡ true)
    → IsAskedBy given history station → IsAskedBy given after station
more_asked_by given history after station same received more asked = λ heard channel is unforged listens on octets begins.
    more octets (asked heard channel (sym received ∙ is) (unforged_same given station history after heard same unforged) (sym (use_same given station history after same) ∙ listens) on octets begins)

module _ (given : Given) (are : given.stations ≡ 0 ∷ 1 ∷ []) (fates : List Fate) (sender channel : ℕ) (sent : List ℕ) (history : List Event) (one : (sender ≡ 0) ⊎ (sender ≡ 1))
    (seen : unseen_in sent (hearings_of given fates sender channel sent history) ≡ None) where
  abbrev hearings : List Hearing
  hearings = hearings_of given fates sender channel sent history

  abbrev event : Event
  event = Transmitted sender channel sent hearings

  abbrev next : List Event
  next = history ++ event ∷ []

  stays_asked : (station : ℕ) → (station ≡ 0) ⊎ (station ≡ 1) → (octets : List ℕ) → is_asked history station octets ≡ true → is_asked next station octets ≡ true
  stays_asked station is octets asked =
      asked_packet given are fates sender channel sent history station octets one is
      ∙ or_left (is_asked history station octets) (asks_in station channel sent hearings octets) asked

  packet_answering : (station : ℕ) → (station ≡ 0) ⊎ (station ≡ 1) → IsAnswering given history station → IsAnswering given next station
  packet_answering station is answering = more_answering given history next station (event_past station history event refl) (stays_asked station is) answering

  abbrev Handed : ℕ → Type 0
  Handed station =
      IsHanded (has_received station hearings) sent (packet_received station history) (packet_received station next) (facts_at given station history)
      (use_at given station history) channel (station == sender)

  handed : (station : ℕ) → Handed station
  handed station = packet_handed given fates sender channel sent history station seen

  packet_asked_by : (station : ℕ) → (station ≡ 0) ⊎ (station ≡ 1) → IsAskedBy given history station → IsAskedBy given next station
  packet_asked_by station is asked = by (handed station)
    where
      past : past_of station next ≡ past_of station history
      past = event_past station history event refl

      by : Handed station → IsAskedBy given next station
      by (WasReceived got as_sent) = λ heard on same unforged listens off octets begins.
          let listener = is_listener given fates channel sent history sender station got in
          let told : Some sent ≡ Some heard = sym as_sent ∙ same in
          let equal : sent ≡ heard = cc in
          let on_it = one_channel channel on (sym listener.listens ∙ sym (use_same given station history next past) ∙ listens) in
          asked_packet given are fates sender channel sent history station octets one is
          ∙ or_right (is_asked history station octets) (asks_in station channel sent hearings octets)
          (ap (λ b. b && (not (is_advertising channel) && have_one_access sent octets)) got
          ∙ ap (λ n. not (is_advertising n) && have_one_access sent octets) on_it
          ∙ ap (λ b. not b && have_one_access sent octets) off
          ∙ ap (λ xs. have_one_access xs octets) equal ∙ begins)
      by (WasForged left as_left forged listens_on differs) = λ heard on same unforged listens off octets begins.
          let told : Some left ≡ Some heard = sym as_left ∙ same in
          let equal : left ≡ heard = cc in
          absurd (unforged_same given station history next heard past unforged (ap (verdict_of (facts_at given station history)) (sym equal) ∙ forged))
      by (WasNot got as_before) = more_asked_by given history next station past as_before (stays_asked station is) asked

  packet_only : (station : ℕ) → (station ≡ 0) ⊎ (station ≡ 1) → (phases : ℕ) → OnlyAsked phases history station → OnlyAsked phases next station
  packet_only station is (suc phases) only = tt
  packet_only station is zero only = by (handed station)
    where
      by : Handed station → OnlyAsked zero next station
      by (WasReceived got as_sent) = λ none. absurd (let h : Some sent ≡ None = sym as_sent ∙ none in absurd cc)
      by (WasForged left as_left forged listens_on differs) = λ none. absurd (let h : Some left ≡ None = sym as_left ∙ none in absurd cc)
      by (WasNot got as_before) = λ none octets.
          asked_packet given are fates sender channel sent history station octets one is
          ∙ ap (λ b. is_asked history station octets || (b && (not (is_advertising channel) && have_one_access sent octets))) got
          ∙ ap (λ b. b || false) (only (sym as_before ∙ none) octets)

-- ---- a call

unasked_called : (given : Given) (station : ℕ) (step : Step) (history : List Event) (other : ℕ) → IsUnasked history other → IsUnasked (after_call given station step history) other
unasked_called given station step history other unasked = λ octets. asked_called given station step history other octets ∙ unasked octets

called_past : (given : Given) (station : ℕ) (step : Step) (history : List Event) (other : ℕ) → (other == station) ≡ false
    → past_of other (after_call given station step history) ≡ past_of other history
called_past given station step history other differs = past_other other station step (notes_after (setup_at given station) (facts_at given station history) step) history differs

heard_more : (given : Given) (station : ℕ) (step : Step) (history : List Event) (other : ℕ) → (other == station) ≡ false → (listened : Bool) → HeardIf listened given history other
    → HeardIf listened given (after_call given station step history) other
heard_more given station step history other differs true answering =
    more_answering given history (after_call given station step history) other (called_past given station step history other differs)
    (λ octets asked. asked_called given station step history other octets ∙ asked) answering
heard_more given station step history other differs false asked_by =
    more_asked_by given history (after_call given station step history) other (called_past given station step history other differs)
    (received_by given other station step history false differs) (λ octets asked. asked_called given station step history other octets ∙ asked) asked_by

silent_none : (doing : Doing) (handle : ℕ) (X : Type 0) → is_to_send doing ≡ false → doing ≡ PeripheralSends handle → X
silent_none doing handle X silent is = absurd (let h : true ≡ false = sym (ap is_to_send is) ∙ silent in absurd cc)

-- what it sends next has the access address of what it received
own_answers : (given : Given) (station : ℕ) (history : List Event) → IsListening (facts_at given station history) (facts_at given station history).turn.doing
    → IsAskedBy given history station → IsAnswering given (after_call given station (step_of (packet_received station history)) history) station
own_answers given station history listens asked_by = λ handle channel octets doing wanted.
    let facts = facts_at given station history in
    let received = packet_received station history in
    let after = after_call given station (step_of received) history in
    let own = own_facts given station (step_of received) history in
    by handle channel octets (phase_left (setup_at given station) facts received listens) (sym (ap (λ (f : Facts). f.turn.doing) own) ∙ doing)
    (sym (ap (λ (f : Facts). f.wanted) own) ∙ wanted_is given station after ∙ wanted)
  where
    by : (handle channel : ℕ) (octets : List ℕ)
        → IsLeft (facts_at given station history) (packet_received station history) (facts_after (setup_at given station) (facts_at given station history) (step_of (packet_received station history)))
        → (facts_after (setup_at given station) (facts_at given station history) (step_of (packet_received station history))).turn.doing ≡ PeripheralSends handle
        → (facts_after (setup_at given station) (facts_at given station history) (step_of (packet_received station history))).wanted ≡ Sends channel octets
        → is_asked (after_call given station (step_of (packet_received station history)) history) station octets ≡ true
    by handle channel octets (Silent silent) is wanted = silent_none _ handle _ silent is
    by handle channel octets (Replies reply) is wanted =
        asked_called given station (step_of (packet_received station history)) history station octets
        ∙ asked_by reply.octets (facts_in reply.link).event.channel reply.was reply.unforged (sym (wanted_is given station history) ∙ reply.listened)
        (no_advertising (facts_in reply.link).event.channel _ refl (link_channel reply.link)) octets
        ((bytes_eq-Decides (take 4 reply.octets) (take 4 octets)).1 (reply.begins ∙ sym (reply.answers channel octets wanted)))

hear_by : (given : Given) (done : List ℕ) (station : ℕ) (history : List Event) → is_in station done ≡ false
    → IsListening (facts_at given station history) (facts_at given station history).turn.doing → IsAskedBy given history station
    → (other : ℕ) (same : Bool) → (other == station) ≡ same → HeardIf (is_in other done) given history other
    → HeardIf (is_in other (done ++ station ∷ [])) given (after_call given station (step_of (packet_received station history)) history) other
hear_by given done station history out listens asked_by other true is heard =
    let after = after_call given station (step_of (packet_received station history)) history in
    subst (λ b. HeardIf b given after other) (sym (in_more_same other station done is))
    (subst (IsAnswering given after) (sym (eqb-true other station is)) (own_answers given station history listens asked_by))
hear_by given done station history out listens asked_by other false is heard =
    subst (λ b. HeardIf b given (after_call given station (step_of (packet_received station history)) history) other) (sym (in_more_other other station done is))
    (heard_more given station (step_of (packet_received station history)) history other is (is_in other done) heard)

-- ---- a phase begins

may_send_none : (doing : Doing) (handle : ℕ) (X : Type 0) → MayBegin doing → doing ≡ PeripheralSends handle → X
may_send_none doing handle X may is = absurd (subst MayBegin is may)

nothing_heard : (given : Given) (history : List Event) (station : ℕ) → packet_received station history ≡ None → IsAskedBy given history station
nothing_heard given history station none = λ heard channel is unforged listens off octets begins. absurd (let h : None ≡ Some heard = sym none ∙ is in absurd cc)

phase_begins : (given : Given) (phases : ℕ) (history : List Event) → AreHearing given (AfterPhases phases) history → (station : ℕ) → is_in station given.stations ≡ true
    → AskedAt given (AfterPhases phases) history station → IsAnswering given history station × IsAskedBy given history station × OnlyAsked phases history station
phase_begins given zero history hearing station is unasked = (
  (λ handle channel octets doing wanted. may_send_none (facts_at given station history).turn.doing handle _ (at_turn given (AfterPhases zero) history hearing.stand station is).does doing),
  nothing_heard given history station (hearing.hears station is),
  (λ none. unasked),
)
phase_begins given (suc phases) history hearing station is answering = (answering, nothing_heard given history station (hearing.hears station is), tt)

-- ---- the run

pub asked_kept : IsUnderstood → (given : Given) → given.stations ≡ 0 ∷ 1 ∷ [] → HaveAddresses given → IsKept given (AreAsked given)
asked_kept understood given are_two six =
    let distinct = are_distinct given are_two in
    let heard = hearing_kept given six distinct in
    let counted = counted_kept understood given six distinct in record {
      on_turn = λ slot plan history begun at is. record {
        hearing = heard.on_turn slot plan history begun at is.hearing;
        counted = counted.on_turn slot plan history begun at is.counted;
        sent = each_event IsOfTwo history (TurnBegan slot (map plan.radio_of given.stations)) is.sent tt;
        asked = λ station one octets. asked_turn history slot (map plan.radio_of given.stations) station octets;
      };
      on_feed = λ plan done left station history are some now is.
          let octets = take (plan.feed_of station) (octets_left given station history) in record {
            hearing = heard.on_feed plan done left station history are some now is.hearing;
            counted = counted.on_feed plan done left station history are some now is.counted;
            sent = feed_sent given station octets history is.sent;
            asked = λ other one more. asked_feed given station octets history other more ∙ is.asked other one more;
          };
      on_fed = λ history is. record { hearing = heard.on_fed history is.hearing; counted = counted.on_fed history is.counted; sent = is.sent; asked = is.asked };
      on_begin = λ slot plan done left station history are due is.
          let step = TurnBegins slot (plan.radio_of station) in record {
            hearing = heard.on_begin slot plan done left station history are due is.hearing;
            counted = counted.on_begin slot plan done left station history are due is.counted;
            sent = call_sent given station step history is.sent;
            asked = λ other one. unasked_called given station step history other (is.asked other one);
          };
      on_begun = λ history is. record { hearing = heard.on_begun history is.hearing; counted = counted.on_begun history is.counted; sent = is.sent; asked = is.asked };
      on_phase = λ phases history few is. record {
        hearing = heard.on_phase phases history few is.hearing;
        counted = counted.on_phase phases history few is.counted;
        sent = is.sent;
        asked = λ station one. phase_begins given phases history is.hearing station one (is.asked station one);
      };
      on_silence = λ phases done left station history are none is. record {
        hearing = heard.on_silence phases done left station history are none is.hearing;
        counted = counted.on_silence phases done left station history are none is.counted;
        sent = is.sent;
        asked = is.asked;
      };
      on_packet = λ phases plan done left station channel octets history are some due is.
          let hears = hearings_of given plan.fates station channel octets history in
          let one = of_two_stations given are_two station (among given.stations done left station are) in record {
            hearing = heard.on_packet phases plan done left station channel octets history are some due is.hearing;
            counted = counted.on_packet phases plan done left station channel octets history are some due is.counted;
            sent = each_event IsOfTwo history (Transmitted station channel octets hears) is.sent
                (record { is_one = one; once = ap length (one_hearing given are_two plan.fates station channel octets history one) });
            asked = λ other in_it.
                let other_one = of_two_stations given are_two other in_it in
                let before = is.asked other in_it in (
                  packet_answering given are_two plan.fates station channel octets history one due.is_seen other other_one before.0,
                  packet_asked_by given are_two plan.fates station channel octets history one due.is_seen other other_one before.1,
                  packet_only given are_two plan.fates station channel octets history one due.is_seen other other_one phases before.2,
                );
          };
      on_air = λ phases history is. record {
        hearing = heard.on_air phases history is.hearing;
        counted = counted.on_air phases history is.counted;
        sent = is.sent;
        asked = λ station one. (is.asked station one).1;
      };
      on_hearing = λ phases done left station history are some is.
          let one = among given.stations done left station are in
          let out = not_before given.stations done left station distinct are in
          let sending = sending_at given (AtListening phases done (station ∷ left)) history is.hearing.stand station one in record {
            hearing = heard.on_hearing phases done left station history are some is.hearing;
            counted = counted.on_hearing phases done left station history are some is.counted;
            sent = call_sent given station (step_of (packet_received station history)) history is.sent;
            asked = λ other in_it. hear_by given done station history out sending.in_turn.listens
                (subst (λ b. HeardIf b given history station) out (is.asked station one)) other (other == station) refl (is.asked other in_it);
          };
      on_heard = λ phases history is. record {
        hearing = heard.on_heard phases history is.hearing;
        counted = counted.on_heard phases history is.counted;
        sent = is.sent;
        asked = λ station one. subst (λ b. HeardIf b given history station) one (is.asked station one);
      };
      on_phases = λ history is. record { hearing = heard.on_phases history is.hearing; counted = counted.on_phases history is.counted; sent = is.sent; asked = λ station one. tt };
      on_end = λ done left station history are some is. record {
        hearing = heard.on_end done left station history are some is.hearing;
        counted = counted.on_end done left station history are some is.counted;
        sent = call_sent given station TurnEnds history is.sent;
        asked = λ other one. tt;
      };
      on_ended = λ history is. record { hearing = heard.on_ended history is.hearing; counted = counted.on_ended history is.counted; sent = is.sent; asked = λ station one. tt };
    }

pub asked_first : (given : Given) → AreAsked given NoTurn []
asked_first given = record {
  hearing = record { stand = stands_first given; hears = λ station is. first_hears given station };
  counted = record { stand = stands_first given; each = tt; at = λ station is. first_counts given station };
  sent = tt;
  asked = λ station is. tt;
}

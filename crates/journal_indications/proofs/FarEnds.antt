-- Where a station is called with a packet that is not forged while it listens on a link, the other station has the other
-- end of the link open.
use Rattle.std.proofs.Common.{◌≡◌, ℕ, true, Option, Some, None, List, [], ◌∷◌, ◌++◌, refl}
use Rattle.std.specs.Prelude.{map, take, ⊤}
use Rattle.controller_model.specs.Step.{Step, HostOctet, TurnBegins, PacketHeard, NothingHeard, TurnEnds}
use Rattle.journal_agreement.specs.journal_data.journal_acks.link_calls.Uses.{listens_under}
use Rattle.journal_agreement.specs.journal_data.open_links.OpenLinks.{OpenLink, link_at}
use Rattle.journal_agreement.specs.journal_data.run_model.Feeding.{AreDistinct}
use Rattle.journal_agreement.specs.journal_data.run_model.History.{Event, TurnBegan, Called, packet_received}
use Rattle.journal_agreement.specs.journal_data.run_model.LinkEnds.{HaveAddresses}
use Rattle.journal_agreement.specs.journal_data.run_model.Run.{Given, after_call, after_feed, facts_at, history_of, octets_left, run_of, step_of}
use Rattle.journal_agreement.proofs.journal_data.Mine.{AreMine, HasFarEnd, packet_mine}
use Rattle.journal_agreement.proofs.journal_data.MineKept.{heard_none_mine, hearing_mine}
use Rattle.journal_agreement.proofs.journal_data.journal_acks.Counting.{AreKnown}
use Rattle.journal_agreement.proofs.journal_data.journal_acks.EachCall.{HaveCalls, OfCall, run_calls}
use Rattle.journal_agreement.proofs.journal_data.journal_acks.KeptCounts.{AreCountedAt, counts_kept}
use Rattle.journal_agreement.proofs.journal_data.journal_acks.Known.{known_of}
use Rattle.journal_agreement.proofs.journal_data.journal_acks.RunCounts.{counts_first}
use Rattle.journal_agreement.proofs.journal_data.journal_acks.TwoStations.{IsOfTwo}
use Rattle.journal_agreement.proofs.journal_data.journal_links.OfTwo.{are_distinct}
use Rattle.journal_agreement.proofs.journal_data.journal_packets.AccessOrder.{AreNth}
use Rattle.journal_agreement.proofs.journal_data.journal_packets.SoFar.{IsBelongingSoFar}
use Rattle.journal_agreement.proofs.journal_data.link_model.Hearing.{IsHeardWhole}
use Rattle.journal_agreement.proofs.journal_data.run_laws.DistinctAccess.{AreApart}
use Rattle.journal_agreement.proofs.journal_data.run_model.Handing.{IsUnforged}
use Rattle.journal_agreement.proofs.journal_data.run_model.LinkEnds.{AreTaken, IsUnderstood}
use Rattle.journal_agreement.proofs.journal_data.run_model.Places.{each_at}
use Rattle.journal_agreement.proofs.journal_data.run_model.Stations.{is_in, among, not_before}
use Rattle.journal_agreement.proofs.journal_data.run_model.Walk.{IsKept, NoTurn, Place}

-- what is kept at each place of a run
pub record IsFarAt (given : Given) (Q : Place → List Event → Type 0) (place : Place) (history : List Event) : Type 0 where
  pub counted : AreCountedAt given Q place history
  pub mine : AreMine given history

-- what holds before a call
abbrev pub HasFarBefore : Given → List Event → ℕ → Step → Type 0
HasFarBefore given history station (PacketHeard octets) =
    (handle : ℕ) (link : OpenLink) → link_at handle (facts_at given station history).links ≡ Some link
    → listens_under handle (facts_at given station history).turn.doing ≡ true → IsUnforged (facts_at given station history) octets
    → HasFarEnd given station history handle
HasFarBefore given history station (HostOctet octet) = ⊤
HasFarBefore given history station (TurnBegins slot on) = ⊤
HasFarBefore given history station NothingHeard = ⊤
HasFarBefore given history station TurnEnds = ⊤

module _ (whole : IsHeardWhole) (given : Given) (Q : Place → List Event → Type 0) (known : AreKnown given Q) (are_two : IsOfTwo given)
    (six : HaveAddresses given)
    (distinct : AreDistinct given.stations) where
  pub far_kept : IsKept given (IsFarAt given Q)
  far_kept = let kept = counts_kept whole given Q known are_two six distinct in record {
    on_turn = λ slot plan history begun at is.
        let counted = kept.on_turn slot plan history begun at is.counted in
        record {
          counted = counted;
          mine = heard_none_mine given (history ++ TurnBegan slot (map plan.radio_of given.stations) ∷ [])
              counted.holds.hearing.hears;
        };
    on_feed = λ plan done left station history are some now is.
        let counted = kept.on_feed plan done left station history are some now is.counted in
        record {
          counted = counted;
          mine = heard_none_mine given
              (after_feed given station (take (plan.feed_of station) (octets_left given station history)) history) counted.holds.hearing.hears;
        };
    on_fed = λ history is. record { counted = kept.on_fed history is.counted; mine = is.mine };
    on_begin = λ slot plan done left station history are due is.
        let counted = kept.on_begin slot plan done left station history are due is.counted in
        record {
          counted = counted;
          mine = heard_none_mine given (after_call given station (TurnBegins slot (plan.radio_of station)) history)
              counted.holds.hearing.hears;
        };
    on_begun = λ history is. record { counted = kept.on_begun history is.counted; mine = is.mine };
    on_phase = λ phases history few is. record { counted = kept.on_phase phases history few is.counted; mine = is.mine };
    on_silence = λ phases done left station history are none is.
        record { counted = kept.on_silence phases done left station history are none is.counted; mine = is.mine };
    on_packet = λ phases plan done left station channel octets history are some due is.
        let in_it = among given.stations done left station are in
        let out = not_before given.stations done left station distinct are in record {
          counted = kept.on_packet phases plan done left station channel octets history are some due is.counted;
          mine = packet_mine whole given Q known are_two six distinct phases done left station channel octets plan.fates history are
              due.is_wanted is.counted.known is.counted.holds
              is.counted.counted due.is_seen (λ other is_other differs. is.counted.silent other station is_other in_it differs out) is.mine;
        };
    on_air = λ phases history is. record { counted = kept.on_air phases history is.counted; mine = is.mine };
    on_hearing = λ phases done left station history are some is. record {
      counted = kept.on_hearing phases done left station history are some is.counted;
      mine = hearing_mine given are_two station history (among given.stations done left station are) is.mine;
    };
    on_heard = λ phases history is. record { counted = kept.on_heard phases history is.counted; mine = is.mine };
    on_phases = λ history is. record { counted = kept.on_phases history is.counted; mine = is.mine };
    on_end = λ done left station history are some is.
        let counted = kept.on_end done left station history are some is.counted in
        record { counted = counted; mine = heard_none_mine given (after_call given station TurnEnds history) counted.holds.hearing.hears };
    on_ended = λ history is. record { counted = kept.on_ended history is.counted; mine = is.mine };
  }

  far_passes : (station : ℕ) (history : List Event) → is_in station given.stations ≡ true → AreMine given history → (received : Option (List ℕ))
      → packet_received station history ≡ received
      → HasFarBefore given history station (step_of received)
  far_passes station history in_it mine None got = tt
  far_passes station history in_it mine (Some octets) got = λ handle link is_open listens unforged.
      mine station in_it handle
      (record { octets = octets; received = got; link = link; is_open = is_open; listens = listens; unforged = unforged })

  have_far : HaveCalls given (HasFarBefore given) (IsFarAt given Q)
  have_far = record {
    feeds = λ station octet history. tt;
    begins = λ plan slot done left station history are is next. tt;
    passes = λ phases done left station history are is next.
        far_passes station history (among given.stations done left station are) is.mine (packet_received station history) refl;
    ends = λ done left station history are is. tt;
  }

pub far_first : (given : Given) → IsFarAt given (IsBelongingSoFar given) NoTurn []
far_first given =
    let counted = counts_first given in record { counted = counted; mine = heard_none_mine given [] counted.holds.hearing.hears }

pub far_before : IsHeardWhole → IsUnderstood → AreTaken → AreNth → AreApart → (given : Given) → IsOfTwo given → HaveAddresses given
    → (before rest : List Event) (station : ℕ) (octets : List ℕ)
    → history_of (run_of given) ≡ before ++ Called station (PacketHeard octets) ∷ rest → HasFarBefore given before station (PacketHeard octets)
far_before whole understood taken nth apart given are_two six before rest station octets at =
    let Q = IsBelongingSoFar given in
    let distinct = are_distinct given are_two in
    let known = known_of understood taken nth apart given are_two six in
    each_at (OfCall given (HasFarBefore given)) (history_of (run_of given)) before rest (Called station (PacketHeard octets))
    (run_calls given (HasFarBefore given) (IsFarAt given Q) (far_kept whole given Q known are_two six distinct)
    (have_far whole given Q known are_two six distinct)
    (far_first given))
    at

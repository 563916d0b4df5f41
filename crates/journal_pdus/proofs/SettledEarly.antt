-- Before the first packet of each turn of a run of two stations, all packets of each host that are complete are reported to
-- it.
use Rattle.std.proofs.Common.{◌≡◌, ℕ, ◌&&◌, Bool, true, false, Option, Some, None, List, ◌∷◌, ◌++◌, refl, sym, ap, subst, ◌∙◌}
use Rattle.ble_base.specs.declared.roles.Side.{Side}
use Rattle.journal_moves.proofs.journal_wants.journal_sending.AtRest.{by_side}
use Rattle.journal_moves.proofs.journal_wants.journal_sending.journal_data.link_model.Hearing.{IsHeardWhole}
use Rattle.journal_moves.proofs.journal_wants.journal_sending.journal_data.link_model.Sending.{past_together}
use Rattle.journal_moves.specs.journal_wants.journal_sending.journal_data.open_links.OpenLinks.{OpenLink, facts_in, link_at}
use Rattle.journal_moves.specs.journal_wants.journal_sending.controller_model.declared.doing.Turn.{Turn}
use Rattle.journal_moves.specs.journal_wants.journal_sending.controller_model.Since.{data_waiting}
use Rattle.journal_moves.specs.journal_wants.journal_sending.run_model.Feeding.{AreDistinct}
use Rattle.journal_moves.specs.journal_wants.journal_sending.run_model.History.{Event, packet_received}
use Rattle.journal_moves.specs.journal_wants.journal_sending.run_model.Journal.{journal_of, side_of}
use Rattle.journal_moves.specs.journal_wants.journal_sending.run_model.LinkEnds.{HaveAddresses}
use Rattle.journal_moves.specs.journal_wants.journal_sending.run_model.Readers.{turn_packets}
use Rattle.journal_moves.specs.journal_wants.journal_sending.run_model.Run.{Given, facts_at, history_of, run_of, setup_at}
use Rattle.journal_moves.proofs.journal_wants.journal_sending.run_model.EntryEvents.{is_aired}
use Rattle.journal_moves.proofs.journal_wants.journal_sending.run_model.LinkEnds.{AreTaken, IsUnderstood}
use Rattle.journal_moves.proofs.journal_wants.journal_sending.run_model.Stations.{is_in}
use Rattle.journal_moves.proofs.journal_wants.journal_sending.run_model.Walk.{Place, AtPackets, IsKept}
use Rattle.journal_moves.proofs.journal_wants.journal_sending.journal_data.run_laws.Agreed.{ack_of}
use Rattle.journal_moves.proofs.journal_wants.journal_sending.journal_data.run_laws.DistinctAccess.{AreApart}
use Rattle.journal_moves.proofs.journal_wants.journal_sending.journal_packets.AccessOrder.{AreNth}
use Rattle.journal_moves.proofs.journal_wants.journal_sending.journal_packets.SoFar.{IsBelongingSoFar}
use Rattle.journal_moves.specs.journal_wants.journal_sending.journal_acks.Exchange.{Exchanged}
use Rattle.journal_moves.proofs.journal_wants.journal_sending.journal_acks.Counting.{IsEndCounted, ahead_if, taking_if}
use Rattle.journal_moves.proofs.journal_wants.journal_sending.journal_acks.Exchanging.{exchange_at, number_at}
use Rattle.journal_moves.proofs.journal_wants.journal_sending.journal_acks.Known.{known_of}
use Rattle.journal_moves.specs.journal_wants.journal_sending.journal_acks.link_calls.Uses.{listens_under, sends_under}
use Rattle.journal_moves.proofs.journal_wants.journal_sending.journal_acks.Seen.{IsSeen, seen_packet}
use Rattle.journal_moves.proofs.journal_wants.journal_sending.journal_acks.TwoStations.{IsOfTwo}
use Rattle.journal_moves.specs.journal_wants.journal_sending.journal_data.HostLines.{OpenUnder}
use Rattle.journal_moves.specs.journal_wants.journal_sending.journal_data.Lines.{lines_of}
use Rattle.journal_moves.proofs.journal_wants.journal_sending.journal_data.Ends.{sound}
use Rattle.journal_moves.proofs.journal_wants.journal_sending.journal_data.FewLinks.{HaveFewLinks}
use Rattle.journal_moves.proofs.journal_wants.journal_sending.journal_hosts.Calm.{IsCalm, calm_under}
use Rattle.journal_moves.proofs.journal_wants.journal_sending.journal_hosts.QuietTurns.{AreQuiet, IsSilent, quiet_first, quiet_kept}
use Rattle.journal_pdus.specs.AtOnce.{AllAreCreditedAtOnce}
use Rattle.journal_pdus.specs.Settled.{AreCredited, IsCredited}
use Rattle.journal_pdus.proofs.SettledEnds.{credited_end}
use Rattle.journal_pdus.proofs.SettledRuns.{open_in}
use Rattle.journal_moves.proofs.journal_wants.journal_sending.Together.{IsKnownAt, known_first, known_kept}

-- ---- what is acknowledged to an end that heard nothing in the turn

acked_ahead : (sends : Bool) (end : Exchanged) → (ahead_if sends end).acked ≡ end.acked
acked_ahead true end = refl
acked_ahead false end = refl

acked_deaf : (listens : Bool) (slot : ℕ) (link : OpenLink) → (ack_of (taking_if listens None slot link)).acked ≡ (ack_of link).acked
acked_deaf true slot link = refl
acked_deaf false slot link = refl

acked_unheard : (unsent : Bool) (received : Option (List ℕ)) (handle : ℕ) (turn : Turn) (link : OpenLink) (end : Exchanged) → received ≡ None
    → IsEndCounted unsent received handle turn link end → end.acked ≡ (ack_of link).acked
acked_unheard unsent received handle turn link end none counted =
    sym (acked_ahead (unsent && sends_under handle turn.doing) end)
    ∙ counted.acked
    ∙ ap (λ may. (ack_of (taking_if (listens_under handle turn.doing) may turn.slot link)).acked) none
    ∙ acked_deaf (listens_under handle turn.doing) turn.slot link

-- ---- before the first packet of a turn

module _ (given : Given) (Q : Place → List Event → Type 0) (are_two : IsOfTwo given) (few_links : HaveFewLinks given) (eight : (station : ℕ) → (setup_at given station).host_buffers ≡ 8)
    (phases : ℕ) (done left : List ℕ) (history : List Event) (is : IsKnownAt given Q (AtPackets phases done left) history)
    (quiet : AreQuiet given (AtPackets phases done left) history) (silent : IsSilent history) where
  credited_on : (station handle : ℕ) → is_in station given.stations ≡ true → (link : OpenLink) → link_at handle (facts_at given station history).links ≡ Some link
      → IsCredited (number_at station handle history) (side_of station) (journal_of history)
  credited_on station handle in_it link at =
      let facts = facts_at given station history in
      let own = quiet.each station in_it in
      let calm : IsCalm facts = own.calm silent in
      credited_end (number_at station handle history) (side_of station) (journal_of history) (facts_in link) (data_waiting handle facts.received)
      (sound given station handle history link (few_links.links station) (eight station) (is.data_is.are.well station in_it) at).booked
      (past_together link.setup link.past)
      (calm_under facts handle link calm at)
      (is.lined.lines station handle link in_it at)
      (acked_unheard _ (packet_received station history) handle facts.turn link (exchange_at (number_at station handle history) history (side_of station)) (own.unheard silent)
      (is.data_is.counted.counted station handle link in_it at))

  abbrev IsCreditedSide : Side → Type 0
  IsCreditedSide side = (before after : List OpenUnder) (one : OpenUnder) → (lines_of 8 side (journal_of history)).links ≡ before ++ one ∷ after
      → IsCredited one.link side (journal_of history)

  credited_side : (station : ℕ) → is_in station given.stations ≡ true → IsCreditedSide (side_of station)
  credited_side station in_it = λ before after one are.
      let found = open_in given station history before after one (is.data_is.are.well station in_it).booked are in
      subst (λ n. IsCredited n (side_of station) (journal_of history)) (sym found.number_is) (credited_on station found.handle in_it found.link found.at)

  credited_early : AreCredited (journal_of history)
  credited_early = λ side before after one are. by_side given are_two IsCreditedSide credited_side side before after one are

-- ---- in a run

module _ (whole : IsHeardWhole) (understood : IsUnderstood) (taken : AreTaken) (nth : AreNth) (apart : AreApart) (given : Given) (are_two : IsOfTwo given) (few_links : HaveFewLinks given)
    (six : HaveAddresses given) (distinct : AreDistinct given.stations) (eight : (station : ℕ) → (setup_at given station).host_buffers ≡ 8) where
  abbrev Q : Place → List Event → Type 0
  Q place history = IsBelongingSoFar given place history

  record IsKnownQuiet (place : Place) (history : List Event) : Type 0 where
    is : IsKnownAt given Q place history
    quiet : AreQuiet given place history

  both_kept : IsKept given IsKnownQuiet
  both_kept =
      let one = known_kept whole given Q (known_of understood taken nth apart given are_two six) are_two few_links six distinct eight in
      let two = quiet_kept given are_two distinct in record {
        on_turn = λ slot plan history begun at has. record { is = one.on_turn slot plan history begun at has.is; quiet = two.on_turn slot plan history begun at has.quiet };
        on_feed = λ plan done left station history are some now has. record {
          is = one.on_feed plan done left station history are some now has.is;
          quiet = two.on_feed plan done left station history are some now has.quiet;
        };
        on_fed = λ history has. record { is = one.on_fed history has.is; quiet = two.on_fed history has.quiet };
        on_begin = λ slot plan done left station history are due has. record {
          is = one.on_begin slot plan done left station history are due has.is;
          quiet = two.on_begin slot plan done left station history are due has.quiet;
        };
        on_begun = λ history has. record { is = one.on_begun history has.is; quiet = two.on_begun history has.quiet };
        on_phase = λ phases history few has. record { is = one.on_phase phases history few has.is; quiet = two.on_phase phases history few has.quiet };
        on_silence = λ phases done left station history are none has. record {
          is = one.on_silence phases done left station history are none has.is;
          quiet = two.on_silence phases done left station history are none has.quiet;
        };
        on_packet = λ phases plan done left station channel octets history are some due has. record {
          is = one.on_packet phases plan done left station channel octets history are some due has.is;
          quiet = two.on_packet phases plan done left station channel octets history are some due has.quiet;
        };
        on_air = λ phases history has. record { is = one.on_air phases history has.is; quiet = two.on_air phases history has.quiet };
        on_hearing = λ phases done left station history are some has. record {
          is = one.on_hearing phases done left station history are some has.is;
          quiet = two.on_hearing phases done left station history are some has.quiet;
        };
        on_heard = λ phases history has. record { is = one.on_heard phases history has.is; quiet = two.on_heard phases history has.quiet };
        on_phases = λ history has. record { is = one.on_phases history has.is; quiet = two.on_phases history has.quiet };
        on_end = λ done left station history are some has. record {
          is = one.on_end done left station history are some has.is;
          quiet = two.on_end done left station history are some has.quiet;
        };
        on_ended = λ history has. record { is = one.on_ended history has.is; quiet = two.on_ended history has.quiet };
      }

  abbrev IsCreditedIfSilent : List Event → ℕ → ℕ → List ℕ → Type 0
  IsCreditedIfSilent history station channel octets = IsSilent history → AreCredited (journal_of history)

  sees : IsSeen given IsKnownQuiet (λ history. Unit {0}) IsCreditedIfSilent
  sees = record {
    turn = λ history has. tt;
    packet = λ phases done left station channel octets history are wanted has silent.
        credited_early given Q are_two few_links eight phases done (station ∷ left) history has.is has.quiet silent;
  }

  pub credited_at_once : AllAreCreditedAtOnce (journal_of (history_of (run_of given)))
  credited_at_once = λ front rest side channel octets fate verdict is none.
      let aired = is_aired given front rest side channel octets fate verdict is in
      subst AreCredited (sym aired.front_is)
      (seen_packet given IsKnownQuiet both_kept (λ history. Unit {0}) IsCreditedIfSilent sees (record { is = known_first given; quiet = quiet_first given })
      aired.before aired.after aired.station channel octets (aired.hearing ∷ aired.others) aired.is_at (ap turn_packets (sym aired.front_is) ∙ none))

-- What is known of all stations at each place of a run of a pair: what the lines of their data say, and those of new PDUs.
use Rattle.std.proofs.Common.{◌≡◌, ℕ, List, []}
use Rattle.journal_leaving.proofs.link_model.Hearing.{IsHeardWhole}
use Rattle.journal_leaving.specs.run_model.Feeding.{AreDistinct}
use Rattle.journal_leaving.specs.run_model.History.{Event}
use Rattle.journal_leaving.specs.run_model.LinkEnds.{HaveAddresses}
use Rattle.journal_leaving.specs.run_model.Run.{Given, setup_at}
use Rattle.journal_leaving.proofs.run_model.Walk.{Place, NoTurn, IsKept}
use Rattle.journal_leaving.proofs.journal_packets.SoFar.{IsBelongingSoFar}
use Rattle.journal_leaving.proofs.journal_acks.Counting.{AreKnown}
use Rattle.journal_leaving.proofs.journal_acks.KeptLines.{AreLinedAt, lines_kept}
use Rattle.journal_leaving.proofs.journal_acks.LinkPackets.{lines_first}
use Rattle.journal_leaving.proofs.journal_acks.TwoStations.{IsOfTwo}
use Rattle.journal_leaving.proofs.journal_data.KeptData.{IsDataAt, data_kept}
use Rattle.journal_leaving.proofs.journal_data.Law.{first_data}
use Rattle.journal_leaving.proofs.journal_data.FewLinks.{HaveFewLinks}

pub record IsKnownAt (given : Given) (Q : Place → List Event → Type 0) (place : Place) (history : List Event) : Type 0 where
  pub data_is : IsDataAt given Q place history
  pub lined : AreLinedAt given Q place history

pub known_first : (given : Given) → IsKnownAt given (IsBelongingSoFar given) NoTurn []
known_first given = record { data_is = first_data given; lined = lines_first given }

module _ (whole : IsHeardWhole) (given : Given) (Q : Place → List Event → Type 0) (known : AreKnown given Q) (are_two : IsOfTwo given) (few_links : HaveFewLinks given)
    (six : HaveAddresses given) (distinct : AreDistinct given.stations) (eight : (station : ℕ) → (setup_at given station).host_buffers ≡ 8) where
  pub known_kept : IsKept given (IsKnownAt given Q)
  known_kept =
      let one = data_kept whole given Q known are_two few_links six distinct eight in
      let two = lines_kept whole given Q known are_two six distinct in record {
        on_turn = λ slot plan history begun at is. record { data_is = one.on_turn slot plan history begun at is.data_is; lined = two.on_turn slot plan history begun at is.lined };
        on_feed = λ plan done left station history are some now is.
            record { data_is = one.on_feed plan done left station history are some now is.data_is; lined = two.on_feed plan done left station history are some now is.lined };
        on_fed = λ history is. record { data_is = one.on_fed history is.data_is; lined = two.on_fed history is.lined };
        on_begin = λ slot plan done left station history are due is.
            record { data_is = one.on_begin slot plan done left station history are due is.data_is; lined = two.on_begin slot plan done left station history are due is.lined };
        on_begun = λ history is. record { data_is = one.on_begun history is.data_is; lined = two.on_begun history is.lined };
        on_phase = λ phases history few is. record { data_is = one.on_phase phases history few is.data_is; lined = two.on_phase phases history few is.lined };
        on_silence = λ phases done left station history are none is.
            record { data_is = one.on_silence phases done left station history are none is.data_is; lined = two.on_silence phases done left station history are none is.lined };
        on_packet = λ phases plan done left station channel octets history are some due is. record {
          data_is = one.on_packet phases plan done left station channel octets history are some due is.data_is;
          lined = two.on_packet phases plan done left station channel octets history are some due is.lined;
        };
        on_air = λ phases history is. record { data_is = one.on_air phases history is.data_is; lined = two.on_air phases history is.lined };
        on_hearing = λ phases done left station history are some is.
            record { data_is = one.on_hearing phases done left station history are some is.data_is; lined = two.on_hearing phases done left station history are some is.lined };
        on_heard = λ phases history is. record { data_is = one.on_heard phases history is.data_is; lined = two.on_heard phases history is.lined };
        on_phases = λ history is. record { data_is = one.on_phases history is.data_is; lined = two.on_phases history is.lined };
        on_end = λ done left station history are some is.
            record { data_is = one.on_end done left station history are some is.data_is; lined = two.on_end done left station history are some is.lined };
        on_ended = λ history is. record { data_is = one.on_ended history is.data_is; lined = two.on_ended history is.lined };
      }

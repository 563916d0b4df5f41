-- Two facts that each step of a run keeps are kept together.
use Rattle.std.proofs.Common.{List}
use Rattle.journal_data.specs.run_model.History.{Event}
use Rattle.journal_data.specs.run_model.Run.{Given}
use Rattle.journal_data.proofs.run_model.Walk.{IsKept, Place}

pub both_kept : (given : Given) (P Q : Place → List Event → Type 0) → IsKept given P → IsKept given Q → IsKept given (λ place history. P place history × Q place history)
both_kept given P Q one two = record {
  on_turn = λ slot plan history begun at is. (one.on_turn slot plan history begun at is.0, two.on_turn slot plan history begun at is.1);
  on_feed = λ plan done left station history are some now is.
      (one.on_feed plan done left station history are some now is.0, two.on_feed plan done left station history are some now is.1);
  on_fed = λ history is. (one.on_fed history is.0, two.on_fed history is.1);
  on_begin = λ slot plan done left station history are due is.
      (one.on_begin slot plan done left station history are due is.0, two.on_begin slot plan done left station history are due is.1);
  on_begun = λ history is. (one.on_begun history is.0, two.on_begun history is.1);
  on_phase = λ phases history few is. (one.on_phase phases history few is.0, two.on_phase phases history few is.1);
  on_silence = λ phases done left station history are none is.
      (one.on_silence phases done left station history are none is.0, two.on_silence phases done left station history are none is.1);
  on_packet = λ phases plan done left station channel octets history are some due is.
      (one.on_packet phases plan done left station channel octets history are some due is.0, two.on_packet phases plan done left station channel octets history are some due is.1);
  on_air = λ phases history is. (one.on_air phases history is.0, two.on_air phases history is.1);
  on_hearing = λ phases done left station history are some is.
      (one.on_hearing phases done left station history are some is.0, two.on_hearing phases done left station history are some is.1);
  on_heard = λ phases history is. (one.on_heard phases history is.0, two.on_heard phases history is.1);
  on_phases = λ history is. (one.on_phases history is.0, two.on_phases history is.1);
  on_end = λ done left station history are some is. (one.on_end done left station history are some is.0, two.on_end done left station history are some is.1);
  on_ended = λ history is. (one.on_ended history is.0, two.on_ended history is.1);
}

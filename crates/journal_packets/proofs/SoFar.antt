-- Each packet of a run of two stations on a data channel is of the link on which it was sent.
use Rattle.std.proofs.Common.{◌≡◌, ℕ, false, List, [], ◌∷◌, ◌++◌, sym}
use Rattle.std.specs.Prelude.{map, take}
use Rattle.journal_links.specs.controller_model.Step.{Step, TurnBegins, TurnEnds}
use Rattle.journal_links.specs.controller_model.Facts.{Sends}
use Rattle.journal_links.specs.run_model.Due.{Each}
use Rattle.journal_links.specs.run_model.History.{Event, TurnBegan, HostFed, Called, Noted, Transmitted, Hearing, packet_received}
use Rattle.journal_links.specs.run_model.LinkEnds.{HaveAddresses}
use Rattle.journal_links.specs.run_model.Links.{is_advertising}
use Rattle.journal_links.specs.run_model.Run.{Given, setup_at, use_at, octets_left, after_call, after_feed, hearings_of, step_of, run_of, history_of}
use Rattle.journal_links.proofs.run_model.Fronts.{IsFrontAt, front_first, fronts_kept}
use Rattle.journal_links.proofs.run_model.LinkEnds.{AreTaken, IsUnderstood}
use Rattle.journal_links.proofs.run_model.Notes.{IsNotedSoFar, first_notes, noted_stepped}
use Rattle.journal_links.proofs.run_model.Numbers.{IsNumberedSoFar, numbered_first, numbered_kept}
use Rattle.journal_links.proofs.run_model.Places.{each_at, each_event}
use Rattle.journal_links.proofs.run_model.Walk.{Place, NoTurn, AtPackets, IsKept, IsWhole, IsStopped, ends_with, run_kept, stepped_kept}
use Rattle.journal_links.proofs.run_laws.DistinctAccess.{AreApart}
use Rattle.journal_packets.specs.Senders.{IsOfSendersLink}
use Rattle.journal_packets.proofs.AccessOrder.{AreNth}
use Rattle.journal_links.proofs.OfTwo.{are_distinct}
use Rattle.journal_packets.proofs.AskedSoFar.{AreAsked, asked_first, asked_kept}
use Rattle.journal_packets.proofs.EachEvent.{each_call, each_feed}
use Rattle.journal_packets.proofs.SendersLink.{sends_on_link}

-- ---- at each place

pub record IsBelongingSoFar (given : Given) (place : Place) (history : List Event) : Type 0 where
  pub numbered : IsNumberedSoFar given place history
  pub asked : AreAsked given place history
  pub front : IsFrontAt given place history
  pub noted : IsNotedSoFar given history

pub belonging_kept : IsUnderstood → AreTaken → (given : Given) → given.stations ≡ 0 ∷ 1 ∷ [] → HaveAddresses given → IsKept given (IsBelongingSoFar given)
belonging_kept understood taken given are_two six =
    let numbers = numbered_kept understood taken given six (are_distinct given are_two) in
    let asks = asked_kept understood given are_two six in
    let fronts = fronts_kept given in
    let notes = stepped_kept given (IsNotedSoFar given) (noted_stepped given) in record {
      on_turn = λ slot plan history begun at is. record { numbered = numbers.on_turn slot plan history begun at is.numbered; asked = asks.on_turn slot plan history begun at is.asked; front = fronts.on_turn slot plan history begun at is.front; noted = notes.on_turn slot plan history begun at is.noted };
      on_feed = λ plan done left station history are some now is.
          record { numbered = numbers.on_feed plan done left station history are some now is.numbered; asked = asks.on_feed plan done left station history are some now is.asked; front = fronts.on_feed plan done left station history are some now is.front; noted = notes.on_feed plan done left station history are some now is.noted };
      on_fed = λ history is. record { numbered = numbers.on_fed history is.numbered; asked = asks.on_fed history is.asked; front = fronts.on_fed history is.front; noted = notes.on_fed history is.noted };
      on_begin = λ slot plan done left station history are due is.
          record { numbered = numbers.on_begin slot plan done left station history are due is.numbered; asked = asks.on_begin slot plan done left station history are due is.asked; front = fronts.on_begin slot plan done left station history are due is.front; noted = notes.on_begin slot plan done left station history are due is.noted };
      on_begun = λ history is. record { numbered = numbers.on_begun history is.numbered; asked = asks.on_begun history is.asked; front = fronts.on_begun history is.front; noted = notes.on_begun history is.noted };
      on_phase = λ phases history few is. record { numbered = numbers.on_phase phases history few is.numbered; asked = asks.on_phase phases history few is.asked; front = fronts.on_phase phases history few is.front; noted = notes.on_phase phases history few is.noted };
      on_silence = λ phases done left station history are none is.
          record { numbered = numbers.on_silence phases done left station history are none is.numbered; asked = asks.on_silence phases done left station history are none is.asked; front = fronts.on_silence phases done left station history are none is.front; noted = notes.on_silence phases done left station history are none is.noted };
      on_packet = λ phases plan done left station channel octets history are some due is. record {
        numbered = numbers.on_packet phases plan done left station channel octets history are some due is.numbered;
        asked = asks.on_packet phases plan done left station channel octets history are some due is.asked;
        front = fronts.on_packet phases plan done left station channel octets history are some due is.front;
        noted = notes.on_packet phases plan done left station channel octets history are some due is.noted;
      };
      on_air = λ phases history is. record { numbered = numbers.on_air phases history is.numbered; asked = asks.on_air phases history is.asked; front = fronts.on_air phases history is.front; noted = notes.on_air phases history is.noted };
      on_hearing = λ phases done left station history are some is.
          record { numbered = numbers.on_hearing phases done left station history are some is.numbered; asked = asks.on_hearing phases done left station history are some is.asked; front = fronts.on_hearing phases done left station history are some is.front; noted = notes.on_hearing phases done left station history are some is.noted };
      on_heard = λ phases history is. record { numbered = numbers.on_heard phases history is.numbered; asked = asks.on_heard phases history is.asked; front = fronts.on_heard phases history is.front; noted = notes.on_heard phases history is.noted };
      on_phases = λ history is. record { numbered = numbers.on_phases history is.numbered; asked = asks.on_phases history is.asked; front = fronts.on_phases history is.front; noted = notes.on_phases history is.noted };
      on_end = λ done left station history are some is.
          record { numbered = numbers.on_end done left station history are some is.numbered; asked = asks.on_end done left station history are some is.asked; front = fronts.on_end done left station history are some is.front; noted = notes.on_end done left station history are some is.noted };
      on_ended = λ history is. record { numbered = numbers.on_ended history is.numbered; asked = asks.on_ended history is.asked; front = fronts.on_ended history is.front; noted = notes.on_ended history is.noted };
    }

pub belonging_first : (given : Given) → IsBelongingSoFar given NoTurn []
belonging_first given = record {
  numbered = numbered_first given;
  asked = asked_first given;
  front = front_first given;
  noted = record { each = tt; noted = λ station. sym (first_notes (setup_at given station)) };
}

-- what a station wants to send on a data channel is of one of its links, and the journal names that
pub sends_on_its_link : AreNth → AreApart → (given : Given) → given.stations ≡ 0 ∷ 1 ∷ [] → HaveAddresses given → (phases : ℕ) (done left : List ℕ) (station : ℕ) (history : List Event)
    → given.stations ≡ done ++ station ∷ left → IsBelongingSoFar given (AtPackets phases done (station ∷ left)) history → (channel : ℕ) (octets : List ℕ)
    → use_at given station history ≡ Sends channel octets → is_advertising channel ≡ false → IsOfSendersLink given history station channel octets
sends_on_its_link nth apart given are_two six phases done left station history are is channel octets wanted off =
    sends_on_link nth apart given are_two six phases done left station history are is.asked is.numbered.numbered channel octets wanted off

-- ---- each packet

abbrev pub OfSender : Given → List Event → Event → Type 0
OfSender given before (Transmitted station channel octets hearings) = is_advertising channel ≡ false → IsOfSendersLink given before station channel octets
OfSender given before (TurnBegan slot radios) = Unit {0}
OfSender given before (HostFed station octets) = Unit {0}
OfSender given before (Called station step) = Unit {0}
OfSender given before (Noted station note) = Unit {0}

record AreOfSenders (given : Given) (place : Place) (history : List Event) : Type 0 where
  so_far : IsBelongingSoFar given place history
  each : Each (OfSender given) [] history

call_each : (given : Given) (station : ℕ) (step : Step) (history : List Event) → Each (OfSender given) [] history → Each (OfSender given) [] (after_call given station step history)
call_each given = each_call given (OfSender given) (λ before station step. tt) (λ station before note. tt) (λ before station octets. tt)

feed_each : (given : Given) (station : ℕ) (octets : List ℕ) (history : List Event) → Each (OfSender given) [] history → Each (OfSender given) [] (after_feed given station octets history)
feed_each given = each_feed given (OfSender given) (λ before station step. tt) (λ station before note. tt) (λ before station octets. tt)

senders_kept : IsUnderstood → AreTaken → AreNth → AreApart → (given : Given) → given.stations ≡ 0 ∷ 1 ∷ [] → HaveAddresses given
    → IsKept given (AreOfSenders given)
senders_kept understood taken nth apart given are_two six = let kept = belonging_kept understood taken given are_two six in record {
  on_turn = λ slot plan history begun at is. record {
    so_far = kept.on_turn slot plan history begun at is.so_far;
    each = each_event (OfSender given) history (TurnBegan slot (map plan.radio_of given.stations)) is.each tt;
  };
  on_feed = λ plan done left station history are some now is. record {
    so_far = kept.on_feed plan done left station history are some now is.so_far;
    each = feed_each given station (take (plan.feed_of station) (octets_left given station history)) history is.each;
  };
  on_fed = λ history is. record { so_far = kept.on_fed history is.so_far; each = is.each };
  on_begin = λ slot plan done left station history are due is. record {
    so_far = kept.on_begin slot plan done left station history are due is.so_far;
    each = call_each given station (TurnBegins slot (plan.radio_of station)) history is.each;
  };
  on_begun = λ history is. record { so_far = kept.on_begun history is.so_far; each = is.each };
  on_phase = λ phases history few is. record { so_far = kept.on_phase phases history few is.so_far; each = is.each };
  on_silence = λ phases done left station history are none is. record { so_far = kept.on_silence phases done left station history are none is.so_far; each = is.each };
  on_packet = λ phases plan done left station channel octets history are some due is. record {
    so_far = kept.on_packet phases plan done left station channel octets history are some due is.so_far;
    each = each_event (OfSender given) history (Transmitted station channel octets (hearings_of given plan.fates station channel octets history)) is.each
        (sends_on_its_link nth apart given are_two six phases done left station history are is.so_far channel octets due.is_wanted);
  };
  on_air = λ phases history is. record { so_far = kept.on_air phases history is.so_far; each = is.each };
  on_hearing = λ phases done left station history are some is. record {
    so_far = kept.on_hearing phases done left station history are some is.so_far;
    each = call_each given station (step_of (packet_received station history)) history is.each;
  };
  on_heard = λ phases history is. record { so_far = kept.on_heard phases history is.so_far; each = is.each };
  on_phases = λ history is. record { so_far = kept.on_phases history is.so_far; each = is.each };
  on_end = λ done left station history are some is. record {
    so_far = kept.on_end done left station history are some is.so_far;
    each = call_each given station TurnEnds history is.each;
  };
  on_ended = λ history is. record { so_far = kept.on_ended history is.so_far; each = is.each };
}

run_senders : IsUnderstood → AreTaken → AreNth → AreApart → (given : Given) → given.stations ≡ 0 ∷ 1 ∷ [] → HaveAddresses given
    → Each (OfSender given) [] (history_of (run_of given))
run_senders understood taken nth apart given are_two six =
    ends_with (run_of given) (IsWhole given (AreOfSenders given)) (IsStopped given (AreOfSenders given)) (Each (OfSender given) [])
    (run_kept given (AreOfSenders given) (senders_kept understood taken nth apart given are_two six) (record { so_far = belonging_first given; each = tt }))
    (λ history whole. whole.is.each) (λ history stop stopped. stopped.kept.each)

pub of_senders_link : IsUnderstood → AreTaken → AreNth → AreApart → (given : Given) → given.stations ≡ 0 ∷ 1 ∷ [] → HaveAddresses given
    → (before rest : List Event) (station channel : ℕ) (octets : List ℕ) (hearings : List Hearing) → history_of (run_of given) ≡ before ++ Transmitted station channel octets hearings ∷ rest
    → is_advertising channel ≡ false → IsOfSendersLink given before station channel octets
of_senders_link understood taken nth apart given are_two six before rest station channel octets hearings at =
    each_at (OfSender given) (history_of (run_of given)) before rest (Transmitted station channel octets hearings)
    (run_senders understood taken nth apart given are_two six) at

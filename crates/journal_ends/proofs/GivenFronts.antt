-- Words that are given in a history are given in each front of it.
use Rattle.std.proofs.Common.{◌≡◌, ℕ, true, List, [], ◌∷◌, ◌++◌, refl, sym, ap, subst, ◌∙◌, append-nil, append_assoc}
use Rattle.std.specs.Prelude.{map}
use Rattle.journal_acks.specs.controller_model.Side.{notes_after}
use Rattle.journal_acks.specs.controller_model.Step.{Step as Call, HostOctet}
use Rattle.journal_acks.specs.run_model.History.{Event, Called, HostFed, Noted}
use Rattle.journal_acks.specs.run_model.Journal.{journal_of, side_of}
use Rattle.journal_acks.specs.run_model.Run.{Given, after_call, after_feed, after_octets, facts_at, setup_at}
use Rattle.journal_acks.proofs.journal_packets.SoFar.{IsBelongingSoFar}
use Rattle.journal_acks.proofs.run_model.Fronts.{front_at}
use Rattle.journal_acks.proofs.run_model.Walk.{IsKept, Place}
use Rattle.journal_ends.specs.Asked.{Words}
use Rattle.journal_ends.specs.GivenWords.{GivesWords, GivesWordsIn, draws_in_call, words_next}

-- ---- a history that has more events

pub record HasMore (history later : List Event) : Type 0 where
  pub events : List Event
  pub is : later ≡ history ++ events

-- octets of a host add events to it
pub octets_more : (given : Given) (station : ℕ) (octets : List ℕ) (history : List Event) → HasMore history (after_octets given station octets history)
octets_more given station [] history = record { events = []; is = sym (append-nil history) }
octets_more given station (octet ∷ octets) history =
    let notes = notes_after (setup_at given station) (facts_at given station history) (HostOctet octet) in
    let more = octets_more given station octets (after_call given station (HostOctet octet) history) in
    let called = Called station (HostOctet octet) ∷ map (Noted station) notes in
    record { events = called ++ more.events; is = more.is ∙ append_assoc history called more.events }

pub feed_more : (given : Given) (station : ℕ) (octets : List ℕ) (history : List Event) → HasMore history (after_feed given station octets history)
feed_more given station [] history = record { events = []; is = sym (append-nil history) }
feed_more given station (octet ∷ octets) history =
    let event = HostFed station (octet ∷ octets) in
    let more = octets_more given station (octet ∷ octets) (history ++ event ∷ []) in
    record { events = event ∷ more.events; is = more.is ∙ append_assoc history (event ∷ []) more.events }

-- ---- its words

module _ (words : Words) (given : Given) where
  pub given_front : (history more : List Event) → GivesWordsIn given words (history ++ more) → GivesWordsIn given words history
  given_front history more gives = record {
    kept = gives.kept;
    gives = λ before rest station call draws is.
        gives.gives before (rest ++ more) station call draws (ap (λ events. events ++ more) is ∙ append_assoc before (Called station call ∷ rest) more);
  }

  pub given_earlier : (history later : List Event) → HasMore history later → GivesWordsIn given words later → GivesWordsIn given words history
  given_earlier history later more gives = given_front history more.events (subst (GivesWordsIn given words) more.is gives)

  pub given_call : (station : ℕ) (call : Call) (history : List Event) → GivesWordsIn given words (after_call given station call history) → GivesWordsIn given words history
  given_call station call history gives =
      given_front history (Called station call ∷ map (Noted station) (notes_after (setup_at given station) (facts_at given station history) call)) gives

  -- a call draws the words by the lines before it
  pub given_at : (station : ℕ) (call : Call) (history : List Event) → draws_in_call call ≡ true → GivesWordsIn given words (after_call given station call history)
      → words (side_of station) (journal_of history) ≡ words_next (setup_at given station) (facts_at given station history)
  given_at station call history draws gives =
      gives.gives history (map (Noted station) (notes_after (setup_at given station) (facts_at given station history) call)) station call draws refl

  pub given_octet : (station octet : ℕ) (octets : List ℕ) (history : List Event) → GivesWordsIn given words (after_octets given station (octet ∷ octets) history)
      → words (side_of station) (journal_of history) ≡ words_next (setup_at given station) (facts_at given station history)
  given_octet station octet octets history gives =
      let next = after_call given station (HostOctet octet) history in
      given_at station (HostOctet octet) history refl (given_earlier next (after_octets given station octets next) (octets_more given station octets next) gives)

  -- what each step of a run keeps where they are given up to there, it keeps where they are given in all of the run
  module _ (gives : GivesWords given words) (Q : Place → List Event → Type 0) (knows : IsKept given (IsBelongingSoFar given))
      (known : (place : Place) (history : List Event) → Q place history → IsBelongingSoFar given place history) where
    so_far : (place : Place) (history : List Event) → IsBelongingSoFar given place history → GivesWordsIn given words history
    so_far place history is =
        let front = front_at given place history is.front in given_front history front.rest (subst (GivesWordsIn given words) front.at gives)

    pub given_kept : IsKept given (λ place history. GivesWordsIn given words history → Q place history) → IsKept given Q
    given_kept kept = record {
      on_turn = λ slot plan history begun at has.
          kept.on_turn slot plan history begun at (λ so. has) (so_far _ _ (knows.on_turn slot plan history begun at (known _ history has)));
      on_feed = λ plan done left station history are some now has.
          kept.on_feed plan done left station history are some now (λ so. has) (so_far _ _ (knows.on_feed plan done left station history are some now (known _ history has)));
      on_fed = λ history has. kept.on_fed history (λ so. has) (so_far _ history (known _ history has));
      on_begin = λ slot plan done left station history are due has.
          kept.on_begin slot plan done left station history are due (λ so. has) (so_far _ _ (knows.on_begin slot plan done left station history are due (known _ history has)));
      on_begun = λ history has. kept.on_begun history (λ so. has) (so_far _ history (known _ history has));
      on_phase = λ phases history few has. kept.on_phase phases history few (λ so. has) (so_far _ history (known _ history has));
      on_silence = λ phases done left station history are none has.
          kept.on_silence phases done left station history are none (λ so. has) (so_far _ history (known _ history has));
      on_packet = λ phases plan done left station channel octets history are some due has.
          kept.on_packet phases plan done left station channel octets history are some due (λ so. has)
          (so_far _ _ (knows.on_packet phases plan done left station channel octets history are some due (known _ history has)));
      on_air = λ phases history has. kept.on_air phases history (λ so. has) (so_far _ history (known _ history has));
      on_hearing = λ phases done left station history are some has.
          kept.on_hearing phases done left station history are some (λ so. has) (so_far _ _ (knows.on_hearing phases done left station history are some (known _ history has)));
      on_heard = λ phases history has. kept.on_heard phases history (λ so. has) (so_far _ history (known _ history has));
      on_phases = λ history has. kept.on_phases history (λ so. has) (so_far _ history (known _ history has));
      on_end = λ done left station history are some has.
          kept.on_end done left station history are some (λ so. has) (so_far _ _ (knows.on_end done left station history are some (known _ history has)));
      on_ended = λ history has. kept.on_ended history (λ so. has) (so_far _ history (known _ history has));
    }

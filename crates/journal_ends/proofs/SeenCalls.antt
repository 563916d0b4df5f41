-- What is seen of each open end by the journal, after each call on a controller of a run.
use Rattle.std.proofs.Common.{◌≡◌, ℕ, ◌+◌, ◌≤◌, ◌==◌, Bool, true, false, Option, Some, None, List, [], ◌∷◌, ◌++◌, length, map, refl, sym, ap, subst, ◌∙◌, append-nil, arith}
use Rattle.std.proofs.lemmas.Bool.{eqb-true}
use Rattle.std.proofs.lemmas.List.{append_cancel_left}
use Rattle.ble_base.specs.declared.roles.Side.{Side}
use Rattle.journal_acks.specs.controller_model.Facts.{Facts}
use Rattle.journal_acks.specs.controller_model.Heard.{has_room}
use Rattle.journal_acks.specs.controller_model.Side.{facts_after, notes_after}
use Rattle.journal_acks.specs.controller_model.Since.{notes_opened_on}
use Rattle.journal_acks.specs.controller_model.Step.{Step as Call}
use Rattle.journal_acks.specs.controller_model.declared.doing.Turn.{Turn}
use Rattle.journal_acks.proofs.PassedLinks.{passed_or_new}
use Rattle.journal_acks.proofs.controller_model.Always.{IsInTurn}
use Rattle.host_answers.proofs.LineAnswers.{far_quiet, turn_quiet}
use Rattle.journal_acks.specs.journal_links.LinkLines.{line_of}
use Rattle.journal_acks.specs.link_model.Packets.{verdict_of}
use Rattle.journal_acks.specs.link_model.Step.{PacketReceived}
use Rattle.journal_acks.specs.open_links.OpenLinks.{OpenLink, facts_in, link_at}
use Rattle.journal_acks.specs.run_model.History.{Event, packet_received, steps_in, turns_begun}
use Rattle.journal_acks.specs.run_model.Journal.{journal_of, side_of}
use Rattle.journal_acks.specs.run_model.Readers.{turns_of}
use Rattle.journal_acks.specs.run_model.Run.{Given, after_call, facts_at, setup_at, step_of}
use Rattle.journal_acks.proofs.run_laws.Hearings.{other_facts, own_facts}
use Rattle.journal_acks.proofs.run_laws.TurnPlaces.{Within, at_stage}
use Rattle.journal_acks.proofs.run_model.Calls.{same_station, turns_called}
use Rattle.journal_acks.proofs.run_model.Fates.{turns_are}
use Rattle.journal_acks.proofs.run_model.LinkEnds.{received_by}
use Rattle.journal_acks.proofs.run_model.Stations.{is_in}
use Rattle.journal_acks.proofs.Counting.{IsBegun, facts_event}
use Rattle.journal_acks.proofs.Exchanging.{number_at, number_other}
use Rattle.journal_acks.specs.link_calls.Phases.{HasPassed, IsNew, Stays, Takes, link_worded}
use Rattle.journal_acks.specs.link_calls.Uses.{listens_under, sends_under}
use Rattle.journal_acks.proofs.Standing.{PhasedBy}
use Rattle.journal_ends.specs.Asked.{Words}
use Rattle.journal_ends.specs.Seen.{Says, Seen, heard_as, heard_in_step, seen_of}
use Rattle.journal_ends.proofs.EndsKnown.{AreLined}
use Rattle.journal_ends.proofs.GrownLinks.{HasTaken, IsGrown, grown_same, taken_grown}
use Rattle.journal_ends.proofs.PastSeen.{deaf_say, first_heard, past_new}
use Rattle.journal_ends.proofs.ReachedLinks.{AreUnreached, unreached_called, unreached_now}
use Rattle.journal_ends.proofs.SeenEvents.{IsSaying, call_says, grows_seen, lines_at, seen_at}
use Rattle.journal_ends.proofs.SeenLists.{seen_unheard}
use Rattle.journal_ends.proofs.WordedLinks.{IsWordedAs, worded_as, worded_verdict}

-- ---- what is expected

-- what a packet that was on the air gives the end that is to take it
abbrev pub to_hear : Bool → Option (List ℕ) → ℕ → OpenLink → List Seen
to_hear true (Some octets) slot link = heard_as (verdict_of link.setup (facts_in link) octets) slot octets
to_hear true None slot link = []
to_hear false received slot link = []

abbrev pub seen_in_link : ℕ → Side → OpenLink → List Seen
seen_in_link number side link = seen_of side number link.setup link.past

-- before an end takes a packet that was on the air, the journal is one reception ahead
abbrev pub IsSeenAt : Words → Option (List ℕ) → ℕ → Turn → OpenLink → ℕ → Side → List Event → Type 0
IsSeenAt words received handle turn link number side history =
    seen_at words number side history ≡ seen_in_link number side link ++ to_hear (listens_under handle turn.doing) received turn.slot link

abbrev pub AreSeenSo : Words → Given → List Event → (ℕ → Option (List ℕ)) → Type 0
AreSeenSo words given history received = (station handle : ℕ) (link : OpenLink) → is_in station given.stations ≡ true → link_at handle (facts_at given station history).links ≡ Some link
    → IsSeenAt words (received station) handle (facts_at given station history).turn link (number_at station handle history) (side_of station) history

-- an end that has no packet to take hears no more
pub hears_none : (listens : Bool) (received : Option (List ℕ)) (slot : ℕ) (link : OpenLink) → (listens ≡ true → received ≡ None) → to_hear listens received slot link ≡ []
hears_none true None slot link none = refl
hears_none true (Some octets) slot link none = absurd (let h : Some octets ≡ None = none refl in absurd cc)
hears_none false received slot link none = refl

pub whole : (words : Words) (received : Option (List ℕ)) (handle : ℕ) (turn : Turn) (link : OpenLink) (number : ℕ) (side : Side) (history : List Event)
    → (listens_under handle turn.doing ≡ true → received ≡ None) → IsSeenAt words received handle turn link number side history → seen_at words number side history ≡ seen_in_link number side link
whole words received handle turn link number side history none is =
    is ∙ ap (λ xs. seen_in_link number side link ++ xs) (hears_none (listens_under handle turn.doing) received turn.slot link none)
    ∙ append-nil (seen_in_link number side link)

pub from_whole : (words : Words) (received : Option (List ℕ)) (handle : ℕ) (turn : Turn) (link : OpenLink) (number : ℕ) (side : Side) (history : List Event)
    → (listens_under handle turn.doing ≡ true → received ≡ None) → seen_at words number side history ≡ seen_in_link number side link → IsSeenAt words received handle turn link number side history
from_whole words received handle turn link number side history none is =
    is ∙ sym (ap (λ xs. seen_in_link number side link ++ xs) (hears_none (listens_under handle turn.doing) received turn.slot link none)
    ∙ append-nil (seen_in_link number side link))

pub moved : (words : Words) (handle : ℕ) (link : OpenLink) (side : Side) (history : List Event) (received received_too : Option (List ℕ)) (turn turn_too : Turn) (number number_too : ℕ)
    → received_too ≡ received → turn_too ≡ turn → number_too ≡ number → IsSeenAt words received handle turn link number side history
    → IsSeenAt words received_too handle turn_too link number_too side history
moved words handle link side history received received_too turn turn_too number number_too r t n is =
    subst (λ one. IsSeenAt words one handle turn_too link number_too side history) (sym r)
    (subst (λ now. IsSeenAt words received handle now link number_too side history) (sym t)
    (subst (λ one. IsSeenAt words received handle turn link one side history) (sym n) is))

-- ---- an end to which more happened

-- it heard nothing
pub grown_seen : (words : Words) (number : ℕ) (side : Side) (history after : List Event) (base link : OpenLink) → IsSaying words number side history after
    → lines_at number side history ≡ map (line_of side number) (notes_opened_on base.setup base.past)
    → lines_at number side after ≡ map (line_of side number) (notes_opened_on link.setup link.past)
    → IsGrown base link → seen_at words number side history ≡ seen_in_link number side base → seen_at words number side after ≡ seen_in_link number side link
grown_seen words number side history after base link saying lined lined_after grown seen =
    grows_seen words number side base.setup base.past grown.steps [] history after saying lined
    (lined_after ∙ (λ i. map (line_of side number) (notes_opened_on (grown.setup_is i) (grown.past_is i))))
    (deaf_say side number base.setup (facts_in base) grown.steps grown.deaf)
    (seen ∙ sym (append-nil (seen_in_link number side base)))
    ∙ sym (λ i. seen_of side number (grown.setup_is i) (grown.past_is i))

-- ---- events and calls that leave an end as it is

-- no line of it comes
pub still_same : (words : Words) (number : ℕ) (side : Side) (history after : List Event) → IsSaying words number side history after → lines_at number side after ≡ lines_at number side history
    → seen_at words number side after ≡ seen_at words number side history
still_same words number side history after saying same =
    let none = append_cancel_left (lines_at number side history) saying.more [] (sym saying.lines ∙ same ∙ sym (append-nil (lines_at number side history))) in
    saying.seen ∙ ap (λ xs. seen_at words number side history ++ map Says xs) none ∙ append-nil (seen_at words number side history)

module _ (words : Words) (given : Given) where
  pub seen_same : (history : List Event) (received received_too : ℕ → Option (List ℕ)) → ((station : ℕ) → is_in station given.stations ≡ true → received_too station ≡ received station)
      → AreSeenSo words given history received → AreSeenSo words given history received_too
  seen_same history received received_too r seen = λ station handle link in_it at.
      let turn = (facts_at given station history).turn in
      let number = number_at station handle history in
      moved words handle link (side_of station) history (received station) (received_too station) turn turn number number (r station in_it) refl refl (seen station handle link in_it at)

  module _ (history after : List Event) (lined : AreLined given history) (lined_after : AreLined given after) where
    -- a station with the same links, of the same numbers
    pub still_at : (received : Option (List ℕ)) (station handle : ℕ) (link : OpenLink) → is_in station given.stations ≡ true
        → IsSaying words (number_at station handle history) (side_of station) history after → facts_at given station after ≡ facts_at given station history → number_at station handle after ≡ number_at station handle history
        → link_at handle (facts_at given station after).links ≡ Some link
        → ((one : OpenLink) → link_at handle (facts_at given station history).links ≡ Some one
        → IsSeenAt words received handle (facts_at given station history).turn one (number_at station handle history) (side_of station) history)
        → IsSeenAt words received handle (facts_at given station after).turn link (number_at station handle after) (side_of station) after
    still_at received station handle link in_it saying facts number at seen =
        let side = side_of station in
        let own = number_at station handle history in
        let was = ap (λ (f : Facts). link_at handle f.links) (sym facts) ∙ at in
        let now = subst (λ n. lines_at n side after ≡ map (line_of side n) (notes_opened_on link.setup link.past)) number (lined_after station handle link in_it at) in
        let same = still_same words own side history after saying (now ∙ sym (lined station handle link in_it was)) in
        moved words handle link side after received received (facts_at given station history).turn (facts_at given station after).turn own (number_at station handle after)
        refl (ap (λ (f : Facts). f.turn) facts) number
        (same ∙ seen link was)

  -- an event that is not a packet
  pub seen_event : (history : List Event) (event : Event) (received : ℕ → Option (List ℕ)) → AreLined given history → AreLined given (history ++ event ∷ [])
      → ((station : ℕ) → steps_in station event ≡ []) → ((number : ℕ) (side : Side) → IsSaying words number side history (history ++ event ∷ []))
      → ((station handle : ℕ) → number_at station handle (history ++ event ∷ []) ≡ number_at station handle history)
      → AreSeenSo words given history received → AreSeenSo words given (history ++ event ∷ []) received
  seen_event history event received lined lined_after none says number seen = λ station handle link in_it at.
      still_at history (history ++ event ∷ []) lined lined_after (received station) station handle link in_it (says (number_at station handle history) (side_of station)) (facts_event given station history event (none station))
      (number station handle) at (λ one was. seen station handle one in_it was)

  -- a call, by what it does to the ends of its station, and with no answer to the other one
  pub seen_call : (station : ℕ) (step : Call) (history : List Event) (received received_too : ℕ → Option (List ℕ))
      → ((other : ℕ) → is_in other given.stations ≡ true → (other == station) ≡ false → side_of other ≡ side_of station → ⊥) → AreLined given history
      → AreLined given (after_call given station step history)
      → ((handle : ℕ) (link : OpenLink) → link_at handle (facts_at given station (after_call given station step history)).links ≡ Some link
      → IsSeenAt words (received_too station) handle (facts_at given station (after_call given station step history)).turn link
      (number_at station handle (after_call given station step history)) (side_of station) (after_call given station step history))
      → ((other : ℕ) → is_in other given.stations ≡ true → (other == station) ≡ false → received_too other ≡ received other)
      → AreSeenSo words given history received → AreSeenSo words given (after_call given station step history) received_too
  seen_call station step history received received_too apart lined lined_after own r seen = λ other handle link in_it at. by other handle link in_it at (other == station) refl
    where
      by : (other handle : ℕ) (link : OpenLink) → is_in other given.stations ≡ true → link_at handle (facts_at given other (after_call given station step history)).links ≡ Some link
          → (same : Bool) → (other == station) ≡ same
          → IsSeenAt words (received_too other) handle (facts_at given other (after_call given station step history)).turn link
          (number_at other handle (after_call given station step history)) (side_of other) (after_call given station step history)
      by other handle link in_it at true one =
          let equal = eqb-true other station one in
          let next = after_call given station step history in
          subst (λ n. IsSeenAt words (received_too n) handle (facts_at given n next).turn link (number_at n handle next) (side_of n) next) (sym equal)
          (own handle link (subst (λ n. link_at handle (facts_at given n next).links ≡ Some link) equal at))
      by other handle link in_it at false differs =
          still_at history (after_call given station step history) lined lined_after (received_too other) other handle link in_it
          (call_says words given (number_at other handle history) (side_of other) station step history
          (far_quiet (side_of other) station (notes_after (setup_at given station) (facts_at given station history) step) (apart other in_it differs)))
          (other_facts given station step history other differs) (number_other given station step history other handle differs) at
          (λ one was.
          let turn = (facts_at given other history).turn in
          let number = number_at other handle history in
          moved words handle one (side_of other) history (received other) (received_too other) turn turn number number (r other in_it differs) refl refl (seen other handle one in_it was))

  -- ---- a call, at its own station

  module _ (station : ℕ) (step : Call) (history : List Event) (in_it : is_in station given.stations ≡ true) (lined : AreLined given history)
      (lined_after : AreLined given (after_call given station step history)) where
    abbrev after : List Event
    after = after_call given station step history

    abbrev side : Side
    side = side_of station

    pub held_at : (handle : ℕ) (link : OpenLink) → link_at handle (facts_at given station after).links ≡ Some link
        → link_at handle (facts_after (setup_at given station) (facts_at given station history) step).links ≡ Some link
    held_at handle link at = ap (λ (f : Facts). link_at handle f.links) (sym (own_facts given station step history)) ∙ at

    module _ (handle : ℕ) (link : OpenLink) (at : link_at handle (facts_at given station after).links ≡ Some link) (received : Option (List ℕ))
        (none : received ≡ None) where
      abbrev IsSeenThen : Type 0
      IsSeenThen = IsSeenAt words received handle (facts_at given station after).turn link (number_at station handle after) side after

      abbrev own : ℕ
      own = number_at station handle history

      seen_then : number_at station handle after ≡ own → seen_at words own side after ≡ seen_in_link own side link → IsSeenThen
      seen_then number seen =
          from_whole words received handle (facts_at given station after).turn link (number_at station handle after) side after (λ listens. none)
          (subst (λ n. seen_at words n side after ≡ seen_in_link n side link) (sym number) seen)

      module _ (number : number_at station handle after ≡ own) (base : OpenLink) (was : link_at handle (facts_at given station history).links ≡ Some base) where
        lines_before : lines_at own side history ≡ map (line_of side own) (notes_opened_on base.setup base.past)
        lines_before = lined station handle base in_it was

        lines_now : lines_at own side after ≡ map (line_of side own) (notes_opened_on link.setup link.past)
        lines_now = subst (λ n. lines_at n side after ≡ map (line_of side n) (notes_opened_on link.setup link.past)) number (lined_after station handle link in_it at)

        -- the call is of a turn: it has no answer
        abbrev saying : IsInTurn step → IsSaying words own side history after
        saying turn = call_says words given own side station step history (turn_quiet given station step history turn)

        -- the end hears nothing in it
        pub quiet_own : IsInTurn step → IsGrown base link → seen_at words own side history ≡ seen_in_link own side base → IsSeenThen
        quiet_own turn grown seen = seen_then number (grown_seen words own side history after base link (saying turn) lines_before lines_now grown seen)

        -- its host asks it, or not
        pub hosted_own : seen_at words own side after ≡ seen_in_link own side link → IsSeenThen
        hosted_own seen = seen_then number seen

        -- it takes a packet, with the words that it was given before
        pub taking_own : IsInTurn step → (slot : ℕ) (octets : List ℕ) (room : Bool) (worded : OpenLink) → IsWordedAs base worded → HasTaken slot octets room worded link
            → seen_at words own side history ≡ seen_in_link own side base ++ heard_as (verdict_of base.setup (facts_in base) octets) slot octets → IsSeenThen
        taking_own turn slot octets room worded given takes seen =
            let took = PacketReceived slot octets room in
            seen_then number
            (grows_seen words own side worded.setup worded.past (took ∷ takes.steps) (heard_in_step worded.setup (facts_in worded) took) history after (saying turn)
            (lines_before ∙ sym (ap (map (line_of side own)) given.notes))
            (lines_now ∙ (λ i. map (line_of side own) (notes_opened_on (takes.setup_is i) (takes.past_is i))))
            (first_heard side own worded.setup (facts_in worded) took takes.steps refl takes.deaf)
            (seen ∙ sym (λ i. given.seen side own i ++ heard_as (worded_verdict base worded given octets i) slot octets))
            ∙ sym (λ i. seen_of side own (takes.setup_is i) (takes.past_is i)))

      -- the link is one of this turn
      pub fresh_own : AreUnreached words history → (begun : IsBegun after (number_at station handle after) station link.setup) → link.setup.opened + 1 ≡ turns_begun after
          → link.past ≡ [] → IsSeenThen
      fresh_own unreached begun now new =
          let number = number_at station handle after in
          let turns : length (turns_of (journal_of after)) ≤ begun.link.slot + 1 = (let all = turns_are after in let slot = begun.slot in omega (arith, all, now, slot)) in
          from_whole words received handle (facts_at given station after).turn link number side after (λ listens. none)
          (seen_unheard words side number (journal_of after) begun.link begun.is_link turns
          (unreached_now words after number station link.setup side (unreached_called words given station step history unreached number) begun now)
          ∙ ap (map Says) (lined_after station handle link in_it at)
          ∙ sym (ap (λ past. seen_of side number link.setup past) new ∙ past_new side number link.setup
          ∙ ap (λ past. map Says (map (line_of side number) (notes_opened_on link.setup past))) (sym new)))

-- ---- a phase passes

module _ (words : Words) (given : Given) (station : ℕ) (history : List Event) (phases : ℕ) (in_it : is_in station given.stations ≡ true)
    (phased : PhasedBy given history station (at_stage (Within phases) (turns_begun history))) (lined : AreLined given history)
    (lined_after : AreLined given (after_call given station (step_of (packet_received station history)) history)) (unreached : AreUnreached words history)
    (seen : AreSeenSo words given history (λ one. packet_received one history))
    (begun_after : (handle : ℕ) (link : OpenLink) → link_at handle (facts_at given station (after_call given station (step_of (packet_received station history)) history)).links ≡ Some link
    → IsBegun (after_call given station (step_of (packet_received station history)) history)
    (number_at station handle (after_call given station (step_of (packet_received station history)) history)) station link.setup) where
  abbrev taken : Option (List ℕ)
  taken = packet_received station history

  abbrev next : List Event
  next = after_call given station (step_of taken) history

  abbrev facts : Facts
  facts = facts_at given station history

  abbrev IsSeenNow : ℕ → OpenLink → Type 0
  IsSeenNow handle link = IsSeenAt words (packet_received station next) handle (facts_at given station next).turn link (number_at station handle next) (side_of station) next

  phase_turn : (received : Option (List ℕ)) → IsInTurn (step_of received)
  phase_turn None = tt
  phase_turn (Some octets) = tt

  none_next : packet_received station next ≡ None
  none_next = received_by given station station (step_of taken) history true (same_station station)

  fresh : (handle : ℕ) (link : OpenLink) → link_at handle (facts_at given station next).links ≡ Some link → link.setup.opened ≡ facts.turn.slot → link.past ≡ []
      → IsSeenNow handle link
  fresh handle link at opened new =
      let turns : turns_begun next ≡ turns_begun history = turns_called station (step_of taken) (notes_after (setup_at given station) facts (step_of taken)) history in
      let now = ap (λ n. n + 1) opened ∙ phased.uses.in_turn.slot_is ∙ sym turns in
      fresh_own words given station (step_of taken) history in_it lined lined_after handle link at (packet_received station next) none_next unreached (begun_after handle link at) now new

  passed : (handle : ℕ) (link : OpenLink) → link_at handle (facts_at given station next).links ≡ Some link → number_at station handle next ≡ number_at station handle history
      → HasPassed (setup_at given station) facts (has_room (setup_at given station) facts) taken handle (facts_after (setup_at given station) facts (step_of taken)).turn.doing link → IsSeenNow handle link
  passed handle link at number (IsNew end made opened off) = fresh handle link at (ap (λ (l : OpenLink). l.setup.opened) made ∙ opened) (ap (λ (l : OpenLink). l.past) made)
  passed handle link at number (Stays was none nothing listened) =
      quiet_own words given station (step_of taken) history in_it lined lined_after handle link at (packet_received station next) none_next number link was (phase_turn taken) (grown_same link)
      (whole words taken handle facts.turn link (number_at station handle history) (side_of station) history nothing (seen station handle link in_it was))
  passed handle link at number (Takes base octets was some on same) =
      let setup = setup_at given station in
      let room = has_room setup facts in
      let worded = link_worded setup facts facts.turn.doing base in
      let sends = sends_under handle (facts_after (setup_at given station) facts (step_of taken)).turn.doing in
      taking_own words given station (step_of taken) history in_it lined lined_after handle link at (packet_received station next) none_next number base was (phase_turn taken) facts.turn.slot octets room
      worded (worded_as setup facts facts.turn.doing base) (taken_grown sends handle room octets facts worded link same)
      (seen station handle base in_it was ∙ (λ i. seen_in_link (number_at station handle history) (side_of station) base ++ to_hear (on i) (some i) facts.turn.slot base))

  pub passes_own : (handle : ℕ) (link : OpenLink) → link_at handle (facts_at given station next).links ≡ Some link → IsSeenNow handle link
  passes_own handle link at =
      passed_or_new given station history phased.uses.in_turn.listens (IsSeenNow handle link) handle link at (passed handle link at)
      (λ new. fresh handle link at new.opened new.past)

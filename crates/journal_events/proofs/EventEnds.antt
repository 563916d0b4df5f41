-- The event of each open end by the journal, after each event and each call of a run.
use Rattle.std.proofs.Common.{◌≡◌, ℕ, ◌==◌, ◌&&◌, Bool, true, false, Option, Some, None, List, [], ◌∷◌, ◌++◌, map, refl, sym, ap, subst, ◌∙◌, append-nil}
use Rattle.std.proofs.lemmas.Bool.{eqb-true}
use Rattle.std.proofs.lemmas.List.{map-append}
use Rattle.ble_base.specs.declared.roles.Side.{Side}
use Rattle.journal_sending.specs.journal_leaving.controller_model.Facts.{Facts}
use Rattle.journal_sending.specs.journal_leaving.controller_model.Since.{notes_opened_on}
use Rattle.journal_sending.specs.journal_leaving.controller_model.Side.{notes_after}
use Rattle.journal_sending.specs.journal_leaving.controller_model.Step.{Step as Call}
use Rattle.journal_sending.specs.journal_leaving.controller_model.declared.doing.Turn.{Turn}
use Rattle.journal_sending.proofs.journal_leaving.controller_model.Always.{IsInTurn}
use Rattle.journal_sending.proofs.journal_leaving.journal_controls.host_answers.LineAnswers.{far_quiet, turn_quiet}
use Rattle.journal_sending.specs.journal_leaving.journal_acks.link_calls.Uses.{listens_under, sends_under}
use Rattle.journal_sending.specs.journal_leaving.journal_ends.Asked.{Words}
use Rattle.journal_sending.specs.journal_leaving.journal_ends.GivenWords.{AreKept}
use Rattle.journal_sending.specs.journal_leaving.journal_links.LinkLines.{line_of}
use Rattle.journal_sending.specs.journal_leaving.link_model.End.{notes_from}
use Rattle.journal_sending.specs.journal_leaving.link_model.keyed_control.Keyed.{Keyed}
use Rattle.journal_sending.specs.journal_leaving.journal_data.open_links.OpenLinks.{OpenLink, facts_in, link_at}
use Rattle.journal_sending.specs.journal_leaving.run_model.History.{Event, steps_in}
use Rattle.journal_sending.specs.journal_leaving.run_model.Journal.{side_of}
use Rattle.journal_sending.specs.journal_leaving.run_model.Run.{Given, after_call, facts_at, setup_at, step_of}
use Rattle.journal_sending.proofs.journal_leaving.journal_controls.EndMoves.{steps_later}
use Rattle.journal_sending.proofs.journal_leaving.journal_controls.EventMoves.{drawn_at, keyed_at, turn_at, withholds_at}
use Rattle.journal_sending.proofs.journal_leaving.journal_ends.EndsKnown.{AreLined}
use Rattle.journal_sending.proofs.journal_leaving.journal_ends.KeptSeen.{listened_as}
use Rattle.journal_sending.proofs.journal_leaving.journal_ends.PastSeen.{notes_more}
use Rattle.journal_sending.proofs.journal_leaving.journal_ends.SeenEvents.{lines_at}
use Rattle.journal_sending.proofs.journal_leaving.journal_acks.Counting.{facts_event}
use Rattle.journal_sending.proofs.journal_leaving.journal_acks.Exchanging.{number_at, number_other}
use Rattle.journal_sending.proofs.journal_leaving.journal_ends.run_laws.Hearings.{other_facts}
use Rattle.journal_sending.proofs.journal_leaving.run_model.Stations.{is_in}
use Rattle.journal_sending.specs.journal_leaving.journal_acks.link_calls.Turns.{sent_if}
use Rattle.journal_events.specs.EventLines.{EventLines}
use Rattle.journal_events.specs.Told.{event_if, event_lines, event_next, event_said, event_taking}
use Rattle.journal_events.proofs.EventMoves.{call_moves, call_stays, event_at}
use Rattle.journal_events.proofs.LinkEvents.{EventsTo}

-- ---- what is expected

-- before the packet that an end is to send is on the air, the journal tells of the end before it; before the end takes a
-- packet that was on the air, the journal is one reception ahead
pub record IsEventAt (words : Words) (unsent : Bool) (received : Option (List ℕ)) (handle : ℕ) (turn : Turn) (link : OpenLink) (number : ℕ) (side : Side) (history : List Event) : Type 0 where
  pub base : OpenLink
  pub is : link ≡ sent_if (unsent && sends_under handle turn.doing) turn.slot base
  pub on : event_at words number side history ≡ event_taking (listens_under handle turn.doing) received turn.slot base

abbrev pub AreEventsSo : Words → Given → List Event → (ℕ → Bool) → (ℕ → Option (List ℕ)) → Type 0
AreEventsSo words given history unsent received =
    (station handle : ℕ) (link : OpenLink) → is_in station given.stations ≡ true → link_at handle (facts_at given station history).links ≡ Some link
    → IsEventAt words (unsent station) (received station) handle (facts_at given station history).turn link (number_at station handle history) (side_of station) history

-- an end that has no packet to take
pub takes_none : (listens : Bool) (received : Option (List ℕ)) (slot : ℕ) (link : OpenLink) → (listens ≡ true → received ≡ None)
    → event_taking listens received slot link ≡ event_lines (facts_in link)
takes_none true None slot link none = refl
takes_none true (Some octets) slot link none = absurd (let h : Some octets ≡ None = none refl in absurd cc)
takes_none false received slot link none = refl

pub and_none : (b : Bool) → (b && false) ≡ false
and_none true = refl
and_none false = refl

-- and none to send
pub whole : (words : Words) (unsent : Bool) (received : Option (List ℕ)) (handle : ℕ) (turn : Turn) (link : OpenLink) (number : ℕ) (side : Side) (history : List Event)
    → (unsent && sends_under handle turn.doing) ≡ false → (listens_under handle turn.doing ≡ true → received ≡ None)
    → IsEventAt words unsent received handle turn link number side history → event_at words number side history ≡ event_lines (facts_in link)
whole words unsent received handle turn link number side history sent none is =
    is.on ∙ takes_none (listens_under handle turn.doing) received turn.slot is.base none
    ∙ ap (λ (l : OpenLink). event_lines (facts_in l)) (sym (is.is ∙ ap (λ b. sent_if b turn.slot is.base) sent))

pub moved : (words : Words) (handle : ℕ) (link : OpenLink) (side : Side) (history : List Event) (unsent unsent_too : Bool) (received received_too : Option (List ℕ)) (turn turn_too : Turn) (number number_too : ℕ)
    → unsent_too ≡ unsent → received_too ≡ received → turn_too ≡ turn → number_too ≡ number → IsEventAt words unsent received handle turn link number side history
    → IsEventAt words unsent_too received_too handle turn_too link number_too side history
moved words handle link side history unsent unsent_too received received_too turn turn_too number number_too u r t n is =
    subst (λ b. IsEventAt words b received_too handle turn_too link number_too side history) (sym u)
    (subst (λ one. IsEventAt words unsent one handle turn_too link number_too side history) (sym r)
    (subst (λ now. IsEventAt words unsent received handle now link number_too side history) (sym t)
    (subst (λ one. IsEventAt words unsent received handle turn link one side history) (sym n) is)))

-- a station that sends nothing on the link
pub any_sending : (words : Words) (unsent unsent_too : Bool) (received : Option (List ℕ)) (handle : ℕ) (turn : Turn) (link : OpenLink) (number : ℕ) (side : Side) (history : List Event)
    → sends_under handle turn.doing ≡ false → IsEventAt words unsent received handle turn link number side history → IsEventAt words unsent_too received handle turn link number side history
any_sending words unsent unsent_too received handle turn link number side history none is = record {
  base = is.base;
  is = is.is ∙ ap (λ b. sent_if b turn.slot is.base) (ap (λ b. unsent && b) none ∙ and_none unsent ∙ sym (ap (λ b. unsent_too && b) none ∙ and_none unsent_too));
  on = is.on;
}

-- by the call that comes next
pub taking_next : (handle : ℕ) (facts : Facts) (received : Option (List ℕ)) (link : OpenLink)
    → event_taking (listens_under handle facts.turn.doing) received facts.turn.slot link ≡ event_next handle facts (step_of received) link
taking_next handle facts None link = takes_none (listens_under handle facts.turn.doing) None facts.turn.slot link (λ on. refl)
taking_next handle facts (Some octets) link =
    by (listens_under handle facts.turn.doing) ∙ ap (λ b. event_if b facts.turn.slot octets link) (listened_as handle facts.turn.doing)
  where
    by : (listens : Bool) → event_taking listens (Some octets) facts.turn.slot link ≡ event_if listens facts.turn.slot octets link
    by true = refl
    by false = refl

-- ---- events and calls that leave an end as it is

module _ (words : Words) (given : Given) where
  pub events_same : (history : List Event) (unsent unsent_too : ℕ → Bool) (received received_too : ℕ → Option (List ℕ))
      → ((station : ℕ) → is_in station given.stations ≡ true → unsent_too station ≡ unsent station)
      → ((station : ℕ) → is_in station given.stations ≡ true → received_too station ≡ received station)
      → AreEventsSo words given history unsent received → AreEventsSo words given history unsent_too received_too
  events_same history unsent unsent_too received received_too u r are = λ station handle link in_it at.
      let turn = (facts_at given station history).turn in
      let number = number_at station handle history in
      moved words handle link (side_of station) history (unsent station) (unsent_too station) (received station) (received_too station) turn turn number number (u station in_it) (r station in_it) refl refl
      (are station handle link in_it at)

  -- a station with the same links, of the same numbers
  still_at : (history after : List Event) (unsent : Bool) (received : Option (List ℕ)) (station handle : ℕ) (link : OpenLink)
      → facts_at given station after ≡ facts_at given station history → number_at station handle after ≡ number_at station handle history
      → event_at words (number_at station handle history) (side_of station) after ≡ event_at words (number_at station handle history) (side_of station) history
      → IsEventAt words unsent received handle (facts_at given station history).turn link (number_at station handle history) (side_of station) history
      → IsEventAt words unsent received handle (facts_at given station after).turn link (number_at station handle after) (side_of station) after
  still_at history after unsent received station handle link facts number stays is =
      moved words handle link (side_of station) after unsent unsent received received (facts_at given station history).turn (facts_at given station after).turn
      (number_at station handle history) (number_at station handle after) refl refl (ap (λ (f : Facts). f.turn) facts) number
      (record { base = is.base; is = is.is; on = stays ∙ is.on })

  -- an event that is not a packet
  pub events_event : (history : List Event) (event : Event) (unsent : ℕ → Bool) (received : ℕ → Option (List ℕ)) → ((station : ℕ) → steps_in station event ≡ [])
      → ((number : ℕ) (side : Side) → event_at words number side (history ++ event ∷ []) ≡ event_at words number side history)
      → ((station handle : ℕ) → number_at station handle (history ++ event ∷ []) ≡ number_at station handle history)
      → AreEventsSo words given history unsent received → AreEventsSo words given (history ++ event ∷ []) unsent received
  events_event history event unsent received none same number are = λ station handle link in_it at.
      let facts = facts_event given station history event (none station) in
      still_at history (history ++ event ∷ []) (unsent station) (received station) station handle link facts (number station handle)
      (same (number_at station handle history) (side_of station))
      (are station handle link in_it (ap (λ (f : Facts). link_at handle f.links) (sym facts) ∙ at))

  -- a call, by what it does to the ends of its station, and with no answer to the other one
  pub events_call : (station : ℕ) (step : Call) (history : List Event) (unsent unsent_too : ℕ → Bool) (received received_too : ℕ → Option (List ℕ))
      → ((other : ℕ) → is_in other given.stations ≡ true → (other == station) ≡ false → side_of other ≡ side_of station → ⊥) → AreKept words → AreLined given history
      → AreLined given (after_call given station step history)
      → ((handle : ℕ) (link : OpenLink) → link_at handle (facts_at given station (after_call given station step history)).links ≡ Some link
      → IsEventAt words (unsent_too station) (received_too station) handle (facts_at given station (after_call given station step history)).turn link
      (number_at station handle (after_call given station step history)) (side_of station) (after_call given station step history))
      → ((other : ℕ) → is_in other given.stations ≡ true → (other == station) ≡ false → unsent_too other ≡ unsent other)
      → ((other : ℕ) → is_in other given.stations ≡ true → (other == station) ≡ false → received_too other ≡ received other)
      → AreEventsSo words given history unsent received → AreEventsSo words given (after_call given station step history) unsent_too received_too
  events_call station step history unsent unsent_too received received_too apart kept lined lined_after own u r are = λ other handle link in_it at. by other handle link in_it at (other == station) refl
    where
      by : (other handle : ℕ) (link : OpenLink) → is_in other given.stations ≡ true → link_at handle (facts_at given other (after_call given station step history)).links ≡ Some link
          → (same : Bool) → (other == station) ≡ same
          → IsEventAt words (unsent_too other) (received_too other) handle (facts_at given other (after_call given station step history)).turn link
          (number_at other handle (after_call given station step history)) (side_of other) (after_call given station step history)
      by other handle link in_it at true one =
          let equal = eqb-true other station one in
          let next = after_call given station step history in
          subst (λ n. IsEventAt words (unsent_too n) (received_too n) handle (facts_at given n next).turn link (number_at n handle next) (side_of n) next) (sym equal)
          (own handle link (subst (λ n. link_at handle (facts_at given n next).links ≡ Some link) equal at))
      by other handle link in_it at false differs =
          let next = after_call given station step history in
          let side = side_of other in
          let number = number_at other handle history in
          let facts = other_facts given station step history other differs in
          let numbers = number_other given station step history other handle differs in
          let was = ap (λ (f : Facts). link_at handle f.links) (sym facts) ∙ at in
          let now = subst (λ n. lines_at n side next ≡ map (line_of side n) (notes_opened_on link.setup link.past)) numbers (lined_after other handle link in_it at) in
          let same = now ∙ sym (lined other handle link in_it was) ∙ sym (append-nil (lines_at number side history)) in
          let turn = (facts_at given other history).turn in
          still_at history next (unsent_too other) (received_too other) other handle link facts numbers
          (call_stays words given number side station step history kept
          (far_quiet side station (notes_after (setup_at given station) (facts_at given station history) step) (apart other in_it differs)) same)
          (moved words handle link side history (unsent other) (unsent_too other) (received other) (received_too other) turn turn number number (u other in_it differs) (r other in_it differs) refl refl
          (are other handle link in_it was))

  -- ---- a call, at its own station

  module _ (station : ℕ) (step : Call) (history : List Event) (in_it : is_in station given.stations ≡ true) (lined : AreLined given history)
      (lined_after : AreLined given (after_call given station step history)) where
    abbrev after : List Event
    after = after_call given station step history

    abbrev side : Side
    side = side_of station

    module _ (handle : ℕ) (link : OpenLink) (at : link_at handle (facts_at given station after).links ≡ Some link) (received : Option (List ℕ)) (none : received ≡ None)
        (number : number_at station handle after ≡ number_at station handle history) (base : OpenLink) (was : link_at handle (facts_at given station history).links ≡ Some base) where
      abbrev own : ℕ
      own = number_at station handle history

      -- what its host asks moves it, and it sends nothing
      pub asked_own : event_at words own side after ≡ event_lines (facts_in link) → sends_under handle (facts_at given station after).turn.doing ≡ false
          → IsEventAt words true received handle (facts_at given station after).turn link (number_at station handle after) side after
      asked_own is doing =
          let turn = (facts_at given station after).turn in record {
            base = link;
            is = sym (ap (λ b. sent_if b turn.slot link) doing);
            on = ap (λ n. event_at words n side after) number ∙ is ∙ sym (takes_none (listens_under handle turn.doing) received turn.slot link (λ on. none));
          }

      -- what happened to an end in a call of a turn moves it by the lines of the call, and a packet that it is to send comes after them
      pub goes_own : AreKept words → IsInTurn step → (sends : Bool) (from : Keyed) (was_in : EventLines)
          → (to : EventsTo side own (withholds_at side history) (drawn_at words side history) (turn_at history) base link sends from was_in)
          → sends_under handle (facts_at given station after).turn.doing ≡ sends
          → ((held : OpenLink) → sent_if sends (turn_at history) held ≡ sent_if sends (facts_at given station after).turn.slot held)
          → keyed_at words own side history ≡ Some from → event_at words own side history ≡ was_in
          → IsEventAt words true received handle (facts_at given station after).turn link (number_at station handle after) side after
      goes_own kept in_turn sends from was_in to doing slots keyed is =
          let notes = notes_from base.setup (facts_in base) to.steps in
          let now = subst (λ n. lines_at n side after ≡ map (line_of side n) (notes_opened_on link.setup link.past)) number (lined_after station handle link in_it at) in
          let lines : lines_at own side after ≡ lines_at own side history ++ map (line_of side own) notes =
          now ∙ (λ i. map (line_of side own) (notes_opened_on (to.setup_is i) (to.past_is i)))
          ∙ ap (map (line_of side own)) (notes_more base.setup base.past to.steps)
          ∙ map-append (line_of side own) (notes_opened_on base.setup base.past) notes
          ∙ ap (λ xs. xs ++ map (line_of side own) notes) (sym (lined station handle base in_it was)) in
          let turn = (facts_at given station after).turn in record {
            base = to.held;
            is = to.is ∙ slots to.held ∙ ap (λ b. sent_if b turn.slot to.held) (sym doing);
            on = ap (λ n. event_at words n side after) number
                ∙ call_moves words given side own station step history (map (line_of side own) notes) from kept (turn_quiet given station step history in_turn) lines
                (steps_later side own base.setup (facts_in base) to.steps) keyed
                ∙ ap (event_said (withholds_at side history) (drawn_at words side history) (turn_at history) (map (line_of side own) notes) from) is
                ∙ to.events ∙ sym (takes_none (listens_under handle turn.doing) received turn.slot to.held (λ on. none));
          }

-- What each open end is by the journal, after each event and each call of a run.
use Rattle.std.proofs.Common.{◌≡◌, ℕ, ◌==◌, Bool, true, false, Option, Some, None, List, [], ◌∷◌, ◌++◌, map, refl, sym, ap, subst, ◌∙◌, append-nil}
use Rattle.std.proofs.lemmas.Bool.{eqb-true}
use Rattle.std.proofs.lemmas.List.{map-append}
use Rattle.ble_base.specs.declared.roles.Side.{Side}
use Rattle.journal_ends.proofs.controller_model.Always.{IsInTurn}
use Rattle.journal_ends.specs.Asked.{Words}
use Rattle.journal_ends.specs.GivenWords.{AreKept}
use Rattle.journal_ends.specs.controller_model.Facts.{Facts}
use Rattle.journal_ends.specs.controller_model.Side.{notes_after}
use Rattle.journal_ends.specs.controller_model.Since.{notes_opened_on}
use Rattle.journal_ends.specs.controller_model.Step.{Step as Call}
use Rattle.journal_ends.specs.controller_model.declared.doing.Turn.{Turn}
use Rattle.journal_ends.proofs.host_answers.LineAnswers.{far_quiet, turn_quiet}
use Rattle.journal_ends.specs.journal_acks.link_calls.Uses.{listens_under}
use Rattle.journal_ends.specs.journal_links.LinkLines.{line_of}
use Rattle.journal_ends.specs.link_model.End.{notes_from}
use Rattle.journal_ends.specs.link_model.Facts.{keyed_of}
use Rattle.journal_ends.specs.link_model.Packets.{verdict_of}
use Rattle.journal_ends.specs.link_model.keyed_control.Keyed.{Keyed}
use Rattle.journal_ends.specs.open_links.OpenLinks.{OpenLink, facts_in, link_at}
use Rattle.journal_ends.specs.run_model.History.{Event, is_handed, steps_in}
use Rattle.journal_ends.specs.run_model.Journal.{side_of}
use Rattle.journal_ends.specs.run_model.Run.{Given, after_call, facts_at, setup_at, step_of}
use Rattle.journal_ends.proofs.EndsKnown.{AreLined}
use Rattle.journal_ends.proofs.KeptSeen.{listened_as}
use Rattle.journal_ends.proofs.PastSeen.{notes_more}
use Rattle.journal_ends.proofs.SeenEvents.{lines_at}
use Rattle.journal_ends.proofs.journal_acks.Counting.{facts_event}
use Rattle.journal_ends.proofs.journal_acks.Exchanging.{number_at, number_other}
use Rattle.journal_ends.proofs.run_laws.Hearings.{other_facts}
use Rattle.journal_ends.proofs.run_model.Stations.{is_in}
use Rattle.journal_controls.specs.Hearing.{keyed_if, keyed_next}
use Rattle.journal_controls.proofs.EndMoves.{steps_later}
use Rattle.journal_controls.proofs.EventMoves.{call_moves, drawn_at, keyed_at, turn_at, withholds_at}
use Rattle.journal_controls.proofs.LinkMoves.{MovesTo}

-- ---- what is expected

-- before an end takes a packet that was on the air, the journal is one reception ahead
abbrev pub keyed_taking : Bool → Option (List ℕ) → ℕ → OpenLink → Keyed
keyed_taking true (Some octets) slot link = keyed_if true slot octets link
keyed_taking true None slot link = keyed_of (facts_in link)
keyed_taking false received slot link = keyed_of (facts_in link)

-- and that packet is good or forged
pub record IsControlledAt (words : Words) (received : Option (List ℕ)) (handle : ℕ) (turn : Turn) (link : OpenLink) (number : ℕ) (side : Side) (history : List Event) : Type 0 where
  pub keyed : keyed_at words number side history ≡ Some (keyed_taking (listens_under handle turn.doing) received turn.slot link)
  pub handed : (octets : List ℕ) → listens_under handle turn.doing ≡ true → received ≡ Some octets → is_handed (verdict_of link.setup (facts_in link) octets) ≡ true

abbrev pub AreControlledSo : Words → Given → List Event → (ℕ → Option (List ℕ)) → Type 0
AreControlledSo words given history received =
    (station handle : ℕ) (link : OpenLink) → is_in station given.stations ≡ true → link_at handle (facts_at given station history).links ≡ Some link
    → IsControlledAt words (received station) handle (facts_at given station history).turn link (number_at station handle history) (side_of station) history

-- an end that has no packet to take
takes_none : (listens : Bool) (received : Option (List ℕ)) (slot : ℕ) (link : OpenLink) → (listens ≡ true → received ≡ None)
    → keyed_taking listens received slot link ≡ keyed_of (facts_in link)
takes_none true None slot link none = refl
takes_none true (Some octets) slot link none = absurd (let h : Some octets ≡ None = none refl in absurd cc)
takes_none false received slot link none = refl

pub whole : (words : Words) (received : Option (List ℕ)) (handle : ℕ) (turn : Turn) (link : OpenLink) (number : ℕ) (side : Side) (history : List Event)
    → (listens_under handle turn.doing ≡ true → received ≡ None) → IsControlledAt words received handle turn link number side history
    → keyed_at words number side history ≡ Some (keyed_of (facts_in link))
whole words received handle turn link number side history none is = is.keyed ∙ ap Some (takes_none (listens_under handle turn.doing) received turn.slot link none)

pub from_whole : (words : Words) (received : Option (List ℕ)) (handle : ℕ) (turn : Turn) (link : OpenLink) (number : ℕ) (side : Side) (history : List Event)
    → (listens_under handle turn.doing ≡ true → received ≡ None) → keyed_at words number side history ≡ Some (keyed_of (facts_in link))
    → IsControlledAt words received handle turn link number side history
from_whole words received handle turn link number side history none is = record {
  keyed = is ∙ ap Some (sym (takes_none (listens_under handle turn.doing) received turn.slot link none));
  handed = λ octets on some. absurd (let h : Some octets ≡ None = sym some ∙ none on in absurd cc);
}

pub moved : (words : Words) (handle : ℕ) (link : OpenLink) (side : Side) (history : List Event) (received received_too : Option (List ℕ)) (turn turn_too : Turn) (number number_too : ℕ)
    → received_too ≡ received → turn_too ≡ turn → number_too ≡ number → IsControlledAt words received handle turn link number side history
    → IsControlledAt words received_too handle turn_too link number_too side history
moved words handle link side history received received_too turn turn_too number number_too r t n is =
    subst (λ one. IsControlledAt words one handle turn_too link number_too side history) (sym r)
    (subst (λ now. IsControlledAt words received handle now link number_too side history) (sym t)
    (subst (λ one. IsControlledAt words received handle turn link one side history) (sym n) is))

-- by the call that comes next
pub taking_next : (handle : ℕ) (facts : Facts) (received : Option (List ℕ)) (link : OpenLink)
    → keyed_taking (listens_under handle facts.turn.doing) received facts.turn.slot link ≡ keyed_next handle facts (step_of received) link
taking_next handle facts None link = takes_none (listens_under handle facts.turn.doing) None facts.turn.slot link (λ on. refl)
taking_next handle facts (Some octets) link =
    by (listens_under handle facts.turn.doing) ∙ ap (λ b. keyed_if b facts.turn.slot octets link) (listened_as handle facts.turn.doing)
  where
    by : (listens : Bool) → keyed_taking listens (Some octets) facts.turn.slot link ≡ keyed_if listens facts.turn.slot octets link
    by true = refl
    by false = refl

-- ---- events and calls that leave an end as it is

module _ (words : Words) (given : Given) where
  pub controlled_same : (history : List Event) (received received_too : ℕ → Option (List ℕ))
      → ((station : ℕ) → is_in station given.stations ≡ true → received_too station ≡ received station)
      → AreControlledSo words given history received → AreControlledSo words given history received_too
  controlled_same history received received_too r are = λ station handle link in_it at.
      let turn = (facts_at given station history).turn in
      let number = number_at station handle history in
      moved words handle link (side_of station) history (received station) (received_too station) turn turn number number (r station in_it) refl refl (are station handle link in_it at)

  -- a station with the same links, of the same numbers
  still_at : (history after : List Event) (received : Option (List ℕ)) (station handle : ℕ) (link : OpenLink)
      → facts_at given station after ≡ facts_at given station history → number_at station handle after ≡ number_at station handle history
      → ((k : Keyed) → keyed_at words (number_at station handle history) (side_of station) history ≡ Some k → keyed_at words (number_at station handle history) (side_of station) after ≡ Some k)
      → IsControlledAt words received handle (facts_at given station history).turn link (number_at station handle history) (side_of station) history
      → IsControlledAt words received handle (facts_at given station after).turn link (number_at station handle after) (side_of station) after
  still_at history after received station handle link facts number stays is =
      moved words handle link (side_of station) after received received (facts_at given station history).turn (facts_at given station after).turn
      (number_at station handle history) (number_at station handle after) refl (ap (λ (f : Facts). f.turn) facts) number (record { keyed = stays _ is.keyed; handed = is.handed })

  -- an event that is not a packet
  pub controlled_event : (history : List Event) (event : Event) (received : ℕ → Option (List ℕ)) → ((station : ℕ) → steps_in station event ≡ [])
      → ((number : ℕ) (side : Side) → keyed_at words number side (history ++ event ∷ []) ≡ keyed_at words number side history)
      → ((station handle : ℕ) → number_at station handle (history ++ event ∷ []) ≡ number_at station handle history)
      → AreControlledSo words given history received → AreControlledSo words given (history ++ event ∷ []) received
  controlled_event history event received none same number are = λ station handle link in_it at.
      let facts = facts_event given station history event (none station) in
      still_at history (history ++ event ∷ []) (received station) station handle link facts (number station handle)
      (λ k is. same (number_at station handle history) (side_of station) ∙ is)
      (are station handle link in_it (ap (λ (f : Facts). link_at handle f.links) (sym facts) ∙ at))

  -- a call, by what it does to the ends of its station, and with no answer to the other one
  pub controlled_call : (station : ℕ) (step : Call) (history : List Event) (received received_too : ℕ → Option (List ℕ)) → AreKept words
      → ((other : ℕ) → is_in other given.stations ≡ true → (other == station) ≡ false → side_of other ≡ side_of station → ⊥) → AreLined given history
      → AreLined given (after_call given station step history)
      → ((handle : ℕ) (link : OpenLink) → link_at handle (facts_at given station (after_call given station step history)).links ≡ Some link
      → IsControlledAt words (received_too station) handle (facts_at given station (after_call given station step history)).turn link
      (number_at station handle (after_call given station step history)) (side_of station) (after_call given station step history))
      → ((other : ℕ) → is_in other given.stations ≡ true → (other == station) ≡ false → received_too other ≡ received other)
      → AreControlledSo words given history received → AreControlledSo words given (after_call given station step history) received_too
  controlled_call station step history received received_too kept apart lined lined_after own r are = λ other handle link in_it at. by other handle link in_it at (other == station) refl
    where
      by : (other handle : ℕ) (link : OpenLink) → is_in other given.stations ≡ true → link_at handle (facts_at given other (after_call given station step history)).links ≡ Some link
          → (same : Bool) → (other == station) ≡ same
          → IsControlledAt words (received_too other) handle (facts_at given other (after_call given station step history)).turn link
          (number_at other handle (after_call given station step history)) (side_of other) (after_call given station step history)
      by other handle link in_it at true one =
          let equal = eqb-true other station one in
          let next = after_call given station step history in
          subst (λ n. IsControlledAt words (received_too n) handle (facts_at given n next).turn link (number_at n handle next) (side_of n) next) (sym equal)
          (own handle link (subst (λ n. link_at handle (facts_at given n next).links ≡ Some link) equal at))
      by other handle link in_it at false differs =
          let next = after_call given station step history in
          let side = side_of other in
          let number = number_at other handle history in
          let facts = other_facts given station step history other differs in
          let numbers = number_other given station step history other handle differs in
          let was = ap (λ (f : Facts). link_at handle f.links) (sym facts) ∙ at in
          let now = subst (λ n. lines_at n side next ≡ map (line_of side n) (notes_opened_on link.setup link.past)) numbers (lined_after other handle link in_it at) in
          let same = now ∙ sym (lined other handle link in_it was) ∙ sym (append-nil (lines_at number side history)) in
          let turn = (facts_at given other history).turn in
          still_at history next (received_too other) other handle link facts numbers (λ k is. call_moves words given side number station step history [] k kept
          (far_quiet side station (notes_after (setup_at given station) (facts_at given station history) step) (apart other in_it differs)) same tt is)
          (moved words handle link side history (received other) (received_too other) turn turn number number (r other in_it differs) refl refl (are other handle link in_it was))

  -- ---- a call, at its own station

  module _ (station : ℕ) (step : Call) (history : List Event) (in_it : is_in station given.stations ≡ true) (lined : AreLined given history)
      (lined_after : AreLined given (after_call given station step history)) where
    abbrev after : List Event
    after = after_call given station step history

    abbrev side : Side
    side = side_of station

    module _ (handle : ℕ) (link : OpenLink) (at : link_at handle (facts_at given station after).links ≡ Some link) (received : Option (List ℕ)) (none : received ≡ None)
        (number : number_at station handle after ≡ number_at station handle history) (base : OpenLink) (was : link_at handle (facts_at given station history).links ≡ Some base) where
      abbrev own : ℕ
      own = number_at station handle history

      -- what its host asks moves it
      pub asked_own : keyed_at words own side after ≡ Some (keyed_of (facts_in link))
          → IsControlledAt words received handle (facts_at given station after).turn link (number_at station handle after) side after
      asked_own is =
          from_whole words received handle (facts_at given station after).turn link (number_at station handle after) side after (λ on. none)
          (ap (λ n. keyed_at words n side after) number ∙ is)

      -- what happened to an end in a call of a turn moves it by the lines of the call
      pub moved_own : AreKept words → IsInTurn step → (from : Keyed) → MovesTo side own (withholds_at side history) (drawn_at words side history) (turn_at history) base link from → keyed_at words own side history ≡ Some from
          → IsControlledAt words received handle (facts_at given station after).turn link (number_at station handle after) side after
      moved_own kept in_turn from moves is =
          let notes = notes_from base.setup (facts_in base) moves.steps in
          let now = subst (λ n. lines_at n side after ≡ map (line_of side n) (notes_opened_on link.setup link.past)) number (lined_after station handle link in_it at) in
          let lines : lines_at own side after ≡ lines_at own side history ++ map (line_of side own) notes =
          now ∙ (λ i. map (line_of side own) (notes_opened_on (moves.setup_is i) (moves.past_is i)))
          ∙ ap (map (line_of side own)) (notes_more base.setup base.past moves.steps)
          ∙ map-append (line_of side own) (notes_opened_on base.setup base.past) notes
          ∙ ap (λ xs. xs ++ map (line_of side own) notes) (sym (lined station handle base in_it was)) in
          from_whole words received handle (facts_at given station after).turn link (number_at station handle after) side after (λ on. none)
          (ap (λ n. keyed_at words n side after) number
          ∙ call_moves words given side own station step history (map (line_of side own) notes) from kept (turn_quiet given station step history in_turn) lines (steps_later side own base.setup (facts_in base) moves.steps) is
          ∙ ap Some moves.moves)

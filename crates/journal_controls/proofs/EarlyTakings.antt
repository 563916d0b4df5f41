-- A PDU is taken before any other line of its call that may draw words.
use Rattle.std.proofs.Common.{◌≡◌, ℕ, ◌&&◌, not, Bool, true, false, Option, Some, None, List, [], ◌∷◌, ◌++◌, refl, sym, ap, subst, ◌∙◌, append_assoc}
use Rattle.std.specs.Prelude.{All}
use Rattle.std.proofs.lemmas.List.Elements.{All-append, All-cons, All-head, All-nil, All-tail}
use Rattle.ble_base.specs.declared.notes.Note.{Note}
use Rattle.ble_base.specs.declared.notes.Note.TheVariants.{Took, Up}
use Rattle.ble_base.specs.declared.procedure_kinds.Kind.{Kind}
use Rattle.ble_base.specs.declared.roles.Side.{Side}
use Rattle.data_pdu.specs.Header.{header_in}
use Rattle.journal_ends.specs.Asked.{Words}
use Rattle.journal_ends.specs.GivenWords.{AreKept, may_draw}
use Rattle.journal_ends.specs.controller_model.Facts.{Facts, Setup}
use Rattle.journal_ends.specs.controller_model.Heard.{has_room, link_heard, notes_taken}
use Rattle.journal_ends.specs.controller_model.Outcome.{Outcome, notes_passed}
use Rattle.journal_ends.specs.controller_model.Side.{notes_after}
use Rattle.journal_ends.specs.controller_model.Step.{Step as Call, HostOctet, NothingHeard, PacketHeard, TurnBegins, TurnEnds}
use Rattle.journal_ends.specs.link_model.Acknowledgement.{Pdu}
use Rattle.journal_ends.specs.link_model.Controls.{is_procedure_pdu}
use Rattle.journal_ends.specs.link_model.Data.{is_empty}
use Rattle.journal_ends.specs.link_model.Entering.{done_notes}
use Rattle.journal_ends.specs.link_model.Facts.{Facts as EndFacts}
use Rattle.journal_ends.specs.link_model.Packets.{good_pdu}
use Rattle.journal_ends.specs.link_model.Receiving.{accepts, acked_kind, acks_control, facts_before_taking, given_if, given_notes, has_acknowledged, kept_given_if, received_notes, taken_notes, took_notes_if}
use Rattle.journal_ends.specs.link_model.Setup.{Setup as EndSetup}
use Rattle.journal_ends.specs.link_model.keyed_control.declared.material.Response.{Response}
use Rattle.journal_ends.specs.link_model.Verdicts.{pdu_of}
use Rattle.journal_ends.specs.open_links.OpenLinks.{OpenLink, facts_in, link_at}
use Rattle.journal_ends.specs.run_model.Feeding.{is_octet}
use Rattle.journal_ends.specs.run_model.History.{Event, Noted}
use Rattle.journal_ends.specs.run_model.Journal.{entry_of, journal_of, side_of}
use Rattle.journal_ends.specs.run_model.Links.{links_of}
use Rattle.journal_ends.specs.run_model.Run.{step_of}
use Rattle.journal_ends.proofs.journal_acks.PhaseNotes.{IsOnLink, IsPhaseOf, IsPlainPhase, given_takes, phase_of}
use Rattle.journal_ends.proofs.journal_acks.Worded.{worded}
use Rattle.journal_ends.proofs.journal_acks.link_calls.CallNotes.{HasNoData, TakesNone, all_more, begin_noted, doing_noted, end_noted, events_noted, is_taking, none_taken, octet_noted}
use Rattle.journal_ends.proofs.run_model.Parts.{journal_event}

-- ---- notes of a call

abbrev is_drawing : Note → Bool
is_drawing (Up packet) = true
is_drawing (Took handle number llid body) = true
is_drawing note = false

abbrev DrawsNone : Note → Type 0
DrawsNone note = is_drawing note ≡ false

abbrev TakesFirst : List Note → Type 0
TakesFirst [] = Unit {0}
TakesFirst (note ∷ notes) = All TakesNone notes

pub record IsEarly (notes : List Note) : Type 0 where
  earlier : List Note
  rest : List Note
  is : notes ≡ earlier ++ rest
  none_drawn : All DrawsNone earlier
  first : TakesFirst rest

first_of_none : (notes : List Note) → All TakesNone notes → TakesFirst notes
first_of_none [] none = tt
first_of_none (note ∷ notes) none = All-tail TakesNone note notes none

pub early_none : (notes : List Note) → All TakesNone notes → IsEarly notes
early_none notes none = record { earlier = []; rest = notes; is = refl; none_drawn = All-nil DrawsNone; first = first_of_none notes none }

early_more : (notes more : List Note) → IsEarly notes → All TakesNone more → IsEarly (notes ++ more)
early_more notes more early none = record {
  earlier = early.earlier;
  rest = early.rest ++ more;
  is = ap (λ xs. xs ++ more) early.is ∙ append_assoc early.earlier early.rest more;
  none_drawn = early.none_drawn;
  first = by early.rest early.first;
}
  where
    by : (rest : List Note) → TakesFirst rest → TakesFirst (rest ++ more)
    by [] first = first_of_none more none
    by (note ∷ rest) first = All-append TakesNone rest more first none

-- ---- a packet on a link

done_none : (handle : ℕ) (kind : Option Kind) → All DrawsNone (done_notes handle kind)
done_none handle None = All-nil DrawsNone
done_none handle (Some kind) = All-cons DrawsNone _ [] refl (All-nil DrawsNone)

took_first : (noted : Bool) (handle : ℕ) (pdu : Pdu) (facts : EndFacts) (more : List Note) → All TakesNone more → TakesFirst (took_notes_if noted handle pdu facts ++ more)
took_first true handle pdu facts more none = none
took_first false handle pdu facts more none = first_of_none more none

received_early : (setup : EndSetup) (slot : ℕ) (room : Bool) (found : Option (List ℕ)) (facts : EndFacts) → IsEarly (received_notes setup slot room found facts)
received_early setup slot room None facts = early_none [] (All-nil TakesNone)
received_early setup slot room (Some octets) facts =
    let handle = setup.link.handle in
    let header = header_in octets in
    let pdu = pdu_of octets in
    let now = facts_before_taking setup.link.role slot header facts in
    let accepted = accepts room header pdu now in
    let takes = accepted && is_procedure_pdu pdu in
    let kind = acked_kind (acks_control (has_acknowledged facts header) facts) facts in
    let given = given_notes handle (given_if takes pdu slot now) in
    let kept = given_notes handle (kept_given_if takes pdu slot now) in record {
      earlier = done_notes handle kind;
      rest = taken_notes handle accepted pdu slot now;
      is = refl;
      none_drawn = done_none handle kind;
      first = took_first (accepted && not (is_empty pdu)) handle pdu now (given ++ kept)
          (All-append TakesNone given kept (given_takes handle (given_if takes pdu slot now)) (given_takes handle (kept_given_if takes pdu slot now)));
    }

place_early : (slot : ℕ) (room : Bool) (place : Option OpenLink) (octets : List ℕ) → IsEarly (notes_taken slot room place octets)
place_early slot room None octets = early_none [] (All-nil TakesNone)
place_early slot room (Some link) octets = received_early link.setup slot room (good_pdu link.setup (facts_in link) octets) (facts_in link)

heard_early : (setup : Setup) (handle : ℕ) (octets : List ℕ) (facts : Facts) → IsEarly (notes_passed (link_heard setup handle octets facts))
heard_early setup handle octets facts =
    let outcome = link_heard setup handle octets facts in
    let taken = notes_taken facts.turn.slot (has_room setup facts) (link_at handle facts.links) octets in
    early_more outcome.notes _
    (early_more taken _ (place_early facts.turn.slot (has_room setup facts) (link_at handle facts.links) octets) (events_noted TakesNone none_taken.starts.feeds facts.view _))
    (doing_noted TakesNone none_taken.sent outcome.next outcome.facts)

phase_early : (setup : Setup) (facts : Facts) (received : Option (List ℕ)) → IsPhaseOf setup facts received → IsEarly (notes_after setup facts (step_of received))
phase_early setup facts received (IsPlainPhase deaf plain) = early_none _ (all_more HasNoData TakesNone (λ note none. none.takes) _ plain)
phase_early setup facts received (IsOnLink handle given octets is listens same) =
    subst (λ one. IsEarly (notes_after setup facts (step_of one))) (sym is)
    (subst (λ (outcome : Outcome). IsEarly (notes_passed outcome)) (sym same) (heard_early setup handle octets (worded given setup handle facts)))

pub taking_early : (setup : Setup) (facts : Facts) (step : Call) → is_octet step ≡ false → IsEarly (notes_after setup facts step)
taking_early setup facts (HostOctet octet) none = absurd cc
taking_early setup facts (TurnBegins slot on) none = early_none _ (begin_noted TakesNone none_taken setup slot on facts)
taking_early setup facts (PacketHeard octets) none = phase_early setup facts (Some octets) (phase_of setup facts (Some octets))
taking_early setup facts NothingHeard none = phase_early setup facts None (phase_of setup facts None)
taking_early setup facts TurnEnds none = early_none _ (end_noted TakesNone none_taken.starts.feeds setup facts)

-- nor is one as a host sends
pub call_early : (setup : Setup) (facts : Facts) (step : Call) → IsEarly (notes_after setup facts step)
call_early setup facts (HostOctet octet) = early_none _ (octet_noted TakesNone none_taken.starts.feeds setup facts octet)
call_early setup facts step = taking_early setup facts step refl

-- ---- so what would be drawn as a PDU is taken is what would be drawn before the call

-- as a PDU is taken among these notes, this would be drawn
abbrev pub AreGiven : Words → Side → Response → ℕ → List Event → List Note → Type 0
AreGiven words side response station history [] = Unit {0}
AreGiven words side response station history (note ∷ notes) =
    (is_taking note ≡ true → words side (journal_of history) ≡ response) × AreGiven words side response station (history ++ Noted station note ∷ []) notes

drawn_line : (other : Side) (link_of : ℕ → ℕ) (last : ℕ) (note : Note) → may_draw (entry_of other link_of last note) ≡ is_drawing note
drawn_line other link_of last (Up packet) = refl
drawn_line other link_of last note = refl

module _ (words : Words) (side : Side) (response : Response) (station : ℕ) where
  none_given : (notes : List Note) (history : List Event) → All TakesNone notes → AreGiven words side response station history notes
  none_given [] history none = tt
  none_given (note ∷ notes) history none = (
    λ takes. absurd (let h : true ≡ false = sym takes ∙ All-head TakesNone note notes none in absurd cc),
    none_given notes (history ++ Noted station note ∷ []) (All-tail TakesNone note notes none),
  )

  first_given : (notes : List Note) (history : List Event) → TakesFirst notes → words side (journal_of history) ≡ response → AreGiven words side response station history notes
  first_given [] history first is = tt
  first_given (note ∷ notes) history first is = (λ takes. is, none_given notes (history ++ Noted station note ∷ []) first)

  later_given : AreKept words → (earlier rest : List Note) (history : List Event) → All DrawsNone earlier → TakesFirst rest → words side (journal_of history) ≡ response
      → AreGiven words side response station history (earlier ++ rest)
  later_given kept [] rest history none first is = first_given rest history first is
  later_given kept (note ∷ earlier) rest history none first is =
      let next = history ++ Noted station note ∷ [] in
      let links = links_of history in
      let line = entry_of (side_of station) (links.link_of station) (links.last_of station) note in
      let same = kept side (journal_of history) line
      (drawn_line (side_of station) (links.link_of station) (links.last_of station) note ∙ All-head DrawsNone note earlier none) in (
        λ takes. is,
        later_given kept earlier rest next (All-tail DrawsNone note earlier none) first (ap (words side) (journal_event history (Noted station note)) ∙ same ∙ is),
      )

  pub early_given : AreKept words → (notes : List Note) (history : List Event) → IsEarly notes → words side (journal_of history) ≡ response
      → AreGiven words side response station history notes
  early_given kept notes history early is =
      subst (AreGiven words side response station history) (sym early.is) (later_given kept early.earlier early.rest history early.none_drawn early.first is)

-- The counts of a link are the first ones, and no new PDU is sent on it, until a turn after that of its CONNECT_IND.
use Rattle.std.proofs.Common.{◌≡◌, ℕ, ◌+◌, ◌<◌, ◌≤◌, ◌==◌, Bool, true, false, List, [], ◌∷◌, ◌++◌, refl, sym, ap, subst, ◌∙◌, append-nil, append_assoc, arith}
use Rattle.std.specs.Prelude.{All, ⊤, map, Some, None, if◌then◌else◌}
use Rattle.std.proofs.lemmas.Bool.{eqb-true, and_right}
use Rattle.std.proofs.lemmas.List.Elements.{All-head, All-tail}
use Rattle.ble_base.specs.declared.roles.Side.{Side}
use Rattle.ble_base.specs.declared.notes.Note.{Note}
use Rattle.ble_base.specs.declared.notes.Note.TheVariants.{Up, Sent, Took}
use Rattle.journal.specs.declared.entries.Entry.{Entry}
use Rattle.journal_packets.specs.link_model.Setup.{Setup as EndSetup}
use Rattle.journal_packets.specs.controller_model.Step.{Step}
use Rattle.journal_packets.specs.controller_model.Side.{notes_after}
use Rattle.link_calls.specs.run_model.History.{Event, Called, Noted, turns_begun}
use Rattle.link_calls.specs.run_model.Journal.{entries_of, journal_from, journal_of, side_of}
use Rattle.link_calls.specs.run_model.Links.{links_of}
use Rattle.link_calls.specs.run_model.Run.{Given, after_call, facts_at, setup_at}
use Rattle.link_calls.proofs.run_model.Calls.{turns_called, turns_more}
use Rattle.link_calls.proofs.run_model.Parts.{journal_event, journal_more}
use Rattle.journal_packets.proofs.journal_links.LinksBegun.{number_stays}
use Rattle.journal_packets.specs.journal_links.Begun.{LinkBegun, link_numbered}
use Rattle.journal_packets.specs.Belonging.{is_side}
use Rattle.journal_acks.specs.Carried.{sent_line_of}
use Rattle.journal_acks.specs.Exchange.{Exchanged, after_taking, exchange_of, first_exchanged}
use Rattle.link_calls.proofs.CallNotes.{HasNoData, SendsNone, TakesNone, all_more}
use Rattle.journal_acks.proofs.Counting.{IsBegun}
use Rattle.link_calls.proofs.CallNotes.{OpensNone}
use Rattle.journal_acks.proofs.Exchanging.{call_quiet, event_number, exchange_at, exchange_called, note_exchange, note_quiet, number_at, number_quiet, opens_none}
use Rattle.journal_acks.proofs.SentLines.{call_line, line_called, note_line, quiet_note, sent_line_at}

pub data IsFirst (number : ℕ) (history : List Event) : Type 0 where
  -- the link began before this turn
  IsOld : (link : LinkBegun) → link_numbered number (journal_of history) ≡ Some link → link.slot + 1 < turns_begun history → IsFirst number history
  -- neither end sent or accepted anything
  IsUnused : ((side : Side) → exchange_at number history side ≡ first_exchanged) → ((side : Side) → sent_line_at number history side ≡ None) → IsFirst number history

abbrev pub AreFirst : List Event → Type 0
AreFirst history = (number : ℕ) → IsFirst number history

-- nothing is sent, accepted or acknowledged in between
pub record IsQuiet (number : ℕ) (history after : List Event) : Type 0 where
  pub exchange : exchange_at number after ≡ exchange_at number history
  pub lines : (side : Side) → sent_line_at number after side ≡ sent_line_at number history side

pub first_grown : (number : ℕ) (history after : List Event) (rest : List Entry) → journal_of after ≡ journal_of history ++ rest → turns_begun history ≤ turns_begun after
    → IsQuiet number history after → IsFirst number history → IsFirst number after
first_grown number history after rest grows turns quiet (IsOld link is before) =
    IsOld link (ap (link_numbered number) grows ∙ number_stays number (journal_of history) rest link is) (omega (arith, before, turns))
first_grown number history after rest grows turns quiet (IsUnused none lines) =
    IsUnused (λ side. ap (λ (ends : Side → Exchanged). ends side) quiet.exchange ∙ none side) (λ side. quiet.lines side ∙ lines side)

pub turns_grow : (history : List Event) (event : Event) → turns_begun history ≤ turns_begun (history ++ event ∷ [])
turns_grow history event = let more = turns_more history event in omega (arith, more)

-- an event that changes nothing of the counts
pub first_event_at : (number : ℕ) (history : List Event) (event : Event) → IsQuiet number history (history ++ event ∷ [])
    → IsFirst number history → IsFirst number (history ++ event ∷ [])
first_event_at number history event quiet first =
    first_grown number history (history ++ event ∷ []) (entries_of (links_of history) event) (journal_event history event) (turns_grow history event) quiet first

pub first_event : (history : List Event) (event : Event) → ((number : ℕ) → IsQuiet number history (history ++ event ∷ []))
    → AreFirst history → AreFirst (history ++ event ∷ [])
first_event history event quiet first = λ number. first_event_at number history event (quiet number) (first number)

-- the link of a packet began before this turn
pub first_old : (number : ℕ) (history : List Event) (event : Event) (link : LinkBegun) → link_numbered number (journal_of history) ≡ Some link → link.slot + 1 < turns_begun history
    → IsFirst number (history ++ event ∷ [])
first_old number history event link is before =
    let more = turns_grow history event in
    IsOld link (ap (link_numbered number) (journal_event history event) ∙ number_stays number (journal_of history) (entries_of (links_of history) event) link is) (omega (arith, before, more))

-- ---- a call

-- a note that is of no PDU, or of one on the link under this handle
abbrev pub IsOnly : ℕ → Note → Type 0
IsOnly handle (Sent other number llid body) = other ≡ handle
IsOnly handle (Took other number llid body) = other ≡ handle
IsOnly handle note = ⊤

-- the notes of one link change nothing of another
module _ (number station handle : ℕ) where
  one_quiet : (note : Note) (history : List Event) → IsOnly handle note → (number_at station handle history == number) ≡ false
      → IsQuiet number history (history ++ Noted station note ∷ [])
  one_quiet (Took other count llid body) history same differs = record {
    exchange = note_exchange number history station (Took other count llid body)
        ∙ ap (λ (b : Bool). if b then after_taking (side_of station) (exchange_at number history) else exchange_at number history)
        (ap (λ n. number_at station n history == number) same ∙ differs);
    lines = λ side. quiet_note number station side history (Took other count llid body) refl;
  }
  one_quiet (Sent other count llid body) history same differs = record {
    exchange = note_quiet number history station (Sent other count llid body) refl;
    lines = λ side. note_line number history station (Sent other count llid body) side
        ∙ ap (λ (b : Bool). if b
        then Some (record { pdu = record { llid = llid; body = body.items }; acked = (exchange_of number (journal_of history) side).acked })
        else sent_line_at number history side)
        (and_right (is_side (side_of station) side) (number_at station other history == number) (ap (λ n. number_at station n history == number) same ∙ differs));
  }
  one_quiet (Up packet) history same differs = record {
    exchange = note_quiet number history station (Up packet) refl;
    lines = λ side. quiet_note number station side history (Up packet) refl;
  }
  one_quiet note history same differs = record {
    exchange = note_quiet number history station note refl;
    lines = λ side. quiet_note number station side history note refl;
  }

  notes_quiet : (notes : List Note) (history : List Event) → All (IsOnly handle) notes → All (OpensNone handle) notes → (number_at station handle history == number) ≡ false
      → IsQuiet number history (history ++ map (Noted station) notes)
  notes_quiet [] history only opens differs = record {
    exchange = ap (exchange_at number) (append-nil history);
    lines = λ side. ap (λ xs. sent_line_at number xs side) (append-nil history);
  }
  notes_quiet (note ∷ notes) history only opens differs =
      let next = history ++ Noted station note ∷ [] in
      let first = one_quiet note history (All-head (IsOnly handle) note notes only) differs in
      let same = event_number station handle history (Noted station note) (opens_none station station handle note (links_of history) (All-head (OpensNone handle) note notes opens)) in
      let rest = notes_quiet notes next (All-tail (IsOnly handle) note notes only) (All-tail (OpensNone handle) note notes opens) (ap (λ n. n == number) same ∙ differs) in
      let grown = sym (append_assoc history (Noted station note ∷ []) (map (Noted station) notes)) in record {
        exchange = ap (exchange_at number) grown ∙ rest.exchange ∙ first.exchange;
        lines = λ side. ap (λ xs. sent_line_at number xs side) grown ∙ rest.lines side ∙ first.lines side;
      }

-- the PDUs of a call: none, or those of one link, which began before this turn
pub data IsCallOf (given : Given) (station : ℕ) (step : Step) (history : List Event) : Type 0 where
  OfNone : All HasNoData (notes_after (setup_at given station) (facts_at given station history) step) → IsCallOf given station step history
  OfLink : (handle : ℕ) (link : LinkBegun) → link_numbered (number_at station handle history) (journal_of history) ≡ Some link → link.slot + 1 < turns_begun history
      → All (IsOnly handle) (notes_after (setup_at given station) (facts_at given station history) step)
      → All (OpensNone handle) (notes_after (setup_at given station) (facts_at given station history) step) → IsCallOf given station step history

pub same_turns : (one other : ℕ) → other ≡ one → one ≤ other
same_turns one other is = omega (arith, is)

module _ (given : Given) (station : ℕ) (step : Step) (history : List Event) where
  abbrev notes : List Note
  notes = notes_after (setup_at given station) (facts_at given station history) step

  abbrev after : List Event
  after = after_call given station step history

  grown : (number : ℕ) → IsQuiet number history after → IsFirst number history → IsFirst number after
  grown number quiet first =
      first_grown number history after (journal_from (links_of history) (Called station step ∷ map (Noted station) notes))
      (journal_more history (Called station step ∷ map (Noted station) notes))
      (same_turns (turns_begun history) (turns_begun after) (turns_called station step notes history)) quiet first

  none_quiet : (number : ℕ) → All HasNoData notes → IsQuiet number history after
  none_quiet number none = record {
    exchange = exchange_called given number station step history (all_more HasNoData TakesNone (λ note has. has.takes) notes none);
    lines = λ side. line_called given number station step history side (all_more HasNoData SendsNone (λ note has. has.sends) notes none);
  }

  of_link : (number handle : ℕ) (link : LinkBegun) → link_numbered (number_at station handle history) (journal_of history) ≡ Some link → link.slot + 1 < turns_begun history
      → All (IsOnly handle) notes → All (OpensNone handle) notes → IsFirst number history → (same : Bool) → (number_at station handle history == number) ≡ same
      → IsFirst number after
  of_link number handle link is before only opens first true same =
      IsOld link
      (ap (link_numbered number) (journal_more history (Called station step ∷ map (Noted station) notes))
      ∙ number_stays number (journal_of history) _ link (ap (λ n. link_numbered n (journal_of history)) (sym (eqb-true (number_at station handle history) number same)) ∙ is))
      (let turns = turns_called station step notes history in omega (arith, before, turns))
  of_link number handle link is before only opens first false differs =
      let called = history ++ Called station step ∷ [] in
      let all = notes_quiet number station handle notes called only opens
      (ap (λ n. n == number) (number_quiet station handle history (Called station step) (λ links. refl)) ∙ differs) in
      let whole = sym (append_assoc history (Called station step ∷ []) (map (Noted station) notes)) in
      grown number (record {
        exchange = ap (exchange_at number) whole ∙ all.exchange ∙ call_quiet number history station step;
        lines = λ side. ap (λ xs. sent_line_at number xs side) whole ∙ all.lines side ∙ call_line number history station step side;
      }) first

  pub first_called : IsCallOf given station step history → AreFirst history → AreFirst after
  first_called of first = λ number. by of number
    where
      by : IsCallOf given station step history → (number : ℕ) → IsFirst number (after_call given station step history)
      by (OfNone none) number = grown number (none_quiet number none) (first number)
      by (OfLink handle link is before only opens) number =
          of_link number handle link is before only opens (first number) (number_at station handle history == number) refl

-- ---- as a run begins, and as a link begins

-- an empty journal has no line
pub none_first : AreFirst []
unfolding exchange_of sent_line_of journal_of
none_first = λ number. IsUnused (λ side. refl) (λ side. refl)

pub too_late : (slot turns : ℕ) (X : Type 0) → slot + 1 < turns → slot + 1 ≡ turns → X
too_late slot turns X before now = absurd (omega (arith, before, now))

-- a link of this turn
pub record IsUnusedYet (number : ℕ) (history : List Event) : Type 0 where
  pub counts : (side : Side) → exchange_at number history side ≡ first_exchanged
  pub lines : (side : Side) → sent_line_at number history side ≡ None

pub first_of : (history : List Event) (number station : ℕ) (end : EndSetup) → IsFirst number history → IsBegun history number station end
    → end.opened + 1 ≡ turns_begun history → IsUnusedYet number history
first_of history number station end (IsUnused none lines) begun now = record { counts = none; lines = lines }
first_of history number station end (IsOld link is before) begun now =
    let same : Some link ≡ Some begun.link = sym is ∙ begun.is_link in
    let equal : link ≡ begun.link = cc in
    too_late end.opened (turns_begun history) _ (subst (λ n. n + 1 < turns_begun history) (ap (λ (l : LinkBegun). l.slot) equal ∙ begun.slot) before) now

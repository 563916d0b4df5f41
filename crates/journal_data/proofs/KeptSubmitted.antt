-- A call of a turn keeps in step what a host submitted.
use Rattle.std.proofs.Common.{◌≡◌, ℕ, ◌==◌, Bool, true, false, cond, List, [], ◌∷◌, Some, length, refl, sym, ap, ◌∙◌, if◌then◌else◌}
use Rattle.std.specs.Prelude.{◌||◌, filter, fold}
use Rattle.std.proofs.lemmas.Bool.{eq-eqb, eqb-true}
use Rattle.ble_base.specs.declared.notes.Note.{Note}
use Rattle.ble_base.specs.declared.notes.Note.TheVariants.{Opened}
use Rattle.journal_acks.specs.open_links.OpenLinks.{OpenLink, facts_in, link_at}
use Rattle.journal_acks.specs.controller_model.Facts.{Setup, Facts}
use Rattle.journal_acks.specs.controller_model.Side.{notes_after}
use Rattle.journal_acks.specs.controller_model.Since.{count_given, count_since, empties_of}
use Rattle.journal_acks.specs.controller_model.Step.{Step, HostOctet, TurnBegins, PacketHeard, NothingHeard, TurnEnds}
use Rattle.journal_acks.proofs.controller_model.Always.{IsInTurn}
use Rattle.journal_acks.specs.run_model.History.{Event, past_of}
use Rattle.journal_acks.specs.run_model.Links.{links_of}
use Rattle.journal_acks.specs.run_model.Run.{Given, after_call, facts_at, setup_at}
use Rattle.journal_acks.proofs.run_model.Calls.{past_own}
use Rattle.journal_acks.proofs.run_model.LinksKnown.{link_by_own}
use Rattle.journal_acks.proofs.run_model.OpenedNotes.{is_opened}
use Rattle.journal_acks.proofs.Exchanging.{number_at}
use Rattle.journal_acks.proofs.run_laws.Hearings.{own_facts}
use Rattle.journal_data.specs.HostLines.{has_octets}
use Rattle.journal_data.specs.Lines.{data_on, empties_on, submitted_on}
use Rattle.journal_data.proofs.EachLine.{lines_at}
use Rattle.journal_data.proofs.HostPackets.{has_none, on_link}
use Rattle.journal_data.proofs.SameGiven.{WasSo, turn_given}
use Rattle.journal_data.proofs.Submitting.{IsSubmitted, call_submits, counted_on, empties_more}

-- ---- a call of a turn

-- the packets of no octet are counted anew where the call opens the link
none_or_none : (own : Bool) → cond {A = ℕ} own 0 0 ≡ 0
none_or_none true = refl
none_or_none false = refl

counted_none : (handle : ℕ) (notes : List Note) → fold (count_since handle) 0 notes ≡ 0
counted_none handle [] = refl
counted_none handle (Opened other role own peer ∷ notes) =
    ap (λ n. fold (count_since handle) n notes) (none_or_none (other == handle)) ∙ counted_none handle notes
counted_none handle (note ∷ notes) = counted_none handle notes

counted_anew : (handle count : ℕ) (notes : List Note) → is_opened handle notes ≡ true → fold (count_since handle) count notes ≡ 0
counted_anew handle count [] is = absurd cc
counted_anew handle count (Opened other role own peer ∷ notes) is =
    by (handle == other) refl is (counted_anew handle (if other == handle then 0 else count) notes)
  where
    by : (same : Bool) → (handle == other) ≡ same → (same || is_opened handle notes) ≡ true
        → (is_opened handle notes ≡ true → fold (count_since handle) (if other == handle then 0 else count) notes ≡ 0)
        → fold (count_since handle) (if other == handle then 0 else count) notes ≡ 0
    by true same opened later =
        ap (λ b. fold (count_since handle) (if b then 0 else count) notes) (eq-eqb other handle (sym (eqb-true handle other same))) ∙ counted_none handle notes
    by false same opened later = later opened
counted_anew handle count (note ∷ notes) is = counted_anew handle count notes is

-- a call of a turn gives nothing
given_none : (handle : ℕ) (facts : Facts) (step : Step) (count : ℕ) → IsInTurn step → count_given handle facts step count ≡ count
given_none handle facts (HostOctet octet) count turn = absurd turn
given_none handle facts (TurnBegins slot on) count turn = refl
given_none handle facts (PacketHeard octets) count turn = refl
given_none handle facts NothingHeard count turn = refl
given_none handle facts TurnEnds count turn = refl

-- where a link is opened, no packet was submitted under its number before
abbrev pub OpensAnew : Given → ℕ → Step → List Event → Type 0
OpensAnew given station step history =
    (handle : ℕ) → is_opened handle (notes_after (setup_at given station) (facts_at given station history) step) ≡ true
    → submitted_on ((links_of history).last_of station) (lines_at station history) ≡ []

module _ (given : Given) (station : ℕ) (step : Step) (history : List Event) (turn : IsInTurn step) where
  abbrev setup_of : Setup
  setup_of = setup_at given station

  abbrev facts_now : Facts
  facts_now = facts_at given station history

  abbrev noted : List Note
  noted = notes_after setup_of facts_now step

  abbrev next : List Event
  next = after_call given station step history

  submits : (number : ℕ) → on_link number (lines_at station next).submitted ≡ on_link number (lines_at station history).submitted
  submits number = ap (on_link number) (call_submits station step noted history)

  next_number : (handle : ℕ) (opened : Bool) → is_opened handle noted ≡ opened
      → number_at station handle next ≡ (if opened then (links_of history).last_of station else number_at station handle history)
  next_number handle opened is =
      link_by_own station step noted history handle
      ∙ ap (λ (b : Bool). if b then (links_of history).last_of station else number_at station handle history) is

  next_link : (handle : ℕ) (link : OpenLink) → link_at handle (facts_at given station next).links ≡ Some link → (opened : Bool) → is_opened handle noted ≡ opened
      → WasSo opened (link_at handle facts_now.links) link
  next_link handle link is opened noted_is =
      turn_given handle setup_of (past_of station history) step turn link
      (ap (λ (facts : Facts). link_at handle facts.links) (sym (own_facts given station step history)) ∙ is) opened noted_is

  next_empties : (handle : ℕ)
      → empties_of setup_of handle (past_of station next) ≡ fold (count_since handle) (empties_of setup_of handle (past_of station history)) noted
  next_empties handle =
      ap (empties_of setup_of handle) (past_own station step noted history)
      ∙ empties_more setup_of handle (past_of station history) step
      ∙ given_none handle facts_now step (fold (count_since handle) (empties_of setup_of handle (past_of station history)) noted) turn

  -- what the lines have of a link, and what it was given
  data_by : (handle : ℕ) (link : OpenLink) (opened : Bool) → is_opened handle noted ≡ opened → OpensAnew given station step history → IsSubmitted given station history
      → WasSo opened (link_at handle facts_now.links) link → data_on (number_at station handle next) (lines_at station next) ≡ (facts_in link).outgoing.given
  data_by handle link true is anew submitted none =
      ap (λ n. data_on n (lines_at station next)) (next_number handle true is)
      ∙ ap (filter has_octets) (submits ((links_of history).last_of station) ∙ anew handle is) ∙ sym none
  data_by handle link false is anew submitted was =
      ap (λ n. data_on n (lines_at station next)) (next_number handle false is)
      ∙ ap (filter has_octets) (submits (number_at station handle history)) ∙ submitted.data_is handle was.old was.was ∙ sym was.same

  empties_by : (handle : ℕ) (link : OpenLink) (opened : Bool) → is_opened handle noted ≡ opened → OpensAnew given station step history → IsSubmitted given station history
      → WasSo opened (link_at handle facts_now.links) link
      → empties_on (number_at station handle next) (lines_at station next) ≡ empties_of setup_of handle (past_of station next)
  empties_by handle link true is anew submitted none =
      ap (λ n. empties_on n (lines_at station next)) (next_number handle true is)
      ∙ ap (λ packets. length (filter has_none packets)) (submits ((links_of history).last_of station) ∙ anew handle is)
      ∙ sym (next_empties handle ∙ counted_anew handle (empties_of setup_of handle (past_of station history)) noted is)
  empties_by handle link false is anew submitted was =
      ap (λ n. empties_on n (lines_at station next)) (next_number handle false is)
      ∙ ap (λ packets. length (filter has_none packets)) (submits (number_at station handle history))
      ∙ submitted.empties_are handle was.old was.was
      ∙ sym (next_empties handle ∙ counted_on handle (empties_of setup_of handle (past_of station history)) noted is)

  pub turn_submitted : OpensAnew given station step history → IsSubmitted given station history
      → IsSubmitted given station (after_call given station step history)
  turn_submitted anew submitted = record {
    data_is = λ handle link is. data_by handle link (is_opened handle noted) refl anew submitted (next_link handle link is (is_opened handle noted) refl);
    empties_are = λ handle link is. empties_by handle link (is_opened handle noted) refl anew submitted (next_link handle link is (is_opened handle noted) refl);
  }

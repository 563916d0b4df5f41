-- What the lines of a station say of the links that are open before a turn ends, once it has ended: the host has received
-- what was taken on each of them, but for what is left, and is credited for what is complete, also where the link ends then.
use Rattle.std.proofs.Common.{◌≡◌, ℕ, ◌+◌, ◌≤◌, ◌==◌, Bool, true, false, nat_lt, Option, Some, List, [], ◌∷◌, ◌++◌, cond, map, refl, ap, sym, subst, ◌∙◌, append-nil, append_assoc, arith, if◌then◌else◌}
use Rattle.std.specs.Prelude.{flat_map, fold, is_some}
use Rattle.std.specs.List.{AllByRecursion, filter, sum_by}
use Rattle.std.proofs.lemmas.Grind.{flat_map-append}
use Rattle.std.proofs.lemmas.List.Elements.{All-contains, All-from_recursion, filter-append}
use Rattle.std.proofs.lemmas.List.Sums.{fold-append}
use Rattle.acl_banks.specs.Packets.{Marked}
use Rattle.ble_base.specs.declared.notes.Note.{Note}
use Rattle.ble_base.specs.declared.notes.Note.TheVariants.{Opened, Up}
use Rattle.ack_bit.specs.Nonempty.{nonempty}
use Rattle.host_view.specs.Flow.{left_of}
use Rattle.journal_acks.specs.link_model.Acknowledgement.{Acknowledgement}
use Rattle.journal_acks.specs.link_model.Data.{data_of, is_empty}
use Rattle.journal_acks.specs.link_model.Facts.{Facts as EndFacts}
use Rattle.journal_acks.specs.link_model.Step.{DataReported}
use Rattle.journal_acks.specs.open_links.Data.{complete_in, link_reported}
use Rattle.journal_acks.specs.open_links.OpenLinks.{OpenLink, facts_in, link_after, link_at}
use Rattle.journal_acks.specs.controller_model.Data.{facts_handed, notes_handed}
use Rattle.journal_acks.specs.controller_model.Facts.{Facts, Setup}
use Rattle.journal_acks.specs.controller_model.Links.{notes_leaving}
use Rattle.journal_acks.specs.controller_model.Notes.{is_opening}
use Rattle.journal_acks.specs.controller_model.Side.{notes_of}
use Rattle.journal_acks.specs.controller_model.Since.{count_since, data_up, data_waiting, empties_of, is_data_note, is_sent_on, is_took_on, note_since, since_opened}
use Rattle.journal_acks.specs.controller_model.Step.{TurnEnds}
use Rattle.journal_acks.proofs.controller_model.DataBooks.{data_is_handed}
use Rattle.journal_acks.proofs.controller_model.NoteBooks.{sent_notes_are, took_notes_are}
use Rattle.journal_acks.proofs.controller_model.OpenNotes.{open_before}
use Rattle.journal_acks.proofs.controller_model.PiecesBelow.{all_pieces}
use Rattle.journal_acks.specs.run_model.History.{Event, Called, Noted, noted_by, past_of}
use Rattle.journal_acks.specs.run_model.Run.{Given, after_call, facts_at, setup_at}
use Rattle.journal_acks.proofs.run_model.Calls.{noted_called, same_station, with_notes}
use Rattle.journal_acks.proofs.run_laws.Agreed.{ack_of, ack_reported, step_facts}
use Rattle.journal_acks.proofs.Counting.{HaveOwnNumbers}
use Rattle.journal_acks.proofs.Exchanging.{map_both, number_at}
use Rattle.journal_data.specs.HostLines.{has_octets}
use Rattle.journal_data.specs.Lines.{Lines, empties_on, submitted_on}
use Rattle.journal_data.proofs.Arriving.{IsEndBooked, pdu_lines}
use Rattle.journal_data.proofs.Booked.{IsBook, count_up, data_booked}
use Rattle.journal_data.proofs.Credits.{credited_handed}
use Rattle.journal_data.proofs.EachLine.{call_lines, lines_at, numbers_at}
use Rattle.journal_data.proofs.Ends.{IsWell}
use Rattle.journal_data.proofs.Fronts.{front_all}
use Rattle.journal_data.proofs.HandedPieces.{handed_data}
use Rattle.journal_data.proofs.NotedLines.{AreApart, IsNotOf, IsOfBase, IsSameOn, KeepsBook, is_link, notes_kept, numbers_quiet, same_then, since_plain, with_noted}
use Rattle.journal_data.proofs.NotedPdus.{noted_sent, noted_took}
use Rattle.journal_data.proofs.OpenLines.{all_back}
use Rattle.journal_data.proofs.Openness.{AreNot, all_of, handed_not, is_open, is_shutting, leaving_not, note_open, open_still}
use Rattle.journal_data.proofs.StationLines.{IsNoneOf, called_booked, called_numbers, called_then, each_in, of_before, own_apart}
use Rattle.journal_data.proofs.Submitting.{call_submits}
use Rattle.journal_data.proofs.TurnsEnded.{leaving_no_data}

-- ---- notes that open none

since_more : (handle : ℕ) (since notes : List Note) → AreNot is_opening notes → fold (note_since handle) since notes ≡ since ++ notes
since_more handle since [] none = sym (append-nil since)
since_more handle since (note ∷ notes) none =
    ap (λ next. fold (note_since handle) next notes) (sym (since_plain handle since note none.0))
    ∙ since_more handle (since ++ note ∷ []) notes none.1 ∙ append_assoc since (note ∷ []) notes

count_same : (handle count : ℕ) (notes : List Note) → AreNot is_opening notes → fold (count_since handle) count notes ≡ count
count_same handle count [] none = refl
count_same handle count (note ∷ notes) none = ap (λ next. fold (count_since handle) next notes) (by note none.0) ∙ count_same handle count notes none.1
  where
    by : (note : Note) → is_opening note ≡ false → count_since handle count note ≡ count
    by (Opened other role own peer) none = absurd cc
    by (Up packet) none = refl
    by note none = refl

filter_none : (kind : Note → Bool) (notes : List Note) → AreNot kind notes → filter kind notes ≡ []
filter_none kind [] none = refl
filter_none kind (note ∷ notes) none =
    ap (λ (passes : Bool). cond passes (note ∷ filter kind notes) (filter kind notes)) none.0 ∙ filter_none kind notes none.1

-- ---- what a report leaves

module _ (link : OpenLink) where
  abbrev AfterReport : (OpenLink → Type 0) → Bool → Type 0
  AfterReport P some = P (if some then link_after DataReported link else link)

  pub reported_ack : ack_of (link_reported link) ≡ ack_of link
  reported_ack = by (nat_lt 0 (complete_in link))
    where
      by : (some : Bool) → AfterReport (λ l. ack_of l ≡ ack_of link) some
      by true = ack_reported link
      by false = refl

  reported_given : (facts_in (link_reported link)).outgoing.given ≡ (facts_in link).outgoing.given
  reported_given = by (nat_lt 0 (complete_in link))
    where
      by : (some : Bool) → AfterReport (λ l. (facts_in l).outgoing.given ≡ (facts_in link).outgoing.given) some
      by true = ap (λ (facts : EndFacts). facts.outgoing.given) (step_facts link DataReported)
      by false = refl

-- ---- a turn ends

module _ (given : Given) (station : ℕ) (history : List Event) (few : (setup_at given station).links ≤ 4096) (own : HaveOwnNumbers given station history)
    (well : IsWell given station history) where
  abbrev setup : Setup
  setup = setup_at given station

  abbrev facts : Facts
  facts = facts_at given station history

  abbrev many : ℕ
  many = setup.links

  abbrev handed : List Note
  handed = notes_handed facts

  abbrev leaving : List Note
  leaving = notes_leaving (facts_handed facts)

  abbrev called : List Event
  called = history ++ Called station TurnEnds ∷ []

  -- once the host has received what it is to receive
  abbrev mid : List Event
  mid = with_noted station called handed

  abbrev then_on : List Event
  then_on = after_call given station TurnEnds history

  abbrev before_open : ℕ → Bool
  before_open = is_open facts.links

  abbrev mid_open : ℕ → Bool
  mid_open handle = fold (note_open handle) (before_open handle) handed

  none_opens : AreNot is_opening handed
  none_opens = handed_not is_opening (λ octets. refl) facts

  mid_same : (handle : ℕ) → mid_open handle ≡ before_open handle
  mid_same handle = open_still handle (before_open handle) handed none_opens (handed_not is_shutting (λ octets. refl) facts)

  of_notes : AllByRecursion (IsOfBase before_open) (handed ++ leaving)
  of_notes = of_before setup (past_of station history) TurnEnds few

  numbers_mid : numbers_at station mid ≡ numbers_at station history
  numbers_mid = numbers_quiet station called handed none_opens ∙ called_numbers station TurnEnds history

  apart : AreApart (numbers_at station history) before_open
  apart = own_apart given station history own

  kept_handed : KeepsBook many station called mid mid_open handed
  kept_handed =
      notes_kept many station called before_open before_open handed
      (subst (λ (number : ℕ → ℕ). AreApart number before_open) (sym (called_numbers station TurnEnds history)) apart) (λ handle on. on) none_opens
      (front_all (IsOfBase before_open) handed leaving of_notes) (called_booked given station TurnEnds history well.booked)

  -- and once these of the ends of links are noted
  abbrev ending_on : List Note → List Event
  ending_on part = with_notes station TurnEnds (handed ++ part) history

  then_is : (part : List Note) → with_noted station mid part ≡ ending_on part
  then_is part =
      append_assoc called (map (Noted station) handed) (map (Noted station) part) ∙ ap (λ more. called ++ more) (sym (map_both station handed part))
      ∙ called_then station TurnEnds history (handed ++ part)

  -- the ends of links say nothing of their data
  ending_same : (part rest : List Note) → leaving ≡ part ++ rest → (number : ℕ) → IsSameOn number (lines_at station mid) (lines_at station (ending_on part))
  ending_same part rest parts number =
      let kept = notes_kept many station mid mid_open before_open part (subst (λ (of : ℕ → ℕ). AreApart of before_open) (sym numbers_mid) apart)
      (λ handle on. sym (mid_same handle) ∙ on)
      (front_all (λ note. is_opening note ≡ false) part rest (subst (AreNot is_opening) parts (leaving_not is_opening (λ octets. refl) (λ handle reason. refl) facts)))
      (front_all (IsOfBase before_open) part rest (subst (AllByRecursion (IsOfBase before_open)) parts (all_back (IsOfBase before_open) handed leaving of_notes))) kept_handed.booked in
      subst (λ (all : List Event). IsSameOn number (lines_at station mid) (lines_at station all)) (then_is part)
      (kept.same number (front_all (IsNotOf number (numbers_at station mid)) part rest (subst (AllByRecursion (IsNotOf number (numbers_at station mid))) parts
      (each_in (IsNotOf number (numbers_at station mid)) leaving (λ note inside handle names.
      absurd (let h : true ≡ false =
      sym names ∙ All-contains (λ one. is_data_note handle one ≡ false) leaving note
      (All-from_recursion (λ one. is_data_note handle one ≡ false) leaving (leaving_no_data handle facts)) inside in absurd cc))))))

  leaving_same : (number : ℕ) → IsSameOn number (lines_at station mid) (lines_at station then_on)
  leaving_same number = ending_same leaving [] (sym (append-nil leaving)) number

  -- of a link that was not open nothing is said
  pub others_same : (number : ℕ) → IsNoneOf given station number history → IsSameOn number (lines_at station history) (lines_at station then_on)
  others_same number none =
      let names_open : AllByRecursion (λ note. (handle : ℕ) → is_data_note handle note ≡ true → before_open handle ≡ true) (handed ++ leaving) =
      each_in (λ note. (handle : ℕ) → is_data_note handle note ≡ true → before_open handle ≡ true) (handed ++ leaving)
      (λ note inside handle names. open_before setup (past_of station history) TurnEnds note handle few inside names) in
      same_then number (lines_at station history) (lines_at station mid) (lines_at station then_on)
      (subst (λ (lines : Lines). IsSameOn number lines (lines_at station mid)) (call_lines station history station TurnEnds)
      (kept_handed.same number
      (all_of (λ note. (handle : ℕ) → is_data_note handle note ≡ true → before_open handle ≡ true) (IsNotOf number (numbers_at station called))
      (λ note names handle of_it.
      let found = is_link (link_at handle facts.links) (names handle of_it) in
      ap (λ (of : ℕ → ℕ). of handle == number) (called_numbers station TurnEnds history) ∙ none handle found.link found.is)
      handed (front_all _ handed leaving names_open))))
      (leaving_same number)

  pub submits_same : (number : ℕ) → submitted_on number (lines_at station then_on) ≡ submitted_on number (lines_at station history)
  submits_same number =
      ap (λ all. submitted_on number (record (lines_at station history) { submitted = all })) (call_submits station TurnEnds (handed ++ leaving) history)

  -- ---- a link that was open

  module _ (eight : setup.host_buffers ≡ 8) (handle : ℕ) (link : OpenLink) (at : link_at handle facts.links ≡ Some link) where
    abbrev number : ℕ
    number = number_at station handle history

    abbrev reported : OpenLink
    reported = link_reported link

    abbrev since : List Note
    since = since_opened handle (noted_by station history)

    -- what the host does not receive yet
    abbrev left : List Marked
    left = data_waiting handle (left_of facts.view facts.received)

    abbrev since_past : List Note
    since_past = since_opened handle (notes_of setup (past_of station history))

    noted : since ≡ since_past
    noted = ap (since_opened handle) well.noted

    since_mid : since_opened handle (noted_by station mid) ≡ since ++ handed
    since_mid =
        ap (since_opened handle) (ap (noted_by station) (called_then station TurnEnds history handed)
        ∙ noted_called station station TurnEnds handed history true (same_station station))
        ∙ fold-append (note_since handle) [] (noted_by station history) handed ∙ since_more handle since handed none_opens

    kind_same : (kind : Note → Bool) → ((octets : List ℕ) → kind (Up (record { items = octets })) ≡ false) → filter kind (since ++ handed) ≡ filter kind since_past
    kind_same kind up =
        filter-append kind since handed ∙ ap (λ more. filter kind since ++ more) (filter_none kind handed (handed_not kind up facts))
        ∙ append-nil (filter kind since) ∙ ap (filter kind) noted

    credits : sum_by (count_up handle) (since ++ handed) ≡ (facts_in reported).outgoing.reported + empties_of setup handle (past_of station history)
    credits =
        ap (sum_by (count_up handle)) (ap (λ (notes : List Note). notes ++ handed) noted ∙ sym (since_more handle since_past handed none_opens))
        ∙ credited_handed setup (past_of station history) handle link few (omega (arith, eight)) well.few.fed at
        ∙ ap (λ n. (facts_in reported).outgoing.reported + n) (count_same handle (empties_of setup handle (past_of station history)) handed none_opens)

    -- where these of the ends of links are noted
    module _ (part rest : List Note) (parts : leaving ≡ part ++ rest) where
      abbrev lines_then : Lines
      lines_then = lines_at station (ending_on part)

      submits_then : lines_then.submitted ≡ (lines_at station history).submitted
      submits_then = call_submits station TurnEnds (handed ++ part) history

      book : IsBook handle number lines_then (since ++ handed)
      book =
          let on = mid_same handle ∙ ap (λ (place : Option OpenLink). is_some place) at in
          let here : IsBook handle number (lines_at station mid) (since ++ handed) =
          subst (IsBook handle number (lines_at station mid)) since_mid
          (subst (λ n. IsBook handle n (lines_at station mid) (since_opened handle (noted_by station mid))) (ap (λ (of : ℕ → ℕ). of handle) numbers_mid)
          (kept_handed.booked.book handle on)) in
          let same = ending_same part rest parts number in
          record {
            sent = same.sent ∙ here.sent;
            taken = same.taken ∙ here.taken;
            received = same.received ∙ here.received;
            credited = same.credited ∙ here.credited;
          }

      empties : empties_on number lines_then ≡ empties_of setup handle (past_of station history)
      empties =
          ap (λ all. empties_on number (record (lines_at station history) { submitted = all })) submits_then
          ∙ well.submitted.empties_are handle link at

      pub booked_within : IsEndBooked number lines_then (facts_in reported) left
      booked_within =
          let ack = ack_of link in
          let same = sym (reported_ack link) in
          record {
            sent = book.sent
                ∙ noted_sent handle number (since ++ handed) (nonempty is_empty ack.sent)
                (kind_same (is_sent_on handle) (λ octets. refl) ∙ sent_notes_are setup (past_of station history) handle link at)
                ∙ ap (λ (a : Acknowledgement). pdu_lines number 1 (nonempty is_empty a.sent)) same;
            taken = book.taken
                ∙ noted_took handle number (since ++ handed) (nonempty is_empty ack.accepted)
                (kind_same (is_took_on handle) (λ octets. refl) ∙ took_notes_are setup (past_of station history) handle link at)
                ∙ ap (λ (a : Acknowledgement). pdu_lines number 1 (nonempty is_empty a.accepted)) same;
            received = ap (λ octets. octets ++ left) (data_booked handle number lines_then (since ++ handed) book ∙ flat_map-append (data_up handle) since handed)
                ∙ append_assoc (flat_map (data_up handle) since) (flat_map (data_up handle) handed) left
                ∙ (λ i. flat_map (data_up handle) (noted i) ++ handed_data many handle few facts (all_pieces setup (past_of station history)).below i)
                ∙ data_is_handed setup (past_of station history) handle link few at ∙ ap (λ (a : Acknowledgement). data_of a.accepted) same;
            credited = book.credited ∙ credits ∙ ap (λ n. (facts_in reported).outgoing.reported + n) (sym empties);
            submitted = ap (λ all. filter has_octets (submitted_on number (record (lines_at station history) { submitted = all }))) submits_then
                ∙ well.submitted.data_is handle link at ∙ sym (reported_given link);
          }

    pub booked_then : IsEndBooked number (lines_at station then_on) (facts_in reported) left
    booked_then = booked_within leaving [] (sym (append-nil leaving))

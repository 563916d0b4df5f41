-- A link that a station shuts was opened at its side, under the handle in the event of its end.
use Rattle.std.proofs.Common.{◌≡◌, ℕ, zero, suc, ◌+◌, ◌==◌, ◌&&◌, Bool, true, false, Option, None, List, [], ◌∷◌, ◌++◌, map, replicate, refl, sym, ap, subst, ◌∙◌, append-nil, append_assoc, arith}
use Rattle.std.specs.Prelude.{fold, is_some, if◌then◌else◌}
use Rattle.std.specs.List.{Contains}
use Rattle.std.proofs.lemmas.Bool.{eq-eqb, eqb-true}
use Rattle.std.proofs.lemmas.List.Concat.{flat_map-append}
use Rattle.std.proofs.lemmas.List.Elements.{Contains-append_left, Contains-push}
use Rattle.std.proofs.lemmas.List.Sums.{fold-append}
use Rattle.ble_base.specs.declared.addresses.Address.{Address}
use Rattle.ble_base.specs.declared.error_codes.ErrCode.{ErrCode}
use Rattle.ble_base.specs.declared.notes.Note.{Note}
use Rattle.ble_base.specs.declared.notes.Note.TheVariants.{Opened, Shut}
use Rattle.ble_base.specs.declared.roles.Role.{Role}
use Rattle.ble_base.specs.declared.roles.Side.{Side}
use Rattle.journal.specs.declared.entries.Entry.{Entry}
use Rattle.journal.specs.declared.entries.Entry.TheVariants.{Opened as OpenedEntry}
use Rattle.hci_cmd.specs.declared.command.Command.TheVariants.{Reset}
use Rattle.journal_data.specs.open_links.Data.{link_reported}
use Rattle.journal_data.specs.open_links.OpenLinks.{OpenLink, link_from}
use Rattle.journal_data.specs.controller_model.Facts.{Setup, Facts}
use Rattle.journal_data.specs.controller_model.Host.{commands_accepted_after}
use Rattle.journal_data.specs.controller_model.Shutting.{IsShut, overdue, leaving, reset}
use Rattle.journal_data.specs.controller_model.Side.{facts_of, notes_after, notes_of}
use Rattle.journal_data.specs.controller_model.Step.{Step, PacketHeard, NothingHeard}
use Rattle.journal_data.proofs.controller_model.OpenPlaces.{mapped_opens}
use Rattle.journal_data.proofs.controller_model.Pasts.{facts_more, notes_more}
use Rattle.journal_data.proofs.controller_model.Shuts.{shuts_with_reason}
use Rattle.run_model.specs.History.{Event, TurnBegan, HostFed, Called, Noted, Transmitted, noted_by, notes_in, one_if, past_of}
use Rattle.run_model.specs.Journal.{entries_of, journal_from, journal_of, side_of}
use Rattle.run_model.specs.Links.{Links as Numbers, links_after, links_of}
use Rattle.run_model.specs.NoteLines.{IsLineInCall, shut_line}
use Rattle.run_model.specs.OnAir.{ends_phase}
use Rattle.run_model.specs.Run.{Given, history_of, run_of, setup_at}
use Rattle.run_model.proofs.Calls.{flat_nothing, same_station}
use Rattle.run_model.proofs.CallNotes.{noted_in_call}
use Rattle.run_model.proofs.LinksKnown.{links_event}
use Rattle.run_model.proofs.NoteLines.{is_contained, number_then}
use Rattle.run_model.proofs.Notes.{NotedBefore, run_noted}
use Rattle.run_model.proofs.Parts.{journal_event, journal_more}
use Rattle.run_model.proofs.Places.{each_at}
use Rattle.journal_data.proofs.EachLine.{numbers_at}
use Rattle.journal_data.proofs.Openness.{IsNotedAs, is_open, note_open, open_still, opens_first, past_noted, same_open, shuts, stays}
use Rattle.journal_data.proofs.StationLines.{numbers_event}
use Rattle.journal_hosts.specs.Credits.{IsOpenedUnder}

-- ---- by the notes of a controller a link is open under a handle exactly if it holds one

noted_fold : (before after : ℕ → Bool) (notes : List Note) → IsNotedAs before after notes → (handle : ℕ) → fold (note_open handle) (before handle) notes ≡ after handle
noted_fold before after notes (stays none shut same) handle = open_still handle (before handle) notes none shut ∙ sym (same handle)
noted_fold before after notes (shuts none folds once) handle = folds handle
noted_fold before after notes (opens_first first role own peer rest is none shut quiet free now others) handle =
    ap (fold (note_open handle) (before handle)) is
    ∙ open_still handle (note_open handle (before handle) (Opened first role own peer)) rest none shut ∙ by (first == handle) refl
  where
    by : (same : Bool) → (first == handle) ≡ same → (if same then true else before handle) ≡ after handle
    by true same = sym now ∙ ap after (eqb-true first handle same)
    by false differs = sym (others handle differs)

abbrev IsAsNoted : Setup → ℕ → List Step → Type 0
IsAsNoted setup handle past = fold (note_open handle) false (notes_of setup past) ≡ is_open (facts_of setup past).links handle

step_noted : (setup : Setup) (handle : ℕ) (past : List Step) (step : Step) → IsAsNoted setup handle past → IsAsNoted setup handle (past ++ step ∷ [])
step_noted setup handle past step is =
    let notes = notes_after setup (facts_of setup past) step in
    ap (fold (note_open handle) false) (notes_more setup past step)
    ∙ fold-append (note_open handle) false (notes_of setup past) notes
    ∙ ap (λ linked. fold (note_open handle) linked notes) is
    ∙ noted_fold _ _ notes (past_noted setup past step) handle
    ∙ ap (λ (facts : Facts). is_open facts.links handle) (sym (facts_more setup past step))

noted_along : (setup : Setup) (handle : ℕ) (front rest : List Step) → IsAsNoted setup handle front → IsAsNoted setup handle (front ++ rest)
noted_along setup handle front [] is = subst (IsAsNoted setup handle) (sym (append-nil front)) is
noted_along setup handle front (step ∷ rest) is =
    subst (IsAsNoted setup handle) (append_assoc front (step ∷ []) rest) (noted_along setup handle (front ++ step ∷ []) rest (step_noted setup handle front step is))

none_first : (first handle many : ℕ) → is_some (link_from first handle (replicate many None)) ≡ false
none_first first handle zero = refl
none_first first handle (suc many) = by (first == handle) (none_first (first + 1) handle many)
  where
    by : (own : Bool) → is_some (link_from (first + 1) handle (replicate many None)) ≡ false
        → is_some (if own then None else link_from (first + 1) handle (replicate many None)) ≡ false
    by true rest = refl
    by false rest = rest

first_noted : (setup : Setup) (handle : ℕ) → IsAsNoted setup handle []
unfolding facts_of notes_of
first_noted setup handle = sym (none_first 0 handle setup.links)

always_noted : (setup : Setup) (handle : ℕ) (past : List Step) → IsAsNoted setup handle past
always_noted setup handle past = noted_along setup handle [] past (first_noted setup handle)

-- ---- a link that is open by the notes of a station has its line

pub lines_more : (side : Side) (link handle : ℕ) (lines more : List Entry) → IsOpenedUnder side link handle lines → IsOpenedUnder side link handle (lines ++ more)
lines_more side link handle lines more is =
    record { role = is.role; opened = Contains-append_left lines more (OpenedEntry side link handle is.role) is.opened }

module _ (station handle : ℕ) where
  abbrev open_by : List Event → Bool
  open_by history = fold (note_open handle) false (noted_by station history)

  abbrev HasLine : List Event → Type 0
  HasLine history = IsOpenedUnder (side_of station) (numbers_at station history handle) handle (journal_of history)

  abbrev IsOpened : List Event → Type 0
  IsOpened history = open_by history ≡ true → HasLine history

  grown : (history : List Event) (event : Event) → numbers_at station (history ++ event ∷ []) handle ≡ numbers_at station history handle → HasLine history
      → HasLine (history ++ event ∷ [])
  grown history event number line =
      subst (λ n. IsOpenedUnder (side_of station) n handle (journal_of (history ++ event ∷ []))) (sym number)
      (subst (IsOpenedUnder (side_of station) (numbers_at station history handle) handle) (sym (journal_event history event))
      (lines_more (side_of station) (numbers_at station history handle) handle (journal_of history) (entries_of (links_of history) event) line))

  -- an event that is no note of the station
  not_noted : (history : List Event) (event : Event) → notes_in station event ≡ [] → numbers_at station (history ++ event ∷ []) handle ≡ numbers_at station history handle
      → IsOpened history → IsOpened (history ++ event ∷ [])
  not_noted history event none number opened = λ on.
      grown history event number
      (opened (ap (fold (note_open handle) false) (sym (flat_nothing (notes_in station) history event none)) ∙ on))

  number_after : (history : List Event) (event : Event) → numbers_at station (history ++ event ∷ []) handle ≡ (links_after (links_of history) event).link_of station handle
  number_after history event = ap (λ (links : Numbers). links.link_of station handle) (links_event history event)

  other_number : (history : List Event) (other : ℕ) (note : Note) → (station == other) ≡ false
      → (links_after (links_of history) (Noted other note)).link_of station handle ≡ numbers_at station history handle
  other_number history other (Opened under role own peer) differs =
      ap (λ b. if b && (handle == under) then (links_of history).last_of other else numbers_at station history handle) differs
  other_number history other note differs = refl

  -- and one that is
  after_note : (history : List Event) (note : Note) → open_by (history ++ Noted station note ∷ []) ≡ note_open handle (open_by history) note
  after_note history note =
      ap (fold (note_open handle) false)
      (flat_map-append (notes_in station) history (Noted station note ∷ [])
      ∙ ap (λ own. noted_by station history ++ (one_if own note ++ [])) (same_station station))
      ∙ fold-append (note_open handle) false (noted_by station history) (note ∷ [])

  opened_now : (history : List Event) (under : ℕ) (role : Role) (own peer : Address) → under ≡ handle → HasLine (history ++ Noted station (Opened under role own peer) ∷ [])
  opened_now history under role own peer same =
      let event = Noted station (Opened under role own peer) in
      let links = links_of history in
      let number : numbers_at station (history ++ event ∷ []) handle ≡ links.last_of station =
      number_after history event
      ∙ ap (λ b. if b && (handle == under) then links.last_of station else links.link_of station handle) (same_station station)
      ∙ ap (λ b. if b then links.last_of station else links.link_of station handle) (eq-eqb handle under (sym same)) in
      subst (λ n. IsOpenedUnder (side_of station) n handle (journal_of (history ++ event ∷ []))) (sym number)
      (subst (IsOpenedUnder (side_of station) (links.last_of station) handle) (sym (journal_event history event)) (record {
        role = role;
        opened = subst (λ n. Contains (journal_of history ++ OpenedEntry (side_of station) (links.last_of station) n role ∷ [])
            (OpenedEntry (side_of station) (links.last_of station) handle role)) (sym same)
            (Contains-push (journal_of history) (OpenedEntry (side_of station) (links.last_of station) handle role));
      }))

  own_note : (history : List Event) (note : Note) → IsOpened history → IsOpened (history ++ Noted station note ∷ [])
  own_note history (Opened under role own peer) opened = λ on. by (under == handle) refl (sym (after_note history (Opened under role own peer)) ∙ on)
    where
      by : (same : Bool) → (under == handle) ≡ same → (if same then true else open_by history) ≡ true → HasLine (history ++ Noted station (Opened under role own peer) ∷ [])
      by true is on = opened_now history under role own peer (eqb-true under handle is)
      by false differs on =
          let links = links_of history in
          grown history (Noted station (Opened under role own peer))
          (number_after history (Noted station (Opened under role own peer))
          ∙ ap (λ b. if (station == station) && b then links.last_of station else links.link_of station handle) (turned differs)
          ∙ none_second (station == station) (links.last_of station) (links.link_of station handle)) (opened on)
        where
          turned : (under == handle) ≡ false → (handle == under) ≡ false
          turned is = grind (arith, is)

          none_second : (own : Bool) (one other : ℕ) → (if own && false then one else other) ≡ other
          none_second true one other = refl
          none_second false one other = refl
  own_note history (Shut under reason) opened = λ on.
      grown history (Noted station (Shut under reason)) (number_after history (Noted station (Shut under reason)))
      (opened (by (under == handle) (sym (after_note history (Shut under reason)) ∙ on)))
    where
      by : (same : Bool) → (if same then false else open_by history) ≡ true → open_by history ≡ true
      by true on = absurd (let h : false ≡ true = on in absurd cc)
      by false on = on
  own_note history note opened = λ on.
      grown history (Noted station note) (number_after history (Noted station note)) (opened (sym (after_note history note) ∙ on))

  event_opened : (history : List Event) (event : Event) → IsOpened history → IsOpened (history ++ event ∷ [])
  event_opened history (Noted other note) opened = by (station == other) refl
    where
      by : (same : Bool) → (station == other) ≡ same → IsOpened (history ++ Noted other note ∷ [])
      by true is = subst (λ one. IsOpened (history ++ Noted one note ∷ [])) (eqb-true station other is) (own_note history note opened)
      by false differs =
          not_noted history (Noted other note) (ap (λ own. one_if own note) differs) (number_after history (Noted other note) ∙ other_number history other note differs) opened
  event_opened history (Called other step) opened = not_noted history (Called other step) refl (number_after history (Called other step)) opened
  event_opened history (TurnBegan slot radios) opened =
      not_noted history (TurnBegan slot radios) refl (ap (λ (number : ℕ → ℕ). number handle) (numbers_event station history (TurnBegan slot radios) refl)) opened
  event_opened history (HostFed other octets) opened =
      not_noted history (HostFed other octets) refl (ap (λ (number : ℕ → ℕ). number handle) (numbers_event station history (HostFed other octets) refl)) opened
  event_opened history (Transmitted sender channel octets hearings) opened =
      not_noted history (Transmitted sender channel octets hearings) refl
      (ap (λ (number : ℕ → ℕ). number handle) (numbers_event station history (Transmitted sender channel octets hearings) refl)) opened

  opened_along : (history more : List Event) → IsOpened history → IsOpened (history ++ more)
  opened_along history [] opened = subst IsOpened (sym (append-nil history)) opened
  opened_along history (event ∷ more) opened =
      subst IsOpened (append_assoc history (event ∷ []) more) (opened_along (history ++ event ∷ []) more (event_opened history event opened))

  always_opened : (history : List Event) → IsOpened history
  always_opened history = opened_along [] history (λ on. absurd (let h : false ≡ true = on in absurd cc))

-- ---- a link that is shut

no_phase : (facts : Facts) (step : Step) (handle reason : ℕ) → IsShut facts step handle reason → ends_phase step ≡ false
no_phase facts step handle reason (overdue slot on link begins at due) = ap ends_phase begins
no_phase facts step handle reason (leaving link ends at due) = ap ends_phase ends
no_phase facts step handle reason (reset link completed at code) = by step completed
  where
    by : (step : Step) → commands_accepted_after facts step ≡ Reset ∷ [] → ends_phase step ≡ false
    by (PacketHeard octets) is = absurd cc
    by NothingHeard is = absurd cc
    by other is = refl

was_open : (facts : Facts) (step : Step) (handle reason : ℕ) → IsShut facts step handle reason → is_open facts.links handle ≡ true
was_open facts step handle reason (overdue slot on link begins at due) = ap (λ (place : Option OpenLink). is_some place) at
was_open facts step handle reason (leaving link ends at due) =
    sym (same_open facts.links _ (mapped_opens link_reported facts.links) handle) ∙ ap (λ (place : Option OpenLink). is_some place) at
was_open facts step handle reason (reset link completed at code) = ap (λ (place : Option OpenLink). is_some place) at

pub shut_was_opened : (given : Given) (before rest : List Event) (station handle : ℕ) (reason : ErrCode)
    → history_of (run_of given) ≡ before ++ Noted station (Shut handle reason) ∷ rest
    → IsOpenedUnder (side_of station) (numbers_at station before handle) handle (journal_of before)
shut_was_opened given before rest station handle reason is =
    let note = Shut handle reason in
    let noted = noted_in_call given before rest station note is in
    let after = map (Noted station) noted.earlier ++ Noted station note ∷ rest in
    let called = is ∙ ap (λ (xs : List Event). xs ++ Noted station note ∷ rest) noted.before_is
    ∙ append_assoc noted.base (Called station noted.step ∷ map (Noted station) noted.earlier) (Noted station note ∷ rest) in
    let call : IsLineInCall given (journal_of before) (shut_line (side_of station) (numbers_at station before handle) reason) = record {
      station = station;
      handle = handle;
      step = noted.step;
      base = noted.base;
      earlier = noted.earlier;
      later = noted.later;
      after = after;
      called = called;
      notes_are = noted.notes_are;
      before = before;
      rest = rest;
      is_at = is;
      before_is = noted.before_is;
      front_is = refl;
      side_is = refl;
      number_is = refl;
    } in
    let setup = setup_at given station in
    let past = past_of station noted.base in
    let line = shut_line (side_of station) (numbers_at station before handle) reason in
    let why = (shuts_with_reason setup past noted.step handle reason.0).0 (is_contained given (journal_of before) line call) in
    let noted_are = each_at (NotedBefore given) (history_of (run_of given)) noted.base after (Called station noted.step) (run_noted given).each called refl station in
    let on = ap (fold (note_open handle) false) noted_are ∙ always_noted setup handle past ∙ was_open (facts_of setup past) noted.step handle reason.0 why in
    let opened = always_opened station handle noted.base on in
    let number = number_then given (journal_of before) line call (no_phase (facts_of setup past) noted.step handle reason.0 why) in
    let more = Called station noted.step ∷ map (Noted station) noted.earlier in
    subst (λ n. IsOpenedUnder (side_of station) n handle (journal_of before)) number
    (subst (λ h. IsOpenedUnder (side_of station) (numbers_at station noted.base handle) handle (journal_of h)) (sym noted.before_is)
    (subst (IsOpenedUnder (side_of station) (numbers_at station noted.base handle) handle) (sym (journal_more noted.base more))
    (lines_more (side_of station) (numbers_at station noted.base handle) handle (journal_of noted.base) (journal_from (links_of noted.base) more) opened)))

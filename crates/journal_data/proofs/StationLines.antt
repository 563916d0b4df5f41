-- The lines of a station say of each of its open links what it noted under the handle of that link since it was opened, and
-- of any other link what they said before.
use Rattle.std.proofs.Common.{◌≡◌, ℕ, zero, suc, ◌+◌, ◌<◌, ◌≤◌, ◌==◌, Bool, true, false, Option, Some, None, List, [], ◌∷◌, ◌++◌, map, cond, replicate, refl, ap, sym, subst, ◌∙◌, append_assoc}
use Rattle.std.specs.Prelude.{◌||◌, fold, is_some}
use Rattle.std.specs.List.{AllByRecursion, Contains}
use Rattle.std.proofs.lemmas.Bool.{eq-eqb, eqb-true}
use Rattle.std.proofs.lemmas.List.Elements.{All-contains_itself, recursion_from_All}
use Rattle.ble_base.specs.declared.addresses.Address.{Address}
use Rattle.ble_base.specs.declared.roles.Role.{Role}
use Rattle.ble_base.specs.declared.notes.Note.{Note}
use Rattle.ble_base.specs.declared.notes.Note.TheVariants.{Up, Opened, Shut, Sent, Took}
use Rattle.journal.specs.declared.entries.Entry.TheVariants.{Fed as FedEntry}
use Rattle.journal_acks.specs.open_links.OpenLinks.{OpenLink, link_at, link_from}
use Rattle.journal_acks.specs.controller_model.Step.{Step, HostOctet}
use Rattle.journal_acks.specs.controller_model.Facts.{Setup, Facts}
use Rattle.journal_acks.specs.controller_model.Notes.{HasHandleBelow, is_opening}
use Rattle.journal_acks.specs.controller_model.Shutting.{IsShut, overdue, reset, StaysIn, leaving}
use Rattle.journal_acks.specs.controller_model.Side.{facts_after, facts_of, notes_after}
use Rattle.journal_acks.specs.controller_model.Since.{since_opened}
use Rattle.journal_acks.proofs.controller_model.NotedLinks.{step_names_links}
use Rattle.journal_acks.proofs.controller_model.OpenNotes.{open_after, open_before}
use Rattle.journal_acks.proofs.controller_model.Shuts.{shuts_with_reason}
use Rattle.journal_acks.specs.run_model.History.{Event, TurnBegan, HostFed, Called, Noted, Transmitted, Hearing, noted_by, notes_in, past_of, steps_in}
use Rattle.journal_acks.specs.run_model.Journal.{journal_of, side_of}
use Rattle.journal_acks.specs.run_model.Links.{Links, begins_link, links_after, links_of, with_link}
use Rattle.journal_acks.specs.run_model.Run.{Given, setup_at, facts_at, after_call, after_octets, after_feed}
use Rattle.journal_acks.proofs.run_model.Calls.{flat_nothing, with_notes}
use Rattle.journal_acks.proofs.run_model.LinksKnown.{link_by_own, links_event}
use Rattle.journal_acks.proofs.run_model.Notes.{no_steps, no_notes}
use Rattle.journal_acks.proofs.run_model.OpenedNotes.{is_opened, outside_open}
use Rattle.journal_acks.proofs.run_model.Walk.{is_outside}
use Rattle.journal_acks.proofs.run_laws.Hearings.{own_facts}
use Rattle.journal_acks.specs.journal_packets.Belonging.{is_side}
use Rattle.journal_acks.proofs.Counting.{HaveOwnNumbers}
use Rattle.journal_acks.proofs.Exchanging.{number_at}
use Rattle.journal_acks.proofs.TwoStations.{side_same}
use Rattle.journal_acks.proofs.link_calls.UnderHandles.{octet_under}
use Rattle.journal_data.specs.HostLines.{OpenUnder}
use Rattle.journal_data.specs.Lines.{Lines, line_after, lines_of, pdus_on}
use Rattle.journal_data.proofs.Booked.{IsBook, counts_on, received_at}
use Rattle.journal_data.proofs.EachLine.{event_lines, call_lines, lines_at, note_lines, numbers_at, air_lines, turn_lines}
use Rattle.journal_data.proofs.HeldLinks.{HoldsLinks, holds_none}
use Rattle.journal_data.proofs.Openness.{AreNot, IsNotedAs, stays, shuts, opens_first, is_open, is_shutting, note_open, open_still, past_noted, all_of, same_open}
use Rattle.journal_data.proofs.NotedLines.{IsUnused, IsSameOn, same_itself, same_then, IsLink, is_link, AreApart, IsOfBase, IsNotOf, sent_data, took_data, IsBookedSo, booked_along, booked_where, opening_kept, with_noted, one_on, numbers_quiet, notes_kept}
use Rattle.journal_data.proofs.TurnsEnded.{is_else, none_else}
use Rattle.journal_acks.proofs.controller_model.OpenPlaces.{mapped_opens}
use Rattle.journal_acks.specs.open_links.Data.{link_reported}

-- ---- what the lines of a station are to say

pub record IsStationBooked (given : Given) (station : ℕ) (history : List Event) : Type 0 where
  pub book : (handle : ℕ) (link : OpenLink) → link_at handle (facts_at given station history).links ≡ Some link
      → IsBook handle (number_at station handle history) (lines_at station history) (since_opened handle (noted_by station history))
  pub links : HoldsLinks (setup_at given station).links (lines_at station history).links (numbers_at station history)
      (is_open (facts_at given station history).links)

-- ---- what a call notes

pub each_in : (P : Note → Type 0) (notes : List Note) → ((note : Note) → Contains notes note → P note) → AllByRecursion P notes
each_in P notes is = all_of (Contains notes) P is notes (recursion_from_All (Contains notes) notes (All-contains_itself notes))

module _ (setup : Setup) (past : List Step) (step : Step) (few : setup.links ≤ 4096) where
  abbrev notes_then : List Note
  notes_then = notes_after setup (facts_of setup past) step

  -- PDUs are noted, and links are shut, where they were open before the call
  pub of_before : AllByRecursion (IsOfBase (is_open (facts_of setup past).links)) notes_then
  of_before = each_in (IsOfBase (is_open (facts_of setup past).links)) notes_then by
    where
      was_shut : (handle reason : ℕ) → IsShut (facts_of setup past) step handle reason → is_open (facts_of setup past).links handle ≡ true
      was_shut handle reason (overdue slot on link begins at due) = ap (λ (place : Option OpenLink). is_some place) at
      was_shut handle reason (leaving link ends at due) =
          sym (same_open (facts_of setup past).links _ (mapped_opens link_reported (facts_of setup past).links) handle) ∙ ap (λ (place : Option OpenLink). is_some place) at
      was_shut handle reason (reset link completed at code) = ap (λ (place : Option OpenLink). is_some place) at

      by : (note : Note) → Contains (notes_after setup (facts_of setup past) step) note → IsOfBase (is_open (facts_of setup past).links) note
      by (Sent handle counted llid body) inside =
          open_before setup past step (Sent handle counted llid body) handle few inside (sent_data handle counted llid body)
      by (Took handle counted llid body) inside =
          open_before setup past step (Took handle counted llid body) handle few inside (took_data handle counted llid body)
      by (Shut handle reason) inside = was_shut handle reason.0 ((shuts_with_reason setup past step handle reason.0).0 inside)
      by (Up packet) inside = tt
      by note inside = tt

  -- and PDUs where they are open after it
  pub of_after : AllByRecursion (λ note. is_shutting note ≡ false → IsOfBase (is_open (facts_after setup (facts_of setup past) step).links) note) notes_then
  of_after = each_in _ notes_then by
    where
      -- none is noted as a turn ends
      goes_on : (note : Note) (handle : ℕ) → is_else note ≡ true → Contains (notes_after setup (facts_of setup past) step) note
          → StaysIn (facts_of setup past) step handle
      goes_on note handle is inside ends =
          absurd (let h : true ≡ false = sym is ∙ none_else setup (facts_of setup past) step note inside ends in absurd cc)

      by : (note : Note) → Contains (notes_after setup (facts_of setup past) step) note → is_shutting note ≡ false
          → IsOfBase (is_open (facts_after setup (facts_of setup past) step).links) note
      by (Sent handle counted llid body) inside none =
          let note = Sent handle counted llid body in
          open_after setup past step note handle few inside (sent_data handle counted llid body) (goes_on note handle refl inside)
      by (Took handle counted llid body) inside none =
          let note = Took handle counted llid body in
          open_after setup past step note handle few inside (took_data handle counted llid body) (goes_on note handle refl inside)
      by (Shut handle reason) inside none = absurd cc
      by (Up packet) inside none = tt
      by note inside none = tt

  pub names_few : AllByRecursion (HasHandleBelow setup.links) notes_then
  names_few = recursion_from_All (HasHandleBelow setup.links) notes_then (step_names_links setup past step)

-- none of the open links of a station has this number
abbrev pub IsNoneOf : Given → ℕ → ℕ → List Event → Type 0
IsNoneOf given station other history =
    (handle : ℕ) (link : OpenLink) → link_at handle (facts_at given station history).links ≡ Some link → (number_at station handle history == other) ≡ false

-- with the notes of the call after it
pub called_then : (station : ℕ) (step : Step) (history : List Event) (notes : List Note)
    → with_noted station (history ++ Called station step ∷ []) notes ≡ with_notes station step notes history
called_then station step history notes = append_assoc history (Called station step ∷ []) (map (Noted station) notes)

so_booked : (given : Given) (station : ℕ) (history : List Event) → IsStationBooked given station history
    → IsBookedSo (setup_at given station).links station history (is_open (facts_at given station history).links)
so_booked given station history booked = record {
  book = λ handle on. let found = is_link (link_at handle (facts_at given station history).links) on in booked.book handle found.link found.is;
  links = booked.links;
}

pub called_numbers : (station : ℕ) (step : Step) (history : List Event) → numbers_at station (history ++ Called station step ∷ []) ≡ numbers_at station history
called_numbers station step history = ap (λ (links : Links). links.link_of station) (links_event history (Called station step))

-- so it is once a call has begun
pub called_booked : (given : Given) (station : ℕ) (step : Step) (history : List Event) → IsStationBooked given station history
    → IsBookedSo (setup_at given station).links station (history ++ Called station step ∷ []) (is_open (facts_at given station history).links)
called_booked given station step history booked =
    booked_along (setup_at given station).links (numbers_at station history) _ (lines_at station history) _ _ _ (is_open (facts_at given station history).links)
    (called_numbers station step history) (call_lines station history station step)
    (λ handle. ap (since_opened handle) (flat_nothing (notes_in station) history (Called station step) refl)) (so_booked given station history booked)

pub own_apart : (given : Given) (station : ℕ) (history : List Event) → HaveOwnNumbers given station history
    → AreApart (numbers_at station history) (is_open (facts_at given station history).links)
own_apart given station history own one other on on_too differs =
    let a = is_link (link_at one (facts_at given station history).links) on in
    let b = is_link (link_at other (facts_at given station history).links) on_too in
    own one other a.link b.link a.is b.is differs

-- ---- a call

-- no line says anything of a link that is opened in a call
abbrev pub UnusedWhereOpened : Given → ℕ → Step → List Event → Type 0
UnusedWhereOpened given station step history =
    (handle : ℕ) → is_opened handle (notes_after (setup_at given station) (facts_at given station history) step) ≡ true
    → IsUnused ((links_of history).last_of station) (lines_at station history)

module _ (given : Given) (station : ℕ) (step : Step) (history : List Event) (few : (setup_at given station).links ≤ 4096) (own : HaveOwnNumbers given station history)
    (own_after : HaveOwnNumbers given station (after_call given station step history)) (unused : UnusedWhereOpened given station step history)
    (booked : IsStationBooked given station history) where
  abbrev many : ℕ
  many = (setup_at given station).links

  abbrev notes : List Note
  notes = notes_after (setup_at given station) (facts_at given station history) step

  abbrev then_on : List Event
  then_on = after_call given station step history

  abbrev called : List Event
  called = history ++ Called station step ∷ []

  abbrev before_open : ℕ → Bool
  before_open = is_open (facts_at given station history).links

  abbrev after_open : ℕ → Bool
  after_open = is_open (facts_after (setup_at given station) (facts_at given station history) step).links

  record KeepsCall : Type 0 where
    kept : IsBookedSo many station then_on after_open
    same : (other : ℕ) → AllByRecursion (IsNotOf other (numbers_at station then_on)) notes → IsSameOn other (lines_at station history) (lines_at station then_on)

  called_so : IsBookedSo many station called before_open
  called_so = called_booked given station step history booked

  lines_called : lines_at station called ≡ lines_at station history
  lines_called = call_lines station history station step

  -- the notes open none
  plain_call : AreNot is_opening notes → ((handle : ℕ) → fold (note_open handle) (before_open handle) notes ≡ after_open handle) → KeepsCall
  plain_call none opens =
      let kept = notes_kept many station called before_open before_open notes
      (subst (λ (number : ℕ → ℕ). AreApart number before_open) (sym (called_numbers station step history)) (own_apart given station history own)) (λ handle on. on) none
      (of_before (setup_at given station) (past_of station history) step few) called_so in
      let numbers : numbers_at station then_on ≡ numbers_at station called = ap (numbers_at station) (sym (called_then station step history notes)) ∙ numbers_quiet station called notes none in
      record {
        kept = booked_where many (numbers_at station then_on) (lines_at station then_on) (λ handle. since_opened handle (noted_by station then_on)) _ after_open (λ handle. sym (opens handle))
            (subst (λ (all : List Event). IsBookedSo many station all (λ handle. fold (note_open handle) (before_open handle) notes)) (called_then station step history notes) kept.booked);
        same = λ other not_of.
            subst (λ (lines : Lines). IsSameOn other lines (lines_at station then_on)) lines_called
            (subst (λ (all : List Event). IsSameOn other (lines_at station called) (lines_at station all)) (called_then station step history notes)
            (kept.same other (subst (λ (number : ℕ → ℕ). AllByRecursion (IsNotOf other number) notes) numbers not_of)));
      }

  -- the first note opens a link
  opening_call : (handle : ℕ) (role : Role) (first_own peer : Address) (rest : List Note) → notes ≡ Opened handle role first_own peer ∷ rest → AreNot is_opening rest
      → AreNot is_shutting rest → before_open handle ≡ false → after_open handle ≡ true
      → ((other : ℕ) → (handle == other) ≡ false → after_open other ≡ before_open other) → KeepsCall
  opening_call handle role first_own peer rest is none shut free now opens =
      let first = Opened handle role first_own peer in
      let next = called ++ Noted station first ∷ [] in
      let setup = setup_at given station in
      let past = past_of station history in
      let last_called : (links_of called).last_of station ≡ (links_of history).last_of station =
      ap (λ (links : Links). links.last_of station) (links_event history (Called station step)) in
      let unused_then : IsUnused ((links_of called).last_of station) (lines_at station called) =
      subst (λ n. IsUnused n (lines_at station called)) (sym last_called)
      (subst (IsUnused ((links_of history).last_of station)) (sym lines_called)
      (unused handle (ap (is_opened handle) is ∙ ap (λ (b : Bool). b || is_opened handle rest) (eq-eqb handle handle refl)))) in
      let below : handle < many = (subst (AllByRecursion (HasHandleBelow many)) is (names_few setup past step few)).0 in
      let after_is : with_noted station next rest ≡ then_on =
      one_on station called first rest ∙ called_then station step history (first ∷ rest) ∙ ap (λ (all : List Note). with_notes station step all history) (sym is) in
      let numbers : numbers_at station then_on ≡ numbers_at station next = ap (numbers_at station) (sym after_is) ∙ numbers_quiet station next rest none in
      let own_then : AreApart (numbers_at station next) after_open =
      subst (λ (number : ℕ → ℕ). AreApart number after_open) numbers
      (subst (λ (held : Facts). AreApart (numbers_at station then_on) (is_open held.links)) (own_facts given station step history) (own_apart given station then_on own_after)) in
      let kept = notes_kept many station next (λ other. note_open other (before_open other) first) after_open rest own_then
      (λ other on. within other (handle == other) refl on) none
      (of_rest rest shut (subst (AllByRecursion (λ note. is_shutting note ≡ false → IsOfBase after_open note)) is (of_after setup past step few)).1)
      (opening_kept many station called before_open handle role first_own peer free below unused_then called_so) in
      record {
        kept = booked_where many (numbers_at station then_on) (lines_at station then_on) (λ other. since_opened other (noted_by station then_on)) _ after_open
            (λ other. sym (open_still other (note_open other (before_open other) first) rest none shut ∙ opened_is other (handle == other) refl))
            (subst (λ (all : List Event). IsBookedSo many station all (λ other. fold (note_open other) (note_open other (before_open other) first) rest)) after_is kept.booked);
        same = λ other not_of.
            subst (λ (lines : Lines). IsSameOn other lines (lines_at station then_on)) lines_called
            (same_then other (lines_at station called) (lines_at station next) (lines_at station then_on)
            (subst (IsSameOn other (lines_at station called)) (sym (note_lines station called first)) (record { sent = refl; taken = refl; received = refl; credited = refl }))
            (subst (λ (all : List Event). IsSameOn other (lines_at station next) (lines_at station all)) after_is
            (kept.same other (subst (λ (number : ℕ → ℕ). AllByRecursion (IsNotOf other number) rest) numbers (subst (AllByRecursion (IsNotOf other (numbers_at station then_on))) is not_of).1))));
      }
    where
      opened_is : (other : ℕ) (same : Bool) → (handle == other) ≡ same
          → cond (handle == other) true (is_open (facts_at given station history).links other)
          ≡ is_open (facts_after (setup_at given station) (facts_at given station history) step).links other
      opened_is other true same =
          ap (λ (b : Bool). cond b true (is_open (facts_at given station history).links other)) same ∙ sym now
          ∙ ap (is_open (facts_after (setup_at given station) (facts_at given station history) step).links) (eqb-true handle other same)
      opened_is other false differs =
          ap (λ (b : Bool). cond b true (is_open (facts_at given station history).links other)) differs ∙ sym (opens other differs)

      within : (other : ℕ) (same : Bool) → (handle == other) ≡ same → cond (handle == other) true (is_open (facts_at given station history).links other) ≡ true
          → is_open (facts_after (setup_at given station) (facts_at given station history) step).links other ≡ true
      within other same is_same on = sym (opened_is other same is_same) ∙ on

      of_rest : (rest : List Note) → AreNot is_shutting rest
          → AllByRecursion (λ note. is_shutting note ≡ false
          → IsOfBase (is_open (facts_after (setup_at given station) (facts_at given station history) step).links) note) rest
          → AllByRecursion (IsOfBase (is_open (facts_after (setup_at given station) (facts_at given station history) step).links)) rest
      of_rest [] shut of = tt
      of_rest (note ∷ rest) shut of = (of.0 shut.0, of_rest rest shut.1 of.1)

  call_kept : KeepsCall
  call_kept = by (past_noted (setup_at given station) (past_of station history) step)
    where
      by : IsNotedAs (is_open (facts_at given station history).links) (is_open (facts_after (setup_at given station) (facts_at given station history) step).links)
          (notes_after (setup_at given station) (facts_at given station history) step) → KeepsCall
      by (stays none shut same) = plain_call none (λ handle. open_still handle (before_open handle) notes none shut ∙ sym (same handle))
      by (shuts none opens once) = plain_call none opens
      by (opens_first handle role first_own peer rest is none shut reports free now opens) = opening_call handle role first_own peer rest is none shut free now opens

  pub call_booked : IsStationBooked given station (after_call given station step history)
  call_booked =
      let so = subst (λ (held : Facts). IsBookedSo many station then_on (is_open held.links)) (sym (own_facts given station step history)) call_kept.kept in record {
        book = λ handle link at. so.book handle (ap (λ (place : Option OpenLink). is_some place) at);
        links = so.links;
      }

  -- of a link that the station does not have open after the call, where no turn ends in it
  pub call_same_on : ((handle : ℕ) → StaysIn (facts_at given station history) step handle) → (other : ℕ)
      → IsNoneOf given station other (after_call given station step history)
      → IsSameOn other (lines_at station history) (lines_at station (after_call given station step history))
  call_same_on stay other none_of =
      call_kept.same other (each_in (IsNotOf other (numbers_at station then_on)) notes (λ note inside handle is.
      let now = is_link (link_at handle (facts_after (setup_at given station) (facts_at given station history) step).links)
      (open_after (setup_at given station) (past_of station history) step note handle few inside is (stay handle)) in
      none_of handle now.link (ap (λ (held : Facts). link_at handle held.links) (own_facts given station step history) ∙ now.is)))

-- ---- what the host of the station sends

pub octet_opens_none : (given : Given) (station octet handle : ℕ) (history : List Event)
    → is_opened handle (notes_after (setup_at given station) (facts_at given station history) (HostOctet octet)) ≡ false
octet_opens_none given station octet handle history = outside_open handle (setup_at given station) (facts_at given station history) (HostOctet octet) refl

pub octet_number : (given : Given) (station octet handle : ℕ) (history : List Event)
    → number_at station handle (after_call given station (HostOctet octet) history) ≡ number_at station handle history
octet_number given station octet handle history =
    link_by_own station (HostOctet octet) (notes_after (setup_at given station) (facts_at given station history) (HostOctet octet)) history handle
    ∙ ap (λ (opened : Bool). cond opened ((links_of history).last_of station) (number_at station handle history)) (octet_opens_none given station octet handle history)

-- a link that is open after an octet was open before it
pub octet_was : (given : Given) (station octet handle : ℕ) (history : List Event) (link : OpenLink)
    → link_at handle (facts_at given station (after_call given station (HostOctet octet) history)).links ≡ Some link
    → IsLink (link_at handle (facts_at given station history).links)
octet_was given station octet handle history link at =
    let was = octet_under (setup_at given station) (facts_at given station history) octet handle link
    (ap (λ (f : Facts). link_at handle f.links) (sym (own_facts given station (HostOctet octet) history)) ∙ at) in record { link = was.link; is = was.was }

pub octet_own : (given : Given) (station octet : ℕ) (history : List Event) → HaveOwnNumbers given station history
    → HaveOwnNumbers given station (after_call given station (HostOctet octet) history)
octet_own given station octet history own one other a b at at_too differs =
    let was = octet_was given station octet one history a at in
    let was_too = octet_was given station octet other history b at_too in
    (λ i. octet_number given station octet one history i == octet_number given station octet other history i) ∙ own one other was.link was_too.link was.is was_too.is differs

pub octet_unused : (given : Given) (station octet : ℕ) (history : List Event) → UnusedWhereOpened given station (HostOctet octet) history
octet_unused given station octet history handle opened =
    absurd (let h : true ≡ false = sym opened ∙ octet_opens_none given station octet handle history in absurd cc)

octet_none_of : (given : Given) (station octet other : ℕ) (history : List Event) → IsNoneOf given station other history
    → IsNoneOf given station other (after_call given station (HostOctet octet) history)
octet_none_of given station octet other history none handle link at =
    let was = octet_was given station octet handle history link at in
    ap (λ n. n == other) (octet_number given station octet handle history) ∙ none handle was.link was.is

-- what a feed keeps
pub record KeepsFeed (given : Given) (station : ℕ) (history after : List Event) : Type 0 where
  pub booked : IsStationBooked given station after
  pub same : (other : ℕ) → IsNoneOf given station other history → IsSameOn other (lines_at station history) (lines_at station after)

octets_kept : (given : Given) (station : ℕ) (octets : List ℕ) (history : List Event) → (setup_at given station).links ≤ 4096 → HaveOwnNumbers given station history
    → IsStationBooked given station history → KeepsFeed given station history (after_octets given station octets history)
octets_kept given station [] history few own booked = record { booked = booked; same = λ other none. same_itself other (lines_at station history) }
octets_kept given station (octet ∷ octets) history few own booked =
    let next = after_call given station (HostOctet octet) history in
    let own_next = octet_own given station octet history own in
    let unused = octet_unused given station octet history in
    let rest = octets_kept given station octets next few own_next (call_booked given station (HostOctet octet) history few own own_next unused booked) in
    record {
      booked = rest.booked;
      same = λ other none.
          let none_next = octet_none_of given station octet other history none in
          same_then other (lines_at station history) (lines_at station next) _
          (call_same_on given station (HostOctet octet) history few own own_next unused booked (λ handle ends. absurd cc) other none_next)
          (rest.same other none_next);
    }

-- ---- other events

-- what the lines of a side say of its links is the same
pub record SaysSame (before after : Lines) : Type 0 where
  pub links : after.links ≡ before.links
  pub sent : after.sent ≡ before.sent
  pub taken : after.taken ≡ before.taken
  pub received : after.received ≡ before.received
  pub credited : after.credited ≡ before.credited

pub same_lines : (before after : Lines) → after ≡ before → SaysSame before after
same_lines before after is = record {
  links = ap (λ (lines : Lines). lines.links) is;
  sent = ap (λ (lines : Lines). lines.sent) is;
  taken = ap (λ (lines : Lines). lines.taken) is;
  received = ap (λ (lines : Lines). lines.received) is;
  credited = ap (λ (lines : Lines). lines.credited) is;
}

pub says_same : (link : ℕ) (before after : Lines) → SaysSame before after → IsSameOn link before after
says_same link before after same = record {
  sent = ap (pdus_on link) same.sent;
  taken = ap (pdus_on link) same.taken;
  received = ap (received_at link) same.received;
  credited = ap (counts_on link) same.credited;
}

says_book : (handle link : ℕ) (before after : Lines) (since : List Note) → IsSameOn link before after → IsBook handle link before since
    → IsBook handle link after since
says_book handle link before after since same book = record {
  sent = same.sent ∙ book.sent;
  taken = same.taken ∙ book.taken;
  received = same.received ∙ book.received;
  credited = same.credited ∙ book.credited;
}

pub numbers_event : (station : ℕ) (history : List Event) (event : Event) → is_outside event ≡ true
    → numbers_at station (history ++ event ∷ []) ≡ numbers_at station history
numbers_event station history event outside = ap (λ (links : Links). links.link_of station) (links_event history event) ∙ by event outside
  where
    begun : (begins : Bool) (sender : ℕ) (hearings : List Hearing)
        → (cond begins (with_link sender hearings (links_of history)) (links_of history)).link_of station ≡ numbers_at station history
    begun true sender hearings = refl
    begun false sender hearings = refl

    by : (event : Event) → is_outside event ≡ true → (links_after (links_of history) event).link_of station ≡ numbers_at station history
    by (TurnBegan slot radios) outside = refl
    by (HostFed other octets) outside = refl
    by (Transmitted sender channel octets hearings) outside = begun (begins_link channel octets) sender hearings
    by (Called other step) outside = absurd cc
    by (Noted other note) outside = absurd cc

-- octets of a host, of the station or of another one
fed_says : (station other : ℕ) (history : List Event) (octets : List ℕ)
    → SaysSame (lines_at station history) (lines_at station (history ++ HostFed other octets ∷ []))
fed_says station other history octets =
    subst (SaysSame (lines_at station history)) (sym (event_lines station history (HostFed other octets))) (by (is_side (side_of other) (side_of station)))
  where
    by : (own : Bool)
        → SaysSame (lines_at station history) (cond own (line_after 8 (lines_at station history) (FedEntry (side_of other) octets)) (lines_at station history))
    by true = record { links = refl; sent = refl; taken = refl; received = refl; credited = refl }
    by false = record { links = refl; sent = refl; taken = refl; received = refl; credited = refl }

pub event_says : (station : ℕ) (history : List Event) (event : Event) → is_outside event ≡ true
    → SaysSame (lines_at station history) (lines_at station (history ++ event ∷ []))
event_says station history (TurnBegan slot radios) outside = same_lines _ _ (turn_lines station history slot radios)
event_says station history (HostFed other octets) outside = fed_says station other history octets
event_says station history (Transmitted sender channel octets hearings) outside =
    same_lines _ _ (air_lines station history sender channel octets hearings)
event_says station history (Called other step) outside = absurd cc
event_says station history (Noted other note) outside = absurd cc

pub event_facts : (given : Given) (station : ℕ) (history : List Event) (event : Event) → is_outside event ≡ true
    → facts_at given station (history ++ event ∷ []) ≡ facts_at given station history
event_facts given station history event outside =
    ap (facts_of (setup_at given station)) (flat_nothing (steps_in station) history event (no_steps station event outside))

-- where its notes, its past and its links stay, and so does what its lines say of its links
pub same_booked : (given : Given) (station : ℕ) (history after : List Event) → numbers_at station after ≡ numbers_at station history
    → facts_at given station after ≡ facts_at given station history → noted_by station after ≡ noted_by station history
    → SaysSame (lines_at station history) (lines_at station after) → IsStationBooked given station history → IsStationBooked given station after
same_booked given station history after numbers facts notes says booked =
    let many = (setup_at given station).links in record {
      book = λ handle link at.
          let number = number_at station handle history in
          subst (λ (of : ℕ → ℕ). IsBook handle (of handle) (lines_at station after) (since_opened handle (noted_by station after))) (sym numbers)
          (subst (λ (noted : List Note). IsBook handle number (lines_at station after) (since_opened handle noted)) (sym notes)
          (says_book handle number (lines_at station history) (lines_at station after) (since_opened handle (noted_by station history))
          (says_same number (lines_at station history) (lines_at station after) says)
          (booked.book handle link (ap (λ (f : Facts). link_at handle f.links) (sym facts) ∙ at))));
      links =
          subst (λ (links : List OpenUnder). HoldsLinks many links (numbers_at station after) (is_open (facts_at given station after).links)) (sym says.links)
          (subst (λ (of : ℕ → ℕ). HoldsLinks many (lines_at station history).links of (is_open (facts_at given station after).links)) (sym numbers)
          (subst (λ (f : Facts). HoldsLinks many (lines_at station history).links (numbers_at station history) (is_open f.links)) (sym facts) booked.links));
    }

pub event_booked : (given : Given) (station : ℕ) (history : List Event) (event : Event) → is_outside event ≡ true → IsStationBooked given station history
    → IsStationBooked given station (history ++ event ∷ [])
event_booked given station history event outside booked =
    same_booked given station history (history ++ event ∷ []) (numbers_event station history event outside) (event_facts given station history event outside)
    (flat_nothing (notes_in station) history event (no_notes station event outside)) (event_says station history event outside) booked

pub event_own : (given : Given) (station : ℕ) (history : List Event) (event : Event) → is_outside event ≡ true → HaveOwnNumbers given station history
    → HaveOwnNumbers given station (history ++ event ∷ [])
event_own given station history event outside own =
    subst (λ (number : ℕ → ℕ). (one other : ℕ) (a b : OpenLink) → link_at one (facts_at given station (history ++ event ∷ [])).links ≡ Some a
    → link_at other (facts_at given station (history ++ event ∷ [])).links ≡ Some b → (one == other) ≡ false → (number one == number other) ≡ false)
    (sym (numbers_event station history event outside))
    (subst (λ (f : Facts). (one other : ℕ) (a b : OpenLink) → link_at one f.links ≡ Some a → link_at other f.links ≡ Some b → (one == other) ≡ false
    → (number_at station one history == number_at station other history) ≡ false) (sym (event_facts given station history event outside)) own)

event_none_of : (given : Given) (station other : ℕ) (history : List Event) (event : Event) → is_outside event ≡ true → IsNoneOf given station other history
    → IsNoneOf given station other (history ++ event ∷ [])
event_none_of given station other history event outside none handle link at =
    ap (λ (number : ℕ → ℕ). number handle == other) (numbers_event station history event outside)
    ∙ none handle link (ap (λ (f : Facts). link_at handle f.links) (sym (event_facts given station history event outside)) ∙ at)

pub feed_kept : (given : Given) (station : ℕ) (octets : List ℕ) (history : List Event) → (setup_at given station).links ≤ 4096 → HaveOwnNumbers given station history
    → IsStationBooked given station history → KeepsFeed given station history (after_feed given station octets history)
feed_kept given station [] history few own booked = record { booked = booked; same = λ other none. same_itself other (lines_at station history) }
feed_kept given station (octet ∷ octets) history few own booked =
    let event = HostFed station (octet ∷ octets) in
    let fed = history ++ event ∷ [] in
    let rest = octets_kept given station (octet ∷ octets) fed few (event_own given station history event refl own) (event_booked given station history event refl booked) in
    record {
      booked = rest.booked;
      same = λ other none. same_then other (lines_at station history) (lines_at station fed) _
          (says_same other (lines_at station history) (lines_at station fed) (event_says station history event refl))
          (rest.same other (event_none_of given station other history event refl none));
    }

-- ---- the other station

pub not_one : (station other : ℕ) → is_side (side_of other) (side_of station) ≡ false → (station == other) ≡ false
not_one station other differs = by (station == other) refl
  where
    by : (same : Bool) → (station == other) ≡ same → same ≡ false
    by false is = refl
    by true is =
        absurd (let h : true ≡ false =
        sym (side_same station) ∙ ap (λ n. is_side (side_of n) (side_of station)) (eqb-true station other is) ∙ differs in absurd cc)

-- ---- at first

pub none_at_first : (first handle n : ℕ) → link_from first handle (replicate n None) ≡ None
none_at_first first handle zero = refl
none_at_first first handle (suc n) = by (first == handle) (none_at_first (first + 1) handle n)
  where
    by : (own : Bool) → link_from (first + 1) handle (replicate n None) ≡ None → cond own None (link_from (first + 1) handle (replicate n None)) ≡ None
    by true rest = refl
    by false rest = rest

pub first_booked : (given : Given) (station : ℕ) → IsStationBooked given station []
unfolding lines_of journal_of links_of facts_of
first_booked given station =
    let none = λ (handle : ℕ). ap (λ (place : Option OpenLink). is_some place) (none_at_first 0 handle (setup_at given station).links) in record {
      book = λ handle link at. absurd (let h : true ≡ false = sym (ap (λ (place : Option OpenLink). is_some place) at) ∙ none handle in absurd cc);
      links = holds_none (setup_at given station).links (λ handle. 0) _ none;
    }

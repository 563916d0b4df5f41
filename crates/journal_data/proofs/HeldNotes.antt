-- Before each note of a call, the links that the lines of its station have open are those that are open by the notes so
-- far: a line that names a link is of an open link, and a link is opened under a handle that none has.
use Rattle.std.proofs.Common.{◌≡◌, ℕ, ◌<◌, ◌≤◌, ◌==◌, ◌⊎◌, inl, inr, Bool, true, false, Some, None, List, [], ◌∷◌, ◌++◌, map, cond, refl, ap, sym, subst, ◌∙◌, append-nil, append_assoc, arith, Option}
use Rattle.std.specs.Prelude.{◌||◌, fold, is_some, ⊤}
use Rattle.std.specs.List.{AllByRecursion, sum_by, Contains}
use Rattle.std.proofs.lemmas.List.Sums.{sum_by-cons}
use Rattle.std.proofs.lemmas.Bool.{eq-eqb, eqb-true}
use Rattle.ble_base.specs.declared.addresses.Address.{Address}
use Rattle.ble_base.specs.declared.notes.Note.{Note}
use Rattle.ble_base.specs.declared.notes.Note.TheVariants.{Up, Opened, Shut, Sent, Took, Enter}
use Rattle.ble_base.specs.declared.roles.Role.{Role}
use Rattle.host_view.specs.Noted.{acl_handle, is_acl_data, two_octets}
use Rattle.journal_acks.specs.open_links.OpenLinks.{IsLeastFree}
use Rattle.journal_acks.specs.controller_model.Data.{facts_handed, notes_handed}
use Rattle.journal_acks.specs.controller_model.Links.{notes_leaving}
use Rattle.journal_acks.specs.controller_model.Since.{is_data_note}
use Rattle.journal_acks.specs.controller_model.Facts.{Facts}
use Rattle.journal_acks.specs.controller_model.Notes.{HasHandleBelow, is_opening, is_event}
use Rattle.journal_acks.specs.controller_model.Side.{facts_after, notes_after}
use Rattle.journal_acks.specs.controller_model.Step.{Step, TurnEnds}
use Rattle.journal_acks.proofs.controller_model.OpenNotes.{open_after, open_before}
use Rattle.journal_acks.specs.run_model.Due.{Each}
use Rattle.journal_acks.specs.run_model.History.{Event, TurnBegan, HostFed, Called, Noted, Transmitted, past_of}
use Rattle.journal_acks.specs.run_model.Journal.{side_of}
use Rattle.journal_acks.specs.run_model.Links.{Links, links_of}
use Rattle.journal_acks.specs.run_model.Run.{Given, after_call, facts_at, setup_at}
use Rattle.journal_acks.proofs.run_model.CallNotes.{map_push}
use Rattle.journal_acks.proofs.run_model.LinksKnown.{links_event}
use Rattle.journal_acks.proofs.run_laws.Hearings.{own_facts}
use Rattle.journal_acks.proofs.Counting.{HaveOwnNumbers}
use Rattle.journal_acks.proofs.Exchanging.{number_at}
use Rattle.journal_data.specs.Held.{IsNextOpened, is_open_link, IsOfOneLink, IsDataOfLink}
use Rattle.journal_data.specs.HostLines.{OpenUnder, link_under}
use Rattle.journal_data.specs.Lines.{Lines}
use Rattle.journal_data.proofs.Reported.{NamesOneHandle, step_one, HasItsLength, step_lengths}
use Rattle.journal_data.proofs.EachLine.{call_lines, lines_at, note_lines, numbers_at}
use Rattle.journal_data.proofs.Fronts.{front_all}
use Rattle.journal_data.proofs.HeldLinks.{HoldsLinks, nothing_in, opened_holds, under_is}
use Rattle.journal_data.proofs.LeastHandles.{OpenLeast}
use Rattle.journal_data.proofs.NotedLines.{AreApart, IsOfBase, note_links, number_opened, numbers_noted, numbers_quiet, one_on, still_open, swapped, with_noted, completed_data, received_data, sent_data, took_data}
use Rattle.journal_data.proofs.Openness.{AreNot, IsNotedAs, stays, shuts, opens_first, is_open, is_shutting, note_open, open_still, past_noted, handed_not}
use Rattle.journal_data.proofs.OpenLines.{IsOfStaying, middle, of_staying, open_mid, opened_mid, parts, shut_mid}
use Rattle.journal_data.proofs.StationLines.{called_then, each_in, names_few, of_after, of_before, own_apart}
use Rattle.journal_data.proofs.TurnsEnded.{ends_or_not, leaving_no_data}

-- ---- notes that open no link

module _ (many station : ℕ) where
  -- the open links of the lines are those under these handles
  abbrev pub AreHeld : List Event → (ℕ → Bool) → Type 0
  AreHeld history opened = HoldsLinks many (lines_at station history).links (numbers_at station history) opened

  note_held : (history : List Event) (opened base : ℕ → Bool) (note : Note) → AreApart (numbers_at station history) base
      → ((other : ℕ) → opened other ≡ true → base other ≡ true) → is_opening note ≡ false → IsOfBase base note → AreHeld history opened
      → AreHeld (history ++ Noted station note ∷ []) (λ handle. note_open handle (opened handle) note)
  note_held history opened base note apart within none of held =
      let next = history ++ Noted station note ∷ [] in
      subst (λ (number : ℕ → ℕ). HoldsLinks many (lines_at station next).links number (λ handle. note_open handle (opened handle) note))
      (sym (numbers_noted station history note none))
      (subst (λ (lines : Lines). HoldsLinks many lines.links (numbers_at station history) (λ handle. note_open handle (opened handle) note))
      (sym (note_lines station history note))
      (note_links many (numbers_at station history) (lines_at station history) opened held base (side_of station) ((links_of history).last_of station) note
      apart within none of))

  notes_held : (history : List Event) (opened base : ℕ → Bool) (notes : List Note) → AreApart (numbers_at station history) base
      → ((other : ℕ) → opened other ≡ true → base other ≡ true) → AreNot is_opening notes → AllByRecursion (IsOfBase base) notes → AreHeld history opened
      → AreHeld (with_noted station history notes) (λ handle. fold (note_open handle) (opened handle) notes)
  notes_held history opened base [] apart within none of held = subst (λ (all : List Event). AreHeld all opened) (sym (append-nil history)) held
  notes_held history opened base (note ∷ notes) apart within none of held =
      let next = history ++ Noted station note ∷ [] in
      subst (λ (all : List Event). AreHeld all (λ handle. fold (note_open handle) (opened handle) (note ∷ notes))) (one_on station history note notes)
      (notes_held next (λ handle. note_open handle (opened handle) note) base notes
      (subst (λ (number : ℕ → ℕ). AreApart number base) (sym (numbers_noted station history note none.0)) apart)
      (λ other on. within other (still_open other (opened other) note none.0 on)) none.1 of.1 (note_held history opened base note apart within none.0 of.0 held))

-- ---- what a note says of open links

-- a link is open under this handle by the lines
abbrev pub IsUnder : ℕ → List Event → ℕ → Type 0
IsUnder station history handle = link_under handle (lines_at station history).links ≡ Some (number_at station handle history)

abbrev pub IsHeldNote : ℕ → List Event → Note → Type 0
IsHeldNote station history (Sent handle counted llid body) = IsUnder station history handle
IsHeldNote station history (Took handle counted llid body) = IsUnder station history handle
IsHeldNote station history (Enter handle event channel) = IsUnder station history handle
IsHeldNote station history (Shut handle reason) = IsUnder station history handle
IsHeldNote station history (Opened handle role own peer) =
    IsNextOpened ((links_of history).last_of station) handle (lines_at station history).links
IsHeldNote station history (Up packet) =
    (is_acl_data packet.items ≡ true → IsDataOfLink packet.items (lines_at station history).links)
    × (is_event 0x13 packet.items ≡ true → IsOfOneLink packet.items (lines_at station history).links)
IsHeldNote station history note = ⊤

abbrev pub IsHeld : List Event → Event → Type 0
IsHeld history (Noted station note) = IsHeldNote station history note
IsHeld history (Called station step) = ⊤
IsHeld history (TurnBegan slot radios) = ⊤
IsHeld history (HostFed station octets) = ⊤
IsHeld history (Transmitted station channel octets hearings) = ⊤

-- no link has a number that no handle has
none_any : (link : ℕ) (links : List OpenUnder) → sum_by (λ (one : OpenUnder). cond (one.link == link) 1 0) links ≡ 0 → is_open_link link links ≡ false
none_any link [] none = refl
none_any link (one ∷ links) none = by (one.link == link) refl (none_any link links)
  where
    by : (same : Bool) → (one.link == link) ≡ same
        → (sum_by (λ (x : OpenUnder). cond (x.link == link) 1 0) links ≡ 0 → is_open_link link links ≡ false) → (same || is_open_link link links) ≡ false
    by true same rest =
        let parts = sum_by-cons (λ (x : OpenUnder). cond (x.link == link) 1 0) one links in
        let here : ◌≡◌ {A = ℕ} (cond (one.link == link) 1 0) 1 = ap (λ (b : Bool). cond b 1 0) same in
        absurd (omega (arith, parts, here, none))
    by false same rest =
        let parts = sum_by-cons (λ (x : OpenUnder). cond (x.link == link) 1 0) one links in
        rest (omega (arith, parts, none))

-- ---- as a turn ends

-- what is so of no note that the host receives then is so of none before a note of the data of a link
before_data : (handle : ℕ) (kind : Note → Bool) (handed leaving earlier later : List Note) (note : Note) → handed ++ leaving ≡ earlier ++ note ∷ later
    → is_data_note handle note ≡ true → AreNot (is_data_note handle) leaving → AreNot kind handed → AreNot kind earlier
before_data handle kind [] leaving earlier later note is of_it none not =
    absurd (let h : true ≡ false =
    sym of_it ∙ middle (λ one. is_data_note handle one ≡ false) earlier note later (subst (AreNot (is_data_note handle)) is none) in absurd cc)
before_data handle kind (first ∷ handed) leaving [] later note is of_it none not = tt
before_data handle kind (first ∷ handed) leaving (one ∷ earlier) later note is of_it none not =
    let same = parts first one (handed ++ leaving) (earlier ++ note ∷ later) is in (
      subst (λ n. kind n ≡ false) same.heads not.0,
      before_data handle kind handed leaving earlier later note same.tails of_it none not.1,
    )

-- ---- a call

module _ (given : Given) (station : ℕ) (step : Step) (history : List Event) (few : (setup_at given station).links ≤ 4096) (own : HaveOwnNumbers given station history)
    (own_after : HaveOwnNumbers given station (after_call given station step history))
    (held : AreHeld (setup_at given station).links station history (is_open (facts_at given station history).links))
    (least : OpenLeast (facts_at given station history).links (notes_after (setup_at given station) (facts_at given station history) step)) where
  abbrev many : ℕ
  many = (setup_at given station).links

  abbrev notes : List Note
  notes = notes_after (setup_at given station) (facts_at given station history) step

  abbrev called : List Event
  called = history ++ Called station step ∷ []

  abbrev before_open : ℕ → Bool
  before_open = is_open (facts_at given station history).links

  abbrev after_open : ℕ → Bool
  after_open = is_open (facts_after (setup_at given station) (facts_at given station history) step).links

  abbrev AreHeldAfter : List Note → Type 0
  AreHeldAfter earlier = AreHeld many station (with_noted station called earlier) (λ handle. fold (note_open handle) (before_open handle) earlier)

  noted_as : IsNotedAs before_open after_open notes
  noted_as = past_noted (setup_at given station) (past_of station history) step

  numbers_called : numbers_at station called ≡ numbers_at station history
  numbers_called = ap (λ (links : Links). links.link_of station) (links_event history (Called station step))

  called_held : AreHeld many station called before_open
  called_held =
      subst (λ (number : ℕ → ℕ). HoldsLinks many (lines_at station called).links number before_open) (sym numbers_called)
      (subst (λ (lines : Lines). HoldsLinks many lines.links (numbers_at station history) before_open) (sym (call_lines station history station step)) held)

  plain_held : AreNot is_opening notes → (earlier later : List Note) → notes ≡ earlier ++ later → AreHeldAfter earlier
  plain_held none earlier later are =
      notes_held many station called before_open before_open earlier
      (subst (λ (number : ℕ → ℕ). AreApart number before_open) (sym numbers_called) (own_apart given station history own)) (λ handle on. on)
      (front_all (λ note. is_opening note ≡ false) earlier later (subst (AreNot is_opening) are none))
      (front_all (IsOfBase before_open) earlier later
      (subst (AllByRecursion (IsOfBase before_open)) are (of_before (setup_at given station) (past_of station history) step few))) called_held

  module _ (handle : ℕ) (role : Role) (first_own peer : Address) (rest : List Note) (is : notes ≡ Opened handle role first_own peer ∷ rest) (none : AreNot is_opening rest)
      (shut : AreNot is_shutting rest) (free : before_open handle ≡ false) (now : after_open handle ≡ true)
      (opens : (other : ℕ) → (handle == other) ≡ false → after_open other ≡ before_open other) where
    abbrev first : Note
    first = Opened handle role first_own peer

    abbrev next : List Event
    next = called ++ Noted station first ∷ []

    first_held : AreHeld many station next (λ other. note_open other (before_open other) first)
    first_held =
        let last = (links_of called).last_of station in
        let below : handle < many = (subst (AllByRecursion (HasHandleBelow many)) is (names_few (setup_at given station) (past_of station history) step few)).0 in
        subst (λ (lines : Lines). HoldsLinks many lines.links (numbers_at station next) (λ other. note_open other (before_open other) first))
        (sym (note_lines station called first))
        (opened_holds many (lines_at station called).links (numbers_at station called) (numbers_at station next) before_open
        (λ other. note_open other (before_open other) first) handle last below free (ap (λ (b : Bool). cond b true (before_open handle)) (eq-eqb handle handle refl))
        (number_opened station handle called role first_own peer handle ∙ ap (λ (b : Bool). cond b last (number_at station handle called)) (eq-eqb handle handle refl))
        (λ other differs. number_opened station handle called role first_own peer other ∙ ap (λ (b : Bool). cond b last (number_at station other called)) differs)
        (λ other differs. ap (λ (b : Bool). cond b true (before_open other)) differs) called_held)

    own_then : AreApart (numbers_at station next) after_open
    own_then =
        let then_on = after_call given station step history in
        let after_is : with_noted station next rest ≡ then_on =
        one_on station called first rest ∙ ap (with_noted station called) (sym is) ∙ called_then station step history notes in
        let numbers : numbers_at station then_on ≡ numbers_at station next = ap (numbers_at station) (sym after_is) ∙ numbers_quiet station next rest none in
        subst (λ (number : ℕ → ℕ). AreApart number after_open) numbers
        (subst (λ (held : Facts). AreApart (numbers_at station then_on) (is_open held.links)) (own_facts given station step history) (own_apart given station then_on own_after))

    within : (other : ℕ) → note_open other (before_open other) first ≡ true → after_open other ≡ true
    within other = by (handle == other) refl
      where
        by : (same : Bool) → (handle == other) ≡ same → cond same true (before_open other) ≡ true → after_open other ≡ true
        by true same on = subst (λ n. after_open n ≡ true) (eqb-true handle other same) now
        by false differs on = opens other differs ∙ on

    of_rest : (all : List Note) → AreNot is_shutting all → AllByRecursion (λ note. is_shutting note ≡ false → IsOfBase after_open note) all
        → AllByRecursion (IsOfBase after_open) all
    of_rest [] none of = tt
    of_rest (note ∷ all) none of = (of.0 none.0, of_rest all none.1 of.1)

    -- the number of the link is new
    abbrev last : ℕ
    last = (links_of called).last_of station

    others_differ : (other : ℕ) → before_open other ≡ true → (number_at station other called == last) ≡ false
    others_differ other on = by (handle == other) refl
      where
        by : (same : Bool) → (handle == other) ≡ same → (number_at station other called == (links_of called).last_of station) ≡ false
        by true same = absurd (let h : true ≡ false = sym on ∙ ap before_open (sym (eqb-true handle other same)) ∙ free in absurd cc)
        by false differs =
            let its = number_opened station handle called role first_own peer handle
            ∙ ap (λ (b : Bool). cond b ((links_of called).last_of station) (number_at station handle called)) (eq-eqb handle handle refl) in
            let other_is = number_opened station handle called role first_own peer other
            ∙ ap (λ (b : Bool). cond b ((links_of called).last_of station) (number_at station other called)) differs in
            swapped (number_at station other called) ((links_of called).last_of station)
            ∙ (λ i. sym its i == sym other_is i) ∙ own_then handle other now (opens other differs ∙ on) differs

    next_opened : IsLeastFree 0 handle (facts_at given station history).links → IsHeldNote station called first
    next_opened below = record {
      new = none_any ((links_of called).last_of station) (lines_at station called).links
          (nothing_in many (lines_at station called).links (numbers_at station called) before_open called_held
          (λ (one : OpenUnder). cond (one.link == (links_of called).last_of station) 1 0)
          (λ other on. ap (λ (b : Bool). cond b 1 0) (others_differ other on)));
      free = under handle ∙ ap (λ (b : Bool). cond b (Some (number_at station handle called)) None) free;
      least = λ other less.
          ap (λ (place : Option ℕ). is_some place)
          (under other ∙ ap (λ (b : Bool). cond b (Some (number_at station other called)) None) (below.least other (omega arith) less));
    }
      where
        under : (other : ℕ) → link_under other (lines_at station called).links ≡ cond (before_open other) (Some (number_at station other called)) None
        under other = under_is many (lines_at station called).links (numbers_at station called) before_open called_held other

    opening_held : (earlier later : List Note) → first ∷ rest ≡ earlier ++ later → AreHeldAfter earlier
    opening_held [] later are = subst (λ (all : List Event). AreHeld many station all before_open) (sym (append-nil called)) called_held
    opening_held (note ∷ earlier) later are =
        let same = parts first note rest (earlier ++ later) are in
        let of = of_rest rest shut
        (subst (AllByRecursion (λ note. is_shutting note ≡ false → IsOfBase after_open note)) is (of_after (setup_at given station) (past_of station history) step few)).1 in
        subst (λ (one : Note). AreHeldAfter (one ∷ earlier)) same.heads
        (subst (λ (all : List Event). AreHeld many station all (λ other. fold (note_open other) (note_open other (before_open other) first) earlier))
        (one_on station called first earlier)
        (notes_held many station next (λ other. note_open other (before_open other) first) after_open earlier own_then within
        (front_all (λ note. is_opening note ≡ false) earlier later (subst (AreNot is_opening) same.tails none))
        (front_all (IsOfBase after_open) earlier later (subst (AllByRecursion (IsOfBase after_open)) same.tails of)) first_held))

  held_at : (earlier later : List Note) → notes ≡ earlier ++ later → AreHeldAfter earlier
  held_at earlier later are = by noted_as
    where
      by : IsNotedAs (is_open (facts_at given station history).links) (is_open (facts_after (setup_at given station) (facts_at given station history) step).links)
          (notes_after (setup_at given station) (facts_at given station history) step) → AreHeldAfter earlier
      by (stays none shut same) = plain_held none earlier later are
      by (shuts none opens once) = plain_held none earlier later are
      by (opens_first handle role first_own peer rest is none shut reports free now opens) =
          opening_held handle role first_own peer rest is none shut free now opens earlier later (sym is ∙ are)

  -- ---- each note

  is_under : (earlier later : List Note) → notes ≡ earlier ++ later → (handle : ℕ) → fold (note_open handle) (before_open handle) earlier ≡ true
      → IsUnder station (with_noted station called earlier) handle
  is_under earlier later are handle on =
      let mid = with_noted station called earlier in
      under_is many (lines_at station mid).links (numbers_at station mid) (λ other. fold (note_open other) (before_open other) earlier) (held_at earlier later are) handle
      ∙ ap (λ (b : Bool). cond b (Some (number_at station handle mid)) None) on

  stays_under : (earlier later : List Note) → notes ≡ earlier ++ later → (handle : ℕ) → before_open handle ≡ true → after_open handle ≡ true
      → IsUnder station (with_noted station called earlier) handle
  stays_under earlier later are handle on then =
      is_under earlier later are handle (open_mid before_open after_open notes noted_as earlier later handle are on then)

  base_of : (earlier later : List Note) (note : Note) → notes ≡ earlier ++ note ∷ later → IsOfBase before_open note
  base_of earlier later note are =
      middle (IsOfBase before_open) earlier note later
      (subst (AllByRecursion (IsOfBase before_open)) are (of_before (setup_at given station) (past_of station history) step few))

  -- a link is open before each note of its data: also before one that comes as a turn ends, at the end of which it is shut
  open_then : (earlier later : List Note) (note : Note) (handle : ℕ) → notes ≡ earlier ++ note ∷ later → is_data_note handle note ≡ true
      → fold (note_open handle) (before_open handle) earlier ≡ true
  open_then earlier later note handle are of_it = by (ends_or_not step)
    where
      inside : Contains notes note
      inside = middle (Contains notes) earlier note later (subst (λ (all : List Note). AllByRecursion (Contains notes) all) are (each_in (Contains notes) notes (λ one is. is)))

      on : before_open handle ≡ true
      on = open_before (setup_at given station) (past_of station history) step note handle few inside of_it

      by : (step ≡ TurnEnds) ⊎ (step ≡ TurnEnds → ⊥) → fold (note_open handle) (before_open handle) earlier ≡ true
      by (inl ends) =
          let facts = facts_at given station history in
          let whole : notes_handed facts ++ notes_leaving (facts_handed facts) ≡ earlier ++ note ∷ later =
          ap (λ s. notes_after (setup_at given station) facts s) (sym ends) ∙ are in
          let no_data = leaving_no_data handle facts in
          open_still handle (before_open handle) earlier
          (before_data handle is_opening (notes_handed facts) (notes_leaving (facts_handed facts)) earlier later note whole of_it no_data (handed_not is_opening (λ octets. refl) facts))
          (before_data handle is_shutting (notes_handed facts) (notes_leaving (facts_handed facts)) earlier later note whole of_it no_data (handed_not is_shutting (λ octets. refl) facts))
          ∙ on
      by (inr goes) =
          open_mid before_open after_open notes noted_as earlier (note ∷ later) handle are on
          (open_after (setup_at given station) (past_of station history) step note handle few inside of_it (λ ends. absurd (goes ends)))

  note_is : (earlier later : List Note) (note : Note) → notes ≡ earlier ++ note ∷ later → IsHeldNote station (with_noted station called earlier) note
  note_is earlier later (Sent handle counted llid body) are =
      let note = Sent handle counted llid body in
      is_under earlier (note ∷ later) are handle (open_then earlier later note handle are (sent_data handle counted llid body))
  note_is earlier later (Took handle counted llid body) are =
      let note = Took handle counted llid body in
      is_under earlier (note ∷ later) are handle (open_then earlier later note handle are (took_data handle counted llid body))
  note_is earlier later (Enter handle event channel) are =
      let note = Enter handle event channel in
      let staying = middle (IsOfStaying before_open after_open) earlier note later
      (subst (AllByRecursion (IsOfStaying before_open after_open)) are (of_staying (setup_at given station) (past_of station history) step)) in
      stays_under earlier (note ∷ later) are handle staying.0 staying.1
  note_is earlier later (Shut handle reason) are =
      let note = Shut handle reason in
      is_under earlier (note ∷ later) are handle
      (shut_mid before_open after_open notes noted_as earlier later handle reason.0 are (base_of earlier later note are))
  note_is earlier later (Opened handle role first_own peer) are =
      let note = Opened handle role first_own peer in
      let opened = opened_mid before_open after_open notes noted_as earlier later handle role first_own peer are in
      let whole : notes ≡ note ∷ later = are ∙ ap (λ (all : List Note). all ++ note ∷ later) opened.is_first in
      subst (λ (all : List Note). IsHeldNote station (with_noted station called all) note) (sym opened.is_first)
      (subst (λ (all : List Event). IsHeldNote station all note) (sym (append-nil called))
      (next_opened handle role first_own peer later whole opened.none opened.shut opened.free opened.now opened.others (least handle role first_own peer later whole)))
  note_is earlier later (Up packet) are =
      let note = Up packet in
      let setup = setup_at given station in
      let past = past_of station history in
      let one = middle NamesOneHandle earlier note later (subst (AllByRecursion NamesOneHandle) are (step_one setup past step)) in
      let its_length = middle HasItsLength earlier note later (subst (AllByRecursion HasItsLength) are (step_lengths setup past step)) in
      let under = λ (handle : ℕ) (of : is_data_note handle note ≡ true).
      ap (λ (place : Option ℕ). is_some place)
      (is_under earlier (note ∷ later) are handle (open_then earlier later note handle are of)) in (
        (λ acl. record { is_open = under (acl_handle packet.items) (received_data packet acl); whole = its_length acl }),
        (λ event. record { one_handle = one event; is_open = under (two_octets 4 packet.items) (completed_data packet event) }),
      )
  note_is earlier later note are = tt

  each_left : (earlier left : List Note) → notes ≡ earlier ++ left → Each IsHeld (with_noted station called earlier) (map (Noted station) left)
  each_left earlier [] are = tt
  each_left earlier (note ∷ left) are = (
    note_is earlier left note are,
    subst (λ (all : List Event). Each IsHeld all (map (Noted station) left))
        (ap (λ (all : List Event). called ++ all) (map_push station earlier note) ∙ sym (append_assoc called (map (Noted station) earlier) (Noted station note ∷ [])))
        (each_left (earlier ++ note ∷ []) left (are ∙ sym (append_assoc earlier (note ∷ []) left))),
  )

  -- each note of the call
  pub call_held : Each IsHeld history (Called station step ∷ map (Noted station) notes)
  call_held = (tt, subst (λ (all : List Event). Each IsHeld all (map (Noted station) notes)) (append-nil called) (each_left [] notes refl))

-- By the journal of a run only an end whose link is open is there.
use Rattle.std.proofs.Common.{◌≡◌, ℕ, ◌==◌, ◌&&◌, ◌||◌, Bool, true, false, Option, Some, None, List, [], ◌∷◌, ◌++◌, fold, map, refl, sym, ap, subst, ◌∙◌, append-nil, append_assoc}
use Rattle.std.specs.Prelude.{All, is_some, ⊤, if◌then◌else◌}
use Rattle.std.specs.Option.{option_map}
use Rattle.std.proofs.lemmas.Bool.{eq-eqb, eqb-true, false_from_ne_true}
use Rattle.std.proofs.lemmas.List.Elements.{All-from_recursion}
use Rattle.ble_base.specs.declared.addresses.Address.{Address}
use Rattle.ble_base.specs.declared.notes.Note.{Note}
use Rattle.ble_base.specs.declared.notes.Note.TheVariants.{Opened as OpenedNote, Shut as ShutNote, Up as UpNote}
use Rattle.ble_base.specs.declared.roles.Role.{Role}
use Rattle.ble_base.specs.declared.roles.Side.{Side}
use Rattle.ble_base.specs.declared.roles.Side.TheVariants.{A, B}
use Rattle.journal.specs.declared.entries.Entry.{Entry}
use Rattle.journal.specs.declared.entries.Entry.TheVariants.{Opened, Shut, Turn}
use Rattle.journal_controls.specs.controller_model.Facts.{Facts, Setup}
use Rattle.journal_controls.specs.controller_model.Notes.{is_opening}
use Rattle.journal_controls.specs.controller_model.Side.{facts_after, notes_after}
use Rattle.journal_controls.specs.controller_model.Step.{Step as Call}
use Rattle.journal_controls.specs.host_answers.Flows.{most_received_on}
use Rattle.journal_controls.specs.LineSteps.{control_on, keyed_begun, keyed_in_line, keyed_on}
use Rattle.journal_controls.specs.journal_ends.Asked.{Words}
use Rattle.journal_controls.specs.journal_links.Begun.{link_numbered}
use Rattle.journal_controls.specs.journal_packets.Belonging.{is_side}
use Rattle.journal_controls.specs.link_model.control_model.Control.{Control}
use Rattle.journal_controls.specs.link_model.keyed_control.Keyed.{Keyed}
use Rattle.journal_controls.specs.open_links.OpenLinks.{OpenLink, link_at}
use Rattle.journal_controls.specs.run_model.Due.{Each}
use Rattle.journal_controls.specs.run_model.History.{Event, TurnBegan, HostFed, Called, Noted, Transmitted, past_of, steps_in}
use Rattle.journal_controls.specs.run_model.Journal.{entries_of, entry_of, journal_of, side_of}
use Rattle.journal_controls.specs.run_model.Links.{Links, links_noted, links_of}
use Rattle.journal_controls.specs.run_model.Run.{Given, after_call, facts_at, history_of, run_of, setup_at}
use Rattle.journal_controls.proofs.EventMoves.{air_line, keyed_at}
use Rattle.journal_controls.proofs.LineFolds.{keyed_more}
use Rattle.journal_controls.proofs.journal_acks.Counting.{facts_event}
use Rattle.journal_controls.proofs.journal_acks.Exchanging.{event_number, number_at, number_called, number_other, number_quiet, number_sent}
use Rattle.journal_controls.proofs.journal_acks.TwoStations.{same_number}
use Rattle.journal_controls.proofs.journal_acks.link_calls.CallNotes.{OpensNone}
use Rattle.journal_controls.proofs.journal_ends.run_laws.Hearings.{other_facts, own_facts}
use Rattle.journal_controls.proofs.run_model.Journals.{each_front}
use Rattle.journal_controls.proofs.run_model.LinksKnown.{link_by_own, links_event}
use Rattle.journal_controls.proofs.run_model.OfStations.{OfStations, run_of_stations}
use Rattle.journal_controls.proofs.run_model.OpenedNotes.{is_opened}
use Rattle.journal_controls.proofs.run_model.Parts.{journal_event}
use Rattle.journal_controls.proofs.run_model.Places.{each_at, each_called, each_event}
use Rattle.journal_controls.proofs.run_model.Stations.{is_in}
use Rattle.journal_controls.proofs.run_model.Walk.{IsStepped, is_outside, run_stepped}
use Rattle.journal_data.proofs.NotedLines.{is_link}
use Rattle.journal_data.proofs.Openness.{AreNot, IsNotedAs, all_of, is_open, note_open, opens_first, past_noted, shuts, stays}
use Rattle.journal_leaving.proofs.OtherLines.{is_other, note_other}

-- ---- lines that open no link give no end

abbrev opens_line : Entry → Bool
opens_line (Opened side link handle role) = true
opens_line line = false

pub record HasEnd (found : Option Keyed) : Type 0 where
  pub keyed : Keyed
  pub is : found ≡ Some keyed

abbrev no_end : Option Keyed
no_end = None

none_if : (test : Bool) → (if test then no_end else no_end) ≡ no_end
none_if true = refl
none_if false = refl

none_after : (words : Words) (side : Side) (number : ℕ) (front : List Entry) (line : Entry) → opens_line line ≡ false → keyed_in_line words side number front None line ≡ None
none_after words side number front (Opened other link handle role) opens = absurd cc
none_after words side number front (Shut other link reason) opens = none_if (is_side other side && link == number)
none_after words side number front line opens = refl

had_of : (before after : Option Keyed) (k : Keyed) → after ≡ Some k → (before ≡ None → after ≡ None) → HasEnd before
had_of None after k is none = absurd (let h : None ≡ Some k = sym (none refl) ∙ is in absurd cc)
had_of (Some keyed) after k is none = record { keyed = keyed; is = refl }

line_had : (words : Words) (side : Side) (number : ℕ) (history after : List Event) (line : Entry) (k : Keyed) → journal_of after ≡ journal_of history ++ line ∷ [] → opens_line line ≡ false
    → keyed_at words number side after ≡ Some k → HasEnd (keyed_at words number side history)
line_had words side number history after line k journal opens is =
    had_of (keyed_at words number side history) (keyed_at words number side after) k is
    (λ none. ap (keyed_on words side number) journal ∙ keyed_more words side number (journal_of history) line
    ∙ ap (λ before. keyed_in_line words side number (journal_of history) before line) none ∙ none_after words side number (journal_of history) line opens)

note_opens : (side : Side) (link_of : ℕ → ℕ) (last : ℕ) (note : Note) → is_opening note ≡ false → opens_line (entry_of side link_of last note) ≡ false
note_opens side link_of last (OpenedNote handle role own peer) none = absurd cc
note_opens side link_of last (UpNote packet) none = refl
note_opens side link_of last note none = refl

note_had : (words : Words) (side : Side) (number station : ℕ) (note : Note) (history : List Event) (k : Keyed) → is_opening note ≡ false
    → keyed_at words number side (history ++ Noted station note ∷ []) ≡ Some k → HasEnd (keyed_at words number side history)
note_had words side number station note history k none is =
    let links = links_of history in
    let line = entry_of (side_of station) (links.link_of station) (links.last_of station) note in
    line_had words side number history (history ++ Noted station note ∷ []) line k (journal_event history (Noted station note))
    (note_opens (side_of station) (links.link_of station) (links.last_of station) note none) is

notes_had : (words : Words) (side : Side) (number station : ℕ) (notes : List Note) (history : List Event) (k : Keyed) → AreNot is_opening notes
    → keyed_at words number side (history ++ map (Noted station) notes) ≡ Some k → HasEnd (keyed_at words number side history)
notes_had words side number station [] history k none is = record { keyed = k; is = ap (keyed_at words number side) (sym (append-nil history)) ∙ is }
notes_had words side number station (note ∷ notes) history k none is =
    let next = history ++ Noted station note ∷ [] in
    let rest = notes_had words side number station notes next k none.1 (ap (keyed_at words number side) (append_assoc history (Noted station note ∷ []) (map (Noted station) notes)) ∙ is) in
    note_had words side number station note history rest.keyed none.0 rest.is

-- ---- a link of which the end still has one was not shut

quiet_links : (station one handle : ℕ) (note : Note) (links : Links) → is_opening note ≡ false → (links_noted station note links).link_of one handle ≡ links.link_of one handle
quiet_links station one handle (OpenedNote other role own peer) links none = absurd cc
quiet_links station one handle (UpNote packet) links none = refl
quiet_links station one handle note links none = refl

same_side : (one : Side) → is_side one one ≡ true
same_side A = refl
same_side B = refl

still_noted : (words : Words) (station handle : ℕ) (note : Note) (history : List Event) (k : Keyed) → is_opening note ≡ false
    → keyed_at words (number_at station handle history) (side_of station) (history ++ Noted station note ∷ []) ≡ Some k → note_open handle true note ≡ true
still_noted words station handle (OpenedNote other role own peer) history k none is = absurd cc
still_noted words station handle (ShutNote other reason) history k none is = by (other == handle) refl
  where
    by : (same : Bool) → (other == handle) ≡ same → (if other == handle then false else true) ≡ true
    by false differs = ap (λ b. if b then false else true) differs
    by true same =
        let side = side_of station in
        let front = journal_of history in
        let number = number_at station handle history in
        let link_of = (links_of history).link_of station in
        let gone : keyed_at words number side (history ++ Noted station (ShutNote other reason) ∷ []) ≡ None =
        ap (keyed_on words side number) (journal_event history (Noted station (ShutNote other reason)))
        ∙ keyed_more words side number front (Shut side (link_of other) reason)
        ∙ (λ i. if is_side side side && link_of (eqb-true other handle same i) == number then None else keyed_on words side number front)
        ∙ (λ i. if same_side side i && same_number number i then None else keyed_on words side number front) in
        absurd (let h : None ≡ Some k = sym gone ∙ is in absurd cc)
still_noted words station handle note history k none is = refl

still_open : (words : Words) (station handle : ℕ) (notes : List Note) (history : List Event) (k : Keyed) → AreNot is_opening notes
    → keyed_at words (number_at station handle history) (side_of station) (history ++ map (Noted station) notes) ≡ Some k → fold (note_open handle) true notes ≡ true
still_open words station handle [] history k none is = refl
still_open words station handle (note ∷ notes) history k none is =
    let next = history ++ Noted station note ∷ [] in
    let side = side_of station in
    let number = number_at station handle history in
    let same : number_at station handle next ≡ number = event_number station handle history (Noted station note) (quiet_links station station handle note (links_of history) none.0) in
    let later : keyed_at words number side (next ++ map (Noted station) notes) ≡ Some k =
    ap (keyed_at words number side) (append_assoc history (Noted station note ∷ []) (map (Noted station) notes)) ∙ is in
    let has = notes_had words side number station notes next k none.1 later in
    ap (λ b. fold (note_open handle) b notes) (still_noted words station handle note history has.keyed none.0 has.is)
    ∙ still_open words station handle notes next k none.1 (ap (λ n. keyed_at words n side (next ++ map (Noted station) notes)) same ∙ later)

-- ---- what is kept

-- an end that has a control part is one
pub has_end : (words : Words) (side : Side) (number : ℕ) (history : List Event) (c : Control) → control_on words side number (journal_of history) ≡ Some c → HasEnd (keyed_at words number side history)
unfolding control_on
has_end words side number history c is = by (keyed_at words number side history) refl
  where
    by : (found : Option Keyed) → keyed_on words side number (journal_of history) ≡ found → HasEnd found
    by None none = absurd (let h : None ≡ Some c = sym (ap (option_map (λ (k : Keyed). k.phased.control)) none) ∙ is in absurd cc)
    by (Some keyed) found = record { keyed = keyed; is = refl }

pub record IsOfOpen (given : Given) (history : List Event) (side : Side) (number : ℕ) : Type 0 where
  pub station : ℕ
  pub in_it : is_in station given.stations ≡ true
  pub side_is : side_of station ≡ side
  pub handle : ℕ
  pub link : OpenLink
  pub is_open : link_at handle (facts_at given station history).links ≡ Some link
  pub number_is : number_at station handle history ≡ number

abbrev pub OnlyOpen : Words → Given → List Event → Type 0
OnlyOpen words given history = (side : Side) (number : ℕ) (k : Keyed) → keyed_at words number side history ≡ Some k → IsOfOpen given history side number

-- an event of no call
event_keeps : (words : Words) (given : Given) (history : List Event) (event : Event) → ((station : ℕ) → steps_in station event ≡ [])
    → ((station handle : ℕ) → number_at station handle (history ++ event ∷ []) ≡ number_at station handle history)
    → ((side : Side) (number : ℕ) (k : Keyed) → keyed_at words number side (history ++ event ∷ []) ≡ Some k → HasEnd (keyed_at words number side history))
    → OnlyOpen words given history → OnlyOpen words given (history ++ event ∷ [])
event_keeps words given history event none number had are = λ side n k is.
    let has = had side n k is in
    let was = are side n has.keyed has.is in record {
      station = was.station;
      in_it = was.in_it;
      side_is = was.side_is;
      handle = was.handle;
      link = was.link;
      is_open = ap (λ (f : Facts). link_at was.handle f.links) (facts_event given was.station history event (none was.station)) ∙ was.is_open;
      number_is = number was.station was.handle ∙ was.number_is;
    }

outside_keeps : (words : Words) (given : Given) (history : List Event) (event : Event) → is_outside event ≡ true → OnlyOpen words given history → OnlyOpen words given (history ++ event ∷ [])
outside_keeps words given history (TurnBegan slot radios) outside are =
    let event = TurnBegan slot radios in
    event_keeps words given history event (λ station. refl) (λ station handle. number_quiet station handle history event (λ links. refl))
    (λ side number k is. line_had words side number history (history ++ event ∷ []) _ k (journal_event history event) refl is) are
outside_keeps words given history (HostFed other octets) outside are =
    let event = HostFed other octets in
    event_keeps words given history event (λ station. refl) (λ station handle. number_quiet station handle history event (λ links. refl))
    (λ side number k is. line_had words side number history (history ++ event ∷ []) _ k (journal_event history event) refl is) are
outside_keeps words given history (Transmitted sender channel octets []) outside are =
    let event = Transmitted sender channel octets [] in
    event_keeps words given history event (λ station. refl) (λ station handle. number_sent station handle history sender channel octets [])
    (λ side number k is. record { keyed = k; is = ap (keyed_on words side number) (sym (journal_event history event ∙ append-nil (journal_of history))) ∙ is }) are
outside_keeps words given history (Transmitted sender channel octets (hearing ∷ hearings)) outside are =
    let event = Transmitted sender channel octets (hearing ∷ hearings) in
    event_keeps words given history event (λ station. refl) (λ station handle. number_sent station handle history sender channel octets (hearing ∷ hearings))
    (λ side number k is. line_had words side number history (history ++ event ∷ []) (air_line sender channel octets hearing) k (journal_event history event) refl is) are
outside_keeps words given history (Called station step) outside are = absurd cc
outside_keeps words given history (Noted station note) outside are = absurd cc

-- ---- a call

quiet_note : (handle : ℕ) (note : Note) → is_opening note ≡ false → OpensNone handle note
quiet_note handle (OpenedNote other role own peer) none = absurd cc
quiet_note handle note none = refl

quiet_notes : (handle : ℕ) (notes : List Note) → AreNot is_opening notes → All (OpensNone handle) notes
quiet_notes handle notes none =
    All-from_recursion (OpensNone handle) notes (all_of (λ note. is_opening note ≡ false) (OpensNone handle) (quiet_note handle) notes none)

module _ (words : Words) (given : Given) (station : ℕ) (step : Call) (history : List Event) (in_it : is_in station given.stations ≡ true) (are : OnlyOpen words given history) where
  abbrev setup : Setup
  setup = setup_at given station

  abbrev facts : Facts
  facts = facts_at given station history

  abbrev facts_then : Facts
  facts_then = facts_after setup facts step

  abbrev notes : List Note
  notes = notes_after setup facts step

  abbrev called : List Event
  called = history ++ Called station step ∷ []

  abbrev after : List Event
  after = after_call given station step history

  after_is : called ++ map (Noted station) notes ≡ after
  after_is = append_assoc history (Called station step ∷ []) (map (Noted station) notes)

  called_same : (number : ℕ) (side : Side) → keyed_at words number side called ≡ keyed_at words number side history
  called_same number side = ap (keyed_on words side number) (journal_event history (Called station step) ∙ append-nil (journal_of history))

  called_number : (handle : ℕ) → number_at station handle called ≡ number_at station handle history
  called_number handle = number_quiet station handle history (Called station step) (λ links. refl)

  record IsKeptOpen (handle : ℕ) : Type 0 where
    on : is_open facts_then.links handle ≡ true
    number : number_at station handle after ≡ number_at station handle history

  module _ (side : Side) (number : ℕ) where
    keep : (was : IsOfOpen given history side number) → ((was.station ≡ station) → is_open facts.links was.handle ≡ true → IsKeptOpen was.handle) → IsOfOpen given after side number
    keep was still = by (was.station == station) refl
      where
        by : (same : Bool) → (was.station == station) ≡ same → IsOfOpen given (after_call given station step history) side number
        by true same =
            let equal = eqb-true was.station station same in
            let before : is_open facts.links was.handle ≡ true =
            ap (λ (place : Option OpenLink). is_some place) (subst (λ n. link_at was.handle (facts_at given n history).links ≡ Some was.link) equal was.is_open) in
            let kept = still equal before in
            let found = is_link (link_at was.handle facts_then.links) kept.on in record {
              station = station;
              in_it = in_it;
              side_is = ap side_of (sym equal) ∙ was.side_is;
              handle = was.handle;
              link = found.link;
              is_open = ap (λ (f : Facts). link_at was.handle f.links) (own_facts given station step history) ∙ found.is;
              number_is = kept.number ∙ ap (λ n. number_at n was.handle history) (sym equal) ∙ was.number_is;
            }
        by false differs = record {
          station = was.station;
          in_it = was.in_it;
          side_is = was.side_is;
          handle = was.handle;
          link = was.link;
          is_open = ap (λ (f : Facts). link_at was.handle f.links) (other_facts given station step history was.station differs) ∙ was.is_open;
          number_is = number_other given station step history was.station was.handle differs ∙ was.number_is;
        }

    was_of : HasEnd (keyed_at words number side called) → IsOfOpen given history side number
    was_of has = are side number has.keyed (sym (called_same number side) ∙ has.is)

    module _ (k : Keyed) (is : keyed_at words number side after ≡ Some k) where
      is_then : keyed_at words number side (called ++ map (Noted station) notes) ≡ Some k
      is_then = ap (keyed_at words number side) after_is ∙ is

      -- no link is opened
      none_opened : AreNot is_opening notes → ((was : IsOfOpen given history side number) → was.station ≡ station → is_open facts.links was.handle ≡ true → is_open facts_then.links was.handle ≡ true)
          → IsOfOpen given after side number
      none_opened none on =
          let was = was_of (notes_had words side number station notes called k none is_then) in
          keep was (λ equal before. record {
            on = on was equal before;
            number = number_called given station step history was.handle (quiet_notes was.handle notes none);
          })

      not_shut : AreNot is_opening notes → (was : IsOfOpen given history side number) → was.station ≡ station → fold (note_open was.handle) true notes ≡ true
      not_shut none was equal =
          still_open words station was.handle notes called k none
          ((λ i. keyed_at words ((called_number was.handle ∙ ap (λ n. number_at n was.handle history) (sym equal) ∙ was.number_is) i) ((ap side_of (sym equal) ∙ was.side_is) i)
          (called ++ map (Noted station) notes)) ∙ is_then)

      -- one is
      module _ (handle : ℕ) (role : Role) (own peer : Address) (rest : List Note) (notes_are : notes ≡ OpenedNote handle role own peer ∷ rest) (none : AreNot is_opening rest)
          (free : is_open facts.links handle ≡ false) (now : is_open facts_then.links handle ≡ true)
          (others : (other : ℕ) → (handle == other) ≡ false → is_open facts_then.links other ≡ is_open facts.links other) where
        abbrev first : Note
        first = OpenedNote handle role own peer

        abbrev last : ℕ
        last = (links_of called).last_of station

        at_next : HasEnd (keyed_at words number side (called ++ Noted station first ∷ []))
        at_next =
            notes_had words side number station rest (called ++ Noted station first ∷ []) k none
            (ap (keyed_at words number side) (append_assoc called (Noted station first ∷ []) (map (Noted station) rest))
            ∙ ap (λ all. keyed_at words number side (called ++ map (Noted station) all)) (sym notes_are) ∙ is_then)

        next_is : keyed_at words number side (called ++ Noted station first ∷ [])
            ≡ (if is_side (side_of station) side && last == number then keyed_begun (most_received_on side (journal_of called)) side (link_numbered number (journal_of called)) else keyed_at words number side called)
        next_is =
            ap (keyed_on words side number) (journal_event called (Noted station first)) ∙ keyed_more words side number (journal_of called) (Opened (side_of station) last handle role)

        sides : (one other : Side) → is_side one other ≡ true → one ≡ other
        sides A A is = refl
        sides B B is = refl
        sides A B is = absurd cc
        sides B A is = absurd cc

        left_of : (a b : Bool) → (a && b) ≡ true → a ≡ true
        left_of true b is = refl
        left_of false b is = absurd cc

        right_of : (a b : Bool) → (a && b) ≡ true → b ≡ true
        right_of true b is = is
        right_of false b is = absurd cc

        number_then : number_at station handle after ≡ last
        number_then =
            link_by_own station step notes history handle
            ∙ ap (λ b. if b then (links_of history).last_of station else (links_of history).link_of station handle)
            (ap (is_opened handle) notes_are ∙ ap (λ b. b || is_opened handle rest) (eq-eqb handle handle refl))
            ∙ ap (λ (links : Links). links.last_of station) (sym (links_event history (Called station step)))

        opened_one : IsOfOpen given after side number
        opened_one = by (is_side (side_of station) side && last == number) refl
          where
            by : (test : Bool) → (is_side (side_of station) side && (links_of (history ++ Called station step ∷ [])).last_of station == number) ≡ test
                → IsOfOpen given (after_call given station step history) side number
            by true test =
                let found = is_link (link_at handle facts_then.links) now in record {
                  station = station;
                  in_it = in_it;
                  side_is = sides (side_of station) side (left_of (is_side (side_of station) side) (last == number) test);
                  handle = handle;
                  link = found.link;
                  is_open = ap (λ (f : Facts). link_at handle f.links) (own_facts given station step history) ∙ found.is;
                  number_is = number_then ∙ eqb-true last number (right_of (is_side (side_of station) side) (last == number) test);
                }
            by false test =
                let before = sym (next_is ∙ ap (λ b. if b then keyed_begun (most_received_on side (journal_of called)) side (link_numbered number (journal_of called)) else keyed_at words number side called) test) ∙ at_next.is in
                let was = was_of (record { keyed = at_next.keyed; is = before }) in
                keep was (λ equal on.
                let apart : (handle == was.handle) ≡ false = false_from_ne_true (handle == was.handle) (λ same.
                let h : true ≡ false = sym on ∙ ap (is_open facts.links) (sym (eqb-true handle was.handle same)) ∙ free in absurd cc) in
                let back : (was.handle == handle) ≡ false = false_from_ne_true (was.handle == handle) (λ same.
                let h : true ≡ false = sym on ∙ ap (is_open facts.links) (eqb-true was.handle handle same) ∙ free in absurd cc) in
                record {
                  on = others was.handle apart ∙ on;
                  number = number_called given station step history was.handle (subst (All (OpensNone was.handle)) (sym notes_are)
                      (All-from_recursion (OpensNone was.handle) (first ∷ rest)
                      (back, all_of (λ note. is_opening note ≡ false) (OpensNone was.handle) (quiet_note was.handle) rest none)));
                })

      by_notes : IsNotedAs (is_open facts.links) (is_open facts_then.links) notes → IsOfOpen given after side number
      by_notes (stays none shut same) = none_opened none (λ was equal before. same was.handle ∙ before)
      by_notes (shuts none opens once) =
          none_opened none (λ was equal before.
          sym (opens was.handle) ∙ ap (λ b. fold (note_open was.handle) b notes) before ∙ not_shut none was equal)
      by_notes (opens_first handle role own peer rest notes_are none shut reports free now others) = opened_one handle role own peer rest notes_are none free now others

  call_keeps : OnlyOpen words given after
  call_keeps = λ side number k is. by_notes side number k is (past_noted setup (past_of station history) step)

-- ---- a run

abbrev OnlyOpenBefore : Words → Given → List Event → Event → Type 0
OnlyOpenBefore words given before (TurnBegan slot radios) = OnlyOpen words given before
OnlyOpenBefore words given before (HostFed station octets) = ⊤
OnlyOpenBefore words given before (Called station step) = ⊤
OnlyOpenBefore words given before (Noted station note) = ⊤
OnlyOpenBefore words given before (Transmitted station channel octets hearings) = ⊤

any_before : (words : Words) (given : Given) (history : List Event) (event : Event) → OnlyOpen words given history → OnlyOpenBefore words given history event
any_before words given history (TurnBegan slot radios) is = is
any_before words given history (HostFed station octets) is = tt
any_before words given history (Called station step) is = tt
any_before words given history (Noted station note) is = tt
any_before words given history (Transmitted station channel octets hearings) is = tt

record AreOnlyOpen (words : Words) (given : Given) (history : List Event) : Type 0 where
  open_now : OnlyOpen words given history
  each : Each (OnlyOpenBefore words given) [] history

-- where each call is of a station of the run
abbrev AreOnly : Words → Given → List Event → Type 0
AreOnly words given history = Each (OfStations given) [] history → AreOnlyOpen words given history

only_stepped : (words : Words) (given : Given) → IsStepped given (AreOnly words given)
only_stepped words given = record {
  on_event = λ history event outside is all.
      let before = is (each_front (OfStations given) [] history (event ∷ []) all) in record {
        open_now = outside_keeps words given history event outside before.open_now;
        each = each_event (OnlyOpenBefore words given) history event before.each (any_before words given history event before.open_now);
      };
  on_call = λ station step history is all.
      let notes = notes_after (setup_at given station) (facts_at given station history) step in
      let before = is (each_front (OfStations given) [] history (Called station step ∷ map (Noted station) notes) all) in
      let in_it = each_at (OfStations given) (after_call given station step history) history (map (Noted station) notes) (Called station step) all refl in record {
        open_now = call_keeps words given station step history in_it before.open_now;
        each = each_called (OnlyOpenBefore words given) station step notes history before.each tt (λ earlier note. tt);
      };
}

none_only : (words : Words) (given : Given) → OnlyOpen words given []
unfolding keyed_on journal_of
none_only words given side number k is = absurd cc

run_only : (words : Words) (given : Given) → AreOnlyOpen words given (history_of (run_of given))
run_only words given = run_stepped given (AreOnly words given) (only_stepped words given) (λ all. record { open_now = none_only words given; each = tt }) (run_of_stations given)

pub only_open_before_turn : (words : Words) (given : Given) (before rest : List Event) (slot : ℕ) (radios : List Bool) → history_of (run_of given) ≡ before ++ TurnBegan slot radios ∷ rest
    → OnlyOpen words given before
only_open_before_turn words given before rest slot radios at =
    each_at (OnlyOpenBefore words given) (history_of (run_of given)) before rest (TurnBegan slot radios) (run_only words given).each at

pub only_open_at_end : (words : Words) (given : Given) → OnlyOpen words given (history_of (run_of given))
only_open_at_end words given = (run_only words given).open_now

-- ---- the line of a turn

pub record IsTurn (event : Event) : Type 0 where
  pub slot : ℕ
  pub radios : List Bool
  pub is : event ≡ TurnBegan slot radios

pub turn_of_line : (links : Links) (event : Event) (slot : ℕ) (a_on : Bool) (b_on : Option Bool) → entries_of links event ≡ Turn slot a_on b_on ∷ [] → IsTurn event
turn_of_line links (TurnBegan now radios) slot a_on b_on is = record { slot = now; radios = radios; is = refl }
turn_of_line links (HostFed station octets) slot a_on b_on is = absurd cc
turn_of_line links (Called station step) slot a_on b_on is = absurd cc
turn_of_line links (Transmitted station channel octets []) slot a_on b_on is = absurd cc
turn_of_line links (Transmitted station channel octets (hearing ∷ hearings)) slot a_on b_on is = absurd cc
turn_of_line links (Noted station note) slot a_on b_on is =
    let line = entry_of (side_of station) (links.link_of station) (links.last_of station) note in
    absurd (let same : line ≡ Turn slot a_on b_on = cc in
    let h : true ≡ false = sym (note_other (side_of station) (links.link_of station) (links.last_of station) note) ∙ ap is_other same in absurd cc)

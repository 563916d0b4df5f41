-- What the entries of a journal say is what happened.
use Rattle.std.proofs.Common.{◌≡◌, ℕ, ◌+◌, ◌==◌, ◌||◌, ◌⊎◌, Bool, true, false, List, [], ◌∷◌, ◌++◌, take, inl, inr, refl, sym, ap, subst, ◌∙◌, append-nil}
use Rattle.std.specs.Prelude.{map, Some, if◌then◌else◌}
use Rattle.std.specs.List.{flat_map}
use Rattle.std.proofs.lemmas.Bool.{eqb-true}
use Rattle.std.proofs.lemmas.Grind.{flat_map-append}
use Rattle.std.proofs.lemmas.List.{take-map}
use Rattle.ble_base.specs.declared.roles.Side.{Side}
use Rattle.ble_base.specs.declared.roles.Side.TheVariants.{A, B}
use Rattle.ble_base.specs.declared.notes.Note.{Note}
use Rattle.ble_base.specs.declared.notes.Note.TheVariants.{Up}
use Rattle.journal.specs.declared.entries.Entry.{Entry}
use Rattle.radio_replay.specs.Script.{Script, Turn as ScriptTurn}
use Rattle.run_model.specs.History.{Event, TurnBegan, HostFed, Called, Noted, Transmitted, Hearing, one_if, fed_to, octets_in, noted_by, notes_in, turns_begun}
use Rattle.run_model.specs.Links.{Links, first_links, links_after}
use Rattle.run_model.specs.Journal.{side_of, entry_of, air_entries, radio_in, entries_of, journal_from, journal_of}
use Rattle.run_model.specs.Run.{run_of, history_of}
use Rattle.run_model.specs.Pair.{plan_of, given_of}
use Rattle.run_model.specs.Due.{Each}
use Rattle.run_model.specs.Turns.{Opening, openings_in, openings_from}
use Rattle.run_model.specs.Readers.{PairOpening, IsOfStations, station_of, of_side, fed_in, fed_to_side, packets_in, packets_to_host, packets_of_note, packets_of, pair_openings_in, turns_of, turns_from}
use Rattle.run_model.proofs.Stations.{is_in}
use Rattle.run_model.proofs.OfStations.{run_of_stations}
use Rattle.run_model.proofs.Openings.{run_begun}

-- what is read off the entries of each event, whatever the numbers of links, is read off the journal
read_from : {X : Type 0} (f : Entry → List X) (g : Event → List X) (Q : Event → Type 0) → ((links : Links) (event : Event) → Q event → flat_map f (entries_of links event) ≡ g event)
    → (links : Links) (before history : List Event) → Each (λ early event. Q event) before history → flat_map f (journal_from links history) ≡ flat_map g history
read_from f g Q is links before [] each = refl
read_from f g Q is links before (event ∷ history) each =
    flat_map-append f (entries_of links event) (journal_from (links_after links event) history)
    ∙ ap (λ xs. xs ++ flat_map f (journal_from (links_after links event) history)) (is links event each.0)
    ∙ ap (λ xs. g event ++ xs) (read_from f g Q is (links_after links event) (before ++ event ∷ []) history each.1)

read_all : {X : Type 0} (f : Entry → List X) (g : Event → List X) (Q : Event → Type 0) → ((links : Links) (event : Event) → Q event → flat_map f (entries_of links event) ≡ g event)
    → (history : List Event) → Each (λ early event. Q event) [] history → flat_map f (journal_of history) ≡ flat_map g history
unfolding journal_of
read_all f g Q is history each = read_from f g Q is first_links [] history each

flat_flat : {X Y : Type 0} (f : Event → List X) (g : X → List Y) (history : List Event) → flat_map (λ event. flat_map g (f event)) history ≡ flat_map g (flat_map f history)
flat_flat f g [] = refl
flat_flat f g (event ∷ history) = ap (λ xs. flat_map g (f event) ++ xs) (flat_flat f g history) ∙ sym (flat_map-append g (f event) (flat_map f history))

-- ---- two stations

two_by : (station : ℕ) (first second : Bool) → (station == 0) ≡ first → (station == 1) ≡ second → (first || (second || false)) ≡ true → (station ≡ 0) ⊎ (station ≡ 1)
two_by station true second a b is = inl (eqb-true station 0 a)
two_by station false true a b is = inr (eqb-true station 1 b)
two_by station false false a b is = absurd cc

pub two : (station : ℕ) → is_in station (0 ∷ 1 ∷ []) ≡ true → (station ≡ 0) ⊎ (station ≡ 1)
two station is = two_by station (station == 0) (station == 1) refl refl is

side_zero : {X : Type 0} (side : Side) (values : List X) → of_side side (side_of 0) values ≡ (if station_of side == 0 then values else [])
side_zero A values = refl
side_zero B values = refl

side_one : {X : Type 0} (side : Side) (values : List X) → of_side side (side_of 1) values ≡ (if station_of side == 1 then values else [])
side_one A values = refl
side_one B values = refl

side_is : {X : Type 0} (side : Side) (station : ℕ) (values : List X) → (station ≡ 0) ⊎ (station ≡ 1)
    → of_side side (side_of station) values ≡ (if station_of side == station then values else [])
side_is side station values (inl is) = subst (λ s. of_side side (side_of s) values ≡ (if station_of side == s then values else [])) (sym is) (side_zero side values)
side_is side station values (inr is) = subst (λ s. of_side side (side_of s) values ≡ (if station_of side == s then values else [])) (sym is) (side_one side values)

abbrev pub IsOfPair : Event → Type 0
IsOfPair event = IsOfStations (0 ∷ 1 ∷ []) event

-- ---- octets

air_fed : (side other : Side) (channel : ℕ) (octets : List ℕ) (hearings : List Hearing) → flat_map (fed_in side) (air_entries other channel octets hearings) ≡ []
air_fed side other channel octets [] = refl
air_fed side other channel octets (hearing ∷ hearings) = refl

pub note_fed : (side other : Side) (link_of : ℕ → ℕ) (last : ℕ) (note : Note) → fed_in side (entry_of other link_of last note) ≡ []
note_fed side other link_of last (Up packet) = refl
note_fed side other link_of last note = refl

fed_read : (side : Side) (links : Links) (event : Event) → IsOfPair event → flat_map (fed_in side) (entries_of links event) ≡ octets_in (station_of side) event
fed_read side links (TurnBegan slot radios) is = refl
fed_read side links (HostFed station octets) is = append-nil (of_side side (side_of station) octets) ∙ side_is side station octets (two station is)
fed_read side links (Called station step) is = refl
fed_read side links (Noted station note) is = ap (λ xs. xs ++ []) (note_fed side (side_of station) (links.link_of station) (links.last_of station) note)
fed_read side links (Transmitted station channel octets hearings) is = air_fed side (side_of station) channel octets hearings

pub each_front : (fact : List Event → Event → Type 0) (history front rest : List Event) → Each fact history (front ++ rest) → Each fact history front
each_front fact history [] rest each = tt
each_front fact history (event ∷ front) rest each = (each.0, each_front fact (history ++ event ∷ []) front rest each.1)

-- a history up to a place
front_of_pair : (a b : List ℕ) (script : Script) (before rest : List Event) → history_of (run_of (given_of a b script)) ≡ before ++ rest
    → Each (λ early event. IsOfPair event) [] before
front_of_pair a b script before rest is =
    each_front (λ early event. IsOfPair event) [] before rest (subst (Each (λ early event. IsOfPair event) []) is (run_of_stations (given_of a b script)))

pub pair_fed : (a b : List ℕ) (script : Script) (before rest : List Event) (side : Side) → history_of (run_of (given_of a b script)) ≡ before ++ rest
    → fed_to_side side (journal_of before) ≡ fed_to (station_of side) before
pair_fed a b script before rest side is =
    read_all (fed_in side) (octets_in (station_of side)) IsOfPair (fed_read side) before (front_of_pair a b script before rest is)

-- ---- packets to hosts

pub side_none : {X : Type 0} (side other : Side) → of_side {X = X} side other [] ≡ []
side_none A A = refl
side_none A B = refl
side_none B A = refl
side_none B B = refl

note_packets : (side other : Side) (link_of : ℕ → ℕ) (last : ℕ) (note : Note) → packets_in side (entry_of other link_of last note) ≡ of_side side other (packets_of_note note)
note_packets side other link_of last (Up packet) = refl
note_packets side other link_of last note = sym (side_none side other)

one_packets : (same : Bool) (note : Note) → (if same then packets_of_note note else []) ≡ flat_map packets_of_note (one_if same note)
one_packets true note = sym (append-nil (packets_of_note note))
one_packets false note = refl

pub air_packets : (side other : Side) (channel : ℕ) (octets : List ℕ) (hearings : List Hearing) → flat_map (packets_in side) (air_entries other channel octets hearings) ≡ []
air_packets side other channel octets [] = refl
air_packets side other channel octets (hearing ∷ hearings) = refl

packets_read : (side : Side) (links : Links) (event : Event) → IsOfPair event
    → flat_map (packets_in side) (entries_of links event) ≡ flat_map packets_of_note (notes_in (station_of side) event)
packets_read side links (TurnBegan slot radios) is = refl
packets_read side links (HostFed station octets) is = refl
packets_read side links (Called station step) is = refl
packets_read side links (Noted station note) is =
    append-nil (packets_in side (entry_of (side_of station) (links.link_of station) (links.last_of station) note))
    ∙ note_packets side (side_of station) (links.link_of station) (links.last_of station) note
    ∙ side_is side station (packets_of_note note) (two station is)
    ∙ one_packets (station_of side == station) note
packets_read side links (Transmitted station channel octets hearings) is = air_packets side (side_of station) channel octets hearings

pub pair_packets : (a b : List ℕ) (script : Script) (before rest : List Event) (side : Side) → history_of (run_of (given_of a b script)) ≡ before ++ rest
    → packets_to_host side (journal_of before) ≡ packets_of (noted_by (station_of side) before)
pair_packets a b script before rest side is =
    read_all (packets_in side) (λ event. flat_map packets_of_note (notes_in (station_of side) event)) IsOfPair (packets_read side)
    before (front_of_pair a b script before rest is)
    ∙ flat_flat (notes_in (station_of side)) packets_of_note before

-- ---- turns

abbrev begun_by : Opening → List PairOpening
begun_by opening = record { slot = opening.slot; a_on = radio_in 0 opening.radios; b_on = Some (radio_in 1 opening.radios) } ∷ []

air_turns : (other : Side) (channel : ℕ) (octets : List ℕ) (hearings : List Hearing) → flat_map pair_openings_in (air_entries other channel octets hearings) ≡ []
air_turns other channel octets [] = refl
air_turns other channel octets (hearing ∷ hearings) = refl

pub note_turns : (other : Side) (link_of : ℕ → ℕ) (last : ℕ) (note : Note) → pair_openings_in (entry_of other link_of last note) ≡ []
note_turns other link_of last (Up packet) = refl
note_turns other link_of last note = refl

turns_read : (links : Links) (event : Event) → IsOfPair event → flat_map pair_openings_in (entries_of links event) ≡ flat_map begun_by (openings_in event)
turns_read links (TurnBegan slot radios) is = refl
turns_read links (HostFed station octets) is = refl
turns_read links (Called station step) is = refl
turns_read links (Noted station note) is = ap (λ xs. xs ++ []) (note_turns (side_of station) (links.link_of station) (links.last_of station) note)
turns_read links (Transmitted station channel octets hearings) is = air_turns (side_of station) channel octets hearings

openings_read : (slot : ℕ) (turns : List ScriptTurn) → flat_map begun_by (openings_from (0 ∷ 1 ∷ []) slot (map plan_of turns)) ≡ turns_from slot turns
openings_read slot [] = refl
openings_read slot (turn ∷ turns) = ap (λ xs. record { slot = slot; a_on = turn.a_on; b_on = Some turn.b_on } ∷ xs) (openings_read (slot + 1) turns)

pub pair_turns : (a b : List ℕ) (script : Script)
    → turns_of (journal_of (history_of (run_of (given_of a b script)))) ≡ turns_from 0 (take (turns_begun (history_of (run_of (given_of a b script)))) script.turns)
pair_turns a b script =
    let history = history_of (run_of (given_of a b script)) in
    read_all pair_openings_in (λ event. flat_map begun_by (openings_in event)) IsOfPair turns_read history (run_of_stations (given_of a b script))
    ∙ flat_flat openings_in begun_by history
    ∙ ap (flat_map begun_by) (run_begun (given_of a b script)).openings
    ∙ ap (λ plans. flat_map begun_by (openings_from (0 ∷ 1 ∷ []) 0 plans)) (take-map plan_of (turns_begun history) script.turns)
    ∙ openings_read 0 (take (turns_begun history) script.turns)

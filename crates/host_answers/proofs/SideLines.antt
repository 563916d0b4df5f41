-- What the lines of a side say that its host sent and received is what happened at its station.
use Rattle.std.proofs.Common.{◌≡◌, ◌⊎◌, ℕ, ◌==◌, Bool, true, false, List, [], ◌∷◌, ◌++◌, length, inl, inr, refl, sym, ap, subst, ◌∙◌, append-nil, append_assoc}
use Rattle.std.specs.Prelude.{flat_map, Some, None, slice_get, if◌then◌else◌}
use Rattle.std.proofs.lemmas.Bool.{eqb-true}
use Rattle.std.proofs.lemmas.List.Concat.{flat_map-append}
use Rattle.ble_base.specs.declared.notes.Note.{Note}
use Rattle.ble_base.specs.declared.notes.Note.TheVariants.{Up}
use Rattle.ble_base.specs.declared.roles.Side.{Side}
use Rattle.ble_base.specs.declared.roles.Side.TheVariants.{A, B}
use Rattle.run_model.specs.controller_model.Step.{Step, HostOctet, TurnBegins, PacketHeard, NothingHeard, TurnEnds}
use Rattle.run_model.specs.Due.{Each, IsDue, octet_in, octets_called}
use Rattle.run_model.specs.History.{Event, TurnBegan, HostFed, Called, Noted, Transmitted, fed_to, noted_by, notes_in, octets_in, one_if, past_of, steps_in}
use Rattle.run_model.specs.Journal.{entries_of, entry_of, journal_from, journal_of, side_of}
use Rattle.run_model.specs.Links.{Links, first_links, links_after}
use Rattle.run_model.specs.Readers.{IsOfStations, fed_in, fed_to_side, of_side, packets_in, packets_of, packets_of_note, packets_to_host, station_of}
use Rattle.run_model.specs.Run.{Given, history_of, run_of}
use Rattle.run_model.proofs.Calls.{flat_event, flat_nothing, same_station}
use Rattle.run_model.proofs.Dues.{run_due}
use Rattle.run_model.proofs.Journals.{IsOfPair, air_packets, each_front, note_fed, side_none, two}
use Rattle.run_model.proofs.OfStations.{OfStations, run_of_stations}
use Rattle.run_model.proofs.Stations.{is_in}

-- ---- of a pair

own_values : {X : Type 0} (side : Side) (station : ℕ) (values : List X) → (station ≡ 0) ⊎ (station ≡ 1)
    → of_side side (side_of station) values ≡ (if station_of side == station then values else [])
own_values A station values (inl is) = subst (λ s. of_side A (side_of s) values ≡ (if 0 == s then values else [])) (sym is) refl
own_values A station values (inr is) = subst (λ s. of_side A (side_of s) values ≡ (if 0 == s then values else [])) (sym is) refl
own_values B station values (inl is) = subst (λ s. of_side B (side_of s) values ≡ (if 1 == s then values else [])) (sym is) refl
own_values B station values (inr is) = subst (λ s. of_side B (side_of s) values ≡ (if 1 == s then values else [])) (sym is) refl

event_fed : (side : Side) (links : Links) (event : Event) → IsOfPair event
    → flat_map (fed_in side) (entries_of links event) ≡ octets_in (station_of side) event
event_fed side links (TurnBegan slot radios) is = refl
event_fed side links (HostFed other octets) is = append-nil (of_side side (side_of other) octets) ∙ own_values side other octets (two other is)
event_fed side links (Called other step) is = refl
event_fed side links (Noted other note) is =
    ap (λ xs. xs ++ []) (note_fed side (side_of other) (links.link_of other) (links.last_of other) note)
event_fed side links (Transmitted other channel octets []) is = refl
event_fed side links (Transmitted other channel octets (hearing ∷ hearings)) is = refl

pub note_packets : (side other : Side) (link_of : ℕ → ℕ) (last : ℕ) (note : Note) → packets_in side (entry_of other link_of last note) ≡ of_side side other (packets_of_note note)
note_packets side other link_of last (Up packet) = refl
note_packets side other link_of last note = sym (side_none side other)

one_packets : (same : Bool) (note : Note) → (if same then packets_of_note note else []) ≡ packets_of (one_if same note)
one_packets true note = sym (append-nil (packets_of_note note))
one_packets false note = refl

event_packets : (side : Side) (links : Links) (event : Event) → IsOfPair event
    → flat_map (packets_in side) (entries_of links event) ≡ packets_of (notes_in (station_of side) event)
event_packets side links (TurnBegan slot radios) is = refl
event_packets side links (HostFed other octets) is = refl
event_packets side links (Called other step) is = refl
event_packets side links (Noted other note) is =
    append-nil (packets_in side (entry_of (side_of other) (links.link_of other) (links.last_of other) note))
    ∙ note_packets side (side_of other) (links.link_of other) (links.last_of other) note
    ∙ own_values side other (packets_of_note note) (two other is)
    ∙ one_packets (station_of side == other) note
event_packets side links (Transmitted other channel octets hearings) is = air_packets side (side_of other) channel octets hearings

fed_from : (side : Side) (links : Links) (before history : List Event) → Each (λ early event. IsOfPair event) before history
    → flat_map (fed_in side) (journal_from links history) ≡ fed_to (station_of side) history
fed_from side links before [] each = refl
fed_from side links before (event ∷ history) each =
    flat_map-append (fed_in side) (entries_of links event) (journal_from (links_after links event) history)
    ∙ (λ i. event_fed side links event each.0 i ++ fed_from side (links_after links event) (before ++ event ∷ []) history each.1 i)

packets_from : (side : Side) (links : Links) (before history : List Event) → Each (λ early event. IsOfPair event) before history
    → flat_map (packets_in side) (journal_from links history) ≡ packets_of (noted_by (station_of side) history)
packets_from side links before [] each = refl
packets_from side links before (event ∷ history) each =
    flat_map-append (packets_in side) (entries_of links event) (journal_from (links_after links event) history)
    ∙ (λ i. event_packets side links event each.0 i ++ packets_from side (links_after links event) (before ++ event ∷ []) history each.1 i)
    ∙ sym (flat_map-append packets_of_note (notes_in (station_of side) event) (noted_by (station_of side) history))

side_fed : (side : Side) (history : List Event) → Each (λ early event. IsOfPair event) [] history → fed_to_side side (journal_of history) ≡ fed_to (station_of side) history
unfolding journal_of
side_fed side history each = fed_from side first_links [] history each

side_packets : (side : Side) (history : List Event) → Each (λ early event. IsOfPair event) [] history
    → packets_to_host side (journal_of history) ≡ packets_of (noted_by (station_of side) history)
unfolding journal_of
side_packets side history each = packets_from side first_links [] history each

-- ---- the octets of calls are the first of those that were fed

pub record IsFedFirst (station : ℕ) (history : List Event) : Type 0 where
  pub more : List ℕ
  pub is : fed_to station history ≡ octets_called station history ++ more

none_there : {X : Type 0} (xs : List X) → slice_get (xs ++ []) (length xs) ≡ None
none_there [] = refl
none_there (x ∷ xs) = none_there xs

there_is : {X : Type 0} (x : X) (xs ys : List X) → slice_get (xs ++ x ∷ ys) (length xs) ≡ Some x
there_is x [] ys = refl
there_is x (first ∷ xs) ys = there_is x xs ys

one_more : (station octet : ℕ) (history : List Event) → IsFedFirst station history
    → slice_get (fed_to station history) (length (octets_called station history)) ≡ Some octet
    → IsFedFirst station (history ++ Called station (HostOctet octet) ∷ [])
one_more station octet history first due = by first.more first.is
  where
    called : octets_called station (history ++ Called station (HostOctet octet) ∷ []) ≡ octets_called station history ++ octet ∷ []
    called =
        ap (flat_map octet_in) (flat_event _ history (Called station (HostOctet octet)) ∙ ap (λ b. past_of station history ++ one_if b (HostOctet octet)) (same_station station))
        ∙ flat_map-append octet_in (past_of station history) (HostOctet octet ∷ [])

    by : (more : List ℕ) → fed_to station history ≡ octets_called station history ++ more → IsFedFirst station (history ++ Called station (HostOctet octet) ∷ [])
    by [] is = absurd (let h : None ≡ Some octet =
        sym (none_there (octets_called station history)) ∙ ap (λ xs. slice_get xs (length (octets_called station history))) (sym is) ∙ due in absurd cc)
    by (next ∷ more) is =
        let same : Some next ≡ Some octet =
        sym (there_is next (octets_called station history) more) ∙ ap (λ xs. slice_get xs (length (octets_called station history))) (sym is) ∙ due in
        let one : next ≡ octet = cc in record {
          more = more;
          is = flat_nothing _ history (Called station (HostOctet octet)) refl ∙ is ∙ ap (λ o. octets_called station history ++ o ∷ more) one
              ∙ sym (append_assoc (octets_called station history) (octet ∷ []) more) ∙ ap (λ xs. xs ++ more) (sym called);
        }

-- an event in which it is called with no octet
none_more : (station : ℕ) (history : List Event) (event : Event) (more : List ℕ) → flat_map octet_in (past_of station (event ∷ [])) ≡ []
    → octets_in station event ≡ more → IsFedFirst station history → IsFedFirst station (history ++ event ∷ [])
none_more station history event more none fed first = record {
  more = first.more ++ more;
  is = flat_event (octets_in station) history event
      ∙ (λ i. first.is i ++ fed i)
      ∙ append_assoc (octets_called station history) first.more more
      ∙ ap (λ xs. xs ++ (first.more ++ more)) (sym (ap (flat_map octet_in) (flat_map-append (steps_in station) history (event ∷ []))
      ∙ flat_map-append octet_in (past_of station history) (past_of station (event ∷ []))
      ∙ ap (λ xs. octets_called station history ++ xs) none ∙ append-nil (octets_called station history)));
}

turn_none : (same : Bool) (step : Step) → octet_in step ≡ [] → flat_map octet_in (one_if same step ++ []) ≡ []
turn_none true step none = ap (λ xs. xs ++ []) none
turn_none false step none = refl

octet_more : (given : Given) (station other octet : ℕ) (history : List Event) (same : Bool) → (station == other) ≡ same
    → IsDue given history (Called other (HostOctet octet)) → IsFedFirst station history → IsFedFirst station (history ++ Called other (HostOctet octet) ∷ [])
octet_more given station other octet history true is due first =
    let equal = eqb-true station other is in
    subst (λ n. IsFedFirst station (history ++ Called n (HostOctet octet) ∷ [])) equal
    (one_more station octet history first
    (subst (λ n. slice_get (fed_to n history) (length (octets_called n history)) ≡ Some octet) (sym equal) due))
octet_more given station other octet history false is due first =
    none_more station history (Called other (HostOctet octet)) [] (ap (λ b. flat_map octet_in (one_if b (HostOctet octet) ++ [])) is) refl first

first_more : (given : Given) (station : ℕ) (history : List Event) (event : Event) → IsDue given history event → IsFedFirst station history
    → IsFedFirst station (history ++ event ∷ [])
first_more given station history (TurnBegan slot radios) due first = none_more station history (TurnBegan slot radios) [] refl refl first
first_more given station history (HostFed other octets) due first =
    none_more station history (HostFed other octets) (octets_in station (HostFed other octets)) refl refl first
first_more given station history (Noted other note) due first = none_more station history (Noted other note) [] refl refl first
first_more given station history (Transmitted other channel octets hearings) due first =
    none_more station history (Transmitted other channel octets hearings) [] refl refl first
first_more given station history (Called other (HostOctet octet)) due first = octet_more given station other octet history (station == other) refl due first
first_more given station history (Called other (TurnBegins slot on)) due first =
    none_more station history (Called other (TurnBegins slot on)) [] (turn_none (station == other) (TurnBegins slot on) refl) refl first
first_more given station history (Called other (PacketHeard octets)) due first =
    none_more station history (Called other (PacketHeard octets)) [] (turn_none (station == other) (PacketHeard octets) refl) refl first
first_more given station history (Called other NothingHeard) due first =
    none_more station history (Called other NothingHeard) [] (turn_none (station == other) NothingHeard refl) refl first
first_more given station history (Called other TurnEnds) due first =
    none_more station history (Called other TurnEnds) [] (turn_none (station == other) TurnEnds refl) refl first

first_from : (given : Given) (station : ℕ) (history events : List Event) → Each (IsDue given) history events → IsFedFirst station history
    → IsFedFirst station (history ++ events)
first_from given station history [] each first = subst (IsFedFirst station) (sym (append-nil history)) first
first_from given station history (event ∷ events) each first =
    subst (IsFedFirst station) (append_assoc history (event ∷ []) events)
    (first_from given station (history ++ event ∷ []) events each.1 (first_more given station history event each.0 first))

-- ---- in a run

pub taken_first : (given : Given) (station : ℕ) (before rest : List Event) → history_of (run_of given) ≡ before ++ rest → IsFedFirst station before
taken_first given station before rest at =
    let all = each_front (IsDue given) [] before rest (subst (Each (IsDue given) []) at (run_due given).each) in
    first_from given station [] before all (record { more = []; is = refl })

station_again : (station : ℕ) → (station ≡ 0) ⊎ (station ≡ 1) → station_of (side_of station) ≡ station
station_again station (inl is) = subst (λ n. station_of (side_of n) ≡ n) (sym is) refl
station_again station (inr is) = subst (λ n. station_of (side_of n) ≡ n) (sym is) refl

module _ (given : Given) (are_two : given.stations ≡ 0 ∷ 1 ∷ []) where
  each_of_pair : (before rest : List Event) → history_of (run_of given) ≡ before ++ rest → Each (λ early event. IsOfPair event) [] before
  each_of_pair before rest at =
      let all : Each (OfStations given) [] (before ++ rest) = subst (Each (OfStations given) []) at (run_of_stations given) in
      subst (λ stations. Each (λ early event. IsOfStations stations event) [] before) are_two (each_front (OfStations given) [] before rest all)

  pub own_station : (station : ℕ) → is_in station given.stations ≡ true → station_of (side_of station) ≡ station
  own_station station in_it = station_again station (two station (subst (λ stations. is_in station stations ≡ true) are_two in_it))

  module _ (station : ℕ) (in_it : is_in station given.stations ≡ true) (before rest : List Event) (at : history_of (run_of given) ≡ before ++ rest) where
    pub fed_lines : fed_to_side (side_of station) (journal_of before) ≡ fed_to station before
    fed_lines = side_fed (side_of station) before (each_of_pair before rest at) ∙ ap (λ n. fed_to n before) (own_station station in_it)

    pub packet_lines : packets_to_host (side_of station) (journal_of before) ≡ packets_of (noted_by station before)
    packet_lines = side_packets (side_of station) before (each_of_pair before rest at) ∙ ap (λ n. packets_of (noted_by n before)) (own_station station in_it)

-- The lines of one side on one link, as a journal grows.
use Rattle.std.proofs.Common.{◌≡◌, ◌≢◌, ℕ, ◌+◌, ◌<◌, ◌≤◌, ◌==◌, ◌&&◌, ◌||◌, Bool, true, false, Option, Some, None, List, [], ◌∷◌, ◌++◌, refl, sym, ap, ◌∙◌, append-nil, append_assoc, arith, ◌⊎◌, inl, inr}
use Rattle.std.specs.Prelude.{fold, if◌then◌else◌}
use Rattle.std.proofs.lemmas.Bool.{false_from_ne_true, eqb-true}
use Rattle.std.proofs.lemmas.Grind.{flat_map-append}
use Rattle.ble_base.specs.declared.notes.Note.{Note}
use Rattle.ble_base.specs.declared.notes.Note.TheVariants.{Up, Opened, Shut, Sent, Took, Enter, Applied, Began, Refused, Done}
use Rattle.ble_base.specs.declared.roles.Side.{Side}
use Rattle.ble_base.specs.declared.roles.Side.TheVariants.{A, B}
use Rattle.journal.specs.declared.entries.Entry.{Entry}
use Rattle.run_laws.specs.run_model.History.{Event, TurnBegan, HostFed, Called, Noted, Transmitted, has_received, noted_by, notes_in, one_if}
use Rattle.run_laws.specs.run_model.Journal.{entries_of, entry_of, journal_from, journal_of, side_of}
use Rattle.run_laws.specs.run_model.Links.{Links, begins_link, first_links, links_after, links_noted, links_of, with_link}
use Rattle.run_laws.specs.run_model.Readers.{of_side}
use Rattle.run_laws.specs.run_model.Run.{Given, history_of, run_of}
use Rattle.run_laws.proofs.run_model.Journals.{side_none}
use Rattle.run_laws.proofs.run_model.OfStations.{OfStations, run_of_stations}
use Rattle.run_laws.proofs.run_model.Parts.{journal_more}
use Rattle.run_laws.proofs.run_model.Places.{each_at}
use Rattle.run_laws.proofs.run_model.Stations.{is_in}
use Rattle.journal_links.specs.LinkLines.{lines_of, link_named, where_named}

-- ---- sides

pub own_side : {X : Type 0} (side : Side) (values : List X) → of_side side side values ≡ values
own_side A values = refl
own_side B values = refl

pub other_side_none : {X : Type 0} (side other : Side) (values : List X) → side ≢ other → of_side side other values ≡ []
other_side_none A A values differs = absurd (differs refl)
other_side_none A B values differs = refl
other_side_none B A values differs = refl
other_side_none B B values differs = absurd (differs refl)

-- ---- a line more

pub lines_append : (side : Side) (number : ℕ) (front rest : List Entry) → lines_of side number (front ++ rest) ≡ lines_of side number front ++ lines_of side number rest
lines_append side number front rest = flat_map-append _ front rest

pub line_more : (side : Side) (number : ℕ) (front : List Entry) (line : Entry) (lines : List Entry) → lines_of side number (line ∷ []) ≡ lines
    → lines_of side number (front ++ line ∷ []) ≡ lines_of side number front ++ lines
line_more side number front line lines is = lines_append side number front (line ∷ []) ∙ ap (λ xs. lines_of side number front ++ xs) is

-- a line is of this side and this link, or it is not
named_or_not : (side : Side) (number : ℕ) (may : Option (Side × ℕ)) (line : Entry) → (where_named side number may line ≡ []) ⊎ (where_named side number may line ≡ line ∷ [])
named_or_not side number None line = inl refl
named_or_not side number (Some named) line = by side named.0 (named.1 == number)
  where
    by : (one other : Side) (same : Bool) → (of_side one other (if same then line ∷ [] else []) ≡ []) ⊎ (of_side one other (if same then line ∷ [] else []) ≡ line ∷ [])
    by A A true = inr refl
    by B B true = inr refl
    by A B true = inl refl
    by B A true = inl refl
    by one other false = inl (side_none one other)

-- what is read of these lines alone is read of the whole journal
pub fold_lines : {X : Type 0} (side : Side) (number : ℕ) (after : X → Entry → X)
    → ((x : X) (line : Entry) → where_named side number (link_named line) line ≡ [] → after x line ≡ x) → (x : X) (journal : List Entry)
    → fold after x journal ≡ fold after x (lines_of side number journal)
fold_lines {X = X} side number after skips x [] = refl
fold_lines {X = X} side number after skips x (line ∷ journal) = by (named_or_not side number (link_named line) line) (λ y. fold_lines side number after skips y journal)
  where
    by : (where_named side number (link_named line) line ≡ []) ⊎ (where_named side number (link_named line) line ≡ line ∷ [])
        → ((y : X) → fold after y journal ≡ fold after y (lines_of side number journal))
        → fold after (after x line) journal ≡ fold after x (where_named side number (link_named line) line ++ lines_of side number journal)
    by (inl none) rest =
        ap (λ y. fold after y journal) (skips x line none) ∙ rest x ∙ ap (λ xs. fold after x (xs ++ lines_of side number journal)) (sym none)
    by (inr one) rest = rest (after x line) ∙ ap (λ xs. fold after x (xs ++ lines_of side number journal)) (sym one)

-- ---- the line of a note

-- the link that the line of a note names, under its handle
pub named_here : (side : Side) (link number : ℕ) (line : Entry) → (link == number) ≡ true → where_named side number (Some (side, link)) line ++ [] ≡ line ∷ []
named_here side link number line same =
    append-nil (where_named side number (Some (side, link)) line) ∙ own_side side (if link == number then line ∷ [] else []) ∙ ap (λ b. if b then line ∷ [] else []) same

pub named_elsewhere : (side own : Side) (link number : ℕ) (line : Entry) → (link == number) ≡ false → where_named side number (Some (own, link)) line ++ [] ≡ []
named_elsewhere side own link number line differs =
    append-nil (where_named side number (Some (own, link)) line) ∙ ap (λ b. of_side side own (if b then line ∷ [] else [])) differs ∙ side_none side own

named_across : (side other : Side) (link number : ℕ) (line : Entry) → side ≢ other → where_named side number (Some (other, link)) line ++ [] ≡ []
named_across side other link number line differs =
    append-nil (where_named side number (Some (other, link)) line) ∙ other_side_none side other (if link == number then line ∷ [] else []) differs

-- a note of another side has no line of this one
pub across : (side other : Side) (number : ℕ) (link_of : ℕ → ℕ) (last : ℕ) (note : Note) → side ≢ other → lines_of side number (entry_of other link_of last note ∷ []) ≡ []
across side other number link_of last (Up packet) differs = refl
across side other number link_of last (Opened handle role own peer) differs = named_across side other last number _ differs
across side other number link_of last (Shut handle reason) differs = named_across side other (link_of handle) number _ differs
across side other number link_of last (Sent handle count llid body) differs = named_across side other (link_of handle) number _ differs
across side other number link_of last (Took handle count llid body) differs = named_across side other (link_of handle) number _ differs
across side other number link_of last (Enter handle event channel) differs = named_across side other (link_of handle) number _ differs
across side other number link_of last (Applied handle count event) differs = named_across side other (link_of handle) number _ differs
across side other number link_of last (Began handle kind) differs = named_across side other (link_of handle) number _ differs
across side other number link_of last (Refused handle kind code) differs = named_across side other (link_of handle) number _ differs
across side other number link_of last (Done handle kind) differs = named_across side other (link_of handle) number _ differs

-- a note has no line of a link with another number than those that its station knows
pub unknown : (side own : Side) (number : ℕ) (link_of : ℕ → ℕ) (last : ℕ) (note : Note) → ((handle : ℕ) → (link_of handle == number) ≡ false) → (last == number) ≡ false
    → lines_of side number (entry_of own link_of last note ∷ []) ≡ []
unknown side own number link_of last (Up packet) others other = refl
unknown side own number link_of last (Opened handle role address peer) others other = named_elsewhere side own last number _ other
unknown side own number link_of last (Shut handle reason) others other = named_elsewhere side own (link_of handle) number _ (others handle)
unknown side own number link_of last (Sent handle count llid body) others other = named_elsewhere side own (link_of handle) number _ (others handle)
unknown side own number link_of last (Took handle count llid body) others other = named_elsewhere side own (link_of handle) number _ (others handle)
unknown side own number link_of last (Enter handle event channel) others other = named_elsewhere side own (link_of handle) number _ (others handle)
unknown side own number link_of last (Applied handle count event) others other = named_elsewhere side own (link_of handle) number _ (others handle)
unknown side own number link_of last (Began handle kind) others other = named_elsewhere side own (link_of handle) number _ (others handle)
unknown side own number link_of last (Refused handle kind code) others other = named_elsewhere side own (link_of handle) number _ (others handle)
unknown side own number link_of last (Done handle kind) others other = named_elsewhere side own (link_of handle) number _ (others handle)

-- ---- a link that has not begun has no line

-- each number that a station knows is that of a link that began
record AreBegun (links : Links) : Type 0 where
  last : (station : ℕ) → links.last_of station ≤ links.begun
  under : (station handle : ℕ) → links.link_of station handle ≤ links.begun

first_begun : AreBegun first_links
first_begun = record { last = λ station. omega arith; under = λ station handle. omega arith }

noted_begun : (links : Links) (station : ℕ) (note : Note) → AreBegun links → AreBegun (links_noted station note links)
noted_begun links station (Opened handle role own peer) are = record {
  last = are.last;
  under = λ other number. by ((other == station) && (number == handle)) (are.under other number);
}
  where
    by : (here : Bool) {n : ℕ} → n ≤ links.begun → (if here then links.last_of station else n) ≤ links.begun
    by true is = are.last station
    by false is = is
noted_begun links station note are = are

less_more : (n begun : ℕ) → n ≤ begun → n ≤ begun + 1
less_more n begun is = omega (arith, is)

event_begun : (links : Links) (event : Event) → AreBegun links → AreBegun (links_after links event)
event_begun links (Noted station note) are = noted_begun links station note are
event_begun links (TurnBegan slot radios) are = are
event_begun links (HostFed station octets) are = are
event_begun links (Called station step) are = are
event_begun links (Transmitted sender channel octets hearings) are = by (begins_link channel octets)
  where
    one : (knows : Bool) (n : ℕ) → n ≤ links.begun → (if knows then links.begun + 1 else n) ≤ links.begun + 1
    one true n is = omega arith
    one false n is = less_more n links.begun is

    by : (begins : Bool) → AreBegun (if begins then with_link sender hearings links else links)
    by true = record {
      last = λ station. one ((station == sender) || has_received station hearings) (links.last_of station) (are.last station);
      under = λ station handle. less_more (links.link_of station handle) links.begun (are.under station handle);
    }
    by false = are

pub noted_count : (links : Links) (station : ℕ) (note : Note) → links.begun ≤ (links_noted station note links).begun
noted_count links station (Opened handle role own peer) = omega arith
noted_count links station note = omega arith

event_count : (links : Links) (event : Event) → links.begun ≤ (links_after links event).begun
event_count links (Noted station note) = noted_count links station note
event_count links (TurnBegan slot radios) = omega arith
event_count links (HostFed station octets) = omega arith
event_count links (Called station step) = omega arith
event_count links (Transmitted sender channel octets hearings) = by (begins_link channel octets)
  where
    by : (begins : Bool) → links.begun ≤ (if begins then with_link sender hearings links else links).begun
    by true = omega arith
    by false = omega arith

later_count : (links : Links) (events : List Event) → links.begun ≤ (fold links_after links events).begun
later_count links [] = omega arith
later_count links (event ∷ events) =
    let first = event_count links event in
    let rest = later_count (links_after links event) events in omega (arith, first, rest)

above : (n begun number : ℕ) → n ≤ begun → begun < number → (n == number) ≡ false
above n begun number below more = false_from_ne_true (n == number) (λ same. let is = eqb-true n number same in absurd (omega (arith, below, more, is)))

event_unknown : (side : Side) (number : ℕ) (links : Links) (event : Event) → AreBegun links → links.begun < number → lines_of side number (entries_of links event) ≡ []
event_unknown side number links (Noted station note) are more =
    unknown side (side_of station) number (links.link_of station) (links.last_of station) note
    (λ handle. above (links.link_of station handle) links.begun number (are.under station handle) more) (above (links.last_of station) links.begun number (are.last station) more)
event_unknown side number links (TurnBegan slot radios) are more = refl
event_unknown side number links (HostFed station octets) are more = refl
event_unknown side number links (Called station step) are more = refl
event_unknown side number links (Transmitted station channel octets []) are more = refl
event_unknown side number links (Transmitted station channel octets (hearing ∷ hearings)) are more = refl

none_from : (side : Side) (number : ℕ) (links : Links) (events : List Event) → AreBegun links → (fold links_after links events).begun < number
    → lines_of side number (journal_from links events) ≡ []
none_from side number links [] are more = refl
none_from side number links (event ∷ events) are more =
    let next = links_after links event in
    let now = event_count links event in
    let rest = later_count next events in
    lines_append side number (entries_of links event) (journal_from next events)
    ∙ ap (λ xs. xs ++ lines_of side number (journal_from next events)) (event_unknown side number links event are (omega (arith, now, rest, more)))
    ∙ none_from side number next events (event_begun links event are) more

none_yet : (side : Side) (number : ℕ) (history : List Event) → (links_of history).begun < number → lines_of side number (journal_of history) ≡ []
unfolding journal_of links_of
none_yet side number history more = none_from side number first_links history first_begun more

-- ---- a station that notes nothing has no line

-- the stations of a run that are not this one have other sides
abbrev pub IsApart : Given → ℕ → Type 0
IsApart given station = (other : ℕ) → is_in other given.stations ≡ true → (station == other) ≡ false → side_of station ≢ side_of other

module _ (given : Given) (station : ℕ) (apart : IsApart given station) where
  event_none : (front rest : List Event) (number : ℕ) (links : Links) (event : Event) → history_of (run_of given) ≡ front ++ event ∷ rest → notes_in station event ≡ []
      → lines_of (side_of station) number (entries_of links event) ≡ []
  event_none front rest number links (Noted other note) is none = by (station == other) refl none
    where
      by : (same : Bool) → (station == other) ≡ same → one_if same note ≡ []
          → lines_of (side_of station) number (entry_of (side_of other) (links.link_of other) (links.last_of other) note ∷ []) ≡ []
      by true one noted = absurd cc
      by false differs noted =
          let in_it = each_at (OfStations given) (history_of (run_of given)) front rest (Noted other note) (run_of_stations given) is in
          across (side_of station) (side_of other) number (links.link_of other) (links.last_of other) note (apart other in_it differs)
  event_none front rest number links (TurnBegan slot radios) is none = refl
  event_none front rest number links (HostFed other octets) is none = refl
  event_none front rest number links (Called other step) is none = refl
  event_none front rest number links (Transmitted other channel octets []) is none = refl
  event_none front rest number links (Transmitted other channel octets (hearing ∷ hearings)) is none = refl

  first_none : (xs ys : List Note) → xs ++ ys ≡ [] → (xs ≡ []) × (ys ≡ [])
  first_none [] ys none = (refl, none)
  first_none (x ∷ xs) ys none = absurd cc

  pub none_since : (front events rest : List Event) (number : ℕ) (links : Links) → history_of (run_of given) ≡ front ++ (events ++ rest) → noted_by station events ≡ []
      → lines_of (side_of station) number (journal_from links events) ≡ []
  none_since front [] rest number links is none = refl
  none_since front (event ∷ events) rest number links is none =
      let next = links_after links event in
      let both = first_none (notes_in station event) (noted_by station events) none in
      lines_append (side_of station) number (entries_of links event) (journal_from next events)
      ∙ ap (λ xs. xs ++ lines_of (side_of station) number (journal_from next events)) (event_none front (events ++ rest) number links event is both.0)
      ∙ none_since (front ++ event ∷ []) events rest number next (is ∙ sym (append_assoc front (event ∷ []) (events ++ rest))) both.1

  no_more : (xs ys : List Note) → xs ++ ys ≡ xs → ys ≡ []
  no_more [] ys is = is
  no_more (x ∷ xs) ys is = let rest : xs ++ ys ≡ xs = cc in no_more xs ys rest

  -- a link whose CONNECT_IND comes after these events has no line of a station that noted nothing since
  pub fresh : (before known since rest : List Event) (number : ℕ) → history_of (run_of given) ≡ before ++ rest → before ≡ known ++ since
      → number ≡ (links_of known).begun + 1 → noted_by station before ≡ noted_by station known → lines_of (side_of station) number (journal_of before) ≡ []
  fresh before known since rest number is at next unnoted =
      let side = side_of station in
      let links = links_of known in
      let none = no_more (noted_by station known) (noted_by station since)
      (sym (flat_map-append (notes_in station) known since) ∙ ap (noted_by station) (sym at) ∙ unnoted) in
      ap (λ xs. lines_of side number (journal_of xs)) at ∙ ap (lines_of side number) (journal_more known since)
      ∙ lines_append side number (journal_of known) (journal_from links since)
      ∙ ap (λ xs. xs ++ lines_of side number (journal_from links since)) (none_yet side number known (omega (arith, next)))
      ∙ none_since known since rest number links (is ∙ ap (λ xs. xs ++ rest) at ∙ append_assoc known since rest) none

-- The credits of a side in the turn that is under way, by the lines, and whether each note fits them.
use Rattle.std.proofs.Common.{◌≡◌, ℕ, zero, suc, ◌+◌, ◌<◌, ◌≤◌, ◌&&◌, ◌⊎◌, inl, inr, Bool, true, false, Option, Some, None, List, [], ◌∷◌, ◌++◌, length, map, cond, refl, sym, ap, subst, ◌∙◌, append-nil, append_assoc, arith}
use Rattle.std.specs.Prelude.{⊤, flat_map, fold, if◌then◌else◌}
use Rattle.std.specs.List.{AllByRecursion}
use Rattle.std.specs.Option.{option_map}
use Rattle.std.proofs.lemmas.Bool.{and_from}
use Rattle.std.proofs.lemmas.List.Sums.{fold-append}
use Rattle.arrayvec.specs.ArrayVec.{ArrayVec}
use Rattle.ble_base.specs.declared.error_codes.ErrCode.{ErrCode}
use Rattle.ble_base.specs.declared.notes.Note.{Note}
use Rattle.ble_base.specs.declared.notes.Note.TheVariants.{Shut as ShutNote, Up as UpNote}
use Rattle.ble_base.specs.declared.roles.Side.{Side}
use Rattle.hci_evt.specs.Event.{mask_bit_of, written}
use Rattle.hci_evt.specs.declared.event.Event.{Event as HostEvent}
use Rattle.hci_evt.specs.declared.event.Event.TheVariants.{CompletedPackets, DisconnectionComplete}
use Rattle.host_view.specs.View.{View}
use Rattle.journal.specs.declared.entries.Entry.{Entry}
use Rattle.journal.specs.declared.entries.Entry.TheVariants.{Turn, Air, Shut, Up}
use Rattle.journal_data.specs.open_links.Data.{complete_in, completed_from}
use Rattle.journal_data.specs.open_links.Offered.{completed_by}
use Rattle.journal_data.specs.open_links.OpenLinks.{Links}
use Rattle.journal_data.specs.open_links.declared.ended.LinkEnded.{LinkEnded}
use Rattle.acl_banks.specs.declared.pieces.Piece.{Piece}
use Rattle.journal_data.specs.controller_model.Data.{acl_packet, event_completed, note_received}
use Rattle.journal_data.specs.controller_model.Events.{notes_of_events, passes}
use Rattle.journal_data.specs.controller_model.Links.{note_shut, notes_ended}
use Rattle.journal_data.specs.controller_model.Step.{Step, HostOctet, TurnBegins}
use Rattle.run_model.specs.Due.{Each}
use Rattle.run_model.specs.History.{Event, TurnBegan, HostFed, Called, Noted, Transmitted}
use Rattle.run_model.specs.Journal.{entries_of, entry_of, journal_from, journal_of, side_of}
use Rattle.run_model.specs.Links.{Links as Numbers, links_after, links_of}
use Rattle.run_model.proofs.Calls.{with_notes}
use Rattle.run_model.proofs.Parts.{journal_event, journal_more}
use Rattle.run_model.proofs.Places.{each_append}
use Rattle.journal_data.proofs.run_laws.OpenSteps.{EachOpen}
use Rattle.journal_data.specs.journal_packets.Belonging.{is_side}
use Rattle.wire_fields.specs.Field.{little_endian}
use Rattle.journal_data.proofs.journal_acks.Exchanging.{map_both}
use Rattle.journal_data.proofs.journal_acks.TwoStations.{side_same}
use Rattle.journal_hosts.specs.Credits.{credit_count, credit_handle, fed_after, is_being_fed, is_credit}
use Rattle.journal_hosts.proofs.CreditNotes.{AreNoCredits, IsNoCredit, IsOfOctet}

-- ---- the handles of the credits after the first packet of a turn

-- after an entry; there are none before that packet
abbrev pub handles_after : Side → Option (List ℕ) → Entry → Option (List ℕ)
handles_after side handles (Turn slot a_on b_on) = None
handles_after side None (Air sender channel octets fate verdict) = Some []
handles_after side (Some handles) (Air sender channel octets fate verdict) = Some handles
handles_after side handles (Up other octets) =
    if is_side other side && is_credit octets then option_map (λ some. some ++ credit_handle octets ∷ []) handles else handles
handles_after side handles entry = handles

abbrev pub handles_of : Side → List Entry → Option (List ℕ)
handles_of side journal = fold (handles_after side) None journal

abbrev pub handles_at : Side → List Event → Option (List ℕ)
handles_at side history = handles_of side (journal_of history)

-- the handles, and none where there are none yet
abbrev pub some_handles : Option (List ℕ) → List ℕ
some_handles None = []
some_handles (Some handles) = handles

-- ---- what an event adds

pub handles_event : (side : Side) (history : List Event) (event : Event)
    → handles_at side (history ++ event ∷ []) ≡ fold (handles_after side) (handles_at side history) (entries_of (links_of history) event)
handles_event side history event =
    ap (handles_of side) (journal_event history event) ∙ fold-append (handles_after side) None (journal_of history) (entries_of (links_of history) event)

if_not : (own : Bool) (one other : Option (List ℕ)) (credit : Bool) → credit ≡ false → (if own && credit then one else other) ≡ other
if_not true one other false is = refl
if_not false one other false is = refl
if_not own one other true is = absurd cc

if_elsewhere : (own credit : Bool) (one other : Option (List ℕ)) → own ≡ false → (if own && credit then one else other) ≡ other
if_elsewhere false credit one other is = refl
if_elsewhere true credit one other is = absurd cc

if_both : (own credit : Bool) (one other : Option (List ℕ)) → own ≡ true → credit ≡ true → (if own && credit then one else other) ≡ one
if_both true true one other is also = refl
if_both true false one other is also = absurd cc
if_both false credit one other is also = absurd cc

if_none : (test : Bool) (change : List ℕ → List ℕ) → (if test then option_map change None else None) ≡ None
if_none true change = refl
if_none false change = refl

module _ (side : Side) where
  -- a note that is no credit, of any side
  quiet_entry : (own : Side) (link_of : ℕ → ℕ) (last : ℕ) (note : Note) (handles : Option (List ℕ)) → IsNoCredit note
      → handles_after side handles (entry_of own link_of last note) ≡ handles
  quiet_entry own link_of last (UpNote packet) handles none = if_not (is_side own side) _ handles (is_credit packet.items) none
  quiet_entry own link_of last note handles none = refl

  -- a note of the other side
  other_entry : (own : Side) (link_of : ℕ → ℕ) (last : ℕ) (note : Note) (handles : Option (List ℕ)) → is_side own side ≡ false
      → handles_after side handles (entry_of own link_of last note) ≡ handles
  other_entry own link_of last (UpNote packet) handles apart = if_elsewhere (is_side own side) (is_credit packet.items) _ handles apart
  other_entry own link_of last note handles apart = refl

  -- a note before the first packet
  early_entry : (own : Side) (link_of : ℕ → ℕ) (last : ℕ) (note : Note) → handles_after side None (entry_of own link_of last note) ≡ None
  early_entry own link_of last (UpNote packet) = if_none (is_side own side && is_credit packet.items) (λ some. some ++ credit_handle packet.items ∷ [])
  early_entry own link_of last note = refl

  quiet_notes : (links : Numbers) (station : ℕ) (notes : List Note) (handles : Option (List ℕ)) → AreNoCredits notes
      → fold (handles_after side) handles (journal_from links (map (Noted station) notes)) ≡ handles
  quiet_notes links station [] handles none = refl
  quiet_notes links station (note ∷ notes) handles none =
      ap (λ some. fold (handles_after side) some (journal_from (links_after links (Noted station note)) (map (Noted station) notes)))
      (quiet_entry (side_of station) (links.link_of station) (links.last_of station) note handles none.0)
      ∙ quiet_notes (links_after links (Noted station note)) station notes handles none.1

  other_notes : (links : Numbers) (station : ℕ) (notes : List Note) (handles : Option (List ℕ)) → is_side (side_of station) side ≡ false
      → fold (handles_after side) handles (journal_from links (map (Noted station) notes)) ≡ handles
  other_notes links station [] handles apart = refl
  other_notes links station (note ∷ notes) handles apart =
      ap (λ some. fold (handles_after side) some (journal_from (links_after links (Noted station note)) (map (Noted station) notes)))
      (other_entry (side_of station) (links.link_of station) (links.last_of station) note handles apart)
      ∙ other_notes (links_after links (Noted station note)) station notes handles apart

  early_notes : (links : Numbers) (station : ℕ) (notes : List Note)
      → fold (handles_after side) None (journal_from links (map (Noted station) notes)) ≡ None
  early_notes links station [] = refl
  early_notes links station (note ∷ notes) =
      ap (λ some. fold (handles_after side) some (journal_from (links_after links (Noted station note)) (map (Noted station) notes)))
      (early_entry (side_of station) (links.link_of station) (links.last_of station) note)
      ∙ early_notes (links_after links (Noted station note)) station notes

  called : (station : ℕ) (step : Step) (notes : List Note) (history : List Event)
      → handles_at side (with_notes station step notes history)
      ≡ fold (handles_after side) (handles_at side history) (journal_from (links_of history) (map (Noted station) notes))
  called station step notes history =
      ap (handles_of side) (journal_more history (Called station step ∷ map (Noted station) notes))
      ∙ fold-append (handles_after side) None (journal_of history) (journal_from (links_of history) (map (Noted station) notes))

  -- a call with no credit leaves them, and so does one on the other side; before the first packet there are none after it
  pub quiet_called : (station : ℕ) (step : Step) (notes : List Note) (history : List Event) → AreNoCredits notes
      → handles_at side (with_notes station step notes history) ≡ handles_at side history
  quiet_called station step notes history none =
      called station step notes history ∙ quiet_notes (links_of history) station notes (handles_at side history) none

  pub other_called : (station : ℕ) (step : Step) (notes : List Note) (history : List Event) → is_side (side_of station) side ≡ false
      → handles_at side (with_notes station step notes history) ≡ handles_at side history
  other_called station step notes history apart =
      called station step notes history ∙ other_notes (links_of history) station notes (handles_at side history) apart

  pub early_called : (station : ℕ) (step : Step) (notes : List Note) (history : List Event) → handles_at side history ≡ None
      → handles_at side (with_notes station step notes history) ≡ None
  early_called station step notes history none =
      called station step notes history
      ∙ ap (λ some. fold (handles_after side) some (journal_from (links_of history) (map (Noted station) notes))) none
      ∙ early_notes (links_of history) station notes

  pub quiet_more : (station : ℕ) (notes : List Note) (history : List Event) → AreNoCredits notes
      → handles_at side (history ++ map (Noted station) notes) ≡ handles_at side history
  quiet_more station notes history none =
      ap (handles_of side) (journal_more history (map (Noted station) notes))
      ∙ fold-append (handles_after side) None (journal_of history) (journal_from (links_of history) (map (Noted station) notes))
      ∙ quiet_notes (links_of history) station notes (handles_at side history) none

-- ---- each credit fits

noted_early : (side : Side) (station : ℕ) (history : List Event) (note : Note) → handles_at side history ≡ None → handles_at side (history ++ Noted station note ∷ []) ≡ None
noted_early side station history note early =
    let links = links_of history in
    handles_event side history (Noted station note)
    ∙ ap (λ handles. handles_after side handles (entry_of (side_of station) (links.link_of station) (links.last_of station) note)) early
    ∙ early_entry side (side_of station) (links.link_of station) (links.last_of station) note

noted_quiet : (side : Side) (station : ℕ) (history : List Event) (note : Note) → IsNoCredit note → handles_at side (history ++ Noted station note ∷ []) ≡ handles_at side history
noted_quiet side station history note none =
    let links = links_of history in
    handles_event side history (Noted station note)
    ∙ quiet_entry side (side_of station) (links.link_of station) (links.last_of station) note (handles_at side history) none

-- what the octets of a host bring as its side is being fed
fed_event : (side : Side) (history : List Event) (event : Event)
    → is_being_fed side (journal_of (history ++ event ∷ [])) ≡ fold (fed_after side) (is_being_fed side (journal_of history)) (entries_of (links_of history) event)
unfolding is_being_fed
fed_event side history event =
    ap (is_being_fed side) (journal_event history event) ∙ fold-append (fed_after side) false (journal_of history) (entries_of (links_of history) event)

fed_entry : (side : Side) (link_of : ℕ → ℕ) (last : ℕ) (note : Note) (fed : Bool) → fed ≡ true → is_side side side ≡ true → IsOfOctet note
    → fed_after side fed (entry_of side link_of last note) ≡ true
fed_entry side link_of last (UpNote packet) fed is own of = and_from fed (is_side side side) is own
fed_entry side link_of last (ShutNote handle reason) fed is own of = and_from fed (is_side side side) is own
fed_entry side link_of last note fed is own of = absurd of

pub fed_noted : (station : ℕ) (history : List Event) (note : Note) → is_being_fed (side_of station) (journal_of history) ≡ true → IsOfOctet note
    → is_being_fed (side_of station) (journal_of (history ++ Noted station note ∷ [])) ≡ true
fed_noted station history note is of =
    let links = links_of history in
    fed_event (side_of station) history (Noted station note)
    ∙ fed_entry (side_of station) (links.link_of station) (links.last_of station) note (is_being_fed (side_of station) (journal_of history)) is (side_same station) of

pub fed_called : (station : ℕ) (history : List Event) (step : Step) → is_being_fed (side_of station) (journal_of history) ≡ true
    → is_being_fed (side_of station) (journal_of (history ++ Called station step ∷ [])) ≡ true
fed_called station history step is = fed_event (side_of station) history (Called station step) ∙ is

pub fed_by_host : (station : ℕ) (history : List Event) (octets : List ℕ) → is_being_fed (side_of station) (journal_of (history ++ HostFed station octets ∷ [])) ≡ true
fed_by_host station history octets = fed_event (side_of station) history (HostFed station octets) ∙ side_same station

pub fed_notes : (station : ℕ) (notes : List Note) (history : List Event) → is_being_fed (side_of station) (journal_of history) ≡ true → AllByRecursion IsOfOctet notes
    → is_being_fed (side_of station) (journal_of (history ++ map (Noted station) notes)) ≡ true
fed_notes station [] history is of = ap (λ all. is_being_fed (side_of station) (journal_of all)) (append-nil history) ∙ is
fed_notes station (note ∷ notes) history is of =
    ap (λ all. is_being_fed (side_of station) (journal_of all)) (sym (append_assoc history (Noted station note ∷ []) (map (Noted station) notes)))
    ∙ fed_notes station notes (history ++ Noted station note ∷ []) (fed_noted station history note is of.0) of.1

handle_held : (handle count : ℕ) → handle < 65536 → credit_handle (written (CompletedPackets handle count)) ≡ handle
unfolding little_endian
handle_held handle count below = omega (arith, below)

less_more : (first : ℕ) (handles : List ℕ) → AllByRecursion (λ handle. handle < first) handles → AllByRecursion (λ handle. handle < first + 1) handles
less_more first [] less = tt
less_more first (handle ∷ handles) less = (omega (arith, less.0), less_more first handles less.1)

less_push : (first : ℕ) (handles : List ℕ) → AllByRecursion (λ handle. handle < first) handles → AllByRecursion (λ handle. handle < first + 1) (handles ++ first ∷ [])
less_push first [] less = (omega arith, tt)
less_push first (handle ∷ handles) less = (omega (arith, less.0), less_push first handles less.1)

is_one : (handle count : ℕ) → is_credit (written (CompletedPackets handle count)) ≡ true
unfolding little_endian
is_one handle count = refl

-- the note of a credit
abbrev note_of : ℕ → ℕ → Note
note_of handle count = UpNote (record { items = written (CompletedPackets handle count) })

noted_credit : (station handle count : ℕ) (history : List Event) (handles : List ℕ) → handles_at (side_of station) history ≡ Some handles
    → handles_at (side_of station) (history ++ Noted station (note_of handle count) ∷ []) ≡ Some (handles ++ credit_handle (written (CompletedPackets handle count)) ∷ [])
noted_credit station handle count history handles are =
    let octets = written (CompletedPackets handle count) in
    handles_event (side_of station) history (Noted station (note_of handle count))
    ∙ if_both (is_side (side_of station) (side_of station)) (is_credit octets) _ _ (side_same station) (is_one handle count)
    ∙ ap (option_map (λ some. some ++ credit_handle octets ∷ [])) are

count_held : (handle count : ℕ) → count ≤ 65535 → 0 < count → 0 < credit_count (written (CompletedPackets handle count))
unfolding little_endian
count_held handle count fits some = omega (arith, fits, some)

-- ---- whether a side has shut a link since its first credit after that packet

abbrev pub with_credit : Option Bool → Option Bool
with_credit None = Some false
with_credit (Some shut) = Some shut

abbrev pub with_shut : Option Bool → Option Bool
with_shut None = None
with_shut (Some shut) = Some true

-- after an entry; there is nothing before that packet, and then nothing before the first credit
abbrev pub ended_after : Side → Option (Option Bool) → Entry → Option (Option Bool)
ended_after side ended (Turn slot a_on b_on) = None
ended_after side None (Air sender channel octets fate verdict) = Some None
ended_after side (Some ended) (Air sender channel octets fate verdict) = Some ended
ended_after side ended (Up other octets) = if is_side other side && is_credit octets then option_map with_credit ended else ended
ended_after side ended (Shut other link reason) = if is_side other side then option_map with_shut ended else ended
ended_after side ended entry = ended

abbrev pub ended_of : Side → List Entry → Option (Option Bool)
ended_of side journal = fold (ended_after side) None journal

-- it has shut none
abbrev pub IsUnended : Side → List Entry → Type 0
IsUnended side journal = ended_of side journal ≡ Some (Some true) → ⊥

pub record IsPast (ended : Option (Option Bool)) : Type 0 where
  pub since : Option Bool
  pub is : ended ≡ Some since

-- both begin with that packet, and with the first credit
abbrev AreTogether : Option (List ℕ) → Option (Option Bool) → Type 0
AreTogether None ended = ended ≡ None
AreTogether (Some []) ended = ended ≡ Some None
AreTogether (Some (handle ∷ handles)) ended = IsPast ended

together_credit : (test : Bool) (handle : ℕ) (handles : Option (List ℕ)) (ended : Option (Option Bool)) → AreTogether handles ended
    → AreTogether (if test then option_map (λ some. some ++ handle ∷ []) handles else handles) (if test then option_map with_credit ended else ended)
together_credit false handle handles ended is = is
together_credit true handle None ended is = ap (option_map with_credit) is
together_credit true handle (Some []) ended is = record { since = Some false; is = ap (option_map with_credit) is }
together_credit true handle (Some (one ∷ handles)) ended is = record { since = with_credit is.since; is = ap (option_map with_credit) is.is }

together_shut : (test : Bool) (handles : Option (List ℕ)) (ended : Option (Option Bool)) → AreTogether handles ended
    → AreTogether handles (if test then option_map with_shut ended else ended)
together_shut false handles ended is = is
together_shut true None ended is = ap (option_map with_shut) is
together_shut true (Some []) ended is = ap (option_map with_shut) is
together_shut true (Some (handle ∷ handles)) ended is = record { since = with_shut is.since; is = ap (option_map with_shut) is.is }

together_after : (side : Side) (entry : Entry) (handles : Option (List ℕ)) (ended : Option (Option Bool)) → AreTogether handles ended
    → AreTogether (handles_after side handles entry) (ended_after side ended entry)
together_after side (Turn slot a_on b_on) handles ended is = refl
together_after side (Air sender channel octets fate verdict) None None is = refl
together_after side (Air sender channel octets fate verdict) None (Some since) is = absurd cc
together_after side (Air sender channel octets fate verdict) (Some []) None is = absurd cc
together_after side (Air sender channel octets fate verdict) (Some (handle ∷ handles)) None is = absurd (let h : None ≡ Some is.since = is.is in absurd cc)
together_after side (Air sender channel octets fate verdict) (Some handles) (Some since) is = is
together_after side (Up other octets) handles ended is = together_credit (is_side other side && is_credit octets) (credit_handle octets) handles ended is
together_after side (Shut other link reason) handles ended is = together_shut (is_side other side) handles ended is
together_after side entry handles ended is = is

together_from : (side : Side) (entries : List Entry) (handles : Option (List ℕ)) (ended : Option (Option Bool)) → AreTogether handles ended
    → AreTogether (fold (handles_after side) handles entries) (fold (ended_after side) ended entries)
together_from side [] handles ended is = is
together_from side (entry ∷ entries) handles ended is =
    together_from side entries (handles_after side handles entry) (ended_after side ended entry) (together_after side entry handles ended is)

together_of : (side : Side) (journal : List Entry) → AreTogether (handles_of side journal) (ended_of side journal)
together_of side journal = together_from side journal None None refl

-- before the first credit there is none
pub unended_first : (side : Side) (journal : List Entry) → some_handles (handles_of side journal) ≡ [] → IsUnended side journal
unended_first side journal none = by (handles_of side journal) (ended_of side journal) none (together_of side journal)
  where
    by : (handles : Option (List ℕ)) (ended : Option (Option Bool)) → some_handles handles ≡ [] → AreTogether handles ended → ended ≡ Some (Some true) → ⊥
    by None ended none is on = absurd (let h : None ≡ Some (Some true) = sym is ∙ on in absurd cc)
    by (Some []) ended none is on = absurd (let h : Some None ≡ Some (Some true) = sym is ∙ on in absurd cc)
    by (Some (handle ∷ handles)) ended none is on = absurd cc

-- after that packet there is one, or there was no credit yet
pub is_past : (side : Side) (journal : List Entry) (handles : List ℕ) → handles_of side journal ≡ Some handles → IsPast (ended_of side journal)
is_past side journal handles are = by (handles_of side journal) (ended_of side journal) are (together_of side journal)
  where
    by : (found : Option (List ℕ)) (ended : Option (Option Bool)) → found ≡ Some handles → AreTogether found ended → IsPast ended
    by None ended are is = absurd cc
    by (Some []) ended are is = record { since = None; is = is }
    by (Some (handle ∷ more)) ended are is = is

ended_event : (side : Side) (history : List Event) (event : Event)
    → ended_of side (journal_of (history ++ event ∷ [])) ≡ fold (ended_after side) (ended_of side (journal_of history)) (entries_of (links_of history) event)
ended_event side history event =
    ap (ended_of side) (journal_event history event) ∙ fold-append (ended_after side) None (journal_of history) (entries_of (links_of history) event)

unended_credit : (test : Bool) (ended : Option (Option Bool)) → (if test then option_map with_credit ended else ended) ≡ Some (Some true) → ended ≡ Some (Some true)
unended_credit false ended on = on
unended_credit true None on = absurd cc
unended_credit true (Some None) on = absurd (let h : Some (Some false) ≡ Some (Some true) = on in absurd cc)
unended_credit true (Some (Some shut)) on = on

-- a packet to a host shuts none
pub unended_up : (side : Side) (station : ℕ) (packet : ArrayVec ℕ) (history : List Event) → IsUnended side (journal_of history)
    → IsUnended side (journal_of (history ++ Noted station (UpNote packet) ∷ []))
unended_up side station packet history none = λ on.
    none (unended_credit (is_side (side_of station) side && is_credit packet.items) (ended_of side (journal_of history))
    (sym (ended_event side history (Noted station (UpNote packet))) ∙ on))

-- no side has a credit after that packet yet
abbrev pub HaveNone : List Event → Type 0
HaveNone history = (side : Side) → some_handles (handles_at side history) ≡ []

no_front : (xs ys : List Note) → AreNoCredits (xs ++ ys) → AreNoCredits xs
no_front [] ys none = tt
no_front (x ∷ xs) ys none = (none.0, no_front xs ys none.1)

no_back : (xs ys : List Note) → AreNoCredits (xs ++ ys) → AreNoCredits ys
no_back [] ys none = none
no_back (x ∷ xs) ys none = no_back xs ys none.1

-- octets of a host come, and turns begin, before the first packet of a turn
abbrev pub IsBeforePackets : List Event → Type 0
IsBeforePackets history = (side : Side) → handles_at side history ≡ None

abbrev pub FitsCall : List Event → Step → Type 0
FitsCall history (HostOctet octet) = IsBeforePackets history
FitsCall history (TurnBegins slot on) = IsBeforePackets history
FitsCall history step = ⊤

-- the event of a link that was shut in the note before
pub record IsReported (station : ℕ) (history : List Event) (octets : List ℕ) : Type 0 where
  pub before : List Event
  pub handle : ℕ
  pub reason : ErrCode
  pub is : history ≡ before ++ Noted station (ShutNote handle reason) ∷ []
  pub octets_are : octets ≡ written (DisconnectionComplete 0x00 handle reason.0)

module _ (Few Fit : Type 0) where
  -- before the first packet of the turn it is of one packet; after it, where handles fit into two octets, it is above all
  -- handles before it
  abbrev pub Fits : Option (List ℕ) → List ℕ → Type 0
  Fits None octets = credit_count octets ≡ 1
  Fits (Some handles) octets = Few → AllByRecursion (λ handle. handle < credit_handle octets) handles

  pub record HasPlace (side : Side) (front : List Entry) (octets : List ℕ) : Type 0 where
    pub fits : Fits (handles_of side front) octets
    -- before that packet it comes as its side is fed
    pub fed : handles_of side front ≡ None → is_being_fed side front ≡ true
    -- where counts fit into two octets, it is of at least one packet
    pub some : Fit → 0 < credit_count octets
    -- after that packet it comes before its side shuts a link
    pub unended : IsUnended side front

  -- a packet to the host that is no credit comes before all credits of its side after that packet, or reports the end of
  -- the link that its station has just shut
  pub record IsFit (station : ℕ) (history : List Event) (octets : List ℕ) : Type 0 where
    pub credit : is_credit octets ≡ true → HasPlace (side_of station) (journal_of history) octets
    pub other : is_credit octets ≡ false → (some_handles (handles_at (side_of station) history) ≡ []) ⊎ IsReported station history octets

  -- and what is neither a packet to a host nor the end of a link before those of both sides
  abbrev pub FitsNote : ℕ → List Event → Note → Type 0
  FitsNote station history (UpNote packet) = IsFit station history packet.items
  FitsNote station history (ShutNote handle reason) = ⊤
  FitsNote station history note = HaveNone history

  abbrev pub CreditsFit : List Event → Event → Type 0
  CreditsFit history (Noted station note) = FitsNote station history note
  CreditsFit history (Called station step) = FitsCall history step
  CreditsFit history (TurnBegan slot radios) = ⊤
  CreditsFit history (HostFed station octets) = HaveNone history
  CreditsFit history (Transmitted station channel octets hearings) = HaveNone history

  no_credit : (station : ℕ) (history : List Event) (octets : List ℕ) → is_credit octets ≡ false → some_handles (handles_at (side_of station) history) ≡ []
      → IsFit station history octets
  no_credit station history octets none first = record {
    credit = λ is. absurd (let h : false ≡ true = sym none ∙ is in absurd cc);
    other = λ is. inl first;
  }

  quiet_fits : (station : ℕ) (history : List Event) (note : Note) → IsNoCredit note → HaveNone history → FitsNote station history note
  quiet_fits station history (UpNote packet) none first = no_credit station history packet.items none (first (side_of station))
  quiet_fits station history (ShutNote handle reason) none first = tt
  quiet_fits station history note none first = first

  pub quiet_each : (station : ℕ) (notes : List Note) (history : List Event) → AreNoCredits notes → HaveNone history → Each CreditsFit history (map (Noted station) notes)
  quiet_each station [] history none first = tt
  quiet_each station (note ∷ notes) history none first = (
    quiet_fits station history note none.0 first,
    quiet_each station notes (history ++ Noted station note ∷ []) none.1 (λ side. ap some_handles (noted_quiet side station history note none.0) ∙ first side),
  )

  early_fits : (station : ℕ) (history : List Event) (note : Note) → ((side : Side) → handles_at side history ≡ None)
      → is_being_fed (side_of station) (journal_of history) ≡ true → IsOfOctet note → FitsNote station history note
  early_fits station history (UpNote packet) early fed one = record {
    credit = λ is. let count = one.1 is in record {
      fits = subst (λ handles. Fits handles packet.items) (sym (early (side_of station))) count;
      fed = λ none. fed;
      some = λ fit. omega (arith, count);
      unended = unended_first (side_of station) (journal_of history) (ap some_handles (early (side_of station)));
    };
    other = λ is. inl (ap some_handles (early (side_of station)));
  }
  early_fits station history (ShutNote handle reason) early fed one = tt
  early_fits station history note early fed one = λ side. ap some_handles (early side)

  pub early_each : (station : ℕ) (notes : List Note) (history : List Event) → ((side : Side) → handles_at side history ≡ None)
      → is_being_fed (side_of station) (journal_of history) ≡ true → AllByRecursion IsOfOctet notes → Each CreditsFit history (map (Noted station) notes)
  early_each station [] history early fed ones = tt
  early_each station (note ∷ notes) history early fed ones = (
    early_fits station history note early fed ones.0,
    early_each station notes (history ++ Noted station note ∷ []) (λ side. noted_early side station history note (early side))
        (fed_noted station history note fed ones.0) ones.1,
  )

  -- what is noted of links that end as a turn ends
  ended_each : (station : ℕ) (view : View) (handle reason : ℕ) (history : List Event)
      → AreNoCredits (notes_of_events view (DisconnectionComplete 0 handle reason ∷ []))
      → Each CreditsFit (history ++ Noted station (note_shut handle reason) ∷ []) (map (Noted station) (notes_of_events view (DisconnectionComplete 0 handle reason ∷ [])))
  ended_each station view handle reason history none = by (passes view (mask_bit_of event)) none
    where
      event : HostEvent
      event = DisconnectionComplete 0 handle reason

      packets : Bool → List Note
      packets passed = map (λ one. UpNote (record { items = written one })) (cond passed (event ∷ []) [])

      by : (passed : Bool) → AreNoCredits (packets passed)
          → Each CreditsFit (history ++ Noted station (note_shut handle reason) ∷ []) (map (Noted station) (packets passed))
      by false none = tt
      by true none = (
        record {
          credit = λ is. absurd (let h : false ≡ true = sym none.0 ∙ is in absurd cc);
          other = λ is. inr (record { before = history; handle = handle; reason = record { 0 = reason }; is = refl; octets_are = refl });
        },
        tt,
      )

  pub leaving_each : (station : ℕ) (view : View) (ended : List LinkEnded) (history : List Event) → AreNoCredits (flat_map (notes_ended view) ended)
      → Each CreditsFit history (map (Noted station) (flat_map (notes_ended view) ended))
  leaving_each station view [] history none = tt
  leaving_each station view (one ∷ ended) history none =
      let notes = notes_ended view one in
      let more = flat_map (notes_ended view) ended in
      subst (Each CreditsFit history) (sym (map_both station notes more))
      (each_append CreditsFit history (map (Noted station) notes) (map (Noted station) more)
      (tt, ended_each station view one.handle one.reason.0 history (no_front notes more none).1)
      (leaving_each station view ended (history ++ map (Noted station) notes) (no_back notes more none)))

  -- ---- the credits as a turn ends

  -- the data that its host receives first
  pub pieces_each : (station : ℕ) (pieces : List (ℕ × Piece)) (history : List Event) → some_handles (handles_at (side_of station) history) ≡ []
      → Each CreditsFit history (map (Noted station) (map note_received pieces))
  pieces_each station [] history first = tt
  pieces_each station (piece ∷ pieces) history first = (
    no_credit station history (acl_packet piece) refl first,
    pieces_each station pieces (history ++ Noted station (note_received piece) ∷ [])
        (ap some_handles (noted_quiet (side_of station) station history (note_received piece) refl) ∙ first),
  )

  module _ (station : ℕ) (view : View) where
    abbrev pub Ascend : List Event → ℕ → Links → Type 0
    Ascend history first links = Each CreditsFit history (map (Noted station) (notes_of_events view (map event_completed (completed_from first links))))

    pub ascend : (first : ℕ) (links : Links) (history : List Event) (handles : List ℕ) → handles_at (side_of station) history ≡ Some handles
        → IsUnended (side_of station) (journal_of history) → (Few → AllByRecursion (λ handle. handle < first) handles) → (Few → first + length links ≤ 65536)
        → (Fit → EachOpen (λ link. complete_in link ≤ 65535) links) → Ascend history first links
    ascend first [] history handles are unended less room fits = tt
    ascend first (None ∷ links) history handles are unended less room fits =
        ascend (first + 1) links history handles are unended (λ few. less_more first handles (less few)) (λ few. let below = room few in omega (arith, below)) (λ fit. (fits fit).1)
    ascend first (Some link ∷ links) history handles are unended less room fits =
        by (complete_in link) (λ fit. (fits fit).0)
        (ascend (first + 1) links history handles are unended (λ few. less_more first handles (less few)) (λ few. let below = room few in omega (arith, below)) (λ fit. (fits fit).1))
        (λ count. ascend (first + 1) links (history ++ Noted station (note_of first count) ∷ []) (handles ++ credit_handle (written (CompletedPackets first count)) ∷ [])
        (noted_credit station first count history handles are) (unended_up (side_of station) station _ history unended)
        (λ few. subst (λ n. AllByRecursion (λ handle. handle < first + 1) (handles ++ n ∷ []))
        (sym (handle_held first count (let below = room few in omega (arith, below)))) (less_push first handles (less few)))
        (λ few. let below = room few in omega (arith, below)) (λ fit. (fits fit).1))
      where
        by : (complete : ℕ) → (Fit → complete ≤ 65535) → Ascend history (first + 1) links → ((count : ℕ) → Ascend (history ++ Noted station (note_of first count) ∷ []) (first + 1) links)
            → Each CreditsFit history (map (Noted station) (notes_of_events view (map event_completed (completed_by first complete ++ completed_from (first + 1) links))))
        by zero most none one = none
        by (suc count) most none one = (
          record {
            credit = λ is. record {
              fits = subst (λ some. Fits some (written (CompletedPackets first (suc count)))) (sym are)
                  (λ few. subst (λ n. AllByRecursion (λ handle. handle < n) handles)
                  (sym (handle_held first (suc count) (let below = room few in omega (arith, below)))) (less few));
              fed = λ none. absurd (let h : None ≡ Some handles = sym none ∙ are in absurd cc);
              some = λ fit. count_held first (suc count) (most fit) (omega arith);
              unended = unended;
            };
            other = λ is. absurd (let h : false ≡ true = sym is ∙ is_one first (suc count) in absurd cc);
          },
          one (suc count),
        )

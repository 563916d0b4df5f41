-- Whether a packet of a side answers one that it heard in the same turn, in a journal that grows.
use Rattle.std.proofs.Common.{◌≡◌, ℕ, zero, suc, ◌==◌, ◌⊎◌, inl, inr, ◌&&◌, ◌||◌, not, Bool, true, false, List, [], ◌∷◌, ◌++◌, refl, sym, ap, subst, ◌∙◌, append-nil, append_assoc}
use Rattle.std.specs.Prelude.{fold, map}
use Rattle.std.proofs.Math.Bool.{or-false}
use Rattle.std.proofs.lemmas.List.Sums.{fold-append}
use Rattle.ble_base.specs.Side.{other_side}
use Rattle.ble_base.specs.declared.notes.Note.{Note}
use Rattle.ble_base.specs.declared.notes.Note.TheVariants.{Up}
use Rattle.ble_base.specs.declared.roles.Side.{Side}
use Rattle.radio_replay.specs.declared.fates.Fate.{Fate}
use Rattle.journal_links.specs.controller_model.Step.{Step, HostOctet}
use Rattle.journal_links.specs.controller_model.Side.{notes_after}
use Rattle.journal_links.specs.run_model.History.{Event, TurnBegan, HostFed, Called, Noted, Transmitted, Hearing, fates_used, has_received, is_good}
use Rattle.journal_links.specs.run_model.Journal.{air_entries, entries_of, entry_of, journal_of, side_of}
use Rattle.journal_links.specs.run_model.Links.{is_advertising, links_of}
use Rattle.journal_links.specs.run_model.Run.{Given, setup_at, facts_at, after_call, after_octets, after_feed, fate_at, hearing_at, hearings_from, hearings_of, others_than}
use Rattle.journal_links.proofs.run_model.Parts.{journal_event}
use Rattle.journal_packets.specs.Belonging.{asked_after, have_one_access, is_answer, is_side}

-- ---- an event more

-- a packet of the other station with the access address of these octets was heard in the turn
abbrev pub is_asked : List Event → ℕ → List ℕ → Bool
is_asked history station octets = is_answer (journal_of history) (side_of station) octets

asked_event : (history : List Event) (event : Event) (station : ℕ) (octets : List ℕ)
    → is_asked (history ++ event ∷ []) station octets ≡ fold (asked_after (side_of station) octets) (is_asked history station octets) (entries_of (links_of history) event)
unfolding is_answer
asked_event history event station octets =
    ap (fold (asked_after (side_of station) octets) false) (journal_event history event)
    ∙ fold-append (asked_after (side_of station) octets) false (journal_of history) (entries_of (links_of history) event)

note_asked : (side other : Side) (octets : List ℕ) (asked : Bool) (link_of : ℕ → ℕ) (last : ℕ) (note : Note)
    → asked_after side octets asked (entry_of other link_of last note) ≡ asked
note_asked side other octets asked link_of last (Up packet) = or-false asked
note_asked side other octets asked link_of last note = or-false asked

pub asked_turn : (history : List Event) (slot : ℕ) (radios : List Bool) (station : ℕ) (octets : List ℕ) → is_asked (history ++ TurnBegan slot radios ∷ []) station octets ≡ false
asked_turn history slot radios station octets = asked_event history (TurnBegan slot radios) station octets

-- ---- what is no packet

pub asked_fed : (history : List Event) (other : ℕ) (fed : List ℕ) (station : ℕ) (octets : List ℕ) → is_asked (history ++ HostFed other fed ∷ []) station octets ≡ is_asked history station octets
asked_fed history other fed station octets = asked_event history (HostFed other fed) station octets ∙ or-false (is_asked history station octets)

asked_noted : (history : List Event) (other : ℕ) (note : Note) (station : ℕ) (octets : List ℕ) → is_asked (history ++ Noted other note ∷ []) station octets ≡ is_asked history station octets
asked_noted history other note station octets =
    asked_event history (Noted other note) station octets
    ∙ note_asked (side_of station) (side_of other) octets (is_asked history station octets) ((links_of history).link_of other) ((links_of history).last_of other) note

asked_notes : (history : List Event) (other : ℕ) (notes : List Note) (station : ℕ) (octets : List ℕ)
    → is_asked (history ++ map (Noted other) notes) station octets ≡ is_asked history station octets
asked_notes history other [] station octets = ap (λ h. is_asked h station octets) (append-nil history)
asked_notes history other (note ∷ notes) station octets =
    ap (λ h. is_asked h station octets) (sym (append_assoc history (Noted other note ∷ []) (map (Noted other) notes)))
    ∙ asked_notes (history ++ Noted other note ∷ []) other notes station octets ∙ asked_noted history other note station octets

pub asked_called : (given : Given) (other : ℕ) (step : Step) (history : List Event) (station : ℕ) (octets : List ℕ)
    → is_asked (after_call given other step history) station octets ≡ is_asked history station octets
asked_called given other step history station octets =
    let notes = notes_after (setup_at given other) (facts_at given other history) step in
    ap (λ h. is_asked h station octets) (sym (append_assoc history (Called other step ∷ []) (map (Noted other) notes)))
    ∙ asked_notes (history ++ Called other step ∷ []) other notes station octets ∙ asked_event history (Called other step) station octets

asked_octets : (given : Given) (other : ℕ) (fed : List ℕ) (history : List Event) (station : ℕ) (octets : List ℕ)
    → is_asked (after_octets given other fed history) station octets ≡ is_asked history station octets
asked_octets given other [] history station octets = refl
asked_octets given other (octet ∷ fed) history station octets =
    asked_octets given other fed (after_call given other (HostOctet octet) history) station octets ∙ asked_called given other (HostOctet octet) history station octets

pub asked_feed : (given : Given) (other : ℕ) (fed : List ℕ) (history : List Event) (station : ℕ) (octets : List ℕ)
    → is_asked (after_feed given other fed history) station octets ≡ is_asked history station octets
asked_feed given other [] history station octets = refl
asked_feed given other (octet ∷ fed) history station octets =
    asked_octets given other (octet ∷ fed) (history ++ HostFed other (octet ∷ fed) ∷ []) station octets ∙ asked_fed history other (octet ∷ fed) station octets

-- ---- a packet of one of two stations

abbrev pub other_of : ℕ → ℕ
other_of zero = 1
other_of (suc station) = 0

pub one_hearing : (given : Given) → given.stations ≡ 0 ∷ 1 ∷ [] → (fates : List Fate) (sender channel : ℕ) (octets : List ℕ) (history : List Event) → (sender ≡ 0) ⊎ (sender ≡ 1)
    → hearings_of given fates sender channel octets history ≡ hearing_at given (fate_at fates (fates_used history)) channel octets history (other_of sender) ∷ []
one_hearing given are fates sender channel octets history one =
    ap (λ xs. hearings_from given fates (fates_used history) channel octets history (others_than sender xs)) are ∙ by one
  where
    by : (sender ≡ 0) ⊎ (sender ≡ 1) → hearings_from given fates (fates_used history) channel octets history (others_than sender (0 ∷ 1 ∷ []))
        ≡ hearing_at given (fate_at fates (fates_used history)) channel octets history (other_of sender) ∷ []
    by (inl is) = subst (λ n. hearings_from given fates (fates_used history) channel octets history (others_than n (0 ∷ 1 ∷ []))
        ≡ hearing_at given (fate_at fates (fates_used history)) channel octets history (other_of n) ∷ []) (sym is) refl
    by (inr is) = subst (λ n. hearings_from given fates (fates_used history) channel octets history (others_than n (0 ∷ 1 ∷ []))
        ≡ hearing_at given (fate_at fates (fates_used history)) channel octets history (other_of n) ∷ []) (sym is) refl

other_test : (sender station : ℕ) → (sender ≡ 0) ⊎ (sender ≡ 1) → (station ≡ 0) ⊎ (station ≡ 1) → is_side (side_of sender) (other_side (side_of station)) ≡ (station == other_of sender)
other_test sender station (inl is) (inl is_too) = subst (λ m. is_side (side_of m) (other_side (side_of station)) ≡ (station == other_of m)) (sym is)
    (subst (λ n. is_side (side_of 0) (other_side (side_of n)) ≡ (n == 1)) (sym is_too) refl)
other_test sender station (inl is) (inr is_too) = subst (λ m. is_side (side_of m) (other_side (side_of station)) ≡ (station == other_of m)) (sym is)
    (subst (λ n. is_side (side_of 0) (other_side (side_of n)) ≡ (n == 1)) (sym is_too) refl)
other_test sender station (inr is) (inl is_too) = subst (λ m. is_side (side_of m) (other_side (side_of station)) ≡ (station == other_of m)) (sym is)
    (subst (λ n. is_side (side_of 1) (other_side (side_of n)) ≡ (n == 0)) (sym is_too) refl)
other_test sender station (inr is) (inr is_too) = subst (λ m. is_side (side_of m) (other_side (side_of station)) ≡ (station == other_of m)) (sym is)
    (subst (λ n. is_side (side_of 1) (other_side (side_of n)) ≡ (n == 0)) (sym is_too) refl)

-- it asks where the station received it on a data channel
abbrev pub asks_in : ℕ → ℕ → List ℕ → List Hearing → List ℕ → Bool
asks_in station channel sent hearings octets = has_received station hearings && (not (is_advertising channel) && have_one_access sent octets)

air_test : (other data_channel same good : Bool) → (((other && data_channel) && same) && good) ≡ (((other && good) || false) && (data_channel && same))
air_test false data_channel same good = refl
air_test true true true true = refl
air_test true true true false = refl
air_test true true false true = refl
air_test true true false false = refl
air_test true false same true = refl
air_test true false same false = refl

air_asked : (asked : Bool) (sender station channel : ℕ) (sent octets : List ℕ) (hearings : List Hearing) (hearing : Hearing) → (sender ≡ 0) ⊎ (sender ≡ 1) → (station ≡ 0) ⊎ (station ≡ 1)
    → hearing.listener ≡ other_of sender → hearings ≡ hearing ∷ []
    → fold (asked_after (side_of station) octets) asked (air_entries (side_of sender) channel sent hearings) ≡ (asked || asks_in station channel sent hearings octets)
air_asked asked sender station channel sent octets hearings hearing one two listener are =
    ap (λ xs. fold (asked_after (side_of station) octets) asked (air_entries (side_of sender) channel sent xs)) are
    ∙ ap (λ b. asked || (((b && not (is_advertising channel)) && have_one_access sent octets) && is_good hearing.verdict))
    (other_test sender station one two ∙ ap (λ n. station == n) (sym listener))
    ∙ ap (λ b. asked || b) (air_test (station == hearing.listener) (not (is_advertising channel)) (have_one_access sent octets) (is_good hearing.verdict))
    ∙ ap (λ xs. asked || asks_in station channel sent xs octets) (sym are)

pub asked_packet : (given : Given) → given.stations ≡ 0 ∷ 1 ∷ [] → (fates : List Fate) (sender channel : ℕ) (sent : List ℕ) (history : List Event) (station : ℕ) (octets : List ℕ)
    → (sender ≡ 0) ⊎ (sender ≡ 1) → (station ≡ 0) ⊎ (station ≡ 1)
    → is_asked (history ++ Transmitted sender channel sent (hearings_of given fates sender channel sent history) ∷ []) station octets
    ≡ (is_asked history station octets || asks_in station channel sent (hearings_of given fates sender channel sent history) octets)
asked_packet given are fates sender channel sent history station octets one two =
    let hearings = hearings_of given fates sender channel sent history in
    asked_event history (Transmitted sender channel sent hearings) station octets
    ∙ air_asked (is_asked history station octets) sender station channel sent octets hearings (hearing_at given (fate_at fates (fates_used history)) channel sent history (other_of sender))
    one two refl (one_hearing given are fates sender channel sent history one)

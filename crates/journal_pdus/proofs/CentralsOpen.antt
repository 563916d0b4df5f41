-- In every run of two stations, each link that begins is opened at its central before the next turn.
use Rattle.std.proofs.Common.{◌≡◌, ℕ, zero, suc, ◌+◌, ◌-◌, ◌<◌, ◌==◌, ◌⊎◌, inl, inr, ◌&&◌, ◌||◌, Bool, true, false, Option, Some, None, List, [], ◌∷◌, ◌++◌, length, refl, sym, ap, subst, ◌∙◌, append-nil, append_assoc, arith}
use Rattle.std.specs.Prelude.{map, take, slice_get, if◌then◌else◌}
use Rattle.std.proofs.lemmas.Bool.{eqb-true, false_from_ne_true, or_left, or_right}
use Rattle.std.proofs.lemmas.List.Folds.{list_any-append}
use Rattle.ble_base.specs.declared.addresses.Address.{Address}
use Rattle.ble_base.specs.declared.notes.Note.{Note}
use Rattle.ble_base.specs.declared.notes.Note.TheVariants.{Opened}
use Rattle.ble_base.specs.declared.roles.Side.{Side}
use Rattle.adv_pdu.specs.declared.pdu.AdvPdu.{AdvPdu}
use Rattle.adv_pdu.specs.declared.pdu.AdvPdu.TheVariants.{Connect}
use Rattle.adv_pdu.specs.declared.pdu.ConnectFields.{ConnectFields}
use Rattle.journal_moves.specs.journal_wants.journal_sending.journal_data.link_model.declared.setup.LinkSetup.{LinkSetup}
use Rattle.journal.specs.declared.entries.Entry.{Entry}
use Rattle.journal.specs.declared.entries.Entry.TheVariants.{Fed, Turn}
use Rattle.radio_replay.specs.declared.fates.Fate.{Fate}
use Rattle.journal_moves.specs.journal_wants.journal_sending.controller_model.declared.doing.Doing.{Doing}
use Rattle.journal_moves.specs.journal_wants.journal_sending.controller_model.declared.doing.Doing.TheVariants.{Advertises, Connects}
use Rattle.journal_moves.proofs.journal_wants.journal_sending.controller_model.DataChannels.{link_channel}
use Rattle.journal_moves.specs.journal_wants.journal_sending.controller_model.Facts.{Facts, Sends}
use Rattle.journal_moves.specs.journal_wants.journal_sending.controller_model.Packets.{pdu_heard, use_of}
use Rattle.journal_moves.specs.journal_wants.journal_sending.controller_model.Side.{facts_of, notes_after}
use Rattle.journal_moves.specs.journal_wants.journal_sending.controller_model.Step.{Step, HostOctet, TurnBegins, TurnEnds}
use Rattle.journal_moves.specs.journal_wants.journal_sending.run_model.Feeding.{AreDistinct}
use Rattle.journal_moves.specs.journal_wants.journal_sending.run_model.History.{Event, TurnBegan, HostFed, Called, Noted, Transmitted, Hearing, has_received, packet_received}
use Rattle.journal_moves.specs.journal_wants.journal_sending.run_model.Journal.{entries_of, entry_of, journal_of, radio_in, side_of}
use Rattle.journal_moves.specs.journal_wants.journal_sending.run_model.LinkEnds.{HaveAddresses}
use Rattle.journal_moves.specs.journal_wants.journal_sending.run_model.Links.{Links, begins_link, is_advertising, is_connect_ind, links_after, links_noted, links_of, with_link}
use Rattle.journal_moves.specs.journal_wants.journal_sending.run_model.OnAir.{ends_phase}
use Rattle.journal_moves.specs.journal_wants.journal_sending.run_model.Readers.{turns_of}
use Rattle.journal_moves.specs.journal_wants.journal_sending.run_model.Run.{Given, GoesOn, after_call, after_feed, after_octets, facts_at, hearings_of, history_of, octets_left, run_of}
use Rattle.journal_moves.specs.journal_wants.journal_sending.run_model.Run.{setup_at, step_of, use_at}
use Rattle.journal_moves.proofs.journal_wants.journal_sending.run_model.EntryEvents.{is_of_event}
use Rattle.journal_moves.proofs.journal_wants.journal_sending.run_model.LinkEnds.{AreTaken, IsUnderstood, deaf_by}
use Rattle.journal_moves.proofs.journal_wants.journal_sending.run_model.LinksKnown.{links_event}
use Rattle.journal_moves.proofs.journal_wants.journal_sending.run_model.OpenedNotes.{is_opened, made_is_noted, opens_under}
use Rattle.journal_moves.proofs.journal_wants.journal_sending.run_model.Parts.{journal_event}
use Rattle.journal_moves.proofs.journal_wants.journal_sending.run_model.Stations.{is_in, among, in_more_other, in_more_same, not_before}
use Rattle.journal_moves.proofs.journal_wants.journal_sending.run_model.Walk.{Place, NoTurn, AtFeeds, AtBegins, AfterPhases, AtPackets, AtListening, AtEnds, IsKept}
use Rattle.journal_moves.proofs.journal_wants.journal_sending.journal_data.run_laws.ConnectInds.{no_advertising}
use Rattle.journal_moves.proofs.journal_wants.journal_sending.journal_data.run_laws.Hearings.{other_facts, use_sent_at}
use Rattle.journal_moves.proofs.journal_wants.journal_sending.journal_data.run_laws.SentPackets.{IsUseSent, Says}
use Rattle.journal_moves.proofs.journal_wants.journal_sending.journal_data.run_laws.TurnPlaces.{event_past}
use Rattle.journal_moves.specs.journal_wants.journal_sending.journal_links.Begun.{LinkBegun, begun_by, begun_in, link_numbered, links_begun, with_number}
use Rattle.journal_moves.proofs.journal_wants.journal_sending.journal_links.LinksBegun.{links_more, note_begins}
use Rattle.journal_moves.proofs.journal_wants.journal_sending.journal_packets.SentLinks.{begun_are_sent, is_answered, number_sent}
use Rattle.journal_moves.proofs.journal_wants.journal_sending.journal_packets.SoFar.{IsBelongingSoFar, belonging_first, belonging_kept}
use Rattle.journal_moves.proofs.journal_wants.journal_sending.journal_acks.Seen.{IsSeen, seen_last, seen_turn}
use Rattle.journal_moves.proofs.journal_wants.journal_sending.journal_acks.TwoStations.{IsOfTwo, one_hearing, same_number, side_same}
use Rattle.journal_hearings.proofs.LinksOpened.{turn_event}
use Rattle.journal_pdus.specs.OpenedLinks.{AllAreOpenedByThen, AreOpened, is_opened_by, opens}

-- ---- no link begins

-- the links are the same, those that are opened stay so, and each station has the same last link
record IsQuiet (history after : List Event) : Type 0 where
  links : links_begun (journal_of after) ≡ links_begun (journal_of history)
  opened : (side : Side) (number : ℕ) → is_opened_by side number (journal_of history) ≡ true → is_opened_by side number (journal_of after) ≡ true
  last : (station : ℕ) → (links_of after).last_of station ≡ (links_of history).last_of station

quiet_none : (history : List Event) → IsQuiet history history
quiet_none history = record { links = refl; opened = λ side number is. is; last = λ station. refl }

quiet_then : (first second third : List Event) → IsQuiet first second → IsQuiet second third → IsQuiet first third
quiet_then first second third one next = record {
  links = next.links ∙ one.links;
  opened = λ side number is. next.opened side number (one.opened side number is);
  last = λ station. next.last station ∙ one.last station;
}

stays_opened : (side : Side) (number : ℕ) (front more : List Entry) → is_opened_by side number front ≡ true → is_opened_by side number (front ++ more) ≡ true
stays_opened side number front more is =
    list_any-append (opens side number) front more ∙ or_left (is_opened_by side number front) (is_opened_by side number more) is

event_opened : (history : List Event) (event : Event) (side : Side) (number : ℕ) → is_opened_by side number (journal_of history) ≡ true
    → is_opened_by side number (journal_of (history ++ event ∷ [])) ≡ true
event_opened history event side number is =
    ap (is_opened_by side number) (journal_event history event) ∙ stays_opened side number (journal_of history) (entries_of (links_of history) event) is

no_entry : (front : List Entry) → links_begun (front ++ []) ≡ links_begun front
no_entry front = ap links_begun (append-nil front)

links_entry : (front : List Entry) (entry : Entry) → links_begun (front ++ entry ∷ []) ≡ links_begun front ++ begun_in front entry
links_entry front entry =
    links_more front (entry ∷ []) ∙ ap (λ links. links_begun front ++ links) (append-nil (begun_in front entry))

one_entry : (front : List Entry) (entry : Entry) → begun_in front entry ≡ [] → links_begun (front ++ entry ∷ []) ≡ links_begun front
one_entry front entry none =
    links_entry front entry ∙ ap (λ links. links_begun front ++ links) none ∙ append-nil (links_begun front)

same_last : (station : ℕ) (note : Note) (links : Links) (other : ℕ) → (links_noted station note links).last_of other ≡ links.last_of other
same_last station (Opened handle role own peer) links other = refl
same_last station note links other = refl

quiet_noted : (history : List Event) (station : ℕ) (note : Note) → IsQuiet history (history ++ Noted station note ∷ [])
quiet_noted history station note = record {
  links = ap links_begun (journal_event history (Noted station note))
      ∙ one_entry (journal_of history) (entry_of (side_of station) ((links_of history).link_of station) ((links_of history).last_of station) note)
      (note_begins (journal_of history) (side_of station) ((links_of history).link_of station) ((links_of history).last_of station) note);
  opened = event_opened history (Noted station note);
  last = λ other. ap (λ (links : Links). links.last_of other) (links_event history (Noted station note)) ∙ same_last station note (links_of history) other;
}

quiet_notes : (history : List Event) (station : ℕ) (notes : List Note) → IsQuiet history (history ++ map (Noted station) notes)
quiet_notes history station [] = subst (IsQuiet history) (sym (append-nil history)) (quiet_none history)
quiet_notes history station (note ∷ notes) =
    subst (IsQuiet history) (append_assoc history (Noted station note ∷ []) (map (Noted station) notes))
    (quiet_then history (history ++ Noted station note ∷ []) _ (quiet_noted history station note) (quiet_notes (history ++ Noted station note ∷ []) station notes))

quiet_called : (history : List Event) (station : ℕ) (step : Step) → IsQuiet history (history ++ Called station step ∷ [])
quiet_called history station step = record {
  links = ap links_begun (journal_event history (Called station step)) ∙ no_entry (journal_of history);
  opened = event_opened history (Called station step);
  last = λ other. ap (λ (links : Links). links.last_of other) (links_event history (Called station step));
}

quiet_call : (given : Given) (station : ℕ) (step : Step) (history : List Event) → IsQuiet history (after_call given station step history)
quiet_call given station step history =
    let notes = notes_after (setup_at given station) (facts_at given station history) step in
    subst (IsQuiet history) (append_assoc history (Called station step ∷ []) (map (Noted station) notes))
    (quiet_then history (history ++ Called station step ∷ []) _ (quiet_called history station step) (quiet_notes (history ++ Called station step ∷ []) station notes))

quiet_octets : (given : Given) (station : ℕ) (octets : List ℕ) (history : List Event) → IsQuiet history (after_octets given station octets history)
quiet_octets given station [] history = quiet_none history
quiet_octets given station (octet ∷ octets) history =
    quiet_then history (after_call given station (HostOctet octet) history) _ (quiet_call given station (HostOctet octet) history)
    (quiet_octets given station octets (after_call given station (HostOctet octet) history))

quiet_fed : (history : List Event) (station : ℕ) (octets : List ℕ) → IsQuiet history (history ++ HostFed station octets ∷ [])
quiet_fed history station octets = record {
  links = ap links_begun (journal_event history (HostFed station octets)) ∙ one_entry (journal_of history) (Fed (side_of station) octets) refl;
  opened = event_opened history (HostFed station octets);
  last = λ other. ap (λ (links : Links). links.last_of other) (links_event history (HostFed station octets));
}

quiet_feed : (given : Given) (station : ℕ) (octets : List ℕ) (history : List Event) → IsQuiet history (after_feed given station octets history)
quiet_feed given station [] history = quiet_none history
quiet_feed given station (octet ∷ octets) history =
    quiet_then history (history ++ HostFed station (octet ∷ octets) ∷ []) _ (quiet_fed history station (octet ∷ octets))
    (quiet_octets given station (octet ∷ octets) (history ++ HostFed station (octet ∷ octets) ∷ []))

quiet_turn : (history : List Event) (slot : ℕ) (radios : List Bool) → IsQuiet history (history ++ TurnBegan slot radios ∷ [])
quiet_turn history slot radios = record {
  links = ap links_begun (journal_event history (TurnBegan slot radios))
      ∙ one_entry (journal_of history) (Turn slot (radio_in 0 radios) (Some (radio_in 1 radios))) refl;
  opened = event_opened history (TurnBegan slot radios);
  last = λ other. ap (λ (links : Links). links.last_of other) (links_event history (TurnBegan slot radios));
}

-- a station is to send, or sends, the CONNECT_IND of a link
record IsConnecting (given : Given) (history : List Event) (station : ℕ) : Type 0 where
  channel : ℕ
  link : LinkSetup
  doing : (facts_at given station history).turn.doing ≡ Connects channel link
  sent_on : ℕ
  octets : List ℕ
  wanted : use_at given station history ≡ Sends sent_on octets

-- ---- a link that a station notes as opened

note_opens : (station handle : ℕ) (history : List Event) (note : Note) → opens_under handle note ≡ true
    → is_opened_by (side_of station) ((links_of history).last_of station) (journal_of (history ++ Noted station note ∷ [])) ≡ true
note_opens station handle history (Opened other role own peer) opens_it =
    let number = (links_of history).last_of station in
    ap (is_opened_by (side_of station) number) (journal_event history (Noted station (Opened other role own peer)))
    ∙ list_any-append (opens (side_of station) number) (journal_of history) _
    ∙ or_right (is_opened_by (side_of station) number (journal_of history)) _
    (ap (λ b. (b && (number == number)) || false) (side_same station) ∙ ap (λ b. b || false) (same_number number))
note_opens station handle history note opens_it = absurd cc

notes_open : (station handle : ℕ) (notes : List Note) (history : List Event) → is_opened handle notes ≡ true
    → is_opened_by (side_of station) ((links_of history).last_of station) (journal_of (history ++ map (Noted station) notes)) ≡ true
notes_open station handle [] history is = absurd cc
notes_open station handle (note ∷ notes) history is =
    by (opens_under handle note) refl is (λ some. notes_open station handle notes (history ++ Noted station note ∷ []) some)
  where
    next : List Event
    next = history ++ Noted station note ∷ []

    number : ℕ
    number = (links_of history).last_of station

    split : next ++ map (Noted station) notes ≡ history ++ map (Noted station) (note ∷ notes)
    split = append_assoc history (Noted station note ∷ []) (map (Noted station) notes)

    by : (one : Bool) → opens_under handle note ≡ one → (one || is_opened handle notes) ≡ true
        → (is_opened handle notes ≡ true → is_opened_by (side_of station) ((links_of next).last_of station) (journal_of (next ++ map (Noted station) notes)) ≡ true)
        → is_opened_by (side_of station) number (journal_of (history ++ map (Noted station) (note ∷ notes))) ≡ true
    by true opens_it some rest =
        ap (λ events. is_opened_by (side_of station) number (journal_of events)) (sym split)
        ∙ (quiet_notes next station notes).opened (side_of station) number (note_opens station handle history note opens_it)
    by false none some rest =
        ap (λ events. is_opened_by (side_of station) number (journal_of events)) (sym split)
        ∙ ap (λ n. is_opened_by (side_of station) n (journal_of (next ++ map (Noted station) notes))) (sym ((quiet_noted history station note).last station))
        ∙ rest some

-- a station that made a link opens it in the call after its CONNECT_IND
made_opens : (given : Given) (station : ℕ) (step : Step) (history : List Event) → ends_phase step ≡ true → IsConnecting given history station
    → is_opened_by (side_of station) ((links_of history).last_of station) (journal_of (after_call given station step history)) ≡ true
made_opens given station step history ends connects =
    let setup = setup_at given station in
    let facts = facts_at given station history in
    let notes = notes_after setup facts step in
    let called = history ++ Called station step ∷ [] in
    ap (λ events. is_opened_by (side_of station) ((links_of history).last_of station) (journal_of events)) (sym (append_assoc history (Called station step ∷ []) (map (Noted station) notes)))
    ∙ ap (λ number. is_opened_by (side_of station) number (journal_of (called ++ map (Noted station) notes))) (sym ((quiet_called history station step).last station))
    ∙ notes_open station connects.link.handle notes called (made_is_noted setup facts step connects.channel connects.link ends connects.doing)

-- ---- at each place

-- its CONNECT_IND is on the air, and its link is not opened yet
abbrev WaitsAt : Given → Place → List Event → ℕ → Type 0
WaitsAt given (AtPackets phases done left) history station = (is_in station done ≡ true) × IsConnecting given history station
WaitsAt given (AtListening phases done left) history station = (is_in station done ≡ false) × IsConnecting given history station
WaitsAt given place history station = ⊥

record IsWaiting (given : Given) (place : Place) (history : List Event) (side : Side) (number : ℕ) : Type 0 where
  station : ℕ
  is_one : is_in station given.stations ≡ true
  side_is : side ≡ side_of station
  number_is : number ≡ (links_of history).last_of station
  waits : WaitsAt given place history station

abbrev IsOpenOr : Given → Place → List Event → Type 0
IsOpenOr given place history = (number : ℕ) (link : LinkBegun) → link_numbered number (journal_of history) ≡ Some link
    → (is_opened_by link.central number (journal_of history) ≡ true) ⊎ IsWaiting given place history link.central number

record AreOpenSoFar (given : Given) (place : Place) (history : List Event) : Type 0 where
  so_far : IsBelongingSoFar given place history
  open_or : IsOpenOr given place history

-- a step that begins no link
open_on : (given : Given) (place next : Place) (history after : List Event) → IsQuiet history after
    → ((side : Side) (number : ℕ) → IsWaiting given place history side number
    → (is_opened_by side number (journal_of after) ≡ true) ⊎ IsWaiting given next after side number)
    → IsOpenOr given place history → IsOpenOr given next after
open_on given place next history after quiet goes_on are = λ number link is. by link number (are number link (sym (ap (with_number number) quiet.links) ∙ is))
  where
    by : (link : LinkBegun) (number : ℕ) → (is_opened_by link.central number (journal_of history) ≡ true) ⊎ IsWaiting given place history link.central number
        → (is_opened_by link.central number (journal_of after) ≡ true) ⊎ IsWaiting given next after link.central number
    by link number (inl opened) = inl (quiet.opened link.central number opened)
    by link number (inr waits) = goes_on link.central number waits

-- where none waits
open_plain : (given : Given) (place next : Place) (history after : List Event) → ((station : ℕ) → WaitsAt given place history station → ⊥) → IsQuiet history after
    → IsOpenOr given place history → IsOpenOr given next after
open_plain given place next history after none quiet are =
    open_on given place next history after quiet (λ side number waiting. absurd (none waiting.station waiting.waits)) are

-- a station that waits stays so while its facts do
connecting_same : (given : Given) (station : ℕ) (history after : List Event) → facts_at given station after ≡ facts_at given station history
    → IsConnecting given history station → IsConnecting given after station
connecting_same given station history after same connects = record {
  channel = connects.channel;
  link = connects.link;
  doing = ap (λ (f : Facts). f.turn.doing) same ∙ connects.doing;
  sent_on = connects.sent_on;
  octets = connects.octets;
  wanted = ap use_of same ∙ connects.wanted;
}

in_more : (other station : ℕ) (done : List ℕ) (same : Bool) → (other == station) ≡ same → is_in other done ≡ true → is_in other (done ++ station ∷ []) ≡ true
in_more other station done true is was = in_more_same other station done is
in_more other station done false is was = in_more_other other station done is ∙ was

-- ---- a packet

-- the link of a CONNECT_IND, if a packet is one
data Begins (turns station channel : ℕ) (offered : Bool) (octets : List ℕ) : Type 0 where
  BeginsNone : begins_link channel octets ≡ false → (if is_advertising channel then begun_by (side_of station) (turns - 1) offered (pdu_heard channel octets) else []) ≡ []
      → Begins turns station channel offered octets
  BeginsOne : (from to : Address) (ch_sel : Bool) (fields : ConnectFields) → is_advertising channel ≡ true → pdu_heard channel octets ≡ Some (Connect from to ch_sel fields)
      → begins_link channel octets ≡ true
      → (if is_advertising channel then begun_by (side_of station) (turns - 1) offered (pdu_heard channel octets) else [])
      ≡ record { central = side_of station; slot = turns - 1; fields = fields; two = ch_sel && offered } ∷ [] → Begins turns station channel offered octets

begins : (turns station channel : ℕ) (offered : Bool) (octets : List ℕ) → Begins turns station channel offered octets
unfolding begins_link
begins turns station channel offered octets = by (is_advertising channel) (pdu_heard channel octets) refl refl
  where
    by : (on : Bool) (found : Option AdvPdu) → is_advertising channel ≡ on → pdu_heard channel octets ≡ found → Begins turns station channel offered octets
    by false found off is = BeginsNone (ap (λ b. b && is_connect_ind (pdu_heard channel octets)) off)
        (ap (λ b. if b then begun_by (side_of station) (turns - 1) offered (pdu_heard channel octets) else []) off)
    by true None on is = BeginsNone (ap (λ b. b && is_connect_ind (pdu_heard channel octets)) on ∙ ap is_connect_ind is)
        (ap (λ b. if b then begun_by (side_of station) (turns - 1) offered (pdu_heard channel octets) else []) on ∙ ap (begun_by (side_of station) (turns - 1) offered) is)
    by true (Some (Connect from to ch_sel fields)) on is =
        BeginsOne from to ch_sel fields on is (ap (λ b. b && is_connect_ind (pdu_heard channel octets)) on ∙ ap is_connect_ind is)
        (ap (λ b. if b then begun_by (side_of station) (turns - 1) offered (pdu_heard channel octets) else []) on ∙ ap (begun_by (side_of station) (turns - 1) offered) is)
    by true (Some other) on is = BeginsNone (ap (λ b. b && is_connect_ind (pdu_heard channel octets)) on ∙ ap is_connect_ind is)
        (ap (λ b. if b then begun_by (side_of station) (turns - 1) offered (pdu_heard channel octets) else []) on ∙ ap (begun_by (side_of station) (turns - 1) offered) is)

-- who sends a CONNECT_IND makes its link
record MakesLink (facts : Facts) : Type 0 where
  channel : ℕ
  link : LinkSetup
  doing : facts.turn.doing ≡ Connects channel link

makes_link : (facts : Facts) (doing : Doing) (from to : Address) (ch_sel : Bool) (fields : ConnectFields) → facts.turn.doing ≡ doing → Says doing (Connect from to ch_sel fields)
    → MakesLink facts
makes_link facts (Connects channel link) from to ch_sel fields is says = record { channel = channel; link = link; doing = is }
makes_link facts (Advertises channel) from to ch_sel fields is says = absurd cc
makes_link facts doing from to ch_sel fields is says = absurd cc

connects_by : IsUnderstood → (facts : Facts) (channel : ℕ) (octets : List ℕ) (from to : Address) (ch_sel : Bool) (fields : ConnectFields) → IsUseSent facts (Sends channel octets)
    → is_advertising channel ≡ true → pdu_heard channel octets ≡ Some (Connect from to ch_sel fields) → MakesLink facts
connects_by understood facts channel octets from to ch_sel fields (inl sent) on is =
    let found : Some sent.pdu ≡ Some (Connect from to ch_sel fields) = sym (ap (pdu_heard channel) sent.packet ∙ understood channel sent.pdu sent.is_pdu) ∙ is in
    let same : sent.pdu ≡ Connect from to ch_sel fields = cc in
    makes_link facts facts.turn.doing from to ch_sel fields refl (subst (Says facts.turn.doing) same sent.says)
connects_by understood facts channel octets from to ch_sel fields (inr sent) on is =
    let off = no_advertising channel (is_advertising channel) refl (subst (λ (n : ℕ). n < 37) (sym sent.channel_is) (link_channel sent.link)) in
    absurd (let h : true ≡ false = sym on ∙ off in absurd cc)

-- the link with a number, of links with one more
add_one : (n : ℕ) → suc n ≡ n + 1
add_one n = omega arith

get_push : (links : List LinkBegun) (next : LinkBegun) (place : ℕ) (link : LinkBegun) → slice_get (links ++ next ∷ []) place ≡ Some link
    → (slice_get links place ≡ Some link) ⊎ ((place ≡ length links) × (link ≡ next))
get_push [] next zero link is = inr (refl, (let same : Some next ≡ Some link = is in cc))
get_push [] next (suc place) link is = absurd cc
get_push (one ∷ links) next zero link is = inl is
get_push (one ∷ links) next (suc place) link is = elim (get_push links next place link is) [
  | inl old ↦ inl old
  | inr new ↦ inr (ap suc new.0, new.1)
]

number_push : (number : ℕ) (links : List LinkBegun) (next link : LinkBegun) → with_number number (links ++ next ∷ []) ≡ Some link
    → (with_number number links ≡ Some link) ⊎ ((number ≡ length links + 1) × (link ≡ next))
number_push zero links next link is = absurd cc
number_push (suc number) links next link is = elim (get_push links next number link is) [
  | inl old ↦ inl old
  | inr new ↦ inr (ap suc new.0 ∙ add_one (length links), new.1)
]

module _ (understood : IsUnderstood) (given : Given) (pair : IsOfTwo given) (six : HaveAddresses given) (distinct : AreDistinct given.stations) where
  module _ (phases : ℕ) (fates : List Fate) (done left : List ℕ) (station channel : ℕ) (octets : List ℕ) (history : List Event) (are : given.stations ≡ done ++ station ∷ left)
      (wanted : use_at given station history ≡ Sends channel octets) (before : AreOpenSoFar given (AtPackets phases done (station ∷ left)) history) where
    abbrev hearings : List Hearing
    hearings = hearings_of given fates station channel octets history

    abbrev event : Event
    event = Transmitted station channel octets hearings

    abbrev after : List Event
    after = history ++ event ∷ []

    abbrev next : Place
    next = AtPackets phases (done ++ station ∷ []) left

    in_it : is_in station given.stations ≡ true
    in_it = among given.stations done left station are

    out : is_in station done ≡ false
    out = not_before given.stations done left station distinct are

    same_at : (other : ℕ) → facts_at given other after ≡ facts_at given other history
    same_at other = ap (facts_of (setup_at given other)) (event_past other history event refl)

    -- the advertisement that a CONNECT_IND answers offers channel selection algorithm #2
    abbrev offered : Bool
    offered = is_answered station history

    links_now : links_begun (journal_of after)
        ≡ links_begun (journal_of history) ++ (if is_advertising channel then begun_by (side_of station) (length (turns_of (journal_of history)) - 1) offered (pdu_heard channel octets) else [])
    links_now =
        ap links_begun (journal_event history event
        ∙ ap (λ hears. journal_of history ++ entries_of (links_of history) (Transmitted station channel octets hears)) (one_hearing given pair fates station channel octets history in_it))
        ∙ links_entry (journal_of history) _

    last_now : (other : ℕ) → (links_of after).last_of other ≡ (links_after (links_of history) event).last_of other
    last_now other = ap (λ (links : Links). links.last_of other) (links_event history event)

    last_if : (begun : Bool) (other : ℕ) → begins_link channel octets ≡ begun
        → (if begun then with_link station hearings (links_of history) else links_of history).last_of other ≡ (links_of after).last_of other
    last_if begun other is = ap (λ b. (if b then with_link station hearings (links_of history) else links_of history).last_of other) (sym is) ∙ sym (last_now other)

    -- another station that waits for its call
    still_waits : (side : Side) (number : ℕ) → IsWaiting given (AtPackets phases done (station ∷ left)) history side number → IsWaiting given next after side number
    still_waits side number waiting =
        let other = waiting.station in
        let differs = false_from_ne_true (other == station) (λ same.
        let h : true ≡ false = sym waiting.waits.0 ∙ ap (λ n. is_in n done) (eqb-true other station same) ∙ out in absurd cc) in
        let connects = waiting.waits.1 in
        let deaf = deaf_by given fates station channel octets history other connects.sent_on connects.octets connects.wanted (has_received other hearings) refl in record {
          station = other;
          is_one = waiting.is_one;
          side_is = waiting.side_is;
          number_is = waiting.number_is ∙ kept_last other differs deaf;
          waits = (in_more other station done (other == station) refl waiting.waits.0, connecting_same given other history after (same_at other) connects);
        }
      where
        kept_last : (other : ℕ) → (other == station) ≡ false → has_received other hearings ≡ false → (links_of history).last_of other ≡ (links_of after).last_of other
        kept_last other differs deaf = by (begins_link channel octets) refl
          where
            by : (begun : Bool) → begins_link channel octets ≡ begun → (links_of history).last_of other ≡ (links_of after).last_of other
            by false is = last_if false other is
            by true is =
                sym (ap (λ b. if b || has_received other hearings then (links_of history).begun + 1 else (links_of history).last_of other) differs
                ∙ ap (λ b. if b then (links_of history).begun + 1 else (links_of history).last_of other) deaf)
                ∙ last_if true other is

    old_link : (number : ℕ) (link : LinkBegun) → link_numbered number (journal_of history) ≡ Some link
        → (is_opened_by link.central number (journal_of after) ≡ true) ⊎ IsWaiting given next after link.central number
    old_link number link is = elim (before.open_or number link is) [
      | inl opened ↦ inl (event_opened history event link.central number opened)
      | inr waits ↦ inr (still_waits link.central number waits)
    ]

    -- the sender waits from there on
    new_waits : (from to : Address) (ch_sel : Bool) (fields : ConnectFields) → is_advertising channel ≡ true → pdu_heard channel octets ≡ Some (Connect from to ch_sel fields)
        → begins_link channel octets ≡ true → (number : ℕ) → number ≡ length (links_begun (journal_of history)) + 1 → IsWaiting given next after (side_of station) number
    new_waits from to ch_sel fields on says begun number number_is =
        let sent = use_sent_at given six (AtPackets phases done (station ∷ left)) history before.so_far.asked.hearing.stand station in_it channel octets wanted in
        let of = connects_by understood (facts_at given station history) channel octets from to ch_sel fields sent on says in
        let count = ap length (begun_are_sent history before.so_far.asked.sent) ∙ sym (number_sent history) in
        let last = ap (λ b. if b || has_received station hearings then (links_of history).begun + 1 else (links_of history).last_of station) (same_number station) in record {
          station = station;
          is_one = in_it;
          side_is = refl;
          number_is = number_is ∙ ap (λ n. n + 1) count ∙ sym last ∙ last_if true station begun;
          waits = (
            in_more_same station station done (same_number station),
            connecting_same given station history after (same_at station) (record {
              channel = of.channel;
              link = of.link;
              doing = of.doing;
              sent_on = channel;
              octets = octets;
              wanted = wanted;
            }),
          );
        }

    packet_open : IsOpenOr given next after
    packet_open number link is = by (begins (length (turns_of (journal_of history))) station channel offered octets)
      where
        by : Begins (length (turns_of (journal_of history))) station channel offered octets
            → (is_opened_by link.central number (journal_of after) ≡ true) ⊎ IsWaiting given next after link.central number
        by (BeginsNone none empty) =
            old_link number link (ap (with_number number) (sym (links_now ∙ ap (λ xs. links_begun (journal_of history) ++ xs) empty ∙ append-nil (links_begun (journal_of history)))) ∙ is)
        by (BeginsOne from to ch_sel fields on says begun one) =
            elim (number_push number (links_begun (journal_of history)) _ link
            (ap (with_number number) (sym (links_now ∙ ap (λ xs. links_begun (journal_of history) ++ xs) one)) ∙ is)) [
              | inl old ↦ old_link number link old
              | inr new ↦ inr (subst (λ (l : LinkBegun). IsWaiting given next after l.central number) (sym new.1)
                  (new_waits from to ch_sel fields on says begun number new.0))
            ]

  -- ---- a call in a phase

  module _ (phases : ℕ) (done left : List ℕ) (station : ℕ) (step : Step) (history : List Event) (are : given.stations ≡ done ++ station ∷ left) (ends : ends_phase step ≡ true)
      (before : IsOpenOr given (AtListening phases done (station ∷ left)) history) where
    abbrev called : List Event
    called = after_call given station step history

    call_open : IsOpenOr given (AtListening phases (done ++ station ∷ []) left) called
    call_open =
        open_on given (AtListening phases done (station ∷ left)) (AtListening phases (done ++ station ∷ []) left) history called (quiet_call given station step history) goes_on before
      where
        goes_on : (side : Side) (number : ℕ) → IsWaiting given (AtListening phases done (station ∷ left)) history side number
            → (is_opened_by side number (journal_of called) ≡ true) ⊎ IsWaiting given (AtListening phases (done ++ station ∷ []) left) called side number
        goes_on side number waiting = by (waiting.station == station) refl
          where
            by : (same : Bool) → (waiting.station == station) ≡ same
                → (is_opened_by side number (journal_of called) ≡ true) ⊎ IsWaiting given (AtListening phases (done ++ station ∷ []) left) called side number
            by true same =
                let equal = eqb-true waiting.station station same in
                let opened = made_opens given station step history ends (subst (IsConnecting given history) equal waiting.waits.1) in
                inl (ap (λ s. is_opened_by s number (journal_of called)) (waiting.side_is ∙ ap side_of equal)
                ∙ ap (λ n. is_opened_by (side_of station) n (journal_of called)) (waiting.number_is ∙ ap (λ m. (links_of history).last_of m) equal) ∙ opened)
            by false differs = inr (record {
              station = waiting.station;
              is_one = waiting.is_one;
              side_is = waiting.side_is;
              number_is = waiting.number_is ∙ sym ((quiet_call given station step history).last waiting.station);
              waits = (
                in_more_other waiting.station station done differs ∙ waiting.waits.0,
                connecting_same given waiting.station history called (other_facts given station step history waiting.station differs) waiting.waits.1,
              );
            })

  -- ---- in a run

  ends_heard : (received : Option (List ℕ)) → ends_phase (step_of received) ≡ true
  ends_heard None = refl
  ends_heard (Some octets) = refl

  module _ (taken : AreTaken) where
    open_kept : IsKept given (AreOpenSoFar given)
    open_kept = let kept = belonging_kept understood taken given pair six in record {
      on_turn = λ slot plan history begun at is. record {
        so_far = kept.on_turn slot plan history begun at is.so_far;
        open_or = open_plain given NoTurn (AtFeeds [] given.stations) history _ (λ station waits. waits) (quiet_turn history slot (map plan.radio_of given.stations)) is.open_or;
      };
      on_feed = λ plan done left station history are some now is. record {
        so_far = kept.on_feed plan done left station history are some now is.so_far;
        open_or = open_plain given (AtFeeds done (station ∷ left)) (AtFeeds (done ++ station ∷ []) left) history _ (λ other waits. waits)
            (quiet_feed given station (take (plan.feed_of station) (octets_left given station history)) history) is.open_or;
      };
      on_fed = λ history is. record {
        so_far = kept.on_fed history is.so_far;
        open_or = open_plain given (AtFeeds given.stations []) (AtBegins [] given.stations) history history (λ other waits. waits) (quiet_none history) is.open_or;
      };
      on_begin = λ slot plan done left station history are due is. record {
        so_far = kept.on_begin slot plan done left station history are due is.so_far;
        open_or = open_plain given (AtBegins done (station ∷ left)) (AtBegins (done ++ station ∷ []) left) history _ (λ other waits. waits)
            (quiet_call given station (TurnBegins slot (plan.radio_of station)) history) is.open_or;
      };
      on_begun = λ history is. record {
        so_far = kept.on_begun history is.so_far;
        open_or = open_plain given (AtBegins given.stations []) (AfterPhases 0) history history (λ other waits. waits) (quiet_none history) is.open_or;
      };
      on_phase = λ phases history few is. record {
        so_far = kept.on_phase phases history few is.so_far;
        open_or = open_plain given (AfterPhases phases) (AtPackets phases [] given.stations) history history (λ other waits. waits) (quiet_none history) is.open_or;
      };
      on_silence = λ phases done left station history are none is. record {
        so_far = kept.on_silence phases done left station history are none is.so_far;
        open_or = open_on given (AtPackets phases done (station ∷ left)) (AtPackets phases (done ++ station ∷ []) left) history history (quiet_none history)
            (λ side number waiting. inr (record {
              station = waiting.station;
              is_one = waiting.is_one;
              side_is = waiting.side_is;
              number_is = waiting.number_is;
              waits = (in_more waiting.station station done (waiting.station == station) refl waiting.waits.0, waiting.waits.1);
            })) is.open_or;
      };
      on_packet = λ phases plan done left station channel octets history are some due is. record {
        so_far = kept.on_packet phases plan done left station channel octets history are some due is.so_far;
        open_or = packet_open phases plan.fates done left station channel octets history are due.is_wanted is;
      };
      on_air = λ phases history is. record {
        so_far = kept.on_air phases history is.so_far;
        open_or = open_on given (AtPackets phases given.stations []) (AtListening phases [] given.stations) history history (quiet_none history)
            (λ side number waiting. inr (record {
              station = waiting.station;
              is_one = waiting.is_one;
              side_is = waiting.side_is;
              number_is = waiting.number_is;
              waits = (refl, waiting.waits.1);
            })) is.open_or;
      };
      on_hearing = λ phases done left station history are some is. record {
        so_far = kept.on_hearing phases done left station history are some is.so_far;
        open_or = call_open phases done left station (step_of (packet_received station history)) history are (ends_heard (packet_received station history)) is.open_or;
      };
      on_heard = λ phases history is. record {
        so_far = kept.on_heard phases history is.so_far;
        open_or = open_on given (AtListening phases given.stations []) (AfterPhases (suc phases)) history history (quiet_none history)
            (λ side number waiting. absurd (let h : true ≡ false = sym waiting.is_one ∙ waiting.waits.0 in absurd cc)) is.open_or;
      };
      on_phases = λ history is. record {
        so_far = kept.on_phases history is.so_far;
        open_or = open_plain given (AfterPhases 3) (AtEnds [] given.stations) history history (λ other waits. waits) (quiet_none history) is.open_or;
      };
      on_end = λ done left station history are some is. record {
        so_far = kept.on_end done left station history are some is.so_far;
        open_or = open_plain given (AtEnds done (station ∷ left)) (AtEnds (done ++ station ∷ []) left) history _ (λ other waits. waits)
            (quiet_call given station TurnEnds history) is.open_or;
      };
      on_ended = λ history is. record {
        so_far = kept.on_ended history is.so_far;
        open_or = open_plain given (AtEnds given.stations []) NoTurn history history (λ other waits. waits) (quiet_none history) is.open_or;
      };
    }

    open_first : AreOpenSoFar given NoTurn []
    unfolding links_begun journal_of
    open_first = record { so_far = belonging_first given; open_or = λ number link is. no_number number link _ is }
      where
        no_number : (number : ℕ) (link : LinkBegun) (X : Type 0) → with_number number [] ≡ Some link → X
        no_number zero link X is = absurd cc
        no_number (suc number) link X is = absurd cc

    all_open : (history : List Event) → AreOpenSoFar given NoTurn history → AreOpened (journal_of history)
    all_open history is = λ number link is_link. elim (is.open_or number link is_link) [
      | inl opened ↦ opened
      | inr waiting ↦ absurd waiting.waits
    ]

    sees : IsSeen given (AreOpenSoFar given) (λ history. AreOpened (journal_of history)) (λ history station channel octets. Unit {0})
    sees = record { turn = all_open; packet = λ phases done left station channel octets history are wanted is. tt }

    pub opened_lines : AllAreOpenedByThen (journal_of (history_of (run_of given)))
    opened_lines = λ front rest slot a_on b_on is.
        let one = is_of_event (history_of (run_of given)) front rest (Turn slot a_on b_on) is in
        let turn = turn_event (links_of one.before) one.event slot a_on b_on one.entry_is in
        subst AreOpened (sym one.front_is)
        (seen_turn given (AreOpenSoFar given) open_kept (λ history. AreOpened (journal_of history)) (λ history station channel octets. Unit {0}) sees open_first
        one.before one.after turn.slot turn.radios (one.is_at ∙ ap (λ event. one.before ++ event ∷ one.after) turn.is))

    pub opened_last : (history : List Event) → run_of given ≡ GoesOn history → AreOpened (journal_of history)
    opened_last history goes =
        seen_last given (AreOpenSoFar given) open_kept (λ history. AreOpened (journal_of history)) (λ history station channel octets. Unit {0}) sees open_first history goes

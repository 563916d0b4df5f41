-- The event that an open end entered last, by the lines of its side: its number, and its anchor by the indications in
-- force.
use Rattle.std.proofs.Common.{◌≡◌, ℕ, zero, suc, ◌+◌, ◌-◌, ◌≤◌, Bool, true, false, Some, List, [], ◌∷◌, ◌++◌, map, refl, sym, ap, ◌∙◌, arith}
use Rattle.std.specs.Prelude.{slice_get, take, if◌then◌else◌}
use Rattle.std.specs.List.{flat_map}
use Rattle.std.specs.Str.{bytes_eq}
use Rattle.std.proofs.lemmas.Bool.{and_parts, ltb-true}
use Rattle.ble_base.specs.declared.roles.Side.{Side}
use Rattle.ble_base.specs.declared.roles.Side.TheVariants.{A, B}
use Rattle.air_frame.specs.Packet.{access_octets}
use Rattle.instants.specs.declared.track.Change.{Change}
use Rattle.instants.specs.Parameters.{anchor_in as anchor_by}
use Rattle.instants.specs.Track.{TrackFacts}
use Rattle.journal.specs.declared.entries.Entry.{Entry}
use Rattle.link_changes.specs.InForce.{HasRanges}
use Rattle.link_changes.specs.Noted.{changes_noted}
use Rattle.link_changes.proofs.Alike.{Alike, alike_changes, alike_more, alike_silent, alike_then}
use Rattle.link_changes.proofs.Entries.{past_follows}
use Rattle.journal_acks.specs.controller_model.Facts.{Facts, Setup}
use Rattle.journal_acks.specs.controller_model.Links.{note_opened}
use Rattle.journal_acks.specs.controller_model.Since.{notes_opened_on}
use Rattle.journal_acks.proofs.controller_model.Exchanges.{always_in_event}
use Rattle.journal_acks.specs.link_model.End.{notes_of as end_notes_of}
use Rattle.journal_acks.specs.link_model.Facts.{Facts as EndFacts}
use Rattle.journal_acks.specs.link_model.Setup.{Setup as EndSetup, first_anchor, first_params}
use Rattle.journal_acks.specs.link_model.Step.{PacketSent, Step as EndStep}
use Rattle.journal_acks.specs.open_links.OpenLinks.{OpenLink, facts_in, link_after}
use Rattle.journal_acks.specs.run_model.Feeding.{AreDistinct}
use Rattle.journal_acks.specs.run_model.History.{Event, past_of}
use Rattle.journal_acks.specs.run_model.Journal.{journal_of, side_of}
use Rattle.journal_acks.specs.run_model.Run.{Given, facts_at, history_of, run_of, setup_at}
use Rattle.journal_acks.proofs.run_model.LinkEnds.{AreTaken}
use Rattle.journal_acks.proofs.run_model.Stations.{is_in}
use Rattle.journal_acks.proofs.run_model.Walk.{Place}
use Rattle.journal_acks.proofs.run_laws.OpenSteps.{open_has}
use Rattle.journal_acks.proofs.run_laws.OwnLinks.{sent_begins}
use Rattle.journal_acks.proofs.run_laws.TurnPlaces.{stands_in_run, turned}
use Rattle.journal_acks.proofs.link_calls.Exchanging.{sender_entered}
use Rattle.journal_acks.specs.journal_links.Begun.{LinkBegun, link_numbered, links_begun}
use Rattle.journal_acks.specs.journal_links.Changes.{changes_of, note_said, notes_said, role_by}
use Rattle.journal_acks.specs.journal_links.Entered.{anchor_in}
use Rattle.journal_acks.specs.journal_links.LinkLines.{AreLinesOf, line_of, lines_of}
use Rattle.journal_acks.specs.journal_links.Opened.{central_side}
use Rattle.journal_acks.proofs.journal_links.ChangesAt.{role_is}
use Rattle.journal_acks.proofs.journal_links.Ranges.{values_in_range}
use Rattle.journal_acks.proofs.journal_links.SaidLines.{other_silent, said, said_alike}
use Rattle.journal_acks.specs.journal_packets.Belonging.{first_number, fits, is_side}
use Rattle.journal_acks.specs.journal_packets.Senders.{IsOfSendersLink}
use Rattle.journal_acks.specs.EventOrder.{entered_on}
use Rattle.journal_acks.proofs.Counting.{AreKnown, IsBegun}
use Rattle.journal_acks.proofs.EntryLines.{count_read}
use Rattle.journal_acks.proofs.EntryNotes.{end_numbered}
use Rattle.journal_acks.proofs.Exchanging.{number_at}
use Rattle.journal_acks.proofs.Standing.{sends_on}
use Rattle.journal_slots.proofs.ExchangeSlots.{AreInExchanges, IsOnTrack, exchanges_first, exchanges_kept}

-- ---- the central of the link with a number

same_side : (one other : Side) → is_side one other ≡ true → one ≡ other
same_side A A is = refl
same_side B B is = refl
same_side A B is = absurd cc
same_side B A is = absurd cc

module _ (central : Side) (octets : List ℕ) where
  not_before : (first number : ℕ) (links : List LinkBegun) → first_number central octets first links ≡ Some number → first ≤ number
  not_before first number [] is = absurd cc
  not_before first number (link ∷ links) is = by (fits central octets link) is (not_before (first + 1) number links)
    where
      by : (one : Bool) → (if one then Some first else first_number central octets (first + 1) links) ≡ Some number
          → (first_number central octets (first + 1) links ≡ Some number → first + 1 ≤ number) → first ≤ number
      by true found later = let same : Some first ≡ Some number = found in let equal : first ≡ number = cc in omega (arith, equal)
      by false found later = let more = later found in omega (arith, more)

  one_later : (first count : ℕ) → first + suc count ≡ first + 1 + count
  one_later first count = omega arith

  central_found : (first count : ℕ) (links : List LinkBegun) (link : LinkBegun) → first_number central octets first links ≡ Some (first + count)
      → slice_get links count ≡ Some link → is_side link.central central ≡ true
  central_found first count [] link is at = absurd cc
  central_found first zero (one ∷ links) link is at = by (fits central octets one) refl is
    where
      by : (fit : Bool) → fits central octets one ≡ fit → (if fit then Some first else first_number central octets (first + 1) links) ≡ Some (first + 0)
          → is_side link.central central ≡ true
      by true own found =
          let found_at : Some one ≡ Some link = at in
          let same : one ≡ link = cc in
          ap (λ (l : LinkBegun). is_side l.central central) (sym same)
          ∙ (and_parts (is_side one.central central) (bytes_eq (take 4 octets) (access_octets one.fields.access)) own).0
      by false own later = absurd (let more = not_before (first + 1) (first + 0) links later in omega (arith, more))
  central_found first (suc count) (one ∷ links) link is at = by (fits central octets one) is (λ later. central_found (first + 1) count links link later at)
    where
      by : (fit : Bool) → (if fit then Some first else first_number central octets (first + 1) links) ≡ Some (first + suc count)
          → (first_number central octets (first + 1) links ≡ Some (first + 1 + count) → is_side link.central central ≡ true) → is_side link.central central ≡ true
      by true found more =
          absurd (let same : Some first ≡ Some (first + suc count) = found in let equal : first ≡ first + suc count = cc in omega (arith, equal))
      by false found more = more (found ∙ ap Some (one_later first count))

  one_and : (count : ℕ) → suc count ≡ 1 + count
  one_and count = omega arith

  central_of_number : (number : ℕ) (journal : List Entry) (link : LinkBegun) → first_number central octets 1 (links_begun journal) ≡ Some number
      → link_numbered number journal ≡ Some link → link.central ≡ central
  central_of_number zero journal link found is = absurd (let more = not_before 1 zero (links_begun journal) found in omega (arith, more))
  central_of_number (suc count) journal link found is =
      same_side link.central central (central_found 1 count (links_begun journal) link (found ∙ ap Some (one_and count)) is)

-- ---- the indications in force at an end

-- by the lines of its side they are those that it noted
changes_now : (side : Side) (number : ℕ) (link : LinkBegun) (setup : EndSetup) (past : List EndStep) (journal : List Entry) → link.central ≡ central_side setup.link.role side
    → lines_of side number journal ≡ map (line_of side number) (notes_opened_on setup past) → changes_of number link side journal ≡ changes_noted setup.link.role (end_notes_of setup past)
changes_now side number link setup past journal central lines =
    let role = setup.link.role in
    let notes = notes_opened_on setup past in
    let opened = note_opened setup.link ∷ [] in
    let own : Alike role notes (end_notes_of setup past) =
    alike_more role opened [] (end_notes_of setup past) (alike_silent role [] opened (other_silent role (note_opened setup.link) refl)) in
    ap (λ (one : Side). changes_noted (role_by one side) (notes_said side number journal)) central
    ∙ (λ i. changes_noted (role_is role side i) (flat_map note_said (lines i)))
    ∙ alike_changes role (said side number notes) (end_notes_of setup past)
    (alike_then role (said side number notes) notes (end_notes_of setup past) (said_alike side number role notes) own)

-- ---- the event that it entered last

-- its number is one less than the events that the lines say, and its slot is that of its anchor
pub record IsInItsEvent (journal : List Entry) (number : ℕ) (side : Side) (link : LinkBegun) (facts : EndFacts) : Type 0 where
  pub event : ℕ
  pub entered : entered_on side number journal ≡ event + 1
  pub anchor : facts.event.slot ≡ anchor_in link (changes_of number link side journal) event

module _ (journal : List Entry) (station number : ℕ) (link : LinkBegun) (own : OpenLink) (fields : link.fields ≡ own.setup.link.fields) (slot : link.slot ≡ own.setup.opened)
    (central : link.central ≡ central_side own.setup.link.role (side_of station)) (lines : AreLinesOf journal station number (notes_opened_on own.setup own.past))
    (ranges : HasRanges own.setup own.past) (track : IsOnTrack own) (some : 1 ≤ (facts_in own).control.track.entered) where
  abbrev t : TrackFacts
  t = (facts_in own).control.track

  anchor_begun : (changes : List Change) (event : ℕ) → anchor_by (first_anchor own.setup) (first_params own.setup.link.fields) changes event ≡ anchor_in link changes event
  anchor_begun changes event = λ i. anchor_by (sym slot i + 2 + (sym fields i).win_offset) (first_params (sym fields i)) changes event

  in_its_event : IsInItsEvent journal number (side_of station) link (facts_in own)
  in_its_event =
      let event = t.entered - 1 in
      let changes = changes_noted own.setup.link.role (end_notes_of own.setup own.past) in record {
        event = event;
        entered = count_read journal station number (notes_opened_on own.setup own.past) lines ∙ (end_numbered own.setup own.past).count ∙ omega (arith, some);
        anchor = track.anchor some ∙ (past_follows own.setup own.past (λ role. ranges) some).anchor ∙ anchor_begun changes event
            ∙ ap (λ changes. anchor_in link changes event) (sym (changes_now (side_of station) number link own.setup own.past journal central lines));
      }

-- ---- an end that sends, at a place of a run

module _ (taken : AreTaken) (given : Given) (Q : Place → List Event → Type 0) (known : AreKnown given Q) (distinct : AreDistinct given.stations) (place : Place)
    (history rest : List Event) (at : history_of (run_of given) ≡ history ++ rest) (is_known : Q place history) (station channel : ℕ) (octets : List ℕ)
    (in_it : is_in station given.stations ≡ true) (sent : IsOfSendersLink given history station channel octets) where
  abbrev sender : OpenLink
  sender = link_after (PacketSent sent.slot) sent.link

  abbrev number_here : ℕ
  number_here = number_at station sent.handle history

  abbrev setup : Setup
  setup = setup_at given station

  abbrev facts : Facts
  facts = facts_at given station history

  abbrev pub begun_as : IsBegun history number_here station sender.setup
  begun_as = known.begun place history is_known station sent.handle sender in_it sent.is_open

  central_is : begun_as.link.central ≡ central_side sender.setup.link.role (side_of station)
  central_is =
      central_of_number (central_side sender.setup.link.role (side_of station)) octets number_here (journal_of history) begun_as.link
      (known.fits place history is_known station sent.handle sender octets in_it sent.is_open
      (ap (take 4) sent.packet ∙ sent_begins sent.link.setup (facts_in sent.link))) begun_as.is_link

  on_track : IsOnTrack sender
  on_track =
      let stands = stands_in_run given history rest station distinct in_it at in
      let are = turned setup (AreInExchanges setup) (exchanges_kept setup) (past_of station history) stands.at (exchanges_first setup) stands.is in
      open_has IsOnTrack 0 sent.handle facts.links sender are.tracks sent.is_open

  sender_ranges : HasRanges sender.setup sender.past
  sender_ranges = values_in_range taken given history rest station sent.handle sender distinct in_it at sent.is_open

  pub sender_in_event : IsInItsEvent (journal_of history) number_here (side_of station) begun_as.link (facts_in sender)
  sender_in_event =
      in_its_event (journal_of history) station number_here begun_as.link sender begun_as.fields begun_as.slot central_is
      (known.lines place history is_known station sent.handle sender in_it sent.is_open) sender_ranges on_track
      (ltb-true 0 (facts_in sender).control.track.entered
      (sender_entered sent.handle facts sender (sends_on sent.handle facts.turn.doing sent.sends) (always_in_event setup (past_of station history)) sent.is_open))

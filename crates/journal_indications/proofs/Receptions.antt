-- A note of a PDU that is taken is one of those that the end of its link gives as it receives a packet.
use Rattle.std.proofs.Common.{◌≡◌, ℕ, ◌==◌, Bool, true, false, Option, Some, None, List, [], ◌∷◌, ◌++◌, fold, refl, sym, ap, subst, ◌∙◌, append_assoc}
use Rattle.std.specs.Prelude.{All, if◌then◌else◌}
use Rattle.std.specs.List.{flat_map}
use Rattle.std.proofs.lemmas.Bool.{eq-eqb}
use Rattle.std.proofs.lemmas.List.Elements.{All-append, All-from_recursion, All-head, All-tail}
use Rattle.std.proofs.lemmas.List.Sums.{fold-append}
use Rattle.arrayvec.specs.ArrayVec.{ArrayVec}
use Rattle.ble_base.specs.declared.notes.Note.{Note}
use Rattle.ble_base.specs.declared.notes.Note.TheVariants.{Enter, Took}
use Rattle.controller_model.specs.declared.doing.Doing.TheVariants.{PeripheralListens}
use Rattle.controller_model.specs.Events.{notes_of_events}
use Rattle.controller_model.specs.Facts.{Setup, Facts}
use Rattle.controller_model.specs.Heard.{events_received, has_room, link_heard, link_received, notes_taken, replies_in, reply_if}
use Rattle.controller_model.specs.Outcome.{notes_passed}
use Rattle.controller_model.specs.Packets.{notes_doing}
use Rattle.controller_model.specs.Side.{facts_of, notes_after}
use Rattle.controller_model.specs.Since.{is_under}
use Rattle.controller_model.specs.Step.{Step, HostOctet, TurnBegins, PacketHeard, NothingHeard, TurnEnds}
use Rattle.controller_model.proofs.EndNotes.{received_each}
use Rattle.controller_model.proofs.Handles.{own_handles}
use Rattle.controller_model.specs.host_view.Links.{was_encrypted}
use Rattle.link_changes.specs.Noted.{event_after}
use Rattle.journal_agreement.specs.journal_data.link_model.End.{notes_after as end_notes}
use Rattle.journal_agreement.specs.journal_data.link_model.Packets.{good_pdu}
use Rattle.journal_agreement.specs.journal_data.link_model.Receiving.{received_notes}
use Rattle.journal_agreement.specs.journal_data.link_model.Step.{PacketReceived}
use Rattle.journal_agreement.specs.journal_data.open_links.OpenLinks.{OpenLink, facts_in, link_at}
use Rattle.journal_agreement.specs.journal_data.run_model.Run.{step_of}
use Rattle.journal_agreement.proofs.journal_data.journal_acks.HandedOn.{forged_unread, judged_link}
use Rattle.journal_agreement.proofs.journal_data.journal_acks.NewPdus.{in_middle}
use Rattle.journal_agreement.proofs.journal_data.journal_acks.PhaseNotes.{IsOnLink, IsPhaseOf, IsPlainPhase, phase_of}
use Rattle.journal_agreement.proofs.journal_data.journal_acks.Worded.{link_worded, worded, worded_here}
use Rattle.run_indications.proofs.run_pairs.WordedNotes.{worded_notes}
use Rattle.journal_agreement.proofs.journal_data.journal_acks.link_calls.CallNotes.{HasNoData, TakesNone, all_more, begin_noted, doing_noted, end_noted, events_noted, none_taken, octet_noted}
use Rattle.journal_agreement.proofs.journal_data.journal_links.SaidLines.{kind_said, said_under}
use Rattle.journal_agreement.proofs.journal_data.run_model.Handing.{IsUnforged}
use Rattle.journal_agreement.proofs.journal_data.open_links.Handles.{handle_is}
use Rattle.journal_agreement.specs.journal_data.journal_acks.link_calls.Uses.{listens_under}

-- ---- lists of notes

-- a note of a PDU that is taken is not among notes that take none
not_among : (notes earlier later : List Note) (handle count llid : ℕ) (body : ArrayVec ℕ) (X : Type 0)
    → notes ≡ earlier ++ Took handle count llid body ∷ later → All TakesNone notes → X
not_among notes earlier later handle count llid body X is none =
    absurd (let h : true ≡ false = in_middle TakesNone earlier later (Took handle count llid body) (subst (All TakesNone) is none) in absurd cc)

record HasRest (notes earlier : List Note) (note : Note) : Type 0 where
  rest : List Note
  is : notes ≡ earlier ++ note ∷ rest

-- so it is among those before them
among_first : (notes more earlier later : List Note) (handle count llid : ℕ) (body : ArrayVec ℕ)
    → notes ++ more ≡ earlier ++ Took handle count llid body ∷ later → All TakesNone more → HasRest notes earlier (Took handle count llid body)
among_first [] more earlier later handle count llid body is none =
    not_among more earlier later handle count llid body (HasRest [] earlier (Took handle count llid body)) is none
among_first (note ∷ notes) more [] later handle count llid body is none =
    let same : note ≡ Took handle count llid body = cc in record { rest = notes; is = λ i. same i ∷ notes }
among_first (note ∷ notes) more (first ∷ earlier) later handle count llid body is none =
    let same : note ≡ first = cc in
    let next : notes ++ more ≡ earlier ++ Took handle count llid body ∷ later = cc in
    let found = among_first notes more earlier later handle count llid body next none in
    record { rest = found.rest; is = λ i. same i ∷ found.is i }

-- ---- what an end notes as it receives a packet

-- a note of it enters no event, and names the handle of the link
record IsOfPacket (own : ℕ) (note : Note) : Type 0 where
  still : (event : ℕ) → event_after event note ≡ event
  names : (handle count llid : ℕ) (body : ArrayVec ℕ) → note ≡ Took handle count llid body → own ≡ handle

all_of_packet : (slot : ℕ) (room : Bool) (octets : List ℕ) (link : OpenLink)
    → All (IsOfPacket link.setup.link.handle) (notes_taken slot room (Some link) octets)
all_of_packet slot room octets link =
    let own = link.setup.link.handle in
    All-from_recursion (IsOfPacket own) _
    (received_each (IsOfPacket own) link.setup slot room (good_pdu link.setup (facts_in link) octets) (facts_in link) (record {
      took = λ number llid octets. record { still = λ event. refl; names = λ handle count other body is. cc };
      refused = λ kind code. record { still = λ event. refl; names = λ handle count other body is. absurd cc };
      done = λ kind. record { still = λ event. refl; names = λ handle count other body is. absurd cc };
    }))

kind_still : (note : Note) (event : ℕ) → fold event_after event (kind_said note) ≡ event_after event note
kind_still (Enter handle at channel) event = refl
kind_still note event = refl

said_still : (own handle : ℕ) (earlier later : List Note) (event : ℕ) → All (IsOfPacket own) (earlier ++ later)
    → fold event_after event (flat_map (said_under handle) earlier) ≡ event
said_still own handle [] later event all = refl
said_still own handle (note ∷ earlier) later event all =
    by (is_under handle note) (kind_said note) (kind_still note event ∙ (All-head (IsOfPacket own) note (earlier ++ later) all).still event)
    (said_still own handle earlier later event (All-tail (IsOfPacket own) note (earlier ++ later) all))
  where
    rest : List Note
    rest = flat_map (said_under handle) earlier

    by : (under : Bool) (said : List Note) → fold event_after event said ≡ event → fold event_after event rest ≡ event
        → fold event_after event ((if under then said else []) ++ rest) ≡ event
    by true said is more = fold-append event_after event said rest ∙ ap (λ at. fold event_after at rest) is ∙ more
    by false said is more = more

-- ---- the call

-- a call that notes that a PDU of the link under a handle is taken: the packet that is heard in it, and what the end of
-- the link notes of that
pub record IsReception (setup : Setup) (facts : Facts) (step : Step) (earlier : List Note) (handle count llid : ℕ) (body : ArrayVec ℕ) : Type 0 where
  pub octets : List ℕ
  pub step_is : step ≡ PacketHeard octets
  pub link : OpenLink
  pub is_open : link_at handle facts.links ≡ Some link
  pub listens : listens_under handle facts.turn.doing ≡ true
  pub unforged : IsUnforged facts octets
  pub rest : List Note
  pub notes_are : end_notes link.setup (facts_in link) (PacketReceived facts.turn.slot octets (has_room setup facts))
      ≡ earlier ++ Took handle count llid body ∷ rest
  -- the notes before enter no event
  pub still : (event : ℕ) → fold event_after event (flat_map (said_under handle) earlier) ≡ event

-- an end notes nothing of a packet that is forged
not_forged : (facts : Facts) (handle : ℕ) (link : OpenLink) (octets : List ℕ) (room : Bool) (earlier rest : List Note) (note : Note)
    → link_at handle facts.links ≡ Some link → listens_under handle facts.turn.doing ≡ true
    → end_notes link.setup (facts_in link) (PacketReceived facts.turn.slot octets room) ≡ earlier ++ note ∷ rest → IsUnforged facts octets
not_forged facts handle link octets room earlier rest note at on is = λ forged.
    let unread = forged_unread link.setup (facts_in link) octets (sym (judged_link facts handle link octets on at) ∙ forged) in
    none_before earlier (sym is ∙ ap (λ pdu. received_notes link.setup facts.turn.slot room pdu (facts_in link)) unread)
  where
    none_before : (earlier : List Note) → earlier ++ note ∷ rest ≡ [] → ⊥
    none_before [] none = absurd cc
    none_before (one ∷ more) none = absurd cc

-- what the end of a link notes of a packet is the same where it was given words
pub same_notes : (words : Bool) (setup : Setup) (facts : Facts) (link : OpenLink) (slot : ℕ) (room : Bool) (octets : List ℕ)
    → notes_taken slot room (Some (link_worded words setup facts link)) octets ≡ notes_taken slot room (Some link) octets
same_notes true setup facts link slot room octets = worded_notes setup facts (PeripheralListens 0) link slot octets room
same_notes false setup facts link slot room octets = refl

module _ (setup : Setup) (past : List Step) (earlier later : List Note) (handle count llid : ℕ) (body : ArrayVec ℕ) where
  abbrev facts : Facts
  facts = facts_of setup past

  abbrev note : Note
  note = Took handle count llid body

  abbrev Is : Step → Type 0
  Is step = IsReception setup facts step earlier handle count llid body

  none_in : (step : Step) → notes_after setup facts step ≡ earlier ++ note ∷ later → All TakesNone (notes_after setup facts step) → Is step
  none_in step is none = not_among (notes_after setup facts step) earlier later handle count llid body (Is step) is none

  -- octets are received on a link
  module _ (octets : List ℕ) (other : ℕ) (words : Bool) (listens : (one : ℕ) → listens_under one facts.turn.doing ≡ (other == one))
      (is : notes_passed (link_heard setup other octets (worded words setup other facts)) ≡ earlier ++ note ∷ later) where
    abbrev slot : ℕ
    slot = facts.turn.slot

    abbrev room : Bool
    room = has_room setup facts

    abbrev held : Facts
    held = worded words setup other facts

    abbrev encrypted : Bool
    encrypted = was_encrypted other facts.view.links

    abbrev after_taking : Option OpenLink → List Note
    after_taking found =
        notes_of_events facts.view (events_received encrypted other slot room found octets) ++ notes_doing (reply_if (replies_in slot room found octets) other) (link_received other room octets held)

    none_after : (found : Option OpenLink) → All TakesNone (after_taking found)
    none_after found =
        All-append TakesNone (notes_of_events facts.view (events_received encrypted other slot room found octets)) _
        (events_noted TakesNone none_taken.starts.feeds facts.view (events_received encrypted other slot room found octets))
        (doing_noted TakesNone none_taken.sent (reply_if (replies_in slot room found octets) other) (link_received other room octets held))

    parts : (found : Option OpenLink) → link_at other held.links ≡ found → notes_taken slot room found octets ++ after_taking found ≡ earlier ++ note ∷ later
    parts found at =
        sym (append_assoc (notes_taken slot room found octets) (notes_of_events facts.view (events_received encrypted other slot room found octets))
        (notes_doing (reply_if (replies_in slot room found octets) other) (link_received other room octets held)))
        ∙ ap (λ place. (notes_taken slot room place octets ++ notes_of_events facts.view (events_received encrypted other slot room place octets))
        ++ notes_doing (reply_if (replies_in slot room place octets) other) (link_received other room octets held)) (sym at)
        ∙ is

    by_link : (found : Option OpenLink) → link_at other facts.links ≡ found → Is (PacketHeard octets)
    by_link None at =
        not_among (after_taking None) earlier later handle count llid body (Is (PacketHeard octets))
        (parts None (worded_here words setup other facts None at)) (none_after None)
    by_link (Some link) at =
        let base = link_worded words setup facts link in
        let found = among_first (notes_taken slot room (Some base) octets) (after_taking (Some base)) earlier later handle count llid body
        (parts (Some base) (worded_here words setup other facts (Some link) at)) (none_after (Some base)) in
        let notes = sym (same_notes words setup facts link slot room octets) ∙ found.is in
        let all = subst (All (IsOfPacket link.setup.link.handle)) notes (all_of_packet slot room octets link) in
        let own : link.setup.link.handle ≡ handle =
        (in_middle (IsOfPacket link.setup.link.handle) earlier found.rest note all).names handle count llid body refl in
        let under : link.setup.link.handle ≡ other = handle_is 0 other facts.links link (own_handles setup past).handles at in
        let same : other ≡ handle = sym under ∙ own in record {
          octets = octets;
          step_is = refl;
          link = link;
          is_open = ap (λ n. link_at n facts.links) (sym same) ∙ at;
          listens = listens handle ∙ eq-eqb other handle same;
          unforged = not_forged facts handle link octets room earlier found.rest note (ap (λ n. link_at n facts.links) (sym same) ∙ at)
              (listens handle ∙ eq-eqb other handle same) notes;
          rest = found.rest;
          notes_are = notes;
          still = λ event. said_still link.setup.link.handle handle earlier (note ∷ found.rest) event all;
        }

  -- a phase passes
  by_phase : (received : Option (List ℕ)) → notes_after setup facts (step_of received) ≡ earlier ++ note ∷ later → IsPhaseOf setup facts received
      → Is (step_of received)
  by_phase received is (IsPlainPhase deaf none) =
      none_in (step_of received) is (all_more HasNoData TakesNone (λ one plain. plain.takes) (notes_after setup facts (step_of received)) none)
  by_phase None is (IsOnLink other words octets got listens on) = absurd cc
  by_phase (Some heard_now) is (IsOnLink other words octets got listens on) =
      let same : octets ≡ heard_now = cc in
      subst (λ xs. Is (PacketHeard xs)) same
      (by_link octets other words listens (ap notes_passed (sym on) ∙ ap (λ xs. notes_after setup facts (PacketHeard xs)) same ∙ is) (link_at other facts.links) refl)

  pub reception_of : (step : Step) → notes_after setup facts step ≡ earlier ++ note ∷ later → Is step
  reception_of (HostOctet octet) is = none_in (HostOctet octet) is (octet_noted TakesNone none_taken.starts.feeds setup facts octet)
  reception_of (TurnBegins slot on) is = none_in (TurnBegins slot on) is (begin_noted TakesNone none_taken setup slot on facts)
  reception_of (PacketHeard octets) is = by_phase (Some octets) is (phase_of setup facts (Some octets))
  reception_of NothingHeard is = by_phase None is (phase_of setup facts None)
  reception_of TurnEnds is = none_in TurnEnds is (end_noted TakesNone none_taken.starts.feeds setup facts)

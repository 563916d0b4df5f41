-- The lines of a station as a turn begins, and as a link of it receives a packet, come where they are due.
use Rattle.std.proofs.Common.{◌≡◌, ℕ, ◌+◌, ◌==◌, Bool, false, Option, Some, None, List, [], ◌∷◌, ◌++◌, map, refl, sym, ap, subst, ◌∙◌, append-nil, append_assoc}
use Rattle.std.specs.Prelude.{flat_map}
use Rattle.std.proofs.lemmas.Bool.{eqb-true, false_from_ne_true}
use Rattle.std.proofs.lemmas.List.{map-append}
use Rattle.ble_base.specs.declared.notes.Note.{Note}
use Rattle.ble_base.specs.declared.roles.Side.{Side}
use Rattle.journal_controls.specs.controller_model.Entering.{notes_all_entering}
use Rattle.journal_controls.specs.controller_model.Events.{notes_of_events}
use Rattle.journal_controls.specs.controller_model.Facts.{Setup, Facts}
use Rattle.host_view.specs.Links.{was_encrypted}
use Rattle.journal_controls.specs.controller_model.Heard.{events_received, heard, link_hearing, link_received, notes_taken, replies_in, reply_if}
use Rattle.journal_controls.specs.controller_model.Links.{facts_ending, note_shut, notes_ended, notes_ending}
use Rattle.journal_controls.specs.controller_model.Outcome.{notes_passed}
use Rattle.journal_controls.specs.controller_model.Packets.{notes_doing}
use Rattle.journal_controls.specs.controller_model.Radio.{outcome_begun}
use Rattle.journal_controls.specs.controller_model.Side.{notes_after}
use Rattle.journal_controls.specs.controller_model.Step.{PacketHeard, TurnBegins}
use Rattle.journal_controls.specs.controller_model.host_view.View.{View}
use Rattle.journal_controls.specs.journal_ends.Asked.{Words}
use Rattle.journal_controls.specs.open_links.OpenLinks.{Links, OpenLink, facts_in, link_at, link_from}
use Rattle.journal_controls.specs.open_links.Turns.{due_in, ends_by, links_without, place_without, staying_by}
use Rattle.journal_controls.specs.open_links.Ended.{end_by}
use Rattle.journal_controls.proofs.controller_model.Always.{ending_is}
use Rattle.journal_controls.proofs.controller_model.EndNotes.{received_each}
use Rattle.journal_controls.proofs.controller_model.open_links.Ends.{stays_where_not_due}
use Rattle.data_pdu.specs.Header.{header_in}
use Rattle.hci_evt.specs.declared.event.Event.TheVariants.{DisconnectionComplete}
use Rattle.journal.specs.declared.entries.Entry.{Entry}
use Rattle.journal.specs.declared.entries.Entry.TheVariants.{Done, Refused, Took}
use Rattle.journal_controls.specs.journal_links.LinkLines.{line_of}
use Rattle.journal_controls.specs.link_model.End.{notes_after as end_notes}
use Rattle.journal_controls.specs.link_model.Facts.{keyed_of}
use Rattle.journal_controls.specs.link_model.Packets.{good_pdu}
use Rattle.journal_controls.specs.link_model.Receiving.{acks_control, facts_before_taking, has_acknowledged}
use Rattle.journal_controls.specs.link_model.Step.{PacketReceived}
use Rattle.journal_controls.proofs.journal_acks.link_calls.CallNotes.{doing_noted, ending_noted}
use Rattle.journal_controls.specs.run_model.Journal.{entry_of}
use Rattle.journal_controls.specs.LineSteps.{keyed_on, turn_now}
use Rattle.journal_controls.specs.LinesDue.{due_hearing}
use Rattle.journal_due.specs.EachLine.{IsDueOn}
use Rattle.journal_due.specs.ProcedureLines.{RestsAt}
use Rattle.journal_due.proofs.DueEntries.{AreAllTold, told_both}
use Rattle.journal_due.proofs.DuePhases.{plain_feeds}
use Rattle.journal_due.proofs.DuePlain.{IsPlain, plain_told}
use Rattle.journal_due.proofs.DueReceptions.{receiving_told}
use Rattle.journal_due.proofs.DueSteps.{IsOwnLine, keyed_apart}
use Rattle.journal_due.proofs.DueTurns.{AreKnownFrom, all_told, at_first, at_later, events_keep, events_told, plain_lines, same_lines}

-- a link that stays was open, and has no reason to end
record Stays (reason : OpenLink → Option ℕ) (handle : ℕ) (links : Links) (link : OpenLink) : Type 0 where
  at : link_at handle links ≡ Some link
  none : reason link ≡ None

stays_by : (reason : OpenLink → Option ℕ) (handle : ℕ) (links : Links) (link : OpenLink) → link_at handle (links_without reason links) ≡ Some link → Stays reason handle links link
stays_by reason handle links link at = by (link_at handle links) refl (sym (stays_where_not_due reason 0 handle links) ∙ at)
  where
    by : (found : Option OpenLink) → link_at handle links ≡ found → place_without reason found ≡ Some link → Stays reason handle links link
    by None is stays = absurd cc
    by (Some one) is stays = may (reason one) refl stays
      where
        may : (why : Option ℕ) → reason one ≡ why → staying_by why one ≡ Some link → Stays reason handle links link
        may None none same = let equal : one ≡ link = cc in record { at = is ∙ ap Some equal; none = ap reason (sym equal) ∙ none }
        may (Some code) none same = absurd cc

module _ (words : Words) (side : Side) (link_of : ℕ → ℕ) (last : ℕ) where
  abbrev line : Note → Entry
  line note = entry_of side link_of last note

  -- ---- links end

  shut_own : (handle code : ℕ) → IsOwnLine side (link_of handle) (line (note_shut handle code))
  shut_own handle code = record { named = refl; deaf = λ other front. refl; unaccepted = λ front. refl; own = refl; no_turn = refl }

  -- links that end leave another one
  ends_keep : (view : View) (reason : OpenLink → Option ℕ) (number first : ℕ) (links : Links) (front : List Entry)
      → ((handle code : ℕ) (link : OpenLink) → link_from first handle links ≡ Some link → reason link ≡ Some code → (link_of handle == number) ≡ false)
      → keyed_on words side number (front ++ map line (flat_map (notes_ended view) (ends_by reason first links))) ≡ keyed_on words side number front
  ends_keep view reason number first [] front apart = ap (keyed_on words side number) (append-nil front)
  ends_keep view reason number first (None ∷ links) front apart =
      ends_keep view reason number (first + 1) links front (λ handle code link at. apart handle code link (at_later first handle None links link at))
  ends_keep view reason number first (Some link ∷ links) front apart =
      by (λ next. ends_keep view reason number (first + 1) links next (λ handle code one at. apart handle code one (at_later first handle (Some link) links one at))) (reason link) refl
    where
      by : ((next : List Entry) → keyed_on words side number (next ++ map line (flat_map (notes_ended view) (ends_by reason (first + 1) links))) ≡ keyed_on words side number next)
          → (why : Option ℕ) → reason link ≡ why
          → keyed_on words side number (front ++ map line (flat_map (notes_ended view) (end_by first why ++ ends_by reason (first + 1) links))) ≡ keyed_on words side number front
      by rest None none = rest front
      by rest (Some code) some =
          let shut = line (note_shut first code) in
          let events = notes_of_events view (DisconnectionComplete 0 first code ∷ []) in
          let later = flat_map (notes_ended view) (ends_by reason (first + 1) links) in
          let next = front ++ shut ∷ [] in
          ap (λ lines. keyed_on words side number (front ++ shut ∷ lines)) (map-append line events later)
          ∙ ap (keyed_on words side number) (sym (append_assoc front (shut ∷ []) (map line events ++ map line later)))
          ∙ ap (keyed_on words side number) (sym (append_assoc next (map line events) (map line later)))
          ∙ rest (next ++ map line events)
          ∙ events_keep words side link_of last view (DisconnectionComplete 0 first code ∷ []) next number (tt, tt)
          ∙ keyed_apart words side (link_of first) number front shut (shut_own first code) (apart first code link (at_first first (Some link) links) some)

  -- what is known of the links that stay
  ending_known : (slot : ℕ) (facts : Facts) (front : List Entry) → AreKnownFrom words side link_of last 0 facts.links front
      → AreKnownFrom words side link_of last 0 (facts_ending slot facts).links (front ++ map line (notes_ending slot facts))
  ending_known slot facts front known =
      subst (λ (f : Facts). AreKnownFrom words side link_of last 0 f.links (front ++ map line (notes_ending slot facts))) (sym (ending_is slot facts)) (record {
        handles = λ handle link at. known.handles handle link (stays_by (due_in slot) handle facts.links link at).at;
        controls = λ handle link at.
            let stays = stays_by (due_in slot) handle facts.links link at in
            ends_keep facts.view (due_in slot) (link_of handle) 0 facts.links front (λ other code one is some.
            known.numbers other handle one link is stays.at (false_from_ne_true (other == handle) (λ same.
            let equal : Some one ≡ Some link = sym is ∙ ap (λ n. link_at n facts.links) (eqb-true other handle same) ∙ stays.at in
            let h : Some code ≡ None = sym some ∙ ap (due_in slot) (some_same equal) ∙ stays.none in absurd cc)))
            ∙ known.controls handle link stays.at;
        numbers = λ one other a b at at_too differs.
            known.numbers one other a b (stays_by (due_in slot) one facts.links a at).at (stays_by (due_in slot) other facts.links b at_too).at differs;
      })
    where
      some_same : {a b : OpenLink} → Some a ≡ Some b → a ≡ b
      some_same same = cc

  -- ---- a turn begins

  pub begin_told : (setup : Setup) (facts : Facts) (slot : ℕ) (on : Bool) (front : List Entry) → AreKnownFrom words side link_of last 0 facts.links front → turn_now front ≡ slot
      → RestsAt words side front → AreAllTold words side front (map line (notes_after setup facts (TurnBegins slot on)))
  begin_told setup facts slot on front known now rests =
      let ending = facts_ending slot facts in
      let shuts = notes_ending slot facts in
      let entries = notes_all_entering ending.view slot 0 ending.links in
      let sends = notes_doing (outcome_begun slot on facts).next (outcome_begun slot on facts).facts in
      let one = plain_told words side front (map line shuts) (plain_lines words side link_of last shuts (ending_noted IsPlain plain_feeds slot facts)) rests in
      let mid = front ++ map line shuts in
      let two = all_told words side link_of last ending.view slot 0 ending.links mid (one.turn_is ∙ now) (ending_known slot facts front known) one.left in
      let next = mid ++ map line entries in
      let three = plain_told words side next (map line sends)
      (plain_lines words side link_of last sends (doing_noted IsPlain (λ handle number llid octets. refl) (outcome_begun slot on facts).next (outcome_begun slot on facts).facts)) two.left in
      subst (λ lines. AreAllTold words side front lines) (sym (map-append line (shuts ++ entries) sends ∙ ap (λ lines. lines ++ map line sends) (map-append line shuts entries)))
      (told_both words side front (map line shuts ++ map line entries) (map line sends) (told_both words side front (map line shuts) (map line entries) one two)
      (subst (λ xs. AreAllTold words side xs (map line sends)) (append_assoc front (map line shuts) (map line entries)) three))

  -- ---- a link receives a packet

  -- its lines are those of its notes
  received_lines : (handle slot : ℕ) (octets : List ℕ) (room : Bool) (link : OpenLink) → link.setup.link.handle ≡ handle
      → map line (end_notes link.setup (facts_in link) (PacketReceived slot octets room))
      ≡ map (line_of side (link_of handle)) (end_notes link.setup (facts_in link) (PacketReceived slot octets room))
  received_lines handle slot octets room link is =
      let named = ap link_of is in
      same_lines words side link_of last handle (end_notes link.setup (facts_in link) (PacketReceived slot octets room))
      (received_each (λ note. line note ≡ line_of side (link_of handle) note) link.setup slot room (good_pdu link.setup (facts_in link) octets) (facts_in link) (record {
        took = λ number llid body. ap (λ n. Took side n number llid body) named;
        refused = λ kind code. ap (λ n. Refused side n kind code) named;
        done = λ kind. ap (λ n. Done side n kind) named;
      }))

  -- with the facts as it hears it
  pub received_told : (setup : Setup) (facts hearing : Facts) (handle : ℕ) (octets pdu : List ℕ) (room : Bool) (link : OpenLink) (front : List Entry)
      → heard setup facts.turn.doing octets facts ≡ link_hearing handle room octets hearing → link_at handle hearing.links ≡ Some link → link.setup.link.handle ≡ handle
      → good_pdu link.setup (facts_in link) octets ≡ Some pdu → turn_now front ≡ hearing.turn.slot
      → keyed_on words side (link_of handle) front ≡ Some (keyed_of (facts_before_taking link.setup.link.role hearing.turn.slot (header_in pdu) (facts_in link)))
      → IsDueOn words side (link_of handle) (due_hearing side (link_of handle) (acks_control (has_acknowledged (facts_in link) (header_in pdu)) (facts_in link)) (facts_in link).control) front
      → AreAllTold words side front (map line (notes_after setup facts (PacketHeard octets)))
  received_told setup facts hearing handle octets pdu room link front is at own good now keyed on =
      let slot = hearing.turn.slot in
      let encrypted = was_encrypted handle hearing.view.links in
      let taken = end_notes link.setup (facts_in link) (PacketReceived slot octets room) in
      let events = events_received encrypted handle slot room (Some link) octets in
      let ups = notes_of_events hearing.view events in
      let doing = reply_if (replies_in slot room (link_at handle hearing.links) octets) handle in
      let sends = notes_doing doing (link_received handle room octets hearing) in
      let one = subst (λ lines. AreAllTold words side front lines) (sym (received_lines handle slot octets room link own))
      (receiving_told words side (link_of handle) front link.setup (facts_in link) octets pdu room slot now good keyed on) in
      let mid = front ++ map line taken in
      let two = events_told words side link_of last hearing.view events mid one.left in
      let next = mid ++ map line ups in
      let three = plain_told words side next (map line sends) (plain_lines words side link_of last sends (doing_noted IsPlain (λ other number llid body. refl) doing (link_received handle room octets hearing))) two.left in
      subst (λ outcome. AreAllTold words side front (map line (notes_passed outcome))) (sym is)
      (subst (λ found. AreAllTold words side front (map line ((notes_taken slot room found octets ++ notes_of_events hearing.view (events_received encrypted handle slot room found octets)) ++ sends))) (sym at)
      (subst (λ lines. AreAllTold words side front lines) (sym (map-append line (taken ++ ups) sends ∙ ap (λ lines. lines ++ map line sends) (map-append line taken ups)))
      (told_both words side front (map line taken ++ map line ups) (map line sends) (told_both words side front (map line taken) (map line ups) one two)
      (subst (λ xs. AreAllTold words side xs (map line sends)) (append_assoc front (map line taken) (map line ups)) three))))

-- Which PDU an end of a run sends and what MD says, by the end as that PDU was fixed and goes by the lines.
use Rattle.std.proofs.Common.{◌≡◌, ℕ, Bool, true, false, Some, None, List, [], ◌∷◌, ◌++◌, map, refl, sym, ap, subst, ◌∙◌}
use Rattle.ble_base.specs.declared.notes.Note.{Note}
use Rattle.ble_base.specs.declared.roles.Role.TheVariants.{Central, Peripheral}
use Rattle.ble_base.specs.declared.roles.Side.{Side}
use Rattle.journal_controls.specs.controller_model.Step.{PacketHeard}
use Rattle.journal.specs.declared.entries.Entry.{Entry}
use Rattle.journal.specs.declared.entries.Entry.TheVariants.{Air}
use Rattle.journal_controls.specs.LineSteps.{keyed_on}
use Rattle.journal_controls.specs.journal_acks.link_calls.Uses.{listens_under, sends_under}
use Rattle.journal_controls.specs.journal_ends.Asked.{Words}
use Rattle.journal_controls.specs.journal_ends.GivenWords.{GivesWords}
use Rattle.journal_controls.specs.journal_ends.open_links.OpenLinks.{OpenLink, facts_in, link_at}
use Rattle.journal_controls.specs.link_model.Acknowledgement.{is_acked}
use Rattle.journal_controls.specs.link_model.Data.{next_piece}
use Rattle.journal_controls.specs.link_model.End.{facts_after}
use Rattle.journal_controls.specs.link_model.Facts.{Facts as EndFacts, keyed_of}
use Rattle.journal_controls.specs.link_model.Fixing.{data_cut}
use Rattle.journal_controls.specs.link_model.Packets.{good_pdu, more_sent, pdu_sent}
use Rattle.journal_controls.specs.link_model.Step.{PacketReceived, PduFixed}
use Rattle.journal_controls.specs.link_model.keyed_control.Keyed.{Keyed}
use Rattle.journal_controls.specs.run_model.History.{Event, Called, Hearing, Noted, Transmitted}
use Rattle.journal_controls.specs.run_model.Journal.{journal_from, journal_of, side_of}
use Rattle.journal_controls.specs.run_model.LinkEnds.{HaveAddresses}
use Rattle.journal_controls.specs.run_model.Links.{links_of}
use Rattle.journal_controls.specs.run_model.Run.{Given, facts_at, history_of, run_of}
use Rattle.journal_controls.proofs.journal_acks.Exchanging.{number_at}
use Rattle.journal_controls.proofs.journal_acks.TwoStations.{IsOfTwo}
use Rattle.journal_controls.proofs.journal_ends.run_laws.DistinctAccess.{AreApart}
use Rattle.journal_controls.proofs.journal_links.OfTwo.{are_distinct}
use Rattle.journal_controls.proofs.journal_packets.AccessOrder.{AreNth}
use Rattle.journal_controls.proofs.link_model.Hearing.{IsHeardWhole}
use Rattle.journal_controls.proofs.run_model.LinkEnds.{AreTaken, IsUnderstood}
use Rattle.journal_controls.proofs.run_model.Parts.{journal_more, notes_noted}
use Rattle.journal_controls.proofs.run_model.Stations.{is_in}
use Rattle.journal_fixing.specs.NextPdu.{IsFixedBy, data_waits, data_waits_after, more_with_new, more_with_old, pdu_next}
use Rattle.journal_fixing.specs.OnLines.{control_answering, control_fixing, control_going, fixing_kept, going_kept, has_heard, is_fixed, is_fixed_from, is_heard_at}
use Rattle.journal_fixing.specs.PastFixing.{facts_fixing}
use Rattle.journal_fixing.proofs.AnsweredPdus.{answer_more, answer_new, answer_old}
use Rattle.journal_fixing.proofs.FixedPdus.{fixed_by, fixing_stays, more_new, more_old, new_sent}
use Rattle.journal_fixing.proofs.FixedSince.{since_in}
use Rattle.journal_fixing.proofs.FixingLinks.{listens_uses, sends_uses}
use Rattle.journal_fixing.proofs.GoingLinks.{control_acking}
use Rattle.journal_fixing.proofs.KeptFolds.{kept_both}
use Rattle.journal_fixing.proofs.NotedLines.{notes_fixing}
use Rattle.journal_fixing.proofs.RunFixing.{fixing_before_packet, fixing_before_phase}
use Rattle.journal_fixing.proofs.RunGoing.{going_in_call, heard_before_call}

-- ---- where a packet was heard, the next PDU is fixed

heard_air : (side : Side) (number : ℕ) (front : List Entry) (line : Entry) → is_heard_at side number front line ≡ true → is_fixed_from side number line ≡ true
heard_air side number front (Air sender channel octets fate verdict) is = refl
heard_air side number front line is = absurd cc

heard_fixed : (words : Words) (side : Side) (number : ℕ) (journal : List Entry) → has_heard words side number journal ≡ true → is_fixed words side number journal ≡ true
unfolding fixing_kept going_kept
heard_fixed words side number journal is =
    kept_both (is_heard_at side number) (λ front line. is_fixed_from side number line) (control_answering words side number) (λ front line. keyed_on words side number front)
    (heard_air side number) [] None None journal (λ some. some) is

pub same_some : (one other : Keyed) → Some one ≡ Some other → one ≡ other
same_some one other is = cc

module _ (words : Words) (heard_whole : IsHeardWhole) (understood : IsUnderstood) (taken : AreTaken) (nth : AreNth) (apart : AreApart) (given : Given) (are_two : IsOfTwo given)
    (six : HaveAddresses given) (gives : GivesWords given words) where
  -- ---- a peripheral, in the call in which it takes a good packet

  module _ (before rest : List Event) (octets pdu : List ℕ) (notes : List Note) (station handle : ℕ) (link : OpenLink) (in_it : is_in station given.stations ≡ true)
      (at : history_of (run_of given) ≡ before ++ Called station (PacketHeard octets) ∷ (map (Noted station) notes ++ rest))
      (is_open : link_at handle (facts_at given station before).links ≡ Some link) (on : listens_under handle (facts_at given station before).turn.doing ≡ true)
      (role : link.setup.link.role ≡ Peripheral) (good : good_pdu link.setup (facts_in link) octets ≡ Some pdu) where
    abbrev side : Side
    side = side_of station

    abbrev number : ℕ
    number = number_at station handle before

    abbrev now : List Event
    now = before ++ Called station (PacketHeard octets) ∷ map (Noted station) notes

    abbrev held : EndFacts
    held = facts_fixing link.setup link.past

    pub fixing_in_call : control_fixing words side number (journal_of now) ≡ Some (keyed_of held)
    fixing_in_call =
        ap (control_fixing words side number) (journal_more before (Called station (PacketHeard octets) ∷ map (Noted station) notes))
        ∙ notes_fixing words side side number (journal_of before) (journal_from (links_of before) (map (Noted station) notes)) (notes_noted (links_of before) station notes)
        (heard_fixed words side number (journal_of before)
        (heard_before_call words heard_whole understood taken nth apart given are_two six gives before (map (Noted station) notes ++ rest) octets pdu station handle link in_it at is_open on good))
        ∙ fixing_before_phase words heard_whole understood taken nth apart given are_two six gives before (map (Noted station) notes ++ rest) station (Some octets) at station in_it handle link is_open
        (listens_uses handle (facts_at given station before).turn.doing on)

    answer_fixed : IsFixedBy (keyed_of held) (data_cut held) (facts_in link)
    answer_fixed =
        let since = (since_in given before (Called station (PacketHeard octets) ∷ (map (Noted station) notes ++ rest)) station handle link (are_distinct given are_two) in_it at is_open).listens on role in
        subst (IsFixedBy (keyed_of held) (data_cut held)) (sym since.1) (fixed_by link.setup held since.0)

    module _ (fixing : Keyed) (fixing_is : control_fixing words side number (journal_of now) ≡ Some fixing) (slot : ℕ) (room : Bool) where
      abbrev heard : EndFacts
      heard = facts_after link.setup (facts_in link) (PacketReceived slot octets room)

      fixing_same : keyed_of held ≡ fixing
      fixing_same = same_some (keyed_of held) fixing (sym fixing_in_call ∙ fixing_is)

      pub answer_by_lines : (going : Keyed) → control_going words side number (journal_of now) ≡ Some going → is_acked heard.acknowledgement ≡ true
          → pdu_sent heard ≡ pdu_next fixing going (next_piece (data_cut held))
      answer_by_lines going going_is acked =
          let goes = going_in_call words heard_whole understood taken nth apart given are_two six gives before rest octets pdu notes station handle link in_it at is_open on good in
          let same = same_some (control_acking (facts_in link) pdu) going (sym goes ∙ going_is) in
          answer_new link.setup (facts_in link) slot octets pdu room (keyed_of held) (data_cut held) role answer_fixed good acked
          ∙ (λ i. pdu_next (fixing_same i) (same i) (next_piece (data_cut held)))

      pub answer_more_by_lines : is_acked heard.acknowledgement ≡ true → more_sent heard ≡ more_with_new fixing (data_waits_after (pdu_sent heard) (data_cut held))
      answer_more_by_lines acked =
          answer_more link.setup (facts_in link) slot octets pdu room (keyed_of held) (data_cut held) role answer_fixed good acked
          ∙ ap (λ k. more_with_new k (data_waits_after (pdu_sent heard) (data_cut held))) fixing_same

      pub answer_again_by_lines : is_acked heard.acknowledgement ≡ false
          → more_sent heard ≡ more_with_old fixing heard.acknowledgement.last (data_waits (data_cut held))
      answer_again_by_lines unacked =
          answer_old link.setup (facts_in link) slot octets pdu room (keyed_of held) (data_cut held) role answer_fixed good unacked
          ∙ ap (λ k. more_with_old k heard.acknowledgement.last (data_waits (data_cut held))) fixing_same

  -- ---- a central, before its packet

  module _ (before rest : List Event) (sender channel : ℕ) (octets : List ℕ) (hearings : List Hearing) (station handle : ℕ) (link : OpenLink) (in_it : is_in station given.stations ≡ true)
      (at : history_of (run_of given) ≡ before ++ Transmitted sender channel octets hearings ∷ rest)
      (is_open : link_at handle (facts_at given station before).links ≡ Some link) (on : sends_under handle (facts_at given station before).turn.doing ≡ true)
      (role : link.setup.link.role ≡ Central) (fixing : Keyed)
      (fixing_is : control_fixing words (side_of station) (number_at station handle before) (journal_of before) ≡ Some fixing) where
    abbrev held_then : EndFacts
    held_then = facts_fixing link.setup link.past

    abbrev sent : EndFacts
    sent = facts_after link.setup held_then PduFixed

    sent_fixing : keyed_of held_then ≡ fixing
    sent_fixing =
        same_some (keyed_of held_then) fixing
        (sym (fixing_before_packet words heard_whole understood taken nth apart given are_two six gives before rest sender channel octets hearings at station in_it handle link is_open
        (sends_uses handle (facts_at given station before).turn.doing on)) ∙ fixing_is)

    sent_fixed : IsFixedBy (keyed_of held_then) (data_cut held_then) sent
    sent_fixed =
        fixed_by link.setup held_then
        ((since_in given before (Transmitted sender channel octets hearings ∷ rest) station handle link (are_distinct given are_two) in_it at is_open).sends on role).0

    pub sent_by_lines : is_acked sent.acknowledgement ≡ true → pdu_sent sent ≡ pdu_next fixing fixing (next_piece (data_cut held_then))
    sent_by_lines acked =
        new_sent (keyed_of held_then) (data_cut held_then) sent sent_fixed acked
        ∙ (λ i. pdu_next (sent_fixing i) ((fixing_stays link.setup held_then ∙ sent_fixing) i) (next_piece (data_cut held_then)))

    pub sent_more_by_lines : is_acked sent.acknowledgement ≡ true → more_sent sent ≡ more_with_new fixing (data_waits_after (pdu_sent sent) (data_cut held_then))
    sent_more_by_lines acked =
        more_new (keyed_of held_then) (data_cut held_then) sent sent_fixed acked
        ∙ ap (λ k. more_with_new k (data_waits_after (pdu_sent sent) (data_cut held_then))) sent_fixing

    pub sent_again_by_lines : is_acked sent.acknowledgement ≡ false
        → more_sent sent ≡ more_with_old fixing sent.acknowledgement.last (data_waits (data_cut held_then))
    sent_again_by_lines unacked =
        more_old (keyed_of held_then) (data_cut held_then) sent sent_fixed unacked
        ∙ ap (λ k. more_with_old k sent.acknowledgement.last (data_waits (data_cut held_then))) sent_fixing

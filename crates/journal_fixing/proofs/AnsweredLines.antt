-- The line of a new PDU in the middle of the call in which a peripheral takes a packet: it says the PDU with which the
-- peripheral answers.
use Rattle.std.proofs.Common.{◌≡◌, ℕ, ◌&&◌, not, Bool, true, false, Option, Some, None, List, [], ◌∷◌, ◌++◌, map, refl, sym, ap, subst, ◌∙◌, append_assoc, if◌then◌else◌}
use Rattle.std.specs.Prelude.{All, IfSome, ⊤}
use Rattle.std.proofs.lemmas.Bool.{eq-eqb}
use Rattle.std.proofs.lemmas.List.Elements.{All-append, All-cons, All-nil}
use Rattle.ble_base.specs.declared.notes.Note.{Note}
use Rattle.ble_base.specs.declared.notes.Note.TheVariants.{Up as UpNote, Sent as SentNote}
use Rattle.ble_base.specs.declared.roles.Side.{Side}
use Rattle.journal_controls.specs.controller_model.Facts.{Facts, Setup}
use Rattle.journal_controls.specs.controller_model.Heard.{has_room, link_heard, link_received, refusal_in, replies_in, reply_if}
use Rattle.journal_controls.specs.controller_model.Outcome.{notes_passed}
use Rattle.journal_controls.specs.controller_model.Packets.{notes_doing, notes_sent}
use Rattle.journal_controls.specs.controller_model.Side.{notes_after}
use Rattle.journal_controls.specs.controller_model.Step.{PacketHeard}
use Rattle.journal_controls.specs.journal_acks.link_calls.Uses.{listens_under}
use Rattle.journal_controls.specs.journal_ends.Asked.{Words}
use Rattle.journal_controls.specs.journal_ends.GivenWords.{GivesWords}
use Rattle.journal_controls.specs.journal_ends.open_links.OpenLinks.{OpenLink, facts_in, link_after, link_at}
use Rattle.journal_controls.specs.link_model.Acknowledgement.{Pdu, is_acked}
use Rattle.journal_controls.specs.link_model.Controls.{pdu_fixed}
use Rattle.journal_controls.specs.link_model.Data.{is_empty, next_piece, numbered}
use Rattle.journal_controls.specs.link_model.End.{facts_after as end_after}
use Rattle.journal_controls.specs.link_model.Facts.{Facts as EndFacts, keyed_of}
use Rattle.journal_controls.specs.link_model.Fixing.{data_cut}
use Rattle.journal_controls.specs.link_model.Sending.{sent_notes_if}
use Rattle.journal_controls.specs.link_model.Setup.{Setup as EndSetup}
use Rattle.journal_controls.specs.link_model.Step.{Step, PacketReceived}
use Rattle.journal_controls.specs.link_model.keyed_control.Keyed.{Keyed}
use Rattle.journal_controls.specs.run_model.History.{Event, Called, Noted, past_of}
use Rattle.journal_controls.specs.run_model.Journal.{journal_of, side_of}
use Rattle.journal_controls.specs.run_model.LinkEnds.{HaveAddresses}
use Rattle.journal_controls.specs.run_model.Run.{Given, facts_at, history_of, run_of, setup_at}
use Rattle.journal_controls.proofs.controller_model.Handles.{HaveOwnHandles, own_handles}
use Rattle.journal_controls.proofs.journal_acks.DataCalls.{received_at, unfound}
use Rattle.journal_controls.proofs.journal_acks.Exchanging.{number_at, number_notes}
use Rattle.journal_controls.proofs.journal_acks.NewPdus.{first_part, in_middle}
use Rattle.journal_controls.proofs.journal_acks.PhaseNotes.{IsOnLink, IsPhaseOf, IsPlainPhase, phase_of}
use Rattle.journal_controls.proofs.journal_acks.TwoStations.{IsOfTwo}
use Rattle.journal_controls.proofs.journal_acks.link_calls.CallNotes.{HasNoData, OpensNone}
use Rattle.journal_controls.proofs.journal_acks.Worded.{link_worded, worded, worded_here, worded_setup}
use Rattle.journal_controls.proofs.journal_acks.link_calls.LinkCalls.{IsOfTakes, received_noted, received_quiet}
use Rattle.journal_controls.proofs.controller_model.Places.{link_receiving, refused_if as places_refused}
use Rattle.journal_controls.proofs.journal_ends.GrownLinks.{IsRefusal, refusal_in_is}
use Rattle.journal_controls.proofs.EndSteps.{good_leave}
use Rattle.journal_controls.proofs.Replies.{IsReply, replies_as, worded_reply, words_are}
use Rattle.journal_controls.proofs.SendsAlike.{SendsAlike, alike_fixed, alike_then, answered_alike, given_alike}
use Rattle.journal_controls.proofs.journal_ends.run_laws.DistinctAccess.{AreApart}
use Rattle.journal_controls.proofs.journal_packets.AccessOrder.{AreNth}
use Rattle.journal_controls.proofs.journal_packets.Replies.{receiving_setup as received_setup_is}
use Rattle.journal_controls.proofs.link_model.Hearing.{IsHeardWhole}
use Rattle.journal_controls.proofs.journal_ends.open_links.Handles.{handle_is}
use Rattle.journal_controls.proofs.run_model.LinkEnds.{AreTaken, IsUnderstood}
use Rattle.journal_controls.proofs.run_model.Stations.{is_in}
use Rattle.journal_fixing.specs.NextPdu.{pdu_next}
use Rattle.journal_fixing.specs.OnLines.{control_fixing, control_going}
use Rattle.journal_fixing.specs.PastFixing.{facts_fixing}
use Rattle.journal_fixing.proofs.SaidPdus.{IsSentNew, left_true}
use Rattle.journal_fixing.proofs.SentPdus.{answer_by_lines, fixing_in_call}

-- ---- the notes of a packet that is taken

-- a note of a new PDU is of these facts, where the end replies
abbrev IsOfReply : Bool → EndFacts → Note → Type 0
IsOfReply replies facts (SentNote handle count llid body) = IsSentNew replies facts (record { llid = llid; body = body.items })
IsOfReply replies facts (UpNote packet) = ⊤
IsOfReply replies facts note = ⊤

takes_none : (replies : Bool) (facts : EndFacts) → IsOfTakes (IsOfReply replies facts)
takes_none replies facts = record {
  feeds = record { up = λ octets. tt; shut = λ handle reason. tt };
  took = λ handle number llid octets. tt;
  refused = λ handle kind code. tt;
  done = λ handle kind. tt;
}

note_sent : (handle count : ℕ) (facts : EndFacts) (noted : Bool) → noted ≡ (is_acked facts.acknowledgement && not (is_empty (pdu_fixed facts)))
    → All (IsOfReply true facts) (sent_notes_if noted handle count (pdu_fixed facts))
note_sent handle count facts false is = All-nil (IsOfReply true facts)
note_sent handle count facts true is =
    All-cons (IsOfReply true facts) _ []
    (record { sends = refl; acked = left_true (is_acked facts.acknowledgement) (not (is_empty (pdu_fixed facts))) (sym is); is = refl })
    (All-nil (IsOfReply true facts))

-- a note of a new PDU is under this handle
abbrev IsUnder : ℕ → Note → Type 0
IsUnder other (SentNote handle count llid body) = handle ≡ other
IsUnder other (UpNote packet) = ⊤
IsUnder other note = ⊤

under_takes : (other : ℕ) → IsOfTakes (IsUnder other)
under_takes other = record {
  feeds = record { up = λ octets. tt; shut = λ handle reason. tt };
  took = λ handle number llid octets. tt;
  refused = λ handle kind code. tt;
  done = λ handle kind. tt;
}

under_if : (other handle count : ℕ) (pdu : Pdu) (noted : Bool) → handle ≡ other → All (IsUnder other) (sent_notes_if noted handle count pdu)
under_if other handle count pdu true is = All-cons (IsUnder other) _ [] is (All-nil (IsUnder other))
under_if other handle count pdu false is = All-nil (IsUnder other)

same_octets : (one other : List ℕ) → Some other ≡ Some one → one ≡ other
same_octets one other is = cc

module _ (setup : Setup) (facts : Facts) (octets : List ℕ) (handle count llid : ℕ) (body : List ℕ) (earlier later : List Note) (link : OpenLink)
    (notes_are : notes_after setup facts (PacketHeard octets) ≡ earlier ++ SentNote handle count llid (record { items = body }) ∷ later)
    (at : link_at handle facts.links ≡ Some link) (own : HaveOwnHandles setup facts) where
  abbrev note : Note
  note = SentNote handle count llid (record { items = body })

  abbrev slot : ℕ
  slot = facts.turn.slot

  abbrev room : Bool
  room = has_room setup facts

  abbrev answering : EndFacts
  answering = end_after link.setup (facts_in link) (PacketReceived slot octets room)

  -- the end listened and answers, with these facts, and no link is opened before the note
  record IsAnswer : Type 0 where
    on : listens_under handle facts.turn.doing ≡ true
    reply : IsReply link.setup (facts_in link) octets
    new : IsSentNew true answering (record { llid = llid; body = body })
    opens : All (OpensNone handle) earlier

  -- the notes of a packet that a link takes are under its handle, whether it was given words before or not
  reply_under : (words : Bool) (other : ℕ) (base : OpenLink) → link_at other facts.links ≡ Some base → (answers : Bool)
      → All (IsUnder other) (notes_doing (reply_if answers other) (link_received other room octets (worded words setup other facts)))
  reply_under words other base is false = All-nil (IsUnder other)
  reply_under words other base is true =
      let worded_facts = worded words setup other facts in
      let there = link_worded words setup facts base in
      let receiving = link_receiving other room octets worded_facts there in
      subst (All (IsUnder other)) (sym (ap (notes_sent slot) (received_at other octets room worded_facts there (worded_here words setup other facts (Some base) is))))
      (under_if other receiving.setup.link.handle (numbered (facts_in receiving).acknowledgement.sent) (pdu_fixed (facts_in receiving))
      (is_acked (facts_in receiving).acknowledgement && not (is_empty (pdu_fixed (facts_in receiving))))
      (ap (λ (end : EndSetup). end.link.handle) (received_setup_is other room octets worded_facts there ∙ worded_setup setup facts base words)
      ∙ handle_is 0 other facts.links base own.handles is))

  link_noted : (words : Bool) (other : ℕ) (found : Option OpenLink) → link_at other facts.links ≡ found
      → All (IsUnder other) (notes_passed (link_heard setup other octets (worded words setup other facts)))
  link_noted words other None is =
      subst (All (IsUnder other)) (sym (unfound setup (worded words setup other facts) other octets (worded_here words setup other facts None is))) (All-nil (IsUnder other))
  link_noted words other (Some base) is =
      let worded_facts = worded words setup other facts in
      All-append (IsUnder other) (link_heard setup other octets worded_facts).notes _ (received_noted (IsUnder other) (under_takes other) setup other octets worded_facts)
      (reply_under words other base is (replies_in slot room (link_at other worded_facts.links) octets))

  record IsOnIt : Type 0 where
    on : listens_under handle facts.turn.doing ≡ true
    words : Bool
    notes : notes_after setup facts (PacketHeard octets) ≡ notes_passed (link_heard setup handle octets (worded words setup handle facts))

  on_it : IsOnIt
  on_it = by (phase_of setup facts (Some octets))
    where
      by : IsPhaseOf setup facts (Some octets) → IsOnIt
      by (IsPlainPhase none plain) =
          absurd (let h : true ≡ false = (in_middle HasNoData earlier later note (subst (All HasNoData) notes_are plain)).sends in absurd cc)
      by (IsOnLink other words heard some listens is) =
          let octets_are = same_octets heard octets some in
          let notes =
          ap (λ xs. notes_after setup facts (PacketHeard xs)) (sym octets_are) ∙ ap notes_passed is
          ∙ (λ i. notes_passed (link_heard setup other (octets_are i) (worded words setup other facts))) in
          let under : handle ≡ other =
          in_middle (IsUnder other) earlier later note (subst (All (IsUnder other)) (sym notes ∙ notes_are) (link_noted words other (link_at other facts.links) refl)) in record {
            on = listens handle ∙ eq-eqb other handle (sym under);
            words = words;
            notes = notes ∙ (λ i. notes_passed (link_heard setup (sym under i) octets (worded words setup (sym under i) facts)));
          }

  -- the facts as it hears, its link as it is given words, and once it received
  abbrev worded_facts : Facts
  worded_facts = worded on_it.words setup handle facts

  abbrev there : OpenLink
  there = link_worded on_it.words setup facts link

  there_at : link_at handle worded_facts.links ≡ Some there
  there_at = worded_here on_it.words setup handle facts (Some link) at

  abbrev taken : OpenLink
  taken = link_receiving handle room octets worded_facts there

  abbrev replies : Bool
  replies = replies_in slot room (link_at handle worded_facts.links) octets

  on_link : notes_after setup facts (PacketHeard octets) ≡ notes_passed (link_heard setup handle octets worded_facts)
  on_link = on_it.notes

  reply_noted : (answers : Bool) → All (IsOfReply answers (facts_in taken)) (notes_doing (reply_if answers handle) (link_received handle room octets worded_facts))
  reply_noted false = All-nil (IsOfReply false (facts_in taken))
  reply_noted true =
      subst (All (IsOfReply true (facts_in taken))) (sym (ap (notes_sent slot) (received_at handle octets room worded_facts there there_at)))
      (note_sent taken.setup.link.handle (numbered (facts_in taken).acknowledgement.sent) (facts_in taken) _ refl)

  noted : IsSentNew replies (facts_in taken) (record { llid = llid; body = body })
  noted =
      in_middle (IsOfReply replies (facts_in taken)) earlier later note
      (subst (All (IsOfReply replies (facts_in taken))) (sym on_link ∙ notes_are)
      (All-append (IsOfReply replies (facts_in taken)) (link_heard setup handle octets worded_facts).notes _
      (received_noted (IsOfReply replies (facts_in taken)) (takes_none replies (facts_in taken)) setup handle octets worded_facts) (reply_noted replies)))

  -- what it answers at once changes nothing of what it sends
  refused_alike : (refusal : Option Step) → IfSome refusal IsRefusal → (base : OpenLink) → SendsAlike (facts_in (places_refused refusal base)) (facts_in base)
  refused_alike None is base = answered_alike None is base
  refused_alike (Some step) is base = answered_alike (Some step) is base

  answer_noted : IsAnswer
  answer_noted =
      let heard = link_after (PacketReceived slot octets room) there in
      let words = words_are on_it.words setup facts link in
      let replied = replies_as there.setup (facts_in there) slot octets room (ap (λ found. replies_in slot room found octets) (sym there_at) ∙ noted.sends) in
      let reply = worded_reply link there words octets replied in
      let refusal = refusal_in worded_facts.view handle slot room (link_at handle worded_facts.links) octets in
      let alike = alike_then (facts_in taken) (facts_in heard) answering
      (refused_alike refusal (refusal_in_is worded_facts.view handle slot room (link_at handle worded_facts.links) octets) heard) (given_alike link there words slot octets room) in
      let acked = ap is_acked (sym alike.acknowledgement) ∙ noted.acked in record {
        on = on_it.on;
        reply = reply;
        new = record {
          sends = refl;
          acked = acked;
          is = noted.is ∙ alike_fixed (facts_in taken) answering alike (good_leave slot octets reply.pdu room link.setup (facts_in link) reply.role reply.good) acked;
        };
        opens = first_part (OpensNone handle) earlier (note ∷ later) (subst (All (OpensNone handle)) (sym on_link ∙ notes_are) (received_quiet handle setup handle octets worded_facts));
      }

-- ---- in a run

module _ (words : Words) (heard_whole : IsHeardWhole) (understood : IsUnderstood) (taken : AreTaken) (nth : AreNth) (apart : AreApart) (given : Given) (are_two : IsOfTwo given)
    (six : HaveAddresses given) (gives : GivesWords given words) (before rest : List Event) (octets : List ℕ) (station handle count llid : ℕ) (body : List ℕ) (earlier later : List Note) (link : OpenLink)
    (in_it : is_in station given.stations ≡ true)
    (at : history_of (run_of given) ≡ before ++ Called station (PacketHeard octets) ∷ (map (Noted station) earlier ++ rest))
    (notes_are : notes_after (setup_at given station) (facts_at given station before) (PacketHeard octets) ≡ earlier ++ SentNote handle count llid (record { items = body }) ∷ later)
    (is_open : link_at handle (facts_at given station before).links ≡ Some link) where
  abbrev side : Side
  side = side_of station

  abbrev now : List Event
  now = before ++ Called station (PacketHeard octets) ∷ map (Noted station) earlier

  abbrev said : Pdu
  said = record { llid = llid; body = body }

  answer : IsAnswer (setup_at given station) (facts_at given station before) octets handle count llid body earlier later link notes_are is_open (own_handles (setup_at given station) (past_of station before))
  answer = answer_noted (setup_at given station) (facts_at given station before) octets handle count llid body earlier later link notes_are is_open (own_handles (setup_at given station) (past_of station before))

  number : number_at station handle now ≡ number_at station handle before
  number =
      ap (number_at station handle) (sym (append_assoc before (Called station (PacketHeard octets) ∷ []) (map (Noted station) earlier)))
      ∙ number_notes station handle (PacketHeard octets) before earlier answer.opens

  pub fixing_in_answer : control_fixing words side (number_at station handle now) (journal_of now) ≡ Some (keyed_of (facts_fixing link.setup link.past))
  fixing_in_answer =
      ap (λ n. control_fixing words side n (journal_of now)) number
      ∙ fixing_in_call words heard_whole understood taken nth apart given are_two six gives before rest octets answer.reply.pdu earlier station handle link in_it at is_open answer.on answer.reply.role answer.reply.good

  pub pdu_in_answer : (fixing going : Keyed) → control_fixing words side (number_at station handle now) (journal_of now) ≡ Some fixing
      → control_going words side (number_at station handle now) (journal_of now) ≡ Some going → said ≡ pdu_next fixing going (next_piece (data_cut (facts_fixing link.setup link.past)))
  pdu_in_answer fixing going fixes goes =
      let facts = facts_at given station before in
      let slot = facts.turn.slot in
      let room = has_room (setup_at given station) facts in
      let heard = end_after link.setup (facts_in link) (PacketReceived slot octets room) in
      let acked = answer.new.acked in
      answer.new.is ∙ sym (ap (λ b. if b then pdu_fixed heard else heard.acknowledgement.last) acked)
      ∙ answer_by_lines words heard_whole understood taken nth apart given are_two six gives before rest octets answer.reply.pdu earlier station handle link in_it at is_open answer.on answer.reply.role answer.reply.good
      fixing (ap (λ n. control_fixing words side n (journal_of now)) (sym number) ∙ fixes) slot room going (ap (λ n. control_going words side n (journal_of now)) (sym number) ∙ goes) acked

-- Where a peripheral takes the rejection of its procedure, its next line of the link is that the procedure is refused.
use Rattle.std.proofs.Common.{◌≡◌, ℕ, ◌==◌, Bool, true, false, Option, Some, None, List, [], ◌∷◌, ◌++◌, map, refl, sym, ap, subst, ◌∙◌, append_assoc}
use Rattle.std.specs.Prelude.{if◌then◌else◌}
use Rattle.std.specs.List.{Contains}
use Rattle.std.proofs.lemmas.Bool.{eq-eqb, eqb-true}
use Rattle.std.proofs.lemmas.List.{append_cancel_left}
use Rattle.ble_base.specs.Side.{other_side}
use Rattle.ble_base.specs.declared.error_codes.ErrCode.{ErrCode}
use Rattle.ble_base.specs.declared.notes.Note.{Note}
use Rattle.ble_base.specs.declared.notes.Note.TheVariants.{Refused as RefusedNote, Took as TookNote}
use Rattle.ble_base.specs.declared.procedure_kinds.Kind.{Kind}
use Rattle.ble_base.specs.declared.procedure_kinds.Kind.TheVariants.{Phy as PhyKind, Request as RequestKind}
use Rattle.ble_base.specs.declared.roles.Role.TheVariants.{Peripheral}
use Rattle.ble_base.specs.declared.roles.Side.{Side}
use Rattle.ble_base.specs.declared.roles.Side.TheVariants.{A, B}
use Rattle.data_pdu.specs.Reading.{ctrl_of}
use Rattle.data_pdu.specs.declared.ctrl.CtrlRead.{CtrlRead}
use Rattle.data_pdu.specs.declared.ctrl.CtrlRead.TheVariants.{Known}
use Rattle.data_pdu.specs.declared.ctrl.Ctrl.TheVariants.{ConnectionParamReq, PhyReq, RejectExtInd}
use Rattle.exclusive_stages.specs.Kinds.{kind_of}
use Rattle.exclusive_stages.specs.declared.pdus.Exclusive.{Exclusive}
use Rattle.exclusive_stages.specs.declared.pdus.Exclusive.TheVariants.{Phy, Request}
use Rattle.journal.specs.declared.entries.Entry.{Entry}
use Rattle.journal.specs.declared.entries.Entry.TheVariants.{Refused, Sent, Took}
use Rattle.procedure_stages.specs.Collisions.{collision_code}
use Rattle.procedure_stages.specs.Opcodes.{opcode_of_kind}
use Rattle.journal_endings.specs.controller_model.declared.doing.Doing.{Doing}
use Rattle.journal_endings.specs.controller_model.declared.doing.Doing.TheVariants.{Advertises, CentralListens, PeripheralListens}
use Rattle.journal_endings.specs.controller_model.Events.{notes_of_events}
use Rattle.journal_endings.specs.controller_model.Facts.{Facts, Setup}
use Rattle.journal_endings.specs.controller_model.Heard.{events_received, has_room, heard, link_heard, link_received, notes_taken, replies_in, reply_if}
use Rattle.journal_endings.specs.controller_model.Outcome.{notes_passed}
use Rattle.journal_endings.specs.controller_model.Packets.{notes_doing}
use Rattle.journal_endings.specs.controller_model.Side.{notes_after}
use Rattle.journal_endings.specs.controller_model.Step.{PacketHeard}
use Rattle.journal_endings.proofs.controller_model.Handles.{own_handles}
use Rattle.journal_endings.proofs.link_calls.run_laws.TwoStations.{are_two}
use Rattle.journal_endings.specs.journal_indications.journal_data.journal_acks.link_calls.Uses.{listens_under}
use Rattle.journal_endings.specs.journal_indications.journal_data.journal_links.Begun.{LinkBegun, link_numbered}
use Rattle.journal_endings.specs.journal_indications.journal_data.journal_links.Changes.{role_by, role_on}
use Rattle.journal_endings.specs.journal_indications.journal_data.journal_links.LinkLines.{lines_of, link_named, where_named}
use Rattle.journal_endings.specs.journal_indications.journal_data.link_model.End.{notes_after as end_notes}
use Rattle.journal_endings.specs.journal_indications.journal_data.link_model.Step.{PacketReceived}
use Rattle.journal_endings.specs.journal_indications.journal_data.open_links.OpenLinks.{OpenLink, facts_in, link_at}
use Rattle.journal_endings.specs.journal_indications.journal_data.run_laws.Ends.{AreEnds, IsOpen, OpenEnd, link_listened}
use Rattle.journal_endings.specs.journal_indications.journal_data.run_model.Feeding.{AreDistinct}
use Rattle.journal_endings.specs.journal_indications.journal_data.run_model.History.{Called, Event, Noted, past_of}
use Rattle.journal_endings.specs.journal_indications.journal_data.run_model.Journal.{journal_from, journal_of}
use Rattle.journal_endings.specs.journal_indications.journal_data.run_model.LinkEnds.{HaveAddresses}
use Rattle.journal_endings.specs.journal_indications.journal_data.run_model.Links.{links_of}
use Rattle.journal_endings.specs.journal_indications.journal_data.run_model.NoteLines.{IsLineInCall, LinkLine, took_line}
use Rattle.journal_endings.specs.journal_indications.journal_data.run_model.Run.{Given, facts_at, history_of, run_of, setup_at}
use Rattle.journal_endings.specs.journal_indications.journal_data.Followed.{Follows, Mixed}
use Rattle.journal_endings.proofs.journal_indications.journal_data.Followed.{AreEndsOf, hear_in_call, is_of_two}
use Rattle.journal_endings.proofs.journal_indications.journal_data.KeptData.{other_in}
use Rattle.journal_endings.proofs.journal_indications.journal_data.PairedEnds.{are_ends, far_end, own_end}
use Rattle.journal_endings.proofs.journal_indications.journal_data.journal_acks.Exchanging.{number_at}
use Rattle.journal_endings.proofs.journal_indications.journal_data.Mine.{HasFarEnd}
use Rattle.journal_endings.proofs.journal_indications.journal_data.journal_acks.TwoStations.{IsOfTwo, other_of}
use Rattle.journal_endings.proofs.journal_indications.journal_data.journal_acks.Worded.{link_worded, worded, worded_here}
use Rattle.journal_endings.specs.controller_model.host_view.Links.{was_encrypted}
use Rattle.journal_endings.proofs.journal_indications.journal_data.journal_links.LinkLines.{lines_append, named_here}
use Rattle.journal_endings.proofs.journal_indications.journal_data.journal_links.LinksBegun.{number_stays}
use Rattle.journal_endings.proofs.journal_indications.journal_data.journal_links.OfTwo.{are_distinct}
use Rattle.journal_endings.proofs.journal_indications.journal_data.journal_packets.AccessOrder.{AreNth}
use Rattle.journal_endings.proofs.journal_indications.journal_data.link_model.Hearing.{IsHeardWhole}
use Rattle.journal_endings.proofs.journal_indications.journal_data.open_links.Handles.{handle_is}
use Rattle.journal_endings.proofs.journal_indications.journal_data.run_laws.DistinctAccess.{AreApart}
use Rattle.journal_endings.proofs.journal_indications.journal_data.run_model.LinkEnds.{AreTaken, IsUnderstood}
use Rattle.journal_endings.proofs.journal_indications.journal_data.run_model.NoteLines.{line_in_call}
use Rattle.journal_endings.proofs.journal_indications.journal_data.run_model.Stations.{is_in}
use Rattle.journal_endings.proofs.journal_indications.FarEnds.{far_before}
use Rattle.journal_endings.proofs.journal_indications.InTime.{role_of_end}
use Rattle.journal_endings.proofs.journal_indications.LineEnds.{IsEndOfLine, end_of_line, in_it}
use Rattle.journal_endings.proofs.journal_indications.Receptions.{IsReception, reception_of, same_notes}
use Rattle.journal_endings.proofs.run_pairs.FarPackets.{listens_is}
use Rattle.run_collisions.specs.Prevailing.{seen}
use Rattle.run_collisions.specs.Refused.{IsRefused, TakesRejection}
use Rattle.run_collisions.proofs.OfPairs.{good_taken, hear_before, sent_to_peripheral}
use Rattle.journal_endings.specs.run_pairs.InTurns.{HasSentNow, HearEachInTurn, HearNoMixed}
use Rattle.journal_endings.specs.link_runs.link_pairs.Hearing.{received}
use Rattle.journal_collisions.specs.Collisions.{AllAreRefused, IsRejection, control_in, first_of, first_opcode, kind_begun}
use Rattle.journal_collisions.proofs.CollidingLines.{same_kind}
use Rattle.journal_collisions.proofs.NextLines.{next_line, whole}

-- ---- the notes of a call that receives octets on a link begin with those of its end

-- a peripheral has words then
record IsHeardOn (setup : Setup) (handle : ℕ) (octets : List ℕ) (facts : Facts) (doing : Doing) : Type 0 where
  words : Bool
  is : heard setup doing octets facts ≡ link_heard setup handle octets (worded words setup handle facts)

heard_on : (setup : Setup) (handle : ℕ) (octets : List ℕ) (facts : Facts) (doing : Doing) → listens_under handle doing ≡ true
    → IsHeardOn setup handle octets facts doing
heard_on setup handle octets facts (CentralListens other) on =
    record { words = false; is = ap (λ n. link_heard setup n octets (worded false setup n facts)) (eqb-true other handle on) }
heard_on setup handle octets facts (PeripheralListens other) on =
    record { words = true; is = ap (λ n. link_heard setup n octets (worded true setup n facts)) (eqb-true other handle on) }
heard_on setup handle octets facts (Advertises channel) on = absurd cc
heard_on setup handle octets facts other on = absurd cc

pub record BeginWith (notes first : List Note) : Type 0 where
  pub more : List Note
  pub is : notes ≡ first ++ more

pub end_first : (setup : Setup) (facts : Facts) (octets : List ℕ) (handle : ℕ) (link : OpenLink) → link_at handle facts.links ≡ Some link
    → listens_under handle facts.turn.doing ≡ true
    → BeginWith (notes_after setup facts (PacketHeard octets))
    (end_notes link.setup (facts_in link) (PacketReceived facts.turn.slot octets (has_room setup facts)))
end_first setup facts octets handle link at listens =
    let slot = facts.turn.slot in
    let room = has_room setup facts in
    let on = heard_on setup handle octets facts facts.turn.doing listens in
    let held = worded on.words setup handle facts in
    let base = link_worded on.words setup facts link in
    let encrypted = was_encrypted handle facts.view.links in
    let events = notes_of_events facts.view (events_received encrypted handle slot room (Some base) octets) in
    let sent = notes_doing (reply_if (replies_in slot room (Some base) octets) handle) (link_received handle room octets held) in
    record {
      more = events ++ sent;
      is = ap notes_passed on.is
          ∙ ap (λ place. (notes_taken slot room place octets ++ notes_of_events facts.view (events_received encrypted handle slot room place octets))
          ++ notes_doing (reply_if (replies_in slot room place octets) handle) (link_received handle room octets held))
          (worded_here on.words setup handle facts (Some link) at)
          ∙ append_assoc (notes_taken slot room (Some base) octets) events sent
          ∙ ap (λ notes. notes ++ (events ++ sent)) (same_notes on.words setup facts link slot room octets);
    }

-- ---- what a rejection is

-- the procedures of a peripheral whose first PDU a central takes
pub record IsBegun (kind : Kind) : Type 0 where
  pub q : Exclusive
  pub kind_is : kind_of q ≡ kind
  pub opcode_is : first_opcode kind ≡ opcode_of_kind q

request_begun : IsBegun RequestKind
request_begun = record { q = Request; kind_is = refl; opcode_is = refl }

phy_begun : IsBegun PhyKind
phy_begun = record { q = Phy; kind_is = refl; opcode_is = refl }

pub begun_kind : (read : Option CtrlRead) (kind : Kind) → kind_begun read ≡ Some kind → IsBegun kind
begun_kind (Some (Known (ConnectionParamReq min max latency timeout periodicity reference offsets))) kind is =
    subst IsBegun (same_kind RequestKind kind is) request_begun
begun_kind (Some (Known (PhyReq tx rx))) kind is = subst IsBegun (same_kind PhyKind kind is) phy_begun
begun_kind None kind is = absurd cc
begun_kind other kind is = absurd cc

-- a control PDU has LLID 3
pub record IsControl (llid : ℕ) (body : List ℕ) (ctrl : CtrlRead) : Type 0 where
  pub llid_is : llid ≡ 3
  pub is : ctrl_of body ≡ ctrl

pub is_control : (llid : ℕ) (body : List ℕ) (ctrl : CtrlRead) → control_in llid body ≡ Some ctrl → IsControl llid body ctrl
is_control llid body ctrl is = by (llid == 3) refl is
  where
    by : (b : Bool) → (llid == 3) ≡ b → (if b then Some (ctrl_of body) else None) ≡ Some ctrl → IsControl llid body ctrl
    by true llid_is now = record { llid_is = eqb-true llid 3 llid_is; is = cc }
    by false llid_is now = absurd cc

-- ---- lines

-- the first line of a side on a link
pub line_here : (side : Side) (number : ℕ) (line : Entry) (lines : List Entry) → link_named line ≡ Some (side, number)
    → lines_of side number (line ∷ lines) ≡ line ∷ lines_of side number lines
line_here side number line lines named =
    lines_append side number (line ∷ []) lines
    ∙ ap (λ xs. xs ++ lines_of side number lines)
    (ap (λ may. where_of may) named ∙ named_here side number number line (eq-eqb number number refl))
  where
    where_of : Option (Side × ℕ) → List Entry
    where_of may = where_named side number may line ++ []

pub far_peripheral : (central : Side) → role_by central (other_side central) ≡ Peripheral
far_peripheral A = refl
far_peripheral B = refl

-- ---- in each run

-- a peripheral that takes the rejection of its procedure notes that it is refused
abbrev pub AreRefusedInRuns : Type 0
AreRefusedInRuns = (given : Given) (before rest : List Event) (octets : List ℕ) (room : Bool)
    (central peripheral : OpenEnd) (q : Exclusive) (code : ErrCode)
    → AreDistinct given.stations → HaveAddresses given
    → Contains given.stations central.station → Contains given.stations peripheral.station
    → history_of (run_of given) ≡ before ++ Called peripheral.station (PacketHeard octets) ∷ rest
    → AreEnds before central peripheral → HearEachInTurn given before central peripheral
    → HearNoMixed given (before ++ Called peripheral.station (PacketHeard octets) ∷ []) central peripheral
    → IsOpen given before central → IsOpen given before peripheral
    → link_listened (facts_at given peripheral.station before).turn.doing ≡ Some peripheral.handle
    → HasSentNow given before peripheral central (facts_in peripheral.link).event.channel octets
    → let setup = peripheral.link.setup in
    let slot = (facts_at given peripheral.station before).turn.slot in
    (taking : TakesRejection setup (facts_in peripheral.link) slot octets room q code)
    → IsRefused setup (seen setup slot octets (facts_in peripheral.link))
    (received setup slot octets room (facts_in peripheral.link)) taking.later q code

module _ (whole_heard : IsHeardWhole) (understood : IsUnderstood) (taken : AreTaken) (nth : AreNth) (apart : AreApart) (given : Given)
    (are_pair : IsOfTwo given) (six : HaveAddresses given) (mixed : Mixed) (follows : Follows given mixed) (refuses : AreRefusedInRuns) where
  -- what its call takes, and the far end
  module _ (front rest : List Entry) (side : Side) (number count llid : ℕ) (body : List ℕ)
      (is : journal_of (history_of (run_of given)) ≡ front ++ Took side number count llid body ∷ rest)
      (call : IsLineInCall given front (took_line side number count llid body))
      (heard : IsReception (setup_at given call.station) (facts_at given call.station call.base) call.step call.earlier call.handle count llid
      (record { items = body }))
      (far : HasFarEnd given call.station call.base call.handle) (unmixed : mixed number front ≡ false) (link : LinkBegun) (is_link : link_numbered number front ≡ Some link)
      (is_peripheral : role_on link side ≡ Peripheral) (q : Exclusive) (code : ErrCode)
      (ctrl : IsControl llid body (Known (RejectExtInd (opcode_of_kind q) code.0))) where
    abbrev line : LinkLine
    line = took_line side number count llid body

    abbrev station : ℕ
    station = call.station

    abbrev facts : Facts
    facts = facts_at given call.station call.base

    abbrev room : Bool
    room = has_room (setup_at given call.station) facts

    abbrev peripheral : OpenEnd
    peripheral = own_end call.station call.handle heard.link

    abbrev central : OpenEnd
    central = far_end given call.station call.base call.handle far

    on : is_in call.station given.stations ≡ true
    on = in_it understood taken given are_pair six front line call heard.link heard.is_open

    of : IsEndOfLine given front line call heard.link
    of = end_of_line understood taken given are_pair six front line call heard.link heard.is_open

    known : Some of.link_begun ≡ Some link
    known = sym of.is_link ∙ is_link

    role : heard.link.setup.link.role ≡ Peripheral
    role = sym (role_of_end link of.link_begun heard.link.setup.link.role side known of.central_is) ∙ is_peripheral

    two : AreEndsOf call.base (number_at call.station call.handle call.base) central peripheral
    two = are_ends understood taken given are_pair six call.base call.after call.station call.step call.called on call.handle heard.link heard.is_open role far

    own : heard.link.setup.link.handle ≡ call.handle
    own = handle_is 0 call.handle facts.links heard.link (own_handles (setup_at given call.station) (past_of call.station call.base)).handles heard.is_open

    abbrev taking : TakesRejection heard.link.setup (facts_in heard.link) facts.turn.slot heard.octets room q code
    taking = record {
      earlier = call.earlier;
      number = count;
      body = body;
      later = heard.rest;
      notes = heard.notes_are ∙ (λ i. call.earlier ++ TookNote (sym own i) count (ctrl.llid_is i) (record { items = body }) ∷ heard.rest);
      is = ctrl.is;
    }

    at : history_of (run_of given) ≡ call.base ++ Called call.station (PacketHeard heard.octets) ∷ call.after
    at = call.called ∙ ap (λ s. call.base ++ Called call.station s ∷ call.after) heard.step_is

    listens : link_listened facts.turn.doing ≡ Some call.handle
    listens = listens_is call.handle facts.turn.doing heard.listens

    in_far : is_in (other_of call.station) given.stations ≡ true
    in_far = other_in given are_pair call.station on

    distinct : AreDistinct given.stations
    distinct = are_distinct given are_pair

    refused : IsRefused heard.link.setup (seen heard.link.setup facts.turn.slot heard.octets (facts_in heard.link))
        (received heard.link.setup facts.turn.slot heard.octets room (facts_in heard.link)) heard.rest q code
    refused =
        refuses given call.base call.after heard.octets room central peripheral q code distinct six (is_of_two given are_pair (other_of call.station) in_far)
        (is_of_two given are_pair call.station on) at two.ends
        (hear_before understood taken apart given six distinct (are_two given 0 1 are_pair) call.base
        (Called call.station (PacketHeard heard.octets) ∷ call.after) heard.octets central peripheral in_far on two.ends at)
        (hear_in_call given mixed follows are_pair front line call unmixed heard.octets heard.step_is (number_at call.station call.handle call.base) central peripheral
        in_far on two of.number_is)
        far.is_open heard.is_open listens
        (sent_to_peripheral understood taken apart given six distinct (are_two given 0 1 are_pair) call.base call.after heard.octets central peripheral
        in_far on two.ends at heard.is_open listens
        (good_taken heard.link.setup (facts_in heard.link) heard.octets facts.turn.slot room call.earlier heard.rest
        (TookNote call.handle count llid (record { items = body })) heard.notes_are))
        taking

    abbrev refusal : Note
    refusal = RefusedNote call.handle (kind_of q) code

    begins : BeginWith (notes_after (setup_at given call.station) facts (PacketHeard heard.octets))
        (end_notes heard.link.setup (facts_in heard.link) (PacketReceived facts.turn.slot heard.octets room))
    begins = end_first (setup_at given call.station) facts heard.octets call.handle heard.link heard.is_open heard.listens

    later_is : call.later ≡ refusal ∷ begins.more
    later_is =
        let note = TookNote call.handle count llid (record { items = body }) in
        let notes : call.earlier ++ note ∷ call.later ≡ call.earlier ++ note ∷ refusal ∷ begins.more =
        sym call.notes_are ∙ ap (notes_after (setup_at given call.station) facts) heard.step_is ∙ begins.is
        ∙ ap (λ xs. xs ++ begins.more) (heard.notes_are
        ∙ ap (λ xs. call.earlier ++ note ∷ xs) (refused.refused ∙ ap (λ n. RefusedNote n (kind_of q) code ∷ []) own))
        ∙ append_assoc call.earlier (note ∷ refusal ∷ []) begins.more in
        let rests : note ∷ call.later ≡ note ∷ refusal ∷ begins.more = append_cancel_left call.earlier (note ∷ call.later)
        (note ∷ refusal ∷ begins.more) notes in cc

    abbrev tail : List Entry
    tail = journal_from (links_of call.before)
        (map (Noted call.station) begins.more ++ (whole given front rest (Took side number count llid body) line call is).more)

    rest_is : rest ≡ Refused side number (kind_of q) code ∷ tail
    rest_is =
        next_line given front rest (Took side number count llid body) line call is refusal begins.more later_is
        ∙ (λ i. Refused (call.side_is i) (call.number_is i) (kind_of q) code ∷ tail)

    pub refused_next : first_of (lines_of side number rest) ≡ Some (Refused side number (kind_of q) code)
    refused_next = ap first_of (ap (lines_of side number) rest_is ∙ line_here side number (Refused side number (kind_of q) code) tail refl)

  -- the line after that of the rejection
  line_refused : (front rest : List Entry) (number count llid : ℕ) (body : List ℕ) (link : LinkBegun) (p q : Kind)
      → journal_of (history_of (run_of given)) ≡ front ++ Took (other_side link.central) number count llid body ∷ rest
      → mixed number front ≡ false → link_numbered number front ≡ Some link → IsBegun q → IsRejection p q llid body
      → first_of (lines_of (other_side link.central) number rest) ≡ Some (Refused (other_side link.central) number q (collision_code p q))
  line_refused front rest number count llid body link p q is unmixed is_link begun rejects =
      let side = other_side link.central in
      let line = took_line side number count llid body in
      let call = line_in_call given front rest (Took side number count llid body) line refl is in
      let station = call.station in
      let base = call.base in
      let heard = reception_of (setup_at given station) (past_of station base) call.earlier call.later call.handle count llid (record { items = body })
      call.step call.notes_are in
      let at : history_of (run_of given) ≡ base ++ Called station (PacketHeard heard.octets) ∷ call.after =
      call.called ∙ ap (λ s. base ++ Called station s ∷ call.after) heard.step_is in
      let far = far_before whole_heard understood taken nth apart given are_pair six base call.after station heard.octets at call.handle heard.link heard.is_open
      heard.listens heard.unforged in
      let ctrl = is_control llid body (Known (RejectExtInd (opcode_of_kind begun.q) (collision_code p q).0))
      (rejects ∙ ap (λ n. Some (Known (RejectExtInd n (collision_code p q).0))) begun.opcode_is) in
      refused_next front rest side number count llid body is call heard far unmixed link is_link (far_peripheral link.central) begun.q (collision_code p q) ctrl
      ∙ ap (λ kind. Some (Refused side number kind (collision_code p q))) begun.kind_is

  pub all_refused : AllAreRefused mixed (journal_of (history_of (run_of given)))
  all_refused front between later rest link number count llid body next_count next_llid next p q is unmixed collides none rejects =
      let sent = Sent link.central number next_count next_llid next in
      let took = Took link.central number count llid body in
      line_refused (front ++ took ∷ between ++ sent ∷ later) rest number next_count next_llid next link p q is unmixed
      (number_stays number (front ++ took ∷ between) (sent ∷ later) link (number_stays number front (took ∷ between) link collides.is_link))
      (begun_kind (control_in llid body) q collides.first) rejects

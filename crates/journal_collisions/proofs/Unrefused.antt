-- A central of a run takes no refusal of a procedure of its own that excludes others.
use Rattle.std.proofs.Common.{◌≡◌, ℕ, Bool, true, false, Some, List, [], ◌∷◌, ◌++◌, refl, sym, ap, ◌∙◌}
use Rattle.std.specs.List.{Contains}
use Rattle.ble_base.specs.declared.notes.Note.TheVariants.{Took as TookNote}
use Rattle.ble_base.specs.declared.roles.Role.TheVariants.{Central}
use Rattle.data_pdu.specs.Reading.{ctrl_of}
use Rattle.data_pdu.specs.declared.ctrl.Ctrl.{Ctrl}
use Rattle.data_pdu.specs.declared.ctrl.CtrlRead.TheVariants.{Known}
use Rattle.journal.specs.declared.entries.Entry.{Entry}
use Rattle.journal.specs.declared.entries.Entry.TheVariants.{Took}
use Rattle.journal_endings.specs.controller_model.Facts.{Facts}
use Rattle.journal_endings.specs.controller_model.Heard.{has_room}
use Rattle.journal_endings.specs.controller_model.Step.{PacketHeard}
use Rattle.journal_endings.proofs.controller_model.Handles.{own_handles}
use Rattle.journal_endings.specs.journal_indications.journal_data.journal_links.Begun.{LinkBegun, link_numbered}
use Rattle.journal_endings.specs.journal_indications.journal_data.open_links.OpenLinks.{facts_in}
use Rattle.journal_endings.specs.journal_indications.journal_data.run_laws.Ends.{AreEnds, IsOpen, OpenEnd, link_listened}
use Rattle.journal_endings.specs.journal_indications.journal_data.run_model.Feeding.{AreDistinct}
use Rattle.journal_endings.specs.journal_indications.journal_data.run_model.History.{Called, Event, past_of}
use Rattle.journal_endings.specs.journal_indications.journal_data.run_model.Journal.{journal_of}
use Rattle.journal_endings.specs.journal_indications.journal_data.run_model.LinkEnds.{HaveAddresses}
use Rattle.journal_endings.specs.journal_indications.journal_data.run_model.NoteLines.{IsLineInCall, LinkLine, took_line}
use Rattle.journal_endings.specs.journal_indications.journal_data.run_model.Run.{Given, facts_at, history_of, run_of, setup_at}
use Rattle.journal_endings.proofs.link_calls.run_laws.TwoStations.{are_two}
use Rattle.journal_endings.specs.journal_indications.journal_data.Followed.{Follows, Mixed}
use Rattle.journal_endings.proofs.journal_indications.journal_data.Followed.{AreEndsOf, hear_in_call, is_of_two}
use Rattle.journal_endings.proofs.journal_indications.journal_data.KeptData.{other_in}
use Rattle.journal_endings.proofs.journal_indications.journal_data.PairedEnds.{far_end, own_end}
use Rattle.journal_endings.proofs.journal_indications.journal_data.journal_acks.Exchanging.{number_at}
use Rattle.journal_endings.proofs.journal_indications.journal_data.Mine.{HasFarEnd}
use Rattle.journal_endings.proofs.journal_indications.journal_data.journal_acks.TwoStations.{IsOfTwo, other_of}
use Rattle.journal_endings.proofs.journal_indications.journal_data.journal_links.OfTwo.{are_distinct}
use Rattle.journal_endings.proofs.journal_indications.journal_data.journal_packets.AccessOrder.{AreNth}
use Rattle.journal_endings.proofs.journal_indications.journal_data.link_model.Hearing.{IsHeardWhole}
use Rattle.journal_endings.proofs.journal_indications.journal_data.open_links.Handles.{handle_is}
use Rattle.journal_endings.proofs.journal_indications.journal_data.run_laws.DistinctAccess.{AreApart}
use Rattle.journal_endings.proofs.journal_indications.journal_data.run_model.LinkEnds.{AreTaken, IsUnderstood}
use Rattle.journal_endings.proofs.journal_indications.journal_data.run_model.NoteLines.{line_in_call}
use Rattle.journal_endings.proofs.journal_indications.journal_data.run_model.Stations.{is_in}
use Rattle.journal_endings.proofs.journal_indications.FarEnds.{far_before}
use Rattle.journal_endings.proofs.journal_indications.InTime.{role_of_end}
use Rattle.journal_endings.proofs.journal_indications.LineEnds.{IsEndOfLine, end_of_line, in_it}
use Rattle.journal_endings.proofs.journal_indications.Receptions.{IsReception, reception_of}
use Rattle.journal_endings.proofs.run_pairs.FarPackets.{listens_is}
use Rattle.run_collisions.specs.Refused.{is_refusing}
use Rattle.run_collisions.specs.Taking.{TakesControl}
use Rattle.run_collisions.proofs.OfPairs.{good_taken, hear_before, sent_to_central}
use Rattle.journal_endings.specs.run_pairs.InTurns.{HasSentNow, HearEachInTurn, HearNoMixed}
use Rattle.journal_collisions.proofs.CollidingLines.{central_by, central_ends}

-- what a central of a run takes refuses none of its procedures
abbrev pub AreUnrefusedInRuns : Type 0
AreUnrefusedInRuns = (given : Given) (before rest : List Event) (octets : List ℕ) (room : Bool)
    (central peripheral : OpenEnd)
    → AreDistinct given.stations → HaveAddresses given
    → Contains given.stations central.station → Contains given.stations peripheral.station
    → history_of (run_of given) ≡ before ++ Called central.station (PacketHeard octets) ∷ rest
    → AreEnds before central peripheral → HearEachInTurn given before central peripheral
    → HearNoMixed given (before ++ Called central.station (PacketHeard octets) ∷ []) central peripheral
    → IsOpen given before central → IsOpen given before peripheral
    → link_listened (facts_at given central.station before).turn.doing ≡ Some central.handle
    → HasSentNow given before central peripheral (facts_in central.link).event.channel octets
    → let slot = (facts_at given central.station before).turn.slot in
    (taking : TakesControl central.link.setup (facts_in central.link) slot octets room)
    → is_refusing taking.ctrl ≡ false

module _ (whole_heard : IsHeardWhole) (understood : IsUnderstood) (taken : AreTaken) (nth : AreNth) (apart : AreApart) (given : Given)
    (are_pair : IsOfTwo given) (six : HaveAddresses given) (mixed : Mixed) (follows : Follows given mixed) (unrefused : AreUnrefusedInRuns) where
  module _ (front : List Entry) (link : LinkBegun) (number count llid : ℕ) (body : List ℕ) (is_link : link_numbered number front ≡ Some link)
      (call : IsLineInCall given front (took_line link.central number count llid body))
      (heard : IsReception (setup_at given call.station) (facts_at given call.station call.base) call.step call.earlier call.handle count llid
      (record { items = body }))
      (far : HasFarEnd given call.station call.base call.handle) (unmixed : mixed number front ≡ false) (three : llid ≡ 3) (ctrl : Ctrl) (is : ctrl_of body ≡ Known ctrl) where
    abbrev line : LinkLine
    line = took_line link.central number count llid body

    abbrev facts : Facts
    facts = facts_at given call.station call.base

    abbrev room : Bool
    room = has_room (setup_at given call.station) facts

    abbrev central : OpenEnd
    central = own_end call.station call.handle heard.link

    abbrev peripheral : OpenEnd
    peripheral = far_end given call.station call.base call.handle far

    on : is_in call.station given.stations ≡ true
    on = in_it understood taken given are_pair six front line call heard.link heard.is_open

    of : IsEndOfLine given front line call heard.link
    of = end_of_line understood taken given are_pair six front line call heard.link heard.is_open

    role : heard.link.setup.link.role ≡ Central
    role =
        sym (role_of_end link of.link_begun heard.link.setup.link.role link.central (sym of.is_link ∙ is_link) of.central_is)
        ∙ central_by link.central

    at : history_of (run_of given) ≡ call.base ++ Called call.station (PacketHeard heard.octets) ∷ call.after
    at = call.called ∙ ap (λ s. call.base ++ Called call.station s ∷ call.after) heard.step_is

    two : AreEndsOf call.base (number_at call.station call.handle call.base) central peripheral
    two = central_ends understood taken given are_pair six call.base call.after call.station call.step call.called on call.handle heard.link heard.is_open role
        far

    own : heard.link.setup.link.handle ≡ call.handle
    own = handle_is 0 call.handle facts.links heard.link (own_handles (setup_at given call.station) (past_of call.station call.base)).handles heard.is_open

    abbrev taking : TakesControl heard.link.setup (facts_in heard.link) facts.turn.slot heard.octets room
    taking = record {
      earlier = call.earlier;
      number = count;
      body = body;
      later = heard.rest;
      notes = heard.notes_are ∙ (λ i. call.earlier ++ TookNote (sym own i) count (three i) (record { items = body }) ∷ heard.rest);
      ctrl = ctrl;
      is = is;
    }

    in_far : is_in (other_of call.station) given.stations ≡ true
    in_far = other_in given are_pair call.station on

    unrefused_here : is_refusing ctrl ≡ false
    unrefused_here =
        let distinct = are_distinct given are_pair in
        let listens = listens_is call.handle facts.turn.doing heard.listens in
        unrefused given call.base call.after heard.octets room central peripheral distinct six
        (is_of_two given are_pair call.station on) (is_of_two given are_pair (other_of call.station) in_far) at two.ends
        (hear_before understood taken apart given six distinct (are_two given 0 1 are_pair) call.base
        (Called call.station (PacketHeard heard.octets) ∷ call.after) heard.octets central peripheral on in_far two.ends at)
        (hear_in_call given mixed follows are_pair front line call unmixed heard.octets heard.step_is (number_at call.station call.handle call.base) central peripheral
        on in_far two of.number_is)
        heard.is_open far.is_open listens
        (sent_to_central understood taken apart given six distinct (are_two given 0 1 are_pair) call.base call.after heard.octets central peripheral
        on in_far two.ends at heard.is_open listens
        (good_taken heard.link.setup (facts_in heard.link) heard.octets facts.turn.slot room call.earlier heard.rest
        (TookNote call.handle count llid (record { items = body })) heard.notes_are))
        taking

  pub line_unrefused : (front rest : List Entry) (link : LinkBegun) (number count llid : ℕ) (body : List ℕ) (ctrl : Ctrl)
      → journal_of (history_of (run_of given)) ≡ front ++ Took link.central number count llid body ∷ rest → mixed number front ≡ false → link_numbered number front ≡ Some link
      → llid ≡ 3 → ctrl_of body ≡ Known ctrl → is_refusing ctrl ≡ false
  line_unrefused front rest link number count llid body ctrl journal_is unmixed is_link three is =
      let line = took_line link.central number count llid body in
      let call = line_in_call given front rest (Took link.central number count llid body) line refl journal_is in
      let heard = reception_of (setup_at given call.station) (past_of call.station call.base) call.earlier call.later call.handle count llid
      (record { items = body }) call.step call.notes_are in
      let at : history_of (run_of given) ≡ call.base ++ Called call.station (PacketHeard heard.octets) ∷ call.after =
      call.called ∙ ap (λ s. call.base ++ Called call.station s ∷ call.after) heard.step_is in
      let far = far_before whole_heard understood taken nth apart given are_pair six call.base call.after call.station heard.octets at call.handle heard.link
      heard.is_open heard.listens heard.unforged in
      unrefused_here front link number count llid body is_link call heard far unmixed three ctrl is

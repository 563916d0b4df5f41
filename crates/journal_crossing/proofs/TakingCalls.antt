-- A call in which a side takes a PDU: the end that takes it, and the far end.
use Rattle.std.proofs.Common.{◌≡◌, ℕ, Bool, true, false, Some, List, [], ◌∷◌, ◌++◌, cond, length, map, refl, sym, ap, subst, ◌∙◌, append-nil, append_assoc}
use Rattle.std.specs.List.{AllByRecursion, Contains, filter}
use Rattle.ble_base.specs.Side.{other_side}
use Rattle.ble_base.specs.declared.notes.Note.{Note}
use Rattle.ble_base.specs.declared.notes.Note.TheVariants.{Took as TookNote}
use Rattle.ble_base.specs.declared.roles.Role.{Role}
use Rattle.ble_base.specs.declared.roles.Role.TheVariants.{Central, Peripheral}
use Rattle.ble_base.specs.declared.roles.Side.{Side}
use Rattle.data_pdu.specs.Reading.{ctrl_of}
use Rattle.data_pdu.specs.declared.ctrl.CtrlRead.TheVariants.{Known}
use Rattle.journal.specs.declared.entries.Entry.{Entry}
use Rattle.journal_collisions.specs.journal_endings.controller_model.Facts.{Facts}
use Rattle.journal_collisions.specs.journal_endings.controller_model.Heard.{has_room}
use Rattle.journal_collisions.specs.journal_endings.controller_model.Since.{notes_opened_on}
use Rattle.journal_collisions.specs.journal_endings.controller_model.Step.{PacketHeard}
use Rattle.journal_collisions.specs.journal_endings.run_pairs.InTurns.{HasSentNow, HearEachInTurn, HearNoMixed}
use Rattle.journal_collisions.specs.journal_links.LinkLines.{line_of, lines_of}
use Rattle.journal_collisions.specs.journal_data.link_model.Controls.{is_procedure_pdu}
use Rattle.journal_collisions.specs.journal_data.link_model.End.{notes_after as end_notes, notes_of as end_notes_of}
use Rattle.journal_collisions.specs.journal_data.link_model.Numbers.{is_sent_note}
use Rattle.journal_collisions.specs.journal_data.link_model.OneLink.{AreInAgreement}
use Rattle.journal_collisions.specs.journal_data.link_model.Packets.{good_pdu}
use Rattle.journal_collisions.specs.journal_data.link_model.Setup.{Setup as EndSetup}
use Rattle.journal_collisions.specs.journal_data.link_model.Step.{PacketReceived}
use Rattle.journal_collisions.specs.journal_data.open_links.OpenLinks.{OpenLink, facts_in}
use Rattle.journal_collisions.specs.journal_data.run_laws.Ends.{AreEnds, IsOpen, OpenEnd, link_listened}
use Rattle.journal_collisions.specs.journal_data.run_model.Feeding.{AreDistinct, HasNoted}
use Rattle.journal_collisions.specs.journal_data.run_model.History.{Called, Event, Noted, noted_by, past_of}
use Rattle.journal_collisions.specs.journal_data.run_model.Journal.{journal_from, journal_of, side_of}
use Rattle.journal_collisions.specs.journal_data.run_model.LinkEnds.{HaveAddresses}
use Rattle.journal_collisions.specs.journal_data.run_model.Links.{links_of}
use Rattle.journal_collisions.specs.journal_data.run_model.NoteLines.{IsLineInCall, LinkLine, took_line}
use Rattle.journal_collisions.specs.journal_data.run_model.Run.{Given, facts_at, history_of, run_of, setup_at}
use Rattle.journal_collisions.specs.link_pairs.Ends.{is_lasting}
use Rattle.journal_collisions.specs.run_collisions.Taking.{TakesControl}
use Rattle.journal_collisions.proofs.CollidingLines.{central_ends}
use Rattle.journal_collisions.proofs.EndLines.{end_lines, first_on, rest_on, under_all}
use Rattle.journal_collisions.proofs.journal_endings.controller_model.EndNotes.{received_each}
use Rattle.journal_collisions.proofs.journal_endings.controller_model.Handles.{own_handles}
use Rattle.journal_collisions.proofs.journal_endings.controller_model.UnderNotes.{AreOn, end_on}
use Rattle.journal_collisions.proofs.journal_endings.link_calls.run_laws.TwoStations.{are_two}
use Rattle.journal_collisions.proofs.journal_endings.journal_indications.FarEnds.{far_before}
use Rattle.journal_collisions.proofs.journal_endings.journal_indications.LineEnds.{IsEndOfLine, end_of_line, in_it}
use Rattle.journal_collisions.proofs.journal_endings.journal_indications.Receptions.{IsReception, reception_of}
use Rattle.journal_collisions.specs.journal_data.Followed.{Follows, Mixed}
use Rattle.journal_collisions.proofs.journal_endings.journal_indications.journal_data.Followed.{AreEndsOf, hear_fewer, hear_in_call, is_of_two}
use Rattle.journal_collisions.proofs.journal_endings.journal_indications.journal_data.KeptData.{other_in}
use Rattle.journal_collisions.proofs.journal_endings.journal_indications.journal_data.PairedEnds.{are_ends, far_end, far_side, own_end}
use Rattle.journal_collisions.proofs.journal_endings.journal_indications.journal_data.journal_acks.Exchanging.{number_at}
use Rattle.journal_collisions.proofs.journal_endings.journal_indications.journal_data.Mine.{HasFarEnd}
use Rattle.journal_collisions.proofs.journal_endings.journal_indications.journal_data.OneCall.{other_not}
use Rattle.journal_collisions.proofs.journal_endings.journal_indications.journal_data.journal_acks.TwoStations.{IsOfTwo, other_of}
use Rattle.journal_collisions.proofs.journal_endings.journal_indications.journal_data.journal_links.LineNotes.{lines_of_end}
use Rattle.journal_collisions.proofs.journal_endings.journal_indications.journal_data.journal_links.LinkLines.{IsApart, lines_append, none_since}
use Rattle.journal_collisions.proofs.journal_endings.journal_indications.journal_data.journal_links.OfTwo.{are_distinct, two_apart}
use Rattle.journal_collisions.proofs.journal_endings.journal_indications.journal_data.journal_packets.AccessOrder.{AreNth}
use Rattle.journal_collisions.proofs.journal_endings.journal_indications.journal_data.link_model.Hearing.{IsHeardWhole}
use Rattle.journal_collisions.proofs.journal_endings.journal_indications.journal_data.link_model.Pasts.{notes_grow}
use Rattle.journal_collisions.proofs.journal_endings.journal_indications.journal_data.open_links.Handles.{handle_is}
use Rattle.journal_collisions.proofs.journal_endings.journal_indications.journal_data.run_laws.Agreed.{exchange}
use Rattle.journal_collisions.proofs.journal_endings.journal_indications.journal_data.run_laws.DistinctAccess.{AreApart}
use Rattle.journal_collisions.proofs.journal_endings.journal_indications.journal_data.run_model.Calls.{noted_called}
use Rattle.journal_collisions.proofs.journal_endings.journal_indications.journal_data.run_model.LinkEnds.{AreTaken, IsUnderstood}
use Rattle.journal_collisions.proofs.journal_endings.journal_indications.journal_data.run_model.Notes.{NotedBefore, run_noted}
use Rattle.journal_collisions.proofs.journal_endings.journal_indications.journal_data.run_model.Numbers.{numbered_at}
use Rattle.journal_collisions.proofs.journal_endings.journal_indications.journal_data.run_model.Parts.{journal_more}
use Rattle.journal_collisions.proofs.journal_endings.journal_indications.journal_data.run_model.Places.{each_at}
use Rattle.journal_collisions.proofs.journal_endings.journal_indications.journal_data.run_model.Stations.{is_in}
use Rattle.journal_collisions.proofs.run_collisions.OfPairs.{good_taken, hear_before, sent_to_central, sent_to_peripheral}
use Rattle.journal_collisions.proofs.journal_endings.run_pairs.FarPackets.{listens_is as listened}
use Rattle.journal_crossing.specs.Crossing.{IsKnownControl}

-- ---- each run

-- what holds of a central, or of a peripheral, that takes a control PDU of the far end
abbrev pub OfCentrals : (OpenEnd → OpenEnd → Type 0) → Type 0
OfCentrals P = (given : Given) (before rest : List Event) (octets : List ℕ) (room : Bool) (central peripheral : OpenEnd)
    → AreDistinct given.stations → HaveAddresses given
    → Contains given.stations central.station → Contains given.stations peripheral.station
    → history_of (run_of given) ≡ before ++ Called central.station (PacketHeard octets) ∷ rest
    → AreEnds before central peripheral → HearEachInTurn given before central peripheral
    → HearNoMixed given (before ++ Called central.station (PacketHeard octets) ∷ []) central peripheral
    → IsOpen given before central → IsOpen given before peripheral
    → link_listened (facts_at given central.station before).turn.doing ≡ Some central.handle
    → HasSentNow given before central peripheral (facts_in central.link).event.channel octets
    → let slot = (facts_at given central.station before).turn.slot in
    TakesControl central.link.setup (facts_in central.link) slot octets room → P central peripheral

abbrev pub OfPeripherals : (OpenEnd → OpenEnd → Type 0) → Type 0
OfPeripherals P = (given : Given) (before rest : List Event) (octets : List ℕ) (room : Bool) (central peripheral : OpenEnd)
    → AreDistinct given.stations → HaveAddresses given
    → Contains given.stations central.station → Contains given.stations peripheral.station
    → history_of (run_of given) ≡ before ++ Called peripheral.station (PacketHeard octets) ∷ rest
    → AreEnds before central peripheral → HearEachInTurn given before central peripheral
    → HearNoMixed given (before ++ Called peripheral.station (PacketHeard octets) ∷ []) central peripheral
    → IsOpen given before central → IsOpen given before peripheral
    → link_listened (facts_at given peripheral.station before).turn.doing ≡ Some peripheral.handle
    → HasSentNow given before peripheral central (facts_in peripheral.link).event.channel octets
    → let slot = (facts_at given peripheral.station before).turn.slot in
    TakesControl peripheral.link.setup (facts_in peripheral.link) slot octets room → P central peripheral

-- the far end has taken the last control PDU of this end
abbrev pub LastIsTaken : OpenLink → OpenLink → Type 0
LastIsTaken own far =
    is_procedure_pdu (facts_in own).acknowledgement.last ≡ true
    → length (facts_in far).acknowledgement.accepted ≡ length (facts_in own).acknowledgement.sent

-- both ends agree
abbrev pub OfEnds : Type 0
OfEnds = (given : Given) (before rest : List Event) (central peripheral : OpenEnd)
    → AreDistinct given.stations → HaveAddresses given
    → Contains given.stations central.station → Contains given.stations peripheral.station
    → history_of (run_of given) ≡ before ++ rest
    → AreEnds before central peripheral → HearEachInTurn given before central peripheral
    → HearNoMixed given before central peripheral
    → IsOpen given before central → IsOpen given before peripheral
    → AreInAgreement (facts_in central.link).acknowledgement (facts_in peripheral.link).acknowledgement

-- what each law says of runs
pub record AreKnownInRuns : Type 0 where
  pub central : OfCentrals (λ central peripheral. LastIsTaken central.link peripheral.link)
  pub peripheral : OfPeripherals (λ central peripheral. LastIsTaken peripheral.link central.link)
  pub lasts : OfPeripherals (λ central peripheral. is_lasting (facts_in peripheral.link) ≡ true)
  pub agree : OfEnds

-- ---- notes of what is received

none_first : (first rest : List Note) → AllByRecursion (λ note. is_sent_note note ≡ false) (first ++ rest) → filter is_sent_note first ≡ []
none_first [] rest none = refl
none_first (note ∷ first) rest none =
    (λ i. cond (none.0 i) (note ∷ filter is_sent_note first) (filter is_sent_note first)) ∙ none_first first rest none.1

-- ---- a line in which a PDU is taken

module _ (whole_heard : IsHeardWhole) (understood : IsUnderstood) (taken : AreTaken) (nth : AreNth) (apart : AreApart) (given : Given)
    (are_pair : IsOfTwo given) (six : HaveAddresses given) (front : List Entry) (side : Side) (number count llid : ℕ) (body : List ℕ)
    (call : IsLineInCall given front (took_line side number count llid body)) where
  abbrev line : LinkLine
  line = took_line side number count llid body

  abbrev facts : Facts
  facts = facts_at given call.station call.base

  abbrev note : Note
  note = TookNote call.handle count llid (record { items = body })

  pub heard : IsReception (setup_at given call.station) facts call.step call.earlier call.handle count llid (record { items = body })
  heard =
      reception_of (setup_at given call.station) (past_of call.station call.base) call.earlier call.later call.handle count llid (record { items = body })
      call.step call.notes_are

  abbrev setup : EndSetup
  setup = heard.link.setup

  abbrev room : Bool
  room = has_room (setup_at given call.station) facts

  pub at : history_of (run_of given) ≡ call.base ++ Called call.station (PacketHeard heard.octets) ∷ call.after
  at = call.called ∙ ap (λ s. call.base ++ Called call.station s ∷ call.after) heard.step_is

  pub far : HasFarEnd given call.station call.base call.handle
  far = far_before whole_heard understood taken nth apart given are_pair six call.base call.after call.station heard.octets at call.handle heard.link
      heard.is_open heard.listens heard.unforged

  abbrev distinct : AreDistinct given.stations
  distinct = are_distinct given are_pair

  on : is_in call.station given.stations ≡ true
  on = in_it understood taken given are_pair six front line call heard.link heard.is_open

  pub of : IsEndOfLine given front line call heard.link
  of = end_of_line understood taken given are_pair six front line call heard.link heard.is_open

  in_far : is_in (other_of call.station) given.stations ≡ true
  in_far = other_in given are_pair call.station on

  own : heard.link.setup.link.handle ≡ call.handle
  own = handle_is 0 call.handle facts.links heard.link (own_handles (setup_at given call.station) (past_of call.station call.base)).handles heard.is_open

  -- ---- what its lines say before

  all_on : AreOn call.handle (end_notes setup (facts_in heard.link) (PacketReceived facts.turn.slot heard.octets room))
  all_on =
      subst (λ n. AreOn n (end_notes setup (facts_in heard.link) (PacketReceived facts.turn.slot heard.octets room))) own
      (rest_on setup.link.handle (end_notes_of setup heard.link.past) _
      (subst (AreOn setup.link.handle) (notes_grow setup heard.link.past (PacketReceived facts.turn.slot heard.octets room))
      (end_on setup (heard.link.past ++ PacketReceived facts.turn.slot heard.octets room ∷ []))))

  pub lines_are : lines_of side number front ≡ map (line_of side number) (notes_opened_on heard.link.setup heard.link.past ++ call.earlier)
  lines_are =
      end_lines understood taken given are_pair six front line call heard.link heard.is_open
      ∙ ap (map (line_of side number)) (under_all call.handle (notes_opened_on setup heard.link.past) call.earlier
      (first_on call.handle call.earlier _ (subst (AreOn call.handle) heard.notes_are all_on)))

  pub none_sent : filter is_sent_note call.earlier ≡ []
  none_sent =
      none_first call.earlier (note ∷ heard.rest)
      (subst (AllByRecursion (λ one. is_sent_note one ≡ false)) heard.notes_are
      (received_each (λ one. is_sent_note one ≡ false) setup facts.turn.slot room (good_pdu setup (facts_in heard.link) heard.octets)
      (facts_in heard.link) (record { took = λ n l o. refl; refused = λ kind code. refl; done = λ kind. refl })))

  -- ---- what the lines of the far end say before

  apart_far : IsApart given (other_of call.station)
  apart_far = two_apart given are_pair (other_of call.station) in_far

  abbrev events : List Event
  events = Called call.station call.step ∷ map (Noted call.station) call.earlier

  noted_far : HasNoted given (other_of call.station) call.base
  noted_far =
      each_at (NotedBefore given) (history_of (run_of given)) call.base call.after (Called call.station call.step) (run_noted given).each call.called refl
      (other_of call.station)

  quiet : noted_by (other_of call.station) events ≡ []
  quiet = noted_called (other_of call.station) call.station call.step call.earlier [] false (other_not call.station)

  placed : history_of (run_of given) ≡ call.base ++ (events ++ Noted call.station note ∷ call.rest)
  placed = call.is_at ∙ ap (λ xs. xs ++ Noted call.station note ∷ call.rest) call.before_is ∙ append_assoc call.base events (Noted call.station note ∷ call.rest)

  abbrev far_notes : List Note
  far_notes = notes_opened_on far.far.setup far.far.past

  far_before_call : lines_of (side_of (other_of call.station)) number (journal_of call.base) ≡ map (line_of (side_of (other_of call.station)) number) far_notes
  far_before_call =
      let s = side_of (other_of call.station) in
      subst (λ n. lines_of s n (journal_of call.base) ≡ map (line_of s n) far_notes) (far.same ∙ of.number_is)
      (lines_of_end understood taken given distinct six (other_of call.station) apart_far call.base (Called call.station call.step ∷ call.after) far.far_handle
      far.far call.called (numbered_at understood taken given call.base call.after (Called call.station call.step) distinct six call.called refl)
      noted_far far.is_open)

  far_then : lines_of (side_of (other_of call.station)) number (journal_of call.before) ≡ map (line_of (side_of (other_of call.station)) number) far_notes
  far_then =
      let s = side_of (other_of call.station) in
      ap (λ xs. lines_of s number (journal_of xs)) call.before_is ∙ ap (lines_of s number) (journal_more call.base events)
      ∙ lines_append s number (journal_of call.base) (journal_from (links_of call.base) events)
      ∙ ap (λ xs. lines_of s number (journal_of call.base) ++ xs)
      (none_since given (other_of call.station) apart_far call.base events (Noted call.station note ∷ call.rest) number (links_of call.base) placed quiet)
      ∙ append-nil (lines_of s number (journal_of call.base)) ∙ far_before_call

  pub far_lines : lines_of (other_side side) number front ≡ map (line_of (other_side side) number) (notes_opened_on far.far.setup far.far.past)
  far_lines =
      subst (λ s. lines_of s number front ≡ map (line_of s number) far_notes) (sym (far_side call.station) ∙ ap other_side call.side_is)
      (subst (λ xs. lines_of (side_of (other_of call.station)) number xs ≡ map (line_of (side_of (other_of call.station)) number) far_notes)
      (sym call.front_is) far_then)

  -- ---- the law at this call

  abbrev own_open : OpenEnd
  own_open = own_end call.station call.handle heard.link

  abbrev far_open : OpenEnd
  far_open = far_end given call.station call.base call.handle far

  listens : link_listened facts.turn.doing ≡ Some call.handle
  listens = listened call.handle facts.turn.doing heard.listens

  module _ (mixed : Mixed) (follows : Follows given mixed) (unmixed : mixed number front ≡ false) (known : AreKnownInRuns) (three : llid ≡ 3)
      (control : IsKnownControl llid body) (is : ctrl_of body ≡ Known control.ctrl) where
    abbrev taking : TakesControl heard.link.setup (facts_in heard.link) facts.turn.slot heard.octets room
    taking = record {
      earlier = call.earlier;
      number = count;
      body = body;
      later = heard.rest;
      notes = heard.notes_are ∙ (λ i. call.earlier ++ TookNote (sym own i) count (three i) (record { items = body }) ∷ heard.rest);
      ctrl = control.ctrl;
      is = is;
    }

    abbrev own_number : ℕ
    own_number = number_at call.station call.handle call.base

    -- two ends of the link have heard no packet that is mixed
    no_mixed : (central peripheral : OpenEnd) → is_in central.station given.stations ≡ true → is_in peripheral.station given.stations ≡ true
        → AreEndsOf call.base own_number central peripheral
        → HearNoMixed given (call.base ++ Called call.station (PacketHeard heard.octets) ∷ []) central peripheral
    no_mixed central peripheral in_it in_too two =
        hear_in_call given mixed follows are_pair front line call unmixed heard.octets heard.step_is own_number central peripheral in_it in_too two of.number_is

    in_turn : (central peripheral : OpenEnd) → is_in central.station given.stations ≡ true → is_in peripheral.station given.stations ≡ true
        → AreEndsOf call.base own_number central peripheral → HearEachInTurn given call.base central peripheral
    in_turn central peripheral in_it in_too two =
        hear_before understood taken apart given six distinct (are_two given 0 1 are_pair) call.base
        (Called call.station (PacketHeard heard.octets) ∷ call.after) heard.octets central peripheral in_it in_too two.ends at

    agreed : (central peripheral : OpenEnd) → is_in central.station given.stations ≡ true → is_in peripheral.station given.stations ≡ true
        → AreEndsOf call.base own_number central peripheral → IsOpen given call.base central → IsOpen given call.base peripheral
        → AreInAgreement (facts_in central.link).acknowledgement (facts_in peripheral.link).acknowledgement
    agreed central peripheral in_it in_too two is_open is_open_too =
        known.agree given call.base (Called call.station (PacketHeard heard.octets) ∷ call.after) central peripheral distinct six
        (is_of_two given are_pair central.station in_it) (is_of_two given are_pair peripheral.station in_too) at two.ends (in_turn central peripheral in_it in_too two)
        (hear_fewer given call.base (Called call.station (PacketHeard heard.octets) ∷ []) central peripheral (no_mixed central peripheral in_it in_too two))
        is_open is_open_too

    -- of a central
    central_here : heard.link.setup.link.role ≡ Central → AreEndsOf call.base own_number own_open far_open
    central_here role =
        central_ends understood taken given are_pair six call.base call.after call.station call.step call.called on call.handle heard.link heard.is_open role far

    of_central : (P : OpenEnd → OpenEnd → Type 0) → OfCentrals P → heard.link.setup.link.role ≡ Central → P own_open far_open
    of_central P law role =
        let two = central_here role in
        law given call.base call.after heard.octets room own_open far_open distinct six
        (is_of_two given are_pair call.station on) (is_of_two given are_pair (other_of call.station) in_far) at two.ends
        (in_turn own_open far_open on in_far two) (no_mixed own_open far_open on in_far two) heard.is_open far.is_open listens
        (sent_to_central understood taken apart given six distinct (are_two given 0 1 are_pair) call.base call.after heard.octets own_open far_open
        on in_far two.ends at heard.is_open listens
        (good_taken heard.link.setup (facts_in heard.link) heard.octets facts.turn.slot room call.earlier heard.rest note heard.notes_are))
        taking

    -- of a peripheral
    peripheral_here : heard.link.setup.link.role ≡ Peripheral → AreEndsOf call.base own_number far_open own_open
    peripheral_here role =
        are_ends understood taken given are_pair six call.base call.after call.station call.step call.called on call.handle heard.link heard.is_open role far

    of_peripheral : (P : OpenEnd → OpenEnd → Type 0) → OfPeripherals P → heard.link.setup.link.role ≡ Peripheral → P far_open own_open
    of_peripheral P law role =
        let two = peripheral_here role in
        law given call.base call.after heard.octets room far_open own_open distinct six
        (is_of_two given are_pair (other_of call.station) in_far) (is_of_two given are_pair call.station on) at two.ends
        (in_turn far_open own_open in_far on two) (no_mixed far_open own_open in_far on two) far.is_open heard.is_open listens
        (sent_to_peripheral understood taken apart given six distinct (are_two given 0 1 are_pair) call.base call.after heard.octets far_open own_open
        in_far on two.ends at heard.is_open listens
        (good_taken heard.link.setup (facts_in heard.link) heard.octets facts.turn.slot room call.earlier heard.rest note heard.notes_are))
        taking

    -- the far end took its last control PDU
    pub record IsTakenThere : Type 0 where
      pub agree : AreInAgreement (facts_in heard.link).acknowledgement (facts_in far.far).acknowledgement
      pub last : LastIsTaken heard.link far.far

    there_by : (role : Role) → heard.link.setup.link.role ≡ role → IsTakenThere
    there_by Central role = record {
      agree = agreed own_open far_open on in_far (central_here role) heard.is_open far.is_open;
      last = of_central (λ central peripheral. LastIsTaken central.link peripheral.link) known.central role;
    }
    there_by Peripheral role = record {
      agree = exchange (facts_in far.far).acknowledgement (facts_in heard.link).acknowledgement
          (agreed far_open own_open in_far on (peripheral_here role) far.is_open heard.is_open);
      last = of_peripheral (λ central peripheral. LastIsTaken peripheral.link central.link) known.peripheral role;
    }

    pub taken_there : IsTakenThere
    taken_there = there_by heard.link.setup.link.role refl

    -- a link lasts at a peripheral that takes a control PDU
    pub lasts_here : heard.link.setup.link.role ≡ Peripheral → is_lasting (facts_in heard.link) ≡ true
    lasts_here role = of_peripheral (λ central peripheral. is_lasting (facts_in peripheral.link) ≡ true) known.lasts role

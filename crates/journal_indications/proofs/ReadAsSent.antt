-- The change that a peripheral reads, where its Instant has not passed, is the one that its central sent last.
use Rattle.std.proofs.Common.{◌≡◌, ℕ, ◌<◌, Bool, true, false, Some, List, [], ◌∷◌, ◌++◌, map, refl, sym, ap, subst, ◌∙◌, append-nil}
use Rattle.std.specs.List.{Contains, flat_map}
use Rattle.arrayvec.specs.ArrayVec.{ArrayVec}
use Rattle.ble_base.specs.Side.{other_side}
use Rattle.ble_base.specs.declared.notes.Note.{Note}
use Rattle.ble_base.specs.declared.notes.Note.TheVariants.{Took as TookNote}
use Rattle.ble_base.specs.declared.roles.Role.{Role}
use Rattle.ble_base.specs.declared.roles.Role.TheVariants.{Central, Peripheral}
use Rattle.ble_base.specs.declared.roles.Side.{Side}
use Rattle.instants.specs.Arrivals.{Taking, taking_of}
use Rattle.instants.specs.Track.{event_of, gap_ahead}
use Rattle.instants.specs.declared.indications.Indication.{Indication}
use Rattle.instants.specs.declared.track.Change.{Change}
use Rattle.journal.specs.declared.entries.Entry.{Entry}
use Rattle.journal.specs.declared.entries.Entry.TheVariants.{Took}
use Rattle.controller_model.specs.Heard.{has_room}
use Rattle.controller_model.specs.Side.{notes_of}
use Rattle.controller_model.specs.Since.{notes_under, was_opened}
use Rattle.controller_model.specs.Step.{PacketHeard}
use Rattle.controller_model.proofs.UnderNotes.{open_noted}
use Rattle.link_changes.specs.InForce.{HasRanges}
use Rattle.link_changes.specs.Noted.{event_noted, indication_in, indications_noted}
use Rattle.link_changes.proofs.Alike.{Alike}
use Rattle.link_changes.proofs.Notes.{event_more}
use Rattle.journal_agreement.specs.Indications.{indications_sent}
use Rattle.journal_agreement.specs.Taken.{AllAreReadAsSent, IsLastSent}
use Rattle.link_runs.specs.joint_controls.Joint.{last_change}
use Rattle.journal_agreement.specs.journal_data.journal_links.Begun.{LinkBegun, link_numbered}
use Rattle.journal_agreement.specs.journal_data.journal_links.Changes.{notes_said, role_on}
use Rattle.journal_agreement.specs.journal_data.journal_links.LinkLines.{line_of, lines_of}
use Rattle.journal_agreement.specs.journal_data.journal_links.Opened.{central_side}
use Rattle.journal_agreement.specs.journal_data.link_model.End.{facts_of as end_facts_of, notes_after as end_notes, notes_of as end_notes_of}
use Rattle.journal_agreement.specs.journal_data.link_model.Setup.{Setup as EndSetup}
use Rattle.journal_agreement.specs.journal_data.link_model.Step.{Step as EndStep, PacketReceived}
use Rattle.journal_agreement.specs.journal_data.open_links.OpenLinks.{OpenLink, facts_in, link_at}
use Rattle.journal_agreement.specs.journal_data.run_laws.Ends.{AreEnds, IsOpen, OpenEnd, link_listened}
use Rattle.journal_agreement.specs.journal_data.run_model.History.{Event, Called, Noted, noted_by, past_of}
use Rattle.journal_agreement.specs.journal_data.run_model.Journal.{journal_of, side_of}
use Rattle.journal_agreement.specs.journal_data.run_model.LinkEnds.{HaveAddresses}
use Rattle.journal_agreement.specs.journal_data.run_model.NoteLines.{IsLineInCall, LinkLine, took_line}
use Rattle.journal_agreement.specs.journal_data.run_pairs.InTurns.{HearNoMixed}
use Rattle.journal_agreement.specs.journal_data.run_model.Run.{Given, facts_at, history_of, run_of, setup_at}
use Rattle.journal_agreement.specs.journal_data.Followed.{Follows, Mixed}
use Rattle.journal_agreement.proofs.journal_data.Followed.{AreEndsOf, hear_in_call, is_of_two}
use Rattle.journal_agreement.proofs.journal_data.KeptData.{other_in}
use Rattle.journal_agreement.proofs.journal_data.Mine.{HasFarEnd}
use Rattle.journal_agreement.proofs.journal_data.OneCall.{other_not}
use Rattle.journal_agreement.proofs.journal_data.journal_acks.Exchanging.{number_at}
use Rattle.journal_agreement.proofs.journal_data.journal_acks.TwoStations.{IsOfTwo, other_of}
use Rattle.journal_agreement.proofs.journal_data.journal_links.LineNotes.{lines_are_notes, open_was_opened}
use Rattle.journal_agreement.proofs.journal_data.journal_links.LinksBegun.{number_stays}
use Rattle.journal_agreement.proofs.journal_data.journal_links.OfTwo.{are_distinct, two_apart}
use Rattle.journal_agreement.proofs.journal_data.journal_links.Ranges.{values_in_range}
use Rattle.journal_agreement.proofs.journal_data.journal_links.SaidLines.{said_under}
use Rattle.journal_agreement.proofs.journal_data.journal_packets.AccessOrder.{AreNth}
use Rattle.journal_agreement.proofs.journal_data.link_model.Hearing.{IsHeardWhole}
use Rattle.journal_agreement.proofs.journal_data.run_laws.DistinctAccess.{AreApart}
use Rattle.journal_agreement.proofs.journal_data.run_model.Calls.{noted_called}
use Rattle.journal_agreement.proofs.journal_data.run_model.LinkEnds.{AreTaken, IsUnderstood}
use Rattle.journal_agreement.proofs.journal_data.run_model.LinksKnown.{link_by_other}
use Rattle.journal_agreement.proofs.journal_data.run_model.NoteLines.{line_in_call}
use Rattle.journal_agreement.proofs.journal_data.run_model.Notes.{NotedBefore, run_noted}
use Rattle.journal_agreement.proofs.journal_data.run_model.Numbers.{numbered_at}
use Rattle.journal_agreement.proofs.journal_data.run_model.Places.{each_at}
use Rattle.journal_agreement.proofs.journal_data.run_model.Stations.{is_in}
use Rattle.run_indications.proofs.run_pairs.FarPackets.{listens_is}
use Rattle.journal_indications.proofs.FarEnds.{far_before}
use Rattle.journal_indications.proofs.InTime.{role_of_end}
use Rattle.journal_indications.proofs.LineEnds.{IsEndOfLine, end_of_line, in_it, notes_before}
use Rattle.journal_agreement.proofs.journal_data.NumberedEnds.{same_link}
use Rattle.journal_agreement.proofs.journal_data.PairedEnds.{are_ends, far_end, far_side, own_end}
use Rattle.journal_indications.proofs.Receptions.{IsReception, reception_of}

-- ---- what is known of one end, and of two

-- a central keeps the indications that it noted as sent
abbrev pub KeepsSent : Type 0
KeepsSent = (setup : EndSetup) (past : List EndStep) → setup.link.role ≡ Central → HasRanges setup past
    → indications_noted Central (end_notes_of setup past) ≡ (end_facts_of setup past).control.sent

-- an end is in the event that it noted last
abbrev pub IsInNoted : Type 0
IsInNoted = (setup : EndSetup) (past : List EndStep) → (setup.link.role ≡ Central → HasRanges setup past)
    → event_noted (end_notes_of setup past) ≡ event_of (end_facts_of setup past).control.track

-- the indication that a peripheral takes in time is the last one that its central sent, with the same event
abbrev pub TakesLast : Given → Type 0
TakesLast given =
    (before rest : List Event) (octets : List ℕ) (central peripheral : OpenEnd) (room : Bool) (first later : List Note)
    (handle number llid : ℕ) (body : ArrayVec ℕ) (indication : Indication) → Contains given.stations central.station
    → Contains given.stations peripheral.station
    → history_of (run_of given) ≡ before ++ Called peripheral.station (PacketHeard octets) ∷ rest
    → AreEnds before central peripheral
    → HearNoMixed given (before ++ Called peripheral.station (PacketHeard octets) ∷ []) central peripheral
    → IsOpen given before central → IsOpen given before peripheral
    → link_listened (facts_at given peripheral.station before).turn.doing ≡ Some peripheral.handle
    → end_notes peripheral.link.setup (facts_in peripheral.link) (PacketReceived (facts_at given peripheral.station before).turn.slot octets room)
    ≡ first ++ TookNote handle number llid body ∷ later
    → indication_in llid body.items ≡ Some indication
    → gap_ahead (event_of (facts_in peripheral.link).control.track) indication < 32767
    → last_change (facts_in central.link).control.sent ≡ Some (taking_of (event_of (facts_in peripheral.link).control.track) indication).change

-- ---- lists

last_sent : (sent : List Change) (change : Change) → last_change sent ≡ Some change → IsLastSent change sent
last_sent [] change is = absurd cc
last_sent (one ∷ []) change is = let same : one ≡ change = cc in record { earlier = []; is = λ i. same i ∷ [] }
last_sent (one ∷ other ∷ more) change is =
    let rest = last_sent (other ∷ more) change is in record { earlier = one ∷ rest.earlier; is = λ i. one ∷ rest.is i }

-- ---- the far end of a line

module _ (understood : IsUnderstood) (taken : AreTaken) (given : Given) (are_two : IsOfTwo given) (six : HaveAddresses given)
    (front : List Entry) (line : LinkLine) (call : IsLineInCall given front line) (far_handle : ℕ) (far : OpenLink)
    (in_far : is_in (other_of call.station) given.stations ≡ true)
    (is_open : link_at far_handle (facts_at given (other_of call.station) call.base).links ≡ Some far) where
  abbrev other : ℕ
  other = other_of call.station

  abbrev base : List Event
  base = call.base

  abbrev called : Event
  called = Called call.station call.step

  abbrev side : Side
  side = side_of other

  abbrev number : ℕ
  number = number_at other far_handle base

  noted_same : noted_by other call.before ≡ noted_by other base
  noted_same = ap (noted_by other) call.before_is ∙ noted_called other call.station call.step call.earlier base false (other_not call.station)
      ∙ append-nil (noted_by other base)

  number_same : number_at other far_handle call.before ≡ number
  number_same = ap (λ xs. number_at other far_handle xs) call.before_is
      ∙ link_by_other call.station call.step call.earlier base other far_handle (other_not call.station)

  opened : was_opened far_handle (noted_by other call.before) ≡ true
  opened =
      ap (was_opened far_handle) noted_same
      ∙ open_was_opened understood taken given (are_distinct given are_two) six other (two_apart given are_two other in_far) base (called ∷ call.after)
      far_handle far call.called
      (numbered_at understood taken given base call.after called (are_distinct given are_two) six call.called refl) is_open

  base_noted : noted_by other base ≡ notes_of (setup_at given other) (past_of other base)
  base_noted = each_at (NotedBefore given) (history_of (run_of given)) base call.after called (run_noted given).each call.called refl other

  lines : lines_of side number (journal_of call.before) ≡ map (line_of side number) (notes_under far_handle (noted_by other base ++ []))
  lines =
      subst (λ n. lines_of side n (journal_of call.before) ≡ map (line_of side n) (notes_under far_handle (noted_by other base ++ []))) number_same
      (subst (λ xs. lines_of side (number_at other far_handle call.before) (journal_of call.before)
      ≡ map (line_of side (number_at other far_handle call.before)) (notes_under far_handle xs))
      (noted_same ∙ sym (append-nil (noted_by other base)))
      (lines_are_notes understood taken given (are_distinct given are_two) six other (two_apart given are_two other in_far) call.before
      (Noted call.station (line.note call.handle) ∷ call.rest)
      far_handle call.is_at opened))

  -- its lines before say what its end noted
  pub far_alike : (role : Role) → Alike role (notes_said side number front) (end_notes_of far.setup far.past)
  far_alike role =
      subst (λ xs. Alike role (notes_said side number xs) (end_notes_of far.setup far.past)) (sym call.front_is)
      (subst (Alike role (notes_said side number (journal_of call.before))) (append-nil (end_notes_of far.setup far.past))
      (notes_before role side number far_handle far.setup far.past (journal_of call.before) (noted_by other base) [] lines
      (ap (notes_under far_handle) base_noted ∙ open_noted far_handle (setup_at given other) (past_of other base) far is_open) refl))

-- ---- a line

module _ (whole : IsHeardWhole) (understood : IsUnderstood) (taken : AreTaken) (nth : AreNth) (apart : AreApart) (given : Given) (are_two : IsOfTwo given)
    (six : HaveAddresses given) (mixed : Mixed) (follows : Follows given mixed) (keeps : KeepsSent) (in_noted : IsInNoted) (takes : TakesLast given) where
  -- what its call takes, and the far end
  module _ (front rest : List Entry) (side : Side) (number count llid : ℕ) (body : List ℕ)
      (call : IsLineInCall given front (took_line side number count llid body))
      (heard : IsReception (setup_at given call.station) (facts_at given call.station call.base) call.step call.earlier call.handle count llid
      (record { items = body }))
      (far : HasFarEnd given call.station call.base call.handle) (unmixed : mixed number front ≡ false) where
    abbrev line : LinkLine
    line = took_line side number count llid body

    abbrev station : ℕ
    station = call.station

    abbrev there : ℕ
    there = other_of call.station

    abbrev end : OpenLink
    end = heard.link

    on : is_in call.station given.stations ≡ true
    on = in_it understood taken given are_two six front line call end heard.is_open

    in_far : is_in (other_of call.station) given.stations ≡ true
    in_far = other_in given are_two call.station on

    of : IsEndOfLine given front line call end
    of = end_of_line understood taken given are_two six front line call end heard.is_open

    ranges : (one handle : ℕ) (link : OpenLink) → is_in one given.stations ≡ true → link_at handle (facts_at given one call.base).links ≡ Some link
        → HasRanges link.setup link.past
    ranges one handle link in_one is_open =
        values_in_range taken given call.base (Called call.station call.step ∷ call.after) one handle link (are_distinct given are_two)
        in_one call.called is_open

    event_is : event_noted (notes_said side number front) ≡ event_of (facts_in end).control.track
    event_is =
        (of.alike Peripheral).event
        ∙ event_more (end_notes_of end.setup end.past) (flat_map (said_under call.handle) call.earlier)
        ∙ heard.still (event_noted (end_notes_of end.setup end.past))
        ∙ in_noted end.setup end.past (λ central. ranges call.station call.handle end on heard.is_open)

    -- both ends of the link, whose central is on the far side
    module _ (link : LinkBegun) (is_link : link_numbered number (front ++ Took side number count llid body ∷ rest) ≡ Some link)
        (is_peripheral : role_on link side ≡ Peripheral) where
      known : Some of.link_begun ≡ Some link
      known = sym (number_stays number front (Took side number count llid body ∷ rest) of.link_begun of.is_link) ∙ is_link

      role : end.setup.link.role ≡ Peripheral
      role = sym (role_of_end link of.link_begun end.setup.link.role side known of.central_is) ∙ is_peripheral

      two : AreEndsOf call.base (number_at call.station call.handle call.base) (far_end given call.station call.base call.handle far) (own_end call.station call.handle end)
      two = are_ends understood taken given are_two six call.base call.after call.station call.step call.called on call.handle end heard.is_open role far

      central_is : link.central ≡ side_of there
      central_is =
          ap (λ (l : LinkBegun). l.central) (sym (same_link of.link_begun link known)) ∙ of.central_is ∙ ap (λ r. central_side r side) role
          ∙ ap other_side (sym call.side_is) ∙ far_side station

      sent_is : indications_sent number link front ≡ (facts_in far.far).control.sent
      sent_is =
          ap (λ s. indications_noted Central (notes_said s number front)) central_is
          ∙ ap (λ n. indications_noted Central (notes_said (side_of there) n front)) (sym (far.same ∙ of.number_is))
          ∙ ap (map (λ (taking : Taking). taking.change))
          (far_alike understood taken given are_two six front line call far.far_handle far.far in_far far.is_open Central).takings
          ∙ keeps far.far.setup far.far.past two.ends.is_central (ranges there far.far_handle far.far in_far far.is_open)

      abbrev event : ℕ
      event = event_noted (notes_said side number front)

      line_read : (indication : Indication) → indication_in llid body ≡ Some indication → gap_ahead event indication < 32767
          → IsLastSent (taking_of event indication).change (indications_sent number link front)
      line_read indication says in_time =
          let last = takes call.base call.after heard.octets (far_end given call.station call.base call.handle far) (own_end call.station call.handle end)
          (has_room (setup_at given call.station) (facts_at given call.station call.base)) call.earlier heard.rest call.handle count llid
          (record { items = body }) indication
          (is_of_two given are_two there in_far) (is_of_two given are_two station on)
          (call.called ∙ ap (λ s. call.base ++ Called call.station s ∷ call.after) heard.step_is) two.ends
          (hear_in_call given mixed follows are_two front line call unmixed heard.octets heard.step_is (number_at call.station call.handle call.base)
          (far_end given call.station call.base call.handle far) (own_end call.station call.handle end) in_far on two of.number_is) far.is_open heard.is_open
          (listens_is call.handle (facts_at given call.station call.base).turn.doing heard.listens)
          heard.notes_are says (subst (λ n. gap_ahead n indication < 32767) event_is in_time) in
          subst (IsLastSent (taking_of event indication).change) (sym sent_is)
          (last_sent (facts_in far.far).control.sent (taking_of event indication).change (last ∙ ap (λ n. Some (taking_of n indication).change) (sym event_is)))

  pub read_as_sent : AllAreReadAsSent mixed (journal_of (history_of (run_of given)))
  read_as_sent front rest side number count llid body link indication is unmixed is_link is_peripheral says in_time =
      let line = took_line side number count llid body in
      let call = line_in_call given front rest (Took side number count llid body) line refl is in
      let station = call.station in
      let base = call.base in
      let heard = reception_of (setup_at given station) (past_of station base) call.earlier call.later call.handle count llid (record { items = body })
      call.step call.notes_are in
      let at : history_of (run_of given) ≡ base ++ Called station (PacketHeard heard.octets) ∷ call.after =
      call.called ∙ ap (λ s. base ++ Called station s ∷ call.after) heard.step_is in
      let far = far_before whole understood taken nth apart given are_two six base call.after station heard.octets at call.handle heard.link heard.is_open
      heard.listens heard.unforged in
      line_read front rest side number count llid body call heard far unmixed link (ap (link_numbered number) (sym is) ∙ is_link) is_peripheral indication says in_time

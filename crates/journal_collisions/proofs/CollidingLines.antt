-- Where a central takes the first PDU of a procedure that its own excludes, it prevails: by the lines before it.
use Rattle.std.proofs.Common.{◌≡◌, ℕ, ◌==◌, Bool, true, false, Some, None, List, [], ◌∷◌, ◌++◌, fold, map, refl, sym, ap, subst, ◌∙◌}
use Rattle.std.specs.Prelude.{if◌then◌else◌}
use Rattle.std.specs.List.{Contains}
use Rattle.std.proofs.lemmas.Bool.{and_parts, eqb-true}
use Rattle.std.proofs.lemmas.List.Sums.{fold-append}
use Rattle.ble_base.specs.declared.notes.Note.TheVariants.{Took as TookNote}
use Rattle.ble_base.specs.declared.procedure_kinds.Kind.{Kind}
use Rattle.ble_base.specs.declared.procedure_kinds.Kind.TheVariants.{Map as MapKind, Phy as PhyKind, Request as RequestKind, Update as UpdateKind}
use Rattle.ble_base.specs.declared.roles.Role.TheVariants.{Central}
use Rattle.ble_base.specs.declared.roles.Side.{Side}
use Rattle.ble_base.specs.declared.roles.Side.TheVariants.{A, B}
use Rattle.data_pdu.specs.Reading.{ctrl_of}
use Rattle.data_pdu.specs.declared.ctrl.Ctrl.{Ctrl}
use Rattle.data_pdu.specs.declared.ctrl.CtrlRead.{CtrlRead}
use Rattle.data_pdu.specs.declared.ctrl.CtrlRead.TheVariants.{Known}
use Rattle.data_pdu.specs.declared.ctrl.Ctrl.TheVariants.{ConnectionParamReq, PhyReq}
use Rattle.collision_steps.specs.CentralPart.{central_of}
use Rattle.exclusive_stages.specs.Kinds.{central_kind, kind_of}
use Rattle.exclusive_stages.specs.declared.pdus.Exclusive.{Exclusive}
use Rattle.exclusive_stages.specs.declared.pdus.Exclusive.TheVariants.{Map, Phy, Request, Update}
use Rattle.journal.specs.declared.entries.Entry.{Entry}
use Rattle.procedure_stages.specs.Collisions.{are_incompatible, is_exclusive}
use Rattle.procedure_stages.specs.Opcodes.{opcode_of_kind}
use Rattle.journal_endings.specs.controller_model.Facts.{Facts}
use Rattle.journal_endings.specs.controller_model.Heard.{has_room}
use Rattle.journal_endings.specs.controller_model.Since.{notes_opened_on}
use Rattle.journal_endings.specs.controller_model.Step.{PacketHeard, Step}
use Rattle.journal_endings.proofs.controller_model.Handles.{own_handles}
use Rattle.journal_endings.proofs.controller_model.UnderNotes.{AreOn, end_on}
use Rattle.journal_endings.proofs.link_calls.run_laws.TwoStations.{are_two}
use Rattle.journal_endings.specs.journal_indications.journal_data.journal_links.Begun.{LinkBegun}
use Rattle.journal_endings.specs.journal_indications.journal_data.journal_links.Changes.{role_by}
use Rattle.journal_endings.specs.journal_indications.journal_data.journal_links.LinkLines.{line_of, lines_of}
use Rattle.journal_endings.specs.journal_indications.journal_data.link_model.End.{notes_after as end_notes, notes_of as end_notes_of}
use Rattle.journal_endings.specs.journal_indications.journal_data.link_model.Setup.{Setup as EndSetup}
use Rattle.journal_endings.specs.journal_indications.journal_data.link_model.Step.{PacketReceived}
use Rattle.journal_endings.specs.journal_indications.journal_data.open_links.OpenLinks.{OpenLink, facts_in, link_at}
use Rattle.journal_endings.specs.journal_indications.journal_data.run_laws.Ends.{AreEnds, IsOpen, OpenEnd, link_listened}
use Rattle.journal_endings.specs.journal_indications.journal_data.run_model.Feeding.{AreDistinct}
use Rattle.journal_endings.specs.journal_indications.journal_data.run_model.History.{Called, Event, past_of}
use Rattle.journal_endings.specs.journal_indications.journal_data.run_model.LinkEnds.{HaveAddresses}
use Rattle.journal_endings.specs.journal_indications.journal_data.run_model.NoteLines.{IsLineInCall, LinkLine, took_line}
use Rattle.journal_endings.specs.journal_indications.journal_data.run_model.Run.{Given, facts_at, history_of, run_of, setup_at}
use Rattle.journal_endings.specs.journal_indications.journal_data.Followed.{Follows, Mixed}
use Rattle.journal_endings.proofs.journal_indications.journal_data.Followed.{AreEndsOf, hear_in_call, is_of_two}
use Rattle.journal_endings.proofs.journal_indications.journal_data.KeptData.{other_in}
use Rattle.journal_endings.proofs.journal_indications.journal_data.NumberedEnds.{front_of_two}
use Rattle.journal_endings.proofs.journal_indications.journal_data.PairedEnds.{far_end, own_central, own_end}
use Rattle.journal_endings.proofs.journal_indications.journal_data.Mine.{HasFarEnd}
use Rattle.journal_endings.proofs.journal_indications.journal_data.journal_acks.Exchanging.{number_at}
use Rattle.journal_endings.proofs.journal_indications.journal_data.journal_acks.TwoStations.{IsOfTwo, other_of}
use Rattle.journal_endings.proofs.journal_indications.journal_data.journal_links.OfTwo.{are_distinct}
use Rattle.journal_endings.proofs.journal_indications.journal_data.journal_packets.AccessOrder.{AreNth}
use Rattle.journal_endings.proofs.journal_indications.journal_data.link_model.Hearing.{IsHeardWhole}
use Rattle.journal_endings.proofs.journal_indications.journal_data.link_model.Pasts.{notes_grow}
use Rattle.journal_endings.proofs.journal_indications.journal_data.open_links.Handles.{handle_is}
use Rattle.journal_endings.proofs.journal_indications.journal_data.run_laws.DistinctAccess.{AreApart}
use Rattle.journal_endings.proofs.journal_indications.journal_data.run_model.LinkEnds.{AreTaken, IsUnderstood}
use Rattle.journal_endings.proofs.journal_indications.journal_data.run_model.Numbers.{numbered_at}
use Rattle.journal_endings.proofs.journal_indications.journal_data.run_model.Stations.{is_in}
use Rattle.journal_endings.proofs.journal_indications.InTime.{role_of_end}
use Rattle.journal_endings.proofs.journal_indications.LineEnds.{IsEndOfLine, end_of_line, in_it}
use Rattle.journal_endings.proofs.journal_indications.Receptions.{IsReception}
use Rattle.journal_endings.proofs.run_pairs.FarPackets.{listens_is}
use Rattle.link_procedures.specs.Running.{runs_after as note_runs, runs_at}
use Rattle.link_procedures.proofs.Steps.{past_goes}
use Rattle.journal_endings.specs.link_runs.link_pairs.Hearing.{received}
use Rattle.run_collisions.specs.Prevailing.{Prevails, TakesColliding, first_of, seen}
use Rattle.run_collisions.proofs.OfPairs.{good_taken, hear_before, sent_to_central}
use Rattle.journal_endings.specs.run_pairs.InTurns.{HasSentNow, HearEachInTurn, HearNoMixed}
use Rattle.journal_collisions.specs.Collisions.{Collides, control_in, first_opcode, kind_begun, runs_after}
use Rattle.journal_collisions.proofs.EndLines.{end_lines, first_on, rest_on, under_all}
use Rattle.journal_collisions.proofs.RunsNoted.{lines_run, own_seen, runs_seen}

-- ---- kinds

-- the first PDU of a procedure of the peripheral
pub record IsFirstPdu (llid : ℕ) (body : List ℕ) (q : Kind) : Type 0 where
  pub ctrl : Ctrl
  pub llid_is : llid ≡ 3
  pub is : ctrl_of body ≡ Known ctrl
  pub kind : Exclusive
  pub kind_is : kind_of kind ≡ q
  pub first : first_of ctrl ≡ Some kind
  pub opcode : first_opcode (kind_of kind) ≡ opcode_of_kind kind

pub same_kind : (one other : Kind) → Some one ≡ Some other → one ≡ other
same_kind one other is = cc

known_first : (llid : ℕ) (body : List ℕ) (q : Kind) (read : CtrlRead) → llid ≡ 3 → ctrl_of body ≡ read → kind_begun (Some read) ≡ Some q
    → IsFirstPdu llid body q
known_first llid body q (Known (ConnectionParamReq min max latency timeout periodicity reference offsets)) three says is =
    record {
      ctrl = ConnectionParamReq min max latency timeout periodicity reference offsets;
      llid_is = three;
      is = says;
      kind = Request;
      kind_is = same_kind RequestKind q is;
      first = refl;
      opcode = refl;
    }
known_first llid body q (Known (PhyReq tx rx)) three says is =
    record { ctrl = PhyReq tx rx; llid_is = three; is = says; kind = Phy; kind_is = same_kind PhyKind q is; first = refl; opcode = refl }
known_first llid body q other three says is = absurd cc

none_first : (X : Type 0) (q : Kind) → kind_begun None ≡ Some q → X
none_first X q is = absurd cc

pub first_pdu : (llid : ℕ) (body : List ℕ) (q : Kind) → kind_begun (control_in llid body) ≡ Some q → IsFirstPdu llid body q
first_pdu llid body q is = by (llid == 3) refl is
  where
    by : (b : Bool) → (llid == 3) ≡ b → kind_begun (if b then Some (ctrl_of body) else None) ≡ Some q → IsFirstPdu llid body q
    by true three now = known_first llid body q (ctrl_of body) (eqb-true llid 3 three) refl now
    by false three now = none_first _ q now

-- a procedure that excludes others
pub record IsExclusive (p : Kind) : Type 0 where
  pub kind : Exclusive
  pub kind_is : kind_of kind ≡ p

exclusive_kind : (p : Kind) → is_exclusive p ≡ true → IsExclusive p
exclusive_kind UpdateKind is = record { kind = Update; kind_is = refl }
exclusive_kind RequestKind is = record { kind = Request; kind_is = refl }
exclusive_kind MapKind is = record { kind = Map; kind_is = refl }
exclusive_kind PhyKind is = record { kind = Phy; kind_is = refl }
exclusive_kind other is = absurd cc

pub excluding : (p q : Kind) → are_incompatible p q ≡ true → IsExclusive p
excluding p q is = exclusive_kind p (and_parts (is_exclusive p) (is_exclusive q) is).0

pub central_by : (side : Side) → role_by side side ≡ Central
central_by A = refl
central_by B = refl

-- ---- both ends of the link of a central that listens

pub central_ends : IsUnderstood → AreTaken → (given : Given) → IsOfTwo given → HaveAddresses given → (before rest : List Event) (station : ℕ) (step : Step)
    → history_of (run_of given) ≡ before ++ Called station step ∷ rest → is_in station given.stations ≡ true → (handle : ℕ) (link : OpenLink)
    → link_at handle (facts_at given station before).links ≡ Some link → link.setup.link.role ≡ Central → (far : HasFarEnd given station before handle)
    → AreEndsOf before (number_at station handle before) (own_end station handle link) (far_end given station before handle far)
central_ends understood taken given are_pair six before rest station step at on handle link is_open role far =
    own_central given are_pair before (numbered_at understood taken given before rest (Called station step) (are_distinct given are_pair) six at refl)
    (front_of_two understood taken given are_pair six before (Called station step ∷ rest) at) station on handle link is_open far role

-- ---- in each run

-- a central that takes such a PDU prevails
abbrev pub PrevailInRuns : Type 0
PrevailInRuns = (given : Given) (before rest : List Event) (octets : List ℕ) (room : Bool)
    (central peripheral : OpenEnd) (own other : Exclusive)
    → AreDistinct given.stations → HaveAddresses given
    → Contains given.stations central.station → Contains given.stations peripheral.station
    → history_of (run_of given) ≡ before ++ Called central.station (PacketHeard octets) ∷ rest
    → AreEnds before central peripheral → HearEachInTurn given before central peripheral
    → HearNoMixed given (before ++ Called central.station (PacketHeard octets) ∷ []) central peripheral
    → IsOpen given before central → IsOpen given before peripheral
    → link_listened (facts_at given central.station before).turn.doing ≡ Some central.handle
    → HasSentNow given before central peripheral (facts_in central.link).event.channel octets
    → let setup = central.link.setup in
    let slot = (facts_at given central.station before).turn.slot in
    TakesColliding setup (facts_in central.link) slot octets room own other
    → Prevails (seen setup slot octets (facts_in central.link))
    (received setup slot octets room (facts_in central.link)) own other

module _ (whole_heard : IsHeardWhole) (understood : IsUnderstood) (taken : AreTaken) (nth : AreNth) (apart : AreApart) (given : Given)
    (are_pair : IsOfTwo given) (six : HaveAddresses given) (mixed : Mixed) (follows : Follows given mixed) (prevail : PrevailInRuns) (front : List Entry) (link : LinkBegun) (number count llid : ℕ)
    (body : List ℕ) (call : IsLineInCall given front (took_line link.central number count llid body))
    (heard : IsReception (setup_at given call.station) (facts_at given call.station call.base) call.step call.earlier call.handle count llid
    (record { items = body }))
    (far : HasFarEnd given call.station call.base call.handle) (unmixed : mixed number front ≡ false) (p q : Kind) (collides : Collides front link number llid body p q) where
  abbrev line : LinkLine
  line = took_line link.central number count llid body

  abbrev facts : Facts
  facts = facts_at given call.station call.base

  abbrev room : Bool
  room = has_room (setup_at given call.station) facts

  abbrev setup : EndSetup
  setup = heard.link.setup

  abbrev central : OpenEnd
  central = own_end call.station call.handle heard.link

  abbrev peripheral : OpenEnd
  peripheral = far_end given call.station call.base call.handle far

  pub on : is_in call.station given.stations ≡ true
  on = in_it understood taken given are_pair six front line call heard.link heard.is_open

  pub of : IsEndOfLine given front line call heard.link
  of = end_of_line understood taken given are_pair six front line call heard.link heard.is_open

  pub role : heard.link.setup.link.role ≡ Central
  role =
      sym (role_of_end link of.link_begun heard.link.setup.link.role link.central (sym of.is_link ∙ collides.is_link) of.central_is)
      ∙ central_by link.central

  pub at : history_of (run_of given) ≡ call.base ++ Called call.station (PacketHeard heard.octets) ∷ call.after
  at = call.called ∙ ap (λ s. call.base ++ Called call.station s ∷ call.after) heard.step_is

  two : AreEndsOf call.base (number_at call.station call.handle call.base) central peripheral
  two = central_ends understood taken given are_pair six call.base call.after call.station call.step call.called on call.handle heard.link heard.is_open role far

  handle_here : heard.link.setup.link.handle ≡ call.handle
  handle_here = handle_is 0 call.handle facts.links heard.link
      (own_handles (setup_at given call.station) (past_of call.station call.base)).handles heard.is_open

  -- what the end notes as it receives is of its link
  all_on : AreOn call.handle (end_notes setup (facts_in heard.link) (PacketReceived facts.turn.slot heard.octets room))
  all_on =
      subst (λ n. AreOn n (end_notes setup (facts_in heard.link) (PacketReceived facts.turn.slot heard.octets room))) handle_here
      (rest_on setup.link.handle (end_notes_of setup heard.link.past) _
      (subst (AreOn setup.link.handle) (notes_grow setup heard.link.past (PacketReceived facts.turn.slot heard.octets room))
      (end_on setup (heard.link.past ++ PacketReceived facts.turn.slot heard.octets room ∷ []))))

  pub lines_are : lines_of link.central number front ≡ map (line_of link.central number) (notes_opened_on setup heard.link.past ++ call.earlier)
  lines_are =
      end_lines understood taken given are_pair six front line call heard.link heard.is_open
      ∙ ap (map (line_of link.central number)) (under_all call.handle (notes_opened_on setup heard.link.past) call.earlier
      (first_on call.handle call.earlier _ (subst (AreOn call.handle) heard.notes_are all_on)))

  -- its own procedure, as it looks at the PDU
  runs_now : runs_at p (seen setup facts.turn.slot heard.octets (facts_in heard.link)) ≡ true
  runs_now =
      sym (runs_seen call.earlier heard.rest call.handle count llid body setup role facts.turn.slot room (facts_in heard.link)
      (record { past = heard.link.past; is = refl }) heard.octets p heard.notes_are)
      ∙ ap (λ b. fold (note_runs p) b call.earlier) (sym (past_goes setup heard.link.past p))
      ∙ sym (fold-append (note_runs p) false (notes_opened_on setup heard.link.past) call.earlier)
      ∙ sym (lines_run link.central number p false (notes_opened_on setup heard.link.past ++ call.earlier))
      ∙ ap (fold (runs_after p) false) (sym lines_are) ∙ collides.runs

  pub begun : IsFirstPdu llid body q
  begun = first_pdu llid body q collides.first

  pub excludes : IsExclusive p
  excludes = excluding p q collides.exclude

  abbrev colliding : TakesColliding setup (facts_in heard.link) facts.turn.slot heard.octets room excludes.kind begun.kind
  colliding = record {
    earlier = call.earlier;
    number = count;
    body = body;
    later = heard.rest;
    notes = heard.notes_are ∙ (λ i. call.earlier ++ TookNote (sym handle_here i) count (begun.llid_is i) (record { items = body }) ∷ heard.rest);
    ctrl = begun.ctrl;
    is = begun.is;
    first = begun.first;
    runs = own_seen setup role heard.link.past facts.turn.slot heard.octets excludes.kind
        (ap (λ kind. runs_at kind (seen setup facts.turn.slot heard.octets (facts_in heard.link))) excludes.kind_is ∙ runs_now);
  }

  pub in_far : is_in (other_of call.station) given.stations ≡ true
  in_far = other_in given are_pair call.station on

  pub prevails : Prevails (seen setup facts.turn.slot heard.octets (facts_in heard.link))
      (received setup facts.turn.slot heard.octets room (facts_in heard.link)) excludes.kind begun.kind
  prevails =
      let distinct = are_distinct given are_pair in
      let listens = listens_is call.handle facts.turn.doing heard.listens in
      prevail given call.base call.after heard.octets room central peripheral excludes.kind begun.kind distinct six
      (is_of_two given are_pair call.station on) (is_of_two given are_pair (other_of call.station) in_far) at two.ends
      (hear_before understood taken apart given six distinct (are_two given 0 1 are_pair) call.base
      (Called call.station (PacketHeard heard.octets) ∷ call.after) heard.octets central peripheral on in_far two.ends at)
      (hear_in_call given mixed follows are_pair front line call unmixed heard.octets heard.step_is (number_at call.station call.handle call.base) central peripheral
      on in_far two of.number_is)
      heard.is_open far.is_open listens
      (sent_to_central understood taken apart given six distinct (are_two given 0 1 are_pair) call.base call.after heard.octets central peripheral
      on in_far two.ends at heard.is_open listens
      (good_taken setup (facts_in heard.link) heard.octets facts.turn.slot room call.earlier heard.rest
      (TookNote call.handle count llid (record { items = body })) heard.notes_are))
      colliding

  -- its own procedure goes on
  pub runs_still : central_kind (central_of (received setup facts.turn.slot heard.octets room (facts_in heard.link)).control.table).own ≡ Some excludes.kind
  runs_still = ap central_kind prevails.own ∙ colliding.runs

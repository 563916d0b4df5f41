-- What a central that prevails sends next on the link is the rejection, or LL_TERMINATE_IND where it is to end the link.
use Rattle.std.proofs.Common.{◌≡◌, ℕ, ◌+◌, ◌%◌, ◌≤◌, ◌<◌, ◌⊎◌, inl, inr, Bool, true, false, Option, Some, None, List, [], ◌∷◌, ◌++◌, fold, map, refl, sym, ap, subst, ◌∙◌, append-nil, append_assoc, arith, if◌then◌else◌}
use Rattle.std.specs.List.{list_any}
use Rattle.std.proofs.lemmas.Bool.{or_parts}
use Rattle.std.proofs.lemmas.Grind.{flat_map-append}
use Rattle.std.proofs.lemmas.List.{append_cancel_left, map-append}
use Rattle.std.proofs.lemmas.List.Folds.{list_any-append}
use Rattle.ble_base.specs.ErrorCodes.{different_transaction_collision, ll_procedure_collision}
use Rattle.ble_base.specs.declared.error_codes.ErrCode.{ErrCode}
use Rattle.ble_base.specs.declared.notes.Note.{Note}
use Rattle.ble_base.specs.declared.notes.Note.TheVariants.{Sent as SentNote, Took as TookNote}
use Rattle.ble_base.specs.declared.procedure_kinds.Kind.{Kind}
use Rattle.ble_base.specs.declared.roles.Role.{Role}
use Rattle.ble_base.specs.declared.roles.Role.TheVariants.{Central}
use Rattle.ble_base.specs.declared.roles.Side.TheVariants.{A, B}
use Rattle.collision_steps.specs.CentralPart.{central_of}
use Rattle.data_pdu.specs.Layouts.{IsCtrl, written}
use Rattle.data_pdu.specs.Reading.{ctrl_of}
use Rattle.data_pdu.specs.declared.ctrl.CtrlRead.TheVariants.{Known}
use Rattle.data_pdu.specs.declared.ctrl.Ctrl.TheVariants.{RejectExtInd}
use Rattle.data_pdu.proofs.Rows.{written_is_known}
use Rattle.exclusive_stages.specs.Kinds.{central_kind, kind_of}
use Rattle.exclusive_stages.specs.Pdus.{is_kind as is_exclusive_kind}
use Rattle.exclusive_stages.specs.declared.pdus.Exclusive.{Exclusive}
use Rattle.exclusive_stages.specs.declared.pdus.Exclusive.TheVariants.{Map, Phy, Request, Update}
use Rattle.journal.specs.declared.entries.Entry.{Entry}
use Rattle.journal.specs.declared.entries.Entry.TheVariants.{Sent, Took}
use Rattle.procedure_stages.specs.Closing.{is_disconnecting, is_open}
use Rattle.procedure_stages.specs.Collisions.{collision_code}
use Rattle.procedure_stages.specs.Opcodes.{opcode_of_kind}
use Rattle.procedure_values.specs.Asks.{is_same_kind}
use Rattle.procedure_values.specs.declared.drafts.Outgoing.TheVariants.{Rejection}
use Rattle.procedure_values.specs.declared.drafts.Rejection.{Rejection as TheRejection}
use Rattle.journal_endings.specs.controller_model.Facts.{Facts, Setup}
use Rattle.journal_endings.specs.controller_model.Heard.{has_room}
use Rattle.journal_endings.specs.controller_model.Links.{note_opened}
use Rattle.journal_endings.specs.controller_model.Since.{note_under, notes_opened_on}
use Rattle.journal_endings.specs.controller_model.Side.{facts_of}
use Rattle.journal_endings.specs.controller_model.Step.{PacketHeard, Step, TurnBegins}
use Rattle.journal_endings.proofs.link_calls.CallNotes.{is_sending}
use Rattle.journal_endings.specs.journal_indications.journal_data.journal_links.Begun.{LinkBegun}
use Rattle.journal_endings.specs.journal_indications.journal_data.journal_links.LinkLines.{line_of, lines_of}
use Rattle.journal_endings.specs.journal_indications.journal_data.link_model.Data.{is_control}
use Rattle.journal_endings.specs.journal_indications.journal_data.link_model.End.{facts_after as end_facts_after, facts_of as end_facts_of, notes_after as end_notes, notes_from, notes_of as end_notes_of}
use Rattle.journal_endings.specs.journal_indications.journal_data.link_model.Facts.{Facts as EndFacts, first_facts, keyed_of}
use Rattle.journal_endings.specs.journal_indications.journal_data.link_model.Fixing.{facts_fixed}
use Rattle.journal_endings.specs.journal_indications.journal_data.link_model.Controls.{is_quiet_now}
use Rattle.journal_endings.specs.journal_indications.journal_data.link_model.phased_control.table_laws.Encrypting.{has_encryption}
use Rattle.journal_endings.specs.journal_indications.journal_data.link_model.Sending.{sent_notes}
use Rattle.journal_endings.specs.journal_indications.journal_data.link_model.Setup.{Setup as EndSetup}
use Rattle.journal_endings.specs.journal_indications.journal_data.link_model.Step.{Step as EndStep, EventEntered, PacketReceived, PduFixed}
use Rattle.journal_endings.specs.journal_indications.journal_data.open_links.OpenLinks.{OpenLink, facts_in, link_at}
use Rattle.journal_endings.specs.journal_indications.journal_data.open_links.Turns.{entered_if, enters_in, link_entered}
use Rattle.journal_endings.specs.journal_indications.journal_data.run_model.Feeding.{AreDistinct}
use Rattle.journal_endings.specs.journal_indications.journal_data.run_model.History.{Called, Event, one_if, past_of, steps_in, turns_begun}
use Rattle.journal_endings.specs.journal_indications.journal_data.run_model.Journal.{journal_of, side_of}
use Rattle.journal_endings.specs.journal_indications.journal_data.run_model.LinkEnds.{HaveAddresses}
use Rattle.journal_endings.specs.journal_indications.journal_data.run_model.NoteLines.{IsLineInCall, LinkLine, sent_line, took_line}
use Rattle.journal_endings.specs.journal_indications.journal_data.run_model.Numbers.{HasNumber}
use Rattle.journal_endings.specs.journal_indications.journal_data.run_model.Run.{Given, facts_at, history_of, run_of, setup_at}
use Rattle.journal_endings.specs.journal_indications.journal_data.Followed.{Follows, Mixed}
use Rattle.journal_endings.proofs.journal_indications.journal_data.Mine.{HasFarEnd}
use Rattle.journal_endings.proofs.journal_indications.journal_data.journal_acks.DataCalls.{listens_on_link}
use Rattle.journal_endings.proofs.journal_indications.journal_data.journal_acks.Exchanging.{number_at}
use Rattle.journal_endings.proofs.journal_indications.journal_data.journal_acks.TwoStations.{IsOfTwo}
use Rattle.journal_endings.proofs.journal_indications.journal_data.journal_links.ChangesAt.{none_opened}
use Rattle.journal_endings.proofs.journal_indications.journal_data.journal_links.LinkLines.{lines_append}
use Rattle.journal_endings.proofs.journal_indications.journal_data.journal_links.LinksBegun.{number_stays}
use Rattle.journal_endings.proofs.journal_indications.journal_data.journal_links.OfTwo.{are_distinct, of_two_stations}
use Rattle.journal_endings.proofs.journal_indications.journal_data.journal_packets.AccessOrder.{AreNth}
use Rattle.journal_endings.proofs.journal_indications.journal_data.link_model.Hearing.{IsHeardWhole}
use Rattle.journal_endings.proofs.journal_indications.journal_data.link_model.KeyedPasts.{keeps_role}
use Rattle.journal_endings.proofs.journal_indications.journal_data.link_model.KnownEnds.{IsPast, past_knows}
use Rattle.journal_endings.proofs.journal_indications.journal_data.link_model.Pasts.{grows}
use Rattle.journal_endings.proofs.journal_indications.journal_data.run_laws.DistinctAccess.{AreApart}
use Rattle.journal_endings.proofs.journal_indications.journal_data.run_laws.InAgreement.{OpenedBefore}
use Rattle.journal_endings.proofs.journal_indications.journal_data.run_laws.OpenSteps.{open_has}
use Rattle.journal_endings.proofs.journal_indications.journal_data.run_laws.OpenedOnce.{opened_once}
use Rattle.journal_endings.proofs.journal_indications.journal_data.run_laws.TurnPlaces.{Between, Within, at_stage, standing, turned}
use Rattle.journal_endings.proofs.journal_indications.journal_data.run_model.Calls.{same_station}
use Rattle.journal_endings.proofs.journal_indications.journal_data.run_model.LinkEnds.{AreTaken, IsUnderstood}
use Rattle.journal_endings.proofs.journal_indications.journal_data.run_model.Linked.{numbered_more}
use Rattle.journal_endings.proofs.journal_indications.journal_data.run_model.Numbers.{numbered_at}
use Rattle.journal_endings.proofs.journal_indications.journal_data.run_model.Stations.{is_in}
use Rattle.link_answers.specs.Owing.{Owes, indicates, is_opening, is_opening_kept}
use Rattle.link_answers.proofs.OwingEnds.{steps_owe}
use Rattle.link_answers.proofs.CipherQueues.{past_may_wait}
use Rattle.link_answers.proofs.SentIndications.{sent_runs}
use Rattle.link_procedures.specs.Running.{runs_at}
use Rattle.link_procedures.proofs.Seen.{at_central, is_itself as same_exclusive}
use Rattle.link_procedures.proofs.Steps.{past_goes}
use Rattle.journal_endings.specs.link_runs.link_pairs.procedure_stages.Kinds.{role_of}
use Rattle.data_pdu.specs.Header.{header_in}
use Rattle.journal_endings.specs.journal_indications.journal_data.link_model.Packets.{good_pdu}
use Rattle.journal_endings.specs.journal_indications.journal_data.link_model.Receiving.{acks_control, facts_before_taking, has_acknowledged}
use Rattle.journal_ends.proofs.StandingLinks.{older_at}
use Rattle.journal_endings.proofs.EndingProcedures.{same_ends}
use Rattle.journal_endings.proofs.journal_indications.InTime.{role_of_end}
use Rattle.journal_endings.proofs.journal_indications.LineEnds.{IsEndOfLine, end_of_line, in_it, none as none_open}
use Rattle.journal_endings.proofs.journal_indications.journal_data.OneNumber.{one_connect}
use Rattle.journal_endings.proofs.journal_indications.FarEnds.{far_before}
use Rattle.journal_endings.proofs.journal_indications.Receptions.{IsReception, reception_of}
use Rattle.journal_endings.proofs.journal_indications.journal_data.run_model.NoteLines.{line_in_call}
use Rattle.journal_collisions.proofs.Endings.{Ending, end_step, ending_still, ends_now, nothing_still, sent_ending, sent_nothing, terminate_read}
use Rattle.journal_endings.specs.link_runs.link_pairs.Hearing.{received}
use Rattle.run_collisions.specs.Prevailing.{next_outgoing, seen_by}
use Rattle.run_collisions.specs.Waiting.{facts_from}
use Rattle.run_collisions.proofs.Waiting.{waits}
use Rattle.journal_endings.specs.link_calls.Phases.{link_worded}
use Rattle.journal_endings.proofs.link_calls.run_laws.LinkPhases.{in_phase}
use Rattle.journal_endings.proofs.run_pairs.EndCalls.{central_unworded}
use Rattle.journal_endings.proofs.run_pairs.CallPlaces.{StandsAtBegin, StandsInPhase, stands_called}
use Rattle.journal_endings.proofs.run_pairs.OneSide.{StationAt, station_first, station_kept}
use Rattle.journal_collisions.specs.Collisions.{AllAreRejectedNext, Collides, IsRejection, IsTermination, SendsNothing, control_in, first_opcode, runs_after, runs_on}
use Rattle.journal_collisions.proofs.CollidingLines.{PrevailInRuns, at, begun, central_by, excludes, lines_are, on, prevails, role, runs_still}
use Rattle.journal_collisions.proofs.Continues.{IsSince, since_received}
use Rattle.journal_collisions.proofs.EndLines.{end_lines, lines_sent, none_said, none_sent, sendings, sendings_grow, sendings_more, sents, sents_more}
use Rattle.journal_collisions.proofs.LineOrder.{AreInOrder, InLaterCall, InOneCall, in_order}
use Rattle.journal_collisions.proofs.Openings.{facts_joined, folded, is_opening_line, lines_open}
use Rattle.journal_collisions.proofs.QuietCentrals.{closing_acked, exclusive_alone, none_kept, quiet_there}
use Rattle.journal_collisions.proofs.RefusedLines.{line_here}
use Rattle.journal_collisions.proofs.RunsNoted.{lines_run}
use Rattle.journal_collisions.proofs.SendingNotes.{said}
use Rattle.journal_collisions.proofs.SentCalls.{AsAnswer, AtBegin, IsSentAtBegin, IsSentIn, sent_in}
use Rattle.journal_collisions.proofs.Waits.{IsSentNow, ends_go, facts_more, none_fixed, sent_next, waits_still}

-- ---- the rejection as it is written

small : (n m : ℕ) → n ≡ m → m < 256 → n < 256
small n m is less = subst (λ k. k < 256) (sym is) less

small_opcode : (kind : Exclusive) → opcode_of_kind kind < 256
small_opcode Update = small _ 0 refl (omega arith)
small_opcode Request = small _ 15 refl (omega arith)
small_opcode Map = small _ 1 refl (omega arith)
small_opcode Phy = small _ 22 refl (omega arith)

abbrev code_of : Bool → ErrCode
code_of same = if same then record { 0 = ll_procedure_collision } else record { 0 = different_transaction_collision }

small_if : (same : Bool) → (code_of same).0 < 256
small_if true = small _ 35 refl (omega arith)
small_if false = small _ 42 refl (omega arith)

small_code : (p q : Kind) → (collision_code p q).0 < 256
small_code p q = small_if (is_same_kind p q)

reject_fits : (opcode code : ℕ) → opcode < 256 → code < 256 → IsCtrl (RejectExtInd opcode code)
reject_fits opcode code one other = record { fits = (omega arith, (omega (arith, one), (omega (arith, other), tt))); six_offsets = tt; range = tt }

-- ---- an end

abbrev entered_steps : Bool → ℕ → List EndStep
entered_steps true slot = EventEntered slot ∷ []
entered_steps false slot = []

module _ (setup : EndSetup) where
  notes_split : (facts : EndFacts) (steps more : List EndStep)
      → notes_from setup facts (steps ++ more) ≡ notes_from setup facts steps ++ notes_from setup (facts_from setup facts steps) more
  notes_split facts [] more = refl
  notes_split facts (step ∷ steps) more =
      let next = end_facts_after setup facts step in
      ap (λ xs. end_notes setup facts step ++ xs) (notes_split next steps more)
      ∙ sym (append_assoc (end_notes setup facts step) (notes_from setup next steps) (notes_from setup (facts_from setup next steps) more))

  notes_more : (past steps : List EndStep) → end_notes_of setup (past ++ steps) ≡ end_notes_of setup past ++ notes_from setup (end_facts_of setup past) steps
  unfolding end_facts_of end_notes_of
  notes_more past steps =
      notes_split (first_facts setup) past steps
      ∙ ap (λ f. notes_from setup (first_facts setup) past ++ notes_from setup f steps) (sym (facts_more setup [] past))

  -- to enter an event ends nothing
  entered_goes : (facts : EndFacts) (slot : ℕ) → facts.control.ends ≡ None → (end_facts_after setup facts (EventEntered slot)).control.ends ≡ None
  entered_goes facts slot goes = same_ends setup facts (EventEntered slot) refl ∙ goes

-- an end that enters its event, or does not
module _ (setup : EndSetup) (x : TheRejection) (is_central : setup.link.role ≡ Central) (facts : EndFacts) (slot : ℕ)
    (waiting : next_outgoing facts ≡ Rejection x) (goes : facts.control.ends ≡ None) where
  still_next : (enters : Bool) → next_outgoing (facts_from setup facts (entered_steps enters slot)) ≡ Rejection x
  still_next true = waits x setup is_central facts (EventEntered slot ∷ []) waiting refl
  still_next false = waiting

  still_goes : (enters : Bool) → (facts_from setup facts (entered_steps enters slot)).control.ends ≡ None
  still_goes true = entered_goes setup facts slot goes
  still_goes false = goes

entered_past : (enters : Bool) (slot : ℕ) (link : OpenLink) → (entered_if enters slot link).past ≡ link.past ++ entered_steps enters slot
entered_past true slot link = refl
entered_past false slot link = sym (append-nil link.past)

-- ---- what was sent is the rejection

written_now : (x : TheRejection) (setup : EndSetup) (is_central : setup.link.role ≡ Central) (p q : Exclusive) (own peer : Kind) (llid : ℕ) (body : List ℕ)
    → kind_of p ≡ own → kind_of q ≡ peer → first_opcode (kind_of q) ≡ opcode_of_kind q
    → x.opcode ≡ opcode_of_kind q → x.code ≡ collision_code (kind_of p) (kind_of q)
    → IsSentNow x setup is_central llid body → IsRejection own peer llid body
written_now x setup is_central p q own peer llid body own_is peer_is first opcode code sent =
    let body_is : body ≡ written (RejectExtInd (opcode_of_kind q) (collision_code (kind_of p) (kind_of q)).0) =
    sent.body_is ∙ (λ i. written (RejectExtInd (opcode i) (code i).0)) in
    (λ i. control_in (sent.llid_is i) (body_is i))
    ∙ ap Some (written_is_known (RejectExtInd (opcode_of_kind q) (collision_code (kind_of p) (kind_of q)).0)
    (reject_fits (opcode_of_kind q) (collision_code (kind_of p) (kind_of q)).0 (small_opcode q) (small_code (kind_of p) (kind_of q))))
    ∙ ap (λ n. Some (Known (RejectExtInd n (collision_code (kind_of p) (kind_of q)).0))) (sym first)
    ∙ (λ i. Some (Known (RejectExtInd (first_opcode (peer_is i)) (collision_code (own_is i) (peer_is i)).0)))

-- ---- whether a central is to end the link does not change as it sees its last PDU acknowledged

closing_by : (setup : EndSetup) → setup.link.role ≡ Central → (slot : ℕ) (facts : EndFacts) → IsPast setup facts → (may : Option (List ℕ))
    → (seen_by setup slot may facts).control.table.closing ≡ facts.control.table.closing
closing_by setup is_central slot facts past None = refl
closing_by setup is_central slot facts past (Some pdu) =
    ap (λ (role : Role). (facts_before_taking role slot (header_in pdu) facts).control.table.closing) is_central
    ∙ closing_acked (acks_control (has_acknowledged facts (header_in pdu)) facts) (keyed_of facts) (past_knows setup facts past)

-- ---- numbers and stations

one_station : (one other : ℕ) → (one ≡ 0) ⊎ (one ≡ 1) → (other ≡ 0) ⊎ (other ≡ 1) → side_of one ≡ side_of other → one ≡ other
one_station one other (inl a) (inl b) same = a ∙ sym b
one_station one other (inr a) (inr b) same = a ∙ sym b
one_station one other (inl a) (inr b) same = absurd (let h : A ≡ B = ap side_of (sym a) ∙ same ∙ ap side_of b in absurd cc)
one_station one other (inr a) (inl b) same = absurd (let h : B ≡ A = ap side_of (sym a) ∙ same ∙ ap side_of b in absurd cc)

not_there : (X : Type 0) (one other : ℕ) (step : Step) (octets : List ℕ) (slot : ℕ) (radio : Bool) (call next : Step) → call ≡ PacketHeard octets
    → next ≡ TurnBegins slot radio → Called one call ≡ Called other next → X
not_there X one other step octets slot radio call next heard begins same =
    absurd (let steps : call ≡ next = cc in let h : PacketHeard octets ≡ TurnBegins slot radio = sym heard ∙ steps ∙ begins in absurd cc)

same_opened : (one other before after : ℕ) → before ≡ one + 1 → after ≡ other + 1 → before ≡ after → other ≡ one
same_opened one other before after first second same = omega (arith, first, second, same)

plus_none : (known earlier : ℕ) → 0 + known + earlier ≡ known + earlier
plus_none known earlier = omega arith

none_plus : (n : ℕ) → 0 + n ≡ n
none_plus n = omega arith

no_more : (known earlier rest now most lines after said : ℕ) → lines ≡ known + earlier → after ≡ lines + said → said ≡ 0
    → known + (earlier + rest + now) ≤ most → after ≡ most → now ≡ 0
no_more known earlier rest now most lines after said one two none less all = omega (arith, one, two, none, less, all)

-- ---- a line of a PDU that the central sends, and that of the PDU that it took

module _ (whole_heard : IsHeardWhole) (understood : IsUnderstood) (taken : AreTaken) (nth : AreNth) (apart : AreApart) (given : Given)
    (are_pair : IsOfTwo given) (six : HaveAddresses given) (mixed : Mixed) (follows : Follows given mixed) (prevail : PrevailInRuns) (front between : List Entry) (link : LinkBegun) (number count llid : ℕ)
    (body : List ℕ) (call : IsLineInCall given front (took_line link.central number count llid body))
    (heard : IsReception (setup_at given call.station) (facts_at given call.station call.base) call.step call.earlier call.handle count llid
    (record { items = body }))
    (far : HasFarEnd given call.station call.base call.handle) (unmixed : mixed number front ≡ false) (p q : Kind) (collides : Collides front link number llid body p q)
    (next_count next_llid : ℕ) (next : List ℕ)
    (next_call : IsLineInCall given (front ++ Took link.central number count llid body ∷ between) (sent_line link.central number next_count next_llid next)) where
  abbrev took : Entry
  took = Took link.central number count llid body

  abbrev after : List Entry
  after = front ++ Took link.central number count llid body ∷ between

  abbrev line : LinkLine
  line = took_line link.central number count llid body

  abbrev next_line : LinkLine
  next_line = sent_line link.central number next_count next_llid next

  abbrev facts : Facts
  facts = facts_at given call.station call.base

  abbrev own_setup : Setup
  own_setup = setup_at given call.station

  abbrev room : Bool
  room = has_room (setup_at given call.station) facts

  abbrev step : EndStep
  step = PacketReceived facts.turn.slot heard.octets room

  abbrev end_setup : EndSetup
  end_setup = heard.link.setup

  abbrev now : EndFacts
  now = received heard.link.setup facts.turn.slot heard.octets room (facts_in heard.link)

  heard_past : IsPast end_setup (facts_in heard.link)
  heard_past = record { past = heard.link.past; is = refl }

  now_past : IsPast end_setup now
  now_past = record { past = heard.link.past ++ step ∷ []; is = sym (grows end_setup heard.link.past step) }

  distinct : AreDistinct given.stations
  distinct = are_distinct given are_pair

  is_on : is_in call.station given.stations ≡ true
  is_on = on whole_heard understood taken nth apart given are_pair six mixed follows prevail front link number count llid body call heard far unmixed p q collides

  is_central : heard.link.setup.link.role ≡ Central
  is_central = role whole_heard understood taken nth apart given are_pair six mixed follows prevail front link number count llid body call heard far unmixed p q collides

  -- of its own it runs a procedure that excludes others, and no encryption
  now_alone : has_encryption now.control.table.progress ≡ false
  now_alone =
      let own = excludes whole_heard understood taken nth apart given are_pair six mixed follows prevail front link number count llid body call heard far unmixed p q collides in
      exclusive_alone now.control.table.progress (is_open now.control.table.closing) now.control.table.queue.rejections now.control.table.queue.drafts own.kind
      (runs_still whole_heard understood taken nth apart given are_pair six mixed follows prevail front link number count llid body call heard far unmixed p q collides)

  now_central : role_of now.control.table.progress ≡ Central
  now_central =
      ap (λ (f : EndFacts). role_of f.control.table.progress) now_past.is ∙ keeps_role end_setup now_past.past ∙ is_central

  called : history_of (run_of given) ≡ call.base ++ Called call.station (PacketHeard heard.octets) ∷ call.after
  called = at whole_heard understood taken nth apart given are_pair six mixed follows prevail front link number count llid body call heard far unmixed p q collides

  -- the link as the turn of the second line begins
  module _ (later : OpenLink) (later_open : link_at next_call.handle (facts_at given next_call.station next_call.base).links ≡ Some later) where
    on_later : is_in next_call.station given.stations ≡ true
    on_later = in_it understood taken given are_pair six after next_line next_call later later_open

    of_later : IsEndOfLine given after next_line next_call later
    of_later = end_of_line understood taken given are_pair six after next_line next_call later later_open

    pub later_central : later.setup.link.role ≡ Central
    later_central =
        sym (role_of_end link of_later.link_begun later.setup.link.role link.central
        (sym of_later.is_link ∙ number_stays number front (took ∷ between) link collides.is_link) of_later.central_is)
        ∙ central_by link.central

    same_place : next_call.station ≡ call.station
    same_place =
        one_station next_call.station call.station (of_two_stations given are_pair next_call.station on_later)
        (of_two_stations given are_pair call.station is_on)
        (next_call.side_is ∙ sym call.side_is)

    module _ (begins : IsSentAtBegin (setup_at given next_call.station) (facts_at given next_call.station next_call.base) next_call.later
        next_call.step next_call.handle next_count next_llid next later) where
      called_later : history_of (run_of given) ≡ next_call.base ++ Called next_call.station (TurnBegins begins.slot begins.on) ∷ next_call.after
      called_later = next_call.called ∙ ap (λ s. next_call.base ++ Called next_call.station s ∷ next_call.after) begins.step_is

      stands_later : StandsAtBegin given next_call.base next_call.station begins.slot
      stands_later = stands_called given next_call.base next_call.after next_call.station (TurnBegins begins.slot begins.on) distinct called_later

      goes_later : (facts_in later).control.ends ≡ None
      goes_later =
          (older_at (setup_at given next_call.station) (past_of next_call.station next_call.base) begins.slot stands_later.own).goes_on next_call.handle later
          later_open

      stands : StandsInPhase given call.base call.station
      stands = stands_called given call.base call.after call.station (PacketHeard heard.octets) distinct called

      side : StationAt (setup_at given call.station) (Within stands.phases) stands.turns facts
      side =
          turned own_setup (StationAt own_setup) (station_kept taken own_setup) (past_of call.station call.base) (at_stage (Within stands.phases) stands.turns)
          (station_first own_setup) stands.stand.own

      old : heard.link.setup.opened < facts.turn.slot
      old =
          open_has (OpenedBefore facts.turn.slot) 0 call.handle facts.links heard.link
          (side.station.old (listens_on_link call.handle facts.turn.doing heard.listens)) heard.is_open

      single : (other : ℕ) (found : OpenLink) → link_at other facts.links ≡ Some found → found.setup.opened ≡ heard.link.setup.opened → call.handle ≡ other
      single other found is same =
          opened_once given call.base (Called call.station call.step ∷ call.after) call.station call.handle other heard.link found distinct is_on call.called
          heard.is_open is (sym same)

      -- a central is given no words
      unworded : link_worded own_setup facts facts.turn.doing heard.link ≡ heard.link
      unworded =
          central_unworded facts.links call.handle heard.link heard.is_open own_setup facts stands.phases facts.turn.doing
          (in_phase own_setup (past_of call.station call.base) stands.phases stands.turns stands.stand.own) heard.listens is_central

      -- the call of the second line is a later one
      module _ (mid : List Event) (base_is : next_call.base ≡ call.base ++ Called call.station call.step ∷ mid) where
        has_first : HasNumber call.base (number_at call.station call.handle call.base) call.station heard.link.setup
        has_first =
            numbered_at understood taken given call.base call.after (Called call.station call.step) distinct six call.called refl call.station call.handle
            heard.link heard.is_open

        has_later : HasNumber next_call.base (number_at next_call.station next_call.handle next_call.base) next_call.station later.setup
        has_later =
            numbered_at understood taken given next_call.base next_call.after (Called next_call.station next_call.step) distinct six next_call.called refl
            next_call.station next_call.handle later later_open

        has_still : HasNumber next_call.base (number_at call.station call.handle call.base) call.station heard.link.setup
        has_still =
            subst (λ h. HasNumber h (number_at call.station call.handle call.base) call.station heard.link.setup) (sym base_is)
            (numbered_more call.base (Called call.station call.step ∷ mid) (number_at call.station call.handle call.base) call.station heard.link.setup
            has_first.has has_first.number_is)

        first_number : number_at call.station call.handle call.base ≡ number
        first_number =
            (end_of_line understood taken given are_pair six front line call heard.link heard.is_open).number_is

        opened_same : later.setup.opened ≡ heard.link.setup.opened
        opened_same =
            same_opened heard.link.setup.opened later.setup.opened _ _ has_still.has.in_turn has_later.has.in_turn
            (ap turns_begun (one_connect next_call.base (number_at call.station call.handle call.base)
            (number_at next_call.station next_call.handle next_call.base) call.station next_call.station heard.link.setup later.setup
            (first_number ∙ sym of_later.number_is) has_still has_later))

        abbrev past : List Step
        past = past_of call.station call.base

        abbrev more : List Step
        more = past_of call.station mid

        past_later : past_of call.station next_call.base ≡ past ++ PacketHeard heard.octets ∷ more
        past_later =
            ap (past_of call.station) base_is ∙ flat_map-append (steps_in call.station) call.base (Called call.station call.step ∷ mid)
            ∙ (λ i. past ++ (one_if (same_station call.station i) (heard.step_is i) ++ more))

        later_here : link_at next_call.handle (facts_of own_setup (past ++ PacketHeard heard.octets ∷ more)).links ≡ Some later
        later_here =
            sym (ap (λ xs. link_at next_call.handle (facts_of own_setup xs).links) past_later)
            ∙ sym (ap (λ s. link_at next_call.handle (facts_at given s next_call.base).links) same_place) ∙ later_open

        stood_later : standing (past ++ PacketHeard heard.octets ∷ more) ≡ Some (at_stage Between begins.slot)
        stood_later =
            sym (ap standing past_later) ∙ sym (ap (λ s. standing (past_of s next_call.base)) same_place) ∙ stands_later.own

        since : IsSince own_setup facts heard.octets call.handle next_call.handle heard.link later
        since =
            since_received own_setup past stands.phases stands.turns heard.octets call.handle heard.link stands.stand.own heard.is_open heard.listens old single unworded
            more (at_stage Between begins.slot) next_call.handle later stood_later opened_same later_here

        -- what the end holds then
        facts_later : facts_in later ≡ facts_from end_setup now since.steps
        facts_later =
            (λ i. end_facts_of (since.setup_is i) (since.past_is i)) ∙ facts_more end_setup heard.link.past (step ∷ since.steps)

        goes : (facts_from end_setup now since.steps).control.ends ≡ None
        goes = ap (λ (f : EndFacts). f.control.ends) (sym facts_later) ∙ goes_later

        -- it notes no PDU as sent in between
        notes_later : end_notes_of later.setup later.past
            ≡ end_notes_of end_setup heard.link.past ++ (end_notes end_setup (facts_in heard.link) step ++ notes_from end_setup now since.steps)
        notes_later =
            (λ i. end_notes_of (since.setup_is i) (since.past_is i)) ∙ notes_more end_setup heard.link.past (step ∷ since.steps)

        known : ℕ
        known = sendings (end_notes_of end_setup heard.link.past)

        first_lines : sents (lines_of link.central number front) ≡ known + sendings call.earlier
        unfolding known
        first_lines =
            ap sents (lines_are whole_heard understood taken nth apart given are_pair six mixed follows prevail front link number count llid body call heard far unmixed p q collides)
            ∙ lines_sent link.central number (notes_opened_on end_setup heard.link.past ++ call.earlier)
            ∙ sendings_more (notes_opened_on end_setup heard.link.past) call.earlier
            ∙ plus_none (sendings (end_notes_of end_setup heard.link.past)) (sendings call.earlier)

        after_lines : sents (lines_of link.central number after) ≡ sents (lines_of link.central number front) + sents (lines_of link.central number between)
        after_lines =
            ap sents (lines_append link.central number front (took ∷ between) ∙ ap (λ xs. lines_of link.central number front ++ xs)
            (line_here link.central number took between refl))
            ∙ sents_more (lines_of link.central number front) (took ∷ lines_of link.central number between)
            ∙ ap (λ n. sents (lines_of link.central number front) + n) (none_plus (sents (lines_of link.central number between)))

        most : ℕ
        most = sendings (fold (note_under next_call.handle) (notes_opened_on later.setup later.past) next_call.earlier)

        said_later : sents (lines_of link.central number after) ≡ most
        unfolding most
        said_later =
            ap sents (end_lines understood taken given are_pair six after next_line next_call later later_open)
            ∙ lines_sent link.central number (fold (note_under next_call.handle) (notes_opened_on later.setup later.past) next_call.earlier)

        less : known + (sendings call.earlier + sendings heard.rest + sendings (notes_from end_setup now since.steps)) ≤ most
        unfolding known most
        less =
            subst (λ n. n ≤ most)
            (none_plus (sendings (end_notes_of later.setup later.past)) ∙ ap sendings notes_later
            ∙ sendings_more (end_notes_of end_setup heard.link.past) (end_notes end_setup (facts_in heard.link) step ++ notes_from end_setup now since.steps)
            ∙ ap (λ n. known + n) (sendings_more (end_notes end_setup (facts_in heard.link) step) (notes_from end_setup now since.steps)
            ∙ ap (λ n. n + sendings (notes_from end_setup now since.steps)) (ap sendings heard.notes_are
            ∙ sendings_more call.earlier (TookNote call.handle count llid (record { items = body }) ∷ heard.rest)
            ∙ ap (λ n. sendings call.earlier + n) (none_plus (sendings heard.rest)))))
            (sendings_grow next_call.handle (notes_opened_on later.setup later.past) next_call.earlier
            (none_opened next_call.handle next_call.earlier
            (none_open understood taken given are_pair six after next_line next_call later later_open)))

        unsent : SendsNothing link.central number between → list_any is_sending (notes_from end_setup now since.steps) ≡ false
        unsent none =
            none_sent (notes_from end_setup now since.steps)
            (no_more known (sendings call.earlier) (sendings heard.rest) (sendings (notes_from end_setup now since.steps)) most
            (sents (lines_of link.central number front)) (sents (lines_of link.central number after)) (sents (lines_of link.central number between))
            first_lines after_lines (none_said (lines_of link.central number between) none) less said_later)

        abbrev enters : Bool
        enters = enters_in begins.slot later

        abbrev last : EndFacts
        last = facts_from later.setup (facts_in later) (entered_steps (enters_in begins.slot later) begins.slot)

        entered_is : end_facts_of later.setup (link_entered begins.slot later).past ≡ last
        entered_is =
            ap (end_facts_of later.setup) (entered_past enters begins.slot later)
            ∙ facts_more later.setup later.past (entered_steps enters begins.slot)

        last_past : IsPast later.setup last
        last_past = record { past = (link_entered begins.slot later).past; is = sym entered_is }

        none_now : is_control last.outgoing.fixed ≡ false
        none_now =
            ap (λ (f : EndFacts). is_control f.outgoing.fixed) (sym entered_is) ∙ none_fixed later.setup later_central (link_entered begins.slot later).past

        base_facts : facts_in begins.base ≡ facts_fixed last
        base_facts =
            (λ i. end_facts_of (begins.setup_is i) (begins.past_is i)) ∙ grows later.setup (link_entered begins.slot later).past PduFixed
            ∙ ap facts_fixed entered_is

        -- so what it sends is the rejection
        module _ (none : SendsNothing link.central number between) (x : TheRejection) (waiting : next_outgoing now ≡ Rejection x) where
          waiting_later : next_outgoing (facts_in later) ≡ Rejection x
          waiting_later = ap next_outgoing facts_later ∙ waits_still x end_setup is_central since.steps now now_past waiting goes (unsent none)

          pub sent_now : IsSentNow x later.setup later_central next_llid next
          sent_now =
              sent_next x later.setup later_central last none_now
              (still_next later.setup x later_central (facts_in later) begins.slot waiting_later goes_later enters)
              (still_goes later.setup x later_central (facts_in later) begins.slot waiting_later goes_later enters)
              next_call.handle next_count next_llid next
              (sym (λ i. sent_notes (begins.setup_is i) (base_facts i)) ∙ begins.notes)

        -- a central whose host ended the link sends LL_TERMINATE_IND, or nothing
        last_goes : (entering : Bool) → (facts_from later.setup (facts_in later) (entered_steps entering begins.slot)).control.ends ≡ None
        last_goes true = entered_goes later.setup (facts_in later) begins.slot goes_later
        last_goes false = goes_later

        last_ends : (d : Option ErrCode) (entering : Bool) → Ending d (facts_in later).control
            → Ending d (facts_from later.setup (facts_in later) (entered_steps entering begins.slot)).control
        last_ends d true ending = end_step d later.setup later_central (EventEntered begins.slot) (facts_in later) refl ending
        last_ends d false ending = ending

        last_quiet : (d : Option ErrCode) → Ending d last.control → is_quiet_now last ≡ true
        last_quiet d ending = quiet_there later.setup last last_past (last_goes enters) ending.alone

        notes_now : sent_notes later.setup (facts_fixed last) ≡ SentNote next_call.handle next_count next_llid (record { items = next }) ∷ []
        notes_now = sym (λ i. sent_notes (begins.setup_is i) (base_facts i)) ∙ begins.notes

        pub ended_now : SendsNothing link.central number between → (d : Option ErrCode) → Ending d now.control → IsTermination next_llid next
        ended_now none (Some code) ending =
            let last_ending = last_ends (Some code) enters (subst (λ (f : EndFacts). Ending (Some code) f.control) (sym facts_later)
            (ending_still code end_setup is_central since.steps now now_past ending goes (unsent none))) in
            let sent = sent_ending code later.setup later_central last (last_quiet (Some code) last_ending) none_now last_ending.table (last_goes enters)
            next_call.handle next_count next_llid next notes_now in
            record { code = code.0 % 256; is = (λ i. control_in (sent.0 i) (sent.1 i)) ∙ ap Some (terminate_read code.0) }
        ended_now none None ending =
            let last_ending = last_ends None enters (subst (λ (f : EndFacts). Ending None f.control) (sym facts_later)
            (nothing_still end_setup is_central since.steps now now_past ending)) in
            sent_nothing later.setup later_central _ last (last_quiet None last_ending) none_now last_ending.table next_call.handle next_count next_llid next notes_now

        -- ---- which indication it may send

        lines_later : lines_of link.central number after
            ≡ map (line_of link.central number) (notes_opened_on later.setup (link_entered begins.slot later).past)
        lines_later =
            end_lines understood taken given are_pair six after next_line next_call later later_open
            ∙ ap (map (line_of link.central number))
            (said (setup_at given next_call.station) (past_of next_call.station next_call.base) next_call.step next_call.handle next_count next_llid next
            next_call.earlier next_call.later later later_open next_call.notes_are begins)

        abbrev more_steps : List EndStep
        more_steps = since.steps ++ entered_steps (enters_in begins.slot later) begins.slot

        abbrev told : Note
        told = TookNote call.handle count llid (record { items = body })

        past_entered : (link_entered begins.slot later).past ≡ heard.link.past ++ step ∷ more_steps
        past_entered =
            entered_past enters begins.slot later ∙ ap (λ (xs : List EndStep). xs ++ entered_steps enters begins.slot) since.past_is
            ∙ append_assoc heard.link.past (step ∷ since.steps) (entered_steps enters begins.slot)

        notes_all : notes_opened_on later.setup (link_entered begins.slot later).past
            ≡ (notes_opened_on end_setup heard.link.past ++ call.earlier) ++ told ∷ (heard.rest ++ notes_from end_setup now more_steps)
        notes_all =
            (λ i. notes_opened_on (since.setup_is i) (past_entered i))
            ∙ ap (λ (xs : List Note). note_opened end_setup.link ∷ xs) (notes_more end_setup heard.link.past (step ∷ more_steps))
            ∙ ap (λ (xs : List Note). notes_opened_on end_setup heard.link.past ++ (xs ++ notes_from end_setup now more_steps)) heard.notes_are
            ∙ ap (λ (xs : List Note). notes_opened_on end_setup heard.link.past ++ xs)
            (append_assoc call.earlier (told ∷ heard.rest) (notes_from end_setup now more_steps))
            ∙ sym (append_assoc (notes_opened_on end_setup heard.link.past) call.earlier (told ∷ (heard.rest ++ notes_from end_setup now more_steps)))

        lines_parted : lines_of link.central number after ≡ lines_of link.central number front ++ took ∷ lines_of link.central number between
        lines_parted =
            lines_append link.central number front (took ∷ between)
            ∙ ap (λ xs. lines_of link.central number front ++ xs) (line_here link.central number took between refl)

        between_said : map (line_of link.central number) (heard.rest ++ notes_from end_setup now more_steps) ≡ lines_of link.central number between
        between_said =
            let line_is = line_of link.central number in
            let known = notes_opened_on end_setup heard.link.past ++ call.earlier in
            let notes = heard.rest ++ notes_from end_setup now more_steps in
            let first = lines_are whole_heard understood taken nth apart given are_pair six mixed follows prevail front link number count llid body call heard far unmixed p q collides in
            let both : map line_is known ++ took ∷ map line_is notes ≡ map line_is known ++ took ∷ lines_of link.central number between =
            sym (map-append line_is known (told ∷ notes)) ∙ ap (map line_is) (sym notes_all) ∙ sym lines_later ∙ lines_parted
            ∙ ap (λ xs. xs ++ took ∷ lines_of link.central number between) first in
            let rests : took ∷ map line_is notes ≡ took ∷ lines_of link.central number between = append_cancel_left (map line_is known) _ _ both in
            cc

        module _ (kind : Exclusive) (unopened : list_any (is_opening_line kind) (lines_of link.central number between) ≡ false) where
          none_opened_since : list_any (is_opening kind) (notes_from end_setup now more_steps) ≡ false
          none_opened_since =
              (or_parts (list_any (is_opening kind) heard.rest) (list_any (is_opening kind) (notes_from end_setup now more_steps))
              (sym (list_any-append (is_opening kind) heard.rest (notes_from end_setup now more_steps))
              ∙ lines_open link.central number kind (heard.rest ++ notes_from end_setup now more_steps)
              ∙ ap (list_any (is_opening_line kind)) between_said ∙ unopened)).1

          -- it keeps no PDU now
          now_goes : now.control.ends ≡ None
          now_goes = ends_go end_setup now since.steps now_past goes

          kept_none : is_opening_kept kind now.encryption.kept ≡ false
          kept_none = ap (is_opening_kept kind) (none_kept end_setup now now_past now_goes (quiet_there end_setup now now_past now_goes now_alone))

          last_is : last ≡ fold (end_facts_after end_setup) now more_steps
          last_is =
              (λ i. facts_from (since.setup_is i) (facts_later i) (entered_steps enters begins.slot))
              ∙ sym (facts_joined end_setup now since.steps (entered_steps enters begins.slot)) ∙ folded end_setup now more_steps

          owes_last : Owes kind (central_of last.control.table)
          owes_last =
              let all = prevails whole_heard understood taken nth apart given are_pair six mixed follows prevail front link number count llid body call heard far unmixed p q collides in
              subst (λ (f : EndFacts). Owes kind (central_of f.control.table)) (sym last_is)
              (steps_owe end_setup now more_steps kind now_past is_central (all.owes kind) kept_none none_opened_since)

          runs_last : next_llid ≡ 3 → indicates (ctrl_of next) ≡ Some kind → central_kind (central_of last.control.table).own ≡ Some kind
          runs_last three is =
              let past = (link_entered begins.slot later).past in
              ap (λ (f : EndFacts). central_kind (central_of f.control.table).own) (sym entered_is)
              ∙ sent_runs later.setup (end_facts_of later.setup past) (keeps_role later.setup past ∙ later_central) (past_may_wait later.setup past)
              (none_fixed later.setup later_central past) kind
              (subst (λ (f : EndFacts). Owes kind (central_of f.control.table)) (sym entered_is) owes_last)
              next_call.handle next_count next_llid next (ap (λ (f : EndFacts). sent_notes later.setup (facts_fixed f)) entered_is ∙ notes_now) three is

          pub own_runs : next_llid ≡ 3 → indicates (ctrl_of next) ≡ Some kind → runs_on (kind_of kind) link.central number after ≡ true
          own_runs three is =
              let past = (link_entered begins.slot later).past in
              ap (fold (runs_after (kind_of kind)) false) lines_later
              ∙ lines_run link.central number (kind_of kind) false (notes_opened_on later.setup past)
              ∙ past_goes later.setup past (kind_of kind)
              ∙ ap (λ (f : EndFacts). runs_at (kind_of kind) f) entered_is
              ∙ at_central last.control.table last.control.table.progress kind
              (ap (λ (f : EndFacts). role_of f.control.table.progress) (sym entered_is) ∙ keeps_role later.setup past ∙ later_central)
              ∙ ap (λ (may : Option Exclusive). is_exclusive_kind may kind) (runs_last three is) ∙ same_exclusive kind

    -- ---- both

    by_closing : SendsNothing link.central number between → (begins : IsSentAtBegin (setup_at given next_call.station) (facts_at given next_call.station next_call.base) next_call.later
        next_call.step next_call.handle next_count next_llid next later) (mid : List Event)
        → next_call.base ≡ call.base ++ Called call.station call.step ∷ mid → (opened : Bool) → is_open (facts_in heard.link).control.table.closing ≡ opened
        → IsRejection p q next_llid next ⊎ IsTermination next_llid next
    by_closing none begins mid base_is true opened =
        let first = begun whole_heard understood taken nth apart given are_pair six mixed follows prevail front link number count llid body call heard far unmixed p q collides in
        let own = excludes whole_heard understood taken nth apart given are_pair six mixed follows prevail front link number count llid body call heard far unmixed p q collides in
        let all = prevails whole_heard understood taken nth apart given are_pair six mixed follows prevail front link number count llid body call heard far unmixed p q collides in
        let rejects = all.rejected (ap is_open (closing_by heard.link.setup is_central facts.turn.slot (facts_in heard.link) heard_past
        (good_pdu heard.link.setup (facts_in heard.link) heard.octets)) ∙ opened) in
        inl (written_now rejects.rejection later.setup later_central own.kind first.kind p q next_llid next own.kind_is first.kind_is first.opcode
        rejects.opcode rejects.code (sent_now begins mid base_is none rejects.rejection rejects.next))
    by_closing none begins mid base_is false closed =
        let all = prevails whole_heard understood taken nth apart given are_pair six mixed follows prevail front link number count llid body call heard far unmixed p q collides in
        let same = closing_by heard.link.setup is_central facts.turn.slot (facts_in heard.link) heard_past
        (good_pdu heard.link.setup (facts_in heard.link) heard.octets) in
        let shut = ap is_open same ∙ closed in
        inr (ended_now begins mid base_is none now.control.table.queue.disconnect (record {
          table = ends_now heard.link.setup is_central facts.turn.slot heard.octets room (facts_in heard.link) now.control.table.queue.disconnect
              (ap is_disconnecting (sym same) ∙ all.ending shut) refl (all.closing shut);
          role = now_central;
          alone = now_alone;
        }))

    by_order : SendsNothing link.central number between → (begins : IsSentAtBegin (setup_at given next_call.station) (facts_at given next_call.station next_call.base) next_call.later
        next_call.step next_call.handle next_count next_llid next later)
        → AreInOrder given front after line next_line call next_call → IsRejection p q next_llid next ⊎ IsTermination next_llid next
    by_order none begins (InOneCall base_is same) =
        not_there _ call.station next_call.station call.step heard.octets begins.slot begins.on call.step next_call.step heard.step_is begins.step_is same
    by_order none begins (InLaterCall mid base_is) = by_closing none begins mid base_is (is_open (facts_in heard.link).control.table.closing) refl

  by_sent : SendsNothing link.central number between → IsSentIn (setup_at given next_call.station) (facts_at given next_call.station next_call.base) next_call.later next_call.step next_call.handle next_count next_llid next
      → IsRejection p q next_llid next ⊎ IsTermination next_llid next
  by_sent none (AtBegin later later_open sends) =
      by_order later later_open none (sends (later_central later later_open)) (in_order given front between took line next_line call next_call)
  by_sent none (AsAnswer later later_open never) = absurd (never (later_central later later_open))

  pub rejected_or_ending : SendsNothing link.central number between → IsRejection p q next_llid next ⊎ IsTermination next_llid next
  rejected_or_ending none =
      by_sent none (sent_in (setup_at given next_call.station) (past_of next_call.station next_call.base) next_call.earlier next_call.later next_call.handle
      next_count next_llid next next_call.step next_call.notes_are)

  -- ---- an indication that it sends

  owned_by : (later : OpenLink) (later_open : link_at next_call.handle (facts_at given next_call.station next_call.base).links ≡ Some later)
      (begins : IsSentAtBegin (setup_at given next_call.station) (facts_at given next_call.station next_call.base) next_call.later
      next_call.step next_call.handle next_count next_llid next later) → AreInOrder given front after line next_line call next_call → (kind : Exclusive)
      → list_any (is_opening_line kind) (lines_of link.central number between) ≡ false → next_llid ≡ 3 → indicates (ctrl_of next) ≡ Some kind
      → runs_on (kind_of kind) link.central number after ≡ true
  owned_by later later_open begins (InOneCall base_is same) kind unopened three is =
      not_there _ call.station next_call.station call.step heard.octets begins.slot begins.on call.step next_call.step heard.step_is begins.step_is same
  owned_by later later_open begins (InLaterCall mid base_is) kind unopened three is = own_runs later later_open begins mid base_is kind unopened three is

  owned_sent : IsSentIn (setup_at given next_call.station) (facts_at given next_call.station next_call.base) next_call.later next_call.step next_call.handle
      next_count next_llid next → (kind : Exclusive)
      → list_any (is_opening_line kind) (lines_of link.central number between) ≡ false → next_llid ≡ 3 → indicates (ctrl_of next) ≡ Some kind
      → runs_on (kind_of kind) link.central number after ≡ true
  owned_sent (AtBegin later later_open sends) kind unopened three is =
      owned_by later later_open (sends (later_central later later_open)) (in_order given front between took line next_line call next_call) kind unopened three is
  owned_sent (AsAnswer later later_open never) kind unopened three is = absurd (never (later_central later later_open))

  pub owned : (kind : Exclusive) → list_any (is_opening_line kind) (lines_of link.central number between) ≡ false → next_llid ≡ 3
      → indicates (ctrl_of next) ≡ Some kind → runs_on (kind_of kind) link.central number after ≡ true
  owned =
      owned_sent (sent_in (setup_at given next_call.station) (past_of next_call.station next_call.base) next_call.earlier next_call.later next_call.handle
      next_count next_llid next next_call.step next_call.notes_are)

module _ (whole_heard : IsHeardWhole) (understood : IsUnderstood) (taken : AreTaken) (nth : AreNth) (apart : AreApart) (given : Given)
    (are_pair : IsOfTwo given) (six : HaveAddresses given) (mixed : Mixed) (follows : Follows given mixed) (prevail : PrevailInRuns) where
  pub all_rejected : AllAreRejectedNext mixed (journal_of (history_of (run_of given)))
  all_rejected front between rest link number count llid body next_count next_llid next p q is unmixed_there collides none =
      let took = Took link.central number count llid body in
      let unmixed = follows.front number front (took ∷ between) unmixed_there in
      let sent = Sent link.central number next_count next_llid next in
      let call = line_in_call given front (between ++ sent ∷ rest) took (took_line link.central number count llid body) refl
      (is ∙ append_assoc front (took ∷ between) (sent ∷ rest)) in
      let next_call = line_in_call given (front ++ took ∷ between) rest sent (sent_line link.central number next_count next_llid next) refl is in
      let heard = reception_of (setup_at given call.station) (past_of call.station call.base) call.earlier call.later call.handle count llid
      (record { items = body }) call.step call.notes_are in
      let at : history_of (run_of given) ≡ call.base ++ Called call.station (PacketHeard heard.octets) ∷ call.after =
      call.called ∙ ap (λ s. call.base ++ Called call.station s ∷ call.after) heard.step_is in
      let far = far_before whole_heard understood taken nth apart given are_pair six call.base call.after call.station heard.octets at call.handle heard.link
      heard.is_open heard.listens heard.unforged in
      rejected_or_ending whole_heard understood taken nth apart given are_pair six mixed follows prevail front between link number count llid body call heard far unmixed p q collides
      next_count next_llid next next_call none

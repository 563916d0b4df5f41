-- How one end is to leave its link goes by its lines, by the packet that it hears and by those that it sends.
use Rattle.std.proofs.Common.{◌≡◌, ℕ, ◌+◌, ◌&&◌, not, Bool, true, false, Option, Some, None, List, [], ◌∷◌, ◌++◌, refl, sym, ap, ◌∙◌, arith, if◌then◌else◌}
use Rattle.std.specs.Prelude.{nat_lt}
use Rattle.std.specs.List.{AllByRecursion}
use Rattle.ble_base.specs.declared.error_codes.ErrCode.{ErrCode}
use Rattle.ble_base.specs.declared.notes.Note.{Note}
use Rattle.ble_base.specs.declared.notes.Note.TheVariants.{Enter}
use Rattle.ble_base.specs.declared.procedure_kinds.Kind.{Kind}
use Rattle.ble_base.specs.declared.roles.Side.{Side}
use Rattle.data_pdu.specs.Header.{header_in}
use Rattle.ack_bit.specs.AckBits.{acknowledges}
use Rattle.journal.specs.declared.entries.Entry.{Entry}
use Rattle.journal.specs.declared.entries.Entry.TheVariants.{Took}
use Rattle.journal_controls.specs.Withheld.{Withheld, first_answer, nothing_withheld, withheld_answer}
use Rattle.journal_controls.specs.KeyedLines.{answer_by, does_if, given_by, keyed_by_all}
use Rattle.journal_controls.specs.LineSteps.{is_more_acked, steps_said}
use Rattle.journal_controls.specs.OneEnd.{IsToldOf}
use Rattle.journal_controls.specs.journal_acks.Exchange.{Exchanged}
use Rattle.journal_controls.specs.journal_links.LinkLines.{line_of}
use Rattle.journal_controls.specs.link_model.Acknowledgement.{Pdu, bits_of, is_acked}
use Rattle.journal_controls.specs.link_model.Controls.{goes_on, is_procedure_pdu, is_quiet_now, is_terminate, pdu_fixed, read_of}
use Rattle.journal_controls.specs.link_model.Data.{is_control, is_data, is_empty, numbered}
use Rattle.journal_controls.specs.link_model.End.{facts_after, notes_after}
use Rattle.journal_controls.specs.link_model.Entering.{began_notes, done_notes, event_notes, facts_entered}
use Rattle.journal_controls.specs.link_model.Events.{applied_notes}
use Rattle.journal_controls.specs.link_model.Facts.{Facts, keyed_of}
use Rattle.journal_controls.specs.link_model.Packets.{good_pdu, is_forged}
use Rattle.journal_controls.specs.link_model.Payload.{end_accepting}
use Rattle.journal_controls.specs.link_model.Receiving.{accepted_if, accepts, acked_kind, acknowledged_if, acks_control, answers_with_control, code_of, counts_accepted, data_taken_if, facts_before_taking, facts_forged_if, facts_hearing, facts_received, given_if, given_notes, has_acknowledged, heard_in_slot, kept_given_if, leaving_acked_if, leaving_by, notes_hearing, procedures_give, procedures_take_if, received_notes, refused_notes, took_notes_if}
use Rattle.journal_controls.specs.link_model.Sending.{leaving_sent, sent_notes_if, takes_leave}
use Rattle.journal_controls.specs.link_model.Setup.{Setup}
use Rattle.journal_controls.specs.link_model.Step.{EventEntered, PacketReceived, PacketSent}
use Rattle.journal_controls.specs.link_model.Verdicts.{pdu_of}
use Rattle.journal_controls.specs.link_model.control_end.Answers.{entry_of}
use Rattle.journal_controls.specs.link_model.control_end.Held.{held_of}
use Rattle.journal_controls.specs.link_model.control_end.declared.answers.Entry.{Entry as Entered}
use Rattle.journal_controls.specs.link_model.control_end.declared.answers.Taken.{Taken}
use Rattle.journal_controls.specs.link_model.declared.events.ConnectionEvent.{ConnectionEvent}
use Rattle.journal_controls.specs.link_model.declared.state.Leaving.{Leaving}
use Rattle.journal_controls.specs.link_model.keyed_control.Keyed.{Keyed}
use Rattle.journal_controls.specs.link_model.keyed_control.KeyedSteps.{Takes, TakesData}
use Rattle.journal_controls.specs.link_model.keyed_control.declared.material.Response.{Response}
use Rattle.journal_controls.specs.link_model.phased_end.Held.{held_of as keyed_held}
use Rattle.journal_controls.specs.link_model.phased_end.Taking.{drawn, handed_keyed, is_handed, nothing_keyed, taken_keyed}
use Rattle.journal_controls.specs.link_model.phased_end.declared.taking.TakenKeyed.{TakenKeyed}
use Rattle.journal_controls.proofs.EndMoves.{no_answer}
use Rattle.journal_controls.proofs.EndSteps.{accepted_moves, before_response, left_of, not_true, received_is}
use Rattle.journal_controls.proofs.NotedSteps.{accepts_if, empty_none, steps_accepted}
use Rattle.journal_controls.proofs.TakingLines.{answer_where}
use Rattle.journal_controls.proofs.link_model.Ending.{entered_stays, gone_stays}
use Rattle.journal_leaving.specs.Lacking.{leaving_refusing}
use Rattle.journal_leaving.specs.Leaving.{acks_terminate, leaving_saying}
use Rattle.journal_controls.specs.Hearing.{keyed_hearing}
use Rattle.journal_leaving.specs.Hearing.{leaving_hearing}
use Rattle.journal_leaving.specs.Said.{leaving_noted}

-- ---- notes of which none says that a PDU is taken

abbrev is_taking : Entry → Bool
is_taking (Took side link count llid body) = true
is_taking line = false

abbrev NoneTakes : Side → ℕ → List Note → Type 0
NoneTakes side number notes = AllByRecursion (λ note. is_taking (line_of side number note) ≡ false) notes

saying_none : (withheld : Withheld) (response : Response) (slot : ℕ) (k : Option Keyed) (l : Leaving) (line : Entry) → is_taking line ≡ false → leaving_saying withheld response slot k l line ≡ l
saying_none withheld response slot k l (Took side link count llid body) is = absurd cc
saying_none withheld response slot k l line is = refl

-- a control PDU that is taken, or is not
abbrev left_by : Bool → Response → ℕ → Pdu → Keyed → Leaving → Leaving
left_by takes response slot pdu k l = if takes then leaving_by (code_of (given_by response slot k pdu).taken.effect) l else l

-- a PDU is taken, and may be answered at once
abbrev left_took : Bool → Withheld → Response → ℕ → Pdu → Keyed → Leaving → Leaving
left_took accepted withheld response slot pdu k l =
    leaving_refusing slot (keyed_by_all (steps_accepted accepted response slot pdu) k) (answer_where accepted (answer_by withheld response slot k pdu))
    (left_by (accepted && is_procedure_pdu pdu) response slot pdu k l)

module _ (side : Side) (number : ℕ) where
  none_both : (notes more : List Note) → NoneTakes side number notes → NoneTakes side number more → NoneTakes side number (notes ++ more)
  none_both [] more here there = there
  none_both (note ∷ notes) more here there = (here.0, none_both notes more here.1 there)

  done_none : (handle : ℕ) (kind : Option Kind) → NoneTakes side number (done_notes handle kind)
  done_none handle None = tt
  done_none handle (Some kind) = (refl, tt)

  began_none : (handle : ℕ) (kind : Option Kind) → NoneTakes side number (began_notes handle kind)
  began_none handle None = tt
  began_none handle (Some kind) = (refl, tt)

  applied_none : (handle event : ℕ) (applied : Option ℕ) → NoneTakes side number (applied_notes handle event applied)
  applied_none handle event None = tt
  applied_none handle event (Some change) = (refl, tt)

  refused_none : (handle : ℕ) (refused : Option (Kind × ErrCode)) → NoneTakes side number (refused_notes handle refused)
  refused_none handle None = tt
  refused_none handle (Some (kind, code)) = (refl, tt)

  given_none : (handle : ℕ) (given : Taken) → NoneTakes side number (given_notes handle given)
  given_none handle given =
      none_both (refused_notes handle given.refused) (done_notes handle given.done) (refused_none handle given.refused) (done_none handle given.done)

  sent_none : (noted : Bool) (handle count : ℕ) (pdu : Pdu) → NoneTakes side number (sent_notes_if noted handle count pdu)
  sent_none true handle count pdu = (refl, tt)
  sent_none false handle count pdu = tt

  entered_none : (goes : Bool) (handle : ℕ) (event : ConnectionEvent) (entry : Entered) → NoneTakes side number (if goes then event_notes handle event entry else [])
  entered_none false handle event entry = tt
  entered_none true handle event entry =
      let applied = applied_notes handle event.number entry.applied in
      let enter = Enter handle (record { 0 = event.number }) event.channel ∷ [] in
      let done = done_notes handle entry.done in
      none_both ((applied ++ enter) ++ done) (began_notes handle entry.began)
      (none_both (applied ++ enter) done (none_both applied enter (applied_none handle event.number entry.applied) (refl, tt)) (done_none handle entry.done))
      (began_none handle entry.began)

  -- their lines change nothing
  none_noted : (withheld : Withheld) (response : Response) (slot : ℕ) (notes : List Note) (k : Keyed) (l : Leaving) → NoneTakes side number notes
      → leaving_noted side number withheld response slot notes k l ≡ l
  none_noted withheld response slot [] k l none = refl
  none_noted withheld response slot (note ∷ notes) k l none =
      let line = line_of side number note in
      none_noted withheld response slot notes (keyed_by_all (steps_said withheld response slot k line) k) (leaving_saying withheld response slot (Some k) l line) none.1
      ∙ saying_none withheld response slot (Some k) l line none.0

  pub entry_noted : (withheld : Withheld) (response : Response) (slot : ℕ) (setup : Setup) (facts : Facts) (l : Leaving) (k : Keyed)
      → leaving_noted side number withheld response slot (notes_after setup facts (EventEntered slot)) k l ≡ l
  entry_noted withheld response slot setup facts l k =
      none_noted withheld response slot (notes_after setup facts (EventEntered slot)) k l
      (entered_none (goes_on facts) setup.link.handle (facts_entered setup slot facts).event (entry_of slot (is_quiet_now facts) (held_of facts.control)))

  pub sent_noted : (withheld : Withheld) (response : Response) (slot : ℕ) (setup : Setup) (facts : Facts) (l : Leaving) (k : Keyed)
      → leaving_noted side number withheld response slot (notes_after setup facts (PacketSent slot)) k l ≡ l
  sent_noted withheld response slot setup facts l k =
      none_noted withheld response slot (notes_after setup facts (PacketSent slot)) k l
      (sent_none (is_acked facts.acknowledgement && not (is_empty (pdu_fixed facts))) setup.link.handle (numbered facts.acknowledgement.sent) (pdu_fixed facts))

  -- ---- the notes of a packet that is heard

  done_first : (withheld : Withheld) (response : Response) (slot handle : ℕ) (kind : Option Kind) (notes : List Note) (k : Keyed) (l : Leaving)
      → leaving_noted side number withheld response slot (done_notes handle kind ++ notes) k l ≡ leaving_noted side number withheld response slot notes k l
  done_first withheld response slot handle None notes k l = refl
  done_first withheld response slot handle (Some kind) notes k l = refl

  took_first : (withheld : Withheld) (accepted : Bool) (response : Response) (slot handle : ℕ) (pdu : Pdu) (now : Facts) (notes : List Note) (k : Keyed) (l : Leaving)
      → NoneTakes side number notes
      → leaving_noted side number withheld response slot (took_notes_if (accepted && not (is_empty pdu)) handle pdu now ++ notes) k l
      ≡ left_took accepted withheld response slot pdu k l
  took_first withheld false response slot handle pdu now notes k l none = none_noted withheld response slot notes k l none
  took_first withheld true response slot handle pdu now notes k l none = by (is_empty pdu) refl
    where
      by : (empty : Bool) → is_empty pdu ≡ empty
          → leaving_noted side number withheld response slot (took_notes_if (true && not (is_empty pdu)) handle pdu now ++ notes) k l
          ≡ left_took true withheld response slot pdu k l
      by true is =
          let after = keyed_by_all (steps_accepted true response slot pdu) k in
          let procedure = empty_none (is_control pdu) (is_empty pdu) is in
          (λ i. leaving_noted side number withheld response slot (took_notes_if (true && not (is i)) handle pdu now ++ notes) k l)
          ∙ none_noted withheld response slot notes k l none
          ∙ sym (λ i. leaving_refusing slot after (if procedure i then withheld_answer withheld (given_by response slot k pdu) else None) (left_by (procedure i) response slot pdu k l))
      by false is =
          let line = Took side number (numbered now.acknowledgement.accepted + 1) pdu.llid pdu.body in
          let others = does_if (is_procedure_pdu pdu) (Takes (read_of pdu) slot (drawn response)) ++ does_if (is_data pdu) TakesData in
          (λ i. leaving_noted side number withheld response slot (took_notes_if (true && not (is i)) handle pdu now ++ notes) k l)
          ∙ none_noted withheld response slot notes (keyed_by_all (steps_said withheld response slot k line) k) (leaving_saying withheld response slot (Some k) l line) none
          ∙ sym (λ i. leaving_refusing slot (keyed_by_all (accepts_if (true && not (is i)) ++ others) k) (answer_by withheld response slot k pdu)
          (left_by (is_procedure_pdu pdu) response slot pdu k l))

-- ---- an end that hears

-- a PDU that counts as it is accepted gives what it would
taken_alike : (handed : Bool) (one other : TakenKeyed) → one.taken ≡ other.taken → (if handed then one else nothing_keyed).taken ≡ (if handed then other else nothing_keyed).taken
taken_alike true one other same = same
taken_alike false one other same = refl

accepted_gives : (accepted : Bool) (pdu : Pdu) (slot : ℕ) (facts : Facts) → procedures_give pdu slot (accepted_if accepted pdu facts) ≡ procedures_give pdu slot facts
accepted_gives accepted pdu slot facts = by (counts_accepted accepted pdu)
  where
    by : (counts : Bool) → let k = keyed_of facts in let counted = keyed_held (record k { end = end_accepting counts k.end }) in
        (taken_keyed slot facts.encryption.response (read_of pdu) counted).taken ≡ procedures_give pdu slot facts
    by true =
        let k = keyed_of facts in
        let response = facts.encryption.response in
        let counted = keyed_held (record k { end = end_accepting true k.end }) in
        taken_alike (is_handed (read_of pdu) (keyed_held k)) (handed_keyed slot response (read_of pdu) counted) (handed_keyed slot response (read_of pdu) (keyed_held k)) refl
    by false = refl

taken_leaving : (takes : Bool) (pdu : Pdu) (slot : ℕ) (facts : Facts)
    → (procedures_take_if takes pdu slot facts).leaving ≡ (if takes then leaving_by (code_of (procedures_give pdu slot facts).effect) facts.leaving else facts.leaving)
taken_leaving true pdu slot facts = refl
taken_leaving false pdu slot facts = refl

pub data_leaving : (takes : Bool) (facts : Facts) → (data_taken_if takes facts).leaving ≡ facts.leaving
data_leaving true facts = refl
data_leaving false facts = refl

pub forged_leaving : (forged : Bool) (facts : Facts) → (facts_forged_if forged facts).leaving ≡ facts.leaving
forged_leaving true facts = refl
forged_leaving false facts = refl

-- nothing is answered at once where nothing is withheld
none_answered : (accepted : Bool) (response : Response) (slot : ℕ) (k : Keyed) (pdu : Pdu) → answer_where accepted (answer_by nothing_withheld response slot k pdu) ≡ None
none_answered false response slot k pdu = refl
none_answered true response slot k pdu = by (is_procedure_pdu pdu)
  where
    by : (procedure : Bool) → (if procedure then withheld_answer nothing_withheld (given_by response slot k pdu) else None) ≡ None
    by true =
        let given = given_by response slot k pdu in λ i. first_answer (no_answer given.taken.effect i) (no_answer given.kept.effect i)
    by false = refl

-- what it says of the packet moves it, from what it was as the packet reached it
module _ (side : Side) (number : ℕ) (withheld : Withheld) (slot : ℕ) (room : Bool) (setup : Setup) (facts : Facts) where
  abbrev response : Response
  response = facts.encryption.response

  hearing_noted : (octets : List ℕ) → let header = header_in octets in let pdu = pdu_of octets in
      let now = facts_before_taking setup.link.role slot header facts in
      leaving_noted side number withheld response slot (notes_hearing setup slot room header pdu facts) (keyed_of now) now.leaving
      ≡ left_took (accepts room header pdu now) withheld response slot pdu (keyed_of now) now.leaving
  hearing_noted octets =
      let handle = setup.link.handle in
      let header = header_in octets in
      let pdu = pdu_of octets in
      let now = facts_before_taking setup.link.role slot header facts in
      let accepted = accepts room header pdu now in
      let takes = accepted && is_procedure_pdu pdu in
      let given = given_if takes pdu slot now in
      let kept = kept_given_if takes pdu slot now in
      let later = given_notes handle given ++ given_notes handle kept in
      done_first side number withheld response slot handle (acked_kind (acks_control (has_acknowledged facts header) facts) facts)
      (took_notes_if (accepted && not (is_empty pdu)) handle pdu now ++ later) (keyed_of now) now.leaving
      ∙ took_first side number withheld accepted response slot handle pdu now later (keyed_of now) now.leaving
      (none_both side number (given_notes handle given) (given_notes handle kept) (given_none side number handle given) (given_none side number handle kept))

  hearing_left : (octets : List ℕ) → let header = header_in octets in let pdu = pdu_of octets in
      let now = facts_before_taking setup.link.role slot header facts in
      (facts_hearing setup.link.role slot room header pdu facts).leaving
      ≡ left_by (accepts room header pdu now && is_procedure_pdu pdu) response slot pdu (keyed_of now) now.leaving
  hearing_left octets =
      let role = setup.link.role in
      let header = header_in octets in
      let pdu = pdu_of octets in
      let now = facts_before_taking role slot header facts in
      let accepted = accepts room header pdu now in
      let takes = accepted && is_procedure_pdu pdu in
      let opened = accepted_if accepted pdu now in
      data_leaving (accepted && is_data pdu) (procedures_take_if takes pdu slot opened)
      ∙ taken_leaving takes pdu slot opened
      ∙ ap (λ (one : Taken). if takes then leaving_by (code_of one.effect) now.leaving else now.leaving) (accepted_gives accepted pdu slot now)
      ∙ ap (λ r. left_by takes r slot pdu (keyed_of now) now.leaving) (before_response role slot header facts)

  -- with the answer at once that no line says
  hearing_refuses : (octets : List ℕ) → let role = setup.link.role in let header = header_in octets in let pdu = pdu_of octets in
      let now = facts_before_taking role slot header facts in
      let heard = facts_hearing role slot room header pdu facts in
      leaving_noted side number withheld response slot (notes_hearing setup slot room header pdu facts) (keyed_of now) now.leaving
      ≡ leaving_refusing slot (keyed_of heard) (answer_where (accepts room header pdu now) (answer_by withheld response slot (keyed_of now) pdu)) heard.leaving
  hearing_refuses octets =
      let role = setup.link.role in
      let header = header_in octets in
      let pdu = pdu_of octets in
      let now = facts_before_taking role slot header facts in
      let accepted = accepts room header pdu now in
      let answer = answer_where accepted (answer_by withheld response slot (keyed_of now) pdu) in
      let moves : keyed_by_all (steps_accepted accepted response slot pdu) (keyed_of now) ≡ keyed_of (facts_hearing role slot room header pdu facts) =
      ap (λ r. keyed_by_all (steps_accepted accepted r slot pdu) (keyed_of now)) (sym (before_response role slot header facts)) ∙ sym (accepted_moves accepted pdu slot now) in
      hearing_noted octets ∙ (λ i. leaving_refusing slot (moves i) answer (sym (hearing_left octets) i))

  pub packet_refuses : (octets pdu : List ℕ) → good_pdu setup facts octets ≡ Some pdu → let role = setup.link.role in let may = good_pdu setup facts octets in
      let now = facts_before_taking role slot (header_in pdu) facts in
      let after = facts_after setup facts (PacketReceived slot octets room) in
      leaving_noted side number withheld response slot (notes_after setup facts (PacketReceived slot octets room)) (keyed_hearing role slot may facts) (leaving_hearing role slot may facts)
      ≡ leaving_refusing slot (keyed_of after) (answer_where (accepts room (header_in pdu) (pdu_of pdu) now) (answer_by withheld response slot (keyed_of now) (pdu_of pdu))) after.leaving
  packet_refuses octets pdu good =
      let role = setup.link.role in
      let now = facts_before_taking role slot (header_in pdu) facts in
      let answer = answer_where (accepts room (header_in pdu) (pdu_of pdu) now) (answer_by withheld response slot (keyed_of now) (pdu_of pdu)) in
      ap (λ may. leaving_noted side number withheld response slot (received_notes setup slot room may facts) (keyed_hearing role slot may facts) (leaving_hearing role slot may facts)) good
      ∙ hearing_refuses pdu
      ∙ ap (λ (f : Facts). leaving_refusing slot (keyed_of f) answer f.leaving) (sym (received_is setup facts slot octets pdu room good))

-- where nothing is withheld from its host
module _ (side : Side) (number slot : ℕ) (room : Bool) (setup : Setup) (facts : Facts) where
  abbrev drawn_then : Response
  drawn_then = facts.encryption.response

  received_leaves : (may : Option (List ℕ)) → let role = setup.link.role in
      (facts_received role slot room may facts).leaving
      ≡ leaving_noted side number nothing_withheld drawn_then slot (received_notes setup slot room may facts) (keyed_hearing role slot may facts) (leaving_hearing role slot may facts)
  received_leaves None = refl
  received_leaves (Some octets) =
      let header = header_in octets in
      let pdu = pdu_of octets in
      let now = facts_before_taking setup.link.role slot header facts in
      let heard = facts_hearing setup.link.role slot room header pdu facts in
      sym (hearing_refuses side number nothing_withheld slot room setup facts octets
      ∙ ap (λ answer. leaving_refusing slot (keyed_of heard) answer heard.leaving) (none_answered (accepts room header pdu now) drawn_then slot (keyed_of now) pdu))

  pub packet_leaves : (octets : List ℕ) → let role = setup.link.role in let may = good_pdu setup facts octets in
      (facts_after setup facts (PacketReceived slot octets room)).leaving
      ≡ leaving_noted side number nothing_withheld drawn_then slot (notes_after setup facts (PacketReceived slot octets room)) (keyed_hearing role slot may facts) (leaving_hearing role slot may facts)
  packet_leaves octets =
      forged_leaving (is_forged setup facts octets) (facts_received setup.link.role slot room (good_pdu setup facts octets) facts) ∙ received_leaves (good_pdu setup facts octets)

-- ---- what the lines tell of an end that hears

more_by_one : (count : ℕ) → nat_lt count (count + 1) ≡ true
more_by_one count = grind arith

none_more : (count : ℕ) → nat_lt count count ≡ false
none_more count = grind arith

acks_by : (acks : Bool) (before after count : ℕ) (last sent : Pdu) → before ≡ count → after ≡ (if acks then count + 1 else count) → (acks ≡ true → last ≡ sent)
    → acks_terminate (nat_lt before after) last ≡ (acks && is_terminate sent)
acks_by true before after count last sent was is same =
    (λ i. nat_lt (was i) (is i) && is_terminate (same refl i)) ∙ ap (λ b. b && is_terminate sent) (more_by_one count)
acks_by false before after count last sent was is same =
    (λ i. nat_lt (was i) (is i) && is_terminate last) ∙ ap (λ b. b && is_terminate last) (none_more count)

pub hearing_told : (slot : ℕ) (setup : Setup) (facts : Facts) (before after : Exchanged) (last : Pdu) (pdu : List ℕ)
    → IsToldOf setup.link.role facts (header_in pdu) before after last
    → leaving_acked_if (acks_terminate (is_more_acked before after) last) facts.leaving ≡ leaving_hearing setup.link.role slot (Some pdu) facts
hearing_told slot setup facts before after last pdu told =
    let header = header_in pdu in
    let acks = has_acknowledged facts header in
    let own = acknowledged_if acks (heard_in_slot slot header.md facts) in
    let acked_is = acks_by acks before.acked after.acked facts.acknowledgement.acked last facts.acknowledgement.last told.acked_before told.acked_after
    (λ is. told.last_is (not_true (is_acked facts.acknowledgement) (left_of (not (is_acked facts.acknowledgement)) (acknowledges (bits_of facts.acknowledgement) header) is))) in
    ap (λ b. leaving_acked_if b facts.leaving) acked_is ∙ sym (gone_stays (answers_with_control setup.link.role own) slot own)

-- ---- an end that enters an event, fixes its PDU, or sends

pub entered_leaves : (slot : ℕ) (setup : Setup) (facts : Facts) → (facts_after setup facts (EventEntered slot)).leaving ≡ facts.leaving
entered_leaves slot setup facts = entered_stays (goes_on facts) setup slot facts

pub sent_leaving : (slot : ℕ) (setup : Setup) (facts : Facts) → (facts_after setup facts (PacketSent slot)).leaving ≡ leaving_sent facts.leaving
sent_leaving slot setup facts = ap leaving_sent (gone_stays (takes_leave facts) slot facts)

-- One end goes by the steps of its lines.
use Rattle.std.proofs.Common.{◌≡◌, ℕ, ◌+◌, ◌==◌, ◌&&◌, not, Bool, true, false, Option, Some, None, List, [], ◌∷◌, ◌++◌, length, is_none, is_some, refl, ap, sym, ◌∙◌, arith}
use Rattle.std.specs.Prelude.{nat_lt, if◌then◌else◌}
use Rattle.ble_base.specs.declared.roles.Role.{Role}
use Rattle.ble_base.specs.declared.roles.Role.TheVariants.{Central, Peripheral}
use Rattle.ble_base.specs.declared.roles.Side.{Side}
use Rattle.data_pdu.specs.Header.{header_in}
use Rattle.data_pdu.specs.declared.ctrl.Ctrl.{Ctrl}
use Rattle.data_pdu.specs.declared.ctrl.Ctrl.TheVariants.{StartEncReq}
use Rattle.data_pdu.specs.declared.header.DataHeader.{DataHeader}
use Rattle.wire_fields.specs.Field.{little_endian}
use Rattle.instants.specs.Track.{event_of}
use Rattle.ack_bit.specs.AckBits.{acknowledges}
use Rattle.journal_ends.specs.journal_acks.Exchange.{Exchanged}
use Rattle.journal_ends.specs.link_model.Acknowledgement.{Pdu, bits_of, is_acked, with_acked}
use Rattle.journal_ends.specs.link_model.Controls.{goes_on, is_procedure_pdu, is_quiet_now, next_control, pdu_fixed, pdu_of_control, read_of}
use Rattle.journal_ends.specs.link_model.Data.{is_control, is_data, is_empty, numbered}
use Rattle.journal_ends.specs.link_model.End.{facts_after, facts_of, notes_after}
use Rattle.journal_ends.specs.link_model.Entering.{facts_entered, facts_entered_if}
use Rattle.journal_ends.specs.link_model.Facts.{Facts, keyed_of, keyed_with}
use Rattle.journal_ends.specs.link_model.KeyedSteps.{step_if}
use Rattle.journal_ends.specs.link_model.Packets.{good_pdu, is_forged}
use Rattle.journal_ends.specs.link_model.Payload.{end_accepting, end_sending}
use Rattle.journal_ends.specs.link_model.Receiving.{accepted_if, accepts, acked_kind, acknowledged_if, acks_control, answers_with_control, counts_accepted, data_taken_if, facts_before_taking, facts_forged_if, facts_hearing, facts_received, has_acknowledged, heard_in_slot, procedures_take_if, received_notes, taken_if}
use Rattle.journal_ends.specs.link_model.Sending.{control_gone_if, facts_sent, fixed_sent, takes_leave}
use Rattle.journal_ends.specs.link_model.Setup.{Setup}
use Rattle.journal_ends.specs.link_model.Step.{Step, EventEntered, PacketReceived, PacketSent}
use Rattle.journal_ends.specs.link_model.Verdicts.{pdu_of}
use Rattle.journal_ends.specs.link_model.control_end.Answers.{entry_of}
use Rattle.journal_ends.specs.link_model.control_end.Held.{held_of}
use Rattle.journal_ends.specs.link_model.control_model.Control.{Control}
use Rattle.journal_ends.specs.link_model.keyed_control.Keyed.{Keyed}
use Rattle.journal_ends.specs.link_model.keyed_control.KeyedSteps.{KeyedStep, Enters, Seals, SeesAcknowledged, Sends, Takes, TakesData, keyed_after_all}
use Rattle.journal_ends.specs.link_model.keyed_control.declared.material.Response.{Response}
use Rattle.journal_ends.specs.link_model.phased_end.Taking.{drawn}
use Rattle.journal_ends.specs.link_model.procedures.Sending.{next_ctrl_of}
use Rattle.journal_ends.proofs.link_model.KeyedSteps.{acked, forged_none, gone}
use Rattle.journal_controls.specs.KeyedLines.{Does, LineStep, does_if, has_next, keyed_by_all, steps_sending}
use Rattle.journal_controls.specs.LineSteps.{answers_with, steps_heard}
use Rattle.journal_controls.specs.OneEnd.{IsToldOf, steps_noted}
use Rattle.journal_controls.proofs.CentralFixed.{gone_acked, past_free}
use Rattle.journal_controls.proofs.NotedSteps.{accepts_if, entry_steps, heard_steps, sent_steps, steps_accepted, two}

-- a step of the end is a step of its line
pub does_as : (is_made : Bool) (step : KeyedStep) (k : Keyed) → keyed_after_all (step_if is_made step) k ≡ keyed_by_all (does_if is_made step) k
does_as true step k = refl
does_as false step k = refl

-- ---- an event is entered

entered : (goes : Bool) (setup : Setup) (slot : ℕ) (facts : Facts) → keyed_of (facts_entered_if goes setup slot facts) ≡ keyed_by_all (does_if goes (Enters slot)) (keyed_of facts)
entered true setup slot facts = refl
entered false setup slot facts = refl

pub entry_moves : (side : Side) (number : ℕ) (response : Response) (slot : ℕ) (setup : Setup) (facts : Facts)
    → keyed_of (facts_after setup facts (EventEntered slot))
    ≡ keyed_by_all (steps_noted side number setup.link.role response slot (notes_after setup facts (EventEntered slot))) (keyed_of facts)
entry_moves side number response slot setup facts =
    entered (goes_on facts) setup slot facts
    ∙ ap (λ steps. keyed_by_all steps (keyed_of facts))
    (entry_steps side number setup.link.role response slot (goes_on facts) setup.link.handle (facts_entered setup slot facts).event (entry_of slot (is_quiet_now facts) (held_of facts.control)))

-- ---- a packet is sent: its control PDU leaves the queue, and a new PDU that is not empty takes a counter

abbrev sealing : Bool → Keyed → Keyed
sealing counts k = record k { end = end_sending counts k.end }

seals_as : (counts : Bool) (pdu : Pdu) (k : Keyed) → sealing counts k ≡ keyed_by_all (if counts then Does (Seals pdu.llid pdu.body) ∷ [] else []) k
seals_as true pdu k = refl
seals_as false pdu k = refl

-- the PDU that goes where the last one is acknowledged
abbrev pdu_by : Bool → Facts → Pdu
pdu_by fixes facts = if fixes then pdu_of_control (next_control facts) else facts.outgoing.fixed

sent_by : (all fixes : Bool) (slot : ℕ) (facts : Facts) → is_acked facts.acknowledgement ≡ all → facts.fixes_control ≡ fixes
    → keyed_of (fixed_sent slot (control_gone_if (all && fixes) slot facts))
    ≡ sealing (all && not (is_empty (pdu_by fixes facts))) (keyed_of (control_gone_if (all && fixes) slot facts))
sent_by true true slot facts all fixes =
    let gone = control_gone_if true slot facts in
    λ i. sealing (all i && not (is_empty (pdu_by (fixes i) facts))) (keyed_of gone)
sent_by true false slot facts all fixes = λ i. sealing (all i && not (is_empty facts.outgoing.fixed)) (keyed_of facts)
sent_by false fixes slot facts all fixed = λ i. sealing (all i && not (is_empty facts.outgoing.fixed)) (keyed_of facts)

pub sent_is : (slot : ℕ) (facts : Facts)
    → keyed_of (facts_sent slot facts) ≡ sealing (is_acked facts.acknowledgement && not (is_empty (pdu_fixed facts))) (keyed_of (control_gone_if (takes_leave facts) slot facts))
sent_is slot facts = sent_by (is_acked facts.acknowledgement) facts.fixes_control slot facts refl refl

-- ---- a central sends

pub filled : (ctrl : Ctrl) → is_empty (pdu_of_control (Some ctrl)) ≡ false
unfolding little_endian
filled StartEncReq = refl
filled other = refl

-- where no control PDU waits, none goes
none_goes : (goes : Bool) (next : Option Ctrl) (moved c : Control) → (if goes then next else None) ≡ None → (if goes then (if is_some next then moved else c) else c) ≡ c
none_goes false next moved c is = refl
none_goes true None moved c is = refl
none_goes true (Some ctrl) moved c is = absurd cc

-- the steps of the line of a PDU that goes, if one does
abbrev steps_going : Role → ℕ → Bool → Pdu → List LineStep
steps_going role slot goes pdu = if goes && not (is_empty pdu) then steps_sending role slot pdu else []

module _ (slot : ℕ) (facts : Facts) where
  -- the control PDU that waits
  control_sent : (next : Option Ctrl) → next_control facts ≡ next → let pdu = pdu_of_control next in
      sealing (not (is_empty pdu)) (keyed_of (control_gone_if true slot facts)) ≡ keyed_by_all (steps_going Central slot true pdu) (keyed_of facts)
  control_sent None is =
      let c = facts.control in
      ap (λ (d : Control). keyed_with d facts.encryption)
      (none_goes (is_none c.ends) (next_ctrl_of c.table (event_of c.track) c.track.params.latency (is_quiet_now facts)) _ c is)
  control_sent (Some ctrl) is =
      let pdu = pdu_of_control (Some ctrl) in
      let full : not (is_empty pdu) ≡ true = ap not (filled ctrl) in
      (λ i. sealing (full i) (gone true slot facts i))
      ∙ sym (λ i. keyed_by_all (if full i then does_if (full i) (Sends slot) ++ Does (Seals pdu.llid pdu.body) ∷ [] else []) (keyed_of facts))

  -- a PDU that is fixed already
  fixed_sent_as : (pdu : Pdu) (goes : Bool) → is_control pdu ≡ false
      → keyed_by_all (if goes then Does (Seals pdu.llid pdu.body) ∷ [] else []) (keyed_of facts) ≡ keyed_by_all (if goes then steps_sending Central slot pdu else []) (keyed_of facts)
  fixed_sent_as pdu goes is =
      λ i. keyed_by_all (if goes then does_if (sym is i && not (is_empty pdu)) (Sends slot) ++ Does (Seals pdu.llid pdu.body) ∷ [] else []) (keyed_of facts)

  central_by : (all fixes : Bool) → is_control facts.outgoing.fixed ≡ false
      → sealing (all && not (is_empty (pdu_by fixes facts))) (keyed_of (control_gone_if (all && fixes) slot facts))
      ≡ keyed_by_all (steps_going Central slot all (pdu_by fixes facts)) (keyed_of facts)
  central_by false fixes is = refl
  central_by true false is =
      let pdu = facts.outgoing.fixed in
      seals_as (not (is_empty pdu)) pdu (keyed_of facts) ∙ fixed_sent_as pdu (not (is_empty pdu)) is
  central_by true true is = control_sent (next_control facts) refl

module _ (side : Side) (number : ℕ) (response : Response) (slot : ℕ) where
  pub central_sends_free : (setup : Setup) (facts : Facts) → is_control facts.outgoing.fixed ≡ false
      → keyed_of (facts_after setup facts (PacketSent slot))
      ≡ keyed_by_all (steps_noted side number Central response slot (notes_after setup facts (PacketSent slot))) (keyed_of facts)
  central_sends_free setup facts free =
      let pdu = pdu_fixed facts in
      sent_is slot facts ∙ central_by slot facts (is_acked facts.acknowledgement) facts.fixes_control free
      ∙ sym (ap (λ steps. keyed_by_all steps (keyed_of facts))
      (sent_steps side number Central response slot (is_acked facts.acknowledgement && not (is_empty pdu)) setup.link.handle (numbered facts.acknowledgement.sent) pdu))

  pub central_sends : (setup : Setup) (past : List Step) → setup.link.role ≡ Central → let facts = facts_of setup past in
      keyed_of (facts_after setup facts (PacketSent slot))
      ≡ keyed_by_all (steps_noted side number Central response slot (notes_after setup facts (PacketSent slot))) (keyed_of facts)
  central_sends setup past central = central_sends_free setup (facts_of setup past) (past_free setup central past)

-- ---- a peripheral sends after it heard

none_leaves : (all fixes : Bool) (slot : ℕ) (facts : Facts) → facts.fixes_control ≡ fixes → (all && (control_gone_if (all && fixes) slot facts).fixes_control) ≡ false
none_leaves true true slot facts is = refl
none_leaves true false slot facts is = is
none_leaves false fixes slot facts is = refl

taken_leave : (takes : Bool) (pdu : Pdu) (slot : ℕ) (facts : Facts) → takes_leave (procedures_take_if takes pdu slot facts) ≡ takes_leave facts
taken_leave true pdu slot facts = refl
taken_leave false pdu slot facts = refl

data_leave : (takes : Bool) (facts : Facts) → takes_leave (data_taken_if takes facts) ≡ takes_leave facts
data_leave true facts = refl
data_leave false facts = refl

forged_leave : (forged : Bool) (facts : Facts) → takes_leave (facts_forged_if forged facts) ≡ takes_leave facts
forged_leave true facts = refl
forged_leave false facts = refl

pub heard_leave : (slot : ℕ) (room : Bool) (header : DataHeader) (pdu : Pdu) (facts : Facts) → takes_leave (facts_hearing Peripheral slot room header pdu facts) ≡ false
heard_leave slot room header pdu facts =
    let own = acknowledged_if (has_acknowledged facts header) (heard_in_slot slot header.md facts) in
    let now = facts_before_taking Peripheral slot header facts in
    let accepted = accepts room header pdu now in
    let takes = accepted && is_procedure_pdu pdu in
    data_leave (accepted && is_data pdu) (procedures_take_if takes pdu slot (accepted_if accepted pdu now))
    ∙ taken_leave takes pdu slot (accepted_if accepted pdu now)
    ∙ ap (λ all. all && now.fixes_control) (gone_acked (takes_leave own) slot own)
    ∙ none_leaves (is_acked own.acknowledgement) own.fixes_control slot own refl

-- as it heard a good packet, what it sends next left the queue
pub good_leave : (slot : ℕ) (octets pdu : List ℕ) (room : Bool) (setup : Setup) (facts : Facts) → setup.link.role ≡ Peripheral → good_pdu setup facts octets ≡ Some pdu
    → takes_leave (facts_after setup facts (PacketReceived slot octets room)) ≡ false
good_leave slot octets pdu room setup facts role good =
    forged_leave (is_forged setup facts octets) (facts_received setup.link.role slot room (good_pdu setup facts octets) facts)
    ∙ (λ i. takes_leave (facts_received (role i) slot room (good i) facts)) ∙ heard_leave slot room (header_in pdu) (pdu_of pdu) facts

-- so it is not taken from there as it goes
pub left_sends : (side : Side) (number : ℕ) (response : Response) (slot : ℕ) (setup : Setup) (now : Facts) → takes_leave now ≡ false
    → keyed_of (facts_after setup now (PacketSent slot))
    ≡ keyed_by_all (steps_noted side number Peripheral response slot (notes_after setup now (PacketSent slot))) (keyed_of now)
left_sends side number response slot setup now leaves =
    let goes = is_acked now.acknowledgement && not (is_empty (pdu_fixed now)) in
    sent_is slot now ∙ ap (λ b. sealing goes (keyed_of (control_gone_if b slot now))) leaves
    ∙ seals_as goes (pdu_fixed now) (keyed_of now)
    ∙ sym (ap (λ steps. keyed_by_all steps (keyed_of now))
    (sent_steps side number Peripheral response slot goes setup.link.handle (numbered now.acknowledgement.sent) (pdu_fixed now)))

pub peripheral_sends : (side : Side) (number : ℕ) (response : Response) (slot slot_heard : ℕ) (octets pdu : List ℕ) (room : Bool) (setup : Setup) (facts : Facts)
    → setup.link.role ≡ Peripheral → good_pdu setup facts octets ≡ Some pdu
    → let now = facts_after setup facts (PacketReceived slot_heard octets room) in
    keyed_of (facts_after setup now (PacketSent slot))
    ≡ keyed_by_all (steps_noted side number Peripheral response slot (notes_after setup now (PacketSent slot))) (keyed_of now)
peripheral_sends side number response slot slot_heard octets pdu room setup facts role good =
    left_sends side number response slot setup (facts_after setup facts (PacketReceived slot_heard octets room)) (good_leave slot_heard octets pdu room setup facts role good)

-- ---- a good packet reaches it

more_by_one : (count : ℕ) → nat_lt count (count + 1) ≡ true
more_by_one count = grind arith

none_more : (count : ℕ) → nat_lt count count ≡ false
none_more count = grind arith

pub acks_by : (acks : Bool) (before after count : ℕ) (last sent : Pdu) → before ≡ count → after ≡ (if acks then count + 1 else count) → (acks ≡ true → last ≡ sent)
    → (nat_lt before after && is_control last) ≡ (acks && is_control sent)
acks_by true before after count last sent was is same =
    (λ i. nat_lt (was i) (is i) && is_control (same refl i)) ∙ ap (λ b. b && is_control sent) (more_by_one count)
acks_by false before after count last sent was is same =
    (λ i. nat_lt (was i) (is i) && is_control last) ∙ ap (λ b. b && is_control last) (none_more count)

answers_by : (role : Role) (acks : Bool) (slot : ℕ) (more waits : Bool) (facts : Facts) (after : Exchanged)
    → after.acked ≡ (with_acked acks facts.acknowledgement).acked → after.sent ≡ length facts.acknowledgement.sent → (role ≡ Peripheral → facts.fixes_control ≡ waits)
    → answers_with role waits after ≡ answers_with_control role (acknowledged_if acks (heard_in_slot slot more facts))
answers_by Central acks slot more waits facts after acked sent fixes = refl
answers_by Peripheral acks slot more waits facts after acked sent fixes = λ i. (acked i == sent i) && sym (fixes refl) i

pub left_of : (a b : Bool) → (a && b) ≡ true → a ≡ true
left_of true b is = refl
left_of false b is = is

pub not_true : (a : Bool) → not a ≡ true → a ≡ false
not_true false is = refl
not_true true is = absurd cc

module _ (slot : ℕ) (setup : Setup) (facts : Facts) (before after : Exchanged) (last : Pdu) where
  -- the steps of a packet that is heard, by the facts of the end
  told_steps : (header : DataHeader) → IsToldOf setup.link.role facts header before after last → let acks = has_acknowledged facts header in
      steps_heard setup.link.role slot before after last (has_next (keyed_of facts))
      ≡ does_if (acks_control acks facts) SeesAcknowledged
      ++ does_if (answers_with_control setup.link.role (acknowledged_if acks (heard_in_slot slot header.md facts))) (Sends slot)
  told_steps header told =
      let acks = has_acknowledged facts header in
      let acked_is = acks_by acks before.acked after.acked facts.acknowledgement.acked last facts.acknowledgement.last told.acked_before told.acked_after
      (λ is. told.last_is (not_true (is_acked facts.acknowledgement) (left_of (not (is_acked facts.acknowledgement)) (acknowledges (bits_of facts.acknowledgement) header) is))) in
      let answers_is = answers_by setup.link.role acks slot header.md (has_next (keyed_of facts)) facts after told.acked_after told.sent_after told.fixes in
      λ i. does_if (acked_is i) SeesAcknowledged ++ does_if (answers_is i) (Sends slot)

  -- the lines say what it is then
  pub hearing_told : (header : DataHeader) → IsToldOf setup.link.role facts header before after last
      → keyed_by_all (steps_heard setup.link.role slot before after last (has_next (keyed_of facts))) (keyed_of facts)
      ≡ keyed_of (facts_before_taking setup.link.role slot header facts)
  hearing_told header told =
      let acks = has_acknowledged facts header in
      let own = acknowledged_if acks (heard_in_slot slot header.md facts) in
      let answers = answers_with_control setup.link.role own in
      let sees = does_if (acks_control acks facts) SeesAcknowledged in
      let sends = does_if answers (Sends slot) in
      ap (λ steps. keyed_by_all steps (keyed_of facts)) (told_steps header told)
      ∙ sym (two sees sends (keyed_of facts) (keyed_of own) (keyed_of (facts_before_taking setup.link.role slot header facts))
      (acked (acks_control acks facts) (keyed_of facts) ∙ does_as (acks_control acks facts) SeesAcknowledged (keyed_of facts))
      (gone answers slot own ∙ does_as answers (Sends slot) (keyed_of own)))

-- ---- and it takes the PDU in it

pub gone_response : (goes : Bool) (slot : ℕ) (facts : Facts) → (control_gone_if goes slot facts).encryption.response ≡ facts.encryption.response
gone_response true slot facts = refl
gone_response false slot facts = refl

pub before_response : (role : Role) (slot : ℕ) (header : DataHeader) (facts : Facts) → (facts_before_taking role slot header facts).encryption.response ≡ facts.encryption.response
before_response role slot header facts =
    let own = acknowledged_if (has_acknowledged facts header) (heard_in_slot slot header.md facts) in gone_response (answers_with_control role own) slot own

accepted_as : (accepted : Bool) (pdu : Pdu) (facts : Facts) → keyed_of (accepted_if accepted pdu facts) ≡ keyed_by_all (accepts_if (counts_accepted accepted pdu)) (keyed_of facts)
accepted_as accepted pdu facts = by (counts_accepted accepted pdu)
  where
    by : (counts : Bool) → keyed_of (record facts { encryption = record facts.encryption { end = end_accepting counts facts.encryption.end } }) ≡ keyed_by_all (accepts_if counts) (keyed_of facts)
    by true = refl
    by false = refl

taken_as : (takes : Bool) (pdu : Pdu) (slot : ℕ) (facts : Facts)
    → keyed_of (procedures_take_if takes pdu slot facts) ≡ keyed_by_all (does_if takes (Takes (read_of pdu) slot (drawn facts.encryption.response))) (keyed_of facts)
taken_as true pdu slot facts = refl
taken_as false pdu slot facts = refl

data_as : (takes : Bool) (facts : Facts) → keyed_of (data_taken_if takes facts) ≡ keyed_by_all (does_if takes TakesData) (keyed_of facts)
data_as true facts = refl
data_as false facts = refl

pub accepted_moves : (accepted : Bool) (pdu : Pdu) (slot : ℕ) (facts : Facts)
    → keyed_of (taken_if accepted pdu slot facts) ≡ keyed_by_all (steps_accepted accepted facts.encryption.response slot pdu) (keyed_of facts)
accepted_moves accepted pdu slot facts =
    let opened = accepted_if accepted pdu facts in
    let takes = accepted && is_procedure_pdu pdu in
    let carries = accepted && is_data pdu in
    let seen = procedures_take_if takes pdu slot opened in
    let later = keyed_of (taken_if accepted pdu slot facts) in
    let procedures = does_if takes (Takes (read_of pdu) slot (drawn facts.encryption.response)) in
    two (accepts_if (counts_accepted accepted pdu)) (procedures ++ does_if carries TakesData) (keyed_of facts) (keyed_of opened) later (accepted_as accepted pdu facts)
    (two procedures (does_if carries TakesData) (keyed_of opened) (keyed_of seen) later (taken_as takes pdu slot opened) (data_as carries seen))

-- a good packet is not forged
pub unforged : (setup : Setup) (facts : Facts) (octets pdu : List ℕ) → good_pdu setup facts octets ≡ Some pdu → is_forged setup facts octets ≡ false
unforged setup facts octets pdu good = by (is_forged setup facts octets) refl
  where
    by : (forged : Bool) → is_forged setup facts octets ≡ forged → forged ≡ false
    by false is = refl
    by true is = absurd (let h : Some pdu ≡ None = sym good ∙ forged_none setup facts octets is in absurd cc)

pub received_is : (setup : Setup) (facts : Facts) (slot : ℕ) (octets pdu : List ℕ) (room : Bool) → good_pdu setup facts octets ≡ Some pdu
    → facts_after setup facts (PacketReceived slot octets room) ≡ facts_hearing setup.link.role slot room (header_in pdu) (pdu_of pdu) facts
received_is setup facts slot octets pdu room good =
    ap (λ b. facts_forged_if b (facts_received setup.link.role slot room (good_pdu setup facts octets) facts)) (unforged setup facts octets pdu good)
    ∙ ap (λ one. facts_received setup.link.role slot room one facts) good

module _ (side : Side) (number slot : ℕ) (room : Bool) (setup : Setup) (facts : Facts) (before after : Exchanged) (last : Pdu) where
  pub packet_moves : (octets pdu : List ℕ) → good_pdu setup facts octets ≡ Some pdu → IsToldOf setup.link.role facts (header_in pdu) before after last
      → keyed_of (facts_after setup facts (PacketReceived slot octets room))
      ≡ keyed_by_all (steps_noted side number setup.link.role facts.encryption.response slot (notes_after setup facts (PacketReceived slot octets room)))
      (keyed_by_all (steps_heard setup.link.role slot before after last (has_next (keyed_of facts))) (keyed_of facts))
  packet_moves octets heard good told =
      let role = setup.link.role in
      let response = facts.encryption.response in
      let header = header_in heard in
      let pdu = pdu_of heard in
      let now = facts_before_taking role slot header facts in
      let accepted = accepts room header pdu now in
      let done = acked_kind (acks_control (has_acknowledged facts header) facts) facts in
      let first = steps_heard role slot before after last (has_next (keyed_of facts)) in
      ap (λ (f : Facts). keyed_of f) (received_is setup facts slot octets heard room good)
      ∙ accepted_moves accepted pdu slot now
      ∙ ap (λ r. keyed_by_all (steps_accepted accepted r slot pdu) (keyed_of now)) (before_response role slot header facts)
      ∙ (λ i. keyed_by_all (sym (heard_steps side number role response slot accepted setup.link.handle done pdu now) i) (sym (hearing_told slot setup facts before after last header told) i))
      ∙ ap (λ one. keyed_by_all (steps_noted side number role response slot (received_notes setup slot room one facts)) (keyed_by_all first (keyed_of facts))) (sym good)

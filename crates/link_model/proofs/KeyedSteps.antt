-- The procedures, the phase and the keys of an end go by the steps of its past.
use Rattle.std.proofs.Common.{◌≡◌, ℕ, ◌&&◌, ◌||◌, not, Bool, true, false, List, [], ◌∷◌, ◌++◌, drop, Option, Some, None, is_none, refl, ap, sym, ◌∙◌, if◌then◌else◌}
use Rattle.std.proofs.lemmas.Bool.{and_parts}
use Rattle.std.proofs.lemmas.Option.{none-some, same_Some}
use Rattle.ble_base.specs.declared.roles.Role.{Role}
use Rattle.ble_base.specs.declared.roles.Role.TheVariants.{Central, Peripheral}
use Rattle.ack_bit.specs.AckBits.{is_new}
use Rattle.data_pdu.specs.declared.header.DataHeader.{DataHeader}
use Rattle.data_pdu.specs.Header.{header_in}
use Rattle.phased_end.specs.control_end.procedure_values.declared.asks.Ask.{Ask}
use Rattle.phased_end.specs.control_end.control_model.Control.{Control, Step as ControlStep, Answers as control_answers, Asks as control_asks, Disconnects as control_disconnects, Sends as control_sends, after, moved}
use Rattle.phased_end.specs.Taking.{drawn}
use Rattle.phased_end.specs.enc_phase.declared.facts.PhaseFacts.{PhaseFacts}
use Rattle.phased_end.specs.enc_phase.declared.facts.PhaseFacts.TheVariants.{Clear, HalfClear}
use Rattle.phased_end.specs.enc_phase.declared.facts.Transition.TheVariants.{Ask as AskTransition}
use Rattle.phased_end.specs.enc_phase.Phases.{may_follow, phase_after}
use Rattle.phased_end.specs.enc_phase.Sealing.{EncEnd, after_opening, clear_end, is_right}
use Rattle.phased_end.specs.phased_control.PhaseChanges.{Moves, Stays}
use Rattle.phased_end.specs.phased_control.Phased.{Phased, asks_again, is_pause_rsp}
use Rattle.phased_end.specs.keyed_control.declared.material.Response.{Response}
use Rattle.phased_end.specs.keyed_control.Keyed.{Keyed}
use Rattle.phased_end.specs.keyed_control.KeyedSteps.{KeyedStep, Asks, Enters, Opens, Seals, SeesAcknowledged, Sends, Takes, TakesData, end_changed, keyed_after, keyed_after_all, keyed_moved}
use Rattle.link_model.specs.Setup.{Setup}
use Rattle.link_model.specs.Acknowledgement.{Acknowledgement, Pdu, bits_of, is_acked}
use Rattle.link_model.specs.Data.{is_accepted, is_control, is_data, is_empty}
use Rattle.link_model.specs.Verdicts.{pdu_of}
use Rattle.link_model.specs.Payload.{end_accepting, end_sending, first_octet, opened_if, read_pdu}
use Rattle.link_model.specs.Facts.{Encryption, Facts, keyed_of, keyed_with}
use Rattle.link_model.specs.Step.{Step, DataGiven, DataReported, Disconnected, EventEntered, KeyAnswered, PacketReceived, PacketSent, PduFixed, ProcedureAsked, RequestAnswered, WordsGiven}
use Rattle.link_model.specs.Controls.{goes_on, is_procedure_pdu, is_quiet_now, next_control, pdu_fixed, pdu_of_control, read_of}
use Rattle.link_model.specs.Entering.{facts_entered_if}
use Rattle.link_model.specs.Fixing.{fixed_anew}
use Rattle.link_model.specs.Hosts.{asked_unless, is_to_come}
use Rattle.link_model.specs.Packets.{counts_here, good_pdu, has_new_pdu, is_forged, is_forged_in, pdu_read, pdu_read_in, whole_pdu}
use Rattle.link_model.specs.Sending.{control_gone_if, facts_sent, seals_new, takes_leave}
use Rattle.link_model.specs.Receiving.{accepted_if, accepts, acknowledged_if, acks_control, answers_with_control, counts_accepted, data_taken_if, ended_by_forgery, facts_before_taking, facts_forged_if, facts_hearing, facts_received, has_acknowledged, heard_in_slot, keyed_acked_if, procedures_take_if}
use Rattle.link_model.specs.End.{facts_after}
use Rattle.link_model.specs.KeyedSteps.{is_forged_in_step, keyed_steps_in, step_if, steps_hearing, steps_received, steps_sending}
use Rattle.link_model.proofs.Acknowledging.{ack_before_taking}

pub joined : (steps more : List KeyedStep) (k : Keyed)
    → keyed_after_all (steps ++ more) k ≡ keyed_after_all more (keyed_after_all steps k)
joined [] more k = refl
joined (step ∷ steps) more k = joined steps more (keyed_after step k)

-- two lists of steps, one after the other
pub two : (first second : List KeyedStep) (k now later : Keyed) → now ≡ keyed_after_all first k
    → later ≡ keyed_after_all second now
    → later ≡ keyed_after_all (first ++ second) k
two first second k now later now_is later_is =
    later_is ∙ ap (keyed_after_all second) now_is ∙ sym (joined first second k)

-- ---- steps of the procedures alone

-- an end that ended the link makes no such step, and then the control part stays too
with_control : (encryption : Encryption) (step : ControlStep) (c : Control)
    → keyed_with (after step c) encryption
    ≡ (if is_none c.ends then keyed_with (after step c) encryption else keyed_with c encryption)
with_control encryption step c = by (is_none c.ends) refl
  where
    by : (lasts : Bool) → is_none c.ends ≡ lasts
        → keyed_with (after step c) encryption
        ≡ (if lasts then keyed_with (after step c) encryption else keyed_with c encryption)
    by true is = refl
    by false is = ap (λ b. keyed_with (if b then moved step c else c) encryption) is

asked : (comes : Bool) (ask : Ask) (facts : Facts)
    → keyed_of (asked_unless comes ask facts) ≡ keyed_after_all (step_if (not comes) (Asks ask)) (keyed_of facts)
asked true ask facts = refl
asked false ask facts = with_control facts.encryption (control_asks ask) facts.control

pub gone : (goes : Bool) (slot : ℕ) (facts : Facts)
    → keyed_of (control_gone_if goes slot facts) ≡ keyed_after_all (step_if goes (Sends slot)) (keyed_of facts)
gone true slot facts = with_control facts.encryption (control_sends slot (is_quiet_now facts)) facts.control
gone false slot facts = refl

pub gone_encryption : (goes : Bool) (slot : ℕ) (facts : Facts)
    → (control_gone_if goes slot facts).encryption ≡ facts.encryption
gone_encryption true slot facts = refl
gone_encryption false slot facts = refl

-- ---- an event is entered, and a PDU is fixed

entered : (goes : Bool) (setup : Setup) (slot : ℕ) (facts : Facts)
    → keyed_of (facts_entered_if goes setup slot facts) ≡ keyed_after_all (step_if goes (Enters slot)) (keyed_of facts)
entered true setup slot facts = refl
entered false setup slot facts = refl

pub fixed : (stays : Bool) (facts : Facts) → keyed_of (if stays then facts else fixed_anew facts) ≡ keyed_of facts
fixed true facts = refl
fixed false facts = refl

-- ---- a packet is sent

sealing : (counts : Bool) (llid : ℕ) (body : List ℕ) (k : Keyed)
    → record k { end = end_sending counts k.end } ≡ keyed_after_all (step_if counts (Seals llid body)) k
sealing true llid body k = refl
sealing false llid body k = refl

-- where the last PDU is acknowledged, the fixed PDU is the one that goes
counts_by : (acked fixes : Bool) (slot : ℕ) (facts : Facts) → is_acked facts.acknowledgement ≡ acked
    → facts.fixes_control ≡ fixes
    → let now = control_gone_if (acked && fixes) slot facts in
    seals_new (is_acked now.acknowledgement) now.outgoing.fixed ≡ seals_new acked (pdu_fixed facts)
counts_by true true slot facts all fixes = ap (λ b. seals_new b (pdu_fixed facts)) all
counts_by true false slot facts all fixes =
    λ i. seals_new (all i) (if sym fixes i then pdu_of_control (next_control facts) else facts.outgoing.fixed)
counts_by false fixes slot facts all fixed = ap (λ b. seals_new b facts.outgoing.fixed) all

sent : (slot : ℕ) (facts : Facts)
    → keyed_of (facts_sent slot facts) ≡ keyed_after_all (steps_sending slot facts) (keyed_of facts)
sent slot facts =
    let now = control_gone_if (takes_leave facts) slot facts in
    let pdu = pdu_fixed facts in
    let counts = seals_new (is_acked facts.acknowledgement) pdu in
    two (step_if (takes_leave facts) (Sends slot)) (step_if counts (Seals pdu.llid pdu.body)) (keyed_of facts)
    (keyed_of now)
    (keyed_of (facts_sent slot facts)) (gone (takes_leave facts) slot facts)
    (ap (λ b. record (keyed_of now) { end = end_sending b now.encryption.end })
    (counts_by (is_acked facts.acknowledgement) facts.fixes_control slot facts refl refl)
    ∙ sealing counts pdu.llid pdu.body (keyed_of now))

-- ---- a packet is received

pub acked : (is_acked : Bool) (k : Keyed)
    → keyed_acked_if is_acked k ≡ keyed_after_all (step_if is_acked SeesAcknowledged) k
acked true k = refl
acked false k = refl

opening : (counts : Bool) (header : ℕ) (payload : List ℕ) (k : Keyed)
    → (counts ≡ true → is_right k.end header payload ≡ true)
    → record k { end = end_accepting counts k.end } ≡ keyed_after_all (step_if counts (Opens header payload)) k
opening true header payload k right =
    λ i. record k { end = (if sym (right refl) i then after_opening k.end else k.end) }
opening false header payload k right = refl

taken : (takes : Bool) (pdu : Pdu) (slot : ℕ) (response : Response) (facts : Facts)
    → facts.encryption.response ≡ response
    → keyed_of (procedures_take_if takes pdu slot facts)
    ≡ keyed_after_all (step_if takes (Takes (read_of pdu) slot (drawn response))) (keyed_of facts)
taken true pdu slot response facts is = λ i. keyed_after (Takes (read_of pdu) slot (drawn (is i))) (keyed_of facts)
taken false pdu slot response facts is = refl

data_taken_by : (takes : Bool) (facts : Facts)
    → keyed_of (data_taken_if takes facts) ≡ keyed_after_all (step_if takes TakesData) (keyed_of facts)
data_taken_by true facts = refl
data_taken_by false facts = refl

-- ---- a payload that was opened before the acknowledgement is right after it too

-- a central that asks again opens nothing
asked_right : (role : Role) (phase : PhaseFacts) (header : ℕ) (payload : List ℕ) → may_follow AskTransition phase ≡ true
    → is_right (clear_end role (phase_after AskTransition phase)) header payload ≡ true
asked_right Central Clear header payload may = refl
asked_right Central (HalfClear kept) header payload may = refl
asked_right Central phase header payload may = absurd cc
asked_right Peripheral Clear header payload may = refl
asked_right Peripheral (HalfClear kept) header payload may = refl
asked_right Peripheral phase header payload may = absurd cc

may_ask : (s : Phased) → asks_again s ≡ true → may_follow AskTransition s.phase ≡ true
may_ask s is = (and_parts (may_follow AskTransition s.phase) _ (and_parts (is_pause_rsp s.control.table.out) _ is).1).0

module _ (header : ℕ) (payload : List ℕ) (k : Keyed) (same : k.end.phase ≡ k.phased.phase) (right : is_right k.end header payload ≡ true) where
  right_asking : (asks : Bool) → asks_again k.phased ≡ asks
      → is_right (end_changed (if asks then Moves AskTransition else Stays) k.material k.end) header payload ≡ true
  right_asking true is =
      asked_right k.end.role k.end.phase header payload (ap (may_follow AskTransition) same ∙ may_ask k.phased is)
  right_asking false is = right

  right_acked : (is_acked : Bool) → is_right (keyed_acked_if is_acked k).end header payload ≡ true
  right_acked false = right
  right_acked true = by (is_none k.phased.control.ends)
    where
      by : (lasts : Bool) → is_right (if lasts then keyed_moved SeesAcknowledged k else k).end header payload ≡ true
      by true = right_asking (asks_again k.phased) refl
      by false = right

-- ---- what is accepted was opened

was_right : (right : Bool) (end : EncEnd) (air octets : List ℕ) → opened_if right end air ≡ Some octets → right ≡ true
was_right true end air octets is = refl
was_right false end air octets is = absurd (none-some octets is)

module _ (role : Role) (slot : ℕ) (room : Bool) (header : DataHeader) (pdu : Pdu) (facts : Facts) where
  abbrev now : Facts
  now = facts_before_taking role slot header facts

  -- what is accepted is new, and was so before the acknowledgement
  new_then : counts_accepted (accepts room header pdu now) pdu ≡ true
      → (has_new_pdu facts header && not (is_empty pdu)) ≡ true
  new_then counts =
      let parts = and_parts (accepts room header pdu now) (not (is_empty pdu)) counts in
      let accepted =
      (and_parts (is_accepted room (has_new_pdu now header) pdu)
      (is_empty pdu || not now.leaving.acknowledged) parts.0).0 in
      let fresh = (and_parts (has_new_pdu now header) (room || not (is_data pdu)) accepted).0 in
      let same = ap (λ (a : Acknowledgement). is_new (bits_of a) header) (ack_before_taking role slot header facts) in
      ap (λ b. b && not (is_empty pdu)) (sym same ∙ fresh) ∙ parts.1

module _ (role : Role) (slot : ℕ) (room : Bool) (facts : Facts) (air octets : List ℕ) (reads : pdu_read facts air ≡ Some octets) where
  abbrev counts : Bool
  counts =
      counts_accepted (accepts room (header_in octets) (pdu_of octets)
      (facts_before_taking role slot (header_in octets) facts)) (pdu_of octets)

  -- it was opened: else its octets would be the same as read, and it would count
  counted_here : (here : Bool) → counts_here facts air ≡ here → read_pdu here facts.encryption.end air ≡ Some octets
      → counts ≡ true
      → is_right facts.encryption.end (first_octet air) (drop 2 air) ≡ true
  counted_here true is opens counted = was_right _ facts.encryption.end air octets opens
  counted_here false is opens counted =
      let same : air ≡ octets = same_Some air octets opens in
      let new : counts_here facts octets ≡ true =
      new_then role slot room (header_in octets) (pdu_of octets) facts counted in
      let no : ◌≡◌ {A = Bool} false true = sym is ∙ ap (counts_here facts) same ∙ new in
      absurd cc

  right_where_counts : counts ≡ true → is_right facts.encryption.end (first_octet air) (drop 2 air) ≡ true
  right_where_counts = counted_here (counts_here facts air) refl reads

-- ---- all of a reception

heard : (role : Role) (slot : ℕ) (room : Bool) (facts : Facts) (air octets : List ℕ)
    → facts.encryption.end.phase ≡ facts.encryption.phase
    → pdu_read facts air ≡ Some octets
    → keyed_of (facts_hearing role slot room (header_in octets) (pdu_of octets) facts)
    ≡ keyed_after_all (steps_hearing role slot room (header_in octets) (pdu_of octets) air facts) (keyed_of facts)
heard role slot room facts air octets same reads =
    let header = header_in octets in
    let pdu = pdu_of octets in
    let acks = has_acknowledged facts header in
    let own = acknowledged_if acks (heard_in_slot slot header.md facts) in
    let answers = answers_with_control role own in
    let now = control_gone_if answers slot own in
    let accepted = accepts room header pdu now in
    let counts = counts_accepted accepted pdu in
    let opened = accepted_if accepted pdu now in
    let seen = procedures_take_if (accepted && is_procedure_pdu pdu) pdu slot opened in
    let later = data_taken_if (accepted && is_data pdu) seen in
    let response = facts.encryption.response in
    let sees = step_if (acks_control acks facts) SeesAcknowledged in
    let sends = step_if answers (Sends slot) in
    let opens = step_if counts (Opens (first_octet air) (drop 2 air)) in
    let takes = step_if (accepted && is_procedure_pdu pdu) (Takes (read_of pdu) slot (drawn response)) in
    let takes_data = step_if (accepted && is_data pdu) TakesData in
    let right : counts ≡ true → is_right now.encryption.end (first_octet air) (drop 2 air) ≡ true =
    λ counted.
    ap (λ (e : Encryption). is_right e.end (first_octet air) (drop 2 air)) (gone_encryption answers slot own)
    ∙ right_acked (first_octet air) (drop 2 air) (keyed_of facts) same
    (right_where_counts role slot room facts air octets reads counted)
    (acks_control acks facts) in
    two sees (sends ++ (opens ++ (takes ++ takes_data))) (keyed_of facts) (keyed_of own) (keyed_of later)
    (acked (acks_control acks facts) (keyed_of facts))
    (two sends (opens ++ (takes ++ takes_data)) (keyed_of own) (keyed_of now) (keyed_of later) (gone answers slot own)
    (two opens (takes ++ takes_data) (keyed_of now) (keyed_of opened) (keyed_of later)
    (opening counts (first_octet air) (drop 2 air) (keyed_of now) right)
    (two takes takes_data (keyed_of opened) (keyed_of seen) (keyed_of later)
    (taken (accepted && is_procedure_pdu pdu) pdu slot response opened
    (ap (λ (e : Encryption). e.response) (gone_encryption answers slot own)))
    (data_taken_by (accepted && is_data pdu) seen))))

received : (role : Role) (slot : ℕ) (room : Bool) (air octets : Option (List ℕ)) (facts : Facts)
    → facts.encryption.end.phase ≡ facts.encryption.phase → pdu_read_in facts air ≡ octets
    → keyed_of (facts_received role slot room octets facts)
    ≡ keyed_after_all (steps_received role slot room air octets facts) (keyed_of facts)
received role slot room None None facts same is = refl
received role slot room None (Some octets) facts same is = absurd (none-some octets is)
received role slot room (Some air) None facts same is = refl
received role slot room (Some air) (Some octets) facts same is = heard role slot room facts air octets same is

good_is : (setup : Setup) (facts : Facts) (octets : List ℕ)
    → pdu_read_in facts (whole_pdu setup facts octets) ≡ good_pdu setup facts octets
unfolding good_pdu
good_is setup facts octets = refl

-- ---- one step of an end, of which the session is in the phase of its procedures

pub one_step : (setup : Setup) (facts : Facts) (step : Step) → facts.encryption.end.phase ≡ facts.encryption.phase
    → is_forged_in_step setup facts step ≡ false
    → keyed_of (facts_after setup facts step) ≡ keyed_after_all (keyed_steps_in setup facts step) (keyed_of facts)
one_step setup facts (DataGiven start body) same genuine = refl
one_step setup facts (ProcedureAsked ask) same genuine = asked (is_to_come ask facts) ask facts
one_step setup facts (RequestAnswered answer) same genuine =
    with_control facts.encryption (control_answers answer) facts.control
one_step setup facts (KeyAnswered key slot) same genuine = refl
one_step setup facts (Disconnected reason slot) same genuine =
    with_control facts.encryption (control_disconnects reason) facts.control
one_step setup facts (EventEntered slot) same genuine = entered (goes_on facts) setup slot facts
one_step setup facts PduFixed same genuine = fixed (is_control facts.outgoing.fixed) facts
one_step setup facts (PacketSent slot) same genuine = sent slot facts
one_step setup facts (WordsGiven skd_s iv_s) same genuine = refl
one_step setup facts (PacketReceived slot octets room) same genuine =
    ap (λ b. keyed_of (facts_forged_if b
    (facts_received setup.link.role slot room (good_pdu setup facts octets) facts))) genuine
    ∙ received setup.link.role slot room (whole_pdu setup facts octets) (good_pdu setup facts octets) facts same
    (good_is setup facts octets)
one_step setup facts DataReported same genuine = refl

-- ---- a forged packet

none_read : (read : Option (List ℕ)) → is_none read ≡ true → read ≡ None
none_read None is = refl
none_read (Some octets) is = absurd cc

none_good : (facts : Facts) (air : Option (List ℕ)) → is_forged_in facts air ≡ true → pdu_read_in facts air ≡ None
none_good facts None is = refl
none_good facts (Some air) is = none_read (pdu_read facts air) is

pub forged_none : (setup : Setup) (facts : Facts) (octets : List ℕ) → is_forged setup facts octets ≡ true
    → good_pdu setup facts octets ≡ None
unfolding is_forged
forged_none setup facts octets is = sym (good_is setup facts octets) ∙ none_good facts (whole_pdu setup facts octets) is

pub forged_ends : (setup : Setup) (facts : Facts) (step : Step) → is_forged_in_step setup facts step ≡ true
    → facts_after setup facts step ≡ record facts { control = ended_by_forgery facts.control }
forged_ends setup facts (PacketReceived slot octets room) is =
    λ i. facts_forged_if (is i) (facts_received setup.link.role slot room (forged_none setup facts octets is i) facts)
forged_ends setup facts other is = absurd cc

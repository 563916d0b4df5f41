-- An end whose LL_TERMINATE_IND is acknowledged takes nothing more.
use Rattle.std.proofs.Common.{◌≡◌, ℕ, ◌&&◌, ◌||◌, not, Bool, true, false, List, [], ◌∷◌, ◌++◌, Option, Some, None, refl, ap, sym, ◌∙◌, if◌then◌else◌}
use Rattle.std.specs.List.{filter}
use Rattle.std.proofs.lemmas.List.{append-nil, append_cancel_left}
use Rattle.ble_base.specs.declared.error_codes.ErrCode.{ErrCode}
use Rattle.ble_base.specs.declared.roles.Role.{Role}
use Rattle.ack_bit.specs.Nonempty.{nonempty}
use Rattle.data_pdu.specs.declared.header.DataHeader.{DataHeader}
use Rattle.data_pdu.specs.Header.{header_in}
use Rattle.phased_end.specs.control_end.procedure_values.declared.asks.Ask.{Ask}
use Rattle.link_model.specs.Setup.{Setup}
use Rattle.link_model.specs.Acknowledgement.{Acknowledgement, Pdu}
use Rattle.link_model.specs.Data.{is_accepted, is_control, is_data, is_empty}
use Rattle.link_model.specs.Numbers.{is_took_note, numbered_notes, took_note}
use Rattle.link_model.specs.Verdicts.{pdu_of}
use Rattle.link_model.specs.declared.state.Leaving.{Leaving}
use Rattle.link_model.specs.Facts.{Facts}
use Rattle.link_model.specs.Step.{Step, DataGiven, DataReported, Disconnected, EventEntered, PacketReceived, PacketSent, PduFixed, ProcedureAsked, RequestAnswered, KeyAnswered, WordsGiven}
use Rattle.link_model.specs.Controls.{goes_on, is_procedure_pdu, is_terminate}
use Rattle.link_model.specs.Entering.{facts_entered_if}
use Rattle.link_model.specs.Fixing.{fixed_anew}
use Rattle.link_model.specs.Hosts.{asked_unless, is_to_come, leaving_from_if, ends_without_key}
use Rattle.link_model.specs.Packets.{has_new_pdu, good_pdu, is_forged}
use Rattle.link_model.specs.Sending.{control_gone_if, takes_leave}
use Rattle.link_model.specs.Receiving.{accepted_if, accepts, acknowledged_if, answers_with_control, code_of, facts_before_taking, facts_hearing, facts_received, has_acknowledged, heard_in_slot, leaving_by, procedures_give, procedures_take_if, facts_forged_if}
use Rattle.link_model.specs.End.{facts_after, notes_after}
use Rattle.link_model.proofs.Acknowledging.{ack_heard, ack_sent, asked_leaves, entered_leaves, fixed_leaves, forged_leaves}
use Rattle.link_model.proofs.Numbering.{nonempty-push, step_numbered}
use Rattle.link_model.proofs.Choices.{either_data, either_forged}

-- ---- once it is acknowledged, it stays so

asked_stays : (comes : Bool) (ask : Ask) (facts : Facts) → (asked_unless comes ask facts).leaving ≡ facts.leaving
asked_stays true ask facts = refl
asked_stays false ask facts = refl

pub entered_stays : (goes : Bool) (setup : Setup) (slot : ℕ) (facts : Facts) → (facts_entered_if goes setup slot facts).leaving ≡ facts.leaving
entered_stays true setup slot facts = refl
entered_stays false setup slot facts = refl

fixed_stays : (stays : Bool) (facts : Facts) → (if stays then facts else fixed_anew facts).leaving ≡ facts.leaving
fixed_stays true facts = refl
fixed_stays false facts = refl

pub gone_stays : (goes : Bool) (slot : ℕ) (facts : Facts) → (control_gone_if goes slot facts).leaving ≡ facts.leaving
gone_stays true slot facts = refl
gone_stays false slot facts = refl

pub by_peer : (code : Option ErrCode) (leaving : Leaving) → (leaving_by code leaving).acknowledged ≡ leaving.acknowledged
by_peer None leaving = refl
by_peer (Some code) leaving = refl

taken_stays : (takes : Bool) (pdu : Pdu) (slot : ℕ) (facts : Facts)
    → (procedures_take_if takes pdu slot facts).leaving.acknowledged ≡ facts.leaving.acknowledged
taken_stays true pdu slot facts = by_peer (code_of (procedures_give pdu slot facts).effect) facts.leaving
taken_stays false pdu slot facts = refl

or_more : (before now : Bool) → before ≡ true → (before || now) ≡ true
or_more true now is = refl
or_more false now is = absurd cc

module _ (role : Role) (slot : ℕ) (room : Bool) (header : DataHeader) (pdu : Pdu) (facts : Facts) where
  abbrev pub now : Facts
  now = facts_before_taking role slot header facts

  -- what is acknowledged as the new PDU is looked at stays
  pub heard_as_now : (facts_hearing role slot room header pdu facts).leaving.acknowledged ≡ now.leaving.acknowledged
  heard_as_now =
      let accepted = accepts room header pdu now in
      let seen = procedures_take_if (accepted && is_procedure_pdu pdu) pdu slot (accepted_if accepted pdu now) in
      either_data (λ (f : Facts). f.leaving.acknowledged ≡ seen.leaving.acknowledged)
      (accepted && is_data pdu) seen refl refl
      ∙ taken_stays (accepted && is_procedure_pdu pdu) pdu slot (accepted_if accepted pdu now)

  now_is : now.leaving.acknowledged
      ≡ (facts.leaving.acknowledged || (has_acknowledged facts header && is_terminate facts.acknowledgement.last))
  now_is =
      let own = acknowledged_if (has_acknowledged facts header) (heard_in_slot slot header.md facts) in
      ap (λ (l : Leaving). l.acknowledged) (gone_stays (answers_with_control role own) slot own)

  heard_stays : facts.leaving.acknowledged ≡ true → (facts_hearing role slot room header pdu facts).leaving.acknowledged ≡ true
  heard_stays is =
      heard_as_now ∙ now_is
      ∙ or_more facts.leaving.acknowledged (has_acknowledged facts header && is_terminate facts.acknowledgement.last) is

pub key_stays : (leaves : Bool) (slot : ℕ) (leaving : Leaving)
    → (leaving_from_if leaves slot leaving).acknowledged ≡ leaving.acknowledged
key_stays true slot leaving = refl
key_stays false slot leaving = refl

-- a forged packet leaves that as it is
forged_stays : (forged : Bool) (facts : Facts) → (facts_forged_if forged facts).leaving ≡ facts.leaving
forged_stays forged facts = either_forged (λ (f : Facts). f.leaving ≡ facts.leaving) forged facts refl refl

pub stays : (setup : Setup) (facts : Facts) (step : Step) → facts.leaving.acknowledged ≡ true
    → (facts_after setup facts step).leaving.acknowledged ≡ true
stays setup facts (DataGiven start body) is = is
stays setup facts (ProcedureAsked ask) is = ap (λ (l : Leaving). l.acknowledged) (asked_stays (is_to_come ask facts) ask facts) ∙ is
stays setup facts (RequestAnswered answer) is = is
stays setup facts (KeyAnswered key slot) is = key_stays (ends_without_key key facts) slot facts.leaving ∙ is
stays setup facts (Disconnected reason slot) is = is
stays setup facts (EventEntered slot) is = ap (λ (l : Leaving). l.acknowledged) (entered_stays (goes_on facts) setup slot facts) ∙ is
stays setup facts PduFixed is = ap (λ (l : Leaving). l.acknowledged) (fixed_stays (is_control facts.outgoing.fixed) facts) ∙ is
stays setup facts (PacketSent slot) is = ap (λ (l : Leaving). l.acknowledged) (gone_stays (takes_leave facts) slot facts) ∙ is
stays setup facts (WordsGiven skd_s iv_s) is = is
stays setup facts (PacketReceived slot octets room) is =
    let pdu = good_pdu setup facts octets in
    ap (λ (l : Leaving). l.acknowledged)
    (forged_stays (is_forged setup facts octets) (facts_received setup.link.role slot room pdu facts)) ∙ by pdu
  where
    by : (pdu : Option (List ℕ)) → (facts_received setup.link.role slot room pdu facts).leaving.acknowledged ≡ true
    by None = is
    by (Some octets) = heard_stays setup.link.role slot room (header_in octets) (pdu_of octets) facts is
stays setup facts DataReported is = is

-- ---- then no PDU is accepted that is not empty

none_accepted : (fresh empty ended : Bool) → empty ≡ false → ended ≡ true → (fresh && (empty || not ended)) ≡ false
none_accepted true false true is has = refl
none_accepted true false false is has = absurd cc
none_accepted true true ended is has = absurd cc
none_accepted false empty ended is has = refl

pub refused : (room : Bool) (header : DataHeader) (pdu : Pdu) (facts : Facts) → facts.leaving.acknowledged ≡ true → is_empty pdu ≡ false
    → accepts room header pdu facts ≡ false
refused room header pdu facts ended empty =
    none_accepted (is_accepted room (has_new_pdu facts header) pdu) (is_empty pdu) facts.leaving.acknowledged empty ended

none_pushed : (fresh empty ended : Bool) (pdus : List Pdu) (pdu : Pdu) → is_empty pdu ≡ empty → ended ≡ true
    → nonempty is_empty (if fresh && (empty || not ended) then pdus ++ pdu ∷ [] else pdus) ≡ nonempty is_empty pdus
none_pushed false empty ended pdus pdu is has = refl
none_pushed true true ended pdus pdu is has = nonempty-push pdus pdu true is ∙ append-nil (nonempty is_empty pdus)
none_pushed true false true pdus pdu is has = refl
none_pushed true false false pdus pdu is has = absurd cc

heard_none : (role : Role) (slot : ℕ) (room : Bool) (header : DataHeader) (pdu : Pdu) (facts : Facts)
    → (facts_hearing role slot room header pdu facts).leaving.acknowledged ≡ true
    → nonempty is_empty (facts_hearing role slot room header pdu facts).acknowledgement.accepted ≡ nonempty is_empty facts.acknowledgement.accepted
heard_none role slot room header pdu facts ended =
    let now = facts_before_taking role slot header facts in
    ap (λ (a : Acknowledgement). nonempty is_empty a.accepted) (ack_heard role slot room header pdu facts)
    ∙ none_pushed (is_accepted room (has_new_pdu now header) pdu) (is_empty pdu) now.leaving.acknowledged facts.acknowledgement.accepted pdu refl
    (sym (heard_as_now role slot room header pdu facts) ∙ ended)

pub none_taken : (setup : Setup) (facts : Facts) (step : Step) → (facts_after setup facts step).leaving.acknowledged ≡ true
    → nonempty is_empty (facts_after setup facts step).acknowledgement.accepted ≡ nonempty is_empty facts.acknowledgement.accepted
none_taken setup facts (DataGiven start body) ended = refl
none_taken setup facts (ProcedureAsked ask) ended =
    ap (λ (a : Acknowledgement). nonempty is_empty a.accepted) (asked_leaves (is_to_come ask facts) ask facts)
none_taken setup facts (RequestAnswered answer) ended = refl
none_taken setup facts (KeyAnswered key slot) ended = refl
none_taken setup facts (Disconnected reason slot) ended = refl
none_taken setup facts (EventEntered slot) ended =
    ap (λ (a : Acknowledgement). nonempty is_empty a.accepted) (entered_leaves (goes_on facts) setup slot facts)
none_taken setup facts PduFixed ended =
    ap (λ (a : Acknowledgement). nonempty is_empty a.accepted) (fixed_leaves (is_control facts.outgoing.fixed) facts)
none_taken setup facts (PacketSent slot) ended = ap (λ (a : Acknowledgement). nonempty is_empty a.accepted) (ack_sent slot facts)
none_taken setup facts (WordsGiven skd_s iv_s) ended = refl
none_taken setup facts (PacketReceived slot octets room) ended =
    let later = facts_received setup.link.role slot room (good_pdu setup facts octets) facts in
    ap (λ (a : Acknowledgement). nonempty is_empty a.accepted) (forged_leaves (is_forged setup facts octets) later)
    ∙ by (good_pdu setup facts octets)
    (sym (ap (λ (l : Leaving). l.acknowledged) (forged_stays (is_forged setup facts octets) later)) ∙ ended)
  where
    by : (pdu : Option (List ℕ)) → (facts_received setup.link.role slot room pdu facts).leaving.acknowledged ≡ true
        → nonempty is_empty (facts_received setup.link.role slot room pdu facts).acknowledgement.accepted
        ≡ nonempty is_empty facts.acknowledgement.accepted
    by None ended = refl
    by (Some octets) ended = heard_none setup.link.role slot room (header_in octets) (pdu_of octets) facts ended
none_taken setup facts DataReported ended = refl

-- so none is noted
pub none_noted : (setup : Setup) (facts : Facts) (step : Step) → (facts_after setup facts step).leaving.acknowledged ≡ true
    → filter is_took_note (notes_after setup facts step) ≡ []
none_noted setup facts step ended =
    let before = numbered_notes (took_note setup.link.handle) 1 (nonempty is_empty facts.acknowledgement.accepted) in
    let notes = filter is_took_note (notes_after setup facts step) in
    append_cancel_left before notes []
    (sym (step_numbered setup facts step).took
    ∙ ap (numbered_notes (took_note setup.link.handle) 1) (none_taken setup facts step ended) ∙ sym (append-nil before))

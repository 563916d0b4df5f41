-- Which PDU an end fixes.
use Rattle.std.proofs.Common.{◌≡◌, ◌≤◌, ℕ, ◌==◌, nat_lt, ◌&&◌, ◌||◌, Bool, true, false, List, [], ◌∷◌, fold, length, Option, Some, None, is_some, refl, ap, sym, ◌∙◌, arith, if◌then◌else◌}
use Rattle.std.specs.List.{find}
use Rattle.std.specs.Option.{option_map}
use Rattle.std.proofs.lemmas.Bool.Decides.{nat_tests}
use Rattle.acl_banks.specs.declared.pieces.Piece.{Piece}
use Rattle.acl_banks.specs.Packets.{DataPacket, piece_of}
use Rattle.acl_banks.proofs.Octets.{length-piece_of}
use Rattle.ble_base.specs.declared.roles.Role.{Role}
use Rattle.data_pdu.specs.declared.ctrl.Ctrl.{Ctrl}
use Rattle.data_pdu.specs.declared.header.DataHeader.{DataHeader}
use Rattle.data_pdu.specs.Header.{header_in}
use Rattle.phased_end.specs.control_end.procedure_values.Limits.{tx_of}
use Rattle.phased_end.specs.control_end.procedure_values.declared.asks.Ask.{Ask}
use Rattle.phased_end.specs.control_end.procedure_stages.Queue.{waiting_in}
use Rattle.link_model.specs.Setup.{Setup}
use Rattle.link_model.specs.Acknowledgement.{Pdu, empty_pdu, is_acked}
use Rattle.link_model.specs.Data.{Data, data_acked_if, data_given, is_control, is_data, is_unsent, llid_of, next_piece, pdu_with, unsent_of}
use Rattle.link_model.specs.Verdicts.{pdu_of}
use Rattle.link_model.specs.Facts.{Facts, first_facts}
use Rattle.link_model.specs.Step.{Step, DataGiven, DataReported, Disconnected, EventEntered, PacketReceived, PacketSent, PduFixed, ProcedureAsked, RequestAnswered, KeyAnswered, WordsGiven}
use Rattle.link_model.specs.Controls.{goes_on, is_procedure_pdu, next_control, pdu_fixed, pdu_of_control, is_quiet_now}
use Rattle.link_model.specs.Fixing.{data_cut, data_fixed_by, data_goes, fixed_anew, is_last_of_all, waits_again}
use Rattle.link_model.specs.Entering.{facts_entered_if}
use Rattle.link_model.specs.Hosts.{asked_unless, is_to_come}
use Rattle.link_model.specs.Packets.{good_pdu, is_forged}
use Rattle.link_model.specs.Sending.{control_gone_if, takes_leave, data_sent_as}
use Rattle.link_model.specs.Receiving.{accepted_if, accepts, acknowledged_if, answers_with_control, facts_hearing, facts_received, has_acknowledged, heard_in_slot, procedures_take_if}
use Rattle.link_model.specs.End.{facts_after, facts_of}
use Rattle.link_model.proofs.Choices.{either_data, either_forged}
use Rattle.link_model.specs.Payload.{payload_made}

none_after : (waiting : ℕ) (quiet : Bool) (piece : Option Piece)
    → (nat_lt 1 waiting || (quiet && is_some piece)) ≡ false
    → (waiting ≤ 1) × (quiet ≡ true → piece ≡ None)
none_after waiting quiet piece is = by_test (nat_lt 1 waiting) quiet piece refl is
  where
    by_test : (many quiet : Bool) (piece : Option Piece) → nat_lt 1 waiting ≡ many
        → (many || (quiet && is_some piece)) ≡ false
        → (waiting ≤ 1) × (quiet ≡ true → piece ≡ None)
    by_test true quiet piece e is = absurd cc
    by_test false quiet None e is = (grind (arith, nat_tests), λ holds. refl)
    by_test false true (Some piece) e is = absurd cc
    by_test false false (Some piece) e is = (grind (arith, nat_tests), λ holds. absurd cc)

cut_fits : (limit : ℕ) (found : Option DataPacket) → length (pdu_with (option_map (piece_of limit) found)).body ≤ limit
cut_fits limit None = omega arith
cut_fits limit (Some packet) = omega (arith, length-piece_of limit packet)

pub piece_fits : (facts : Facts) → length (pdu_with (next_piece (data_cut facts))).body ≤ tx_of facts.control.table.lengths
piece_fits facts = cut_fits (tx_of facts.control.table.lengths) (find is_unsent facts.outgoing.packets)

-- what is fixed anew, or stays
module _ (setup : Setup) (facts : Facts) where
  pub stays : is_control facts.outgoing.fixed ≡ true → facts_after setup facts PduFixed ≡ facts
  stays is = ap (λ b. if b then facts else fixed_anew facts) is

  anew : is_control facts.outgoing.fixed ≡ false → facts_after setup facts PduFixed ≡ fixed_anew facts
  anew is = ap (λ b. if b then facts else fixed_anew facts) is

  -- the PDU and the MD bit, by the control PDU that goes next
  abbrev fixed_for : Option Ctrl → Bool → Data
  fixed_for control goes =
      data_fixed_by (is_some control) (waiting_in facts.control.table.queue) (is_quiet_now facts) goes (data_cut facts)

  pub fixed_control : (ctrl : Ctrl) → is_control facts.outgoing.fixed ≡ false → next_control facts ≡ Some ctrl
      → pdu_fixed (facts_after setup facts PduFixed) ≡ pdu_of_control (Some ctrl)
  fixed_control ctrl is next =
      ap pdu_fixed (anew is)
      ∙ ap (λ (control : Option Ctrl). if is_some control then pdu_of_control control else (fixed_for control (data_goes facts)).fixed) next

  pub nothing_else : (ctrl : Ctrl) → is_control facts.outgoing.fixed ≡ false → next_control facts ≡ Some ctrl
      → (facts_after setup facts PduFixed).outgoing.more ≡ false
      → (waiting_in facts.control.table.queue ≤ 1) × (is_quiet_now facts ≡ true → next_piece (data_cut facts) ≡ None)
  nothing_else ctrl is next none =
      none_after (waiting_in facts.control.table.queue) (is_quiet_now facts) (next_piece (data_cut facts))
      (sym (ap (λ (f : Facts). f.outgoing.more) (anew is) ∙ ap (λ (control : Option Ctrl). (fixed_for control (data_goes facts)).more) next) ∙ none)

  pub fixed_data : is_control facts.outgoing.fixed ≡ false → next_control facts ≡ None → data_goes facts ≡ true
      → pdu_fixed (facts_after setup facts PduFixed) ≡ pdu_with (next_piece (data_cut facts))
  fixed_data is next goes =
      ap pdu_fixed (anew is)
      ∙ (λ i. if is_some (next i) then pdu_of_control (next i) else (fixed_for (next i) (goes i)).fixed)

  pub more_data : is_control facts.outgoing.fixed ≡ false → next_control facts ≡ None → data_goes facts ≡ true
      → (facts_after setup facts PduFixed).outgoing.more
      ≡ nat_lt (length (pdu_with (next_piece (data_cut facts))).body) (length (unsent_of facts.outgoing))
  more_data is next goes =
      ap (λ (f : Facts). f.outgoing.more) (anew is) ∙ (λ i. (fixed_for (next i) (goes i)).more)

  pub fixed_nothing : is_control facts.outgoing.fixed ≡ false → next_control facts ≡ None → data_goes facts ≡ false
      → pdu_fixed (facts_after setup facts PduFixed) ≡ empty_pdu
  fixed_nothing is next goes =
      ap pdu_fixed (anew is)
      ∙ (λ i. if is_some (next i) then pdu_of_control (next i) else (fixed_for (next i) (goes i)).fixed)

  pub more_nothing : is_control facts.outgoing.fixed ≡ false → next_control facts ≡ None → data_goes facts ≡ false
      → (facts_after setup facts PduFixed).outgoing.more ≡ false
  more_nothing is next goes =
      ap (λ (f : Facts). f.outgoing.more) (anew is) ∙ (λ i. (fixed_for (next i) (goes i)).more)

  -- MD where the last PDU is sent again
  abbrev again_for : Bool → Bool
  again_for ends =
      waits_again ends (is_some (next_control facts)) (data_goes facts) (is_quiet_now facts)
      (waiting_in facts.control.table.queue) (next_piece (data_cut facts))

  pub more_again : (ends : Bool) → is_control facts.outgoing.fixed ≡ false → is_last_of_all facts ≡ ends
      → (facts_after setup facts PduFixed).outgoing.more_again ≡ again_for ends
  more_again ends is last = ap (λ (f : Facts). f.outgoing.more_again) (anew is) ∙ ap again_for last

-- ---- a control PDU that has left the queue is the one that goes

abbrev HasLeft : Facts → Type 0
HasLeft facts = is_control facts.outgoing.fixed ≡ true → facts.fixes_control ≡ false

pub given_control : (handle : ℕ) (start : Bool) (body : List ℕ) (outgoing : Data) → (data_given handle start body outgoing).fixed ≡ outgoing.fixed
given_control handle start [] outgoing = refl
given_control handle start (octet ∷ octets) outgoing = refl

piece_control : (piece : Option Piece) → is_control (pdu_with piece) ≡ false
piece_control None = refl
piece_control (Some piece) = by piece.start
  where
    by : (start : Bool) → (llid_of start == 3) ≡ false
    by true = refl
    by false = refl

anew_control : (control : Bool) (waiting : ℕ) (quiet goes : Bool) (outgoing : Data)
    → is_control (data_fixed_by control waiting quiet goes outgoing).fixed ≡ false
anew_control true waiting quiet goes outgoing = refl
anew_control false waiting quiet true outgoing = piece_control (next_piece outgoing)
anew_control false waiting quiet false outgoing = refl

-- a PDU that is no control PDU
no_control : (pdu : Pdu) (fixes : Bool) → is_control pdu ≡ false → is_control pdu ≡ true → fixes ≡ false
no_control pdu fixes is holds = let no : ◌≡◌ {A = Bool} false true = sym is ∙ holds in absurd cc

asked_left : (comes : Bool) (ask : Ask) (facts : Facts) → HasLeft facts → HasLeft (asked_unless comes ask facts)
asked_left true ask facts left = left
asked_left false ask facts left = left

entered_left : (goes : Bool) (setup : Setup) (slot : ℕ) (facts : Facts) → HasLeft facts → HasLeft (facts_entered_if goes setup slot facts)
entered_left true setup slot facts left = left
entered_left false setup slot facts left = left

fixed_left : (same : Bool) (facts : Facts) → HasLeft facts → HasLeft (if same then facts else fixed_anew facts)
fixed_left true facts left = left
fixed_left false facts left =
    no_control (fixed_anew facts).outgoing.fixed (fixed_anew facts).fixes_control
    (anew_control (is_some (next_control facts)) (waiting_in facts.control.table.queue) (is_quiet_now facts)
    (data_goes facts) (data_cut facts))

gone_left : (goes : Bool) (slot : ℕ) (facts : Facts) → HasLeft facts → HasLeft (control_gone_if goes slot facts)
gone_left true slot facts left = λ holds. refl
gone_left false slot facts left = left

sent_left : (payload : List ℕ) (is_new fixes : Bool) (outgoing : Data)
    → (is_control outgoing.fixed ≡ true → fixes ≡ false)
    → is_control (data_sent_as payload is_new outgoing).fixed ≡ true → fixes ≡ false
sent_left payload true fixes outgoing left = no_control empty_pdu fixes refl
sent_left payload false fixes outgoing left = left

pub acked_control : (acked : Bool) (outgoing : Data) → (data_acked_if acked outgoing).fixed ≡ outgoing.fixed
acked_control true outgoing = refl
acked_control false outgoing = refl

taken_left : (takes : Bool) (pdu : Pdu) (slot : ℕ) (facts : Facts) → HasLeft facts → HasLeft (procedures_take_if takes pdu slot facts)
taken_left true pdu slot facts left = left
taken_left false pdu slot facts left = left

heard_left : (role : Role) (slot : ℕ) (room : Bool) (header : DataHeader) (pdu : Pdu) (facts : Facts) → HasLeft facts
    → HasLeft (facts_hearing role slot room header pdu facts)
heard_left role slot room header pdu facts left =
    let acks = has_acknowledged facts header in
    let own = acknowledged_if acks (heard_in_slot slot header.md facts) in
    let now = control_gone_if (answers_with_control role own) slot own in
    let accepted = accepts room header pdu now in
    let seen = procedures_take_if (accepted && is_procedure_pdu pdu) pdu slot (accepted_if accepted pdu now) in
    let has_left =
    taken_left (accepted && is_procedure_pdu pdu) pdu slot (accepted_if accepted pdu now)
    (gone_left (answers_with_control role own) slot own
    (λ holds. left (sym (ap is_control
    (acked_control (acks && is_data facts.acknowledgement.last) facts.outgoing)) ∙ holds))) in
    either_data HasLeft (accepted && is_data pdu) seen has_left has_left

received_left : (role : Role) (slot : ℕ) (room : Bool) (pdu : Option (List ℕ)) (facts : Facts) → HasLeft facts
    → HasLeft (facts_received role slot room pdu facts)
received_left role slot room None facts left = left
received_left role slot room (Some octets) facts left = heard_left role slot room (header_in octets) (pdu_of octets) facts left

step_left : (setup : Setup) (facts : Facts) (step : Step) → HasLeft facts → HasLeft (facts_after setup facts step)
step_left setup facts (DataGiven start body) left =
    λ holds. left (sym (ap is_control (given_control setup.link.handle start body facts.outgoing)) ∙ holds)
step_left setup facts (ProcedureAsked ask) left = asked_left (is_to_come ask facts) ask facts left
step_left setup facts (RequestAnswered answer) left = left
step_left setup facts (KeyAnswered key slot) left = left
step_left setup facts (Disconnected reason slot) left = left
step_left setup facts (EventEntered slot) left = entered_left (goes_on facts) setup slot facts left
step_left setup facts PduFixed left = fixed_left (is_control facts.outgoing.fixed) facts left
step_left setup facts (PacketSent slot) left =
    let now = control_gone_if (takes_leave facts) slot facts in
    sent_left (payload_made now.encryption.end now.outgoing.fixed)
    (is_acked now.acknowledgement) now.fixes_control now.outgoing (gone_left (takes_leave facts) slot facts left)
step_left setup facts (WordsGiven skd_s iv_s) left = left
step_left setup facts (PacketReceived slot octets room) left =
    let pdu = good_pdu setup facts octets in
    let has_left = received_left setup.link.role slot room pdu facts left in
    either_forged HasLeft (is_forged setup facts octets)
    (facts_received setup.link.role slot room pdu facts) has_left has_left
step_left setup facts DataReported left = left

steps_left : (setup : Setup) (facts : Facts) (steps : List Step) → HasLeft facts → HasLeft (fold (facts_after setup) facts steps)
steps_left setup facts [] left = left
steps_left setup facts (step ∷ steps) left = steps_left setup (facts_after setup facts step) steps (step_left setup facts step left)

past_left : (setup : Setup) (past : List Step) → HasLeft (facts_of setup past)
unfolding facts_of
past_left setup past = steps_left setup (first_facts setup) past (no_control empty_pdu false refl)

pub left_goes : (setup : Setup) (past : List Step) → let facts = facts_of setup past in
    is_control facts.outgoing.fixed ≡ true → pdu_fixed facts ≡ facts.outgoing.fixed
left_goes setup past holds =
    let facts = facts_of setup past in
    ap (λ b. if b then pdu_of_control (next_control facts) else facts.outgoing.fixed) (past_left setup past holds)

-- An end that knows its past and hears octets on its channel.
use Rattle.std.proofs.Common.{◌≡◌, ℕ, ◌+◌, ◌≤◌, ◌==◌, Bool, true, false, not, ◌&&◌, ◌||◌, if◌then◌else◌, List, [], ◌∷◌, ◌++◌, length, take, drop, Option, Some, None, is_none, is_some, refl, ap, sym, ◌∙◌, subst}
use Rattle.ble_base.specs.ErrorCodes.{mic_failure}
use Rattle.ble_base.specs.declared.notes.Note.{Note}
use Rattle.ble_base.specs.declared.procedure_kinds.Kind.{Kind}
use Rattle.ble_base.specs.declared.roles.Role.{Role}
use Rattle.ble_base.specs.declared.roles.Role.TheVariants.{Central, Peripheral}
use Rattle.ble_base.specs.declared.verdicts.Verdict.{Verdict}
use Rattle.ble_base.specs.declared.verdicts.Verdict.TheVariants.{Broken as broken, Forged, Good}
use Rattle.ack_bit.specs.AckBits.{is_new}
use Rattle.acl_banks.specs.declared.pieces.Piece.{Piece}
use Rattle.acl_banks.specs.Banks.{Bank}
use Rattle.air_frame.specs.declared.Heard.{Heard}
use Rattle.air_frame.specs.declared.Heard.TheVariants.{Broken, NotOurs, Whole}
use Rattle.air_frame.specs.Hearing.{heard_in}
use Rattle.data_pdu.specs.declared.header.DataHeader.{DataHeader}
use Rattle.data_pdu.specs.Header.{header_in}
use Rattle.procedures.specs.procedure_stages.declared.steps.Effect.{Effect}
use Rattle.procedures.specs.procedure_stages.Closing.{is_open}
use Rattle.control_end.specs.control_model.Control.{ended}
use Rattle.link_model.specs.phased_end.Held.{HeldKeyed, held_of as keyed_held}
use Rattle.link_model.specs.phased_end.Moves.{lasts}
use Rattle.link_model.specs.phased_end.Taking.{drawn}
use Rattle.link_model.specs.phased_end.declared.taking.TakenKeyed.{TakenKeyed}
use Rattle.link_model.specs.phased_end.enc_phase.declared.facts.PhaseFacts.{PhaseFacts}
use Rattle.link_model.specs.phased_end.enc_phase.declared.facts.Transition.TheVariants.{Ask}
use Rattle.link_model.specs.phased_end.enc_phase.Phases.{may_follow}
use Rattle.link_model.specs.phased_end.enc_phase.Sealing.{EncEnd, is_right, opened_body}
use Rattle.link_model.specs.phased_end.keyed_control.KeyedSteps.{Takes}
use Rattle.keyed_control.specs.phased_control.Phased.{Phased}
use Rattle.link_model.proofs.phased_end.Depending.{step_depends}
use Rattle.link_model.specs.Setup.{Setup}
use Rattle.link_model.specs.Acknowledgement.{Pdu}
use Rattle.link_model.specs.Data.{is_data, is_empty, numbered}
use Rattle.link_model.specs.unencrypted_ends.Unencrypted.{is_enc_req}
use Rattle.link_model.specs.Verdicts.{has_room_for, pdu_of, verdict_by}
use Rattle.link_model.specs.Controls.{is_procedure_pdu, read_of}
use Rattle.link_model.specs.Drawing.{draws_of, draws_received, draws_taking, may_answer as facts_may_answer}
use Rattle.link_model.specs.Entering.{done_notes}
use Rattle.link_model.specs.Facts.{Facts, keyed_of}
use Rattle.link_model.specs.Kept.{kept_from, kept_of}
use Rattle.link_model.specs.Packets.{good_pdu, heard_of, is_forged, is_forged_in, is_forged_pdu, pdu_read, pdu_read_in, verdict_of, whole_pdu}
use Rattle.link_model.specs.Payload.{first_octet, opened_if, opens_now}
use Rattle.link_model.specs.Receiving.{accepted_if, accepts as facts_accept, acknowledged_if, answers_with_control as facts_answer, control_taken, data_taken_if, effect_of, effect_received, effect_unless_known, ended_by_forgery, facts_before_taking, facts_forged_if, facts_received, given_if as facts_given, has_acknowledged, has_ended as facts_have_ended, heard_in_slot, kept_effect_of, kept_effect_received, kept_given_if as facts_kept_given, procedures_take_if, received_notes as facts_notes, replies_by, replies_of}
use Rattle.link_model.specs.Sending.{control_gone_if}
use Rattle.link_model.specs.Step.{Step, PacketReceived}
use Rattle.link_model.specs.End.{facts_of}
use Rattle.link_model.proofs.Counts.{past_counted}
use Rattle.link_end.specs.declared.pdus.Got.{Got}
use Rattle.link_end.specs.Answers.{acked_of, acked_received, given_of, given_received, kept_given_of, kept_given_received}
use Rattle.link_end.specs.Held.{Held, held_of}
use Rattle.link_end.specs.Knowing.{Goes, Knows}
use Rattle.link_end.specs.Pdus.{got_with, pdu_in}
use Rattle.link_end.specs.Receiving.{accepts, acked_in, acked_kind, acks, acks_piece, body_if, control_taken_if, counts, draws_if, draws_in, given_if, given_in, given_notes_of, got_if, got_in, got_of, has_ended, held_before_taking, held_forged, held_heard, held_opened, held_read, held_read_if, held_received, kept_in, may_answer, received_notes, replies_to, right_if, takes_body, took_note_if, whole_by}
use Rattle.link_end.specs.Tied.{HoldsData, IsAfterAck}
use Rattle.link_end.proofs.Banked.{holds_acked}
use Rattle.link_end.proofs.Counters.{handed_counted, phase_counted, taken_counted}
use Rattle.link_end.proofs.Keeping.{held_is, holds_after, stepped}
use Rattle.link_end.proofs.Opening.{body_opened, header_opened, some_octets, some_right, zero_same}
use Rattle.link_end.proofs.Outcomes.{Outcome, outcome_of, untaken}
use Rattle.link_end.proofs.Phases.{Agrees, before_agrees, counting_agrees, past_agrees, phased_same}
use Rattle.link_end.proofs.Received.{before_counting, before_of, counting, taken_of}
use Rattle.link_end.proofs.Sent.{holds_gone}
use Rattle.link_end.proofs.Tying.{read_setup}

-- ---- what the procedures give, and what is drawn, whatever counter was taken

-- what they give for a control PDU that they take, by the facts
abbrev given_of_facts : Bool → Pdu → ℕ → Facts → TakenKeyed
given_of_facts takes pdu slot facts = record { taken = facts_given takes pdu slot facts; kept = facts_kept_given takes pdu slot facts }

given_counted : (setup : Setup) (takes counts : Bool) (pdu : Pdu) (slot : ℕ) (facts : Facts)
    → given_if takes pdu slot (held_of setup (counting counts facts)) ≡ given_of_facts takes pdu slot facts
given_counted setup true counts pdu slot facts =
    taken_counted counts slot facts.encryption.response (read_of pdu) (keyed_held (keyed_of facts))
given_counted setup false counts pdu slot facts = refl

answers_counted : (role : Role) (counts : Bool) (facts : Facts) → facts.encryption.end.phase ≡ facts.encryption.phase
    → may_answer role (keyed_held (keyed_of (counting counts facts))) ≡ facts_may_answer role facts
answers_counted Central counts facts same = refl
answers_counted Peripheral counts facts same =
    ap (λ (p : PhaseFacts). may_follow Ask p && is_open facts.control.table.closing)
    (phase_counted counts (keyed_held (keyed_of facts)) ∙ same)

lasts_counted : (setup : Setup) (counts : Bool) (pdu : Pdu) (slot : ℕ) (facts : Facts) → Agrees setup facts
    → lasts (control_taken_if true pdu slot (held_of setup (counting counts facts))) ≡ is_none (control_taken pdu slot facts).ends
lasts_counted setup counts pdu slot facts agrees =
    let step = Takes (read_of pdu) slot (drawn facts.encryption.response) in
    let k = keyed_of (counting counts facts) in
    ap (λ (h : HeldKeyed). lasts h) (sym (step_depends step k (counting_agrees setup counts facts agrees).phase))
    ∙ ap (λ (s : Phased). is_none s.control.ends) (phased_same step k (keyed_of facts) refl)

draws_counted : (setup : Setup) (takes counts : Bool) (pdu : Pdu) (slot : ℕ) (facts : Facts) → Agrees setup facts
    → draws_if takes pdu slot (held_of setup (counting counts facts)) ≡ (takes && draws_taking setup.link.role pdu slot facts)
draws_counted setup takes counts pdu slot facts agrees =
    let answers = answers_counted setup.link.role counts facts agrees.phase in
    let seen = handed_counted counts (read_of pdu) (keyed_held (keyed_of facts)) in
    let goes_on = lasts_counted setup counts pdu slot facts agrees in
    λ i. takes && (is_enc_req (read_of pdu) && (answers i && (seen i && goes_on i)))

-- ---- a whole packet that is not forged

-- what it is as it is accepted, by a PDU that is empty or not
abbrev accepts_at : Bool → DataHeader → Bool → Held → Bool
accepts_at room header none held =
    (is_new held.bits header && (room || not ((header.llid == 1 || header.llid == 2) && not none)))
    && ((header.llid == 0 || none) || not held.leaving.acknowledged)

only_new : (fresh room open_too some : Bool) → (((fresh && room) && open_too) && (fresh && some)) ≡ (((fresh && room) && open_too) && some)
only_new true room open_too some = refl
only_new false room open_too some = refl

module _ (setup : Setup) (facts : Facts) (agrees : Agrees setup facts)
    (low : facts.acknowledgement.acked ≤ length facts.acknowledgement.sent)
    (high : length facts.acknowledgement.sent ≤ facts.acknowledgement.acked + 1) (slot : ℕ) (room : Bool) where
  abbrev role : Role
  role = setup.link.role

  abbrev before : Held
  before = held_of setup facts

  -- the facts as the new PDU is looked at
  abbrev now_at : DataHeader → Facts
  now_at header = facts_before_taking role slot header facts

  -- these octets are opened to those
  module _ (air pdu : List ℕ) (header : header_in air ≡ header_in pdu)
      (none : (length (drop 2 air) == 0) ≡ (length (drop 2 pdu) == 0))
      (body : takes_body room air before ≡ true → opened_body facts.encryption.end (drop 2 air) ≡ drop 2 pdu) where
    abbrev takes : Bool
    takes = takes_body room air before

    abbrev got : Got
    got = got_with air (accepts room air before) (body_if takes facts.encryption.end air)

    abbrev read : Held
    read = held_heard slot (header_in air).md (held_opened takes before)

    abbrev accepted : Bool
    accepted = facts_accept room (header_in pdu) (pdu_of pdu) (now_at (header_in pdu))

    abbrev now : Facts
    now = now_at (header_in pdu)

    before_is : held_before_taking slot (header_in air) read ≡ held_of setup (counting takes (now_at (header_in air)))
    before_is =
        before_of setup slot (header_in air) (counting takes facts) (counting_agrees setup takes facts agrees) low high
        ∙ ap (held_of setup) (before_counting role takes slot (header_in air) facts agrees.phase)

    accepted_is : accepts room air before ≡ accepted
    accepted_is =
        ap (accepts_at room (header_in air) (length (drop 2 air) == 0)) before_is
        ∙ (λ i. accepts_at room (header i) (none i) (held_of setup (now_at (header i))))

    takes_is : takes ≡ (accepted && not (is_empty (pdu_of pdu)))
    takes_is =
        only_new (is_new before.bits (header_in air)) _ _ (not ((header_in air).llid == 0 || length (drop 2 air) == 0))
        ∙ (λ i. accepted_is i && not ((header i).llid == 0 || none i))

    -- what is taken of it, as it is opened
    taken_is : (is_taken : Bool) → takes ≡ is_taken
        → outcome_of (accepts room air before) (pdu_in got) slot (held_before_taking slot (header_in air) read)
        ≡ outcome_of (accepts room air before) (record { llid = (header_in air).llid; body = drop 2 pdu }) slot (held_before_taking slot (header_in air) read)
    taken_is true is =
        let same : body_if takes facts.encryption.end air ≡ drop 2 pdu =
        ap (λ b. body_if b facts.encryption.end air) is ∙ body is in
        λ i. outcome_of (accepts room air before) (record { llid = (header_in air).llid; body = same i }) slot
        (held_before_taking slot (header_in air) read)
    taken_is false is =
        let same : body_if takes facts.encryption.end air ≡ [] = ap (λ b. body_if b facts.encryption.end air) is in
        let no : (accepts room air before && not ((header_in air).llid == 0 || length (drop 2 pdu) == 0)) ≡ false =
        (λ i. accepts room air before && not ((header_in air).llid == 0 || sym none i))
        ∙ sym (only_new (is_new before.bits (header_in air)) _ _ (not ((header_in air).llid == 0 || length (drop 2 air) == 0))) ∙ is in
        (λ i. outcome_of (accepts room air before) (record { llid = (header_in air).llid; body = same i }) slot
        (held_before_taking slot (header_in air) read))
        ∙ untaken (accepts room air before) (header_in air).llid (drop 2 pdu) slot (held_before_taking slot (header_in air) read) no

    outcome_is : outcome_of (accepts room air before) (pdu_in got) slot (held_before_taking slot (header_in air) read)
        ≡ outcome_of accepted (pdu_of pdu) slot (held_of setup (counting (accepted && not (is_empty (pdu_of pdu))) now))
    outcome_is =
        taken_is takes refl
        ∙ ap (outcome_of (accepts room air before) (record { llid = (header_in air).llid; body = drop 2 pdu }) slot) before_is
        ∙ (λ i. outcome_of (accepted_is i) (record { llid = (header i).llid; body = drop 2 pdu }) slot
        (held_of setup (counting (takes_is i) (now_at (header i)))))

    now_agrees : Agrees setup now
    now_agrees = before_agrees setup slot (header_in pdu) facts agrees

    pub good_held : held_received slot (Some got) read ≡ held_of setup (facts_received role slot room (Some pdu) facts)
    good_held =
        ap (λ (o : Outcome). o.held) outcome_is ∙ taken_of setup accepted (pdu_of pdu) slot now now_agrees

    pub good_acked : acked_in (Some got) read ≡ acked_received (Some pdu) facts
    good_acked = λ i. acked_kind (acks before (header i)) before

    given_is : given_if (accepted && is_procedure_pdu (pdu_of pdu)) (pdu_of pdu) slot (held_of setup (counting (accepted && not (is_empty (pdu_of pdu))) now))
        ≡ given_of_facts (accepted && is_procedure_pdu (pdu_of pdu)) (pdu_of pdu) slot now
    given_is = given_counted setup (accepted && is_procedure_pdu (pdu_of pdu)) (accepted && not (is_empty (pdu_of pdu))) (pdu_of pdu) slot now

    pub good_given : given_in slot (Some got) read ≡ given_of_facts (accepted && is_procedure_pdu (pdu_of pdu)) (pdu_of pdu) slot now
    good_given = ap (λ (o : Outcome). o.given) outcome_is ∙ given_is

    pub good_notes : received_notes slot (Some got) read ≡ facts_notes setup slot room (Some pdu) facts
    good_notes =
        let taken = took_note_if (accepted && not (is_empty (pdu_of pdu))) setup.link.handle (numbered now.acknowledgement.accepted) (pdu_of pdu) in
        (λ i. done_notes setup.link.handle (good_acked i) ++ (outcome_is i).notes)
        ∙ ap (λ (g : TakenKeyed). done_notes setup.link.handle (acked_received (Some pdu) facts) ++ (taken ++ given_notes_of setup.link.handle g)) given_is

    pub good_kept : kept_in (Some got) read ≡ kept_from setup slot room (Some pdu) facts
    good_kept = ap (λ (o : Outcome). o.kept) outcome_is

    pub good_draws : draws_in slot (Some got) read ≡ draws_received role slot room (Some pdu) facts
    good_draws =
        ap (λ (o : Outcome). o.draws) outcome_is
        ∙ draws_counted setup (accepted && is_procedure_pdu (pdu_of pdu)) (accepted && not (is_empty (pdu_of pdu))) (pdu_of pdu) slot now now_agrees

-- ---- any octets

-- a piece of the host is acknowledged
abbrev facts_piece : Option (List ℕ) → Facts → Bool
facts_piece None facts = false
facts_piece (Some pdu) facts = has_acknowledged facts (header_in pdu) && is_data facts.acknowledgement.last

-- what an end takes of octets, with what it holds after they were read, is what they are by the facts: this good packet, or
-- a forged one
record Hears (setup : Setup) (facts : Facts) (slot : ℕ) (room : Bool) (got : Option Got) (read : Held) (good : Option (List ℕ)) (forged : Bool) : Type 0 where
  held : held_received slot got read ≡ held_of setup (facts_forged_if forged (facts_received setup.link.role slot room good facts))
  notes : received_notes slot got read ≡ facts_notes setup slot room good facts
  kept : kept_in got read ≡ kept_from setup slot room good facts
  taken : (given_in slot got read).taken ≡ given_received setup.link.role slot room good facts
  kept_taken : (given_in slot got read).kept ≡ kept_given_received setup.link.role slot room good facts
  draws : draws_in slot got read ≡ draws_received setup.link.role slot room good facts
  acked : acked_in got read ≡ acked_received good facts
  piece : acks_piece got read ≡ facts_piece good facts
  some : is_some got ≡ is_some good
  not_forged : is_some good ≡ true → forged ≡ false

not_taken : (accepted counts : Bool) → counts ≡ false → (accepted && counts) ≡ true → ⊥
not_taken true counts is taken = let no : ◌≡◌ {A = Bool} false true = sym is ∙ taken in absurd cc
not_taken false counts is taken = absurd cc

module _ (setup : Setup) (facts : Facts) (agrees : Agrees setup facts)
    (low : facts.acknowledgement.acked ≤ length facts.acknowledgement.sent)
    (high : length facts.acknowledgement.sent ≤ facts.acknowledgement.acked + 1) (slot : ℕ) (room : Bool) where
  abbrev own : Held
  own = held_of setup facts

  abbrev end : EncEnd
  end = facts.encryption.end

  forged_held : held_forged own ≡ held_of setup (record facts { control = ended_by_forgery facts.control })
  forged_held = by (is_none facts.control.ends)
    where
      by : (b : Bool)
          → (record own {
            control = (if b
                then record own.control { control = (if b then record own.control.control { ends = Some (record { 0 = mic_failure }) } else own.control.control) }
                else own.control);
          })
          ≡ held_of setup (record facts { control = (if b then ended (record { 0 = mic_failure }) facts.control else facts.control) })
      by true = refl
      by false = refl

  hears_none : Hears setup facts slot room None own None false
  hears_none =
      record {
        held = refl;
        notes = refl;
        kept = refl;
        taken = refl;
        kept_taken = refl;
        draws = refl;
        acked = refl;
        piece = refl;
        some = refl;
        not_forged = λ is. refl;
      }

  hears_forged : Hears setup facts slot room None (held_forged own) None true
  hears_forged =
      record {
        held = forged_held;
        notes = refl;
        kept = refl;
        taken = refl;
        kept_taken = refl;
        draws = refl;
        acked = refl;
        piece = refl;
        some = refl;
        not_forged = λ is. sym is;
      }

  -- these octets are opened to those
  hears_good : (air pdu : List ℕ) → header_in air ≡ header_in pdu → (length (drop 2 air) == 0) ≡ (length (drop 2 pdu) == 0)
      → (takes_body room air own ≡ true → opened_body end (drop 2 air) ≡ drop 2 pdu)
      → Hears setup facts slot room (Some (got_with air (accepts room air own) (body_if (takes_body room air own) end air)))
      (held_heard slot (header_in air).md (held_opened (takes_body room air own) own)) (Some pdu) false
  hears_good air pdu header none body =
      record {
        held = good_held setup facts agrees low high slot room air pdu header none body;
        notes = good_notes setup facts agrees low high slot room air pdu header none body;
        kept = good_kept setup facts agrees low high slot room air pdu header none body;
        taken = ap (λ (g : TakenKeyed). g.taken) (good_given setup facts agrees low high slot room air pdu header none body);
        kept_taken = ap (λ (g : TakenKeyed). g.kept) (good_given setup facts agrees low high slot room air pdu header none body);
        draws = good_draws setup facts agrees low high slot room air pdu header none body;
        acked = good_acked setup facts agrees low high slot room air pdu header none body;
        piece = λ i. acks own (header i) && is_data facts.acknowledgement.last;
        some = refl;
        not_forged = λ is. refl;
      }

  hears_whole : (air : List ℕ) → Hears setup facts slot room (got_of room air own) (held_read slot room (Some air) own) (pdu_read facts air)
      (is_forged_pdu facts air)
  hears_whole air = by (counts air own) (is_right end (first_octet air) (drop 2 air)) refl refl
    where
      got : Got
      got = got_with air (accepts room air own) (body_if (takes_body room air own) end air)

      by : (c r : Bool) → counts air own ≡ c → is_right end (first_octet air) (drop 2 air) ≡ r
          → Hears setup facts slot room (got_if (if c then r else true) got) (held_read_if (if c then r else true) slot (takes_body room air own) air own)
          (if c then opened_if r end air else Some air) (is_none (if c then opened_if r end air else Some air))
      by true false counts_is right = hears_forged
      by true true counts_is right =
          let some = some_octets (is_new own.bits (header_in air)) ((header_in air).llid == 0) (length (drop 2 air)) counts_is in
          let body = opened_body end (drop 2 air) in
          let same = body_opened air body some in
          let full = some_right end (first_octet air) (drop 2 air) some right in
          hears_good air (take 2 air ++ body) (sym (header_opened air body some))
          (zero_same (length (drop 2 air)) (length body) some full ∙ sym (ap (λ (b : List ℕ). length b == 0) same))
          (λ taken. sym same)
      by false r counts_is right =
          hears_good air air refl refl (λ taken. absurd (not_taken (accepts room air own) (counts air own) counts_is taken))

  hears : (whole : Option (List ℕ)) → Hears setup facts slot room (got_in room whole own) (held_read slot room whole own) (pdu_read_in facts whole)
      (is_forged_in facts whole)
  hears None = hears_none
  hears (Some air) = hears_whole air

-- ---- what the layer above is given

effect_is : (role : Role) (slot : ℕ) (room : Bool) (pdu : Option (List ℕ)) (facts : Facts)
    → effect_unless_known facts.lengths (given_received role slot room pdu facts).effect ≡ effect_received role slot room pdu facts
effect_is role slot room None facts = refl
effect_is role slot room (Some octets) facts = refl

kept_effect_is : (role : Role) (slot : ℕ) (room : Bool) (pdu : Option (List ℕ)) (facts : Facts)
    → effect_unless_known facts.lengths (kept_given_received role slot room pdu facts).effect ≡ kept_effect_received role slot room pdu facts
kept_effect_is role slot room None facts = refl
kept_effect_is role slot room (Some octets) facts = refl

replies_is : (role : Role) (setup : Setup) (facts : Facts) (forged : Bool) (pdu : Option (List ℕ)) → (is_some pdu ≡ true → forged ≡ false)
    → replies_to role (has_ended (held_of setup (facts_forged_if forged facts))) (is_some pdu) ≡ replies_by role (facts_have_ended facts) pdu
replies_is Central setup facts forged pdu good = refl
replies_is Peripheral setup facts forged None good = refl
replies_is Peripheral setup facts forged (Some octets) good =
    ap (λ (b : Bool). not (has_ended (held_of setup (facts_forged_if b facts)))) (good refl)

-- ---- the bank has the data

holds_taken : (takes : Bool) (handle : ℕ) (pdu : Pdu) (slot : ℕ) (bank : Bank) (facts : Facts) → HoldsData handle bank facts.outgoing
    → HoldsData handle bank (procedures_take_if takes pdu slot facts).outgoing
holds_taken true handle pdu slot bank facts holds = holds
holds_taken false handle pdu slot bank facts holds = holds

holds_data : (takes : Bool) (handle : ℕ) (bank : Bank) (facts : Facts) → HoldsData handle bank facts.outgoing
    → HoldsData handle bank (data_taken_if takes facts).outgoing
holds_data true handle bank facts holds = holds
holds_data false handle bank facts holds = holds

holds_forged : (forged : Bool) (handle : ℕ) (bank : Bank) (facts : Facts) → HoldsData handle bank facts.outgoing
    → HoldsData handle bank (facts_forged_if forged facts).outgoing
holds_forged true handle bank facts holds = holds
holds_forged false handle bank facts holds = holds

holds_received : (setup : Setup) (slot : ℕ) (room : Bool) (pdu : Option (List ℕ)) (facts : Facts) (before after : Bank)
    → IsAfterAck (facts_piece pdu facts) setup.link.handle before after → HoldsData setup.link.handle before facts.outgoing
    → HoldsData setup.link.handle after (facts_received setup.link.role slot room pdu facts).outgoing
holds_received setup slot room None facts before after ack holds = holds_acked false setup.link.handle before after facts.outgoing ack holds
holds_received setup slot room (Some octets) facts before after ack holds =
    let handle = setup.link.handle in
    let header = header_in octets in
    let pdu = pdu_of octets in
    let acked = has_acknowledged facts header in
    let own = acknowledged_if acked (heard_in_slot slot header.md facts) in
    let goes = facts_answer setup.link.role own in
    let now = control_gone_if goes slot own in
    let accepted = facts_accept room header pdu now in
    holds_data (accepted && is_data pdu) handle after (procedures_take_if (accepted && is_procedure_pdu pdu) pdu slot (accepted_if accepted pdu now))
    (holds_taken (accepted && is_procedure_pdu pdu) handle pdu slot after (accepted_if accepted pdu now)
    (holds_gone goes handle slot after own
    (holds_acked (acked && is_data facts.acknowledgement.last) handle before after facts.outgoing ack holds)))

-- ---- the call

module _ (setup : Setup) (held : Held) (past : List Step) (knows : Knows setup held past) (octets : List ℕ) (slot : ℕ) (room : Bool)
    (got : Option Got) (read : Held) (got_is : got ≡ got_in room (whole_by octets held) held)
    (read_is : read ≡ held_read slot room (whole_by octets held) held) where
  abbrev present : Facts
  present = facts_of setup past

  abbrev pdu : Option (List ℕ)
  pdu = good_pdu setup (facts_of setup past) octets

  abbrev forged : Bool
  forged = is_forged setup (facts_of setup past) octets

  here : held ≡ held_of setup present
  here = held_is setup held past knows

  hears_octets : Hears setup present slot room (got_in room (whole_by octets (held_of setup present)) (held_of setup present))
      (held_read slot room (whole_by octets (held_of setup present)) (held_of setup present)) pdu forged
  unfolding good_pdu is_forged whole_pdu
  hears_octets =
      let counts = past_counted setup past in
      hears setup present (past_agrees setup past) counts.0 counts.1 slot room (whole_by octets (held_of setup present))

  call : Hears setup present slot room got read pdu forged
  call =
      subst (λ (g : Option Got). Hears setup present slot room g read pdu forged)
      (sym (got_is ∙ (λ i. got_in room (whole_by octets (here i)) (here i))))
      (subst (λ (h : Held). Hears setup present slot room (got_in room (whole_by octets (held_of setup present)) (held_of setup present)) h pdu forged)
      (sym (read_is ∙ (λ i. held_read slot room (whole_by octets (here i)) (here i)))) hears_octets)

  pub heard : (new : Held) (before noted : List Note) → new ≡ held_received slot got read
      → noted ≡ before ++ received_notes slot got read → Goes setup new past (PacketReceived slot octets room) before noted
  heard new before noted is notes =
      record {
        knows = stepped setup new past (PacketReceived slot octets room) (is ∙ call.held);
        notes = notes ∙ ap (λ notes. before ++ notes) call.notes;
      }

  pub heard_kept : (before after : List (ℕ × Piece)) → after ≡ before ++ kept_in got read
      → after ≡ before ++ kept_of setup present slot octets room
  heard_kept before after is = is ∙ ap (λ kept. before ++ kept) call.kept

  pub heard_holds : (before after : Bank) → IsAfterAck (acks_piece got read) read.setup.link.handle before after
      → HoldsData setup.link.handle before present.outgoing
      → HoldsData setup.link.handle after (facts_of setup (past ++ PacketReceived slot octets room ∷ [])).outgoing
  heard_holds before after ack holds =
      let same : read.setup ≡ setup = read_setup slot room (whole_by octets held) held read read_is ∙ ap (λ (h : Held). h.setup) here in
      holds_after setup past (PacketReceived slot octets room) after
      (holds_forged forged setup.link.handle after (facts_received setup.link.role slot room pdu present)
      (holds_received setup slot room pdu present before after
      (subst (λ (b : Bool). IsAfterAck b setup.link.handle before after) call.piece
      (subst (λ (s : Setup). IsAfterAck (acks_piece got read) s.link.handle before after) same ack)) holds))

  module _ (given : TakenKeyed) (is : given ≡ given_in slot got read) where
    pub heard_given : given.taken ≡ given_of setup present slot octets room
    unfolding given_of
    heard_given = ap (λ (g : TakenKeyed). g.taken) is ∙ call.taken

    pub heard_kept_given : given.kept ≡ kept_given_of setup present slot octets room
    unfolding kept_given_of
    heard_kept_given = ap (λ (g : TakenKeyed). g.kept) is ∙ call.kept_taken

    pub heard_effect : (effect : Effect) → effect ≡ effect_unless_known held.lengths given.taken.effect
        → effect ≡ effect_of setup present slot octets room
    unfolding effect_of
    heard_effect effect shown =
        let path = ap (λ (g : TakenKeyed). g.taken) is ∙ call.taken in
        shown ∙ (λ i. effect_unless_known ((here i).lengths) ((path i).effect)) ∙ effect_is setup.link.role slot room pdu present

    pub heard_kept_effect : (effect : Effect) → effect ≡ effect_unless_known held.lengths given.kept.effect
        → effect ≡ kept_effect_of setup present slot octets room
    unfolding kept_effect_of
    heard_kept_effect effect shown =
        let path = ap (λ (g : TakenKeyed). g.kept) is ∙ call.kept_taken in
        shown ∙ (λ i. effect_unless_known ((here i).lengths) ((path i).effect)) ∙ kept_effect_is setup.link.role slot room pdu present

  pub heard_draws : (draws : Bool) → draws ≡ draws_in slot got read → draws ≡ draws_of setup present slot octets room
  unfolding draws_of
  heard_draws draws is = is ∙ call.draws

  pub heard_replies : (new : Held) (reply : Bool) → new ≡ held_received slot got read
      → reply ≡ replies_to new.setup.link.role (has_ended new) (is_some got) → reply ≡ replies_of setup present slot octets room
  unfolding replies_of
  heard_replies new reply is shown =
      let path = is ∙ call.held in
      let some = call.some in
      shown ∙ (λ i. replies_to ((path i).setup.link.role) (has_ended (path i)) (some i))
      ∙ replies_is setup.link.role setup (facts_received setup.link.role slot room pdu present) forged pdu call.not_forged

  pub heard_acked : (acked : Option Kind) → acked ≡ acked_in got read → acked ≡ acked_of setup present octets
  unfolding acked_of
  heard_acked acked is = is ∙ call.acked

-- ---- the verdict

none_right : (counts right : Bool) (end : EncEnd) (pdu : List ℕ)
    → not (if counts then right else true) ≡ is_none (if counts then opened_if right end pdu else Some pdu)
none_right true true end pdu = refl
none_right true false end pdu = refl
none_right false right end pdu = refl

verdict_same : (max_rx : ℕ) (opens : Bool) (one other : List ℕ → Bool) → ((pdu : List ℕ) → one pdu ≡ other pdu) → (heard : Heard)
    → verdict_by max_rx opens one heard ≡ verdict_by max_rx opens other heard
verdict_same max_rx opens one other same NotOurs = refl
verdict_same max_rx opens one other same Broken = refl
verdict_same max_rx opens one other same (Whole pdu) =
    ap (λ (forged : Bool). if has_room_for max_rx opens pdu.items then (if forged then Forged else Good) else broken) (same pdu.items)

pub judged : (setup : Setup) (held : Held) (past : List Step) (octets : List ℕ) (verdict : Verdict)
    → verdict ≡ verdict_by held.setup.link.max_rx (opens_now held.control.end) (λ pdu. not (right_if (counts pdu held) held.control.end pdu))
    (heard_in held.event.channel held.setup.link.fields.access held.setup.link.fields.crc_init octets)
    → Knows setup held past → verdict ≡ verdict_of setup (facts_of setup past) octets
unfolding verdict_of
judged setup held past octets verdict is knows =
    let facts = facts_of setup past in
    let end = facts.encryption.end in
    is ∙ ap (λ (h : Held). verdict_by h.setup.link.max_rx (opens_now h.control.end) (λ pdu. not (right_if (counts pdu h) h.control.end pdu))
    (heard_in h.event.channel h.setup.link.fields.access h.setup.link.fields.crc_init octets)) (held_is setup held past knows)
    ∙ verdict_same setup.link.max_rx (opens_now end) _ (is_forged_pdu facts)
    (λ pdu. none_right (counts pdu (held_of setup facts)) (is_right end (first_octet pdu) (drop 2 pdu)) end pdu)
    (heard_of setup facts octets)

-- A packet does not bring a request for a key and one that was kept for the host: only a peripheral is asked for a key, and
-- only a central keeps a PDU.
use Rattle.std.proofs.Common.{◌≡◌, ℕ, ◌==◌, ◌&&◌, ◌||◌, not, ◌⊎◌, inl, inr, Bool, true, false, List, ◌++◌, Option, Some, None, is_none, is_some, refl, ap, sym, subst, ◌∙◌, if◌then◌else◌}
use Rattle.ble_base.specs.declared.error_codes.ErrCode.{ErrCode}
use Rattle.ble_base.specs.declared.procedure_kinds.Kind.{Kind}
use Rattle.ble_base.specs.declared.procedure_kinds.Kind.TheVariants.{Phy, Request}
use Rattle.ble_base.specs.declared.roles.Role.{Role}
use Rattle.ble_base.specs.declared.roles.Role.TheVariants.{Central, Peripheral}
use Rattle.data_pdu.specs.Header.{header_in}
use Rattle.data_pdu.specs.declared.header.DataHeader.{DataHeader}
use Rattle.data_pdu.specs.declared.ctrl.Ctrl.{Ctrl}
use Rattle.data_pdu.specs.declared.ctrl.Ctrl.TheVariants.{ConnectionParamReq, EncReq, EncRsp, FeatureRsp, LengthRsp, PauseEncRsp, PeripheralFeatureReq, PhyReq, PhyRsp, RejectExtInd, RejectInd, StartEncReq, StartEncRsp, UnknownRsp}
use Rattle.data_pdu.specs.Reading.{opcode_of}
use Rattle.data_pdu.specs.declared.ctrl.CtrlRead.{CtrlRead}
use Rattle.data_pdu.specs.declared.ctrl.CtrlRead.TheVariants.{Bare, Known, Unknown}
use Rattle.exclusive_stages.specs.Awaited.{awaits_phy_rsp}
use Rattle.procedure_events.specs.procedure_stages.Awaited.{awaits_features, awaits_lengths}
use Rattle.procedure_events.specs.procedure_stages.Collisions.{collision}
use Rattle.procedure_events.specs.procedure_stages.Exclusive.{central_stage}
use Rattle.procedure_events.specs.procedure_stages.Foreign.{is_foreign}
use Rattle.procedure_events.specs.procedure_stages.Kinds.{kind_at_central, own_exchange, role_of}
use Rattle.procedure_events.specs.procedure_stages.Opcodes.{connection_param_req_opcode, first_opcode, is_opcode, later_opcode, phy_req_opcode}
use Rattle.procedure_events.specs.procedure_stages.Steps.{asks_host}
use Rattle.procedure_events.specs.procedure_stages.declared.stages.Central.{Central as CentralTable}
use Rattle.procedure_events.specs.procedure_stages.declared.stages.Progress.{Progress}
use Rattle.procedure_events.specs.procedure_stages.declared.stages.Progress.TheVariants.{Central as central, Peripheral as peripheral}
use Rattle.procedure_events.specs.procedure_stages.declared.steps.Step.{Step}
use Rattle.procedure_events.specs.procedure_stages.declared.steps.Effect.{Effect}
use Rattle.procedure_events.specs.procedure_stages.declared.steps.Effect.TheVariants.{Indicated, Lengths as new_lengths, Nothing}
use Rattle.controller_model.specs.open_links.procedure_values.Values.{are_valid}
use Rattle.procedure_events.specs.procedures.declared.outcome.Outcome.{Outcome}
use Rattle.procedure_events.specs.procedures.Outcomes.{unknown}
use Rattle.procedure_events.specs.procedures.Request.{against_central, collided}
use Rattle.procedure_events.specs.procedures.Table.{TableFacts}
use Rattle.procedure_events.specs.procedures.Taking.{facts_with, lacks_room, no_room, outcome_of, settled, taken_by, taken_by_central, taken_by_either, took_step}
use Rattle.link_model.specs.control_end.declared.answers.Taken.{Taken}
use Rattle.link_model.specs.control_end.Answers.{effect_shown, goes_on as held_goes_on, nothing_taken, step_shown, taken_of}
use Rattle.link_model.specs.control_end.Held.{Held, held_after}
use Rattle.link_model.specs.control_model.Control.{Takes as control_takes}
use Rattle.link_model.specs.keyed_control.Keyed.{Keyed, first_keyed}
use Rattle.link_model.specs.keyed_control.declared.material.Response.{Response}
use Rattle.link_model.specs.keyed_control.KeyedSteps.{KeyedStep, SeesAcknowledged, Sends, keyed_after_all, phased_steps}
use Rattle.link_model.specs.phased_control.Phased.{Phased}
use Rattle.link_model.specs.phased_end.Answers.{quiet_now}
use Rattle.link_model.specs.phased_end.Held.{HeldKeyed, held_of as keyed_held}
use Rattle.link_model.specs.phased_end.Moves.{lasts}
use Rattle.link_model.specs.phased_end.Taking.{does_keep, handed_answered, handed_keyed, handed_taken, handing, is_allowed, is_handed, is_refused, kept_taken, lacks_room as lacks_room_here, nothing_keyed, seen_as, taken_keyed}
use Rattle.link_model.specs.phased_end.declared.taking.TakenKeyed.{TakenKeyed}
use Rattle.link_model.specs.Acknowledgement.{Pdu}
use Rattle.link_model.specs.Controls.{goes_on, is_procedure_pdu, read_of}
use Rattle.link_model.specs.Facts.{Facts, keyed_of}
use Rattle.link_model.specs.KeyedSteps.{keyed_steps_of, step_if}
use Rattle.link_model.specs.Packets.{good_pdu}
use Rattle.link_model.specs.Receiving.{accepts, acknowledged_if, acks_control, answers_with_control, effect_of, effect_received, effect_unless_known, facts_before_taking, given_if, has_acknowledged, heard_in_slot, kept_effect_of, kept_effect_received, kept_given_if, procedures_answer, procedures_give}
use Rattle.link_model.specs.Setup.{Setup, first_anchor, first_params}
use Rattle.link_model.specs.Verdicts.{pdu_of}
use Rattle.link_model.specs.declared.state.KnownLengths.{KnownLengths}
use Rattle.link_model.proofs.KeyedPasts.{over, past_goes}
use Rattle.link_model.proofs.KeyedSteps.{acked, gone, joined, two}
use Rattle.link_model.proofs.KnownEnds.{IsPast}
use Rattle.link_model.proofs.phased_end.Rooms.{now_answered}
use Rattle.link_model.proofs.phased_end.keyed_control.Phases.{moves}
use Rattle.link_model.proofs.phased_end.keyed_control.phased_control.Kept.{Tied, tied_now}
use Rattle.controller_model.specs.open_links.OpenLinks.{OpenLink, facts_in}
use Rattle.known_ends.proofs.Refusals.{asks_key}

-- ---- a central is not asked for a key

record IsKeyless (o : Outcome) : Type 0 where
  keyless : asks_key o.step.effect ≡ false

plain : {o : Outcome} → asks_key o.step.effect ≡ false → IsKeyless o
plain is = record { keyless = is }

choice : (b : Bool) (one other : Outcome) → IsKeyless one → IsKeyless other → IsKeyless (if b then one else other)
choice true one other is also = is
choice false one other is also = also

module _ (f : TableFacts) where
  either : (ctrl : Ctrl) → IsKeyless (taken_by_either f ctrl)
  either (UnknownRsp opcode) = choice (is_opcode (first_opcode f.progress) opcode) _ _ (plain refl) (plain refl)
  either (FeatureRsp features) = choice (awaits_features (own_exchange f.progress)) _ _ (plain refl) (plain refl)
  either (RejectInd code) = choice (is_some (first_opcode f.progress)) _ _ (plain refl) (plain refl)
  either (RejectExtInd opcode code) =
      choice (is_opcode (first_opcode f.progress) opcode || is_opcode (later_opcode f.progress) opcode) _ _ (plain refl) (plain refl)
  either (LengthRsp rx rx_time tx tx_time) = choice (awaits_lengths (own_exchange f.progress)) _ _ (plain refl) (plain refl)
  either other = plain refl

  module _ (c : CentralTable) (quiet : Bool) where
    against : (kind : Kind) (opcode : ℕ) (other : Outcome) → IsKeyless other → IsKeyless (against_central f c kind opcode other)
    against kind opcode other is = by _ (collision (kind_at_central c.own) kind)
      where
        by : (answered : Bool) (code : Option ErrCode) → IsKeyless (collided f answered opcode code other)
        by answered None = is
        by answered (Some code) = choice answered _ _ (plain refl) (plain refl)

    -- LL_ENC_REQ has no meaning there
    meant : (ctrl : Ctrl) → is_foreign Central ctrl ≡ false → IsKeyless (taken_by_central f c quiet ctrl)
    meant (EncReq rand ediv skd_m iv_m) means = absurd cc
    meant (EncRsp skd_s iv_s) means = choice quiet _ _ (plain refl) (plain refl)
    meant StartEncReq means = choice quiet _ _ (plain refl) (plain refl)
    meant PauseEncRsp means = choice quiet _ _ (plain refl) (plain refl)
    meant StartEncRsp means = choice quiet _ _ (plain refl) (plain refl)
    meant (PeripheralFeatureReq features) means = plain refl
    meant (ConnectionParamReq min max latency timeout periodicity reference offsets) means =
        against Request connection_param_req_opcode _ (choice (are_valid min max latency timeout) _ _ (plain refl) (plain refl))
    meant (PhyReq tx rx) means = against Phy phy_req_opcode _ (plain refl)
    meant (PhyRsp tx rx) means = choice (awaits_phy_rsp (central_stage c.own)) _ _ (plain refl) (plain refl)
    meant other means = either other

    known : (ctrl : Ctrl) → IsKeyless (taken_by (central c) f quiet ctrl)
    known ctrl = by (is_foreign Central ctrl) refl
      where
        by : (foreign : Bool) → is_foreign Central ctrl ≡ foreign
            → IsKeyless (if foreign then unknown f (opcode_of ctrl) else taken_by_central f c quiet ctrl)
        by true is = plain refl
        by false is = meant ctrl is

  known_by : (progress : Progress) (quiet : Bool) (ctrl : Ctrl) → role_of progress ≡ Central → IsKeyless (taken_by progress f quiet ctrl)
  known_by (central c) quiet ctrl role = known c quiet ctrl
  known_by (peripheral p) quiet ctrl role = absurd (let h : Peripheral ≡ Central = role in absurd cc)

  outcome_keyless : (read : CtrlRead) (quiet : Bool) → role_of f.progress ≡ Central → IsKeyless (outcome_of f quiet read)
  outcome_keyless (Known ctrl) quiet role = known_by f.progress quiet ctrl role
  outcome_keyless (Unknown opcode) quiet role = plain refl
  outcome_keyless Bare quiet role = plain refl

step_keyless : (f : TableFacts) (slot : ℕ) (o : Outcome) → IsKeyless o → asks_key (settled f slot o).1.effect ≡ false
step_keyless f slot o is = by (lacks_room f o) (is_some o.step.ends)
  where
    by : (lacks ends : Bool)
        → let given : TableFacts × Step = (if lacks then (f, no_room) else (if ends then (f, o.step) else (facts_with f slot o, o.step))) in
        asks_key given.1.effect ≡ false
    by true ends = refl
    by false true = is.keyless
    by false false = is.keyless

shown_keyless : (effect : Effect) → asks_key effect ≡ false → asks_key (effect_shown effect) ≡ false
shown_keyless (Indicated indication) is = refl
shown_keyless other is = is

taken_keyless : (h : Held) (read : CtrlRead) (slot : ℕ) (quiet : Bool) → role_of h.table.progress ≡ Central
    → asks_key (taken_of read slot quiet h).effect ≡ false
taken_keyless h read slot quiet role = by (held_goes_on (held_after (control_takes read slot quiet) h))
  where
    by : (goes : Bool) → asks_key (if goes then step_shown (took_step h.table read slot quiet).1 else nothing_taken).effect ≡ false
    by true =
        shown_keyless (took_step h.table read slot quiet).1.effect
        (step_keyless h.table slot (outcome_of h.table quiet read) (outcome_keyless h.table read quiet role))
    by false = refl

-- ---- what is given of a PDU, and of one that was kept

module _ (slot : ℕ) (response : Response) (read : CtrlRead) (h : HeldKeyed) where
  -- nothing, once the end ended the link
  over_nothing : lasts h ≡ false → taken_keyed slot response read h ≡ nothing_keyed
  over_nothing is = by (lasts h) (is_allowed read h && (not (does_keep read h) && not (lacks_room_here read h))) is
    where
      by : (goes may : Bool) → goes ≡ false → (if goes && may then handed_keyed slot response read h else nothing_keyed) ≡ nothing_keyed
      by false may is = refl
      by true may is = absurd cc

  given_keyless : role_of h.control.table.progress ≡ Central → asks_key (taken_keyed slot response read h).taken.effect ≡ false
  given_keyless role = by (is_handed read h)
    where
      by : (handed : Bool) → asks_key (if handed then handed_keyed slot response read h else nothing_keyed).taken.effect ≡ false
      by true = taken_keyless h.control (seen_as read h) slot (quiet_now h) role
      by false = refl

  kept_nothing : h.kept ≡ None → (taken_keyed slot response read h).kept ≡ nothing_taken
  kept_nothing none = by (is_handed read h) (lasts (handing slot read h)) (quiet_now later)
    where
      later : HeldKeyed
      later = handed_answered slot response read h

      still : later.kept ≡ None
      still =
          now_answered (λ (c : Held) (kept : Option Ctrl). kept ≡ None) (λ ctrl c kept is. is)
          (is_refused (handed_taken slot read h).refused) response read (handing slot read h) none

      by : (handed goes quiet : Bool)
          → (if handed then record {
            taken = handed_taken slot read h;
            kept = (if goes then (if quiet then kept_taken slot later.kept later else nothing_taken) else nothing_taken);
          } else nothing_keyed).kept ≡ nothing_taken
      by true true true = ap (λ (kept : Option Ctrl). kept_taken slot kept later) still
      by true true false = refl
      by true false quiet = refl
      by false goes quiet = refl

-- ---- the end as it looks at a new PDU

module _ (setup : Setup) (facts : Facts) (p : IsPast setup facts) (slot : ℕ) (header : DataHeader) where
  abbrev role : Role
  role = setup.link.role

  abbrev own : Facts
  own = acknowledged_if (has_acknowledged facts header) (heard_in_slot slot header.md facts)

  abbrev now : Facts
  now = facts_before_taking role slot header facts

  abbrev first : Keyed
  first = first_keyed role setup.link.max_rx (first_params setup.link.fields) (first_anchor setup)

  abbrev sees : List KeyedStep
  sees = step_if (acks_control (has_acknowledged facts header) facts) SeesAcknowledged

  abbrev sends : List KeyedStep
  sends = step_if (answers_with_control role own) (Sends slot)

  now_is : keyed_of now ≡ keyed_after_all (sees ++ sends) (keyed_of facts)
  now_is =
      two sees sends (keyed_of facts) (keyed_of own) (keyed_of now)
      (acked (acks_control (has_acknowledged facts header) facts) (keyed_of facts)) (gone (answers_with_control role own) slot own)

  -- its role, and what it keeps, as long as it goes on
  tied : goes_on facts ≡ true → Tied role (keyed_of now).phased
  tied goes =
      let made = keyed_steps_of setup p.past in
      let so_far : keyed_of facts ≡ keyed_after_all made first =
      ap keyed_of p.is ∙ past_goes setup p.past (ap goes_on (sym p.is) ∙ goes) in
      subst (Tied role)
      (sym (ap (λ (k : Keyed). k.phased)
      (now_is ∙ ap (keyed_after_all (sees ++ sends)) so_far ∙ sym (joined made (sees ++ sends) first))
      ∙ moves role setup.link.max_rx (first_params setup.link.fields) (first_anchor setup) (made ++ (sees ++ sends))))
      (tied_now role setup.link.max_rx (first_params setup.link.fields) (first_anchor setup) (phased_steps (made ++ (sees ++ sends))))

  -- one that ended the link stays so
  over_now : goes_on facts ≡ false → goes_on now ≡ false
  over_now ended = by facts.control.ends refl ended
    where
      by : (ends : Option ErrCode) → facts.control.ends ≡ ends → is_none ends ≡ false → goes_on now ≡ false
      by None is ended = absurd cc
      by (Some code) is ended =
          ap (λ (k : Keyed). is_none k.phased.control.ends) now_is
          ∙ ap (λ (s : Phased). is_none s.control.ends) (over (sees ++ sends) (keyed_of facts) code is).phased
          ∙ ap (λ (e : Option ErrCode). is_none e) is

  apart_taken : (pdu : Pdu)
      → let given = procedures_answer pdu slot now in
      (asks_key given.taken.effect ≡ false) ⊎ (given.kept ≡ nothing_taken)
  apart_taken pdu = by (goes_on facts) refl
    where
      h : HeldKeyed
      h = keyed_held (keyed_of now)

      by_role : (r : Role) → role ≡ r → Tied role (keyed_of now).phased
          → let given = procedures_answer pdu slot now in
          (asks_key given.taken.effect ≡ false) ⊎ (given.kept ≡ nothing_taken)
      by_role Central is tied = inl (given_keyless slot now.encryption.response (read_of pdu) h (tied.is_role ∙ is))
      by_role Peripheral is tied = inr (kept_nothing slot now.encryption.response (read_of pdu) h (tied.none is))

      by : (goes : Bool) → goes_on facts ≡ goes
          → let given = procedures_answer pdu slot now in
          (asks_key given.taken.effect ≡ false) ⊎ (given.kept ≡ nothing_taken)
      by true goes = by_role role refl (tied goes)
      by false ended =
          inr (ap (λ (t : TakenKeyed). t.kept) (over_nothing slot now.encryption.response (read_of pdu) h (over_now ended)))

-- ---- what a packet brings

known_keyless : (lengths : KnownLengths) (effect : Effect) → asks_key effect ≡ false → asks_key (effect_unless_known lengths effect) ≡ false
known_keyless lengths (new_lengths rx tx) is = by ((rx == lengths.reported_rx) && (tx == lengths.reported_tx))
  where
    by : (known : Bool) → asks_key (if known then Nothing else new_lengths rx tx) ≡ false
    by true = refl
    by false = refl
known_keyless lengths other is = is

apart_by : (takes : Bool) (pdu : Pdu) (slot : ℕ) (now : Facts) (lengths : KnownLengths)
    → let given = procedures_answer pdu slot now in
    (asks_key given.taken.effect ≡ false) ⊎ (given.kept ≡ nothing_taken)
    → asks_host (effect_unless_known lengths (kept_given_if takes pdu slot now).effect) ≡ true
    → asks_key (effect_unless_known lengths (given_if takes pdu slot now).effect) ≡ false
apart_by false pdu slot now lengths apart asks = refl
apart_by true pdu slot now lengths (inl keyless) asks = known_keyless lengths (procedures_give pdu slot now).effect keyless
apart_by true pdu slot now lengths (inr nothing) asks =
    absurd (let h : true ≡ false = sym asks ∙ ap (λ (t : Taken). asks_host (effect_unless_known lengths t.effect)) nothing in absurd cc)

pub requests_apart : (link : OpenLink) (slot : ℕ) (room : Bool) (octets : List ℕ)
    → asks_host (kept_effect_of link.setup (facts_in link) slot octets room) ≡ true
    → asks_key (effect_of link.setup (facts_in link) slot octets room) ≡ false
unfolding kept_effect_of effect_of
requests_apart link slot room octets = by (good_pdu link.setup (facts_in link) octets)
  where
    role : Role
    role = link.setup.link.role

    by : (read : Option (List ℕ)) → asks_host (kept_effect_received role slot room read (facts_in link)) ≡ true
        → asks_key (effect_received role slot room read (facts_in link)) ≡ false
    by None asks = refl
    by (Some pdu) asks =
        let header = header_in pdu in
        let now = facts_before_taking role slot header (facts_in link) in
        apart_by (accepts room header (pdu_of pdu) now && is_procedure_pdu (pdu_of pdu)) (pdu_of pdu) slot now (facts_in link).lengths
        (apart_taken link.setup (facts_in link) (record { past = link.past; is = refl }) slot header (pdu_of pdu)) asks

-- Each step leaves at least 27 octets to each length that bounds what an end transmits, and the lengths in an effect
-- are at most that of a payload.
use Rattle.std.proofs.Common.{ℕ, ◌≤◌, Bool, true, false, ◌&&◌, ◌||◌, if◌then◌else◌, Option, Some, None, Result, Ok, Err, is_some, is_none, arith}
use Rattle.std.specs.Prelude.{⊤}
use Rattle.ble_base.specs.declared.error_codes.ErrCode.{ErrCode}
use Rattle.ble_base.specs.declared.procedure_kinds.Kind.{Kind}
use Rattle.ble_base.specs.declared.roles.Role.{Role}
use Rattle.ble_base.specs.declared.roles.Role.TheVariants.{Central as central_role, Peripheral as peripheral_role}
use Rattle.data_pdu.specs.Ranges.{IsInRange}
use Rattle.data_pdu.specs.Reading.{IfKnown}
use Rattle.data_pdu.specs.declared.ctrl.Ctrl.{Ctrl}
use Rattle.data_pdu.specs.declared.ctrl.Ctrl.TheVariants.{TerminateInd, UnknownRsp, FeatureRsp, VersionInd, RejectInd, RejectExtInd, LengthReq, LengthRsp, ConnectionUpdateInd, ChannelMapInd, EncReq, EncRsp, StartEncReq, StartEncRsp, FeatureReq, PauseEncReq, PauseEncRsp, PeripheralFeatureReq, ConnectionParamReq, PhyReq, PhyRsp, PhyUpdateInd}
use Rattle.data_pdu.specs.declared.ctrl.CtrlRead.{CtrlRead}
use Rattle.data_pdu.specs.declared.ctrl.CtrlRead.TheVariants.{Known, Unknown, Bare}
use Rattle.instants.specs.declared.indications.Indication.{Indication}
use Rattle.instants.specs.Track.{next_number}
use Rattle.exclusive_stages.specs.Awaited.{awaits_phy_ind, awaits_phy_rsp, central_answered, has_phy_of_central, peer_answered, reads_as_answer}
use Rattle.procedures.specs.procedure_values.declared.asks.Ask.{Ask}
use Rattle.procedures.specs.procedure_values.declared.asks.Ask.TheVariants.{Length as ask_length, Update as ask_update}
use Rattle.procedures.specs.procedure_values.Drafts.{is_out}
use Rattle.procedures.specs.procedure_values.Limits.{lengths_asked, rx_of, tx_of, with_peer}
use Rattle.procedures.specs.procedure_values.Values.{are_valid}
use Rattle.procedures.specs.procedure_values.Wants.{IsAsk}
use Rattle.procedures.specs.procedure_stages.declared.stages.Ahead.{Ahead}
use Rattle.procedures.specs.procedure_stages.declared.stages.Ahead.TheVariants.{Nothing, Update as update_ahead, Map as map_ahead}
use Rattle.procedures.specs.procedure_stages.declared.stages.Central.{Central}
use Rattle.procedures.specs.procedure_stages.declared.stages.Peripheral.{Peripheral}
use Rattle.procedures.specs.procedure_stages.declared.stages.Progress.{Progress}
use Rattle.procedures.specs.procedure_stages.declared.stages.Progress.TheVariants.{Central as central, Peripheral as peripheral}
use Rattle.procedures.specs.procedure_stages.declared.steps.Effect.{Effect}
use Rattle.procedures.specs.procedure_stages.declared.steps.Effect.TheVariants.{Indicated as indicated, Lengths as effective}
use Rattle.procedures.specs.procedure_stages.declared.steps.Step.{Step as TableStep}
use Rattle.procedures.specs.procedure_stages.Awaited.{awaits_features, awaits_lengths, is_own_encryption}
use Rattle.procedures.specs.procedure_stages.Closing.{is_open}
use Rattle.procedures.specs.procedure_stages.Collisions.{collision}
use Rattle.procedures.specs.procedure_stages.Exclusive.{central_stage, peripheral_stage}
use Rattle.procedures.specs.procedure_stages.Foreign.{is_foreign}
use Rattle.procedures.specs.procedure_stages.InProgress.{is_host_asked}
use Rattle.procedures.specs.procedure_stages.Kinds.{kind_at_central, kind_at_peripheral, own_exchange, role_of}
use Rattle.procedures.specs.procedure_stages.Opcodes.{first_opcode, is_opcode, later_opcode}
use Rattle.procedures.specs.declared.outcome.Outcome.{Outcome}
use Rattle.procedures.specs.Beginning.{ask_at, begin_at, place_to_begin}
use Rattle.procedures.specs.Going.{entered_step, host_answer_step, is_answer}
use Rattle.procedures.specs.Request.{after_grant, against_central, collided, outlived}
use Rattle.procedures.specs.Table.{TableFacts}
use Rattle.procedures.specs.Taking.{facts_with, lacks_room, no_room, outcome_of, taken_by_central, taken_by_either, taken_by_peripheral, taken_by_role, took_step}
use Rattle.procedures.specs.Update.{follow}
use Rattle.control_part.specs.control_end.control_model.Control.{Control, Step, Answers, Asks, Disconnects, Enters, Owes, SeesAcknowledged, Sends, Takes, after, following, goes_out, indicated_by, is_to_come, moved, table_if, taken, went}
use Rattle.control_part.specs.control_end.Answers.{effect_shown, goes_on, nothing_taken, step_shown, taken_of}
use Rattle.control_part.specs.control_end.Held.{Held, held_after}
use Rattle.phased_end.specs.Lengths.{HasLengths, HasPayloadLengths}

-- a step with what the host asks and what was read in their ranges
abbrev pub IsFine : Step → Type 0
IsFine (Asks ask) = IsAsk ask
IsFine (Takes read slot quiet) = IfKnown read IsInRange
IsFine other = ⊤

abbrev Gives : Outcome → Type 0
Gives o = HasLengths o.lengths × HasPayloadLengths o.step.effect

choice : (b : Bool) (x y : Outcome) → Gives x → Gives y → Gives (if b then x else y)
choice true x y hx hy = hx
choice false x y hx hy = hy

choice_of_lengths : (b : Bool) (x y : Outcome) → HasLengths x.lengths → HasLengths y.lengths → HasLengths (if b then x else y).lengths
choice_of_lengths true x y hx hy = hx
choice_of_lengths false x y hx hy = hy

-- ---- a control PDU of the peer is taken

module _ (f : TableFacts) (has : HasLengths f.lengths) where
  -- the lengths stay, and the effect has none
  kept : HasLengths f.lengths × ⊤
  kept = (has, tt)

  -- the limits of the peer are these, and the effect has the effective lengths
  abbrev Changes : ℕ → ℕ → Type 0
  Changes rx tx = HasLengths (with_peer f.lengths rx tx) × HasPayloadLengths (effective (rx_of (with_peer f.lengths rx tx)) (tx_of (with_peer f.lengths rx tx)))

  changes : (rx tx : ℕ) → 27 ≤ rx → Changes rx tx
  changes rx tx from =
      (record { own = has.own; peer = from; own_to = has.own_to; own_rx_to = has.own_rx_to }, (omega (arith, has.own_rx_to), omega (arith, has.own_to)))

  either : (ctrl : Ctrl) → IsInRange ctrl → Gives (taken_by_either f ctrl)
  either (TerminateInd code) range = kept
  either (UnknownRsp opcode) range = choice (is_opcode (first_opcode f.progress) opcode) _ _ kept kept
  either (FeatureRsp features) range = choice (awaits_features (own_exchange f.progress)) _ _ kept kept
  either (VersionInd version company sub) range = kept
  either (RejectInd code) range = choice (is_some (first_opcode f.progress)) _ _ kept kept
  either (RejectExtInd opcode code) range =
      choice (is_opcode (first_opcode f.progress) opcode || is_opcode (later_opcode f.progress) opcode) _ _ kept kept
  either (LengthReq rx rx_time tx tx_time) range = changes rx tx range.rx_octets_from
  either (LengthRsp rx rx_time tx tx_time) range =
      choice (awaits_lengths (own_exchange f.progress)) _ _ (changes rx tx range.rx_octets_from) kept
  either other range = kept

  against : (c : Central) (kind : Kind) (opcode : ℕ) (other : Outcome) → Gives other → Gives (against_central f c kind opcode other)
  against c kind opcode other gives = by (collision (kind_at_central c.own) kind)
    where
      by : (code : Option ErrCode) → Gives (collided f (peer_answered (central_stage c.own)) opcode code other)
      by None = gives
      by (Some code) = choice (peer_answered (central_stage c.own)) _ _ kept kept

  at_central : (c : Central) (quiet : Bool) (ctrl : Ctrl) → IsInRange ctrl → Gives (taken_by_central f c quiet ctrl)
  at_central c quiet (EncRsp skd_s iv_s) range = choice quiet _ _ kept kept
  at_central c quiet StartEncReq range = choice quiet _ _ kept kept
  at_central c quiet PauseEncRsp range = choice quiet _ _ kept kept
  at_central c true StartEncRsp range = kept
  at_central c false StartEncRsp range = (choice_of_lengths (is_own_encryption c.own) _ _ has has, tt)
  at_central c quiet (PeripheralFeatureReq features) range = kept
  at_central c quiet (ConnectionParamReq min max latency timeout periodicity reference offsets) range =
      against c _ _ _ (choice (are_valid min max latency timeout) _ _ kept kept)
  at_central c quiet (PhyReq tx rx) range = against c _ _ _ kept
  at_central c quiet (PhyRsp tx rx) range = choice (awaits_phy_rsp (central_stage c.own)) _ _ kept kept
  at_central c quiet other range = either other range

  follows : (ahead new : Ahead) (o : Outcome) → Gives o → Gives (follow f ahead new o)
  follows Nothing new o gives = gives
  follows update_ahead new o gives = kept
  follows map_ahead new o gives = kept

  granting : (p : Peripheral) (kind : Kind) (o : Outcome) → Gives o → Gives (after_grant f p kind o)
  granting p kind o gives =
      choice (central_answered (peripheral_stage p.own)) _ _ (by (collision (kind_at_peripheral p.own) kind)) gives
    where
      by : (code : Option ErrCode) → Gives (outlived f code o)
      by None = gives
      by (Some code) = kept

  at_peripheral : (p : Peripheral) (quiet : Bool) (ctrl : Ctrl) → IsInRange ctrl → Gives (taken_by_peripheral f p quiet ctrl)
  at_peripheral p quiet (ConnectionUpdateInd win_size win_offset interval latency timeout instant) range =
      follows p.ahead update_ahead _ (choice (reads_as_answer (peripheral_stage p.own)) _ _ kept kept)
  at_peripheral p quiet (ChannelMapInd map instant) range = granting p _ _ (follows p.ahead map_ahead _ kept)
  at_peripheral p quiet (EncReq rand ediv skd_m iv_m) range = kept
  at_peripheral p quiet PauseEncReq range = kept
  at_peripheral p quiet PauseEncRsp range = choice quiet _ _ kept kept
  at_peripheral p quiet StartEncRsp range = choice quiet _ _ kept kept
  at_peripheral p quiet (FeatureReq features) range = kept
  at_peripheral p quiet (PhyReq tx rx) range = granting p _ _ kept
  at_peripheral p quiet (PhyUpdateInd to_peripheral to_central instant) range =
      choice (has_phy_of_central p.peer) _ _ kept (choice (awaits_phy_ind (peripheral_stage p.own)) _ _ kept kept)
  at_peripheral p quiet other range = either other range

  by_role : (p : Progress) (quiet : Bool) (ctrl : Ctrl) → IsInRange ctrl → Gives (taken_by_role p f quiet ctrl)
  by_role (central c) quiet ctrl range = at_central c quiet ctrl range
  by_role (peripheral p) quiet ctrl range = at_peripheral p quiet ctrl range

  by_read : (quiet : Bool) (read : CtrlRead) → IfKnown read IsInRange → Gives (outcome_of f quiet read)
  by_read quiet (Known ctrl) range = choice (is_foreign (role_of f.progress) ctrl) _ _ kept (by_role f.progress quiet ctrl range)
  by_read quiet (Unknown opcode) range = kept
  by_read quiet Bare range = kept

  abbrev settled_as : Bool → Bool → TableFacts → TableStep → TableStep → TableFacts × TableStep
  settled_as full ends g x y = (if full then (f, x) else (if ends then (f, y) else (g, y)))

  settles : (full ends : Bool) (g : TableFacts) (x y : TableStep) → HasLengths g.lengths → HasLengths (settled_as full ends g x y).0.lengths
  settles true ends g x y next = has
  settles false true g x y next = has
  settles false false g x y next = next

  takes : (read : CtrlRead) (slot : ℕ) (quiet : Bool) → IfKnown read IsInRange → HasLengths (took_step f read slot quiet).0.lengths
  takes read slot quiet range =
      let o = outcome_of f quiet read in
      settles (lacks_room f o) (is_some o.step.ends) _ _ _ (by_read quiet read range).0

  settles_effect : (full ends : Bool) (g : TableFacts) (x y : TableStep) → HasPayloadLengths x.effect → HasPayloadLengths y.effect
      → HasPayloadLengths (settled_as full ends g x y).1.effect
  settles_effect true ends g x y one other = one
  settles_effect false true g x y one other = other
  settles_effect false false g x y one other = other

  gives_lengths : (read : CtrlRead) (slot : ℕ) (quiet : Bool) → IfKnown read IsInRange → HasPayloadLengths (took_step f read slot quiet).1.effect
  gives_lengths read slot quiet range =
      let o = outcome_of f quiet read in
      settles_effect (lacks_room f o) (is_some o.step.ends) (facts_with f slot o) no_room o.step tt (by_read quiet read range).1

  -- ---- the other calls on the table

  asks : (ask : Ask) → IsAsk ask → HasLengths (lengths_asked ask f.lengths)
  asks (ask_length tx) is = record { own = is.from; peer = has.peer; own_to = is.to; own_rx_to = has.own_rx_to }
  asks other is = has

  begins_at : (slot : ℕ) (place : Option ℕ) (ask : Option Ask) → HasLengths (begin_at f slot place ask).0.lengths
  begins_at slot (Some place) (Some ask) = has
  begins_at slot (Some place) None = has
  begins_at slot None ask = has

  enters : (applied : Bool) → HasLengths (entered_step f applied).0.lengths
  enters true = has
  enters false = has

  answers : (answer : Result Ask ErrCode) → HasLengths (host_answer_step f answer).lengths
  answers (Ok (ask_update interval latency timeout)) = has
  answers (Ok other) = has
  answers (Err code) = has

-- ---- each step

abbrev Fine : Control → Type 0
Fine c = HasLengths c.table.lengths

fine_if : (b : Bool) (g : TableFacts) (c : Control) → HasLengths g.lengths → Fine c → Fine (table_if b g c)
fine_if true g c next now = next
fine_if false g c next now = now

fine_choice : (b : Bool) (c d : Control) → Fine c → Fine d → Fine (if b then c else d)
fine_choice true c d one other = one
fine_choice false c d one other = other

fine_following : (role : Role) (indication : Option Indication) (c : Control) → Fine c → Fine (following role indication c)
fine_following central_role None c now = now
fine_following central_role (Some indication) c now = now
fine_following peripheral_role indication c now = now

fine_taken : (g : TableFacts) (code : Option ErrCode) (indication : Option Indication) (c : Control) → HasLengths g.lengths → Fine c
    → Fine (taken g code indication c)
fine_taken g (Some code) indication c next now = now
fine_taken g None None c next now = next
fine_taken g None (Some indication) c next now = fine_choice (is_to_come c.track indication) _ _ next now

fine_moved : (step : Step) (c : Control) → IsFine step → Fine c → Fine (moved step c)
fine_moved (Enters slot quiet) c may now =
    let g = (entered_step c.table (is_some (next_number c.track))).0 in
    begins_at g (enters c.table now (is_some (next_number c.track))) slot (place_to_begin g quiet) (ask_at (place_to_begin g quiet) g.wanted)
fine_moved (Asks ask) c may now = asks c.table now ask may
fine_moved (Answers answer) c may now =
    fine_if (is_host_asked c.table.progress && is_answer answer) _ c (answers c.table now answer) now
fine_moved (Disconnects reason) c may now = fine_if (is_open c.table.closing) _ c now now
fine_moved (Sends slot quiet) c may now =
    fine_choice (goes_out quiet c) _ _
    (fine_following (role_of c.table.progress) (went slot quiet c).1 (record c { table = (went slot quiet c).0 }) now) now
fine_moved SeesAcknowledged c may now = fine_if (is_out c.table.out) _ c now now
fine_moved (Takes read slot quiet) c may now =
    let step = took_step c.table read slot quiet in
    fine_taken step.0 step.1.ends (indicated_by step.1.effect) c (takes c.table now read slot quiet may) now
fine_moved (Owes ctrl) c may now = now

pub lengths_after : (step : Step) (c : Control) → IsFine step → HasLengths c.table.lengths → HasLengths (after step c).table.lengths
lengths_after step c may now = fine_choice (is_none c.ends) _ _ (fine_moved step c may now) now

-- ---- the effect of a control PDU that is taken

shown_lengths : (effect : Effect) → HasPayloadLengths effect → HasPayloadLengths (effect_shown effect)
shown_lengths (indicated indication) fit = tt
shown_lengths other fit = fit

taken_if_lengths : (goes : Bool) (step : TableStep) → HasPayloadLengths step.effect → HasPayloadLengths (if goes then step_shown step else nothing_taken).effect
taken_if_lengths true step fit = shown_lengths step.effect fit
taken_if_lengths false step fit = tt

pub taken_lengths : (read : CtrlRead) (slot : ℕ) (quiet : Bool) (h : Held) → IfKnown read IsInRange → HasLengths h.table.lengths
    → HasPayloadLengths (taken_of read slot quiet h).effect
taken_lengths read slot quiet h range has =
    taken_if_lengths (goes_on (held_after (Takes read slot quiet) h)) (took_step h.table read slot quiet).1
    (gives_lengths h.table has read slot quiet range)

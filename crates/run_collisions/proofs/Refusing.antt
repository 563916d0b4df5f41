-- What the table of a peripheral does as it takes the rejection of its procedure, and what is noted then.
use Rattle.std.proofs.Common.{◌≡◌, ℕ, ◌&&◌, Bool, true, false, List, [], ◌∷◌, ◌++◌, Option, Some, None, is_none, refl, sym, ap, ◌∙◌, subst, if◌then◌else◌}
use Rattle.std.specs.Prelude.{nat_le}
use Rattle.ble_base.specs.declared.error_codes.ErrCode.{ErrCode}
use Rattle.ble_base.specs.declared.notes.Note.{Note}
use Rattle.ble_base.specs.declared.notes.Note.TheVariants.{Done, Refused, Took}
use Rattle.ble_base.specs.declared.procedure_kinds.Kind.{Kind}
use Rattle.data_pdu.specs.declared.ctrl.Ctrl.TheVariants.{RejectExtInd}
use Rattle.data_pdu.specs.declared.ctrl.CtrlRead.{CtrlRead}
use Rattle.data_pdu.specs.declared.ctrl.CtrlRead.TheVariants.{Known}
use Rattle.exclusive_stages.specs.declared.pdus.Exclusive.{Exclusive}
use Rattle.exclusive_stages.specs.declared.pdus.Exclusive.TheVariants.{Phy, Request}
use Rattle.exclusive_stages.specs.declared.stages.PeripheralStage.TheVariants.{Idle, PhySent, RequestAcknowledged, RequestSent}
use Rattle.exclusive_stages.specs.Kinds.{kind_of, peripheral_kind}
use Rattle.collisions.specs.PeripheralTable.{is_phy_sent, is_requesting}
use Rattle.collision_steps.specs.PeripheralPart.{peripheral_of}
use Rattle.link_pairs.specs.control_end.Answers.{nothing_taken, step_shown, taken_of}
use Rattle.link_pairs.specs.control_end.Held.{control_of, held_of}
use Rattle.link_pairs.specs.link_model.Entering.{done_notes}
use Rattle.link_pairs.specs.control_model.Control.{Control, Takes, after, indicated_by, taken}
use Rattle.link_pairs.specs.procedures.Outcomes.{empty_step}
use Rattle.link_pairs.specs.procedures.Table.{TableFacts}
use Rattle.link_pairs.specs.procedures.Taking.{facts_with, no_room, outcome_of, took_step}
use Rattle.link_pairs.specs.procedure_stages.declared.stages.OwnPeripheral.{OwnPeripheral}
use Rattle.link_pairs.specs.procedure_stages.declared.stages.OwnPeripheral.TheVariants.{Exchange, Exclusive as exclusive}
use Rattle.link_pairs.specs.procedure_stages.declared.stages.Peripheral.{Peripheral}
use Rattle.link_pairs.specs.procedure_stages.declared.stages.Progress.{Progress}
use Rattle.link_pairs.specs.procedure_stages.declared.stages.Progress.TheVariants.{Central as central, Peripheral as peripheral}
use Rattle.link_pairs.specs.procedure_stages.declared.steps.Effect.TheVariants.{Nothing}
use Rattle.link_pairs.specs.procedure_stages.declared.steps.Step.{Step}
use Rattle.link_pairs.specs.procedure_stages.Closing.{is_open}
use Rattle.link_pairs.specs.procedure_stages.Opcodes.{opcode_of_kind}
use Rattle.link_pairs.specs.procedure_stages.Queue.{waiting_in}

-- the rejection of q with this error, as it is read
abbrev pub rejection_read : Exclusive → ErrCode → CtrlRead
rejection_read q code = Known (RejectExtInd (opcode_of_kind q) code.0)

abbrev pub refusal_step : Exclusive → ErrCode → Step
refusal_step q code = record empty_step { refused = Some (kind_of q, code) }

-- the table has q in progress, and a rejection of it ends it
pub record Refuses (f : TableFacts) (q : Exclusive) (code : ErrCode) (slot : ℕ) : Type 0 where
  pub runs : peripheral_kind (peripheral_of f).own ≡ Some q
  pub table : TableFacts
  pub took : took_step f (rejection_read q code) slot true ≡ (table, refusal_step q code)
  pub over : (peripheral_of table).own ≡ Idle

-- there is room, since nothing is answered
in_room : {X : Type 0} (fills : Bool) (one other : X) → (if fills && false then one else other) ≡ other
in_room true one other = refl
in_room false one other = refl

module _ (code : ErrCode) (slot : ℕ) (f : TableFacts) where
  abbrev with_own : OwnPeripheral → Peripheral → TableFacts
  with_own own p = record f { progress = peripheral (record p { own = own }) }

  abbrev fills : Bool
  fills = is_open f.closing && nat_le 16 (waiting_in f.queue)

  abbrev table_after : OwnPeripheral → Exclusive → Peripheral → TableFacts
  table_after own q p = facts_with (with_own own p) slot (outcome_of (with_own own p) true (rejection_read q code))

  request_by : (own : OwnPeripheral) (p : Peripheral) → is_requesting (peripheral_of (with_own own p)).own ≡ true → Refuses (with_own own p) Request code slot
  request_by (exclusive RequestSent) p is =
      record {
        runs = refl;
        table = table_after (exclusive RequestSent) Request p;
        took = in_room fills (with_own (exclusive RequestSent) p, no_room) (table_after (exclusive RequestSent) Request p, refusal_step Request code);
        over = refl;
      }
  request_by (exclusive RequestAcknowledged) p is =
      record {
        runs = refl;
        table = table_after (exclusive RequestAcknowledged) Request p;
        took =
            in_room fills (with_own (exclusive RequestAcknowledged) p, no_room)
            (table_after (exclusive RequestAcknowledged) Request p, refusal_step Request code);
        over = refl;
      }
  request_by (exclusive stage) p is = absurd (cc)
  request_by (Exchange stage) p is = absurd (cc)

  phy_by : (own : OwnPeripheral) (p : Peripheral) → is_phy_sent (peripheral_of (with_own own p)).own ≡ true → Refuses (with_own own p) Phy code slot
  phy_by (exclusive PhySent) p is =
      record {
        runs = refl;
        table = table_after (exclusive PhySent) Phy p;
        took = in_room fills (with_own (exclusive PhySent) p, no_room) (table_after (exclusive PhySent) Phy p, refusal_step Phy code);
        over = refl;
      }
  phy_by (exclusive stage) p is = absurd (cc)
  phy_by (Exchange stage) p is = absurd (cc)

  request_in : (progress : Progress) → f.progress ≡ progress → is_requesting (peripheral_of f).own ≡ true → Refuses f Request code slot
  request_in (central x) same is =
      absurd (let no : is_requesting (peripheral_of (record f { progress = central x })).own ≡ true =
      subst (λ (g : Progress). is_requesting (peripheral_of (record f { progress = g })).own ≡ true) same is in cc)
  request_in (peripheral x) same is =
      subst (λ (g : Progress). Refuses (record f { progress = g }) Request code slot) (sym same)
      (request_by x.own x (subst (λ (g : Progress). is_requesting (peripheral_of (record f { progress = g })).own ≡ true) same is))

  phy_in : (progress : Progress) → f.progress ≡ progress → is_phy_sent (peripheral_of f).own ≡ true → Refuses f Phy code slot
  phy_in (central x) same is =
      absurd (let no : is_phy_sent (peripheral_of (record f { progress = central x })).own ≡ true =
      subst (λ (g : Progress). is_phy_sent (peripheral_of (record f { progress = g })).own ≡ true) same is in cc)
  phy_in (peripheral x) same is =
      subst (λ (g : Progress). Refuses (record f { progress = g }) Phy code slot) (sym same)
      (phy_by x.own x (subst (λ (g : Progress). is_phy_sent (peripheral_of (record f { progress = g })).own ≡ true) same is))

  pub request_refused : is_requesting (peripheral_of f).own ≡ true → Refuses f Request code slot
  request_refused is = request_in f.progress refl is

  pub phy_refused : is_phy_sent (peripheral_of f).own ≡ true → Refuses f Phy code slot
  phy_refused is = phy_in f.progress refl is

-- ---- the control part then, and what is given

module _ (q : Exclusive) (code : ErrCode) (slot : ℕ) (k : Control) (lasts : k.ends ≡ None) (refuses : Refuses k.table q code slot) where
  abbrev read : CtrlRead
  read = rejection_read q code

  pub control_after : after (Takes read slot true) k ≡ record k { table = refuses.table }
  control_after =
      λ i. if is_none (lasts i) then taken (refuses.took i).0 (refuses.took i).1.ends (indicated_by (refuses.took i).1.effect) k else k

  pub given : taken_of read slot true (held_of k) ≡ record { effect = Nothing; refused = Some (kind_of q, code); done = None }
  given =
      (λ i. if is_none ((if is_none (lasts i)
      then taken (refuses.took i).0 (refuses.took i).1.ends (indicated_by (refuses.took i).1.effect) (control_of (held_of k))
      else control_of (held_of k)).ends)
      then step_shown (refuses.took i).1 else nothing_taken)
      ∙ ap (λ (o : Option ErrCode). if is_none o then step_shown (refusal_step q code) else nothing_taken) lasts

-- ---- what is noted after the note that a PDU is taken

tail_is : (first note : Note) (rest later : List Note) → first ∷ rest ≡ note ∷ later → rest ≡ later
tail_is first note rest later is = cc

no_took : (handle : ℕ) (kind : Kind) (code : ErrCode) (earlier later : List Note) (named number llid : ℕ) (body : List ℕ)
    → Refused handle kind code ∷ [] ≡ earlier ++ Took named number llid (record { items = body }) ∷ later → ⊥
no_took handle kind code [] later named number llid body is = absurd (cc)
no_took handle kind code (note ∷ []) later named number llid body is = absurd (cc)
no_took handle kind code (note ∷ more ∷ earlier) later named number llid body is = absurd (cc)

module _ (handle : ℕ) (kind : Kind) (code : ErrCode) (number llid : ℕ) (body : List ℕ) (later : List Note) (named other two_bits : ℕ) (octets : List ℕ) where
  abbrev refusal : List Note
  refusal = Refused handle kind code ∷ []

  abbrev took : Note
  took = Took handle number llid (record { items = body })

  abbrev note : Note
  note = Took named other two_bits (record { items = octets })

  after_took : (earlier : List Note) → took ∷ refusal ≡ earlier ++ note ∷ later → later ≡ refusal
  after_took [] is = sym (tail_is took note refusal later is)
  after_took (first ∷ earlier) is =
      absurd (no_took handle kind code earlier later named other two_bits octets (tail_is took first refusal (earlier ++ note ∷ later) is))

  pub refused_after : (done : Option Kind) (earlier : List Note) → done_notes handle done ++ took ∷ refusal ≡ earlier ++ note ∷ later → later ≡ refusal
  refused_after None earlier is = after_took earlier is
  refused_after (Some over) [] is = absurd (cc)
  refused_after (Some over) (first ∷ earlier) is = after_took earlier (tail_is (Done handle over) first (took ∷ refusal) (earlier ++ note ∷ later) is)

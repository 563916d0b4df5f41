-- An acknowledgement that completes no procedure leaves the own procedure of a central as it is.
use Rattle.std.proofs.Common.{◌≡◌, ℕ, ◌&&◌, Bool, true, false, List, ◌∷◌, ◌++◌, Option, Some, None, is_none, refl, ap, ◌∙◌, if◌then◌else◌}
use Rattle.std.specs.Prelude.{option_map}
use Rattle.ble_base.specs.declared.notes.Note.{Note}
use Rattle.ble_base.specs.declared.notes.Note.TheVariants.{Took}
use Rattle.ble_base.specs.declared.procedure_kinds.Kind.{Kind}
use Rattle.ble_base.specs.declared.roles.Role.{Role}
use Rattle.ble_base.specs.declared.roles.Role.TheVariants.{Central}
use Rattle.data_pdu.specs.declared.ctrl.Ctrl.{Ctrl}
use Rattle.data_pdu.specs.Header.{header_in}
use Rattle.exclusive_stages.specs.declared.pdus.Pdu.{Pdu}
use Rattle.exclusive_stages.specs.declared.pdus.Pdu.TheVariants.{PhyInd}
use Rattle.exclusive_stages.specs.declared.stages.CentralStage.{CentralStage}
use Rattle.exclusive_stages.specs.declared.stages.CentralStage.TheVariants.{Idle, MapSent, MapUnsent, PhyAnswered, PhyIndicated, PhySent, PhyUnsent, UpdateSent, UpdateUnsent}
use Rattle.exclusive_stages.specs.Acked.{done_by_ack_at_central, own_acked_at_central}
use Rattle.exclusive_stages.specs.Kinds.{kind_of}
use Rattle.collision_steps.specs.CentralPart.{central_of}
use Rattle.link_pairs.specs.control_model.Control.{Control, Owes, SeesAcknowledged, after, table_if}
use Rattle.link_pairs.specs.procedures.Encryption.{is_rejection}
use Rattle.link_pairs.specs.procedures.Going.{owe_step}
use Rattle.link_pairs.specs.procedures.Sending.{acked_step}
use Rattle.link_pairs.specs.procedures.Table.{TableFacts}
use Rattle.link_pairs.specs.procedure_stages.declared.stages.Central.{Central as CentralProgress}
use Rattle.link_pairs.specs.procedure_stages.declared.stages.OwnCentral.{OwnCentral}
use Rattle.link_pairs.specs.procedure_stages.declared.stages.OwnCentral.TheVariants.{EncryptSent, EncryptUnsent, Exchange, Exclusive as exclusive}
use Rattle.link_pairs.specs.procedure_stages.declared.stages.Progress.{Progress}
use Rattle.link_pairs.specs.procedure_stages.declared.stages.Progress.TheVariants.{Central as central, Peripheral as peripheral}
use Rattle.link_pairs.specs.procedure_stages.Acked.{central_acked, done_at_central_by_ack}
use Rattle.link_pairs.specs.procedure_stages.Exclusive.{central_stage, on_central_stage, pdu_of_outgoing}
use Rattle.link_pairs.specs.procedure_values.Drafts.{is_out}
use Rattle.link_pairs.specs.link_model.Entering.{done_notes}
use Rattle.link_pairs.specs.link_model.End.{notes_after}
use Rattle.link_pairs.specs.link_model.keyed_control.KeyedSteps.{with_phased}
use Rattle.link_pairs.specs.link_model.phased_control.Phased.{Phased, asks_again, with_step}
use Rattle.link_pairs.specs.link_model.phased_control.Taken.{SeesAcknowledged as acknowledges}
use Rattle.link_pairs.specs.link_model.Facts.{Facts, keyed_of}
use Rattle.link_pairs.specs.link_model.Packets.{good_pdu}
use Rattle.link_pairs.specs.link_model.Receiving.{accepts, acked_kind, acks_control, facts_before_taking, has_acknowledged, keyed_acked_if, received_notes, taken_notes}
use Rattle.link_pairs.specs.link_model.Setup.{Setup}
use Rattle.link_pairs.specs.link_model.Step.{PacketReceived}
use Rattle.link_pairs.specs.link_model.Verdicts.{pdu_of}
use Rattle.joint_laws.proofs.joint_controls.Keeping.{asking_keeps, choice as either_way}
use Rattle.run_collisions.specs.Prevailing.{seen, seen_by}

-- ---- the stage

stage_same : (pdu : Pdu) (stage : CentralStage) → option_map kind_of (done_by_ack_at_central pdu stage) ≡ None → own_acked_at_central pdu stage ≡ stage
stage_same PhyInd PhyIndicated none = absurd (cc)
stage_same PhyInd Idle none = refl
stage_same PhyInd UpdateUnsent none = refl
stage_same PhyInd UpdateSent none = refl
stage_same PhyInd MapUnsent none = refl
stage_same PhyInd MapSent none = refl
stage_same PhyInd PhyUnsent none = refl
stage_same PhyInd PhySent none = refl
stage_same PhyInd PhyAnswered none = refl
stage_same pdu stage none = refl

own_same : (pdu : Pdu) (own : OwnCentral) → option_map kind_of (done_by_ack_at_central pdu (central_stage own)) ≡ None
    → central_stage (on_central_stage (own_acked_at_central pdu) own) ≡ central_stage own
own_same pdu (exclusive stage) none = stage_same pdu stage none
own_same pdu (Exchange stage) none = refl
own_same pdu EncryptUnsent none = refl
own_same pdu EncryptSent none = refl

central_same : (pdu : Option Pdu) (x : CentralProgress) → done_at_central_by_ack pdu x ≡ None → central_stage (central_acked pdu x).own ≡ central_stage x.own
central_same None x none = refl
central_same (Some pdu) x none = own_same pdu x.own none

-- ---- the table

abbrev OwnStays : TableFacts → Type 0
OwnStays f =
    (acked_step f).1 ≡ None → (central_of (acked_step f).0).own ≡ (central_of f).own

table_by : (f : TableFacts) (progress : Progress) → OwnStays (record f { progress = progress })
table_by f (central x) none = central_same (pdu_of_outgoing f.out) x none
table_by f (peripheral x) none = refl

table_same : (f : TableFacts) → OwnStays f
table_same f = table_by f f.progress

-- ---- the control part

abbrev own_of : Control → CentralStage
own_of k = (central_of k.table).own

control_by : (k : Control) (lasts out : Bool) → (if lasts && out then (acked_step k.table).1 else None) ≡ None
    → own_of (if lasts then table_if out (acked_step k.table).0 k else k) ≡ own_of k
control_by k true true none = table_same k.table none
control_by k true false none = refl
control_by k false out none = refl

-- a PDU of the encryption that is owed then leaves it too
owed_by : (f : TableFacts) (progress : Progress) (ctrl : Ctrl) → (central_of (owe_step (record f { progress = progress }) ctrl)).own ≡ (central_of (record f { progress = progress })).own
owed_by f (central x) ctrl = refl
owed_by f (peripheral x) ctrl = by (is_rejection ctrl) (owe_step (record f { progress = peripheral x }) ctrl)
  where
    by : (rejects : Bool) (g : TableFacts)
        → (central_of (record g { progress = if rejects then peripheral (record x { encrypting = false }) else peripheral x })).own
        ≡ (central_of (record f { progress = peripheral x })).own
    by true g = refl
    by false g = refl

owed_same : (stage : CentralStage) (ctrl : Ctrl) (k : Control) → own_of k ≡ stage → own_of (after (Owes ctrl) k) ≡ stage
owed_same stage ctrl k is =
    either_way (λ (c : Control). own_of c ≡ stage) (is_none k.ends) (record k { table = owe_step k.table ctrl }) k
    (owed_by k.table k.table.progress ctrl ∙ is) is

control_same : (acks : Bool) (facts : Facts) → acked_kind acks facts ≡ None → own_of (keyed_acked_if acks (keyed_of facts)).phased.control ≡ own_of facts.control
control_same false facts none = refl
control_same true facts none =
    by (is_none facts.control.ends) (control_by facts.control (is_none facts.control.ends) (is_out facts.control.table.out) none)
  where
    s : Phased
    s = (keyed_of facts).phased

    by : (goes : Bool) → own_of (after SeesAcknowledged facts.control) ≡ own_of facts.control
        → own_of (if goes then with_phased acknowledges facts.encryption.material (keyed_of facts) else keyed_of facts).phased.control ≡ own_of facts.control
    by true same =
        asking_keeps (λ (c : Control). own_of c ≡ own_of facts.control) (owed_same (own_of facts.control)) (asks_again s)
        (with_step SeesAcknowledged s) same
    by false same = refl

-- ---- a packet

-- the first note is not that a procedure is done
none_done : (handle : ℕ) (done : Option Kind) (rest later : List Note) (named number llid : ℕ) (body : List ℕ)
    → done_notes handle done ++ rest ≡ Took named number llid (record { items = body }) ∷ later → done ≡ None
none_done handle None rest later named number llid body is = refl
none_done handle (Some kind) rest later named number llid body is = absurd (cc)

module _ (setup : Setup) (is_central : setup.link.role ≡ Central) (slot : ℕ) (room : Bool) (facts : Facts) (named number llid : ℕ) (body : List ℕ)
    (later : List Note) where
  by_pdu : (pdu : Option (List ℕ)) → received_notes setup slot room pdu facts ≡ Took named number llid (record { items = body }) ∷ later
      → own_of (seen_by setup slot pdu facts).control ≡ own_of facts.control
  by_pdu None is = absurd (cc)
  by_pdu (Some pdu) is =
      let header = header_in pdu in
      let acks = acks_control (has_acknowledged facts header) facts in
      let now = facts_before_taking setup.link.role slot header facts in
      let done = acked_kind acks facts in
      ap (λ (role : Role). own_of (facts_before_taking role slot header facts).control) is_central
      ∙ control_same acks facts
      (none_done setup.link.handle done (taken_notes setup.link.handle (accepts room header (pdu_of pdu) now) (pdu_of pdu) slot now) later named number
      llid body is)

  pub own_seen : (octets : List ℕ) → notes_after setup facts (PacketReceived slot octets room) ≡ Took named number llid (record { items = body }) ∷ later
      → (central_of (seen setup slot octets facts).control.table).own ≡ (central_of facts.control.table).own
  own_seen octets is = by_pdu (good_pdu setup facts octets) is

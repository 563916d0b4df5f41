-- The PDUs of other procedures leave the exchanges as they are.
use Rattle.std.proofs.Common.{◌≡◌, ℕ, Bool, true, false, ◌&&◌, ◌||◌, List, Option, Some, None, if◌then◌else◌, refl, ap, sym, ◌∙◌}
use Rattle.ble_base.specs.ErrorCodes.{invalid_ll_parameters}
use Rattle.ble_base.specs.declared.error_codes.ErrCode.{ErrCode}
use Rattle.ble_base.specs.declared.procedure_kinds.Kind.{Kind}
use Rattle.ble_base.specs.declared.procedure_kinds.Kind.TheVariants.{Map as map_kind, Phy, Encrypt, Request}
use Rattle.data_pdu.specs.declared.ctrl.Ctrl.{Ctrl}
use Rattle.instants.specs.declared.indications.Indication.{Indication}
use Rattle.procedure_values.specs.declared.asks.Ask.{Ask}
use Rattle.procedure_values.specs.declared.drafts.Draft.TheVariants.{PhyInd, PhyRsp}
use Rattle.procedure_stages.specs.declared.closing.Closing.{Closing}
use Rattle.procedure_stages.specs.declared.reply.Reply.{Reply}
use Rattle.procedure_stages.specs.declared.reply.Reply.TheVariants.{Nothing as no_reply, Reject, Answer}
use Rattle.procedure_stages.specs.declared.stages.Ahead.{Ahead}
use Rattle.procedure_stages.specs.declared.stages.Ahead.TheVariants.{Nothing, Update, Map}
use Rattle.procedure_stages.specs.declared.stages.Central.{Central}
use Rattle.procedure_stages.specs.declared.stages.OwnCentral.{OwnCentral}
use Rattle.procedure_stages.specs.declared.stages.OwnCentral.TheVariants.{Exclusive as exclusive, EncryptSent, EncryptUnsent, Exchange as exchange}
use Rattle.exclusive_stages.specs.declared.stages.CentralStage.TheVariants.{Idle, PhySent}
use Rattle.procedure_stages.specs.declared.stages.OwnPeripheral.{OwnPeripheral}
use Rattle.procedure_stages.specs.declared.stages.OwnPeripheral.TheVariants.{Exclusive as exclusive_p, Exchange as exchange_p}
use Rattle.exclusive_stages.specs.declared.stages.PeripheralStage.TheVariants.{Idle as idle, PhySent as phy_sent, RequestAcknowledged, RequestGranted}
use Rattle.exclusive_stages.specs.declared.stages.PeerAtCentral.TheVariants.{Absent, HostAsked, PhyIndUnsent}
use Rattle.exclusive_stages.specs.declared.stages.PeerAtPeripheral.TheVariants.{Absent as absent, MapTaken, PhyRspUnsent}
use Rattle.procedure_stages.specs.declared.stages.Peripheral.{Peripheral}
use Rattle.procedure_stages.specs.declared.stages.Progress.{Progress}
use Rattle.procedure_stages.specs.declared.stages.Progress.TheVariants.{Central as central, Peripheral as peripheral}
use Rattle.procedure_stages.specs.declared.steps.Effect.TheVariants.{AskHost, Cipher, Nothing as NoEffect}
use Rattle.procedure_stages.specs.Awaited.{is_own_encryption}
use Rattle.exclusive_stages.specs.Awaited.{awaits_phy_ind, awaits_phy_rsp, central_answered, has_phy_of_central, peer_answered, reads_as_answer}
use Rattle.procedure_stages.specs.Closing.{is_open}
use Rattle.procedure_stages.specs.Collisions.{collision}
use Rattle.procedure_stages.specs.Kinds.{exchange_at_central, exchange_at_peripheral, kind_at_central, kind_at_peripheral, own_exchange}
use Rattle.procedure_stages.specs.Opcodes.{connection_param_req_opcode, phy_req_opcode}
use Rattle.procedure_stages.specs.Queue.{is_version_reply, with_reply}
use Rattle.procedure_stages.specs.Steps.{closing_after}
use Rattle.procedure_values.specs.Values.{are_valid}
use Rattle.procedures.specs.declared.outcome.Outcome.{Outcome}
use Rattle.procedures.specs.Encryption.{cipher_at_central, encryption_begun, pause_rsp_at_peripheral, start_rsp_at_central, start_rsp_at_peripheral}
use Rattle.procedures.specs.Map.{map_taken}
use Rattle.procedures.specs.Outcomes.{answered, ended, moved, moved_and_answered, rejected, unchanged, unknown, with_done, with_effect}
use Rattle.procedures.specs.Phy.{phy_answered, phy_ind_taken, phy_req_at_central, phy_req_at_peripheral, phy_rsp_taken}
use Rattle.procedures.specs.Request.{after_grant, collided, outlived, request_judged, request_taken}
use Rattle.procedures.specs.Table.{TableFacts}
use Rattle.procedures.specs.Taking.{facts_with, wanted_after}
use Rattle.procedures.specs.Update.{follow, followed, granted, update_begun, update_taken}
use Rattle.exchange_steps.specs.Answers.{exchange_effect, exchange_kind, exchange_refusal}
use Rattle.exchange_steps.specs.Ends.{ends_by, ends_of}
use Rattle.exchange_steps.proofs.Queues.{IsOtherDraft, other_queued, rejection_queued}
use Rattle.procedure_stages.specs.Exclusive.{central_stage, peripheral_stage}

-- what is sent for the PDU is no PDU of an exchange
abbrev pub IsOtherReply : Reply → Type 0
IsOtherReply (Answer d) = IsOtherDraft d × (is_version_reply (Answer d) ≡ false)
IsOtherReply other = Unit {0}

pub record IsSame (f : TableFacts) (o : Outcome) : Type 0 where
  pub own : own_exchange o.progress ≡ own_exchange f.progress
  pub lengths : o.lengths ≡ f.lengths
  pub reply : IsOtherReply o.reply
  pub closing : (cl : Closing) → closing_after o.step.effect cl ≡ cl
  pub wanted : (wanted : List Ask) → wanted_after o.step.effect wanted ≡ wanted
  -- and the answer says nothing of an exchange
  pub done : exchange_kind o.step.done ≡ None
  pub refused : exchange_refusal o.step.refused ≡ None
  pub effect : exchange_effect o.step.effect ≡ NoEffect

or_false : (used more : Bool) → more ≡ false → (used || more) ≡ used
or_false true more is = refl
or_false false more is = is

pub same_ends : (f : TableFacts) (slot : ℕ) (o : Outcome) → IsSame f o → ends_of (facts_with f slot o) ≡ ends_of f
same_ends f slot o same = parts ∙ by o.reply same.reply
  where
    parts : ends_of (facts_with f slot o)
        ≡ ends_by (own_exchange f.progress) f.wanted (f.version_used || (is_version_reply o.reply && is_open f.closing)) f.lengths (is_open f.closing) (with_reply f.closing o.reply f.queue).drafts
    parts =
        λ i. ends_by (same.own i) (same.wanted f.wanted i) (f.version_used || (is_version_reply o.reply && is_open f.closing)) (same.lengths i)
        (is_open (same.closing f.closing i)) (with_reply f.closing o.reply f.queue).drafts

    by : (reply : Reply) → IsOtherReply reply
        → ends_by (own_exchange f.progress) f.wanted (f.version_used || (is_version_reply reply && is_open f.closing)) f.lengths (is_open f.closing) (with_reply f.closing reply f.queue).drafts
        ≡ ends_of f
    by no_reply other =
        λ i. ends_by (own_exchange f.progress) f.wanted (or_false f.version_used false refl i) f.lengths (is_open f.closing) f.queue.drafts
    by (Reject r) other =
        (λ i. ends_by (own_exchange f.progress) f.wanted (or_false f.version_used false refl i) f.lengths (is_open f.closing) (with_reply f.closing (Reject r) f.queue).drafts)
        ∙ rejection_queued (own_exchange f.progress) f.wanted f.version_used f.lengths f.closing f.queue r
    by (Answer d) other =
        (λ i. ends_by (own_exchange f.progress) f.wanted
        (or_false f.version_used (is_version_reply (Answer d) && is_open f.closing) (ap (λ b. b && is_open f.closing) other.1) i)
        f.lengths (is_open f.closing) (with_reply f.closing (Answer d) f.queue).drafts)
        ∙ other_queued (own_exchange f.progress) f.wanted f.version_used f.lengths f.closing f.queue d other.0

-- ---- what changes nothing

module _ (f : TableFacts) where
  pub unchanged_same : IsSame f (unchanged f)
  unchanged_same = record { own = refl; lengths = refl; reply = tt; closing = λ cl. refl; wanted = λ w. refl; done = refl; refused = refl; effect = refl }

  pub moved_same : (progress : Progress) → own_exchange progress ≡ own_exchange f.progress → IsSame f (moved f progress)
  moved_same progress is = record { own = is; lengths = refl; reply = tt; closing = λ cl. refl; wanted = λ w. refl; done = refl; refused = refl; effect = refl }

  pub rejected_same : (opcode : ℕ) (code : ErrCode) → IsSame f (rejected f opcode code)
  rejected_same opcode code = record { own = refl; lengths = refl; reply = tt; closing = λ cl. refl; wanted = λ w. refl; done = refl; refused = refl; effect = refl }

  pub ended_same : (code : ErrCode) → IsSame f (ended f code)
  ended_same code = record { own = refl; lengths = refl; reply = tt; closing = λ cl. refl; wanted = λ w. refl; done = refl; refused = refl; effect = refl }

  pub unknown_same : (opcode : ℕ) → IsSame f (unknown f opcode)
  unknown_same opcode =
      record {
        own = refl;
        lengths = refl;
        reply = (record { features = refl; lengths = refl; versions = refl }, refl);
        closing = λ cl. refl;
        wanted = λ w. refl;
        done = refl;
        refused = refl;
        effect = refl;
      }

  if_same : (b : Bool) (x y : Outcome) → IsSame f x → IsSame f y → IsSame f (if b then x else y)
  if_same true x y is other = is
  if_same false x y is other = other

  -- ---- at a central

  collided_same : (answered : Bool) (opcode : ℕ) (code : Option ErrCode) (other : Outcome) → IsSame f other → IsSame f (collided f answered opcode code other)
  collided_same answered opcode None other is = is
  collided_same answered opcode (Some code) other is = if_same answered (ended f code) (rejected f opcode code) (ended_same code) (rejected_same opcode code)

  module _ (c : Central) (is : f.progress ≡ central c) where
    own_c : exchange_at_central c.own ≡ own_exchange f.progress
    own_c = ap own_exchange (sym is)

    pub request_same : (min max latency timeout : ℕ) → IsSame f (request_taken f c min max latency timeout)
    request_same min max latency timeout =
        collided_same (peer_answered (central_stage c.own)) connection_param_req_opcode (collision (kind_at_central c.own) Request) (request_judged f c min max latency timeout) (judged (are_valid min max latency timeout))
      where
        judged : (b : Bool) → IsSame f (if b then with_effect (AskHost min max latency timeout) (moved f (central (record c { peer = HostAsked })))
            else record (rejected f connection_param_req_opcode (record { 0 = invalid_ll_parameters })) { progress = central (record c { peer = Absent }) })
        judged true = record { own = own_c; lengths = refl; reply = tt; closing = λ cl. refl; wanted = λ w. refl; done = refl; refused = refl; effect = refl }
        judged false = record { own = own_c; lengths = refl; reply = tt; closing = λ cl. refl; wanted = λ w. refl; done = refl; refused = refl; effect = refl }

    pub phy_req_same : IsSame f (phy_req_at_central f c)
    phy_req_same =
        collided_same (peer_answered (central_stage c.own)) phy_req_opcode (collision (kind_at_central c.own) Phy) (moved_and_answered f (central (record c { peer = PhyIndUnsent })) PhyInd)
        (record {
          own = own_c;
          lengths = refl;
          reply = (record { features = refl; lengths = refl; versions = refl }, refl);
          closing = λ cl. refl;
          wanted = λ w. refl;
          done = refl;
          refused = refl;
          effect = refl;
        })

    pub phy_rsp_same : IsSame f (phy_rsp_taken f c)
    phy_rsp_same = by c.own refl
      where
        by : (own : OwnCentral) → c.own ≡ own → IsSame f (if awaits_phy_rsp (central_stage own) then phy_answered f c else unchanged f)
        by (exclusive PhySent) o =
            record {
              own = sym (ap exchange_at_central o) ∙ own_c;
              lengths = refl;
              reply = (record { features = refl; lengths = refl; versions = refl }, refl);
              closing = λ cl. refl;
              wanted = λ w. refl;
              done = refl;
              refused = refl;
              effect = refl;
            }
        by (exchange stage) o = unchanged_same
        by (exclusive own) o = unchanged_same
        by own o = unchanged_same

    pub cipher_same : (quiet : Bool) (ctrl : Ctrl) → IsSame f (cipher_at_central f c quiet ctrl)
    cipher_same true ctrl = unchanged_same
    cipher_same false ctrl = record { own = refl; lengths = refl; reply = tt; closing = λ cl. refl; wanted = λ w. refl; done = refl; refused = refl; effect = refl }

    secured_same : (ctrl : Ctrl) (own : OwnCentral) → c.own ≡ own
        → IsSame f (with_effect (Cipher ctrl) (if is_own_encryption own then with_done Encrypt (moved f (central (record c { own = exclusive Idle }))) else unchanged f))
    secured_same ctrl EncryptUnsent o = record { own = sym (ap exchange_at_central o) ∙ own_c; lengths = refl; reply = tt; closing = λ cl. refl; wanted = λ w. refl; done = refl; refused = refl; effect = refl }
    secured_same ctrl EncryptSent o = record { own = sym (ap exchange_at_central o) ∙ own_c; lengths = refl; reply = tt; closing = λ cl. refl; wanted = λ w. refl; done = refl; refused = refl; effect = refl }
    secured_same ctrl (exchange stage) o = record { own = refl; lengths = refl; reply = tt; closing = λ cl. refl; wanted = λ w. refl; done = refl; refused = refl; effect = refl }
    secured_same ctrl own o = record { own = refl; lengths = refl; reply = tt; closing = λ cl. refl; wanted = λ w. refl; done = refl; refused = refl; effect = refl }

    pub start_rsp_same : (quiet : Bool) (ctrl : Ctrl) → IsSame f (start_rsp_at_central f c quiet ctrl)
    start_rsp_same true ctrl = unchanged_same
    start_rsp_same false ctrl = secured_same ctrl c.own refl

  -- ---- at a peripheral

  outlived_same : (code : Option ErrCode) (other : Outcome) → IsSame f other → IsSame f (outlived f code other)
  outlived_same None other is = is
  outlived_same (Some code) other is = ended_same code

  after_grant_same : (p : Peripheral) (kind : Kind) (other : Outcome) → IsSame f other → IsSame f (after_grant f p kind other)
  after_grant_same p kind other is =
      if_same (central_answered (peripheral_stage p.own)) (outlived f (collision (kind_at_peripheral p.own) kind) other) other
      (outlived_same (collision (kind_at_peripheral p.own) kind) other is) is

  follow_same : (ahead new : Ahead) (outcome : Outcome) → IsSame f outcome → IsSame f (follow f ahead new outcome)
  follow_same Nothing new outcome is = is
  follow_same Update new outcome is = ended_same _
  follow_same Map new outcome is = ended_same _

  module _ (p : Peripheral) (is : f.progress ≡ peripheral p) where
    own_p : exchange_at_peripheral p.own ≡ own_exchange f.progress
    own_p = ap own_exchange (sym is)

    pub update_same : (indication : Indication) → IsSame f (update_taken f p indication)
    update_same indication =
        follow_same p.ahead Update (if reads_as_answer (peripheral_stage p.own) then granted f p indication else update_begun f p indication) (by p.own refl)
      where
        by : (own : OwnPeripheral) → p.own ≡ own → IsSame f (if reads_as_answer (peripheral_stage own) then granted f p indication else update_begun f p indication)
        by (exclusive_p RequestAcknowledged) o = record { own = sym (ap exchange_at_peripheral o) ∙ own_p; lengths = refl; reply = tt; closing = λ cl. refl; wanted = λ w. refl; done = refl; refused = refl; effect = refl }
        by (exclusive_p RequestGranted) o = record { own = sym (ap exchange_at_peripheral o) ∙ own_p; lengths = refl; reply = tt; closing = λ cl. refl; wanted = λ w. refl; done = refl; refused = refl; effect = refl }
        by (exchange_p stage) o = record { own = own_p; lengths = refl; reply = tt; closing = λ cl. refl; wanted = λ w. refl; done = refl; refused = refl; effect = refl }
        by (exclusive_p other) o = record { own = own_p; lengths = refl; reply = tt; closing = λ cl. refl; wanted = λ w. refl; done = refl; refused = refl; effect = refl }

    pub map_same : (indication : Indication) → IsSame f (map_taken f p indication)
    map_same indication =
        after_grant_same p map_kind (follow f p.ahead Map (followed f (record p { peer = MapTaken }) Map indication))
        (follow_same p.ahead Map (followed f (record p { peer = MapTaken }) Map indication)
        (record { own = own_p; lengths = refl; reply = tt; closing = λ cl. refl; wanted = λ w. refl; done = refl; refused = refl; effect = refl }))

    pub encryption_same : (ctrl : Ctrl) → IsSame f (encryption_begun f p ctrl)
    encryption_same ctrl = record { own = own_p; lengths = refl; reply = tt; closing = λ cl. refl; wanted = λ w. refl; done = refl; refused = refl; effect = refl }

    pub pause_rsp_same : (quiet : Bool) (ctrl : Ctrl) → IsSame f (pause_rsp_at_peripheral f quiet ctrl)
    pause_rsp_same true ctrl = unchanged_same
    pause_rsp_same false ctrl = record { own = refl; lengths = refl; reply = tt; closing = λ cl. refl; wanted = λ w. refl; done = refl; refused = refl; effect = refl }

    pub last_rsp_same : (quiet : Bool) (ctrl : Ctrl) → IsSame f (start_rsp_at_peripheral f p quiet ctrl)
    last_rsp_same true ctrl = unchanged_same
    last_rsp_same false ctrl = record { own = own_p; lengths = refl; reply = tt; closing = λ cl. refl; wanted = λ w. refl; done = refl; refused = refl; effect = refl }

    pub phy_req_p_same : IsSame f (phy_req_at_peripheral f p)
    phy_req_p_same =
        after_grant_same p Phy (moved_and_answered f (peripheral (record p { peer = PhyRspUnsent })) PhyRsp)
        (record {
          own = own_p;
          lengths = refl;
          reply = (record { features = refl; lengths = refl; versions = refl }, refl);
          closing = λ cl. refl;
          wanted = λ w. refl;
          done = refl;
          refused = refl;
          effect = refl;
        })

    pub phy_ind_same : IsSame f (phy_ind_taken f p)
    phy_ind_same =
        if_same (has_phy_of_central p.peer) (moved f (peripheral (record p { peer = absent })))
        (if awaits_phy_ind (peripheral_stage p.own) then with_done Phy (moved f (peripheral (record p { own = exclusive_p idle }))) else unchanged f)
        (moved_same (peripheral (record p { peer = absent })) own_p) (by p.own refl)
      where
        by : (own : OwnPeripheral) → p.own ≡ own
            → IsSame f (if awaits_phy_ind (peripheral_stage own) then with_done Phy (moved f (peripheral (record p { own = exclusive_p idle }))) else unchanged f)
        by (exclusive_p phy_sent) o = record { own = sym (ap exchange_at_peripheral o) ∙ own_p; lengths = refl; reply = tt; closing = λ cl. refl; wanted = λ w. refl; done = refl; refused = refl; effect = refl }
        by (exchange_p stage) o = unchanged_same
        by (exclusive_p own) o = unchanged_same

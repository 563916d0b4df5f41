-- An end of a joint run whose last control PDU is LL_TERMINATE_IND of its host sends no further one.
use Rattle.std.proofs.Common.{◌≡◌, ◌⊎◌, inl, inr, ℕ, Bool, true, false, not, ◌&&◌, List, [], ◌∷◌, Option, Some, None, refl, sym, ap, ◌∙◌, subst, if◌then◌else◌}
use Rattle.std.proofs.lemmas.Bool.{and_parts}
use Rattle.ble_base.specs.declared.error_codes.ErrCode.{ErrCode}
use Rattle.ble_base.specs.declared.roles.Role.{Role}
use Rattle.ble_base.specs.declared.roles.Role.TheVariants.{Central, Peripheral}
use Rattle.data_pdu.specs.declared.ctrl.Ctrl.{Ctrl}
use Rattle.data_pdu.specs.declared.ctrl.Ctrl.TheVariants.{StartEncReq, TerminateInd}
use Rattle.instants.specs.declared.indications.Indication.{Indication}
use Rattle.instants.specs.Track.{event_of}
use Rattle.control_octets.specs.procedure_values.declared.drafts.Draft.{Draft}
use Rattle.control_octets.specs.procedure_values.declared.drafts.Draft.TheVariants.{Cipher}
use Rattle.control_octets.specs.procedure_values.declared.drafts.Outgoing.{Outgoing}
use Rattle.control_octets.specs.procedure_values.declared.drafts.Outgoing.TheVariants.{Disconnect, Nothing, Other, Rejection}
use Rattle.control_octets.specs.procedure_values.declared.drafts.Rejection.{Rejection as TheRejection}
use Rattle.control_octets.specs.procedure_values.Drafts.{ctrl_of_draft, ctrl_of_outgoing, waits_for_instant}
use Rattle.control_octets.specs.procedure_stages.declared.closing.Closing.{Closing}
use Rattle.control_octets.specs.procedure_stages.declared.closing.Closing.TheVariants.{Closed, Disconnecting, Open}
use Rattle.control_octets.specs.procedure_stages.declared.reply.Reply.{Reply}
use Rattle.control_octets.specs.procedure_stages.declared.reply.Reply.TheVariants.{Answer, Nothing as no_reply, Reject}
use Rattle.control_octets.specs.procedure_stages.declared.stages.Progress.{Progress}
use Rattle.control_octets.specs.procedure_stages.declared.steps.Effect.{Effect}
use Rattle.control_octets.specs.procedure_stages.declared.steps.Effect.TheVariants.{PeerEnds}
use Rattle.control_octets.specs.procedure_stages.Closing.{is_disconnecting, is_open}
use Rattle.control_octets.specs.procedure_stages.Kinds.{role_of}
use Rattle.control_octets.specs.procedure_stages.Queue.{QueueFacts, is_past_instant, next_by, next_disconnect, next_draft, with_reply, without_next}
use Rattle.control_octets.specs.procedure_stages.Steps.{closing_after}
use Rattle.control_octets.specs.procedures.declared.outcome.Outcome.{Outcome}
use Rattle.control_octets.specs.procedures.Going.{closing_given, owe_step}
use Rattle.control_octets.specs.procedures.Queue.{next_of}
use Rattle.control_octets.specs.procedures.Table.{TableFacts}
use Rattle.control_octets.specs.procedures.Taking.{facts_with, outcome_of}
use Rattle.control_octets.specs.control_model.Control.{Control, Owes, Sends, Takes, after, following, goes_out, indicated_by, is_to_come, taken, went}
use Rattle.control_octets.proofs.control_model.Calls.{any_step, either_way, took_by}
use Rattle.joint_laws.specs.joint_controls.phased_control.Phased.{Phased, is_quiet_now}
use Rattle.joint_laws.specs.joint_controls.phased_control.Taken.{Enters as enters, PhasedStep, Response, SeesAcknowledged, Sends as sends, phased_after}
use Rattle.joint_laws.specs.joint_controls.Joint.{CentralAcked, CentralEnters, CentralHost, CentralSends, CentralSendsData, CentralTakes, Clear, Fixed, Joint, JointStep, OnAir, PeripheralAcked, PeripheralEnters, PeripheralFixes, PeripheralFixesData, PeripheralHost, PeripheralSends, PeripheralTakes, Shuts, Taken, Way, act, central_takes, host_step, may, no_response, peripheral_takes, taking}
use Rattle.joint_laws.proofs.joint_controls.EachEnd.{Keeps, enters_kept, hosts_kept, takes_kept}
use Rattle.joint_laws.proofs.joint_controls.Keeping.{choice}
use Rattle.joint_laws.proofs.joint_controls.LastPdus.{acked_end, enters_end, hosts_end, takes_end}
use Rattle.joint_laws.proofs.joint_controls.Running.{comes_on}
use Rattle.joint_laws.specs.joint_controls.Joint.{is_terminate}
use Rattle.link_pairs.specs.Parting.{SendsNoControl}
use Rattle.link_pairs.proofs.TakingNothing.{LeavesTable, TakesNothing, acked_nothing, answers_nothing, asks_nothing, disconnects_nothing, draft_left, enters_nothing, none_sent, rejection_left}

-- ---- once it sends no further one, it stays so

pub ends_shut : (closing : Closing) → is_disconnecting closing ≡ true → is_open closing ≡ false
ends_shut Open is = absurd (cc)
ends_shut Closed is = refl
ends_shut Disconnecting is = refl

pub no_control_left : (f g : TableFacts) → LeavesTable f g → SendsNoControl f → SendsNoControl g
no_control_left f g left over =
    let shut = ends_shut f.closing over.closing in
    record {
      closing = ap is_disconnecting (left.closing shut) ∙ over.closing;
      rejections = left.rejections shut over.rejections;
      disconnect = left.disconnect shut over.disconnect;
    }

abbrev pub IsOver : Control → Type 0
IsOver c = SendsNoControl c.table

over_then : (c d : Control) → TakesNothing c d → IsOver c → IsOver d
over_then c d nothing = no_control_left c.table d.table nothing.table

ends_given : (ctrl : Ctrl) (closing : Closing) → is_disconnecting closing ≡ true → is_disconnecting (closing_given ctrl closing) ≡ true
ends_given (TerminateInd code) Open is = absurd (cc)
ends_given (TerminateInd code) Closed is = absurd (cc)
ends_given (TerminateInd code) Disconnecting is = refl
ends_given StartEncReq closing is = is
ends_given ctrl closing is = is

pub ends_after : (effect : Effect) (closing : Closing) → is_disconnecting closing ≡ true → is_disconnecting (closing_after effect closing) ≡ true
ends_after (PeerEnds code) Open is = absurd (cc)
ends_after (PeerEnds code) Closed is = absurd (cc)
ends_after (PeerEnds code) Disconnecting is = refl
ends_after effect closing is = is

pub reply_left : (closing : Closing) → is_open closing ≡ false → (reply : Reply) (q : QueueFacts) → with_reply closing reply q ≡ q
reply_left closing shut no_reply q = refl
reply_left closing shut (Reject rejection) q = rejection_left closing shut q rejection
reply_left closing shut (Answer draft) q = draft_left closing shut q draft

-- with this queue, and closing so
with_queue : (f g : TableFacts) → is_disconnecting g.closing ≡ true → g.queue ≡ f.queue → SendsNoControl f → SendsNoControl g
with_queue f g closing queue over =
    record {
      closing = closing;
      rejections = ap (λ (q : QueueFacts). q.rejections) queue ∙ over.rejections;
      disconnect = ap (λ (q : QueueFacts). q.disconnect) queue ∙ over.disconnect;
    }

took_over : (f : TableFacts) (slot : ℕ) (outcome : Outcome) → SendsNoControl f → SendsNoControl (facts_with f slot outcome)
took_over f slot outcome over =
    with_queue f (facts_with f slot outcome) (ends_after outcome.step.effect f.closing over.closing)
    (reply_left f.closing (ends_shut f.closing over.closing) outcome.reply f.queue) over

taken_over : (g : TableFacts) (indication : Option Indication) (c : Control) → SendsNoControl g → IsOver c → IsOver (taken g None indication c)
taken_over g None c now over = now
taken_over g (Some indication) c now over = either_way IsOver (is_to_come c.track indication) _ _ now over

over_kept : Keeps IsOver
over_kept =
    record {
      enters = λ slot quiet c. over_then c _ (enters_nothing slot quiet c);
      asks = λ ask c. over_then c _ (asks_nothing ask c);
      answers = λ answer c. over_then c _ (answers_nothing answer c);
      disconnects = λ reason c. over_then c _ (disconnects_nothing reason c);
      acks = λ c. over_then c _ (acked_nothing c);
      owes =
          λ ctrl c over. any_step IsOver (Owes ctrl) c
          (with_queue c.table (owe_step c.table ctrl) (ends_given ctrl c.table.closing over.closing)
          (draft_left c.table.closing (ends_shut c.table.closing over.closing) c.table.queue (Cipher ctrl)) over) over;
      takes =
          λ read slot quiet c over. any_step IsOver (Takes read slot quiet) c
          (took_by IsOver c (λ code. over) read slot quiet
          (taken_over (facts_with c.table slot (outcome_of c.table quiet read)) (indicated_by (outcome_of c.table quiet read).step.effect) c
          (took_over c.table slot (outcome_of c.table quiet read) over) over)) over;
      ends = λ code c over. over;
    }

-- ---- LL_TERMINATE_IND of its host is sent

abbrev pub is_disconnect : Outgoing → Bool
is_disconnect (Disconnect code) = true
is_disconnect other = false

abbrev pub EndsSo : Control → Type 0
EndsSo c = is_disconnect c.table.out ≡ true → IsOver c

draft_next : (waits : Bool) (draft : Draft) → is_disconnect (if waits then Nothing else Other draft) ≡ false
draft_next true draft = refl
draft_next false draft = refl

drafts_next : (progress : Progress) (event : ℕ) (drafts : List Draft) → is_disconnect (next_draft progress event drafts) ≡ false
drafts_next progress event [] = refl
drafts_next progress event (draft ∷ drafts) = draft_next (waits_for_instant draft && not (is_past_instant progress event)) draft

-- it goes after all rejections, once the host ended the link
last_next : (rejections : List TheRejection) (ends : Bool) (disconnect : Option ErrCode) (other : Outgoing) → is_disconnect other ≡ false
    → is_disconnect (next_by rejections (if ends then next_disconnect disconnect else other)) ≡ true → (rejections ≡ []) × (ends ≡ true)
last_next [] true disconnect other apart is = (refl, refl)
last_next [] false disconnect other apart is = absurd (let never = sym apart ∙ is in cc)
last_next (rejection ∷ rejections) ends disconnect other apart is = absurd (cc)

left_then : (outgoing : Outgoing) (q : QueueFacts) → is_disconnect outgoing ≡ true → (without_next outgoing q).disconnect ≡ None
left_then Nothing q is = absurd (cc)
left_then (Rejection rejection) q is = absurd (cc)
left_then (Disconnect code) q is = refl
left_then (Other draft) q is = absurd (cc)

pub following_table : (role : Role) (indication : Option Indication) (c : Control) → (following role indication c).table ≡ c.table
following_table Central (Some indication) c = refl
following_table Central None c = refl
following_table Peripheral indication c = refl

module _ (c : Control) (slot : ℕ) (quiet : Bool) where
  abbrev outgoing : Outgoing
  outgoing = next_of c.table (event_of c.track) quiet

  abbrev gone : TableFacts
  gone = (went slot quiet c).0

  went_over : is_disconnect outgoing ≡ true → SendsNoControl gone
  went_over is =
      let f = c.table in
      let last = last_next f.queue.rejections (is_disconnecting f.closing && quiet) f.queue.disconnect (next_draft f.progress (event_of c.track) f.queue.drafts)
      (drafts_next f.progress (event_of c.track) f.queue.drafts) is in
      record {
        closing = (and_parts (is_disconnecting f.closing) quiet last.1).0;
        rejections = none_sent outgoing f.queue last.0;
        disconnect = left_then outgoing f.queue is;
      }

  sends_so : EndsSo c → EndsSo (after (Sends slot quiet) c)
  sends_so so =
      any_step EndsSo (Sends slot quiet) c
      (either_way EndsSo (goes_out quiet c) _ c
      (subst (λ (f : TableFacts). is_disconnect f.out ≡ true → SendsNoControl f)
      (sym (following_table (role_of c.table.progress) (went slot quiet c).1 (record c { table = gone }))) went_over) so) so

-- ---- both ends of a joint run

abbrev pub EndSo : Phased → Type 0
EndSo x = EndsSo x.control

-- its last PDU is the same
same_so : (step : PhasedStep) (x : Phased) → (phased_after step x).control.table.out ≡ x.control.table.out
    → (IsOver x.control → IsOver (phased_after step x).control) → EndSo x → EndSo (phased_after step x)
same_so step x out kept so is = kept (so (sym (ap is_disconnect out) ∙ is))

-- or none is out
none_so : (step : PhasedStep) (x : Phased) → (phased_after step x).control.table.out ≡ Nothing → EndSo (phased_after step x)
none_so step x out is = absurd (let never = sym (ap is_disconnect out) ∙ is in cc)

sends_end : (slot : ℕ) (x : Phased) → EndSo x → EndSo (phased_after (sends slot) x)
sends_end slot x so = choice EndSo _ _ x (sends_so x.control slot (is_quiet_now x) so) so

pub record BothSo (s : Joint) : Type 0 where
  pub central : EndSo s.central
  pub peripheral : EndSo s.peripheral

module _ (s : Joint) (so : BothSo s) where
  taken_down : (way : Way) (slot : ℕ) (response : Response) → BothSo (peripheral_takes way slot response s)
  taken_down Clear slot response = so
  taken_down (Fixed item sealed) slot response = so
  taken_down (Taken item) slot response = so
  taken_down (OnAir item sealed) slot response =
      record {
        central = so.central;
        peripheral =
            same_so (taking item slot response) s.peripheral (takes_end s.peripheral.control.table.out item slot response s.peripheral refl)
            (takes_kept IsOver over_kept item slot response s.peripheral) so.peripheral;
      }

  taken_up : (way : Way) (slot : ℕ) → BothSo (central_takes way slot s)
  taken_up Clear slot = so
  taken_up (Fixed item sealed) slot = so
  taken_up (Taken item) slot = so
  taken_up (OnAir item sealed) slot =
      record {
        central =
            same_so (taking item slot no_response) s.central (takes_end s.central.control.table.out item slot no_response s.central refl)
            (takes_kept IsOver over_kept item slot no_response s.central) so.central;
        peripheral = so.peripheral;
      }

pub step_so : (step : JointStep) (s : Joint) → BothSo s → may step s ≡ true → BothSo (act step s)
step_so (CentralEnters slot) s so comes =
    record {
      central = same_so (enters slot) s.central (enters_end s.central.control.table.out slot s.central refl) (enters_kept IsOver over_kept slot s.central) so.central;
      peripheral = so.peripheral;
    }
step_so (CentralHost step) s so comes =
    record {
      central = same_so (host_step step) s.central (hosts_end s.central.control.table.out step s.central refl) (hosts_kept IsOver over_kept step s.central) so.central;
      peripheral = so.peripheral;
    }
step_so (CentralSends slot) s so comes = record { central = sends_end slot s.central so.central; peripheral = so.peripheral }
step_so CentralSendsData s so comes = record { central = so.central; peripheral = so.peripheral }
step_so CentralAcked s so comes =
    record { central = none_so SeesAcknowledged s.central (acked_end s.central (comes_on CentralAcked s comes).central); peripheral = so.peripheral }
step_so (CentralTakes slot) s so comes = taken_up s so s.up slot
step_so (PeripheralEnters slot) s so comes =
    record {
      central = so.central;
      peripheral =
          same_so (enters slot) s.peripheral (enters_end s.peripheral.control.table.out slot s.peripheral refl) (enters_kept IsOver over_kept slot s.peripheral) so.peripheral;
    }
step_so (PeripheralHost step) s so comes =
    record {
      central = so.central;
      peripheral =
          same_so (host_step step) s.peripheral (hosts_end s.peripheral.control.table.out step s.peripheral refl) (hosts_kept IsOver over_kept step s.peripheral) so.peripheral;
    }
step_so (PeripheralFixes slot) s so comes = record { central = so.central; peripheral = sends_end slot s.peripheral so.peripheral }
step_so PeripheralFixesData s so comes = record { central = so.central; peripheral = so.peripheral }
step_so PeripheralSends s so comes = record { central = so.central; peripheral = so.peripheral }
step_so PeripheralAcked s so comes =
    record { central = so.central; peripheral = none_so SeesAcknowledged s.peripheral (acked_end s.peripheral (comes_on PeripheralAcked s comes).peripheral) }
step_so (PeripheralTakes slot response) s so comes = taken_down s so s.down slot response
step_so Shuts s so comes = record { central = so.central; peripheral = so.peripheral }

-- ---- a PDU that is LL_TERMINATE_IND

-- a control PDU ends the link only as the host asked
abbrev ends_link : Option Ctrl → Bool
ends_link None = false
ends_link (Some ctrl) = is_terminate ctrl

-- and as the peripheral lacks a key
abbrev pub is_end_draft : Draft → Bool
is_end_draft (Cipher ctrl) = is_terminate ctrl
is_end_draft draft = false

abbrev pub is_end_out : Outgoing → Bool
is_end_out (Other draft) = is_end_draft draft
is_end_out out = false

draft_ends : (draft : Draft) (event latency : ℕ) → is_terminate (ctrl_of_draft draft event latency) ≡ is_end_draft draft
draft_ends (Cipher ctrl) event latency = refl
draft_ends draft event latency = refl

pub disconnects : (outgoing : Outgoing) (ctrl : Ctrl) (event latency : ℕ) → ctrl_of_outgoing outgoing event latency ≡ Some ctrl
    → is_terminate ctrl ≡ true → (is_disconnect outgoing ≡ true) ⊎ (is_end_out outgoing ≡ true)
disconnects Nothing ctrl event latency sent is = absurd (cc)
disconnects (Rejection rejection) ctrl event latency sent is = absurd (let never = ap ends_link sent ∙ is in cc)
disconnects (Disconnect code) ctrl event latency sent is = inl refl
disconnects (Other draft) ctrl event latency sent is = inr (sym (draft_ends draft event latency) ∙ ap ends_link sent ∙ is)

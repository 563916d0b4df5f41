-- Where fewer than 24 control PDUs wait, fewer do after a PDU of the peer; and an event was entered.
use Rattle.std.proofs.Common.{◌≡◌, ℕ, ◌+◌, ◌<◌, ◌≤◌, nat_le, length, Bool, true, false, ◌&&◌, ◌||◌, if◌then◌else◌, ◌∷◌, [], ◌++◌, List, Option, Some, None, is_none, is_some, refl, sym, subst, arith}
use Rattle.ble_base.specs.declared.error_codes.ErrCode.{ErrCode}
use Rattle.ble_base.specs.declared.roles.Role.{Role}
use Rattle.ble_base.specs.declared.roles.Role.TheVariants.{Central, Peripheral}
use Rattle.data_pdu.specs.declared.ctrl.Ctrl.{Ctrl}
use Rattle.data_pdu.specs.declared.ctrl.Ctrl.TheVariants.{EncReq, EncRsp, PauseEncReq, PauseEncRsp, StartEncReq, StartEncRsp}
use Rattle.data_pdu.specs.declared.ctrl.CtrlRead.{CtrlRead}
use Rattle.data_pdu.specs.declared.ctrl.CtrlRead.TheVariants.{Bare, Known, Unknown}
use Rattle.enc_phase.specs.declared.classes.PduClass.{PduClass}
use Rattle.enc_phase.specs.declared.classes.PduClass.TheVariants.{Refusal}
use Rattle.enc_phase.specs.declared.facts.Transition.TheVariants.{Ask as AskTransition, Confirm, Pause, Unlock}
use Rattle.enc_phase.specs.Phases.{is_asked, may_follow}
use Rattle.enc_phase.specs.Taking.{ctrl_class}
use Rattle.keyed_control.specs.declared.material.Response.{Response}
use Rattle.instants.specs.declared.indications.Indication.{Indication}
use Rattle.procedures.specs.procedure_stages.declared.closing.Closing.{Closing}
use Rattle.procedures.specs.procedure_stages.declared.reply.Reply.{Reply}
use Rattle.procedures.specs.procedure_stages.declared.reply.Reply.TheVariants.{Answer, Nothing as no_reply, Reject}
use Rattle.procedures.specs.procedure_stages.declared.steps.Step.{Step as TableStep}
use Rattle.procedures.specs.procedure_stages.Closing.{is_open}
use Rattle.procedures.specs.procedure_stages.Queue.{QueueFacts, has_reply, waiting_in, with_reply}
use Rattle.procedures.specs.procedure_stages.Steps.{asks_host}
use Rattle.procedures.specs.declared.outcome.Outcome.{Outcome}
use Rattle.procedures.specs.Table.{TableFacts}
use Rattle.procedures.specs.Taking.{facts_with, lacks_room, no_room, outcome_of, settled, took_step}
use Rattle.control_part.proofs.control_end.table_laws.Taken.{few}
use Rattle.control_part.specs.control_end.control_model.Control.{Control, Owes, Takes, indicated_by, is_to_come, moved, taken}
use Rattle.control_part.specs.control_end.Held.{Held, control_of, held_after as control_after}
use Rattle.phased_end.specs.Held.{HeldKeyed}
use Rattle.phased_end.specs.Taking.{answered, answering_at, answering_at_central, answering_at_peripheral, handing, refusing}

length-push : {X : Type 0} (xs : List X) (x : X) → length (xs ++ x ∷ []) ≡ length xs + 1
length-push [] x = refl
length-push (first ∷ xs) x = let h = length-push xs x in omega (arith, h)

room_reply : (closing : Closing) (reply : Reply) (queue : QueueFacts) (asks : Bool) → (is_open closing && nat_le 16 (waiting_in queue) && (has_reply reply || asks)) ≡ false
    → waiting_in queue < 24 → waiting_in (with_reply closing reply queue) < 24
room_reply closing no_reply queue asks full room = room
room_reply closing (Reject rejection) queue asks full room = by (is_open closing) full
  where
    by : (b : Bool) → (b && nat_le 16 (waiting_in queue) && true) ≡ false
        → waiting_in (if b then record queue { rejections = queue.rejections ++ rejection ∷ [] } else queue) < 24
    by true lasts =
        let less = few (waiting_in queue) true lasts refl in
        let long = length-push queue.rejections rejection in
        omega (arith, less, long)
    by false lasts = room
room_reply closing (Answer draft) queue asks full room = by (is_open closing) full
  where
    by : (b : Bool) → (b && nat_le 16 (waiting_in queue) && true) ≡ false
        → waiting_in (if b then record queue { drafts = queue.drafts ++ draft ∷ [] } else queue) < 24
    by true lasts =
        let less = few (waiting_in queue) true lasts refl in
        let long = length-push queue.drafts draft in
        omega (arith, less, long)
    by false lasts = room

room_settled : (f : TableFacts) (slot : ℕ) (o : Outcome) → waiting_in f.queue < 24 → waiting_in (settled f slot o).0.queue < 24
room_settled f slot o room = by (lacks_room f o) (is_some o.step.ends) refl
  where
    of : Bool → Bool → TableFacts × TableStep
    of a b = (if a then (f, no_room) else (if b then (f, o.step) else (facts_with f slot o, o.step)))

    by : (a b : Bool) → lacks_room f o ≡ a → waiting_in (of a b).0.queue < 24
    by true b full = room
    by false true full = room
    by false false full = room_reply f.closing o.reply f.queue (asks_host o.step.effect) full room

either : (P : Control → Type 0) (b : Bool) (d e : Control) → P d → P e → P (if b then d else e)
either P true d e is1 is2 = is1
either P false d e is1 is2 = is2

abbrev HasRoom : Control → Type 0
HasRoom c = waiting_in c.table.queue < 24

room_taken : (f : TableFacts) (ends : Option ErrCode) (indication : Option Indication) (c : Control) → waiting_in f.queue < 24 → HasRoom c → HasRoom (taken f ends indication c)
room_taken f (Some code) indication c is room = room
room_taken f None None c is room = is
room_taken f None (Some indication) c is room = either HasRoom (is_to_come c.track indication) _ _ is room

pub room_taking : (read : CtrlRead) (slot : ℕ) (quiet : Bool) (h : Held) → waiting_in h.table.queue < 24
    → waiting_in (control_after (Takes read slot quiet) h).table.queue < 24
room_taking read slot quiet h room = by (is_none h.ends)
  where
    by : (b : Bool) → waiting_in (if b then moved (Takes read slot quiet) (control_of h) else control_of h).table.queue < 24
    by true =
        let r = took_step h.table read slot quiet in
        room_taken r.0 r.1.ends (indicated_by r.1.effect) (control_of h) (room_settled h.table slot (outcome_of h.table quiet read) room) room
    by false = room

-- as a PDU is handed on
pub room_handing : (slot : ℕ) (read : CtrlRead) (h : HeldKeyed) → waiting_in h.control.table.queue < 24
    → waiting_in (handing slot read h).control.table.queue < 24
room_handing slot read h room = room_taking _ slot _ h.control room

-- ---- an event was entered

abbrev Enters : ℕ → Control → Type 0
Enters n c = c.track.entered ≡ n

entered_taken : (n : ℕ) (f : TableFacts) (ends : Option ErrCode) (indication : Option Indication) (c : Control) → Enters n c → Enters n (taken f ends indication c)
entered_taken n f (Some code) indication c is = is
entered_taken n f None None c is = is
entered_taken n f None (Some indication) c is = either (Enters n) (is_to_come c.track indication) _ _ is is

entered_taking : (read : CtrlRead) (slot : ℕ) (quiet : Bool) (h : Held) → (control_after (Takes read slot quiet) h).track.entered ≡ h.track.entered
entered_taking read slot quiet h = by (is_none h.ends)
  where
    by : (b : Bool) → (if b then moved (Takes read slot quiet) (control_of h) else control_of h).track.entered ≡ h.track.entered
    by true =
        let r = took_step h.table read slot quiet in
        entered_taken h.track.entered r.0 r.1.ends (indicated_by r.1.effect) (control_of h) refl
    by false = refl

-- ---- what each PDU that is queued leaves

either_end : (P : HeldKeyed → Type 0) (b : Bool) (h g : HeldKeyed) → P h → P g → P (if b then g else h)
either_end P true h g one other = other
either_end P false h g one other = one

-- what a PDU that is queued leaves of the control part and of what is kept, the answer to a PDU of the peer leaves
module _ (P : Held → Option Ctrl → Type 0) (owes : (ctrl : Ctrl) (c : Held) (kept : Option Ctrl) → P c kept → P (control_after (Owes ctrl) c) kept) where
  abbrev Now : HeldKeyed → Type 0
  Now h = P h.control h.kept

  now_refusing : (pdu : PduClass) (refused : Bool) (h : HeldKeyed) → Now h → Now (refusing pdu refused h)
  now_refusing Refusal true h is = is
  now_refusing Refusal false h is = is
  now_refusing pdu true h is = is
  now_refusing pdu false h is = is

  now_central : (refused : Bool) (ctrl : Ctrl) (h : HeldKeyed) → Now h → Now (answering_at_central refused ctrl h)
  now_central refused StartEncReq h is = either_end Now (is_asked h.end.phase) h _ is (owes StartEncRsp h.control h.kept is)
  now_central refused StartEncRsp h is = is
  now_central refused PauseEncRsp h is = either_end Now (may_follow Unlock h.end.phase) h _ is (owes PauseEncRsp h.control h.kept is)
  now_central refused ctrl h is = now_refusing (ctrl_class ctrl) refused h is

  now_peripheral : (response : Response) (ctrl : Ctrl) (h : HeldKeyed) → Now h → Now (answering_at_peripheral response ctrl h)
  now_peripheral response (EncReq rand ediv skd_m iv_m) h is =
      either_end Now (may_follow AskTransition h.end.phase) h _ is (owes (EncRsp response.skd_s response.iv_s) h.control h.kept is)
  now_peripheral response PauseEncReq h is = either_end Now (may_follow Pause h.end.phase) h _ is (owes PauseEncRsp h.control h.kept is)
  now_peripheral response StartEncRsp h is = either_end Now (may_follow Confirm h.end.phase) h _ is (owes StartEncRsp h.control h.kept is)
  now_peripheral response PauseEncRsp h is = is
  now_peripheral response ctrl h is = is

  now_at : (role : Role) (refused : Bool) (response : Response) (ctrl : Ctrl) (h : HeldKeyed) → Now h → Now (answering_at role refused response ctrl h)
  now_at Central refused response ctrl h is = now_central refused ctrl h is
  now_at Peripheral refused response ctrl h is = now_peripheral response ctrl h is

  pub now_answered : (refused : Bool) (response : Response) (read : CtrlRead) (h : HeldKeyed) → Now h → Now (answered refused response read h)
  now_answered refused response (Known ctrl) h is = now_at h.end.role refused response ctrl h is
  now_answered refused response (Unknown opcode) h is = is
  now_answered refused response Bare h is = is

owes_entered : (ctrl : Ctrl) (c : Held) (kept : Option Ctrl) → 1 ≤ c.track.entered → 1 ≤ (control_after (Owes ctrl) c).track.entered
owes_entered ctrl c kept is = by (is_none c.ends)
  where
    by : (b : Bool) → 1 ≤ (if b then moved (Owes ctrl) (control_of c) else control_of c).track.entered
    by true = is
    by false = is

pub entered_handed : (slot : ℕ) (refused : Bool) (response : Response) (read : CtrlRead) (h : HeldKeyed) → 1 ≤ h.control.track.entered
    → 1 ≤ (answered refused response read (handing slot read h)).control.track.entered
entered_handed slot refused response read h is =
    now_answered (λ (c : Held) (kept : Option Ctrl). 1 ≤ c.track.entered) owes_entered refused response read (handing slot read h)
    (subst (λ (n : ℕ). 1 ≤ n) (sym (entered_taking _ slot _ h.control)) is)

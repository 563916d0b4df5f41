-- What holds of each PDU of the encryption that an end queues holds of those that wait there and that it sends.
use Rattle.std.specs.Prelude.{⊤}
use Rattle.std.specs.List.{AllByRecursion}
use Rattle.std.proofs.Common.{◌≡◌, ℕ, true, List, [], ◌∷◌, ◌++◌, Option, Some, None, is_some, refl, sym, ap, subst, ◌∙◌}
use Rattle.ble_base.specs.declared.error_codes.ErrCode.{ErrCode}
use Rattle.data_pdu.specs.declared.ctrl.Ctrl.{Ctrl}
use Rattle.data_pdu.specs.declared.ctrl.Ctrl.TheVariants.{EncReq, EncRsp, PauseEncReq, PauseEncRsp, StartEncReq, StartEncRsp}
use Rattle.phased_control.specs.procedure_values.declared.drafts.Draft.{Draft}
use Rattle.phased_control.specs.procedure_values.declared.drafts.Draft.TheVariants.{Cipher}
use Rattle.phased_control.specs.procedure_values.declared.drafts.Outgoing.{Outgoing}
use Rattle.phased_control.specs.procedure_values.declared.drafts.Outgoing.TheVariants.{Disconnect, Nothing, Other, Rejection}
use Rattle.phased_control.specs.procedure_values.Drafts.{ctrl_of_draft, ctrl_of_outgoing}
use Rattle.phased_control.specs.procedures.Table.{TableFacts}
use Rattle.phased_control.specs.control_model.Control.{Control, Step, Owes, Sends as control_sends, after, after_all}
use Rattle.phased_control.specs.Ciphers.{cipher_in, cipher_of, ciphers_waiting}
use Rattle.phased_control.specs.Phased.{Phased, is_quiet_now}
use Rattle.phased_control.specs.Steps.{control_steps, end_by_phase, ended_if}
use Rattle.phased_control.specs.Taken.{PhasedStep, Sends, phased_after}
use Rattle.phased_control.proofs.Ciphers.{Holds, IsOut, Sort, held_after, held_owing}
use Rattle.phased_control.proofs.Moving.{moves_by_steps}
use Rattle.joint_controls.specs.Joint.{Control as control_item, Clear, Data, Fixed, Item, OnAir, Taken, Way, event_now, item_by, latency_now, next_item, next_out}
use Rattle.joint_controls.proofs.LastPdus.{sends_next}

-- a fact of PDUs of the encryption alone
abbrev pub IsPlain : (Ctrl → Type 0) → Type 0
IsPlain F = (ctrl : Ctrl) → cipher_in ctrl ≡ [] → F ctrl

abbrev pub AllWait : (Ctrl → Type 0) → Phased → Type 0
AllWait F s = AllByRecursion F (ciphers_waiting s.control.table)

abbrev pub IsItemFine : (Ctrl → Type 0) → Item → Type 0
IsItemFine F (control_item outgoing ctrl) = F ctrl
IsItemFine F Data = ⊤

-- of what is on its way, and not taken
abbrev pub IsWayFine : (Ctrl → Type 0) → Way → Type 0
IsWayFine F (Fixed item sealed) = IsItemFine F item
IsWayFine F (OnAir item sealed) = IsItemFine F item
IsWayFine F way = ⊤

abbrev pub IsNextFine : (Ctrl → Type 0) → Option Item → Type 0
IsNextFine F (Some item) = IsItemFine F item
IsNextFine F None = ⊤

abbrev pub IsOwedFine : (Ctrl → Type 0) → Step → Type 0
IsOwedFine F (Owes ctrl) = F ctrl
IsOwedFine F step = ⊤

abbrev pub AreOwedFine : (Ctrl → Type 0) → List Step → Type 0
AreOwedFine F [] = ⊤
AreOwedFine F (step ∷ steps) = IsOwedFine F step × AreOwedFine F steps

pub owed_joined : (F : Ctrl → Type 0) (xs ys : List Step) → AreOwedFine F xs → AreOwedFine F ys → AreOwedFine F (xs ++ ys)
owed_joined F [] ys one other = other
owed_joined F (x ∷ xs) ys one other = (one.0, owed_joined F xs ys one.1 other)

-- one fact from another
module _ (F G : Ctrl → Type 0) (on : (ctrl : Ctrl) → F ctrl → G ctrl) where
  pub all_on : (ctrls : List Ctrl) → AllByRecursion F ctrls → AllByRecursion G ctrls
  all_on [] all = tt
  all_on (ctrl ∷ ctrls) all = (on ctrl all.0, all_on ctrls all.1)

  pub way_on : (w : Way) → IsWayFine F w → IsWayFine G w
  way_on Clear fine = tt
  way_on (Taken item) fine = tt
  way_on (Fixed Data sealed) fine = tt
  way_on (Fixed (control_item outgoing ctrl) sealed) fine = on ctrl fine
  way_on (OnAir Data sealed) fine = tt
  way_on (OnAir (control_item outgoing ctrl) sealed) fine = on ctrl fine

module _ (F : Ctrl → Type 0) (plain : IsPlain F) where
  abbrev Any : Ctrl → Type 0
  Any ctrl = Unit {0}

  any_all : (ctrls : List Ctrl) → AllByRecursion Any ctrls
  any_all [] = tt
  any_all (ctrl ∷ ctrls) = (tt, any_all ctrls)

  any_out : (out : Outgoing) → IsOut Any out
  any_out (Other draft) = any_all (cipher_of draft)
  any_out out = tt

  sort : Sort (AllByRecursion F) F
  sort = record { rest = λ x xs all. all.1; head = λ x xs all. all.0 }

  any_sort : Sort (AllByRecursion F) Any
  any_sort = record { rest = λ x xs all. all.1; head = λ x xs all. tt }

  -- a PDU by itself, and as a list of one
  listed : (ctrl : Ctrl) → F ctrl → AllByRecursion F (cipher_in ctrl)
  listed (EncReq rand ediv skd_m iv_m) h = (h, tt)
  listed (EncRsp skd_s iv_s) h = (h, tt)
  listed StartEncReq h = (h, tt)
  listed StartEncRsp h = (h, tt)
  listed PauseEncReq h = (h, tt)
  listed PauseEncRsp h = (h, tt)
  listed ctrl h = tt

  alone : (ctrl : Ctrl) → AllByRecursion F (cipher_in ctrl) → F ctrl
  alone (EncReq rand ediv skd_m iv_m) all = all.0
  alone (EncRsp skd_s iv_s) all = all.0
  alone StartEncReq all = all.0
  alone StartEncRsp all = all.0
  alone PauseEncReq all = all.0
  alone PauseEncRsp all = all.0
  alone ctrl all = plain ctrl refl

  both_all : (xs ys : List Ctrl) → AllByRecursion F xs → AllByRecursion F ys → AllByRecursion F (xs ++ ys)
  both_all [] ys one other = other
  both_all (x ∷ xs) ys one other = (one.0, both_all xs ys one.1 other)

  -- ---- the steps of the control part

  abbrev Waits : Control → Type 0
  Waits c = AllByRecursion F (ciphers_waiting c.table)

  holds : (c : Control) → Waits c → Holds (AllByRecursion F) Any c.table
  holds c all = record { waits = all; out = any_out c.table.out }

  one_step : (step : Step) (c : Control) → IsOwedFine F step → Waits c → Waits (after step c)
  one_step (Owes ctrl) c fine all =
      (held_owing (AllByRecursion F) Any any_sort ctrl c (holds c all) (λ opens. both_all (ciphers_waiting c.table) (cipher_in ctrl) all (listed ctrl fine))).waits
  one_step step c fine all = (held_after (AllByRecursion F) Any any_sort step c refl (holds c all)).waits

  all_steps : (steps : List Step) (c : Control) → AreOwedFine F steps → Waits c → Waits (after_all steps c)
  all_steps [] c fine all = all
  all_steps (step ∷ steps) c fine all = all_steps steps (after step c) fine.1 (one_step step c fine.0 all)

  ended_table : (end : Option ErrCode) (c : Control) → (ended_if end c).table ≡ c.table
  ended_table None c = refl
  ended_table (Some code) c = refl

  pub waits_on : (step : PhasedStep) (s : Phased) → s.control.ends ≡ None → AreOwedFine F (control_steps step s) → AllWait F s → AllWait F (phased_after step s)
  waits_on step s lasts fine all =
      subst (λ (c : Control). Waits c) (sym (moves_by_steps step s lasts))
      (subst (λ (f : TableFacts). AllByRecursion F (ciphers_waiting f)) (sym (ended_table (end_by_phase step s) (after_all (control_steps step s) s.control)))
      (all_steps (control_steps step s) s.control fine all))

  -- ---- what is sent next

  draft_fine : (draft : Draft) (event latency : ℕ) → AllByRecursion F (cipher_of draft) → F (ctrl_of_draft draft event latency)
  draft_fine (Cipher ctrl) event latency all = alone ctrl all
  draft_fine draft event latency all = plain _ refl

  item_fine : (out : Outgoing) (event latency : ℕ) → IsOut F out → IsNextFine F (item_by out (ctrl_of_outgoing out event latency))
  item_fine Nothing event latency fine = tt
  item_fine (Rejection rejection) event latency fine = plain _ refl
  item_fine (Disconnect code) event latency fine = plain _ refl
  item_fine (Other draft) event latency fine = draft_fine draft event latency fine

  pub next_fine : (s : Phased) → s.control.ends ≡ None → s.control.table.out ≡ Nothing → is_some (next_item s) ≡ true → AllWait F s → IsNextFine F (next_item s)
  next_fine s lasts none some all =
      let sent : Holds (AllByRecursion F) F (after (control_sends 0 (is_quiet_now s)) s.control).table =
      held_after (AllByRecursion F) F sort (control_sends 0 (is_quiet_now s)) s.control refl (record { waits = all; out = subst (IsOut F) (sym none) tt }) in
      let out : IsOut F (next_out s) =
      subst (IsOut F) (ap (λ (c : Control). c.table.out) (sym (moves_by_steps (Sends 0) s lasts)) ∙ sends_next s 0 lasts some) sent.out in
      item_fine (next_out s) (event_now s) (latency_now s) out

-- The halves of the keys in each step of the peripheral of a joint run.
use Rattle.std.proofs.Common.{◌≡◌, ℕ, ◌==◌, Bool, true, false, ◌&&◌, if◌then◌else◌, List, Option, Some, None, is_some, refl, sym, ap, subst, ◌∙◌}
use Rattle.ble_base.specs.declared.roles.Role.{Role}
use Rattle.ble_base.specs.declared.roles.Role.TheVariants.{Central, Peripheral}
use Rattle.data_pdu.specs.declared.ctrl.Ctrl.{Ctrl}
use Rattle.data_pdu.specs.declared.ctrl.Ctrl.TheVariants.{EncReq, RejectExtInd}
use Rattle.data_pdu.specs.declared.ctrl.CtrlRead.TheVariants.{Known}
use Rattle.enc_phase.specs.declared.classes.PduClass.{PduClass}
use Rattle.enc_phase.specs.declared.classes.PduClass.TheVariants.{Other, Refusal}
use Rattle.enc_phase.specs.declared.facts.PhaseFacts.{PhaseFacts}
use Rattle.enc_phase.specs.declared.facts.PhaseFacts.TheVariants.{Clear, HalfClear}
use Rattle.enc_phase.specs.declared.facts.Transition.TheVariants.{Ask, Refuse}
use Rattle.enc_phase.specs.Phases.{may_follow, seals}
use Rattle.enc_phase.specs.Taking.{ctrl_class, phase_taking}
use Rattle.phased_control.specs.PhaseChanges.{Change, Moves, Starts, Stays, answer_change, change_of, changed, first_change, may_change, taken_change}
use Rattle.phased_control.specs.Phased.{Phased, ask_begun, asks_again, is_encrypt, is_open_now, is_pause_rsp, is_quiet_now, table_entered}
use Rattle.phased_control.specs.Steps.{control_steps, read_answer, seen_by_procedures}
use Rattle.phased_control.specs.Taken.{PhasedStep, Response, phased_after, role_now}
use Rattle.phased_control.specs.Taken.{Enters as phased_enters, GivesKey as phased_gives_key, LacksKey as phased_lacks_key, SeesAcknowledged as phased_sees_acknowledged, Sends as phased_sends, Takes as phased_takes, TakesData as phased_takes_data}
use Rattle.phased_control.specs.procedures.Beginning.{begin_step}
use Rattle.phased_control.specs.procedure_values.declared.drafts.Outgoing.{Outgoing}
use Rattle.phased_control.specs.table_laws.Encrypting.{has_encryption}
use Rattle.phased_control.proofs.Requests.{role_entered}
use Rattle.phased_control.proofs.Tables.{begins_encryption}
use Rattle.phase_pairs.specs.Agreement.{untaken_pdu}
use Rattle.keyed_control.specs.declared.material.KeyMaterial.{KeyMaterial}
use Rattle.keyed_control.specs.KeyedSteps.{KeyedStep, Enters, GivesKey, LacksKey, SeesAcknowledged, Takes, TakesData, keyed_moved, with_asked_if, with_key, with_read}
use Rattle.joint_controls.specs.Ends.{outgoing_on}
use Rattle.joint_controls.specs.Joint.{AnswersRequest, AsksFor, Clear as clear_way, Control, Data, Ends, Fixed, HasKey, HasNoKey, HostStep, Item, OnAir, Taken, Way, fixed, host_step, is_clear, is_fixed, item_on_air, next_item, peripheral_takes, sent_up, taking}
use Rattle.joint_phases.specs.Pairs.{pair_of}
use Rattle.joint_phases.specs.Parts.{way_down}
use Rattle.joint_keys.specs.KeyedJoint.{KeyedJoint, Keys, host_keyed, item_keyed, keyed_with, keys_after, keys_opening, keys_taking}
use Rattle.joint_keys.proofs.CentralVectors.{clear_is, material_is}
use Rattle.joint_keys.proofs.KeysGoing.{changes_at, may_at}
use Rattle.joint_keys.proofs.Materials.{ByPeer, HaveSecond, IsReqOf, IsRspOf, by_peer, is_asking, is_req, moves, asks, peripheral_reads_same, rsp_second, same_second}
use Rattle.joint_keys.proofs.Owed.{IsOptionFine, acked_owed, answer, answer_rsp, enters_owed, host_owed, lets_rsp, same_role_seen, taken_owed}
use Rattle.joint_keys.proofs.PairFacts.{IsBefore, asked_alone, fine_up, front_none, may_ask, none_down}
use Rattle.joint_keys.proofs.Queues.{AllWait, AreOwedFine, IsNextFine, IsPlain, IsWayFine, all_on, next_fine, waits_on, way_on}
use Rattle.joint_keys.proofs.Standing.{Standing}
use Rattle.joint_keys.proofs.Vectors.{PeripheralGoes, peripheral_plain, peripheral_rests, peripheral_starts, peripheral_takes as takes_material}
use Rattle.joint_keys.proofs.Walking.{Here}

-- what is to be known of the peripheral, with its last PDU on this way
pub record PeripheralHas (s : Phased) (n : KeyMaterial) (up : Way) : Type 0 where
  pub waits : AllWait (IsRspOf n) s
  pub way : IsWayFine (IsRspOf n) up

-- and after a step
pub record PeripheralNext (p q : PhaseFacts) (m n : KeyMaterial) (t : Phased) (k : KeyMaterial) (up : Way) : Type 0 where
  pub goes : PeripheralGoes p q t.phase m n k
  pub has : PeripheralHas t k up

-- ---- LL_ENC_REQ

asks_from : (c : Change) (q : PhaseFacts) → may_change c q ≡ true → is_asking c ≡ true → may_ask q ≡ true
asks_from (Moves Ask) Clear may is = refl
asks_from (Moves Ask) (HalfClear a) may is = refl
asks_from (Moves Ask) q may is = absurd (cc)
asks_from c q may is = absurd (cc)

abbrev IsNoReq : Ctrl → Type 0
IsNoReq ctrl = is_req (ctrl_class ctrl) ≡ true → ⊥

no_req : IsPlain IsNoReq
no_req (EncReq rand ediv skd_m iv_m) none is = absurd (cc)
no_req (RejectExtInd opcode code) none is = by (opcode == 3) is
  where
    by : (b : Bool) → is_req (if b then Refusal else Other) ≡ true → ⊥
    by true h = absurd (cc)
    by false h = absurd (cc)
no_req ctrl none is = absurd (cc)

no_request : (b : Bool) (o : Option Ctrl) (x y : Bool) → o ≡ None → (b && (x && (y && is_some o))) ≡ false
no_request b None x y is = by b x y
  where
    by : (b x y : Bool) → (b && (x && (y && false))) ≡ false
    by true true true = refl
    by true true false = refl
    by true false y = refl
    by false x y = refl
no_request b (Some ctrl) x y is = absurd (cc)

two_roles : Central ≡ Peripheral → ⊥
two_roles is = absurd (cc)

asking_req : (pdu : PduClass) (c : Change) → ByPeer pdu c → is_asking c ≡ true → is_req pdu ≡ true
asking_req pdu (Moves Ask) (asks is) asking = is
asking_req pdu (Moves Ask) (moves _ none) asking = absurd (cc)
asking_req pdu c by_it asking = absurd (cc)

module _ (s : KeyedJoint) (here : Here s.joint) (st : Standing s) (has : PeripheralHas s.joint.peripheral s.peripheral.material s.joint.up) where
  abbrev c : Phased
  c = s.joint.peripheral

  abbrev p : PhaseFacts
  p = s.joint.central.phase

  abbrev q : PhaseFacts
  q = c.phase

  abbrev m : KeyMaterial
  m = s.central.material

  abbrev n : KeyMaterial
  n = s.peripheral.material

  abbrev Next : Phased → KeyMaterial → Way → Type 0
  Next t k up = PeripheralNext p q m n t k up

  role : role_now c ≡ Peripheral
  role = st.shown.peripheral.role

  goes_by : (step : PhasedStep) (k : KeyMaterial) → PeripheralGoes p q (changed (change_of step c) q) m n k → PeripheralGoes p q (phased_after step c).phase m n k
  goes_by step k goes = subst (λ (x : PhaseFacts). PeripheralGoes p q x m n k) (sym (changes_at Peripheral c here.peripheral here.goes.peripheral step)) goes

  may_now : (step : PhasedStep) → may_change (change_of step c) q ≡ true
  may_now step = may_at Peripheral c here.peripheral here.goes.peripheral step

  -- the material is this after a step
  moves_with : (keys : Keys) (step : KeyedStep) (r : PhasedStep) (k : KeyMaterial) (up : Way) → (keyed_moved step (keyed_with c keys)).material ≡ k
      → PeripheralGoes p q (changed (change_of r c) q) m n k → AreOwedFine (IsRspOf k) (control_steps r c) → AllWait (IsRspOf k) c → IsWayFine (IsRspOf k) up
      → Next (phased_after r c) (keys_after step c keys).material up
  moves_with keys step r k up is goes owed waits way =
      let same : (keys_after step c keys).material ≡ k = material_is (λ x. x ≡ k) c keys step here.goes.peripheral is in
      record {
        goes = subst (λ (x : KeyMaterial). PeripheralGoes p q (phased_after r c).phase m n x) (sym same) (goes_by r k goes);
        has =
            record {
              waits = subst (λ (x : KeyMaterial). AllWait (IsRspOf x) (phased_after r c)) (sym same) (waits_on (IsRspOf k) (lets_rsp k).plain r c here.goes.peripheral owed waits);
              way = subst (λ (x : KeyMaterial). IsWayFine (IsRspOf x) up) (sym same) way;
            };
      }

  stays_by : (change : Change) → change ≡ Stays → PeripheralGoes p q (changed change q) m n n
  stays_by change is = subst (λ (x : Change). PeripheralGoes p q (changed x q) m n n) (sym is) (peripheral_rests p q m n)

  -- ---- an event is entered: no encryption begins

  begins_none : (slot : ℕ) (b : Bool) → is_encrypt (begin_step (table_entered c) slot (is_quiet_now c)).1 ≡ b → b ≡ false
  begins_none slot true is = absurd (two_roles (sym (begins_encryption (table_entered c) slot (is_quiet_now c) is).role ∙ role_entered c ∙ role))
  begins_none slot false is = refl

  pub next_enters : (slot : ℕ) → Next (phased_after (phased_enters slot) c) (keys_after (Enters slot) c s.peripheral).material s.joint.up
  next_enters slot =
      let none = begins_none slot _ refl in
      moves_with s.peripheral (Enters slot) (phased_enters slot) n s.joint.up (ap (λ (b : Bool). with_asked_if b (ask_begun (table_entered c) (is_quiet_now c)) n) none)
      (stays_by _ (ap (λ (b : Bool). if b then first_change q else Stays) none))
      (enters_owed (IsRspOf n) (lets_rsp n) slot c (λ is. absurd (apart (sym none ∙ is)))) has.waits has.way
    where
      apart : false ≡ true → ⊥
      apart is = absurd (cc)

  -- ---- the host

  gives : (b : Bool) (ltk : List ℕ) → may_change (if b then Starts else Stays) q ≡ true
      → PeripheralGoes p q (changed (if b then Starts else Stays) q) m n (with_key (if b then Starts else Stays) ltk n) × HaveSecond n (with_key (if b then Starts else Stays) ltk n)
  gives true ltk may =
      (peripheral_starts p q m n (record n { ltk = ltk }) may (record { skd = refl; iv_too = refl }) (record { skd = refl; iv_too = refl }), record { skd = refl; iv_too = refl })
  gives false ltk may = (peripheral_rests p q m n, same_second n)

  lacks : (b r : Bool) → may_change (if b then (if r then Moves Refuse else Stays) else Stays) q ≡ true
      → PeripheralGoes p q (changed (if b then (if r then Moves Refuse else Stays) else Stays) q) m n n
  lacks true true may = peripheral_plain (Moves Refuse) p q m n may refl
  lacks true false may = peripheral_rests p q m n
  lacks false r may = peripheral_rests p q m n

  pub next_host : (step : HostStep) (ltk : List ℕ) → Next (phased_after (host_step step) c) (keys_after (host_keyed step ltk) c s.peripheral).material s.joint.up
  next_host (AsksFor ask) ltk =
      moves_with s.peripheral (host_keyed (AsksFor ask) ltk) (host_step (AsksFor ask)) n s.joint.up refl (peripheral_rests p q m n) (host_owed (IsRspOf n) (lets_rsp n) (AsksFor ask) c) has.waits has.way
  next_host (AnswersRequest answer) ltk =
      moves_with s.peripheral (host_keyed (AnswersRequest answer) ltk) (host_step (AnswersRequest answer)) n s.joint.up refl (peripheral_rests p q m n)
      (host_owed (IsRspOf n) (lets_rsp n) (AnswersRequest answer) c) has.waits has.way
  next_host (Ends reason) ltk =
      moves_with s.peripheral (host_keyed (Ends reason) ltk) (host_step (Ends reason)) n s.joint.up refl (peripheral_rests p q m n) (host_owed (IsRspOf n) (lets_rsp n) (Ends reason) c) has.waits has.way
  next_host HasKey ltk =
      let given = gives (c.asks_key && is_open_now c) ltk (may_now phased_gives_key) in
      let k = with_key (change_of phased_gives_key c) ltk n in
      let on = rsp_second n k given.1 in
      moves_with s.peripheral (GivesKey ltk) phased_gives_key k s.joint.up refl given.0 (host_owed (IsRspOf k) (lets_rsp k) HasKey c)
      (all_on (IsRspOf n) (IsRspOf k) on _ has.waits) (way_on (IsRspOf n) (IsRspOf k) on s.joint.up has.way)
  next_host HasNoKey ltk =
      moves_with s.peripheral LacksKey phased_lacks_key n s.joint.up refl (lacks (c.asks_key && is_open_now c) (may_follow Refuse q) (may_now phased_lacks_key))
      (host_owed (IsRspOf n) (lets_rsp n) HasNoKey c) has.waits has.way

  -- ---- a PDU is fixed, and sent

  on_way : (o : Option Item) → IsNextFine (IsRspOf n) o → IsWayFine (IsRspOf n) (fixed o)
  on_way None fine = tt
  on_way (Some item) fine = fine

  pub next_fixes : (slot : ℕ) → is_clear s.joint.up ≡ true → is_some (next_item c) ≡ true → Next (phased_after (phased_sends slot) c) n (fixed (next_item c))
  next_fixes slot clear some =
      let none = here.out_up ∙ ap (λ (w : Way). outgoing_on w) (clear_is s.joint.up clear) in
      record {
        goes = goes_by (phased_sends slot) n (peripheral_rests p q m n);
        has =
            record {
              waits = waits_on (IsRspOf n) (lets_rsp n).plain (phased_sends slot) c here.goes.peripheral (tt, tt) has.waits;
              way = on_way (next_item c) (next_fine (IsRspOf n) (lets_rsp n).plain c here.goes.peripheral none some has.waits);
            };
      }

  pub next_rests : (up : Way) → IsWayFine (IsRspOf n) up → Next c n up
  next_rests up way = record { goes = peripheral_rests p q m n; has = record { waits = has.waits; way = way } }

  sent_way : (w : Way) (b : Bool) → is_fixed w ≡ true → IsWayFine (IsRspOf n) w → IsWayFine (IsRspOf n) (sent_up w b)
  sent_way (Fixed Data sealed) b is fine = fine
  sent_way (Fixed (Control outgoing ctrl) sealed) b is fine = fine
  sent_way clear_way b is fine = absurd (cc)
  sent_way (OnAir item sealed) b is fine = absurd (cc)
  sent_way (Taken item) b is fine = absurd (cc)

  pub next_sends : is_fixed s.joint.up ≡ true → Next c n (sent_up s.joint.up (seals Peripheral q))
  next_sends is = next_rests (sent_up s.joint.up (seals Peripheral q)) (sent_way s.joint.up (seals Peripheral q) is has.way)

  -- ---- it is acknowledged

  none_again : asks_again c ≡ false
  none_again =
      no_request (is_pause_rsp c.control.table.out) c.request (may_follow Ask q) (is_open_now c) st.shown.peripheral.request

  pub next_acked : Next (phased_after phased_sees_acknowledged c) (keys_after SeesAcknowledged c s.peripheral).material clear_way
  next_acked =
      moves_with s.peripheral SeesAcknowledged phased_sees_acknowledged n clear_way refl (stays_by _ (ap (λ (b : Bool). if b then Moves Ask else Stays) none_again))
      (acked_owed (IsRspOf n) (lets_rsp n) c (λ is. absurd (apart (sym none_again ∙ is)))) has.waits tt
    where
      apart : false ≡ true → ⊥
      apart is = absurd (cc)

  -- ---- a PDU of the central is taken

  abbrev ReqFine : Item → Type 0
  ReqFine Data = Unit {0}
  ReqFine (Control outgoing ctrl) = IsReqOf m ctrl

  -- where that is LL_ENC_REQ, nothing of the encryption waits here
  before_request : (outgoing : Outgoing) (ctrl : Ctrl) (sealed : Bool) → s.joint.down ≡ OnAir (Control outgoing ctrl) sealed → is_req (ctrl_class ctrl) ≡ true → may_ask q ≡ true
      → IsBefore (pair_of s.joint) p
  before_request outgoing ctrl sealed at is may =
      asked_alone (pair_of s.joint) p q may
      (λ none. subst (λ (w : Way). IsWayFine IsNoReq w) at
      (none_down IsNoReq no_req s.joint.central.knows_version s.joint.down (front_none (untaken_pdu (way_down s.joint.central.knows_version s.joint.down)) _ none)) is)
      here.paired

  module _ (slot : ℕ) (response : Response) (outgoing : Outgoing) (ctrl : Ctrl) (sealed : Bool) (at : s.joint.down ≡ OnAir (Control outgoing ctrl) sealed) (fine : IsReqOf m ctrl) where
    abbrev change : Change
    change = taken_change (Known ctrl) slot c

    abbrev read_as : Role → KeyMaterial
    read_as r = with_read r (Known ctrl) response change q n

    by_ctrl : ByPeer (ctrl_class ctrl) change
    by_ctrl = by_peer (Known ctrl) slot c

    may_take : may_change change q ≡ true
    may_take = may_now (phased_takes (Known ctrl) slot response)

    material_goes : PeripheralGoes p q (changed change q) m n (read_as (role_now c))
    material_goes =
        subst (λ (r : Role). PeripheralGoes p q (changed change q) m n (read_as r)) (sym role)
        (takes_material response p m n ctrl change q by_ctrl may_take (λ asking is. (fine, (before_request outgoing ctrl sealed at is (asks_from change q may_take asking)).no_rsp)))

    has_before : (b : Bool) → is_asking change ≡ b → PeripheralHas c (read_as Peripheral) s.joint.up
    has_before true asking =
        let k = read_as Peripheral in
        let before = before_request outgoing ctrl sealed at (asking_req (ctrl_class ctrl) change by_ctrl asking) (asks_from change q may_take asking) in
        let all = fine_up (IsRspOf k) (lets_rsp k).plain s.joint before.none_up in
        record { waits = all.waits; way = all.way }
    has_before false none =
        subst (λ (k : KeyMaterial). PeripheralHas c k s.joint.up) (sym (peripheral_reads_same response n ctrl change q none)) has

    before : PeripheralHas c (read_as (role_now c)) s.joint.up
    before = subst (λ (r : Role). PeripheralHas c (read_as r) s.joint.up) (sym role) (has_before (is_asking change) refl)

    abbrev Fact : Change → Ctrl → Type 0
    Fact x = IsRspOf (with_read (role_now c) (Known ctrl) response x q n)

    abbrev encrypts : Bool
    encrypts = has_encryption (seen_by_procedures (Known ctrl) slot c).control.table.progress

    owed : AreOwedFine (IsRspOf (read_as (role_now c))) (control_steps (phased_takes (Known ctrl) slot response) c)
    owed =
        taken_owed Fact (Known ctrl) slot response c
        (subst (λ (r : Role). IsOptionFine (Fact (answer Fact (Known ctrl) slot response c)) (read_answer r response (Known ctrl) (phase_taking (ctrl_class ctrl) q)))
        (sym (same_role_seen Fact (Known ctrl) slot response c ∙ role))
        (subst
        (λ (r : Role). IsOptionFine (IsRspOf (with_read r (Known ctrl) response (answer_change r (ctrl_class ctrl) encrypts q) q n)) (read_answer Peripheral response (Known ctrl) (phase_taking (ctrl_class ctrl) q)))
        (sym role) (answer_rsp response n encrypts q ctrl)))

    control_taken : Next (phased_after (phased_takes (Known ctrl) slot response) c) (keys_after (Takes (Known ctrl) slot response) c (keys_opening s.peripheral)).material s.joint.up
    control_taken =
        moves_with (keys_opening s.peripheral) (Takes (Known ctrl) slot response) (phased_takes (Known ctrl) slot response) (read_as (role_now c)) s.joint.up refl material_goes owed before.waits before.way

  item_taken : (slot : ℕ) (response : Response) (item : Item) (sealed : Bool) → s.joint.down ≡ OnAir item sealed → IsWayFine (IsReqOf m) (OnAir item sealed)
      → Next (phased_after (taking item slot response) c) (keys_after (item_keyed item slot response) c (keys_opening s.peripheral)).material s.joint.up
  item_taken slot response Data sealed at fine =
      moves_with (keys_opening s.peripheral) TakesData phased_takes_data n s.joint.up refl (peripheral_rests p q m n) tt has.waits has.way
  item_taken slot response (Control outgoing ctrl) sealed at fine = control_taken slot response outgoing ctrl sealed at fine

  pub next_takes : (slot : ℕ) (response : Response) (w : Way) → s.joint.down ≡ w → is_some (item_on_air w) ≡ true → IsWayFine (IsReqOf m) w
      → Next (peripheral_takes w slot response s.joint).peripheral (keys_taking (item_on_air w) slot response c s.peripheral).material (peripheral_takes w slot response s.joint).up
  next_takes slot response (OnAir item sealed) at some fine = item_taken slot response item sealed at fine
  next_takes slot response clear_way at some fine = absurd (cc)
  next_takes slot response (Fixed item sealed) at some fine = absurd (cc)
  next_takes slot response (Taken item) at some fine = absurd (cc)

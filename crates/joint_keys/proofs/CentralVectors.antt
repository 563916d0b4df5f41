-- The halves of the keys in each step of the central of a joint run.
use Rattle.std.proofs.Common.{◌≡◌, inr, ℕ, Bool, true, false, ◌&&◌, if◌then◌else◌, List, Option, Some, None, is_some, refl, sym, ap, subst, ◌∙◌}
use Rattle.std.proofs.lemmas.Bool.{and_parts}
use Rattle.ble_base.specs.declared.roles.Role.{Role}
use Rattle.ble_base.specs.declared.roles.Role.TheVariants.{Central}
use Rattle.data_pdu.specs.declared.ctrl.Ctrl.{Ctrl}
use Rattle.data_pdu.specs.declared.ctrl.CtrlRead.TheVariants.{Known}
use Rattle.enc_phase.specs.declared.facts.PhaseFacts.{PhaseFacts}
use Rattle.enc_phase.specs.declared.facts.PhaseFacts.TheVariants.{Clear, Secure}
use Rattle.enc_phase.specs.declared.facts.Transition.TheVariants.{Ask}
use Rattle.enc_phase.specs.Phases.{is_quiet, seals}
use Rattle.enc_phase.specs.Taking.{allows, ctrl_class}
use Rattle.phased_control.specs.PhaseChanges.{Change, Moves, Starts, Stays, change_of, changed, first_change, may_change, taken_change}
use Rattle.phased_control.specs.Phased.{Phased, ask_begun, asks_again, is_encrypt, is_open_now, is_quiet_now, request_of, table_entered}
use Rattle.phased_control.specs.Taken.{PhasedStep, phased_after, role_now}
use Rattle.phased_control.specs.Taken.{Enters as phased_enters, SeesAcknowledged as phased_sees_acknowledged, Sends as phased_sends, Takes as phased_takes, TakesData as phased_takes_data}
use Rattle.phased_control.specs.Steps.{control_steps}
use Rattle.phased_control.specs.procedures.Beginning.{begin_step}
use Rattle.phased_control.specs.procedure_values.declared.asks.Ask.{Ask as HostAsk}
use Rattle.phased_control.specs.procedure_values.declared.asks.Ask.TheVariants.{Encrypt}
use Rattle.phased_control.specs.procedure_values.declared.drafts.Outgoing.TheVariants.{Nothing}
use Rattle.phase_pairs.specs.Counted.{counted_run}
use Rattle.keyed_control.specs.declared.material.KeyMaterial.{KeyMaterial}
use Rattle.keyed_control.specs.Keyed.{Keyed}
use Rattle.keyed_control.specs.KeyedSteps.{KeyedStep, Enters, SeesAcknowledged, Sends, Takes, TakesData, keyed_moved, phased_step, with_asked, with_asked_if, with_key, with_read}
use Rattle.keyed_control.proofs.Phases.{after_one, phased_once}
use Rattle.joint_controls.specs.Joint.{AnswersRequest, AsksFor, Clear as clear_way, Control, Data, Ends, Fixed, HasKey, HasNoKey, HostStep, Item, OnAir, Taken, Way, central_takes, host_step, is_clear, is_taken, item_on_air, next_item, no_response, on_air, taking}
use Rattle.joint_controls.specs.Ends.{outgoing_on}
use Rattle.enc_phase.specs.declared.classes.PduClass.{PduClass}
use Rattle.phase_pairs.specs.Agreement.{has_meaning}
use Rattle.joint_phases.specs.Agreement.{is_allowed_right}
use Rattle.joint_phases.specs.Classes.{item_class}
use Rattle.joint_phases.specs.Pairs.{pair_of}
use Rattle.joint_keys.specs.KeyedJoint.{KeyedJoint, Keys, host_keyed, item_keyed, keyed_with, keys_after, keys_opening, keys_taking}
use Rattle.joint_keys.proofs.Counting.{link_of_run}
use Rattle.joint_keys.proofs.HalvesKept.{HalvesAt, asks_as_before, halves_next}
use Rattle.joint_keys.proofs.KeysGoing.{changes_at, may_at, open_keyed}
use Rattle.joint_keys.proofs.Materials.{IsReqOf, IsRspOf, by_peer, central_reads_first, req_first}
use Rattle.joint_keys.proofs.Owed.{IsOptionFine, acked_owed, answer_no_req, enters_owed, host_owed, lets_req, taken_owed}
use Rattle.joint_keys.proofs.PairFacts.{fine_down, quiet_down}
use Rattle.joint_keys.proofs.Queues.{AllWait, AreOwedFine, IsNextFine, IsWayFine, all_on, next_fine, waits_on, way_on}
use Rattle.joint_keys.proofs.Standing.{Standing}
use Rattle.joint_keys.proofs.Vectors.{CentralGoes, central_plain, central_rests, central_takes as takes_material}
use Rattle.joint_keys.proofs.Walking.{Here}

-- what is to be known of the central, with its last PDU on this way
pub record CentralHas (s : Phased) (m : KeyMaterial) (down : Way) : Type 0 where
  pub waits : AllWait (IsReqOf m) s
  pub way : IsWayFine (IsReqOf m) down
  pub halves : HalvesAt s m

-- and after a step
pub record CentralNext (p : PhaseFacts) (m n : KeyMaterial) (t : Phased) (k : KeyMaterial) (down : Way) : Type 0 where
  pub goes : CentralGoes p t.phase m k n
  pub has : CentralHas t k down

-- ---- the material after a step

pub material_is : (P : KeyMaterial → Type 0) (s : Phased) (k : Keys) (step : KeyedStep) → s.control.ends ≡ None → P (keyed_moved step (keyed_with s k)).material
    → P (keys_after step s k).material
material_is P s k step lasts h = open_keyed (λ (l : Keyed). P l.material) step (keyed_with s k) lasts h

halves_of : (s : Phased) (k : Keys) (step : KeyedStep) (p : PhasedStep) → phased_step step ≡ Some p → HalvesAt s k.material
    → HalvesAt (phased_after p s) (keys_after step s k).material
halves_of s k step p is at =
    subst (λ (t : Phased). HalvesAt t (keys_after step s k).material) (phased_once step (keyed_with s k) ∙ ap (λ (o : Option PhasedStep). after_one o s) is)
    (halves_next s k.material k.end step at)

-- ---- facts of a request

asked_fine : (asked : Option HostAsk) (m : KeyMaterial) → IsOptionFine (IsReqOf (with_asked asked m)) (request_of asked)
asked_fine (Some (Encrypt rand ediv ltk skd_m iv_m)) m = (refl, refl)
asked_fine (Some ask) m = tt
asked_fine None m = tt

-- an encryption begins in Clear and Secure
begins_quiet : (p : PhaseFacts) → may_change (first_change p) p ≡ true → is_quiet p ≡ true
begins_quiet Clear may = refl
begins_quiet Secure may = refl
begins_quiet p may = absurd (cc)

begins_material : (p : PhaseFacts) (m m' n : KeyMaterial) → may_change (first_change p) p ≡ true → CentralGoes p (changed (first_change p) p) m m' n
begins_material Clear m m' n may = record { asked = λ is. inr refl; key = λ is. absurd (cc); second = λ is. absurd (cc); starts = λ none is. absurd (cc) }
begins_material Secure m m' n may = record { asked = λ is. absurd (cc); key = λ is. absurd (cc); second = λ is. absurd (cc); starts = λ none is. absurd (cc) }
begins_material p m m' n may = absurd (cc)

pub clear_is : (w : Way) → is_clear w ≡ true → w ≡ clear_way
clear_is clear_way is = refl
clear_is (Fixed item sealed) is = absurd (cc)
clear_is (OnAir item sealed) is = absurd (cc)
clear_is (Taken item) is = absurd (cc)

module _ (s : KeyedJoint) (here : Here s.joint) (st : Standing s) (has : CentralHas s.joint.central s.central.material s.joint.down) where
  abbrev c : Phased
  c = s.joint.central

  abbrev p : PhaseFacts
  p = c.phase

  abbrev m : KeyMaterial
  m = s.central.material

  abbrev n : KeyMaterial
  n = s.peripheral.material

  abbrev Next : Phased → KeyMaterial → Way → Type 0
  Next t k down = CentralNext p m n t k down

  phase_is : (step : PhasedStep) → (phased_after step c).phase ≡ changed (change_of step c) p
  phase_is step = changes_at Central c here.central here.goes.central step

  goes_by : (step : PhasedStep) (k : KeyMaterial) → CentralGoes p (changed (change_of step c) p) m k n → CentralGoes p (phased_after step c).phase m k n
  goes_by step k goes = subst (λ (q : PhaseFacts). CentralGoes p q m k n) (sym (phase_is step)) goes

  may_now : (step : PhasedStep) → may_change (change_of step c) p ≡ true
  may_now step = may_at Central c here.central here.goes.central step

  -- the material is this after a step
  moves_with : (keys : Keys) (step : KeyedStep) (r : PhasedStep) (k : KeyMaterial) (down : Way) → HalvesAt c keys.material → phased_step step ≡ Some r
      → (keyed_moved step (keyed_with c keys)).material ≡ k → CentralGoes p (changed (change_of r c) p) m k n → AreOwedFine (IsReqOf k) (control_steps r c)
      → AllWait (IsReqOf k) c → IsWayFine (IsReqOf k) down → Next (phased_after r c) (keys_after step c keys).material down
  moves_with keys step r k down halves at is goes owed waits way =
      let same : (keys_after step c keys).material ≡ k = material_is (λ x. x ≡ k) c keys step here.goes.central is in
      record {
        goes = subst (λ (x : KeyMaterial). CentralGoes p (phased_after r c).phase m x n) (sym same) (goes_by r k goes);
        has =
            record {
              waits = subst (λ (x : KeyMaterial). AllWait (IsReqOf x) (phased_after r c)) (sym same) (waits_on (IsReqOf k) (lets_req k).plain r c here.goes.central owed waits);
              way = subst (λ (x : KeyMaterial). IsWayFine (IsReqOf x) down) (sym same) way;
              halves = halves_of c keys step r at halves;
            };
      }

  -- ---- an event is entered

  abbrev begins : ℕ → Bool
  begins slot = is_encrypt (begin_step (table_entered c) slot (is_quiet_now c)).1

  abbrev asked : Option HostAsk
  asked = ask_begun (table_entered c) (is_quiet_now c)

  -- with the halves that the host asked for, if an encryption begins
  record BeforeEntering (b : Bool) : Type 0 where
    goes : CentralGoes p (changed (if b then first_change p else Stays) p) m (with_asked_if b asked m) n
    waits : AllWait (IsReqOf (with_asked_if b asked m)) c
    way : IsWayFine (IsReqOf (with_asked_if b asked m)) s.joint.down

  before_entering : (b : Bool) → may_change (if b then first_change p else Stays) p ≡ true → BeforeEntering b
  before_entering false may = record { goes = central_rests p m n; waits = has.waits; way = has.way }
  before_entering true may =
      let k = with_asked asked m in
      let none = quiet_down (pair_of s.joint) p s.joint.peripheral.phase (begins_quiet p may) here.paired in
      let fine = fine_down (IsReqOf k) (lets_req k).plain s.joint none in
      record { goes = begins_material p m k n may; waits = fine.waits; way = fine.way }

  pub next_enters : (slot : ℕ) → Next (phased_after (phased_enters slot) c) (keys_after (Enters slot) c s.central).material s.joint.down
  next_enters slot =
      let k = with_asked_if (begins slot) asked m in
      let before = before_entering (begins slot) (may_now (phased_enters slot)) in
      moves_with s.central (Enters slot) (phased_enters slot) k s.joint.down has.halves refl refl before.goes
      (enters_owed (IsReqOf k) (lets_req k) slot c (λ is. subst (λ (b : Bool). IsOptionFine (IsReqOf (with_asked_if b asked m)) (request_of asked)) (sym is) (asked_fine asked m)))
      before.waits before.way

  -- ---- the host

  no_key : c.asks_key ≡ false
  no_key = st.shown.central.asks_key

  given_none : (b : Bool) → b ≡ false → (x : Change) → (if b && is_open_now c then x else Stays) ≡ Stays
  given_none true is x = absurd (cc)
  given_none false is x = refl

  host_stays : (step : HostStep) → change_of (host_step step) c ≡ Stays
  host_stays (AsksFor ask) = refl
  host_stays (AnswersRequest answer) = refl
  host_stays (Ends reason) = refl
  host_stays HasKey = given_none c.asks_key no_key Starts
  host_stays HasNoKey = given_none c.asks_key no_key _

  host_material : (step : HostStep) (ltk : List ℕ) → (keyed_moved (host_keyed step ltk) (keyed_with c s.central)).material ≡ m
  host_material (AsksFor ask) ltk = refl
  host_material (AnswersRequest answer) ltk = refl
  host_material (Ends reason) ltk = refl
  host_material HasKey ltk = ap (λ (x : Change). with_key x ltk m) (host_stays HasKey)
  host_material HasNoKey ltk = refl

  host_is : (step : HostStep) (ltk : List ℕ) → phased_step (host_keyed step ltk) ≡ Some (host_step step)
  host_is (AsksFor ask) ltk = refl
  host_is (AnswersRequest answer) ltk = refl
  host_is (Ends reason) ltk = refl
  host_is HasKey ltk = refl
  host_is HasNoKey ltk = refl

  pub next_host : (step : HostStep) (ltk : List ℕ) → Next (phased_after (host_step step) c) (keys_after (host_keyed step ltk) c s.central).material s.joint.down
  next_host step ltk =
      moves_with s.central (host_keyed step ltk) (host_step step) m s.joint.down has.halves (host_is step ltk) (host_material step ltk)
      (subst (λ (x : Change). CentralGoes p (changed x p) m m n) (sym (host_stays step)) (central_rests p m n)) (host_owed (IsReqOf m) (lets_req m) step c) has.waits has.way

  -- ---- a PDU is sent

  on_way : (o : Option Item) (sealed : Bool) → IsNextFine (IsReqOf m) o → IsWayFine (IsReqOf m) (on_air o sealed)
  on_way None sealed fine = tt
  on_way (Some item) sealed fine = fine

  pub next_sends : (slot : ℕ) → is_clear s.joint.down ≡ true → is_some (next_item c) ≡ true
      → Next (phased_after (phased_sends slot) c) m (on_air (next_item c) (seals Central p))
  next_sends slot clear some =
      let none : c.control.table.out ≡ Nothing = here.out_down ∙ ap (λ (w : Way). outgoing_on w) (clear_is s.joint.down clear) in
      record {
        goes = goes_by (phased_sends slot) m (central_rests p m n);
        has =
            record {
              waits = waits_on (IsReqOf m) (lets_req m).plain (phased_sends slot) c here.goes.central (tt, tt) has.waits;
              way = on_way (next_item c) (seals Central p) (next_fine (IsReqOf m) (lets_req m).plain c here.goes.central none some has.waits);
              halves =
                  subst (λ (x : KeyMaterial). HalvesAt (phased_after (phased_sends slot) c) x) (material_is (λ x. x ≡ m) c s.central (Sends slot) here.goes.central refl)
                  (halves_of c s.central (Sends slot) (phased_sends slot) refl has.halves);
            };
      }

  pub next_rests : (down : Way) → IsWayFine (IsReqOf m) down → Next c m down
  next_rests down way = record { goes = central_rests p m n; has = record { waits = has.waits; way = way; halves = has.halves } }

  -- ---- it is acknowledged

  acked_plain : (b : Bool) → may_change (if b then Moves Ask else Stays) p ≡ true → CentralGoes p (changed (if b then Moves Ask else Stays) p) m m n
  acked_plain true may = central_plain (Moves Ask) p m n may refl refl
  acked_plain false may = central_rests p m n

  pub next_acked : is_taken s.joint.down ≡ true → Next (phased_after phased_sees_acknowledged c) (keys_after SeesAcknowledged c s.central).material clear_way
  next_acked taken =
      moves_with s.central SeesAcknowledged phased_sees_acknowledged m clear_way has.halves refl refl (acked_plain (asks_again c) (may_now phased_sees_acknowledged))
      (acked_owed (IsReqOf m) (lets_req m) c
      (λ asks. asks_as_before s.joint (counted_run st.events).link st.events (link_of_run st.events) st.shown here.facts m has.halves taken asks))
      has.waits tt

  -- ---- a PDU of the peripheral is taken

  -- with this item on the way, the phase allows it
  abbrev Allowed : Item → Type 0
  Allowed Data = Unit {0}
  Allowed (Control outgoing ctrl) = allows p Central (ctrl_class ctrl) ≡ true

  abbrev RspFine : Item → Type 0
  RspFine Data = Unit {0}
  RspFine (Control outgoing ctrl) = IsRspOf n ctrl

  control_taken : (slot : ℕ) (ctrl : Ctrl) → allows p Central (ctrl_class ctrl) ≡ true → IsRspOf n ctrl
      → Next (phased_after (phased_takes (Known ctrl) slot no_response) c) (keys_after (Takes (Known ctrl) slot no_response) c (keys_opening s.central)).material s.joint.down
  control_taken slot ctrl allowed fine =
      let step = phased_takes (Known ctrl) slot no_response in
      let keyed = Takes (Known ctrl) slot no_response in
      let change = taken_change (Known ctrl) slot c in
      let role : role_now c ≡ Central = st.shown.central.role in
      let k = with_read (role_now c) (Known ctrl) no_response change p m in
      let goes : CentralGoes p (changed change p) m k n =
      subst (λ (r : Role). CentralGoes p (changed change p) m (with_read r (Known ctrl) no_response change p m) n) (sym role)
      (takes_material no_response m n ctrl change p (by_peer (Known ctrl) slot c) (may_now step) allowed fine) in
      let req : (x : Ctrl) → IsReqOf m x → IsReqOf k x =
      subst (λ (r : Role). (x : Ctrl) → IsReqOf m x → IsReqOf (with_read r (Known ctrl) no_response change p m) x) (sym role)
      (req_first m (with_read Central (Known ctrl) no_response change p m) (central_reads_first no_response m ctrl change p)) in
      moves_with (keys_opening s.central) keyed step k s.joint.down has.halves refl refl goes
      (taken_owed (λ change. IsReqOf k) (Known ctrl) slot no_response c (answer_no_req k _ no_response (Known ctrl) _)) (all_on (IsReqOf m) (IsReqOf k) req _ has.waits)
      (way_on (IsReqOf m) (IsReqOf k) req s.joint.down has.way)

  -- data
  data_taken : Next (phased_after phased_takes_data c) (keys_after TakesData c (keys_opening s.central)).material s.joint.down
  data_taken =
      moves_with (keys_opening s.central) TakesData phased_takes_data m s.joint.down has.halves refl refl (central_rests p m n) tt has.waits has.way

  allowed_item : (class_of : Ctrl → PduClass) (item : Item) → is_allowed_right Central p class_of (Some item) ≡ true → Allowed item
  allowed_item class_of Data right = tt
  allowed_item class_of (Control outgoing ctrl) right =
      (and_parts (allows p Central (ctrl_class ctrl)) (has_meaning Central p (item_class class_of (Control outgoing ctrl))) right).0

  item_taken : (slot : ℕ) (item : Item) → Allowed item → RspFine item
      → Next (phased_after (taking item slot no_response) c) (keys_after (item_keyed item slot no_response) c (keys_opening s.central)).material s.joint.down
  item_taken slot Data allowed fine = data_taken
  item_taken slot (Control outgoing ctrl) allowed fine = control_taken slot ctrl allowed fine

  fine_item : (item : Item) (sealed : Bool) → IsWayFine (IsRspOf n) (OnAir item sealed) → RspFine item
  fine_item Data sealed fine = tt
  fine_item (Control outgoing ctrl) sealed fine = fine

  pub next_takes : (slot : ℕ) (class_of : Ctrl → PduClass) (w : Way) → is_some (item_on_air w) ≡ true → is_allowed_right Central p class_of (item_on_air w) ≡ true
      → IsWayFine (IsRspOf n) w
      → Next (central_takes w slot s.joint).central (keys_taking (item_on_air w) slot no_response c s.central).material (central_takes w slot s.joint).down
  next_takes slot class_of (OnAir item sealed) some right fine = item_taken slot item (allowed_item class_of item right) (fine_item item sealed fine)
  next_takes slot class_of clear_way some right fine = absurd (cc)
  next_takes slot class_of (Fixed item sealed) some right fine = absurd (cc)
  next_takes slot class_of (Taken item) some right fine = absurd (cc)

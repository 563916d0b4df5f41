-- Where the hosts of both ends give one key for each encryption, both sessions have one key.
use Rattle.std.proofs.Common.{◌≡◌, ◌⊎◌, inl, inr, ℕ, Bool, true, false, ◌&&◌, if◌then◌else◌, List, is_none, is_some, refl, sym, ap, ◌∙◌}
use Rattle.std.proofs.lemmas.Bool.{and_parts}
use Rattle.ble_base.specs.declared.roles.Role.{Role}
use Rattle.ble_base.specs.declared.roles.Role.TheVariants.{Central, Peripheral}
use Rattle.ccm_link.specs.Payload.{session_key}
use Rattle.data_pdu.specs.declared.ctrl.CtrlRead.{CtrlRead}
use Rattle.data_pdu.specs.declared.ctrl.CtrlRead.TheVariants.{Known}
use Rattle.enc_phase.specs.declared.classes.PduClass.{PduClass}
use Rattle.enc_phase.specs.declared.classes.PduClass.TheVariants.{EncReq, PauseEncReq, PauseEncRsp, StartEncRsp}
use Rattle.enc_phase.specs.declared.facts.PhaseFacts.{PhaseFacts}
use Rattle.enc_phase.specs.declared.facts.PhaseFacts.TheVariants.{Clear}
use Rattle.enc_phase.specs.declared.facts.Transition.{Transition}
use Rattle.enc_phase.specs.declared.facts.Transition.TheVariants.{Ask, Confirm, Pause, Refuse, Unlock}
use Rattle.enc_phase.specs.Phases.{is_asked, may_follow}
use Rattle.enc_phase.proofs.Steps.{apart, has_session}
use Rattle.instants.specs.declared.indications.Params.{Params}
use Rattle.phase_pairs.specs.declared.joint.PhaseLink.{PhaseLink}
use Rattle.phase_pairs.specs.Agreement.{is_pair}
use Rattle.phased_control.specs.enc_phase.Sealing.{EncEnd}
use Rattle.phased_control.specs.PhaseChanges.{Change, Moves, Starts, Stays, Took, answer_change, change_of, first_change, moves_if, taken_change}
use Rattle.phased_control.specs.Phased.{Phased, asks_again, is_encrypt, is_open_now, is_quiet_now, table_entered}
use Rattle.phased_control.specs.Steps.{seen_by_procedures}
use Rattle.phased_control.specs.Taken.{PhasedStep, Response, class_of_read, does_keep, is_allowed, lacks_room_now, phased_after, role_now}
use Rattle.phased_control.specs.Taken.{Enters as phased_enters, GivesKey as phased_gives_key, LacksKey as phased_lacks_key, SeesAcknowledged as phased_sees_acknowledged, Sends as phased_sends, Takes as phased_takes, TakesData as phased_takes_data}
use Rattle.phased_control.specs.procedures.Beginning.{begin_step}
use Rattle.phased_control.specs.table_laws.Encrypting.{has_encryption}
use Rattle.keyed_control.specs.declared.material.KeyMaterial.{KeyMaterial}
use Rattle.keyed_control.specs.Keyed.{session_of}
use Rattle.keyed_control.specs.KeyedSteps.{GivesKey, with_key}
use Rattle.joint_controls.specs.Joint.{AnswersRequest, AsksFor, CentralAcked, CentralEnters, CentralHost, CentralSends, CentralSendsData, CentralTakes, Clear as clear_way, Control, Data, Ends, Fixed, HasKey, HasNoKey, Joint, JointStep, OnAir, PeripheralAcked, PeripheralEnters, PeripheralFixes, PeripheralFixesData, PeripheralHost, PeripheralSends, PeripheralTakes, Shuts, Taken, Way, act, host_step, is_running, item_on_air, may_act, peripheral_takes}
use Rattle.joint_phases.specs.Pairs.{pair_of}
use Rattle.joint_laws.specs.Runs.{IsRun}
use Rattle.joint_keys.specs.KeyedJoint.{KeyedJoint, KeyedJointStep, central_keys_after, keyed_act, keyed_beginning, keyed_joint_after_all, keys_after, peripheral_keys_after, steps_of}
use Rattle.joint_keys.specs.OneKey.{AreOneKey, IsOneKey, gives_key}
use Rattle.joint_keys.proofs.BothGoing.{both_go}
use Rattle.joint_keys.proofs.CentralVectors.{material_is}
use Rattle.joint_keys.proofs.EndChanges.{EndGoes}
use Rattle.joint_keys.proofs.KeysGoing.{changes_at, may_at}
use Rattle.joint_keys.proofs.Materials.{HaveFirst, HaveSecond, is_starting, starts_from}
use Rattle.joint_keys.proofs.PairFacts.{asked_took, may_ask, none_session, none_took, took_req}
use Rattle.joint_keys.proofs.Standing.{Standing}
use Rattle.joint_keys.proofs.Vectored.{Vectored, both_next, central_step, first_vectored, peripheral_step, rests_up, vectored_next}
use Rattle.joint_keys.proofs.Vectors.{Agreed, CentralGoes, PeripheralGoes, rsp_asked, session_or_not}
use Rattle.joint_keys.proofs.Walking.{Here, always_with}

-- ---- a session begins at a peripheral as its host gives a key, and in no other step

moves_never : (b : Bool) (t : Transition) → is_starting (if b then Moves t else Stays) ≡ false
moves_never true t = refl
moves_never false t = refl

answers_never : (pdu : PduClass) (encrypts : Bool) (p : PhaseFacts) → is_starting (answer_change Peripheral pdu encrypts p) ≡ false
answers_never EncReq encrypts p = moves_never (may_follow Ask p) Ask
answers_never PauseEncReq encrypts p = moves_never (may_follow Pause p) Pause
answers_never StartEncRsp encrypts p = moves_never (may_follow Confirm p) Confirm
answers_never PauseEncRsp encrypts p = moves_never (may_follow Unlock p) Unlock
answers_never pdu encrypts p = refl

module _ (read : CtrlRead) (slot : ℕ) (s : Phased) (role : role_now s ≡ Peripheral) where
  abbrev answer : Change
  answer = answer_change (role_now s) (class_of_read read) (has_encryption (seen_by_procedures read slot s).control.table.progress) s.phase

  answer_never : is_starting answer ≡ false
  answer_never =
      ap (λ (r : Role). is_starting (answer_change r (class_of_read read) (has_encryption (seen_by_procedures read slot s).control.table.progress) s.phase)) role
      ∙ answers_never (class_of_read read) (has_encryption (seen_by_procedures read slot s).control.table.progress) s.phase

  never_by : (a k l e : Bool)
      → is_starting (if a then (if k then Took (class_of_read read) else (if l then Stays else (if e then answer else Took (class_of_read read)))) else Stays) ≡ false
  never_by false k l e = refl
  never_by true true l e = refl
  never_by true false true e = refl
  never_by true false false false = refl
  never_by true false false true = answer_never

  takes_never : is_starting (taken_change read slot s) ≡ false
  takes_never = never_by (is_allowed read s) (does_keep read s) (lacks_room_now read s) (is_none (seen_by_procedures read slot s).control.ends)

begins_never : (b : Bool) (p : PhaseFacts) → is_starting (if b then first_change p else Stays) ≡ false
begins_never true Clear = refl
begins_never true p = refl
begins_never false p = refl

lacks_never : (b : Bool) (p : PhaseFacts) → is_starting (if b then moves_if Refuse p else Stays) ≡ false
lacks_never true p = moves_never (may_follow Refuse p) Refuse
lacks_never false p = refl

module _ (s : KeyedJoint) (here : Here s.joint) (st : Standing s) (ltk : List ℕ) where
  abbrev j : Joint
  j = s.joint

  abbrev c : Phased
  c = j.peripheral

  abbrev q : PhaseFacts
  q = c.phase

  -- where a session begins, this key was given, and asked for
  abbrev pub NewKey : JointStep → Type 0
  NewKey step =
      has_session q ≡ false → has_session (act step j).peripheral.phase ≡ true
      → (gives_key step ≡ true) × (c.asks_key ≡ true) × ((peripheral_keys_after step ltk j s.peripheral).material.ltk ≡ ltk)

  starting : (r : PhasedStep) → has_session q ≡ false → has_session (phased_after r c).phase ≡ true → is_starting (change_of r c) ≡ true
  starting r none some =
      (starts_from (change_of r c) q (may_at Peripheral c here.peripheral here.goes.peripheral r) none
      (ap has_session (sym (changes_at Peripheral c here.peripheral here.goes.peripheral r)) ∙ some)).0

  never : {A : Type 0} (r : PhasedStep) → is_starting (change_of r c) ≡ false → has_session q ≡ false → has_session (phased_after r c).phase ≡ true → A
  never r stays none some = absurd (apart (starting r none some) stays)

  given_by : (b : Bool) → is_starting (if b then Starts else Stays) ≡ true
      → (b ≡ true) × ((with_key (if b then Starts else Stays) ltk s.peripheral.material).ltk ≡ ltk)
  given_by true is = (refl, refl)
  given_by false is = absurd (cc)

  given : has_session q ≡ false → has_session (phased_after phased_gives_key c).phase ≡ true
      → (c.asks_key ≡ true) × ((keys_after (GivesKey ltk) c s.peripheral).material.ltk ≡ ltk)
  given none some =
      let by = given_by (c.asks_key && is_open_now c) (starting phased_gives_key none some) in (
        (and_parts c.asks_key (is_open_now c) by.0).0,
        material_is (λ k. k.ltk ≡ ltk) c s.peripheral (GivesKey ltk) here.goes.peripheral by.1,
      )

  new_taking : (slot : ℕ) (response : Response) (w : Way) → is_some (item_on_air w) ≡ true → has_session q ≡ false
      → has_session (peripheral_takes w slot response j).peripheral.phase ≡ true → ⊥
  new_taking slot response (OnAir Data sealed) may none some = never phased_takes_data refl none some
  new_taking slot response (OnAir (Control outgoing ctrl) sealed) may none some =
      never (phased_takes (Known ctrl) slot response) (takes_never (Known ctrl) slot c st.shown.peripheral.role) none some
  new_taking slot response clear_way may none some = absurd (cc)
  new_taking slot response (Fixed item sealed) may none some = absurd (cc)
  new_taking slot response (Taken item) may none some = absurd (cc)

  pub new_key : (step : JointStep) → may_act step j ≡ true → NewKey step
  new_key (PeripheralEnters slot) may none some =
      never (phased_enters slot) (begins_never (is_encrypt (begin_step (table_entered c) slot (is_quiet_now c)).1) q) none some
  new_key (PeripheralHost (AsksFor ask)) may none some = never (host_step (AsksFor ask)) refl none some
  new_key (PeripheralHost (AnswersRequest answer)) may none some = never (host_step (AnswersRequest answer)) refl none some
  new_key (PeripheralHost (Ends reason)) may none some = never (host_step (Ends reason)) refl none some
  new_key (PeripheralHost HasKey) may none some = let is = given none some in (refl, is.0, is.1)
  new_key (PeripheralHost HasNoKey) may none some = never phased_lacks_key (lacks_never (c.asks_key && is_open_now c) q) none some
  new_key (PeripheralFixes slot) may none some = never (phased_sends slot) refl none some
  new_key PeripheralFixesData may none some = absurd (apart some none)
  new_key PeripheralSends may none some = absurd (apart some none)
  new_key PeripheralAcked may none some = never phased_sees_acknowledged (moves_never (asks_again c) Ask) none some
  new_key (PeripheralTakes slot response) may none some =
      absurd (new_taking slot response j.down (and_parts (is_some (item_on_air j.down)) _ may).0 none some)
  new_key (CentralEnters slot) may none some = absurd (apart some none)
  new_key (CentralHost step) may none some = absurd (apart some none)
  new_key (CentralSends slot) may none some = absurd (apart some none)
  new_key CentralSendsData may none some = absurd (apart some none)
  new_key CentralAcked may none some = absurd (apart some none)
  new_key (CentralTakes slot) may none some = absurd (apart (ap (λ (x : Phased). has_session x.phase) (sym (rests_up j.up slot j)) ∙ some) none)
  new_key Shuts may none some = absurd (apart some none)

-- ---- both have one key

-- of a central in phase p and a peripheral in phase q, with their materials and their ends
pub record SameKey (p q : PhaseFacts) (m n : KeyMaterial) (e f : EncEnd) : Type 0 where
  -- a peripheral whose session is not confirmed has the key of the host of a central that asks
  pub asked : is_asked p ≡ true → took_req q ≡ true → has_session q ≡ true → m.ltk ≡ n.ltk
  pub equal : has_session p ≡ true → has_session q ≡ true → e.key ≡ f.key

one_session : (m n : KeyMaterial) → m.ltk ≡ n.ltk → HaveFirst m n → HaveSecond m n → (session_of m).key ≡ (session_of n).key
one_session m n ltk one other = λ i. session_key (ltk i) (one.skd i) (other.skd i)

module _ (s : PhaseLink) (p q : PhaseFacts) (pair : is_pair p q s ≡ true) (m n : KeyMaterial) (e f : EncEnd) (agreed : Agreed p q m n e f)
    (same : SameKey p q m n e f) where
  same_central : (sends takes : Bool) (p' : PhaseFacts) (m' : KeyMaterial) (e' : EncEnd) → EndGoes Central sends takes p p' m' e e' → CentralGoes p p' m m' n
      → SameKey p' q m' n e' f
  same_central sends takes p' m' e' goes material =
      record {
        asked = λ is taken some. by_asked taken some (material.asked is);
        equal = λ is some. session_or_not (has_session p) (λ before. (goes.goes_on before is).0 ∙ same.equal before some) (λ none. new none is some);
      }
    where
      by_asked : took_req q ≡ true → has_session q ≡ true → ((is_asked p ≡ true) × HaveFirst m' m) ⊎ (may_ask p ≡ true) → m'.ltk ≡ n.ltk
      by_asked taken some (inl one) = material.key one.0 ∙ same.asked one.0 taken some
      by_asked taken some (inr may) = absurd (none_took s p q may taken pair)

      new : has_session p ≡ false → has_session p' ≡ true → has_session q ≡ true → e'.key ≡ f.key
      new none is some =
          let start = material.starts none is in
          let asks = rsp_asked p start.0 in
          let taken = asked_took s p q asks some pair in
          let first = agreed.first asks taken in
          let second = agreed.second start.0 taken in
          (goes.begins none is).0
          ∙ one_session m' m (material.key asks) start.1.0 start.1.1
          ∙ one_session m n (same.asked asks taken some) first second
          ∙ sym (agreed.session some).0

  same_peripheral : (sends takes : Bool) (q' : PhaseFacts) (n' : KeyMaterial) (f' : EncEnd) → EndGoes Peripheral sends takes q q' n' f f' → PeripheralGoes p q q' m n n'
      → (has_session q ≡ false → has_session q' ≡ true → m.ltk ≡ n'.ltk) → SameKey p q' m n' e f'
  same_peripheral sends takes q' n' f' goes material given =
      record {
        asked =
            λ is taken some.
            session_or_not (has_session q) (λ before. same.asked is (asked_took s p q is before pair) before ∙ ap (λ (k : KeyMaterial). k.ltk) (sym (material.same before)))
            (λ none. given none some);
        equal =
            λ is some.
            session_or_not (has_session q) (λ before. same.equal is before ∙ sym (goes.goes_on before some).0)
            (λ none. absurd (none_session s p q is (material.asked none some) pair));
      }

-- ---- in each state of a joint run

-- as the ends of both are
abbrev pub IsOneKeyed : KeyedJoint → Type 0
IsOneKeyed s =
    SameKey s.joint.central.phase s.joint.peripheral.phase s.central.material s.peripheral.material s.central.end s.peripheral.end

pub record OneKeyed (s : KeyedJoint) : Type 0 where
  pub vectored : Vectored s
  pub same : IsOneKeyed s

one_keyed_next : (s : KeyedJoint) (ks : KeyedJointStep) → Here s.joint → IsOneKey ks s → OneKeyed s → may_act ks.step s.joint ≡ true → is_running (act ks.step s.joint) ≡ true
    → OneKeyed (keyed_act ks s)
one_keyed_next s ks here one v may running =
    let j = s.joint in
    let m = s.central.material in
    let n = s.peripheral.material in
    let st = v.vectored.standing in
    let agreed = v.vectored.agreed in
    let both = both_go s here.goes here.central here.peripheral st.central st.peripheral ks.step ks.ltk may in
    let next = central_step s here v.vectored ks.ltk ks.step may in
    let other = peripheral_step s here v.vectored ks.ltk ks.step may in
    let new = new_key s here st ks.ltk ks.step may in
    record {
      vectored = vectored_next s ks here v.vectored may running;
      same =
          both_next s here v.vectored ks.ltk SameKey ks.step
          (same_central (pair_of j) j.central.phase j.peripheral.phase here.paired m n s.central.end s.peripheral.end agreed v.same _ _ (act ks.step j).central.phase
          (central_keys_after ks.step ks.ltk j s.central).material (central_keys_after ks.step ks.ltk j s.central).end both.central.end_goes next.goes)
          (same_peripheral (pair_of j) j.central.phase j.peripheral.phase here.paired m n s.central.end s.peripheral.end agreed v.same _ _ (act ks.step j).peripheral.phase
          (peripheral_keys_after ks.step ks.ltk j s.peripheral).material (peripheral_keys_after ks.step ks.ltk j s.peripheral).end both.peripheral.end_goes other.goes
          (λ none some. let is = new none some in sym (is.2 ∙ one is.0 is.1)));
    }

module _ (central_rx peripheral_rx : ℕ) (first : Params) (slot : ℕ) where
  abbrev start : KeyedJoint
  start = keyed_beginning central_rx peripheral_rx first slot

  pub one_keyed : (steps : List KeyedJointStep) → IsRun first (steps_of steps) → AreOneKey steps start → is_running (keyed_joint_after_all steps start).joint ≡ true
      → OneKeyed (keyed_joint_after_all steps start)
  one_keyed =
      always_with central_rx peripheral_rx first slot IsOneKey OneKeyed one_keyed_next
      (record {
        vectored = first_vectored central_rx peripheral_rx first slot;
        same = record { asked = λ is taken some. absurd (cc); equal = λ is some. absurd (cc) };
      })

-- The halves of the keys of both ends agree from LL_ENC_REQ on, and both sessions have one vector.
use Rattle.std.proofs.Common.{◌≡◌, ◌⊎◌, inl, inr, ℕ, ◌==◌, ◌++◌, Bool, true, false, if◌then◌else◌, refl, sym, ap, subst, ◌∙◌}
use Rattle.std.specs.Int.{to_le_bytes, w32}
use Rattle.ble_base.specs.declared.roles.Role.TheVariants.{Central, Peripheral}
use Rattle.ccm_link.specs.Payload.{session_key}
use Rattle.data_pdu.specs.declared.ctrl.Ctrl.{Ctrl}
use Rattle.data_pdu.specs.declared.ctrl.Ctrl.TheVariants.{EncReq, EncRsp, RejectExtInd}
use Rattle.data_pdu.specs.declared.ctrl.CtrlRead.TheVariants.{Known}
use Rattle.enc_phase.specs.declared.classes.PduClass.{PduClass}
use Rattle.enc_phase.specs.declared.classes.PduClass.TheVariants.{Other, Refusal}
use Rattle.enc_phase.specs.declared.facts.PhaseFacts.{PhaseFacts}
use Rattle.enc_phase.specs.declared.facts.PhaseFacts.TheVariants.{Asked, Clear, HalfClear, HalfKeyed, Pausing, Secure}
use Rattle.enc_phase.specs.declared.facts.Transition.TheVariants.{Ask}
use Rattle.enc_phase.specs.Phases.{is_asked}
use Rattle.enc_phase.specs.Taking.{allows, ctrl_class}
use Rattle.enc_phase.proofs.Steps.{apart, has_session}
use Rattle.phase_pairs.specs.declared.joint.PhaseLink.{PhaseLink}
use Rattle.phase_pairs.specs.Agreement.{is_pair}
use Rattle.phased_control.specs.enc_phase.Sealing.{EncEnd}
use Rattle.phased_control.specs.PhaseChanges.{Change, Moves, Starts, Stays, Took, changed, may_change}
use Rattle.phased_control.specs.Taken.{Response}
use Rattle.keyed_control.specs.declared.material.KeyMaterial.{KeyMaterial}
use Rattle.keyed_control.specs.Keyed.{session_of}
use Rattle.keyed_control.specs.KeyedSteps.{with_read}
use Rattle.joint_keys.specs.Opening.{HaveOneVector}
use Rattle.joint_keys.proofs.EndChanges.{EndGoes}
use Rattle.joint_keys.proofs.Materials.{ByPeer, HaveFirst, HaveSecond, IsReqOf, IsRspOf, asked_before, asks, central_reads_same, is_asking, is_req, is_rsp, is_start, is_starting, moves, peripheral_reads_same, rsp_before, same_first, same_second, starts, starts_from, takes_rsp, took, took_before}
use Rattle.joint_keys.proofs.PairFacts.{asked_took, has_rsp, may_ask, none_session, none_took, took_req}

-- of a central in phase p and a peripheral in phase q, with their materials and their ends
pub record Agreed (p q : PhaseFacts) (m n : KeyMaterial) (e f : EncEnd) : Type 0 where
  -- from LL_ENC_REQ on, and from LL_ENC_RSP on, until the session is confirmed
  pub first : is_asked p ≡ true → took_req q ≡ true → HaveFirst m n
  pub second : has_rsp p ≡ true → took_req q ≡ true → HaveSecond m n
  -- the session of the peripheral is that of its material
  pub session : has_session q ≡ true → (f.key ≡ (session_of n).key) × (f.iv ≡ (session_of n).iv)
  pub vector : has_session p ≡ true → has_session q ≡ true → HaveOneVector e f

-- ---- the central goes from p to p', and its material from m to m'

pub record CentralGoes (p p' : PhaseFacts) (m m' n : KeyMaterial) : Type 0 where
  pub asked : is_asked p' ≡ true → ((is_asked p ≡ true) × HaveFirst m' m) ⊎ (may_ask p ≡ true)
  -- the key of its host stays while it asks
  pub key : is_asked p ≡ true → m'.ltk ≡ m.ltk
  pub second : has_rsp p' ≡ true → ((has_rsp p ≡ true) × HaveSecond m' m) ⊎ HaveSecond m' n
  pub starts : has_session p ≡ false → has_session p' ≡ true → (has_rsp p ≡ true) × (HaveFirst m' m × HaveSecond m' m)

pub central_rests : (p : PhaseFacts) (m n : KeyMaterial) → CentralGoes p p m m n
central_rests p m n =
    record {
      asked = λ is. inl (is, same_first m);
      key = λ is. refl;
      second = λ is. inl (is, same_second m);
      starts = λ none is. absurd (apart is none);
    }

-- by a change that neither begins a session nor takes LL_ENC_RSP
pub central_plain : (c : Change) (p : PhaseFacts) (m n : KeyMaterial) → may_change c p ≡ true → is_starting c ≡ false → takes_rsp c ≡ false
    → CentralGoes p (changed c p) m m n
central_plain c p m n may none nothing =
    record {
      asked = λ is. by (asked_before c p may is);
      key = λ is. refl;
      second = λ is. inl (rsp_before c p may nothing is, same_second m);
      starts = λ no_one is. absurd (apart (starts_from c p may no_one is).0 none);
    }
  where
    by : (is_asked p ≡ true) ⊎ (may_ask p ≡ true) → ((is_asked p ≡ true) × HaveFirst m m) ⊎ (may_ask p ≡ true)
    by (inl is) = inl (is, same_first m)
    by (inr is) = inr is

-- a control PDU is taken that the phase allows
module _ (response : Response) (m n : KeyMaterial) where
  abbrev read_as : Ctrl → Change → PhaseFacts → KeyMaterial
  read_as ctrl c p = with_read Central (Known ctrl) response c p m

  abbrev Takes_ : Ctrl → Change → PhaseFacts → Type 0
  Takes_ ctrl c p = CentralGoes p (changed c p) m (read_as ctrl c p) n

  plain_taken : (ctrl : Ctrl) (c : Change) (p : PhaseFacts) → may_change c p ≡ true → is_starting c ≡ false → takes_rsp c ≡ false → Takes_ ctrl c p
  plain_taken ctrl c p may none nothing =
      subst (λ (x : KeyMaterial). CentralGoes p (changed c p) m x n) (sym (central_reads_same response m ctrl c p nothing)) (central_plain c p m n may none nothing)

  -- LL_ENC_RSP
  rsp_taken : (skd_s iv_s : ℕ) (p : PhaseFacts) → allows p Central (ctrl_class (EncRsp skd_s iv_s)) ≡ true → IsRspOf n (EncRsp skd_s iv_s)
      → Takes_ (EncRsp skd_s iv_s) (Took (ctrl_class (EncRsp skd_s iv_s))) p
  rsp_taken skd_s iv_s (Asked a false c) allowed fine =
      record {
        asked = λ is. inl (refl, record { skd = refl; iv_too = refl });
        key = λ is. refl;
        second = λ is. inr (record { skd = fine.0; iv_too = fine.1 });
        starts = λ none is. absurd (cc);
      }
  rsp_taken skd_s iv_s (Asked a true c) allowed fine = absurd (cc)
  rsp_taken skd_s iv_s Clear allowed fine = central_rests Clear m n
  rsp_taken skd_s iv_s HalfKeyed allowed fine = central_rests HalfKeyed m n
  rsp_taken skd_s iv_s Secure allowed fine = central_rests Secure m n
  rsp_taken skd_s iv_s (Pausing a) allowed fine = central_rests (Pausing a) m n
  rsp_taken skd_s iv_s (HalfClear a) allowed fine = central_rests (HalfClear a) m n

  reject_apart : (b : Bool) → is_rsp (if b then Refusal else Other) ≡ false
  reject_apart true = refl
  reject_apart false = refl

  took_taken : (ctrl : Ctrl) (p : PhaseFacts) → allows p Central (ctrl_class ctrl) ≡ true → IsRspOf n ctrl → Takes_ ctrl (Took (ctrl_class ctrl)) p
  took_taken (EncRsp skd_s iv_s) p allowed fine = rsp_taken skd_s iv_s p allowed fine
  took_taken (RejectExtInd opcode code) p allowed fine = plain_taken (RejectExtInd opcode code) (Took (ctrl_class (RejectExtInd opcode code))) p refl refl (reject_apart (opcode == 3))
  took_taken ctrl p allowed fine = plain_taken ctrl (Took (ctrl_class ctrl)) p refl refl refl

  -- LL_START_ENC_REQ
  start_taken : (pdu : PduClass) (p : PhaseFacts) → is_start pdu ≡ true → allows p Central pdu ≡ true → may_change Starts p ≡ true → CentralGoes p (changed Starts p) m m n
  start_taken PduClass.StartEncReq (Asked a rsp c) is allowed may =
      record {
        asked = λ h. absurd (cc);
        key = λ h. refl;
        second = λ h. absurd (cc);
        starts = λ none h. (allowed, (same_first m, same_second m));
      }
  start_taken PduClass.StartEncReq p is allowed may = absurd (cc)
  start_taken pdu p is allowed may = absurd (cc)

  pub central_takes : (ctrl : Ctrl) (c : Change) (p : PhaseFacts) → ByPeer (ctrl_class ctrl) c → may_change c p ≡ true → allows p Central (ctrl_class ctrl) ≡ true → IsRspOf n ctrl
      → Takes_ ctrl c p
  central_takes ctrl Stays p by may allowed fine = plain_taken ctrl Stays p may refl refl
  central_takes ctrl (Moves t) p by may allowed fine = plain_taken ctrl (Moves t) p may refl refl
  central_takes ctrl (Took _) p took may allowed fine = took_taken ctrl p allowed fine
  central_takes ctrl Starts p (starts is) may allowed fine =
      subst (λ (x : KeyMaterial). CentralGoes p (changed Starts p) m x n) (sym (central_reads_same response m ctrl Starts p refl)) (start_taken (ctrl_class ctrl) p is allowed may)

-- ---- the peripheral goes from q to q', and its material from n to n', with a central in phase p

pub record PeripheralGoes (p q q' : PhaseFacts) (m n n' : KeyMaterial) : Type 0 where
  pub takes :
      took_req q' ≡ true → ((took_req q ≡ true) × (HaveFirst n n' × HaveSecond n n')) ⊎ (HaveFirst m n' × (has_rsp p ≡ false))
  pub same : has_session q ≡ true → n' ≡ n
  pub asked : has_session q ≡ false → has_session q' ≡ true → is_asked q ≡ true

pub peripheral_rests : (p q : PhaseFacts) (m n : KeyMaterial) → PeripheralGoes p q q m n n
peripheral_rests p q m n =
    record { takes = λ is. inl (is, (same_first n, same_second n)); same = λ is. refl; asked = λ none is. absurd (apart is none) }

-- but for LL_ENC_REQ that is taken
pub peripheral_plain : (c : Change) (p q : PhaseFacts) (m n : KeyMaterial) → may_change c q ≡ true → is_asking c ≡ false → PeripheralGoes p q (changed c q) m n n
peripheral_plain c p q m n may none =
    record {
      takes = λ is. inl (took_before c q may none is, (same_first n, same_second n));
      same = λ is. refl;
      asked = λ no_one is. (starts_from c q may no_one is).1;
    }

-- the host gives a key
pub peripheral_starts : (p q : PhaseFacts) (m n n' : KeyMaterial) → may_change Starts q ≡ true → HaveFirst n n' → HaveSecond n n' → PeripheralGoes p q (changed Starts q) m n n'
peripheral_starts p (Asked a b c) m n n' may one other =
    record { takes = λ is. inl (refl, (one, other)); same = λ is. absurd (cc); asked = λ none is. refl }
peripheral_starts p q m n n' may one other = absurd (cc)

module _ (response : Response) (p : PhaseFacts) (m n : KeyMaterial) where
  req_taken : (ctrl : Ctrl) (q : PhaseFacts) → is_req (ctrl_class ctrl) ≡ true → may_change (Moves Ask) q ≡ true → IsReqOf m ctrl → has_rsp p ≡ false
      → PeripheralGoes p q (changed (Moves Ask) q) m n (with_read Peripheral (Known ctrl) response (Moves Ask) q n)
  req_taken (EncReq rand ediv skd_m iv_m) Clear is may fine none =
      record { takes = λ h. inr (record { skd = sym fine.0; iv_too = sym fine.1 }, none); same = λ h. absurd (cc); asked = λ x h. absurd (cc) }
  req_taken (EncReq rand ediv skd_m iv_m) (HalfClear a) is may fine none =
      record { takes = λ h. inr (record { skd = sym fine.0; iv_too = sym fine.1 }, none); same = λ h. absurd (cc); asked = λ x h. absurd (cc) }
  req_taken (EncReq rand ediv skd_m iv_m) q is may fine none = absurd (cc)
  req_taken (RejectExtInd opcode code) q is may fine none = absurd (by (opcode == 3) is)
    where
      by : (b : Bool) → is_req (if b then Refusal else Other) ≡ true → ⊥
      by true h = absurd (cc)
      by false h = absurd (cc)
  req_taken ctrl q is may fine none = absurd (cc)

  pub peripheral_takes : (ctrl : Ctrl) (c : Change) (q : PhaseFacts) → ByPeer (ctrl_class ctrl) c → may_change c q ≡ true
      → (is_asking c ≡ true → is_req (ctrl_class ctrl) ≡ true → IsReqOf m ctrl × (has_rsp p ≡ false))
      → PeripheralGoes p q (changed c q) m n (with_read Peripheral (Known ctrl) response c q n)
  peripheral_takes ctrl (Moves Ask) q (asks is) may fine = let h = fine refl is in req_taken ctrl q is may h.0 h.1
  peripheral_takes ctrl (Moves Ask) q (moves _ none) may fine = absurd (cc)
  peripheral_takes ctrl (Moves t) q by may fine = plain (Moves t) q may refl
    where
      plain : (c : Change) (q : PhaseFacts) → may_change c q ≡ true → is_asking c ≡ false → PeripheralGoes p q (changed c q) m n (with_read Peripheral (Known ctrl) response c q n)
      plain c q may none =
          subst (λ (x : KeyMaterial). PeripheralGoes p q (changed c q) m n x) (sym (peripheral_reads_same response n ctrl c q none)) (peripheral_plain c p q m n may none)
  peripheral_takes ctrl c q by may fine =
      subst (λ (x : KeyMaterial). PeripheralGoes p q (changed c q) m n x) (sym (peripheral_reads_same response n ctrl c q refl)) (peripheral_plain c p q m n may refl)

-- ---- both agree after a step of one of them

first_on : (m' m n : KeyMaterial) → HaveFirst m' m → HaveFirst m n → HaveFirst m' n
first_on m' m n one other = record { skd = one.skd ∙ other.skd; iv_too = one.iv_too ∙ other.iv_too }

second_on : (m' m n : KeyMaterial) → HaveSecond m' m → HaveSecond m n → HaveSecond m' n
second_on m' m n one other = record { skd = one.skd ∙ other.skd; iv_too = one.iv_too ∙ other.iv_too }

-- two sessions of the same halves
sessions_meet : (m n : KeyMaterial) (e f : EncEnd) → HaveFirst m n → HaveSecond m n → (e.key ≡ (session_of m).key) × (e.iv ≡ (session_of m).iv)
    → (f.key ≡ (session_of n).key) × (f.iv ≡ (session_of n).iv) → HaveOneVector e f
sessions_meet m n e f one other begins has =
    record {
      skd_m = m.skd_m;
      skd_s = m.skd_s;
      one_ltk = m.ltk;
      other_ltk = n.ltk;
      one_key = begins.0;
      other_key = has.0 ∙ (λ i. session_key n.ltk (sym one.skd i) (sym other.skd i));
      iv = begins.1 ∙ (λ i. to_le_bytes w32 (one.iv_too i) ++ to_le_bytes w32 (other.iv_too i)) ∙ sym has.1;
    }

pub session_or_not : {A : Type 0} (b : Bool) → (b ≡ true → A) → (b ≡ false → A) → A
session_or_not true one other = one refl
session_or_not false one other = other refl

-- an end that goes on with its key
pub moved_one : (e e' f : EncEnd) → (e'.key ≡ e.key) × (e'.iv ≡ e.iv) → HaveOneVector e f → HaveOneVector e' f
moved_one e e' f same v =
    record {
      skd_m = v.skd_m;
      skd_s = v.skd_s;
      one_ltk = v.one_ltk;
      other_ltk = v.other_ltk;
      one_key = same.0 ∙ v.one_key;
      other_key = v.other_key;
      iv = same.1 ∙ v.iv;
    }

pub moved_other : (e f f' : EncEnd) → (f'.key ≡ f.key) × (f'.iv ≡ f.iv) → HaveOneVector e f → HaveOneVector e f'
moved_other e f f' same v =
    record {
      skd_m = v.skd_m;
      skd_s = v.skd_s;
      one_ltk = v.one_ltk;
      other_ltk = v.other_ltk;
      one_key = v.one_key;
      other_key = same.0 ∙ v.other_key;
      iv = v.iv ∙ sym same.1;
    }

pub rsp_asked : (p : PhaseFacts) → has_rsp p ≡ true → is_asked p ≡ true
rsp_asked (Asked a b c) is = refl
rsp_asked p is = absurd (cc)

module _ (s : PhaseLink) (p q : PhaseFacts) (pair : is_pair p q s ≡ true) (m n : KeyMaterial) (e f : EncEnd) (agreed : Agreed p q m n e f) where
  pub agreed_central : (sends takes : Bool) (p' : PhaseFacts) (m' : KeyMaterial) (e' : EncEnd) → EndGoes Central sends takes p p' m' e e' → CentralGoes p p' m m' n
      → Agreed p' q m' n e' f
  agreed_central sends takes p' m' e' goes material =
      record {
        first = λ is taken. by_first taken (material.asked is);
        second = λ is taken. by_second taken (material.second is);
        session = agreed.session;
        vector = λ is some. session_or_not (has_session p) (λ before. moved_one e e' f (goes.goes_on before is) (agreed.vector before some)) (λ none. new none is some);
      }
    where
      by_first : took_req q ≡ true → ((is_asked p ≡ true) × HaveFirst m' m) ⊎ (may_ask p ≡ true) → HaveFirst m' n
      by_first taken (inl one) = first_on m' m n one.1 (agreed.first one.0 taken)
      by_first taken (inr may) = absurd (none_took s p q may taken pair)

      by_second : took_req q ≡ true → ((has_rsp p ≡ true) × HaveSecond m' m) ⊎ HaveSecond m' n → HaveSecond m' n
      by_second taken (inl one) = second_on m' m n one.1 (agreed.second one.0 taken)
      by_second taken (inr other) = other

      new : has_session p ≡ false → has_session p' ≡ true → has_session q ≡ true → HaveOneVector e' f
      new none is some =
          let start = material.starts none is in
          let taken = asked_took s p q (rsp_asked p start.0) some pair in
          sessions_meet m' n e' f (first_on m' m n start.1.0 (agreed.first (rsp_asked p start.0) taken)) (second_on m' m n start.1.1 (agreed.second start.0 taken))
          (goes.begins none is) (agreed.session some)

  pub agreed_peripheral : (sends takes : Bool) (q' : PhaseFacts) (n' : KeyMaterial) (f' : EncEnd) → EndGoes Peripheral sends takes q q' n' f f' → PeripheralGoes p q q' m n n'
      → Agreed p q' m n' e f'
  agreed_peripheral sends takes q' n' f' goes material =
      record {
        first = λ is taken. by_first is (material.takes taken);
        second = λ is taken. by_second is (material.takes taken);
        session = λ is. session_or_not (has_session q) (λ before. kept before is) (λ none. goes.begins none is);
        vector =
            λ some is. session_or_not (has_session q) (λ before. moved_other e f f' (goes.goes_on before is) (agreed.vector some before))
            (λ none. absurd (none_session s p q some (material.asked none is) pair));
      }
    where
      by_first : is_asked p ≡ true → ((took_req q ≡ true) × (HaveFirst n n' × HaveSecond n n')) ⊎ (HaveFirst m n' × (has_rsp p ≡ false)) → HaveFirst m n'
      by_first is (inl one) = first_on m n n' (agreed.first is one.0) one.1.0
      by_first is (inr other) = other.0

      by_second : has_rsp p ≡ true → ((took_req q ≡ true) × (HaveFirst n n' × HaveSecond n n')) ⊎ (HaveFirst m n' × (has_rsp p ≡ false)) → HaveSecond m n'
      by_second is (inl one) = second_on m n n' (agreed.second is one.0) one.1.1
      by_second is (inr other) = absurd (apart is other.1)

      kept : has_session q ≡ true → has_session q' ≡ true → (f'.key ≡ (session_of n').key) × (f'.iv ≡ (session_of n').iv)
      kept before is =
          let on = goes.goes_on before is in
          let was = agreed.session before in
          let same = material.same before in
          (on.0 ∙ was.0 ∙ ap (λ (x : KeyMaterial). (session_of x).key) (sym same), on.1 ∙ was.1 ∙ ap (λ (x : KeyMaterial). (session_of x).iv) (sym same))

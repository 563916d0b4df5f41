-- What an end would seal next the other end opens: as the ends stand while nothing is on its way, and once what is on the
-- air is opened; and what stays of it as either end sends and opens.
use Rattle.std.proofs.Common.{◌≡◌, ℕ, ◌+◌, Bool, true, false, not, ◌||◌, if◌then◌else◌, refl, sym, ap, subst, ◌∙◌, arith}
use Rattle.ble_base.specs.declared.roles.Role.{Role}
use Rattle.ble_base.specs.declared.roles.Role.TheVariants.{Central, Peripheral}
use Rattle.enc_phase.specs.declared.facts.PhaseFacts.{PhaseFacts}
use Rattle.enc_phase.specs.declared.facts.PhaseFacts.TheVariants.{Asked, Clear, HalfKeyed, Pausing, Secure}
use Rattle.enc_phase.specs.Phases.{is_central, is_quiet, opens, seals}
use Rattle.phase_pairs.specs.declared.joint.PhaseLink.{PhaseLink}
use Rattle.phase_pairs.specs.declared.joint.PhaseWay.{PhaseWay}
use Rattle.phase_pairs.specs.Agreement.{is_pair}
use Rattle.phase_pairs.specs.Counted.{Counted, Equal, Holds, OneAhead, counted_run, is_sealed_untaken, relation_of}
use Rattle.phase_pairs.proofs.Counters.{counted}
use Rattle.phased_control.specs.enc_phase.Sealing.{EncEnd, after_opening, after_sending}
use Rattle.joint_controls.specs.Joint.{Clear as clear_way, Fixed, Item, Joint, OnAir, Taken, Way, is_clear, is_taken}
use Rattle.joint_phases.specs.Pairs.{pair_of}
use Rattle.joint_phases.specs.Parts.{way_down, way_up}
use Rattle.joint_keys.specs.KeyedJoint.{KeyedJoint}
use Rattle.joint_keys.specs.Opening.{CanOpen, HaveOneVector}
use Rattle.joint_keys.proofs.EndChanges.{IsEnd}
use Rattle.joint_keys.proofs.EndGoing.{end_opening, in_session}
use Rattle.joint_keys.proofs.Opened.{HaveVector, ahead_down, ahead_up, listener_has, on_down, on_up, opens_session, other_roles, turned}
use Rattle.joint_keys.proofs.Standing.{Standing, data_ahead}
use Rattle.joint_keys.proofs.Vectors.{moved_one, moved_other}
use Rattle.joint_keys.proofs.Walking.{Here}

-- ---- two ends whose counters are equal

module _ (role other : Role) (apart : is_central other ≡ not (is_central role)) (p q : PhaseFacts) (e f : EncEnd) (here : IsEnd role p e) (there : IsEnd other q f)
    (sealing : seals role p ≡ opens other q) (vector : seals role p ≡ true → HaveOneVector e f) (equal : seals role p ≡ true → e.sent ≡ f.opened) where
  sealed_there : seals e.role e.phase ≡ seals role p
  sealed_there = λ i. seals (here.role_too i) (here.phase_too i)

  both_seal : seals e.role e.phase ≡ opens f.role f.phase
  both_seal = sealed_there ∙ sealing ∙ (λ i. opens (sym there.role_too i) (sym there.phase_too i))

  pub can_open_next : CanOpen e f
  can_open_next =
      record {
        sealing = both_seal;
        vector = λ is. vector (sym sealed_there ∙ is);
        session =
            λ is same.
            let some = sym sealed_there ∙ is in
            record {
              sealing = both_seal;
              roles = other_roles role other apart e f here.role_too there.role_too;
              key = same;
              iv = (vector some).iv;
              counter = equal some;
            };
      }

-- ---- what either end does then

module _ (e f : EncEnd) (can : CanOpen e f) where
  -- the sender opens a PDU of the other direction, or the listener sends one
  pub can_open_opened : CanOpen (after_opening e) f
  can_open_opened =
      record {
        sealing = can.sealing;
        vector = λ is. moved_one e (after_opening e) f (refl, refl) (can.vector is);
        session =
            λ is same.
            let m = can.session is same in
            record { sealing = m.sealing; roles = m.roles; key = m.key; iv = m.iv; counter = m.counter };
      }

  pub can_open_sending : CanOpen e (after_sending f)
  can_open_sending =
      record {
        sealing = can.sealing;
        vector = λ is. moved_other e f (after_sending f) (refl, refl) (can.vector is);
        session =
            λ is same.
            let m = can.session is same in
            record { sealing = m.sealing; roles = m.roles; key = m.key; iv = m.iv; counter = m.counter };
      }

  one_more : (a b : Bool) (m n : ℕ) → a ≡ b → m ≡ n → (if a then m + 1 else m) ≡ (if b then n + 1 else n)
  one_more a b m n is same = λ i. if is i then same i + 1 else same i

  -- the next PDU is sent, and opened
  pub can_open_both : CanOpen (after_sending e) (after_opening f)
  can_open_both =
      record {
        sealing = can.sealing;
        vector = λ is. moved_one e (after_sending e) (after_opening f) (refl, refl) (moved_other e f (after_opening f) (refl, refl) (can.vector is));
        session =
            λ is same.
            let m = can.session is same in
            record {
              sealing = m.sealing;
              roles = m.roles;
              key = m.key;
              iv = m.iv;
              counter = one_more (seals e.role e.phase) (opens f.role f.phase) e.sent f.opened m.sealing m.counter;
            };
      }

-- ---- in a state of a joint run

-- a quiet end seals where the other opens
quiet_down : (s : PhaseLink) (p q : PhaseFacts) → is_quiet p ≡ true → is_pair p q s ≡ true → seals Central p ≡ opens Peripheral q
quiet_down s Clear Clear quiet is = refl
quiet_down s Clear q quiet is = absurd (cc)
quiet_down s Secure Secure quiet is = refl
quiet_down s Secure q quiet is = absurd (cc)
quiet_down s p q quiet is = absurd (cc)

quiet_up : (s : PhaseLink) (p q : PhaseFacts) → is_quiet q ≡ true → is_pair p q s ≡ true → seals Peripheral q ≡ opens Central p
quiet_up s Clear Clear quiet is = refl
quiet_up s (Asked a b c) Clear quiet is = refl
quiet_up s HalfKeyed Clear quiet is = absurd (cc)
quiet_up s Secure Clear quiet is = absurd (cc)
quiet_up s (Pausing a) Clear quiet is = absurd (cc)
quiet_up s (PhaseFacts.HalfClear a) Clear quiet is = refl
quiet_up s HalfKeyed Secure quiet is = refl
quiet_up s Secure Secure quiet is = refl
quiet_up s (Pausing a) Secure quiet is = refl
quiet_up s Clear Secure quiet is = absurd (cc)
quiet_up s (Asked false b c) Secure quiet is = absurd (cc)
quiet_up s (Asked true b c) Secure quiet is = absurd (cc)
quiet_up s (PhaseFacts.HalfClear a) Secure quiet is = absurd (cc)
quiet_up s p q quiet is = absurd (cc)

-- nothing is on its way, and not taken
abbrev pub is_settled : Way → Bool
is_settled w = is_clear w || is_taken w

pub equal_by : (x y u : Bool) (w : PhaseWay) (m n : ℕ) → is_sealed_untaken w ≡ u → u ≡ false → x ≡ true → y ≡ true → Holds (relation_of x y w) m n → m ≡ n
equal_by true true true w m n at none a b h = absurd (cc)
equal_by true true false w m n at none a b h = subst (λ (u : Bool). Holds (if u then OneAhead else Equal) m n) at h
equal_by true false u w m n at none a b h = absurd (cc)
equal_by false y u w m n at none a b h = absurd (cc)

settled_down : (knows : Bool) (w : Way) → is_settled w ≡ true → is_sealed_untaken (way_down knows w) ≡ false
settled_down knows clear_way is = refl
settled_down knows (Taken item) is = refl
settled_down knows (Fixed item sealed) is = absurd (cc)
settled_down knows (OnAir item sealed) is = absurd (cc)

settled_up : (knows : Bool) (w : Way) → is_settled w ≡ true → is_sealed_untaken (way_up knows w) ≡ false
settled_up knows clear_way is = refl
settled_up knows (Taken item) is = refl
settled_up knows (Fixed item sealed) is = absurd (cc)
settled_up knows (OnAir item sealed) is = absurd (cc)

pub none_ahead : (w : Way) → is_settled w ≡ true → data_ahead w ≡ 0
none_ahead clear_way is = refl
none_ahead (Taken item) is = refl
none_ahead (Fixed item sealed) is = absurd (cc)
none_ahead (OnAir item sealed) is = absurd (cc)

opened_more : (b : Bool) (n : ℕ) → b ≡ true → (if b then n + 1 else n) ≡ n + 1
opened_more true n is = refl
opened_more false n is = absurd (cc)

module _ (s : KeyedJoint) (here : Here s.joint) (st : Standing s) (vector : HaveVector s) where
  abbrev j : Joint
  j = s.joint

  abbrev p : PhaseFacts
  p = j.central.phase

  abbrev q : PhaseFacts
  q = j.peripheral.phase

  abbrev r : Counted
  r = counted_run st.events

  -- ---- the next PDU of a quiet end, while nothing of it is on its way

  pub next_down : is_quiet p ≡ true → is_settled j.down ≡ true → CanOpen s.central.end s.peripheral.end
  next_down quiet settled =
      let same = quiet_down (pair_of j) p q quiet here.paired in
      can_open_next Central Peripheral refl p q s.central.end s.peripheral.end st.central st.peripheral same
      (λ some. vector (in_session Central p some) (opens_session Peripheral q (sym same ∙ some)))
      (λ some.
      sym st.counts.central_sent
      ∙ equal_by (seals Central r.link.central.phase) (opens Peripheral r.link.peripheral.phase) _ r.link.down r.central_sent r.peripheral_opened refl
      (ap is_sealed_untaken st.shown.down ∙ settled_down j.central.knows_version j.down settled)
      (ap (seals Central) (sym st.shown.central.phase) ∙ some) (ap (opens Peripheral) (sym st.shown.peripheral.phase) ∙ sym same ∙ some) (counted st.events).down
      ∙ st.counts.peripheral_opened)

  none_more : (m n : ℕ) → n ≡ 0 → m + n ≡ m
  none_more m n is = omega (arith, is)

  pub next_up : is_quiet q ≡ true → is_settled j.up ≡ true → CanOpen s.peripheral.end s.central.end
  next_up quiet settled =
      let same = quiet_up (pair_of j) p q quiet here.paired in
      can_open_next Peripheral Central refl q p s.peripheral.end s.central.end st.peripheral st.central same
      (λ some. turned s.central.end s.peripheral.end (vector (opens_session Central p (sym same ∙ some)) (in_session Peripheral q some)))
      (λ some.
      sym (none_more s.peripheral.end.sent (data_ahead j.up) (none_ahead j.up settled)) ∙ sym st.counts.peripheral_sent
      ∙ equal_by (seals Peripheral r.link.peripheral.phase) (opens Central r.link.central.phase) _ r.link.up r.peripheral_sent r.central_opened refl
      (ap is_sealed_untaken st.shown.up ∙ settled_up j.peripheral.knows_version j.up settled)
      (ap (seals Peripheral) (sym st.shown.peripheral.phase) ∙ some) (ap (opens Central) (sym st.shown.central.phase) ∙ sym same ∙ some) (counted st.events).up
      ∙ st.counts.central_opened)

  -- ---- the next PDU of an end, once the one that is on the air is opened

  module _ (item : Item) (sealed : Bool) where
    pub after_down : j.down ≡ OnAir item sealed → CanOpen s.central.end (after_opening s.peripheral.end)
    after_down at =
        let on = on_down s here st item sealed at in
        let f = s.peripheral.end in
        can_open_next Central Peripheral refl p q s.central.end (after_opening f) st.central (end_opening Peripheral q s.peripheral.material f st.peripheral) (sym on.is_sealed ∙ on.is_opened)
        (λ some.
        moved_other s.central.end f (after_opening f) (refl, refl)
        (vector (in_session Central p some) (listener_has Central Peripheral p q sealed on (on.is_sealed ∙ some))))
        (λ some.
        ahead_down s here st item sealed at (on.is_sealed ∙ some)
        ∙ sym (opened_more (opens f.role f.phase) f.opened ((λ i. opens (st.peripheral.role_too i) (st.peripheral.phase_too i)) ∙ sym on.is_opened ∙ on.is_sealed ∙ some)))

    pub after_up : j.up ≡ OnAir item sealed → CanOpen s.peripheral.end (after_opening s.central.end)
    after_up at =
        let on = on_up s here st item sealed at in
        let f = s.central.end in
        can_open_next Peripheral Central refl q p s.peripheral.end (after_opening f) st.peripheral (end_opening Central p s.central.material f st.central) (sym on.is_sealed ∙ on.is_opened)
        (λ some.
        moved_other s.peripheral.end f (after_opening f) (refl, refl)
        (turned s.central.end s.peripheral.end (vector (listener_has Peripheral Central q p sealed on (on.is_sealed ∙ some)) (in_session Peripheral q some))))
        (λ some.
        ahead_up s here st item sealed at (on.is_sealed ∙ some)
        ∙ sym (opened_more (opens f.role f.phase) f.opened ((λ i. opens (st.central.role_too i) (st.central.phase_too i)) ∙ sym on.is_opened ∙ on.is_sealed ∙ some)))

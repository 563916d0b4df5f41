-- What one end has on the air the other opens: sealing, session and counter.
use Rattle.std.proofs.Common.{◌≡◌, ℕ, ◌+◌, Bool, true, false, not, if◌then◌else◌, refl, sym, ap, subst, ◌∙◌, arith}
use Rattle.std.proofs.lemmas.Bool.{and_parts}
use Rattle.ble_base.specs.declared.roles.Role.{Role}
use Rattle.ble_base.specs.declared.roles.Role.TheVariants.{Central, Peripheral}
use Rattle.enc_phase.specs.declared.facts.PhaseFacts.{PhaseFacts}
use Rattle.enc_phase.specs.Phases.{is_central, opens, seals}
use Rattle.enc_phase.proofs.Steps.{has_session}
use Rattle.phased_control.specs.enc_phase.Sealing.{EncEnd}
use Rattle.phase_pairs.specs.declared.joint.PhaseWay.{PhaseWay}
use Rattle.phase_pairs.specs.Counted.{Counted, Equal, Holds, OneAhead, counted_run, is_sealed_untaken, relation_of}
use Rattle.phase_pairs.proofs.Counters.{counted}
use Rattle.joint_controls.specs.Joint.{Item, Joint, Way, OnAir}
use Rattle.joint_phases.specs.Agreement.{is_opened_right}
use Rattle.joint_phases.specs.Parts.{way_down, way_up}
use Rattle.joint_keys.specs.KeyedJoint.{KeyedJoint, Keys}
use Rattle.joint_keys.specs.Opening.{CanOpen, HaveOneVector}
use Rattle.joint_keys.proofs.EndChanges.{IsEnd}
use Rattle.joint_keys.proofs.EndGoing.{in_session}
use Rattle.joint_keys.proofs.Made.{IsMade, IsOneLess, IsSealedAs, MadeOn, equal_is}
use Rattle.joint_keys.proofs.Standing.{Standing, data_ahead, sealed_now}
use Rattle.joint_keys.proofs.Walking.{Here}

-- ---- the numbers of a direction that is sealed

ahead_by : (b : Bool) (m n : ℕ) → b ≡ true → Holds (if b then OneAhead else Equal) m n → m ≡ n + 1
ahead_by true m n is h = h
ahead_by false m n is h = absurd (cc)

is_ahead : (x y : Bool) (w : PhaseWay) (m n : ℕ) → x ≡ true → y ≡ true → is_sealed_untaken w ≡ true → Holds (relation_of x y w) m n → m ≡ n + 1
is_ahead true true w m n a b is h = ahead_by (is_sealed_untaken w) m n is h
is_ahead true false w m n a b is h = absurd (cc)
is_ahead false y w m n a b is h = absurd (cc)

counter_is : (sent made opened : ℕ) → sent ≡ made + 1 → sent ≡ opened + 1 → made ≡ opened
counter_is sent made opened one other = omega (arith, one, other)

-- ---- both ends of a direction

pub other_roles : (role other : Role) → is_central other ≡ not (is_central role) → (a b : EncEnd) → a.role ≡ role → b.role ≡ other → is_central b.role ≡ not (is_central a.role)
other_roles role other apart a b is at = ap is_central at ∙ apart ∙ ap (λ (r : Role). not (is_central r)) (sym is)

vector_of : (made sender listener : EncEnd) → IsOneLess made sender → HaveOneVector sender listener → HaveOneVector made listener
vector_of made sender listener less v =
    record {
      skd_m = v.skd_m;
      skd_s = v.skd_s;
      one_ltk = v.one_ltk;
      other_ltk = v.other_ltk;
      one_key = less.key ∙ v.one_key;
      other_key = v.other_key;
      iv = less.iv ∙ v.iv;
    }

pub turned : (a b : EncEnd) → HaveOneVector a b → HaveOneVector b a
turned a b v =
    record {
      skd_m = v.skd_m;
      skd_s = v.skd_s;
      one_ltk = v.other_ltk;
      other_ltk = v.one_ltk;
      one_key = v.other_key;
      other_key = v.one_key;
      iv = sym v.iv;
    }

-- the sender seals in phase p, and the listener opens in phase q
module _ (role other : Role) (apart : is_central other ≡ not (is_central role)) (p q : PhaseFacts) (sealed : Bool) (k : Keys) (listener : EncEnd)
    (made : IsMade role sealed k) (here : IsEnd other q listener) (opening : sealed ≡ opens other q)
    (vector : sealed ≡ true → HaveOneVector k.end listener) (ahead : sealed ≡ true → k.end.sent ≡ listener.opened + 1) where
  sealing : seals k.made.role k.made.phase ≡ opens listener.role listener.phase
  sealing = made.sealing ∙ opening ∙ (λ i. opens (sym here.role_too i) (sym here.phase_too i))

  one_vector : seals k.made.role k.made.phase ≡ true → HaveOneVector k.made listener
  one_vector is =
      let some = sym made.sealing ∙ is in
      vector_of k.made k.end listener (made.one_less some) (vector some)

  pub can_open : CanOpen k.made listener
  can_open =
      record {
        sealing = sealing;
        vector = one_vector;
        session =
            λ is same.
            let some = sym made.sealing ∙ is in
            record {
              sealing = sealing;
              roles = other_roles role other apart k.made listener made.role_too here.role_too;
              key = same;
              iv = (one_vector is).iv;
              counter = counter_is k.end.sent k.made.sent listener.opened (made.one_less some).counter (ahead some);
            };
      }

-- ---- in a state of a joint run

abbrev pub HaveVector : KeyedJoint → Type 0
HaveVector s =
    has_session s.joint.central.phase ≡ true → has_session s.joint.peripheral.phase ≡ true → HaveOneVector s.central.end s.peripheral.end

abbrev pub HaveKey : KeyedJoint → Type 0
HaveKey s =
    has_session s.joint.central.phase ≡ true → has_session s.joint.peripheral.phase ≡ true → s.central.end.key ≡ s.peripheral.end.key

pub opens_session : (role : Role) (q : PhaseFacts) → opens role q ≡ true → has_session q ≡ true
opens_session Central q is = by q is
  where
    by : (q : PhaseFacts) → opens Central q ≡ true → has_session q ≡ true
    by PhaseFacts.HalfKeyed is = refl
    by PhaseFacts.Secure is = refl
    by (PhaseFacts.Pausing kept) is = refl
    by q is = absurd (cc)
opens_session Peripheral q is = by q is
  where
    by : (q : PhaseFacts) → opens Peripheral q ≡ true → has_session q ≡ true
    by PhaseFacts.HalfKeyed is = refl
    by PhaseFacts.Secure is = refl
    by q is = absurd (cc)

-- a sender in phase p and a listener in phase q, with a PDU on the air that is sealed or not
pub record OnWay (role other : Role) (p q : PhaseFacts) (sealed : Bool) : Type 0 where
  pub is_sealed : sealed ≡ seals role p
  pub is_opened : sealed ≡ opens other q

pub sender_has : (role other : Role) (p q : PhaseFacts) (sealed : Bool) → OnWay role other p q sealed → sealed ≡ true → has_session p ≡ true
sender_has role other p q sealed on some = in_session role p (sym on.is_sealed ∙ some)

pub listener_has : (role other : Role) (p q : PhaseFacts) (sealed : Bool) → OnWay role other p q sealed → sealed ≡ true → has_session q ≡ true
listener_has role other p q sealed on some = opens_session other q (sym on.is_opened ∙ some)

module _ (s : KeyedJoint) (here : Here s.joint) (st : Standing s) (item : Item) (sealed : Bool) where
  abbrev j : Joint
  j = s.joint

  abbrev p : PhaseFacts
  p = j.central.phase

  abbrev q : PhaseFacts
  q = j.peripheral.phase

  abbrev r : Counted
  r = counted_run st.events

  agreed : (is_opened_right Peripheral q j.down ≡ true) × (is_opened_right Central p j.up ≡ true)
  agreed = and_parts (is_opened_right Peripheral q j.down) (is_opened_right Central p j.up) here.sealing

  pub on_down : j.down ≡ OnAir item sealed → OnWay Central Peripheral p q sealed
  on_down at =
      record {
        is_sealed = subst (IsSealedAs Central p) at (sealed_now s st).0;
        is_opened = equal_is sealed (opens Peripheral q) (subst (λ (w : Way). is_opened_right Peripheral q w ≡ true) at agreed.0);
      }

  pub on_up : j.up ≡ OnAir item sealed → OnWay Peripheral Central q p sealed
  on_up at =
      record {
        is_sealed = subst (IsSealedAs Peripheral q) at (sealed_now s st).1;
        is_opened = equal_is sealed (opens Central p) (subst (λ (w : Way). is_opened_right Central p w ≡ true) at agreed.1);
      }

  -- how each sender sealed it
  pub made_down : j.down ≡ OnAir item sealed → IsMade Central sealed s.central
  made_down at = subst (λ (w : Way). MadeOn Central w s.central) at st.down

  pub made_up : j.up ≡ OnAir item sealed → IsMade Peripheral sealed s.peripheral
  made_up at = subst (λ (w : Way). MadeOn Peripheral w s.peripheral) at st.up

  -- ---- session and counter

  pub ahead_down : j.down ≡ OnAir item sealed → sealed ≡ true → s.central.end.sent ≡ s.peripheral.end.opened + 1
  ahead_down at some =
      let on = on_down at in
      let one =
      is_ahead (seals Central r.link.central.phase) (opens Peripheral r.link.peripheral.phase) r.link.down r.central_sent r.peripheral_opened
      (ap (seals Central) (sym st.shown.central.phase) ∙ sym on.is_sealed ∙ some) (ap (opens Peripheral) (sym st.shown.peripheral.phase) ∙ sym on.is_opened ∙ some)
      (ap is_sealed_untaken (st.shown.down ∙ ap (way_down j.central.knows_version) at) ∙ some) (counted st.events).down in
      sym st.counts.central_sent ∙ one ∙ ap (λ (n : ℕ). n + 1) st.counts.peripheral_opened

  pub opens_down : HaveVector s → j.down ≡ OnAir item sealed → CanOpen s.central.made s.peripheral.end
  opens_down vector at =
      let on = on_down at in
      can_open Central Peripheral refl p q sealed s.central s.peripheral.end (made_down at) st.peripheral on.is_opened
      (λ some. vector (sender_has Central Peripheral p q sealed on some) (listener_has Central Peripheral p q sealed on some)) (ahead_down at)

  plain : (m n : ℕ) → n ≡ 0 → m + n ≡ m
  plain m n is = omega (arith, is)

  pub ahead_up : j.up ≡ OnAir item sealed → sealed ≡ true → s.peripheral.end.sent ≡ s.central.end.opened + 1
  ahead_up at some =
      let on = on_up at in
      let one =
      is_ahead (seals Peripheral r.link.peripheral.phase) (opens Central r.link.central.phase) r.link.up r.peripheral_sent r.central_opened
      (ap (seals Peripheral) (sym st.shown.peripheral.phase) ∙ sym on.is_sealed ∙ some) (ap (opens Central) (sym st.shown.central.phase) ∙ sym on.is_opened ∙ some)
      (ap is_sealed_untaken (st.shown.up ∙ ap (way_up j.peripheral.knows_version) at) ∙ some) (counted st.events).up in
      sym (plain s.peripheral.end.sent (data_ahead j.up) (ap data_ahead at)) ∙ sym st.counts.peripheral_sent ∙ one ∙ ap (λ (n : ℕ). n + 1) st.counts.central_opened

  pub opens_up : HaveVector s → j.up ≡ OnAir item sealed → CanOpen s.peripheral.made s.central.end
  opens_up vector at =
      let on = on_up at in
      can_open Peripheral Central refl q p sealed s.peripheral s.central.end (made_up at) st.central on.is_opened
      (λ some. turned s.central.end s.peripheral.end (vector (listener_has Peripheral Central q p sealed on some) (sender_has Peripheral Central q p sealed on some)))
      (ahead_up at)

  -- ---- the key

  pub keys_down : HaveKey s → j.down ≡ OnAir item sealed → sealed ≡ true → s.central.made.key ≡ s.peripheral.end.key
  keys_down key at some =
      let on = on_down at in
      ((made_down at).one_less some).key ∙ key (sender_has Central Peripheral p q sealed on some) (listener_has Central Peripheral p q sealed on some)

  pub keys_up : HaveKey s → j.up ≡ OnAir item sealed → sealed ≡ true → s.peripheral.made.key ≡ s.central.end.key
  keys_up key at some =
      let on = on_up at in
      ((made_up at).one_less some).key ∙ sym (key (listener_has Peripheral Central q p sealed on some) (sender_has Peripheral Central q p sealed on some))

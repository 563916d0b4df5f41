-- An end as its PDU on the air was first sent: its session goes on, and its counter is one less.
use Rattle.std.specs.Prelude.{⊤}
use Rattle.std.proofs.Common.{◌≡◌, ℕ, ◌+◌, Bool, true, false, if◌then◌else◌, List, refl, sym, ap, subst, ◌∙◌}
use Rattle.std.proofs.lemmas.Bool.{and_parts}
use Rattle.ble_base.specs.declared.roles.Role.{Role}
use Rattle.ble_base.specs.declared.roles.Role.TheVariants.{Central, Peripheral}
use Rattle.enc_phase.specs.declared.facts.PhaseFacts.{PhaseFacts}
use Rattle.enc_phase.specs.Phases.{seals}
use Rattle.phased_control.specs.enc_phase.Sealing.{EncEnd}
use Rattle.machines.specs.Machine.{run}
use Rattle.phase_pairs.specs.declared.joint.PhaseEvent.{PhaseEvent}
use Rattle.phase_pairs.specs.declared.joint.PhaseLink.{PhaseLink}
use Rattle.phase_pairs.specs.Agreement.{is_equal}
use Rattle.phase_pairs.specs.Counted.{first_after}
use Rattle.phase_pairs.specs.JointRun.{encryption}
use Rattle.joint_controls.specs.Joint.{Joint, Way, Clear, Control, Data, Fixed, OnAir, Taken}
use Rattle.joint_phases.specs.Parts.{IsShown, way_down, way_up}
use Rattle.joint_keys.specs.KeyedJoint.{Keys, keys_sending}
use Rattle.joint_keys.proofs.EndChanges.{IsEnd}
use Rattle.joint_keys.proofs.EndGoing.{in_session, seals_on}
use Rattle.joint_keys.proofs.KeysGoing.{KeysGo}
use Rattle.joint_keys.proofs.SealedWays.{are_ways_right, is_way_right, ways_right}

-- ---- what is sealed on a way

-- the sender seals now as its PDU on the air, or its data that is fixed, is sealed
abbrev pub IsSealedAs : Role → PhaseFacts → Way → Type 0
IsSealedAs role phase (OnAir item sealed) = sealed ≡ seals role phase
IsSealedAs role phase (Fixed Data sealed) = sealed ≡ seals role phase
IsSealedAs role phase way = ⊤

pub equal_is : (a b : Bool) → is_equal a b ≡ true → a ≡ b
equal_is true true is = refl
equal_is true false is = absurd (cc)
equal_is false true is = absurd (cc)
equal_is false false is = refl

sealed_down : (knows : Bool) (phase : PhaseFacts) (w : Way) → is_way_right Central phase (way_down knows w) ≡ true → IsSealedAs Central phase w
sealed_down knows phase (OnAir item sealed) is = equal_is sealed (seals Central phase) is
sealed_down knows phase (Fixed Data sealed) is = equal_is sealed (seals Central phase) is
sealed_down knows phase (Fixed (Control outgoing ctrl) sealed) is = tt
sealed_down knows phase Clear is = tt
sealed_down knows phase (Taken item) is = tt

sealed_up : (knows : Bool) (phase : PhaseFacts) (w : Way) → is_way_right Peripheral phase (way_up knows w) ≡ true → IsSealedAs Peripheral phase w
sealed_up knows phase (OnAir item sealed) is = equal_is sealed (seals Peripheral phase) is
sealed_up knows phase (Fixed Data sealed) is = equal_is sealed (seals Peripheral phase) is
sealed_up knows phase (Fixed (Control outgoing ctrl) sealed) is = tt
sealed_up knows phase Clear is = tt
sealed_up knows phase (Taken item) is = tt

pub sealed_ways : (s : Joint) (m : PhaseLink) (events : List PhaseEvent) → m ≡ run encryption events → IsShown s m
    → IsSealedAs Central s.central.phase s.down × IsSealedAs Peripheral s.peripheral.phase s.up
sealed_ways s m events reached is =
    let right : are_ways_right m ≡ true = ap are_ways_right reached ∙ ways_right events in
    let two = and_parts (is_way_right Central m.central.phase m.down) (is_way_right Peripheral m.peripheral.phase m.up) right in (
      sealed_down s.central.knows_version s.central.phase s.down ((λ i. is_way_right Central (is.central.phase i) (sym is.down i)) ∙ two.0),
      sealed_up s.peripheral.knows_version s.peripheral.phase s.up ((λ i. is_way_right Peripheral (is.peripheral.phase i) (sym is.up i)) ∙ two.1),
    )

-- ---- the end as it sent

pub record IsOneLess (made e : EncEnd) : Type 0 where
  pub key : made.key ≡ e.key
  pub iv : made.iv ≡ e.iv
  pub counter : e.sent ≡ made.sent + 1

pub record IsMade (in_role : Role) (sealed : Bool) (k : Keys) : Type 0 where
  pub role_too : k.made.role ≡ in_role
  pub sealing : seals k.made.role k.made.phase ≡ sealed
  pub one_less : sealed ≡ true → IsOneLess k.made k.end

abbrev pub MadeOn : Role → Way → Keys → Type 0
MadeOn role (OnAir item sealed) k = IsMade role sealed k
MadeOn role way k = ⊤

made_stays : (role : Role) (takes : Bool) (p q : PhaseFacts) (sealed : Bool) (k l : Keys) → KeysGo role false takes p q k l → IsMade role sealed k
    → sealed ≡ seals role p → sealed ≡ seals role q → IsMade role sealed l
made_stays role takes p q sealed k l goes made before now =
    subst (λ (x : EncEnd). IsMade role sealed (record l { made = x })) (sym (goes.made_kept refl))
    (record {
      role_too = made.role_too;
      sealing = made.sealing;
      one_less =
          λ is.
          let some = in_session role p (sym before ∙ is) in
          let on = goes.end_goes.goes_on some (in_session role q (sym now ∙ is)) in
          record {
            key = (made.one_less is).key ∙ sym on.0;
            iv = (made.one_less is).iv ∙ sym on.1;
            counter = goes.end_goes.sends_on ∙ ap (λ x. first_after x k.end.sent) (seals_on role p q some (sym now ∙ is)) ∙ (made.one_less is).counter;
          };
    })

pub made_on : (role : Role) (takes : Bool) (p q : PhaseFacts) (w : Way) (k l : Keys) → KeysGo role false takes p q k l → MadeOn role w k
    → IsSealedAs role p w → IsSealedAs role q w → MadeOn role w l
made_on role takes p q (OnAir item sealed) k l goes made before now = made_stays role takes p q sealed k l goes made before now
made_on role takes p q Clear k l goes made before now = tt
made_on role takes p q (Fixed item sealed) k l goes made before now = tt
made_on role takes p q (Taken item) k l goes made before now = tt

more_by : (b : Bool) (n : ℕ) → b ≡ true → (if b then n + 1 else n) ≡ n + 1
more_by true n is = refl
more_by false n is = absurd (cc)

pub made_now : (role : Role) (p : PhaseFacts) (sealed : Bool) (k : Keys) → IsEnd role p k.end → sealed ≡ seals role p → IsMade role sealed (keys_sending k)
made_now role p sealed k here is =
    let same : seals k.end.role k.end.phase ≡ sealed = (λ i. seals (here.role_too i) (here.phase_too i)) ∙ sym is in
    record {
      role_too = here.role_too;
      sealing = same;
      one_less = λ some. record { key = refl; iv = refl; counter = more_by (seals k.end.role k.end.phase) k.end.sent (same ∙ some) };
    }

-- What a change of the phase does to an end: its phase, its session and its counters, in the words of the counters of two
-- ends.
use Rattle.std.proofs.Common.{◌≡◌, ℕ, Bool, true, false, List, refl, sym, subst, ◌∙◌}
use Rattle.ble_base.specs.declared.roles.Role.{Role}
use Rattle.ble_base.specs.declared.roles.Role.TheVariants.{Central, Peripheral}
use Rattle.enc_phase.specs.declared.classes.PduClass.{PduClass}
use Rattle.enc_phase.specs.declared.classes.PduClass.TheVariants.{EncRsp, Request}
use Rattle.enc_phase.specs.declared.facts.PhaseFacts.{PhaseFacts}
use Rattle.enc_phase.specs.declared.facts.PhaseFacts.TheVariants.{Asked, Clear, HalfClear, HalfKeyed, Pausing, Secure}
use Rattle.enc_phase.specs.declared.facts.Transition.TheVariants.{Ask, Confirm, Pause, Refuse, Unlock}
use Rattle.enc_phase.specs.Phases.{is_asked, opens, seals}
use Rattle.enc_phase.specs.Taking.{phase_taking}
use Rattle.enc_phase.proofs.Steps.{apart, has_session}
use Rattle.phased_control.specs.enc_phase.Sealing.{EncEnd}
use Rattle.phased_control.specs.PhaseChanges.{Change, Moves, Starts, Stays, Took, changed, may_change}
use Rattle.phase_pairs.specs.Counted.{first_after, receiving_effect, second_after, sending_effect}
use Rattle.keyed_control.specs.declared.material.KeyMaterial.{KeyMaterial}
use Rattle.keyed_control.specs.Keyed.{session_of}
use Rattle.keyed_control.specs.KeyedSteps.{end_changed}

-- an end of this role in this phase: a clear direction has the counter 0
pub record IsEnd (in_role : Role) (in_phase : PhaseFacts) (e : EncEnd) : Type 0 where
  pub role_too : e.role ≡ in_role
  pub phase_too : e.phase ≡ in_phase
  pub clear_sent : seals in_role in_phase ≡ false → e.sent ≡ 0
  pub clear_opened : opens in_role in_phase ≡ false → e.opened ≡ 0

-- an end goes from one phase to another, and sends or takes a PDU or not; a session that begins is that of the material
pub record EndGoes (in_role : Role) (sends takes : Bool) (p q : PhaseFacts) (m : KeyMaterial) (e f : EncEnd) : Type 0 where
  pub role_too : f.role ≡ in_role
  pub phase_too : f.phase ≡ q
  pub sends_on : f.sent ≡ first_after (sending_effect sends in_role p q) e.sent
  pub opens_on : f.opened ≡ second_after (receiving_effect takes in_role p q) e.opened
  pub goes_on : has_session p ≡ true → has_session q ≡ true → (f.key ≡ e.key) × (f.iv ≡ e.iv)
  pub begins :
      has_session p ≡ false → has_session q ≡ true → (f.key ≡ (session_of m).key) × (f.iv ≡ (session_of m).iv)

-- ---- phases that differ in what they remember alone

data Alike : PhaseFacts → PhaseFacts → Type 0 where
  asked : (a b c d e f : Bool) → Alike (Asked a b c) (Asked d e f)
  pausing : (a b : Bool) → Alike (Pausing a) (Pausing b)
  same : (p : PhaseFacts) → Alike p p

alike : (pdu : PduClass) (p : PhaseFacts) → Alike p (phase_taking pdu p)
alike EncRsp (Asked a b c) = asked a b c a true c
alike Request (Asked a b c) = asked a b c a b true
alike Request (Pausing a) = pausing a true
alike pdu p = same p

module _ (m : KeyMaterial) (key iv : List ℕ) (sent opened : ℕ) where
  abbrev end_in : Role → PhaseFacts → EncEnd
  end_in role p = record { role = role; phase = p; key = key; iv = iv; sent = sent; opened = opened }

  abbrev Stays_ : Role → PhaseFacts → PhaseFacts → Type 0
  Stays_ role p q =
      (seals role p ≡ false → sent ≡ 0) → (opens role p ≡ false → opened ≡ 0) → EndGoes role false false p q m (end_in role p) (end_in role q)

  goes_with : (role : Role) (p q : PhaseFacts) → sent ≡ first_after (sending_effect false role p q) sent
      → opened ≡ second_after (receiving_effect false role p q) opened → has_session q ≡ has_session p
      → EndGoes role false false p q m (end_in role p) (end_in role q)
  goes_with role p q s o session =
      record {
        role_too = refl;
        phase_too = refl;
        sends_on = s;
        opens_on = o;
        goes_on = λ a b. (refl, refl);
        begins = λ a b. absurd (apart (sym session ∙ b) a);
      }

  stays : (role : Role) (p q : PhaseFacts) → Alike p q → Stays_ role p q
  stays Central _ _ (asked a b c d e f) s o = goes_with Central _ _ (s refl) (o refl) refl
  stays Peripheral _ _ (asked a b c d e f) s o = goes_with Peripheral _ _ (s refl) (o refl) refl
  stays Central _ _ (pausing a b) s o = goes_with Central _ _ refl refl refl
  stays Peripheral _ _ (pausing a b) s o = goes_with Peripheral _ _ refl (o refl) refl
  stays Central _ _ (same Clear) s o = goes_with Central _ _ (s refl) (o refl) refl
  stays Peripheral _ _ (same Clear) s o = goes_with Peripheral _ _ (s refl) (o refl) refl
  stays Central _ _ (same (Asked a b c)) s o = goes_with Central _ _ (s refl) (o refl) refl
  stays Peripheral _ _ (same (Asked a b c)) s o = goes_with Peripheral _ _ (s refl) (o refl) refl
  stays Central _ _ (same HalfKeyed) s o = goes_with Central _ _ refl refl refl
  stays Peripheral _ _ (same HalfKeyed) s o = goes_with Peripheral _ _ (s refl) refl refl
  stays Central _ _ (same Secure) s o = goes_with Central _ _ refl refl refl
  stays Peripheral _ _ (same Secure) s o = goes_with Peripheral _ _ refl refl refl
  stays Central _ _ (same (Pausing a)) s o = goes_with Central _ _ refl refl refl
  stays Peripheral _ _ (same (Pausing a)) s o = goes_with Peripheral _ _ refl (o refl) refl
  stays Central _ _ (same (HalfClear a)) s o = goes_with Central _ _ (s refl) (o refl) refl
  stays Peripheral _ _ (same (HalfClear a)) s o = goes_with Peripheral _ _ (s refl) (o refl) refl

  abbrev Goes : Role → Change → PhaseFacts → Type 0
  Goes role change p = EndGoes role false false p (changed change p) m (end_in role p) (end_changed change m (end_in role p))

  starts : (role : Role) (p : PhaseFacts) → is_asked p ≡ true → Goes role Starts p
  starts Central (Asked a b c) is =
      record { role_too = refl; phase_too = refl; sends_on = refl; opens_on = refl; goes_on = λ x y. absurd (cc); begins = λ x y. (refl, refl) }
  starts Peripheral (Asked a b c) is =
      record { role_too = refl; phase_too = refl; sends_on = refl; opens_on = refl; goes_on = λ x y. absurd (cc); begins = λ x y. (refl, refl) }
  starts role p is = absurd (cc)

  cleared : (role : Role) (change : Change) (p : PhaseFacts) → (end_changed change m (end_in role p)).role ≡ role → (end_changed change m (end_in role p)).phase ≡ changed change p
      → (end_changed change m (end_in role p)).sent ≡ first_after (sending_effect false role p (changed change p)) sent
      → (end_changed change m (end_in role p)).opened ≡ second_after (receiving_effect false role p (changed change p)) opened
      → has_session (changed change p) ≡ false → Goes role change p
  cleared role change p r f s o none =
      record {
        role_too = r;
        phase_too = f;
        sends_on = s;
        opens_on = o;
        goes_on = λ a b. absurd (apart b none);
        begins = λ a b. absurd (apart b none);
      }

  kept : (role : Role) (change : Change) (p : PhaseFacts) → has_session p ≡ true → (end_changed change m (end_in role p)).role ≡ role
      → (end_changed change m (end_in role p)).phase ≡ changed change p
      → (end_changed change m (end_in role p)).sent ≡ first_after (sending_effect false role p (changed change p)) sent
      → (end_changed change m (end_in role p)).opened ≡ second_after (receiving_effect false role p (changed change p)) opened
      → (end_changed change m (end_in role p)).key ≡ key → (end_changed change m (end_in role p)).iv ≡ iv → Goes role change p
  kept role change p some r f s o k i =
      record {
        role_too = r;
        phase_too = f;
        sends_on = s;
        opens_on = o;
        goes_on = λ a b. (k, i);
        begins = λ a b. absurd (apart some a);
      }

  moves : (role : Role) (change : Change) (p : PhaseFacts) → may_change change p ≡ true → (seals role p ≡ false → sent ≡ 0)
      → (opens role p ≡ false → opened ≡ 0) → Goes role change p
  moves role Stays p may s o = stays role p p (same p) s o
  moves role (Took pdu) p may s o = stays role p (phase_taking pdu p) (alike pdu p) s o
  moves role Starts p may s o = starts role p may
  moves Central (Moves Ask) Clear may s o = cleared Central (Moves Ask) Clear refl refl refl refl refl
  moves Peripheral (Moves Ask) Clear may s o = cleared Peripheral (Moves Ask) Clear refl refl refl refl refl
  moves Central (Moves Ask) (HalfClear a) may s o = cleared Central (Moves Ask) (HalfClear a) refl refl refl refl refl
  moves Peripheral (Moves Ask) (HalfClear a) may s o = cleared Peripheral (Moves Ask) (HalfClear a) refl refl refl refl refl
  moves Central (Moves Refuse) (Asked a b c) may s o = cleared Central (Moves Refuse) (Asked a b c) refl refl refl refl refl
  moves Peripheral (Moves Refuse) (Asked a b c) may s o = cleared Peripheral (Moves Refuse) (Asked a b c) refl refl refl refl refl
  moves Central (Moves Confirm) HalfKeyed may s o = kept Central (Moves Confirm) HalfKeyed refl refl refl refl refl refl refl
  moves Peripheral (Moves Confirm) HalfKeyed may s o = kept Peripheral (Moves Confirm) HalfKeyed refl refl refl refl refl refl refl
  moves Central (Moves Pause) Secure may s o = kept Central (Moves Pause) Secure refl refl refl refl refl refl refl
  moves Peripheral (Moves Pause) Secure may s o = kept Peripheral (Moves Pause) Secure refl refl refl refl refl refl refl
  moves Central (Moves Unlock) (Pausing a) may s o = cleared Central (Moves Unlock) (Pausing a) refl refl refl refl refl
  moves Peripheral (Moves Unlock) (Pausing a) may s o = cleared Peripheral (Moves Unlock) (Pausing a) refl refl refl refl refl
  moves role (Moves t) p may s o = absurd (cc)

-- ---- for any end

pub end_goes : (role : Role) (change : Change) (p : PhaseFacts) (m : KeyMaterial) (e : EncEnd) → IsEnd role p e → may_change change p ≡ true
    → EndGoes role false false p (changed change p) m e (end_changed change m e)
end_goes role change p m e is may =
    subst (λ (d : EncEnd). EndGoes role false false p (changed change p) m d (end_changed change m d))
    (λ i. record e { role = sym is.role_too i; phase = sym is.phase_too i })
    (moves m e.key e.iv e.sent e.opened role change p may is.clear_sent is.clear_opened)

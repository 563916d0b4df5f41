-- An end that sends, that opens and that stays, and what lasts of it.
use Rattle.std.proofs.Common.{◌≡◌, ℕ, ◌+◌, Bool, true, false, not, ◌&&◌, ◌||◌, if◌then◌else◌, refl, sym, ap, ◌∙◌}
use Rattle.ble_base.specs.declared.roles.Role.{Role}
use Rattle.enc_phase.specs.declared.facts.PhaseFacts.{PhaseFacts}
use Rattle.enc_phase.specs.declared.facts.PhaseFacts.TheVariants.{Asked, Clear, HalfClear, HalfKeyed, Pausing, Secure}
use Rattle.enc_phase.specs.Phases.{is_asked, opens, seals}
use Rattle.enc_phase.proofs.Steps.{apart, has_session, seals_in_session}
use Rattle.phased_control.specs.enc_phase.Sealing.{EncEnd, after_opening, after_sending}
use Rattle.phase_pairs.specs.Counted.{FirstMore, FirstNone, Nothing, SecondMore, SecondNone, first_after, is_beginning, is_half_keyed, receiving_effect, second_after, sending_effect}
use Rattle.keyed_control.specs.declared.material.KeyMaterial.{KeyMaterial}
use Rattle.joint_keys.proofs.EndChanges.{EndGoes, IsEnd}

-- ---- the effects

none_sent : (b s sends : Bool) (n : ℕ) → s ≡ false → first_after (if b || not s then FirstNone else (if sends then FirstMore else Nothing)) n ≡ 0
none_sent true s sends n is = refl
none_sent false true sends n is = absurd (cc)
none_sent false false sends n is = refl

none_opened : (b s takes : Bool) (n : ℕ) → s ≡ false → second_after (if b || not s then SecondNone else (if takes then SecondMore else Nothing)) n ≡ 0
none_opened true s takes n is = refl
none_opened false true takes n is = absurd (cc)
none_opened false false takes n is = refl

pub not_beginning : (p : PhaseFacts) → is_beginning p p ≡ false
not_beginning Clear = refl
not_beginning (Asked a b c) = refl
not_beginning HalfKeyed = refl
not_beginning Secure = refl
not_beginning (Pausing a) = refl
not_beginning (HalfClear a) = refl

-- where the phase stays
pub sent_by : (b s sends : Bool) (n : ℕ) → b ≡ false → (s ≡ false → n ≡ 0)
    → (if s then (if sends then n + 1 else n) else n) ≡ first_after (if b || not s then FirstNone else (if sends then FirstMore else Nothing)) n
sent_by true s sends n is zero = absurd (cc)
sent_by false true true n is zero = refl
sent_by false true false n is zero = refl
sent_by false false sends n is zero = zero refl

same_by : (s : Bool) (n : ℕ) → (if s then n else n) ≡ n
same_by true n = refl
same_by false n = refl

opened_by : (b s : Bool) (n : ℕ) → b ≡ false → (s ≡ false → n ≡ 0) → n ≡ second_after (if b || not s then SecondNone else Nothing) n
opened_by true s n is zero = absurd (cc)
opened_by false true n is zero = refl
opened_by false false n is zero = zero refl

module _ (role : Role) (p : PhaseFacts) (n : ℕ) where
  pub sent_stays : (seals role p ≡ false → n ≡ 0) → n ≡ first_after (sending_effect false role p p) n
  sent_stays zero = sym (same_by (seals role p) n) ∙ sent_by (is_beginning p p) (seals role p) false n (not_beginning p) zero

  pub opened_stays : (opens role p ≡ false → n ≡ 0) → n ≡ second_after (receiving_effect false role p p) n
  opened_stays zero = opened_by (is_beginning p p) (opens role p) n (not_beginning p) zero

  pub sent_more : (seals role p ≡ false → n ≡ 0) → (if seals role p then n + 1 else n) ≡ first_after (sending_effect true role p p) n
  sent_more zero = sent_by (is_beginning p p) (seals role p) true n (not_beginning p) zero

-- an end that seals before and after goes on with its counter
half_keyed_or_not : (a b : Bool) → b ≡ false → (a && b) ≡ false
half_keyed_or_not true b is = is
half_keyed_or_not false b is = refl

asked_or_not : (a b : Bool) → a ≡ false → (a && b) ≡ false
asked_or_not true b is = absurd (cc)
asked_or_not false b is = refl

no_session_asked : (p : PhaseFacts) → has_session p ≡ true → is_asked p ≡ false
no_session_asked (Asked a b c) is = absurd (cc)
no_session_asked p is = refl

in_session_by : (b : Bool) (role : Role) (p : PhaseFacts) → has_session p ≡ b → seals role p ≡ true → b ≡ true
in_session_by true role p at is = refl
in_session_by false role p at is = absurd (apart is (seals_in_session role p at))

pub in_session : (role : Role) (p : PhaseFacts) → seals role p ≡ true → has_session p ≡ true
in_session role p is = in_session_by (has_session p) role p refl is

nothing_by : (b s : Bool) → b ≡ false → s ≡ true → (if b || not s then FirstNone else Nothing) ≡ Nothing
nothing_by true s none is = absurd (cc)
nothing_by false true none is = refl
nothing_by false false none is = absurd (cc)

pub seals_on : (role : Role) (p q : PhaseFacts) → has_session p ≡ true → seals role q ≡ true → sending_effect false role p q ≡ Nothing
seals_on role p q before is =
    nothing_by (is_beginning p q) (seals role q) (asked_or_not (is_asked p) (is_half_keyed q) (no_session_asked p before)) is

-- ---- an end in its phase

pub end_kept : (role : Role) (sends takes : Bool) (p q : PhaseFacts) (m : KeyMaterial) (e f : EncEnd) → EndGoes role sends takes p q m e f → IsEnd role q f
end_kept role sends takes p q m e f goes =
    record {
      role_too = goes.role_too;
      phase_too = goes.phase_too;
      clear_sent = λ is. goes.sends_on ∙ none_sent (is_beginning p q) (seals role q) sends e.sent is;
      clear_opened = λ is. goes.opens_on ∙ none_opened (is_beginning p q) (opens role q) takes e.opened is;
    }

module _ (role : Role) (p : PhaseFacts) (m : KeyMaterial) (e : EncEnd) (is : IsEnd role p e) where
  seals_is : seals e.role e.phase ≡ seals role p
  seals_is = λ i. seals (is.role_too i) (is.phase_too i)

  opens_is : opens e.role e.phase ≡ opens role p
  opens_is = λ i. opens (is.role_too i) (is.phase_too i)

  pub end_stays : EndGoes role false false p p m e e
  end_stays =
      record {
        role_too = is.role_too;
        phase_too = is.phase_too;
        sends_on = sent_stays role p e.sent is.clear_sent;
        opens_on = opened_stays role p e.opened is.clear_opened;
        goes_on = λ a b. (refl, refl);
        begins = λ a b. absurd (apart b a);
      }

  -- a PDU is sent
  pub end_sends : EndGoes role true false p p m e (after_sending e)
  end_sends =
      record {
        role_too = is.role_too;
        phase_too = is.phase_too;
        sends_on = ap (λ (s : Bool). if s then e.sent + 1 else e.sent) seals_is ∙ sent_more role p e.sent is.clear_sent;
        opens_on = opened_stays role p e.opened is.clear_opened;
        goes_on = λ a b. (refl, refl);
        begins = λ a b. absurd (apart b a);
      }

  -- a PDU of the other end is opened, and then the phase goes on
  opened_clear : (b : Bool) → (b ≡ false → e.opened ≡ 0) → b ≡ false → (if b then e.opened + 1 else e.opened) ≡ 0
  opened_clear true zero none = absurd (cc)
  opened_clear false zero none = zero refl

  pub end_opening : IsEnd role p (after_opening e)
  end_opening =
      record {
        role_too = is.role_too;
        phase_too = is.phase_too;
        clear_sent = is.clear_sent;
        clear_opened = λ none. ap (λ (b : Bool). if b then e.opened + 1 else e.opened) opens_is ∙ opened_clear (opens role p) is.clear_opened none;
      }

  opened_more : (b t : Bool) (n : ℕ)
      → second_after (if b then SecondNone else Nothing) (if t then n + 1 else n) ≡ second_after (if b then SecondNone else (if t then SecondMore else Nothing)) n
  opened_more true t n = refl
  opened_more false true n = refl
  opened_more false false n = refl

  pub end_takes : (q : PhaseFacts) (f : EncEnd) → EndGoes role false false p q m (after_opening e) f → EndGoes role false (opens role p) p q m e f
  end_takes q f goes =
      record {
        role_too = goes.role_too;
        phase_too = goes.phase_too;
        sends_on = goes.sends_on;
        opens_on =
            goes.opens_on
            ∙ ap (λ (b : Bool). second_after (receiving_effect false role p q) (if b then e.opened + 1 else e.opened)) opens_is
            ∙ opened_more (is_beginning p q || not (opens role q)) (opens role p) e.opened;
        goes_on = goes.goes_on;
        begins = goes.begins;
      }

  -- where neither is done and the phase stays, the counters stay
  pub counters_stay : (f : EncEnd) → EndGoes role false false p p m e f → (f.sent ≡ e.sent) × (f.opened ≡ e.opened)
  counters_stay f goes =
      (goes.sends_on ∙ sym (sent_stays role p e.sent is.clear_sent), goes.opens_on ∙ sym (opened_stays role p e.opened is.clear_opened))

-- The keys of an end in each step of a joint run.
use Rattle.std.proofs.Common.{◌≡◌, ℕ, Bool, true, false, ◌||◌, if◌then◌else◌, List, Option, Some, None, is_none, is_some, refl, sym, ap, subst, ◌∙◌}
use Rattle.ble_base.specs.declared.error_codes.ErrCode.{ErrCode}
use Rattle.ble_base.specs.declared.roles.Role.{Role}
use Rattle.data_pdu.specs.declared.ctrl.CtrlRead.TheVariants.{Known}
use Rattle.enc_phase.specs.declared.facts.PhaseFacts.{PhaseFacts}
use Rattle.enc_phase.specs.Phases.{opens}
use Rattle.instants.specs.declared.indications.Params.{Params}
use Rattle.phased_control.specs.enc_phase.Sealing.{EncEnd, after_opening, is_right}
use Rattle.phased_control.specs.PhaseChanges.{change_of, changed, may_change}
use Rattle.phased_control.specs.Phased.{Phased, first_phased}
use Rattle.phased_control.specs.Taken.{PhasedStep, Response, phased_after, phased_after_all}
use Rattle.phased_control.specs.Taken.{Enters as phased_enters, SeesAcknowledged as phased_sees_acknowledged}
use Rattle.phased_control.proofs.Changing.{may_change_now, phase_changes}
use Rattle.keyed_control.specs.declared.material.KeyMaterial.{KeyMaterial}
use Rattle.keyed_control.specs.Keyed.{Keyed}
use Rattle.keyed_control.specs.KeyedSteps.{KeyedStep, Answers, Asks, Disconnects, Enters, GivesKey, LacksKey, Opens, Seals, SeesAcknowledged, Sends, Takes, TakesData, end_changed, is_of_session, keyed_after, keyed_moved, phased_step}
use Rattle.keyed_control.proofs.Phases.{after_one, phased_once}
use Rattle.joint_controls.specs.Joint.{Control, Data, HostStep, Item, AnswersRequest, AsksFor, Ends, HasKey, HasNoKey, host_step, taking}
use Rattle.joint_keys.specs.KeyedJoint.{Keys, host_keyed, item_keyed, keyed_with, keys_after, keys_opening, keys_sending}
use Rattle.joint_keys.proofs.EndChanges.{EndGoes, IsEnd, end_goes}
use Rattle.joint_keys.proofs.EndGoing.{end_kept, end_opening, end_sends, end_stays, end_takes}

-- the keys of an end whose phase goes from one to another
pub record KeysGo (role : Role) (sends takes : Bool) (p q : PhaseFacts) (k l : Keys) : Type 0 where
  pub end_goes : EndGoes role sends takes p q l.material k.end l.end
  -- the end is kept as a PDU is first sent
  pub made_kept : sends ≡ false → l.made ≡ k.made
  pub made_now : sends ≡ true → l.made ≡ k.end

-- an end comes to this by steps of its own
pub record IsAt (role : Role) (s : Phased) : Type 0 where
  pub max_rx : ℕ
  pub first : Params
  pub slot : ℕ
  pub steps : List PhasedStep
  pub is : s ≡ phased_after_all steps (first_phased role max_rx first slot)

pub may_at : (role : Role) (s : Phased) → IsAt role s → s.control.ends ≡ None → (step : PhasedStep) → may_change (change_of step s) s.phase ≡ true
may_at role s at lasts step =
    subst (λ (t : Phased). t.control.ends ≡ None → may_change (change_of step t) t.phase ≡ true) (sym at.is)
    (may_change_now role at.max_rx at.first at.slot at.steps step) lasts

pub changes_at : (role : Role) (s : Phased) → IsAt role s → s.control.ends ≡ None → (step : PhasedStep)
    → (phased_after step s).phase ≡ changed (change_of step s) s.phase
changes_at role s at lasts step =
    subst (λ (t : Phased). t.control.ends ≡ None → (phased_after step t).phase ≡ changed (change_of step t) t.phase) (sym at.is)
    (phase_changes role at.max_rx at.first at.slot at.steps step) lasts

-- ---- a step of an end that goes on

or_true : (b : Bool) → (b || true) ≡ true
or_true true = refl
or_true false = refl

pub open_keyed : (P : Keyed → Type 0) (step : KeyedStep) (k : Keyed) → k.phased.control.ends ≡ None → P (keyed_moved step k) → P (keyed_after step k)
open_keyed P step k lasts h =
    subst (λ (b : Bool). P (if b then keyed_moved step k else k))
    (sym (ap (λ (ends : Option ErrCode). is_of_session step || is_none ends) lasts ∙ or_true (is_of_session step))) h

abbrev changed_by : Option PhasedStep → Keyed → KeyMaterial → EncEnd
changed_by None k m = k.end
changed_by (Some step) k m = end_changed (change_of step k.phased) m k.end

moved_end : (step : KeyedStep) (k : Keyed) → is_of_session step ≡ false → (keyed_moved step k).end ≡ changed_by (phased_step step) k (keyed_moved step k).material
moved_end (Enters slot) k is = refl
moved_end (Asks ask) k is = refl
moved_end (Answers answer) k is = refl
moved_end (GivesKey ltk) k is = refl
moved_end LacksKey k is = refl
moved_end (Disconnects reason) k is = refl
moved_end (Sends slot) k is = refl
moved_end SeesAcknowledged k is = refl
moved_end (Takes read slot response) k is = refl
moved_end TakesData k is = refl
moved_end (Seals header body) k is = absurd (cc)
moved_end (Opens header payload) k is = absurd (cc)

module _ (role : Role) (s : Phased) (at : IsAt role s) (lasts : s.control.ends ≡ None) where
  -- the end alone
  end_steps : (step : KeyedStep) (p : PhasedStep) (k : Keys) → is_of_session step ≡ false → phased_step step ≡ Some p → IsEnd role s.phase k.end
      → let l = keys_after step s k in
      EndGoes role false false s.phase (phased_after p s).phase l.material k.end l.end
  end_steps step p k of is here =
      let kk = keyed_with s k in
      let same : (keyed_after step kk).end ≡ end_changed (change_of p s) (keyed_after step kk).material k.end =
      open_keyed (λ (l : Keyed). l.end ≡ end_changed (change_of p s) l.material k.end) step kk lasts
      (moved_end step kk of ∙ ap (λ (o : Option PhasedStep). changed_by o kk (keyed_moved step kk).material) is) in
      subst (λ (q : PhaseFacts). EndGoes role false false s.phase q (keyed_after step kk).material k.end (keyed_after step kk).end) (sym (changes_at role s at lasts p))
      (subst (λ (e : EncEnd). EndGoes role false false s.phase (changed (change_of p s) s.phase) (keyed_after step kk).material k.end e) (sym same)
      (end_goes role (change_of p s) s.phase (keyed_after step kk).material k.end here (may_at role s at lasts p)))

  keys_step : (step : KeyedStep) (p : PhasedStep) (k : Keys) → is_of_session step ≡ false → phased_step step ≡ Some p → IsEnd role s.phase k.end
      → KeysGo role false false s.phase (phased_after p s).phase k (keys_after step s k)
  keys_step step p k of is here = record { end_goes = end_steps step p k of is here; made_kept = λ none. refl; made_now = λ some. absurd (cc) }

  pub keys_enter : (slot : ℕ) (k : Keys) → IsEnd role s.phase k.end
      → KeysGo role false false s.phase (phased_after (phased_enters slot) s).phase k (keys_after (Enters slot) s k)
  keys_enter slot k here = keys_step (Enters slot) (phased_enters slot) k refl refl here

  pub keys_acked : (k : Keys) → IsEnd role s.phase k.end
      → KeysGo role false false s.phase (phased_after phased_sees_acknowledged s).phase k (keys_after SeesAcknowledged s k)
  keys_acked k here = keys_step SeesAcknowledged phased_sees_acknowledged k refl refl here

  pub keys_host : (step : HostStep) (ltk : List ℕ) (k : Keys) → IsEnd role s.phase k.end
      → KeysGo role false false s.phase (phased_after (host_step step) s).phase k (keys_after (host_keyed step ltk) s k)
  keys_host (AsksFor ask) ltk k here = keys_step (Asks ask) _ k refl refl here
  keys_host (AnswersRequest answer) ltk k here = keys_step (Answers answer) _ k refl refl here
  keys_host (Ends reason) ltk k here = keys_step (Disconnects reason) _ k refl refl here
  keys_host HasKey ltk k here = keys_step (GivesKey ltk) _ k refl refl here
  keys_host HasNoKey ltk k here = keys_step LacksKey _ k refl refl here

  keys_read : (step : KeyedStep) (p : PhasedStep) (k : Keys) → is_of_session step ≡ false → phased_step step ≡ Some p → IsEnd role s.phase k.end
      → KeysGo role false (opens role s.phase) s.phase (phased_after p s).phase k (keys_after step s (keys_opening k))
  keys_read step p k of is here =
      let l = keys_after step s (keys_opening k) in
      record {
        end_goes =
            end_takes role s.phase l.material k.end here (phased_after p s).phase l.end
            (end_steps step p (keys_opening k) of is (end_opening role s.phase l.material k.end here));
        made_kept = λ none. refl;
        made_now = λ some. absurd (cc);
      }

  pub keys_take : (item : Item) (slot : ℕ) (response : Response) (k : Keys) → IsEnd role s.phase k.end
      → KeysGo role false (opens role s.phase) s.phase (phased_after (taking item slot response) s).phase k (keys_after (item_keyed item slot response) s (keys_opening k))
  keys_take Data slot response k here = keys_read TakesData _ k refl refl here
  keys_take (Control outgoing ctrl) slot response k here = keys_read (Takes (Known ctrl) slot response) _ k refl refl here

-- ---- the phase stays

pub keys_stay : (role : Role) (p : PhaseFacts) (k : Keys) → IsEnd role p k.end → KeysGo role false false p p k k
keys_stay role p k here = record { end_goes = end_stays role p k.material k.end here; made_kept = λ none. refl; made_now = λ some. absurd (cc) }

pub keys_send : (role : Role) (p : PhaseFacts) (k : Keys) → IsEnd role p k.end → KeysGo role true false p p k (keys_sending k)
keys_send role p k here = record { end_goes = end_sends role p k.material k.end here; made_kept = λ none. absurd (cc); made_now = λ some. refl }

-- ---- an end in its phase stays so in each step of its own

module _ (role : Role) (k : Keyed) (at : IsAt role k.phased) (lasts : k.phased.control.ends ≡ None) (here : IsEnd role k.phased.phase k.end) where
  opened_right : (b : Bool) → IsEnd role k.phased.phase (if b then after_opening k.end else k.end)
  opened_right true = end_opening role k.phased.phase k.material k.end here
  opened_right false = here

  abbrev EndAfter : KeyedStep → Type 0
  EndAfter step = IsEnd role (keyed_after step k).phased.phase (keyed_after step k).end

  by_phased : (step : KeyedStep) (o : Option PhasedStep) → phased_step step ≡ o → is_some o ≡ true → is_of_session step ≡ false → EndAfter step
  by_phased step None is some of = absurd (cc)
  by_phased step (Some p) is some of =
      subst (λ (s : Phased). IsEnd role s.phase (keyed_after step k).end) (sym (phased_once step k ∙ ap (λ (o : Option PhasedStep). after_one o k.phased) is))
      (end_kept role false false k.phased.phase (phased_after p k.phased).phase _ k.end (keyed_after step k).end
      (end_steps role k.phased at lasts step p (record { material = k.material; end = k.end; made = k.end }) of is here))

  pub end_in_step : (step : KeyedStep) → EndAfter step
  end_in_step (Seals header body) =
      end_kept role true false k.phased.phase k.phased.phase k.material k.end _ (end_sends role k.phased.phase k.material k.end here)
  end_in_step (Opens header payload) = opened_right (is_right k.end header payload)
  end_in_step step = by_phased step _ refl refl refl

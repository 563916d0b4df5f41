-- A peripheral that hears a packet sees its last PDU acknowledged, or does not.
use Rattle.std.proofs.Common.{◌≡◌, ◌&&◌, ◌||◌, Bool, true, false, refl, ap, sym, subst, ◌∙◌, if◌then◌else◌}
use Rattle.control_octets.specs.procedure_values.declared.drafts.Outgoing.{Outgoing}
use Rattle.control_octets.specs.procedure_values.declared.drafts.Outgoing.TheVariants.{Nothing}
use Rattle.joint_laws.specs.joint_controls.phased_control.Phased.{Phased}
use Rattle.joint_laws.specs.joint_controls.Joint.{Clear, Control as control_item, Data, Fixed, OnAir, Taken, Way, is_taken}
use Rattle.joint_laws.specs.joint_controls.Ends.{outgoing_on}
use Rattle.link_model.specs.Acknowledgement.{Acknowledgement, is_acked, with_acked}
use Rattle.link_model.specs.Data.{is_control, is_empty}
use Rattle.link_model.specs.OneLink.{AreInAgreement}
use Rattle.link_model.specs.Controls.{is_terminate}
use Rattle.link_pairs.specs.Ways.{IsUntaken, ShowsWay}
use Rattle.link_pairs.proofs.Counts.{Says, unseen_is_out, unseen_is_taken, untaken_is_out}
use Rattle.link_pairs.proofs.Items.{control_is_control, empty_terminates_nothing, item_terminates}
use Rattle.joint_keys.specs.KeyedJoint.{Keys}
use Rattle.link_pairs.proofs.KeyedRuns.{keys_acked_if}
use Rattle.link_pairs.proofs.KeysHeld.{acked_or_none}
use Rattle.link_pairs.proofs.PhasedEnds.{acked_if, acked_nothing}

-- ---- its last PDU is acknowledged, or is not

abbrev pub cleared : Way → Way
cleared way = if is_taken way then Clear else way

none_acked : (acked : Bool) (x : Phased) → x.control.table.out ≡ Nothing → acked_if acked x ≡ x
none_acked true x is = acked_nothing x is
none_acked false x is = refl

module _ (from to : Acknowledgement) (acks fresh : Bool) (says : Says from to acks fresh) where
  untaken_not_acked : IsUntaken from to → acks ≡ false
  untaken_not_acked untaken = by acks refl
    where
      by : (b : Bool) → acks ≡ b → b ≡ false
      by true is = absurd (unseen_is_taken from to (says.unseen is) untaken)
      by false is = refl

  acked_before : is_acked from ≡ true → acks ≡ false
  acked_before all = by acks refl
    where
      by : (b : Bool) → acks ≡ b → b ≡ false
      by true is = absurd (let out = unseen_is_out from to (says.unseen is) in cc)
      by false is = refl

  -- it sees exactly a PDU acknowledged that was taken, for whatever nothing happens to where none is out
  pub seen_by : {A : Type 0} (f : Bool → A) (way : Way) (out : Outgoing) → ((acked : Bool) → out ≡ Nothing → f acked ≡ f false) → ShowsWay way from to
      → out ≡ outgoing_on way → f (acks && is_control from.last) ≡ f (is_taken way)
  seen_by f Clear out none shown same = none (acks && is_control from.last) same
  seen_by f (Fixed item sealed) out none shown same = absurd shown
  seen_by f (OnAir item sealed) out none shown same = ap (λ (b : Bool). f (b && is_control from.last)) (untaken_not_acked shown.1)
  seen_by f (Taken Data) out none shown same = none (acks && is_control from.last) same ∙ sym (none true same)
  seen_by f (Taken (control_item outgoing ctrl)) out none shown same =
      (λ i. f (says.acknowledged shown.1 i && is_control from.last)) ∙ ap f (control_is_control ctrl from.last shown.0)

  pub control_seen : (way : Way) (x : Phased) → ShowsWay way from to → x.control.table.out ≡ outgoing_on way
      → acked_if (acks && is_control from.last) x ≡ acked_if (is_taken way) x
  control_seen way x = seen_by (λ acked. acked_if acked x) way x.control.table.out (λ acked. none_acked acked x)

  -- so are its keys
  pub keys_seen : (way : Way) (x : Phased) (keys : Keys) → ShowsWay way from to → x.control.table.out ≡ outgoing_on way
      → keys_acked_if (acks && is_control from.last) x keys ≡ keys_acked_if (is_taken way) x keys
  keys_seen way x keys = seen_by (λ acked. keys_acked_if acked x keys) way x.control.table.out (λ acked. acked_or_none acked x keys)

  -- it ends no link
  pub ends_nothing : (way : Way) → ShowsWay way from to → (acks && is_terminate from.last) ≡ false
  ends_nothing Clear shown = by (is_empty from.last) refl
    where
      never : (b : Bool) → (b && false) ≡ false
      never true = refl
      never false = refl

      by : (b : Bool) → is_empty from.last ≡ b → (acks && is_terminate from.last) ≡ false
      by true is = ap (λ (b : Bool). acks && b) (empty_terminates_nothing from.last is) ∙ never acks
      by false is =
          ap (λ (b : Bool). b && is_terminate from.last)
          (acked_before (subst (λ (b : Bool). (b || is_acked from) ≡ true) is shown))
  ends_nothing (Fixed item sealed) shown = absurd shown
  ends_nothing (OnAir item sealed) shown = ap (λ (b : Bool). b && is_terminate from.last) (untaken_not_acked shown.1)
  ends_nothing (Taken item) shown =
      ap (λ (b : Bool). b && is_terminate from.last) (says.acknowledged shown.1) ∙ item_terminates from.last item shown.0 ∙ shown.2

  -- its way is clear where its last PDU is acknowledged then
  pub clear_seen : AreInAgreement from to → (way : Way) → ShowsWay way from to → is_acked (with_acked acks from) ≡ true → cleared way ≡ Clear
  clear_seen agreed Clear shown all = refl
  clear_seen agreed (Fixed item sealed) shown all = absurd shown
  clear_seen agreed (OnAir item sealed) shown all =
      absurd (let out = untaken_is_out from to agreed shown.1 in
      let now : is_acked from ≡ true = subst (λ (b : Bool). is_acked (with_acked b from) ≡ true) (untaken_not_acked shown.1) all in cc)
  clear_seen agreed (Taken item) shown all = refl

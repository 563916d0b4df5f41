-- How the last PDU of an end goes on: its sender sees it acknowledged, its receiver takes it, the next one is sent.
use Rattle.std.proofs.Common.{◌≡◌, ◌+◌, ◌==◌, ◌&&◌, ◌||◌, not, Bool, true, false, [], ◌∷◌, ◌++◌, length, length-append, Some, refl, ap, sym, ◌∙◌, subst, arith, if◌then◌else◌}
use Rattle.std.proofs.lemmas.Bool.{eqb-true, eqb-false, eq-eqb, or_left, or_right}
use Rattle.two_tracks.specs.TwoEnds.{LastPdu, Untaken, Acknowledged, last_after_reply}
use Rattle.two_tracks.specs.TwoEnds as two_ends
use Rattle.joint_laws.specs.joint_controls.Joint.{Clear, Control, Data, Fixed, Item, OnAir, Taken, Way, is_free, is_last, is_taken, item_on_air}
use Rattle.joint_laws.specs.joint_parameters.Turns.{takes_item}
use Rattle.link_model.specs.Acknowledgement.{Acknowledgement, Pdu, after_sending, is_acked, with_accepted, with_acked}
use Rattle.link_model.specs.Data.{is_data, is_empty}
use Rattle.link_model.specs.OneLink.{AreInAgreement}
use Rattle.link_model.specs.Controls.{is_procedure_pdu}
use Rattle.link_model.specs.Receiving.{counts_accepted}
use Rattle.link_pairs.specs.Ways.{IsItem, IsUnseen, IsUntaken, ShowsLast, ShowsWay, is_untaken}
use Rattle.link_pairs.proofs.Items.{control_is_no_data, empty_is_no_data, empty_is_no_procedure, never}
use Rattle.link_pairs.proofs.Counts.{Says, unseen_is_out, unseen_is_taken, untaken_is_out}

-- ---- a direction of the link is shown by its last PDU and three counts

unseen_same : (from to next other : Acknowledgement) → next.acked ≡ from.acked → length next.sent ≡ length from.sent
    → length other.accepted ≡ length to.accepted → IsUnseen from to → IsUnseen next other
unseen_same from to next other acked sent accepted is =
    record { taken = accepted ∙ is.taken ∙ sym sent; unseen = ap (λ n. n + 1) acked ∙ is.unseen ∙ sym sent }

untaken_same : (from to next other : Acknowledgement) → length next.sent ≡ length from.sent
    → length other.accepted ≡ length to.accepted → IsUntaken from to → IsUntaken next other
untaken_same from to next other sent accepted is = ap (λ n. n + 1) accepted ∙ is ∙ sym sent

item_same : (item : Item) (pdu other : Pdu) → other ≡ pdu → IsItem item pdu → IsItem item other
item_same item pdu other same is = subst (IsItem item) (sym same) is

pub way_same : (way : Way) (from to next other : Acknowledgement) → next.last ≡ from.last → next.acked ≡ from.acked
    → length next.sent ≡ length from.sent → length other.accepted ≡ length to.accepted → ShowsWay way from to → ShowsWay way next other
way_same Clear from to next other last acked sent accepted is = (λ i. is_empty (last i) || (acked i == sent i)) ∙ is
way_same (Fixed item sealed) from to next other last acked sent accepted is = is
way_same (OnAir item sealed) from to next other last acked sent accepted is =
    (item_same item from.last next.last last is.0, untaken_same from to next other sent accepted is.1)
way_same (Taken item) from to next other last acked sent accepted is =
    (item_same item from.last next.last last is.0, unseen_same from to next other acked sent accepted is.1, is.2)

pub last_same : (last : LastPdu) (from to next other : Acknowledgement) → next.acked ≡ from.acked → length next.sent ≡ length from.sent
    → length other.accepted ≡ length to.accepted → ShowsLast last from to → ShowsLast last next other
last_same last from to next other acked sent accepted shown =
    record {
      acknowledged = λ all. shown.acknowledged ((λ i. sym acked i == sym sent i) ∙ all);
      taken = λ now. shown.taken (unseen_same next other from to (sym acked) (sym sent) (sym accepted) now);
      untaken = λ now. shown.untaken (untaken_same next other from to (sym sent) (sym accepted) now);
    }

-- ---- its sender sees it acknowledged, or does not

acked_now : (from to : Acknowledgement) → IsUnseen from to → is_acked (with_acked true from) ≡ true
acked_now from to is = eq-eqb (from.acked + 1) (length from.sent) is.unseen

module _ (from to : Acknowledgement) (acks fresh : Bool) (says : Says from to acks fresh) where
  -- it was out, and is acknowledged from here on
  clear_if : (acked : Bool) → acks ≡ acked → (is_empty from.last || is_acked from) ≡ true → (is_empty from.last || is_acked (with_acked acked from)) ≡ true
  clear_if true is shown = or_right (is_empty from.last) (is_acked (with_acked true from)) (acked_now from to (says.unseen is))
  clear_if false is shown = shown

  pub way_seen : (way : Way) → ShowsWay way from to → ShowsWay (if is_taken way then Clear else way) (with_acked acks from) to
  way_seen Clear shown = clear_if acks refl shown
  way_seen (Fixed item sealed) shown = shown
  way_seen (OnAir item sealed) shown = (shown.0, shown.1)
  way_seen (Taken item) shown =
      or_right (is_empty from.last) (is_acked (with_acked acks from))
      (subst (λ (b : Bool). is_acked (with_acked b from) ≡ true) (sym (says.acknowledged shown.1)) (acked_now from to shown.1))

  last_if : (acked : Bool) (last : LastPdu) → acks ≡ acked → ShowsLast last from to → is_acked (with_acked acked from) ≡ true
      → last_after_reply last ≡ Acknowledged
  last_if true last is shown now = ap last_after_reply (shown.taken (says.unseen is))
  last_if false last is shown now = ap last_after_reply (shown.acknowledged now)

  never_unseen : (acked : Bool) → acks ≡ acked → IsUnseen (with_acked acked from) to → ⊥
  never_unseen true is now = let before = (says.unseen is).unseen in omega (arith, before, now.unseen)
  never_unseen false is now =
      let seen = says.acknowledged (record { taken = now.taken; unseen = now.unseen }) in absurd (cc)

  stays_untaken : (last : LastPdu) → is_untaken last ≡ true → is_untaken (last_after_reply last) ≡ true
  stays_untaken (Untaken change) is = refl
  stays_untaken two_ends.Taken is = absurd (cc)
  stays_untaken Acknowledged is = absurd (cc)

  pub last_seen : (last : LastPdu) → ShowsLast last from to → ShowsLast (last_after_reply last) (with_acked acks from) to
  last_seen last shown =
      record {
        acknowledged = last_if acks last refl shown;
        taken = λ now. absurd (never_unseen acks refl now);
        untaken = λ now. stays_untaken last (shown.untaken now);
      }

-- ---- its receiver hears it, and takes it or not

pub data Arrival (way : Way) (from to : Acknowledgement) (takes accepted : Bool) : Type 0 where
  -- an item is taken, at both ends of the joint run
  ItemTaken :
      (item : Item) (sealed : Bool) → way ≡ OnAir item sealed → takes ≡ true → accepted ≡ true → IsItem item from.last
      → (is_last item ≡ false → ShowsWay (Taken item) from (with_accepted accepted from.last to)) → Arrival way from to takes accepted
  -- nothing is, but an empty PDU
  NothingTaken :
      takes ≡ false → (accepted && is_procedure_pdu from.last) ≡ false → (accepted && is_data from.last) ≡ false
      → counts_accepted accepted from.last ≡ false → is_free way ≡ true → ShowsWay way from (with_accepted accepted from.last to) → Arrival way from to takes accepted

or_other : (one other : Bool) → other ≡ false → (one || other) ≡ true → one ≡ true
or_other true other is holds = refl
or_other false other is holds = absurd (cc)

one_more : (to : Acknowledgement) (pdu : Pdu) → length (with_accepted true pdu to).accepted ≡ length to.accepted + 1
one_more to pdu = length-append to.accepted (pdu ∷ [])

module _ (from to : Acknowledgement) (acks fresh : Bool) (says : Says to from acks fresh) (agreed : AreInAgreement from to) (out : is_acked from ≡ false) where
  taken_now : IsUntaken from to → IsUnseen from (with_accepted true from.last to)
  taken_now is =
      let other = eqb-false from.acked (length from.sent) out in
      let one = agreed.from_a.reliable.one_at_a_time in
      let low = agreed.from_a.reliable.acked_is_accepted in
      let more = one_more to from.last in
      record { taken = more ∙ is; unseen = omega (arith, other, one, low, is) }

  taken_if : (accepted : Bool) → accepted ≡ true → IsUntaken from to → IsUnseen from (with_accepted accepted from.last to)
  taken_if accepted is untaken = subst (λ (b : Bool). IsUnseen from (with_accepted b from.last to)) (sym is) (taken_now untaken)

  not_fresh : IsUnseen from to → fresh ≡ false
  not_fresh is = by fresh refl
    where
      by : (b : Bool) → fresh ≡ b → b ≡ false
      by true new = absurd (unseen_is_taken from to is (says.untaken new))
      by false new = refl

  -- room for data, or none; there is room for all other PDUs
  module _ (room : Bool) (others : is_data from.last ≡ false → room ≡ true) where
    data_arrives : (b : Bool) (sealed : Bool) → room ≡ b → is_data from.last ≡ true → IsUntaken from to → Arrival (OnAir Data sealed) from to b (true && b)
    data_arrives true sealed is holds untaken = ItemTaken Data sealed refl refl refl holds (λ more. (holds, taken_now untaken, refl))
    data_arrives false sealed is holds untaken = NothingTaken refl refl refl refl refl (holds, untaken)

    item_arrives : (item : Item) (sealed : Bool) → IsItem item from.last → IsUntaken from to
        → Arrival (OnAir item sealed) from to (takes_item room (Some item)) (true && room)
    item_arrives Data sealed holds untaken = data_arrives room sealed refl holds untaken
    item_arrives (Control outgoing ctrl) sealed holds untaken =
        ItemTaken (Control outgoing ctrl) sealed refl refl (others (control_is_no_data ctrl from.last holds)) holds
        (λ more. (holds, taken_if (true && room) (others (control_is_no_data ctrl from.last holds)) untaken, more))

    pub arrives : (way : Way) → ShowsWay way from to → Arrival way from to (takes_item room (item_on_air way)) (fresh && room)
    arrives Clear shown =
        let empty = or_other (is_empty from.last) (is_acked from) out shown in
        NothingTaken refl (ap (λ b. fresh && room && b) (empty_is_no_procedure from.last empty) ∙ never (fresh && room))
        (ap (λ b. fresh && room && b) (empty_is_no_data from.last empty) ∙ never (fresh && room))
        (ap (λ b. fresh && room && not b) empty ∙ never (fresh && room)) refl shown
    arrives (Fixed item sealed) shown = absurd shown
    arrives (OnAir item sealed) shown =
        subst (λ (b : Bool). Arrival (OnAir item sealed) from to (takes_item room (Some item)) (b && room)) (sym (says.new shown.1))
        (item_arrives item sealed shown.0 shown.1)
    arrives (Taken item) shown =
        subst (λ (b : Bool). Arrival (Taken item) from to false (b && room)) (sym (not_fresh shown.1))
        (NothingTaken refl refl refl refl refl shown)

  -- the last PDU of the central, also an empty one, is taken where it is accepted
  pub last_taken : (last : LastPdu) (accepted : Bool) → (accepted ≡ true → fresh ≡ true) → ShowsLast last from to
      → ShowsLast (if accepted then two_ends.Taken else last) from (with_accepted accepted from.last to)
  last_taken last true new shown =
      let untaken = says.untaken (new refl) in
      let more = one_more to from.last in
      record {
        acknowledged = λ all. let no = sym out ∙ all in absurd (cc);
        taken = λ now. refl;
        untaken = λ now. absurd (omega (arith, untaken, more, now));
      }
  last_taken last false new shown =
      record { acknowledged = shown.acknowledged; taken = λ now. shown.taken (record { taken = now.taken; unseen = now.unseen }); untaken = shown.untaken }

-- ---- its sender sends it again, or the next one

-- a PDU that is out is sent again
pub sent_again : (next : Pdu) (from : Acknowledgement) → is_acked from ≡ false → after_sending next from ≡ from
sent_again next from out =
    λ i. record {
      sent = (if out i then from.sent ++ next ∷ [] else from.sent);
      last = (if out i then next else from.last);
      acked = from.acked;
      accepted = from.accepted;
    }

-- where the last one is acknowledged the next one is
pub sent_next : (next : Pdu) (from : Acknowledgement) → is_acked from ≡ true
    → after_sending next from ≡ record from { sent = from.sent ++ next ∷ []; last = next }
sent_next next from all =
    λ i. record {
      sent = (if all i then from.sent ++ next ∷ [] else from.sent);
      last = (if all i then next else from.last);
      acked = from.acked;
      accepted = from.accepted;
    }

module _ (next : Pdu) (from to : Acknowledgement) (agreed : AreInAgreement from to) (all : is_acked from ≡ true) where
  -- nothing of it is on its way
  pub acked_is_clear : (way : Way) → ShowsWay way from to → way ≡ Clear
  acked_is_clear Clear shown = refl
  acked_is_clear (Fixed item sealed) shown = absurd shown
  acked_is_clear (OnAir item sealed) shown = let no = sym all ∙ untaken_is_out from to agreed shown.1 in absurd (cc)
  acked_is_clear (Taken item) shown = let no = sym all ∙ unseen_is_out from to shown.1 in absurd (cc)

  abbrev sent : Acknowledgement
  sent = record from { sent = from.sent ++ next ∷ []; last = next }

  untaken_next : IsUntaken sent to
  untaken_next =
      let more = length-append from.sent (next ∷ []) in
      let count = eqb-true from.acked (length from.sent) all in
      let r = agreed.from_a.reliable in
      let low = r.acked_is_accepted in
      let only = r.sent_only in
      omega (arith, more, count, low, only)

  not_acked : is_acked sent ≡ true → ⊥
  not_acked now =
      let more = length-append from.sent (next ∷ []) in
      let count = eqb-true from.acked (length from.sent) all in
      let later = eqb-true from.acked (length sent.sent) now in
      omega (arith, more, count, later)

  pub way_sent_empty : is_empty next ≡ true → ShowsWay Clear (after_sending next from) to
  way_sent_empty is =
      subst (λ (a : Acknowledgement). ShowsWay Clear a to) (sym (sent_next next from all)) (or_left (is_empty next) (is_acked sent) is)

  pub way_sent : (item : Item) (sealed : Bool) → IsItem item next → ShowsWay (OnAir item sealed) (after_sending next from) to
  way_sent item sealed is =
      subst (λ (a : Acknowledgement). ShowsWay (OnAir item sealed) a to) (sym (sent_next next from all)) (is, untaken_next)

  pub last_sent : (last : LastPdu) → is_untaken last ≡ true → ShowsLast last (after_sending next from) to
  last_sent last is = subst (λ (a : Acknowledgement). ShowsLast last a to) (sym (sent_next next from all)) by_counts
    where
      by_counts : ShowsLast last sent to
      by_counts =
          record {
            acknowledged = λ now. absurd (not_acked now);
            taken = λ now. absurd (unseen_is_taken sent to now untaken_next);
            untaken = λ now. is;
          }

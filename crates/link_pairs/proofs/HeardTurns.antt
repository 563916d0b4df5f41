-- A peripheral that hears a packet, in the run of both tracks by turns and packets.
use Rattle.std.proofs.Common.{◌≡◌, ◌⊎◌, inl, inr, ℕ, ◌+◌, ◌≤◌, ◌&&◌, ◌||◌, Bool, true, false, not, List, Some, None, refl, ap, sym, subst, ◌∙◌, arith, if◌then◌else◌}
use Rattle.data_pdu.specs.declared.ctrl.Ctrl.{Ctrl}
use Rattle.instants.specs.declared.track.Change.{Change}
use Rattle.instants.specs.Track.{TrackFacts}
use Rattle.control_octets.specs.procedure_values.declared.drafts.Outgoing.{Outgoing}
use Rattle.two_tracks.specs.TwoEnds.{Acknowledged, IsInExchange, LastPdu, TwoEnds, Untaken, after_indication, after_pdu, has_passed, heard_by_peripheral}
use Rattle.two_tracks.specs.TwoEnds as two_ends
use Rattle.two_tracks.specs.Reached.{untaken}
use Rattle.joint_laws.specs.joint_controls.Joint.{Clear, Control as control_item, Data, Fixed, OnAir, Taken, Way, is_free, is_indication, is_item, item_on_air, last_change}
use Rattle.link_model.specs.OneLink.{AreInAgreement}
use Rattle.link_model.specs.Acknowledgement.{Acknowledgement, is_acked}
use Rattle.link_model.specs.Data.{is_data}
use Rattle.link_model.specs.Setup.{Setup}
use Rattle.link_model.specs.Facts.{Facts}
use Rattle.link_pairs.specs.Ends.{HasExchange, IsAtRest, heard_turns}
use Rattle.link_pairs.specs.Ways.{IsItem, IsUnseen, ShowsLast, ShowsWay, is_untaken}
use Rattle.link_pairs.proofs.Counts.{Place, Says, Seen, Unseen, place_of, unseen_is_taken}
use Rattle.link_pairs.proofs.Counts.{Untaken as place_untaken}
use Rattle.link_pairs.proofs.Items.{control_is_no_data}

-- ---- an end that has an exchange in a slot is in one in the turn of that

module _ (setup : Setup) (slot : ℕ) (facts : Facts) (turns heard_at : ℕ) (t : TrackFacts) where
  exchange_by : ((slot ≡ facts.event.slot) ⊎ ((slot ≡ facts.event.slot + 1) × (facts.event.heard ≡ true))) → turns ≡ slot + 1 → facts.event.slot ≡ t.anchor
      → heard_at ≤ slot → (facts.event.heard ≡ true → facts.event.slot + 1 ≤ heard_at) → IsInExchange turns heard_at t
  exchange_by (inl first) begun anchor past heard = inl (omega (arith, first, begun, anchor))
  exchange_by (inr second) begun anchor past heard =
      let before = heard second.1 in
      let at = second.0 in
      inr (omega (arith, at, begun, anchor), omega (arith, at, anchor, past, before))

  pub in_exchange : HasExchange slot facts → IsAtRest setup (slot + 1) facts → heard_turns setup facts ≤ slot → facts.control.track ≡ t
      → heard_at ≡ heard_turns setup facts → turns ≡ slot + 1 → IsInExchange turns heard_at t
  in_exchange has rests past track heard begun =
      exchange_by has.1 begun (rests.slot has.0 ∙ ap (λ (x : TrackFacts). x.anchor) track) (subst (λ (n : ℕ). n ≤ slot) (sym heard) past)
      (λ is. subst (λ (n : ℕ). facts.event.slot + 1 ≤ n) (sym heard) (rests.heard is).1)

-- ---- what the turns have of it

-- the last PDU of the central, if the link goes on
abbrev pub last_heard : (room : Bool) → LastPdu → LastPdu
last_heard room (Untaken None) = if room then two_ends.Taken else Untaken None
last_heard room (Untaken (Some change)) = two_ends.Taken
last_heard room two_ends.Taken = two_ends.Taken
last_heard room Acknowledged = Acknowledged

pub record HearsIn (t next : TwoEnds) (heard : LastPdu) : Type 0 where
  pub begun : next.turns ≡ t.turns
  pub central_heard : next.central_heard_at ≡ t.central_heard_at
  pub peripheral_heard : next.peripheral_heard_at ≡ t.turns
  pub replies : next.peripheral_open ≡ true → next.replies ≡ true
  pub last : next.peripheral_open ≡ true → next.last ≡ heard

pub hears_in : (room : Bool) (last : LastPdu) (t : TwoEnds) → t.last ≡ last → HearsIn t (after_pdu room last (heard_by_peripheral t)) (last_heard room last)
hears_in room (Untaken None) t is = record { begun = refl; central_heard = refl; peripheral_heard = refl; replies = λ opens. refl; last = λ opens. refl }
hears_in room (Untaken (Some change)) t is = by (has_passed t.peripheral change) refl
  where
    by : (passed : Bool) → has_passed t.peripheral change ≡ passed → HearsIn t (after_indication passed change (heard_by_peripheral t)) two_ends.Taken
    by true at = record { begun = refl; central_heard = refl; peripheral_heard = refl; replies = λ opens. absurd (cc); last = λ opens. absurd (cc) }
    by false at = record { begun = refl; central_heard = refl; peripheral_heard = refl; replies = λ opens. refl; last = λ opens. refl }
hears_in room two_ends.Taken t is = record { begun = refl; central_heard = refl; peripheral_heard = refl; replies = λ opens. refl; last = λ opens. is }
hears_in room Acknowledged t is = record { begun = refl; central_heard = refl; peripheral_heard = refl; replies = λ opens. refl; last = λ opens. is }

-- ---- data on its way

module _ (from to : Acknowledgement) (has_data : is_data from.last ≡ true) where
  no_control : (outgoing : Outgoing) (ctrl : Ctrl) → IsItem (control_item outgoing ctrl) from.last → ⊥
  no_control outgoing ctrl item = let none = sym has_data ∙ control_is_no_data ctrl from.last item in absurd (cc)

  data_is_free : (way : Way) → ShowsWay way from to → is_free way ≡ true
  data_is_free Clear shown = refl
  data_is_free (Fixed item sealed) shown = absurd shown
  data_is_free (OnAir Data sealed) shown = refl
  data_is_free (OnAir (control_item outgoing ctrl) sealed) shown = absurd (no_control outgoing ctrl shown.0)
  data_is_free (Taken item) shown = refl

  no_change : (way : Way) (sent : List Change) → ShowsWay way from to → (if is_item is_indication (item_on_air way) then last_change sent else None) ≡ None
  no_change Clear sent shown = refl
  no_change (Fixed item sealed) sent shown = absurd shown
  no_change (OnAir Data sealed) sent shown = refl
  no_change (OnAir (control_item outgoing ctrl) sealed) sent shown = absurd (no_control outgoing ctrl shown.0)
  no_change (Taken item) sent shown = refl

-- ---- where the last PDU of the central is taken

if_data : (has_data room free : Bool) → (has_data ≡ false → room ≡ true) → (has_data ≡ true → free ≡ true) → (room || not free) ≡ room
if_data has_data true free others is = refl
if_data true false free others is = ap (λ (b : Bool). not b) (is refl)
if_data false false free others is = absurd (let none = others refl in cc)

module _ (from to : Acknowledgement) (acks fresh room : Bool) (says : Says to from acks fresh) (agreed : AreInAgreement from to) (out : is_acked from ≡ false)
    (others : is_data from.last ≡ false → room ≡ true) (way : Way) (shown : ShowsWay way from to) (sent : List Change) where
  abbrev Is : LastPdu → Type 0
  Is last = last_heard (room || not (is_free way)) last ≡ (if fresh && room then two_ends.Taken else last)

  room_then : (change : Change) → (if is_item is_indication (item_on_air way) then last_change sent else None) ≡ Some change → room ≡ true
  room_then change coming = by (is_data from.last) refl
    where
      by : (b : Bool) → is_data from.last ≡ b → room ≡ true
      by false is = others is
      by true is = absurd (let none = sym coming ∙ no_change from to is way sent shown in cc)

  untaken_heard : (last : LastPdu) → is_untaken last ≡ true → untaken last ≡ (if is_item is_indication (item_on_air way) then last_change sent else None)
      → fresh ≡ true → Is last
  untaken_heard (Untaken None) is coming new =
      λ i. if (if_data (is_data from.last) room (is_free way) others (λ has. data_is_free from to has way shown) ∙ ap (λ (b : Bool). b && room) (sym new)) i
      then two_ends.Taken else Untaken None
  untaken_heard (Untaken (Some change)) is coming new =
      λ i. if (sym (room_then change (sym coming)) ∙ ap (λ (b : Bool). b && room) (sym new)) i then two_ends.Taken else Untaken (Some change)
  untaken_heard two_ends.Taken is coming new = absurd (cc)
  untaken_heard Acknowledged is coming new = absurd (cc)

  taken_heard : (last : LastPdu) → last ≡ two_ends.Taken → fresh ≡ false → Is last
  taken_heard last is old =
      ap (λ (x : LastPdu). last_heard (room || not (is_free way)) x) is ∙ sym is
      ∙ ap (λ (b : Bool). if b && room then two_ends.Taken else last) (sym old)

  not_new : IsUnseen from to → fresh ≡ false
  not_new unseen = by fresh refl
    where
      by : (b : Bool) → fresh ≡ b → b ≡ false
      by true new = absurd (unseen_is_taken from to unseen (says.untaken new))
      by false new = refl

  pub last_hears : (last : LastPdu) → ShowsLast last from to → untaken last ≡ (if is_item is_indication (item_on_air way) then last_change sent else None) → Is last
  last_hears last shows coming = by (place_of from to agreed)
    where
      by : Place from to → Is last
      by (Seen all) = absurd (let no = sym out ∙ all in cc)
      by (Unseen is unseen) = taken_heard last (shows.taken unseen) (not_new unseen)
      by (place_untaken is untaken_now) = untaken_heard last (shows.untaken untaken_now) coming (says.new untaken_now)

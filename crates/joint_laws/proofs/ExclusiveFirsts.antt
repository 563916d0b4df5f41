-- Where the first PDUs of the procedures that exclude each other are in a joint run of both ends.
use Rattle.std.proofs.Common.{◌≡◌, true, false, not, ◌&&◌, is_none, sym, subst, ◌∙◌}
use Rattle.std.proofs.lemmas.Bool.{and_parts}
use Rattle.machines.specs.Machine.{run}
use Rattle.collisions.specs.declared.joint.Link.{Link}
use Rattle.collisions.specs.Agreement.{is_phy_request, untaken}
use Rattle.collisions.specs.JointRun.{is_pdu}
use Rattle.collisions.specs.Numbers.{numbered_collisions}
use Rattle.collisions.proofs.Gaps.{is_run}
use Rattle.joint_collisions.specs.Views.{IsReached, View, numbered_of}
use Rattle.joint_laws.specs.Firsts.{are_firsts_right, has, has_no_first, is_first, is_over, is_phy_unsent, over_has_no_first, phy_waits_unsent}
use Rattle.joint_laws.proofs.FirstPlaces.{firsts_right}
use Rattle.joint_laws.proofs.Common.{not_true, implied}

pub record HasNoFirst (v : View) : Type 0 where
  pub queue : has is_first v.peripheral.queue.items ≡ false
  pub way : is_pdu is_first (untaken v.up) ≡ false
  pub kept : is_none v.kept ≡ true

module _ (v : View) (reached : IsReached v) where
  abbrev link : Link
  link = (numbered_of v reached.central_at reached.peripheral_at reached.earlier).link

  right : are_firsts_right link ≡ true
  right =
      let events = is_run reached.moves in
      subst (λ (s : Link). are_firsts_right s ≡ true) (sym events.1 ∙ ap_link)
      (firsts_right events.0)
    where
      ap_link : (run numbered_collisions reached.moves).link ≡ link
      ap_link = λ i. (reached.is i).link

  pub over_none : is_over v.peripheral.own ≡ true → HasNoFirst v
  over_none over =
      let one = and_parts (over_has_no_first link) (phy_waits_unsent link) right in
      let none = implied (is_over v.peripheral.own) (has_no_first link) one.0 over in
      let two = and_parts (not (has is_first v.peripheral.queue.items)) (not (is_pdu is_first (untaken v.up)) && is_none v.kept) none in
      let three = and_parts (not (is_pdu is_first (untaken v.up))) (is_none v.kept) two.1 in
      record { queue = not_true _ two.0; way = not_true _ three.0; kept = three.1 }

  pub phy_unsent : has is_phy_request v.central.queue.items ≡ true → is_phy_unsent v.central.own ≡ true
  phy_unsent waits =
      implied (has is_phy_request v.central.queue.items) (is_phy_unsent v.central.own) (and_parts (over_has_no_first link) (phy_waits_unsent link) right).1 waits

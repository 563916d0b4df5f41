-- What a link shows stays shown where one end has changed in what the other does not see, or a turn began.
use Rattle.std.proofs.Common.{◌≡◌, ℕ, Bool, length, sym, ap, subst, ◌∙◌, ◌≤◌, true}
use Rattle.link_model.specs.Acknowledgement.{Acknowledgement, is_acked}
use Rattle.link_model.specs.OneLink.{AreInAgreement}
use Rattle.link_model.specs.Setup.{Setup}
use Rattle.joint_laws.specs.joint_controls.phased_control.Phased.{Phased}
use Rattle.joint_laws.specs.joint_controls.Joint.{is_free}
use Rattle.joint_laws.specs.joint_parameters.Turns.{Link}
use Rattle.link_model.specs.Facts.{Facts}
use Rattle.link_pairs.specs.Ends.{IsAtRest, phased_of, turns_at}
use Rattle.link_pairs.specs.Shown.{Shows}
use Rattle.link_pairs.specs.Ways.{ShowsLast, ShowsWay}

module _ (central peripheral : Setup) (turns : ℕ) (answers : Bool) (l : Link) (c p : Facts) (s : Shows central peripheral turns answers l c p) where
  -- an end with the same PDUs, which heard nothing, in whatever state its control part is
  pub central_shows : (x : Phased) (d : Facts) → x ≡ phased_of d → d.acknowledgement ≡ c.acknowledgement → d.last_good ≡ c.last_good
      → IsAtRest central turns d → Shows central peripheral turns answers (record l { joint = record l.joint { central = x } }) d p
  central_shows x d is same heard rests =
      let back = sym same in
      record {
        central_part = is;
        peripheral_part = s.peripheral_part;
        down = subst (λ (a : Acknowledgement). ShowsWay l.joint.down a p.acknowledgement) back s.down;
        up = subst (λ (a : Acknowledgement). ShowsWay l.joint.up p.acknowledgement a) back s.up;
        agreement = subst (λ (a : Acknowledgement). AreInAgreement a p.acknowledgement) back s.agreement;
        begun = s.begun;
        replies = s.replies;
        last = subst (λ (a : Acknowledgement). ShowsLast l.turns.last a p.acknowledgement) back s.last;
        central_heard = s.central_heard ∙ ap (turns_at central.opened) (sym heard);
        peripheral_heard = s.peripheral_heard;
        free = subst (λ (a : Acknowledgement). is_acked a ≡ true → is_free l.joint.up ≡ true) back s.free;
        central_rests = rests;
        peripheral_rests = s.peripheral_rests;
        central_fits = subst (λ (a : Acknowledgement). length a.last.body ≤ peripheral.link.max_rx) back s.central_fits;
        peripheral_fits = s.peripheral_fits;
      }

  pub peripheral_shows : (x : Phased) (d : Facts) → x ≡ phased_of d → d.acknowledgement ≡ p.acknowledgement → d.last_good ≡ p.last_good
      → IsAtRest peripheral turns d → Shows central peripheral turns answers (record l { joint = record l.joint { peripheral = x } }) c d
  peripheral_shows x d is same heard rests =
      let back = sym same in
      record {
        central_part = s.central_part;
        peripheral_part = is;
        down = subst (λ (a : Acknowledgement). ShowsWay l.joint.down c.acknowledgement a) back s.down;
        up = subst (λ (a : Acknowledgement). ShowsWay l.joint.up a c.acknowledgement) back s.up;
        agreement = subst (λ (a : Acknowledgement). AreInAgreement c.acknowledgement a) back s.agreement;
        begun = s.begun;
        replies = s.replies;
        last = subst (λ (a : Acknowledgement). ShowsLast l.turns.last c.acknowledgement a) back s.last;
        central_heard = s.central_heard;
        peripheral_heard = s.peripheral_heard ∙ ap (turns_at peripheral.opened) (sym heard);
        free = s.free;
        central_rests = s.central_rests;
        peripheral_rests = rests;
        central_fits = s.central_fits;
        peripheral_fits = subst (λ (a : Acknowledgement). length a.last.body ≤ central.link.max_rx) back s.peripheral_fits;
      }

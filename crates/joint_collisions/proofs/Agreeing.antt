-- The tables of both ends of a joint run agree on the procedures that exclude each other.
use Rattle.std.proofs.Common.{◌≡◌, true, sym, ap, subst, ◌∙◌}
use Rattle.collisions.specs.declared.joint.Link.{Link}
use Rattle.collisions.specs.Agreement.{agree}
use Rattle.collisions.specs.JointRun.{collisions}
use Rattle.collisions.specs.Numbers.{Numbered}
use Rattle.machines.specs.Machine.{run}
use Rattle.collisions.proofs.Collisions.{tables_agree}
use Rattle.collisions.proofs.Gaps.{is_run}
use Rattle.joint_controls.specs.Joint.{Joint}
use Rattle.joint_collisions.specs.Views.{IsReached, TablesAgree, View, link_at, view_of}

link_is : (v : View) (k : IsReached v) → run collisions (is_run k.moves).0 ≡ link_at v k.central_at k.peripheral_at
link_is v k = sym (is_run k.moves).1 ∙ ap (λ (r : Numbered). r.link) k.is

pub agrees : (s : Joint) → IsReached (view_of s) → TablesAgree s
agrees s k =
    let is = link_is (view_of s) k in
    record {
      central_at = k.central_at;
      peripheral_at = k.peripheral_at;
      is = subst (λ (l : Link). agree l ≡ true) is (tables_agree (is_run k.moves).0 (ap (λ (l : Link). l.end) is));
    }

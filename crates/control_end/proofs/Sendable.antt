-- An indication that an end sends can be followed by it.
use Rattle.std.proofs.Common.{◌≡◌, ℕ, ◌<◌, ◌≤◌, nat_lt, Bool, true, List, Option, Some, None, refl, sym, subst, ◌∙◌, arith}
use Rattle.std.specs.Prelude.{IfSome}
use Rattle.ble_base.specs.declared.roles.Role.{Role}
use Rattle.ble_base.specs.declared.roles.Role.TheVariants.{Central as central_role, Peripheral as peripheral_role}
use Rattle.instants.specs.declared.indications.Params.{Params}
use Rattle.instants.specs.declared.indications.Indication.{Indication}
use Rattle.control_model.specs.procedures.procedure_stages.Kinds.{role_of}
use Rattle.two_tracks.specs.TwoEnds.{MayIndicate, MayIndicateIf, TwoEnds, beginning}
use Rattle.control_model.specs.Control.{Control, Step, after_all, first_control, went}
use Rattle.control_model.specs.Waits.{AreInRange}
use Rattle.control_model.proofs.Central.{free, may}
use Rattle.control_model.proofs.Moving.{role_after}
use Rattle.control_end.specs.Answers.{indication_next, own_indication}
use Rattle.control_end.specs.Following.{CanFollow}
use Rattle.control_end.specs.Held.{held_of}

can_by : (role : Role) (c : Control) (x : Option Indication)
    → (role ≡ central_role → (indication : Indication) → x ≡ Some indication → CanFollow c.track indication)
    → IfSome (own_indication role x) (CanFollow c.track)
can_by central_role c None can = tt
can_by central_role c (Some indication) can = can refl indication refl
can_by peripheral_role c x can = tt

is_near : (gap : ℕ) → gap < 32767 → nat_lt gap 32767 ≡ true
is_near gap less = grind arith

other_role : central_role ≡ peripheral_role → ⊥
other_role is = cc

-- two ends whose central is this one
abbrev with_central : Params → Control → TwoEnds
with_central first c = record (beginning first 0 0) { central = c.track; sent = c.sent }

pub can_follow : (role : Role) (max_rx : ℕ) (first : Params) (slot : ℕ) (steps : List Step) (now : ℕ) (quiet : Bool)
    → first.latency ≤ 499 → AreInRange steps
    → let c = after_all steps (first_control role max_rx first slot) in IfSome (indication_next now quiet (held_of c)) (CanFollow c.track)
can_follow central_role max_rx first slot steps now quiet latency are =
    let c = after_all steps (first_control central_role max_rx first slot) in
    can_by (role_of c.table.progress) c (went now quiet c).1
    (λ _ indication is.
    let near : MayIndicate (with_central first c) indication =
    subst (MayIndicateIf (with_central first c)) is (may max_rx first slot steps now quiet (with_central first c) latency are refl refl) in
    record { free = free max_rx first slot steps now quiet indication latency are is; ahead = is_near _ near.near })
can_follow peripheral_role max_rx first slot steps now quiet latency are =
    let c = after_all steps (first_control peripheral_role max_rx first slot) in
    can_by (role_of c.table.progress) c (went now quiet c).1
    (λ is. absurd (other_role (sym is ∙ role_after peripheral_role max_rx first slot steps)))

-- Which procedures exclude each other, and what becomes of two that collide (Core 5.2, volume 6 part B, section 5.3).
use Rattle.std.specs.Prelude.{Bool, true, false, ◌&&◌, if◌then◌else◌, Option, Some, None, ◌||◌, not}
use Rattle.ble_base.specs.declared.procedure_kinds.Kind.{Kind}
use Rattle.ble_base.specs.declared.procedure_kinds.Kind.TheVariants.{Update, Request, Map, Phy, Encrypt}
use Rattle.ble_base.specs.ErrorCodes.{ll_procedure_collision, different_transaction_collision}
use Rattle.ble_base.specs.declared.error_codes.ErrCode.{ErrCode}
use Rattle.procedure_stages.specs.declared.stages.Progress.{Progress}
use Rattle.procedure_values.specs.Asks.{is_same_kind}
use Rattle.procedure_stages.specs.InProgress.{has_peer, is_encrypting}

-- the procedures that exclude each other and themselves (section 5.3)
abbrev pub is_exclusive : Kind → Bool
is_exclusive Update = true
is_exclusive Request = true
is_exclusive Map = true
is_exclusive Phy = true
is_exclusive other = false

abbrev pub are_incompatible : Kind → Kind → Bool
are_incompatible p q = is_exclusive p && is_exclusive q

-- the error of two that collide (section 5.3; volume 1 part F, sections 2.31 and 2.38)
abbrev pub collision_code : Kind → Kind → ErrCode
collision_code p q = (if is_same_kind p q then record { 0 = ll_procedure_collision } else record { 0 = different_transaction_collision })

-- the error of a procedure of the peer that collides with that of this end, if it does
abbrev pub collision : Option Kind → Kind → Option ErrCode
collision None q = None
collision (Some p) q = (if are_incompatible p q then Some (collision_code p q) else None)

-- ---- which procedures may begin beside those of the peer

abbrev pub is_encrypt : Kind → Bool
is_encrypt Encrypt = true
is_encrypt other = false

-- the peer's procedures let a kind begin: for one that excludes others no such one is in progress, for an encryption
-- none at all (our choice)
abbrev pub peer_lets : Progress → Kind → Bool
peer_lets progress kind =
    not (is_exclusive kind && has_peer progress)
    && not (is_encrypt kind && (has_peer progress || is_encrypting progress))

-- What holds of the exchanges of versions in each state of a joint run, and in each of its steps.
use Rattle.std.specs.Prelude.{ℕ, ◌+◌, ◌==◌, nat_le, Bool, true, not, ◌&&◌, ◌||◌}
use Rattle.ble_base.specs.declared.roles.Role.{Role}
use Rattle.ble_base.specs.declared.roles.Role.TheVariants.{Central, Peripheral}
use Rattle.exchange_pairs.specs.Exchange.{ExchangeStage, Idle, Sent, Unsent, count_if, is_idle, is_sent}
use Rattle.exchange_pairs.specs.ExchangeRun.{other_role}
use Rattle.exchange_pairs.specs.VersionRun.{VersionEvent, VersionLink, Begins, Keeps, Takes, TakesKept, comes_to, end_of, is_sent_by, keeps, knows}

abbrev pub implies : Bool → Bool → Bool
implies a b = not a || b

-- how many LL_VERSION_IND of this end wait, are on their way, are kept, or were taken
abbrev pub places : Role → VersionLink → ℕ
places role s =
    (end_of role s).waiting + count_if (is_sent_by role s) + count_if (keeps (other_role role) s)
    + count_if (knows (other_role role) s)

-- an end sends LL_VERSION_IND once: it is in one place once it was queued
abbrev pub is_sent_once : Role → VersionLink → Bool
is_sent_once role s = places role s == count_if (end_of role s).used

-- an own exchange runs or is wanted only until the peer's version is known
abbrev pub is_open_until_known : Role → VersionLink → Bool
is_open_until_known role s =
    implies (knows role s) (is_idle (end_of role s).own && (end_of role s).wanted == 0)
    && nat_le (end_of role s).wanted 1

-- the own LL_VERSION_IND waits while the exchange is unsent; afterwards it or that of the peer is to come, or the peer
-- is to end the link
abbrev pub is_coming : Role → VersionLink → Bool
is_coming role s =
    is_sent_by role s || keeps (other_role role) s
    || (not ((end_of (other_role role) s).waiting == 0) || comes_to role s
    || (end_of (other_role role) s).closed)

abbrev pub is_stage_right : ExchangeStage → Role → VersionLink → Bool
is_stage_right Idle role s = true
is_stage_right Unsent role s = (end_of role s).waiting == 1
is_stage_right Sent role s = (end_of role s).waiting == 0 && is_coming role s

-- an end that knows the peer's version, and whose own PDU is still to come, answers the peer's exchange; or the peer is
-- to end the link
abbrev pub is_answering : Role → VersionLink → Bool
is_answering role s =
    implies (knows role s && (not ((end_of role s).waiting == 0) || is_sent_by role s))
    (is_sent (end_of (other_role role) s).own || (end_of (other_role role) s).closed)

-- an end whose PDU was queued and that does not know the peer's version runs an exchange, or keeps the peer's PDU; one
-- that knows it has queued its own, or is to end the link
abbrev pub is_used_right : Role → VersionLink → Bool
is_used_right role s =
    implies ((end_of role s).used && not (knows role s)) (not (is_idle (end_of role s).own) || keeps role s)
    && implies (knows role s) ((end_of role s).used || (end_of role s).closed)

abbrev pub is_version_right : Role → VersionLink → Bool
is_version_right role s =
    is_sent_once role s
    && (is_open_until_known role s
    && (is_stage_right (end_of role s).own role s && (is_answering role s && is_used_right role s)))

-- ---- the law of states

abbrev pub are_versions_right : VersionLink → Bool
are_versions_right s =
    is_version_right Central s && (is_version_right Peripheral s && implies s.kept (is_idle s.central.own))

-- ---- the law of steps

-- no exchange begins without a PDU, and LL_VERSION_IND is taken once
abbrev pub is_step_right : VersionEvent → VersionLink → Bool
is_step_right (Begins role) s = not (end_of role s).used
is_step_right (Takes role) s = not (knows role s)
is_step_right Keeps s = not s.kept
is_step_right TakesKept s = not s.central_knows
is_step_right event s = true

-- Whether a link is to end (Core 5.2, volume 6 part B, section 5.1.6).
use Rattle.std.specs.Prelude.{Bool, true, false}
use Rattle.procedure_stages.specs.declared.closing.Closing.{Closing}
use Rattle.procedure_stages.specs.declared.closing.Closing.TheVariants.{Open, Closed, Disconnecting}

-- no LL_TERMINATE_IND was queued or taken
abbrev pub is_open : Closing → Bool
is_open Open = true
is_open other = false

-- a Disconnect of the host was accepted
abbrev pub is_disconnecting : Closing → Bool
is_disconnecting Disconnecting = true
is_disconnecting other = false

-- after LL_TERMINATE_IND was queued for want of a key, or taken
abbrev pub closed : Closing → Closing
closed Open = Closed
closed other = other

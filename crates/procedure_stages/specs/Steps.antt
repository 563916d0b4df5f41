-- What the effect of a control PDU of the peer is to an end (Core 5.2, volume 6 part B, section 5.1).
use Rattle.std.specs.Prelude.{Bool, true, false}
use Rattle.procedure_stages.specs.declared.steps.Effect.{Effect}
use Rattle.procedure_stages.specs.declared.steps.Effect.TheVariants.{AskHost, PeerEnds, PeerVersion}
use Rattle.procedure_stages.specs.declared.closing.Closing.{Closing}
use Rattle.procedure_stages.specs.Closing.{closed}

-- the host is to be asked
abbrev pub asks_host : Effect → Bool
asks_host (AskHost min max latency timeout) = true
asks_host other = false

-- whether the link is to end after it
abbrev pub closing_after : Effect → Closing → Closing
closing_after (PeerEnds code) closing = closed closing
closing_after other closing = closing

-- the peer's version is known
abbrev pub is_version_effect : Effect → Bool
is_version_effect (PeerVersion version company sub) = true
is_version_effect other = false

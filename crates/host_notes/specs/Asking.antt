-- What the end of the link that may be under a handle knows of its peer, as a command that reads it finds it, and which
-- commands are about keys (Core 5.2, volume 4 part E, sections 7.1.23 and 7.8.21 to 7.8.26).
use Rattle.std.specs.Prelude.{ℕ, Bool, true, false, List, [], Option, Some, None, is_some}
use Rattle.std.specs.Option.{option_map}
use Rattle.ble_base.specs.declared.procedure_kinds.Kind.{Kind}
use Rattle.ble_base.specs.declared.procedure_kinds.Kind.TheVariants.{Features, Version}
use Rattle.hci_cmd.specs.declared.command.Command.{Command}
use Rattle.hci_cmd.specs.declared.command.Command.TheVariants.{LeEnableEncryption, LeKeyNegative, LeKeyReply}
use Rattle.hci_evt.specs.declared.event.Event.{Event}
use Rattle.link_model.specs.declared.state.PeerFacts.{PeerFacts}
use Rattle.open_links.specs.OpenLinks.{Links, facts_in, link_at}
use Rattle.procedure_events.specs.Calls.{events_known}

abbrev pub peer_at : ℕ → Links → Option PeerFacts
peer_at handle links = option_map (λ link. (facts_in link).peer) (link_at handle links)

-- the features or the version of the peer are known
abbrev pub is_known : Kind → PeerFacts → Bool
is_known Features peer = is_some peer.features
is_known Version peer = is_some peer.version
is_known other peer = false

abbrev pub is_known_if : Kind → Option PeerFacts → Bool
is_known_if kind None = false
is_known_if kind (Some peer) = is_known kind peer

-- the events that say so
abbrev pub events_known_if : ℕ → Kind → Option PeerFacts → List Event
events_known_if handle kind None = []
events_known_if handle kind (Some peer) = events_known handle peer kind

-- the command has a key for a link, or says that there is none (sections 7.8.24 to 7.8.26)
abbrev pub is_of_keys : Command → Bool
is_of_keys (LeEnableEncryption handle rand ediv key) = true
is_of_keys (LeKeyReply handle key) = true
is_of_keys (LeKeyNegative handle) = true
is_of_keys other = false

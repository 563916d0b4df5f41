-- Which step of a link an accepted command makes (Core 5.2, volume 4 part E, sections 7.1 and 7.8; volume 6 part B,
-- section 5.1).
use Rattle.std.specs.Prelude.{ℕ, ◌+◌, ◌-◌, ◌/◌, ◌%◌, ◌^◌, ◌==◌, ◌<◌, min, Bool, true, false, List, [], ◌∷◌, reverse, Option, Some, None, Ok, Err, is_some, if◌then◌else◌, ⊤}
use Rattle.ble_base.specs.ChannelMap.{IsMap}
use Rattle.ble_base.specs.declared.procedure_kinds.Kind.{Kind}
use Rattle.ble_base.specs.declared.procedure_kinds.Kind.TheVariants.{Encrypt as encrypt_kind, Features as features_kind, Length as length_kind, Phy as phy_kind, Version as version_kind}
use Rattle.ble_base.specs.declared.roles.Role.{Role}
use Rattle.ble_base.specs.declared.roles.Role.TheVariants.{Central, Peripheral}
use Rattle.hci_cmd.specs.declared.command.Command.{Command}
use Rattle.hci_cmd.specs.declared.command.Command.TheVariants.{Disconnect, LeConnectionUpdate, LeEnableEncryption, LeKeyNegative, LeKeyReply, LeParamNegative, LeParamReply, LeReadRemoteFeatures, LeSetChannels, LeSetDataLength, LeSetPhy, ReadRemoteVersion}
use Rattle.open_links.specs.procedure_values.declared.asks.Ask.{Ask}
use Rattle.open_links.specs.procedure_values.declared.asks.Ask.TheVariants.{Encrypt, Features, Length, Map, Phy, Request, Update, Version}
use Rattle.open_links.specs.procedure_values.Wants.{IsAsk}
use Rattle.open_links.specs.link_model.declared.state.PeerFacts.{PeerFacts}
use Rattle.open_links.specs.link_model.End.{facts_after}
use Rattle.open_links.specs.link_model.Facts.{Facts}
use Rattle.open_links.specs.link_model.Setup.{Setup}
use Rattle.open_links.specs.link_model.Step.{Step, Disconnected, KeyAnswered, ProcedureAsked, RequestAnswered}
use Rattle.host_view.specs.declared.links.Link.{Link}
use Rattle.host_view.specs.Links.{update_kind}
use Rattle.host_view.specs.Changes.{asking, completed, keyed}
use Rattle.link_commands.specs.declared.moments.Moment.{Moment}

-- ---- which step it is, by the role of the end and by what it knows of its peer

-- what the end knows already is answered at once
abbrev pub ask_unless : Bool → Ask → Option Step
ask_unless known ask = if known then None else Some (ProcedureAsked ask)

-- a central changes the parameters, with the longest of the intervals; a peripheral requests them (both are our choice)
abbrev pub update_by : Role → ℕ → ℕ → ℕ → ℕ → Ask
update_by Central min max latency timeout = Update max latency timeout
update_by Peripheral min max latency timeout = Request min max latency timeout

-- the transmit maximum that a host sets: its octets, or those for which its time is enough where they are fewer. A packet
-- of n octets takes 8 (n + 14) us (volume 6 part B, section 4.5.10; volume 4 part E, section 7.8.33)
abbrev pub transmit_maximum : (octets time : ℕ) → ℕ
transmit_maximum octets time = min octets (time / 8 - 14)

-- only a central gives a channel map (section 5.1.2)
abbrev pub map_by : Role → ℕ → Option Step
map_by Central map = Some (ProcedureAsked (Map map))
map_by Peripheral map = None

-- the step, if there is one. The reason for which a host refuses a request has one octet (volume 4 part E, section
-- 7.8.32), and the random number and the diversifier of encryption have eight and two (section 7.8.24). A key of a host
-- has its least significant octet first (sections 7.8.24 and 7.8.25), and one of a link its most significant one
abbrev pub host_step_of : Command → Moment → Role → PeerFacts → Option Step
host_step_of (Disconnect handle reason) moment role peer = Some (Disconnected (record { 0 = reason }) moment.slot)
host_step_of (ReadRemoteVersion handle) moment role peer = ask_unless (is_some peer.version) Version
host_step_of (LeReadRemoteFeatures handle) moment role peer = ask_unless (is_some peer.features) Features
host_step_of (LeSetDataLength handle octets time) moment role peer =
    Some (ProcedureAsked (Length (transmit_maximum octets time)))
host_step_of (LeConnectionUpdate handle min max latency timeout lengths) moment role peer =
    Some (ProcedureAsked (update_by role min max latency timeout))
host_step_of (LeSetChannels map) moment role peer = map_by role map
host_step_of (LeSetPhy handle all tx rx options) moment role peer = Some (ProcedureAsked Phy)
host_step_of (LeParamReply handle min max latency timeout lengths) moment role peer =
    Some (RequestAnswered (Ok (Update max latency timeout)))
host_step_of (LeParamNegative handle reason) moment role peer =
    Some (RequestAnswered (Err (record { 0 = reason % 256 })))
host_step_of (LeEnableEncryption handle rand ediv key) moment role peer =
    Some (ProcedureAsked (Encrypt (rand % 2 ^ 64) (ediv % 2 ^ 16) (reverse key) moment.skd_m moment.iv_m))
host_step_of (LeKeyReply handle key) moment role peer = Some (KeyAnswered (Some (reverse key)) moment.slot)
host_step_of (LeKeyNegative handle) moment role peer = Some (KeyAnswered None moment.slot)
host_step_of other moment role peer = None

-- the host asks for what the end may know already (volume 4 part E, sections 7.1.23 and 7.8.21)
abbrev pub is_read_of_peer : Command → Bool
is_read_of_peer (ReadRemoteVersion handle) = true
is_read_of_peer (LeReadRemoteFeatures handle) = true
is_read_of_peer other = false

-- ---- on which links

-- the command is about the link with this handle
abbrev pub is_about : ℕ → Command → Bool
is_about handle (Disconnect given reason) = given == handle
is_about handle (ReadRemoteVersion given) = given == handle
is_about handle (LeReadRemoteFeatures given) = given == handle
is_about handle (LeSetDataLength given octets time) = given == handle
is_about handle (LeConnectionUpdate given min max latency timeout lengths) = given == handle
is_about handle (LeSetChannels map) = true
is_about handle (LeSetPhy given all tx rx options) = given == handle
is_about handle (LeParamReply given min max latency timeout lengths) = given == handle
is_about handle (LeParamNegative given reason) = given == handle
is_about handle (LeEnableEncryption given rand ediv key) = given == handle
is_about handle (LeKeyReply given key) = given == handle
is_about handle (LeKeyNegative given) = given == handle
is_about handle other = false

abbrev pub step_if_about : Bool → Option Step → Option Step
step_if_about about step = if about then step else None

abbrev pub step_on : ℕ → Command → Moment → Role → PeerFacts → Option Step
step_on handle command moment role peer = step_if_about (is_about handle command) (host_step_of command moment role peer)

-- the steps on all links, each with its handle; `peer_of` is what the end under a handle knows of its peer
abbrev pub with_host_step : ℕ → Option Step → List (ℕ × Step) → List (ℕ × Step)
with_host_step handle None steps = steps
with_host_step handle (Some step) steps = (handle, step) ∷ steps

abbrev pub step_on_open : ℕ → Command → Moment → Option Link → (ℕ → PeerFacts) → Option Step
step_on_open handle command moment None peer_of = None
step_on_open handle command moment (Some link) peer_of = step_on handle command moment link.role (peer_of handle)

abbrev pub host_steps_from : ℕ → Command → Moment → List (Option Link) → (ℕ → PeerFacts) → List (ℕ × Step)
host_steps_from handle command moment [] peer_of = []
host_steps_from handle command moment (link ∷ links) peer_of =
    with_host_step handle (step_on_open handle command moment link peer_of)
    (host_steps_from (handle + 1) command moment links peer_of)

abbrev pub host_steps : Command → Moment → List (Option Link) → (ℕ → PeerFacts) → List (ℕ × Step)
host_steps command moment links peer_of = host_steps_from 0 command moment links peer_of

-- ---- how the view of its link changes

-- as the command is accepted
abbrev pub link_accepted : Command → Link → Link
link_accepted (Disconnect handle reason) link = record link { disconnecting = true }
link_accepted (ReadRemoteVersion handle) link = asking version_kind link
link_accepted (LeReadRemoteFeatures handle) link = asking features_kind link
link_accepted (LeSetDataLength handle octets time) link = asking length_kind link
link_accepted (LeConnectionUpdate handle min max latency timeout lengths) link = asking (update_kind link.role) link
link_accepted (LeSetPhy handle all tx rx options) link = asking phy_kind link
link_accepted (LeParamReply handle min max latency timeout lengths) link = record link { waits_for_parameters = false }
link_accepted (LeParamNegative handle reason) link = record link { waits_for_parameters = false }
link_accepted (LeEnableEncryption handle rand ediv key) link = asking encrypt_kind link
link_accepted (LeKeyReply handle key) link = keyed link
link_accepted (LeKeyNegative handle) link = record link { waits_for_key = false }
link_accepted other link = link

-- what is answered at once is done
abbrev pub answered_if : Bool → Kind → Link → Link
answered_if known kind link = if known then completed kind link else link

abbrev pub link_answered : Command → PeerFacts → Link → Link
link_answered (ReadRemoteVersion handle) peer link = answered_if (is_some peer.version) version_kind link
link_answered (LeReadRemoteFeatures handle) peer link = answered_if (is_some peer.features) features_kind link
link_answered other peer link = link

abbrev pub link_commanded : Command → PeerFacts → Link → Link
link_commanded command peer link = link_answered command peer (link_accepted command link)

-- ---- the end after it

abbrev pub facts_commanded : Setup → Option Step → Facts → Facts
facts_commanded setup None facts = facts
facts_commanded setup (Some step) facts = facts_after setup facts step

-- ---- the ranges of its values

-- what it asks for is in its range, whichever the role of the end
abbrev pub AsksInRange : Command → Type 0
AsksInRange (LeSetDataLength handle octets time) = IsAsk (Length (transmit_maximum octets time))
AsksInRange (LeConnectionUpdate handle min max latency timeout lengths) =
    (role : Role) → IsAsk (update_by role min max latency timeout)
AsksInRange (LeSetChannels map) = IsMap map
AsksInRange (LeParamReply handle min max latency timeout lengths) = IsAsk (Update max latency timeout)
AsksInRange other = ⊤

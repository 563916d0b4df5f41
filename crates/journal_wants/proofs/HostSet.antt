-- What the lines of a side say that its host has set is what its controller holds, command by command: the settings, the
-- advertiser, the scanner and the initiator.
use Rattle.std.proofs.Common.{◌≡◌, ℕ, ◌==◌, Bool, true, false, List, [], ◌∷◌, Option, Some, None, refl, sym, ap, subst, ◌∙◌, append-nil, if◌then◌else◌}
use Rattle.std.specs.Option.{option_map}
use Rattle.ble_base.specs.Limits.{payload_octets}
use Rattle.ble_base.specs.declared.addresses.Address.{Address}
use Rattle.h4_frames.specs.declared.packet.HostPacket.TheVariants.{Command as HostCommand, Acl}
use Rattle.h4_frames.specs.declared.packet.Fed.{Fed}
use Rattle.h4_frames.specs.declared.packet.Fed.TheVariants.{More, Packet, LostSync}
use Rattle.hci_cmd.specs.declared.command.Command.{Command}
use Rattle.hci_cmd.specs.declared.command.Command.TheVariants.{HostBufferSize, HostCompleted, Reset, LeAddToList, LeClearList, LeCreateConnection, LeRemoveFromList, LeSetAdvEnable, LeSetAdvParams, LeSetChannels, LeSetRandomAddress, LeSetScanEnable, LeSetScanParams}
use Rattle.hci_cmd.specs.declared.command.CmdRead.{CmdRead}
use Rattle.hci_cmd.specs.declared.command.CmdRead.TheVariants.{Known, UnknownOpcode, BadLength}
use Rattle.hci_cmd.specs.Command.{command_of}
use Rattle.host_answers.specs.Calls.{answered_after, answered_command, answered_commands}
use Rattle.host_view.specs.View.{View}
use Rattle.host_view.specs.Changes.{view_after}
use Rattle.host_view.specs.Status.{named_address}
use Rattle.host_view.specs.Status.{status_of}
use Rattle.host_view.specs.scan_init.Addresses.{with_address, without_address}
use Rattle.host_view.specs.scan_init.Initiating.{InitiatorFacts}
use Rattle.host_view.specs.scan_init.Reports.{ScannerFacts}
use Rattle.journal_events.specs.journal_sending.journal_data.open_links.declared.offers.Offer.{Offer}
use Rattle.journal_events.specs.journal_sending.journal_data.open_links.declared.offers.Offer.TheVariants.{NoLink, Empty, Overflow, Kept}
use Rattle.journal_events.specs.journal_sending.controller_model.Commands.{advertiser_enabled, advertising_after, facts_accepted, facts_commanded, facts_known, initiator_after, own_address, radio_after, scanner_enabled, scanner_turned_on, scanning_after}
use Rattle.journal_events.specs.journal_sending.controller_model.Data.{facts_offered, offer_of}
use Rattle.journal_events.specs.journal_sending.controller_model.Facts.{Advertising, Facts, Scanning, Setup}
use Rattle.journal_events.specs.journal_sending.controller_model.Host.{commands_accepted_by, commands_accepted_in}
use Rattle.journal_events.specs.journal_sending.controller_model.Side.{facts_after, facts_fed, result_of}
use Rattle.journal_events.specs.journal_sending.controller_model.Step.{HostOctet}
use Rattle.journal_events.proofs.journal_sending.controller_model.Accepted.{same_after_counts}
use Rattle.journal_events.proofs.journal_sending.controller_model.Asked.{of_asking}
use Rattle.journal_wants.specs.Station.{Station, commanded, commanded_by}

-- ---- the settings

-- what advertising, scanning and initiating read of the view
pub record HostSet : Type 0 where
  pub random : Option (List ℕ)
  pub own : ℕ
  pub scan_own : ℕ
  pub scan_policy : ℕ
  pub accepted : List Address
  pub map : ℕ
  -- the most octets in a packet of data that the host takes
  pub acl_length : ℕ

abbrev pub host_set : View → HostSet
host_set view = record {
  random = view.random;
  own = view.advertising.own;
  scan_own = view.scanning.own;
  scan_policy = view.scanning.policy;
  accepted = view.accepted;
  map = view.map;
  acl_length = view.flow.acl_length;
}

abbrev first_set : HostSet
first_set = record { random = None; own = 0; scan_own = 0; scan_policy = 0; accepted = []; map = 0x1FFFFFFFFF; acl_length = payload_octets }

abbrev set_after : HostSet → Command → HostSet
set_after set Reset = first_set
set_after set (LeSetRandomAddress address) = record set { random = Some address }
set_after set (LeSetAdvParams min max kind own peer_kind peer channels policy) = record set { own = own }
set_after set (LeSetScanParams kind interval window own policy) = record set { scan_own = own; scan_policy = policy }
set_after set LeClearList = record set { accepted = [] }
set_after set (LeAddToList kind address) =
    record set { accepted = with_address set.accepted (named_address kind address) }
set_after set (LeRemoveFromList kind address) =
    record set { accepted = without_address set.accepted (named_address kind address) }
set_after set (LeSetChannels map) = record set { map = map }
set_after set (HostBufferSize acl_length sco_length acl_count sco_count) = record set { acl_length = acl_length }
set_after set other = set

view_set : (view : View) (command : Command) → host_set (view_after view command) ≡ set_after (host_set view) command
unfolding view_after
view_set view Reset = refl
view_set view (LeSetRandomAddress address) = refl
view_set view (LeSetAdvParams min max kind own peer_kind peer channels policy) = refl
view_set view (LeSetScanParams kind interval window own policy) = refl
view_set view LeClearList = refl
view_set view (LeAddToList kind address) = refl
view_set view (LeRemoveFromList kind address) = refl
view_set view (LeSetChannels map) = refl
view_set view (HostBufferSize acl_length sco_length acl_count sco_count) = refl
view_set view (HostCompleted counts) = same_after_counts host_set view counts refl
view_set view other = refl

pub views_set : (one other : View) (command : Command) → host_set one ≡ host_set other
    → host_set (view_after one command) ≡ host_set (view_after other command)
views_set one other command same =
    view_set one command ∙ ap (λ set. set_after set command) same ∙ sym (view_set other command)

-- ---- what is on

-- a scanner but for what it has reported
abbrev pub unreported : ScannerFacts → ScannerFacts
unreported on = record on { recent = [] }

abbrev pub without_reports : Scanning → Scanning
without_reports scanning = record scanning { on = option_map unreported scanning.on }

-- the lines of a side say this of what its controller holds
pub record IsSetAs (station : Station) (facts : Facts) : Type 0 where
  pub set : host_set station.view ≡ host_set facts.view
  pub advertising : station.advertising ≡ facts.advertising
  pub scanning : station.scanning ≡ without_reports facts.scanning
  pub initiator : station.initiator ≡ facts.initiator
  pub radio : station.radio ≡ facts.radio

own_set : (setup : Setup) (one other : View) → host_set one ≡ host_set other
    → own_address setup one one.advertising.own ≡ own_address setup other other.advertising.own
own_set setup one other same =
    ap (λ (set : HostSet). own_address setup (record one { random = set.random }) set.own) same

advertising_set : (setup : Setup) (one other : View) (slot : ℕ) (command : Command) (advertising : Advertising)
    → host_set one ≡ host_set other → advertising_after setup one slot command advertising ≡ advertising_after setup other slot command advertising
advertising_set setup one other slot (LeSetAdvEnable value) advertising same =
    ap (λ own. record advertising { on = advertiser_enabled own slot advertising.params value advertising.on })
    (own_set setup one other same)
advertising_set setup one other slot command advertising same = refl

scanning_set : (setup : Setup) (one other : View) (slot : ℕ) (command : Command) (scanning : Scanning)
    → host_set one ≡ host_set other → scanning_after setup one slot command scanning ≡ scanning_after setup other slot command scanning
scanning_set setup one other slot (LeSetScanEnable value duplicates) scanning same =
    ap (λ (set : HostSet). record scanning {
      on = scanner_enabled (scanner_turned_on (own_address setup (record one { random = set.random }) set.scan_own)
          (set.scan_policy == 1) (duplicates == 1) slot scanning) value scanning.on;
    }) same
scanning_set setup one other slot command scanning same = refl

initiator_set : (setup : Setup) (one other : View) (slot : ℕ) (command : Command) (initiator : Option InitiatorFacts)
    → host_set one ≡ host_set other → initiator_after setup one slot command initiator ≡ initiator_after setup other slot command initiator
initiator_set setup one other slot
    (LeCreateConnection interval window policy peer_kind peer own min max latency timeout lengths) initiator same =
    let command = LeCreateConnection interval window policy peer_kind peer own min max latency timeout lengths in
    ap (λ (set : HostSet). initiator_after setup (record one { random = set.random }) slot command initiator) same
initiator_set setup one other slot command initiator same = refl

-- a scanner that is turned on has reported nothing, and one that is on stays
left_if : (is : Bool) (on : ScannerFacts)
    → (if is then Some (unreported on) else None) ≡ option_map unreported (if is then Some on else None)
left_if true on = refl
left_if false on = refl

enabled_left : (new : ScannerFacts) (value : ℕ) (on : Option ScannerFacts)
    → scanner_enabled (unreported new) value (option_map unreported on) ≡ option_map unreported (scanner_enabled new value on)
enabled_left new value None = left_if (value == 1) new
enabled_left new value (Some on) = left_if (value == 1) on

scanning_left : (setup : Setup) (view : View) (slot : ℕ) (command : Command) (scanning : Scanning)
    → scanning_after setup view slot command (without_reports scanning) ≡ without_reports (scanning_after setup view slot command scanning)
scanning_left setup view slot Reset scanning = refl
scanning_left setup view slot (LeSetScanParams kind interval window own policy) scanning = refl
scanning_left setup view slot (LeSetScanEnable value duplicates) scanning =
    ap (λ on. record scanning { on = on })
    (enabled_left (scanner_turned_on (own_address setup view view.scanning.own) (view.scanning.policy == 1) (duplicates == 1) slot scanning)
    value scanning.on)
scanning_left setup view slot command scanning = refl

-- ---- an accepted command

commanded_set : (setup : Setup) (station : Station) (facts : Facts) (command : Command) → IsSetAs station facts
    → IsSetAs (commanded setup facts.turn.begun station command) (facts_accepted setup facts command)
commanded_set setup station facts command is =
    let slot = facts.turn.begun in record {
      set = views_set station.view facts.view command is.set;
      advertising = advertising_set setup station.view facts.view slot command station.advertising is.set
          ∙ ap (λ advertising. advertising_after setup facts.view slot command advertising) is.advertising;
      scanning = scanning_set setup station.view facts.view slot command station.scanning is.set
          ∙ ap (λ scanning. scanning_after setup facts.view slot command scanning) is.scanning
          ∙ scanning_left setup facts.view slot command facts.scanning;
      initiator = initiator_set setup station.view facts.view slot command station.initiator is.set
          ∙ ap (λ initiator. initiator_after setup facts.view slot command initiator) is.initiator;
      radio = ap (λ radio. radio_after command radio) is.radio;
    }

-- one that has no answer changes nothing of it
accepted_set : (setup : Setup) (station : Station) (facts : Facts) (command : Command) → IsSetAs station facts
    → IsSetAs (commanded_by setup facts.turn.begun (answered_command command) station) (facts_accepted setup facts command)
accepted_set setup station facts (HostCompleted counts) is = record {
  set = is.set ∙ sym (view_set facts.view (HostCompleted counts));
  advertising = is.advertising;
  scanning = is.scanning;
  initiator = is.initiator;
  radio = is.radio;
}
accepted_set setup station facts command is = commanded_set setup station facts command is

known_set : (took : Bool) (setup : Setup) (station : Station) (facts : Facts) (command : Command) → IsSetAs station facts
    → IsSetAs (commanded_by setup facts.turn.begun (answered_commands (if took then command ∷ [] else [])) station)
    (facts_known took setup facts command)
known_set true setup station facts command is =
    subst (λ commands. IsSetAs (commanded_by setup facts.turn.begun commands station) (facts_accepted setup facts command))
    (sym (append-nil (answered_command command))) (accepted_set setup station facts command is)
known_set false setup station facts command is = is

-- ---- an octet of the host

read_set : (setup : Setup) (station : Station) (facts : Facts) (read : CmdRead) → IsSetAs station facts
    → IsSetAs (commanded_by setup facts.turn.begun (answered_commands (commands_accepted_by facts read)) station)
    (facts_commanded setup facts read)
read_set setup station facts (Known command) is =
    of_asking setup facts command
    (IsSetAs (commanded_by setup facts.turn.begun (answered_commands (commands_accepted_by facts (Known command))) station))
    (known_set (status_of facts.view command == 0) setup station facts command is)
    (λ asks set. record { set = set.set; advertising = set.advertising; scanning = set.scanning; initiator = set.initiator; radio = set.radio })
read_set setup station facts UnknownOpcode is = is
read_set setup station facts BadLength is = is

offered_set : (offer : Offer) (handle : ℕ) (start : Bool) (octets : List ℕ) (station : Station) (facts : Facts)
    → IsSetAs station facts → IsSetAs station (facts_offered offer handle start octets facts)
offered_set Kept handle start octets station facts is =
    record { set = is.set; advertising = is.advertising; scanning = is.scanning; initiator = is.initiator; radio = is.radio }
offered_set NoLink handle start octets station facts is = is
offered_set Empty handle start octets station facts is = is
offered_set Overflow handle start octets station facts is = is

fed_set : (setup : Setup) (station : Station) (facts : Facts) (fed : Fed) → IsSetAs station facts
    → IsSetAs (commanded_by setup facts.turn.begun (answered_commands (commands_accepted_in facts fed)) station)
    (facts_fed setup facts fed)
fed_set setup station facts (Packet (HostCommand opcode body)) is = read_set setup station facts (command_of opcode body.items) is
fed_set setup station facts (Packet (Acl handle start count body)) is =
    offered_set (offer_of setup facts handle count) handle start body.items station facts is
fed_set setup station facts LostSync is = is
fed_set setup station facts More is = is

-- what the commands that a call with an octet of the host accepts leave of what the lines say is what the call leaves of
-- what the controller holds
pub octet_set : (setup : Setup) (station : Station) (facts : Facts) (octet : ℕ) → IsSetAs station facts
    → IsSetAs (commanded_by setup facts.turn.begun (answered_after facts (HostOctet octet)) station)
    (facts_after setup facts (HostOctet octet))
octet_set setup station facts octet is =
    let set = fed_set setup station facts (result_of facts.octets octet) is in
    record { set = set.set; advertising = set.advertising; scanning = set.scanning; initiator = set.initiator; radio = set.radio }

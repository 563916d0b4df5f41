-- The fields of each CONNECT_IND that an initiator may send are in range.
use Rattle.std.proofs.Common.{◌≡◌, ℕ, ◌+◌, ◌%◌, ◌≤◌, true, Option, Some, None, List, refl, sym, subst, arith}
use Rattle.std.specs.Prelude.{⊤}
use Rattle.ble_base.specs.ChannelMap.{IsMap}
use Rattle.ble_base.specs.declared.roles.Role.{Role}
use Rattle.ble_base.specs.declared.roles.Role.TheVariants.{Central, Peripheral}
use Rattle.ble_base.proofs.UsedChannels.{IsMap-all}
use Rattle.data_pdu.specs.Ranges.{IsUpdate}
use Rattle.adv_pdu.specs.declared.pdu.ConnectFields.{ConnectFields}
use Rattle.adv_pdu.specs.Ranges.{is_in_range}
use Rattle.hci_cmd.specs.declared.command.Command.{Command}
use Rattle.hci_cmd.specs.declared.command.Command.TheVariants.{HostCompleted, Reset, LeCreateConnection, LeCreateCancel, LeSetChannels}
use Rattle.host_view.specs.View.{View}
use Rattle.host_view.specs.Changes.{view_after}
use Rattle.host_view.specs.InRange.{IsLinkRequest}
use Rattle.host_view.specs.Status.{status_of}
use Rattle.host_view.proofs.TakenCommands.{connection_parameters, takes_map}
use Rattle.host_view.specs.scan_init.Initiating.{InitiatorFacts}
use Rattle.controller_model.specs.Step.{Step}
use Rattle.controller_model.specs.Facts.{Setup, Facts}
use Rattle.controller_model.specs.Commands.{initiator_after}
use Rattle.controller_model.specs.Heard.{fields_sent, link_taken}
use Rattle.controller_model.specs.Side.{facts_of}
use Rattle.controller_model.proofs.Accepted.{same_after_counts}
use Rattle.controller_model.proofs.Following.{receiving_passes}
use Rattle.controller_model.proofs.Always.{IsKept, always, initiator_stopped, opening_passes}
use Rattle.controller_model.proofs.LinkFields.{test_of_range}

abbrev IsRequest : ConnectFields → Type 0
IsRequest fields = IsUpdate fields.win_size fields.win_offset fields.interval fields.latency fields.timeout

abbrev AsksWell : Option InitiatorFacts → Type 0
AsksWell None = ⊤
AsksWell (Some on) = IsRequest on.params.link

-- the map of the host is a map, and the parameters that an initiator was given are in range
record MayAsk (facts : Facts) : Type 0 where
  map_is : IsMap facts.view.map
  request : AsksWell facts.initiator

-- ---- an accepted command

map_after : (view : View) (command : Command) → status_of view command ≡ 0 → IsMap view.map → IsMap (view_after view command).map
unfolding view_after
map_after view Reset accepted is = IsMap-all
map_after view (LeSetChannels map) accepted is = takes_map view map accepted
map_after view (HostCompleted counts) accepted is = subst IsMap (sym (same_after_counts (λ (of : View). of.map) view counts refl)) is
map_after view other accepted is = is

given_range : (interval max latency timeout : ℕ) → IsLinkRequest interval max latency timeout → IsUpdate 1 0 max latency timeout
given_range interval max latency timeout is = record {
  win_size_one = refl;
  win_offset_within = omega arith;
  interval_from = is.interval_from;
  interval_to = is.interval_to;
  latency_to = is.latency_to;
  timeout_from = is.timeout_from;
  timeout_to = is.timeout_to;
  timeout_outlasts = is.timeout_outlasts;
}

asks_after : (setup : Setup) (view : View) (slot : ℕ) (command : Command) (initiator : Option InitiatorFacts) → status_of view command ≡ 0
    → AsksWell initiator → AsksWell (initiator_after setup view slot command initiator)
asks_after setup view slot Reset initiator accepted well = tt
asks_after setup view slot
    (LeCreateConnection interval window policy peer_kind peer own min max latency timeout lengths) initiator accepted well =
    given_range interval max latency timeout
    (connection_parameters view interval window policy peer_kind peer own min max latency timeout lengths accepted)
asks_after setup view slot LeCreateCancel initiator accepted well = tt
asks_after setup view slot other initiator accepted well = well

-- ---- turns

stopped_asks : (role : Role) (initiator : Option InitiatorFacts) → AsksWell initiator → AsksWell (initiator_stopped role initiator)
stopped_asks Central initiator well = tt
stopped_asks Peripheral initiator well = well

asks_kept : (setup : Setup) → IsKept setup MayAsk MayAsk
asks_kept setup = record {
  accepted = λ facts opcode octets command is accepted may. record {
    map_is = map_after facts.view command accepted may.map_is;
    request = asks_after setup facts.view facts.turn.begun command facts.initiator accepted may.request;
  };
  asked = λ facts command asks may left. record { map_is = left.map_is; request = left.request };
  given = λ facts handle count start octets is may. record { map_is = may.map_is; request = may.request };
  octet = λ facts octet may. record { map_is = may.map_is; request = may.request };
  turns = record {
    starts = record {
      weakens = λ facts may. may;
      ends = λ reason facts may.
          record { map_is = may.map_is; request = may.request };
      begins = λ slot facts may. record { map_is = may.map_is; request = may.request };
      enters = λ slot facts may. record { map_is = may.map_is; request = may.request };
      wins = λ slot activity facts may. record { map_is = may.map_is; request = may.request };
      fixes = λ doing facts may. record { map_is = may.map_is; request = may.request };
      does = λ doing facts begins may. record { map_is = may.map_is; request = may.request };
    };
    reports = λ facts may. record { map_is = may.map_is; request = may.request };
    words = λ handle facts listens may. record { map_is = may.map_is; request = may.request };
    passes = λ facts may. record {
      rests = record { map_is = may.map_is; request = may.request };
      awaits_request = λ channel doing. record { map_is = may.map_is; request = may.request };
      awaits_response = λ channel advertiser doing. record { map_is = may.map_is; request = may.request };
      central_listens = λ handle doing. record { map_is = may.map_is; request = may.request };
      sent = λ channel link doing.
          opening_passes MayAsk link facts
          (record { map_is = may.map_is; request = stopped_asks link.role facts.initiator may.request });
      responds = λ channel on doing is_on. record { map_is = may.map_is; request = may.request };
      taken = λ channel octets pdu on fields handle is_on hears takes free.
          let link = link_taken facts.view on.params.own pdu fields handle in
          opening_passes MayAsk link facts
          (record { map_is = may.map_is; request = stopped_asks link.role facts.initiator may.request });
      scanned = λ channel octets pdu on doing is_on hears. record { map_is = may.map_is; request = may.request };
      answered = λ channel octets pdu on doing is_on hears. record { map_is = may.map_is; request = may.request };
      connects = λ channel octets pdu on access handle doing is_on hears answers next free in_range.
          record { map_is = may.map_is; request = may.request };
      received = λ handle octets.
          receiving_passes MayAsk setup handle octets facts (record { map_is = may.map_is; request = may.request });
    };
  };
}

may_ask : (setup : Setup) (past : List Step) → MayAsk (facts_of setup past)
may_ask setup past = always setup MayAsk MayAsk (asks_kept setup) (record { map_is = IsMap-all; request = tt }) past

-- ---- the fields

hop_from : (n : ℕ) → 5 ≤ 5 + n % 12
hop_from n = omega arith

hop_to : (n : ℕ) → 5 + n % 12 ≤ 16
hop_to n = omega arith

pub asks_in_range : (setup : Setup) (past : List Step) (on : InitiatorFacts) (access : ℕ) → (facts_of setup past).initiator ≡ Some on
    → is_in_range (fields_sent setup on access (facts_of setup past)) ≡ true
asks_in_range setup past on access is =
    let facts = facts_of setup past in
    let may = may_ask setup past in
    let request = subst AsksWell is may.request in
    test_of_range (fields_sent setup on access facts) (record {
      parameters = request;
      map = may.map_is;
      hop_from = hop_from _;
      hop_to = hop_to _;
    })

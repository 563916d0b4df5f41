-- The interval of an advertiser has 16 slots or more at any time.
use Rattle.std.proofs.Common.{◌≡◌, ℕ, ◌≤◌, ◌==◌, Bool, true, false, Option, Some, None, List, cond, subst, arith}
use Rattle.std.specs.Prelude.{⊤}
use Rattle.ble_base.specs.declared.addresses.Address.{Address}
use Rattle.ble_base.specs.declared.roles.Role.{Role}
use Rattle.ble_base.specs.declared.roles.Role.TheVariants.{Central, Peripheral}
use Rattle.hci_cmd.specs.declared.command.Command.{Command}
use Rattle.hci_cmd.specs.declared.command.Command.TheVariants.{Reset, LeSetAdvParams, LeSetAdvEnable}
use Rattle.host_view.specs.View.{View}
use Rattle.host_view.specs.Status.{status_of}
use Rattle.advertise.specs.declared.params.AdvParams.{AdvParams}
use Rattle.advertise.specs.Advertising.{AdvertiserFacts}
use Rattle.host_view.specs.scan_init.Windows.{slots_of}
use Rattle.slot_plan.specs.declared.Activity.{Activity}
use Rattle.slot_plan.specs.declared.Activity.TheVariants.{Link, Advertise, Scan, Initiate}
use Rattle.controller_model.specs.Step.{Step}
use Rattle.controller_model.specs.Facts.{Setup, Facts, Advertising}
use Rattle.controller_model.specs.Commands.{advertiser_enabled, advertiser_turned_on, advertising_after, own_address}
use Rattle.controller_model.specs.Heard.{link_taken}
use Rattle.controller_model.specs.Radio.{served_if_on}
use Rattle.controller_model.specs.Side.{facts_of}
use Rattle.controller_model.proofs.Accepted.{half, long_set}
use Rattle.controller_model.proofs.Always.{IsKept, advertiser_stopped, advertiser_won, always, opening_passes}

abbrev IsLongOn : Option AdvertiserFacts → Type 0
IsLongOn None = ⊤
IsLongOn (Some on) = 16 ≤ slots_of on.params.interval

record HaveLong (advertising : Advertising) : Type 0 where
  params_long : 16 ≤ slots_of advertising.params.interval
  on_long : IsLongOn advertising.on

abbrev IsLong : Facts → Type 0
IsLong facts = HaveLong facts.advertising

enabled_if : (on : Bool) (advertiser : AdvertiserFacts) → IsLongOn (Some advertiser) → IsLongOn (cond on (Some advertiser) None)
enabled_if true advertiser long = long
enabled_if false advertiser long = tt

enabled_long : (own : Address) (slot : ℕ) (params : AdvParams) (value : ℕ) (on : Option AdvertiserFacts) → 16 ≤ slots_of params.interval
    → IsLongOn on → IsLongOn (advertiser_enabled own slot params value on)
enabled_long own slot params value None long on_long = enabled_if (value == 1) (advertiser_turned_on own slot params) long
enabled_long own slot params value (Some on) long on_long = enabled_if (value == 1) on on_long

long_accepted : (setup : Setup) (view : View) (slot : ℕ) (command : Command) (advertising : Advertising) → status_of view command ≡ 0
    → HaveLong advertising → HaveLong (advertising_after setup view slot command advertising)
long_accepted setup view slot Reset advertising accepted long = record { params_long = half 0x0800 (omega arith); on_long = tt }
long_accepted setup view slot (LeSetAdvParams min max kind own peer_kind peer channels policy) advertising accepted long =
    record { params_long = long_set view min max kind own peer_kind peer channels policy accepted; on_long = long.on_long }
long_accepted setup view slot (LeSetAdvEnable value) advertising accepted long = record {
  params_long = long.params_long;
  on_long = enabled_long (own_address setup view view.advertising.own) slot advertising.params value advertising.on long.params_long long.on_long;
}
long_accepted setup view slot other advertising accepted long = record { params_long = long.params_long; on_long = long.on_long }

served_long : (slot : ℕ) (on : Option AdvertiserFacts) → IsLongOn on → IsLongOn (served_if_on slot on)
served_long slot None long = tt
served_long slot (Some on) long = long

won_long : (slot : ℕ) (activity : Activity) (on : Option AdvertiserFacts) → IsLongOn on → IsLongOn (advertiser_won slot activity on)
won_long slot (Link handle) on long = long
won_long slot Advertise on long = served_long slot on long
won_long slot Scan on long = long
won_long slot Initiate on long = long

stopped_long : (role : Role) (on : Option AdvertiserFacts) → IsLongOn on → IsLongOn (advertiser_stopped role on)
stopped_long Central on long = long
stopped_long Peripheral on long = tt

opened_long : (role : Role) (advertising : Advertising) → HaveLong advertising
    → HaveLong (record advertising { on = advertiser_stopped role advertising.on })
opened_long role advertising long =
    record { params_long = long.params_long; on_long = stopped_long role advertising.on long.on_long }

long_kept : (setup : Setup) → IsKept setup IsLong IsLong
long_kept setup = record {
  accepted = λ facts opcode octets command is accepted long.
      long_accepted setup facts.view facts.turn.begun command facts.advertising accepted long;
  asked = λ facts command asks long left. left;
  given = λ facts handle count start octets is long. long;
  octet = λ facts octet long. long;
  turns = record {
    starts = record {
      weakens = λ facts long. long;
      ends = λ reason facts long. long;
      begins = λ slot facts long. long;
      enters = λ slot facts long. long;
      wins = λ slot activity facts long.
          record { params_long = long.params_long; on_long = won_long slot activity facts.advertising.on long.on_long };
      fixes = λ doing facts long. long;
      does = λ doing facts may long. long;
    };
    reports = λ facts long. long;
    words = λ handle facts listens long. long;
    passes = λ facts long. record {
      rests = long;
      awaits_request = λ channel doing. long;
      awaits_response = λ channel advertiser doing. long;
      central_listens = λ handle doing. long;
      sent = λ channel link doing. opening_passes IsLong link facts (opened_long link.role facts.advertising long);
      responds = λ channel on doing is_on. long;
      taken = λ channel octets pdu on fields handle is_on hears takes free.
          opening_passes IsLong (link_taken facts.view on.params.own pdu fields handle) facts (opened_long Peripheral facts.advertising long);
      scanned = λ channel octets pdu on doing is_on hears. long;
      answered = λ channel octets pdu on doing is_on hears. long;
      connects = λ channel octets pdu on access handle doing is_on hears answers next free in_range. long;
      received = λ handle octets. long;
    };
  };
}

pub always_long : (setup : Setup) (past : List Step) (on : AdvertiserFacts) → (facts_of setup past).advertising.on ≡ Some on
    → 16 ≤ slots_of on.params.interval
always_long setup past on is =
    subst IsLongOn is (always setup IsLong IsLong (long_kept setup) (record { params_long = half 0x0800 (omega arith); on_long = tt }) past).on_long

-- The view of a controller knows at any time whether advertising is on, and its type; and advertising that is on has the
-- parameters that were set.
use Rattle.std.proofs.Common.{◌≡◌, ℕ, ◌==◌, Bool, true, false, Option, Some, None, List, cond, refl, ap, sym, subst, ◌∙◌}
use Rattle.std.specs.Prelude.{is_some, ◌&&◌, ⊤}
use Rattle.ble_base.specs.declared.addresses.Address.{Address}
use Rattle.ble_base.specs.declared.roles.Role.{Role}
use Rattle.ble_base.specs.declared.roles.Role.TheVariants.{Central, Peripheral}
use Rattle.hci_cmd.specs.declared.command.Command.{Command}
use Rattle.hci_cmd.specs.declared.command.Command.TheVariants.{HostCompleted, Reset, LeSetAdvParams, LeSetAdvEnable}
use Rattle.host_view.specs.declared.view.Advertising.{Advertising as ViewAdvertising}
use Rattle.host_view.specs.View.{View}
use Rattle.host_view.specs.Changes.{view_after}
use Rattle.host_view.specs.Refusals.{is_connectable}
use Rattle.host_view.specs.Status.{status_of}
use Rattle.advertise.specs.declared.params.AdvParams.{AdvParams}
use Rattle.advertise.specs.Advertising.{AdvertiserFacts}
use Rattle.slot_plan.specs.declared.Activity.{Activity}
use Rattle.slot_plan.specs.declared.Activity.TheVariants.{Link, Advertise, Scan, Initiate}
use Rattle.controller_model.specs.Step.{Step}
use Rattle.controller_model.specs.Facts.{Setup, Facts, Advertising}
use Rattle.controller_model.specs.Commands.{advertiser_enabled, advertiser_turned_on, advertising_after, own_address}
use Rattle.controller_model.specs.Heard.{link_taken}
use Rattle.controller_model.specs.Radio.{served_if_on}
use Rattle.controller_model.specs.Side.{facts_of}
use Rattle.controller_model.proofs.Accepted.{same_after_counts, set_while_off}
use Rattle.controller_model.proofs.Following.{receiving_passes}
use Rattle.controller_model.proofs.Always.{IsKept, advertiser_stopped, advertiser_won, advertising_noted, always, opening_passes}
use Rattle.controller_model.proofs.Room.{may_connect}

-- its own address was found as it was turned on
abbrev pub HasParams : AdvParams → Option AdvertiserFacts → Type 0
HasParams params None = ⊤
HasParams params (Some on) = on.params ≡ record params { own = on.params.own }

pub record KnowsAdvertising (view : ViewAdvertising) (advertising : Advertising) : Type 0 where
  pub on_is : view.on ≡ is_some advertising.on
  pub kind_is : view.kind ≡ advertising.params.kind
  pub has_params : HasParams advertising.params advertising.on

abbrev pub AdvertisersKnown : Facts → Type 0
AdvertisersKnown facts = KnowsAdvertising facts.view.advertising facts.advertising

pub params_known : (params : AdvParams) (may : Option AdvertiserFacts) (on : AdvertiserFacts) → may ≡ Some on → HasParams params may
    → on.params ≡ record params { own = on.params.own }
params_known params may on is has = subst (HasParams params) is has

both_true : (on : Bool) (one kind : ℕ) → on ≡ true → one ≡ kind → is_connectable one ≡ true → (on && is_connectable kind) ≡ true
both_true on one kind is same connectable =
    (λ i. is i && is_connectable kind) ∙ ap is_connectable (sym same) ∙ connectable

-- the view knows that connectable advertising is on
pub connectable_known : (view : ViewAdvertising) (advertising : Advertising) (on : AdvertiserFacts) → KnowsAdvertising view advertising
    → advertising.on ≡ Some on → is_connectable on.params.kind ≡ true → may_connect view ≡ true
connectable_known view advertising on known is connectable =
    both_true view.on on.params.kind view.kind (known.on_is ∙ ap is_some is)
    (ap (λ (params : AdvParams). params.kind) (params_known advertising.params advertising.on on is known.has_params) ∙ sym known.kind_is) connectable

-- ---- an accepted command

params_if : (value : Bool) (params : AdvParams) (on : AdvertiserFacts) → on.params ≡ record params { own = on.params.own }
    → HasParams params (cond value (Some on) None)
params_if true params on is = is
params_if false params on is = tt

enabled_params : (own : Address) (slot : ℕ) (params : AdvParams) (value : ℕ) (on : Option AdvertiserFacts) → HasParams params on
    → HasParams params (advertiser_enabled own slot params value on)
enabled_params own slot params value None has = params_if (value == 1) params (advertiser_turned_on own slot params) refl
enabled_params own slot params value (Some on) has = params_if (value == 1) params on has

-- parameters are set only while advertising is off
off_params : (on : Option AdvertiserFacts) (params : AdvParams) → is_some on ≡ false → HasParams params on
off_params None params off = tt
off_params (Some on) params off = absurd (let h : true ≡ false = off in absurd cc)

enabled_some : (value : Bool) (on : AdvertiserFacts) → value ≡ is_some (cond value (Some on) None)
enabled_some true on = refl
enabled_some false on = refl

enabled_is : (own : Address) (slot : ℕ) (params : AdvParams) (value : ℕ) (on : Option AdvertiserFacts)
    → (value == 1) ≡ is_some (advertiser_enabled own slot params value on)
enabled_is own slot params value None = enabled_some (value == 1) _
enabled_is own slot params value (Some on) = enabled_some (value == 1) on

knows_after : (setup : Setup) (view : View) (slot : ℕ) (command : Command) (advertising : Advertising) → status_of view command ≡ 0
    → KnowsAdvertising view.advertising advertising
    → KnowsAdvertising (view_after view command).advertising (advertising_after setup view slot command advertising)
unfolding view_after
knows_after setup view slot Reset advertising accepted knows = record { on_is = refl; kind_is = refl; has_params = tt }
knows_after setup view slot (LeSetAdvParams min max kind own peer_kind peer channels policy) advertising accepted knows = record {
  on_is = knows.on_is;
  kind_is = refl;
  has_params = off_params advertising.on
      (advertising_after setup view slot (LeSetAdvParams min max kind own peer_kind peer channels policy) advertising).params
      (sym knows.on_is ∙ set_while_off view min max kind own peer_kind peer channels policy accepted);
}
knows_after setup view slot (LeSetAdvEnable value) advertising accepted knows = record {
  on_is = enabled_is (own_address setup view view.advertising.own) slot advertising.params value advertising.on;
  kind_is = knows.kind_is;
  has_params = enabled_params (own_address setup view view.advertising.own) slot advertising.params value advertising.on knows.has_params;
}
knows_after setup view slot (HostCompleted counts) advertising accepted knows =
    let same = same_after_counts (λ (of : View). of.advertising) view counts refl in
    subst (λ (of : ViewAdvertising). KnowsAdvertising of advertising) (sym same) knows
knows_after setup view slot other advertising accepted knows =
    record { on_is = knows.on_is; kind_is = knows.kind_is; has_params = knows.has_params }

-- ---- a turn

served_known : (slot : ℕ) (view : ViewAdvertising) (advertising : Advertising) (on : Option AdvertiserFacts)
    → KnowsAdvertising view (record advertising { on = on }) → KnowsAdvertising view (record advertising { on = served_if_on slot on })
served_known slot view advertising None known = known
served_known slot view advertising (Some on) known =
    record { on_is = known.on_is; kind_is = known.kind_is; has_params = known.has_params }

won_known : (slot : ℕ) (activity : Activity) (view : ViewAdvertising) (advertising : Advertising) → KnowsAdvertising view advertising
    → KnowsAdvertising view (record advertising { on = advertiser_won slot activity advertising.on })
won_known slot (Link handle) view advertising known = known
won_known slot Advertise view advertising known = served_known slot view advertising advertising.on known
won_known slot Scan view advertising known = known
won_known slot Initiate view advertising known = known

-- as a link is opened
opened_known : (role : Role) (view : ViewAdvertising) (advertising : Advertising) → KnowsAdvertising view advertising
    → KnowsAdvertising (advertising_noted role view) (record advertising { on = advertiser_stopped role advertising.on })
opened_known Central view advertising known = known
opened_known Peripheral view advertising known = record { on_is = refl; kind_is = known.kind_is; has_params = tt }

-- ---- at any time

pub advertisers_kept : (setup : Setup) → IsKept setup AdvertisersKnown AdvertisersKnown
advertisers_kept setup = record {
  accepted = λ facts opcode octets command is accepted known.
      knows_after setup facts.view facts.turn.begun command facts.advertising accepted known;
  asked = λ facts command asks known left. left;
  given = λ facts handle count start octets is known. known;
  octet = λ facts octet known. known;
  turns = record {
    starts = record {
      weakens = λ facts known. known;
      ends = λ reason facts known. known;
      begins = λ slot facts known. known;
      enters = λ slot facts known. known;
      wins = λ slot activity facts known. won_known slot activity facts.view.advertising facts.advertising known;
      fixes = λ doing facts known. known;
      does = λ doing facts may known. known;
    };
    reports = λ facts known. known;
    words = λ handle facts listens known. known;
    passes = λ facts known. record {
      rests = known;
      awaits_request = λ channel doing. known;
      awaits_response = λ channel advertiser doing. known;
      central_listens = λ handle doing. known;
      sent = λ channel link doing. opening_passes AdvertisersKnown link facts (opened_known link.role facts.view.advertising facts.advertising known);
      responds = λ channel on doing is_on. known;
      taken = λ channel octets pdu on fields handle is_on hears takes free.
          let link = link_taken facts.view on.params.own pdu fields handle in
          opening_passes AdvertisersKnown link facts (opened_known link.role facts.view.advertising facts.advertising known);
      scanned = λ channel octets pdu on doing is_on hears. known;
      answered = λ channel octets pdu on doing is_on hears. known;
      connects = λ channel octets pdu on access handle doing is_on hears answers next free in_range. known;
      received = λ handle octets. receiving_passes AdvertisersKnown setup handle octets facts known;
    };
  };
}

pub advertisers_known : (setup : Setup) (past : List Step) → AdvertisersKnown (facts_of setup past)
advertisers_known setup past =
    always setup AdvertisersKnown AdvertisersKnown (advertisers_kept setup)
    (record { on_is = refl; kind_is = refl; has_params = tt }) past

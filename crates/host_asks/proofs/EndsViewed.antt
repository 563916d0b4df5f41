-- What the view of all links knows of each end, by steps, packets and commands.
use Rattle.std.proofs.Common.{◌≡◌, ℕ, ◌+◌, ◌*◌, ◌%◌, ◌/◌, ◌<◌, ◌==◌, min, Bool, true, false, List, [], ◌∷◌, fold, length, Option, Some, None, Err, is_none, is_some, if◌then◌else◌, refl, ap, sym, ◌∙◌, subst, arith}
use Rattle.std.specs.Option.{option_map}
use Rattle.ble_base.specs.declared.error_codes.ErrCode.{ErrCode}
use Rattle.ble_base.specs.declared.procedure_kinds.Kind.{Kind}
use Rattle.ble_base.specs.declared.procedure_kinds.Kind.TheVariants.{Features, Version}
use Rattle.ble_base.specs.declared.roles.Role.{Role}
use Rattle.ble_base.specs.declared.notes.Note.TheVariants.{Done, Up}
use Rattle.wire_fields.specs.Field.{little_endian}
use Rattle.hci_cmd.specs.declared.command.Command.{Command}
use Rattle.hci_cmd.specs.declared.command.Command.TheVariants.{LeReadRemoteFeatures, ReadRemoteVersion}
use Rattle.hci_evt.specs.Event.{written}
use Rattle.hci_evt.specs.declared.event.Event.TheVariants.{ParamRequest}
use Rattle.link_commands.specs.open_links.procedure_values.declared.asks.Ask.TheVariants.{Features as ask_features, Version as ask_version}
use Rattle.procedure_events.specs.procedure_stages.declared.steps.Effect.{Effect}
use Rattle.procedure_events.specs.procedure_stages.Kinds.{role_of}
use Rattle.procedure_events.specs.procedure_stages.Steps.{asks_host}
use Rattle.procedure_events.specs.procedure_stages.declared.steps.Effect.TheVariants.{AskHost}
use Rattle.link_commands.specs.open_links.link_model.declared.state.PeerFacts.{PeerFacts}
use Rattle.link_commands.specs.open_links.link_model.declared.state.PeerVersion.{PeerVersion}
use Rattle.link_commands.specs.open_links.link_model.End.{facts_after, notes_after}
use Rattle.link_commands.specs.open_links.link_model.Hosts.{facts_answered, facts_key_answered}
use Rattle.link_commands.specs.open_links.link_model.Setup.{Setup}
use Rattle.link_commands.specs.open_links.link_model.Step.{Step}
use Rattle.link_commands.specs.open_links.link_model.Facts.{Facts}
use Rattle.link_commands.proofs.open_links.link_model.KnownEnds.{IsPast}
use Rattle.host_view.specs.Changes.{completed, view_after}
use Rattle.host_view.specs.Refusals.{count_if}
use Rattle.host_view.specs.Status.{status_of}
use Rattle.host_view.specs.declared.links.Link.{Link}
use Rattle.host_view.specs.View.{View}
use Rattle.host_view.specs.Changes.{on_link}
use Rattle.host_view.specs.Links.{link_in}
use Rattle.host_view.specs.Noted.{after_packet, event_handle, acl_handle, is_acl_data, is_le_event, view_noted}
use Rattle.link_commands.specs.declared.moments.Moment.{Moment}
use Rattle.link_commands.specs.Commands.{answered_if, ask_unless, facts_commanded, host_step_of, is_about, is_read_of_peer, link_accepted, link_answered, link_commanded}
use Rattle.host_asks.specs.Commands.{MayComeIf, WordsFit}
use Rattle.host_asks.specs.Knowing.{KnowsAsks}
use Rattle.host_asks.specs.Noting.{effect_after, is_of_host, link_after_notes, link_after_note, link_with_request}
use Rattle.link_commands.specs.Views.{events_at_once, events_if, kind_if, kind_known, view_answered, view_commanded}
use Rattle.host_asks.specs.Views.{KnowsAt, KnowsOnceReported, leaves_other_links}
use Rattle.host_asks.proofs.Accepting.{command_keeps, command_may_come, key_known, refused_knows, request_withdrawn}
use Rattle.host_asks.proofs.Ends.{key_knows, step_knows}
use Rattle.host_asks.proofs.LinksViewed.{about_other, about_own, command_other, command_own, notes_of_step, notes_own}

-- ---- a change that keeps what is known

pub changed_known : (effect : Effect) (view : View) (given handle : ℕ) (facts : Facts) (change : Link → Link)
    → ((link : Link) → KnowsAsks (link_with_request effect link) facts → KnowsAsks (link_with_request effect (change link)) facts)
    → KnowsOnceReported effect view handle facts → KnowsOnceReported effect (on_link given change view) handle facts
changed_known effect view given handle facts change keeps known = by (given == handle) refl
  where
    by : (own : Bool) → (given == handle) ≡ own → KnowsOnceReported effect (on_link given change view) handle facts
    by true is =
        record {
          link = change known.link;
          is_open = about_own view given handle change is ∙ ap (option_map change) known.is_open;
          knows = keeps known.link known.knows;
        }
    by false is = record { link = known.link; is_open = about_other view given handle change is ∙ known.is_open; knows = known.knows }

pub handed_known : (link : Link) (facts : Facts) (outstanding : ℕ) → KnowsAsks link facts → KnowsAsks (record link { outstanding = outstanding }) facts
handed_known link facts outstanding knows =
    record {
      table =
          record {
            role = knows.table.role;
            asked = knows.table.asked;
            closes = knows.table.closes;
            disconnects = knows.table.disconnects;
            parameters = knows.table.parameters;
          };
      disconnecting = knows.disconnecting;
      version = knows.version;
    }

parameters_known : (link : Link) (facts : Facts) → KnowsAsks link facts → KnowsAsks (record link { waits_for_parameters = true }) facts
parameters_known link facts knows =
    record {
      table =
          record {
            role = knows.table.role;
            asked = knows.table.asked;
            closes = knows.table.closes;
            disconnects = knows.table.disconnects;
            parameters = λ asks. refl;
          };
      disconnecting = knows.disconnecting;
      version = knows.version;
    }

-- what waits does not depend on these
handed_with : (effect : Effect) (link : Link) (facts : Facts) (outstanding : ℕ) → KnowsAsks (link_with_request effect link) facts
    → KnowsAsks (link_with_request effect (record link { outstanding = outstanding })) facts
handed_with (AskHost least most latency timeout) link facts outstanding knows = handed_known (link_with_request (AskHost least most latency timeout) link) facts outstanding knows
handed_with effect link facts outstanding knows = handed_known link facts outstanding knows

key_with : (effect : Effect) (link : Link) (facts : Facts) (waits : Bool) → KnowsAsks (link_with_request effect link) facts
    → KnowsAsks (link_with_request effect (record link { waits_for_key = waits })) facts
key_with (AskHost least most latency timeout) link facts waits knows = key_known (link_with_request (AskHost least most latency timeout) link) facts waits link.keyed knows
key_with effect link facts waits knows = key_known link facts waits link.keyed knows

parameters_with : (effect : Effect) (link : Link) (facts : Facts) → KnowsAsks (link_with_request effect link) facts
    → KnowsAsks (link_with_request effect (record link { waits_for_parameters = true })) facts
parameters_with (AskHost least most latency timeout) link facts knows = knows
parameters_with effect link facts knows = parameters_known link facts knows

-- ---- any packet

module _ (effect : Effect) (handle : ℕ) (facts : Facts) where
  choice : (b : Bool) (x y : View) → KnowsOnceReported effect x handle facts → KnowsOnceReported effect y handle facts
      → KnowsOnceReported effect (if b then x else y) handle facts
  choice true x y hx hy = hx
  choice false x y hx hy = hy

  packet_by : (view : View) (octets : List ℕ) → KnowsOnceReported effect view handle facts → KnowsOnceReported effect (after_packet octets view) handle facts
  packet_by view octets known =
      choice (is_acl_data octets) _ _
      (choice view.flow.on _ _
      (changed_known effect view (acl_handle octets) handle facts (λ link. record link { outstanding = min (link.outstanding + 1) 65535 })
      (λ link knows. handed_with effect link facts (min (link.outstanding + 1) 65535) knows) known) known)
      (choice (is_le_event 0x05 octets) _ _
      (changed_known effect view (event_handle octets) handle facts (λ link. record link { waits_for_key = true }) (λ link knows. key_with effect link facts true knows) known)
      (choice (is_le_event 0x06 octets) _ _
      (changed_known effect view (event_handle octets) handle facts (λ link. record link { waits_for_parameters = true })
      (λ link knows. parameters_with effect link facts knows) known)
      known))

pub packet_known : (effect : Effect) (view : View) (octets : List ℕ) (handle : ℕ) (facts : Facts) → KnowsOnceReported effect view handle facts
    → KnowsOnceReported effect (view_noted view (Up (record { items = octets }))) handle facts
unfolding view_noted
packet_known effect view octets handle facts known = packet_by effect handle facts view octets known

-- ---- the event of a request

two_octets_are : (handle : ℕ) → handle < 65536 → handle % 256 + 256 * (handle / 256 % 256) ≡ handle
two_octets_are handle fits = omega (arith, fits)

request_links : (view : View) (handle least most latency timeout : ℕ) → handle < 65536
    → link_in (view_noted view (Up (record { items = written (ParamRequest handle least most latency timeout) }))).links handle
    ≡ option_map (link_with_request (AskHost least most latency timeout)) (link_in view.links handle)
unfolding view_noted little_endian
request_links view handle least most latency timeout fits =
    subst (λ (h : ℕ). link_in (on_link h (λ (link : Link). record link { waits_for_parameters = true }) view).links handle
    ≡ option_map (λ (link : Link). record link { waits_for_parameters = true }) (link_in view.links handle)) (sym (two_octets_are handle fits))
    (about_own view handle handle (λ link. record link { waits_for_parameters = true }) (same handle))
  where
    same : (n : ℕ) → (n == n) ≡ true
    same n = grind (arith)

pub request_reported : (view : View) (handle least most latency timeout : ℕ) (facts : Facts) → handle < 65536
    → KnowsOnceReported (AskHost least most latency timeout) view handle facts
    → KnowsAt (view_noted view (Up (record { items = written (ParamRequest handle least most latency timeout) }))) handle facts
request_reported view handle least most latency timeout facts fits known =
    record {
      link = link_with_request (AskHost least most latency timeout) known.link;
      is_open = request_links view handle least most latency timeout fits ∙ ap (option_map (link_with_request (AskHost least most latency timeout))) known.is_open;
      knows = known.knows;
    }

-- ---- there is no request, or it is refused at once

pub none_reported : (effect : Effect) (view : View) (handle : ℕ) (facts : Facts) → asks_host effect ≡ false → KnowsOnceReported effect view handle facts
    → KnowsAt view handle facts
none_reported (AskHost least most latency timeout) view handle facts none known = absurd (cc)
none_reported effect view handle facts none known = record { link = known.link; is_open = known.is_open; knows = known.knows }

pub request_refused_at_once : (effect : Effect) (view : View) (handle : ℕ) (facts : Facts) (code : ErrCode) → KnowsOnceReported effect view handle facts
    → (facts_answered (Err code) facts).control.ends ≡ None → KnowsAt view handle (facts_answered (Err code) facts)
request_refused_at_once effect view handle facts code known lasts =
    record {
      link = known.link;
      is_open = known.is_open;
      knows =
          subst (λ (l : Link). KnowsAsks l (facts_answered (Err code) facts)) (request_withdrawn effect known.link)
          (refused_knows (link_with_request effect known.link) facts code known.link.waits_for_parameters known.knows lasts);
    }

-- one for a key is answered as by a host that has none
pub key_lacked_at_once : (effect : Effect) (view : View) (handle slot : ℕ) (facts : Facts) → KnowsOnceReported effect view handle facts
    → KnowsOnceReported effect view handle (facts_key_answered None slot facts)
key_lacked_at_once effect view handle slot facts known =
    record { link = known.link; is_open = known.is_open; knows = key_knows None slot (link_with_request effect known.link) facts known.knows }

-- ---- a step of an end, and a command

option_some : (f : Link → Link) (found : Option Link) (link : Link) → found ≡ Some link → option_map f found ≡ Some (f link)
option_some f found link is = ap (option_map f) is

pub step_known : (view : View) (setup : Setup) (facts : Facts) (step : Step) → IsPast setup facts → is_of_host step ≡ false
    → KnowsAt view setup.link.handle facts → (facts_after setup facts step).control.ends ≡ None
    → KnowsOnceReported (effect_after setup facts step) (fold view_noted view (notes_after setup facts step)) setup.link.handle (facts_after setup facts step)
step_known view setup facts step p other known lasts =
    record {
      link = link_after_notes setup facts step known.link;
      is_open =
          notes_own setup.link.handle view (notes_after setup facts step) (notes_of_step setup facts step)
          ∙ option_some (link_after_notes setup facts step) (link_in view.links setup.link.handle) known.link known.is_open;
      knows = step_knows setup step known.link facts p other known.knows lasts;
    }

answered_view : (view : View) (handle : ℕ) (kind : Kind) (link : Link) → link_in view.links handle ≡ Some link
    → link_in (view_noted view (Done handle kind)).links handle ≡ Some (completed kind link)
answered_view view handle kind link is =
    notes_own handle view (Done handle kind ∷ []) (refl, tt) ∙ option_some (λ l. fold link_after_note l (Done handle kind ∷ [])) (link_in view.links handle) link is

known_if : (view : View) (handle : ℕ) (known : Bool) (kind : Kind) (link : Link) → link_in view.links handle ≡ Some link
    → link_in (view_answered handle (kind_if known kind) view).links handle ≡ Some (answered_if known kind link)
known_if view handle true kind link is = answered_view view handle kind link is
known_if view handle false kind link is = is

answered_by : (view : View) (command : Command) (handle : ℕ) (peer : PeerFacts) (link : Link) → link_in view.links handle ≡ Some link
    → link_in (view_answered handle (kind_known command peer) view).links handle ≡ Some (link_answered command peer link)
answered_by view (ReadRemoteVersion given) handle peer link is = known_if view handle (is_some peer.version) Version link is
answered_by view (LeReadRemoteFeatures given) handle peer link is = known_if view handle (is_some peer.features) Features link is
answered_by view other handle peer link is = is

pub command_may : (view : View) (command : Command) (handle : ℕ) (moment : Moment) (facts : Facts) → status_of view command ≡ 0
    → is_about handle command ≡ true → KnowsAt view handle facts → WordsFit moment
    → MayComeIf (host_step_of command moment (role_of facts.control.table.progress) facts.peer) facts
command_may view command handle moment facts ok about known words =
    subst (λ (role : Role). MayComeIf (host_step_of command moment role facts.peer) facts) (sym known.knows.table.role)
    (command_may_come view command handle moment known.link facts ok about known.is_open known.knows words)

pub command_known : (view : View) (setup : Setup) (command : Command) (moment : Moment) (facts : Facts) → status_of view command ≡ 0
    → is_about setup.link.handle command ≡ true → KnowsAt view setup.link.handle facts
    → (facts_commanded setup (host_step_of command moment (role_of facts.control.table.progress) facts.peer) facts).control.ends ≡ None
    → KnowsAt (view_commanded view command setup.link.handle facts.peer) setup.link.handle
    (facts_commanded setup (host_step_of command moment (role_of facts.control.table.progress) facts.peer) facts)
command_known view setup command moment facts ok about known lasts =
    record {
      link = link_commanded command facts.peer known.link;
      is_open =
          answered_by (view_after view command) command setup.link.handle facts.peer (link_accepted command known.link)
          (command_own view command setup.link.handle about ∙ option_some (link_accepted command) (link_in view.links setup.link.handle) known.link known.is_open);
      knows = by (role_of facts.control.table.progress) known.knows.table.role lasts;
    }
  where
    by : (role : Role) → role ≡ known.link.role → (facts_commanded setup (host_step_of command moment role facts.peer) facts).control.ends ≡ None
        → KnowsAsks (link_commanded command facts.peer known.link) (facts_commanded setup (host_step_of command moment role facts.peer) facts)
    by role is lasts =
        subst (λ (r : Role). KnowsAsks (link_commanded command facts.peer known.link) (facts_commanded setup (host_step_of command moment r facts.peer) facts)) (sym is)
        (command_keeps setup view command setup.link.handle moment known.link facts ok about known.is_open known.knows
        (subst (λ (r : Role). (facts_commanded setup (host_step_of command moment r facts.peer) facts).control.ends ≡ None) is lasts))

-- a command on other links, or on none
pub other_known : (view : View) (command : Command) (handle : ℕ) (facts : Facts) → is_about handle command ≡ false → leaves_other_links command ≡ true
    → KnowsAt view handle facts → KnowsAt (view_after view command) handle facts
other_known view command handle facts about leaves known =
    record { link = known.link; is_open = command_other view command handle about leaves ∙ known.is_open; knows = known.knows }

-- an event answers it, or it makes a step
pub answered_or_asked : (command : Command) (handle : ℕ) (moment : Moment) (role : Role) (peer : PeerFacts) → is_read_of_peer command ≡ true
    → length (events_at_once command handle peer) ≡ count_if (is_none (host_step_of command moment role peer))
answered_or_asked (ReadRemoteVersion given) handle moment role peer is = by peer.version refl
  where
    by : (version : Option PeerVersion) → peer.version ≡ version
        → length (events_if handle peer (kind_if (is_some peer.version) Version)) ≡ count_if (is_none (ask_unless (is_some peer.version) ask_version))
    by None is = rw is refl
    by (Some version) is = rw is refl
answered_or_asked (LeReadRemoteFeatures given) handle moment role peer is = by peer.features refl
  where
    by : (features : Option ℕ) → peer.features ≡ features
        → length (events_if handle peer (kind_if (is_some peer.features) Features)) ≡ count_if (is_none (ask_unless (is_some peer.features) ask_features))
    by None is = rw is refl
    by (Some features) is = rw is refl
answered_or_asked other handle moment role peer is = absurd (cc)

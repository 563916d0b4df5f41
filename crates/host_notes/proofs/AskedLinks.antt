-- What a command asks of links, as the calls on them do it.
use Rattle.std.proofs.Common.{◌≡◌, ℕ, ◌+◌, ◌%◌, ◌^◌, ◌<◌, ◌==◌, false, true≢false, List, [], ◌∷◌, Option, Some, None, if◌then◌else◌, refl, sym, subst, ◌∙◌}
use Rattle.std.proofs.Math.Nat.{mod-eq_of_lt}
use Rattle.std.specs.Option.{option_map}
use Rattle.acl_banks.specs.declared.pieces.Piece.{Piece}
use Rattle.ble_base.specs.declared.procedure_kinds.Kind.{Kind}
use Rattle.ble_base.specs.declared.procedure_kinds.Kind.TheVariants.{Features as features_kind, Version as version_kind}
use Rattle.hci_cmd.specs.declared.command.Command.{Command}
use Rattle.hci_cmd.specs.declared.command.Command.TheVariants.{Disconnect, LeConnectionUpdate, LeEnableEncryption, LeKeyNegative, LeKeyReply, LeParamNegative, LeParamReply, LeReadRemoteFeatures, LeSetChannels, LeSetDataLength, LeSetPhy, ReadRemoteVersion}
use Rattle.link_model.specs.Step.{ProcedureAsked}
use Rattle.link_model.specs.declared.setup.LinkSetup.{LinkSetup}
use Rattle.procedures.specs.procedure_values.declared.asks.Ask.{Ask}
use Rattle.procedures.specs.procedure_values.declared.asks.Ask.TheVariants.{Features, Version}
use Rattle.open_links.specs.Hosts.{links_asked}
use Rattle.open_links.specs.Knowing.{HeldLinks, Knows as KnowsLinks}
use Rattle.open_links.specs.OpenLinks.{Links, OpenLink, facts_in, link_after, link_at}
use Rattle.controller_model.specs.link_commands.declared.moments.Moment.{Moment}
use Rattle.controller_model.specs.link_commands.Commands.{ask_unless, is_about, update_by}
use Rattle.controller_model.specs.link_commands.LinksCommanded.{links_commanded_from, place_commanded, link_after_if, links_commanded, open_link_commanded}
use Rattle.controller_model.proofs.link_commands.OpenLinkCalls.{asked_unless_known, none_changed, none_commanded, update_asked}
use Rattle.host_notes.specs.Asking.{is_known, is_known_if, is_of_keys, peer_at}

-- ---- the links

module _ (command : Command) (moment : Moment) (handle : ℕ) (kind : Kind) (ask : Ask) (links : Links) (about : (other : ℕ) → is_about other command ≡ (handle == other))
    (same : (link : OpenLink) → open_link_commanded command moment link ≡ link_after_if (ask_unless (is_known kind (facts_in link).peer) ask) link) where
  read_asked : links_commanded command moment links ≡ (if is_known_if kind (peer_at handle links) then links else links_asked handle ask links)
  read_asked = by (link_at handle links) refl
    where
      by : (place : Option OpenLink) → link_at handle links ≡ place
          → links_commanded command moment links ≡ (if is_known_if kind (option_map (λ link. (facts_in link).peer) place) then links else links_asked handle ask links)
      by None is = none_commanded command moment handle links about is ∙ sym (none_changed (link_after (ProcedureAsked ask)) 0 handle links is)
      by (Some link) is = asked_unless_known command moment handle ask (is_known kind (facts_in link).peer) links link about is (same link)

pub version_asked_if : (handle : ℕ) (moment : Moment) (links : Links)
    → links_commanded (ReadRemoteVersion handle) moment links ≡ (if is_known_if version_kind (peer_at handle links) then links else links_asked handle Version links)
version_asked_if handle moment links = read_asked (ReadRemoteVersion handle) moment handle version_kind Version links (λ other. refl) (λ link. refl)

pub features_asked_if : (handle : ℕ) (moment : Moment) (links : Links)
    → links_commanded (LeReadRemoteFeatures handle) moment links ≡ (if is_known_if features_kind (peer_at handle links) then links else links_asked handle Features links)
features_asked_if handle moment links = read_asked (LeReadRemoteFeatures handle) moment handle features_kind Features links (λ other. refl) (λ link. refl)

-- the parameters of a link that is open, and of none
module _ (handle : ℕ) (moment : Moment) (min max latency timeout : ℕ) (lengths : List ℕ) (links : Links) where
  abbrev after : Links
  after = links_commanded (LeConnectionUpdate handle min max latency timeout lengths) moment links

  pub update_asked_of : (setup : LinkSetup) → option_map (λ (link : OpenLink). link.setup.link) (link_at handle links) ≡ Some setup
      → after ≡ links_asked handle (update_by setup.role min max latency timeout) links
  update_asked_of setup is = by (link_at handle links) refl is
    where
      by : (place : Option OpenLink) → link_at handle links ≡ place → option_map (λ (link : OpenLink). link.setup.link) place ≡ Some setup
          → after ≡ links_asked handle (update_by setup.role min max latency timeout) links
      by None found none = absurd cc
      by (Some link) found is =
          let same : link.setup.link ≡ setup = cc in
          update_asked handle moment min max latency timeout lengths links link found
          ∙ (λ i. links_asked handle (update_by (same i).role min max latency timeout) links)

  pub update_of_none : option_map (λ (link : OpenLink). link.setup.link) (link_at handle links) ≡ None → after ≡ links
  update_of_none is = by (link_at handle links) refl is
    where
      by : (place : Option OpenLink) → link_at handle links ≡ place → option_map (λ (link : OpenLink). link.setup.link) place ≡ None → after ≡ links
      by None found none =
          none_commanded (LeConnectionUpdate handle min max latency timeout lengths) moment handle links (λ other. refl) found
      by (Some link) found none = absurd cc

-- a command that is about no link
about_none : (command : Command) (moment : Moment) (first : ℕ) (links : Links) → ((handle : ℕ) → is_about handle command ≡ false)
    → links_commanded_from first command moment links ≡ links
about_none command moment first [] none = refl
about_none command moment first (place ∷ links) none =
    λ i. place_commanded (none first i) command moment place ∷ about_none command moment (first + 1) links none i

pub others_leave : (command : Command) (moment : Moment) (links : Links) → is_of_keys command ≡ false → ((handle reason : ℕ) → command ≡ Disconnect handle reason → ⊥)
    → ((handle : ℕ) → command ≡ ReadRemoteVersion handle → ⊥) → ((handle : ℕ) → command ≡ LeReadRemoteFeatures handle → ⊥)
    → ((handle octets time : ℕ) → command ≡ LeSetDataLength handle octets time → ⊥)
    → ((handle min max latency timeout : ℕ) (lengths : List ℕ) → command ≡ LeConnectionUpdate handle min max latency timeout lengths → ⊥)
    → ((map : ℕ) → command ≡ LeSetChannels map → ⊥)
    → ((handle all tx rx options : ℕ) → command ≡ LeSetPhy handle all tx rx options → ⊥)
    → ((handle min max latency timeout : ℕ) (lengths : List ℕ) → command ≡ LeParamReply handle min max latency timeout lengths → ⊥)
    → ((handle reason : ℕ) → command ≡ LeParamNegative handle reason → ⊥)
    → links_commanded command moment links ≡ links
others_leave (Disconnect handle reason) moment links unkeyed a b c d e f p g h = absurd (a handle reason refl)
others_leave (ReadRemoteVersion handle) moment links unkeyed a b c d e f p g h = absurd (b handle refl)
others_leave (LeReadRemoteFeatures handle) moment links unkeyed a b c d e f p g h = absurd (c handle refl)
others_leave (LeSetDataLength handle octets time) moment links unkeyed a b c d e f p g h = absurd (d handle octets time refl)
others_leave (LeConnectionUpdate handle min max latency timeout lengths) moment links unkeyed a b c d e f p g h =
    absurd (e handle min max latency timeout lengths refl)
others_leave (LeSetChannels map) moment links unkeyed a b c d e f p g h = absurd (f map refl)
others_leave (LeSetPhy handle all tx rx options) moment links unkeyed a b c d e f p g h = absurd (p handle all tx rx options refl)
others_leave (LeParamReply handle min max latency timeout lengths) moment links unkeyed a b c d e f p g h =
    absurd (g handle min max latency timeout lengths refl)
others_leave (LeParamNegative handle reason) moment links unkeyed a b c d e f p g h = absurd (h handle reason refl)
others_leave (LeEnableEncryption handle rand ediv key) moment links unkeyed a b c d e f p g h = absurd (true≢false unkeyed)
others_leave (LeKeyReply handle key) moment links unkeyed a b c d e f p g h = absurd (true≢false unkeyed)
others_leave (LeKeyNegative handle) moment links unkeyed a b c d e f p g h = absurd (true≢false unkeyed)
others_leave other moment links unkeyed a b c d e f p g h = about_none other moment 0 links (λ handle. refl)

-- ---- the links that are held, by which command it is

module _ (held : HeldLinks) (moment : Moment) (known : Links) (received : List (ℕ × Piece)) where
  pub knows_by : (command one : Command) (links : Links) → command ≡ one → links_commanded one moment known ≡ links
      → KnowsLinks held links received → KnowsLinks held (links_commanded command moment known) received
  knows_by command one links is same k =
      subst (λ (given : Command). KnowsLinks held (links_commanded given moment known) received) (sym is)
      (subst (λ (of : Links). KnowsLinks held of received) (sym same) k)

-- a reason has one octet
pub one_octet : (reason : ℕ) → reason < 256 → reason % 256 ≡ reason
one_octet reason fits = mod-eq_of_lt fits

-- the random number and the diversifier of encryption have eight and two
pub eight_octets : (rand : ℕ) → rand < 2 ^ 64 → rand % 2 ^ 64 ≡ rand
eight_octets rand fits = mod-eq_of_lt fits

pub two_octets : (ediv : ℕ) → ediv < 2 ^ 16 → ediv % 2 ^ 16 ≡ ediv
two_octets ediv fits = mod-eq_of_lt fits

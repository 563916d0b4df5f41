-- The step that an accepted command asks of an open end may come there.
use Rattle.std.proofs.Common.{◌≡◌, ℕ, zero, suc, ◌+◌, ◌<◌, ◌==◌, Bool, true, false, Option, Some, None, List, [], ◌∷◌, length, refl, subst, arith, eqb-true}
use Rattle.std.specs.Prelude.{is_none}
use Rattle.std.proofs.Math.Nat.{mod-lt}
use Rattle.ble_base.specs.ChannelMap.{IsMap}
use Rattle.ble_base.specs.declared.roles.Role.{Role}
use Rattle.ble_base.specs.declared.roles.Role.TheVariants.{Central, Peripheral}
use Rattle.hci_cmd.specs.declared.command.Command.{Command}
use Rattle.hci_cmd.specs.declared.command.Command.TheVariants.{Disconnect, LeConnectionUpdate, LeEnableEncryption, LeKeyNegative, LeKeyReply, LeParamNegative, LeParamReply, LeReadRemoteFeatures, LeSetChannels, LeSetDataLength, LeSetPhy, ReadRemoteVersion}
use Rattle.host_view.specs.declared.links.Link.{Link as ViewLink}
use Rattle.host_view.specs.Links.{link_in}
use Rattle.host_view.specs.Refusals.{first_refusal}
use Rattle.host_view.specs.Status.{rows_of}
use Rattle.host_view.specs.Status.{status_of}
use Rattle.host_view.specs.View.{View}
use Rattle.link_model.specs.Facts.{Facts as EndFacts}
use Rattle.link_model.specs.Step.{Step as EndStep}
use Rattle.controller_model.specs.open_links.OpenLinks.{OpenLink, facts_in, link_at}
use Rattle.controller_model.specs.link_commands.declared.moments.Moment.{Moment}
use Rattle.controller_model.specs.link_commands.Commands.{host_step_of, is_about, map_by, step_if_about, step_on}
use Rattle.controller_model.proofs.link_commands.Ranges.{asked_in_range, passes}
use Rattle.host_asks.specs.Commands.{MayComeIf, WordsFit}
use Rattle.host_asks.proofs.Accepted.{table_of}
use Rattle.host_asks.proofs.OpenLinksKnown.{end_may}
use Rattle.host_asks.specs.link_pairs.Hosts.{MayHost}
use Rattle.controller_model.specs.Answers.{next_word}
use Rattle.controller_model.specs.Commands.{moment_by, moment_of}
use Rattle.controller_model.specs.Facts.{Setup}
use Rattle.controller_model.specs.Host.{commands_accepted_after}
use Rattle.controller_model.specs.Side.{facts_of, result_of}
use Rattle.controller_model.specs.Step.{Step, HostOctet}
use Rattle.known_ends.proofs.CommandsKnown.{accepted_in}
use Rattle.known_ends.proofs.EndsKnown.{end_known, six_places}

-- ---- a command on one link is refused where the view has no place for the link

is_kept : (links : List (Option ViewLink)) (handle : ℕ) → is_none (link_in links handle) ≡ false → handle < length links
is_kept [] handle is = absurd (cc)
is_kept (link ∷ links) zero is = omega arith
is_kept (link ∷ links) (suc handle) is = let rest = is_kept links handle is in omega (arith, rest)

is_given : (view : View) (given handle : ℕ) → (given == handle) ≡ true → is_none (link_in view.links given) ≡ false → handle < length view.links
is_given view given handle same is = subst (λ (h : ℕ). h < length view.links) (eqb-true given handle same) (is_kept view.links given is)

-- the map is for all links
abbrev is_set_channels : Command → Bool
is_set_channels (LeSetChannels map) = true
is_set_channels other = false

has_place : (view : View) (command : Command) (handle : ℕ) → is_set_channels command ≡ false → first_refusal (rows_of view command) ≡ 0
    → is_about handle command ≡ true → handle < length view.links
has_place view (Disconnect given reason) handle one ok about = is_given view given handle about (passes (is_none (link_in view.links given)) _ _ ok).0
has_place view (ReadRemoteVersion given) handle one ok about = is_given view given handle about (passes (is_none (link_in view.links given)) _ _ ok).0
has_place view (LeReadRemoteFeatures given) handle one ok about = is_given view given handle about (passes (is_none (link_in view.links given)) _ _ ok).0
has_place view (LeSetDataLength given most time) handle one ok about = is_given view given handle about (passes (is_none (link_in view.links given)) _ _ ok).0
has_place view (LeConnectionUpdate given min max latency timeout lengths) handle one ok about =
    is_given view given handle about (passes (is_none (link_in view.links given)) _ _ ok).0
has_place view (LeSetPhy given all tx rx options) handle one ok about = is_given view given handle about (passes (is_none (link_in view.links given)) _ _ ok).0
has_place view (LeParamReply given min max latency timeout lengths) handle one ok about =
    is_given view given handle about (passes (is_none (link_in view.links given)) _ _ ok).0
has_place view (LeParamNegative given reason) handle one ok about = is_given view given handle about (passes (is_none (link_in view.links given)) _ _ ok).0
has_place view (LeEnableEncryption given rand ediv key) handle one ok about = is_given view given handle about (passes (is_none (link_in view.links given)) _ _ ok).0
has_place view (LeKeyReply given key) handle one ok about = is_given view given handle about (passes (is_none (link_in view.links given)) _ _ ok).0
has_place view (LeKeyNegative given) handle one ok about = is_given view given handle about (passes (is_none (link_in view.links given)) _ _ ok).0
has_place view other handle one ok about = absurd (cc)

-- ---- the step may come

-- what a central draws is cut to its octets
words_fit : (setup : Setup) (begun drawn : ℕ) → WordsFit (moment_by setup begun drawn)
words_fit setup begun drawn =
    record { skd_fits = mod-lt (next_word setup drawn) (omega arith); iv_fits = mod-lt (next_word setup (drawn + 1)) (omega arith) }

map_may : (role : Role) (map : ℕ) (facts : EndFacts) → IsMap map → MayComeIf (map_by role map) facts
map_may Central map facts is = record { in_range = is; may = refl }
map_may Peripheral map facts is = tt

module _ (setup : Setup) (past : List Step) (handle : ℕ) (link : OpenLink) (is_open : link_at handle (facts_of setup past).links ≡ Some link)
    (lasts : (facts_in link).control.ends ≡ None) where
  abbrev view : View
  view = (facts_of setup past).view

  abbrev moment : Moment
  moment = moment_of setup (facts_of setup past)

  about_may : (command : Command) → status_of view command ≡ 0 → is_about handle command ≡ true
      → MayComeIf (host_step_of command moment link.setup.link.role (facts_in link).peer) (facts_in link)
  about_may (LeSetChannels map) ok about = map_may link.setup.link.role map (facts_in link) (asked_in_range view (LeSetChannels map) (table_of view (LeSetChannels map) ok))
  about_may command ok about =
      let place = has_place view command handle refl (table_of view command ok) about in
      let six = six_places setup past in
      end_may view command handle moment link ok about (end_known setup past handle link (omega (arith, place, six)) is_open lasts)
      (words_fit setup (facts_of setup past).turn.begun (facts_of setup past).drawn)

  may_by : (about : Bool) (command : Command) (step : EndStep) → is_about handle command ≡ about → status_of view command ≡ 0
      → step_if_about about (host_step_of command moment link.setup.link.role (facts_in link).peer) ≡ Some step → MayHost step (facts_in link)
  may_by true command step about ok asks =
      subst (λ (found : Option EndStep). MayComeIf found (facts_in link)) asks (about_may command ok about)
  may_by false command step about ok asks = absurd (cc)

pub step_may_come : (setup : Setup) (past : List Step) (octet handle : ℕ) (link : OpenLink) (command : Command) (step : EndStep)
    → link_at handle (facts_of setup past).links ≡ Some link → (facts_in link).control.ends ≡ None
    → commands_accepted_after (facts_of setup past) (HostOctet octet) ≡ command ∷ []
    → step_on handle command (moment_of setup (facts_of setup past)) link.setup.link.role (facts_in link).peer ≡ Some step → MayHost step (facts_in link)
step_may_come setup past octet handle link command step is lasts accepted asks =
    let facts = facts_of setup past in
    may_by setup past handle link is lasts (is_about handle command) command step refl
    (accepted_in facts (result_of facts.octets octet) command accepted) asks

-- The view of a controller knows the end of the link under a handle after an octet of the host.
use Rattle.std.proofs.Common.{◌≡◌, ℕ, ◌-◌, ◌==◌, Bool, true, false, Option, Some, None, List, [], ◌∷◌, refl, ap, sym, subst, ◌∙◌, eqb-true}
use Rattle.std.specs.Prelude.{◌&&◌, if◌then◌else◌}
use Rattle.h4_frames.specs.declared.packet.HostPacket.TheVariants.{Command as HostCommand, Acl}
use Rattle.h4_frames.specs.declared.packet.Fed.{Fed}
use Rattle.h4_frames.specs.declared.packet.Fed.TheVariants.{More, Packet, LostSync}
use Rattle.hci_cmd.specs.declared.command.HandleCount.{HandleCount}
use Rattle.hci_cmd.specs.declared.command.Command.{Command}
use Rattle.hci_cmd.specs.declared.command.Command.TheVariants.{Disconnect, HostCompleted, LeConnectionUpdate, LeEnableEncryption, LeKeyNegative, LeKeyReply, LeParamNegative, LeParamReply, LeReadRemoteFeatures, LeSetChannels, LeSetDataLength, LeSetPhy, ReadRemoteVersion, Reset}
use Rattle.hci_cmd.specs.declared.command.CmdRead.{CmdRead}
use Rattle.hci_cmd.specs.declared.command.CmdRead.TheVariants.{Known, UnknownOpcode, BadLength}
use Rattle.hci_cmd.specs.Command.{command_of}
use Rattle.procedure_events.specs.procedure_stages.declared.steps.Effect.TheVariants.{Nothing}
use Rattle.host_view.specs.View.{View}
use Rattle.host_view.specs.Changes.{after_counts, on_link, view_after}
use Rattle.host_view.specs.declared.links.Link.{Link}
use Rattle.host_view.specs.OnLinks.{asks_links}
use Rattle.host_view.specs.Status.{status_of}
use Rattle.link_model.specs.Facts.{Facts as EndFacts}
use Rattle.controller_model.specs.open_links.declared.offers.Offer.{Offer}
use Rattle.controller_model.specs.open_links.declared.offers.Offer.TheVariants.{NoLink, Empty, Overflow, Kept}
use Rattle.controller_model.specs.open_links.OpenLinks.{HaveHandles, Links, OpenLink, facts_in}
use Rattle.controller_model.proofs.open_links.UnderHandles.{map_at}
use Rattle.host_asks.specs.Views.{KnowsAt, leaves_other_links}
use Rattle.host_asks.proofs.EndsViewed.{changed_known, handed_known, other_known}
use Rattle.host_asks.proofs.OpenLinksKnown.{IsKnownAt, link_known}
use Rattle.controller_model.specs.Facts.{Setup, Facts}
use Rattle.controller_model.specs.Commands.{facts_accepted, facts_asking, facts_commanded, facts_known, links_after, moment_of}
use Rattle.controller_model.specs.Data.{facts_offered, offer_of}
use Rattle.controller_model.specs.Host.{commands_accepted_by, commands_accepted_in}
use Rattle.controller_model.specs.Side.{facts_after, facts_fed, result_of}
use Rattle.controller_model.specs.Step.{HostOctet}
use Rattle.controller_model.proofs.Always.{facts_given}
use Rattle.known_ends.proofs.TurnsKnown.{given_known, known_at, known_under}

-- ---- a command that is accepted has status 0

abbrev first_of : Command → List Command → Command
first_of other [] = other
first_of other (command ∷ commands) = command

accepted_by : (facts : Facts) (read : CmdRead) (command : Command) → commands_accepted_by facts read ≡ command ∷ []
    → status_of facts.view command ≡ 0
accepted_by facts (Known given) command is = by (status_of facts.view given == 0) refl is
  where
    by : (accepted : Bool) → (status_of facts.view given == 0) ≡ accepted → (if accepted then given ∷ [] else []) ≡ command ∷ []
        → status_of facts.view command ≡ 0
    by true ok is =
        subst (λ (c : Command). status_of facts.view c ≡ 0) (ap (first_of given) is) (eqb-true (status_of facts.view given) 0 ok)
    by false ok is = absurd cc
accepted_by facts UnknownOpcode command is = absurd cc
accepted_by facts BadLength command is = absurd cc

pub accepted_in : (facts : Facts) (fed : Fed) (command : Command) → commands_accepted_in facts fed ≡ command ∷ [] → status_of facts.view command ≡ 0
accepted_in facts (Packet (HostCommand opcode body)) command is = accepted_by facts (command_of opcode body.items) command is
accepted_in facts (Packet (Acl handle start count body)) command is = absurd cc
accepted_in facts LostSync command is = absurd cc
accepted_in facts More command is = absurd cc

-- ---- a command that asks nothing of links

-- the host took this number of packets of a link
abbrev taking : ℕ → Link → Link
taking count link = record link { outstanding = link.outstanding - count }

counts_known : (view : View) (counts : List HandleCount) (handle : ℕ) (facts : EndFacts) → KnowsAt view handle facts
    → KnowsAt (record view { links = after_counts view.links counts }) handle facts
counts_known view [] handle facts known = known
counts_known view (pair ∷ counts) handle facts known =
    counts_known (on_link pair.handle (taking pair.count) view) counts handle facts
    (changed_known Nothing view pair.handle handle facts (taking pair.count) (λ link knows. handed_known link facts (link.outstanding - pair.count) knows) known)

completed_known : (on : Bool) (view : View) (counts : List HandleCount) (handle : ℕ) (facts : EndFacts) → KnowsAt view handle facts
    → KnowsAt (if on then record view { links = after_counts view.links counts } else view) handle facts
completed_known true view counts handle facts known = counts_known view counts handle facts known
completed_known false view counts handle facts known = known

-- the ends stay as they are
still_known : (before after : View) (links : Links) (handle : ℕ) → ((facts : EndFacts) → KnowsAt before handle facts → KnowsAt after handle facts)
    → IsKnownAt before links handle → IsKnownAt after links handle
still_known before after links handle keeps known = λ link is lasts. keeps (facts_in link) (known link is lasts)

unasked_known : (view : View) (command : Command) (links : Links) (handle : ℕ) → asks_links view command ≡ false
    → IsKnownAt view links handle → IsKnownAt (view_after view command) (links_after command links) handle
unfolding view_after
unasked_known view Reset links handle none known =
    λ link is lasts. absurd (let h : None ≡ Some link = sym (map_at (λ (place : Option OpenLink). None) 0 handle links refl) ∙ is in cc)
unasked_known view (HostCompleted counts) links handle none known = still_known view _ links handle (completed_known view.flow.on view counts.items handle) known
unasked_known view (LeSetChannels map) links handle none known = absurd (cc)
unasked_known view (LeEnableEncryption given rand ediv key) links handle none known = absurd (cc)
unasked_known view (LeKeyReply given key) links handle none known = absurd (cc)
unasked_known view (LeKeyNegative given) links handle none known = absurd (cc)
unasked_known view (Disconnect given reason) links handle none known = absurd (cc)
unasked_known view (ReadRemoteVersion given) links handle none known = absurd (cc)
unasked_known view (LeReadRemoteFeatures given) links handle none known = absurd (cc)
unasked_known view (LeSetDataLength given most time) links handle none known = absurd (cc)
unasked_known view (LeConnectionUpdate given min max latency timeout lengths) links handle none known = absurd (cc)
unasked_known view (LeSetPhy given all tx rx options) links handle none known = absurd (cc)
unasked_known view (LeParamReply given min max latency timeout lengths) links handle none known = absurd (cc)
unasked_known view (LeParamNegative given reason) links handle none known = absurd (cc)
unasked_known view other links handle none known = still_known view _ links handle (λ facts known. other_known view other handle facts refl refl known) known

-- ---- any command

leaves_others : (view : View) (command : Command) → asks_links view command ≡ true → leaves_other_links command ≡ true
leaves_others view Reset asks = absurd (cc)
leaves_others view (HostCompleted counts) asks = absurd (cc)
leaves_others view other asks = refl

module _ (setup : Setup) (handle : ℕ) where
  abbrev KnowsEnd : Facts → Type 0
  KnowsEnd facts = IsKnownAt facts.view facts.links handle

  accepted_known : (facts : Facts) (command : Command) → status_of facts.view command ≡ 0 → (asks : Bool) → asks_links facts.view command ≡ asks
      → HaveHandles 0 facts.links → KnowsEnd facts → KnowsEnd (facts_asking asks setup facts command (facts_accepted setup facts command))
  accepted_known facts command ok true asks have known =
      link_known facts.view command (moment_of setup facts) facts.links ok (leaves_others facts.view command asks) have handle known
  accepted_known facts command ok false none have known = unasked_known facts.view command facts.links handle none known

  read_known : (read : CmdRead) (facts : Facts) → HaveHandles 0 facts.links → KnowsEnd facts → KnowsEnd (facts_commanded setup facts read)
  read_known (Known command) facts have known = by (status_of facts.view command == 0) refl
    where
      by : (accepted : Bool) → (status_of facts.view command == 0) ≡ accepted
          → KnowsEnd (facts_asking (accepted && asks_links facts.view command) setup facts command (facts_known accepted setup facts command))
      by true is = accepted_known facts command (eqb-true (status_of facts.view command) 0 is) (asks_links facts.view command) refl have known
      by false is = known
  read_known UnknownOpcode facts have known = known
  read_known BadLength facts have known = known

  offered_known : (offer : Offer) (given : ℕ) (start : Bool) (octets : List ℕ) (facts : Facts) → HaveHandles 0 facts.links → KnowsEnd facts
      → KnowsEnd (facts_offered offer given start octets facts)
  offered_known Kept given start octets facts have known =
      known_at handle (facts_given given start octets facts) (given_known handle given start octets facts (known_under handle facts have known))
  offered_known NoLink given start octets facts have known = known
  offered_known Empty given start octets facts have known = known
  offered_known Overflow given start octets facts have known = known

  fed_known : (fed : Fed) (facts : Facts) → HaveHandles 0 facts.links → KnowsEnd facts → KnowsEnd (facts_fed setup facts fed)
  fed_known (Packet (HostCommand opcode body)) facts have known = read_known (command_of opcode body.items) facts have known
  fed_known (Packet (Acl given start count body)) facts have known =
      offered_known (offer_of setup facts given count) given start body.items facts have known
  fed_known LostSync facts have known = known
  fed_known More facts have known = known

  pub octet_known : (facts : Facts) (octet : ℕ) → HaveHandles 0 facts.links → KnowsEnd facts → KnowsEnd (facts_after setup facts (HostOctet octet))
  octet_known facts octet have known = fed_known (result_of facts.octets octet) facts have known

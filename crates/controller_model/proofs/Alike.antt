-- Controllers with the same view and links that drew as many words answer a host alike.
use Rattle.std.proofs.Common.{◌≡◌, ℕ, ◌==◌, Bool, true, false, List, [], ◌∷◌, ◌++◌, cond, refl, ap, sym, ◌∙◌, subst}
use Rattle.std.specs.Prelude.{◌||◌}
use Rattle.ble_base.specs.declared.notes.Note.{Note}
use Rattle.h4_frames.specs.declared.packet.HostPacket.TheVariants.{Command as HostCommand, Acl}
use Rattle.h4_frames.specs.declared.packet.Fed.{Fed}
use Rattle.h4_frames.specs.declared.packet.Fed.TheVariants.{More, Packet, LostSync}
use Rattle.hci_cmd.specs.declared.command.Command.{Command}
use Rattle.hci_cmd.specs.declared.command.Command.TheVariants.{HostCompleted, Reset, LeRand, LeCreateCancel}
use Rattle.hci_cmd.specs.declared.command.CmdRead.{CmdRead}
use Rattle.hci_cmd.specs.declared.command.CmdRead.TheVariants.{Known, UnknownOpcode, BadLength}
use Rattle.hci_cmd.specs.Command.{command_of}
use Rattle.hci_evt.specs.declared.event.Event.{Event}
use Rattle.host_view.specs.View.{View}
use Rattle.host_view.specs.Changes.{view_after}
use Rattle.host_view.specs.Status.{status_of}
use Rattle.link_commands.specs.open_links.Data.{buffers_taken, links_given}
use Rattle.link_commands.specs.open_links.OpenLinks.{Links, link_at}
use Rattle.link_commands.specs.LinksCommanded.{links_commanded, view_commanded_on}
use Rattle.controller_model.specs.Facts.{Setup, Facts, first_facts}
use Rattle.controller_model.specs.Answers.{accepted_answer, answer_with, complete_answer, has_status_answer, refused_fields, returned, status_answer}
use Rattle.controller_model.specs.Commands.{drawn_after, events_caused, facts_asking, facts_commanded, facts_known, is_asking, links_after, moment_of, notes_asking, notes_before, notes_commanded, notes_known}
use Rattle.link_commands.specs.open_links.declared.offers.Offer.{Offer}
use Rattle.link_commands.specs.open_links.declared.offers.Offer.TheVariants.{NoLink, Empty, Overflow, Kept}
use Rattle.link_commands.specs.open_links.Data.{offer_by}
use Rattle.controller_model.specs.Data.{facts_offered, offer_of}
use Rattle.controller_model.specs.Events.{notes_of_events}
use Rattle.controller_model.specs.Side.{facts_fed, notes_fed}

pub record Alike (one other : Facts) : Type 0 where
  pub view_is : one.view ≡ other.view
  pub drawn_is : one.drawn ≡ other.drawn
  pub links_are : one.links ≡ other.links

-- ---- what they note

-- the facts that answers depend on, and no others
abbrev plain : Setup → View → ℕ → Links → Facts
plain setup view drawn links = record (first_facts setup) { view = view; drawn = drawn; links = links }

abbrev plain_of : Setup → Facts → Facts
plain_of setup facts = plain setup facts.view facts.drawn facts.links

returned_plain : (setup : Setup) (facts : Facts) (command : Command) → returned setup facts command ≡ returned setup (plain_of setup facts) command
returned_plain setup facts LeRand = refl
returned_plain setup facts other = refl

accepted_plain : (setup : Setup) (facts : Facts) (opcode : ℕ) (command : Command)
    → accepted_answer setup facts opcode command ≡ accepted_answer setup (plain_of setup facts) opcode command
accepted_plain setup facts opcode (HostCompleted counts) = refl
accepted_plain setup facts opcode other =
    ap (λ (octets : List ℕ). complete_answer 0x00 opcode octets ∷ []) (returned_plain setup facts other)

answer_plain : (setup : Setup) (facts : Facts) (opcode status : ℕ) (command : Command)
    → answer_with setup facts opcode command status ≡ answer_with setup (plain_of setup facts) opcode command status
answer_plain setup facts opcode status command =
    ap (λ (events : List Event). cond ((status == 0x01) || has_status_answer opcode) (status_answer status opcode ∷ [])
    (cond (status == 0x00) events (complete_answer status opcode (refused_fields command) ∷ [])))
    (accepted_plain setup facts opcode command)

before_plain : (setup : Setup) (facts : Facts) (command : Command) → notes_before facts command ≡ notes_before (plain_of setup facts) command
before_plain setup facts Reset = refl
before_plain setup facts other = refl

caused_plain : (setup : Setup) (facts : Facts) (command : Command) → events_caused facts command ≡ events_caused (plain_of setup facts) command
caused_plain setup facts LeCreateCancel = refl
caused_plain setup facts other = refl

known_plain : (accepted : Bool) (setup : Setup) (facts : Facts) (opcode : ℕ) (command : Command)
    → notes_known accepted setup facts opcode command ≡ notes_known accepted setup (plain_of setup facts) opcode command
known_plain false setup facts opcode command =
    ap (notes_of_events facts.view) (answer_plain setup facts opcode (status_of facts.view command) command)
known_plain true setup facts opcode command =
    λ i. before_plain setup facts command i
    ++ notes_of_events facts.view (answer_plain setup facts opcode (status_of facts.view command) command i)
    ++ notes_of_events facts.view (caused_plain setup facts command i)

asking_plain : (asks : Bool) (setup : Setup) (facts : Facts) (command : Command) (notes : List Note)
    → notes_asking asks facts command notes ≡ notes_asking asks (plain_of setup facts) command notes
asking_plain true setup facts command notes = refl
asking_plain false setup facts command notes = refl

read_plain : (setup : Setup) (facts : Facts) (opcode : ℕ) (read : CmdRead)
    → notes_commanded setup facts opcode read ≡ notes_commanded setup (plain_of setup facts) opcode read
read_plain setup facts opcode (Known command) =
    let asks = is_asking facts.view command in
    ap (notes_asking asks facts command) (known_plain (status_of facts.view command == 0) setup facts opcode command)
    ∙ asking_plain asks setup facts command (notes_known (status_of facts.view command == 0) setup (plain_of setup facts) opcode command)
read_plain setup facts opcode UnknownOpcode = refl
read_plain setup facts opcode BadLength = refl

fed_plain : (setup : Setup) (facts : Facts) (fed : Fed) → notes_fed setup facts fed ≡ notes_fed setup (plain_of setup facts) fed
fed_plain setup facts (Packet (HostCommand opcode body)) = read_plain setup facts opcode (command_of opcode body.items)
fed_plain setup facts (Packet (Acl handle start count body)) = refl
fed_plain setup facts LostSync = refl
fed_plain setup facts More = refl

pub notes_alike : (setup : Setup) (one other : Facts) (fed : Fed) → Alike one other → notes_fed setup one fed ≡ notes_fed setup other fed
notes_alike setup one other fed alike =
    fed_plain setup one fed
    ∙ (λ i. notes_fed setup (plain setup (alike.view_is i) (alike.drawn_is i) (alike.links_are i)) fed)
    ∙ sym (fed_plain setup other fed)

-- ---- and they are alike after that

known_alike : (accepted : Bool) (setup : Setup) (one other : Facts) (command : Command) → Alike one other
    → Alike (facts_known accepted setup one command) (facts_known accepted setup other command)
known_alike true setup one other command alike = record {
  view_is = ap (λ (view : View). view_after view command) alike.view_is;
  drawn_is = ap (drawn_after command) alike.drawn_is;
  links_are = ap (links_after command) alike.links_are;
}
known_alike false setup one other command alike = alike

-- commands ask the same of their links
abbrev AskAlike : Setup → Facts → Facts → Type 0
AskAlike setup one other =
    (command : Command)
    → links_commanded command (moment_of setup one) one.links ≡ links_commanded command (moment_of setup other) other.links

asking_alike : (asks : Bool) (setup : Setup) (one other left right : Facts) (command : Command) → AskAlike setup one other → Alike one other
    → Alike left right → Alike (facts_asking asks setup one command left) (facts_asking asks setup other command right)
asking_alike true setup one other left right command same alike after = record {
  view_is = λ i. view_commanded_on (alike.view_is i) command (alike.links_are i);
  drawn_is = after.drawn_is;
  links_are = same command;
}
asking_alike false setup one other left right command same alike after = after

read_alike : (setup : Setup) (one other : Facts) (read : CmdRead) → AskAlike setup one other → Alike one other
    → Alike (facts_commanded setup one read) (facts_commanded setup other read)
read_alike setup one other (Known command) same alike =
    subst (λ (view : View). Alike (facts_commanded setup one (Known command))
    (facts_asking (is_asking view command) setup other command (facts_known (status_of view command == 0) setup other command)))
    alike.view_is
    (asking_alike (is_asking one.view command) setup one other _ _ command same alike
    (known_alike (status_of one.view command == 0) setup one other command alike))
read_alike setup one other UnknownOpcode same alike = alike
read_alike setup one other BadLength same alike = alike

offer_same : (setup : Setup) (one other : Facts) (handle count : ℕ) → Alike one other
    → offer_of setup one handle count ≡ offer_of setup other handle count
offer_same setup one other handle count alike =
    ap (λ (links : Links). offer_by (link_at handle links) count (buffers_taken links == setup.host_buffers)) alike.links_are

offered_alike : (offer : Offer) (handle : ℕ) (start : Bool) (octets : List ℕ) (one other : Facts) → Alike one other
    → Alike (facts_offered offer handle start octets one) (facts_offered offer handle start octets other)
offered_alike Kept handle start octets one other alike = record {
  view_is = alike.view_is;
  drawn_is = alike.drawn_is;
  links_are = ap (links_given handle start octets) alike.links_are;
}
offered_alike NoLink handle start octets one other alike = alike
offered_alike Empty handle start octets one other alike = alike
offered_alike Overflow handle start octets one other alike = alike

pub fed_alike : (setup : Setup) (one other : Facts) (fed : Fed) → AskAlike setup one other → Alike one other
    → Alike (facts_fed setup one fed) (facts_fed setup other fed)
fed_alike setup one other (Packet (HostCommand opcode body)) same alike = read_alike setup one other (command_of opcode body.items) same alike
fed_alike setup one other (Packet (Acl handle start count body)) same alike =
    subst (λ (offer : Offer). Alike (facts_offered (offer_of setup one handle count) handle start body.items one)
    (facts_offered offer handle start body.items other)) (offer_same setup one other handle count alike)
    (offered_alike (offer_of setup one handle count) handle start body.items one other alike)
fed_alike setup one other LostSync same alike = alike
fed_alike setup one other More same alike = alike

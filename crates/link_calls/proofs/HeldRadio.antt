-- What holds the radio of a controller, after each call: a link holds it from the anchor of its event on.
use Rattle.std.proofs.Common.{◌≡◌, ℕ, ◌==◌, Bool, true, false, Option, Some, None, List, [], ◌∷◌, refl, sym, subst}
use Rattle.std.specs.Prelude.{fold, if◌then◌else◌}
use Rattle.ble_base.specs.declared.roles.Role.{Role}
use Rattle.ble_base.specs.declared.roles.Role.TheVariants.{Central, Peripheral}
use Rattle.hci_cmd.specs.declared.command.Command.{Command}
use Rattle.hci_cmd.specs.declared.command.Command.TheVariants.{LeSetAdvEnable, Reset}
use Rattle.hci_cmd.specs.declared.command.CmdRead.{CmdRead}
use Rattle.hci_cmd.specs.declared.command.CmdRead.TheVariants.{Known, UnknownOpcode, BadLength}
use Rattle.hci_cmd.specs.Command.{command_of}
use Rattle.h4_frames.specs.declared.packet.HostPacket.TheVariants.{Command as HostCommand, Acl}
use Rattle.h4_frames.specs.declared.packet.Fed.{Fed}
use Rattle.h4_frames.specs.declared.packet.Fed.TheVariants.{More, Packet, LostSync}
use Rattle.run_laws.specs.host_view.Status.{status_of}
use Rattle.run_laws.specs.link_model.declared.setup.LinkSetup.{LinkSetup}
use Rattle.run_laws.specs.open_links.declared.ended.LinkEnded.{LinkEnded}
use Rattle.run_laws.specs.open_links.declared.offers.Offer.{Offer}
use Rattle.run_laws.specs.open_links.declared.offers.Offer.TheVariants.{NoLink, Empty, Overflow, Kept}
use Rattle.run_laws.specs.open_links.OpenLinks.{Links, link_at}
use Rattle.run_laws.specs.open_links.Turns.{due_in, ending_in}
use Rattle.slot_plan.specs.declared.Activity.{Activity}
use Rattle.slot_plan.specs.declared.Activity.TheVariants.{Link, Advertise, Scan, Initiate}
use Rattle.slot_plan.specs.declared.plan.Hold.{Hold}
use Rattle.slot_plan.specs.Holding.{is_held_in, winner_of}
use Rattle.run_laws.specs.controller_model.Commands.{facts_asking, facts_commanded, facts_known, is_asking, radio_after, radio_unadvertised}
use Rattle.run_laws.specs.controller_model.Data.{facts_handed, facts_offered, offer_of}
use Rattle.run_laws.specs.controller_model.Facts.{Facts, Radio, Setup, free_radio}
use Rattle.run_laws.specs.controller_model.Heard.{link_taken, opens}
use Rattle.run_laws.specs.controller_model.Links.{ends_for, facts_ending, facts_shut, is_link, stopped}
use Rattle.run_laws.specs.controller_model.Outcome.{facts_passed}
use Rattle.run_laws.specs.controller_model.Radio.{facts_entering, facts_won, plan_in, radio_held, radio_served, served, span_at, turn_begins, winner_served}
use Rattle.run_laws.specs.controller_model.Side.{facts_after, facts_fed, result_of}
use Rattle.run_laws.specs.controller_model.Step.{HostOctet, TurnBegins, TurnEnds}
use Rattle.run_laws.proofs.controller_model.Phases.{EachOutcome, heard_is, unheard_is}
use Rattle.run_laws.specs.run_model.Run.{step_of}

-- ---- the radio is held by the same link, or by none

pub record IsSameHold (before : Radio) (hold : Hold) (handle : ℕ) : Type 0 where
  pub hold_is : before.hold ≡ Some hold
  pub holder_is : before.holder ≡ Link handle

abbrev pub Keeps : Radio → Radio → Type 0
Keeps before after = (hold : Hold) (handle : ℕ) → after.hold ≡ Some hold → after.holder ≡ Link handle → IsSameHold before hold handle

pub keeps_same : (radio : Radio) → Keeps radio radio
keeps_same radio = λ hold handle is holder. record { hold_is = is; holder_is = holder }

keeps_free : (radio : Radio) → Keeps radio free_radio
keeps_free radio = λ hold handle is holder. absurd (let h : None ≡ Some hold = is in absurd cc)

pub keeps_then : (first second third : Radio) → Keeps first second → Keeps second third → Keeps first third
keeps_then first second third one next = λ hold handle is holder.
    let was = next hold handle is holder in one hold handle was.hold_is was.holder_is

-- ---- an octet of the host

unadvertised : (activity : Activity) (radio : Radio) → Keeps radio (radio_unadvertised activity radio)
unadvertised (Link handle) radio = keeps_same radio
unadvertised Advertise radio = keeps_free radio
unadvertised Scan radio = keeps_same radio
unadvertised Initiate radio = keeps_same radio

enabled : (on : Bool) (radio : Radio) → Keeps radio (if on then radio else radio_unadvertised radio.holder radio)
enabled true radio = keeps_same radio
enabled false radio = unadvertised radio.holder radio

command_keeps : (command : Command) (radio : Radio) → Keeps radio (radio_after command radio)
command_keeps Reset radio = keeps_free radio
command_keeps (LeSetAdvEnable value) radio = enabled (value == 1) radio
command_keeps other radio = keeps_same radio

known_keeps : (accepted : Bool) (setup : Setup) (facts : Facts) (command : Command) → Keeps facts.radio (facts_known accepted setup facts command).radio
known_keeps true setup facts command = command_keeps command facts.radio
known_keeps false setup facts command = keeps_same facts.radio

asking_keeps : (asks : Bool) (setup : Setup) (facts : Facts) (command : Command) (known : Facts) → Keeps facts.radio known.radio
    → Keeps facts.radio (facts_asking asks setup facts command known).radio
asking_keeps true setup facts command known keeps = keeps
asking_keeps false setup facts command known keeps = keeps

read_keeps : (setup : Setup) (facts : Facts) (read : CmdRead) → Keeps facts.radio (facts_commanded setup facts read).radio
read_keeps setup facts (Known command) =
    asking_keeps (is_asking facts.view command) setup facts command (facts_known (status_of facts.view command == 0) setup facts command)
    (known_keeps (status_of facts.view command == 0) setup facts command)
read_keeps setup facts UnknownOpcode = keeps_same facts.radio
read_keeps setup facts BadLength = keeps_same facts.radio

offered_keeps : (offer : Offer) (handle : ℕ) (start : Bool) (octets : List ℕ) (facts : Facts) → Keeps facts.radio (facts_offered offer handle start octets facts).radio
offered_keeps Kept handle start octets facts = keeps_same facts.radio
offered_keeps NoLink handle start octets facts = keeps_same facts.radio
offered_keeps Empty handle start octets facts = keeps_same facts.radio
offered_keeps Overflow handle start octets facts = keeps_same facts.radio

fed_keeps : (setup : Setup) (facts : Facts) (fed : Fed) → Keeps facts.radio (facts_fed setup facts fed).radio
fed_keeps setup facts (Packet (HostCommand opcode body)) = read_keeps setup facts (command_of opcode body.items)
fed_keeps setup facts (Packet (Acl handle start count body)) = offered_keeps (offer_of setup facts handle count) handle start body.items facts
fed_keeps setup facts LostSync = keeps_same facts.radio
fed_keeps setup facts More = keeps_same facts.radio

pub octet_keeps : (setup : Setup) (facts : Facts) (octet : ℕ) → Keeps facts.radio (facts_after setup facts (HostOctet octet)).radio
octet_keeps setup facts octet = fed_keeps setup facts (result_of facts.octets octet)

-- ---- a phase

opened_keeps : (role : Role) (radio : Radio) (facts : Facts) → facts.radio ≡ radio → Keeps radio (stopped role facts).radio
opened_keeps Central radio facts is = subst (Keeps radio) (sym is) (keeps_same radio)
opened_keeps Peripheral radio facts is = keeps_free radio

opens_keeps : (link : LinkSetup) (facts : Facts) → Keeps facts.radio (facts_passed (opens link facts)).radio
opens_keeps link facts = opened_keeps link.role facts.radio _ refl

outcomes_keep : (setup : Setup) (facts : Facts) → EachOutcome setup facts (λ outcome. Keeps facts.radio (facts_passed outcome).radio)
outcomes_keep setup facts = record {
  rests = keeps_same facts.radio;
  awaits_request = λ channel doing. keeps_same facts.radio;
  awaits_response = λ channel advertiser doing. keeps_same facts.radio;
  central_listens = λ handle doing. keeps_same facts.radio;
  sent = λ channel link doing. opens_keeps link facts;
  responds = λ channel on doing is_on. keeps_same facts.radio;
  taken = λ channel octets pdu on fields handle is_on hears takes free. opens_keeps (link_taken facts.view on.params.own pdu fields handle) facts;
  scanned = λ channel octets pdu on doing is_on hears. keeps_same facts.radio;
  answered = λ channel octets pdu on doing is_on hears. keeps_same facts.radio;
  connects = λ channel octets pdu on access handle doing is_on hears answers next free in_range. keeps_same facts.radio;
  received = λ handle octets. keeps_same facts.radio;
}

pub phase_keeps : (setup : Setup) (facts : Facts) (received : Option (List ℕ)) → Keeps facts.radio (facts_after setup facts (step_of received)).radio
phase_keeps setup facts None = unheard_is setup facts _ (outcomes_keep setup facts) facts.turn.doing refl
phase_keeps setup facts (Some octets) =
    heard_is setup facts (λ outcome. Keeps facts.radio (facts_passed outcome).radio) (outcomes_keep setup facts) facts.turn.doing octets refl
    (λ handle. keeps_same facts.radio)

-- ---- links end

without_keeps : (ends : Bool) (radio : Radio) → Keeps radio (if ends then free_radio else radio)
without_keeps true radio = keeps_free radio
without_keeps false radio = keeps_same radio

shuts_keep : (ends : List LinkEnded) (facts : Facts) → Keeps facts.radio (fold facts_shut facts ends).radio
shuts_keep [] facts = keeps_same facts.radio
shuts_keep (ended ∷ ends) facts =
    keeps_then facts.radio (facts_shut facts ended).radio (fold facts_shut (facts_shut facts ended) ends).radio
    (without_keeps (is_link ended.handle facts.radio.holder) facts.radio) (shuts_keep ends (facts_shut facts ended))

-- as a turn begins
pub ending_keeps : (slot : ℕ) (facts : Facts) → Keeps facts.radio (facts_ending slot facts).radio
ending_keeps slot facts = shuts_keep (ends_for (due_in slot) facts) _

-- and as one ends
pub end_keeps : (setup : Setup) (facts : Facts) → Keeps facts.radio (facts_after setup facts TurnEnds).radio
end_keeps setup facts = shuts_keep (ends_for ending_in (facts_handed facts)) _

-- ---- what wins a slot

-- it stays held, or the link that wins the slot holds it from there on
pub data IsBegunSo (slot : ℕ) (winner : Option Activity) (links : Links) (before after : Radio) : Type 0 where
  Stays : Keeps before after → IsBegunSo slot winner links before after
  Holds : (handle : ℕ) → winner ≡ Some (Link handle) → after ≡ radio_held (Link handle) slot (span_at (link_at handle links)) → IsBegunSo slot winner links before after

won_so : (slot : ℕ) (activity : Activity) (facts : Facts) → IsBegunSo slot (Some activity) facts.links facts.radio (facts_won slot activity facts).radio
won_so slot (Link handle) facts = Holds handle refl refl
won_so slot Advertise facts = Stays (λ hold handle is holder. absurd (let h : Advertise ≡ Link handle = holder in absurd cc))
won_so slot Scan facts = Stays (keeps_same facts.radio)
won_so slot Initiate facts = Stays (keeps_same facts.radio)

winner_so : (slot : ℕ) (winner : Option Activity) (facts : Facts) → IsBegunSo slot winner facts.links facts.radio (winner_served slot winner facts).facts.radio
winner_so slot None facts = Stays (keeps_same facts.radio)
winner_so slot (Some activity) facts = won_so slot activity facts

radio_so : (held : Bool) (slot : ℕ) (winner : Option Activity) (facts : Facts) → IsBegunSo slot winner facts.links facts.radio (radio_served held slot winner facts).facts.radio
radio_so true slot winner facts = Stays (keeps_same facts.radio)
radio_so false slot winner facts = winner_so slot winner facts

served_so : (on : Bool) (slot : ℕ) (winner : Option Activity) (facts : Facts) → IsBegunSo slot winner facts.links facts.radio (served on slot winner facts).facts.radio
served_so false slot winner facts = Stays (keeps_same facts.radio)
served_so true slot winner facts = radio_so (is_held_in facts.radio.hold slot) slot winner facts

pub begins_so : (setup : Setup) (slot : ℕ) (on : Bool) (facts : Facts)
    → IsBegunSo slot (winner_of (plan_in slot (turn_begins slot (facts_ending slot facts))) slot) (facts_entering slot (turn_begins slot (facts_ending slot facts))).links
    (facts_ending slot facts).radio (facts_after setup facts (TurnBegins slot on)).radio
begins_so setup slot on facts =
    let begun = turn_begins slot (facts_ending slot facts) in
    served_so on slot (winner_of (plan_in slot begun) slot) (facts_entering slot begun)

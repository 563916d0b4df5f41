-- What a controller holds of flow control towards its host is what its host has set, by the commands that it answered.
use Rattle.std.proofs.Common.{◌≡◌, ℕ, ◌==◌, Bool, true, false, List, [], ◌∷◌, ◌++◌, refl, sym, ap, subst, ◌∙◌, append-nil, if◌then◌else◌}
use Rattle.std.specs.Prelude.{fold}
use Rattle.std.proofs.lemmas.List.Concat.{flat_map-append}
use Rattle.std.proofs.lemmas.List.Sums.{fold-append}
use Rattle.h4_frames.specs.declared.packet.HostPacket.TheVariants.{Command as HostCommand, Acl}
use Rattle.h4_frames.specs.declared.packet.Fed.{Fed}
use Rattle.h4_frames.specs.declared.packet.Fed.TheVariants.{More, Packet, LostSync}
use Rattle.hci_cmd.specs.declared.command.Command.{Command}
use Rattle.hci_cmd.specs.declared.command.Command.TheVariants.{HostCompleted, Reset, SetHostFlow, HostBufferSize}
use Rattle.hci_cmd.specs.declared.command.CmdRead.{CmdRead}
use Rattle.hci_cmd.specs.declared.command.CmdRead.TheVariants.{Known, UnknownOpcode, BadLength}
use Rattle.hci_cmd.specs.Command.{command_of}
use Rattle.host_view.specs.View.{View, first_flow}
use Rattle.host_view.specs.Changes.{view_after}
use Rattle.host_view.specs.Status.{status_of}
use Rattle.host_view.specs.declared.view.HostFlow.{HostFlow}
use Rattle.run_model.specs.controller_model.open_links.declared.offers.Offer.{Offer}
use Rattle.run_model.specs.controller_model.open_links.declared.offers.Offer.TheVariants.{NoLink, Empty, Overflow, Kept}
use Rattle.run_model.specs.controller_model.Step.{Step, HostOctet, TurnBegins, PacketHeard, NothingHeard, TurnEnds}
use Rattle.run_model.specs.controller_model.Facts.{Setup, Facts, first_facts}
use Rattle.run_model.specs.controller_model.Commands.{facts_accepted, facts_commanded, facts_known}
use Rattle.run_model.specs.controller_model.Data.{facts_offered, offer_of}
use Rattle.run_model.specs.controller_model.Heard.{link_taken}
use Rattle.run_model.specs.controller_model.Host.{commands_accepted, commands_accepted_after, commands_accepted_by, commands_accepted_from, commands_accepted_in}
use Rattle.run_model.specs.controller_model.Side.{facts_after, facts_fed, facts_of, result_of}
use Rattle.run_model.proofs.controller_model.Accepted.{same_after_counts}
use Rattle.run_model.proofs.controller_model.Always.{IsInTurn, IsKeptInTurns, opening_passes, turn_keeps}
use Rattle.run_model.proofs.controller_model.Asked.{of_asking}
use Rattle.run_model.proofs.controller_model.Following.{receiving_passes}
use Rattle.run_model.specs.Feeding.{HasNoted, is_note}
use Rattle.run_model.specs.History.{Event, past_of}
use Rattle.run_model.specs.Journal.{journal_of, side_of}
use Rattle.run_model.specs.Run.{Given, facts_at, history_of, run_of, setup_at}
use Rattle.run_model.proofs.Notes.{NotedBefore, run_noted}
use Rattle.run_model.proofs.Places.{each_at}
use Rattle.run_model.proofs.Stations.{is_in}
use Rattle.host_answers.specs.Calls.{answered_after, answered_command, answered_commands, answered_of}
use Rattle.host_answers.specs.Flows.{flow_after, flow_on}
use Rattle.host_answers.proofs.LineAnswers.{accepted_so_far}

abbrev Holds : HostFlow → Facts → Type 0
Holds flow facts = facts.view.flow ≡ flow

-- after these commands, from a flow before
abbrev HoldsBy : HostFlow → List Command → Facts → Type 0
HoldsBy flow commands facts = Holds (fold flow_after flow commands) facts

-- ---- an accepted command

-- one that has no answer changes nothing of it
accepted_set : (setup : Setup) (facts : Facts) (flow : HostFlow) (command : Command) → Holds flow facts
    → HoldsBy flow (answered_command command) (facts_accepted setup facts command)
unfolding view_after
accepted_set setup facts flow (HostCompleted counts) holds = same_after_counts (λ (view : View). view.flow) facts.view counts refl ∙ holds
accepted_set setup facts flow Reset holds = refl
accepted_set setup facts flow (SetHostFlow value) holds = ap (λ (held : HostFlow). flow_after held (SetHostFlow value)) holds
accepted_set setup facts flow (HostBufferSize acl_length sco_length acl_count sco_count) holds =
    ap (λ (held : HostFlow). flow_after held (HostBufferSize acl_length sco_length acl_count sco_count)) holds
accepted_set setup facts flow command holds = holds

known_set : (took : Bool) (setup : Setup) (facts : Facts) (flow : HostFlow) (command : Command) → Holds flow facts
    → HoldsBy flow (answered_commands (if took then command ∷ [] else [])) (facts_known took setup facts command)
known_set true setup facts flow command holds =
    subst (λ commands. HoldsBy flow commands (facts_accepted setup facts command)) (sym (append-nil (answered_command command)))
    (accepted_set setup facts flow command holds)
known_set false setup facts flow command holds = holds

-- what it asks of links changes nothing of it
read_set : (setup : Setup) (facts : Facts) (flow : HostFlow) (read : CmdRead) → Holds flow facts
    → HoldsBy flow (answered_commands (commands_accepted_by facts read)) (facts_commanded setup facts read)
read_set setup facts flow (Known command) holds =
    of_asking setup facts command (HoldsBy flow (answered_commands (commands_accepted_by facts (Known command))))
    (known_set (status_of facts.view command == 0) setup facts flow command holds) (λ asks set. set)
read_set setup facts flow UnknownOpcode holds = holds
read_set setup facts flow BadLength holds = holds

offered_set : (offer : Offer) (handle : ℕ) (start : Bool) (octets : List ℕ) (facts : Facts) (flow : HostFlow) → Holds flow facts
    → Holds flow (facts_offered offer handle start octets facts)
offered_set Kept handle start octets facts flow holds = holds
offered_set NoLink handle start octets facts flow holds = holds
offered_set Empty handle start octets facts flow holds = holds
offered_set Overflow handle start octets facts flow holds = holds

fed_set : (setup : Setup) (facts : Facts) (flow : HostFlow) (fed : Fed) → Holds flow facts
    → HoldsBy flow (answered_commands (commands_accepted_in facts fed)) (facts_fed setup facts fed)
fed_set setup facts flow (Packet (HostCommand opcode body)) holds = read_set setup facts flow (command_of opcode body.items) holds
fed_set setup facts flow (Packet (Acl handle start count body)) holds =
    offered_set (offer_of setup facts handle count) handle start body.items facts flow holds
fed_set setup facts flow LostSync holds = holds
fed_set setup facts flow More holds = holds

-- ---- a turn

flow_kept : (setup : Setup) (flow : HostFlow) → IsKeptInTurns setup (Holds flow) (Holds flow)
flow_kept setup flow = record {
  starts = record {
    weakens = λ facts is. is;
    ends = λ slot facts is. is;
    begins = λ slot facts is. is;
    enters = λ slot facts is. is;
    wins = λ slot activity facts is. is;
    fixes = λ doing facts is. is;
    does = λ doing facts may is. is;
  };
  reports = λ facts is. is;
  passes = λ facts is. record {
    rests = is;
    awaits_request = λ channel doing. is;
    awaits_response = λ channel advertiser doing. is;
    central_listens = λ handle doing. is;
    sent = λ channel link doing. opening_passes (Holds flow) link facts is;
    responds = λ channel on doing is_on. is;
    taken = λ channel heard pdu on fields handle is_on hears takes free.
        opening_passes (Holds flow) (link_taken facts.view on.params.own pdu fields handle) facts is;
    scanned = λ channel heard pdu on doing is_on hears. is;
    answered = λ channel heard pdu on doing is_on hears. is;
    connects = λ channel heard pdu on access handle doing is_on hears answers next free in_range. is;
    received = λ handle heard. receiving_passes (Holds flow) setup handle heard facts is;
  };
  words = λ handle facts listens is. is;
}

-- ---- all calls

-- a call of a turn leaves it as it is
pub flow_in_turn : (setup : Setup) (facts : Facts) (step : Step) → IsInTurn step → (facts_after setup facts step).view.flow ≡ facts.view.flow
flow_in_turn setup facts step turn = turn_keeps setup (Holds facts.view.flow) (Holds facts.view.flow) (flow_kept setup facts.view.flow) facts step turn refl

step_set : (setup : Setup) (facts : Facts) (flow : HostFlow) (step : Step) → Holds flow facts
    → HoldsBy flow (answered_after facts step) (facts_after setup facts step)
step_set setup facts flow (HostOctet octet) holds = fed_set setup facts flow (result_of facts.octets octet) holds
step_set setup facts flow (TurnBegins slot on) holds = flow_in_turn setup facts (TurnBegins slot on) tt ∙ holds
step_set setup facts flow (PacketHeard octets) holds = flow_in_turn setup facts (PacketHeard octets) tt ∙ holds
step_set setup facts flow NothingHeard holds = flow_in_turn setup facts NothingHeard tt ∙ holds
step_set setup facts flow TurnEnds holds = flow_in_turn setup facts TurnEnds tt ∙ holds

set_from : (setup : Setup) (facts : Facts) (flow : HostFlow) (past : List Step) → Holds flow facts
    → HoldsBy flow (answered_commands (commands_accepted_from setup facts past)) (fold (facts_after setup) facts past)
set_from setup facts flow [] holds = holds
set_from setup facts flow (step ∷ past) holds =
    let next = facts_after setup facts step in
    let one = answered_after facts step in
    let later = answered_commands (commands_accepted_from setup next past) in
    set_from setup next (fold flow_after flow one) past (step_set setup facts flow step holds)
    ∙ sym (ap (fold flow_after flow) (flat_map-append answered_command (commands_accepted_after facts step) (commands_accepted_from setup next past))
    ∙ fold-append flow_after flow one later)

pub flow_held : (setup : Setup) (past : List Step) → (facts_of setup past).view.flow ≡ fold flow_after first_flow (answered_of setup past)
unfolding facts_of commands_accepted
flow_held setup past = set_from setup (first_facts setup) first_flow past refl

-- ---- by the lines

pub flow_at : (given : Given) → given.stations ≡ 0 ∷ 1 ∷ [] → (station : ℕ) → is_in station given.stations ≡ true → (before rest : List Event)
    → history_of (run_of given) ≡ before ++ rest → HasNoted given station before
    → (facts_at given station before).view.flow ≡ flow_on (side_of station) (journal_of before)
flow_at given are_two station in_it before rest at noted =
    flow_held (setup_at given station) (past_of station before)
    ∙ ap (fold flow_after first_flow) (sym (accepted_so_far given are_two station in_it before rest at noted))

pub flow_so_far : (given : Given) → given.stations ≡ 0 ∷ 1 ∷ [] → (station : ℕ) → is_in station given.stations ≡ true → (before rest : List Event) (event : Event)
    → history_of (run_of given) ≡ before ++ event ∷ rest → is_note event ≡ false
    → (facts_at given station before).view.flow ≡ flow_on (side_of station) (journal_of before)
flow_so_far given are_two station in_it before rest event at outside =
    flow_at given are_two station in_it before (event ∷ rest) at
    (each_at (NotedBefore given) (history_of (run_of given)) before rest event (run_noted given).each at outside station)

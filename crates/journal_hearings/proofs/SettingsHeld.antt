-- The filter policy and the accept list that a controller holds are those that its host has set, by its commands and the
-- statuses in their answers.
use Rattle.std.proofs.Common.{◌≡◌, ℕ, ◌==◌, Bool, true, false, List, [], ◌∷◌, ◌++◌, refl, sym, ap, subst, ◌∙◌, append-nil, if◌then◌else◌}
use Rattle.std.specs.Prelude.{fold}
use Rattle.std.proofs.lemmas.List.Concat.{flat_map-append}
use Rattle.std.proofs.lemmas.List.Sums.{fold-append}
use Rattle.ble_base.specs.declared.addresses.Address.{Address}
use Rattle.h4_frames.specs.declared.packet.HostPacket.TheVariants.{Command as HostCommand, Acl}
use Rattle.h4_frames.specs.declared.packet.Fed.{Fed}
use Rattle.h4_frames.specs.declared.packet.Fed.TheVariants.{More, Packet, LostSync}
use Rattle.hci_cmd.specs.declared.command.Command.{Command}
use Rattle.hci_cmd.specs.declared.command.Command.TheVariants.{HostCompleted, Reset, LeSetAdvParams, LeClearList, LeAddToList, LeRemoveFromList}
use Rattle.hci_cmd.specs.declared.command.CmdRead.{CmdRead}
use Rattle.hci_cmd.specs.declared.command.CmdRead.TheVariants.{Known, UnknownOpcode, BadLength}
use Rattle.hci_cmd.specs.Command.{command_of}
use Rattle.host_answers.specs.Answered.{accepted_commands, commands_sent}
use Rattle.host_answers.specs.Calls.{answered_after, answered_command, answered_commands, answered_of}
use Rattle.host_answers.proofs.AnswerStatuses.{statuses_of}
use Rattle.host_answers.proofs.AnswersHeld.{answers_held}
use Rattle.host_view.specs.View.{View}
use Rattle.host_view.specs.Changes.{view_after}
use Rattle.host_view.specs.Status.{status_of}
use Rattle.journal_data.specs.open_links.declared.offers.Offer.{Offer}
use Rattle.journal_data.specs.open_links.declared.offers.Offer.TheVariants.{NoLink, Empty, Overflow, Kept}
use Rattle.journal_data.specs.controller_model.Step.{Step, HostOctet, TurnBegins, PacketHeard, NothingHeard, TurnEnds}
use Rattle.journal_data.specs.controller_model.Facts.{Setup, Facts, Advertising, first_facts}
use Rattle.journal_data.specs.controller_model.Commands.{advertising_after, facts_accepted, facts_commanded, facts_known}
use Rattle.journal_data.specs.controller_model.Data.{facts_offered, offer_of}
use Rattle.journal_data.specs.controller_model.Heard.{link_taken}
use Rattle.journal_data.specs.controller_model.Host.{commands_accepted, commands_accepted_after, commands_accepted_by, commands_accepted_from, commands_accepted_in}
use Rattle.journal_data.specs.controller_model.Side.{facts_after, facts_fed, facts_of, notes_of, result_of}
use Rattle.journal_data.proofs.controller_model.Accepted.{same_after_counts}
use Rattle.journal_data.proofs.controller_model.Always.{IsInTurn, IsKeptInTurns, opening_passes, turn_keeps}
use Rattle.journal_data.proofs.controller_model.Asked.{of_asking}
use Rattle.journal_data.proofs.controller_model.Following.{receiving_passes}
use Rattle.journal_hearings.specs.Settings.{list_after, policy_after}

-- ---- what a controller holds

abbrev pub Holds : ℕ → List Address → Facts → Type 0
Holds policy list facts = (facts.view.accepted ≡ list) × (facts.advertising.params.policy ≡ policy)

-- after these commands, from a policy and a list before
abbrev HoldsBy : ℕ → List Address → List Command → Facts → Type 0
HoldsBy policy list commands facts = Holds (fold policy_after policy commands) (fold list_after list commands) facts

-- ---- an accepted command

list_held : (view : View) (command : Command) → (view_after view command).accepted ≡ list_after view.accepted command
unfolding view_after
list_held view Reset = refl
list_held view LeClearList = refl
list_held view (LeAddToList kind address) = refl
list_held view (LeRemoveFromList kind address) = refl
list_held view (HostCompleted counts) = same_after_counts (λ (of : View). of.accepted) view counts refl
list_held view other = refl

policy_held : (setup : Setup) (view : View) (slot policy : ℕ) (command : Command) (advertising : Advertising) → advertising.params.policy ≡ policy
    → (advertising_after setup view slot command advertising).params.policy ≡ policy_after policy command
policy_held setup view slot policy Reset advertising is = refl
policy_held setup view slot policy (LeSetAdvParams min max kind own peer_kind peer channels new) advertising is = refl
policy_held setup view slot policy other advertising is = is

-- one that has no answer changes neither
accepted_set : (setup : Setup) (facts : Facts) (policy : ℕ) (list : List Address) (command : Command) → Holds policy list facts
    → HoldsBy policy list (answered_command command) (facts_accepted setup facts command)
accepted_set setup facts policy list (HostCompleted counts) holds = (
  list_held facts.view (HostCompleted counts) ∙ holds.0,
  policy_held setup facts.view facts.turn.begun policy (HostCompleted counts) facts.advertising holds.1,
)
accepted_set setup facts policy list command holds = (
  list_held facts.view command ∙ ap (λ xs. list_after xs command) holds.0,
  policy_held setup facts.view facts.turn.begun policy command facts.advertising holds.1,
)

known_set : (took : Bool) (setup : Setup) (facts : Facts) (policy : ℕ) (list : List Address) (command : Command) → Holds policy list facts
    → HoldsBy policy list (answered_commands (if took then command ∷ [] else [])) (facts_known took setup facts command)
known_set true setup facts policy list command holds =
    subst (λ commands. HoldsBy policy list commands (facts_accepted setup facts command)) (sym (append-nil (answered_command command)))
    (accepted_set setup facts policy list command holds)
known_set false setup facts policy list command holds = holds

-- what it asks of links changes neither
read_set : (setup : Setup) (facts : Facts) (policy : ℕ) (list : List Address) (read : CmdRead) → Holds policy list facts
    → HoldsBy policy list (answered_commands (commands_accepted_by facts read)) (facts_commanded setup facts read)
read_set setup facts policy list (Known command) holds =
    of_asking setup facts command (HoldsBy policy list (answered_commands (commands_accepted_by facts (Known command))))
    (known_set (status_of facts.view command == 0) setup facts policy list command holds) (λ asks set. (set.0, set.1))
read_set setup facts policy list UnknownOpcode holds = holds
read_set setup facts policy list BadLength holds = holds

offered_set : (offer : Offer) (handle : ℕ) (start : Bool) (octets : List ℕ) (facts : Facts) (policy : ℕ) (list : List Address) → Holds policy list facts
    → Holds policy list (facts_offered offer handle start octets facts)
offered_set Kept handle start octets facts policy list holds = holds
offered_set NoLink handle start octets facts policy list holds = holds
offered_set Empty handle start octets facts policy list holds = holds
offered_set Overflow handle start octets facts policy list holds = holds

fed_set : (setup : Setup) (facts : Facts) (policy : ℕ) (list : List Address) (fed : Fed) → Holds policy list facts
    → HoldsBy policy list (answered_commands (commands_accepted_in facts fed)) (facts_fed setup facts fed)
fed_set setup facts policy list (Packet (HostCommand opcode body)) holds = read_set setup facts policy list (command_of opcode body.items) holds
fed_set setup facts policy list (Packet (Acl handle start count body)) holds =
    offered_set (offer_of setup facts handle count) handle start body.items facts policy list holds
fed_set setup facts policy list LostSync holds = holds
fed_set setup facts policy list More holds = holds

-- ---- a turn

settings_kept : (setup : Setup) (policy : ℕ) (list : List Address) → IsKeptInTurns setup (Holds policy list) (Holds policy list)
settings_kept setup policy list = record {
  starts = record {
    weakens = λ facts is. is;
    ends = λ slot facts is. is;
    begins = λ slot facts is. is;
    enters = λ slot facts is. is;
    wins = λ slot activity facts is. is;
    fixes = λ doing facts is. is;
    does = λ doing facts may is. is;
  };
  reports = λ facts is. is;
  passes = λ facts is. record {
    rests = is;
    awaits_request = λ channel doing. is;
    awaits_response = λ channel advertiser doing. is;
    central_listens = λ handle doing. is;
    sent = λ channel link doing. opening_passes (Holds policy list) link facts is;
    responds = λ channel on doing is_on. is;
    taken = λ channel heard pdu on fields handle is_on hears takes free.
        let link = link_taken facts.view on.params.own pdu fields handle in opening_passes (Holds policy list) link facts is;
    scanned = λ channel heard pdu on doing is_on hears. is;
    answered = λ channel heard pdu on doing is_on hears. is;
    connects = λ channel heard pdu on access handle doing is_on hears answers next free in_range. is;
    received = λ handle heard. receiving_passes (Holds policy list) setup handle heard facts is;
  };
  words = λ handle facts listens is. is;
}

-- ---- all calls

turn_set : (setup : Setup) (facts : Facts) (policy : ℕ) (list : List Address) (step : Step) → IsInTurn step → Holds policy list facts
    → Holds policy list (facts_after setup facts step)
turn_set setup facts policy list step turn holds = turn_keeps setup (Holds policy list) (Holds policy list) (settings_kept setup policy list) facts step turn holds

step_set : (setup : Setup) (facts : Facts) (policy : ℕ) (list : List Address) (step : Step) → Holds policy list facts
    → HoldsBy policy list (answered_after facts step) (facts_after setup facts step)
step_set setup facts policy list (HostOctet octet) holds =
    let set = fed_set setup facts policy list (result_of facts.octets octet) holds in (set.0, set.1)
step_set setup facts policy list (TurnBegins slot on) holds = turn_set setup facts policy list (TurnBegins slot on) tt holds
step_set setup facts policy list (PacketHeard octets) holds = turn_set setup facts policy list (PacketHeard octets) tt holds
step_set setup facts policy list NothingHeard holds = turn_set setup facts policy list NothingHeard tt holds
step_set setup facts policy list TurnEnds holds = turn_set setup facts policy list TurnEnds tt holds

set_from : (setup : Setup) (facts : Facts) (policy : ℕ) (list : List Address) (past : List Step) → Holds policy list facts
    → HoldsBy policy list (answered_commands (commands_accepted_from setup facts past)) (fold (facts_after setup) facts past)
set_from setup facts policy list [] holds = holds
set_from setup facts policy list (step ∷ past) holds =
    let next = facts_after setup facts step in
    let one = answered_after facts step in
    let later = answered_commands (commands_accepted_from setup next past) in
    let both : answered_commands (commands_accepted_after facts step ++ commands_accepted_from setup next past) ≡ one ++ later =
    flat_map-append answered_command (commands_accepted_after facts step) (commands_accepted_from setup next past) in
    let rest = set_from setup next (fold policy_after policy one) (fold list_after list one) past (step_set setup facts policy list step holds) in (
      rest.0 ∙ sym (ap (fold list_after list) both ∙ fold-append list_after list one later),
      rest.1 ∙ sym (ap (fold policy_after policy) both ∙ fold-append policy_after policy one later),
    )

all_set : (setup : Setup) (past : List Step) → HoldsBy 0 [] (answered_of setup past) (facts_of setup past)
unfolding facts_of commands_accepted
all_set setup past = set_from setup (first_facts setup) 0 [] past (refl, refl)

-- by the commands in the octets that it was fed, and the statuses in the answers that it noted
pub settings_held : (setup : Setup) (past : List Step)
    → HoldsBy 0 [] (accepted_commands (commands_sent (facts_of setup past).octets) (statuses_of (notes_of setup past))) (facts_of setup past)
settings_held setup past = subst (λ commands. HoldsBy 0 [] commands (facts_of setup past)) (sym (answers_held setup past).accepted) (all_set setup past)

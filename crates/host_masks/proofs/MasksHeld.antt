-- The masks that a controller holds are those of the octets that it was fed.
use Rattle.std.proofs.Common.{◌≡◌, ℕ, ◌+◌, ◌==◌, Bool, true, false, List, [], ◌∷◌, ◌++◌, length, refl, sym, ap, ◌∙◌, append-nil}
use Rattle.std.specs.Prelude.{flat_map, fold}
use Rattle.std.proofs.lemmas.List.Concat.{flat_map-append}
use Rattle.std.proofs.lemmas.List.Sums.{fold-append}
use Rattle.h4_frames.specs.Frames.{frames, frame_entry}
use Rattle.h4_frames.specs.declared.packet.HostPacket.TheVariants.{Command as HostCommand, Acl}
use Rattle.h4_frames.specs.declared.packet.Fed.{Fed}
use Rattle.h4_frames.specs.declared.packet.Fed.TheVariants.{More, Packet, LostSync}
use Rattle.hci_cmd.specs.declared.command.Command.{Command}
use Rattle.hci_cmd.specs.declared.command.Command.TheVariants.{HostCompleted, LeSetEventMask, Reset, SetEventMask}
use Rattle.hci_cmd.specs.declared.command.CmdRead.{CmdRead}
use Rattle.hci_cmd.specs.declared.command.CmdRead.TheVariants.{Known, UnknownOpcode, BadLength}
use Rattle.hci_cmd.specs.Command.{command_of}
use Rattle.run_model.specs.controller_model.host_view.View.{View}
use Rattle.run_model.specs.controller_model.host_view.Changes.{view_after}
use Rattle.run_model.specs.controller_model.host_view.Status.{status_of}
use Rattle.run_model.specs.controller_model.open_links.declared.offers.Offer.{Offer}
use Rattle.run_model.specs.controller_model.open_links.declared.offers.Offer.TheVariants.{NoLink, Empty, Overflow, Kept}
use Rattle.run_model.specs.controller_model.Step.{Step, HostOctet, TurnBegins, PacketHeard, NothingHeard, TurnEnds}
use Rattle.run_model.specs.controller_model.Facts.{Setup, Facts, first_facts}
use Rattle.run_model.specs.controller_model.Commands.{facts_asking, facts_commanded, facts_known, is_asking}
use Rattle.run_model.specs.controller_model.Data.{facts_offered, offer_of}
use Rattle.run_model.specs.controller_model.Heard.{link_taken}
use Rattle.run_model.specs.controller_model.Side.{facts_after, facts_fed, facts_of, result_of}
use Rattle.run_model.proofs.controller_model.Accepted.{same_after_counts}
use Rattle.run_model.proofs.controller_model.Always.{IsInTurn, IsKeptInTurns, kept_always, opening_passes, turn_keeps}
use Rattle.run_model.proofs.controller_model.Asked.{asked_view_is}
use Rattle.run_model.proofs.controller_model.Following.{receiving_passes}
use Rattle.run_model.proofs.controller_model.Feds.{frames_more, more_octets, no_frames, turn_octets}
use Rattle.host_masks.specs.Masks.{Masks, first_masks, framed_command, framed_commands, known_command, masks_after, masks_of, view_masks}

-- ---- the three commands are accepted at any time

pub mask_accepted : (view : View) (mask : ℕ) → status_of view (SetEventMask mask) ≡ 0
unfolding status_of
mask_accepted view mask = refl

pub le_mask_accepted : (view : View) (mask : ℕ) → status_of view (LeSetEventMask mask) ≡ 0
unfolding status_of
le_mask_accepted view mask = refl

pub reset_accepted : (view : View) → status_of view Reset ≡ 0
unfolding status_of
reset_accepted view = refl

-- ---- a command

abbrev Sets : Facts → Facts → List Command → Type 0
Sets before after commands = view_masks after.view ≡ fold masks_after (view_masks before.view) commands

view_set : (view : View) (command : Command) → view_masks (view_after view command) ≡ masks_after (view_masks view) command
unfolding view_after
view_set view (SetEventMask mask) = refl
view_set view (LeSetEventMask mask) = refl
view_set view Reset = refl
view_set view (HostCompleted counts) = same_after_counts view_masks view counts refl
view_set view other = refl

set_by : (status : ℕ) (setup : Setup) (facts : Facts) (command : Command) → status ≡ 0
    → Sets facts (facts_known (status == 0) setup facts command) (command ∷ [])
set_by status setup facts command accepted =
    ap (λ n. view_masks (facts_known (n == 0) setup facts command).view) accepted ∙ view_set facts.view command

-- a command that changes no mask, accepted or not
left_by : (accepted : Bool) (setup : Setup) (facts : Facts) (command : Command)
    → masks_after (view_masks facts.view) command ≡ view_masks facts.view
    → Sets facts (facts_known accepted setup facts command) (command ∷ [])
left_by true setup facts command leaves = view_set facts.view command
left_by false setup facts command leaves = sym leaves

known_set : (setup : Setup) (facts : Facts) (command : Command)
    → Sets facts (facts_known (status_of facts.view command == 0) setup facts command) (command ∷ [])
known_set setup facts (SetEventMask mask) =
    set_by (status_of facts.view (SetEventMask mask)) setup facts (SetEventMask mask) (mask_accepted facts.view mask)
known_set setup facts (LeSetEventMask mask) =
    set_by (status_of facts.view (LeSetEventMask mask)) setup facts (LeSetEventMask mask) (le_mask_accepted facts.view mask)
known_set setup facts Reset = set_by (status_of facts.view Reset) setup facts Reset (reset_accepted facts.view)
known_set setup facts other = left_by (status_of facts.view other == 0) setup facts other refl

asking_set : (asks : Bool) (setup : Setup) (facts : Facts) (command : Command) (known : Facts) → Sets facts known (command ∷ [])
    → Sets facts (facts_asking asks setup facts command known) (command ∷ [])
asking_set true setup facts command known sets =
    ap view_masks (asked_view_is facts.view command facts.links) ∙ view_set facts.view command
asking_set false setup facts command known sets = sets

-- ---- what an octet of the host completes

read_set : (setup : Setup) (facts : Facts) (read : CmdRead) → Sets facts (facts_commanded setup facts read) (known_command read)
read_set setup facts (Known command) =
    asking_set (is_asking facts.view command) setup facts command (facts_known (status_of facts.view command == 0) setup facts command)
    (known_set setup facts command)
read_set setup facts UnknownOpcode = refl
read_set setup facts BadLength = refl

offered_set : (offer : Offer) (handle : ℕ) (start : Bool) (octets : List ℕ) (facts : Facts)
    → Sets facts (facts_offered offer handle start octets facts) []
offered_set Kept handle start octets facts = refl
offered_set NoLink handle start octets facts = refl
offered_set Empty handle start octets facts = refl
offered_set Overflow handle start octets facts = refl

fed_set : (setup : Setup) (facts : Facts) (fed : Fed) → Sets facts (facts_fed setup facts fed) (framed_command fed)
fed_set setup facts (Packet (HostCommand opcode body)) = read_set setup facts (command_of opcode body.items)
fed_set setup facts (Packet (Acl handle start count body)) =
    offered_set (offer_of setup facts handle count) handle start body.items facts
fed_set setup facts LostSync = refl
fed_set setup facts More = refl

commands_entry : (place : ℕ) (fed : Fed)
    → flat_map (λ (entry : ℕ × Fed). framed_command entry.1) (frame_entry place fed) ≡ framed_command fed
commands_entry place (Packet packet) = append-nil (framed_command (Packet packet))
commands_entry place LostSync = refl
commands_entry place More = refl

commands_more : (before : List ℕ) (octet : ℕ)
    → framed_commands (before ++ octet ∷ []) ≡ framed_commands before ++ framed_command (result_of before octet)
commands_more before octet =
    ap (flat_map (λ (entry : ℕ × Fed). framed_command entry.1)) (frames_more before octet)
    ∙ flat_map-append (λ (entry : ℕ × Fed). framed_command entry.1) (frames before) (frame_entry (length before + 1) (result_of before octet))
    ∙ ap (λ rest. framed_commands before ++ rest) (commands_entry (length before + 1) (result_of before octet))

masks_more : (before : List ℕ) (octet : ℕ)
    → masks_of (before ++ octet ∷ []) ≡ fold masks_after (masks_of before) (framed_command (result_of before octet))
masks_more before octet =
    ap (fold masks_after first_masks) (commands_more before octet)
    ∙ fold-append masks_after first_masks (framed_commands before) (framed_command (result_of before octet))

-- ---- a turn

abbrev Has : Masks → Facts → Type 0
Has masks facts = view_masks facts.view ≡ masks

masks_kept : (setup : Setup) (masks : Masks) → IsKeptInTurns setup (Has masks) (Has masks)
masks_kept setup masks = record {
  starts = record {
    weakens = λ facts is. is;
    ends = λ reason facts is. is;
    begins = λ slot facts is. is;
    enters = λ slot facts is. is;
    wins = λ slot activity facts is. is;
    fixes = λ doing facts is. is;
    does = λ doing facts may is. is;
  };
  reports = λ facts is. is;
  passes = λ facts is. record {
    rests = is;
    awaits_request = λ channel doing. is;
    awaits_response = λ channel advertiser doing. is;
    central_listens = λ handle doing. is;
    sent = λ channel link doing. opening_passes (Has masks) link facts is;
    responds = λ channel on doing is_on. is;
    taken = λ channel heard pdu on fields handle is_on hears takes free.
        opening_passes (Has masks) (link_taken facts.view on.params.own pdu fields handle) facts is;
    scanned = λ channel heard pdu on doing is_on hears. is;
    answered = λ channel heard pdu on doing is_on hears. is;
    connects = λ channel heard pdu on access handle doing is_on hears answers next free in_range. is;
    received = λ handle heard. receiving_passes (Has masks) setup handle heard facts is;
  };
  words = λ handle facts listens is. is;
}

-- ---- all steps

abbrev HoldsMasks : Facts → Type 0
HoldsMasks facts = view_masks facts.view ≡ masks_of facts.octets

octet_holds : (setup : Setup) (facts : Facts) (octet : ℕ) → HoldsMasks facts → HoldsMasks (facts_after setup facts (HostOctet octet))
octet_holds setup facts octet holds =
    let fed = result_of facts.octets octet in
    fed_set setup facts fed
    ∙ ap (λ masks. fold masks_after masks (framed_command fed)) holds
    ∙ sym (masks_more facts.octets octet)
    ∙ ap masks_of (sym (more_octets setup facts octet))

turn_holds : (setup : Setup) (facts : Facts) (step : Step) → IsInTurn step → HoldsMasks facts → HoldsMasks (facts_after setup facts step)
turn_holds setup facts step turn holds =
    let masks = view_masks facts.view in
    turn_keeps setup (Has masks) (Has masks) (masks_kept setup masks) facts step turn refl
    ∙ holds
    ∙ ap masks_of (sym (turn_octets setup facts step turn))

step_holds : (setup : Setup) (facts : Facts) (step : Step) → HoldsMasks facts → HoldsMasks (facts_after setup facts step)
step_holds setup facts (HostOctet octet) holds = octet_holds setup facts octet holds
step_holds setup facts (TurnBegins slot on) holds = turn_holds setup facts (TurnBegins slot on) tt holds
step_holds setup facts (PacketHeard octets) holds = turn_holds setup facts (PacketHeard octets) tt holds
step_holds setup facts NothingHeard holds = turn_holds setup facts NothingHeard tt holds
step_holds setup facts TurnEnds holds = turn_holds setup facts TurnEnds tt holds

first_holds : (setup : Setup) → HoldsMasks (first_facts setup)
first_holds setup =
    sym (ap (λ entries. fold masks_after first_masks (flat_map (λ (entry : ℕ × Fed). framed_command entry.1) entries)) no_frames)

pub masks_held : (setup : Setup) (past : List Step) → view_masks (facts_of setup past).view ≡ masks_of (facts_of setup past).octets
masks_held setup past = kept_always setup HoldsMasks (step_holds setup) (first_holds setup) past

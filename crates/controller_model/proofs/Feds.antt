-- What the octets of a host complete, one after another.
use Rattle.std.proofs.Common.{◌≡◌, ℕ, ◌+◌, ◌==◌, Bool, true, false, List, [], ◌∷◌, ◌++◌, length, refl, ap, sym, ◌∙◌, subst, append-nil, append_assoc}
use Rattle.std.specs.Prelude.{drop}
use Rattle.std.proofs.lemmas.List.{drop_at}
use Rattle.std.proofs.lemmas.List.Concat.{flat_map-append}
use Rattle.h4_frames.specs.declared.packet.HostPacket.TheVariants.{Command as HostCommand, Acl}
use Rattle.h4_frames.specs.declared.packet.Fed.{Fed}
use Rattle.h4_frames.specs.declared.packet.Fed.TheVariants.{More, Packet, LostSync}
use Rattle.h4_frames.specs.Frames.{frames, frame_entry}
use Rattle.h4_frames.proofs.Feeding.{frames_step}
use Rattle.hci_cmd.specs.declared.command.Command.{Command}
use Rattle.hci_cmd.specs.declared.command.CmdRead.{CmdRead}
use Rattle.hci_cmd.specs.declared.command.CmdRead.TheVariants.{Known, UnknownOpcode, BadLength}
use Rattle.hci_cmd.specs.Command.{command_of}
use Rattle.host_view.specs.Status.{status_of}
use Rattle.controller_model.specs.Step.{Step, HostOctet, TurnBegins, PacketHeard, NothingHeard, TurnEnds}
use Rattle.controller_model.specs.Facts.{Setup, Facts, first_facts}
use Rattle.controller_model.specs.Commands.{facts_commanded, facts_known}
use Rattle.link_commands.specs.open_links.declared.offers.Offer.{Offer}
use Rattle.link_commands.specs.open_links.declared.offers.Offer.TheVariants.{NoLink, Empty, Overflow, Kept}
use Rattle.controller_model.specs.Data.{facts_offered, offer_of}
use Rattle.controller_model.specs.Heard.{link_taken}
use Rattle.controller_model.specs.Side.{facts_after, facts_fed, first_result, result_of}
use Rattle.controller_model.proofs.Always.{IsInTurn, IsKeptInTurns, opening_passes, turn_keeps}
use Rattle.controller_model.specs.Host.{commands_from, commands_in, commands_of, host_octets, opcode_in, opcodes_in, opcodes_of}
use Rattle.controller_model.proofs.Asked.{of_asking}

pub first_entry : (place : ℕ) (fed : Fed) → first_result (frame_entry place fed) ≡ fed
first_entry place More = refl
first_entry place (Packet packet) = refl
first_entry place LostSync = refl

is_result : (before : List ℕ) (octet : ℕ) (fed : Fed)
    → frames (before ++ octet ∷ []) ≡ frames before ++ frame_entry (length before + 1) fed → fed ≡ result_of before octet
unfolding result_of
is_result before octet fed grown =
    sym (ap (λ entries. first_result (drop (length (frames before)) entries)) grown
    ∙ ap first_result (drop_at (frames before) (frame_entry (length before + 1) fed) (length (frames before)) refl)
    ∙ first_entry (length before + 1) fed)

-- an octet adds the frame that it completes
pub frames_more : (before : List ℕ) (octet : ℕ)
    → frames (before ++ octet ∷ []) ≡ frames before ++ frame_entry (length before + 1) (result_of before octet)
frames_more before octet =
    let step = frames_step before octet in
    subst (λ (fed : Fed). frames (before ++ octet ∷ []) ≡ frames before ++ frame_entry (length before + 1) fed) (is_result before octet _ step) step

pub no_frames : frames [] ≡ []
unfolding frames
no_frames = refl

-- ---- a packet of the host changes none of its octets

known_octets : (accepted : Bool) (setup : Setup) (facts : Facts) (command : Command)
    → (facts_known accepted setup facts command).octets ≡ facts.octets
known_octets true setup facts command = refl
known_octets false setup facts command = refl

commanded_octets : (setup : Setup) (facts : Facts) (read : CmdRead) → (facts_commanded setup facts read).octets ≡ facts.octets
commanded_octets setup facts (Known command) =
    of_asking setup facts command (λ (after : Facts). after.octets ≡ facts.octets) (known_octets (status_of facts.view command == 0) setup facts command)
    (λ asks same. same)
commanded_octets setup facts UnknownOpcode = refl
commanded_octets setup facts BadLength = refl

offered_octets : (offer : Offer) (handle : ℕ) (start : Bool) (octets : List ℕ) (facts : Facts)
    → (facts_offered offer handle start octets facts).octets ≡ facts.octets
offered_octets Kept handle start octets facts = refl
offered_octets NoLink handle start octets facts = refl
offered_octets Empty handle start octets facts = refl
offered_octets Overflow handle start octets facts = refl

pub fed_octets : (setup : Setup) (facts : Facts) (fed : Fed) → (facts_fed setup facts fed).octets ≡ facts.octets
fed_octets setup facts (Packet (HostCommand opcode body)) = commanded_octets setup facts (command_of opcode body.items)
fed_octets setup facts (Packet (Acl handle start count body)) = offered_octets (offer_of setup facts handle count) handle start body.items facts
fed_octets setup facts LostSync = refl
fed_octets setup facts More = refl

-- nor the turn

known_begun : (accepted : Bool) (setup : Setup) (facts : Facts) (command : Command)
    → (facts_known accepted setup facts command).turn.begun ≡ facts.turn.begun
known_begun true setup facts command = refl
known_begun false setup facts command = refl

commanded_begun : (setup : Setup) (facts : Facts) (read : CmdRead) → (facts_commanded setup facts read).turn.begun ≡ facts.turn.begun
commanded_begun setup facts (Known command) =
    of_asking setup facts command (λ (after : Facts). after.turn.begun ≡ facts.turn.begun) (known_begun (status_of facts.view command == 0) setup facts command)
    (λ asks same. same)
commanded_begun setup facts UnknownOpcode = refl
commanded_begun setup facts BadLength = refl

offered_begun : (offer : Offer) (handle : ℕ) (start : Bool) (octets : List ℕ) (facts : Facts)
    → (facts_offered offer handle start octets facts).turn.begun ≡ facts.turn.begun
offered_begun Kept handle start octets facts = refl
offered_begun NoLink handle start octets facts = refl
offered_begun Empty handle start octets facts = refl
offered_begun Overflow handle start octets facts = refl

pub fed_begun : (setup : Setup) (facts : Facts) (fed : Fed) → (facts_fed setup facts fed).turn.begun ≡ facts.turn.begun
fed_begun setup facts (Packet (HostCommand opcode body)) = commanded_begun setup facts (command_of opcode body.items)
fed_begun setup facts (Packet (Acl handle start count body)) = offered_begun (offer_of setup facts handle count) handle start body.items facts
fed_begun setup facts LostSync = refl
fed_begun setup facts More = refl

pub more_octets : (setup : Setup) (facts : Facts) (octet : ℕ) → (facts_after setup facts (HostOctet octet)).octets ≡ facts.octets ++ octet ∷ []
more_octets setup facts octet = ap (λ (octets : List ℕ). octets ++ octet ∷ []) (fed_octets setup facts (result_of facts.octets octet))

-- ---- the commands of a host are those among its frames

opcodes_entry : (facts : Facts) (place : ℕ) (fed : Fed) → opcodes_in (frame_entry place fed) ≡ opcodes_of (commands_in facts fed)
opcodes_entry facts place (Packet (HostCommand opcode body)) = refl
opcodes_entry facts place (Packet (Acl handle start count body)) = refl
opcodes_entry facts place LostSync = refl
opcodes_entry facts place More = refl

opcodes_in-append : (xs ys : List (ℕ × Fed)) → opcodes_in (xs ++ ys) ≡ opcodes_in xs ++ opcodes_in ys
opcodes_in-append xs ys = flat_map-append (λ (entry : ℕ × Fed). opcode_in entry.1) xs ys

opcodes_of-append : (xs ys : List (ℕ × Bool)) → opcodes_of (xs ++ ys) ≡ opcodes_of xs ++ opcodes_of ys
opcodes_of-append [] ys = refl
opcodes_of-append (x ∷ xs) ys = ap (λ (rest : List ℕ). x.0 ∷ rest) (opcodes_of-append xs ys)

opcodes_more : (facts : Facts) (octet : ℕ)
    → opcodes_in (frames (facts.octets ++ octet ∷ [])) ≡ opcodes_in (frames facts.octets) ++ opcodes_of (commands_in facts (result_of facts.octets octet))
opcodes_more facts octet =
    ap opcodes_in (frames_more facts.octets octet)
    ∙ opcodes_in-append (frames facts.octets) (frame_entry (length facts.octets + 1) (result_of facts.octets octet))
    ∙ ap (λ (rest : List ℕ). opcodes_in (frames facts.octets) ++ rest) (opcodes_entry facts (length facts.octets + 1) (result_of facts.octets octet))

-- ---- nor does a turn

abbrev Has : List ℕ → Facts → Type 0
Has octets facts = facts.octets ≡ octets

octets_kept : (setup : Setup) (octets : List ℕ) → IsKeptInTurns setup (Has octets) (Has octets)
octets_kept setup octets = record {
  starts = record {
    weakens = λ facts is. is;
    ends = λ reason facts is. is;
    begins = λ slot facts is. is;
    enters = λ slot facts is. is;
    wins = λ slot activity facts is. is;
    fixes = λ doing facts is. is;
    does = λ doing facts may is. is;
  };
  reports = λ facts is. is;
  words = λ handle facts listens is. is;
  passes = λ facts is. record {
    rests = is;
    awaits_request = λ channel doing. is;
    awaits_response = λ channel advertiser doing. is;
    central_listens = λ handle doing. is;
    sent = λ channel link doing. opening_passes (Has octets) link facts is;
    responds = λ channel on doing is_on. is;
    taken = λ channel heard pdu on fields handle is_on hears takes free. opening_passes (Has octets) (link_taken facts.view on.params.own pdu fields handle) facts is;
    scanned = λ channel heard pdu on doing is_on hears. is;
    answered = λ channel heard pdu on doing is_on hears. is;
    connects = λ channel heard pdu on access handle doing is_on hears answers next free in_range. is;
    received = λ handle heard. is;
  };
}

pub turn_octets : (setup : Setup) (facts : Facts) (step : Step) → IsInTurn step → (facts_after setup facts step).octets ≡ facts.octets
turn_octets setup facts step turn = turn_keeps setup (Has facts.octets) (Has facts.octets) (octets_kept setup facts.octets) facts step turn refl

framed_turn : (setup : Setup) (facts next : Facts) (past : List Step) → next.octets ≡ facts.octets
    → opcodes_in (frames (next.octets ++ host_octets past)) ≡ opcodes_in (frames next.octets) ++ opcodes_of (commands_from setup next past)
    → opcodes_in (frames (facts.octets ++ host_octets past)) ≡ opcodes_in (frames facts.octets) ++ opcodes_of (commands_from setup next past)
framed_turn setup facts next past same is =
    subst (λ (octets : List ℕ). opcodes_in (frames (octets ++ host_octets past)) ≡ opcodes_in (frames octets) ++ opcodes_of (commands_from setup next past)) same is

framed_from : (setup : Setup) (facts : Facts) (past : List Step)
    → opcodes_in (frames (facts.octets ++ host_octets past)) ≡ opcodes_in (frames facts.octets) ++ opcodes_of (commands_from setup facts past)
framed_from setup facts [] =
    ap (λ (octets : List ℕ). opcodes_in (frames octets)) (append-nil facts.octets) ∙ sym (append-nil (opcodes_in (frames facts.octets)))
framed_from setup facts (TurnBegins slot on ∷ past) =
    framed_turn setup facts (facts_after setup facts (TurnBegins slot on)) past (turn_octets setup facts (TurnBegins slot on) tt)
    (framed_from setup (facts_after setup facts (TurnBegins slot on)) past)
framed_from setup facts (PacketHeard octets ∷ past) =
    framed_turn setup facts (facts_after setup facts (PacketHeard octets)) past (turn_octets setup facts (PacketHeard octets) tt)
    (framed_from setup (facts_after setup facts (PacketHeard octets)) past)
framed_from setup facts (NothingHeard ∷ past) =
    framed_turn setup facts (facts_after setup facts NothingHeard) past (turn_octets setup facts NothingHeard tt)
    (framed_from setup (facts_after setup facts NothingHeard) past)
framed_from setup facts (TurnEnds ∷ past) =
    framed_turn setup facts (facts_after setup facts TurnEnds) past (turn_octets setup facts TurnEnds tt)
    (framed_from setup (facts_after setup facts TurnEnds) past)
framed_from setup facts (HostOctet octet ∷ past) =
    let next = facts_after setup facts (HostOctet octet) in
    let more = more_octets setup facts octet in
    let commands = commands_in facts (result_of facts.octets octet) in
    let later = commands_from setup next past in
    ap (λ (octets : List ℕ). opcodes_in (frames octets)) (sym (append_assoc facts.octets (octet ∷ []) (host_octets past)))
    ∙ ap (λ (octets : List ℕ). opcodes_in (frames (octets ++ host_octets past))) (sym more)
    ∙ framed_from setup next past
    ∙ ap (λ (octets : List ℕ). opcodes_in (frames octets) ++ opcodes_of later) more
    ∙ ap (λ (opcodes : List ℕ). opcodes ++ opcodes_of later) (opcodes_more facts octet)
    ∙ append_assoc (opcodes_in (frames facts.octets)) (opcodes_of commands) (opcodes_of later)
    ∙ ap (λ (opcodes : List ℕ). opcodes_in (frames facts.octets) ++ opcodes) (sym (opcodes_of-append commands later))

pub framed : (setup : Setup) (past : List Step) → opcodes_of (commands_of setup past) ≡ opcodes_in (frames (host_octets past))
unfolding commands_of
framed setup past =
    sym (framed_from setup (first_facts setup) past
    ∙ ap (λ (entries : List (ℕ × Fed)). opcodes_in entries ++ opcodes_of (commands_from setup (first_facts setup) past)) no_frames)

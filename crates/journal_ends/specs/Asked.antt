-- What the host of a side asks of the end of a link by a command, from the lines of a journal (Core 5.2, volume 4 part E,
-- sections 7.1 and 7.8).
use Rattle.std.specs.Prelude.{ℕ, ◌-◌, ◌&&◌, nat_lt, Bool, true, false, List, fold, length, Option, Some, None, if◌then◌else◌}
use Rattle.ble_base.specs.declared.procedure_kinds.Kind.TheVariants.{Encrypt}
use Rattle.ble_base.specs.declared.roles.Role.{Role}
use Rattle.ble_base.specs.declared.roles.Role.TheVariants.{Central}
use Rattle.ble_base.specs.declared.roles.Side.{Side}
use Rattle.data_pdu.specs.declared.ctrl.CtrlRead.{CtrlRead}
use Rattle.data_pdu.specs.declared.ctrl.CtrlRead.TheVariants.{Bare}
use Rattle.hci_cmd.specs.declared.command.Command.{Command}
use Rattle.journal.specs.declared.entries.Entry.{Entry}
use Rattle.journal.specs.declared.entries.Entry.TheVariants.{Began, Done, Opened, Refused, Shut, Took}
use Rattle.journal_acks.specs.controller_model.link_commands.declared.moments.Moment.{Moment}
use Rattle.journal_acks.specs.controller_model.link_commands.Commands.{step_on}
use Rattle.journal_acks.specs.journal_links.Begun.{LinkBegun, link_numbered}
use Rattle.journal_acks.specs.journal_links.LinkLines.{lines_of}
use Rattle.journal_acks.specs.link_model.Acknowledgement.{Pdu}
use Rattle.journal_acks.specs.link_model.Controls.{is_procedure_pdu, read_of}
use Rattle.journal_acks.specs.link_model.Facts.{no_peer}
use Rattle.journal_acks.specs.link_model.Receiving.{peer_from}
use Rattle.journal_acks.specs.link_model.Step.{Step}
use Rattle.journal_acks.specs.link_model.declared.state.PeerFacts.{PeerFacts}
use Rattle.journal_acks.specs.link_model.keyed_control.declared.material.Response.{Response}
use Rattle.journal_acks.specs.link_model.phased_control.Taken.{class_of_read, keeps_class}
use Rattle.journal_acks.specs.run_model.Readers.{turns_of}

-- ---- the end, by its lines

-- the handle and the role of an end, while its link is open there
abbrev pub opened_after : Option (ℕ × Role) → Entry → Option (ℕ × Role)
opened_after before (Opened side link handle role) = Some (handle, role)
opened_after before (Shut side link reason) = None
opened_after before line = before

abbrev pub opened_by : List Entry → Option (ℕ × Role)
opened_by lines = fold opened_after None lines

-- What an end knows of its peer is what the control PDUs say that it answered (volume 6 part B, sections 2.4.2.9 to
-- 2.4.2.15). It answers each as it is taken; but a central keeps the first PDU of a procedure of its peer that comes
-- while its own encryption runs, and answers it as that is done or refused (section 5.1.3; that it waits so long is our
-- choice)
pub record Answered : Type 0 where
  pub peer : PeerFacts
  -- the encryption of a central runs, and this PDU is kept
  pub encrypts : Bool
  pub kept : CtrlRead

abbrev pub none_answered : Answered
none_answered = record { peer = no_peer; encrypts = false; kept = Bare }

abbrev pub is_kept : CtrlRead → Answered → Bool
is_kept read before = before.encrypts && keeps_class (class_of_read read) Central false

abbrev pub keeping : CtrlRead → Answered → Answered
keeping read before = record before { kept = read }

abbrev pub answering : CtrlRead → Answered → Answered
answering read before = record before { peer = peer_from read before.peer }

abbrev pub answering_kept : Answered → Answered
answering_kept before = record { peer = peer_from before.kept before.peer; encrypts = false; kept = Bare }

abbrev pub taking : CtrlRead → Answered → Answered
taking read before = if is_kept read before then keeping read before else answering read before

abbrev pub taking_pdu : Pdu → Answered → Answered
taking_pdu pdu before = if is_procedure_pdu pdu then taking (read_of pdu) before else before

abbrev pub answered_after : Answered → Entry → Answered
answered_after before (Took side link count llid body) = taking_pdu (record { llid = llid; body = body }) before
answered_after before (Began side link Encrypt) = record before { encrypts = true }
answered_after before (Done side link Encrypt) = answering_kept before
answered_after before (Refused side link Encrypt code) = answering_kept before
answered_after before line = before

abbrev pub peer_by : List Entry → PeerFacts
peer_by lines = (fold answered_after none_answered lines).peer

-- ---- the words of a side

-- what each side would draw after these lines: two random words, as halves of a session key diversifier and of an
-- initialization vector (volume 6 part B, section 5.1.3.1)
abbrev pub Words : Type 0
Words = Side → List Entry → Response

-- ---- a command in the turn of a slot

-- a central draws them as it accepts LE Enable Encryption
abbrev pub moment_in : Words → Side → List Entry → ℕ → Moment
moment_in words side front slot =
    record { slot = slot; skd_m = (words side front).skd_s; iv_m = (words side front).iv_s }

abbrev pub step_if_open : Option (ℕ × Role) → PeerFacts → Moment → Command → Option Step
step_if_open None peer moment command = None
step_if_open (Some (handle, role)) peer moment command = step_on handle command moment role peer

-- the step that a command asks of the end with these lines
abbrev pub step_by : List Entry → Moment → Command → Option Step
step_by lines moment command = step_if_open (opened_by lines) (peer_by lines) moment command

-- a host is fed before the packets of a turn, so it asks nothing of a link in the turn in which that begins
abbrev pub is_earlier : Option LinkBegun → ℕ → Bool
is_earlier None slot = false
is_earlier (Some link) slot = nat_lt link.slot slot

-- the step that a command asks of the end of a side on the link with a number, by the entries before its answer
abbrev pub step_asked : Words → Side → ℕ → List Entry → Command → Option Step
step_asked words side number front command =
    let slot = length (turns_of front) - 1 in
    if is_earlier (link_numbered number front) slot
    then step_by (lines_of side number front) (moment_in words side front slot) command
    else None

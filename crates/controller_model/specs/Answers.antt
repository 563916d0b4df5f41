-- The answer to a command: Command Status or Command Complete, and what it returns (Core 5.2, volume 4 part E, sections
-- 7.7.14 and 7.7.15).
use Rattle.std.specs.Prelude.{◌≡◌, ℕ, ◌%◌, ◌==◌, ◌||◌, Bool, true, false, List, [], ◌∷◌, ◌++◌, length, replicate, reverse, slice_index, Option, Some, None, if◌then◌else◌}
use Rattle.wire_fields.specs.Field.{little_endian}
use Rattle.aes_block.specs.Cipher.{cipher}
use Rattle.ble_base.specs.Limits.{payload_octets}
use Rattle.hci_cmd.specs.declared.command.Command.{Command}
use Rattle.hci_cmd.specs.declared.command.Command.TheVariants.{HostCompleted, ReadLocalVersion, ReadLocalFeatures, ReadBdAddr, LeReadBufferSize, LeReadFeatures, LeReadListSize, LeReadChannelMap, LeEncrypt, LeRand, LeKeyReply, LeKeyNegative, LeParamReply, LeParamNegative, LeSetDataLength, LeReadMaxLength, LeReadPhy}
use Rattle.hci_cmd.specs.declared.command.CmdRead.{CmdRead}
use Rattle.hci_cmd.specs.declared.command.CmdRead.TheVariants.{Known, UnknownOpcode, BadLength}
use Rattle.hci_evt.specs.declared.event.Event.{Event}
use Rattle.hci_evt.specs.declared.event.Event.TheVariants.{CommandComplete, CommandStatus}
use Rattle.host_view.specs.Status.{status_of}
use Rattle.link_commands.specs.open_links.link_model.Facts.{params_of}
use Rattle.link_commands.specs.open_links.OpenLinks.{OpenLink, facts_in, link_at}
use Rattle.controller_model.specs.Facts.{Setup, Facts}

-- the commands that start something: Disconnect, Read Remote Version, LE Create Connection, LE Connection Update, LE
-- Read Remote Features, LE Enable Encryption and LE Set PHY have a Command Status (sections 7.1 and 7.8)
abbrev pub has_status_answer : ℕ → Bool
has_status_answer opcode =
    (opcode == 0x0406) || ((opcode == 0x041D) || ((opcode == 0x200D)
    || ((opcode == 0x2013) || ((opcode == 0x2016) || ((opcode == 0x2019) || (opcode == 0x2032))))))

-- one further command may be sent
abbrev pub status_answer : ℕ → ℕ → Event
status_answer status opcode = CommandStatus status 1 opcode

abbrev pub complete_answer : ℕ → ℕ → List ℕ → Event
complete_answer status opcode fields = CommandComplete 1 opcode (record { items = status ∷ fields })

-- the random word that comes next: the words are used in order, and then again from the first (our choice)
abbrev pub next_word : Setup → ℕ → ℕ
next_word setup drawn = slice_index setup.words (drawn % length setup.words)

-- the features of the Link Layer: encryption, connection parameters request, extended reject, peripheral-initiated
-- features exchange, data length extension and channel selection algorithm 2 (volume 6 part B, section 4.6)
abbrev pub features : List ℕ
features = 0x2F ∷ 0x40 ∷ replicate 6 0

-- the channel map that a link uses (section 7.8.20)
abbrev pub map_of : Option OpenLink → ℕ
map_of None = 0
map_of (Some link) = (params_of (facts_in link)).map

-- a block as LE Encrypt encrypts it: key, text and answer have the least significant octet first (section 7.8.22), and
-- the cipher has the most significant one first
abbrev pub encrypted : List ℕ → List ℕ → List ℕ
encrypted key text = reverse (cipher (reverse key) (reverse text))

-- what an accepted command returns after its status (sections 7.3, 7.4 and 7.8); a command on a link returns the handle
abbrev pub returned : Setup → Facts → Command → List ℕ
returned setup facts ReadLocalVersion = 0x0B ∷ 0x01 ∷ 0x00 ∷ 0x0B ∷ 0xFF ∷ 0xFF ∷ 0x01 ∷ 0x00 ∷ []
returned setup facts ReadLocalFeatures = 0 ∷ 0 ∷ 0 ∷ 0 ∷ 0x60 ∷ 0 ∷ 0 ∷ 0 ∷ []
returned setup facts ReadBdAddr = setup.public
returned setup facts LeReadBufferSize = little_endian 2 payload_octets ++ setup.host_buffers ∷ []
returned setup facts LeReadFeatures = features
returned setup facts LeReadListSize = 8 ∷ []
returned setup facts (LeEncrypt key text) = encrypted key text
returned setup facts LeRand = little_endian 8 (next_word setup facts.drawn)
returned setup facts LeReadMaxLength =
    little_endian 2 payload_octets ++ little_endian 2 2120 ++ little_endian 2 payload_octets ++ little_endian 2 2120
returned setup facts (LeReadChannelMap handle) =
    little_endian 2 handle ++ little_endian 5 (map_of (link_at handle facts.links))
returned setup facts (LeReadPhy handle) = little_endian 2 handle ++ 1 ∷ 1 ∷ []
returned setup facts (LeKeyReply handle key) = little_endian 2 handle
returned setup facts (LeKeyNegative handle) = little_endian 2 handle
returned setup facts (LeParamReply handle min max latency timeout lengths) = little_endian 2 handle
returned setup facts (LeParamNegative handle reason) = little_endian 2 handle
returned setup facts (LeSetDataLength handle most time) = little_endian 2 handle
returned setup facts other = []

-- what a refused command returns after its status: the handle as it was sent, and 0 in every other octet (our choice)
abbrev pub refused_fields : Command → List ℕ
refused_fields (LeReadChannelMap handle) = little_endian 2 handle ++ replicate 5 0
refused_fields (LeReadPhy handle) = little_endian 2 handle ++ replicate 2 0
refused_fields (LeKeyReply handle key) = little_endian 2 handle
refused_fields (LeKeyNegative handle) = little_endian 2 handle
refused_fields (LeParamReply handle min max latency timeout lengths) = little_endian 2 handle
refused_fields (LeParamNegative handle reason) = little_endian 2 handle
refused_fields (LeSetDataLength handle most time) = little_endian 2 handle
refused_fields other = []

-- Host Number Of Completed Packets has no answer where it is accepted (section 7.3.40)
abbrev pub accepted_answer : Setup → Facts → ℕ → Command → List Event
accepted_answer setup facts opcode (HostCompleted counts) = []
accepted_answer setup facts opcode other = complete_answer 0x00 opcode (returned setup facts other) ∷ []

-- a command that this controller does not know has a Command Status, and so has one that starts something
abbrev pub answer_with : Setup → Facts → ℕ → Command → ℕ → List Event
answer_with setup facts opcode command status =
    if (status == 0x01) || has_status_answer opcode then status_answer status opcode ∷ []
    else if status == 0x00 then accepted_answer setup facts opcode command
    else complete_answer status opcode (refused_fields command) ∷ []

-- the answer to what was read: a wrong length is an invalid parameter, with the status alone
abbrev pub answer_to : Setup → Facts → ℕ → CmdRead → List Event
answer_to setup facts opcode UnknownOpcode = status_answer 0x01 opcode ∷ []
answer_to setup facts opcode BadLength =
    (if has_status_answer opcode then status_answer 0x12 opcode else complete_answer 0x12 opcode []) ∷ []
answer_to setup facts opcode (Known command) = answer_with setup facts opcode command (status_of facts.view command)

-- ---- that a command is answered once

-- the event says that the command with this opcode was taken, and that one further command may be sent
abbrev pub IsAnswerTo : ℕ → Event → Type 0
IsAnswerTo opcode (CommandComplete number answered fields) = (number ≡ 1) × (answered ≡ opcode)
IsAnswerTo opcode (CommandStatus status number answered) = (number ≡ 1) × (answered ≡ opcode)
IsAnswerTo opcode other = ⊥

-- the one command that has no answer: Host Number Of Completed Packets where it is accepted
abbrev pub is_host_completed : Command → Bool
is_host_completed (HostCompleted counts) = true
is_host_completed other = false

abbrev pub HasNoAnswer : Facts → CmdRead → Type 0
HasNoAnswer facts (Known command) = (is_host_completed command ≡ true) × (status_of facts.view command ≡ 0)
HasNoAnswer facts other = ⊥

-- these events are one answer to the command, or none where it has none
abbrev pub AreOneAnswer : ℕ → List Event → Type 0 → Type 0
AreOneAnswer opcode [] has_none = has_none
AreOneAnswer opcode (event ∷ []) has_none = IsAnswerTo opcode event
AreOneAnswer opcode (event ∷ other ∷ events) has_none = ⊥

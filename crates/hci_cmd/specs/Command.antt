-- The commands of the host: their opcodes and the layouts of their parameters (Core 5.2, volume 4 part E, section 7).
use Rattle.std.specs.Prelude.{◌≡◌, ℕ, zero, suc, ◌≤◌, Bool, List, [], ◌∷◌, ◌++◌, length, nat_le, Option, Some, None, ◌&&◌, if◌then◌else◌, ⊤}
use Rattle.wire_fields.specs.Layout.{Layout, done, take_number, size_of, value_of, is_whole, Spells, Makes}
use Rattle.wire_fields.specs.Kind.{u8, u16, u40, u64, octets, numbers, fields}
use Rattle.wire_fields.specs.Table.{value_in}
use Rattle.hci_cmd.specs.declared.command.HandleCount.{HandleCount}
use Rattle.hci_cmd.specs.declared.command.Command.{Command}
use Rattle.hci_cmd.specs.declared.command.Command.TheVariants.{Disconnect, ReadRemoteVersion, SetEventMask, Reset, SetHostFlow, HostBufferSize, HostCompleted, ReadLocalVersion, ReadLocalFeatures, ReadBdAddr, LeSetEventMask, LeReadBufferSize, LeReadFeatures, LeSetRandomAddress, LeSetAdvParams, LeSetAdvData, LeSetScanResponse, LeSetAdvEnable, LeSetScanParams, LeSetScanEnable, LeCreateConnection, LeCreateCancel, LeReadListSize, LeClearList, LeAddToList, LeRemoveFromList, LeConnectionUpdate, LeSetChannels, LeReadChannelMap, LeReadRemoteFeatures, LeEncrypt, LeRand, LeEnableEncryption, LeKeyReply, LeKeyNegative, LeParamReply, LeParamNegative, LeSetDataLength, LeReadMaxLength, LeReadPhy, LeSetDefaultPhy, LeSetPhy}
use Rattle.hci_cmd.specs.declared.command.CmdRead.{CmdRead}
use Rattle.hci_cmd.specs.declared.command.CmdRead.TheVariants.{Known, UnknownOpcode, BadLength}

-- this number of handles, each with the count of its packets, after those that were taken before
-- (Core 5.2, volume 4 part E, section 7.3.40)
abbrev pub counts_layout : ℕ → List HandleCount → Layout Command
counts_layout zero taken = done (HostCompleted (record { items = taken }))
counts_layout (suc handles) taken =
    take_number 2 (λ handle. take_number 2 (λ count.
    counts_layout handles (taken ++ record { handle = handle; count = count } ∷ [])))

abbrev pub completed_layout : Layout Command
completed_layout = take_number 1 (λ handles. counts_layout handles [])

-- each command: its opcode, and its parameters in order. The opcode has the group in the upper six bits and the command
-- in the lower ten (Core 5.2, volume 4 part E, sections 5.4.1, 7.1, 7.3, 7.4 and 7.8)
unfoldable pub layouts : List (ℕ × Layout Command)
layouts =
    (0x0406, fields (u16 ∷ u8 ∷ []) Disconnect) ∷
    (0x041D, fields (u16 ∷ []) ReadRemoteVersion) ∷
    (0x0C01, fields (u64 ∷ []) SetEventMask) ∷
    (0x0C03, done Reset) ∷
    (0x0C31, fields (u8 ∷ []) SetHostFlow) ∷
    (0x0C33, fields (u16 ∷ u8 ∷ u16 ∷ u16 ∷ []) HostBufferSize) ∷
    (0x0C35, completed_layout) ∷
    (0x1001, done ReadLocalVersion) ∷
    (0x1003, done ReadLocalFeatures) ∷
    (0x1009, done ReadBdAddr) ∷
    (0x2001, fields (u64 ∷ []) LeSetEventMask) ∷
    (0x2002, done LeReadBufferSize) ∷
    (0x2003, done LeReadFeatures) ∷
    (0x2005, fields (octets 6 ∷ []) LeSetRandomAddress) ∷
    (0x2006, fields (u16 ∷ u16 ∷ u8 ∷ u8 ∷ u8 ∷ octets 6 ∷ u8 ∷ u8 ∷ []) LeSetAdvParams) ∷
    (0x2008, fields (u8 ∷ octets 31 ∷ []) LeSetAdvData) ∷
    (0x2009, fields (u8 ∷ octets 31 ∷ []) LeSetScanResponse) ∷
    (0x200A, fields (u8 ∷ []) LeSetAdvEnable) ∷
    (0x200B, fields (u8 ∷ u16 ∷ u16 ∷ u8 ∷ u8 ∷ []) LeSetScanParams) ∷
    (0x200C, fields (u8 ∷ u8 ∷ []) LeSetScanEnable) ∷
    (0x200D, fields (u16 ∷ u16 ∷ u8 ∷ u8 ∷ octets 6 ∷ u8 ∷ u16 ∷ u16 ∷ u16 ∷ u16 ∷ numbers 2 ∷ []) LeCreateConnection) ∷
    (0x200E, done LeCreateCancel) ∷
    (0x200F, done LeReadListSize) ∷
    (0x2010, done LeClearList) ∷
    (0x2011, fields (u8 ∷ octets 6 ∷ []) LeAddToList) ∷
    (0x2012, fields (u8 ∷ octets 6 ∷ []) LeRemoveFromList) ∷
    (0x2013, fields (u16 ∷ u16 ∷ u16 ∷ u16 ∷ u16 ∷ numbers 2 ∷ []) LeConnectionUpdate) ∷
    (0x2014, fields (u40 ∷ []) LeSetChannels) ∷
    (0x2015, fields (u16 ∷ []) LeReadChannelMap) ∷
    (0x2016, fields (u16 ∷ []) LeReadRemoteFeatures) ∷
    (0x2017, fields (octets 16 ∷ octets 16 ∷ []) LeEncrypt) ∷
    (0x2018, done LeRand) ∷
    (0x2019, fields (u16 ∷ u64 ∷ u16 ∷ octets 16 ∷ []) LeEnableEncryption) ∷
    (0x201A, fields (u16 ∷ octets 16 ∷ []) LeKeyReply) ∷
    (0x201B, fields (u16 ∷ []) LeKeyNegative) ∷
    (0x2020, fields (u16 ∷ u16 ∷ u16 ∷ u16 ∷ u16 ∷ numbers 2 ∷ []) LeParamReply) ∷
    (0x2021, fields (u16 ∷ u8 ∷ []) LeParamNegative) ∷
    (0x2022, fields (u16 ∷ u16 ∷ u16 ∷ []) LeSetDataLength) ∷
    (0x202F, done LeReadMaxLength) ∷
    (0x2030, fields (u16 ∷ []) LeReadPhy) ∷
    (0x2031, fields (u8 ∷ u8 ∷ u8 ∷ []) LeSetDefaultPhy) ∷
    (0x2032, fields (u16 ∷ u8 ∷ u8 ∷ u8 ∷ u16 ∷ []) LeSetPhy) ∷ []

-- the layout of the parameters of the command with this opcode, where there is one
unfoldable pub layout_of : ℕ → Option (Layout Command)
layout_of opcode = value_in layouts opcode

-- the parameters have the length of the layout, which fits the one octet of length of a packet
-- (Core 5.2, volume 4 part E, section 5.4.1)
abbrev pub are_parameters : Layout Command → List ℕ → Bool
are_parameters layout parameters = nat_le (size_of layout parameters) 255 && is_whole layout parameters

-- what the parameters are read as, by the layout of the opcode, if it has one
abbrev pub read_with : Option (Layout Command) → List ℕ → CmdRead
read_with None parameters = UnknownOpcode
read_with (Some layout) parameters =
    if are_parameters layout parameters then Known (value_of layout parameters) else BadLength

-- what an opcode and its parameters are read as
unfoldable pub command_of : ℕ → List ℕ → CmdRead
command_of opcode parameters = read_with (layout_of opcode) parameters

-- ---- the same as relations

-- a command has this opcode, and these are its parameters
pub record IsCommand (command : Command) (opcode : ℕ) (parameters : List ℕ) : Type 0 where
  pub layout : Layout Command
  pub has_layout : layout_of opcode ≡ Some layout
  pub spells : Spells layout command parameters
  pub short : length parameters ≤ 255

-- the command has this opcode
pub record HasOpcode (command : Command) (opcode : ℕ) : Type 0 where
  pub layout : Layout Command
  pub has_layout : layout_of opcode ≡ Some layout
  pub makes : Makes layout command

-- the array of the least and the greatest event length has both
abbrev pub HasBothLengths : Command → Type 0
HasBothLengths (LeCreateConnection scan_interval window policy peer_kind peer own min max latency timeout lengths) =
    length lengths ≡ 2
HasBothLengths (LeConnectionUpdate handle min max latency timeout lengths) = length lengths ≡ 2
HasBothLengths (LeParamReply handle min max latency timeout lengths) = length lengths ≡ 2
HasBothLengths other = ⊤

-- a command has this opcode
abbrev pub IsOpcode : ℕ → Type 0
IsOpcode opcode = (layout : Layout Command) × (layout_of opcode ≡ Some layout)

-- the parameters have the length of the layout of this opcode, and fit a packet
pub record IsWhole (opcode : ℕ) (parameters : List ℕ) : Type 0 where
  pub layout : Layout Command
  pub has_layout : layout_of opcode ≡ Some layout
  pub len : length parameters ≡ size_of layout parameters
  pub short : length parameters ≤ 255

-- a fact of the command that was read, if one was
abbrev pub IfKnown : CmdRead → (Command → Type 0) → Type 0
IfKnown (Known command) fact = fact command
IfKnown UnknownOpcode fact = Unit {0}
IfKnown BadLength fact = Unit {0}

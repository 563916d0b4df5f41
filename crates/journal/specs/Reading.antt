-- The entry that a line spells (our choice).
use Rattle.std.specs.Prelude.{ℕ, Bool, List, [], ◌∷◌, Option, Some, None, if◌then◌else◌, codes, slice_get}
use Rattle.std.specs.Str.{bytes_eq}
use Rattle.ble_base.specs.declared.ErrCode.{ErrCode}
use Rattle.ble_base.specs.declared.roles.Side.{Side}
use Rattle.ble_base.specs.declared.roles.Role.{Role}
use Rattle.ble_base.specs.declared.procedure_kinds.Kind.{Kind}
use Rattle.ble_base.specs.declared.verdicts.Verdict.{Verdict}
use Rattle.line_words.specs.Text.{lines_of, words_of}
use Rattle.journal.specs.declared.entries.Entry.{Entry}
use Rattle.journal.specs.declared.entries.Entry.TheVariants.{Turn, Fed, Up, Air, Opened, Shut, Sent, Took, Enter, Applied, Began, Refused, Done}
use Rattle.journal.specs.declared.entries.Mark.{Mark}
use Rattle.journal.specs.WordTuples.{Two, Three, Four, Five, two_words, three_words, four_words, five_words}
use Rattle.journal.specs.Fields.{code_in, kind_in, mark_in, octets_in, radios_in, role_in, side_in, verdict_in, u64_in, u16_in, u8_in}

-- ---- the entry of its parts, if each was read

abbrev pub turn_of : Option ℕ → Option (Bool × Option Bool) → Option Entry
turn_of (Some slot) (Some radios) = Some (Turn slot radios.0 radios.1)
turn_of _ _ = None

abbrev pub fed_of : Option Side → Option (List ℕ) → Option Entry
fed_of (Some side) (Some octets) = Some (Fed side octets)
fed_of _ _ = None

abbrev pub up_of : Option Side → Option (List ℕ) → Option Entry
up_of (Some side) (Some octets) = Some (Up side octets)
up_of _ _ = None

abbrev pub air_of : Option Side → Option ℕ → Option (List ℕ) → Option Mark → Option Verdict → Option Entry
air_of (Some side) (Some channel) (Some octets) (Some fate) (Some verdict) = Some (Air side channel octets fate verdict)
air_of _ _ _ _ _ = None

abbrev pub opened_of : Option Side → Option ℕ → Option ℕ → Option Role → Option Entry
opened_of (Some side) (Some link) (Some handle) (Some role) = Some (Opened side link handle role)
opened_of _ _ _ _ = None

abbrev pub shut_of : Option Side → Option ℕ → Option ErrCode → Option Entry
shut_of (Some side) (Some link) (Some reason) = Some (Shut side link reason)
shut_of _ _ _ = None

abbrev pub sent_of : Option Side → Option ℕ → Option ℕ → Option ℕ → Option (List ℕ) → Option Entry
sent_of (Some side) (Some link) (Some number) (Some llid) (Some body) = Some (Sent side link number llid body)
sent_of _ _ _ _ _ = None

abbrev pub took_of : Option Side → Option ℕ → Option ℕ → Option ℕ → Option (List ℕ) → Option Entry
took_of (Some side) (Some link) (Some number) (Some llid) (Some body) = Some (Took side link number llid body)
took_of _ _ _ _ _ = None

abbrev pub enter_of : Option Side → Option ℕ → Option ℕ → Option ℕ → Option Entry
enter_of (Some side) (Some link) (Some event) (Some channel) = Some (Enter side link event channel)
enter_of _ _ _ _ = None

abbrev pub applied_of : Option Side → Option ℕ → Option ℕ → Option ℕ → Option Entry
applied_of (Some side) (Some link) (Some number) (Some event) = Some (Applied side link number event)
applied_of _ _ _ _ = None

abbrev pub began_of : Option Side → Option ℕ → Option Kind → Option Entry
began_of (Some side) (Some link) (Some kind) = Some (Began side link kind)
began_of _ _ _ = None

abbrev pub refused_of : Option Side → Option ℕ → Option Kind → Option ErrCode → Option Entry
refused_of (Some side) (Some link) (Some kind) (Some code) = Some (Refused side link kind code)
refused_of _ _ _ _ = None

abbrev pub done_of : Option Side → Option ℕ → Option Kind → Option Entry
done_of (Some side) (Some link) (Some kind) = Some (Done side link kind)
done_of _ _ _ = None

-- ---- the entry of the words after the name of its kind

abbrev pub turn_in : Option Two → Option Entry
turn_in None = None
turn_in (Some w) = turn_of (u64_in w.0) (radios_in w.1)

abbrev pub fed_in : Option Two → Option Entry
fed_in None = None
fed_in (Some w) = fed_of (side_in w.0) (octets_in w.1)

abbrev pub up_in : Option Two → Option Entry
up_in None = None
up_in (Some w) = up_of (side_in w.0) (octets_in w.1)

abbrev pub air_in : Option Five → Option Entry
air_in None = None
air_in (Some w) = air_of (side_in w.0) (u8_in w.1) (octets_in w.2) (mark_in w.3) (verdict_in w.4)

abbrev pub opened_in : Option Four → Option Entry
opened_in None = None
opened_in (Some w) = opened_of (side_in w.0) (u64_in w.1) (u16_in w.2) (role_in w.3)

abbrev pub shut_in : Option Three → Option Entry
shut_in None = None
shut_in (Some w) = shut_of (side_in w.0) (u64_in w.1) (code_in w.2)

abbrev pub sent_in : Option Five → Option Entry
sent_in None = None
sent_in (Some w) = sent_of (side_in w.0) (u64_in w.1) (u64_in w.2) (u8_in w.3) (octets_in w.4)

abbrev pub took_in : Option Five → Option Entry
took_in None = None
took_in (Some w) = took_of (side_in w.0) (u64_in w.1) (u64_in w.2) (u8_in w.3) (octets_in w.4)

abbrev pub enter_in : Option Four → Option Entry
enter_in None = None
enter_in (Some w) = enter_of (side_in w.0) (u64_in w.1) (u64_in w.2) (u8_in w.3)

abbrev pub applied_in : Option Four → Option Entry
applied_in None = None
applied_in (Some w) = applied_of (side_in w.0) (u64_in w.1) (u64_in w.2) (u64_in w.3)

abbrev pub began_in : Option Three → Option Entry
began_in None = None
began_in (Some w) = began_of (side_in w.0) (u64_in w.1) (kind_in w.2)

abbrev pub refused_in : Option Four → Option Entry
refused_in None = None
refused_in (Some w) = refused_of (side_in w.0) (u64_in w.1) (kind_in w.2) (code_in w.3)

abbrev pub done_in : Option Three → Option Entry
done_in None = None
done_in (Some w) = done_of (side_in w.0) (u64_in w.1) (kind_in w.2)

-- ---- lines

-- the entry of a line with this name and these words after it, of a control procedure
abbrev pub procedure_in : List ℕ → List (List ℕ) → Option Entry
procedure_in name words =
    if bytes_eq name (codes "applied") then applied_in (four_words words)
    else if bytes_eq name (codes "began") then began_in (three_words words)
    else if bytes_eq name (codes "refused") then refused_in (four_words words)
    else if bytes_eq name (codes "done") then done_in (three_words words)
    else None

-- the same, also of a packet or a PDU
abbrev pub packet_in : List ℕ → List (List ℕ) → Option Entry
packet_in name words =
    if bytes_eq name (codes "air") then air_in (five_words words)
    else if bytes_eq name (codes "sent") then sent_in (five_words words)
    else if bytes_eq name (codes "took") then took_in (five_words words)
    else procedure_in name words

-- the same, also of a link
abbrev pub link_in : List ℕ → List (List ℕ) → Option Entry
link_in name words =
    if bytes_eq name (codes "open") then opened_in (four_words words)
    else if bytes_eq name (codes "shut") then shut_in (three_words words)
    else if bytes_eq name (codes "enter") then enter_in (four_words words)
    else packet_in name words

-- the same, also of a turn or a host
abbrev pub named_in : List ℕ → List (List ℕ) → Option Entry
named_in name words =
    if bytes_eq name (codes "turn") then turn_in (two_words words)
    else if bytes_eq name (codes "in") then fed_in (two_words words)
    else if bytes_eq name (codes "up") then up_in (two_words words)
    else link_in name words

-- the entry of all words of a line
abbrev pub entry_in : List (List ℕ) → Option Entry
entry_in [] = None
entry_in (name ∷ words) = named_in name words

-- the entry of the words of a line, if there is a line
abbrev pub entry_of_line : Option (List ℕ) → Option Entry
entry_of_line None = None
entry_of_line (Some line) = entry_in (words_of line)

-- the entry that the first line of a text spells. It takes more spellings than those that are written
abbrev pub first_entry : List ℕ → Option Entry
first_entry text = entry_of_line (slice_get (lines_of text) 0)

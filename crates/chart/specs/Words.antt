-- The words of a journal's lines in a chart (our choice).
use Rattle.std.specs.Prelude.{ℕ, nat_lt, List, [], ◌∷◌, ◌++◌, length, take, codes, decimal, if◌then◌else◌}
use Rattle.hex.specs.Hex.{encode_lower}
use Rattle.ble_base.specs.declared.ErrCode.{ErrCode}
use Rattle.ble_base.specs.declared.roles.Role.{Role}
use Rattle.ble_base.specs.declared.procedure_kinds.Kind.{Kind}
use Rattle.ble_base.specs.declared.verdicts.Verdict.{Verdict}
use Rattle.journal.specs.declared.entries.Entry.{Entry}
use Rattle.journal.specs.declared.entries.Entry.TheVariants.{Turn, Fed, Up, Air, Opened, Shut, Sent, Took, Enter, Applied, Began, Refused, Done}
use Rattle.journal.specs.declared.entries.Mark.{Mark}
use Rattle.journal.specs.declared.entries.Mark.TheVariants.{Pass, Lost, Damage}
use Rattle.journal.specs.Words.{role_name, kind_name, verdict_name}
use Rattle.chart.specs.declared.layout.TheConstants.{SHOWN}
use Rattle.chart.specs.Pdus.{body_words, joined, pdu_words}

-- octets in hexadecimal, the first ten of them
abbrev pub shown_octets : List ℕ → List ℕ
shown_octets octets =
    if nat_lt SHOWN (length octets) then encode_lower (take SHOWN octets) ++ codes ".." else encode_lower octets

-- what a host sends or receives
abbrev pub host_words : List ℕ → List ℕ → List ℕ
host_words name octets =
    joined (name ∷ shown_octets octets ∷ codes ", " ∷ decimal (length octets) ∷ codes " octets" ∷ [])

-- a PDU with a payload
abbrev pub payload_words : List ℕ → ℕ → ℕ → ℕ → List ℕ → List ℕ
payload_words name link number llid body = joined
    (name ∷ codes ": link " ∷ decimal link ∷ codes ", PDU " ∷ decimal number ∷ codes ", " ∷ body_words llid body ∷ [])

-- a control procedure
abbrev pub procedure_words : List ℕ → ℕ → Kind → List ℕ
procedure_words name link kind = joined (name ∷ codes ": link " ∷ decimal link ∷ codes ", " ∷ kind_name kind ∷ [])

-- what became of a packet on its way, with a comma; nothing where it passed
abbrev pub fate_words : Mark → List ℕ
fate_words Pass = codes ""
fate_words Lost = codes ", lost"
fate_words (Damage at pattern) = codes ", damaged"

-- a packet on the air
abbrev pub packet_words : ℕ → List ℕ → Mark → Verdict → List ℕ
packet_words channel octets fate verdict = joined
    (codes "channel " ∷ decimal channel ∷ codes ": " ∷ pdu_words channel octets ∷ fate_words fate ∷ codes ", "
    ∷ verdict_name verdict ∷ [])

-- an error code, in two hexadecimal digits
unfoldable pub code_word : ErrCode → List ℕ
code_word code = encode_lower (code.0 ∷ [])

-- a link that is opened, and one that is closed
abbrev pub opened_words : ℕ → ℕ → Role → List ℕ
opened_words link handle role = joined
    (codes "open: link " ∷ decimal link ∷ codes ", handle " ∷ decimal handle ∷ codes ", " ∷ role_name role ∷ [])

abbrev pub shut_words : ℕ → ErrCode → List ℕ
shut_words link reason = joined (codes "shut: reason " ∷ code_word reason ∷ codes ", link " ∷ decimal link ∷ [])

-- a connection event
abbrev pub event_words : ℕ → ℕ → ℕ → List ℕ
event_words link event channel = joined
    (codes "event " ∷ decimal event ∷ codes ": link " ∷ decimal link ∷ codes ", channel " ∷ decimal channel ∷ [])

-- an indication that is in force
abbrev pub applied_words : ℕ → ℕ → ℕ → List ℕ
applied_words link number event = joined
    (codes "applied: link " ∷ decimal link ∷ codes ", indication " ∷ decimal number ∷ codes ", event " ∷ decimal event
    ∷ [])

-- a control procedure that is refused
abbrev pub refused_words : ℕ → Kind → ErrCode → List ℕ
refused_words link kind code = joined
    (codes "refused: reason " ∷ code_word code ∷ codes ", link " ∷ decimal link ∷ codes ", " ∷ kind_name kind ∷ [])

-- the words of a line in its row; a turn has no row
abbrev pub words_of : Entry → List ℕ
words_of (Turn slot a b) = []
words_of (Fed side octets) = host_words (codes "in ") octets
words_of (Up side octets) = host_words (codes "up ") octets
words_of (Air side channel octets fate verdict) = packet_words channel octets fate verdict
words_of (Opened side link handle role) = opened_words link handle role
words_of (Shut side link reason) = shut_words link reason
words_of (Sent side link number llid body) = payload_words (codes "sent") link number llid body
words_of (Took side link number llid body) = payload_words (codes "took") link number llid body
words_of (Enter side link event channel) = event_words link event channel
words_of (Applied side link number event) = applied_words link number event
words_of (Began side link kind) = procedure_words (codes "began") link kind
words_of (Refused side link kind code) = refused_words link kind code
words_of (Done side link kind) = procedure_words (codes "done") link kind

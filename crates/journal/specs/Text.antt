-- The text of a journal (our choice): a line for each entry, with one space between two words.
use Rattle.std.specs.Prelude.{ℕ, List, [], ◌∷◌, codes, decimal, flat_map}
use Rattle.hex.specs.Hex.{encode_lower}
use Rattle.line_words.specs.Text.{line_of, with_newline}
use Rattle.journal.specs.declared.entries.Entry.{Entry}
use Rattle.journal.specs.declared.entries.Entry.TheVariants.{Turn, Fed, Up, Air, Opened, Shut, Sent, Took, Enter, Applied, Began, Refused, Done}
use Rattle.journal.specs.Words.{side_name, role_name, kind_name, verdict_name, radios, hexadecimal, mark_word}

-- the words of an entry
abbrev pub entry_words : Entry → List (List ℕ)
entry_words (Turn slot a b) = codes "turn" ∷ decimal slot ∷ radios a b ∷ []
entry_words (Fed side octets) = codes "in" ∷ side_name side ∷ hexadecimal octets ∷ []
entry_words (Up side octets) = codes "up" ∷ side_name side ∷ hexadecimal octets ∷ []
entry_words (Air side channel octets fate verdict) =
    codes "air" ∷ side_name side ∷ decimal channel ∷ hexadecimal octets ∷ mark_word fate ∷ verdict_name verdict ∷ []
entry_words (Opened side link handle role) =
    codes "open" ∷ side_name side ∷ decimal link ∷ decimal handle ∷ role_name role ∷ []
entry_words (Shut side link reason) = codes "shut" ∷ side_name side ∷ decimal link ∷ encode_lower (reason.0 ∷ []) ∷ []
entry_words (Sent side link number llid body) =
    codes "sent" ∷ side_name side ∷ decimal link ∷ decimal number ∷ decimal llid ∷ hexadecimal body ∷ []
entry_words (Took side link number llid body) =
    codes "took" ∷ side_name side ∷ decimal link ∷ decimal number ∷ decimal llid ∷ hexadecimal body ∷ []
entry_words (Enter side link event channel) =
    codes "enter" ∷ side_name side ∷ decimal link ∷ decimal event ∷ decimal channel ∷ []
entry_words (Applied side link number event) =
    codes "applied" ∷ side_name side ∷ decimal link ∷ decimal number ∷ decimal event ∷ []
entry_words (Began side link kind) = codes "began" ∷ side_name side ∷ decimal link ∷ kind_name kind ∷ []
entry_words (Refused side link kind code) =
    codes "refused" ∷ side_name side ∷ decimal link ∷ kind_name kind ∷ encode_lower (code.0 ∷ []) ∷ []
entry_words (Done side link kind) = codes "done" ∷ side_name side ∷ decimal link ∷ kind_name kind ∷ []

-- the line of an entry, with its newline
abbrev pub line : Entry → List ℕ
line entry = with_newline (line_of (entry_words entry))

-- the text of a journal
abbrev pub text : List Entry → List ℕ
text entries = flat_map line entries

-- The opcodes of commands whose octets are octets.
use Rattle.std.proofs.Common.{◌≡◌, ℕ, zero, suc, ◌+◌, ◌<◌, ◌==◌, Bool, true, false, Option, Some, None, List, [], ◌∷◌, map, cond, length, refl, ap, sym, ◌∙◌, subst, arith}
use Rattle.std.specs.Prelude.{All, drop, nat_le, nat_eq, ⊤}
use Rattle.std.specs.List.{starts_with}
use Rattle.std.proofs.lemmas.List.Elements.{All-append, All-cons, All-drop, All-head, All-nil, All-tail}
use Rattle.std.proofs.Math.Nat.{mod-eq_of_lt}
use Rattle.h4_frames.specs.declared.packet.Fed.{Fed}
use Rattle.h4_frames.specs.declared.packet.Fed.TheVariants.{LostSync, Packet}
use Rattle.h4_frames.specs.Frames.{frames, frames_from, first_reset, one_later, packet_entries, reset, reset_octets}
use Rattle.h4_frames.specs.Packets.{SizedPacket, first_acl, first_command, first_packet, is_indicator, word_of}
use Rattle.controller_model.specs.Step.{Step}
use Rattle.controller_model.specs.Facts.{Setup}
use Rattle.controller_model.specs.Side.{notes_of}
use Rattle.controller_model.specs.Host.{commands_of, host_octets, opcode_in, opcodes_in, opcodes_of, with_answer}
use Rattle.controller_model.specs.Notes.{answers_among, as_two_octets, one_further}
use Rattle.controller_model.proofs.Feds.{framed}
use Rattle.controller_model.proofs.InOrder.{says}

abbrev IsOctet : ℕ → Type 0
IsOctet octet = octet < 256

abbrev IsWord : ℕ → Type 0
IsWord opcode = opcode < 65536

-- ---- a packet that was found has an opcode of two octets

abbrev FoundWord : Option SizedPacket → Type 0
FoundWord None = ⊤
FoundWord (Some found) = All IsWord (opcode_in (Packet found.packet))

found_if : (fits : Bool) (found : SizedPacket) → FoundWord (Some found) → FoundWord (cond fits (Some found) None)
found_if true found is = is
found_if false found is = tt

word_is : (low high : ℕ) → low < 256 → high < 256 → word_of low high < 65536
word_is low high is also = omega arith

one_word : (opcode : ℕ) → opcode < 65536 → All IsWord (opcode ∷ [])
one_word opcode is = All-cons IsWord opcode [] is (All-nil IsWord)

command_word : (octets : List ℕ) → All IsOctet octets → FoundWord (first_command octets)
command_word [] are = tt
command_word (low ∷ []) are = tt
command_word (low ∷ high ∷ []) are = tt
command_word (low ∷ high ∷ count ∷ octets) are =
    let rest = All-tail IsOctet low (high ∷ count ∷ octets) are in
    found_if (nat_le count (length octets)) _
    (one_word (word_of low high) (word_is low high (All-head IsOctet low (high ∷ count ∷ octets) are) (All-head IsOctet high (count ∷ octets) rest)))

acl_word : (octets : List ℕ) → FoundWord (first_acl octets)
acl_word [] = tt
acl_word (low ∷ []) = tt
acl_word (low ∷ high ∷ []) = tt
acl_word (low ∷ high ∷ count_low ∷ []) = tt
acl_word (low ∷ high ∷ count_low ∷ count_high ∷ octets) =
    found_if (nat_le (word_of count_low count_high) (length octets)) _ (All-nil IsWord)

packet_by : (is_command : Bool) (octets : List ℕ) → All IsOctet octets → FoundWord (cond is_command (first_command octets) (first_acl octets))
packet_by true octets are = command_word octets are
packet_by false octets are = acl_word octets

packet_word : (octet : ℕ) (octets : List ℕ) → All IsOctet octets → FoundWord (first_packet (octet ∷ octets))
packet_word octet octets are = packet_by (octet == 1) octets are

later_word : (found : Option SizedPacket) → FoundWord found → FoundWord (one_later found)
later_word None is = tt
later_word (Some found) is = is

reset_by : (begins : Bool) (found : Option SizedPacket) → FoundWord found
    → FoundWord (cond begins (Some (record { size = 4; packet = reset })) (one_later found))
reset_by true found is = one_word 0x0C03 (omega arith)
reset_by false found is = later_word found is

reset_word : (octets : List ℕ) → FoundWord (first_reset octets)
reset_word [] = tt
reset_word (octet ∷ octets) = reset_by (starts_with nat_eq (octet ∷ octets) reset_octets) (first_reset octets) (reset_word octets)

-- ---- so have all commands

abbrev HaveWords : List (ℕ × Fed) → Type 0
HaveWords entries = All IsWord (opcodes_in entries)

entries_words : (tail : ℕ → List ℕ → List (ℕ × Fed)) (place : ℕ) (octets : List ℕ) (found : Option SizedPacket)
    → ((at : ℕ) (rest : List ℕ) → All IsOctet rest → HaveWords (tail at rest)) → All IsOctet octets → FoundWord found
    → HaveWords (packet_entries tail place octets found)
entries_words tail place octets None later are is = All-nil IsWord
entries_words tail place octets (Some found) later are is =
    All-append IsWord (opcode_in (Packet found.packet)) (opcodes_in (tail (place + found.size) (drop found.size octets))) is
    (later (place + found.size) (drop found.size octets) (All-drop IsOctet found.size octets are))

words_by : (indicated : Bool) (tail : ℕ → List ℕ → List (ℕ × Fed)) (place octet : ℕ) (octets : List ℕ)
    → ((at : ℕ) (rest : List ℕ) → All IsOctet rest → HaveWords (tail at rest)) → All IsOctet (octet ∷ octets)
    → HaveWords (cond indicated (packet_entries tail place (octet ∷ octets) (first_packet (octet ∷ octets)))
    ((place + 1, LostSync) ∷ packet_entries tail (place + 1) octets (first_reset octets)))
words_by true tail place octet octets later are =
    entries_words tail place (octet ∷ octets) (first_packet (octet ∷ octets)) later are (packet_word octet octets (All-tail IsOctet octet octets are))
words_by false tail place octet octets later are =
    entries_words tail (place + 1) octets (first_reset octets) later (All-tail IsOctet octet octets are) (reset_word octets)

words_from : (fuel place : ℕ) (octets : List ℕ) → All IsOctet octets → HaveWords (frames_from fuel place octets)
words_from zero place octets are = All-nil IsWord
words_from (suc fuel) place [] are = All-nil IsWord
words_from (suc fuel) place (octet ∷ octets) are =
    words_by (is_indicator octet) (frames_from fuel) place octet octets (words_from fuel) are

frames_words : (octets : List ℕ) → All IsOctet octets → HaveWords (frames octets)
unfolding frames
frames_words octets are = words_from (length octets) 0 octets are

-- ---- an opcode of two octets is the one that they hold

held_by : (b : Bool) (opcode : ℕ) (commands : List (ℕ × Bool)) → opcode < 65536
    → map as_two_octets (opcodes_of (with_answer commands)) ≡ opcodes_of (with_answer commands)
    → map as_two_octets (opcodes_of (cond b ((opcode, b) ∷ with_answer commands) (with_answer commands)))
    ≡ opcodes_of (cond b ((opcode, b) ∷ with_answer commands) (with_answer commands))
held_by true opcode commands is rest = λ i. mod-eq_of_lt is i ∷ rest i
held_by false opcode commands is rest = rest

held : (commands : List (ℕ × Bool)) → All IsWord (opcodes_of commands)
    → map as_two_octets (opcodes_of (with_answer commands)) ≡ opcodes_of (with_answer commands)
held [] are = refl
held (command ∷ commands) are =
    held_by command.1 command.0 commands (All-head IsWord command.0 (opcodes_of commands) are)
    (held commands (All-tail IsWord command.0 (opcodes_of commands) are))

pub answered : (setup : Setup) (past : List Step) → All (λ octet. octet < 256) (host_octets past)
    → answers_among (notes_of setup past) ≡ map one_further (opcodes_of (with_answer (commands_of setup past)))
answered setup past are =
    let words = subst (All IsWord) (sym (framed setup past)) (frames_words (host_octets past) are) in
    says setup past ∙ ap (map one_further) (held (commands_of setup past) words)

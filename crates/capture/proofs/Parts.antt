-- The packets of a capture are recorded in parts.
use Rattle.std.proofs.Common.{◌≡◌, List, [], ◌∷◌, ◌++◌, sym, ap, ◌∙◌, append_assoc, append-nil}
use Rattle.std.specs.Prelude.{flat_map}
use Rattle.std.proofs.lemmas.Grind.{flat_map-append}
use Rattle.journal.specs.declared.entries.Entry.{Entry}
use Rattle.capture.specs.Capture.{blocks_after, octets_of, packets_after, packets_of}

packets_in_parts : (past xs ys : List Entry)
    → packets_after past (xs ++ ys) ≡ packets_after past xs ++ packets_after (past ++ xs) ys
packets_in_parts past [] ys = ap (λ (done : List Entry). packets_after done ys) (sym (append-nil past))
packets_in_parts past (x ∷ xs) ys =
    let first = packets_after (past ++ x ∷ []) xs in
    ap (λ packets. packets_of past x ++ packets)
    (packets_in_parts (past ++ x ∷ []) xs ys
    ∙ ap (λ (done : List Entry). first ++ packets_after done ys) (append_assoc past (x ∷ []) xs))
    ∙ sym (append_assoc (packets_of past x) first (packets_after (past ++ x ∷ xs) ys))

-- the packets of some entries, and then those of what comes after them
pub blocks_in_parts : (past xs ys : List Entry)
    → blocks_after past (xs ++ ys) ≡ blocks_after past xs ++ blocks_after (past ++ xs) ys
blocks_in_parts past xs ys =
    ap (λ packets. flat_map octets_of packets) (packets_in_parts past xs ys)
    ∙ flat_map-append octets_of (packets_after past xs) (packets_after (past ++ xs) ys)

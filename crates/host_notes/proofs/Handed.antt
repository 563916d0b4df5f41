-- The host receives one piece, and then those after it.
use Rattle.std.proofs.Common.{◌≡◌, ℕ, zero, suc, ◌-◌, ◌<◌, List, [], ◌∷◌, ◌++◌, drop, map, slice_get, take, Some, refl, ap, ◌∙◌, subst, append_assoc, arith}
use Rattle.acl_banks.specs.declared.pieces.Piece.{Piece}
use Rattle.ble_base.specs.declared.notes.Note.{Note}
use Rattle.controller_model.specs.Data.{note_received}

pub one_more : (most : ℕ) (first : ℕ × Piece) (received : List (ℕ × Piece)) (before with_it after : List Note) → 0 < most
    → slice_get received 0 ≡ Some first → with_it ≡ before ++ note_received first ∷ []
    → after ≡ with_it ++ map note_received (take (most - 1) (drop 1 received)) → after ≡ before ++ map note_received (take most received)
one_more zero first received before with_it after some at one rest = absurd (omega (arith, some))
one_more (suc most) first [] before with_it after some at one rest = absurd cc
one_more (suc most) first (piece ∷ received) before with_it after some at one rest =
    let same : piece ≡ first = cc in
    let less : suc most - 1 ≡ most = omega arith in
    rest ∙ ap (λ (notes : List Note). notes ++ map note_received (take (suc most - 1) received)) one
    ∙ append_assoc before (note_received first ∷ []) (map note_received (take (suc most - 1) received))
    ∙ ap (λ n. before ++ (note_received first ∷ map note_received (take n received))) less
    ∙ ap (λ p. before ++ (note_received p ∷ map note_received (take most received))) (subst (λ p. p ≡ piece) same refl)

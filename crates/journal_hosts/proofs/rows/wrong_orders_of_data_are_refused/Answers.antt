-- Proof of `rows::wrong_orders_of_data_are_refused`.
use Rattle.std.proofs.Common.{◌≡◌, ℕ, ◌+◌, ◌/◌, ◌%◌, ◌==◌, Bool, true, false, cond, Option, Some, None, List, [], ◌∷◌, refl, ap, sym, ◌∙◌, arith}
use Rattle.std.specs.Prelude.{slice_index_or}
use Rattle.std.specs.Option.{option_map}
use Rattle.std.proofs.lemmas.Bool.{eqb-true}
use Rattle.ble_base.specs.declared.roles.Side.TheVariants.{B}
use Rattle.journal_data.specs.HostLines.{OpenUnder, link_under}
use Rattle.journal_data.specs.Lines.{lines_of}
use Rattle.wire_fields.specs.Field.{little_endian}
use Rattle.journal_hosts.specs.CreditRows.{data_up}
use Rattle.journal_hosts.specs.HostOrder.{IsOfFirst, LinkPiece, waiting_for}
use Rattle.journal_hosts.specs.OrderRows.{both_up, first_shut, second_as_start, second_up, two_take}
use Rattle.journal_hosts.proofs.FirstPieces.{last_octet, of_first}
use Rattle.journal_hosts.proofs.rows.wrong_orders_of_data_are_refused.Goals as goal

none_first : (links : List OpenUnder) (octets : List ℕ) → IsOfFirst [] links octets → ⊥
none_first links octets of = absurd (let all : [] ≡ of.piece ∷ [] = of.first in cc)

pub returns-clause-second : goal.returns-clause-second
unfolding waiting_for
returns-clause-second c lawful =
    let same = last_octet _ _ _ second_up 0xAA 0xBB refl refl (lawful two_take [] B second_up refl refl) in
    absurd (omega (arith, same))

-- the link is under the handle 1
under_one : (handle : ℕ) (own : Bool) → (1 == handle) ≡ own → ◌≡◌ {A = Option ℕ} (cond own (Some 2) None) (Some 2) → handle ≡ 1
under_one handle true is some = sym (eqb-true 1 handle is)
under_one handle false is some = absurd cc

bits_differ : (handle : ℕ) → handle ≡ 1 → 0x20 ≡ (handle + 0x1000) / 256 % 256 → ⊥
bits_differ handle one is = let same : 0x20 ≡ (1 + 0x1000) / 256 % 256 = is ∙ ap (λ n. (n + 0x1000) / 256 % 256) one in absurd (omega (arith, same))

pub returns-clause-start : goal.returns-clause-start
unfolding waiting_for lines_of little_endian
returns-clause-start c lawful =
    let of = lawful first_shut [] B second_as_start refl refl in
    let is = of_first _ _ _ second_as_start of in
    let link : of.piece.link ≡ 2 = ap (λ (all : List LinkPiece). link_of all) (sym of.first) in
    absurd (bits_differ of.handle (under_one of.handle (1 == of.handle) refl (by of.handle _ of.under link)) (ap (λ (all : List ℕ). slice_index_or all 2 0) is))
  where
    link_of : List LinkPiece → ℕ
    link_of [] = 0
    link_of (piece ∷ pieces) = piece.link

    by : (handle link : ℕ) → link_under handle (record { link = 2; handle = 1 } ∷ []) ≡ Some link → link ≡ 2 → ◌≡◌ {A = Option ℕ} (cond (1 == handle) (Some 2) None) (Some 2)
    by handle link is two = all (1 == handle) is
      where
        all : (own : Bool) → option_map (λ (one : OpenUnder). one.link) (cond own (Some (record { link = 2; handle = 1 })) None) ≡ Some link → ◌≡◌ {A = Option ℕ} (cond own (Some 2) None) (Some 2)
        all true is = refl
        all false is = absurd cc

pub returns-clause-shut : goal.returns-clause-shut
unfolding waiting_for
returns-clause-shut c lawful =
    let same = last_octet _ _ _ data_up 0xBB 0xAA refl refl (lawful first_shut [] B data_up refl refl) in
    absurd (omega (arith, same))

pub returns-clause-nothing : goal.returns-clause-nothing
unfolding waiting_for
returns-clause-nothing c lawful = none_first _ data_up (lawful both_up [] B data_up refl refl)

-- What a controller holds after its host received what it can take.
use Rattle.std.proofs.Common.{◌≡◌, ℕ, ◌≤◌, Bool, true, false, List, [], ◌++◌, drop, length, take, cond, refl, ap, sym, subst, ◌∙◌, arith}
use Rattle.std.specs.Prelude.{fold, map, min, nat_le}
use Rattle.std.proofs.lemmas.Bool.{leb-true}
use Rattle.std.proofs.lemmas.Bool.Decides.{nat_tests}
use Rattle.std.proofs.lemmas.List.{drop_all, take_all}
use Rattle.acl_banks.specs.declared.pieces.Piece.{Piece}
use Rattle.ble_base.specs.declared.notes.Note.{Note}
use Rattle.host_view.specs.Flow.{handed_of, left_of, most_handed, window}
use Rattle.host_view.specs.Noted.{view_noted}
use Rattle.host_view.specs.View.{View}
use Rattle.open_links.specs.Knowing.{Knows as KnowsLinks}
use Rattle.open_links.specs.declared.offers.Completed.{Completed}
use Rattle.open_links.specs.Data.{completed_from}
use Rattle.controller_model.specs.Data.{event_completed, facts_pieces, note_received, notes_handed, notes_pieces, view_pieces}
use Rattle.controller_model.specs.Events.{notes_of_events}
use Rattle.controller_model.specs.Facts.{Setup, Facts}
use Rattle.controller_model.proofs.Following.{followed_is, told_same}
use Rattle.controller_model.proofs.Handing.{handed_open}
use Rattle.controller.specs.Held.{Held}
use Rattle.controller.specs.Knowing.{IsAt}

-- ---- the first of a list that has at most so many

module _ {A : Type 0} where
  taken_is : (n most : ℕ) (waiting : List A) → length waiting ≤ n → take (min n most) waiting ≡ take most waiting
  taken_is n most waiting few = by (nat_le n most) refl
    where
      by : (less : Bool) → nat_le n most ≡ less → take (min n most) waiting ≡ take most waiting
      by true is =
          let more = leb-true n most is in
          let same : min n most ≡ n = omega (arith, more) in
          ap (λ (k : ℕ). take k waiting) same ∙ take_all n waiting few ∙ sym (take_all most waiting (omega (arith, few, more)))
      by false is = let same : min n most ≡ most = grind (arith, nat_tests) in ap (λ (k : ℕ). take k waiting) same

  dropped_is : (n most : ℕ) (waiting : List A) → length waiting ≤ n → drop (min n most) waiting ≡ drop most waiting
  dropped_is n most waiting few = by (nat_le n most) refl
    where
      by : (less : Bool) → nat_le n most ≡ less → drop (min n most) waiting ≡ drop most waiting
      by true is =
          let more = leb-true n most is in
          let same : min n most ≡ n = omega (arith, more) in
          ap (λ (k : ℕ). drop k waiting) same ∙ drop_all n waiting few ∙ sym (drop_all most waiting (omega (arith, few, more)))
      by false is = let same : min n most ≡ most = grind (arith, nat_tests) in ap (λ (k : ℕ). drop k waiting) same

  handed_is : (view : View) (n : ℕ) (waiting : List A) → length waiting ≤ n → take (most_handed view n) waiting ≡ handed_of view waiting
  handed_is view n waiting few = by view.flow.on
    where
      by : (on : Bool) → take (cond on (min n (window view)) n) waiting ≡ cond on (take (window view) waiting) waiting
      by true = taken_is n (window view) waiting few
      by false = take_all n waiting few

  left_is : (view : View) (n : ℕ) (waiting : List A) → length waiting ≤ n → drop (most_handed view n) waiting ≡ left_of view waiting
  left_is view n waiting few = by view.flow.on
    where
      by : (on : Bool) → drop (cond on (min n (window view)) n) waiting ≡ cond on (drop (window view) waiting) []
      by true = dropped_is n (window view) waiting few
      by false = drop_all n waiting few

-- ---- the pieces

-- by how many were handed up, of at most n that wait; nothing was noted before
pub pieces_noted : (facts : Facts) (view : View) (n most : ℕ) (before noted : List Note) → view ≡ facts.view → length facts.received ≤ n
    → most ≡ most_handed view n → before ≡ [] → noted ≡ before ++ map note_received (take most facts.received) → noted ≡ notes_pieces facts
pieces_noted facts view n most before noted same few is none told =
    told ∙ (λ i. none i ++ map note_received (take (is i) facts.received))
    ∙ ap (λ (seen : View). map note_received (take (most_handed seen n) facts.received)) same
    ∙ ap (map note_received) (handed_is facts.view n facts.received few)

pub pieces_at : (has : Setup) (held new : Held) (facts : Facts) (n most : ℕ) (before noted : List Note)
    → new ≡ record held { view = new.view; links = new.links } → length facts.received ≤ n → most ≡ most_handed held.view n
    → before ≡ [] → noted ≡ before ++ map note_received (take most facts.received) → new.view ≡ fold view_noted held.view (drop 0 noted)
    → KnowsLinks new.links facts.links (drop most facts.received) → IsAt has held facts → IsAt has new (facts_pieces facts)
pieces_at has held new facts n most before noted rest few is none told follows links k = record {
  setup = ap (λ (h : Held). h.setup) rest ∙ k.setup;
  view = follows ∙ (λ i. fold view_noted (k.view i) (pieces_noted facts held.view n most before noted k.view few is none told i))
      ∙ followed_is facts.view (notes_pieces facts) (handed_open facts);
  place = ap (λ (h : Held). h.place) rest ∙ k.place;
  access = ap (λ (h : Held). h.access) rest ∙ k.access;
  turn = ap (λ (h : Held). h.turn) rest ∙ k.turn;
  activities = ap (λ (h : Held). h.activities) rest ∙ k.activities;
  links = subst (λ (received : List (ℕ × Piece)). KnowsLinks new.links facts.links received)
      (ap (λ (most : ℕ). drop most facts.received) is ∙ ap (λ (seen : View). drop (most_handed seen n) facts.received) k.view
      ∙ left_is facts.view n facts.received few)
      links;
}

-- ---- which packets are complete

pub handed_noted : (facts : Facts) (view : View) (completed : List Completed) (before noted : List Note) → view ≡ view_pieces facts
    → completed ≡ completed_from 0 facts.links → before ≡ notes_pieces facts
    → noted ≡ before ++ notes_of_events view (map event_completed completed) → noted ≡ notes_handed facts
handed_noted facts view completed before noted same is pieces told =
    told ∙ (λ i. pieces i ++ notes_of_events (same i) (map event_completed (is i)))
    ∙ ap (λ (notes : List Note). notes_pieces facts ++ notes)
    (told_same facts.view (view_pieces facts).links (map event_completed (completed_from 0 facts.links)))

-- As a turn begins, the line of a new PDU comes last: the lines of the call before it fix no PDU.
use Rattle.std.proofs.Common.{◌≡◌, ℕ, ◌||◌, Bool, true, false, List, [], ◌∷◌, ◌++◌, map, refl, sym, ap, subst, ◌∙◌, append-nil, append_assoc}
use Rattle.std.specs.Prelude.{All, ⊤}
use Rattle.std.proofs.lemmas.List.Elements.{All-cons, All-head, All-nil, All-tail}
use Rattle.ble_base.specs.declared.notes.Note.{Note}
use Rattle.ble_base.specs.declared.notes.Note.TheVariants.{Sent as SentNote, Up as UpNote}
use Rattle.ble_base.specs.declared.roles.Side.{Side}
use Rattle.journal_controls.specs.controller_model.Facts.{Facts, Setup}
use Rattle.journal_controls.specs.controller_model.Packets.{notes_doing}
use Rattle.journal_controls.specs.controller_model.Radio.{outcome_begun}
use Rattle.journal_controls.specs.controller_model.Side.{notes_after}
use Rattle.journal_controls.specs.controller_model.Step.{TurnBegins}
use Rattle.journal.specs.declared.entries.Entry.{Entry}
use Rattle.journal_controls.specs.journal_ends.Asked.{Words}
use Rattle.journal_controls.specs.link_model.Acknowledgement.{Pdu}
use Rattle.journal_controls.specs.link_model.Sending.{sent_notes_if}
use Rattle.journal_controls.specs.run_model.History.{Noted}
use Rattle.journal_controls.specs.run_model.Journal.{entry_of, journal_from, side_of}
use Rattle.journal_controls.specs.run_model.Links.{Links, links_after}
use Rattle.journal_controls.proofs.journal_acks.PhaseNotes.{SendsFrom, SendsNothing, SendsOne, sends_from}
use Rattle.journal_controls.proofs.journal_acks.link_calls.CallNotes.{HasNoData, SendsNone, all_more, no_data, notes_starting, start_noted}
use Rattle.journal_fixing.specs.OnLines.{begins_turn, is_fixed, is_fixed_from}
use Rattle.journal_fixing.proofs.ControlKept.{fixed_is}

-- ---- at most one note says a new PDU

abbrev IsOneAtMost : List Note → Type 0
IsOneAtMost [] = ⊤
IsOneAtMost (note ∷ []) = ⊤
IsOneAtMost (note ∷ next ∷ notes) = ⊥

few_if : (noted : Bool) (handle count : ℕ) (pdu : Pdu) → IsOneAtMost (sent_notes_if noted handle count pdu)
few_if true handle count pdu = tt
few_if false handle count pdu = tt

two_notes : (earlier later : List Note) (first note : Note) → IsOneAtMost (first ∷ (earlier ++ note ∷ later)) → ⊥
two_notes [] later first note few = few
two_notes (other ∷ earlier) later first note few = few

tails : (xs ys : List Note) (x y : Note) → x ∷ xs ≡ y ∷ ys → (x ≡ y) × (xs ≡ ys)
tails xs ys x y is = (cc, cc)

none_before : (start last earlier later : List Note) (note : Note) → All SendsNone start → IsOneAtMost last → start ++ last ≡ earlier ++ note ∷ later → All SendsNone earlier
none_before start last [] later note none few is = All-nil SendsNone
none_before [] last (first ∷ earlier) later note none few is = absurd (two_notes earlier later first note (subst IsOneAtMost is few))
none_before (one ∷ start) last (first ∷ earlier) later note none few is =
    let parts = tails (start ++ last) (earlier ++ note ∷ later) one first is in
    All-cons SendsNone first earlier (subst SendsNone parts.0 (All-head SendsNone one start none))
    (none_before start last earlier later note (All-tail SendsNone one start none) few parts.1)

pub sends_last : (setup : Setup) (slot : ℕ) (on : Bool) (facts : Facts) (earlier later : List Note) (note : Note)
    → notes_after setup facts (TurnBegins slot on) ≡ earlier ++ note ∷ later → All SendsNone earlier
sends_last setup slot on facts earlier later note are =
    let outcome = outcome_begun slot on facts in
    let start = notes_starting slot facts in
    none_before start (notes_doing outcome.next outcome.facts) earlier later note
    (all_more HasNoData SendsNone (λ one has. has.sends) start (start_noted HasNoData no_data slot facts)) (by (sends_from outcome.next outcome.facts)) are
  where
    by : SendsFrom (outcome_begun slot on facts).next (outcome_begun slot on facts).facts → IsOneAtMost (notes_doing (outcome_begun slot on facts).next (outcome_begun slot on facts).facts)
    by (SendsNothing none) = subst IsOneAtMost (sym none) tt
    by (SendsOne other base found sends noted) = subst IsOneAtMost (sym noted) (few_if _ _ _ _)

-- ---- so the lines before it fix none

fixes_none : (side own : Side) (number : ℕ) (link_of : ℕ → ℕ) (last : ℕ) (note : Note) → SendsNone note
    → (begins_turn (entry_of own link_of last note) ≡ false) × (is_fixed_from side number (entry_of own link_of last note) ≡ false)
fixes_none side own number link_of last (SentNote handle count llid body) none = absurd cc
fixes_none side own number link_of last (UpNote packet) none = (refl, refl)
fixes_none side own number link_of last note none = (refl, refl)

pub notes_unfixed : (words : Words) (side : Side) (number station : ℕ) (links : Links) (notes : List Note) (front : List Entry) → All SendsNone notes → is_fixed words side number front ≡ false
    → is_fixed words side number (front ++ journal_from links (map (Noted station) notes)) ≡ false
notes_unfixed words side number station links [] front none unfixed = ap (is_fixed words side number) (append-nil front) ∙ unfixed
notes_unfixed words side number station links (note ∷ notes) front none unfixed =
    let line = entry_of (side_of station) (links.link_of station) (links.last_of station) note in
    let later = links_after links (Noted station note) in
    let fixes = fixes_none side (side_of station) number (links.link_of station) (links.last_of station) note (All-head SendsNone note notes none) in
    ap (is_fixed words side number) (sym (append_assoc front (line ∷ []) (journal_from later (map (Noted station) notes))))
    ∙ notes_unfixed words side number station later notes (front ++ line ∷ []) (All-tail SendsNone note notes none)
    (fixed_is words side number front line fixes.0 ∙ (λ i. unfixed i || fixes.1 i))

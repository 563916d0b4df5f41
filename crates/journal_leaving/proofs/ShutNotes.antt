-- As a turn begins or ends, nothing is noted of a link before the note that it is shut.
use Rattle.std.proofs.Common.{◌≡◌, ℕ, ◌+◌, ◌≤◌, ◌==◌, Bool, true, false, Option, Some, None, List, [], ◌∷◌, ◌++◌, cond, map, refl, ap, sym, subst, ◌∙◌, append-nil, append_assoc, arith}
use Rattle.std.specs.Prelude.{All, filter, flat_map, fold, ⊤}
use Rattle.std.specs.List.{AllByRecursion}
use Rattle.std.proofs.lemmas.List.Elements.{All-append, All-contains, All-from_recursion, All-head, All-nil, All-tail, Contains-append_left, Contains-append_right, Contains-push}
use Rattle.ble_base.specs.declared.error_codes.ErrCode.{ErrCode}
use Rattle.ble_base.specs.declared.notes.Note.{Note}
use Rattle.ble_base.specs.declared.notes.Note.TheVariants.{Up, Shut}
use Rattle.hci_evt.specs.Event.{mask_bit_of, written}
use Rattle.hci_evt.specs.declared.event.Event.TheVariants.{DisconnectionComplete}
use Rattle.host_view.specs.View.{View}
use Rattle.journal_controls.specs.controller_model.Data.{acl_packet, event_completed, facts_handed, notes_pieces, pieces_handed}
use Rattle.journal_controls.specs.controller_model.Entering.{events_entering, notes_all_entering}
use Rattle.journal_controls.specs.controller_model.Events.{notes_of_events, passes}
use Rattle.journal_controls.specs.controller_model.Facts.{Facts, Setup}
use Rattle.journal_controls.specs.controller_model.Links.{ends_for, facts_ending, notes_ended, notes_ending, notes_leaving}
use Rattle.journal_controls.specs.controller_model.Packets.{notes_doing}
use Rattle.journal_controls.specs.controller_model.Radio.{outcome_begun}
use Rattle.journal_controls.specs.controller_model.Side.{notes_after}
use Rattle.journal_controls.specs.controller_model.Since.{is_under, note_under, opens_under}
use Rattle.journal_controls.specs.controller_model.Step.{TurnBegins, TurnEnds}
use Rattle.journal_controls.proofs.controller_model.EndNotes.{entered_each}
use Rattle.journal_controls.proofs.controller_model.LinkNotes.{IsOfOthers, doing_too, events_too}
use Rattle.journal_controls.specs.open_links.OpenLinks.{Links, OpenLink, facts_in}
use Rattle.journal_controls.specs.open_links.Data.{completed_from}
use Rattle.journal_controls.specs.open_links.Ended.{HandlesAscend}
use Rattle.journal_controls.specs.open_links.Turns.{due_in, ending_in, enters_in, notes_entering, notes_if}
use Rattle.journal_controls.specs.open_links.declared.ended.LinkEnded.{LinkEnded}
use Rattle.journal_controls.proofs.journal_ends.open_links.Ends.{ends_ascend}

-- ---- notes that are not of a handle

pub record IsElse (handle : ℕ) (note : Note) : Type 0 where
  pub opens : opens_under handle note ≡ false
  pub under : is_under handle note ≡ false

abbrev pub AreElse : ℕ → List Note → Type 0
AreElse handle notes = AllByRecursion (IsElse handle) notes

pub else_same : (handle : ℕ) (notes more : List Note) → AreElse handle more → fold (note_under handle) notes more ≡ notes
else_same handle notes [] are = refl
else_same handle notes (note ∷ more) are =
    ap (λ xs. fold (note_under handle) xs more)
    (ap (λ b. cond b (note ∷ []) (cond (is_under handle note) (notes ++ note ∷ []) notes)) are.0.opens
    ∙ ap (λ b. cond b (notes ++ note ∷ []) notes) are.0.under)
    ∙ else_same handle notes more are.1

-- ---- the ends of links, by ascending handle

abbrev ShutsNone : Note → Type 0
ShutsNone (Shut handle reason) = ⊥
ShutsNone note = ⊤

-- packets and ends of links by ascending handle, and then what is of no end
abbrev pub Ascend : ℕ → List Note → Type 0
Ascend first [] = ⊤
Ascend first (Up packet ∷ notes) = Ascend first notes
Ascend first (Shut handle reason ∷ notes) = (first ≤ handle) × Ascend (handle + 1) notes
Ascend first (note ∷ notes) = All ShutsNone notes

none_ascend : (first : ℕ) (notes : List Note) → All ShutsNone notes → Ascend first notes
none_ascend first [] none = tt
none_ascend first (Up packet ∷ notes) none = none_ascend first notes (All-tail ShutsNone (Up packet) notes none)
none_ascend first (Shut handle reason ∷ notes) none = absurd (All-head ShutsNone (Shut handle reason) notes none)
none_ascend first (note ∷ notes) none = All-tail ShutsNone note notes none

packets_ascend : {X : Type 0} (octets_of : X → List ℕ) (all : List X) (first : ℕ) (more : List Note) → Ascend first more
    → Ascend first (map (λ one. Up (record { items = octets_of one })) all ++ more)
packets_ascend octets_of [] first more then_on = then_on
packets_ascend octets_of (one ∷ all) first more then_on = packets_ascend octets_of all first more then_on

ends_then : (view : View) (first : ℕ) (ended : List LinkEnded) (more : List Note) → HandlesAscend first ended → All ShutsNone more
    → Ascend first (flat_map (notes_ended view) ended ++ more)
ends_then view first [] more ascend none = none_ascend first more none
ends_then view first (one ∷ ended) more ascend none =
    let events = DisconnectionComplete 0 one.handle one.reason.0 ∷ [] in
    let rest = flat_map (notes_ended view) ended in (
      ascend.0,
      subst (Ascend (one.handle + 1)) (sym (append_assoc (notes_of_events view events) rest more))
          (packets_ascend written (filter (λ event. passes view (mask_bit_of event)) events) (one.handle + 1) (rest ++ more)
          (ends_then view (one.handle + 1) ended more ascend.1 none)),
    )

-- a link is noted as shut after those with smaller handles
is_above : (handle other : ℕ) → other + 1 ≤ handle → (other == handle) ≡ false
is_above handle other above = grind (arith, above)

record IsBefore (handle first : ℕ) (notes : List Note) : Type 0 where
  from : first ≤ handle
  are : AreElse handle notes

before_shut : (handle : ℕ) (reason : ErrCode) (first : ℕ) (earlier later : List Note) → Ascend first (earlier ++ Shut handle reason ∷ later)
    → IsBefore handle first earlier
before_shut handle reason first [] later ascend = record { from = ascend.0; are = tt }
before_shut handle reason first (Up packet ∷ earlier) later ascend =
    let rest = before_shut handle reason first earlier later ascend in
    record { from = rest.from; are = (record { opens = refl; under = refl }, rest.are) }
before_shut handle reason first (Shut other code ∷ earlier) later ascend =
    let rest = before_shut handle reason (other + 1) earlier later ascend.1 in
    let least = ascend.0 in
    let above = rest.from in
    record { from = omega (arith, least, above); are = (record { opens = refl; under = is_above handle other above }, rest.are) }
before_shut handle reason first (note ∷ earlier) later ascend =
    let shut = Shut handle reason in
    absurd (All-contains ShutsNone (earlier ++ shut ∷ later) shut ascend
    (Contains-append_right earlier (shut ∷ later) shut (Contains-append_left (shut ∷ []) later shut (Contains-push [] shut))))

pub nothing_before : (handle : ℕ) (reason : ErrCode) (notes earlier later : List Note) → notes ≡ earlier ++ Shut handle reason ∷ later → Ascend 0 notes
    → AreElse handle earlier
nothing_before handle reason notes earlier later is ascend = (before_shut handle reason 0 earlier later (subst (Ascend 0) is ascend)).are

-- ---- what is noted as a turn begins, and as it ends

others : IsOfOthers ShutsNone
others = record { up = λ octets. tt; opened = λ link. tt; sent = λ handle number llid octets. tt; took = λ handle number llid octets. tt }

enters_none : (enters : Bool) (slot : ℕ) (link : OpenLink) → All ShutsNone (notes_if enters slot link)
enters_none false slot link = All-nil ShutsNone
enters_none true slot link =
    All-from_recursion ShutsNone _
    (entered_each ShutsNone link.setup slot (facts_in link) (record { applied = λ number. tt; enter = tt; done = λ kind. tt; began = λ kind. tt }))

place_none : (slot : ℕ) (place : Option OpenLink) → All ShutsNone (notes_entering slot place)
place_none slot None = All-nil ShutsNone
place_none slot (Some link) = enters_none (enters_in slot link) slot link

entering_none : (view : View) (slot handle : ℕ) (links : Links) → All ShutsNone (notes_all_entering view slot handle links)
entering_none view slot handle [] = All-nil ShutsNone
entering_none view slot handle (place ∷ links) =
    let events = events_entering slot handle place in
    All-append ShutsNone (notes_entering slot place ++ notes_of_events view events) _
    (All-append ShutsNone (notes_entering slot place) (notes_of_events view events) (place_none slot place) (events_too ShutsNone others view events))
    (entering_none view slot (handle + 1) links)

pub begins_ascend : (setup : Setup) (facts : Facts) (slot : ℕ) (on : Bool) → Ascend 0 (notes_after setup facts (TurnBegins slot on))
begins_ascend setup facts slot on =
    let ending = facts_ending slot facts in
    let ends = notes_ending slot facts in
    let enters = notes_all_entering ending.view slot 0 ending.links in
    let outcome = outcome_begun slot on facts in
    let does = notes_doing outcome.next outcome.facts in
    subst (Ascend 0) (sym (append_assoc ends enters does))
    (ends_then facts.view 0 (ends_for (due_in slot) facts) (enters ++ does) (ends_ascend (due_in slot) 0 facts.links)
    (All-append ShutsNone enters does (entering_none ending.view slot 0 ending.links) (doing_too ShutsNone others outcome.next outcome.facts)))

pub ends_ascending : (setup : Setup) (facts : Facts) → Ascend 0 (notes_after setup facts TurnEnds)
ends_ascending setup facts =
    let handed = facts_handed facts in
    let pieces = notes_pieces facts in
    let events = map event_completed (completed_from 0 facts.links) in
    let leaves = notes_leaving handed in
    subst (Ascend 0) (sym (append_assoc pieces (notes_of_events facts.view events) leaves))
    (packets_ascend acl_packet (pieces_handed facts) 0 (notes_of_events facts.view events ++ leaves)
    (packets_ascend written (filter (λ event. passes facts.view (mask_bit_of event)) events) 0 leaves
    (subst (Ascend 0) (append-nil leaves)
    (ends_then handed.view 0 (ends_for ending_in handed) [] (ends_ascend ending_in 0 handed.links) (All-nil ShutsNone)))))

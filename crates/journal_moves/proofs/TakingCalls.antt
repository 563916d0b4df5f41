-- The lines of a call in which an end takes a packet, up to that of the PDU: they are those of its notes, and only
-- that of the PDU may change what the side does next.
use Rattle.std.proofs.Common.{◌≡◌, ℕ, Bool, true, false, Option, Some, List, [], ◌∷◌, ◌++◌, map, refl, sym, ap, ◌∙◌, append-nil, append_assoc, if◌then◌else◌}
use Rattle.std.specs.Prelude.{All}
use Rattle.std.specs.List.{AllByRecursion}
use Rattle.std.specs.Option.{option_map}
use Rattle.std.proofs.lemmas.Bool.{eq-eqb}
use Rattle.std.proofs.lemmas.List.Elements.{All-cons, All-head, All-nil, All-tail}
use Rattle.ble_base.specs.declared.notes.Note.{Note}
use Rattle.ble_base.specs.declared.notes.Note.TheVariants.{Done, Refused, Took, Up}
use Rattle.ble_base.specs.declared.roles.Side.{Side}
use Rattle.ble_base.specs.declared.roles.Side.TheVariants.{A, B}
use Rattle.journal.specs.declared.entries.Entry.{Entry}
use Rattle.journal.specs.declared.entries.Entry.TheVariants.{Done as DoneLine, Refused as RefusedLine, Took as TookLine}
use Rattle.journal_wants.specs.controller_model.Step.{Step}
use Rattle.journal_wants.specs.controller_model.declared.doing.Doing.{Doing}
use Rattle.journal_wants.specs.journal_controls.SaidLines.{NoneOpens}
use Rattle.journal_wants.specs.journal_controls.journal_ends.Asked.{Words}
use Rattle.journal_wants.specs.journal_data.Delivered.{host_buffers}
use Rattle.journal_wants.specs.journal_data.Held.{links_open}
use Rattle.journal_wants.specs.journal_data.Lines.{Lines, lines_after, lines_of as data_lines_of}
use Rattle.journal_wants.specs.journal_links.LinkLines.{line_of, lines_of, where_named}
use Rattle.journal_wants.specs.journal_packets.Belonging.{is_side}
use Rattle.journal_wants.specs.run_model.History.{Called, Event, Noted}
use Rattle.journal_wants.specs.run_model.Journal.{entry_of, journal_from, journal_of, side_of}
use Rattle.journal_wants.specs.run_model.Links.{Links, links_of}
use Rattle.journal_wants.specs.Station.{Setups}
use Rattle.journal_wants.proofs.LinkHandles.{lines_more}
use Rattle.journal_wants.proofs.journal_acks.Exchanging.{number_at}
use Rattle.journal_wants.proofs.journal_acks.link_calls.CallNotes.{TakesNone, is_taking}
use Rattle.journal_wants.proofs.journal_leaving.journal_ends.SeenEvents.{lines_at}
use Rattle.journal_wants.proofs.journal_links.LinkLines.{lines_append, named_here}
use Rattle.journal_wants.proofs.run_model.Parts.{journal_event, journal_more}
use Rattle.journal_moves.specs.Doing.{after_taking, doing_after}
use Rattle.journal_moves.proofs.EndedEnds.{ArePlain}
use Rattle.journal_moves.proofs.SaidLines.{line_said, none_said, said_at}

-- ---- notes of the end under a handle: of its procedures, and of a PDU that it takes

abbrev pub IsOfTaking : ℕ → Note → Type 0
IsOfTaking handle (Took other count llid body) = other ≡ handle
IsOfTaking handle (Done other kind) = other ≡ handle
IsOfTaking handle (Refused other kind code) = other ≡ handle
IsOfTaking handle note = ⊥

abbrev pub AreOfTaking : ℕ → List Note → Type 0
AreOfTaking handle notes = AllByRecursion (IsOfTaking handle) notes

pub plain_taking : (handle : ℕ) (earlier more : List Note) → ArePlain handle earlier → AreOfTaking handle more
    → AreOfTaking handle (earlier ++ more)
plain_taking handle [] more plain there = there
plain_taking handle (Done other kind ∷ earlier) more plain there =
    (plain.0, plain_taking handle earlier more plain.1 there)
plain_taking handle (Refused other kind code ∷ earlier) more plain there =
    (plain.0, plain_taking handle earlier more plain.1 there)
plain_taking handle (Up packet ∷ earlier) more plain there = absurd plain.0
plain_taking handle (note ∷ earlier) more plain there = absurd plain.0

pub plain_takes : (handle : ℕ) (notes : List Note) → ArePlain handle notes → All TakesNone notes
plain_takes handle [] plain = All-nil TakesNone
plain_takes handle (Done other kind ∷ notes) plain =
    All-cons TakesNone _ notes refl (plain_takes handle notes plain.1)
plain_takes handle (Refused other kind code ∷ notes) plain =
    All-cons TakesNone _ notes refl (plain_takes handle notes plain.1)
plain_takes handle (Up packet ∷ notes) plain = absurd plain.0
plain_takes handle (note ∷ notes) plain = absurd plain.0

-- ---- their lines

own_named : (side : Side) (number : ℕ) (line : Entry) → where_named side number (Some (side, number)) line ≡ line ∷ []
own_named side number line = sym (append-nil _) ∙ named_here side number number line (eq-eqb number number refl)

pub later_of : (side : Side) (number handle : ℕ) (notes : List Note) → AreOfTaking handle notes
    → NoneOpens (map (line_of side number) notes)
later_of side number handle [] are = tt
later_of side number handle (Took other count llid body ∷ notes) are = (refl, later_of side number handle notes are.1)
later_of side number handle (Done other kind ∷ notes) are = (refl, later_of side number handle notes are.1)
later_of side number handle (Refused other kind code ∷ notes) are = (refl, later_of side number handle notes are.1)
later_of side number handle (Up packet ∷ notes) are = absurd are.0
later_of side number handle (note ∷ notes) are = absurd are.0

module _ (station handle : ℕ) (links : Links) where
  abbrev own : Side
  own = side_of station

  abbrev under : ℕ → ℕ
  under = links.link_of station

  abbrev lines_noted : List Note → List Entry
  lines_noted notes = lines_of own (under handle) (journal_from links (map (Noted station) notes))

  abbrev lines_said : List Note → List Entry
  lines_said notes = map (line_of own (under handle)) notes

  noted_lines : (notes : List Note) → AreOfTaking handle notes → lines_noted notes ≡ lines_said notes
  noted_lines [] are = refl
  noted_lines (Took other count llid body ∷ notes) are =
      (λ i. where_named own (under handle) (Some (own, under (are.0 i)))
      (TookLine own (under (are.0 i)) count llid body.items) ++ noted_lines notes are.1 i)
      ∙ ap (λ xs. xs ++ lines_said notes)
      (own_named own (under handle) (TookLine own (under handle) count llid body.items))
  noted_lines (Done other kind ∷ notes) are =
      (λ i. where_named own (under handle) (Some (own, under (are.0 i))) (DoneLine own (under (are.0 i)) kind)
      ++ noted_lines notes are.1 i)
      ∙ ap (λ xs. xs ++ lines_said notes) (own_named own (under handle) (DoneLine own (under handle) kind))
  noted_lines (Refused other kind code ∷ notes) are =
      (λ i. where_named own (under handle) (Some (own, under (are.0 i))) (RefusedLine own (under (are.0 i)) kind code)
      ++ noted_lines notes are.1 i)
      ∙ ap (λ xs. xs ++ lines_said notes) (own_named own (under handle) (RefusedLine own (under handle) kind code))
  noted_lines (Up packet ∷ notes) are = absurd are.0
  noted_lines (note ∷ notes) are = absurd are.0

pub taking_lines : (station handle : ℕ) (step : Step) (history : List Event) (notes : List Note)
    → AreOfTaking handle notes → let side = side_of station in
    let number = number_at station handle history in
    lines_at number side (history ++ Called station step ∷ map (Noted station) notes)
    ≡ lines_at number side history ++ map (line_of side number) notes
taking_lines station handle step history notes are =
    let side = side_of station in
    let number = number_at station handle history in
    ap (lines_of side number) (journal_more history (Called station step ∷ map (Noted station) notes))
    ∙ lines_append side number (journal_of history) (journal_from (links_of history) (map (Noted station) notes))
    ∙ ap (λ xs. lines_of side number (journal_of history) ++ xs)
    (noted_lines station handle (links_of history) notes are)

-- ---- the open links

links_if : (own : Bool) (lines after : Lines) → after.links ≡ lines.links
    → (if own then after else lines).links ≡ lines.links
links_if true lines after same = same
links_if false lines after same = refl

note_links : (station handle : ℕ) (lines : Lines) (link_of : ℕ → ℕ) (last : ℕ) (note : Note) → IsOfTaking handle note
    → (lines_after host_buffers (side_of station) lines (entry_of (side_of station) link_of last note)).links
    ≡ lines.links
note_links station handle lines link_of last (Took other count llid body) is =
    links_if (is_side (side_of station) (side_of station)) lines _ refl
note_links station handle lines link_of last (Done other kind) is = refl
note_links station handle lines link_of last (Refused other kind code) is = refl
note_links station handle lines link_of last (Up packet) is = absurd is
note_links station handle lines link_of last note is = absurd is

noted_open : (station handle : ℕ) (history : List Event) (notes : List Note) → AreOfTaking handle notes
    → links_open (side_of station) (journal_of (history ++ map (Noted station) notes))
    ≡ links_open (side_of station) (journal_of history)
noted_open station handle history [] are =
    ap (λ before. links_open (side_of station) (journal_of before)) (append-nil history)
noted_open station handle history (note ∷ notes) are =
    let side = side_of station in
    let next = history ++ Noted station note ∷ [] in
    let links = links_of history in
    ap (λ before. links_open side (journal_of before))
    (sym (append_assoc history (Noted station note ∷ []) (map (Noted station) notes)))
    ∙ noted_open station handle next notes are.1
    ∙ ap (links_open side) (journal_event history (Noted station note))
    ∙ ap (λ (lines : Lines). lines.links)
    (lines_more side (journal_of history) (entry_of side (links.link_of station) (links.last_of station) note))
    ∙ note_links station handle (data_lines_of host_buffers side (journal_of history)) (links.link_of station)
    (links.last_of station) note are.0

pub taking_open : (station handle : ℕ) (step : Step) (history : List Event) (notes : List Note)
    → AreOfTaking handle notes → let side = side_of station in
    links_open side (journal_of (history ++ Called station step ∷ map (Noted station) notes))
    ≡ links_open side (journal_of history)
taking_open station handle step history notes are =
    let side = side_of station in
    ap (λ before. links_open side (journal_of before))
    (sym (append_assoc history (Called station step ∷ []) (map (Noted station) notes)))
    ∙ noted_open station handle (history ++ Called station step ∷ []) notes are
    ∙ ap (links_open side) (journal_event history (Called station step) ∙ append-nil (journal_of history))

-- ---- what the side does next

module _ (words : Words) (setups : Setups) (station : ℕ) where
  abbrev side : Side
  side = side_of station

  abbrev said : List Event → Option Doing
  said history = said_at words setups station history

  note_said : (front : List Entry) (kept : Option Doing) (link_of : ℕ → ℕ) (last : ℕ) (note : Note)
      → is_taking note ≡ false
      → doing_after words setups side front kept (entry_of side link_of last note) ≡ kept
  note_said front kept link_of last (Took handle count llid body) none = absurd cc
  note_said front kept link_of last (Up packet) none = refl
  note_said front kept link_of last note none = refl

  pub untaken_said : (notes : List Note) (history : List Event) → All TakesNone notes
      → said (history ++ map (Noted station) notes) ≡ said history
  untaken_said [] history none = ap said (append-nil history)
  untaken_said (note ∷ notes) history none =
      let next = history ++ Noted station note ∷ [] in
      let links = links_of history in
      ap said (sym (append_assoc history (Noted station note ∷ []) (map (Noted station) notes)))
      ∙ untaken_said notes next (All-tail TakesNone note notes none)
      ∙ line_said words setups station history (Noted station note)
      (entry_of side (links.link_of station) (links.last_of station) note) refl
      ∙ note_said (journal_of history) (said history) (links.link_of station) (links.last_of station) note
      (All-head TakesNone note notes none)

  pub begun_said : (step : Step) (history : List Event) → said (history ++ Called station step ∷ []) ≡ said history
  begun_said step history = none_said words setups station history (Called station step) refl

  own_side : (one : Side) → is_side one one ≡ true
  own_side A = refl
  own_side B = refl

  -- a PDU is taken
  pub taken_said : (history : List Event) (handle count llid : ℕ) (body : List ℕ) → let next =
      history ++ Noted station (Took handle count llid (record { items = body })) ∷ [] in
      said next ≡ option_map (after_taking words side (journal_of next)) (said history)
  taken_said history handle count llid body =
      let note = Took handle count llid (record { items = body }) in
      let line = TookLine side ((links_of history).link_of station handle) count llid body in
      line_said words setups station history (Noted station note) line refl
      ∙ ap (λ own. if own then option_map (after_taking words side (journal_of history ++ line ∷ []))
      (said history) else said history) (own_side side)
      ∙ ap (λ journal. option_map (after_taking words side journal) (said history))
      (sym (journal_event history (Noted station note)))

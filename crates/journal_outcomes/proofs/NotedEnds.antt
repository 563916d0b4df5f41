-- The lines of a link up to one of them are the first notes of an end of the link, also where the link ends in the call of
-- that line.
use Rattle.std.proofs.Common.{◌≡◌, ℕ, ◌==◌, ◌&&◌, Bool, true, false, Option, Some, None, List, [], ◌∷◌, ◌++◌, map, refl, sym, ap, subst, ◌∙◌, append-nil, append_assoc}
use Rattle.std.specs.Prelude.{fold, if◌then◌else◌}
use Rattle.std.proofs.lemmas.Bool.{eq-eqb, eqb-true, false_from_ne_true, or_left, or_parts}
use Rattle.std.proofs.lemmas.List.Folds.{list_any-append}
use Rattle.std.proofs.lemmas.List.Sums.{fold-append}
use Rattle.ble_base.specs.declared.notes.Note.{Note}
use Rattle.ble_base.specs.declared.notes.Note.TheVariants.{Opened}
use Rattle.journal.specs.declared.entries.Entry.{Entry}
use Rattle.journal_crossing.specs.controller_model.Facts.{Setup}
use Rattle.journal_crossing.specs.controller_model.Links.{note_opened, note_shut}
use Rattle.journal_crossing.specs.controller_model.Notes.{is_opening}
use Rattle.journal_crossing.specs.controller_model.Side.{facts_of, notes_of}
use Rattle.journal_crossing.specs.controller_model.Since.{is_under, note_under, notes_opened_on, notes_under, opens_under, was_opened}
use Rattle.journal_crossing.specs.controller_model.Step.{Step}
use Rattle.journal_crossing.specs.journal_data.link_model.End.{notes_of as end_notes_of}
use Rattle.journal_crossing.specs.journal_data.link_model.Setup.{Setup as EndSetup}
use Rattle.journal_crossing.specs.journal_data.link_model.Step.{Step as EndStep}
use Rattle.journal_crossing.specs.journal_data.open_links.OpenLinks.{OpenLink, link_at}
use Rattle.journal_crossing.specs.journal_links.LinkLines.{line_of, lines_of}
use Rattle.journal_crossing.specs.run_model.Feeding.{AreDistinct, HasNoted}
use Rattle.journal_crossing.specs.run_model.History.{Called, Event, HostFed, Noted, Transmitted, TurnBegan, noted_by, notes_in, one_if, past_of}
use Rattle.journal_crossing.specs.run_model.LinkEnds.{HaveAddresses}
use Rattle.journal_crossing.specs.run_model.Links.{Links, begins_link, first_links, links_after, links_of, with_link}
use Rattle.journal_crossing.specs.run_model.NoteLines.{IsLineInCall, LinkLine}
use Rattle.journal_crossing.specs.run_model.Run.{Given, history_of, run_of, setup_at}
use Rattle.journal_crossing.proofs.controller_model.Pasts.{notes_more}
use Rattle.journal_crossing.proofs.controller_model.UnderNotes.{open_noted, shut_noted}
use Rattle.journal_crossing.proofs.journal_data.Openness.{AreNot, IsNotedAs, is_shutting, opens_first, past_noted, shuts, stays}
use Rattle.journal_crossing.proofs.journal_links.LineNotes.{lines_are_notes}
use Rattle.journal_crossing.proofs.journal_links.OfTwo.{are_distinct, two_apart}
use Rattle.journal_crossing.proofs.run_model.Calls.{noted_called, same_station}
use Rattle.journal_crossing.proofs.run_model.LinkEnds.{AreTaken, IsUnderstood}
use Rattle.journal_crossing.proofs.run_model.NoteLines.{to_line}
use Rattle.journal_crossing.proofs.run_model.Notes.{NotedBefore, run_noted}
use Rattle.journal_crossing.proofs.run_model.OfStations.{OfStations, run_of_stations}
use Rattle.journal_crossing.proofs.run_model.Places.{each_at}
use Rattle.journal_crossing.proofs.run_model.Stations.{is_in}

-- ---- a handle under which no link was opened

flipped : (one other : ℕ) → (one == other) ≡ false → (other == one) ≡ false
flipped one other differs =
    false_from_ne_true (other == one) (λ same. absurd (let h : true ≡ false = sym (eq-eqb one other (sym (eqb-true other one same))) ∙ differs in cc))

module _ (station handle : ℕ) where
  begun_same : (begins : Bool) (links more : Links) → more.link_of station handle ≡ links.link_of station handle
      → (if begins then more else links).link_of station handle ≡ links.link_of station handle
  begun_same true links more same = same
  begun_same false links more same = refl

  unopened_note : (own : Bool) (under last old : ℕ) (note : Note) → opens_under handle note ≡ (under == handle)
      → was_opened handle (one_if own note) ≡ false → (if own && (handle == under) then last else old) ≡ old
  unopened_note true under last old note is none =
      ap (λ (b : Bool). if b then last else old) (flipped under handle (sym is ∙ (or_parts (opens_under handle note) false none).0))
  unopened_note false under last old note is none = refl

  unopened_event : (links : Links) (event : Event) → was_opened handle (notes_in station event) ≡ false
      → (links_after links event).link_of station handle ≡ links.link_of station handle
  unopened_event links (TurnBegan slot radios) none = refl
  unopened_event links (HostFed other octets) none = refl
  unopened_event links (Called other step) none = refl
  unopened_event links (Transmitted other channel octets hearings) none =
      begun_same (begins_link channel octets) links (with_link other hearings links) refl
  unopened_event links (Noted other (Opened under role own peer)) none =
      unopened_note (station == other) under (links.last_of other) (links.link_of station handle) (Opened under role own peer) refl none
  unopened_event links (Noted other note) none = refl

  unopened : (links : Links) (events : List Event) → was_opened handle (noted_by station events) ≡ false
      → (fold links_after links events).link_of station handle ≡ links.link_of station handle
  unopened links [] none = refl
  unopened links (event ∷ events) none =
      let parts = or_parts (was_opened handle (notes_in station event)) (was_opened handle (noted_by station events))
      (sym (list_any-append (opens_under handle) (notes_in station event) (noted_by station events)) ∙ none) in
      unopened (links_after links event) events parts.1 ∙ unopened_event links event parts.0

  -- has the number 0
  unnumbered : (history : List Event) → was_opened handle (noted_by station history) ≡ false → (links_of history).link_of station handle ≡ 0
  unfolding links_of
  unnumbered history none = unopened first_links history none

-- ---- lists of notes

opens_not : (handle : ℕ) (note : Note) → is_opening note ≡ false → opens_under handle note ≡ false
opens_not handle (Opened other role own peer) none = absurd cc
opens_not handle note none = refl

after_not : (kind : Note → Bool) (earlier later : List Note) (note : Note) → AreNot kind (earlier ++ note ∷ later) → AreNot kind later
after_not kind [] later note none = none.1
after_not kind (first ∷ earlier) later note none = after_not kind earlier later note none.1

-- a call opens a link first of all, or none
none_opened_later : (before after : ℕ → Bool) (notes earlier later : List Note) (note : Note) → is_opening note ≡ false → notes ≡ earlier ++ note ∷ later
    → IsNotedAs before after notes → AreNot is_opening later
none_opened_later before after notes earlier later note plain is (stays none shut same) = after_not is_opening earlier later note (subst (AreNot is_opening) is none)
none_opened_later before after notes earlier later note plain is (shuts none linked once) = after_not is_opening earlier later note (subst (AreNot is_opening) is none)
none_opened_later before after notes [] later note plain is (opens_first handle role own peer rest first none shut quiet was now others) =
    absurd (let all : Opened handle role own peer ∷ rest ≡ note ∷ later = sym first ∙ is in
    let same : Opened handle role own peer ≡ note = cc in let h : true ≡ false = ap is_opening same ∙ plain in cc)
none_opened_later before after notes (one ∷ earlier) later note plain is (opens_first handle role own peer rest first none shut quiet was now others) =
    let all : Opened handle role own peer ∷ rest ≡ one ∷ (earlier ++ note ∷ later) = sym first ∙ is in
    let tails : rest ≡ earlier ++ note ∷ later = cc in after_not is_opening earlier later note (subst (AreNot is_opening) tails none)

record HasRest (known all : List Note) : Type 0 where
  more : List Note
  is : all ≡ known ++ more

under_by : (opens under : Bool) (known : List Note) (note : Note) → opens ≡ false
    → HasRest known (if opens then note ∷ [] else if under then known ++ note ∷ [] else known)
under_by true under known note none = absurd cc
under_by false true known note none = record { more = note ∷ []; is = refl }
under_by false false known note none = record { more = []; is = sym (append-nil known) }

-- what is noted of a link that is open comes after what was noted of it
under_rest : (handle : ℕ) (known notes : List Note) → AreNot is_opening notes → HasRest known (fold (note_under handle) known notes)
under_rest handle known [] none = record { more = []; is = sym (append-nil known) }
under_rest handle known (note ∷ notes) none =
    let one = under_by (opens_under handle note) (is_under handle note) known note (opens_not handle note none.0) in
    let rest = under_rest handle (note_under handle known note) notes none.1 in record {
      more = one.more ++ rest.more;
      is = rest.is ∙ ap (λ xs. xs ++ rest.more) one.is ∙ append_assoc known one.more rest.more;
    }

-- all but the last note
not_empty : (ys zs : List Note) (note : Note) (X : Type 0) → [] ≡ ys ++ note ∷ zs → X
not_empty [] zs note X is = absurd cc
not_empty (first ∷ ys) zs note X is = absurd cc

record HasFront (xs ys : List Note) (note : Note) : Type 0 where
  later : List Note
  is : xs ≡ ys ++ note ∷ later

but_last : (xs ys zs : List Note) (last note : Note) → is_shutting last ≡ true → is_shutting note ≡ false → xs ++ last ∷ [] ≡ ys ++ note ∷ zs → HasFront xs ys note
but_last [] [] zs last note shut plain is =
    absurd (let same : last ≡ note = cc in let h : true ≡ false = sym shut ∙ ap is_shutting same ∙ plain in cc)
but_last [] (first ∷ ys) zs last note shut plain is = let rest : [] ≡ ys ++ note ∷ zs = cc in not_empty ys zs note _ rest
but_last (one ∷ xs) [] zs last note shut plain is = let same : one ≡ note = cc in record { later = xs; is = ap (λ n. n ∷ xs) same }
but_last (one ∷ xs) (first ∷ ys) zs last note shut plain is =
    let head : one ≡ first = cc in
    let tails : xs ++ last ∷ [] ≡ ys ++ note ∷ zs = cc in
    let rest = but_last xs ys zs last note shut plain tails in record { later = rest.later; is = λ i. head i ∷ rest.is i }

-- ---- a line of a link

-- a note that neither opens nor shuts the link under its handle
pub record IsPlain (note : ℕ → Note) : Type 0 where
  pub under : (handle : ℕ) → is_under handle (note handle) ≡ (handle == handle)
  pub opening : (handle : ℕ) → is_opening (note handle) ≡ false
  pub shutting : (handle : ℕ) → is_shutting (note handle) ≡ false

-- the end that noted it: it noted before what the lines before say, after the one that says that the link was opened
pub record IsOfEnd (front : List Entry) (line : LinkLine) : Type 0 where
  pub handle : ℕ
  pub setup : EndSetup
  pub past : List EndStep
  pub notes : List Note
  pub later : List Note
  pub lines_are : lines_of line.side line.number front ≡ map (line_of line.side line.number) (note_opened setup.link ∷ notes)
  pub notes_are : end_notes_of setup past ≡ notes ++ line.note handle ∷ later

of_end : (front : List Entry) (line : LinkLine) (handle : ℕ) (setup : EndSetup) (past : List EndStep) (known later : List Note)
    → is_opening (line.note handle) ≡ false → lines_of line.side line.number front ≡ map (line_of line.side line.number) known
    → notes_opened_on setup past ≡ known ++ line.note handle ∷ later → IsOfEnd front line
of_end front line handle setup past [] later plain lines is =
    absurd (let same : note_opened setup.link ≡ line.note handle = cc in let h : true ≡ false = ap is_opening same ∙ plain in cc)
of_end front line handle setup past (first ∷ known) later plain lines is =
    let head : note_opened setup.link ≡ first = cc in
    let tails : end_notes_of setup past ≡ known ++ line.note handle ∷ later = cc in record {
      handle = handle;
      setup = setup;
      past = past;
      notes = known;
      later = later;
      lines_are = lines ∙ ap (λ n. map (line_of line.side line.number) (n ∷ known)) (sym head);
      notes_are = tails;
    }

module _ (understood : IsUnderstood) (taken : AreTaken) (given : Given) (are_two : given.stations ≡ 0 ∷ 1 ∷ []) (six : HaveAddresses given)
    (front : List Entry) (line : LinkLine) (call : IsLineInCall given front line) (plain : IsPlain line.note) (named : line.number ≡ 0 → ⊥) where
  abbrev handle : ℕ
  handle = call.handle

  abbrev station : ℕ
  station = call.station

  abbrev note : Note
  note = line.note call.handle

  abbrev setup : Setup
  setup = setup_at given call.station

  abbrev past : List Step
  past = past_of call.station call.base

  abbrev past_then : List Step
  past_then = past_of call.station call.base ++ call.step ∷ []

  distinct : AreDistinct given.stations
  distinct = are_distinct given are_two

  in_it : is_in call.station given.stations ≡ true
  in_it = each_at (OfStations given) (history_of (run_of given)) call.base call.after (Called call.station call.step) (run_of_stations given) call.called

  -- what is noted of the link before the line
  abbrev known : List Note
  known = notes_under call.handle (noted_by call.station call.before)

  was : was_opened call.handle (noted_by call.station call.before) ≡ true
  was = by (was_opened call.handle (noted_by call.station call.before)) refl
    where
      by : (opened : Bool) → was_opened call.handle (noted_by call.station call.before) ≡ opened → opened ≡ true
      by true is = refl
      by false is = absurd (named (sym call.number_is ∙ unnumbered call.station call.handle call.before is))

  known_lines : lines_of line.side line.number front ≡ map (line_of line.side line.number) known
  known_lines =
      to_line given front line call (λ n entries one. lines_of one n entries ≡ map (line_of one n) known)
      (lines_are_notes understood taken given distinct six call.station (two_apart given are_two call.station in_it) call.before
      (Noted call.station note ∷ call.rest) call.handle call.is_at was)

  base_noted : HasNoted given call.station call.base
  base_noted =
      each_at (NotedBefore given) (history_of (run_of given)) call.base call.after (Called call.station call.step) (run_noted given).each call.called refl call.station

  -- all that the controller noted after the call
  noted_then : notes_of setup past_then ≡ noted_by call.station call.before ++ note ∷ call.later
  noted_then =
      notes_more setup past call.step ∙ (λ i. sym base_noted i ++ call.notes_are i)
      ∙ sym (append_assoc (noted_by call.station call.base) call.earlier (note ∷ call.later))
      ∙ ap (λ xs. xs ++ note ∷ call.later)
      (sym (ap (noted_by call.station) call.before_is ∙ noted_called call.station call.station call.step call.earlier call.base true (same_station call.station)))

  was_then : was_opened call.handle (notes_of setup past_then) ≡ true
  was_then =
      ap (was_opened call.handle) noted_then ∙ list_any-append (opens_under call.handle) (noted_by call.station call.before) (note ∷ call.later)
      ∙ or_left (was_opened call.handle (noted_by call.station call.before)) (was_opened call.handle (note ∷ call.later)) was

  -- the link is opened by no later note of the call
  rest : HasRest (note_under call.handle known note) (fold (note_under call.handle) (note_under call.handle known note) call.later)
  rest =
      under_rest call.handle (note_under call.handle known note) call.later
      (none_opened_later _ _ _ call.earlier call.later note (plain.opening call.handle) call.notes_are (past_noted setup past call.step))

  noted_here : note_under call.handle known note ≡ known ++ note ∷ []
  noted_here =
      ap (λ (b : Bool). if b then note ∷ [] else if is_under call.handle note then known ++ note ∷ [] else known)
      (opens_not call.handle note (plain.opening call.handle))
      ∙ ap (λ (b : Bool). if b then known ++ note ∷ [] else known) (plain.under call.handle ∙ eq-eqb call.handle call.handle refl)

  under_then : notes_under call.handle (notes_of setup past_then) ≡ known ++ note ∷ rest.more
  under_then =
      ap (notes_under call.handle) noted_then ∙ fold-append (note_under call.handle) [] (noted_by call.station call.before) (note ∷ call.later)
      ∙ rest.is ∙ ap (λ xs. xs ++ rest.more) noted_here ∙ append_assoc known (note ∷ []) rest.more

  pub end_of_lines : IsOfEnd front line
  end_of_lines = by (link_at call.handle (facts_of setup past_then).links) refl
    where
      by : (found : Option OpenLink) → link_at call.handle (facts_of setup past_then).links ≡ found → IsOfEnd front line
      by (Some link) at =
          of_end front line call.handle link.setup link.past known rest.more (plain.opening call.handle) known_lines
          (sym (open_noted call.handle setup past_then link at) ∙ under_then)
      by None at =
          let shut = shut_noted call.handle setup past_then at was_then in
          let front_is = but_last (notes_opened_on shut.setup shut.past) known rest.more (note_shut call.handle shut.reason) note refl (plain.shutting call.handle)
          (sym shut.notes_are ∙ under_then) in
          of_end front line call.handle shut.setup shut.past known front_is.later (plain.opening call.handle) known_lines front_is.is

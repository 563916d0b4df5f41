-- Each open link of a side has its handle by its number, by the lines of the side: no two of them have one number.
use Rattle.std.proofs.Common.{◌≡◌, ℕ, ◌==◌, Bool, true, false, Some, None, List, [], ◌∷◌, ◌++◌, cond, refl, sym, ap, subst, ◌∙◌, append-nil, append_assoc, if◌then◌else◌}
use Rattle.std.specs.Prelude.{◌||◌, filter, not, ⊤}
use Rattle.std.specs.List.{find}
use Rattle.std.specs.Option.{option_map}
use Rattle.std.proofs.lemmas.Bool.{eq-eqb, eqb-true}
use Rattle.std.proofs.lemmas.List.Sums.{fold-append}
use Rattle.ble_base.specs.declared.notes.Note.{Note}
use Rattle.ble_base.specs.declared.notes.Note.TheVariants.{Enter as EnterNote, Shut as ShutNote}
use Rattle.ble_base.specs.declared.roles.Role.{Role}
use Rattle.ble_base.specs.declared.roles.Side.{Side}
use Rattle.ble_base.specs.declared.roles.Side.TheVariants.{A, B}
use Rattle.journal.specs.declared.entries.Entry.{Entry}
use Rattle.journal.specs.declared.entries.Entry.TheVariants.{Enter, Opened, Shut}
use Rattle.journal_events.specs.journal_sending.journal_data.Delivered.{host_buffers}
use Rattle.journal_events.specs.journal_sending.journal_data.Held.{LinesAreOfOpenLinks, is_open_link, links_open}
use Rattle.journal_events.specs.journal_sending.journal_data.HostLines.{OpenUnder, link_under}
use Rattle.journal_events.specs.journal_sending.journal_data.Lines.{Lines, is_of_side, line_after, lines_after, lines_of, no_lines}
use Rattle.journal_events.specs.journal_sending.journal_packets.Belonging.{is_side}
use Rattle.journal_events.specs.journal_sending.run_model.Due.{Each}
use Rattle.journal_events.specs.journal_sending.run_model.History.{Event, Noted}
use Rattle.journal_events.specs.journal_sending.run_model.Journal.{journal_from, journal_of, side_of}
use Rattle.journal_events.specs.journal_sending.run_model.Links.{links_of}
use Rattle.journal_events.proofs.journal_sending.journal_acks.Exchanging.{number_at}
use Rattle.journal_events.proofs.journal_sending.journal_data.HeldNotes.{IsHeld}
use Rattle.journal_events.proofs.journal_sending.run_model.Parts.{journal_event, journal_more}
use Rattle.journal_events.proofs.journal_sending.run_model.Places.{each_at}
use Rattle.journal_wants.specs.Station.{handle_of}
use Rattle.journal_wants.proofs.CallLines.{IsResolved}

-- ---- no two links have one number

abbrev pub AreOnce : List OpenUnder → Type 0
AreOnce [] = ⊤
AreOnce (one ∷ links) = (is_open_link one.link links ≡ false) × AreOnce links

neither : (one other : Bool) → (one || other) ≡ false → (one ≡ false) × (other ≡ false)
neither true other none = absurd cc
neither false other none = (refl, none)

swapped : (one other : ℕ) → (one == other) ≡ false → (other == one) ≡ false
swapped one other differs = by (other == one) refl
  where
    by : (same : Bool) → (other == one) ≡ same → (other == one) ≡ false
    by true same = absurd (let h : true ≡ false = sym (eq-eqb one other (sym (eqb-true other one same))) ∙ differs in absurd cc)
    by false differs = differs

-- one more at the end
still_new : (number link handle : ℕ) (links : List OpenUnder) → is_open_link number links ≡ false → (link == number) ≡ false
    → is_open_link number (links ++ record { link = link; handle = handle } ∷ []) ≡ false
still_new number link handle [] none differs = ap (λ b. b || false) differs
still_new number link handle (one ∷ links) none differs =
    let both = neither (one.link == number) (is_open_link number links) none in
    λ i. both.0 i || still_new number link handle links both.1 differs i

once_opened : (link handle : ℕ) (links : List OpenUnder) → AreOnce links → is_open_link link links ≡ false
    → AreOnce (links ++ record { link = link; handle = handle } ∷ [])
once_opened link handle [] once new = (refl, tt)
once_opened link handle (one ∷ links) once new =
    let both = neither (one.link == link) (is_open_link link links) new in
    (still_new one.link link handle links once.0 (swapped one.link link both.0), once_opened link handle links once.1 both.1)

-- some of them
none_left : (number : ℕ) (stays : OpenUnder → Bool) (links : List OpenUnder) → is_open_link number links ≡ false → is_open_link number (filter stays links) ≡ false
none_left number stays [] none = refl
none_left number stays (one ∷ links) none =
    let both = neither (one.link == number) (is_open_link number links) none in by (stays one) both.0 (none_left number stays links both.1)
  where
    by : (is : Bool) → (one.link == number) ≡ false → is_open_link number (filter stays links) ≡ false
        → is_open_link number (cond is (one ∷ filter stays links) (filter stays links)) ≡ false
    by true differs rest = λ i. differs i || rest i
    by false differs rest = rest

once_left : (stays : OpenUnder → Bool) (links : List OpenUnder) → AreOnce links → AreOnce (filter stays links)
once_left stays [] once = tt
once_left stays (one ∷ links) once = by (stays one) (none_left one.link stays links once.0) (once_left stays links once.1)
  where
    by : (is : Bool) → is_open_link one.link (filter stays links) ≡ false → AreOnce (filter stays links) → AreOnce (cond is (one ∷ filter stays links) (filter stays links))
    by true none rest = (none, rest)
    by false none rest = rest

-- ---- a number tells its handle

is_there : (number handle : ℕ) (links : List OpenUnder) → link_under handle links ≡ Some number → is_open_link number links ≡ true
is_there number handle [] is = absurd (let h : None ≡ Some number = is in absurd cc)
is_there number handle (one ∷ links) is = by (one.handle == handle) (one.link == number) refl is (λ rest. is_there number handle links rest)
  where
    by : (own same : Bool) → (one.link == number) ≡ same
        → option_map (λ (x : OpenUnder). x.link) (cond own (Some one) (find (λ (x : OpenUnder). x.handle == handle) links)) ≡ Some number
        → (link_under handle links ≡ Some number → is_open_link number links ≡ true) → (same || is_open_link number links) ≡ true
    by own true same is rest = refl
    by true false differs is rest =
        let equal : one.link ≡ number = cc in
        absurd (let h : true ≡ false = sym (eq-eqb one.link number equal) ∙ differs in absurd cc)
    by false false differs is rest = rest is

pub handle_is : (number handle : ℕ) (links : List OpenUnder) → AreOnce links → link_under handle links ≡ Some number → handle_of number links ≡ Some handle
handle_is number handle [] once is = absurd (let h : None ≡ Some number = is in absurd cc)
handle_is number handle (one ∷ links) once is =
    by (one.handle == handle) (one.link == number) refl refl is (λ rest. handle_is number handle links once.1 rest)
  where
    by : (own same : Bool) → (one.handle == handle) ≡ own → (one.link == number) ≡ same
        → option_map (λ (x : OpenUnder). x.link) (cond own (Some one) (find (λ (x : OpenUnder). x.handle == handle) links)) ≡ Some number
        → (link_under handle links ≡ Some number → handle_of number links ≡ Some handle)
        → option_map (λ (x : OpenUnder). x.handle) (cond same (Some one) (find (λ (x : OpenUnder). x.link == number) links)) ≡ Some handle
    by true true own same is rest = ap Some (eqb-true one.handle handle own)
    by true false own differs is rest =
        let equal : one.link ≡ number = cc in
        absurd (let h : true ≡ false = sym (eq-eqb one.link number equal) ∙ differs in absurd cc)
    by false true other same is rest =
        let there = is_there number handle links is in
        absurd (let h : true ≡ false = sym there ∙ ap (λ n. is_open_link n links) (sym (eqb-true one.link number same)) ∙ once.0 in absurd cc)
    by false false other differs is rest = rest is

-- ---- by the lines of a journal

pub lines_more : (side : Side) (front : List Entry) (line : Entry) → lines_of host_buffers side (front ++ line ∷ []) ≡ lines_after host_buffers side (lines_of host_buffers side front) line
unfolding lines_of
lines_more side front line = fold-append (lines_after host_buffers side) no_lines front (line ∷ [])

same_side : (one other : Side) → is_side one other ≡ true → one ≡ other
same_side A A is = refl
same_side A B is = absurd cc
same_side B A is = absurd cc
same_side B B is = refl

module _ (side : Side) (journal : List Entry) (held : LinesAreOfOpenLinks journal) where
  one_line : (front rest : List Entry) (line : Entry) → journal ≡ front ++ line ∷ rest → AreOnce (links_open side front) → AreOnce (links_open side (front ++ line ∷ []))
  one_line front rest line at once = subst (λ (lines : Lines). AreOnce lines.links) (sym (lines_more side front line)) (by line at)
    where
      opened : (own : Bool) (other : Side) (link handle : ℕ) (role : Role) → is_side other side ≡ own → journal ≡ front ++ Opened other link handle role ∷ rest
          → AreOnce (if own then record (lines_of host_buffers side front) { links = links_open side front ++ record { link = link; handle = handle } ∷ [] } else lines_of host_buffers side front).links
      opened true other link handle role is at =
          let new = held.opened front rest other link handle role at in
          once_opened link handle (links_open side front) once
          (subst (λ s. is_open_link link (links_open s front) ≡ false) (same_side other side is) new.new)
      opened false other link handle role is at = once

      shut : (own : Bool) (link : ℕ)
          → AreOnce (if own then record (lines_of host_buffers side front) { links = filter (λ (one : OpenUnder). not (one.link == link)) (links_open side front) } else lines_of host_buffers side front).links
      shut true link = once_left (λ (one : OpenUnder). not (one.link == link)) (links_open side front) once
      shut false link = once

      kept : (own : Bool) (after : Lines) → after.links ≡ links_open side front → AreOnce (if own then after else lines_of host_buffers side front).links
      kept true after same = subst AreOnce (sym same) once
      kept false after same = once

      by : (one : Entry) → journal ≡ front ++ one ∷ rest → AreOnce (lines_after host_buffers side (lines_of host_buffers side front) one).links
      by (Opened other link handle role) at = opened (is_side other side) other link handle role refl at
      by (Shut other link reason) at = shut (is_side other side) link
      by one at = kept (is_of_side side one) (line_after host_buffers (lines_of host_buffers side front) one) refl

  along : (front more rest : List Entry) → journal ≡ front ++ (more ++ rest) → AreOnce (links_open side front) → AreOnce (links_open side (front ++ more))
  along front [] rest at once = subst (λ xs. AreOnce (links_open side xs)) (sym (append-nil front)) once
  along front (line ∷ more) rest at once =
      subst (λ xs. AreOnce (links_open side xs)) (append_assoc front (line ∷ []) more)
      (along (front ++ line ∷ []) more rest (at ∙ sym (append_assoc front (line ∷ []) (more ++ rest)))
      (one_line front (more ++ rest) line at once))

  first_once : AreOnce (links_open side [])
  unfolding lines_of
  first_once = tt

  pub once_before : (front rest : List Entry) → journal ≡ front ++ rest → AreOnce (links_open side front)
  once_before front rest at = along [] front rest at first_once

-- ---- in a run

pub all_resolved : (station : ℕ) (history : List Event) → LinesAreOfOpenLinks (journal_of history) → Each IsHeld [] history
    → (before more : List Event) (note : Note) → history ≡ before ++ Noted station note ∷ more → IsResolved station before note
all_resolved station history held each before more note at = by note at
  where
    fronts : (one : Note) → history ≡ before ++ Noted station one ∷ more
        → journal_of history ≡ journal_of before ++ journal_from (links_of before) (Noted station one ∷ more)
    fronts one at = ap journal_of at ∙ journal_more before (Noted station one ∷ more)

    by : (one : Note) → history ≡ before ++ Noted station one ∷ more → IsResolved station before one
    by (ShutNote handle reason) at =
        handle_is (number_at station handle before) handle (links_open (side_of station) (journal_of before))
        (once_before (side_of station) (journal_of history) held (journal_of before) (journal_from (links_of before) (Noted station (ShutNote handle reason) ∷ more)) (fronts _ at))
        (each_at IsHeld history before more (Noted station (ShutNote handle reason)) each at)
    by (EnterNote handle event channel) at =
        let note = EnterNote handle event channel in
        let line = Enter (side_of station) (number_at station handle before) event.0 channel in
        let same : links_open (side_of station) (journal_of (before ++ Noted station note ∷ [])) ≡ links_open (side_of station) (journal_of before) =
        ap (links_open (side_of station)) (journal_event before (Noted station note))
        ∙ ap (λ (lines : Lines). lines.links) (lines_more (side_of station) (journal_of before) line) in
        ap (handle_of (number_at station handle before)) same
        ∙ handle_is (number_at station handle before) handle (links_open (side_of station) (journal_of before))
        (once_before (side_of station) (journal_of history) held (journal_of before) (journal_from (links_of before) (Noted station note ∷ more)) (fronts _ at))
        (each_at IsHeld history before more (Noted station note) each at)
    by one at = tt

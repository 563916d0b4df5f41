-- The link of a line, and the role of its end, by the line that says that it was opened.
use Rattle.std.proofs.Common.{◌≡◌, ℕ, ◌==◌, Bool, true, false, Option, Some, None, List, [], ◌∷◌, ◌++◌, map, refl, sym, ap, ◌∙◌, append_assoc}
use Rattle.std.specs.Prelude.{if◌then◌else◌}
use Rattle.ble_base.specs.Side.{other_side}
use Rattle.ble_base.specs.declared.addresses.Address.{Address}
use Rattle.ble_base.specs.declared.notes.Note.TheVariants.{Opened as OpenedNote}
use Rattle.ble_base.specs.declared.roles.Role.{Role}
use Rattle.ble_base.specs.declared.roles.Role.TheVariants.{Central, Peripheral}
use Rattle.ble_base.specs.declared.roles.Side.{Side}
use Rattle.ble_base.specs.declared.roles.Side.TheVariants.{A, B}
use Rattle.journal.specs.declared.entries.Entry.{Entry}
use Rattle.journal.specs.declared.entries.Entry.TheVariants.{Opened}
use Rattle.journal_crossing.specs.journal_links.Begun.{LinkBegun, link_numbered}
use Rattle.journal_crossing.specs.journal_links.LinkLines.{line_of, link_named, lines_of, where_named}
use Rattle.journal_crossing.specs.journal_links.Opened.{central_side}
use Rattle.journal_crossing.specs.run_model.History.{Event, Noted}
use Rattle.journal_crossing.specs.run_model.Journal.{journal_of, side_of}
use Rattle.journal_crossing.specs.run_model.LinkEnds.{HaveAddresses}
use Rattle.journal_crossing.specs.run_model.Links.{links_of}
use Rattle.journal_crossing.specs.run_model.NoteLines.{LinkLine, link_line}
use Rattle.journal_crossing.specs.run_model.Readers.{of_side}
use Rattle.journal_crossing.specs.run_model.Run.{Given, history_of, run_of}
use Rattle.journal_crossing.proofs.journal_links.LinksBegun.{number_stays}
use Rattle.journal_crossing.proofs.journal_links.OfTwo.{are_distinct, of_two_stations}
use Rattle.journal_crossing.proofs.journal_links.OpenedLines.{opened_note}
use Rattle.journal_crossing.proofs.run_model.LinkEnds.{AreTaken, IsUnderstood}
use Rattle.journal_crossing.proofs.run_model.NoteLines.{line_in_call, note_line}
use Rattle.journal_crossing.proofs.run_model.Numbers.{opening_at}
use Rattle.journal_crossing.proofs.run_model.OfStations.{OfStations, run_of_stations}
use Rattle.journal_crossing.proofs.run_model.Places.{each_at}
use Rattle.journal_crossing.proofs.journal_data.NumberedEnds.{front_of_two, numbered_end}
use Rattle.journal_outcomes.proofs.NotedEnds.{IsOfEnd, IsPlain, end_of_lines}
use Rattle.journal_outcomes.proofs.Places.{AtMostOne, NoneIn, OneIn, place_of}

-- ---- a line of a side on a link, in the journal

abbrev own_line : Side → ℕ → Entry → List Entry
own_line side number line = where_named side number (link_named line) line

few_own : (side : Side) (number : ℕ) (line : Entry) → AtMostOne Entry (own_line side number line)
few_own side number line = by (link_named line)
  where
    one : (here there : Side) (same : Bool) → AtMostOne Entry (of_side here there (if same then line ∷ [] else []))
    one A A true = OneIn line refl
    one B B true = OneIn line refl
    one A A false = NoneIn refl
    one B B false = NoneIn refl
    one A B same = NoneIn refl
    one B A same = NoneIn refl

    by : (may : Option (Side × ℕ)) → AtMostOne Entry (where_named side number may line)
    by None = NoneIn refl
    by (Some named) = one side named.0 (named.1 == number)

same_line : (side : Side) (number : ℕ) (line one : Entry) → own_line side number line ≡ one ∷ [] → line ≡ one
same_line side number line one = by (link_named line)
  where
    at : (here there : Side) (same : Bool) → of_side here there (if same then line ∷ [] else []) ≡ one ∷ [] → line ≡ one
    at A A true is = cc
    at B B true is = cc
    at A A false is = absurd cc
    at B B false is = absurd cc
    at A B same is = absurd cc
    at B A same is = absurd cc

    by : (may : Option (Side × ℕ)) → where_named side number may line ≡ one ∷ [] → line ≡ one
    by None is = absurd cc
    by (Some named) is = at side named.0 (named.1 == number) is

-- it is where the lines of the side on the link have it
pub record IsAmong (side : Side) (number : ℕ) (entries : List Entry) (line : Entry) : Type 0 where
  pub before : List Entry
  pub after : List Entry
  pub is : entries ≡ before ++ line ∷ after

pub among : (side : Side) (number : ℕ) (entries earlier later : List Entry) (line : Entry) → lines_of side number entries ≡ earlier ++ line ∷ later
    → IsAmong side number entries line
among side number entries earlier later line is =
    let place = place_of Entry (own_line side number) (few_own side number) entries earlier later line is in record {
      before = place.before;
      after = place.after;
      is = place.is ∙ ap (λ one. place.before ++ one ∷ place.after) (same_line side number place.line line place.line_is);
    }

-- ---- the link of a line

-- the link with this number begins before, and this is the role of its end on this side
pub record IsOnLink (front : List Entry) (side : Side) (number : ℕ) (role : Role) : Type 0 where
  pub link : LinkBegun
  pub is_link : link_numbered number front ≡ Some link
  pub central_is : link.central ≡ central_side role side

module _ (understood : IsUnderstood) (taken : AreTaken) (given : Given) (are_two : given.stations ≡ 0 ∷ 1 ∷ []) (six : HaveAddresses given) where
  abbrev journal : List Entry
  journal = journal_of (history_of (run_of given))

  noted_on : (front : List Entry) (before after : List Event) (station : ℕ) (side : Side) (number handle : ℕ) (role : Role) (own peer : Address)
      → history_of (run_of given) ≡ before ++ Noted station (OpenedNote handle role own peer) ∷ after
      → front ≡ journal_of before → side ≡ side_of station → number ≡ (links_of before).last_of station → IsOnLink front side number role
  noted_on front before after station side number handle role own peer at front_is side_is number_is =
      let event = Noted station (OpenedNote handle role own peer) in
      let last = (links_of before).last_of station in
      let opening = opening_at understood taken given before after station handle role own peer (are_distinct given are_two) six at in
      let in_it = each_at (OfStations given) (history_of (run_of given)) before after event (run_of_stations given) at in
      let end = numbered_end before last station opening.end (front_of_two understood taken given are_two six before (event ∷ after) at)
      (of_two_stations given are_two station in_it) opening.has in record {
        link = end.link;
        is_link = ap (λ n. link_numbered n front) number_is ∙ ap (link_numbered last) front_is ∙ end.is_link;
        central_is = end.central_is ∙ ap (λ (one : Role). central_side one (side_of station)) opening.role_is ∙ ap (central_side role) (sym side_is);
      }

  opened_on : (front rest : List Entry) (side : Side) (number handle : ℕ) (role : Role)
      → journal ≡ front ++ Opened side number handle role ∷ rest → IsOnLink front side number role
  opened_on front rest side number handle role is =
      let line = note_line given front rest (Opened side number handle role) is refl in
      let opened = opened_note (links_of line.before) line.station line.note side number handle role line.entry_is in
      let at : history_of (run_of given) ≡ line.before ++ Noted line.station (OpenedNote handle role opened.own opened.peer) ∷ line.after =
      line.is_at ∙ ap (λ n. line.before ++ Noted line.station n ∷ line.after) opened.is in
      noted_on front line.before line.after line.station side number handle role opened.own opened.peer at line.front_is opened.side_is opened.number_is

  pub record HasEnd (front : List Entry) (line : LinkLine) : Type 0 where
    pub end : IsOfEnd front line
    pub on : IsOnLink front line.side line.number end.setup.link.role

  -- the end of a line that is of some link
  pub end_of : (front rest : List Entry) (entry : Entry) (line : LinkLine) → link_line entry ≡ Some line → IsPlain line.note → (line.number ≡ 0 → ⊥)
      → journal ≡ front ++ entry ∷ rest → HasEnd front line
  end_of front rest entry line says plain named is =
      let call = line_in_call given front rest entry line says is in
      let end = end_of_lines understood taken given are_two six front line call plain named in
      let role = end.setup.link.role in
      let opening = Opened line.side line.number end.setup.link.handle role in
      let place = among line.side line.number front [] (map (line_of line.side line.number) end.notes) opening end.lines_are in
      let on = opened_on place.before (place.after ++ entry ∷ rest) line.side line.number end.setup.link.handle role
      (is ∙ ap (λ (xs : List Entry). xs ++ entry ∷ rest) place.is ∙ append_assoc place.before (opening ∷ place.after) (entry ∷ rest)) in record {
        end = end;
        on = record {
          link = on.link;
          is_link = ap (link_numbered line.number) place.is ∙ number_stays line.number place.before (opening ∷ place.after) on.link on.is_link;
          central_is = on.central_is;
        };
      }

-- the end of the side that is not the central is the peripheral
pub far_role : (central side : Side) (role : Role) → side ≡ other_side central → central ≡ central_side role side → role ≡ Peripheral
far_role central side Peripheral far is = refl
far_role A side Central far is = absurd (let h : A ≡ B = is ∙ far in cc)
far_role B side Central far is = absurd (let h : B ≡ A = is ∙ far in cc)

-- no link has the number 0
pub some_number : (number : ℕ) (front : List Entry) (link : LinkBegun) → link_numbered number front ≡ Some link → number ≡ 0 → ⊥
some_number number front link is zero_is = absurd (let h : None ≡ Some link = sym (ap (λ n. link_numbered n front) zero_is) ∙ is in cc)

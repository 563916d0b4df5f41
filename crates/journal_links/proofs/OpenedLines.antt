-- Each line of a link that is opened names a link of the journal, and is in the turn of its CONNECT_IND.
use Rattle.std.proofs.Common.{◌≡◌, ℕ, ◌+◌, List, ◌∷◌, ◌++◌, length, sym, ap, ◌∙◌, refl}
use Rattle.ble_base.specs.declared.addresses.Address.{Address}
use Rattle.ble_base.specs.declared.notes.Note.{Note}
use Rattle.ble_base.specs.declared.notes.Note.TheVariants.{Up as UpNote, Opened as OpenedNote}
use Rattle.ble_base.specs.declared.roles.Role.{Role}
use Rattle.ble_base.specs.declared.roles.Side.{Side}
use Rattle.journal.specs.declared.entries.Entry.{Entry}
use Rattle.journal.specs.declared.entries.Entry.TheVariants.{Opened}
use Rattle.radio_replay.specs.Script.{Script}
use Rattle.run_laws.specs.run_model.History.{Event, Noted}
use Rattle.run_laws.specs.run_model.Journal.{entry_of, journal_of, side_of}
use Rattle.run_laws.specs.run_model.Links.{Links, links_of}
use Rattle.run_laws.specs.run_model.Pair.{given_of}
use Rattle.run_laws.specs.run_model.Readers.{turns_of}
use Rattle.run_laws.specs.run_model.Run.{Given, history_of, run_of}
use Rattle.run_laws.proofs.run_model.Fates.{turns_are}
use Rattle.run_laws.proofs.run_model.LinkEnds.{AreTaken, IsUnderstood, pair_addresses}
use Rattle.run_laws.proofs.run_model.NoteLines.{note_line}
use Rattle.run_laws.proofs.run_model.Numbers.{opening_at}
use Rattle.run_laws.proofs.run_model.OfStations.{OfStations, run_of_stations}
use Rattle.run_laws.proofs.run_model.Ordered.{pair_distinct}
use Rattle.run_laws.proofs.run_model.Places.{each_at}
use Rattle.journal_links.specs.Begun.{link_numbered}
use Rattle.journal_links.specs.Opened.{IsOpenedInTime, central_side}
use Rattle.journal_links.proofs.Numbered.{link_of_number}

-- ---- the note of a line

pub record IsOpenedNote (links : Links) (station : ℕ) (note : Note) (side : Side) (number handle : ℕ) (role : Role) : Type 0 where
  pub own : Address
  pub peer : Address
  pub is : note ≡ OpenedNote handle role own peer
  pub side_is : side ≡ side_of station
  pub number_is : number ≡ links.last_of station

pub opened_note : (links : Links) (station : ℕ) (note : Note) (side : Side) (number handle : ℕ) (role : Role)
    → entry_of (side_of station) (links.link_of station) (links.last_of station) note ≡ Opened side number handle role
    → IsOpenedNote links station note side number handle role
opened_note links station (OpenedNote under part own peer) side number handle role is =
    let sides : side_of station ≡ side = cc in
    let numbers : links.last_of station ≡ number = cc in
    let handles : under ≡ handle = cc in
    let roles : part ≡ role = cc in record {
      own = own;
      peer = peer;
      is = λ i. OpenedNote (handles i) (roles i) own peer;
      side_is = sym sides;
      number_is = sym numbers;
    }
opened_note links station (UpNote packet) side number handle role is = absurd cc
opened_note links station note side number handle role is = absurd cc

-- ---- a line

module _ (understood : IsUnderstood) (taken : AreTaken) (a b : List ℕ) (script : Script) (six : length script.a.public ≡ 6) (six_too : length script.b.public ≡ 6) where
  abbrev given : Given
  given = given_of a b script

  noted_in_time : (front : List Entry) (before after : List Event) (station : ℕ) (side : Side) (number handle : ℕ) (role : Role) (own peer : Address)
      → history_of (run_of given) ≡ before ++ Noted station (OpenedNote handle role own peer) ∷ after
      → front ≡ journal_of before → side ≡ side_of station → number ≡ (links_of before).last_of station → IsOpenedInTime front side number role
  noted_in_time front before after station side number handle role own peer at front_is side_is number_is =
      let event = Noted station (OpenedNote handle role own peer) in
      let last = (links_of before).last_of station in
      let opening = opening_at understood taken given before after station handle role own peer (pair_distinct a b script)
      (pair_addresses a b script six six_too) at in
      let in_it = each_at (OfStations given) (history_of (run_of given)) before after event (run_of_stations given) at in
      let of = link_of_number understood a b script six six_too before (event ∷ after) last station opening.end at in_it opening.has in record {
        link = of.link;
        is_link = ap (λ n. link_numbered n front) number_is ∙ ap (link_numbered last) front_is ∙ of.is_link;
        central_is = of.central_is ∙ ap (λ (one : Role). central_side one (side_of station)) opening.role_is ∙ ap (central_side role) (sym side_is);
        in_turn = ap (λ n. n + 1) of.slot_is ∙ sym opening.now ∙ sym (turns_are before) ∙ ap (λ entries. length (turns_of entries)) (sym front_is);
      }

  pub opened_in_time : (front rest : List Entry) (side : Side) (number handle : ℕ) (role : Role)
      → journal_of (history_of (run_of given)) ≡ front ++ Opened side number handle role ∷ rest → IsOpenedInTime front side number role
  opened_in_time front rest side number handle role is =
      let line = note_line given front rest (Opened side number handle role) is refl in
      let opened = opened_note (links_of line.before) line.station line.note side number handle role line.entry_is in
      let at : history_of (run_of given) ≡ line.before ++ Noted line.station (OpenedNote handle role opened.own opened.peer) ∷ line.after =
      line.is_at ∙ ap (λ n. line.before ++ Noted line.station n ∷ line.after) opened.is in
      noted_in_time front line.before line.after line.station side number handle role opened.own opened.peer at line.front_is opened.side_is opened.number_is

-- An end that only said that its link is opened, by the lines.
use Rattle.std.proofs.Common.{◌≡◌, ℕ, suc, ◌⊎◌, Bool, true, false, Option, Some, None, List, [], ◌∷◌, ◌++◌, map, refl, sym, ap, subst, ◌+◌, ◌∙◌, append-nil, append_assoc, arith}
use Rattle.std.specs.Prelude.{◌&&◌, ◌-◌, length, slice_get}
use Rattle.ble_base.specs.Side.{other_side}
use Rattle.ble_base.specs.declared.addresses.Address.{Address}
use Rattle.ble_base.specs.declared.notes.Note.{Note}
use Rattle.ble_base.specs.declared.notes.Note.TheVariants.{Opened as OpenedNote}
use Rattle.ble_base.specs.declared.roles.Role.{Role}
use Rattle.ble_base.specs.declared.roles.Role.TheVariants.{Central, Peripheral}
use Rattle.ble_base.specs.declared.roles.Side.{Side}
use Rattle.ble_base.specs.declared.verdicts.Verdict.{Verdict}
use Rattle.ble_base.specs.declared.verdicts.Verdict.TheVariants.{Broken, Forged, Good, Missed}
use Rattle.journal_ends.specs.Asked.{Words}
use Rattle.journal_ends.specs.controller_model.Links.{note_opened}
use Rattle.journal.specs.declared.entries.Entry.{Entry}
use Rattle.journal.specs.declared.entries.Entry.TheVariants.{Air, Opened}
use Rattle.journal_ends.specs.Answering.{answers_from, answers_in_line}
use Rattle.journal_ends.specs.host_answers.Flows.{most_received_on}
use Rattle.journal_ends.specs.Seen.{Asks, Hears, HearsForged, Says, Seen, asked_in_line, heard_in_line, heard_where, is_heard_on, seen_from, seen_in_line, seen_on}
use Rattle.journal_ends.specs.journal_links.Begun.{LinkBegun, link_numbered, links_begun, with_number}
use Rattle.journal_ends.specs.journal_links.Changes.{role_by}
use Rattle.journal_ends.specs.journal_links.LinkLines.{line_of, link_named, where_named}
use Rattle.journal_ends.specs.journal_links.Opened.{central_side}
use Rattle.journal_ends.specs.journal_packets.Belonging.{is_side}
use Rattle.journal_ends.specs.link_model.Facts.{first_facts, keyed_of}
use Rattle.journal_ends.specs.link_model.Step.{Step}
use Rattle.journal_ends.specs.link_model.Setup.{Setup as EndSetup, first_params}
use Rattle.journal_ends.specs.link_model.keyed_control.Keyed.{Keyed, first_keyed}
use Rattle.journal_ends.specs.open_links.OpenLinks.{OpenLink}
use Rattle.journal_ends.specs.run_model.Due.{Each}
use Rattle.journal_ends.specs.run_model.History.{Event, TurnBegan, HostFed, Called, Noted, Transmitted}
use Rattle.journal_ends.specs.run_model.Journal.{entries_of, entry_of, journal_of, side_of}
use Rattle.journal_ends.specs.run_model.LinkEnds.{ConnectInd, HaveAddresses, IsAtEnd}
use Rattle.journal_ends.specs.run_model.Links.{Links, links_of}
use Rattle.journal_ends.specs.run_model.Numbers.{HasNumber}
use Rattle.journal_ends.specs.run_model.Readers.{turns_of}
use Rattle.journal_ends.specs.run_model.Run.{Given, history_of, run_of}
use Rattle.journal_ends.proofs.SeenEvents.{seen_at}
use Rattle.journal_ends.proofs.SeenLists.{AreAsks, line_are_asks}
use Rattle.journal_ends.proofs.journal_acks.TwoStations.{IsOfTwo}
use Rattle.journal_ends.proofs.journal_links.ChangesAt.{role_is}
use Rattle.journal_ends.proofs.journal_links.LinksBegun.{number_stays}
use Rattle.journal_ends.proofs.journal_links.OfTwo.{are_distinct, of_two_stations, other_of}
use Rattle.journal_ends.proofs.journal_links.OpenedLines.{opened_note}
use Rattle.journal_ends.proofs.journal_packets.SentLinks.{IsOfTwo as IsOfBoth, begun_are_sent, link_begun, links_sent, sent_at}
use Rattle.journal_ends.proofs.run_model.EntryEvents.{is_of_event}
use Rattle.journal_ends.proofs.run_model.LinkEnds.{AreTaken, IsUnderstood}
use Rattle.journal_ends.proofs.run_model.Numbers.{opening_at}
use Rattle.journal_ends.proofs.run_model.Journals.{each_front}
use Rattle.journal_ends.proofs.run_model.OfStations.{OfStations, run_of_stations}
use Rattle.journal_ends.proofs.run_model.Places.{each_at}
use Rattle.journal_ends.proofs.run_model.Stations.{is_in}
use Rattle.journal_controls.specs.LineSteps.{keyed_begun, keyed_from, keyed_in_line, keyed_on}
use Rattle.journal_controls.proofs.EarlyAnswers.{none_answered}
use Rattle.journal_controls.proofs.EventMoves.{keyed_at, turn_at}
use Rattle.journal_controls.proofs.LineFolds.{IsNamed, Others, Own, named_by, opened_line, quiet_line}

-- ---- lines of which one says that the link is opened, and in which the end says and hears nothing else

pub record AreNone {A : Type 0} (one other : List A) : Type 0 where
  pub first : one ≡ []
  pub second : other ≡ []

pub none_of : {A : Type 0} (one other : List A) → one ++ other ≡ [] → AreNone one other
none_of [] other is = record { first = refl; second = is }
none_of (seen ∷ one) other is = absurd cc

pub quiet_lines : (words : Words) (side : Side) (number : ℕ) (front : List Entry) (before : Option Keyed) (lines : List Entry) → seen_from words side number front lines ≡ []
    → answers_from words side number front lines ≡ [] → keyed_from words side number front before lines ≡ before
quiet_lines words side number front before [] none unanswered = refl
quiet_lines words side number front before (line ∷ lines) none unanswered =
    let both = none_of (seen_in_line words side number front line) (seen_from words side number (front ++ line ∷ []) lines) none in
    let answers = none_of (answers_in_line words side number front line) (answers_from words side number (front ++ line ∷ []) lines) unanswered in
    quiet_lines words side number (front ++ line ∷ []) (keyed_in_line words side number front before line) lines both.second answers.second
    ∙ quiet_line words side number front before line both.first answers.first

-- what is heard in a line
pub data IsHeardSo (seen : List Seen) : Type 0 where
  Unheard : seen ≡ [] → IsHeardSo seen
  Heard : (slot : ℕ) (octets : List ℕ) → seen ≡ Hears slot octets ∷ [] → IsHeardSo seen
  HeardForged : seen ≡ HearsForged ∷ [] → IsHeardSo seen

pub heard_so : (side : Side) (number : ℕ) (front : List Entry) (line : Entry) → IsHeardSo (heard_in_line side number front line)
heard_so side number front (Air sender channel octets fate verdict) =
    by (is_heard_on number front sender channel octets fate verdict && is_side sender (other_side side)) verdict (length (turns_of front) - 1)
  where
    by : (ours : Bool) (verdict : Verdict) (slot : ℕ) → IsHeardSo (heard_where ours verdict slot octets)
    by true Good slot = Heard slot octets refl
    by true Forged slot = HeardForged refl
    by true Missed slot = Unheard refl
    by true Broken slot = Unheard refl
    by false verdict slot = Unheard refl
heard_so side number front line = Unheard refl

same_heard : (heard : List Seen) (named : List Entry) (line one : Entry) → IsHeardSo heard → IsNamed line named → heard ++ map Says named ≡ Says one ∷ [] → line ≡ one
same_heard heard named line one (Heard slot octets is) name said =
    absurd (let h : Hears slot octets ∷ map Says named ≡ Says one ∷ [] = ap (λ xs. xs ++ map Says named) (sym is) ∙ said in absurd cc)
same_heard heard named line one (HeardForged is) name said =
    absurd (let h : HearsForged ∷ map Says named ≡ Says one ∷ [] = ap (λ xs. xs ++ map Says named) (sym is) ∙ said in absurd cc)
same_heard heard named line one (Unheard none) (Own is) said =
    let h : Says line ∷ [] ≡ Says one ∷ [] = (λ i. sym none i ++ map Says (sym is i)) ∙ said in cc
same_heard heard named line one (Unheard none) (Others is) said =
    absurd (let h : [] ≡ Says one ∷ [] = (λ i. sym none i ++ map Says (sym is i)) ∙ said in absurd cc)

pub same_line : (asked heard : List Seen) (named : List Entry) (line one : Entry) → AreAsks asked → IsHeardSo heard → IsNamed line named
    → asked ++ (heard ++ map Says named) ≡ Says one ∷ [] → line ≡ one
same_line asked heard named line one are so name said = by are.steps are.is
  where
    by : (steps : List Step) → asked ≡ map Asks steps → line ≡ one
    by [] none = same_heard heard named line one so name (ap (λ xs. xs ++ (heard ++ map Says named)) (sym none) ∙ said)
    by (step ∷ steps) is =
        absurd (let h : Asks step ∷ (map Asks steps ++ (heard ++ map Says named)) ≡ Says one ∷ [] = ap (λ xs. xs ++ (heard ++ map Says named)) (sym is) ∙ said in absurd cc)

-- the line that says so, and the end from there on
record IsOpenedIn (words : Words) (side : Side) (number handle : ℕ) (role : Role) (front : List Entry) (before : Option Keyed) (lines : List Entry) : Type 0 where
  first : List Entry
  rest : List Entry
  is_at : lines ≡ first ++ Opened side number handle role ∷ rest
  begins : (link : LinkBegun) → link_numbered number (front ++ first) ≡ Some link → keyed_from words side number front before lines ≡ keyed_begun (most_received_on side (front ++ first)) side (Some link)

opened_in : (words : Words) (side : Side) (number handle : ℕ) (role : Role) (front : List Entry) (before : Option Keyed) (lines : List Entry)
    → seen_from words side number front lines ≡ Says (Opened side number handle role) ∷ [] → answers_from words side number front lines ≡ []
    → IsOpenedIn words side number handle role front before lines
opened_in words side number handle role front before [] said unanswered = absurd cc
opened_in words side number handle role front before (line ∷ lines) said unanswered =
    by (seen_in_line words side number front line) refl (λ later. opened_in words side number handle role (front ++ line ∷ []) (keyed_in_line words side number front before line) lines later answers.second)
  where
    answers : AreNone (answers_in_line words side number front line) (answers_from words side number (front ++ line ∷ []) lines)
    answers = none_of (answers_in_line words side number front line) (answers_from words side number (front ++ line ∷ []) lines) unanswered

    by : (seen : List Seen) → seen_in_line words side number front line ≡ seen
        → (seen_from words side number (front ++ line ∷ []) lines ≡ Says (Opened side number handle role) ∷ []
        → IsOpenedIn words side number handle role (front ++ line ∷ []) (keyed_in_line words side number front before line) lines)
        → IsOpenedIn words side number handle role front before (line ∷ lines)
    by [] none then_on =
        let later = then_on (ap (λ xs. xs ++ seen_from words side number (front ++ line ∷ []) lines) (sym none) ∙ said) in record {
          first = line ∷ later.first;
          rest = later.rest;
          is_at = ap (λ xs. line ∷ xs) later.is_at;
          begins = λ link is.
              later.begins link (ap (link_numbered number) (append_assoc front (line ∷ []) later.first) ∙ is)
              ∙ ap (λ early. keyed_begun (most_received_on side early) side (Some link)) (append_assoc front (line ∷ []) later.first);
        }
    by (one ∷ more) is then_on =
        let whole : one ∷ (more ++ seen_from words side number (front ++ line ∷ []) lines) ≡ Says (Opened side number handle role) ∷ [] =
        ap (λ xs. xs ++ seen_from words side number (front ++ line ∷ []) lines) (sym is) ∙ said in
        let head : one ≡ Says (Opened side number handle role) = cc in
        let tail : more ++ seen_from words side number (front ++ line ∷ []) lines ≡ [] = cc in
        let both = none_of more (seen_from words side number (front ++ line ∷ []) lines) tail in
        let alone : seen_in_line words side number front line ≡ Says (Opened side number handle role) ∷ [] = is ∙ (λ i. head i ∷ both.first i) in
        let same = same_line (asked_in_line words side number front line) (heard_in_line side number front line) (where_named side number (link_named line) line) line
        (Opened side number handle role) (line_are_asks words side number front line) (heard_so side number front line) (named_by side number (link_named line) line) alone in record {
          first = [];
          rest = lines;
          is_at = ap (λ l. l ∷ lines) same;
          begins = λ link is_link.
              quiet_lines words side number (front ++ line ∷ []) (keyed_in_line words side number front before line) lines both.second answers.second
              ∙ ap (keyed_in_line words side number front before) same
              ∙ opened_line words side number handle role front before link (ap (link_numbered number) (sym (append-nil front)) ∙ is_link)
              ∙ ap (λ early. keyed_begun (most_received_on side early) side (Some link)) (sym (append-nil front));
        }

-- ---- the link of the line

record IsNoteOf (links : Links) (event : Event) (line : Entry) : Type 0 where
  station : ℕ
  note : Note
  is : event ≡ Noted station note
  entry_is : entry_of (side_of station) (links.link_of station) (links.last_of station) note ≡ line

note_of : (links : Links) (event : Event) (side : Side) (number handle : ℕ) (role : Role) → entries_of links event ≡ Opened side number handle role ∷ []
    → IsNoteOf links event (Opened side number handle role)
note_of links (Noted station note) side number handle role is = record { station = station; note = note; is = refl; entry_is = cc }
note_of links (TurnBegan slot radios) side number handle role is = absurd cc
note_of links (HostFed station octets) side number handle role is = absurd cc
note_of links (Called station step) side number handle role is = absurd cc
note_of links (Transmitted station channel octets []) side number handle role is = absurd cc
note_of links (Transmitted station channel octets (hearing ∷ hearings)) side number handle role is = absurd cc

-- it began at its central
record IsLinkOf (history : List Event) (number station : ℕ) (end : EndSetup) : Type 0 where
  link : LinkBegun
  is_link : link_numbered number (journal_of history) ≡ Some link
  fields : link.fields ≡ end.link.fields
  slot : link.slot ≡ end.opened
  central : link.central ≡ central_side end.link.role (side_of station)

module _ (history : List Event) (number station : ℕ) (end : EndSetup) (two : Each IsOfBoth [] history) (has : HasNumber history number station end)
    (one : (station ≡ 0) ⊎ (station ≡ 1)) where
  abbrev sent : ConnectInd
  sent = has.has.sent

  abbrev link_of : LinkBegun
  link_of = link_begun sent.sender has.has.before sent.ch_sel sent.fields

  sender_one : (sent.sender ≡ 0) ⊎ (sent.sender ≡ 1)
  sender_one = (each_at IsOfBoth history has.has.before has.has.after (Transmitted sent.sender sent.channel sent.octets sent.hearings) two has.has.is_at).is_one

  sender_side : (role : Role) → IsAtEnd role station end sent → side_of sent.sender ≡ central_side role (side_of station)
  sender_side Central at = ap side_of at.0
  sender_side Peripheral at = other_of sent.sender station sender_one one at.0

  link_is : IsLinkOf history number station end
  link_is =
      let place = (links_of has.has.before).begun in
      let at_place : slice_get (links_sent [] history) place ≡ Some link_of =
      ap (λ (h : List Event). slice_get (links_sent [] h) place) has.has.is_at
      ∙ sent_at has.has.before has.has.after sent.sender sent.channel sent.octets sent.hearings sent.from sent.to sent.ch_sel sent.fields has.has.on_channel has.has.says in
      let next : number ≡ suc place = has.number_is ∙ omega arith in record {
        link = link_of;
        is_link = ap (λ n. with_number n (links_begun (journal_of history))) next ∙ ap (λ xs. slice_get xs place) (begun_are_sent history two) ∙ at_place;
        fields = has.has.fields_are;
        slot = let turn = has.has.in_turn in omega (arith, turn);
        central = sender_side end.link.role has.has.is_at_end;
      }

-- ---- in a run

-- the event of a note
noted_at : (history before after : List Event) (event : Event) (station : ℕ) (note other : Note) → history ≡ before ++ event ∷ after → event ≡ Noted station note → note ≡ other
    → history ≡ before ++ Noted station other ∷ after
noted_at history before after event station note other at is same = at ∙ ap (λ one. before ++ one ∷ after) (is ∙ ap (Noted station) same)

-- of a longer list
event_in : (all history before after rest : List Event) (event : Event) → all ≡ history ++ rest → history ≡ before ++ event ∷ after → all ≡ before ++ event ∷ (after ++ rest)
event_in all history before after rest event at is = at ∙ ap (λ xs. xs ++ rest) is ∙ append_assoc before (event ∷ after) rest

-- the end of a link as it begins
begun_first : (station : ℕ) (setup : EndSetup) (link : LinkBegun) → link.central ≡ central_side setup.link.role (side_of station) → link.fields ≡ setup.link.fields
    → link.slot ≡ setup.opened → keyed_begun setup.link.max_rx (side_of station) (Some link) ≡ Some (keyed_of (first_facts setup))
begun_first station setup link central fields slot =
    let role = ap (λ s. role_by s (side_of station)) central ∙ role_is setup.link.role (side_of station) in
    λ i. Some (first_keyed (role i) setup.link.max_rx (first_params (fields i)) (slot i + 2 + (fields i).win_offset))

record HasLink (history : List Event) (number : ℕ) : Type 0 where
  link : LinkBegun
  is_link : link_numbered number (journal_of history) ≡ Some link

has_early : (number : ℕ) (front : List Entry) (before : List Event) (has : HasLink before number) → front ≡ journal_of before → link_numbered number front ≡ Some has.link
has_early number front before has is = ap (link_numbered number) is ∙ has.is_link

module _ (words : Words) (understood : IsUnderstood) (taken : AreTaken) (given : Given) (are_two : IsOfTwo given) (six : HaveAddresses given) where
  -- a link has a number as it is opened
  link_before : (before rest : List Event) (number station handle : ℕ) (role : Role) (own peer : Address) → Each IsOfBoth [] before
      → history_of (run_of given) ≡ before ++ Noted station (OpenedNote handle role own peer) ∷ rest → number ≡ (links_of before).last_of station → HasLink before number
  link_before before rest number station handle role own peer two at number_is =
      let opening = opening_at understood taken given before rest station handle role own peer (are_distinct given are_two) six at in
      let in_it = each_at (OfStations given) (history_of (run_of given)) before rest (Noted station (OpenedNote handle role own peer)) (run_of_stations given) at in
      let of = link_is before ((links_of before).last_of station) station opening.end two opening.has (of_two_stations given are_two station in_it) in
      record { link = of.link; is_link = ap (λ n. link_numbered n (journal_of before)) number_is ∙ of.is_link }

  -- what the journal says of a link as it is opened
  record HasOpening (history : List Event) (number : ℕ) (side : Side) (setup : EndSetup) : Type 0 where
    opened : IsOpenedIn words side number setup.link.handle setup.link.role [] None (journal_of history)
    link : LinkBegun
    early : link_numbered number opened.first ≡ Some link

  opening_of : (history rest : List Event) (number : ℕ) (side : Side) (setup : EndSetup) → history_of (run_of given) ≡ history ++ rest → Each IsOfBoth [] history
      → IsOpenedIn words side number setup.link.handle setup.link.role [] None (journal_of history) → HasOpening history number side setup
  opening_of history rest number side setup at two opened =
      let handle = setup.link.handle in
      let role = setup.link.role in
      let event = is_of_event history opened.first opened.rest (Opened side number handle role) opened.is_at in
      let note = note_of (links_of event.before) event.event side number handle role event.entry_is in
      let says = opened_note (links_of event.before) note.station note.note side number handle role note.entry_is in
      let said_note = OpenedNote handle role says.own says.peer in
      let at_note = noted_at history event.before event.after event.event note.station note.note said_note event.is_at note.is says.is in
      let whole = event_in (history_of (run_of given)) history event.before event.after rest (Noted note.station said_note) at at_note in
      let first = link_before event.before (event.after ++ rest) number note.station handle role says.own says.peer
      (each_front IsOfBoth [] event.before (Noted note.station said_note ∷ event.after) (subst (Each IsOfBoth []) at_note two)) whole says.number_is in
      record { opened = opened; link = first.link; early = has_early number opened.first event.before first event.front_is }

  -- an end to which nothing else happened
  pub opened_control : (history rest : List Event) (number station : ℕ) (link : OpenLink) → history_of (run_of given) ≡ history ++ rest → Each IsOfBoth [] history
      → is_in station given.stations ≡ true → HasNumber history number station link.setup
      → turn_at history ≡ link.setup.opened
      → seen_at words number (side_of station) history ≡ Says (line_of (side_of station) number (note_opened link.setup.link)) ∷ []
      → ((first later : List Entry) → journal_of history ≡ first ++ line_of (side_of station) number (note_opened link.setup.link) ∷ later
      → link.setup.link.max_rx ≡ most_received_on (side_of station) first)
      → keyed_at words number (side_of station) history ≡ Some (keyed_of (first_facts link.setup))
  unfolding seen_on keyed_on
  opened_control history rest number station link at two in_it has turn said most =
      let side = side_of station in
      let setup = link.setup in
      let of = link_is history number station setup two has (of_two_stations given are_two station in_it) in
      let unanswered = none_answered words side number of.link [] (journal_of history) of.is_link (of.slot ∙ sym turn) in
      let opening = opening_of history rest number side setup at two (opened_in words side number setup.link.handle setup.link.role [] None (journal_of history) said unanswered) in
      let opened = opening.opened in
      let line = Opened side number setup.link.handle setup.link.role in
      let both : Some opening.link ≡ Some of.link =
      sym (number_stays number opened.first (line ∷ opened.rest) opening.link opening.early) ∙ ap (link_numbered number) (sym opened.is_at) ∙ of.is_link in
      opened.begins opening.link opening.early ∙ ap (keyed_begun (most_received_on side opened.first) side) both
      ∙ ap (λ n. keyed_begun n side (Some of.link)) (sym (most opened.first opened.rest opened.is_at)) ∙ begun_first station setup of.link of.central of.fields of.slot

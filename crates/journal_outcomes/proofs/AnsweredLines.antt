-- Where a procedure of a peripheral is done, it was answered: by the notes of the end.
use Rattle.std.proofs.Common.{◌≡◌, ℕ, ◌==◌, ◌||◌, Bool, true, false, Some, None, List, [], ◌∷◌, ◌++◌, fold, map, refl, sym, ap, ◌∙◌}
use Rattle.std.specs.Prelude.{if◌then◌else◌}
use Rattle.std.specs.List.{list_any}
use Rattle.std.proofs.lemmas.Bool.{eq-eqb, eqb-true}
use Rattle.std.proofs.lemmas.List.{map-append}
use Rattle.ble_base.specs.Side.{other_side}
use Rattle.ble_base.specs.declared.notes.Note.{Note}
use Rattle.ble_base.specs.declared.notes.Note.TheVariants.{Applied, Began, Done as DoneNote, Enter, Opened, Refused, Sent as SentNote, Shut, Took as TookNote, Up}
use Rattle.ble_base.specs.declared.procedure_kinds.Kind.{Kind}
use Rattle.ble_base.specs.declared.procedure_kinds.Kind.TheVariants.{Phy as PhyKind, Request as RequestKind}
use Rattle.ble_base.specs.declared.roles.Role.TheVariants.{Peripheral}
use Rattle.ble_base.specs.declared.roles.Side.{Side}
use Rattle.data_pdu.specs.Reading.{ctrl_of}
use Rattle.data_pdu.specs.declared.ctrl.Ctrl.TheVariants.{ConnectionParamReq, ConnectionUpdateInd, PhyReq, PhyUpdateInd}
use Rattle.data_pdu.specs.declared.ctrl.CtrlRead.{CtrlRead}
use Rattle.data_pdu.specs.declared.ctrl.CtrlRead.TheVariants.{Known}
use Rattle.exclusive_stages.specs.Kinds.{kind_of}
use Rattle.exclusive_stages.specs.declared.pdus.Exclusive.{Exclusive}
use Rattle.exclusive_stages.specs.declared.pdus.Exclusive.TheVariants.{Phy, Request}
use Rattle.journal.specs.declared.entries.Entry.{Entry}
use Rattle.journal.specs.declared.entries.Entry.TheVariants.{Done, Sent, Took}
use Rattle.journal_crossing.specs.controller_model.Links.{note_opened}
use Rattle.journal_crossing.specs.journal_data.link_model.End.{notes_of}
use Rattle.journal_crossing.specs.journal_data.link_model.Setup.{Setup}
use Rattle.journal_crossing.specs.journal_data.link_model.Step.{Step}
use Rattle.journal_crossing.specs.journal_links.Begun.{LinkBegun, link_numbered}
use Rattle.journal_crossing.specs.journal_links.LinkLines.{line_of, lines_of}
use Rattle.journal_crossing.specs.run_model.Journal.{journal_of}
use Rattle.journal_crossing.specs.run_model.LinkEnds.{HaveAddresses}
use Rattle.journal_crossing.specs.run_model.NoteLines.{done_line, sent_line}
use Rattle.journal_crossing.specs.run_model.Run.{Given, history_of, run_of}
use Rattle.journal_crossing.proofs.journal_links.LinkLines.{lines_append, named_here}
use Rattle.journal_crossing.proofs.journal_links.LinksBegun.{number_stays}
use Rattle.journal_crossing.proofs.run_model.LinkEnds.{AreTaken, IsUnderstood}
use Rattle.journal_crossing.proofs.journal_collisions.CollidingLines.{same_kind}
use Rattle.journal_crossing.specs.journal_collisions.Collisions.{any_line, control_in, kind_begun}
use Rattle.journal_crossing.specs.link_outcomes.Answered.{IsAnsweredIn as IsAnsweredAmong, begins as begins_note, ends as ends_note, kind_answered, kind_begun as read_begun}
use Rattle.journal_crossing.proofs.journal_data.NumberedEnds.{same_link}
use Rattle.journal_outcomes.specs.Done.{AllDoneAreAnswered, IsAnsweredIn, begins, ends, kind_completed}
use Rattle.journal_outcomes.proofs.NamedEnds.{HasEnd, among, end_of, far_role, some_number}
use Rattle.journal_outcomes.proofs.NotDone.{AllAreOnLinks}
use Rattle.journal_outcomes.proofs.NotedEnds.{IsPlain}
use Rattle.journal_outcomes.proofs.SaidLines.{any_after}

-- ---- a law of one end

-- a procedure of a peripheral that is done was answered since its first PDU was sent, or another of its kind began
abbrev pub AreAnswered : Type 0
AreAnswered = (setup : Setup) (past : List Step) (q : Exclusive) (start between later : List Note) (handle other count : ℕ) (body : List ℕ)
    → setup.link.role ≡ Peripheral
    → notes_of setup past ≡ start ++ SentNote handle count 3 (record { items = body }) ∷ between ++ DoneNote other (kind_of q) ∷ later
    → read_begun (ctrl_of body) ≡ Some q → list_any (begins_note (kind_of q)) between ≡ false → IsAnsweredAmong q between

-- ---- PDUs

record IsFirst (llid : ℕ) (body : List ℕ) (kind : Kind) : Type 0 where
  q : Exclusive
  q_is : kind_of q ≡ kind
  three : llid ≡ 3
  begun : read_begun (ctrl_of body) ≡ Some q

known_first : (llid : ℕ) (body : List ℕ) (kind : Kind) (read : CtrlRead) → llid ≡ 3 → ctrl_of body ≡ read → kind_begun (Some read) ≡ Some kind → IsFirst llid body kind
known_first llid body kind (Known (ConnectionParamReq min max latency timeout periodicity reference offsets)) three says is =
    record { q = Request; q_is = same_kind RequestKind kind is; three = three; begun = ap read_begun says }
known_first llid body kind (Known (PhyReq tx rx)) three says is =
    record { q = Phy; q_is = same_kind PhyKind kind is; three = three; begun = ap read_begun says }
known_first llid body kind other three says is = absurd cc

none_first : (X : Type 0) (kind : Kind) → kind_begun None ≡ Some kind → X
none_first X kind is = absurd cc

first_of : (llid : ℕ) (body : List ℕ) (kind : Kind) → kind_begun (control_in llid body) ≡ Some kind → IsFirst llid body kind
first_of llid body kind is = by (llid == 3) refl is
  where
    by : (b : Bool) → (llid == 3) ≡ b → kind_begun (if b then Some (ctrl_of body) else None) ≡ Some kind → IsFirst llid body kind
    by true three now = known_first llid body kind (ctrl_of body) (eqb-true llid 3 three) refl now
    by false three now = none_first _ kind now

same_exclusive : (one other : Exclusive) → Some one ≡ Some other → one ≡ other
same_exclusive one other is = cc

completed : (read : CtrlRead) (q : Exclusive) → kind_answered read ≡ Some q → kind_completed (Some read) ≡ Some (kind_of q)
completed (Known (ConnectionUpdateInd win_size win_offset interval latency timeout instant)) q is = ap (λ one. Some (kind_of one)) (same_exclusive Request q is)
completed (Known (PhyUpdateInd to_peripheral to_central instant)) q is = ap (λ one. Some (kind_of one)) (same_exclusive Phy q is)
completed other q is = absurd cc

-- ---- lines and notes

module _ (side : Side) (number : ℕ) where
  abbrev line : Note → Entry
  line note = line_of side number note

  line_begins : (kind : Kind) (note : Note) → begins kind (line note) ≡ begins_note kind note
  line_begins kind (Up packet) = refl
  line_begins kind (Opened handle role own peer) = refl
  line_begins kind (Shut handle reason) = refl
  line_begins kind (SentNote handle count llid body) = refl
  line_begins kind (TookNote handle count llid body) = refl
  line_begins kind (Enter handle event channel) = refl
  line_begins kind (Applied handle count event) = refl
  line_begins kind (Began handle other) = refl
  line_begins kind (Refused handle other code) = refl
  line_begins kind (DoneNote handle other) = refl

  line_ends : (kind : Kind) (note : Note) → ends kind (line note) ≡ ends_note kind note
  line_ends kind (Up packet) = refl
  line_ends kind (Opened handle role own peer) = refl
  line_ends kind (Shut handle reason) = refl
  line_ends kind (SentNote handle count llid body) = refl
  line_ends kind (TookNote handle count llid body) = refl
  line_ends kind (Enter handle event channel) = refl
  line_ends kind (Applied handle count event) = refl
  line_ends kind (Began handle other) = refl
  line_ends kind (Refused handle other code) = refl
  line_ends kind (DoneNote handle other) = refl

  any_said : (test : Entry → Bool) (of : Note → Bool) → ((note : Note) → test (line note) ≡ of note) → (notes : List Note)
      → any_line test (map line notes) ≡ list_any of notes
  any_said test of same [] = refl
  any_said test of same (note ∷ notes) =
      ap (λ b. fold (λ found one. found || test one) b (map line notes)) (same note) ∙ by (of note) (any_said test of same notes)
    where
      by : (b : Bool) → any_line test (map line notes) ≡ list_any of notes
          → fold (λ found one. found || test one) b (map line notes) ≡ (b || list_any of notes)
      by true rest = any_after test (map line notes)
      by false rest = rest

  -- the note of a PDU that is sent
  record IsSentNote (note : Note) (count llid : ℕ) (body : List ℕ) : Type 0 where
    handle : ℕ
    is : note ≡ SentNote handle count llid (record { items = body })

  sent_note : (note : Note) (count llid : ℕ) (body : List ℕ) → line note ≡ Sent side number count llid body → IsSentNote note count llid body
  sent_note (SentNote handle other own octets) count llid body is =
      let counts : other ≡ count = cc in
      let llids : own ≡ llid = cc in
      let bodies : octets.items ≡ body = cc in record {
        handle = handle;
        is = λ i. SentNote handle (counts i) (llids i) (record { items = bodies i });
      }
  sent_note (Up packet) count llid body is = absurd cc
  sent_note (Opened handle role own peer) count llid body is = absurd cc
  sent_note (Shut handle reason) count llid body is = absurd cc
  sent_note (TookNote handle other own octets) count llid body is = absurd cc
  sent_note (Enter handle event channel) count llid body is = absurd cc
  sent_note (Applied handle other event) count llid body is = absurd cc
  sent_note (Began handle kind) count llid body is = absurd cc
  sent_note (Refused handle kind code) count llid body is = absurd cc
  sent_note (DoneNote handle kind) count llid body is = absurd cc

-- lines of notes, cut at one of them
record AreCut (f : Note → Entry) (notes : List Note) (front rest : List Entry) (line : Entry) : Type 0 where
  first : List Note
  note : Note
  last : List Note
  is : notes ≡ first ++ note ∷ last
  first_is : map f first ≡ front
  note_is : f note ≡ line
  last_is : map f last ≡ rest

cut : (f : Note → Entry) (notes : List Note) (front rest : List Entry) (line : Entry) → map f notes ≡ front ++ line ∷ rest → AreCut f notes front rest line
cut f [] [] rest line is = absurd cc
cut f [] (one ∷ front) rest line is = absurd cc
cut f (note ∷ notes) [] rest line is =
    let head : f note ≡ line = cc in
    let tails : map f notes ≡ rest = cc in
    record { first = []; note = note; last = notes; is = refl; first_is = refl; note_is = head; last_is = tails }
cut f (note ∷ notes) (one ∷ front) rest line is =
    let head : f note ≡ one = cc in
    let tails : map f notes ≡ front ++ line ∷ rest = cc in
    let more = cut f notes front rest line tails in record {
      first = note ∷ more.first;
      note = more.note;
      last = more.last;
      is = λ i. note ∷ more.is i;
      first_is = λ i. head i ∷ more.first_is i;
      note_is = more.note_is;
      last_is = more.last_is;
    }

-- ---- in each run

plain_done : (kind : Kind) → IsPlain (λ handle. DoneNote handle kind)
plain_done kind = record { under = λ handle. refl; opening = λ handle. refl; shutting = λ handle. refl }

pub plain_sent : (count llid : ℕ) (body : List ℕ) → IsPlain (λ handle. SentNote handle count llid (record { items = body }))
plain_sent count llid body = record { under = λ handle. refl; opening = λ handle. refl; shutting = λ handle. refl }

module _ (understood : IsUnderstood) (taken : AreTaken) (given : Given) (are_two : given.stations ≡ 0 ∷ 1 ∷ []) (six : HaveAddresses given) where
  abbrev journal : List Entry
  journal = journal_of (history_of (run_of given))

  -- a PDU is sent on a link that began before
  pub all_linked : AllAreOnLinks (journal_of (history_of (run_of given)))
  all_linked front rest side link number count llid body is is_link =
      let end = end_of understood taken given are_two six front rest (Sent side number count llid body) (sent_line side number count llid body) refl
      (plain_sent count llid body) (some_number number journal link is_link) is in
      record { link = end.on.link; is_link = end.on.is_link }

  module _ (answer : AreAnswered) (start between later : List Entry) (link : LinkBegun) (number count llid : ℕ) (body : List ℕ) (kind : Kind)
      (is : journal ≡ start ++ Sent (other_side link.central) number count llid body ∷ between ++ Done (other_side link.central) number kind ∷ later)
      (is_link : link_numbered number journal ≡ Some link) (begun : kind_begun (control_in llid body) ≡ Some kind)
      (none : any_line (begins kind) (lines_of (other_side link.central) number between) ≡ false) where
    abbrev side : Side
    side = other_side link.central

    abbrev out : Entry
    out = Sent side number count llid body

    abbrev done : Entry
    done = Done side number kind

    abbrev front : List Entry
    front = start ++ out ∷ between

    abbrev said : List Entry → List Entry
    said lines = lines_of side number lines

    has : HasEnd understood taken given are_two six front (done_line side number kind)
    has =
        end_of understood taken given are_two six front later done (done_line side number kind) refl (plain_done kind)
        (some_number number journal link is_link) is

    one_link : has.on.link ≡ link
    one_link =
        same_link has.on.link link (sym (number_stays number front (done ∷ later) has.on.link has.on.is_link) ∙ sym (ap (link_numbered number) is) ∙ is_link)

    role : has.end.setup.link.role ≡ Peripheral
    role = far_role link.central side has.end.setup.link.role refl (sym (ap (λ (l : LinkBegun). l.central) one_link) ∙ has.on.central_is)

    first : IsFirst llid body kind
    first = first_of llid body kind begun

    -- the lines before are of these notes
    said_is : said front ≡ said start ++ out ∷ said between
    said_is =
        lines_append side number start (out ∷ between)
        ∙ ap (λ (xs : List Entry). said start ++ xs)
        (lines_append side number (out ∷ []) between
        ∙ ap (λ (xs : List Entry). xs ++ said between) (named_here side number number out (eq-eqb number number refl)))

    notes_cut : AreCut (line_of side number) (note_opened has.end.setup.link ∷ has.end.notes) (said start) (said between) out
    notes_cut = cut (line_of side number) (note_opened has.end.setup.link ∷ has.end.notes) (said start) (said between) out (sym has.end.lines_are ∙ said_is)

    record AreNotes : Type 0 where
      earlier : List Note
      handle : ℕ
      since : List Note
      notes_are : has.end.notes ≡ earlier ++ SentNote handle count llid (record { items = body }) ∷ since
      since_is : map (line_of side number) since ≡ said between

    notes : AreNotes
    notes = by notes_cut.first notes_cut.note notes_cut.last notes_cut.is notes_cut.note_is notes_cut.last_is
      where
        by : (one : List Note) (note : Note) (more : List Note) → note_opened has.end.setup.link ∷ has.end.notes ≡ one ++ note ∷ more
            → line_of side number note ≡ out → map (line_of side number) more ≡ said between → AreNotes
        by [] note more are says since_is =
            absurd (let head : note_opened has.end.setup.link ≡ note = cc in
            let h : line_of side number (note_opened has.end.setup.link) ≡ out = ap (line_of side number) head ∙ says in cc)
        by (opened ∷ one) note more are says since_is =
            let tails : has.end.notes ≡ one ++ note ∷ more = cc in
            let sent = sent_note side number note count llid body says in record {
              earlier = one;
              handle = sent.handle;
              since = more;
              notes_are = tails ∙ ap (λ n. one ++ n ∷ more) sent.is;
              since_is = since_is;
            }

    none_begins : list_any (begins_note (kind_of first.q)) notes.since ≡ false
    none_begins =
        ap (λ k. list_any (begins_note k) notes.since) first.q_is
        ∙ sym (any_said side number (begins kind) (begins_note kind) (line_begins side number kind) notes.since)
        ∙ ap (any_line (begins kind)) notes.since_is ∙ none

    answered : IsAnsweredAmong first.q notes.since
    answered =
        answer has.end.setup has.end.past first.q notes.earlier notes.since has.end.later notes.handle has.end.handle count body role
        (has.end.notes_are ∙ ap (λ xs. xs ++ DoneNote has.end.handle kind ∷ has.end.later) notes.notes_are
        ∙ (λ i. notes.earlier ++ SentNote notes.handle count (first.three i) (record { items = body }) ∷ notes.since
        ++ DoneNote has.end.handle (sym first.q_is i) ∷ has.end.later)) first.begun none_begins

    pub answered_between : IsAnsweredIn side number kind between
    answered_between =
        let took = Took side number answered.count 3 answered.body in
        let lines_are = sym notes.since_is ∙ ap (map (line_of side number)) answered.notes_are
        ∙ map-append (line_of side number) answered.earlier (TookNote answered.handle answered.count 3 (record { items = answered.body }) ∷ answered.later) in
        let place = among side number between (map (line_of side number) answered.earlier) (map (line_of side number) answered.later) took lines_are in record {
          earlier = place.before;
          count = answered.count;
          llid = 3;
          body = answered.body;
          later = place.after;
          is = place.is;
          completes = completed (ctrl_of answered.body) first.q answered.answers ∙ ap Some first.q_is;
          goes_on = ap (any_line (ends kind)) (sym notes.since_is)
              ∙ any_said side number (ends kind) (ends_note kind) (line_ends side number kind) notes.since
              ∙ ap (λ k. list_any (ends_note k) notes.since) (sym first.q_is) ∙ answered.goes_on;
        }

  pub all_answered : AreAnswered → AllDoneAreAnswered (journal_of (history_of (run_of given)))
  all_answered answer start between later link number count llid body kind is is_link begun none =
      answered_between answer start between later link number count llid body kind is is_link begun none

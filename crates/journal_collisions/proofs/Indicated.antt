-- An indication that a central sends after a collision is of its own procedure, or answers a first PDU that it took later.
use Rattle.std.proofs.Common.{◌≡◌, ◌⊎◌, inl, inr, ℕ, ◌==◌, ◌&&◌, ◌||◌, not, Bool, true, false, Option, Some, None, List, [], ◌∷◌, ◌++◌, fold, refl, sym, ap, ◌∙◌, append-nil, append_assoc, if◌then◌else◌}
use Rattle.std.specs.List.{list_any}
use Rattle.std.proofs.lemmas.Bool.{and_parts, eq-eqb, eqb-true, or_parts, or_right}
use Rattle.std.proofs.lemmas.List.Folds.{list_any-append}
use Rattle.ble_base.specs.declared.procedure_kinds.Kind.{Kind}
use Rattle.ble_base.specs.declared.procedure_kinds.Kind.TheVariants.{Map as MapKind, Phy as PhyKind, Update as UpdateKind}
use Rattle.ble_base.specs.declared.roles.Side.{Side}
use Rattle.ble_base.specs.declared.roles.Side.TheVariants.{A, B}
use Rattle.data_pdu.specs.Reading.{ctrl_of}
use Rattle.data_pdu.specs.declared.ctrl.Ctrl.{Ctrl}
use Rattle.data_pdu.specs.declared.ctrl.Ctrl.TheVariants.{ChannelMapInd, ConnectionParamReq, ConnectionUpdateInd, PhyReq, PhyUpdateInd, RejectExtInd, RejectInd, UnknownRsp}
use Rattle.data_pdu.specs.declared.ctrl.CtrlRead.{CtrlRead}
use Rattle.data_pdu.specs.declared.ctrl.CtrlRead.TheVariants.{Known}
use Rattle.exclusive_stages.specs.Kinds.{kind_of}
use Rattle.exclusive_stages.specs.declared.pdus.Exclusive.{Exclusive}
use Rattle.exclusive_stages.specs.declared.pdus.Exclusive.TheVariants.{Map, Phy, Update}
use Rattle.journal.specs.declared.entries.Entry.{Entry}
use Rattle.journal.specs.declared.entries.Entry.TheVariants.{Sent, Took}
use Rattle.procedure_stages.specs.Opcodes.{enc_req_opcode, phy_req_opcode}
use Rattle.journal_endings.specs.journal_indications.journal_data.Followed.{Follows, Mixed}
use Rattle.journal_endings.specs.journal_indications.journal_data.journal_links.Begun.{LinkBegun, link_numbered}
use Rattle.journal_endings.specs.journal_indications.journal_data.journal_links.LinkLines.{lines_of, link_named, where_named}
use Rattle.journal_endings.specs.journal_indications.journal_data.run_model.History.{Called, past_of}
use Rattle.journal_endings.specs.journal_indications.journal_data.run_model.Journal.{journal_of}
use Rattle.journal_endings.specs.journal_indications.journal_data.run_model.LinkEnds.{HaveAddresses}
use Rattle.journal_endings.specs.journal_indications.journal_data.run_model.NoteLines.{sent_line, took_line}
use Rattle.journal_endings.specs.journal_indications.journal_data.run_model.Readers.{of_side}
use Rattle.journal_endings.specs.journal_indications.journal_data.run_model.Run.{Given, history_of, run_of, setup_at}
use Rattle.journal_endings.specs.controller_model.Step.{PacketHeard}
use Rattle.journal_endings.proofs.journal_indications.journal_data.journal_acks.TwoStations.{IsOfTwo}
use Rattle.journal_endings.proofs.journal_indications.journal_data.journal_links.LinkLines.{named_here}
use Rattle.journal_endings.proofs.journal_indications.journal_data.journal_links.LinksBegun.{number_stays}
use Rattle.journal_endings.proofs.journal_indications.journal_data.journal_packets.AccessOrder.{AreNth}
use Rattle.journal_endings.proofs.journal_indications.journal_data.link_model.Hearing.{IsHeardWhole}
use Rattle.journal_endings.proofs.journal_indications.journal_data.run_laws.DistinctAccess.{AreApart}
use Rattle.journal_endings.proofs.journal_indications.journal_data.run_model.LinkEnds.{AreTaken, IsUnderstood}
use Rattle.journal_endings.proofs.journal_indications.journal_data.run_model.NoteLines.{line_in_call}
use Rattle.journal_endings.proofs.journal_indications.FarEnds.{far_before}
use Rattle.journal_endings.proofs.journal_indications.Receptions.{reception_of}
use Rattle.link_answers.specs.Owing.{indicates, is_opening_read}
use Rattle.run_collisions.specs.Refused.{is_refusing}
use Rattle.run_collisions.specs.joint_collisions.Facts.{is_first_down}
use Rattle.journal_collisions.specs.Collisions.{any_line, control_in, is_kind, kind_begun, runs_on}
use Rattle.journal_collisions.specs.Outcomes.{NoneIsIndicated, kind_answered, kind_indicated, takes_first}
use Rattle.journal_collisions.proofs.CollidingLines.{PrevailInRuns, same_kind}
use Rattle.journal_collisions.proofs.Openings.{is_opening_line}
use Rattle.journal_collisions.proofs.RejectedNext.{owned}
use Rattle.journal_collisions.proofs.Unrefused.{AreUnrefusedInRuns, line_unrefused}

-- ---- the indication

record IsIndication (own : Kind) (llid : ℕ) (body : List ℕ) : Type 0 where
  kind : Exclusive
  kind_is : kind_of kind ≡ own
  three : llid ≡ 3
  is : indicates (ctrl_of body) ≡ Some kind

known_indication : (llid : ℕ) (body : List ℕ) (own : Kind) (read : CtrlRead) → llid ≡ 3 → ctrl_of body ≡ read → kind_indicated (Some read) ≡ Some own
    → IsIndication own llid body
known_indication llid body own (Known (ConnectionUpdateInd win_size win_offset interval latency timeout instant)) three says is =
    record { kind = Update; kind_is = same_kind UpdateKind own is; three = three; is = ap indicates says }
known_indication llid body own (Known (ChannelMapInd map instant)) three says is =
    record { kind = Map; kind_is = same_kind MapKind own is; three = three; is = ap indicates says }
known_indication llid body own (Known (PhyUpdateInd to_peripheral to_central instant)) three says is =
    record { kind = Phy; kind_is = same_kind PhyKind own is; three = three; is = ap indicates says }
known_indication llid body own other three says is = absurd cc

none_indicated : (X : Type 0) (own : Kind) → kind_indicated None ≡ Some own → X
none_indicated X own is = absurd cc

indication : (llid : ℕ) (body : List ℕ) (own : Kind) → kind_indicated (control_in llid body) ≡ Some own → IsIndication own llid body
indication llid body own is = by (llid == 3) refl is
  where
    by : (b : Bool) → (llid == 3) ≡ b → kind_indicated (if b then Some (ctrl_of body) else None) ≡ Some own → IsIndication own llid body
    by true three now = known_indication llid body own (ctrl_of body) (eqb-true llid 3 three) refl now
    by false three now = none_indicated _ own now

-- ---- a PDU that is taken opens a procedure of the peripheral only as its first PDU

first_down : (opcode : ℕ) → (phy_req_opcode == opcode) ≡ true → is_first_down opcode ≡ true
first_down opcode is = or_right _ _ (or_right _ (phy_req_opcode == opcode) is)

read_first : (kind : Exclusive) (read : CtrlRead) → is_opening_read kind read ≡ true → ((ctrl : Ctrl) → read ≡ Known ctrl → is_refusing ctrl ≡ false)
    → is_kind (kind_begun (Some read)) (kind_answered (kind_of kind)) ≡ true
read_first Update (Known (ConnectionParamReq min max latency timeout periodicity reference offsets)) is none = refl
read_first Phy (Known (PhyReq tx rx)) is none = refl
read_first Phy (Known (UnknownRsp opcode)) is none =
    absurd (let no : true ≡ false = sym (first_down opcode is) ∙ none (UnknownRsp opcode) refl in cc)
read_first Phy (Known (RejectInd code)) is none = absurd (let no : true ≡ false = none (RejectInd code) refl in cc)
read_first Phy (Known (RejectExtInd opcode code)) is none =
    absurd (let no : true ≡ false = ap (λ (n : ℕ). not (enc_req_opcode == n)) (eqb-true phy_req_opcode opcode is) ∙ none (RejectExtInd opcode code) refl in cc)
read_first kind read is none = absurd cc

taken_first : (kind : Exclusive) (llid : ℕ) (body : List ℕ) → ((llid == 3) && is_opening_read kind (ctrl_of body)) ≡ true
    → ((ctrl : Ctrl) → llid ≡ 3 → ctrl_of body ≡ Known ctrl → is_refusing ctrl ≡ false)
    → is_kind (kind_begun (control_in llid body)) (kind_answered (kind_of kind)) ≡ true
taken_first kind llid body opens none =
    let parts = and_parts (llid == 3) (is_opening_read kind (ctrl_of body)) opens in
    ap (λ (b : Bool). is_kind (kind_begun (if b then Some (ctrl_of body) else None)) (kind_answered (kind_of kind))) parts.0
    ∙ read_first kind (ctrl_of body) parts.1 (λ ctrl is. none ctrl (eqb-true llid 3 parts.0) is)

-- ---- lists of lines

any_none : (test : Entry → Bool) (lines : List Entry) (found : Bool) → fold (λ so_far line. so_far || test line) found lines ≡ false
    → (found ≡ false) × (list_any test lines ≡ false)
any_none test [] found is = (is, refl)
any_none test (line ∷ lines) found is =
    let rest = any_none test lines (found || test line) is in
    let parts = or_parts found (test line) rest.0 in
    (parts.0, λ i. parts.1 i || rest.1 i)

record IsNamed (side other : Side) (number link : ℕ) : Type 0 where
  side_is : other ≡ side
  link_is : link ≡ number

own_or_not : (side other : Side) (number link : ℕ) (line : Entry) → IsNamed side other number link ⊎ (where_named side number (Some (other, link)) line ≡ [])
own_or_not side other number link line = by side other (link == number) refl
  where
    by : (here there : Side) (same : Bool) → (link == number) ≡ same
        → IsNamed here there number link ⊎ (of_side here there (if same then line ∷ [] else []) ≡ [])
    by A A true is = inl (record { side_is = refl; link_is = eqb-true link number is })
    by B B true is = inl (record { side_is = refl; link_is = eqb-true link number is })
    by A A false is = inr refl
    by B B false is = inr refl
    by A B same is = inr refl
    by B A same is = inr refl

module _ (whole_heard : IsHeardWhole) (understood : IsUnderstood) (taken : AreTaken) (nth : AreNth) (apart : AreApart) (given : Given)
    (are_pair : IsOfTwo given) (six : HaveAddresses given) (mixed : Mixed) (follows : Follows given mixed) (unrefused : AreUnrefusedInRuns) (link : LinkBegun) (number : ℕ) (kind : Exclusive) where
  abbrev journal : List Entry
  journal = journal_of (history_of (run_of given))

  abbrev first_test : Entry → Bool
  first_test = takes_first (kind_answered (kind_of kind))

  abbrev ours : List Entry → List Entry
  ours lines = lines_of link.central number lines

  own_none : (done rest : List Entry) (count llid : ℕ) (body : List ℕ) → journal ≡ done ++ Took link.central number count llid body ∷ rest
      → mixed number done ≡ false → link_numbered number done ≡ Some link → is_kind (kind_begun (control_in llid body)) (kind_answered (kind_of kind)) ≡ false → (opens : Bool)
      → ((llid == 3) && is_opening_read kind (ctrl_of body)) ≡ opens → opens ≡ false
  own_none done rest count llid body is unmixed is_link none true opens =
      absurd (let no : true ≡ false = sym (taken_first kind llid body opens (λ ctrl three says. line_unrefused whole_heard understood taken nth apart given are_pair
      six mixed follows unrefused done rest link number count llid body ctrl is unmixed is_link three says)) ∙ none in cc)
  own_none done rest count llid body is unmixed is_link none false opens = refl

  -- a line of the central on the link
  other_none : (line : Entry) → is_opening_line kind line ≡ false
      → list_any (is_opening_line kind) (where_named link.central number (link_named line) line) ≡ false
  other_none line is = by link.central (link_named line)
    where
      one : (same : Bool) → list_any (is_opening_line kind) (if same then line ∷ [] else []) ≡ false
      one true = λ i. is i || false
      one false = refl

      by : (side : Side) (may : Option (Side × ℕ)) → list_any (is_opening_line kind) (where_named side number may line) ≡ false
      by side None = refl
      by A (Some (A, other)) = one (other == number)
      by B (Some (B, other)) = one (other == number)
      by A (Some (B, other)) = refl
      by B (Some (A, other)) = refl

  took_none : (done rest : List Entry) (side : Side) (other count llid : ℕ) (body : List ℕ) → journal ≡ done ++ Took side other count llid body ∷ rest
      → mixed number done ≡ false → link_numbered number done ≡ Some link
      → list_any first_test (where_named link.central number (Some (side, other)) (Took side other count llid body)) ≡ false
      → IsNamed link.central side number other ⊎ (where_named link.central number (Some (side, other)) (Took side other count llid body) ≡ [])
      → list_any (is_opening_line kind) (where_named link.central number (Some (side, other)) (Took side other count llid body)) ≡ false
  took_none done rest side other count llid body is unmixed is_link none (inr nothing) = ap (list_any (is_opening_line kind)) nothing
  took_none done rest side other count llid body is unmixed is_link none (inl named) =
      let line = Took side other count llid body in
      let here : where_named link.central number (Some (side, other)) line ≡ line ∷ [] =
      (λ i. where_named link.central number (Some (named.side_is i, named.link_is i)) line)
      ∙ sym (append-nil (where_named link.central number (Some (link.central, number)) line))
      ∙ named_here link.central number number line (eq-eqb number number refl) in
      let not_first = (or_parts (first_test line) false (sym (ap (list_any first_test) here) ∙ none)).0 in
      let opens = own_none done rest count llid body (is ∙ (λ i. done ++ Took (named.side_is i) (named.link_is i) count llid body ∷ rest)) unmixed is_link not_first
      ((llid == 3) && is_opening_read kind (ctrl_of body)) refl in
      ap (list_any (is_opening_line kind)) here ∙ (λ i. opens i || false)

  line_none : (done rest : List Entry) (line : Entry) → journal ≡ done ++ line ∷ rest → mixed number done ≡ false → link_numbered number done ≡ Some link
      → list_any first_test (where_named link.central number (link_named line) line) ≡ false
      → list_any (is_opening_line kind) (where_named link.central number (link_named line) line) ≡ false
  line_none done rest (Took side other count llid body) is unmixed is_link none =
      took_none done rest side other count llid body is unmixed is_link none (own_or_not link.central side number other (Took side other count llid body))
  line_none done rest line is unmixed is_link none = other_none line refl

  pub lines_none : (done more tail : List Entry) → journal ≡ (done ++ more) ++ tail → mixed number (done ++ more) ≡ false
      → link_numbered number done ≡ Some link
      → list_any first_test (ours more) ≡ false → list_any (is_opening_line kind) (ours more) ≡ false
  lines_none done [] tail is unmixed is_link none = refl
  lines_none done (line ∷ more) tail is unmixed is_link none =
      let here = where_named link.central number (link_named line) line in
      let parts = or_parts (list_any first_test here) (list_any first_test (ours more)) (sym (list_any-append first_test here (ours more)) ∙ none) in
      let first = line_none done (more ++ tail) line (is ∙ append_assoc done (line ∷ more) tail)
      (follows.front number done (line ∷ more) unmixed) is_link parts.0 in
      let rest = lines_none (done ++ line ∷ []) more tail (is ∙ ap (λ xs. xs ++ tail) (sym (append_assoc done (line ∷ []) more)))
      (ap (mixed number) (append_assoc done (line ∷ []) more) ∙ unmixed) (number_stays number done (line ∷ []) link is_link) parts.1 in
      list_any-append (is_opening_line kind) here (ours more) ∙ (λ i. first i || rest i)

-- ---- so the indication is of the own procedure

module _ (whole_heard : IsHeardWhole) (understood : IsUnderstood) (taken : AreTaken) (nth : AreNth) (apart : AreApart) (given : Given)
    (are_pair : IsOfTwo given) (six : HaveAddresses given) (mixed : Mixed) (follows : Follows given mixed) (prevail : PrevailInRuns) (unrefused : AreUnrefusedInRuns) where
  pub all_indicated : NoneIsIndicated mixed (journal_of (history_of (run_of given)))
  all_indicated front between rest link number count llid body next_count next_llid next p q own is unmixed_there collides indicates_own =
      by (indication next_llid next own indicates_own) (any_line (takes_first (kind_answered own)) (lines_of link.central number between)) refl
    where
      own_now : (got : IsIndication own next_llid next) → list_any (takes_first (kind_answered own)) (lines_of link.central number between) ≡ false
          → runs_on own link.central number (front ++ Took link.central number count llid body ∷ between) ≡ true
      own_now got none =
          let took_now = Took link.central number count llid body in
          let sent_now = Sent link.central number next_count next_llid next in
          let call = line_in_call given front (between ++ sent_now ∷ rest) took_now (took_line link.central number count llid body) refl
          (is ∙ append_assoc front (took_now ∷ between) (sent_now ∷ rest)) in
          let next_call = line_in_call given (front ++ took_now ∷ between) rest sent_now (sent_line link.central number next_count next_llid next) refl is in
          let heard = reception_of (setup_at given call.station) (past_of call.station call.base) call.earlier call.later call.handle count llid
          (record { items = body }) call.step call.notes_are in
          let at : history_of (run_of given) ≡ call.base ++ Called call.station (PacketHeard heard.octets) ∷ call.after =
          call.called ∙ ap (λ s. call.base ++ Called call.station s ∷ call.after) heard.step_is in
          let far = far_before whole_heard understood taken nth apart given are_pair six call.base call.after call.station heard.octets at call.handle heard.link
          heard.is_open heard.listens heard.unforged in
          let unmixed = follows.front number front (took_now ∷ between) unmixed_there in
          let unopened = lines_none whole_heard understood taken nth apart given are_pair six mixed follows unrefused link number got.kind (front ++ took_now ∷ []) between
          (sent_now ∷ rest) (is ∙ ap (λ xs. xs ++ sent_now ∷ rest) (sym (append_assoc front (took_now ∷ []) between)))
          (ap (mixed number) (append_assoc front (took_now ∷ []) between) ∙ unmixed_there)
          (number_stays number front (took_now ∷ []) link collides.is_link)
          (ap (λ (k : Kind). list_any (takes_first (kind_answered k)) (lines_of link.central number between)) got.kind_is ∙ none) in
          ap (λ (k : Kind). runs_on k link.central number (front ++ took_now ∷ between)) (sym got.kind_is)
          ∙ owned whole_heard understood taken nth apart given are_pair six mixed follows prevail front between link number count llid body call heard far unmixed p q collides
          next_count next_llid next next_call got.kind unopened got.three got.is

      by : IsIndication own next_llid next → (found : Bool) → any_line (takes_first (kind_answered own)) (lines_of link.central number between) ≡ found
          → (runs_on own link.central number (front ++ Took link.central number count llid body ∷ between) ≡ true)
          ⊎ (any_line (takes_first (kind_answered own)) (lines_of link.central number between) ≡ true)
      by got true found = inr found
      by got false found =
          inl (own_now got (any_none (takes_first (kind_answered own)) (lines_of link.central number between) false found).1)
